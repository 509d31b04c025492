-- What both ends of a connection have read once an event brought bytes there, or none.
use Rattle.std.proofs.Common.{◌≡◌, ◌∙◌, ℕ, Bool, true, false, List, ◌++◌, length, ap, refl, subst, sym, Option, append-nil}
use Rattle.std.specs.Prelude.{Err, IfOk, Ok, OnOk, Result}
use Rattle.tds_packet.specs.declared.kind.Direction.{Direction}
use Rattle.tds_packet.specs.declared.kind.Direction.TheVariants.{ToServer, ToClient}
use Rattle.tds_packet.specs.Reading.{Reading}
use Rattle.tds_ends.specs.AllBytes.{AreToldBy, ClientHasRead, HasNoFault, ServerHasRead, new_reader}
use Rattle.tds_world.specs.declared.event.Event.{Event}
use Rattle.tds_world.specs.declared.event.Event.TheVariants as event
use Rattle.tds_world.specs.declared.outcome.Outcome.{Outcome}
use Rattle.tds_world.specs.declared.outcome.Outcome.TheVariants as outcome
use Rattle.tds_world.specs.Connection.{Connection}
use Rattle.tds_play.specs.declared.feeding.Fault.{Fault}
use Rattle.tds_play.specs.declared.link.EventDone.{EventDone}
use Rattle.tds_play.specs.declared.link.Link.{Link}
use Rattle.tds_play.specs.AnyBytes.{FaultsBy}
use Rattle.tds_play.specs.Pipe.{Pipe, traffic}
use Rattle.tds_play.specs.Plays.{on_cut}
use Rattle.tds_play.specs.Plays as plays
use Rattle.tds_play.specs.Reads.{BringsAny, BringsBy, IsReading, ReadsNoMore, ReadsOn, delivers, given_by}
use Rattle.tds_play.specs.Seen as seen
use Rattle.tds_play.proofs.any_bytes.Stays.{reading_stays}

-- What a call answered of a value that it handed on.
pub fed_so : {A E : Type 0} (r : Result A E) (x y : A) (P : A → Type 0) → r ≡ Ok x → x ≡ y → IfOk r P → P y
fed_so {A} {E} r x y P was is h = subst P is (subst (λ (q : Result A E). IfOk q P) was h)

by_way : (P : Direction → Type 0) → P ToServer → P ToClient → (d : Direction) → P d
by_way P up down ToServer = up
by_way P up down ToClient = down

-- ---- An event that brings nothing

no_bytes : (b : Bool) (r : Reading) (o : Outcome) (before after : List ℕ) → b ≡ false → after ≡ before → BringsBy b r o before after
no_bytes b r o before after is same = subst (λ (x : Bool). BringsBy x r o before after) (sym is) same

pub still_on : {E S : Type 0} (size : ℕ) (e : Event) (o : Outcome) (link new : Link E S) (columns then : Option ℕ) (before after : Option Pipe) → ((d : Direction) → delivers e d ≡ false) → IsReading size link columns before → ReadsNoMore link new before after → then ≡ columns → ReadsOn size e o new then before after
still_on size e o link new columns then before after none reads still same = record {
  reading = reading_stays size link new columns then before after reads still same;
  brings = λ d. no_bytes (delivers e d) (new_reader d size) o (traffic before d).came (traffic after d).came (none d) (still.came d);
}

-- So it is of a call that answered, for an event of this kind.
pub still_ok : {E S B : Type 0} (size : ℕ) (e kind : Event) (r : Result EventDone B) (link new : Link E S) (columns then : Option ℕ) (before after : Option Pipe) → e ≡ kind → ((d : Direction) → delivers kind d ≡ false) → IsReading size link columns before → OnOk r (ReadsNoMore link new before after) → then ≡ columns → IfOk r (λ done. ReadsOn size e done.outcome new then before after)
still_ok size e kind (Ok done) link new columns then before after is none reads still same =
    still_on size e done.outcome link new columns then before after (λ d. ap (λ (x : Event). delivers x d) is ∙ none d) reads still same
still_ok size e kind (Err why) link new columns then before after is none reads still same = tt

-- Where the connection is cut.
refused_there : (e : Event) (c : Connection) (size : ℕ) (d : Direction) (came : List ℕ) → BringsBy (delivers e d) (new_reader d size) (plays.outcome_of (on_cut e c)) came came
refused_there (event.ToServer n count) c size ToServer came = refl
refused_there (event.ToServer n count) c size ToClient came = refl
refused_there (event.ToClient n count) c size ToServer came = refl
refused_there (event.ToClient n count) c size ToClient came = refl
refused_there e c size d came = refl

pub gone_on : {E S : Type 0} (size : ℕ) (e : Event) (o : Outcome) (c : Connection) (link : Link E S) (columns : Option ℕ) (pipe : Option Pipe) → o ≡ plays.outcome_of (on_cut e c) → IsReading size link columns pipe → ReadsOn size e o link columns pipe pipe
gone_on size e o c link columns pipe is reads = record {
  reading = reads;
  brings = λ d. subst (λ (x : Outcome). BringsBy (delivers e d) (new_reader d size) x (traffic pipe d).came (traffic pipe d).came) (sym is) (refused_there e c size d (traffic pipe d).came);
}

-- ---- Bytes for the server

pub served_reads : {E S : Type 0} (size n most count : ℕ) (link served new : Link E S) (known : Option ℕ) (old mid last : Option Pipe) (before after piece : List ℕ) (o : Outcome)
    → IsReading size link known old → link.is_cut ≡ false → (b : BringsAny ToServer count before after old mid) → piece ≡ b.bytes
    → served.client_reader ≡ link.client_reader → given_by served ≡ given_by link
    → ServerHasRead (new_reader ToServer size) served.server_reader ((traffic old ToServer).came ++ piece)
    → HasNoFault (new_reader ToServer size) ((traffic old ToServer).came ++ piece)
    → ReadsNoMore served new mid last → o ≡ outcome.ToServer count → ReadsOn size (event.ToServer n most) o new known old last
served_reads size n most count link served new known old mid last before after piece o reads live b is reader given read lawful still answer =
    let up : (traffic mid ToServer).came ≡ (traffic old ToServer).came ++ piece =
    b.came ToServer ∙ ap (λ (xs : List ℕ). (traffic old ToServer).came ++ xs) (sym is) in
    let down : (traffic mid ToClient).came ≡ (traffic old ToClient).came = b.came ToClient ∙ append-nil (traffic old ToClient).came in
    let here : IsReading size served known mid = record {
      server = λ l. subst (ServerHasRead (new_reader ToServer size) served.server_reader) (sym up) read;
      client = λ l.
          subst (λ (bytes : List ℕ). ClientHasRead (new_reader ToClient size) served.client_reader known bytes (given_by served)) (sym down)
          (subst (λ (r : Reading). ClientHasRead (new_reader ToClient size) r known (traffic old ToClient).came (given_by served)) (sym reader)
          (subst (ClientHasRead (new_reader ToClient size) link.client_reader known (traffic old ToClient).came) (sym given) (reads.client live)));
      told =
          subst (λ (bytes : List ℕ). AreToldBy (new_reader ToClient size) bytes (given_by served)) (sym down)
          (subst (AreToldBy (new_reader ToClient size) (traffic old ToClient).came) (sym given) reads.told);
    } in
    let all : (traffic last ToServer).came ≡ (traffic old ToServer).came ++ piece = still.came ToServer ∙ up in
    record {
      reading = reading_stays size served new known known mid last here still refl;
      brings = by_way (λ d. BringsBy (delivers (event.ToServer n most) d) (new_reader d size) o (traffic old d).came (traffic last d).came)
          (subst (λ (x : Outcome). BringsBy true (new_reader ToServer size) x (traffic old ToServer).came (traffic last ToServer).came) (sym answer)
          (piece, all, ap length is ∙ b.counted, subst (HasNoFault (new_reader ToServer size)) (sym all) lawful))
          (still.came ToClient ∙ down);
    }

pub faulty_served : {E S : Type 0} (size n most count : ℕ) (link served new : Link E S) (known : Option ℕ) (old mid last : Option Pipe) (before after piece : List ℕ) (o : Outcome) (f : Fault)
    → IsReading size link known old → (b : BringsAny ToServer count before after old mid) → piece ≡ b.bytes
    → given_by served ≡ given_by link → FaultsBy (new_reader ToServer size) ((traffic old ToServer).came ++ piece) f.end f.layer f.number
    → ReadsNoMore served new mid last → new.is_cut ≡ true → o ≡ seen.outcome_of f → ReadsOn size (event.ToServer n most) o new known old last
faulty_served size n most count link served new known old mid last before after piece o f reads b is given fault still gone answer =
    let up : (traffic mid ToServer).came ≡ (traffic old ToServer).came ++ piece =
    b.came ToServer ∙ ap (λ (xs : List ℕ). (traffic old ToServer).came ++ xs) (sym is) in
    let down : (traffic last ToClient).came ≡ (traffic old ToClient).came = still.came ToClient ∙ b.came ToClient ∙ append-nil (traffic old ToClient).came in
    let all : (traffic last ToServer).came ≡ (traffic old ToServer).came ++ piece = still.came ToServer ∙ up in
    record {
      reading = record {
        server = λ l. absurd (cc);
        client = λ l. absurd (cc);
        told =
            subst (λ (bytes : List ℕ). AreToldBy (new_reader ToClient size) bytes (given_by new)) (sym down)
            (subst (AreToldBy (new_reader ToClient size) (traffic old ToClient).came) (sym (still.given ∙ given)) reads.told);
      };
      brings = by_way (λ d. BringsBy (delivers (event.ToServer n most) d) (new_reader d size) o (traffic old d).came (traffic last d).came)
          (subst (λ (x : Outcome). BringsBy true (new_reader ToServer size) x (traffic old ToServer).came (traffic last ToServer).came) (sym answer)
          (piece, all, subst (λ (bytes : List ℕ). FaultsBy (new_reader ToServer size) bytes f.end f.layer f.number) (sym all) fault))
          down;
    }

-- ---- Bytes for the client

pub heard_reads : {E S : Type 0} (size n most count : ℕ) (link heard new : Link E S) (known heard_columns then : Option ℕ) (old mid last : Option Pipe) (before after piece : List ℕ) (o : Outcome)
    → IsReading size link known old → link.is_cut ≡ false → (b : BringsAny ToClient count before after old mid) → piece ≡ b.bytes
    → heard.server_reader ≡ link.server_reader
    → ClientHasRead (new_reader ToClient size) heard.client_reader heard_columns ((traffic old ToClient).came ++ piece) (given_by heard)
    → AreToldBy (new_reader ToClient size) ((traffic old ToClient).came ++ piece) (given_by heard)
    → HasNoFault (new_reader ToClient size) ((traffic old ToClient).came ++ piece)
    → ReadsNoMore heard new mid last → then ≡ heard_columns → o ≡ outcome.ToClient count → ReadsOn size (event.ToClient n most) o new then old last
heard_reads size n most count link heard new known heard_columns then old mid last before after piece o reads live b is reader read told lawful still same answer =
    let down : (traffic mid ToClient).came ≡ (traffic old ToClient).came ++ piece =
    b.came ToClient ∙ ap (λ (xs : List ℕ). (traffic old ToClient).came ++ xs) (sym is) in
    let up : (traffic mid ToServer).came ≡ (traffic old ToServer).came = b.came ToServer ∙ append-nil (traffic old ToServer).came in
    let here : IsReading size heard heard_columns mid = record {
      server = λ l.
          subst (ServerHasRead (new_reader ToServer size) heard.server_reader) (sym up)
          (subst (λ (r : Reading). ServerHasRead (new_reader ToServer size) r (traffic old ToServer).came) (sym reader) (reads.server live));
      client = λ l. subst (λ (bytes : List ℕ). ClientHasRead (new_reader ToClient size) heard.client_reader heard_columns bytes (given_by heard)) (sym down) read;
      told = subst (λ (bytes : List ℕ). AreToldBy (new_reader ToClient size) bytes (given_by heard)) (sym down) told;
    } in
    let all : (traffic last ToClient).came ≡ (traffic old ToClient).came ++ piece = still.came ToClient ∙ down in
    record {
      reading = reading_stays size heard new heard_columns then mid last here still same;
      brings = by_way (λ d. BringsBy (delivers (event.ToClient n most) d) (new_reader d size) o (traffic old d).came (traffic last d).came)
          (still.came ToServer ∙ up)
          (subst (λ (x : Outcome). BringsBy true (new_reader ToClient size) x (traffic old ToClient).came (traffic last ToClient).came) (sym answer)
          (piece, all, ap length is ∙ b.counted, subst (HasNoFault (new_reader ToClient size)) (sym all) lawful));
    }

pub faulty_heard : {E S : Type 0} (size n most count : ℕ) (link heard new : Link E S) (known then : Option ℕ) (old mid last : Option Pipe) (before after piece : List ℕ) (o : Outcome) (f : Fault)
    → IsReading size link known old → (b : BringsAny ToClient count before after old mid) → piece ≡ b.bytes
    → FaultsBy (new_reader ToClient size) ((traffic old ToClient).came ++ piece) f.end f.layer f.number
    → AreToldBy (new_reader ToClient size) ((traffic old ToClient).came ++ piece) (given_by heard)
    → ReadsNoMore heard new mid last → new.is_cut ≡ true → o ≡ seen.outcome_of f → ReadsOn size (event.ToClient n most) o new then old last
faulty_heard size n most count link heard new known then old mid last before after piece o f reads b is fault told still gone answer =
    let down : (traffic last ToClient).came ≡ (traffic old ToClient).came ++ piece =
    still.came ToClient ∙ b.came ToClient ∙ ap (λ (xs : List ℕ). (traffic old ToClient).came ++ xs) (sym is) in
    let up : (traffic last ToServer).came ≡ (traffic old ToServer).came = still.came ToServer ∙ b.came ToServer ∙ append-nil (traffic old ToServer).came in
    record {
      reading = record {
        server = λ l. absurd (cc);
        client = λ l. absurd (cc);
        told =
            subst (λ (bytes : List ℕ). AreToldBy (new_reader ToClient size) bytes (given_by new)) (sym down)
            (subst (AreToldBy (new_reader ToClient size) ((traffic old ToClient).came ++ piece)) (sym still.given) told);
      };
      brings = by_way (λ d. BringsBy (delivers (event.ToClient n most) d) (new_reader d size) o (traffic old d).came (traffic last d).came)
          up
          (subst (λ (x : Outcome). BringsBy true (new_reader ToClient size) x (traffic old ToClient).came (traffic last ToClient).came) (sym answer)
          (piece, down, subst (λ (bytes : List ℕ). FaultsBy (new_reader ToClient size) bytes f.end f.layer f.number) (sym down) fault));
    }
