-- A connection on which nothing came and nothing was read.
use Rattle.std.proofs.Common.{◌≡◌, ◌∙◌, ℕ, Bool, true, false, List, [], ◌∷◌, ◌++◌, length, ap, refl, subst, sym, arith, Option, Some, None, append_assoc, append-nil, option_map, length-append, ◌+◌, ◌-◌, ◌==◌, cond}
use Rattle.std.specs.Prelude.{flat_map}
use Rattle.std.specs.Prelude.{Err, IfOk, Ok, OnErr, Result, nat_le}
use Rattle.tds_client.specs.declared.fault.ClientRefusal.{ClientRefusal}
use Rattle.tds_client.specs.declared.state.Cancelled.{Cancelled}
use Rattle.tds_client.specs.declared.state.Cancelled.TheVariants as client
use Rattle.tds_client.specs.declared.state.Sent.{Sent}
use Rattle.tds_client.specs.Sending.{Does, Effect, cancelled, cancelled_in, cancelled_sending, room, sent, sent_in, sent_of}
use Rattle.tds_client.specs.Session.{ClientSession, Stage, Idle, Sending, Reading, Cancelling, Broken}
use Rattle.tds_packet.specs.declared.kind.Kind.{Kind}
use Rattle.tds_world.specs.declared.report.RequestStatus.{RequestStatus}
use Rattle.tds_world.specs.declared.report.RequestStatus.TheVariants as status
use Rattle.tds_server.specs.State.{ServerState}
use Rattle.tds_server.specs.declared.outcome.Worked.{Worked}
use Rattle.tds_server.specs.declared.outcome.Worked.TheVariants as server
use Rattle.tds_session.specs.Session.{SessionState}
use Rattle.tds_play.specs.Acts.{cancelled_as, current_behind, with_status}
use Rattle.tds_packet.specs.declared.kind.Direction.{Direction}
use Rattle.tds_packet.specs.declared.kind.Direction.TheVariants.{ToServer, ToClient}
use Rattle.tds_packet.specs.Reading as reader
use Rattle.tds_token.specs.declared.token.Token.{Token}
use Rattle.tds_ends.specs.AllBytes.{AreToldBy, AreWhole, ClientHasRead, HasRead, ServerHasRead, new_reader}
use Rattle.tds_play.specs.Links.{IsNewLink, behind, cut_of, lost_record, recounted, stepped}
use Rattle.tds_play.specs.Listening.{told_in}
use Rattle.tds_play.specs.Ties.{counted, with_counted}
use Rattle.tds_play.specs.Pipe.{Brings, Pipe, IsOpen, carried_on, cut_pipe, new_pipe, sent_on, stuck_on, traffic}
use Rattle.tds_play.specs.Reads.{BringsAny, IsReading, ReadsNoMore, brought_to, given_by, tokens_of}
use Rattle.tds_session.specs.declared.attention.OnAttention.{OnAttention}
use Rattle.tds_play.specs.declared.link.Link.{Link}
use Rattle.tds_play.specs.declared.request.Record.{Record}

-- ---- What comes at the carrier

pub cut_came : (pipe : Option Pipe) (d : Direction) → (traffic (cut_pipe pipe) d).came ≡ (traffic pipe d).came
cut_came None d = refl
cut_came (Some p) ToServer = refl
cut_came (Some p) ToClient = refl

pub sent_came : (pipe : Option Pipe) (way : Direction) (bytes : List ℕ) (n : ℕ) (d : Direction) → (traffic (sent_on pipe way bytes n) d).came ≡ (traffic pipe d).came
sent_came None way bytes n d = refl
sent_came (Some p) ToServer bytes n ToServer = refl
sent_came (Some p) ToServer bytes n ToClient = refl
sent_came (Some p) ToClient bytes n ToServer = refl
sent_came (Some p) ToClient bytes n ToClient = refl

pub stuck_came : (pipe : Option Pipe) (way : Direction) (d : Direction) → (traffic (stuck_on pipe way) d).came ≡ (traffic pipe d).came
stuck_came None way d = refl
stuck_came (Some p) ToServer ToServer = refl
stuck_came (Some p) ToServer ToClient = refl
stuck_came (Some p) ToClient ToServer = refl
stuck_came (Some p) ToClient ToClient = refl

pub carried_came : (p : Pipe) (way : Direction) (bytes : List ℕ) (d : Direction) → (traffic (carried_on (Some p) way bytes) d).came ≡ (traffic (Some p) d).came ++ brought_to way d bytes
carried_came p ToServer bytes ToServer = refl
carried_came p ToServer bytes ToClient = sym (append-nil p.to_client.came)
carried_came p ToClient bytes ToServer = sym (append-nil p.to_server.came)
carried_came p ToClient bytes ToClient = refl

pub new_came : (failures : ℕ) (d : Direction) → (traffic (Some (new_pipe failures)) d).came ≡ []
new_came failures ToServer = refl
new_came failures ToClient = refl

none_brought : (way d : Direction) → brought_to way d [] ≡ []
none_brought ToServer ToServer = refl
none_brought ToServer ToClient = refl
none_brought ToClient ToServer = refl
none_brought ToClient ToClient = refl

brought_both : (way d : Direction) (one two : List ℕ) → brought_to way d (one ++ two) ≡ brought_to way d one ++ brought_to way d two
brought_both ToServer ToServer one two = refl
brought_both ToServer ToClient one two = refl
brought_both ToClient ToServer one two = refl
brought_both ToClient ToClient one two = refl

pub brings_nothing : (way : Direction) (out : List ℕ) (old new : Option Pipe) → ((d : Direction) → (traffic new d).came ≡ (traffic old d).came) → BringsAny way 0 out out old new
brings_nothing way out old new same = record {
  bytes = [];
  appended = sym (append-nil out);
  counted = refl;
  came = λ d. same d ∙ sym (append-nil (traffic old d).came) ∙ ap (λ (xs : List ℕ). (traffic old d).came ++ xs) (sym (none_brought way d));
}

-- Before a piece comes.
count_at_first : {E S : Type 0} (link : Link E S) (d : Direction) → link ≡ with_counted link d (counted link d - 0)
count_at_first {E} {S} link ToServer = let same : link.to_server ≡ link.to_server - 0 = omega arith in ap (λ (k : ℕ). record link { to_server = k }) same
count_at_first {E} {S} link ToClient = let same : link.to_client ≡ link.to_client - 0 = omega arith in ap (λ (k : ℕ). record link { to_client = k }) same

pub counted_at_first : {E S : Type 0} (link : Link E S) (d : Direction) (n : ℕ) → link ≡ with_counted link d (counted link d - (n - n))
counted_at_first link d n =
    let none : 0 ≡ n - n = omega arith in
    subst (λ (k : ℕ). link ≡ with_counted link d (counted link d - k)) none (count_at_first link d)

came_at_first : (pipe : Option Pipe) (d : Direction) → pipe ≡ carried_on pipe d []
came_at_first None d = refl
came_at_first (Some p) ToServer = ap (λ (bs : List ℕ). Some (record p { to_server = record p.to_server { came = bs } })) (sym (append-nil p.to_server.came))
came_at_first (Some p) ToClient = ap (λ (bs : List ℕ). Some (record p { to_client = record p.to_client { came = bs } })) (sym (append-nil p.to_client.came))

pub brought_at_first : (pipe : Option Pipe) (d : Direction) (n : ℕ) (out : List ℕ) → Brings pipe d (n - n) out out pipe false
brought_at_first pipe d n out =
    let none : 0 ≡ n - n = omega arith in
    subst (λ (k : ℕ). Brings pipe d k out out pipe false) none
    (record {
      bytes = sym (append-nil out);
      pipe = came_at_first pipe d;
    })

pub open_came : (pipe : Option Pipe) (way : Direction) (bytes : List ℕ) (d : Direction) → IsOpen pipe → (traffic (carried_on pipe way bytes) d).came ≡ (traffic pipe d).came ++ brought_to way d bytes
open_came None way bytes d uncut = absurd uncut
open_came (Some p) way bytes d uncut = carried_came p way bytes d

-- And then a call that fails.
pub brings_still : (way : Direction) (n : ℕ) (before mid after : List ℕ) (old pipe new : Option Pipe) → BringsAny way n before mid old pipe → after ≡ mid
    → ((d : Direction) → (traffic new d).came ≡ (traffic pipe d).came) → BringsAny way n before after old new
brings_still way n before mid after old pipe new b same came = record {
  bytes = b.bytes;
  appended = same ∙ b.appended;
  counted = b.counted;
  came = λ d. came d ∙ b.came d;
}

-- And then one piece more.
pub brings_more : (way : Direction) (n m : ℕ) (before mid after more : List ℕ) (old pipe new : Option Pipe) → BringsAny way n before mid old pipe → after ≡ mid ++ more → length more ≡ m
    → ((d : Direction) → (traffic new d).came ≡ (traffic pipe d).came ++ brought_to way d more) → BringsAny way (n + m) before after old new
brings_more way n m before mid after more old pipe new b added many came = record {
  bytes = b.bytes ++ more;
  appended = added ∙ ap (λ (xs : List ℕ). xs ++ more) b.appended ∙ append_assoc before b.bytes more;
  counted = length-append b.bytes more ∙ omega (arith, b.counted, many);
  came = λ d.
      came d ∙ ap (λ (xs : List ℕ). xs ++ brought_to way d more) (b.came d)
      ∙ append_assoc (traffic old d).came (brought_to way d b.bytes) (brought_to way d more)
      ∙ ap (λ (xs : List ℕ). (traffic old d).came ++ xs) (sym (brought_both way d b.bytes more));
}

-- ---- Connections

pub stays : {E S : Type 0} (link : Link E S) (pipe : Option Pipe) → ReadsNoMore link link pipe pipe
stays link pipe = record { came = λ d. refl; server_reader = refl; client_reader = refl; given = refl; live = λ l. l }

pub stays_twice : {E S : Type 0} (link mid new : Link E S) (before between after : Option Pipe) → ReadsNoMore link mid before between → ReadsNoMore mid new between after → ReadsNoMore link new before after
stays_twice link mid new before between after one two = record {
  came = λ d. two.came d ∙ one.came d;
  server_reader = two.server_reader ∙ one.server_reader;
  client_reader = two.client_reader ∙ one.client_reader;
  given = two.given ∙ one.given;
  live = λ l. one.live (two.live l);
}

-- The number of a connection stays too.
pub stays_numbered : {E S : Type 0} (number conn : ℕ) (link new : Link E S) (pipes pipes' : ℕ → Option Pipe) → number ≡ conn → ReadsNoMore link new (pipes number) (pipes' number) → ReadsNoMore link new (pipes conn) (pipes' conn)
stays_numbered number conn link new pipes pipes' is still = subst (λ (k : ℕ). ReadsNoMore link new (pipes k) (pipes' k)) is still

-- Bytes were handed over and the event ended, each under the number that the connection then had.
pub stays_handed : {E S : Type 0} (conn m k : ℕ) (link mid out new : Link E S) (old pipes last : ℕ → Option Pipe) → m ≡ conn → k ≡ m
    → ReadsNoMore link mid (old conn) (old conn) → ReadsNoMore mid out (old m) (pipes m) → ReadsNoMore out new (pipes k) (last k)
    → ReadsNoMore link new (old conn) (last conn)
stays_handed conn m k link mid out new old pipes last put handed begins hands ends =
    stays_twice link mid new (old conn) (old conn) (last conn) begins
    (stays_twice mid out new (old conn) (pipes conn) (last conn) (stays_numbered m conn mid out old pipes put hands) (stays_numbered k conn out new pipes last (handed ∙ put) ends))

lost_tokens : (r : Option Record) → told_in (option_map lost_record r) ≡ told_in r
lost_tokens None = refl
lost_tokens (Some r) = refl

pub cut_stays : {E S : Type 0} (link new : Link E S) (before after : Option Pipe) → new ≡ cut_of link → after ≡ cut_pipe before → ReadsNoMore link new before after
cut_stays {E} {S} link new before after is at = record {
  came = λ d. ap (λ (p : Option Pipe). (traffic p d).came) at ∙ cut_came before d;
  server_reader = ap (λ (l : Link E S). l.server_reader) is;
  client_reader = ap (λ (l : Link E S). l.client_reader) is;
  given = ap given_by is ∙ ap (λ (ts : List Token). flat_map tokens_of link.past.items ++ ts) (lost_tokens link.current);
  live = λ l. let gone = ap (λ (x : Link E S). x.is_cut) is in absurd (cc);
}

pub handed_stays : {E S : Type 0} (link new : Link E S) (before after : Option Pipe) (way : Direction) (bytes : List ℕ) (n : ℕ) → new ≡ recounted new.to_server new.to_client link → after ≡ sent_on before way bytes n → ReadsNoMore link new before after
handed_stays {E} {S} link new before after way bytes n is at = record {
  came = λ d. ap (λ (p : Option Pipe). (traffic p d).came) at ∙ sent_came before way bytes n d;
  server_reader = ap (λ (l : Link E S). l.server_reader) is;
  client_reader = ap (λ (l : Link E S). l.client_reader) is;
  given = ap given_by is;
  live = λ l. sym (ap (λ (x : Link E S). x.is_cut) is) ∙ l;
}

-- ---- Clients

either_way : {A : Type 0} (b : Bool) (x y : Effect A) (o : Option ℕ) → x.session.columns ≡ o → y.session.columns ≡ o → (cond b x y).session.columns ≡ o
either_way true x y o first second = first
either_way false x y o first second = second

sent_of_columns : (s : ClientSession) (kind : Kind) (left : List ℕ) (packets : ℕ) → (sent_of s kind left packets).session.columns ≡ s.columns
unfolding sent_of
sent_of_columns s kind left packets = either_way (nat_le (length left) (room s)) _ _ s.columns refl refl

cancelled_columns : (s : ClientSession) (kind : Kind) (packets : ℕ) → (cancelled_sending s kind packets).session.columns ≡ s.columns
unfolding cancelled_sending
cancelled_columns s kind packets = either_way (packets == 0) _ _ s.columns refl refl

by_effect : {A : Type 0} (found : Result (Effect A) ClientRefusal) (one e : Effect A) (o : Option ℕ) → one.session.columns ≡ o → found ≡ Ok one → found ≡ Ok e → e.session.columns ≡ o
by_effect found one e o first at is = let same : one ≡ e = cc (at, is) in ap (λ x. x.session.columns) (sym same) ∙ first

sent_in_columns : (s : ClientSession) (stage : Stage) (e : Effect Sent) → sent_in s stage ≡ Ok e → e.session.columns ≡ s.columns
sent_in_columns s (Sending kind left packets) e is = by_effect (sent_in s (Sending kind left packets)) (sent_of s kind left packets) e s.columns (sent_of_columns s kind left packets) refl is
sent_in_columns s stage e is = absurd (cc)

cancelled_in_columns : (s : ClientSession) (stage : Stage) (e : Effect Cancelled) → cancelled_in s stage ≡ Ok e → e.session.columns ≡ s.columns
cancelled_in_columns s Idle e is = by_effect (cancelled_in s Idle) _ e s.columns refl refl is
cancelled_in_columns s (Sending kind left packets) e is = by_effect (cancelled_in s (Sending kind left packets)) (cancelled_sending s kind packets) e s.columns (cancelled_columns s kind packets) refl is
cancelled_in_columns s Reading e is = by_effect (cancelled_in s Reading) _ e s.columns refl refl is
cancelled_in_columns s Cancelling e is = by_effect (cancelled_in s Cancelling) _ e s.columns refl refl is
cancelled_in_columns s (Broken fault) e is = absurd (cc)

-- Neither sending nor cancelling changes the columns that a client knows.
pub sending_columns : (s new : ClientSession) (answer : Sent) (before after : List ℕ) → Does (sent s) answer new before after → new.columns ≡ s.columns
sending_columns s new answer before after does = sent_in_columns s s.stage (record { answer = answer; session = new; bytes = does.0 }) does.1

pub cancelling_columns : (s new : ClientSession) (result : Result Cancelled ClientRefusal) (before after : List ℕ) → IfOk result (λ answer. Does (cancelled s) answer new before after) → OnErr result (new ≡ s) → new.columns ≡ s.columns
cancelling_columns s new (Ok answer) before after does same = cancelled_in_columns s s.stage (record { answer = answer; session = new; bytes = does.0 }) does.1
cancelling_columns s new (Err refusal) before after does same = ap (λ (x : ClientSession). x.columns) same

-- The newest request has another status, or ran.
alike_stays : {E S : Type 0} (link : Link E S) (s : ServerState E) (q : Option Record) (pipe : Option Pipe) → told_in q ≡ told_in link.current → ReadsNoMore link (record link { server = s; current = q }) pipe pipe
alike_stays link s q pipe same = record {
  came = λ d. refl;
  server_reader = refl;
  client_reader = refl;
  given = ap (λ (ts : List Token). flat_map tokens_of link.past.items ++ ts) same;
  live = λ l. l;
}

status_told : (status : RequestStatus) (r : Option Record) → told_in (option_map (with_status status) r) ≡ told_in r
status_told status None = refl
status_told status (Some r) = refl

stepped_told : (before after : SessionState) (r : Option Record) → told_in (option_map (stepped before after) r) ≡ told_in r
stepped_told before after None = refl
stepped_told before after (Some r) = refl

behind_told : (a : Worked) (before after : SessionState) (r : Option Record) → told_in (current_behind a before after r) ≡ told_in r
behind_told server.Idle before after r = refl
behind_told server.Step before after r = stepped_told before after r
behind_told server.Finished before after r = stepped_told before after r

cancels_still : {E S : Type 0} (a : Cancelled) (link : Link E S) (pipe : Option Pipe) → ReadsNoMore link (cancelled_as a link) pipe pipe
cancels_still client.Nothing link pipe = stays link pipe
cancels_still client.Already link pipe = stays link pipe
cancels_still client.Unsent link pipe = alike_stays link link.server _ pipe (status_told status.Unsent link.current)
cancels_still client.Asked link pipe = alike_stays link link.server _ pipe (status_told status.Cancelling link.current)

pub cancelled_stays : {E S : Type 0} (a : Cancelled) (link new : Link E S) (pipe : Option Pipe) → new ≡ cancelled_as a link → ReadsNoMore link new pipe pipe
cancelled_stays {E} {S} a link new pipe is = subst (λ (l : Link E S). ReadsNoMore link l pipe pipe) (sym is) (cancels_still a link pipe)

pub worked_stays : {E S : Type 0} (a : Worked) (before after : SessionState) (link new : Link E S) (s : ServerState E) (pipe : Option Pipe) → new ≡ record link { server = s; current = current_behind a before after link.current } → ReadsNoMore link new pipe pipe
worked_stays {E} {S} a before after link new s pipe is = subst (λ (l : Link E S). ReadsNoMore link l pipe pipe) (sym is) (alike_stays link s _ pipe (behind_told a before after link.current))

-- ---- The requests before the newest one

tokens_and : (xs ys : List Record) → flat_map tokens_of (xs ++ ys) ≡ flat_map tokens_of xs ++ flat_map tokens_of ys
tokens_and [] ys = refl
tokens_and (x ∷ xs) ys = ap (λ (ts : List Token). tokens_of x ++ ts) (tokens_and xs ys) ∙ sym (append_assoc (tokens_of x) (flat_map tokens_of xs) (flat_map tokens_of ys))

pub given_behind : (past : List Record) (current : Option Record) → flat_map tokens_of (behind past current) ≡ flat_map tokens_of past ++ told_in current
given_behind past None = sym (append-nil (flat_map tokens_of past))
given_behind past (Some r) = tokens_and past (r ∷ []) ∙ ap (λ (ts : List Token). flat_map tokens_of past ++ ts) (append-nil r.tokens.items)

-- ---- A new connection

pub new_reads : {E S : Type 0} (size number : ℕ) (engine : E) (on_attention : OnAttention) (link : Link E S) (pipe : Option Pipe)
    → ((d : Direction) → HasRead (new_reader d size) (new_reader d size) [] []) → IsNewLink number size engine on_attention link
    → ((d : Direction) → (traffic pipe d).came ≡ []) → IsReading size link None pipe
new_reads size number engine on_attention link pipe nothing new none =
    let given : given_by link ≡ [] = ap (λ (rs : List Record). flat_map tokens_of rs ++ told_in link.current) new.past ∙ ap told_in new.current in
    let whole : AreWhole (new_reader ToClient size) (traffic pipe ToClient).came [] [] = subst (λ (bytes : List ℕ). AreWhole (new_reader ToClient size) bytes [] []) (sym (none ToClient)) (nothing ToClient).whole in
    record {
      server = λ live.
          subst (ServerHasRead (new_reader ToServer size) link.server_reader) (sym (none ToServer))
          (subst (λ (r : reader.Reading). ServerHasRead (new_reader ToServer size) r []) (sym new.server_reader) ([], nothing ToServer));
      client = λ live. record {
        packets = [];
        read =
            subst (λ (bytes : List ℕ). HasRead (new_reader ToClient size) link.client_reader bytes []) (sym (none ToClient))
            (subst (λ (r : reader.Reading). HasRead (new_reader ToClient size) r [] []) (sym new.client_reader) (nothing ToClient));
        columns_are = refl;
        some = given;
      };
      told = record { packets = []; rest = []; whole = whole; some = given };
    }

-- ---- What was read stays

pub reading_stays : {E S : Type 0} (size : ℕ) (link new : Link E S) (columns then : Option ℕ) (before after : Option Pipe) → IsReading size link columns before → ReadsNoMore link new before after → then ≡ columns → IsReading size new then after
reading_stays size link new columns then before after reads still same = record {
  server = λ live.
      subst (ServerHasRead (new_reader ToServer size) new.server_reader) (sym (still.came ToServer))
      (subst (λ (r : reader.Reading). ServerHasRead (new_reader ToServer size) r (traffic before ToServer).came) (sym still.server_reader) (reads.server (still.live live)));
  client = λ live.
      subst (λ (bytes : List ℕ). ClientHasRead (new_reader ToClient size) new.client_reader then bytes (given_by new)) (sym (still.came ToClient))
      (subst (λ (r : reader.Reading). ClientHasRead (new_reader ToClient size) r then (traffic before ToClient).came (given_by new)) (sym still.client_reader)
      (subst (λ (o : Option ℕ). ClientHasRead (new_reader ToClient size) link.client_reader o (traffic before ToClient).came (given_by new)) (sym same)
      (subst (ClientHasRead (new_reader ToClient size) link.client_reader columns (traffic before ToClient).came) (sym still.given) (reads.client (still.live live)))));
  told =
      subst (λ (bytes : List ℕ). AreToldBy (new_reader ToClient size) bytes (given_by new)) (sym (still.came ToClient))
      (subst (AreToldBy (new_reader ToClient size) (traffic before ToClient).came) (sym still.given) reads.told);
}
