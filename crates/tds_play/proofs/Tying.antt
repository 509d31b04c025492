-- What keeps a connection tied to what the carrier knows of it, and how an event ends there.
use Rattle.std.specs.Prelude.{IfOk, Result, Ok, Err}
use Rattle.std.proofs.Common.{◌≡◌, ◌≤◌, ◌∙◌, ◌+◌, ℕ, Bool, true, false, cond, refl, sym, ap, subst, Option, Some, None, List, ◌++◌, length, length-append, arith}
use Rattle.tds_client.specs.declared.state.Cancelled.{Cancelled}
use Rattle.tds_client.specs.declared.state.Cancelled.TheVariants as client
use Rattle.tds_packet.specs.declared.kind.Direction.{Direction}
use Rattle.tds_packet.specs.declared.kind.Direction.TheVariants.{ToServer, ToClient}
use Rattle.tds_packet.specs.Reading.{Reading}
use Rattle.tds_server.specs.State.{ServerState}
use Rattle.tds_world.specs.declared.event.Event.{Event}
use Rattle.tds_play.specs.Acts.{cancelled_as, unless_lost}
use Rattle.tds_play.specs.Links.{cut_of, recounted}
use Rattle.tds_play.specs.Pipe.{BegunEvent, Changes, IsFaithful, Pipe, sent_on}
use Rattle.tds_play.specs.Plays.{MayLose}
use Rattle.tds_play.proofs.any_bytes.Faithful.{no_more_came, sent_faithful}
use Rattle.tds_play.specs.Ties.{Holds, IsTied, KeepsTies, counted, saturated, with_counted}
use Rattle.tds_play.specs.declared.link.EventDone.{EventDone}
use Rattle.tds_play.specs.declared.link.Link.{Link}
use Rattle.tds_play.specs.declared.request.Record.{Record}
use Rattle.tds_play.proofs.Carrying.{cut_same, number_same, reads_same}

-- ---- What was answered

-- What is told of a value, there too.
pub if_told : {A B : Type 0} (r : Result A B) (P Q : A → Type 0) → ((x : A) → P x → Q x) → IfOk r P → IfOk r Q
if_told (Ok x) P Q goes h = goes x h
if_told (Err why) P Q goes h = tt

-- What may be lost, and what is whole.
pub may_lose : {B : Type 0} (r : Result EventDone B) (e kind : Event) → e ≡ kind → MayLose false kind → IfOk r (λ done. done.lost ≡ true → MayLose false e)
may_lose (Ok done) e kind is may = λ lost. subst (λ (x : Event). MayLose false x) (sym is) may
may_lose (Err why) e kind is may = tt

pub whole_loses : {B : Type 0} (r : Result EventDone B) (e : Event) → IfOk r (λ done. done.lost ≡ false) → IfOk r (λ done. done.lost ≡ true → MayLose false e)
whole_loses (Ok done) e whole = λ lost. let bad : true ≡ false = sym lost ∙ whole in absurd (cc)
whole_loses (Err why) e whole = tt

-- ---- Handing over

-- More bytes were handed over than are counted as underway.
more_underway : (up n : ℕ) (came handed bytes : List ℕ) → n ≡ length bytes → up + length came ≤ length handed → saturated (up + n) + length came ≤ length (handed ++ bytes)
more_underway up n came handed bytes is within = omega (arith, length-append handed bytes, is, within)

holds_more : {E S : Type 0} (link : Link E S) (d : Direction) (n : ℕ) (pipe : Option Pipe) (bytes : List ℕ) (failures : ℕ) → n ≡ length bytes → Holds link.to_server link.to_client pipe
    → Holds (with_counted link d (saturated (counted link d + n))).to_server (with_counted link d (saturated (counted link d + n))).to_client (sent_on pipe d bytes failures)
holds_more link d n None bytes failures is h = absurd h.is_open
holds_more link ToServer n (Some p) bytes failures is h = record {
  is_open = h.is_open;
  to_server = more_underway link.to_server n p.to_server.came p.to_server.handed bytes is h.to_server;
  to_client = h.to_client;
}
holds_more link ToClient n (Some p) bytes failures is h = record {
  is_open = h.is_open;
  to_server = h.to_server;
  to_client = more_underway link.to_client n p.to_client.came p.to_client.handed bytes is h.to_client;
}

-- What was handed over is tied.
pub handed_ties : {E S : Type 0} (link new : Link E S) (d : Direction) (n : ℕ) (bytes : List ℕ) (failures : ℕ) (old pipes : ℕ → Option Pipe) (told still : List BegunEvent)
    → IsTied link (old link.number) → link.is_cut ≡ false → n ≡ length bytes
    → new ≡ with_counted link d (saturated (counted link d + n))
    → Changes old pipes link.number (sent_on (old link.number) d bytes failures)
    → still ≡ told → KeepsTies link.number new old pipes told still
handed_ties {E} {S} link new d n bytes failures old pipes told still t live is then changes begun =
    let count : ℕ = saturated (counted link d + n) in
    let out : Link E S = with_counted link d count in
    record {
      tied = subst (λ (l : Link E S). IsTied l (pipes link.number)) (sym then) (record {
        server_reads = ap (λ r. r.direction) (reads_same link d count).0 ∙ t.server_reads;
        client_reads = ap (λ r. r.direction) (reads_same link d count).1 ∙ t.client_reads;
        holds = λ uncut. subst (λ (p : Option Pipe). Holds out.to_server out.to_client p) (sym changes.here) (holds_more link d n (old link.number) bytes failures is (t.holds live));
      });
      others = changes.others;
      begun = begun;
      faithful = λ f. sent_faithful (old link.number) d bytes failures (no_more_came link.to_server link.to_client (old link.number) (t.holds live)) (subst IsFaithful changes.here f);
    }

recounts : {E S : Type 0} (link : Link E S) (d : Direction) (n : ℕ) → with_counted link d n ≡ recounted (with_counted link d n).to_server (with_counted link d n).to_client link
recounts link ToServer n = refl
recounts link ToClient n = refl

pub recounted_so : {E S : Type 0} (link new : Link E S) (d : Direction) (n : ℕ) → new ≡ with_counted link d n → new ≡ recounted new.to_server new.to_client link
recounted_so {E} {S} link new d n then = subst (λ (l : Link E S). l ≡ recounted l.to_server l.to_client link) (sym then) (recounts link d n)

pub number_so : {E S : Type 0} (link new : Link E S) (d : Direction) (n : ℕ) → new ≡ with_counted link d n → new.number ≡ link.number
number_so link new d n then = ap (λ l. l.number) then ∙ number_same link d n

pub live_so : {E S : Type 0} (link new : Link E S) (d : Direction) (n : ℕ) → new ≡ with_counted link d n → link.is_cut ≡ false → new.is_cut ≡ false
live_so link new d n then live = ap (λ l. l.is_cut) then ∙ cut_same link d n ∙ live

-- ---- What the ends do

-- Another server and another newest request.
pub retied : {E S : Type 0} (link new : Link E S) (s : ServerState E) (q : Option Record) (pipe : Option Pipe) → new ≡ record link { server = s; current = q } → IsTied link pipe → IsTied new pipe
retied {E} {S} link new s q pipe is t = subst (λ (l : Link E S). IsTied l pipe) (sym is) (record { server_reads = t.server_reads; client_reads = t.client_reads; holds = t.holds })

-- Another server, and what reads there.
pub retied_reader : {E S : Type 0} (link : Link E S) (s : ServerState E) (r : Reading) (conn : ℕ) (pipes : ℕ → Option Pipe) → link.number ≡ conn → r.direction ≡ ToServer → IsTied link (pipes conn) → IsTied (record link { server = s; server_reader = r }) (pipes link.number)
retied_reader {E} {S} link s r conn pipes at reads t =
    subst (λ (n : ℕ). IsTied (record link { server = s; server_reader = r }) (pipes n)) (sym at) (record { server_reads = reads; client_reads = t.client_reads; holds = t.holds })

cancelled_ties : {E S : Type 0} (a : Cancelled) (link : Link E S) (pipe : Option Pipe) → IsTied link pipe → IsTied (cancelled_as a link) pipe
cancelled_ties client.Nothing link pipe t = t
cancelled_ties client.Already link pipe t = t
cancelled_ties client.Unsent link pipe t = record { server_reads = t.server_reads; client_reads = t.client_reads; holds = t.holds }
cancelled_ties client.Asked link pipe t = record { server_reads = t.server_reads; client_reads = t.client_reads; holds = t.holds }

pub cancelled_tied : {E S : Type 0} (a : Cancelled) (link new : Link E S) (pipe : Option Pipe) → new ≡ cancelled_as a link → IsTied link pipe → IsTied new pipe
cancelled_tied {E} {S} a link new pipe is t = subst (λ (l : Link E S). IsTied l pipe) (sym is) (cancelled_ties a link pipe t)

cancelled_keeps : {E S : Type 0} (a : Cancelled) (link : Link E S) → ((cancelled_as a link).number ≡ link.number) × ((cancelled_as a link).is_cut ≡ link.is_cut)
cancelled_keeps client.Nothing link = (refl, refl)
cancelled_keeps client.Already link = (refl, refl)
cancelled_keeps client.Unsent link = (refl, refl)
cancelled_keeps client.Asked link = (refl, refl)

pub cancelled_number : {E S : Type 0} (a : Cancelled) (link new : Link E S) → new ≡ cancelled_as a link → new.number ≡ link.number
cancelled_number a link new is = ap (λ l. l.number) is ∙ (cancelled_keeps a link).0

pub cancelled_live : {E S : Type 0} (a : Cancelled) (link new : Link E S) → new ≡ cancelled_as a link → new.is_cut ≡ link.is_cut
cancelled_live a link new is = ap (λ l. l.is_cut) is ∙ (cancelled_keeps a link).1

-- Where what came then is the first of what was handed over, it was so before, under the number that the
-- connection then had.
pub faithful_before : {E S : Type 0} (conn k : ℕ) (new : Link E S) (pipes last : ℕ → Option Pipe) (told still : List BegunEvent) → k ≡ conn → KeepsTies k new pipes last told still → IsFaithful (last conn) → IsFaithful (pipes conn)
faithful_before conn k new pipes last told still is ties f =
    subst (λ (n : ℕ). IsFaithful (pipes n)) is (ties.faithful (subst (λ (n : ℕ). IsFaithful (last n)) (sym is) f))

-- ---- The end of an event

-- Bytes were handed over and the event ended, each under the number that the connection then had.
pub ties_handed : {E S : Type 0} (conn m k : ℕ) (out new : Link E S) (old pipes last : ℕ → Option Pipe) (told between still : List BegunEvent) → m ≡ conn → k ≡ m
    → KeepsTies m out old pipes told between → KeepsTies k new pipes last between still → KeepsTies conn new old last told still
ties_handed conn m k out new old pipes last told between still put handed hands ends = record {
  tied = subst (λ (n : ℕ). IsTied new (last n)) (handed ∙ put) ends.tied;
  others = λ other differs. ends.others other (λ is. differs (is ∙ handed ∙ put)) ∙ hands.others other (λ is. differs (is ∙ put));
  begun = ends.begun ∙ hands.begun;
  faithful = λ f.
      let after : IsFaithful (last k) = subst (λ (n : ℕ). IsFaithful (last n)) (sym (handed ∙ put)) f in
      let mid : IsFaithful (pipes m) = subst (λ (n : ℕ). IsFaithful (pipes n)) handed (ends.faithful after) in
      subst (λ (n : ℕ). IsFaithful (old n)) put (hands.faithful mid);
}

-- One that was handed bytes alone.
pub ties_numbered : {E S : Type 0} (conn m : ℕ) (out : Link E S) (old pipes : ℕ → Option Pipe) (told still : List BegunEvent) → m ≡ conn → KeepsTies m out old pipes told still → KeepsTies conn out old pipes told still
ties_numbered {E} {S} conn m out old pipes told still put hands = subst (λ (n : ℕ). KeepsTies n out old pipes told still) put hands

by_end : {E S : Type 0} (lost : Bool) (mid out new : Link E S) → new ≡ cond lost (cut_of out) out → out ≡ recounted out.to_server out.to_client mid → new ≡ unless_lost lost (recounted new.to_server new.to_client mid)
by_end {E} {S} true mid out new is counts = subst (λ (l : Link E S). l ≡ cut_of (recounted l.to_server l.to_client mid)) (sym is) (ap cut_of counts)
by_end {E} {S} false mid out new is counts = subst (λ (l : Link E S). l ≡ recounted l.to_server l.to_client mid) (sym is) counts

-- The connection that an event left which handed bytes over.
pub ended_link : {E S : Type 0} (was lost : Bool) (mid out new base : Link E S) → was ≡ lost → new ≡ cond lost (cut_of out) out → out ≡ recounted out.to_server out.to_client mid → mid ≡ base
    → new ≡ unless_lost was (recounted new.to_server new.to_client base)
ended_link {E} {S} was lost mid out new base same is counts at =
    subst (λ (b : Bool). new ≡ unless_lost b (recounted new.to_server new.to_client base)) (sym same)
    (subst (λ (l : Link E S). new ≡ unless_lost lost (recounted new.to_server new.to_client l)) at (by_end lost mid out new is counts))
