-- Calls that were made, one behind the other, and what goes out by them.
use Rattle.std.proofs.Common.{◌≡◌, ◌∙◌, inl, inr, ℕ, suc, Bool, true, false, List, [], ◌∷◌, ◌++◌, refl, sym, ap, subst, append_assoc}
use Rattle.std.proofs.lemmas.List.{append-nil}
use Rattle.std.specs.Prelude.{Option, Some, None, Result, Ok, Err, IfOk, OnOk, ◌⊎◌, if◌then◌else◌}
use Rattle.tds_packet.specs.declared.status.Reset.TheVariants.{Full}
use Rattle.tds_wire.specs.declared.told.Token.{Token}
use Rattle.tds_service.specs.Line as line
use Rattle.tds_wire.specs.Reading.{Parser}
use Rattle.tds_client.specs.declared.fault.ClientRefusal.TheVariants as clients
use Rattle.tds_service.specs.declared.seat.Seat as code
use Rattle.tds_service.specs.declared.service.Service as services
use Rattle.tds_service.specs.Parts.{Part}
use Rattle.tds_service.specs.Packets.{packet_part}
use Rattle.tds_service.specs.Line.{Line, LineStage, Packet, Answer}
use Rattle.tds_service.specs.History.{Done}
use Rattle.tds_service.specs.Service as calls
use Rattle.tds_service.specs.Service.{Service, Call, Reply, Back, Free, Lent, Seat, ServiceStep, step, service_after, find_by, has_number, is_lendable, lease_at, seat_numbered}
use Rattle.tds_service.specs.Table.{Answers, Denies, RefusesIn, StepsIn, answers_in, seat_in, seats_in, service_in}
use Rattle.tds_service.specs.declared.refusal.Refusal.{Refusal}
use Rattle.tds_service.specs.declared.refusal.Refusal.TheVariants as refusals
use Rattle.tds_service.specs.Ties.{AreBytes, Appends, sent_in}
use Rattle.tds_listen.specs.declared.fault.ListenFault.{ListenFault}
use Rattle.tds_relay.specs.declared.pool.Figures.{Figures}
use Rattle.tds_relay.specs.declared.pool.Hold.{Hold}
use Rattle.tds_relay.specs.declared.fault.Broken.{Broken}
use Rattle.tds_relay.specs.Pool as pool
use Rattle.tds_relay.specs.Pool.{Pool, Event, PoolTurn, Way, find_key, holding, moves, turn, without_lease, cleaning, releasing, frees}
use Rattle.tds_relay.specs.Ties.{Makes, Settles, Turns, lost_by, sent_along}

both_bytes : (p q : List Packet) (x y : List ℕ) → AreBytes p x → AreBytes q y → AreBytes (p ++ q) (x ++ y)
both_bytes [] q x y h g = subst (λ (z : List ℕ). AreBytes q (z ++ y)) (sym h) g
both_bytes (p ∷ ps) q x y h g = (h.0, h.1 ++ y, ap (λ (z : List ℕ). z ++ y) h.2 ∙ append_assoc h.0 h.1 y, h.3, both_bytes ps q h.1 y h.4 g)

pub appends_both : (p q : List Packet) (before between after : List ℕ) → Appends p before between → Appends q between after → Appends (p ++ q) before after
appends_both p q before between after h g =
    (h.0 ++ g.0, g.1 ∙ ap (λ (z : List ℕ). z ++ g.0) h.1 ∙ append_assoc before h.0 g.0, both_bytes p q h.0 g.0 h.2 g.2)

pub appends_none : (out : List ℕ) → Appends [] out out
appends_none out = ([], sym (append-nil out), refl)

-- no call
pub makes_none : (s : Service) (out : List ℕ) → Makes [] s s out out
makes_none s out = record { service_is = refl; bytes = appends_none out }

-- one more, before others
pub makes_more : (call : Call Token) (all : List (Call Token)) (s mid new : Service) (reply : Reply) (number : ℕ) (before between after : List ℕ)
    → StepsIn (step s call) mid reply number before between → Makes all mid new between after → Makes (call ∷ all) s new before after
makes_more call all s mid new reply number before between after one others =
    let later : Makes all (step s call).service new between after = subst (λ (m : Service). Makes all m new between after) one.service_is others in
    record {
      service_is = later.service_is;
      bytes = appends_both (sent_in (step s call).dones) (sent_along (step s call).service all) before between after one.bytes later.bytes;
    }

pub makes_one : (call : Call Token) (s new : Service) (reply : Reply) (number : ℕ) (before after : List ℕ) → StepsIn (step s call) new reply number before after → Makes (call ∷ []) s new before after
makes_one call s new reply number before after one = makes_more call [] s new new reply number before after after one (makes_none new after)

-- ---- One is lost

lost_sends : (l : Line) (stage : LineStage) → (line.line_loses {T = Token} l stage).sent ≡ []
lost_sends l line.Idle = refl
lost_sends l (line.Sending begun) = refl
lost_sends l line.Reading = refl
lost_sends l line.Cancelling = refl
lost_sends l (line.Broken fault) = refl

lost_quiet : (s : Service) (test : Seat → Bool) (o : Option Seat) → sent_in (calls.loses {T = Token} s test o).dones ≡ []
lost_quiet s test None = refl
lost_quiet s test (Some c) = ap (λ (p : List Packet). p ++ []) (lost_sends c.line c.line.stage)

pub makes_lost : (s new : Service) (number : ℕ) (out : List ℕ) → new ≡ lost_by s number → Makes (calls.Lost number ∷ []) s new out out
makes_lost s new number out is =
    let none : sent_in (step {T = Token} s (calls.Lost number)).dones ≡ [] = lost_quiet s (has_number number) (find_by (has_number number) s.seats) in
    record {
      service_is = is;
      bytes = subst (λ (p : List Packet). Appends (p ++ []) out out) (sym none) (appends_none out);
    }

-- ---- What was refused

pub refused_same : (s : Service) (t : ServiceStep Token) (refusal : Refusal) → RefusesIn s t refusal → (refusal ≡ refusals.Memory → ⊥) → t.service ≡ s
refused_same s t refusals.Unknown h never = ap (λ (x : ServiceStep Token). x.service) h
refused_same s t refusals.AllInUse h never = ap (λ (x : ServiceStep Token). x.service) h
refused_same s t refusals.NotNow h never = ap (λ (x : ServiceStep Token). x.service) h
refused_same s t refusals.NotIdle h never = ap (λ (x : ServiceStep Token). x.service) h
refused_same s t refusals.NotSending h never = ap (λ (x : ServiceStep Token). x.service) h
refused_same s t refusals.Broken h never = ap (λ (x : ServiceStep Token). x.service) h
refused_same s t refusals.Memory h never = absurd (never refl)

-- ---- A cleaning

pub appends_at : (p : List Packet) (out : List ℕ) → Appends p [] [] → Appends p out out
appends_at p out h = (h.0, sym (append-nil out) ∙ ap (λ (z : List ℕ). out ++ z) h.1, h.2)

cleans_next : (s : Service) (test : Seat → Bool) (c : Seat) (b : Bool) (lease number : ℕ) (had : Bool)
    → (if b then calls.does {T = Token} s (suc s.given) test c (Some (calls.Cleaning (suc s.given))) (line.Mark Full ∷ []) (Lent (suc s.given) c.number true) else calls.nothing s calls.NotNow).reply ≡ Lent lease number had
    → lease ≡ suc s.given
cleans_next s test c true lease number had e = let u : lease ≡ suc s.given = cc in u
cleans_next s test c false lease number had e = absurd (let u : ⊥ = cc in u)

cleans_lease : (s : Service) (test : Seat → Bool) (o : Option Seat) (lease number : ℕ) (had : Bool) → (calls.cleans {T = Token} s test o).reply ≡ Lent lease number had → lease ≡ suc s.given
cleans_lease s test None lease number had e = absurd (let u : ⊥ = cc in u)
cleans_lease s test (Some c) lease number had e = cleans_next s test c (is_lendable c) lease number had e

made_at : (call : Call Token) (all : List (Call Token)) (s mid new : Service) (reply : Reply) (number : ℕ) (before after : List ℕ)
    → StepsIn (step s call) mid reply number [] [] → Makes all mid new before after → Makes (call ∷ all) s new before after
made_at call all s mid new reply number before after one others =
    makes_more call all s mid new reply number before before after
    (record { service_is = one.service_is; reply_is = one.reply_is; number_is = one.number_is; bytes = appends_at (sent_in (step s call).dones) before one.bytes }) others

pub cleaned_whole : (s s1 s2 s3 s4 : Service) (number lease other m n2 n3 n4 : ℕ) (had : Bool) (a b : ℕ) (out mid after : List ℕ)
    → StepsIn (step {T = Token} s (calls.Clean number)) s1 (Lent lease other had) m [] [] → StepsIn (step {T = Token} s1 (calls.Ask lease)) s2 calls.Did n2 [] []
    → StepsIn (step {T = Token} s2 (calls.Put lease a)) s3 calls.Did n3 out mid → StepsIn (step {T = Token} s3 (calls.Finish lease b)) s4 calls.Did n4 mid after
    → Makes (cleaning s number (pool.Sent a b)) s s4 out after
cleaned_whole s s1 s2 s3 s4 number lease other m n2 n3 n4 had a b out mid after one two three four =
    let is : lease ≡ suc s.given = cleans_lease s (has_number number) (find_by (has_number number) s.seats) lease other had one.reply_is in
    let P : ℕ → Type 0 = λ k. Makes (calls.Clean number ∷ calls.Ask k ∷ calls.Put k a ∷ calls.Finish k b ∷ []) s s4 out after in
    subst P is
    (made_at (calls.Clean number) (calls.Ask lease ∷ calls.Put lease a ∷ calls.Finish lease b ∷ []) s s1 s4 (Lent lease other had) m out after one
    (made_at (calls.Ask lease) (calls.Put lease a ∷ calls.Finish lease b ∷ []) s1 s2 s4 calls.Did n2 out after two
    (makes_more (calls.Put lease a) (calls.Finish lease b ∷ []) s2 s3 s4 calls.Did n3 out mid after three
    (makes_one (calls.Finish lease b) s3 s4 calls.Did n4 mid after four))))

pub cleaned_unended : (s s1 s2 s3 s4 : Service) (number lease other m n2 n3 : ℕ) (had : Bool) (a : ℕ) (out mid : List ℕ)
    → StepsIn (step {T = Token} s (calls.Clean number)) s1 (Lent lease other had) m [] [] → StepsIn (step {T = Token} s1 (calls.Ask lease)) s2 calls.Did n2 [] []
    → StepsIn (step {T = Token} s2 (calls.Put lease a)) s3 calls.Did n3 out mid → s4 ≡ lost_by s3 number → Makes (cleaning s number (pool.NotEnded a)) s s4 out mid
cleaned_unended s s1 s2 s3 s4 number lease other m n2 n3 had a out mid one two three lost =
    let is : lease ≡ suc s.given = cleans_lease s (has_number number) (find_by (has_number number) s.seats) lease other had one.reply_is in
    let P : ℕ → Type 0 = λ k. Makes (calls.Clean number ∷ calls.Ask k ∷ calls.Put k a ∷ calls.Lost number ∷ []) s s4 out mid in
    subst P is
    (made_at (calls.Clean number) (calls.Ask lease ∷ calls.Put lease a ∷ calls.Lost number ∷ []) s s1 s4 (Lent lease other had) m out mid one
    (made_at (calls.Ask lease) (calls.Put lease a ∷ calls.Lost number ∷ []) s1 s2 s4 calls.Did n2 out mid two
    (makes_more (calls.Put lease a) (calls.Lost number ∷ []) s2 s3 s4 calls.Did n3 out mid mid three (makes_lost s3 s4 number mid lost))))

-- ---- A return

pub released_free : (s s1 new : Service) (lease number n : ℕ) (way : Way) (before between after : List ℕ) → StepsIn (step {T = Token} s (calls.GiveBack lease)) s1 (Back (Some Free)) n before between
    → Makes (cleaning s1 number way) s1 new between after → Makes (releasing s lease number true way) s new before after
released_free s s1 new lease number n way before between after one others =
    let given = step {T = Token} s (calls.GiveBack lease) in
    let P : Reply → Type 0 = λ reply. Makes (calls.GiveBack lease ∷ (if frees reply then cleaning given.service number way else [])) s new before after in
    let later : Makes (cleaning given.service number way) s1 new between after = subst (λ (x : Service). Makes (cleaning x number way) s1 new between after) one.service_is others in
    subst P (sym one.reply_is) (makes_more (calls.GiveBack lease) (cleaning given.service number way) s s1 new (Back (Some Free)) n before between after one later)

-- ---- Turns

-- so it moves, and this connection is the last that broke the rules
abbrev moves_broken : Pool → List Hold → List ℕ → List (Call Token) → Option Broken → PoolTurn
moves_broken d held waiting all broken = record {
  pool = record { mode = d.mode; service = service_after d.service all; holds = held; line = waiting; broken = broken; figures = d.figures };
  calls = all;
}

turns_broken : (d : Pool) (event : Event) (s : Service) (held : List Hold) (waiting : List ℕ) (all : List (Call Token)) (broken : Option Broken) (before after : List ℕ)
    → turn d event ≡ moves_broken d held waiting all broken → Makes all d.service s before after
    → Turns event d (record { mode = d.mode; service = s; holds = held; line = waiting; broken = broken; figures = d.figures }) before after
turns_broken d event s held waiting all broken before after is made = record {
  pool_is = ap (λ (x : Service). let y : Pool = record { mode = d.mode; service = x; holds = held; line = waiting; broken = broken; figures = d.figures } in y) made.service_is ∙ ap (λ (t : PoolTurn). t.pool) (sym is);
  bytes = subst (λ (t : PoolTurn). Appends (sent_along d.service t.calls) before after) (sym is) made.bytes;
}

pub turns_by : (d : Pool) (event : Event) (s : Service) (held : List Hold) (waiting : List ℕ) (all : List (Call Token)) (before after : List ℕ) → turn d event ≡ moves d held waiting all
    → Makes all d.service s before after → Turns event d (record { mode = d.mode; service = s; holds = held; line = waiting; broken = d.broken; figures = d.figures }) before after
turns_by d event s held waiting all before after is made = turns_broken d event s held waiting all d.broken before after is made

-- one that comes is lent, and let go at once
pub brought_turns : (d : Pool) (s1 s2 : Service) (lease number n : ℕ) (had gives : Bool) (way : Way) (before after : List ℕ) → StepsIn (step {T = Token} d.service calls.Lease) s1 (Lent lease number had) n [] []
    → Makes (releasing s1 lease number gives way) s1 s2 before after → Turns (pool.Brings gives way) d (record { mode = d.mode; service = s2; holds = d.holds; line = d.line; broken = d.broken; figures = d.figures }) before after
brought_turns d s1 s2 lease number n had gives way before after one made =
    let lent = step {T = Token} d.service calls.Lease in
    let all : List (Call Token) = releasing s1 lease number gives way in
    let goes : turn d (pool.Brings gives way) ≡ moves d d.holds d.line (calls.Lease ∷ all) =
    ap (λ (r : Reply). pool.brings_by d lent.service gives way (pool.lent_in r)) one.reply_is
    ∙ ap (λ (x : Service). moves d d.holds d.line (calls.Lease ∷ releasing x lease number gives way)) (sym one.service_is) in
    turns_by d (pool.Brings gives way) s2 d.holds d.line (calls.Lease ∷ all) before after goes (made_at calls.Lease all d.service s1 s2 (Lent lease number had) n before after one made)

pub renewed : (d : Pool) (key : ℕ) (h : Hold) (s1 s2 : Service) (ticket lease number n1 n2 : ℕ) (had : Bool) (held : List Hold) → find_key key d.holds ≡ Some h
    → StepsIn (step {T = Token} d.service (calls.Keep h.lease)) s1 (calls.Ticket ticket) n1 [] [] → StepsIn (step {T = Token} s1 (calls.Resume ticket)) s2 (Lent lease number had) n2 [] []
    → held ≡ without_lease h.lease d.holds ++ holding h.key lease number ∷ [] → Turns (pool.Renews key true) d (record { mode = d.mode; service = s2; holds = held; line = d.line; broken = d.broken; figures = d.figures }) [] []
renewed d key h s1 s2 ticket lease number n1 n2 had held found one two is =
    let kept = step {T = Token} d.service (calls.Keep h.lease) in
    let lent : (step {T = Token} kept.service (calls.Resume ticket)).reply ≡ Lent lease number had = subst (λ (x : Service). (step {T = Token} x (calls.Resume ticket)).reply ≡ Lent lease number had) one.service_is two.reply_is in
    let all : List (Call Token) = calls.Keep h.lease ∷ calls.Resume ticket ∷ [] in
    let more = without_lease h.lease d.holds ++ holding h.key lease number ∷ [] in
    let goes : turn d (pool.Renews key true) ≡ moves d more d.line all =
    ap (λ (o : Option Hold). pool.renews d true o) found
    ∙ (ap (λ (r : Reply). pool.keeps_by d h true kept.service (pool.ticket_in r)) one.reply_is
    ∙ ap (λ (r : Reply). pool.renews_by d h ticket (pool.lent_in r) true) lent) in
    subst (λ (hs : List Hold). Turns (pool.Renews key true) d (record { mode = d.mode; service = s2; holds = hs; line = d.line; broken = d.broken; figures = d.figures }) [] []) (sym is)
    (turns_by d (pool.Renews key true) s2 more d.line all [] [] goes
    (makes_more (calls.Keep h.lease) (calls.Resume ticket ∷ []) d.service s1 s2 (calls.Ticket ticket) n1 [] [] [] one (makes_one (calls.Resume ticket) s1 s2 (Lent lease number had) n2 [] [] two)))

-- ---- What came

hearing_answers : (a : Answer) (dones : List (Done Token)) → answers_in dones ≡ a ∷ [] → pool.hearing dones ≡ pool.hearing_of a
hearing_answers a [] e = absurd (let u : ⊥ = cc in u)
hearing_answers a (x ∷ xs) e = let same : x.answer ≡ a = cc in ap pool.hearing_of same

broken_answers : (n : ℕ) (a : Answer) (dones : List (Done Token)) (had : Option Broken) → answers_in dones ≡ a ∷ [] → pool.last_broken n dones had ≡ pool.broken_of n a had
broken_answers n a [] had e = absurd (let u : ⊥ = cc in u)
broken_answers n a (x ∷ xs) had e = let same : x.answer ≡ a = cc in ap (λ (y : Answer). pool.broken_of n y had) same

tallied_answers : (a : Answer) (dones : List (Done Token)) (f : Figures) → answers_in dones ≡ a ∷ [] → pool.tallied_by dones f ≡ pool.tallied a f
tallied_answers a [] f e = absurd (let u : ⊥ = cc in u)
tallied_answers a (x ∷ xs) f e = let same : x.answer ≡ a = cc in ap (λ (y : Answer). pool.tallied y f) same

-- an application does something with its connection, by which this is counted
turns_action : (d : Pool) (key : ℕ) (action : pool.Action) (h : Hold) (s : Service) (f : Figures) (reply : Reply) (number : ℕ) (before after : List ℕ) → find_key key d.holds ≡ Some h
    → StepsIn (step d.service (pool.call_of h.lease action)) s reply number before after → f ≡ pool.figures_behind action (step {T = Token} d.service (pool.call_of h.lease action)).dones d.figures
    → Turns (pool.Does key action) d (record { mode = d.mode; service = s; holds = d.holds; line = d.line; broken = d.broken; figures = f }) before after
turns_action d key action h s f reply number before after found one figures =
    let call = pool.call_of h.lease action in
    record {
      pool_is =
          ap (λ (x : Service). let y : Pool = record { mode = d.mode; service = x; holds = d.holds; line = d.line; broken = d.broken; figures = f } in y) one.service_is
          ∙ ap (λ (g : Figures). let y : Pool = record { mode = d.mode; service = (step {T = Token} d.service call).service; holds = d.holds; line = d.line; broken = d.broken; figures = g } in y) figures
          ∙ sym (ap (λ (o : Option Hold). (pool.holder_does d action o).pool) found);
      bytes =
          subst (λ (o : Option Hold). Appends (sent_along d.service (pool.holder_does d action o).calls) before after) (sym found) (makes_one call d.service s reply number before after one).bytes;
    }

-- a request is asked
pub turns_asked : (d : Pool) (key : ℕ) (h : Hold) (s : Service) (f : Figures) (reply : Reply) (number request descriptor : ℕ) → find_key key d.holds ≡ Some h
    → StepsIn (step d.service (calls.Ask h.lease)) s reply number [] [] → Answers (calls.Ask h.lease) d.service (line.Asked request descriptor) → f ≡ pool.tallied (line.Asked request descriptor) d.figures
    → Turns (pool.Does key pool.Asks) d (record { mode = d.mode; service = s; holds = d.holds; line = d.line; broken = d.broken; figures = f }) [] []
turns_asked d key h s f reply number request descriptor found one answers figures =
    turns_action d key pool.Asks h s f reply number [] [] found one (figures ∙ sym (tallied_answers (line.Asked request descriptor) (step {T = Token} d.service (calls.Ask h.lease)).dones d.figures answers))

-- one is cancelled
pub turns_stopped : (d : Pool) (key : ℕ) (h : Hold) (s : Service) (f : Figures) (reply : Reply) (number : ℕ) (answer : Answer) (before after : List ℕ) → find_key key d.holds ≡ Some h
    → StepsIn (step d.service (calls.Cancel h.lease)) s reply number before after → Answers (calls.Cancel h.lease) d.service answer → f ≡ pool.tallied answer d.figures
    → Turns (pool.Does key pool.Stops) d (record { mode = d.mode; service = s; holds = d.holds; line = d.line; broken = d.broken; figures = f }) before after
turns_stopped d key h s f reply number answer before after found one answers figures =
    turns_action d key pool.Stops h s f reply number before after found one (figures ∙ sym (tallied_answers answer (step {T = Token} d.service (calls.Cancel h.lease)).dones d.figures answers))

not_broken : (n : ℕ) (a : Answer) (had : Option Broken) → pool.hearing_of a ≡ pool.Settled → pool.broken_of n a had ≡ had
not_broken n (line.Finished request) had e = refl
not_broken n (line.Acked request) had e = refl
not_broken n (line.Fault fault) had e = absurd (let u : ⊥ = cc in u)
not_broken n (line.Refused why) had e = refl
not_broken n line.Marked had e = refl
not_broken n (line.Asked request descriptor) had e = refl
not_broken n line.Sent had e = refl
not_broken n line.Nothing had e = refl
not_broken n line.Already had e = refl
not_broken n (line.Unsent request) had e = refl
not_broken n (line.Stopped request) had e = refl
not_broken n line.More had e = refl
not_broken n line.Lost had e = refl

pub came_settled : (d new : Pool) (n : ℕ) (part : Part Token) (way : Way) (s1 : Service) (lease : Option ℕ) (a : Answer) (out after : List ℕ)
    → StepsIn (step d.service (calls.Came n part)) s1 calls.Did n [] [] → Answers (calls.Came n part) d.service a → pool.hearing_of a ≡ pool.Settled
    → lease_at (seat_numbered n d.service.seats) ≡ lease → Settles (pool.settles d.holds s1 n way lease) (record { mode = d.mode; service = s1; holds = d.holds; line = d.line; broken = d.broken; figures = d.figures }) new out after
    → Turns (pool.Comes n part way) d new out after
came_settled d new n part way s1 lease a out after one answers is holder settled =
    let heard = step {T = Token} d.service (calls.Came n part) in
    let call : Call Token = calls.Came n part in
    let all = pool.settles d.holds s1 n way lease in
    let by : pool.comes_by d call heard.service n way (lease_at (seat_numbered n d.service.seats)) (pool.hearing heard.dones) ≡ moves d d.holds d.line (call ∷ all) =
    ap (λ (h : pool.Hearing). pool.comes_by d call heard.service n way (lease_at (seat_numbered n d.service.seats)) h) (hearing_answers a heard.dones answers ∙ is)
    ∙ (ap (λ (l : Option ℕ). pool.comes_by d call heard.service n way l pool.Settled) holder
    ∙ ap (λ (x : Service). pool.comes_by d call x n way lease pool.Settled) (sym one.service_is)) in
    let goes : turn d (pool.Comes n part way) ≡ moves d d.holds d.line (call ∷ all) =
    ap (pool.with_broken n heard.dones) by
    ∙ ap (moves_broken d d.holds d.line (call ∷ all)) (broken_answers n a heard.dones d.broken answers ∙ not_broken n a d.broken is) in
    let others : Makes all s1 (service_after s1 all) out after = record { service_is = refl; bytes = settled.bytes } in
    subst (λ (x : Pool). Turns (pool.Comes n part way) d x out after) (sym settled.pool_is)
    (turns_by d (pool.Comes n part way) (service_after s1 all) d.holds d.line (call ∷ all) out after goes
    (made_at call all d.service s1 (service_after s1 all) calls.Did n out after one others))

-- it has a fault, and the connection is lost
pub came_wrong : (d lost : Pool) (n : ℕ) (part : Part Token) (way : Way) (s1 : Service) (fault : ListenFault) (out : List ℕ)
    → StepsIn (step d.service (calls.Came n part)) s1 calls.Did n [] [] → Answers (calls.Came n part) d.service (line.Fault fault)
    → Turns (pool.Loses n) (record { mode = d.mode; service = s1; holds = d.holds; line = d.line; broken = d.broken; figures = d.figures }) lost [] []
    → Turns (pool.Comes n part way) d (record lost { broken = Some (record { number = n; fault = fault }) }) out out
came_wrong d lost n part way s1 fault out one answers turns =
    let heard = step {T = Token} d.service (calls.Came n part) in
    let call : Call Token = calls.Came n part in
    let all : List (Call Token) = call ∷ calls.Lost n ∷ [] in
    let held = pool.without_number n d.holds in
    let s2 = lost_by s1 n in
    let broken : Option Broken = Some (record { number = n; fault = fault }) in
    let by : pool.comes_by d call heard.service n way (lease_at (seat_numbered n d.service.seats)) (pool.hearing heard.dones) ≡ moves d held d.line all =
    ap (λ (h : pool.Hearing). pool.comes_by d call heard.service n way (lease_at (seat_numbered n d.service.seats)) h) (hearing_answers (line.Fault fault) heard.dones answers) in
    let goes : turn d (pool.Comes n part way) ≡ moves_broken d held d.line all broken =
    ap (pool.with_broken n heard.dones) by ∙ ap (moves_broken d held d.line all) (broken_answers n (line.Fault fault) heard.dones d.broken answers) in
    subst (λ (x : Pool). Turns (pool.Comes n part way) d (record x { broken = broken }) out out) (sym turns.pool_is)
    (turns_broken d (pool.Comes n part way) s2 held d.line all broken out out goes
    (made_at call (calls.Lost n ∷ []) d.service s1 s2 calls.Did n out out one (makes_lost s1 s2 n out refl)))

came_nothing : (d : Pool) (n : ℕ) (part : Part Token) (way : Way) → seat_numbered n d.service.seats ≡ None → turn d (pool.Comes n part way) ≡ moves d d.holds d.line (calls.Came n part ∷ [])
came_nothing d n part way e = rw e refl

pub came_unknown : (d : Pool) (n : ℕ) (part : Part Token) (way : Way) (out : List ℕ) → seat_numbered n d.service.seats ≡ None → Turns (pool.Comes n part way) d d out out
came_unknown d n part way out e =
    let same : d.service ≡ (step d.service (calls.Came n part)).service = rw e refl in
    let quiet : [] ≡ sent_in (step d.service (calls.Came n part)).dones = rw e refl in
    turns_by d (pool.Comes n part way) d.service d.holds d.line (calls.Came n part ∷ []) out out (came_nothing d n part way e)
    (record { service_is = same; bytes = subst (λ (p : List Packet). Appends (p ++ []) out out) quiet (appends_none out) })

-- nobody is found, or something was read there
read_by : (test : Seat → Bool) (c : code.Seat) (cs : List code.Seat) (b : Bool) → test (seat_in c) ≡ b → (find_by test (seats_in cs) ≡ None) ⊎ Parser
    → (find_by test (seats_in (c ∷ cs)) ≡ None) ⊎ Parser
read_by test c cs true e ih = inr c.connection.parser
read_by test c cs false e (inl h) = inl (rw e h)
read_by test c cs false e (inr r) = inr r

read_there : (test : Seat → Bool) (cs : List code.Seat) → (find_by test (seats_in cs) ≡ None) ⊎ Parser
read_there test [] = inl refl
read_there test (c ∷ cs) = read_by test c cs (test (seat_in c)) refl (read_there test cs)

hears_unless : (s : Service) (test : Seat → Bool) (part : Part Token) (o : Option Seat) (refusal : Refusal) → RefusesIn s (calls.hears s test part o) refusal → (refusal ≡ refusals.Memory → ⊥) → o ≡ None
hears_unless s test part None refusal h never = refl
hears_unless s test part (Some c) refusals.Unknown h never = absurd (let u : calls.Did ≡ calls.Unknown = ap (λ (x : ServiceStep Token). x.reply) h in let v : ⊥ = cc in v)
hears_unless s test part (Some c) refusals.AllInUse h never = absurd (let u : calls.Did ≡ calls.AllInUse = ap (λ (x : ServiceStep Token). x.reply) h in let v : ⊥ = cc in v)
hears_unless s test part (Some c) refusals.NotNow h never = absurd (let u : calls.Did ≡ calls.NotNow = ap (λ (x : ServiceStep Token). x.reply) h in let v : ⊥ = cc in v)
hears_unless s test part (Some c) refusals.NotIdle h never = absurd (let u : calls.Did ≡ calls.No clients.NotIdle = ap (λ (x : ServiceStep Token). x.reply) h in let v : ⊥ = cc in v)
hears_unless s test part (Some c) refusals.NotSending h never = absurd (let u : calls.Did ≡ calls.No clients.NotSending = ap (λ (x : ServiceStep Token). x.reply) h in let v : ⊥ = cc in v)
hears_unless s test part (Some c) refusals.Broken h never = absurd (let u : calls.Did ≡ calls.No clients.Broken = ap (λ (x : ServiceStep Token). x.reply) h in let v : ⊥ = cc in v)
hears_unless s test part (Some c) refusals.Memory h never = absurd (never refl)

unread_by : (cs : List code.Seat) (s : Service) (n : ℕ) (bytes : List ℕ) (ends : Bool) (refusal : Refusal) → s.seats ≡ seats_in cs → (find_by (has_number n) (seats_in cs) ≡ None) ⊎ Parser
    → ((r : Parser) → Denies (calls.Came n (packet_part r bytes ends)) s refusal) → (refusal ≡ refusals.Memory → ⊥) → seat_numbered n s.seats ≡ None
unread_by cs s n bytes ends refusal is (inl h) refused never = ap (find_by (has_number n)) is ∙ h
unread_by cs s n bytes ends refusal is (inr r) refused never = hears_unless s (has_number n) (packet_part r bytes ends) (find_by (has_number n) s.seats) refusal (refused r) never

-- What is refused, but for memory, is of a connection that isn't known.
pub unread : (s : services.Service) (n : ℕ) (bytes : List ℕ) (ends : Bool) (refusal : Refusal) → ((r : Parser) → Denies (calls.Came n (packet_part r bytes ends)) (service_in s) refusal)
    → (refusal ≡ refusals.Memory → ⊥) → seat_numbered n (service_in s).seats ≡ None
unread s n bytes ends refusal refused never = unread_by s.seats.items (service_in s) n bytes ends refusal refl (read_there (has_number n) s.seats.items) refused never

pub settles_by : (d : Pool) (s : Service) (made all : List (Call Token)) (before after : List ℕ) → all ≡ made → Makes made d.service s before after
    → Settles all d (record { mode = d.mode; service = s; holds = d.holds; line = d.line; broken = d.broken; figures = d.figures }) before after
settles_by d s made all before after is h = record {
  pool_is = ap (λ (x : Service). let y : Pool = record { mode = d.mode; service = x; holds = d.holds; line = d.line; broken = d.broken; figures = d.figures } in y) (h.service_is ∙ ap (service_after d.service) (sym is));
  bytes = subst (λ (cs : List (Call Token)). Appends (sent_along d.service cs) before after) (sym is) h.bytes;
}

-- what is known of a value that was answered
pub ok_both : {A E : Type 0} (r : Result A E) (P : Type 0) (R Q : A → Type 0) → (P → (x : A) → R x → Q x) → OnOk r P → IfOk r R → IfOk r Q
ok_both (Ok x) P R Q f h g = f h x g
ok_both (Err e) P R Q f h g = tt
