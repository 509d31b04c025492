-- The packet size stays: of a client, whatever it does, and of a table.
use Rattle.std.proofs.Common.{◌≡◌, ◌∙◌, ◌<◌, ◌+◌, ◌==◌, ◌&&◌, ℕ, zero, suc, Bool, true, false, List, [], ◌∷◌, ◌++◌, length, get_or, take, drop, refl, sym, ap, subst, arith}
use Rattle.std.proofs.Math.ListN.{set}
use Rattle.std.specs.Prelude.{Option, Some, None, not, Result, Ok, Err, OnOk, OnErr, IfOk, IfErr, MatchResult, if◌then◌else◌}
use Rattle.tds_packet.specs.declared.status.Reset.{Reset}
use Rattle.tds_wire.specs.declared.told.Token.{Token}
use Rattle.tds_wire.specs.Reading.{Parser, Found, Sees, Inside, Refuses, is_between, next_token}
use Rattle.tds_client.specs.declared.fault.ClientFault.{ClientFault}
use Rattle.tds_client.specs.declared.fault.ClientRefusal.{ClientRefusal}
use Rattle.tds_client.specs.declared.heard.Heard.{Heard}
use Rattle.tds_client.specs.declared.heard.FinalDone.{FinalDone}
use Rattle.tds_client.specs.declared.heard.FinalDone.TheVariants.{Awaited, Answered, Acknowledged}
use Rattle.tds_client.specs.declared.sign.Rules.TheVariants.{Any}
use Rattle.tds_client.specs.declared.sign.Sign.{Sign}
use Rattle.tds_client.specs.declared.state.Cancelled.{Cancelled}
use Rattle.tds_client.specs.declared.state.Taken.{Taken}
use Rattle.tds_client.specs.declared.state.Taken.TheVariants as takes
use Rattle.tds_client.specs.Hearing.{◌>>=◌, hear_sign, may_end}
use Rattle.tds_client.specs.Machine.{ItemMove, end_read, end_skipped, ended_in, signed, signed_in, tells, with_heard}
use Rattle.tds_client.specs.Sending as sending
use Rattle.tds_client.specs.Sending.{Effect, cancelled, cancelled_in, cancelled_sending}
use Rattle.tds_client.specs.Session as session
use Rattle.tds_client.specs.Session.{ClientSession}
use Rattle.tds_client.specs.Streams.{finished, finished_in, put, put_in}
use Rattle.tds_listen.specs.declared.fault.ListenFault.{ListenFault}
use Rattle.tds_listen.specs.declared.fault.ListenFault.TheVariants as listens
use Rattle.tds_listen.specs.Faults.{broken_at, broken_at_end}
use Rattle.tds_listen.specs.Hearing.{Move, heard_by, heard_end, moved_by, next_heard, settled_by, told_if, without_mark}
use Rattle.tds_listen.specs.Signs.{sign_of}
use Rattle.tds_service.specs.declared.place.Rest.{Rest}
use Rattle.tds_service.specs.declared.place.Rest.TheVariants as resting
use Rattle.tds_service.specs.declared.seat.Seat as code
use Rattle.tds_service.specs.declared.service.Service as services
use Rattle.tds_service.specs.Service.{Seat}
use Rattle.tds_service.specs.Sizes.{AreAll, KeepsSize, sizes_in}
use Rattle.tds_service.specs.Table.{client_by, seat_in, without_closed}
use Rattle.tds_service.proofs.Alike.{ok_same}

-- ---- A client

pub same_size : {A E : Type 0} (r : Result A E) (old new next : ClientSession) → next.size ≡ old.size → OnOk r (new ≡ next) → OnErr r (new ≡ old) → new.size ≡ old.size
same_size (Ok x) old new next e is same = ap (λ (s : ClientSession). s.size) is ∙ e
same_size (Err x) old new next e is same = ap (λ (s : ClientSession). s.size) same

puts_in : (s : ClientSession) (more : List ℕ) (k : session.Stage) (e : Effect (Unit {0})) → put_in s more k ≡ Ok e → e.session.size ≡ s.size
puts_in s more session.Idle e h = absurd (let u : ⊥ = cc in u)
puts_in s more (session.Sending kind left packets) e h = ap (λ (e : Effect (Unit {0})). e.session.size) (sym (ok_same ClientRefusal _ e h))
puts_in s more session.Reading e h = absurd (let u : ⊥ = cc in u)
puts_in s more session.Cancelling e h = absurd (let u : ⊥ = cc in u)
puts_in s more (session.Broken fault) e h = absurd (let u : ⊥ = cc in u)

finishes_in : (s : ClientSession) (k : session.Stage) (e : Effect (Unit {0})) → finished_in s k ≡ Ok e → e.session.size ≡ s.size
finishes_in s session.Idle e h = absurd (let u : ⊥ = cc in u)
finishes_in s (session.Sending kind left packets) e h = ap (λ (e : Effect (Unit {0})). e.session.size) (sym (ok_same ClientRefusal _ e h))
finishes_in s session.Reading e h = absurd (let u : ⊥ = cc in u)
finishes_in s session.Cancelling e h = absurd (let u : ⊥ = cc in u)
finishes_in s (session.Broken fault) e h = absurd (let u : ⊥ = cc in u)

abbrev left_by : Effect Cancelled → ℕ
left_by e = e.session.size

cancels_by : (s : ClientSession) (none : Bool) (a b : Effect Cancelled) → left_by a ≡ s.size → left_by b ≡ s.size → left_by (if none then a else b) ≡ s.size
cancels_by s true a b f g = f
cancels_by s false a b f g = g

cancels_in : (s : ClientSession) (k : session.Stage) (e : Effect Cancelled) → cancelled_in s k ≡ Ok e → left_by e ≡ s.size
unfolding cancelled_sending
cancels_in s session.Idle e h = ap left_by (sym (ok_same ClientRefusal _ e h))
cancels_in s (session.Sending kind left packets) e h =
    subst (λ (e : Effect Cancelled). left_by e ≡ s.size) (ok_same ClientRefusal _ e h) (cancels_by s (packets == 0) _ _ refl refl)
cancels_in s session.Reading e h = ap left_by (sym (ok_same ClientRefusal _ e h))
cancels_in s session.Cancelling e h = ap left_by (sym (ok_same ClientRefusal _ e h))
cancels_in s (session.Broken fault) e h = absurd (let u : ⊥ = cc in u)

pub put_keeps : {E : Type 0} (r : Result (Unit {0}) E) (s next : ClientSession) (more before after : List ℕ)
    → OnOk r (sending.Does (put s more) tt next before after) → OnErr r (next ≡ s) → next.size ≡ s.size
put_keeps (Ok x) s next more before after did same = puts_in s more s.stage (record { answer = tt; session = next; bytes = did.0 }) did.1
put_keeps (Err e) s next more before after did same = ap (λ (s : ClientSession). s.size) same

pub finish_keeps : {E : Type 0} (r : Result (Unit {0}) E) (s next : ClientSession) (before after : List ℕ)
    → OnOk r (sending.Does (finished s) tt next before after) → OnErr r (next ≡ s) → next.size ≡ s.size
finish_keeps (Ok x) s next before after did same = finishes_in s s.stage (record { answer = tt; session = next; bytes = did.0 }) did.1
finish_keeps (Err e) s next before after did same = ap (λ (s : ClientSession). s.size) same

pub cancel_keeps : {E : Type 0} (r : Result Cancelled E) (s next : ClientSession) (before after : List ℕ)
    → IfOk r (λ answer. sending.Does (cancelled s) answer next before after) → OnErr r (next ≡ s) → next.size ≡ s.size
cancel_keeps (Ok answer) s next before after did same = cancels_in s s.stage (record { answer = answer; session = next; bytes = did.0 }) did.1
cancel_keeps (Err e) s next before after did same = ap (λ (s : ClientSession). s.size) same

-- ---- What it hears

hears_by : (s next : ClientSession) (x : Result Heard ClientFault) → (x >>= λ heard. Ok (with_heard s heard)) ≡ Ok next → next.size ≡ s.size
hears_by s next (Ok heard) h = ap (λ (s : ClientSession). s.size) (sym (ok_same ClientFault _ next h))
hears_by s next (Err fault) h = absurd (let u : ⊥ = cc in u)

signs_in : (s next : ClientSession) (k : session.Stage) (sign : Sign) → signed_in Any k s sign ≡ Ok next → next.size ≡ s.size
signs_in s next session.Idle sign h = absurd (let u : ⊥ = cc in u)
signs_in s next (session.Sending kind left packets) sign h = absurd (let u : ⊥ = cc in u)
signs_in s next session.Reading sign h = hears_by s next (hear_sign Any false s.heard sign) h
signs_in s next session.Cancelling sign h = hears_by s next (hear_sign Any true s.heard sign) h
signs_in s next (session.Broken fault) sign h = absurd (let u : ⊥ = cc in u)

pub sign_keeps : (s next : ClientSession) (sign : Sign) → signed Any s sign ≡ Ok next → next.size ≡ s.size
sign_keeps s next sign h = signs_in s next s.stage sign h

moves_by : (s : ClientSession) (f : Found) (move : Move) → moved_by s f ≡ Ok move → move.session.size ≡ s.size
moves_by s (Sees token r rest) move e = sees (signed Any s (sign_of token)) refl e
  where
    sees : (x : Result ClientSession ClientFault) → signed Any s (sign_of token) ≡ x
        → heard_by {B = Move} x (λ next. Ok (record { told = told_if (tells s.stage) token; session = next; reading = r; rest = rest })) ≡ Ok move → move.session.size ≡ s.size
    sees (Ok next) is e = ap (λ (m : Move). m.session.size) (sym (ok_same ListenFault _ move e)) ∙ sign_keeps s next (sign_of token) is
    sees (Err fault) is e = absurd (let u : ⊥ = cc in u)
moves_by s (Inside r) move e = ap (λ (m : Move). m.session.size) (sym (ok_same ListenFault _ move e))
moves_by s (Refuses refusal) move e = absurd (let u : ⊥ = cc in u)

pub next_keeps : (s next : ClientSession) (r reading : Parser) (piece left : List ℕ) (some : Option Token)
    → next_heard s r piece ≡ Ok (record { told = some; session = next; reading = reading; rest = left }) → next.size ≡ s.size
next_keeps s next r reading piece left some e = moves_by s (next_token r piece) (record { told = some; session = next; reading = reading; rest = left }) e

-- a fault changes the stage alone, or what is heard
pub broken_keeps : (s : ClientSession) (fault : ListenFault) → (broken_at s fault).size ≡ s.size
broken_keeps s (listens.Client fault) = refl
broken_keeps s (listens.Wire refusal) = refl
broken_keeps s listens.Cut = refl
broken_keeps s listens.ResetUnanswered = refl

broken_end : (s : ClientSession) (fault : ListenFault) → (broken_at_end s fault).size ≡ s.size
broken_end s (listens.Client fault) = refl
broken_end s (listens.Wire refusal) = refl
broken_end s listens.Cut = refl
broken_end s listens.ResetUnanswered = refl

-- ---- The end of a message

skipped_size : (s : ClientSession) (done : FinalDone) → (end_skipped s done).session.size ≡ s.size
skipped_size s Awaited = refl
skipped_size s Answered = refl
skipped_size s Acknowledged = refl

ends_if : (s : ClientSession) (may : Bool) (wanted move : ItemMove) (fault : ClientFault) → wanted.session.size ≡ s.size
    → (if may then Ok wanted else Err fault) ≡ Ok move → move.session.size ≡ s.size
ends_if s true wanted move fault size e = ap (λ (m : ItemMove). m.session.size) (sym (ok_same ClientFault _ move e)) ∙ size
ends_if s false wanted move fault size e = absurd (let u : ⊥ = cc in u)

ends_in : (s : ClientSession) (k : session.Stage) (move : ItemMove) → ended_in Any k s ≡ Ok move → move.session.size ≡ s.size
ends_in s session.Idle move e = absurd (let u : ⊥ = cc in u)
ends_in s (session.Sending kind left packets) move e = absurd (let u : ⊥ = cc in u)
ends_in s session.Reading move e = ends_if s (may_end Any false s.heard.done) (end_read s) move _ refl e
ends_in s session.Cancelling move e = ends_if s (may_end Any true s.heard.done) (end_skipped s s.heard.done) move _ (skipped_size s s.heard.done) e
ends_in s (session.Broken fault) move e = absurd (let u : ⊥ = cc in u)

mark_size : (mark : Option Reset) (wanted move : ItemMove) → without_mark mark wanted ≡ Ok move → move.session.size ≡ wanted.session.size
mark_size None wanted move e = ap (λ (m : ItemMove). m.session.size) (sym (ok_same ListenFault _ move e))
mark_size (Some reset) wanted move e = absurd (let u : ⊥ = cc in u)

settled_size : (answer : Taken) (wanted move : ItemMove) → settled_by answer wanted ≡ Ok move → move.session.size ≡ wanted.session.size
settled_size takes.More wanted move e = ap (λ (m : ItemMove). m.session.size) (sym (ok_same ListenFault _ move e))
settled_size takes.Finished wanted move e = mark_size wanted.session.heard.mark wanted move e
settled_size takes.Acknowledged wanted move e = ap (λ (m : ItemMove). m.session.size) (sym (ok_same ListenFault _ move e))
settled_size takes.NoMemory wanted move e = ap (λ (m : ItemMove). m.session.size) (sym (ok_same ListenFault _ move e))

closes : (s : ClientSession) (move : ItemMove) (x : Result ItemMove ClientFault) → ended_in Any s.stage s ≡ x
    → heard_by x (λ wanted. settled_by wanted.answer wanted) ≡ Ok move → move.session.size ≡ s.size
closes s move (Ok wanted) is e = settled_size wanted.answer wanted move e ∙ ends_in s s.stage wanted is
closes s move (Err fault) is e = absurd (let u : ⊥ = cc in u)

cut_or : (s : ClientSession) (move : ItemMove) (cut : Bool)
    → (if cut then Err listens.Cut else heard_by (ended_in Any s.stage s) (λ wanted. settled_by wanted.answer wanted)) ≡ Ok move → move.session.size ≡ s.size
cut_or s move true e = absurd (let u : ⊥ = cc in u)
cut_or s move false e = closes s move (ended_in Any s.stage s) refl e

pub end_keeps : (s next : ClientSession) (r : Parser) (result : Result Taken ListenFault)
    → MatchResult result (λ answer. heard_end s r ≡ Ok (record { answer = answer; session = next })) (λ fault. heard_end s r ≡ Err fault)
    → IfErr result (λ fault. next ≡ broken_at_end s fault) → next.size ≡ s.size
end_keeps s next r (Ok answer) e broken = cut_or s (record { answer = answer; session = next }) (tells s.stage && not (is_between r)) e
end_keeps s next r (Err fault) e broken = ap (λ (s : ClientSession). s.size) broken ∙ broken_end s fault

-- ---- A list of connections

pub sizes_set : (d y : code.Seat) (cs : List code.Seat) (i : ℕ) → i < length cs → y.connection.client.size ≡ (get_or cs i d).connection.client.size
    → sizes_in (set cs i y) ≡ sizes_in cs
sizes_set d y [] i lt same = absurd (omega arith)
sizes_set d y (c ∷ cs) zero lt same = ap (λ (n : ℕ). n ∷ sizes_in cs) same
sizes_set d y (c ∷ cs) (suc i) lt same = ap (λ (ns : List ℕ). c.connection.client.size ∷ ns) (sizes_set d y cs i (omega arith) same)

all_taken : (size : ℕ) (cs : List code.Seat) (i : ℕ) → AreAll size (sizes_in cs) → AreAll size (sizes_in (take i cs ++ drop (i + 1) cs))
all_taken size [] zero h = tt
all_taken size [] (suc i) h =
    let e : suc i + 1 ≡ suc (i + 1) = omega arith in
    subst (λ (k : ℕ). AreAll size (sizes_in (take {A = code.Seat} (suc i) [] ++ drop k []))) (sym e) tt
all_taken size (c ∷ cs) zero h = h.1
all_taken size (c ∷ cs) (suc i) h =
    let e : suc i + 1 ≡ suc (i + 1) = omega arith in
    subst (λ (k : ℕ). AreAll size (sizes_in (take (suc i) (c ∷ cs) ++ drop k (c ∷ cs)))) (sym e) (h.0, all_taken size cs i h.1)

all_added : (size : ℕ) (y : code.Seat) (cs : List code.Seat) → AreAll size (sizes_in cs) → y.connection.client.size ≡ size → AreAll size (sizes_in (cs ++ y ∷ []))
all_added size y [] h e = (e, tt)
all_added size y (c ∷ cs) h e = (h.0, all_added size y cs h.1 e)

all_resting : (size : ℕ) (rest : Rest) (i : ℕ) (cs : List code.Seat) → AreAll size (sizes_in cs) → AreAll size (sizes_in (without_closed rest i cs))
all_resting size resting.Free i cs h = h
all_resting size resting.Draining i cs h = h
all_resting size resting.Closed i cs h = all_taken size cs i h

size_first : (b : Bool) (size : ℕ) (x s : ClientSession) (others : Option ClientSession) → x.size ≡ size → (others ≡ Some s → s.size ≡ size)
    → (if b then Some x else others) ≡ Some s → s.size ≡ size
size_first true size x s others is behind e = ap (λ (s : ClientSession). s.size) (let u : s ≡ x = cc in u) ∙ is
size_first false size x s others is behind e = behind e

pub size_at : (size : ℕ) (test : Seat → Bool) (s : ClientSession) (cs : List code.Seat) → AreAll size (sizes_in cs) → client_by test cs ≡ Some s → s.size ≡ size
size_at size test s [] h e = absurd (let u : ⊥ = cc in u)
size_at size test s (c ∷ cs) h e =
    size_first (test (seat_in c)) size c.connection.client s (client_by test cs) h.0 (λ f. size_at size test s cs h.1 f) e

-- ---- A table

-- of which one connection is another
pub keeps_sizes : (old new : services.Service) (lent news : List code.Seat) → lent ≡ old.seats.items → new.seats.items ≡ news → sizes_in news ≡ sizes_in lent → new.size ≡ old.size
    → KeepsSize old new
keeps_sizes old new lent news was is same own = λ size h. record {
  may = h.may;
  next = own ∙ h.next;
  are = subst (λ (ns : List ℕ). AreAll size ns) (sym (ap sizes_in is ∙ (same ∙ ap sizes_in was))) h.are;
}

-- and is taken out where it is to be closed
pub keeps_sizes_resting : (rest : Rest) (i : ℕ) (old new : services.Service) (lent news : List code.Seat) → lent ≡ old.seats.items → new.seats.items ≡ without_closed rest i news
    → sizes_in news ≡ sizes_in lent → new.size ≡ old.size → KeepsSize old new
keeps_sizes_resting rest i old new lent news was is same own = λ size h. record {
  may = h.may;
  next = own ∙ h.next;
  are =
      subst (λ (cs : List code.Seat). AreAll size (sizes_in cs)) (sym is)
      (all_resting size rest i news (subst (λ (ns : List ℕ). AreAll size ns) (sym (same ∙ ap sizes_in was)) h.are));
}

pub keeps_sizes_taken : (i : ℕ) (old new : services.Service) → new.seats.items ≡ take i old.seats.items ++ drop (i + 1) old.seats.items → new.size ≡ old.size → KeepsSize old new
keeps_sizes_taken i old new is own = λ size h. record {
  may = h.may;
  next = own ∙ h.next;
  are = subst (λ (cs : List code.Seat). AreAll size (sizes_in cs)) (sym is) (all_taken size old.seats.items i h.are);
}

-- to which one is added
pub keeps_sizes_added : (y : code.Seat) (old new : services.Service) → new.seats.items ≡ old.seats.items ++ y ∷ [] → y.connection.client.size ≡ old.size → new.size ≡ old.size
    → KeepsSize old new
keeps_sizes_added y old new is same own = λ size h. record {
  may = h.may;
  next = own ∙ h.next;
  are = subst (λ (cs : List code.Seat). AreAll size (sizes_in cs)) (sym is) (all_added size y old.seats.items h.are (same ∙ h.next));
}
