-- What goes out by a cancel.
use Rattle.std.proofs.Common.{◌≡◌, ◌∙◌, ◌++◌, ◌==◌, ℕ, Bool, true, false, List, [], refl, sym, ap}
use Rattle.std.proofs.lemmas.List.{append-nil}
use Rattle.std.specs.Prelude.{Result, Ok, Err, OnOk, IfOk, if◌then◌else◌}
use Rattle.tds_client.specs.declared.fault.ClientRefusal.{ClientRefusal}
use Rattle.tds_client.specs.declared.fault.ClientRefusal.TheVariants as clients
use Rattle.tds_client.specs.declared.state.Cancelled.{Cancelled}
use Rattle.tds_client.specs.Sending as sending
use Rattle.tds_client.specs.Sending.{Effect, IsRefusal, cancelled, cancelled_in, cancelled_sending}
use Rattle.tds_client.specs.Session as session
use Rattle.tds_client.specs.Session.{ClientSession}
use Rattle.tds_wire.specs.declared.told.Token.{Token}
use Rattle.tds_service.specs.Line as line
use Rattle.tds_service.specs.Line.{not_begun, line_turn}
use Rattle.tds_service.specs.Refusing.{refusal_in}
use Rattle.tds_service.specs.Ties.{line_of, cancel_out}

abbrev bytes_of : Result (Effect Cancelled) ClientRefusal → List ℕ
bytes_of (Ok effect) = effect.bytes
bytes_of (Err refusal) = []

either : (b : Bool) (x y : Effect Cancelled) → (if b then x else y).bytes ≡ (if b then x.bytes else y.bytes)
either true x y = refl
either false x y = refl

stops_in : (s : ClientSession) (k : session.Stage) → bytes_of (cancelled_in s k) ≡ cancel_out k
unfolding cancelled_sending
stops_in s session.Idle = refl
stops_in s (session.Sending kind left packets) = either (packets == 0) _ _
stops_in s session.Reading = refl
stops_in s session.Cancelling = refl
stops_in s (session.Broken fault) = refl

stops : (s next : ClientSession) (how : Cancelled) (before after : List ℕ) → sending.Does (cancelled s) how next before after → after ≡ before ++ cancel_out s.stage
stops s next how before after did = did.2 ∙ ap (λ (bytes : List ℕ). before ++ bytes) (sym (ap bytes_of did.1) ∙ stops_in s s.stage)

-- one that is done
pub cancel_stops : {E : Type 0} (r : Result Cancelled E) (s next : ClientSession) (before after : List ℕ)
    → IfOk r (λ how. sending.Does (cancelled s) how next before after) → OnOk r (after ≡ before ++ cancel_out s.stage)
cancel_stops (Ok how) s next before after did = stops s next how before after did
cancel_stops (Err e) s next before after did = tt

-- one that is refused, but for want of memory: nothing is out
none_in : (n : ℕ) (s : ClientSession) (k : session.Stage) (why : ClientRefusal)
    → IsRefusal (refusal_in (line_turn {T = Token} (line_of n (record s { stage = k })) line.Cancel).answer) why → (why ≡ clients.Memory → ⊥) → cancel_out k ≡ []
none_in n s session.Idle why is other = refl
none_in n s (session.Sending kind left packets) why is other = none_sending (packets == 0) is
  where
    none_sending : (none : Bool) → IsRefusal (refusal_in (line.cancels {T = Token} (line_of n (record s { stage = session.Sending kind left packets })) (line.Sending (not_begun none))).answer) why
        → cancel_out (session.Sending kind left packets) ≡ []
    none_sending true is = absurd (other is)
    none_sending false is = absurd (other is)
none_in n s session.Reading why is other = absurd (other is)
none_in n s session.Cancelling why is other = refl
none_in n s (session.Broken fault) why is other = refl

pub none_stopped : (n : ℕ) (s : ClientSession) (why : ClientRefusal) (out : List ℕ)
    → IsRefusal (refusal_in (line_turn {T = Token} (line_of n s) line.Cancel).answer) why → (why ≡ clients.Memory → ⊥) → out ≡ out ++ cancel_out s.stage
none_stopped n s why out is other = sym (append-nil out) ∙ ap (λ (bytes : List ℕ). out ++ bytes) (sym (none_in n s s.stage why is other))
