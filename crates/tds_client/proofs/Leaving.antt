-- Calls by which nothing is heard: whatever rules the answers are heard by, they leave what the client knows of the message that comes.
use Rattle.std.proofs.Common.{◌≡◌, ◌∙◌, ◌==◌, ℕ, Bool, true, false, cond, nat_le, List, length, refl, ap}
use Rattle.std.specs.Prelude.{Ok, Option, Some, None}
use Rattle.tds_request.specs.declared.request.Request.{Request}
use Rattle.tds_client.specs.declared.fault.ClientRefusal.{ClientRefusal}
use Rattle.tds_client.specs.declared.message.MessageKind.{MessageKind}
use Rattle.tds_client.specs.Calls.{unless_refused, effect_of, streamed}
use Rattle.tds_client.specs.Sending.{Effect, started, sent_in, sent_of, cancelled_in, cancelled_sending}
use Rattle.tds_client.specs.Session.{ClientSession, Stage, Idle, Sending, Reading, Cancelling, Broken, with_stage, unless_idle}
use Rattle.tds_client.specs.Streams.{Step, Open, Put, Finish, opened, put_in, finished_in}

abbrev pub is_broken : Stage → Bool
is_broken Idle = false
is_broken (Sending kind left packets) = false
is_broken Reading = false
is_broken Cancelling = false
is_broken (Broken fault) = true

-- What such a call leaves of what the client knows of the message that comes.
pub record Leaves (s next : ClientSession) : Type 0 where
  pub heard : next.heard.done ≡ s.heard.done
  pub columns : next.columns ≡ s.columns
  pub whole : is_broken next.stage ≡ false → is_broken s.stage ≡ false

leaves_all : (s : ClientSession) → Leaves s s
leaves_all s = record { heard = refl; columns = refl; whole = λ h. h }

pub mark_leaves : (s next : ClientSession) (o : Option ClientRefusal) → Leaves s next → Leaves s (unless_refused o s next)
mark_leaves s next None l = l
mark_leaves s next (Some refusal) l = leaves_all s

-- from a client that is not broken to any other stage
moves : (s : ClientSession) (stage next : Stage) → s.stage ≡ stage → is_broken stage ≡ false → Leaves s (with_stage s next)
moves s stage next e sound = record { heard = refl; columns = refl; whole = λ h. ap is_broken e ∙ sound }

pub start_leaves : (s : ClientSession) (request : Request) (stage : Stage) → s.stage ≡ stage → Leaves s (unless_refused (unless_idle stage) s (started s request))
start_leaves s request Idle e = moves s Idle _ e refl
start_leaves s request (Sending kind left packets) e = leaves_all s
start_leaves s request Reading e = leaves_all s
start_leaves s request Cancelling e = leaves_all s
start_leaves s request (Broken fault) e = leaves_all s

either_leaves : {A : Type 0} (s : ClientSession) (b : Bool) (x y : Effect A) → Leaves s x.session → Leaves s y.session → Leaves s (effect_of s (Ok (cond b x y))).session
either_leaves s true x y a c = a
either_leaves s false x y a c = c

pub send_leaves : (s : ClientSession) (stage : Stage) → s.stage ≡ stage → Leaves s (effect_of s (sent_in s stage)).session
unfolding sent_of
send_leaves s Idle e = leaves_all s
send_leaves s (Sending kind left packets) e = either_leaves s (nat_le (length left) _) _ _ (moves s (Sending kind left packets) _ e refl) (moves s (Sending kind left packets) _ e refl)
send_leaves s Reading e = leaves_all s
send_leaves s Cancelling e = leaves_all s
send_leaves s (Broken fault) e = leaves_all s

opens_leaves : (s : ClientSession) (kind : MessageKind) (stage : Stage) → s.stage ≡ stage → Leaves s (unless_refused (unless_idle stage) s (opened s kind))
opens_leaves s kind Idle e = moves s Idle _ e refl
opens_leaves s kind (Sending of left packets) e = leaves_all s
opens_leaves s kind Reading e = leaves_all s
opens_leaves s kind Cancelling e = leaves_all s
opens_leaves s kind (Broken fault) e = leaves_all s

put_leaves : (s : ClientSession) (part : List ℕ) (stage : Stage) → s.stage ≡ stage → Leaves s (effect_of s (put_in s part stage)).session
put_leaves s part Idle e = leaves_all s
put_leaves s part (Sending kind left packets) e = moves s (Sending kind left packets) _ e refl
put_leaves s part Reading e = leaves_all s
put_leaves s part Cancelling e = leaves_all s
put_leaves s part (Broken fault) e = leaves_all s

finish_leaves : (s : ClientSession) (stage : Stage) → s.stage ≡ stage → Leaves s (effect_of s (finished_in s stage)).session
finish_leaves s Idle e = leaves_all s
finish_leaves s (Sending kind left packets) e = moves s (Sending kind left packets) _ e refl
finish_leaves s Reading e = leaves_all s
finish_leaves s Cancelling e = leaves_all s
finish_leaves s (Broken fault) e = leaves_all s

pub stream_leaves : (s : ClientSession) (step : Step) → Leaves s (streamed s step).session
stream_leaves s (Open kind) = opens_leaves s kind s.stage refl
stream_leaves s (Put part) = put_leaves s part s.stage refl
stream_leaves s Finish = finish_leaves s s.stage refl

pub cancel_leaves : (s : ClientSession) (stage : Stage) → s.stage ≡ stage → Leaves s (effect_of s (cancelled_in s stage)).session
unfolding cancelled_sending
cancel_leaves s Idle e = leaves_all s
cancel_leaves s (Sending kind left packets) e = either_leaves s (packets == 0) _ _ (moves s (Sending kind left packets) _ e refl) (moves s (Sending kind left packets) _ e refl)
cancel_leaves s Reading e = moves s Reading _ e refl
cancel_leaves s Cancelling e = leaves_all s
cancel_leaves s (Broken fault) e = leaves_all s
