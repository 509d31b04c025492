-- A message ends behind its final DONE, and the next one begins without any.
use Rattle.std.proofs.Common.{◌≡◌, ◌≢◌, ◌∙◌, Bool, true, false, cond, refl, sym, ap, subst}
use Rattle.std.specs.Prelude.{Result, Ok, Err}
use Rattle.tds_client.specs.declared.fault.ClientFault.{ClientFault}
use Rattle.tds_client.specs.declared.fault.ClientFault.TheVariants as faults
use Rattle.tds_client.specs.declared.heard.Heard.{Heard}
use Rattle.tds_client.specs.declared.heard.FinalDone.{FinalDone}
use Rattle.tds_client.specs.declared.heard.FinalDone.TheVariants.{Awaited, Answered, Acknowledged}
use Rattle.tds_client.specs.declared.sign.Rules.{Rules}
use Rattle.tds_client.specs.declared.sign.Rules.TheVariants.{Strict, Any}
use Rattle.tds_client.specs.declared.sign.Sign.{Sign}
use Rattle.tds_client.specs.Hearing.{◌>>=◌, strict_before, may_end}
use Rattle.tds_client.specs.Machine.{ItemMove, Listens, signed, signed_in, message_ended, ended_in, end_read, end_skipped, with_heard}
use Rattle.tds_client.specs.Session.{ClientSession, Stage, Idle, Sending, Reading, Cancelling, Broken}

abbrev Moved : Type 0
Moved = Result ItemMove ClientFault

abbrev moved_so : ItemMove → Moved
moved_so move = Ok move

move_is : (x y : ItemMove) → moved_so x ≡ moved_so y → x ≡ y
move_is x y e = cc

-- ---- In reading a message ends behind its final DONE

no_end : (rules : Rules) (s : ClientSession) (move : ItemMove) (done : FinalDone) → done ≡ Awaited → cond {A = Moved} (may_end rules false done) (Ok (end_read s)) (Err faults.NoFinalDone) ≡ Ok move → ⊥
no_end Strict s move Awaited a e = cc
no_end Any s move Awaited a e = cc
no_end rules s move Answered a e = cc
no_end rules s move Acknowledged a e = cc

pub ends_behind_done : (rules : Rules) (s : ClientSession) (move : ItemMove) → s.stage ≡ Reading → message_ended rules s ≡ Ok move → s.heard.done ≢ Awaited
ends_behind_done rules s move stage e = λ a. no_end rules s move s.heard.done a (sym (ap (λ (x : Stage). ended_in rules x s) stage) ∙ e)

-- ---- The next one begins anew

abbrev Anew : ItemMove → Type 0
Anew move = move.session.heard.done ≡ Awaited

skipped_anew : (s : ClientSession) (done : FinalDone) → Anew (end_skipped s done)
skipped_anew s Awaited = refl
skipped_anew s Answered = refl
skipped_anew s Acknowledged = refl

anew_by : (b : Bool) (x move : ItemMove) → Anew x → cond {A = Moved} b (Ok x) (Err faults.NoFinalDone) ≡ Ok move → Anew move
anew_by true x move h e = subst Anew (move_is x move e) h
anew_by false x move h e = absurd cc

anew_in : (rules : Rules) (s : ClientSession) (move : ItemMove) (stage : Stage) → ended_in rules stage s ≡ Ok move → Anew move
anew_in rules s move Idle e = absurd cc
anew_in rules s move (Sending kind left packets) e = absurd cc
anew_in rules s move Reading e = anew_by (may_end rules false s.heard.done) (end_read s) move refl e
anew_in rules s move Cancelling e = anew_by (may_end rules true s.heard.done) (end_skipped s s.heard.done) move (skipped_anew s s.heard.done) e
anew_in rules s move (Broken fault) e = absurd cc

pub begins_anew : (rules : Rules) (s : ClientSession) (move : ItemMove) → message_ended rules s ≡ Ok move → move.session.heard.done ≡ Awaited
begins_anew rules s move e = anew_in rules s move s.stage e

-- ---- In the strict profile nothing stands behind the final DONE

strict_by : (cancelling : Bool) (heard : Heard) (sign : Sign) (done : FinalDone) → done ≢ Awaited → strict_before done cancelling heard sign ≡ Err faults.BehindFinalDone
strict_by cancelling heard sign Awaited n = absurd (n refl)
strict_by cancelling heard sign Answered n = refl
strict_by cancelling heard sign Acknowledged n = refl

strict_in : (s : ClientSession) (sign : Sign) (stage : Stage) → Listens stage → s.heard.done ≢ Awaited → signed_in Strict stage s sign ≡ Err faults.BehindFinalDone
strict_in s sign Idle l n = absurd l
strict_in s sign (Sending kind left packets) l n = absurd l
strict_in s sign Reading l n = ap (λ (r : Result Heard ClientFault). r >>= λ heard. Ok (with_heard s heard)) (strict_by false s.heard sign s.heard.done n)
strict_in s sign Cancelling l n = ap (λ (r : Result Heard ClientFault). r >>= λ heard. Ok (with_heard s heard)) (strict_by true s.heard sign s.heard.done n)
strict_in s sign (Broken fault) l n = absurd l

pub nothing_behind : (s : ClientSession) (sign : Sign) → Listens s.stage → s.heard.done ≢ Awaited → signed Strict s sign ≡ Err faults.BehindFinalDone
nothing_behind s sign l n = strict_in s sign s.stage l n
