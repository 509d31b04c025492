-- A reset that nobody asked for, by the rules of any server and by the strict ones.
use Rattle.std.proofs.Common.{◌≡◌, ◌∙◌, Bool, true, false, Option, Some, None, sym, ap}
use Rattle.std.specs.Prelude.{Result, Ok, Err}
use Rattle.tds_packet.specs.Resets.{reset_effect}
use Rattle.tds_packet.specs.declared.status.Reset.{Reset}
use Rattle.tds_token.specs.declared.env_change.EnvChange.TheVariants.{ResetDone}
use Rattle.tds_client.specs.declared.fault.ClientFault.{ClientFault}
use Rattle.tds_client.specs.declared.fault.ClientFault.TheVariants as faults
use Rattle.tds_client.specs.declared.heard.Heard.{Heard}
use Rattle.tds_client.specs.declared.heard.FinalDone.{FinalDone}
use Rattle.tds_client.specs.declared.heard.FinalDone.TheVariants.{Awaited, Answered, Acknowledged}
use Rattle.tds_client.specs.declared.sign.Rules.TheVariants.{Strict, Any}
use Rattle.tds_client.specs.declared.sign.Sign.TheVariants as signs
use Rattle.tds_client.specs.Acts.{in_none}
use Rattle.tds_client.specs.Hearing.{◌>>=◌, strict_before, hear_change, place_change, reset_told, descriptor_changed}
use Rattle.tds_client.specs.Machine.{signed_in, signed, with_heard, Listens}
use Rattle.tds_client.specs.Session.{ClientSession, Stage, Idle, Sending, Reading, Cancelling, Broken}

abbrev Answer : Type 0
Answer = Result Heard ClientFault

abbrev heard_so : Heard → Answer
heard_so heard = Ok heard

unasked_placed : (heard : Heard) → heard.mark ≡ None → place_change heard ResetDone ≡ Ok (record heard { descriptor = 0 })
unfolding place_change
unasked_placed heard none =
    ap (λ (m : Option Reset). heard_so (record { descriptor = reset_told m heard.descriptor; mark = None; done = heard.done })) none
    ∙ ap (λ (m : Option Reset). heard_so (record { descriptor = 0; mark = m; done = heard.done })) (sym none)

unasked_refused : (heard : Heard) → heard.mark ≡ None → hear_change heard ResetDone ≡ Err faults.UnaskedReset
unfolding hear_change
unasked_refused heard none = ap (λ (m : Option Reset). descriptor_changed heard ResetDone (reset_effect m heard.descriptor)) none

unasked_before : (heard : Heard) (cancelling : Bool) (done : FinalDone) → done ≡ Awaited → heard.mark ≡ None → strict_before done cancelling heard (signs.Change ResetDone) ≡ Err faults.UnaskedReset
unasked_before heard cancelling Awaited before none = unasked_refused heard none
unasked_before heard cancelling Answered before none = absurd cc
unasked_before heard cancelling Acknowledged before none = absurd cc

any_in : (s : ClientSession) (next : Heard) (stage : Stage) → Listens stage → place_change s.heard ResetDone ≡ Ok next → signed_in Any stage s (signs.Change ResetDone) ≡ Ok (with_heard s next)
any_in s next Idle l e = absurd l
any_in s next (Sending kind left packets) l e = absurd l
any_in s next Reading l e = ap (λ (r : Answer). r >>= λ heard. Ok (with_heard s heard)) e
any_in s next Cancelling l e = ap (λ (r : Answer). r >>= λ heard. Ok (with_heard s heard)) e
any_in s next (Broken fault) l e = absurd l

strict_in : (s : ClientSession) (stage : Stage) → Listens stage → ((cancelling : Bool) → strict_before s.heard.done cancelling s.heard (signs.Change ResetDone) ≡ Err faults.UnaskedReset)
    → signed_in Strict stage s (signs.Change ResetDone) ≡ Err faults.UnaskedReset
strict_in s Idle l e = absurd l
strict_in s (Sending kind left packets) l e = absurd l
strict_in s Reading l e = ap (λ (r : Answer). r >>= λ heard. Ok (with_heard s heard)) (e false)
strict_in s Cancelling l e = ap (λ (r : Answer). r >>= λ heard. Ok (with_heard s heard)) (e true)
strict_in s (Broken fault) l e = absurd l

pub unasked_any : (s : ClientSession) → Listens s.stage → s.heard.mark ≡ None → signed Any s (signs.Change ResetDone) ≡ Ok (in_none s)
unasked_any s l none = any_in s (record s.heard { descriptor = 0 }) s.stage l (unasked_placed s.heard none)

pub unasked_strict : (s : ClientSession) → Listens s.stage → s.heard.mark ≡ None → s.heard.done ≡ Awaited → signed Strict s (signs.Change ResetDone) ≡ Err faults.UnaskedReset
unasked_strict s l none before = strict_in s s.stage l (λ cancelling. unasked_before s.heard cancelling s.heard.done before none)
