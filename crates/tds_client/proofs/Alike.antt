-- What the strict rules hear without a fault, those of any server hear as well, and to the same.
use Rattle.std.proofs.Common.{◌≡◌, ◌≢◌, ◌∙◌, ℕ, ◌==◌, ◌||◌, Bool, true, false, cond, Option, Some, None, refl, sym, ap}
use Rattle.std.specs.Prelude.{Result, Ok, Err}
use Rattle.tds_packet.specs.Layout.{has_bit}
use Rattle.tds_packet.specs.Resets.{reset_effect}
use Rattle.tds_packet.specs.declared.status.Reset.{Reset}
use Rattle.tds_packet.specs.declared.status.Reset.TheVariants.{Full, KeepTransaction}
use Rattle.tds_token.specs.declared.env_change.EnvChange.{EnvChange}
use Rattle.tds_token.specs.declared.env_change.EnvChange.TheVariants.{Begin, Commit, Rollback, ResetDone}
use Rattle.tds_client.specs.declared.fault.ClientFault.{ClientFault}
use Rattle.tds_client.specs.declared.fault.ClientFault.TheVariants as faults
use Rattle.tds_client.specs.declared.heard.Heard.{Heard}
use Rattle.tds_client.specs.declared.heard.FinalDone.{FinalDone}
use Rattle.tds_client.specs.declared.heard.FinalDone.TheVariants.{Awaited, Answered, Acknowledged}
use Rattle.tds_client.specs.declared.sign.DoneKind.TheVariants.{Statement, Procedure, InProcedure}
use Rattle.tds_client.specs.declared.sign.Rules.TheVariants.{Strict, Any}
use Rattle.tds_client.specs.declared.sign.Sign.{Sign}
use Rattle.tds_client.specs.declared.sign.Sign.TheVariants as signs
use Rattle.tds_client.specs.Acts.{IsPlaced}
use Rattle.tds_client.specs.Hearing.{◌>>=◌, hear_sign, strict_sign, strict_before, any_sign, hear_change, hear_done, place_change, place_done, reset_told, is_full, descriptor_changed, with_done, done_behind}
use Rattle.tds_client.specs.Machine.{signed, signed_in, with_heard}
use Rattle.tds_client.specs.Session.{ClientSession, Stage, Idle, Sending, Reading, Cancelling, Broken}
use Rattle.tds_client.proofs.Placed.{different}

abbrev Answer : Type 0
Answer = Result Heard ClientFault

-- ---- Changes

begin_alike : (heard next : Heard) (d : ℕ) (none full known : Bool) → none ≡ false → full ≡ false
    → descriptor_changed heard (Begin d) (cond known (Some d) None) ≡ Ok next → descriptor_changed heard (Begin d) (cond (none || full) None (cond (known || (heard.descriptor == d)) (Some d) None)) ≡ Ok next
begin_alike heard next d false false true a b e = e
begin_alike heard next d none full false a b e = absurd cc
begin_alike heard next d true full true a b e = absurd cc
begin_alike heard next d false true true a b e = absurd cc

end_alike : (heard next : Heard) (change : EnvChange) (none known : Bool) → descriptor_changed heard change (cond known (Some 0) None) ≡ Ok next → descriptor_changed heard change (cond (none || known) (Some 0) None) ≡ Ok next
end_alike heard next change true true e = e
end_alike heard next change false true e = e
end_alike heard next change none false e = absurd cc

not_full : (mark : Option Reset) → mark ≢ Some Full → is_full mark ≡ false
not_full None n = refl
not_full (Some Full) n = absurd (n refl)
not_full (Some KeepTransaction) n = refl

reset_alike : (heard next : Heard) (mark : Option Reset) → descriptor_changed heard ResetDone (reset_effect mark heard.descriptor) ≡ Ok next
    → descriptor_changed heard ResetDone (Some (reset_told mark heard.descriptor)) ≡ Ok next
reset_alike heard next None e = absurd cc
reset_alike heard next (Some Full) e = e
reset_alike heard next (Some KeepTransaction) e = e

change_alike : (heard next : Heard) (change : EnvChange) → IsPlaced heard.mark (signs.Change change) → hear_change heard change ≡ Ok next → place_change heard change ≡ Ok next
unfolding hear_change place_change
change_alike heard next (Begin d) placed e = begin_alike heard next d (d == 0) (is_full heard.mark) (heard.descriptor == 0) (different d 0 placed.0) (not_full heard.mark placed.1) e
change_alike heard next (Commit d) placed e = end_alike heard next (Commit d) (heard.descriptor == 0) (heard.descriptor == d) e
change_alike heard next (Rollback d) placed e = end_alike heard next (Rollback d) (heard.descriptor == 0) (heard.descriptor == d) e
change_alike heard next ResetDone placed e = reset_alike heard next heard.mark e

-- ---- DONE

more_alike : (m : Bool) → m ≡ true → cond m Awaited Answered ≡ Awaited
more_alike true e = refl
more_alike false e = absurd cc

done_alike : (heard next : Heard) (a m c : Bool) → heard.done ≡ Awaited
    → cond a (cond {A = Answer} c (Ok (with_done heard Acknowledged)) (Err faults.UnaskedAcknowledgement)) (cond {A = Answer} m (Ok heard) (Ok (with_done heard Answered))) ≡ Ok next
    → cond a (cond {A = Answer} c (Ok (with_done heard Acknowledged)) (Err faults.UnaskedAcknowledgement)) (Ok (with_done heard (cond m Awaited Answered))) ≡ Ok next
done_alike heard next true m c before e = e
done_alike heard next false true c before e = ap (λ (d : FinalDone). Ok (with_done heard d)) (sym before) ∙ e
done_alike heard next false false c before e = e

behind_so : (done : FinalDone) (status : ℕ) → done ≡ Awaited → done_behind done status ≡ cond (has_bit status 1) Awaited Answered
behind_so Awaited status e = refl
behind_so Answered status e = refl
behind_so Acknowledged status e = absurd cc

statement_alike : (heard next : Heard) (cancelling : Bool) (status : ℕ) → heard.done ≡ Awaited → hear_done cancelling heard status ≡ Ok next → place_done cancelling heard Statement status ≡ Ok next
unfolding hear_done place_done
statement_alike heard next cancelling status before e =
    ap (λ (d : FinalDone). cond (has_bit status 0x20) (cond {A = Answer} cancelling (Ok (with_done heard Acknowledged)) (Err faults.UnaskedAcknowledgement)) (Ok (with_done heard d))) (behind_so heard.done status before)
    ∙ done_alike heard next (has_bit status 0x20) (has_bit status 1) cancelling before e

-- ---- Signs

sign_alike : (heard next : Heard) (cancelling : Bool) (sign : Sign) → IsPlaced heard.mark sign → heard.done ≡ Awaited → strict_sign cancelling heard sign ≡ Ok next → any_sign cancelling heard sign ≡ Ok next
sign_alike heard next cancelling signs.Nothing placed before e = e
sign_alike heard next cancelling (signs.Change change) placed before e = change_alike heard next change placed e
sign_alike heard next cancelling (signs.Done Statement status) placed before e = statement_alike heard next cancelling status before e
sign_alike heard next cancelling (signs.Done Procedure status) placed before e = absurd cc
sign_alike heard next cancelling (signs.Done InProcedure status) placed before e = absurd cc

before_alike : (heard next : Heard) (cancelling : Bool) (sign : Sign) (done : FinalDone) → IsPlaced heard.mark sign → heard.done ≡ done → strict_before done cancelling heard sign ≡ Ok next → any_sign cancelling heard sign ≡ Ok next
before_alike heard next cancelling sign Awaited placed before e = sign_alike heard next cancelling sign placed before e
before_alike heard next cancelling sign Answered placed before e = absurd cc
before_alike heard next cancelling sign Acknowledged placed before e = absurd cc

heard_alike : (s next : ClientSession) (cancelling : Bool) (sign : Sign) (r : Answer) → IsPlaced s.heard.mark sign → hear_sign Strict cancelling s.heard sign ≡ r → (r >>= λ heard. Ok (with_heard s heard)) ≡ Ok next
    → (hear_sign Any cancelling s.heard sign >>= λ heard. Ok (with_heard s heard)) ≡ Ok next
heard_alike s next cancelling sign (Ok heard) placed said e =
    ap (λ (r : Answer). r >>= λ heard. Ok (with_heard s heard)) (before_alike s.heard heard cancelling sign s.heard.done placed refl said) ∙ e
heard_alike s next cancelling sign (Err fault) placed said e = absurd cc

signed_alike : (s next : ClientSession) (sign : Sign) (stage : Stage) → IsPlaced s.heard.mark sign → signed_in Strict stage s sign ≡ Ok next → signed_in Any stage s sign ≡ Ok next
signed_alike s next sign Idle placed e = absurd cc
signed_alike s next sign (Sending kind left packets) placed e = absurd cc
signed_alike s next sign Reading placed e = heard_alike s next false sign (hear_sign Strict false s.heard sign) placed refl e
signed_alike s next sign Cancelling placed e = heard_alike s next true sign (hear_sign Strict true s.heard sign) placed refl e
signed_alike s next sign (Broken fault) placed e = absurd cc

pub alike : (s next : ClientSession) (sign : Sign) → IsPlaced s.heard.mark sign → signed Strict s sign ≡ Ok next → signed Any s sign ≡ Ok next
alike s next sign placed e = signed_alike s next sign s.stage placed e
