-- A token that says nothing, before the final DONE, changes nothing.
use Rattle.std.proofs.Common.{◌≡◌, ◌∙◌, ◌&&◌, ◌||◌, not, Bool, true, false, ℕ, List, refl, sym, ap, subst}
use Rattle.std.proofs.Math.Bool.{and-false}
use Rattle.std.specs.Prelude.{if◌then◌else◌}
use Rattle.tds_judge.specs.declared.finding.Finding.{Finding}
use Rattle.tds_judge.specs.declared.finding.Name.TheVariants as names
use Rattle.tds_judge.specs.declared.finding.Spot.{Spot}
use Rattle.tds_judge.specs.declared.judge.Judge.{Judge}
use Rattle.tds_judge.specs.declared.talk.Event.TheVariants as events
use Rattle.tds_wire.specs.declared.told.Told.{Told}
use Rattle.tds_wire.specs.declared.told.Told.TheVariants as told
use Rattle.tds_wire.specs.declared.told.Token.{Token}
use Rattle.tds_judge.specs.Findings.{noted}
use Rattle.tds_judge.specs.Framing.{run_of, said}
use Rattle.tds_judge.specs.declared.talk.Talk.{Talk}
use Rattle.tds_judge.specs.Talking.{admits, is_request, kind_heard, shows_work, talk_by}
use Rattle.tds_judge.specs.Noting.{told_by}

abbrev token_of : ℕ → ℕ → ℕ → Told → Token
token_of kind start length x = record { kind = kind; start = start; length = length; told = x }

either_way : (b : Bool) (xs ys : List Finding) → xs ≡ ys → xs ≡ (if b then xs else ys)
either_way true xs ys so = refl
either_way false xs ys so = so

-- its first byte tells nothing
unnoticed : (t : Talk) (kind : ℕ) → admits kind ≡ false → shows_work kind ≡ false → t ≡ kind_heard t kind
unnoticed t kind outside idle =
    ap (λ (b : Bool). record t { entering = if b then false else t.entering }) (sym outside)
    ∙ ap (λ (b : Bool). record t { entering = if admits kind then false else t.entering; worked = if b then true else t.worked }) (sym idle)

other_mute : (spot : Spot) (kind start length : ℕ) (j : Judge) (xs : List Finding) → j.talk.is_final ≡ false → admits kind ≡ false → shows_work kind ≡ false
    → run_of j xs ≡ said spot (events.Says (token_of kind start length told.Other)) (run_of j xs)
unfolding told_by talk_by
other_mute spot kind start length j xs final outside idle =
    ap (λ (t : Talk). run_of (record j { talk = t }) xs) (unnoticed j.talk kind outside idle)
    ∙ ap (run_of (record j { talk = kind_heard j.talk kind }))
    (either_way j.talk.other xs
    (noted (noted xs spot (j.talk.is_final && (is_request j.talk.asked && (not j.talk.attention && true))) names.TokenAfterFinalDone kind)
    spot (is_request j.talk.asked && ((j.talk.is_final && j.talk.acknowledges) || false)) names.AcknowledgementNotLast kind)
    (sym (ap (λ (b : Bool). noted xs spot b names.AcknowledgementNotLast kind) (and-false (is_request j.talk.asked)))
    ∙ ap (λ (b : Bool). noted (noted xs spot (b && (is_request j.talk.asked && (not j.talk.attention && true))) names.TokenAfterFinalDone kind)
    spot (is_request j.talk.asked && ((b && j.talk.acknowledges) || false)) names.AcknowledgementNotLast kind) (sym final)))

pub mute : (spot : Spot) (token : Token) (j : Judge) (xs : List Finding) → token.told ≡ told.Other → j.talk.is_final ≡ false
    → admits token.kind ≡ false → shows_work token.kind ≡ false
    → run_of j xs ≡ said spot (events.Says token) (run_of j xs)
mute spot token j xs other final outside idle =
    subst (λ (x : Told). run_of j xs ≡ said spot (events.Says (token_of token.kind token.start token.length x)) (run_of j xs)) (sym other)
    (other_mute spot token.kind token.start token.length j xs final outside idle)
