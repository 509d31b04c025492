-- Rows in a run of a packet's bytes: what they do is nothing but to be passed.
use Rattle.std.proofs.Common.{◌≡◌, ◌∙◌, ◌≤◌, ◌<◌, ℕ, List, length, take, Some, false, refl, ap}
use Rattle.tds_wire.specs.Reading.{Parser}
use Rattle.tds_wire.specs.Rows.{IsPassed, row_token}
use Rattle.tds_judge.specs.declared.finding.Direction.TheVariants.{ToClient}
use Rattle.tds_judge.specs.declared.finding.Finding.{Finding}
use Rattle.tds_judge.specs.declared.frame.Due.TheVariants as due
use Rattle.tds_judge.specs.declared.frame.Inside.TheVariants as inside
use Rattle.tds_judge.specs.declared.judge.Judge.{Judge}
use Rattle.tds_judge.specs.Framing.{run_of, steps}
use Rattle.tds_judge.specs.Runs.{passed, place, spot_at}
use Rattle.tds_judge.proofs.InRuns.{Cuts}
use Rattle.tds_judge.proofs.Mute.{mute}
use Rattle.tds_judge.proofs.SomeRuns.{some_over}

pub row_steps : (cuts : Cuts) (t n : ℕ) (bytes : List ℕ) (j : Judge) (told : List Finding) (r s : Parser) (left : ℕ)
    → j.server.due ≡ due.Data left → j.server.inside ≡ inside.Walked → j.parser ≡ Some r → j.talk.is_final ≡ false → IsPassed n r s bytes
    → 0 < n → n ≤ length bytes → length bytes < left
    → run_of (passed ToClient left n (record j { parser = Some s })) told ≡ steps ToClient t (take n bytes) (run_of j told)
row_steps cuts t n bytes j told r s left d i w unended h some few less =
    mute (spot_at (place j.server.offset n) t) (row_token n r) (passed ToClient left n (record j { parser = Some s })) told refl unended refl refl
    ∙ some_over cuts t n bytes j told r s left (row_token n r) d i w h some few less

-- no byte, and nothing is done
pub no_steps : (t : ℕ) (bytes : List ℕ) (j k : Judge) (told : List Finding) → k ≡ j → run_of k told ≡ steps ToClient t (take 0 bytes) (run_of j told)
unfolding steps
no_steps t bytes j k told same = ap (λ (x : Judge). run_of x told) same
