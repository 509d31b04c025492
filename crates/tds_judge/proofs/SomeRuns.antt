-- A run of bytes does what its bytes do, where there is a byte at least.
use Rattle.std.proofs.Common.{◌≡◌, ◌∙◌, ◌≤◌, ◌<◌, ℕ, zero, suc, ◌+◌, true, false, List, [], ◌∷◌, length, take, drop, get_or, Option, Some, None, refl, sym, ap, arith}
use Rattle.std.proofs.Math.Seq.{take-length}
use Rattle.std.proofs.lemmas.List.{length-take-le}
use Rattle.tds_wire.specs.declared.fault.Refusal.{Refusal}
use Rattle.tds_wire.specs.declared.told.Token.{Token}
use Rattle.tds_wire.specs.Reading.{Parser, Sees, Inside as Amid, next_token}
use Rattle.tds_judge.specs.declared.finding.Direction.{Direction}
use Rattle.tds_judge.specs.declared.finding.Direction.TheVariants.{ToClient}
use Rattle.tds_judge.specs.declared.finding.Finding.{Finding}
use Rattle.tds_judge.specs.declared.frame.Due.TheVariants as due
use Rattle.tds_judge.specs.declared.frame.Inside.TheVariants as inside
use Rattle.tds_judge.specs.declared.judge.Judge.{Judge}
use Rattle.tds_judge.specs.declared.talk.Event.TheVariants as events
use Rattle.tds_judge.specs.Framing.{Run, frame_by, refused_as, run_of, said, step, steps, stopped_by, stops}
use Rattle.tds_judge.specs.Runs.{IsRefused, failed, passed, place, spot_at}
use Rattle.tds_judge.proofs.InRuns.{Cuts, skips, stopped, walks_over, walks_to_fault, walks_within}

pub is_none : (parser : Option Parser) → stopped_by parser ≡ true → parser ≡ None
is_none None e = refl
is_none (Some r) e = absurd cc

pub one_step : (d : Direction) (t : ℕ) (bytes : List ℕ) (run : Run) → 0 < length bytes → step d t (get_or bytes 0 0) run ≡ steps d t (take 1 bytes) run
unfolding steps
one_step d t [] run some = absurd (omega (arith, some))
one_step d t (b ∷ bytes) run some = refl

pub all_stopped : (d : Direction) (t : ℕ) (bytes : List ℕ) (j : Judge) (told : List Finding) → j.parser ≡ None → run_of j told ≡ steps d t (take (length bytes) bytes) (run_of j told)
all_stopped d t bytes j told e = sym (stopped d t (take (length bytes) bytes) j told e)

pub some_within : (cuts : Cuts) (t : ℕ) (bytes : List ℕ) (j : Judge) (told : List Finding) (r s : Parser) (left : ℕ) → 0 < length bytes
    → j.server.due ≡ due.Data left → j.server.inside ≡ inside.Walked → j.parser ≡ Some r → next_token r bytes ≡ Amid s → length bytes < left
    → run_of (passed ToClient left (length bytes) (record j { parser = Some s })) told ≡ steps ToClient t (take (length bytes) bytes) (run_of j told)
some_within cuts t [] j told r s left some d i w e few = absurd (omega (arith, some))
some_within cuts t (b ∷ bytes) j told r s left some d i w e few =
    walks_within cuts t b bytes j told r s left d i w e few ∙ ap (λ (ys : List ℕ). steps ToClient t ys (run_of j told)) (sym (take-length (b ∷ bytes)))

pub some_over : (cuts : Cuts) (t n : ℕ) (bytes : List ℕ) (j : Judge) (told : List Finding) (r s : Parser) (left : ℕ) (token : Token)
    → j.server.due ≡ due.Data left → j.server.inside ≡ inside.Walked → j.parser ≡ Some r → next_token r bytes ≡ Sees token s (drop n bytes) → 0 < n → n ≤ length bytes → length bytes < left
    → said (spot_at (place j.server.offset n) t) (events.Says token) (run_of (passed ToClient left n (record j { parser = Some s })) told) ≡ steps ToClient t (take n bytes) (run_of j told)
some_over cuts t zero bytes j told r s left token d i w e some few less = absurd (omega (arith, some))
some_over cuts t (suc n) [] j told r s left token d i w e some few less = absurd (omega (arith, few))
some_over cuts t (suc n) (b ∷ bytes) j told r s left token d i w e some few less = walks_over cuts t b n bytes j told r s left token d i w e (omega (arith, few)) (omega (arith, few, less))

pub some_to_fault : (cuts : Cuts) (t n : ℕ) (bytes : List ℕ) (j : Judge) (told : List Finding) (r : Parser) (left : ℕ) (refusal : Refusal) (h : IsRefused n r bytes) → h.refusal ≡ refusal
    → j.server.due ≡ due.Data left → j.server.inside ≡ inside.Walked → j.parser ≡ Some r → r.refused ≡ None → r.start + r.passed ≤ 9223372036854775808
    → 0 < length bytes → length bytes < left → left ≤ 65535
    → stops (spot_at (place j.server.offset n) t) (refused_as refusal) (run_of (failed left n j) told) ≡ steps ToClient t (take n bytes) (run_of j told)
some_to_fault cuts t n [] j told r left refusal h same d i w whole small some few most = absurd (omega (arith, some))
some_to_fault cuts t zero (b ∷ bytes) j told r left refusal h same d i w whole small some few most = absurd (omega (arith, h.after))
some_to_fault cuts t (suc n) (b ∷ bytes) j told r left refusal h same d i w whole small some few most =
    ap (λ (x : Refusal). stops (spot_at (place j.server.offset (suc n)) t) (refused_as x) (run_of (failed left (suc n) j) told)) (sym same)
    ∙ walks_to_fault cuts t b n bytes j told r left h.refusal d i w whole small h.refuses few most h.after

pub some_skipped : (parser : Option Parser) (d : Direction) (t n : ℕ) (bytes : List ℕ) (j : Judge) (told : List Finding) (left : ℕ) → j.parser ≡ parser → stopped_by parser ≡ false
    → (frame_by d j).due ≡ due.Data left → (frame_by d j).inside ≡ inside.Skipped → 0 < n → n ≤ length bytes → n < left
    → run_of (passed d left n j) told ≡ steps d t (take n bytes) (run_of j told)
some_skipped None d t n bytes j told left w on e i some few less = absurd cc
some_skipped (Some r) d t zero bytes j told left w on e i some few less = absurd (omega (arith, some))
some_skipped (Some r) d t (suc n) [] j told left w on e i some few less = absurd (omega (arith, few))
some_skipped (Some r) d t (suc n) (b ∷ bytes) j told left w on e i some few less =
    let k : length (b ∷ take n bytes) ≡ suc n = omega (arith, length-take-le n bytes (omega (arith, few))) in
    ap (λ (m : ℕ). run_of (passed d left m j) told) (sym k) ∙ skips d t b (take n bytes) j told r left e i w (omega (arith, k, less))
