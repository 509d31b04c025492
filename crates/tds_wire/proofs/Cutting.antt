-- How a message's bytes are cut doesn't matter to a parser, and it sees what the layout says.
use Rattle.std.proofs.Common.{◌≡◌, ◌∙◌, ◌≤◌, ◌<◌, ℕ, suc, ◌+◌, ◌-◌, List, [], ◌∷◌, ◌++◌, length, take, get_or, Option, Some, None, refl, sym, ap, arith}
use Rattle.std.proofs.lemmas.List.{length-append, take-append-le, get_or-append-add}
use Rattle.std.proofs.Math.Seq.{take-append-add}
use Rattle.tds_wire.specs.declared.fault.Refusal.{Refusal}
use Rattle.tds_wire.specs.declared.fault.WireFault.{WireFault}
use Rattle.tds_wire.specs.declared.due.Standing.{Standing}
use Rattle.tds_wire.specs.declared.due.Standing.TheVariants.{Between, Going, Failing}
use Rattle.tds_wire.specs.declared.told.Token.{Token}
use Rattle.tds_wire.specs.Walking.{Walk}
use Rattle.tds_wire.specs.Bytes.{Went, Over, Within, Failed, onward, seen, standing, walk_step, then_piece, to_end, went_by, went_on}
use Rattle.tds_wire.specs.Told.{added, told_of}
use Rattle.tds_wire.specs.Reading.{IsReady, Parser, Sees, Inside, Refuses, behind, found_by, found_on, front_of, inside, kept, laid_by, laid_out, next_token, outcome_of, refusal_at, then_found, token_with}
use Rattle.tds_wire.proofs.Kept.{kept_kept}
use Rattle.tds_wire.proofs.TokensPassed.{token_seen}
use Rattle.tds_wire.proofs.Walks.{cut}

-- ---- How many bytes are left

abbrev LeavesAtMost : ℕ → Went → Type 0
LeavesAtMost n (Over w rest) = length rest ≤ n
LeavesAtMost n (Within w) = Unit {0}
LeavesAtMost n (Failed fault rest) = length rest ≤ n

abbrev LeavesFewer : ℕ → Went → Type 0
LeavesFewer n (Over w rest) = length rest < n
LeavesFewer n (Within w) = Unit {0}
LeavesFewer n (Failed fault rest) = length rest < n

more_left : (n : ℕ) (went : Went) → LeavesAtMost n went → LeavesAtMost (suc n) went
more_left n (Over w rest) h = omega (arith, h)
more_left n (Within w) h = tt
more_left n (Failed fault rest) h = omega (arith, h)

fewer_left : (n : ℕ) (went : Went) → LeavesAtMost n went → LeavesFewer (suc n) went
fewer_left n (Over w rest) h = omega (arith, h)
fewer_left n (Within w) h = tt
fewer_left n (Failed fault rest) h = omega (arith, h)

left_by : (st : Standing) (w : Walk) (bytes : List ℕ) (went : Went) → LeavesAtMost (length bytes) went → LeavesAtMost (length bytes) (went_by st w bytes went)
left_by Between w bytes went h = omega arith
left_by Going w bytes went h = h
left_by (Failing fault) w bytes went h = omega arith

left_at_end : (w : Walk) (bytes : List ℕ) → LeavesAtMost (length bytes) (to_end w bytes)
unfolding to_end
left_at_end w [] = left_by (standing w.at.due) w [] (Within w) tt
left_at_end w (byte ∷ bytes) = left_by (standing w.at.due) w (byte ∷ bytes) (to_end (walk_step w byte) bytes) (more_left (length bytes) (to_end (walk_step w byte) bytes) (left_at_end (walk_step w byte) bytes))

left_on : (st : Standing) (bytes : List ℕ) (went : Went) → LeavesAtMost (length bytes) went → LeavesAtMost (length bytes) (went_on st bytes went)
left_on Between bytes went h = h
left_on Going bytes went h = h
left_on (Failing fault) bytes went h = omega arith

left_onward : (w : Walk) (bytes : List ℕ) → LeavesAtMost (length bytes) (onward w bytes)
unfolding onward
left_onward w [] = left_on (standing w.at.due) [] (Within w) tt
left_onward w (byte ∷ bytes) = left_on (standing w.at.due) (byte ∷ bytes) (to_end (walk_step w byte) bytes) (more_left (length bytes) (to_end (walk_step w byte) bytes) (left_at_end (walk_step w byte) bytes))

-- a cursor that isn't broken
abbrev IsGood : Standing → Type 0
IsGood st = (fault : WireFault) → st ≡ Failing fault → ⊥

fewer_on : (st : Standing) (bytes : List ℕ) (n : ℕ) (went : Went) → IsGood st → LeavesFewer n went → LeavesFewer n (went_on st bytes went)
fewer_on Between bytes n went good h = h
fewer_on Going bytes n went good h = h
fewer_on (Failing fault) bytes n went good h = absurd (good fault refl)

fewer_onward : (w : Walk) (bytes : List ℕ) → IsGood (standing w.at.due) → LeavesFewer (length bytes) (onward w bytes)
unfolding onward
fewer_onward w [] good = fewer_on (standing w.at.due) [] 0 (Within w) good tt
fewer_onward w (byte ∷ bytes) good = fewer_on (standing w.at.due) (byte ∷ bytes) (suc (length bytes)) (to_end (walk_step w byte) bytes) good (fewer_left (length bytes) (to_end (walk_step w byte) bytes) (left_at_end (walk_step w byte) bytes))

-- inside a token it isn't broken
abbrev StaysGood : Went → Type 0
StaysGood (Over w rest) = Unit {0}
StaysGood (Within w) = IsGood (standing w.at.due)
StaysGood (Failed fault rest) = Unit {0}

good_by : (st : Standing) (w : Walk) (bytes : List ℕ) (went : Went) → (IsGood st → StaysGood went) → StaysGood (went_by st w bytes went)
good_by Between w bytes went h = tt
good_by Going w bytes went h = h (λ fault e. absurd cc)
good_by (Failing fault) w bytes went h = tt

good_at_end : (w : Walk) (bytes : List ℕ) → StaysGood (to_end w bytes)
unfolding to_end
good_at_end w [] = good_by (standing w.at.due) w [] (Within w) (λ good. good)
good_at_end w (byte ∷ bytes) = good_by (standing w.at.due) w (byte ∷ bytes) (to_end (walk_step w byte) bytes) (λ good. good_at_end (walk_step w byte) bytes)

good_on : (st : Standing) (bytes : List ℕ) (went : Went) → (IsGood st → StaysGood went) → StaysGood (went_on st bytes went)
good_on Between bytes went h = h (λ fault e. absurd cc)
good_on Going bytes went h = h (λ fault e. absurd cc)
good_on (Failing fault) bytes went h = tt

good_onward : (w : Walk) (bytes : List ℕ) → StaysGood (onward w bytes)
unfolding onward
good_onward w [] = good_on (standing w.at.due) [] (Within w) (λ good. good)
good_onward w (byte ∷ bytes) = good_on (standing w.at.due) (byte ∷ bytes) (to_end (walk_step w byte) bytes) (λ good. good_at_end (walk_step w byte) bytes)

-- ---- The bytes before those that are left

front_more : (first second rest : List ℕ) → length rest ≤ length first → front_of (first ++ second) (rest ++ second) ≡ front_of first rest
front_more first second rest few =
    let n : length (first ++ second) ≡ length first + length second = length-append first second in
    let m : length (rest ++ second) ≡ length rest + length second = length-append rest second in
    let e : length (first ++ second) - length (rest ++ second) ≡ length first - length rest = omega (arith, n, m, few) in
    ap (λ (k : ℕ). take k (first ++ second)) e ∙ take-append-le (length first - length rest) first second (omega arith)

front_later : (first second rest : List ℕ) → length rest ≤ length second → front_of (first ++ second) rest ≡ first ++ front_of second rest
front_later first second rest few =
    let n : length (first ++ second) ≡ length first + length second = length-append first second in
    let e : length (first ++ second) - length rest ≡ length first + (length second - length rest) = omega (arith, n, few) in
    ap (λ (k : ℕ). take k (first ++ second)) e ∙ take-append-add first second (length second - length rest)

-- ---- What a token has, in two pieces

added_added : (a b c : ℕ) → added (added a b) c ≡ added a (b + c)
added_added a b c = omega arith

added_append : (a : ℕ) (first last : List ℕ) → added (added a (length first)) (length last) ≡ added a (length (first ++ last))
added_append a first last = added_added a (length first) (length last) ∙ ap (added a) (sym (length-append first last))

abbrev token_as : Parser → ℕ → ℕ → List ℕ → Token
token_as r kind size head = record { kind = kind; start = r.start; length = size; told = told_of kind r.start size head }

token_later : (r : Parser) (w : Walk) (kind : ℕ) (first last : List ℕ) → token_with (inside r w first) kind last ≡ token_with r kind (first ++ last)
token_later r w kind first last =
    ap (λ (n : ℕ). token_as r kind n (kept (kept r.head first) last)) (added_append r.passed first last)
    ∙ ap (token_as r kind (added r.passed (length (first ++ last)))) (kept_kept r.head first last)

behind_later : (r : Parser) (w v : Walk) (first last : List ℕ) → behind (inside r w first) v last ≡ behind r v (first ++ last)
behind_later r w v first last =
    ap (λ (n : ℕ). record { walk = v; head = []; start = added r.start n; passed = 0; refused = None }) (added_append r.passed first last)

abbrev inside_as : Parser → Walk → ℕ → List ℕ → Parser
inside_as r v n head = record { walk = v; head = head; start = r.start; passed = n; refused = None }

inside_later : (r : Parser) (w v : Walk) (first last : List ℕ) → inside (inside r w first) v last ≡ inside r v (first ++ last)
inside_later r w v first last =
    ap (λ (n : ℕ). inside_as r v n (kept (kept r.head first) last)) (added_append r.passed first last)
    ∙ ap (inside_as r v (added r.passed (length (first ++ last)))) (kept_kept r.head first last)

last_later : (first last : List ℕ) → 0 < length last → get_or last (length last - 1) 0 ≡ get_or (first ++ last) (length (first ++ last) - 1) 0
last_later first last some =
    let n : length (first ++ last) ≡ length first + length last = length-append first last in
    let e : length (first ++ last) - 1 ≡ length first + (length last - 1) = omega (arith, n, some) in
    sym (ap (λ (k : ℕ). get_or (first ++ last) k 0) e ∙ get_or-append-add first last (length last - 1) 0)

abbrev refusal_as : WireFault → ℕ → ℕ → Refusal
refusal_as fault byte at = record { fault = fault; byte = byte; at = at }

refusal_later : (r : Parser) (w : Walk) (fault : WireFault) (first last : List ℕ) → 0 < length last → refusal_at (inside r w first) fault last ≡ refusal_at r fault (first ++ last)
refusal_later r w fault first last some =
    ap (λ (n : ℕ). refusal_as fault (get_or last (length last - 1) 0) (added r.start (n - 1))) (added_append r.passed first last)
    ∙ ap (λ (b : ℕ). refusal_as fault b (added r.start (added r.passed (length (first ++ last)) - 1))) (last_later first last some)

-- ---- Cutting

some_front : (bytes rest : List ℕ) → length rest < length bytes → 0 < length (front_of bytes rest)
some_front [] rest h = absurd (omega (arith, h))
some_front (b ∷ bytes) rest h =
    let e : length (b ∷ bytes) - length rest ≡ suc (length bytes - length rest) = omega (arith, h) in
    let p : front_of (b ∷ bytes) rest ≡ b ∷ take (length bytes - length rest) bytes = ap (λ (k : ℕ). take k (b ∷ bytes)) e in
    let q : length (front_of (b ∷ bytes) rest) ≡ suc (length (take (length bytes - length rest) bytes)) = ap length p in
    omega (arith, q)

later_by : (r : Parser) (w : Walk) (first second : List ℕ) (went : Went) → LeavesFewer (length second) went
    → found_by (inside r w first) second went ≡ found_by r (first ++ second) went
later_by r w first second (Over v rest) h =
    let f : front_of (first ++ second) rest ≡ first ++ front_of second rest = front_later first second rest (omega (arith, h)) in
    ap (λ (t : Token). Sees t (behind (inside r w first) v (front_of second rest)) rest) (token_later r w v.at.kind first (front_of second rest))
    ∙ (ap (λ (s : Parser). Sees (token_with r v.at.kind (first ++ front_of second rest)) s rest) (behind_later r w v first (front_of second rest))
    ∙ ap (λ (last : List ℕ). Sees (token_with r v.at.kind last) (behind r v last) rest) (sym f))
later_by r w first second (Within v) h = ap Inside (inside_later r w v first second)
later_by r w first second (Failed fault rest) h =
    let f : front_of (first ++ second) rest ≡ first ++ front_of second rest = front_later first second rest (omega (arith, h)) in
    ap Refuses (refusal_later r w fault first (front_of second rest) (some_front second rest h)
    ∙ ap (refusal_at r fault) (sym f))

cut_by : (r : Parser) (first second : List ℕ) (went : Went) → LeavesAtMost (length first) went → StaysGood went
    → then_found (found_by r first went) second ≡ found_by r (first ++ second) (then_piece went second)
unfolding next_token
cut_by r first second (Over w rest) few good =
    ap (λ (last : List ℕ). Sees (token_with r w.at.kind last) (behind r w last) (rest ++ second)) (sym (front_more first second rest few))
cut_by r first second (Within w) few good = later_by r w first second (onward w second) (fewer_onward w second good)
cut_by r first second (Failed fault rest) few good =
    ap (λ (last : List ℕ). Refuses (refusal_at r fault last)) (sym (front_more first second rest few))

cut_on : (o : Option Refusal) (r : Parser) (first second : List ℕ) → then_found (found_on o r first) second ≡ found_on o r (first ++ second)
cut_on (Some refusal) r first second = refl
cut_on None r first second =
    cut_by r first second (onward r.walk first) (left_onward r.walk first) (good_onward r.walk first)
    ∙ ap (found_by r (first ++ second)) (cut r.walk first second)

-- two pieces do what both do as one
pub cut_found : (r : Parser) (first second : List ℕ) → then_found (next_token r first) second ≡ next_token r (first ++ second)
unfolding next_token
cut_found r first second = cut_on r.refused r first second

-- ---- As the layout has it

outcome_by : (r : Parser) (piece : List ℕ) (went : Went) → outcome_of (found_by r piece went) ≡ laid_by r piece (seen went)
outcome_by r piece (Over w rest) = refl
outcome_by r piece (Within w) = refl
outcome_by r piece (Failed fault rest) = refl

pub laid_found : (r : Parser) (piece : List ℕ) → IsReady r → outcome_of (next_token r piece) ≡ laid_out r piece
unfolding next_token
laid_found r piece h =
    ap (λ (o : Option Refusal). outcome_of (found_on o r piece)) h.whole
    ∙ (outcome_by r piece (onward r.walk piece)
    ∙ ap (laid_by r piece) (token_seen r.walk piece h.walk.due h.walk.columns h.walk.nulls))
