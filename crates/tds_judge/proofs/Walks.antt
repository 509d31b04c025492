-- What a parser's byte does, and how many bytes are left behind a token or a fault.
use Rattle.std.proofs.Common.{◌≡◌, ◌≤◌, ◌<◌, ℕ, suc, List, [], ◌∷◌, ◌++◌, length, Option, Some, None, refl, sym, ap, arith}
use Rattle.tds_wire.specs.declared.fault.Refusal.{Refusal}
use Rattle.tds_wire.specs.declared.fault.WireFault.{WireFault}
use Rattle.tds_wire.specs.declared.due.Standing.{Standing}
use Rattle.tds_wire.specs.declared.due.Standing.TheVariants.{Between, Going, Failing}
use Rattle.tds_wire.specs.declared.told.Token.{Token}
use Rattle.tds_wire.specs.Walking.{Walk}
use Rattle.tds_wire.specs.Bytes.{Went, Over, Within, Failed, onward, standing, walk_step, then_piece, to_end, went_by, went_on}
use Rattle.tds_wire.specs.Reading.{Parser, Sees, found_by, found_on, next_token}

-- ---- How many bytes are left

abbrev pub AtMost : ℕ → Went → Type 0
AtMost n (Over w rest) = length rest ≤ n
AtMost n (Within w) = Unit {0}
AtMost n (Failed fault rest) = length rest ≤ n

abbrev Fewer : ℕ → Went → Type 0
Fewer n (Over w rest) = length rest < n
Fewer n (Within w) = Unit {0}
Fewer n (Failed fault rest) = Unit {0}

one_more : (n : ℕ) (went : Went) → AtMost n went → AtMost (suc n) went
one_more n (Over w rest) h = omega (arith, h)
one_more n (Within w) h = tt
one_more n (Failed fault rest) h = omega (arith, h)

most_by : (st : Standing) (w : Walk) (bytes : List ℕ) (went : Went) → AtMost (length bytes) went → AtMost (length bytes) (went_by st w bytes went)
most_by Between w bytes went h = omega arith
most_by Going w bytes went h = h
most_by (Failing fault) w bytes went h = omega arith

most_at_end : (w : Walk) (bytes : List ℕ) → AtMost (length bytes) (to_end w bytes)
unfolding to_end
most_at_end w [] = most_by (standing w.at.due) w [] (Within w) tt
most_at_end w (byte ∷ bytes) = most_by (standing w.at.due) w (byte ∷ bytes) (to_end (walk_step w byte) bytes) (one_more (length bytes) (to_end (walk_step w byte) bytes) (most_at_end (walk_step w byte) bytes))

most_on : (st : Standing) (bytes : List ℕ) (went : Went) → AtMost (length bytes) went → AtMost (length bytes) (went_on st bytes went)
most_on Between bytes went h = h
most_on Going bytes went h = h
most_on (Failing fault) bytes went h = omega arith

pub most_onward : (w : Walk) (bytes : List ℕ) → AtMost (length bytes) (onward w bytes)
unfolding onward
most_onward w [] = most_on (standing w.at.due) [] (Within w) tt
most_onward w (byte ∷ bytes) = most_on (standing w.at.due) (byte ∷ bytes) (to_end (walk_step w byte) bytes) (one_more (length bytes) (to_end (walk_step w byte) bytes) (most_at_end (walk_step w byte) bytes))

fewer_of : (n : ℕ) (went : Went) → AtMost n went → Fewer (suc n) went
fewer_of n (Over w rest) h = omega (arith, h)
fewer_of n (Within w) h = tt
fewer_of n (Failed fault rest) h = tt

fewer_on : (st : Standing) (bytes : List ℕ) (n : ℕ) (went : Went) → Fewer n went → Fewer n (went_on st bytes went)
fewer_on Between bytes n went h = h
fewer_on Going bytes n went h = h
fewer_on (Failing fault) bytes n went h = tt

fewer : (w : Walk) (bytes : List ℕ) → Fewer (length bytes) (onward w bytes)
unfolding onward
fewer w [] = fewer_on (standing w.at.due) [] 0 (Within w) tt
fewer w (byte ∷ bytes) = fewer_on (standing w.at.due) (byte ∷ bytes) (suc (length bytes)) (to_end (walk_step w byte) bytes) (fewer_of (length bytes) (to_end (walk_step w byte) bytes) (most_at_end (walk_step w byte) bytes))

-- a token has a byte at least
sees_by : (went : Went) (r : Parser) (piece : List ℕ) (token : Token) (s : Parser) (rest : List ℕ)
    → Fewer (length piece) went → found_by r piece went ≡ Sees token s rest → length rest < length piece
sees_by (Over w left) r piece token s rest h e = let same : left ≡ rest = cc in omega (arith, h, ap length same)
sees_by (Within w) r piece token s rest h e = absurd cc
sees_by (Failed fault left) r piece token s rest h e = absurd cc

sees_on : (o : Option Refusal) (r : Parser) (piece : List ℕ) (token : Token) (s : Parser) (rest : List ℕ)
    → found_on o r piece ≡ Sees token s rest → length rest < length piece
sees_on (Some refusal) r piece token s rest e = absurd cc
sees_on None r piece token s rest e = sees_by (onward r.walk piece) r piece token s rest (fewer r.walk piece) e

pub sees_fewer : (r : Parser) (piece : List ℕ) (token : Token) (s : Parser) (rest : List ℕ)
    → next_token r piece ≡ Sees token s rest → length rest < length piece
unfolding next_token
sees_fewer r piece token s rest e = sees_on r.refused r piece token s rest e

-- ---- A fault

abbrev pub IsOn : Standing → Type 0
IsOn st = (fault : WireFault) → st ≡ Failing fault → ⊥

abbrev pub StaysOn : Went → Type 0
StaysOn (Over w rest) = Unit {0}
StaysOn (Within w) = IsOn (standing w.at.due)
StaysOn (Failed fault rest) = Unit {0}

on_by : (st : Standing) (w : Walk) (bytes : List ℕ) (went : Went) → (IsOn st → StaysOn went) → StaysOn (went_by st w bytes went)
on_by Between w bytes went h = tt
on_by Going w bytes went h = h (λ fault e. absurd cc)
on_by (Failing fault) w bytes went h = tt

on_at_end : (w : Walk) (bytes : List ℕ) → StaysOn (to_end w bytes)
unfolding to_end
on_at_end w [] = on_by (standing w.at.due) w [] (Within w) (λ good. good)
on_at_end w (byte ∷ bytes) = on_by (standing w.at.due) w (byte ∷ bytes) (to_end (walk_step w byte) bytes) (λ good. on_at_end (walk_step w byte) bytes)

on_on : (st : Standing) (bytes : List ℕ) (went : Went) → (IsOn st → StaysOn went) → StaysOn (went_on st bytes went)
on_on Between bytes went h = h (λ fault e. absurd cc)
on_on Going bytes went h = h (λ fault e. absurd cc)
on_on (Failing fault) bytes went h = tt

pub stays_on : (w : Walk) (bytes : List ℕ) → StaysOn (onward w bytes)
unfolding onward
stays_on w [] = on_on (standing w.at.due) [] (Within w) (λ good. good)
stays_on w (byte ∷ bytes) = on_on (standing w.at.due) (byte ∷ bytes) (to_end (walk_step w byte) bytes) (λ good. on_at_end (walk_step w byte) bytes)

-- where bytes are refused: what is left behind the fault
pub record Fails (r : Parser) (piece : List ℕ) : Type 0 where
  pub fault : WireFault
  pub rest : List ℕ
  pub whole : r.refused ≡ None
  pub fails : onward r.walk piece ≡ Failed fault rest

-- a byte at least, where it wasn't broken before
abbrev pub FailsLater : ℕ → Went → Type 0
FailsLater n (Over w rest) = Unit {0}
FailsLater n (Within w) = Unit {0}
FailsLater n (Failed fault rest) = length rest < n

later_of : (n : ℕ) (went : Went) → AtMost n went → FailsLater (suc n) went
later_of n (Over w rest) h = tt
later_of n (Within w) h = tt
later_of n (Failed fault rest) h = omega (arith, h)

later_on : (st : Standing) (bytes : List ℕ) (n : ℕ) (went : Went) → IsOn st → FailsLater n went → FailsLater n (went_on st bytes went)
later_on Between bytes n went good h = h
later_on Going bytes n went good h = h
later_on (Failing fault) bytes n went good h = absurd (good fault refl)

pub fails_later : (w : Walk) (bytes : List ℕ) → IsOn (standing w.at.due) → FailsLater (length bytes) (onward w bytes)
unfolding onward
fails_later w [] good = later_on (standing w.at.due) [] 0 (Within w) good tt
fails_later w (byte ∷ bytes) good = later_on (standing w.at.due) (byte ∷ bytes) (suc (length bytes)) (to_end (walk_step w byte) bytes) good (later_of (length bytes) (to_end (walk_step w byte) bytes) (most_at_end (walk_step w byte) bytes))

-- ---- Two pieces do what both do as one

end_between : (w : Walk) (bytes : List ℕ) → standing w.at.due ≡ Between → to_end w bytes ≡ Over w bytes
unfolding to_end
end_between w [] h = rw h refl
end_between w (b ∷ bytes) h = rw h refl

end_going : (w : Walk) (bytes : List ℕ) → standing w.at.due ≡ Going → to_end w bytes ≡ onward w bytes
unfolding to_end onward
end_going w [] h = rw h refl
end_going w (b ∷ bytes) h = rw h refl

end_failing : (w : Walk) (bytes : List ℕ) (fault : WireFault) → standing w.at.due ≡ Failing fault → to_end w bytes ≡ Failed fault bytes
unfolding to_end
end_failing w [] fault h = rw h refl
end_failing w (b ∷ bytes) fault h = rw h refl

onward_failing : (w : Walk) (bytes : List ℕ) (fault : WireFault) → standing w.at.due ≡ Failing fault → onward w bytes ≡ Failed fault bytes
unfolding onward
onward_failing w [] fault h = rw h refl
onward_failing w (b ∷ bytes) fault h = rw h refl

cut_by : (s : Standing) (w : Walk) (bytes more : List ℕ) (x y : Went) → then_piece x more ≡ y
    → then_piece (went_by s w bytes x) more ≡ went_by s w (bytes ++ more) y
cut_by Between w bytes more x y h = refl
cut_by Going w bytes more x y h = h
cut_by (Failing fault) w bytes more x y h = refl

empty_by : (s : Standing) (w : Walk) (more : List ℕ) → standing w.at.due ≡ s → then_piece (went_by s w [] (Within w)) more ≡ to_end w more
empty_by Between w more h = sym (end_between w more h)
empty_by Going w more h = sym (end_going w more h)
empty_by (Failing fault) w more h = sym (end_failing w more fault h)

cut_end : (w : Walk) (bytes more : List ℕ) → then_piece (to_end w bytes) more ≡ to_end w (bytes ++ more)
unfolding to_end
cut_end w [] more = empty_by (standing w.at.due) w more refl
cut_end w (b ∷ bytes) more = cut_by (standing w.at.due) w (b ∷ bytes) more _ _ (cut_end (walk_step w b) bytes more)

cut_on : (s : Standing) (bytes more : List ℕ) (x y : Went) → then_piece x more ≡ y → then_piece (went_on s bytes x) more ≡ went_on s (bytes ++ more) y
cut_on Between bytes more x y h = h
cut_on Going bytes more x y h = h
cut_on (Failing fault) bytes more x y h = refl

nothing_by : (s : Standing) (w : Walk) (more : List ℕ) → standing w.at.due ≡ s → then_piece (went_on s [] (Within w)) more ≡ onward w more
nothing_by Between w more h = refl
nothing_by Going w more h = refl
nothing_by (Failing fault) w more h = sym (onward_failing w more fault h)

pub cut : (w : Walk) (bytes more : List ℕ) → then_piece (onward w bytes) more ≡ onward w (bytes ++ more)
unfolding onward
cut w [] more = nothing_by (standing w.at.due) w more refl
cut w (b ∷ bytes) more = cut_on (standing w.at.due) (b ∷ bytes) more _ _ (cut_end (walk_step w b) bytes more)
