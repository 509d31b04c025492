-- A token takes a byte at least.
use Rattle.std.proofs.Common.{◌≤◌, ◌<◌, ℕ, suc, List, [], ◌∷◌, length, Option, Some, None, arith}
use Rattle.tds_wire.specs.declared.fault.Refusal.{Refusal}
use Rattle.tds_wire.specs.declared.due.Standing.{Standing}
use Rattle.tds_wire.specs.declared.due.Standing.TheVariants.{Between, Going, Failing}
use Rattle.tds_wire.specs.Walking.{Walk}
use Rattle.tds_wire.specs.Bytes.{Went, Over, Within, Failed, onward, standing, walk_step, to_end, went_by, went_on}
use Rattle.tds_wire.specs.Reading.{Parser, Found, Sees, Inside, Refuses, found_by, found_on, next_token}

-- behind a token no more is left than so much
abbrev OverAtMost : ℕ → Went → Type 0
OverAtMost n (Over w rest) = length rest ≤ n
OverAtMost n (Within w) = Unit {0}
OverAtMost n (Failed fault rest) = Unit {0}

abbrev OverFewer : ℕ → Went → Type 0
OverFewer n (Over w rest) = length rest < n
OverFewer n (Within w) = Unit {0}
OverFewer n (Failed fault rest) = Unit {0}

more_left : (n : ℕ) (went : Went) → OverAtMost n went → OverAtMost (suc n) went
more_left n (Over w rest) h = omega (arith, h)
more_left n (Within w) h = tt
more_left n (Failed fault rest) h = tt

fewer_left : (n : ℕ) (went : Went) → OverAtMost n went → OverFewer (suc n) went
fewer_left n (Over w rest) h = omega (arith, h)
fewer_left n (Within w) h = tt
fewer_left n (Failed fault rest) h = tt

left_by : (st : Standing) (w : Walk) (bytes : List ℕ) (went : Went) → OverAtMost (length bytes) went → OverAtMost (length bytes) (went_by st w bytes went)
left_by Between w bytes went h = omega arith
left_by Going w bytes went h = h
left_by (Failing fault) w bytes went h = tt

left_at_end : (w : Walk) (bytes : List ℕ) → OverAtMost (length bytes) (to_end w bytes)
unfolding to_end
left_at_end w [] = left_by (standing w.at.due) w [] (Within w) tt
left_at_end w (byte ∷ bytes) = left_by (standing w.at.due) w (byte ∷ bytes) (to_end (walk_step w byte) bytes) (more_left (length bytes) (to_end (walk_step w byte) bytes) (left_at_end (walk_step w byte) bytes))

fewer_on : (st : Standing) (bytes : List ℕ) (n : ℕ) (went : Went) → OverAtMost n went → OverFewer (suc n) (went_on st bytes went)
fewer_on Between bytes n went h = fewer_left n went h
fewer_on Going bytes n went h = fewer_left n went h
fewer_on (Failing fault) bytes n went h = tt

-- fewer than so many are left
abbrev pub TakesSome : ℕ → Found → Type 0
TakesSome n (Sees token r rest) = length rest < n
TakesSome n (Inside r) = Unit {0}
TakesSome n (Refuses refusal) = Unit {0}

takes_by : (r : Parser) (piece : List ℕ) (n : ℕ) (went : Went) → OverFewer n went → TakesSome n (found_by r piece went)
takes_by r piece n (Over w rest) h = h
takes_by r piece n (Within w) h = tt
takes_by r piece n (Failed fault rest) h = tt

takes_on : (o : Option Refusal) (r : Parser) (piece : List ℕ) (n : ℕ) → OverFewer n (onward r.walk piece) → TakesSome n (found_on o r piece)
takes_on None r piece n h = takes_by r piece n (onward r.walk piece) h
takes_on (Some refusal) r piece n h = tt

fewer_onward : (w : Walk) (byte : ℕ) (bytes : List ℕ) → OverFewer (suc (length bytes)) (onward w (byte ∷ bytes))
unfolding onward
fewer_onward w byte bytes = fewer_on (standing w.at.due) (byte ∷ bytes) (length bytes) (to_end (walk_step w byte) bytes) (left_at_end (walk_step w byte) bytes)

pub takes_some : (r : Parser) (byte : ℕ) (bytes : List ℕ) → TakesSome (suc (length bytes)) (next_token r (byte ∷ bytes))
unfolding next_token
takes_some r byte bytes = takes_on r.refused r (byte ∷ bytes) (suc (length bytes)) (fewer_onward r.walk byte bytes)

none_on : (st : Standing) (w : Walk) → OverFewer 0 (went_on st [] (Within w))
none_on Between w = tt
none_on Going w = tt
none_on (Failing fault) w = tt

fewer_any : (w : Walk) (bytes : List ℕ) → OverFewer (length bytes) (onward w bytes)
unfolding onward
fewer_any w [] = none_on (standing w.at.due) w
fewer_any w (byte ∷ bytes) = fewer_onward w byte bytes

-- of any bytes
pub takes_any : (r : Parser) (bytes : List ℕ) → TakesSome (length bytes) (next_token r bytes)
unfolding next_token
takes_any r bytes = takes_on r.refused r bytes (length bytes) (fewer_any r.walk bytes)
