-- The line of memory, which was written whole or not at all.
use Rattle.std.proofs.Common.{◌≡◌, ◌<◌, ◌≤◌, ◌⊎◌, inl, inr, ℕ, zero, suc, List, length, refl, sym, ◌∙◌, arith}
use Rattle.std.specs.Prelude.{codes}
use Rattle.tds_play_c.specs.Plays.{Writes, WritesFault}

le_or_lt : (a b : ℕ) → (a ≤ b) ⊎ (b < a)
le_or_lt zero b = inl (omega arith)
le_or_lt (suc a) zero = inr (omega arith)
le_or_lt (suc a) (suc b) = elim (le_or_lt a b) [
  | inl l ↦ inl (omega (arith, l))
  | inr l ↦ inr (omega (arith, l))
]

abbrev memory_line : List ℕ
memory_line = codes "error: memory\n"

pub memory_written : (schedule before after : List ℕ) (count result : ℕ)
    → (length before < length memory_line → (result ≡ 2) × (after ≡ before) × (count ≡ length memory_line))
    → (length memory_line ≤ length before → (result ≡ 1) × Writes memory_line before after count)
    → result ≡ 1 → WritesFault schedule before after count
memory_written schedule before after count result room there is = elim (le_or_lt (length memory_line) (length before)) [
  | inl fits ↦ (memory_line, inr refl, (there fits).1)
  | inr less ↦ (let two : 1 ≡ 2 = sym is ∙ (room less).0 in absurd (omega (arith, two)))
]
