-- Turns: when two are the same, and the one after another.
use Rattle.std.proofs.Common.{◌≡◌, ℕ, Bool, true, false, ◌+◌, ◌<◌, ◌≤◌, refl, ap, ◌∙◌, cond, arith}
use Rattle.std.proofs.Math.Dec.{eqb, ltb}
use Rattle.std.proofs.lemmas.Bool.{eqb-true, eq-eqb, ltb-false}
use Rattle.std.specs.Prelude.{◌&&◌}
use Rattle.tds_pool.specs.declared.lease.Turn.{Turn}
use Rattle.tds_pool.specs.Connections.{next_turn, same_turn}

pub both_hold : (a b : Bool) → (a && b) ≡ true → (a ≡ true) × (b ≡ true)
both_hold true b h = (refl, h)
both_hold false b h = absurd (cc)

pub turn_is : (a b : Turn) → a.pool ≡ b.pool → a.count ≡ b.count → a ≡ b
turn_is a b pool count =
    ap (λ (p : ℕ). record a { pool = p }) pool ∙ ap (λ (n : ℕ). record b { count = n }) count

pub same_is : (a b : Turn) → same_turn a b ≡ true → a ≡ b
same_is a b h =
    let both = both_hold (eqb a.pool b.pool) (eqb a.count b.count) h in
    turn_is a b (eqb-true a.pool b.pool both.0) (eqb-true a.count b.count both.1)

both_true : (a b : Bool) → a ≡ true → b ≡ true → (a && b) ≡ true
both_true true b h i = i
both_true false b h i = absurd (cc)

pub is_same : (a : Turn) → same_turn a a ≡ true
is_same a = both_true (eqb a.pool a.pool) (eqb a.count a.count) (eq-eqb a.pool a.pool refl) (eq-eqb a.count a.count refl)

grows_by : (b : Bool) (n : ℕ) → n ≤ cond b (n + 1) n
grows_by true n = omega arith
grows_by false n = omega arith

pub next_grows : (t : Turn) → t.count ≤ (next_turn t).count
next_grows t = grows_by (ltb t.count 18446744073709551615) t.count

later_by : (b : Bool) (m n : ℕ) → ltb n 18446744073709551615 ≡ b → m ≤ n → m < 18446744073709551615 → m < cond b (n + 1) n
later_by true m n e le lt = omega (arith, le)
later_by false m n e le lt = omega (arith, ltb-false n 18446744073709551615 e, lt)

pub next_later : (m : ℕ) (t : Turn) → m ≤ t.count → m < 18446744073709551615 → m < (next_turn t).count
next_later m t le lt = later_by (ltb t.count 18446744073709551615) m t.count refl le lt
