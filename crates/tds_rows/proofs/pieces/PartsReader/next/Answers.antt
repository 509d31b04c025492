use Rattle.std.proofs.Common.{arith, ◌+◌, ◌-◌, ◌≡◌, ◌≤◌, ◌<◌, ◌∙◌, ℕ, ◌⊎◌, inl, inr, length, sym}
use Rattle.std.proofs.lemmas.Bool.{cases_lt}
use Rattle.tds_rows.proofs.Coming.{own_part, to_part}
use Rattle.tds_rows.proofs.pieces.PartsReader.next.Goals as goal

moving : {A : Type 0} → (start most n : ℕ) → start ≤ most → n ≤ most - start → (0 < most - start → 0 < n) → (0 < most - start) ⊎ (most - start ≤ 0)
    → (0 < n) ⊎ ((start + n ≡ most) ⊎ A)
moving start most n l m h (inl k) = inl (h k)
moving start most n l m h (inr k) = inr (inl (omega (arith, l, m, k)))

pub returns : goal.returns
returns c =
    let start = c.pass_prefix-start.result in
    let n = c.pass_part-length.result in
    let most = length c.args.bytes.now in
    let part = c.is_in_part.ensures.part c.if-not-is_in_part.false in
    let l = c.pass_prefix-start.ensures.within in
    let m = c.pass_part-length.ensures.within in
    let fits : start + n ≤ most = omega (arith, l, m.0) in
    record {
      to = to_part _ _ c.args.bytes.now start c.pass_prefix-start.new.self.left n c.pass_prefix-start.ensures.to part m.1 fits ∙ sym c.pass_part-length.ensures.to;
      own = own_part _ _ c.args.bytes.now start c.pass_prefix-start.new.self.left n c.pass_prefix-start.ensures.to c.pass_prefix-start.ensures.own part m.1 fits;
      within = fits;
      inside = omega arith;
      moves = moving start most n l m.0 c.pass_part-length.ensures.moves (cases_lt 0 (most - start));
    }
