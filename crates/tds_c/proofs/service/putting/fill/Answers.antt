use Rattle.std.proofs.Common.{◌≡◌, ◌∙◌, ◌+◌, ◌-◌, ℕ, [], take, drop, refl, ap, arith}
use Rattle.tds_c.specs.service.Asking.{with_front}
use Rattle.tds_c.proofs.service.putting.fill.Goals as goal

pub returns-clause-kept : goal.returns-clause-kept
returns-clause-kept c =
    let end = c.args.end in
    let rest = drop end c.args.bytes.now in
    c.put_at.ensures [] c.args.kept.now refl refl
    ∙ ap (λ (n : ℕ). with_front (take n rest) c.args.kept.now) (let one : end + 1 - end ≡ 1 = omega arith in one)
