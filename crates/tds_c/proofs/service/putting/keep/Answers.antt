use Rattle.std.proofs.Common.{◌≡◌, ◌∙◌, ◌≤◌, ◌++◌, length, take, drop, sym, ap, arith, ℕ}
use Rattle.std.proofs.lemmas.List.{length-take-le, take-append-drop}
use Rattle.tds_c.specs.service.Asking.{with_front}
use Rattle.tds_c.proofs.service.putting.keep.Goals as goal

pub returns : goal.returns
returns c =
    let n = c.args.waiting in
    let kept = c.args.kept.now in
    let within : n ≤ length kept = omega (arith, c.requires.room) in
    let long = length-take-le n kept within in
    let own : kept ≡ with_front (take n kept) kept = sym (ap (λ (m : ℕ). take n kept ++ drop m kept) long ∙ take-append-drop n kept) in
    c.put_at.ensures (take n kept) kept long own
