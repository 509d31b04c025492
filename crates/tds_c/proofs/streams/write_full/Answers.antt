use Rattle.std.proofs.Common.{◌≡◌, ◌∙◌, ℕ, ◌+◌, ◌-◌, List, [], ◌++◌, length, take, drop, refl, ap, append_assoc, arith}
use Rattle.std.proofs.lemmas.List.{length-append, length-take-le}
use Rattle.tds_c.specs.Calls.{with_front}
use Rattle.tds_c.proofs.streams.write_full.Goals as goal

pub returns-clause-written : goal.returns-clause-written
returns-clause-written c =
    let kept = c.args.kept.now in
    let out = c.args.out.now in
    let first = take c.args.waiting kept in
    let counted : length (c.args.header ++ first) ≡ 8 + c.args.waiting =
    omega (arith, length-append c.args.header first, c.requires.header, length-take-le c.args.waiting kept c.requires.waiting.1) in
    c.put_at-3.ensures (c.args.header ++ first) out counted (c.put_at-2.ensures c.args.header out c.requires.header (c.put_at.ensures [] out refl refl))
    ∙ ap (λ (bytes : List ℕ). with_front bytes out) (append_assoc c.args.header first (take c.args.end c.args.bytes.now))

pub returns-clause-kept : goal.returns-clause-kept
returns-clause-kept c =
    c.put_at-4.ensures [] c.args.kept.now refl refl
    ∙ ap (λ (n : ℕ). with_front (take n (drop c.args.end c.args.bytes.now)) c.args.kept.now) (let e : c.args.end + 1 - c.args.end ≡ 1 = omega arith in e)
