use Rattle.std.proofs.Common.{rules, arith, ◌+◌, ◌≡◌, ◌<◌, ◌∙◌}
use Rattle.tds_rows.proofs.Own.{byte_owns, count_lacks, fixed_owns, none_owned, shape_byte, shape_fixed, shape_short, two_owns}
use Rattle.tds_rows.proofs.short.own_bytes.Goals as goal

pub returns-then-column-eq0-clause-owns : goal.returns-then-column-eq0-clause-owns
returns-then-column-eq0-clause-owns c =
    let few : c.args.column.bytes < 65536 = search rules in
    rw (shape_fixed c.args.column c.if-column-eq0.true) (rw c.from.ensures (fixed_owns c.args.column.bytes c.args.at _ c.args.bytes.now c.from-null.ensures c.requires few))

pub returns-then-bytes-start-clause-none : goal.returns-then-bytes-start-clause-none
returns-then-bytes-start-clause-none c = λ short.
    count_lacks c.args.column c.args.at c.args.bytes.now c.if-column-eq0.false short c.requires (omega (arith, c.if-bytes-start.true, c.from-2.ensures))

pub returns-then-column-eq1-clause-owns : goal.returns-then-column-eq1-clause-owns
returns-then-column-eq1-clause-owns c =
    let one : c.from-2.result ≡ 1 = c.from-2.ensures ∙ c.if-column-eq1.true in
    rw (shape_byte c.args.column c.if-column-eq1.true) (rw one (rw c.from-then-column-eq1.ensures
    (byte_owns c.args.at _ c.args.bytes.now c.from-then-column-eq1-2.ensures (omega (arith, c.if-bytes-start.false, one)) (omega (arith, c.type_inv.bytes c.args.at)))))

pub returns-then-count-eq65535-clause-owns : goal.returns-then-count-eq65535-clause-owns
returns-then-count-eq65535-clause-owns c =
    let form : c.args.column.form ≡ 2 = search rules in
    let two : c.from-2.result ≡ 2 = c.from-2.ensures ∙ form in
    rw (shape_short c.args.column form) (rw two
    (none_owned c.args.at c.args.bytes.now (search rules) (omega (arith, c.if-bytes-start.false, two))))

pub returns-clause-owns : goal.returns-clause-owns
returns-clause-owns c =
    let form : c.args.column.form ≡ 2 = search rules in
    let two : c.from-2.result ≡ 2 = c.from-2.ensures ∙ form in
    rw (shape_short c.args.column form) (rw two
    (two_owns c.args.at c.two_at-count.result c.args.bytes.now c.two_at-count.ensures (search rules) (omega (arith, c.if-bytes-start.false, two))
    (omega (arith, c.two_at-count.ensures, c.type_inv.bytes c.args.at, c.type_inv.bytes (c.args.at + 1)))))
