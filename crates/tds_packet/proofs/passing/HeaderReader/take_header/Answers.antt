use Rattle.std.proofs.Common.{◌+◌, ◌-◌, ◌*◌, slice_index, ap, ◌∙◌, arith}
use borrow.Rule.Slice.PartMut.{put_mid}
use Rattle.tds_packet.specs.declared.passing.Passed.TheVariants.{Begins}
use Rattle.tds_packet.proofs.Passings.{joins, header_count, part_place, part_says, whole_place, wrong_says, whole_says}
use Rattle.tds_packet.proofs.passing.HeaderReader.take_header.Goals as goal

pub returns-then-start-count-lt8-clause-count : goal.returns-then-start-count-lt8-clause-count
returns-then-start-count-lt8-clause-count c =
    let k = c.from-start.result + c.min-count.result - c.from-start.result in
    let j = joins c.self.inside c.from-start.result c.min-count.result k c.args.piece.now c.copy_from_slice.new.self (ap (λ p. p.due) c.self.view_is ∙ c.requires) c.self.told c.self.invariant.few c.from-start.ensures c.min-count.ensures (omega arith) c.copy_from_slice.ensures.after in
    let now = put_mid c.from-start.result k c.self.inside.bytes c.copy_from_slice.new.self in
    rw (← c.self.view_is) (header_count c.self.inside _ c.args.piece.now j.none j.room j.count)

pub returns-then-start-count-lt8-clause-place : goal.returns-then-start-count-lt8-clause-place
returns-then-start-count-lt8-clause-place c =
    let k = c.from-start.result + c.min-count.result - c.from-start.result in
    let j = joins c.self.inside c.from-start.result c.min-count.result k c.args.piece.now c.copy_from_slice.new.self (ap (λ p. p.due) c.self.view_is ∙ c.requires) c.self.told c.self.invariant.few c.from-start.ensures c.min-count.ensures (omega arith) c.copy_from_slice.ensures.after in
    let now = put_mid c.from-start.result k c.self.inside.bytes c.copy_from_slice.new.self in
    rw (← c.self.view_is) (part_place c.self.inside _ c.args.piece.now now j (omega (arith, c.if-start-count-lt8.true, c.from-start.ensures)))

pub returns-then-start-count-lt8-clause-says : goal.returns-then-start-count-lt8-clause-says
returns-then-start-count-lt8-clause-says c =
    let k = c.from-start.result + c.min-count.result - c.from-start.result in
    let j = joins c.self.inside c.from-start.result c.min-count.result k c.args.piece.now c.copy_from_slice.new.self (ap (λ p. p.due) c.self.view_is ∙ c.requires) c.self.told c.self.invariant.few c.from-start.ensures c.min-count.ensures (omega arith) c.copy_from_slice.ensures.after in
    let now = put_mid c.from-start.result k c.self.inside.bytes c.copy_from_slice.new.self in
    rw (← c.self.view_is) (part_says c.self.inside _ c.args.piece.now now j (omega (arith, c.if-start-count-lt8.true, c.from-start.ensures)))

pub returns-then-length-lt8-clause-count : goal.returns-then-length-lt8-clause-count
returns-then-length-lt8-clause-count c =
    let k = c.from-start.result + c.min-count.result - c.from-start.result in
    let j = joins c.self.inside c.from-start.result c.min-count.result k c.args.piece.now c.copy_from_slice.new.self (ap (λ p. p.due) c.self.view_is ∙ c.requires) c.self.told c.self.invariant.few c.from-start.ensures c.min-count.ensures (omega arith) c.copy_from_slice.ensures.after in
    let now = put_mid c.from-start.result k c.self.inside.bytes c.copy_from_slice.new.self in
    rw (← c.self.view_is) (header_count c.self.inside _ c.args.piece.now j.none j.room j.count)

pub returns-then-length-lt8-clause-place : goal.returns-then-length-lt8-clause-place
returns-then-length-lt8-clause-place c =
    let k = c.from-start.result + c.min-count.result - c.from-start.result in
    let j = joins c.self.inside c.from-start.result c.min-count.result k c.args.piece.now c.copy_from_slice.new.self (ap (λ p. p.due) c.self.view_is ∙ c.requires) c.self.told c.self.invariant.few c.from-start.ensures c.min-count.ensures (omega arith) c.copy_from_slice.ensures.after in
    let now = put_mid c.from-start.result k c.self.inside.bytes c.copy_from_slice.new.self in
    rw (← c.self.view_is) (whole_place c.self.inside _ c.args.piece.now now j (omega (arith, c.if-start-count-lt8.false, c.from-start.ensures)) c.self.inside.due (omega (arith, j.none, c.if-length-lt8.true)))

pub returns-then-length-lt8-clause-says : goal.returns-then-length-lt8-clause-says
returns-then-length-lt8-clause-says c =
    let k = c.from-start.result + c.min-count.result - c.from-start.result in
    let j = joins c.self.inside c.from-start.result c.min-count.result k c.args.piece.now c.copy_from_slice.new.self (ap (λ p. p.due) c.self.view_is ∙ c.requires) c.self.told c.self.invariant.few c.from-start.ensures c.min-count.ensures (omega arith) c.copy_from_slice.ensures.after in
    let now = put_mid c.from-start.result k c.self.inside.bytes c.copy_from_slice.new.self in
    rw (← c.self.view_is) (wrong_says c.self.inside _ c.args.piece.now now j (omega (arith, c.if-start-count-lt8.false, c.from-start.ensures)) (omega (arith, c.from.ensures, c.from-2.ensures, c.if-length-lt8.true)))

pub returns-clause-count : goal.returns-clause-count
returns-clause-count c =
    let k = c.from-start.result + c.min-count.result - c.from-start.result in
    let j = joins c.self.inside c.from-start.result c.min-count.result k c.args.piece.now c.copy_from_slice.new.self (ap (λ p. p.due) c.self.view_is ∙ c.requires) c.self.told c.self.invariant.few c.from-start.ensures c.min-count.ensures (omega arith) c.copy_from_slice.ensures.after in
    let now = put_mid c.from-start.result k c.self.inside.bytes c.copy_from_slice.new.self in
    rw (← c.self.view_is) (header_count c.self.inside _ c.args.piece.now j.none j.room j.count)

pub returns-clause-place : goal.returns-clause-place
returns-clause-place c =
    let k = c.from-start.result + c.min-count.result - c.from-start.result in
    let j = joins c.self.inside c.from-start.result c.min-count.result k c.args.piece.now c.copy_from_slice.new.self (ap (λ p. p.due) c.self.view_is ∙ c.requires) c.self.told c.self.invariant.few c.from-start.ensures c.min-count.ensures (omega arith) c.copy_from_slice.ensures.after in
    let now = put_mid c.from-start.result k c.self.inside.bytes c.copy_from_slice.new.self in
    let length = ap (λ n. 256 * n + c.from-2.result) c.from.ensures ∙ ap (λ n. 256 * slice_index now 2 + n) c.from-2.ensures in
    rw (← c.self.view_is) (whole_place c.self.inside _ c.args.piece.now now j (omega (arith, c.if-start-count-lt8.false, c.from-start.ensures)) (256 * c.from.result + c.from-2.result - 8) (ap (λ n. n - 8) length))

pub returns-clause-says : goal.returns-clause-says
returns-clause-says c =
    let k = c.from-start.result + c.min-count.result - c.from-start.result in
    let j = joins c.self.inside c.from-start.result c.min-count.result k c.args.piece.now c.copy_from_slice.new.self (ap (λ p. p.due) c.self.view_is ∙ c.requires) c.self.told c.self.invariant.few c.from-start.ensures c.min-count.ensures (omega arith) c.copy_from_slice.ensures.after in
    let now = put_mid c.from-start.result k c.self.inside.bytes c.copy_from_slice.new.self in
    let length = ap (λ n. 256 * n + c.from-2.result) c.from.ensures ∙ ap (λ n. 256 * slice_index now 2 + n) c.from-2.ensures in
    rw (← c.self.view_is) (ap (λ n. Begins (record { kind = slice_index now 0; status = slice_index now 1; length = n })) length ∙ whole_says c.self.inside _ c.args.piece.now now j (omega (arith, c.if-start-count-lt8.false, c.from-start.ensures)) (omega (arith, length, c.if-length-lt8.false)))
