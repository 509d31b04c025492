use Rattle.std.proofs.Common.{◌≡◌, suc, length, arith}
use Rattle.tds_service.proofs.index.go_on.Goals as goal

pub forget-requires : goal.forget-requires
forget-requires c = record { rising = (c.args.id, c.requires.newest) }

pub add-requires-clause-newest : goal.add-requires-clause-newest
add-requires-clause-newest c = c.forget.ensures.forgets.rises c.args.id c.requires.newest

pub add-requires-clause-room : goal.add-requires-clause-room
add-requires-clause-room c =
    let one : suc (length c.forget.new.index.items) ≡ length c.args.index.now.items = c.forget.ensures.forgets.len c.args.number c.requires.there in
    omega (arith, one, c.requires.room, c.forget.ensures.capacity)

pub returns-clause-goes_on : goal.returns-clause-goes_on
returns-clause-goes_on c = (c.forget.new.index.items, c.forget.ensures.forgets, c.add.ensures.adds)
