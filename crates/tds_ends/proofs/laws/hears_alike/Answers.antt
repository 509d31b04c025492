use Rattle.tds_ends.proofs.Hearing as hearing
use Rattle.tds_ends.proofs.laws.hears_alike.Goals as goal

pub returns : goal.returns
returns c =
    let read = c.spelled_are_read.ensures in
    hearing.hear_alike (record { tells = c.phases_tell.ensures; contents = read.contents; known = read.known; anywhere = read.anywhere })
