use Rattle.tds_relay.proofs.index.add.Given as goal

abbrev pub ghosts-place_behind : goal.ghosts-place_behind
ghosts-place_behind g a = record { name = a.blank.name; parts = a.blank.parts }
