use Rattle.tds_relay.proofs.index.search.Given as goal

abbrev pub ghosts-find_counted : goal.ghosts-find_counted
ghosts-find_counted g a = record { name = a.blank.name; parts = a.blank.parts }
