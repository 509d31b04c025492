use Rattle.tds_service.proofs.index.forget.Given as goal

abbrev pub ghosts-find_counted : goal.ghosts-find_counted
ghosts-find_counted a = record { name = a.blank.name; parts = a.blank.parts }
