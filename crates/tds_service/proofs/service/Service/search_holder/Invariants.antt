use Rattle.tds_service.proofs.service.Service.search_holder.Given as goal

abbrev pub ghosts-held_counted : goal.ghosts-held_counted
ghosts-held_counted a = record { name = a.blank.name; parts = a.blank.parts }
