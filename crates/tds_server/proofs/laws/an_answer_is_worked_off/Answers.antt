use Rattle.tds_server.proofs.Stepping.{bytes_are, server_is}
use Rattle.tds_server.proofs.laws.an_answer_is_worked_off.Goals as goal

pub returns : goal.returns
returns g c = record { bytes = bytes_are; server = server_is }
