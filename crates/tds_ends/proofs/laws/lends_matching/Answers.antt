use Rattle.tds_ends.proofs.Begun as begun
use Rattle.tds_ends.proofs.laws.lends_matching.Goals as goal

pub returns : goal.returns
returns g c = record { client = begun.new_client; server = begun.new_server_matches; marked = begun.marked_matches }
