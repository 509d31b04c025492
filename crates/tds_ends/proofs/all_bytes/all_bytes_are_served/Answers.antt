use Rattle.tds_ends.proofs.AllBytes.{server_reads}
use Rattle.tds_ends.proofs.all_bytes.all_bytes_are_served.Goals as goal

pub returns : goal.returns
returns g c = λ answers first r new piece bytes s now reply after fed read serves.
    server_reads fed.stop first r new bytes piece read.0 serves.packets fed.count serves.left read.1 serves.feeds
