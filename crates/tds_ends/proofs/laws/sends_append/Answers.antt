use Rattle.tds_world.specs.Entries.{up_bytes, down_bytes}
use Rattle.tds_ends.proofs.Lanes.{sent_more}
use Rattle.tds_ends.proofs.laws.sends_append.Goals as goal

pub returns : goal.returns
returns c = record { to_server = sent_more up_bytes; to_client = sent_more down_bytes }
