use Rattle.tds_client.proofs.Streaming.{room_some}
use Rattle.tds_c.proofs.WholeMessages.{is_packet, is_stream}
use Rattle.tds_c.proofs.asking_laws.asked_is_streamed.Goals as goal

pub returns-clause-stream : goal.returns-clause-stream
returns-clause-stream c = is_stream

pub returns-clause-packet : goal.returns-clause-packet
returns-clause-packet c = λ s behind kind body bytes lawful fits e. is_packet s behind kind body bytes (room_some s lawful) fits e
