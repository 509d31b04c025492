use Rattle.std.proofs.Common.{◌∙◌, ◌++◌, refl, ap}
use Rattle.tds_client.specs.Session.{ClientSession}
use Rattle.tds_client.specs.Streams.{headers_of, opened, packets_are}
use Rattle.tds_packet.specs.Reading.{joined}
use Rattle.tds_client.proofs.Parts.{room_is}
use Rattle.tds_client.proofs.Streaming.{message_parts, room_some, stream_directed, streamed}
use Rattle.tds_client.proofs.stream_laws.message_is_spelled.Goals as goal

pub returns-clause-packets : goal.returns-clause-packets
returns-clause-packets c = λ s behind kind parts bytes lawful streams.
    let all = streamed (opened s kind) (packets_are kind) (headers_of s.heard kind) 0 parts bytes behind (room_some s lawful) refl streams in
    let message = message_parts s.size _ (packets_are kind) s.heard.mark (headers_of s.heard kind ++ joined parts) lawful (stream_directed kind) (room_is s s.size lawful refl) in
    (message.packets, all.bytes_are ∙ message.joined_are, message.parts)

pub returns-clause-reads : goal.returns-clause-reads
returns-clause-reads c = λ s behind kind parts bytes lawful streams.
    ap (λ (x : ClientSession). x.stage) (streamed (opened s kind) (packets_are kind) (headers_of s.heard kind) 0 parts bytes behind (room_some s lawful) refl streams).behind_is
