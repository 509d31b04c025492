use Rattle.std.proofs.Common.{◌∙◌, ◌++◌, ◌≡◌, ℕ, List, sym, subst}
use Rattle.tds_packet.specs.Reading.{joined}
use Rattle.tds_packet.specs.Size.{IsPacketSize}
use Rattle.tds_client.specs.Promises.{AreParts}
use Rattle.tds_client.specs.Session.{ClientSession}
use Rattle.tds_client.specs.Streamed.{Streams}
use Rattle.tds_client.specs.Streams.{headers_of, opened, packets_are}
use Rattle.tds_service.specs.Service.{has_lease}
use Rattle.tds_service.proofs.Sizing.{size_at}
use Rattle.tds_service.proofs.Spelling.{streams_by, streams_of}
use Rattle.tds_service.proofs.laws.request_is_spelled.Goals as goal

pub returns-clause-connection : goal.returns-clause-connection
returns-clause-connection c = λ size old asked behind kind parts bytes sized began spells.
    let s = old.client in
    let streams = subst (λ (x : ClientSession). Streams x parts bytes behind.client) began (streams_of asked parts bytes behind spells) in
    let spelled = c.message_is_spelled.ensures.packets s behind.client kind parts bytes (subst IsPacketSize (sym sized.is) sized.may) streams in
    subst (λ (n : ℕ). (packets : List (List ℕ)) × (bytes ≡ joined packets) × AreParts n (packets_are kind) s.heard.mark 0 packets (headers_of s.heard kind ++ joined parts)) sized.is spelled

pub returns-clause-lease : goal.returns-clause-lease
returns-clause-lease c = λ size lease old asked next behind s kind parts bytes sized began same spells.
    let streams = streams_by lease next (opened s kind) parts bytes behind (same ∙ began.is) spells in
    let is = size_at size (has_lease lease) s old.seats.items sized.are began.was in
    let spelled = c.message_is_spelled.ensures.packets s streams.0 kind parts bytes (subst IsPacketSize (sym is) sized.may) streams.1 in
    subst (λ (n : ℕ). (packets : List (List ℕ)) × (bytes ≡ joined packets) × AreParts n (packets_are kind) s.heard.mark 0 packets (headers_of s.heard kind ++ joined parts)) is spelled
