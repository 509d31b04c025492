use Rattle.std.proofs.Common.{◌≡◌, ◌∙◌, ◌++◌, [], ◌∷◌, Bool, List, ℕ, cond, refl, sym, ap}
use Rattle.std.proofs.lemmas.List.{append-nil}
use Rattle.tds_packet.specs.declared.kind.Kind.{Kind}
use Rattle.tds_packet.specs.Resets.{header_descriptor}
use Rattle.tds_request.specs.Layout.{all_headers, body_of, kind_of_request, packet_kind}
use Rattle.tds_client.specs.Sending.{message_of, room, started}
use Rattle.tds_client.specs.Streams.{ended_by, headers_of, opened, packets_are}
use Rattle.tds_client.proofs.StreamedRequests.{sends_ended}
use Rattle.tds_client.proofs.Streaming.{room_some, streamed}
use Rattle.tds_client.proofs.stream_laws.requests_are_streams.Goals as goal

pub returns : goal.returns
returns c = λ s behind last request kind packets bytes lawful same has sends streams.
    let one = sends_ended (started s request) (packet_kind (kind_of_request request)) (message_of s.heard request) 0 packets behind (room_some s lawful) refl sends in
    let other = streamed (opened s kind) (packets_are kind) (headers_of s.heard kind) 0 (body_of request ∷ []) bytes last (room_some s lawful) refl streams in
    let headers : List ℕ = all_headers (header_descriptor s.heard.mark s.heard.descriptor) in
    let fronted : headers_of s.heard kind ≡ headers = ap (λ (b : Bool). cond b headers []) has in (
      other.bytes_are
          ∙ ap (λ (xs : List ℕ). ended_by (room s) (packets_are kind) s.heard.mark 0 (headers_of s.heard kind ++ xs)) (append-nil (body_of request))
          ∙ ap (λ (xs : List ℕ). ended_by (room s) (packets_are kind) s.heard.mark 0 (xs ++ body_of request)) fronted
          ∙ ap (λ (k : Kind). ended_by (room s) k s.heard.mark 0 (message_of s.heard request)) same
          ∙ sym one.bytes_are,
      other.behind_is ∙ sym one.behind_is,
    )
