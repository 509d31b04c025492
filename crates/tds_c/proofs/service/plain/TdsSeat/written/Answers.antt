use Rattle.std.proofs.Common.{◌≡◌, ◌∙◌, ◌+◌, ◌++◌, ℕ, [], sym, ap}
use Rattle.std.proofs.Math.Nat.{mod-add-mod}
use Rattle.tds_packet.specs.declared.kind.Kind.{Kind}
use Rattle.tds_packet.specs.Sent.{sent_bytes}
use Rattle.tds_client.specs.Packets.{stop_bytes}
use Rattle.tds_c.specs.service.Clients.{cancel_bytes_at}
use Rattle.tds_c.specs.declared.service.seat.Stage as code
use Rattle.tds_c.specs.declared.service.seat.Stage.TheVariants as stages
use Rattle.tds_c.specs.service.Plain.{kind_at, line_of, stage_of}
use Rattle.tds_c.proofs.service.Tables.{both_written}
use Rattle.tds_c.proofs.service.plain.TdsSeat.written.Goals as goal

pub returns-in-Sending-clause-sent : goal.returns-in-Sending-clause-sent
returns-in-Sending-clause-sent c =
    both_written (line_of c.args.self.now) (stage_of c.args.self.now.client) _ _ c.both_packets.result (sym c.stage.ensures ∙ c.in-Sending.is) c.both_packets.ensures

pub returns-in-Sending-clause-bytes : goal.returns-in-Sending-clause-bytes
returns-in-Sending-clause-bytes c =
    let client = c.args.self.now.client in
    let kind = kind_at client.kind in
    c.both_packets.ensures
    ∙ ap (λ (n : ℕ). sent_bytes c.kind.result 3 n [] ++ stop_bytes) (mod-add-mod client.packets 256 1)
    ∙ ap (λ (k : Kind). cancel_bytes_at stages.Sending k client.packets) c.kind.ensures
    ∙ ap (λ (s : code.Stage). cancel_bytes_at s kind client.packets) (sym c.in-Sending.is ∙ c.stage.ensures)
