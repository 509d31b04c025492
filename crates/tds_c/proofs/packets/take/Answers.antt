use Rattle.std.proofs.Common.{◌≤◌, ◌∙◌, [], length, refl, arith}
use Rattle.tds_client.specs.Parts.{session_from}
use Rattle.tds_c.proofs.Starting.{is_started}
use Rattle.tds_c.proofs.packets.take.Goals as goal

pub returns-in-Ok-heard : goal.returns-in-Ok-heard
returns-in-Ok-heard c =
    let whole : length c.args.bytes.now ≤ c.in-Ok.packet.header.length = omega (arith, c.if-from-bytes.false, c.from.ensures) in
    rw c.in-Some.ensures.some (c.in-Ok.packet.header, c.in-Ok.packet.«data».now, session_from c.hear-heard.new.self [], (c.in-Ok.ensures.packet, whole), c.in-Ok-heard.ensures.heard [], c.of.ensures ∙ is_started c.hear-heard.new.self [] _ refl)

pub returns-in-Err-heard : goal.returns-in-Err-heard
returns-in-Err-heard c =
    let whole : length c.args.bytes.now ≤ c.in-Ok.packet.header.length = omega (arith, c.if-from-bytes.false, c.from.ensures) in
    rw c.in-Some.ensures.some (c.in-Ok.packet.header, c.in-Ok.packet.«data».now, (c.in-Ok.ensures.packet, whole), c.in-Err-heard.ensures.fault [], c.of.ensures ∙ is_started c.hear-heard.new.self [] _ (c.in-Err-heard.ensures.broken []))
