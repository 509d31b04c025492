use Rattle.std.proofs.Common.{refl}
use Rattle.tds_play.proofs.pooled.Opening.{LostBy, lost_out, lost_not, opens_as}
use Rattle.tds_play.proofs.player.Player.open.Goals.{then-lost, else-lost}
use Rattle.tds_play.proofs.player.Player.open.Goals as goal

pub returns : goal.returns
returns g c =
    let old = c.args.self.now in
    let said = c.in_ok-link.ensures in
    let split : LostBy c.args.conn c.in_ok-link.lost old c.if-lost.self = elim c.if-lost.branch [
      | then-lost w ↦ lost_out c.args.conn c.in_ok-link.lost old c.if-lost.self w.lost.new.self w.if-lost.true (record { connections = w.lost.ensures.shown; rest = w.lost.ensures.rest }) w.self-is
      | else-lost w ↦ lost_not c.args.conn c.in_ok-link.lost old c.if-lost.self w.if-lost.false w.self-is
    ] in
    opens_as c.args.conn c.args.lease old c.if-lost.self _ c.in_ok-link.link c.in_ok-link.lost (g.C.EventCarrier.pipes c.args.carrier.now) (g.C.EventCarrier.pipes c.open.new.carrier) (g.C.EventCarrier.began c.args.carrier.now) (g.C.EventCarrier.began c.open.new.carrier) _
    split c.in_ok-push.ensures.items refl refl said.number said.uncut said.ties said.failed said.reads.0 said.reads.1 (said.refines c.args.lease)
