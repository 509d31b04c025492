use Rattle.std.proofs.Common.{◌≡◌, ◌∙◌, ◌<◌, ◌-◌, suc, inl, inr, length, arith}
use Rattle.tds_play.proofs.pooled.Closing.{there_of}
use Rattle.tds_play.proofs.pooled.Shown.{seen_none, seen_some}
use Rattle.tds_play.proofs.pooled.Unseen.{read_at}
use Rattle.tds_play.proofs.player.Player.snapshot.Goals as goal
use Rattle.tds_play.proofs.player.Player.snapshot.Goals.{then-number-eq0-via-then-number-eq0, then-number-eq0-via-else-number-eq0+then-number-len}

pub returns-then-number-eq0 : goal.returns-then-number-eq0
returns-then-number-eq0 g c =
    elim c.then-number-eq0.branch [
      | then-number-eq0-via-then-number-eq0 w ↦ seen_none c.args.self.now c.args.number (inl (grind (arith, w.if-number-eq0)))
      | then-number-eq0-via-else-number-eq0+then-number-len w ↦
          seen_none c.args.self.now c.args.number (inr (grind (arith, w.len.ensures, w.if-number-len)))
    ]

pub snapshot-requires : goal.snapshot-requires
snapshot-requires g c =
    let within : c.args.number - 1 < length c.args.self.now.links.items =
    grind (arith, c.if-number-eq0.false, c.if-number-len.false, c.len.ensures) in
    record { there = there_of c.args.self.now (c.args.number - 1) c.index-held.result.now c.requires.held c.requires.numbered within c.index-held.ensures }

pub returns : goal.returns
returns g c =
    let within : c.args.number - 1 < length c.args.self.now.links.items =
    grind (arith, c.if-number-eq0.false, c.if-number-len.false, c.len.ensures) in
    let next : c.args.number ≡ suc (c.args.number - 1) = grind (arith, c.if-number-eq0.false) in
    c.snapshot.ensures
    ∙ seen_some c.args.self.now c.args.number (c.args.number - 1) c.index-held.result.now next c.requires.numbered
    (read_at c.args.self.now.links.items (c.args.number - 1) c.index-held.result.now within c.index-held.ensures)
