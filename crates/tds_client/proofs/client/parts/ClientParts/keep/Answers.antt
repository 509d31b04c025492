use Rattle.std.proofs.Common.{◌≤◌, rules, arith}
use Rattle.tds_client.proofs.Waiting.{keep_is}
use Rattle.tds_client.proofs.client.parts.ClientParts.keep.Goals as goal

pub returns-clause-value : goal.returns-clause-value
returns-clause-value c =
    let range : 512 ≤ c.args.self.now.size = search rules in
    keep_is c.args.self.now c.args.kind c.args.packets c.args.kept.now c.args.bytes.now (omega (arith, range)) c.requires.stage c.requires.fits
