use Rattle.std.proofs.Common.{◌≡◌, ◌≤◌, ◌-◌, ℕ, length, ap, rules, arith}
use Rattle.tds_client.proofs.Waiting.{fill_is}
use Rattle.tds_client.proofs.client.parts.ClientParts.fill.Goals as goal

pub returns-clause-value : goal.returns-clause-value
returns-clause-value c =
    let size : c.from.result ≡ c.args.self.now.size = search rules in
    let range : 512 ≤ c.args.self.now.size = search rules in
    let same : c.from.result - 8 - length c.args.kept.now ≡ c.args.self.now.size - 8 - length c.args.kept.now = ap (λ (n : ℕ). n - 8 - length c.args.kept.now) size in
    fill_is c.args.self.now c.args.kind c.args.packets (c.from.result - 8 - length c.args.kept.now) c.args.kept.now c.args.bytes.now c.full_header-header.result
    (omega (arith, range)) c.requires.stage (omega (arith, c.requires.room, size)) (omega (arith, c.requires.room, c.requires.over, size)) c.full_header-header.ensures
