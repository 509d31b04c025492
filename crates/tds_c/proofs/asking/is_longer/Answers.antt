use Rattle.std.proofs.Common.{◌≡◌, ◌∙◌, ◌≤◌, ◌+◌, ℕ, length, sym, ap, rules}
use Rattle.std.proofs.lemmas.List.{length-append}
use Rattle.tds_packet.specs.Resets.{header_descriptor}
use Rattle.tds_client.specs.Streams.{headers_of}
use Rattle.tds_c.proofs.WholeMessages.{longer_body}
use Rattle.tds_c.proofs.asking.is_longer.Goals as goal

pub returns-clause-value : goal.returns-clause-value
returns-clause-value c =
    let p = c.args.parts.now in
    let size : c.from.result ≡ p.size = search rules in
    let range : 512 ≤ p.size = search rules in
    let own : c.before-2.result ≡ length (headers_of p.heard c.args.kind) = c.before-2.ensures.value (header_descriptor p.heard.mark p.heard.descriptor) in
    rw size (longer_body p.size c.before-2.result (length c.args.body.now) _ range c.before-2.ensures.most (length-append (headers_of p.heard c.args.kind) c.args.body.now ∙ ap (λ (n : ℕ). n + length c.args.body.now) (sym own)))
