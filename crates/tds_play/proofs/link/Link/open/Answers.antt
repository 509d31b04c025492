use Rattle.std.proofs.Common.{◌≡◌, ◌∙◌, [], ap}
use Rattle.tds_packet.specs.declared.kind.Direction.{Direction}
use Rattle.tds_play.specs.Pipe.{traffic}
use Rattle.tds_play.proofs.any_bytes.Stays.{new_came, new_reads}
use Rattle.tds_play.proofs.link.Link.open.Goals as goal

pub returns-in-Ok-clause-reads : goal.returns-in-Ok-clause-reads
returns-in-Ok-clause-reads g c =
    let pipe = g.C.EventCarrier.pipes c.open.new.self c.args.number in
    let none : (d : Direction) → (traffic pipe d).came ≡ [] = (λ d. ap (λ p. (traffic p d).came) c.in-Ok.ensures.ok.here ∙ new_came 0 d) in
    (new_reads c.args.size c.args.number c.args.engine c.args.on_attention c.in_ok-link.link pipe (λ d. c.nothing_is_read.ensures d c.args.size) c.in_ok-link.ensures.value none, none)
