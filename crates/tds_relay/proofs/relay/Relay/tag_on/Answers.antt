use Rattle.std.proofs.Common.{Option, ap, option_map, sym, ◌∙◌}
use Rattle.std.specs.Prelude.{option_copied}
use Rattle.tds_relay.specs.declared.link.Link.{Link}
use Rattle.tds_relay.specs.Sending.{name_in, sending_of}
use Rattle.tds_relay.proofs.relay.Relay.tag_on.Goals as goal

pub returns-in-Some : goal.returns-in-Some
returns-in-Some c = ap (λ (o : Option Link). name_in (option_map sending_of o)) (ap option_copied (sym c.in-Some.is) ∙ c.link.ensures)

pub returns-in-None : goal.returns-in-None
returns-in-None c = ap (λ (o : Option Link). name_in (option_map sending_of o)) (ap option_copied (sym c.in-None.is) ∙ c.link.ensures)
