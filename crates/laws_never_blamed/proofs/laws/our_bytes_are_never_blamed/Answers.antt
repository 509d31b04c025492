use Rattle.laws_never_blamed.specs.Spelled.{pieces}
use Rattle.laws_never_blamed.proofs.Blameless.{heard_of, is_lawful_of}
use Rattle.laws_never_blamed.proofs.laws.our_bytes_are_never_blamed.Goals as goal

pub returns : goal.returns
returns g c engine moves limits judge reading acts shown rules run plain new parser handed =
    let well = c.no_fault.ensures engine acts moves rules run in
    let heard = heard_of c.cuts_do_not_matter.ensures limits judge reading acts shown new parser handed well in
    c.lawful_is_never_blamed.ensures.found limits judge (pieces shown) heard.0 new (is_lawful_of acts heard.0.events plain well heard.1)
