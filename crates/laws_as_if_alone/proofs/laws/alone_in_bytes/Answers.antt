use Rattle.laws_as_if_alone.specs.Bytes.{parsers_in}
use Rattle.laws_as_if_alone.proofs.Bytes.{alone_in_bytes, read_since}
use Rattle.laws_as_if_alone.proofs.laws.alone_in_bytes.Goals as goal

pub returns-clause-new : goal.returns-clause-new
returns-clause-new g c = λ server sharing key v ms said.
    alone_in_bytes server sharing key v.visit ms (parsers_in v) (read_since sharing key v) (c.alone_in_visits.ensures.given server sharing key v.visit ms said)

pub returns-clause-there : goal.returns-clause-there
returns-clause-there g c = λ server sharing key v ms at reads said. alone_in_bytes server sharing key v ms at reads (c.alone_in_visits.ensures.given server sharing key v ms said)
