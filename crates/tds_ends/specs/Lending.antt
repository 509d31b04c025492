-- An end that lends its core: it ends with whatever core is left there.
use Rattle.std.specs.Borrow.{Lends, MutBor, Fml}
use Rattle.tds_client.specs.contracts.client.Client.{the_row as client_row}
use Rattle.tds_client.specs.Session.{ClientSession}
use Rattle.tds_ends.specs.contracts.ends.ClientEnd.{the_row}
use Rattle.tds_ends.specs.declared.ends.ClientEnd.{ClientEnd}

abbrev pub LendsClient : MutBor ClientEnd → MutBor ClientSession → Fml
LendsClient s r = Lends the_row client_row s r (λ w. record s.now { client = w })
