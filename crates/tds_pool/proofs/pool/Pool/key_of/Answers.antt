use Rattle.std.proofs.Common.{◌≡◌, ◌∙◌, None, Some, ap, sym}
use Rattle.tds_pool.specs.Fields.{state_of}
use Rattle.tds_numbers.specs.Table.{key_of}
use Rattle.tds_pool.proofs.Seats.{absent_shown, absent_writes, client_numbered, writes_numbered}
use Rattle.tds_pool.proofs.pool.Pool.key_of.Goals as goal

pub returns-in_err-place-clause-unknown : goal.returns-in_err-place-clause-unknown
returns-in_err-place-clause-unknown c = rw (c.from_residual.ensures, ← c.self.view_is) (absent_shown (state_of c.self.inside) c.args.number None c.in_err-place.ensures.absent)

pub returns-in_err-place-clause-writes : goal.returns-in_err-place-clause-writes
returns-in_err-place-clause-writes c = rw (← c.self.view_is) (λ client some. absurd (absent_writes (state_of c.self.inside) c.args.number c.in_err-place.ensures.absent some))

pub returns-clause-found : goal.returns-clause-found
returns-clause-found c =
    let is : key_of c.self.inside.numbers c.args.number ≡ Some c.key.result = c.in_ok-place.ensures.found.2 ∙ ap Some (sym c.key.ensures) in
    rw (← c.self.view_is) (client_numbered (state_of c.self.inside) c.self.invariant c.args.number c.key.result is)

pub returns-clause-writes : goal.returns-clause-writes
returns-clause-writes c =
    let is : key_of c.self.inside.numbers c.args.number ≡ Some c.key.result = c.in_ok-place.ensures.found.2 ∙ ap Some (sym c.key.ensures) in
    rw (← c.self.view_is) (λ client some. writes_numbered (state_of c.self.inside) c.self.invariant c.args.number c.key.result is client)
