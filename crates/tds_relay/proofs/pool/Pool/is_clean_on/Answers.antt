use Rattle.std.proofs.Common.{◌≡◌, ◌∙◌, ◌&&◌, Bool, true, false, not, ap, rules, sym}
use Rattle.tds_service.specs.Service.{seat_numbered}
use Rattle.tds_relay.specs.Pool.{owes_of}
use Rattle.tds_relay.specs.Ties.{pool_in}
use Rattle.tds_relay.proofs.steps.Parked.{clean_by, not_there}
use Rattle.tds_relay.proofs.pool.Pool.is_clean_on.Goals as goal

pub returns-then-not-is_open : goal.returns-then-not-is_open
returns-then-not-is_open c =
    let seat = seat_numbered c.args.number (pool_in c.args.self.now).service.seats in
    let shut : c.in-Some.is_open ≡ false = search rules in
    ap not c.owes_reset.ensures ∙ ap (λ (b : Bool). not b && not (owes_of seat)) (sym shut) ∙ clean_by seat c.in-Some.is_open (sym c.in-Some.is ∙ c.is_open_on.ensures)

pub returns-else-not-is_open : goal.returns-else-not-is_open
returns-else-not-is_open c =
    let seat = seat_numbered c.args.number (pool_in c.args.self.now).service.seats in
    let is : c.in-Some.is_open ≡ true = search rules in
    ap not is ∙ ap (λ (b : Bool). not b && not (owes_of seat)) (sym is) ∙ clean_by seat c.in-Some.is_open (sym c.in-Some.is ∙ c.is_open_on.ensures)

pub returns-in-None : goal.returns-in-None
returns-in-None c = not_there (seat_numbered c.args.number (pool_in c.args.self.now).service.seats) (sym c.in-None.is ∙ c.is_open_on.ensures)
