use Rattle.std.proofs.Common.{◌≡◌, ◌<◌, ◌∙◌, true, suc, length, sym, ap, arith}
use Rattle.tds_service.specs.declared.seat.Seat as code
use Rattle.tds_service.specs.Table.{met, seat_in, test_of}
use Rattle.tds_service.proofs.Latest.{held_first}
use Rattle.tds_service.proofs.Tables.{met_at}
use Rattle.tds_service.proofs.service.Service.is_held_at.Goals as goal

pub returns : goal.returns
returns c =
    let s = c.args.self.now in
    let who = c.args.holder in
    let within : c.args.place < length s.seats.items = omega (arith, c.if-place-len.false, c.len.ensures) in
    λ h.
    let here : met (test_of who) s.seats.items c.args.place ≡ true =
    met_at (test_of who) c.index.result.now s.seats.items c.args.place within
    ∙ (ap (λ (x : code.Seat). test_of who (seat_in x)) (sym c.index.ensures) ∙ (sym c.is_held_by.ensures ∙ h)) in
    held_first s.seats.items (suc s.last) s.index.items s.rising s.indexed.1.0 who c.args.place within here
