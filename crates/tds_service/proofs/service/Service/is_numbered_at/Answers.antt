use Rattle.std.proofs.Common.{◌≡◌, ◌<◌, ◌∙◌, suc, length, sym, ap, arith}
use Rattle.std.proofs.lemmas.Bool.{eqb-true}
use Rattle.std.specs.Prelude.{slice_index, Some}
use Rattle.tds_service.specs.declared.seat.Seat as code
use Rattle.tds_service.specs.Rising.{numbers_in}
use Rattle.tds_service.proofs.Indexing.{number_at}
use Rattle.tds_service.proofs.Rising.{first_by, rises}
use Rattle.tds_service.proofs.service.Service.is_numbered_at.Goals as goal

pub returns : goal.returns
returns c =
    let s = c.args.self.now in
    let within : c.args.place < length s.seats.items = omega (arith, c.if-place-len.false, c.len.ensures) in
    λ h.
    let same : c.index.result.now.number ≡ c.args.number = eqb-true c.index.result.now.number c.args.number h in
    let is : slice_index (numbers_in s.seats.items) c.args.place ≡ c.args.number =
    number_at s.seats.items c.index.result.now c.args.place within ∙ (ap (λ (x : code.Seat). x.number) (sym c.index.ensures) ∙ same) in
    first_by c.args.number s.seats.items (Some c.args.place) (rises 0 (numbers_in s.seats.items) (suc s.last) s.rising) (within, is)
