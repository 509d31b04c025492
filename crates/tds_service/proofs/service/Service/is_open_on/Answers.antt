use Rattle.std.proofs.Common.{◌∙◌, refl, ap, sym}
use Rattle.std.specs.Prelude.{Some, option_map}
use Rattle.tds_service.specs.Service.{Seat, has_number, is_open}
use Rattle.tds_service.proofs.Tables.{here_in, is_found_at}
use Rattle.tds_service.proofs.service.Service.is_open_on.Goals as goal

pub returns : goal.returns
returns c =
    let items = c.args.self.now.seats.items in
    let index = c.in_ok-index.index in
    let here = here_in (has_number c.args.number) items items items index refl refl c.in_ok-index.ensures.first in
    ap Some c.is_open.ensures ∙ ap (option_map (λ (seat : Seat). is_open seat.line.heard.mark seat.line.heard.descriptor)) (sym (is_found_at (has_number c.args.number) items index c.index.result.now here.first c.index.ensures))
