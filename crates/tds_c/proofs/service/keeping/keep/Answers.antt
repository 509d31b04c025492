use Rattle.std.proofs.Common.{◌∙◌, refl, sym, ap}
use Rattle.tds_service.specs.Service.{Seat, has_lease, may_keep}
use Rattle.tds_c.specs.declared.service.plain.TdsSeat.{TdsSeat}
use Rattle.tds_c.specs.service.Plain.{seat_of, table_of}
use Rattle.tds_c.proofs.service.Steps.{here_in, keeps, not_kept, same_seat}
use Rattle.tds_c.specs.declared.service.plain.TdsClient.{TdsClient}
use Rattle.tds_c.specs.service.Clients.{apart}
use Rattle.tds_c.proofs.service.Leaving.{leaves_put}
use Rattle.tds_c.proofs.service.keeping.keep.Goals as goal

pub returns-then-not-may_keep-clause-refused : goal.returns-then-not-may_keep-clause-refused
returns-then-not-may_keep-clause-refused c =
    let s = c.args.service.now in
    let seats = c.args.seats.now in
    let i = c.in-Some.index in
    let test = has_lease c.args.lease in
    let here = here_in test s.count seats i c.requires.fits c.in-Some.ensures.first in
    not_kept (table_of s seats) test (seat_of here.seat) here.found
    (ap (λ (z : TdsSeat). may_keep (seat_of z)) (sym (same_seat test s.count seats i here _)) ∙ (sym c.may_keep.ensures ∙ c.if-not-may_keep.true))

pub returns-clause-ok : goal.returns-clause-ok
returns-clause-ok c =
    let s = c.args.service.now in
    let seats = c.args.seats.now in
    let i = c.in-Some.index in
    let test = has_lease c.args.lease in
    let here = here_in test s.count seats i c.requires.fits c.in-Some.ensures.first in
    keeps (table_of s seats) test s.count c.in_ok-ticket.ticket seats i here _ c.at.result refl (same_seat test s.count seats i here _)
    (sym c.may_keep.ensures ∙ c.if-not-may_keep.false) c.in_ok-ticket.ensures.value c.at.ensures.seat

pub returns-clause-leaves : goal.returns-clause-leaves
returns-clause-leaves c =
    let s = c.args.service.now in
    let seats = c.args.seats.now in
    let i = c.in-Some.index in
    let here = here_in (has_lease c.args.lease) s.count seats i c.requires.fits c.in-Some.ensures.first in
    let same = same_seat (has_lease c.args.lease) s.count seats i here _ in
    record {
      size = refl;
      clients = λ test new. leaves_put test s.count seats i here.seat c.at.result here.under here.at
          (ap (λ (x : Seat). x.number) c.at.ensures.seat ∙ ap (λ (z : TdsSeat). z.number) same)
          (ap (λ (k : TdsClient). apart k) c.at.ensures.client ∙ ap (λ (z : TdsSeat). apart z.client) same);
    }
