use Rattle.std.proofs.Common.{[], refl, ap}
use Rattle.tds_service.specs.Service.{Back, has_lease}
use Rattle.tds_service.specs.Table.{rest_of}
use Rattle.tds_c.specs.declared.service.plain.TdsSeat.{TdsSeat}
use Rattle.tds_c.specs.service.Plain.{line_of, table_of}
use Rattle.tds_c.proofs.service.Steps.{cleaned, here_in, not_cleaned, same_seat}
use Rattle.tds_c.specs.service.Clients.{apart}
use Rattle.tds_c.proofs.service.keeping.cleaned.Goals as goal

pub returns-in_default-clean_rest-clause-refused : goal.returns-in_default-clean_rest-clause-refused
returns-in_default-clean_rest-clause-refused c =
    let s = c.args.service.now in
    let seats = c.args.seats.now in
    let i = c.in-Some.index in
    let test = has_lease c.args.lease in
    let here = here_in test s.count seats i c.requires.fits c.in-Some.ensures.first in
    not_cleaned (table_of s seats) test s.count seats i here _ refl (same_seat test s.count seats i here _) c.in_default-clean_rest.ensures

pub returns-clause-ok : goal.returns-clause-ok
returns-clause-ok c =
    let s = c.args.service.now in
    let seats = c.args.seats.now in
    let i = c.in-Some.index in
    let test = has_lease c.args.lease in
    let here = here_in test s.count seats i c.requires.fits c.in-Some.ensures.first in
    let rest = c.in-Some-clean_rest.rest in
    cleaned (table_of s seats) _ test s.count seats i here _ rest refl (same_seat test s.count seats i here _) c.in-Some-clean_rest.ensures
    (c.settle.ensures.table test [] (Back (rest_of rest)) here.seat here.at here.first
    (ap (λ (z : TdsSeat). z.number) (same_seat test s.count seats i here _)) (ap line_of (same_seat test s.count seats i here _)))

pub returns-clause-leaves : goal.returns-clause-leaves
returns-clause-leaves c =
    let s = c.args.service.now in
    let seats = c.args.seats.now in
    let i = c.in-Some.index in
    let here = here_in (has_lease c.args.lease) s.count seats i c.requires.fits c.in-Some.ensures.first in
    let same = same_seat (has_lease c.args.lease) s.count seats i here _ in
    c.settle.ensures.leaves here.seat here.at (ap (λ (z : TdsSeat). z.number) same) (ap (λ (z : TdsSeat). apart z.client) same)
