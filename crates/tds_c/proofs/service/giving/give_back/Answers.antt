use Rattle.std.proofs.Common.{◌∙◌, ℕ, ◌∷◌, [], ◌++◌, length, take, drop, refl, sym, ap}
use Rattle.std.proofs.Math.Seq.{take-append_seam}
use Rattle.std.specs.Prelude.{Some}
use Rattle.tds_wire.specs.declared.told.Token.{Token}
use Rattle.tds_service.specs.Line.{Cancel, line_turn}
use Rattle.tds_service.specs.Service.{Back, Free, has_lease}
use Rattle.tds_service.specs.Table.{rest_of}
use Rattle.tds_c.specs.declared.service.plain.TdsSeat.{TdsSeat}
use Rattle.tds_c.specs.service.Plain.{line_of, table_of}
use Rattle.tds_c.specs.service.Table.{written_bytes}
use Rattle.tds_c.proofs.service.GivenBack.{gives_idle, idle_after}
use Rattle.tds_c.proofs.service.Steps.{gives_back, here_in, same_seat}
use Rattle.tds_c.specs.service.Clients.{apart}
use Rattle.tds_c.proofs.service.giving.give_back.Goals as goal

pub returns-then-is_idle-clause-ok : goal.returns-then-is_idle-clause-ok
returns-then-is_idle-clause-ok c =
    let s = c.args.service.now in
    let seats = c.args.seats.now in
    let i = c.in-Some.index in
    let test = has_lease c.args.lease in
    let here = here_in test s.count seats i c.requires.fits c.in-Some.ensures.first in
    let idle = sym c.is_idle.ensures ∙ c.if-is_idle.true in
    gives_idle (table_of s seats) _ test s.count seats i here _ refl (same_seat test s.count seats i here _) idle
    (c.settle.ensures.table test (Cancel ∷ []) (Back (Some Free)) here.seat here.at here.first
    (ap (λ (z : TdsSeat). z.number) (same_seat test s.count seats i here _)) (idle_after _ here.seat (same_seat test s.count seats i here _) idle))

pub returns-then-is_idle-clause-leaves : goal.returns-then-is_idle-clause-leaves
returns-then-is_idle-clause-leaves c =
    let s = c.args.service.now in
    let seats = c.args.seats.now in
    let i = c.in-Some.index in
    let here = here_in (has_lease c.args.lease) s.count seats i c.requires.fits c.in-Some.ensures.first in
    c.settle.ensures.leaves here.seat here.at (ap (λ (z : TdsSeat). z.number) (same_seat (has_lease c.args.lease) s.count seats i here _))
    (ap (λ (z : TdsSeat). apart z.client) (same_seat (has_lease c.args.lease) s.count seats i here _))

pub returns-clause-ok : goal.returns-clause-ok
returns-clause-ok c =
    let s = c.args.service.now in
    let seats = c.args.seats.now in
    let i = c.in-Some.index in
    let test = has_lease c.args.lease in
    let here = here_in test s.count seats i c.requires.fits c.in-Some.ensures.first in
    let m = c.cancelled-cancelled.result in
    let rest = c.rest-rest.result in
    let copied = c.copy_from_slice.new.self in
    let behind = drop (length c.as_slice-bytes.result.now) c.args.out.now in
    let is = ap (λ (n : ℕ). take n (copied ++ behind)) (sym (ap length c.copy_from_slice.ensures.after))
    ∙ (take-append_seam copied behind ∙ (c.copy_from_slice.ensures.after ∙ c.as_slice-bytes.ensures)) in
    gives_back (table_of s seats) _ test s.count seats i here _ m rest _ (written_bytes c.written-written.result) refl (same_seat test s.count seats i here _)
    c.cancelled-cancelled.ensures.line c.rest-rest.ensures c.written-written.ensures.sent is
    (c.settle-2.ensures.table test (Cancel ∷ []) (Back (rest_of rest)) here.seat here.at here.first
    (c.cancelled-cancelled.ensures.number ∙ ap (λ (z : TdsSeat). z.number) (same_seat test s.count seats i here _))
    (c.cancelled-cancelled.ensures.line ∙ ap (λ (z : TdsSeat). (line_turn {T = Token} (line_of z) Cancel).line) (same_seat test s.count seats i here _)))

pub returns-clause-leaves : goal.returns-clause-leaves
returns-clause-leaves c =
    let s = c.args.service.now in
    let seats = c.args.seats.now in
    let i = c.in-Some.index in
    let here = here_in (has_lease c.args.lease) s.count seats i c.requires.fits c.in-Some.ensures.first in
    let same = same_seat (has_lease c.args.lease) s.count seats i here _ in
    c.settle-2.ensures.leaves here.seat here.at (c.cancelled-cancelled.ensures.number ∙ ap (λ (z : TdsSeat). z.number) same)
    (ap (λ (z : TdsSeat). apart z.client) c.cancelled-cancelled.ensures.is ∙ ap (λ (z : TdsSeat). apart z.client) same)
