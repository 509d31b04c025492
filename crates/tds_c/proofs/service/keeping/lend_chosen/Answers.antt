use Rattle.std.proofs.Common.{◌≡◌, ◌∙◌, Bool, [], ◌∷◌, take, sym, ap, subst, true}
use Rattle.std.specs.Prelude.{None, Some}
use Rattle.tds_packet.specs.declared.status.Reset.{Reset}
use Rattle.tds_service.specs.Line.{Mark}
use Rattle.tds_service.specs.Service.{Lent, Place, Seat, does, find_by}
use Rattle.tds_service.specs.Table.{StepsIn, place_of}
use Rattle.tds_c.specs.service.Chosen.{chosen_allows, chosen_reset, chosen_test}
use Rattle.tds_c.specs.declared.service.plain.TdsSeat.{TdsSeat}
use Rattle.tds_c.specs.service.Plain.{seat_of, seats_of, table_of}
use Rattle.tds_c.proofs.service.Steps.{chosen_here, chosen_idle, chosen_unknown, lends_chosen, not_lent, same_seat}
use Rattle.tds_c.proofs.service.keeping.lend_chosen.Goals as goal

pub lend_at-requires-clause-idle : goal.lend_at-requires-clause-idle
lend_at-requires-clause-idle c = λ z at.
    let s = c.args.service.now in
    let seats = c.args.seats.now in
    let i = c.in-Some.index in
    let test = chosen_test c.args.chosen in
    let here = chosen_here c.args.chosen c.wanted.result s.count seats i c.requires.fits c.wanted.ensures c.in-Some.ensures.first in
    chosen_idle c.args.chosen z
    (ap (λ (x : TdsSeat). chosen_allows c.args.chosen (seat_of x)) (at ∙ (same_seat test s.count seats i here z ∙ sym (same_seat test s.count seats i here _)))
    ∙ (sym c.allows.ensures ∙ c.if-not-allows.false))

pub returns-in_default-clause-refused : goal.returns-in_default-clause-refused
returns-in_default-clause-refused c =
    let s = c.args.service.now in
    let seats = c.args.seats.now in
    chosen_unknown (table_of s seats) c.args.chosen
    (subst (λ (test : Seat → Bool). find_by test (seats_of (take s.count seats)) ≡ None) c.wanted.ensures c.in_default.ensures.none)

pub returns-then-not-allows-clause-refused : goal.returns-then-not-allows-clause-refused
returns-then-not-allows-clause-refused c =
    let s = c.args.service.now in
    let seats = c.args.seats.now in
    let i = c.in-Some.index in
    let chosen = c.args.chosen in
    let here = chosen_here chosen c.wanted.result s.count seats i c.requires.fits c.wanted.ensures c.in-Some.ensures.first in
    not_lent (table_of s seats) chosen (seat_of here.seat) here.found
    (ap (λ (x : TdsSeat). chosen_allows chosen (seat_of x)) (sym (same_seat (chosen_test chosen) s.count seats i here _)) ∙ (sym c.allows.ensures ∙ c.if-not-allows.true))

pub returns-clause-ok : goal.returns-clause-ok
returns-clause-ok c =
    let s = c.args.service.now in
    let seats = c.args.seats.now in
    let i = c.in-Some.index in
    let chosen = c.args.chosen in
    let test = chosen_test chosen in
    let here = chosen_here chosen c.wanted.result s.count seats i c.requires.fits c.wanted.ensures c.in-Some.ensures.first in
    let lease = c.in_ok-lease.lease in
    let l = c.lend_at.result in
    let lent = λ (place : Place) (reset : Reset). StepsIn (does (table_of s seats) lease test (seat_of here.seat) (Some place) (Mark reset ∷ []) (Lent lease here.seat.number true))
    (table_of c.lend_at.new.service c.lend_at.new.seats) (Lent l.lease l.number l.had) l.number [] [] in
    lends_chosen (table_of s seats) _ (seat_of here.seat) lease l.lease l.number l.had chosen here.found
    (ap (λ (x : TdsSeat). chosen_allows chosen (seat_of x)) (sym (same_seat test s.count seats i here _)) ∙ (sym c.allows.ensures ∙ c.if-not-allows.false))
    c.in_ok-lease.ensures.value
    (subst (λ (place : Place). lent place (chosen_reset chosen)) c.place-place.ensures
    (subst (lent (place_of c.place-place.result)) c.reset.ensures (c.lend_at.ensures.lent test here.seat here.at here.first)))
