use Rattle.std.proofs.Common.{suc, ◌∙◌, List, [], ◌∷◌, refl, sym, ap, subst}
use Rattle.std.specs.Prelude.{Option, None, vec_capacity}
use Rattle.tds_service.specs.declared.seat.Seat as code
use Rattle.tds_service.specs.Line as line
use Rattle.tds_service.specs.Rising.{RiseFrom, numbers_in}
use Rattle.tds_service.specs.Service.{Seat, Back, loses, has_number}
use Rattle.tds_service.specs.Table.{StepsIn, reading_by, service_in, seats_in}
use Rattle.tds_service.specs.Ties.{line_in}
use Rattle.tds_service.proofs.Numbered.{same_number}
use Rattle.tds_service.proofs.Tables.{with_seats, here_in, found_here, meets_here, does_gone, lost_bytes}
use Rattle.tds_service.proofs.Keeping.{keeps_taken}
use Rattle.tds_service.proofs.Holding.{off_gone}
use Rattle.tds_service.proofs.Sizing.{keeps_sizes_taken}
use Rattle.tds_service.proofs.Rising.{taken}
use Rattle.tds_service.proofs.Reindexing.{lost_index}
use Rattle.tds_service.proofs.service.Service.lost.Goals as goal

pub returns-in-Some-clause-ok : goal.returns-in-Some-clause-ok
returns-in-Some-clause-ok c =
    let old = service_in c.args.self.now in
    let items = c.args.self.now.seats.items in
    let index = c.in-Some.index in
    let here = here_in (has_number c.args.number) items items items index refl refl c.in-Some.ensures.first in
    let found = found_here (has_number c.args.number) items items index here in
    let gone = does_gone old old.given (has_number c.args.number) (line.Lose ∷ []) (Back None) items index here.seat refl here.first in
    let is = ap (λ (cs : List code.Seat). with_seats old (seats_in cs)) c.remove-seat.ensures.by_index.2 in
    subst (λ (x : Option Seat). StepsIn (loses old (has_number c.args.number) x) (with_seats old (seats_in c.remove-seat.new.self.items)) (Back None) c.args.number [] []) (sym found)
    (record {
      service_is = is ∙ gone;
      reply_is = refl;
      number_is = same_number here.seat.number c.args.number (meets_here (has_number c.args.number) items items index here);
      bytes = lost_bytes (line_in here.seat.connection);
    })

pub returns-in-Some-clause-keeps : goal.returns-in-Some-clause-keeps
returns-in-Some-clause-keeps c = λ n r other e.
    let items = c.args.self.now.seats.items in
    let index = c.in-Some.index in
    let here = here_in (has_number c.args.number) items items items index refl refl c.in-Some.ensures.first in
    let is = ap (λ (x : code.Seat). x.number) (sym here.at) ∙ same_number here.seat.number c.args.number (meets_here (has_number c.args.number) items items index here) in
    ap (reading_by (has_number n)) c.remove-seat.ensures.by_index.2
    ∙ (keeps_taken n here.seat items index here.first.within (λ f. other (f ∙ is)) ∙ e)

pub returns-in-Some-clause-clients : goal.returns-in-Some-clause-clients
returns-in-Some-clause-clients c =
    let items = c.args.self.now.seats.items in
    let index = c.in-Some.index in
    let here = here_in (has_number c.args.number) items items items index refl refl c.in-Some.ensures.first in
    off_gone c.args.number items _ items index here c.remove-seat.ensures.by_index.2

pub returns-in-Some-clause-sizes : goal.returns-in-Some-clause-sizes
returns-in-Some-clause-sizes c = keeps_sizes_taken c.in-Some.index c.args.self.now _ c.remove-seat.ensures.by_index.2 refl

pub invariant_of-self-clause-rising : goal.invariant_of-self-clause-rising
invariant_of-self-clause-rising c =
    let s = c.args.self.now in
    subst (λ (cs : List code.Seat). RiseFrom 0 (numbers_in cs) (suc s.last)) (sym c.remove-seat.ensures.by_index.2) (taken 0 s.seats.items c.in-Some.index (suc s.last) s.rising)

pub forget_any-requires : goal.forget_any-requires
forget_any-requires c = record { rising = (suc c.args.self.now.given, c.args.self.now.indexed.0) }

pub invariant_of-self-clause-indexed : goal.invariant_of-self-clause-indexed
invariant_of-self-clause-indexed c =
    lost_index c.args.self.now c.remove-seat.new.self.items c.in-Some.index c.remove-seat.result c.holder.result (vec_capacity c.forget_any.new.index) c.forget_any.new.index.items c.in-Some.ensures.first.within c.remove-seat.ensures.value
    c.remove-seat.ensures.items c.holder.ensures c.forget_any.ensures.forgets c.forget_any.ensures.capacity
