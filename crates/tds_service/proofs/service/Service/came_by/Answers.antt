use Rattle.std.proofs.Common.{◌≡◌, ◌∙◌, true, List, [], length, refl, sym, ap, subst, arith, rules}
use Rattle.std.proofs.lemmas.List.{with_items_is}
use Rattle.std.proofs.lemmas.Result.{IfOk-weaker}
use Rattle.tds_service.specs.declared.refusal.Refusal.{Refusal}
use Rattle.tds_service.specs.declared.seat.Seat as code
use Rattle.tds_wire.specs.Reading.{Parser}
use Rattle.tds_listen.specs.Hearing.{tokens_in}
use Rattle.tds_service.specs.Packets.{Reads, packet_part, told_of_part, outcome_answer}
use Rattle.tds_service.specs.Service.{Seat, Service, has_number, find_by, hears}
use Rattle.tds_service.specs.Table.{Comes, ReadsAt, RefusesIn, reading_by, seat_in, service_in, seats_in}
use Rattle.tds_service.specs.Ties.{line_in}
use Rattle.tds_service.proofs.Numbered.{same_number}
use Rattle.tds_service.proofs.Tables.{with_seats, here_in, found_here, meets_here, on_err}
use Rattle.tds_service.proofs.Arriving.{comes_here, reading_here, reading_behind, same_inside, wants_memory}
use Rattle.tds_service.proofs.Holding.{off_here, on_done}
use Rattle.tds_service.proofs.Sizing.{keeps_sizes}
use Rattle.tds_service.proofs.service.Service.came_by.Goals as goal

pub returns-in-Some-clause-ok : goal.returns-in-Some-clause-ok
returns-in-Some-clause-ok c =
    let old = service_in c.args.self.now in
    let items = c.args.self.now.seats.items in
    let index = c.in-Some.index in
    let news = c.came_at.new.seats in
    let here = here_in (has_number c.args.number) items items c.deref_mut.result.now index refl c.deref_mut.ensures.value c.in-Some.ensures.first in
    let len : length news ≡ c.args.self.now.seats.len = first_of (omega arith, search rules) in
    let items_are = with_items_is c.args.self.now.seats news len in
    IfOk-weaker c.came_at.result _ _
    (λ came h.
    let k = h here.seat here.at_lent in
    let part = packet_part here.seat.connection.parser c.args.bytes.now c.args.ends in
    let tokens = told_of_part (line_in here.seat.connection) part in
    let did = comes_here old c.args.number part came.lease came.request (outcome_answer came.request came.outcome) items c.deref_mut.result.now news index here k.0 [] tokens
    refl c.deref_mut.ensures.value k.1 k.2 k.3 k.4 k.5 k.6 refl in (
      here.seat.connection.parser,
      reading_here (has_number c.args.number) items c.deref_mut.result.now index here,
      tokens,
      subst (λ (s : Service). Comes old s c.args.number part came.lease came.request (outcome_answer came.request came.outcome) [] tokens)
          (sym (ap (λ (cs : List code.Seat). with_seats old (seats_in cs)) items_are)) did,
      k.7,
    ))
    c.came_at.ensures.ok

pub returns-in-Some-clause-asked : goal.returns-in-Some-clause-asked
returns-in-Some-clause-asked c =
    let items = c.args.self.now.seats.items in
    let here = here_in (has_number c.args.number) items items c.deref_mut.result.now c.in-Some.index refl c.deref_mut.ensures.value c.in-Some.ensures.first in
    let found = found_here (has_number c.args.number) items c.deref_mut.result.now c.in-Some.index here in
    IfOk-weaker c.came_at.result _ _
    (λ came h seat e. (h here.seat here.at_lent).5 ∙ ap (λ (x : Seat). x.line.asked) (same_inside (seat_in here.seat) seat (sym found ∙ e)))
    c.came_at.ensures.ok

pub returns-in-Some-clause-reads : goal.returns-in-Some-clause-reads
returns-in-Some-clause-reads c =
    let items = c.args.self.now.seats.items in
    let index = c.in-Some.index in
    let news = c.came_at.new.seats in
    let lent = c.deref_mut.result.now in
    let here = here_in (has_number c.args.number) items items lent index refl c.deref_mut.ensures.value c.in-Some.ensures.first in
    let len : length news ≡ c.args.self.now.seats.len = first_of (omega arith, search rules) in
    let items_are = with_items_is c.args.self.now.seats news len in
    IfOk-weaker c.came_at.result _ _
    (λ came h r e.
    let k = h here.seat here.at_lent in
    let now = reading_behind c.args.number items lent news index here k.0 c.deref_mut.ensures.value k.1 k.2 in
    let was = same_inside _ r (sym (reading_here (has_number c.args.number) items lent index here) ∙ e) in (
      k.0.connection.parser,
      ap (reading_by (has_number c.args.number)) items_are ∙ now,
      subst (λ (r : Parser). Reads came.outcome c.args.ends (tokens_in r c.args.bytes.now).stop k.0.connection.parser) was k.3,
    ))
    c.came_at.ensures.reads

pub returns-in-Some-clause-refused : goal.returns-in-Some-clause-refused
returns-in-Some-clause-refused c =
    let old = service_in c.args.self.now in
    let items = c.args.self.now.seats.items in
    let index = c.in-Some.index in
    let here = here_in (has_number c.args.number) items items c.deref_mut.result.now index refl c.deref_mut.ensures.value c.in-Some.ensures.first in
    on_err c.came_at.result _ _
    (λ refusal h r. subst (λ (x : Refusal). RefusesIn old (hears old (has_number c.args.number) (packet_part r c.args.bytes.now c.args.ends) (find_by (has_number c.args.number) old.seats)) x) (sym h.0)
    (wants_memory old c.args.number (packet_part r c.args.bytes.now c.args.ends) items c.deref_mut.result.now index here refl))
    c.came_at.ensures.refused

pub returns-in-Some-clause-memory : goal.returns-in-Some-clause-memory
returns-in-Some-clause-memory c =
    let items = c.args.self.now.seats.items in
    let index = c.in-Some.index in
    let here = here_in (has_number c.args.number) items items c.deref_mut.result.now index refl c.deref_mut.ensures.value c.in-Some.ensures.first in
    on_err c.came_at.result _ _
    (λ refusal h e. subst ReadsAt (sym (found_here (has_number c.args.number) items c.deref_mut.result.now index here)) (h.2 here.seat here.at_lent))
    c.came_at.ensures.refused

pub returns-in-Some-clause-others : goal.returns-in-Some-clause-others
returns-in-Some-clause-others c = λ n r other e.
    let items = c.args.self.now.seats.items in
    let index = c.in-Some.index in
    let news = c.came_at.new.seats in
    let lent = c.deref_mut.result.now in
    let here = here_in (has_number c.args.number) items items lent index refl c.deref_mut.ensures.value c.in-Some.ensures.first in
    let len : length news ≡ c.args.self.now.seats.len = first_of (omega arith, search rules) in
    let is = same_number here.seat.number c.args.number (meets_here (has_number c.args.number) items lent index here) in
    ap (reading_by (has_number n)) (with_items_is c.args.self.now.seats news len)
    ∙ (c.came_at.ensures.others n here.seat here.at_lent (λ f. other (f ∙ is)) ∙ (ap (reading_by (has_number n)) c.deref_mut.ensures.value ∙ e))

pub returns-in-Some-clause-clients : goal.returns-in-Some-clause-clients
returns-in-Some-clause-clients c =
    let items = c.args.self.now.seats.items in
    let index = c.in-Some.index in
    let lent = c.deref_mut.result.now in
    let news = c.came_at.new.seats in
    let here = here_in (has_number c.args.number) items items lent index refl c.deref_mut.ensures.value c.in-Some.ensures.first in
    let len : length news ≡ c.args.self.now.seats.len = first_of (omega arith, search rules) in
    let items_are = with_items_is c.args.self.now.seats news len in
    on_done c.came_at.result _ _
    (λ came h.
    let k = h here.seat here.at_lent in
    off_here c.args.number items _ lent news index here k.0 c.deref_mut.ensures.value k.1 items_are k.3)
    c.came_at.ensures.ok

pub returns-in-Some-clause-sizes : goal.returns-in-Some-clause-sizes
returns-in-Some-clause-sizes c =
    let news = c.came_at.new.seats in
    let len : length news ≡ c.args.self.now.seats.len = first_of (omega arith, search rules) in
    keeps_sizes c.args.self.now _ c.deref_mut.result.now news c.deref_mut.ensures.value (with_items_is c.args.self.now.seats news len) c.came_at.ensures.sizes refl

pub returns-in-Some-clause-unknown : goal.returns-in-Some-clause-unknown
returns-in-Some-clause-unknown c = on_err c.came_at.result _ _ (λ refusal h quiet. absurd (let yes : c.args.tells ≡ true = h.1 in let u : ⊥ = cc in u)) c.came_at.ensures.refused
