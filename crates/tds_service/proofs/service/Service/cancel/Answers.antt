use Rattle.std.proofs.Common.{[], ◌∷◌, ◌∙◌, refl, ap, arith, rules}
use Rattle.std.proofs.lemmas.Result.{IfOk-weaker, on_ok_weaker}
use Rattle.tds_service.specs.Line as line
use Rattle.tds_service.specs.Refusing.{refusal_in}
use Rattle.tds_service.specs.Service.{has_lease}
use Rattle.tds_service.specs.Ties.{line_in, cancel_answer}
use Rattle.tds_service.proofs.Tables.{one_is_all, on_err, cancel_never, cancelled_fine}
use Rattle.tds_service.proofs.Holding.{held_here, on_done}
use Rattle.tds_service.proofs.Reached.{reached_at, acts_there, answers_there, refuses_there, clients_there, sizes_there}
use Rattle.tds_service.proofs.service.Service.cancel.Goals as goal

pub returns-in-Some-clause-ok : goal.returns-in-Some-clause-ok
returns-in-Some-clause-ok c =
    let at = reached_at (has_lease c.args.lease) c.args.self.now c.cancel_at.new.seats refl c.deref_mut.ensures.value c.in-Some.ensures.first (first_of (omega arith, search rules)) in
    let seat = at.here.seat in
    let n = seat.connection.asked in
    IfOk-weaker c.cancel_at.result _ _
    (λ done h.
    let k = h seat at.here.at_lent in
    acts_there at k.0 done.0 line.Cancel (line.Cancel ∷ []) c.args.out.now.items c.cancel_at.new.out.items k.1 k.2 k.3 k.4
    (one_is_all line.Cancel (line_in seat.connection) (line_in k.0.connection) (cancel_answer n done.1) c.args.out.now.items c.cancel_at.new.out.items k.5)
    (ap refusal_in k.5.answer_is ∙ cancelled_fine n done.1))
    c.cancel_at.ensures.ok

pub returns-in-Some-clause-how : goal.returns-in-Some-clause-how
returns-in-Some-clause-how c =
    let at = reached_at (has_lease c.args.lease) c.args.self.now c.cancel_at.new.seats refl c.deref_mut.ensures.value c.in-Some.ensures.first (first_of (omega arith, search rules)) in
    let n = at.here.seat.connection.asked in
    IfOk-weaker c.cancel_at.result _ _
    (λ done h. (n, answers_there at line.Cancel (cancel_answer n done.1) (h at.here.seat at.here.at_lent).5.answer_is (cancelled_fine n done.1)))
    c.cancel_at.ensures.ok

pub returns-in-Some-clause-stops : goal.returns-in-Some-clause-stops
returns-in-Some-clause-stops c =
    let at = reached_at (has_lease c.args.lease) c.args.self.now c.cancel_at.new.seats refl c.deref_mut.ensures.value c.in-Some.ensures.first (first_of (omega arith, search rules)) in
    on_ok_weaker c.cancel_at.result
    (λ h. (at.here.seat.connection.client, held_here c.args.lease c.args.self.now c.deref_mut.result.now c.in-Some.index at.here, h at.here.seat at.here.at_lent))
    c.cancel_at.ensures.stops

pub returns-in-Some-clause-refused : goal.returns-in-Some-clause-refused
returns-in-Some-clause-refused c =
    let at = reached_at (has_lease c.args.lease) c.args.self.now c.cancel_at.new.seats refl c.deref_mut.ensures.value c.in-Some.ensures.first (first_of (omega arith, search rules)) in
    on_err c.cancel_at.result _ _
    (λ refusal h. refuses_there at line.Cancel (line.Cancel ∷ []) refusal (h at.here.seat at.here.at_lent) (cancel_never (line_in at.here.seat.connection)))
    c.cancel_at.ensures.refused

pub returns-in-Some-clause-clients : goal.returns-in-Some-clause-clients
returns-in-Some-clause-clients c =
    let at = reached_at (has_lease c.args.lease) c.args.self.now c.cancel_at.new.seats refl c.deref_mut.ensures.value c.in-Some.ensures.first (first_of (omega arith, search rules)) in
    on_done c.cancel_at.result _ _
    (λ done h.
    let k = h at.here.seat at.here.at_lent in
    clients_there c.args.lease at k.0 k.1 k.3)
    c.cancel_at.ensures.ok

pub returns-in-Some-clause-sizes : goal.returns-in-Some-clause-sizes
returns-in-Some-clause-sizes c =
    let at = reached_at (has_lease c.args.lease) c.args.self.now c.cancel_at.new.seats refl c.deref_mut.ensures.value c.in-Some.ensures.first (first_of (omega arith, search rules)) in
    sizes_there at _ refl c.cancel_at.ensures.sizes refl
