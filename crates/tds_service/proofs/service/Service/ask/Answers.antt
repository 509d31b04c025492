use Rattle.std.proofs.Common.{[], ◌∷◌, refl, ap, arith, rules}
use Rattle.std.proofs.lemmas.Result.{IfOk-weaker}
use Rattle.tds_packet.specs.Resets.{header_descriptor}
use Rattle.tds_service.specs.Line as line
use Rattle.tds_service.specs.Refusing.{refusal_in}
use Rattle.tds_service.specs.Service.{has_lease}
use Rattle.tds_service.specs.Ties.{line_in, asked_answer}
use Rattle.tds_service.proofs.Tables.{one_is_all, on_err, ask_never}
use Rattle.tds_service.proofs.Holding.{on_done, opens_here}
use Rattle.tds_service.proofs.Reached.{reached_at, acts_there, answers_there, refuses_there, clients_there, sizes_there}
use Rattle.tds_service.proofs.service.Service.ask.Goals as goal

pub returns-in-Some-clause-ok : goal.returns-in-Some-clause-ok
returns-in-Some-clause-ok c =
    let at = reached_at (has_lease c.args.lease) c.args.self.now c.ask_at.new.seats refl c.deref_mut.ensures.value c.in-Some.ensures.first (first_of (omega arith, search rules)) in
    let seat = at.here.seat in
    IfOk-weaker c.ask_at.result _ _
    (λ done h.
    let k = h seat at.here.at_lent in
    acts_there at k.0 done.number line.Ask (line.Ask ∷ []) [] [] k.1 k.2 k.3 k.4
    (one_is_all line.Ask (line_in seat.connection) (line_in k.0.connection) (asked_answer seat.connection done.request) [] [] k.5)
    (ap refusal_in k.5.answer_is))
    c.ask_at.ensures.ok

pub returns-in-Some-clause-names : goal.returns-in-Some-clause-names
returns-in-Some-clause-names c =
    let at = reached_at (has_lease c.args.lease) c.args.self.now c.ask_at.new.seats refl c.deref_mut.ensures.value c.in-Some.ensures.first (first_of (omega arith, search rules)) in
    let seat = at.here.seat in
    let heard = seat.connection.client.heard in
    IfOk-weaker c.ask_at.result _ _
    (λ done h. (
      header_descriptor heard.mark heard.descriptor,
      answers_there at line.Ask (asked_answer seat.connection done.request) (h seat at.here.at_lent).5.answer_is refl,
    ))
    c.ask_at.ensures.ok

pub returns-in-Some-clause-refused : goal.returns-in-Some-clause-refused
returns-in-Some-clause-refused c =
    let at = reached_at (has_lease c.args.lease) c.args.self.now c.ask_at.new.seats refl c.deref_mut.ensures.value c.in-Some.ensures.first (first_of (omega arith, search rules)) in
    on_err c.ask_at.result _ _
    (λ refusal h. refuses_there at line.Ask (line.Ask ∷ []) refusal (h at.here.seat at.here.at_lent) (ask_never (line_in at.here.seat.connection)))
    c.ask_at.ensures.refused

pub returns-in-Some-clause-opened : goal.returns-in-Some-clause-opened
returns-in-Some-clause-opened c =
    let at = reached_at (has_lease c.args.lease) c.args.self.now c.ask_at.new.seats refl c.deref_mut.ensures.value c.in-Some.ensures.first (first_of (omega arith, search rules)) in
    on_done c.ask_at.result _ _
    (λ done h.
    let k = h at.here.seat at.here.at_lent in
    opens_here c.args.kind c.args.lease c.args.self.now _ c.deref_mut.result.now c.ask_at.new.seats c.in-Some.index at.here k.0 at.same k.1 at.are k.3 k.6)
    c.ask_at.ensures.ok

pub returns-in-Some-clause-clients : goal.returns-in-Some-clause-clients
returns-in-Some-clause-clients c =
    let at = reached_at (has_lease c.args.lease) c.args.self.now c.ask_at.new.seats refl c.deref_mut.ensures.value c.in-Some.ensures.first (first_of (omega arith, search rules)) in
    on_done c.ask_at.result _ _
    (λ done h.
    let k = h at.here.seat at.here.at_lent in
    clients_there c.args.lease at k.0 k.1 k.3)
    c.ask_at.ensures.ok

pub returns-in-Some-clause-sizes : goal.returns-in-Some-clause-sizes
returns-in-Some-clause-sizes c =
    let at = reached_at (has_lease c.args.lease) c.args.self.now c.ask_at.new.seats refl c.deref_mut.ensures.value c.in-Some.ensures.first (first_of (omega arith, search rules)) in
    sizes_there at _ refl c.ask_at.ensures.sizes refl
