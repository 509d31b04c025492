use Rattle.std.proofs.Common.{◌∙◌, ◌++◌, ℕ, [], ◌∷◌, refl, sym, ap, subst, arith, rules, true}
use Rattle.std.proofs.lemmas.List.{append-nil}
use Rattle.std.proofs.lemmas.Result.{IfOk-weaker}
use Rattle.std.specs.Vec.{with_items}
use Rattle.tds_client.specs.Parts.{left_of}
use Rattle.tds_client.specs.Streams.{finished}
use Rattle.tds_service.specs.Line as line
use Rattle.tds_service.specs.Refusing.{packets, refusal_in}
use Rattle.tds_service.specs.Service.{Did, has_lease}
use Rattle.tds_service.specs.Service as calls
use Rattle.tds_service.specs.Table.{Steps, seats_in, service_in}
use Rattle.tds_service.specs.Ties.{line_in, full_in}
use Rattle.tds_service.proofs.Keeping.{puts_here}
use Rattle.tds_service.proofs.Tables.{with_seats, on_err, send_never}
use Rattle.tds_service.proofs.Holding.{does_here, on_done}
use Rattle.tds_service.proofs.Reached.{reached_at, acts_there, refuses_there, clients_there, sizes_there}
use Rattle.tds_service.proofs.service.Service.finish.Goals as goal

pub returns-in-Some-clause-ok : goal.returns-in-Some-clause-ok
returns-in-Some-clause-ok c =
    let old = service_in c.args.self.now in
    let at = reached_at (has_lease c.args.lease) c.args.self.now c.finish_at.new.seats refl c.deref_mut.ensures.value c.in-Some.ensures.first (first_of (omega arith, search rules)) in
    let client = at.here.seat.connection.client in
    let acts = packets (full_in client (left_of client.stage)) ++ line.Send true ∷ [] in
    IfOk-weaker c.finish_at.result _ _
    (λ done h.
    let k = h at.here.seat at.here.at_lent in
    subst (λ (count : ℕ). Steps (calls.Finish c.args.lease count) old (with_seats old (seats_in (with_items c.args.self.now.seats c.finish_at.new.seats).items)) Did done c.args.out.now.items c.finish_at.new.out.items)
    (ap (full_in client) (sym (append-nil (left_of client.stage)))
    ∙ sym (puts_here (has_lease c.args.lease) [] c.args.self.now.seats.items c.deref_mut.result.now c.in-Some.index at.here))
    (acts_there at k.0 done (line.Send true) acts c.args.out.now.items c.finish_at.new.out.items k.1 k.2 k.3 k.4 k.5 (ap refusal_in k.7)))
    c.finish_at.ensures.ok

pub returns-in-Some-clause-refused : goal.returns-in-Some-clause-refused
returns-in-Some-clause-refused c =
    let at = reached_at (has_lease c.args.lease) c.args.self.now c.finish_at.new.seats refl c.deref_mut.ensures.value c.in-Some.ensures.first (first_of (omega arith, search rules)) in
    on_err c.finish_at.result _ _
    (λ refusal h. λ count. refuses_there at (line.Send true) (packets count ++ line.Send true ∷ []) refusal (h at.here.seat at.here.at_lent) (send_never (line_in at.here.seat.connection) true))
    c.finish_at.ensures.refused

pub returns-in-Some-clause-ends : goal.returns-in-Some-clause-ends
returns-in-Some-clause-ends c =
    let at = reached_at (has_lease c.args.lease) c.args.self.now c.finish_at.new.seats refl c.deref_mut.ensures.value c.in-Some.ensures.first (first_of (omega arith, search rules)) in
    on_done c.finish_at.result _ _
    (λ done h.
    let k = h at.here.seat at.here.at_lent in
    does_here finished c.args.lease c.args.self.now _ c.deref_mut.result.now c.finish_at.new.seats c.in-Some.index at.here k.0 c.args.out.now.items c.finish_at.new.out.items at.same k.1 at.are k.3 k.6)
    c.finish_at.ensures.ok

pub returns-in-Some-clause-clients : goal.returns-in-Some-clause-clients
returns-in-Some-clause-clients c =
    let at = reached_at (has_lease c.args.lease) c.args.self.now c.finish_at.new.seats refl c.deref_mut.ensures.value c.in-Some.ensures.first (first_of (omega arith, search rules)) in
    on_done c.finish_at.result _ _
    (λ done h.
    let k = h at.here.seat at.here.at_lent in
    clients_there c.args.lease at k.0 k.1 k.3)
    c.finish_at.ensures.ok

pub returns-in-Some-clause-sizes : goal.returns-in-Some-clause-sizes
returns-in-Some-clause-sizes c =
    let at = reached_at (has_lease c.args.lease) c.args.self.now c.finish_at.new.seats refl c.deref_mut.ensures.value c.in-Some.ensures.first (first_of (omega arith, search rules)) in
    sizes_there at _ refl c.finish_at.ensures.sizes refl
