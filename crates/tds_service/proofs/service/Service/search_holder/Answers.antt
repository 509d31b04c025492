use Rattle.std.proofs.Common.{◌≤◌, List, suc, length, sym, subst}
use Rattle.std.specs.Prelude.{IfSome}
use Rattle.tds_service.specs.declared.index.Indexed.{Indexed}
use Rattle.tds_service.specs.declared.seat.Seat as code
use Rattle.tds_service.specs.Index.{FindEachOther, holders_in, ids_in}
use Rattle.tds_service.specs.Rising.{RiseFrom, numbers_in}
use Rattle.tds_service.specs.Table.{FirstMet, test_of}
use Rattle.tds_service.proofs.Reindexing.{few_ids}
use Rattle.tds_service.proofs.service.Service.search_holder.Goals as goal

pub held_counted-requires-clause-rising : goal.held_counted-requires-clause-rising
held_counted-requires-clause-rising c =
    let s = c.args.self.now in
    (suc s.last, subst (λ (cs : List code.Seat). RiseFrom 0 (numbers_in cs) (suc s.last)) (sym c.deref.ensures.value) s.rising)

pub held_counted-requires-clause-ids : goal.held_counted-requires-clause-ids
held_counted-requires-clause-ids c =
    let s = c.args.self.now in
    (suc s.given, subst (λ (es : List Indexed). RiseFrom 0 (ids_in es) (suc s.given)) (sym c.deref-2.ensures.value) s.indexed.0)

pub held_counted-requires-clause-finds : goal.held_counted-requires-clause-finds
held_counted-requires-clause-finds c =
    let s = c.args.self.now in
    subst (λ (cs : List code.Seat). FindEachOther (holders_in cs) c.deref-2.result.now) (sym c.deref.ensures.value)
    (subst (λ (es : List Indexed). FindEachOther (holders_in s.seats.items) es) (sym c.deref-2.ensures.value) s.indexed.1.0)

pub held_counted-requires-clause-few : goal.held_counted-requires-clause-few
held_counted-requires-clause-few c =
    let s = c.args.self.now in
    subst (λ (cs : List code.Seat). length c.deref-2.result.now ≤ length cs) (sym c.deref.ensures.value)
    (subst (λ (es : List Indexed). length es ≤ length s.seats.items) (sym c.deref-2.ensures.value) (few_ids s))

pub returns-clause-first : goal.returns-clause-first
returns-clause-first c = subst (λ (cs : List code.Seat). IfSome c.held_counted.result (FirstMet (test_of c.args.holder) cs)) c.deref.ensures.value c.held_counted.ensures.first
