use Rattle.std.proofs.Common.{rules, ◌≡◌, ◌≢◌, ◌+◌, length, true, false, inl, inr, refl, subst, ap}
use Rattle.tds_packet.specs.declared.kind.Direction.TheVariants.{ToClient}
use Rattle.tds_ends.specs.Lent.{LentToClient}
use Rattle.tds_ends.proofs.Empty.{as_new, holds_none, is_absent, is_there}
use Rattle.tds_ends.proofs.Feeding.{slice_rest}
use Rattle.tds_ends.proofs.LentClient.{heard_behind, heard_stopped, heard_whole}
use Rattle.tds_ends.proofs.ends.ClientEnd.listen.Goals as goal

pub returns-then-is_some-clause-listens : goal.returns-then-is_some-clause-listens
returns-then-is_some-clause-listens c =
    let yes : c.is_empty.result ≡ true = search rules in
    let empty = holds_none c.is_empty.result c.args.self.now.reader.taken yes c.is_empty.ensures in
    let reads : c.args.self.now.reader.direction ≡ ToClient = search rules in
    let same = as_new c.args.self.now.reader ToClient c.size.result reads c.size.ensures empty in
    let lent = subst (λ x. LentToClient x c.args.piece.now c.args.self.now.client c.listen_lent-lent.new.client c.args.told.now.items c.listen_lent-lent.new.told.items c.listen_lent-lent.result) same c.listen_lent-lent.ensures.listens in
    elim c.then-is_some.either [
      | inl some ↦ heard_stopped _ _ _ _ _ _ _ _ empty refl (is_there c.is_some.result _ some c.is_some.ensures) lent
      | inr all ↦ heard_whole _ _ _ _ _ _ _ empty (is_absent c.is_some.result _ all.0 c.is_some.ensures) all.1 lent
    ]

pub returns-clause-listens : goal.returns-clause-listens
returns-clause-listens c =
    let yes : c.is_empty.result ≡ true = search rules in
    let empty = holds_none c.is_empty.result c.args.self.now.reader.taken yes c.is_empty.ensures in
    let reads : c.args.self.now.reader.direction ≡ ToClient = search rules in
    let same = as_new c.args.self.now.reader ToClient c.size.result reads c.size.ensures empty in
    let lent = subst (λ x. LentToClient x c.args.piece.now c.args.self.now.client c.listen_lent-lent.new.client c.args.told.now.items c.listen_lent-lent.new.told.items c.listen_lent-lent.result) same c.listen_lent-lent.ensures.listens in
    let off : c.is_some.result ≡ false = search rules in
    let more : c.listen_lent-lent.result.count ≢ length c.args.piece.now = search rules in
    heard_behind _ _ _ _ _ _ _ _ _ _ c.listen_lent-lent.result c.keep-kept.result _ empty (is_absent c.is_some.result _ off c.is_some.ensures) c.listen_lent-lent.ensures.within more (slice_rest c.listen_lent-lent.result.count c.args.piece.now)
    (ap (λ x. record { count = c.listen_lent-lent.result.count + c.keep-kept.result.count; settled = x; stop = c.keep-kept.result.stop }) c.settled_last.ensures) lent c.keep-kept.ensures.keeps
