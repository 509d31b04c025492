use Rattle.std.proofs.Common.{◌∙◌, None, ap, option_map, refl, subst, sym}
use Rattle.tds_relay.specs.Queues.{Queues, acknowledgement, give, tagged, queue_at, queue_in, put_behind, names_of, queues_in}
use Rattle.tds_relay.proofs.steps.Fronts.{ends_kept, moves_same}
use Rattle.tds_relay.proofs.steps.Queueing.{kept_more, queues_changed}
use Rattle.tds_relay.proofs.steps.Reaching.{ok_more}
use Rattle.tds_relay.proofs.steps.Renaming.{put_called, names_given}
use Rattle.tds_relay.proofs.steps.Bodied.{asks_kept_on}
use Rattle.tds_relay.specs.Reasons.{IsOverfull, ItselfFor}
use Rattle.tds_relay.proofs.spared.Reasons.{for_that}
use Rattle.tds_front.specs.declared.front.Said.TheVariants as said
use Rattle.tds_relay.proofs.spared.Ended.{closes_given_on, woken_writes}
use Rattle.std.proofs.lemmas.List.{get_or-set_other}
use Rattle.tds_relay.proofs.relay.Relay.acknowledge.Goals as goal

pub returns-in_ok-append-in-Some-clause-given : goal.returns-in_ok-append-in-Some-clause-given
returns-in_ok-append-in-Some-clause-given c =
    kept_more c.order_write.result _ _ _ c.order_write.ensures.kept
    (queues_changed c.args.self.now.applications c.args.key c.in-Some.application.now _ (put_behind acknowledgement) c.in-Some.ensures.value
    (ap (tagged c.in-Some.application.now.tag) c.in_ok-append-in-Some.ensures.queue ∙ sym (put_called c.in-Some.application.now.tag acknowledgement (queue_in c.in-Some.application.now.out))))

pub returns-in_ok-append-in-Some-clause-moves : goal.returns-in_ok-append-in-Some-clause-moves
returns-in_ok-append-in-Some-clause-moves c =
    ok_more c.order_write.result _ _
    (λ m by from h. m by from (moves_same by from _ _ _ _ refl (ends_kept c.args.self.now.applications c.args.key c.in-Some.application.now _ c.in-Some.ensures.value refl) h))
    c.order_write.ensures.moves

pub returns-in_ok-append-in-Some-clause-asks : goal.returns-in_ok-append-in-Some-clause-asks
returns-in_ok-append-in-Some-clause-asks c =
    asks_kept_on c.order_write.result c.args.self.now.applications c.order_write.new.self.applications c.args.key c.in-Some.application.now _ c.in-Some.ensures.value (λ goes. refl) c.order_write.ensures.asks

pub returns-in_ok-append-in-Some-clause-closes : goal.returns-in_ok-append-in-Some-clause-closes
returns-in_ok-append-in-Some-clause-closes c =
    let s = c.args.self.now.applications in
    let a = c.in-Some.application.now in
    let same = queues_changed s c.args.key a _ (put_behind acknowledgement) c.in-Some.ensures.value (ap (tagged a.tag) c.in_ok-append-in-Some.ensures.queue ∙ sym (put_called a.tag acknowledgement (queue_in a.out))) in
    closes_given_on c.order_write.result (ItselfFor c.args.key (IsOverfull (queue_at (give c.args.key acknowledgement (queues_in s)) c.args.key))) c.args.key _ _ _ (ends_kept s c.args.key a _ c.in-Some.ensures.value refl) (ap names_of same ∙ names_given c.args.key said.Acknowledge (queues_in s))
    (λ k differs. ap (λ (ps : Queues). queue_at ps k) same ∙ get_or-set_other (queues_in s) c.args.key k (option_map (put_behind acknowledgement) (queue_at (queues_in s) c.args.key)) None differs) refl refl refl
    (for_that c.order_write.result c.args.key _ _ _ _ (λ full. subst (λ (ps : Queues). IsOverfull (queue_at ps c.args.key)) same full) c.order_write.ensures.closes)
    (ok_more c.order_write.result _ _ (λ w. woken_writes c.args.key c.order_write.new.self.applications c.order_write.new.self.orders.items w) c.order_write.ensures.wakes)
