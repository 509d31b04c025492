use Rattle.std.proofs.Common.{◌∙◌, List, ap, inl, inr, refl, subst, sym}
use Rattle.tds_relay.specs.declared.link.Link.{Link}
use Rattle.tds_relay.specs.Fronts.{ends_in, core_in, core_of_ends}
use Rattle.tds_relay.specs.Anew.{AsksNothing}
use Rattle.tds_relay.specs.Core.{Core, Moves, change_end, closes, EndList, end_at}
use Rattle.tds_relay.specs.Ties.{Application, pool_in}
use Rattle.tds_relay.proofs.steps.Fed.{closed_as_fed, handed_on_is}
use Rattle.tds_relay.proofs.steps.Fronts.{moves_closes, moves_same, no_moves, open_closed}
use Rattle.tds_relay.proofs.steps.Reaching.{ok_more}
use Rattle.tds_relay.proofs.steps.Told.{deaf_behind, deaf_closed}
use Rattle.tds_relay.proofs.steps.Staying.{stays_from}
use Rattle.tds_relay.proofs.bytes.Calls.{stand_on}
use Rattle.tds_relay.specs.Bodies.{ByClosing, Halts, body_of, going_of}
use Rattle.tds_relay.proofs.steps.Bodied.{shut}
use Rattle.tds_relay.proofs.steps.Halting.{halted}
use Rattle.tds_relay.specs.Closings.{Itself}
use Rattle.tds_relay.proofs.spared.Closings.{closes_first}
use Rattle.tds_relay.specs.Reasons.{HasNoRoom}
use Rattle.tds_relay.proofs.spared.Reasons.{for_reason, for_that, halts_unfit, none_of, some_of}
use Rattle.tds_relay.proofs.spared.Speaking.{halting_held, reached_by}
use Rattle.tds_relay.proofs.lending.Resting.{others_on}
use Rattle.tds_relay.proofs.spared.Elsewhere.{aside_on, aside_same}
use Rattle.tds_relay.proofs.spared.Rightly.{deaf_right_on, right_by}
use Rattle.tds_relay.specs.Asking.{IsTakenBack}
use Rattle.tds_relay.specs.Sparing.{IsKept}
use Rattle.tds_relay.specs.Reads.{open_at}
use Rattle.std.specs.Prelude.{IsSome}
use Rattle.tds_relay.proofs.spared.Turned.{kept_asks}
use Rattle.tds_relay.proofs.spared.Begun.{answers_from}
use Rattle.tds_relay.proofs.lending.Tending.{none_led, tend_kept, tend_on}
use Rattle.tds_relay.proofs.relay.Relay.hand_on.Goals as goal

pub returns-in-Some-clause-moves : goal.returns-in-Some-clause-moves
returns-in-Some-clause-moves c =
    let by = Application c.args.key in
    let now = ends_in c.args.self.now.applications in
    let d = pool_in c.args.self.now.pool in
    ok_more c.send_stop.result _ _
    (λ m before bytes f. inl (record {
      mid = core_of_ends d before;
      first = no_moves by (core_of_ends d before);
      same = refl;
      next = subst (λ (h : Core). Moves by h (core_in c.send_stop.new.self))
          (sym (handed_on_is c.args.key d (pool_in c.stop.new.self.pool) before now bytes _ _ f (some_of _ c.in-Some.number _ c.in-Some.is c.in_ok-number.ensures.some).2))
          (m by _ (moves_same by _ _ _ _ _ refl c.stop.ensures.ends (no_moves by (core_of_ends (pool_in c.stop.new.self.pool) now))));
    }))
    c.send_stop.ensures.moves

pub returns-in-None-clause-moves : goal.returns-in-None-clause-moves
returns-in-None-clause-moves c =
    let by = Application c.args.key in
    let now = ends_in c.args.self.now.applications in
    ok_more c.expel.result _ _
    (λ m before bytes f.
    let from = core_of_ends (pool_in c.args.self.now.pool) before in
    let last = m _ (no_moves by _) in
    inr (record {
      moves = m from
          (moves_same by from _ _ (change_end c.args.key closes before) _ refl
          (ap (change_end c.args.key closes) c.stop.ensures.ends ∙ sym (closed_as_fed c.args.key before now bytes _ f))
          (c.stop.ensures.moves (change_end c.args.key closes before) (open_closed AsksNothing before c.args.key) from
          (moves_closes by from _ _ before _ c.args.key refl refl (no_moves by from))));
      deaf = deaf_behind c.args.key _ _ last (deaf_closed c.args.key (ends_in c.stop.new.self.applications));
      nothing = λ queues. refl;
    }))
    c.expel.ensures.moves

pub returns-in-Some-clause-read : goal.returns-in-Some-clause-read
returns-in-Some-clause-read c = stays_from c.send_stop.result _ _ _ c.stop.ensures.links c.send_stop.ensures.read

pub returns-in-None-clause-read : goal.returns-in-None-clause-read
returns-in-None-clause-read c = stays_from c.expel.result _ _ _ c.stop.ensures.links c.expel.ensures.read

pub returns-in-Some-clause-stand : goal.returns-in-Some-clause-stand
returns-in-Some-clause-stand c = stand_on c.send_stop.result _ _ _ c.stop.ensures.stand c.send_stop.ensures.stand

pub returns-in-None-clause-stand : goal.returns-in-None-clause-stand
returns-in-None-clause-stand c = stand_on c.expel.result _ _ _ c.stop.ensures.stand c.expel.ensures.stand

pub returns-in-Some-clause-body : goal.returns-in-Some-clause-body
returns-in-Some-clause-body c =
    ok_more c.send_stop.result _ _ (λ s. halted c.args.key c.in-Some.number c.args.self.now c.stop.new.self c.send_stop.new.self (some_of _ c.in-Some.number _ c.in-Some.is c.in_ok-number.ensures.stops) c.stop.ensures.links c.stop.ensures.asks s) c.send_stop.ensures.sends

pub returns-in-None-clause-body : goal.returns-in-None-clause-body
returns-in-None-clause-body c =
    ok_more c.expel.result _ _ (λ d. subst (Halts (body_of c.args.key c.args.self.now)) (sym (shut c.expel.new.self.applications c.args.key (going_of c.args.key c.expel.new.self) d)) ByClosing) c.expel.ensures.over

pub returns-in-Some-clause-closes : goal.returns-in-Some-clause-closes
returns-in-Some-clause-closes c =
    closes_first c.send_stop.result _ _ _ _
    (for_that c.send_stop.result c.args.key _ _ _ _
    (λ none. inr (halts_unfit c.args.key c.in-Some.number c.args.self.now c.stop.new.self c.args.self.now.links.items (some_of _ c.in-Some.number _ c.in-Some.is c.in_ok-number.ensures.stops)
    (subst (λ (ls : List Link). HasNoRoom c.in-Some.number c.stop.new.self.outbox.items ls) c.stop.ensures.links none)))
    c.send_stop.ensures.closes)
    c.stop.ensures.closes

pub returns-in-None-clause-closes : goal.returns-in-None-clause-closes
returns-in-None-clause-closes c = for_reason c.expel.result c.args.key _ _ _ (inl (none_of _ _ c.in-None.is c.in_ok-number.ensures.none)) (closes_first c.expel.result (Itself c.args.key) _ _ _ c.expel.ensures.closes c.stop.ensures.closes)

pub returns-in-Some-clause-seated : goal.returns-in-Some-clause-seated
returns-in-Some-clause-seated c = λ s. c.send_stop.ensures.seated (c.stop.ensures.seated s)

pub returns-in-None-clause-seated : goal.returns-in-None-clause-seated
returns-in-None-clause-seated c = λ s. c.expel.ensures.seated (c.stop.ensures.seated s)

pub returns-in-Some-clause-others : goal.returns-in-Some-clause-others
returns-in-Some-clause-others c = λ reached.
    let a = c.args.self.now in
    let d = c.stop.new.self in
    let halts = some_of _ c.in-Some.number _ c.in-Some.is c.in_ok-number.ensures.stops in
    others_on c.send_stop.result c.args.key a d c.send_stop.new.self
    (c.send_stop.ensures.others (reached_by c.args.key a.pool d.pool c.stop.ensures.goes reached) halts.hold (halting_held c.in-Some.number c.args.key a d halts) (sym halts.number_is)) (c.stop.ensures.others reached)

pub returns-in-None-clause-others : goal.returns-in-None-clause-others
returns-in-None-clause-others c = λ reached.
    others_on c.expel.result c.args.key c.args.self.now c.stop.new.self c.expel.new.self (c.expel.ensures.others (reached_by c.args.key c.args.self.now.pool c.stop.new.self.pool c.stop.ensures.goes reached)) (c.stop.ensures.others reached)

pub returns-in-Some-clause-aside : goal.returns-in-Some-clause-aside
returns-in-Some-clause-aside c = λ reached.
    let a = c.args.self.now in
    let d = c.stop.new.self in
    let halts = some_of _ c.in-Some.number _ c.in-Some.is c.in_ok-number.ensures.stops in
    aside_on c.send_stop.result c.args.key a d c.send_stop.new.self (aside_same c.args.key a d c.stop.ensures.holds c.stop.ensures.links)
    (c.send_stop.ensures.aside (reached_by c.args.key a.pool d.pool c.stop.ensures.goes reached) halts.hold (halting_held c.in-Some.number c.args.key a d halts) (sym halts.number_is))

pub returns-in-None-clause-aside : goal.returns-in-None-clause-aside
returns-in-None-clause-aside c = λ reached.
    let a = c.args.self.now in
    let d = c.stop.new.self in
    aside_on c.expel.result c.args.key a d c.expel.new.self (aside_same c.args.key a d c.stop.ensures.holds c.stop.ensures.links) (c.expel.ensures.aside (reached_by c.args.key a.pool d.pool c.stop.ensures.goes reached))

pub returns-in-Some-clause-right : goal.returns-in-Some-clause-right
returns-in-Some-clause-right c = λ right.
    let old = c.args.self.now in
    let mid = c.stop.new.self in
    c.send_stop.ensures.right
    (right_by c.args.key old mid c.stop.ensures.holds (λ back. subst (λ (es : EndList). IsTakenBack (end_at es c.args.key)) (sym c.stop.ensures.ends) back)
    (λ kept. subst IsKept (sym (kept_asks c.args.key mid old c.stop.ensures.asks kept)) kept) (λ n some. subst (λ (ls : List Link). IsSome (open_at n ls)) c.stop.ensures.links some) right)

pub returns-in-None-clause-right : goal.returns-in-None-clause-right
returns-in-None-clause-right c = λ right. deaf_right_on c.expel.result c.args.key c.expel.new.self c.expel.ensures.over

pub returns-in-Some-clause-goes : goal.returns-in-Some-clause-goes
returns-in-Some-clause-goes c = ok_more c.send_stop.result _ _ (λ g from h. g (Application c.args.key) from (c.stop.ensures.goes from h)) c.send_stop.ensures.goes

pub returns-in-Some-clause-answers : goal.returns-in-Some-clause-answers
returns-in-Some-clause-answers c = answers_from c.send_stop.result _ _ _ c.stop.ensures.links c.send_stop.ensures.answers

pub returns-in-None-clause-answers : goal.returns-in-None-clause-answers
returns-in-None-clause-answers c = answers_from c.expel.result _ _ _ c.stop.ensures.links c.expel.ensures.answers

pub returns-in-Some-clause-awaits : goal.returns-in-Some-clause-awaits
returns-in-Some-clause-awaits c =
    let a = c.args.self.now in
    let d = c.stop.new.self in
    let halts = some_of _ c.in-Some.number _ c.in-Some.is c.in_ok-number.ensures.stops in
    tend_on c.send_stop.result a d c.send_stop.new.self (reached_by c.args.key a.pool d.pool c.stop.ensures.goes) c.stop.ensures.awaits
    (tend_kept c.send_stop.result c.args.key d c.send_stop.new.self (none_led c.send_stop.result (pool_in d.pool) (pool_in c.send_stop.new.self.pool) c.send_stop.ensures.goes)
    (λ reached. c.send_stop.ensures.aside reached halts.hold (halting_held c.in-Some.number c.args.key a d halts) (sym halts.number_is)))

pub returns-in-None-clause-awaits : goal.returns-in-None-clause-awaits
returns-in-None-clause-awaits c =
    tend_on c.expel.result c.args.self.now c.stop.new.self c.expel.new.self (reached_by c.args.key c.args.self.now.pool c.stop.new.self.pool c.stop.ensures.goes) c.stop.ensures.awaits c.expel.ensures.awaits
