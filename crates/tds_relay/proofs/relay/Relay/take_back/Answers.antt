use Rattle.std.proofs.Common.{◌∙◌, List, ap, false, inl, inr, refl, subst, sym, ℕ, ◌≡◌, Some}
use Rattle.tds_relay.specs.declared.link.Link.{Link}
use Rattle.tds_relay.specs.Anew.{AsksNothing}
use Rattle.tds_relay.specs.Fronts.{ends_in, core_in, core_of_ends, withdraws}
use Rattle.tds_relay.specs.Core.{Core, Moves, change_end, closes, is_in}
use Rattle.tds_relay.specs.Ties.{Application, pool_in, Reaches, IsReached}
use Rattle.tds_relay.proofs.steps.Fed.{closed_as_fed, taken_back_at}
use Rattle.tds_relay.proofs.steps.Quieting.{moves_unwaits, stops_unwaits}
use Rattle.tds_relay.proofs.steps.Fronts.{moves_closes, moves_does, moves_same, no_moves, open_closed}
use Rattle.tds_relay.proofs.steps.Reaching.{ok_more}
use Rattle.tds_relay.proofs.steps.Told.{deaf_behind, deaf_closed}
use Rattle.tds_relay.proofs.steps.Staying.{stays_from}
use Rattle.tds_relay.proofs.bytes.Calls.{stand_at, stand_on}
use Rattle.tds_relay.proofs.steps.Bodied.{asks_then, forgot_on, kept_on_ok, shut}
use Rattle.tds_relay.specs.Closings.{Itself, NoKey}
use Rattle.tds_relay.proofs.spared.Closings.{closes_both, closes_first}
use Rattle.tds_relay.specs.Reasons.{HasNoRoom}
use Rattle.tds_relay.proofs.spared.Reasons.{for_reason, for_that, halts_unfit, none_of, some_of}
use Rattle.tds_relay.proofs.seats.Relays.{kept_seated, unwaited}
use Rattle.tds_relay.specs.declared.pool.Pool as code
use Rattle.tds_relay.proofs.spared.Speaking.{filled_at, halting_held, reached_by}
use Rattle.tds_relay.proofs.lending.Resting.{all_others, all_rest, asks_on, others_both, others_on}
use Rattle.tds_relay.specs.Pool.{find_key, Pool, Stops}
use Rattle.tds_relay.proofs.spared.Elsewhere.{aside_both, aside_on, aside_same}
use Rattle.tds_relay.specs.Bodies.{body_of, going_of, standing_in}
use Rattle.tds_relay.proofs.steps.Halting.{cancelled_shut, taken_back}
use Rattle.tds_relay.proofs.steps.Tied.{closed_asks}
use Rattle.tds_relay.proofs.spared.Begun.{answers_from}
use Rattle.tds_relay.proofs.steps.Underway.{out_still}
use Rattle.tds_relay.proofs.lending.Tending.{none_led, tend_all, tend_kept, tend_on, tend_same}
use Rattle.tds_relay.proofs.relay.Relay.take_back.Goals as goal

pub returns-in-Some-clause-moves : goal.returns-in-Some-clause-moves
returns-in-Some-clause-moves c =
    let by = Application c.args.key in
    let now = ends_in c.args.self.now.applications in
    let same = c.stop.ensures.ends ∙ c.forget_request.ensures.ends in
    let behind = c.withdraw.ensures.ends ∙ ap (change_end c.args.key withdraws) same in
    let d = pool_in c.args.self.now.pool in
    ok_more c.send_stop.result _ _
    (λ m quiet before bytes f. inl (record {
      mid = core_of_ends d before;
      first = no_moves by (core_of_ends d before);
      same = refl;
      next = subst (λ (h : Core). Moves by h (core_in c.send_stop.new.self)) (sym (taken_back_at c.args.key d before now (ends_in c.withdraw.new.self.applications) bytes f behind))
          (m by _ (moves_same by _ _ _ _ _ (ap pool_in c.withdraw.ensures.pool) refl
          (moves_unwaits c.args.key _ _ _ now _ (stops_unwaits c.args.key _ _ _ _ _ _ _ c.forget_request.ensures.turns (some_of _ c.in-Some.number _ c.in-Some.is c.in_ok-number.ensures.some).2) behind quiet (no_moves by _))));
    }))
    c.send_stop.ensures.moves

pub returns-in-None-clause-moves : goal.returns-in-None-clause-moves
returns-in-None-clause-moves c =
    let by = Application c.args.key in
    let now = ends_in c.args.self.now.applications in
    let same = c.stop.ensures.ends ∙ c.forget_request.ensures.ends in
    ok_more c.expel.result _ _
    (λ m quiet before bytes f.
    let from = core_of_ends (pool_in c.args.self.now.pool) before in
    let last = m _ (no_moves by _) in
    inr (record {
      moves = m from
          (moves_same by from _ _ (change_end c.args.key closes before) _ refl
          (ap (change_end c.args.key closes) same ∙ sym (closed_as_fed c.args.key before now bytes _ f))
          (c.stop.ensures.moves (change_end c.args.key closes before) (open_closed AsksNothing before c.args.key) from
          (moves_does by from _ _ (change_end c.args.key closes before) _ _ _ _ c.forget_request.ensures.turns (open_closed AsksNothing before c.args.key) refl refl
          (moves_closes by from _ _ before _ c.args.key refl refl (no_moves by from)))));
      deaf = deaf_behind c.args.key _ _ last (deaf_closed c.args.key (ends_in c.stop.new.self.applications));
      nothing = λ queues. refl;
    }))
    c.expel.ensures.moves

pub returns-in-Some-clause-read : goal.returns-in-Some-clause-read
returns-in-Some-clause-read c = stays_from c.send_stop.result _ _ _ (c.withdraw.ensures.links ∙ c.stop.ensures.links ∙ c.forget_request.ensures.links) c.send_stop.ensures.read

pub returns-in-None-clause-read : goal.returns-in-None-clause-read
returns-in-None-clause-read c = stays_from c.expel.result _ _ _ (c.stop.ensures.links ∙ c.forget_request.ensures.links) c.expel.ensures.read

pub returns-in-Some-clause-stand : goal.returns-in-Some-clause-stand
returns-in-Some-clause-stand c = stand_on c.send_stop.result _ _ _ (stand_at _ _ _ (λ n r h. c.stop.ensures.stand n r (c.forget_request.ensures.stand n r h)) c.withdraw.ensures.pool) c.send_stop.ensures.stand

pub returns-in-None-clause-stand : goal.returns-in-None-clause-stand
returns-in-None-clause-stand c = stand_on c.expel.result _ _ _ (λ n r h. c.stop.ensures.stand n r (c.forget_request.ensures.stand n r h)) c.expel.ensures.stand

pub returns-in-Some-clause-body : goal.returns-in-Some-clause-body
returns-in-Some-clause-body c =
    forgot_on c.send_stop.result c.forget_request.new.self.applications c.send_stop.new.self.applications c.args.key c.forget_request.ensures.body
    (kept_on_ok c.send_stop.result c.forget_request.new.self.applications c.withdraw.new.self.applications c.send_stop.new.self.applications
    (asks_then c.forget_request.new.self.applications c.stop.new.self.applications c.withdraw.new.self.applications c.stop.ensures.asks c.withdraw.ensures.asks) c.send_stop.ensures.asks)

pub returns-in-None-clause-body : goal.returns-in-None-clause-body
returns-in-None-clause-body c =
    forgot_on c.expel.result c.forget_request.new.self.applications c.expel.new.self.applications c.args.key c.forget_request.ensures.body
    (kept_on_ok c.expel.result c.forget_request.new.self.applications c.stop.new.self.applications c.expel.new.self.applications c.stop.ensures.asks c.expel.ensures.asks)

pub returns-in-Some-clause-closes : goal.returns-in-Some-clause-closes
returns-in-Some-clause-closes c =
    let mid = c.forget_request.new.self in
    let halts = (some_of _ c.in-Some.number _ c.in-Some.is c.in_ok-number.ensures.stops) in
    closes_first c.send_stop.result _ _ _ _
    (for_that c.send_stop.result c.args.key _ _ _ _
    (λ none. record {
      mid = mid.pool;
      holds = c.forget_request.ensures.holds;
      service = c.forget_request.ensures.service;
      cannot =
          inr (halts_unfit c.args.key c.in-Some.number mid c.stop.new.self c.args.self.now.links.items halts
          (subst (λ (xs : List ℕ). HasNoRoom c.in-Some.number xs c.args.self.now.links.items) c.withdraw.ensures.outbox
          (subst (λ (ls : List Link). HasNoRoom c.in-Some.number c.withdraw.new.self.outbox.items ls) (c.withdraw.ensures.links ∙ c.stop.ensures.links ∙ c.forget_request.ensures.links) none)));
    })
    c.send_stop.ensures.closes)
    (closes_both NoKey _ _ _ (closes_both NoKey _ _ _ c.forget_request.ensures.closes c.stop.ensures.closes) c.withdraw.ensures.closes)

pub returns-in-None-clause-closes : goal.returns-in-None-clause-closes
returns-in-None-clause-closes c =
    for_reason c.expel.result c.args.key _ _ _
    (record {
      mid = c.forget_request.new.self.pool;
      holds = c.forget_request.ensures.holds;
      service = c.forget_request.ensures.service;
      cannot = inl (none_of _ _ c.in-None.is c.in_ok-number.ensures.none);
    })
    (closes_first c.expel.result (Itself c.args.key) _ _ _ c.expel.ensures.closes (closes_both NoKey _ _ _ c.forget_request.ensures.closes c.stop.ensures.closes))

pub returns-in-Some-clause-seated : goal.returns-in-Some-clause-seated
returns-in-Some-clause-seated c = λ s. c.send_stop.ensures.seated (kept_seated c.stop.new.self c.withdraw.new.self c.withdraw.ensures.pool c.withdraw.ensures.links (c.stop.ensures.seated (unwaited c.args.key c.args.self.now.pool c.forget_request.new.self c.args.self.now.links.items c.forget_request.ensures.turns c.forget_request.ensures.service c.forget_request.ensures.links s)))

pub returns-in-None-clause-seated : goal.returns-in-None-clause-seated
returns-in-None-clause-seated c = λ s. c.expel.ensures.seated (c.stop.ensures.seated (unwaited c.args.key c.args.self.now.pool c.forget_request.new.self c.args.self.now.links.items c.forget_request.ensures.turns c.forget_request.ensures.service c.forget_request.ensures.links s))

pub returns-in-Some-clause-goes : goal.returns-in-Some-clause-goes
returns-in-Some-clause-goes c =
    ok_more c.send_stop.result _ _ (λ g from h. g (Application c.args.key) from
    (subst (λ (d : code.Pool). Reaches (Application c.args.key) from (pool_in d)) (sym c.withdraw.ensures.pool) (c.stop.ensures.goes from (c.forget_request.ensures.goes from h)))) c.send_stop.ensures.goes

pub returns-in-Some-clause-others : goal.returns-in-Some-clause-others
returns-in-Some-clause-others c = λ reached.
    let a = c.args.self.now in
    let b = c.forget_request.new.self in
    let d = c.stop.new.self in
    let e = c.withdraw.new.self in
    let led = reached_by c.args.key a.pool b.pool c.forget_request.ensures.goes reached in
    let stopped = reached_by c.args.key b.pool d.pool c.stop.ensures.goes led in
    let halts = some_of _ c.in-Some.number _ c.in-Some.is c.in_ok-number.ensures.stops in
    others_on c.send_stop.result c.args.key a e c.send_stop.new.self
    (c.send_stop.ensures.others (filled_at d e c.withdraw.ensures.pool stopped) halts.hold
    (subst (λ (x : code.Pool). find_key c.args.key x.holds.items ≡ Some halts.hold) (sym c.withdraw.ensures.pool) (halting_held c.in-Some.number c.args.key b d halts)) (sym halts.number_is))
    (others_both c.args.key a b e c.forget_request.ensures.others
    (others_both c.args.key b d e (c.stop.ensures.others led) (all_others c.args.key d e (all_rest d e c.withdraw.ensures.pool c.withdraw.ensures.links (asks_on d e c.withdraw.ensures.asks)))))

pub returns-in-None-clause-others : goal.returns-in-None-clause-others
returns-in-None-clause-others c = λ reached.
    let a = c.args.self.now in
    let b = c.forget_request.new.self in
    let d = c.stop.new.self in
    let led = reached_by c.args.key a.pool b.pool c.forget_request.ensures.goes reached in
    others_on c.expel.result c.args.key a d c.expel.new.self (c.expel.ensures.others (reached_by c.args.key b.pool d.pool c.stop.ensures.goes led))
    (others_both c.args.key a b d c.forget_request.ensures.others (c.stop.ensures.others led))

pub returns-in-Some-clause-aside : goal.returns-in-Some-clause-aside
returns-in-Some-clause-aside c = λ reached.
    let a = c.args.self.now in
    let b = c.forget_request.new.self in
    let d = c.stop.new.self in
    let e = c.withdraw.new.self in
    let led = reached_by c.args.key a.pool b.pool c.forget_request.ensures.goes reached in
    let stopped = reached_by c.args.key b.pool d.pool c.stop.ensures.goes led in
    let halts = some_of _ c.in-Some.number _ c.in-Some.is c.in_ok-number.ensures.stops in
    aside_on c.send_stop.result c.args.key a e c.send_stop.new.self
    (aside_both c.args.key a b e (aside_same c.args.key a b (ap (λ (x : Pool). x.holds) c.forget_request.ensures.turns.pool_is) c.forget_request.ensures.links)
    (aside_both c.args.key b d e (aside_same c.args.key b d c.stop.ensures.holds c.stop.ensures.links) (aside_same c.args.key d e (ap (λ (x : code.Pool). x.holds.items) c.withdraw.ensures.pool) c.withdraw.ensures.links)))
    (c.send_stop.ensures.aside (filled_at d e c.withdraw.ensures.pool stopped) halts.hold
    (subst (λ (x : code.Pool). find_key c.args.key x.holds.items ≡ Some halts.hold) (sym c.withdraw.ensures.pool) (halting_held c.in-Some.number c.args.key b d halts)) (sym halts.number_is))

pub returns-in-None-clause-aside : goal.returns-in-None-clause-aside
returns-in-None-clause-aside c = λ reached.
    let a = c.args.self.now in
    let b = c.forget_request.new.self in
    let d = c.stop.new.self in
    let led = reached_by c.args.key a.pool b.pool c.forget_request.ensures.goes reached in
    aside_on c.expel.result c.args.key a d c.expel.new.self
    (aside_both c.args.key a b d (aside_same c.args.key a b (ap (λ (x : Pool). x.holds) c.forget_request.ensures.turns.pool_is) c.forget_request.ensures.links) (aside_same c.args.key b d c.stop.ensures.holds c.stop.ensures.links))
    (c.expel.ensures.aside (reached_by c.args.key b.pool d.pool c.stop.ensures.goes led))

pub returns-in-Some-clause-cancels : goal.returns-in-Some-clause-cancels
returns-in-Some-clause-cancels c =
    ok_more c.send_stop.result _ _
    (λ s. taken_back c.args.key c.in-Some.number c.args.self.now c.forget_request.new.self c.stop.new.self c.withdraw.new.self c.send_stop.new.self c.forget_request.ensures.holds c.forget_request.ensures.service
    (c.withdraw.ensures.links ∙ c.stop.ensures.links ∙ c.forget_request.ensures.links) c.withdraw.ensures.outbox
    (λ e goes. c.withdraw.ensures.asks c.args.key goes ∙ c.stop.ensures.asks c.args.key goes ∙ closed_asks c.args.key c.args.self.now c.forget_request.new.self c.forget_request.ensures.ends e goes) (some_of _ c.in-Some.number _ c.in-Some.is c.in_ok-number.ensures.stops) s)
    c.send_stop.ensures.sends

pub returns-in-None-clause-cancels : goal.returns-in-None-clause-cancels
returns-in-None-clause-cancels c =
    ok_more c.expel.result _ _ (λ d. cancelled_shut (body_of c.args.key c.args.self.now) (standing_in c.args.key c.expel.new.self) (shut c.expel.new.self.applications c.args.key (going_of c.args.key c.expel.new.self) d)) c.expel.ensures.over

pub returns-in-Some-clause-answers : goal.returns-in-Some-clause-answers
returns-in-Some-clause-answers c = answers_from c.send_stop.result _ _ _ (c.withdraw.ensures.links ∙ c.stop.ensures.links ∙ c.forget_request.ensures.links) c.send_stop.ensures.answers

pub returns-in-None-clause-answers : goal.returns-in-None-clause-answers
returns-in-None-clause-answers c = answers_from c.expel.result _ _ _ (c.stop.ensures.links ∙ c.forget_request.ensures.links) c.expel.ensures.answers

pub returns-in-Some-clause-away : goal.returns-in-Some-clause-away
returns-in-Some-clause-away c =
    c.send_stop.ensures.away
    (subst (λ (d : code.Pool). is_in c.args.key (pool_in d).line ≡ false) (sym c.withdraw.ensures.pool)
    (out_still c.args.key Stops (pool_in c.forget_request.new.self.pool) (pool_in c.stop.new.self.pool) (some_of _ c.in-Some.number _ c.in-Some.is c.in_ok-number.ensures.some).2.pool_is c.forget_request.ensures.away))

pub returns-in-None-clause-away : goal.returns-in-None-clause-away
returns-in-None-clause-away c = c.expel.ensures.away

pub returns-in-Some-clause-awaits : goal.returns-in-Some-clause-awaits
returns-in-Some-clause-awaits c =
    let a = c.args.self.now in
    let b = c.forget_request.new.self in
    let d = c.stop.new.self in
    let e = c.withdraw.new.self in
    let halts = some_of _ c.in-Some.number _ c.in-Some.is c.in_ok-number.ensures.stops in
    let led = reached_by c.args.key a.pool b.pool c.forget_request.ensures.goes in
    let stopped = reached_by c.args.key b.pool d.pool c.stop.ensures.goes in
    let there : IsReached (pool_in d.pool) → IsReached (pool_in e.pool) = λ reached. subst (λ (x : code.Pool). IsReached (pool_in x)) (sym c.withdraw.ensures.pool) reached in
    tend_on c.send_stop.result a e c.send_stop.new.self (λ reached. there (stopped (led reached)))
    (tend_all a b e led c.forget_request.ensures.awaits (tend_all b d e stopped c.stop.ensures.awaits (tend_same d e c.withdraw.ensures.pool c.withdraw.ensures.links)))
    (tend_kept c.send_stop.result c.args.key e c.send_stop.new.self (none_led c.send_stop.result (pool_in e.pool) (pool_in c.send_stop.new.self.pool) c.send_stop.ensures.goes)
    (λ reached. c.send_stop.ensures.aside reached halts.hold
    (subst (λ (x : code.Pool). find_key c.args.key x.holds.items ≡ Some halts.hold) (sym c.withdraw.ensures.pool) (halting_held c.in-Some.number c.args.key b d halts)) (sym halts.number_is)))

pub returns-in-None-clause-awaits : goal.returns-in-None-clause-awaits
returns-in-None-clause-awaits c =
    let a = c.args.self.now in
    let b = c.forget_request.new.self in
    let d = c.stop.new.self in
    let led = reached_by c.args.key a.pool b.pool c.forget_request.ensures.goes in
    let stopped = reached_by c.args.key b.pool d.pool c.stop.ensures.goes in
    tend_on c.expel.result a d c.expel.new.self (λ reached. stopped (led reached)) (tend_all a b d led c.forget_request.ensures.awaits c.stop.ensures.awaits) c.expel.ensures.awaits
