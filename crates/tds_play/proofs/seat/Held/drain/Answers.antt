use Rattle.std.proofs.Common.{◌≡◌, ◌∙◌, ℕ, true, false, refl, sym, ap}
use Rattle.tds_pool.specs.Calls as calls
use Rattle.tds_pool.specs.Calls.{is_broken}
use Rattle.tds_pool.specs.Cleaning.{is_cleaned}
use Rattle.tds_pool.specs.Connections.{connections, numbered}
use Rattle.tds_play.specs.Pooled.{seat_by}
use Rattle.tds_play.specs.Seats.{drained}
use Rattle.tds_play.proofs.pooled.Leaves.{IsClosed, IsMoved, drained_closed, drained_moved, is_closed}
use Rattle.tds_play.proofs.pooled.Numbers.{IsIn}
use Rattle.tds_play.proofs.pooled.Returned.{seat_drained}
use Rattle.tds_play.proofs.pooled.Settled.{closed_changes, gone_there, in_of, moved_changes, not_closed, stays_there}
use Rattle.tds_play.proofs.seat.Held.drain.Goals as goal

pub returns-in-Closed-clause-pool : goal.returns-in-Closed-clause-pool
returns-in-Closed-clause-pool g c =
    let n : ℕ = c.args.self.now.link.number in
    let pcs = connections c.args.pool.now in
    let it : IsIn n pcs = in_of n pcs c.requires.is_in in
    let closed : IsClosed n pcs it.connection (calls.drained n pcs) = drained_closed n pcs it.connection it.there (ap is_closed (sym c.drained.ensures.answer ∙ c.in-Closed.is)) in
    closed_changes n c.cut.new.self.is_cut c.args.pool.now c.drained.new.self (ap (λ l. l.is_cut) c.cut.ensures.value) (c.drained.ensures.shown ∙ closed.connections) c.drained.ensures.rest

pub returns-in-Closed-clause-there : goal.returns-in-Closed-clause-there
returns-in-Closed-clause-there g c =
    let n : ℕ = c.args.self.now.link.number in
    let pcs = connections c.args.pool.now in
    let it : IsIn n pcs = in_of n pcs c.requires.is_in in
    let closed : IsClosed n pcs it.connection (calls.drained n pcs) = drained_closed n pcs it.connection it.there (ap is_closed (sym c.drained.ensures.answer ∙ c.in-Closed.is)) in
    gone_there (record c.args.self.now { link = c.cut.new.self }) n c.drained.new.self pcs c.cut.ensures.number (ap (λ l. l.is_cut) c.cut.ensures.value) (c.drained.ensures.shown ∙ closed.connections)

pub returns-in-Closed-clause-sound : goal.returns-in-Closed-clause-sound
returns-in-Closed-clause-sound g c = λ sound.
    let n : ℕ = c.args.self.now.link.number in
    let pcs = connections c.args.pool.now in
    let it : IsIn n pcs = in_of n pcs c.requires.is_in in
    let closed : IsClosed n pcs it.connection (calls.drained n pcs) = drained_closed n pcs it.connection it.there (ap is_closed (sym c.drained.ensures.answer ∙ c.in-Closed.is)) in
    let bad : true ≡ false = sym closed.broken ∙ sym (ap (λ o. is_broken (seat_by c.args.self.now.holder o).client.stage) it.there) ∙ sound in
    absurd (cc)

pub returns-in_default-clause-pool : goal.returns-in_default-clause-pool
returns-in_default-clause-pool g c =
    let n : ℕ = c.args.self.now.link.number in
    let pcs = connections c.args.pool.now in
    let it : IsIn n pcs = in_of n pcs c.requires.is_in in
    let moved : IsMoved n pcs it.connection (calls.drained n pcs) = drained_moved n pcs it.connection it.there (ap is_closed (sym c.drained.ensures.answer) ∙ not_closed c.drained.result c.in_default.not-Closed) in
    moved_changes n c.args.self.now.link.is_cut c.args.pool.now c.drained.new.self it.connection (calls.drained n pcs) c.requires.live it.there moved c.drained.ensures.shown c.drained.ensures.rest

pub returns-in_default-clause-there : goal.returns-in_default-clause-there
returns-in_default-clause-there g c =
    let n : ℕ = c.args.self.now.link.number in
    let pcs = connections c.args.pool.now in
    let it : IsIn n pcs = in_of n pcs c.requires.is_in in
    let moved : IsMoved n pcs it.connection (calls.drained n pcs) = drained_moved n pcs it.connection it.there (ap is_closed (sym c.drained.ensures.answer) ∙ not_closed c.drained.result c.in_default.not-Closed) in
    stays_there c.args.self.now c.args.self.now c.args.pool.now c.drained.new.self refl c.requires.live c.requires.is_in (ap calls.all_numbers c.drained.ensures.shown ∙ moved.numbers)

pub returns-in_default-clause-client : goal.returns-in_default-clause-client
returns-in_default-clause-client g c = λ live.
    let n : ℕ = c.args.self.now.link.number in
    let h : ℕ = c.args.self.now.holder in
    let pcs = connections c.args.pool.now in
    let it : IsIn n pcs = in_of n pcs c.requires.is_in in
    let moved : IsMoved n pcs it.connection (calls.drained n pcs) = drained_moved n pcs it.connection it.there (ap is_closed (sym c.drained.ensures.answer) ∙ not_closed c.drained.result c.in_default.not-Closed) in
    ap (λ o. (seat_by h o).client) (ap (numbered n) c.drained.ensures.shown ∙ moved.here) ∙ sym (ap (λ o. (seat_by h o).client) it.there)

pub returns-in_default-clause-sound : goal.returns-in_default-clause-sound
returns-in_default-clause-sound g c = λ sound.
    let n : ℕ = c.args.self.now.link.number in
    let h : ℕ = c.args.self.now.holder in
    let pcs = connections c.args.pool.now in
    let it : IsIn n pcs = in_of n pcs c.requires.is_in in
    let unbroken : is_broken it.connection.client.stage ≡ false = sym (ap (λ o. is_broken (seat_by h o).client.stage) it.there) ∙ sound in (
      refl,
      refl,
      ap (λ cs. seat_by h (numbered n cs)) c.drained.ensures.shown
          ∙ seat_drained n h pcs it.connection it.there (sym (ap is_cleaned it.there) ∙ c.requires.other) unbroken
          ∙ sym (ap (λ o. drained (seat_by h o)) it.there),
    )
