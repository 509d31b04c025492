use Rattle.std.proofs.Common.{◌∙◌, ℕ, refl, sym, ap}
use Rattle.tds_pool.specs.Calls as calls
use Rattle.tds_pool.specs.Connections.{connections, numbered}
use Rattle.tds_play.specs.Pooled.{seat_by}
use Rattle.tds_play.specs.Seats.{drained}
use Rattle.tds_play.proofs.pooled.cleanings.Cleaned.{Looks, cleaned_there, looked}
use Rattle.tds_play.proofs.pooled.Leaves.{is_closed}
use Rattle.tds_play.proofs.pooled.Numbers.{IsIn}
use Rattle.tds_play.proofs.pooled.Settled.{in_of, moved_changes, not_closed, stays_there}
use Rattle.tds_play.proofs.seat.Held.look_at_cleaning.Goals as goal

pub returns-in_default-clause-pool : goal.returns-in_default-clause-pool
returns-in_default-clause-pool g c =
    let n : ℕ = c.args.self.now.link.number in
    let pcs = connections c.args.pool.now in
    let it : IsIn n pcs = in_of n pcs (cleaned_there n pcs c.requires.cleans) in
    let looks : Looks n c.args.self.now.holder pcs it.connection (calls.cleaned n pcs) = looked n c.args.self.now.holder pcs it.connection it.there c.requires.cleans (ap is_closed (sym c.cleaned.ensures.answer) ∙ not_closed c.cleaned.result c.in_default.not-Closed) in
    moved_changes n c.args.self.now.link.is_cut c.args.pool.now c.cleaned.new.self it.connection (calls.cleaned n pcs) c.requires.live it.there looks.moved c.cleaned.ensures.shown c.cleaned.ensures.rest

pub returns-in_default-clause-there : goal.returns-in_default-clause-there
returns-in_default-clause-there g c =
    let n : ℕ = c.args.self.now.link.number in
    let pcs = connections c.args.pool.now in
    let it : IsIn n pcs = in_of n pcs (cleaned_there n pcs c.requires.cleans) in
    let looks : Looks n c.args.self.now.holder pcs it.connection (calls.cleaned n pcs) = looked n c.args.self.now.holder pcs it.connection it.there c.requires.cleans (ap is_closed (sym c.cleaned.ensures.answer) ∙ not_closed c.cleaned.result c.in_default.not-Closed) in
    stays_there c.args.self.now c.args.self.now c.args.pool.now c.cleaned.new.self refl c.requires.live (cleaned_there n pcs c.requires.cleans) (ap calls.all_numbers c.cleaned.ensures.shown ∙ looks.moved.numbers)

pub returns-in_default-clause-seat : goal.returns-in_default-clause-seat
returns-in_default-clause-seat g c =
    let n : ℕ = c.args.self.now.link.number in
    let h : ℕ = c.args.self.now.holder in
    let pcs = connections c.args.pool.now in
    let it : IsIn n pcs = in_of n pcs (cleaned_there n pcs c.requires.cleans) in
    let looks : Looks n h pcs it.connection (calls.cleaned n pcs) = looked n h pcs it.connection it.there c.requires.cleans (ap is_closed (sym c.cleaned.ensures.answer) ∙ not_closed c.cleaned.result c.in_default.not-Closed) in
    ap (λ cs. seat_by h (numbered n cs)) c.cleaned.ensures.shown
    ∙ looks.shown
    ∙ sym (ap (λ o. drained (seat_by h o)) it.there)
