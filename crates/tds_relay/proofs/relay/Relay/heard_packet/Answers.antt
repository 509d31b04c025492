use Rattle.std.proofs.Common.{◌≡◌, ◌∙◌, Some, ap, false, refl, rules, subst, sym}
use Rattle.tds_relay.specs.Waiting.{LosesAt}
use Rattle.tds_relay.specs.Fronts.{ends_in, core_in}
use Rattle.tds_relay.specs.Ties.{Connection, IsReached, Reaches, pool_in}
use Rattle.tds_relay.proofs.steps.Fronts.{moves_same, told_some}
use Rattle.tds_relay.proofs.steps.Reaching.{ok_more, ok_if}
use Rattle.tds_relay.proofs.steps.Staying.{gone_filled, stays_both, stays_on, stays_same}
use Rattle.tds_relay.proofs.bytes.Calls.{stand_at, stand_back, stand_on}
use Rattle.tds_relay.proofs.spared.Coming.{along_both, along_on, asks_along, asks_along_on, done_along, same_along_on}
use Rattle.tds_relay.proofs.spared.Ordered.{ordered_both, ordered_on}
use Rattle.tds_relay.specs.declared.pool.Pool as pools
use Rattle.tds_relay.proofs.lending.Resting.{put_reached}
use Rattle.tds_relay.proofs.spared.Waking.{hands_as, not_closed, not_nobody, woken_mine}
use Rattle.tds_relay.specs.Reasons.{ResumesNotAt}
use Rattle.tds_relay.specs.Queues.{queues_in}
use Rattle.tds_relay.proofs.spared.Closings.{closes_behind, closes_with}
use Rattle.tds_relay.proofs.spared.Losing.{resumes_loses, sent_closes, write_loses}
use Rattle.tds_relay.specs.Reads.{waits_on}
use Rattle.tds_relay.proofs.spared.Only.{spares_for, spares_sent, spares_shut, spares_wrote}
use Rattle.tds_relay.proofs.bytes.SetAnew.{acknowledges_one, any_if, any_on, any_sent, begins_any, sent_if}
use Rattle.tds_relay.proofs.spared.Begun.{answers_behind, answers_on, answers_then}
use Rattle.tds_relay.specs.Coming.{acknowledged_in}
use Rattle.tds_relay.proofs.seats.Relays.{behind_out, behind_stays, but_kept, closed_end, kept_end, kept_seated, links_there}
use Rattle.tds_relay.specs.Few.{is_left}
use Rattle.tds_relay.specs.declared.pool.coming.What.TheVariants as whats
use Rattle.tds_relay.proofs.spared.Off.{asks_more, behind_sent, link_off, same_off, sent_off, whose_off}
use Rattle.tds_relay.proofs.spared.Counted.{counts_free, counts_held, counts_left}
use Rattle.tds_relay.proofs.lending.Drained.{not_left, sent_there}
use Rattle.tds_relay.proofs.lending.Firsts.{first_closed, first_whose_on, first_wrote, told_sent}
use Rattle.tds_relay.proofs.lending.Rests.{goes_wrote, heard_closed, heard_none, heard_resumes, heard_wrote}
use Rattle.tds_relay.proofs.lending.Stilled.{rests_all, rests_still, sent_still, still_on}
use Rattle.tds_relay.proofs.steps.Answering.{told_resumed}
use Rattle.tds_relay.proofs.relay.Relay.heard_packet.Goals as goal

pub returns-in-Goes-Some-clause-moves : goal.returns-in-Goes-Some-clause-moves
returns-in-Goes-Some-clause-moves c = ok_more c.order_write.result _ _ (λ m from h. m (Connection c.args.number) from (c.in_ok-send_on.ensures.moves (Connection c.args.number) from (moves_same (Connection c.args.number) from _ _ _ _ (ap pool_in c.in_ok-resumes.ensures.pool) (c.in_ok-resumes.ensures.ends ∙ told_some (Some c.args.heard) c.args.heard _ refl) h))) c.order_write.ensures.moves

pub returns-in-Goes-None-clause-moves : goal.returns-in-Goes-None-clause-moves
returns-in-Goes-None-clause-moves c = λ from h. (c.in_ok-send_on.ensures.moves (Connection c.args.number) from (moves_same (Connection c.args.number) from _ _ _ _ (ap pool_in c.in_ok-resumes.ensures.pool) (c.in_ok-resumes.ensures.ends ∙ told_some (Some c.args.heard) c.args.heard _ refl) h))

pub returns-in-Finished-Some-clause-moves : goal.returns-in-Finished-Some-clause-moves
returns-in-Finished-Some-clause-moves c = ok_more c.order_write-in-Finished-Some.result _ _ (λ m from h. m (Connection c.args.number) from (c.in_ok-send_on.ensures.moves (Connection c.args.number) from (moves_same (Connection c.args.number) from _ _ _ _ (ap pool_in c.in_ok-resumes.ensures.pool) (c.in_ok-resumes.ensures.ends ∙ told_some (Some c.args.heard) c.args.heard _ refl) h))) c.order_write-in-Finished-Some.ensures.moves

pub returns-in-Finished-None-clause-moves : goal.returns-in-Finished-None-clause-moves
returns-in-Finished-None-clause-moves c = λ from h. (c.in_ok-send_on.ensures.moves (Connection c.args.number) from (moves_same (Connection c.args.number) from _ _ _ _ (ap pool_in c.in_ok-resumes.ensures.pool) (c.in_ok-resumes.ensures.ends ∙ told_some (Some c.args.heard) c.args.heard _ refl) h))

pub returns-then-resumes-clause-moves : goal.returns-then-resumes-clause-moves
returns-then-resumes-clause-moves c = ok_more c.resume.result _ _ (λ m from h. m from (c.in_ok-send_on.ensures.moves (Connection c.args.number) from (moves_same (Connection c.args.number) from _ _ _ _ (ap pool_in c.in_ok-resumes.ensures.pool) (c.in_ok-resumes.ensures.ends ∙ told_some (Some c.args.heard) c.args.heard _ refl) h))) c.resume.ensures.moves

pub returns-else-resumes-clause-moves : goal.returns-else-resumes-clause-moves
returns-else-resumes-clause-moves c = ok_more c.order_write-else-resumes.result _ _ (λ m from h. m (Connection c.args.number) from (c.in_ok-send_on.ensures.moves (Connection c.args.number) from (moves_same (Connection c.args.number) from _ _ _ _ (ap pool_in c.in_ok-resumes.ensures.pool) (c.in_ok-resumes.ensures.ends ∙ told_some (Some c.args.heard) c.args.heard _ refl) h))) c.order_write-else-resumes.ensures.moves

pub returns-in-Acknowledged-None-clause-moves : goal.returns-in-Acknowledged-None-clause-moves
returns-in-Acknowledged-None-clause-moves c = λ from h. (c.in_ok-send_on.ensures.moves (Connection c.args.number) from (moves_same (Connection c.args.number) from _ _ _ _ (ap pool_in c.in_ok-resumes.ensures.pool) (c.in_ok-resumes.ensures.ends ∙ told_some (Some c.args.heard) c.args.heard _ refl) h))

pub returns-in-Closed-Some-clause-moves : goal.returns-in-Closed-Some-clause-moves
returns-in-Closed-Some-clause-moves c = ok_more c.close_link.result _ _ (λ e from h. moves_same (Connection c.args.number) from _ _ _ _ (ap pool_in c.close_link.ensures.pool) e (c.in_ok-send_on.ensures.moves (Connection c.args.number) from (moves_same (Connection c.args.number) from _ _ _ _ (ap pool_in c.in_ok-resumes.ensures.pool) (c.in_ok-resumes.ensures.ends ∙ told_some (Some c.args.heard) c.args.heard _ refl) h))) c.close_link.ensures.ends

pub returns-in-Closed-None-clause-moves : goal.returns-in-Closed-None-clause-moves
returns-in-Closed-None-clause-moves c = ok_more c.close_link-in-Closed-None.result _ _ (λ e from h. moves_same (Connection c.args.number) from _ _ _ _ (ap pool_in c.close_link-in-Closed-None.ensures.pool) e (c.in_ok-send_on.ensures.moves (Connection c.args.number) from (moves_same (Connection c.args.number) from _ _ _ _ (ap pool_in c.in_ok-resumes.ensures.pool) (c.in_ok-resumes.ensures.ends ∙ told_some (Some c.args.heard) c.args.heard _ refl) h))) c.close_link-in-Closed-None.ensures.ends

pub returns-in-Goes-Some-clause-read : goal.returns-in-Goes-Some-clause-read
returns-in-Goes-Some-clause-read c = stays_same c.order_write.result _ _ _ (stays_both _ _ _ c.in_ok-resumes.ensures.read c.in_ok-send_on.ensures.read) c.order_write.ensures.links

pub returns-in-Finished-Some-clause-read : goal.returns-in-Finished-Some-clause-read
returns-in-Finished-Some-clause-read c = stays_same c.order_write-in-Finished-Some.result _ _ _ (stays_both _ _ _ c.in_ok-resumes.ensures.read c.in_ok-send_on.ensures.read) c.order_write-in-Finished-Some.ensures.links

pub returns-then-resumes-clause-read : goal.returns-then-resumes-clause-read
returns-then-resumes-clause-read c = stays_on c.resume.result _ _ _ (stays_both _ _ _ c.in_ok-resumes.ensures.read c.in_ok-send_on.ensures.read) c.resume.ensures.read

pub returns-else-resumes-clause-read : goal.returns-else-resumes-clause-read
returns-else-resumes-clause-read c = stays_same c.order_write-else-resumes.result _ _ _ (stays_both _ _ _ c.in_ok-resumes.ensures.read c.in_ok-send_on.ensures.read) c.order_write-else-resumes.ensures.links

pub returns-in-Closed-Some-clause-read : goal.returns-in-Closed-Some-clause-read
returns-in-Closed-Some-clause-read c = stays_on c.close_link.result _ _ _ (stays_both _ _ _ c.in_ok-resumes.ensures.read c.in_ok-send_on.ensures.read) c.close_link.ensures.read

pub returns-in-Closed-None-clause-read : goal.returns-in-Closed-None-clause-read
returns-in-Closed-None-clause-read c = stays_on c.close_link-in-Closed-None.result _ _ _ (stays_both _ _ _ c.in_ok-resumes.ensures.read c.in_ok-send_on.ensures.read) c.close_link-in-Closed-None.ensures.read

pub returns-in-Goes-Some-clause-stand : goal.returns-in-Goes-Some-clause-stand
returns-in-Goes-Some-clause-stand c = ok_if c.order_write.result _ (stand_at _ _ _ (stand_back _ _ _ c.in_ok-resumes.ensures.pool c.in_ok-send_on.ensures.stand) c.order_write.ensures.pool)

pub returns-in-Finished-Some-clause-stand : goal.returns-in-Finished-Some-clause-stand
returns-in-Finished-Some-clause-stand c = ok_if c.order_write-in-Finished-Some.result _ (stand_at _ _ _ (stand_back _ _ _ c.in_ok-resumes.ensures.pool c.in_ok-send_on.ensures.stand) c.order_write-in-Finished-Some.ensures.pool)

pub returns-then-resumes-clause-stand : goal.returns-then-resumes-clause-stand
returns-then-resumes-clause-stand c = stand_on c.resume.result _ _ _ (stand_back _ _ _ c.in_ok-resumes.ensures.pool c.in_ok-send_on.ensures.stand) c.resume.ensures.stand

pub returns-else-resumes-clause-stand : goal.returns-else-resumes-clause-stand
returns-else-resumes-clause-stand c = ok_if c.order_write-else-resumes.result _ (stand_at _ _ _ (stand_back _ _ _ c.in_ok-resumes.ensures.pool c.in_ok-send_on.ensures.stand) c.order_write-else-resumes.ensures.pool)

pub returns-in-Closed-Some-clause-stand : goal.returns-in-Closed-Some-clause-stand
returns-in-Closed-Some-clause-stand c = ok_if c.close_link.result _ (stand_at _ _ _ (stand_back _ _ _ c.in_ok-resumes.ensures.pool c.in_ok-send_on.ensures.stand) c.close_link.ensures.pool)

pub returns-in-Closed-None-clause-stand : goal.returns-in-Closed-None-clause-stand
returns-in-Closed-None-clause-stand c = ok_if c.close_link-in-Closed-None.result _ (stand_at _ _ _ (stand_back _ _ _ c.in_ok-resumes.ensures.pool c.in_ok-send_on.ensures.stand) c.close_link-in-Closed-None.ensures.pool)

pub returns-in-Goes-Some-clause-bodies : goal.returns-in-Goes-Some-clause-bodies
returns-in-Goes-Some-clause-bodies c = λ reached. let sent = along_both c.args.self.now c.tell.new.self c.send_on.new.self (done_along c.args.self.now c.tell.new.self c.in_ok-resumes.ensures.asks) (asks_along c.tell.new.self c.send_on.new.self c.in_ok-send_on.ensures.asks) in along_on c.order_write.result c.args.self.now c.send_on.new.self c.order_write.new.self sent (asks_along_on c.order_write.result c.send_on.new.self c.order_write.new.self c.order_write.ensures.asks)

pub returns-in-Finished-Some-clause-bodies : goal.returns-in-Finished-Some-clause-bodies
returns-in-Finished-Some-clause-bodies c = λ reached. let sent = along_both c.args.self.now c.tell.new.self c.send_on.new.self (done_along c.args.self.now c.tell.new.self c.in_ok-resumes.ensures.asks) (asks_along c.tell.new.self c.send_on.new.self c.in_ok-send_on.ensures.asks) in along_on c.order_write-in-Finished-Some.result c.args.self.now c.send_on.new.self c.order_write-in-Finished-Some.new.self sent (asks_along_on c.order_write-in-Finished-Some.result c.send_on.new.self c.order_write-in-Finished-Some.new.self c.order_write-in-Finished-Some.ensures.asks)

pub returns-else-resumes-clause-bodies : goal.returns-else-resumes-clause-bodies
returns-else-resumes-clause-bodies c = λ reached. let sent = along_both c.args.self.now c.tell.new.self c.send_on.new.self (done_along c.args.self.now c.tell.new.self c.in_ok-resumes.ensures.asks) (asks_along c.tell.new.self c.send_on.new.self c.in_ok-send_on.ensures.asks) in along_on c.order_write-else-resumes.result c.args.self.now c.send_on.new.self c.order_write-else-resumes.new.self sent (asks_along_on c.order_write-else-resumes.result c.send_on.new.self c.order_write-else-resumes.new.self c.order_write-else-resumes.ensures.asks)

pub returns-in-Closed-Some-clause-bodies : goal.returns-in-Closed-Some-clause-bodies
returns-in-Closed-Some-clause-bodies c = λ reached. let sent = along_both c.args.self.now c.tell.new.self c.send_on.new.self (done_along c.args.self.now c.tell.new.self c.in_ok-resumes.ensures.asks) (asks_along c.tell.new.self c.send_on.new.self c.in_ok-send_on.ensures.asks) in along_on c.close_link.result c.args.self.now c.send_on.new.self c.close_link.new.self sent (same_along_on c.close_link.result c.send_on.new.self c.close_link.new.self c.close_link.ensures.asks)

pub returns-in-Closed-None-clause-bodies : goal.returns-in-Closed-None-clause-bodies
returns-in-Closed-None-clause-bodies c = λ reached. let sent = along_both c.args.self.now c.tell.new.self c.send_on.new.self (done_along c.args.self.now c.tell.new.self c.in_ok-resumes.ensures.asks) (asks_along c.tell.new.self c.send_on.new.self c.in_ok-send_on.ensures.asks) in along_on c.close_link-in-Closed-None.result c.args.self.now c.send_on.new.self c.close_link-in-Closed-None.new.self sent (same_along_on c.close_link-in-Closed-None.result c.send_on.new.self c.close_link-in-Closed-None.new.self c.close_link-in-Closed-None.ensures.asks)

pub returns-then-resumes-clause-bodies : goal.returns-then-resumes-clause-bodies
returns-then-resumes-clause-bodies c = λ reached. let sent = along_both c.args.self.now c.tell.new.self c.send_on.new.self (done_along c.args.self.now c.tell.new.self c.in_ok-resumes.ensures.asks) (asks_along c.tell.new.self c.send_on.new.self c.in_ok-send_on.ensures.asks) in let told : IsReached (pool_in c.tell.new.self.pool) = subst (λ (d : pools.Pool). IsReached (pool_in d)) (sym c.in_ok-resumes.ensures.pool) reached in let there : IsReached (pool_in c.send_on.new.self.pool) = put_reached c.tell.new.self.pool c.send_on.new.self.pool c.send_on.new.self.pool c.in_ok-send_on.ensures.goes refl told in along_on c.resume.result c.args.self.now c.send_on.new.self c.resume.new.self sent (c.resume.ensures.bodies there)

pub returns-in-Goes-None-clause-bodies : goal.returns-in-Goes-None-clause-bodies
returns-in-Goes-None-clause-bodies c = λ reached. along_both c.args.self.now c.tell.new.self c.send_on.new.self (done_along c.args.self.now c.tell.new.self c.in_ok-resumes.ensures.asks) (asks_along c.tell.new.self c.send_on.new.self c.in_ok-send_on.ensures.asks)

pub returns-in-Finished-None-clause-bodies : goal.returns-in-Finished-None-clause-bodies
returns-in-Finished-None-clause-bodies c = λ reached. along_both c.args.self.now c.tell.new.self c.send_on.new.self (done_along c.args.self.now c.tell.new.self c.in_ok-resumes.ensures.asks) (asks_along c.tell.new.self c.send_on.new.self c.in_ok-send_on.ensures.asks)

pub returns-in-Acknowledged-None-clause-bodies : goal.returns-in-Acknowledged-None-clause-bodies
returns-in-Acknowledged-None-clause-bodies c = λ reached. along_both c.args.self.now c.tell.new.self c.send_on.new.self (done_along c.args.self.now c.tell.new.self c.in_ok-resumes.ensures.asks) (asks_along c.tell.new.self c.send_on.new.self c.in_ok-send_on.ensures.asks)

pub returns-in-Goes-Some-clause-ordered : goal.returns-in-Goes-Some-clause-ordered
returns-in-Goes-Some-clause-ordered c = ordered_on c.order_write.result _ _ _ c.order_write.ensures.ordered (ordered_both _ _ _ c.in_ok-resumes.ensures.ordered c.in_ok-send_on.ensures.ordered)

pub returns-in-Finished-Some-clause-ordered : goal.returns-in-Finished-Some-clause-ordered
returns-in-Finished-Some-clause-ordered c = ordered_on c.order_write-in-Finished-Some.result _ _ _ c.order_write-in-Finished-Some.ensures.ordered (ordered_both _ _ _ c.in_ok-resumes.ensures.ordered c.in_ok-send_on.ensures.ordered)

pub returns-else-resumes-clause-ordered : goal.returns-else-resumes-clause-ordered
returns-else-resumes-clause-ordered c = ordered_on c.order_write-else-resumes.result _ _ _ c.order_write-else-resumes.ensures.ordered (ordered_both _ _ _ c.in_ok-resumes.ensures.ordered c.in_ok-send_on.ensures.ordered)

pub returns-then-resumes-clause-ordered : goal.returns-then-resumes-clause-ordered
returns-then-resumes-clause-ordered c = ordered_on c.resume.result _ _ _ c.resume.ensures.ordered (ordered_both _ _ _ c.in_ok-resumes.ensures.ordered c.in_ok-send_on.ensures.ordered)

pub returns-in-Closed-Some-clause-ordered : goal.returns-in-Closed-Some-clause-ordered
returns-in-Closed-Some-clause-ordered c = ordered_on c.close_link.result _ _ _ c.close_link.ensures.ordered (ordered_both _ _ _ c.in_ok-resumes.ensures.ordered c.in_ok-send_on.ensures.ordered)

pub returns-in-Closed-None-clause-ordered : goal.returns-in-Closed-None-clause-ordered
returns-in-Closed-None-clause-ordered c = ordered_on c.close_link-in-Closed-None.result _ _ _ c.close_link-in-Closed-None.ensures.ordered (ordered_both _ _ _ c.in_ok-resumes.ensures.ordered c.in_ok-send_on.ensures.ordered)

pub returns-in-Goes-Some-clause-wakes : goal.returns-in-Goes-Some-clause-wakes
returns-in-Goes-Some-clause-wakes c = ok_more c.order_write.result _ _ (λ w key h. woken_mine c.args.heard c.in-Goes-Some.key key (ends_in c.args.self.now.applications) c.order_write.new.self.applications c.order_write.new.self.orders.items (search rules) w (hands_as (Some c.args.heard) c.args.heard key _ refl h)) c.order_write.ensures.wakes

pub returns-in-Finished-Some-clause-wakes : goal.returns-in-Finished-Some-clause-wakes
returns-in-Finished-Some-clause-wakes c = ok_more c.order_write-in-Finished-Some.result _ _ (λ w key h. woken_mine c.args.heard c.in-Finished-Some.key key (ends_in c.args.self.now.applications) c.order_write-in-Finished-Some.new.self.applications c.order_write-in-Finished-Some.new.self.orders.items (search rules) w (hands_as (Some c.args.heard) c.args.heard key _ refl h)) c.order_write-in-Finished-Some.ensures.wakes

pub returns-else-resumes-clause-wakes : goal.returns-else-resumes-clause-wakes
returns-else-resumes-clause-wakes c = ok_more c.order_write-else-resumes.result _ _ (λ w key h. woken_mine c.args.heard c.in-Acknowledged-Some.key key (ends_in c.args.self.now.applications) c.order_write-else-resumes.new.self.applications c.order_write-else-resumes.new.self.orders.items (search rules) w (hands_as (Some c.args.heard) c.args.heard key _ refl h)) c.order_write-else-resumes.ensures.wakes

pub returns-in-Goes-None-clause-wakes : goal.returns-in-Goes-None-clause-wakes
returns-in-Goes-None-clause-wakes c = λ key h. absurd (not_nobody c.args.heard key _ (search rules) (hands_as (Some c.args.heard) c.args.heard key _ refl h))

pub returns-in-Finished-None-clause-wakes : goal.returns-in-Finished-None-clause-wakes
returns-in-Finished-None-clause-wakes c = λ key h. absurd (not_nobody c.args.heard key _ (search rules) (hands_as (Some c.args.heard) c.args.heard key _ refl h))

pub returns-in-Acknowledged-None-clause-wakes : goal.returns-in-Acknowledged-None-clause-wakes
returns-in-Acknowledged-None-clause-wakes c = λ key h. absurd (not_nobody c.args.heard key _ (search rules) (hands_as (Some c.args.heard) c.args.heard key _ refl h))

pub returns-then-resumes-clause-wakes : goal.returns-then-resumes-clause-wakes
returns-then-resumes-clause-wakes c = ok_if c.resume.result _ (λ key h. absurd (c.in_ok-resumes.ensures.silent (search rules) key (hands_as (Some c.args.heard) c.args.heard key _ refl h)))

pub returns-in-Closed-Some-clause-wakes : goal.returns-in-Closed-Some-clause-wakes
returns-in-Closed-Some-clause-wakes c = ok_if c.close_link.result _ (λ key h. absurd (not_closed c.args.heard key _ (search rules) (hands_as (Some c.args.heard) c.args.heard key _ refl h)))

pub returns-in-Closed-None-clause-wakes : goal.returns-in-Closed-None-clause-wakes
returns-in-Closed-None-clause-wakes c = ok_if c.close_link-in-Closed-None.result _ (λ key h. absurd (not_closed c.args.heard key _ (search rules) (hands_as (Some c.args.heard) c.args.heard key _ refl h)))

pub returns-in-Goes-Some-clause-closes : goal.returns-in-Goes-Some-clause-closes
returns-in-Goes-Some-clause-closes c = closes_with c.order_write.result _ (LosesAt c.args.number (Some c.args.heard) c.args.self.now) _ _ _ (write_loses c.args.number (Some c.args.heard) c.args.heard c.in-Goes-Some.key c.args.self.now (queues_in c.send_on.new.self.applications) refl (search rules) (c.in_ok-send_on.ensures.kept ∙ c.in_ok-resumes.ensures.kept)) c.order_write.ensures.closes (sent_closes c.args.number (Some c.args.heard) c.args.heard c.args.self.now c.tell.new.self c.send_on.new.self refl c.tell.ensures.outbox c.tell.ensures.pool c.in_ok-resumes.ensures.links c.in_ok-resumes.ensures.closes c.in_ok-send_on.ensures.closes)

pub returns-in-Finished-Some-clause-closes : goal.returns-in-Finished-Some-clause-closes
returns-in-Finished-Some-clause-closes c = closes_with c.order_write-in-Finished-Some.result _ (LosesAt c.args.number (Some c.args.heard) c.args.self.now) _ _ _ (write_loses c.args.number (Some c.args.heard) c.args.heard c.in-Finished-Some.key c.args.self.now (queues_in c.send_on.new.self.applications) refl (search rules) (c.in_ok-send_on.ensures.kept ∙ c.in_ok-resumes.ensures.kept)) c.order_write-in-Finished-Some.ensures.closes (sent_closes c.args.number (Some c.args.heard) c.args.heard c.args.self.now c.tell.new.self c.send_on.new.self refl c.tell.ensures.outbox c.tell.ensures.pool c.in_ok-resumes.ensures.links c.in_ok-resumes.ensures.closes c.in_ok-send_on.ensures.closes)

pub returns-else-resumes-clause-closes : goal.returns-else-resumes-clause-closes
returns-else-resumes-clause-closes c = closes_with c.order_write-else-resumes.result _ (LosesAt c.args.number (Some c.args.heard) c.args.self.now) _ _ _ (write_loses c.args.number (Some c.args.heard) c.args.heard c.in-Acknowledged-Some.key c.args.self.now (queues_in c.send_on.new.self.applications) refl (search rules) (c.in_ok-send_on.ensures.kept ∙ c.in_ok-resumes.ensures.kept)) c.order_write-else-resumes.ensures.closes (sent_closes c.args.number (Some c.args.heard) c.args.heard c.args.self.now c.tell.new.self c.send_on.new.self refl c.tell.ensures.outbox c.tell.ensures.pool c.in_ok-resumes.ensures.links c.in_ok-resumes.ensures.closes c.in_ok-send_on.ensures.closes)

pub returns-then-resumes-clause-closes : goal.returns-then-resumes-clause-closes
returns-then-resumes-clause-closes c = closes_with c.resume.result (ResumesNotAt c.args.number c.in-Acknowledged-Some.key c.send_on.new.self) (LosesAt c.args.number (Some c.args.heard) c.args.self.now) _ _ _ (resumes_loses c.args.number (Some c.args.heard) c.args.heard c.in-Acknowledged-Some.key c.args.self.now c.tell.new.self c.send_on.new.self refl (search rules) (c.in_ok-resumes.ensures.resumes (search rules)) (search rules) c.tell.ensures.pool c.in_ok-resumes.ensures.links c.tell.ensures.outbox c.in_ok-resumes.ensures.ends c.in_ok-resumes.ensures.asks c.in_ok-send_on.ensures.idle) c.resume.ensures.closes (sent_closes c.args.number (Some c.args.heard) c.args.heard c.args.self.now c.tell.new.self c.send_on.new.self refl c.tell.ensures.outbox c.tell.ensures.pool c.in_ok-resumes.ensures.links c.in_ok-resumes.ensures.closes c.in_ok-send_on.ensures.closes)

pub returns-in-Closed-Some-clause-closes : goal.returns-in-Closed-Some-clause-closes
returns-in-Closed-Some-clause-closes c = closes_behind c.close_link.result (LosesAt c.args.number (Some c.args.heard) c.args.self.now) _ _ _ c.close_link.ensures.closes (sent_closes c.args.number (Some c.args.heard) c.args.heard c.args.self.now c.tell.new.self c.send_on.new.self refl c.tell.ensures.outbox c.tell.ensures.pool c.in_ok-resumes.ensures.links c.in_ok-resumes.ensures.closes c.in_ok-send_on.ensures.closes)

pub returns-in-Closed-None-clause-closes : goal.returns-in-Closed-None-clause-closes
returns-in-Closed-None-clause-closes c = closes_behind c.close_link-in-Closed-None.result (LosesAt c.args.number (Some c.args.heard) c.args.self.now) _ _ _ c.close_link-in-Closed-None.ensures.closes (sent_closes c.args.number (Some c.args.heard) c.args.heard c.args.self.now c.tell.new.self c.send_on.new.self refl c.tell.ensures.outbox c.tell.ensures.pool c.in_ok-resumes.ensures.links c.in_ok-resumes.ensures.closes c.in_ok-send_on.ensures.closes)

pub returns-in-Goes-None-clause-closes : goal.returns-in-Goes-None-clause-closes
returns-in-Goes-None-clause-closes c = sent_closes c.args.number (Some c.args.heard) c.args.heard c.args.self.now c.tell.new.self c.send_on.new.self refl c.tell.ensures.outbox c.tell.ensures.pool c.in_ok-resumes.ensures.links c.in_ok-resumes.ensures.closes c.in_ok-send_on.ensures.closes

pub returns-in-Finished-None-clause-closes : goal.returns-in-Finished-None-clause-closes
returns-in-Finished-None-clause-closes c = sent_closes c.args.number (Some c.args.heard) c.args.heard c.args.self.now c.tell.new.self c.send_on.new.self refl c.tell.ensures.outbox c.tell.ensures.pool c.in_ok-resumes.ensures.links c.in_ok-resumes.ensures.closes c.in_ok-send_on.ensures.closes

pub returns-in-Acknowledged-None-clause-closes : goal.returns-in-Acknowledged-None-clause-closes
returns-in-Acknowledged-None-clause-closes c = sent_closes c.args.number (Some c.args.heard) c.args.heard c.args.self.now c.tell.new.self c.send_on.new.self refl c.tell.ensures.outbox c.tell.ensures.pool c.in_ok-resumes.ensures.links c.in_ok-resumes.ensures.closes c.in_ok-send_on.ensures.closes

pub returns-in-Goes-Some-clause-others : goal.returns-in-Goes-Some-clause-others
returns-in-Goes-Some-clause-others c = ok_more c.order_write.result _ _ (λ same. rests_all _ _ _ _ (λ other differs. ap (waits_on other) same ∙ c.in_ok-send_on.ensures.others other differs ∙ ap (waits_on other) c.in_ok-resumes.ensures.links)) c.order_write.ensures.links

pub returns-in-Finished-Some-clause-others : goal.returns-in-Finished-Some-clause-others
returns-in-Finished-Some-clause-others c = ok_more c.order_write-in-Finished-Some.result _ _ (λ same. rests_all _ _ _ _ (λ other differs. ap (waits_on other) same ∙ c.in_ok-send_on.ensures.others other differs ∙ ap (waits_on other) c.in_ok-resumes.ensures.links)) c.order_write-in-Finished-Some.ensures.links

pub returns-in-Goes-None-clause-others : goal.returns-in-Goes-None-clause-others
returns-in-Goes-None-clause-others c = rests_all _ _ _ _ (λ other differs. c.in_ok-send_on.ensures.others other differs ∙ ap (waits_on other) c.in_ok-resumes.ensures.links)

pub returns-in-Finished-None-clause-others : goal.returns-in-Finished-None-clause-others
returns-in-Finished-None-clause-others c = rests_all _ _ _ _ (λ other differs. c.in_ok-send_on.ensures.others other differs ∙ ap (waits_on other) c.in_ok-resumes.ensures.links)

pub returns-then-resumes-clause-others : goal.returns-then-resumes-clause-others
returns-then-resumes-clause-others c = rests_still c.resume.result c.args.heard c.args.number c.args.self.now.links.items c.resume.new.self.links.items (search rules) (still_on c.resume.result _ _ c.send_on.new.self.links.items _ (stays_both _ _ _ c.in_ok-resumes.ensures.read c.in_ok-send_on.ensures.read) (sent_still c.args.number _ _ _ c.in_ok-resumes.ensures.links c.in_ok-send_on.ensures.others) c.resume.ensures.still)

pub returns-else-resumes-clause-others : goal.returns-else-resumes-clause-others
returns-else-resumes-clause-others c = ok_more c.order_write-else-resumes.result _ _ (λ same. rests_all _ _ _ _ (λ other differs. ap (waits_on other) same ∙ c.in_ok-send_on.ensures.others other differs ∙ ap (waits_on other) c.in_ok-resumes.ensures.links)) c.order_write-else-resumes.ensures.links

pub returns-in-Acknowledged-None-clause-others : goal.returns-in-Acknowledged-None-clause-others
returns-in-Acknowledged-None-clause-others c = rests_all _ _ _ _ (λ other differs. c.in_ok-send_on.ensures.others other differs ∙ ap (waits_on other) c.in_ok-resumes.ensures.links)

pub returns-in-Closed-Some-clause-others : goal.returns-in-Closed-Some-clause-others
returns-in-Closed-Some-clause-others c = ok_more c.close_link.result _ _ (λ o. rests_all _ _ _ _ (λ other differs. o other differs ∙ c.in_ok-send_on.ensures.others other differs ∙ ap (waits_on other) c.in_ok-resumes.ensures.links)) c.close_link.ensures.others

pub returns-in-Closed-None-clause-others : goal.returns-in-Closed-None-clause-others
returns-in-Closed-None-clause-others c = ok_more c.close_link-in-Closed-None.result _ _ (λ o. rests_all _ _ _ _ (λ other differs. o other differs ∙ c.in_ok-send_on.ensures.others other differs ∙ ap (waits_on other) c.in_ok-resumes.ensures.links)) c.close_link-in-Closed-None.ensures.others

pub returns-in-Goes-Some-clause-goes : goal.returns-in-Goes-Some-clause-goes
returns-in-Goes-Some-clause-goes c = goes_wrote c.order_write.result c.args.self.now.pool c.tell.new.self.pool c.send_on.new.self.pool c.order_write.new.self.pool c.in_ok-resumes.ensures.pool c.in_ok-send_on.ensures.goes c.order_write.ensures.pool

pub returns-in-Finished-Some-clause-goes : goal.returns-in-Finished-Some-clause-goes
returns-in-Finished-Some-clause-goes c = goes_wrote c.order_write-in-Finished-Some.result c.args.self.now.pool c.tell.new.self.pool c.send_on.new.self.pool c.order_write-in-Finished-Some.new.self.pool c.in_ok-resumes.ensures.pool c.in_ok-send_on.ensures.goes c.order_write-in-Finished-Some.ensures.pool

pub returns-then-resumes-clause-goes : goal.returns-then-resumes-clause-goes
returns-then-resumes-clause-goes c = ok_more c.resume.result _ _ (λ g other from h. g other from (c.in_ok-send_on.ensures.goes (Connection other) from (subst (λ (d : pools.Pool). Reaches (Connection other) from (pool_in d)) (sym c.in_ok-resumes.ensures.pool) h))) c.resume.ensures.goes

pub returns-in-Goes-Some-clause-spares : goal.returns-in-Goes-Some-clause-spares
returns-in-Goes-Some-clause-spares c = λ reached. spares_wrote c.order_write.result c.args.number (Some c.args.heard) c.args.heard c.in-Goes-Some.key c.args.self.now c.tell.new.self c.send_on.new.self c.order_write.new.self refl (search rules) c.in_ok-resumes.ensures.pool c.in_ok-resumes.ensures.ends c.in_ok-send_on.ensures.spares c.order_write.ensures.alone c.order_write.ensures.moves

pub returns-in-Finished-Some-clause-spares : goal.returns-in-Finished-Some-clause-spares
returns-in-Finished-Some-clause-spares c = λ reached. spares_wrote c.order_write-in-Finished-Some.result c.args.number (Some c.args.heard) c.args.heard c.in-Finished-Some.key c.args.self.now c.tell.new.self c.send_on.new.self c.order_write-in-Finished-Some.new.self refl (search rules) c.in_ok-resumes.ensures.pool c.in_ok-resumes.ensures.ends c.in_ok-send_on.ensures.spares c.order_write-in-Finished-Some.ensures.alone c.order_write-in-Finished-Some.ensures.moves

pub returns-else-resumes-clause-spares : goal.returns-else-resumes-clause-spares
returns-else-resumes-clause-spares c = λ reached. spares_wrote c.order_write-else-resumes.result c.args.number (Some c.args.heard) c.args.heard c.in-Acknowledged-Some.key c.args.self.now c.tell.new.self c.send_on.new.self c.order_write-else-resumes.new.self refl (search rules) c.in_ok-resumes.ensures.pool c.in_ok-resumes.ensures.ends c.in_ok-send_on.ensures.spares c.order_write-else-resumes.ensures.alone c.order_write-else-resumes.ensures.moves

pub returns-then-resumes-clause-spares : goal.returns-then-resumes-clause-spares
returns-then-resumes-clause-spares c = λ reached. let told : IsReached (pool_in c.tell.new.self.pool) = subst (λ (d : pools.Pool). IsReached (pool_in d)) (sym c.in_ok-resumes.ensures.pool) reached in let there : IsReached (pool_in c.send_on.new.self.pool) = put_reached c.tell.new.self.pool c.send_on.new.self.pool c.send_on.new.self.pool c.in_ok-send_on.ensures.goes refl told in spares_for c.resume.result c.args.number (Some c.args.heard) c.args.heard c.in-Acknowledged-Some.key (core_in c.args.self.now) (core_in c.send_on.new.self) (core_in c.resume.new.self) refl (search rules) (spares_sent c.args.number (Some c.args.heard) c.args.heard c.args.self.now c.tell.new.self c.send_on.new.self refl c.in_ok-resumes.ensures.pool c.in_ok-resumes.ensures.ends c.in_ok-send_on.ensures.spares) (c.resume.ensures.spares there)

pub returns-in-Goes-None-clause-spares : goal.returns-in-Goes-None-clause-spares
returns-in-Goes-None-clause-spares c = λ reached. spares_sent c.args.number (Some c.args.heard) c.args.heard c.args.self.now c.tell.new.self c.send_on.new.self refl c.in_ok-resumes.ensures.pool c.in_ok-resumes.ensures.ends c.in_ok-send_on.ensures.spares

pub returns-in-Finished-None-clause-spares : goal.returns-in-Finished-None-clause-spares
returns-in-Finished-None-clause-spares c = λ reached. spares_sent c.args.number (Some c.args.heard) c.args.heard c.args.self.now c.tell.new.self c.send_on.new.self refl c.in_ok-resumes.ensures.pool c.in_ok-resumes.ensures.ends c.in_ok-send_on.ensures.spares

pub returns-in-Acknowledged-None-clause-spares : goal.returns-in-Acknowledged-None-clause-spares
returns-in-Acknowledged-None-clause-spares c = λ reached. spares_sent c.args.number (Some c.args.heard) c.args.heard c.args.self.now c.tell.new.self c.send_on.new.self refl c.in_ok-resumes.ensures.pool c.in_ok-resumes.ensures.ends c.in_ok-send_on.ensures.spares

pub returns-in-Closed-Some-clause-spares : goal.returns-in-Closed-Some-clause-spares
returns-in-Closed-Some-clause-spares c = λ reached. spares_shut c.close_link.result c.args.number (Some c.args.heard) c.args.heard c.args.self.now c.tell.new.self c.send_on.new.self c.close_link.new.self refl c.in_ok-resumes.ensures.pool c.in_ok-resumes.ensures.ends c.in_ok-send_on.ensures.spares c.close_link.ensures.pool c.close_link.ensures.ends

pub returns-in-Closed-None-clause-spares : goal.returns-in-Closed-None-clause-spares
returns-in-Closed-None-clause-spares c = λ reached. spares_shut c.close_link-in-Closed-None.result c.args.number (Some c.args.heard) c.args.heard c.args.self.now c.tell.new.self c.send_on.new.self c.close_link-in-Closed-None.new.self refl c.in_ok-resumes.ensures.pool c.in_ok-resumes.ensures.ends c.in_ok-send_on.ensures.spares c.close_link-in-Closed-None.ensures.pool c.close_link-in-Closed-None.ensures.ends

pub returns-in-Goes-Some-clause-begins : goal.returns-in-Goes-Some-clause-begins
returns-in-Goes-Some-clause-begins c = any_if c.order_write.result (acknowledged_in (Some c.args.heard)) _ _ (answers_then c.order_write.result _ _ _ (answers_behind c.args.self.now.links.items c.tell.new.self.links.items c.send_on.new.self.links.items c.in_ok-resumes.ensures.links c.in_ok-send_on.ensures.answers) c.order_write.ensures.links)

pub returns-in-Finished-Some-clause-begins : goal.returns-in-Finished-Some-clause-begins
returns-in-Finished-Some-clause-begins c = any_if c.order_write-in-Finished-Some.result (acknowledged_in (Some c.args.heard)) _ _ (answers_then c.order_write-in-Finished-Some.result _ _ _ (answers_behind c.args.self.now.links.items c.tell.new.self.links.items c.send_on.new.self.links.items c.in_ok-resumes.ensures.links c.in_ok-send_on.ensures.answers) c.order_write-in-Finished-Some.ensures.links)

pub returns-else-resumes-clause-begins : goal.returns-else-resumes-clause-begins
returns-else-resumes-clause-begins c = any_if c.order_write-else-resumes.result (acknowledged_in (Some c.args.heard)) _ _ (answers_then c.order_write-else-resumes.result _ _ _ (answers_behind c.args.self.now.links.items c.tell.new.self.links.items c.send_on.new.self.links.items c.in_ok-resumes.ensures.links c.in_ok-send_on.ensures.answers) c.order_write-else-resumes.ensures.links)

pub returns-then-resumes-clause-begins : goal.returns-then-resumes-clause-begins
returns-then-resumes-clause-begins c = begins_any c.resume.result (acknowledged_in (Some c.args.heard)) _ _ (acknowledges_one (Some c.args.heard) c.args.heard c.in-Acknowledged-Some.key refl (search rules) (search rules)) (any_on c.resume.result _ _ _ (any_sent c.args.self.now.links.items c.tell.new.self.links.items c.send_on.new.self.links.items c.in_ok-resumes.ensures.links c.in_ok-send_on.ensures.answers) c.resume.ensures.begins)

pub returns-in-Goes-None-clause-begins : goal.returns-in-Goes-None-clause-begins
returns-in-Goes-None-clause-begins c = sent_if (acknowledged_in (Some c.args.heard)) c.args.self.now.links.items c.tell.new.self.links.items c.send_on.new.self.links.items c.in_ok-resumes.ensures.links c.in_ok-send_on.ensures.answers

pub returns-in-Finished-None-clause-begins : goal.returns-in-Finished-None-clause-begins
returns-in-Finished-None-clause-begins c = sent_if (acknowledged_in (Some c.args.heard)) c.args.self.now.links.items c.tell.new.self.links.items c.send_on.new.self.links.items c.in_ok-resumes.ensures.links c.in_ok-send_on.ensures.answers

pub returns-in-Acknowledged-None-clause-begins : goal.returns-in-Acknowledged-None-clause-begins
returns-in-Acknowledged-None-clause-begins c = sent_if (acknowledged_in (Some c.args.heard)) c.args.self.now.links.items c.tell.new.self.links.items c.send_on.new.self.links.items c.in_ok-resumes.ensures.links c.in_ok-send_on.ensures.answers

pub returns-in-Closed-Some-clause-begins : goal.returns-in-Closed-Some-clause-begins
returns-in-Closed-Some-clause-begins c = any_if c.close_link.result (acknowledged_in (Some c.args.heard)) _ _ (answers_on c.close_link.result _ _ _ (answers_behind c.args.self.now.links.items c.tell.new.self.links.items c.send_on.new.self.links.items c.in_ok-resumes.ensures.links c.in_ok-send_on.ensures.answers) c.close_link.ensures.answers)

pub returns-in-Closed-None-clause-begins : goal.returns-in-Closed-None-clause-begins
returns-in-Closed-None-clause-begins c = any_if c.close_link-in-Closed-None.result (acknowledged_in (Some c.args.heard)) _ _ (answers_on c.close_link-in-Closed-None.result _ _ _ (answers_behind c.args.self.now.links.items c.tell.new.self.links.items c.send_on.new.self.links.items c.in_ok-resumes.ensures.links c.in_ok-send_on.ensures.answers) c.close_link-in-Closed-None.ensures.answers)

pub returns-in-Goes-Some-clause-seated : goal.returns-in-Goes-Some-clause-seated
returns-in-Goes-Some-clause-seated c = λ s. kept_end c.order_write.result c.send_on.new.self c.order_write.new.self c.order_write.ensures.pool c.order_write.ensures.links (c.in_ok-send_on.ensures.seated (kept_seated c.args.self.now c.tell.new.self c.in_ok-resumes.ensures.pool c.in_ok-resumes.ensures.links (behind_stays (Some c.args.heard) c.args.heard c.args.number c.args.self.now refl (ap is_left (let w : c.args.heard.what ≡ whats.Goes = search rules in w)) s)))

pub returns-in-Finished-Some-clause-seated : goal.returns-in-Finished-Some-clause-seated
returns-in-Finished-Some-clause-seated c = λ s. kept_end c.order_write-in-Finished-Some.result c.send_on.new.self c.order_write-in-Finished-Some.new.self c.order_write-in-Finished-Some.ensures.pool c.order_write-in-Finished-Some.ensures.links (c.in_ok-send_on.ensures.seated (kept_seated c.args.self.now c.tell.new.self c.in_ok-resumes.ensures.pool c.in_ok-resumes.ensures.links (behind_stays (Some c.args.heard) c.args.heard c.args.number c.args.self.now refl (ap is_left (let w : c.args.heard.what ≡ whats.Finished = search rules in w)) s)))

pub returns-then-resumes-clause-seated : goal.returns-then-resumes-clause-seated
returns-then-resumes-clause-seated c = λ s. c.resume.ensures.seated (c.in_ok-send_on.ensures.seated (kept_seated c.args.self.now c.tell.new.self c.in_ok-resumes.ensures.pool c.in_ok-resumes.ensures.links (behind_stays (Some c.args.heard) c.args.heard c.args.number c.args.self.now refl (ap is_left (let w : c.args.heard.what ≡ whats.Acknowledged = search rules in w)) s)))

pub returns-else-resumes-clause-seated : goal.returns-else-resumes-clause-seated
returns-else-resumes-clause-seated c = λ s. kept_end c.order_write-else-resumes.result c.send_on.new.self c.order_write-else-resumes.new.self c.order_write-else-resumes.ensures.pool c.order_write-else-resumes.ensures.links (c.in_ok-send_on.ensures.seated (kept_seated c.args.self.now c.tell.new.self c.in_ok-resumes.ensures.pool c.in_ok-resumes.ensures.links (behind_stays (Some c.args.heard) c.args.heard c.args.number c.args.self.now refl (ap is_left (let w : c.args.heard.what ≡ whats.Acknowledged = search rules in w)) s)))

pub returns-in-Closed-Some-clause-seated : goal.returns-in-Closed-Some-clause-seated
returns-in-Closed-Some-clause-seated c = λ s. closed_end c.close_link.result c.args.number c.send_on.new.self.pool c.send_on.new.self.links.items c.close_link.new.self c.close_link.ensures.pool c.close_link.ensures.fewer c.close_link.ensures.gone c.close_link.ensures.others (c.in_ok-send_on.ensures.gone (but_kept c.args.number false c.args.self.now c.tell.new.self c.in_ok-resumes.ensures.pool (links_there c.args.self.now.links.items c.tell.new.self.links.items c.in_ok-resumes.ensures.links) (behind_out (Some c.args.heard) c.args.heard c.args.number c.args.self.now refl (ap is_left (let w : c.args.heard.what ≡ whats.Closed = search rules in w)) s)))

pub returns-in-Closed-None-clause-seated : goal.returns-in-Closed-None-clause-seated
returns-in-Closed-None-clause-seated c = λ s. closed_end c.close_link-in-Closed-None.result c.args.number c.send_on.new.self.pool c.send_on.new.self.links.items c.close_link-in-Closed-None.new.self c.close_link-in-Closed-None.ensures.pool c.close_link-in-Closed-None.ensures.fewer c.close_link-in-Closed-None.ensures.gone c.close_link-in-Closed-None.ensures.others (c.in_ok-send_on.ensures.gone (but_kept c.args.number false c.args.self.now c.tell.new.self c.in_ok-resumes.ensures.pool (links_there c.args.self.now.links.items c.tell.new.self.links.items c.in_ok-resumes.ensures.links) (behind_out (Some c.args.heard) c.args.heard c.args.number c.args.self.now refl (ap is_left (let w : c.args.heard.what ≡ whats.Closed = search rules in w)) s)))

pub returns-in-Goes-Some-clause-apart : goal.returns-in-Goes-Some-clause-apart
returns-in-Goes-Some-clause-apart c = behind_sent c.order_write.result c.args.number (Some c.args.heard) c.args.heard c.args.self.now c.tell.new.self c.send_on.new.self c.order_write.new.self refl c.in_ok-resumes.ensures.pool c.in_ok-resumes.ensures.links c.in_ok-resumes.ensures.ends c.in_ok-resumes.ensures.others c.in_ok-send_on.ensures.sends c.in_ok-send_on.ensures.asks c.in_ok-send_on.ensures.goes c.in_ok-send_on.ensures.spares (same_off c.order_write.result c.args.number _ c.send_on.new.self c.order_write.new.self c.order_write.ensures.pool c.order_write.ensures.links c.order_write.ensures.asks)

pub returns-in-Finished-Some-clause-apart : goal.returns-in-Finished-Some-clause-apart
returns-in-Finished-Some-clause-apart c = behind_sent c.order_write-in-Finished-Some.result c.args.number (Some c.args.heard) c.args.heard c.args.self.now c.tell.new.self c.send_on.new.self c.order_write-in-Finished-Some.new.self refl c.in_ok-resumes.ensures.pool c.in_ok-resumes.ensures.links c.in_ok-resumes.ensures.ends c.in_ok-resumes.ensures.others c.in_ok-send_on.ensures.sends c.in_ok-send_on.ensures.asks c.in_ok-send_on.ensures.goes c.in_ok-send_on.ensures.spares (same_off c.order_write-in-Finished-Some.result c.args.number _ c.send_on.new.self c.order_write-in-Finished-Some.new.self c.order_write-in-Finished-Some.ensures.pool c.order_write-in-Finished-Some.ensures.links c.order_write-in-Finished-Some.ensures.asks)

pub returns-else-resumes-clause-apart : goal.returns-else-resumes-clause-apart
returns-else-resumes-clause-apart c = behind_sent c.order_write-else-resumes.result c.args.number (Some c.args.heard) c.args.heard c.args.self.now c.tell.new.self c.send_on.new.self c.order_write-else-resumes.new.self refl c.in_ok-resumes.ensures.pool c.in_ok-resumes.ensures.links c.in_ok-resumes.ensures.ends c.in_ok-resumes.ensures.others c.in_ok-send_on.ensures.sends c.in_ok-send_on.ensures.asks c.in_ok-send_on.ensures.goes c.in_ok-send_on.ensures.spares (same_off c.order_write-else-resumes.result c.args.number _ c.send_on.new.self c.order_write-else-resumes.new.self c.order_write-else-resumes.ensures.pool c.order_write-else-resumes.ensures.links c.order_write-else-resumes.ensures.asks)

pub returns-in-Goes-None-clause-apart : goal.returns-in-Goes-None-clause-apart
returns-in-Goes-None-clause-apart c = sent_off c.args.number (Some c.args.heard) c.args.heard c.args.self.now c.tell.new.self c.send_on.new.self refl c.in_ok-resumes.ensures.pool c.in_ok-resumes.ensures.links c.in_ok-resumes.ensures.ends c.in_ok-resumes.ensures.others c.in_ok-send_on.ensures.sends c.in_ok-send_on.ensures.asks

pub returns-in-Finished-None-clause-apart : goal.returns-in-Finished-None-clause-apart
returns-in-Finished-None-clause-apart c = sent_off c.args.number (Some c.args.heard) c.args.heard c.args.self.now c.tell.new.self c.send_on.new.self refl c.in_ok-resumes.ensures.pool c.in_ok-resumes.ensures.links c.in_ok-resumes.ensures.ends c.in_ok-resumes.ensures.others c.in_ok-send_on.ensures.sends c.in_ok-send_on.ensures.asks

pub returns-in-Acknowledged-None-clause-apart : goal.returns-in-Acknowledged-None-clause-apart
returns-in-Acknowledged-None-clause-apart c = sent_off c.args.number (Some c.args.heard) c.args.heard c.args.self.now c.tell.new.self c.send_on.new.self refl c.in_ok-resumes.ensures.pool c.in_ok-resumes.ensures.links c.in_ok-resumes.ensures.ends c.in_ok-resumes.ensures.others c.in_ok-send_on.ensures.sends c.in_ok-send_on.ensures.asks

pub returns-then-resumes-clause-apart : goal.returns-then-resumes-clause-apart
returns-then-resumes-clause-apart c = behind_sent c.resume.result c.args.number (Some c.args.heard) c.args.heard c.args.self.now c.tell.new.self c.send_on.new.self c.resume.new.self refl c.in_ok-resumes.ensures.pool c.in_ok-resumes.ensures.links c.in_ok-resumes.ensures.ends c.in_ok-resumes.ensures.others c.in_ok-send_on.ensures.sends c.in_ok-send_on.ensures.asks c.in_ok-send_on.ensures.goes c.in_ok-send_on.ensures.spares (whose_off c.resume.result c.args.number (Some c.args.heard) c.args.heard c.in-Acknowledged-Some.key c.send_on.new.self c.resume.new.self refl (search rules) c.resume.ensures.apart)

pub returns-in-Closed-Some-clause-apart : goal.returns-in-Closed-Some-clause-apart
returns-in-Closed-Some-clause-apart c = behind_sent c.close_link.result c.args.number (Some c.args.heard) c.args.heard c.args.self.now c.tell.new.self c.send_on.new.self c.close_link.new.self refl c.in_ok-resumes.ensures.pool c.in_ok-resumes.ensures.links c.in_ok-resumes.ensures.ends c.in_ok-resumes.ensures.others c.in_ok-send_on.ensures.sends c.in_ok-send_on.ensures.asks c.in_ok-send_on.ensures.goes c.in_ok-send_on.ensures.spares (link_off c.close_link.result c.args.number _ c.send_on.new.self c.close_link.new.self c.close_link.ensures.pool c.close_link.ensures.others (asks_more c.close_link.result c.send_on.new.self c.close_link.new.self c.close_link.ensures.asks))

pub returns-in-Closed-None-clause-apart : goal.returns-in-Closed-None-clause-apart
returns-in-Closed-None-clause-apart c = behind_sent c.close_link-in-Closed-None.result c.args.number (Some c.args.heard) c.args.heard c.args.self.now c.tell.new.self c.send_on.new.self c.close_link-in-Closed-None.new.self refl c.in_ok-resumes.ensures.pool c.in_ok-resumes.ensures.links c.in_ok-resumes.ensures.ends c.in_ok-resumes.ensures.others c.in_ok-send_on.ensures.sends c.in_ok-send_on.ensures.asks c.in_ok-send_on.ensures.goes c.in_ok-send_on.ensures.spares (link_off c.close_link-in-Closed-None.result c.args.number _ c.send_on.new.self c.close_link-in-Closed-None.new.self c.close_link-in-Closed-None.ensures.pool c.close_link-in-Closed-None.ensures.others (asks_more c.close_link-in-Closed-None.result c.send_on.new.self c.close_link-in-Closed-None.new.self c.close_link-in-Closed-None.ensures.asks))

pub returns-in-Goes-Some-clause-counts : goal.returns-in-Goes-Some-clause-counts
returns-in-Goes-Some-clause-counts c = ok_if c.order_write.result _ (counts_left (Some c.args.heard) c.args.heard c.args.number c.args.self.now c.order_write.new.self refl (ap is_left (let w : c.args.heard.what ≡ whats.Goes = search rules in w)) (c.order_write.ensures.counts ∙ c.send_on.ensures.counts ∙ c.tell.ensures.counts))

pub returns-in-Finished-Some-clause-counts : goal.returns-in-Finished-Some-clause-counts
returns-in-Finished-Some-clause-counts c = ok_if c.order_write-in-Finished-Some.result _ (counts_left (Some c.args.heard) c.args.heard c.args.number c.args.self.now c.order_write-in-Finished-Some.new.self refl (ap is_left (let w : c.args.heard.what ≡ whats.Finished = search rules in w)) (c.order_write-in-Finished-Some.ensures.counts ∙ c.send_on.ensures.counts ∙ c.tell.ensures.counts))

pub returns-then-resumes-clause-counts : goal.returns-then-resumes-clause-counts
returns-then-resumes-clause-counts c = ok_if c.resume.result _ (counts_left (Some c.args.heard) c.args.heard c.args.number c.args.self.now c.resume.new.self refl (ap is_left (let w : c.args.heard.what ≡ whats.Acknowledged = search rules in w)) (c.resume.ensures.counts ∙ c.send_on.ensures.counts ∙ c.tell.ensures.counts))

pub returns-else-resumes-clause-counts : goal.returns-else-resumes-clause-counts
returns-else-resumes-clause-counts c = ok_if c.order_write-else-resumes.result _ (counts_left (Some c.args.heard) c.args.heard c.args.number c.args.self.now c.order_write-else-resumes.new.self refl (ap is_left (let w : c.args.heard.what ≡ whats.Acknowledged = search rules in w)) (c.order_write-else-resumes.ensures.counts ∙ c.send_on.ensures.counts ∙ c.tell.ensures.counts))

pub returns-in-Goes-None-clause-counts : goal.returns-in-Goes-None-clause-counts
returns-in-Goes-None-clause-counts c = counts_left (Some c.args.heard) c.args.heard c.args.number c.args.self.now c.send_on.new.self refl (ap is_left (let w : c.args.heard.what ≡ whats.Goes = search rules in w)) (c.send_on.ensures.counts ∙ c.tell.ensures.counts)

pub returns-in-Finished-None-clause-counts : goal.returns-in-Finished-None-clause-counts
returns-in-Finished-None-clause-counts c = counts_left (Some c.args.heard) c.args.heard c.args.number c.args.self.now c.send_on.new.self refl (ap is_left (let w : c.args.heard.what ≡ whats.Finished = search rules in w)) (c.send_on.ensures.counts ∙ c.tell.ensures.counts)

pub returns-in-Acknowledged-None-clause-counts : goal.returns-in-Acknowledged-None-clause-counts
returns-in-Acknowledged-None-clause-counts c = counts_left (Some c.args.heard) c.args.heard c.args.number c.args.self.now c.send_on.new.self refl (ap is_left (let w : c.args.heard.what ≡ whats.Acknowledged = search rules in w)) (c.send_on.ensures.counts ∙ c.tell.ensures.counts)

pub returns-in-Closed-Some-clause-counts : goal.returns-in-Closed-Some-clause-counts
returns-in-Closed-Some-clause-counts c = ok_if c.close_link.result _ (counts_held (Some c.args.heard) c.args.heard c.args.number c.args.self.now c.close_link.new.self refl (search rules) (c.close_link.ensures.counts ∙ c.send_on.ensures.counts ∙ c.tell.ensures.counts))

pub returns-in-Closed-None-clause-counts : goal.returns-in-Closed-None-clause-counts
returns-in-Closed-None-clause-counts c = counts_free c.close_link-in-Closed-None.result (Some c.args.heard) c.args.heard c.args.number c.saturating_add-self.result c.args.self.now c.send_on.new.self c.close_link-in-Closed-None.new.self refl (search rules) (search rules) (c.send_on.ensures.counts ∙ c.tell.ensures.counts) c.saturating_add-self.ensures c.close_link-in-Closed-None.ensures.counts c.close_link-in-Closed-None.ensures.gone

pub returns-in-Goes-None-clause-sent : goal.returns-in-Goes-None-clause-sent
returns-in-Goes-None-clause-sent c = λ nobody. sent_there c.args.number c.args.self.now c.tell.new.self c.send_on.new.self (c.tell.ensures.outbox (not_left c.args.heard.what whats.Goes (search rules) (λ e. let u : ⊥ = cc in u))) c.in_ok-resumes.ensures.links c.in_ok-send_on.ensures.puts

pub returns-in-Finished-None-clause-sent : goal.returns-in-Finished-None-clause-sent
returns-in-Finished-None-clause-sent c = λ nobody. sent_there c.args.number c.args.self.now c.tell.new.self c.send_on.new.self (c.tell.ensures.outbox (not_left c.args.heard.what whats.Finished (search rules) (λ e. let u : ⊥ = cc in u))) c.in_ok-resumes.ensures.links c.in_ok-send_on.ensures.puts

pub returns-in-Acknowledged-None-clause-sent : goal.returns-in-Acknowledged-None-clause-sent
returns-in-Acknowledged-None-clause-sent c = λ nobody. sent_there c.args.number c.args.self.now c.tell.new.self c.send_on.new.self (c.tell.ensures.outbox (not_left c.args.heard.what whats.Acknowledged (search rules) (λ e. let u : ⊥ = cc in u))) c.in_ok-resumes.ensures.links c.in_ok-send_on.ensures.puts

pub returns-in-Closed-None-clause-sent : goal.returns-in-Closed-None-clause-sent
returns-in-Closed-None-clause-sent c = λ nobody. ok_more c.close_link-in-Closed-None.result _ _ (λ g. gone_filled c.args.self.now.outbox.items c.args.number _ c.close_link-in-Closed-None.new.self.links.items g) c.close_link-in-Closed-None.ensures.gone

pub returns-in-Goes-Some-clause-keeps : goal.returns-in-Goes-Some-clause-keeps
returns-in-Goes-Some-clause-keeps c = λ reached. heard_wrote c.args.number c.args.heard c.args.self.now c.tell.new.self c.send_on.new.self c.in_ok-resumes.ensures.pool c.in_ok-resumes.ensures.links c.in_ok-resumes.ensures.asks c.tell.ensures.outbox c.in_ok-send_on.ensures.idle c.order_write.result c.order_write.new.self (not_left c.args.heard.what whats.Goes (search rules) (λ e. let u : ⊥ = cc in u)) (first_wrote c.order_write.result c.args.number c.args.heard.key c.args.self.now c.send_on.new.self c.order_write.new.self (told_sent c.args.number c.args.self.now c.tell.new.self c.send_on.new.self c.in_ok-resumes.ensures.pool c.in_ok-resumes.ensures.links c.in_ok-send_on.ensures.keeps) c.order_write.ensures.pool c.order_write.ensures.links) c.order_write.ensures.pool c.order_write.ensures.links c.order_write.ensures.asks

pub returns-in-Finished-Some-clause-keeps : goal.returns-in-Finished-Some-clause-keeps
returns-in-Finished-Some-clause-keeps c = λ reached. heard_wrote c.args.number c.args.heard c.args.self.now c.tell.new.self c.send_on.new.self c.in_ok-resumes.ensures.pool c.in_ok-resumes.ensures.links c.in_ok-resumes.ensures.asks c.tell.ensures.outbox c.in_ok-send_on.ensures.idle c.order_write-in-Finished-Some.result c.order_write-in-Finished-Some.new.self (not_left c.args.heard.what whats.Finished (search rules) (λ e. let u : ⊥ = cc in u)) (first_wrote c.order_write-in-Finished-Some.result c.args.number c.args.heard.key c.args.self.now c.send_on.new.self c.order_write-in-Finished-Some.new.self (told_sent c.args.number c.args.self.now c.tell.new.self c.send_on.new.self c.in_ok-resumes.ensures.pool c.in_ok-resumes.ensures.links c.in_ok-send_on.ensures.keeps) c.order_write-in-Finished-Some.ensures.pool c.order_write-in-Finished-Some.ensures.links) c.order_write-in-Finished-Some.ensures.pool c.order_write-in-Finished-Some.ensures.links c.order_write-in-Finished-Some.ensures.asks

pub returns-else-resumes-clause-keeps : goal.returns-else-resumes-clause-keeps
returns-else-resumes-clause-keeps c = λ reached. heard_wrote c.args.number c.args.heard c.args.self.now c.tell.new.self c.send_on.new.self c.in_ok-resumes.ensures.pool c.in_ok-resumes.ensures.links c.in_ok-resumes.ensures.asks c.tell.ensures.outbox c.in_ok-send_on.ensures.idle c.order_write-else-resumes.result c.order_write-else-resumes.new.self (not_left c.args.heard.what whats.Acknowledged (search rules) (λ e. let u : ⊥ = cc in u)) (first_wrote c.order_write-else-resumes.result c.args.number c.args.heard.key c.args.self.now c.send_on.new.self c.order_write-else-resumes.new.self (told_sent c.args.number c.args.self.now c.tell.new.self c.send_on.new.self c.in_ok-resumes.ensures.pool c.in_ok-resumes.ensures.links c.in_ok-send_on.ensures.keeps) c.order_write-else-resumes.ensures.pool c.order_write-else-resumes.ensures.links) c.order_write-else-resumes.ensures.pool c.order_write-else-resumes.ensures.links c.order_write-else-resumes.ensures.asks

pub returns-in-Goes-None-clause-keeps : goal.returns-in-Goes-None-clause-keeps
returns-in-Goes-None-clause-keeps c = λ reached. heard_none c.args.number c.args.heard c.args.self.now c.tell.new.self c.send_on.new.self c.in_ok-resumes.ensures.pool c.in_ok-resumes.ensures.links c.in_ok-resumes.ensures.asks c.tell.ensures.outbox c.in_ok-send_on.ensures.idle (not_left c.args.heard.what whats.Goes (search rules) (λ e. let u : ⊥ = cc in u)) (told_sent c.args.number c.args.self.now c.tell.new.self c.send_on.new.self c.in_ok-resumes.ensures.pool c.in_ok-resumes.ensures.links c.in_ok-send_on.ensures.keeps)

pub returns-in-Finished-None-clause-keeps : goal.returns-in-Finished-None-clause-keeps
returns-in-Finished-None-clause-keeps c = λ reached. heard_none c.args.number c.args.heard c.args.self.now c.tell.new.self c.send_on.new.self c.in_ok-resumes.ensures.pool c.in_ok-resumes.ensures.links c.in_ok-resumes.ensures.asks c.tell.ensures.outbox c.in_ok-send_on.ensures.idle (not_left c.args.heard.what whats.Finished (search rules) (λ e. let u : ⊥ = cc in u)) (told_sent c.args.number c.args.self.now c.tell.new.self c.send_on.new.self c.in_ok-resumes.ensures.pool c.in_ok-resumes.ensures.links c.in_ok-send_on.ensures.keeps)

pub returns-in-Acknowledged-None-clause-keeps : goal.returns-in-Acknowledged-None-clause-keeps
returns-in-Acknowledged-None-clause-keeps c = λ reached. heard_none c.args.number c.args.heard c.args.self.now c.tell.new.self c.send_on.new.self c.in_ok-resumes.ensures.pool c.in_ok-resumes.ensures.links c.in_ok-resumes.ensures.asks c.tell.ensures.outbox c.in_ok-send_on.ensures.idle (not_left c.args.heard.what whats.Acknowledged (search rules) (λ e. let u : ⊥ = cc in u)) (told_sent c.args.number c.args.self.now c.tell.new.self c.send_on.new.self c.in_ok-resumes.ensures.pool c.in_ok-resumes.ensures.links c.in_ok-send_on.ensures.keeps)

pub returns-in-Closed-Some-clause-keeps : goal.returns-in-Closed-Some-clause-keeps
returns-in-Closed-Some-clause-keeps c = λ reached. heard_closed c.close_link.result c.args.number c.args.heard c.args.self.now c.tell.new.self c.send_on.new.self c.close_link.new.self c.in_ok-resumes.ensures.pool c.in_ok-resumes.ensures.asks c.in_ok-send_on.ensures.goes c.in_ok-send_on.ensures.holds c.in_ok-send_on.ensures.asks c.close_link.ensures.pool c.close_link.ensures.asks c.close_link.ensures.gone (first_closed c.close_link.result c.args.number c.args.heard.key c.args.self.now c.send_on.new.self c.close_link.new.self (told_sent c.args.number c.args.self.now c.tell.new.self c.send_on.new.self c.in_ok-resumes.ensures.pool c.in_ok-resumes.ensures.links c.in_ok-send_on.ensures.keeps) c.close_link.ensures.pool c.close_link.ensures.queues c.close_link.ensures.answers)

pub returns-in-Closed-None-clause-keeps : goal.returns-in-Closed-None-clause-keeps
returns-in-Closed-None-clause-keeps c = λ reached. heard_closed c.close_link-in-Closed-None.result c.args.number c.args.heard c.args.self.now c.tell.new.self c.send_on.new.self c.close_link-in-Closed-None.new.self c.in_ok-resumes.ensures.pool c.in_ok-resumes.ensures.asks c.in_ok-send_on.ensures.goes c.in_ok-send_on.ensures.holds c.in_ok-send_on.ensures.asks c.close_link-in-Closed-None.ensures.pool c.close_link-in-Closed-None.ensures.asks c.close_link-in-Closed-None.ensures.gone (first_closed c.close_link-in-Closed-None.result c.args.number c.args.heard.key c.args.self.now c.send_on.new.self c.close_link-in-Closed-None.new.self (told_sent c.args.number c.args.self.now c.tell.new.self c.send_on.new.self c.in_ok-resumes.ensures.pool c.in_ok-resumes.ensures.links c.in_ok-send_on.ensures.keeps) c.close_link-in-Closed-None.ensures.pool c.close_link-in-Closed-None.ensures.queues c.close_link-in-Closed-None.ensures.answers)

pub returns-then-resumes-clause-keeps : goal.returns-then-resumes-clause-keeps
returns-then-resumes-clause-keeps c = λ reached. let there : IsReached (pool_in c.send_on.new.self.pool) = put_reached c.tell.new.self.pool c.send_on.new.self.pool c.send_on.new.self.pool c.in_ok-send_on.ensures.goes refl (subst (λ (d : pools.Pool). IsReached (pool_in d)) (sym c.in_ok-resumes.ensures.pool) reached) in heard_resumes c.args.number c.args.heard c.args.self.now c.tell.new.self c.send_on.new.self c.in_ok-resumes.ensures.pool c.in_ok-resumes.ensures.links c.in_ok-resumes.ensures.asks c.tell.ensures.outbox c.in_ok-send_on.ensures.idle c.resume.result c.in-Acknowledged-Some.key c.resume.new.self (not_left c.args.heard.what whats.Acknowledged (search rules) (λ e. let u : ⊥ = cc in u)) (search rules) (first_whose_on c.resume.result c.args.number c.in-Acknowledged-Some.key c.args.heard.key c.args.self.now c.send_on.new.self c.resume.new.self (search rules) (told_sent c.args.number c.args.self.now c.tell.new.self c.send_on.new.self c.in_ok-resumes.ensures.pool c.in_ok-resumes.ensures.links c.in_ok-send_on.ensures.keeps) (c.resume.ensures.keeps there)) (c.resume.ensures.rests there)

pub returns-then-resumes-clause-told : goal.returns-then-resumes-clause-told
returns-then-resumes-clause-told c = told_resumed c.resume.result (Some c.args.heard) (ends_in c.args.self.now.applications) c.args.self.now.applications c.tell.new.self.applications c.send_on.new.self.applications c.resume.new.self.applications (acknowledges_one (Some c.args.heard) c.args.heard c.in-Acknowledged-Some.key refl (search rules) (search rules)) c.in_ok-resumes.ensures.told c.in_ok-send_on.ensures.asks c.resume.ensures.asks
