use Rattle.std.proofs.Common.{◌∙◌, Option, ap, refl, subst, sym, ℕ}
use Rattle.std.specs.Prelude.{OnOk}
use Rattle.tds_relay.specs.declared.pool.coming.Heard.{Heard}
use Rattle.tds_relay.specs.Apart.{SparesOthers}
use Rattle.tds_relay.specs.Cleaning.{CountsHeard}
use Rattle.tds_relay.specs.Closings.{ClosesOnly, register_in}
use Rattle.tds_relay.specs.Coming.{BeginAnyIf, acknowledged_in, AskAsTold, asking_in}
use Rattle.tds_relay.specs.Few.{IsSeatedBehind}
use Rattle.tds_relay.specs.Fronts.{Moved, ends_in, core_in, core_of_ends, told_by}
use Rattle.tds_relay.specs.Handing.{heard_key}
use Rattle.tds_relay.specs.Sparing.{OffGo}
use Rattle.tds_relay.specs.Ties.{Connection, pool_in}
use Rattle.tds_relay.specs.Waiting.{KeepsHeard, LosesAt, RestsElse}
use Rattle.tds_relay.specs.Waking.{HandsTo, IsWoken}
use Rattle.tds_relay.proofs.bytes.SetAnew.{any_if}
use Rattle.tds_relay.proofs.seats.Pools.{off_of}
use Rattle.tds_relay.proofs.seats.Relays.{behind_none}
use Rattle.tds_relay.proofs.spared.Closings.{closes_more_on}
use Rattle.tds_relay.proofs.spared.Coming.{rest_along}
use Rattle.tds_relay.proofs.spared.Counted.{counts_nothing}
use Rattle.tds_relay.proofs.spared.Losing.{nothing_loses}
use Rattle.tds_relay.proofs.spared.Off.{all_off}
use Rattle.tds_relay.proofs.spared.Only.{spares_lost_on, spares_none}
use Rattle.tds_relay.proofs.spared.Waking.{hands_nobody}
use Rattle.tds_relay.proofs.steps.Fronts.{moves_same, told_none}
use Rattle.tds_relay.proofs.steps.Reaching.{ok_if, ok_more}
use Rattle.tds_relay.proofs.steps.Staying.{gone_filled}
use Rattle.tds_relay.proofs.lending.Firsts.{first_as, first_lost_on}
use Rattle.tds_relay.proofs.lending.Rests.{free_lost, heard_lost}
use Rattle.tds_relay.proofs.lending.Stilled.{rests_all}
use Rattle.tds_relay.proofs.steps.Answering.{told_lost}
use Rattle.tds_relay.proofs.relay.Relay.heard.Goals as goal

pub returns-in-None-clause-moves : goal.returns-in-None-clause-moves
returns-in-None-clause-moves c = ok_more c.lose.result _ _ (λ m from h. m (Connection c.args.number) from (moves_same (Connection c.args.number) from _ _ _ _ refl (told_none c.args.heard _ c.in-None.is) h)) c.lose.ensures.moves

pub returns-in-None-clause-read : goal.returns-in-None-clause-read
returns-in-None-clause-read c = c.lose.ensures.read

pub returns-in-None-clause-bodies : goal.returns-in-None-clause-bodies
returns-in-None-clause-bodies c = λ reached. rest_along c.lose.result c.args.self.now c.lose.new.self (c.lose.ensures.rests reached)

pub returns-in-None-clause-wakes : goal.returns-in-None-clause-wakes
returns-in-None-clause-wakes c = ok_if c.lose.result _ (λ key h. absurd (hands_nobody c.args.heard key _ c.in-None.is h))

pub returns-in-None-clause-closes : goal.returns-in-None-clause-closes
returns-in-None-clause-closes c = closes_more_on c.lose.result _ (LosesAt c.args.number c.args.heard c.args.self.now) _ _ (λ other who. nothing_loses c.args.number c.args.heard c.args.self.now c.in-None.is other who) c.lose.ensures.closes

pub returns-in-None-clause-spares : goal.returns-in-None-clause-spares
returns-in-None-clause-spares c = λ reached. ok_more c.lose.result _ _ (λ h. spares_none c.args.number _ (core_in c.args.self.now) (core_in c.lose.new.self) h) (spares_lost_on c.lose.result c.args.number (core_in c.args.self.now) (core_in c.lose.new.self) c.lose.ensures.ends c.lose.ensures.line c.lose.ensures.moves)

pub returns-in-None-clause-begins : goal.returns-in-None-clause-begins
returns-in-None-clause-begins c = any_if c.lose.result (acknowledged_in c.args.heard) _ _ c.lose.ensures.answers

pub returns-in-None-clause-seated : goal.returns-in-None-clause-seated
returns-in-None-clause-seated c = λ s. c.lose.ensures.seated (off_of c.args.number (pool_in c.args.self.now.pool) c.args.self.now.links.items (behind_none c.args.heard c.args.number c.args.self.now c.in-None.is s))

pub returns-in-None-clause-apart : goal.returns-in-None-clause-apart
returns-in-None-clause-apart c = all_off c.lose.result c.args.number _ c.args.self.now c.lose.new.self c.lose.ensures.rests

pub returns-in-None-clause-counts : goal.returns-in-None-clause-counts
returns-in-None-clause-counts c = ok_if c.lose.result _ (counts_nothing c.args.heard c.args.number c.args.self.now c.lose.new.self c.in-None.is c.lose.ensures.counts)

pub returns-in-Some-clause-moves : goal.returns-in-Some-clause-moves
returns-in-Some-clause-moves c = subst (λ (o : Option Heard). OnOk c.heard_packet.result (Moved (Connection c.args.number) (core_of_ends (pool_in c.args.self.now.pool) (told_by o (ends_in c.args.self.now.applications))) (core_in c.heard_packet.new.self))) (sym c.in-Some.is) c.heard_packet.ensures.moves

pub returns-in-Some-clause-wakes : goal.returns-in-Some-clause-wakes
returns-in-Some-clause-wakes c = subst (λ (o : Option Heard). OnOk c.heard_packet.result ((key : ℕ) → HandsTo o key (ends_in c.args.self.now.applications) → IsWoken key c.heard_packet.new.self.applications c.heard_packet.new.self.orders.items)) (sym c.in-Some.is) c.heard_packet.ensures.wakes

pub returns-in-Some-clause-others : goal.returns-in-Some-clause-others
returns-in-Some-clause-others c = subst (λ (o : Option Heard). OnOk c.heard_packet.result (RestsElse o c.args.number c.args.self.now.links.items c.heard_packet.new.self.links.items)) (sym c.in-Some.is) c.heard_packet.ensures.others

pub returns-in-None-clause-others : goal.returns-in-None-clause-others
returns-in-None-clause-others c = ok_more c.lose.result _ _ (λ o. rests_all _ _ _ _ o) c.lose.ensures.others

pub returns-in-Some-clause-begins : goal.returns-in-Some-clause-begins
returns-in-Some-clause-begins c = subst (λ (o : Option Heard). OnOk c.heard_packet.result (BeginAnyIf (acknowledged_in o) c.args.self.now.links.items c.heard_packet.new.self.links.items)) (sym c.in-Some.is) c.heard_packet.ensures.begins

pub returns-in-Some-clause-spares : goal.returns-in-Some-clause-spares
returns-in-Some-clause-spares c = λ reached. subst (λ (o : Option Heard). OnOk c.heard_packet.result (SparesOthers c.args.number (heard_key o) (core_in c.args.self.now) (core_in c.heard_packet.new.self))) (sym c.in-Some.is) (c.heard_packet.ensures.spares reached)

pub returns-in-Some-clause-closes : goal.returns-in-Some-clause-closes
returns-in-Some-clause-closes c = subst (λ (o : Option Heard). OnOk c.heard_packet.result (ClosesOnly (LosesAt c.args.number o c.args.self.now) (register_in c.args.self.now) (register_in c.heard_packet.new.self))) (sym c.in-Some.is) c.heard_packet.ensures.closes

pub returns-in-Some-clause-seated : goal.returns-in-Some-clause-seated
returns-in-Some-clause-seated c = λ s. c.heard_packet.ensures.seated (subst (λ (o : Option Heard). IsSeatedBehind o c.args.number c.args.self.now) c.in-Some.is s)

pub returns-in-Some-clause-counts : goal.returns-in-Some-clause-counts
returns-in-Some-clause-counts c = subst (λ (o : Option Heard). OnOk c.heard_packet.result (CountsHeard c.args.number o c.args.self.now c.heard_packet.new.self)) (sym c.in-Some.is) c.heard_packet.ensures.counts

pub returns-in-Some-clause-apart : goal.returns-in-Some-clause-apart
returns-in-Some-clause-apart c = subst (λ (o : Option Heard). OnOk c.heard_packet.result (OffGo c.args.number (heard_key o) c.args.self.now c.heard_packet.new.self)) (sym c.in-Some.is) c.heard_packet.ensures.apart

pub returns-in-None-clause-sent : goal.returns-in-None-clause-sent
returns-in-None-clause-sent c = λ nobody. ok_more c.lose.result _ _ (λ g. gone_filled c.args.self.now.outbox.items c.args.number _ c.lose.new.self.links.items g) c.lose.ensures.gone

pub returns-in-Some-clause-sent : goal.returns-in-Some-clause-sent
returns-in-Some-clause-sent c = λ nobody. c.heard_packet.ensures.sent (sym (ap heard_key c.in-Some.is) ∙ nobody)

pub returns-in-None-clause-keeps : goal.returns-in-None-clause-keeps
returns-in-None-clause-keeps c = λ reached.
    heard_lost c.lose.result c.args.number c.args.heard c.args.self.now c.lose.new.self
    (first_as c.lose.result c.args.number (heard_key c.args.heard) c.args.self.now c.lose.new.self
    (first_lost_on c.lose.result c.args.number c.args.self.now c.lose.new.self c.lose.ensures.holds c.lose.ensures.queues c.lose.ensures.answers))
    (free_lost c.lose.result c.args.number c.args.self.now c.lose.new.self c.lose.ensures.holds)

pub returns-in-Some-clause-keeps : goal.returns-in-Some-clause-keeps
returns-in-Some-clause-keeps c = λ reached. subst (λ (o : Option Heard). OnOk c.heard_packet.result (KeepsHeard c.args.number o c.args.self.now c.heard_packet.new.self)) (sym c.in-Some.is) (c.heard_packet.ensures.keeps reached)

pub returns-in-None-clause-told : goal.returns-in-None-clause-told
returns-in-None-clause-told c = told_lost c.lose.result c.args.heard (ends_in c.args.self.now.applications) c.args.self.now.applications c.lose.new.self.applications c.in-None.is c.lose.ensures.asks

pub returns-in-Some-clause-told : goal.returns-in-Some-clause-told
returns-in-Some-clause-told c = subst (λ (o : Option Heard). OnOk c.heard_packet.result (AskAsTold (acknowledged_in o) o (ends_in c.args.self.now.applications) (asking_in c.args.self.now.applications) (asking_in c.heard_packet.new.self.applications))) (sym c.in-Some.is) c.heard_packet.ensures.told

pub returns-in-None-clause-goes : goal.returns-in-None-clause-goes
returns-in-None-clause-goes c = ok_more c.lose.result _ _ (λ g other. g (Connection other)) c.lose.ensures.goes
