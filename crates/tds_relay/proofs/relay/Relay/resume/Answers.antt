use Rattle.std.proofs.Common.{◌⊎◌, ℕ, Some, ap, inl, inr, refl, rules, subst, sym}
use Rattle.tds_relay.specs.Waiting.{IsUnheldOrTurnedAway}
use Rattle.tds_relay.proofs.steps.Reaching.{ok_if, ok_more}
use Rattle.tds_relay.proofs.spared.Coming.{start_along}
use Rattle.tds_relay.proofs.spared.Closings.{closes_more_on}
use Rattle.tds_relay.proofs.spared.Turned.{CannotResumeAt, resume_or}
use Rattle.tds_relay.specs.Reasons.{IsUnheld, ItselfFor, ResumesNotAt}
use Rattle.tds_relay.proofs.spared.Only.{spares_alone_on}
use Rattle.tds_relay.specs.Fronts.{core_in}
use Rattle.tds_relay.proofs.bytes.SetAnew.{any_kept, any_refl}
use Rattle.tds_relay.proofs.spared.Off.{others_off_on}
use Rattle.tds_relay.proofs.spared.Elsewhere.{aside_own}
use Rattle.tds_relay.proofs.lending.Firsts.{first_its}
use Rattle.tds_relay.proofs.lending.Rests.{waiting_starts}
use Rattle.tds_relay.proofs.lending.Stilled.{still_asked}
use Rattle.tds_relay.proofs.steps.Staying.{stays_refl}
use Rattle.tds_relay.specs.Ties.{Connection}
use Rattle.tds_relay.proofs.relay.Relay.resume.Goals as goal

pub returns-then-asks_to_keep-clause-moves : goal.returns-then-asks_to_keep-clause-moves
returns-then-asks_to_keep-clause-moves c = ok_more c.keep.result _ _ (λ m. m (c.asks_to_keep.ensures.asks (search rules))) c.keep.ensures.moves

pub returns-else-asks_to_keep-clause-bodies : goal.returns-else-asks_to_keep-clause-bodies
returns-else-asks_to_keep-clause-bodies c = λ reached.
    start_along c.start_kept.result c.args.key c.args.self.now c.start_kept.new.self reached c.start_kept.ensures.body c.start_kept.ensures.others

pub returns-else-asks_to_keep-clause-closes : goal.returns-else-asks_to_keep-clause-closes
returns-else-asks_to_keep-clause-closes c =
    let r = c.args.self.now in
    let key = c.args.key in
    closes_more_on c.start_kept.result (ItselfFor key (IsUnheldOrTurnedAway key r)) (ResumesNotAt c.args.number key r) _ _
    (λ other e. inl (
      ap (λ (k : ℕ). Some k) (sym e.0),
      subst (λ (k : ℕ). IsUnheld k r.pool ⊎ CannotResumeAt k r) (sym e.0) (resume_or key r (c.asks_to_keep.ensures.not (search rules)) e.1),
    ))
    c.start_kept.ensures.closes

pub returns-then-asks_to_keep-clause-closes : goal.returns-then-asks_to_keep-clause-closes
returns-then-asks_to_keep-clause-closes c = c.keep.ensures.closes (c.asks_to_keep.ensures.asks (search rules))

pub returns-then-asks_to_keep-clause-resumes : goal.returns-then-asks_to_keep-clause-resumes
returns-then-asks_to_keep-clause-resumes c = ok_if c.keep.result _ (inl (c.asks_to_keep.ensures.asks (search rules)))

pub returns-else-asks_to_keep-clause-resumes : goal.returns-else-asks_to_keep-clause-resumes
returns-else-asks_to_keep-clause-resumes c = ok_more c.start_kept.result _ _ (λ p. inr p) c.start_kept.ensures.placed

pub returns-else-asks_to_keep-clause-spares : goal.returns-else-asks_to_keep-clause-spares
returns-else-asks_to_keep-clause-spares c = λ reached.
    spares_alone_on c.start_kept.result c.args.number c.args.key (core_in c.args.self.now) (core_in c.start_kept.new.self) c.start_kept.ensures.alone c.start_kept.ensures.moves

pub returns-else-asks_to_keep-clause-begins : goal.returns-else-asks_to_keep-clause-begins
returns-else-asks_to_keep-clause-begins c = any_kept c.start_kept.result _ _ _ (any_refl c.args.self.now.links.items) c.start_kept.ensures.answers

pub returns-else-asks_to_keep-clause-apart : goal.returns-else-asks_to_keep-clause-apart
returns-else-asks_to_keep-clause-apart c = others_off_on c.start_kept.result c.args.number c.args.key c.args.self.now c.start_kept.new.self c.start_kept.ensures.others

pub returns-then-asks_to_keep-clause-keeps : goal.returns-then-asks_to_keep-clause-keeps
returns-then-asks_to_keep-clause-keeps c = λ reached. c.keep.ensures.keeps reached

pub returns-else-asks_to_keep-clause-keeps : goal.returns-else-asks_to_keep-clause-keeps
returns-else-asks_to_keep-clause-keeps c = λ reached.
    first_its c.start_kept.result c.args.number c.args.key c.args.self.now c.start_kept.new.self (aside_own c.start_kept.result c.args.key c.args.self.now c.start_kept.new.self (c.start_kept.ensures.own reached))

pub returns-then-asks_to_keep-clause-rests : goal.returns-then-asks_to_keep-clause-rests
returns-then-asks_to_keep-clause-rests c = λ reached. c.keep.ensures.rests reached

pub returns-else-asks_to_keep-clause-rests : goal.returns-else-asks_to_keep-clause-rests
returns-else-asks_to_keep-clause-rests c = λ reached.
    waiting_starts c.start_kept.result c.args.number c.args.key c.args.self.now c.start_kept.new.self (c.start_kept.ensures.own reached) c.start_kept.ensures.alone c.start_kept.ensures.body c.start_kept.ensures.puts c.start_kept.ensures.stays

pub returns-then-asks_to_keep-clause-still : goal.returns-then-asks_to_keep-clause-still
returns-then-asks_to_keep-clause-still c = c.keep.ensures.still

pub returns-else-asks_to_keep-clause-still : goal.returns-else-asks_to_keep-clause-still
returns-else-asks_to_keep-clause-still c = still_asked c.start_kept.result _ c.args.self.now.links.items c.args.self.now.links.items c.start_kept.new.self.links.items (stays_refl c.args.self.now.links.items) (λ n. refl) c.start_kept.ensures.shut

pub returns-else-asks_to_keep-clause-goes : goal.returns-else-asks_to_keep-clause-goes
returns-else-asks_to_keep-clause-goes c = ok_more c.start_kept.result _ _ (λ g other. g (Connection other)) c.start_kept.ensures.goes
