use Rattle.std.proofs.Common.{◌∙◌, ℕ, List, ap, refl, rules, subst, sym, None, Some}
use Rattle.tds_relay.specs.declared.pool.Pool as code
use Rattle.tds_relay.specs.declared.link.Link.{Link}
use Rattle.tds_relay.specs.Reads.{LinksStay, queue_on}
use Rattle.tds_relay.specs.Ties.{Connection, Reaches, pool_in}
use Rattle.tds_relay.proofs.steps.Fronts.{moves_loses, moves_replaces, moves_same}
use Rattle.tds_relay.proofs.steps.Reaching.{ok_if, ok_more, reaches_turn}
use Rattle.tds_relay.proofs.steps.Staying.{stays_then}
use Rattle.tds_relay.proofs.bytes.Calls.{stand_at, stand_on}
use Rattle.tds_relay.proofs.spared.Coming.{along_both, body_along, rest_along, same_along, same_along_on}
use Rattle.tds_relay.proofs.spared.Ordered.{ordered_both, ordered_same}
use Rattle.tds_relay.specs.Closings.{IsWho, NoKey}
use Rattle.tds_relay.proofs.spared.Closings.{closes_both, closes_more_on, closes_nobody}
use Rattle.tds_relay.specs.Reasons.{CannotMove}
use Rattle.tds_relay.specs.Waiting.{StandsInLine}
use Rattle.tds_relay.specs.Waiting as waiting
use Rattle.tds_relay.proofs.spared.Cleaned.{not_both}
use Rattle.tds_relay.proofs.spared.Lined.{lost_deaf, same_key}
use Rattle.tds_relay.proofs.spared.Only.{spares_both, spares_holder, spares_left, spares_lost_on, spares_none, spares_parted}
use Rattle.tds_relay.specs.Fronts.{core_in, ends_in}
use Rattle.tds_relay.specs.Core.{lets_go, EndList, IfOpen, IsBegun, end_at, holder}
use Rattle.tds_relay.proofs.bytes.SetAnew.{any_keeps, any_kept, any_refl}
use Rattle.tds_relay.specs.Lent.{KeepsAnswers}
use Rattle.tds_relay.specs.Coming.{MayBeginAny}
use Rattle.tds_relay.proofs.seats.Relays.{closed_end, closed_seated, pool_but}
use Rattle.tds_relay.proofs.seats.Pools.{lost_seated, off_of}
use Rattle.tds_relay.proofs.steps.Quieting.{open_lets_go, whose_is}
use Rattle.tds_relay.proofs.spared.Off.{all_off, asks_more, lost_off, parted_off, waits_off}
use Rattle.tds_relay.proofs.lending.Firsts.{first_lost_on}
use Rattle.tds_relay.proofs.lending.Rests.{free_lost}
use Rattle.tds_relay.proofs.lending.Stilled.{sent_still, still_off, still_then}
use Rattle.tds_relay.proofs.steps.Answering.{ask_ok, ask_on, before_on, on_both}
use Rattle.tds_relay.proofs.relay.Relay.replace.Goals as goal

pub returns-in_default-clause-goes : goal.returns-in_default-clause-goes
returns-in_default-clause-goes c =
    ok_if c.close_link.result _ (λ other from h. subst (λ (d : code.Pool). Reaches (Connection other) from (pool_in d)) (sym c.close_link.ensures.pool) (reaches_turn (Connection other) from _ _ _ _ _ c.in_ok-holder.ensures.turns tt h))

pub returns-in_default-clause-moves : goal.returns-in_default-clause-moves
returns-in_default-clause-moves c =
    ok_more c.close_link.result _ _
    (λ e from h. moves_same (Connection c.args.number) from _ _ _ _ (ap pool_in c.close_link.ensures.pool) e
    (moves_loses (Connection c.args.number) from _ _ _ _ c.args.number _ _ _ c.in_ok-holder.ensures.turns (sym c.in_default.is ∙ c.in_ok-holder.ensures.whose) refl h))
    c.close_link.ensures.ends

pub returns-clause-goes : goal.returns-clause-goes
returns-clause-goes c =
    ok_more c.wait.result _ _
    (λ g other from h. g (Connection other) tt from
    (subst (λ (d : code.Pool). Reaches (Connection other) from (pool_in d)) (sym (c.in_ok-close_link.ensures.pool ∙ c.let_go.ensures.pool)) (reaches_turn (Connection other) from _ _ _ _ _ c.in_ok-holder.ensures.turns tt h)))
    c.wait.ensures.goes

pub returns-clause-moves : goal.returns-clause-moves
returns-clause-moves c =
    ok_more c.wait.result _ _
    (λ m from h. m (Connection c.args.number) tt
    (subst (λ (es : EndList). IfOpen IsBegun (end_at es c.in-Some.key)) (sym (c.in_ok-close_link.ensures.ends ∙ c.let_go.ensures.ends)) (open_lets_go IsBegun (ends_in c.args.self.now.applications) c.in-Some.key
    (whose_is (λ (k : ℕ). IfOpen IsBegun (end_at (ends_in c.args.self.now.applications) k)) (holder (pool_in c.args.self.now.pool) c.args.number) c.in-Some.key (sym c.in_ok-holder.ensures.whose ∙ c.in-Some.is) (c.may_replace.ensures.begun (search rules))))) from
    (moves_same (Connection c.args.number) from _ _ _ _ (ap pool_in (c.in_ok-close_link.ensures.pool ∙ c.let_go.ensures.pool)) c.in_ok-close_link.ensures.ends
    (moves_replaces c.args.number c.in-Some.key from _ _ _ _ _ _ c.in_ok-holder.ensures.turns (sym c.in-Some.is ∙ c.in_ok-holder.ensures.whose) (c.may_replace.ensures.parts (search rules)) c.let_go.ensures.ends h)))
    c.wait.ensures.moves

pub returns-clause-read : goal.returns-clause-read
returns-clause-read c =
    ok_if c.wait.result _
    (stays_then _ _ _ (subst (λ (ls : List Link). LinksStay ls c.close_link-2.new.self.links.items) c.let_go.ensures.links c.in_ok-close_link.ensures.read) c.wait.ensures.links)

pub returns-in_default-clause-stand : goal.returns-in_default-clause-stand
returns-in_default-clause-stand c = ok_if c.close_link.result _ (stand_at _ _ _ c.in_ok-holder.ensures.stand c.close_link.ensures.pool)

pub returns-clause-stand : goal.returns-clause-stand
returns-clause-stand c = stand_on c.wait.result _ _ _ (stand_at _ _ _ c.in_ok-holder.ensures.stand (c.in_ok-close_link.ensures.pool ∙ c.let_go.ensures.pool)) c.wait.ensures.stand

pub returns-then-not-may_replace-clause-bodies : goal.returns-then-not-may_replace-clause-bodies
returns-then-not-may_replace-clause-bodies c = λ reached. rest_along c.lose.result c.args.self.now c.lose.new.self (c.lose.ensures.rests reached)

pub returns-in_default-clause-bodies : goal.returns-in_default-clause-bodies
returns-in_default-clause-bodies c = λ reached. same_along_on c.close_link.result c.args.self.now c.close_link.new.self c.close_link.ensures.asks

pub returns-clause-bodies : goal.returns-clause-bodies
returns-clause-bodies c = λ reached.
    body_along c.wait.result c.args.self.now c.close_link-2.new.self c.wait.new.self
    (along_both c.args.self.now c.let_go.new.self c.close_link-2.new.self (same_along c.args.self.now c.let_go.new.self c.let_go.ensures.asks) (same_along c.let_go.new.self c.close_link-2.new.self c.in_ok-close_link.ensures.asks))
    c.wait.ensures.body

pub returns-clause-ordered : goal.returns-clause-ordered
returns-clause-ordered c = ok_if c.wait.result _ (ordered_both _ _ _ (ordered_both _ _ _ (ordered_same _ _ c.let_go.ensures.orders) c.in_ok-close_link.ensures.ordered) (ordered_same _ _ c.wait.ensures.orders))

pub returns-then-not-may_replace-clause-closes : goal.returns-then-not-may_replace-clause-closes
returns-then-not-may_replace-clause-closes c =
    let r = c.args.self.now in
    closes_more_on c.lose.result (IsWho (holder (pool_in r.pool) c.args.number)) (λ other. IsWho (holder (pool_in r.pool) c.args.number) other × CannotMove other (end_at (ends_in r.applications) other) (pool_in r.pool)) _ _
    (λ other e. (e, c.may_replace.ensures.not (search rules) other e)) c.lose.ensures.closes

pub returns-in_default-clause-closes : goal.returns-in_default-clause-closes
returns-in_default-clause-closes c = closes_more_on c.close_link.result NoKey _ _ _ (λ key none. absurd none) c.close_link.ensures.closes

pub returns-clause-closes : goal.returns-clause-closes
returns-clause-closes c = ok_if c.wait.result _ (closes_nobody _ _ _ (closes_both NoKey _ _ _ (closes_both NoKey _ _ _ c.let_go.ensures.closes c.in_ok-close_link.ensures.closes) c.wait.ensures.closes))

pub returns-then-not-may_replace-clause-lines : goal.returns-then-not-may_replace-clause-lines
returns-then-not-may_replace-clause-lines c = ok_more c.lose.result _ _ (λ e key its. waiting.Closes (lost_deaf key _ _ _ e its)) c.lose.ensures.ends

pub returns-in_default-clause-lines : goal.returns-in_default-clause-lines
returns-in_default-clause-lines c = ok_if c.close_link.result _ (λ key its. absurd (not_both _ key its (sym (sym c.in_default.is ∙ c.in_ok-holder.ensures.whose))))

pub returns-clause-lines : goal.returns-clause-lines
returns-clause-lines c =
    ok_more c.wait.result _ _
    (λ l key its. subst (λ (k : ℕ). StandsInLine k c.wait.new.self) (same_key c.in-Some.key key _ (sym c.in-Some.is ∙ c.in_ok-holder.ensures.whose) its) l) c.wait.ensures.lines

pub returns-then-not-may_replace-clause-spares : goal.returns-then-not-may_replace-clause-spares
returns-then-not-may_replace-clause-spares c = λ reached.
    spares_lost_on c.lose.result c.args.number (core_in c.args.self.now) (core_in c.lose.new.self) c.lose.ensures.ends c.lose.ensures.line c.lose.ensures.moves

pub returns-in_default-clause-spares : goal.returns-in_default-clause-spares
returns-in_default-clause-spares c = λ reached.
    ok_more c.close_link.result _ _
    (λ e. spares_left c.args.number (core_in c.args.self.now) (core_in c.close_link.new.self) (ap pool_in c.close_link.ensures.pool ∙ c.in_ok-holder.ensures.turns.pool_is) e) c.close_link.ensures.ends

pub returns-clause-spares : goal.returns-clause-spares
returns-clause-spares c = λ reached.
    let old = core_in c.args.self.now in
    let mid = core_in c.close_link-2.new.self in
    let new = core_in c.wait.new.self in
    let its = sym (sym c.in-Some.is ∙ c.in_ok-holder.ensures.whose) in
    let parted = spares_parted c.args.number c.in-Some.key lets_go old mid its (ap pool_in (c.in_ok-close_link.ensures.pool ∙ c.let_go.ensures.pool) ∙ c.in_ok-holder.ensures.turns.pool_is)
    (c.in_ok-close_link.ensures.ends ∙ c.let_go.ensures.ends) in
    ok_more c.wait.result _ _
    (λ w. spares_holder c.args.number c.in-Some.key old new its (spares_both c.args.number (Some c.in-Some.key) old mid new (spares_none c.args.number (Some c.in-Some.key) old mid parted) (w c.args.number))) c.wait.ensures.spares

pub returns-then-not-may_replace-clause-begins : goal.returns-then-not-may_replace-clause-begins
returns-then-not-may_replace-clause-begins c = any_kept c.lose.result _ _ _ (any_refl c.args.self.now.links.items) c.lose.ensures.answers

pub returns-in_default-clause-begins : goal.returns-in_default-clause-begins
returns-in_default-clause-begins c = any_kept c.close_link.result _ _ _ (any_refl c.args.self.now.links.items) c.close_link.ensures.answers

pub returns-clause-begins : goal.returns-clause-begins
returns-clause-begins c =
    let gone : KeepsAnswers c.args.self.now.links.items c.close_link-2.new.self.links.items =
    subst (λ (ls : List Link). KeepsAnswers ls c.close_link-2.new.self.links.items) c.let_go.ensures.links c.in_ok-close_link.ensures.answers in
    ok_if c.wait.result _ (subst (λ (ls : List Link). MayBeginAny c.args.self.now.links.items ls) (sym c.wait.ensures.links) (any_keeps _ _ gone))

pub returns-then-not-may_replace-clause-seated : goal.returns-then-not-may_replace-clause-seated
returns-then-not-may_replace-clause-seated c = λ s. c.lose.ensures.seated (off_of c.args.number (pool_in c.args.self.now.pool) c.args.self.now.links.items s)

pub returns-in_default-clause-seated : goal.returns-in_default-clause-seated
returns-in_default-clause-seated c = λ s.
    closed_end c.close_link.result c.args.number c.lose-2.new.self c.args.self.now.links.items c.close_link.new.self c.close_link.ensures.pool c.close_link.ensures.fewer c.close_link.ensures.gone c.close_link.ensures.others (lost_seated c.args.number (pool_in c.args.self.now.pool) (pool_in c.lose-2.new.self) _ _ c.args.self.now.links.items c.in_ok-holder.ensures.turns (off_of c.args.number (pool_in c.args.self.now.pool) c.args.self.now.links.items s))

pub returns-clause-seated : goal.returns-clause-seated
returns-clause-seated c = λ s.
    c.wait.ensures.seated (closed_seated c.args.number c.let_go.new.self.pool c.let_go.new.self.links.items c.close_link-2.new.self c.close_link-2.ensures.pool c.in_ok-close_link.ensures.fewer c.in_ok-close_link.ensures.gone c.in_ok-close_link.ensures.others
    (pool_but c.args.number c.lose-2.new.self c.args.self.now.links.items c.let_go.new.self c.let_go.ensures.pool c.let_go.ensures.links (lost_seated c.args.number (pool_in c.args.self.now.pool) (pool_in c.lose-2.new.self) _ _ c.args.self.now.links.items c.in_ok-holder.ensures.turns (off_of c.args.number (pool_in c.args.self.now.pool) c.args.self.now.links.items s))))

pub returns-then-not-may_replace-clause-apart : goal.returns-then-not-may_replace-clause-apart
returns-then-not-may_replace-clause-apart c = all_off c.lose.result c.args.number _ c.args.self.now c.lose.new.self c.lose.ensures.rests

pub returns-in_default-clause-apart : goal.returns-in_default-clause-apart
returns-in_default-clause-apart c =
    lost_off c.close_link.result c.args.number None c.args.self.now c.close_link.new.self _ c.in_ok-holder.ensures.off c.close_link.ensures.pool c.close_link.ensures.others (asks_more c.close_link.result c.args.self.now c.close_link.new.self c.close_link.ensures.asks)

pub returns-clause-apart : goal.returns-clause-apart
returns-clause-apart c =
    waits_off c.wait.result c.args.number None c.args.self.now c.close_link-2.new.self c.wait.new.self
    (parted_off c.args.number None c.args.self.now c.let_go.new.self c.close_link-2.new.self c.lose-2.new.self c.in_ok-holder.ensures.off (c.in_ok-close_link.ensures.pool ∙ c.let_go.ensures.pool) c.in_ok-close_link.ensures.others c.let_go.ensures.links
    c.let_go.ensures.asks c.in_ok-close_link.ensures.asks)
    c.wait.ensures.body c.wait.ensures.service c.wait.ensures.holds

pub returns-then-not-may_replace-clause-keeps : goal.returns-then-not-may_replace-clause-keeps
returns-then-not-may_replace-clause-keeps c = first_lost_on c.lose.result c.args.number c.args.self.now c.lose.new.self c.lose.ensures.holds c.lose.ensures.queues c.lose.ensures.answers

pub returns-in_default-clause-keeps : goal.returns-in_default-clause-keeps
returns-in_default-clause-keeps c =
    first_lost_on c.close_link.result c.args.number c.args.self.now c.close_link.new.self
    (ok_if c.close_link.result _ (ap (λ (d : code.Pool). d.holds.items) c.close_link.ensures.pool ∙ c.in_ok-holder.ensures.holds)) c.close_link.ensures.queues c.close_link.ensures.answers

pub returns-clause-keeps : goal.returns-clause-keeps
returns-clause-keeps c =
    let gone : KeepsAnswers c.args.self.now.links.items c.close_link-2.new.self.links.items =
    subst (λ (ls : List Link). KeepsAnswers ls c.close_link-2.new.self.links.items) c.let_go.ensures.links c.in_ok-close_link.ensures.answers in
    first_lost_on c.wait.result c.args.number c.args.self.now c.wait.new.self
    (ok_more c.wait.result _ _ (λ h. h ∙ ap (λ (d : code.Pool). d.holds.items) (c.in_ok-close_link.ensures.pool ∙ c.let_go.ensures.pool) ∙ c.in_ok-holder.ensures.holds) c.wait.ensures.holds)
    (ok_if c.wait.result _ (λ other differs. ap (queue_on other) c.wait.ensures.links ∙ c.in_ok-close_link.ensures.queues other differs ∙ ap (queue_on other) c.let_go.ensures.links))
    (ok_if c.wait.result _ (subst (λ (ls : List Link). KeepsAnswers c.args.self.now.links.items ls) (sym c.wait.ensures.links) gone))

pub returns-then-not-may_replace-clause-frees : goal.returns-then-not-may_replace-clause-frees
returns-then-not-may_replace-clause-frees c = free_lost c.lose.result c.args.number c.args.self.now c.lose.new.self c.lose.ensures.holds

pub returns-in_default-clause-frees : goal.returns-in_default-clause-frees
returns-in_default-clause-frees c =
    free_lost c.close_link.result c.args.number c.args.self.now c.close_link.new.self (ok_if c.close_link.result _ (ap (λ (d : code.Pool). d.holds.items) c.close_link.ensures.pool ∙ c.in_ok-holder.ensures.holds))

pub returns-clause-frees : goal.returns-clause-frees
returns-clause-frees c =
    free_lost c.wait.result c.args.number c.args.self.now c.wait.new.self
    (ok_more c.wait.result _ _ (λ h. h ∙ ap (λ (d : code.Pool). d.holds.items) (c.in_ok-close_link.ensures.pool ∙ c.let_go.ensures.pool) ∙ c.in_ok-holder.ensures.holds) c.wait.ensures.holds)

pub returns-then-not-may_replace-clause-still : goal.returns-then-not-may_replace-clause-still
returns-then-not-may_replace-clause-still c = still_off c.lose.result c.args.number c.args.self.now.links.items c.lose.new.self.links.items c.lose.ensures.others

pub returns-in_default-clause-still : goal.returns-in_default-clause-still
returns-in_default-clause-still c = still_off c.close_link.result c.args.number c.args.self.now.links.items c.close_link.new.self.links.items c.close_link.ensures.others

pub returns-clause-still : goal.returns-clause-still
returns-clause-still c =
    still_then c.wait.result _ c.args.self.now.links.items c.close_link-2.new.self.links.items c.wait.new.self.links.items
    (sent_still c.args.number c.args.self.now.links.items c.let_go.new.self.links.items c.close_link-2.new.self.links.items c.let_go.ensures.links c.in_ok-close_link.ensures.others)
    (ok_if c.wait.result _ c.wait.ensures.links)

pub returns-then-not-may_replace-clause-asks : goal.returns-then-not-may_replace-clause-asks
returns-then-not-may_replace-clause-asks c = ask_ok c.lose.result c.args.self.now.applications c.lose.new.self.applications c.lose.ensures.asks

pub returns-in_default-clause-asks : goal.returns-in_default-clause-asks
returns-in_default-clause-asks c = ask_ok c.close_link.result c.args.self.now.applications c.close_link.new.self.applications (ok_more c.close_link.result _ _ (before_on c.args.self.now.applications c.close_link.new.self.applications) c.close_link.ensures.asks)

pub returns-clause-asks : goal.returns-clause-asks
returns-clause-asks c = ok_if c.wait.result _ (ask_on c.args.self.now.applications c.wait.new.self.applications (on_both c.args.self.now.applications c.close_link-2.new.self.applications c.wait.new.self.applications (on_both c.args.self.now.applications c.let_go.new.self.applications c.close_link-2.new.self.applications (before_on c.args.self.now.applications c.let_go.new.self.applications c.let_go.ensures.asks) (before_on c.let_go.new.self.applications c.close_link-2.new.self.applications c.in_ok-close_link.ensures.asks)) (before_on c.close_link-2.new.self.applications c.wait.new.self.applications c.wait.ensures.asks)))
