use Rattle.std.proofs.Common.{List, inl, refl, ap, subst, sym, rules, false, true, ◌≡◌, ◌++◌, ◌∙◌, append-nil, Bool}
use Rattle.tds_relay.specs.Waiting.{IsUnheldOrTurnedAway}
use Rattle.tds_relay.specs.declared.link.Link.{Link}
use Rattle.tds_relay.specs.Lent.{IsMadeOn}
use Rattle.tds_relay.specs.Ties.{pool_in, IsReached}
use Rattle.tds_relay.proofs.steps.Fronts.{moves_same}
use Rattle.tds_relay.proofs.steps.Reaching.{ok_more, ok_if}
use Rattle.tds_relay.proofs.steps.Staying.{opens_by_push, opens_on}
use Rattle.tds_relay.proofs.bytes.Calls.{stand_from}
use Rattle.tds_relay.specs.declared.pool.Pool as code
use Rattle.tds_relay.proofs.lending.Resting.{go_on, go_on_one, pushed_rest, rest_go, all_others, others_on}
use Rattle.tds_relay.specs.Fronts.{core_in}
use Rattle.tds_relay.proofs.spared.Apart.{alone_on, alone_refl, alone_same}
use Rattle.tds_relay.proofs.spared.Ordered.{ordered_on, ordered_same}
use Rattle.tds_relay.specs.Closings.{Itself, register_in}
use Rattle.tds_relay.proofs.spared.Closings.{closes_nobody}
use Rattle.tds_relay.proofs.spared.Turned.{lent_for}
use Rattle.tds_relay.specs.Reasons.{ItselfFor}
use Rattle.tds_relay.proofs.spared.Shutting.{closes_pushed}
use Rattle.tds_relay.proofs.spared.Begun.{begins_on, pushed_made}
use Rattle.tds_relay.proofs.spared.Few.{few_again, few_pushed, none_stays}
use Rattle.tds_relay.proofs.spared.Lasting.{last_first_on, last_pushed}
use Rattle.tds_relay.proofs.seats.Relays.{if_had, lasting_seated}
use Rattle.tds_relay.proofs.seats.Linked.{seated_pushed}
use Rattle.tds_relay.proofs.spared.Opening.{opens_one, grows_behind, grows_stays}
use Rattle.tds_relay.specs.Ordering.{opens_if, opens_in}
use Rattle.tds_relay.proofs.spared.Filling.{own_put, own_behind, own_pushed}
use Rattle.tds_relay.proofs.spared.Growing.{pushed_more}
use Rattle.tds_relay.proofs.spared.Elsewhere.{begun_own}
use Rattle.tds_relay.proofs.lending.Dialled.{given_by_push, given_stays_on}
use Rattle.tds_relay.proofs.lending.Earlier.{lent_elsewhere, pushed_elsewhere}
use Rattle.tds_relay.proofs.lending.Front.{lent_asks}
use Rattle.tds_relay.proofs.lending.Fresh.{dials_again, dials_by_push}
use Rattle.tds_relay.proofs.lending.Stilled.{still_asked, still_pushed}
use Rattle.tds_relay.proofs.steps.Answering.{ask_same}
use Rattle.tds_relay.proofs.relay.Relay.lend.Goals as goal

pub returns-then-served-clause-opens : goal.returns-then-served-clause-opens
returns-then-served-clause-opens c = opens_on c.start_kept.result _ _ _ c.restart.ensures.read c.start_kept.ensures.read

pub returns-clause-opens : goal.returns-clause-opens
returns-clause-opens c = opens_by_push c.args.self.now.links.items c.args.self.now.links.items c.push.new.self.items c.in_ok-link.link refl c.in_ok-push.ensures.items c.in_ok-link.ensures.closed c.in_ok-link.ensures.made.5 c.in_ok-link.ensures.unnamed

pub returns-then-served-clause-moves : goal.returns-then-served-clause-moves
returns-then-served-clause-moves c = ok_more c.start_kept.result _ _ (λ m by from h. m by from (moves_same by from _ _ _ _ (ap pool_in c.restart.ensures.pool) c.restart.ensures.ends h)) c.start_kept.ensures.moves

pub returns-then-served-clause-stand : goal.returns-then-served-clause-stand
returns-then-served-clause-stand c = stand_from c.start_kept.result _ _ _ c.restart.ensures.pool c.start_kept.ensures.stand

pub returns-then-served-clause-goes_on : goal.returns-then-served-clause-goes_on
returns-then-served-clause-goes_on c = go_on c.start_kept.result c.args.self.now c.restart.new.self c.start_kept.new.self (λ r. subst (λ (d : code.Pool). IsReached (pool_in d)) (sym c.restart.ensures.pool) r)
    (rest_go c.args.self.now c.restart.new.self (λ r. c.restart.ensures.rests))
    (go_on_one c.start_kept.result c.args.served.hold.key c.restart.new.self c.start_kept.new.self c.start_kept.ensures.body c.start_kept.ensures.others)

pub returns-clause-goes_on : goal.returns-clause-goes_on
returns-clause-goes_on c = rest_go c.args.self.now _ (λ r. pushed_rest c.in_ok-link.link c.args.self.now _ refl refl c.in_ok-push.ensures.items)

pub returns-then-served-clause-alone : goal.returns-then-served-clause-alone
returns-then-served-clause-alone c =
    alone_on c.start_kept.result c.args.served.hold.key (core_in c.args.self.now) (core_in c.restart.new.self) _ c.start_kept.ensures.alone
    (alone_same c.args.served.hold.key (core_in c.args.self.now) (core_in c.restart.new.self) c.restart.ensures.ends (ap (λ (d : code.Pool). (pool_in d).line) c.restart.ensures.pool))

pub returns-clause-alone : goal.returns-clause-alone
returns-clause-alone c = alone_refl c.args.served.hold.key (core_in c.args.self.now)

pub returns-then-served-clause-ordered : goal.returns-then-served-clause-ordered
returns-then-served-clause-ordered c = ordered_on c.start_kept.result _ _ _ c.start_kept.ensures.ordered (ordered_same _ _ c.restart.ensures.orders)

pub returns-clause-ordered : goal.returns-clause-ordered
returns-clause-ordered c = (_, c.in_ok-push-2.ensures.items)

pub returns-then-served-clause-closes : goal.returns-then-served-clause-closes
returns-then-served-clause-closes c = lent_for c.start_kept.result c.args.served.hold.key c.args.self.now c.restart.new.self c.start_kept.new.self c.restart.ensures.pool c.restart.ensures.same c.restart.ensures.queues c.restart.ensures.read.seen c.restart.ensures.closes c.start_kept.ensures.closes

pub returns-clause-closes : goal.returns-clause-closes
returns-clause-closes c = closes_pushed (ItselfFor c.args.served.hold.key (IsUnheldOrTurnedAway c.args.served.hold.key c.args.self.now)) _ _ _ c.args.served.hold.number refl refl refl c.in_ok-push.ensures.items c.in_ok-link.ensures.number c.in_ok-link.ensures.unnamed c.in_ok-link.ensures.nothing c.in_ok-push-2.ensures.items

pub returns-then-served-clause-begins : goal.returns-then-served-clause-begins
returns-then-served-clause-begins c = λ had. begins_on c.start_kept.result c.args.served.hold.number _ _ _ c.restart.ensures.begins c.start_kept.ensures.answers

pub returns-clause-made : goal.returns-clause-made
returns-clause-made c = λ had none.
    subst (λ (ls : List Link). IsMadeOn c.args.self.now.size c.args.self.now.features c.args.served.hold.number ls) (sym c.in_ok-push.ensures.items)
    (pushed_made c.args.self.now.size c.args.self.now.features c.args.served.hold.number c.args.self.now.links.items c.in_ok-link.link none c.in_ok-link.ensures.made)

pub returns-then-served-clause-few : goal.returns-then-served-clause-few
returns-then-served-clause-few c = few_again c.start_kept.result c.args.served.had _ _ _ (search rules) (none_stays _ _ c.restart.ensures.read) c.start_kept.ensures.read

pub returns-clause-few : goal.returns-clause-few
returns-clause-few c = few_pushed c.args.served.had c.in_ok-link.link _ _ (search rules) c.in_ok-push.ensures.items

pub returns-then-served-clause-lasts : goal.returns-then-served-clause-lasts
returns-then-served-clause-lasts c =
    last_first_on c.start_kept.result (Itself c.args.served.hold.key) (register_in c.args.self.now) (register_in c.restart.new.self) (register_in c.start_kept.new.self)
    (closes_nobody (Itself c.args.served.hold.key) _ _ c.restart.ensures.closes) c.restart.ensures.lasts c.start_kept.ensures.lasts

pub returns-clause-lasts : goal.returns-clause-lasts
returns-clause-lasts c = inl (last_pushed c.in_ok-link.link _ _ c.in_ok-push.ensures.items)

pub returns-then-served-clause-seated : goal.returns-then-served-clause-seated
returns-then-served-clause-seated c = λ s.
    let had : c.args.served.had ≡ true = search rules in
    c.start_kept.ensures.seated (lasting_seated c.args.self.now c.restart.new.self c.restart.ensures.pool c.restart.ensures.lasts c.restart.ensures.read (if_had true c.args.served.had c.args.served.hold.number c.args.self.now had s))

pub returns-clause-seated : goal.returns-clause-seated
returns-clause-seated c = λ s.
    let had : c.args.served.had ≡ false = search rules in
    seated_pushed c.args.served.hold.number (pool_in c.args.self.now.pool) c.in_ok-link.link c.args.self.now.links.items c.push.new.self.items c.in_ok-push.ensures.items c.in_ok-link.ensures.number
    (if_had false c.args.served.had c.args.served.hold.number c.args.self.now had s)

pub returns-then-served-clause-opening : goal.returns-then-served-clause-opening
returns-then-served-clause-opening c =
    let had : c.args.served.had ≡ true = search rules in
    ok_if c.start_kept.result _
    (c.start_kept.ensures.opening ∙ ap opens_in c.restart.ensures.orders ∙ sym (append-nil (opens_in c.args.self.now.orders.items))
    ∙ ap (λ (b : Bool). opens_in c.args.self.now.orders.items ++ opens_if b c.args.served.hold.number) (sym had))

pub returns-clause-opening : goal.returns-clause-opening
returns-clause-opening c =
    let had : c.args.served.had ≡ false = search rules in
    opens_one c.args.served.hold.number c.args.self.now.orders.items _ c.in_ok-push-2.ensures.items ∙ ap (λ (b : Bool). opens_in c.args.self.now.orders.items ++ opens_if b c.args.served.hold.number) (sym had)

pub returns-then-served-clause-own : goal.returns-then-served-clause-own
returns-then-served-clause-own c = λ reached its.
    own_behind c.start_kept.result c.args.served.hold.key c.args.self.now c.restart.new.self c.start_kept.new.self
    (own_put c.args.served.hold.key c.args.served.hold.number c.args.self.now.pool.holds.items c.args.self.now.links.items c.restart.new.self.pool.holds.items c.restart.new.self.links.items (ap (λ (d : code.Pool). d.holds.items) c.restart.ensures.pool) its
    (begun_own c.args.served.hold.number c.args.self.now.links.items c.restart.new.self.links.items c.restart.ensures.queues c.restart.ensures.others))
    (c.start_kept.ensures.own (subst (λ (d : code.Pool). IsReached (pool_in d)) (sym c.restart.ensures.pool) reached))

pub returns-clause-own : goal.returns-clause-own
returns-clause-own c = λ reached its.
    own_pushed c.args.served.hold.key c.args.served.hold.number c.args.self.now.pool.holds.items c.args.self.now.links.items c.push.new.self.items c.in_ok-link.link its c.in_ok-link.ensures.number c.in_ok-push.ensures.items

pub returns-then-served-clause-many : goal.returns-then-served-clause-many
returns-then-served-clause-many c =
    grows_behind c.start_kept.result c.args.self.now c.restart.new.self c.start_kept.new.self (grows_stays c.args.self.now c.restart.new.self (ap opens_in c.restart.ensures.orders) c.restart.ensures.read) c.start_kept.ensures.opening c.start_kept.ensures.read

pub returns-clause-many : goal.returns-clause-many
returns-clause-many c =
    pushed_more c.args.served.hold.number c.in_ok-link.link c.args.self.now.links.items c.push.new.self.items (opens_in c.args.self.now.orders.items) _ c.in_ok-push.ensures.items
    (opens_one c.args.served.hold.number c.args.self.now.orders.items _ c.in_ok-push-2.ensures.items)

pub returns-then-served-clause-others : goal.returns-then-served-clause-others
returns-then-served-clause-others c = λ reached.
    others_on c.start_kept.result c.args.served.hold.key c.args.self.now c.restart.new.self c.start_kept.new.self (c.start_kept.ensures.others (subst (λ (d : code.Pool). IsReached (pool_in d)) (sym c.restart.ensures.pool) reached))
    (all_others c.args.served.hold.key c.args.self.now c.restart.new.self c.restart.ensures.rests)

pub returns-clause-others : goal.returns-clause-others
returns-clause-others c = λ reached. all_others c.args.served.hold.key c.args.self.now _ (pushed_rest c.in_ok-link.link c.args.self.now _ refl refl c.in_ok-push.ensures.items)

pub returns-then-served-clause-given : goal.returns-then-served-clause-given
returns-then-served-clause-given c = λ last new. given_stays_on c.start_kept.result last c.args.self.now.links.items c.restart.new.self.links.items c.start_kept.new.self.links.items c.restart.ensures.read c.start_kept.ensures.read

pub returns-clause-given : goal.returns-clause-given
returns-clause-given c = λ last new.
    given_by_push last c.args.served.hold.number c.args.self.now.links.items c.push.new.self.items c.in_ok-link.link c.in_ok-push.ensures.items c.in_ok-link.ensures.number (new (search rules))

pub returns-then-served-clause-fresh : goal.returns-then-served-clause-fresh
returns-then-served-clause-fresh c =
    dials_again c.start_kept.result c.args.self.now.size c.args.self.now.features c.args.self.now.links.items c.restart.new.self.links.items c.start_kept.new.self.links.items c.restart.ensures.read c.restart.ensures.queues c.start_kept.ensures.read
    c.start_kept.ensures.shut

pub returns-clause-fresh : goal.returns-clause-fresh
returns-clause-fresh c =
    dials_by_push c.args.self.now.size c.args.self.now.features c.args.self.now.links.items c.push.new.self.items c.in_ok-link.link c.in_ok-push.ensures.items c.in_ok-link.ensures.closed c.in_ok-link.ensures.unnamed c.in_ok-link.ensures.unread
    c.in_ok-link.ensures.made

pub returns-then-served-clause-still : goal.returns-then-served-clause-still
returns-then-served-clause-still c = λ last new. still_asked c.start_kept.result _ c.args.self.now.links.items c.restart.new.self.links.items c.start_kept.new.self.links.items c.restart.ensures.read c.restart.ensures.waits c.start_kept.ensures.shut

pub returns-clause-still : goal.returns-clause-still
returns-clause-still c = λ last new. still_pushed last c.args.served.hold.number c.args.self.now.links.items c.push.new.self.items c.in_ok-link.link c.in_ok-push.ensures.items c.in_ok-link.ensures.number (new (search rules))

pub returns-then-served-clause-elsewhere : goal.returns-then-served-clause-elsewhere
returns-then-served-clause-elsewhere c =
    lent_elsewhere c.start_kept.result c.args.served.hold.number c.args.self.now.links.items c.restart.new.self.links.items c.start_kept.new.self.links.items c.restart.ensures.others c.start_kept.ensures.answers

pub returns-clause-elsewhere : goal.returns-clause-elsewhere
returns-clause-elsewhere c = pushed_elsewhere c.args.served.hold.number c.args.self.now.links.items c.push.new.self.items c.in_ok-link.link c.in_ok-push.ensures.items c.in_ok-link.ensures.number

pub returns-then-served-clause-asks : goal.returns-then-served-clause-asks
returns-then-served-clause-asks c = ask_same c.start_kept.result c.args.self.now.applications c.restart.new.self.applications c.start_kept.new.self.applications c.restart.ensures.same c.start_kept.ensures.asks

pub returns-then-served-clause-behind : goal.returns-then-served-clause-behind
returns-then-served-clause-behind c = λ had its.
    lent_asks c.start_kept.result c.args.served.hold c.args.self.now c.restart.new.self c.start_kept.new.self c.restart.ensures.pool c.restart.ensures.same c.restart.ensures.waits its c.start_kept.ensures.behind c.start_kept.ensures.puts

pub returns-then-served-clause-placed : goal.returns-then-served-clause-placed
returns-then-served-clause-placed c = λ had. c.start_kept.ensures.placed
