use Rattle.tds_relay.specs.Fronts.{machine_in}
use Rattle.tds_relay.specs.Ties.{Application, pool_in}
use Rattle.tds_relay.proofs.steps.Staying.{opens_served}
use Rattle.tds_relay.proofs.steps.Stepping.{led_on, steps_on_ok}
use Rattle.tds_relay.proofs.steps.Told.{tells_ok, tells_steps}
use Rattle.tds_relay.proofs.steps.Asked.{asks_ok}
use Rattle.tds_relay.proofs.bytes.Calls.{stand_on}
use Rattle.tds_relay.specs.Bodies.{body_of, standing_in}
use Rattle.tds_relay.proofs.steps.Carried.{carries_ok}
use Rattle.tds_relay.proofs.steps.Reaching.{ok_more, reached_on}
use Rattle.tds_relay.specs.Queues.{names_in}
use Rattle.tds_relay.proofs.steps.Renaming.{names_on}
use Rattle.tds_relay.specs.Waiting.{ForReasonOrWaiting, IsLentInVain, IsTakenTo}
use Rattle.std.proofs.Common.{[], inl, sym}
use Rattle.tds_relay.proofs.spared.Lines.{waited}
use Rattle.tds_relay.specs.Closings.{Itself}
use Rattle.tds_relay.proofs.spared.Closings.{closes_more, closes_with}
use Rattle.tds_relay.proofs.spared.Reasons.{lent_behind}
use Rattle.tds_relay.proofs.spared.Few.{few_behind, most_kept, none_stays}
use Rattle.tds_relay.proofs.spared.Opening.{goes_last, opens_new_on, opens_same, grows_on, grows_stays}
use Rattle.tds_relay.proofs.spared.Speaking.{others_served}
use Rattle.tds_relay.proofs.spared.Elsewhere.{said_puts}
use Rattle.tds_relay.proofs.steps.Heeding.{cancels_served}
use Rattle.tds_relay.proofs.steps.Tied.{relay_tied}
use Rattle.tds_relay.proofs.lending.Behind.{saying_on}
use Rattle.tds_relay.proofs.lending.Clients.{clients_others, clients_served}
use Rattle.tds_relay.proofs.lending.Dialled.{given_served}
use Rattle.tds_relay.proofs.lending.Fresh.{features_kept, new_served, size_kept}
use Rattle.tds_relay.proofs.lending.Earlier.{anew_on}
use Rattle.tds_relay.proofs.lending.Tending.{tend_line, tend_on}
use Rattle.tds_relay.proofs.relay.Relay.said.Goals as goal

pub returns-clause-steps : goal.returns-clause-steps
returns-clause-steps c =
    steps_on_ok c.serve_line.result (Application c.args.key) (machine_in c.args.self.now) _ _ _ _ (tells_steps c.args.key _ _ _ _ c.in_ok-take_all.ensures.tells)
    c.serve_line.ensures.moves c.serve_line.ensures.kept

pub returns-clause-tells : goal.returns-clause-tells
returns-clause-tells c =
    tells_ok c.serve_line.result c.args.key (machine_in c.args.self.now) _ _ _ _ _ _ c.in_ok-take_all.ensures.tells c.serve_line.ensures.moves c.serve_line.ensures.kept

pub returns-clause-opens : goal.returns-clause-opens
returns-clause-opens c = opens_served c.serve_line.result _ _ _ c.in_ok-take_all.ensures.read c.serve_line.ensures.opens

pub returns-clause-asks : goal.returns-clause-asks
returns-clause-asks c =
    asks_ok c.serve_line.result c.args.key (machine_in c.args.self.now) _ _ _ _ _ _ _ _ c.in_ok-take_all.ensures.asks c.serve_line.ensures.moves c.serve_line.ensures.kept c.serve_line.ensures.opens

pub returns-clause-stand : goal.returns-clause-stand
returns-clause-stand c = stand_on c.serve_line.result _ _ _ c.in_ok-take_all.ensures.stand c.serve_line.ensures.stand

pub returns-clause-carries : goal.returns-clause-carries
returns-clause-carries c = λ reached.
    carries_ok c.serve_line.result c.args.key (machine_in c.args.self.now) c.args.piece.now _ (body_of c.args.key c.args.self.now) (body_of c.args.key c.take_all.new.self) (body_of c.args.key c.serve_line.new.self) _ _ _ _ c.in_ok-take_all.ensures.carries c.serve_line.ensures.moves c.serve_line.ensures.kept
    (ok_more c.serve_line.result _ _ (λ g. g.go (reached_on (Application c.args.key) _ _ c.in_ok-take_all.ensures.goes reached) c.args.key) c.serve_line.ensures.goes_on) (relay_tied c.args.key c.serve_line.new.self)

pub returns-clause-names : goal.returns-clause-names
returns-clause-names c = names_on c.serve_line.result (names_in c.args.self.now.applications) c.take_all.new.self.applications c.serve_line.new.self.applications c.in_ok-take_all.ensures.names c.serve_line.ensures.kept

pub returns-clause-few : goal.returns-clause-few
returns-clause-few c = few_behind c.serve_line.result _ _ _ _ _ (most_kept _ _ (c.in_ok-take_all.ensures.closes.told)) (none_stays _ _ c.in_ok-take_all.ensures.read) c.serve_line.ensures.few

pub returns-clause-closes : goal.returns-clause-closes
returns-clause-closes c =
    let all = ForReasonOrWaiting c.args.key c.args.piece.now c.args.self.now in
    let taken : IsTakenTo c.args.key c.args.piece.now [] c.args.self.now c.take_all.new.self =
    record {
      carries = c.in_ok-take_all.ensures.carries;
      heeds = c.in_ok-take_all.ensures.cancels;
      stays = c.in_ok-take_all.ensures.read;
      aside = λ reached. c.in_ok-take_all.ensures.aside reached;
      right = λ right. c.in_ok-take_all.ensures.right right;
    } in
    closes_with c.serve_line.result (IsLentInVain c.take_all.new.self) all _ _ _ (lent_behind c.args.key c.args.piece.now c.args.self.now c.take_all.new.self taken c.in_ok-take_all.ensures.goes) c.serve_line.ensures.vain
    (closes_more _ all _ _ (λ other x. inl x) c.in_ok-take_all.ensures.closes)

pub returns-clause-seated : goal.returns-clause-seated
returns-clause-seated c = λ s. c.serve_line.ensures.seated (c.in_ok-take_all.ensures.seated s)

pub returns-clause-goes : goal.returns-clause-goes
returns-clause-goes c = ok_more c.serve_line.result _ _ (λ g from h. g (Application c.args.key) from (c.in_ok-take_all.ensures.goes from h)) c.serve_line.ensures.goes

pub returns-clause-others : goal.returns-clause-others
returns-clause-others c = others_served c.serve_line.result c.args.key c.args.self.now c.take_all.new.self c.serve_line.new.self c.in_ok-take_all.ensures.goes c.in_ok-take_all.ensures.others c.serve_line.ensures.goes_on

pub returns-clause-opening : goal.returns-clause-opening
returns-clause-opening c = opens_new_on c.serve_line.result c.args.self.now c.take_all.new.self c.serve_line.new.self (opens_same c.args.self.now c.take_all.new.self c.take_all.ensures.opening (goes_last (Application c.args.key) (pool_in c.args.self.now.pool) (pool_in c.take_all.new.self.pool) c.in_ok-take_all.ensures.goes)) c.serve_line.ensures.opening

pub returns-clause-many : goal.returns-clause-many
returns-clause-many c = grows_on c.serve_line.result c.args.self.now c.take_all.new.self c.serve_line.new.self (grows_stays c.args.self.now c.take_all.new.self c.take_all.ensures.opening c.in_ok-take_all.ensures.read) c.serve_line.ensures.many

pub returns-clause-puts : goal.returns-clause-puts
returns-clause-puts c = λ reached.
    said_puts c.serve_line.result c.args.key c.args.self.now c.take_all.new.self c.serve_line.new.self reached c.in_ok-take_all.ensures.goes (c.in_ok-take_all.ensures.aside reached)
    (c.serve_line.ensures.fills (reached_on (Application c.args.key) _ _ c.in_ok-take_all.ensures.goes reached))

pub returns-clause-cancels : goal.returns-clause-cancels
returns-clause-cancels c = λ reached.
    let led = reached_on (Application c.args.key) _ _ c.in_ok-take_all.ensures.goes reached in
    cancels_served c.serve_line.result c.args.key c.args.self.now.pool.service.last (machine_in c.args.self.now) c.args.piece.now (standing_in c.args.key c.args.self.now) c.take_all.new.self c.serve_line.new.self c.in_ok-take_all.ensures.cancels
    c.serve_line.ensures.moves c.serve_line.ensures.kept (ok_more c.serve_line.result _ _ (λ g. g.go led c.args.key) c.serve_line.ensures.goes_on) (c.serve_line.ensures.aside led)
    (goes_last (Application c.args.key) (pool_in c.args.self.now.pool) (pool_in c.take_all.new.self.pool) c.in_ok-take_all.ensures.goes) c.serve_line.ensures.given (c.serve_line.ensures.fills led)

pub returns-clause-given : goal.returns-clause-given
returns-clause-given c = given_served c.serve_line.result c.args.self.now c.take_all.new.self c.serve_line.new.self c.in_ok-take_all.ensures.read (goes_last (Application c.args.key) (pool_in c.args.self.now.pool) (pool_in c.take_all.new.self.pool) c.in_ok-take_all.ensures.goes) c.serve_line.ensures.given

pub returns-clause-fresh : goal.returns-clause-fresh
returns-clause-fresh c =
    new_served c.serve_line.result c.args.self.now.size c.take_all.new.self.size c.args.self.now.features c.take_all.new.self.features c.args.self.now.links.items c.take_all.new.self.links.items c.serve_line.new.self.links.items (size_kept _ _ c.in_ok-take_all.ensures.closes.told) (features_kept _ _ c.in_ok-take_all.ensures.closes.told)
    c.in_ok-take_all.ensures.read c.serve_line.ensures.fresh

pub returns-clause-anew : goal.returns-clause-anew
returns-clause-anew c = λ reached.
    let by = Application c.args.key in
    let led = reached_on by _ _ c.in_ok-take_all.ensures.goes reached in
    anew_on c.serve_line.result by by c.args.self.now c.take_all.new.self c.serve_line.new.self reached led c.in_ok-take_all.ensures.goes (ok_more c.serve_line.result _ _ (λ g. g by) c.serve_line.ensures.goes)
    (c.in_ok-take_all.ensures.anew reached) (c.serve_line.ensures.anew led)

pub returns-clause-clients : goal.returns-clause-clients
returns-clause-clients c = λ reached.
    let key = c.args.key in
    let old = c.args.self.now in
    let mid = c.take_all.new.self in
    clients_served c.serve_line.result (Itself key) old mid c.serve_line.new.self (clients_others key old mid (c.in_ok-take_all.ensures.others reached))
    (λ other differs there. waited (Application key) (pool_in old.pool) (pool_in mid.pool) other (λ same. differs (sym same)) c.in_ok-take_all.ensures.goes there)
    (c.serve_line.ensures.aside (reached_on (Application key) _ _ c.in_ok-take_all.ensures.goes reached))

pub returns-clause-awaits : goal.returns-clause-awaits
returns-clause-awaits c =
    let old = c.args.self.now in
    let mid = c.take_all.new.self in
    tend_on c.serve_line.result old mid c.serve_line.new.self (reached_on (Application c.args.key) _ _ c.in_ok-take_all.ensures.goes) c.in_ok-take_all.ensures.awaits
    (tend_line c.serve_line.result mid c.serve_line.new.self c.serve_line.ensures.goes c.serve_line.ensures.fills)

pub returns-clause-behind : goal.returns-clause-behind
returns-clause-behind c = λ reached sharing led.
    let key = c.args.key in
    let old = c.args.self.now in
    let mid = c.take_all.new.self in
    let taken : IsTakenTo key c.args.piece.now [] old mid =
    record {
      carries = c.in_ok-take_all.ensures.carries;
      heeds = c.in_ok-take_all.ensures.cancels;
      stays = c.in_ok-take_all.ensures.read;
      aside = λ r. c.in_ok-take_all.ensures.aside r;
      right = λ right. c.in_ok-take_all.ensures.right right;
    } in
    let there = led_on sharing (Application key) (machine_in old) (machine_in mid) (tells_steps key _ _ _ _ c.in_ok-take_all.ensures.tells) led in
    saying_on c.serve_line.result sharing key c.args.piece.now old mid c.serve_line.new.self there (goes_last (Application key) (pool_in old.pool) (pool_in mid.pool) c.in_ok-take_all.ensures.goes) taken (c.in_ok-take_all.ensures.others reached)
    (c.in_ok-take_all.ensures.aside reached) (λ other differs there. waited (Application key) (pool_in old.pool) (pool_in mid.pool) other (λ same. differs (sym same)) c.in_ok-take_all.ensures.goes there)
    (c.serve_line.ensures.behind (reached_on (Application key) _ _ c.in_ok-take_all.ensures.goes reached) sharing there)
