use Rattle.tds_relay.specs.Fronts.{machine_in, core_in}
use Rattle.tds_relay.specs.Ties.{Connection, pool_in, Neither}
use Rattle.tds_relay.proofs.steps.Stepping.{led_on, steps_on_ok}
use Rattle.tds_relay.proofs.bytes.Streaming.{comes, streams_steps}
use Rattle.tds_relay.proofs.steps.Faults.{refused_served}
use Rattle.tds_relay.proofs.steps.Staying.{others_served}
use Rattle.tds_relay.specs.Queues.{names_in, queues_in}
use Rattle.tds_relay.proofs.steps.Renaming.{names_on}
use Rattle.tds_relay.proofs.spared.Coming.{along_on, go_along}
use Rattle.tds_relay.proofs.spared.Ordered.{ordered_on}
use Rattle.tds_relay.proofs.spared.Waking.{wakes_on}
use Rattle.tds_relay.proofs.steps.Reaching.{ok_more, reached_on}
use Rattle.tds_relay.proofs.steps.Told.{deaf_led_on}
use Rattle.tds_relay.specs.Closings.{IsWaiting, register_in}
use Rattle.tds_relay.specs.Waiting.{HeardFor, InLine, IsLentInVain}
use Rattle.tds_relay.proofs.spared.Closings.{closes_done_on}
use Rattle.tds_relay.proofs.spared.Few.{few_behind, most_kept}
use Rattle.tds_relay.proofs.spared.Only.{only_on}
use Rattle.tds_relay.proofs.bytes.SetAnew.{comes_anew}
use Rattle.tds_relay.proofs.spared.Opening.{goes_last, opens_new_on, opens_same, grows_few, grows_on}
use Rattle.tds_relay.proofs.spared.Off.{served_off}
use Rattle.tds_relay.proofs.spared.Counted.{lost_served}
use Rattle.std.proofs.Common.{◌≡◌, ◌∙◌, None, Some, sym}
use Rattle.tds_relay.proofs.lending.Clients.{clients_off}
use Rattle.tds_relay.proofs.lending.Drained.{served_alone}
use Rattle.tds_relay.specs.Reads.{waits_on}
use Rattle.tds_relay.proofs.lending.Behind.{since_on}
use Rattle.tds_relay.proofs.lending.Firsts.{came_puts}
use Rattle.tds_relay.proofs.lending.Dialled.{hears_served}
use Rattle.tds_relay.proofs.lending.Fresh.{features_kept, new_behind, size_kept}
use Rattle.tds_relay.proofs.lending.Stilled.{still_served}
use Rattle.tds_relay.proofs.bytes.Telling.{comes_told}
use Rattle.tds_relay.proofs.lending.Tending.{tend_line, tend_on}
use Rattle.tds_relay.proofs.bytes.Calls.{size_on}
use Rattle.tds_relay.proofs.lending.Quiet.{came_rests}
use Rattle.tds_relay.proofs.relay.Relay.came.Goals as goal

pub returns-clause-steps : goal.returns-clause-steps
returns-clause-steps c =
    steps_on_ok c.serve_line.result (Connection c.args.number) (machine_in c.args.self.now) _ _ _ _
    (streams_steps c.args.number _ _ _ _ _ _ _ _ c.in_ok-hear_all.ensures.streams.streams) c.serve_line.ensures.moves c.serve_line.ensures.kept

pub returns-clause-comes : goal.returns-clause-comes
returns-clause-comes c =
    comes c.serve_line.result c.args.number _ _ _ _ _ _ _ _ _ _ c.hear_all.new.self.links.items _ c.in_ok-hear_all.ensures.streams c.serve_line.ensures.moves
    c.serve_line.ensures.kept c.serve_line.ensures.opens c.serve_line.ensures.stand

pub returns-clause-others : goal.returns-clause-others
returns-clause-others c = others_served c.serve_line.result c.args.number _ _ _ c.in_ok-hear_all.ensures.others c.serve_line.ensures.opens

pub returns-clause-names : goal.returns-clause-names
returns-clause-names c = names_on c.serve_line.result (names_in c.args.self.now.applications) c.hear_all.new.self.applications c.serve_line.new.self.applications c.in_ok-hear_all.ensures.names c.serve_line.ensures.kept

pub returns-clause-bodies : goal.returns-clause-bodies
returns-clause-bodies c = λ reached.
    along_on c.serve_line.result c.args.self.now c.hear_all.new.self c.serve_line.new.self (c.in_ok-hear_all.ensures.bodies reached)
    (go_along c.serve_line.result c.hear_all.new.self c.serve_line.new.self (reached_on (Connection c.args.number) _ _ c.in_ok-hear_all.ensures.goes reached) c.serve_line.ensures.goes_on)

pub returns-clause-ordered : goal.returns-clause-ordered
returns-clause-ordered c = ordered_on c.serve_line.result _ _ _ c.serve_line.ensures.ordered c.in_ok-hear_all.ensures.ordered

pub returns-clause-wakes : goal.returns-clause-wakes
returns-clause-wakes c =
    wakes_on c.serve_line.result (queues_in c.args.self.now.applications) c.hear_all.new.self.applications c.serve_line.new.self.applications _ _ c.in_ok-hear_all.ensures.wakes c.serve_line.ensures.kept c.serve_line.ensures.ordered
    (λ key d. deaf_led_on c.serve_line.result Neither key (core_in c.hear_all.new.self) (core_in c.serve_line.new.self) (ok_more c.serve_line.result _ _ (λ m. m Neither) c.serve_line.ensures.moves) d)

pub returns-clause-closes : goal.returns-clause-closes
returns-clause-closes c =
    closes_done_on c.serve_line.result (IsLentInVain c.hear_all.new.self) (HeardFor c.args.number c.args.piece.now c.args.self.now) (register_in c.args.self.now) (register_in c.hear_all.new.self) (register_in c.serve_line.new.self)
    (λ key lent seated. InLine c.hear_all.new.self c.in_ok-hear_all.ensures.streams
    (record {
      opens = c.in_ok-hear_all.ensures.others;
      goes = c.in_ok-hear_all.ensures.apart;
      keeps = c.in_ok-hear_all.ensures.keeps seated.reached;
      cleans = c.in_ok-hear_all.ensures.cleans seated.reached;
      rests = c.in_ok-hear_all.ensures.rests seated;
    })
    lent) c.serve_line.ensures.vain c.serve_line.ensures.kept c.in_ok-hear_all.ensures.closes

pub returns-clause-few : goal.returns-clause-few
returns-clause-few c = few_behind c.serve_line.result _ _ _ _ _ (most_kept _ _ (c.in_ok-hear_all.ensures.closes.told)) (c.in_ok-hear_all.ensures.none) c.serve_line.ensures.few

pub returns-clause-refused : goal.returns-clause-refused
returns-clause-refused c =
    refused_served c.serve_line.result c.args.number (IsWaiting (pool_in c.hear_all.new.self.pool).line) c.args.self.now.refused (register_in c.hear_all.new.self) (register_in c.serve_line.new.self)
    c.in_ok-hear_all.ensures.refused c.serve_line.ensures.closes

pub returns-clause-only : goal.returns-clause-only
returns-clause-only c = λ reached.
    only_on c.serve_line.result c.args.number (core_in c.args.self.now) (core_in c.hear_all.new.self) (core_in c.serve_line.new.self) (c.in_ok-hear_all.ensures.spares reached) c.serve_line.ensures.apart

pub returns-clause-anew : goal.returns-clause-anew
returns-clause-anew c =
    comes_anew c.serve_line.result c.args.number c.args.piece.now c.args.self.now c.hear_all.new.self c.serve_line.new.self c.in_ok-hear_all.ensures.anew c.serve_line.ensures.moves c.serve_line.ensures.kept
    c.serve_line.ensures.opens c.serve_line.ensures.stand (reached_on (Connection c.args.number) _ _ c.in_ok-hear_all.ensures.goes) c.serve_line.ensures.fills

pub returns-clause-seated : goal.returns-clause-seated
returns-clause-seated c = λ s. c.serve_line.ensures.seated (c.in_ok-hear_all.ensures.seated s)

pub returns-clause-opening : goal.returns-clause-opening
returns-clause-opening c = opens_new_on c.serve_line.result c.args.self.now c.hear_all.new.self c.serve_line.new.self (opens_same c.args.self.now c.hear_all.new.self c.hear_all.ensures.opening (goes_last (Connection c.args.number) (pool_in c.args.self.now.pool) (pool_in c.hear_all.new.self.pool) c.in_ok-hear_all.ensures.goes)) c.serve_line.ensures.opening

pub returns-clause-apart : goal.returns-clause-apart
returns-clause-apart c = served_off c.serve_line.result c.args.number c.args.self.now c.hear_all.new.self c.serve_line.new.self c.in_ok-hear_all.ensures.goes c.in_ok-hear_all.ensures.apart c.in_ok-hear_all.ensures.spares c.serve_line.ensures.goes_on c.serve_line.ensures.aside

pub returns-clause-many : goal.returns-clause-many
returns-clause-many c = grows_on c.serve_line.result c.args.self.now c.hear_all.new.self c.serve_line.new.self (grows_few c.args.self.now c.hear_all.new.self c.hear_all.ensures.opening c.in_ok-hear_all.ensures.many) c.serve_line.ensures.many

pub returns-clause-counts : goal.returns-clause-counts
returns-clause-counts c = lost_served c.serve_line.result c.args.number c.args.self.now c.hear_all.new.self c.serve_line.new.self c.serve_line.ensures.opens c.serve_line.ensures.counts c.in_ok-hear_all.ensures.counts

pub returns-clause-goes : goal.returns-clause-goes
returns-clause-goes c = ok_more c.serve_line.result _ _ (λ g from h. g (Connection c.args.number) from (c.in_ok-hear_all.ensures.goes from h)) c.serve_line.ensures.goes

pub returns-clause-cleans : goal.returns-clause-cleans
returns-clause-cleans c = λ reached free.
    served_alone c.serve_line.result c.args.number c.args.self.now.pool.service.given (waits_on c.args.number c.args.self.now.links.items) c.hear_all.new.self c.serve_line.new.self
    (reached_on (Connection c.args.number) _ _ c.in_ok-hear_all.ensures.goes reached) c.serve_line.ensures.goes (c.in_ok-hear_all.ensures.cleans reached free)
    (λ key. (c.in_ok-hear_all.ensures.spares reached key (λ e. let u : None ≡ Some key = e in let v : ⊥ = cc in v) (λ e. let u : None ≡ Some key = sym free ∙ e in let v : ⊥ = cc in v)).0)
    c.serve_line.ensures.opens (c.serve_line.ensures.fills (reached_on (Connection c.args.number) _ _ c.in_ok-hear_all.ensures.goes reached))

pub returns-clause-puts : goal.returns-clause-puts
returns-clause-puts c = λ reached.
    came_puts c.serve_line.result c.args.number c.args.self.now c.hear_all.new.self c.serve_line.new.self reached (c.in_ok-hear_all.ensures.spares reached) (c.in_ok-hear_all.ensures.keeps reached)
    (c.serve_line.ensures.fills (reached_on (Connection c.args.number) _ _ c.in_ok-hear_all.ensures.goes reached))

pub returns-clause-given : goal.returns-clause-given
returns-clause-given c = hears_served c.serve_line.result c.args.number c.args.self.now c.hear_all.new.self c.serve_line.new.self c.in_ok-hear_all.ensures.given (goes_last (Connection c.args.number) (pool_in c.args.self.now.pool) (pool_in c.hear_all.new.self.pool) c.in_ok-hear_all.ensures.goes) c.serve_line.ensures.given

pub returns-clause-fresh : goal.returns-clause-fresh
returns-clause-fresh c =
    new_behind c.serve_line.result c.args.self.now.size c.hear_all.new.self.size c.args.self.now.features c.hear_all.new.self.features c.args.self.now.links.items c.hear_all.new.self.links.items c.serve_line.new.self.links.items (size_kept _ _ c.in_ok-hear_all.ensures.closes.told) (features_kept _ _ c.in_ok-hear_all.ensures.closes.told)
    c.in_ok-hear_all.ensures.none c.serve_line.ensures.fresh

pub returns-clause-still : goal.returns-clause-still
returns-clause-still c =
    still_served c.serve_line.result c.args.number c.args.self.now c.hear_all.new.self c.serve_line.new.self c.in_ok-hear_all.ensures.given c.in_ok-hear_all.ensures.still
    (goes_last (Connection c.args.number) (pool_in c.args.self.now.pool) (pool_in c.hear_all.new.self.pool) c.in_ok-hear_all.ensures.goes) c.serve_line.ensures.still

pub returns-clause-told : goal.returns-clause-told
returns-clause-told c =
    comes_told c.serve_line.result c.args.number c.args.piece.now c.args.self.now c.hear_all.new.self c.serve_line.new.self c.in_ok-hear_all.ensures.told c.serve_line.ensures.moves c.serve_line.ensures.kept
    c.serve_line.ensures.opens c.serve_line.ensures.stand c.serve_line.ensures.asks

pub returns-clause-clients : goal.returns-clause-clients
returns-clause-clients c = λ reached. clients_off c.serve_line.result c.args.number c.args.self.now c.serve_line.new.self reached (returns-clause-apart c)

pub returns-clause-awaits : goal.returns-clause-awaits
returns-clause-awaits c =
    tend_on c.serve_line.result c.args.self.now c.hear_all.new.self c.serve_line.new.self (reached_on (Connection c.args.number) _ _ c.in_ok-hear_all.ensures.goes) c.in_ok-hear_all.ensures.awaits
    (tend_line c.serve_line.result c.hear_all.new.self c.serve_line.new.self c.serve_line.ensures.goes c.serve_line.ensures.fills)

pub returns-clause-rests : goal.returns-clause-rests
returns-clause-rests c = λ seated.
    let there = reached_on (Connection c.args.number) _ _ c.in_ok-hear_all.ensures.goes seated.reached in
    came_rests c.serve_line.result c.args.number c.args.self.now c.hear_all.new.self c.serve_line.new.self seated.reached c.in_ok-hear_all.ensures.goes (c.in_ok-hear_all.ensures.rests seated) c.serve_line.ensures.goes
    (c.serve_line.ensures.aside there) c.serve_line.ensures.asks (c.serve_line.ensures.fills there)

pub returns-clause-sizes : goal.returns-clause-sizes
returns-clause-sizes c = size_on c.serve_line.result c.args.self.now.pool.service c.hear_all.new.self.pool.service c.serve_line.new.self.pool.service c.in_ok-hear_all.ensures.streams.streams.walks.sized c.serve_line.ensures.stand

pub returns-clause-behind : goal.returns-clause-behind
returns-clause-behind c = λ reached sharing led.
    let number = c.args.number in
    let old = c.args.self.now in
    let mid = c.hear_all.new.self in
    let here = reached_on (Connection number) _ _ c.in_ok-hear_all.ensures.goes reached in
    let there = led_on sharing (Connection number) (machine_in old) (machine_in mid) (streams_steps number _ _ _ _ _ _ _ _ c.in_ok-hear_all.ensures.streams.streams) led in
    since_on c.serve_line.result sharing number old mid c.serve_line.new.self there here (goes_last (Connection number) (pool_in old.pool) (pool_in mid.pool) c.in_ok-hear_all.ensures.goes) (c.in_ok-hear_all.ensures.spares reached)
    (c.in_ok-hear_all.ensures.cleans reached) (c.in_ok-hear_all.ensures.bodies reached) c.serve_line.ensures.goes (c.serve_line.ensures.behind here sharing there) (c.in_ok-hear_all.ensures.keeps reached)
