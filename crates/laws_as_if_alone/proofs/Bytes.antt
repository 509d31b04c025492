-- What is given along a visit's steps is the tokens of the bytes that come.
use Rattle.std.proofs.Common.{◌≡◌, ◌∙◌, ℕ, Bool, true, false, List, [], ◌∷◌, ◌++◌, refl, sym, ap, subst, append_assoc}
use Rattle.std.specs.Prelude.{Option, Some, None}
use Rattle.tds_packet.specs.declared.header.Header.{Header}
use Rattle.tds_listen.specs.Hearing.{tokens_in}
use Rattle.tds_wire.specs.declared.told.Token.{Token}
use Rattle.tds_wire.specs.Reading.{Parser}
use Rattle.tds_service.specs.Packets.{items_from}
use Rattle.tds_service.specs.Parts.{Item, Part}
use Rattle.tds_service.specs.Service.{Seat, lease_at, seat_numbered}
use Rattle.tds_relay.specs.Law.{done_since}
use Rattle.tds_relay.specs.Behind.{events_along}
use Rattle.tds_relay.specs.Pool as pool
use Rattle.tds_relay.specs.Pool.{Pool, Event, Sharing, pool_after, new_pool, turn, whose, whose_by}
use Rattle.tds_relay.specs.Giving.{ReadVisit, Visit, machine_at_visit, moves_in}
use Rattle.tds_relay.specs.Core as core
use Rattle.tds_relay.specs.Core.{Core, Move, IsQuiet, MayDoAlone, MayMove, end_at, event_if, events_of, moved, stops_of}
use Rattle.tds_relay.specs.Machine.{Machine, Step, Makes, Hands, Takes, Writes, Admits, Removes, MayAll, after, after_all, new_machine}
use Rattle.tds_relay.specs.TokenParsers.{AreRead, IsReadBy, stands_behind, stands_by}
use Rattle.tds_relay.proofs.visits.Absent.{pool_is}
use Rattle.tds_relay.proofs.visits.Stays.{came}
use Rattle.laws_as_if_alone.specs.Alone.{AsIfAlone, given, given_at, given_in, heard_of, if_its, line_of, underway, unless_wrong}
use Rattle.laws_as_if_alone.specs.Bytes.{AllRead, ReadAsIfAlone, TokenParsers, read_all, read_in, parsers_behind, parsers_in}
use Rattle.laws_as_if_alone.specs.Serving.{Moment, Server, World, fresh, happens, new_world, world_after}
use Rattle.laws_as_if_alone.specs.Visits.{Moments, events_in, world_in}
use Rattle.laws_as_if_alone.proofs.Visits.{pool_along}

-- ---- What is given, by events alone

abbrev along : ℕ → Pool → List Event → List (Item Token)
along key d [] = []
along key d (event ∷ events) = given_in key d event ++ along key (turn d event).pool events

given_along : {V : Type 0} (key : ℕ) (server : Server V) (w : World V) (ms : List (Moment V)) → given turn key server w ms ≡ along key w.pool (events_in ms)
given_along key server w [] = refl
given_along key server w (m ∷ ms) = ap (λ (xs : List (Item Token)). given_in key w.pool m.event ++ xs) (given_along key server (happens turn server w m) ms)

along_both : (key : ℕ) (d : Pool) (xs ys : List Event) → along key d (xs ++ ys) ≡ along key d xs ++ along key (pool_after d xs) ys
along_both key d [] ys = refl
along_both key d (x ∷ xs) ys =
    ap (λ (items : List (Item Token)). given_in key d x ++ items) (along_both key (turn d x).pool xs ys)
    ∙ sym (append_assoc (given_in key d x) (along key (turn d x).pool xs) (along key (pool_after (turn d x).pool xs) ys))

-- ---- Step by step

quiet_event : (key : ℕ) (h : Core) (event : Event) → MayDoAlone h event → given_in key h.pool event ≡ []
quiet_event key h (pool.Waits k) may = refl
quiet_event key h (pool.Unwaits k) may = refl
quiet_event key h pool.Serves may = refl
quiet_event key h (pool.Brings gives way) may = refl
quiet_event key h (pool.Does k action) may = refl
quiet_event key h (pool.Leaves k gives way) may = refl
quiet_event key h (pool.Renews k resumes) may = refl
quiet_event key h (pool.Comes number part way) may = absurd may
quiet_event key h (pool.Loses number) may = refl

nothing_by : (key : ℕ) (h : Core) (move : Move) → MayMove h move → IsQuiet move → along key h.pool (events_of h move) ≡ []
nothing_by key h (core.Does event) may quiet = ap (λ (xs : List (Item Token)). xs ++ []) (quiet_event key h event may)
nothing_by key h (core.Sends k action) may quiet = refl
nothing_by key h (core.LetsGo k parks gives way) may quiet = refl
nothing_by key h (core.Loses number) may quiet = refl
nothing_by key h (core.Replaces number) may quiet = refl
nothing_by key h (core.Comes number part way) may quiet = absurd quiet
nothing_by key h (core.Feeds k bytes) may quiet = absurd quiet
nothing_by key h (core.Closes k) may quiet = refl
nothing_by key h (core.Enters k ends) may quiet = absurd quiet
nothing_by key h (core.Quits k gives way) may quiet = absurd quiet

stops_nothing : (key k : ℕ) (d : Pool) (b : Bool) → along key d (event_if b (pool.Does k pool.Stops)) ≡ []
stops_nothing key k d true = refl
stops_nothing key k d false = refl

-- a packet
abbrev told_in : ℕ → Pool → ℕ → Part Token → List (Item Token) → List (Item Token)
told_in key d number part items = if_its key (whose d number) (unless_wrong (heard_of (line_of d number) part) (given_at (line_of d number).stage items) [])

its_items : (key : ℕ) (d : Pool) (number : ℕ) (r : Parser) (header : Header) (content : List ℕ) (part : Part Token) (o : Option Seat) → seat_numbered number d.service.seats ≡ o → IsReadBy o r header content part
    → told_in key d number part (items_from (tokens_in r content).tokens) ≡ told_in key d number part part.items
its_items key d number r header content part None e is =
    let nobody : whose d number ≡ None = ap (λ (o : Option Seat). whose_by (lease_at o) d.holds) e in
    rw nobody refl
its_items key d number r header content part (Some c) e is = ap (λ (p : Part Token). told_in key d number part p.items) (sym is)

append_none : (xs : List (Item Token)) → xs ++ [] ≡ xs
append_none [] = refl
append_none (x ∷ xs) = ap (λ (ys : List (Item Token)). x ∷ ys) (append_none xs)

-- one move, and then the others
next_move : (key : ℕ) (h : Core) (move : Move) (moves : List Move) (first others : List (Item Token)) → first ≡ along key h.pool (events_of h move)
    → others ≡ along key (moved h move).pool (events_along (moved h move) moves) → first ++ others ≡ along key h.pool (events_along h (move ∷ moves))
next_move key h move moves first others one rest =
    ap (λ (xs : List (Item Token)). xs ++ others) one
    ∙ ap (λ (xs : List (Item Token)). along key h.pool (events_of h move) ++ xs) rest
    ∙ sym (along_both key h.pool (events_of h move) (events_along (moved h move) moves))

all_read : (key : ℕ) (at : TokenParsers) (h : Machine) (steps : List Step) → MayAll h steps → AllRead at h steps → read_all key at h steps ≡ along key h.core.pool (events_along h.core (moves_in steps))
all_read key at h [] may reads = refl
all_read key at h (Makes move ∷ steps) may reads =
    next_move key h.core move (moves_in steps) [] _ (sym (nothing_by key h.core move may.0.0 may.0.1)) (all_read key (parsers_behind at h (Makes move)) (after h (Makes move)) steps may.1 (λ n. (reads n).1))
all_read key at h (Hands number header content part way manner ∷ steps) may reads =
    let step = Hands number header content part way manner in
    let d = h.core.pool in
    let one : read_in key at h step ≡ given_in key d (pool.Comes number part way) =
    its_items key d number (at number) header content part (seat_numbered number d.service.seats) refl ((reads number).0 refl) in
    next_move key h.core (core.Comes number part way) (moves_in steps) (read_in key at h step) _ (one ∙ sym (append_none (given_in key d (pool.Comes number part way))))
    (all_read key (parsers_behind at h step) (after h step) steps may.1 (λ n. (reads n).1))
all_read key at h (Takes k bytes ∷ steps) may reads =
    next_move key h.core (core.Feeds k bytes) (moves_in steps) [] _ (sym (stops_nothing key k h.core.pool (stops_of bytes (end_at h.core.ends k))))
    (all_read key (parsers_behind at h (Takes k bytes)) (after h (Takes k bytes)) steps may.1 (λ n. (reads n).1))
all_read key at h (Writes k count ∷ steps) may reads =
    all_read key (parsers_behind at h (Writes k count)) (after h (Writes k count)) steps may.1 (λ n. (reads n).1)
all_read key at h (Admits k ends queues ∷ steps) may reads =
    next_move key h.core (core.Enters k ends) (moves_in steps) [] _ refl (all_read key (parsers_behind at h (Admits k ends queues)) (after h (Admits k ends queues)) steps may.1 (λ n. (reads n).1))
all_read key at h (Removes k gives way ∷ steps) may reads =
    next_move key h.core (core.Quits k gives way) (moves_in steps) [] _ refl (all_read key (parsers_behind at h (Removes k gives way)) (after h (Removes k gives way)) steps may.1 (λ n. (reads n).1))

-- ---- In a visit

pool_in_world : {V : Type 0} (server : Server V) (sharing : Sharing) (key : ℕ) (v : Visit sharing key) (ms : Moments V v) → (machine_at_visit v).core.pool ≡ (world_in server ms).pool
pool_in_world server sharing key v ms =
    pool_is sharing key v ∙ sym (pool_along server (new_world server sharing) ms.before ∙ ap (pool_after (new_pool sharing)) ms.before_is)

-- what is read behind the first steps
read_later : (n : ℕ) (r : Parser) (h : Machine) (xs ys : List Step) → AreRead n r h (xs ++ ys) → AreRead n (stands_behind n r h xs) (after_all h xs) ys
read_later n r h [] ys reads = reads
read_later n r h (x ∷ xs) ys reads = read_later n (stands_by n r h x) (after h x) xs ys reads.1

pub read_since : (sharing : Sharing) (key : ℕ) (v : ReadVisit sharing key) → AllRead (parsers_in v) (machine_at_visit v.visit) v.visit.since
read_since sharing key v n =
    let r = (v.read n).0 in
    let enters : List Step = Admits key v.visit.ends v.visit.queues ∷ [] in
    let all : AreRead n r (new_machine sharing) ((v.visit.before ++ enters) ++ v.visit.since) =
    subst (λ (steps : List Step). AreRead n r (new_machine sharing) steps) (sym (append_assoc v.visit.before enters v.visit.since)) (v.read n).2 in
    read_later n r (new_machine sharing) (v.visit.before ++ enters) v.visit.since all

pub alone_in_bytes : {V : Type 0} (server : Server V) (sharing : Sharing) (key : ℕ) (v : Visit sharing key) (ms : Moments V v) (at : TokenParsers) → AllRead at (machine_at_visit v) v.since
    → AsIfAlone turn key server (fresh server) (world_in server ms) ms.since (world_after turn server (world_in server ms) ms.since)
    → ReadAsIfAlone turn server (fresh server) at v (world_in server ms) ms.since (world_after turn server (world_in server ms) ms.since)
alone_in_bytes server sharing key v ms at reads alone =
    let w = world_in server ms in
    let behind = world_after turn server w ms.since in
    let is : read_all key at (machine_at_visit v) v.since ≡ given turn key server w ms.since =
    all_read key at (machine_at_visit v) v.since (came sharing key v).may_since reads
    ∙ ap (λ (d : Pool). along key d (done_since v)) (pool_in_world server sharing key v ms)
    ∙ ap (λ (es : List Event). along key w.pool es) (sym ms.since_is)
    ∙ sym (given_along key server w ms.since) in
    ap (λ (xs : List (Item Token)). xs ++ underway key behind) is ∙ alone
