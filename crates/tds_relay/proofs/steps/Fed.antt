-- Bytes of an application, and what is taken back by them.
use Rattle.std.proofs.Common.{◌≡◌, ◌∙◌, ◌||◌, ℕ, Bool, true, false, List, Option, Some, None, drop, refl, sym, ap, subst, slice_set, option_map, if◌then◌else◌}
use Rattle.std.proofs.lemmas.List.{map-set}
use Rattle.std.specs.Prelude.{Result, Ok, Err}
use Rattle.slab.specs.Slab.{Slab, get, with_value}
use Rattle.tds_packet.specs.declared.status.Reset.{Reset}
use Rattle.tds_front.specs.declared.fault.FrontFault.{FrontFault}
use Rattle.tds_front.specs.declared.front.Fed.{Fed}
use Rattle.tds_front.specs.declared.front.Front.{Front}
use Rattle.tds_front.specs.declared.front.Said.{Said}
use Rattle.tds_front.specs.declared.front.Said.TheVariants as said
use Rattle.tds_front.specs.Bytes.{fed}
use Rattle.tds_front.specs.Rules as rules
use Rattle.tds_relay.specs.declared.application.Application.{Application}
use Rattle.tds_relay.specs.Pool as pool
use Rattle.tds_relay.specs.Pool.{Pool, Event, pool_after, turn}
use Rattle.tds_relay.specs.Fronts.{IsFed, own_end, ends_in, given_by, core_of_ends, withdraws}
use Rattle.tds_relay.specs.Core.{End, EndList, Feeds, IsOpenEnd, Open, Over, end_acknowledged, asks_by, change_end, closes, closes_for, end_at, end_behind, event_if, feeds, hands_on, end_hears, moved, stops_by, stops_of, takes_back}
use Rattle.tds_relay.specs.Machine.{owed, owed_by, put_some}
use Rattle.tds_relay.specs.Queues.{Queues, change}
use Rattle.tds_relay.specs.Ties.{Turns}
use Rattle.tds_relay.specs.Taking.{count_by, bytes_left_by}
use Rattle.tds_relay.proofs.steps.Fronts.{changed_both, end_is, same_core}
use Rattle.tds_relay.proofs.steps.Handed.{nothing_put}
use Rattle.tds_relay.specs.Places.{is_closed, own_fault, own_reset, took_back}

-- ---- The move

-- what bytes lead to, of which this was said
end_fed : (bytes : List ℕ) (front : Front) (withdrawn : Bool) (asks : Option Reset) (o : Option End) (count : ℕ) (answer : Said) → o ≡ Some (Open front withdrawn asks)
    → (fed front bytes).brings ≡ Ok (record { count = count; said = answer }) → option_map (feeds bytes) o ≡ Some (Open (fed front bytes).front (takes_back answer || withdrawn) (asks_by answer asks))
end_fed bytes front withdrawn asks o count answer was says =
    ap (option_map (feeds bytes)) was ∙ ap (λ (r : Result Fed FrontFault). Some (end_behind (fed front bytes).front withdrawn asks r)) says

stops_fed : (bytes : List ℕ) (front : Front) (withdrawn : Bool) (asks : Option Reset) (o : Option End) (count : ℕ) (answer : Said) → o ≡ Some (Open front withdrawn asks)
    → (fed front bytes).brings ≡ Ok (record { count = count; said = answer }) → stops_of bytes o ≡ (takes_back answer || hands_on answer)
stops_fed bytes front withdrawn asks o count answer was says = ap (stops_of bytes) was ∙ ap stops_by says

-- what it is given by them
given_is : (key count : ℕ) (answer : Said) (queues : Queues) → change key (put_some (owed_by (Ok (record { count = count; said = answer })))) queues ≡ given_by key answer queues
given_is key count said.Nothing queues = nothing_put queues key
given_is key count (said.Begin kind reset) queues = nothing_put queues key
given_is key count (said.Body more) queues = nothing_put queues key
given_is key count (said.End more) queues = nothing_put queues key
given_is key count (said.Forget gone) queues = nothing_put queues key
given_is key count said.Acknowledge queues = refl
given_is key count said.HandOn queues = nothing_put queues key

given_fed : (key : ℕ) (bytes : List ℕ) (front : Front) (withdrawn : Bool) (asks : Option Reset) (o : Option End) (count : ℕ) (answer : Said) (queues : Queues) → o ≡ Some (Open front withdrawn asks)
    → (fed front bytes).brings ≡ Ok (record { count = count; said = answer }) → change key (put_some (owed bytes o)) queues ≡ given_by key answer queues
given_fed key bytes front withdrawn asks o count answer queues was says =
    ap (λ (x : Option End). change key (put_some (owed bytes x)) queues) was
    ∙ ap (λ (r : Result Fed FrontFault). change key (put_some (owed_by r)) queues) says ∙ given_is key count answer queues

-- what waits for it then
pub waits_fed : (key : ℕ) (before now : EndList) (bytes : List ℕ) (answer : Said) (queues : Queues) → IsFed key before now bytes answer → change key (put_some (owed bytes (end_at before key))) queues ≡ given_by key answer queues
waits_fed key before now bytes answer queues f = given_fed key bytes f.front f.withdrawn f.asks (end_at before key) f.count answer queues f.was f.says

-- what is left of them
pub left_fed : (key : ℕ) (before now : EndList) (bytes : List ℕ) (answer : Said) → (f : IsFed key before now bytes answer) → bytes_left_by bytes (end_at before key) ≡ drop f.count bytes
left_fed key before now bytes answer f = ap (bytes_left_by bytes) f.was ∙ ap (λ (r : Result Fed FrontFault). drop (count_by r bytes) bytes) f.says

-- bytes were taken: what is done at the pool by them, and the end that they lead to
core_fed : (key : ℕ) (d : Pool) (before now : EndList) (bytes : List ℕ) (answer : Said) (stops : Bool) → (takes_back answer || hands_on answer) ≡ stops → (f : IsFed key before now bytes answer)
    → moved (core_of_ends d before) (Feeds key bytes)
    ≡ core_of_ends (pool_after d (event_if stops (pool.Does key pool.Stops))) (slice_set before key (Some (Open (fed f.front bytes).front (takes_back answer || f.withdrawn) (asks_by answer f.asks))))
core_fed key d before now bytes answer stops same f =
    same_core (pool_after d (event_if (stops_of bytes (end_at before key)) (pool.Does key pool.Stops))) _ (change_end key (feeds bytes) before) _
    (ap (λ (b : Bool). pool_after d (event_if b (pool.Does key pool.Stops))) (sym (stops_fed bytes f.front f.withdrawn f.asks (end_at before key) f.count answer f.was f.says ∙ same)))
    (ap (λ (o : Option End). slice_set before key o) (sym (end_fed bytes f.front f.withdrawn f.asks (end_at before key) f.count answer f.was f.says)))

-- ---- As it is done

-- nothing is done at the pool by them
pub fed_is : (key : ℕ) (d : Pool) (before now : EndList) (bytes : List ℕ) (answer : Said) → takes_back answer ≡ false → hands_on answer ≡ false → IsFed key before now bytes answer
    → moved (core_of_ends d before) (Feeds key bytes) ≡ core_of_ends d now
fed_is key d before now bytes answer keeps here f =
    core_fed key d before now bytes answer false (ap (λ (b : Bool). b || hands_on answer) keeps ∙ here) f
    ∙ same_core d d (slice_set before key (Some (Open (fed f.front bytes).front (takes_back answer || f.withdrawn) (asks_by answer f.asks)))) now refl
    (f.is ∙ ap (λ (b : Bool). slice_set before key (Some (Open (fed f.front bytes).front (b || f.withdrawn) (asks_by answer f.asks)))) (sym keeps))

-- its attention is the server's
pub handed_on_is : (key : ℕ) (d d1 : Pool) (before now : EndList) (bytes out out1 : List ℕ) → IsFed key before now bytes said.HandOn → Turns (pool.Does key pool.Stops) d d1 out out1
    → moved (core_of_ends d before) (Feeds key bytes) ≡ core_of_ends d1 now
handed_on_is key d d1 before now bytes out out1 f t =
    core_fed key d before now bytes said.HandOn true refl f
    ∙ same_core (turn d (pool.Does key pool.Stops)).pool d1 (slice_set before key (Some (Open (fed f.front bytes).front f.withdrawn f.asks))) now t.pool_is f.is

-- it stays what it is written twice
set_twice : (before now : EndList) (key : ℕ) (end was : End) (by : End → End) → end_at before key ≡ Some was → now ≡ slice_set before key (Some end) → change_end key by now ≡ slice_set before key (Some (by end))
set_twice before now key end was by there is =
    let one : now ≡ change_end key (λ e. end) before = is ∙ ap (λ (o : Option End). slice_set before key o) (sym (ap (option_map (λ (e : End). end)) there)) in
    ap (λ (es : EndList). change_end key by es) one ∙ changed_both before key by (λ e. end)
    ∙ ap (λ (o : Option End). slice_set before key (option_map (λ (e : End). by end) o)) there

-- what had gone on of its request is taken back
pub taken_back_at : (key : ℕ) (d : Pool) (before now behind : EndList) (bytes : List ℕ) → IsFed key before now bytes (said.Forget true) → behind ≡ change_end key withdraws now
    → moved (core_of_ends d before) (Feeds key bytes) ≡ core_of_ends (turn d (pool.Does key pool.Stops)).pool behind
taken_back_at key d before now behind bytes f is =
    core_fed key d before now bytes (said.Forget true) true refl f
    ∙ same_core (turn d (pool.Does key pool.Stops)).pool (turn d (pool.Does key pool.Stops)).pool (slice_set before key (Some (Open (fed f.front bytes).front true None))) behind refl
    (is ∙ set_twice before now key (Open (fed f.front bytes).front f.withdrawn None) (Open f.front f.withdrawn f.asks) withdraws f.was f.is)

-- they are none of a client's, and it is closed by them
pub refused_is : (key : ℕ) (d : Pool) (es : EndList) (bytes : List ℕ) (front : Front) (withdrawn : Bool) (asks : Option Reset) (fault : FrontFault) → end_at es key ≡ Some (Open front withdrawn asks) → (fed front bytes).brings ≡ Err fault
    → moved (core_of_ends d es) (Feeds key bytes) ≡ core_of_ends d (change_end key (closes_for (Some fault)) es)
refused_is key d es bytes front withdrawn asks fault was says =
    same_core (pool_after d (event_if (stops_of bytes (end_at es key)) (pool.Does key pool.Stops))) d (change_end key (feeds bytes) es) (change_end key (closes_for (Some fault)) es)
    (ap (λ (b : Bool). pool_after d (event_if b (pool.Does key pool.Stops))) (sym (ap (stops_of bytes) was ∙ ap stops_by says)))
    (ap (λ (o : Option End). slice_set es key o)
    (ap (option_map (closes_for (Some fault))) was
    ∙ sym (ap (option_map (feeds bytes)) was ∙ ap (λ (r : Result Fed FrontFault). Some (end_behind (fed front bytes).front withdrawn asks r)) says)))

pub waits_refused : (key : ℕ) (es : EndList) (bytes : List ℕ) (front : Front) (withdrawn : Bool) (asks : Option Reset) (fault : FrontFault) (queues : Queues) → end_at es key ≡ Some (Open front withdrawn asks) → (fed front bytes).brings ≡ Err fault
    → change key (put_some (owed bytes (end_at es key))) queues ≡ queues
waits_refused key es bytes front withdrawn asks fault queues was says =
    ap (λ (x : Option End). change key (put_some (owed bytes x)) queues) was
    ∙ ap (λ (r : Result Fed FrontFault). change key (put_some (owed_by r)) queues) says ∙ nothing_put queues key

-- whatever was said, it is closed
pub closed_fed : (by : End → End) (before now : EndList) (key : ℕ) (end was : End) → by was ≡ by end → end_at before key ≡ Some was → now ≡ slice_set before key (Some end) → change_end key by before ≡ change_end key by now
closed_fed by before now key end was same there is =
    ap (λ (o : Option End). slice_set before key (option_map by o)) there ∙ ap (λ (e : End). slice_set before key (Some e)) same ∙ sym (set_twice before now key end was by there is)

pub closed_as_fed : (key : ℕ) (before now : EndList) (bytes : List ℕ) (answer : Said) → IsFed key before now bytes answer → change_end key closes before ≡ change_end key closes now
closed_as_fed key before now bytes answer f = closed_fed closes before now key (Open (fed f.front bytes).front f.withdrawn (asks_by answer f.asks)) (Open f.front f.withdrawn f.asks) refl f.was f.is

-- ---- As the code has it

pub end_there : (s : Slab Application) (key : ℕ) (a : Application) → Some a ≡ get s key → end_at (ends_in s) key ≡ Some (own_end a)
end_there s key a is = end_is s key ∙ ap (option_map own_end) (sym is)

pub ends_written : (s : Slab Application) (key : ℕ) (a : Application) → ends_in (with_value s key a) ≡ slice_set (ends_in s) key (Some (own_end a))
ends_written s key a = map-set (option_map own_end) s.slots key (Some a)

pub end_open : (a : Application) → is_closed a ≡ false → own_end a ≡ Open a.front (took_back a) (own_reset a)
end_open a over = ap (λ (b : Bool). if b then Over (own_fault a) else Open a.front (took_back a) (own_reset a)) over

abbrev pub is_fed : (key : ℕ) (s : Slab Application) (a b : Application) (bytes : List ℕ) (count : ℕ) (answer : Said) → Some a ≡ get s key → is_closed a ≡ false → is_closed b ≡ false
    → took_back b ≡ took_back a → own_reset b ≡ asks_by answer (own_reset a) → b.front ≡ (fed a.front bytes).front → Ok (record { count = count; said = answer }) ≡ (fed a.front bytes).brings → IsFed key (ends_in s) (ends_in (with_value s key b)) bytes answer
is_fed key s a b bytes count answer is begins still withdrawn asks front says = record {
  front = a.front;
  withdrawn = took_back a;
  asks = own_reset a;
  count = count;
  was = end_there s key a is ∙ ap Some (end_open a begins);
  says = sym says;
  is =
      ends_written s key b
      ∙ ap (λ (e : End). slice_set (ends_in s) key (Some e)) (end_open b still ∙ ap (λ (f : Front). Open f (took_back b) (own_reset b)) front
      ∙ ap (λ (w : Bool). Open (fed a.front bytes).front w (own_reset b)) withdrawn ∙ ap (λ (x : Option Reset). Open (fed a.front bytes).front (took_back a) x) asks);
}

open_if : (over : Bool) (why : Option FrontFault) (front : Front) (withdrawn : Bool) (asks : Option Reset) → over ≡ false → IsOpenEnd (Some (if over then Over why else Open front withdrawn asks))
open_if true why front withdrawn asks e = absurd (let u : ⊥ = cc in u)
open_if false why front withdrawn asks e = tt

pub is_open_there : (s : Slab Application) (key : ℕ) (a : Application) → Some a ≡ get s key → is_closed a ≡ false → IsOpenEnd (end_at (ends_in s) key)
is_open_there s key a is e = subst IsOpenEnd (sym (end_there s key a is)) (open_if (is_closed a) (own_fault a) a.front (took_back a) (own_reset a) e)

-- its attention has the acknowledgement; or what it took back has
pub acked_if : (why : Option FrontFault) (over : Bool) (front : Front) (withdrawn : Bool) (asks : Option Reset) → withdrawn ≡ false
    → (if over then Over why else Open (record front { stage = rules.acknowledged front.stage }) withdrawn None) ≡ end_acknowledged (end_hears (if over then Over why else Open front withdrawn asks))
acked_if why true front withdrawn asks e = refl
acked_if why false front true asks e = absurd (let u : ⊥ = cc in u)
acked_if why false front false asks e = refl

pub resumed_if : (why : Option FrontFault) (over : Bool) (front : Front) (withdrawn : Bool) (asks : Option Reset) → withdrawn ≡ true
    → (if over then Over why else Open front false asks) ≡ end_acknowledged (end_hears (if over then Over why else Open front withdrawn asks))
resumed_if why true front withdrawn asks e = refl
resumed_if why false front true asks e = refl
resumed_if why false front false asks e = absurd (let u : ⊥ = cc in u)
