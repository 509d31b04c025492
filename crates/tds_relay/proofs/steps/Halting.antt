-- What an attention puts out that is handed on: it waits once, behind what waited on its connection.
use Rattle.std.proofs.Common.{◌≡◌, ◌∙◌, ◌⊎◌, ◌++◌, ℕ, Bool, true, false, List, [], ◌∷◌, Option, Some, None, inl, inr, refl, sym, ap, subst, option_map, if◌then◌else◌}
use Rattle.std.specs.Prelude.{IsSome, OnOk, Result, Ok, Err}
use Rattle.slab.specs.Slab.{get}
use Rattle.tds_client.specs.declared.fault.ClientRefusal.{ClientRefusal}
use Rattle.tds_client.specs.Session.{ClientSession}
use Rattle.tds_wire.specs.declared.told.Token.{Token}
use Rattle.tds_service.specs.declared.seat.Seat as seats
use Rattle.tds_service.specs.declared.service.Service as services
use Rattle.tds_service.specs.Line as line
use Rattle.tds_service.specs.Line.{Act, Line, line_turn}
use Rattle.tds_service.specs.History.{line_after}
use Rattle.tds_service.specs.Refusing.{refusal_in}
use Rattle.tds_service.specs.Service as calls
use Rattle.tds_service.specs.Service.{Did, Seat, Service, acts, acts_unless, find_by, has_lease, step}
use Rattle.tds_service.specs.Table.{CancelsOut, client_by, seat_in, seats_in, service_in}
use Rattle.tds_service.specs.Ties.{cancel_out}
use Rattle.tds_relay.specs.declared.application.Application.{Application}
use Rattle.tds_relay.specs.declared.state.Asking.{Asking}
use Rattle.tds_relay.specs.declared.state.Asking.TheVariants as asking
use Rattle.tds_relay.specs.declared.pool.Pool as pools
use Rattle.tds_relay.specs.declared.pool.Hold.{Hold}
use Rattle.tds_relay.specs.declared.link.Link.{Link}
use Rattle.tds_relay.specs.declared.relay.Relay as code
use Rattle.tds_relay.specs.Bodies.{AskAsBefore, Before, Body, ByClient, ByClosing, ClientStops, Closed, Going, Halts, IsStoppedOnce, IsHalting, IsUnsent, Kept, Nowhere, Astray, OfAstray, BodyAndWaits, StopsOn, AskOn, body_by, body_in, body_of, going, going_by, going_of, standing_in}
use Rattle.tds_relay.specs.Pool.{find_key}
use Rattle.tds_relay.specs.Fronts.{ends_in}
use Rattle.tds_relay.specs.Core.{end_at}
use Rattle.tds_relay.specs.Reads.{waits_on}
use Rattle.tds_relay.specs.Taking.{IsDeaf}
use Rattle.tds_relay.proofs.steps.Bodied.{shut}
use Rattle.tds_relay.proofs.steps.Going.{waits_behind}
use Rattle.tds_relay.proofs.steps.Sent.{found_changed}
use Rattle.tds_relay.proofs.steps.Tied.{spared_closed, stays_closed}
use Rattle.tds_relay.specs.Places.{is_closed, own_asking, own_held}

-- ---- The client is there behind a cancel

there_unless : (s : Service) (lease : ℕ) (c : Seat) (all : List (Act Token)) (why : Option ClientRefusal) → find_by (has_lease lease) s.seats ≡ Some c
    → (acts_unless s (has_lease lease) c all why).reply ≡ Did → IsSome (find_by (has_lease lease) (acts_unless s (has_lease lease) c all why).service.seats)
there_unless s lease c all (Some why) e did = absurd (let u : ⊥ = cc in u)
there_unless s lease c all None e did = subst IsSome (sym (found_changed lease c (line_after c.line all) s.seats e)) refl

there_by : (s : Service) (lease : ℕ) (o : Option Seat) → find_by (has_lease lease) s.seats ≡ o → (acts {T = Token} s (has_lease lease) line.Cancel (line.Cancel ∷ []) o).reply ≡ Did
    → IsSome (find_by (has_lease lease) (acts {T = Token} s (has_lease lease) line.Cancel (line.Cancel ∷ []) o).service.seats)
there_by s lease None e did = absurd (let u : ⊥ = cc in u)
there_by s lease (Some c) e did = there_unless s lease c (line.Cancel ∷ []) (refusal_in (line_turn {T = Token} c.line line.Cancel).answer) e did

client_either : (b : Bool) (x : seats.Seat) (test : Seat → Bool) (xs : List seats.Seat) → IsSome (if b then Some (seat_in x) else find_by test (seats_in xs))
    → (IsSome (find_by test (seats_in xs)) → (s : ClientSession) × (client_by test xs ≡ Some s)) → (s : ClientSession) × ((if b then Some x.connection.client else client_by test xs) ≡ Some s)
client_either true x test xs is more = (x.connection.client, refl)
client_either false x test xs is more = more is

client_there : (test : Seat → Bool) (cs : List seats.Seat) → IsSome (find_by test (seats_in cs)) → (s : ClientSession) × (client_by test cs ≡ Some s)
client_there test [] is = absurd (let u : ⊥ = cc in u)
client_there test (x ∷ xs) is = client_either (test (seat_in x)) x test xs is (client_there test xs)

pub client_stops : (key : ℕ) (hold : Hold) (old new : pools.Pool) (before after : List ℕ) → find_key key old.holds.items ≡ Some hold → new.holds.items ≡ old.holds.items
    → service_in new.service ≡ (step {T = Token} (service_in old.service) (calls.Cancel hold.lease)).service → (step {T = Token} (service_in old.service) (calls.Cancel hold.lease)).reply ≡ Did
    → CancelsOut hold.lease old.service before after → ClientStops key old new before after
client_stops key hold old new before after its same is did out =
    let there = there_by (service_in old.service) hold.lease (find_by (has_lease hold.lease) (service_in old.service).seats) refl did in
    let to = client_there (has_lease hold.lease) new.service.seats.items (subst (λ (s : Service). IsSome (find_by (has_lease hold.lease) s.seats)) (sym is) there) in
    record {
      hold = hold;
      its = its;
      same = same;
      from = out.0;
      to = to.0;
      moves = record { was = out.1; is = to.1 };
      appended = out.2;
    }

-- ---- And what goes out waits

halts_by : (number : ℕ) (from to : ClientSession) (had : Option (List ℕ)) → Halts (going_by number (Some from) had) (going_by number (Some to) (option_map (λ (waits : List ℕ). waits ++ cancel_out from.stage) had))
halts_by number from to None = OfAstray
halts_by number from to (Some waits) = ByClient waits from

halts_on : (key : ℕ) (old new : pools.Pool) (after : List ℕ) (ls ms : List Link) (hold : Hold) → find_key key old.holds.items ≡ Some hold → ClientStops key old new [] after
    → waits_on hold.number ms ≡ option_map (λ (waits : List ℕ). waits ++ after) (waits_on hold.number ls) → Halts (going old.service ls (find_key key old.holds.items)) (going new.service ms (find_key key new.holds.items))
halts_on key old new after ls ms hold its p waits =
    let one : hold ≡ p.hold = (let u : Some hold ≡ Some p.hold = sym its ∙ p.its in cc) in
    let out = cancel_out p.from.stage in
    let waits_is : waits_on p.hold.number ms ≡ option_map (λ (xs : List ℕ). xs ++ out) (waits_on p.hold.number ls) =
    subst (λ (h : Hold). waits_on h.number ms ≡ option_map (λ (xs : List ℕ). xs ++ out) (waits_on h.number ls)) one
    (waits ∙ ap (λ (ys : List ℕ). option_map (λ (xs : List ℕ). xs ++ ys) (waits_on hold.number ls)) p.appended) in
    let was : going old.service ls (find_key key old.holds.items) ≡ going_by p.hold.number (Some p.from) (waits_on p.hold.number ls) =
    ap (going old.service ls) p.its ∙ ap (λ (o : Option ClientSession). going_by p.hold.number o (waits_on p.hold.number ls)) p.moves.was in
    let is : going new.service ms (find_key key new.holds.items) ≡ going_by p.hold.number (Some p.to) (option_map (λ (xs : List ℕ). xs ++ out) (waits_on p.hold.number ls)) =
    ap (λ (hs : List Hold). going new.service ms (find_key key hs)) p.same ∙ ap (going new.service ms) p.its
    ∙ ap (λ (o : Option ClientSession). going_by p.hold.number o (waits_on p.hold.number ms)) p.moves.is ∙ ap (going_by p.hold.number (Some p.to)) waits_is in
    subst (λ (b : Body). Halts b (going new.service ms (find_key key new.holds.items))) (sym was)
    (subst (Halts (going_by p.hold.number (Some p.from) (waits_on p.hold.number ls))) (sym is) (halts_by p.hold.number p.from p.to (waits_on p.hold.number ls)))

-- ---- Of an application

halts_asked : (over : Bool) (a : Asking) (held : List ℕ) (g h : Body) → Halts g h → Halts (if over then Closed else body_by a held g) (if over then Closed else body_by a held h)
halts_asked true a held g h s = ByClosing
halts_asked false asking.Nothing held g h s = Before tt
halts_asked false (asking.Waits kind whole) held g h s = Before tt
halts_asked false asking.Goes held g h s = s

halts_in : (o : Option Application) (g h : Body) → Halts g h → Halts (body_in o g) (body_in o h)
halts_in None g h s = ByClosing
halts_in (Some a) g h s = halts_asked (is_closed a) (own_asking a) (own_held a) g h s

pub halted : (key number : ℕ) (old mid new : code.Relay) → IsHalting number key old mid → mid.links.items ≡ old.links.items → AskAsBefore old.applications mid.applications → StopsOn number key mid new
    → Halts (body_of key old) (body_of key new)
halted key number old mid new stopped links asks (inl deaf) = subst (Halts (body_of key old)) (sym (shut new.applications key (going_of key new) deaf)) ByClosing
halted key number old mid new stopped links asks (inr (at, asked, waits)) =
    let hold = stopped.hold in
    let behind : waits_on hold.number new.links.items ≡ option_map (λ (xs : List ℕ). xs ++ mid.outbox.items) (waits_on hold.number old.links.items) =
    subst (λ (n : ℕ). waits_on n new.links.items ≡ option_map (λ (xs : List ℕ). xs ++ mid.outbox.items) (waits_on n old.links.items)) stopped.number_is
    (waits_behind number new.links.items mid.links.items old.links.items mid.outbox.items mid.outbox.items waits links refl) in
    let goes : Halts (going_of key old) (going_of key new) =
    subst (λ (d : pools.Pool). Halts (going_of key old) (going d.service new.links.items (find_key key d.holds.items))) (sym at)
    (halts_on key old.pool mid.pool mid.outbox.items old.links.items new.links.items hold stopped.its stopped.stops behind) in
    let same : body_of key new ≡ body_in (get old.applications key) (going_of key new) = asked key (going_of key new) ∙ asks key (going_of key new) in
    subst (Halts (body_of key old)) (sym same) (halts_in (get old.applications key) (going_of key old) (going_of key new) goes)

-- ---- What goes out for what is taken back

cancelled_by : (number : ℕ) (from : ClientSession) (had : Option (List ℕ)) (new : BodyAndWaits) → new.1 number ≡ option_map (λ (waits : List ℕ). waits ++ cancel_out from.stage) had → IsStoppedOnce (going_by number (Some from) had) new
cancelled_by number from None new e = tt
cancelled_by number from (Some waits) new e = inl e

pub cancelled_shut : (b : Body) (new : BodyAndWaits) → new.0 ≡ Closed → IsStoppedOnce b new
cancelled_shut Closed new e = e
cancelled_shut Nowhere new e = tt
cancelled_shut (Kept kind bytes whole) new e = tt
cancelled_shut Astray new e = tt
cancelled_shut (Going number client waits) new e = inr e

pub cancelled_unsent : (b : Body) (new : BodyAndWaits) → (b ≡ Closed → new.0 ≡ Closed) → IsUnsent b → IsStoppedOnce b new
cancelled_unsent Closed new shut e = shut refl
cancelled_unsent Nowhere new shut e = tt
cancelled_unsent (Kept kind bytes whole) new shut e = tt
cancelled_unsent Astray new shut e = tt
cancelled_unsent (Going number client waits) new shut e = absurd e

cancelled_asked : (over : Bool) (a : Asking) (held : List ℕ) (g : Body) (new : BodyAndWaits) → ((if over then Closed else body_by a held g) ≡ Closed → new.0 ≡ Closed) → IsStoppedOnce g new
    → IsStoppedOnce (if over then Closed else body_by a held g) new
cancelled_asked true a held g new shut s = shut refl
cancelled_asked false asking.Nothing held g new shut s = tt
cancelled_asked false (asking.Waits kind whole) held g new shut s = tt
cancelled_asked false asking.Goes held g new shut s = s

pub cancelled_in : (o : Option Application) (g : Body) (new : BodyAndWaits) → (body_in o g ≡ Closed → new.0 ≡ Closed) → IsStoppedOnce g new → IsStoppedOnce (body_in o g) new
cancelled_in None g new shut s = shut refl
cancelled_in (Some a) g new shut s = cancelled_asked (is_closed a) (own_asking a) (own_held a) g new shut s

going_same : (key : ℕ) (d e : pools.Pool) (ls ms : List Link) → e.holds ≡ d.holds → e.service ≡ d.service → ms ≡ ls → going e.service ms (find_key key e.holds.items) ≡ going d.service ls (find_key key d.holds.items)
going_same key d e ls ms holds service links =
    ap (λ (s : services.Service). going s ms (find_key key e.holds.items)) service ∙ ap (λ (xs : List Link). going d.service xs (find_key key e.holds.items)) links
    ∙ ap (λ (hs : List Hold). going d.service ls (find_key key hs)) (let u : e.holds.items ≡ d.holds.items = cc in u)

going_stopped : (key : ℕ) (old mid : pools.Pool) (after : List ℕ) (ls : List Link) (hold : Hold) (new : BodyAndWaits) → find_key key old.holds.items ≡ Some hold → ClientStops key old mid [] after
    → new.1 hold.number ≡ option_map (λ (waits : List ℕ). waits ++ after) (waits_on hold.number ls) → IsStoppedOnce (going old.service ls (find_key key old.holds.items)) new
going_stopped key old mid after ls hold new its p waits =
    let one : hold ≡ p.hold = (let u : Some hold ≡ Some p.hold = sym its ∙ p.its in cc) in
    let out = cancel_out p.from.stage in
    let waits_is : new.1 p.hold.number ≡ option_map (λ (xs : List ℕ). xs ++ out) (waits_on p.hold.number ls) =
    subst (λ (h : Hold). new.1 h.number ≡ option_map (λ (xs : List ℕ). xs ++ out) (waits_on h.number ls)) one
    (waits ∙ ap (λ (ys : List ℕ). option_map (λ (xs : List ℕ). xs ++ ys) (waits_on hold.number ls)) p.appended) in
    let was : going old.service ls (find_key key old.holds.items) ≡ going_by p.hold.number (Some p.from) (waits_on p.hold.number ls) =
    ap (going old.service ls) p.its ∙ ap (λ (o : Option ClientSession). going_by p.hold.number o (waits_on p.hold.number ls)) p.moves.was in
    subst (λ (b : Body). IsStoppedOnce b new) (sym was) (cancelled_by p.hold.number p.from (waits_on p.hold.number ls) new waits_is)

-- what was put waits, or it is to be closed
pub cancelled_going : {A B : Type 0} (key number : ℕ) (old mid : pools.Pool) (after : List ℕ) (ls : List Link) (hold : Hold) (new : code.Relay) → find_key key old.holds.items ≡ Some hold → number ≡ hold.number → ClientStops key old mid [] after
    → IsDeaf (end_at (ends_in new.applications) key) ⊎ (A × B × (waits_on number new.links.items ≡ option_map (λ (waits : List ℕ). waits ++ after) (waits_on number ls)))
    → IsStoppedOnce (going old.service ls (find_key key old.holds.items)) (standing_in key new)
cancelled_going key number old mid after ls hold new its same p (inl deaf) = cancelled_shut (going old.service ls (find_key key old.holds.items)) (standing_in key new) (shut new.applications key (going_of key new) deaf)
cancelled_going key number old mid after ls hold new its same p (inr (a, b, waits)) =
    going_stopped key old mid after ls hold (standing_in key new) its p (subst (λ (n : ℕ). waits_on n new.links.items ≡ option_map (λ (xs : List ℕ). xs ++ after) (waits_on n ls)) same waits)

-- of which something had gone on
pub taken_back : (key number : ℕ) (old mid stopped out new : code.Relay) → mid.pool.holds ≡ old.pool.holds → mid.pool.service ≡ old.pool.service → out.links.items ≡ old.links.items → out.outbox.items ≡ stopped.outbox.items
    → (body_of key old ≡ Closed → (goes : Body) → body_in (get out.applications key) goes ≡ Closed) → IsHalting number key mid stopped → StopsOn number key out new → IsStoppedOnce (body_of key old) (standing_in key new)
taken_back key number old mid stopped out new holds service links outbox over h (inl deaf) = cancelled_shut (body_of key old) (standing_in key new) (shut new.applications key (going_of key new) deaf)
taken_back key number old mid stopped out new holds service links outbox over h (inr (at, asked, waits)) =
    let behind = waits_behind number new.links.items out.links.items old.links.items out.outbox.items stopped.outbox.items waits links outbox in
    cancelled_in (get old.applications key) (going_of key old) (standing_in key new) (λ e. asked key (going_of key new) ∙ over e (going_of key new))
    (subst (λ (b : Body). IsStoppedOnce b (standing_in key new)) (going_same key old.pool mid.pool old.links.items old.links.items holds service refl)
    (cancelled_going {A = Unit} {B = Unit} key number mid.pool stopped.pool stopped.outbox.items old.links.items h.hold new h.its h.number_is h.stops (inr (tt, tt, behind))))

-- of which nothing had
pub forgot_cancelled : {A E : Type 0} (r : Result A E) (key : ℕ) (old mid new : code.Relay) → mid.pool.holds ≡ old.pool.holds → mid.pool.service ≡ old.pool.service → mid.links.items ≡ old.links.items
    → ends_in mid.applications ≡ ends_in old.applications → OnOk r (AskOn mid.applications new.applications) → OnOk r (IsStoppedOnce (going_of key mid) (standing_in key new))
    → OnOk r (IsStoppedOnce (body_of key old) (standing_in key new))
forgot_cancelled (Ok x) key old mid new holds service links ends asks s =
    cancelled_in (get old.applications key) (going_of key old) (standing_in key new) (stays_closed key old mid new ends asks) (subst (λ (b : Body). IsStoppedOnce b (standing_in key new)) (going_same key old.pool mid.pool old.links.items mid.links.items holds service links) s)
forgot_cancelled (Err e) key old mid new holds service links ends asks s = tt

closed_still : (key : ℕ) (old new : code.Relay) → new.pool ≡ old.pool → new.links.items ≡ old.links.items → AskOn old.applications new.applications → body_of key old ≡ Closed → body_of key new ≡ Closed
closed_still key old new pool links asks e =
    let goes : going_of key new ≡ going_of key old = going_same key old.pool new.pool old.links.items new.links.items (let u : new.pool.holds ≡ old.pool.holds = cc in u) (let u : new.pool.service ≡ old.pool.service = cc in u) links in
    spared_closed (body_in (get old.applications key) (going_of key new)) (body_of key new) (asks key (going_of key new)) (ap (body_in (get old.applications key)) goes ∙ e)

cancelled_on : (key : ℕ) (b : Body) (old new : code.Relay) → new.pool ≡ old.pool → new.links.items ≡ old.links.items → AskOn old.applications new.applications → IsStoppedOnce b (standing_in key old) → IsStoppedOnce b (standing_in key new)
cancelled_on key Closed old new pool links asks e = closed_still key old new pool links asks e
cancelled_on key Nowhere old new pool links asks s = tt
cancelled_on key (Kept kind bytes whole) old new pool links asks s = tt
cancelled_on key Astray old new pool links asks s = tt
cancelled_on key (Going number client waits) old new pool links asks (inl e) = inl (ap (waits_on number) links ∙ e)
cancelled_on key (Going number client waits) old new pool links asks (inr e) = inr (closed_still key old new pool links asks e)

-- and then it is told so
pub cancelled_told : {A E : Type 0} (r : Result A E) (key : ℕ) (b : Body) (old new : code.Relay) → IsStoppedOnce b (standing_in key old) → new.pool ≡ old.pool → OnOk r (new.links.items ≡ old.links.items)
    → OnOk r (AskOn old.applications new.applications) → OnOk r (IsStoppedOnce b (standing_in key new))
cancelled_told (Ok x) key b old new s pool links asks = cancelled_on key b old new pool links asks s
cancelled_told (Err e) key b old new s pool links asks = tt
