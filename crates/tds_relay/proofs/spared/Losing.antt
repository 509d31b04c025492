-- Why an application is closed by what comes: a packet behind the other.
use Rattle.std.proofs.Common.{◌≡◌, ◌≢◌, ◌⊎◌, ◌∙◌, ◌==◌, length, ℕ, Bool, true, false, List, [], Option, Some, None, inl, inr, refl, sym, ap, subst, if◌then◌else◌, slice_index_or}
use Rattle.std.specs.Prelude.{IfOk, Result, Ok, Err, is_some}
use Rattle.slab.specs.Slab.{Slab, get}
use Rattle.tds_front.specs.declared.fault.FrontFault.{FrontFault}
use Rattle.tds_front.specs.declared.front.Front.{Front}
use Rattle.tds_packet.specs.declared.status.Reset.{Reset}
use Rattle.tds_service.specs.Table.{reading_on}
use Rattle.tds_relay.specs.declared.application.Application.{Application}
use Rattle.tds_relay.specs.declared.pool.coming.Heard.{Heard}
use Rattle.tds_relay.specs.declared.pool.coming.What.{What}
use Rattle.tds_relay.specs.declared.pool.coming.What.TheVariants as whats
use Rattle.tds_relay.specs.declared.link.Link.{Link}
use Rattle.tds_relay.specs.declared.relay.Relay as code
use Rattle.tds_relay.specs.Asking.{IsTakenBack}
use Rattle.tds_relay.specs.Bodies.{AskAsBefore, Nowhere, Spared, body_in, body_of, going_of}
use Rattle.tds_relay.specs.Coming.{MayBeDone}
use Rattle.tds_relay.specs.Pool.{Pool, find_key, find_lease, find_number, key_of, whose, whose_by}
use Rattle.tds_relay.specs.declared.pool.Hold.{Hold}
use Rattle.tds_relay.specs.Few.{AreSeated, IsSeated}
use Rattle.tds_relay.specs.Told.{is_there}
use Rattle.tds_service.specs.Service.{Leased, Place, Seat, Service, lease_at, lease_in, seat_numbered}
use Rattle.tds_relay.proofs.held.Fewer.{each_number, number_is}
use Rattle.tds_relay.proofs.held.Seated.{both_each, each_found_by}
use Rattle.tds_relay.proofs.held.Sitting.{Sits}
use Rattle.tds_relay.proofs.spared.Held.{sits_at, sound_at}
use Rattle.tds_relay.proofs.spared.Only.{apart_or}
use Rattle.tds_relay.specs.declared.pool.Pool as pools
use Rattle.tds_relay.specs.Cleaning.{MayClean}
use Rattle.tds_relay.specs.Closings.{ClosesOnly, IsWho, register_in}
use Rattle.tds_relay.specs.Fronts.{ends_in, machine_in, machine_with, told_by}
use Rattle.tds_relay.specs.Core.{End, EndList, Open, Over, end_at, holder}
use Rattle.tds_relay.specs.Handing.{HearsBy, IsNothing}
use Rattle.tds_relay.specs.Machine.{Machine}
use Rattle.tds_relay.specs.Queues.{Queues, queue_at, queues_in}
use Rattle.tds_relay.specs.Reads.{link_at, place_of}
use Rattle.tds_relay.specs.Reasons.{Cleans, HasNoRoom, HasTakenBack, HearsNothing, IsHeardAs, IsIdle, IsLeftOpen, IsOverfull, ItselfFor, LosesBy, LosesFor, LosesOn, OfPacket, OfResuming, ResumesNot, ResumesNotAt}
use Rattle.tds_relay.specs.Sparing.{IsKept}
use Rattle.tds_relay.specs.Waiting.{KeepsQueues, LosesAt, ResumesAt}
use Rattle.tds_relay.specs.Taking.{IsDeaf}
use Rattle.tds_relay.specs.Ties.{pool_in}
use Rattle.tds_relay.proofs.spared.Closings.{closes_both, closes_more}
use Rattle.tds_relay.proofs.spared.Starting.{unkept_going}
use Rattle.tds_relay.proofs.spared.Turned.{as_refl, kept_any, kept_asks, not_as}
use Rattle.tds_relay.proofs.steps.Fed.{end_there}
use Rattle.tds_relay.proofs.steps.Placed.{IsAt, is_at}
use Rattle.tds_relay.specs.Places.{is_closed, own_fault, own_reset, took_back}

-- ---- Who took something back

taken_by : (over w : Bool) (why : Option FrontFault) (front : Front) (asks : Option Reset) → w ≡ true
    → IsTakenBack (Some (if over then Over why else Open front w asks)) ⊎ IsDeaf (Some (if over then Over why else Open front w asks))
taken_by true w why front asks e = inr tt
taken_by false w why front asks e = inl e

pub taken_or_deaf : (s : Slab Application) (key : ℕ) (a : Application) → Some a ≡ get s key → took_back a ≡ true → IsTakenBack (end_at (ends_in s) key) ⊎ IsDeaf (end_at (ends_in s) key)
taken_or_deaf s key a is withdrawn = subst (λ (o : Option End). IsTakenBack o ⊎ IsDeaf o) (sym (end_there s key a is)) (taken_by (is_closed a) (took_back a) (own_fault a) a.front (own_reset a) withdrawn)

-- ---- A packet

pub heard_as : {E : Type 0} (r : Result (ℕ × Option Heard) E) (Idle : Type 0) (number : ℕ) (piece : List ℕ) (place : ℕ) (l m : Link) (old : code.Relay) (new : Option Heard → Machine) → place_of number old.links.items ≡ Some place
    → l ≡ slice_index_or old.links.items place l → l.is_open ≡ true → IfOk r (λ heard. HearsBy number (reading_on number old.pool.service) l m piece heard.0 heard.1 (machine_in old) (new heard.1))
    → IfOk r (λ heard. (HearsNothing heard.1 × Idle) ⊎ IsHeardAs number piece heard.1 old (new heard.1))
heard_as (Ok x) Idle number piece place l m old new is value opened h =
    let at : IsAt number old.links.items place = is_at number old.links.items place is in
    inr (record { link = l; there = at.found l ∙ ap Some (sym value); is_open = opened; next = m; count = x.0; hears = h })
heard_as (Err e) Idle number piece place l m old new is value opened h = tt

full_by : (what : What) (key : Option ℕ) (ends : EndList) (queues : Queues) (other : ℕ) → key ≡ Some other → IsOverfull (queue_at queues other) → LosesBy what key ends queues other
full_by whats.Goes key ends queues other its full = (its, full)
full_by whats.Finished key ends queues other its full = (its, full)
full_by whats.Acknowledged key ends queues other its full = (its, full)
full_by whats.Closed key ends queues other its full = its

as_heard : (number : ℕ) (d : Pool) (o : Option Heard) (h : Heard) (ends : EndList) (queues : Queues) (other : ℕ) → o ≡ Some h → LosesBy h.what h.key ends queues other → LosesFor number o d ends queues other
as_heard number d o h ends queues other is loses = subst (λ (x : Option Heard). LosesFor number x d ends queues other) (sym is) loses

-- who is written to is full
pub write_loses : (number : ℕ) (o : Option Heard) (h : Heard) (key : ℕ) (old : code.Relay) (queues : Queues) → o ≡ Some h → h.key ≡ Some key → queues ≡ queues_in old.applications
    → (other : ℕ) → ItselfFor key (IsOverfull (queue_at queues key)) other → LosesAt number o old other
write_loses number o h key old queues is its same other x =
    inl (as_heard number (pool_in old.pool) o h (ends_in old.applications) (queues_in old.applications) other is
    (full_by h.what h.key (ends_in old.applications) (queues_in old.applications) other (its ∙ ap Some (sym x.0)) (subst (λ (n : ℕ). IsOverfull (queue_at (queues_in old.applications) n)) (sym x.0) (subst (λ (ps : Queues). IsOverfull (queue_at ps key)) same x.1))))

done_kept : (key : ℕ) (r r0 : code.Relay) → (Spared (body_in (get r0.applications key) (going_of key r)) (body_in (get r.applications key) (going_of key r)))
    ⊎ ((body_in (get r0.applications key) (going_of key r) ≡ going_of key r) × (body_in (get r.applications key) (going_of key r) ≡ Nowhere)) → IsKept (body_of key r) → body_of key r0 ≡ body_of key r
done_kept key r r0 (inl (inl e)) kept =
    kept_any (get r0.applications key) (going_of key r) (going_of key r0) (unkept_going r.pool.service r.links.items (find_key key r.pool.holds.items)) (subst IsKept e kept) ∙ sym e
done_kept key r r0 (inl (inr e)) kept = absurd (subst IsKept e kept)
done_kept key r r0 (inr e) kept = absurd (subst IsKept e.1 kept)

-- what was taken back is acknowledged, and nothing goes out
pub resumes_loses : (number : ℕ) (o : Option Heard) (h : Heard) (key : ℕ) (old told sent : code.Relay) → o ≡ Some h → h.what ≡ whats.Acknowledged → HasTakenBack h.key (ends_in old.applications) → h.key ≡ Some key → told.pool ≡ old.pool
    → told.links.items ≡ old.links.items → (h.what ≢ whats.Closed → told.outbox.items ≡ old.outbox.items) → ends_in told.applications ≡ told_by (Some h) (ends_in old.applications) → MayBeDone old.applications told.applications
    → (told.outbox.items ≡ [] → sent ≡ told) → (other : ℕ) → ResumesNotAt number key sent other → LosesAt number o old other
resumes_loses number o h key old told sent is what taken its pool links out ends done same other why =
    let lasts : h.what ≢ whats.Closed = λ e. (let u : whats.Acknowledged ≡ whats.Closed = sym what ∙ e in cc) in
    let at : old.outbox.items ≡ [] → ResumesNot number h.key (told_by (Some h) (ends_in old.applications)) old.pool old.links.items (body_of other old) other =
    λ idle.
    let here : ResumesNotAt number key told other = subst (λ (r : code.Relay). ResumesNotAt number key r other) (same (out lasts ∙ idle)) why in
    subst (λ (k : Option ℕ). ResumesNot number k (told_by (Some h) (ends_in old.applications)) old.pool old.links.items (body_of other old) other) (sym its)
    (subst (λ (d : pools.Pool). ResumesNot number (Some key) (told_by (Some h) (ends_in old.applications)) d old.links.items (body_of other old) other) pool
    (not_as number (Some key) (ends_in told.applications) (told_by (Some h) (ends_in old.applications)) told.pool old.links.items told.links.items (body_of other told) (body_of other old) other ends
    (subst (λ (ls : List Link). KeepsQueues ls told.links.items) links (as_refl told.links.items)) (done_kept other told old (done other (going_of other told))) here)) in
    inr (inr (subst (λ (x : Option Heard). ResumesAt number x old other) (sym is) (what, taken, at)))

closed_loses : (number : ℕ) (o : Option Heard) (h : Heard) (old : code.Relay) → o ≡ Some h → h.what ≡ whats.Closed → (other : ℕ) → h.key ≡ Some other → LosesAt number o old other
closed_loses number o h old is what other its =
    inl (as_heard number (pool_in old.pool) o h (ends_in old.applications) (queues_in old.applications) other is (subst (λ (w : What). LosesBy w h.key (ends_in old.applications) (queues_in old.applications) other) (sym what) its))

pub nothing_loses : (number : ℕ) (o : Option Heard) (old : code.Relay) → o ≡ None → (other : ℕ) → IsWho (holder (pool_in old.pool) number) other → LosesAt number o old other
nothing_loses number o old is other who = inl (subst (λ (x : Option Heard). LosesFor number x (pool_in old.pool) (ends_in old.applications) (queues_in old.applications) other) (sym is) who)

closed_there : (what : What) → (what ≡ whats.Closed) ⊎ (what ≢ whats.Closed)
closed_there whats.Goes = inr (λ e. (let u : whats.Goes ≡ whats.Closed = e in cc))
closed_there whats.Finished = inr (λ e. (let u : whats.Finished ≡ whats.Closed = e in cc))
closed_there whats.Acknowledged = inr (λ e. (let u : whats.Acknowledged ≡ whats.Closed = e in cc))
closed_there whats.Closed = inl refl

-- what goes out doesn't fit
unsent_loses : (number : ℕ) (o : Option Heard) (h : Heard) (old told : code.Relay) → o ≡ Some h → told.pool ≡ old.pool → told.links.items ≡ old.links.items → (h.what ≢ whats.Closed → told.outbox.items ≡ old.outbox.items) → (other : ℕ)
    → IsWho (holder (pool_in told.pool) number) other → HasNoRoom number told.outbox.items told.links.items → told.outbox.items ≢ [] → LosesAt number o old other
unsent_loses number o h old told is same links out other who none some =
    inr (inl (
      ap (λ (d : pools.Pool). holder (pool_in d) number) (sym same) ∙ who,
      (λ left.
          let lasts : h.what ≢ whats.Closed = subst IsLeftOpen is left in (
            (λ e. some (out lasts ∙ e)),
            subst (λ (xs : List ℕ). HasNoRoom number xs old.links.items) (out lasts) (subst (λ (ls : List Link). HasNoRoom number told.outbox.items ls) links none),
          )),
    ))

-- it is told, and what goes out is sent
pub sent_closes : (number : ℕ) (o : Option Heard) (h : Heard) (old told sent : code.Relay) → o ≡ Some h → (h.what ≢ whats.Closed → told.outbox.items ≡ old.outbox.items) → told.pool ≡ old.pool → told.links.items ≡ old.links.items
    → ClosesOnly (λ other. (h.key ≡ Some other) × (h.what ≡ whats.Closed)) (register_in old) (register_in told)
    → ClosesOnly (λ other. IsWho (holder (pool_in told.pool) number) other × HasNoRoom number told.outbox.items told.links.items × (told.outbox.items ≢ [])) (register_in told) (register_in sent)
    → ClosesOnly (LosesAt number o old) (register_in old) (register_in sent)
sent_closes number o h old told sent is out same links tells sends =
    closes_both (LosesAt number o old) (register_in old) (register_in told) (register_in sent)
    (closes_more (λ other. (h.key ≡ Some other) × (h.what ≡ whats.Closed)) (LosesAt number o old) (register_in old) (register_in told) (λ other x. closed_loses number o h old is x.1 other x.0) tells)
    (closes_more (λ other. IsWho (holder (pool_in told.pool) number) other × HasNoRoom number told.outbox.items told.links.items × (told.outbox.items ≢ [])) (LosesAt number o old) (register_in told) (register_in sent)
    (λ other x. unsent_loses number o h old told is same links (λ lasts. out lasts) other x.0 x.1 x.2) sends)

-- ---- Whose it is that somebody holds

key_found : (d : Pool) (number other : ℕ) (o : Option Hold) → find_number number d.holds ≡ o → key_of o ≡ Some other → (hold : Hold) × (find_number number d.holds ≡ Some hold) × (hold.key ≡ other)
key_found d number other None is key = absurd (let u : None ≡ Some other = key in let v : ⊥ = cc in v)
key_found d number other (Some h) is key = (h, is, (let u : Some h.key ≡ Some other = key in cc))

seat_found : (number : ℕ) (s : Service) (o : Option Seat) → seat_numbered number s.seats ≡ o → is_some o ≡ true → (c : Seat) × (seat_numbered number s.seats ≡ Some c)
seat_found number s None is some = absurd (let u : false ≡ true = some in let v : ⊥ = cc in v)
seat_found number s (Some c) is some = (c, is)

holder_whose : (d : Pool) (ls : List Link) (number other : ℕ) → AreSeated d ls → is_there number ls ≡ true → holder d number ≡ Some other → whose d number ≡ Some other
holder_whose d ls number other s there is =
    let hs = d.holds in
    let P : Hold → Type 0 = λ (y : Hold). Sits d.service y in
    let Q : Hold → Type 0 = λ (y : Hold). find_lease y.lease hs ≡ Some y in
    let x = key_found d number other (find_number number hs) refl is in
    let h : Hold = x.0 in
    let has : P h × Q h = each_number (λ (y : Hold). P y × Q y) number h hs (both_each P Q hs (sits_at d s.reached) (each_found_by 0 d.service.given hs (sound_at d s.reached).rising)) x.1 in
    let c = seat_found number d.service (seat_numbered number d.service.seats) refl (s.each number ∙ there) in
    let lent : c.0.place ≡ Leased h.lease = has.0.lent c.0 (ap (λ (n : ℕ). seat_numbered n d.service.seats) (number_is number h hs x.1) ∙ c.1) in
    ap (λ (o : Option Seat). whose_by (lease_at o) hs) c.1 ∙ ap (λ (p : Place). whose_by (lease_in p) hs) lent ∙ ap key_of has.1 ∙ ap (λ (k : ℕ). Some k) x.2

-- ---- In a call

nothing_key : (key : Option ℕ) (what : What) (ends : EndList) (queues : Queues) (other : ℕ) → key ≡ None → what ≡ whats.Goes → LosesBy what key ends queues other → ⊥
nothing_key key what ends queues other none goes loses =
    let x = subst (λ (w : What). LosesBy w key ends queues other) goes loses in
    (let u : None ≡ Some other = sym none ∙ x.0 in cc)

-- of what nothing came nobody is
of_nothing : (number : ℕ) (left : List ℕ) (o : Option Heard) (mid : code.Relay) (d : Pool) (ends : EndList) (queues : Queues) (other : ℕ) → HearsNothing o → LosesFor number o d ends queues other → LosesOn number left mid other
of_nothing number left None mid d ends queues other none loses = absurd none
of_nothing number left (Some h) mid d ends queues other none loses = absurd (nothing_key h.key h.what ends queues other none.0 none.1 loses)

-- who holds it where a header isn't one held it before
for_before : (number : ℕ) (left : List ℕ) (o : Option Heard) (mid next : code.Relay) (new : Machine) (ends : EndList) (queues : Queues) (other : ℕ) → IsHeardAs number left o mid new → pool_in next.pool ≡ new.core.pool
    → LosesFor number o (pool_in next.pool) ends queues other → LosesFor number o (pool_in mid.pool) ends queues other
for_before number left None mid next new ends queues other heard is loses = ap (λ (d : Pool). holder d number) (sym (is ∙ ap (λ (h : Machine). h.core.pool) heard.hears.1)) ∙ loses
for_before number left (Some h) mid next new ends queues other heard is loses = loses

by_packet : (number : ℕ) (left : List ℕ) (o : Option Heard) (mid next : code.Relay) (new : Machine) (other : ℕ) (Idle : Type 0) → (HearsNothing o × Idle) ⊎ IsHeardAs number left o mid new → pool_in next.pool ≡ new.core.pool
    → LosesFor number o (pool_in next.pool) (ends_in mid.applications) new.queues other → LosesOn number left mid other
by_packet number left o mid next new other Idle (inl none) is loses = of_nothing number left o mid (pool_in next.pool) (ends_in mid.applications) new.queues other none.0 loses
by_packet number left o mid next new other Idle (inr heard) is loses = OfPacket o new heard (for_before number left o mid next new (ends_in mid.applications) new.queues other heard is loses)

there_as : (number : ℕ) (ls : List Link) (l : Link) → link_at number ls ≡ Some l → is_there number ls ≡ true
there_as number ls l is = ap (λ (o : Option Link). is_some o) is

-- whoever holds it behind that, it is his
pub whose_as : (number : ℕ) (left : List ℕ) (o : Option Heard) (mid next : code.Relay) (new : Machine) (other : ℕ) → IsSeated mid → IsHeardAs number left o mid new → pool_in next.pool ≡ new.core.pool → IsWho (holder (pool_in next.pool) number) other
    → whose (pool_in mid.pool) number ≡ Some other
whose_as number left o mid next new other s heard is who =
    holder_whose (pool_in mid.pool) mid.links.items number other s (there_as number mid.links.items heard.link heard.there)
    ((apart_or number left o mid next new s.reached (inr heard) (sym is)).fewer number other who)

-- and he is told
its_key : (number : ℕ) (left : List ℕ) (h : Heard) (mid : code.Relay) (new : Machine) (other : ℕ) → IsHeardAs number left (Some h) mid new → h.what ≡ whats.Closed → whose (pool_in mid.pool) number ≡ Some other → h.key ≡ Some other
its_key number left h mid new other heard closed is =
    elim heard.hears.brings [
      | inl none ↦ absurd (let u : whats.Goes ≡ whats.Closed = sym none.2.1 ∙ closed in let v : ⊥ = cc in v)
      | inr p ↦ p.whose_is ∙ is
    ]

cleans_none : (who : Option ℕ) (out : List ℕ) (other : ℕ) → who ≡ Some other → out ≢ [] → MayClean who [] out → ⊥
cleans_none who out other is some (inl same) = some same
cleans_none who out other is some (inr cleans) = (let u : None ≡ Some other = sym cleans.0 ∙ is in let v : ⊥ = cc in v)

sent_or : (number : ℕ) (left out : List ℕ) (h : Heard) (mid next : code.Relay) (new : Machine) (other : ℕ) → IsSeated mid → IsHeardAs number left (Some h) mid new → pool_in next.pool ≡ new.core.pool → IsWho (holder (pool_in next.pool) number) other
    → Cleans (whose (pool_in mid.pool) number) (Some h) [] out → (IsLeftOpen (Some h) → (out ≢ []) × HasNoRoom number out next.links.items) → (h.what ≡ whats.Closed) ⊎ (h.what ≢ whats.Closed) → LosesOn number left mid other
sent_or number left out h mid next new other s heard is who cleans sends (inl closed) =
    OfPacket (Some h) new heard (subst (λ (w : What). LosesBy w h.key (ends_in mid.applications) new.queues other) (sym closed)
    (its_key number left h mid new other heard closed (whose_as number left (Some h) mid next new other s heard is who)))
sent_or number left out h mid next new other s heard is who cleans sends (inr lasts) =
    absurd (cleans_none (whose (pool_in mid.pool) number) out other (whose_as number left (Some h) mid next new other s heard is who) (sends lasts).0 (cleans lasts))

by_sending : (number : ℕ) (left out : List ℕ) (o : Option Heard) (mid next : code.Relay) (new : Machine) (other : ℕ) → IsSeated mid → IsHeardAs number left o mid new → pool_in next.pool ≡ new.core.pool → IsWho (holder (pool_in next.pool) number) other
    → Cleans (whose (pool_in mid.pool) number) o [] out → (IsLeftOpen o → (out ≢ []) × HasNoRoom number out next.links.items) → LosesOn number left mid other
by_sending number left out None mid next new other s heard is who cleans sends = OfPacket None new heard (for_before number left None mid next new (ends_in mid.applications) new.queues other heard is who)
by_sending number left out (Some h) mid next new other s heard is who cleans sends = sent_or number left out h mid next new other s heard is who cleans sends (closed_there h.what)

idle_left : (o : Option Heard) → HearsNothing o → IsLeftOpen o
idle_left None none = absurd none
idle_left (Some h) none = λ e. (let u : whats.Goes ≡ whats.Closed = sym none.1 ∙ e in cc)

sending_or : (number : ℕ) (left : List ℕ) (o : Option Heard) (mid next : code.Relay) (new : Machine) (other : ℕ) → IsSeated mid → (HearsNothing o × IsIdle mid next) ⊎ IsHeardAs number left o mid new → pool_in next.pool ≡ new.core.pool
    → IsWho (holder (pool_in next.pool) number) other → Cleans (whose (pool_in mid.pool) number) o [] next.outbox.items → (IsLeftOpen o → (next.outbox.items ≢ []) × HasNoRoom number next.outbox.items next.links.items) → LosesOn number left mid other
sending_or number left o mid next new other s (inl idle) is who cleans sends = absurd ((sends (idle_left o idle.0)).0 idle.1.1)
sending_or number left o mid next new other s (inr heard) is who cleans sends = by_sending number left next.outbox.items o mid next new other s heard is who cleans sends

-- nothing goes out to who took something back
held_idle : (number : ℕ) (left out : List ℕ) (h : Heard) (mid : code.Relay) (new : Machine) (ends : EndList) → IsHeardAs number left (Some h) mid new → HasTakenBack h.key ends → MayClean (whose (pool_in mid.pool) number) [] out → out ≡ []
held_idle number left out h mid new ends heard taken (inl same) = same
held_idle number left out h mid new ends heard taken (inr cleans) =
    absurd (elim heard.hears.brings [
      | inl none ↦ (let u : None ≡ Some taken.0 = sym none.2.0 ∙ taken.1 in let v : ⊥ = cc in v)
      | inr p ↦ (let u : None ≡ Some taken.0 = sym cleans.0 ∙ sym p.whose_is ∙ taken.1 in let v : ⊥ = cc in v)
    ])

resumes_by : (number : ℕ) (left : List ℕ) (h : Heard) (mid next : code.Relay) (new : Machine) (other : ℕ) → IsHeardAs number left (Some h) mid new → pool_in next.pool ≡ new.core.pool → told_by (Some h) (ends_in next.applications) ≡ new.core.ends
    → ends_in next.applications ≡ ends_in mid.applications → Cleans (whose (pool_in mid.pool) number) (Some h) [] next.outbox.items → KeepsQueues mid.links.items next.links.items → AskAsBefore mid.applications next.applications
    → ResumesAt number (Some h) next other → LosesOn number left mid other
resumes_by number left h mid next new other heard pool told ends cleans same asks at =
    let lasts : h.what ≢ whats.Closed = λ e. (let u : whats.Acknowledged ≡ whats.Closed = sym at.0 ∙ e in cc) in
    OfResuming h new heard at.0 (subst (λ (es : EndList). HasTakenBack h.key es) ends at.1) next.pool pool
    (not_as number h.key (told_by (Some h) (ends_in next.applications)) new.core.ends next.pool mid.links.items next.links.items (body_of other next) (body_of other mid) other told same (kept_asks other next mid asks)
    (at.2 (held_idle number left next.outbox.items h mid new (ends_in next.applications) heard at.1 (cleans lasts))))

none_resumes : (number : ℕ) (h : Heard) (r : code.Relay) (other : ℕ) → IsNothing h → ResumesAt number (Some h) r other → ⊥
none_resumes number h r other none at = (let u : whats.Acknowledged ≡ whats.Goes = sym at.0 ∙ none.1 in cc)

resumes_or : (number : ℕ) (left : List ℕ) (o : Option Heard) (mid next : code.Relay) (new : Machine) (other : ℕ) → (HearsNothing o × IsIdle mid next) ⊎ IsHeardAs number left o mid new → pool_in next.pool ≡ new.core.pool
    → told_by o (ends_in next.applications) ≡ new.core.ends → ends_in next.applications ≡ ends_in mid.applications → Cleans (whose (pool_in mid.pool) number) o [] next.outbox.items → KeepsQueues mid.links.items next.links.items
    → AskAsBefore mid.applications next.applications → ResumesAt number o next other → LosesOn number left mid other
resumes_or number left None mid next new other heard pool told ends cleans same asks at = absurd at
resumes_or number left (Some h) mid next new other (inl idle) pool told ends cleans same asks at = absurd (none_resumes number h next other idle.0 at)
resumes_or number left (Some h) mid next new other (inr heard) pool told ends cleans same asks at = resumes_by number left h mid next new other heard pool told ends cleans same asks at

loses_or : (number : ℕ) (left : List ℕ) (o : Option Heard) (mid next : code.Relay) (new : Machine) (other : ℕ) → (HearsNothing o × IsIdle mid next) ⊎ IsHeardAs number left o mid new → pool_in next.pool ≡ new.core.pool
    → told_by o (ends_in next.applications) ≡ new.core.ends → ends_in next.applications ≡ ends_in mid.applications → queues_in next.applications ≡ new.queues → Cleans (whose (pool_in mid.pool) number) o [] next.outbox.items
    → KeepsQueues mid.links.items next.links.items → AskAsBefore mid.applications next.applications → IsSeated mid → LosesAt number o next other → LosesOn number left mid other
loses_or number left o mid next new other heard pool told ends queues cleans same asks s (inl loses) =
    by_packet number left o mid next new other (IsIdle mid next) heard pool
    (subst (λ (ps : Queues). LosesFor number o (pool_in next.pool) (ends_in mid.applications) ps other) queues (subst (λ (es : EndList). LosesFor number o (pool_in next.pool) es (queues_in next.applications) other) ends loses))
loses_or number left o mid next new other heard pool told ends queues cleans same asks s (inr (inl x)) = sending_or number left o mid next new other s heard pool x.0 cleans x.1
loses_or number left o mid next new other heard pool told ends queues cleans same asks s (inr (inr at)) = resumes_or number left o mid next new other heard pool told ends cleans same asks at

pub loses_by : (number : ℕ) (left : List ℕ) (o : Option Heard) (mid next : code.Relay) (es : EndList) (other : ℕ) → (HearsNothing o × IsIdle mid next) ⊎ IsHeardAs number left o mid (machine_with (pool_in next.pool) (told_by o es) (queues_in next.applications))
    → es ≡ ends_in mid.applications → ends_in next.applications ≡ ends_in mid.applications → Cleans (whose (pool_in mid.pool) number) o [] next.outbox.items → KeepsQueues mid.links.items next.links.items
    → AskAsBefore mid.applications next.applications → IsSeated mid → LosesAt number o next other → LosesOn number left mid other
loses_by number left o mid next es other heard was ends cleans same asks s why =
    loses_or number left o mid next (machine_with (pool_in next.pool) (told_by o es) (queues_in next.applications)) other heard refl (ap (told_by o) (ends ∙ sym was)) ends refl cleans same asks s why

-- as a pool tells whose it is
pub cleans_as : (what : What) (key who : Option ℕ) (before after : List ℕ) → key ≡ who → (what ≢ whats.Closed → MayClean key before after) → what ≢ whats.Closed → MayClean who before after
cleans_as what key who before after same h lasts = subst (λ (k : Option ℕ). MayClean k before after) same (h lasts)

-- ---- Something is to be sent

pub is_some_waiting : (bytes : List ℕ) → (length bytes == 0) ≡ false → bytes ≢ []
is_some_waiting bytes e = λ none. (let u : true ≡ false = sym (ap (λ (xs : List ℕ). length xs == 0) none) ∙ e in cc)
