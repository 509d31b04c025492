-- Who is turned away from the connection that it holds: that is ready for its request, and doesn't take it.
use Rattle.std.proofs.Common.{◌≡◌, ◌≢◌, ◌⊎◌, ◌∙◌, ◌==◌, ◌++◌, ℕ, zero, suc, Bool, true, false, List, [], ◌∷◌, Option, Some, None, inl, inr, refl, sym, ap, subst, option_map, slice_index_or, slice_set, if◌then◌else◌}
use Rattle.std.specs.Prelude.{IsSome, Result, OnOk, is_some}
use Rattle.slab.specs.Slab.{Slab, get}
use Rattle.tds_client.specs.declared.message.MessageKind.{MessageKind}
use Rattle.tds_front.specs.declared.fault.FrontFault.{FrontFault}
use Rattle.tds_front.specs.declared.front.Front.{Front}
use Rattle.tds_packet.specs.Reading.{Reading}
use Rattle.tds_packet.specs.declared.status.Reset.{Reset}
use Rattle.tds_packet.specs.declared.status.Reset.TheVariants.{KeepTransaction}
use Rattle.tds_relay.specs.declared.application.Application.{Application}
use Rattle.tds_relay.specs.declared.state.Asking.{Asking}
use Rattle.tds_relay.specs.declared.state.Asking.TheVariants as asking
use Rattle.tds_relay.specs.declared.pool.Pool as pools
use Rattle.tds_relay.specs.declared.pool.Hold.{Hold}
use Rattle.tds_relay.specs.declared.link.Link.{Link}
use Rattle.tds_relay.specs.declared.relay.Relay as code
use Rattle.tds_relay.specs.Anew.{ResetsFor}
use Rattle.tds_relay.specs.Asking.{IsTakenBack, waits_in}
use Rattle.tds_relay.specs.Bodies.{AskAsBefore, Astray, Body, Closed, Going, Kept, Nowhere, body_by, body_in, body_of, going_of}
use Rattle.tds_relay.specs.Closings.{ClosesOnly, IsWho, NoKey, Register, register_in}
use Rattle.tds_relay.specs.Pool.{Pool, Renews, Serves, find_key, turn, without_lease}
use Rattle.tds_relay.specs.declared.pool.leaving.Renewed.TheVariants as renewals
use Rattle.tds_relay.proofs.held.Fewer.{last_held, who_held}
use Rattle.tds_relay.proofs.spared.Filling.{lent_holds}
use Rattle.tds_relay.specs.declared.pool.Served.{Served}
use Rattle.tds_relay.specs.Fronts.{MovedOn, ends_in, core_in}
use Rattle.tds_relay.specs.Core.{AsksFor, End, EndList, IfOpen, IfOpenAsks, Open, Over, end_at, holder}
use Rattle.tds_relay.specs.Waiting.{IsOpened, IsUnheldOrTurnedAway, KeepsQueues, OpensFor, IsLentInVain}
use Rattle.tds_relay.specs.Queues.{Queue, fits, queue_in, queues_in}
use Rattle.tds_relay.specs.Reads.{Opens, Seen, HoldsOnLinks, StaysAt, link_at, open_at, open_of, seen_at, seen_of, queue_on}
use Rattle.tds_relay.specs.Reasons as reasons
use Rattle.tds_relay.specs.Reasons.{CannotAsk, CannotGoOn, CannotMove, CannotPart, CannotPut, CannotResume, CannotStart, CannotStartAt, HasNoRoom, IsReadyThere, IsTurnedAway, IsTurnedAwayAt, IsUnbegun, IsUnheld, IsUnrenewed, ItselfFor, NoneBegun, ResumesNot, ResumesNotAt, Unreset}
use Rattle.tds_relay.specs.Sparing.{AllGo, IsKept, IsRenewed, IsUnkept}
use Rattle.tds_relay.specs.Ties.{IsReached, Leaving, Neither, Serving, Turns, pool_in}
use Rattle.tds_relay.specs.Lent.{LendsInLine}
use Rattle.tds_relay.proofs.spared.Apart.{Unserved}
use Rattle.tds_relay.proofs.spared.Lines.{served_waited}
use Rattle.tds_relay.proofs.steps.Fronts.{moves_does}
use Rattle.tds_relay.proofs.spared.Closings.{closes_first, closes_more_on}
use Rattle.tds_relay.proofs.spared.Reasons.{for_that}
use Rattle.tds_relay.proofs.spared.Starting.{unkept_going, unkept_there}
use Rattle.tds_relay.proofs.steps.Fed.{end_open, end_there}
use Rattle.tds_relay.proofs.steps.Staying.{at_refl}
use Rattle.tds_relay.proofs.visits.Unheld.{first_waits, unheld_behind}
use Rattle.tds_relay.specs.Places.{is_closed, own_asking, own_fault, own_held, own_reset, took_back}

-- ---- It waits, and its connection is ready

pub none_by : {A : Type 0} (o : Option A) → is_some o ≡ false → o ≡ None
none_by None e = refl
none_by (Some x) e = absurd (let u : true ≡ false = e in let v : ⊥ = cc in v)

kept_some : (x : Asking) (held : List ℕ) (g : Body) → IsSome (waits_in x) → IsKept (body_by x held g)
kept_some asking.Nothing held g some = absurd (let u : false ≡ true = some in let v : ⊥ = cc in v)
kept_some (asking.Waits kind whole) held g some = tt
kept_some asking.Goes held g some = absurd (let u : false ≡ true = some in let v : ⊥ = cc in v)

kept_if : (over : Bool) (b : Body) → over ≡ false → IsKept b → IsKept (if over then Closed else b)
kept_if true b is k = absurd (let u : true ≡ false = is in let v : ⊥ = cc in v)
kept_if false b is k = k

pub kept_there : (key : ℕ) (r : code.Relay) (a : Application) → Some a ≡ get r.applications key → is_closed a ≡ false → IsSome (waits_in (own_asking a)) → IsKept (body_of key r)
kept_there key r a is over some =
    subst (λ (o : Option Application). IsKept (body_in o (going_of key r))) is (kept_if (is_closed a) (body_by (own_asking a) (own_held a) (going_of key r)) over (kept_some (own_asking a) (own_held a) (going_of key r) some))

not_back : (s : Slab Application) (key : ℕ) (a : Application) → Some a ≡ get s key → is_closed a ≡ false → took_back a ≡ false → ¬ IsTakenBack (end_at (ends_in s) key)
not_back s key a is over drained back =
    let its : took_back a ≡ true = subst IsTakenBack (end_there s key a is ∙ ap Some (end_open a over)) back in
    let u : true ≡ false = sym its ∙ drained in
    let v : ⊥ = cc in
    v

pub ready_there : (key : ℕ) (s : Slab Application) (d : pools.Pool) (links : List Link) (a : Application) (hold : Hold) → Some a ≡ get s key → is_closed a ≡ false → took_back a ≡ false → find_key key d.holds.items ≡ Some hold
    → IsSome (open_at hold.number links) → IsReadyThere key (end_at (ends_in s) key) d links
ready_there key s d links a hold is over drained its there = record { hold = hold; its = its; open_there = there; drained = not_back s key a is over drained }

pub turned_by : (key : ℕ) (end : Option End) (d : pools.Pool) (links : List Link) (body : Body) (hold : Hold) → find_key key d.holds.items ≡ Some hold → IsKept body → IsReadyThere key end d links
    → IfOpen (IsUnbegun false) end ⊎ IfOpenAsks (λ asks. ¬ ResetsFor asks (Some hold) (pool_in d)) end → IsTurnedAway key end d links body
turned_by key end d links body hold its kept ready (inl none) = NoneBegun kept ready none
turned_by key end d links body hold its kept ready (inr not) =
    let same : hold ≡ ready.hold = (let u : Some hold ≡ Some ready.hold = sym its ∙ ready.its in cc) in
    Unreset kept ready (subst (λ (h : Hold). IfOpenAsks (λ asks. ¬ ResetsFor asks (Some h) (pool_in d)) end) same not)

-- ---- Its next bytes

grown : (over was_over whole was : Bool) (more : List ℕ) (key : ℕ) (end : Option End) (room : ℕ) (d : pools.Pool) (links : List Link) (kind : MessageKind) (bytes : List ℕ) → over ≡ was_over
    → IsTurnedAway key end d links (if over then Closed else Kept kind (bytes ++ more) whole) → CannotGoOn whole more key end room d links (if was_over then Closed else Kept kind bytes was)
grown over true whole was more key end room d links kind bytes same why = tt
grown true false whole was more key end room d links kind bytes same why = absurd (let u : true ≡ false = same in let v : ⊥ = cc in v)
grown false false whole was more key end room d links kind bytes same why = inr (inr why)

-- with them it is turned away
pub turned_goes : (whole was : Bool) (more : List ℕ) (key : ℕ) (end : Option End) (room : ℕ) (d : pools.Pool) (links : List Link) (o p : Option Application) (a b : Application) (g h : Body) (kind : MessageKind) → Some a ≡ o → p ≡ Some b
    → own_asking a ≡ asking.Waits kind was → is_closed b ≡ is_closed a → own_held b ≡ own_held a ++ more → own_asking b ≡ asking.Waits kind whole → IsTurnedAway key end d links (body_in p h) → CannotGoOn whole more key end room d links (body_in o g)
turned_goes whole was more key end room d links o p a b g h kind is there asks over held keeps why =
    let from : body_in p h ≡ (if is_closed b then Closed else Kept kind (own_held a ++ more) whole) =
    ap (λ (x : Option Application). body_in x h) there ∙ ap (λ (x : Asking). if is_closed b then Closed else body_by x (own_held b) h) keeps ∙ ap (λ (xs : List ℕ). if is_closed b then Closed else Kept kind xs whole) held in
    subst (λ (x : Option Application). CannotGoOn whole more key end room d links (body_in x g)) is
    (subst (λ (x : Asking). CannotGoOn whole more key end room d links (if is_closed a then Closed else body_by x (own_held a) g)) (sym asks)
    (grown (is_closed b) (is_closed a) whole was more key end room d links kind (own_held a) over (subst (IsTurnedAway key end d links) from why)))

-- ---- Who holds one

pub unstarted_or : (key : ℕ) (r : code.Relay) → IsUnheld key r.pool ⊎ CannotStartAt key r → IsUnheldOrTurnedAway key r
unstarted_or key r (inl none) = inl none
unstarted_or key r (inr why) = inr (reasons.Unstarted why)

turned_or : (key : ℕ) (r : code.Relay) → (IsUnheld key r.pool → ⊥) → IsUnheldOrTurnedAway key r → IsTurnedAwayAt key r
turned_or key r held (inl none) = absurd (held none)
turned_or key r held (inr why) = why

pub turned_held : (key : ℕ) (hold : Hold) (r : code.Relay) → find_key key r.pool.holds.items ≡ Some hold → IsUnheldOrTurnedAway key r → IsTurnedAwayAt key r
turned_held key hold r its why = turned_or key r (λ none. (let u : None ≡ Some hold = sym none ∙ its in let v : ⊥ = cc in v)) why

pub turned_there : (key number : ℕ) (r : code.Relay) → holder (pool_in r.pool) number ≡ Some key → IsUnheldOrTurnedAway key r → IsTurnedAwayAt key r
turned_there key number r its why = turned_or key r (λ none. who_held number key r.pool.holds.items its none) why

pub renewed_held : (key : ℕ) (old d : pools.Pool) (r : code.Relay) (hold : Hold) → IsRenewed (renewals.Kept hold) key old d → r.pool ≡ d → IsUnheldOrTurnedAway key r → IsTurnedAwayAt key r
renewed_held key old d r hold is same why =
    turned_or key r (λ none. last_held key hold (without_lease is.0.lease old.holds.items) is.2 (ap (find_key key) (sym is.3) ∙ ap (λ (e : pools.Pool). find_key key e.holds.items) (sym same) ∙ none)) why

-- ---- It begins

pub held_asks : (key : ℕ) (d : pools.Pool) (A : Type 0) → IsSome (find_key key d.holds.items) → IsUnheld key d ⊎ A → A
held_asks key d A held (inl none) = absurd (let u : false ≡ true = subst (λ (o : Option Hold). IsSome o) none held in let v : ⊥ = cc in v)
held_asks key d A held (inr why) = why

-- ---- A connection opens

either_queue : (b : Bool) (l m : Link) (o p : Option Link) → queue_in l.out ≡ queue_in m.out → option_map (λ (x : Link). queue_in x.out) o ≡ option_map (λ (x : Link). queue_in x.out) p
    → option_map (λ (x : Link). queue_in x.out) (if b then Some l else o) ≡ option_map (λ (x : Link). queue_in x.out) (if b then Some m else p)
either_queue true l m o p same rest = ap Some same
either_queue false l m o p same rest = rest

-- one is written back with what waited there
pub queues_same : (ls : List Link) (i : ℕ) (d m : Link) → m.number ≡ (slice_index_or ls i d).number → queue_in m.out ≡ queue_in (slice_index_or ls i d).out → (n : ℕ) → queue_on n (slice_set ls i m) ≡ queue_on n ls
queues_same [] i d m number queue n = refl
queues_same (x ∷ xs) zero d m number queue n =
    ap (λ (k : ℕ). option_map (λ (l : Link). queue_in l.out) (if k == n then Some m else link_at n xs)) number ∙ either_queue (x.number == n) m x (link_at n xs) (link_at n xs) queue refl
queues_same (x ∷ xs) (suc i) d m number queue n = either_queue (x.number == n) x x (link_at n (slice_set xs i m)) (link_at n xs) refl (queues_same xs i d m number queue n)

-- whose reason is told no more
pub whoever : {A E : Type 0} (r : Result A E) (May Why : ℕ → Type 0) (a b : Register) → OnOk r (ClosesOnly (λ other. May other × Why other) a b) → OnOk r (ClosesOnly May a b)
whoever r May Why a b h = closes_more_on r (λ other. May other × Why other) May a b (λ other x. x.0) h

-- ---- Where the same waits, and the same is open

no_both : (b : Body) → IsKept b → IsUnkept b → ⊥
no_both Closed kept un = kept
no_both Nowhere kept un = kept
no_both (Kept kind bytes whole) kept un = un
no_both Astray kept un = kept
no_both (Going number client waits) kept un = kept

kept_by : (x : Asking) (held : List ℕ) (g h : Body) → IsUnkept g → IsKept (body_by x held g) → body_by x held h ≡ body_by x held g
kept_by asking.Nothing held g h un kept = refl
kept_by (asking.Waits kind whole) held g h un kept = refl
kept_by asking.Goes held g h un kept = absurd (no_both g kept un)

kept_open : (over : Bool) (x : Asking) (held : List ℕ) (g h : Body) → IsUnkept g → IsKept (if over then Closed else body_by x held g) → (if over then Closed else body_by x held h) ≡ (if over then Closed else body_by x held g)
kept_open true x held g h un kept = refl
kept_open false x held g h un kept = kept_by x held g h un kept

-- what is kept is so wherever it would go on
pub kept_any : (o : Option Application) (g h : Body) → IsUnkept g → IsKept (body_in o g) → body_in o h ≡ body_in o g
kept_any None g h un kept = refl
kept_any (Some a) g h un kept = kept_open (is_closed a) (own_asking a) (own_held a) g h un kept

fits_by : (bytes : List ℕ) (o : Option Link) → option_map (λ (l : Link). fits (queue_in l.out) bytes) o ≡ option_map (λ (p : Queue). fits p bytes) (option_map (λ (l : Link). queue_in l.out) o)
fits_by bytes None = refl
fits_by bytes (Some l) = refl

pub room_as : (number : ℕ) (bytes : List ℕ) (old new : List Link) → queue_on number new ≡ queue_on number old → HasNoRoom number bytes new → HasNoRoom number bytes old
room_as number bytes old new same none =
    fits_by bytes (link_at number old) ∙ sym (ap (option_map (λ (p : Queue). fits p bytes)) same) ∙ sym (fits_by bytes (link_at number new)) ∙ none

put_as : (whole : Bool) (more : List ℕ) (key : ℕ) (end : Option End) (d : pools.Pool) (a b : List Link) → KeepsQueues a b → CannotPut whole more key end d b → CannotPut whole more key end d a
put_as whole more key end d a b alike (reasons.Unheld none) = reasons.Unheld none
put_as whole more key end d a b alike (reasons.Unbegun none) = reasons.Unbegun none
put_as whole more key end d a b alike (reasons.Untaken why) = reasons.Untaken why
put_as whole more key end d a b alike (reasons.Unfit mid out puts none) = reasons.Unfit mid out puts (room_as puts.hold.number out a b (alike.queues puts.hold.number) none)

ask_as : (kind : MessageKind) (bytes : List ℕ) (whole : Bool) (key : ℕ) (end : Option End) (d : pools.Pool) (a b : List Link) → KeepsQueues a b → CannotAsk kind bytes whole key end d b → CannotAsk kind bytes whole key end d a
ask_as kind bytes whole key end d a b alike (reasons.Unasked why) = reasons.Unasked why
ask_as kind bytes whole key end d a b alike (reasons.Unput hold its mid turns opens why) = reasons.Unput hold its mid turns opens (put_as whole bytes key end mid a b alike why)

abbrev ready_as : (key : ℕ) (end : Option End) (d : pools.Pool) (a b : List Link) → KeepsQueues a b → IsReadyThere key end d b → IsReadyThere key end d a
ready_as key end d a b alike ready = record { hold = ready.hold; its = ready.its; open_there = alike.opens ready.hold.number ready.open_there; drained = ready.drained }

starts_kept : (key : ℕ) (end : Option End) (d : pools.Pool) (links : List Link) (body : Body) → CannotStart key end d links body → IsKept body
starts_kept key end d links Closed why = why
starts_kept key end d links Nowhere why = why
starts_kept key end d links (Kept kind bytes whole) why = tt
starts_kept key end d links Astray why = why
starts_kept key end d links (Going number client waits) why = why

asks_as : (kind : MessageKind) (bytes : List ℕ) (whole : Bool) (key : ℕ) (end : Option End) (d : pools.Pool) (a b : List Link) → KeepsQueues a b → IsReadyThere key end d b × CannotAsk kind bytes whole key end d b
    → IsReadyThere key end d a × CannotAsk kind bytes whole key end d a
asks_as kind bytes whole key end d a b alike why = (ready_as key end d a b alike why.0, ask_as kind bytes whole key end d a b alike why.1)

start_as : (key : ℕ) (end : Option End) (d : pools.Pool) (a b : List Link) (body : Body) → KeepsQueues a b → CannotStart key end d b body → CannotStart key end d a body
start_as key end d a b Closed alike why = why
start_as key end d a b Nowhere alike why = why
start_as key end d a b (Kept kind bytes whole) alike why = asks_as kind bytes whole key end d a b alike why
start_as key end d a b Astray alike why = why
start_as key end d a b (Going number client waits) alike why = why

pub turned_as : (key : ℕ) (end : Option End) (d : pools.Pool) (a b : List Link) (body was : Body) → KeepsQueues a b → (IsKept body → was ≡ body) → IsTurnedAway key end d b body → IsTurnedAway key end d a was
turned_as key end d a b body was alike same (reasons.Unstarted why) =
    reasons.Unstarted (subst (CannotStart key end d a) (sym (same (starts_kept key end d b body why))) (start_as key end d a b body alike why))
turned_as key end d a b body was alike same (NoneBegun kept ready none) = NoneBegun (subst IsKept (sym (same kept)) kept) (ready_as key end d a b alike ready) none
turned_as key end d a b body was alike same (Unreset kept ready not) = Unreset (subst IsKept (sym (same kept)) kept) (ready_as key end d a b alike ready) not

pub as_refl : (a : List Link) → KeepsQueues a a
as_refl a = record { queues = λ n. refl; opens = λ n some. some }

pub some_seen : (o p : Option Seen) → StaysAt p o → IsSome (open_of o) → IsSome (open_of p)
some_seen None p stays some = absurd (let u : false ≡ true = some in let v : ⊥ = cc in v)
some_seen (Some s) p stays some = subst (λ (q : Option Seen). IsSome (open_of q)) (sym stays) some

-- where those that are there are seen as they were
pub as_seen : (a b : List Link) → ((n : ℕ) → queue_on n b ≡ queue_on n a) → HoldsOnLinks a b → KeepsQueues a b
as_seen a b queues sees = record { queues = queues; opens = λ n some. some_seen (seen_at n b) (seen_at n a) (sees n (seen_at n a) (at_refl (seen_at n a))) some }

-- what is kept is as it was kept
pub kept_asks : (key : ℕ) (r r0 : code.Relay) → AskAsBefore r0.applications r.applications → IsKept (body_of key r) → body_of key r0 ≡ body_of key r
kept_asks key r r0 asks kept =
    kept_any (get r0.applications key) (going_of key r) (going_of key r0) (unkept_going r.pool.service r.links.items (find_key key r.pool.holds.items)) (subst IsKept (asks key (going_of key r)) kept) ∙ sym (asks key (going_of key r))

-- as its application was before, at this pool
pub turned_with : (key : ℕ) (r r0 : code.Relay) (d : pools.Pool) (a : List Link) → r.pool ≡ d → ends_in r.applications ≡ ends_in r0.applications → AskAsBefore r0.applications r.applications → KeepsQueues a r.links.items → IsTurnedAwayAt key r
    → IsTurnedAway key (end_at (ends_in r0.applications) key) d a (body_of key r0)
turned_with key r r0 d a pool ends asks alike why =
    subst (λ (e : pools.Pool). IsTurnedAway key (end_at (ends_in r0.applications) key) e a (body_of key r0)) pool
    (subst (λ (es : EndList). IsTurnedAway key (end_at es key) r.pool a (body_of key r0)) ends (turned_as key (end_at (ends_in r.applications) key) r.pool a r.links.items (body_of key r) (body_of key r0) alike (kept_asks key r r0 asks) why))

pub turned_on : (key : ℕ) (r r0 : code.Relay) (a : List Link) → r.pool ≡ r0.pool → ends_in r.applications ≡ ends_in r0.applications → AskAsBefore r0.applications r.applications → KeepsQueues a r.links.items → IsTurnedAwayAt key r
    → IsTurnedAway key (end_at (ends_in r0.applications) key) r0.pool a (body_of key r0)
turned_on key r r0 a pool ends asks alike why = turned_with key r r0 r0.pool a pool ends asks alike why

pub turned_kept : (key : ℕ) (end : Option End) (d : pools.Pool) (links : List Link) (body : Body) → IsTurnedAway key end d links body → IsKept body
turned_kept key end d links body (reasons.Unstarted why) = starts_kept key end d links body why
turned_kept key end d links body (NoneBegun kept ready none) = kept
turned_kept key end d links body (Unreset kept ready not) = kept

-- ---- What is to keep its transaction

pub renewed_as : (Stays : Type 0) (key : ℕ) (end : Option End) (d : pools.Pool) (a b : List Link) (body was : Body) → KeepsQueues a b → (IsKept body → was ≡ body) → IsUnrenewed Stays key end d b body → IsUnrenewed Stays key end d a was
renewed_as Stays key end d a b body was alike same (reasons.Unkept is stays) = reasons.Unkept is stays
renewed_as Stays key end d a b body was alike same (reasons.Unserved mid may is why) = reasons.Unserved mid may is (turned_as key end mid a b body was alike same why)

resume_as : (key : ℕ) (end : Option End) (d : pools.Pool) (a b : List Link) (body was : Body) → KeepsQueues a b → (IsKept body → was ≡ body) → CannotResume key end d b body → CannotResume key end d a was
resume_as key end d a b body was alike same (inl x) = inl (x.0, turned_as key end d a b body was alike same x.1)
resume_as key end d a b body was alike same (inr x) = inr (x.0, renewed_as (CannotMove key end (pool_in d)) key end d a b body was alike same x.1)

pub not_as : (number : ℕ) (key : Option ℕ) (ends ends1 : EndList) (d : pools.Pool) (a b : List Link) (body was : Body) (other : ℕ) → ends ≡ ends1 → KeepsQueues a b → (IsKept body → was ≡ body) → ResumesNot number key ends d b body other
    → ResumesNot number key ends1 d a was other
not_as number key ends ends1 d a b body was other e alike same (inl x) =
    inl (
      x.0,
      elim x.1 [
        | inl none ↦ inl none
        | inr why ↦ inr (subst (λ (es : EndList). CannotResume other (end_at es other) d a was) e (resume_as other (end_at ends other) d a b body was alike same why))
      ],
    )
not_as number key ends ends1 d a b body was other e alike same (inr x) = inr x

pub part_at : (key : ℕ) (end : Option End) (d e : pools.Pool) → pool_in d ≡ pool_in e → CannotPart key end d → CannotPart key end e
part_at key end d e same (reasons.Out out) = reasons.Out out
part_at key end d e same (reasons.Held mid leaving some) = reasons.Held mid (subst (λ (x : Pool). Leaving key x (pool_in mid)) same leaving) some

begun_if : (over : Bool) (b : Body) → IsKept (if over then Closed else b) → b ≡ (if over then Closed else b)
begun_if true b kept = absurd kept
begun_if false b kept = refl

-- one that begins
pub begun_kept : (o : Option Application) (b : Application) (message : MessageKind) (g : Body) → o ≡ Some b → own_asking b ≡ asking.Waits message false → own_held b ≡ [] → IsKept (body_in o g) → Kept message [] false ≡ body_in o g
begun_kept o b message g is asks held kept =
    let from : body_in o g ≡ (if is_closed b then Closed else Kept message [] false) =
    ap (λ (x : Option Application). body_in x g) is ∙ ap (λ (x : Asking). if is_closed b then Closed else body_by x (own_held b) g) asks ∙ ap (λ (xs : List ℕ). if is_closed b then Closed else Kept message xs false) held in
    begun_if (is_closed b) (Kept message [] false) (subst IsKept from kept) ∙ sym from

asks_if : (over w : Bool) (b : Body) (why : Option FrontFault) (front : Front) (asks : Option Reset) → asks ≢ Some KeepTransaction → IsKept (if over then Closed else b) → ¬ AsksFor KeepTransaction (Some (if over then Over why else Open front w asks))
asks_if true w b why front asks differs kept = absurd kept
asks_if false w b why front asks differs kept = differs

asks_none : (key : ℕ) (r : code.Relay) (a : Application) → Some a ≡ get r.applications key → (waits_in (own_asking a) ≡ None) ⊎ (own_reset a ≢ Some KeepTransaction) → IsKept (body_of key r) → ¬ AsksFor KeepTransaction (end_at (ends_in r.applications) key)
asks_none key r a is (inl none) kept = absurd (no_both (body_of key r) kept (unkept_there key r a is none))
asks_none key r a is (inr differs) kept =
    subst (λ (o : Option End). ¬ AsksFor KeepTransaction o) (sym (end_there r.applications key a is))
    (asks_if (is_closed a) (took_back a) (body_by (own_asking a) (own_held a) (going_of key r)) (own_fault a) a.front (own_reset a) differs (subst (λ (o : Option Application). IsKept (body_in o (going_of key r))) (sym is) kept))

pub asks_not : (key : ℕ) (r : code.Relay) (a : Application) → Some a ≡ get r.applications key → (waits_in (own_asking a) ≡ None) ⊎ (own_reset a ≢ Some KeepTransaction) → IsKept (body_of key r) → ¬ AsksFor KeepTransaction (end_at (ends_in r.applications) key)
asks_not key r a is why kept = asks_none key r a is why kept

back_if : (over w : Bool) (why : Option FrontFault) (front : Front) (asks : Option Reset) → w ≡ false → ¬ IsTakenBack (Some (if over then Over why else Open front w asks))
back_if true w why front asks drained back = back
back_if false w why front asks drained back = (let u : true ≡ false = sym back ∙ drained in let v : ⊥ = cc in v)

-- whoever took nothing back
pub back_not : (s : Slab Application) (key : ℕ) (a : Application) → Some a ≡ get s key → took_back a ≡ false → ¬ IsTakenBack (end_at (ends_in s) key)
back_not s key a is drained back = back_if (is_closed a) (took_back a) (own_fault a) a.front (own_reset a) drained (subst IsTakenBack (end_there s key a is) back)

-- with what a relay has
abbrev pub CannotResumeAt : ℕ → code.Relay → Type 0
CannotResumeAt key r = CannotResume key (end_at (ends_in r.applications) key) r.pool r.links.items (body_of key r)

pub resume_or : (key : ℕ) (r : code.Relay) → (IsKept (body_of key r) → ¬ AsksFor KeepTransaction (end_at (ends_in r.applications) key)) → IsUnheldOrTurnedAway key r → IsUnheld key r.pool ⊎ CannotResumeAt key r
resume_or key r not (inl none) = inl none
resume_or key r not (inr why) = inr (inl (not (turned_kept key (end_at (ends_in r.applications) key) r.pool r.links.items (body_of key r) why), why))

pub resumes_for : (number key other : ℕ) (old : code.Relay) → other ≡ key → AsksFor KeepTransaction (end_at (ends_in old.applications) key)
    → IsUnrenewed (CannotMove key (end_at (ends_in old.applications) key) (pool_in old.pool)) key (end_at (ends_in old.applications) key) old.pool old.links.items (body_of key old) → ResumesNotAt number key old other
resumes_for number key other old same asks why = inl (ap (λ (k : ℕ). Some k) (sym same), inr (subst (λ (k : ℕ). CannotResumeAt k old) (sym same) (inr (asks, why))))

pub stays_for : (number key other : ℕ) (old : code.Relay) (d : Pool) → AsksFor KeepTransaction (end_at (ends_in old.applications) key) → d ≡ pool_in old.pool → (turn (pool_in old.pool) (Renews key true)).pool ≡ pool_in old.pool
    → (other ≡ key) ⊎ (other ≢ key) → IsWho (holder d number) other × CannotMove other (end_at (ends_in old.applications) other) d → ResumesNotAt number key old other
stays_for number key other old d asks is still (inl same) why =
    resumes_for number key other old same asks
    (reasons.Unkept still (subst (λ (k : ℕ). CannotMove k (end_at (ends_in old.applications) k) (pool_in old.pool)) same (subst (λ (e : Pool). CannotMove other (end_at (ends_in old.applications) other) e) is why.1)))
stays_for number key other old d asks is still (inr differs) why =
    inr ((λ e. differs (let u : Some key ≡ Some other = e in cc)), subst (λ (e : Pool). IsWho (holder e number) other) is why.0)

-- ---- A connection is written back

flag_either : (b : Bool) (l m : Link) (o p : Option Link) → l.is_open ≡ m.is_open → option_map (λ (x : Link). x.is_open) o ≡ option_map (λ (x : Link). x.is_open) p
    → option_map (λ (x : Link). x.is_open) (if b then Some l else o) ≡ option_map (λ (x : Link). x.is_open) (if b then Some m else p)
flag_either true l m o p same rest = ap Some same
flag_either false l m o p same rest = rest

flags_same : (ls : List Link) (i : ℕ) (d m : Link) → m.number ≡ (slice_index_or ls i d).number → m.is_open ≡ (slice_index_or ls i d).is_open → (n : ℕ)
    → option_map (λ (l : Link). l.is_open) (link_at n (slice_set ls i m)) ≡ option_map (λ (l : Link). l.is_open) (link_at n ls)
flags_same [] i d m number same n = refl
flags_same (x ∷ xs) zero d m number same n =
    ap (λ (k : ℕ). option_map (λ (l : Link). l.is_open) (if k == n then Some m else link_at n xs)) number ∙ flag_either (x.number == n) m x (link_at n xs) (link_at n xs) same refl
flags_same (x ∷ xs) (suc i) d m number same n = flag_either (x.number == n) x x (link_at n (slice_set xs i m)) (link_at n xs) refl (flags_same xs i d m number same n)

open_if : (a b : Bool) (r s : Reading) → a ≡ b → IsSome (if a then Some r else None) → IsSome (if b then Some s else None)
open_if true true r s e some = refl
open_if true false r s e some = absurd (let u : true ≡ false = e in let v : ⊥ = cc in v)
open_if false b r s e some = absurd (let u : false ≡ true = some in let v : ⊥ = cc in v)

open_flag : (o p : Option Link) → option_map (λ (l : Link). l.is_open) o ≡ option_map (λ (l : Link). l.is_open) p → IsSome (open_of (option_map seen_of o)) → IsSome (open_of (option_map seen_of p))
open_flag None p e some = absurd (let u : false ≡ true = some in let v : ⊥ = cc in v)
open_flag (Some l) None e some = absurd (let u : Some l.is_open ≡ None = e in let v : ⊥ = cc in v)
open_flag (Some l) (Some m) e some = open_if l.is_open m.is_open l.reader m.reader (let u : Some l.is_open ≡ Some m.is_open = e in cc) some

-- with what waited there, and open as it was
pub keeps_written : (ls : List Link) (i : ℕ) (d m : Link) → m.number ≡ (slice_index_or ls i d).number → queue_in m.out ≡ queue_in (slice_index_or ls i d).out → m.is_open ≡ (slice_index_or ls i d).is_open → KeepsQueues ls (slice_set ls i m)
keeps_written ls i d m number queue same = record {
  queues = λ n. queues_same ls i d m number queue n;
  opens = λ n some. open_flag (link_at n (slice_set ls i m)) (link_at n ls) (flags_same ls i d m number same n) some;
}

-- ---- As a connection opens

pub opens_for : (number other : ℕ) (old r : code.Relay) → r.pool ≡ old.pool → ends_in r.applications ≡ ends_in old.applications → AskAsBefore old.applications r.applications → IsOpened number old.links.items r.links.items
    → IsWho (holder (pool_in r.pool) number) other × IsTurnedAwayAt other r → OpensFor number old other
opens_for number other old r pool ends asks opened why =
    (ap (λ (d : pools.Pool). holder (pool_in d) number) (sym pool) ∙ why.0, r.links.items, opened, turned_on other r old r.links.items pool ends asks (as_refl r.links.items) why.1)

-- ---- One that is lent one

pub lent_for : {A E : Type 0} (r : Result A E) (key : ℕ) (old mid new : code.Relay) → mid.pool ≡ old.pool → mid.applications ≡ old.applications → ((n : ℕ) → queue_on n mid.links.items ≡ queue_on n old.links.items)
    → HoldsOnLinks old.links.items mid.links.items → ClosesOnly NoKey (register_in old) (register_in mid) → OnOk r (ClosesOnly (ItselfFor key (IsUnheldOrTurnedAway key mid)) (register_in mid) (register_in new))
    → OnOk r (ClosesOnly (ItselfFor key (IsUnheldOrTurnedAway key old)) (register_in old) (register_in new))
lent_for r key old mid new pool same queues sees first next =
    closes_first r (ItselfFor key (IsUnheldOrTurnedAway key old)) (register_in old) (register_in mid) (register_in new)
    (for_that r key (IsUnheldOrTurnedAway key mid) (IsUnheldOrTurnedAway key old) (register_in mid) (register_in new) (λ why. elim why [
      | inl none ↦ inl (subst (λ (d : pools.Pool). IsUnheld key d) pool none)
      | inr away ↦ inr (turned_on key mid old old.links.items pool (ap ends_in same) (λ k goes. ap (λ (s : Slab Application). body_in (get s k) goes) same) (as_seen old.links.items mid.links.items queues sees) away)
    ]) next) first

abbrev at_pool : code.Relay → pools.Pool → code.Relay
at_pool r d = record r { pool = d }

-- in turn
pub lent_in_vain : (start mid : code.Relay) (after : pools.Pool) (o : Option Served) (served : Served) (key : ℕ) → Unserved (core_in start) (core_in mid) → Serving (pool_in mid.pool) o → o ≡ Some served
    → Turns Serves (pool_in mid.pool) (pool_in after) [] [] → MovedOn (core_in start) (core_in mid) → AllGo start (at_pool mid after) → Opens start.links.items mid.links.items → (IsReached (pool_in start.pool) → LendsInLine start mid)
    → key ≡ served.hold.key → IsUnheldOrTurnedAway served.hold.key (at_pool mid after) → IsLentInVain start key
lent_in_vain start mid after o served key unserved serving is turns moved goes opens queues same turned = record {
  waits = served_waited (core_in start) (core_in mid) o served unserved serving is key same;
  free = mid.pool;
  first = λ sharing led.
      let s = subst (Serving (pool_in mid.pool)) is serving in
      unheld_behind sharing key (core_in start) (core_in mid) (queues_in start.applications) (moved Neither) led (first_waits key served.hold.key mid.pool.line.items s.0 s.1 (sym same));
  at = at_pool mid after;
  lent = turns;
  moved = λ by from h. moves_does by from _ _ _ _ _ _ _ turns tt tt refl (moved by from h);
  goes = goes;
  opens = opens;
  queues = queues;
  turned =
      let s = subst (Serving (pool_in mid.pool)) is serving in
      let held : after.holds.items ≡ mid.pool.holds.items ++ served.hold ∷ [] = lent_holds (pool_in mid.pool) (pool_in after) served s.0 turns.pool_is s.1 s.2 in
      subst (λ (k : ℕ). IsTurnedAwayAt k (at_pool mid after)) (sym same)
      (turned_or served.hold.key (at_pool mid after) (λ none. last_held served.hold.key served.hold mid.pool.holds.items refl (ap (find_key served.hold.key) (sym held) ∙ none)) turned);
}
