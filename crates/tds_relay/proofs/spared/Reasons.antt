-- Why an application is closed by what it says: piece by piece, and by a loan behind them.
use Rattle.std.proofs.Common.{◌≡◌, ◌≢◌, ◌⊎◌, ◌<◌, ◌∙◌, ℕ, Bool, true, false, List, [], ◌++◌, length, Option, Some, None, inl, inr, refl, sym, ap, subst, option_map, if◌then◌else◌}
use Rattle.std.proofs.lemmas.Bool.{cases_eq}
use Rattle.std.specs.Prelude.{IfNone, IfSome, Result, OnOk}
use Rattle.slab.specs.Slab.{Slab, get}
use Rattle.tds_packet.specs.declared.kind.Kind.{Kind}
use Rattle.tds_packet.specs.declared.status.Reset.{Reset}
use Rattle.tds_packet.specs.declared.status.Reset.TheVariants.{Full, KeepTransaction}
use Rattle.tds_client.specs.declared.message.MessageKind.{MessageKind}
use Rattle.tds_client.specs.declared.state.Cancelled.{Cancelled}
use Rattle.tds_client.specs.declared.state.Cancelled.TheVariants as how
use Rattle.tds_client.specs.Session.{ClientSession}
use Rattle.tds_front.specs.declared.front.Said.{Said}
use Rattle.tds_wire.specs.declared.told.Token.{Token}
use Rattle.tds_service.specs.declared.refusal.Refusal.{Refusal}
use Rattle.tds_service.specs.declared.service.Service as services
use Rattle.tds_service.specs.Service.{Call}
use Rattle.tds_service.specs.Table.{Denies, client_of, service_in}
use Rattle.tds_relay.specs.declared.application.Application.{Application}
use Rattle.tds_relay.specs.declared.state.Asking.{Asking}
use Rattle.tds_relay.specs.declared.state.Asking.TheVariants as asking
use Rattle.tds_relay.specs.declared.pool.Pool as pools
use Rattle.tds_relay.specs.declared.pool.Hold.{Hold}
use Rattle.tds_relay.specs.declared.link.Link.{Link}
use Rattle.tds_relay.specs.declared.relay.Relay as code
use Rattle.tds_relay.specs.Bodies.{Body, ClientPuts, ClientStops, Closed, IsHalting, Kept, Nowhere, Spared, body_by, body_in, going, going_by}
use Rattle.tds_relay.specs.Closings.{ClosesOnly, IsNoRequest, Itself, Register}
use Rattle.tds_relay.specs.Pool.{find_key}
use Rattle.tds_relay.specs.Core.{End, IfOpen}
use Rattle.tds_relay.specs.Queues.{Queue, Queues, queue_at, queue_of, queues_in}
use Rattle.tds_relay.specs.Reads.{waits_on}
use Rattle.tds_relay.specs.Holding.{Held}
use Rattle.tds_relay.specs.Waiting.{ByLoan, ForReasonOrWaiting, IsLentBehind, IsLentInVain, IsTakenTo}
use Rattle.tds_relay.specs.Reasons.{CannotAsk, CannotBegin, CannotForget, CannotGoOn, CannotPut, CannotStart, CannotUnask, HasNoRoom, IsAstray, IsOverfull, IsReadyThere, IsReason, IsTurnedAway, IsUnbegun, IsUncancelled, IsUnheld, IsUnstopped, ItselfFor, MayClose, RefusesThere, StopsUnfit, room_left}
use Rattle.tds_relay.specs.Ties.{Application as ByApplication, LedTo, pool_in}
use Rattle.tds_relay.specs.Told.{room_to_keep}
use Rattle.tds_relay.proofs.spared.Closings.{closes_more_on}
use Rattle.tds_relay.proofs.spared.Lines.{ItselfOrWaiting, waited_or}
use Rattle.tds_relay.proofs.steps.Queueing.{queue_is}
use Rattle.tds_relay.specs.Places.{is_closed, own_asking, own_held}

pub for_reason : {A E : Type 0} (r : Result A E) (key : ℕ) (R : Type 0) (a b : Register) → R → OnOk r (ClosesOnly (Itself key) a b) → OnOk r (ClosesOnly (ItselfFor key R) a b)
for_reason r key R a b why h = closes_more_on r (Itself key) (ItselfFor key R) a b (λ other same. (same, why)) h

pub for_that : {A E : Type 0} (r : Result A E) (key : ℕ) (R S : Type 0) (a b : Register) → (R → S) → OnOk r (ClosesOnly (ItselfFor key R) a b) → OnOk r (ClosesOnly (ItselfFor key S) a b)
for_that r key R S a b f h = closes_more_on r (ItselfFor key R) (ItselfFor key S) a b (λ other x. (x.0, f x.1)) h

pub for_any : {A E : Type 0} (r : Result A E) (key : ℕ) (R : Type 0) (a b : Register) → OnOk r (ClosesOnly (ItselfFor key R) a b) → OnOk r (ClosesOnly (Itself key) a b)
for_any r key R a b h = closes_more_on r (ItselfFor key R) (Itself key) a b (λ other x. x.0) h

-- ---- It can't go on

nothing_by : (over whole : Bool) (more : List ℕ) (key : ℕ) (end : Option End) (room : ℕ) (d : pools.Pool) (links : List Link) → CannotGoOn whole more key end room d links (if over then Closed else Nowhere)
nothing_by true whole more key end room d links = tt
nothing_by false whole more key end room d links = tt

pub nothing_goes : (whole : Bool) (more : List ℕ) (key : ℕ) (end : Option End) (room : ℕ) (d : pools.Pool) (links : List Link) (o : Option Application) (a : Application) (g : Body) → Some a ≡ o → own_asking a ≡ asking.Nothing
    → CannotGoOn whole more key end room d links (body_in o g)
nothing_goes whole more key end room d links o a g is asks =
    subst (λ (x : Option Application). CannotGoOn whole more key end room d links (body_in x g)) is
    (subst (λ (x : Asking). CannotGoOn whole more key end room d links (if is_closed a then Closed else body_by x (own_held a) g)) (sym asks) (nothing_by (is_closed a) whole more key end room d links))

abbrev CannotGrow : Bool → List ℕ → ℕ → Option End → ℕ → pools.Pool → List Link → MessageKind → List ℕ → Type 0
CannotGrow whole more key end room d links kind bytes = (room < length more) ⊎ (IfOpen (IsUnbegun false) end ⊎ IsTurnedAway key end d links (Kept kind (bytes ++ more) whole))

kept_by : (over whole : Bool) (more : List ℕ) (key : ℕ) (end : Option End) (room : ℕ) (d : pools.Pool) (links : List Link) (kind : MessageKind) (bytes : List ℕ) (was : Bool) → CannotGrow whole more key end room d links kind bytes
    → CannotGoOn whole more key end room d links (if over then Closed else Kept kind bytes was)
kept_by true whole more key end room d links kind bytes was why = tt
kept_by false whole more key end room d links kind bytes was why = why

kept_goes : (whole : Bool) (more : List ℕ) (key : ℕ) (end : Option End) (room : ℕ) (d : pools.Pool) (links : List Link) (o : Option Application) (a : Application) (g : Body) (kind : MessageKind) (was : Bool) → Some a ≡ o
    → own_asking a ≡ asking.Waits kind was → CannotGrow whole more key end room d links kind (own_held a) → CannotGoOn whole more key end room d links (body_in o g)
kept_goes whole more key end room d links o a g kind was is asks why =
    subst (λ (x : Option Application). CannotGoOn whole more key end room d links (body_in x g)) is
    (subst (λ (x : Asking). CannotGoOn whole more key end room d links (if is_closed a then Closed else body_by x (own_held a) g)) (sym asks) (kept_by (is_closed a) whole more key end room d links kind (own_held a) was why))

-- it is too long to be kept
pub too_long : (whole : Bool) (more : List ℕ) (key : ℕ) (end : Option End) (d : pools.Pool) (links : List Link) (o : Option Application) (a : Application) (g : Body) (kind : MessageKind) (was : Bool) → Some a ≡ o
    → own_asking a ≡ asking.Waits kind was → room_to_keep a < length more → CannotGoOn whole more key end (room_left o) d links (body_in o g)
too_long whole more key end d links o a g kind was is asks long = kept_goes whole more key end (room_left o) d links o a g kind was is asks (inl (subst (λ (x : Option Application). room_left x < length more) is long))

-- none has begun
pub unbegun_goes : (whole : Bool) (more : List ℕ) (key : ℕ) (end : Option End) (room : ℕ) (d : pools.Pool) (links : List Link) (o : Option Application) (a : Application) (g : Body) (kind : MessageKind) (was : Bool) → Some a ≡ o
    → own_asking a ≡ asking.Waits kind was → IfOpen (IsUnbegun false) end → CannotGoOn whole more key end room d links (body_in o g)
unbegun_goes whole more key end room d links o a g kind was is asks unbegun = kept_goes whole more key end room d links o a g kind was is asks (inr (inl unbegun))

going_with : (whole : Bool) (more : List ℕ) (key : ℕ) (end : Option End) (room : ℕ) (d : pools.Pool) (links : List Link) (number : ℕ) (o : Option ClientSession) (w : Option (List ℕ)) → CannotPut whole more key end d links
    → CannotGoOn whole more key end room d links (going_by number o w)
going_with whole more key end room d links number None w why = why
going_with whole more key end room d links number (Some client) None why = why
going_with whole more key end room d links number (Some client) (Some waits) why = why

going_goes : (whole : Bool) (more : List ℕ) (key : ℕ) (end : Option End) (room : ℕ) (d : pools.Pool) (links : List Link) (o : Option Hold) → CannotPut whole more key end d links
    → CannotGoOn whole more key end room d links (going d.service links o)
going_goes whole more key end room d links None why = why
going_goes whole more key end room d links (Some hold) why = going_with whole more key end room d links hold.number (client_of hold.lease d.service) (waits_on hold.number links) why

over_or : (over whole : Bool) (more : List ℕ) (key : ℕ) (end : Option End) (room : ℕ) (d : pools.Pool) (links : List Link) (b : Body) → CannotGoOn whole more key end room d links b → CannotGoOn whole more key end room d links (if over then Closed else b)
over_or true whole more key end room d links b why = tt
over_or false whole more key end room d links b why = why

-- it isn't put where it goes on
pub put_goes : (whole : Bool) (more : List ℕ) (key : ℕ) (end : Option End) (room : ℕ) (d : pools.Pool) (links : List Link) (o : Option Application) (a : Application) → Some a ≡ o → own_asking a ≡ asking.Goes → CannotPut whole more key end d links
    → CannotGoOn whole more key end room d links (body_in o (going d.service links (find_key key d.holds.items)))
put_goes whole more key end room d links o a is asks why =
    let g = going d.service links (find_key key d.holds.items) in
    subst (λ (x : Option Application). CannotGoOn whole more key end room d links (body_in x g)) is
    (subst (λ (x : Asking). CannotGoOn whole more key end room d links (if is_closed a then Closed else body_by x (own_held a) g)) (sym asks)
    (over_or (is_closed a) whole more key end room d links g (going_goes whole more key end room d links (find_key key d.holds.items) why)))

pub no_room_there : (whole : Bool) (more : List ℕ) (key : ℕ) (d mid : pools.Pool) (out : List ℕ) (links : List Link) (hold : Hold) (p : ClientPuts whole more key d mid [] out) → find_key key d.holds.items ≡ Some hold → HasNoRoom hold.number out links
    → HasNoRoom p.hold.number out links
no_room_there whole more key d mid out links hold p its none =
    let same : hold ≡ p.hold = (let u : Some hold ≡ Some p.hold = sym its ∙ p.its in cc) in
    subst (λ (h : Hold). HasNoRoom h.number out links) same none

pub no_request : (kind : Kind) (reset : Option Reset) (key : ℕ) (end : Option End) (d : pools.Pool) (links : List Link) → IsNoRequest kind → CannotBegin kind reset key end d links
no_request kind None key end d links none = inl none
no_request kind (Some KeepTransaction) key end d links none = inl none
no_request kind (Some Full) key end d links none = inl none

-- ---- It isn't asked where it begins

abbrev CannotAskNow : ℕ → Option End → pools.Pool → List Link → MessageKind → Type 0
CannotAskNow key end d links message = IsReadyThere key end d links × CannotAsk message [] false key end d links

asks_by : (over : Bool) (key : ℕ) (end : Option End) (d : pools.Pool) (links : List Link) (message : MessageKind) → CannotStart key end d links (if over then Closed else Kept message [] false) → CannotAskNow key end d links message
asks_by true key end d links message why = absurd why
asks_by false key end d links message why = why

pub begun_asks : (key : ℕ) (end : Option End) (d : pools.Pool) (links : List Link) (o : Option Application) (g : Body) (b : Application) (message : MessageKind) → o ≡ Some b → own_asking b ≡ asking.Waits message false → own_held b ≡ []
    → CannotStart key end d links (body_in o g) → CannotAskNow key end d links message
begun_asks key end d links o g b message is asked held why =
    asks_by (is_closed b) key end d links message
    (subst (CannotStart key end d links)
    (ap (λ (x : Option Application). body_in x g) is ∙ ap (λ (x : Asking). if is_closed b then Closed else body_by x (own_held b) g) asked ∙ ap (λ (xs : List ℕ). if is_closed b then Closed else Kept message xs false) held) why)

-- ---- It can't be taken back

refused_by : (call : ℕ → ℕ → Call Token) (key : ℕ) (d : pools.Pool) (refusal : Refusal) (o : Option Hold) → find_key key d.holds.items ≡ o → IsReason refusal
    → ((hold : Hold) → find_key key d.holds.items ≡ Some hold → (count : ℕ) → Denies (call hold.lease count) (service_in d.service) refusal) → IsUnheld key d ⊎ RefusesThere call key d
refused_by call key d refusal None its reason refuses = inl its
refused_by call key d refusal (Some hold) its reason refuses = inr (record { hold = hold; its = its; refusal = refusal; reason = reason; refuses = refuses hold its })

-- where it holds one
pub refused_there : (call : ℕ → ℕ → Call Token) (key : ℕ) (d : pools.Pool) (refusal : Refusal) → IsReason refusal
    → ((hold : Hold) → find_key key d.holds.items ≡ Some hold → (count : ℕ) → Denies (call hold.lease count) (service_in d.service) refusal) → IsUnheld key d ⊎ RefusesThere call key d
refused_there call key d refusal reason refuses = refused_by call key d refusal (find_key key d.holds.items) refl reason refuses

pub uncancelled : (key : ℕ) (end : Option End) (d : pools.Pool) (links : List Link) → IsUnheld key d ⊎ IsUncancelled key d → IsUnheld key d ⊎ CannotUnask key end d links
uncancelled key end d links (inl none) = inl none
uncancelled key end d links (inr why) = inr (inr (inl why))

pub unstopped : (key : ℕ) (d : pools.Pool) → IsUnheld key d ⊎ IsUncancelled key d → IsUnstopped key d
unstopped key d (inl none) = inl none
unstopped key d (inr why) = inr (inl why)

-- one that goes on
asked_by : (over : Bool) (g : Body) → Spared g (if over then Closed else g)
asked_by true g = inr refl
asked_by false g = inl refl

pub asked_goes : (o : Option Application) (a : Application) (g : Body) → Some a ≡ o → own_asking a ≡ asking.Goes → Spared g (body_in o g)
asked_goes o a g is asks =
    subst (λ (x : Option Application). Spared g (body_in x g)) is (subst (λ (x : Asking). Spared g (if is_closed a then Closed else body_by x (own_held a) g)) (sym asks) (asked_by (is_closed a) g))

astray_of : (s : services.Service) (links : List Link) (o : Option Hold) (b : Body) → o ≡ None → Spared (going s links o) b → IsAstray b
astray_of s links o b none (inl e) = subst IsAstray (sym (e ∙ ap (going s links) none)) tt
astray_of s links o b none (inr e) = subst IsAstray (sym e) tt

-- who holds none is astray
pub forgotten : (key : ℕ) (end : Option End) (d mid : pools.Pool) (links : List Link) (o : Option Application) → ((g : Body) → Spared g (body_in o g)) → mid.holds ≡ d.holds → mid.service ≡ d.service
    → IsUnheld key mid ⊎ CannotUnask key end mid links → CannotForget false key end d links (body_in o (going d.service links (find_key key d.holds.items)))
forgotten key end d mid links o asked holds service (inl none) =
    let its : find_key key d.holds.items ≡ None = subst (λ (x : Held). find_key key x.items ≡ None) holds none in
    inl (astray_of d.service links (find_key key d.holds.items) _ its (asked (going d.service links (find_key key d.holds.items))))
forgotten key end d mid links o asked holds service (inr why) = inr (record { mid = mid; holds = holds; service = service; cannot = why })

pub some_of : {A : Type 0} (o : Option A) (x : A) (P : A → Type 0) → o ≡ Some x → IfSome o P → P x
some_of {A} o x P is h = subst (λ (p : Option A). IfSome p P) is h

pub none_of : {A : Type 0} (o : Option A) (Q : Type 0) → o ≡ None → IfNone o Q → Q
none_of {A} o Q is h = subst (λ (p : Option A). IfNone p Q) is h

pub stops_unfit : (key : ℕ) (d mid : pools.Pool) (out : List ℕ) (links : List Link) (hold : Hold) (s : ClientStops key d mid [] out) → find_key key d.holds.items ≡ Some hold → HasNoRoom hold.number out links → StopsUnfit key d links
stops_unfit key d mid out links hold s its none =
    let same : hold ≡ s.hold = (let u : Some hold ≡ Some s.hold = sym its ∙ s.its in cc) in
    record { mid = mid; out = out; stops = s; no_room = subst (λ (h : Hold). HasNoRoom h.number out links) same none }

pub halts_unfit : (key number : ℕ) (old new : code.Relay) (links : List Link) → IsHalting number key old new → HasNoRoom number new.outbox.items links → StopsUnfit key old.pool links
halts_unfit key number old new links h none = stops_unfit key old.pool new.pool new.outbox.items links h.hold h.stops h.its (subst (λ (n : ℕ). HasNoRoom n new.outbox.items links) h.number_is none)

-- no attention goes out
abbrev pub is_asked : Cancelled → Bool
is_asked how.Nothing = false
is_asked how.Already = false
is_asked how.Unsent = false
is_asked how.Asked = true

pub asked_not : (c : Cancelled) → is_asked c ≡ false → c ≢ how.Asked
asked_not c not is = (let u : true ≡ false = sym (ap is_asked is) ∙ not in cc)

pub full_there : (s : Slab Application) (key : ℕ) (a : Application) → Some a ≡ get s key → a.out.is_full ≡ true → IsOverfull (queue_at (queues_in s) key)
full_there s key a is full = ap (option_map (λ (p : Queue). p.is_full)) (queue_is s key ∙ ap (option_map queue_of) (sym is)) ∙ ap Some full

-- ---- What is said

-- before its end has read them
pub may_before : (answer : Said) (taken : List ℕ) (key : ℕ) (end next : Option End) (room after : ℕ) (d : pools.Pool) (links : List Link) (queues given : Queues) (body was : Body) → next ≡ end → after ≡ room → given ≡ queues → was ≡ body
    → MayClose answer taken key next after d links given was → MayClose answer taken key end room d links queues body
may_before answer taken key end next room after d links queues given body was ends rooms same bodies why =
    subst (λ (b : Body). MayClose answer taken key end room d links queues b) bodies
    (subst (λ (ps : Queues). MayClose answer taken key end room d links ps was) same
    (subst (λ (n : ℕ). MayClose answer taken key end n d links given was) rooms (subst (λ (e : Option End). MayClose answer taken key e after d links given was) ends why)))

lent_or : (key : ℕ) (bytes : List ℕ) (a : code.Relay) (other : ℕ) → (other ≡ key) ⊎ (other ≢ key) → IsLentBehind key bytes a other → ItselfOrWaiting key (pool_in a.pool).line other → ForReasonOrWaiting key bytes a other
lent_or key bytes a other (inl same) lent was = inl (same, ByLoan (subst (λ (n : ℕ). IsLentBehind key bytes a n) same lent))
lent_or key bytes a other (inr differs) lent (inl same) = absurd (differs same)
lent_or key bytes a other (inr differs) lent (inr was) = inr (differs, was, lent)

-- those who wait behind them are served
pub lent_behind : (key : ℕ) (bytes : List ℕ) (a b : code.Relay) → IsTakenTo key bytes [] a b → LedTo (ByApplication key) (pool_in a.pool) (pool_in b.pool) → (other : ℕ) → IsLentInVain b other → ForReasonOrWaiting key bytes a other
lent_behind key bytes a b taken goes other lent =
    lent_or key bytes a other (cases_eq other key) (record { mid = b; taken = taken; lent = lent }) (waited_or key (pool_in a.pool) (pool_in b.pool) goes other lent.waits)
