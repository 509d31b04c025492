-- Until a request of its lease ran, a connection is ready: its session is new, or its next request
-- asks for the reset that the lease needs.
use Rattle.std.proofs.Common.{◌≡◌, ◌<◌, ℕ, List, [], ◌∷◌, ◌++◌, ◌⊎◌, inl, inr, Bool, true, false, cond, refl, sym, subst, Option, Some, None}
use Rattle.std.specs.List.{AllByRecursion}
use Rattle.tds_packet.specs.declared.status.Reset.{Reset}
use Rattle.tds_packet.specs.declared.status.Reset.TheVariants.{Full, KeepTransaction}
use Rattle.tds_session.specs.Session.{SessionState, IsFresh, no_settings}
use Rattle.tds_packet.specs.Resets.{strongest}
use Rattle.tds_world.specs.declared.report.Place.TheVariants as place
use Rattle.tds_world.specs.Arrivals.{drained}
use Rattle.tds_world.specs.Connection.{Connection, Standing, In, Cut}
use Rattle.tds_world.specs.Phase.{phase_of, is_settled}
use Rattle.tds_world.specs.Pool.{is_full}
use Rattle.tds_world.specs.Record.{Record}
use Rattle.tds_world.specs.World.{World, Holding, numbered, next_number}
use Rattle.tds_world.proofs.events.Adds.{GivenAs, Extends, Adds}
use Rattle.tds_world.proofs.requests.Cores.{Core, past_of, newest_of, all_of}
use Rattle.tds_world.proofs.requests.Runs.{runs_in}

-- ---- What a lease begins with: A, or for one that came from a ticket, B of its descriptor

abbrev pub OfTicket : (ℕ → Type 0) → Option Holding → Type 0
OfTicket B None = ⊥
OfTicket B (Some ticket) = B ticket.descriptor

abbrev pub OfStart : Type 0 → (ℕ → Type 0) → List Holding → Option ℕ → Type 0
OfStart A B tickets None = A
OfStart A B tickets (Some t) = OfTicket B (numbered tickets t)

abbrev pub OfLease : Type 0 → (ℕ → Type 0) → List Holding → Option Holding → Type 0
OfLease A B tickets None = ⊥
OfLease A B tickets (Some lease) = OfStart A B tickets lease.resumed

ticket_given : (B : ℕ → Type 0) (h : Holding) (o : Option Holding) → GivenAs h o → B h.descriptor → OfTicket B o
ticket_given B h None g b = absurd g
ticket_given B h (Some k) g b = subst B (sym g.1) b

pub ticket_grows : (B : ℕ → Type 0) (ts us : List Holding) (t : ℕ) → Extends ts us → OfTicket B (numbered ts t) → OfTicket B (numbered us t)
ticket_grows B ts us t e h = by (numbered ts t) refl h
  where
    by : (o : Option Holding) → numbered ts t ≡ o → OfTicket B o → OfTicket B (numbered us t)
    by None i k = absurd k
    by (Some x) i k = ticket_given B x (numbered us t) (e t x i) k

start_grows : (A : Type 0) (B : ℕ → Type 0) (ts us : List Holding) (o : Option ℕ) → Extends ts us → OfStart A B ts o → OfStart A B us o
start_grows A B ts us None e h = h
start_grows A B ts us (Some t) e h = ticket_grows B ts us t e h

lease_given : (A : Type 0) (B : ℕ → Type 0) (ts us : List Holding) (h : Holding) (o : Option Holding) → Extends ts us → GivenAs h o → OfStart A B ts h.resumed → OfLease A B us o
lease_given A B ts us h None e g k = absurd g
lease_given A B ts us h (Some x) e g k = subst (OfStart A B us) (sym g.0) (start_grows A B ts us h.resumed e k)

pub lease_grows : (A : Type 0) (B : ℕ → Type 0) (w v : World) (l : ℕ) → Adds w v → OfLease A B w.tickets (numbered w.leases l) → OfLease A B v.tickets (numbered v.leases l)
lease_grows A B w v l a h = by (numbered w.leases l) refl h
  where
    by : (o : Option Holding) → numbered w.leases l ≡ o → OfLease A B w.tickets o → OfLease A B v.tickets (numbered v.leases l)
    by None i k = absurd k
    by (Some x) i k = lease_given A B w.tickets v.tickets x (numbered v.leases l) a.tickets (a.leases l x i) k

-- A fact that follows from it.
ticket_follows : (B D : ℕ → Type 0) (o : Option Holding) → ((d : ℕ) → B d → D d) → OfTicket B o → OfTicket D o
ticket_follows B D None g h = absurd h
ticket_follows B D (Some t) g h = g t.descriptor h

start_follows : (A C : Type 0) (B D : ℕ → Type 0) (ts : List Holding) (o : Option ℕ) → (A → C) → ((d : ℕ) → B d → D d) → OfStart A B ts o → OfStart C D ts o
start_follows A C B D ts None f g h = f h
start_follows A C B D ts (Some t) f g h = ticket_follows B D (numbered ts t) g h

pub lease_follows : (A C : Type 0) (B D : ℕ → Type 0) (ts : List Holding) (o : Option Holding) → (A → C) → ((d : ℕ) → B d → D d) → OfLease A B ts o → OfLease C D ts o
lease_follows A C B D ts None f g h = absurd h
lease_follows A C B D ts (Some x) f g h = start_follows A C B D ts x.resumed f g h

-- ---- Ready, and fresh

-- The session is new and no reset is asked for, or a full one is.
abbrev pub ReadyNew : Option Reset → SessionState → Type 0
ReadyNew mark s = (mark ≡ Some Full) ⊎ ((mark ≡ None) × IsFresh s)

-- A reset that keeps the transaction of this descriptor is asked for.
abbrev pub ReadyKept : Option Reset → SessionState → ℕ → Type 0
ReadyKept mark s d = (mark ≡ Some KeepTransaction) × (s.descriptor ≡ d)

abbrev pub KeptFresh : SessionState → ℕ → Type 0
KeptFresh s d = (s.settings ≡ no_settings) × (s.descriptor ≡ d)

-- What a ticket's connection owes: no full reset is asked for, and it is in the ticket's
-- transaction.
abbrev pub KeptWell : Option Reset → SessionState → ℕ → Type 0
KeptWell mark s d = (is_full mark ≡ false) × (s.descriptor ≡ d)

-- So the first request of the lease finds what it should.
new_run : (mark : Option Reset) (s : SessionState) → ReadyNew mark s → IsFresh (runs_in mark s)
new_run mark s h = elim h [
  | inl e ↦ rw e (refl, refl)
  | inr k ↦ subst (λ m. IsFresh (runs_in m s)) (sym k.0) k.1
]

kept_run : (mark : Option Reset) (s : SessionState) (d : ℕ) → ReadyKept mark s d → KeptFresh (runs_in mark s) d
kept_run mark s d h = subst (λ m. KeptFresh (runs_in m s) d) (sym h.0) (refl, h.1)

pub ready_runs : (tickets : List Holding) (o : Option Holding) (mark : Option Reset) (s : SessionState) → OfLease (ReadyNew mark s) (ReadyKept mark s) tickets o → OfLease (IsFresh (runs_in mark s)) (KeptFresh (runs_in mark s)) tickets o
ready_runs tickets o mark s h =
    lease_follows (ReadyNew mark s) (IsFresh (runs_in mark s)) (ReadyKept mark s) (KeptFresh (runs_in mark s)) tickets o (new_run mark s) (kept_run mark s) h

-- A kept connection that is lent again is ready.
keep_mark : (mark : Option Reset) → is_full mark ≡ false → strongest (Some KeepTransaction) mark ≡ Some KeepTransaction
keep_mark None e = refl
keep_mark (Some Full) e = absurd (cc)
keep_mark (Some KeepTransaction) e = refl

pub kept_ready : (mark : Option Reset) (s : SessionState) (o : Option Holding) → OfTicket (KeptWell mark s) o → OfTicket (ReadyKept (strongest (Some KeepTransaction) mark) s) o
kept_ready mark s o h =
    ticket_follows (KeptWell mark s) (ReadyKept (strongest (Some KeepTransaction) mark) s) o (λ d k. (keep_mark mark k.0, k.1)) h

-- ---- The invariant

abbrev pub NoneRan : ℕ → List Core → Type 0
NoneRan lease xs = AllByRecursion (λ x. x.lease ≡ lease → x.ran ≡ None) xs

-- None of these that was asked before x under its lease ran.
abbrev pub RanFirst : List Core → Core → Type 0
RanFirst xs x = AllByRecursion (λ p. p.lease ≡ x.lease → p.number < x.number → p.ran ≡ None) xs

abbrev pub StartsWell : World → List Core → Core → Type 0
StartsWell w xs x =
    (s : SessionState) → x.ran ≡ Some s → RanFirst xs x → OfLease (IsFresh s) (KeptFresh s) w.tickets (numbered w.leases x.lease)

abbrev pub ReadyFor : World → List Core → Option Reset → SessionState → ℕ → Type 0
ReadyFor w xs mark s l =
    NoneRan l xs → OfLease (ReadyNew mark s) (ReadyKept mark s) w.tickets (numbered w.leases l)

-- The lease of the newest request, while somebody waits for its answer.
abbrev pub open_lease : Option Record → Option ℕ
open_lease None = None
open_lease (Some q) = cond (is_settled (phase_of q)) None (Some q.lease)

abbrev pub ReadyIf : World → List Core → Option Reset → SessionState → Option ℕ → Type 0
ReadyIf w xs mark s None = Unit {0}
ReadyIf w xs mark s (Some l) = ReadyFor w xs mark s l

-- It is this lease's.
abbrev pub IsOf : ℕ → Option ℕ → Type 0
IsOf l None = Unit {0}
IsOf l (Some k) = k ≡ l

-- What a connection owes its holder.
abbrev pub Owes : World → Standing → List Core → Option Reset → SessionState → Option ℕ → Type 0
Owes w (In (place.Leased l)) xs mark s o = ReadyFor w xs mark s l × IsOf l o
Owes w (In (place.Kept t)) xs mark s o = OfTicket (KeptWell mark s) (numbered w.tickets t)
Owes w (In place.Free) xs mark s o = Unit {0}
Owes w (In place.Draining) xs mark s o = Unit {0}
Owes w Cut xs mark s o = Unit {0}

abbrev pub cores : Connection → List Core
cores c = all_of (past_of c) (newest_of c)

-- Each lease's first request that ran found what it should, and what is still to run will.
abbrev pub IsReadyBy : World → List Core → Option Reset → SessionState → Standing → Option ℕ → Type 0
IsReadyBy w xs mark s p o =
    AllByRecursion (StartsWell w xs) xs × Owes w p xs mark s o × ReadyIf w xs mark s o

abbrev pub IsReady : World → Connection → Type 0
IsReady w c = IsReadyBy w (cores c) c.mark c.session c.standing (open_lease c.current)

-- ---- It doesn't fall when the world notes more

starts_grow : (w v : World) (xs ys : List Core) → Adds w v → AllByRecursion (StartsWell w xs) ys → AllByRecursion (StartsWell v xs) ys
starts_grow w v xs [] a h = tt
starts_grow w v xs (y ∷ ys) a h =
    (λ s e f. lease_grows (IsFresh s) (KeptFresh s) w v y.lease a (h.0 s e f), starts_grow w v xs ys a h.1)

ready_grows : (w v : World) (xs : List Core) (mark : Option Reset) (s : SessionState) (l : ℕ) → Adds w v → ReadyFor w xs mark s l → ReadyFor v xs mark s l
ready_grows w v xs mark s l a h = λ n. lease_grows (ReadyNew mark s) (ReadyKept mark s) w v l a (h n)

owes_grows : (w v : World) (p : Standing) (xs : List Core) (mark : Option Reset) (s : SessionState) (o : Option ℕ) → Adds w v → Owes w p xs mark s o → Owes v p xs mark s o
owes_grows w v (In (place.Leased l)) xs mark s o a h = (ready_grows w v xs mark s l a h.0, h.1)
owes_grows w v (In (place.Kept t)) xs mark s o a h = ticket_grows (KeptWell mark s) w.tickets v.tickets t a.tickets h
owes_grows w v (In place.Free) xs mark s o a h = tt
owes_grows w v (In place.Draining) xs mark s o a h = tt
owes_grows w v Cut xs mark s o a h = tt

if_grows : (w v : World) (xs : List Core) (mark : Option Reset) (s : SessionState) (o : Option ℕ) → Adds w v → ReadyIf w xs mark s o → ReadyIf v xs mark s o
if_grows w v xs mark s None a h = tt
if_grows w v xs mark s (Some l) a h = ready_grows w v xs mark s l a h

pub is_ready_grows : (w v : World) (c : Connection) → Adds w v → IsReady w c → IsReady v c
is_ready_grows w v c a h = (
  starts_grow w v (cores c) (cores c) a h.0,
  owes_grows w v c.standing (cores c) c.mark c.session (open_lease c.current) a h.1,
  if_grows w v (cores c) c.mark c.session (open_lease c.current) a h.2,
)

-- A connection that was draining and is free owes no more.
pub drained_owes : (w : World) (b : Bool) (p : Standing) (xs : List Core) (mark : Option Reset) (s : SessionState) (o : Option ℕ) → Owes w p xs mark s o → Owes w (drained b p) xs mark s o
drained_owes w true (In place.Draining) xs mark s o h = tt
drained_owes w true (In place.Free) xs mark s o h = h
drained_owes w true (In (place.Leased l)) xs mark s o h = h
drained_owes w true (In (place.Kept t)) xs mark s o h = h
drained_owes w true Cut xs mark s o h = h
drained_owes w false p xs mark s o h = h

-- What is added stands at the next number.
pub last_numbered : (hs : List Holding) (x : Holding) → numbered (hs ++ x ∷ []) (next_number hs) ≡ Some x
last_numbered [] x = refl
last_numbered (h ∷ hs) x = last_numbered hs x
