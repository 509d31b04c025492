-- A connection's lease is the last of those of its requests, and in it no reset is asked for once a
-- request ran: what the pool, the caller and deliveries leave of that.
use Rattle.std.proofs.Common.{◌≡◌, ◌⊎◌, ◌≤◌, ◌<◌, ◌-◌, ℕ, zero, suc, List, [], ◌∷◌, ◌++◌, length, Bool, true, false, ltb, inl, inr, refl, sym, subst, Option, Some, None, arith}
use Rattle.std.specs.List.{AllByRecursion}
use Rattle.std.specs.Prelude.{slice_get}
use Rattle.tds_packet.specs.declared.status.Reset.{Reset}
use Rattle.tds_session.specs.Answer as answer
use Rattle.tds_session.specs.Answer.{Answers}
use Rattle.tds_session.specs.Session.{SessionState}
use Rattle.tds_world.specs.declared.report.Place.TheVariants as place
use Rattle.tds_world.specs.Arrivals.{server_acts, client_acts, reach_server, reach_client, mark_after, drained}
use Rattle.tds_world.specs.Caller.{cancels_in, cancels_by, cancels, sends_by, sends_last}
use Rattle.tds_world.specs.Connection.{Connection, Standing, In, Cut, is_idle}
use Rattle.tds_world.specs.Entries.{Up, Part, End, Drop, Attention, Down, Step, Acknowledgement, up_bytes, down_bytes}
use Rattle.tds_world.specs.Events.{sends_in}
use Rattle.tds_world.specs.Lane.{passed, with_waiting}
use Rattle.tds_world.specs.Phase.{Phase, Settled, Asked, Sending, Reading, Cancelling, phase_of}
use Rattle.tds_world.specs.Pool.{gives_back_at, abandons_at, keeps_by, place_back}
use Rattle.tds_world.specs.Record.{Record}
use Rattle.tds_world.specs.World.{Holding}
use Rattle.tds_world.proofs.events.Adds.{GivenAs, Extends}
use Rattle.tds_world.proofs.events.Words.{OfActed, either}
use Rattle.tds_world.proofs.requests.Cores.{Core, past_of, newest_of, SameCores, all_of, client_same, cancels_same_by, sends_same}
use Rattle.tds_world.proofs.requests.Ready.{NoneRan, cores}

abbrev pub IsRan : Option SessionState → Type 0
IsRan None = ⊥
IsRan (Some s) = Unit {0}

-- y was asked after x: under the same lease or a later one, and if under the same one and x ran, with
-- no mark.
pub record Behind (x y : Core) : Type 0 where
  pub number : x.number < y.number
  pub lease : x.lease ≤ y.lease
  pub mark : y.lease ≡ x.lease → IsRan x.ran → y.asking.mark ≡ None

abbrev pub InTurn : List Core → Type 0
InTurn [] = Unit {0}
InTurn (x ∷ xs) = AllByRecursion (Behind x) xs × InTurn xs

-- A reset that was taken is still on its way.
abbrev pub WithReset : Option Reset → Type 0 → Type 0
WithReset None Later = Later
WithReset (Some r) Later = Unit {0}

abbrev pub HasReset : List Down → Type 0
HasReset [] = ⊥
HasReset (Step r place s ∷ es) = WithReset s.reset (HasReset es)
HasReset (Acknowledgement r place changes ∷ es) = HasReset es

abbrev pub Cleared : Option Reset → List Down → Type 0
Cleared mark downs = (mark ≡ None) ⊎ HasReset downs

-- Of a connection that a lease has: it is the last one of these requests, and none of its own ran, or
-- the mark is cleared or soon will be.
abbrev pub HolderOf : ℕ → Standing → List Core → Option Reset → List Down → Type 0
HolderOf k (In (place.Leased l)) xs mark downs =
    (l ≤ k) × (AllByRecursion (λ (x : Core). x.lease ≤ l) xs × (NoneRan l xs ⊎ Cleared mark downs))
HolderOf k (In (place.Kept t)) xs mark downs = Unit {0}
HolderOf k (In place.Free) xs mark downs = Unit {0}
HolderOf k (In place.Draining) xs mark downs = Unit {0}
HolderOf k Cut xs mark downs = Unit {0}

-- With so many leases.
pub record Tenant (k : ℕ) (xs : List Core) (s : Standing) (mark : Option Reset) (downs : List Down) : Type 0 where
  pub turn : InTurn xs
  pub known : AllByRecursion (λ (x : Core). x.lease ≤ k) xs
  pub holder : HolderOf k s xs mark downs

abbrev pub TenantWith : ℕ → Connection → List Down → Type 0
TenantWith k c downs = Tenant k (cores c) c.standing c.mark downs

abbrev pub TenantOf : ℕ → Connection → Type 0
TenantOf k c = TenantWith k c c.to_client.waiting

-- ---- It grows with the leases

pub all_at_most : (k m : ℕ) (xs : List Core) → k ≤ m → AllByRecursion (λ (x : Core). x.lease ≤ k) xs → AllByRecursion (λ (x : Core). x.lease ≤ m) xs
all_at_most k m [] l h = tt
all_at_most k m (x ∷ xs) l h = (let z : x.lease ≤ k = h.0 in omega arith, all_at_most k m xs l h.1)

pub holder_grows : (k m : ℕ) (s : Standing) (xs : List Core) (mark : Option Reset) (downs : List Down) → k ≤ m → HolderOf k s xs mark downs → HolderOf m s xs mark downs
holder_grows k m (In (place.Leased l)) xs mark downs h g = (let z : l ≤ k = g.0 in omega arith, g.1)
holder_grows k m s xs mark downs h g = tt

pub tenant_grows : (k m : ℕ) (c : Connection) (downs : List Down) → k ≤ m → TenantWith k c downs → TenantWith m c downs
tenant_grows k m c downs l h = record {
  turn = h.turn;
  known = all_at_most k m (cores c) l h.known;
  holder = holder_grows k m c.standing (cores c) c.mark downs l h.holder;
}

pub last_there : (hs : List Holding) (m : ℕ) → m < length hs → (h : Holding) × (slice_get hs m ≡ Some h)
last_there [] m l = let z : m < 0 = l in absurd (omega arith)
last_there (x ∷ xs) zero l = (x, refl)
last_there (x ∷ xs) (suc m) l = last_there xs m (let z : suc m < suc (length xs) = l in omega arith)

pub there_less : (hs : List Holding) (m : ℕ) (h : Holding) → slice_get hs m ≡ Some h → m < length hs
there_less [] m h e = absurd (cc)
there_less (x ∷ xs) zero h e = let z : 0 < suc (length xs) = omega arith in z
there_less (x ∷ xs) (suc m) h e = let z : m < length xs = there_less xs m h e in let y : suc m < suc (length xs) = omega arith in y

pub more_leases : (hs ks : List Holding) → Extends hs ks → length hs ≤ length ks
more_leases hs ks e = by_length (length hs) refl
  where
    by_given : (m : ℕ) (h : Holding) (o : Option Holding) → slice_get ks m ≡ o → GivenAs h o → suc m ≤ length ks
    by_given m h None i g = absurd g
    by_given m h (Some k) i g = there_less ks m k i

    by_length : (n : ℕ) → length hs ≡ n → length hs ≤ length ks
    by_length zero i = omega arith
    by_length (suc m) i =
        let h = last_there hs m (omega arith) in
        let z : suc m ≤ length ks = by_given m h.0 (slice_get ks m) refl (e (suc m) h.0 h.1) in omega arith

-- ---- What leaves the requests and the mark

pub same_tenant : (k : ℕ) (c d : Connection) → SameCores c d → d.standing ≡ c.standing → d.mark ≡ c.mark → d.to_client.waiting ≡ c.to_client.waiting → TenantOf k c → TenantOf k d
same_tenant k c d s e m w h =
    subst (λ xs. Tenant k (all_of xs (newest_of d)) d.standing d.mark d.to_client.waiting) (sym s.0)
    (subst (λ o. Tenant k (all_of (past_of c) o) d.standing d.mark d.to_client.waiting) (sym s.1)
    (subst (λ x. Tenant k (cores c) x d.mark d.to_client.waiting) (sym e)
    (subst (λ x. Tenant k (cores c) c.standing x d.to_client.waiting) (sym m)
    (subst (λ x. Tenant k (cores c) c.standing c.mark x) (sym w) h))))

-- Nobody has it.
abbrev pub NotHeld : Standing → Type 0
NotHeld s = (k : ℕ) (xs : List Core) (mark : Option Reset) (downs : List Down) → HolderOf k s xs mark downs

pub no_tenant : (k : ℕ) (c : Connection) (s : Standing) → NotHeld s → TenantOf k c → TenantOf k (record c { standing = s })
no_tenant k c s n h = record { turn = h.turn; known = h.known; holder = n k (cores c) c.mark c.to_client.waiting }

pub back_free : (b : Bool) → NotHeld (In (place_back b))
back_free true k xs mark downs = tt
back_free false k xs mark downs = tt

pub cancels_tenant_by : (k : ℕ) (p : Phase) (q : Record) (c : Connection) → c.current ≡ Some q → TenantOf k c → TenantOf k (cancels_by p q c)
cancels_tenant_by k Settled q c e h = h
cancels_tenant_by k Cancelling q c e h = h
cancels_tenant_by k Asked q c e h = same_tenant k c (cancels_by Asked q c) (cancels_same_by Asked q c e) refl refl refl h
cancels_tenant_by k Sending q c e h = same_tenant k c (cancels_by Sending q c) (cancels_same_by Sending q c e) refl refl refl h
cancels_tenant_by k Reading q c e h = same_tenant k c (cancels_by Reading q c) (cancels_same_by Reading q c e) refl refl refl h

pub cancels_tenant : (k : ℕ) (o : Option Record) (c : Connection) → c.current ≡ o → TenantOf k c → TenantOf k (cancels_in o c)
cancels_tenant k None c e h = h
cancels_tenant k (Some q) c e h = cancels_tenant_by k (phase_of q) q c e h

pub back : (k : ℕ) (s : Standing) (c : Connection) → TenantOf k c → OfActed (TenantOf k) (gives_back_at s c)
back k (In p) c h = no_tenant k (cancels c) (In (place_back (is_idle (cancels c)))) (back_free (is_idle (cancels c))) (cancels_tenant k c.current c refl h)
back k Cut c h = h

pub abandoned : (k : ℕ) (s : Standing) (c : Connection) → TenantOf k c → OfActed (TenantOf k) (abandons_at s c)
abandoned k (In p) c h = no_tenant k c (In place.Free) (λ m xs mark downs. tt) h
abandoned k Cut c h = h

pub kept : (k : ℕ) (idle nothing : Bool) (ticket : ℕ) (c : Connection) → TenantOf k c → OfActed (TenantOf k) (keeps_by idle nothing ticket c)
kept k false nothing ticket c h = tt
kept k true true ticket c h = tt
kept k true false ticket c h = no_tenant k c (In (place.Kept ticket)) (λ m xs mark downs. tt) h

pub sends_tenant : (k : ℕ) (b : Bool) (room : ℕ) (q : Record) (c : Connection) → c.current ≡ Some q → TenantOf k c → TenantOf k (sends_by b room q c)
sends_tenant k true room q c e h = same_tenant k c (sends_by true room q c) (sends_same true room q c e) refl refl refl h
sends_tenant k false room q c e h = same_tenant k c (sends_by false room q c) (sends_same false room q c e) refl refl refl h

pub sent : (k : ℕ) (p : Phase) (room : ℕ) (current : Option Record) (c : Connection) → c.current ≡ current → TenantOf k c → OfActed (TenantOf k) (sends_in p room current c)
sent k Asked room (Some q) c e h = sends_tenant k (sends_last room q) room q c e h
sent k Sending room (Some q) c e h = sends_tenant k (sends_last room q) room q c e h
sent k Asked room None c e h = tt
sent k Sending room None c e h = tt
sent k Settled room current c e h = tt
sent k Reading room current c e h = tt
sent k Cancelling room current c e h = tt

-- ---- Deliveries

pub later_reset : (o : Option Reset) (P Q : Type 0) → (P → Q) → WithReset o P → WithReset o Q
later_reset None P Q f g = f g
later_reset (Some x) P Q f g = tt

pub reset_more : (xs ys : List Down) → HasReset xs → HasReset (xs ++ ys)
reset_more [] ys h = absurd h
reset_more (Acknowledgement r place changes ∷ es) ys h = reset_more es ys h
reset_more (Step r place s ∷ es) ys h = later_reset s.reset (HasReset es) (HasReset (es ++ ys)) (reset_more es ys) h

pub cleared_more : (mark : Option Reset) (xs ys : List Down) → Cleared mark xs → Cleared mark (xs ++ ys)
cleared_more mark xs ys h = elim h [
  | inl e ↦ inl e
  | inr g ↦ inr (reset_more xs ys g)
]

pub holder_then : (k : ℕ) (s : Standing) (xs : List Core) (mark new : Option Reset) (downs more : List Down) → (Cleared mark downs → Cleared new more) → HolderOf k s xs mark downs → HolderOf k s xs new more
holder_then k (In (place.Leased l)) xs mark new downs more f h = (
  h.0,
  (
    h.1.0,
    elim h.1.1 [
      | inl n ↦ inl n
      | inr g ↦ inr (f g)
    ],
  ),
)
holder_then k (In (place.Kept t)) xs mark new downs more f h = tt
holder_then k s xs mark new downs more f h = tt

pub tenant_then : (k : ℕ) (s : Standing) (xs : List Core) (mark new : Option Reset) (downs more : List Down) → (Cleared mark downs → Cleared new more) → Tenant k xs s mark downs → Tenant k xs s new more
tenant_then k s xs mark new downs more f h = record { turn = h.turn; known = h.known; holder = holder_then k s xs mark new downs more f h.holder }

pub server_tenant : (k : ℕ) (answers : Answers) (c : Connection) (e : Up) → TenantOf k c → TenantOf k (server_acts answers (record c { to_server = passed e c.to_server }) e)
server_tenant k answers c (Part r p) h = h
server_tenant k answers c (End r a p) h = h
server_tenant k answers c (Drop r p) h = h
server_tenant k answers c (Attention r) h = tenant_then k c.standing (cores c) c.mark c.mark c.to_client.waiting _ (cleared_more c.mark c.to_client.waiting _) h

pub reach_server_tenant : (k : ℕ) (answers : Answers) (c : Connection) (es : List Up) (n : ℕ) → TenantOf k c → TenantOf k (reach_server answers c es n)
reach_server_tenant k answers c [] n h = h
reach_server_tenant k answers c (e ∷ es) n h =
    let d : Connection = server_acts answers (record c { to_server = passed e c.to_server }) e in
    either (TenantOf k) (ltb n (length (up_bytes e))) (record c { to_server = with_waiting (e ∷ es) n c.to_server }) (reach_server answers d es (n - length (up_bytes e))) h
    (reach_server_tenant k answers d es (n - length (up_bytes e)) (server_tenant k answers c e h))

pub cleared_step : (mark : Option Reset) (r place : ℕ) (s : answer.Step) (es : List Down) → Cleared mark (Step r place s ∷ es) → Cleared (mark_after s.reset mark) es
cleared_step mark r place s es h = by_reset s.reset h
  where
    by_reset : (o : Option Reset) → (mark ≡ None) ⊎ WithReset o (HasReset es) → Cleared (mark_after o mark) es
    by_reset None g = g
    by_reset (Some x) g = inl refl

pub with_cores : (k : ℕ) (c d : Connection) (mark : Option Reset) (downs : List Down) → SameCores c d → Tenant k (cores c) c.standing mark downs → Tenant k (cores d) c.standing mark downs
with_cores k c d mark downs s h =
    subst (λ xs. Tenant k (all_of xs (newest_of d)) c.standing mark downs) (sym s.0)
    (subst (λ o. Tenant k (all_of (past_of c) o) c.standing mark downs) (sym s.1) h)

pub client_tenant : (k : ℕ) (c : Connection) (e : Down) (es : List Down) → TenantWith k c (e ∷ es) → TenantWith k (client_acts (record c { to_client = passed e c.to_client }) e) es
client_tenant k c (Step r place s) es h =
    with_cores k c (client_acts (record c { to_client = passed (Step r place s) c.to_client }) (Step r place s)) (mark_after s.reset c.mark) es (client_same c (Step r place s))
    (tenant_then k c.standing (cores c) c.mark (mark_after s.reset c.mark) (Step r place s ∷ es) es (cleared_step c.mark r place s es) h)
client_tenant k c (Acknowledgement r place changes) es h =
    with_cores k c (client_acts (record c { to_client = passed (Acknowledgement r place changes) c.to_client }) (Acknowledgement r place changes)) c.mark es (client_same c (Acknowledgement r place changes))
    (tenant_then k c.standing (cores c) c.mark c.mark (Acknowledgement r place changes ∷ es) es (λ g. g) h)

pub reach_client_tenant : (k : ℕ) (c : Connection) (es : List Down) (n : ℕ) → TenantWith k c es → TenantOf k (reach_client c es n)
reach_client_tenant k c [] n h = h
reach_client_tenant k c (e ∷ es) n h =
    let d : Connection = client_acts (record c { to_client = passed e c.to_client }) e in
    either (TenantOf k) (ltb n (length (down_bytes e))) (record c { to_client = with_waiting (e ∷ es) n c.to_client }) (reach_client d es (n - length (down_bytes e))) h
    (reach_client_tenant k d es (n - length (down_bytes e)) (client_tenant k c e es h))

pub holder_drained : (k : ℕ) (b : Bool) (s : Standing) (xs : List Core) (mark : Option Reset) (downs : List Down) → HolderOf k s xs mark downs → HolderOf k (drained b s) xs mark downs
holder_drained k true (In place.Draining) xs mark downs h = tt
holder_drained k true (In place.Free) xs mark downs h = tt
holder_drained k true (In (place.Kept t)) xs mark downs h = tt
holder_drained k true (In (place.Leased l)) xs mark downs h = h
holder_drained k true Cut xs mark downs h = tt
holder_drained k false s xs mark downs h = h

pub drained_tenant : (k : ℕ) (c : Connection) → TenantOf k c → TenantOf k (record c { standing = drained (is_idle c) c.standing })
drained_tenant k c h = record { turn = h.turn; known = h.known; holder = holder_drained k (is_idle c) c.standing (cores c) c.mark c.to_client.waiting h.holder }
