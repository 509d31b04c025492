-- Leases and tickets agree with where connections stand: a lease that is not over has its connection,
-- unless that was cut, and no other lease or ticket has it.
use Rattle.std.proofs.Common.{◌≡◌, ◌≢◌, ◌⊎◌, ◌+◌, ℕ, zero, suc, List, [], ◌∷◌, ◌++◌, Bool, true, false, length, ltb, inl, inr, refl, sym, ap, subst, ◌∙◌, Option, Some, None, arith}
use Rattle.std.specs.Prelude.{slice_get}
use Rattle.tds_world.specs.declared.event.Event.{Event}
use Rattle.tds_world.specs.declared.event.Event.TheVariants as event
use Rattle.tds_world.specs.declared.event.Setup.{Setup}
use Rattle.tds_world.specs.declared.outcome.Refusal.{Refusal}
use Rattle.tds_world.specs.declared.outcome.Refusal.TheVariants as refusal
use Rattle.tds_world.specs.declared.report.Place.{Place}
use Rattle.tds_world.specs.declared.report.Place.TheVariants as place
use Rattle.tds_world.specs.Connection.{Connection, Standing, In, Cut, is_cut}
use Rattle.tds_world.specs.Events.{about}
use Rattle.tds_world.specs.Pool.{to_lend_by, lowest_free, first_of, is_free, pool_count}
use Rattle.tds_world.specs.World.{World, Holding, Found, Missing, Here, Opens, numbered, next_number, put, put_numbered, holding_ended, ended_at, ended_numbered, uncut_in, there, held, not_cut, by_lease, by_ticket}
use Rattle.tds_world.proofs.events.Words.{by_test}

-- A connection stands at this place, or was cut.
abbrev pub StandsAt : Place → Standing → Type 0
StandsAt p s = (s ≡ In p) ⊎ (s ≡ Cut)

abbrev pub Holds : Place → Option Connection → Type 0
Holds p None = ⊥
Holds p (Some c) = StandsAt p c.standing

-- Each lease and ticket that is not over has its connection.
pub record Agrees (w : World) : Type 0 where
  pub leases : (l : ℕ) (h : Holding) → numbered w.leases l ≡ Some h → h.over ≡ false → Holds (place.Leased l) (numbered w.connections h.conn)
  pub tickets : (t : ℕ) (h : Holding) → numbered w.tickets t ≡ Some h → h.over ≡ false → Holds (place.Kept t) (numbered w.connections h.conn)

-- Where the connection of an event stands.
abbrev pub StandsFor : Event → Standing → Type 0
StandsFor event.Lease s = s ≡ In place.Free
StandsFor (event.Resume t) s = s ≡ In (place.Kept t)
StandsFor (event.GiveBack l) s = StandsAt (place.Leased l) s
StandsFor (event.Keep l) s = s ≡ In (place.Leased l)
StandsFor (event.Abandon t) s = StandsAt (place.Kept t) s
StandsFor (event.Clean n) s = is_cut s ≡ false
StandsFor (event.Ask l q) s = s ≡ In (place.Leased l)
StandsFor (event.Send l) s = s ≡ In (place.Leased l)
StandsFor (event.Cancel l) s = s ≡ In (place.Leased l)
StandsFor (event.Work n) s = is_cut s ≡ false
StandsFor (event.ToServer n k) s = is_cut s ≡ false
StandsFor (event.ToClient n k) s = is_cut s ≡ false
StandsFor (event.Cut n) s = is_cut s ≡ false
StandsFor event.RestartServer s = Unit {0}
StandsFor event.RestartClient s = Unit {0}

-- What is known of the connection that was found.
abbrev pub FoundWith : World → (Standing → Type 0) → Found → Type 0
FoundWith w P (Missing why) = Unit {0}
FoundWith w P (Here n c) = (numbered w.connections n ≡ Some c) × P c.standing
FoundWith w P (Opens n) = n ≡ next_number w.connections

there_stands : (w : World) (p : Place) (why : Refusal) (n : ℕ) (o : Option Connection) → numbered w.connections n ≡ o → Holds p o → FoundWith w (StandsAt p) (there why n o)
there_stands w p why n None e h = absurd h
there_stands w p why n (Some c) e h = (e, h)

lease_stands : (w : World) (why : Refusal) (l : ℕ) (o : Option Holding) → numbered w.leases l ≡ o → Agrees w → FoundWith w (StandsAt (place.Leased l)) (held w why o)
lease_stands w why l None e a = tt
lease_stands w why l (Some h) e a =
    by_test (FoundWith w (StandsAt (place.Leased l))) h.over (Missing why) (there why h.conn (numbered w.connections h.conn)) (λ t. tt)
    (λ t. there_stands w (place.Leased l) why h.conn (numbered w.connections h.conn) refl (a.leases l h e t))

ticket_stands : (w : World) (why : Refusal) (t : ℕ) (o : Option Holding) → numbered w.tickets t ≡ o → Agrees w → FoundWith w (StandsAt (place.Kept t)) (held w why o)
ticket_stands w why t None e a = tt
ticket_stands w why t (Some h) e a =
    by_test (FoundWith w (StandsAt (place.Kept t))) h.over (Missing why) (there why h.conn (numbered w.connections h.conn)) (λ f. tt)
    (λ f. there_stands w (place.Kept t) why h.conn (numbered w.connections h.conn) refl (a.tickets t h e f))

in_place : (p : Place) (s : Standing) → is_cut s ≡ false → StandsAt p s → s ≡ In p
in_place p s f h = elim h [
  | inl e ↦ e
  | inr e ↦ let z : true ≡ false = sym (ap is_cut e) ∙ f in absurd (cc)
]

not_cut_stands : (w : World) (p : Place) (f : Found) → FoundWith w (StandsAt p) f → FoundWith w (λ s. s ≡ In p) (not_cut f)
not_cut_stands w p (Missing why) h = tt
not_cut_stands w p (Here n c) h =
    by_test (FoundWith w (λ s. s ≡ In p)) (is_cut c.standing) (Missing refusal.ConnectionCut) (Here n c) (λ t. tt) (λ t. (h.0, in_place p c.standing t h.1))
not_cut_stands w p (Opens n) h = h

number_stands : (w : World) (why : Refusal) (n : ℕ) (o : Option Connection) → numbered w.connections n ≡ o → FoundWith w (λ s. is_cut s ≡ false) (uncut_in why n o)
number_stands w why n None e = tt
number_stands w why n (Some c) e =
    by_test (FoundWith w (λ s. is_cut s ≡ false)) (is_cut c.standing) (Missing why) (Here n c) (λ t. tt) (λ t. (e, t))

-- The connection to lend is free.
pub free_stands : (s : Standing) → is_free s ≡ true → s ≡ In place.Free
free_stands (In place.Free) e = refl
free_stands s e = absurd (cc)

-- The first free one of a list whose first has number k.
abbrev FirstFree : ℕ → List Connection → ℕ → Type 0
FirstFree k cs m = (i : ℕ) × (m ≡ k + i) × ((c : Connection) → slice_get cs i ≡ Some c → is_free c.standing ≡ true)

first_free : (k : ℕ) (cs : List Connection) (m : ℕ) → lowest_free k cs ≡ Some m → FirstFree k cs m
first_free k [] m e = absurd (cc)
first_free k (d ∷ ds) m e = first_free_by k d ds m (is_free d.standing) refl e (first_free (suc k) ds m)
  where
    first_free_by : (k : ℕ) (d : Connection) (ds : List Connection) (m : ℕ) (b : Bool) → is_free d.standing ≡ b → first_of b k (lowest_free (suc k) ds) ≡ Some m → (lowest_free (suc k) ds ≡ Some m → FirstFree (suc k) ds m) → FirstFree k (d ∷ ds) m
    first_free_by k d ds m true f e g =
        let same : k ≡ m = cc in
        (0, omega arith, λ c z. let is : d ≡ c = cc in subst (λ x. is_free x.standing ≡ true) is f)
    first_free_by k d ds m false f e g = let later : FirstFree (suc k) ds m = g e in (suc later.0, omega arith, later.2)

lend_stands : (setup : Setup) (w : World) (o : Option ℕ) → lowest_free 1 w.connections ≡ o → FoundWith w (λ s. s ≡ In place.Free) (to_lend_by setup w o)
lend_stands setup w None e =
    by_test (FoundWith w (λ s. s ≡ In place.Free)) (ltb (pool_count w.connections) setup.max) (Opens (next_number w.connections)) (Missing refusal.AllInUse) (λ t. refl) (λ t. tt)
lend_stands setup w (Some m) e = free_there (numbered w.connections m) refl
  where
    free_there : (o : Option Connection) → numbered w.connections m ≡ o → FoundWith w (λ s. s ≡ In place.Free) (there refusal.AllInUse m o)
    free_there None f = tt
    free_there (Some c) f =
        let first : FirstFree 1 w.connections m = first_free 1 w.connections m e in
        let at : m ≡ suc first.0 = omega arith in
        (f, free_stands c.standing (first.2 c (sym (ap (numbered w.connections) at) ∙ f)))

-- The connection that an event is about stands where the event wants it.
pub about_stands : (setup : Setup) (w : World) (e : Event) → Agrees w → FoundWith w (StandsFor e) (about setup w e)
about_stands setup w event.Lease a = lend_stands setup w (lowest_free 1 w.connections) refl
about_stands setup w (event.Resume t) a = not_cut_stands w (place.Kept t) (by_ticket w t) (ticket_stands w refusal.UnknownTicket t (numbered w.tickets t) refl a)
about_stands setup w (event.GiveBack l) a = lease_stands w refusal.UnknownLease l (numbered w.leases l) refl a
about_stands setup w (event.Keep l) a = not_cut_stands w (place.Leased l) (by_lease w l) (lease_stands w refusal.UnknownLease l (numbered w.leases l) refl a)
about_stands setup w (event.Abandon t) a = ticket_stands w refusal.UnknownTicket t (numbered w.tickets t) refl a
about_stands setup w (event.Clean n) a = number_stands w refusal.UnknownConnection n (numbered w.connections n) refl
about_stands setup w (event.Ask l q) a = not_cut_stands w (place.Leased l) (by_lease w l) (lease_stands w refusal.UnknownLease l (numbered w.leases l) refl a)
about_stands setup w (event.Send l) a = not_cut_stands w (place.Leased l) (by_lease w l) (lease_stands w refusal.UnknownLease l (numbered w.leases l) refl a)
about_stands setup w (event.Cancel l) a = not_cut_stands w (place.Leased l) (by_lease w l) (lease_stands w refusal.UnknownLease l (numbered w.leases l) refl a)
about_stands setup w (event.Work n) a = number_stands w refusal.UnknownConnection n (numbered w.connections n) refl
about_stands setup w (event.ToServer n k) a = number_stands w refusal.UnknownConnection n (numbered w.connections n) refl
about_stands setup w (event.ToClient n k) a = number_stands w refusal.UnknownConnection n (numbered w.connections n) refl
about_stands setup w (event.Cut n) a = number_stands w refusal.UnknownConnection n (numbered w.connections n) refl
about_stands setup w event.RestartServer a = tt
about_stands setup w event.RestartClient a = tt

-- ---- A connection is put at its number

holds_put_at : (p : Place) (n : ℕ) (c : Connection) (cs : List Connection) (m : ℕ) → ((d : Connection) → slice_get cs n ≡ Some d → StandsAt p d.standing → StandsAt p c.standing) → Holds p (slice_get cs m) → Holds p (slice_get (put n c cs) m)
holds_put_at p n c [] m k h = absurd h
holds_put_at p zero c (d ∷ ds) zero k h = k d refl h
holds_put_at p zero c (d ∷ ds) (suc m) k h = h
holds_put_at p (suc n) c (d ∷ ds) zero k h = h
holds_put_at p (suc n) c (d ∷ ds) (suc m) k h = holds_put_at p n c ds m k h

pub holds_put : (p : Place) (n : ℕ) (c : Connection) (cs : List Connection) (m : ℕ) → ((d : Connection) → numbered cs n ≡ Some d → StandsAt p d.standing → StandsAt p c.standing) → Holds p (numbered cs m) → Holds p (numbered (put_numbered n c cs) m)
holds_put p zero c cs m k h = h
holds_put p (suc n) c cs zero k h = absurd h
holds_put p (suc n) c cs (suc m) k h = holds_put_at p n c cs m k h

holds_here_at : (p : Place) (n : ℕ) (c d : Connection) (cs : List Connection) → slice_get cs n ≡ Some d → StandsAt p c.standing → Holds p (slice_get (put n c cs) n)
holds_here_at p n c d [] e h = absurd (cc)
holds_here_at p zero c d (x ∷ xs) e h = h
holds_here_at p (suc n) c d (x ∷ xs) e h = holds_here_at p n c d xs e h

holds_here : (p : Place) (n : ℕ) (c d : Connection) (cs : List Connection) → numbered cs n ≡ Some d → StandsAt p c.standing → Holds p (numbered (put_numbered n c cs) n)
holds_here p zero c d cs e h = absurd (cc)
holds_here p (suc n) c d cs e h = holds_here_at p n c d cs e h

pub holds_end_at : (p : Place) (c : Connection) (cs : List Connection) → StandsAt p c.standing → Holds p (slice_get (put (length cs) c cs) (length cs))
holds_end_at p c [] h = h
holds_end_at p c (x ∷ xs) h = holds_end_at p c xs h

pub none_at_end : (cs : List Connection) (d : Connection) → slice_get cs (length cs) ≡ Some d → ⊥
none_at_end [] d e = absurd (cc)
none_at_end (x ∷ xs) d e = none_at_end xs d e

-- ---- A lease or ticket begins or ends

began_at : (hs : List Holding) (x h : Holding) (k : ℕ) → slice_get (hs ++ x ∷ []) k ≡ Some h → (slice_get hs k ≡ Some h) ⊎ ((k ≡ length hs) × (x ≡ h))
began_at [] x h zero e = inr (refl, cc)
began_at [] x h (suc k) e = absurd (cc)
began_at (y ∷ ys) x h zero e = inl e
began_at (y ∷ ys) x h (suc k) e = elim (began_at ys x h k e) [
  | inl f ↦ inl f
  | inr f ↦ let at : k ≡ length ys = f.0 in inr (ap suc at, f.1)
]

pub began : (hs : List Holding) (x h : Holding) (l : ℕ) → numbered (hs ++ x ∷ []) l ≡ Some h → (numbered hs l ≡ Some h) ⊎ ((l ≡ next_number hs) × (x ≡ h))
began hs x h zero e = absurd (cc)
began hs x h (suc k) e = elim (began_at hs x h k e) [
  | inl f ↦ inl f
  | inr f ↦ inr (ap suc f.0, f.1)
]

is_over_at : (m : ℕ) (hs : List Holding) (k : ℕ) (h : Holding) → slice_get (ended_at m hs) k ≡ Some h → h.over ≡ false → (slice_get hs k ≡ Some h) × (k ≢ m)
is_over_at m [] k h e f = absurd (cc)
is_over_at zero (y ∷ ys) zero h e f =
    let same : holding_ended y ≡ h = cc in
    let z : true ≡ false = ap (λ (x : Holding). x.over) same ∙ f in absurd (cc)
is_over_at zero (y ∷ ys) (suc k) h e f = (e, λ z. absurd (omega arith))
is_over_at (suc m) (y ∷ ys) zero h e f = (e, λ z. absurd (omega arith))
is_over_at (suc m) (y ∷ ys) (suc k) h e f =
    let later : (slice_get ys k ≡ Some h) × (k ≢ m) = is_over_at m ys k h e f in (later.0, λ z. later.1 (omega arith))

pub is_over : (m : ℕ) (hs : List Holding) (l : ℕ) (h : Holding) → numbered (ended_numbered m hs) l ≡ Some h → h.over ≡ false → (numbered hs l ≡ Some h) × (l ≢ m)
is_over zero hs zero h e f = absurd (cc)
is_over zero hs (suc k) h e f = (e, λ z. absurd (omega arith))
is_over (suc m) hs zero h e f = absurd (cc)
is_over (suc m) hs (suc k) h e f =
    let later : (slice_get hs k ≡ Some h) × (k ≢ m) = is_over_at m hs k h e f in (later.0, λ z. later.1 (omega arith))

-- ---- What a change of one connection does to the others' leases and tickets

-- Connection n, which stood at p0 or was cut, is now c; what is cut stays so.
pub record Moved (w : World) (n : ℕ) (p0 : Place) (c : Connection) : Type 0 where
  pub old : Connection
  pub there : numbered w.connections n ≡ Some old
  pub stood : StandsAt p0 old.standing
  pub stays : old.standing ≡ Cut → c.standing ≡ Cut

moved_at : (w : World) (n : ℕ) (p0 p : Place) (c d : Connection) → Moved w n p0 c → p0 ≢ p → numbered w.connections n ≡ Some d → StandsAt p d.standing → StandsAt p c.standing
moved_at w n p0 p c d m differ e s =
    let same : m.old ≡ d = let q : Some m.old ≡ Some d = sym m.there ∙ e in cc in
    let at : StandsAt p m.old.standing = subst (λ x. StandsAt p x.standing) (sym same) s in
    elim m.stood [
      | inr z ↦ inr (m.stays z)
      | inl z ↦ elim at [
        | inl y ↦ absurd (differ (let q : In p0 ≡ In p = sym z ∙ y in cc))
        | inr y ↦ inr (m.stays y)
      ]
    ]

pub moved_holds : (w : World) (n : ℕ) (p0 p : Place) (c : Connection) (k : ℕ) → Moved w n p0 c → p0 ≢ p → Holds p (numbered w.connections k) → Holds p (numbered (put_numbered n c w.connections) k)
moved_holds w n p0 p c k m differ h = holds_put p n c w.connections k (λ d e s. moved_at w n p0 p c d m differ e s) h

-- The new lease or ticket has it.
pub here_holds : (w : World) (n : ℕ) (p0 p : Place) (c : Connection) → Moved w n p0 c → c.standing ≡ In p → Holds p (numbered (put_numbered n c w.connections) n)
here_holds w n p0 p c m e = holds_here p n c m.old w.connections m.there (inl e)
