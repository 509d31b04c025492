-- A connection that stands with a lease has that lease: it is not over, and it is on this connection.
use Rattle.std.proofs.Common.{◌≡◌, ◌≢◌, ◌⊎◌, ◌≤◌, ◌+◌, ◌-◌, ℕ, zero, suc, List, [], ◌∷◌, ◌++◌, map, length, Bool, true, false, cond, inl, inr, refl, sym, ap, subst, ◌∙◌, min, Option, Some, None, arith}
use Rattle.std.specs.Prelude.{slice_get, ◌==◌, ◌||◌}
use Rattle.tds_request.specs.declared.request.Request.{Request}
use Rattle.tds_session.specs.Answer.{Answers}
use Rattle.tds_world.specs.declared.event.Event.{Event}
use Rattle.tds_world.specs.declared.event.Event.TheVariants as event
use Rattle.tds_world.specs.declared.event.Setup.{Setup}
use Rattle.tds_world.specs.declared.outcome.Outcome.{Outcome}
use Rattle.tds_world.specs.declared.outcome.Refusal.{Refusal}
use Rattle.tds_world.specs.declared.outcome.Refusal.TheVariants as refusal
use Rattle.tds_world.specs.declared.report.Place.TheVariants as place
use Rattle.tds_world.specs.Arrivals.{reach_client, to_server, works_on, drained}
use Rattle.tds_world.specs.Caller.{cancels, sends_by, sends_last}
use Rattle.tds_world.specs.Cleaning.{can_clean}
use Rattle.tds_world.specs.Connection.{Connection, Standing, In, Cut, is_cut, is_idle, phase, new_connection, cut, up_underway, down_underway}
use Rattle.tds_world.specs.Events.{about, acts, settles, happens_at, happens, asks_by, cleans_by, sends_in, world_after}
use Rattle.tds_world.specs.Phase.{Phase, Settled, Asked, Sending, Reading, Cancelling}
use Rattle.tds_world.specs.Pool.{Acted, Refuses, Does, is_free, opens, gives_back_at, abandons_at, keeps_by, place_back, is_full}
use Rattle.tds_world.specs.Record.{Record}
use Rattle.tds_world.specs.World.{World, new_world, Holding, Found, Missing, Here, Opens, numbered, next_number, put, put_numbered, holding, holding_ended, ended_at, ended_numbered, there, held, not_cut, by_lease}
use Rattle.tds_world.proofs.events.Agreement.{happens_agrees, new_agrees}
use Rattle.tds_world.proofs.events.Places.{StandsFor, FoundWith, about_stands, Agrees}
use Rattle.tds_world.proofs.events.Standings.{works_stand, cancels_stand_in, reach_server_stands, reach_client_stands}
use Rattle.tds_world.proofs.events.Words.{OfActed}

-- The lease of this number is not over, and on connection n.
pub record HasLease (hs : List Holding) (l n : ℕ) : Type 0 where
  pub holding : Holding
  pub given : numbered hs l ≡ Some holding
  pub goes_on : holding.over ≡ false
  pub on : holding.conn ≡ n

abbrev pub LeasesAreHeld : List Holding → List Connection → Type 0
LeasesAreHeld hs cs = (n : ℕ) (c : Connection) (l : ℕ) → numbered cs n ≡ Some c → c.standing ≡ In (place.Leased l) → HasLease hs l n

abbrev pub AllHeld : World → Type 0
AllHeld w = LeasesAreHeld w.leases w.connections

-- ---- Where a connection stood that stands with a lease now

abbrev NotLeased : Standing → Type 0
NotLeased s = (l : ℕ) → s ≢ In (place.Leased l)

abbrev StoodSo : Standing → Standing → Type 0
StoodSo s t = (l : ℕ) → t ≡ In (place.Leased l) → s ≡ In (place.Leased l)

abbrev StoodFor : World → Event → Standing → Standing → Type 0
StoodFor w event.Lease s t = t ≡ In (place.Leased (next_number w.leases))
StoodFor w (event.Resume _) s t = t ≡ In (place.Leased (next_number w.leases))
StoodFor w (event.GiveBack l) s t = NotLeased t
StoodFor w (event.Keep l) s t = NotLeased t
StoodFor w (event.Abandon _) s t = NotLeased t
StoodFor w e s t = StoodSo s t

same_so : (s t : Standing) → t ≡ s → StoodSo s t
same_so s t e l h = sym e ∙ h

not_back : (b : Bool) → NotLeased (In (place_back b))
not_back true l e = absurd (cc)
not_back false l e = absurd (cc)

not_leased_cut : (s : Standing) → s ≡ Cut → NotLeased s
not_leased_cut s e l h = let z : Cut ≡ In (place.Leased l) = sym e ∙ h in absurd (cc)

back_for : (s : Standing) (c : Connection) → c.standing ≡ s → OfActed (λ d. NotLeased d.standing) (gives_back_at s c)
back_for (In p) c e = not_back (is_idle (cancels c))
back_for Cut c e = not_leased_cut c.standing e

abandoned_for : (s : Standing) (c : Connection) → c.standing ≡ s → OfActed (λ d. NotLeased d.standing) (abandons_at s c)
abandoned_for (In p) c e = λ l h. absurd (cc)
abandoned_for Cut c e = not_leased_cut c.standing e

kept_for : (idle nothing : Bool) (ticket : ℕ) (c : Connection) → OfActed (λ d. NotLeased d.standing) (keeps_by idle nothing ticket c)
kept_for false nothing ticket c = tt
kept_for true true ticket c = tt
kept_for true false ticket c = λ l h. absurd (cc)

asked_for : (b : Bool) (number lease n : ℕ) (q : Request) (c : Connection) → OfActed (λ d. StoodSo c.standing d.standing) (asks_by b number lease n q c)
asked_for true number lease n q c = same_so c.standing c.standing refl
asked_for false number lease n q c = tt

sends_same : (b : Bool) (room : ℕ) (q : Record) (c : Connection) → (sends_by b room q c).standing ≡ c.standing
sends_same true room q c = refl
sends_same false room q c = refl

sent_for : (p : Phase) (room : ℕ) (current : Option Record) (c : Connection) → OfActed (λ d. StoodSo c.standing d.standing) (sends_in p room current c)
sent_for Asked room (Some q) c = same_so c.standing (sends_by (sends_last room q) room q c).standing (sends_same (sends_last room q) room q c)
sent_for Sending room (Some q) c = same_so c.standing (sends_by (sends_last room q) room q c).standing (sends_same (sends_last room q) room q c)
sent_for Asked room None c = tt
sent_for Sending room None c = tt
sent_for Settled room current c = tt
sent_for Reading room current c = tt
sent_for Cancelling room current c = tt

drained_so : (b : Bool) (s : Standing) → StoodSo s (drained b s)
drained_so true (In place.Draining) l h = absurd (cc)
drained_so true (In place.Free) l h = h
drained_so true (In (place.Leased k)) l h = h
drained_so true (In (place.Kept t)) l h = h
drained_so true Cut l h = h
drained_so false s l h = h

cleaned_for : (free can : Bool) (room lease number n : ℕ) (c : Connection) → OfActed (λ d. StoodSo c.standing d.standing) (cleans_by free can room lease number n c)
cleaned_for false can room lease number n c = tt
cleaned_for true false room lease number n c = tt
cleaned_for true true room lease number n c = λ l h. absurd (cc)

stood_for : (setup : Setup) (answers : Answers) (w : World) (e : Event) (n : ℕ) (c : Connection) → OfActed (λ d. StoodFor w e c.standing d.standing) (acts setup answers w e n c)
stood_for setup answers w event.Lease n c = refl
stood_for setup answers w (event.Resume t) n c = refl
stood_for setup answers w (event.GiveBack l) n c = back_for c.standing c refl
stood_for setup answers w (event.Keep l) n c = kept_for (is_idle c) (c.heard == 0 || is_full c.mark) (next_number w.tickets) c
stood_for setup answers w (event.Abandon t) n c = abandoned_for c.standing c refl
stood_for setup answers w (event.Clean k) n c =
    cleaned_for (is_free c.standing) (can_clean (setup.packet_size - 8) (next_number w.leases) (next_number w.asked_on) n c) (setup.packet_size - 8) (next_number w.leases) (next_number w.asked_on) n c
stood_for setup answers w (event.Ask l q) n c = asked_for (is_idle c) (next_number w.asked_on) l n q c
stood_for setup answers w (event.Send l) n c = sent_for (phase c) (setup.packet_size - 8) c.current c
stood_for setup answers w (event.Cancel l) n c = same_so c.standing (cancels c).standing (cancels_stand_in c.current c)
stood_for setup answers w (event.Work k) n c = same_so c.standing (works_on c c.due).standing (works_stand c c.due)
stood_for setup answers w (event.ToServer k m) n c =
    same_so c.standing (to_server answers m c).standing (reach_server_stands answers c c.to_server.waiting (c.to_server.part + min m (up_underway c)))
stood_for setup answers w (event.ToClient k m) n c =
    let d : Connection = reach_client c c.to_client.waiting (c.to_client.part + min m (down_underway c)) in
    λ l h. sym (reach_client_stands c c.to_client.waiting (c.to_client.part + min m (down_underway c))) ∙ drained_so (is_idle d) d.standing l h
stood_for setup answers w (event.Cut k) n c = λ l h. absurd (cc)
stood_for setup answers w event.RestartServer n c = tt
stood_for setup answers w event.RestartClient n c = tt

-- ---- What stands at a number after a connection is put there

room_at : (cs : List Connection) (n : ℕ) (c : Connection) → slice_get cs n ≡ Some c → n ≤ length cs
room_at [] n c e = absurd (cc)
room_at (x ∷ xs) zero c e = let z : 0 ≤ suc (length xs) = omega arith in z
room_at (x ∷ xs) (suc n) c e = let z : n ≤ length xs = room_at xs n c e in let y : suc n ≤ suc (length xs) = omega arith in y

abbrev PutOr : ℕ → ℕ → Connection → Connection → Option Connection → Type 0
PutOr n m d x o = ((m ≡ n) × (d ≡ x)) ⊎ ((m ≢ n) × (o ≡ Some x))

put_or_at : (n m : ℕ) (d x : Connection) (cs : List Connection) → n ≤ length cs → slice_get (put n d cs) m ≡ Some x → PutOr n m d x (slice_get cs m)
put_or_at zero zero d x [] h e = inl (refl, cc)
put_or_at zero (suc m) d x [] h e = absurd (cc)
put_or_at (suc n) m d x [] h e = let z : suc n ≤ 0 = h in absurd (omega arith)
put_or_at zero zero d x (y ∷ ys) h e = inl (refl, cc)
put_or_at zero (suc m) d x (y ∷ ys) h e = inr (λ z. absurd (omega arith), e)
put_or_at (suc n) zero d x (y ∷ ys) h e = inr (λ z. absurd (omega arith), e)
put_or_at (suc n) (suc m) d x (y ∷ ys) h e =
    let less : n ≤ length ys = (let z : suc n ≤ suc (length ys) = h in omega arith) in
    elim (put_or_at n m d x ys less e) [
      | inl k ↦ inl (ap suc k.0, k.1)
      | inr k ↦ inr (λ z. k.0 (omega arith), k.1)
    ]

put_or : (n m : ℕ) (d x : Connection) (cs : List Connection) → n ≤ suc (length cs) → numbered (put_numbered n d cs) m ≡ Some x → PutOr n m d x (numbered cs m)
put_or zero zero d x cs h e = absurd (cc)
put_or zero (suc m) d x cs h e = inr (λ z. absurd (omega arith), e)
put_or (suc n) zero d x cs h e = absurd (cc)
put_or (suc n) (suc m) d x cs h e = elim (put_or_at n m d x cs (let z : n ≤ length cs = omega arith in z) e) [
  | inl k ↦ inl (ap suc k.0, k.1)
  | inr k ↦ inr (λ z. k.0 (omega arith), k.1)
]

room_for : (cs : List Connection) (n : ℕ) (c : Connection) → numbered cs n ≡ Some c → n ≤ suc (length cs)
room_for cs zero c e = omega arith
room_for cs (suc n) c e = let z : n ≤ length cs = room_at cs n c e in omega arith

-- ---- Leases that stay

stays_more_at : (hs : List Holding) (x h : Holding) (k : ℕ) → slice_get hs k ≡ Some h → slice_get (hs ++ x ∷ []) k ≡ Some h
stays_more_at [] x h k e = absurd (cc)
stays_more_at (y ∷ ys) x h zero e = e
stays_more_at (y ∷ ys) x h (suc k) e = stays_more_at ys x h k e

stays_more : (hs : List Holding) (x h : Holding) (l : ℕ) → numbered hs l ≡ Some h → numbered (hs ++ x ∷ []) l ≡ Some h
stays_more hs x h zero e = absurd (cc)
stays_more hs x h (suc k) e = stays_more_at hs x h k e

new_at : (hs : List Holding) (x : Holding) → slice_get (hs ++ x ∷ []) (length hs) ≡ Some x
new_at [] x = refl
new_at (y ∷ ys) x = new_at ys x

stays_ended_at : (m : ℕ) (hs : List Holding) (h : Holding) (k : ℕ) → k ≢ m → slice_get hs k ≡ Some h → slice_get (ended_at m hs) k ≡ Some h
stays_ended_at m [] h k d e = absurd (cc)
stays_ended_at zero (y ∷ ys) h zero d e = absurd (d refl)
stays_ended_at zero (y ∷ ys) h (suc k) d e = e
stays_ended_at (suc m) (y ∷ ys) h zero d e = e
stays_ended_at (suc m) (y ∷ ys) h (suc k) d e = stays_ended_at m ys h k (λ z. d (ap suc z)) e

stays_ended : (m : ℕ) (hs : List Holding) (h : Holding) (l : ℕ) → l ≢ m → numbered hs l ≡ Some h → numbered (ended_numbered m hs) l ≡ Some h
stays_ended m hs h zero d e = absurd (cc)
stays_ended zero hs h (suc k) d e = e
stays_ended (suc m) hs h (suc k) d e = stays_ended_at m hs h k (λ z. d (ap suc z)) e

-- ---- The connection that an event is about

there_is : (why : Refusal) (m n : ℕ) (c : Connection) (o : Option Connection) → there why m o ≡ Here n c → m ≡ n
there_is why m n c None e = absurd (cc)
there_is why m n c (Some x) e = cc

held_by : (w : World) (why : Refusal) (n : ℕ) (c : Connection) (hs : List Holding) (l : ℕ) (o : Option Holding) → numbered hs l ≡ o → held w why o ≡ Here n c → HasLease hs l n
held_by w why n c hs l None f e = absurd (cc)
held_by w why n c hs l (Some h) f e = by_over h.over refl e
  where
    by_over : (b : Bool) → h.over ≡ b → cond b (Missing why) (there why h.conn (numbered w.connections h.conn)) ≡ Here n c → HasLease hs l n
    by_over true g z = absurd (cc)
    by_over false g z = record { holding = h; given = f; goes_on = g; on = there_is why h.conn n c (numbered w.connections h.conn) z }

whole_is : (b : Bool) (n m : ℕ) (c d : Connection) → cond b (Missing refusal.ConnectionCut) (Here m d) ≡ Here n c → Here m d ≡ Here n c
whole_is true n m c d e = absurd (cc)
whole_is false n m c d e = e

not_cut_is : (f : Found) (n : ℕ) (c : Connection) → not_cut f ≡ Here n c → f ≡ Here n c
not_cut_is (Missing why) n c e = absurd (cc)
not_cut_is (Here m d) n c e = whole_is (is_cut d.standing) n m c d e
not_cut_is (Opens m) n c e = absurd (cc)

-- ---- One event

-- Connection n is d now; the leases of the others stayed, and d's is there.
held_then : (w : World) (hs : List Holding) (n : ℕ) (d : Connection) → n ≤ suc (length w.connections) → ((l : ℕ) → d.standing ≡ In (place.Leased l) → HasLease hs l n) → ((m l : ℕ) → m ≢ n → HasLease w.leases l m → HasLease hs l m) → AllHeld w → LeasesAreHeld hs (put_numbered n d w.connections)
held_then w hs n d room here others h m x l e s = elim (put_or n m d x w.connections room e) [
  | inl k ↦ subst (λ i. HasLease hs l i) (sym k.0) (here l (ap (λ (y : Connection). y.standing) k.1 ∙ s))
  | inr k ↦ others m l k.0 (h m x l k.1 s)
]

all_stay : (hs : List Holding) (n : ℕ) (m l : ℕ) → m ≢ n → HasLease hs l m → HasLease hs l m
all_stay hs n m l d h = h

more_stay : (hs : List Holding) (x : Holding) (n : ℕ) (m l : ℕ) → m ≢ n → HasLease hs l m → HasLease (hs ++ x ∷ []) l m
more_stay hs x n m l d h = record { holding = h.holding; given = stays_more hs x h.holding l h.given; goes_on = h.goes_on; on = h.on }

others_stay : (hs : List Holding) (k n : ℕ) → HasLease hs k n → (m l : ℕ) → m ≢ n → HasLease hs l m → HasLease (ended_numbered k hs) l m
others_stay hs k n has m l d h = record {
  holding = h.holding;
  given = stays_ended k hs h.holding l (λ z. differs z) h.given;
  goes_on = h.goes_on;
  on = h.on;
}
  where
    differs : l ≡ k → ⊥
    differs z =
        let same : Some h.holding ≡ Some has.holding = sym h.given ∙ (ap (numbered hs) z ∙ has.given) in
        let is : h.holding ≡ has.holding = cc in
        d (sym h.on ∙ (ap (λ (y : Holding). y.conn) is ∙ has.on))

newest_held : (hs : List Holding) (x : Holding) (n : ℕ) (s : Standing) → x.over ≡ false → x.conn ≡ n → s ≡ In (place.Leased (next_number hs)) → (l : ℕ) → s ≡ In (place.Leased l) → HasLease (hs ++ x ∷ []) l n
newest_held hs x n s o c e l f =
    let same : next_number hs ≡ l = (let z : In (place.Leased (next_number hs)) ≡ In (place.Leased l) = sym e ∙ f in cc) in
    subst (λ i. HasLease (hs ++ x ∷ []) i n) same (record { holding = x; given = new_at hs x; goes_on = o; on = c })

did_hold : (setup : Setup) (w : World) (e : Event) (n : ℕ) (old d : Connection) (what : Outcome) → about setup w e ≡ Here n old → numbered w.connections n ≡ Some old → StoodFor w e old.standing d.standing → AllHeld w → AllHeld (settles e n w (Does what d)).1
did_hold setup w event.Lease n old d what f i s h =
    held_then w (w.leases ++ holding n d.heard None ∷ []) n d (room_for w.connections n old i)
    (newest_held w.leases (holding n d.heard None) n d.standing refl refl s) (more_stay w.leases (holding n d.heard None) n) h
did_hold setup w (event.Resume t) n old d what f i s h =
    held_then w (w.leases ++ holding n d.heard (Some t) ∷ []) n d (room_for w.connections n old i)
    (newest_held w.leases (holding n d.heard (Some t)) n d.standing refl refl s) (more_stay w.leases (holding n d.heard (Some t)) n) h
did_hold setup w (event.GiveBack k) n old d what f i s h =
    held_then w (ended_numbered k w.leases) n d (room_for w.connections n old i) (λ l z. absurd (s l z))
    (others_stay w.leases k n (held_by w refusal.UnknownLease n old w.leases k (numbered w.leases k) refl f)) h
did_hold setup w (event.Keep k) n old d what f i s h =
    held_then w (ended_numbered k w.leases) n d (room_for w.connections n old i) (λ l z. absurd (s l z))
    (others_stay w.leases k n (held_by w refusal.UnknownLease n old w.leases k (numbered w.leases k) refl (not_cut_is (by_lease w k) n old f))) h
did_hold setup w (event.Abandon t) n old d what f i s h = held_then w w.leases n d (room_for w.connections n old i) (λ l z. absurd (s l z)) (all_stay w.leases n) h
did_hold setup w (event.Clean k) n old d what f i s h =
    held_then w (w.leases ++ holding_ended (holding n d.heard None) ∷ []) n d (room_for w.connections n old i)
    (λ l z. let g : HasLease w.leases l n = h n old l i (s l z) in record { holding = g.holding; given = stays_more w.leases (holding_ended (holding n d.heard None)) g.holding l g.given; goes_on = g.goes_on; on = g.on })
    (more_stay w.leases (holding_ended (holding n d.heard None)) n) h
did_hold setup w event.RestartServer n old d what f i s h = absurd (cc)
did_hold setup w event.RestartClient n old d what f i s h = absurd (cc)
did_hold setup w e n old d what f i s h = held_then w w.leases n d (room_for w.connections n old i) (λ l z. h n old l i (s l z)) (all_stay w.leases n) h

acted_hold : (setup : Setup) (w : World) (e : Event) (n : ℕ) (old : Connection) (a : Acted) → about setup w e ≡ Here n old → numbered w.connections n ≡ Some old → OfActed (λ d. StoodFor w e old.standing d.standing) a → AllHeld w → AllHeld (settles e n w a).1
acted_hold setup w e n old (Refuses why) f i s h = h
acted_hold setup w e n old (Does what d) f i s h = did_hold setup w e n old d what f i s h

opened_hold : (setup : Setup) (w : World) (n : ℕ) → n ≡ next_number w.connections → AllHeld w → AllHeld (settles event.Lease n w (opens setup.on_attention (next_number w.leases) n)).1
opened_hold setup w n e h =
    let d : Connection = new_connection setup.on_attention (place.Leased (next_number w.leases)) in
    held_then w (w.leases ++ holding n 0 None ∷ []) n d (let z : suc (length w.connections) ≤ suc (length w.connections) = omega arith in subst (λ i. i ≤ suc (length w.connections)) (sym e) z)
    (newest_held w.leases (holding n 0 None) n d.standing refl refl refl) (more_stay w.leases (holding n 0 None) n) h

found_hold : (setup : Setup) (answers : Answers) (e : Event) (w : World) (f : Found) → about setup w e ≡ f → FoundWith w (StandsFor e) f → AllHeld w → AllHeld (happens_at setup answers e w f).1
found_hold setup answers e w (Missing why) i g h = h
found_hold setup answers e w (Here n c) i g h = acted_hold setup w e n c (acts setup answers w e n c) i g.0 (stood_for setup answers w e n c) h
found_hold setup answers e w (Opens n) i g h = opened_hold setup w n g h

at_event : (setup : Setup) (answers : Answers) (e : Event) (w : World) → Agrees w → AllHeld w → AllHeld (happens_at setup answers e w (about setup w e)).1
at_event setup answers e w a h = found_hold setup answers e w (about setup w e) refl (about_stands setup w e a) h

none_leased_at : (cs : List Connection) (k : ℕ) (c : Connection) → slice_get (map cut cs) k ≡ Some c → c.standing ≡ Cut
none_leased_at [] k c e = absurd (cc)
none_leased_at (x ∷ xs) zero c e = let same : cut x ≡ c = cc in sym (ap (λ (y : Connection). y.standing) same)
none_leased_at (x ∷ xs) (suc k) c e = none_leased_at xs k c e

none_leased : (hs : List Holding) (cs : List Connection) → LeasesAreHeld hs (map cut cs)
none_leased hs cs zero c l e s = absurd (cc)
none_leased hs cs (suc k) c l e s = let z : Cut ≡ In (place.Leased l) = sym (none_leased_at cs k c e) ∙ s in absurd (cc)

pub happens_hold : (setup : Setup) (answers : Answers) (e : Event) (w : World) → Agrees w → AllHeld w → AllHeld (happens setup answers e w).1
happens_hold setup answers event.RestartServer w a h = none_leased w.leases w.connections
happens_hold setup answers event.RestartClient w a h = none_leased _ w.connections
happens_hold setup answers event.Lease w a h = at_event setup answers event.Lease w a h
happens_hold setup answers (event.Resume t) w a h = at_event setup answers (event.Resume t) w a h
happens_hold setup answers (event.GiveBack l) w a h = at_event setup answers (event.GiveBack l) w a h
happens_hold setup answers (event.Keep l) w a h = at_event setup answers (event.Keep l) w a h
happens_hold setup answers (event.Abandon t) w a h = at_event setup answers (event.Abandon t) w a h
happens_hold setup answers (event.Clean n) w a h = at_event setup answers (event.Clean n) w a h
happens_hold setup answers (event.Ask l q) w a h = at_event setup answers (event.Ask l q) w a h
happens_hold setup answers (event.Send l) w a h = at_event setup answers (event.Send l) w a h
happens_hold setup answers (event.Cancel l) w a h = at_event setup answers (event.Cancel l) w a h
happens_hold setup answers (event.Work n) w a h = at_event setup answers (event.Work n) w a h
happens_hold setup answers (event.ToServer n m) w a h = at_event setup answers (event.ToServer n m) w a h
happens_hold setup answers (event.ToClient n m) w a h = at_event setup answers (event.ToClient n m) w a h
happens_hold setup answers (event.Cut n) w a h = at_event setup answers (event.Cut n) w a h

pub after_hold : (setup : Setup) (answers : Answers) (events : List Event) (w : World) → Agrees w → AllHeld w → AllHeld (world_after setup answers events w)
after_hold setup answers [] w a h = h
after_hold setup answers (e ∷ es) w a h =
    after_hold setup answers es (happens setup answers e w).1 (happens_agrees setup answers e w a) (happens_hold setup answers e w a h)

new_held : AllHeld new_world
new_held zero c l e s = absurd (cc)
new_held (suc n) c l e s = absurd (cc)

pub always_held : (setup : Setup) (answers : Answers) (events : List Event) → AllHeld (world_after setup answers events new_world)
always_held setup answers events = after_hold setup answers events new_world new_agrees new_held

-- ---- An event of its lease is about the connection

pub lease_finds : (w : World) (n : ℕ) (c : Connection) (l : ℕ) → HasLease w.leases l n → numbered w.connections n ≡ Some c → is_cut c.standing ≡ false → not_cut (by_lease w l) ≡ Here n c
lease_finds w n c l h e s =
    ap (λ o. not_cut (held w refusal.UnknownLease o)) h.given
    ∙ (ap (λ b. not_cut (cond b (Missing refusal.UnknownLease) (there refusal.UnknownLease h.holding.conn (numbered w.connections h.holding.conn)))) h.goes_on
    ∙ (ap (λ m. not_cut (there refusal.UnknownLease m (numbered w.connections m))) h.on
    ∙ (ap (λ o. not_cut (there refusal.UnknownLease n o)) e
    ∙ ap (λ b. cond b (Missing refusal.ConnectionCut) (Here n c)) s)))
