-- The connection that an event is about: the player finds it where the model does.
use Rattle.std.proofs.Common.{◌≡◌, ◌∙◌, ℕ, zero, suc, ◌+◌, ◌<◌, ◌≤◌, ltb, cond, Bool, true, false, List, [], ◌∷◌, length, map, Option, Some, None, option_map, refl, sym, ap, subst, arith}
use Rattle.std.proofs.lemmas.Bool.Decides.{nat_tests}
use Rattle.std.proofs.lemmas.List.{length-map}
use Rattle.std.proofs.lemmas.Option.{slice_get_within}
use Rattle.std.specs.List.{slice_get}
use Rattle.tds_session.specs.Answer.{Answers}
use Rattle.tds_world.specs.declared.event.Event.{Event}
use Rattle.tds_world.specs.declared.event.Event.TheVariants as event
use Rattle.tds_world.specs.declared.event.Setup.{Setup}
use Rattle.tds_world.specs.declared.outcome.Outcome.{Outcome}
use Rattle.tds_world.specs.declared.outcome.Outcome.TheVariants as outcome
use Rattle.tds_world.specs.declared.outcome.Refusal.{Refusal}
use Rattle.tds_world.specs.declared.outcome.Refusal.TheVariants as refusal
use Rattle.tds_world.specs.Connection.{Connection, Standing, In, Cut, is_cut}
use Rattle.tds_world.specs.Lending.{LendsIdle}
use Rattle.tds_world.specs.Events.{acts, happens, happens_at, settles}
use Rattle.tds_world.specs.Losses.{link_of, number_of}
use Rattle.tds_world.specs.Pool.{Refuses, is_free, first_of, lowest_free, pool_count, to_lend, to_lend_by, gives_back_at, abandons_at}
use Rattle.tds_world.specs.World.{World, Holding, numbered, next_number, there, uncut, uncut_in, held, not_cut}
use Rattle.tds_world.specs.World as world
use Rattle.tds_play.specs.Lending.{Found, Missing, Here, Opens, RefinesFound, lent, numbered_of}
use Rattle.tds_play.specs.Holdings.{conn_in, conn_of}
use Rattle.tds_play.specs.Noted.{about_of, held_of}
use Rattle.tds_play.specs.Plays.{IsReady, MayLose, acts_at, acts_on, held_by, holdings_of, on_cut}
use Rattle.tds_play.proofs.Held.{conn_held}

-- What the model makes of an event, by what the player found.
pub record Settles (setup : Setup) (answers : Answers) (w : World) (e : Event) (place : ℕ) (next : Outcome × World) : Type 0 where
  pub connection : Connection
  pub there : slice_get w.connections place ≡ Some connection
  pub settles : next ≡ settles e (suc place) w (acts_on setup answers w e (suc place) connection)
  pub ready : is_cut connection.standing ≡ false → IsReady e connection

abbrev pub HappensBy : Setup → Answers → World → Event → Found → Outcome × World → Type 0
HappensBy setup answers w e (Missing why) next = next ≡ (outcome.Refused why, w)
HappensBy setup answers w e (Here place) next = Settles setup answers w e place next
HappensBy setup answers w e Opens next = (e ≡ event.Lease) × (to_lend setup w ≡ world.Opens (next_number w.connections))

-- ---- By its number

none_past : {A : Type 0} (xs : List A) (i : ℕ) → slice_get xs i ≡ None → length xs ≤ i
none_past [] i e = omega (arith)
none_past (x ∷ xs) zero e = absurd (cc)
none_past (x ∷ xs) (suc i) e = omega (arith, none_past xs i e)

by_place : {A : Type 0} (why : Refusal) (P : Option A → Found → Type 0) (xs : List A) (place : ℕ) (o : Option A) → slice_get xs place ≡ o → P None (Missing why) → ((x : A) → slice_get xs place ≡ Some x → P (Some x) (Here place)) → P o (cond (ltb place (length xs)) (Here place) (Missing why))
by_place why P xs place None e none some =
    let past : length xs ≤ place = none_past xs place e in
    let is : ltb place (length xs) ≡ false = grind (arith, nat_tests, past) in
    subst (λ (b : Bool). P None (cond b (Here place) (Missing why))) (sym is) none
by_place why P xs place (Some x) e none some =
    let within : place < length xs = slice_get_within xs place x e in
    let is : ltb place (length xs) ≡ true = grind (arith, nat_tests, within) in
    subst (λ (b : Bool). P (Some x) (cond b (Here place) (Missing why))) (sym is) (some x e)

-- What stands at a number, and what is found by it.
by_number : {A : Type 0} (why : Refusal) (P : ℕ → Option A → Found → Type 0) (xs : List A) (n : ℕ) → P zero None (Missing why) → ((place : ℕ) → P (suc place) None (Missing why)) → ((place : ℕ) (x : A) → slice_get xs place ≡ Some x → P (suc place) (Some x) (Here place)) → P n (numbered xs n) (numbered_of (length xs) n why)
by_number why P xs zero zeroth none some = zeroth
by_number why P xs (suc place) zeroth none some = by_place why (P (suc place)) xs place (slice_get xs place) refl (none place) (some place)

-- ---- A connection that may be cut

-- An event that is refused on a connection that is cut.
uncut_by : (setup : Setup) (answers : Answers) (w : World) (e : Event) (n : ℕ) (why : Refusal) (c : Connection) (s : Standing) → on_cut e c ≡ Refuses why → happens_at setup answers e w (cond (is_cut s) (world.Missing why) (world.Here n c)) ≡ settles e n w (acts_at s setup answers w e n c)
uncut_by setup answers w e n why c (In p) refused = refl
uncut_by setup answers w e n why c Cut refused = ap (settles e n w) (sym refused)

uncut_is_here : (why : Refusal) (n : ℕ) (c : Connection) → is_cut c.standing ≡ false → uncut why n c ≡ world.Here n c
uncut_is_here why n c lives = ap (λ (b : Bool). cond b (world.Missing why) (world.Here n c)) lives

here_uncut : (setup : Setup) (answers : Answers) (w : World) (e : Event) (place : ℕ) (why : Refusal) (c : Connection) → on_cut e c ≡ Refuses why → slice_get w.connections place ≡ Some c → (uncut why (suc place) c ≡ world.Here (suc place) c → IsReady e c) → Settles setup answers w e place (happens_at setup answers e w (uncut why (suc place) c))
here_uncut setup answers w e place why c refused at ready = record {
  connection = c;
  there = at;
  settles = uncut_by setup answers w e (suc place) why c c.standing refused;
  ready = λ lives. ready (uncut_is_here why (suc place) c lives);
}

-- An event about a connection by its own number.
numbered_happens : (setup : Setup) (answers : Answers) (w : World) (e : Event) (n : ℕ) → ((c : Connection) → on_cut e c ≡ Refuses refusal.UnknownConnection) → ((c : Connection) → IsReady e c) → HappensBy setup answers w e (numbered_of (length w.connections) n refusal.UnknownConnection) (happens_at setup answers e w (uncut_in refusal.UnknownConnection n (numbered w.connections n)))
numbered_happens setup answers w e n refused ready =
    by_number refusal.UnknownConnection (λ (m : ℕ) (o : Option Connection) (f : Found). HappensBy setup answers w e f (happens_at setup answers e w (uncut_in refusal.UnknownConnection m o))) w.connections n
    refl (λ place. refl)
    (λ place c at. here_uncut setup answers w e place refusal.UnknownConnection c (refused c) at (λ z. ready c))

-- ---- By a lease or ticket

-- An event about the connection that a lease or ticket holds. Where it is cut, the event is refused.
uncut_held : (setup : Setup) (answers : Answers) (w : World) (e : Event) (n : ℕ) (why : Refusal) → ((c : Connection) → on_cut e c ≡ Refuses refusal.ConnectionCut) → ((m : ℕ) (c : Connection) → not_cut (there why n (numbered w.connections n)) ≡ world.Here m c → IsReady e c) → HappensBy setup answers w e (numbered_of (length w.connections) n why) (happens_at setup answers e w (not_cut (there why n (numbered w.connections n))))
uncut_held setup answers w e n why refused ready =
    by_number why (λ (m : ℕ) (o : Option Connection) (f : Found). ((c : Connection) → not_cut (there why m o) ≡ world.Here m c → IsReady e c) → HappensBy setup answers w e f (happens_at setup answers e w (not_cut (there why m o)))) w.connections n
    (λ r. refl) (λ place r. refl)
    (λ place c at r. here_uncut setup answers w e place refusal.ConnectionCut c (refused c) at (r c))
    (λ c is. ready n c is)

-- An event that applies also where the connection is cut.
here_held : (setup : Setup) (answers : Answers) (w : World) (e : Event) (n : ℕ) (why : Refusal) → ((m : ℕ) (c : Connection) → acts setup answers w e m c ≡ acts_on setup answers w e m c) → ((m : ℕ) (c : Connection) → there why n (numbered w.connections n) ≡ world.Here m c → is_cut c.standing ≡ false → IsReady e c) → HappensBy setup answers w e (numbered_of (length w.connections) n why) (happens_at setup answers e w (there why n (numbered w.connections n)))
here_held setup answers w e n why same ready =
    by_number why (λ (m : ℕ) (o : Option Connection) (f : Found). ((c : Connection) → there why m o ≡ world.Here m c → is_cut c.standing ≡ false → IsReady e c) → HappensBy setup answers w e f (happens_at setup answers e w (there why m o))) w.connections n
    (λ r. refl) (λ place r. refl)
    (λ place c at r. record {
      connection = c;
      there = at;
      settles = ap (settles e (suc place) w) (same (suc place) c);
      ready = λ lives. r c refl lives;
    })
    (λ c is lives. ready n c is lives)

-- What holds of a lease or ticket that is unknown or has ended, and of one that holds a connection.
by_holding : (w : World) (why : Refusal) (P : Found → world.Found → Type 0) (o : Option Holding) → P (Missing why) (world.Missing why) → ((h : Holding) → held w why o ≡ there why h.conn (numbered w.connections h.conn) → P (numbered_of (length w.connections) h.conn why) (there why h.conn (numbered w.connections h.conn))) → P (held_of (length w.connections) (conn_in (option_map held_by o)) why) (held w why o)
by_holding w why P None missing here = missing
by_holding w why P (Some h) missing here = by_over h.over refl
  where
    at : world.Found
    at = there why h.conn (numbered w.connections h.conn)

    by_over : (b : Bool) → h.over ≡ b → P (held_of (length w.connections) (cond b None (Some h.conn)) why) (cond b (world.Missing why) at)
    by_over true e = missing
    by_over false e = here h (ap (λ (b : Bool). cond b (world.Missing why) at) e)

-- An event about what a lease or ticket holds, in the lists of the player.
of_holdings : (w : World) (hs : List Holding) (n : ℕ) (why : Refusal) (P : Found → Type 0) → P (held_of (length w.connections) (conn_in (option_map held_by (numbered hs n))) why) → P (held_of (length (map (λ c. c.standing) w.connections)) (conn_of (holdings_of hs) n) why)
of_holdings w hs n why P is =
    subst (λ (k : ℕ). P (held_of k (conn_of (holdings_of hs) n) why)) (sym (length-map w.connections (λ c. c.standing)))
    (subst (λ (o : Option ℕ). P (held_of (length w.connections) o why)) (sym (conn_held hs n)) is)

lease_happens : (setup : Setup) (answers : Answers) (w : World) (e : Event) (lease : ℕ) → ((c : Connection) → on_cut e c ≡ Refuses refusal.ConnectionCut) → ((c : Connection) → IsReady e c) → HappensBy setup answers w e (held_of (length (map (λ c. c.standing) w.connections)) (conn_of (holdings_of w.leases) lease) refusal.UnknownLease) (happens_at setup answers e w (not_cut (held w refusal.UnknownLease (numbered w.leases lease))))
lease_happens setup answers w e lease refused ready =
    of_holdings w w.leases lease refusal.UnknownLease (λ f. HappensBy setup answers w e f (happens_at setup answers e w (not_cut (held w refusal.UnknownLease (numbered w.leases lease)))))
    (by_holding w refusal.UnknownLease (λ f g. HappensBy setup answers w e f (happens_at setup answers e w (not_cut g))) (numbered w.leases lease) refl
    (λ h is. uncut_held setup answers w e h.conn refusal.UnknownLease refused (λ m c z. ready c)))

ticket_happens : (setup : Setup) (answers : Answers) (w : World) (ticket : ℕ) → LendsIdle setup w → HappensBy setup answers w (event.Resume ticket) (held_of (length (map (λ c. c.standing) w.connections)) (conn_of (holdings_of w.tickets) ticket) refusal.UnknownTicket) (happens_at setup answers (event.Resume ticket) w (not_cut (held w refusal.UnknownTicket (numbered w.tickets ticket))))
ticket_happens setup answers w ticket ready =
    of_holdings w w.tickets ticket refusal.UnknownTicket (λ f. HappensBy setup answers w (event.Resume ticket) f (happens_at setup answers (event.Resume ticket) w (not_cut (held w refusal.UnknownTicket (numbered w.tickets ticket)))))
    (by_holding w refusal.UnknownTicket (λ f g. HappensBy setup answers w (event.Resume ticket) f (happens_at setup answers (event.Resume ticket) w (not_cut g))) (numbered w.tickets ticket) refl
    (λ h is. uncut_held setup answers w (event.Resume ticket) h.conn refusal.UnknownTicket (λ c. refl) (λ m c z. ready.resume ticket m c (ap not_cut is ∙ z))))

back_happens : (setup : Setup) (answers : Answers) (w : World) (e : Event) (hs : List Holding) (n : ℕ) (why : Refusal) → ((m : ℕ) (c : Connection) → acts setup answers w e m c ≡ acts_on setup answers w e m c) → ((m : ℕ) (c : Connection) → held w why (numbered hs n) ≡ world.Here m c → is_cut c.standing ≡ false → IsReady e c) → HappensBy setup answers w e (held_of (length (map (λ c. c.standing) w.connections)) (conn_of (holdings_of hs) n) why) (happens_at setup answers e w (held w why (numbered hs n)))
back_happens setup answers w e hs n why same ready =
    of_holdings w hs n why (λ f. HappensBy setup answers w e f (happens_at setup answers e w (held w why (numbered hs n))))
    (by_holding w why (λ f g. HappensBy setup answers w e f (happens_at setup answers e w g)) (numbered hs n) refl
    (λ h is. here_held setup answers w e h.conn why same (λ m c z lives. ready m c (is ∙ z) lives)))

-- A lease is given back, or a ticket abandoned, also where the connection is cut.
gives_back_on : (setup : Setup) (answers : Answers) (w : World) (lease m : ℕ) (c : Connection) → acts setup answers w (event.GiveBack lease) m c ≡ acts_on setup answers w (event.GiveBack lease) m c
gives_back_on setup answers w lease m c = by_standing c.standing refl
  where
    by_standing : (s : Standing) → c.standing ≡ s → acts setup answers w (event.GiveBack lease) m c ≡ acts_at s setup answers w (event.GiveBack lease) m c
    by_standing (In p) e = refl
    by_standing Cut e = ap (λ (s : Standing). gives_back_at s c) e

abandons_on : (setup : Setup) (answers : Answers) (w : World) (ticket m : ℕ) (c : Connection) → acts setup answers w (event.Abandon ticket) m c ≡ acts_on setup answers w (event.Abandon ticket) m c
abandons_on setup answers w ticket m c = by_standing c.standing refl
  where
    by_standing : (s : Standing) → c.standing ≡ s → acts setup answers w (event.Abandon ticket) m c ≡ acts_at s setup answers w (event.Abandon ticket) m c
    by_standing (In p) e = refl
    by_standing Cut e = ap (λ (s : Standing). abandons_at s c) e

-- ---- The next lease

at_least : (i n : ℕ) (cs : List Connection) → lowest_free i cs ≡ Some n → i ≤ n
at_least i n [] e = absurd (cc)
at_least i n (c ∷ cs) e = by_first (is_free c.standing) (at_least (suc i) n cs) e
  where
    by_first : (b : Bool) → (lowest_free (suc i) cs ≡ Some n → suc i ≤ n) → first_of b i (lowest_free (suc i) cs) ≡ Some n → i ≤ n
    by_first true later e = let same : i ≡ n = cc in omega (arith, same)
    by_first false later e = let more : suc i ≤ n = later e in omega (arith, more)

-- What is lent is free.
lowest_is_free : (i n p : ℕ) (cs : List Connection) (c : Connection) → lowest_free i cs ≡ Some n → n ≡ i + p → slice_get cs p ≡ Some c → is_free c.standing ≡ true
lowest_is_free i n p [] c e at is = absurd (cc)
lowest_is_free i n p (b ∷ cs) c e at is = by_first (is_free b.standing) refl (λ q. lowest_is_free (suc i) n q cs c) e p at is
  where
    by_first : (f : Bool) → is_free b.standing ≡ f → ((q : ℕ) → lowest_free (suc i) cs ≡ Some n → n ≡ suc i + q → slice_get cs q ≡ Some c → is_free c.standing ≡ true) → first_of f i (lowest_free (suc i) cs) ≡ Some n → (q : ℕ) → n ≡ i + q → slice_get (b ∷ cs) q ≡ Some c → is_free c.standing ≡ true
    by_first true free later e zero at is = let same : b ≡ c = cc in subst (λ (x : Connection). is_free x.standing ≡ true) same free
    by_first true free later e (suc q) at is = let same : i ≡ n = cc in absurd (omega (arith, same, at))
    by_first false free later e zero at is = absurd (omega (arith, at, at_least (suc i) n cs e))
    by_first false free later e (suc q) at is = later q e (omega (arith, at)) is

free_lives : (s : Standing) → is_free s ≡ true → is_cut s ≡ false
free_lives (In p) e = refl
free_lives Cut e = absurd (cc)

lent_lives : (setup : Setup) (w : World) (n place : ℕ) (c : Connection) (o : Option ℕ) → lowest_free 1 w.connections ≡ o → to_lend_by setup w o ≡ world.Here n c → n ≡ suc place → slice_get w.connections place ≡ Some c → is_cut c.standing ≡ false
lent_lives setup w n place c (Some m) is e at there_is = by_there (numbered w.connections m) e
  where
    by_there : (x : Option Connection) → there refusal.AllInUse m x ≡ world.Here n c → is_cut c.standing ≡ false
    by_there None e = absurd (cc)
    by_there (Some d) e = let same : m ≡ n = cc in free_lives c.standing (lowest_is_free 1 m place w.connections c is (omega (arith, same, at)) there_is)
lent_lives setup w n place c None is e at there_is = by_room (ltb (pool_count w.connections) setup.max) e
  where
    by_room : (b : Bool) → cond b (world.Opens (next_number w.connections)) (world.Missing refusal.AllInUse) ≡ world.Here n c → is_cut c.standing ≡ false
    by_room true e = absurd (cc)
    by_room false e = absurd (cc)

lives_acts : (setup : Setup) (answers : Answers) (w : World) (e : Event) (n : ℕ) (c : Connection) → is_cut c.standing ≡ false → acts setup answers w e n c ≡ acts_on setup answers w e n c
lives_acts setup answers w e n c lives = by_standing c.standing lives
  where
    by_standing : (s : Standing) → is_cut s ≡ false → acts setup answers w e n c ≡ acts_at s setup answers w e n c
    by_standing (In p) e = refl
    by_standing Cut e = absurd (cc)

lent_happens : (setup : Setup) (answers : Answers) (w : World) (f : Found) (g : world.Found) → to_lend setup w ≡ g → RefinesFound w f g → LendsIdle setup w → HappensBy setup answers w event.Lease f (happens_at setup answers event.Lease w g)
lent_happens setup answers w (Missing why) (world.Missing because) is alike ready = ap (λ (r : Refusal). (outcome.Refused r, w)) (sym alike)
lent_happens setup answers w (Missing why) (world.Here n c) is alike ready = absurd alike
lent_happens setup answers w (Missing why) (world.Opens n) is alike ready = absurd alike
lent_happens setup answers w (Here place) (world.Missing because) is alike ready = absurd alike
lent_happens setup answers w (Here place) (world.Here n c) is alike ready =
    let at : slice_get w.connections place ≡ Some c = ap (numbered w.connections) (sym alike.0) ∙ alike.1 in
    let lives : is_cut c.standing ≡ false = lent_lives setup w n place c (lowest_free 1 w.connections) refl is alike.0 at in
    record {
      connection = c;
      there = at;
      settles =
          ap (λ (m : ℕ). settles event.Lease m w (acts setup answers w event.Lease m c)) alike.0
          ∙ ap (settles event.Lease (suc place) w) (lives_acts setup answers w event.Lease (suc place) c lives);
      ready = λ z. ready.lease n c is;
    }
lent_happens setup answers w (Here place) (world.Opens n) is alike ready = absurd alike
lent_happens setup answers w Opens (world.Missing because) is alike ready = absurd alike
lent_happens setup answers w Opens (world.Here n c) is alike ready = absurd alike
lent_happens setup answers w Opens (world.Opens n) is alike ready = (refl, is ∙ ap world.Opens alike)

-- ---- The link that an event uses

-- The number of a connection that isn't cut.
uncut_number : (why : Refusal) (n : ℕ) (c : Connection) → is_cut c.standing ≡ false → number_of (uncut why n c) ≡ Some n
uncut_number why n c lives = ap number_of (uncut_is_here why n c lives)

-- Where a connection was found, and the event may be lost there, it uses its link.
abbrev UsesLink : World → Option ℕ → Found → Type 0
UsesLink w link (Missing why) = Unit {0}
UsesLink w link Opens = Unit {0}
UsesLink w link (Here place) = (c : Connection) → slice_get w.connections place ≡ Some c → is_cut c.standing ≡ false → link ≡ Some (suc place)

same_connection : (w : World) (place : ℕ) (c d : Connection) → slice_get w.connections place ≡ Some c → slice_get w.connections place ≡ Some d → c ≡ d
same_connection w place c d at there = let is : Some c ≡ Some d = sym at ∙ there in cc

numbered_link : (w : World) (n : ℕ) → UsesLink w (number_of (uncut_in refusal.UnknownConnection n (numbered w.connections n))) (numbered_of (length (map (λ c. c.standing) w.connections)) n refusal.UnknownConnection)
numbered_link w n =
    subst (λ (k : ℕ). UsesLink w (number_of (uncut_in refusal.UnknownConnection n (numbered w.connections n))) (numbered_of k n refusal.UnknownConnection)) (sym (length-map w.connections (λ c. c.standing)))
    (by_number refusal.UnknownConnection (λ (m : ℕ) (o : Option Connection) (f : Found). UsesLink w (number_of (uncut_in refusal.UnknownConnection m o)) f) w.connections n
    tt (λ place. tt)
    (λ place c at d there lives. uncut_number refusal.UnknownConnection (suc place) c (ap (λ (x : Connection). is_cut x.standing) (same_connection w place c d at there) ∙ lives)))

held_link : (w : World) (n : ℕ) (why : Refusal) → UsesLink w (number_of (there why n (numbered w.connections n))) (numbered_of (length w.connections) n why)
held_link w n why =
    by_number why (λ (m : ℕ) (o : Option Connection) (f : Found). UsesLink w (number_of (there why m o)) f) w.connections n
    tt (λ place. tt) (λ place c at d is lives. refl)

uncut_link : (w : World) (n : ℕ) (why : Refusal) → UsesLink w (number_of (not_cut (there why n (numbered w.connections n)))) (numbered_of (length w.connections) n why)
uncut_link w n why =
    by_number why (λ (m : ℕ) (o : Option Connection) (f : Found). UsesLink w (number_of (not_cut (there why m o))) f) w.connections n
    tt (λ place. tt)
    (λ place c at d is lives. uncut_number refusal.ConnectionCut (suc place) c (ap (λ (x : Connection). is_cut x.standing) (same_connection w place c d at is) ∙ lives))

back_link : (w : World) (lease : ℕ) → UsesLink w (number_of (held w refusal.UnknownLease (numbered w.leases lease))) (held_of (length (map (λ c. c.standing) w.connections)) (conn_of (holdings_of w.leases) lease) refusal.UnknownLease)
back_link w lease =
    of_holdings w w.leases lease refusal.UnknownLease (UsesLink w (number_of (held w refusal.UnknownLease (numbered w.leases lease))))
    (by_holding w refusal.UnknownLease (λ f g. UsesLink w (number_of g) f) (numbered w.leases lease) tt
    (λ h is. held_link w h.conn refusal.UnknownLease))

lease_link : (w : World) (lease : ℕ) → UsesLink w (number_of (not_cut (held w refusal.UnknownLease (numbered w.leases lease)))) (held_of (length (map (λ c. c.standing) w.connections)) (conn_of (holdings_of w.leases) lease) refusal.UnknownLease)
lease_link w lease =
    of_holdings w w.leases lease refusal.UnknownLease (UsesLink w (number_of (not_cut (held w refusal.UnknownLease (numbered w.leases lease)))))
    (by_holding w refusal.UnknownLease (λ f g. UsesLink w (number_of (not_cut g)) f) (numbered w.leases lease) tt
    (λ h is. uncut_link w h.conn refusal.UnknownLease))

links_by : (w : World) (link : Option ℕ) (f : Found) (place : ℕ) (c : Connection) → UsesLink w link f → Here place ≡ f → slice_get w.connections place ≡ Some c → is_cut c.standing ≡ false → link ≡ Some (suc place)
links_by w link f place c uses is at lives = subst (UsesLink w link) (sym is) uses c at lives

-- An event that may be lost uses the link of the connection that was found.
pub link_found : (setup : Setup) (w : World) (e : Event) (place : ℕ) (c : Connection)
    → Here place ≡ about_of e (map (λ c. c.standing) w.connections) setup.max (holdings_of w.leases) (holdings_of w.tickets)
    → slice_get w.connections place ≡ Some c → (b : Bool) → is_cut c.standing ≡ b → MayLose b e → link_of setup w e ≡ Some (suc place)
link_found setup w e place c is at true lives may = absurd may
link_found setup w event.Lease place c is at false lives may = absurd may
link_found setup w (event.Resume ticket) place c is at false lives may = absurd may
link_found setup w (event.GiveBack lease) place c is at false lives may = links_by w _ _ place c (back_link w lease) is at lives
link_found setup w (event.Keep lease) place c is at false lives may = absurd may
link_found setup w (event.Abandon ticket) place c is at false lives may = absurd may
link_found setup w (event.Clean n) place c is at false lives may = links_by w _ _ place c (numbered_link w n) is at lives
link_found setup w (event.Ask lease q) place c is at false lives may = absurd may
link_found setup w (event.Send lease) place c is at false lives may = links_by w _ _ place c (lease_link w lease) is at lives
link_found setup w (event.Cancel lease) place c is at false lives may = links_by w _ _ place c (lease_link w lease) is at lives
link_found setup w (event.Work n) place c is at false lives may = links_by w _ _ place c (numbered_link w n) is at lives
link_found setup w (event.ToServer n count) place c is at false lives may = links_by w _ _ place c (numbered_link w n) is at lives
link_found setup w (event.ToClient n count) place c is at false lives may = links_by w _ _ place c (numbered_link w n) is at lives
link_found setup w (event.Cut n) place c is at false lives may = absurd may
link_found setup w event.RestartServer place c is at false lives may = absurd may
link_found setup w event.RestartClient place c is at false lives may = absurd may

-- ---- Any event

-- An event that is about one connection.
abbrev pub IsAboutOne : Event → Type 0
IsAboutOne event.RestartServer = ⊥
IsAboutOne event.RestartClient = ⊥
IsAboutOne e = Unit {0}

numbered_by : (setup : Setup) (answers : Answers) (w : World) (e : Event) (n : ℕ) → ((c : Connection) → on_cut e c ≡ Refuses refusal.UnknownConnection) → ((c : Connection) → IsReady e c) → HappensBy setup answers w e (numbered_of (length (map (λ c. c.standing) w.connections)) n refusal.UnknownConnection) (happens_at setup answers e w (uncut_in refusal.UnknownConnection n (numbered w.connections n)))
numbered_by setup answers w e n refused ready =
    subst (λ (k : ℕ). HappensBy setup answers w e (numbered_of k n refusal.UnknownConnection) (happens_at setup answers e w (uncut_in refusal.UnknownConnection n (numbered w.connections n))))
    (sym (length-map w.connections (λ c. c.standing))) (numbered_happens setup answers w e n refused ready)

pub happens_found : (setup : Setup) (answers : Answers) (w : World) (e : Event) → RefinesFound w (lent (map (λ c. c.standing) w.connections) setup.max) (to_lend setup w) → LendsIdle setup w → IsAboutOne e → HappensBy setup answers w e (about_of e (map (λ c. c.standing) w.connections) setup.max (holdings_of w.leases) (holdings_of w.tickets)) (happens setup answers e w)
happens_found setup answers w event.Lease alike ready one =
    lent_happens setup answers w (lent (map (λ c. c.standing) w.connections) setup.max) (to_lend setup w) refl alike ready
happens_found setup answers w (event.Resume ticket) alike ready one = ticket_happens setup answers w ticket ready
happens_found setup answers w (event.GiveBack lease) alike ready one =
    back_happens setup answers w (event.GiveBack lease) w.leases lease refusal.UnknownLease (gives_back_on setup answers w lease) (λ m c z lives. tt)
happens_found setup answers w (event.Keep lease) alike ready one = lease_happens setup answers w (event.Keep lease) lease (λ c. refl) (λ c. tt)
happens_found setup answers w (event.Abandon ticket) alike ready one =
    back_happens setup answers w (event.Abandon ticket) w.tickets ticket refusal.UnknownTicket (abandons_on setup answers w ticket)
    (λ m c z lives. ready.resume ticket m c (ap not_cut z ∙ uncut_is_here refusal.ConnectionCut m c lives))
happens_found setup answers w (event.Clean n) alike ready one = numbered_by setup answers w (event.Clean n) n (λ c. refl) (λ c. tt)
happens_found setup answers w (event.Ask lease q) alike ready one = lease_happens setup answers w (event.Ask lease q) lease (λ c. refl) (λ c. tt)
happens_found setup answers w (event.Send lease) alike ready one = lease_happens setup answers w (event.Send lease) lease (λ c. refl) (λ c. tt)
happens_found setup answers w (event.Cancel lease) alike ready one = lease_happens setup answers w (event.Cancel lease) lease (λ c. refl) (λ c. tt)
happens_found setup answers w (event.Work n) alike ready one = numbered_by setup answers w (event.Work n) n (λ c. refl) (λ c. tt)
happens_found setup answers w (event.ToServer n count) alike ready one = numbered_by setup answers w (event.ToServer n count) n (λ c. refl) (λ c. tt)
happens_found setup answers w (event.ToClient n count) alike ready one = numbered_by setup answers w (event.ToClient n count) n (λ c. refl) (λ c. tt)
happens_found setup answers w (event.Cut n) alike ready one = numbered_by setup answers w (event.Cut n) n (λ c. refl) (λ c. tt)
happens_found setup answers w event.RestartServer alike ready one = absurd one
happens_found setup answers w event.RestartClient alike ready one = absurd one
