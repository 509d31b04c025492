-- The requests of each connection are just those that were asked on it, in the order in which they
-- were asked.
use Rattle.std.proofs.Common.{◌≡◌, ◌≢◌, ◌≤◌, ◌⊎◌, inl, inr, ℕ, zero, suc, List, [], ◌∷◌, ◌++◌, ◌-◌, ◌+◌, map, Bool, true, false, length, eqb, refl, sym, ap, subst, ◌∙◌, Option, Some, None, option_map, arith}
use Rattle.std.proofs.lemmas.Bool.Decides.{nat_tests}
use Rattle.std.specs.List.{AllByRecursion}
use Rattle.std.specs.Prelude.{slice_get}
use Rattle.tds_request.specs.declared.request.Request.{Request}
use Rattle.tds_session.specs.Answer as answer
use Rattle.tds_session.specs.Answer.{Answers}
use Rattle.tds_world.specs.declared.event.Event.{Event}
use Rattle.tds_world.specs.declared.event.Event.TheVariants as event
use Rattle.tds_world.specs.declared.event.Setup.{Setup}
use Rattle.tds_world.specs.declared.report.Place.TheVariants as place
use Rattle.tds_world.specs.Arrivals.{works_on, server_acts, client_acts}
use Rattle.tds_world.specs.Caller.{sends_by, asks, cancels_by}
use Rattle.tds_world.specs.Connection.{Connection, new_connection, records, cut}
use Rattle.tds_world.specs.Events.{about, acts, notes, settles, happens_at, happens, world_after}
use Rattle.tds_world.specs.Lane.{passed}
use Rattle.tds_world.specs.Laws.{Always}
use Rattle.tds_world.specs.Order.{number_if, numbers_on, IsInOrder, RequestsInOrder}
use Rattle.tds_world.specs.Pool.{Acted, Refuses, Does, opens}
use Rattle.tds_world.specs.Record.{Record, new_record, runs, when, if_numbered}
use Rattle.tds_world.specs.World.{World, Found, Missing, Here, Opens, new_world, next_number, numbered, put, put_numbered}
use Rattle.tds_world.proofs.events.Agreement.{happens_agrees, new_agrees}
use Rattle.tds_world.proofs.events.Grows.{notes_leave}
use Rattle.tds_world.proofs.events.Happens.{happens_cases}
use Rattle.tds_world.proofs.events.Moves.{FreeIn, MovesOver, acted}
use Rattle.tds_world.proofs.events.Noted.{world_with}
use Rattle.tds_world.proofs.events.Places.{StandsFor, FoundWith, about_stands, Agrees, none_at_end}
use Rattle.tds_world.proofs.events.Words.{OfActed}
use Rattle.tds_world.proofs.flow.Arrivals.{same_number}
use Rattle.tds_world.proofs.requests.Cores.{Core, core_of, past_of, newest_of, SameCores, all_of, joined_cores, sends_same, cancels_same_by, server_same, client_same}

-- ---- Numbers on a connection

number_more : (b : Bool) (k y : ℕ) (xs : List ℕ) → number_if b k (xs ++ y ∷ []) ≡ number_if b k xs ++ y ∷ []
number_more true k y xs = refl
number_more false k y xs = refl

numbers_here : (n k : ℕ) (ns : List ℕ) → numbers_on n k (ns ++ n ∷ []) ≡ numbers_on n k ns ++ (k + length ns) ∷ []
numbers_here n k [] =
    let end : k ≡ k + 0 = omega arith in
    ap (λ b. number_if b k []) (same_number n n refl) ∙ ap (λ x. x ∷ []) end
numbers_here n k (m ∷ ms) =
    let end : suc k + length ms ≡ k + suc (length ms) = omega arith in
    ap (number_if (eqb m n) k) (numbers_here n (suc k) ms)
    ∙ (number_more (eqb m n) k (suc k + length ms) (numbers_on n (suc k) ms) ∙ ap (λ x. number_if (eqb m n) k (numbers_on n (suc k) ms) ++ x ∷ []) end)

numbers_elsewhere : (n k m : ℕ) (ns : List ℕ) → eqb m n ≡ false → numbers_on n k (ns ++ m ∷ []) ≡ numbers_on n k ns
numbers_elsewhere n k m [] e = ap (λ b. number_if b k []) e
numbers_elsewhere n k m (l ∷ ls) e = ap (number_if (eqb l n) k) (numbers_elsewhere n (suc k) m ls e)

-- ---- Requests on a connection

-- These are the requests that were asked on connection n.
abbrev Listed : ℕ → List ℕ → List Core → Type 0
Listed n ns xs = (map (λ x. x.number) xs ≡ numbers_on n 1 ns) × AllByRecursion (λ x. x.conn ≡ n) xs

abbrev ListedOn : ℕ → List ℕ → Connection → Type 0
ListedOn n ns c = Listed n ns (all_of (past_of c) (newest_of c))

same_listed : (n : ℕ) (ns : List ℕ) (c d : Connection) → SameCores c d → ListedOn n ns c → ListedOn n ns d
same_listed n ns c d e h =
    subst (λ xs. Listed n ns (all_of xs (newest_of d))) (sym e.0) (subst (λ o. Listed n ns (all_of (past_of c) o)) (sym e.1) h)

-- A change that leaves the number and the connection.
pub record Leaves (f : Record → Record) : Type 0 where
  pub number : (q : Record) → (f q).number ≡ q.number
  pub conn : (q : Record) → (f q).conn ≡ q.conn

same_numbers : (f : Record → Record) (past : List Record) (o : Option Record) → Leaves f → map (λ (x : Core). x.number) (all_of (map core_of (map f past)) (option_map core_of (option_map f o))) ≡ map (λ (x : Core). x.number) (all_of (map core_of past) (option_map core_of o))
same_numbers f [] None k = refl
same_numbers f [] (Some q) k = ap (λ x. x ∷ []) (k.number q)
same_numbers f (p ∷ ps) None k =
    ap (λ x. x ∷ map (λ (x : Core). x.number) (map core_of (map f ps))) (k.number p) ∙ ap (λ xs. p.number ∷ xs) (same_numbers f ps None k)
same_numbers f (p ∷ ps) (Some q) k =
    ap (λ x. x ∷ map (λ (x : Core). x.number) (all_of (map core_of (map f ps)) (Some (core_of (f q))))) (k.number p) ∙ ap (λ xs. p.number ∷ xs) (same_numbers f ps (Some q) k)

same_conns : (n : ℕ) (f : Record → Record) (past : List Record) (o : Option Record) → Leaves f → AllByRecursion (λ (x : Core). x.conn ≡ n) (all_of (map core_of past) (option_map core_of o)) → AllByRecursion (λ (x : Core). x.conn ≡ n) (all_of (map core_of (map f past)) (option_map core_of (option_map f o)))
same_conns n f [] None k h = tt
same_conns n f [] (Some q) k h = (k.conn q ∙ h.0, tt)
same_conns n f (p ∷ ps) None k h = (k.conn p ∙ h.0, same_conns n f ps None k h.1)
same_conns n f (p ∷ ps) (Some q) k h = (k.conn p ∙ h.0, same_conns n f ps (Some q) k h.1)

when_leaves : (b : Bool) (f : Record → Record) (q : Record) → (f q).number ≡ q.number → (f q).conn ≡ q.conn → ((when b f q).number ≡ q.number) × ((when b f q).conn ≡ q.conn)
when_leaves true f q e g = (e, g)
when_leaves false f q e g = (refl, refl)

works_listed : (n : ℕ) (ns : List ℕ) (c : Connection) (due : List answer.Step) → ListedOn n ns c → ListedOn n ns (works_on c due)
works_listed n ns c [] h = h
works_listed n ns c (s ∷ ss) h =
    let f : Record → Record = if_numbered c.answering (runs c.session s) in
    let k : Leaves f = record {
      number = λ q. (when_leaves (eqb q.number c.answering) (runs c.session s) q refl refl).0;
      conn = λ q. (when_leaves (eqb q.number c.answering) (runs c.session s) q refl refl).1;
    } in
    (same_numbers f c.past c.current k ∙ h.0, same_conns n f c.past c.current k h.1)

-- A new request.
with_newest : (xs : List Core) (x : Core) → map (λ (x : Core). x.number) (xs ++ x ∷ []) ≡ map (λ (x : Core). x.number) xs ++ x.number ∷ []
with_newest [] x = refl
with_newest (y ∷ ys) x = ap (λ zs. y.number ∷ zs) (with_newest ys x)

conns_with_newest : (n : ℕ) (xs : List Core) (x : Core) → x.conn ≡ n → AllByRecursion (λ (x : Core). x.conn ≡ n) xs → AllByRecursion (λ (x : Core). x.conn ≡ n) (xs ++ x ∷ [])
conns_with_newest n [] x e h = (e, tt)
conns_with_newest n (y ∷ ys) x e h = (h.0, conns_with_newest n ys x e h.1)

newest_listed : (n : ℕ) (ns : List ℕ) (xs : List Core) (x : Core) → x.number ≡ next_number ns → x.conn ≡ n → Listed n ns xs → Listed n (ns ++ n ∷ []) (xs ++ x ∷ [])
newest_listed n ns xs x e g h =
    let next : x.number ≡ 1 + length ns = omega arith in (
      with_newest xs x ∙ (ap (λ ys. ys ++ x.number ∷ []) h.0 ∙ (ap (λ y. numbers_on n 1 ns ++ y ∷ []) next ∙ sym (numbers_here n 1 ns))),
      conns_with_newest n xs x g h.1,
    )

-- ---- Each move

-- The connections of all requests after it, which is about connection n.
abbrev pub asked_then : Event → ℕ → List ℕ → List ℕ
asked_then (event.Clean k) n ns = ns ++ n ∷ []
asked_then (event.Ask l q) n ns = ns ++ n ∷ []
asked_then e n ns = ns

asks_listed : (ns : List ℕ) (lease n : ℕ) (q : Request) (c : Connection) → ListedOn n ns c → ListedOn n (ns ++ n ∷ []) (asks (next_number ns) lease n q c)
asks_listed ns lease n q c h =
    let x : Core = core_of (new_record (next_number ns) lease n q c.mark c.heard) in
    subst (λ xs. Listed n (ns ++ n ∷ []) (xs ++ x ∷ [])) (sym (joined_cores c.past c.current))
    (newest_listed n ns (all_of (past_of c) (newest_of c)) x refl refl h)

listed_moves : (setup : Setup) (answers : Answers) (n : ℕ) → MovesOver setup answers (λ i e. i ≡ n) FreeIn (λ w c ups downs. ListedOn n w.asked_on c)
listed_moves setup answers n = record {
  stands = λ w r i c b f h. h;
  asked = λ w lease i q c x s t f h. subst (λ j. ListedOn n (w.asked_on ++ j ∷ []) (asks (next_number w.asked_on) lease j q c)) (sym x) (asks_listed w.asked_on lease n q c h);
  sent = λ w last q c i s b f h. same_listed n w.asked_on c (sends_by last (setup.packet_size - 8) q c) (sends_same last (setup.packet_size - 8) q c i) h;
  cancelled = λ w p q c i at f h. same_listed n w.asked_on c (cancels_by p q c) (cancels_same_by p q c i) h;
  worked = λ w c s ss is f h. works_listed n w.asked_on c (s ∷ ss) h;
  at_server = λ w c e es f h. same_listed n w.asked_on c (server_acts answers (record c { to_server = passed e c.to_server }) e) (server_same answers c e) h;
  at_client = λ w c e es f h. same_listed n w.asked_on c (client_acts (record c { to_client = passed e c.to_client }) e) (client_same c e) h;
  server_waits = λ w c es k m h. h;
  client_waits = λ w c es k m h. h;
}

-- What holds where nothing is asked, and where a request is.
pub asked_cases : (n : ℕ) (ns : List ℕ) (P : List ℕ → Type 0) → P ns → P (ns ++ n ∷ []) → (e : Event) → P (asked_then e n ns)
asked_cases n ns P none one (event.Clean k) = one
asked_cases n ns P none one (event.Ask l q) = one
asked_cases n ns P none one e = none

-- On another connection nothing is asked.
elsewhere : (e : Event) (n m : ℕ) (ns : List ℕ) (xs : List Core) → eqb n m ≡ false → Listed m ns xs → Listed m (asked_then e n ns) xs
elsewhere e n m ns xs d h = asked_cases n ns (λ ms. Listed m ms xs) h (h.0 ∙ sym (numbers_elsewhere m 1 n ns d), h.1) e

pub notes_asked : (e : Event) (n heard : ℕ) (w : World) → (notes e n heard w).asked_on ≡ asked_then e n w.asked_on
notes_asked (event.Clean k) n heard w = refl
notes_asked (event.Ask l q) n heard w = refl
notes_asked e n heard w = refl

listed_then : (e : Event) (n : ℕ) (w : World) (a : Acted) → OfActed (λ d. ListedOn n (world_with e n w d).asked_on d) a → OfActed (ListedOn n (asked_then e n w.asked_on)) a
listed_then e n w (Refuses why) h = tt
listed_then e n w (Does what d) h = subst (λ ns. ListedOn n ns d) (notes_asked e n d.heard (record w { connections = put_numbered n d w.connections })) h

acts_listed : (setup : Setup) (answers : Answers) (w : World) (e : Event) (n : ℕ) (c : Connection) → StandsFor e c.standing → ListedOn n w.asked_on c → OfActed (ListedOn n (asked_then e n w.asked_on)) (acts setup answers w e n c)
acts_listed setup answers w e n c s h =
    listed_then e n w (acts setup answers w e n c)
    (acted setup answers (λ i x. i ≡ n) (λ i j lease x. x) (λ v d ups downs. ListedOn n v.asked_on d) (λ v u d i j m a g. subst (λ ns. ListedOn n ns d) (sym m) g) (listed_moves setup answers n) w e n c refl s h)

-- ---- Connections at their numbers

put_at : (n : ℕ) (d : Connection) (cs : List Connection) (m : ℕ) (c : Connection) → n ≤ length cs → slice_get (put n d cs) m ≡ Some c → ((m ≡ n) × (d ≡ c)) ⊎ ((m ≢ n) × (slice_get cs m ≡ Some c))
put_at n d [] zero c l e = inl (omega arith, cc)
put_at n d [] (suc m) c l e = absurd (cc)
put_at zero d (x ∷ xs) zero c l e = inl (refl, cc)
put_at zero d (x ∷ xs) (suc m) c l e = inr (λ z. absurd (omega arith), e)
put_at (suc n) d (x ∷ xs) zero c l e = inr (λ z. absurd (omega arith), e)
put_at (suc n) d (x ∷ xs) (suc m) c l e = elim (put_at n d xs m c (omega arith) e) [
  | inl h ↦ inl (ap suc h.0, h.1)
  | inr h ↦ inr (λ z. h.0 (omega arith), h.1)
]

-- Its number is one of theirs, or the next.
abbrev HasPlace : ℕ → List Connection → Type 0
HasPlace zero cs = ⊥
HasPlace (suc k) cs = k ≤ length cs

place_at : (cs : List Connection) (k : ℕ) (c : Connection) → slice_get cs k ≡ Some c → k ≤ length cs
place_at [] k c e = absurd (cc)
place_at (x ∷ xs) zero c e = omega arith
place_at (x ∷ xs) (suc k) c e = let less : k ≤ length xs = place_at xs k c e in omega arith

has_place : (cs : List Connection) (n : ℕ) (c : Connection) → numbered cs n ≡ Some c → HasPlace n cs
has_place cs zero c e = absurd (cc)
has_place cs (suc k) c e = place_at cs k c e

next_place : (cs : List Connection) (n : ℕ) → n ≡ next_number cs → HasPlace n cs
next_place cs zero e = absurd (cc)
next_place cs (suc k) e = omega arith

put_number : (n : ℕ) (d : Connection) (cs : List Connection) (m : ℕ) (c : Connection) → HasPlace n cs → numbered (put_numbered n d cs) m ≡ Some c → ((m ≡ n) × (d ≡ c)) ⊎ ((m ≢ n) × (numbered cs m ≡ Some c))
put_number zero d cs m c l e = absurd l
put_number (suc k) d cs zero c l e = absurd (cc)
put_number (suc k) d cs (suc m) c l e = elim (put_at k d cs m c l e) [
  | inl h ↦ inl (ap suc h.0, h.1)
  | inr h ↦ inr (λ z. h.0 (omega arith), h.1)
]

-- A connection of this number is there.
abbrev IsThere : List Connection → ℕ → Type 0
IsThere cs k = (c : Connection) × (numbered cs k ≡ Some c)

there_at : (n : ℕ) (d : Connection) (cs : List Connection) (k : ℕ) (c : Connection) → slice_get cs k ≡ Some c → (b : Connection) × (slice_get (put n d cs) k ≡ Some b)
there_at n d [] k c e = absurd (cc)
there_at zero d (x ∷ xs) zero c e = (d, refl)
there_at zero d (x ∷ xs) (suc k) c e = (c, e)
there_at (suc n) d (x ∷ xs) zero c e = (c, e)
there_at (suc n) d (x ∷ xs) (suc k) c e = there_at n d xs k c e

stays_there : (n : ℕ) (d : Connection) (cs : List Connection) (k : ℕ) → IsThere cs k → IsThere (put_numbered n d cs) k
stays_there zero d cs k h = h
stays_there (suc n) d cs zero h = h
stays_there (suc n) d cs (suc k) h = there_at n d cs k h.0 h.1

stay_there : (n : ℕ) (d : Connection) (cs : List Connection) (ns : List ℕ) → AllByRecursion (IsThere cs) ns → AllByRecursion (IsThere (put_numbered n d cs)) ns
stay_there n d cs [] h = tt
stay_there n d cs (k ∷ ks) h = (stays_there n d cs k h.0, stay_there n d cs ks h.1)

one_more : (cs : List Connection) (n : ℕ) (ns : List ℕ) → IsThere cs n → AllByRecursion (IsThere cs) ns → AllByRecursion (IsThere cs) (ns ++ n ∷ [])
one_more cs n [] x h = (x, tt)
one_more cs n (k ∷ ks) x h = (h.0, one_more cs n ks x h.1)

all_there : (e : Event) (cs : List Connection) (n : ℕ) (ns : List ℕ) → IsThere cs n → AllByRecursion (IsThere cs) ns → AllByRecursion (IsThere cs) (asked_then e n ns)
all_there e cs n ns x h = asked_cases n ns (AllByRecursion (IsThere cs)) h (one_more cs n ns x h) e

-- ---- The world

abbrev AllListed : List Connection → List ℕ → Type 0
AllListed cs ns = ((n : ℕ) (c : Connection) → numbered cs n ≡ Some c → ListedOn n ns c) × AllByRecursion (IsThere cs) ns

other : (m n : ℕ) → m ≢ n → eqb n m ≡ false
other m n d = by_test (eqb n m) refl
  where
    by_test : (b : Bool) → eqb n m ≡ b → eqb n m ≡ false
    by_test true e = let same : m ≡ n = grind (arith, nat_tests) in absurd (d same)
    by_test false e = e

put_listed : (e : Event) (n : ℕ) (d : Connection) (cs : List Connection) (ns : List ℕ) → HasPlace n cs → ListedOn n (asked_then e n ns) d → ((m : ℕ) (c : Connection) → numbered cs m ≡ Some c → ListedOn m ns c) → (m : ℕ) (c : Connection) → numbered (put_numbered n d cs) m ≡ Some c → ListedOn m (asked_then e n ns) c
put_listed e n d cs ns l g h m c i = elim (put_number n d cs m c l i) [
  | inl z ↦ subst (λ k. ListedOn k (asked_then e n ns) c) (sym z.0) (subst (ListedOn n (asked_then e n ns)) z.1 g)
  | inr z ↦ elsewhere e n m ns (all_of (past_of c) (newest_of c)) (other m n z.0) (h m c z.1)
]

abbrev WorldListed : World → Type 0
WorldListed w = AllListed w.connections w.asked_on

settles_keeps : (e : Event) (n : ℕ) (w : World) (c : Connection) (a : Acted) → numbered w.connections n ≡ Some c → OfActed (ListedOn n (asked_then e n w.asked_on)) a → AllListed w.connections w.asked_on → AllListed (settles e n w a).1.connections (settles e n w a).1.asked_on
settles_keeps e n w c (Refuses why) i g h = h
settles_keeps e n w c (Does what d) i g h =
    let v : World = record w { connections = put_numbered n d w.connections } in
    subst (λ cs. AllListed cs (notes e n d.heard v).asked_on) (sym (notes_leave e n d.heard v))
    (subst (AllListed (put_numbered n d w.connections)) (sym (notes_asked e n d.heard v)) (
      put_listed e n d w.connections w.asked_on (has_place w.connections n c i) g h.0,
      all_there e (put_numbered n d w.connections) n w.asked_on (stays_there n d w.connections n (c, i)) (stay_there n d w.connections w.asked_on h.1),
    ))

-- A new connection: nothing was asked on it.
none_on : (cs : List Connection) (k : ℕ) (ns : List ℕ) → AllByRecursion (IsThere cs) ns → numbers_on (next_number cs) k ns ≡ []
none_on cs k [] h = refl
none_on cs k (m ∷ ms) h =
    let differ : eqb m (next_number cs) ≡ false = other (next_number cs) m (λ z. none_at_end cs h.0.0 (subst (λ i. numbered cs i ≡ Some h.0.0) (sym z) h.0.1)) in
    ap (λ b. number_if b k (numbers_on (next_number cs) (suc k) ms)) differ ∙ none_on cs (suc k) ms h.1

opened : (setup : Setup) (n : ℕ) (w : World) → n ≡ next_number w.connections → WorldListed w → WorldListed (settles event.Lease n w (opens setup.on_attention (next_number w.leases) n)).1
opened setup n w e h =
    let d : Connection = new_connection setup.on_attention (place.Leased (next_number w.leases)) in
    let none : [] ≡ numbers_on n 1 w.asked_on = sym (subst (λ k. numbers_on k 1 w.asked_on ≡ []) (sym e) (none_on w.connections 1 w.asked_on h.1)) in
    (put_listed event.Lease n d w.connections w.asked_on (next_place w.connections n e) (none, tt) h.0, stay_there n d w.connections w.asked_on h.1)

-- All are cut.
cut_at : (cs : List Connection) (k : ℕ) (c : Connection) → slice_get (map cut cs) k ≡ Some c → (b : Connection) × (slice_get cs k ≡ Some b) × (cut b ≡ c)
cut_at [] k c e = absurd (cc)
cut_at (x ∷ xs) zero c e = (x, refl, cc)
cut_at (x ∷ xs) (suc k) c e = cut_at xs k c e

cut_there_at : (cs : List Connection) (k : ℕ) (c : Connection) → slice_get cs k ≡ Some c → (b : Connection) × (slice_get (map cut cs) k ≡ Some b)
cut_there_at [] k c e = absurd (cc)
cut_there_at (x ∷ xs) zero c e = (cut x, refl)
cut_there_at (x ∷ xs) (suc k) c e = cut_there_at xs k c e

cut_there : (cs : List Connection) (k : ℕ) → IsThere cs k → IsThere (map cut cs) k
cut_there cs zero h = absurd (let e : None ≡ Some h.0 = h.1 in cc)
cut_there cs (suc k) h = cut_there_at cs k h.0 h.1

all_cut_there : (cs : List Connection) (ns : List ℕ) → AllByRecursion (IsThere cs) ns → AllByRecursion (IsThere (map cut cs)) ns
all_cut_there cs [] h = tt
all_cut_there cs (k ∷ ks) h = (cut_there cs k h.0, all_cut_there cs ks h.1)

cut_listed : (cs : List Connection) (ns : List ℕ) → AllListed cs ns → AllListed (map cut cs) ns
cut_listed cs ns h = (each, all_cut_there cs ns h.1)
  where
    each : (n : ℕ) (c : Connection) → numbered (map cut cs) n ≡ Some c → ListedOn n ns c
    each zero c e = absurd (cc)
    each (suc k) c e = let b = cut_at cs k c e in subst (ListedOn (suc k) ns) b.2 (h.0 (suc k) b.0 b.1)

found : (setup : Setup) (answers : Answers) (e : Event) (w : World) (f : Found) → FoundWith w (StandsFor e) f → WorldListed w → WorldListed (happens_at setup answers e w f).1
found setup answers e w (Missing why) s h = h
found setup answers e w (Here n c) s h = settles_keeps e n w c (acts setup answers w e n c) s.0 (acts_listed setup answers w e n c s.1 (h.0 n c s.0)) h
found setup answers e w (Opens n) s h = opened setup n w s h

at_event : (setup : Setup) (answers : Answers) (e : Event) (w : World) → Agrees w → WorldListed w → WorldListed (happens_at setup answers e w (about setup w e)).1
at_event setup answers e w a h = found setup answers e w (about setup w e) (about_stands setup w e a) h

happens_listed : (setup : Setup) (answers : Answers) (e : Event) (w : World) → Agrees w → WorldListed w → WorldListed (happens setup answers e w).1
happens_listed setup answers e w a h =
    happens_cases setup answers w (λ e r. WorldListed r.1)
    (cut_listed w.connections w.asked_on h)
    (cut_listed w.connections w.asked_on h)
    (λ e. at_event setup answers e w a h) e

after_listed : (setup : Setup) (answers : Answers) (events : List Event) (w : World) → Agrees w → WorldListed w → WorldListed (world_after setup answers events w)
after_listed setup answers [] w a h = h
after_listed setup answers (e ∷ es) w a h =
    after_listed setup answers es (happens setup answers e w).1 (happens_agrees setup answers e w a) (happens_listed setup answers e w a h)

-- ---- The law

numbers_of : (qs : List Record) → map (λ (q : Record). q.number) qs ≡ map (λ (x : Core). x.number) (map core_of qs)
numbers_of [] = refl
numbers_of (q ∷ qs) = ap (λ xs. q.number ∷ xs) (numbers_of qs)

conns_of : (n : ℕ) (qs : List Record) → AllByRecursion (λ (x : Core). x.conn ≡ n) (map core_of qs) → AllByRecursion (λ (q : Record). q.conn ≡ n) qs
conns_of n [] h = tt
conns_of n (q ∷ qs) h = (h.0, conns_of n qs h.1)

is_in_order : (n : ℕ) (ns : List ℕ) (c : Connection) → ListedOn n ns c → IsInOrder n ns c
is_in_order n ns c h =
    let l : Listed n ns (map core_of (records c)) = subst (Listed n ns) (sym (joined_cores c.past c.current)) h in
    record { numbers = numbers_of (records c) ∙ l.0; conns = conns_of n (records c) l.1 }

none_there : (n : ℕ) (c : Connection) → numbered [] n ≡ Some c → ListedOn n [] c
none_there zero c e = absurd (cc)
none_there (suc k) c e = absurd (cc)

pub requests_in_order : (setup : Setup) (answers : Answers) → Always setup answers RequestsInOrder
requests_in_order setup answers events =
    let w : World = world_after setup answers events new_world in
    let h : WorldListed w = after_listed setup answers events new_world new_agrees (none_there, tt) in
    record { each = λ n c e. is_in_order n w.asked_on c (h.0 n c e); known = h.1 }
