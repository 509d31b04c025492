-- The requests of a connection have numbers in the order in which they were asked, none greater than
-- how many were asked in all.
use Rattle.std.proofs.Common.{◌≡◌, ◌≤◌, ◌<◌, ℕ, suc, List, [], ◌∷◌, ◌++◌, ◌-◌, map, Bool, true, false, length, eqb, refl, sym, ap, subst, ◌∙◌, Option, Some, None, option_map, arith}
use Rattle.std.proofs.lemmas.Bool.Decides.{nat_tests}
use Rattle.std.proofs.lemmas.List.{length-append}
use Rattle.std.specs.List.{AllByRecursion}
use Rattle.tds_request.specs.declared.request.Request.{Request}
use Rattle.tds_session.specs.Answer as answer
use Rattle.tds_session.specs.Answer.{Answers}
use Rattle.tds_world.specs.declared.event.Setup.{Setup}
use Rattle.tds_world.specs.Arrivals.{works_on, server_acts, client_acts}
use Rattle.tds_world.specs.Caller.{sends_by, asks, cancels_by}
use Rattle.tds_world.specs.Connection.{Connection}
use Rattle.tds_world.specs.Lane.{passed}
use Rattle.tds_world.specs.Lawful.{Lawful}
use Rattle.tds_world.specs.Record.{Record, runs, when, if_numbered}
use Rattle.tds_world.specs.World.{World, next_number}
use Rattle.tds_world.proofs.events.Moves.{Invariant, FreeIn, BothIn, MovesOver, NotedOver, noted_on_top, by_noted_moves, AnyAt}
use Rattle.tds_world.proofs.events.Noted.{KeptIn}
use Rattle.tds_world.proofs.requests.Cores.{Core, core_of, past_of, newest_of, SameCores, all_of, joined_cores, sends_same, cancels_same_by, server_same, client_same}
use Rattle.tds_world.proofs.requests.Rests.{SoundAndIdle, SoundRests, rests_noted}

-- Of the newest one, and of those before it.
abbrev pub NumbersOf : ℕ → List Core → Option Core → Type 0
NumbersOf n past None = AllByRecursion (λ p. p.number ≤ n) past
NumbersOf n past (Some q) = (q.number ≤ n) × AllByRecursion (λ p. p.number < q.number) past

abbrev pub Numbers : World → Connection → Type 0
Numbers w c = NumbersOf (length w.asked_on) (past_of c) (newest_of c)

all_less : (n m : ℕ) (past : List Core) → n ≤ m → AllByRecursion (λ p. p.number ≤ n) past → AllByRecursion (λ p. p.number ≤ m) past
all_less n m [] l h = tt
all_less n m (x ∷ xs) l h = (let a : x.number ≤ n = h.0 in omega arith, all_less n m xs l h.1)

numbers_grow : (n m : ℕ) (past : List Core) (o : Option Core) → n ≤ m → NumbersOf n past o → NumbersOf m past o
numbers_grow n m past None l h = all_less n m past l h
numbers_grow n m past (Some q) l h = (let a : q.number ≤ n = h.0 in omega arith, h.1)

-- The next number is greater than all.
below_next : (n : ℕ) (past : List Core) → AllByRecursion (λ p. p.number ≤ n) past → AllByRecursion (λ p. p.number < suc n) past
below_next n [] h = tt
below_next n (x ∷ xs) h = (let a : x.number ≤ n = h.0 in omega arith, below_next n xs h.1)

pub all_below_next : (n : ℕ) (past : List Core) (o : Option Core) → NumbersOf n past o → AllByRecursion (λ p. p.number < suc n) (all_of past o)
all_below_next n past None h = below_next n past h
all_below_next n past (Some q) h = with_newest past h.1
  where
    with_newest : (xs : List Core) → AllByRecursion (λ p. p.number < q.number) xs → AllByRecursion (λ p. p.number < suc n) (xs ++ q ∷ [])
    with_newest [] k = (let a : q.number ≤ n = h.0 in omega arith, tt)
    with_newest (x ∷ xs) k = (let a : q.number ≤ n = h.0 in let b : x.number < q.number = k.0 in omega arith, with_newest xs k.1)

-- Cores that stay keep their numbers.
pub same_numbers : (n : ℕ) (c d : Connection) → SameCores c d → NumbersOf n (past_of c) (newest_of c) → NumbersOf n (past_of d) (newest_of d)
same_numbers n c d e h =
    subst (λ xs. NumbersOf n xs (newest_of d)) (sym e.0) (subst (λ o. NumbersOf n (past_of c) o) (sym e.1) h)

-- A change of the newest request's record changes no older one.
other_number : (a b : ℕ) → a < b → eqb a b ≡ false
other_number a b l = grind (arith, nat_tests)

unchanged : (b : Bool) (f : Record → Record) (q : Record) → b ≡ false → when b f q ≡ q
unchanged true f q e = absurd (cc)
unchanged false f q e = refl

pub past_stays : (n : ℕ) (f : Record → Record) (past : List Record) → AllByRecursion (λ p. p.number < n) (map core_of past) → map (if_numbered n f) past ≡ past
past_stays n f [] h = refl
past_stays n f (p ∷ ps) h =
    ap (λ x. x ∷ map (if_numbered n f) ps) (unchanged (eqb p.number n) f p (other_number p.number n h.0)) ∙ ap (λ xs. p ∷ xs) (past_stays n f ps h.1)

-- A record that runs keeps its number.
number_when : (b : Bool) (f : Record → Record) (q : Record) → (f q).number ≡ q.number → (when b f q).number ≡ q.number
number_when true f q e = e
number_when false f q e = refl

numbers_mapped : (P : ℕ → Type 0) (f : Record → Record) (qs : List Record) → ((q : Record) → (f q).number ≡ q.number) → AllByRecursion (λ p. P p.number) (map core_of qs) → AllByRecursion (λ p. P p.number) (map core_of (map f qs))
numbers_mapped P f [] k h = tt
numbers_mapped P f (q ∷ qs) k h = (subst P (sym (k q)) h.0, numbers_mapped P f qs k h.1)

changed_numbers : (n : ℕ) (f : Record → Record) (past : List Record) (o : Option Record) → ((q : Record) → (f q).number ≡ q.number) → NumbersOf n (map core_of past) (option_map core_of o) → NumbersOf n (map core_of (map f past)) (option_map core_of (option_map f o))
changed_numbers n f past None k h = numbers_mapped (λ x. x ≤ n) f past k h
changed_numbers n f past (Some q) k h =
    (subst (λ x. x ≤ n) (sym (k q)) h.0, subst (λ x. AllByRecursion (λ p. p.number < x) (map core_of (map f past))) (sym (k q)) (numbers_mapped (λ x. x < q.number) f past k h.1))

works_number : (n : ℕ) (c : Connection) (due : List answer.Step) → NumbersOf n (past_of c) (newest_of c) → NumbersOf n (past_of (works_on c due)) (newest_of (works_on c due))
works_number n c [] h = h
works_number n c (s ∷ ss) h =
    changed_numbers n (if_numbered c.answering (runs c.session s)) c.past c.current (λ q. number_when (eqb q.number c.answering) (runs c.session s) q refl) h

-- ---- Each move

one_more : (ns : List ℕ) (n : ℕ) → suc (length ns) ≤ length (ns ++ n ∷ [])
one_more ns n = rw (length-append ns (n ∷ [])) (omega arith)

asks_number : (ns : List ℕ) (lease n : ℕ) (q : Request) (c : Connection) → NumbersOf (length ns) (past_of c) (newest_of c) → let d : Connection = asks (next_number ns) lease n q c in NumbersOf (length (ns ++ n ∷ [])) (past_of d) (newest_of d)
asks_number ns lease n q c h =
    (one_more ns n, subst (AllByRecursion (λ p. p.number < next_number ns)) (sym (joined_cores c.past c.current)) (all_below_next (length ns) (past_of c) (newest_of c) h))

numbers_moves : (setup : Setup) (answers : Answers) → MovesOver setup answers AnyAt SoundRests (λ w c ups downs. Numbers w c)
numbers_moves setup answers = record {
  stands = λ w r n c b f h. h;
  asked = λ w lease n q c x s i f h. asks_number w.asked_on lease n q c h;
  sent = λ w last q c i s b f h. same_numbers (length w.asked_on) c (sends_by last (setup.packet_size - 8) q c) (sends_same last (setup.packet_size - 8) q c i) h;
  cancelled = λ w p q c i at f h. same_numbers (length w.asked_on) c (cancels_by p q c) (cancels_same_by p q c i) h;
  worked = λ w c s ss is f h. works_number (length w.asked_on) c (s ∷ ss) h;
  at_server = λ w c e es f h. same_numbers (length w.asked_on) c (server_acts answers (record c { to_server = passed e c.to_server }) e) (server_same answers c e) h;
  at_client = λ w c e es f h. same_numbers (length w.asked_on) c (client_acts (record c { to_client = passed e c.to_client }) e) (client_same c e) h;
  server_waits = λ w c es k m h. h;
  client_waits = λ w c es k m h. h;
}

-- Sound, idle where it rests, and with its requests in order.
abbrev pub InOrder : World → Connection → Type 0
InOrder w c = SoundAndIdle w c × Numbers w c

abbrev pub InOrderWith : World → Invariant
InOrderWith = BothIn SoundRests (λ w c ups downs. Numbers w c)

pub in_order_noted : (setup : Setup) (answers : Answers) → Lawful answers → NotedOver setup answers AnyAt FreeIn InOrderWith
in_order_noted setup answers l = noted_on_top setup answers AnyAt SoundRests (λ w c ups downs. Numbers w c) (rests_noted setup answers l) (record {
  grows = λ w v c u d a h. numbers_grow (length w.asked_on) (length v.asked_on) (past_of c) (newest_of c) a.asked h;
  opened = λ w n. tt;
  moves = numbers_moves setup answers;
})

pub in_order_kept : (setup : Setup) (answers : Answers) → Lawful answers → KeptIn setup answers InOrder
in_order_kept setup answers l = by_noted_moves setup answers InOrderWith (in_order_noted setup answers l)
