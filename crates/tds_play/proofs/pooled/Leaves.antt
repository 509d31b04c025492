-- A call of the pool about one connection leaves the others as they are, and this one is in the pool still, or is
-- taken out.
use Rattle.std.proofs.Common.{◌≡◌, ◌∙◌, ◌⊎◌, inl, inr, ℕ, Bool, true, false, List, [], ◌∷◌, Option, Some, None, refl, sym, ap, subst, cond}
use Rattle.std.specs.Prelude.{IsSome, option_map}
use Rattle.tds_client.specs.Sending.{cancelled}
use Rattle.tds_client.specs.Session.{ClientSession, Stage, Idle, Sending, Reading, Cancelling, Broken}
use Rattle.tds_pool.specs.Calls.{Returned, abandoned, all_numbers, given_back, is_broken, is_draining, is_held, is_kept_for, is_lent_for, kept_for, lent_to, only, put_back, rested, rests_at, session_behind, standing}
use Rattle.tds_pool.specs.Calls as calls
use Rattle.tds_pool.specs.Connections.{Connection, changed_in, lending_ended_at, next_turn, numbered, taken_out, with_client}
use Rattle.tds_pool.specs.declared.answers.GivenBack.{GivenBack}
use Rattle.tds_pool.specs.declared.answers.GivenBack.TheVariants as given
use Rattle.tds_pool.specs.declared.lease.Lease.{Lease}
use Rattle.tds_pool.specs.declared.lease.Ticket.{Ticket}
use Rattle.tds_pool.specs.declared.lease.Turn.{Turn}
use Rattle.tds_pool.specs.declared.seat.Place.{Place}
use Rattle.tds_pool.specs.declared.seat.Place.TheVariants as places
use Rattle.tds_play.specs.Pooled.{rests_in}
use Rattle.tds_play.proofs.pooled.Changes.{KeepsNumber, SameBut, by_number, changed_here, changed_numbers, changed_others, first_is, first_not, taken_first, taken_gone, taken_later, taken_none, taken_others}
use Rattle.tds_play.proofs.pooled.Returned.{ends, number_found}

-- ---- What is found goes by the numbers

same_head : (c : Connection) (cs : List Connection) (n : ℕ) (ns : List ℕ) → all_numbers (c ∷ cs) ≡ n ∷ ns → c.number ≡ n
same_head c cs n ns same = let e : c.number ∷ all_numbers cs ≡ n ∷ ns = same in cc

same_rest : (c : Connection) (cs : List Connection) (n : ℕ) (ns : List ℕ) → all_numbers (c ∷ cs) ≡ n ∷ ns → all_numbers cs ≡ ns
same_rest c cs n ns same = let e : c.number ∷ all_numbers cs ≡ n ∷ ns = same in cc

some_is : (o : Option Connection) (c : Connection) → o ≡ Some c → IsSome o
some_is o c e = subst (λ (x : Option Connection). IsSome x) (sym e) refl

-- One that is there is there still where the numbers are the same.
pub found_still : (n : ℕ) (old new : List Connection) → all_numbers new ≡ all_numbers old → IsSome (numbered n old) → IsSome (numbered n new)
found_still n [] new same there = absurd (cc)
found_still n (c ∷ cs) [] same there = let e : [] ≡ c.number ∷ all_numbers cs = same in absurd (cc)
found_still n (c ∷ cs) (d ∷ ds) same there =
    let head : d.number ≡ c.number = same_head d ds c.number (all_numbers cs) same in
    by_number _ c.number n
    (λ is e. some_is (numbered n (d ∷ ds)) d (first_is d ds n (head ∙ is)))
    (λ other e.
    subst (λ (o : Option Connection). IsSome o) (sym (first_not d ds n (λ is. other (sym head ∙ is))))
    (found_still n cs ds (same_rest d ds c.number (all_numbers cs) same) (subst (λ (o : Option Connection). IsSome o) (first_not c cs n other) there)))

-- The numbers that are left go by the numbers.
pub taken_alike : (n : ℕ) (old new : List Connection) → all_numbers new ≡ all_numbers old → all_numbers (taken_out n new) ≡ all_numbers (taken_out n old)
taken_alike n [] [] same = refl
taken_alike n [] (d ∷ ds) same = let e : d.number ∷ all_numbers ds ≡ [] = same in absurd (cc)
taken_alike n (c ∷ cs) [] same = let e : [] ≡ c.number ∷ all_numbers cs = same in absurd (cc)
taken_alike n (c ∷ cs) (d ∷ ds) same =
    let head : d.number ≡ c.number = same_head d ds c.number (all_numbers cs) same in
    let rest : all_numbers (taken_out n ds) ≡ all_numbers (taken_out n cs) = taken_alike n cs ds (same_rest d ds c.number (all_numbers cs) same) in
    by_number _ c.number n
    (λ is e. ap all_numbers (taken_first n d ds (head ∙ is)) ∙ rest ∙ sym (ap all_numbers (taken_first n c cs is)))
    (λ other e.
    ap all_numbers (taken_later n d ds (λ is. other (sym head ∙ is)))
    ∙ ap (λ (m : ℕ). m ∷ all_numbers (taken_out n ds)) head
    ∙ ap (λ (ms : List ℕ). c.number ∷ ms) rest
    ∙ sym (ap all_numbers (taken_later n c cs other)))

-- A change of one that is taken out then makes no difference.
pub taken_changed : (n : ℕ) (f : Connection → Connection) (cs : List Connection) → KeepsNumber f → taken_out n (changed_in n f cs) ≡ taken_out n cs
taken_changed n f [] keeps = refl
taken_changed n f (c ∷ cs) keeps =
    by_number _ c.number n
    (λ is e.
    ap (λ (b : Bool). taken_out n (cond b (f c) c ∷ changed_in n f cs)) e
    ∙ taken_first n (f c) (changed_in n f cs) (keeps c ∙ is)
    ∙ taken_changed n f cs keeps
    ∙ sym (taken_first n c cs is))
    (λ other e.
    ap (λ (b : Bool). taken_out n (cond b (f c) c ∷ changed_in n f cs)) e
    ∙ taken_later n c (changed_in n f cs) other
    ∙ ap (λ xs. c ∷ xs) (taken_changed n f cs keeps)
    ∙ sym (taken_later n c cs other))

-- ---- What a call leaves

pub record Leaves (n : ℕ) (old new : List Connection) : Type 0 where
  pub others : SameBut n old new
  pub out : all_numbers (taken_out n new) ≡ all_numbers (taken_out n old)

pub leaves_none : (n : ℕ) (cs : List Connection) → Leaves n cs cs
leaves_none n cs = record { others = λ m other. refl; out = refl }

pub leaves_changed : (n : ℕ) (f : Connection → Connection) (cs : List Connection) → KeepsNumber f → Leaves n cs (changed_in n f cs)
leaves_changed n f cs keeps = record {
  others = changed_others n f cs keeps;
  out = ap all_numbers (taken_changed n f cs keeps);
}

pub leaves_taken : (n : ℕ) (cs : List Connection) → Leaves n cs (taken_out n cs)
leaves_taken n cs = record {
  others = taken_others n cs;
  out = ap all_numbers (taken_none n (taken_out n cs) (taken_gone n cs));
}

pub leaves_twice : (n : ℕ) (old mid new : List Connection) → Leaves n old mid → Leaves n mid new → Leaves n old new
leaves_twice n old mid new first then = record {
  others = λ m other. then.others m other ∙ first.others m other;
  out = then.out ∙ first.out;
}

pub leaves_numbered : (n m : ℕ) (old new : List Connection) → n ≡ m → Leaves n old new → Leaves m old new
leaves_numbered n m old new is l = subst (λ (k : ℕ). Leaves k old new) is l

-- ---- One that nobody holds any more

rested_leaves : (n : ℕ) (o : Option Place) (cs : List Connection) → Leaves n cs (rested n o cs).connections
rested_leaves n None cs = leaves_taken n cs
rested_leaves n (Some places.Leased) cs = leaves_changed n (ends places.Leased) cs (λ c. refl)
rested_leaves n (Some places.Kept) cs = leaves_changed n (ends places.Kept) cs (λ c. refl)
rested_leaves n (Some places.Free) cs = leaves_changed n (ends places.Free) cs (λ c. refl)
rested_leaves n (Some places.Draining) cs = leaves_changed n (ends places.Draining) cs (λ c. refl)
rested_leaves n (Some places.Cleaning) cs = leaves_changed n (ends places.Cleaning) cs (λ c. refl)

rested_in : (n : ℕ) (o : Option Place) (cs : List Connection) → rests_in (rested n o cs).answer ≡ true → all_numbers (rested n o cs).connections ≡ all_numbers cs
rested_in n None cs e = absurd (cc)
rested_in n (Some places.Leased) cs e = changed_numbers n (ends places.Leased) cs (λ c. refl)
rested_in n (Some places.Kept) cs e = changed_numbers n (ends places.Kept) cs (λ c. refl)
rested_in n (Some places.Free) cs e = changed_numbers n (ends places.Free) cs (λ c. refl)
rested_in n (Some places.Draining) cs e = changed_numbers n (ends places.Draining) cs (λ c. refl)
rested_in n (Some places.Cleaning) cs e = changed_numbers n (ends places.Cleaning) cs (λ c. refl)

back_leaves : (n : ℕ) (o : Option Connection) (cs : List Connection) → ((c : Connection) → o ≡ Some c → c.number ≡ n) → Leaves n cs (put_back o cs).connections
back_leaves n None cs is = leaves_none n cs
back_leaves n (Some c) cs is = leaves_numbered c.number n cs (rested c.number (rests_at c.client.stage) cs).connections (is c refl) (rested_leaves c.number (rests_at c.client.stage) cs)

back_in : (o : Option Connection) (cs : List Connection) → rests_in (put_back o cs).answer ≡ true → all_numbers (put_back o cs).connections ≡ all_numbers cs
back_in None cs e = absurd (cc)
back_in (Some c) cs e = rested_in c.number (rests_at c.client.stage) cs e

-- What is found and meets a test has the number.
only_found : (test : Connection → Bool) (o : Option Connection) (c : Connection) → only test o ≡ Some c → o ≡ Some c
only_found test None c e = absurd (cc)
only_found test (Some d) c e = by_test (test d) e
  where
    by_test : (b : Bool) → cond b (Some d) None ≡ Some c → Some d ≡ Some c
    by_test true e = e
    by_test false e = absurd (cc)

pub standing_found : (test : Turn → Place → Bool) (key n : ℕ) (cs : List Connection) (c : Connection) → standing test key n cs ≡ Some c → numbered n cs ≡ Some c
standing_found test key n cs c e = only_found _ (numbered n cs) c e

standing_number : (test : Turn → Place → Bool) (key n : ℕ) (cs : List Connection) (c : Connection) → standing test key n cs ≡ Some c → c.number ≡ n
standing_number test key n cs c e = number_found n cs c (standing_found test key n cs c e)

-- ---- A ticket that is abandoned

pub abandoned_leaves : (ticket : Ticket) (cs : List Connection) → Leaves ticket.number cs (abandoned ticket cs).connections
abandoned_leaves ticket cs = back_leaves ticket.number (kept_for ticket cs) cs (standing_number (is_kept_for ticket.turn) ticket.key ticket.number cs)

pub abandoned_in : (ticket : Ticket) (cs : List Connection) → rests_in (abandoned ticket cs).answer ≡ true → all_numbers (abandoned ticket cs).connections ≡ all_numbers cs
abandoned_in ticket cs e = back_in (kept_for ticket cs) cs e

-- ---- A lease that is given back

settled_leaves : (n : ℕ) (s : ClientSession) (cs : List Connection) → Leaves n cs (calls.settled n (with_client n s cs)).connections
settled_leaves n s cs =
    leaves_twice n cs (with_client n s cs) (calls.settled n (with_client n s cs)).connections
    (leaves_changed n (λ (c : Connection). record c { client = s }) cs (λ c. refl))
    (back_leaves n (numbered n (with_client n s cs)) (with_client n s cs) (number_found n (with_client n s cs)))

settled_in : (n : ℕ) (s : ClientSession) (cs : List Connection) → rests_in (calls.settled n (with_client n s cs)).answer ≡ true → all_numbers (calls.settled n (with_client n s cs)).connections ≡ all_numbers cs
settled_in n s cs e =
    back_in (numbered n (with_client n s cs)) (with_client n s cs) e
    ∙ changed_numbers n (λ (c : Connection). record c { client = s }) cs (λ c. refl)

cancelled_leaves : (n : ℕ) (o : Option Connection) (cs : List Connection) → ((c : Connection) → o ≡ Some c → c.number ≡ n) → Leaves n cs (calls.cancelled_and_settled o cs).connections
cancelled_leaves n None cs is = leaves_none n cs
cancelled_leaves n (Some c) cs is =
    leaves_numbered c.number n cs (calls.settled c.number (calls.cancels c.number c.client cs)).connections (is c refl)
    (settled_leaves c.number (session_behind (cancelled c.client) c.client) cs)

cancelled_in : (o : Option Connection) (cs : List Connection) → rests_in (calls.cancelled_and_settled o cs).answer ≡ true → all_numbers (calls.cancelled_and_settled o cs).connections ≡ all_numbers cs
cancelled_in None cs e = absurd (cc)
cancelled_in (Some c) cs e = settled_in c.number (session_behind (cancelled c.client) c.client) cs e

pub given_leaves : (lease : Lease) (cs : List Connection) → Leaves lease.number cs (given_back lease cs).connections
given_leaves lease cs = cancelled_leaves lease.number (lent_to lease cs) cs (standing_number (is_lent_for lease.turn) lease.key lease.number cs)

pub given_in : (lease : Lease) (cs : List Connection) → rests_in (given_back lease cs).answer ≡ true → all_numbers (given_back lease cs).connections ≡ all_numbers cs
given_in lease cs e = cancelled_in (lent_to lease cs) cs e

-- ---- One that drains, by cases

-- Where it is closed it is taken out, and its client was broken.
pub record IsClosed (n : ℕ) (cs : List Connection) (c : Connection) (r : Returned) : Type 0 where
  pub broken : is_broken c.client.stage ≡ true
  pub connections : r.connections ≡ taken_out n cs

-- Else it stands where it stood, or nobody held it.
pub record IsMoved (n : ℕ) (cs : List Connection) (c : Connection) (r : Returned) : Type 0 where
  pub others : SameBut n cs r.connections
  pub numbers : all_numbers r.connections ≡ all_numbers cs
  pub place : Place
  pub turn : Turn
  pub here : numbered n r.connections ≡ Some (record c { place = place; turn = turn })
  pub from : ((turn ≡ c.turn) × (place ≡ c.place)) ⊎ (is_held c.place ≡ false)

draining_is : (p : Place) → is_draining p ≡ true → p ≡ places.Draining
draining_is places.Leased e = absurd (cc)
draining_is places.Kept e = absurd (cc)
draining_is places.Free e = absurd (cc)
draining_is places.Draining e = refl
draining_is places.Cleaning e = absurd (cc)

moved_to : (n : ℕ) (cs : List Connection) (c : Connection) (p : Place) (a : GivenBack) → numbered n cs ≡ Some c → c.place ≡ places.Draining → IsMoved n cs c (record { answer = a; connections = lending_ended_at n p cs })
moved_to n cs c p a found drains = record {
  others = changed_others n (ends p) cs (λ d. refl);
  numbers = changed_numbers n (ends p) cs (λ d. refl);
  place = p;
  turn = next_turn c.turn;
  here = changed_here n (ends p) cs (λ d. refl) ∙ ap (option_map (ends p)) found;
  from = inr (ap is_held drains);
}

pub stays_there : (n : ℕ) (cs : List Connection) (c : Connection) (a : GivenBack) → numbered n cs ≡ Some c → IsMoved n cs c (record { answer = a; connections = cs })
stays_there n cs c a found = record {
  others = λ m other. refl;
  numbers = refl;
  place = c.place;
  turn = c.turn;
  here = found;
  from = inl (refl, refl);
}

-- Whether the answer is that it was closed.
abbrev pub is_closed : GivenBack → Bool
is_closed (given.Free n) = false
is_closed (given.Draining n) = false
is_closed (given.Closed n) = true
is_closed given.Unknown = false

abbrev Turns : ℕ → List Connection → Connection → Returned → Type 0
Turns n cs c r = (is_closed r.answer ≡ true → IsClosed n cs c r) × (is_closed r.answer ≡ false → IsMoved n cs c r)

rested_turns : (n : ℕ) (cs : List Connection) (c : Connection) (s : Stage) → c.client.stage ≡ s → numbered n cs ≡ Some c → c.place ≡ places.Draining → Turns n cs c (rested n (rests_at s) cs)
rested_turns n cs c Idle is found drains = (λ e. absurd (cc), λ e. moved_to n cs c places.Free (given.Free n) found drains)
rested_turns n cs c (Sending kind left packets) is found drains = (λ e. absurd (cc), λ e. moved_to n cs c places.Draining (given.Draining n) found drains)
rested_turns n cs c Reading is found drains = (λ e. absurd (cc), λ e. moved_to n cs c places.Draining (given.Draining n) found drains)
rested_turns n cs c Cancelling is found drains = (λ e. absurd (cc), λ e. moved_to n cs c places.Draining (given.Draining n) found drains)
rested_turns n cs c (Broken fault) is found drains = (λ e. record { broken = ap is_broken is; connections = refl }, λ e. absurd (cc))

drained_turns : (n : ℕ) (cs : List Connection) (c : Connection) → numbered n cs ≡ Some c → Turns n cs c (calls.drained n cs)
drained_turns n cs c found =
    subst (λ o. Turns n cs c (put_back (only (λ (d : Connection). is_draining d.place) o) cs)) (sym found) (by_place (is_draining c.place) refl)
  where
    by_place : (b : Bool) → is_draining c.place ≡ b → Turns n cs c (put_back (cond b (Some c) None) cs)
    by_place false e = (λ z. absurd (cc), λ z. stays_there n cs c given.Unknown found)
    by_place true e =
        subst (λ (m : ℕ). Turns n cs c (rested m (rests_at c.client.stage) cs)) (sym (number_found n cs c found))
        (rested_turns n cs c c.client.stage refl found (draining_is c.place e))

pub drained_closed : (n : ℕ) (cs : List Connection) (c : Connection) → numbered n cs ≡ Some c → is_closed (calls.drained n cs).answer ≡ true → IsClosed n cs c (calls.drained n cs)
drained_closed n cs c found e = (drained_turns n cs c found).0 e

pub drained_moved : (n : ℕ) (cs : List Connection) (c : Connection) → numbered n cs ≡ Some c → is_closed (calls.drained n cs).answer ≡ false → IsMoved n cs c (calls.drained n cs)
drained_moved n cs c found e = (drained_turns n cs c found).1 e
