-- A connection that nobody holds any more: where it stands in the pool then, and what is found under its
-- number.
use Rattle.std.proofs.Common.{◌≡◌, ◌∙◌, ℕ, Bool, true, false, List, [], ◌∷◌, Option, Some, None, refl, sym, ap, cond}
use Rattle.std.specs.Prelude.{is_none, option_map}
use Rattle.tds_client.specs.Session.{ClientSession, Stage, Idle, Broken, unless_idle}
use Rattle.tds_client.specs.Sending.{cancelled}
use Rattle.tds_ends.specs.Stands.{MatchesClient, stage_by, stage_in}
use Rattle.tds_pool.specs.Calls.{Returned, abandoned, all_numbers, given_back, is_broken, is_cleaning, is_draining, is_idle, kept_for, lent_to, only, put_back, rested, rests_at, session_behind}
use Rattle.tds_pool.specs.Calls as calls
use Rattle.tds_pool.specs.declared.answers.GivenBack.{GivenBack}
use Rattle.tds_pool.specs.declared.answers.GivenBack.TheVariants as given
use Rattle.tds_pool.specs.Connections.{Connection, lending_ended_at, next_turn, numbered, with_client}
use Rattle.tds_pool.specs.declared.lease.Lease.{Lease}
use Rattle.tds_pool.specs.declared.lease.Ticket.{Ticket}
use Rattle.tds_pool.specs.declared.seat.Place.{Place}
use Rattle.tds_pool.specs.declared.seat.Place.TheVariants.{Cleaning, Draining, Free, Kept, Leased}
use Rattle.tds_world.specs.Connection as model
use Rattle.tds_world.specs.Phase.{Phase, Settled, phase_of}
use Rattle.tds_world.specs.Record.{Record}
use Rattle.tds_play.specs.Pooled.{seat_by}
use Rattle.tds_play.specs.Seats as seats
use Rattle.tds_play.proofs.pooled.Changes.{SameBut, by_number, changed_here, changed_numbers, changed_others, first_is, first_not}

-- ---- A client that isn't broken

unbroken_by : (p : Phase) (q : Record) → is_broken (stage_by p q) ≡ false
unbroken_by Settled q = refl
unbroken_by p q = refl

unbroken_in : (o : Option Record) → is_broken (stage_in o) ≡ false
unbroken_in None = refl
unbroken_in (Some q) = unbroken_by (phase_of q) q

-- One that stands for a connection of the model.
pub unbroken : (s : ClientSession) (c : model.Connection) → MatchesClient s c → is_broken s.stage ≡ false
unbroken s c m = ap is_broken m.stage ∙ unbroken_in c.current

-- Both crates' words for a client that is idle.
pub idle_alike : (s : Stage) → is_idle s ≡ is_none (unless_idle s)
idle_alike Idle = refl
idle_alike s = refl

-- ---- Where it rests

abbrev pub rest_place : Bool → Place
rest_place true = Free
rest_place false = Draining

abbrev pub rest_answer : Bool → ℕ → GivenBack
rest_answer true n = given.Free n
rest_answer false n = given.Draining n

-- A lending of it ends, and it stands there.
abbrev pub ends : Place → Connection → Connection
ends p c = record c { place = p; turn = next_turn c.turn }

abbrev pub rest_returned : ℕ → Bool → List Connection → Returned
rest_returned n idle pcs = record { answer = rest_answer idle n; connections = lending_ended_at n (rest_place idle) pcs }

pub rested_is : (n : ℕ) (s : Stage) (pcs : List Connection) → is_broken s ≡ false → rested n (rests_at s) pcs ≡ rest_returned n (is_idle s) pcs
rested_is n (Broken fault) pcs e = absurd (cc)
rested_is n s pcs e = refl

-- What is found under a number has it.
pub number_found : (n : ℕ) (pcs : List Connection) (c : Connection) → numbered n pcs ≡ Some c → c.number ≡ n
number_found n [] c found = absurd (cc)
number_found n (d ∷ ds) c found =
    by_number _ d.number n
    (λ is e. let same : Some d ≡ Some c = sym (first_is d ds n is) ∙ found in let one : d ≡ c = cc in ap (λ (x : Connection). x.number) (sym one) ∙ is)
    (λ other e. number_found n ds c (sym (first_not d ds n other) ∙ found))

pub put_back_is : (n : ℕ) (pcs : List Connection) (c : Connection) → c.number ≡ n → is_broken c.client.stage ≡ false → put_back (Some c) pcs ≡ rest_returned n (is_idle c.client.stage) pcs
put_back_is n pcs c is sound = rested_is c.number c.client.stage pcs sound ∙ ap (λ (m : ℕ). rest_returned m (is_idle c.client.stage) pcs) is

-- ---- A ticket that is abandoned

pub abandoned_is : (ticket : Ticket) (pcs : List Connection) (c : Connection) → kept_for ticket pcs ≡ Some c → c.number ≡ ticket.number → is_broken c.client.stage ≡ false → abandoned ticket pcs ≡ rest_returned ticket.number (is_idle c.client.stage) pcs
abandoned_is ticket pcs c known is sound = ap (λ o. put_back o pcs) known ∙ put_back_is ticket.number pcs c is sound

pub abandoned_unknown : (ticket : Ticket) (pcs : List Connection) → kept_for ticket pcs ≡ None → abandoned ticket pcs ≡ record { answer = given.Unknown; connections = pcs }
abandoned_unknown ticket pcs unknown = ap (λ o. put_back o pcs) unknown

-- ---- A connection that drains

pub drained_is : (n : ℕ) (pcs : List Connection) (c : Connection) → numbered n pcs ≡ Some c → c.place ≡ Draining → is_broken c.client.stage ≡ false → calls.drained n pcs ≡ rest_returned n (is_idle c.client.stage) pcs
drained_is n pcs c found drains sound =
    ap (λ o. put_back (only (λ (d : Connection). is_draining d.place) o) pcs) found
    ∙ ap (λ (p : Place). put_back (cond (is_draining p) (Some c) None) pcs) drains
    ∙ put_back_is n pcs c (number_found n pcs c found) sound

pub drained_not : (n : ℕ) (pcs : List Connection) (c : Connection) → numbered n pcs ≡ Some c → is_draining c.place ≡ false → calls.drained n pcs ≡ record { answer = given.Unknown; connections = pcs }
drained_not n pcs c found stands =
    ap (λ o. put_back (only (λ (d : Connection). is_draining d.place) o) pcs) found
    ∙ ap (λ (b : Bool). put_back (cond b (Some c) None) pcs) stands

-- Its seat then, where it drained or not.
pub seat_drained : (n holder : ℕ) (pcs : List Connection) (c : Connection) → numbered n pcs ≡ Some c → is_cleaning c.place ≡ false → is_broken c.client.stage ≡ false → seat_by holder (numbered n (calls.drained n pcs).connections) ≡ seats.drained (seat_by holder (Some c))
seat_drained n holder pcs c found other sound = by_place c.place refl
  where
    stays : (p : Place) → c.place ≡ p → is_draining p ≡ false → seat_by holder (numbered n (calls.drained n pcs).connections) ≡ seat_by holder (Some c)
    stays p is not_draining =
        ap (λ (r : Returned). seat_by holder (numbered n r.connections)) (drained_not n pcs c found (ap is_draining is ∙ not_draining))
        ∙ ap (seat_by holder) found

    as_it_is : (p : Place) → c.place ≡ p → is_draining p ≡ false → seat_by holder (Some (record c { place = p })) ≡ seats.drained (seat_by holder (Some (record c { place = p }))) → seat_by holder (numbered n (calls.drained n pcs).connections) ≡ seats.drained (seat_by holder (Some c))
    as_it_is p is not_draining same =
        stays p is not_draining
        ∙ ap (λ (q : Place). seat_by holder (Some (record c { place = q }))) is
        ∙ same
        ∙ sym (ap (λ (q : Place). seats.drained (seat_by holder (Some (record c { place = q })))) is)

    by_idle : (b : Bool) → seat_by holder (Some (record c { place = rest_place b })) ≡ seats.placed_at (seats.drained_at b (seat_by holder (Some (record c { place = Draining }))).place) (seat_by holder (Some (record c { place = Draining })))
    by_idle true = refl
    by_idle false = refl

    by_place : (p : Place) → c.place ≡ p → seat_by holder (numbered n (calls.drained n pcs).connections) ≡ seats.drained (seat_by holder (Some c))
    by_place Leased is = as_it_is Leased is refl (leased (is_none (unless_idle c.client.stage)))
      where
        leased : (b : Bool) → seat_by holder (Some (record c { place = Leased })) ≡ seats.placed_at (seats.drained_at b (seat_by holder (Some (record c { place = Leased }))).place) (seat_by holder (Some (record c { place = Leased })))
        leased true = refl
        leased false = refl
    by_place Kept is = as_it_is Kept is refl (kept (is_none (unless_idle c.client.stage)))
      where
        kept : (b : Bool) → seat_by holder (Some (record c { place = Kept })) ≡ seats.placed_at (seats.drained_at b (seat_by holder (Some (record c { place = Kept }))).place) (seat_by holder (Some (record c { place = Kept })))
        kept true = refl
        kept false = refl
    by_place Free is = as_it_is Free is refl (free (is_none (unless_idle c.client.stage)))
      where
        free : (b : Bool) → seat_by holder (Some (record c { place = Free })) ≡ seats.placed_at (seats.drained_at b (seat_by holder (Some (record c { place = Free }))).place) (seat_by holder (Some (record c { place = Free })))
        free true = refl
        free false = refl
    by_place Cleaning is = let bad : true ≡ false = sym (ap is_cleaning is) ∙ other in absurd (cc)
    by_place Draining is =
        ap (λ (r : Returned). seat_by holder (numbered n r.connections)) (drained_is n pcs c found is sound)
        ∙ ap (seat_by holder) (changed_here n (ends (rest_place (is_idle c.client.stage))) pcs (λ d. refl) ∙ ap (option_map (ends (rest_place (is_idle c.client.stage)))) found)
        ∙ ap (λ (b : Bool). seat_by holder (Some (record c { place = rest_place b }))) (idle_alike c.client.stage)
        ∙ by_idle (is_none (unless_idle c.client.stage))
        ∙ sym (ap (λ (q : Place). seats.drained (seat_by holder (Some (record c { place = q })))) is)

-- What else it keeps.
pub drained_others : (n : ℕ) (pcs : List Connection) (c : Connection) → numbered n pcs ≡ Some c → is_broken c.client.stage ≡ false → SameBut n pcs (calls.drained n pcs).connections
drained_others n pcs c found sound m other = by_draining (is_draining c.place) refl
  where
    draining : (p : Place) → is_draining p ≡ true → p ≡ Draining
    draining Leased e = absurd (cc)
    draining Kept e = absurd (cc)
    draining Free e = absurd (cc)
    draining Draining e = refl
    draining Cleaning e = absurd (cc)

    by_draining : (b : Bool) → is_draining c.place ≡ b → numbered m (calls.drained n pcs).connections ≡ numbered m pcs
    by_draining false e = ap (λ (r : Returned). numbered m r.connections) (drained_not n pcs c found e)
    by_draining true e =
        ap (λ (r : Returned). numbered m r.connections) (drained_is n pcs c found (draining c.place e) sound)
        ∙ changed_others n (ends (rest_place (is_idle c.client.stage))) pcs (λ d. refl) m other

pub drained_numbers : (n : ℕ) (pcs : List Connection) (c : Connection) → numbered n pcs ≡ Some c → is_broken c.client.stage ≡ false → all_numbers (calls.drained n pcs).connections ≡ all_numbers pcs
drained_numbers n pcs c found sound = by_draining (is_draining c.place) refl
  where
    draining : (p : Place) → is_draining p ≡ true → p ≡ Draining
    draining Leased e = absurd (cc)
    draining Kept e = absurd (cc)
    draining Free e = absurd (cc)
    draining Draining e = refl
    draining Cleaning e = absurd (cc)

    by_draining : (b : Bool) → is_draining c.place ≡ b → all_numbers (calls.drained n pcs).connections ≡ all_numbers pcs
    by_draining false e = ap (λ (r : Returned). all_numbers r.connections) (drained_not n pcs c found e)
    by_draining true e =
        ap (λ (r : Returned). all_numbers r.connections) (drained_is n pcs c found (draining c.place e) sound)
        ∙ changed_numbers n (ends (rest_place (is_idle c.client.stage))) pcs (λ d. refl)

-- ---- A lease that is given back

-- The client has nothing more to cancel: a cancel was asked for before, or nothing is underway.
pub given_back_is : (lease : Lease) (pcs : List Connection) (c : Connection) → lent_to lease pcs ≡ Some c → numbered lease.number pcs ≡ Some c → session_behind (cancelled c.client) c.client ≡ c.client → is_broken c.client.stage ≡ false → given_back lease pcs ≡ rest_returned lease.number (is_idle c.client.stage) (with_client lease.number c.client pcs)
given_back_is lease pcs c known found same sound =
    let is : c.number ≡ lease.number = number_found lease.number pcs c found in
    let now : numbered lease.number (with_client lease.number c.client pcs) ≡ Some (record c { client = c.client }) =
    changed_here lease.number (λ (d : Connection). record d { client = c.client }) pcs (λ d. refl) ∙ ap (option_map (λ (d : Connection). record d { client = c.client })) found in
    ap (λ o. calls.cancelled_and_settled o pcs) known
    ∙ ap (λ (s : ClientSession). calls.settled c.number (with_client c.number s pcs)) same
    ∙ ap (λ (n : ℕ). calls.settled n (with_client n c.client pcs)) is
    ∙ ap (λ o. put_back o (with_client lease.number c.client pcs)) now
    ∙ put_back_is lease.number (with_client lease.number c.client pcs) (record c { client = c.client }) is sound

-- Of its number the pool has the same, elsewhere placed, and the others are as they were.
pub given_back_here : (lease : Lease) (pcs : List Connection) (c : Connection) (idle : Bool) → numbered lease.number pcs ≡ Some c → numbered lease.number (lending_ended_at lease.number (rest_place idle) (with_client lease.number c.client pcs)) ≡ Some (ends (rest_place idle) c)
given_back_here lease pcs c idle found =
    changed_here lease.number (ends (rest_place idle)) (with_client lease.number c.client pcs) (λ d. refl)
    ∙ ap (option_map (ends (rest_place idle))) (changed_here lease.number (λ (d : Connection). record d { client = c.client }) pcs (λ d. refl) ∙ ap (option_map (λ (d : Connection). record d { client = c.client })) found)

pub given_back_others : (lease : Lease) (pcs : List Connection) (s : ClientSession) (p : Place) → SameBut lease.number pcs (lending_ended_at lease.number p (with_client lease.number s pcs))
given_back_others lease pcs s p m other =
    changed_others lease.number (ends p) (with_client lease.number s pcs) (λ d. refl) m other
    ∙ changed_others lease.number (λ (d : Connection). record d { client = s }) pcs (λ d. refl) m other

pub given_back_numbers : (n : ℕ) (pcs : List Connection) (s : ClientSession) (p : Place) → all_numbers (lending_ended_at n p (with_client n s pcs)) ≡ all_numbers pcs
given_back_numbers n pcs s p =
    changed_numbers n (ends p) (with_client n s pcs) (λ d. refl)
    ∙ changed_numbers n (λ (d : Connection). record d { client = s }) pcs (λ d. refl)

pub given_back_unknown : (lease : Lease) (pcs : List Connection) → lent_to lease pcs ≡ None → given_back lease pcs ≡ record { answer = given.Unknown; connections = pcs }
given_back_unknown lease pcs unknown = ap (λ o. calls.cancelled_and_settled o pcs) unknown
