-- What no call undoes, and that each call is made of moves.
use Rattle.std.proofs.Common.{◌≡◌, ℕ, suc, List, [], ◌∷◌, Option, Some, None, refl, sym, ap, ◌∙◌}
use Rattle.std.proofs.Math.Nat.{le_trans, le-suc, not-suc-le_self}
use Rattle.std.proofs.lemmas.Bool.{eqb-false}
use Rattle.std.specs.Prelude.{◌≤◌, ◌≢◌, ◌==◌, ◌&&◌, option_map}
use Rattle.tds_client.specs.Session.{ClientSession, marked}
use Rattle.tds_packet.specs.declared.status.Reset.{Reset}
use Rattle.tds_request.specs.declared.request.Request.{Request}
use Rattle.tds_pool.specs.declared.answers.PoolRefusal.{PoolRefusal}
use Rattle.tds_pool.specs.declared.lease.Lease.{Lease}
use Rattle.tds_pool.specs.declared.lease.Ticket.{Ticket}
use Rattle.tds_pool.specs.declared.seat.Place.{Place}
use Rattle.tds_pool.specs.declared.seat.Place.TheVariants as places
use Rattle.tds_pool.specs.Connections.{Connection, numbered, changed_in, at_place, lending_ended_at, with_client, taken_out, next_turn}
use Rattle.tds_pool.specs.Calls.{only, lent_to, kept_for, is_lent_for, is_kept_for, is_draining, lent_again, put_back, rested, rests_at, abandoned, drained, given_back, cancelled_and_settled, session_behind, new_connection, free_one, closed, closed_for, taken_back, held_one, cleaning, not_cleaned, asks_reset, behind_refusal, cleaned_to, looked_at_clean, rests_clean, is_cleaning, cleaned}
use Rattle.tds_client.specs.Sending.{cancelled}
use Rattle.tds_pool.specs.History.{Seen, Move, Changes, Ends, TakesOut, Opens, moved, behind, AreBehind}
use Rattle.tds_pool.proofs.Others.{by_number, changed_here, changed_other, taken_other, added_other}
use Rattle.tds_pool.proofs.Taken.{gone}

-- A connection that is out, and whose number was used.
record IsOut (number : ℕ) (p : Seen) : Type 0 where
  used : number ≤ p.last
  out : numbered number p.connections ≡ None

out_where_changed : (n m : ℕ) (f : Connection → Connection) (cs : List Connection) → ((c : Connection) → (f c).number ≡ c.number)
    → numbered m cs ≡ None → numbered m (changed_in n f cs) ≡ None
out_where_changed n m f cs keeps out =
    by_number _ m n
    (λ is e. ap (λ (k : ℕ). numbered k (changed_in n f cs)) is ∙ changed_here n f cs keeps ∙ ap (λ (k : ℕ). option_map f (numbered k cs)) (sym is) ∙ ap (option_map f) out)
    (λ e. changed_other n m f cs keeps (eqb-false m n e) ∙ out)

out_where_taken : (n m : ℕ) (cs : List Connection) → numbered m cs ≡ None → numbered m (taken_out n cs) ≡ None
out_where_taken n m cs out =
    by_number _ m n
    (λ is e. ap (λ (k : ℕ). numbered k (taken_out n cs)) is ∙ gone n cs)
    (λ e. taken_other n m cs (eqb-false m n e) ∙ out)

used_before : (n last : ℕ) → n ≤ last → n ≢ suc last
used_before n last h e = not-suc-le_self last (rw e at h)

stays_out_once : (number : ℕ) (move : Move) (p : Seen) → IsOut number p → IsOut number (moved move p)
stays_out_once number (Changes n place client) p o =
    record { used = o.used; out = out_where_changed n number (λ (c : Connection). record c { place = place c; client = client c }) p.connections (λ c. refl) o.out }
stays_out_once number (Ends n place) p o =
    record { used = o.used; out = out_where_changed n number (λ (c : Connection). record c { place = place c; turn = next_turn c.turn }) p.connections (λ c. refl) o.out }
stays_out_once number (TakesOut n) p o = record { used = o.used; out = out_where_taken n number p.connections o.out }
stays_out_once number (Opens key size) p o = record {
  used = le_trans o.used (le-suc p.last);
  out = added_other (new_connection p.name (suc p.last) key size) number p.connections (used_before number p.last o.used) ∙ o.out;
}

stays_out : (number : ℕ) (moves : List Move) (p : Seen) → IsOut number p → IsOut number (behind moves p)
stays_out number [] p o = o
stays_out number (move ∷ moves) p o = stays_out number moves (moved move p) (stays_out_once number move p o)

pub never_again : (number : ℕ) (p : Seen) (moves : List Move) → number ≤ p.last → numbered number p.connections ≡ None
    → numbered number (behind moves p).connections ≡ None
never_again number p moves used out = (stays_out number moves p (record { used = used; out = out })).out

pub lease_unknown : (lease : Lease) (p : Seen) (moves : List Move) → lease.number ≤ p.last → numbered lease.number p.connections ≡ None
    → lent_to lease (behind moves p).connections ≡ None
lease_unknown lease p moves used out = ap (only (λ (c : Connection). (c.key == lease.key) && is_lent_for lease.turn c.turn c.place)) (never_again lease.number p moves used out)

pub ticket_unknown : (ticket : Ticket) (p : Seen) (moves : List Move) → ticket.number ≤ p.last → numbered ticket.number p.connections ≡ None
    → kept_for ticket (behind moves p).connections ≡ None
ticket_unknown ticket p moves used out = ap (only (λ (c : Connection). (c.key == ticket.key) && is_kept_for ticket.turn c.turn c.place)) (never_again ticket.number p moves used out)

-- ---- Each call is made of moves

none : (p : Seen) → AreBehind p p.connections
none p = record { moves = []; so = refl }

places_one : (number : ℕ) (place : Place) (p : Seen) → AreBehind p (at_place number place p.connections)
places_one number place p = record { moves = Changes number (λ c. place) (λ c. c.client) ∷ []; so = refl }

ends_one : (number : ℕ) (place : Place) (p : Seen) → AreBehind p (lending_ended_at number place p.connections)
ends_one number place p = record { moves = Ends number (λ c. place) ∷ []; so = refl }

pub changes_client : (number : ℕ) (client : ClientSession) (p : Seen) → AreBehind p (with_client number client p.connections)
changes_client number client p = record { moves = Changes number (λ c. c.place) (λ c. client) ∷ []; so = refl }

pub lends_again : (number : ℕ) (reset : Reset) (p : Seen) → AreBehind p (lent_again number reset p.connections)
lends_again number reset p = record { moves = Changes number (λ c. places.Leased) (λ c. marked c.client reset) ∷ []; so = refl }

pub takes_out : (number : ℕ) (p : Seen) → AreBehind p (taken_out number p.connections)
takes_out number p = record { moves = TakesOut number ∷ []; so = refl }

rests : (number : ℕ) (place : Option Place) (p : Seen) → AreBehind p (rested number place p.connections).connections
rests number None p = takes_out number p
rests number (Some places.Draining) p = ends_one number places.Draining p
rests number (Some places.Leased) p = ends_one number places.Leased p
rests number (Some places.Kept) p = ends_one number places.Kept p
rests number (Some places.Free) p = ends_one number places.Free p
rests number (Some places.Cleaning) p = ends_one number places.Cleaning p

puts_back : (c : Option Connection) (p : Seen) → AreBehind p (put_back c p.connections).connections
puts_back None p = none p
puts_back (Some c) p = rests c.number (rests_at c.client.stage) p

cancels_and_settles : (c : Option Connection) (p : Seen) → AreBehind p (cancelled_and_settled c p.connections).connections
cancels_and_settles None p = none p
cancels_and_settles (Some c) p =
    let cancels : Move = Changes c.number (λ (d : Connection). d.place) (λ (d : Connection). session_behind (cancelled c.client) c.client) in
    let rest = puts_back (numbered c.number (moved cancels p).connections) (moved cancels p) in
    record { moves = cancels ∷ rest.moves; so = rest.so }

pub gives_back : (lease : Lease) (p : Seen) → AreBehind p (given_back lease p.connections).connections
gives_back lease p = cancels_and_settles (lent_to lease p.connections) p

pub takes_back : (number : ℕ) (p : Seen) → AreBehind p (taken_back number p.connections).connections
takes_back number p = cancels_and_settles (held_one number p.connections) p

pub cleans : (number : ℕ) (request : Request) (p : Seen) → AreBehind p (cleaning number request p.connections)
cleans number request p = record { moves = Changes number (λ c. places.Cleaning) (λ c. asks_reset c.client request) ∷ []; so = refl }

pub cleans_not : (refusal : PoolRefusal) (number : ℕ) (p : Seen) → AreBehind p (not_cleaned refusal number p.connections)
cleans_not refusal number p = record { moves = Changes number (λ c. c.place) (λ c. behind_refusal refusal c.client) ∷ []; so = refl }

rests_cleaned : (number : ℕ) (place : Option Place) (p : Seen) → AreBehind p (cleaned_to number place p.connections).connections
rests_cleaned number None p = takes_out number p
rests_cleaned number (Some places.Free) p = places_one number places.Free p
rests_cleaned number (Some places.Draining) p = none p
rests_cleaned number (Some places.Leased) p = none p
rests_cleaned number (Some places.Kept) p = none p
rests_cleaned number (Some places.Cleaning) p = none p

looks_at_clean : (c : Option Connection) (p : Seen) → AreBehind p (looked_at_clean c p.connections).connections
looks_at_clean None p = none p
looks_at_clean (Some c) p = rests_cleaned c.number (rests_clean c.client c.client.stage) p

pub cleans_up : (number : ℕ) (p : Seen) → AreBehind p (cleaned number p.connections).connections
cleans_up number p = looks_at_clean (only (λ (c : Connection). is_cleaning c.place) (numbered number p.connections)) p

pub abandons : (ticket : Ticket) (p : Seen) → AreBehind p (abandoned ticket p.connections).connections
abandons ticket p = puts_back (kept_for ticket p.connections) p

pub looks_again : (number : ℕ) (p : Seen) → AreBehind p (drained number p.connections).connections
looks_again number p = puts_back (only (λ (c : Connection). is_draining c.place) (numbered number p.connections)) p

pub keeps : (number : ℕ) (p : Seen) → AreBehind p (at_place number places.Kept p.connections)
keeps number p = places_one number places.Kept p

pub closes : (number : ℕ) (p : Seen) → AreBehind p (closed number p.connections)
closes number p = by (free_one number p.connections) where
  by : (c : Option Connection) → AreBehind p (closed_for c p.connections)
  by None = none p
  by (Some c) = takes_out c.number p
