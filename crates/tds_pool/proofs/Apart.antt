-- Pools of other names.
use Rattle.std.proofs.Common.{◌≡◌, ℕ, Bool, true, false, not, List, [], ◌∷◌, ◌++◌, suc, Option, Some, None, refl, sym, ap, ◌∙◌, cond}
use Rattle.std.proofs.Math.Dec.{eqb}
use Rattle.std.specs.Prelude.{◌==◌, ◌&&◌, ◌≢◌, IfSome}
use Rattle.tds_pool.specs.declared.lease.Lease.{Lease}
use Rattle.tds_pool.specs.declared.lease.Ticket.{Ticket}
use Rattle.tds_pool.specs.declared.lease.Turn.{Turn}
use Rattle.tds_pool.specs.declared.seat.Place.{Place}
use Rattle.tds_pool.specs.Connections.{Connection, numbered, changed_in, taken_out, next_turn, same_turn}
use Rattle.tds_pool.specs.Calls.{only, lent_to, kept_for, is_leased, is_kept, new_connection}
use Rattle.tds_pool.specs.History.{Seen, Move, Changes, Ends, TakesOut, Opens, moved, behind, AreOf}
use Rattle.tds_pool.proofs.Turns.{same_is}

-- ---- All connections of a pool are its own

own_changed : (name n : ℕ) (f : Connection → Connection) (cs : List Connection) → ((c : Connection) → (f c).turn.pool ≡ c.turn.pool) → AreOf name cs → AreOf name (changed_in n f cs)
own_changed name n f [] keeps own = tt
own_changed name n f (c ∷ cs) keeps own = (by (eqb c.number n), own_changed name n f cs keeps own.1) where
  by : (b : Bool) → (cond b (f c) c).turn.pool ≡ name
  by true = keeps c ∙ own.0
  by false = own.0

own_taken : (name n : ℕ) (cs : List Connection) → AreOf name cs → AreOf name (taken_out n cs)
own_taken name n [] own = tt
own_taken name n (c ∷ cs) own = by (eqb c.number n) (own_taken name n cs own.1) where
  by : (b : Bool) → AreOf name (taken_out n cs) → AreOf name (cond (not b) (c ∷ taken_out n cs) (taken_out n cs))
  by true rest = rest
  by false rest = (own.0, rest)

own_more : (name : ℕ) (cs : List Connection) (c : Connection) → c.turn.pool ≡ name → AreOf name cs → AreOf name (cs ++ c ∷ [])
own_more name [] c is own = (is, tt)
own_more name (d ∷ cs) c is own = (own.0, own_more name cs c is own.1)

own_once : (move : Move) (p : Seen) → AreOf p.name p.connections → AreOf p.name (moved move p).connections
own_once (Changes n place client) p own = own_changed p.name n (λ (c : Connection). record c { place = place c; client = client c }) p.connections (λ c. refl) own
own_once (Ends n place) p own = own_changed p.name n (λ (c : Connection). record c { place = place c; turn = next_turn c.turn }) p.connections (λ c. refl) own
own_once (TakesOut n) p own = own_taken p.name n p.connections own
own_once (Opens key size) p own = own_more p.name p.connections (new_connection p.name (suc p.last) key size) refl own

name_stays : (move : Move) (p : Seen) → (moved move p).name ≡ p.name
name_stays (Changes n place client) p = refl
name_stays (Ends n place) p = refl
name_stays (TakesOut n) p = refl
name_stays (Opens key size) p = refl

pub own : (p : Seen) (moves : List Move) → AreOf p.name p.connections → AreOf p.name (behind moves p).connections
own p [] are = are
own p (move ∷ moves) are =
    let then : AreOf (moved move p).name (moved move p).connections = rw (name_stays move p) (own_once move p are) in
    rw (name_stays move p) at (own (moved move p) moves then)

-- ---- Those of another pool are unknown

found_own : (name n : ℕ) (cs : List Connection) → AreOf name cs → IfSome (numbered n cs) (λ c. c.turn.pool ≡ name)
found_own name n [] own = tt
found_own name n (c ∷ cs) own = by (eqb c.number n) (found_own name n cs own.1) where
  by : (b : Bool) → IfSome (numbered n cs) (λ d. d.turn.pool ≡ name) → IfSome (cond b (Some c) (numbered n cs)) (λ d. d.turn.pool ≡ name)
  by true rest = own.0
  by false rest = rest

another : (turn now : Turn) (name : ℕ) → now.pool ≡ name → turn.pool ≢ name → same_turn now turn ≡ false
another turn now name is other = by (same_turn now turn) refl where
  by : (b : Bool) → same_turn now turn ≡ b → b ≡ false
  by true e = absurd (other (sym (ap (λ (t : Turn). t.pool) (same_is now turn e)) ∙ is))
  by false e = refl

nobody : (b l : Bool) (c : Connection) → cond (b && (false && l)) (Some c) None ≡ None
nobody true l c = refl
nobody false l c = refl

unknown_in : (l : Place → Bool) (key : ℕ) (turn : Turn) (name : ℕ) (o : Option Connection) → IfSome o (λ c. c.turn.pool ≡ name) → turn.pool ≢ name
    → only (λ (c : Connection). (c.key == key) && (same_turn c.turn turn && l c.place)) o ≡ None
unknown_in l key turn name None is other = refl
unknown_in l key turn name (Some c) is other =
    ap (λ (t : Bool). cond ((c.key == key) && (t && l c.place)) (Some c) None) (another turn c.turn name is other) ∙ nobody (c.key == key) (l c.place) c

pub lease_apart : (lease : Lease) (name : ℕ) (cs : List Connection) → AreOf name cs → lease.turn.pool ≢ name → lent_to lease cs ≡ None
lease_apart lease name cs own other = unknown_in is_leased lease.key lease.turn name (numbered lease.number cs) (found_own name lease.number cs own) other

pub ticket_apart : (ticket : Ticket) (name : ℕ) (cs : List Connection) → AreOf name cs → ticket.turn.pool ≢ name → kept_for ticket cs ≡ None
ticket_apart ticket name cs own other = unknown_in is_kept ticket.key ticket.turn name (numbered ticket.number cs) (found_own name ticket.number cs own) other
