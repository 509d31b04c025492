-- What a caller does is on a connection that is lent to it, so the pool lends its client.
use Rattle.std.proofs.Common.{◌≡◌, ◌∙◌, ℕ, zero, suc, Bool, true, false, not, cond, List, map, Option, Some, None, refl, sym, ap, subst}
use Rattle.std.specs.List.{slice_get}
use Rattle.std.specs.Prelude.{IsSome, ◌==◌, ◌&&◌, option_map}
use Rattle.tds_client.specs.Session.{ClientSession}
use Rattle.tds_pool.specs.Calls.{is_cleaning, is_leased, lent_to, only}
use Rattle.tds_pool.specs.Cleaning.{carried}
use Rattle.tds_pool.specs.Connections.{Connection, connections, numbered, same_turn}
use Rattle.tds_pool.specs.declared.lease.Lease.{Lease}
use Rattle.tds_pool.specs.declared.lease.Turn.{Turn}
use Rattle.tds_pool.specs.declared.seat.Place.{Place}
use Rattle.tds_pool.specs.declared.seat.Place.TheVariants.{Cleaning}
use Rattle.tds_world.specs.declared.outcome.Refusal.{Refusal}
use Rattle.tds_play.specs.Holdings.{conn_in, conn_of}
use Rattle.tds_play.specs.Lending.{Here, standing_of}
use Rattle.tds_play.specs.Noted.{about_of, held_of}
use Rattle.tds_play.specs.Player.{AreHeld, all_of}
use Rattle.tds_play.specs.Pooled.{numbers_kept, numbers_leased}
use Rattle.tds_play.specs.Stepping.{ends_event, is_by_caller}
use Rattle.tds_play.specs.declared.player.Player.{Player}
use Rattle.tds_play.specs.declared.seat.Held.{Held}
use Rattle.tds_play.specs.declared.step.CallerStep.TheVariants as caller
use Rattle.tds_play.specs.declared.step.EndsStep.{EndsStep}
use Rattle.tds_play.specs.declared.step.EndsStep.TheVariants as ends
use Rattle.tds_play.proofs.Held.{get_mapped}
use Rattle.tds_play.proofs.any_bytes.Places.{place_of}
use Rattle.tds_play.proofs.pooled.Ending.{lent_there}
use Rattle.tds_play.proofs.pooled.Unseen.{IsSlot, slot_of}

-- ---- Its lease

held_at : (o : Option ℕ) (count place : ℕ) (why : Refusal) → Here place ≡ held_of count o why → o ≡ Some (suc place)
held_at None count place why is = absurd (cc)
held_at (Some n) count place why is = ap Some (place_of n count place why is)

slot_held : {A : Type 0} (number : A → ℕ) (xs : List (Option A)) (n conn : ℕ) → conn_of (map (option_map number) xs) n ≡ Some conn → (x : A) × IsSlot number xs n conn x
slot_held number xs zero conn h = absurd (cc)
slot_held {A} number xs (suc slot) conn h = by (slice_get xs slot) refl (sym (ap conn_in (get_mapped (option_map number) xs slot)) ∙ h)
  where
    by : (o : Option (Option A)) → slice_get xs slot ≡ o → conn_in (option_map (option_map number) (slice_get xs slot)) ≡ Some conn → (x : A) × IsSlot number xs (suc slot) conn x
    by None e k = let bad : None ≡ Some conn = sym (ap (λ (o : Option (Option A)). conn_in (option_map (option_map number) o)) e) ∙ k in absurd (cc)
    by (Some None) e k = let bad : None ≡ Some conn = sym (ap (λ (o : Option (Option A)). conn_in (option_map (option_map number) o)) e) ∙ k in absurd (cc)
    by (Some (Some x)) e k = (x, slot_of number xs (suc slot) conn x h (sym (ap conn_in e)))

pub held_some : {A : Type 0} (number : A → ℕ) (xs : List (Option A)) (n conn : ℕ) → conn_of (map (option_map number) xs) n ≡ Some conn → IsSome (conn_of xs n)
held_some {A} number xs n conn h =
    let found = slot_held number xs n conn h in
    subst (λ (o : Option A). IsSome o) (sym (ap (conn_of xs) found.1.is ∙ ap conn_in found.1.at)) refl

-- ---- What is lent isn't being cleaned

place_lent : (b d : Bool) (p : Place) (c : Connection) → IsSome (cond (b && (d && is_leased p)) (Some c) None) → IsSome (cond (not (is_cleaning p)) (Some c) None)
place_lent true true Cleaning c h = absurd (cc)
place_lent true false Cleaning c h = absurd (cc)
place_lent false d Cleaning c h = absurd (cc)
place_lent b d p c h = refl

lent_carried : (o : Option Connection) (key : ℕ) (turn : Turn) → IsSome (only (λ (c : Connection). (c.key == key) && (same_turn c.turn turn && is_leased c.place)) o) → IsSome (only (λ (c : Connection). not (is_cleaning c.place)) o)
lent_carried None key turn h = h
lent_carried (Some c) key turn h = place_lent (c.key == key) (same_turn c.turn turn) c.place c h

pub lease_carried : (lease : Lease) (pcs : List Connection) → IsSome (lent_to lease pcs) → IsSome (carried lease.number pcs)
lease_carried lease pcs h = lent_carried (numbered lease.number pcs) lease.key lease.turn h

-- ---- Where the pool lends no client

-- A lease's connection of which the pool lends no client is cut.
pub cut_where_none : (b : Bool) (n : ℕ) (lease : Lease) (pcs : List Connection) → lease.number ≡ n → (b ≡ false → IsSome (lent_to lease pcs)) → None ≡ option_map (λ (d : Connection). d.client) (carried n pcs) → b ≡ true
cut_where_none true n lease pcs named lent none = refl
cut_where_none false n lease pcs named lent none = absurd (lends (carried n pcs) (subst (λ (k : ℕ). IsSome (carried k pcs)) named (lease_carried lease pcs (lent refl))) none)
  where
    lends : (o : Option Connection) → IsSome o → None ≡ option_map (λ (d : Connection). d.client) o → ⊥
    lends None h e = absurd (cc)
    lends (Some c) h e = cc

-- One whose client it lends isn't.
pub live_where_some : (b : Bool) (n : ℕ) (pcs : List Connection) (s : ClientSession) → (b ≡ true → numbered n pcs ≡ None) → Some s ≡ option_map (λ (d : Connection). d.client) (carried n pcs) → b ≡ false
live_where_some false n pcs s out lent = refl
live_where_some true n pcs s out lent =
    let bad : Some s ≡ None = lent ∙ ap (λ (o : Option Connection). option_map (λ (d : Connection). d.client) (only (λ (d : Connection). not (is_cleaning d.place)) o)) (out refl) in absurd (cc)

-- ---- A caller

by_lease : {E S : Type 0} (player : Player E S) (place lease count : ℕ) (h : Held E S) (why : Refusal) → AreHeld player → slice_get player.links.items place ≡ Some h → h.link.number ≡ suc place → h.link.is_cut ≡ false → Here place ≡ held_of count (conn_of (numbers_leased player.leases) lease) why → IsSome (carried h.link.number (connections player.pool))
by_lease player place lease count h why held at number lives is =
    let found = slot_held (λ (l : Lease). l.number) player.leases lease (suc place) (held_at (conn_of (numbers_leased player.leases) lease) count place why is) in
    subst (λ (n : ℕ). IsSome (carried n (connections player.pool))) (found.1.conn_is ∙ sym number)
    (lease_carried found.0 (connections player.pool) (lent_there player place lease found.0 h held at found.1 lives))

pub caller_carried : {E S : Type 0} (player : Player E S) (place : ℕ) (h : Held E S) (s : EndsStep) → AreHeld player → slice_get player.links.items place ≡ Some h → h.link.number ≡ suc place
    → Here place ≡ about_of (ends_event s) (map standing_of (all_of player)) player.max (numbers_leased player.leases) (numbers_kept player.tickets)
    → is_by_caller s ≡ true → h.link.is_cut ≡ false → IsSome (carried h.link.number (connections player.pool))
caller_carried player place h (ends.OfCaller (caller.Ask lease request)) held at number found asks lives = by_lease player place lease _ h _ held at number lives found
caller_carried player place h (ends.OfCaller (caller.Send lease)) held at number found asks lives = by_lease player place lease _ h _ held at number lives found
caller_carried player place h (ends.OfCaller (caller.Cancel lease)) held at number found asks lives = by_lease player place lease _ h _ held at number lives found
caller_carried player place h (ends.OfLink s) held at number found asks lives = absurd (cc)
