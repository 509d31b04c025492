-- Requests of who waits for no connection stay, while those who wait are served.
use Rattle.std.proofs.Common.{◌≡◌, ◌≢◌, ◌∙◌, ℕ, List, true, false, inl, refl, sym, ap, subst}
use Rattle.slab.specs.Slab.{Slab, get}
use Rattle.tds_relay.specs.declared.application.Application.{Application}
use Rattle.tds_relay.specs.declared.relay.Relay as code
use Rattle.tds_relay.specs.Bodies.{body_in, body_of}
use Rattle.tds_relay.specs.Core.{is_in}
use Rattle.tds_relay.specs.Reads.{waits_on}
use Rattle.tds_relay.specs.Sparing.{AllHold, AllRest, AwayRest, OthersRest}
use Rattle.tds_relay.specs.Ties.{IsReached, pool_in}
use Rattle.tds_relay.proofs.lending.Resting.{held_rest, rests_both, still_rests}

pub away_refl : (r : code.Relay) → AwayRest r r
away_refl r = record { rest = λ key away. inl (inl refl); holds = λ key away. inl (inl refl) }

all_away : (old cur mid : code.Relay) → AwayRest old cur → AllRest cur mid → AwayRest old mid
all_away old cur mid h all = record {
  rest = λ key away. rests_both (body_of key old) (body_of key cur) (body_of key mid) (h.rest key away) (all.rest key);
  holds = λ key away. still_rests key old cur mid (h.holds key away) (all.rest key) (all.holds key);
}

-- one is lent a connection at the pool
pub away_pool : (old cur mid : code.Relay) → IsReached (pool_in cur.pool) → AwayRest old cur → AllHold cur.pool mid.pool → mid.links.items ≡ cur.links.items → mid.applications ≡ cur.applications → AwayRest old mid
away_pool old cur mid reached h holds links apps =
    all_away old cur mid h (held_rest cur mid (holds.hold reached) (λ n. ap (waits_on n) links) (λ k goes. inl (ap (λ (s : Slab Application). body_in (get s k) goes) apps)))

away_differs : (key other : ℕ) (line : List ℕ) → is_in key line ≡ true → is_in other line ≡ false → other ≢ key
away_differs key other line waits away = λ same.
    let u : true ≡ false = sym waits ∙ subst (λ (n : ℕ). is_in n line ≡ false) same away in
    let v : ⊥ = cc in
    v

-- that waited
pub away_lent : (key : ℕ) (old mid new : code.Relay) → is_in key old.pool.line.items ≡ true → AwayRest old mid → OthersRest key mid new → AwayRest old new
away_lent key old mid new waits h k = record {
  rest = λ other away.
      rests_both (body_of other old) (body_of other mid) (body_of other new) (h.rest other away) (k.rest other (away_differs key other old.pool.line.items waits away));
  holds = λ other away.
      let differs : other ≢ key = away_differs key other old.pool.line.items waits away in
      still_rests other old mid new (h.holds other away) (k.rest other differs) (k.holds other differs);
}
