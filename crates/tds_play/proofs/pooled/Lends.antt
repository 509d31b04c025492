-- What the pool lends next stands at the place that the standings of the connections tell.
use Rattle.std.proofs.Common.{◌≡◌, ◌∙◌, ℕ, suc, ltb, cond, List, length, map, filter, Option, Some, None, option_map, refl, sym, ap}
use Rattle.std.specs.List.{position}
use Rattle.tds_pool.specs.Calls.{all_numbers, lent_next}
use Rattle.tds_pool.specs.Connections as pool
use Rattle.tds_world.specs.declared.event.Setup.{Setup}
use Rattle.tds_world.specs.declared.outcome.Refusal.TheVariants.{AllInUse}
use Rattle.tds_world.specs.Lending.{LendsIdle}
use Rattle.tds_world.specs.Pool.{is_free}
use Rattle.tds_world.specs.World.{World}
use Rattle.tds_play.specs.Lending.{Here, Missing, Opens}
use Rattle.tds_play.specs.Lending.{is_in_pool, lent, lent_by, standing_of}
use Rattle.tds_play.specs.Pipe.{Pipe}
use Rattle.tds_play.specs.Plays.{RepresentConnections}
use Rattle.tds_play.specs.Pooled.{numbers_in, seated_from}
use Rattle.tds_play.specs.declared.seat.Held.{Held}
use Rattle.tds_play.proofs.AllPlayed.{same_standings}
use Rattle.tds_play.proofs.Lent.{lowest_is, pool_is, position_is}
use Rattle.tds_play.proofs.pooled.Choice.{chosen, counted, lowest_idle}

-- The place of the first free one has the number that the pool lends next.
next_place : {E S : Type 0} (setup : Setup) (w : World) (engine : E) (hs : List (Held E S)) (pcs : List pool.Connection) (pipes : ℕ → Option Pipe) → all_numbers pcs ≡ numbers_in 1 hs → RepresentConnections 1 setup.packet_size engine (seated_from 1 hs pcs) pipes w.connections → LendsIdle setup w → option_map (λ (c : pool.Connection). c.number) (lent_next pcs) ≡ option_map suc (position is_free (map (λ c. c.standing) w.connections))
next_place setup w engine hs pcs pipes same all idle =
    chosen 1 setup.packet_size engine hs pcs pipes w.connections same all (lowest_idle setup w idle)
    ∙ lowest_is 0 w.connections
    ∙ ap (option_map suc) (sym (position_is (map (λ c. c.standing) w.connections)))

lent_as_by : {E S : Type 0} (setup : Setup) (w : World) (engine : E) (hs : List (Held E S)) (pcs : List pool.Connection) (pipes : ℕ → Option Pipe) (o : Option ℕ) → all_numbers pcs ≡ numbers_in 1 hs → RepresentConnections 1 setup.packet_size engine (seated_from 1 hs pcs) pipes w.connections → position is_free (map (λ c. c.standing) w.connections) ≡ o → lent (map standing_of (seated_from 1 hs pcs)) setup.max ≡ lent_by o (length pcs) setup.max
lent_as_by setup w engine hs pcs pipes o same all at =
    ap (λ ss. lent ss setup.max) (same_standings 1 setup.packet_size engine (seated_from 1 hs pcs) pipes w.connections all)
    ∙ ap (λ (p : Option ℕ). lent_by p (length (filter is_in_pool (map (λ c. c.standing) w.connections))) setup.max) at
    ∙ ap (λ (n : ℕ). lent_by o n setup.max) (sym (pool_is w.connections) ∙ sym (counted 1 setup.packet_size engine hs pcs pipes w.connections same all))

pub lent_here : {E S : Type 0} (setup : Setup) (w : World) (engine : E) (hs : List (Held E S)) (pcs : List pool.Connection) (pipes : ℕ → Option Pipe) (c : pool.Connection) (place : ℕ) → all_numbers pcs ≡ numbers_in 1 hs → RepresentConnections 1 setup.packet_size engine (seated_from 1 hs pcs) pipes w.connections → LendsIdle setup w → lent_next pcs ≡ Some c → c.number ≡ suc place → lent (map standing_of (seated_from 1 hs pcs)) setup.max ≡ Here place
lent_here setup w engine hs pcs pipes c place same all idle next is =
    lent_as_by setup w engine hs pcs pipes (Some place) same all
    (at (position is_free (map (λ d. d.standing) w.connections))
    (sym (next_place setup w engine hs pcs pipes same all idle) ∙ ap (option_map (λ (d : pool.Connection). d.number)) next ∙ ap Some is))
  where
    at : (o : Option ℕ) → option_map suc o ≡ Some (suc place) → o ≡ Some place
    at None e = absurd (cc)
    at (Some n) e = let sames : suc n ≡ suc place = cc in let both : n ≡ place = cc in ap Some both

pub lent_none : {E S : Type 0} (setup : Setup) (w : World) (engine : E) (hs : List (Held E S)) (pcs : List pool.Connection) (pipes : ℕ → Option Pipe) → all_numbers pcs ≡ numbers_in 1 hs → RepresentConnections 1 setup.packet_size engine (seated_from 1 hs pcs) pipes w.connections → LendsIdle setup w → lent_next pcs ≡ None → lent (map standing_of (seated_from 1 hs pcs)) setup.max ≡ cond (ltb (length pcs) setup.max) Opens (Missing AllInUse)
lent_none setup w engine hs pcs pipes same all idle next =
    lent_as_by setup w engine hs pcs pipes None same all
    (at (position is_free (map (λ d. d.standing) w.connections))
    (sym (next_place setup w engine hs pcs pipes same all idle) ∙ ap (option_map (λ (d : pool.Connection). d.number)) next))
  where
    at : (o : Option ℕ) → option_map suc o ≡ None → o ≡ None
    at None e = refl
    at (Some n) e = absurd (cc)
