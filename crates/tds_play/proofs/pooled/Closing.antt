-- The leases and tickets of a player end, and what is seen of its connections.
use Rattle.std.proofs.Common.{◌≡◌, ◌∙◌, ℕ, zero, suc, ◌+◌, ◌<◌, List, [], ◌∷◌, length, map, get_or, Option, Some, None, refl, sym, ap, subst}
use Rattle.std.proofs.lemmas.Option.{get_or_from_slice_get}
use Rattle.std.specs.List.{slice_get}
use Rattle.std.specs.Prelude.{option_map, slice_set}
use Rattle.tds_pool.specs.Calls.{abandoned}
use Rattle.tds_pool.specs.Connections.{Connection, PoolState, SameRest, connections, numbered, taken_out}
use Rattle.tds_pool.specs.declared.lease.Lease.{Lease}
use Rattle.tds_pool.specs.declared.lease.Ticket.{Ticket}
use Rattle.tds_play.specs.declared.player.Player.{Player}
use Rattle.tds_play.specs.declared.seat.Held.{Held}
use Rattle.tds_play.specs.declared.request.Record.{Record}
use Rattle.tds_play.specs.Holdings.{all_ended}
use Rattle.tds_play.specs.Links.{newest_held, newest_there}
use Rattle.tds_play.specs.Player.{AreHeld, all_of}
use Rattle.tds_play.specs.Pooled.{IsGone, IsThere, seated_in}
use Rattle.tds_play.specs.Seats.{Seated}
use Rattle.tds_play.specs.Ties.{AreNumbered}
use Rattle.tds_play.proofs.pooled.Acted.{there_at}
use Rattle.tds_play.proofs.pooled.Records.{newest_alike}
use Rattle.tds_play.proofs.pooled.Seated.{seated_get}
use Rattle.tds_play.proofs.pooled.Steps.{in_player, stands_at, within_all}
use Rattle.tds_play.proofs.pooled.Unseen.{read_at}

-- ---- They end

-- The first so many have ended.
abbrev pub ended_to : {A : Type 0} → ℕ → List (Option A) → List (Option A)
ended_to zero xs = xs
ended_to (suc k) [] = []
ended_to (suc k) (x ∷ xs) = None ∷ ended_to k xs

next_ended : {A : Type 0} (k : ℕ) (xs : List (Option A)) → slice_set (ended_to k xs) k None ≡ ended_to (suc k) xs
next_ended zero [] = refl
next_ended (suc k) [] = refl
next_ended zero (x ∷ xs) = refl
next_ended {A} (suc k) (x ∷ xs) = ap (λ (ys : List (Option A)). None ∷ ys) (next_ended k xs)

-- The next one ends.
pub one_more_ended : {A : Type 0} (k then : ℕ) (xs old new : List (Option A)) → old ≡ ended_to k xs → new ≡ slice_set old k None → then ≡ suc k → new ≡ ended_to then xs
one_more_ended {A} k then xs old new so_far is next =
    is ∙ ap (λ (ys : List (Option A)). slice_set ys k None) so_far ∙ next_ended k xs ∙ ap (λ (n : ℕ). ended_to n xs) (sym next)

whole_ended : {A : Type 0} (xs : List (Option A)) → ended_to (length xs) xs ≡ all_ended xs
whole_ended [] = refl
whole_ended {A} (x ∷ xs) = ap (λ (ys : List (Option A)). None ∷ ys) (whole_ended xs)

pub ended_whole : {A : Type 0} (k : ℕ) (xs now : List (Option A)) → now ≡ ended_to k xs → k ≡ length xs → now ≡ all_ended xs
ended_whole k xs now so_far all = so_far ∙ ap (λ (n : ℕ). ended_to n xs) all ∙ whole_ended xs

-- ---- What the pool is asked at each

-- The pool behind it has what none loses, and what it had else.
pub record LosesNone (old new : PoolState) : Type 0 where
  pub rest : SameRest old new
  pub none : connections old ≡ [] → connections new ≡ []

pub loses_as : (old new now : PoolState) → LosesNone old new → now ≡ new → LosesNone old now
loses_as old new now loses is = subst (LosesNone old) (sym is) loses

pub loses_lease : (n : ℕ) (first old new : PoolState) → LosesNone first old → IsGone n old new → LosesNone first new
loses_lease n first old new so_far gone = record {
  rest = record {
    name = gone.rest.name ∙ so_far.rest.name;
    max = gone.rest.max ∙ so_far.rest.max;
    size = gone.rest.size ∙ so_far.rest.size;
    last = gone.rest.last ∙ so_far.rest.last;
  };
  none = λ none. gone.connections ∙ ap (taken_out n) (so_far.none none);
}

pub loses_ticket : (ticket : Ticket) (first old new : PoolState) → LosesNone first old → connections new ≡ (abandoned ticket (connections old)).connections → SameRest old new → LosesNone first new
loses_ticket ticket first old new so_far shown rest = record {
  rest = record {
    name = rest.name ∙ so_far.rest.name;
    max = rest.max ∙ so_far.rest.max;
    size = rest.size ∙ so_far.rest.size;
    last = rest.last ∙ so_far.rest.last;
  };
  none = λ none. shown ∙ ap (λ (cs : List Connection). (abandoned ticket cs).connections) (so_far.none none);
}

-- ---- What stays

pub leases_only : {E S : Type 0} (first old new : Player E S) (pool : PoolState) (leases : List (Option Lease)) → old ≡ record first { pool = old.pool; leases = old.leases } → new ≡ record old { pool = pool; leases = leases } → new ≡ record first { pool = new.pool; leases = new.leases }
leases_only {E} {S} first old new pool leases so_far is =
    is ∙ ap (λ (p : Player E S). record p { pool = pool; leases = leases }) so_far
    ∙ ap (λ (q : PoolState). record first { pool = q; leases = leases }) (sym (ap (λ (p : Player E S). p.pool) is))
    ∙ ap (λ (ls : List (Option Lease)). record first { pool = new.pool; leases = ls }) (sym (ap (λ (p : Player E S). p.leases) is))

pub tickets_first : {E S : Type 0} (first old : Player E S) → old ≡ record first { pool = old.pool; leases = old.leases } → old ≡ record first { pool = old.pool; leases = old.leases; tickets = old.tickets }
tickets_first {E} {S} first old so_far =
    so_far ∙ ap (λ (ts : List (Option Ticket)). record first { pool = old.pool; leases = old.leases; tickets = ts }) (sym (ap (λ (p : Player E S). p.tickets) so_far))

pub tickets_too : {E S : Type 0} (first old new : Player E S) (pool : PoolState) (tickets : List (Option Ticket)) → old ≡ record first { pool = old.pool; leases = old.leases; tickets = old.tickets } → new ≡ record old { pool = pool; tickets = tickets } → new ≡ record first { pool = new.pool; leases = new.leases; tickets = new.tickets }
tickets_too {E} {S} first old new pool tickets so_far is =
    is ∙ ap (λ (p : Player E S). record p { pool = pool; tickets = tickets }) so_far
    ∙ ap (λ (q : PoolState). record first { pool = q; leases = old.leases; tickets = tickets }) (sym (ap (λ (p : Player E S). p.pool) is))
    ∙ ap (λ (ls : List (Option Lease)). record first { pool = new.pool; leases = ls; tickets = tickets }) (sym (ap (λ (p : Player E S). p.leases) is))
    ∙ ap (λ (ts : List (Option Ticket)). record first { pool = new.pool; leases = new.leases; tickets = ts }) (sym (ap (λ (p : Player E S). p.tickets) is))

-- ---- One of the connections

-- It has the number of its place.
pub numbered_at : {E S : Type 0} (player : Player E S) (place : ℕ) (h : Held E S) → AreNumbered (all_of player) → slice_get player.links.items place ≡ Some h → h.link.number ≡ suc place
numbered_at {E} {S} player place h numbers at =
    let x : Seated E S = seated_in h (numbered (1 + place) (connections player.pool)) in
    let there : slice_get (all_of player) place ≡ Some x =
    seated_get 1 place player.links.items (connections player.pool)
    ∙ ap (option_map (λ (k : Held E S). seated_in k (numbered (1 + place) (connections player.pool)))) at in
    let is : get_or (all_of player) place x ≡ x = get_or_from_slice_get (all_of player) place x x there in
    ap (λ (y : Seated E S). y.link.number) (sym is) ∙ numbers place x (within_all player place h at)

pub there_of : {E S : Type 0} (player : Player E S) (place : ℕ) (h : Held E S) → AreHeld player → AreNumbered (all_of player) → place < length player.links.items → h ≡ get_or player.links.items place h → IsThere h player.pool
there_of player place h held numbers there is =
    let at : slice_get player.links.items place ≡ Some h = read_at player.links.items place h there is in
    there_at player.max player.size place player.links.items h player.pool held.pooled at (numbered_at player place h numbers at)

-- It stands there with its seat.
pub one_of : {E S : Type 0} (player : Player E S) (place : ℕ) (h : Held E S) → AreNumbered (all_of player) → place < length player.links.items → h ≡ get_or player.links.items place h → (place < length (all_of player)) × (in_player h player ≡ get_or (all_of player) place (in_player h player))
one_of player place h numbers there is =
    let at : slice_get player.links.items place ≡ Some h = read_at player.links.items place h there is in
    (within_all player place h at, stands_at player place h at (numbered_at player place h numbers at))

-- ---- What is told of their requests

-- The requests of each connection, behind what a player ends.
pub records_of : {E S : Type 0} (old new : Player E S) (stacks : List (List Record)) → stacks ≡ map newest_held new.links.items → new ≡ record old { pool = new.pool; leases = new.leases; tickets = new.tickets } → stacks ≡ map newest_there (all_of old)
records_of {E} {S} old new stacks is rest =
    is ∙ ap (λ (p : Player E S). map newest_held p.links.items) rest ∙ newest_alike 1 old.links.items (connections old.pool)
