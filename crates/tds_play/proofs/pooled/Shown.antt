-- What is seen of all connections of a play is what is seen of those whose numbers its pool has.
use Rattle.std.proofs.Common.{◌≡◌, ◌∙◌, ◌+◌, ◌<◌, ◌≤◌, ◌⊎◌, inl, inr, ℕ, zero, suc, List, [], ◌∷◌, length, get_or, Bool, true, false, Option, Some, None, refl, sym, ap, arith}
use Rattle.std.proofs.lemmas.Option.{get_or_from_slice_get, slice_get-get_or, slice_get_past}
use Rattle.std.specs.List.{filter_map, cons_option, slice_get}
use Rattle.tds_pool.specs.Calls.{all_numbers}
use Rattle.tds_pool.specs.Connections.{Connection, connections, numbered}
use Rattle.tds_world.specs.declared.report.Snapshot.{Snapshot}
use Rattle.tds_play.specs.declared.player.Player.{Player}
use Rattle.tds_play.specs.declared.seat.Held.{Held}
use Rattle.tds_play.specs.Player.{AreHeld, all_of}
use Rattle.tds_play.specs.Pooled.{number_unless, numbers_in, seat_by, seat_in, seated_from}
use Rattle.tds_play.specs.Seats.{Seated}
use Rattle.tds_play.specs.Seen.{seen_at, seen_by, seen_if, seen_in, seen_of}
use Rattle.tds_play.specs.Ties.{AreNumbered}
use Rattle.tds_play.proofs.pooled.Closing.{numbered_at}
use Rattle.tds_play.proofs.pooled.Steps.{many_of, place_of}

shown_from : {E S : Type 0} (f : ℕ → Option Snapshot) (first : ℕ) (hs : List (Held E S)) (pcs : List Connection)
    → ((k n : ℕ) (x : Seated E S) → n ≡ first + k → slice_get (seated_from first hs pcs) k ≡ Some x → f n ≡ seen_of x)
    → filter_map f (numbers_in first hs) ≡ filter_map seen_of (seated_from first hs pcs)
shown_from f first [] pcs each = refl
shown_from {E} {S} f first (h ∷ hs) pcs each =
    by h.link.is_cut refl (shown_from f (suc first) hs pcs (λ k n x is here. each (suc k) n x (omega (arith, is)) here))
  where
    by : (cut : Bool) → h.link.is_cut ≡ cut
        → filter_map f (numbers_in (suc first) hs) ≡ filter_map seen_of (seated_from (suc first) hs pcs)
        → filter_map f (number_unless cut first (numbers_in (suc first) hs))
        ≡ cons_option (seen_by cut h.link (seat_by h.holder (numbered first pcs))) (filter_map seen_of (seated_from (suc first) hs pcs))
    by true is rest = rest
    by false is rest =
        ap (λ (o : Option Snapshot). cons_option o (filter_map f (numbers_in (suc first) hs)))
        (each 0 first _ (omega arith) refl ∙ ap (λ (b : Bool). seen_by b h.link (seat_by h.holder (numbered first pcs))) is)
        ∙ ap (cons_option (seen_by false h.link (seat_by h.holder (numbered first pcs)))) rest

pub shown : {E S : Type 0} (player : Player E S) → AreHeld player
    → filter_map (seen_at (all_of player)) (all_numbers (connections player.pool)) ≡ filter_map seen_of (all_of player)
shown player held =
    ap (filter_map (seen_at (all_of player))) held.pooled.numbers
    ∙ shown_from (seen_at (all_of player)) 1 player.links.items (connections player.pool)
    (λ k n x is here. ap (seen_at (all_of player)) (let next : n ≡ suc k = omega (arith, is) in next) ∙ ap seen_if here)

-- ---- The one of a number

pub seen_none : {E S : Type 0} (player : Player E S) (number : ℕ) → number ≤ 0 ⊎ length player.links.items < number → None ≡ seen_at (all_of player) number
seen_none player zero past = refl
seen_none player (suc place) (inl none) = absurd (let n = none in omega (arith, n))
seen_none player (suc place) (inr past) =
    let many : length (all_of player) ≡ length player.links.items = many_of player in
    let p = past in
    ap seen_if (sym (slice_get_past (all_of player) place (omega (arith, many, p))))

pub seen_some : {E S : Type 0} (player : Player E S) (number place : ℕ) (h : Held E S) → number ≡ suc place → AreNumbered (all_of player)
    → slice_get player.links.items place ≡ Some h → seen_in h.link (seat_in h player.pool) ≡ seen_at (all_of player) number
seen_some player number place h is numbers at =
    ap seen_if (sym (place_of player place h at (numbered_at player place h numbers at))) ∙ ap (seen_at (all_of player)) (sym is)

-- An item of a list, as a loop over the same list reads it.
pub item_of : (xs ys : List ℕ) (i : ℕ) → xs ≡ ys → i < length ys → get_or xs i 0 ≡ get_or ys i (get_or xs i 0)
item_of xs ys i same less =
    ap (λ (zs : List ℕ). get_or zs i 0) same
    ∙ sym (get_or_from_slice_get ys i (get_or ys i 0) (get_or xs i 0) (slice_get-get_or ys i 0 less))
