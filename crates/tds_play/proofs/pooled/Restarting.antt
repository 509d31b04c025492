-- A restart: what a player is once each of its connections is cut, and once all leases and tickets have ended.
use Rattle.std.proofs.Common.{◌≡◌, ◌∙◌, ℕ, zero, suc, List, [], ◌∷◌, length, replicate, Option, Some, None, refl, sym, ap}
use Rattle.std.specs.List.{slice_get}
use Rattle.tds_pool.specs.Calls.{all_numbers}
use Rattle.tds_pool.specs.Connections.{SameRest, connections}
use Rattle.tds_pool.specs.declared.lease.Lease.{Lease}
use Rattle.tds_pool.specs.declared.lease.Ticket.{Ticket}
use Rattle.tds_play.specs.declared.player.Player.{Player}
use Rattle.tds_play.specs.declared.seat.Held.{Held}
use Rattle.tds_play.specs.Holdings.{all_ended}
use Rattle.tds_play.specs.Player.{AreHeld, all_of}
use Rattle.tds_play.specs.Pooled.{numbers_in, numbers_kept, numbers_leased, seated_from}
use Rattle.tds_play.specs.Steps.{GrowsByOne, HoldsAs, HoldsBy, SameSetup}
use Rattle.tds_play.proofs.pooled.Ended.{numbers_all_ended}
use Rattle.tds_play.proofs.pooled.Unseen.{as_long}

-- ---- All connections are cut

pub setup_by : {E S : Type 0} (old new : Player E S) → new ≡ record old { links = new.links; pool = new.pool } → SameSetup old new
setup_by {E} {S} old new rest = record {
  engine_is = ap (λ (p : Player E S). p.engine) rest;
  max_is = ap (λ (p : Player E S). p.max) rest;
  size_is = ap (λ (p : Player E S). p.size) rest;
  told_is = ap (λ (p : Player E S). p.on_attention) rest;
}

pub holds_by : {E S : Type 0} (old new : Player E S) → new ≡ record old { links = new.links; pool = new.pool } → HoldsAs old new
holds_by {E} {S} old new rest = record {
  leases_are = ap (λ (p : Player E S). numbers_leased p.leases) rest;
  tickets_are = ap (λ (p : Player E S). numbers_kept p.tickets) rest;
  asked_are = ap (λ (p : Player E S). p.asked_on.items) rest;
}

pub few_by : {E S : Type 0} (old new : Player E S) → new ≡ record old { links = new.links; pool = new.pool } → length new.links.items ≡ length old.links.items → GrowsByOne old new
few_by {E} {S} old new rest many most f = record {
  links_few = as_long old.links.items new.links.items most many f.links_few;
  leases_few = as_long old.leases new.leases most (ap (λ (p : Player E S). length p.leases) rest) f.leases_few;
  tickets_few = as_long old.tickets new.tickets most (ap (λ (p : Player E S). length p.tickets) rest) f.tickets_few;
}

-- ---- Leases and tickets end

none_held : {A : Type 0} (n k : ℕ) (x : A) → slice_get (replicate n None) k ≡ Some (Some x) → ⊥
none_held zero k x at = absurd (cc)
none_held (suc n) zero x at = absurd (cc)
none_held (suc n) (suc k) x at = none_held n k x at

many_ended : {A : Type 0} (xs : List (Option A)) → length (all_ended xs) ≡ length xs
many_ended [] = refl
many_ended (x ∷ xs) = ap suc (many_ended xs)

-- The player then, where its pool had no connection.
pub record EndsAs {E S : Type 0} (cuts new : Player E S) : Type 0 where
  pub leases : new.leases ≡ all_ended cuts.leases
  pub tickets : new.tickets ≡ all_ended cuts.tickets
  pub rest : new ≡ record cuts { pool = new.pool; leases = new.leases; tickets = new.tickets }
  pub pool : SameRest cuts.pool new.pool
  pub before : connections cuts.pool ≡ []
  pub then : connections new.pool ≡ []

pub ends_all : {E S : Type 0} (cuts new : Player E S) → EndsAs cuts new → all_of new ≡ all_of cuts
ends_all {E} {S} cuts new ends =
    ap (λ (hs : List (Held E S)). seated_from 1 hs (connections new.pool)) (ap (λ (p : Player E S). p.links.items) ends.rest)
    ∙ ap (seated_from 1 cuts.links.items) (ends.then ∙ sym ends.before)

pub ends_held : {E S : Type 0} (cuts new : Player E S) → EndsAs cuts new → AreHeld cuts → AreHeld new
ends_held {E} {S} cuts new ends held = record {
  pooled = record {
    numbers = ap all_numbers (ends.then ∙ sym ends.before) ∙ held.pooled.numbers ∙ sym (ap (λ (p : Player E S). numbers_in 1 p.links.items) ends.rest);
    last = ends.pool.last ∙ held.pooled.last ∙ sym (ap (λ (p : Player E S). length p.links.items) ends.rest);
    max_is = ends.pool.max ∙ held.pooled.max_is ∙ sym (ap (λ (p : Player E S). p.max) ends.rest);
    size_is = ends.pool.size ∙ held.pooled.size_is ∙ sym (ap (λ (p : Player E S). p.size) ends.rest);
  };
  known = record {
    leases_are = λ k x at. absurd (none_held (length cuts.leases) k x (ap (λ (ls : List (Option Lease)). slice_get ls k) (sym ends.leases) ∙ at));
    tickets_are = λ k x at. absurd (none_held (length cuts.tickets) k x (ap (λ (ts : List (Option Ticket)). slice_get ts k) (sym ends.tickets) ∙ at));
  };
}

pub ends_setup : {E S : Type 0} (old cuts new : Player E S) → cuts ≡ record old { links = cuts.links; pool = cuts.pool } → EndsAs cuts new → SameSetup old new
ends_setup {E} {S} old cuts new rest ends = record {
  engine_is = ap (λ (p : Player E S). p.engine) ends.rest ∙ ap (λ (p : Player E S). p.engine) rest;
  max_is = ap (λ (p : Player E S). p.max) ends.rest ∙ ap (λ (p : Player E S). p.max) rest;
  size_is = ap (λ (p : Player E S). p.size) ends.rest ∙ ap (λ (p : Player E S). p.size) rest;
  told_is = ap (λ (p : Player E S). p.on_attention) ends.rest ∙ ap (λ (p : Player E S). p.on_attention) rest;
}

pub ends_holds : {E S : Type 0} (old cuts new : Player E S) → cuts ≡ record old { links = cuts.links; pool = cuts.pool } → EndsAs cuts new → HoldsBy new (all_ended (numbers_leased old.leases)) (all_ended (numbers_kept old.tickets)) old.asked_on.items
ends_holds {E} {S} old cuts new rest ends = record {
  leases_are =
      ap numbers_leased ends.leases ∙ numbers_all_ended (λ (l : Lease). l.number) cuts.leases
      ∙ ap (λ (p : Player E S). all_ended (numbers_leased p.leases)) rest;
  tickets_are =
      ap numbers_kept ends.tickets ∙ numbers_all_ended (λ (t : Ticket). t.number) cuts.tickets
      ∙ ap (λ (p : Player E S). all_ended (numbers_kept p.tickets)) rest;
  asked_are = ap (λ (p : Player E S). p.asked_on.items) ends.rest ∙ ap (λ (p : Player E S). p.asked_on.items) rest;
}

pub ends_few : {E S : Type 0} (old cuts new : Player E S) → cuts ≡ record old { links = cuts.links; pool = cuts.pool } → length cuts.links.items ≡ length old.links.items → EndsAs cuts new → GrowsByOne old new
ends_few {E} {S} old cuts new rest many ends most f = record {
  links_few = as_long old.links.items new.links.items most (ap (λ (p : Player E S). length p.links.items) ends.rest ∙ many) f.links_few;
  leases_few = as_long old.leases new.leases most (ap length ends.leases ∙ many_ended cuts.leases ∙ ap (λ (p : Player E S). length p.leases) rest) f.leases_few;
  tickets_few = as_long old.tickets new.tickets most (ap length ends.tickets ∙ many_ended cuts.tickets ∙ ap (λ (p : Player E S). length p.tickets) rest) f.tickets_few;
}
