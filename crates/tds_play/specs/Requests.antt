-- What a request of the player stands for in the model.
use Rattle.std.specs.Prelude.{ℕ, ◌≡◌, List, [], ◌∷◌, Bool, Option, Some, None}
use Rattle.tds_play.specs.declared.request.Record.{Record}
use Rattle.tds_world.specs.Phase.{Settled, phase_of, request_status}
use Rattle.tds_world.specs.Record as world

-- A request that was asked on the connection of this number, which is cut or isn't.
pub record MatchesRecord (number : ℕ) (cut : Bool) (r : Record) (q : world.Record) : Type 0 where
  pub lease : r.lease ≡ q.lease
  pub conn : q.conn ≡ number
  pub mark : r.mark ≡ q.asking.mark
  pub status : r.status ≡ request_status cut q
  pub ran : r.ran ≡ q.ran
  pub tokens : r.tokens.items ≡ q.given

-- The older ones, each of which is settled.
abbrev pub AreOlder : ℕ → Bool → List Record → List world.Record → Type 0
AreOlder number cut [] [] = Unit {0}
AreOlder number cut [] (q ∷ qs) = ⊥
AreOlder number cut (r ∷ rs) [] = ⊥
AreOlder number cut (r ∷ rs) (q ∷ qs) =
    (MatchesRecord number cut r q × (phase_of q ≡ Settled)) × AreOlder number cut rs qs

-- The newest one, if there is one.
abbrev pub IsNewest : ℕ → Bool → Option Record → Option world.Record → Type 0
IsNewest number cut None None = Unit {0}
IsNewest number cut None (Some q) = ⊥
IsNewest number cut (Some r) None = ⊥
IsNewest number cut (Some r) (Some q) = MatchesRecord number cut r q
