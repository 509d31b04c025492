-- What a connection of the player is once its client has listened.
use Rattle.std.specs.Prelude.{ℕ, ◌≡◌, List, [], Option, Some, None}
use Rattle.tds_packet.specs.Reading.{with_taken}
use Rattle.tds_token.specs.declared.token.Token.{Token}
use Rattle.tds_play.specs.declared.link.Link.{Link}
use Rattle.tds_play.specs.declared.request.Record.{Record}
use Rattle.tds_ends.specs.Deliveries.{status_under}
use Rattle.tds_ends.specs.Feeding.{Listened}

-- What the newest request's caller was given. Where there is no request, nobody was given anything.
abbrev pub told_in : Option Record → List Token
told_in None = []
told_in (Some r) = r.tokens.items

-- The newest request then: its caller was told all that, and its status is what the client's answers
-- made of it.
abbrev pub IsToldSo : Listened → Option Record → Option Record → Type 0
IsToldSo then None None = Unit {0}
IsToldSo then None (Some s) = ⊥
IsToldSo then (Some r) None = ⊥
IsToldSo then (Some r) (Some s) =
    (s ≡ record r { status = status_under then.settled r.status; tokens = s.tokens })
    × (s.tokens.items ≡ then.told)

-- Its client listened, and this is left of what came.
pub record HasListened {E S : Type 0} (then : Listened) (left : List ℕ) (old new : Link E S) : Type 0 where
  pub reader : new.client_reader ≡ with_taken old.client_reader left
  pub told : IsToldSo then old.current new.current
  pub rest :
      new ≡ record old { client_reader = new.client_reader; current = new.current }
