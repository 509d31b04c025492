-- Tokens that a client hears one after the other.
use Rattle.std.proofs.Common.{◌≡◌, ◌∙◌, ℕ, List, [], ◌∷◌, ◌++◌, length, Option, Some, None, Ok, refl, sym, ap, subst}
use Rattle.tds_listen.specs.Hearing.{Move, next_heard}
use Rattle.tds_wire.specs.declared.told.Token.{Token}
use Rattle.tds_walk.specs.declared.token.TdsWireToken.{TdsWireToken}
use Rattle.tds_c.specs.Hearing.{HasHeard, HearsInTurn, Place, behind, told_in, with_told}
use Rattle.tds_walk.specs.WireTokens.{AllShow, Puts, Shows}
use Rattle.tds_c.proofs.Rooms.{written_on}

in_turn_on : (first : Place) (moves : List Move) (place : Place) (move : Move) → HearsInTurn first moves place → next_heard place.session place.reading place.rest ≡ Ok move → HearsInTurn first (moves ++ move ∷ []) (behind move)
unfolding HearsInTurn
in_turn_on first [] place move so next = (rw so next, refl)
in_turn_on first (x ∷ moves) place move so next = (so.0, in_turn_on (behind x) moves place move so.1 next)

led : (told : Option Token) (tokens more : List Token) → with_told told (tokens ++ more) ≡ with_told told tokens ++ more
led None tokens more = refl
led (Some token) tokens more = refl

told_on : (moves : List Move) (move : Move) → told_in (moves ++ move ∷ []) ≡ told_in moves ++ with_told move.told []
unfolding told_in
told_on [] move = refl
told_on (x ∷ moves) move = ap (with_told x.told) (told_on moves move) ∙ led x.told (told_in moves) (with_told move.told [])

shows_on : (values : List TdsWireToken) (tokens : List Token) (value : TdsWireToken) (token : Token) → AllShow values tokens → Shows value token token.told → AllShow (values ++ value ∷ []) (tokens ++ token ∷ [])
unfolding AllShow
shows_on [] [] value token all one = (one, tt)
shows_on [] (t ∷ tokens) value token all one = absurd all
shows_on (x ∷ values) [] value token all one = absurd all
shows_on (x ∷ values) (t ∷ tokens) value token all one = (all.0, shows_on values tokens value token all.1 one)

pub none_heard : (first : Place) (room : List TdsWireToken) → HasHeard first first (record { before = room; after = room; count = 0 })
unfolding HearsInTurn told_in AllShow
none_heard first room = record { moves = []; in_turn = refl; values = []; shows = tt; written = (refl, refl) }

nil_on : (tokens : List Token) → tokens ++ [] ≡ tokens
nil_on [] = refl
nil_on (t ∷ tokens) = ap (λ (ts : List Token). t ∷ ts) (nil_on tokens)

-- one more move was made
heard_by : (told : Option Token) (first place : Place) (move : Move) (before after new : List TdsWireToken) (i j : ℕ) → move.told ≡ told → length after ≡ length before
    → next_heard place.session place.reading place.rest ≡ Ok move → Puts told (record { before = after; after = new; count = j }) i
    → HasHeard first place (record { before = before; after = after; count = i }) → HasHeard first (behind move) (record { before = before; after = new; count = j })
heard_by None first place move before after new i j is long next put heard = record {
  moves = heard.moves ++ move ∷ [];
  in_turn = in_turn_on first heard.moves place move heard.in_turn next;
  values = heard.values;
  shows = subst (AllShow heard.values) (sym (told_on heard.moves move ∙ (ap (λ (t : Option Token). told_in heard.moves ++ with_told t []) is ∙ nil_on (told_in heard.moves)))) heard.shows;
  written = rw (put.0, put.1) heard.written;
}
heard_by (Some token) first place move before after new i j is long next put heard = record {
  moves = heard.moves ++ move ∷ [];
  in_turn = in_turn_on first heard.moves place move heard.in_turn next;
  values = heard.values ++ put.0 ∷ [];
  shows = subst (AllShow (heard.values ++ put.0 ∷ [])) (sym (told_on heard.moves move ∙ ap (λ (t : Option Token). told_in heard.moves ++ with_told t []) is)) (shows_on heard.values (told_in heard.moves) put.0 token heard.shows put.1);
  written = rw (put.3, put.4) (written_on heard.values before after put.0 i heard.written (rw (sym long) put.2));
}

pub heard_on : (first place : Place) (move : Move) (before after new : List TdsWireToken) (i j : ℕ) → length after ≡ length before
    → next_heard place.session place.reading place.rest ≡ Ok move → Puts move.told (record { before = after; after = new; count = j }) i
    → HasHeard first place (record { before = before; after = after; count = i }) → HasHeard first (behind move) (record { before = before; after = new; count = j })
heard_on first place move before after new i j long next put heard = heard_by move.told first place move before after new i j refl long next put heard
