-- What is heard of data, token by token.
use Rattle.std.proofs.Common.{◌≡◌, ◌∙◌, ◌≤◌, ◌<◌, ℕ, ◌+◌, ◌-◌, List, [], ◌∷◌, length, take, drop, Option, refl, sym, ap, arith}
use Rattle.std.specs.Prelude.{Result, Ok, Err}
use Rattle.std.proofs.lemmas.List.{take_all, drop_all, drop-drop, length-drop}
use Rattle.tds_client.specs.declared.fault.ClientFault.{ClientFault}
use Rattle.tds_client.specs.declared.sign.Rules.TheVariants.{Any}
use Rattle.tds_client.specs.Hearing.{◌>>=◌}
use Rattle.tds_client.specs.Machine.{all_signed, signed}
use Rattle.tds_client.specs.Session.{ClientSession}
use Rattle.tds_wire.specs.declared.told.Token.{Token}
use Rattle.tds_wire.specs.Reading.{Parser, Found, Sees, Inside, Refuses, next_token}
use Rattle.tds_listen.specs.declared.fault.ListenFault.{ListenFault}
use Rattle.tds_listen.specs.declared.fault.ListenFault.TheVariants as faults
use Rattle.tds_listen.specs.Hearing.{Both, Move, TokensHeard, at_stop, heard_by, heard_data, heard_tokens, moved_by, next_heard, tokens_by, tokens_in, tokens_within}
use Rattle.tds_listen.specs.Signs.{sign_of, signs_of}
use Rattle.tds_listen.proofs.Within.{step_is}

-- the client hears the first sign, and then the others
led : (x : Result ClientSession ClientFault) (others : TokensHeard)
    → heard_by (x >>= λ next. all_signed Any next (signs_of others.tokens)) (λ next. at_stop next others.stop) ≡ heard_by x (λ next. heard_tokens next others)
led (Ok s) others = refl
led (Err fault) others = refl

-- what comes of what is found first
abbrev pub data_by : ClientSession → Found → Result Both ListenFault
data_by s (Sees token r rest) = heard_by (signed Any s (sign_of token)) (λ next. heard_data next r rest)
data_by s (Inside r) = Ok (record { session = s; reading = r })
data_by s (Refuses refusal) = Err (faults.Wire refusal)

data_found : (s : ClientSession) (found : Found) → heard_tokens s (tokens_by found (λ r rest. tokens_in r rest)) ≡ data_by s found
data_found s (Sees token r rest) = led (signed Any s (sign_of token)) (tokens_in r rest)
data_found s (Inside r) = refl
data_found s (Refuses refusal) = refl

pub data_step : (s : ClientSession) (r : Parser) (x : ℕ) (xs : List ℕ) → heard_data s r (x ∷ xs) ≡ data_by s (next_token r (x ∷ xs))
data_step s r x xs = ap (heard_tokens s) (step_is r x xs) ∙ data_found s (next_token r (x ∷ xs))

pub nothing_heard : (s : ClientSession) (r : Parser) → heard_data s r [] ≡ Ok (record { session = s; reading = r })
unfolding tokens_within
nothing_heard s r = refl

-- ---- A call of `next`

-- what is left behind it
abbrev pub then_rest : Result Move ListenFault → Result Both ListenFault
then_rest (Ok move) = heard_data move.session move.reading move.rest
then_rest (Err fault) = Err fault

on_signed : (x : Result ClientSession ClientFault) (o : Option Token) (r : Parser) (rest : List ℕ)
    → heard_by x (λ next. heard_data next r rest) ≡ then_rest (heard_by x (λ next. Ok (record { told = o; session = next; reading = r; rest = rest })))
on_signed (Ok next) o r rest = refl
on_signed (Err fault) o r rest = refl

data_moved : (s : ClientSession) (found : Found) → data_by s found ≡ then_rest (moved_by s found)
data_moved s (Sees token r rest) = on_signed (signed Any s (sign_of token)) _ r rest
data_moved s (Inside r) = sym (nothing_heard s r)
data_moved s (Refuses refusal) = refl

next_is : (s : ClientSession) (r : Parser) (bytes : List ℕ) → 1 ≤ length bytes → heard_data s r bytes ≡ then_rest (next_heard s r bytes)
next_is s r [] some = absurd (omega (arith, some))
next_is s r (x ∷ xs) some = data_step s r x xs ∙ data_moved s (next_token r (x ∷ xs))

-- with the bytes of `all` behind the first `done`
module _ (s : ClientSession) (r : Parser) (all : List ℕ) (done : ℕ) (more : done < length all) where
  abbrev piece : List ℕ
  piece = take (length all - done) (drop done all)

  piece_is : piece ≡ drop done all
  piece_is = take_all (length all - done) (drop done all) (let l : length (drop done all) ≡ length all - done = length-drop done all in omega (arith, l))

  has_some : 1 ≤ length piece
  has_some = let l : length piece ≡ length all - done = ap length piece_is ∙ length-drop done all in omega (arith, l, more)

  heard_so : heard_data s r (drop done all) ≡ then_rest (next_heard s r piece)
  heard_so = ap (heard_data s r) (sym piece_is) ∙ next_is s r piece has_some

  pub goes_on : (o : Option Token) (next : ClientSession) (behind : Parser) (count : ℕ)
      → next_heard s r piece ≡ Ok (record { told = o; session = next; reading = behind; rest = drop count piece })
      → heard_data s r (drop done all) ≡ heard_data next behind (drop (done + count) all)
  goes_on o next behind count does = heard_so ∙ (ap then_rest does ∙ ap (heard_data next behind) (ap (drop count) piece_is ∙ drop-drop count done all))

  pub stops : (fault : ListenFault) → next_heard s r piece ≡ Err fault → heard_data s r (drop done all) ≡ Err fault
  stops fault does = heard_so ∙ ap then_rest does

-- behind the last byte
pub heard_all : (s : ClientSession) (r : Parser) (all : List ℕ) (done : ℕ) → length all ≤ done → heard_data s r (drop done all) ≡ Ok (record { session = s; reading = r })
heard_all s r all done e = ap (heard_data s r) (drop_all done all e) ∙ nothing_heard s r
