-- Pieces.
use Rattle.std.proofs.Common.{◌≡◌, ◌∙◌, ◌≤◌, ℕ, zero, suc, List, [], ◌∷◌, ◌++◌, length, refl, sym, ap, arith}
use Rattle.std.proofs.lemmas.List.{append-nil}
use Rattle.std.specs.Prelude.{Result, Ok, Err}
use Rattle.tds_client.specs.declared.fault.ClientFault.{ClientFault}
use Rattle.tds_client.specs.declared.sign.Rules.TheVariants.{Any}
use Rattle.tds_client.specs.Machine.{signed}
use Rattle.tds_client.specs.Session.{ClientSession}
use Rattle.tds_wire.specs.Reading.{Parser, Found, Sees, Inside, Refuses, next_token, then_found}
use Rattle.tds_listen.specs.declared.fault.ListenFault.{ListenFault}
use Rattle.tds_listen.specs.Hearing.{Both, heard_by, heard_data, then_data}
use Rattle.tds_listen.specs.Signs.{sign_of}
use Rattle.tds_listen.proofs.Data.{data_by, data_step, nothing_heard}
use Rattle.tds_listen.proofs.Fewer.{TakesSome, takes_some}

-- an empty piece does nothing
then_none : (x : Result Both ListenFault) → then_data x [] ≡ x
then_none (Ok both) = nothing_heard both.session both.reading
then_none (Err fault) = refl

module _ (y : ℕ) (ys : List ℕ) (cut : (r : Parser) (first second : List ℕ) → then_found (next_token r first) second ≡ next_token r (first ++ second)) where
  abbrev second : List ℕ
  second = y ∷ ys

  on_signed : (x : Result ClientSession ClientFault) (r : Parser) (rest : List ℕ) → ((s : ClientSession) → heard_data s r (rest ++ second) ≡ then_data (heard_data s r rest) second)
      → heard_by x (λ next. heard_data next r (rest ++ second)) ≡ then_data (heard_by x (λ next. heard_data next r rest)) second
  on_signed (Ok s) r rest others = others s
  on_signed (Err fault) r rest others = refl

  by_found : (s : ClientSession) (found : Found) (n : ℕ) → TakesSome (suc n) found
      → ((s : ClientSession) (r : Parser) (rest : List ℕ) → length rest ≤ n → heard_data s r (rest ++ second) ≡ then_data (heard_data s r rest) second)
      → data_by s (then_found found second) ≡ then_data (data_by s found) second
  by_found s (Sees token r rest) n h others = on_signed (signed Any s (sign_of token)) r rest (λ s. others s r rest (omega (arith, h)))
  by_found s (Inside r) n h others = sym (data_step s r y ys)
  by_found s (Refuses refusal) n h others = refl

  cuts_within : (n : ℕ) (s : ClientSession) (r : Parser) (first : List ℕ) → length first ≤ n → heard_data s r (first ++ second) ≡ then_data (heard_data s r first) second
  cuts_within n s r [] few = ap (λ (x : Result Both ListenFault). then_data x second) (sym (nothing_heard s r))
  cuts_within zero s r (x ∷ xs) few = absurd (omega (arith, few))
  cuts_within (suc n) s r (x ∷ xs) few =
      data_step s r x (xs ++ second)
      ∙ (ap (data_by s) (sym (cut r (x ∷ xs) second))
      ∙ (by_found s (next_token r (x ∷ xs)) (length xs) (takes_some r x xs) (λ s r rest fewer. cuts_within n s r rest (omega (arith, few, fewer)))
      ∙ ap (λ (x : Result Both ListenFault). then_data x second) (sym (data_step s r x xs))))

pub cuts : ((r : Parser) (first second : List ℕ) → then_found (next_token r first) second ≡ next_token r (first ++ second))
    → (s : ClientSession) (r : Parser) (first second : List ℕ) → heard_data s r (first ++ second) ≡ then_data (heard_data s r first) second
cuts cut s r first [] = ap (heard_data s r) (append-nil first) ∙ sym (then_none (heard_data s r first))
cuts cut s r first (y ∷ ys) = cuts_within y ys cut (length first) s r first (omega arith)
