-- As the layout has it.
use Rattle.std.proofs.Common.{◌≡◌, ◌∙◌, ℕ, List, Option, refl, ap}
use Rattle.std.specs.Prelude.{Result, Ok, Err}
use Rattle.tds_client.specs.declared.fault.ClientFault.{ClientFault}
use Rattle.tds_client.specs.declared.sign.Rules.TheVariants.{Any}
use Rattle.tds_client.specs.Machine.{signed, tells}
use Rattle.tds_client.specs.Session.{ClientSession}
use Rattle.tds_wire.specs.declared.told.Token.{Token}
use Rattle.tds_wire.specs.Reading.{IsReady, Parser, Found, Sees, Inside, Refuses, laid_out, next_token, outcome_of}
use Rattle.tds_listen.specs.Hearing.{heard_by, laid_move, moved_by, next_heard, told_if, without_parser}
use Rattle.tds_listen.specs.Signs.{sign_of}

on_signed : (x : Result ClientSession ClientFault) (o : Option Token) (r : Parser) (rest : List ℕ)
    → without_parser (heard_by x (λ next. Ok (record { told = o; session = next; reading = r; rest = rest })))
    ≡ heard_by x (λ next. Ok (record { told = o; session = next; rest = rest }))
on_signed (Ok next) o r rest = refl
on_signed (Err fault) o r rest = refl

by_outcome : (s : ClientSession) (found : Found) → without_parser (moved_by s found) ≡ laid_move s (outcome_of found)
by_outcome s (Sees token r rest) = on_signed (signed Any s (sign_of token)) (told_if (tells s.stage) token) r rest
by_outcome s (Inside r) = refl
by_outcome s (Refuses refusal) = refl

pub laid : ((r : Parser) (piece : List ℕ) → IsReady r → outcome_of (next_token r piece) ≡ laid_out r piece)
    → (s : ClientSession) (r : Parser) (bytes : List ℕ) → IsReady r → without_parser (next_heard s r bytes) ≡ laid_move s (laid_out r bytes)
laid passed s r bytes ready = by_outcome s (next_token r bytes) ∙ ap (laid_move s) (passed r bytes ready)
