-- Nothing is told behind a cancel.
use Rattle.std.proofs.Common.{◌≡◌, ◌∙◌, ◌≢◌, ℕ, List, Option, None, refl, sym, ap}
use Rattle.std.specs.Prelude.{Result, Ok, Err, true, ◌&&◌, not, if◌then◌else◌}
use Rattle.tds_client.specs.declared.fault.ClientFault.{ClientFault}
use Rattle.tds_client.specs.declared.heard.Heard.{Heard}
use Rattle.tds_client.specs.declared.sign.Rules.TheVariants.{Any}
use Rattle.tds_client.specs.declared.fault.ClientFault.TheVariants.{NoFinalDone}
use Rattle.tds_client.specs.declared.heard.FinalDone.{FinalDone}
use Rattle.tds_client.specs.declared.heard.FinalDone.TheVariants as done
use Rattle.tds_client.specs.declared.state.Taken.{Taken}
use Rattle.tds_client.specs.declared.state.Taken.TheVariants as takes
use Rattle.tds_client.specs.Hearing.{◌>>=◌, hear_sign, may_end}
use Rattle.tds_client.specs.Machine.{ItemMove, end_skipped, ended_in, signed, signed_in, tells, with_heard}
use Rattle.tds_client.specs.Session.{ClientSession, Stage, Cancelling}
use Rattle.tds_wire.specs.declared.told.Token.{Token}
use Rattle.tds_wire.specs.Reading.{Parser, Found, Sees, Inside, Refuses, is_between, next_token}
use Rattle.tds_listen.specs.declared.fault.ListenFault.{ListenFault}
use Rattle.tds_listen.specs.declared.fault.ListenFault.TheVariants as faults
use Rattle.tds_listen.specs.Hearing.{Move, heard_by, heard_end, moved_by, next_heard, settled_by, told_if}
use Rattle.tds_listen.specs.Signs.{sign_of}

-- what a move told, and where it left the client
abbrev told_from : Result Move ListenFault → Option Token
told_from (Ok move) = move.told
told_from (Err fault) = None

abbrev stage_from : Stage → Result Move ListenFault → Stage
stage_from stage (Ok move) = move.session.stage
stage_from stage (Err fault) = stage

told_signed : (x : Result ClientSession ClientFault) (r : Parser) (rest : List ℕ) → told_from (heard_by x (λ next. Ok (record { told = None; session = next; reading = r; rest = rest }))) ≡ None
told_signed (Ok next) r rest = refl
told_signed (Err fault) r rest = refl

heard_stays : (s : ClientSession) (x : Result Heard ClientFault) (o : Option Token) (r : Parser) (rest : List ℕ)
    → stage_from s.stage (heard_by (x >>= λ heard. Ok (with_heard s heard)) (λ next. Ok (record { told = o; session = next; reading = r; rest = rest }))) ≡ s.stage
heard_stays s (Ok heard) o r rest = refl
heard_stays s (Err fault) o r rest = refl

told_found : (s : ClientSession) (found : Found) → s.stage ≡ Cancelling → told_from (moved_by s found) ≡ None
told_found s (Sees token r rest) e =
    ap (λ (st : Stage). told_from (heard_by (signed Any s (sign_of token)) (λ next. Ok (record { told = told_if (tells st) token; session = next; reading = r; rest = rest })))) e
    ∙ told_signed (signed Any s (sign_of token)) r rest
told_found s (Inside r) e = refl
told_found s (Refuses refusal) e = refl

stays_found : (s : ClientSession) (found : Found) → s.stage ≡ Cancelling → stage_from s.stage (moved_by s found) ≡ s.stage
stays_found s (Sees token r rest) e =
    ap (λ (st : Stage). stage_from s.stage (heard_by (signed_in Any st s (sign_of token)) (λ next. Ok (record { told = told_if (tells s.stage) token; session = next; reading = r; rest = rest })))) e
    ∙ heard_stays s (hear_sign Any true s.heard (sign_of token)) (told_if (tells s.stage) token) r rest
stays_found s (Inside r) e = refl
stays_found s (Refuses refusal) e = refl

pub quiet : (s : ClientSession) (r : Parser) (bytes : List ℕ) (move : Move) → s.stage ≡ Cancelling → next_heard s r bytes ≡ Ok move → move.told ≡ None
quiet s r bytes move e does = sym (ap told_from does) ∙ told_found s (next_token r bytes) e

pub stays : (s : ClientSession) (r : Parser) (bytes : List ℕ) (move : Move) → s.stage ≡ Cancelling → next_heard s r bytes ≡ Ok move → move.session.stage ≡ Cancelling
stays s r bytes move e does = sym (ap (stage_from s.stage) does) ∙ (stays_found s (next_token r bytes) e ∙ e)

-- ---- The end of a message

abbrev ends_at : Result ItemMove ListenFault → Stage
ends_at (Ok move) = move.session.stage
ends_at (Err fault) = Cancelling

abbrev answers : Result ItemMove ListenFault → Taken
answers (Ok move) = move.answer
answers (Err fault) = takes.More

end_by : (s : ClientSession) (d : FinalDone) (move : ItemMove)
    → heard_by (if may_end Any true d then Ok (end_skipped s d) else Err NoFinalDone) (λ move. settled_by move.answer move) ≡ Ok move
    → move.answer ≢ takes.Acknowledged → move.session.stage ≡ Cancelling
end_by s done.Awaited move does other = sym (ap ends_at does)
end_by s done.Answered move does other = sym (ap ends_at does)
end_by s done.Acknowledged move does other = absurd (other (sym (ap answers does)))

abbrev end_in : ClientSession → Parser → Stage → Result ItemMove ListenFault
end_in s r st = if tells st && not (is_between r) then Err faults.Cut else heard_by (ended_in Any st s) (λ move. settled_by move.answer move)

pub ends : (s : ClientSession) (r : Parser) (move : ItemMove) → s.stage ≡ Cancelling → heard_end s r ≡ Ok move → move.answer ≢ takes.Acknowledged → move.session.stage ≡ Cancelling
ends s r move e does other = end_by s s.heard.done move (sym (ap (end_in s r) e) ∙ does) other
