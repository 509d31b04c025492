-- What a seat's client hears is what the machine hears.
use Rattle.std.proofs.Common.{◌≡◌, ◌∙◌, ℕ, Bool, true, false, List, [], refl, sym, ap, subst}
use Rattle.std.specs.Prelude.{Option, Some, None, Result, Ok, Err, if◌then◌else◌}
use Rattle.tds_packet.specs.declared.status.Reset.{Reset}
use Rattle.tds_token.specs.declared.env_change.EnvChange.{EnvChange}
use Rattle.tds_token.specs.declared.env_change.EnvChange.TheVariants as changes
use Rattle.tds_wire.specs.declared.told.Token.{Token}
use Rattle.tds_client.specs.declared.fault.ClientFault.{ClientFault}
use Rattle.tds_client.specs.declared.fault.ClientFault.TheVariants as faults
use Rattle.tds_client.specs.declared.heard.Heard.{Heard}
use Rattle.tds_client.specs.declared.heard.FinalDone.{FinalDone}
use Rattle.tds_client.specs.declared.heard.FinalDone.TheVariants.{Awaited, Answered, Acknowledged}
use Rattle.tds_client.specs.declared.client.parts.StageParts.{StageParts}
use Rattle.tds_client.specs.declared.client.parts.StageParts.TheVariants as parts
use Rattle.tds_client.specs.declared.sign.DoneKind.{DoneKind}
use Rattle.tds_client.specs.declared.sign.Rules.TheVariants.{Any}
use Rattle.tds_client.specs.declared.sign.Sign.{Sign}
use Rattle.tds_client.specs.declared.sign.Sign.TheVariants as signs
use Rattle.tds_client.specs.Faults.{fault_number}
use Rattle.tds_client.specs.Machine.{signed, with_heard}
use Rattle.tds_client.specs.Parts.{session_from}
use Rattle.tds_client.specs.Session.{ClientSession}
use Rattle.tds_client.specs.Hearing.{◌>>=◌, acknowledges_by, change_fault, change_placed, descriptor_changed, hear_sign, place_change, place_done, with_done, done_behind}
use Rattle.tds_listen.specs.declared.fault.ListenFault.TheVariants as listens
use Rattle.tds_service.specs.Line as line
use Rattle.tds_service.specs.Line.{Line, heard_at}
use Rattle.tds_service.specs.Parts.{Part, told_by}
use Rattle.tds_service.specs.Ties.{Hears}
use Rattle.tds_c.specs.service.Hearing.{end_part, one_part}
use Rattle.tds_c.specs.service.Plain.{fault_of}

-- ---- The faults that a sign may have are known by their numbers

abbrev Known : ClientFault → Type 0
Known fault = fault_of (fault_number fault) ≡ fault

wrong_same : (a b : ClientFault) → (let r : Result Heard ClientFault = Err a in r) ≡ Err b → a ≡ b
wrong_same a b e = cc

change_known : (change : EnvChange) → Known (change_fault change)
change_known (changes.Begin d) = refl
change_known (changes.Commit d) = refl
change_known (changes.Rollback d) = refl
change_known changes.ResetDone = refl

changed_known : (heard : Heard) (change : EnvChange) (o : Option ℕ) (fault : ClientFault) → descriptor_changed heard change o ≡ Err fault → Known fault
changed_known heard change None fault e = subst Known (wrong_same (change_fault change) fault e) (change_known change)
changed_known heard change (Some d) fault e = absurd (let u : ⊥ = cc in u)

done_known : (b cancelling : Bool) (x y : Heard) (fault : ClientFault)
    → (if b then (if cancelling then (let r : Result Heard ClientFault = Ok x in r) else Err faults.UnaskedAcknowledgement) else Ok y) ≡ Err fault → Known fault
done_known true true x y fault e = absurd (let u : ⊥ = cc in u)
done_known true false x y fault e = subst Known (wrong_same faults.UnaskedAcknowledgement fault e) refl
done_known false true x y fault e = absurd (let u : ⊥ = cc in u)
done_known false false x y fault e = absurd (let u : ⊥ = cc in u)

pub sign_known : (cancelling : Bool) (heard : Heard) (sign : Sign) (fault : ClientFault) → hear_sign Any cancelling heard sign ≡ Err fault → Known fault
unfolding place_change place_done
sign_known cancelling heard signs.Nothing fault e = absurd (let u : ⊥ = cc in u)
sign_known cancelling heard (signs.Change change) fault e = changed_known heard change (change_placed heard.mark heard.descriptor change) fault e
sign_known cancelling heard (signs.Done kind status) fault e =
    done_known (acknowledges_by kind status) cancelling (with_done heard Acknowledged) (with_done heard (done_behind heard.done status)) fault e

-- ---- Where nothing is awaited

module _ (l : Line) (part : Part Token) where
  pub idle_breaks : l.stage ≡ line.Idle → Hears part l (heard_at l (line.Broken faults.AnswerInIdle) l.heard) (line.Fault (listens.Client faults.AnswerInIdle)) []
  idle_breaks st = record { line_is = rw st refl; answer_is = rw st refl; told_is = rw st refl; owner = rw st tt; quiet = rw st refl }

  pub sending_breaks : (begun : Bool) → l.stage ≡ line.Sending begun
      → Hears part l (heard_at l (line.Broken faults.AnswerInSending) l.heard) (line.Fault (listens.Client faults.AnswerInSending)) []
  sending_breaks begun st = record { line_is = rw st refl; answer_is = rw st refl; told_is = rw st refl; owner = rw st tt; quiet = rw st refl }

  pub broken_again : (fault : ClientFault) → l.stage ≡ line.Broken fault → Hears part l l (line.Fault (listens.Client fault)) []
  broken_again fault st =
      let again : Hears part l (heard_at l (line.Broken fault) l.heard) (line.Fault (listens.Client fault)) [] =
      record { line_is = rw st refl; answer_is = rw st refl; told_is = rw st refl; owner = rw st tt; quiet = rw st refl } in
      subst (λ (s : line.LineStage). Hears part l (heard_at l s l.heard) (line.Fault (listens.Client fault)) []) (sym st) again

-- ---- A token

module _ (l : Line) (sign : Sign) (token : Token) where
  pub reads_ok : (next : Heard) → l.stage ≡ line.Reading → hear_sign Any false l.heard sign ≡ Ok next
      → Hears (one_part sign token) l (heard_at l line.Reading next) line.More (told_by sign token [])
  reads_ok next st e = record { line_is = rw (st, e) refl; answer_is = rw (st, e) refl; told_is = rw (st, e) refl; owner = rw (st, e) refl; quiet = rw (st, e) refl }

  pub reads_err : (fault : ClientFault) → l.stage ≡ line.Reading → hear_sign Any false l.heard sign ≡ Err fault
      → Hears (one_part sign token) l (heard_at l (line.Broken fault) l.heard) (line.Fault (listens.Client fault)) []
  reads_err fault st e = record { line_is = rw (st, e) refl; answer_is = rw (st, e) refl; told_is = rw (st, e) refl; owner = rw (st, e) tt; quiet = rw (st, e) refl }

  pub skips_ok : (next : Heard) → l.stage ≡ line.Cancelling → hear_sign Any true l.heard sign ≡ Ok next
      → Hears (one_part sign token) l (heard_at l line.Cancelling next) line.More []
  skips_ok next st e = record { line_is = rw (st, e) refl; answer_is = rw (st, e) refl; told_is = rw (st, e) refl; owner = rw (st, e) tt; quiet = rw (st, e) refl }

  pub skips_err : (fault : ClientFault) → l.stage ≡ line.Cancelling → hear_sign Any true l.heard sign ≡ Err fault
      → Hears (one_part sign token) l (heard_at l (line.Broken fault) l.heard) (line.Fault (listens.Client fault)) []
  skips_err fault st e = record { line_is = rw (st, e) refl; answer_is = rw (st, e) refl; told_is = rw (st, e) refl; owner = rw (st, e) tt; quiet = rw (st, e) refl }

-- ---- The end of a message

module _ (l : Line) where
  pub end_cut : l.stage ≡ line.Reading → Hears (end_part true) l (heard_at l (line.Broken faults.Lost) l.heard) (line.Fault listens.Cut) []
  end_cut st = record { line_is = rw st refl; answer_is = rw st refl; told_is = rw st refl; owner = rw st tt; quiet = rw st refl }

  pub end_unfinished : l.stage ≡ line.Reading → l.heard.done ≡ Awaited
      → Hears (end_part false) l (heard_at l (line.Broken faults.NoFinalDone) l.heard) (line.Fault (listens.Client faults.NoFinalDone)) []
  end_unfinished st d = record { line_is = rw (st, d) refl; answer_is = rw (st, d) refl; told_is = rw (st, d) refl; owner = rw (st, d) tt; quiet = rw (st, d) refl }

  final_owed : (d : FinalDone) → (d ≡ Awaited → ⊥) → (reset : Reset) → l.stage ≡ line.Reading → l.heard.done ≡ d → l.heard.mark ≡ Some reset
      → Hears (end_part false) l (heard_at l (line.Broken faults.Lost) (with_done l.heard Awaited)) (line.Fault listens.ResetUnanswered) []
  final_owed Awaited never reset st d m = absurd (never refl)
  final_owed Answered never reset st d m = record { line_is = rw (st, d, m) refl; answer_is = rw (st, d, m) refl; told_is = rw (st, d, m) refl; owner = rw (st, d, m) tt; quiet = rw (st, d, m) refl }
  final_owed Acknowledged never reset st d m = record { line_is = rw (st, d, m) refl; answer_is = rw (st, d, m) refl; told_is = rw (st, d, m) refl; owner = rw (st, d, m) tt; quiet = rw (st, d, m) refl }

  pub end_owed : (reset : Reset) → (l.heard.done ≡ Awaited → ⊥) → l.stage ≡ line.Reading → l.heard.mark ≡ Some reset
      → Hears (end_part false) l (heard_at l (line.Broken faults.Lost) (with_done l.heard Awaited)) (line.Fault listens.ResetUnanswered) []
  end_owed reset never st m = final_owed l.heard.done never reset st refl m

  final_finished : (d : FinalDone) → (d ≡ Awaited → ⊥) → l.stage ≡ line.Reading → l.heard.done ≡ d → l.heard.mark ≡ None
      → Hears (end_part false) l (heard_at l line.Idle (with_done l.heard Awaited)) (line.Finished l.asked) []
  final_finished Awaited never st d m = absurd (never refl)
  final_finished Answered never st d m = record { line_is = rw (st, d, m) refl; answer_is = rw (st, d, m) refl; told_is = rw (st, d, m) refl; owner = rw (st, d, m) refl; quiet = rw (st, d, m) refl }
  final_finished Acknowledged never st d m = record { line_is = rw (st, d, m) refl; answer_is = rw (st, d, m) refl; told_is = rw (st, d, m) refl; owner = rw (st, d, m) refl; quiet = rw (st, d, m) refl }

  pub end_finished : (l.heard.done ≡ Awaited → ⊥) → l.stage ≡ line.Reading → l.heard.mark ≡ None
      → Hears (end_part false) l (heard_at l line.Idle (with_done l.heard Awaited)) (line.Finished l.asked) []
  end_finished never st m = final_finished l.heard.done never st refl m

  -- behind a cancel a message may end anywhere
  skip_more : (cut : Bool) (d : FinalDone) → (d ≡ Acknowledged → ⊥) → l.stage ≡ line.Cancelling → l.heard.done ≡ d
      → Hears (end_part cut) l (heard_at l line.Cancelling (with_done l.heard Awaited)) line.More []
  skip_more true Awaited never st d = record { line_is = rw (st, d) refl; answer_is = rw (st, d) refl; told_is = rw (st, d) refl; owner = rw (st, d) tt; quiet = rw (st, d) refl }
  skip_more true Answered never st d = record { line_is = rw (st, d) refl; answer_is = rw (st, d) refl; told_is = rw (st, d) refl; owner = rw (st, d) tt; quiet = rw (st, d) refl }
  skip_more true Acknowledged never st d = absurd (never refl)
  skip_more false Awaited never st d = record { line_is = rw (st, d) refl; answer_is = rw (st, d) refl; told_is = rw (st, d) refl; owner = rw (st, d) tt; quiet = rw (st, d) refl }
  skip_more false Answered never st d = record { line_is = rw (st, d) refl; answer_is = rw (st, d) refl; told_is = rw (st, d) refl; owner = rw (st, d) tt; quiet = rw (st, d) refl }
  skip_more false Acknowledged never st d = absurd (never refl)

  pub end_more : (cut : Bool) → (l.heard.done ≡ Acknowledged → ⊥) → l.stage ≡ line.Cancelling → Hears (end_part cut) l (heard_at l line.Cancelling (with_done l.heard Awaited)) line.More []
  end_more cut never st = skip_more cut l.heard.done never st refl

  pub end_acked : (cut : Bool) → l.heard.done ≡ Acknowledged → l.stage ≡ line.Cancelling → Hears (end_part cut) l (heard_at l line.Idle (with_done l.heard Awaited)) (line.Acked l.asked) []
  end_acked true d st = record { line_is = rw (st, d) refl; answer_is = rw (st, d) refl; told_is = rw (st, d) refl; owner = rw (st, d) tt; quiet = rw (st, d) refl }
  end_acked false d st = record { line_is = rw (st, d) refl; answer_is = rw (st, d) refl; told_is = rw (st, d) refl; owner = rw (st, d) tt; quiet = rw (st, d) refl }

-- ---- Of the client's own hearing

same_session : (a b : ClientSession) → (let r : Result ClientSession ClientFault = Ok a in r) ≡ Ok b → a ≡ b
same_session a b e = cc

heard_next : (r : Result Heard ClientFault) (s new : ClientSession) → (r >>= λ heard. Ok (with_heard s heard)) ≡ Ok new → r ≡ Ok new.heard
heard_next (Ok heard) s new e = ap (λ (x : ClientSession). let r : Result Heard ClientFault = Ok x.heard in r) (same_session (with_heard s heard) new e)
heard_next (Err fault) s new e = absurd (let u : ⊥ = cc in u)

heard_fault : (r : Result Heard ClientFault) (s : ClientSession) (fault : ClientFault) → (r >>= λ heard. Ok (with_heard s heard)) ≡ Err fault → r ≡ Err fault
heard_fault (Ok heard) s fault e = absurd (let u : ⊥ = cc in u)
heard_fault (Err other) s fault e = cc

heard_in : (cancelling : Bool) (size : ℕ) (columns : Option ℕ) (heard : Heard) (sign : Sign) (new : ClientSession)
    → signed Any (session_from (record { size = size; stage = if cancelling then parts.Cancelling else parts.Reading; heard = heard; columns = columns }) []) sign ≡ Ok new
    → hear_sign Any cancelling heard sign ≡ Ok new.heard
heard_in true size columns heard sign new e = heard_next (hear_sign Any true heard sign) (session_from (record { size = size; stage = parts.Cancelling; heard = heard; columns = columns }) []) new e
heard_in false size columns heard sign new e = heard_next (hear_sign Any false heard sign) (session_from (record { size = size; stage = parts.Reading; heard = heard; columns = columns }) []) new e

fault_in : (cancelling : Bool) (size : ℕ) (columns : Option ℕ) (heard : Heard) (sign : Sign) (fault : ClientFault)
    → signed Any (session_from (record { size = size; stage = if cancelling then parts.Cancelling else parts.Reading; heard = heard; columns = columns }) []) sign ≡ Err fault
    → hear_sign Any cancelling heard sign ≡ Err fault
fault_in true size columns heard sign fault e = heard_fault (hear_sign Any true heard sign) (session_from (record { size = size; stage = parts.Cancelling; heard = heard; columns = columns }) []) fault e
fault_in false size columns heard sign fault e = heard_fault (hear_sign Any false heard sign) (session_from (record { size = size; stage = parts.Reading; heard = heard; columns = columns }) []) fault e

pub awaited_heard : (cancelling : Bool) (size : ℕ) (columns : Option ℕ) (stage : StageParts) (heard : Heard) (sign : Sign) (new : ClientSession)
    → stage ≡ (if cancelling then parts.Cancelling else parts.Reading)
    → signed Any (session_from (record { size = size; stage = stage; heard = heard; columns = columns }) []) sign ≡ Ok new → hear_sign Any cancelling heard sign ≡ Ok new.heard
awaited_heard cancelling size columns stage heard sign new is e =
    heard_in cancelling size columns heard sign new
    (subst (λ (x : StageParts). signed Any (session_from (record { size = size; stage = x; heard = heard; columns = columns }) []) sign ≡ Ok new) is e)

pub awaited_fault : (cancelling : Bool) (size : ℕ) (columns : Option ℕ) (stage : StageParts) (heard : Heard) (sign : Sign) (fault : ClientFault)
    → stage ≡ (if cancelling then parts.Cancelling else parts.Reading)
    → signed Any (session_from (record { size = size; stage = stage; heard = heard; columns = columns }) []) sign ≡ Err fault → hear_sign Any cancelling heard sign ≡ Err fault
awaited_fault cancelling size columns stage heard sign fault is e =
    fault_in cancelling size columns heard sign fault
    (subst (λ (x : StageParts). signed Any (session_from (record { size = size; stage = x; heard = heard; columns = columns }) []) sign ≡ Err fault) is e)
