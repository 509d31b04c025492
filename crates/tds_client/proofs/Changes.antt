-- What the changes of a message do together.
use Rattle.std.proofs.Common.{◌≡◌, ℕ, Bool, true, false, cond, List, [], ◌∷◌, Option, Some, None, Result, Ok, Err, refl, sym, ap, subst, ◌∙◌}
use Rattle.tds_packet.specs.declared.status.Reset.{Reset}
use Rattle.tds_token.specs.declared.env_change.EnvChange.{EnvChange}
use Rattle.tds_token.specs.declared.env_change.EnvChange.TheVariants.{Begin, Commit, Rollback, ResetDone}
use Rattle.tds_token.specs.declared.token.Token.{Token}
use Rattle.tds_token.specs.declared.token.Token.TheVariants as tokens
use Rattle.tds_token.specs.Told.{ResetEffect, applied, applied_on, change_applied, changes_of}
use Rattle.tds_client.specs.declared.fault.ClientFault.{ClientFault}
use Rattle.tds_client.specs.declared.fault.ClientFault.TheVariants as faults
use Rattle.tds_client.specs.declared.heard.Heard.{Heard}
use Rattle.tds_client.specs.declared.heard.FinalDone.{FinalDone}
use Rattle.tds_client.specs.declared.heard.FinalDone.TheVariants.{Awaited, Answered, Acknowledged}
use Rattle.tds_client.specs.Hearing.{◌>>=◌, with_done, descriptor_changed, hear_change, hear_done, strict_sign, strict_before, hear, hear_all, mark_after}
use Rattle.tds_packet.specs.Layout.{has_bit}
use Rattle.tds_packet.specs.Resets.{reset_effect}
use Rattle.tds_client.specs.Marks.{mark_behind}
use Rattle.tds_client.specs.Signs.{sign_of}

abbrev Answer : Type 0
Answer = Result Heard ClientFault

abbrev heard_so : Heard → Answer
heard_so heard = Ok heard

heard_is : (x y : Heard) → heard_so x ≡ heard_so y → x ≡ y
heard_is x y e = cc

-- where the mark lets a reset apply, this effect does the same
abbrev Allows : ResetEffect → Option Reset → Type 0
Allows effect mark = (d x : ℕ) → reset_effect mark d ≡ Some x → effect d ≡ Some x

-- what one token does to what is heard
record Moves (effect : ResetEffect) (heard : Heard) (t : Token) (next : Heard) : Type 0 where
  pub descriptor : (ts : List Token) → applied effect heard.descriptor (changes_of (t ∷ ts)) ≡ applied effect next.descriptor (changes_of ts)
  pub mark : (ts : List Token) → mark_behind (changes_of (t ∷ ts)) heard.mark ≡ mark_behind (changes_of ts) next.mark
  pub allows : Allows effect next.mark

-- ---- One change

allows_none : (effect : ResetEffect) → Allows effect None
allows_none effect d x e = absurd cc

allows_after : (effect : ResetEffect) (mark : Option Reset) (change : EnvChange) → Allows effect mark → Allows effect (mark_after change mark)
allows_after effect mark (Begin d) allows = allows
allows_after effect mark (Commit d) allows = allows
allows_after effect mark (Rollback d) allows = allows
allows_after effect mark ResetDone allows = allows_none effect

change_allowed : (effect : ResetEffect) (mark : Option Reset) (d x : ℕ) (change : EnvChange) → Allows effect mark → change_applied (reset_effect mark) d change ≡ Some x
    → change_applied effect d change ≡ Some x
change_allowed effect mark d x (Begin new) allows e = e
change_allowed effect mark d x (Commit old) allows e = e
change_allowed effect mark d x (Rollback old) allows e = e
change_allowed effect mark d x ResetDone allows e = allows d x e

change_moves : (effect : ResetEffect) (heard next : Heard) (change : EnvChange) (o : Option ℕ) → Allows effect heard.mark → change_applied (reset_effect heard.mark) heard.descriptor change ≡ o
    → descriptor_changed heard change o ≡ Ok next → Moves effect heard (tokens.Env change) next
change_moves effect heard next change None allows is e = absurd cc
change_moves effect heard next change (Some d) allows is e =
    let after : Heard = record { descriptor = d; mark = mark_after change heard.mark; done = heard.done } in
    let same = change_allowed effect heard.mark heard.descriptor d change allows is in
    subst (Moves effect heard (tokens.Env change)) (heard_is after next e) (record {
      descriptor = λ ts. ap (applied_on (λ next. applied effect next (changes_of ts))) same;
      mark = λ ts. refl;
      allows = allows_after effect heard.mark change allows;
    })

-- ---- One DONE

module _ (effect : ResetEffect) (heard next : Heard) (status cur_cmd rows : ℕ) (allows : Allows effect heard.mark) where
  abbrev Moved : Heard → Type 0
  Moved next = Moves effect heard (tokens.Done status cur_cmd rows) next

  as_before : (done : FinalDone) → Moved (with_done heard done)
  as_before done = record { descriptor = λ ts. refl; mark = λ ts. refl; allows = allows }

  done_moves : (attention more cancelling : Bool)
      → cond attention (cond {A = Answer} cancelling (Ok (with_done heard Acknowledged)) (Err faults.UnaskedAcknowledgement)) (cond {A = Answer} more (Ok heard) (Ok (with_done heard Answered))) ≡ Ok next
      → Moved next
  done_moves true more true e = subst Moved (heard_is (with_done heard Acknowledged) next e) (as_before Acknowledged)
  done_moves true more false e = absurd cc
  done_moves false true cancelling e = subst Moved (heard_is heard next e) (as_before heard.done)
  done_moves false false cancelling e = subst Moved (heard_is (with_done heard Answered) next e) (as_before Answered)

-- ---- One token

token_moves : (effect : ResetEffect) (cancelling : Bool) (heard next : Heard) (t : Token) → Allows effect heard.mark → strict_sign cancelling heard (sign_of t) ≡ Ok next → Moves effect heard t next
unfolding hear_change hear_done
token_moves effect cancelling heard next (tokens.Info m) allows e = subst (Moves effect heard (tokens.Info m)) (heard_is heard next e) (record { descriptor = λ ts. refl; mark = λ ts. refl; allows = allows })
token_moves effect cancelling heard next (tokens.Error m) allows e = subst (Moves effect heard (tokens.Error m)) (heard_is heard next e) (record { descriptor = λ ts. refl; mark = λ ts. refl; allows = allows })
token_moves effect cancelling heard next (tokens.ReturnStatus v) allows e = subst (Moves effect heard (tokens.ReturnStatus v)) (heard_is heard next e) (record { descriptor = λ ts. refl; mark = λ ts. refl; allows = allows })
token_moves effect cancelling heard next (tokens.Columns cs) allows e = subst (Moves effect heard (tokens.Columns cs)) (heard_is heard next e) (record { descriptor = λ ts. refl; mark = λ ts. refl; allows = allows })
token_moves effect cancelling heard next (tokens.Row vs) allows e = subst (Moves effect heard (tokens.Row vs)) (heard_is heard next e) (record { descriptor = λ ts. refl; mark = λ ts. refl; allows = allows })
token_moves effect cancelling heard next (tokens.Env change) allows e = change_moves effect heard next change _ allows refl e
token_moves effect cancelling heard next (tokens.Done status cur_cmd rows) allows e =
    done_moves effect heard next status cur_cmd rows allows (has_bit status 0x20) (has_bit status 1) cancelling e

before_moves : (effect : ResetEffect) (done : FinalDone) (cancelling : Bool) (heard next : Heard) (t : Token) → Allows effect heard.mark → strict_before done cancelling heard (sign_of t) ≡ Ok next
    → Moves effect heard t next
before_moves effect Awaited cancelling heard next t allows e = token_moves effect cancelling heard next t allows e
before_moves effect Answered cancelling heard next t allows e = absurd cc
before_moves effect Acknowledged cancelling heard next t allows e = absurd cc

moves : (effect : ResetEffect) (cancelling : Bool) (heard next : Heard) (t : Token) → Allows effect heard.mark → hear cancelling heard t ≡ Ok next → Moves effect heard t next
unfolding hear
moves effect cancelling heard next t allows e = before_moves effect heard.done cancelling heard next t allows e

-- ---- All tokens

-- what all of them do
abbrev AllMove : ResetEffect → Heard → List Token → Heard → Type 0
AllMove effect heard ts next = (applied effect heard.descriptor (changes_of ts) ≡ Some next.descriptor) × (next.mark ≡ mark_behind (changes_of ts) heard.mark)

first_moves : (effect : ResetEffect) (cancelling : Bool) (heard next : Heard) (t : Token) (ts : List Token) (r : Answer) → Allows effect heard.mark → hear cancelling heard t ≡ r
    → (r >>= λ next. hear_all cancelling next ts) ≡ Ok next
    → ((middle : Heard) → Allows effect middle.mark → hear_all cancelling middle ts ≡ Ok next → AllMove effect middle ts next) → AllMove effect heard (t ∷ ts) next
first_moves effect cancelling heard next t ts (Ok middle) allows is e others =
    let m = moves effect cancelling heard middle t allows is in
    let o = others middle m.allows e in
    (m.descriptor ts ∙ o.0, o.1 ∙ sym (m.mark ts))
first_moves effect cancelling heard next t ts (Err fault) allows is e others = absurd cc

all_move : (effect : ResetEffect) (cancelling : Bool) (heard next : Heard) (ts : List Token) → Allows effect heard.mark → hear_all cancelling heard ts ≡ Ok next → AllMove effect heard ts next
all_move effect cancelling heard next [] allows e =
    let same = heard_is heard next e in
    (ap (λ (h : Heard). Some h.descriptor) same, sym (ap (λ (h : Heard). h.mark) same))
all_move effect cancelling heard next (t ∷ ts) allows e =
    first_moves effect cancelling heard next t ts (hear cancelling heard t) allows refl e (λ middle allows said. all_move effect cancelling middle next ts allows said)

pub applies : (cancelling : Bool) (heard next : Heard) (tokens : List Token) → hear_all cancelling heard tokens ≡ Ok next
    → applied (reset_effect heard.mark) heard.descriptor (changes_of tokens) ≡ Some next.descriptor
applies cancelling heard next tokens e = (all_move (reset_effect heard.mark) cancelling heard next tokens (λ d x e. e) e).0

pub marks : (cancelling : Bool) (heard next : Heard) (tokens : List Token) → hear_all cancelling heard tokens ≡ Ok next
    → next.mark ≡ mark_behind (changes_of tokens) heard.mark
marks cancelling heard next tokens e = (all_move (reset_effect heard.mark) cancelling heard next tokens (λ d x e. e) e).1
