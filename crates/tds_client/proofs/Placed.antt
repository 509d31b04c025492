-- The descriptor is the server's, and the mark is cleared by the end of a reset alone: whoever reads the answers.
use Rattle.std.proofs.Common.{◌≡◌, ◌≢◌, ◌∙◌, ℕ, ◌==◌, Bool, true, false, cond, ◌||◌, List, [], ◌∷◌, Option, Some, None, refl, sym, ap, subst, eqb-true}
use Rattle.std.specs.Prelude.{Result, Ok, Err, if◌then◌else◌}
use Rattle.tds_packet.specs.Layout.{has_bit}
use Rattle.tds_packet.specs.Resets.{reset_effect}
use Rattle.tds_packet.specs.declared.status.Reset.{Reset}
use Rattle.tds_packet.specs.declared.status.Reset.TheVariants.{Full, KeepTransaction}
use Rattle.tds_token.specs.Told.{change_applied}
use Rattle.tds_token.specs.declared.env_change.EnvChange.{EnvChange}
use Rattle.tds_token.specs.declared.env_change.EnvChange.TheVariants.{Begin, Commit, Rollback, ResetDone}
use Rattle.tds_client.specs.declared.fault.ClientFault.{ClientFault}
use Rattle.tds_client.specs.declared.fault.ClientFault.TheVariants as faults
use Rattle.tds_client.specs.declared.heard.Heard.{Heard}
use Rattle.tds_client.specs.declared.heard.FinalDone.{FinalDone}
use Rattle.tds_client.specs.declared.heard.FinalDone.TheVariants.{Awaited, Answered, Acknowledged}
use Rattle.tds_client.specs.declared.sign.DoneKind.TheVariants.{Statement, Procedure, InProcedure}
use Rattle.tds_client.specs.declared.sign.Rules.{Rules}
use Rattle.tds_client.specs.declared.sign.Rules.TheVariants.{Strict, Any}
use Rattle.tds_client.specs.declared.sign.Sign.{Sign}
use Rattle.tds_client.specs.declared.sign.Sign.TheVariants as signs
use Rattle.tds_client.specs.Acts.{changes_in, server_says, has_reset, begins_first}
use Rattle.tds_client.specs.Hearing.{◌>>=◌, hear_sign, strict_sign, strict_before, any_sign, hear_change, hear_done, place_change, place_done, change_placed, reset_told, is_full, descriptor_changed, with_done, done_behind, acknowledges_by, mark_after}
use Rattle.tds_client.specs.Machine.{signed_in, signed, with_heard, all_signed, Listens}
use Rattle.tds_client.specs.Marks.{mark_behind}
use Rattle.tds_client.specs.Session.{ClientSession, Stage, Idle, Sending, Reading, Cancelling, Broken}

abbrev Answer : Type 0
Answer = Result Heard ClientFault

abbrev heard_so : Heard → Answer
heard_so heard = Ok heard

heard_is : (x y : Heard) → heard_so x ≡ heard_so y → x ≡ y
heard_is x y e = cc

-- ---- One change

-- What the server says by one change.
abbrev pub said : Option Reset → ℕ → EnvChange → ℕ
said mark descriptor (Begin d) = d
said mark descriptor (Commit d) = 0
said mark descriptor (Rollback d) = 0
said mark descriptor ResetDone = reset_told mark descriptor

some_is : (x y : ℕ) → Some x ≡ Some y → x ≡ y
some_is x y e = cc

-- what is picked is this number
picked : (b : Bool) (x y : ℕ) → cond b (Some x) None ≡ Some y → y ≡ x
picked true x y e = sym (some_is x y e)
picked false x y e = absurd cc

picked_last : (a b : Bool) (x y : ℕ) → cond a None (cond b (Some x) None) ≡ Some y → y ≡ x
picked_last true b x y e = absurd cc
picked_last false b x y e = picked b x y e

reset_said : (mark : Option Reset) (descriptor y : ℕ) → reset_effect mark descriptor ≡ Some y → y ≡ reset_told mark descriptor
reset_said None descriptor y e = absurd cc
reset_said (Some Full) descriptor y e = sym (some_is 0 y e)
reset_said (Some KeepTransaction) descriptor y e = sym (some_is descriptor y e)

placed_said : (mark : Option Reset) (descriptor y : ℕ) (change : EnvChange) → change_placed mark descriptor change ≡ Some y → y ≡ said mark descriptor change
placed_said mark descriptor y (Begin d) e = picked_last ((d == 0) || is_full mark) ((descriptor == 0) || (descriptor == d)) d y e
placed_said mark descriptor y (Commit d) e = picked ((descriptor == 0) || (descriptor == d)) 0 y e
placed_said mark descriptor y (Rollback d) e = picked ((descriptor == 0) || (descriptor == d)) 0 y e
placed_said mark descriptor y ResetDone e = sym (some_is (reset_told mark descriptor) y e)

applied_said : (mark : Option Reset) (descriptor y : ℕ) (change : EnvChange) → change_applied (reset_effect mark) descriptor change ≡ Some y → y ≡ said mark descriptor change
applied_said mark descriptor y (Begin d) e = picked (descriptor == 0) d y e
applied_said mark descriptor y (Commit d) e = picked (descriptor == d) 0 y e
applied_said mark descriptor y (Rollback d) e = picked (descriptor == d) 0 y e
applied_said mark descriptor y ResetDone e = reset_said mark descriptor y e

-- ---- One sign

-- The change of a sign, if it tells one.
abbrev pub change_of : Sign → List EnvChange
change_of signs.Nothing = []
change_of (signs.Change change) = change ∷ []
change_of (signs.Done kind status) = []

-- What a sign leaves of the descriptor and the mark.
pub record Leaves (heard : Heard) (sign : Sign) (next : Heard) : Type 0 where
  pub descriptor : next.descriptor ≡ server_says heard.mark heard.descriptor (change_of sign)
  pub mark : next.mark ≡ mark_behind (change_of sign) heard.mark

one_says : (mark : Option Reset) (descriptor : ℕ) (change : EnvChange) → server_says mark descriptor (change ∷ []) ≡ said mark descriptor change
one_says mark descriptor (Begin d) = refl
one_says mark descriptor (Commit d) = refl
one_says mark descriptor (Rollback d) = refl
one_says mark descriptor ResetDone = refl

module _ (heard next : Heard) where
  as_before : (sign : Sign) (done : FinalDone) → change_of sign ≡ [] → with_done heard done ≡ next → Leaves heard sign next
  as_before sign done none e = subst (Leaves heard sign) e (record {
    descriptor = sym (ap (server_says heard.mark heard.descriptor) none);
    mark = sym (ap (λ (cs : List EnvChange). mark_behind cs heard.mark) none);
  })

  by_change : (change : EnvChange) (o : Option ℕ) → ((y : ℕ) → o ≡ Some y → y ≡ said heard.mark heard.descriptor change) → descriptor_changed heard change o ≡ Ok next → Leaves heard (signs.Change change) next
  by_change change None h e = absurd cc
  by_change change (Some d) h e = subst (Leaves heard (signs.Change change)) (heard_is _ next e) (record {
    descriptor = h d refl ∙ sym (one_says heard.mark heard.descriptor change);
    mark = refl;
  })

  by_done : (sign : Sign) (a m c : Bool) → change_of sign ≡ []
      → cond a (cond {A = Answer} c (Ok (with_done heard Acknowledged)) (Err faults.UnaskedAcknowledgement)) (cond {A = Answer} m (Ok heard) (Ok (with_done heard Answered))) ≡ Ok next
      → Leaves heard sign next
  by_done sign true m true none e = as_before sign Acknowledged none (heard_is _ next e)
  by_done sign true m false none e = absurd cc
  by_done sign false true c none e = as_before sign heard.done none (heard_is _ next e)
  by_done sign false false c none e = as_before sign Answered none (heard_is _ next e)

  by_any_done : (sign : Sign) (done : FinalDone) (a c : Bool) → change_of sign ≡ []
      → cond a (cond {A = Answer} c (Ok (with_done heard Acknowledged)) (Err faults.UnaskedAcknowledgement)) (Ok (with_done heard done)) ≡ Ok next
      → Leaves heard sign next
  by_any_done sign done true true none e = as_before sign Acknowledged none (heard_is _ next e)
  by_any_done sign done true false none e = absurd cc
  by_any_done sign done false c none e = as_before sign done none (heard_is _ next e)

  by_strict : (cancelling : Bool) (sign : Sign) → strict_sign cancelling heard sign ≡ Ok next → Leaves heard sign next
  unfolding hear_change hear_done
  by_strict cancelling signs.Nothing e = as_before signs.Nothing heard.done refl (heard_is heard next e)
  by_strict cancelling (signs.Change change) e = by_change change _ (λ y o. applied_said heard.mark heard.descriptor y change o) e
  by_strict cancelling (signs.Done Statement status) e = by_done (signs.Done Statement status) (has_bit status 0x20) (has_bit status 1) cancelling refl e
  by_strict cancelling (signs.Done Procedure status) e = absurd cc
  by_strict cancelling (signs.Done InProcedure status) e = absurd cc

  by_before : (cancelling : Bool) (sign : Sign) (done : FinalDone) → strict_before done cancelling heard sign ≡ Ok next → Leaves heard sign next
  by_before cancelling sign Awaited e = by_strict cancelling sign e
  by_before cancelling sign Answered e = absurd cc
  by_before cancelling sign Acknowledged e = absurd cc

  by_any : (cancelling : Bool) (sign : Sign) → any_sign cancelling heard sign ≡ Ok next → Leaves heard sign next
  unfolding place_change place_done
  by_any cancelling signs.Nothing e = as_before signs.Nothing heard.done refl (heard_is heard next e)
  by_any cancelling (signs.Change change) e = by_change change _ (λ y o. placed_said heard.mark heard.descriptor y change o) e
  by_any cancelling (signs.Done kind status) e = by_any_done (signs.Done kind status) (done_behind heard.done status) (acknowledges_by kind status) cancelling refl e

  by_sign : (rules : Rules) (cancelling : Bool) (sign : Sign) → hear_sign rules cancelling heard sign ≡ Ok next → Leaves heard sign next
  by_sign Strict cancelling sign e = by_before cancelling sign heard.done e
  by_sign Any cancelling sign e = by_any cancelling sign e

-- ---- A sign in any stage

abbrev signed_so : ClientSession → Result ClientSession ClientFault
signed_so s = Ok s

session_is : (x y : ClientSession) → signed_so x ≡ signed_so y → x ≡ y
session_is x y e = cc

-- what a sign that is heard leaves of a client
pub record Follows (s : ClientSession) (sign : Sign) (next : ClientSession) : Type 0 where
  pub heard : Leaves s.heard sign next.heard
  pub stage : next.stage ≡ s.stage

from_heard : (s next : ClientSession) (sign : Sign) (rules : Rules) (cancelling : Bool) (r : Answer) → hear_sign rules cancelling s.heard sign ≡ r → (r >>= λ heard. Ok (with_heard s heard)) ≡ Ok next
    → Follows s sign next
from_heard s next sign rules cancelling (Ok heard) said e =
    subst (Follows s sign) (session_is _ next e) (record { heard = by_sign s.heard heard rules cancelling sign said; stage = refl })
from_heard s next sign rules cancelling (Err fault) said e = absurd cc

follows_in : (s next : ClientSession) (sign : Sign) (rules : Rules) (stage : Stage) → signed_in rules stage s sign ≡ Ok next → Follows s sign next
follows_in s next sign rules Idle e = absurd cc
follows_in s next sign rules (Sending kind left packets) e = absurd cc
follows_in s next sign rules Reading e = from_heard s next sign rules false (hear_sign rules false s.heard sign) refl e
follows_in s next sign rules Cancelling e = from_heard s next sign rules true (hear_sign rules true s.heard sign) refl e
follows_in s next sign rules (Broken fault) e = absurd cc

pub follows : (s next : ClientSession) (sign : Sign) (rules : Rules) → signed rules s sign ≡ Ok next → Follows s sign next
follows s next sign rules e = follows_in s next sign rules s.stage e

-- ---- All signs

-- what all of them leave
pub record AllFollow (s : ClientSession) (ss : List Sign) (next : ClientSession) : Type 0 where
  pub descriptor : next.heard.descriptor ≡ server_says s.heard.mark s.heard.descriptor (changes_in ss)
  pub mark : next.heard.mark ≡ mark_behind (changes_in ss) s.heard.mark
  pub stage : next.stage ≡ s.stage

says_on : (mark : Option Reset) (descriptor : ℕ) (sign : Sign) (ss : List Sign)
    → server_says mark descriptor (changes_in (sign ∷ ss)) ≡ server_says (mark_behind (change_of sign) mark) (server_says mark descriptor (change_of sign)) (changes_in ss)
says_on mark descriptor signs.Nothing ss = refl
says_on mark descriptor (signs.Change (Begin d)) ss = refl
says_on mark descriptor (signs.Change (Commit d)) ss = refl
says_on mark descriptor (signs.Change (Rollback d)) ss = refl
says_on mark descriptor (signs.Change ResetDone) ss = refl
says_on mark descriptor (signs.Done kind status) ss = refl

marks_on : (mark : Option Reset) (sign : Sign) (ss : List Sign) → mark_behind (changes_in (sign ∷ ss)) mark ≡ mark_behind (changes_in ss) (mark_behind (change_of sign) mark)
marks_on mark signs.Nothing ss = refl
marks_on mark (signs.Change change) ss = refl
marks_on mark (signs.Done kind status) ss = refl

first_follows : (s middle next : ClientSession) (sign : Sign) (ss : List Sign) → Follows s sign middle → AllFollow middle ss next → AllFollow s (sign ∷ ss) next
first_follows s middle next sign ss f o = record {
  descriptor = o.descriptor
      ∙ (ap (λ (m : Option Reset). server_says m middle.heard.descriptor (changes_in ss)) f.heard.mark
      ∙ (ap (λ (d : ℕ). server_says (mark_behind (change_of sign) s.heard.mark) d (changes_in ss)) f.heard.descriptor ∙ sym (says_on s.heard.mark s.heard.descriptor sign ss)));
  mark = o.mark ∙ (ap (mark_behind (changes_in ss)) f.heard.mark ∙ sym (marks_on s.heard.mark sign ss));
  stage = o.stage ∙ f.stage;
}

on_first : (rules : Rules) (s next : ClientSession) (sign : Sign) (ss : List Sign) (r : Result ClientSession ClientFault) → signed rules s sign ≡ r → (r >>= λ middle. all_signed rules middle ss) ≡ Ok next
    → ((middle : ClientSession) → all_signed rules middle ss ≡ Ok next → AllFollow middle ss next) → AllFollow s (sign ∷ ss) next
on_first rules s next sign ss (Ok middle) said e others = first_follows s middle next sign ss (follows s middle sign rules said) (others middle e)
on_first rules s next sign ss (Err fault) said e others = absurd cc

pub all_follow : (rules : Rules) (s next : ClientSession) (ss : List Sign) → all_signed rules s ss ≡ Ok next → AllFollow s ss next
all_follow rules s next [] e = subst (AllFollow s []) (session_is s next e) (record { descriptor = refl; mark = refl; stage = refl })
all_follow rules s next (sign ∷ ss) e = on_first rules s next sign ss (signed rules s sign) refl e (λ middle said. all_follow rules middle next ss said)

-- The mark in plain words.
cleared : (cs : List EnvChange) → mark_behind cs None ≡ None
cleared [] = refl
cleared (Begin d ∷ cs) = cleared cs
cleared (Commit d ∷ cs) = cleared cs
cleared (Rollback d ∷ cs) = cleared cs
cleared (ResetDone ∷ cs) = cleared cs

cleared_by_reset : (cs : List EnvChange) (mark : Option Reset) → mark_behind cs mark ≡ (if has_reset cs then None else mark)
cleared_by_reset [] mark = refl
cleared_by_reset (Begin d ∷ cs) mark = cleared_by_reset cs mark
cleared_by_reset (Commit d ∷ cs) mark = cleared_by_reset cs mark
cleared_by_reset (Rollback d ∷ cs) mark = cleared_by_reset cs mark
cleared_by_reset (ResetDone ∷ cs) mark = cleared cs

pub mark_left : (rules : Rules) (s next : ClientSession) (ss : List Sign) → all_signed rules s ss ≡ Ok next → next.heard.mark ≡ (if has_reset (changes_in ss) then None else s.heard.mark)
mark_left rules s next ss e = (all_follow rules s next ss e).mark ∙ cleared_by_reset (changes_in ss) s.heard.mark

-- ---- No transaction begins before a full reset is done

abbrev Begins : EnvChange → List EnvChange → Bool
Begins change others = begins_first (change ∷ others)

full_begin : (heard next : Heard) (d : ℕ) → heard.mark ≡ Some Full → place_change heard (Begin d) ≡ Ok next → ⊥
unfolding place_change
full_begin heard next d full e = by_full heard.mark (d == 0) full e
  where
    by_full : (mark : Option Reset) (b : Bool) → mark ≡ Some Full → descriptor_changed heard (Begin d) (cond (b || is_full mark) None (cond ((heard.descriptor == 0) || (heard.descriptor == d)) (Some d) None)) ≡ Ok next → ⊥
    by_full None b f e = cc
    by_full (Some Full) true f e = cc
    by_full (Some Full) false f e = cc
    by_full (Some KeepTransaction) b f e = cc

-- One begin or end: there is no reset before it, or the list goes on.
abbrev KeepsFull : Heard → Type 0
KeepsFull heard = heard.mark ≡ Some Full

or_false : (a b : Bool) → a ≡ false → b ≡ false → (a || b) ≡ false
or_false true b x y = absurd cc
or_false false b x y = y

end_keeps : (heard next : Heard) (change : EnvChange) (o : Option ℕ) → mark_after change heard.mark ≡ heard.mark → descriptor_changed heard change o ≡ Ok next → next.mark ≡ heard.mark
end_keeps heard next change None same e = absurd cc
end_keeps heard next change (Some d) same e = sym (ap (λ (h : Heard). h.mark) (heard_is _ next e)) ∙ same

-- by any server's rules, before a full reset is told: a sign that leaves the mark is no begin
abbrev NoBegin : Sign → List Sign → Type 0
NoBegin sign ss = begins_first (changes_in ss) ≡ false → begins_first (changes_in (sign ∷ ss)) ≡ false

abbrev IsReset : Sign → Bool
IsReset signs.Nothing = false
IsReset (signs.Change (Begin d)) = false
IsReset (signs.Change (Commit d)) = false
IsReset (signs.Change (Rollback d)) = false
IsReset (signs.Change ResetDone) = true
IsReset (signs.Done kind status) = false

done_keeps : (heard next : Heard) (done : FinalDone) (a c : Bool)
    → cond a (cond {A = Answer} c (Ok (with_done heard Acknowledged)) (Err faults.UnaskedAcknowledgement)) (Ok (with_done heard done)) ≡ Ok next → next.mark ≡ heard.mark
done_keeps heard next done true true e = sym (ap (λ (h : Heard). h.mark) (heard_is _ next e))
done_keeps heard next done true false e = absurd cc
done_keeps heard next done false c e = sym (ap (λ (h : Heard). h.mark) (heard_is _ next e))

-- what a sign does before the reset is told: it ends the wait, or keeps the mark and is no begin
record Waits (sign : Sign) (next : Heard) : Type 0 where
  pub mark : next.mark ≡ Some Full
  pub no_begin : (ss : List Sign) → NoBegin sign ss

full_waits : (cancelling : Bool) (heard next : Heard) (sign : Sign) → heard.mark ≡ Some Full → IsReset sign ≡ false → any_sign cancelling heard sign ≡ Ok next → Waits sign next
unfolding place_done place_change
full_waits cancelling heard next signs.Nothing full other e =
    record { mark = sym (ap (λ (h : Heard). h.mark) (heard_is heard next e)) ∙ full; no_begin = λ ss h. h }
full_waits cancelling heard next (signs.Change (Begin d)) full other e = absurd (full_begin heard next d full e)
full_waits cancelling heard next (signs.Change (Commit d)) full other e = record { mark = ends e ∙ full; no_begin = λ ss h. h }
  where
    ends : place_change heard (Commit d) ≡ Ok next → next.mark ≡ heard.mark
    ends e = end_keeps heard next (Commit d) _ refl e
full_waits cancelling heard next (signs.Change (Rollback d)) full other e = record { mark = ends e ∙ full; no_begin = λ ss h. h }
  where
    ends : place_change heard (Rollback d) ≡ Ok next → next.mark ≡ heard.mark
    ends e = end_keeps heard next (Rollback d) _ refl e
full_waits cancelling heard next (signs.Change ResetDone) full other e = absurd cc
full_waits cancelling heard next (signs.Done kind status) full other e =
    record { mark = done_keeps heard next (done_behind heard.done status) (acknowledges_by kind status) cancelling e ∙ full; no_begin = λ ss h. h }

abbrev AnyFrom : Stage → ClientSession → Sign → Result ClientSession ClientFault
AnyFrom stage s sign = signed_in Any stage s sign

full_heard : (s next : ClientSession) (sign : Sign) (cancelling : Bool) (r : Answer) → any_sign cancelling s.heard sign ≡ r → (r >>= λ heard. Ok (with_heard s heard)) ≡ Ok next → s.heard.mark ≡ Some Full → IsReset sign ≡ false
    → Waits sign next.heard
full_heard s next sign cancelling (Ok heard) said e full other = subst (λ (x : ClientSession). Waits sign x.heard) (session_is _ next e) (full_waits cancelling s.heard heard sign full other said)
full_heard s next sign cancelling (Err fault) said e full other = absurd cc

full_signed : (s next : ClientSession) (sign : Sign) (stage : Stage) → signed_in Any stage s sign ≡ Ok next → s.heard.mark ≡ Some Full → IsReset sign ≡ false → Waits sign next.heard
full_signed s next sign Idle e full other = absurd cc
full_signed s next sign (Sending kind left packets) e full other = absurd cc
full_signed s next sign Reading e full other = full_heard s next sign false (any_sign false s.heard sign) refl e full other
full_signed s next sign Cancelling e full other = full_heard s next sign true (any_sign true s.heard sign) refl e full other
full_signed s next sign (Broken fault) e full other = absurd cc

reset_ends : (sign : Sign) (ss : List Sign) → IsReset sign ≡ true → begins_first (changes_in (sign ∷ ss)) ≡ false
reset_ends signs.Nothing ss e = absurd cc
reset_ends (signs.Change (Begin d)) ss e = absurd cc
reset_ends (signs.Change (Commit d)) ss e = absurd cc
reset_ends (signs.Change (Rollback d)) ss e = absurd cc
reset_ends (signs.Change ResetDone) ss e = refl
reset_ends (signs.Done kind status) ss e = absurd cc

first_waits : (s next : ClientSession) (sign : Sign) (ss : List Sign) (r : Result ClientSession ClientFault) (b : Bool) → IsReset sign ≡ b → signed Any s sign ≡ r
    → (r >>= λ middle. all_signed Any middle ss) ≡ Ok next → s.heard.mark ≡ Some Full
    → ((middle : ClientSession) → all_signed Any middle ss ≡ Ok next → middle.heard.mark ≡ Some Full → begins_first (changes_in ss) ≡ false) → begins_first (changes_in (sign ∷ ss)) ≡ false
first_waits s next sign ss r true is said e full others = reset_ends sign ss is
first_waits s next sign ss (Ok middle) false is said e full others =
    let w = full_signed s middle sign s.stage said full is in w.no_begin ss (others middle e w.mark)
first_waits s next sign ss (Err fault) false is said e full others = absurd cc

pub reset_first : (s next : ClientSession) (ss : List Sign) → s.heard.mark ≡ Some Full → all_signed Any s ss ≡ Ok next → begins_first (changes_in ss) ≡ false
reset_first s next [] full e = refl
reset_first s next (sign ∷ ss) full e =
    first_waits s next sign ss (signed Any s sign) (IsReset sign) refl refl e full (λ middle said mark. reset_first middle next ss mark said)

-- ---- What can't be placed

pub different : (x y : ℕ) → x ≢ y → (x == y) ≡ false
different x y h = by_test (x == y) refl
  where
    by_test : (b : Bool) → (x == y) ≡ b → b ≡ false
    by_test true e = absurd (h (eqb-true x y e))
    by_test false e = refl

begin_refused : (heard : Heard) (d : ℕ) → heard.descriptor ≢ 0 → heard.descriptor ≢ d → place_change heard (Begin d) ≡ Err faults.WrongEnvChange
unfolding place_change
begin_refused heard d none other =
    ap (λ (b : Bool). descriptor_changed heard (Begin d) (cond ((d == 0) || is_full heard.mark) None (cond b (Some d) None))) (or_false (heard.descriptor == 0) (heard.descriptor == d) (different _ _ none) (different _ _ other))
    ∙ either ((d == 0) || is_full heard.mark)
  where
    either : (b : Bool) → descriptor_changed heard (Begin d) (cond b None None) ≡ Err faults.WrongEnvChange
    either true = refl
    either false = refl

full_refused : (heard : Heard) (d : ℕ) → heard.mark ≡ Some Full → place_change heard (Begin d) ≡ Err faults.WrongEnvChange
unfolding place_change
full_refused heard d full =
    ap (λ (m : Option Reset). descriptor_changed heard (Begin d) (cond ((d == 0) || is_full m) None (cond ((heard.descriptor == 0) || (heard.descriptor == d)) (Some d) None))) full
    ∙ either (d == 0)
  where
    either : (b : Bool) → descriptor_changed heard (Begin d) (cond (b || true) None (cond ((heard.descriptor == 0) || (heard.descriptor == d)) (Some d) None)) ≡ Err faults.WrongEnvChange
    either true = refl
    either false = refl

commit_refused : (heard : Heard) (d : ℕ) → heard.descriptor ≢ 0 → heard.descriptor ≢ d → place_change heard (Commit d) ≡ Err faults.WrongEnvChange
unfolding place_change
commit_refused heard d none other =
    ap (λ (b : Bool). descriptor_changed heard (Commit d) (cond b (Some 0) None)) (or_false (heard.descriptor == 0) (heard.descriptor == d) (different _ _ none) (different _ _ other))

rollback_refused : (heard : Heard) (d : ℕ) → heard.descriptor ≢ 0 → heard.descriptor ≢ d → place_change heard (Rollback d) ≡ Err faults.WrongEnvChange
unfolding place_change
rollback_refused heard d none other =
    ap (λ (b : Bool). descriptor_changed heard (Rollback d) (cond b (Some 0) None)) (or_false (heard.descriptor == 0) (heard.descriptor == d) (different _ _ none) (different _ _ other))

refused_in : (s : ClientSession) (change : EnvChange) (stage : Stage) → Listens stage → place_change s.heard change ≡ Err faults.WrongEnvChange → signed_in Any stage s (signs.Change change) ≡ Err faults.WrongEnvChange
refused_in s change Idle l e = absurd l
refused_in s change (Sending kind left packets) l e = absurd l
refused_in s change Reading l e = ap (λ (r : Answer). r >>= λ heard. Ok (with_heard s heard)) e
refused_in s change Cancelling l e = ap (λ (r : Answer). r >>= λ heard. Ok (with_heard s heard)) e
refused_in s change (Broken fault) l e = absurd l

pub begin_elsewhere : (s : ClientSession) (d : ℕ) → Listens s.stage → s.heard.descriptor ≢ 0 → s.heard.descriptor ≢ d → signed Any s (signs.Change (Begin d)) ≡ Err faults.WrongEnvChange
begin_elsewhere s d l none other = refused_in s (Begin d) s.stage l (begin_refused s.heard d none other)

pub begin_too_early : (s : ClientSession) (d : ℕ) → Listens s.stage → s.heard.mark ≡ Some Full → signed Any s (signs.Change (Begin d)) ≡ Err faults.WrongEnvChange
begin_too_early s d l full = refused_in s (Begin d) s.stage l (full_refused s.heard d full)

pub commit_elsewhere : (s : ClientSession) (d : ℕ) → Listens s.stage → s.heard.descriptor ≢ 0 → s.heard.descriptor ≢ d → signed Any s (signs.Change (Commit d)) ≡ Err faults.WrongEnvChange
commit_elsewhere s d l none other = refused_in s (Commit d) s.stage l (commit_refused s.heard d none other)

pub rollback_elsewhere : (s : ClientSession) (d : ℕ) → Listens s.stage → s.heard.descriptor ≢ 0 → s.heard.descriptor ≢ d → signed Any s (signs.Change (Rollback d)) ≡ Err faults.WrongEnvChange
rollback_elsewhere s d l none other = refused_in s (Rollback d) s.stage l (rollback_refused s.heard d none other)
