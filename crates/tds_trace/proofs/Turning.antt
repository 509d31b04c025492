-- The calls at a carrier, event by event: one call more, one event more.
use Rattle.std.proofs.Common.{◌≡◌, ◌==◌, ℕ, List, [], ◌∷◌, ◌++◌, if◌then◌else◌, Option, Some, None, inl, inr, refl, sym, ap, subst, ◌∙◌, append-nil, append_assoc}
use Rattle.std.proofs.lemmas.Bool.{eq-eqb}
use Rattle.std.proofs.lemmas.Bool.Decides.{eqb_tells}
use Rattle.std.proofs.lemmas.List.Sums.{fold-append}
use Rattle.std.proofs.lemmas.Option.{none-some, same_Some}
use Rattle.std.specs.List.{AllByRecursion}
use Rattle.tds_play.specs.Calls.{next_there}
use Rattle.tds_play.specs.Pipe.{BegunEvent, Changes, Pipe, newest_of, since}
use Rattle.tds_trace.specs.Turns.{AreCallsSince, IsRecordOf, MayAllBe, MayBe, left_of, made_on, newest}
use Rattle.tds_trace.specs.declared.call.Call.{Call}

-- ---- A call more

left_more : (calls : List Call) (call : Call) (n : ℕ) (p : Option Pipe)
    → left_of (calls ++ call ∷ []) n p ≡ (if call.conn == n then made_on call.made call.failed (left_of calls n p) else left_of calls n p)
left_more calls call n p = fold-append _ p calls (call ∷ [])

left_then : (calls : List Call) (call : Call) (old new first : ℕ → Option Pipe)
    → Changes old new call.conn (made_on call.made call.failed (old call.conn))
    → ((n : ℕ) → old n ≡ left_of calls n (first n)) → (n : ℕ) → new n ≡ left_of (calls ++ call ∷ []) n (first n)
left_then calls call old new first changes was n =
    elim (eqb_tells call.conn n) [
      | inl same ↦
          subst (λ (m : ℕ). new m ≡ left_of (calls ++ call ∷ []) m (first m)) same.1
          (changes.here ∙ (ap (made_on call.made call.failed) (was call.conn)
          ∙ sym (left_more calls call call.conn (first call.conn) ∙ rw (eq-eqb call.conn call.conn refl) refl)))
      | inr other ↦
          changes.others n (λ e. other.1 (sym e)) ∙ (was n ∙ sym (left_more calls call n (first n) ∙ rw other.0 refl))
    ]

all_more : (P : Call → Type 0) (calls : List Call) (call : Call) → AllByRecursion P calls → P call → AllByRecursion P (calls ++ call ∷ [])
all_more P [] call all it = (it, tt)
all_more P (c ∷ cs) call all it = (all.0, all_more P cs call all.1 it)

may_more : (front calls : List Call) (call : Call) (before : ℕ → Option Pipe) → MayAllBe front calls before
    → MayBe call.made call.failed (before call.conn) (left_of (front ++ calls) call.conn (before call.conn))
    → MayAllBe front (calls ++ call ∷ []) before
may_more front [] call before all may =
    (subst (λ (cs : List Call). MayBe call.made call.failed (before call.conn) (left_of cs call.conn (before call.conn))) (append-nil front) may, tt)
may_more front (c ∷ cs) call before all may = (
  all.0,
  may_more (front ++ c ∷ []) cs call before all.1
      (subst (λ (xs : List Call). MayBe call.made call.failed (before call.conn) (left_of xs call.conn (before call.conn)))
      (sym (append_assoc front (c ∷ []) cs)) may),
)

-- A call in the newest event.
pub called_more : (b : BegunEvent) (bs : List BegunEvent) (old new : ℕ → Option Pipe) (calls : List Call) (call : Call)
    → newest bs (Some b.event) ≡ Some call.event
    → Changes old new call.conn (made_on call.made call.failed (old call.conn))
    → MayBe call.made call.failed (newest_of b.pipes bs call.conn) (old call.conn)
    → AreCallsSince (b ∷ bs) old calls → AreCallsSince (b ∷ bs) new (calls ++ call ∷ [])
called_more b [] old new calls call now changes may (own, later, is, in', left, none) = (
  own ++ call ∷ [],
  [],
  ap (λ (xs : List Call). xs ++ call ∷ []) (is ∙ ap (λ (xs : List Call). own ++ xs) none ∙ append-nil own) ∙ sym (append-nil (own ++ call ∷ [])),
  record {
    numbered = all_more (λ (c : Call). c.event ≡ b.event) own call in'.numbered (sym (same_Some b.event call.event now));
    may = may_more [] own call b.pipes in'.may
        (subst (λ (p : Option Pipe). MayBe call.made call.failed (b.pipes call.conn) p) (left call.conn) may);
  },
  left_then own call old new b.pipes changes left,
  refl,
)
called_more b (b₂ ∷ bs) old new calls call now changes may (own, later, is, in', left, rest) = (
  own,
  later ++ call ∷ [],
  ap (λ (xs : List Call). xs ++ call ∷ []) is ∙ append_assoc own later (call ∷ []),
  in',
  left,
  called_more b₂ bs old new later call now changes may rest,
)

-- ---- An event more

newest_more : (bs : List BegunEvent) (o : Option ℕ) (b : BegunEvent) → newest (bs ++ b ∷ []) o ≡ Some b.event
newest_more [] o b = refl
newest_more (c ∷ cs) o b = newest_more cs (Some c.event) b

begins_more : (bs : List BegunEvent) (b : BegunEvent) (old new : ℕ → Option Pipe) (n : ℕ) → b.pipes ≡ old
    → next_there (bs ++ b ∷ []) new n ≡ next_there bs old n
begins_more [] b old new n is = ap (λ (f : ℕ → Option Pipe). f n) is
begins_more (c ∷ cs) b old new n is = refl

told_more : (bs : List BegunEvent) (b : BegunEvent) (old new : ℕ → Option Pipe) (calls : List Call) → b.pipes ≡ old → new ≡ old
    → AreCallsSince bs old calls → AreCallsSince (bs ++ b ∷ []) new calls
told_more [] b old new calls is still none =
    ([], [], none, record { numbered = tt; may = tt }, λ n. ap (λ (f : ℕ → Option Pipe). f n) (still ∙ sym is), refl)
told_more (c ∷ cs) b old new calls is still (own, later, parts, in', left, rest) =
    (own, later, parts, in', λ n. begins_more cs b old new n is ∙ left n, told_more cs b old new later is still rest)

-- ---- The record of a carrier's calls

pub told_event : (event : Option ℕ) (calls : List Call) (before after : List BegunEvent) (pipes next : ℕ → Option Pipe) (b : BegunEvent)
    → b.pipes ≡ pipes → next ≡ pipes → after ≡ before ++ b ∷ []
    → IsRecordOf event calls before pipes → IsRecordOf (Some b.event) calls after next
told_event event calls before after pipes next b is still more was =
    subst (λ (bs : List BegunEvent). IsRecordOf (Some b.event) calls bs next) (sym more) (record {
      now = sym (newest_more before None b);
      begins = λ n. begins_more before b pipes next n is ∙ was.begins n;
      each = told_more before b pipes next calls is still was.each;
    })

-- The same, of what a carrier kept of the event.
pub told_one_more : (event : Option ℕ) (number : ℕ) (calls : List Call) (before after : List BegunEvent) (pipes : ℕ → Option Pipe) (b : BegunEvent)
    → b.event ≡ number → b.pipes ≡ pipes → after ≡ before ++ b ∷ []
    → IsRecordOf event calls before pipes → IsRecordOf (Some number) calls after pipes
told_one_more event number calls before after pipes b at is more was =
    subst (λ (n : ℕ). IsRecordOf (Some n) calls after pipes) at (told_event event calls before after pipes pipes b is refl more was)

-- One call more, by what was told.
called_with : (told : List BegunEvent) (call : Call) (calls : List Call) (pipes next : ℕ → Option Pipe)
    → Changes pipes next call.conn (made_on call.made call.failed (pipes call.conn))
    → MayBe call.made call.failed (since told call.conn) (pipes call.conn)
    → IsRecordOf (Some call.event) calls told pipes → IsRecordOf (Some call.event) (calls ++ call ∷ []) told next
called_with [] call calls pipes next changes may was = absurd (none-some call.event (sym was.now))
called_with (b ∷ bs) call calls pipes next changes may was = record {
  now = was.now;
  begins = was.begins;
  each = called_more b bs pipes next calls call (sym was.now) changes may was.each;
}

pub called : (call : Call) (calls : List Call) (before after : List BegunEvent) (pipes next : ℕ → Option Pipe)
    → Changes pipes next call.conn (made_on call.made call.failed (pipes call.conn))
    → MayBe call.made call.failed (since before call.conn) (pipes call.conn) → after ≡ before
    → IsRecordOf (Some call.event) calls before pipes → IsRecordOf (Some call.event) (calls ++ call ∷ []) after next
called call calls before after pipes next changes may same was =
    subst (λ (bs : List BegunEvent). IsRecordOf (Some call.event) (calls ++ call ∷ []) bs next) (sym same)
    (called_with before call calls pipes next changes may was)
