-- What is known of the messages that come on connections, behind what is done on one.
use Rattle.std.proofs.Common.{◌≡◌, ◌∙◌, ◌==◌, ◌++◌, not, ℕ, Bool, true, false, List, [], ◌∷◌, Option, Some, None, refl, sym, ap, subst, option_map, slice_index_or, slice_set, if◌then◌else◌}
use Rattle.std.specs.Prelude.{IfSome, Result, Ok, Err, OnOk}
use Rattle.std.proofs.lemmas.Bool.{eqb-true}
use Rattle.tds_relay.specs.Cutting.{at_its_beginning}
use Rattle.tds_wire.specs.declared.features.Features.{Features}
use Rattle.tds_relay.specs.Lent.{BeginsOn, IsMade, IsMadeOn, KeepsAnswers}
use Rattle.tds_relay.specs.declared.link.Answer.{Answer}
use Rattle.tds_relay.specs.declared.link.Link.{Link}
use Rattle.tds_relay.specs.Reads.{StaysAt, answer_at, answer_on, link_at, without_link}
use Rattle.tds_relay.proofs.spared.Sending.{taken_link, written_as}
use Rattle.tds_relay.proofs.steps.Staying.{at_refl}

pub at_next : {A : Type 0} (o p q : Option A) → StaysAt o p → StaysAt p q → StaysAt o q
at_next o p None h k = tt
at_next {A} o p (Some r) h k = subst (λ (x : Option A). StaysAt o x) k h

pub answers_refl : (ls : List Link) → KeepsAnswers ls ls
answers_refl ls = record { keeps = λ n. at_refl (answer_at n ls) }

pub answers_same : (ls ms : List Link) → ms ≡ ls → KeepsAnswers ls ms
answers_same ls ms e = subst (λ (xs : List Link). KeepsAnswers ls xs) (sym e) (answers_refl ls)

pub answers_both : (ls ms ns : List Link) → KeepsAnswers ls ms → KeepsAnswers ms ns → KeepsAnswers ls ns
answers_both ls ms ns h k = record { keeps = λ n. at_next (answer_at n ls) (answer_at n ms) (answer_at n ns) (h.keeps n) (k.keeps n) }

pub answers_on : {A E : Type 0} (r : Result A E) (ls ms ns : List Link) → KeepsAnswers ls ms → OnOk r (KeepsAnswers ms ns) → OnOk r (KeepsAnswers ls ns)
answers_on (Ok x) ls ms ns h k = answers_both ls ms ns h k
answers_on (Err e) ls ms ns h k = tt

pub answers_from : {A E : Type 0} (r : Result A E) (ls ms ns : List Link) → ms ≡ ls → OnOk r (KeepsAnswers ms ns) → OnOk r (KeepsAnswers ls ns)
answers_from r ls ms ns e h = subst (λ (xs : List Link). OnOk r (KeepsAnswers xs ns)) e h

pub answers_behind : (ls ms ns : List Link) → ms ≡ ls → KeepsAnswers ms ns → KeepsAnswers ls ns
answers_behind ls ms ns e h = subst (λ (xs : List Link). KeepsAnswers xs ns) e h

pub answers_then : {A E : Type 0} (r : Result A E) (ls ms ns : List Link) → KeepsAnswers ls ms → OnOk r (ns ≡ ms) → OnOk r (KeepsAnswers ls ns)
answers_then (Ok x) ls ms ns h e = subst (λ (xs : List Link). KeepsAnswers ls xs) (sym e) h
answers_then (Err x) ls ms ns h e = tt

pub answers_unchanged : {A E : Type 0} (r : Result A E) (ls ms : List Link) → OnOk r (ms ≡ ls) → OnOk r (KeepsAnswers ls ms)
answers_unchanged r ls ms e = answers_then r ls ls ms (answers_refl ls) e

-- ---- One is written back, or taken out

pub answers_written : (ls : List Link) (i : ℕ) (d m : Link) → m.number ≡ (slice_index_or ls i d).number → m.answer ≡ (slice_index_or ls i d).answer → KeepsAnswers ls (slice_set ls i m)
answers_written ls i d m number same = record {
  keeps = λ n. subst (λ (o : Option Answer). StaysAt o (answer_at n (slice_set ls i m))) (written_as answer_on ls i d m number same n) (at_refl (answer_at n (slice_set ls i m)));
}

choose : (b c : Bool) (x : Link) (o p : Option Link) → StaysAt (option_map answer_on o) (option_map answer_on p) → (b ≡ true → c ≡ true → option_map answer_on p ≡ None)
    → StaysAt (option_map answer_on (if c then Some x else o)) (option_map answer_on (if not b then (if c then Some x else p) else p))
choose true true x o p rest gone = subst (λ (q : Option Answer). StaysAt (Some (answer_on x)) q) (sym (gone refl refl)) tt
choose true false x o p rest gone = rest
choose false true x o p rest gone = refl
choose false false x o p rest gone = rest

link_by : (b : Bool) (n : ℕ) (x : Link) (xs : List Link) → link_at n (if b then x ∷ xs else xs) ≡ (if b then (if x.number == n then Some x else link_at n xs) else link_at n xs)
link_by true n x xs = refl
link_by false n x xs = refl

own : (n number k : ℕ) → (k == number) ≡ true → (k == n) ≡ true → number ≡ n
own n number k e f = sym (eqb-true k number e) ∙ eqb-true k n f

without_at : (number : ℕ) (ls : List Link) (n : ℕ) → StaysAt (answer_at n ls) (answer_at n (without_link number ls))
without_at number [] n = tt
without_at number (x ∷ xs) n =
    subst (λ (o : Option Link). StaysAt (answer_at n (x ∷ xs)) (option_map answer_on o)) (sym (link_by (not (x.number == number)) n x (without_link number xs)))
    (choose (x.number == number) (x.number == n) x (link_at n xs) (link_at n (without_link number xs)) (without_at number xs n)
    (λ e f. subst (λ (k : ℕ). answer_at k (without_link number xs) ≡ None) (own n number x.number e f) (ap (option_map answer_on) (taken_link number xs))))

pub answers_without : (number : ℕ) (ls ms : List Link) → ms ≡ without_link number ls → KeepsAnswers ls ms
answers_without number ls ms e = subst (λ (xs : List Link). KeepsAnswers ls xs) (sym e) (record { keeps = without_at number ls })

-- ---- One is lent

begins_by : (o p q : Option Answer) → p ≡ option_map at_its_beginning o → StaysAt p q → StaysAt (option_map at_its_beginning o) q
begins_by o p q is h = subst (λ (x : Option Answer). StaysAt x q) is h

pub begins_on : {A E : Type 0} (r : Result A E) (number : ℕ) (ls ms ns : List Link) → answer_at number ms ≡ option_map at_its_beginning (answer_at number ls) → OnOk r (KeepsAnswers ms ns) → OnOk r (BeginsOn number ls ns)
begins_on (Ok x) number ls ms ns is h = begins_by (answer_at number ls) (answer_at number ms) (answer_at number ns) is (h.keeps number)
begins_on (Err e) number ls ms ns is h = tt

pushed_if : (b : Bool) (size : ℕ) (features : Features) (l : Link) → IsMade size features l → IfSome (if b then Some l else None) (IsMade size features)
pushed_if true size features l is = is
pushed_if false size features l is = tt

pushed_by : (b : Bool) (size : ℕ) (features : Features) (number : ℕ) (x : Link) (xs : List Link) (o : Option Link) → (if b then Some x else link_at number xs) ≡ None
    → (link_at number xs ≡ None → IfSome o (IsMade size features)) → IfSome (if b then Some x else o) (IsMade size features)
pushed_by true size features number x xs o none later = absurd (let u : Some x ≡ None = none in let v : ⊥ = cc in v)
pushed_by false size features number x xs o none later = later none

pub pushed_made : (size : ℕ) (features : Features) (number : ℕ) (ls : List Link) (l : Link) → link_at number ls ≡ None → IsMade size features l → IsMadeOn size features number (ls ++ l ∷ [])
pushed_made size features number [] l none is = pushed_if (l.number == number) size features l is
pushed_made size features number (x ∷ xs) l none is = pushed_by (x.number == number) size features number x xs (link_at number (xs ++ l ∷ [])) none (λ e. pushed_made size features number xs l e is)
