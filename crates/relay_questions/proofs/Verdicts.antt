-- What comes of answers.
use Rattle.std.proofs.Common.{◌≡◌, ◌∙◌, ℕ, zero, suc, Bool, true, false, cond, List, [], ◌∷◌, ◌++◌, length, map, take, refl, sym, ap}
use Rattle.std.proofs.lemmas.Bool.{false≢true, true≢false}
use Rattle.relay_questions.specs.declared.asking.Answer.{Answer}
use Rattle.relay_questions.specs.declared.asking.Answer.TheVariants.{Rests, Holds, Unread}
use Rattle.relay_questions.specs.declared.asking.Found.{Found}
use Rattle.relay_questions.specs.declared.asking.Found.TheVariants.{More, Tells, Otherwise}
use Rattle.relay_questions.specs.declared.step.Question.{Question}
use Rattle.relay_questions.specs.declared.step.Step.{Step}
use Rattle.relay_questions.specs.Steps.{IsOtherwise, is_right, is_right_if, must_rest, question_of, right_answer, steps_left, verdict}

-- ---- An answer

right_if : (m : Bool) (a : Answer) → is_right_if m a ≡ true → a ≡ cond m Rests Holds
right_if true Rests h = refl
right_if true Holds h = absurd (false≢true h)
right_if true Unread h = absurd (false≢true h)
right_if false Rests h = absurd (false≢true h)
right_if false Holds h = refl
right_if false Unread h = absurd (false≢true h)

is_right_answer : (m : Bool) → is_right_if m (cond m Rests Holds) ≡ true
is_right_answer true = refl
is_right_answer false = refl

-- ---- A verdict

abbrev is_tells : Found → Bool
is_tells More = false
is_tells Tells = true
is_tells (Otherwise question) = false

abbrev is_more : Found → Bool
is_more More = true
is_more Tells = false
is_more (Otherwise question) = false

abbrev is_otherwise : Found → Bool
is_otherwise More = false
is_otherwise Tells = false
is_otherwise (Otherwise question) = true

abbrev asked_in : Question → Found → Question
asked_in other More = other
asked_in other Tells = other
asked_in other (Otherwise question) = question

verdict_by : (s : Step) (ss : List Step) (a : Answer) (bs : List Answer) (b : Bool) → is_right s a ≡ b
    → verdict (s ∷ ss) (a ∷ bs) ≡ cond b (verdict ss bs) (Otherwise (question_of s))
unfolding verdict
verdict_by s ss a bs b e = ap (λ (c : Bool). cond c (verdict ss bs) (Otherwise (question_of s))) e

left_by : (s : Step) (ss : List Step) (a : Answer) (bs : List Answer) (b : Bool) → is_right s a ≡ b
    → steps_left (s ∷ ss) (a ∷ bs) ≡ cond b (steps_left ss bs) (s ∷ ss)
unfolding steps_left
left_by s ss a bs b e = ap (λ (c : Bool). cond c (steps_left ss bs) (s ∷ ss)) e

-- ---- It tells all exactly where each answer is bs it must be

tells_step : (s : Step) (ss : List Step) (a : Answer) (bs : List Answer) (b : Bool) → is_right s a ≡ b
    → (verdict ss bs ≡ Tells → take (length ss) bs ≡ map right_answer ss)
    → cond b (verdict ss bs) (Otherwise (question_of s)) ≡ Tells → a ∷ take (length ss) bs ≡ right_answer s ∷ map right_answer ss
tells_step s ss a bs true e others h =
    ap (λ (first : Answer). first ∷ take (length ss) bs) (right_if (must_rest s) a e)
    ∙ ap (λ (rest : List Answer). right_answer s ∷ rest) (others h)
tells_step s ss a bs false e others h = absurd (false≢true (ap is_tells h))

pub tells_only : (ss : List Step) (bs : List Answer) → verdict ss bs ≡ Tells → take (length ss) bs ≡ map right_answer ss
unfolding verdict
tells_only [] bs h = refl
tells_only (s ∷ ss) [] h = absurd (false≢true (ap is_tells h))
tells_only (s ∷ ss) (a ∷ bs) h = tells_step s ss a bs (is_right s a) refl (tells_only ss bs) h

abbrev is_empty : List Answer → Bool
is_empty [] = true
is_empty (a ∷ bs) = false

abbrev first_in : Answer → List Answer → Answer
first_in other [] = other
first_in other (a ∷ bs) = a

abbrev behind_first : List Answer → List Answer
behind_first [] = []
behind_first (a ∷ bs) = bs

take_of_none : (n : ℕ) → is_empty (take n []) ≡ true
take_of_none zero = refl
take_of_none (suc n) = refl

pub tells_all : (ss : List Step) (bs : List Answer) → take (length ss) bs ≡ map right_answer ss → verdict ss bs ≡ Tells
unfolding verdict
tells_all [] bs h = refl
tells_all (s ∷ ss) [] h = absurd (true≢false (sym (take_of_none (length (s ∷ ss))) ∙ ap is_empty h))
tells_all (s ∷ ss) (a ∷ bs) h =
    verdict_by s ss a bs true (ap (is_right s) (ap (first_in a) h) ∙ is_right_answer (must_rest s)) ∙ tells_all ss bs (ap behind_first h)

-- ---- Or it is found otherwise by the first answer that isn't

otherwise_step : (s : Step) (ss : List Step) (a : Answer) (bs : List Answer) (q : Question) (b : Bool) → is_right s a ≡ b
    → (verdict ss bs ≡ Otherwise q → IsOtherwise q ss bs)
    → cond b (verdict ss bs) (Otherwise (question_of s)) ≡ Otherwise q → IsOtherwise q (s ∷ ss) (a ∷ bs)
otherwise_step s ss a bs q true e others h =
    let o = others h in
    record {
      before = s ∷ o.before;
      step = o.step;
      behind = o.behind;
      answer = o.answer;
      more = o.more;
      asked = ap (λ (rest : List Step). s ∷ rest) o.asked;
      answered = ap (λ (first : Answer). first ∷ bs) (right_if (must_rest s) a e) ∙ ap (λ (rest : List Answer). right_answer s ∷ rest) o.answered;
      wrong = o.wrong;
      is = o.is;
    }
otherwise_step s ss a bs q false e others h =
    record { before = []; step = s; behind = ss; answer = a; more = bs; asked = refl; answered = refl; wrong = e; is = ap (asked_in q) h }

pub otherwise_only : (ss : List Step) (bs : List Answer) (q : Question) → verdict ss bs ≡ Otherwise q → IsOtherwise q ss bs
unfolding verdict
otherwise_only [] bs q h = absurd (false≢true (ap is_otherwise h))
otherwise_only (s ∷ ss) [] q h = absurd (false≢true (ap is_otherwise h))
otherwise_only (s ∷ ss) (a ∷ bs) q h = otherwise_step s ss a bs q (is_right s a) refl (otherwise_only ss bs q) h

wrong_behind : (before : List Step) (s : Step) (behind : List Step) (a : Answer) (more : List Answer) → is_right s a ≡ false
    → verdict (before ++ s ∷ behind) (map right_answer before ++ a ∷ more) ≡ Otherwise (question_of s)
wrong_behind [] s behind a more e = verdict_by s behind a more false e
wrong_behind (b ∷ before) s behind a more e =
    verdict_by b (before ++ s ∷ behind) (right_answer b) (map right_answer before ++ a ∷ more) true (is_right_answer (must_rest b))
    ∙ wrong_behind before s behind a more e

pub otherwise_all : (ss : List Step) (bs : List Answer) (q : Question) → IsOtherwise q ss bs → verdict ss bs ≡ Otherwise q
otherwise_all ss bs q o =
    ap (λ (steps : List Step). verdict steps bs) o.asked
    ∙ ap (λ (answers : List Answer). verdict (o.before ++ o.step ∷ o.behind) answers) o.answered
    ∙ wrong_behind o.before o.step o.behind o.answer o.more o.wrong
    ∙ ap Otherwise o.is

-- ---- One by one, or all at once

on_step : (s : Step) (ss : List Step) (a : Answer) (bs behind : List Answer) (b : Bool) → is_right s a ≡ b
    → (verdict ss bs ≡ More → verdict ss (bs ++ behind) ≡ verdict (steps_left ss bs) behind)
    → cond b (verdict ss bs) (Otherwise (question_of s)) ≡ More
    → verdict (s ∷ ss) (a ∷ (bs ++ behind)) ≡ verdict (steps_left (s ∷ ss) (a ∷ bs)) behind
on_step s ss a bs behind true e others h =
    verdict_by s ss a (bs ++ behind) true e ∙ others h ∙ ap (λ (left : List Step). verdict left behind) (sym (left_by s ss a bs true e))
on_step s ss a bs behind false e others h = absurd (false≢true (ap is_more h))

pub found_on : (ss : List Step) (bs behind : List Answer) → verdict ss bs ≡ More → verdict ss (bs ++ behind) ≡ verdict (steps_left ss bs) behind
unfolding verdict steps_left
found_on [] bs behind h = absurd (false≢true (ap is_more h))
found_on (s ∷ ss) [] behind h = refl
found_on (s ∷ ss) (a ∷ bs) behind h = on_step s ss a bs behind (is_right s a) refl (found_on ss bs behind) h

left_step : (s : Step) (ss : List Step) (a : Answer) (bs behind : List Answer) (b : Bool) → is_right s a ≡ b
    → (verdict ss bs ≡ More → steps_left ss (bs ++ behind) ≡ steps_left (steps_left ss bs) behind)
    → cond b (verdict ss bs) (Otherwise (question_of s)) ≡ More
    → steps_left (s ∷ ss) (a ∷ (bs ++ behind)) ≡ steps_left (steps_left (s ∷ ss) (a ∷ bs)) behind
left_step s ss a bs behind true e others h =
    left_by s ss a (bs ++ behind) true e ∙ others h ∙ ap (λ (left : List Step). steps_left left behind) (sym (left_by s ss a bs true e))
left_step s ss a bs behind false e others h = absurd (false≢true (ap is_more h))

pub left_on : (ss : List Step) (bs behind : List Answer) → verdict ss bs ≡ More
    → steps_left ss (bs ++ behind) ≡ steps_left (steps_left ss bs) behind
unfolding verdict steps_left
left_on [] bs behind h = absurd (false≢true (ap is_more h))
left_on (s ∷ ss) [] behind h = refl
left_on (s ∷ ss) (a ∷ bs) behind h = left_step s ss a bs behind (is_right s a) refl (left_on ss bs behind) h
