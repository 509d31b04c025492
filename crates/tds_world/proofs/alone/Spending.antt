-- A server with the batch language uses at most one descriptor a step, and answers in few steps.
use Rattle.std.proofs.Common.{◌≡◌, ◌≤◌, ◌+◌, ℕ, suc, List, [], ◌∷◌, map, length, Bool, true, false, eqb, refl, sym, ap, subst, ◌∙◌, arith, Option, Some, None}
use Rattle.std.proofs.lemmas.List.{length-map}
use Rattle.tds_request.specs.declared.request.Request.{Request}
use Rattle.tds_request.specs.declared.request.Request.TheVariants as request
use Rattle.tds_request.specs.Layout.{Fits}
use Rattle.tds_session.specs.Answer as answer
use Rattle.tds_session.specs.Answer.{script_answers, steps_of, steps_in, batch_steps, and_then, final_step, last_step}
use Rattle.tds_session.specs.Effects.{Effect, has_error, begins, begin_by, ends, end_by, told_by, renew_by, completes}
use Rattle.tds_session.specs.Language.{statements_of, statement_of, each_of, with_first}
use Rattle.tds_session.specs.Script.{step_of}
use Rattle.tds_session.specs.Session.{SessionState, last_descriptor}
use Rattle.tds_session.specs.Words.{pieces, piece_on}
use Rattle.tds_session.specs.declared.statement.Statement.{Statement}
use Rattle.tds_session.specs.declared.statement.Statement.TheVariants as statement
use Rattle.tds_session.specs.declared.transaction.Ending.{Ending}
use Rattle.tds_session.specs.declared.transaction.Ending.TheVariants as ending
use Rattle.tds_token.specs.declared.env_change.EnvChange.{EnvChange}
use Rattle.tds_token.specs.declared.env_change.EnvChange.TheVariants as change
use Rattle.tds_world.specs.limits.Descriptors.{UseOneEach, UseFewDescriptors, most_steps}
use Rattle.tds_world.proofs.alone.Blind.{own_is}

-- ---- One descriptor a step, at most

-- An effect uses one descriptor at most.
pub record UsesOne (s : SessionState) (after : SessionState) : Type 0 where
  pub next : s.next_descriptor ≤ after.next_descriptor
  pub most : after.next_descriptor ≤ suc s.next_descriptor

uses_none : (s t : SessionState) → t.next_descriptor ≡ s.next_descriptor → UsesOne s t
uses_none s t e = record { next = omega arith; most = omega arith }

begin_uses : (b u : Bool) (s : SessionState) → UsesOne s (begin_by b u s).after
begin_uses false u s = uses_none s s refl
begin_uses true true s = uses_none s s refl
begin_uses true false s = record { next = (let z : s.next_descriptor ≤ s.next_descriptor + 1 = omega arith in z); most = (let z : s.next_descriptor + 1 ≤ suc s.next_descriptor = omega arith in z) }

begins_use : (s : SessionState) → UsesOne s (begins s).after
begins_use s = begin_uses (eqb s.descriptor 0) (eqb s.next_descriptor last_descriptor) s

end_uses : (b : Bool) (x : ℕ → EnvChange) (s : SessionState) → UsesOne s (end_by b x s).after
end_uses true x s = uses_none s s refl
end_uses false x s = uses_none s _ refl

ends_use : (x : ℕ → EnvChange) (s : SessionState) → UsesOne s (ends x s).after
ends_use x s = end_uses (eqb s.descriptor 0) x s

renewal_uses : (b u : Bool) (how : Ending) (s : SessionState) → UsesOne s (renew_by b u how s).after
renewal_uses true u how s = uses_none s s refl
renewal_uses false true how s = uses_none s s refl
renewal_uses false false how s = record { next = (let z : s.next_descriptor ≤ s.next_descriptor + 1 = omega arith in z); most = (let z : s.next_descriptor + 1 ≤ suc s.next_descriptor = omega arith in z) }

completes_use : (how : Ending) (anew : Option ℕ) (s : SessionState) → UsesOne s (completes how anew s).after
completes_use how None s = ends_use (told_by how) s
completes_use how (Some isolation) s = renewal_uses (eqb s.descriptor 0) (eqb s.next_descriptor last_descriptor) how s

statement_uses : (s : SessionState) (q : Statement) → UsesOne s (step_of s q).after
statement_uses s (statement.Set key value) = uses_none s _ refl
statement_uses s statement.Begin = begins_use s
statement_uses s statement.Commit = ends_use change.Commit s
statement_uses s statement.Rollback = ends_use change.Rollback s
statement_uses s q = uses_none s s refl

final_uses : (status : ℕ) (s : SessionState) → UseOneEach s (final_step status s ∷ [])
final_uses status s = (omega arith, omega arith, tt)

then_use : (b : Bool) (s : SessionState) (e : Effect) (ss : List answer.Step) → UsesOne s e.after → UseOneEach e.after ss → UseOneEach s (and_then b e ss)
then_use true s e ss h k = (h.next, h.most, final_uses 2 e.after)
then_use false s e ss h k = (h.next, h.most, k)

batch_uses : (qs : List Statement) (s : SessionState) → UseOneEach s (batch_steps step_of s qs)
batch_uses [] s = final_uses 0 s
batch_uses (q ∷ qs) s = then_use (has_error (step_of s q)) s (step_of s q) _ (statement_uses s q) (batch_uses qs (step_of s q).after)

in_uses : (o : Option (List Statement)) (s : SessionState) → UseOneEach s (steps_in step_of s o)
in_uses None s = (omega arith, omega arith, final_uses 2 s)
in_uses (Some qs) s = batch_uses qs s

one_uses : (s : SessionState) (e : Effect) → UsesOne s e.after → UseOneEach s (last_step e ∷ [])
one_uses s e h = (h.next, h.most, tt)

steps_use : (q : Request) (s : SessionState) → UseOneEach s (steps_of statements_of step_of s q)
steps_use (request.Batch text) s = in_uses (statements_of text) s
steps_use (request.Begin isolation) s = one_uses s (begins s) (begins_use s)
steps_use (request.Commit anew) s = one_uses s (completes ending.Commit anew s) (completes_use ending.Commit anew s)
steps_use (request.Rollback anew) s = one_uses s (completes ending.Rollback anew s) (completes_use ending.Rollback anew s)

-- ---- Few steps

-- A text has at most one piece more than it has units.
piece_more : (b : Bool) (u : ℕ) (ps : List (List ℕ)) → length (piece_on b u ps) ≤ suc (length ps)
piece_more true u ps = let z : suc (length ps) ≤ suc (length ps) = omega arith in z
piece_more false u [] = let z : 1 ≤ 1 = omega arith in z
piece_more false u (p ∷ ps) = let z : suc (length ps) ≤ suc (suc (length ps)) = omega arith in z

few_pieces : (k : ℕ) (text : List ℕ) → length (pieces k text) ≤ suc (length text)
few_pieces k [] = let z : 1 ≤ 1 = omega arith in z
few_pieces k (u ∷ us) =
    let one : length (pieces k (u ∷ us)) ≤ suc (length (pieces k us)) = piece_more (eqb u k) u (pieces k us) in
    let rest : length (pieces k us) ≤ suc (length us) = few_pieces k us in
    omega arith

-- There is one of each.
first_of : {A : Type 0} (x : Option A) (xs : Option (List A)) (n : ℕ) (ys : List A) → ((zs : List A) → xs ≡ Some zs → length zs ≡ n) → with_first x xs ≡ Some ys → length ys ≡ suc n
first_of None xs n ys h e = absurd (cc)
first_of (Some x) None n ys h e = absurd (cc)
first_of (Some x) (Some xs) n ys h e =
    let same : x ∷ xs ≡ ys = cc in
    sym (ap length same) ∙ ap suc (h xs refl)

each_count : {A : Type 0} (os : List (Option A)) (ys : List A) → each_of os ≡ Some ys → length ys ≡ length os
each_count [] ys e = let same : [] ≡ ys = cc in sym (ap length same)
each_count (o ∷ os) ys e = first_of o (each_of os) (length os) ys (λ zs f. each_count os zs f) e

and_few : (b : Bool) (e : Effect) (ss : List answer.Step) (n : ℕ) → length ss ≤ suc n → length (and_then b e ss) ≤ suc (suc n)
and_few true e ss n h = let z : 2 ≤ suc (suc n) = omega arith in z
and_few false e ss n h = let z : suc (length ss) ≤ suc (suc n) = omega arith in z

few_in_batch : (qs : List Statement) (s : SessionState) → length (batch_steps step_of s qs) ≤ suc (length qs)
few_in_batch [] s = let z : 1 ≤ 1 = omega arith in z
few_in_batch (q ∷ qs) s = and_few (has_error (step_of s q)) (step_of s q) (batch_steps step_of (step_of s q).after qs) (length qs) (few_in_batch qs (step_of s q).after)

few_in : (o : Option (List Statement)) (s : SessionState) (n : ℕ) → ((qs : List Statement) → o ≡ Some qs → length qs ≤ suc n) → length (steps_in step_of s o) ≤ suc (suc n)
few_in None s n h = let z : 2 ≤ suc (suc n) = omega arith in z
few_in (Some qs) s n h =
    let few : length qs ≤ suc n = h qs refl in
    let steps : length (batch_steps step_of s qs) ≤ suc (length qs) = few_in_batch qs s in
    omega arith

few_steps : (q : Request) (s : SessionState) → Fits q → length (steps_of statements_of step_of s q) ≤ most_steps
few_steps (request.Batch text) s f =
    let few : length (steps_in step_of s (statements_of text)) ≤ suc (suc (length text)) =
    few_in (statements_of text) s (length text)
    (λ qs e.
    let all : length qs ≡ length (map statement_of (pieces 59 text)) = each_count (map statement_of (pieces 59 text)) qs e in
    let same : length (map statement_of (pieces 59 text)) ≡ length (pieces 59 text) = length-map (pieces 59 text) statement_of in
    let cut : length (pieces 59 text) ≤ suc (length text) = few_pieces 59 text in
    omega arith) in
    let most : length text ≤ 2000 = f.most in
    omega arith
few_steps (request.Begin isolation) s f = let z : 1 ≤ most_steps = omega arith in z
few_steps (request.Commit anew) s f = let z : 1 ≤ most_steps = omega arith in z
few_steps (request.Rollback anew) s f = let z : 1 ≤ most_steps = omega arith in z

pub script_uses_few : UseFewDescriptors script_answers
script_uses_few = record {
  each = λ s q. subst (UseOneEach s) (sym (own_is s q)) (steps_use q s);
  short = λ s q f. subst (λ ss. length ss ≤ most_steps) (sym (own_is s q)) (few_steps q s f);
}
