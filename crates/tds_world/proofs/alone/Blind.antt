-- A server with the batch language is blind to the numbers of transactions.
use Rattle.std.proofs.Common.{◌≡◌, ◌≤◌, ◌<◌, ◌+◌, ℕ, zero, suc, List, [], ◌∷◌, ◌++◌, length, Bool, true, false, cond, not, eqb, refl, sym, ap, subst, ◌∙◌, arith, Option, Some, None}
use Rattle.std.specs.Prelude.{pos, unwrap_or, slice_index_or, slice_set, ◌-◌}
use Rattle.std.specs.List.{list_any}
use Rattle.std.proofs.lemmas.Bool.Decides.{nat_tests}
use Rattle.tds_request.specs.declared.request.Request.{Request}
use Rattle.tds_request.specs.declared.request.Request.TheVariants as request
use Rattle.tds_session.specs.Answer as answer
use Rattle.tds_session.specs.Answer.{Answers, script_answers, steps_of, steps_in, batch_steps, and_then, step_then, final_step, last_step, answer_to, wrong_descriptor, refused_batch}
use Rattle.tds_session.specs.declared.transaction.Ending.{Ending}
use Rattle.tds_session.specs.declared.transaction.Ending.TheVariants as ending
use Rattle.tds_session.specs.Effects.{Effect, has_error, is_error, begins, begin_by, ends, end_by, told_by, renew_by, renews, completes, done}
use Rattle.tds_session.specs.Language.{statements_of}
use Rattle.tds_session.specs.Script.{step_of, with_more}
use Rattle.tds_session.specs.Session.{SessionState, transacting, out_of_transaction, last_descriptor, value_of}
use Rattle.tds_session.specs.declared.statement.Statement.{Statement}
use Rattle.tds_session.specs.declared.statement.Statement.TheVariants as statement
use Rattle.tds_token.specs.declared.env_change.EnvChange.{EnvChange}
use Rattle.tds_token.specs.declared.env_change.EnvChange.TheVariants as change
use Rattle.tds_token.specs.declared.token.Token.{Token}
use Rattle.tds_token.specs.declared.token.Token.TheVariants as token
use Rattle.tds_token.specs.Told.{told}
use Rattle.tds_world.specs.alone.Alone.{AreAlike, own_steps, AllAlike, BlindToNumbers}
use Rattle.tds_world.proofs.reports.Asks.{same_number, then_is}
use Rattle.tds_world.proofs.requests.Own.{told_two}

-- Effects from two sessions: the same is told, both are errors or neither is, alike sessions are left,
-- and at most one descriptor is used.
pub record AlikeEffects (s t : SessionState) (e f : Effect) : Type 0 where
  pub told : told e.tokens ≡ told f.tokens
  pub error : has_error e ≡ has_error f
  pub after : AreAlike e.after f.after
  pub next_s : s.next_descriptor ≤ e.after.next_descriptor
  pub most_s : e.after.next_descriptor ≤ suc s.next_descriptor
  pub next_t : t.next_descriptor ≤ f.after.next_descriptor
  pub most_t : f.after.next_descriptor ≤ suc t.next_descriptor

same : (n : ℕ) → n ≤ n
same n = omega arith

more : (n : ℕ) → n ≤ suc n
more n = omega arith

-- One that leaves both sessions as they are.
leaves_same : (s t : SessionState) (ts us : List Token) → AreAlike s t → told ts ≡ told us → list_any is_error ts ≡ list_any is_error us → AlikeEffects s t (record { tokens = ts; after = s }) (record { tokens = us; after = t })
leaves_same s t ts us a h e = record {
  told = h;
  error = e;
  after = a;
  next_s = same s.next_descriptor;
  most_s = more s.next_descriptor;
  next_t = same t.next_descriptor;
  most_t = more t.next_descriptor;
}

not_same : (b c : Bool) → not b ≡ not c → b ≡ c
not_same true true e = refl
not_same false false e = refl
not_same true false e = absurd (cc)
not_same false true e = absurd (cc)

none_open : (s t : SessionState) → AreAlike s t → eqb s.descriptor 0 ≡ eqb t.descriptor 0
none_open s t a = not_same (eqb s.descriptor 0) (eqb t.descriptor 0) a.transaction

some_number : (n : ℕ) → 1 ≤ n → eqb n 0 ≡ false
some_number n h = grind (arith, nat_tests)

begun_alike : (s t : SessionState) → AreAlike s t → 1 ≤ s.next_descriptor → 1 ≤ t.next_descriptor → AreAlike (transacting s) (transacting t)
begun_alike s t a h k = record {
  settings = a.settings;
  transaction = ap not (some_number s.next_descriptor h ∙ sym (some_number t.next_descriptor k));
}

plus_one : (n : ℕ) → n + 1 ≤ suc n
plus_one n = omega arith

less_one : (n : ℕ) → n ≤ n + 1
less_one n = omega arith

begin_alike : (b : Bool) (s t : SessionState) → AreAlike s t → 1 ≤ s.next_descriptor → 1 ≤ t.next_descriptor → AlikeEffects s t (begin_by b false s) (begin_by b false t) × AlikeEffects s t (with_more (begin_by b false s)) (with_more (begin_by b false t))
begin_alike false s t a h k = (leaves_same s t _ _ a refl refl, leaves_same s t _ _ a refl refl)
begin_alike true s t a h k = (
  record { told = refl; error = refl; after = begun_alike s t a h k; next_s = less_one s.next_descriptor; most_s = plus_one s.next_descriptor; next_t = less_one t.next_descriptor; most_t = plus_one t.next_descriptor },
  record { told = refl; error = refl; after = begun_alike s t a h k; next_s = less_one s.next_descriptor; most_s = plus_one s.next_descriptor; next_t = less_one t.next_descriptor; most_t = plus_one t.next_descriptor },
)

ended_alike : (s t : SessionState) → AreAlike s t → AreAlike (out_of_transaction s) (out_of_transaction t)
ended_alike s t a = record { settings = a.settings; transaction = refl }

end_alike : (b : Bool) (x : ℕ → EnvChange) (s t : SessionState) → AreAlike s t → AlikeEffects s t (end_by b x s) (end_by b x t) × AlikeEffects s t (with_more (end_by b x s)) (with_more (end_by b x t))
end_alike true x s t a = (leaves_same s t _ _ a refl refl, leaves_same s t _ _ a refl refl)
end_alike false x s t a = (
  record { told = refl; error = refl; after = ended_alike s t a; next_s = same s.next_descriptor; most_s = more s.next_descriptor; next_t = same t.next_descriptor; most_t = more t.next_descriptor },
  record { told = refl; error = refl; after = ended_alike s t a; next_s = same s.next_descriptor; most_s = more s.next_descriptor; next_t = same t.next_descriptor; most_t = more t.next_descriptor },
)

unused : (n : ℕ) → n < last_descriptor → eqb n last_descriptor ≡ false
unused n h = grind (arith, nat_tests)

-- Begin, commit and rollback, alone and as statements.
begins_alike : (s t : SessionState) → AreAlike s t → 1 ≤ s.next_descriptor → 1 ≤ t.next_descriptor → s.next_descriptor < last_descriptor → t.next_descriptor < last_descriptor → AlikeEffects s t (begins s) (begins t) × AlikeEffects s t (with_more (begins s)) (with_more (begins t))
begins_alike s t a h k m n =
    subst (λ u. AlikeEffects s t (begin_by (eqb s.descriptor 0) u s) (begins t) × AlikeEffects s t (with_more (begin_by (eqb s.descriptor 0) u s)) (with_more (begins t))) (sym (unused s.next_descriptor m))
    (subst (λ u. AlikeEffects s t (begin_by (eqb s.descriptor 0) false s) (begin_by (eqb t.descriptor 0) u t) × AlikeEffects s t (with_more (begin_by (eqb s.descriptor 0) false s)) (with_more (begin_by (eqb t.descriptor 0) u t))) (sym (unused t.next_descriptor n))
    (subst (λ b. AlikeEffects s t (begin_by (eqb s.descriptor 0) false s) (begin_by b false t) × AlikeEffects s t (with_more (begin_by (eqb s.descriptor 0) false s)) (with_more (begin_by b false t))) (none_open s t a)
    (begin_alike (eqb s.descriptor 0) s t a h k)))

ends_alike : (x : ℕ → EnvChange) (s t : SessionState) → AreAlike s t → AlikeEffects s t (ends x s) (ends x t) × AlikeEffects s t (with_more (ends x s)) (with_more (ends x t))
ends_alike x s t a =
    subst (λ b. AlikeEffects s t (end_by (eqb s.descriptor 0) x s) (end_by b x t) × AlikeEffects s t (with_more (end_by (eqb s.descriptor 0) x s)) (with_more (end_by b x t))) (none_open s t a)
    (end_alike (eqb s.descriptor 0) x s t a)

-- Commit and rollback that begin anew.
renewal_alike : (b : Bool) (how : Ending) (s t : SessionState) → AreAlike s t → 1 ≤ s.next_descriptor → 1 ≤ t.next_descriptor → AlikeEffects s t (renew_by b false how s) (renew_by b false how t)
renewal_alike true how s t a h k = leaves_same s t _ _ a refl refl
renewal_alike false how s t a h k = record {
  told = refl;
  error = refl;
  after = begun_alike (out_of_transaction s) (out_of_transaction t) (ended_alike s t a) h k;
  next_s = less_one s.next_descriptor;
  most_s = plus_one s.next_descriptor;
  next_t = less_one t.next_descriptor;
  most_t = plus_one t.next_descriptor;
}

renews_alike : (how : Ending) (s t : SessionState) → AreAlike s t → 1 ≤ s.next_descriptor → 1 ≤ t.next_descriptor → s.next_descriptor < last_descriptor → t.next_descriptor < last_descriptor → AlikeEffects s t (renews how s) (renews how t)
renews_alike how s t a h k m n =
    subst (λ u. AlikeEffects s t (renew_by (eqb s.descriptor 0) u how s) (renews how t)) (sym (unused s.next_descriptor m))
    (subst (λ u. AlikeEffects s t (renew_by (eqb s.descriptor 0) false how s) (renew_by (eqb t.descriptor 0) u how t)) (sym (unused t.next_descriptor n))
    (subst (λ b. AlikeEffects s t (renew_by (eqb s.descriptor 0) false how s) (renew_by b false how t)) (none_open s t a)
    (renewal_alike (eqb s.descriptor 0) how s t a h k)))

completes_alike : (how : Ending) (anew : Option ℕ) (s t : SessionState) → AreAlike s t → 1 ≤ s.next_descriptor → 1 ≤ t.next_descriptor → s.next_descriptor < last_descriptor → t.next_descriptor < last_descriptor → AlikeEffects s t (completes how anew s) (completes how anew t)
completes_alike how None s t a h k m n = (ends_alike (told_by how) s t a).0
completes_alike how (Some isolation) s t a h k m n = renews_alike how s t a h k m n

value_alike : (s t : SessionState) (k : ℕ) → AreAlike s t → value_of s k ≡ value_of t k
value_alike s t k a = ap (λ xs. unwrap_or (slice_index_or xs (k - 97) None) (pos 0)) a.settings

-- ---- Statements

statement_alike : (s t : SessionState) (q : Statement) → AreAlike s t → 1 ≤ s.next_descriptor → 1 ≤ t.next_descriptor → s.next_descriptor < last_descriptor → t.next_descriptor < last_descriptor → AlikeEffects s t (step_of s q) (step_of t q)
statement_alike s t (statement.Say word) a h k m n = leaves_same s t _ _ a refl refl
statement_alike s t (statement.Rows first count) a h k m n = leaves_same s t _ _ a refl refl
statement_alike s t (statement.Set key value) a h k m n = record {
  told = refl;
  error = refl;
  after = record { settings = ap (λ xs. slice_set xs (key - 97) (Some value)) a.settings; transaction = a.transaction };
  next_s = same s.next_descriptor;
  most_s = more s.next_descriptor;
  next_t = same t.next_descriptor;
  most_t = more t.next_descriptor;
}
statement_alike s t (statement.Get key) a h k m n =
    leaves_same s t _ _ a (ap (λ v. token.ReturnStatus v ∷ done 1 ∷ []) (value_alike s t key a)) refl
statement_alike s t statement.Begin a h k m n = (begins_alike s t a h k m n).1
statement_alike s t statement.Commit a h k m n = (ends_alike change.Commit s t a).1
statement_alike s t statement.Rollback a h k m n = (ends_alike change.Rollback s t a).1
statement_alike s t (statement.Fail number) a h k m n = leaves_same s t _ _ a refl refl

-- ---- Batches

final_alike : (status : ℕ) (s t : SessionState) → AreAlike s t → AllAlike (final_step status s ∷ []) (final_step status t ∷ [])
final_alike status s t a = (record { told = refl; last = refl; after = a }, tt)

and_alike : (b : Bool) (s t : SessionState) (e f : Effect) (ss ts : List answer.Step) → AlikeEffects s t e f → (b ≡ false → AllAlike ss ts) → AllAlike (and_then b e ss) (and_then b f ts)
and_alike true s t e f ss ts h k = (record { told = h.told; last = refl; after = h.after }, final_alike 2 e.after f.after h.after)
and_alike false s t e f ss ts h k = (record { told = h.told; last = refl; after = h.after }, k refl)

-- Room for so many steps.
abbrev Room : SessionState → List answer.Step → Type 0
Room s ss = s.next_descriptor + length ss ≤ last_descriptor

room_some : (b : Bool) (s : SessionState) (e : Effect) (ss : List answer.Step) → Room s (and_then b e ss) → s.next_descriptor < last_descriptor
room_some true s e ss h = let z : s.next_descriptor + suc (suc zero) ≤ last_descriptor = h in omega arith
room_some false s e ss h = let z : s.next_descriptor + suc (length ss) ≤ last_descriptor = h in omega arith

room_then : (b : Bool) (s : SessionState) (e : Effect) (ss : List answer.Step) → b ≡ false → e.after.next_descriptor ≤ suc s.next_descriptor → Room s (and_then b e ss) → Room e.after ss
room_then true s e ss z m h = absurd (cc)
room_then false s e ss z m h = let y : s.next_descriptor + suc (length ss) ≤ last_descriptor = h in omega arith

batch_alike : (qs : List Statement) (s t : SessionState) → AreAlike s t → 1 ≤ s.next_descriptor → 1 ≤ t.next_descriptor → Room s (batch_steps step_of s qs) → Room t (batch_steps step_of t qs) → AllAlike (batch_steps step_of s qs) (batch_steps step_of t qs)
batch_alike [] s t a h k m n = final_alike 0 s t a
batch_alike (q ∷ qs) s t a h k m n =
    let e : Effect = step_of s q in
    let f : Effect = step_of t q in
    let ss : List answer.Step = batch_steps step_of e.after qs in
    let ts : List answer.Step = batch_steps step_of f.after qs in
    let one : AlikeEffects s t e f = statement_alike s t q a h k (room_some (has_error e) s e ss m) (room_some (has_error f) t f ts n) in
    subst (λ b. AllAlike (and_then (has_error e) e ss) (and_then b f ts)) one.error
    (and_alike (has_error e) s t e f ss ts one
    (λ z. batch_alike qs e.after f.after one.after
    (let y : s.next_descriptor ≤ e.after.next_descriptor = one.next_s in omega arith)
    (let y : t.next_descriptor ≤ f.after.next_descriptor = one.next_t in omega arith)
    (room_then (has_error e) s e ss z one.most_s m)
    (room_then (has_error f) t f ts (sym one.error ∙ z) one.most_t n)))

in_alike : (o : Option (List Statement)) (s t : SessionState) → AreAlike s t → 1 ≤ s.next_descriptor → 1 ≤ t.next_descriptor → Room s (steps_in step_of s o) → Room t (steps_in step_of t o) → AllAlike (steps_in step_of s o) (steps_in step_of t o)
in_alike None s t a h k m n = (record { told = refl; last = refl; after = a }, final_alike 2 s t a)
in_alike (Some qs) s t a h k m n = batch_alike qs s t a h k m n

-- ---- Requests

last_alike : (s t : SessionState) (e f : Effect) → AlikeEffects s t e f → AllAlike (last_step e ∷ []) (last_step f ∷ [])
last_alike s t e f h = (
  record {
    told = told_two e.tokens (done (cond (has_error e) 2 0) ∷ [])
        ∙ (ap (λ (us : List Token). us ++ done (cond (has_error e) 2 0) ∷ []) h.told
        ∙ (ap (λ b. told f.tokens ++ done (cond b 2 0) ∷ []) h.error
        ∙ sym (told_two f.tokens (done (cond (has_error f) 2 0) ∷ []))));
    last = refl;
    after = h.after;
  },
  tt,
)

one_room : (s : SessionState) (u : answer.Step) → Room s (u ∷ []) → s.next_descriptor < last_descriptor
one_room s u h = let z : s.next_descriptor + suc zero ≤ last_descriptor = h in omega arith

completion_alike : (how : Ending) (anew : Option ℕ) (s t : SessionState) → AreAlike s t → 1 ≤ s.next_descriptor → 1 ≤ t.next_descriptor → Room s (last_step (completes how anew s) ∷ []) → Room t (last_step (completes how anew t) ∷ []) → AllAlike (last_step (completes how anew s) ∷ []) (last_step (completes how anew t) ∷ [])
completion_alike how anew s t a h k m n =
    last_alike s t (completes how anew s) (completes how anew t)
    (completes_alike how anew s t a h k (one_room s (last_step (completes how anew s)) m) (one_room t (last_step (completes how anew t)) n))

steps_alike : (q : Request) (s t : SessionState) → AreAlike s t → 1 ≤ s.next_descriptor → 1 ≤ t.next_descriptor → Room s (steps_of statements_of step_of s q) → Room t (steps_of statements_of step_of t q) → AllAlike (steps_of statements_of step_of s q) (steps_of statements_of step_of t q)
steps_alike (request.Batch text) s t a h k m n = in_alike (statements_of text) s t a h k m n
steps_alike (request.Begin isolation) s t a h k m n =
    last_alike s t (begins s) (begins t) (begins_alike s t a h k (one_room s (last_step (begins s)) m) (one_room t (last_step (begins t)) n)).0
steps_alike (request.Commit anew) s t a h k m n = completion_alike ending.Commit anew s t a h k m n
steps_alike (request.Rollback anew) s t a h k m n = completion_alike ending.Rollback anew s t a h k m n

pub own_is : (s : SessionState) (q : Request) → own_steps script_answers s q ≡ steps_of statements_of step_of s q
own_is s q = then_is (eqb s.descriptor s.descriptor) (steps_of statements_of step_of s q) (wrong_descriptor s q) (same_number s.descriptor)

pub script_is_blind : BlindToNumbers script_answers
script_is_blind s t q a h k =
    subst (λ ss. AllAlike ss (own_steps script_answers t q)) (sym (own_is s q))
    (subst (λ ts. AllAlike (steps_of statements_of step_of s q) ts) (sym (own_is t q))
    (steps_alike q s t a h.some k.some
    (subst (Room s) (own_is s q) h.left) (subst (Room t) (own_is t q) k.left)))
