-- What the bench's server says is an answer, or what stops one.
use Rattle.std.proofs.Common.{◌≡◌, ◌∙◌, ◌≤◌, ◌==◌, ◌||◌, ℕ, ◌+◌, Bool, true, false, List, [], ◌∷◌, ◌++◌, refl, sym, ap, subst, arith}
use Rattle.std.specs.Prelude.{Option, Some, None, not, if◌then◌else◌, flat_map, bit_and}
use Rattle.std.specs.List.{All, AllByRecursion}
use Rattle.std.proofs.lemmas.Bool.Decides.{nat_tests}
use Rattle.std.proofs.lemmas.List.Elements.{All-head, All-tail}
use Rattle.tds_packet.specs.declared.status.Reset.{Reset}
use Rattle.tds_packet.specs.declared.status.Reset.TheVariants.{Full, KeepTransaction}
use Rattle.tds_packet.specs.Layout.{has_bit}
use Rattle.tds_packet.specs.Resets.{reset_effect}
use Rattle.tds_token.specs.declared.env_change.EnvChange.{EnvChange}
use Rattle.tds_token.specs.declared.env_change.EnvChange.TheVariants as change
use Rattle.tds_token.specs.declared.token.Token.{Token}
use Rattle.tds_token.specs.declared.token.Token.TheVariants as token
use Rattle.tds_token.specs.DoneStatus as done_status
use Rattle.tds_token.specs.Told.{applied, applied_on, change_applied, changes_of}
use Rattle.tds_request.specs.declared.request.Request.{Request}
use Rattle.tds_session.specs.declared.attention.OnAttention.{OnAttention}
use Rattle.tds_session.specs.Answer as answer
use Rattle.tds_session.specs.Answer.{Answers, EndsOnce, reset_step}
use Rattle.tds_session.specs.Attention.{stop_by, rolls_back}
use Rattle.tds_session.specs.Lawful.{IsStatementDone}
use Rattle.tds_session.specs.Session.{SessionState}
use Rattle.tds_client.specs.declared.sign.Sign.{Sign}
use Rattle.tds_client.specs.declared.sign.Sign.TheVariants as signs
use Rattle.tds_client.specs.Acts.{is_acknowledgement}
use Rattle.tds_client.specs.Hearing.{change_placed}
use Rattle.tds_client.specs.Signs.{sign_of}
use Rattle.tds_world.specs.Begins.{CountFrom, HandsOut, HandsOutNext}
use Rattle.tds_world.specs.Bounds.{begun_by}
use Rattle.tds_world.specs.Dones.{DonesBy, HasDones, HaveDones}
use Rattle.tds_world.specs.Lawful.{Lawful, TakesNoReset, TellsChanges}
use Rattle.laws_conforming_server.specs.Lawful.{Session, ServerStep, Says, Ends, IsAnswer, IsLawful, IsStop, Leads, final_by, reset_by, reset_left}
use Rattle.laws_conforming_server.specs.Alone.{ResetsFirst}
use Rattle.laws_own_server.specs.Bench.{Kept, Log, bench, ends_if, item_of, kept_anew, moved, moved_by, said, said_step, said_stop, said_tokens, state_of}

-- ---- A change that applies is one that is placed

-- What begins has a number.
abbrev pub BeginsSome : EnvChange → Type 0
BeginsSome (change.Begin d) = 1 ≤ d
BeginsSome (change.Commit d) = Unit {0}
BeginsSome (change.Rollback d) = Unit {0}
BeginsSome change.ResetDone = Unit {0}

pub none_is : {A : Type 0} (x : A) → None ≡ Some x → ⊥
none_is x e = cc

pub some_is : {A : Type 0} (x y : A) → Some x ≡ Some y → x ≡ y
some_is x y e = cc

not_zero : (x : ℕ) → 1 ≤ x → (x == 0) ≡ false
not_zero x p = grind (arith, nat_tests)

abbrev pub pick : Bool → Option ℕ → Option ℕ → Option ℕ
pick b x y = if b then x else y

begin_placed : (d x next : ℕ) (b : Bool) → (d == 0) ≡ b → 1 ≤ x → pick (d == 0) (Some x) None ≡ Some next
    → pick ((x == 0) || false) None (pick ((d == 0) || (d == x)) (Some x) None) ≡ Some x
begin_placed d x next true f p e =
    ap (λ (c : Bool). pick (c || false) None (pick ((d == 0) || (d == x)) (Some x) None)) (not_zero x p)
    ∙ ap (λ (c : Bool). pick (c || (d == x)) (Some x) None) f
begin_placed d x next false f p e = absurd (none_is next (sym (ap (λ (c : Bool). pick c (Some x) None) f) ∙ e))

pub begun_is : (d x next : ℕ) (b : Bool) → (d == 0) ≡ b → pick (d == 0) (Some x) None ≡ Some next → x ≡ next
begun_is d x next true f e = some_is x next (sym (ap (λ (c : Bool). pick c (Some x) None) f) ∙ e)
begun_is d x next false f e = absurd (none_is next (sym (ap (λ (c : Bool). pick c (Some x) None) f) ∙ e))

or_true : (a : Bool) → (a || true) ≡ true
or_true true = refl
or_true false = refl

end_placed : (d x next : ℕ) (b : Bool) → (d == x) ≡ b → pick (d == x) (Some 0) None ≡ Some next → pick ((d == 0) || (d == x)) (Some 0) None ≡ Some 0
end_placed d x next true f e =
    ap (λ (c : Bool). pick ((d == 0) || c) (Some 0) None) f ∙ ap (λ (c : Bool). pick c (Some 0) None) (or_true (d == 0))
end_placed d x next false f e = absurd (none_is next (sym (ap (λ (c : Bool). pick c (Some 0) None) f) ∙ e))

pub ended_is : (d x next : ℕ) (b : Bool) → (d == x) ≡ b → pick (d == x) (Some 0) None ≡ Some next → 0 ≡ next
ended_is d x next true f e = some_is 0 next (sym (ap (λ (c : Bool). pick c (Some 0) None) f) ∙ e)
ended_is d x next false f e = absurd (none_is next (sym (ap (λ (c : Bool). pick c (Some 0) None) f) ∙ e))

placed : (d next : ℕ) (c : EnvChange) → BeginsSome c → change_applied (reset_effect None) d c ≡ Some next → change_placed None d c ≡ Some (moved_by None d c)
placed d next (change.Begin x) p e = begin_placed d x next (d == 0) refl p e
placed d next (change.Commit x) p e = end_placed d x next (d == x) refl e
placed d next (change.Rollback x) p e = end_placed d x next (d == x) refl e
placed d next change.ResetDone p e = absurd (none_is next e)

moves_to : (d next : ℕ) (c : EnvChange) → change_applied (reset_effect None) d c ≡ Some next → moved_by None d c ≡ next
moves_to d next (change.Begin x) e = begun_is d x next (d == 0) refl e
moves_to d next (change.Commit x) e = ended_is d x next (d == x) refl e
moves_to d next (change.Rollback x) e = ended_is d x next (d == x) refl e
moves_to d next change.ResetDone e = absurd (none_is next e)

none_left : (sign : Sign) → reset_left None sign ≡ None
none_left signs.Nothing = refl
none_left (signs.Change (change.Begin d)) = refl
none_left (signs.Change (change.Commit d)) = refl
none_left (signs.Change (change.Rollback d)) = refl
none_left (signs.Change change.ResetDone) = refl
none_left (signs.Done kind status) = refl

-- ---- The tokens of a step

abbrev pub TokenBegins : Token → Type 0
TokenBegins (token.Env c) = BeginsSome c
TokenBegins (token.Info m) = Unit {0}
TokenBegins (token.Error m) = Unit {0}
TokenBegins (token.ReturnStatus v) = Unit {0}
TokenBegins (token.Columns cs) = Unit {0}
TokenBegins (token.Row vs) = Unit {0}
TokenBegins (token.Done status cur_cmd rows) = Unit {0}

-- none acknowledges an attention
abbrev pub AcknowledgesNone : Token → Type 0
AcknowledgesNone t = is_acknowledgement (sign_of t) ≡ false

-- What is left of the changes behind a token.
pub record Moved (d : ℕ) (t : Token) (ts : List Token) (last : ℕ) : Type 0 where
  pub leads : (x : Session Kept) (kept : Kept) → x.transaction ≡ d → Leads kept_anew None x (sign_of t) (record { transaction = moved None d t; settings = kept })
  pub rest : applied (reset_effect None) (moved None d t) (changes_of ts) ≡ Some last

changed_on : (d : ℕ) (c : EnvChange) (ts : List Token) (last : ℕ) (next : Option ℕ) → BeginsSome c → change_applied (reset_effect None) d c ≡ next
    → applied_on (λ n. applied (reset_effect None) n (changes_of ts)) next ≡ Some last → Moved d (token.Env c) ts last
changed_on d c ts last None b e a = absurd (none_is last a)
changed_on d c ts last (Some next) b e a = record {
  leads = λ x kept f. subst (λ (n : ℕ). change_placed None n c ≡ Some (moved_by None d c)) (sym f) (placed d next c b e);
  rest = subst (λ (n : ℕ). applied (reset_effect None) n (changes_of ts) ≡ Some last) (sym (moves_to d next c e)) a;
}

moves_on : (d : ℕ) (t : Token) (ts : List Token) (last : ℕ) → TokenBegins t → applied (reset_effect None) d (changes_of (t ∷ ts)) ≡ Some last → Moved d t ts last
moves_on d (token.Env c) ts last b a = changed_on d c ts last (change_applied (reset_effect None) d c) b refl a
moves_on d (token.Info m) ts last b a = record { leads = λ x kept f. sym f; rest = a }
moves_on d (token.Error m) ts last b a = record { leads = λ x kept f. sym f; rest = a }
moves_on d (token.ReturnStatus v) ts last b a = record { leads = λ x kept f. sym f; rest = a }
moves_on d (token.Columns cs) ts last b a = record { leads = λ x kept f. sym f; rest = a }
moves_on d (token.Row vs) ts last b a = record { leads = λ x kept f. sym f; rest = a }
moves_on d (token.Done status cur_cmd rows) ts last b a = record { leads = λ x kept f. sym f; rest = a }

abbrev pub finals : Bool → List Token → Bool
finals final [] = final
finals final (t ∷ ts) = finals (final_by final (sign_of t)) ts

-- Such tokens, and then what is an answer from the transaction behind them on.
abbrev pub AnswersOn : ℕ → Bool → List (ServerStep Kept Token) → Type 0
AnswersOn d final steps = (x : Session Kept) → x.transaction ≡ d → IsAnswer kept_anew None x final steps

tokens_answer : (d last : ℕ) (final : Bool) (kept : Kept) (ts : List Token) (others : List (ServerStep Kept Token)) → AllByRecursion TokenBegins ts → AllByRecursion AcknowledgesNone ts
    → applied (reset_effect None) d (changes_of ts) ≡ Some last → AnswersOn last (finals final ts) others
    → AnswersOn d final (said_tokens None d kept ts others)
tokens_answer d last final kept [] others b k a o x e = o x (e ∙ some_is d last a)
tokens_answer d last final kept (t ∷ ts) others b k a o x e =
    let m : Moved d t ts last = moves_on d t ts last b.0 a in (
      m.leads x kept e,
      k.0,
      subst (λ (r : Option Reset). IsAnswer kept_anew r (record { transaction = moved None d t; settings = kept }) (final_by final (sign_of t)) (said_tokens None (moved None d t) kept ts others))
          (sym (none_left (sign_of t)))
          (tokens_answer (moved None d t) last (final_by final (sign_of t)) kept ts others b.1 k.1 m.rest o (record { transaction = moved None d t; settings = kept }) refl),
    )

-- ---- What a step's tokens are

-- its DONEs acknowledge nothing
done_plain : (status : ℕ) → bit_and status done_status.attention ≡ 0 → has_bit status 0x20 ≡ false
done_plain status e = ap (λ (n : ℕ). n == 0x20) e

statement_plain : (t : Token) → IsStatementDone t → AcknowledgesNone t
statement_plain (token.Env c) s = refl
statement_plain (token.Info m) s = refl
statement_plain (token.Error m) s = refl
statement_plain (token.ReturnStatus v) s = refl
statement_plain (token.Columns cs) s = refl
statement_plain (token.Row vs) s = refl
statement_plain (token.Done status cur_cmd rows) s = done_plain status s.1

statements_plain : (ts : List Token) → All IsStatementDone ts → AllByRecursion AcknowledgesNone ts
statements_plain [] s = tt
statements_plain (t ∷ ts) s = (statement_plain t (All-head IsStatementDone t ts s), statements_plain ts (All-tail IsStatementDone t ts s))

append_plain : (xs ys : List Token) → AllByRecursion AcknowledgesNone xs → AllByRecursion AcknowledgesNone ys → AllByRecursion AcknowledgesNone (xs ++ ys)
append_plain [] ys a b = b
append_plain (x ∷ xs) ys a b = (a.0, append_plain xs ys a.1 b)

dones_plain : (last : Bool) (ts : List Token) → DonesBy 0 0 last ts → AllByRecursion AcknowledgesNone ts
dones_plain false ts d = statements_plain ts d
dones_plain true ts d =
    subst (λ (xs : List Token). AllByRecursion AcknowledgesNone xs) (sym d.2)
    (append_plain d.0 (token.Done d.1 0 0 ∷ []) (statements_plain d.0 d.3) (done_plain d.1 d.4.1, tt))

finals_behind : (final : Bool) (xs : List Token) (t : Token) → finals final (xs ++ t ∷ []) ≡ final_by (finals final xs) (sign_of t)
finals_behind final [] t = refl
finals_behind final (x ∷ xs) t = finals_behind (final_by final (sign_of x)) xs t

-- the last one is final
dones_final : (final : Bool) (ts : List Token) → DonesBy 0 0 true ts → finals final ts ≡ true
dones_final final ts d =
    ap (λ (xs : List Token). finals final xs) d.2 ∙ finals_behind final d.0 (token.Done d.1 0 0) ∙ ap (λ (n : ℕ). not (n == 1)) d.4.0

-- what begins is counted
begun_some : (n m : ℕ) (ts : List Token) → 1 ≤ n → CountFrom n (flat_map begun_by (changes_of ts)) m → AllByRecursion TokenBegins ts
begun_some n m [] p c = tt
begun_some n m (token.Env (change.Begin d) ∷ ts) p c = (subst (λ (k : ℕ). 1 ≤ k) (sym c.0) p, begun_some (n + 1) m ts (omega arith) c.1)
begun_some n m (token.Env (change.Commit d) ∷ ts) p c = (tt, begun_some n m ts p c)
begun_some n m (token.Env (change.Rollback d) ∷ ts) p c = (tt, begun_some n m ts p c)
begun_some n m (token.Env change.ResetDone ∷ ts) p c = (tt, begun_some n m ts p c)
begun_some n m (token.Info x ∷ ts) p c = (tt, begun_some n m ts p c)
begun_some n m (token.Error x ∷ ts) p c = (tt, begun_some n m ts p c)
begun_some n m (token.ReturnStatus v ∷ ts) p c = (tt, begun_some n m ts p c)
begun_some n m (token.Columns cs ∷ ts) p c = (tt, begun_some n m ts p c)
begun_some n m (token.Row vs ∷ ts) p c = (tt, begun_some n m ts p c)
begun_some n m (token.Done status cur_cmd rows ∷ ts) p c = (tt, begun_some n m ts p c)

counts_up : (n m : ℕ) (ds : List ℕ) → 1 ≤ n → CountFrom n ds m → 1 ≤ m
counts_up n m [] p c = subst (λ (k : ℕ). 1 ≤ k) c p
counts_up n m (d ∷ ds) p c = counts_up (n + 1) m ds (omega arith) c.1

-- ---- Steps

step_ends : (d last : ℕ) (final : Bool) (kept : Kept) (ts : List Token) (ends : Bool) (others : List (ServerStep Kept Token)) → AllByRecursion TokenBegins ts → DonesBy 0 0 ends ts
    → applied (reset_effect None) d (changes_of ts) ≡ Some last → (ends ≡ true → others ≡ []) → (ends ≡ false → (f : Bool) → AnswersOn last f others)
    → AnswersOn d final (said_tokens None d kept ts (ends_if ends others))
step_ends d last final kept ts true others b k a o p =
    tokens_answer d last final kept ts (Ends ∷ others) b (dones_plain true ts k) a (λ x e. (refl, dones_final final ts k, o refl))
step_ends d last final kept ts false others b k a o p =
    tokens_answer d last final kept ts others b (dones_plain false ts k) a (p refl (finals final ts))

step_answers : (d : ℕ) (final : Bool) (t : answer.Step) (others : List (ServerStep Kept Token)) → t.reset ≡ None → AllByRecursion TokenBegins t.tokens → HasDones t
    → applied (reset_effect t.reset) d (changes_of t.tokens) ≡ Some t.after.descriptor
    → (t.last ≡ true → others ≡ []) → (t.last ≡ false → (f : Bool) → AnswersOn t.after.descriptor f others)
    → AnswersOn d final (said_step d t others)
step_answers d final t others r b k a o p =
    let kept : Kept = record { settings = t.after.settings; midway = not t.last } in
    subst (λ (m : Option Reset). AnswersOn d final (said_tokens m d kept t.tokens (ends_if t.last others))) (sym r)
    (step_ends d t.after.descriptor final kept t.tokens t.last others b k
    (subst (λ (m : Option Reset). applied (reset_effect m) d (changes_of t.tokens) ≡ Some t.after.descriptor) r a) o p)

not_both : {A : Type 0} (b : Bool) → b ≡ true → b ≡ false → A
not_both b e f = let x : ⊥ = cc in absurd x

said_answers : (s : SessionState) (ss : List answer.Step) (final : Bool) → EndsOnce ss → TellsChanges s ss → TakesNoReset ss → AllByRecursion HasDones ss → HandsOut s ss
    → 1 ≤ s.next_descriptor → AnswersOn s.descriptor final (said s.descriptor ss)
said_answers s [] final e c r k h p = absurd e
said_answers s (t ∷ []) final e c r k h p =
    step_answers s.descriptor final t [] r.0 (begun_some s.next_descriptor t.after.next_descriptor t.tokens p h.0) k.0 c.0 (λ _. refl) (λ f. not_both t.last e f)
said_answers s (t ∷ next ∷ ss) final e c r k h p =
    step_answers s.descriptor final t (said t.after.descriptor (next ∷ ss)) r.0 (begun_some s.next_descriptor t.after.next_descriptor t.tokens p h.0) k.0 c.0
    (λ f. not_both t.last f e.0)
    (λ f g. said_answers t.after (next ∷ ss) g e.1 c.1 r.1 k.1 h.1
    (counts_up s.next_descriptor t.after.next_descriptor (flat_map begun_by (changes_of t.tokens)) p h.0))

-- ---- The engine

abbrev pub sets : Reset → Session Kept → ServerStep Kept Token
sets reset s = Says (item_of (token.Env change.ResetDone)) (reset_by kept_anew reset s)

abbrev pub answers_in : Answers → Log → ℕ → Session Kept → Option Reset → ℕ → List (ServerStep Kept Token)
answers_in answers log request s reset named = said s.transaction (answers (state_of (log request).begun s) named reset (log request).request)

-- a reset stands first
resets_first : (answers : Answers) (lawful : Lawful answers) (log : Log) (request : ℕ) (s : Session Kept) (reset : Reset) (named : ℕ)
    → answers_in answers log request s (Some reset) named ≡ sets reset s ∷ answers_in answers log request (reset_by kept_anew reset s) None named
resets_first answers lawful log request s Full named =
    ap (λ (ss : List answer.Step). said s.transaction ss) (lawful.resets (state_of (log request).begun s) named Full (log request).request)
resets_first answers lawful log request s KeepTransaction named =
    ap (λ (ss : List answer.Step). said s.transaction ss) (lawful.resets (state_of (log request).begun s) named KeepTransaction (log request).request)

plain_lawful : (answers : Answers) (lawful : Lawful answers) (dones : HaveDones answers) (hands : HandsOutNext answers) (log : Log) (request : ℕ) (s : Session Kept) (named : ℕ)
    → IsAnswer kept_anew None s false (answers_in answers log request s None named)
plain_lawful answers lawful dones hands log request s named =
    let st : SessionState = state_of (log request).begun s in
    let q : Request = (log request).request in
    said_answers st (answers st named None q) false (lawful.ends st named None q) (lawful.tells st named None q) (lawful.only st named q) (dones st named None q) (hands st named None q)
    (omega arith) s refl

answers_lawful : (answers : Answers) (lawful : Lawful answers) (dones : HaveDones answers) (hands : HandsOutNext answers) (log : Log) (request : ℕ) (s : Session Kept) (reset : Option Reset) (named : ℕ)
    → IsAnswer kept_anew reset s false (answers_in answers log request s reset named)
answers_lawful answers lawful dones hands log request s None named = plain_lawful answers lawful dones hands log request s named
answers_lawful answers lawful dones hands log request s (Some reset) named =
    subst (λ (steps : List (ServerStep Kept Token)). IsAnswer kept_anew (Some reset) s false steps) (sym (resets_first answers lawful log request s reset named))
    (refl, refl, plain_lawful answers lawful dones hands log request (reset_by kept_anew reset s) named)

same_ends : (d : ℕ) → pick ((d == 0) || (d == d)) (Some 0) None ≡ Some 0
same_ends d = let e : (d == d) ≡ true = grind (arith, nat_tests) in
    ap (λ (c : Bool). pick ((d == 0) || c) (Some 0) None) e ∙ ap (λ (c : Bool). pick c (Some 0) None) (or_true (d == 0))

stop_lawful : (b : Bool) (s : Session Kept) (begun : ℕ) → IsStop s false (said_stop s.transaction (stop_by b (state_of begun s)))
stop_lawful true s begun = (same_ends s.transaction, (refl, refl))
stop_lawful false s begun = (refl, refl)

pub lawful_bench : (attention : OnAttention) (answers : Answers) (log : Log) → Lawful answers → HaveDones answers → HandsOutNext answers → IsLawful (bench attention answers log)
lawful_bench attention answers log lawful dones hands = record {
  answers = answers_lawful answers lawful dones hands log;
  stops = λ request s. stop_lawful (rolls_back attention s.settings.midway (state_of 0 s)) s 0;
}

kept_by : (reset : Reset) (s : Session Kept) → reset_by kept_anew reset (reset_by kept_anew reset s) ≡ reset_by kept_anew reset s
kept_by Full s = refl
kept_by KeepTransaction s = refl

pub first_bench : (attention : OnAttention) (answers : Answers) (log : Log) → Lawful answers → ResetsFirst (bench attention answers log)
first_bench attention answers log lawful = record {
  resets = λ request s reset named. sets reset s ∷ [];
  does = λ request s reset named. (tt, kept_by reset s, refl);
  answers = resets_first answers lawful log;
}
