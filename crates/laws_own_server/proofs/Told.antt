-- What is said of a step, in one piece: what comes of it, and the session behind it.
use Rattle.std.proofs.Common.{◌≡◌, ◌∙◌, ◌≤◌, ◌+◌, ◌==◌, ◌&&◌, ℕ, Bool, true, false, List, [], ◌∷◌, ◌++◌, length, refl, sym, ap, subst, arith}
use Rattle.std.specs.Prelude.{ℤ, Option, Some, None, not, nat_lt, flat_map}
use Rattle.std.proofs.lemmas.Bool.Decides.{nat_tests}
use Rattle.tds_packet.specs.declared.status.Reset.{Reset}
use Rattle.tds_packet.specs.declared.status.Reset.TheVariants.{Full, KeepTransaction}
use Rattle.tds_packet.specs.Resets.{header_descriptor, reset_effect}
use Rattle.tds_token.specs.declared.env_change.EnvChange.{EnvChange}
use Rattle.tds_token.specs.declared.env_change.EnvChange.TheVariants as change
use Rattle.tds_token.specs.declared.token.Token.{Token}
use Rattle.tds_token.specs.declared.token.Token.TheVariants as token
use Rattle.tds_token.specs.Layout.{spelling}
use Rattle.tds_token.specs.Told.{applied, applied_on, change_applied, changes_of}
use Rattle.tds_session.specs.declared.attention.OnAttention.{OnAttention}
use Rattle.tds_session.specs.declared.attention.OnAttention.TheVariants.{Keep, RollBack}
use Rattle.tds_session.specs.Answer as answer
use Rattle.tds_session.specs.Answer.{EndsOnce}
use Rattle.tds_session.specs.Attention.{acknowledging, rolls_back, stop_by, stopped}
use Rattle.tds_session.specs.Session.{SessionState, is_in_transaction}
use Rattle.tds_world.specs.Arrivals.{is_midway}
use Rattle.laws_conforming_server.specs.Lawful.{Session, ServerStep, Says, Ends}
use Rattle.laws_own_server.specs.Bench.{Kept, ends_if, item_of, moved, moved_by, said_step, said_stop, said_tokens, state_of}
use Rattle.laws_own_server.specs.Runs.{Thing, A, close_if, items_of, then_close, then_items, things_said}
use Rattle.laws_own_server.proofs.Saying.{begun_is, ended_is, none_is, some_is}
use Rattle.laws_own_server.proofs.Speaking.{behind_all}

-- ---- In two pieces

tokens_then : (reset : Option Reset) (d : ℕ) (kept : Kept) (ts : List Token) (xs ys : List (ServerStep Kept Token)) → said_tokens reset d kept ts (xs ++ ys) ≡ said_tokens reset d kept ts xs ++ ys
tokens_then reset d kept [] xs ys = refl
tokens_then reset d kept (t ∷ ts) xs ys = ap (λ (zs : List (ServerStep Kept Token)). Says (item_of t) (record { transaction = moved reset d t; settings = kept }) ∷ zs) (tokens_then reset (moved reset d t) kept ts xs ys)

ends_then : (last : Bool) (ys : List (ServerStep Kept Token)) → ends_if last ys ≡ ends_if last [] ++ ys
ends_then true ys = refl
ends_then false ys = refl

pub step_then : (d : ℕ) (s : answer.Step) (ys : List (ServerStep Kept Token)) → said_step d s ys ≡ said_step d s [] ++ ys
step_then d s ys =
    let kept : Kept = record { settings = s.after.settings; midway = not s.last } in
    ap (λ (zs : List (ServerStep Kept Token)). said_tokens s.reset d kept s.tokens zs) (ends_then s.last ys) ∙ tokens_then s.reset d kept s.tokens (ends_if s.last []) ys

-- ---- What comes of it

pub tokens_things : (reset : Option Reset) (d : ℕ) (kept : Kept) (ts : List Token) (others : List (ServerStep Kept Token)) → things_said (said_tokens reset d kept ts others) ≡ then_items (items_of ts) (things_said others)
tokens_things reset d kept [] others = refl
tokens_things reset d kept (t ∷ ts) others = ap (λ (zs : List (Thing Token)). A (item_of t) ∷ zs) (tokens_things reset (moved reset d t) kept ts others)

ends_things : (last : Bool) → things_said (ends_if last []) ≡ then_close (close_if last) []
ends_things true = refl
ends_things false = refl

pub step_things : (d : ℕ) (s : answer.Step) → things_said (said_step d s []) ≡ then_items (items_of s.tokens) (then_close (close_if s.last) [])
step_things d s =
    tokens_things s.reset d (record { settings = s.after.settings; midway = not s.last }) s.tokens (ends_if s.last [])
    ∙ ap (λ (zs : List (Thing Token)). then_items (items_of s.tokens) zs) (ends_things s.last)

-- ---- The session behind it

abbrev pub moved_all : Option Reset → ℕ → List Token → ℕ
moved_all reset d [] = d
moved_all reset d (t ∷ ts) = moved_all reset (moved reset d t) ts

abbrev pub session : ℕ → Kept → Session Kept
session d kept = record { transaction = d; settings = kept }

behind_ends : (last : Bool) (x : Session Kept) → behind_all x (ends_if last []) ≡ x
behind_ends true x = refl
behind_ends false x = refl

behind_tokens : (reset : Option Reset) (d : ℕ) (kept : Kept) (ts : List Token) (last : Bool) → behind_all (session d kept) (said_tokens reset d kept ts (ends_if last [])) ≡ session (moved_all reset d ts) kept
behind_tokens reset d kept [] last = behind_ends last (session d kept)
behind_tokens reset d kept (t ∷ ts) last = behind_tokens reset (moved reset d t) kept ts last

-- one that has a token
behind_some : (x : Session Kept) (reset : Option Reset) (d : ℕ) (kept : Kept) (ts : List Token) (last : Bool) → 1 ≤ length (flat_map spelling ts)
    → behind_all x (said_tokens reset d kept ts (ends_if last [])) ≡ session (moved_all reset d ts) kept
behind_some x reset d kept [] last p = let b : ⊥ = omega arith in absurd b
behind_some x reset d kept (t ∷ ts) last p = behind_tokens reset (moved reset d t) kept ts last

reset_is : (reset : Option Reset) (d next : ℕ) → reset_effect reset d ≡ Some next → header_descriptor reset d ≡ next
reset_is None d next e = absurd (none_is next e)
reset_is (Some Full) d next e = some_is 0 next e
reset_is (Some KeepTransaction) d next e = some_is d next e

moves_under : (reset : Option Reset) (d next : ℕ) (c : EnvChange) → change_applied (reset_effect reset) d c ≡ Some next → moved_by reset d c ≡ next
moves_under reset d next (change.Begin x) e = begun_is d x next (d == 0) refl e
moves_under reset d next (change.Commit x) e = ended_is d x next (d == x) refl e
moves_under reset d next (change.Rollback x) e = ended_is d x next (d == x) refl e
moves_under reset d next change.ResetDone e = reset_is reset d next e

changes_all : (reset : Option Reset) (d last : ℕ) (c : EnvChange) (ts : List Token) (next : Option ℕ) → change_applied (reset_effect reset) d c ≡ next
    → applied_on (λ n. applied (reset_effect reset) n (changes_of ts)) next ≡ Some last → applied (reset_effect reset) (moved_by reset d c) (changes_of ts) ≡ Some last
changes_all reset d last c ts None e a = absurd (none_is last a)
changes_all reset d last c ts (Some next) e a = subst (λ (n : ℕ). applied (reset_effect reset) n (changes_of ts) ≡ Some last) (sym (moves_under reset d next c e)) a

pub moves_all : (reset : Option Reset) (d last : ℕ) (ts : List Token) → applied (reset_effect reset) d (changes_of ts) ≡ Some last → moved_all reset d ts ≡ last
moves_all reset d last [] a = some_is d last a
moves_all reset d last (token.Env c ∷ ts) a =
    moves_all reset (moved_by reset d c) last ts (changes_all reset d last c ts (change_applied (reset_effect reset) d c) refl a)
moves_all reset d last (token.Info m ∷ ts) a = moves_all reset d last ts a
moves_all reset d last (token.Error m ∷ ts) a = moves_all reset d last ts a
moves_all reset d last (token.ReturnStatus v ∷ ts) a = moves_all reset d last ts a
moves_all reset d last (token.Columns cs ∷ ts) a = moves_all reset d last ts a
moves_all reset d last (token.Row vs ∷ ts) a = moves_all reset d last ts a
moves_all reset d last (token.Done status cur_cmd rows ∷ ts) a = moves_all reset d last ts a

pub behind_step : (x : Session Kept) (d : ℕ) (s : answer.Step) → 1 ≤ length (flat_map spelling s.tokens) → applied (reset_effect s.reset) d (changes_of s.tokens) ≡ Some s.after.descriptor
    → behind_all x (said_step d s []) ≡ session s.after.descriptor (record { settings = s.after.settings; midway = not s.last })
behind_step x d s p a =
    let kept : Kept = record { settings = s.after.settings; midway = not s.last } in
    behind_some x s.reset d kept s.tokens s.last p ∙ ap (λ (n : ℕ). session n kept) (moves_all s.reset d s.after.descriptor s.tokens a)

some_taken : (n : ℕ) → true ≡ nat_lt 0 (n + 1)
some_taken n = grind (arith, nat_tests)

-- its last step ends an answer
pub last_midway : (s : answer.Step) (ss : List answer.Step) (n : ℕ) → EndsOnce (s ∷ ss) → not s.last ≡ is_midway (n + 1) ss
last_midway s [] n e = ap not e
last_midway s (t ∷ ss) n e = ap not e.0 ∙ some_taken n

-- ---- What is said to an attention

abbrev pub stop_at : Bool → ℕ → List (Option ℤ) → List (ServerStep Kept Token)
stop_at true d settings = said_tokens None d (record { settings = settings; midway = false }) (acknowledging (change.Rollback d ∷ [])) (Ends ∷ [])
stop_at false d settings = said_tokens None d (record { settings = settings; midway = false }) (acknowledging []) (Ends ∷ [])

stop_is : (b : Bool) (st : SessionState) → said_stop st.descriptor (stop_by b st) ≡ stop_at b st.descriptor st.settings
stop_is true st = refl
stop_is false st = refl

same_rolls : (attention : OnAttention) (one other : Bool) (s t : SessionState) → s.descriptor ≡ t.descriptor → (one && is_in_transaction t) ≡ (other && is_in_transaction t)
    → rolls_back attention one s ≡ rolls_back attention other t
same_rolls Keep one other s t e f = refl
same_rolls RollBack one other s t e f = ap (λ (d : ℕ). one && not (d == 0)) e ∙ f

pub same_stop : (attention : OnAttention) (s : Session Kept) (st : SessionState) (midway : Bool) → s.transaction ≡ st.descriptor → s.settings.settings ≡ st.settings
    → (s.settings.midway && is_in_transaction st) ≡ (midway && is_in_transaction st)
    → said_stop s.transaction (stopped attention s.settings.midway (state_of 0 s)) ≡ said_stop st.descriptor (stopped attention midway st)
same_stop attention s st midway e f g =
    stop_is (rolls_back attention s.settings.midway (state_of 0 s)) (state_of 0 s)
    ∙ ap (λ (b : Bool). stop_at b s.transaction s.settings.settings) (same_rolls attention s.settings.midway midway (state_of 0 s) st e g)
    ∙ ap (λ (d : ℕ). stop_at (rolls_back attention midway st) d s.settings.settings) e
    ∙ ap (λ v. stop_at (rolls_back attention midway st) st.descriptor v) f
    ∙ sym (stop_is (rolls_back attention midway st) st)

pub behind_stop : (x : Session Kept) (b : Bool) (st : SessionState) → behind_all x (said_stop st.descriptor (stop_by b st)) ≡ session (stop_by b st).after.descriptor (record { settings = st.settings; midway = false })
behind_stop x true st = refl
behind_stop x false st = refl

pub stop_settings : (b : Bool) (st : SessionState) → st.settings ≡ (stop_by b st).after.settings
stop_settings true st = refl
stop_settings false st = refl
