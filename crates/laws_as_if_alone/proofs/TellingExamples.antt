-- A server that tells all, and one that tells nothing.
use Rattle.std.proofs.Common.{◌≡◌, ◌<◌, ℕ, suc, true, List, [], ◌∷◌, refl, ap, subst, arith}
use Rattle.std.proofs.lemmas.Bool.Decides.{nat_tests}
use Rattle.std.specs.Prelude.{Some, None, map}
use Rattle.laws_conforming_server.specs.Lawful.{Session}
use Rattle.tds_state.specs.declared.asked.Request.TheVariants.{Batch}
use Rattle.tds_state.specs.Asking.{letters_after}
use Rattle.tds_state.specs.Hearing.{Recovery, States}
use Rattle.tds_state.specs.Pasts.{IsInitial, Remark, Tells, Ends, first_states, newest_state, session_said}
use Rattle.tds_state.specs.States.{gives_value, last_value, listed_in, state_spot}
use Rattle.tds_state.proofs.Resting.{parts_of}
use Rattle.tds_state.proofs.Tellings.{states_home}
use Rattle.laws_as_if_alone.specs.Serving.{fresh}
use Rattle.laws_as_if_alone.specs.Telling.{RoundTrip, Runs, Spoken, TellsAll, lets_rest, saying_of, session_left}
use Rattle.laws_as_if_alone.proofs.Examples.{counter, counts, done, session}

-- its login: state 1 is 0
abbrev login : List Remark
login = Ends ∷ Tells (Recovery (1 ∷ 1 ∷ 0 ∷ [])) ∷ []

-- ---- Requests that leave another number in the session, and tell it as state 1

abbrev sets : ℕ → Spoken ℕ
sets n = record {
  kind = Batch;
  body = [];
  does = λ s. record { items = done ∷ []; after = session n };
  tells = λ reset s. Ends ∷ Tells (States true (record { states = record { id = 1; value = n ∷ [] } ∷ []; is_whole = true })) ∷ [];
}

abbrev all_set : List ℕ → List (RoundTrip ℕ)
all_set ns = map (λ (n : ℕ). Runs (sets n) None) ns

abbrev past : List (RoundTrip ℕ) → List Remark
past es = (saying_of counter login es).all

-- what it told at its login stays so
states_at_login : (ns : List ℕ) → first_states (past (all_set ns)) ≡ 1 ∷ 1 ∷ 0 ∷ []
unfolding first_states
states_at_login [] = refl
states_at_login (n ∷ ns) = states_at_login ns

is_zero : (n : ℕ) → gives_value (1 ∷ 1 ∷ 0 ∷ []) 1 (n ∷ []) ≡ true → n ≡ 0
unfolding listed_in state_spot last_value
is_zero n h = grind (arith, nat_tests)

few : 1 < 256
few = omega arith

set_back : (ns : List ℕ) → lets_rest (past (all_set ns)) ≡ true → session_left counter (all_set ns) ≡ fresh counter
unfolding newest_state last_value first_states
set_back [] h = refl
set_back (n ∷ ns) h =
    let p = parts_of (session_said (past (all_set (n ∷ ns)))) h in
    let home : IsInitial (first_states (past (all_set ns))) 1 (Some (record { is_recoverable = true; value = n ∷ [] })) =
    states_home (past (all_set (n ∷ ns))) 1 few p.read p.states in
    ap session (is_zero n (subst (λ (xs : List ℕ). gives_value xs 1 (n ∷ []) ≡ true) (states_at_login ns) home.value))

tells_all : TellsAll counter login all_set
tells_all = record { all = set_back }

-- ---- A request that counts, and tells nothing of it

abbrev silent : Spoken ℕ
silent = record {
  kind = Batch;
  body = [];
  does = counts;
  tells = λ reset s. Ends ∷ [];
}

abbrev one_silent : Unit {0} → List (RoundTrip ℕ)
one_silent u = Runs silent None ∷ []

rests_behind : lets_rest (past (one_silent tt)) ≡ true
unfolding session_said listed_in state_spot letters_after
rests_behind = refl

isnt_one : (n : ℕ) → n ≡ 0 → n ≡ suc 0 → ⊥
isnt_one n zero one = omega (arith, zero, one)

tells_not_all : TellsAll counter login one_silent → ⊥
tells_not_all tells = isnt_one (session_left counter (one_silent tt)).settings (ap (λ (s : Session ℕ). s.settings) (tells.all tt rests_behind)) refl
