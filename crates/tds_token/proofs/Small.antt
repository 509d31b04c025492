-- DONE and ENVCHANGE.
use Rattle.std.proofs.Common.{◌≡◌, ℕ, ◌^◌, ◌<◌, true, false, cond, eqb, List, [], ◌∷◌, ◌++◌, length, Option, Ok, Err, refl, sym, ap, subst, ◌∙◌, append_assoc, arith, inl, inr}
use Rattle.std.specs.Int.{w16, w64, to_le_bytes}
use Rattle.std.proofs.lemmas.Bool.{eqb-true, eqb-false}
use Rattle.tds_token.specs.declared.fault.TokenFault.TheVariants.{Cut, WrongLength, WrongEnvChange, WrongStatus}
use Rattle.tds_token.specs.declared.token.Token.{Token}
use Rattle.tds_token.specs.declared.token.Token.TheVariants as tokens
use Rattle.tds_token.specs.declared.env_change.EnvChange.{EnvChange}
use Rattle.tds_token.specs.declared.env_change.EnvChange.TheVariants.{Begin, Commit, Rollback, ResetDone}
use Rattle.tds_token.specs.Layout.{spelling, env_inside, sized, Fits, FitsEnv, Ranged, RangedEnv, Under, is_done_status}
use Rattle.tds_token.specs.Reading.{◌>>=◌, number_at, byte_at, sized_at, ended, empty_at, descriptor_at, new_descriptor_in, old_descriptor_in, no_descriptor_in, env_of, env_in, env_at, done_at}
use Rattle.tds_token.proofs.Fields.{IsBytes, bind_ok, want_ok, unless_ok, chosen, ok_is, wide16, wide64, number_field, byte_field, sized_field, sized_any, ended_ok}

-- what a token needs for its spelling, where these columns are known
pub record Good (columns : Option ℕ) (token : Token) : Type 0 where
  pub fits : Fits token
  pub ranged : Ranged token
  pub under : Under columns token

pub joined : (a x b y c : List ℕ) → a ≡ x ++ b → b ≡ y ++ c → a ≡ (x ++ y) ++ c
joined a x b y c p q = p ∙ ap (λ (t : List ℕ). x ++ t) q ∙ sym (append_assoc x y c)

-- ---- DONE

pub done_takes : (columns : Option ℕ) (bytes : List ℕ) (t : Token) (rest : List ℕ) → IsBytes bytes → done_at bytes ≡ Ok (t, rest) → (253 ∷ bytes ≡ spelling t ++ rest) × Good columns t × IsBytes rest
unfolding done_at
done_takes columns bytes t rest fits e =
    let a = bind_ok (number_at Cut w16 bytes) (λ status. cond (is_done_status status.0) (number_at Cut w16 status.1 >>= λ cur_cmd. number_at Cut w64 cur_cmd.1 >>= λ rows. Ok (tokens.Done status.0 cur_cmd.0 rows.0, rows.1)) (Err WrongStatus)) (t, rest) e in
    let w = want_ok (is_done_status a.0.0) WrongStatus (number_at Cut w16 a.0.1 >>= λ cur_cmd. number_at Cut w64 cur_cmd.1 >>= λ rows. Ok (tokens.Done a.0.0 cur_cmd.0 rows.0, rows.1)) (t, rest) a.2 in
    let b = bind_ok (number_at Cut w16 a.0.1) (λ cur_cmd. number_at Cut w64 cur_cmd.1 >>= λ rows. Ok (tokens.Done a.0.0 cur_cmd.0 rows.0, rows.1)) (t, rest) w.1 in
    let c = bind_ok (number_at Cut w64 b.0.1) (λ rows. Ok (tokens.Done a.0.0 b.0.0 rows.0, rows.1)) (t, rest) b.2 in
    let ta = (number_field Cut w16 (2 ^ 16) wide16).takes bytes a.0.0 a.0.1 fits a.1 in
    let tb = (number_field Cut w16 (2 ^ 16) wide16).takes a.0.1 b.0.0 b.0.1 ta.2 b.1 in
    let tc = (number_field Cut w64 (2 ^ 64) wide64).takes b.0.1 c.0.0 c.0.1 tb.2 c.1 in
    let bc = joined a.0.1 (to_le_bytes w16 b.0.0) b.0.1 (to_le_bytes w64 c.0.0) c.0.1 tb.0 tc.0 in
    let abc = joined bytes (to_le_bytes w16 a.0.0) a.0.1 (to_le_bytes w16 b.0.0 ++ to_le_bytes w64 c.0.0) c.0.1 ta.0 bc in
    subst (λ (x : Token × List ℕ). (253 ∷ bytes ≡ spelling x.0 ++ x.1) × Good columns x.0 × IsBytes x.1) (ok_is (tokens.Done a.0.0 b.0.0 c.0.0, c.0.1) (t, rest) c.2)
    (ap (λ (x : List ℕ). 253 ∷ x) abc, record { fits = w.0; ranged = (ta.1, tb.1, tc.1); under = tt }, tc.2)

pub done_again : (status cur_cmd rows : ℕ) (rest : List ℕ) → is_done_status status ≡ true → status < 2 ^ 16 → cur_cmd < 2 ^ 16 → rows < 2 ^ 64
    → done_at ((to_le_bytes w16 status ++ (to_le_bytes w16 cur_cmd ++ to_le_bytes w64 rows)) ++ rest) ≡ Ok (tokens.Done status cur_cmd rows, rest)
unfolding done_at
done_again status cur_cmd rows rest ok a b c =
    let regrouped : (to_le_bytes w16 status ++ (to_le_bytes w16 cur_cmd ++ to_le_bytes w64 rows)) ++ rest ≡ to_le_bytes w16 status ++ (to_le_bytes w16 cur_cmd ++ (to_le_bytes w64 rows ++ rest))
    = append_assoc (to_le_bytes w16 status) (to_le_bytes w16 cur_cmd ++ to_le_bytes w64 rows) rest ∙ ap (λ (x : List ℕ). to_le_bytes w16 status ++ x) (append_assoc (to_le_bytes w16 cur_cmd) (to_le_bytes w64 rows) rest) in
    ap done_at regrouped ∙ rw ((number_field Cut w16 (2 ^ 16) wide16).again status (to_le_bytes w16 cur_cmd ++ (to_le_bytes w64 rows ++ rest)) a, ok, (number_field Cut w16 (2 ^ 16) wide16).again cur_cmd (to_le_bytes w64 rows ++ rest) b, (number_field Cut w64 (2 ^ 64) wide64).again rows rest c) refl

-- ---- ENVCHANGE

empty_takes : (bytes rest : List ℕ) → IsBytes bytes → empty_at bytes ≡ Ok rest → (bytes ≡ 0 ∷ rest) × IsBytes rest
unfolding empty_at
empty_takes bytes rest fits e =
    let a = bind_ok (byte_at WrongLength bytes) (λ n. cond (eqb n.0 0) (Ok n.1) (Err WrongEnvChange)) rest e in
    let w = want_ok (eqb a.0.0 0) WrongEnvChange (Ok a.0.1) rest a.2 in
    let t = (byte_field WrongLength).takes bytes a.0.0 a.0.1 fits a.1 in
    let zero-is : a.0.0 ≡ 0 = eqb-true _ _ w.0 in
    let rest-is : a.0.1 ≡ rest = ok_is a.0.1 rest w.1 in
    (t.0 ∙ ap (λ (n : ℕ). n ∷ a.0.1) zero-is ∙ ap (λ (x : List ℕ). 0 ∷ x) rest-is, subst IsBytes rest-is t.2)

abbrev IsDescriptor : ℕ → Type 0
IsDescriptor d = (0 < d) × (d < 2 ^ 64)

descriptor_takes : (bytes : List ℕ) (d : ℕ) (rest : List ℕ) → IsBytes bytes → descriptor_at bytes ≡ Ok (d, rest) → (bytes ≡ 8 ∷ (to_le_bytes w64 d ++ rest)) × IsDescriptor d × IsBytes rest
unfolding descriptor_at
descriptor_takes bytes d rest fits e =
    let a = bind_ok (byte_at WrongLength bytes) (λ n. cond (eqb n.0 8) (number_at WrongLength w64 n.1 >>= λ d. cond (eqb d.0 0) (Err WrongEnvChange) (Ok d)) (Err WrongEnvChange)) (d, rest) e in
    let w = want_ok (eqb a.0.0 8) WrongEnvChange (number_at WrongLength w64 a.0.1 >>= λ d. cond (eqb d.0 0) (Err WrongEnvChange) (Ok d)) (d, rest) a.2 in
    let b = bind_ok (number_at WrongLength w64 a.0.1) (λ d. cond (eqb d.0 0) (Err WrongEnvChange) (Ok d)) (d, rest) w.1 in
    let u = unless_ok (eqb b.0.0 0) WrongEnvChange (Ok b.0) (d, rest) b.2 in
    let ta = (byte_field WrongLength).takes bytes a.0.0 a.0.1 fits a.1 in
    let tb = (number_field WrongLength w64 (2 ^ 64) wide64).takes a.0.1 b.0.0 b.0.1 ta.2 b.1 in
    let eight : a.0.0 ≡ 8 = eqb-true _ _ w.0 in
    let nonzero : 0 < b.0.0 = omega (arith, eqb-false _ _ u.0) in
    let parts : bytes ≡ 8 ∷ (to_le_bytes w64 b.0.0 ++ b.0.1) = ta.0 ∙ ap (λ (n : ℕ). n ∷ a.0.1) eight ∙ ap (λ (x : List ℕ). 8 ∷ x) tb.0 in
    subst (λ (x : ℕ × List ℕ). (bytes ≡ 8 ∷ (to_le_bytes w64 x.0 ++ x.1)) × IsDescriptor x.0 × IsBytes x.1) (ok_is b.0 (d, rest) u.1) (parts, (nonzero, tb.1), tb.2)

descriptor_again : (d : ℕ) (rest : List ℕ) → IsDescriptor d → descriptor_at (8 ∷ (to_le_bytes w64 d ++ rest)) ≡ Ok (d, rest)
unfolding descriptor_at
descriptor_again d rest h =
    let nonzero : eqb d 0 ≡ false = search (arith, h.0) in
    rw ((number_field WrongLength w64 (2 ^ 64) wide64).again d rest h.1, nonzero) refl

new_takes : (bytes : List ℕ) (d : ℕ) → IsBytes bytes → new_descriptor_in bytes ≡ Ok d → (bytes ≡ 8 ∷ (to_le_bytes w64 d ++ 0 ∷ [])) × IsDescriptor d
unfolding new_descriptor_in
new_takes bytes d fits e =
    let a = bind_ok (descriptor_at bytes) (λ d. empty_at d.1 >>= λ rest. ended (d.0, rest)) d e in
    let b = bind_ok (empty_at a.0.1) (λ rest. ended (a.0.0, rest)) d a.2 in
    let n = ended_ok (a.0.0, b.0) d b.2 in
    let ta = descriptor_takes bytes a.0.0 a.0.1 fits a.1 in
    let tb = empty_takes a.0.1 b.0 ta.2 b.1 in
    subst (λ (d : ℕ). (bytes ≡ 8 ∷ (to_le_bytes w64 d ++ 0 ∷ [])) × IsDescriptor d) n.1 (ta.0 ∙ ap (λ (x : List ℕ). 8 ∷ (to_le_bytes w64 a.0.0 ++ x)) (tb.0 ∙ ap (λ (x : List ℕ). 0 ∷ x) n.0), ta.1)

old_takes : (bytes : List ℕ) (d : ℕ) → IsBytes bytes → old_descriptor_in bytes ≡ Ok d → (bytes ≡ 0 ∷ 8 ∷ to_le_bytes w64 d) × IsDescriptor d
unfolding old_descriptor_in
old_takes bytes d fits e =
    let a = bind_ok (empty_at bytes) (λ rest. descriptor_at rest >>= λ d. ended d) d e in
    let b = bind_ok (descriptor_at a.0) (λ d. ended d) d a.2 in
    let n = ended_ok b.0 d b.2 in
    let ta = empty_takes bytes a.0 fits a.1 in
    let tb = descriptor_takes a.0 b.0.0 b.0.1 ta.1 b.1 in
    subst (λ (d : ℕ). (bytes ≡ 0 ∷ 8 ∷ to_le_bytes w64 d) × IsDescriptor d) n.1 (ta.0 ∙ ap (λ (x : List ℕ). 0 ∷ x) (tb.0 ∙ ap (λ (x : List ℕ). 8 ∷ (to_le_bytes w64 b.0.0 ++ x)) n.0), tb.1)

none_takes : (bytes : List ℕ) (e : EnvChange) → IsBytes bytes → no_descriptor_in bytes ≡ Ok e → (bytes ≡ 0 ∷ 0 ∷ []) × (ResetDone ≡ e)
unfolding no_descriptor_in
none_takes bytes e fits h =
    let a = bind_ok (empty_at bytes) (λ first. empty_at first >>= λ rest. ended (ResetDone, rest)) e h in
    let b = bind_ok (empty_at a.0) (λ rest. ended (ResetDone, rest)) e a.2 in
    let n = ended_ok (ResetDone, b.0) e b.2 in
    let ta = empty_takes bytes a.0 fits a.1 in
    let tb = empty_takes a.0 b.0 ta.1 b.1 in
    (ta.0 ∙ ap (λ (x : List ℕ). 0 ∷ x) (tb.0 ∙ ap (λ (x : List ℕ). 0 ∷ x) n.0), n.1)

abbrev IsEnv : EnvChange → List ℕ → Type 0
IsEnv e bytes = (bytes ≡ env_inside e) × FitsEnv e × RangedEnv e

env_takes_by : (kind : ℕ) (bytes : List ℕ) (e : EnvChange) → IsBytes bytes → env_of kind bytes ≡ Ok e → IsEnv e (kind ∷ bytes)
unfolding env_of
env_takes_by kind bytes e fits h =
    elim (chosen (eqb kind 8) (new_descriptor_in bytes >>= λ d. Ok (Begin d)) _ (Ok e) h) [
      | inl p ↦
          let b = bind_ok (new_descriptor_in bytes) (λ d. Ok (Begin d)) e p.1 in
          let t = new_takes bytes b.0 fits b.1 in
          subst (λ (e : EnvChange). IsEnv e (kind ∷ bytes)) (ok_is (Begin b.0) e b.2) (ap (λ (x : List ℕ). kind ∷ x) t.0 ∙ ap (λ (n : ℕ). n ∷ 8 ∷ (to_le_bytes w64 b.0 ++ 0 ∷ [])) (eqb-true _ _ p.0), t.1.0, t.1.1)
      | inr q ↦ elim (chosen (eqb kind 9) (old_descriptor_in bytes >>= λ d. Ok (Commit d)) _ (Ok e) q.1) [
        | inl p ↦
            let b = bind_ok (old_descriptor_in bytes) (λ d. Ok (Commit d)) e p.1 in
            let t = old_takes bytes b.0 fits b.1 in
            subst (λ (e : EnvChange). IsEnv e (kind ∷ bytes)) (ok_is (Commit b.0) e b.2) (ap (λ (x : List ℕ). kind ∷ x) t.0 ∙ ap (λ (n : ℕ). n ∷ 0 ∷ 8 ∷ to_le_bytes w64 b.0) (eqb-true _ _ p.0), t.1.0, t.1.1)
        | inr q ↦ elim (chosen (eqb kind 10) (old_descriptor_in bytes >>= λ d. Ok (Rollback d)) _ (Ok e) q.1) [
          | inl p ↦
              let b = bind_ok (old_descriptor_in bytes) (λ d. Ok (Rollback d)) e p.1 in
              let t = old_takes bytes b.0 fits b.1 in
              subst (λ (e : EnvChange). IsEnv e (kind ∷ bytes)) (ok_is (Rollback b.0) e b.2) (ap (λ (x : List ℕ). kind ∷ x) t.0 ∙ ap (λ (n : ℕ). n ∷ 0 ∷ 8 ∷ to_le_bytes w64 b.0) (eqb-true _ _ p.0), t.1.0, t.1.1)
          | inr q ↦
              let w = want_ok (eqb kind 18) WrongEnvChange (no_descriptor_in bytes) e q.1 in
              let t = none_takes bytes e fits w.1 in
              subst (λ (e : EnvChange). IsEnv e (kind ∷ bytes)) t.1 (ap (λ (x : List ℕ). kind ∷ x) t.0 ∙ ap (λ (n : ℕ). n ∷ 0 ∷ 0 ∷ []) (eqb-true _ _ w.0), tt, tt)
        ]
      ]
    ]

env_in_again : (e : EnvChange) → FitsEnv e → RangedEnv e → env_in (env_inside e) ≡ Ok e
unfolding env_in env_of new_descriptor_in old_descriptor_in no_descriptor_in empty_at
env_in_again (Begin d) fits ranged = rw (descriptor_again d (0 ∷ []) (fits, ranged)) refl
env_in_again (Commit d) fits ranged = rw (descriptor_again d [] (fits, ranged)) refl
env_in_again (Rollback d) fits ranged = rw (descriptor_again d [] (fits, ranged)) refl
env_in_again ResetDone fits ranged = refl

env_short : (e : EnvChange) → length (env_inside e) < 2 ^ 16
env_short (Begin d) = omega arith
env_short (Commit d) = omega arith
env_short (Rollback d) = omega arith
env_short ResetDone = omega arith

env_in_takes : (inside : List ℕ) (e : EnvChange) → IsBytes inside → env_in inside ≡ Ok e → IsEnv e inside
unfolding env_in
env_in_takes inside e fits h =
    let b = bind_ok (byte_at WrongLength inside) (λ kind. env_of kind.0 kind.1) e h in
    let tb = (byte_field WrongLength).takes inside b.0.0 b.0.1 fits b.1 in
    let tc = env_takes_by b.0.0 b.0.1 e tb.2 b.2 in
    (tb.0 ∙ tc.0, tc.1, tc.2)

pub env_takes : (bytes : List ℕ) (e : EnvChange) (rest : List ℕ) → IsBytes bytes → env_at bytes ≡ Ok (e, rest) → (bytes ≡ sized (env_inside e) ++ rest) × (FitsEnv e × RangedEnv e) × IsBytes rest
unfolding env_at
env_takes bytes e rest fits h =
    let a = bind_ok (sized_at bytes) (λ inside. env_in inside.0 >>= λ e. Ok (e, inside.1)) (e, rest) h in
    let c = bind_ok (env_in a.0.0) (λ e. Ok (e, a.0.1)) (e, rest) a.2 in
    let ta = sized_field.takes bytes a.0.0 a.0.1 fits a.1 in
    let tc = env_in_takes a.0.0 c.0 ta.1.1 c.1 in
    subst (λ (x : EnvChange × List ℕ). (bytes ≡ sized (env_inside x.0) ++ x.1) × (FitsEnv x.0 × RangedEnv x.0) × IsBytes x.1) (ok_is (c.0, a.0.1) (e, rest) c.2)
    (ta.0 ∙ ap (λ (x : List ℕ). sized x ++ a.0.1) tc.0, (tc.1, tc.2), ta.2)

pub env_again : (e : EnvChange) (rest : List ℕ) → FitsEnv e → RangedEnv e → env_at (sized (env_inside e) ++ rest) ≡ Ok (e, rest)
unfolding env_at
env_again e rest fits ranged = rw (sized_any (env_inside e) rest (env_short e), env_in_again e fits ranged) refl
