-- Values that are at home.
use Rattle.std.proofs.Common.{◌≡◌, ◌∙◌, ◌<◌, ◌≤◌, ℕ, Bool, true, false, List, set, sym, ap, arith, ⊎_elim}
use Rattle.std.proofs.lemmas.Bool.{cases_lt}
use Rattle.std.proofs.lemmas.List.{get_or-replicate, set-get_or, set_past, length-replicate}
use Rattle.std.specs.Prelude.{not}
use Rattle.tds_state.specs.Ledgers.{none_astray}

none_at : (id : ℕ) → set none_astray id false ≡ none_astray
none_at id = ⊎_elim inside past (cases_lt id 256) where
  inside : id < 256 → set none_astray id false ≡ none_astray
  inside h = ap (set none_astray id) (sym (get_or-replicate 256 id false false h)) ∙ set-get_or none_astray id false

  past : 256 ≤ id → set none_astray id false ≡ none_astray
  past h = set_past none_astray id false (omega (arith, h, length-replicate 256 false))

pub stays_calm : (astray : List Bool) (id : ℕ) (is_home : Bool) → astray ≡ none_astray → is_home ≡ true → set astray id (not is_home) ≡ none_astray
stays_calm astray id is_home none home =
    ap (λ (xs : List Bool). set xs id (not is_home)) none
    ∙ (ap (λ (b : Bool). set none_astray id (not b)) home ∙ none_at id)
