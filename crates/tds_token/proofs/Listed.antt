-- Columns behind their count.
use Rattle.std.proofs.Common.{◌≡◌, ℕ, ◌≤◌, ◌||◌, eqb, ltb, List, length, Ok, Err, sym, ap, subst, ◌∙◌}
use Rattle.std.specs.Int.{w16}
use Rattle.tds_token.specs.declared.fault.TokenFault.{TokenFault}
use Rattle.tds_token.specs.declared.fault.TokenFault.TheVariants.{Cut, WrongColumn}
use Rattle.tds_token.specs.Lent.{IsColumnList}
use Rattle.tds_token.specs.Reading.{after_of, number_at, columns_at, columns_of, column_list_at, list_or_none}
use Rattle.tds_token.proofs.Fields.{bind_ok, unless_ok, ok_is}
use Rattle.tds_token.proofs.Skipping.{count_is, list_is}
use Rattle.tds_token.proofs.Tables.{in_order, in_range}

-- where these columns are read behind their count
pub is_listed : (bytes : List ℕ) (n : ℕ) (rest after : List ℕ) → number_at Cut w16 bytes ≡ Ok (n, rest) → 1 ≤ n → n ≤ 16 → after_of (columns_at n rest) ≡ Ok after → IsColumnList bytes
unfolding column_list_at
is_listed bytes n rest after e least most h = (columns_of n rest, after, rw (e, in_order n least most) (list_is (columns_at n rest) after h))

-- the count of such columns
pub record Listed (bytes : List ℕ) (n : ℕ) (rest : List ℕ) : Type 0 where
  pub least : 1 ≤ n
  pub most : n ≤ 16
  pub columns : columns_of n rest ≡ list_or_none (column_list_at bytes)
  pub whole : length (columns_of n rest) ≡ n

pub listed : (bytes : List ℕ) (n : ℕ) (rest : List ℕ) → IsColumnList bytes → number_at Cut w16 bytes ≡ Ok (n, rest) → Listed bytes n rest
unfolding column_list_at
listed bytes n rest h e =
    let a = bind_ok (number_at Cut w16 bytes) _ (h.0, h.1) h.2 in
    let u = unless_ok (eqb a.0.0 0 || ltb 16 a.0.0) WrongColumn (columns_at a.0.0 a.0.1) (h.0, h.1) a.2 in
    let range : (1 ≤ a.0.0) × (a.0.0 ≤ 16) = in_range a.0.0 u.0 in
    subst (λ (x : ℕ × List ℕ). Listed bytes x.0 x.1) (ok_is a.0 (n, rest) (sym a.1 ∙ e)) (record {
      least = range.0;
      most = range.1;
      columns = ap list_or_none u.1 ∙ sym (ap list_or_none h.2);
      whole = count_is a.0.0 a.0.1 h.1 (ap after_of u.1);
    })

-- it is there
pub counted : (bytes : List ℕ) (fault : TokenFault) → IsColumnList bytes → number_at Cut w16 bytes ≡ Err fault → ⊥
unfolding column_list_at
counted bytes fault h e =
    let a = bind_ok (number_at Cut w16 bytes) _ (h.0, h.1) h.2 in
    let both : Ok a.0 ≡ Err fault = sym a.1 ∙ e in absurd cc
