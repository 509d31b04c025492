-- Columns as the layout has them.
use Rattle.std.proofs.Common.{◌≡◌, ◌∙◌, ◌≤◌, ◌<◌, ℕ, zero, suc, ◌+◌, ◌-◌, ◌*◌, ◌%◌, ◌==◌, Bool, true, false, List, [], ◌∷◌, ◌++◌, length, get_or, ◌⊎◌, inl, inr, refl, sym, ap, rules, arith, append_assoc}
use Rattle.std.specs.Prelude.{Some, nat_lt}
use Rattle.std.proofs.lemmas.List.{append-nil}
use Rattle.tds_wire.specs.declared.features.Features.{Features}
use Rattle.tds_wire.specs.declared.shape.Shape.{Shape}
use Rattle.tds_wire.specs.declared.shape.Shape.TheVariants as shape
use Rattle.tds_wire.specs.Layout.{Read, Got, Short, Wrong, ◌>>=◌, Seen, cipher_if, column_list, columns_at, four, info_at, is_ciphered, key_table, name, one, run, table_at, token_at, token_behind, two, type_at, with_columns}
use Rattle.tds_wire.specs.Memory.{column_of, shape_of}
use Rattle.tds_wire.specs.Types.{type_of}
use Rattle.tds_rows.specs.declared.place.RowColumn.{RowColumn}
use Rattle.tds_rows.specs.Columns.{all_described, described_at, described_column, head_at, listed_columns, metadata_at, name_units}
use Rattle.tds_rows.specs.Finding.{column_shapes}
use Rattle.tds_rows.specs.Laws.{HasRoomFor, described_as}
use Rattle.tds_rows.proofs.Loops.{bind_bind, same_bind}

-- a shape, out of the two bytes that it is kept in
shape_again : (s : Shape) → shape_of (column_of s) ≡ s
unfolding shape_of
shape_again (shape.Fixed n) = refl
shape_again shape.Byte = refl
shape_again shape.Short = refl
shape_again shape.Long = refl
shape_again shape.Pointer = refl
shape_again shape.Parts = refl

-- four bytes are passed where a number of four bytes is read
four_passed : {B : Type 0} → (bytes : List ℕ) (f : List ℕ → Read B) → (four bytes >>= λ n rest. f rest) ≡ (run 4 bytes >>= λ u rest. f rest)
unfolding run
four_passed [] f = refl
four_passed (a ∷ []) f = refl
four_passed (a ∷ b ∷ []) f = refl
four_passed (a ∷ b ∷ c ∷ []) f = refl
four_passed (a ∷ b ∷ c ∷ d ∷ bytes) f = refl

-- ---- One column

-- what follows a column, of its shape alone
abbrev by_shape : {B : Type 0} → (Shape → List ℕ → Read B) → RowColumn → List ℕ → Read B
by_shape f c rest = f (shape_of c.shape) rest

abbrev behind_type : {B : Type 0} → (Shape → List ℕ → Read B) → Bool → Shape → List ℕ → Read B
behind_type f ciphered s bytes = table_at s bytes >>= λ v d. cipher_if ciphered 2 d >>= λ x e. name e >>= λ y g. f s g

module _ {B : Type 0} (f : Shape → List ℕ → Read B) (user flags kind : ℕ) (size : List ℕ → ℕ) (info : List ℕ) where
  -- a column whose shape is known, behind its name
  abbrev made : Shape → List ℕ → ℕ → List ℕ → Read B
  made s e n rest = by_shape f (described_column user flags kind info s (size e) n) rest

  made_is : (s : Shape) (e : List ℕ) (n : ℕ) (rest : List ℕ) → made s e n rest ≡ f s rest
  made_is s e n rest = ap (λ (x : Shape). f x rest) (shape_again s)

  abbrev by_units : Shape → ℕ → List ℕ → Read B
  by_units s n e = run (2 * n) e >>= λ u rest. made s e n rest

  by_name : (s : Shape) (e : List ℕ) → (one e >>= λ n g. by_units s n g) ≡ (name e >>= λ y g. f s g)
  by_name s e =
      same_bind (one e) _ _ (λ n g. same_bind (run (2 * n) g) _ _ (λ u rest. made_is s g n rest))
      ∙ sym (bind_bind (one e) _ _)

  pub named : (ciphered : Bool) (s : Shape) (bytes : List ℕ) → (name_units s ciphered bytes >>= λ n e. by_units s n e) ≡ behind_type f ciphered s bytes
  unfolding name_units
  named ciphered s bytes =
      bind_bind (table_at s bytes) _ _
      ∙ same_bind (table_at s bytes) _ _ (λ v d. bind_bind (cipher_if ciphered 2 d) _ _
      ∙ same_bind (cipher_if ciphered 2 d) _ _ (λ x e. by_name s e))

module _ {B : Type 0} (f : Shape → List ℕ → Read B) (features : Features) where
  abbrev behind_head : ℕ × ℕ × ℕ → List ℕ → Read B
  behind_head h c = info_at (type_of h.2) c >>= λ s d. behind_type f (is_ciphered features h.1) s d

  abbrev behind_flags : ℕ → List ℕ → Read B
  behind_flags flags b = type_at b >>= λ s d. behind_type f (is_ciphered features flags) s d

  described_on : (size : ℕ) (bytes : List ℕ) → (described_at features size bytes >>= by_shape f) ≡ (head_at bytes >>= behind_head)
  unfolding described_at
  described_on size bytes =
      bind_bind (head_at bytes) _ _
      ∙ same_bind (head_at bytes) _ _ (λ h c. bind_bind (info_at (type_of h.2) c) _ _
      ∙ same_bind (info_at (type_of h.2) c) _ _ (λ s d. bind_bind (name_units s (is_ciphered features h.1) d) _ _
      ∙ (same_bind (name_units s (is_ciphered features h.1) d) _ _ (λ n e. bind_bind (run (2 * n) e) _ _)
      ∙ named f h.0 h.1 h.2 (λ e. size - length e) c (is_ciphered features h.1) s d)))

  head_on : (bytes : List ℕ) → (head_at bytes >>= behind_head) ≡ (four bytes >>= λ user a. two a >>= behind_flags)
  head_on bytes =
      bind_bind (four bytes) _ _
      ∙ same_bind (four bytes) _ _ (λ user a. bind_bind (two a) _ _
      ∙ same_bind (two a) _ _ (λ flags b. bind_bind (one b) _ _
      ∙ sym (bind_bind (one b) _ _)))

  pub column_is : (size : ℕ) (bytes : List ℕ) → (described_at features size bytes >>= by_shape f) ≡ (run 4 bytes >>= λ u a. two a >>= behind_flags)
  column_is size bytes = described_on size bytes ∙ (head_on bytes ∙ four_passed bytes (λ a. two a >>= behind_flags))

-- ---- All columns

abbrev listed_behind : List Shape → Read (List RowColumn) → Read (List Shape)
listed_behind known r = r >>= λ columns rest. Got (known ++ column_shapes columns) rest

one_more : (known : List Shape) (c : RowColumn) (r : Read (List RowColumn))
    → (r >>= λ columns more. Got (known ++ column_shapes (c ∷ columns)) more) ≡ listed_behind (known ++ shape_of c.shape ∷ []) r
unfolding column_shapes
one_more known c (Got columns rest) = ap (λ (xs : List Shape). Got xs rest) (sym (append_assoc known (shape_of c.shape ∷ []) (column_shapes columns)))
one_more known c Short = refl
one_more known c (Wrong fault rest) = refl

columns_is : (features : Features) (size n : ℕ) (known : List Shape) (bytes : List ℕ)
    → columns_at features n known bytes ≡ listed_behind known (all_described features size n bytes)
unfolding columns_at all_described column_shapes
columns_is features size zero known bytes = ap (λ (xs : List Shape). Got xs bytes) (sym (append-nil known))
columns_is features size (suc n) known bytes =
    let f = λ (s : Shape) (rest : List ℕ). columns_at features n (known ++ s ∷ []) rest in
    sym (bind_bind (described_at features size bytes) _ _
    ∙ (same_bind (described_at features size bytes) _ _ (λ c rest. bind_bind (all_described features size n rest) _ _
    ∙ (one_more known c (all_described features size n rest) ∙ sym (columns_is features size n (known ++ shape_of c.shape ∷ []) rest)))
    ∙ column_is f features size bytes))

-- ---- The token

listed : (s : Seen) (r : Read (List RowColumn))
    → (listed_behind [] r >>= λ columns more. Got (with_columns s columns) more) ≡ described_as s (r >>= λ columns more. Got (Some columns) more)
listed s (Got columns rest) = refl
listed s Short = refl
listed s (Wrong fault rest) = refl

counted_is : (most n size : ℕ) (features : Features) (s : Seen) (bytes : List ℕ) → (none many : Bool) → (n == 65535) ≡ none → nat_lt most n ≡ many → (n ≡ 65535) ⊎ (n ≤ most)
    → column_list most features s n bytes ≡ described_as s (listed_columns features size n bytes)
unfolding column_list listed_columns
counted_is most n size features s bytes true many e f room = rw e refl
counted_is most n size features s bytes false true e f (inl same) = absurd cc
counted_is most n size features s bytes false true e f (inr few) = absurd (let k : most < n = search rules in omega (arith, k, few))
counted_is most n size features s bytes false false e f room =
    rw (e, f) (same_bind (key_table features.encryption bytes) _ _ (λ u rest.
    ap (λ (r : Read (List Shape)). r >>= λ columns more. Got (with_columns s columns) more) (columns_is features size n [] rest)
    ∙ listed s (all_described features size n rest))
    ∙ sym (bind_bind (key_table features.encryption bytes) _ _))

few_counted : (a b : ℕ) → a < 256 → b < 256 → (a + 256 * b) % 65536 ≡ a + 256 * b
few_counted a b h k = omega (arith, h, k)

abbrev token_is : ℕ → ℕ → Features → List Shape → List ℕ → Type 0
token_is most kind features known bytes =
    token_at most features (record { kind = kind; columns = known }) bytes ≡ described_as (record { kind = 0x81; columns = known }) (metadata_at features bytes)

pub columns_laid : (most kind : ℕ) (features : Features) (known : List Shape) (bytes : List ℕ) → ((i : ℕ) → get_or bytes i 0 < 256) → get_or bytes 0 0 ≡ 0x81
    → HasRoomFor most bytes → token_is most kind features known bytes
unfolding token_at token_behind metadata_at
columns_laid most kind features known [] are h room = absurd cc
columns_laid most kind features known (t ∷ []) are h room = rw h refl
columns_laid most kind features known (t ∷ a ∷ []) are h room = rw h refl
columns_laid most kind features known (t ∷ a ∷ b ∷ bytes) are h room =
    let n = a + 256 * b in
    let few : n % 65536 ≡ n = few_counted a b (are 1) (are 2) in
    rw h (rw few (counted_is most n (length (t ∷ a ∷ b ∷ bytes)) features (record { kind = 0x81; columns = known }) bytes (n == 65535) (nat_lt most n) refl refl room))
