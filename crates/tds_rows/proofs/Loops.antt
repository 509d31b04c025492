-- One field behind another, and fields over a count.
use Rattle.std.proofs.Common.{◌≡◌, ◌∙◌, ◌<◌, ℕ, zero, suc, ◌-◌, List, [], ◌∷◌, ◌++◌, drop, refl, sym, ap, arith, append_assoc}
use Rattle.std.proofs.lemmas.List.{append-nil}
use Rattle.tds_wire.specs.declared.features.Features.{Features}
use Rattle.tds_wire.specs.Layout.{Read, Got, Short, Wrong, ◌>>=◌, key_values, keys_at, long_name, name, name_parts, one, run, two}
use Rattle.tds_rows.specs.Columns.{all_described, described_at, column_key, key_value}
use Rattle.tds_rows.specs.Places.{two_from}
use Rattle.tds_rows.specs.declared.place.RowColumn.{RowColumn}
use Rattle.tds_rows.specs.declared.place.RowFault.{RowFault}
use Rattle.tds_rows.specs.declared.place.RowFault.TheVariants as fault
use Rattle.tds_rows.specs.Reading.{Fails}

pub fails_on : {A B : Type 0} → (e : RowFault) (r : Read A) (f : A → List ℕ → Read B) → Fails e r → Fails e (r >>= f)
fails_on fault.Short r f h = ap (λ x. x >>= f) h
fails_on fault.UnknownType r f h = (h.0, ap (λ x. x >>= f) h.1)
fails_on fault.OtherToken r f h = absurd h
fails_on fault.NoColumns r f h = absurd h
fails_on fault.NoRoom r f h = absurd h

pub name_parts_on : (n : ℕ) (bytes : List ℕ) → 0 < n → name_parts n bytes ≡ (long_name bytes >>= λ u rest. name_parts (n - 1) rest)
unfolding name_parts
name_parts_on zero bytes h = absurd (omega (arith, h))
name_parts_on (suc n) bytes h =
    let k : suc n - 1 ≡ n = omega arith in
    rw k refl

pub name_parts_over : (bytes : List ℕ) → name_parts 0 bytes ≡ Got tt bytes
unfolding name_parts
name_parts_over bytes = refl

-- ---- Tables of keys

pub bind_bind : {A B C : Type 0} → (r : Read A) (f : A → List ℕ → Read B) (g : B → List ℕ → Read C) → ((r >>= f) >>= g) ≡ (r >>= λ x rest. f x rest >>= g)
bind_bind (Got x rest) f g = refl
bind_bind Short f g = refl
bind_bind (Wrong fault rest) f g = refl

pub same_bind : {A B : Type 0} → (r : Read A) (f g : A → List ℕ → Read B) → ((x : A) (rest : List ℕ) → f x rest ≡ g x rest) → (r >>= f) ≡ (r >>= g)
same_bind (Got x rest) f g h = h x rest
same_bind Short f g h = refl
same_bind (Wrong fault rest) f g h = refl

pub key_values_on : (n : ℕ) (bytes : List ℕ) → 0 < n → key_values n bytes ≡ (key_value bytes >>= λ u rest. key_values (n - 1) rest)
unfolding key_values
key_values_on zero bytes h = absurd (omega (arith, h))
key_values_on (suc n) bytes h =
    let k : suc n - 1 ≡ n = omega arith in
    let g = λ (u : Unit {0}) (rest : List ℕ). key_values n rest in
    rw k (sym (bind_bind (two bytes) _ g
    ∙ same_bind (two bytes) _ _ (λ m a. bind_bind (run m a) _ g
    ∙ same_bind (run m a) _ _ (λ u b. bind_bind (name b) _ g
    ∙ same_bind (name b) _ _ (λ v c. bind_bind (long_name c) _ g)))))

pub key_values_over : (bytes : List ℕ) → key_values 0 bytes ≡ Got tt bytes
unfolding key_values
key_values_over bytes = refl

pub keys_on : (n : ℕ) (bytes : List ℕ) → 0 < n → keys_at n bytes ≡ (column_key bytes >>= λ u rest. keys_at (n - 1) rest)
unfolding keys_at
keys_on zero bytes h = absurd (omega (arith, h))
keys_on (suc n) bytes h =
    let k : suc n - 1 ≡ n = omega arith in
    let g = λ (u : Unit {0}) (rest : List ℕ). keys_at n rest in
    rw k (sym (bind_bind (run 20 bytes) _ g
    ∙ same_bind (run 20 bytes) _ _ (λ u a. bind_bind (one a) _ g)))

pub keys_over : (bytes : List ℕ) → keys_at 0 bytes ≡ Got tt bytes
unfolding keys_at
keys_over bytes = refl

-- ---- Columns, one behind the other

-- columns before those that are read
abbrev pub behind_front : List RowColumn → Read (List RowColumn) → Read (List RowColumn)
behind_front front r = r >>= λ cs rest. Got (front ++ cs) rest

pub behind_none : (r : Read (List RowColumn)) → behind_front [] r ≡ r
behind_none (Got cs rest) = refl
behind_none Short = refl
behind_none (Wrong fault rest) = refl

behind_more : (front : List RowColumn) (c : RowColumn) (r : Read (List RowColumn)) → behind_front front (r >>= λ cs rest. Got (c ∷ cs) rest) ≡ behind_front (front ++ c ∷ []) r
behind_more front c (Got cs rest) = ap (λ (xs : List RowColumn). Got xs rest) (sym (append_assoc front (c ∷ []) cs))
behind_more front c Short = refl
behind_more front c (Wrong fault rest) = refl

abbrev pub others_behind : Features → ℕ → ℕ → RowColumn → List ℕ → Read (List RowColumn)
others_behind features size n c rest = all_described features size n rest >>= λ cs more. Got (c ∷ cs) more

pub described_on : (features : Features) (size n : ℕ) (bytes : List ℕ) → 0 < n
    → all_described features size n bytes ≡ (described_at features size bytes >>= λ c rest. others_behind features size (n - 1) c rest)
unfolding all_described
described_on features size zero bytes h = absurd (omega (arith, h))
described_on features size (suc n) bytes h =
    let k : suc n - 1 ≡ n = omega arith in
    rw k refl

pub described_step : (front : List RowColumn) (features : Features) (size n : ℕ) (bytes : List ℕ) (c : RowColumn) (rest : List ℕ) → 0 < n
    → described_at features size bytes ≡ Got c rest
    → behind_front front (all_described features size n bytes) ≡ behind_front (front ++ c ∷ []) (all_described features size (n - 1) rest)
described_step front features size n bytes c rest h e =
    ap (behind_front front) (described_on features size n bytes h ∙ ap (λ r. r >>= λ x more. others_behind features size (n - 1) x more) e)
    ∙ behind_more front c (all_described features size (n - 1) rest)

pub described_over : (front : List RowColumn) (features : Features) (size : ℕ) (bytes : List ℕ) → behind_front front (all_described features size 0 bytes) ≡ Got front bytes
unfolding all_described
described_over front features size bytes = ap (λ (xs : List RowColumn). Got xs bytes) (append-nil front)

-- ---- A COLMETADATA's first bytes

abbrev rest_of : {A : Type 0} → Read A → List ℕ
rest_of (Got x rest) = rest
rest_of Short = []
rest_of (Wrong fault rest) = rest

abbrev number_of : Read ℕ → ℕ
number_of (Got n rest) = n
number_of Short = 0
number_of (Wrong fault rest) = 0

pub behind_one : (bytes : List ℕ) (b : ℕ) (rest : List ℕ) → one bytes ≡ Got b rest → rest ≡ drop 1 bytes
behind_one [] b rest e = absurd cc
behind_one (a ∷ bytes) b rest e = sym (ap rest_of e)

two_is : (bytes : List ℕ) (n : ℕ) (more : List ℕ) → two bytes ≡ Got n more → n ≡ two_from 0 bytes
two_is [] n more e = absurd cc
two_is (a ∷ []) n more e = absurd cc
two_is (a ∷ b ∷ bytes) n more e = sym (ap number_of e)

pub counted : (bytes : List ℕ) (b n : ℕ) (rest more : List ℕ) → one bytes ≡ Got b rest → two rest ≡ Got n more → n ≡ two_from 1 bytes
counted [] b n rest more e f = absurd cc
counted (a ∷ bytes) b n rest more e f = two_is bytes n more (ap two (ap rest_of e) ∙ f)
