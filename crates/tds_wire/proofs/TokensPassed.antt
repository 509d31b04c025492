-- A parser passes exactly what the layout says is a token.
use Rattle.std.proofs.Common.{◌≡◌, refl, sym, ◌∙◌, ap, rules, arith, ℕ, zero, suc, ◌-◌, ◌%◌, ◌≤◌, ◌==◌, Bool, true, false, List, [], ◌∷◌, length, if◌then◌else◌}
use Rattle.tds_wire.specs.declared.fault.WireFault.TheVariants.{UnknownToken}
use Rattle.tds_wire.specs.declared.due.Field.TheVariants as field
use Rattle.tds_wire.specs.declared.due.TokenField.TheVariants as in_token
use Rattle.tds_wire.specs.declared.due.Next.TheVariants.{Ended, Then}
use Rattle.tds_wire.specs.declared.due.Due.TheVariants.{Token}
use Rattle.tds_wire.specs.Walking.{Walk, with_due, with_number, with_run, ended, pass, with_kind, begun}
use Rattle.tds_wire.specs.Bytes.{walk_step, to_end, onward, seen, seen_of}
use Rattle.tds_wire.specs.Layout.{Read, Got, ◌>>=◌, one, two, four, run, Seen, counted, long_counted, passed, promoted, change, features_at, token_behind, token_at, has_length, has_long_length, is_done}
use Rattle.tds_wire.proofs.FieldsPassed.{same_bind, number_none, number_seen, run_seen, pass_seen, ended_seen, broken_seen, run_shorter, four_shorter, one_shorter}
use Rattle.tds_wire.proofs.ColumnsPassed.{parameter_seen, list_columns_seen}
use Rattle.tds_wire.proofs.RowsPassed.{row_seen, null_row_seen}
use Rattle.tds_wire.proofs.LabelsPassed.{classification_seen}

-- a run up to the token's end
passed_seen : (w : Walk) (n : ℕ) (bytes : List ℕ) → seen (to_end (pass w n Ended) bytes) ≡ passed n (seen_of w) bytes
passed_seen w n bytes = pass_seen w n Ended bytes ∙ same_bind (run n bytes) _ _ (λ u rest q. ended_seen w rest)

run_ended : (w : Walk) (n : ℕ) (bytes : List ℕ) → seen (to_end (with_run w (suc n) Ended) bytes) ≡ passed (suc n) (seen_of w) bytes
run_ended w n bytes = run_seen w n Ended bytes ∙ same_bind (run (suc n) bytes) _ _ (λ u rest q. ended_seen w rest)

counted_seen : (w : Walk) (bytes : List ℕ) → seen (to_end (with_number w (field.Token in_token.Length)) bytes) ≡ counted (seen_of w) bytes
counted_seen w bytes = number_seen w (field.Token in_token.Length) bytes ∙ same_bind (two bytes) _ _ (λ n rest e. passed_seen w n rest)

long_counted_seen : (w : Walk) (bytes : List ℕ) → seen (to_end (with_number w (field.Token in_token.LongLength)) bytes) ≡ long_counted (seen_of w) bytes
long_counted_seen w bytes = number_seen w (field.Token in_token.LongLength) bytes ∙ same_bind (four bytes) _ _ (λ n rest e. passed_seen w n rest)

-- ---- ENVCHANGE

promoted_seen : (w : Walk) (bytes : List ℕ) → seen (to_end (with_number w (field.Token in_token.PromotedLength)) bytes) ≡ promoted (seen_of w) bytes
promoted_seen w bytes =
    number_seen w (field.Token in_token.PromotedLength) bytes
    ∙ same_bind (four bytes) _ _ (λ n a e. pass_seen w n (Then (field.Token in_token.PromotedOld)) a
    ∙ same_bind (run n a) _ _ (λ u b q. number_seen w (field.Token in_token.PromotedOld) b
    ∙ same_bind (one b) _ _ (λ m c o. passed_seen w m c)))

type_by : (b : Bool) (w : Walk) (n : ℕ) (rest : List ℕ)
    → seen (to_end (if b then with_number w (field.Token in_token.PromotedLength) else pass w n Ended) rest) ≡ (if b then promoted (seen_of w) rest else passed n (seen_of w) rest)
type_by true w n rest = promoted_seen w rest
type_by false w n rest = passed_seen w n rest

change_by : (n : ℕ) (w : Walk) (rest : List ℕ)
    → seen (to_end (if n == 0 then ended w else with_number w (field.Token (in_token.Change (n - 1)))) rest) ≡ change n (seen_of w) rest
change_by zero w rest = ended_seen w rest
change_by (suc n) w rest =
    let e : (suc n == 0) ≡ false = search rules in
    rw e (number_seen w (field.Token (in_token.Change (suc n - 1))) rest ∙ same_bind (one rest) _ _ (λ t more o. type_by (t == 15) w (suc n - 1) more))

change_seen : (w : Walk) (bytes : List ℕ) → seen (to_end (with_number w (field.Token in_token.ChangeLength)) bytes) ≡ (two bytes >>= λ n rest. change (n % 65536) (seen_of w) rest)
change_seen w bytes = number_seen w (field.Token in_token.ChangeLength) bytes ∙ same_bind (two bytes) _ _ (λ n rest e. change_by (n % 65536) w rest)

-- ---- FEATUREEXTACK

feature_by : (b : Bool) (most : ℕ) (w : Walk) (rest : List ℕ)
    → ((more : List ℕ) → length more ≤ length rest → seen (to_end (with_number w (field.Token in_token.Feature)) more) ≡ features_at most (seen_of w) more)
    → seen (to_end (if b then ended w else with_number w (field.Token in_token.FeatureLength)) rest)
    ≡ (if b then Got (seen_of w) rest else (four rest >>= λ count more. run count more >>= λ u others. features_at most (seen_of w) others))
feature_by true most w rest g = ended_seen w rest
feature_by false most w rest g =
    number_seen w (field.Token in_token.FeatureLength) rest
    ∙ same_bind (four rest) _ _ (λ count more e. let l = four_shorter rest more count e in
    pass_seen w count (Then (field.Token in_token.Feature)) more
    ∙ same_bind (run count more) _ _ (λ u others q. let k = run_shorter count more others u q in g others (omega (arith, l, k))))

features_seen : (most : ℕ) (w : Walk) (bytes : List ℕ) → length bytes ≤ most
    → seen (to_end (with_number w (field.Token in_token.Feature)) bytes) ≡ features_at most (seen_of w) bytes
unfolding features_at
features_seen zero w [] h = number_none w (field.Token in_token.Feature) 1 0
features_seen zero w (b ∷ bytes) h = absurd (omega (arith, h))
features_seen (suc most) w bytes h =
    number_seen w (field.Token in_token.Feature) bytes
    ∙ same_bind (one bytes) _ _ (λ n rest e. let l = one_shorter bytes rest n e in
    feature_by (n == 255) most w rest (λ more k. features_seen most w more (omega (arith, l, h, k))))

-- ---- Each token

if_seen : (b : Bool) (x y : Walk) (p q : Read Seen) (rest : List ℕ) → seen (to_end x rest) ≡ p → (b ≡ false → seen (to_end y rest) ≡ q)
    → seen (to_end (if b then x else y) rest) ≡ (if b then p else q)
if_seen true x y p q rest g h = g
if_seen false x y p q rest g h = h refl

begun_seen : (w : Walk) (byte : ℕ) (rest : List ℕ) → length w.columns ≤ 4096 → length w.nulls ≡ 512
    → seen (to_end (begun w byte) rest) ≡ token_behind w.most w.features byte (seen_of w) rest
unfolding begun token_behind
begun_seen w byte rest m d =
    if_seen (has_length byte) _ _ _ _ rest (counted_seen w rest) (λ e.
    if_seen (is_done byte) _ _ _ _ rest (run_ended w 11 rest) (λ e.
    if_seen (byte == 0xD1) _ _ _ _ rest (row_seen w rest (omega (arith, m))) (λ e.
    if_seen (byte == 0xD2) _ _ _ _ rest (null_row_seen w rest d m) (λ e.
    if_seen (byte == 0x81) _ _ _ _ rest (list_columns_seen w rest) (λ e.
    if_seen (byte == 0xE3) _ _ _ _ rest (change_seen w rest) (λ e.
    if_seen (byte == 0x79) _ _ _ _ rest (run_ended w 3 rest) (λ e.
    if_seen (byte == 0xAC) _ _ _ _ rest (parameter_seen w rest) (λ e.
    if_seen (has_long_length byte) _ _ _ _ rest (long_counted_seen w rest) (λ e.
    if_seen (byte == 0xAE) _ _ _ _ rest (features_seen (length rest) w rest (omega arith)) (λ e.
    if_seen (byte == 0xA3) _ _ _ _ rest (classification_seen w rest) (λ e.
    broken_seen w UnknownToken rest)))))))))))

token_from : (w : Walk) (bytes : List ℕ) → length w.columns ≤ 4096 → length w.nulls ≡ 512
    → seen (onward (ended w) bytes) ≡ token_at w.most w.features (seen_of w) bytes
unfolding onward walk_step token_at
token_from w [] m d = refl
token_from w (byte ∷ rest) m d = begun_seen (with_kind (ended w) byte) byte rest m d

-- a parser between two tokens passes what the layout says is one, and no other bytes
pub token_seen : (w : Walk) (bytes : List ℕ) → w.at.due ≡ Token → length w.columns ≤ 4096 → length w.nulls ≡ 512
    → seen (onward w bytes) ≡ token_at w.most w.features (seen_of w) bytes
token_seen w bytes h m d = ap (λ (x : Walk). seen (onward x bytes)) (sym (ap (with_due w) (sym h))) ∙ token_from w bytes m d
