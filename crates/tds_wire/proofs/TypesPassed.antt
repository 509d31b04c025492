-- A type is passed as the layout has it, and crypto metadata.
use Rattle.std.proofs.Common.{◌≡◌, refl, sym, ◌∙◌, ap, arith, ℕ, suc, ◌+◌, ◌*◌, ◌==◌, Bool, true, false, List, [], ◌∷◌, if◌then◌else◌}
use Rattle.tds_wire.specs.declared.shape.Shape.{Shape}
use Rattle.tds_wire.specs.declared.shape.Shape.TheVariants as shape
use Rattle.tds_wire.specs.declared.types.TypeInfo.{TypeInfo}
use Rattle.tds_wire.specs.declared.types.TypeInfo.TheVariants as info
use Rattle.tds_wire.specs.declared.due.Field.TheVariants as field
use Rattle.tds_wire.specs.declared.due.ColumnField.TheVariants as in_column
use Rattle.tds_wire.specs.declared.due.TypeField.TheVariants as in_type
use Rattle.tds_wire.specs.declared.due.Next.TheVariants.{Then, Described, Ciphered}
use Rattle.tds_wire.specs.declared.due.Inside.{Inside}
use Rattle.tds_wire.specs.Types.{type_of}
use Rattle.tds_wire.specs.Walking.{Walk, with_number, with_run, with_inside, with_shape, described, ciphered, go, typed}
use Rattle.tds_wire.specs.Bytes.{to_end, seen}
use Rattle.tds_wire.specs.Layout.{Read, Got, ◌>>=◌, one, run, name, long_name, info_at, type_at, cipher_at, Seen}
use Rattle.tds_wire.proofs.FieldsPassed.{same_bind, bind_bind, chain, run_seen, pass_seen, via, name_seen, long_name_seen}

-- what is seen behind the type of a column or of a parameter
abbrev pub behind_shape : Walk → Shape → List ℕ → Read Seen
behind_shape w s rest = seen (to_end (described w.at.inside (with_shape w s)) rest)

abbrev xml_at : List ℕ → Read Shape
xml_at rest = name rest >>= λ u a. name a >>= λ v c. long_name c >>= λ x d. Got shape.Parts d

xml_by : (b : Bool) (w : Walk) (rest : List ℕ)
    → seen (to_end (if b then go (with_shape w shape.Parts) Described else with_number (with_shape w shape.Parts) (field.Type in_type.XmlDatabase)) rest)
    ≡ ((if b then Got shape.Parts rest else xml_at rest) >>= behind_shape w)
xml_by true w rest = refl
xml_by false w rest =
    let v : Walk = with_shape w shape.Parts in
    name_seen v (field.Type in_type.XmlDatabase) (Then (field.Type in_type.XmlOwner)) rest refl (λ n. refl)
    ∙ (same_bind (name rest) _ (λ u a. (name a >>= λ v c. long_name c >>= λ x d. Got shape.Parts d) >>= behind_shape w)
    (λ u a q. name_seen v (field.Type in_type.XmlOwner) (Then (field.Type in_type.XmlCollection)) a refl (λ n. refl)
    ∙ (same_bind (name a) _ (λ v c. (long_name c >>= λ x d. Got shape.Parts d) >>= behind_shape w)
    (λ u c q. long_name_seen v (field.Type in_type.XmlCollection) Described c refl (λ n. refl) ∙ sym (bind_bind (long_name c) (λ x d. Got shape.Parts d) (behind_shape w)))
    ∙ sym (bind_bind (name a) (λ v c. long_name c >>= λ x d. Got shape.Parts d) (behind_shape w))))
    ∙ sym (bind_bind (name rest) (λ u a. name a >>= λ v c. long_name c >>= λ x d. Got shape.Parts d) (behind_shape w)))

abbrev made_at : List ℕ → Read Shape
made_at rest = name rest >>= λ u a. name a >>= λ v b. name b >>= λ x c. long_name c >>= λ y d. Got shape.Parts d

made_seen : (w : Walk) (rest : List ℕ) → seen (to_end (with_number (with_shape w shape.Parts) (field.Type in_type.UdtDatabase)) rest) ≡ (made_at rest >>= behind_shape w)
made_seen w rest =
    let v : Walk = with_shape w shape.Parts in
    name_seen v (field.Type in_type.UdtDatabase) (Then (field.Type in_type.UdtSchema)) rest refl (λ n. refl)
    ∙ (same_bind (name rest) _ (λ u a. (name a >>= λ v b. name b >>= λ x c. long_name c >>= λ y d. Got shape.Parts d) >>= behind_shape w)
    (λ u a q. name_seen v (field.Type in_type.UdtSchema) (Then (field.Type in_type.UdtName)) a refl (λ n. refl)
    ∙ (same_bind (name a) _ (λ v b. (name b >>= λ x c. long_name c >>= λ y d. Got shape.Parts d) >>= behind_shape w)
    (λ u b q. name_seen v (field.Type in_type.UdtName) (Then (field.Type in_type.UdtAssembly)) b refl (λ n. refl)
    ∙ (same_bind (name b) _ (λ x c. (long_name c >>= λ y d. Got shape.Parts d) >>= behind_shape w)
    (λ u c q. long_name_seen v (field.Type in_type.UdtAssembly) Described c refl (λ n. refl) ∙ sym (bind_bind (long_name c) (λ y d. Got shape.Parts d) (behind_shape w)))
    ∙ sym (bind_bind (name b) (λ x c. long_name c >>= λ y d. Got shape.Parts d) (behind_shape w))))
    ∙ sym (bind_bind (name a) (λ v b. name b >>= λ x c. long_name c >>= λ y d. Got shape.Parts d) (behind_shape w))))
    ∙ sym (bind_bind (name rest) (λ u a. name a >>= λ v b. name b >>= λ x c. long_name c >>= λ y d. Got shape.Parts d) (behind_shape w)))

info_seen : (w : Walk) (i : TypeInfo) (bytes : List ℕ) → seen (to_end (typed w i) bytes) ≡ (info_at i bytes >>= behind_shape w)
unfolding info_at to_end
info_seen w (info.Info n s) bytes = pass_seen (with_shape w s) n Described bytes ∙ sym (bind_bind (run n bytes) (λ u rest. Got s rest) (behind_shape w))
info_seen w (info.Limited collated) bytes =
    via w (field.Type (in_type.MaxLength collated)) bytes (λ n rest. run (if collated then 5 else 0) rest >>= λ u more. Got (if n == 65535 then shape.Parts else shape.Short) more)
    (behind_shape w)
    (λ n rest e. pass_seen (with_shape w (if n == 65535 then shape.Parts else shape.Short)) (if collated then 5 else 0) Described rest
    ∙ sym (bind_bind (run (if collated then 5 else 0) rest) (λ u more. Got (if n == 65535 then shape.Parts else shape.Short) more) (behind_shape w)))
info_seen w info.Xml bytes =
    via (with_shape w shape.Parts) (field.Type in_type.Schema) bytes
    (λ n rest. if n == 0 then Got shape.Parts rest else (name rest >>= λ u a. name a >>= λ v c. long_name c >>= λ x d. Got shape.Parts d))
    (behind_shape w) (λ n rest e. xml_by (n == 0) w rest)
info_seen w info.Made bytes =
    run_seen (with_shape w shape.Parts) 1 (Then (field.Type in_type.UdtDatabase)) bytes
    ∙ (same_bind (run 2 bytes) _ (λ t rest. (name rest >>= λ u a. name a >>= λ v b. name b >>= λ x c. long_name c >>= λ y d. Got shape.Parts d) >>= behind_shape w) (λ t rest q. made_seen w rest)
    ∙ sym (bind_bind (run 2 bytes) (λ t rest. name rest >>= λ u a. name a >>= λ v b. name b >>= λ x c. long_name c >>= λ y d. Got shape.Parts d) (behind_shape w)))
info_seen w info.Unknown [] = refl
info_seen w info.Unknown (b ∷ bytes) = refl

-- a type is passed
pub type_seen : (w : Walk) (bytes : List ℕ) → seen (to_end (with_number w (field.Type in_type.Type)) bytes) ≡ (type_at bytes >>= behind_shape w)
type_seen w bytes = via w (field.Type in_type.Type) bytes (λ b rest. info_at (type_of b) rest) (behind_shape w) (λ b rest e. info_seen w (type_of b) rest)

-- ---- Crypto metadata

-- an algorithm, by its number or by its name
abbrev algorithm : ℕ → List ℕ → Read (Unit {0})
algorithm n c = if n == 0 then (one c >>= λ m d. run (2 * m + 2) d) else run 2 c

algorithm_by : (b : Bool) (w : Walk) (k : List ℕ → Read Seen) (c : List ℕ) → ((rest : List ℕ) → seen (to_end (ciphered w.at.inside w) rest) ≡ k rest)
    → seen (to_end (if b then with_number w (field.Column in_column.CipherName) else with_run w 2 Ciphered) c)
    ≡ ((if b then (one c >>= λ m d. run (2 * m + 2) d) else run 2 c) >>= λ u rest. k rest)
algorithm_by true w k c g =
    via w (field.Column in_column.CipherName) c (λ m d. run (2 * m + 2) d) (λ u rest. k rest) (λ m d e.
    let p : 2 * m + 2 ≡ suc (2 * m + 1) = omega arith in
    rw p (run_seen w (2 * m + 1) Ciphered d ∙ same_bind (run (suc (2 * m + 1)) d) _ _ (λ u rest q. g rest)))
algorithm_by false w k c g = run_seen w 1 Ciphered c ∙ same_bind (run 2 c) _ _ (λ u rest q. g rest)

algorithm_seen : (w : Walk) (k : List ℕ → Read Seen) (b : List ℕ) → ((rest : List ℕ) → seen (to_end (ciphered w.at.inside w) rest) ≡ k rest)
    → seen (to_end (with_number w (field.Column in_column.Cipher)) b) ≡ ((one b >>= λ n c. algorithm n c) >>= λ u rest. k rest)
algorithm_seen w k b g = via w (field.Column in_column.Cipher) b (λ n c. algorithm n c) (λ u rest. k rest) (λ n c e. algorithm_by (n == 0) w k c g)

-- crypto metadata are passed, inside a column or a parameter
pub cipher_seen : (i : Inside) (place : ℕ) (w : Walk) (k : List ℕ → Read Seen) (bytes : List ℕ) → ((v : Walk) → described i v ≡ with_number v (field.Column in_column.Cipher))
    → ((s : Shape) (rest : List ℕ) → seen (to_end (ciphered i (with_shape (with_inside w i) s)) rest) ≡ k rest)
    → seen (to_end (with_run (with_inside w i) (place + 4) (Then (field.Type in_type.Type))) bytes) ≡ (cipher_at place bytes >>= λ u rest. k rest)
cipher_seen i place w k bytes h g =
    let p : place + 4 ≡ suc (place + 3) = omega arith in
    rw p (run_seen (with_inside w i) (place + 3) (Then (field.Type in_type.Type)) bytes
    ∙ chain (run (suc (place + 3)) bytes) _ (λ u rest. k rest) _ (λ u a q. type_seen (with_inside w i) a
    ∙ chain (type_at a) _ (λ u rest. k rest) _ (λ s b o. ap (λ (x : Walk). seen (to_end x b)) (h (with_shape (with_inside w i) s))
    ∙ algorithm_seen (with_shape (with_inside w i) s) k b (g s))))
