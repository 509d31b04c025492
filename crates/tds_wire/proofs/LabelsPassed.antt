-- Data classification is passed as the layout has it.
use Rattle.std.proofs.Common.{◌≡◌, refl, ◌∙◌, rules, arith, ℕ, zero, suc, ◌-◌, ◌*◌, ◌%◌, ◌==◌, nat_lt, Bool, true, false, List, if◌then◌else◌}
use Rattle.std.proofs.lemmas.Bool.{lt-ltb}
use Rattle.tds_wire.specs.declared.due.Field.TheVariants as field
use Rattle.tds_wire.specs.declared.due.LabelField.TheVariants as in_label
use Rattle.tds_wire.specs.declared.due.Next.TheVariants.{Then, Labelled, Classified}
use Rattle.tds_wire.specs.Walking.{Walk, with_number, with_run, with_left, ended, behind_labels, labelled, classified}
use Rattle.tds_wire.specs.Bytes.{to_end, seen, seen_of}
use Rattle.tds_wire.specs.Layout.{Read, Got, ◌>>=◌, two, run, name, Seen, labels, label_list, properties, classification}
use Rattle.tds_wire.proofs.FieldsPassed.{same_bind, chain, number_seen, run_seen, pass_seen, via, name_seen, ended_seen}

abbrev next_on : (List ℕ → Read Seen) → Unit {0} → List ℕ → Read Seen
next_on k u rest = k rest

labels_more_by : (types : Bool) (m : ℕ) (w : Walk) (k : List ℕ → Read Seen) (bytes : List ℕ) → ((b : List ℕ) → seen (to_end (labelled types (with_left w (suc m))) b) ≡ (labels m b >>= next_on k))
    → seen (to_end (with_number (with_left w (suc m)) (field.Label (in_label.LabelName types))) bytes) ≡ (labels (suc m) bytes >>= next_on k)
unfolding labels
labels_more_by types m w k bytes after =
    name_seen (with_left w (suc m)) (field.Label (in_label.LabelName types)) (Then (field.Label (in_label.LabelId types))) bytes refl (λ n. refl)
    ∙ chain (name bytes) _ (next_on k) _ (λ u a q. name_seen (with_left w (suc m)) (field.Label (in_label.LabelId types)) (Labelled types) a refl (λ n. refl)
    ∙ chain (name a) _ (next_on k) _ (λ v b q. after b))

labelled_last : (types : Bool) (w : Walk) (k : List ℕ → Read Seen) (b : List ℕ) → seen (to_end (behind_labels types (with_left w 1)) b) ≡ k b
    → seen (to_end (labelled types (with_left w 1)) b) ≡ (labels 0 b >>= next_on k)
unfolding labels labelled
labelled_last types w k b g = g

labelled_more : (types : Bool) (n : ℕ) (w : Walk) (k : List ℕ → Read Seen) (b : List ℕ) → seen (to_end (with_number (with_left w (suc n)) (field.Label (in_label.LabelName types))) b) ≡ (labels (suc n) b >>= next_on k)
    → seen (to_end (labelled types (with_left w (suc (suc n)))) b) ≡ (labels (suc n) b >>= next_on k)
unfolding labelled
labelled_more types n w k b g =
    let t : nat_lt 1 (suc (suc n)) ≡ true = lt-ltb 1 (suc (suc n)) (omega arith) in
    let e : suc (suc n) - 1 ≡ suc n = omega arith in
    rw t (rw e g)

labels_seen : (types : Bool) (m : ℕ) (w : Walk) (k : List ℕ → Read Seen) (bytes : List ℕ) → ((l : ℕ) (rest : List ℕ) → seen (to_end (behind_labels types (with_left w l)) rest) ≡ k rest)
    → seen (to_end (with_number (with_left w (suc m)) (field.Label (in_label.LabelName types))) bytes) ≡ (labels (suc m) bytes >>= next_on k)
labels_seen types zero w k bytes g = labels_more_by types zero w k bytes (λ b. labelled_last types w k b (g 1 b))
labels_seen types (suc n) w k bytes g = labels_more_by types (suc n) w k bytes (λ b. labelled_more types n w k b (labels_seen types n w k b g))

labels_by : (types : Bool) (m : ℕ) (w : Walk) (k : List ℕ → Read Seen) (bytes : List ℕ) → ((l : ℕ) (rest : List ℕ) → seen (to_end (behind_labels types (with_left w l)) rest) ≡ k rest)
    → seen (to_end (if m == 0 then behind_labels types w else with_number (with_left w m) (field.Label (in_label.LabelName types))) bytes) ≡ (labels m bytes >>= next_on k)
unfolding labels
labels_by types zero w k bytes g = g w.at.left bytes
labels_by types (suc m) w k bytes g =
    let e : (suc m == 0) ≡ false = search rules in
    rw e (labels_seen types m w k bytes g)

label_list_seen : (types : Bool) (w : Walk) (k : List ℕ → Read Seen) (bytes : List ℕ) → ((l : ℕ) (rest : List ℕ) → seen (to_end (behind_labels types (with_left w l)) rest) ≡ k rest)
    → seen (to_end (with_number w (field.Label (in_label.Labels types))) bytes) ≡ (label_list bytes >>= next_on k)
label_list_seen types w k bytes g =
    via w (field.Label (in_label.Labels types)) bytes (λ n rest. labels (n % 65536) rest) (next_on k) (λ n rest e. labels_by types (n % 65536) w k rest g)

abbrev at_end : Walk → Unit {0} → List ℕ → Read Seen
at_end w u rest = Got (seen_of w) rest

properties_more_by : (m : ℕ) (w : Walk) (bytes : List ℕ) → ((b : List ℕ) → seen (to_end (classified (with_left w (suc m))) b) ≡ (properties w.features.ranks m b >>= at_end w))
    → seen (to_end (with_number (with_left w (suc m)) (field.Label in_label.Properties)) bytes) ≡ (properties w.features.ranks (suc m) bytes >>= at_end w)
unfolding properties
properties_more_by m w bytes after =
    number_seen (with_left w (suc m)) (field.Label in_label.Properties) bytes
    ∙ chain (two bytes) _ (at_end w) _ (λ n a e. pass_seen (with_left w (suc m)) (n * (if w.features.ranks then 8 else 4)) Classified a
    ∙ chain (run (n * (if w.features.ranks then 8 else 4)) a) _ (at_end w) _ (λ u b q. after b))

classified_last : (w : Walk) (b : List ℕ) → seen (to_end (classified (with_left w 1)) b) ≡ (properties w.features.ranks 0 b >>= at_end w)
unfolding properties classified
classified_last w b = ended_seen (with_left w 1) b

classified_more : (n : ℕ) (w : Walk) (b : List ℕ) → seen (to_end (with_number (with_left w (suc n)) (field.Label in_label.Properties)) b) ≡ (properties w.features.ranks (suc n) b >>= at_end w)
    → seen (to_end (classified (with_left w (suc (suc n)))) b) ≡ (properties w.features.ranks (suc n) b >>= at_end w)
unfolding classified
classified_more n w b g =
    let t : nat_lt 1 (suc (suc n)) ≡ true = lt-ltb 1 (suc (suc n)) (omega arith) in
    let e : suc (suc n) - 1 ≡ suc n = omega arith in
    rw t (rw e g)

properties_seen : (m : ℕ) (w : Walk) (bytes : List ℕ)
    → seen (to_end (with_number (with_left w (suc m)) (field.Label in_label.Properties)) bytes) ≡ (properties w.features.ranks (suc m) bytes >>= at_end w)
properties_seen zero w bytes = properties_more_by zero w bytes (λ b. classified_last w b)
properties_seen (suc n) w bytes = properties_more_by (suc n) w bytes (λ b. classified_more n w b (properties_seen n w b))

properties_by : (m : ℕ) (w : Walk) (bytes : List ℕ)
    → seen (to_end (if m == 0 then ended w else with_number (with_left w m) (field.Label in_label.Properties)) bytes) ≡ (properties w.features.ranks m bytes >>= at_end w)
unfolding properties
properties_by zero w bytes = ended_seen w bytes
properties_by (suc m) w bytes =
    let e : (suc m == 0) ≡ false = search rules in
    rw e (properties_seen m w bytes)

abbrev sensitive : Walk → List ℕ → Read Seen
sensitive w c = two c >>= λ n d. properties w.features.ranks (n % 65536) d >>= at_end w

sensitive_seen : (w : Walk) (c : List ℕ) → seen (to_end (with_number w (field.Label in_label.SensitiveColumns)) c) ≡ sensitive w c
sensitive_seen w c =
    number_seen w (field.Label in_label.SensitiveColumns) c ∙ same_bind (two c) _ _ (λ n d e. properties_by (n % 65536) w d)

ranks_by : (b : Bool) (w : Walk) (rest : List ℕ)
    → seen (to_end (if b then with_run w 4 (Then (field.Label in_label.SensitiveColumns)) else with_number w (field.Label in_label.SensitiveColumns)) rest) ≡ (run (if b then 4 else 0) rest >>= λ x c. sensitive w c)
unfolding run
ranks_by true w rest = run_seen w 3 (Then (field.Label in_label.SensitiveColumns)) rest ∙ same_bind (run 4 rest) _ _ (λ x c q. sensitive_seen w c)
ranks_by false w rest = sensitive_seen w rest

abbrev ranked : Walk → List ℕ → Read Seen
ranked w b = run (if w.features.ranks then 4 else 0) b >>= λ x c. sensitive w c

-- labels, types of information, and what each column has of them
pub classification_seen : (w : Walk) (bytes : List ℕ) → seen (to_end (with_number w (field.Label (in_label.Labels false))) bytes) ≡ classification w.features.ranks (seen_of w) bytes
classification_seen w bytes =
    label_list_seen false w (λ a. label_list a >>= next_on (ranked w)) bytes
    (λ l a. label_list_seen true (with_left w l) (ranked w) a (λ m b. ranks_by w.features.ranks (with_left w m) b))
