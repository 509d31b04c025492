-- A field that is read is the field that was written, and what was written is read again.
use Rattle.std.proofs.Common.{◌≡◌, ℕ, suc, ◌+◌, ◌^◌, ◌<◌, ◌≤◌, Bool, true, false, cond, eqb, ltb, ◌⊎◌, List, [], ◌∷◌, ◌++◌, length, get_or, take, drop, Result, Ok, Err, refl, sym, ap, subst, ◌∙◌, arith, inl, inr}
use Rattle.std.specs.Int.{Width, w16, w32, w64, byte_len, from_le_bytes, to_le_bytes}
use Rattle.std.proofs.lemmas.Bool.{cases_lt, ltb-false, le-ltb, eqb-true}
use Rattle.std.proofs.lemmas.List.{take_at, drop_at, take-append-drop, length-append, length-take, get_or-drop, get_or-take, get_or_past}
use Rattle.std.proofs.lemmas.Nat.{le_bytes_2, le_bytes_4, le_bytes_8, from_le_bytes-to_le_bytes_2, from_le_bytes-to_le_bytes_4, from_le_bytes-to_le_bytes_8}
use Rattle.tds_request.specs.declared.fault.RequestFault.{RequestFault}
use Rattle.tds_request.specs.declared.fault.RequestFault.TheVariants.{Short}
use Rattle.tds_request.specs.Reading.{◌>>=◌, number_at, byte_at, number_is_at, byte_is_at}

-- each is a number of one byte
abbrev pub IsBytes : List ℕ → Type 0
IsBytes bytes = (i : ℕ) → get_or bytes i 0 < 256

pub IsBytes-drop : (n : ℕ) (bytes : List ℕ) → IsBytes bytes → IsBytes (drop n bytes)
IsBytes-drop n bytes h i = rw get_or-drop (h (n + i))

pub IsBytes-take : (n : ℕ) (bytes : List ℕ) → IsBytes bytes → IsBytes (take n bytes)
IsBytes-take n bytes h i =
    elim (cases_lt i n) [
      | inl lt ↦ rw (get_or-take n bytes i 0 lt) (h i)
      | inr le ↦ rw (get_or_past (take n bytes) i 0 (omega (arith, length-take n bytes))) (omega arith)
    ]

pub IsBytes-rest : (b : ℕ) (bytes : List ℕ) → IsBytes (b ∷ bytes) → IsBytes bytes
IsBytes-rest b bytes h i = h (suc i)

-- ---- steps that did not fail

pub bind_ok : {A B : Type 0} (r : Result A RequestFault) (f : A → Result B RequestFault) (y : B) → (r >>= f) ≡ Ok y → (x : A) × (r ≡ Ok x) × (f x ≡ Ok y)
bind_ok (Ok x) f y e = (x, refl, e)
bind_ok (Err d) f y e = absurd cc

pub unless_ok : {A : Type 0} (b : Bool) (d : RequestFault) (r : Result A RequestFault) (y : A) → cond b (Err d) r ≡ Ok y → (b ≡ false) × (r ≡ Ok y)
unless_ok true d r y e = absurd cc
unless_ok false d r y e = (refl, e)

pub want_ok : {A : Type 0} (b : Bool) (d : RequestFault) (r : Result A RequestFault) (y : A) → cond b r (Err d) ≡ Ok y → (b ≡ true) × (r ≡ Ok y)
want_ok true d r y e = (refl, e)
want_ok false d r y e = absurd cc

pub chosen : {A : Type 0} (b : Bool) (x y z : A) → cond b x y ≡ z → ((b ≡ true) × (x ≡ z)) ⊎ ((b ≡ false) × (y ≡ z))
chosen true x y z e = inl (refl, e)
chosen false x y z e = inr (refl, e)

abbrev good : {A : Type 0} → A → Result A RequestFault
good x = Ok x

pub ok_is : {A : Type 0} (x y : A) → good x ≡ good y → x ≡ y
ok_is x y e = cc

-- ---- a reader and the spelling of what it reads, each the other's inverse

pub record IsField {X : Type 0} (at : List ℕ → Result (X × List ℕ) RequestFault) (spelled : X → List ℕ) (Fitting : X → Type 0) : Type 0 where
  pub takes : (bytes : List ℕ) (x : X) (rest : List ℕ) → IsBytes bytes → at bytes ≡ Ok (x, rest) → (bytes ≡ spelled x ++ rest) × Fitting x × IsBytes rest
  pub again : (x : X) (rest : List ℕ) → Fitting x → at (spelled x ++ rest) ≡ Ok (x, rest)

-- the same of a field that has one value
pub record IsMark (at : List ℕ → Result (List ℕ) RequestFault) (spelled : List ℕ) : Type 0 where
  pub takes : (bytes rest : List ℕ) → IsBytes bytes → at bytes ≡ Ok rest → (bytes ≡ spelled ++ rest) × IsBytes rest
  pub again : (rest : List ℕ) → at (spelled ++ rest) ≡ Ok rest

-- one field of several: what was read and the rest are variables from here on
pub step : {X Y : Type 0} {at : List ℕ → Result (X × List ℕ) RequestFault} {spelled : X → List ℕ} {Fitting : X → Type 0} (P : Type 0) (field : IsField at spelled Fitting) (bytes : List ℕ) (f : X × List ℕ → Result Y RequestFault) (y : Y) → IsBytes bytes → (at bytes >>= f) ≡ Ok y
    → ((x : X) (rest : List ℕ) → bytes ≡ spelled x ++ rest → Fitting x → IsBytes rest → f (x, rest) ≡ Ok y → P) → P
step {at = at} P field bytes f y fits e next =
    let b = bind_ok (at bytes) f y e in
    let t = field.takes bytes b.0.0 b.0.1 fits b.1 in
    next b.0.0 b.0.1 t.0 t.1 t.2 b.2

pub mark_step : {Y : Type 0} {at : List ℕ → Result (List ℕ) RequestFault} {spelled : List ℕ} (P : Type 0) (mark : IsMark at spelled) (bytes : List ℕ) (f : List ℕ → Result Y RequestFault) (y : Y) → IsBytes bytes → (at bytes >>= f) ≡ Ok y
    → ((rest : List ℕ) → bytes ≡ spelled ++ rest → IsBytes rest → f rest ≡ Ok y → P) → P
mark_step {at = at} P mark bytes f y fits e next =
    let b = bind_ok (at bytes) f y e in
    let t = mark.takes bytes b.0 fits b.1 in
    next b.0 t.0 t.1 b.2

-- and the way back
pub step_again : {X Y : Type 0} {at : List ℕ → Result (X × List ℕ) RequestFault} {spelled : X → List ℕ} {Fitting : X → Type 0} (field : IsField at spelled Fitting) (bytes : List ℕ) (x : X) (rest : List ℕ) (f : X × List ℕ → Result Y RequestFault) → Fitting x → bytes ≡ spelled x ++ rest → (at bytes >>= f) ≡ f (x, rest)
step_again {at = at} field bytes x rest f fits e = ap (λ r. r >>= f) (ap at e ∙ field.again x rest fits)

pub mark_again : {Y : Type 0} {at : List ℕ → Result (List ℕ) RequestFault} {spelled : List ℕ} (mark : IsMark at spelled) (bytes rest : List ℕ) (f : List ℕ → Result Y RequestFault) → bytes ≡ spelled ++ rest → (at bytes >>= f) ≡ f rest
mark_again {at = at} mark bytes rest f e = ap (λ r. r >>= f) (ap at e ∙ mark.again rest)

-- ---- numbers

pub record IsWide (w : Width) (limit : ℕ) : Type 0 where
  pub len : (n : ℕ) → length (to_le_bytes w n) ≡ byte_len w
  pub back : (bytes : List ℕ) → length bytes ≡ byte_len w → IsBytes bytes → to_le_bytes w (from_le_bytes w bytes) ≡ bytes
  pub again : (n : ℕ) → n < limit → from_le_bytes w (to_le_bytes w n) ≡ n
  pub below : (bytes : List ℕ) → IsBytes bytes → from_le_bytes w bytes < limit

pub wide16 : IsWide w16 (2 ^ 16)
wide16 = record {
  len = λ n. refl;
  back = λ bytes len fits. le_bytes_2 bytes _ len fits refl;
  again = λ n lt. from_le_bytes-to_le_bytes_2 n lt;
  below = λ bytes fits. omega (arith, fits 0, fits 1);
}

pub wide32 : IsWide w32 (2 ^ 32)
wide32 = record {
  len = λ n. refl;
  back = λ bytes len fits. le_bytes_4 bytes _ len fits refl;
  again = λ n lt. from_le_bytes-to_le_bytes_4 n lt;
  below = λ bytes fits. omega (arith, fits 0, fits 1, fits 2, fits 3);
}

pub wide64 : IsWide w64 (2 ^ 64)
wide64 = record {
  len = λ n. refl;
  back = λ bytes len fits. le_bytes_8 bytes _ len fits refl;
  again = λ n lt. from_le_bytes-to_le_bytes_8 n lt;
  below = λ bytes fits. omega (arith, fits 0, fits 1, fits 2, fits 3, fits 4, fits 5, fits 6, fits 7);
}

number_takes : (w : Width) (limit : ℕ) (wide : IsWide w limit) (bytes : List ℕ) (n : ℕ) (rest : List ℕ) → IsBytes bytes → number_at w bytes ≡ Ok (n, rest) → (bytes ≡ to_le_bytes w n ++ rest) × (n < limit) × IsBytes rest
number_takes w limit wide bytes n rest fits e =
    let u = unless_ok (ltb (length bytes) (byte_len w)) Short (Ok (from_le_bytes w (take (byte_len w) bytes), drop (byte_len w) bytes)) (n, rest) e in
    let same = ok_is (from_le_bytes w (take (byte_len w) bytes), drop (byte_len w) bytes) (n, rest) u.1 in
    let long : byte_len w ≤ length bytes = ltb-false _ _ u.0 in
    let n-is : from_le_bytes w (take (byte_len w) bytes) ≡ n = ap (λ (p : ℕ × List ℕ). p.0) same in
    let rest-is : drop (byte_len w) bytes ≡ rest = ap (λ (p : ℕ × List ℕ). p.1) same in
    let front : to_le_bytes w n ≡ take (byte_len w) bytes = rw (← n-is) (wide.back (take (byte_len w) bytes) (omega (arith, length-take (byte_len w) bytes)) (IsBytes-take (byte_len w) bytes fits)) in
    (rw (front, ← rest-is) (sym (take-append-drop (byte_len w) bytes)), rw (← n-is) (wide.below (take (byte_len w) bytes) (IsBytes-take (byte_len w) bytes fits)), rw (← rest-is) (IsBytes-drop (byte_len w) bytes fits))

number_again : (w : Width) (limit : ℕ) (wide : IsWide w limit) (n : ℕ) (rest : List ℕ) → n < limit → number_at w (to_le_bytes w n ++ rest) ≡ Ok (n, rest)
number_again w limit wide n rest lt =
    let len = wide.len n in
    let long : ltb (length (to_le_bytes w n ++ rest)) (byte_len w) ≡ false = le-ltb _ _ (omega (arith, length-append (to_le_bytes w n) rest)) in
    rw (long, take_at (to_le_bytes w n) rest (byte_len w) len, drop_at (to_le_bytes w n) rest (byte_len w) len, wide.again n lt) refl

pub number_field : (w : Width) (limit : ℕ) → IsWide w limit → IsField (number_at w) (to_le_bytes w) (λ n. n < limit)
number_field w limit wide = record { takes = number_takes w limit wide; again = number_again w limit wide }

byte_takes : (bytes : List ℕ) (n : ℕ) (rest : List ℕ) → IsBytes bytes → byte_at bytes ≡ Ok (n, rest) → (bytes ≡ (n ∷ []) ++ rest) × (n < 256) × IsBytes rest
byte_takes [] n rest fits e = absurd cc
byte_takes (b ∷ bytes) n rest fits e =
    subst (λ (x : ℕ × List ℕ). (b ∷ bytes ≡ (x.0 ∷ []) ++ x.1) × (x.0 < 256) × IsBytes x.1) (ok_is (b, bytes) (n, rest) e) (refl, fits 0, IsBytes-rest b bytes fits)

pub byte_field : IsField byte_at (λ n. n ∷ []) (λ n. n < 256)
byte_field = record { takes = byte_takes; again = λ n rest lt. refl }

-- ---- fields that have one value

number_is_takes : (w : Width) (limit : ℕ) (wide : IsWide w limit) (wanted : ℕ) (wrong : RequestFault) (bytes rest : List ℕ) → IsBytes bytes → number_is_at w wanted wrong bytes ≡ Ok rest → (bytes ≡ to_le_bytes w wanted ++ rest) × IsBytes rest
unfolding number_is_at
number_is_takes w limit wide wanted wrong bytes rest fits e =
    let b = bind_ok (number_at w bytes) (λ found. cond (eqb found.0 wanted) (Ok found.1) (Err wrong)) rest e in
    let h = want_ok (eqb b.0.0 wanted) wrong (Ok b.0.1) rest b.2 in
    let t = number_takes w limit wide bytes b.0.0 b.0.1 fits b.1 in
    let value : b.0.0 ≡ wanted = eqb-true _ _ h.0 in
    let rest-is : b.0.1 ≡ rest = ok_is b.0.1 rest h.1 in
    subst (λ (x : List ℕ). (bytes ≡ to_le_bytes w wanted ++ x) × IsBytes x) rest-is (t.0 ∙ ap (λ (n : ℕ). to_le_bytes w n ++ b.0.1) value, t.2)

eqb-same : (n : ℕ) → eqb n n ≡ true
eqb-same n = search arith

number_is_again : (w : Width) (limit : ℕ) (wide : IsWide w limit) (wanted : ℕ) (wrong : RequestFault) (rest : List ℕ) → wanted < limit → number_is_at w wanted wrong (to_le_bytes w wanted ++ rest) ≡ Ok rest
unfolding number_is_at
number_is_again w limit wide wanted wrong rest lt = rw (number_again w limit wide wanted rest lt, eqb-same wanted) refl

pub number_mark : (w : Width) (limit : ℕ) (wide : IsWide w limit) (wanted : ℕ) (wrong : RequestFault) → wanted < limit → IsMark (number_is_at w wanted wrong) (to_le_bytes w wanted)
number_mark w limit wide wanted wrong lt = record { takes = number_is_takes w limit wide wanted wrong; again = λ rest. number_is_again w limit wide wanted wrong rest lt }

byte_is_takes : (wanted : ℕ) (wrong : RequestFault) (bytes rest : List ℕ) → IsBytes bytes → byte_is_at wanted wrong bytes ≡ Ok rest → (bytes ≡ (wanted ∷ []) ++ rest) × IsBytes rest
unfolding byte_is_at
byte_is_takes wanted wrong bytes rest fits e =
    let b = bind_ok (byte_at bytes) (λ found. cond (eqb found.0 wanted) (Ok found.1) (Err wrong)) rest e in
    let h = want_ok (eqb b.0.0 wanted) wrong (Ok b.0.1) rest b.2 in
    let t = byte_takes bytes b.0.0 b.0.1 fits b.1 in
    let value : b.0.0 ≡ wanted = eqb-true _ _ h.0 in
    let rest-is : b.0.1 ≡ rest = ok_is b.0.1 rest h.1 in
    subst (λ (x : List ℕ). (bytes ≡ (wanted ∷ []) ++ x) × IsBytes x) rest-is (t.0 ∙ ap (λ (n : ℕ). n ∷ b.0.1) value, t.2)

byte_is_again : (wanted : ℕ) (wrong : RequestFault) (rest : List ℕ) → byte_is_at wanted wrong ((wanted ∷ []) ++ rest) ≡ Ok rest
unfolding byte_is_at
byte_is_again wanted wrong rest = rw (eqb-same wanted) refl

pub byte_mark : (wanted : ℕ) (wrong : RequestFault) → IsMark (byte_is_at wanted wrong) (wanted ∷ [])
byte_mark wanted wrong = record { takes = byte_is_takes wanted wrong; again = byte_is_again wanted wrong }
