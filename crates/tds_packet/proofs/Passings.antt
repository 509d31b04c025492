-- Lemmas about packets that pass.
use Rattle.std.proofs.Common.{◌≡◌, ℕ, ◌+◌, ◌-◌, ◌<◌, ◌≤◌, nat_eq, List, [], ◌++◌, length, take, drop, min, refl, sym, ap, subst, ◌∙◌, arith, length-append}
use Rattle.std.proofs.Math.Nat.{min-le_left, min-le_right}
use Rattle.std.proofs.lemmas.Slice.{take-put_mid, drop-put_mid}
use borrow.Rule.Slice.PartMut.{put_mid}
use Rattle.std.proofs.lemmas.Bool.Decides.{nat_tests}
use Rattle.std.proofs.lemmas.List.{length-take, length-take-le, length-drop, take_min, take_all, take-append-drop}
use Rattle.tds_packet.specs.declared.passing.Passed.TheVariants.{Part, Begins, Data, Wrong}
use Rattle.tds_packet.specs.Faults.{length_field}
use Rattle.tds_packet.specs.declared.passing.HeaderReader.TheInside.{Inside}
use Rattle.tds_packet.specs.Passing.{PacketPlace, next_run, behind_run, run_brings, head_in}
use Rattle.tds_packet.specs.Passages.{passing_of}

-- within data
pub next_run-data : (p : PacketPlace) → 0 < p.due → next_run p ≡ p.due
unfolding next_run
next_run-data p h = grind (arith, nat_tests)

pub behind_run-data : (p : PacketPlace) (bytes : List ℕ) → 0 < p.due → behind_run p bytes ≡ record { came = []; due = p.due - length bytes }
unfolding behind_run
behind_run-data p bytes h = grind (arith, nat_tests)

pub run_brings-data : (p : PacketPlace) (bytes : List ℕ) → 0 < p.due → run_brings p bytes ≡ Data (nat_eq (p.due - length bytes) 0)
unfolding run_brings
run_brings-data p bytes h = grind (arith, nat_tests)

-- within a header
pub next_run-header : (p : PacketPlace) → p.due ≡ 0 → next_run p ≡ 8 - length p.came
unfolding next_run
next_run-header p h = grind (arith, nat_tests)

pub behind_run-part : (p : PacketPlace) (bytes : List ℕ) → p.due ≡ 0 → length p.came + length bytes < 8 → behind_run p bytes ≡ record { came = p.came ++ bytes; due = 0 }
unfolding behind_run
behind_run-part p bytes h short = grind (arith, nat_tests)

pub run_brings-part : (p : PacketPlace) (bytes : List ℕ) → p.due ≡ 0 → length p.came + length bytes < 8 → run_brings p bytes ≡ Part
unfolding run_brings
run_brings-part p bytes h short = grind (arith, nat_tests)

pub behind_run-whole : (p : PacketPlace) (bytes : List ℕ) → p.due ≡ 0 → 8 ≤ length p.came + length bytes → behind_run p bytes ≡ record { came = []; due = length_field (p.came ++ bytes) - 8 }
unfolding behind_run
behind_run-whole p bytes h long = grind (arith, nat_tests)

pub run_brings-wrong : (p : PacketPlace) (bytes : List ℕ) → p.due ≡ 0 → 8 ≤ length p.came + length bytes → length_field (p.came ++ bytes) < 8 → run_brings p bytes ≡ Wrong
unfolding run_brings
run_brings-wrong p bytes h long short = grind (arith, nat_tests)

pub run_brings-whole : (p : PacketPlace) (bytes : List ℕ) → p.due ≡ 0 → 8 ≤ length p.came + length bytes → 8 ≤ length_field (p.came ++ bytes) → run_brings p bytes ≡ Begins (head_in (p.came ++ bytes))
unfolding run_brings
run_brings-whole p bytes h long lawful = grind (arith, nat_tests)

-- how many bytes are taken, by the fields
pub data_count : (a : Inside) (n : ℕ) (piece : List ℕ) → 0 < a.due → n ≡ min a.due (length piece) → n ≡ min (next_run (passing_of a)) (length piece)
data_count a n piece h e = rw (next_run-data (passing_of a) h) e

-- what is left due behind them
left_due : (a : Inside) (n : ℕ) (piece : List ℕ) → n ≡ min a.due (length piece) → a.due - n ≡ a.due - length (take a.due piece)
left_due a n piece e = rw (e, length-take a.due piece) refl

pub data_place : (a : Inside) (n : ℕ) (piece : List ℕ) → 0 < a.due → a.came ≡ 0 → n ≡ min a.due (length piece)
    → passing_of (record { bytes = a.bytes; came = a.came; due = a.due - n }) ≡ behind_run (passing_of a) (take (next_run (passing_of a)) piece)
data_place a n piece h none e =
    rw (next_run-data (passing_of a) h, behind_run-data (passing_of a) (take a.due piece) h, none, left_due a n piece e) refl

pub data_says : (a : Inside) (n : ℕ) (piece : List ℕ) → 0 < a.due → n ≡ min a.due (length piece)
    → Data (nat_eq (a.due - n) 0) ≡ run_brings (passing_of a) (take (next_run (passing_of a)) piece)
data_says a n piece h e =
    rw (next_run-data (passing_of a) h, run_brings-data (passing_of a) (take a.due piece) h, left_due a n piece e) refl

-- the same within a header: so many bytes are put behind those that came
pub header_count : (a : Inside) (n : ℕ) (piece : List ℕ) → a.due ≡ 0 → a.came ≤ length a.bytes → n ≡ min (8 - a.came) (length piece) → n ≡ min (next_run (passing_of a)) (length piece)
header_count a n piece none room e =
    let l = length-take-le a.came a.bytes room in
    rw (next_run-header (passing_of a) none, l) e

-- what was written over stays as long
length_put : (a k : ℕ) (xs ys : List ℕ) → a + k ≤ length xs → length ys ≡ k → length (put_mid a k xs ys) ≡ length xs
length_put a k xs ys f l =
    let z = put_mid a k xs ys in
    let whole = ap length (take-append-drop (a + k) z) in
    let sum = length-append (take (a + k) z) (drop (a + k) z) in
    let front = ap length (take-put_mid a k xs ys (a + k) (omega (arith, l)) (omega (arith, f))) in
    let back = ap length (drop-put_mid a k xs ys (a + k) (omega arith) (omega (arith, f)) l) in
    let parts = length-append (take a xs) ys in
    let first = length-take-le a xs (omega (arith, f)) in
    let last = length-drop (a + k) xs in
    omega (arith, whole, sum, front, back, parts, first, last, l, f)

-- the bytes that are there now
pub record Joins (a : Inside) (n : ℕ) (piece bytes : List ℕ) : Type 0 where
  pub none : a.due ≡ 0
  pub room : a.came ≤ length a.bytes
  pub count : n ≡ min (8 - a.came) (length piece)
  pub put : take (a.came + n) bytes ≡ take a.came a.bytes ++ take n piece
  pub long : length bytes ≡ 8

pub joins : (a : Inside) (start n k : ℕ) (piece ys : List ℕ) → a.due ≡ 0 → length a.bytes ≡ 8 → a.came < 8 → start ≡ a.came → n ≡ min (8 - start) (length piece) → k ≡ n → ys ≡ take n piece → Joins a n piece (put_mid start k a.bytes ys)
joins a start n k piece ys d l f s m e y =
    let few = subst (λ x. x ≤ length piece) (sym m) (min-le_right (8 - start) (length piece)) in
    let fits = subst (λ x. x ≤ 8 - start) (sym m) (min-le_left (8 - start) (length piece)) in
    let size = ap length y ∙ length-take-le n piece few in
    rw (e, s) record {
      none = d;
      room = omega (arith, l, f);
      count = rw (← s) m;
      put = rw (← y) (take-put_mid a.came n a.bytes ys (a.came + n) (omega (arith, size)) (omega (arith, l, f)));
      long = length_put a.came n a.bytes ys (omega (arith, fits, s, f, l)) size ∙ l;
    }

-- the bytes that are taken, and how many there are with those before
run_of : (a : Inside) (n : ℕ) (piece bytes : List ℕ) → Joins a n piece bytes → take (next_run (passing_of a)) piece ≡ take n piece
run_of a n piece bytes j =
    let l = length-take-le a.came a.bytes j.room in
    rw (next_run-header (passing_of a) j.none, l, j.count) (sym (take_min (8 - a.came) piece))

long_of : (a : Inside) (n : ℕ) (piece bytes : List ℕ) → Joins a n piece bytes → length (take a.came a.bytes) + length (take n piece) ≡ a.came + n
long_of a n piece bytes j =
    let l = length-take-le a.came a.bytes j.room in
    let m = length-take n piece in
    let c = j.count in
    rw (l, m) (grind (arith))

pub part_place : (a : Inside) (n : ℕ) (piece bytes : List ℕ) → Joins a n piece bytes → a.came + n < 8
    → passing_of (record { bytes = bytes; came = a.came + n; due = a.due }) ≡ behind_run (passing_of a) (take (next_run (passing_of a)) piece)
part_place a n piece bytes j short =
    rw (run_of a n piece bytes j) rw (behind_run-part (passing_of a) (take n piece) j.none (rw (long_of a n piece bytes j) short)) rw (j.put, j.none) refl

pub part_says : (a : Inside) (n : ℕ) (piece bytes : List ℕ) → Joins a n piece bytes → a.came + n < 8
    → Part ≡ run_brings (passing_of a) (take (next_run (passing_of a)) piece)
part_says a n piece bytes j short =
    rw (run_of a n piece bytes j) (sym (run_brings-part (passing_of a) (take n piece) j.none (rw (long_of a n piece bytes j) short)))

-- once it is whole
whole_of : (a : Inside) (n : ℕ) (piece bytes : List ℕ) → Joins a n piece bytes → 8 ≤ a.came + n → take a.came a.bytes ++ take n piece ≡ bytes
whole_of a n piece bytes j long = sym j.put ∙ take_all (a.came + n) bytes (omega (arith, j.long, long))

pub whole_place : (a : Inside) (n : ℕ) (piece bytes : List ℕ) → Joins a n piece bytes → 8 ≤ a.came + n
    → (due : ℕ) → due ≡ length_field bytes - 8
    → passing_of (record { bytes = bytes; came = 0; due = due }) ≡ behind_run (passing_of a) (take (next_run (passing_of a)) piece)
whole_place a n piece bytes j long due e =
    rw (run_of a n piece bytes j) rw (behind_run-whole (passing_of a) (take n piece) j.none (rw (long_of a n piece bytes j) long)) rw (whole_of a n piece bytes j long, e) refl

pub wrong_says : (a : Inside) (n : ℕ) (piece bytes : List ℕ) → Joins a n piece bytes → 8 ≤ a.came + n → length_field bytes < 8
    → Wrong ≡ run_brings (passing_of a) (take (next_run (passing_of a)) piece)
wrong_says a n piece bytes j long short =
    rw (run_of a n piece bytes j) (sym (run_brings-wrong (passing_of a) (take n piece) j.none (rw (long_of a n piece bytes j) long) (rw (whole_of a n piece bytes j long) short)))

pub whole_says : (a : Inside) (n : ℕ) (piece bytes : List ℕ) → Joins a n piece bytes → 8 ≤ a.came + n → 8 ≤ length_field bytes
    → Begins (head_in bytes) ≡ run_brings (passing_of a) (take (next_run (passing_of a)) piece)
whole_says a n piece bytes j long lawful =
    rw (run_of a n piece bytes j) rw (run_brings-whole (passing_of a) (take n piece) j.none (rw (long_of a n piece bytes j) long) (rw (whole_of a n piece bytes j long) lawful)) rw (whole_of a n piece bytes j long) refl
