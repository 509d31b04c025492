-- A value is passed as the layout has it.
use Rattle.std.proofs.Common.{◌≡◌, refl, sym, ◌∙◌, rules, arith, ℕ, zero, suc, ◌+◌, ◌≤◌, ◌==◌, ◌&&◌, Bool, true, false, List, [], ◌∷◌, length, if◌then◌else◌}
use Rattle.tds_wire.specs.declared.shape.Shape.{Shape}
use Rattle.tds_wire.specs.declared.shape.Shape.TheVariants as shape
use Rattle.tds_wire.specs.declared.due.Field.TheVariants as field
use Rattle.tds_wire.specs.declared.due.ValueField.TheVariants as in_value
use Rattle.tds_wire.specs.declared.due.Next.TheVariants.{Then, Valued}
use Rattle.tds_wire.specs.Walking.{Walk, with_due, with_number, with_run, value_due, has_no_bytes, go, pass}
use Rattle.tds_wire.specs.Bytes.{to_end, seen}
use Rattle.tds_wire.specs.Layout.{Read, Got, ◌>>=◌, four, run, value, parts, value_in_parts, long_value}
use Rattle.tds_wire.proofs.FieldsPassed.{same_bind, bind_bind, number_none, run_seen, pass_seen, via, behind, run_shorter, four_shorter}

long_by : (b : Bool) (w : Walk) (n : ℕ) (rest : List ℕ)
    → seen (to_end (if b then go w Valued else pass w n Valued) rest) ≡ ((if b then Got tt rest else run n rest) >>= behind w Valued)
long_by true w n rest = refl
long_by false w n rest = pass_seen w n Valued rest

long_seen : (w : Walk) (bytes : List ℕ) → seen (to_end (with_number w (field.Value in_value.LongCount)) bytes) ≡ (long_value bytes >>= behind w Valued)
long_seen w bytes = via w (field.Value in_value.LongCount) bytes (λ n rest. if n == 4294967295 then Got tt rest else run n rest) (behind w Valued) (λ n rest e. long_by (n == 4294967295) w n rest)

pointer_by : (b : Bool) (w : Walk) (n : ℕ) (rest : List ℕ)
    → seen (to_end (if b then go w Valued else with_run w (n + 8) (Then (field.Value in_value.LongCount))) rest)
    ≡ ((if b then Got tt rest else (run (n + 8) rest >>= λ u more. long_value more)) >>= behind w Valued)
pointer_by true w n rest = refl
pointer_by false w n rest =
    let e : n + 8 ≡ suc (n + 7) = omega arith in
    rw e (run_seen w (n + 7) (Then (field.Value in_value.LongCount)) rest
    ∙ (same_bind (run (suc (n + 7)) rest) _ (λ u more. long_value more >>= behind w Valued) (λ u more q. long_seen w more)
    ∙ sym (bind_bind (run (suc (n + 7)) rest) (λ u more. long_value more) (behind w Valued))))

abbrev part_at : ℕ → ℕ → List ℕ → Read (Unit {0})
part_at most n rest = if n == 0 then Got tt rest else (run n rest >>= λ u more. parts most more)

part_by : (w : Walk) (most n : ℕ) (rest : List ℕ)
    → ((more : List ℕ) → length more ≤ length rest → seen (to_end (with_number w (field.Value in_value.PartCount)) more) ≡ (parts most more >>= behind w Valued))
    → seen (to_end (if n == 0 then go w Valued else with_run w n (Then (field.Value in_value.PartCount))) rest) ≡ (part_at most n rest >>= behind w Valued)
part_by w most zero rest g = refl
part_by w most (suc n) rest g =
    let e : (suc n == 0) ≡ false = search rules in
    rw e (run_seen w n (Then (field.Value in_value.PartCount)) rest
    ∙ (same_bind (run (suc n) rest) _ (λ u more. parts most more >>= behind w Valued) (λ u more q. g more (run_shorter (suc n) rest more u q))
    ∙ sym (bind_bind (run (suc n) rest) (λ u more. parts most more) (behind w Valued))))

parts_seen : (most : ℕ) (w : Walk) (bytes : List ℕ) → length bytes ≤ most
    → seen (to_end (with_number w (field.Value in_value.PartCount)) bytes) ≡ (parts most bytes >>= behind w Valued)
unfolding parts
parts_seen zero w [] h = number_none w (field.Value in_value.PartCount) 4 0
parts_seen zero w (b ∷ bytes) h = absurd (omega (arith, h))
parts_seen (suc most) w bytes h =
    via w (field.Value in_value.PartCount) bytes (part_at most) (behind w Valued)
    (λ n rest e. let l = four_shorter bytes rest n e in
    part_by w most n rest (λ more k. parts_seen most w more (omega (arith, l, h, k))))

high_by : (b : Bool) (w : Walk) (more : List ℕ)
    → seen (to_end (if b then go w Valued else with_number w (field.Value in_value.PartCount)) more) ≡ ((if b then Got tt more else parts (length more) more) >>= behind w Valued)
high_by true w more = refl
high_by false w more = parts_seen (length more) w more (omega arith)

in_parts_seen : (w : Walk) (bytes : List ℕ) → seen (to_end (with_number w (field.Value in_value.PartsLow)) bytes) ≡ (value_in_parts bytes >>= behind w Valued)
in_parts_seen w bytes =
    via w (field.Value in_value.PartsLow) bytes
    (λ low rest. four rest >>= λ high more. if (low == 4294967295) && (high == 4294967295) then Got tt more else parts (length more) more)
    (behind w Valued)
    (λ low rest e. via w (field.Value (in_value.PartsHigh (low == 4294967295))) rest
    (λ high more. if (low == 4294967295) && (high == 4294967295) then Got tt more else parts (length more) more)
    (behind w Valued)
    (λ high more q. high_by ((low == 4294967295) && (high == 4294967295)) w more))

-- a value that has bytes is passed
pub value_seen : (w : Walk) (s : Shape) (bytes : List ℕ) → has_no_bytes s ≡ false
    → seen (to_end (with_due w (value_due s)) bytes) ≡ (value s bytes >>= behind w Valued)
unfolding value
value_seen w (shape.Fixed zero) bytes h = absurd cc
value_seen w (shape.Fixed (suc n)) bytes h = run_seen w n Valued bytes
value_seen w shape.Byte bytes h = via w (field.Value in_value.ByteCount) bytes (λ n rest. run n rest) (behind w Valued) (λ n rest e. pass_seen w n Valued rest)
value_seen w shape.Short bytes h =
    via w (field.Value in_value.ShortCount) bytes (λ n rest. if n == 65535 then Got tt rest else run n rest) (behind w Valued) (λ n rest e. long_by (n == 65535) w n rest)
value_seen w shape.Long bytes h = long_seen w bytes
value_seen w shape.Pointer bytes h =
    via w (field.Value in_value.PointerCount) bytes (λ n rest. if n == 0 then Got tt rest else (run (n + 8) rest >>= λ u more. long_value more)) (behind w Valued)
    (λ n rest e. pointer_by (n == 0) w n rest)
value_seen w shape.Parts bytes h = in_parts_seen w bytes

pub none_read : (s : Shape) (rest : List ℕ) → has_no_bytes s ≡ true → value s rest ≡ Got tt rest
unfolding value run
none_read (shape.Fixed zero) rest h = refl
none_read (shape.Fixed (suc n)) rest h = absurd (let e : (suc n == 0) ≡ false = search rules in cc)
none_read shape.Byte rest h = absurd cc
none_read shape.Short rest h = absurd cc
none_read shape.Long rest h = absurd cc
none_read shape.Pointer rest h = absurd cc
none_read shape.Parts rest h = absurd cc
