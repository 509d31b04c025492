-- Each call takes a byte at least.
use Rattle.std.proofs.Common.{◌≡◌, ◌≢◌, ◌∙◌, ℕ, zero, suc, ◌≤◌, ◌==◌, ◌&&◌, nat_lt, Bool, true, false, List, [], ◌∷◌, length, refl, sym, ap, subst, rules, arith}
use Rattle.std.proofs.Math.Nat.{le-min, le_antisymm, le_refl, le_trans, le_of_sub-eq-zero, min-le_left, min-le_right}
use Rattle.std.proofs.lemmas.Bool.{eqb-false, ltb-false, ne_eqb}
use Rattle.std.specs.Prelude.{Option, Some, None, Result, Ok, Err, IfOk, IfSome, if◌then◌else◌, min, not, ◌||◌, ◌-◌, ◌+◌, ◌*◌}
use Rattle.tds_packet.specs.declared.kind.Kind.{Kind}
use Rattle.tds_packet.specs.Layout.{bits_of, has_bit, is_status, status_of}
use Rattle.tds_packet.specs.declared.kind.Direction.TheVariants.{ToServer}
use Rattle.tds_front.specs.declared.fault.FrontFault.{FrontFault}
use Rattle.tds_front.specs.declared.fault.FrontFault.TheVariants as faults
use Rattle.tds_front.specs.declared.front.Due.{Due}
use Rattle.tds_front.specs.declared.front.Due.TheVariants as dues
use Rattle.tds_front.specs.declared.front.Fed.{Fed}
use Rattle.tds_front.specs.declared.front.Front.{Front}
use Rattle.tds_front.specs.declared.front.Part.{Part}
use Rattle.tds_front.specs.declared.front.Part.TheVariants.{Low, High, Third, Fourth, Headers, Body, Dropped}
use Rattle.tds_front.specs.declared.front.Said.TheVariants as said
use Rattle.tds_front.specs.declared.stage.Action.{Action}
use Rattle.tds_front.specs.declared.stage.Action.TheVariants as actions
use Rattle.tds_front.specs.declared.stage.Head.{Head}
use Rattle.tds_front.specs.declared.stage.Stage.{Stage}
use Rattle.tds_front.specs.declared.stage.Stage.TheVariants.{Quiet, Receiving, Underway, Stopping, Broken}
use Rattle.tds_front.specs.Bytes.{FrontStep, TakesSome, is_due_some, is_part_some, behind_length, body_count, action_done, due_for, ended_in, fails, fed, fed_by, fed_unless, kind_from, packet_done, length_part_behind, part_of, run_of, says, told_body, front_with_due, front_with_kind, with_part}
use Rattle.tds_front.specs.Rules.{taken}
use Rattle.tds_front.proofs.Packets.{front}

abbrev IsDueSome : Due → Type 0
IsDueSome dues.Type = Unit {0}
IsDueSome (dues.Status kind) = Unit {0}
IsDueSome (dues.HighLength kind status) = Unit {0}
IsDueSome (dues.LowLength kind status high) = Unit {0}
IsDueSome (dues.Rest head left) = Unit {0}
IsDueSome (dues.Data left) = 1 ≤ left

abbrev IsPartSome : Part → Type 0
IsPartSome Low = Unit {0}
IsPartSome (High low) = Unit {0}
IsPartSome (Third count) = Unit {0}
IsPartSome (Fourth count) = Unit {0}
IsPartSome (Headers left) = 1 ≤ left
IsPartSome Body = Unit {0}
IsPartSome Dropped = Unit {0}

abbrev Lively : Front → Type 0
Lively f = IsDueSome f.due × IsPartSome f.part

one : 1 ≤ 1
one = omega arith

abbrev Does : FrontStep → Type 0
Does step = Lively step.front × IfOk step.brings (λ fed. 1 ≤ fed.count)

ended_some : (f : Front) (count body : ℕ) (part : Part) → Lively f → 1 ≤ count → Does (ended_in f count body part)
ended_some f count body Low t some = (t, tt)
ended_some f count body (High low) t some = (t, tt)
ended_some f count body (Third n) t some = (t, tt)
ended_some f count body (Fourth n) t some = (t, tt)
ended_some f count body (Headers n) t some = (t, tt)
ended_some f count body Body t some = (t, some)
ended_some f count body Dropped t some = (t, some)

done_some : (f : Front) (stage : Stage) (count body : ℕ) → Lively f → 1 ≤ count → Does (packet_done f stage count body)
done_some f Quiet count body t some = (t, some)
done_some f (Receiving kind gone) count body t some = (t, some)
done_some f (Underway gone) count body t some = ended_some f count body f.part t some
done_some f Stopping count body t some = (t, some)
done_some f (Broken fault) count body t some = (t, some)

-- ---- Bytes of a header

kind_some : (f : Front) (kind : Option Kind) → Lively f → Does (front_with_kind f kind)
kind_some f None t = (t, tt)
kind_some f (Some kind) t = ((tt, t.1), one)

status_some : (f : Front) (kind : Kind) (byte : ℕ) (is_one : Bool) → Lively f
    → Does (if is_one then says (front_with_due f (dues.HighLength kind (status_of byte))) 1 said.Nothing else fails f faults.WrongStatus)
status_some f kind byte true t = ((tt, t.1), one)
status_some f kind byte false t = (t, tt)

length_some : (f : Front) (head : Head) (wrong empty : Bool) → Lively f
    → Does (if wrong then fails f faults.WrongLength else if empty then fails f faults.EmptyPart else says (front_with_due f (dues.Rest head 4)) 1 said.Nothing)
length_some f head true empty t = (t, tt)
length_some f head false true t = (t, tt)
length_some f head false false t = ((tt, t.1), one)

positive : (n : ℕ) → n ≢ 0 → 1 ≤ n
positive zero differs = absurd (differs refl)
positive (suc n) differs = omega arith

due_some : (count : ℕ) (none : Bool) → (none ≡ false → 1 ≤ count) → IsDueSome (if none then dues.Type else dues.Data count)
due_some count true some = tt
due_some count false some = some refl

not_none : (count : ℕ) → (count == 0) ≡ false → 1 ≤ count
not_none count e = positive count (eqb-false count 0 e)

headed_some : (f : Front) (stage : Stage) (count : ℕ) (part : Part) → IsPartSome part → IsDueSome (due_for count)
headed_some f stage count part t = due_some count (count == 0) (not_none count)

kind_part : (kind : Kind) → IsPartSome (part_of kind)
kind_part kind = search rules

went_some : (f : Front) (empty : Bool) → Lively f → Does (if empty then packet_done f f.stage 1 0 else says f 1 said.Nothing)
went_some f true t = done_some f f.stage 1 0 t one
went_some f false t = (t, one)

action_some : (f : Front) (stage : Stage) (count : ℕ) (does : Result Action FrontFault) → Lively f → Does (action_done f stage count does)
action_some f stage count (Err fault) t = (t, tt)
action_some f stage count (Ok (actions.Begin kind reset)) t = ((headed_some f stage count (part_of kind) (kind_part kind), kind_part kind), one)
action_some f stage count (Ok actions.Go) t = went_some (front f.most stage (due_for count) f.part) (count == 0) (headed_some f stage count f.part t.1, t.1)
action_some f stage count (Ok (actions.Forget gone)) t = ((headed_some f stage count Dropped tt, tt), one)
action_some f stage count (Ok actions.Acknowledge) t = ((headed_some f stage count Dropped tt, tt), one)
action_some f stage count (Ok actions.HandOn) t = ((headed_some f stage count Dropped tt, tt), one)

rest_some : (f : Front) (head : Head) (left : ℕ) (more : Bool) → Lively f
    → Does (if more then says (front_with_due f (dues.Rest head (left - 1))) 1 said.Nothing else action_done f (taken f.stage head).stage head.count (taken f.stage head).does)
rest_some f head left true t = ((tt, t.1), one)
rest_some f head left false t = action_some f (taken f.stage head).stage head.count (taken f.stage head).does t

-- ---- Data

run_some : (part : Part) (there : ℕ) → IsPartSome part → 1 ≤ there → (1 ≤ run_of part there) × (run_of part there ≤ there)
run_some Low there h some = (one, some)
run_some (High low) there h some = (one, some)
run_some (Third count) there h some = (one, some)
run_some (Fourth count) there h some = (one, some)
run_some (Headers left) there h some = (le-min h some, min-le_right left there)
run_some Body there h some = (some, le_refl there)
run_some Dropped there h some = (some, le_refl there)

above : (a b : ℕ) → b ≤ a → a ≢ b → 1 ≤ a - b
above a b le differs = positive (a - b) (λ e. differs (le_antisymm (le_of_sub-eq-zero e) le))

differ : (a b : ℕ) → (a == b) ≡ false → a ≢ b
differ a b e same = eqb-false a b e same

behind_if : (left run : ℕ) (all : Bool) → run ≤ left → (left == run) ≡ all → IsPartSome (if all then Body else Headers (left - run))
behind_if left run true le e = tt
behind_if left run false le e = above left run le (differ left run e)

length_part : (count : ℕ) (none : Bool) → 4 ≤ count → (count == 4) ≡ none → IsPartSome (if none then Body else Headers (count - 4))
length_part count true le e = tt
length_part count false le e = above count 4 le (differ count 4 e)

fourth_some : (count : ℕ) (is_last : Bool) (less : Bool) → nat_lt count 4 ≡ less → IfSome (if is_last && not less then Some (behind_length count) else None) IsPartSome
fourth_some count true true e = tt
fourth_some count true false e = length_part count (count == 4) (ltb-false count 4 e) refl
fourth_some count false less e = tt

third_some : (count : ℕ) (is_one : Bool) → IfSome (if is_one then Some (Fourth count) else None) IsPartSome
third_some count true = tt
third_some count false = tt

headers_some : (left run : ℕ) (all : Bool) → run ≤ left → (left == run) ≡ all → IfSome (if all then Some Body else Some (Headers (left - run))) IsPartSome
headers_some left run true le e = tt
headers_some left run false le e = above left run le (differ left run e)

behind_some : (part : Part) (byte there : ℕ) → IsPartSome part → IfSome (length_part_behind part byte (run_of part there)) IsPartSome
behind_some Low byte there h = tt
behind_some (High low) byte there h = tt
behind_some (Third count) byte there h = third_some count (byte == 0)
behind_some (Fourth count) byte there h = fourth_some count (byte == 0) (nat_lt count 4) refl
behind_some (Headers left) byte there h = headers_some left (min left there) (left == min left there) (min-le_left left there) refl
behind_some Body byte there h = tt
behind_some Dropped byte there h = tt

passed_some : (f : Front) (left run body : ℕ) (all : Bool) → Lively f → 1 ≤ run → run ≤ left → (left == run) ≡ all
    → Does (if all then packet_done (front_with_due f dues.Type) f.stage run body else says (front_with_due f (dues.Data (left - run))) run (told_body body))
passed_some f left run body true t some le e = done_some (front_with_due f dues.Type) f.stage run body (tt, t.1) some
passed_some f left run body false t some le e = ((above left run le (differ left run e), t.1), some)

part_some : (f : Front) (left run body : ℕ) (behind : Option Part) → Lively f → 1 ≤ run → run ≤ left → IfSome behind IsPartSome → Does (with_part f left run body behind)
part_some f left run body None t some le h = (t, tt)
part_some f left run body (Some next) t some le h = passed_some (front f.most f.stage f.due next) left run body (left == run) (t.0, h) some le refl

data_some : (f : Front) (left byte there : ℕ) → IsPartSome f.part → Lively f → 1 ≤ left → 1 ≤ there
    → Does (with_part f left (run_of f.part (min left there)) (body_count f.part (run_of f.part (min left there))) (length_part_behind f.part byte (run_of f.part (min left there))))
data_some f left byte there h t due some =
    let runs = run_some f.part (min left there) h (le-min due some) in
    part_some f left (run_of f.part (min left there)) (body_count f.part (run_of f.part (min left there))) (length_part_behind f.part byte (run_of f.part (min left there)))
    t runs.0 (le_trans runs.1 (min-le_left left there)) (behind_some f.part byte (min left there) h)

-- ---- Any bytes

by_due : (most : ℕ) (stage : Stage) (part : Part) (next : Due) (byte there : ℕ) → Lively (front most stage next part) → 1 ≤ there → Does (fed_by next (front most stage next part) byte there)
by_due most stage part dues.Type byte there t some = kind_some (front most stage dues.Type part) (kind_from byte) t
by_due most stage part (dues.Status kind) byte there t some = status_some (front most stage (dues.Status kind) part) kind byte (is_status ToServer byte) t
by_due most stage part (dues.HighLength kind status) byte there t some = ((tt, t.1), one)
by_due most stage part (dues.LowLength kind status high) byte there t some =
    length_some (front most stage (dues.LowLength kind status high) part) (record { kind = kind; status = status; count = 256 * high + byte - 8 })
    (nat_lt (256 * high + byte) 8 || nat_lt most (256 * high + byte)) ((256 * high + byte == 8) && not (has_bit (bits_of status) 1)) t
by_due most stage part (dues.Rest head left) byte there t some = rest_some (front most stage (dues.Rest head left) part) head left (nat_lt 1 left) t
by_due most stage part (dues.Data left) byte there t some = data_some (front most stage (dues.Data left) part) left byte there t.1 t t.0 some

unless_broken : (most : ℕ) (stage : Stage) (due : Due) (part : Part) (byte there : ℕ) → Lively (front most stage due part) → 1 ≤ there → Does (fed_unless stage (front most stage due part) byte there)
unless_broken most Quiet due part byte there t some = by_due most Quiet part due byte there t some
unless_broken most (Receiving kind gone) due part byte there t some = by_due most (Receiving kind gone) part due byte there t some
unless_broken most (Underway gone) due part byte there t some = by_due most (Underway gone) part due byte there t some
unless_broken most Stopping due part byte there t some = by_due most Stopping part due byte there t some
unless_broken most (Broken fault) due part byte there t some = (t, tt)

-- ---- As a test

some_by : (n : ℕ) → not (n == 0) ≡ true → 1 ≤ n
some_by zero e = absurd (let u : ⊥ = cc in u)
some_by (suc n) e = omega arith

by_some : (n : ℕ) → 1 ≤ n → not (n == 0) ≡ true
by_some n h = ap not (ne_eqb n 0 (λ e. let u : ⊥ = omega (arith, h, e) in u))

due_by : (next : Due) → is_due_some next ≡ true → IsDueSome next
due_by dues.Type e = tt
due_by (dues.Status kind) e = tt
due_by (dues.HighLength kind status) e = tt
due_by (dues.LowLength kind status high) e = tt
due_by (dues.Rest head left) e = tt
due_by (dues.Data left) e = some_by left e

by_due_some : (next : Due) → IsDueSome next → is_due_some next ≡ true
by_due_some dues.Type h = refl
by_due_some (dues.Status kind) h = refl
by_due_some (dues.HighLength kind status) h = refl
by_due_some (dues.LowLength kind status high) h = refl
by_due_some (dues.Rest head left) h = refl
by_due_some (dues.Data left) h = by_some left h

part_by : (part : Part) → is_part_some part ≡ true → IsPartSome part
part_by Low e = tt
part_by (High low) e = tt
part_by (Third count) e = tt
part_by (Fourth count) e = tt
part_by (Headers left) e = some_by left e
part_by Body e = tt
part_by Dropped e = tt

by_part : (part : Part) → IsPartSome part → is_part_some part ≡ true
by_part Low h = refl
by_part (High low) h = refl
by_part (Third count) h = refl
by_part (Fourth count) h = refl
by_part (Headers left) h = by_some left h
by_part Body h = refl
by_part Dropped h = refl

both_by : (a b : Bool) → (a && b) ≡ true → (a ≡ true) × (b ≡ true)
both_by true b e = (refl, e)
both_by false b e = absurd (let u : ⊥ = cc in u)

lively : (f : Front) → TakesSome f → Lively f
lively f t = let both = both_by (is_due_some f.due) (is_part_some f.part) t in (due_by f.due both.0, part_by f.part both.1)

tells : (f : Front) → Lively f → TakesSome f
tells f l = ap (λ (b : Bool). b && is_part_some f.part) (by_due_some f.due l.0) ∙ by_part f.part l.1

takes_lively : (f : Front) (byte : ℕ) (rest : List ℕ) → Lively f → Does (fed f (byte ∷ rest))
unfolding fed
takes_lively f byte rest t = unless_broken f.most f.stage f.due f.part byte (length (byte ∷ rest)) t (omega arith)

pub takes : (f : Front) (byte : ℕ) (rest : List ℕ) → TakesSome f → TakesSome (fed f (byte ∷ rest)).front × IfOk (fed f (byte ∷ rest)).brings (λ (taken : Fed). 1 ≤ taken.count)
takes f byte rest t = let d = takes_lively f byte rest (lively f t) in (tells (fed f (byte ∷ rest)).front d.0, d.1)

pub takes_none : (f : Front) → TakesSome f → TakesSome (fed f []).front
unfolding fed
takes_none f t = t
