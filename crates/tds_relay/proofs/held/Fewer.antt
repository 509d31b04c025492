-- Who holds a connection behind moves that nobody asks for, where nobody is lent one: whoever held it before.
use Rattle.std.proofs.Common.{◌≡◌, ◌≢◌, ◌⊎◌, ◌∙◌, ◌==◌, ◌≤◌, ℕ, suc, Bool, true, false, not, List, [], ◌∷◌, ◌++◌, length, inl, inr, refl, sym, ap, subst, arith}
use Rattle.std.specs.Prelude.{Option, Some, None, filter, if◌then◌else◌}
use Rattle.std.proofs.lemmas.Bool.{cases_eq, eqb-true, eq-eqb}
use Rattle.tds_wire.specs.declared.told.Token.{Token}
use Rattle.tds_service.specs.Parts.{Part}
use Rattle.tds_service.specs.Service as calls
use Rattle.tds_service.specs.Service.{Call, Service, lease_at, seat_numbered, step}
use Rattle.tds_relay.specs.declared.pool.Hold.{Hold}
use Rattle.tds_relay.specs.Pool as pool
use Rattle.tds_relay.specs.Pool.{Action, Pool, Event, Hearing, Loan, Way, brings_by, comes_by, holder_does, find_key, find_lease, find_number, hearing, holding, keeps_by, key_of, lent_in, renews, renews_by, serves, serves_by, ticket_in, turn, whose, without_lease, without_number}
use Rattle.tds_relay.specs.Core as core
use Rattle.tds_relay.specs.Core.{CausesMove, Core, IsQuiet, Move, Moves, holder, moved, moved_all}
use Rattle.tds_relay.specs.Promises.{Each}
use Rattle.tds_relay.specs.Ties.{Application, Causes, Connection, IsReached, Neither, Parking}
use Rattle.tds_relay.proofs.ends.Standing.{cared_number}
use Rattle.tds_relay.proofs.held.Lists.{found_key}
use Rattle.tds_relay.proofs.held.Numbers.{Apart, apart_at}
use Rattle.tds_relay.proofs.promises.Bringing.{always_sound}
use Rattle.tds_relay.proofs.promises.Caring.{Sound}
use Rattle.tds_relay.proofs.promises.Promised.{handed_to_holder}
use Rattle.tds_relay.proofs.steps.Placed.{differs_by}

-- ---- Lists

none_left_by : (m : ℕ) (y : Hold) (ys : List Hold) (b : Bool) → (y.number == m) ≡ b → find_number m (without_number m ys) ≡ None → find_number m (if not b then y ∷ without_number m ys else without_number m ys) ≡ None
none_left_by m y ys true e ih = ih
none_left_by m y ys false e ih = rw e ih

pub none_left : (m : ℕ) (hs : List Hold) → find_number m (without_number m hs) ≡ None
none_left m [] = refl
none_left m (y ∷ ys) = none_left_by m y ys (y.number == m) refl (none_left m ys)

same_left_by : (m n : ℕ) (y : Hold) (ys : List Hold) (b : Bool) → (y.number == m) ≡ b → m ≢ n → find_number n (without_number m ys) ≡ find_number n ys
    → find_number n (if not b then y ∷ without_number m ys else without_number m ys) ≡ find_number n (y ∷ ys)
same_left_by m n y ys true e differs ih =
    let other : (y.number == n) ≡ false = differs_by (y.number == n) y.number n refl (λ same. differs (sym (eqb-true y.number m e) ∙ same)) in
    rw other ih
same_left_by m n y ys false e differs ih = ap (λ (o : Option Hold). if y.number == n then Some y else o) ih

pub same_left : (m n : ℕ) (hs : List Hold) → m ≢ n → find_number n (without_number m hs) ≡ find_number n hs
same_left m n [] differs = refl
same_left m n (y ∷ ys) differs = same_left_by m n y ys (y.number == m) refl differs (same_left m n ys differs)

other_left : (m n key : ℕ) (hs : List Hold) → (m ≡ n) ⊎ (m ≢ n) → key_of (find_number n (without_number m hs)) ≡ Some key → key_of (find_number n hs) ≡ Some key
other_left m n key hs (inl same) e =
    let none : find_number n (without_number m hs) ≡ None = subst (λ (k : ℕ). find_number k (without_number m hs) ≡ None) same (none_left m hs) in
    absurd (let u : None ≡ Some key = sym (ap key_of none) ∙ e in let v : ⊥ = cc in v)
other_left m n key hs (inr differs) e = ap key_of (sym (same_left m n hs differs)) ∙ e

-- ---- What is done

-- Each who holds a connection held it.
abbrev pub HoldsFewer : Pool → Pool → Type 0
HoldsFewer a b = (n key : ℕ) → key_of (find_number n b.holds) ≡ Some key → key_of (find_number n a.holds) ≡ Some key

fewer_same : (a b : Pool) → b.holds ≡ a.holds → HoldsFewer a b
fewer_same a b same = λ n key e. ap (λ (hs : List Hold). key_of (find_number n hs)) (sym same) ∙ e

fewer_without : (a b : Pool) (m : ℕ) → b.holds ≡ without_number m a.holds → HoldsFewer a b
fewer_without a b m same = λ n key e. other_left m n key a.holds (cases_eq m n) (ap (λ (hs : List Hold). key_of (find_number n hs)) (sym same) ∙ e)

-- Fewer wait, or as many do, and then each who holds a connection held it.
record Thins (a b : Pool) : Type 0 where
  shorter : length b.line ≤ length a.line
  fewer : length b.line ≡ length a.line → HoldsFewer a b

thins_as : (a b : Pool) → b.line ≡ a.line → HoldsFewer a b → Thins a b
thins_as a b line fewer = record {
  shorter = (let same : length b.line ≡ length a.line = ap (λ (ks : List ℕ). length ks) line in let u : length b.line ≤ length a.line = omega (arith, same) in u);
  fewer = λ e. fewer;
}

thins_both : (a b c : Pool) → Thins a b → Thins b c → Thins a c
thins_both a b c h k =
    let one : length b.line ≤ length a.line = h.shorter in
    let two : length c.line ≤ length b.line = k.shorter in
    record {
      shorter = (let u : length c.line ≤ length a.line = omega (arith, one, two) in u);
      fewer = λ e n key is.
          let all : length c.line ≡ length a.line = e in
          let first : length b.line ≡ length a.line = omega (arith, one, two, all) in
          let last : length c.line ≡ length b.line = omega (arith, one, two, all) in
          h.fewer first n key (k.fewer last n key is);
    }

serves_by_thins : (d : Pool) (k : ℕ) (others : List ℕ) (o : Option Loan) → d.line ≡ k ∷ others → Thins d (serves_by d k others o).pool
serves_by_thins d k others None is = thins_as d (serves_by d k others None).pool refl (fewer_same d (serves_by d k others None).pool refl)
serves_by_thins d k others (Some lent) is =
    let all : length d.line ≡ suc (length others) = ap (λ (ks : List ℕ). length ks) is in
    record {
      shorter = (let u : length others ≤ length d.line = omega (arith, all) in u);
      fewer = λ e. absurd (let same : length others ≡ length d.line = e in let u : ⊥ = omega (arith, all, same) in u);
    }

serves_thins : (d : Pool) (waiting : List ℕ) → d.line ≡ waiting → Thins d (serves d waiting).pool
serves_thins d [] is = thins_as d (serves d []).pool refl (fewer_same d (serves d []).pool refl)
serves_thins d (k ∷ others) is = serves_by_thins d k others (lent_in (step {T = Token} d.service calls.Lease).reply) is

brings_thins : (d : Pool) (s : Service) (gives : Bool) (way : Way) (o : Option Loan) → Thins d (brings_by d s gives way o).pool
brings_thins d s gives way None = thins_as d (brings_by d s gives way None).pool refl (fewer_same d (brings_by d s gives way None).pool refl)
brings_thins d s gives way (Some lent) = thins_as d (brings_by d s gives way (Some lent)).pool refl (fewer_same d (brings_by d s gives way (Some lent)).pool refl)

does_thins : (d : Pool) (action : Action) (o : Option Hold) → Thins d (holder_does d action o).pool
does_thins d action None = thins_as d (holder_does d action None).pool refl (fewer_same d (holder_does d action None).pool refl)
does_thins d action (Some h) = thins_as d (holder_does d action (Some h)).pool refl (fewer_same d (holder_does d action (Some h)).pool refl)

lost_thins : (d : Pool) (m : ℕ) → Thins d (turn d (pool.Loses m)).pool
lost_thins d m = thins_as d (turn d (pool.Loses m)).pool refl (fewer_without d (turn d (pool.Loses m)).pool m refl)

pub loses_fewer : (d : Pool) (m : ℕ) → HoldsFewer d (turn d (pool.Loses m)).pool
loses_fewer d m = fewer_without d (turn d (pool.Loses m)).pool m refl

event_thins : (d : Pool) (event : Event) → Causes Neither event → Thins d (turn d event).pool
event_thins d (pool.Waits key) cause = absurd cause
event_thins d (pool.Unwaits key) cause = absurd (let e : Neither ≡ Application key = cause in let u : ⊥ = cc in u)
event_thins d pool.Serves cause = serves_thins d d.line refl
event_thins d (pool.Brings gives way) cause =
    let lent = step {T = Token} d.service calls.Lease in
    brings_thins d lent.service gives way (lent_in lent.reply)
event_thins d (pool.Does key action) cause = does_thins d action (find_key key d.holds)
event_thins d (pool.Leaves key gives way) cause = absurd (let e : Neither ≡ Application key = cause in let u : ⊥ = cc in u)
event_thins d (pool.Renews key resumes) cause = absurd cause
event_thins d (pool.Comes m part way) cause = absurd (let e : Neither ≡ Connection m = cause in let u : ⊥ = cc in u)
event_thins d (pool.Loses m) cause = lost_thins d m

move_thins : (h : Core) (move : Move) → CausesMove Neither move → IsQuiet move → Thins h.pool (moved h move).pool
move_thins h (core.Does event) cause quiet = event_thins h.pool event cause
move_thins h (core.Sends key action) cause quiet = does_thins h.pool action (find_key key h.pool.holds)
move_thins h (core.LetsGo key true gives way) cause quiet = absurd (let e : Neither ≡ Parking key = cause in let u : ⊥ = cc in u)
move_thins h (core.LetsGo key false gives way) cause quiet = absurd (let e : Neither ≡ Application key = cause in let u : ⊥ = cc in u)
move_thins h (core.Loses m) cause quiet = lost_thins h.pool m
move_thins h (core.Replaces m) cause quiet = absurd (let e : Neither ≡ Connection m = cause in let u : ⊥ = cc in u)
move_thins h (core.Comes m part way) cause quiet = absurd quiet
move_thins h (core.Feeds key bytes) cause quiet = absurd quiet
move_thins h (core.Closes key) cause quiet = thins_as h.pool h.pool refl (fewer_same h.pool h.pool refl)
move_thins h (core.Enters key ends) cause quiet = absurd quiet
move_thins h (core.Quits key gives way) cause quiet = absurd quiet

all_thin : (h : Core) (moves : List Move) → Each (CausesMove Neither) moves → Each IsQuiet moves → Thins h.pool (moved_all h moves).pool
all_thin h [] caused quiet = thins_as h.pool h.pool refl (fewer_same h.pool h.pool refl)
all_thin h (move ∷ moves) caused quiet =
    thins_both h.pool (moved h move).pool (moved_all (moved h move) moves).pool (move_thins h move caused.0 quiet.0) (all_thin (moved h move) moves caused.1 quiet.1)

pub fewer_moved : (a b : Core) → Moves Neither a b → b.pool.line ≡ a.pool.line → HoldsFewer a.pool b.pool
fewer_moved a b m line =
    let t : Thins a.pool b.pool = subst (λ (h : Core). Thins a.pool h.pool) m.are (all_thin a m.moves m.caused m.quiet) in
    t.fewer (ap (λ (ks : List ℕ). length ks) line)

-- ---- A packet comes

comes_fewer_by : (d : Pool) (call : Call Token) (s : Service) (m : ℕ) (way : Way) (lease : Option ℕ) (h : Hearing) → HoldsFewer d (comes_by d call s m way lease h).pool
comes_fewer_by d call s m way lease pool.Goes = fewer_same d (comes_by d call s m way lease pool.Goes).pool refl
comes_fewer_by d call s m way lease pool.Settled = fewer_same d (comes_by d call s m way lease pool.Settled).pool refl
comes_fewer_by d call s m way lease pool.Wrong = fewer_without d (comes_by d call s m way lease pool.Wrong).pool m refl

pub comes_fewer : (d : Pool) (m : ℕ) (part : Part Token) (way : Way) → HoldsFewer d (turn d (pool.Comes m part way)).pool
comes_fewer d m part way =
    let heard = step {T = Token} d.service (calls.Came m part) in
    comes_fewer_by d (calls.Came m part) heard.service m way (lease_at (seat_numbered m d.service.seats)) (hearing heard.dones)

-- ---- Whose it is

each_lease_by : (P : Hold → Type 0) (l : ℕ) (h x : Hold) (xs : List Hold) (b : Bool) → P x → (if b then Some x else find_lease l xs) ≡ Some h → (find_lease l xs ≡ Some h → P h) → P h
each_lease_by P l h x xs true p e f = let same : x ≡ h = cc in subst P same p
each_lease_by P l h x xs false p e f = f e

each_lease : (P : Hold → Type 0) (l : ℕ) (h : Hold) (hs : List Hold) → Each P hs → find_lease l hs ≡ Some h → P h
each_lease P l h [] k e = absurd (let u : ⊥ = cc in u)
each_lease P l h (x ∷ xs) k e = each_lease_by P l h x xs (x.lease == l) k.0 e (λ f. each_lease P l h xs k.1 f)

leased_by : (b k : Bool) (l : ℕ) (h x : Hold) (xs : List Hold) → (x.number == h.number) ≡ k → (if b then Some x else find_lease l xs) ≡ Some h → Each (λ (y : Hold). y.number ≢ x.number) xs
    → (find_lease l xs ≡ Some h → find_number h.number xs ≡ Some h) → (if k then Some x else find_number h.number xs) ≡ Some h
leased_by true true l h x xs is e others later = e
leased_by true false l h x xs is e others later =
    let same : x ≡ h = cc in
    let here : (x.number == h.number) ≡ true = eq-eqb x.number h.number (ap (λ (y : Hold). y.number) same) in
    absurd (let u : true ≡ false = sym here ∙ is in let v : ⊥ = cc in v)
leased_by false true l h x xs is e others later = absurd (each_lease (λ (y : Hold). y.number ≢ x.number) l h xs others e (sym (eqb-true x.number h.number is)))
leased_by false false l h x xs is e others later = later e

leased_number : (l : ℕ) (h : Hold) (hs : List Hold) → Apart hs → find_lease l hs ≡ Some h → find_number h.number hs ≡ Some h
leased_number l h [] apart e = absurd (let u : ⊥ = cc in u)
leased_number l h (x ∷ xs) apart e = leased_by (x.lease == l) (x.number == h.number) l h x xs refl e apart.0 (λ f. leased_number l h xs apart.1 f)

-- to whom a packet is handed holds its connection
pub whose_holds : (d : Pool) (n key : ℕ) → IsReached d → whose d n ≡ Some key → holder d n ≡ Some key
whose_holds d n key reached e =
    let sound : Sound d = subst (λ (x : Pool). Sound x) reached.2 (always_sound reached.0 reached.1) in
    let handed = handed_to_holder d n key sound e in
    let here : handed.hold.number ≡ n = cared_number d handed.hold n handed.seat sound handed.its handed.there handed.lent in
    let found : find_number handed.hold.number d.holds ≡ Some handed.hold = leased_number handed.hold.lease handed.hold d.holds (apart_at d reached) handed.its in
    ap (λ (k : ℕ). key_of (find_number k d.holds)) (sym here) ∙ ap key_of found ∙ ap (λ (k : ℕ). Some k) handed.key_is

-- ---- Who holds one

each_number_by : (P : Hold → Type 0) (n : ℕ) (h x : Hold) (xs : List Hold) (b : Bool) → P x → (if b then Some x else find_number n xs) ≡ Some h → (find_number n xs ≡ Some h → P h) → P h
each_number_by P n h x xs true p e f = let same : x ≡ h = cc in subst P same p
each_number_by P n h x xs false p e f = f e

pub each_number : (P : Hold → Type 0) (n : ℕ) (h : Hold) (hs : List Hold) → Each P hs → find_number n hs ≡ Some h → P h
each_number P n h [] k e = absurd (let u : ⊥ = cc in u)
each_number P n h (x ∷ xs) k e = each_number_by P n h x xs (x.number == n) k.0 e (λ f. each_number P n h xs k.1 f)

none_each_by : (key : ℕ) (x : Hold) (xs : List Hold) (b : Bool) → (x.key == key) ≡ b → (if b then Some x else find_key key xs) ≡ None → (find_key key xs ≡ None → Each (λ (y : Hold). y.key ≢ key) xs) → Each (λ (y : Hold). y.key ≢ key) (x ∷ xs)
none_each_by key x xs true is e rest = absurd (let u : Some x ≡ None = e in let v : ⊥ = cc in v)
none_each_by key x xs false is e rest = ((λ same. (let u : true ≡ false = sym (eq-eqb x.key key same) ∙ is in let v : ⊥ = cc in v)), rest e)

none_each : (key : ℕ) (hs : List Hold) → find_key key hs ≡ None → Each (λ (y : Hold). y.key ≢ key) hs
none_each key [] e = tt
none_each key (x ∷ xs) e = none_each_by key x xs (x.key == key) refl e (λ f. none_each key xs f)

pub last_each : (P : Hold → Type 0) (h : Hold) (hs : List Hold) → Each P (hs ++ h ∷ []) → P h
last_each P h [] k = k.0
last_each P h (x ∷ xs) k = last_each P h xs k.1

-- whoever is lent one
pub last_held : (key : ℕ) (h : Hold) (hs : List Hold) → h.key ≡ key → find_key key (hs ++ h ∷ []) ≡ None → ⊥
last_held key h hs its none = last_each (λ (y : Hold). y.key ≢ key) h hs (none_each key (hs ++ h ∷ []) none) its

held_by : (number key : ℕ) (hs : List Hold) (o : Option Hold) → find_number number hs ≡ o → key_of o ≡ Some key → find_key key hs ≡ None → ⊥
held_by number key hs None is its none = (let u : None ≡ Some key = its in let v : ⊥ = cc in v)
held_by number key hs (Some h) is its none = each_number (λ (y : Hold). y.key ≢ key) number h hs (none_each key hs none) is (let u : Some h.key ≡ Some key = its in cc)

-- whoever holds the connection of a number
pub who_held : (number key : ℕ) (hs : List Hold) → key_of (find_number number hs) ≡ Some key → find_key key hs ≡ None → ⊥
who_held number key hs its none = held_by number key hs (find_number number hs) refl its none

-- ---- One is kept by another lease

number_by : (n : ℕ) (h x : Hold) (xs : List Hold) (b : Bool) → (x.number == n) ≡ b → (if b then Some x else find_number n xs) ≡ Some h → (find_number n xs ≡ Some h → h.number ≡ n) → h.number ≡ n
number_by n h x xs true is e f = let same : x ≡ h = cc in ap (λ (y : Hold). y.number) (sym same) ∙ eqb-true x.number n is
number_by n h x xs false is e f = f e

pub number_is : (n : ℕ) (h : Hold) (hs : List Hold) → find_number n hs ≡ Some h → h.number ≡ n
number_is n h [] e = absurd (let u : ⊥ = cc in u)
number_is n h (x ∷ xs) e = number_by n h x xs (x.number == n) refl e (λ f. number_is n h xs f)

kept_here : (b : Bool) (n : ℕ) (h x : Hold) (xs fs : List Hold) → (if b then Some x else find_number n fs) ≡ Some h → (find_number n fs ≡ Some h → find_number n xs ≡ Some h) → (if b then Some x else find_number n xs) ≡ Some h
kept_here true n h x xs fs e f = e
kept_here false n h x xs fs e f = f e

kept_gone : (b : Bool) (n : ℕ) (h x : Hold) (xs : List Hold) → (x.number == n) ≡ b → Each (λ (y : Hold). y.number ≢ x.number) xs → find_number n xs ≡ Some h → (if b then Some x else find_number n xs) ≡ Some h
kept_gone true n h x xs is others e =
    absurd (each_number (λ (y : Hold). y.number ≢ x.number) n h xs others e (number_is n h xs e ∙ sym (eqb-true x.number n is)))
kept_gone false n h x xs is others e = e

kept_by : (k : Bool) (p : Hold → Bool) (n : ℕ) (h x : Hold) (xs : List Hold) → Each (λ (y : Hold). y.number ≢ x.number) xs → find_number n (if k then x ∷ filter p xs else filter p xs) ≡ Some h
    → (find_number n (filter p xs) ≡ Some h → find_number n xs ≡ Some h) → find_number n (x ∷ xs) ≡ Some h
kept_by true p n h x xs others e f = kept_here (x.number == n) n h x xs (filter p xs) e f
kept_by false p n h x xs others e f = kept_gone (x.number == n) n h x xs refl others (f e)

pub kept_number : (p : Hold → Bool) (n : ℕ) (h : Hold) (hs : List Hold) → Apart hs → find_number n (filter p hs) ≡ Some h → find_number n hs ≡ Some h
kept_number p n h [] apart e = e
kept_number p n h (x ∷ xs) apart e = kept_by (p x) p n h x xs apart.0 e (λ f. kept_number p n h xs apart.1 f)

last_by : (b : Bool) (h x : Hold) → (if b then Some x else None) ≡ Some h → h ≡ x
last_by true h x e = let same : x ≡ h = cc in sym same
last_by false h x e = absurd (let u : ⊥ = cc in u)

added_by : (b : Bool) (n : ℕ) (h x z : Hold) (zs : List Hold) → (if b then Some z else find_number n (zs ++ x ∷ [])) ≡ Some h → (find_number n (zs ++ x ∷ []) ≡ Some h → (find_number n zs ≡ Some h) ⊎ (h ≡ x))
    → ((if b then Some z else find_number n zs) ≡ Some h) ⊎ (h ≡ x)
added_by true n h x z zs e f = inl e
added_by false n h x z zs e f = f e

pub added_number : (n : ℕ) (h x : Hold) (hs : List Hold) → find_number n (hs ++ x ∷ []) ≡ Some h → (find_number n hs ≡ Some h) ⊎ (h ≡ x)
added_number n h x [] e = inr (last_by (x.number == n) h x e)
added_number n h x (z ∷ zs) e = added_by (z.number == n) n h x z zs e (λ f. added_number n h x zs f)

record KeyOf (o : Option Hold) (key : ℕ) : Type 0 where
  hold : Hold
  is : o ≡ Some hold
  key_is : hold.key ≡ key

some_key : (o : Option Hold) (key : ℕ) → key_of o ≡ Some key → KeyOf o key
some_key None key e = absurd (let u : ⊥ = cc in u)
some_key (Some h) key e = record { hold = h; is = refl; key_is = (let u : h.key ≡ key = cc in u) }

-- Whoever holds a connection held it; or it is this one.
abbrev HoldsBut : ℕ → Pool → Pool → Type 0
HoldsBut key a b = (n k : ℕ) → key_of (find_number n b.holds) ≡ Some k → (k ≡ key) ⊎ (key_of (find_number n a.holds) ≡ Some k)

but_kept : (p : Hold → Bool) (key : ℕ) (a b : Pool) → Apart a.holds → b.holds ≡ filter p a.holds → HoldsBut key a b
but_kept p key a b apart same = λ n k e.
    let y = some_key (find_number n (filter p a.holds)) k (ap (λ (hs : List Hold). key_of (find_number n hs)) (sym same) ∙ e) in
    inr (ap key_of (kept_number p n y.hold a.holds apart y.is) ∙ ap (λ (m : ℕ). Some m) y.key_is)

but_added_by : (key n k : ℕ) (a : Pool) (h x : Hold) (hs : List Hold) → x.key ≡ key → h.key ≡ k → (find_number n hs ≡ Some h → key_of (find_number n a.holds) ≡ Some k) → (find_number n hs ≡ Some h) ⊎ (h ≡ x)
    → (k ≡ key) ⊎ (key_of (find_number n a.holds) ≡ Some k)
but_added_by key n k a h x hs mine is f (inl found) = inr (f found)
but_added_by key n k a h x hs mine is f (inr same) = inl (sym is ∙ ap (λ (y : Hold). y.key) same ∙ mine)

but_added : (p : Hold → Bool) (key : ℕ) (x : Hold) (a b : Pool) → Apart a.holds → x.key ≡ key → b.holds ≡ filter p a.holds ++ x ∷ [] → HoldsBut key a b
but_added p key x a b apart mine same = λ n k e.
    let y = some_key (find_number n (filter p a.holds ++ x ∷ [])) k (ap (λ (hs : List Hold). key_of (find_number n hs)) (sym same) ∙ e) in
    but_added_by key n k a y.hold x (filter p a.holds) mine y.key_is
    (λ found. ap key_of (kept_number p n y.hold a.holds apart found) ∙ ap (λ (m : ℕ). Some m) y.key_is)
    (added_number n y.hold x (filter p a.holds) y.is)

but_same : (key : ℕ) (a b : Pool) → b.holds ≡ a.holds → HoldsBut key a b
but_same key a b same = λ n k e. inr (ap (λ (hs : List Hold). key_of (find_number n hs)) (sym same) ∙ e)

module _ (d : Pool) (key : ℕ) (apart : Apart d.holds) where
  renews_by_but : (h : Hold) (ticket : ℕ) (o : Option Loan) (resumes : Bool) → h.key ≡ key → HoldsBut key d (renews_by d h ticket o resumes).pool
  renews_by_but h ticket o false mine = but_kept (λ (y : Hold). not (y.number == h.number)) key d (renews_by d h ticket o false).pool apart refl
  renews_by_but h ticket None true mine = but_kept (λ (y : Hold). not (y.number == h.number)) key d (renews_by d h ticket None true).pool apart refl
  renews_by_but h ticket (Some lent) true mine =
      but_added (λ (y : Hold). not (y.lease == h.lease)) key (holding h.key lent.lease lent.number) d (renews_by d h ticket (Some lent) true).pool apart mine refl

  keeps_by_but : (h : Hold) (resumes : Bool) (s : Service) (o : Option ℕ) → h.key ≡ key → HoldsBut key d (keeps_by d h resumes s o).pool
  keeps_by_but h resumes s None mine = but_same key d (keeps_by d h resumes s None).pool refl
  keeps_by_but h resumes s (Some ticket) mine = renews_by_but h ticket (lent_in (step {T = Token} s (calls.Resume ticket)).reply) resumes mine

  renews_but : (resumes : Bool) (o : Option Hold) → find_key key d.holds ≡ o → HoldsBut key d (renews d resumes o).pool
  renews_but resumes None e = but_same key d (renews d resumes None).pool refl
  renews_but resumes (Some h) e =
      let kept = step {T = Token} d.service (calls.Keep h.lease) in
      keeps_by_but h resumes kept.service (ticket_in kept.reply) (eqb-true h.key key (found_key key h d.holds e))

pub renewed_but : (d : Pool) (key : ℕ) (resumes : Bool) → IsReached d → HoldsBut key d (turn d (pool.Renews key resumes)).pool
renewed_but d key resumes reached = renews_but d key (apart_at d reached) resumes (find_key key d.holds) refl
