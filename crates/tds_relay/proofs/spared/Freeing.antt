-- A connection that is let go: who else holds one does so still, nobody holds that, and what is put there.
use Rattle.std.proofs.Common.{◌≡◌, ◌≢◌, ◌⊎◌, ◌∙◌, ◌==◌, ◌++◌, ◌≤◌, ℕ, Bool, true, false, not, List, [], ◌∷◌, Option, Some, None, inl, inr, refl, sym, ap, subst, append-nil, arith, if◌then◌else◌}
use Rattle.std.specs.Prelude.{Result, Ok, Err, OnOk, IsSome, filter}
use Rattle.std.proofs.lemmas.Bool.{eqb-true, eq-eqb}
use Rattle.tds_client.specs.Session.{ClientSession}
use Rattle.tds_packet.specs.Reading.{Reading}
use Rattle.tds_service.specs.Table.{client_of}
use Rattle.tds_relay.specs.declared.pool.Pool as pools
use Rattle.tds_relay.specs.declared.pool.Hold.{Hold}
use Rattle.tds_relay.specs.declared.pool.leaving.Left.{Left}
use Rattle.tds_relay.specs.declared.relay.Relay as code
use Rattle.tds_relay.specs.Cleaning.{OfItsHold, WaitsAtEnd, WaitsBehindEnd, WaitsSinceEnd}
use Rattle.tds_relay.specs.Cleaning as cleaning
use Rattle.tds_relay.specs.Pool as pool
use Rattle.tds_relay.specs.Pool.{Pool, find_key, find_lease, find_number, key_of, without_lease, without_number}
use Rattle.tds_relay.specs.Lent.{IsLetGo, KeepsAnswers, LendsInLine, MayForget, MayBeLent, OthersKeepAt, KeepsGiven}
use Rattle.tds_relay.specs.Lent as filling
use Rattle.tds_relay.specs.Core.{holder}
use Rattle.tds_relay.specs.Promises.{Each}
use Rattle.tds_relay.specs.Reads.{FillsAt, carried_there, queue_on, if_open, waits_on}
use Rattle.tds_relay.specs.Ties.{IsNumberOf, IsReached, Turns, pool_in}
use Rattle.tds_relay.proofs.held.Fewer.{each_number, same_left}
use Rattle.tds_relay.proofs.held.Sitting.{Sits}
use Rattle.tds_relay.proofs.held.Lists.{found_key}
use Rattle.tds_relay.proofs.held.Numbers.{Apart, apart_at, found_number, its_holder}
use Rattle.tds_relay.proofs.held.Seated.{each_found_by, each_key}
use Rattle.tds_relay.proofs.promises.Caring.{Sound}
use Rattle.tds_relay.proofs.promises.Holding.{found_by_lease}
use Rattle.tds_relay.proofs.spared.Filling.{carried, key_some, waits_queued}
use Rattle.tds_relay.proofs.spared.Held.{not_equal, sits_at, sound_at}
use Rattle.tds_relay.proofs.steps.Placed.{differs_by}

-- ---- Who else holds one

kept_if : (p : Hold → Bool) (n : ℕ) (g x : Hold) (xs : List Hold) (b k : Bool) → (x.number == n) ≡ b → p x ≡ k → (if b then Some x else find_number n xs) ≡ Some g → p g ≡ true
    → (find_number n xs ≡ Some g → find_number n (filter p xs) ≡ Some g) → find_number n (if k then x ∷ filter p xs else filter p xs) ≡ Some g
kept_if p n g x xs true true e q f kept later = rw e f
kept_if p n g x xs true false e q f kept later =
    let same : x ≡ g = cc in
    absurd (let u : true ≡ false = sym kept ∙ ap p (sym same) ∙ q in let v : ⊥ = cc in v)
kept_if p n g x xs false true e q f kept later = rw e (later f)
kept_if p n g x xs false false e q f kept later = later f

kept_first : (p : Hold → Bool) (n : ℕ) (g : Hold) (hs : List Hold) → find_number n hs ≡ Some g → p g ≡ true → find_number n (filter p hs) ≡ Some g
kept_first p n g [] e kept = absurd (let u : ⊥ = cc in u)
kept_first p n g (x ∷ xs) e kept = kept_if p n g x xs (x.number == n) (p x) refl refl e kept (λ f. kept_first p n g xs f kept)

still_none_if : (p : Hold → Bool) (n : ℕ) (x : Hold) (xs : List Hold) (b k : Bool) → (x.number == n) ≡ b → (if b then Some x else find_number n xs) ≡ None
    → (find_number n xs ≡ None → find_number n (filter p xs) ≡ None) → find_number n (if k then x ∷ filter p xs else filter p xs) ≡ None
still_none_if p n x xs true k e f later = absurd (let u : ⊥ = cc in u)
still_none_if p n x xs false true e f later = rw e (later f)
still_none_if p n x xs false false e f later = later f

still_none : (p : Hold → Bool) (n : ℕ) (hs : List Hold) → find_number n hs ≡ None → find_number n (filter p hs) ≡ None
still_none p n [] e = refl
still_none p n (x ∷ xs) e = still_none_if p n x xs (x.number == n) (p x) refl e (λ f. still_none p n xs f)

module _ (d : Pool) (key : ℕ) (h : Hold) (reached : IsReached d) (its : find_key key d.holds ≡ Some h) where
  other_lease : (n : ℕ) (g : Hold) → find_number n d.holds ≡ Some g → g.key ≢ key → g.lease ≢ h.lease
  other_lease n g found differs = λ e.
      let sound : Sound d = sound_at d reached in
      let one : find_lease g.lease d.holds ≡ Some g = each_number (λ (y : Hold). find_lease y.lease d.holds ≡ Some y) n g d.holds (each_found_by 0 d.service.given d.holds sound.rising) found in
      let two : find_lease h.lease d.holds ≡ Some h = found_by_lease key 0 d.service.given h d.holds sound.rising its in
      let three : find_lease g.lease d.holds ≡ Some h = subst (λ (l : ℕ). find_lease l d.holds ≡ Some h) (sym e) two in
      let same : g ≡ h = (let u : Some g ≡ Some h = sym one ∙ three in cc) in
      differs (ap (λ (x : Hold). x.key) same ∙ eqb-true h.key key (found_key key h d.holds its))

  without_by : (n : ℕ) (o : Option Hold) → find_number n d.holds ≡ o → key_of o ≢ Some key → find_number n (without_lease h.lease d.holds) ≡ o
  without_by n None is differs = still_none (λ (x : Hold). not (x.lease == h.lease)) n d.holds is
  without_by n (Some g) is differs =
      kept_first (λ (x : Hold). not (x.lease == h.lease)) n g d.holds is
      (not_equal (g.lease == h.lease) g.lease h.lease refl (other_lease n g is (λ e. differs (ap (λ (k : ℕ). Some k) e))))

  pub left_holds : (n : ℕ) → key_of (find_number n d.holds) ≢ Some key → find_number n (without_lease h.lease d.holds) ≡ find_number n d.holds
  left_holds n differs = without_by n (find_number n d.holds) refl differs

-- where it held none
left_none : (key : ℕ) (gives : Bool) (way : pool.Way) (d e : Pool) (before after : List ℕ) → Turns (pool.Leaves key gives way) d e before after → find_key key d.holds ≡ None → e.holds ≡ d.holds
left_none key gives way d e before after t none = ap (λ (x : Pool). x.holds) t.pool_is ∙ ap (λ (o : Option Hold). (pool.leaves d key gives way o).pool.holds) none

left_some : (key : ℕ) (gives : Bool) (way : pool.Way) (d e : Pool) (before after : List ℕ) (h : Hold) → Turns (pool.Leaves key gives way) d e before after → find_key key d.holds ≡ Some h → e.holds ≡ without_lease h.lease d.holds
left_some key gives way d e before after h t its = ap (λ (x : Pool). x.holds) t.pool_is ∙ ap (λ (o : Option Hold). (pool.leaves d key gives way o).pool.holds) its

-- and nobody holds that
none_each : (n : ℕ) (hs : List Hold) → Each (λ (y : Hold). y.number ≢ n) hs → find_number n hs ≡ None
none_each n [] each = refl
none_each n (x ∷ xs) each = let other : (x.number == n) ≡ false = differs_by (x.number == n) x.number n refl each.0 in rw other (none_each n xs each.1)

gone_if : (n : ℕ) (h x : Hold) (xs : List Hold) (b k : Bool) → (x.number == n) ≡ b → not (x.lease == h.lease) ≡ k → (if b then Some x else find_number n xs) ≡ Some h → Each (λ (y : Hold). y.number ≢ x.number) xs
    → (find_number n xs ≡ Some h → find_number n (without_lease h.lease xs) ≡ None) → find_number n (if k then x ∷ without_lease h.lease xs else without_lease h.lease xs) ≡ None
gone_if n h x xs true true e q f apart later =
    let same : x ≡ h = cc in
    let here : (x.lease == h.lease) ≡ true = eq-eqb x.lease h.lease (ap (λ (y : Hold). y.lease) same) in
    absurd (let u : false ≡ true = ap not (sym here) ∙ q in let v : ⊥ = cc in v)
gone_if n h x xs true false e q f apart later =
    still_none (λ (y : Hold). not (y.lease == h.lease)) n xs (none_each n xs (subst (λ (m : ℕ). Each (λ (y : Hold). y.number ≢ m) xs) (eqb-true x.number n e) apart))
gone_if n h x xs false true e q f apart later = rw e (later f)
gone_if n h x xs false false e q f apart later = later f

gone_one : (n : ℕ) (h : Hold) (hs : List Hold) → Apart hs → find_number n hs ≡ Some h → find_number n (without_lease h.lease hs) ≡ None
gone_one n h [] apart e = absurd (let u : ⊥ = cc in u)
gone_one n h (x ∷ xs) apart e = gone_if n h x xs (x.number == n) (not (x.lease == h.lease)) refl refl e apart.0 (λ f. gone_one n h xs apart.1 f)

forget_other : (number n : ℕ) (had holds : List Hold) → MayForget number had holds → n ≢ number → find_number n holds ≡ find_number n had
forget_other number n had holds (inl e) differs = ap (find_number n) e
forget_other number n had holds (inr e) differs = ap (find_number n) e ∙ same_left number n had (λ s. differs (sym s))

pub forget_none : (number n : ℕ) (had holds : List Hold) → MayForget number had holds → find_number n had ≡ None → find_number n holds ≡ None
forget_none number n had holds (inl e) none = ap (find_number n) e ∙ none
forget_none number n had holds (inr e) none = ap (find_number n) e ∙ still_none (λ (x : Hold). not (x.number == number)) n had none

-- ---- At a relay

pub nobody_keeps : (key : ℕ) (gives : Bool) (way : pool.Way) (old mid : code.Relay) (d : pools.Pool) (before after : List ℕ) (o : Option Hold) → o ≡ find_key key old.pool.holds.items → IsNumberOf o None
    → Turns (pool.Leaves key gives way) (pool_in old.pool) (pool_in d) before after → mid.pool ≡ d → mid.links.items ≡ old.links.items → OthersKeepAt key old mid
nobody_keeps key gives way old mid d before after None same is t at links = λ n differs. (
  ap (λ (x : pools.Pool). find_number n x.holds.items) at ∙ ap (find_number n) (left_none key gives way (pool_in old.pool) (pool_in d) before after t (sym same)),
  ap (carried_there n) links,
)
nobody_keeps key gives way old mid d before after (Some h) same is t at links = absurd is

pub nobody_frees : (key : ℕ) (had holds : List Hold) (o : Option Hold) → o ≡ find_key key had → IsNumberOf o None → IsLetGo key had holds
nobody_frees key had holds None same is = λ hold its. absurd (let u : None ≡ Some hold = same ∙ its in let v : ⊥ = cc in v)
nobody_frees key had holds (Some h) same is = absurd is

module _ (key : ℕ) (gives : Bool) (way : pool.Way) (left : Left) (old mid new : code.Relay) (d : pools.Pool) (before after : List ℕ) (reached : IsReached (pool_in old.pool))
    (t : Turns (pool.Leaves key gives way) (pool_in old.pool) (pool_in d) before after) (at : mid.pool ≡ d) (links : mid.links.items ≡ old.links.items) where
  holds_behind : (h : Hold) → find_key key old.pool.holds.items ≡ Some h → mid.pool.holds.items ≡ without_lease h.lease old.pool.holds.items
  holds_behind h its = ap (λ (x : pools.Pool). x.holds.items) at ∙ left_some key gives way (pool_in old.pool) (pool_in d) before after h t its

  keeps_by : (o : Option Hold) → o ≡ find_key key old.pool.holds.items → IsNumberOf o (Some left) → MayForget left.number mid.pool.holds.items new.pool.holds.items
      → ((other : ℕ) → other ≢ left.number → queue_on other new.links.items ≡ queue_on other mid.links.items) → KeepsAnswers mid.links.items new.links.items → OthersKeepAt key old new
  keeps_by None same is may waits known = absurd is
  keeps_by (Some h) same is may waits known = λ n differs.
      let its : find_key key old.pool.holds.items ≡ Some h = sym same in
      let own : key_of (find_number left.number old.pool.holds.items) ≡ Some key =
      ap (λ (k : ℕ). key_of (find_number k old.pool.holds.items)) is ∙ its_holder key h old.pool.holds.items (apart_at (pool_in old.pool) reached) its in
      let off : n ≢ left.number = λ e. differs (ap (λ (k : ℕ). key_of (find_number k old.pool.holds.items)) e ∙ own) in (
        forget_other left.number n mid.pool.holds.items new.pool.holds.items may off ∙ ap (find_number n) (holds_behind h its) ∙ left_holds (pool_in old.pool) key h reached its n differs,
        carried n mid.links.items new.links.items (waits n off) (known.keeps n) ∙ ap (carried_there n) links,
      )

  frees_by : MayForget left.number mid.pool.holds.items new.pool.holds.items → IsLetGo key old.pool.holds.items new.pool.holds.items
  frees_by may = λ hold its.
      forget_none left.number hold.number mid.pool.holds.items new.pool.holds.items may
      (ap (find_number hold.number) (holds_behind hold its)
      ∙ gone_one hold.number hold old.pool.holds.items (apart_at (pool_in old.pool) reached) (found_number key hold old.pool.holds.items (apart_at (pool_in old.pool) reached) its))

  pub left_keeps : {A E : Type 0} (r : Result A E) (o : Option Hold) → o ≡ find_key key old.pool.holds.items → IsNumberOf o (Some left) → OnOk r (MayForget left.number mid.pool.holds.items new.pool.holds.items)
      → OnOk r ((other : ℕ) → other ≢ left.number → queue_on other new.links.items ≡ queue_on other mid.links.items) → OnOk r (KeepsAnswers mid.links.items new.links.items) → OnOk r (OthersKeepAt key old new)
  left_keeps (Ok x) o same is may waits known = keeps_by o same is may waits known
  left_keeps (Err x) o same is may waits known = tt

  pub left_frees : {A E : Type 0} (r : Result A E) → OnOk r (MayForget left.number mid.pool.holds.items new.pool.holds.items) → OnOk r (IsLetGo key old.pool.holds.items new.pool.holds.items)
  left_frees (Ok x) may = frees_by may
  left_frees (Err x) may = tt

-- ---- And more behind it

pub open_by : (x : Option Reading) (o : Option (List ℕ)) (waits : List ℕ) → if_open x o ≡ Some waits → o ≡ Some waits
open_by None o waits e = absurd (let u : ⊥ = cc in u)
open_by (Some r) o waits e = e

on_left : (lent : Type 0) (client : Option ClientSession) (old mid : Option (List ℕ)) (waits more : List ℕ) → WaitsAtEnd client old mid → mid ≡ Some waits → (more ≡ []) ⊎ lent → WaitsBehindEnd lent client old (Some (waits ++ more))
on_left lent client old None waits more h e may = absurd (let u : ⊥ = cc in u)
on_left lent client old (Some xs) waits more (cleaning.HasMore ws out was ends) e may =
    let same : ws ++ out ≡ waits = (let u : Some (ws ++ out) ≡ Some waits = e in cc) in
    subst (λ (ys : List ℕ). WaitsBehindEnd lent client old (Some (ys ++ more))) same (cleaning.HasMoreSince ws out more was ends may)

module _ (lent : Type 0) (client : Option ClientSession) (old mid : Option (List ℕ)) (h : WaitsAtEnd client old mid) where
  left_more : (waits new : List ℕ) (w : Option (List ℕ)) (f : (out : List ℕ) × (new ≡ waits ++ out)) → mid ≡ Some waits → w ≡ Some new → lent ⊎ ((w ≡ None) ⊎ (w ≡ mid)) → WaitsBehindEnd lent client old (Some new)
  left_more waits new w f m e (inl l) = subst (λ (xs : List ℕ). WaitsBehindEnd lent client old (Some xs)) (sym f.1) (on_left lent client old mid waits f.0 h m (inr l))
  left_more waits new w f m e (inr (inl none)) = absurd (let u : Some new ≡ None = sym e ∙ none in let v : ⊥ = cc in v)
  left_more waits new w f m e (inr (inr same)) =
      let is : waits ≡ new = (let u : Some waits ≡ Some new = sym m ∙ sym same ∙ e in cc) in
      subst (λ (xs : List ℕ). WaitsBehindEnd lent client old (Some xs)) (append-nil waits ∙ is) (on_left lent client old mid waits [] h m (inl refl))

  left_then : (x w : Option (List ℕ)) → x ≡ mid → FillsAt x w → lent ⊎ ((w ≡ None) ⊎ (w ≡ mid)) → WaitsBehindEnd lent client old w
  left_then x None e f c = cleaning.IsShutSince
  left_then None (Some new) e f c = absurd f
  left_then (Some waits) (Some new) e f c = left_more waits new (Some new) f (sym e) refl c

pub lent_or : (number : ℕ) (mid new : code.Relay) → find_number number mid.pool.holds.items ≡ None
    → MayBeLent number mid.pool.line.items mid.pool.holds.items mid.links.items new.pool.holds.items new.links.items
    → IsSome (holder (pool_in new.pool) number) ⊎ ((waits_on number new.links.items ≡ None) ⊎ (waits_on number new.links.items ≡ waits_on number mid.links.items))
lent_or number mid new none (filling.OfWaiting h is i) = absurd (let u : None ≡ Some h = sym none ∙ is in let v : ⊥ = cc in v)
lent_or number mid new none (filling.Keeps e kept) = inr (waits_queued number mid.links.items new.links.items kept)
lent_or number mid new none (filling.Lends e some) = inl (key_some (find_number number new.pool.holds.items) some)

-- whoever holds one has a number that was given
pub held_low : (d : pools.Pool) (key : ℕ) (h : Hold) → IsReached (pool_in d) → find_key key d.holds.items ≡ Some h → h.number ≤ d.service.last
held_low d key h reached its =
    let sits : Sits (pool_in d).service h = each_key (λ (y : Hold). Sits (pool_in d).service y) key h d.holds.items (sits_at (pool_in d) reached) its in
    sits.low

pub served_since : (key : ℕ) (old mid new : code.Relay) → IsReached (pool_in old.pool) → old.pool.service.last ≤ mid.pool.service.last → OfItsHold WaitsAtEnd key old (λ (n : ℕ). waits_on n mid.links.items) → KeepsGiven mid new
    → IsLetGo key old.pool.holds.items mid.pool.holds.items → LendsInLine mid new → WaitsSinceEnd key old new
served_since key old mid new reached rises left given frees lends = λ hold its.
    let low : hold.number ≤ old.pool.service.last = held_low old.pool key hold reached its in
    left_then (IsSome (holder (pool_in new.pool) hold.number)) (client_of hold.lease old.pool.service) (waits_on hold.number old.links.items) (waits_on hold.number mid.links.items) (left hold its)
    (waits_on hold.number mid.links.items) (waits_on hold.number new.links.items) refl (given.fills hold.number (omega (arith, low, rises)))
    (lent_or hold.number mid new (frees hold its) (lends hold.number))

pub left_served : {A E : Type 0} (r : Result A E) (key : ℕ) (old mid new : code.Relay) → IsReached (pool_in old.pool) → old.pool.service.last ≤ mid.pool.service.last → OfItsHold WaitsAtEnd key old (λ (n : ℕ). waits_on n mid.links.items)
    → OnOk r (KeepsGiven mid new) → IsLetGo key old.pool.holds.items mid.pool.holds.items → OnOk r (LendsInLine mid new) → OnOk r (WaitsSinceEnd key old new)
left_served (Ok x) key old mid new reached rises left given frees lends = served_since key old mid new reached rises left given frees lends
left_served (Err x) key old mid new reached rises left given frees lends = tt
