-- What is on other connections as packets come on one.
use Rattle.std.proofs.Common.{◌≡◌, ◌≢◌, ◌⊎◌, ◌∙◌, ℕ, true, false, List, Option, Some, None, inl, inr, refl, sym, ap, subst, option_map, slice_index_or, slice_set}
use Rattle.std.proofs.lemmas.Bool.{cases_eq}
use Rattle.std.specs.Prelude.{Result, Ok, Err, OnOk, IsSome}
use Rattle.tds_relay.specs.declared.pool.Pool as pools
use Rattle.tds_relay.specs.declared.pool.Hold.{Hold}
use Rattle.tds_relay.specs.declared.pool.coming.Heard.{Heard}
use Rattle.tds_relay.specs.declared.link.Link.{Link}
use Rattle.tds_relay.specs.declared.relay.Relay as code
use Rattle.tds_relay.specs.Apart.{SparesOthers}
use Rattle.tds_relay.specs.Core.{holder, is_in}
use Rattle.tds_relay.specs.Fronts.{core_in}
use Rattle.tds_relay.specs.Handing.{heard_key}
use Rattle.tds_relay.specs.Lent.{FirstKeeps, KeepsAnswers, KeepsWaits, LendsInLine, MayBeLent, MayForget, OthersKeepAt, PutsOnly}
use Rattle.tds_relay.specs.Machine.{Machine}
use Rattle.tds_relay.specs.Pool.{find_number, key_of, without_number}
use Rattle.tds_relay.specs.Reads.{carried_by, carried_there, place_of, queue_on}
use Rattle.tds_relay.specs.Reasons.{HearsNothing, IsHeardAs, IsIdle}
use Rattle.tds_relay.specs.Ties.{IsReached, pool_in}
use Rattle.tds_relay.specs.Waiting.{IsItsHolders, IsOnOrHeld}
use Rattle.tds_relay.proofs.held.Fewer.{same_left}
use Rattle.tds_relay.proofs.spared.Filling.{carried, first_own, free_line, held_line}
use Rattle.tds_relay.proofs.spared.Held.{holder_is}
use Rattle.tds_relay.proofs.spared.Only.{HeardApart, apart_or}
use Rattle.tds_relay.proofs.spared.Waits.{others_link}

-- the same waits on it, the same is known of the message, and who holds it does so still
abbrev KeepsOn : ℕ → List Hold → List Link → List Hold → List Link → Type 0
KeepsOn n had old holds new = (find_number n holds ≡ find_number n had) × (carried_there n new ≡ carried_there n old)

abbrev KeepsAt : ℕ → code.Relay → code.Relay → Type 0
KeepsAt n a b = KeepsOn n a.pool.holds.items a.links.items b.pool.holds.items b.links.items

-- ---- One after the other

more_at : (But Also : Type 0) (n : ℕ) (a b : code.Relay) → (But → Also) → But ⊎ KeepsAt n a b → Also ⊎ KeepsAt n a b
more_at But Also n a b f (inl x) = inl (f x)
more_at But Also n a b f (inr k) = inr k

pub first_more : (But Also : ℕ → Type 0) (a b : code.Relay) → ((n : ℕ) → But n → Also n) → FirstKeeps But a b → FirstKeeps Also a b
first_more But Also a b f k = λ n. more_at (But n) (Also n) n a b (f n) (k n)

both_at : (But Now : Type 0) (n : ℕ) (a b c : code.Relay) → (KeepsAt n a b → Now → But) → But ⊎ KeepsAt n a b → Now ⊎ KeepsAt n b c → But ⊎ KeepsAt n a c
both_at But Now n a b c f (inl x) k = inl x
both_at But Now n a b c f (inr h) (inl y) = inl (f h y)
both_at But Now n a b c f (inr h) (inr k) = inr (k.0 ∙ h.0, k.1 ∙ h.1)

-- where this is so of a connection behind the one, it was before that
pub first_both : (But Now : ℕ → Type 0) (a b c : code.Relay) → ((n : ℕ) → KeepsAt n a b → Now n → But n) → FirstKeeps But a b → FirstKeeps Now b c → FirstKeeps But a c
first_both But Now a b c f h k = λ n. both_at (But n) (Now n) n a b c (f n) (h n) (k n)

abbrev pub Here : ℕ → ℕ → Type 0
Here number n = n ≡ number

pub first_here : (number : ℕ) (a b c : code.Relay) → FirstKeeps (Here number) a b → FirstKeeps (Here number) b c → FirstKeeps (Here number) a c
first_here number a b c h k = first_both (Here number) (Here number) a b c (λ n e now. now) h k

held_before : (number : ℕ) (who : Option ℕ) (n : ℕ) (a b : code.Relay) → KeepsAt n a b → IsOnOrHeld number who b n → IsOnOrHeld number who a n
held_before number who n a b k (inl same) = inl same
held_before number who n a b k (inr x) = inr (x.0, sym (ap key_of k.0) ∙ x.1)

-- behind what is done there
pub first_behind : (number : ℕ) (who : Option ℕ) (a b c : code.Relay) → FirstKeeps (Here number) a b → FirstKeeps (IsOnOrHeld number who b) b c → FirstKeeps (IsOnOrHeld number who a) a c
first_behind number who a b c h k =
    first_both (IsOnOrHeld number who a) (IsOnOrHeld number who b) a b c (λ n e now. held_before number who n a b e now) (first_more (Here number) (IsOnOrHeld number who a) a b (λ n e. inl e) h) k

pub first_behind_on : {A E : Type 0} (r : Result A E) (number : ℕ) (who : Option ℕ) (a b c : code.Relay) → FirstKeeps (Here number) a b → OnOk r (FirstKeeps (IsOnOrHeld number who b) b c) → OnOk r (FirstKeeps (IsOnOrHeld number who a) a c)
first_behind_on (Ok x) number who a b c h k = first_behind number who a b c h k
first_behind_on (Err e) number who a b c h k = tt

pub first_as : {A E : Type 0} (r : Result A E) (number : ℕ) (who : Option ℕ) (a b : code.Relay) → OnOk r (FirstKeeps (Here number) a b) → OnOk r (FirstKeeps (IsOnOrHeld number who a) a b)
first_as (Ok x) number who a b h = first_more (Here number) (IsOnOrHeld number who a) a b (λ n e. inl e) h
first_as (Err e) number who a b h = tt

-- ---- What is done

here_or : (number n : ℕ) (had holds : List Hold) (old new : List Link) → MayForget number had holds → ((other : ℕ) → other ≢ number → carried_there other new ≡ carried_there other old) → (n ≡ number) ⊎ (n ≢ number)
    → (n ≡ number) ⊎ KeepsOn n had old holds new
here_or number n had holds old new m w (inl same) = inl same
here_or number n had holds old new (inl e) w (inr differs) = inr (ap (find_number n) e, w n differs)
here_or number n had holds old new (inr e) w (inr differs) = inr (ap (find_number n) e ∙ same_left number n had (λ s. differs (sym s)), w n differs)

-- something is done on that connection, which may be lost
pub first_may : (number : ℕ) (had holds : List Hold) (old new : List Link) → MayForget number had holds → ((other : ℕ) → other ≢ number → carried_there other new ≡ carried_there other old)
    → (n : ℕ) → (n ≡ number) ⊎ KeepsOn n had old holds new
first_may number had holds old new m w = λ n. here_or number n had holds old new m w (cases_eq n number)

pub first_may_on : {A E : Type 0} (r : Result A E) (number : ℕ) (had holds : List Hold) (old new : List Link) → ((other : ℕ) → other ≢ number → carried_there other new ≡ carried_there other old) → OnOk r (MayForget number had holds)
    → OnOk r ((n : ℕ) → (n ≡ number) ⊎ KeepsOn n had old holds new)
first_may_on (Ok x) number had holds old new w m = first_may number had holds old new m w
first_may_on (Err e) number had holds old new w m = tt

-- it is put there
pub first_put : (number : ℕ) (a b : code.Relay) → b.pool ≡ a.pool → ((other : ℕ) → other ≢ number → queue_on other b.links.items ≡ queue_on other a.links.items) → KeepsAnswers a.links.items b.links.items → FirstKeeps (Here number) a b
first_put number a b at w k =
    first_may number a.pool.holds.items b.pool.holds.items a.links.items b.links.items (inl (ap (λ (d : pools.Pool). d.holds.items) at))
    (λ other differs. carried other a.links.items b.links.items (w other differs) (k.keeps other))

pub first_put_on : {A E : Type 0} (r : Result A E) (number : ℕ) (a b : code.Relay) → b.pool ≡ a.pool → OnOk r ((other : ℕ) → other ≢ number → queue_on other b.links.items ≡ queue_on other a.links.items)
    → OnOk r (KeepsAnswers a.links.items b.links.items) → OnOk r (FirstKeeps (Here number) a b)
first_put_on (Ok x) number a b at w k = first_put number a b at w k
first_put_on (Err e) number a b at w k = tt

-- it is lost
pub first_lost_on : {A E : Type 0} (r : Result A E) (number : ℕ) (a b : code.Relay) → OnOk r (b.pool.holds.items ≡ without_number number a.pool.holds.items)
    → OnOk r ((other : ℕ) → other ≢ number → queue_on other b.links.items ≡ queue_on other a.links.items) → OnOk r (KeepsAnswers a.links.items b.links.items) → OnOk r (FirstKeeps (Here number) a b)
first_lost_on (Ok x) number a b e w k =
    first_may number a.pool.holds.items b.pool.holds.items a.links.items b.links.items (inr e) (λ other differs. carried other a.links.items b.links.items (w other differs) (k.keeps other))
first_lost_on (Err x) number a b e w k = tt

pub first_then_on : {A E : Type 0} (r : Result A E) (number : ℕ) (a b c : code.Relay) → FirstKeeps (Here number) a b → OnOk r (FirstKeeps (Here number) b c) → OnOk r (FirstKeeps (Here number) a c)
first_then_on (Ok x) number a b c h k = first_here number a b c h k
first_then_on (Err e) number a b c h k = tt

-- the pool and the connections are as they were
pub first_same : (But : ℕ → Type 0) (a b : code.Relay) → b.pool.holds.items ≡ a.pool.holds.items → b.links.items ≡ a.links.items → FirstKeeps But a b
first_same But a b e links = λ n. inr (ap (find_number n) e, ap (carried_there n) links)

pub first_same_on : {A E : Type 0} (r : Result A E) (But : ℕ → Type 0) (a b : code.Relay) → b.pool ≡ a.pool → OnOk r (b.links.items ≡ a.links.items) → OnOk r (FirstKeeps But a b)
first_same_on (Ok x) But a b at links = first_same But a b (ap (λ (d : pools.Pool). d.holds.items) at) links
first_same_on (Err e) But a b at links = tt

-- one application does something on its own
pub first_its : {A E : Type 0} (r : Result A E) (number key : ℕ) (a b : code.Relay) → OnOk r (OthersKeepAt key a b) → OnOk r (FirstKeeps (IsOnOrHeld number (Some key) a) a b)
first_its (Ok x) number key a b k = first_more (λ (n : ℕ). holder (pool_in a.pool) n ≡ Some key) (IsOnOrHeld number (Some key) a) a b (λ n e. inr (refl, e)) (first_own key a b k)
first_its (Err e) number key a b k = tt

pub carried_written : (number : ℕ) (ls : List Link) (place : ℕ) (d m : Link) → place_of number ls ≡ Some place → m.number ≡ (slice_index_or ls place d).number
    → (other : ℕ) → other ≢ number → carried_there other (slice_set ls place m) ≡ carried_there other ls
carried_written number ls place d m is same other differs = ap (option_map carried_by) (others_link number ls place d m is same other differs)

-- ---- One packet behind the others

pub told_sent : (number : ℕ) (a t b : code.Relay) → t.pool ≡ a.pool → t.links.items ≡ a.links.items → FirstKeeps (Here number) t b → FirstKeeps (Here number) a b
told_sent number a t b at links k = first_here number a t b (first_same (Here number) a t (ap (λ (d : pools.Pool). d.holds.items) at) links) k

pub first_on : (number : ℕ) (who : Option ℕ) (a b : code.Relay) → FirstKeeps (Here number) a b → FirstKeeps (IsOnOrHeld number who a) a b
first_on number who a b h = first_more (Here number) (IsOnOrHeld number who a) a b (λ n e. inl e) h

-- and whoever is handed it is written to
pub first_wrote : {A E : Type 0} (r : Result A E) (number : ℕ) (who : Option ℕ) (a b c : code.Relay) → FirstKeeps (Here number) a b → c.pool ≡ b.pool → OnOk r (c.links.items ≡ b.links.items) → OnOk r (FirstKeeps (IsOnOrHeld number who a) a c)
first_wrote r number who a b c h at links = first_as r number who a c (first_then_on r number a b c h (first_same_on r (Here number) b c at links))

-- or the connection is closed
pub first_closed : {A E : Type 0} (r : Result A E) (number : ℕ) (who : Option ℕ) (a b c : code.Relay) → FirstKeeps (Here number) a b → c.pool ≡ b.pool
    → OnOk r ((other : ℕ) → other ≢ number → queue_on other c.links.items ≡ queue_on other b.links.items) → OnOk r (KeepsAnswers b.links.items c.links.items) → OnOk r (FirstKeeps (IsOnOrHeld number who a) a c)
first_closed r number who a b c h at w k = first_as r number who a c (first_then_on r number a b c h (first_put_on r number b c at w k))

held_is : (o : Option ℕ) → IsSome o → (key : ℕ) × (o ≡ Some key)
held_is None some = absurd (let u : false ≡ true = some in let v : ⊥ = cc in v)
held_is (Some key) some = (key, refl)

pub holder_or_not : (o : Option ℕ) (key : ℕ) → (o ≡ Some key) ⊎ (o ≢ Some key)
holder_or_not None key = inr (λ e. let u : None ≡ Some key = e in let v : ⊥ = cc in v)
holder_or_not (Some k) key = elim (cases_eq k key) [
  | inl same ↦ inl (ap (λ (n : ℕ). Some n) same)
  | inr differs ↦ inr (λ e. differs (let u : Some k ≡ Some key = e in cc))
]

-- who holds it held it before
pub held_first : (number key : ℕ) (a b : code.Relay) → SparesOthers number None (core_in a) (core_in b) → holder (pool_in b.pool) number ≡ Some key → holder (pool_in a.pool) number ≡ Some key
held_first number key a b spares is = elim (holder_or_not (holder (pool_in a.pool) number) key) [
  | inl same ↦ same
  | inr differs ↦ absurd ((spares key (λ e. let u : None ≡ Some key = e in let v : ⊥ = cc in v) differs).0 is)
]

its_before : (number n : ℕ) (o : Option Heard) (first a b : code.Relay) → HeardApart number o (pool_in a.pool) (pool_in b.pool) → SparesOthers number None (core_in first) (core_in a) → KeepsAt n first a → IsOnOrHeld number (heard_key o) a n
    → IsItsHolders number first n
its_before number n o first a b apart spares k (inl same) = inl same
its_before number n o first a b apart spares k (inr x) =
    let key = held_is (heard_key o) x.0 in
    let was : holder (pool_in first.pool) number ≡ Some key.0 = held_first number key.0 first a spares (apart.whose key.0 key.1) in
    inr (subst (λ (w : Option ℕ). IsSome w) (sym was) refl, sym (ap key_of k.0) ∙ x.1 ∙ key.1 ∙ sym was)

pub one_first : (number : ℕ) (left : List ℕ) (o : Option Heard) (first a b c : code.Relay) (new : Machine) → IsReached (pool_in a.pool) → FirstKeeps (IsItsHolders number first) first a → SparesOthers number None (core_in first) (core_in a)
    → (HearsNothing o × IsIdle a b) ⊎ IsHeardAs number left o a new → new.core.pool ≡ pool_in b.pool → FirstKeeps (Here number) a b → FirstKeeps (IsOnOrHeld number (heard_key o) b) b c → FirstKeeps (IsItsHolders number first) first c
one_first number left o first a b c new reached had spares hears same heard done =
    let apart : HeardApart number o (pool_in a.pool) (pool_in b.pool) = apart_or number left o a b new reached hears same in
    first_both (IsItsHolders number first) (IsOnOrHeld number (heard_key o) a) first a c (λ n k now. its_before number n o first a b apart spares k now) had (first_behind number (heard_key o) a b c heard done)

pub first_whose_on : {A E : Type 0} (r : Result A E) (number key : ℕ) (who : Option ℕ) (a b c : code.Relay) → who ≡ Some key → FirstKeeps (Here number) a b → OnOk r (FirstKeeps (IsOnOrHeld number (Some key) b) b c)
    → OnOk r (FirstKeeps (IsOnOrHeld number who a) a c)
first_whose_on r number key who a b c is h k =
    subst (λ (w : Option ℕ). OnOk r (FirstKeeps (IsOnOrHeld number w a) a c)) (sym is) (first_behind_on r number (Some key) a b c h k)

-- ---- And those who wait are served

module _ (number : ℕ) (old mid new : code.Relay) (spares : SparesOthers number None (core_in old) (core_in mid)) where
  -- but its holder nobody waits who didn't
  waits_not : (key j : ℕ) → holder (pool_in old.pool) number ≢ Some key → is_in key old.pool.line.items ≡ false → j ≡ key → is_in j mid.pool.line.items ≡ true → is_in j old.pool.line.items ≡ true
  waits_not key j off waits same there =
      let x : is_in key mid.pool.line.items ≡ false = ((spares key (λ e. let u : None ≡ Some key = e in let v : ⊥ = cc in v) off).1 waits).0 in
      absurd (let u : true ≡ false = sym there ∙ ap (λ (k : ℕ). is_in k mid.pool.line.items) same ∙ x in let v : ⊥ = cc in v)

  held_by : (key n : ℕ) → is_in key old.pool.line.items ≡ false → key_of (find_number n old.pool.holds.items) ≡ Some key → IsItsHolders number old n ⊎ KeepsAt n old mid
      → MayBeLent n mid.pool.line.items mid.pool.holds.items mid.links.items new.pool.holds.items new.links.items
      → (holder (pool_in old.pool) number ≡ Some key) ⊎ (holder (pool_in old.pool) number ≢ Some key) → IsItsHolders number old n ⊎ KeepsWaits n old.links.items new.links.items
  held_by key n waits its (inl x) lends one = inl x
  held_by key n waits its (inr k) lends (inl holds) = inl (inr (subst (λ (w : Option ℕ). IsSome w) (sym holds) refl, its ∙ sym holds))
  held_by key n waits its (inr k) lends (inr off) =
      inr (held_line n old mid new (λ j is there. waits_not key j off waits (let u : Some j ≡ Some key = sym is ∙ its in cc) there) k.0 k.1 key waits its lends)

  free_by : (n : ℕ) → holder (pool_in old.pool) n ≡ None → IsItsHolders number old n ⊎ KeepsAt n old mid
      → MayBeLent n mid.pool.line.items mid.pool.holds.items mid.links.items new.pool.holds.items new.links.items
      → IsItsHolders number old n ⊎ (KeepsWaits n old.links.items new.links.items ⊎ IsSome (key_of (find_number n new.pool.holds.items)))
  free_by n none (inl x) lends = inl x
  free_by n none (inr k) lends = inr (free_line n old mid new (λ j is there. absurd (let u : None ≡ Some j = sym none ∙ is in let v : ⊥ = cc in v)) k.0 k.1 none lends)

pub came_puts : {A E : Type 0} (r : Result A E) (number : ℕ) (old mid new : code.Relay) → IsReached (pool_in old.pool) → SparesOthers number None (core_in old) (core_in mid) → FirstKeeps (IsItsHolders number old) old mid
    → OnOk r (LendsInLine mid new) → OnOk r (PutsOnly (IsItsHolders number old) old new)
came_puts (Ok v) number old mid new reached spares keeps lends = record {
  held = λ key at waits e.
      held_by number old mid new spares key at.0 waits (holder_is old.pool key at reached e) (keeps at.0) (lends at.0) (holder_or_not (holder (pool_in old.pool) number) key);
  free = λ n none. free_by number old mid new spares n none (keeps n) (lends n);
}
came_puts (Err v) number old mid new reached spares keeps lends = tt
