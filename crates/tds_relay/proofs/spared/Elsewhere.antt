-- What an application does leaves as it is what is on the connections that it doesn't hold.
use Rattle.std.proofs.Common.{◌≡◌, ◌≢◌, ◌⊎◌, ◌∙◌, ◌==◌, ◌++◌, ℕ, Bool, true, false, List, [], ◌∷◌, Option, Some, None, inl, inr, refl, sym, ap, subst, if◌then◌else◌}
use Rattle.std.specs.Prelude.{Result, Ok, Err, OnOk, IsSome}
use Rattle.std.proofs.lemmas.Bool.{cases_eq}
use Rattle.tds_wire.specs.declared.told.Token.{Token}
use Rattle.tds_service.specs.Service as calls
use Rattle.tds_service.specs.Service.{Service, step}
use Rattle.tds_relay.specs.declared.pool.Pool as pools
use Rattle.tds_relay.specs.declared.pool.Hold.{Hold}
use Rattle.tds_relay.specs.declared.link.Link.{Link}
use Rattle.tds_relay.specs.declared.relay.Relay as code
use Rattle.tds_relay.specs.Pool as pool
use Rattle.tds_relay.specs.Pool.{Pool, find_key, find_number, key_of, keeps_by, lent_in, renews, renews_by, ticket_in, turn, without_lease}
use Rattle.tds_relay.specs.Core.{holder, is_in}
use Rattle.tds_relay.specs.Lent.{IsOnItsOwn, KeepsAnswers, KeepsToItsOwn, KeepsWaits, LendsInLine, MayBeLent, OthersKeep, OthersKeepAt, PutsOnly}
use Rattle.tds_relay.specs.Reads.{answer_at, carried_there, queue_on}
use Rattle.tds_relay.specs.Ties.{Application as ByApplication, LedTo, IsReached, pool_in}
use Rattle.tds_relay.proofs.held.Fewer.{same_left}
use Rattle.tds_relay.proofs.held.Numbers.{apart_at, its_holder}
use Rattle.tds_relay.proofs.promises.Renewing.{renewed_number}
use Rattle.tds_relay.proofs.spared.Filling.{carried, carried_same, free_line, held_line, own_put}
use Rattle.tds_relay.proofs.spared.Freeing.{left_holds}
use Rattle.tds_relay.proofs.spared.Held.{holder_is, sound_at}
use Rattle.tds_relay.proofs.spared.Lines.{waited_or}
use Rattle.tds_relay.proofs.steps.Placed.{differs_by}

pub aside_refl : (key : ℕ) (r : code.Relay) → OthersKeepAt key r r
aside_refl key r = λ n differs. (refl, refl)

-- what is held and the connections are as they were
pub aside_same : (key : ℕ) (a b : code.Relay) → b.pool.holds.items ≡ a.pool.holds.items → b.links.items ≡ a.links.items → OthersKeepAt key a b
aside_same key a b h l = λ n differs. (ap (find_number n) h, ap (carried_there n) l)

pub keeps_both : (key : ℕ) (a b c : List Hold) (x y z : List Link) → OthersKeep key a x b y → OthersKeep key b y c z → OthersKeep key a x c z
keeps_both key a b c x y z h k = λ n differs.
    let one = h n differs in
    let two = k n (λ e. differs (ap key_of (sym one.0) ∙ e)) in (
      two.0 ∙ one.0,
      two.1 ∙ one.1,
    )

pub keeps_on : {A E : Type 0} (r : Result A E) (key : ℕ) (a b c : List Hold) (x y z : List Link) → OthersKeep key a x b y → OnOk r (OthersKeep key b y c z) → OnOk r (OthersKeep key a x c z)
keeps_on (Ok v) key a b c x y z h k = keeps_both key a b c x y z h k
keeps_on (Err v) key a b c x y z h k = tt

pub aside_both : (key : ℕ) (a b c : code.Relay) → OthersKeepAt key a b → OthersKeepAt key b c → OthersKeepAt key a c
aside_both key a b c h k = keeps_both key a.pool.holds.items b.pool.holds.items c.pool.holds.items a.links.items b.links.items c.links.items h k

pub aside_on : {A E : Type 0} (r : Result A E) (key : ℕ) (a b c : code.Relay) → OthersKeepAt key a b → OnOk r (OthersKeepAt key b c) → OnOk r (OthersKeepAt key a c)
aside_on r key a b c h k = keeps_on r key a.pool.holds.items b.pool.holds.items c.pool.holds.items a.links.items b.links.items c.links.items h k

pub aside_own : {A E : Type 0} (r : Result A E) (key : ℕ) (a b : code.Relay) → OnOk r (IsOnItsOwn key a b) → OnOk r (OthersKeepAt key a b)
aside_own (Ok v) key a b own = own.others
aside_own (Err v) key a b own = tt

pub keeps_own : {A E : Type 0} (r : Result A E) (key : ℕ) (a b : List Hold) (x y : List Link) → OnOk r (KeepsToItsOwn key a x b y) → OnOk r (OthersKeep key a x b y)
keeps_own (Ok v) key a b x y own = own.others
keeps_own (Err v) key a b x y own = tt

pub keeps_waited : {A E : Type 0} (r : Result A E) (key : ℕ) (a b : List Hold) (x y : List Link) → OnOk r (b ≡ a) → y ≡ x → OnOk r (OthersKeep key a x b y)
keeps_waited (Ok v) key a b x y holds links = λ n differs. (ap (find_number n) holds, ap (carried_there n) links)
keeps_waited (Err v) key a b x y holds links = tt

pub aside_waits : {A E : Type 0} (r : Result A E) (key : ℕ) (a b c : code.Relay) → OthersKeepAt key a b → OnOk r (c.pool.holds.items ≡ b.pool.holds.items) → c.links.items ≡ b.links.items → OnOk r (OthersKeepAt key a c)
aside_waits (Ok v) key a b c h holds links = aside_both key a b c h (aside_same key b c holds links)
aside_waits (Err v) key a b c h holds links = tt

pub aside_linked : {A E : Type 0} (r : Result A E) (key : ℕ) (a b c : code.Relay) → OthersKeepAt key a b → c.pool ≡ b.pool → OnOk r (c.links.items ≡ b.links.items) → OnOk r (OthersKeepAt key a c)
aside_linked (Ok v) key a b c h at links = aside_both key a b c h (aside_same key b c (ap (λ (d : pools.Pool). d.holds.items) at) links)
aside_linked (Err v) key a b c h at links = tt

-- something is put on what it holds
pub filled_own : (key number : ℕ) (hold : Hold) (a b : code.Relay) → IsReached (pool_in a.pool) → find_key key a.pool.holds.items ≡ Some hold → hold.number ≡ number → b.pool ≡ a.pool
    → ((other : ℕ) → other ≢ number → queue_on other b.links.items ≡ queue_on other a.links.items) → KeepsAnswers a.links.items b.links.items → IsOnItsOwn key a b
filled_own key number hold a b reached its same at w k =
    own_put key number a.pool.holds.items a.links.items b.pool.holds.items b.links.items (ap (λ (d : pools.Pool). d.holds.items) at)
    (subst (λ (n : ℕ). key_of (find_number n a.pool.holds.items) ≡ Some key) same (its_holder key hold a.pool.holds.items (apart_at (pool_in a.pool) reached) its))
    (λ n differs. carried n a.links.items b.links.items (w n differs) (k.keeps n))

-- a message begins there
pub begun_own : (number : ℕ) (ls ms : List Link) → ((other : ℕ) → queue_on other ms ≡ queue_on other ls) → ((other : ℕ) → other ≢ number → answer_at other ms ≡ answer_at other ls)
    → (other : ℕ) → other ≢ number → carried_there other ms ≡ carried_there other ls
begun_own number ls ms w k other differs = carried_same other ls ms (w other) (k other differs)

pub begun_aside : (key number : ℕ) (holds : List Hold) (ls ms : List Link) → key_of (find_number number holds) ≡ Some key → ((other : ℕ) → other ≢ number → carried_there other ms ≡ carried_there other ls) → OthersKeep key holds ls holds ms
begun_aside key number holds ls ms its w = λ n differs. (refl, w n (λ same. differs (subst (λ (k : ℕ). key_of (find_number k holds) ≡ Some key) (sym same) its)))

pub closed_aside : {A E : Type 0} (r : Result A E) (key number : ℕ) (had mid holds : List Hold) (ls ms : List Link) → key_of (find_number number had) ≡ Some key
    → ((n : ℕ) → key_of (find_number n had) ≢ Some key → find_number n mid ≡ find_number n had) → holds ≡ mid → OnOk r ((n : ℕ) → n ≢ number → queue_on n ms ≡ queue_on n ls) → OnOk r (KeepsAnswers ls ms)
    → OnOk r (OthersKeep key had ls holds ms)
closed_aside (Ok v) key number had mid holds ls ms its keeps same w k = λ n differs. (
  ap (find_number n) same ∙ keeps n differs,
  carried n ls ms (w n (λ e. differs (subst (λ (j : ℕ). key_of (find_number j had) ≡ Some key) (sym e) its))) (k.keeps n),
)
closed_aside (Err v) key number had mid holds ls ms its keeps same w k = tt

-- ---- Its connection is renewed

other_if : (b : Bool) (n : ℕ) (x y : Hold) (ys : List Hold) → find_number n (ys ++ x ∷ []) ≡ find_number n ys → (if b then Some y else find_number n (ys ++ x ∷ [])) ≡ (if b then Some y else find_number n ys)
other_if true n x y ys e = refl
other_if false n x y ys e = e

other_added : (n : ℕ) (x : Hold) (hs : List Hold) → x.number ≢ n → find_number n (hs ++ x ∷ []) ≡ find_number n hs
other_added n x [] differs = let no : (x.number == n) ≡ false = differs_by (x.number == n) x.number n refl differs in rw no refl
other_added n x (y ∷ ys) differs = other_if (y.number == n) n x y ys (other_added n x ys differs)

module _ (d : Pool) (key n : ℕ) (reached : IsReached d) (differs : key_of (find_number n d.holds) ≢ Some key) where
  not_its : (h : Hold) → find_key key d.holds ≡ Some h → h.number ≢ n
  not_its h its same = differs (subst (λ (k : ℕ). key_of (find_number k d.holds) ≡ Some key) same (its_holder key h d.holds (apart_at d reached) its))

  renewed_by : (h : Hold) (ticket : ℕ) (o : Option pool.Loan) (resumes : Bool) → find_key key d.holds ≡ Some h → ((loan : pool.Loan) → o ≡ Some loan → loan.number ≡ h.number)
      → find_number n (renews_by d h ticket o resumes).pool.holds ≡ find_number n d.holds
  renewed_by h ticket o false its same = same_left h.number n d.holds (not_its h its)
  renewed_by h ticket None true its same = same_left h.number n d.holds (not_its h its)
  renewed_by h ticket (Some loan) true its same =
      other_added n (pool.holding h.key loan.lease loan.number) (without_lease h.lease d.holds) (λ e. not_its h its (sym (same loan refl) ∙ e)) ∙ left_holds d key h reached its n differs

  kept_by : (h : Hold) (resumes : Bool) (o : Option ℕ) → find_key key d.holds ≡ Some h → ticket_in (step {T = Token} d.service (calls.Keep h.lease)).reply ≡ o
      → find_number n (keeps_by d h resumes (step {T = Token} d.service (calls.Keep h.lease)).service o).pool.holds ≡ find_number n d.holds
  kept_by h resumes None its t = refl
  kept_by h resumes (Some ticket) its t =
      renewed_by h ticket (lent_in (step {T = Token} (step {T = Token} d.service (calls.Keep h.lease)).service (calls.Resume ticket)).reply) resumes its
      (λ loan is. renewed_number d key h ticket loan its (sound_at d reached) t is)

  renews_by_key : (resumes : Bool) (o : Option Hold) → find_key key d.holds ≡ o → find_number n (renews d resumes o).pool.holds ≡ find_number n d.holds
  renews_by_key resumes None its = refl
  renews_by_key resumes (Some h) its = kept_by h resumes (ticket_in (step {T = Token} d.service (calls.Keep h.lease)).reply) its refl

  pub renew_keeps : (e : Pool) (resumes : Bool) → e ≡ (turn d (pool.Renews key resumes)).pool → find_number n e.holds ≡ find_number n d.holds
  renew_keeps e resumes is = ap (λ (x : Pool). find_number n x.holds) is ∙ renews_by_key resumes (find_key key d.holds) refl

-- ---- And those who wait are served

module _ (key number : ℕ) (old mid new : code.Relay) (goes : LedTo (ByApplication key) (pool_in old.pool) (pool_in mid.pool)) where
  said_before : (other : ℕ) → other ≢ key → (j : ℕ) → j ≡ other → is_in j mid.pool.line.items ≡ true → (j ≡ key) ⊎ (is_in j old.pool.line.items ≡ true) → is_in j old.pool.line.items ≡ true
  said_before other differs j same there (inl its) = absurd (differs (sym same ∙ its))
  said_before other differs j same there (inr waits) = waits

  said_held : (other : ℕ) → key_of (find_number number old.pool.holds.items) ≡ Some other → is_in other old.pool.line.items ≡ false
      → (key_of (find_number number old.pool.holds.items) ≢ Some key → (find_number number mid.pool.holds.items ≡ find_number number old.pool.holds.items) × (carried_there number mid.links.items ≡ carried_there number old.links.items))
      → MayBeLent number mid.pool.line.items mid.pool.holds.items mid.links.items new.pool.holds.items new.links.items → (other ≡ key) ⊎ (other ≢ key)
      → (holder (pool_in old.pool) number ≡ Some key) ⊎ KeepsWaits number old.links.items new.links.items
  said_held other its waits keeps lends (inl same) = inl (its ∙ ap (λ (k : ℕ). Some k) same)
  said_held other its waits keeps lends (inr differs) =
      let k = keeps (λ e. differs (let u : Some other ≡ Some key = sym its ∙ e in cc)) in
      inr (held_line number old mid new
      (λ j is there. said_before other differs j (let u : Some j ≡ Some other = sym is ∙ its in cc) there (waited_or key (pool_in old.pool) (pool_in mid.pool) goes j there)) k.0 k.1 other waits its lends)

  said_free : holder (pool_in old.pool) number ≡ None → OthersKeepAt key old mid
      → MayBeLent number mid.pool.line.items mid.pool.holds.items mid.links.items new.pool.holds.items new.links.items
      → KeepsWaits number old.links.items new.links.items ⊎ IsSome (key_of (find_number number new.pool.holds.items))
  said_free none keeps lends =
      let k = keeps number (λ e. let u : None ≡ Some key = sym none ∙ e in let v : ⊥ = cc in v) in
      free_line number old mid new (λ j is there. absurd (let u : None ≡ Some j = sym none ∙ is in let v : ⊥ = cc in v)) k.0 k.1 none lends

pub said_puts : {A E : Type 0} (r : Result A E) (key : ℕ) (old mid new : code.Relay) → IsReached (pool_in old.pool) → LedTo (ByApplication key) (pool_in old.pool) (pool_in mid.pool) → OthersKeepAt key old mid
    → OnOk r (LendsInLine mid new) → OnOk r (PutsOnly (λ (n : ℕ). holder (pool_in old.pool) n ≡ Some key) old new)
said_puts (Ok v) key old mid new reached goes keeps lends = record {
  held = λ other at waits e. said_held key at.0 old mid new goes other (holder_is old.pool other at reached e) waits (keeps at.0) (lends at.0) (cases_eq other key);
  free = λ number none. inr (said_free key number old mid new goes none keeps (lends number));
}
said_puts (Err v) key old mid new reached goes keeps lends = tt
