-- Who holds the connection on which packets come: while what it asks stays, and nothing of it goes on, the same waits there.
use Rattle.std.proofs.Common.{◌≡◌, ◌≢◌, ◌⊎◌, ◌∙◌, ℕ, Bool, true, List, [], Option, Some, None, inl, inr, refl, sym, ap, subst}
use Rattle.std.proofs.lemmas.Bool.{cases_eq}
use Rattle.std.specs.Prelude.{Result, Ok, Err, OnOk}
use Rattle.slab.specs.Slab.{Slab, get}
use Rattle.tds_relay.specs.declared.application.Application.{Application}
use Rattle.tds_relay.specs.declared.pool.Pool as pools
use Rattle.tds_relay.specs.declared.pool.Hold.{Hold}
use Rattle.tds_relay.specs.declared.pool.coming.Heard.{Heard}
use Rattle.tds_relay.specs.declared.pool.coming.What.TheVariants as whats
use Rattle.tds_relay.specs.declared.link.Link.{Link}
use Rattle.tds_relay.specs.declared.relay.Relay as code
use Rattle.tds_relay.specs.Apart.{Alone, SparesOthers}
use Rattle.tds_relay.specs.Bodies.{AskAsBefore, AskOn, Astray, Body, Closed, Closes, Goes, GoesFrom, Going, IsStill, Kept, Nowhere, Spared, Starts, Stays, Strays, body_in, body_of, going_of, standing_in}
use Rattle.tds_relay.specs.Cleaning.{MayClean}
use Rattle.tds_relay.specs.Coming.{Begins, Ends, GoesAlong, Hears, HearsOn, IsGoing, MayBeDone, Reads, Shuts, Waits}
use Rattle.tds_relay.specs.Core.{holder, is_in}
use Rattle.tds_relay.specs.Few.{IsSeated}
use Rattle.tds_relay.specs.Fronts.{core_in}
use Rattle.tds_relay.specs.Handing.{heard_key}
use Rattle.tds_relay.specs.Lent.{FirstKeeps, HoldsOrGone, IsOnItsOwn, MayForget}
use Rattle.tds_relay.specs.Machine.{Machine}
use Rattle.tds_relay.specs.Pool as pool
use Rattle.tds_relay.specs.Pool.{Pool, turn, find_key, find_number, key_of, whose, without_number}
use Rattle.tds_relay.specs.Reads.{StaysAt, reader_at, waits_on}
use Rattle.tds_relay.specs.Reasons.{Cleans, HearsNothing, IsHeardAs, IsIdle, IsLeftOpen}
use Rattle.tds_relay.specs.Sending.{sending_at}
use Rattle.tds_relay.specs.Sparing.{IsKept}
use Rattle.tds_relay.specs.Ties.{Connection, IsReached, LedOn, LedTo, pool_in}
use Rattle.tds_relay.specs.Waiting.{IsOnOrHeld, KeepsHeard, KeepsWaiting}
use Rattle.tds_relay.proofs.held.Fewer.{none_left}
use Rattle.tds_relay.proofs.spared.Cleaned.{waits_none}
use Rattle.tds_relay.proofs.spared.Coming.{alike_along, along_then, asks_along, done_along, same_along}
use Rattle.tds_relay.proofs.spared.Elsewhere.{renew_keeps}
use Rattle.tds_relay.proofs.lending.Firsts.{Here, first_on, holder_or_not}
use Rattle.tds_relay.proofs.spared.Lines.{renews_line, waited_on}
use Rattle.tds_relay.proofs.spared.Losing.{whose_as}
use Rattle.tds_relay.proofs.spared.Off.{waits_sent}
use Rattle.tds_relay.proofs.spared.Only.{HeardApart, apart_or}
use Rattle.tds_relay.proofs.spared.Starting.{unkept_going}
use Rattle.tds_relay.proofs.spared.Turned.{kept_any, kept_asks}
use Rattle.tds_relay.proofs.steps.Reaching.{ok_if}

-- ---- What is kept

kept_by : (from to goes : Body) → Spared from to ⊎ ((from ≡ goes) × (to ≡ Nowhere)) → IsKept to → to ≡ from
kept_by from to goes (inl (inl same)) kept = same
kept_by from to goes (inl (inr closed)) kept = absurd (subst IsKept closed kept)
kept_by from to goes (inr done) kept = absurd (subst IsKept done.1 kept)

-- what is kept was kept so
pub kept_done : (key : ℕ) (a b : code.Relay) → MayBeDone a.applications b.applications → IsKept (body_of key b) → body_of key b ≡ body_of key a
kept_done key a b may kept =
    let g : Body = going_of key b in
    let same : body_in (get b.applications key) g ≡ body_in (get a.applications key) g = kept_by (body_in (get a.applications key) g) (body_in (get b.applications key) g) g (may key g) kept in
    same ∙ sym (kept_any (get a.applications key) g (going_of key a) (unkept_going b.pool.service b.links.items (find_key key b.pool.holds.items)) (subst IsKept same kept))

done_on : (a b : code.Relay) → AskOn a.applications b.applications → MayBeDone a.applications b.applications
done_on a b asks = λ key goes. inl (asks key goes)

-- ---- One after the other

pub stays_then : {A : Type 0} (x y z : Option A) → StaysAt x y → StaysAt y z → StaysAt x z
stays_then x y None h k = tt
stays_then {A} x y (Some v) h k = subst (λ (o : Option A). StaysAt x o) k h

pub stays_same : {A : Type 0} (x y : Option A) → y ≡ x → StaysAt x y
stays_same x None e = tt
stays_same x (Some v) e = sym e

-- what its application asks no more stays so
closed_starts : {a b : Body} → Starts a b → a ≡ Closed → b ≡ Closed
closed_starts Stays e = e
closed_starts Closes e = refl
closed_starts Strays e = absurd (let u : ⊥ = cc in u)
closed_starts (Goes waits out from puts) e = absurd (let u : ⊥ = cc in u)

closed_hears : {a b : Body} → HearsOn a b → a ≡ Closed → b ≡ Closed
closed_hears Waits e = e
closed_hears Shuts e = refl
closed_hears (Reads goes un) e = absurd (subst IsGoing e goes)

closed_along : {a b : Body} → GoesAlong a b → a ≡ Closed → b ≡ Closed
closed_along Ends e = e
closed_along (Begins s more) e = closed_along more (closed_starts s e)
closed_along (Hears h more) e = closed_along more (closed_hears h e)

-- where it asks nothing
abbrev AsksNone : Body → Type 0
AsksNone b = (b ≡ Nowhere) ⊎ (b ≡ Closed)

none_starts : {a b : Body} → Starts a b → a ≡ Nowhere → AsksNone b
none_starts Stays e = inl e
none_starts Closes e = inr refl
none_starts Strays e = absurd (let u : ⊥ = cc in u)
none_starts (Goes waits out from puts) e = absurd (let u : ⊥ = cc in u)

none_hears : {a b : Body} → HearsOn a b → a ≡ Nowhere → AsksNone b
none_hears Waits e = inl e
none_hears Shuts e = inr refl
none_hears (Reads goes un) e = absurd (subst IsGoing e goes)

none_next : {b c : Body} → AsksNone b → (b ≡ Nowhere → AsksNone c) → GoesAlong b c → AsksNone c
none_next (inl none) later more = later none
none_next (inr shut) later more = inr (closed_along more shut)

none_along : {a b : Body} → GoesAlong a b → a ≡ Nowhere → AsksNone b
none_along Ends e = inl e
none_along (Begins s more) e = none_next (none_starts s e) (λ f. none_along more f) more
none_along (Hears h more) e = none_next (none_hears h e) (λ f. none_along more f) more

none_between : (y : Body) → AsksNone y → GoesAlong y Nowhere → y ≡ Nowhere
none_between y (inl none) more = none
none_between y (inr shut) more = absurd (let u : Nowhere ≡ Closed = closed_along more shut in let v : ⊥ = cc in v)

-- it was so between, too
between : (x y z : Body) → GoesAlong x y → GoesAlong y z → (IsKept z → z ≡ y) → z ≡ x → IsStill z → y ≡ x
between x y Closed one two kept same still = absurd still
between x y Nowhere one two kept same still = none_between y (none_along one (sym same)) two ∙ same
between x y (Kept kind bytes whole) one two kept same still = sym (kept tt) ∙ same
between x y Astray one two kept same still = absurd still
between x y (Going number client waits) one two kept same still = absurd still

pub waiting_both : (number key : ℕ) (a b c : code.Relay) → KeepsWaiting number a b key → KeepsWaiting number b c key → KeepsWaiting number a c key
waiting_both number key a b c h k = λ holds.
    let y = k holds in
    let x = h y.held in
    record {
      held = x.held;
      away = λ w. x.away (y.away w);
      along = along_then x.along y.along;
      kept = λ kept. y.kept kept ∙ x.kept (subst IsKept (y.kept kept) kept);
      waits = λ same still.
          let mid : body_of key b ≡ body_of key a = between (body_of key a) (body_of key b) (body_of key c) x.along y.along y.kept same still in
          let next : body_of key c ≡ body_of key b = same ∙ sym mid in
          stays_then (waits_on number a.links.items) (waits_on number b.links.items) (waits_on number c.links.items) (x.waits mid (subst IsStill next still)) (y.waits next still);
    }

pub waiting_on : {A E : Type 0} (r : Result A E) (number key : ℕ) (a b c : code.Relay) → KeepsWaiting number a b key → OnOk r (KeepsWaiting number b c key) → OnOk r (KeepsWaiting number a c key)
waiting_on (Ok x) number key a b c h k = waiting_both number key a b c h k
waiting_on (Err e) number key a b c h k = tt

-- the pool is as it was, and the same waits
pub waiting_same : (number key : ℕ) (a b : code.Relay) → b.pool ≡ a.pool → waits_on number b.links.items ≡ waits_on number a.links.items → MayBeDone a.applications b.applications → KeepsWaiting number a b key
waiting_same number key a b at waits may = λ holds. record {
  held = subst (λ (d : pools.Pool). holder (pool_in d) number ≡ Some key) at holds;
  away = λ w. subst (λ (d : pools.Pool). is_in key (pool_in d).line ≡ true) at w;
  along = (done_along a b may).along key;
  kept = kept_done key a b may;
  waits = λ same still. stays_same (waits_on number a.links.items) (waits_on number b.links.items) waits;
}

pub waiting_wrote : {A E : Type 0} (r : Result A E) (number key : ℕ) (a b : code.Relay) → b.pool ≡ a.pool → OnOk r (b.links.items ≡ a.links.items) → OnOk r (AskOn a.applications b.applications) → OnOk r (KeepsWaiting number a b key)
waiting_wrote (Ok x) number key a b at links asks = waiting_same number key a b at (ap (waits_on number) links) (done_on a b asks)
waiting_wrote (Err e) number key a b at links asks = tt

-- nobody holds it any more
waiting_free : (number key : ℕ) (a b : code.Relay) → holder (pool_in b.pool) number ≡ None → KeepsWaiting number a b key
waiting_free number key a b none = λ holds. absurd (let u : None ≡ Some key = sym none ∙ holds in let v : ⊥ = cc in v)

pub waiting_free_on : {A E : Type 0} (r : Result A E) (number key : ℕ) (a b : code.Relay) → OnOk r (holder (pool_in b.pool) number ≡ None) → OnOk r (KeepsWaiting number a b key)
waiting_free_on (Ok x) number key a b none = waiting_free number key a b none
waiting_free_on (Err e) number key a b none = tt

pub free_lost : {A E : Type 0} (r : Result A E) (number : ℕ) (a b : code.Relay) → OnOk r (b.pool.holds.items ≡ without_number number a.pool.holds.items) → OnOk r (holder (pool_in b.pool) number ≡ None)
free_lost (Ok x) number a b e = ap (λ (hs : List Hold). key_of (find_number number hs)) e ∙ ap key_of (none_left number a.pool.holds.items)
free_lost (Err x) number a b e = tt

held_still : (number key : ℕ) (had holds : List Hold) → MayForget number had holds → key_of (find_number number holds) ≡ Some key → key_of (find_number number had) ≡ Some key
held_still number key had holds (inl same) is = ap (λ (hs : List Hold). key_of (find_number number hs)) (sym same) ∙ is
held_still number key had holds (inr gone) is =
    absurd (let u : None ≡ Some key = sym (ap (λ (hs : List Hold). key_of (find_number number hs)) gone ∙ ap key_of (none_left number had)) ∙ is in let v : ⊥ = cc in v)

renewed_held : (number key : ℕ) (resumes : Bool) (d e : Pool) → IsReached d → e ≡ (turn d (pool.Renews key resumes)).pool → holder e number ≡ Some key → holder d number ≡ Some key
renewed_held number key resumes d e reached is holds =
    elim (holder_or_not (holder d number) key) [
      | inl same ↦ same
      | inr differs ↦ absurd (differs (ap key_of (sym (renew_keeps d key number reached differs e resumes is)) ∙ holds))
    ]

-- it is closed
waiting_closed : (number key : ℕ) (a t b c : code.Relay) → t.pool ≡ a.pool → MayBeDone a.applications t.applications → LedOn (pool_in t.pool) (pool_in b.pool) → MayForget number t.pool.holds.items b.pool.holds.items
    → AskOn t.applications b.applications → c.pool ≡ b.pool → AskAsBefore b.applications c.applications → reader_at number c.links.items ≡ None → KeepsWaiting number a c key
waiting_closed number key a t b c at may goes forgets asks same closed gone = λ holds. record {
  held =
      subst (λ (d : pools.Pool). holder (pool_in d) number ≡ Some key) at
      (held_still number key t.pool.holds.items b.pool.holds.items forgets (subst (λ (d : pools.Pool). holder (pool_in d) number ≡ Some key) same holds));
  away = λ w.
      subst (λ (d : pools.Pool). is_in key (pool_in d).line ≡ true) at
      (waited_on (pool_in t.pool) (pool_in b.pool) goes key (subst (λ (d : pools.Pool). is_in key (pool_in d).line ≡ true) same w));
  along = along_then ((done_along a t may).along key) (along_then ((asks_along t b asks).along key) ((same_along b c closed).along key));
  kept = λ kept.
      let one : body_of key c ≡ body_of key b = sym (kept_asks key c b closed kept) in
      let two : body_of key b ≡ body_of key t = kept_done key t b (done_on t b asks) (subst IsKept one kept) in
      let three : body_of key t ≡ body_of key a = kept_done key a t may (subst IsKept two (subst IsKept one kept)) in
      one ∙ two ∙ three;
  waits = λ stays still. subst (λ (o : Option (List ℕ)). StaysAt (waits_on number a.links.items) o) (sym (waits_none number c.links.items gone)) tt;
}

-- it is kept by another lease
pub waiting_renewed : (number key : ℕ) (resumes : Bool) (a : code.Relay) (d : pools.Pool) (b : code.Relay) → IsReached (pool_in a.pool) → pool_in d ≡ (turn (pool_in a.pool) (pool.Renews key resumes)).pool → b.pool ≡ d
    → waits_on number b.links.items ≡ waits_on number a.links.items → b.applications ≡ a.applications → KeepsWaiting number a b key
waiting_renewed number key resumes a d b reached is at waits apps = λ holds.
    let turned : pool_in b.pool ≡ (turn (pool_in a.pool) (pool.Renews key resumes)).pool = ap pool_in at ∙ is in
    record {
      held = renewed_held number key resumes (pool_in a.pool) (pool_in b.pool) reached turned holds;
      away = λ w. sym (ap (λ (e : Pool). is_in key e.line) turned ∙ ap (is_in key) (renews_line (pool_in a.pool) resumes (find_key key a.pool.holds.items))) ∙ w;
      along = (alike_along a b apps).along key;
      kept = kept_done key a b (λ k goes. inl (inl (ap (λ (s : Slab Application). body_in (get s k) goes) apps)));
      waits = λ same still. stays_same (waits_on number a.links.items) (waits_on number b.links.items) waits;
    }

own_held : (number key : ℕ) (had holds : List Hold) (new : List Link) → HoldsOrGone had holds new → key_of (find_number number holds) ≡ Some key → key_of (find_number number had) ≡ Some key
own_held number key had holds new own is =
    elim (own number) [
      | inl same ↦ ap key_of (sym same) ∙ is
      | inr gone ↦ absurd (let u : None ≡ Some key = sym (ap key_of gone.0) ∙ is in let v : ⊥ = cc in v)
    ]

-- what it asks starts, where it may
pub waiting_starts : {A E : Type 0} (r : Result A E) (number key : ℕ) (a b : code.Relay) → OnOk r (IsOnItsOwn key a b) → OnOk r (Alone key (core_in a) (core_in b)) → OnOk r (Starts (body_of key a) (body_of key b))
    → OnOk r (GoesFrom (standing_in key a) (standing_in key b)) → OnOk r (IsKept (body_of key b) → body_of key b ≡ body_of key a) → OnOk r (KeepsWaiting number a b key)
waiting_starts (Ok x) number key a b own alone starts puts stays = λ holds. record {
  held = own_held number key a.pool.holds.items b.pool.holds.items b.links.items own.own holds;
  away = λ w. sym (ap (is_in key) alone.line) ∙ w;
  along = Begins starts Ends;
  kept = stays;
  waits = λ same still. puts.still (subst IsStill same still) still number;
}
waiting_starts (Err e) number key a b own alone starts puts stays = tt

-- ---- Behind a packet

-- events lead to it still
pub goes_wrote : {A E : Type 0} (r : Result A E) (a t b c : pools.Pool) → t ≡ a → LedOn (pool_in t) (pool_in b) → c ≡ b → OnOk r ((other : ℕ) → LedTo (Connection other) (pool_in a) (pool_in c))
goes_wrote r a t b c at led same = ok_if r _ (λ other. subst (λ (d : pools.Pool). LedTo (Connection other) (pool_in a) (pool_in d)) (sym same) (subst (λ (d : pools.Pool). LedTo (Connection other) (pool_in d) (pool_in b)) at (led (Connection other))))

-- it is told, and nothing goes out by it
pub waiting_sent : (number key : ℕ) (a t b : code.Relay) → t.pool ≡ a.pool → t.links.items ≡ a.links.items → MayBeDone a.applications t.applications → b ≡ t → KeepsWaiting number a b key
waiting_sent number key a t b at links may same = subst (λ (r : code.Relay). KeepsWaiting number a r key) (sym same) (waiting_same number key a t at (ap (waits_on number) links) may)

open_by : (h : Heard) → h.what ≢ whats.Closed → IsLeftOpen (Some h)
open_by h stays = stays

module _ (number : ℕ) (h : Heard) (a t b : code.Relay) (at : t.pool ≡ a.pool) (links : t.links.items ≡ a.links.items) (may : MayBeDone a.applications t.applications) (outbox : h.what ≢ whats.Closed → t.outbox.items ≡ a.outbox.items) (idle : t.outbox.items ≡ [] → b ≡ t) where
  sent_first : (key : ℕ) → h.what ≢ whats.Closed → (IsLeftOpen (Some h) → a.outbox.items ≡ []) → KeepsWaiting number a b key
  sent_first key stays quiet = waiting_sent number key a t b at links may (idle (outbox stays ∙ quiet stays))

  pub heard_none : h.what ≢ whats.Closed → FirstKeeps (Here number) a b → KeepsHeard number (Some h) a b
  heard_none stays first = record { others = first_on number h.key a b first; rests = λ quiet key its. sent_first key stays quiet }

  heard_wrote_ok : (c : code.Relay) → h.what ≢ whats.Closed → FirstKeeps (IsOnOrHeld number h.key a) a c → c.pool ≡ b.pool → c.links.items ≡ b.links.items → AskOn b.applications c.applications → KeepsHeard number (Some h) a c
  heard_wrote_ok c stays first same wrote asks = record {
    others = first;
    rests = λ quiet key its. waiting_both number key a b c (sent_first key stays quiet) (waiting_same number key b c same (ap (waits_on number) wrote) (done_on b c asks));
  }

  pub heard_wrote : {A E : Type 0} (r : Result A E) (c : code.Relay) → h.what ≢ whats.Closed → OnOk r (FirstKeeps (IsOnOrHeld number h.key a) a c) → c.pool ≡ b.pool → OnOk r (c.links.items ≡ b.links.items)
      → OnOk r (AskOn b.applications c.applications) → OnOk r (KeepsHeard number (Some h) a c)
  heard_wrote (Ok x) c stays first same wrote asks = heard_wrote_ok c stays first same wrote asks
  heard_wrote (Err e) c stays first same wrote asks = tt

  pub heard_resumes : {A E : Type 0} (r : Result A E) (key : ℕ) (c : code.Relay) → h.what ≢ whats.Closed → h.key ≡ Some key → OnOk r (FirstKeeps (IsOnOrHeld number h.key a) a c) → OnOk r (KeepsWaiting number b c key)
      → OnOk r (KeepsHeard number (Some h) a c)
  heard_resumes (Ok x) key c stays is first rests = record {
    others = first;
    rests = λ quiet other its.
        waiting_both number other a b c (sent_first other stays quiet) (subst (λ (k : ℕ). KeepsWaiting number b c k) (its key is) rests);
  }
  heard_resumes (Err e) key c stays is first rests = tt

pub heard_closed : {A E : Type 0} (r : Result A E) (number : ℕ) (h : Heard) (a t b c : code.Relay) → t.pool ≡ a.pool → MayBeDone a.applications t.applications → LedOn (pool_in t.pool) (pool_in b.pool) → MayForget number t.pool.holds.items b.pool.holds.items
    → AskOn t.applications b.applications → c.pool ≡ b.pool → OnOk r (AskAsBefore b.applications c.applications) → OnOk r (reader_at number c.links.items ≡ None) → OnOk r (FirstKeeps (IsOnOrHeld number h.key a) a c)
    → OnOk r (KeepsHeard number (Some h) a c)
heard_closed (Ok x) number h a t b c at may goes forgets asks same closed gone first = record {
  others = first;
  rests = λ quiet key its. waiting_closed number key a t b c at may goes forgets asks same closed gone;
}
heard_closed (Err e) number h a t b c at may goes forgets asks same closed gone first = tt

pub heard_lost : {A E : Type 0} (r : Result A E) (number : ℕ) (o : Option Heard) (a c : code.Relay) → OnOk r (FirstKeeps (IsOnOrHeld number (heard_key o) a) a c) → OnOk r (holder (pool_in c.pool) number ≡ None) → OnOk r (KeepsHeard number o a c)
heard_lost (Ok x) number o a c first none = record { others = first; rests = λ quiet key its. waiting_free number key a c none }
heard_lost (Err e) number o a c first none = tt

-- ---- One packet behind the others

nobody_by : (number : ℕ) (left : List ℕ) (o : Option Heard) (a : code.Relay) (new : Machine) → IsHeardAs number left o a new → whose (pool_in a.pool) number ≡ None → heard_key o ≡ None
nobody_by number left None a new heard none = refl
nobody_by number left (Some h) a new heard none =
    elim heard.hears.brings [
      | inl nothing ↦ nothing.2.0
      | inr p ↦ p.whose_is ∙ none
    ]

module _ (number : ℕ) (left : List ℕ) (o : Option Heard) (key : ℕ) (a b c : code.Relay) (new : Machine) (seated : IsSeated a) (hears : (HearsNothing o × IsIdle a b) ⊎ IsHeardAs number left o a new) (same : new.core.pool ≡ pool_in b.pool) (spares : SparesOthers number (heard_key o) (core_in b) (core_in c)) (holds : holder (pool_in c.pool) number ≡ Some key) where
  apart : HeardApart number o (pool_in a.pool) (pool_in b.pool)
  apart = apart_or number left o a b new seated.reached hears same

  -- unless it is told of it, it held it before
  held_then : heard_key o ≢ Some key → holder (pool_in b.pool) number ≡ Some key
  held_then none = elim (holder_or_not (holder (pool_in b.pool) number) key) [
    | inl is ↦ is
    | inr not ↦ absurd ((spares key none not).0 holds)
  ]

  one_by : (whose : ℕ) → heard_key o ≡ Some whose → (whose ≡ key) ⊎ (whose ≢ key) → whose ≡ key
  one_by whose is (inl e) = e
  one_by whose is (inr differs) =
      let there : holder (pool_in a.pool) number ≡ Some key = apart.fewer number key (held_then (λ e. differs (let u : Some whose ≡ Some key = sym is ∙ e in cc))) in
      (let u : Some whose ≡ Some key = sym (apart.whose whose is) ∙ there in cc)

  only_its : (whose : ℕ) → heard_key o ≡ Some whose → whose ≡ key
  only_its whose is = one_by whose is (cases_eq whose key)

  -- nothing goes out there by it
  quiet_as : IsHeardAs number left o a new → MayClean (whose (pool_in a.pool) number) [] b.outbox.items → b.outbox.items ≡ []
  quiet_as heard (inl same) = same
  quiet_as heard (inr x) =
      let there : holder (pool_in b.pool) number ≡ Some key = held_then (λ e. let u : None ≡ Some key = sym (nobody_by number left o a new heard x.0) ∙ e in let v : ⊥ = cc in v) in
      let its : whose (pool_in a.pool) number ≡ Some key = whose_as number left o a b new key seated heard (sym same) there in
      absurd (let u : None ≡ Some key = sym x.0 ∙ its in let v : ⊥ = cc in v)

  quiet_by : (HearsNothing o × IsIdle a b) ⊎ IsHeardAs number left o a new → Cleans (whose (pool_in a.pool) number) o [] b.outbox.items → IsLeftOpen o → b.outbox.items ≡ []
  quiet_by (inl idle) cleans stays = idle.1.1
  quiet_by (inr heard) cleans stays = quiet_as heard (cleans stays)

  pub one_rests : (first : code.Relay) → KeepsWaiting number first a key → Cleans (whose (pool_in a.pool) number) o [] b.outbox.items → ((other : ℕ) → sending_at other b.links.items ≡ sending_at other a.links.items)
      → AskAsBefore a.applications b.applications → KeepsHeard number o b c → KeepsWaiting number first c key
  one_rests first had cleans sends asks keeps =
      let heard : KeepsWaiting number a b key = λ there. record {
        held = apart.fewer number key there;
        away = λ w. sym (ap (is_in key) apart.line) ∙ w;
        along = (same_along a b asks).along key;
        kept = λ kept. sym (kept_asks key b a asks kept);
        waits = λ same still. stays_same (waits_on number a.links.items) (waits_on number b.links.items) (waits_sent number a.links.items b.links.items (sends number));
      } in
      waiting_both number key first a c had (waiting_both number key a b c heard (keeps.rests (quiet_by hears cleans) key only_its))

pub rests_refl : (number key : ℕ) (a : code.Relay) → KeepsWaiting number a a key
rests_refl number key a = λ holds. record {
  held = holds;
  away = λ w. w;
  along = Ends;
  kept = λ kept. refl;
  waits = λ same still. stays_same (waits_on number a.links.items) (waits_on number a.links.items) refl;
}
