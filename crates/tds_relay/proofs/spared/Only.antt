-- Whom what comes on a connection leaves as he was: who neither holds that nor waits.
use Rattle.std.proofs.Common.{◌≡◌, ◌≢◌, ◌⊎◌, ◌∙◌, ◌==◌, ℕ, Bool, List, inl, inr, refl, sym, ap, subst, option_map}
use Rattle.std.specs.Prelude.{Option, Some, None, Result, Ok, Err, OnOk}
use Rattle.tds_wire.specs.declared.told.Token.{Token}
use Rattle.tds_wire.specs.Reading.{Parser}
use Rattle.tds_service.specs.Parts.{Part}
use Rattle.tds_service.specs.Service as calls
use Rattle.tds_service.specs.Service.{lease_at, seat_numbered, step}
use Rattle.tds_service.specs.Table.{reading_on}
use Rattle.tds_relay.specs.Apart.{Alone, LosesOnly, SparesOthers, UnlessServed}
use Rattle.tds_relay.specs.declared.pool.coming.Heard.{Heard}
use Rattle.tds_relay.specs.declared.link.Link.{Link}
use Rattle.tds_relay.specs.declared.relay.Relay as code
use Rattle.tds_relay.specs.Cutting.{is_last_packet}
use Rattle.tds_relay.specs.Pool as pool
use Rattle.tds_relay.specs.Pool.{Pool, find_key, hearing, key_of, find_number, turn}
use Rattle.tds_relay.specs.Fronts.{MovedOn, ends_in, core_in, machine_in, machine_with, told_by}
use Rattle.tds_relay.specs.Core.{End, EndList, Core, change_whose, closes, end_at, holder, is_in, end_told}
use Rattle.tds_relay.specs.Handing.{HearsBytes, HearsBy, heard_key}
use Rattle.tds_relay.specs.Machine.{Machine}
use Rattle.tds_relay.specs.Queues.{queues_in}
use Rattle.tds_relay.specs.Reasons.{HearsNothing, IsHeardAs, IsIdle}
use Rattle.tds_relay.specs.Ties.{Connection, LedTo, IsReached, Neither, pool_in, part_on}
use Rattle.tds_relay.proofs.held.Fewer.{HoldsFewer, comes_fewer, fewer_moved, loses_fewer, renewed_but, whose_holds}
use Rattle.tds_relay.proofs.spared.Apart.{set_apart}
use Rattle.tds_relay.proofs.spared.Lines.{comes_line, out_behind, renews_line}
use Rattle.tds_relay.proofs.steps.Fronts.{no_moves}
use Rattle.tds_relay.proofs.steps.Placed.{differs_by}
use Rattle.tds_relay.proofs.steps.Reaching.{reached_on}

-- ---- One after the other

pub spares_refl : (number : ℕ) (who : Option ℕ) (h : Core) → SparesOthers number who h h
spares_refl number who h = λ key w o. (o, λ l. (l, refl))

pub spares_both : (number : ℕ) (who : Option ℕ) (a b c : Core) → SparesOthers number who a b → SparesOthers number who b c → SparesOthers number who a c
spares_both number who a b c h k = λ key w o.
    let x = h key w o in
    let y = k key w x.0 in (
      y.0,
      (λ l.
          let one = x.1 l in
          let two = y.1 one.0 in (two.0, two.1 ∙ one.1)),
    )

pub spares_on : {A E : Type 0} (r : Result A E) (number : ℕ) (who : Option ℕ) (a b c : Core) → SparesOthers number who a b → OnOk r (SparesOthers number who b c) → OnOk r (SparesOthers number who a c)
spares_on (Ok x) number who a b c h k = spares_both number who a b c h k
spares_on (Err e) number who a b c h k = tt

nobody : (key : ℕ) → None ≢ Some key
nobody key = λ e. (let u : None ≡ Some key = e in cc)

pub spares_none : (number : ℕ) (who : Option ℕ) (a b : Core) → SparesOthers number None a b → SparesOthers number who a b
spares_none number who a b h = λ key w o. h key (nobody key) o

-- ---- What is done

changed_apart : (es : EndList) (who : Option ℕ) (by : End → End) (key : ℕ) → who ≢ Some key → end_at (change_whose who by es) key ≡ end_at es key
changed_apart es None by key differs = refl
changed_apart es (Some k) by key differs = set_apart es k key (option_map by (end_at es k)) (λ same. differs (ap (λ (n : ℕ). Some n) (sym same)))

pub spares_changed : (number : ℕ) (who : Option ℕ) (by : End → End) (a b : Core) → b.pool ≡ a.pool → b.ends ≡ change_whose who by a.ends → SparesOthers number who a b
spares_changed number who by a b same ends = λ key w o. (
  (λ is. o (ap (λ (d : Pool). holder d number) (sym same) ∙ is)),
  (λ l. (ap (λ (d : Pool). is_in key d.line) same ∙ l, ap (λ (es : EndList). end_at es key) ends ∙ changed_apart a.ends who by key w)),
)

pub spares_same : (number : ℕ) (who : Option ℕ) (a b : Core) → b.pool ≡ a.pool → b.ends ≡ a.ends → SparesOthers number who a b
spares_same number who a b same ends = spares_none number who a b (spares_changed number None closes a b same ends)

-- where nobody is lent one
holds_fewer : (number key : ℕ) (a b : Core) → MovedOn a b → b.pool.line ≡ a.pool.line → holder b.pool number ≡ Some key → holder a.pool number ≡ Some key
holds_fewer number key a b m line is = fewer_moved a b (m Neither a (no_moves Neither a)) line number key is

pub spares_alone : (number key : ℕ) (a b : Core) → Alone key a b → MovedOn a b → SparesOthers number (Some key) a b
spares_alone number key a b h m = λ k w o. (
  (λ is. o (holds_fewer number k a b m h.line is)),
  (λ l. (ap (is_in k) h.line ∙ l, h.ends k (λ same. w (ap (λ (n : ℕ). Some n) (sym same))))),
)

pub spares_alone_on : {A E : Type 0} (r : Result A E) (number key : ℕ) (a b : Core) → OnOk r (Alone key a b) → OnOk r (MovedOn a b) → OnOk r (SparesOthers number (Some key) a b)
spares_alone_on (Ok x) number key a b h m = spares_alone number key a b h m
spares_alone_on (Err e) number key a b h m = tt

pub spares_lost : (number : ℕ) (a b : Core) → b.ends ≡ change_whose (holder a.pool number) closes a.ends → b.pool.line ≡ a.pool.line → MovedOn a b → SparesOthers number None a b
spares_lost number a b ends line m = λ key w o. (
  (λ is. o (holds_fewer number key a b m line is)),
  (λ l. (ap (is_in key) line ∙ l, ap (λ (es : EndList). end_at es key) ends ∙ changed_apart a.ends (holder a.pool number) closes key o)),
)

pub spares_lost_on : {A E : Type 0} (r : Result A E) (number : ℕ) (a b : Core) → OnOk r (b.ends ≡ change_whose (holder a.pool number) closes a.ends) → OnOk r (b.pool.line ≡ a.pool.line) → OnOk r (MovedOn a b)
    → OnOk r (SparesOthers number None a b)
spares_lost_on (Ok x) number a b ends line m = spares_lost number a b ends line m
spares_lost_on (Err e) number a b ends line m = tt

pub spares_waits : (number key : ℕ) (a b : Core) → b.pool ≡ (turn a.pool (pool.Waits key)).pool → b.ends ≡ a.ends → SparesOthers number (Some key) a b
spares_waits number key a b is ends = λ k w o. (
  (λ e. o (ap (λ (d : Pool). holder d number) (sym is) ∙ e)),
  (λ l. (
    ap (λ (d : Pool). is_in k d.line) is ∙ out_behind k key a.pool.line l (differs_by (key == k) key k refl (λ same. w (ap (λ (n : ℕ). Some n) same))),
    ap (λ (es : EndList). end_at es k) ends,
  )),
)

lost_holder : (number key : ℕ) (d e : Pool) → e ≡ (turn d (pool.Loses number)).pool → holder e number ≡ Some key → holder d number ≡ Some key
lost_holder number key d e is h = loses_fewer d number number key (ap (λ (x : Pool). holder x number) (sym is) ∙ h)

-- who held the connection lets it go, and stays
pub spares_parted : (number key : ℕ) (by : End → End) (a b : Core) → holder a.pool number ≡ Some key → b.pool ≡ (turn a.pool (pool.Loses number)).pool → b.ends ≡ change_whose (Some key) by a.ends → SparesOthers number None a b
spares_parted number key by a b its is ends = λ k w o. (
  (λ e. o (lost_holder number k a.pool b.pool is e)),
  (λ l. (ap (λ (d : Pool). is_in k d.line) is ∙ l, ap (λ (es : EndList). end_at es k) ends ∙ changed_apart a.ends (Some key) by k (λ same. o (its ∙ same)))),
)

-- and waits
pub spares_holder : (number key : ℕ) (a b : Core) → holder a.pool number ≡ Some key → SparesOthers number (Some key) a b → SparesOthers number None a b
spares_holder number key a b its h = λ k w o. h k (λ same. o (its ∙ same)) o

or_held : (key k : ℕ) (o : Option ℕ) → Some key ≢ Some k → o ≢ Some k → (k ≡ key) ⊎ (o ≡ Some k) → ⊥
or_held key k o w not (inl same) = w (ap (λ (n : ℕ). Some n) (sym same))
or_held key k o w not (inr is) = not is

pub spares_renewed : (number key : ℕ) (resumes : Bool) (a b : Core) → IsReached a.pool → b.pool ≡ (turn a.pool (pool.Renews key resumes)).pool → b.ends ≡ a.ends → SparesOthers number (Some key) a b
spares_renewed number key resumes a b reached is ends = λ k w o. (
  (λ e. or_held key k (holder a.pool number) w o (renewed_but a.pool key resumes reached number k (ap (λ (d : Pool). holder d number) (sym is) ∙ e))),
  (λ l. (ap (λ (d : Pool). is_in k d.line) is ∙ ap (is_in k) (renews_line a.pool resumes (find_key key a.pool.holds)) ∙ l, ap (λ (es : EndList). end_at es k) ends)),
)

pub spares_left : (number : ℕ) (a b : Core) → b.pool ≡ (turn a.pool (pool.Loses number)).pool → b.ends ≡ a.ends → SparesOthers number None a b
spares_left number a b is ends = λ k w o. (
  (λ e. o (lost_holder number k a.pool b.pool is e)),
  (λ l. (ap (λ (d : Pool). is_in k d.line) is ∙ l, ap (λ (es : EndList). end_at es k) ends)),
)

-- ---- A packet

as_heard : (number : ℕ) (o : Option Heard) (h : Heard) (a b : Core) → o ≡ Some h → SparesOthers number h.key a b → SparesOthers number (heard_key o) a b
as_heard number o h a b is k = subst (λ (x : Option Heard). SparesOthers number (heard_key x) a b) (sym is) k

-- it is told, and what goes out is sent
pub spares_sent : (number : ℕ) (o : Option Heard) (h : Heard) (a t b : code.Relay) → o ≡ Some h → t.pool ≡ a.pool → ends_in t.applications ≡ change_whose h.key (end_told h.what) (ends_in a.applications) → SparesOthers number None (core_in t) (core_in b)
    → SparesOthers number (heard_key o) (core_in a) (core_in b)
spares_sent number o h a t b is same ends sent =
    as_heard number o h (core_in a) (core_in b) is
    (spares_both number h.key (core_in a) (core_in t) (core_in b) (spares_changed number h.key (end_told h.what) (core_in a) (core_in t) (ap pool_in same) ends) (spares_none number h.key (core_in t) (core_in b) sent))

-- and then something is done for whose it is
pub spares_for : {A E : Type 0} (r : Result A E) (number : ℕ) (o : Option Heard) (h : Heard) (key : ℕ) (a b c : Core) → o ≡ Some h → h.key ≡ Some key → SparesOthers number (heard_key o) a b → OnOk r (SparesOthers number (Some key) b c)
    → OnOk r (SparesOthers number (heard_key o) a c)
spares_for (Ok x) number o h key a b c is its sent k =
    spares_both number (heard_key o) a b c sent (as_heard number o h b c is (subst (λ (w : Option ℕ). SparesOthers number w b c) (sym its) k))
spares_for (Err e) number o h key a b c is its sent k = tt

pub spares_wrote : {A E : Type 0} (r : Result A E) (number : ℕ) (o : Option Heard) (h : Heard) (key : ℕ) (a t b c : code.Relay) → o ≡ Some h → h.key ≡ Some key → t.pool ≡ a.pool
    → ends_in t.applications ≡ change_whose h.key (end_told h.what) (ends_in a.applications) → SparesOthers number None (core_in t) (core_in b) → OnOk r (Alone key (core_in b) (core_in c)) → OnOk r (MovedOn (core_in b) (core_in c))
    → OnOk r (SparesOthers number (heard_key o) (core_in a) (core_in c))
spares_wrote r number o h key a t b c is its same ends sent alone moves =
    spares_for r number o h key (core_in a) (core_in b) (core_in c) is its (spares_sent number o h a t b is same ends sent) (spares_alone_on r number key (core_in b) (core_in c) alone moves)

-- or it is closed
pub spares_shut : {A E : Type 0} (r : Result A E) (number : ℕ) (o : Option Heard) (h : Heard) (a t b c : code.Relay) → o ≡ Some h → t.pool ≡ a.pool → ends_in t.applications ≡ change_whose h.key (end_told h.what) (ends_in a.applications)
    → SparesOthers number None (core_in t) (core_in b) → c.pool ≡ b.pool → OnOk r (ends_in c.applications ≡ ends_in b.applications) → OnOk r (SparesOthers number (heard_key o) (core_in a) (core_in c))
spares_shut (Ok x) number o h a t b c is told_same ends sent same kept =
    spares_both number (heard_key o) (core_in a) (core_in b) (core_in c) (spares_sent number o h a t b is told_same ends sent) (spares_same number (heard_key o) (core_in b) (core_in c) (ap pool_in same) kept)
spares_shut (Err e) number o h a t b c is told_same ends sent same kept = tt

pub record HeardApart (number : ℕ) (o : Option Heard) (d e : Pool) : Type 0 where
  pub line : e.line ≡ d.line
  pub fewer : HoldsFewer d e
  pub whose : (key : ℕ) → heard_key o ≡ Some key → holder d number ≡ Some key

apart_same : (number : ℕ) (o : Option Heard) (d e : Pool) → e ≡ d → heard_key o ≡ None → HeardApart number o d e
apart_same number o d e same none = record {
  line = ap (λ (x : Pool). x.line) same;
  fewer = λ n key is. ap (λ (x : Pool). holder x n) (sym same) ∙ is;
  whose = λ key is. absurd (nobody key (sym none ∙ is));
}

turned_line : (d : Pool) (number : ℕ) (part : Part Token) (way : pool.Way) → (turn d (pool.Comes number part way)).pool.line ≡ d.line
turned_line d number part way =
    let heard = step {T = Token} d.service (calls.Came number part) in
    comes_line d (calls.Came number part) heard.service number way (lease_at (seat_numbered number d.service.seats)) (hearing heard.dones)

apart_hears : (number : ℕ) (parser : Option Parser) (link next : Link) (left : List ℕ) (count : ℕ) (h : Heard) (old new : Machine) → IsReached old.core.pool → HearsBytes number parser link next left count h old new
    → HeardApart number (Some h) old.core.pool new.core.pool
apart_hears number parser link next left count h old new reached hears =
    elim hears.brings [
      | inl none ↦ apart_same number (Some h) old.core.pool new.core.pool (ap (λ (x : Machine). x.core.pool) none.1) none.2.0
      | inr p ↦
          let part = part_on parser p.content (is_last_packet p.header) in
          let is : new.core.pool ≡ (turn old.core.pool (pool.Comes number part p.way)).pool = ap (λ (x : Machine). x.core.pool) p.is in
          record {
            line = ap (λ (x : Pool). x.line) is ∙ turned_line old.core.pool number part p.way;
            fewer = λ n key e. comes_fewer old.core.pool number part p.way n key (ap (λ (x : Pool). holder x n) (sym is) ∙ e);
            whose = λ key e. whose_holds old.core.pool number key reached (sym p.whose_is ∙ e);
          }
    ]

apart_by : (number : ℕ) (parser : Option Parser) (link next : Link) (left : List ℕ) (count : ℕ) (o : Option Heard) (old new : Machine) → IsReached old.core.pool → HearsBy number parser link next left count o old new
    → HeardApart number o old.core.pool new.core.pool
apart_by number parser link next left count None old new reached h = apart_same number None old.core.pool new.core.pool (ap (λ (x : Machine). x.core.pool) h.1) refl
apart_by number parser link next left count (Some heard) old new reached h = apart_hears number parser link next left count heard old new reached h

pub none_key : (o : Option Heard) → HearsNothing o → heard_key o ≡ None
none_key None none = absurd none
none_key (Some h) none = none.0

pub apart_or : (number : ℕ) (left : List ℕ) (o : Option Heard) (a b : code.Relay) (new : Machine) → IsReached (pool_in a.pool) → (HearsNothing o × IsIdle a b) ⊎ IsHeardAs number left o a new → new.core.pool ≡ pool_in b.pool
    → HeardApart number o (pool_in a.pool) (pool_in b.pool)
apart_or number left o a b new reached (inl none) same = apart_same number o (pool_in a.pool) (pool_in b.pool) (ap pool_in none.1.0) (none_key o none.0)
apart_or number left o a b new reached (inr h) same =
    subst (λ (d : Pool). HeardApart number o (pool_in a.pool) d) same (apart_by number (reading_on number a.pool.service) h.link h.next left h.count o (machine_in a) new reached h.hears)

spares_heard : (number : ℕ) (o : Option Heard) (a b c : Core) → HeardApart number o a.pool b.pool → b.ends ≡ a.ends → SparesOthers number (heard_key o) b c → SparesOthers number None a c
spares_heard number o a b c h ends k = λ key w none.
    let x = k key (λ is. none (h.whose key is)) (λ is. none (h.fewer number key is)) in (
      x.0,
      (λ l.
          let y = x.1 (ap (is_in key) h.line ∙ l) in (y.0, y.1 ∙ ap (λ (es : EndList). end_at es key) ends)),
    )

-- one behind the others
pub one_spares : (number : ℕ) (left : List ℕ) (o : Option Heard) (first : Core) (a b c : code.Relay) (es : EndList) → IsReached (pool_in a.pool) → SparesOthers number None first (core_in a)
    → (HearsNothing o × IsIdle a b) ⊎ IsHeardAs number left o a (machine_with (pool_in b.pool) (told_by o es) (queues_in b.applications)) → ends_in b.applications ≡ ends_in a.applications
    → LedTo (Connection number) (pool_in a.pool) (pool_in b.pool) → (IsReached (pool_in b.pool) → SparesOthers number (heard_key o) (core_in b) (core_in c)) → SparesOthers number None first (core_in c)
one_spares number left o first a b c es reached had hears ends goes done =
    let there : IsReached (pool_in b.pool) = reached_on (Connection number) (pool_in a.pool) (pool_in b.pool) goes reached in
    let apart = apart_or number left o a b (machine_with (pool_in b.pool) (told_by o es) (queues_in b.applications)) reached hears refl in
    spares_both number None first (core_in a) (core_in c) had (spares_heard number o (core_in a) (core_in b) (core_in c) apart ends (done there))

-- and those who wait are served
pub only_on : {A E : Type 0} (r : Result A E) (number : ℕ) (a b c : Core) → SparesOthers number None a b → OnOk r (UnlessServed b c) → OnOk r (LosesOnly number a c)
only_on (Ok x) number a b c h served = λ key o l.
    let x = (h key (nobody key) o).1 l in served key x.0 ∙ x.1
only_on (Err e) number a b c h served = tt
