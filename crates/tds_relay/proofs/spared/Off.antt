-- Requests of those who don't hold the connection on which something comes.
use Rattle.std.proofs.Common.{◌≡◌, ◌≢◌, ◌⊎◌, ◌∙◌, ℕ, Bool, false, List, Option, Some, None, inl, inr, refl, sym, ap, subst, option_map}
use Rattle.std.specs.Prelude.{Result, Ok, Err, OnOk}
use Rattle.tds_relay.specs.Apart.{SparesOthers}
use Rattle.tds_relay.specs.declared.pool.Pool as pools
use Rattle.tds_relay.specs.declared.pool.coming.Heard.{Heard}
use Rattle.tds_relay.specs.declared.link.Link.{Link}
use Rattle.tds_relay.specs.declared.relay.Relay as code
use Rattle.tds_relay.specs.Bodies.{AskAsBefore, AskOn, Body, Starts, Stays, body_of}
use Rattle.tds_relay.specs.Pool as pool
use Rattle.tds_relay.specs.Fronts.{ends_in, core_in, machine_with, told_by}
use Rattle.tds_relay.specs.Core.{EndList, change_whose, holder, end_told, is_in}
use Rattle.tds_relay.specs.Handing.{heard_key}
use Rattle.tds_relay.specs.Queues.{queues_in}
use Rattle.tds_relay.specs.Reads.{bytes_on, link_at, waits_on}
use Rattle.tds_relay.specs.Reasons.{HearsNothing, IsHeardAs, IsIdle}
use Rattle.tds_relay.specs.Sending.{NamedWaiting, sending_at, sending_of}
use Rattle.tds_relay.specs.Sparing.{AllGo, AllRest, AwayRest, HeldConnection, HoldsStill, IsOff, OffGo, OffHold, OthersRest, Rests, SendsOn, held_at}
use Rattle.tds_relay.specs.Ties.{Connection, LedTo, LedOn, IsReached, Turns, pool_in}
use Rattle.tds_relay.proofs.spared.Held.{held_as, holder_is}
use Rattle.tds_relay.proofs.spared.Only.{HeardApart, apart_or, spares_changed, spares_renewed, spares_sent}
use Rattle.tds_relay.proofs.lending.Resting.{AsksAt, asks_on, off_rests, put_reached, rests_start, starts_both, still_at, still_both, still_rests}
use Rattle.tds_relay.proofs.steps.Reaching.{reached_on, reached_turn}

-- ---- One after the other

pub off_none : (number : ℕ) (who : Option ℕ) (r : code.Relay) → OffGo number who r r
off_none number who r = record { go = λ reached key w o. Stays; holds = λ reached key w o away. still_at key r r refl }

pub off_then : (number : ℕ) (who : Option ℕ) (a b c : code.Relay) → OffGo number who a b → SparesOthers number who (core_in a) (core_in b) → (IsReached (pool_in a.pool) → IsReached (pool_in b.pool)) → OffGo number who b c → OffGo number who a c
off_then number who a b c h spares led k = record {
  go = λ reached key w o. starts_both (h.go reached key w o) (k.go (led reached) key w (spares key w o).0);
  holds = λ reached key w o away.
      let x = spares key w o in
      still_both key a b c (h.holds reached key w o away) (k.go (led reached) key w x.0) (k.holds (led reached) key w x.0 (x.1 away).0);
}

pub off_then_on : {A E : Type 0} (r : Result A E) (number : ℕ) (who : Option ℕ) (a b c : code.Relay) → OffGo number who a b → SparesOthers number who (core_in a) (core_in b) → (IsReached (pool_in a.pool) → IsReached (pool_in b.pool)) → OnOk r (OffGo number who b c)
    → OnOk r (OffGo number who a c)
off_then_on (Ok x) number who a b c h spares led k = off_then number who a b c h spares led k
off_then_on (Err e) number who a b c h spares led k = tt

-- each stays, or each but that of one
pub all_off : {A E : Type 0} (r : Result A E) (number : ℕ) (who : Option ℕ) (a b : code.Relay) → (IsReached (pool_in a.pool) → OnOk r (AllRest a b)) → OnOk r (OffGo number who a b)
all_off (Ok x) number who a b h = record {
  go = λ reached key w o. rests_start (body_of key a) (body_of key b) ((h reached).rest key);
  holds = λ reached key w o away. (h reached).holds key;
}
all_off (Err e) number who a b h = tt

pub others_off : (number key : ℕ) (a b : code.Relay) → (IsReached (pool_in a.pool) → OthersRest key a b) → OffGo number (Some key) a b
others_off number key a b h = record {
  go = λ reached other w o. rests_start (body_of other a) (body_of other b) ((h reached).rest other (λ same. w (ap (λ (n : ℕ). Some n) (sym same))));
  holds = λ reached other w o away. (h reached).holds other (λ same. w (ap (λ (n : ℕ). Some n) (sym same)));
}

pub others_off_on : {A E : Type 0} (r : Result A E) (number key : ℕ) (a b : code.Relay) → (IsReached (pool_in a.pool) → OnOk r (OthersRest key a b)) → OnOk r (OffGo number (Some key) a b)
others_off_on (Ok x) number key a b h = others_off number key a b h
others_off_on (Err e) number key a b h = tt

pub off_more : {A E : Type 0} (r : Result A E) (number : ℕ) (who : Option ℕ) (a b : code.Relay) → OnOk r (OffGo number None a b) → OnOk r (OffGo number who a b)
off_more (Ok x) number who a b h = record {
  go = λ reached key w o. h.go reached key (λ e. (let u : None ≡ Some key = e in cc)) o;
  holds = λ reached key w o away. h.holds reached key (λ e. (let u : None ≡ Some key = e in cc)) o away;
}
off_more (Err e) number who a b h = tt

-- a connection is kept by another lease, or not, and then something is done
pub renewed_off : {A E : Type 0} (r : Result A E) (number key : ℕ) (resumes : Bool) (a b c : code.Relay) {before after : List ℕ} → (IsReached (pool_in a.pool) → OthersRest key a b)
    → Turns (pool.Renews key resumes) (pool_in a.pool) (pool_in b.pool) before after → ends_in b.applications ≡ ends_in a.applications → OnOk r (OffGo number (Some key) b c) → OnOk r (OffGo number (Some key) a c)
renewed_off (Ok x) number key resumes a b c rests t ends k = record {
  go = λ reached other w o.
      let spares = spares_renewed number key resumes (core_in a) (core_in b) reached t.pool_is ends in
      let led : IsReached (pool_in b.pool) = reached_turn _ _ _ _ _ t reached in
      starts_both ((others_off number key a b rests).go reached other w o) (k.go led other w (spares other w o).0);
  holds = λ reached other w o away.
      let x = spares_renewed number key resumes (core_in a) (core_in b) reached t.pool_is ends other w o in
      let led : IsReached (pool_in b.pool) = reached_turn _ _ _ _ _ t reached in
      still_both other a b c ((others_off number key a b rests).holds reached other w o away) (k.go led other w x.0) (k.holds led other w x.0 (x.1 away).0);
}
renewed_off (Err e) number key resumes a b c rests t ends k = tt

-- ---- What is done

-- whoever doesn't hold it doesn't by his client either
pub off_held : (number key : ℕ) (d : pools.Pool) → IsReached (pool_in d) → holder (pool_in d) number ≢ Some key → IsOff number key d
off_held number key d reached o client e =
    let held : HeldConnection = (number, client) in
    o (holder_is d key held reached e)

-- something is done on that connection alone
pub done_off : (number : ℕ) (who : Option ℕ) (a b : code.Relay) → OffHold number a.pool b.pool → ((other : ℕ) → other ≢ number → waits_on other b.links.items ≡ waits_on other a.links.items)
    → ((key : ℕ) → who ≢ Some key → AsksAt key a b) → OffGo number who a b
done_off number who a b holds waits asks = record {
  go = λ reached key w o.
      let off : IsOff number key a.pool = off_held number key a.pool reached o in
      rests_start (body_of key a) (body_of key b) (off_rests number key a b off (holds.hold reached key off) waits (asks key w));
  holds = λ reached key w o away. inl (holds.hold reached key (off_held number key a.pool reached o));
}

same_hold : (number : ℕ) (d e : pools.Pool) → e ≡ d → OffHold number d e
same_hold number d e same = record { hold = λ reached key off. inl (ap (held_at key) same) }

-- the pool is as it was
pub link_off : {A E : Type 0} (r : Result A E) (number : ℕ) (who : Option ℕ) (a b : code.Relay) → b.pool ≡ a.pool → OnOk r ((other : ℕ) → other ≢ number → waits_on other b.links.items ≡ waits_on other a.links.items)
    → OnOk r (AskOn a.applications b.applications) → OnOk r (OffGo number who a b)
link_off (Ok x) number who a b at waits asks = done_off number who a b (same_hold number a.pool b.pool at) waits (λ key w. asks key)
link_off (Err e) number who a b at waits asks = tt

pub asks_more : {A E : Type 0} (r : Result A E) (a b : code.Relay) → OnOk r (AskAsBefore a.applications b.applications) → OnOk r (AskOn a.applications b.applications)
asks_more (Ok x) a b h = asks_on a b h
asks_more (Err e) a b h = tt

-- and the connections are
pub same_off : {A E : Type 0} (r : Result A E) (number : ℕ) (who : Option ℕ) (a b : code.Relay) → b.pool ≡ a.pool → OnOk r (b.links.items ≡ a.links.items) → OnOk r (AskOn a.applications b.applications) → OnOk r (OffGo number who a b)
same_off (Ok x) number who a b at links asks = done_off number who a b (same_hold number a.pool b.pool at) (λ other differs. ap (waits_on other) links) (λ key w. asks key)
same_off (Err e) number who a b at links asks = tt

pub told_off : (number : ℕ) (who : Option ℕ) (a b : code.Relay) → b.pool ≡ a.pool → b.links.items ≡ a.links.items → ((key : ℕ) → who ≢ Some key → AsksAt key a b) → OffGo number who a b
told_off number who a b at links asks = done_off number who a b (same_hold number a.pool b.pool at) (λ other differs. ap (waits_on other) links) asks

-- the pool has lost it
pub lost_off : {A E : Type 0} (r : Result A E) (number : ℕ) (who : Option ℕ) (a b : code.Relay) (d : pools.Pool) → OffHold number a.pool d → b.pool ≡ d → OnOk r ((other : ℕ) → other ≢ number → waits_on other b.links.items ≡ waits_on other a.links.items)
    → OnOk r (AskOn a.applications b.applications) → OnOk r (OffGo number who a b)
lost_off (Ok x) number who a b d holds at waits asks = done_off number who a b (subst (λ (e : pools.Pool). OffHold number a.pool e) (sym at) holds) waits (λ key w. asks key)
lost_off (Err e) number who a b d holds at waits asks = tt

-- and whoever held it stays
pub parted_off : (number : ℕ) (who : Option ℕ) (a t b : code.Relay) (d : pools.Pool) → OffHold number a.pool d → b.pool ≡ d → ((other : ℕ) → other ≢ number → waits_on other b.links.items ≡ waits_on other t.links.items) → t.links.items ≡ a.links.items
    → AskAsBefore a.applications t.applications → AskAsBefore t.applications b.applications → OffGo number who a b
parted_off number who a t b d holds at waits links first then =
    done_off number who a b (subst (λ (e : pools.Pool). OffHold number a.pool e) (sym at) holds) (λ other differs. waits other differs ∙ ap (waits_on other) links) (λ key w goes. inl (then key goes ∙ first key goes))

sends_rests : (number key : ℕ) (a b : code.Relay) → IsReached (pool_in a.pool) → IsOff number key a.pool → SendsOn number a b → AskOn a.applications b.applications → Rests (body_of key a) (body_of key b)
sends_rests number key a b reached off (inl sent) asks = off_rests number key a b off (inl (ap (held_at key) sent.0)) sent.1 (asks key)
sends_rests number key a b reached off (inr all) asks = all.rest key

sends_still : (number key : ℕ) (a b : code.Relay) → SendsOn number a b → HoldsStill key a b
sends_still number key a b (inl sent) = still_at key a b sent.0
sends_still number key a b (inr all) = all.holds key

-- what the pool has to send is sent there
pub sends_off : (number : ℕ) (who : Option ℕ) (a b : code.Relay) → (IsReached (pool_in a.pool) → SendsOn number a b) → AskOn a.applications b.applications → OffGo number who a b
sends_off number who a b sends asks = record {
  go = λ reached key w o. rests_start (body_of key a) (body_of key b) (sends_rests number key a b reached (off_held number key a.pool reached o) (sends reached) asks);
  holds = λ reached key w o away. sends_still number key a b (sends reached);
}

-- whose body stays behind that
pub waits_off : {A E : Type 0} (r : Result A E) (number : ℕ) (who : Option ℕ) (a b c : code.Relay) → OffGo number who a b → ((key : ℕ) → body_of key c ≡ body_of key b) → c.pool.service ≡ b.pool.service
    → OnOk r (c.pool.holds.items ≡ b.pool.holds.items) → OnOk r (OffGo number who a c)
waits_off (Ok x) number who a b c h same service holds = record {
  go = λ reached key w o. subst (λ (x : Body). Starts (body_of key a) x) (sym (same key)) (h.go reached key w o);
  holds = λ reached key w o away. still_rests key a b c (h.holds reached key w o away) (inl (inl (same key))) (inl (held_as key b.pool c.pool holds service));
}
waits_off (Err e) number who a b c h same service holds = tt

-- ---- A packet

sent_by : (l : Option Link) → option_map (λ (s : NamedWaiting). s.1) (option_map sending_of l) ≡ option_map bytes_on l
sent_by None = refl
sent_by (Some l) = refl

pub waits_sent : (other : ℕ) (old new : List Link) → sending_at other new ≡ sending_at other old → waits_on other new ≡ waits_on other old
waits_sent other old new same =
    sym (sent_by (link_at other new)) ∙ ap (option_map (λ (s : NamedWaiting). s.1)) same ∙ sent_by (link_at other old)

-- it is told to whom it comes, and what goes out is sent
pub sent_off : (number : ℕ) (o : Option Heard) (h : Heard) (a t b : code.Relay) → o ≡ Some h → t.pool ≡ a.pool → t.links.items ≡ a.links.items → ends_in t.applications ≡ change_whose h.key (end_told h.what) (ends_in a.applications)
    → ((key : ℕ) → h.key ≢ Some key → AsksAt key a t) → (IsReached (pool_in t.pool) → SendsOn number t b) → AskOn t.applications b.applications → OffGo number (heard_key o) a b
sent_off number o h a t b is at links ends tells sends asks =
    let led : IsReached (pool_in a.pool) → IsReached (pool_in t.pool) = λ reached. subst (λ (d : pools.Pool). IsReached (pool_in d)) (sym at) reached in
    let spares : SparesOthers number h.key (core_in a) (core_in t) = spares_changed number h.key (end_told h.what) (core_in a) (core_in t) (ap pool_in at) ends in
    subst (λ (x : Option Heard). OffGo number (heard_key x) a b) (sym is)
    (off_then number h.key a t b (told_off number h.key a t at links tells) spares led (sends_off number h.key t b sends asks))

-- and something behind that
pub behind_sent : {A E : Type 0} (r : Result A E) (number : ℕ) (o : Option Heard) (h : Heard) (a t b c : code.Relay) → o ≡ Some h → t.pool ≡ a.pool → t.links.items ≡ a.links.items
    → ends_in t.applications ≡ change_whose h.key (end_told h.what) (ends_in a.applications) → ((key : ℕ) → h.key ≢ Some key → AsksAt key a t) → (IsReached (pool_in t.pool) → SendsOn number t b) → AskOn t.applications b.applications
    → LedOn (pool_in t.pool) (pool_in b.pool) → SparesOthers number None (core_in t) (core_in b) → OnOk r (OffGo number (heard_key o) b c) → OnOk r (OffGo number (heard_key o) a c)
behind_sent r number o h a t b c is at links ends tells sends asks goes spares done =
    off_then_on r number (heard_key o) a b c (sent_off number o h a t b is at links ends tells sends asks) (spares_sent number o h a t b is at ends spares)
    (λ reached. put_reached t.pool b.pool b.pool goes refl (subst (λ (d : pools.Pool). IsReached (pool_in d)) (sym at) reached)) done

-- and then something is done for whose it is
pub whose_off : {A E : Type 0} (r : Result A E) (number : ℕ) (o : Option Heard) (h : Heard) (key : ℕ) (a b : code.Relay) → o ≡ Some h → h.key ≡ Some key → OnOk r (OffGo number (Some key) a b) → OnOk r (OffGo number (heard_key o) a b)
whose_off (Ok x) number o h key a b is its k = subst (λ (w : Option ℕ). OffGo number w a b) (sym (ap heard_key is ∙ its)) k
whose_off (Err e) number o h key a b is its k = tt

-- one behind the others
pub one_off : (number : ℕ) (left : List ℕ) (o : Option Heard) (first a b c : code.Relay) (es : EndList) → LedTo (Connection number) (pool_in first.pool) (pool_in a.pool) → OffGo number None first a
    → (IsReached (pool_in first.pool) → SparesOthers number None (core_in first) (core_in a))
    → (HearsNothing o × IsIdle a b) ⊎ IsHeardAs number left o a (machine_with (pool_in b.pool) (told_by o es) (queues_in b.applications)) → LedTo (Connection number) (pool_in a.pool) (pool_in b.pool)
    → OffHold number a.pool b.pool → ((other : ℕ) → sending_at other b.links.items ≡ sending_at other a.links.items) → AskAsBefore a.applications b.applications
    → OffGo number (heard_key o) b c → OffGo number None first c
one_off number left o first a b c es before had spares hears goes holds sends asks done = record {
  go = λ reached key w none.
      let there : IsReached (pool_in a.pool) = reached_on (Connection number) (pool_in first.pool) (pool_in a.pool) before reached in
      let behind : IsReached (pool_in b.pool) = reached_on (Connection number) (pool_in a.pool) (pool_in b.pool) goes there in
      let still : holder (pool_in a.pool) number ≢ Some key = (spares reached key w none).0 in
      let apart : HeardApart number o (pool_in a.pool) (pool_in b.pool) = apart_or number left o a b (machine_with (pool_in b.pool) (told_by o es) (queues_in b.applications)) there hears refl in
      let heard : OffGo number None a b = done_off number None a b holds (λ other differs. waits_sent other a.links.items b.links.items (sends other)) (λ k v. asks_on a b asks k) in
      starts_both (had.go reached key w none)
      (starts_both (heard.go there key w still) (done.go behind key (λ is. still (apart.whose key is)) (λ is. still (apart.fewer number key is))));
  holds = λ reached key w none away.
      let there : IsReached (pool_in a.pool) = reached_on (Connection number) (pool_in first.pool) (pool_in a.pool) before reached in
      let behind : IsReached (pool_in b.pool) = reached_on (Connection number) (pool_in a.pool) (pool_in b.pool) goes there in
      let x = spares reached key w none in
      let apart : HeardApart number o (pool_in a.pool) (pool_in b.pool) = apart_or number left o a b (machine_with (pool_in b.pool) (told_by o es) (queues_in b.applications)) there hears refl in
      let heard : OffGo number None a b = done_off number None a b holds (λ other differs. waits_sent other a.links.items b.links.items (sends other)) (λ k v. asks_on a b asks k) in
      let out : is_in key b.pool.line.items ≡ false = ap (is_in key) apart.line ∙ (x.1 away).0 in
      let its : heard_key o ≢ Some key = λ is. x.0 (apart.whose key is) in
      let off : holder (pool_in b.pool) number ≢ Some key = λ is. x.0 (apart.fewer number key is) in
      still_both key first b c (still_both key first a b (had.holds reached key w none away) (heard.go there key w x.0) (heard.holds there key w x.0 (x.1 away).0)) (done.go behind key its off) (done.holds behind key its off out);
}

-- and those who wait are served
pub served_off : {A E : Type 0} (r : Result A E) (number : ℕ) (a b c : code.Relay) → LedTo (Connection number) (pool_in a.pool) (pool_in b.pool) → OffGo number None a b
    → (IsReached (pool_in a.pool) → SparesOthers number None (core_in a) (core_in b)) → OnOk r (AllGo b c) → (IsReached (pool_in b.pool) → OnOk r (AwayRest b c)) → OnOk r (OffGo number None a c)
served_off (Ok x) number a b c goes h spares k aside = record {
  go = λ reached key w o. starts_both (h.go reached key w o) (k.go (reached_on (Connection number) (pool_in a.pool) (pool_in b.pool) goes reached) key);
  holds = λ reached key w o away.
      let there : IsReached (pool_in b.pool) = reached_on (Connection number) (pool_in a.pool) (pool_in b.pool) goes reached in
      let out : is_in key b.pool.line.items ≡ false = ((spares reached key w o).1 away).0 in
      still_both key a b c (h.holds reached key w o away) (k.go there key) ((aside there).holds key out);
}
served_off (Err e) number a b c goes h spares k aside = tt
