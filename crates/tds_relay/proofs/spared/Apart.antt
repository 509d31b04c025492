-- The ends of others, and the line, behind what is done for one application.
use Rattle.std.proofs.Common.{◌≡◌, ◌≢◌, ◌∙◌, ◌==◌, ◌||◌, ◌++◌, ℕ, suc, Bool, true, false, List, [], ◌∷◌, append_assoc, length, Option, Some, None, refl, sym, ap, subst, option_map}
use Rattle.std.specs.Prelude.{Result, Ok, Err, OnOk}
use Rattle.std.proofs.lemmas.Bool.{eq-eqb}
use Rattle.std.proofs.lemmas.List.{get_or-set_other}
use Rattle.tds_wire.specs.declared.told.Token.{Token}
use Rattle.tds_service.specs.Service as calls
use Rattle.tds_service.specs.Service.{Lent, step}
use Rattle.tds_relay.specs.Apart.{Alone, AloneWho, LendsAfter, LendsInTurn, LosesOnly, UnlessServed}
use Rattle.tds_relay.specs.declared.pool.Hold.{Hold}
use Rattle.tds_relay.specs.declared.pool.Served.{Served}
use Rattle.tds_relay.specs.Pool as pool
use Rattle.tds_relay.specs.Pool.{Pool, Action, holder_does, find_key, leaves, lent_in, serves, serves_by, turn, without}
use Rattle.tds_relay.specs.Core.{End, EndList, Core, change_end, change_whose, closes, end_at, holder, is_in}
use Rattle.tds_relay.specs.Ties.{IsServed, Serving, Turns}

-- ---- One after the other

pub alone_refl : (key : ℕ) (h : Core) → Alone key h h
alone_refl key h = record { ends = λ other differs. refl; line = refl }

pub alone_both : (key : ℕ) (a b c : Core) → Alone key a b → Alone key b c → Alone key a c
alone_both key a b c h k = record { ends = λ other differs. k.ends other differs ∙ h.ends other differs; line = k.line ∙ h.line }

pub alone_on : {A E : Type 0} (r : Result A E) (key : ℕ) (a b c : Core) → OnOk r (Alone key b c) → Alone key a b → OnOk r (Alone key a c)
alone_on (Ok x) key a b c k h = alone_both key a b c h k
alone_on (Err e) key a b c k h = tt

-- ---- What is done

pub set_apart : (es : EndList) (key other : ℕ) (o : Option End) → other ≢ key → end_at (Rattle.std.specs.Prelude.slice_set es key o) other ≡ end_at es other
set_apart es key other o differs = get_or-set_other es key other o None differs

pub alone_changed : (key : ℕ) (by : End → End) (old new : Core) → new.ends ≡ change_end key by old.ends → new.pool.line ≡ old.pool.line → Alone key old new
alone_changed key by old new ends line = record {
  ends = λ other differs. ap (λ (es : EndList). end_at es other) ends ∙ set_apart old.ends key other (option_map by (end_at old.ends key)) differs;
  line = line;
}

pub alone_same : (key : ℕ) (old new : Core) → new.ends ≡ old.ends → new.pool.line ≡ old.pool.line → Alone key old new
alone_same key old new ends line = record { ends = λ other differs. ap (λ (es : EndList). end_at es other) ends; line = line }

pub alone_whose : (key : ℕ) (who : Option ℕ) (old new : Core) → who ≡ Some key → new.ends ≡ change_whose who closes old.ends → new.pool.line ≡ old.pool.line → Alone key old new
alone_whose key who old new is ends line = alone_changed key closes old new (ends ∙ ap (λ (o : Option ℕ). change_whose o closes old.ends) is) line

pub alone_lost : {A E : Type 0} (r : Result A E) (key number : ℕ) (old new : Core) → holder old.pool number ≡ Some key → OnOk r (new.ends ≡ change_whose (holder old.pool number) closes old.ends)
    → OnOk r (new.pool.line ≡ old.pool.line) → OnOk r (Alone key old new)
alone_lost (Ok x) key number old new its ends line = alone_whose key (holder old.pool number) old new its ends line
alone_lost (Err e) key number old new its ends line = tt

line_by : (d : Pool) (action : Action) (o : Option Hold) → (holder_does d action o).pool.line ≡ d.line
line_by d action None = refl
line_by d action (Some hold) = refl

-- what an application does with its connection lets nobody wait, or wait no more
pub line_does : (key : ℕ) (action : Action) (old new : Pool) (before after : List ℕ) → Turns (pool.Does key action) old new before after → new.line ≡ old.line
line_does key action old new before after t = ap (λ (d : Pool). d.line) t.pool_is ∙ line_by old action (find_key key old.holds)

pub line_loses : (number : ℕ) (old new : Pool) (before after : List ℕ) → Turns (pool.Loses number) old new before after → new.line ≡ old.line
line_loses number old new before after t = ap (λ (d : Pool). d.line) t.pool_is

-- ---- Whoever waits is served

or_first : (a b : Bool) → (a || b) ≡ false → a ≡ false
or_first true b e = absurd (let u : ⊥ = cc in u)
or_first false b e = refl

neither : (a b : Bool) → a ≡ false → b ≡ false → (a || b) ≡ false
neither true b e f = absurd (let u : ⊥ = cc in u)
neither false b e f = f

or_second : (a b : Bool) → (a || b) ≡ false → b ≡ false
or_second true b e = absurd (let u : ⊥ = cc in u)
or_second false b e = e

differ : (k key : ℕ) → (k == key) ≡ false → key ≢ k
differ k key e = λ same. (let u : true ≡ false = sym (eq-eqb k key (sym same)) ∙ e in let v : ⊥ = cc in v)

serves_line : (d : Pool) (k : ℕ) (others : List ℕ) (lease number : ℕ) (had : Bool) → d.line ≡ k ∷ others → (step {T = Token} d.service calls.Lease).reply ≡ Lent lease number had → (turn d pool.Serves).pool.line ≡ others
serves_line d k others lease number had line lent =
    ap (λ (ks : List ℕ). (serves d ks).pool.line) line ∙ ap (λ (r : calls.Reply). (serves_by d k others (lent_in r)).pool.line) lent

-- one fewer waits
pub served_shorter : (d m : Pool) (o : Option Served) (served : Served) (before after : List ℕ) → Serving d o → o ≡ Some served → Turns pool.Serves d m before after → suc (length m.line) ≡ length d.line
served_shorter d m o served before after s is t =
    let lent = subst (Serving d) is s in
    ap (λ (x : Pool). suc (length x.line)) t.pool_is
    ∙ ap (λ (ks : List ℕ). suc (length ks)) (serves_line d served.hold.key lent.0 served.hold.lease served.hold.number served.had lent.1 lent.2)
    ∙ sym (ap (λ (ks : List ℕ). length ks) lent.1)

-- the first one is served, and the others wait
record IsNotServed (key : ℕ) (served : Served) (d1 : Pool) : Type 0 where
  other : key ≢ served.hold.key
  waits_not : is_in key d1.line ≡ false

not_served : (key : ℕ) (d d1 : Pool) (served : Served) (before after : List ℕ) → Serving d (Some served) → Turns pool.Serves d d1 before after → is_in key d.line ≡ false → IsNotServed key served d1
not_served key d d1 served before after s t e =
    let k = served.hold.key in
    let both : ((k == key) || is_in key s.0) ≡ false = ap (is_in key) (sym s.1) ∙ e in
    record {
      other = differ k key (or_first (k == key) (is_in key s.0) both);
      waits_not = ap (λ (x : Pool). is_in key x.line) t.pool_is ∙ ap (is_in key) (serves_line d k s.0 served.hold.lease served.hold.number served.had s.1 s.2) ∙ or_second (k == key) (is_in key s.0) both;
    }

-- Whoever didn't wait doesn't, and its end is as it was.
pub record Unserved (old new : Core) : Type 0 where
  pub was : (key : ℕ) → is_in key old.pool.line ≡ false → (is_in key new.pool.line ≡ false) × (end_at new.ends key ≡ end_at old.ends key)

pub unserved_refl : (h : Core) → Unserved h h
unserved_refl h = record { was = λ key e. (e, refl) }

pub unserved_on : (a b m c : Core) (o : Option Served) (served : Served) (before after : List ℕ) → Unserved a b → Serving b.pool o → o ≡ Some served → Turns pool.Serves b.pool m.pool before after → m.ends ≡ b.ends → Alone served.hold.key m c → Unserved a c
unserved_on a b m c o served before after h s is t ends alone = record {
  was = λ key e.
      let x = h.was key e in
      let n = not_served key b.pool m.pool served before after (subst (Serving b.pool) is s) t x.0 in (
        ap (is_in key) alone.line ∙ n.waits_not,
        alone.ends key n.other ∙ ap (λ (es : EndList). end_at es key) ends ∙ x.1,
      );
}

-- ---- One is lost

whose_apart : (es : EndList) (who : Option ℕ) (key : ℕ) → who ≢ Some key → end_at (change_whose who closes es) key ≡ end_at es key
whose_apart es None key differs = refl
whose_apart es (Some k) key differs = set_apart es k key (option_map closes (end_at es k)) (λ same. differs (ap (λ (n : ℕ). Some n) (sym same)))

pub loses_only : {A E : Type 0} (r : Result A E) (number : ℕ) (old mid new : Core) → mid.ends ≡ change_whose (holder old.pool number) closes old.ends → mid.pool.line ≡ old.pool.line → OnOk r (UnlessServed mid new) → OnOk r (LosesOnly number old new)
loses_only (Ok x) number old mid new ends line served = λ key apart e.
    served key (ap (is_in key) line ∙ e) ∙ ap (λ (es : EndList). end_at es key) ends ∙ whose_apart old.ends (holder old.pool number) key apart
loses_only (Err e) number old mid new ends line served = tt

-- ---- The first of them

in_first : (key : ℕ) (xs ys : List ℕ) → is_in key (xs ++ ys) ≡ false → is_in key xs ≡ false
in_first key [] ys e = refl
in_first key (x ∷ xs) ys e = neither (x == key) (is_in key xs) (or_first (x == key) (is_in key (xs ++ ys)) e) (in_first key xs ys (or_second (x == key) (is_in key (xs ++ ys)) e))

in_second : (key : ℕ) (xs ys : List ℕ) → is_in key (xs ++ ys) ≡ false → is_in key ys ≡ false
in_second key [] ys e = e
in_second key (x ∷ xs) ys e = in_second key xs ys (or_second (x == key) (is_in key (xs ++ ys)) e)

pub lends_none : (h : Core) → LendsInTurn h.pool.line h.ends h
lends_none h = record { lent = []; are = refl; apart = λ key e. refl }

-- one more
pub lends_on : (line : List ℕ) (ends : EndList) (b m c : Core) (o : Option Served) (served : Served) (before after : List ℕ) → LendsInTurn line ends b → Serving b.pool o → o ≡ Some served → Turns pool.Serves b.pool m.pool before after → m.ends ≡ b.ends
    → Alone served.hold.key m c → LendsInTurn line ends c
lends_on line ends b m c o served before after h s is t same alone =
    let k = served.hold.key in
    let lent = subst (Serving b.pool) is s in
    let left : c.pool.line ≡ lent.0 = alone.line ∙ ap (λ (x : Pool). x.line) t.pool_is ∙ serves_line b.pool k lent.0 served.hold.lease served.hold.number served.had lent.1 lent.2 in
    record {
      lent = h.lent ++ k ∷ [];
      are = h.are ∙ ap (λ (ks : List ℕ). h.lent ++ ks) lent.1 ∙ sym (append_assoc h.lent (k ∷ []) lent.0) ∙ ap (λ (ks : List ℕ). (h.lent ++ k ∷ []) ++ ks) (sym left);
      apart = λ key e.
          alone.ends key (differ k key (or_first (k == key) false (in_second key h.lent (k ∷ []) e))) ∙ ap (λ (es : EndList). end_at es key) same ∙ h.apart key (in_first key h.lent (k ∷ []) e);
    }

rests_line : (d : Pool) (ks : List ℕ) → IsServed ks d.service → (serves d ks).pool.line ≡ d.line
rests_line d [] s = refl
rests_line d (k ∷ ks) s = ap (λ (r : calls.Reply). (serves_by d k ks (lent_in r)).pool.line) s

-- where nobody is lent one
pub lends_nobody : (line : List ℕ) (ends : EndList) (b c : Core) (o : Option Served) (before after : List ℕ) → LendsInTurn line ends b → Serving b.pool o → o ≡ None → Turns pool.Serves b.pool c.pool before after → c.ends ≡ b.ends → LendsInTurn line ends c
lends_nobody line ends b c o before after h s is t same =
    let rests : c.pool.line ≡ b.pool.line = ap (λ (x : Pool). x.line) t.pool_is ∙ rests_line b.pool b.pool.line (subst (Serving b.pool) is s) in
    record {
      lent = h.lent;
      are = h.are ∙ ap (λ (ks : List ℕ). h.lent ++ ks) (sym rests);
      apart = λ key e. ap (λ (es : EndList). end_at es key) same ∙ h.apart key e;
    }

pub lends_from : {A E : Type 0} (r : Result A E) (line line1 : List ℕ) (ends ends1 : EndList) (c : Core) → line1 ≡ line → ends1 ≡ ends → OnOk r (LendsInTurn line1 ends1 c) → OnOk r (LendsInTurn line ends c)
lends_from r line line1 ends ends1 c lines same h = subst (λ (es : EndList). OnOk r (LendsInTurn line es c)) same (subst (λ (ks : List ℕ). OnOk r (LendsInTurn ks ends1 c)) lines h)

pub lends_at : (line line1 : List ℕ) (ends ends1 : EndList) (c : Core) → line1 ≡ line → ends1 ≡ ends → LendsInTurn line1 ends1 c → LendsInTurn line ends c
lends_at line line1 ends ends1 c lines same h = subst (λ (es : EndList). LendsInTurn line es c) same (subst (λ (ks : List ℕ). LendsInTurn ks ends1 c) lines h)

-- what is done for who holds a connection
pub who_alone : {A E : Type 0} (r : Result A E) (key : ℕ) (who : Option ℕ) (a b : Core) → who ≡ Some key → OnOk r (Alone key a b) → OnOk r (AloneWho who a b)
who_alone (Ok x) key who a b is h = record { ends = λ other w. h.ends other (λ same. w (is ∙ ap (λ (n : ℕ). Some n) (sym same))); line = h.line }
who_alone (Err e) key who a b is h = tt

pub none_alone : (who : Option ℕ) (h : Core) → AloneWho who h h
none_alone who h = record { ends = λ other w. refl; line = refl }

pub lends_after : {A E : Type 0} (r : Result A E) (number : ℕ) (a m b c : Core) → m.pool ≡ a.pool → m.ends ≡ a.ends → AloneWho (holder m.pool number) m b → OnOk r (LendsInTurn b.pool.line b.ends c) → OnOk r (LendsAfter (holder a.pool number) a c)
lends_after (Ok x) number a m b c same ends h k = record {
  ends = b.ends;
  others = λ key w. h.ends key (λ e. w (ap (λ (d : Pool). holder d number) (sym same) ∙ e)) ∙ ap (λ (es : EndList). end_at es key) ends;
  lends = lends_at a.pool.line b.pool.line b.ends b.ends c (h.line ∙ ap (λ (d : Pool). d.line) same) refl k;
}
lends_after (Err e) number a m b c same ends h k = tt

left_line : (d : Pool) (key : ℕ) (gives : Bool) (way : pool.Way) (o : Option Hold) → (leaves d key gives way o).pool.line ≡ without key d.line
left_line d key gives way None = refl
left_line d key gives way (Some hold) = refl

pub line_leaves : (key : ℕ) (gives : Bool) (way : pool.Way) (old new : Pool) (before after : List ℕ) → Turns (pool.Leaves key gives way) old new before after → new.line ≡ without key old.line
line_leaves key gives way old new before after t = ap (λ (d : Pool). d.line) t.pool_is ∙ left_line old key gives way (find_key key old.holds)
