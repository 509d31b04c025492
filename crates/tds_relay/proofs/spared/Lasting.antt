-- Connections that are there still, call behind call.
use Rattle.std.proofs.Common.{◌≡◌, ◌≢◌, ◌⊎◌, ◌∙◌, ℕ, List, [], ◌∷◌, ◌++◌, Option, Some, None, inl, inr, refl, sym, ap, subst, option_map}
use Rattle.std.specs.Prelude.{Result, Ok, Err, OnOk}
use Rattle.std.proofs.lemmas.Bool.{cases_eq}
use Rattle.tds_relay.specs.declared.link.Link.{Link}
use Rattle.tds_relay.specs.declared.relay.Relay as code
use Rattle.tds_relay.specs.Closings.{ClosesOnly, Itself, Register, name_with, open_name, register_in}
use Rattle.tds_relay.specs.Fronts.{ends_in}
use Rattle.tds_relay.specs.Core.{End, Open, Over, end_at}
use Rattle.tds_relay.specs.Lent.{AllLast, AllLastBut, LastBesides, LastBut, LastOrDeaf}
use Rattle.tds_relay.specs.Reads.{bytes_on, link_at, waits_on}
use Rattle.tds_relay.specs.Taking.{IsDeaf}
use Rattle.tds_relay.specs.Ties.{IsNumberOf}
use Rattle.tds_relay.specs.declared.pool.Hold.{Hold}
use Rattle.tds_relay.specs.declared.pool.leaving.Left.{Left}
use Rattle.tds_relay.proofs.spared.Closings.{closes_more}
use Rattle.tds_relay.proofs.spared.Sending.{Comes, Pushed, Same, pushed}

pub last_refl : (a : List Link) → AllLast a a
last_refl a = λ number e. e

pub last_all : (a b c : List Link) → AllLast a b → AllLast b c → AllLast a c
last_all a b c h k = λ number e. h number (k number e)

pub last_same : (a b : List Link) → ((number : ℕ) → waits_on number b ≡ waits_on number a) → AllLast a b
last_same a b same = λ number e. sym (same number) ∙ e

pub last_links : (a b : List Link) → b ≡ a → AllLast a b
last_links a b same = last_same a b (λ number. ap (waits_on number) same)

-- something is put on one
none_behind : (out : List ℕ) (o : Option (List ℕ)) → option_map (λ (waits : List ℕ). waits ++ out) o ≡ None → o ≡ None
none_behind out None e = refl
none_behind out (Some x) e = absurd (let u : None ≡ Some (x ++ out) = sym e in let v : ⊥ = cc in v)

put_there : (number other : ℕ) (out : List ℕ) (a b : List Link) → ((n : ℕ) → n ≢ number → waits_on n b ≡ waits_on n a) → waits_on number b ≡ option_map (λ (waits : List ℕ). waits ++ out) (waits_on number a)
    → (other ≡ number) ⊎ (other ≢ number) → waits_on other b ≡ None → waits_on other a ≡ None
put_there number other out a b others waits (inl same) e =
    subst (λ (n : ℕ). waits_on n a ≡ None) (sym same) (none_behind out (waits_on number a) (sym waits ∙ subst (λ (n : ℕ). waits_on n b ≡ None) same e))
put_there number other out a b others waits (inr differs) e = sym (others other differs) ∙ e

pub last_put : (number : ℕ) (out : List ℕ) (a b c : List Link) → ((n : ℕ) → n ≢ number → waits_on n b ≡ waits_on n a) → waits_on number b ≡ option_map (λ (waits : List ℕ). waits ++ out) (waits_on number a) → c ≡ b → AllLast a c
last_put number out a b c others waits same = λ other e. put_there number other out a b others waits (cases_eq other number) (ap (waits_on other) (sym same) ∙ e)

unfit_there : (number other : ℕ) (a b : List Link) → ((n : ℕ) → n ≢ number → waits_on n b ≡ waits_on n a) → waits_on number b ≡ waits_on number a → (other ≡ number) ⊎ (other ≢ number) → waits_on other b ≡ waits_on other a
unfit_there number other a b others same (inl is) = subst (λ (n : ℕ). waits_on n b ≡ waits_on n a) (sym is) same
unfit_there number other a b others same (inr differs) = others other differs

pub last_unfit : (number : ℕ) (a b : List Link) → ((n : ℕ) → n ≢ number → waits_on n b ≡ waits_on n a) → waits_on number b ≡ waits_on number a → AllLast a b
last_unfit number a b others same = last_same a b (λ other. unfit_there number other a b others same (cases_eq other number))

-- one comes behind the others
pushed_none : (l : Link) (o p : Option Link) → Pushed l o p → option_map bytes_on p ≡ None → option_map bytes_on o ≡ None
pushed_none l o p Same e = e
pushed_none l o p Comes e = refl

pub last_pushed : (l : Link) (a b : List Link) → b ≡ a ++ l ∷ [] → AllLast a b
last_pushed l a b are = λ number e. pushed_none l (link_at number a) (link_at number (a ++ l ∷ [])) (pushed a l number) (ap (waits_on number) (sym are) ∙ e)

-- ---- Who is closed

deaf_named : (e : Option End) (n : Option (Option ℕ)) → IsDeaf e → name_with e n ≡ None
deaf_named None n d = refl
deaf_named (Some (Over why)) n d = refl
deaf_named (Some (Open front withdrawn asks)) n d = absurd d

pub deaf_name : (key : ℕ) (r : Register) → IsDeaf (end_at r.ends key) → open_name key r ≡ None
deaf_name key r d = deaf_named (end_at r.ends key) _ d

pub closed_now : (key tag : ℕ) (a b : Register) → open_name key a ≡ Some tag → IsDeaf (end_at b.ends key) → LastBut (Itself key) a b
closed_now key tag a b was d = inr (record { key = key; may = refl; tag = tag; was = was; closed = deaf_name key b d })

deaf_or : (key tag : ℕ) (a b : Register) → open_name key a ≡ Some tag → AllLast a.links b.links ⊎ IsDeaf (end_at b.ends key) → LastBut (Itself key) a b
deaf_or key tag a b was (inl all) = inl all
deaf_or key tag a b was (inr d) = closed_now key tag a b was d

pub last_named : {A E : Type 0} (r : Result A E) (key tag : ℕ) (a : Register) (new : code.Relay) → open_name key a ≡ Some tag → OnOk r (LastOrDeaf key a.links new) → OnOk r (LastBut (Itself key) a (register_in new))
last_named (Ok x) key tag a new was h = deaf_or key tag a (register_in new) was h
last_named (Err e) key tag a new was h = tt

pub last_closed : {A E : Type 0} (r : Result A E) (key tag : ℕ) (a b : Register) → open_name key a ≡ Some tag → OnOk r (IsDeaf (end_at b.ends key)) → OnOk r (LastBut (Itself key) a b)
last_closed (Ok x) key tag a b was d = closed_now key tag a b was d
last_closed (Err e) key tag a b was d = tt

-- ---- One behind the other

none_by : (o p : Option ℕ) → ((tag : ℕ) → p ≡ Some tag → o ≡ Some tag) → o ≡ None → p ≡ None
none_by o None were e = refl
none_by o (Some tag) were e =
    let is : o ≡ Some tag = were tag refl in
    absurd (let u : None ≡ Some tag = sym e ∙ is in let v : ⊥ = cc in v)

pub last_both : (May : ℕ → Type 0) (a b c : Register) → ClosesOnly May a b → ClosesOnly May b c → LastBut May a b → LastBut May b c → LastBut May a c
last_both May a b c h k (inl x) (inl y) = inl (last_all a.links b.links c.links x y)
last_both May a b c h k (inr x) y = inr (record { key = x.key; may = x.may; tag = x.tag; was = x.was; closed = none_by (open_name x.key b) (open_name x.key c) (k.were_open x.key) x.closed })
last_both May a b c h k (inl x) (inr y) = inr (record { key = y.key; may = y.may; tag = y.tag; was = h.were_open y.key y.tag y.was; closed = y.closed })

pub last_more : (May More : ℕ → Type 0) (a b : Register) → ((key : ℕ) → May key → More key) → LastBut May a b → LastBut More a b
last_more May More a b f (inl all) = inl all
last_more May More a b f (inr x) = inr (record { key = x.key; may = f x.key x.may; tag = x.tag; was = x.was; closed = x.closed })

-- a message begins on one before
last_first : (May : ℕ → Type 0) (a b c : Register) → ClosesOnly May a b → AllLast a.links b.links → LastBut May b c → LastBut May a c
last_first May a b c h x (inl y) = inl (last_all a.links b.links c.links x y)
last_first May a b c h x (inr y) = inr (record { key = y.key; may = y.may; tag = y.tag; was = h.were_open y.key y.tag y.was; closed = y.closed })

pub last_first_on : {A E : Type 0} (r : Result A E) (May : ℕ → Type 0) (a b c : Register) → ClosesOnly May a b → AllLast a.links b.links → OnOk r (LastBut May b c) → OnOk r (LastBut May a c)
last_first_on (Ok x) May a b c h all k = last_first May a b c h all k
last_first_on (Err e) May a b c h all k = tt

-- where connections are as they were
pub last_start : (May : ℕ → Type 0) (r : Register) → LastBut May r r
last_start May r = inl (last_refl r.links)

pub same_but : {A E : Type 0} (r : Result A E) (May : ℕ → Type 0) (a b : Register) → OnOk r (b.links ≡ a.links) → OnOk r (LastBut May a b)
same_but (Ok x) May a b same = inl (last_links a.links b.links same)
same_but (Err e) May a b same = tt

-- ---- As the code has it

pub deaf_last : {A E : Type 0} (r : Result A E) (key : ℕ) (a : List Link) (new : code.Relay) → OnOk r (IsDeaf (end_at (ends_in new.applications) key)) → OnOk r (LastOrDeaf key a new)
deaf_last (Ok x) key a new d = inr d
deaf_last (Err e) key a new d = tt

pub same_last : {A E : Type 0} (r : Result A E) (key : ℕ) (a : List Link) (new : code.Relay) → OnOk r (new.links.items ≡ a) → OnOk r (LastOrDeaf key a new)
same_last (Ok x) key a new same = inl (last_links a new.links.items same)
same_last (Err e) key a new same = tt

-- ---- But for these

pub but_refl : (But : ℕ → Type 0) (a : List Link) → AllLastBut But a a
but_refl But a = λ number e. inl e

pub but_same : (But : ℕ → Type 0) (a b : List Link) → b ≡ a → AllLastBut But a b
but_same But a b same = λ number e. inl (sym (ap (waits_on number) same) ∙ e)

other_by : (number other : ℕ) (a b : List Link) → ((n : ℕ) → n ≢ number → waits_on n b ≡ waits_on n a) → (other ≡ number) ⊎ (other ≢ number) → waits_on other b ≡ None → (waits_on other a ≡ None) ⊎ (other ≡ number)
other_by number other a b others (inl same) e = inr same
other_by number other a b others (inr differs) e = inl (sym (others other differs) ∙ e)

-- all others than this one are as they were
pub but_others : (number : ℕ) (a b : List Link) → ((n : ℕ) → n ≢ number → waits_on n b ≡ waits_on n a) → AllLastBut (λ (n : ℕ). n ≡ number) a b
but_others number a b others = λ other e. other_by number other a b others (cases_eq other number) e

but_by : (But More : ℕ → Type 0) (n : ℕ) (P : Type 0) → (But n → More n) → P ⊎ But n → P ⊎ More n
but_by But More n P f (inl h) = inl h
but_by But More n P f (inr h) = inr (f h)

pub but_more : (But More : ℕ → Type 0) (a b : List Link) → ((n : ℕ) → But n → More n) → AllLastBut But a b → AllLastBut More a b
but_more But More a b f h = λ number e. but_by But More number (waits_on number a ≡ None) (f number) (h number e)

-- of the one that was held
pub held_but : {A E : Type 0} (r : Result A E) (o : Option ℕ) (number : ℕ) (a b c : List Link) → o ≡ Some number → b ≡ a → OnOk r ((n : ℕ) → n ≢ number → waits_on n c ≡ waits_on n b) → OnOk r (AllLastBut (λ (n : ℕ). o ≡ Some n) a c)
held_but (Ok x) o number a b c is same others =
    but_more (λ (n : ℕ). n ≡ number) (λ (n : ℕ). o ≡ Some n) a c (λ n e. is ∙ ap (λ (k : ℕ). Some k) (sym e))
    (but_others number a c (λ n differs. others n differs ∙ ap (waits_on n) same))
held_but (Err e) o number a b c is same others = tt

pub held_number : (o : Option Hold) (left : Left) → IsNumberOf o (Some left) → option_map (λ (h : Hold). h.number) o ≡ Some left.number
held_number None left is = absurd is
held_number (Some h) left is = ap (λ (n : ℕ). Some n) (sym is)

-- and then those who wait are served
pub besides : (But May : ℕ → Type 0) (Closes : ℕ → Type 0) (a b c : Register) → ClosesOnly Closes a b → AllLastBut But a.links b.links → LastBut May b c → LastBesides But May a c
besides But May Closes a b c h first (inl all) = inl (λ number e. first number (all number e))
besides But May Closes a b c h first (inr y) = inr (record { key = y.key; may = y.may; tag = y.tag; was = h.were_open y.key y.tag y.was; closed = y.closed })

pub besides_on : {A E : Type 0} (r : Result A E) (But May More Closes : ℕ → Type 0) (a b c : Register) → ((key : ℕ) → More key → May key) → ClosesOnly Closes a b → AllLastBut But a.links b.links → OnOk r (LastBut More b c) → OnOk r (LastBesides But May a c)
besides_on (Ok x) But May More Closes a b c f h first k = besides But May Closes a b c h first (last_more More May b c f k)
besides_on (Err e) But May More Closes a b c f h first k = tt

-- ---- What opens goes on, and those who wait are served

pub last_then : {A E : Type 0} (r : Result A E) (May More : ℕ → Type 0) (a b c : Register) → ClosesOnly May a b → LastBut May a b → ((key : ℕ) → More key → May key) → OnOk r (ClosesOnly More b c) → OnOk r (LastBut More b c) → OnOk r (LastBut May a c)
last_then (Ok x) May More a b c h first f k then = last_both May a b c h (closes_more More May b c f k) first (last_more More May b c f then)
last_then (Err e) May More a b c h first f k then = tt

pub last_from : (May More Closes : ℕ → Type 0) (a b c : Register) → ClosesOnly Closes a b → AllLast a.links b.links → ((key : ℕ) → More key → May key) → LastBut More b c → LastBut May a c
last_from May More Closes a b c h first f (inl all) = inl (last_all a.links b.links c.links first all)
last_from May More Closes a b c h first f (inr y) = inr (record { key = y.key; may = f y.key y.may; tag = y.tag; was = h.were_open y.key y.tag y.was; closed = y.closed })

pub last_more_on : {A E : Type 0} (r : Result A E) (May More : ℕ → Type 0) (a b : Register) → ((key : ℕ) → May key → More key) → OnOk r (LastBut May a b) → OnOk r (LastBut More a b)
last_more_on (Ok x) May More a b f h = last_more May More a b f h
last_more_on (Err e) May More a b f h = tt
