-- How many connections there may be.
use Rattle.std.proofs.Common.{◌≡◌, ◌∙◌, ◌+◌, ◌≤◌, ℕ, arith, suc, Bool, true, false, List, [], ◌∷◌, ◌++◌, Option, Some, None, length, is_some, refl, sym, ap, subst, inl, inr, option_map}
use Rattle.std.specs.Prelude.{Result, Ok, Err, OnOk}
use Rattle.tds_wire.specs.declared.told.Token.{Token}
use Rattle.tds_service.specs.Service as calls
use Rattle.tds_service.specs.Service.{Seat, find_by, is_lendable, step}
use Rattle.tds_relay.specs.declared.pool.Served.{Served}
use Rattle.tds_relay.specs.declared.link.Link.{Link}
use Rattle.tds_relay.specs.Closings.{KeptBeside}
use Rattle.tds_relay.specs.Pool.{Pool}
use Rattle.tds_relay.specs.Few.{Few, FewBy, MayServe, NobodyWaits, NoneNew}
use Rattle.tds_relay.specs.Reads.{FillsAt, LinksStay, bytes_on, link_at, waits_on}
use Rattle.tds_relay.specs.Sending.{sending_at, sending_of}
use Rattle.tds_relay.specs.Ties.{IsServed, Serving}
use Rattle.tds_service.specs.Table.{service_in}
use Rattle.tds_relay.specs.declared.relay.Relay as code

-- ---- None is there that wasn't

by_fills : (o p : Option (List ℕ)) → FillsAt o p → o ≡ None → p ≡ None
by_fills o None h e = refl
by_fills None (Some x) h e = absurd h
by_fills (Some y) (Some x) h e = absurd (let u : None ≡ Some y = sym e in let v : ⊥ = cc in v)

pub none_stays : (a b : List Link) → LinksStay a b → NoneNew a b
none_stays a b s = λ number e. by_fills (waits_on number a) (waits_on number b) (s.fills number) e

pub none_refl : (a : List Link) → NoneNew a a
none_refl a = λ number e. e

pub none_both : (a b c : List Link) → NoneNew a b → NoneNew b c → NoneNew a c
none_both a b c h k = λ number e. k number (h number e)

pub none_same : (a b : List Link) → ((number : ℕ) → waits_on number b ≡ waits_on number a) → NoneNew a b
none_same a b same = λ number e. same number ∙ e

-- where what is to be sent is the same on each
none_link : (o : Option Link) → option_map bytes_on o ≡ None → option_map sending_of o ≡ None
none_link None e = refl
none_link (Some l) e = absurd (let u : None ≡ Some (bytes_on l) = sym e in let v : ⊥ = cc in v)

none_sending : (o : Option Link) → option_map sending_of o ≡ None → option_map bytes_on o ≡ None
none_sending None e = refl
none_sending (Some l) e = absurd (let u : None ≡ Some (sending_of l) = sym e in let v : ⊥ = cc in v)

pub none_heard : (a b : List Link) → ((number : ℕ) → sending_at number b ≡ sending_at number a) → NoneNew a b
none_heard a b same = λ number e. none_sending (link_at number b) (same number ∙ none_link (link_at number a) e)

pub none_on : {A E : Type 0} (r : Result A E) (a b c : List Link) → NoneNew a b → OnOk r (LinksStay b c) → OnOk r (NoneNew a c)
none_on (Ok x) a b c h s = none_both a b c h (none_stays b c s)
none_on (Err e) a b c h s = tt

-- ---- Those who wait are served

pub few_then : (most : ℕ) (a b c : List Link) → Few most a b → NoneNew b c → Few most a c
few_then most a b c (inl none) k = inl (none_both a b c none k)
few_then most a b c (inr (then, few, none)) k = inr (then, few, none_both then b c none k)

pub few_behind : {A E : Type 0} (r : Result A E) (m n : ℕ) (a b c : List Link) → m ≡ n → NoneNew a b → OnOk r (Few m b c) → OnOk r (Few n a c)
few_behind (Ok x) m n a b c e h (inl none) = inl (none_both a b c h none)
few_behind (Ok x) m n a b c e h (inr (then, few, none)) = inr (then, subst (λ (k : ℕ). length then ≤ k) e few, none)
few_behind (Err x) m n a b c e h k = tt

-- One is new only where fewer were there than may be.
abbrev had_in : calls.Reply → Bool
had_in calls.Unknown = true
had_in calls.AllInUse = true
had_in calls.NotNow = true
had_in (calls.No why) = true
had_in calls.NoMemory = true
had_in (calls.Lent lease number had) = had
had_in (calls.Ticket ticket) = true
had_in calls.Did = true
had_in (calls.Back place) = true

lends_free : (s : calls.Service) (o : Option Seat) → is_some o ≡ true → had_in (calls.lends {T = Token} s o).reply ≡ true
lends_free s None e = absurd (let u : ⊥ = cc in u)
lends_free s (Some c) e = refl

few_new : (most : ℕ) (had : Bool) (a b c : List Link) (d : Pool) (served : Served) → MayServe most b d → Serving d (Some served) → served.had ≡ had → FewBy had b c → Few most a b → Few most a c
few_new most true a b c d served may lent is none few = few_then most a b c few none
few_new most false a b c d served (inl empty) lent is one few = absurd (let u : [] ≡ served.hold.key ∷ lent.0 = sym empty ∙ lent.1 in let v : ⊥ = cc in v)
few_new most false a b c d served (inr (inl less)) lent is one few = inr (c, subst (λ (n : ℕ). n ≤ most) (sym one) less, λ number e. e)
few_new most false a b c d served (inr (inr free)) lent is one few =
    absurd (
    let had : served.had ≡ true = sym (ap had_in lent.2) ∙ lends_free d.service (find_by is_lendable d.service.seats) free in
    let u : false ≡ true = sym is ∙ had in
    let v : ⊥ = cc in
    v
    )

pub few_lent : (m n : ℕ) (a b c : List Link) (d : Pool) (o : Option Served) (served : Served) → m ≡ n → MayServe m b d → Serving d o → o ≡ Some served → FewBy served.had b c → Few n a b → Few n a c
few_lent m n a b c d o served e may lent is by few = few_new n served.had a b c d served (subst (λ (k : ℕ). MayServe k b d) e may) (subst (Serving d) is lent) refl by few

-- a connection that somebody had before, or a new one behind all others
pub few_again : {A E : Type 0} (r : Result A E) (had : Bool) (a b c : List Link) → had ≡ true → NoneNew a b → OnOk r (LinksStay b c) → OnOk r (FewBy had a c)
few_again (Ok x) had a b c e h s = subst (λ (t : Bool). FewBy t a c) (sym e) (none_both a b c h (none_stays b c s))
few_again (Err x) had a b c e h s = tt

longer : (l : Link) (a : List Link) → length (a ++ l ∷ []) ≡ suc (length a)
longer l [] = refl
longer l (x ∷ xs) = ap suc (longer l xs)

pub few_pushed : (had : Bool) (l : Link) (a c : List Link) → had ≡ false → c ≡ a ++ l ∷ [] → FewBy had a c
few_pushed had l a c e is = subst (λ (t : Bool). FewBy t a c) (sym e) (ap length is ∙ longer l a)

-- as many have been served as waited
none_waits : (line : List ℕ) (s : calls.Service) → length line ≡ 0 → IsServed line s
none_waits [] s e = tt
none_waits (key ∷ keys) s e = absurd (let u : ⊥ = cc in u)

pub all_served : (r : code.Relay) (turn n : ℕ) → turn + length r.pool.line.items ≡ n → n ≤ turn → NobodyWaits r
all_served r turn n shorter done = inl (none_waits r.pool.line.items (service_in r.pool.service) (omega (arith, shorter, done)))

-- how many there may be, as it was
pub most_kept : (k l : KeptBeside) → k ≡ l → k.settings.most ≡ l.settings.most
most_kept k l e = ap (λ (x : KeptBeside). x.settings.most) e
