-- What is counted of connections that are cleaned, and closed instead, as something comes on one.
use Rattle.std.proofs.Common.{◌≡◌, ◌⊎◌, ◌∙◌, ℕ, true, List, Option, Some, None, inl, inr, refl, sym, ap, subst, option_map}
use Rattle.std.specs.Prelude.{IsSome, Result, Ok, Err, OnOk}
use Rattle.tds_relay.specs.declared.pool.coming.Heard.{Heard}
use Rattle.tds_relay.specs.declared.pool.coming.What.{What}
use Rattle.tds_relay.specs.declared.pool.coming.What.TheVariants as whats
use Rattle.tds_relay.specs.declared.link.Link.{Link}
use Rattle.tds_relay.specs.declared.relay.Relay as code
use Rattle.tds_relay.specs.Cleaning.{CountsGone, CountsHeard, CountsLost, CountsWhat, cleaned_in}
use Rattle.tds_relay.specs.Pool.{next}
use Rattle.tds_relay.specs.Few.{is_left}
use Rattle.tds_relay.specs.Machine.{Machine}
use Rattle.tds_relay.specs.Reads.{Opens, LinksStay, StaysAt, link_at, open_at, reader_at, reader_of, seen_at, seen_of}
use Rattle.tds_relay.specs.Sending.{sending_at, sending_of}
use Rattle.tds_relay.specs.Reasons.{HearsNothing, IsHeardAs, IsIdle}
use Rattle.tds_relay.proofs.steps.Staying.{at_refl, gone_open}

-- ---- What was heard of a packet

what_left : (w : What) (key : Option ℕ) (number : ℕ) (a b : code.Relay) → is_left w ≡ true → cleaned_in b ≡ cleaned_in a → CountsWhat w key number a b
what_left whats.Goes key number a b left same = same
what_left whats.Finished key number a b left same = same
what_left whats.Acknowledged key number a b left same = same
what_left whats.Closed key number a b left same = absurd (let u : ⊥ = cc in u)

-- its connection stays
pub counts_left : (o : Option Heard) (h : Heard) (number : ℕ) (a b : code.Relay) → o ≡ Some h → is_left h.what ≡ true → cleaned_in b ≡ cleaned_in a → CountsHeard number o a b
counts_left o h number a b is left same = subst (λ (x : Option Heard). CountsHeard number x a b) (sym is) (what_left h.what h.key number a b left same)

what_held : (w : What) (o : Option ℕ) (number : ℕ) (a b : code.Relay) → IsSome o → cleaned_in b ≡ cleaned_in a → CountsWhat w o number a b
what_held whats.Goes o number a b its same = same
what_held whats.Finished o number a b its same = same
what_held whats.Acknowledged o number a b its same = same
what_held whats.Closed (Some key) number a b its same = same
what_held whats.Closed None number a b its same = absurd (let u : ⊥ = cc in u)

-- it is somebody's
pub counts_held : (o : Option Heard) (h : Heard) (number : ℕ) (a b : code.Relay) → o ≡ Some h → IsSome h.key → cleaned_in b ≡ cleaned_in a → CountsHeard number o a b
counts_held o h number a b is its same = subst (λ (x : Option Heard). CountsHeard number x a b) (sym is) (what_held h.what h.key number a b its same)

pub counts_nothing : (o : Option Heard) (number : ℕ) (a b : code.Relay) → o ≡ None → cleaned_in b ≡ cleaned_in a → CountsHeard number o a b
counts_nothing o number a b is same = subst (λ (x : Option Heard). CountsHeard number x a b) (sym is) same

what_free : (w : What) (o : Option ℕ) (number : ℕ) (a b : code.Relay) → w ≡ whats.Closed → o ≡ None → cleaned_in b ≡ (a.cleanings, next a.failed) → reader_at number b.links.items ≡ None → CountsWhat w o number a b
what_free whats.Goes o number a b closed its counted gone = absurd (let u : ⊥ = cc in u)
what_free whats.Finished o number a b closed its counted gone = absurd (let u : ⊥ = cc in u)
what_free whats.Acknowledged o number a b closed its counted gone = absurd (let u : ⊥ = cc in u)
what_free whats.Closed (Some k) number a b closed its counted gone = absurd (let u : ⊥ = cc in u)
what_free whats.Closed None number a b closed its counted gone = (counted, gone)

free_by : (o : Option Heard) (h : Heard) (number : ℕ) (a b : code.Relay) → o ≡ Some h → h.what ≡ whats.Closed → h.key ≡ None → cleaned_in b ≡ (a.cleanings, next a.failed) → reader_at number b.links.items ≡ None → CountsHeard number o a b
free_by o h number a b is closed its counted gone = subst (λ (x : Option Heard). CountsHeard number x a b) (sym is) (what_free h.what h.key number a b closed its counted gone)

-- it is nobody's, and closed
pub counts_free : {A E : Type 0} (r : Result A E) (o : Option Heard) (h : Heard) (number n : ℕ) (a m b : code.Relay) → o ≡ Some h → h.what ≡ whats.Closed → h.key ≡ None → cleaned_in m ≡ cleaned_in a → n ≡ next m.failed
    → cleaned_in b ≡ (m.cleanings, n) → OnOk r (reader_at number b.links.items ≡ None) → OnOk r (CountsHeard number o a b)
counts_free (Ok x) o h number n a m b is closed its same more counted gone =
    free_by o h number a b is closed its (counted ∙ ap (λ (k : ℕ). (m.cleanings, k)) more ∙ ap (λ (p : ℕ × ℕ). (p.0, next p.1)) same) gone
counts_free (Err e) o h number n a m b is closed its same more counted gone = tt

-- ---- Packet by packet

what_nothing : (w : What) (o : Option ℕ) (number : ℕ) (a b : code.Relay) → w ≡ whats.Goes → CountsWhat w o number a b → cleaned_in b ≡ cleaned_in a
what_nothing whats.Goes o number a b goes counts = counts
what_nothing whats.Finished o number a b goes counts = absurd (let u : ⊥ = cc in u)
what_nothing whats.Acknowledged o number a b goes counts = absurd (let u : ⊥ = cc in u)
what_nothing whats.Closed o number a b goes counts = absurd (let u : ⊥ = cc in u)

nothing_counts : (o : Option Heard) (number : ℕ) (a b : code.Relay) → HearsNothing o → CountsHeard number o a b → cleaned_in b ≡ cleaned_in a
nothing_counts None number a b nothing counts = absurd nothing
nothing_counts (Some h) number a b nothing counts = what_nothing h.what h.key number a b nothing.1 counts

what_lost : (w : What) (o : Option ℕ) (number : ℕ) (a b : code.Relay) → CountsWhat w o number a b → CountsLost number a b
what_lost whats.Goes o number a b counts = inl counts
what_lost whats.Finished o number a b counts = inl counts
what_lost whats.Acknowledged o number a b counts = inl counts
what_lost whats.Closed (Some key) number a b counts = inl counts
what_lost whats.Closed None number a b counts = inr counts

heard_lost : (o : Option Heard) (number : ℕ) (a b : code.Relay) → CountsHeard number o a b → CountsLost number a b
heard_lost None number a b counts = inl counts
heard_lost (Some h) number a b counts = what_lost h.what h.key number a b counts

-- where nothing was counted before
lost_on : (number : ℕ) (a b c d : code.Relay) → cleaned_in b ≡ cleaned_in a → cleaned_in c ≡ cleaned_in b → CountsLost number c d → CountsLost number a d
lost_on number a b c d first then (inl same) = inl (same ∙ then ∙ first)
lost_on number a b c d first then (inr lost) = inr (lost.0 ∙ ap (λ (p : ℕ × ℕ). (p.0, next p.1)) (then ∙ first), lost.1)

as_sent : (o p : Option Link) → option_map sending_of p ≡ option_map sending_of o → option_map reader_of o ≡ None → option_map reader_of p ≡ None
as_sent None None same gone = refl
as_sent None (Some m) same gone = absurd (let u : ⊥ = cc in u)
as_sent (Some l) p same gone = absurd (let u : ⊥ = cc in u)

no_link : (o : Option Link) (l : Link) → option_map reader_of o ≡ None → o ≡ Some l → ⊥
no_link None l gone there = let u : ⊥ = cc in u
no_link (Some m) l gone there = let u : ⊥ = cc in u

not_seen : (o p : Option Link) → StaysAt (option_map seen_of o) (option_map seen_of p) → option_map reader_of o ≡ None → option_map reader_of p ≡ None
not_seen None None stays gone = refl
not_seen None (Some m) stays gone = absurd (let u : ⊥ = cc in u)
not_seen (Some l) p stays gone = absurd (let u : ⊥ = cc in u)

gone_on : (number : ℕ) (ls ms : List Link) → LinksStay ls ms → reader_at number ls ≡ None → reader_at number ms ≡ None
gone_on number ls ms stays gone = not_seen (link_at number ls) (link_at number ms) (stays.seen number (seen_at number ls) (at_refl (seen_at number ls))) gone

-- of what isn't there nothing is heard
lost_then : (number : ℕ) (left : List ℕ) (o : Option Heard) (a b c d : code.Relay) (new : Machine) → (HearsNothing o × IsIdle b c) ⊎ IsHeardAs number left o b new → cleaned_in c ≡ cleaned_in b
    → ((other : ℕ) → sending_at other c.links.items ≡ sending_at other b.links.items) → LinksStay c.links.items d.links.items → CountsHeard number o c d → CountsLost number a b → CountsLost number a d
lost_then number left o a b c d new heard then sends stays counts (inl same) = lost_on number a b c d same then (heard_lost o number c d counts)
lost_then number left o a b c d new (inl none) then sends stays counts (inr lost) =
    inr (nothing_counts o number c d none.0 counts ∙ then ∙ lost.0, gone_on number c.links.items d.links.items stays (as_sent (link_at number b.links.items) (link_at number c.links.items) (sends number) lost.1))
lost_then number left o a b c d new (inr heard) then sends stays counts (inr lost) = absurd (no_link (link_at number b.links.items) heard.link lost.1 heard.there)

pub one_lost : (number : ℕ) (left : List ℕ) (o : Option Heard) (a b c d : code.Relay) (new : Machine) → (HearsNothing o × IsIdle b c) ⊎ IsHeardAs number left o b new → cleaned_in c ≡ cleaned_in b
    → ((other : ℕ) → sending_at other c.links.items ≡ sending_at other b.links.items) → LinksStay c.links.items d.links.items → CountsHeard number o c d → CountsLost number a b → CountsLost number a d
one_lost number left o a b c d new heard then sends stays counts lost = lost_then number left o a b c d new heard then sends stays counts lost

-- ---- And then those who wait are served

stays_none : {A : Type 0} (o p : Option A) → StaysAt o p → o ≡ None → p ≡ None
stays_none o None stays none = refl
stays_none o (Some x) stays none = absurd (let u : None ≡ Some x = sym none ∙ stays in let v : ⊥ = cc in v)

served_by : (number : ℕ) (a b c : code.Relay) → Opens b.links.items c.links.items → cleaned_in c ≡ cleaned_in b → CountsLost number a b → CountsGone number a c
served_by number a b c opens same (inl none) = inl (same ∙ none)
served_by number a b c opens same (inr lost) =
    inr (same ∙ lost.0, stays_none (open_at number b.links.items) (open_at number c.links.items) (opens.opens number) (gone_open number b.links.items lost.1))

pub lost_served : {A E : Type 0} (r : Result A E) (number : ℕ) (a b c : code.Relay) → OnOk r (Opens b.links.items c.links.items) → cleaned_in c ≡ cleaned_in b → CountsLost number a b → OnOk r (CountsGone number a c)
lost_served (Ok x) number a b c opens same lost = served_by number a b c opens same lost
lost_served (Err e) number a b c opens same lost = tt
