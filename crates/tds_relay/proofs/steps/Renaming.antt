-- What is seen of connections where one of them is opened or called otherwise; and what applications are tagged where what waits for one changes.
use Rattle.std.proofs.Common.{◌≡◌, ◌∙◌, ◌==◌, inl, length, ℕ, zero, suc, Bool, true, false, List, [], ◌∷◌, ◌++◌, Option, Some, None, refl, sym, ap, subst, slice_index_or, slice_set, option_map, if◌then◌else◌}
use Rattle.std.specs.Prelude.{Result, Ok, Err, OnOk}
use Rattle.std.proofs.lemmas.Bool.{eqb-false, eqb-true}
use Rattle.slab.specs.Slab.{Slab}
use Rattle.tds_front.specs.declared.front.Said.{Said}
use Rattle.tds_front.specs.declared.front.Said.TheVariants as said
use Rattle.tds_relay.specs.declared.application.Application.{Application}
use Rattle.tds_relay.specs.declared.link.Link.{Link}
use Rattle.tds_relay.specs.Fronts.{given_by}
use Rattle.tds_relay.specs.Machine.{change_whose_queue, put_all, put_some}
use Rattle.tds_relay.specs.Queues.{Queue, Queues, acknowledgement, tagged, change, fits, names_in, names_of, queues_in, put_behind}
use Rattle.tds_relay.specs.Reads.{IsCalled, Opens, Seen, LinksStay, link_at, place_of, seen_at, seen_of}
use Rattle.tds_relay.proofs.steps.Naming.{is_called_on}
use Rattle.tds_relay.proofs.steps.Placed.{IsAt, differs_by, is_at, none_there, other_seen}
use Rattle.tds_relay.proofs.steps.Staying.{opens_both, stays_opens}

-- ---- Of connections

seen_by : (b : Bool) (by : Seen → Seen) (number other : ℕ) (ls : List Link) (place : ℕ) (d m : Link) → (other == number) ≡ b → IsAt number ls place → m.number ≡ (slice_index_or ls place d).number
    → seen_of m ≡ by (seen_of (slice_index_or ls place d)) → seen_at other (slice_set ls place m) ≡ (if b then option_map by (seen_at other ls) else seen_at other ls)
seen_by true by number other ls place d m e at same is =
    subst (λ (n : ℕ). seen_at n (slice_set ls place m) ≡ option_map by (seen_at n ls)) (sym (eqb-true other number e))
    (ap (λ (o : Option Link). option_map seen_of o) (at.written d m same) ∙ ap Some is ∙ sym (ap (λ (o : Option Link). option_map by (option_map seen_of o)) (at.found d)))
seen_by false by number other ls place d m e at same is =
    other_seen ls place d m other same (ap (λ (k : ℕ). k == other) (at.named d) ∙ differs_by (number == other) number other refl (λ is. eqb-false other number e (sym is)))

-- one is written back of which this is seen
pub seen_written : (by : Seen → Seen) (number : ℕ) (ls : List Link) (place : ℕ) (d m : Link) → place_of number ls ≡ Some place → m.number ≡ (slice_index_or ls place d).number
    → seen_of m ≡ by (seen_of (slice_index_or ls place d)) → (other : ℕ) → seen_at other (slice_set ls place m) ≡ (if other == number then option_map by (seen_at other ls) else seen_at other ls)
seen_written by number ls place d m is same seen other = seen_by (other == number) by number other ls place d m refl (is_at number ls place is) same seen

unseen_by : (b : Bool) (by : Seen → Seen) (number other : ℕ) (ls : List Link) → (other == number) ≡ b → link_at number ls ≡ None → seen_at other ls ≡ (if b then option_map by (seen_at other ls) else seen_at other ls)
unseen_by true by number other ls e none =
    subst (λ (n : ℕ). seen_at n ls ≡ option_map by (seen_at n ls)) (sym (eqb-true other number e))
    (ap (λ (o : Option Link). option_map seen_of o) none ∙ sym (ap (λ (o : Option Link). option_map by (option_map seen_of o)) none))
unseen_by false by number other ls e none = refl

-- it isn't there
pub unseen_written : (by : Seen → Seen) (number : ℕ) (ls : List Link) → link_at number ls ≡ None → (other : ℕ) → seen_at other ls ≡ (if other == number then option_map by (seen_at other ls) else seen_at other ls)
unseen_written by number ls none other = unseen_by (other == number) by number other ls refl none

alone_called : (b : Bool) (l : Link) (tag : ℕ) → l.is_open ≡ true → l.tag ≡ Some tag → IsCalled true (Some tag) (option_map seen_of (if b then Some l else None))
alone_called true l tag is_open is = inl (is_open, is)
alone_called false l tag is_open is = tt

-- one comes that is called so, and those who wait are served
pub first_called : (number tag : ℕ) (l : Link) (ls ms ks ns : List Link) → (length ls == 0) ≡ true → ms ≡ ls ++ l ∷ [] → l.is_open ≡ true → l.tag ≡ Some tag → LinksStay ms ks → Opens ks ns
    → IsCalled true (Some tag) (seen_at number ns)
first_called number tag l ls ms ks ns none pushed is_open is stays opens =
    let are : ms ≡ l ∷ [] = pushed ∙ ap (λ (xs : List Link). xs ++ l ∷ []) (none_there ls none) in
    is_called_on true (Some tag) (seen_at number ms) (seen_at number ns)
    (subst (λ (xs : List Link). IsCalled true (Some tag) (seen_at number xs)) (sym are) (alone_called (l.number == number) l tag is_open is))
    ((opens_both ms ks ns (stays_opens ms ks stays) opens).called number)

-- ---- Of applications

abbrev put_if : Bool → List ℕ → Queue → Queue
put_if b bytes p =
    if b then record { tag = p.tag; size = p.size; bytes = p.bytes ++ bytes; is_full = false }
    else record { tag = p.tag; size = p.size; bytes = p.bytes; is_full = true }

if_called : (b : Bool) (tag : ℕ) (bytes : List ℕ) (p : Queue) → put_if b bytes (tagged tag p) ≡ tagged tag (put_if b bytes p)
if_called true tag bytes p = refl
if_called false tag bytes p = refl

if_tag : (b : Bool) (bytes : List ℕ) (p : Queue) → (put_if b bytes p).tag ≡ p.tag
if_tag true bytes p = refl
if_tag false bytes p = refl

-- whatever it is tagged, these bytes are put there so
pub put_called : (tag : ℕ) (bytes : List ℕ) (p : Queue) → put_behind bytes (tagged tag p) ≡ tagged tag (put_behind bytes p)
unfolding put_behind
put_called tag bytes p = if_called (fits p bytes) tag bytes p

put_tag : (bytes : List ℕ) (p : Queue) → (put_behind bytes p).tag ≡ p.tag
unfolding put_behind
put_tag bytes p = if_tag (fits p bytes) bytes p

all_called : (tag : ℕ) (pieces : List (List ℕ)) (p : Queue) → put_all pieces (tagged tag p) ≡ tagged tag (put_all pieces p)
all_called tag [] p = refl
all_called tag (piece ∷ pieces) p = ap (put_all pieces) (put_called tag piece p) ∙ all_called tag pieces (put_behind piece p)

pub some_called : (tag : ℕ) (o : Option (List (List ℕ))) (p : Queue) → put_some o (tagged tag p) ≡ tagged tag (put_some o p)
some_called tag None p = refl
some_called tag (Some pieces) p = all_called tag pieces p

-- so does whoever has them in an application
pub called_so : (tag : ℕ) (p q : Queue) (o : Option (List (List ℕ))) → q ≡ put_some o p → tagged tag q ≡ put_some o (tagged tag p)
called_so tag p q o is = ap (tagged tag) is ∙ sym (some_called tag o p)

all_tag : (pieces : List (List ℕ)) (p : Queue) → (put_all pieces p).tag ≡ p.tag
all_tag [] p = refl
all_tag (piece ∷ pieces) p = all_tag pieces (put_behind piece p) ∙ put_tag piece p

some_tag : (o : Option (List (List ℕ))) (p : Queue) → (put_some o p).tag ≡ p.tag
some_tag None p = refl
some_tag (Some pieces) p = all_tag pieces p

abbrev name : Option Queue → Option (Option ℕ)
name o = option_map (λ (p : Queue). p.tag) o

one_name : (by : Queue → Queue) → ((p : Queue) → (by p).tag ≡ p.tag) → (o : Option Queue) → name (option_map by o) ≡ name o
one_name by same None = refl
one_name by same (Some p) = ap Some (same p)

-- what waits for one changes, and nothing of what it is called
pub names_changed : (by : Queue → Queue) → ((p : Queue) → (by p).tag ≡ p.tag) → (key : ℕ) (ps : Queues) → names_of (change key by ps) ≡ names_of ps
names_changed by same key [] = refl
names_changed by same zero (p ∷ ps) = ap (λ (n : Option (Option ℕ)). n ∷ names_of ps) (one_name by same p)
names_changed by same (suc key) (p ∷ ps) = ap (λ (ns : List (Option (Option ℕ))). name p ∷ ns) (names_changed by same key ps)

pub names_given : (key : ℕ) (answer : Said) (ps : Queues) → names_of (given_by key answer ps) ≡ names_of ps
names_given key said.Nothing ps = refl
names_given key (said.Begin kind reset) ps = refl
names_given key (said.Body count) ps = refl
names_given key (said.End count) ps = refl
names_given key (said.Forget gone) ps = refl
names_given key said.Acknowledge ps = names_changed (put_behind acknowledgement) (put_tag acknowledgement) key ps
names_given key said.HandOn ps = refl

pub names_handed : (who : Option ℕ) (o : Option (List (List ℕ))) (ps : Queues) → names_of (change_whose_queue who (put_some o) ps) ≡ names_of ps
names_handed None o ps = refl
names_handed (Some key) o ps = names_changed (put_some o) (some_tag o) key ps

-- where a call answers
pub names_on : {A E : Type 0} (r : Result A E) (ns : List (Option (Option ℕ))) (t u : Slab Application) → names_in t ≡ ns → OnOk r (queues_in u ≡ queues_in t) → OnOk r (names_in u ≡ ns)
names_on (Ok x) ns t u h k = ap names_of k ∙ h
names_on (Err e) ns t u h k = tt

-- one has left
pub names_left : (key : ℕ) (ps : Queues) → names_of (slice_set ps key None) ≡ slice_set (names_of ps) key None
names_left key [] = refl
names_left zero (p ∷ ps) = refl
names_left (suc key) (p ∷ ps) = ap (λ (ns : List (Option (Option ℕ))). name p ∷ ns) (names_left key ps)
