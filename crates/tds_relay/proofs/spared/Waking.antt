-- Who is to be written to, one call behind the other.
use Rattle.std.proofs.Common.{◌≡◌, ◌≢◌, ◌⊎◌, ◌∙◌, ℕ, Bool, true, false, List, [], ◌∷◌, ◌++◌, Option, Some, None, inl, inr, refl, sym, ap, subst, append_assoc, option_map, slice_index_or}
use Rattle.std.specs.Prelude.{Result, Ok, Err, OnOk}
use Rattle.std.proofs.lemmas.Bool.{cases_eq}
use Rattle.std.proofs.lemmas.List.{get_or-set_other}
use Rattle.std.proofs.Math.ListN.{get_or-map}
use Rattle.slab.specs.Slab.{Slab, get}
use Rattle.tds_wire.specs.Reading.{Parser}
use Rattle.tds_packet.specs.declared.header.Header.{Header}
use Rattle.tds_packet.specs.Reading as packets
use Rattle.tds_relay.specs.declared.application.Application.{Application}
use Rattle.tds_relay.specs.declared.pool.coming.Heard.{Heard}
use Rattle.tds_relay.specs.declared.pool.coming.What.{What}
use Rattle.tds_relay.specs.declared.pool.coming.What.TheVariants as whats
use Rattle.tds_relay.specs.declared.link.Answer.{Answer}
use Rattle.tds_relay.specs.declared.link.News.{News}
use Rattle.tds_relay.specs.declared.order.Order.{Order}
use Rattle.tds_relay.specs.declared.relay.Relay as relays
use Rattle.tds_relay.specs.declared.order.Order.TheVariants as orders
use Rattle.tds_relay.specs.Pool.{whose}
use Rattle.tds_relay.specs.Fronts.{Moved, ends_in, core_in, core_of_ends, told_by}
use Rattle.tds_relay.specs.Core.{End, EndList, Open, Over, end_at}
use Rattle.tds_relay.specs.Handing.{BringsPacket, IsFor}
use Rattle.tds_relay.specs.Machine.{Machine, Manner, Withheld, change_whose_queue, end_whose, handed, is_said, put_some}
use Rattle.tds_relay.specs.Ordering.{StayOrdered}
use Rattle.tds_relay.specs.Queues.{HasAll, Queue, Queues, names_in, names_of, queue_at, queue_of, queues_in}
use Rattle.tds_relay.specs.Taking.{IsDeaf}
use Rattle.tds_relay.specs.Ties.{Connection, pool_in}
use Rattle.tds_relay.specs.Waking.{HandsTo, IsToDo, IsWoken, PutsFor, Wakes, name_at}
use Rattle.tds_relay.proofs.steps.Handed.{withheld_is}
use Rattle.tds_relay.proofs.steps.Queueing.{queue_is}
use Rattle.tds_relay.proofs.steps.Told.{deaf_led, deaf_told}

-- ---- What is to be done stays so

-- what it is called is what its slot has
pub name_there : (s : Slab Application) (key : ℕ) (a : Application) → Some a ≡ get s key → name_at (queues_in s) key ≡ Some (Some a.tag)
name_there s key a is =
    get_or-map (option_map (λ (p : Queue). p.tag)) (queues_in s) key None ∙ ap (option_map (λ (p : Queue). p.tag)) (queue_is s key ∙ ap (option_map queue_of) (sym is))

-- all of it fits
pub all_there : (s : Slab Application) (key : ℕ) (a : Application) → Some a ≡ get s key → a.out.is_full ≡ false → HasAll (queue_at (queues_in s) key)
all_there s key a is fits = ap (option_map (λ (p : Queue). p.is_full)) (queue_is s key ∙ ap (option_map queue_of) (sym is)) ∙ ap Some fits

pub to_do_on : (x : Order) (a b : List Order) → IsToDo x a → StayOrdered a b → IsToDo x b
to_do_on x a b d s = (d.0, d.1 ++ s.0, s.1 ∙ ap (λ (xs : List Order). xs ++ s.0) d.2 ∙ append_assoc d.0 (x ∷ d.1) s.0)

pub to_do_last : (x : Order) (a b : List Order) → b ≡ a ++ x ∷ [] → IsToDo x b
to_do_last x a b e = (a, [], e)

pub woken_on : (key : ℕ) (s t : Slab Application) (a b : List Order) → IsWoken key s a → queue_at (queues_in t) key ≡ queue_at (queues_in s) key → names_in t ≡ names_in s → StayOrdered a b → (IsDeaf (end_at (ends_in s) key) → IsDeaf (end_at (ends_in t) key))
    → IsWoken key t b
woken_on key s t a b (inl deaf) same names more later = inl (later deaf)
woken_on key s t a b (inr w) same names more later =
    inr (w.0, ap (λ (ns : List (Option (Option ℕ))). slice_index_or ns key None) names ∙ w.1, to_do_on (orders.Write w.0) a b w.2 more, subst HasAll (sym same) w.3)

wakes_by : (key : ℕ) (old : Queues) (s t : Slab Application) (a b : List Order) → (queue_at (queues_in s) key ≡ queue_at old key) ⊎ IsWoken key s a → (queue_at (queues_in t) key ≡ queue_at (queues_in s) key) ⊎ IsWoken key t b
    → names_in t ≡ names_in s → StayOrdered a b → (IsDeaf (end_at (ends_in s) key) → IsDeaf (end_at (ends_in t) key)) → (queue_at (queues_in t) key ≡ queue_at old key) ⊎ IsWoken key t b
wakes_by key old s t a b h (inr w) names more later = inr w
wakes_by key old s t a b (inl e) (inl f) names more later = inl (f ∙ e)
wakes_by key old s t a b (inr w) (inl f) names more later = inr (woken_on key s t a b w f names more later)

pub wakes_both : (old : Queues) (s t : Slab Application) (a b : List Order) → Wakes old s a → Wakes (queues_in s) t b → names_in t ≡ names_in s → StayOrdered a b → ((key : ℕ) → IsDeaf (end_at (ends_in s) key) → IsDeaf (end_at (ends_in t) key))
    → Wakes old t b
wakes_both old s t a b h k names more later = λ key. wakes_by key old s t a b (h key) (k key) names more (later key)

pub wakes_same : (old : Queues) (s : Slab Application) (a : List Order) → queues_in s ≡ old → Wakes old s a
wakes_same old s a same = λ key. inl (ap (λ (ps : Queues). queue_at ps key) same)

pub wakes_on : {A E : Type 0} (r : Result A E) (old : Queues) (s t : Slab Application) (a b : List Order) → Wakes old s a → OnOk r (queues_in t ≡ queues_in s) → OnOk r (StayOrdered a b)
    → ((key : ℕ) → IsDeaf (end_at (ends_in s) key) → OnOk r (IsDeaf (end_at (ends_in t) key))) → OnOk r (Wakes old t b)
wakes_on (Ok x) old s t a b h kept more later = wakes_both old s t a b h (wakes_same (queues_in s) t b kept) (ap names_of kept) more later
wakes_on (Err e) old s t a b h kept more later = tt

-- ---- What is put by a packet

said_or : (said : Bool) (goes : News) (a : Answer) (header : Header) (content : List ℕ) (manner : Manner) → IsFor said goes a header content manner → (said ≡ true) ⊎ (manner ≡ Withheld)
said_or true goes a header content manner by = inl refl
said_or false goes a header content manner by = inr by

puts_one : (heard : Heard) (k key : ℕ) (ends : EndList) (queues : Queues) (header : Header) (content : List ℕ) (manner : Manner) → heard.key ≡ Some k → (is_said heard.what (end_whose heard.key ends) ≡ true) ⊎ (manner ≡ Withheld) → (key ≡ k) ⊎ (key ≢ k)
    → (queue_at (change_whose_queue (Some k) (put_some (handed manner header content)) queues) key ≡ queue_at queues key) ⊎ HandsTo (Some heard) key ends
puts_one heard k key ends queues header content manner its said (inr differs) =
    inl (get_or-set_other queues k key (option_map (put_some (handed manner header content)) (queue_at queues k)) None differs)
puts_one heard k key ends queues header content manner its (inl said) (inl same) =
    let mine : heard.key ≡ Some key = its ∙ ap (λ (n : ℕ). Some n) (sym same) in
    inr (mine, subst (λ (o : Option ℕ). is_said heard.what (end_whose o ends) ≡ true) mine said)
puts_one heard k key ends queues header content manner its (inr withheld) (inl same) =
    inl (sym (ap (λ (ps : Queues). queue_at ps key) (withheld_is (Some k) header content queues ∙ ap (λ (m : Manner). change_whose_queue (Some k) (put_some (handed m header content)) queues) (sym withheld))))

puts_whose : (heard : Heard) (who : Option ℕ) (ends : EndList) (queues : Queues) (header : Header) (content : List ℕ) (manner : Manner) → heard.key ≡ who → (is_said heard.what (end_whose heard.key ends) ≡ true) ⊎ (manner ≡ Withheld)
    → PutsFor (Some heard) ends queues (change_whose_queue who (put_some (handed manner header content)) queues)
puts_whose heard None ends queues header content manner its said = λ key. inl refl
puts_whose heard (Some k) ends queues header content manner its said = λ key. puts_one heard k key ends queues header content manner its said (cases_eq key k)

pub puts_brings : (number : ℕ) (parser : Option Parser) (a b : Answer) (r : packets.Reading) (heard : Heard) (old new : Machine) → BringsPacket number parser a b r heard old new → PutsFor (Some heard) old.core.ends old.queues new.queues
puts_brings number parser a b r heard old new (inl e) = λ key. inl (ap (λ (h : Machine). queue_at h.queues key) e.1)
puts_brings number parser a b r heard old new (inr p) =
    subst (PutsFor (Some heard) old.core.ends old.queues) (sym (ap (λ (h : Machine). h.queues) p.is))
    (puts_whose heard (whose old.core.pool number) old.core.ends old.queues p.header p.content p.manner p.whose_is
    (said_or (is_said heard.what (end_whose heard.key old.core.ends)) p.goes a p.header p.content p.manner p.by))

-- and whoever it is put for is woken
puts_wake : (heard : Option Heard) (ends : EndList) (old mid : Queues) (t : Slab Application) (b : List Order) (key : ℕ) → (queue_at mid key ≡ queue_at old key) ⊎ HandsTo heard key ends → queues_in t ≡ mid → (HandsTo heard key ends → IsWoken key t b)
    → (queue_at (queues_in t) key ≡ queue_at old key) ⊎ IsWoken key t b
puts_wake heard ends old mid t b key (inl same) kept wakes = inl (ap (λ (ps : Queues). queue_at ps key) kept ∙ same)
puts_wake heard ends old mid t b key (inr hands) kept wakes = inr (wakes hands)

pub heard_wakes : (heard : Option Heard) (ends : EndList) (old mid : Queues) (t : Slab Application) (b : List Order) → PutsFor heard ends old mid → queues_in t ≡ mid → ((key : ℕ) → HandsTo heard key ends → IsWoken key t b) → Wakes old t b
heard_wakes heard ends old mid t b puts kept wakes = λ key. puts_wake heard ends old mid t b key (puts key) kept (wakes key)

-- ---- What isn't said

pub said_closed : (o : Option End) → is_said whats.Closed o ≡ true → ⊥
said_closed None e = let u : ⊥ = cc in u
said_closed (Some (Open front true asks)) e = let u : ⊥ = cc in u
said_closed (Some (Open front false asks)) e = let u : ⊥ = cc in u
said_closed (Some (Over why)) e = let u : ⊥ = cc in u

pub not_closed : (heard : Heard) (key : ℕ) (ends : EndList) → heard.what ≡ whats.Closed → HandsTo (Some heard) key ends → ⊥
not_closed heard key ends is h = said_closed (end_at ends key) (ap (λ (w : What). is_said w (end_at ends key)) (sym is) ∙ h.1)

pub not_nobody : (heard : Heard) (key : ℕ) (ends : EndList) → heard.key ≡ None → HandsTo (Some heard) key ends → ⊥
not_nobody heard key ends none h = let e : None ≡ Some key = sym none ∙ h.0 in let u : ⊥ = cc in u

pub not_silent : (heard : Heard) (k key : ℕ) (ends : EndList) → heard.key ≡ Some k → heard.what ≡ whats.Acknowledged → is_said whats.Acknowledged (end_at ends k) ≡ false → HandsTo (Some heard) key ends → ⊥
not_silent heard k key ends its is unsaid h =
    let same : key ≡ k = (let e : Some key ≡ Some k = sym h.0 ∙ its in cc) in
    let said : is_said whats.Acknowledged (end_at ends key) ≡ true = ap (λ (w : What). is_said w (end_at ends key)) (sym is) ∙ h.1 in
    let u : true ≡ false = sym said ∙ ap (λ (n : ℕ). is_said whats.Acknowledged (end_at ends n)) same ∙ unsaid in
    let v : ⊥ = cc in v

-- whose it is
pub woken_mine : (heard : Heard) (k key : ℕ) (ends : EndList) (t : Slab Application) (b : List Order) → heard.key ≡ Some k → IsWoken k t b → HandsTo (Some heard) key ends → IsWoken key t b
woken_mine heard k key ends t b its w h =
    let same : k ≡ key = (let e : Some k ≡ Some key = sym its ∙ h.0 in cc) in
    subst (λ (n : ℕ). IsWoken n t b) same w

pub hands_as : (o : Option Heard) (heard : Heard) (key : ℕ) (ends : EndList) → o ≡ Some heard → HandsTo o key ends → HandsTo (Some heard) key ends
hands_as o heard key ends is h = subst (λ (x : Option Heard). HandsTo x key ends) is h

pub hands_nobody : (o : Option Heard) (key : ℕ) (ends : EndList) → o ≡ None → HandsTo o key ends → ⊥
hands_nobody o key ends none h = subst (λ (x : Option Heard). HandsTo x key ends) none h

-- ---- One packet

pub one_wakes : (number : ℕ) (old : Queues) (b c d : relays.Relay) (heard : Option Heard) → Wakes old b.applications b.orders.items → ends_in c.applications ≡ ends_in b.applications → names_in c.applications ≡ names_in b.applications
    → PutsFor heard (ends_in b.applications) (queues_in b.applications) (queues_in c.applications) → c.orders.items ≡ b.orders.items → queues_in d.applications ≡ queues_in c.applications → StayOrdered c.orders.items d.orders.items
    → Moved (Connection number) (core_of_ends (pool_in c.pool) (told_by heard (ends_in c.applications))) (core_in d) → ((key : ℕ) → HandsTo heard key (ends_in c.applications) → IsWoken key d.applications d.orders.items)
    → Wakes old d.applications d.orders.items
one_wakes number old b c d heard h ends names puts orders kept more moves wakes =
    let mine : (key : ℕ) → HandsTo heard key (ends_in b.applications) → IsWoken key d.applications d.orders.items = λ key hands. wakes key (subst (λ (es : EndList). HandsTo heard key es) (sym ends) hands) in
    wakes_both old b.applications d.applications b.orders.items d.orders.items h
    (heard_wakes heard (ends_in b.applications) (queues_in b.applications) (queues_in c.applications) d.applications d.orders.items puts kept mine)
    (ap names_of kept ∙ names) (subst (λ (all : List Order). StayOrdered all d.orders.items) orders more)
    (λ key deaf.
    deaf_led (Connection number) key (core_of_ends (pool_in c.pool) (told_by heard (ends_in c.applications))) (core_in d) moves
    (deaf_told heard key (ends_in c.applications) (subst (λ (es : EndList). IsDeaf (end_at es key)) (sym ends) deaf)))
