-- What waits on each connection where an application lets go what it holds.
use Rattle.std.proofs.Common.{◌≡◌, ◌≢◌, ◌⊎◌, ◌∙◌, ◌==◌, ◌++◌, ℕ, Bool, true, false, List, Option, Some, None, inl, inr, refl, sym, ap, subst}
use Rattle.std.specs.Prelude.{Result, Ok, Err, OnOk}
use Rattle.std.proofs.lemmas.Bool.{eqb-true, eq-eqb}
use Rattle.tds_client.specs.Session.{ClientSession}
use Rattle.tds_service.specs.Table.{client_of}
use Rattle.tds_relay.specs.declared.pool.Pool as pools
use Rattle.tds_relay.specs.declared.pool.Hold.{Hold}
use Rattle.tds_relay.specs.declared.pool.leaving.Left.{Left}
use Rattle.tds_relay.specs.declared.link.Link.{Link}
use Rattle.tds_relay.specs.declared.relay.Relay as code
use Rattle.tds_relay.specs.Cleaning.{LeavesAll, LeavesAllAt, LeavesAt, LetsGoAt, LetsGoBy, OfItsHold, WaitsAtEnd}
use Rattle.tds_relay.specs.Cleaning as cleaning
use Rattle.tds_relay.specs.Lent.{IsLetGo}
use Rattle.tds_relay.specs.Pool.{find_key, find_number}
use Rattle.tds_relay.specs.Reads.{waits_on}
use Rattle.tds_relay.specs.Ties.{IsNumberOf, IsReached, pool_in}
use Rattle.tds_relay.proofs.held.Numbers.{apart_at, found_number}

pub leaves_refl : (o : Option (List ℕ)) → LeavesAt o o
leaves_refl None = tt
leaves_refl (Some waits) = inl refl

pub leaves_same : (o p : Option (List ℕ)) → p ≡ o → LeavesAt o p
leaves_same o p e = subst (LeavesAt o) (sym e) (leaves_refl o)

leaves_end : (client : Option ClientSession) (o p : Option (List ℕ)) → WaitsAtEnd client o p → LeavesAt o p
leaves_end client o None cleaning.IsShut = tt
leaves_end client o (Some new) (cleaning.HasMore waits out was ends) = subst (λ (x : Option (List ℕ)). LeavesAt x (Some (waits ++ out))) (sym was) (inr (ends.session, out, ends.does, refl))

-- ---- As it is let go

let_if : (key number : ℕ) (left : Left) (hold : Hold) (old mid new : code.Relay) (b : Bool) → (number == left.number) ≡ b → find_key key old.pool.holds.items ≡ Some hold → left.number ≡ hold.number → mid.links.items ≡ old.links.items
    → ((other : ℕ) → other ≢ left.number → waits_on other new.links.items ≡ waits_on other mid.links.items) → OfItsHold WaitsAtEnd key old (λ (n : ℕ). waits_on n new.links.items)
    → (waits_on number new.links.items ≡ waits_on number old.links.items)
    ⊎ ((h : Hold) × (find_key key old.pool.holds.items ≡ Some h) × (h.number ≡ number) × WaitsAtEnd (client_of h.lease old.pool.service) (waits_on number old.links.items) (waits_on number new.links.items))
let_if key number left hold old mid new true e its is links others ends =
    let same : hold.number ≡ number = sym is ∙ sym (eqb-true number left.number e) in
    inr (hold, its, same, subst (λ (n : ℕ). WaitsAtEnd (client_of hold.lease old.pool.service) (waits_on n old.links.items) (waits_on n new.links.items)) same (ends hold its))
let_if key number left hold old mid new false e its is links others ends =
    inl (others number (λ same. let u : true ≡ false = sym (eq-eqb number left.number same) ∙ e in let v : ⊥ = cc in v) ∙ ap (waits_on number) links)

let_by : (key : ℕ) (left : Left) (o : Option Hold) (old mid new : code.Relay) → o ≡ find_key key old.pool.holds.items → IsNumberOf o (Some left) → mid.links.items ≡ old.links.items
    → ((other : ℕ) → other ≢ left.number → waits_on other new.links.items ≡ waits_on other mid.links.items) → OfItsHold WaitsAtEnd key old (λ (n : ℕ). waits_on n new.links.items) → LetsGoAt key old new
let_by key left None old mid new same is links others ends = absurd is
let_by key left (Some hold) old mid new same is links others ends = λ number. let_if key number left hold old mid new (number == left.number) refl (sym same) is links others ends

pub let_go_by : {A E : Type 0} (r : Result A E) (key : ℕ) (left : Left) (o : Option Hold) (old mid new : code.Relay) → o ≡ find_key key old.pool.holds.items → IsNumberOf o (Some left) → mid.links.items ≡ old.links.items
    → OnOk r ((other : ℕ) → other ≢ left.number → waits_on other new.links.items ≡ waits_on other mid.links.items) → OnOk r (OfItsHold WaitsAtEnd key old (λ (n : ℕ). waits_on n new.links.items)) → OnOk r (LetsGoAt key old new)
let_go_by (Ok x) key left o old mid new same is links others ends = let_by key left o old mid new same is links others ends
let_go_by (Err e) key left o old mid new same is links others ends = tt

pub let_go_same : (key : ℕ) (old new : code.Relay) → new.links.items ≡ old.links.items → LetsGoAt key old new
let_go_same key old new links = λ number. inl (ap (waits_on number) links)

-- behind what leaves the pool and what waits
pub let_go_from : {A E : Type 0} (r : Result A E) (key : ℕ) (old mid new : code.Relay) → mid.pool ≡ old.pool → mid.links.items ≡ old.links.items → OnOk r (LetsGoAt key mid new) → OnOk r (LetsGoAt key old new)
let_go_from (Ok x) key old mid new pool links h =
    subst (λ (d : pools.Pool). LetsGoBy key d old.links.items new.links.items) pool (subst (λ (ls : List Link). LetsGoBy key mid.pool ls new.links.items) links h)
let_go_from (Err e) key old mid new pool links h = tt

-- ---- Whoever held it

leaves_by : (key number : ℕ) (old new : code.Relay) → (waits_on number new.links.items ≡ waits_on number old.links.items)
    ⊎ ((h : Hold) × (find_key key old.pool.holds.items ≡ Some h) × (h.number ≡ number) × WaitsAtEnd (client_of h.lease old.pool.service) (waits_on number old.links.items) (waits_on number new.links.items))
    → LeavesAt (waits_on number old.links.items) (waits_on number new.links.items)
leaves_by key number old new (inl same) = leaves_same (waits_on number old.links.items) (waits_on number new.links.items) same
leaves_by key number old new (inr x) = leaves_end (client_of x.0.lease old.pool.service) (waits_on number old.links.items) (waits_on number new.links.items) x.3

pub leaves_of : (key : ℕ) (old new : code.Relay) → LetsGoAt key old new → LeavesAllAt old new
leaves_of key old new h = λ number. leaves_by key number old new (h number)

pub leaves_links : (old new : code.Relay) → new.links.items ≡ old.links.items → LeavesAllAt old new
leaves_links old new links = λ number. leaves_same (waits_on number old.links.items) (waits_on number new.links.items) (ap (waits_on number) links)

pub leaves_then : (key : ℕ) (old mid new : code.Relay) → LetsGoAt key old mid → new.links.items ≡ mid.links.items → LeavesAllAt old new
leaves_then key old mid new h links = λ number. subst (λ (ls : List Link). LeavesAt (waits_on number old.links.items) (waits_on number ls)) (sym links) (leaves_of key old mid h number)

-- what is let go twice is of two numbers
leaves_twice : (key number : ℕ) (old mid new : code.Relay) → IsReached (pool_in mid.pool) → IsLetGo key old.pool.holds.items mid.pool.holds.items → LeavesAt (waits_on number old.links.items) (waits_on number mid.links.items)
    → (waits_on number mid.links.items ≡ waits_on number old.links.items) ⊎ ((h : Hold) × (find_key key old.pool.holds.items ≡ Some h) × (h.number ≡ number))
    → (waits_on number new.links.items ≡ waits_on number mid.links.items)
    ⊎ ((h : Hold) × (find_key key mid.pool.holds.items ≡ Some h) × (h.number ≡ number) × WaitsAtEnd (client_of h.lease mid.pool.service) (waits_on number mid.links.items) (waits_on number new.links.items))
    → LeavesAt (waits_on number old.links.items) (waits_on number new.links.items)
leaves_twice key number old mid new reached frees first one (inl same) = subst (LeavesAt (waits_on number old.links.items)) (sym same) first
leaves_twice key number old mid new reached frees first (inl same) (inr x) = subst (λ (o : Option (List ℕ)). LeavesAt o (waits_on number new.links.items)) same (leaves_by key number mid new (inr x))
leaves_twice key number old mid new reached frees first (inr y) (inr x) =
    let found : find_number x.0.number mid.pool.holds.items ≡ Some x.0 = found_number key x.0 mid.pool.holds.items (apart_at (pool_in mid.pool) reached) x.1 in
    let none : find_number y.0.number mid.pool.holds.items ≡ None = frees y.0 y.1 in
    let alike : x.0.number ≡ y.0.number = x.2 ∙ sym y.2 in
    absurd (let u : Some x.0 ≡ None = sym found ∙ ap (λ (n : ℕ). find_number n mid.pool.holds.items) alike ∙ none in let v : ⊥ = cc in v)

where_let : (key number : ℕ) (old mid : code.Relay) → (waits_on number mid.links.items ≡ waits_on number old.links.items)
    ⊎ ((h : Hold) × (find_key key old.pool.holds.items ≡ Some h) × (h.number ≡ number) × WaitsAtEnd (client_of h.lease old.pool.service) (waits_on number old.links.items) (waits_on number mid.links.items))
    → (waits_on number mid.links.items ≡ waits_on number old.links.items) ⊎ ((h : Hold) × (find_key key old.pool.holds.items ≡ Some h) × (h.number ≡ number))
where_let key number old mid (inl same) = inl same
where_let key number old mid (inr x) = inr (x.0, x.1, x.2)

pub leaves_both : {A E : Type 0} (r : Result A E) (key : ℕ) (old mid new : code.Relay) → IsReached (pool_in mid.pool) → IsLetGo key old.pool.holds.items mid.pool.holds.items → LetsGoAt key old mid → OnOk r (LetsGoAt key mid new)
    → OnOk r (LeavesAllAt old new)
leaves_both (Ok x) key old mid new reached frees one two = λ number. leaves_twice key number old mid new reached frees (leaves_of key old mid one number) (where_let key number old mid (one number)) (two number)
leaves_both (Err e) key old mid new reached frees one two = tt

-- ---- And what it held

abbrev EndsBy : ℕ → pools.Pool → List Link → List Link → Type 0
EndsBy key d ls new = (hold : Hold) → find_key key d.holds.items ≡ Some hold → WaitsAtEnd (client_of hold.lease d.service) (waits_on hold.number ls) (waits_on hold.number new)

pub ends_from : {A E : Type 0} (r : Result A E) (key : ℕ) (old mid new : code.Relay) → mid.pool ≡ old.pool → mid.links.items ≡ old.links.items → OnOk r (OfItsHold WaitsAtEnd key mid (λ (n : ℕ). waits_on n new.links.items))
    → OnOk r (OfItsHold WaitsAtEnd key old (λ (n : ℕ). waits_on n new.links.items))
ends_from (Ok x) key old mid new pool links h = subst (λ (d : pools.Pool). EndsBy key d old.links.items new.links.items) pool (subst (λ (ls : List Link). EndsBy key mid.pool ls new.links.items) links h)
ends_from (Err e) key old mid new pool links h = tt

pub ends_then : (key : ℕ) (old mid new : code.Relay) → new.links.items ≡ mid.links.items → OfItsHold WaitsAtEnd key old (λ (n : ℕ). waits_on n mid.links.items) → OfItsHold WaitsAtEnd key old (λ (n : ℕ). waits_on n new.links.items)
ends_then key old mid new links h = subst (λ (ls : List Link). EndsBy key old.pool old.links.items ls) (sym links) h

ends_apart : (key : ℕ) (hold : Hold) (old mid new : code.Relay) → IsReached (pool_in mid.pool) → find_number hold.number mid.pool.holds.items ≡ None → WaitsAtEnd (client_of hold.lease old.pool.service) (waits_on hold.number old.links.items) (waits_on hold.number mid.links.items)
    → (waits_on hold.number new.links.items ≡ waits_on hold.number mid.links.items)
    ⊎ ((h : Hold) × (find_key key mid.pool.holds.items ≡ Some h) × (h.number ≡ hold.number) × WaitsAtEnd (client_of h.lease mid.pool.service) (waits_on hold.number mid.links.items) (waits_on hold.number new.links.items))
    → WaitsAtEnd (client_of hold.lease old.pool.service) (waits_on hold.number old.links.items) (waits_on hold.number new.links.items)
ends_apart key hold old mid new reached none ends (inl same) = subst (WaitsAtEnd (client_of hold.lease old.pool.service) (waits_on hold.number old.links.items)) (sym same) ends
ends_apart key hold old mid new reached none ends (inr x) =
    let found : find_number x.0.number mid.pool.holds.items ≡ Some x.0 = found_number key x.0 mid.pool.holds.items (apart_at (pool_in mid.pool) reached) x.1 in
    absurd (let u : Some x.0 ≡ None = sym found ∙ ap (λ (n : ℕ). find_number n mid.pool.holds.items) x.2 ∙ none in let v : ⊥ = cc in v)

pub ends_both : {A E : Type 0} (r : Result A E) (key : ℕ) (old mid new : code.Relay) → IsReached (pool_in mid.pool) → IsLetGo key old.pool.holds.items mid.pool.holds.items → OfItsHold WaitsAtEnd key old (λ (n : ℕ). waits_on n mid.links.items) → OnOk r (LetsGoAt key mid new)
    → OnOk r (OfItsHold WaitsAtEnd key old (λ (n : ℕ). waits_on n new.links.items))
ends_both (Ok x) key old mid new reached frees one two = λ hold its. ends_apart key hold old mid new reached (frees hold its) (one hold its) (two hold.number)
ends_both (Err e) key old mid new reached frees one two = tt

-- ---- Where a request begins

-- one that is closed lets go what it holds
pub over_lets : {A E : Type 0} (r : Result A E) (P Q R S : Type 0) → (P → (R → S) → Q) → OnOk r P → (R → OnOk r S) → OnOk r Q
over_lets (Ok x) P Q R S f h k = f h k
over_lets (Err e) P Q R S f h k = tt
