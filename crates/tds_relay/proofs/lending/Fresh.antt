-- Connections that are new, and on which others something is put.
use Rattle.std.proofs.Common.{◌≡◌, ◌≢◌, ◌⊎◌, ◌∙◌, ◌==◌, ◌≤◌, ◌++◌, ℕ, Bool, true, false, List, [], ◌∷◌, Option, Some, None, inl, inr, refl, sym, ap, subst, arith, option_map, if◌then◌else◌}
use Rattle.std.specs.Prelude.{Result, Ok, Err, OnOk, IsSome}
use Rattle.std.proofs.lemmas.Bool.{cases_eq}
use Rattle.tds_packet.specs.Reading.{Reading}
use Rattle.tds_wire.specs.declared.features.Features.{Features}
use Rattle.tds_service.specs.Beginning.{Begins}
use Rattle.tds_relay.specs.declared.link.Answer.{Answer}
use Rattle.tds_relay.specs.declared.link.Link.{Link}
use Rattle.tds_relay.specs.declared.link.TheConstants.{COLUMNS}
use Rattle.tds_relay.specs.declared.pool.Pool as pools
use Rattle.tds_relay.specs.declared.pool.Hold.{Hold}
use Rattle.tds_relay.specs.declared.relay.Relay as code
use Rattle.tds_relay.specs.Closings.{KeptBeside}
use Rattle.tds_relay.specs.Cutting.{at_its_beginning}
use Rattle.tds_relay.specs.Lent.{DialsNew, FirstStays, IsDialled, KeepsGiven, OffHoldRests, OffRest, ShutRest, StaysDialled, IsMade, KeepsAnswers}
use Rattle.tds_relay.specs.Few.{NoneNew}
use Rattle.tds_relay.specs.Core.{End}
use Rattle.tds_relay.specs.Pool.{find_key}
use Rattle.tds_relay.specs.Reasons.{IsReadyThere}
use Rattle.tds_relay.specs.Queues.{Queue, queue_in}
use Rattle.tds_relay.specs.Reads.{Carried, LinksStay, MayBegin, Seen, StaysAt, bytes_on, carried_by, carried_there, link_at, open_at, open_of, queue_on, seen_at, seen_of}
use Rattle.tds_relay.proofs.lending.Dialled.{given_behind}
use Rattle.tds_relay.proofs.spared.Filling.{carried}
use Rattle.tds_relay.proofs.steps.Staying.{at_refl}

-- ---- Those that are new

pub size_kept : (k l : KeptBeside) → k ≡ l → k.settings.size ≡ l.settings.size
size_kept k l e = ap (λ (x : KeptBeside). x.settings.size) e

pub features_kept : (k l : KeptBeside) → k ≡ l → k.settings.features ≡ l.settings.features
features_kept k l e = ap (λ (x : KeptBeside). x.settings.features) e

dialled_if : (b : Bool) (size : ℕ) (features : Features) (x : Link) (o p : Option Link) → (IsDialled size features o → IsDialled size features p)
    → IsDialled size features (if b then Some x else o) → IsDialled size features (if b then Some x else p)
dialled_if true size features x o p rest is = is
dialled_if false size features x o p rest is = rest is

alone_if : (b : Bool) (size : ℕ) (features : Features) (l : Link) → IsDialled size features (Some l) → IsDialled size features (if b then Some l else None)
alone_if true size features l is = is
alone_if false size features l is = tt

pub dials_pushed : (size : ℕ) (features : Features) (ls : List Link) (l : Link) → IsDialled size features (Some l) → StaysDialled size features ls (ls ++ l ∷ [])
dials_pushed size features [] l is = λ n h. alone_if (l.number == n) size features l is
dials_pushed size features (x ∷ xs) l is = λ n. dialled_if (x.number == n) size features x (link_at n xs) (link_at n (xs ++ l ∷ [])) (dials_pushed size features xs l is n)

pub dials_by_push : (size : ℕ) (features : Features) (ls ms : List Link) (l : Link) → ms ≡ ls ++ l ∷ [] → l.is_open ≡ false → l.tag ≡ None → l.reader.taken ≡ [] → IsMade size features l → StaysDialled size features ls ms
dials_by_push size features ls ms l pushed closed unnamed unread made =
    subst (λ (xs : List Link). StaysDialled size features ls xs) (sym pushed) (dials_pushed size features ls l (made, closed, unnamed, unread))

pub dials_refl : (size : ℕ) (features : Features) (ls : List Link) → StaysDialled size features ls ls
dials_refl size features ls = λ n h. h

-- what is put is put elsewhere
dialled_same : (size : ℕ) (features : Features) (l m : Link) → seen_of l ≡ seen_of m → carried_by m ≡ carried_by l → IsDialled size features (Some l) → IsDialled size features (Some m)
dialled_same size features l m seen same is =
    let queue : queue_in m.out ≡ queue_in l.out = ap (λ (c : Carried). c.0) same in
    let known : m.answer ≡ l.answer = ap (λ (c : Carried). c.1) same in
    let made : IsMade size features l = is.0 in
    let as_made : IsMade size features m = (
      sym (ap (λ (s : Seen). s.0.size) seen) ∙ made.0,
      ap (λ (a : Answer). a.size) known ∙ made.1,
      ap (λ (p : Queue). p.size) queue ∙ made.2,
      subst (λ (a : Answer). Begins COLUMNS features a.parser) (sym known) made.3,
      ap (λ (a : Answer). a.known) known ∙ made.4,
      ap (λ (p : Queue). p.is_full) queue ∙ made.5,
      ap (λ (p : Queue). p.bytes) queue ∙ made.6,
    ) in
    (as_made, sym (ap (λ (s : Seen). s.1) seen) ∙ is.1, sym (ap (λ (s : Seen). s.2) seen) ∙ is.2, sym (ap (λ (s : Seen). s.0.taken) seen) ∙ is.3)

dialled_on : (size : ℕ) (features : Features) (o p : Option Link) → StaysAt (option_map seen_of o) (option_map seen_of p) → (open_of (option_map seen_of o) ≡ None → option_map carried_by p ≡ option_map carried_by o)
    → IsDialled size features o → IsDialled size features p
dialled_on size features o None seen same is = tt
dialled_on size features None (Some m) seen same is = absurd (let u : ⊥ = cc in u)
dialled_on size features (Some l) (Some m) seen same is =
    let one : seen_of l ≡ seen_of m = (let u : Some (seen_of l) ≡ Some (seen_of m) = seen in cc) in
    let shut : open_of (option_map seen_of (Some l)) ≡ None = ap (λ (b : Bool). let o : Option Reading = if b then Some l.reader else None in o) is.1 in
    let two : carried_by m ≡ carried_by l = (let u : Some (carried_by m) ≡ Some (carried_by l) = same shut in cc) in
    dialled_same size features l m one two is

dials_rest : (size : ℕ) (features : Features) (ls ms : List Link) → LinksStay ls ms → ShutRest ls ms → StaysDialled size features ls ms
dials_rest size features ls ms stays shut = λ n is. dialled_on size features (link_at n ls) (link_at n ms) (stays.seen n (seen_at n ls) (at_refl (seen_at n ls))) (shut.rest n) is

-- its message begins, of which nothing has come
begins_anew : (features : Features) (a : Answer) → Begins COLUMNS features a.parser → Begins COLUMNS features (at_its_beginning a).parser
begins_anew features a b = record {
  ready = record { walk = record { due = refl; columns = (let le : 0 ≤ 4096 = omega arith in le); nulls = b.ready.walk.nulls }; head = refl; passed = refl; whole = refl };
  start = refl;
  columns = refl;
  room = b.room;
  acknowledged = b.acknowledged;
}

begun_by : (size : ℕ) (features : Features) (l m : Link) → seen_of l ≡ seen_of m → queue_in m.out ≡ queue_in l.out → (m.answer ≡ l.answer) ⊎ (m.answer ≡ at_its_beginning l.answer) → IsDialled size features (Some l) → IsDialled size features (Some m)
begun_by size features l m seen queue (inl known) is =
    dialled_same size features l m seen (ap (λ (p : Queue). let c : Carried = (p, m.answer) in c) queue ∙ ap (λ (a : Answer). let c : Carried = (queue_in l.out, a) in c) known) is
begun_by size features l m seen queue (inr known) is =
    let made : IsMade size features l = is.0 in
    let as_made : IsMade size features m = (
      sym (ap (λ (s : Seen). s.0.size) seen) ∙ made.0,
      ap (λ (a : Answer). a.size) known ∙ made.1,
      ap (λ (p : Queue). p.size) queue ∙ made.2,
      subst (λ (a : Answer). Begins COLUMNS features a.parser) (sym known) (begins_anew features l.answer made.3),
      ap (λ (a : Answer). a.known) known,
      ap (λ (p : Queue). p.is_full) queue ∙ made.5,
      ap (λ (p : Queue). p.bytes) queue ∙ made.6,
    ) in
    (as_made, sym (ap (λ (s : Seen). s.1) seen) ∙ is.1, sym (ap (λ (s : Seen). s.2) seen) ∙ is.2, sym (ap (λ (s : Seen). s.0.taken) seen) ∙ is.3)

known_or : (l m : Link) → MayBegin (Some l.answer) (Some m.answer) → (m.answer ≡ l.answer) ⊎ (m.answer ≡ at_its_beginning l.answer)
known_or l m (inl h) = inl (let u : Some l.answer ≡ Some m.answer = h in let v : m.answer ≡ l.answer = cc in v)
known_or l m (inr h) = inr (let u : Some (at_its_beginning l.answer) ≡ Some m.answer = h in let v : m.answer ≡ at_its_beginning l.answer = cc in v)

begun_on : (size : ℕ) (features : Features) (o p : Option Link) → StaysAt (option_map seen_of o) (option_map seen_of p) → option_map (λ (l : Link). queue_in l.out) p ≡ option_map (λ (l : Link). queue_in l.out) o
    → MayBegin (option_map (λ (l : Link). l.answer) o) (option_map (λ (l : Link). l.answer) p) → IsDialled size features o → IsDialled size features p
begun_on size features o None seen queue known is = tt
begun_on size features None (Some m) seen queue known is = absurd (let u : ⊥ = cc in u)
begun_on size features (Some l) (Some m) seen queue known is =
    begun_by size features l m (let u : Some (seen_of l) ≡ Some (seen_of m) = seen in let v : seen_of l ≡ seen_of m = cc in v)
    (let u : Some (queue_in m.out) ≡ Some (queue_in l.out) = queue in let v : queue_in m.out ≡ queue_in l.out = cc in v) (known_or l m known) is

-- one that somebody had before is lent
pub dials_again : {A E : Type 0} (r : Result A E) (size : ℕ) (features : Features) (ls ms ns : List Link) → LinksStay ls ms → ((other : ℕ) → queue_on other ms ≡ queue_on other ls) → OnOk r (LinksStay ms ns) → OnOk r (ShutRest ms ns)
    → OnOk r (StaysDialled size features ls ns)
dials_again (Ok x) size features ls ms ns h queues k shut = λ n is.
    dials_rest size features ms ns k shut n (begun_on size features (link_at n ls) (link_at n ms) (h.seen n (seen_at n ls) (at_refl (seen_at n ls))) (queues n) (h.begins n) is)
dials_again (Err e) size features ls ms ns h queues k shut = tt

-- and in a call
none_new : (o p : Option Link) → StaysAt (option_map seen_of o) (option_map seen_of p) → o ≡ None → p ≡ None
none_new o None h e = refl
none_new o (Some m) h e = absurd (let u : None ≡ Some (seen_of m) = sym (ap (option_map seen_of) e) ∙ h in let v : ⊥ = cc in v)

pub new_refl : (size : ℕ) (features : Features) (ls : List Link) → DialsNew size features ls ls
new_refl size features ls = λ n none. subst (IsDialled size features) (sym none) tt

dials_as : (size more : ℕ) (features known : Features) (ls ms : List Link) → more ≡ size → known ≡ features → StaysDialled more known ls ms → StaysDialled size features ls ms
dials_as size more features known ls ms same alike h =
    subst (λ (f : Features). StaysDialled size f ls ms) alike (subst (λ (n : ℕ). StaysDialled n known ls ms) same h)

pub dials_both : (size more : ℕ) (features known : Features) (ls ms ns : List Link) → more ≡ size → known ≡ features → StaysDialled size features ls ms → StaysDialled more known ms ns → StaysDialled size features ls ns
dials_both size more features known ls ms ns same alike h k = λ n is. dials_as size more features known ms ns same alike k n (h n is)

pub new_then : (size more : ℕ) (features known : Features) (ls ms ns : List Link) → more ≡ size → known ≡ features → LinksStay ls ms → StaysDialled more known ms ns → DialsNew size features ls ns
new_then size more features known ls ms ns same alike h k = λ n none.
    dials_as size more features known ms ns same alike k n
    (subst (IsDialled size features) (sym (none_new (link_at n ls) (link_at n ms) (h.seen n (seen_at n ls) (at_refl (seen_at n ls))) none)) tt)

pub new_served : {A E : Type 0} (r : Result A E) (size more : ℕ) (features known : Features) (ls ms ns : List Link) → more ≡ size → known ≡ features → LinksStay ls ms → OnOk r (StaysDialled more known ms ns) → OnOk r (DialsNew size features ls ns)
new_served (Ok x) size more features known ls ms ns same alike h k = new_then size more features known ls ms ns same alike h k
new_served (Err e) size more features known ls ms ns same alike h k = tt

no_link : (o : Option Link) → option_map bytes_on o ≡ None → o ≡ None
no_link None e = refl
no_link (Some l) e = absurd (let u : ⊥ = cc in u)

pub new_behind : {A E : Type 0} (r : Result A E) (size more : ℕ) (features known : Features) (ls ms ns : List Link) → more ≡ size → known ≡ features → NoneNew ls ms → OnOk r (StaysDialled more known ms ns) → OnOk r (DialsNew size features ls ns)
new_behind (Ok x) size more features known ls ms ns same alike h k = λ n none.
    dials_as size more features known ms ns same alike k n (subst (IsDialled size features) (sym (no_link (link_at n ms) (h n (ap (option_map bytes_on) none)))) tt)
new_behind (Err e) size more features known ls ms ns same alike h k = tt

-- the first one of all has come
pub first_stays : (tag number : ℕ) (old mid new : code.Relay) (l : Link) (ms : List Link) → old.links.items ≡ [] → ms ≡ old.links.items ++ l ∷ [] → l.number ≡ number → l.tag ≡ Some tag → l.is_open ≡ true → IsMade old.size old.features l
    → LinksStay ms mid.links.items → number ≤ mid.pool.service.last → KeepsGiven mid new → mid.size ≡ old.size → mid.features ≡ old.features → StaysDialled mid.size mid.features mid.links.items new.links.items → FirstStays tag number old new
first_stays tag number old mid new l ms none pushed is named is_open made stays low given same alike fresh =
    let are : ms ≡ l ∷ [] = pushed ∙ ap (λ (xs : List Link). xs ++ l ∷ []) none in
    let kept : LinksStay (l ∷ []) mid.links.items = subst (λ (xs : List Link). LinksStay xs mid.links.items) are stays in
    record {
      first = l;
      numbered = is;
      named = named;
      is_open = is_open;
      made = made;
      stays = given_behind number (l ∷ []) mid new kept low given;
      others = new_then old.size mid.size old.features mid.features (l ∷ []) mid.links.items new.links.items same alike kept fresh;
    }

-- ---- Where something is put

pub off_refl : (number : ℕ) (ls : List Link) → OffRest number ls ls
off_refl number ls = record { rest = λ n differs. refl }

pub off_then : {A E : Type 0} (r : Result A E) (number : ℕ) (ls ms ns : List Link) → OffRest number ls ms → OnOk r (OffRest number ms ns) → OnOk r (OffRest number ls ns)
off_then (Ok x) number ls ms ns h k = record { rest = λ n differs. k.rest n differs ∙ h.rest n differs }
off_then (Err e) number ls ms ns h k = tt

pub off_from : {A E : Type 0} (r : Result A E) (number : ℕ) (ls ms ns : List Link) → OffRest number ls ms → OnOk r (ns ≡ ms) → OnOk r (OffRest number ls ns)
off_from (Ok x) number ls ms ns h e = subst (λ (xs : List Link). OffRest number ls xs) (sym e) h
off_from (Err x) number ls ms ns h e = tt

pub off_by : {A E : Type 0} (r : Result A E) (number : ℕ) (ls ms : List Link) → OnOk r ((other : ℕ) → other ≢ number → queue_on other ms ≡ queue_on other ls) → OnOk r (KeepsAnswers ls ms) → OnOk r (OffRest number ls ms)
off_by (Ok x) number ls ms w k = record { rest = λ n differs. carried n ls ms (w n differs) (k.keeps n) }
off_by (Err x) number ls ms w k = tt

pub hold_unchanged : {A E : Type 0} (r : Result A E) (key : ℕ) (a b : code.Relay) → OnOk r (b.links.items ≡ a.links.items) → OnOk r (OffHoldRests key a b)
hold_unchanged (Ok x) key a b e = λ hold its. record { rest = λ n differs. ap (carried_there n) e }
hold_unchanged (Err x) key a b e = tt

pub off_same : (number : ℕ) (ls ms : List Link) → ms ≡ ls → OffRest number ls ms
off_same number ls ms e = record { rest = λ n differs. ap (carried_there n) e }

pub hold_one : (key : ℕ) (hold : Hold) (a b : code.Relay) → find_key key a.pool.holds.items ≡ Some hold → OffRest hold.number a.links.items b.links.items → OffHoldRests key a b
hold_one key hold a b its h = λ other theirs.
    let same : hold ≡ other = (let u : Some hold ≡ Some other = sym its ∙ theirs in cc) in
    subst (λ (g : Hold). OffRest g.number a.links.items b.links.items) same h

pub hold_is : {A E : Type 0} (r : Result A E) (key : ℕ) (hold : Hold) (a b : code.Relay) → find_key key a.pool.holds.items ≡ Some hold → OnOk r (OffRest hold.number a.links.items b.links.items) → OnOk r (OffHoldRests key a b)
hold_is (Ok x) key hold a b its h = hold_one key hold a b its h
hold_is (Err x) key hold a b its h = tt

pub shut_refl : (ls : List Link) → ShutRest ls ls
shut_refl ls = record { rest = λ n none. refl }

pub shut_unchanged : {A E : Type 0} (r : Result A E) (ls ms : List Link) → OnOk r (ms ≡ ls) → OnOk r (ShutRest ls ms)
shut_unchanged (Ok x) ls ms e = record { rest = λ n none. ap (carried_there n) e }
shut_unchanged (Err x) ls ms e = tt

shut_by : (number n : ℕ) (ls ms : List Link) → OffRest number ls ms → IsSome (open_at number ls) → open_at n ls ≡ None → (n ≡ number) ⊎ (n ≢ number) → carried_there n ms ≡ carried_there n ls
shut_by number n ls ms h some none (inl same) =
    absurd (let u : IsSome (open_at n ls) = subst (λ (k : ℕ). IsSome (open_at k ls)) (sym same) some in let v : false ≡ true = subst (λ (o : Option Reading). IsSome o) none u in let w : ⊥ = cc in w)
shut_by number n ls ms h some none (inr differs) = h.rest n differs

-- it is put on one that is open
pub shut_off : {A E : Type 0} (r : Result A E) (number : ℕ) (ls ms : List Link) → IsSome (open_at number ls) → OnOk r (OffRest number ls ms) → OnOk r (ShutRest ls ms)
shut_off (Ok x) number ls ms some h = record { rest = λ n none. shut_by number n ls ms h some none (cases_eq n number) }
shut_off (Err x) number ls ms some h = tt

-- what is ready holds one that is
pub held_open : (key : ℕ) (hold : Hold) (end : Option End) (d : pools.Pool) (links : List Link) → find_key key d.holds.items ≡ Some hold → IsReadyThere key end d links → IsSome (open_at hold.number links)
held_open key hold end d links its ready =
    let same : ready.hold ≡ hold = (let u : Some ready.hold ≡ Some hold = sym ready.its ∙ its in cc) in
    subst (λ (g : Hold). IsSome (open_at g.number links)) same ready.open_there
