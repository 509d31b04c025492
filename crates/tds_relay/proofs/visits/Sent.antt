-- What an application is sent since it came, and what waits for it, are what it is given.
use Rattle.std.proofs.Common.{◌≡◌, ◌∙◌, ◌==◌, ◌++◌, ℕ, Bool, true, false, List, [], ◌∷◌, refl, sym, ap, subst, append_assoc}
use Rattle.std.specs.Prelude.{Option, Some, None, take, option_map, if◌then◌else◌}
use Rattle.std.proofs.lemmas.List.{append-nil}
use Rattle.tds_packet.specs.Reading.{joined}
use Rattle.tds_relay.specs.Pool.{Sharing, whose}
use Rattle.tds_relay.specs.Giving as giving
use Rattle.tds_relay.specs.Giving.{Given, Gives, IsFrontOf, StaysAll, StaysBy, Visit, bytes_at, given, given_all, given_in, machine_at_visit, if_its, pieces_of, sent, sent_all, sent_in_visit, waits_in}
use Rattle.tds_relay.specs.Core.{end_at}
use Rattle.tds_relay.specs.Machine.{Machine, Step, Makes, Hands, Takes, Writes, Admits, Removes, MayAll, MayStep, Steps, after, after_all, change_whose_queue, handed, owed, put_all, put_some}
use Rattle.tds_relay.specs.Ties.{Cause}
use Rattle.tds_relay.specs.Queues.{Queue, Queues, tagged, change, empty_queue, queue_at, without_first}
use Rattle.tds_relay.proofs.steps.Slots.{changed_at, cleared_at}
use Rattle.tds_relay.proofs.visits.Replies.{gives, its, not_its}
use Rattle.tds_relay.proofs.visits.Stays.{came}
use Rattle.tds_relay.proofs.visits.Waiting.{Goes, IsClosed, closed_more, goes_more, goes_put, goes_same, goes_sent}

pieces_both : (xs ys : List Given) → pieces_of (xs ++ ys) ≡ pieces_of xs ++ pieces_of ys
pieces_both [] ys = refl
pieces_both (x ∷ xs) ys = ap (λ (pieces : List (List ℕ)). x ++ pieces) (pieces_both xs ys) ∙ sym (append_assoc x (pieces_of xs) (pieces_of ys))

-- ---- A step

put_given : (o : Option Given) (p : Queue) → put_some o p ≡ put_all (pieces_of (gives o)) p
put_given None p = refl
put_given (Some pieces) p = ap (λ (all : List (List ℕ)). put_all all p) (sym (append-nil pieces))

put_if : (key other : ℕ) (o : Option Given) (p : Queue) (b : Bool) → (other == key) ≡ b → (if b then Some (put_some o p) else Some p) ≡ Some (put_all (pieces_of (if_its key (Some other) o)) p)
put_if key other o p true e = ap (λ (q : Queue). Some q) (put_given o p) ∙ ap (λ (all : List Given). Some (put_all (pieces_of all) p)) (sym (its key other o e))
put_if key other o p false e = ap (λ (all : List Given). Some (put_all (pieces_of all) p)) (sym (not_its key other o e))

-- what is for one is put there, and nowhere else
goes_to : (key other : ℕ) (o : Option Given) (queues : Queues) (p : Queue) → queue_at queues key ≡ Some p
    → Goes (pieces_of (if_its key (Some other) o)) [] p (queue_at (change other (put_some o) queues) key)
goes_to key other o queues p is =
    goes_put (pieces_of (if_its key (Some other) o)) p (queue_at (change other (put_some o) queues) key)
    (changed_at Queue queues other key (put_some o)
    ∙ ap (λ (x : Option Queue). if other == key then option_map (put_some o) x else x) is
    ∙ put_if key other o p (other == key) refl)

goes_whose : (key : ℕ) (who : Option ℕ) (o : Option Given) (queues : Queues) (p : Queue) → queue_at queues key ≡ Some p
    → Goes (pieces_of (if_its key who o)) [] p (queue_at (change_whose_queue who (put_some o) queues) key)
goes_whose key None o queues p is = goes_same p (queue_at queues key) is
goes_whose key (Some other) o queues p is = goes_to key other o queues p is

writes_by : (b : Bool) (count : ℕ) (p : Queue) (o : Option Queue) → o ≡ (if b then option_map (without_first count) (Some p) else Some p)
    → Goes [] (if b then take count (bytes_at (Some p)) else []) p o
writes_by true count p o there = goes_sent count p o there
writes_by false count p o there = goes_same p o there

writes : (key other count : ℕ) (queues : Queues) (p : Queue) → queue_at queues key ≡ Some p
    → Goes [] (if other == key then take count (bytes_at (queue_at queues key)) else []) p (queue_at (change other (without_first count) queues) key)
writes key other count queues p is =
    let last : Option Queue = queue_at (change other (without_first count) queues) key in
    let there : last ≡ (if other == key then option_map (without_first count) (Some p) else Some p) =
    changed_at Queue queues other key (without_first count) ∙ ap (λ (o : Option Queue). if other == key then option_map (without_first count) o else o) is in
    subst (λ (o : Option Queue). Goes [] (if other == key then take count (bytes_at o) else []) p last) (sym is) (writes_by (other == key) count p last there)

goes_step : (key : ℕ) (h : Machine) (step : Step) (p : Queue) → MayStep h step → StaysBy key step → queue_at h.queues key ≡ Some p
    → Goes (pieces_of (given key h step)) (sent key h step) p (queue_at (after h step).queues key)
goes_step key h (Makes move) p may stays is = goes_same p (queue_at h.queues key) is
goes_step key h (Hands number header content part way manner) p may stays is = goes_whose key (whose h.core.pool number) (handed manner header content) h.queues p is
goes_step key h (Takes other bytes) p may stays is = goes_to key other (owed bytes (end_at h.core.ends other)) h.queues p is
goes_step key h (Writes other count) p may stays is = writes key other count h.queues p is
goes_step key h (Admits other ends queues) p may stays is = goes_same p (queue_at queues key) (may.3.others_stay key stays ∙ is)
goes_step key h (Removes other gives way) p may stays is = goes_same p (queue_at (after h (Removes other gives way)).queues key) (cleared_at Queue h.queues other key stays ∙ is)

-- ---- Along steps

closed_along : (key : ℕ) (h : Machine) (steps : List Step) (p : Queue) → MayAll h steps → StaysAll key steps → queue_at h.queues key ≡ Some p → p.is_full ≡ true
    → IsClosed (sent_all key h steps) p (queue_at (after_all h steps).queues key)
closed_along key h [] p may stays is full = record { queue = p; there = is; is = refl; full = full }
closed_along key h (step ∷ steps) p may stays is full =
    let one = (goes_step key h step p may.0 stays.0 is).closed full in
    closed_more (sent key h step) (sent_all key (after h step) steps) p (queue_at (after h step).queues key) (queue_at (after_all (after h step) steps).queues key) one
    (closed_along key (after h step) steps one.queue may.1 stays.1 one.there one.full)

abbrev IsKept : ℕ → Queue → Machine → List Step → Type 0
IsKept key p h steps = IsFrontOf (p.bytes ++ joined (pieces_of (given_all key h steps))) (sent_all key h steps) (queue_at (after_all h steps).queues key)

kept_along : (key : ℕ) (h : Machine) (steps : List Step) (p : Queue) → MayAll h steps → StaysAll key steps → queue_at h.queues key ≡ Some p → IsKept key p h steps
kept_along key h [] p may stays is = record { queue = p; there = is; rest = []; front = refl; whole = λ not_full. refl }
kept_along key h (step ∷ steps) p may stays is =
    let h2 = after h step in
    let g = goes_step key h step p may.0 stays.0 is in
    let last : Option Queue = queue_at (after_all h2 steps).queues key in
    let all : List ℕ = sent key h step ++ sent_all key h2 steps in
    subst (λ (pieces : List (List ℕ)). IsFrontOf (p.bytes ++ joined pieces) all last) (sym (pieces_both (given key h step) (given_all key h2 steps)))
    (goes_more g.is_open.queue.is_full (pieces_of (given key h step)) (pieces_of (given_all key h2 steps)) (sent key h step) (sent_all key h2 steps) p (queue_at h2.queues key) last g refl
    (kept_along key h2 steps g.is_open.queue may.1 stays.1 g.is_open.there)
    (closed_along key h2 steps g.is_open.queue may.1 stays.1 g.is_open.there))

pub kept : (key : ℕ) (h : Machine) (steps : List Step) → MayAll h steps → giving.IsKept key h steps
kept key h steps may p stays is = kept_along key h steps p may stays is

-- as a call says it
pub gives_by : (by : Cause) (old new : Machine) → Steps by old new → Gives by old new
gives_by by old new s = record { steps = s.steps; are = s.are; may = s.may; caused = s.caused; each = λ key. kept key old s.steps s.may }

-- ---- Since it came

pub sent_visit : (sharing : Sharing) (key : ℕ) (v : Visit sharing key) → IsFrontOf (joined (pieces_of (given_in v))) (sent_in_visit v) (waits_in v)
sent_visit sharing key v =
    let c = came sharing key v in
    let is : queue_at (machine_at_visit v).queues key ≡ Some (tagged c.may_come.2 (empty_queue c.may_come.1)) = ap (λ (h : Machine). queue_at h.queues key) c.machine_is ∙ c.may_come.3.nothing_waits in
    kept_along key (machine_at_visit v) v.since (tagged c.may_come.2 (empty_queue c.may_come.1)) c.may_since v.stays is
