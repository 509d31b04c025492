-- An attention that is seen later leaves a conversation where it was, as long as the server goes on with the answer.
use Rattle.std.proofs.Common.{◌≡◌, ◌∙◌, ℕ, Bool, true, false, List, [], ◌∷◌, ◌++◌, refl, ap, subst}
use Rattle.tds_judge.specs.declared.finding.Spot.{Spot}
use Rattle.tds_judge.specs.declared.talk.Event.{Event}
use Rattle.tds_judge.specs.declared.talk.Event.TheVariants as events
use Rattle.tds_judge.specs.declared.talk.Reset.{Reset}
use Rattle.tds_judge.specs.declared.talk.Reset.TheVariants as resets
use Rattle.tds_judge.specs.declared.talk.Transaction.{Transaction}
use Rattle.tds_judge.specs.Breaches.{agreed_last, dated_by, is_dated, most_by, size_by, size_told}
use Rattle.tds_judge.specs.Conversation.{IsLawful, May, MayAt, MayStop, Place, Quiet, Greeting, Entering, Asking, Answering, Stopping, Skipping, place_by, place_of, stopped_at}
use Rattle.tds_judge.specs.History.{Said, asks_by, asks_of, cleared_by, forgotten_by, is_cleared, is_forgotten, last_by, last_told}
use Rattle.tds_judge.specs.Talking.{owed}
use Rattle.laws_never_blamed.specs.Crossing.{IsOfServer}

abbrev said : Spot → Event → Said
said spot event = record { spot = spot; event = event }

-- two conversations behind which the same may be said
record Same (xs ys : List Said) : Type 0 where
  place : place_of xs ≡ place_of ys
  last : last_told xs ≡ last_told ys
  asks : asks_of xs ≡ asks_of ys
  cleared : is_cleared xs ≡ is_cleared ys
  agreed : agreed_last xs ≡ agreed_last ys
  size : size_told xs ≡ size_told ys
  dated : is_dated xs ≡ is_dated ys
  forgotten : is_forgotten xs ≡ is_forgotten ys

same_more : (x : Said) (xs ys : List Said) → Same xs ys → Same (x ∷ xs) (x ∷ ys)
unfolding place_of last_told asks_of is_cleared agreed_last size_told is_dated is_forgotten
same_more x xs ys s = record {
  place = ap (place_by x.event) s.place;
  last =
      ap (λ (r : Reset). last_by x.event (owed (is_cleared xs) r) (last_told xs)) s.asks
      ∙ (ap (λ (b : Bool). last_by x.event (owed b (asks_of ys)) (last_told xs)) s.cleared ∙ ap (last_by x.event (owed (is_cleared ys) (asks_of ys))) s.last);
  asks = ap (asks_by x.event) s.asks;
  cleared = ap (cleared_by x.event) s.cleared;
  agreed = ap (size_by x.event) s.agreed;
  size = ap (λ (n : ℕ). most_by x.event n (size_told xs)) s.agreed ∙ ap (most_by x.event (agreed_last ys)) s.size;
  dated = ap (dated_by x.event) s.dated;
  forgotten = ap (forgotten_by x.event) s.forgotten;
}

may_same : (event : Event) (xs ys : List Said) → Same xs ys → May xs event → May ys event
may_same event xs ys s may =
    subst (λ (b : Bool). MayAt (place_of ys) (last_told ys) (size_told ys) (is_dated ys) b event) s.forgotten
    (subst (λ (b : Bool). MayAt (place_of ys) (last_told ys) (size_told ys) b (is_forgotten xs) event) s.dated
    (subst (λ (n : ℕ). MayAt (place_of ys) (last_told ys) n (is_dated xs) (is_forgotten xs) event) s.size
    (subst (λ (t : Transaction). MayAt (place_of ys) t (size_told xs) (is_dated xs) (is_forgotten xs) event) s.last
    (subst (λ (p : Place). MayAt p (last_told xs) (size_told xs) (is_dated xs) (is_forgotten xs) event) s.place may))))

same_rest : (rest xs ys : List Said) → Same xs ys → Same (rest ++ xs) (rest ++ ys)
same_rest [] xs ys s = s
same_rest (x ∷ rest) xs ys s = same_more x (rest ++ xs) (rest ++ ys) (same_rest rest xs ys s)

lawful_rest : (rest xs ys : List Said) → Same xs ys → IsLawful (rest ++ xs) → IsLawful ys → IsLawful (rest ++ ys)
unfolding IsLawful
lawful_rest [] xs ys s lawful there = there
lawful_rest (x ∷ rest) xs ys s lawful there =
    (lawful_rest rest xs ys s lawful.0 there, may_same x.event (rest ++ xs) (rest ++ ys) (same_rest rest xs ys s) lawful.1)

-- before the rest
lawful_before : (rest xs : List Said) → IsLawful (rest ++ xs) → IsLawful xs
unfolding IsLawful
lawful_before [] xs lawful = lawful
lawful_before (x ∷ rest) xs lawful = lawful_before rest xs lawful.0

-- where both orders lead to, and that the attention may be sent behind the server's word
place_crossed : (place : Place) (last : Transaction) (most : ℕ) (dated forgotten : Bool) (event : Event) → IsOfServer event → MayStop place → MayAt place last most dated forgotten event
    → (place_by event (stopped_at place) ≡ stopped_at (place_by event place)) × MayStop (place_by event place)
place_crossed place last most dated forgotten (events.Packet size fills) is stop may = (refl, stop)
place_crossed (Asking reset) last most dated forgotten events.Answer is stop may = (refl, tt)
place_crossed (Answering reset final) last most dated forgotten (events.Says token) is stop may = (ap Skipping may.0, tt)
place_crossed (Answering resets.None true) last most dated forgotten (events.Answered true) is stop may = (refl, tt)
place_crossed Quiet last most dated forgotten events.Answer is stop may = (refl, tt)
place_crossed Quiet last most dated forgotten (events.Says token) is stop may = absurd may.0
place_crossed Quiet last most dated forgotten (events.Answered whole) is stop may = absurd may
place_crossed (Asking reset) last most dated forgotten (events.Says token) is stop may = absurd may.0
place_crossed (Asking reset) last most dated forgotten (events.Answered whole) is stop may = absurd may
place_crossed (Answering reset final) last most dated forgotten events.Answer is stop may = absurd may
place_crossed (Answering reset final) last most dated forgotten (events.Answered whole) is stop may = absurd may
place_crossed (Greeting enters) last most dated forgotten _ is stop may = absurd stop
place_crossed Entering last most dated forgotten _ is stop may = absurd stop
place_crossed Stopping last most dated forgotten _ is stop may = absurd stop
place_crossed (Skipping done) last most dated forgotten _ is stop may = absurd stop
place_crossed place last most dated forgotten _ is stop may = absurd is

-- nothing that the server says ends a message that is to be ignored
none_forgotten : (event : Event) → IsOfServer event → forgotten_by event false ≡ false
none_forgotten (events.Packet size fills) is = refl
none_forgotten events.Answer is = refl
none_forgotten (events.Says token) is = refl
none_forgotten (events.Answered whole) is = refl
none_forgotten _ is = absurd is

pub crossed : (past rest : List Said) (here there : Spot) (size status : ℕ) (event : Event)
    → IsOfServer event → May past event
    → IsLawful (rest ++ said there event ∷ said here (events.Attention size status) ∷ past)
    → IsLawful (rest ++ said here (events.Attention size status) ∷ said there event ∷ past)
unfolding IsLawful place_of last_told asks_of is_cleared agreed_last size_told is_dated is_forgotten
crossed past rest here there size status event is may lawful =
    let xs = said there event ∷ said here (events.Attention size status) ∷ past in
    let ys = said here (events.Attention size status) ∷ said there event ∷ past in
    let before = lawful_before rest xs lawful in
    let attends = before.0.1 in
    let both = place_crossed (place_of past) (last_told past) (size_told past) (is_dated past) (is_forgotten past) event is attends.0 may in
    lawful_rest rest xs ys (record { place = both.0; last = refl; asks = refl; cleared = refl; agreed = refl; size = refl; dated = refl; forgotten = none_forgotten event is }) lawful
    ((before.0.0, may), (both.1, attends.1, attends.2))
