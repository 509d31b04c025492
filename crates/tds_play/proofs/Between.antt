-- What lies between the ends: what a delivery and what is sent make of one direction.
use Rattle.std.proofs.Common.{◌≡◌, ◌≤◌, ◌∙◌, ℕ, ◌+◌, ◌-◌, min, List, ◌++◌, length, take, drop, flat_map, sym, ap, append_assoc, length-append, length-take, length-drop, arith}
use Rattle.std.proofs.Math.Seq.{take-add, drop-append-add}
use Rattle.std.proofs.lemmas.Grind.{flat_map-append}
use Rattle.std.proofs.lemmas.List.{take-append-le}
use Rattle.tds_world.specs.Deliveries.{IsDelivered}
use Rattle.tds_world.specs.Lane.{Lane, sent_bytes, underway, come_bytes}
use Rattle.tds_play.specs.Between.{IsLane}
use Rattle.tds_play.specs.Pipe.{Traffic, carried, next_of, sent}
use Rattle.tds_ends.specs.Stands.{Sends}

-- ---- What comes next

-- The next bytes to come are those of what waits, behind the part that has come.
next_waiting : {Entry : Type 0} (bytes : Entry → List ℕ) (t : Traffic) (lane : Lane Entry) (taken : List ℕ) (count n : ℕ) → IsLane bytes t lane taken count → next_of t n ≡ take n (drop lane.part (flat_map bytes lane.waiting))
next_waiting bytes t lane taken count n is =
    let arrived : List ℕ = flat_map bytes lane.arrived in
    let waiting : List ℕ = flat_map bytes lane.waiting in
    let all : t.handed ≡ arrived ++ waiting = is.handed ∙ flat_map-append bytes lane.arrived lane.waiting in
    ap (λ (xs : List ℕ). take n (drop (length t.came) xs)) all
    ∙ ap (λ (k : ℕ). take n (drop k (arrived ++ waiting))) is.came
    ∙ ap (take n) (drop-append-add arrived waiting lane.part)

-- With what the reader holds, they are the front of what waits.
pub offered_front : {Entry : Type 0} (bytes : Entry → List ℕ) (t : Traffic) (lane : Lane Entry) (taken : List ℕ) (count n : ℕ) → IsLane bytes t lane taken count → taken ++ next_of t n ≡ take (lane.part + n) (flat_map bytes lane.waiting)
offered_front bytes t lane taken count n is =
    ap (λ (xs : List ℕ). xs ++ next_of t n) is.left
    ∙ ap (λ (xs : List ℕ). take lane.part (flat_map bytes lane.waiting) ++ xs) (next_waiting bytes t lane taken count n is)
    ∙ sym (take-add lane.part n (flat_map bytes lane.waiting))

-- So many come.
long_next : {Entry : Type 0} (bytes : Entry → List ℕ) (t : Traffic) (lane : Lane Entry) (taken : List ℕ) (count n : ℕ) → IsLane bytes t lane taken count → n ≤ count → length (next_of t n) ≡ n
long_next bytes t lane taken count n is less =
    let waiting : List ℕ = flat_map bytes lane.waiting in
    ap length (next_waiting bytes t lane taken count n is)
    ∙ omega (arith, length-take n (drop lane.part waiting), length-drop lane.part waiting, is.counts, less)

-- ---- A delivery

pub lane_delivered : {Entry : Type 0} (bytes : Entry → List ℕ) (n : ℕ) (t : Traffic) (old new : Lane Entry) (taken rest : List ℕ) (count : ℕ) → IsLane bytes t old taken count → IsDelivered bytes n old new → rest ≡ take new.part (flat_map bytes new.waiting) → IsLane bytes (carried t (next_of t (min n count))) new rest (count - min n count)
lane_delivered bytes n t old new taken rest count is d left =
    let front : List ℕ = flat_map bytes d.front in
    let waiting : List ℕ = flat_map bytes new.waiting in
    let some : ℕ = min n count in
    let same : min n (underway bytes old) ≡ some = ap (min n) (sym is.counts) in
    let split : flat_map bytes old.waiting ≡ front ++ waiting = ap (flat_map bytes) d.longest.split ∙ flat_map-append bytes d.front new.waiting in
    let long : length (flat_map bytes old.waiting) ≡ length front + length waiting = ap length split ∙ length-append front waiting in
    let arrived : flat_map bytes new.arrived ≡ flat_map bytes old.arrived ++ front = ap (flat_map bytes) d.arrived ∙ flat_map-append bytes old.arrived d.front in
    let part : length front + new.part ≡ old.part + some = d.part ∙ ap (λ (k : ℕ). old.part + k) same in
    let less : some ≤ count = omega (arith) in
    let now : length (flat_map bytes new.arrived) ≡ length (flat_map bytes old.arrived) + length front = ap length arrived ∙ length-append (flat_map bytes old.arrived) front in
    record {
      handed =
          is.handed ∙ flat_map-append bytes old.arrived old.waiting
          ∙ ap (λ (xs : List ℕ). flat_map bytes old.arrived ++ xs) split
          ∙ sym (append_assoc (flat_map bytes old.arrived) front waiting)
          ∙ ap (λ (xs : List ℕ). xs ++ waiting) (sym arrived)
          ∙ sym (flat_map-append bytes new.arrived new.waiting);
      came =
          length-append t.came (next_of t some)
          ∙ omega (arith, is.came, long_next bytes t old taken count some is less, part, now);
      order =
          ap (λ (xs : List ℕ). xs ++ next_of t some) is.order
          ∙ sym (take-add (length t.came) some t.handed)
          ∙ ap (λ (k : ℕ). take k t.handed) (sym (length-append t.came (next_of t some) ∙ ap (λ (k : ℕ). length t.came + k) (long_next bytes t old taken count some is less)));
      within = omega (arith, part, long, is.counts, is.within, less);
      left = left;
      counts = omega (arith, part, long, is.counts, is.within, less);
    }

-- A failure brings nothing.
pub lane_stuck : {Entry : Type 0} (bytes : Entry → List ℕ) (t : Traffic) (failures : ℕ) (lane : Lane Entry) (taken : List ℕ) (count : ℕ) → IsLane bytes t lane taken count → IsLane bytes (record t { carry_failures = failures }) lane taken count
lane_stuck bytes t failures lane taken count is = record {
  handed = is.handed;
  came = is.came;
  order = is.order;
  within = is.within;
  left = is.left;
  counts = is.counts;
}

-- ---- What is sent

take_same : (a b : ℕ) (xs more ys : List ℕ) → a ≤ length xs → ys ≡ xs ++ more → b ≡ a → take a xs ≡ take b ys
take_same a b xs more ys within e same =
    sym (take-append-le a xs more within) ∙ ap (take a) (sym e) ∙ ap (λ (k : ℕ). take k ys) (sym same)

-- No more came than was handed over.
come_within : {Entry : Type 0} (bytes : Entry → List ℕ) (t : Traffic) (lane : Lane Entry) (taken : List ℕ) (count : ℕ) → IsLane bytes t lane taken count → length t.came ≤ length t.handed
come_within bytes t lane taken count is =
    let all : length t.handed ≡ length (flat_map bytes lane.arrived) + length (flat_map bytes lane.waiting) =
    ap length (is.handed ∙ flat_map-append bytes lane.arrived lane.waiting) ∙ length-append (flat_map bytes lane.arrived) (flat_map bytes lane.waiting) in
    omega (arith, is.came, all, is.within)

-- What came is what the lane says.
pub lane_came : {Entry : Type 0} (bytes : Entry → List ℕ) (t : Traffic) (lane : Lane Entry) (taken : List ℕ) (count : ℕ) → IsLane bytes t lane taken count → t.came ≡ come_bytes bytes lane
lane_came bytes t lane taken count is =
    is.order ∙ ap (λ (k : ℕ). take k t.handed) is.came ∙ ap (take (length (flat_map bytes lane.arrived) + lane.part)) is.handed

pub lane_sent : {Entry : Type 0} (bytes : Entry → List ℕ) (more : List ℕ) (failures : ℕ) (t : Traffic) (old new : Lane Entry) (taken : List ℕ) (count now : ℕ) → IsLane bytes t old taken count → Sends bytes more old new → now ≡ count + length more → IsLane bytes (sent t more failures) new taken now
lane_sent {Entry} bytes more failures t old new taken count now is s e =
    let waiting : List ℕ = flat_map bytes old.waiting in
    let long : length (flat_map bytes new.waiting) ≡ length waiting + length more = ap length s.waiting ∙ length-append waiting more in
    let all : sent_bytes bytes new ≡ sent_bytes bytes old ++ more =
    flat_map-append bytes new.arrived new.waiting
    ∙ ap (λ (xs : List ℕ). flat_map bytes new.arrived ++ xs) s.waiting
    ∙ ap (λ (es : List Entry). flat_map bytes es ++ (waiting ++ more)) s.arrived
    ∙ sym (append_assoc (flat_map bytes old.arrived) waiting more)
    ∙ ap (λ (xs : List ℕ). xs ++ more) (sym (flat_map-append bytes old.arrived old.waiting)) in
    record {
      handed = ap (λ (xs : List ℕ). xs ++ more) is.handed ∙ sym all;
      came = is.came ∙ omega (arith, ap (λ (es : List Entry). length (flat_map bytes es)) s.arrived, s.part);
      order = is.order ∙ sym (take-append-le (length t.came) t.handed more (come_within bytes t old taken count is));
      within = omega (arith, long, s.part, is.within);
      left = is.left ∙ take_same old.part new.part waiting more (flat_map bytes new.waiting) is.within s.waiting s.part;
      counts = e ∙ omega (arith, is.counts, long, s.part, is.within);
    }
