-- What waits for one application, behind what is put there and what it is sent.
use Rattle.std.proofs.Common.{◌≡◌, ◌∙◌, ◌++◌, ℕ, Bool, true, false, List, [], ◌∷◌, refl, sym, ap, subst, append_assoc}
use Rattle.std.specs.Prelude.{Option, Some, take, if◌then◌else◌}
use Rattle.std.proofs.lemmas.List.{append-nil, take-append-drop}
use Rattle.tds_packet.specs.Reading.{joined}
use Rattle.tds_relay.specs.Giving.{IsFrontOf}
use Rattle.tds_relay.specs.Machine.{put_all}
use Rattle.tds_relay.specs.Queues.{Queue, fits, put_behind, without_first}

pub joined_both : (xs ys : List (List ℕ)) → joined (xs ++ ys) ≡ joined xs ++ joined ys
joined_both [] ys = refl
joined_both (x ∷ xs) ys = ap (λ (z : List ℕ). x ++ z) (joined_both xs ys) ∙ sym (append_assoc x (joined xs) (joined ys))

-- ---- What is put

-- All of it; or a front of it, and then nothing more is put.
record IsPut (pieces : List (List ℕ)) (p q : Queue) : Type 0 where
  rest : List ℕ
  front : q.bytes ++ rest ≡ p.bytes ++ joined pieces
  whole : q.is_full ≡ false → rest ≡ []

abbrev kept_queue : Queue → Bool → Queue
kept_queue p full = record { tag = p.tag; size = p.size; bytes = p.bytes; is_full = full }

abbrev put_queue : List ℕ → Queue → Queue
put_queue bytes p = record { tag = p.tag; size = p.size; bytes = p.bytes ++ bytes; is_full = false }

pub put_fits : (bytes : List ℕ) (p : Queue) → fits p bytes ≡ true → put_behind bytes p ≡ put_queue bytes p
unfolding put_behind
put_fits bytes p e = subst (λ (b : Bool). (if b then put_queue bytes p else kept_queue p true) ≡ put_queue bytes p) (sym e) refl

pub put_fills : (bytes : List ℕ) (p : Queue) → fits p bytes ≡ false → put_behind bytes p ≡ kept_queue p true
unfolding put_behind
put_fills bytes p e = subst (λ (b : Bool). (if b then put_queue bytes p else kept_queue p true) ≡ kept_queue p true) (sym e) refl

full_put : (bytes : List ℕ) (p : Queue) → p.is_full ≡ true → put_behind bytes p ≡ p
full_put bytes p full =
    let same : p ≡ kept_queue p true = ap (kept_queue p) full in
    ap (put_behind bytes) same ∙ put_fills bytes (kept_queue p true) refl ∙ sym same

full_all : (pieces : List (List ℕ)) (p : Queue) → p.is_full ≡ true → put_all pieces p ≡ p
full_all [] p full = refl
full_all (x ∷ xs) p full = ap (put_all xs) (full_put x p full) ∙ full_all xs p full

put_by : (pieces : List (List ℕ)) (x : List ℕ) (p : Queue) (fit : Bool) → fits p x ≡ fit → ((q : Queue) → IsPut pieces q (put_all pieces q)) → IsPut (x ∷ pieces) p (put_all (x ∷ pieces) p)
put_by pieces x p true e later =
    let is : put_behind x p ≡ put_queue x p = put_fits x p e in
    let l : IsPut pieces (put_behind x p) (put_all pieces (put_behind x p)) = later (put_behind x p) in
    record {
      rest = l.rest;
      front = l.front ∙ ap (λ (r : Queue). r.bytes ++ joined pieces) is ∙ append_assoc p.bytes x (joined pieces);
      whole = l.whole;
    }
put_by pieces x p false e later =
    let all : put_all pieces (put_behind x p) ≡ kept_queue p true = ap (put_all pieces) (put_fills x p e) ∙ full_all pieces (kept_queue p true) refl in
    record {
      rest = joined (x ∷ pieces);
      front = ap (λ (r : Queue). r.bytes ++ joined (x ∷ pieces)) all;
      whole = λ not_full. absurd (let u : true ≡ false = sym (ap (λ (r : Queue). r.is_full) all) ∙ not_full in let v : ⊥ = cc in v);
    }

is_put : (pieces : List (List ℕ)) (p : Queue) → IsPut pieces p (put_all pieces p)
is_put [] p = record { rest = []; front = refl; whole = λ not_full. refl }
is_put (x ∷ xs) p = put_by xs x p (fits p x) refl (is_put xs)

-- ---- One thing that happens to it

-- Nothing more is put: what was sent and what waits is what waited.
pub record IsClosed (sent : List ℕ) (p : Queue) (o : Option Queue) : Type 0 where
  pub queue : Queue
  pub there : o ≡ Some queue
  pub is : sent ++ queue.bytes ≡ p.bytes
  pub full : queue.is_full ≡ true

pub record Goes (pieces : List (List ℕ)) (sent : List ℕ) (p : Queue) (o : Option Queue) : Type 0 where
  pub is_open : IsFrontOf (p.bytes ++ joined pieces) sent o
  pub closed : p.is_full ≡ true → IsClosed sent p o

pub goes_same : (p : Queue) (o : Option Queue) → o ≡ Some p → Goes [] [] p o
goes_same p o there = record {
  is_open = record { queue = p; there = there; rest = []; front = refl; whole = λ not_full. refl };
  closed = λ full. record { queue = p; there = there; is = refl; full = full };
}

pub goes_put : (pieces : List (List ℕ)) (p : Queue) (o : Option Queue) → o ≡ Some (put_all pieces p) → Goes pieces [] p o
goes_put pieces p o there =
    let put : IsPut pieces p (put_all pieces p) = is_put pieces p in
    record {
      is_open = record { queue = put_all pieces p; there = there; rest = put.rest; front = put.front; whole = put.whole };
      closed = λ full. record {
        queue = put_all pieces p;
        there = there;
        is = ap (λ (q : Queue). q.bytes) (full_all pieces p full);
        full = ap (λ (q : Queue). q.is_full) (full_all pieces p full) ∙ full;
      };
    }

pub goes_sent : (count : ℕ) (p : Queue) (o : Option Queue) → o ≡ Some (without_first count p) → Goes [] (take count p.bytes) p o
goes_sent count p o there = record {
  is_open = record {
    queue = without_first count p;
    there = there;
    rest = [];
    front = ap (λ (xs : List ℕ). xs ++ []) (take-append-drop count p.bytes);
    whole = λ not_full. refl;
  };
  closed = λ full. record { queue = without_first count p; there = there; is = take-append-drop count p.bytes; full = full };
}

-- ---- One thing behind the other

fronts_join : (a b w r q p j k : List ℕ) → (a ++ q) ++ [] ≡ p ++ j → (b ++ w) ++ r ≡ q ++ k → ((a ++ b) ++ w) ++ r ≡ p ++ (j ++ k)
fronts_join a b w r q p j k first second =
    ap (λ (xs : List ℕ). xs ++ r) (append_assoc a b w)
    ∙ append_assoc a (b ++ w) r
    ∙ ap (λ (xs : List ℕ). a ++ xs) second
    ∙ sym (append_assoc a q k)
    ∙ ap (λ (xs : List ℕ). xs ++ k) (sym (append-nil (a ++ q)) ∙ first)
    ∙ append_assoc p j k

fronts_close : (a b w r q p j k : List ℕ) → (a ++ q) ++ r ≡ p ++ j → b ++ w ≡ q → ((a ++ b) ++ w) ++ (r ++ k) ≡ p ++ (j ++ k)
fronts_close a b w r q p j k first second =
    ap (λ (xs : List ℕ). xs ++ (r ++ k)) (append_assoc a b w ∙ ap (λ (xs : List ℕ). a ++ xs) second)
    ∙ sym (append_assoc (a ++ q) r k)
    ∙ ap (λ (xs : List ℕ). xs ++ k) first
    ∙ append_assoc p j k

pub closed_more : (a b : List ℕ) (p : Queue) (o last : Option Queue) → (one : IsClosed a p o) → IsClosed b one.queue last → IsClosed (a ++ b) p last
closed_more a b p o last one later = record {
  queue = later.queue;
  there = later.there;
  is = append_assoc a b later.queue.bytes ∙ ap (λ (xs : List ℕ). a ++ xs) later.is ∙ one.is;
  full = later.full;
}

-- what was given behind it goes on, unless that is full
pub goes_more : (full : Bool) (pieces more : List (List ℕ)) (a b : List ℕ) (p : Queue) (o last : Option Queue) → (g : Goes pieces a p o) → g.is_open.queue.is_full ≡ full
    → IsFrontOf (g.is_open.queue.bytes ++ joined more) b last → (g.is_open.queue.is_full ≡ true → IsClosed b g.is_open.queue last) → IsFrontOf (p.bytes ++ joined (pieces ++ more)) (a ++ b) last
goes_more false pieces more a b p o last g e later closed =
    let none : g.is_open.rest ≡ [] = g.is_open.whole e in
    record {
      queue = later.queue;
      there = later.there;
      rest = later.rest;
      front = fronts_join a b later.queue.bytes later.rest g.is_open.queue.bytes p.bytes (joined pieces) (joined more)
          (subst (λ (xs : List ℕ). (a ++ g.is_open.queue.bytes) ++ xs ≡ p.bytes ++ joined pieces) none g.is_open.front) later.front
          ∙ ap (λ (xs : List ℕ). p.bytes ++ xs) (sym (joined_both pieces more));
      whole = later.whole;
    }
goes_more true pieces more a b p o last g e later closed =
    let shut = closed e in
    record {
      queue = shut.queue;
      there = shut.there;
      rest = g.is_open.rest ++ joined more;
      front = fronts_close a b shut.queue.bytes g.is_open.rest g.is_open.queue.bytes p.bytes (joined pieces) (joined more) g.is_open.front shut.is
          ∙ ap (λ (xs : List ℕ). p.bytes ++ xs) (sym (joined_both pieces more));
      whole = λ not_full. absurd (let u : true ≡ false = sym shut.full ∙ not_full in let v : ⊥ = cc in v);
    }
