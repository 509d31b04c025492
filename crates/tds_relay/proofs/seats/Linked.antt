-- Which connections a relay has, behind what is done with one.
use Rattle.std.proofs.Common.{◌≡◌, ◌≢◌, ◌∙◌, ◌==◌, ◌≤◌, ◌+◌, ℕ, suc, Bool, true, false, List, [], ◌∷◌, ◌++◌, Option, Some, None, is_some, inl, inr, refl, sym, ap, subst, arith, length, length-append, not, option_map, if◌then◌else◌}
use Rattle.std.proofs.lemmas.Bool.{cases_eq, eq-eqb}
use Rattle.std.specs.Prelude.{Result, Ok, Err, OnOk}
use Rattle.tds_relay.specs.declared.link.Link.{Link}
use Rattle.tds_relay.specs.Pool.{Pool}
use Rattle.tds_relay.specs.Lent.{AllLast}
use Rattle.tds_relay.specs.Reads.{LinksStay, bytes_on, link_at, reader_at, reader_of, waits_on, without_link}
use Rattle.tds_relay.specs.Few.{AreSeated, AreSeatedBut, AreSeatedOff, TakenOut, has_seat}
use Rattle.tds_relay.specs.Promises.{one_if}
use Rattle.tds_relay.specs.Sending.{sending_at, sending_of}
use Rattle.tds_relay.specs.Told.{is_there}
use Rattle.tds_relay.proofs.seats.Within.{with_one}
use Rattle.tds_relay.proofs.spared.Few.{none_stays}

-- The same are there, and no more.
pub record SameThere (old new : List Link) : Type 0 where
  pub there : (number : ℕ) → is_there number new ≡ is_there number old
  pub few : length new ≤ length old

some_mapped : {A : Type 0} (f : Link → A) (o : Option Link) → is_some o ≡ is_some (option_map f o)
some_mapped f None = refl
some_mapped f (Some l) = refl

pub there_waits : (number : ℕ) (ls : List Link) → is_there number ls ≡ is_some (waits_on number ls)
there_waits number ls = some_mapped bytes_on (link_at number ls)

-- where the same is seen of one
pub same_there : (number : ℕ) (a b : List Link) → waits_on number b ≡ waits_on number a → is_there number b ≡ is_there number a
same_there number a b e = there_waits number b ∙ ap is_some e ∙ sym (there_waits number a)

pub all_there : (a b : List Link) → length b ≡ length a → ((number : ℕ) → waits_on number b ≡ waits_on number a) → SameThere a b
all_there a b many same = record { there = λ number. same_there number a b (same number); few = (let e : length b ≡ length a = many in let t : length b ≤ length a = omega (arith, e) in t) }

sending_there : (number : ℕ) (a b : List Link) → sending_at number b ≡ sending_at number a → is_there number b ≡ is_there number a
sending_there number a b e = some_mapped sending_of (link_at number b) ∙ ap is_some e ∙ sym (some_mapped sending_of (link_at number a))

pub heard_there : (a b : List Link) → length b ≡ length a → ((number : ℕ) → sending_at number b ≡ sending_at number a) → SameThere a b
heard_there a b many same = record { there = λ number. sending_there number a b (same number); few = (let e : length b ≡ length a = many in let t : length b ≤ length a = omega (arith, e) in t) }

-- where none is there that wasn't, and each that was is
some_by : (o p : Option (List ℕ)) → (p ≡ None → o ≡ None) → (o ≡ None → p ≡ None) → is_some p ≡ is_some o
some_by None None h k = refl
some_by None (Some x) h k = absurd (let u : None ≡ Some x = sym (k refl) in let v : ⊥ = cc in v)
some_by (Some y) None h k = absurd (let u : None ≡ Some y = sym (h refl) in let v : ⊥ = cc in v)
some_by (Some y) (Some x) h k = refl

pub lasting_there : (a b : List Link) → AllLast a b → LinksStay a b → SameThere a b
lasting_there a b last stays = record {
  there = λ number.
      there_waits number b ∙ some_by (waits_on number a) (waits_on number b) (last number) (none_stays a b stays number) ∙ sym (there_waits number a);
  few = stays.few;
}

-- something is sent of what waits on one
some_dropped : (f : List ℕ → List ℕ) (o : Option (List ℕ)) → is_some (option_map f o) ≡ is_some o
some_dropped f None = refl
some_dropped f (Some x) = refl

pub changed_there : (f : List ℕ → List ℕ) (number : ℕ) (a b : List Link) → length b ≡ length a → waits_on number b ≡ option_map f (waits_on number a)
    → ((other : ℕ) → other ≢ number → waits_on other b ≡ waits_on other a) → SameThere a b
changed_there f number a b many here others = record {
  there = λ n. elim (cases_eq n number) [
    | inl is ↦
        subst (λ (k : ℕ). is_there k b ≡ is_there k a) (sym is)
        (there_waits number b ∙ ap is_some here ∙ some_dropped f (waits_on number a) ∙ sym (there_waits number a))
    | inr ne ↦ same_there n a b (others n ne)
  ];
  few = (let e : length b ≡ length a = many in let t : length b ≤ length a = omega (arith, e) in t);
}

-- ---- One comes

pushed_if : (b : Bool) (number : ℕ) (l x : Link) (xs : List Link) → is_some (link_at number (xs ++ l ∷ [])) ≡ true → is_some (if b then Some x else link_at number (xs ++ l ∷ [])) ≡ true
pushed_if true number l x xs ih = refl
pushed_if false number l x xs ih = ih

pushed_here : (number : ℕ) (l : Link) (ls : List Link) → l.number ≡ number → is_there number (ls ++ l ∷ []) ≡ true
pushed_here number l [] is = let t : (l.number == number) ≡ true = eq-eqb l.number number is in rw t refl
pushed_here number l (x ∷ xs) is = pushed_if (x.number == number) number l x xs (pushed_here number l xs is)

other_if : (b : Bool) (o p : Option Link) (x : Link) → is_some o ≡ is_some p → is_some (if b then Some x else o) ≡ is_some (if b then Some x else p)
other_if true o p x e = refl
other_if false o p x e = e

pushed_other : (other : ℕ) (l : Link) (ls : List Link) → (l.number == other) ≡ false → is_there other (ls ++ l ∷ []) ≡ is_there other ls
pushed_other other l [] ne = rw ne refl
pushed_other other l (x ∷ xs) ne = other_if (x.number == other) (link_at other (xs ++ l ∷ [])) (link_at other xs) x (pushed_other other l xs ne)

-- ---- Seats and connections

pub seated_as : (d : Pool) (a b : List Link) → SameThere a b → AreSeated d a → AreSeated d b
seated_as d a b same s = record {
  reached = s.reached;
  each = λ number. s.each number ∙ sym (same.there number);
  few =
      let c : ℕ = length d.service.seats in
      let had : length a ≤ c = s.few in
      let less : length b ≤ length a = same.few in
      let t : length b ≤ c = omega (arith, had, less) in t;
}

not_equal : (b : Bool) (n m : ℕ) → (n == m) ≡ b → n ≢ m → b ≡ false
not_equal true n m e ne = absurd (ne (let t : n ≡ m = grind arith in t))
not_equal false n m e ne = refl

-- the one that has come
pub seated_pushed : (number : ℕ) (d : Pool) (l : Link) (a b : List Link) → b ≡ a ++ l ∷ [] → l.number ≡ number → AreSeatedBut number true d a → AreSeated d b
seated_pushed number d l a b are is s = record {
  reached = s.off.reached;
  each = λ n. elim (cases_eq n number) [
    | inl same ↦
        subst (λ (k : ℕ). has_seat k d.service ≡ is_there k b) (sym same)
        (s.here ∙ sym (pushed_here number l a is) ∙ ap (is_there number) (sym are))
    | inr ne ↦
        s.off.others n ne
        ∙ sym (pushed_other n l a (not_equal (l.number == n) l.number n refl (λ e. ne (sym e ∙ is))))
        ∙ ap (is_there n) (sym are)
  ];
  few =
      let c : ℕ = length d.service.seats in
      let had : length a + 1 ≤ c + 0 =
      subst (λ (x : Bool). length a + one_if x ≤ c + 0) s.here (subst (λ (x : Bool). length a + one_if (has_seat number d.service) ≤ c + one_if x) (s.new refl) s.off.few) in
      let long : length (a ++ l ∷ []) ≡ length a + 1 = length-append a (l ∷ []) in
      let same : length b ≡ length (a ++ l ∷ []) = ap (length {A = Link}) are in
      let t : length b ≤ c = omega (arith, had, long, same) in t;
}

-- the one that is there no more
none_there : (number : ℕ) (o : Option Link) → option_map reader_of o ≡ None → is_some o ≡ false
none_there number None e = refl
none_there number (Some l) e = absurd (let u : None ≡ Some l.reader = sym e in let v : ⊥ = cc in v)

pub seated_gone : (number : ℕ) (d : Pool) (a b : List Link) → TakenOut number a b → reader_at number b ≡ None → ((other : ℕ) → other ≢ number → waits_on other b ≡ waits_on other a) → AreSeatedBut number false d a → AreSeated d b
seated_gone number d a b out gone others s = record {
  reached = s.off.reached;
  each = λ n. elim (cases_eq n number) [
    | inl same ↦
        subst (λ (k : ℕ). has_seat k d.service ≡ is_there k b) (sym same) (s.here ∙ sym (none_there number (link_at number b) gone))
    | inr ne ↦ s.off.others n ne ∙ sym (same_there n a b (others n ne))
  ];
  few =
      let c : ℕ = length d.service.seats in
      let z : ℕ = one_if (is_there number a) in
      let had : length a + 0 ≤ c + z = subst (λ (x : Bool). length a + one_if x ≤ c + one_if (is_there number a)) s.here s.off.few in
      let less : length b + z ≤ length a = out in
      let t : length b ≤ c = omega (arith, had, less) in t;
}

-- ---- Where it is so of all but one

pub off_as : (number : ℕ) (d : Pool) (a b : List Link) → SameThere a b → AreSeatedOff number d a → AreSeatedOff number d b
off_as number d a b same s = record {
  reached = s.reached;
  others = λ n ne. s.others n ne ∙ sym (same.there n);
  few =
      let c : ℕ = length d.service.seats in
      let x : ℕ = one_if (has_seat number d.service) in
      let z : ℕ = one_if (is_there number b) in
      let had : length a + x ≤ c + z = subst (λ (y : Bool). length a + one_if (has_seat number d.service) ≤ c + one_if y) (sym (same.there number)) s.few in
      let less : length b ≤ length a = same.few in
      let t : length b + x ≤ c + z = omega (arith, had, less) in t;
}

pub but_as : (number : ℕ) (has : Bool) (d : Pool) (a b : List Link) → SameThere a b → AreSeatedBut number has d a → AreSeatedBut number has d b
but_as number has d a b same s = record { off = off_as number d a b same s.off; here = s.here; new = λ is. same.there number ∙ s.new is }

-- where the connection of this number isn't there either
pub but_gone : (number : ℕ) (d : Pool) (ls : List Link) → is_there number ls ≡ false → AreSeated d ls → AreSeatedBut number false d ls
but_gone number d ls gone s = record {
  off = record {
    reached = s.reached;
    others = λ n ne. s.each n;
    few = with_one (length ls) (length d.service.seats) (has_seat number d.service) (is_there number ls) (s.each number) s.few;
  };
  here = s.each number ∙ gone;
  new = λ is. gone;
}

-- ---- One is taken out

none_longer_if : (b : Bool) (x : Link) (xs ls : List Link) → length xs ≤ length ls → length (if b then x ∷ xs else xs) ≤ suc (length ls)
none_longer_if true x xs ls h = let le : length xs ≤ length ls = h in let t : suc (length xs) ≤ suc (length ls) = omega (arith, le) in t
none_longer_if false x xs ls h = let le : length xs ≤ length ls = h in let t : length xs ≤ suc (length ls) = omega (arith, le) in t

none_longer : (number : ℕ) (ls : List Link) → length (without_link number ls) ≤ length ls
none_longer number [] = let t : 0 ≤ 0 = omega arith in t
none_longer number (l ∷ ls) = none_longer_if (not (l.number == number)) l (without_link number ls) ls (none_longer number ls)

left_if : (b : Bool) (l : Link) (o : Option Link) (xs ls : List Link) → length xs ≤ length ls → length xs + one_if (is_some o) ≤ length ls
    → length (if not b then l ∷ xs else xs) + one_if (is_some (if b then Some l else o)) ≤ suc (length ls)
left_if true l o xs ls h ih = let le : length xs ≤ length ls = h in let t : length xs + 1 ≤ suc (length ls) = omega (arith, le) in t
left_if false l o xs ls h ih =
    let k : ℕ = one_if (is_some o) in
    let le : length xs + k ≤ length ls = ih in
    let t : suc (length xs) + k ≤ suc (length ls) = omega (arith, le) in t

left_without : (number : ℕ) (ls : List Link) → TakenOut number ls (without_link number ls)
left_without number [] = let t : 0 + 0 ≤ 0 = omega arith in t
left_without number (l ∷ ls) = left_if (l.number == number) l (link_at number ls) (without_link number ls) ls (none_longer number ls) (left_without number ls)

pub out_without : (number : ℕ) (a b : List Link) → b ≡ without_link number a → TakenOut number a b
out_without number a b is = subst (TakenOut number a) (sym is) (left_without number a)

pub out_then : {A E : Type 0} (r : Result A E) (number : ℕ) (a b c : List Link) → TakenOut number a b → OnOk r (c ≡ b) → OnOk r (TakenOut number a c)
out_then (Ok x) number a b c out same = subst (TakenOut number a) (sym same) out
out_then (Err e) number a b c out same = tt

pub gone_there : (number : ℕ) (ls : List Link) → reader_at number ls ≡ None → is_there number ls ≡ false
gone_there number ls e = none_there number (link_at number ls) e
