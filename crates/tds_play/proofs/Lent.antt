-- Which connection the next lease gets, by where each stands: of links, and in the model.
use Rattle.std.proofs.Common.{◌≡◌, ◌∙◌, ℕ, suc, ◌+◌, ◌<◌, ◌≤◌, Bool, true, false, not, cond, refl, sym, ap, subst, ltb, List, [], ◌∷◌, length, map, filter, Option, Some, None, option_map, arith}
use Rattle.std.proofs.lemmas.Bool.Decides.{nat_tests}
use Rattle.std.proofs.lemmas.Iterator.Adapters.{position_from-zero}
use Rattle.std.proofs.lemmas.List.{length-map}
use Rattle.std.specs.List.{position, position_or_len, position_from, slice_get}
use Rattle.tds_world.specs.declared.event.Setup.{Setup}
use Rattle.tds_world.specs.Connection.{Connection, Standing, In, Cut, is_cut}
use Rattle.tds_world.specs.Pool.{is_free, first_of, lowest_free, pool_count, to_lend_by, to_lend}
use Rattle.tds_world.specs.World.{World, next_number}
use Rattle.tds_world.specs.World as model
use Rattle.tds_world.specs.declared.outcome.Refusal.TheVariants.{AllInUse}
use Rattle.tds_play.specs.Lending as play
use Rattle.tds_play.specs.Lending.{RefinesFound, is_in_pool, lent, lent_by}

-- ---- Places and counts of a list that stands for another one

place_map : {X Y : Type 0} (p : Y → Bool) (f : X → Y) (xs : List X) → position_or_len p (map f xs) ≡ position_or_len (λ x. p (f x)) xs
place_map p f [] = refl
place_map p f (x ∷ xs) = ap (λ (n : ℕ). cond (not (p (f x))) (1 + n) 0) (place_map p f xs)

position_map : {X Y : Type 0} (p : Y → Bool) (f : X → Y) (xs : List X) → position p (map f xs) ≡ position (λ x. p (f x)) xs
position_map p f xs =
    ap (λ (n : ℕ). cond (ltb n (length (map f xs))) (Some n) None) (place_map p f xs)
    ∙ ap (λ (n : ℕ). cond (ltb (position_or_len (λ x. p (f x)) xs) n) (Some (position_or_len (λ x. p (f x)) xs)) None) (length-map xs f)

count_map : {X Y : Type 0} (p : Y → Bool) (f : X → Y) (xs : List X) → length (filter p (map f xs)) ≡ length (filter (λ x. p (f x)) xs)
count_map p f [] = refl
count_map {X} {Y} p f (x ∷ xs) = by_first (p (f x)) (count_map p f xs)
  where
    by_first : (b : Bool) → length (filter p (map f xs)) ≡ length (filter (λ x. p (f x)) xs) → length (cond b (f x ∷ filter p (map f xs)) (filter p (map f xs))) ≡ length (cond b (x ∷ filter (λ x. p (f x)) xs) (filter (λ x. p (f x)) xs))
    by_first true e = ap suc e
    by_first false e = e

pub lent_is : {X : Type 0} (f : X → Standing) (xs : List X) (max : ℕ) → lent_by (position (λ x. is_free (f x)) xs) (length (filter (λ x. is_in_pool (f x)) xs)) max ≡ lent (map f xs) max
lent_is f xs max =
    ap (λ (o : Option ℕ). lent_by o (length (filter (λ x. is_in_pool (f x)) xs)) max) (sym (position_map is_free f xs))
    ∙ ap (λ (n : ℕ). lent_by (position is_free (map f xs)) n max) (sym (count_map is_in_pool f xs))

pub opens_where : (n max : ℕ) → n < max → play.Opens ≡ lent_by None n max
opens_where n max room =
    let is_room : ltb n max ≡ true = grind (arith, nat_tests, room) in
    sym (ap (λ (b : Bool). cond b play.Opens (play.Missing AllInUse)) is_room)

pub none_where : (n max : ℕ) → max ≤ n → play.Missing AllInUse ≡ lent_by None n max
none_where n max full =
    let is_full : ltb n max ≡ false = grind (arith, nat_tests, full) in
    sym (ap (λ (b : Bool). cond b play.Opens (play.Missing AllInUse)) is_full)

-- ---- The model's choice

first_is : (i : ℕ) (b : Bool) (later found : Option ℕ) → later ≡ option_map suc found → first_of b (suc i) later ≡ option_map suc (cond b (Some i) found)
first_is i true later found e = refl
first_is i false later found e = e

-- The number of the first free connection is one more than its place.
pub lowest_is : (i : ℕ) (cs : List Connection) → lowest_free (suc i) cs ≡ option_map suc (position_from is_free i (map (λ c. c.standing) cs))
lowest_is i [] = refl
lowest_is i (c ∷ cs) =
    let next : suc (suc i) ≡ suc (i + 1) = omega arith in
    first_is i (is_free c.standing) (lowest_free (suc (suc i)) cs) (position_from is_free (i + 1) (map (λ d. d.standing) cs))
    (ap (λ (n : ℕ). lowest_free n cs) next ∙ lowest_is (i + 1) cs)

pub pool_is : (cs : List Connection) → pool_count cs ≡ length (filter is_in_pool (map (λ c. c.standing) cs))
pool_is [] = refl
pool_is (c ∷ cs) = by_standing c.standing (pool_is cs)
  where
    by_standing : (s : Standing) → pool_count cs ≡ length (filter is_in_pool (map (λ d. d.standing) cs)) → cond (is_cut s) 0 1 + pool_count cs ≡ length (cond (is_in_pool s) (s ∷ filter is_in_pool (map (λ d. d.standing) cs)) (filter is_in_pool (map (λ d. d.standing) cs)))
    by_standing (In p) e = let one : 1 + pool_count cs ≡ suc (length (filter is_in_pool (map (λ d. d.standing) cs))) = omega (arith, e) in one
    by_standing Cut e = let none : 0 + pool_count cs ≡ length (filter is_in_pool (map (λ d. d.standing) cs)) = omega (arith, e) in none

-- A free connection stands at the place that was found.
record StandsAt (cs : List Connection) (i j : ℕ) : Type 0 where
  place : ℕ
  at : j ≡ i + place
  connection : Connection
  there : slice_get cs place ≡ Some connection

found_at : (i j : ℕ) (cs : List Connection) → position_from is_free i (map (λ c. c.standing) cs) ≡ Some j → StandsAt cs i j
found_at i j [] e = absurd (cc)
found_at i j (c ∷ cs) e = by_first (is_free c.standing) (λ k. found_at (i + 1) j cs k) e
  where
    by_first : (b : Bool) → (position_from is_free (i + 1) (map (λ d. d.standing) cs) ≡ Some j → StandsAt cs (i + 1) j) → cond b (Some i) (position_from is_free (i + 1) (map (λ d. d.standing) cs)) ≡ Some j → StandsAt (c ∷ cs) i j
    by_first true rest e = let same : i ≡ j = cc in record { place = 0; at = omega (arith, same); connection = c; there = refl }
    by_first false rest e = let k : StandsAt cs (i + 1) j = rest e in record { place = suc k.place; at = omega (arith, k.at); connection = k.connection; there = k.there }

by_found : (setup : Setup) (w : World) (o : Option ℕ) → position_from is_free 0 (map (λ c. c.standing) w.connections) ≡ o → RefinesFound w (lent_by o (pool_count w.connections) setup.max) (to_lend_by setup w (option_map suc o))
by_found setup w None e = by_room (ltb (pool_count w.connections) setup.max)
  where
    by_room : (b : Bool) → RefinesFound w (cond b play.Opens (play.Missing AllInUse)) (cond b (model.Opens (next_number w.connections)) (model.Missing AllInUse))
    by_room true = refl
    by_room false = refl
by_found setup w (Some j) e =
    let k : StandsAt w.connections 0 j = found_at 0 j w.connections e in
    let same : j ≡ k.place = omega (arith, k.at) in
    let there : slice_get w.connections j ≡ Some k.connection = ap (λ (n : ℕ). slice_get w.connections n) same ∙ k.there in
    subst (λ (o : Option Connection). RefinesFound w (play.Here j) (model.there AllInUse (suc j) o)) (sym there) (refl, there)

pub position_is : (ss : List Standing) → position is_free ss ≡ position_from is_free 0 ss
position_is ss = position_from-zero is_free ss

pub lends_alike : (setup : Setup) (w : World) → RefinesFound w (lent (map (λ c. c.standing) w.connections) setup.max) (to_lend setup w)
lends_alike setup w =
    let standings : List Standing = map (λ c. c.standing) w.connections in
    subst (λ (o : Option ℕ). RefinesFound w (lent_by o (length (filter is_in_pool standings)) setup.max) (to_lend setup w)) (sym (position_is standings))
    (subst (λ (n : ℕ). RefinesFound w (lent_by (position_from is_free 0 standings) n setup.max) (to_lend setup w)) (pool_is w.connections)
    (subst (λ (o : Option ℕ). RefinesFound w (lent_by (position_from is_free 0 standings) (pool_count w.connections) setup.max) (to_lend_by setup w o)) (sym (lowest_is 0 w.connections))
    (by_found setup w (position_from is_free 0 standings) refl)))
