-- Walks between two tokens, as plain values.
use Rattle.std.proofs.Common.{◌≡◌, ◌∙◌, ◌≤◌, ◌<◌, ℕ, zero, suc, arith, ◌-◌, List, [], length, drop, get_or, true, Option, Some, None, Ok, refl, sym, ap, subst}
use Rattle.std.specs.Prelude.{IsSome, IfSome}
use Rattle.tds_wire.specs.declared.due.Due.TheVariants.{Token}
use Rattle.tds_wire.specs.declared.due.Inside.{Inside}
use Rattle.tds_wire.specs.declared.due.Inside.TheVariants as of
use Rattle.tds_wire.specs.declared.lent.LentWalk.{LentWalk}
use Rattle.tds_wire.specs.declared.memory.Memory.{Memory}
use Rattle.tds_wire.specs.declared.shape.Shape.{Shape}
use Rattle.tds_wire.specs.declared.told.Token.{Token as AnyToken}
use Rattle.tds_wire.specs.Lent.{head_of, reading_of}
use Rattle.tds_wire.specs.Memory.{shape_of, shapes_of}
use Rattle.tds_wire.specs.Reading.{IsReady, Parser, Sees, found_to, is_between, next_token, restarted}
use Rattle.tds_wire.specs.Rows.{IsPassed, past_row, row_token}
use Rattle.tds_wire.specs.Told.{added}
use Rattle.tds_wire.specs.Whole.{IsNext, behind_whole}
use Rattle.tds_walk.specs.Wire.{due_from, inside_from, refusal_from, truth, walk_from}
use Rattle.tds_walk.specs.WireCalls.{Call, Feeds, FeedsBy, Restarts, RestartsBy, Stands, StandsBy, reading_from}
use Rattle.tds_walk.specs.WireTokens.{Shows}
use Rattle.tds_walk.specs.Taking.{IsReadyValue, TakesToken}
use Rattle.tds_walk.specs.declared.token.TdsWireToken.{TdsWireToken}
use Rattle.tds_walk.specs.declared.walk.TdsWire.{TdsWire}
use Rattle.tds_walk.specs.declared.walk.TdsWireInside.{TdsWireInside}

pub found_in : {A : Type 0} (o : Option A) → IsSome o → (x : A) × (o ≡ Some x)
found_in (Some x) e = (x, refl)
found_in None e = absurd cc

-- the walk that such a value is
abbrev pub ready_walk : TdsWire → Inside → LentWalk
ready_walk p i = record {
  cursor = record {
    at = record { due = Token; kind = p.kind; inside = i; shape = shape_of p.shape; ciphered = truth p.ciphered; left = p.entries; parts = p.parts };
    most = p.most;
    features = record { encryption = truth p.encryption; ranks = truth p.ranks };
  };
  head = record { bytes = p.head; count = p.head_count };
  start = p.start;
  passed = p.passed;
  refused = None;
}

ready_from : (p : TdsWire) (i : Inside) → p.due.due ≡ 0 → p.refused.fault ≡ 0 → inside_from p.inside ≡ Some i
    → walk_from p ≡ Some (ready_walk p i)
unfolding walk_from due_from refusal_from
ready_from p i due whole inside = rw due (rw whole (rw inside refl))

no_head : (p : TdsWire) → p.head_count ≡ 0 → head_of (record { bytes = p.head; count = p.head_count }) ≡ []
unfolding head_of
no_head p head = rw head refl

ready_is : (p : TdsWire) (i : Inside) (m : Memory) → IsReadyValue p → length (shapes_of m) ≤ 4096 → length m.nulls ≡ 512
    → IsReady (reading_of (ready_walk p i) m)
ready_is p i m is few nulls = record {
  walk = record { due = refl; columns = few; nulls = nulls };
  head = no_head p is.head;
  passed = is.passed;
  whole = refl;
}

-- ---- Behind a token

behind_is : (r : Parser) (piece : List ℕ) (kind start n : ℕ) → r.head ≡ [] → r.passed ≡ 0 → r.refused ≡ None
    → kind ≡ get_or piece 0 0 → start ≡ added r.start n
    → record r { walk = record r.walk { at = record r.walk.at { kind = kind } }; start = start } ≡ behind_whole r piece n
behind_is r piece kind start n head passed whole k s = cc

row_from : (c : ℕ) → inside_from (record { column = c; inside = 2; base = record { form = 0; bytes = 0 } }) ≡ Some (of.Row c)
unfolding inside_from
row_from c = refl

row_behind : (r : Parser) (start n c : ℕ) → r.walk.at.due ≡ Token → c ≡ length r.walk.columns - 1 → start ≡ added r.start n
    → record r { walk = record r.walk { at = record r.walk.at { kind = 0xD1; inside = of.Row c } }; start = start } ≡ past_row r n
row_behind r start n c due last s = cc

sees_same : (t u : AnyToken) (r s : Parser) (rest : List ℕ) → t ≡ u → r ≡ s → found_to (Some t) r rest ≡ found_to (Some u) s rest
sees_same t u r s rest e f = cc

-- a call that found a token of so many bytes
abbrev finding : TdsWire → TdsWire → Memory → List ℕ → ℕ → TdsWireToken → TdsWireToken → Call
finding p q m piece n old new = record {
  before = p;
  after = q;
  memory_before = m;
  memory_after = m;
  piece = piece;
  count = n;
  token_before = old;
  token_after = new;
  answer = 0;
}

fed : (p q : TdsWire) (m : Memory) (piece : List ℕ) (n : ℕ) (t : AnyToken) (old new : TdsWireToken) (w u : LentWalk)
    → walk_from p ≡ Some w → walk_from q ≡ Some u → found_to (Some t) (reading_of u m) (drop n piece) ≡ next_token (reading_of w m) piece
    → n ≤ length piece → Shows new t t.told → Feeds (finding p q m piece n old new)
fed p q m piece n t old new w u is after found within shows =
    subst (λ (o : Option LentWalk). FeedsBy o (finding p q m piece n old new)) (sym is)
    (u, Ok (record { count = n; token = Some t }), after, found, within, (refl, (refl, shows)))

read_by : (p : TdsWire) (m : Memory) (w : LentWalk) (r : Parser) → walk_from p ≡ Some w → reading_from p m ≡ Some r → r ≡ reading_of w m
read_by p m w r is at =
    let by : reading_from p m ≡ Some (reading_of w m) = rw is refl in
    let same : Some r ≡ Some (reading_of w m) = sym at ∙ by in
    cc

module _ (p : TdsWire) (m : Memory) (piece : List ℕ) (start n kind : ℕ) (t : AnyToken) where
  pub takes_whole : IsReadyValue p → length (shapes_of m) ≤ 4096 → length m.nulls ≡ 512 → IsNext p.start n (Some t) piece
      → kind ≡ get_or piece 0 0 → start ≡ added p.start n → TakesToken m p (record p { kind = kind; start = start }) t n piece
  takes_whole is few nulls next k s = λ r at.
      let (i, inside) = found_in (inside_from p.inside) is.inside in
      let q : TdsWire = record p { kind = kind; start = start } in
      let o = reading_of (ready_walk p i) m in
      let x = reading_of (ready_walk q i) m in
      let from = ready_from p i is.due is.whole inside in
      let behind : x ≡ behind_whole o piece n = behind_is o piece kind start n (no_head p is.head) is.passed refl k s in
      let found : next_token o piece ≡ Sees t x (drop n piece) =
      sym (ap (λ (y : Parser). found_to (Some t) y (drop n piece)) behind ∙ next o (ready_is p i m is few nulls) refl) in
      let there : reading_from q m ≡ Some x = rw (ready_from q i is.due is.whole inside) refl in
      (x, there, subst (λ (y : Parser). next_token y piece ≡ Sees t x (drop n piece)) (sym (read_by p m (ready_walk p i) r from at)) found)

some_many : (o : Option AnyToken) (n : ℕ) (t : AnyToken) → (n ≡ 0 → o ≡ None) → o ≡ Some t → 0 < n
some_many o zero t none is = let no : o ≡ None = none refl in absurd (let u : ⊥ = cc in u)
some_many o (suc n) t none is = omega arith

pub takes_some : (p q : TdsWire) (m : Memory) (piece : List ℕ) (n : ℕ) (o : Option AnyToken) → (n ≡ 0 → o ≡ None)
    → ((t : AnyToken) → o ≡ Some t → 0 < n → TakesToken m p q t n piece) → IfSome o (λ t. TakesToken m p q t n piece)
takes_some p q m piece n None none takes = tt
takes_some p q m piece n (Some t) none takes = takes t refl (some_many (Some t) n t none refl)

module _ (p : TdsWire) (m : Memory) (piece : List ℕ) (start n : ℕ) (t : AnyToken) (old new : TdsWireToken) where
  pub fed_whole : (kind : ℕ) → IsReadyValue p → length (shapes_of m) ≤ 4096 → length m.nulls ≡ 512 → IsNext p.start n (Some t) piece
      → kind ≡ get_or piece 0 0 → start ≡ added p.start n → n ≤ length piece → Shows new t t.told
      → Feeds (finding p (record p { kind = kind; start = start }) m piece n old new)
  fed_whole kind is few nulls next k s within shows =
      let (i, inside) = found_in (inside_from p.inside) is.inside in
      let q : TdsWire = record p { kind = kind; start = start } in
      let r = reading_of (ready_walk p i) m in
      let behind : reading_of (ready_walk q i) m ≡ behind_whole r piece n =
      behind_is r piece kind start n (no_head p is.head) is.passed refl k s in
      fed p q m piece n t old new (ready_walk p i) (ready_walk q i)
      (ready_from p i is.due is.whole inside) (ready_from q i is.due is.whole inside)
      (ap (λ (x : Parser). found_to (Some t) x (drop n piece)) behind ∙ next r (ready_is p i m is few nulls) refl) within shows

  pub fed_row : (c : ℕ) (in_row : TdsWireInside) → IsReadyValue p → length (shapes_of m) ≤ 4096 → length m.nulls ≡ 512
      → ((r : Parser) → IsReady r → r.walk.columns ≡ shapes_of m → IsPassed n r (past_row r n) piece)
      → ((r : Parser) → r.start ≡ p.start → t ≡ row_token n r)
      → in_row ≡ record { column = c; inside = 2; base = record { form = 0; bytes = 0 } } → c ≡ length (shapes_of m) - 1
      → start ≡ added p.start n → n ≤ length piece → Shows new t t.told
      → Feeds (finding p (record p { kind = 0xD1; start = start; inside = in_row }) m piece n old new)
  fed_row c in_row is few nulls next tells place last s within shows =
      let (i, inside) = found_in (inside_from p.inside) is.inside in
      let q : TdsWire = record p { kind = 0xD1; start = start; inside = in_row } in
      let r = reading_of (ready_walk p i) m in
      let in_it : inside_from in_row ≡ Some (of.Row c) = ap inside_from place ∙ row_from c in
      let behind : reading_of (ready_walk q (of.Row c)) m ≡ past_row r n = row_behind r start n c refl last s in
      fed p q m piece n t old new (ready_walk p i) (ready_walk q (of.Row c))
      (ready_from p i is.due is.whole inside) (ready_from q (of.Row c) is.due is.whole in_it)
      (sees_same t _ _ _ (drop n piece) (tells r refl) behind ∙ sym (next r (ready_is p i m is few nulls) refl)) within shows

-- ---- At a message's end, and before the next one

pub stands_ready : (p : TdsWire) (m : Memory) → IsReadyValue p → Stands p m 1
stands_ready p m is =
    let (i, inside) = found_in (inside_from p.inside) is.inside in
    let w = ready_walk p i in
    let none : length (head_of w.head) ≡ 0 = ap length (no_head p is.head) in
    let between : is_between (reading_of w m) ≡ true = rw none (rw is.passed refl) in
    subst (λ (o : Option LentWalk). StandsBy o m 1) (sym (ready_from p i is.due is.whole inside)) (rw between refl)

no_columns : (m : Memory) → shapes_of (record m { count = 0 }) ≡ []
unfolding shapes_of
no_columns m = refl

restart_is : (r : Parser) (columns : List Shape) → columns ≡ [] → r.head ≡ [] → r.passed ≡ 0
    → record r { walk = record r.walk { at = record r.walk.at { due = Token }; columns = columns }; start = 0; refused = None } ≡ restarted r
restart_is r columns none head passed = cc

pub restarts_ready : (p : TdsWire) (old : Memory) → IsReadyValue p → Restarts p (record p { start = 0 }) old (record old { count = 0 }) 0
restarts_ready p old is =
    let (i, inside) = found_in (inside_from p.inside) is.inside in
    let q : TdsWire = record p { start = 0 } in
    let new : Memory = record old { count = 0 } in
    let r = reading_of (ready_walk p i) old in
    let again : reading_of (ready_walk q i) new ≡ restarted r = restart_is r _ (no_columns old) (no_head p is.head) is.passed in
    subst (λ (o : Option LentWalk). RestartsBy o p q old new 0) (sym (ready_from p i is.due is.whole inside))
    (ready_walk q i, refl, ready_from q i is.due is.whole inside, again)

pub ready_anew : (p : TdsWire) (old : Memory) → IsReadyValue p → (r : Parser) → reading_from p old ≡ Some r
    → (is_between r ≡ true) × (reading_from (record p { start = 0 }) (record old { count = 0 }) ≡ Some (restarted r))
ready_anew p old is r at =
    let (i, inside) = found_in (inside_from p.inside) is.inside in
    let q : TdsWire = record p { start = 0 } in
    let new : Memory = record old { count = 0 } in
    let o = reading_of (ready_walk p i) old in
    let from = ready_from p i is.due is.whole inside in
    let none : length o.head ≡ 0 = ap length (no_head p is.head) in
    let between : is_between o ≡ true = rw none (rw is.passed refl) in
    let again : reading_of (ready_walk q i) new ≡ restarted o = restart_is o _ (no_columns old) (no_head p is.head) is.passed in
    let there : reading_from q new ≡ Some (reading_of (ready_walk q i) new) = rw (ready_from q i is.due is.whole inside) refl in
    subst (λ (y : Parser). (is_between y ≡ true) × (reading_from q new ≡ Some (restarted y))) (sym (read_by p old (ready_walk p i) r from at))
    (between, there ∙ ap (λ (y : Parser). let x : Option Parser = Some y in x) again)
