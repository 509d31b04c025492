-- The first request of a lease that a report shows to have run is the model's.
use Rattle.std.proofs.Common.{◌≡◌, ◌<◌, ◌⊎◌, inl, inr, ℕ, suc, List, [], ◌∷◌, ◌++◌, map, Bool, true, false, eqb, refl, sym, ap, subst, ◌∙◌, Option, Some, None, arith}
use Rattle.std.proofs.lemmas.Bool.Decides.{nat_tests}
use Rattle.std.specs.List.{AllByRecursion}
use Rattle.std.specs.Prelude.{◌==◌, find}
use Rattle.tds_session.specs.Session.{SessionState}
use Rattle.tds_world.specs.Connection.{Connection, records, is_cut}
use Rattle.tds_world.specs.Laws.{StartsUnder, IsFirstToRun, StartsFresh, FreshStart}
use Rattle.tds_world.specs.Observed.{request_report, request_reports}
use Rattle.tds_world.specs.Order.{number_if, numbers_on, RequestsInOrder}
use Rattle.tds_world.specs.Record.{Record}
use Rattle.tds_world.specs.Reports.{Ask, first_by, first_run}
use Rattle.tds_world.specs.World.{World, numbered}
use Rattle.tds_world.proofs.events.Worlds.{at_number}
use Rattle.tds_world.proofs.reports.Asks.{AreAsked, IsReported, on_some, by_numbers, else_is, then_is, other_number, same_number}

-- Of the requests of connection m, those that are numbered below k, and the rest, which were asked on
-- these connections. None of this lease ran among the former.
pub record Halves (lease k m : ℕ) (ns : List ℕ) (c : Connection) : Type 0 where
  pub before : List Record
  pub rest : List Record
  pub split : before ++ rest ≡ records c
  pub lower : AllByRecursion (λ (p : Record). p.number < k) before
  pub none : AllByRecursion (λ (p : Record). p.lease ≡ lease → p.ran ≡ None) before
  pub numbers : map (λ (q : Record). q.number) rest ≡ numbers_on m k ns

abbrev pub AllHalves : World → ℕ → ℕ → List ℕ → Type 0
AllHalves w lease k ns = (m : ℕ) (c : Connection) → numbered w.connections m ≡ Some c → Halves lease k m ns c

pub one_lower : (k : ℕ) (ps : List Record) → AllByRecursion (λ (p : Record). p.number < k) ps → AllByRecursion (λ (p : Record). p.number < suc k) ps
one_lower k [] h = tt
one_lower k (p ∷ ps) h = (let a : p.number < k = h.0 in omega arith, one_lower k ps h.1)

pub behind : (P : Record → Type 0) (ps : List Record) (q : Record) → AllByRecursion P ps → P q → AllByRecursion P (ps ++ q ∷ [])
behind P [] q h x = (x, tt)
behind P (p ∷ ps) q h x = (h.0, behind P ps q h.1 x)

pub one_behind : (ps : List Record) (q : Record) (rs : List Record) → (ps ++ q ∷ []) ++ rs ≡ ps ++ q ∷ rs
one_behind [] q rs = refl
one_behind (p ∷ ps) q rs = ap (λ xs. p ∷ xs) (one_behind ps q rs)

-- The first of the rest is the one of number k.
pub find_there : (k : ℕ) (ps : List Record) (q : Record) (rs : List Record) → AllByRecursion (λ (p : Record). p.number < k) ps → q.number ≡ k → find (λ (p : Record). p.number == k) (ps ++ q ∷ rs) ≡ Some q
find_there k [] q rs h e = then_is (eqb q.number k) (Some q) (find (λ (x : Record). x.number == k) rs) (ap (λ n. eqb n k) e ∙ same_number k)
find_there k (p ∷ ps) q rs h e =
    else_is (eqb p.number k) (Some p) (find (λ (x : Record). x.number == k) (ps ++ q ∷ rs)) (other_number p.number k h.0)
    ∙ find_there k ps q rs h.1 e

-- What is left where this request, of number k on connection m, is passed.
pub record Passed (lease k m : ℕ) (ns : List ℕ) (c : Connection) (q : Record) : Type 0 where
  pub before : List Record
  pub rest : List Record
  pub split : before ++ q ∷ rest ≡ records c
  pub lower : AllByRecursion (λ (p : Record). p.number < k) before
  pub none : AllByRecursion (λ (p : Record). p.lease ≡ lease → p.ran ≡ None) before
  pub is : q.number ≡ k
  pub numbers : map (λ (q : Record). q.number) rest ≡ numbers_on m (suc k) ns

pub some_same : {A : Type 0} (x y : A) → Some x ≡ Some y → x ≡ y
some_same x y e = cc

passes : (lease k m : ℕ) (ns : List ℕ) (c : Connection) (q : Record) (before rest : List Record) → before ++ rest ≡ records c → AllByRecursion (λ (p : Record). p.number < k) before → AllByRecursion (λ (p : Record). p.lease ≡ lease → p.ran ≡ None) before → map (λ (q : Record). q.number) rest ≡ k ∷ numbers_on m (suc k) ns → find (λ (p : Record). p.number == k) (records c) ≡ Some q → Passed lease k m ns c q
passes lease k m ns c q before [] s l n e f = absurd (cc)
passes lease k m ns c q before (x ∷ rest) s l n e f =
    let is : x.number ≡ k = cc in
    let later : map (λ (q : Record). q.number) rest ≡ numbers_on m (suc k) ns = cc in
    let same : x ≡ q = some_same x q (sym (find_there k before x rest l is) ∙ (ap (find (λ (p : Record). p.number == k)) s ∙ f)) in
    subst (Passed lease k m ns c) same (record { before = before; rest = rest; split = s; lower = l; none = n; is = is; numbers = later })

halves_pass : (w : World) (lease k n : ℕ) (ns : List ℕ) (c : Connection) (q : Record) → Halves lease k n (n ∷ ns) c → find (λ (p : Record). p.number == k) (records c) ≡ Some q → Passed lease k n ns c q
halves_pass w lease k n ns c q h f =
    passes lease k n ns c q h.before h.rest h.split h.lower h.none (h.numbers ∙ ap (λ b. number_if b k (numbers_on n (suc k) ns)) (same_number n)) f

after_pass : (lease k m : ℕ) (ns : List ℕ) (c : Connection) (q : Record) → Passed lease k m ns c q → (q.lease ≡ lease → q.ran ≡ None) → Halves lease (suc k) m ns c
after_pass lease k m ns c q h n = record {
  before = h.before ++ q ∷ [];
  rest = h.rest;
  split = one_behind h.before q h.rest ∙ h.split;
  lower = behind (λ (p : Record). p.number < suc k) h.before q (one_lower k h.before h.lower) (let is : q.number ≡ k = h.is in omega arith);
  none = behind (λ (p : Record). p.lease ≡ lease → p.ran ≡ None) h.before q h.none n;
  numbers = h.numbers;
}

same_connection : (cs : List Connection) (n m : ℕ) (c d : Connection) → n ≡ m → numbered cs n ≡ Some c → numbered cs m ≡ Some d → c ≡ d
same_connection cs n m c d e i j = some_same c d (sym i ∙ (ap (numbered cs) e ∙ j))

all_pass : (w : World) (lease k n : ℕ) (ns : List ℕ) (c : Connection) (q : Record) → numbered w.connections n ≡ Some c → find (λ (p : Record). p.number == k) (records c) ≡ Some q → (q.lease ≡ lease → q.ran ≡ None) → AllHalves w lease k (n ∷ ns) → AllHalves w lease (suc k) ns
all_pass w lease k n ns c q i f x h m d j = by_test (eqb n m) refl
  where
    by_test : (b : Bool) → eqb n m ≡ b → Halves lease (suc k) m ns d
    by_test true e =
        let same : n ≡ m = grind (arith, nat_tests) in
        subst (λ y. Halves lease (suc k) y ns d) same
        (subst (Halves lease (suc k) n ns) (same_connection w.connections n m c d same i j) (after_pass lease k n ns c q (halves_pass w lease k n ns c q (h n c i) f) x))
    by_test false e =
        let g : Halves lease k m (n ∷ ns) d = h m d j in
        record {
          before = g.before;
          rest = g.rest;
          split = g.split;
          lower = one_lower k g.before g.lower;
          none = g.none;
          numbers = g.numbers ∙ ap (λ b. number_if b k (numbers_on m (suc k) ns)) e;
        }

-- ---- The first to run

greater_if : (b : Bool) (k m : ℕ) (xs : List ℕ) → k < m → AllByRecursion (λ x. k < x) xs → AllByRecursion (λ x. k < x) (number_if b m xs)
greater_if true k m xs l h = (l, h)
greater_if false k m xs l h = h

all_greater : (m k l : ℕ) (ns : List ℕ) → k < l → AllByRecursion (λ x. k < x) (numbers_on m l ns)
all_greater m k l [] e = tt
all_greater m k l (n ∷ ns) e = greater_if (eqb n m) k l (numbers_on m (suc l) ns) e (all_greater m k (suc l) ns (omega arith))

-- Nobody before it ran under the lease, and whoever is behind it has a greater number.
abbrev Earlier : Record → Record → Type 0
Earlier q p = p.lease ≡ q.lease → p.number < q.number → p.ran ≡ None

all_behind : (k : ℕ) (q : Record) (rs : List Record) → q.number ≡ k → AllByRecursion (λ (p : Record). k < p.number) rs → AllByRecursion (Earlier q) rs
all_behind k q [] i g = tt
all_behind k q (r ∷ rs) i g = (λ z l. let a : k < r.number = g.0 in absurd (omega arith), all_behind k q rs i g.1)

all_earlier : (lease k : ℕ) (q : Record) (ps rs : List Record) → q.lease ≡ lease → q.number ≡ k → AllByRecursion (λ (p : Record). p.lease ≡ lease → p.ran ≡ None) ps → AllByRecursion (λ (p : Record). k < p.number) rs → AllByRecursion (Earlier q) (ps ++ q ∷ rs)
all_earlier lease k q [] rs e i h g = (λ z l. absurd (omega arith), all_behind k q rs i g)
all_earlier lease k q (p ∷ ps) rs e i h g = (λ z l. h.0 (z ∙ e), all_earlier lease k q ps rs e i h.1 g)

first_of : (lease k n : ℕ) (ns : List ℕ) (c : Connection) (q : Record) → Passed lease k n ns c q → q.lease ≡ lease → IsFirstToRun c q
first_of lease k n ns c q h e =
    subst (AllByRecursion (Earlier q)) h.split
    (all_earlier lease k q h.before h.rest e h.is h.none
    (by_numbers (λ x. k < x) h.rest (subst (AllByRecursion (λ x. k < x)) (sym h.numbers) (all_greater n k (suc k) ns (omega arith)))))

first_case : (b : Bool) (ran later : Option SessionState) (s : SessionState) → first_by b ran later ≡ Some s → ((b ≡ true) × (ran ≡ Some s)) ⊎ ((later ≡ Some s) × (b ≡ true → ran ≡ None))
first_case true (Some r) later s e = inl (refl, e)
first_case true None later s e = inr (e, λ z. refl)
first_case false ran later s e = inr (e, λ z. absurd (cc))

is_same : (a b : ℕ) → eqb a b ≡ true → a ≡ b
is_same a b e = grind (arith, nat_tests)

to_test : (a b : ℕ) → a ≡ b → eqb a b ≡ true
to_test a b e = ap (λ x. eqb x b) e ∙ same_number b

-- The session that the report shows of a lease's first request that ran is one that the lease may find.
pub starts : (w : World) (lease k : ℕ) (ns : List ℕ) (xs : List Ask) (s : SessionState) → FreshStart w → AreAsked w k ns xs → AllHalves w lease k ns → first_run lease (request_reports w k ns) ≡ Some s → StartsUnder w (numbered w.leases lease) s
starts w lease k [] xs s f h g e = absurd (cc)
starts w lease k (n ∷ ns) [] s f h g e = absurd h
starts w lease k (n ∷ ns) (a ∷ xs) s f h g e =
    let q : Record = h.0.request in
    let r : IsReported (StartsFresh w) k (numbered w.connections n) q =
    on_some (StartsFresh w) k (numbered w.connections n) q (at_number (λ c. AllByRecursion (StartsFresh w c) (records c)) w.connections n f) h.0.there in
    let i : first_run lease (request_report (is_cut r.on.standing) q ∷ request_reports w (suc k) ns) ≡ Some s =
    subst (λ rs. first_run lease (rs ++ request_reports w (suc k) ns) ≡ Some s) r.alone e in
    elim (first_case (eqb q.lease lease) q.ran (first_run lease (request_reports w (suc k) ns)) s i) [
      | inl z ↦
          let same : q.lease ≡ lease = is_same q.lease lease z.0 in
          subst (λ l. StartsUnder w (numbered w.leases l) s) same
          (r.holds s z.1 (first_of lease k n ns r.on q (halves_pass w lease k n ns r.on q (g n r.on r.is) r.found) same))
      | inr z ↦
          starts w lease (suc k) ns xs s f h.1
          (all_pass w lease k n ns r.on q r.is r.found (λ l. z.1 (to_test q.lease lease l)) g) z.0
    ]

-- At the beginning, all are in the rest.
pub all_halves : (w : World) (lease : ℕ) → RequestsInOrder w → AllHalves w lease 1 w.asked_on
all_halves w lease o m c i = record {
  before = [];
  rest = records c;
  split = refl;
  lower = tt;
  none = tt;
  numbers = (o.each m c i).numbers;
}
