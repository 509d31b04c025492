-- A lease can't tell that it shares its connection.
use Rattle.std.proofs.Common.{◌≡◌, ◌≤◌, ◌<◌, ℕ, zero, suc, List, [], ◌∷◌, ◌++◌, map, length, Bool, true, false, cond, not, eqb, refl, sym, ap, subst, ◌∙◌, flat_map, Option, Some, None, arith}
use Rattle.std.proofs.lemmas.Bool.Decides.{nat_tests}
use Rattle.std.specs.List.{AllByRecursion}
use Rattle.std.specs.Prelude.{filter, slice_get, ◌==◌}
use Rattle.tds_request.specs.Layout.{Fits}
use Rattle.tds_session.specs.declared.attention.OnAttention.{OnAttention}
use Rattle.tds_session.specs.declared.attention.OnAttention.TheVariants as on_attention
use Rattle.tds_session.specs.Answer as answer
use Rattle.tds_session.specs.Answer.{Answers}
use Rattle.tds_session.specs.Session.{SessionState, new_session, transacting}
use Rattle.tds_token.specs.declared.token.Token.{Token}
use Rattle.tds_token.specs.Told.{told}
use Rattle.tds_world.specs.declared.event.Event.{Event}
use Rattle.tds_world.specs.declared.event.Setup.{Setup}
use Rattle.tds_world.specs.alone.Alone.{AreAlike, Exchange, exchange_of, exchanges_of, progress_of, own_steps, session_after, left_by, left_alone, MayRollBack, own_session, session_from, HasRoom, IsToldAlone, TellsAlone, RunsAlone, AsIfAlone, AllAlike, BlindToNumbers}
use Rattle.tds_world.specs.Bounds.{RanInOwn, IsEvent}
use Rattle.tds_world.specs.Connection.{Connection, records}
use Rattle.tds_world.specs.limits.Descriptors.{UseFewDescriptors, AreFewEvents, most_events}
use Rattle.tds_world.specs.Events.{world_after}
use Rattle.tds_world.specs.Lawful.{Lawful}
use Rattle.tds_world.specs.Laws.{IsAnswer, whole_answer, IsOwnAnswer, HasKept, StartsFrom, StartsUnder, StartsFresh}
use Rattle.tds_world.specs.Record.{Record}
use Rattle.tds_world.specs.World.{World, new_world, Holding, numbered}
use Rattle.tds_world.proofs.alone.Descriptors.{HasLeft, less_left, has_room, behind_left, reset_left, new_left, many_left, few_on, all_fit}
use Rattle.tds_world.proofs.alone.OpenTickets.{IsOne, FromOpen, from_open}
use Rattle.tds_world.proofs.alone.Tenancy.{all_in_turn}
use Rattle.tds_world.proofs.alone.Tenants.{Behind, InTurn, IsRan}
use Rattle.tds_world.proofs.alone.Found.{Found, Thread}
use Rattle.tds_world.proofs.alone.Thread.{Threaded, all_threaded}
use Rattle.tds_world.proofs.events.Words.{OfSome}
use Rattle.tds_world.proofs.events.Worlds.{at_number}
use Rattle.tds_world.proofs.reports.Asks.{else_is}
use Rattle.tds_world.proofs.reports.Few.{few_of_each}
use Rattle.tds_world.proofs.requests.Cores.{core_of}
use Rattle.tds_world.proofs.requests.FreshStarts.{fresh_start}
use Rattle.tds_world.proofs.requests.Order.{requests_in_order}
use Rattle.tds_world.proofs.requests.Own.{told_two}
use Rattle.tds_world.proofs.requests.OwnAnswers.{own_answers}
use Rattle.tds_world.proofs.requests.OwnTransactions.{own_transaction}
use Rattle.tds_world.proofs.requests.Ready.{OfTicket}
use Rattle.tds_world.proofs.requests.Runs.{runs_in}

-- ---- What is alike stays so

after_alike : (n : ℕ) (s t : SessionState) (ss ts : List answer.Step) → AreAlike s t → AllAlike ss ts → AreAlike (session_after s n ss) (session_after t n ts)
after_alike zero s t ss ts a h = a
after_alike (suc n) s t [] [] a h = a
after_alike (suc n) s t [] (y ∷ ys) a h = absurd h
after_alike (suc n) s t (x ∷ xs) [] a h = absurd h
after_alike (suc n) s t (x ∷ xs) (y ∷ ys) a h = after_alike n x.after y.after xs ys h.0.after h.1

rolled_alike : (rolled : Bool) (s t : SessionState) → AreAlike s t → AreAlike (left_by rolled s) (left_by rolled t)
rolled_alike true s t h = record { settings = h.settings; transaction = refl }
rolled_alike false s t h = h

told_alike : (ss ts : List answer.Step) → AllAlike ss ts → told (flat_map (λ step. step.tokens) ss) ≡ told (flat_map (λ step. step.tokens) ts)
told_alike [] [] h = refl
told_alike [] (y ∷ ys) h = absurd h
told_alike (x ∷ xs) [] h = absurd h
told_alike (x ∷ xs) (y ∷ ys) h =
    told_two x.tokens (flat_map (λ step. step.tokens) xs)
    ∙ (ap (λ (us : List Token). us ++ told (flat_map (λ step. step.tokens) xs)) h.0.told
    ∙ (ap (λ (us : List Token). told y.tokens ++ us) (told_alike xs ys h.1)
    ∙ sym (told_two y.tokens (flat_map (λ step. step.tokens) ys))))

told_alone : (answers : Answers) (own ran : SessionState) (c : Connection) (q : Record) → BlindToNumbers answers → AreAlike ran own → HasRoom answers ran q.asking.request → HasRoom answers own q.asking.request → IsAnswer q.given (whole_answer answers ran q.asking.request) q → IsToldAlone answers own ran (exchange_of c q)
told_alone answers own ran c q b a r o h =
    let same : whole_answer answers ran q.asking.request ≡ whole_answer answers own q.asking.request =
    told_alike (own_steps answers ran q.asking.request) (own_steps answers own q.asking.request) (b ran own q.asking.request a r o) in
    record {
      alike = a;
      begins = (h.begins.0, h.begins.1 ∙ same);
      ends = λ f. h.ends f ∙ same;
    }

-- ---- How a lease's own session starts

from_alike : (w : World) (s : SessionState) (o : Option ℕ) → FromOpen w.tickets o → StartsFrom w o s → AreAlike s (session_from o)
from_alike w s None f h = record { settings = h.0; transaction = ap (λ d. not (eqb d 0)) h.1 }
from_alike w s (Some t) f h = of_ticket (numbered w.tickets t) f h
  where
    of_ticket : (o : Option Holding) → OfTicket IsOne o → HasKept o s → AreAlike s (transacting new_session)
    of_ticket None g k = absurd k
    of_ticket (Some x) g k = record { settings = k.0; transaction = ap (λ d. not (eqb d 0)) k.1 ∙ ap not g }

-- Each lease that came from a ticket came from one of a transaction.
abbrev AllOpen : World → Type 0
AllOpen w = (l : ℕ) (h : Holding) → numbered w.leases l ≡ Some h → FromOpen w.tickets h.resumed

starts_alike : (w : World) (s : SessionState) (o : Option Holding) → ((h : Holding) → o ≡ Some h → FromOpen w.tickets h.resumed) → StartsUnder w o s → AreAlike s (own_session o)
starts_alike w s None f h = absurd h
starts_alike w s (Some x) f h = from_alike w s x.resumed (f x refl) h

-- ---- What is known of a request

pub record Knows (answers : Answers) (w : World) (c : Connection) (q : Record) : Type 0 where
  pub fresh : StartsFresh w c q
  pub own : IsOwnAnswer answers q q.ran
  pub transaction : RanInOwn c q
  pub fits : Fits q.asking.request

-- And of the answers.
pub record Good (answers : Answers) : Type 0 where
  pub blind : BlindToNumbers answers
  pub few : UseFewDescriptors answers

is_same : (a b : ℕ) → eqb a b ≡ true → a ≡ b
is_same a b e = grind (arith, nat_tests)

is_other : (a b : ℕ) → eqb a b ≡ false → a ≡ b → ⊥
is_other a b e f = grind (arith, nat_tests)

other_number : (a b : ℕ) → a < b → eqb b a ≡ false
other_number a b l = grind (arith, nat_tests)

-- What came of the requests of this lease among these.
abbrev of_lease : ℕ → Connection → List Record → List Exchange
of_lease l c qs = map (exchange_of c) (filter (λ (q : Record). q.lease == l) qs)

none_among : (l : ℕ) (qs : List Record) → AllByRecursion (λ (q : Record). l < q.lease) qs → filter (λ (q : Record). q.lease == l) qs ≡ []
none_among l [] h = refl
none_among l (q ∷ qs) h =
    else_is (eqb q.lease l) (q ∷ filter (λ (p : Record). p.lease == l) qs) (filter (λ (p : Record). p.lease == l) qs) (other_number l q.lease h.0)
    ∙ none_among l qs h.1

none_left : (l : ℕ) (c : Connection) (qs : List Record) → AllByRecursion (λ (q : Record). l < q.lease) qs → of_lease l c qs ≡ []
none_left l c qs h = ap (map (exchange_of c)) (none_among l qs h)

-- What one left that ran, by the session's own descriptor.
left_own : (attention : OnAttention) (answers : Answers) (c : Connection) (q : Record) (m ran m2 : SessionState) → RanInOwn c q → q.ran ≡ Some ran → Found attention answers (progress_of c q.number) m q.asking (Some ran) m2 → m2 ≡ left_alone answers ran (exchange_of c q)
left_own attention answers c q m ran m2 t e f =
    f.2 ∙ ap (λ d. left_by (progress_of c q.number).rolled (session_after ran (progress_of c q.number).done (answers ran d None q.asking.request))) (t ran e)

-- And in a session like it.
left_alike : (answers : Answers) (c : Connection) (q : Record) (ran own : SessionState) → BlindToNumbers answers → AreAlike ran own → HasRoom answers ran q.asking.request → HasRoom answers own q.asking.request → AreAlike (left_alone answers ran (exchange_of c q)) (left_alone answers own (exchange_of c q))
left_alike answers c q ran own b a r o =
    let n : ℕ = (progress_of c q.number).done in
    rolled_alike (progress_of c q.number).rolled (session_after ran n (own_steps answers ran q.asking.request)) (session_after own n (own_steps answers own q.asking.request))
    (after_alike n ran own (own_steps answers ran q.asking.request) (own_steps answers own q.asking.request) a (b ran own q.asking.request a r o))

-- One that did not run leaves the own session as it is.
nothing_left : (answers : Answers) (c : Connection) (q : Record) (own : SessionState) → (progress_of c q.number).done ≡ 0 → (progress_of c q.number).rolled ≡ false → left_alone answers own (exchange_of c q) ≡ own
nothing_left answers c q own e f =
    ap (λ b. left_by b (session_after own (progress_of c q.number).done (own_steps answers own q.asking.request))) f
    ∙ ap (λ n. session_after own n (own_steps answers own q.asking.request)) e

may_keep : (o : OnAttention) (b : Bool) → b ≡ false → MayRollBack o b
may_keep on_attention.Keep b e = e
may_keep on_attention.RollBack b e = tt

-- ---- Behind the first one that ran

-- It is of this lease, and asked for no reset; or of a later one.
abbrev IsBehind : ℕ → Record → Type 0
IsBehind l q = (l ≤ q.lease) × (q.lease ≡ l → q.asking.mark ≡ None)

abbrev Goes : OnAttention → Answers → ℕ → Connection → List Record → Type 0
Goes attention answers l c qs =
    (m end own : SessionState)
    → AreAlike m own → HasLeft m qs → HasLeft own qs
    → Thread attention answers (progress_of c) m (map core_of qs) end → RunsAlone attention answers own (of_lease l c qs)

-- What is owed of a request and those behind it.
abbrev Owed : OnAttention → Answers → ℕ → Connection → Record → List Record → SessionState → Option SessionState → Type 0
Owed attention answers l c q qs own ran =
    TellsAlone answers own (exchange_of c q) ran × MayRollBack attention (progress_of c q.number).rolled
    × RunsAlone attention answers (left_alone answers own (exchange_of c q)) (of_lease l c qs)

goes_on : (attention : OnAttention) (answers : Answers) (w : World) (c : Connection) (l : ℕ) (q : Record) (qs : List Record) (m m2 end own : SessionState) (ran : Option SessionState) → Good answers → Goes attention answers l c qs → Knows answers w c q → q.asking.mark ≡ None → AreAlike m own → HasLeft m (q ∷ qs) → HasLeft own (q ∷ qs) → q.ran ≡ ran → Found attention answers (progress_of c q.number) m q.asking ran m2 → IsOwnAnswer answers q ran → Thread attention answers (progress_of c) m2 (map core_of qs) end → Owed attention answers l c q qs own ran
goes_on attention answers w c l q qs m m2 end own None b ih k mark a r o e f h t = (
  h,
  may_keep attention (progress_of c q.number).rolled f.2,
  subst (λ s. RunsAlone attention answers s (of_lease l c qs)) (sym (nothing_left answers c q own f.1 f.2))
      (ih m2 end own (subst (λ s. AreAlike s own) f.0 a) (subst (λ s. HasLeft s qs) f.0 (less_left m q qs r)) (less_left own q qs o) t),
)
goes_on attention answers w c l q qs m m2 end own (Some ran) b ih k mark a r o e f h t =
    let same : ran ≡ m = f.0 ∙ ap (λ x. runs_in x m) mark in
    let alike : AreAlike ran own = subst (λ s. AreAlike s own) (sym same) a in
    let left : HasLeft ran (q ∷ qs) = subst (λ s. HasLeft s (q ∷ qs)) (sym same) r in
    let room : HasRoom answers ran q.asking.request = has_room answers ran q qs b.few k.fits left in
    let own_room : HasRoom answers own q.asking.request = has_room answers own q qs b.few k.fits o in
    let is : m2 ≡ left_alone answers ran (exchange_of c q) = left_own attention answers c q m ran m2 k.transaction e f in (
      told_alone answers own ran c q b.blind alike room own_room h,
      f.1,
      ih m2 end (left_alone answers own (exchange_of c q))
          (subst (λ s. AreAlike s (left_alone answers own (exchange_of c q))) (sym is) (left_alike answers c q ran own b.blind alike room own_room))
          (subst (λ s. HasLeft s qs) (sym is) (behind_left answers ran q qs (progress_of c q.number) b.few k.fits left))
          (behind_left answers own q qs (progress_of c q.number) b.few k.fits o) t,
    )

-- All that follow are of later leases.
all_later : (l : ℕ) (q : Record) (qs : List Record) → l < q.lease → AllByRecursion (Behind (core_of q)) (map core_of qs) → AllByRecursion (λ (p : Record). l < p.lease) qs
all_later l q [] h k = tt
all_later l q (p ∷ ps) h k = (let z : q.lease ≤ p.lease = k.0.lease in omega arith, all_later l q ps h k.1)

less_than : (l k : ℕ) → l ≤ k → eqb k l ≡ false → l < k
less_than l k h e = grind (arith, nat_tests)

goes_by : (attention : OnAttention) (answers : Answers) (w : World) (c : Connection) (l : ℕ) (q : Record) (qs : List Record) (test : Bool) (m end own : SessionState) → eqb q.lease l ≡ test → Good answers → Goes attention answers l c qs → Knows answers w c q → IsBehind l q → AllByRecursion (Behind (core_of q)) (map core_of qs) → AreAlike m own → HasLeft m (q ∷ qs) → HasLeft own (q ∷ qs) → Thread attention answers (progress_of c) m (map core_of (q ∷ qs)) end → RunsAlone attention answers own (map (exchange_of c) (cond test (q ∷ filter (λ (p : Record). p.lease == l) qs) (filter (λ (p : Record). p.lease == l) qs)))
goes_by attention answers w c l q qs true m end own e b ih k i g a r o t = goes_on attention answers w c l q qs m t.0 end own q.ran b ih k (i.1 (is_same q.lease l e)) a r o refl t.1.0 k.own t.1.1
goes_by attention answers w c l q qs false m end own e b ih k i g a r o t =
    subst (λ xs. RunsAlone attention answers own xs) (sym (none_left l c qs (all_later l q qs (less_than l q.lease i.0 e) g))) tt

goes : (attention : OnAttention) (answers : Answers) (w : World) (c : Connection) (l : ℕ) (qs : List Record) → Good answers → AllByRecursion (Knows answers w c) qs → AllByRecursion (IsBehind l) qs → InTurn (map core_of qs) → Goes attention answers l c qs
goes attention answers w c l [] b k i g m end own a r o t = tt
goes attention answers w c l (q ∷ qs) b k i g m end own a r o t =
    goes_by attention answers w c l q qs (eqb q.lease l) m end own refl b (goes attention answers w c l qs b k.1 i.1 g.1) k.0 i.0 g.0 a r o t

-- ---- Until the first one runs

-- None of this lease that was asked before that number ran.
abbrev NotRun : ℕ → ℕ → Record → Type 0
NotRun l number p = p.lease ≡ l → p.number < number → p.ran ≡ None

-- If so for these, then for all of the connection.
abbrev Before : Connection → ℕ → List Record → Type 0
Before c l qs = (number : ℕ) → AllByRecursion (NotRun l number) qs → AllByRecursion (NotRun l number) (records c)

abbrev Starts : OnAttention → Answers → World → Connection → ℕ → List Record → Type 0
Starts attention answers w c l qs =
    (m end : SessionState)
    → Before c l qs → HasLeft m qs → HasLeft (own_session (numbered w.leases l)) qs
    → Thread attention answers (progress_of c) m (map core_of qs) end → RunsAlone attention answers (own_session (numbered w.leases l)) (of_lease l c qs)

later_not : (l : ℕ) (q : Record) (qs : List Record) → AllByRecursion (Behind (core_of q)) (map core_of qs) → AllByRecursion (NotRun l q.number) qs
later_not l q [] g = tt
later_not l q (p ∷ ps) g = (λ e less. let z : q.number < p.number = g.0.number in absurd (omega arith), later_not l q ps g.1)

all_behind : (l : ℕ) (q : Record) (qs : List Record) → q.lease ≡ l → IsRan q.ran → AllByRecursion (Behind (core_of q)) (map core_of qs) → AllByRecursion (IsBehind l) qs
all_behind l q [] e r g = tt
all_behind l q (p ∷ ps) e r g = (
  (let z : q.lease ≤ p.lease = g.0.lease in omega arith, λ f. g.0.mark (f ∙ sym e) r),
  all_behind l q ps e r g.1,
)

starts_on : (attention : OnAttention) (answers : Answers) (w : World) (c : Connection) (l : ℕ) (q : Record) (qs : List Record) (m m2 end : SessionState) (ran : Option SessionState) → Good answers → AllOpen w → Starts attention answers w c l qs → (IsRan q.ran → Goes attention answers l c qs) → Knows answers w c q → q.lease ≡ l → AllByRecursion (Behind (core_of q)) (map core_of qs) → Before c l (q ∷ qs) → HasLeft m (q ∷ qs) → HasLeft (own_session (numbered w.leases l)) (q ∷ qs) → q.ran ≡ ran → Found attention answers (progress_of c q.number) m q.asking ran m2 → IsOwnAnswer answers q ran → Thread attention answers (progress_of c) m2 (map core_of qs) end → Owed attention answers l c q qs (own_session (numbered w.leases l)) ran
starts_on attention answers w c l q qs m m2 end None b opens ih go k is g before r o e f h t =
    let own : SessionState = own_session (numbered w.leases l) in (
      h,
      may_keep attention (progress_of c q.number).rolled f.2,
      subst (λ s. RunsAlone attention answers s (of_lease l c qs)) (sym (nothing_left answers c q own f.1 f.2))
          (ih m2 end (λ number n. before number ((λ i less. e), n)) (subst (λ s. HasLeft s qs) f.0 (less_left m q qs r)) (less_left own q qs o) t),
    )
starts_on attention answers w c l q qs m m2 end (Some ran) b opens ih go k is g before r o e f h t =
    let own : SessionState = own_session (numbered w.leases l) in
    let none : AllByRecursion (NotRun l q.number) (records c) = before q.number ((λ i less. absurd (omega arith)), later_not l q qs g) in
    let first : AllByRecursion (NotRun q.lease q.number) (records c) = subst (λ x. AllByRecursion (NotRun x q.number) (records c)) (sym is) none in
    let alike : AreAlike ran own = subst (λ x. AreAlike ran (own_session (numbered w.leases x))) is (starts_alike w ran (numbered w.leases q.lease) (opens q.lease) (k.fresh ran e first)) in
    let left : HasLeft ran (q ∷ qs) = subst (λ s. HasLeft s (q ∷ qs)) (sym f.0) (reset_left q.asking.mark m (q ∷ qs) r) in
    let room : HasRoom answers ran q.asking.request = has_room answers ran q qs b.few k.fits left in
    let own_room : HasRoom answers own q.asking.request = has_room answers own q qs b.few k.fits o in
    let same : m2 ≡ left_alone answers ran (exchange_of c q) = left_own attention answers c q m ran m2 k.transaction e f in (
      told_alone answers own ran c q b.blind alike room own_room h,
      f.1,
      go (subst IsRan (sym e) tt) m2 end (left_alone answers own (exchange_of c q))
          (subst (λ s. AreAlike s (left_alone answers own (exchange_of c q))) (sym same) (left_alike answers c q ran own b.blind alike room own_room))
          (subst (λ s. HasLeft s qs) (sym same) (behind_left answers ran q qs (progress_of c q.number) b.few k.fits left))
          (behind_left answers own q qs (progress_of c q.number) b.few k.fits o) t,
    )

-- Descriptors are left behind a request of another lease.
passes_left : (attention : OnAttention) (answers : Answers) (w : World) (c : Connection) (q : Record) (qs : List Record) (m m2 : SessionState) (ran : Option SessionState) → Good answers → Knows answers w c q → HasLeft m (q ∷ qs) → q.ran ≡ ran → Found attention answers (progress_of c q.number) m q.asking ran m2 → HasLeft m2 qs
passes_left attention answers w c q qs m m2 None b k r e f = subst (λ s. HasLeft s qs) f.0 (less_left m q qs r)
passes_left attention answers w c q qs m m2 (Some ran) b k r e f =
    let left : HasLeft ran (q ∷ qs) = subst (λ s. HasLeft s (q ∷ qs)) (sym f.0) (reset_left q.asking.mark m (q ∷ qs) r) in
    subst (λ s. HasLeft s qs) (sym (left_own attention answers c q m ran m2 k.transaction e f)) (behind_left answers ran q qs (progress_of c q.number) b.few k.fits left)

starts_by : (attention : OnAttention) (answers : Answers) (w : World) (c : Connection) (l : ℕ) (q : Record) (qs : List Record) (test : Bool) (m end : SessionState) → eqb q.lease l ≡ test → Good answers → AllOpen w → Starts attention answers w c l qs → (q.lease ≡ l → IsRan q.ran → Goes attention answers l c qs) → Knows answers w c q → AllByRecursion (Behind (core_of q)) (map core_of qs) → Before c l (q ∷ qs) → HasLeft m (q ∷ qs) → HasLeft (own_session (numbered w.leases l)) (q ∷ qs) → Thread attention answers (progress_of c) m (map core_of (q ∷ qs)) end → RunsAlone attention answers (own_session (numbered w.leases l)) (map (exchange_of c) (cond test (q ∷ filter (λ (p : Record). p.lease == l) qs) (filter (λ (p : Record). p.lease == l) qs)))
starts_by attention answers w c l q qs true m end e b opens ih go k g before r o t =
    let is : q.lease ≡ l = is_same q.lease l e in
    starts_on attention answers w c l q qs m t.0 end q.ran b opens ih (go is) k is g before r o refl t.1.0 k.own t.1.1
starts_by attention answers w c l q qs false m end e b opens ih go k g before r o t =
    ih t.0 end (λ number n. before number ((λ i less. absurd (is_other q.lease l e i)), n)) (passes_left attention answers w c q qs m t.0 q.ran b k r refl t.1.0) (less_left (own_session (numbered w.leases l)) q qs o) t.1.1

starts : (attention : OnAttention) (answers : Answers) (w : World) (c : Connection) (l : ℕ) (qs : List Record) → Good answers → AllOpen w → AllByRecursion (Knows answers w c) qs → InTurn (map core_of qs) → Starts attention answers w c l qs
starts attention answers w c l [] b opens k g m end before r o t = tt
starts attention answers w c l (q ∷ qs) b opens k g m end before r o t =
    starts_by attention answers w c l q qs (eqb q.lease l) m end refl b opens (starts attention answers w c l qs b opens k.1 g.1)
    (λ e i. goes attention answers w c l qs b k.1 (all_behind l q qs e i g.0) g.1) k.0 g.0 before r o t

-- ---- The law

-- All that a connection was shown to do.
pub record Shown (attention : OnAttention) (answers : Answers) (w : World) (c : Connection) : Type 0 where
  pub fresh : AllByRecursion (StartsFresh w c) (records c)
  pub own : AllByRecursion (λ q. IsOwnAnswer answers q q.ran) (records c)
  pub transaction : AllByRecursion (RanInOwn c) (records c)
  pub fits : AllByRecursion (λ (q : Record). Fits q.asking.request) (records c)
  pub thread : Threaded attention answers c
  pub turn : InTurn (map core_of (records c))

all_known : (answers : Answers) (w : World) (c : Connection) (qs : List Record) → AllByRecursion (StartsFresh w c) qs → AllByRecursion (λ q. IsOwnAnswer answers q q.ran) qs → AllByRecursion (RanInOwn c) qs → AllByRecursion (λ (q : Record). Fits q.asking.request) qs → AllByRecursion (Knows answers w c) qs
all_known answers w c [] f g h i = tt
all_known answers w c (q ∷ qs) f g h i =
    (record { fresh = f.0; own = g.0; transaction = h.0; fits = i.0 }, all_known answers w c qs f.1 g.1 h.1 i.1)

own_left : (o : Option Holding) (qs : List Record) → HasLeft (transacting new_session) qs → HasLeft (own_session o) qs
own_left None qs h = new_left qs h
own_left (Some x) qs h = by_ticket x.resumed
  where
    by_ticket : (t : Option ℕ) → HasLeft (session_from t) qs
    by_ticket None = new_left qs h
    by_ticket (Some n) = h

alone_on : (attention : OnAttention) (answers : Answers) (w : World) (c : Connection) → Good answers → AllOpen w → HasLeft (transacting new_session) (records c) → Shown attention answers w c → (l : ℕ) → RunsAlone attention answers (own_session (numbered w.leases l)) (exchanges_of l c)
alone_on attention answers w c b opens r h l =
    starts attention answers w c l (records c) b opens (all_known answers w c (records c) h.fresh h.own h.transaction h.fits) h.turn new_session c.session (λ number n. n)
    (new_left (records c) r) (own_left (numbered w.leases l) (records c) r) h.thread

-- What holds of the connection of each number.
at_each : (P : Connection → Type 0) (cs : List Connection) (n : ℕ) (c : Connection) → numbered cs n ≡ Some c → AllByRecursion P cs → P c
at_each P cs n c t h = subst (OfSome P) t (at_number P cs n h)

each_numbered : (P : Connection → Type 0) (cs : List Connection) → ((n : ℕ) (c : Connection) → numbered cs n ≡ Some c → P c) → AllByRecursion P cs
each_numbered P cs f = each_at cs (λ i c e. f (suc i) c e)
  where
    each_at : (ds : List Connection) → ((i : ℕ) (c : Connection) → slice_get ds i ≡ Some c → P c) → AllByRecursion P ds
    each_at [] g = tt
    each_at (d ∷ ds) g = (g 0 d refl, each_at ds (λ i c e. g (suc i) c e))

-- Where so few requests were asked.
pub as_if_alone : (setup : Setup) (answers : Answers) (events : List Event) → Lawful answers → BlindToNumbers answers → UseFewDescriptors answers → AllByRecursion IsEvent events → let w : World = world_after setup answers events new_world in length w.asked_on ≤ most_events → AsIfAlone setup.on_attention answers w
as_if_alone setup answers events l b u known few =
    let w : World = world_after setup answers events new_world in
    let cs : List Connection = w.connections in
    let good : Good answers = record { blind = b; few = u } in
    each_numbered (λ c. (x : ℕ) → RunsAlone setup.on_attention answers (own_session (numbered w.leases x)) (exchanges_of x c)) cs
    (λ n c t.
    alone_on setup.on_attention answers w c good (from_open setup answers events)
    (many_left (records c) (few_on w n c (requests_in_order setup answers events) t few))
    (record {
      fresh = at_each (λ d. AllByRecursion (StartsFresh w d) (records d)) cs n c t (fresh_start setup answers l events);
      own = at_each (λ d. AllByRecursion (λ q. IsOwnAnswer answers q q.ran) (records d)) cs n c t (own_answers setup answers l events);
      transaction = at_each (λ d. AllByRecursion (RanInOwn d) (records d)) cs n c t (own_transaction setup answers l events);
      fits = at_each (λ d. AllByRecursion (λ (q : Record). Fits q.asking.request) (records d)) cs n c t (all_fit setup answers events known);
      thread = at_each (Threaded setup.on_attention answers) cs n c t (all_threaded setup answers l events);
      turn = at_each (λ d. InTurn (map core_of (records d))) cs n c t (all_in_turn setup answers l events);
    }))

-- Each event asks for one request at most.
pub alone_after : (setup : Setup) (answers : Answers) → Lawful answers → BlindToNumbers answers → UseFewDescriptors answers → (events : List Event) → AreFewEvents events → AsIfAlone setup.on_attention answers (world_after setup answers events new_world)
alone_after setup answers l b u events h =
    let few = few_of_each setup answers events in
    as_if_alone setup answers events l b u h.known (let y : length (world_after setup answers events new_world).asked_on ≤ length events = few.asked in let z : length events ≤ most_events = h.few in omega arith)
