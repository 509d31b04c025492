-- What is given to a lease in two plays is the same as far as both go.
use Rattle.std.proofs.Common.{◌≡◌, ℕ, List, [], ◌∷◌, ◌++◌, inl, inr, Bool, true, false, refl, sym, ap, subst, ◌∙◌, Option, Some, None}
use Rattle.std.specs.List.{AllByRecursion}
use Rattle.tds_session.specs.declared.attention.OnAttention.{OnAttention}
use Rattle.tds_session.specs.Answer.{Answers}
use Rattle.tds_session.specs.Session.{SessionState, new_session, transacting}
use Rattle.tds_token.specs.declared.token.Token.{Token}
use Rattle.tds_world.specs.declared.event.Event.{Event}
use Rattle.tds_world.specs.declared.outcome.Opened.{Opened}
use Rattle.tds_world.specs.declared.outcome.Opened.TheVariants as opened
use Rattle.tds_world.specs.declared.report.EventReport.{EventReport}
use Rattle.tds_world.specs.declared.report.Report.{Report}
use Rattle.tds_world.specs.alone.Alone.{AreAlike, Exchange, exchanges_of, own_session, session_from, left_by, left_alone, own_steps, session_after, Progress, IsToldAlone, TellsAlone, RunsAlone, AsIfAlone}
use Rattle.tds_world.specs.alone.AloneShown.{LeaseShown, lease_in, OfEachLease, own_by, HowFar, ShowsAsIfAlone}
use Rattle.tds_world.specs.Connection.{Connection}
use Rattle.tds_world.specs.Laws.{whole_answer}
use Rattle.tds_world.specs.Reports.{asked_in}
use Rattle.tds_world.specs.alone.TwoPlays.{AgreeSoFar, AreGivenAlike, AllGivenAlike, GiveAlike, is_from, is_resumed, was_resumed, LeasesAlike, ShowGivenAlike}
use Rattle.tds_world.specs.World.{World, Holding, numbered}
use Rattle.tds_world.proofs.events.Words.{OfSome}
use Rattle.tds_world.proofs.events.Worlds.{at_number}

-- ---- Two beginnings of one answer

-- One token more, before both.
one_before : (t : Token) (ts us : List Token) → AgreeSoFar ts us → AgreeSoFar (t ∷ ts) (t ∷ us)
one_before t ts us h = elim h [
  | inl k ↦ inl (k.0, ap (λ xs. t ∷ xs) k.1)
  | inr k ↦ inr (k.0, ap (λ xs. t ∷ xs) k.1)
]

both_begin : (ts us whole more rest : List Token) → ts ++ more ≡ whole → us ++ rest ≡ whole → AgreeSoFar ts us
both_begin [] us whole more rest e f = inl (us, refl)
both_begin (t ∷ ts) [] whole more rest e f = inr (t ∷ ts, refl)
both_begin (t ∷ ts) (u ∷ us) whole more rest e f =
    let both : t ∷ (ts ++ more) ≡ u ∷ (us ++ rest) = e ∙ sym f in
    let first : t ≡ u = cc in
    let later : ts ++ more ≡ us ++ rest = cc in
    subst (λ x. AgreeSoFar (t ∷ ts) (x ∷ us)) first (one_before t ts us (both_begin ts us (us ++ rest) more rest later refl))

-- ---- One request

alike_both : (s t own : SessionState) → AreAlike s own → AreAlike t own → AreAlike s t
alike_both s t own a b = record { settings = a.settings ∙ sym b.settings; transaction = a.transaction ∙ sym b.transaction }

not_some : {A : Type 0} (x : A) → None ≡ Some x → ⊥
not_some x e = absurd (cc)

same_ran : (x y : SessionState) → Some x ≡ Some y → x ≡ y
same_ran x y e = cc

-- Both ran.
both_ran : (answers : Answers) (own r q : SessionState) (x y : Exchange) → x.request ≡ y.request → x.ran ≡ Some r → y.ran ≡ Some q → IsToldAlone answers own r x → IsToldAlone answers own q y → AreGivenAlike x y
both_ran answers own r q x y e i j a b =
    let same : whole_answer answers own x.request ≡ whole_answer answers own y.request = ap (whole_answer answers own) e in
    record {
      alike = λ s t f g.
          subst (λ z. AreAlike z t) (same_ran r s (sym i ∙ f)) (subst (AreAlike r) (same_ran q t (sym j ∙ g)) (alike_both r q own a.alike b.alike));
      so_far = both_begin x.given y.given (whole_answer answers own y.request) a.begins.0 b.begins.0 (a.begins.1 ∙ same) b.begins.1;
      finished = λ f g. a.ends f ∙ (same ∙ sym (b.ends g));
    }

not_finished : (b : Bool) → b ≡ false → b ≡ true → ⊥
not_finished b e f = let z : false ≡ true = sym e ∙ f in absurd (cc)

-- One that did not run was given nothing.
first_none : (x y : Exchange) → x.ran ≡ None → x.given ≡ [] → x.finished ≡ false → AreGivenAlike x y
first_none x y i e f = record {
  alike = λ s t g h. absurd (not_some s (sym i ∙ g));
  so_far = inl (y.given, ap (λ ts. ts ++ y.given) e);
  finished = λ g h. absurd (not_finished x.finished f g);
}

second_none : (x y : Exchange) → y.ran ≡ None → y.given ≡ [] → y.finished ≡ false → AreGivenAlike x y
second_none x y i e f = record {
  alike = λ s t g h. absurd (not_some t (sym i ∙ h));
  so_far = inr (x.given, ap (λ ts. ts ++ x.given) e);
  finished = λ g h. absurd (not_finished y.finished f h);
}

given_alike : (answers : Answers) (own : SessionState) (x y : Exchange) (r q : Option SessionState) → x.request ≡ y.request → x.ran ≡ r → y.ran ≡ q → TellsAlone answers own x r → TellsAlone answers own y q → AreGivenAlike x y
given_alike answers own x y None q e i j a b = first_none x y i a.0 a.1
given_alike answers own x y (Some r) None e i j a b = second_none x y j b.0 b.1
given_alike answers own x y (Some r) (Some q) e i j a b = both_ran answers own r q x y e i j a b

-- ---- All of them

-- What each left there.
left_same : (answers : Answers) (own : SessionState) (x y : Exchange) → x.request ≡ y.request → x.got ≡ y.got → left_alone answers own y ≡ left_alone answers own x
left_same answers own x y e n =
    ap (λ (g : Progress). left_by g.rolled (session_after own g.done (own_steps answers own y.request))) (sym n)
    ∙ ap (λ q. left_by x.got.rolled (session_after own x.got.done (own_steps answers own q))) (sym e)

-- Whatever the servers do at an attention, as far as they did the same.
pub all_alike : (attention there : OnAttention) (answers : Answers) (own : SessionState) (xs ys : List Exchange) → RunsAlone attention answers own xs → RunsAlone there answers own ys → AllGivenAlike xs ys
all_alike attention there answers own [] ys a b = tt
all_alike attention there answers own (x ∷ xs) [] a b = tt
all_alike attention there answers own (x ∷ xs) (y ∷ ys) a b = λ e. (
  given_alike answers own x y x.ran y.ran e refl refl a.0 b.0,
  λ n.
      all_alike attention there answers (left_alone answers own x) xs ys a.2
      (subst (λ s. RunsAlone there answers s ys) (left_same answers own x y e n) b.2),
)

-- ---- Of worlds

from_same : (a b : Option ℕ) → is_from a ≡ is_from b → session_from a ≡ session_from b
from_same None None e = refl
from_same None (Some t) e = absurd (cc)
from_same (Some t) None e = absurd (cc)
from_same (Some t) (Some u) e = refl

-- The own session by what kind of lease it is.
abbrev session_by : Bool → SessionState
session_by true = transacting new_session
session_by false = new_session

from_is : (o : Option ℕ) → session_from o ≡ session_by (is_from o)
from_is None = refl
from_is (Some t) = refl

own_by_kind : (o : Option Holding) → own_session o ≡ session_by (is_resumed o)
own_by_kind None = refl
own_by_kind (Some h) = from_is h.resumed

at_each : (P : Connection → Type 0) (cs : List Connection) (n : ℕ) (c : Connection) → numbered cs n ≡ Some c → AllByRecursion P cs → P c
at_each P cs n c t h = subst (OfSome P) t (at_number P cs n h)

abbrev On : OnAttention → Answers → World → Connection → Type 0
On attention answers w c = (l : ℕ) → RunsAlone attention answers (own_session (numbered w.leases l)) (exchanges_of l c)

pub worlds_alike : (attention there : OnAttention) (answers : Answers) (w v : World) → AsIfAlone attention answers w → AsIfAlone there answers v → GiveAlike w v
worlds_alike attention there answers w v a b m n l k c d e f same =
    let first : RunsAlone attention answers (own_session (numbered w.leases l)) (exchanges_of l c) = at_each (On attention answers w) w.connections m c e a l in
    let second : RunsAlone there answers (own_session (numbered v.leases k)) (exchanges_of k d) = at_each (On there answers v) v.connections n d f b k in
    let own : own_session (numbered v.leases k) ≡ own_session (numbered w.leases l) =
    own_by_kind (numbered v.leases k) ∙ (ap session_by (sym same) ∙ sym (own_by_kind (numbered w.leases l))) in
    all_alike attention there answers (own_session (numbered w.leases l)) (exchanges_of l c) (exchanges_of k d) first
    (subst (λ s. RunsAlone there answers s (exchanges_of k d)) own second)

-- ---- Of reports

opened_by : (o : Opened) → own_by o ≡ session_by (was_resumed o)
opened_by opened.New = refl
opened_by opened.Reused = refl
opened_by opened.Resumed = refl

abbrev IsAlone : OnAttention → Answers → LeaseShown → Type 0
IsAlone attention answers x = RunsAlone attention answers (own_by x.opened) x.exchanges

shown_alike : (attention there : OnAttention) (answers : Answers) (x y : LeaseShown) → IsAlone attention answers x → IsAlone there answers y → LeasesAlike x y
shown_alike attention there answers x y a b = record {
  given = λ same.
      let own : own_by y.opened ≡ own_by x.opened = opened_by y.opened ∙ (ap session_by (sym same) ∙ sym (opened_by x.opened)) in
      all_alike attention there answers (own_by x.opened) x.exchanges y.exchanges a (subst (λ s. RunsAlone there answers s y.exchanges) own b);
}

each_of : {A : Type 0} (P Q : A → Type 0) (xs : List A) → ((x : A) → P x → Q x) → AllByRecursion P xs → AllByRecursion Q xs
each_of P Q [] f h = tt
each_of P Q (x ∷ xs) f h = (f x h.0, each_of P Q xs f h.1)

each_lease : (P Q : LeaseShown → Type 0) (far : HowFar) (events : List Event) (r : Report) → ((x : LeaseShown) → P x → Q x) → OfEachLease P far events r → OfEachLease Q far events r
each_lease P Q far events r f h =
    each_of (λ (e : EventReport). AllByRecursion P (lease_in far (asked_in events r.events) r.requests e.outcome)) (λ (e : EventReport). AllByRecursion Q (lease_in far (asked_in events r.events) r.requests e.outcome)) r.events
    (λ e. each_of P Q (lease_in far (asked_in events r.events) r.requests e.outcome) f) h

pub reports_alike : (attention attention_there : OnAttention) (answers : Answers) (far far_there : HowFar) (events events_there : List Event) (r there : Report) → ShowsAsIfAlone attention answers far events r → ShowsAsIfAlone attention_there answers far_there events_there there → ShowGivenAlike far events r far_there events_there there
reports_alike attention attention_there answers far far_there events events_there r there a b =
    each_lease (IsAlone attention answers) (λ x. OfEachLease (λ y. LeasesAlike x y) far_there events_there there) far events r
    (λ x h. each_lease (IsAlone attention_there answers) (λ y. LeasesAlike x y) far_there events_there there (λ y k. shown_alike attention attention_there answers x y h k) b) a
