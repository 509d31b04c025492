-- The failures of all connections, as events happen on them.
use Rattle.std.proofs.Common.{◌≡◌, ◌≢◌, ◌∙◌, ◌<◌, ◌≤◌, ◌++◌, ◌==◌, ℕ, zero, suc, Bool, true, false, List, [], ◌∷◌, length, get_or, set, Option, Some, None, eqb, refl, sym, ap, subst, arith, append_assoc, append-nil, cond}
use Rattle.std.specs.List.{AllByRecursion}
use Rattle.tds_session.specs.Answer.{Answers}
use Rattle.tds_world.specs.declared.event.Event.{Event}
use Rattle.tds_world.specs.declared.event.Event.TheVariants as event
use Rattle.tds_world.specs.declared.event.Setup.{Setup}
use Rattle.tds_world.specs.Losses.{Loss, Nothing, Failed, Played, is_lost, link_of, world_then, world_with}
use Rattle.tds_world.specs.WithLosses.{LosesNothing}
use Rattle.tds_world.specs.World.{World, new_world}
use Rattle.tds_play.specs.declared.link.EventDone.{EventDone}
use Rattle.tds_play.specs.declared.link.Link.{Link}
use Rattle.tds_play.specs.Seats.{Seated}
use Rattle.tds_play.specs.Failures.{Call, Open, AccountFor, Fails, FailsAs, FailsNoMore, FailsOn, HasFailed, HasNoFailure, IsFailureOf, LiveAreSound, TellFailures, UseLinks, UsesLink, all_known, calls_of, failures, known_at, lost_by, lost_on}
use Rattle.tds_play.specs.Pipe.{Pipe, AreSame}
use Rattle.tds_play.specs.Ties.{AreTied}
use Rattle.tds_play.proofs.Failing.{fails_no_more}
use Rattle.tds_play.proofs.Listed.{by_test, is_at, is_other, number_there, push_each, set_each}

-- ---- What is known of a connection

pub known_no_more : (count place : ℕ) (before after : Option Pipe) → FailsNoMore before after → FailsNoMore (known_at count place before) (known_at count place after)
known_no_more zero place before after same call = refl
known_no_more (suc count) zero before after same call = same call
known_no_more (suc count) (suc place) before after same call = known_no_more count place before after same call

pub known_is : (count place : ℕ) (p : Option Pipe) → place < count → known_at count place p ≡ p
known_is zero place p less = absurd (omega (arith, less))
known_is (suc count) zero p less = refl
known_is (suc count) (suc place) p less = known_is count place p (omega (arith, less))

not_yet : (count : ℕ) (p : Option Pipe) → known_at count count p ≡ None
not_yet zero p = refl
not_yet (suc count) p = not_yet count p

known_then : (count : ℕ) (p : Option Pipe) → known_at (suc count) count p ≡ p
known_then zero p = refl
known_then (suc count) p = known_then count p

known_other : (count place : ℕ) (p : Option Pipe) → place ≢ count → known_at (suc count) place p ≡ known_at count place p
known_other zero zero p other = absurd (other refl)
known_other zero (suc place) p other = refl
known_other (suc count) zero p other = refl
known_other (suc count) (suc place) p other = known_other count place p (λ same. other (ap suc same))

pub same_no_more : (before after : Option Pipe) → after ≡ before → FailsNoMore before after
same_no_more before after same = λ call. ap (λ p. failures p call) same

-- ---- Connections that aren't cut

pub sound_set : {E S : Type 0} (links : List (Seated E S)) (place : ℕ) (new : Seated E S) (pipes pipes' : ℕ → Option Pipe) → LiveAreSound links pipes → place < length links
    → ((j : ℕ) → j ≢ place → FailsNoMore (pipes (suc j)) (pipes' (suc j))) → (new.link.is_cut ≡ false → HasNoFailure (pipes' (suc place))) → LiveAreSound (set links place new) pipes'
sound_set {E} {S} links place new pipes pipes' sound there others here =
    set_each (λ j (l : Seated E S). l.link.is_cut ≡ false → HasNoFailure (pipes' (suc j))) links place new
    (λ j d other less live. fails_no_more [] false (pipes (suc j)) (pipes' (suc j)) (others j other) (sound j d less live)) there here

pub sound_push : {E S : Type 0} (links : List (Seated E S)) (new : Seated E S) (pipes pipes' : ℕ → Option Pipe) → LiveAreSound links pipes
    → AreSame pipes pipes' (suc (length links)) → (new.link.is_cut ≡ false → HasNoFailure (pipes' (suc (length links)))) → LiveAreSound (links ++ new ∷ []) pipes'
sound_push {E} {S} links new pipes pipes' sound same here =
    push_each (λ j (l : Seated E S). l.link.is_cut ≡ false → HasNoFailure (pipes' (suc j))) links new
    (λ j d less live. subst HasNoFailure (sym (same (suc j) (λ z. absurd (omega (arith, z, less))))) (sound j d less live)) here

-- ---- An event on one connection

-- What the event came to there.
fine_then : {E S : Type 0} (calls : List Call) (done : EventDone) (new : Link E S) (pipe : Option Pipe) (b : Bool) → done.lost ≡ b → FailsAs calls done new pipe → new.is_cut ≡ false → HasNoFailure pipe
fine_then calls done new pipe true is fails live = let cut = fails.cut is in absurd (cc)
fine_then calls done new pipe false is fails live = subst (λ (x : Bool). Fails calls x pipe) is fails.failed

pub act_sound : {E S : Type 0} (calls : List Call) (done : EventDone) (link new : Link E S) (before after : Option Pipe) (b : Bool) → link.is_cut ≡ b
    → (link.is_cut ≡ false → HasNoFailure before) → (HasNoFailure before → FailsAs calls done new after) → (link.is_cut ≡ true → new ≡ link)
    → new.is_cut ≡ false → HasNoFailure after
act_sound {E} {S} calls done link new before after true is fine fails gone live =
    let same : new.is_cut ≡ link.is_cut = ap (λ (l : Link E S). l.is_cut) (gone is) in absurd (cc)
act_sound calls done link new before after false is fine fails gone live = fine_then calls done new after done.lost refl (fails (fine is)) live

other_known : (count place : ℕ) (pipes pipes' : ℕ → Option Pipe) → AreSame pipes pipes' (suc place) → (other : ℕ) → other ≢ place → FailsNoMore (all_known count pipes other) (all_known count pipes' other)
other_known count place pipes pipes' same other differs =
    known_no_more count other (pipes (suc other)) (pipes' (suc other)) (same_no_more (pipes (suc other)) (pipes' (suc other)) (same (suc other) (λ z. differs (omega (arith, z)))))

acts_by : (e : Event) (b : Bool) (link : Option ℕ) (count place : ℕ) (pipes pipes' : ℕ → Option Pipe) → place < count → AreSame pipes pipes' (suc place)
    → HasNoFailure (pipes (suc place)) → Fails (calls_of e) b (pipes' (suc place)) → (b ≡ true → link ≡ Some (suc place))
    → FailsOn e b link (all_known count pipes) (all_known count pipes')
acts_by e true link count place pipes pipes' less same fine fails at = (
  place,
  at refl,
  subst HasNoFailure (sym (known_is count place (pipes (suc place)) less)) fine,
  subst (HasFailed (calls_of e)) (sym (known_is count place (pipes' (suc place)) less)) fails,
  other_known count place pipes pipes' same,
)
acts_by e false link count place pipes pipes' less same fine fails at = λ other.
    by_test (FailsNoMore (all_known count pipes other) (all_known count pipes' other)) (eqb other place)
    (λ t. subst (λ (k : ℕ). FailsNoMore (all_known count pipes k) (all_known count pipes' k)) (sym (is_at other place t))
    (known_no_more count place (pipes (suc place)) (pipes' (suc place)) (λ call. fails call ∙ sym (fine call))))
    (λ t. other_known count place pipes pipes' same other (is_other other place t))

pub act_lost : {E S : Type 0} (e : Event) (done : EventDone) (at : Option ℕ) (count place : ℕ) (link new : Link E S) (pipes pipes' : ℕ → Option Pipe) (b : Bool) → link.is_cut ≡ b
    → place < count → AreSame pipes pipes' (suc place)
    → (link.is_cut ≡ false → HasNoFailure (pipes (suc place))) → (HasNoFailure (pipes (suc place)) → FailsAs (calls_of e) done new (pipes' (suc place)))
    → (link.is_cut ≡ true → (pipes' ≡ pipes) × (done.lost ≡ false))
    → (done.lost ≡ true → at ≡ Some (suc place))
    → FailsOn e done.lost at (all_known count pipes) (all_known count pipes')
act_lost e done at count place link new pipes pipes' true is less same fine fails gone uses =
    let still = gone is in
    subst (λ (x : Bool). FailsOn e x at (all_known count pipes) (all_known count pipes')) (sym still.1)
    (λ other. known_no_more count other (pipes (suc other)) (pipes' (suc other)) (same_no_more (pipes (suc other)) (pipes' (suc other)) (ap (λ (f : ℕ → Option Pipe). f (suc other)) still.0)))
act_lost e done at count place link new pipes pipes' false is less same fine fails gone uses =
    acts_by e done.lost at count place pipes pipes' less same (fine is) (fails (fine is)).failed uses

-- ---- A new connection

opened_other : (count : ℕ) (pipes pipes' : ℕ → Option Pipe) → AreSame pipes pipes' (suc count) → (other : ℕ) → other ≢ count → FailsNoMore (all_known count pipes other) (all_known (suc count) pipes' other)
opened_other count pipes pipes' same other differs =
    same_no_more (all_known count pipes other) (all_known (suc count) pipes' other)
    (known_other count other (pipes' (suc other)) differs ∙ ap (known_at count other) (same (suc other) (λ z. differs (omega (arith, z)))))

pub opens_lost : (lost : Bool) (link : Option ℕ) (count : ℕ) (pipes pipes' : ℕ → Option Pipe) → AreSame pipes pipes' (suc count)
    → link ≡ Some (suc count) → Fails (Open ∷ []) lost (pipes' (suc count))
    → FailsOn event.Lease lost link (all_known count pipes) (all_known (suc count) pipes')
opens_lost true link count pipes pipes' same at fails = (
  count,
  at,
  subst HasNoFailure (sym (not_yet count (pipes (suc count)))) (λ call. refl),
  subst (HasFailed (Open ∷ [])) (sym (known_then count (pipes' (suc count)))) fails,
  opened_other count pipes pipes' same,
)
opens_lost false link count pipes pipes' same at fails = λ other.
    by_test (FailsNoMore (all_known count pipes other) (all_known (suc count) pipes' other)) (eqb other count)
    (λ t. subst (λ (k : ℕ). FailsNoMore (all_known count pipes k) (all_known (suc count) pipes' k)) (sym (is_at other count t))
    (λ call. ap (λ p. failures p call) (known_then count (pipes' (suc count))) ∙ fails call ∙ sym (ap (λ p. failures p call) (not_yet count (pipes (suc count))))))
    (λ t. opened_other count pipes pipes' same other (is_other other count t))

-- An event that meets no call.
pub none_lost : (e : Event) (done : EventDone) (link : Option ℕ) (count count' : ℕ) (pipes pipes' : ℕ → Option Pipe) → done.lost ≡ false → count' ≡ count
    → ((n : ℕ) → FailsNoMore (pipes n) (pipes' n)) → FailsOn e done.lost link (all_known count pipes) (all_known count' pipes')
none_lost e done link count count' pipes pipes' whole many same =
    subst (λ (x : Bool). FailsOn e x link (all_known count pipes) (all_known count' pipes')) (sym whole)
    (subst (λ (k : ℕ). (place : ℕ) → FailsNoMore (all_known count pipes place) (all_known k pipes' place)) (sym many)
    (λ place. known_no_more count place (pipes (suc place)) (pipes' (suc place)) (same (suc place))))

-- ---- A play

-- The failures so far, of the connections that are known.
pub record AreTold (setup : Setup) (answers : Answers) (ps : List Played) (known : ℕ → Option Pipe) : Type 0 where
  pub links : UseLinks setup answers ps new_world
  pub failures : (place : ℕ) → AccountFor (lost_on setup answers (suc place) ps new_world) (known place)
  pub unfailing : ((place : ℕ) → HasNoFailure (known place)) → LosesNothing ps

on_one_more : (setup : Setup) (answers : Answers) (n : ℕ) (ps : List Played) (p : Played) (w : World)
    → lost_on setup answers n (ps ++ p ∷ []) w ≡ lost_on setup answers n ps w ++ (lost_by p.loss (link_of setup (world_with setup answers ps w) p.event) n p.event ++ [])
on_one_more setup answers n [] p w = refl
on_one_more setup answers n (q ∷ qs) p w =
    ap (λ (es : List Event). lost_by q.loss (link_of setup w q.event) n q.event ++ es) (on_one_more setup answers n qs p (world_then setup answers w q))
    ∙ sym (append_assoc (lost_by q.loss (link_of setup w q.event) n q.event) (lost_on setup answers n qs (world_then setup answers w q))
    (lost_by p.loss (link_of setup (world_with setup answers qs (world_then setup answers w q)) p.event) n p.event ++ []))

links_one_more : (setup : Setup) (answers : Answers) (ps : List Played) (p : Played) (w : World) → UseLinks setup answers ps w
    → UsesLink p.loss (link_of setup (world_with setup answers ps w) p.event) → UseLinks setup answers (ps ++ p ∷ []) w
links_one_more setup answers [] p w before one = (one, tt)
links_one_more setup answers (q ∷ qs) p w before one = (before.0, links_one_more setup answers qs p (world_then setup answers w q) before.1 one)

uses_by : (l : Loss) (link : Option ℕ) (e : Event) (before after : ℕ → Option Pipe) → FailsOn e (is_lost l) link before after → UsesLink l link
uses_by Nothing link e before after fails = tt
uses_by (Failed k) None e before after fails = let at = fails.1 in absurd (cc)
uses_by (Failed k) (Some n) e before after fails = tt

all_then : {A : Type 0} (P : A → Type 0) (xs : List A) (x : A) → AllByRecursion P xs → P x → AllByRecursion P (xs ++ x ∷ [])
all_then P [] x h p = (p, tt)
all_then P (y ∷ ys) x h p = (h.0, all_then P ys x h.1 p)

account_same : (es : List Event) (before after : Option Pipe) → FailsNoMore before after → AccountFor es before → AccountFor (es ++ []) after
account_same [] before after same told = fails_no_more [] false before after same told
account_same (e ∷ []) before after same told = fails_no_more (calls_of e) true before after same told
account_same (e ∷ f ∷ es) before after same told = absurd told

-- Where nothing had failed, no event was lost.
account_first : (es : List Event) (e : Event) (before after : Option Pipe) → HasNoFailure before → AccountFor es before → IsFailureOf e after → AccountFor (es ++ e ∷ []) after
account_first [] e before after fine told fails = fails
account_first (d ∷ []) e before after fine told fails = absurd (told.some.1 (fine told.some.0))
account_first (d ∷ f ∷ es) e before after fine told fails = absurd told

here_by : (k m n : ℕ) (e : Event) → (m == n) ≡ true → lost_by (Failed k) (Some m) n e ≡ e ∷ []
here_by k m n e t = ap (λ (b : Bool). cond b (e ∷ []) []) t

not_here : (k m n : ℕ) (e : Event) → (m == n) ≡ false → lost_by (Failed k) (Some m) n e ≡ []
not_here k m n e t = ap (λ (b : Bool). cond b (e ∷ []) []) t

none_here : (link : Option ℕ) (n : ℕ) (e : Event) → lost_by Nothing link n e ≡ []
none_here None n e = refl
none_here (Some m) n e = refl

account_with : (es xs ys : List Event) (p : Option Pipe) → ys ≡ xs → AccountFor (es ++ xs) p → AccountFor (es ++ (ys ++ [])) p
account_with es xs ys p is told = subst (λ (zs : List Event). AccountFor (es ++ zs) p) (sym (append-nil ys ∙ is)) told

account_more : (l : Loss) (link : Option ℕ) (e : Event) (before after : ℕ → Option Pipe) (place : ℕ) (es : List Event) → FailsOn e (is_lost l) link before after
    → AccountFor es (before place) → AccountFor (es ++ (lost_by l link (suc place) e ++ [])) (after place)
account_more Nothing link e before after place es fails told =
    account_with es [] (lost_by Nothing link (suc place) e) (after place) (none_here link (suc place) e) (account_same es (before place) (after place) (fails place) told)
account_more (Failed k) link e before after place es fails told =
    subst (λ (o : Option ℕ). AccountFor (es ++ (lost_by (Failed k) o (suc place) e ++ [])) (after place)) (sym fails.1)
    (by_test (AccountFor (es ++ (lost_by (Failed k) (Some (suc fails.0)) (suc place) e ++ [])) (after place)) (suc fails.0 == suc place)
    (λ t. let at : place ≡ fails.0 = omega (arith, is_at (suc fails.0) (suc place) t) in
    account_with es (e ∷ []) (lost_by (Failed k) (Some (suc fails.0)) (suc place) e) (after place) (here_by k (suc fails.0) (suc place) e t)
    (account_first es e (before place) (after place)
    (subst (λ (m : ℕ). HasNoFailure (before m)) (sym at) fails.2) told
    (subst (λ (m : ℕ). IsFailureOf e (after m)) (sym at) fails.3)))
    (λ t. let other : place ≢ fails.0 = λ z. is_other (suc fails.0) (suc place) t (omega (arith, z)) in
    account_with es [] (lost_by (Failed k) (Some (suc fails.0)) (suc place) e) (after place) (not_here k (suc fails.0) (suc place) e t)
    (account_same es (before place) (after place) (fails.4 place other) told)))

-- Where nothing has failed after an event, nothing had before it, and it wasn't lost.
fine_before : (p : Played) (link : Option ℕ) (before after : ℕ → Option Pipe) (ps : List Played) → FailsOn p.event (is_lost p.loss) link before after
    → (((place : ℕ) → HasNoFailure (before place)) → LosesNothing ps) → ((place : ℕ) → HasNoFailure (after place)) → LosesNothing (ps ++ p ∷ [])
fine_before p link before after ps fails earlier fine = by_loss p.loss refl
  where
    by_loss : (l : Loss) → p.loss ≡ l → LosesNothing (ps ++ p ∷ [])
    by_loss Nothing is =
        let same : (place : ℕ) → FailsNoMore (before place) (after place) = subst (λ (l : Loss). FailsOn p.event (is_lost l) link before after) is fails in
        all_then (λ (q : Played). q.loss ≡ Nothing) ps p (earlier (λ place call. sym (same place call) ∙ fine place call)) is
    by_loss (Failed came) is =
        let lost : FailsOn p.event true link before after = subst (λ (l : Loss). FailsOn p.event (is_lost l) link before after) is fails in
        absurd (lost.3.some.1 (fine lost.0 lost.3.some.0))

pub told_more : (setup : Setup) (answers : Answers) (ps : List Played) (p : Played) (before after : ℕ → Option Pipe)
    → FailsOn p.event (is_lost p.loss) (link_of setup (world_with setup answers ps new_world) p.event) before after
    → AreTold setup answers ps before → AreTold setup answers (ps ++ p ∷ []) after
told_more setup answers ps p before after fails told =
    let link : Option ℕ = link_of setup (world_with setup answers ps new_world) p.event in
    record {
      links = links_one_more setup answers ps p new_world told.links (uses_by p.loss link p.event before after fails);
      failures = λ place. subst (λ (es : List Event). AccountFor es (after place)) (sym (on_one_more setup answers (suc place) ps p new_world))
          (account_more p.loss link p.event before after place (lost_on setup answers (suc place) ps new_world) fails (told.failures place));
      unfailing = fine_before p link before after ps fails told.unfailing;
    }

pub told_none : (setup : Setup) (answers : Answers) (pipes : ℕ → Option Pipe) → AreTold setup answers [] (all_known 0 pipes)
told_none setup answers pipes = record { links = tt; failures = λ place call. refl; unfailing = λ fine. tt }

pub told_all : (setup : Setup) (answers : Answers) (ps : List Played) (count : ℕ) (pipes : ℕ → Option Pipe)
    → count ≡ length (world_with setup answers ps new_world).connections → AreTold setup answers ps (all_known count pipes) → TellFailures setup answers ps pipes
told_all setup answers ps count pipes many told = record {
  links = told.links;
  failures = λ n some most. at n some most;
}
  where
    at : (n : ℕ) → 0 < n → n ≤ length (world_with setup answers ps new_world).connections → AccountFor (lost_on setup answers n ps new_world) (pipes n)
    at zero some most = absurd (omega (arith, some))
    at (suc place) some most = subst (AccountFor (lost_on setup answers (suc place) ps new_world)) (known_is count place (pipes (suc place)) (omega (arith, most, many))) (told.failures place)

-- A connection that isn't known has no failure.
pub known_fine : (count place : ℕ) (p : Option Pipe) → HasNoFailure p → HasNoFailure (known_at count place p)
known_fine zero place p fine = λ call. refl
known_fine (suc count) zero p fine = fine
known_fine (suc count) (suc place) p fine = known_fine count place p fine

-- ---- An event on the connection at a place

there_sound : {E S : Type 0} (links : List (Seated E S)) (place : ℕ) (x : Seated E S) (pipes : ℕ → Option Pipe) → LiveAreSound links pipes → place < length links → x ≡ get_or links place x → x.link.is_cut ≡ false → HasNoFailure (pipes (suc place))
there_sound {E} {S} links place x pipes sound there is live = sound place x there (sym (ap (λ (l : Seated E S). l.link.is_cut) is) ∙ live)

fails_there : {E S : Type 0} (n m : ℕ) (calls : List Call) (done : EventDone) (new : Link E S) (pipes pipes' : ℕ → Option Pipe) → n ≡ m
    → (HasNoFailure (pipes n) → FailsAs calls done new (pipes' n)) → HasNoFailure (pipes m) → FailsAs calls done new (pipes' m)
fails_there {E} {S} n m calls done new pipes pipes' is fails = subst (λ (k : ℕ). HasNoFailure (pipes k) → FailsAs calls done new (pipes' k)) is fails

pub acted_sound : {E S : Type 0} (links : List (Seated E S)) (place : ℕ) (x y : Seated E S) (pipes pipes' : ℕ → Option Pipe) (calls : List Call) (done : EventDone)
    → AreTied links pipes → place < length links → x ≡ get_or links place x → AreSame pipes pipes' x.link.number
    → (HasNoFailure (pipes x.link.number) → FailsAs calls done y.link (pipes' x.link.number)) → (x.link.is_cut ≡ true → y.link ≡ x.link)
    → LiveAreSound links pipes → LiveAreSound (set links place y) pipes'
acted_sound {E} {S} links place x y pipes pipes' calls done tied there is same fails gone sound =
    let number : x.link.number ≡ suc place = number_there links place x pipes tied there is in
    sound_set links place y pipes pipes' sound there
    (λ j other. same_no_more (pipes (suc j)) (pipes' (suc j)) (same (suc j) (λ z. other (omega (arith, z, number)))))
    (act_sound calls done x.link y.link (pipes (suc place)) (pipes' (suc place)) x.link.is_cut refl (there_sound links place x pipes sound there is)
    (fails_there x.link.number (suc place) calls done y.link pipes pipes' number fails) gone)

pub acted_lost : {E S : Type 0} (links : List (Seated E S)) (place count : ℕ) (x y : Seated E S) (pipes pipes' : ℕ → Option Pipe) (e : Event) (done : EventDone) (at : Option ℕ)
    → AreTied links pipes → place < length links → x ≡ get_or links place x → AreSame pipes pipes' x.link.number
    → (HasNoFailure (pipes x.link.number) → FailsAs (calls_of e) done y.link (pipes' x.link.number))
    → (x.link.is_cut ≡ true → (pipes' ≡ pipes) × (done.lost ≡ false)) → (done.lost ≡ true → at ≡ Some (suc place)) → count ≡ length links
    → LiveAreSound links pipes → FailsOn e done.lost at (all_known (length links) pipes) (all_known count pipes')
acted_lost {E} {S} links place count x y pipes pipes' e done at tied there is same fails gone uses many sound =
    let number : x.link.number ≡ suc place = number_there links place x pipes tied there is in
    subst (λ (k : ℕ). FailsOn e done.lost at (all_known (length links) pipes) (all_known k pipes')) (sym many)
    (act_lost e done at (length links) place x.link y.link pipes pipes' x.link.is_cut refl there (subst (AreSame pipes pipes') number same)
    (there_sound links place x pipes sound there is) (fails_there x.link.number (suc place) (calls_of e) done y.link pipes pipes' number fails) gone uses)

-- One connection fails no more, and nothing changes on the others.
pub all_no_more : (conn : ℕ) (pipes pipes' : ℕ → Option Pipe) → AreSame pipes pipes' conn → FailsNoMore (pipes conn) (pipes' conn) → (n : ℕ) → FailsNoMore (pipes n) (pipes' n)
all_no_more conn pipes pipes' same here n =
    by_test (FailsNoMore (pipes n) (pipes' n)) (eqb n conn)
    (λ t. subst (λ (k : ℕ). FailsNoMore (pipes k) (pipes' k)) (sym (is_at n conn t)) here)
    (λ t. same_no_more (pipes n) (pipes' n) (same n (is_other n conn t)))
