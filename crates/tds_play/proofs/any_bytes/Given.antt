-- What is told of the requests in the end is what the callers of each connection were given.
use Rattle.std.proofs.Common.{◌≡◌, ◌≢◌, ◌∙◌, ◌<◌, ◌≤◌, ◌-◌, ◌==◌, ℕ, zero, suc, List, [], ◌∷◌, ◌++◌, length, map, take, reverse, slice_index_or, slice_set, get_or, Bool, true, false, Option, Some, None, refl, sym, ap, subst, append_assoc, append-nil, arith, inl, inr, ◌⊎◌, cond, eqb, option_map}
use Rattle.std.specs.Prelude.{flat_map, slice_get, option_to_list}
use Rattle.std.specs.List.{AllByRecursion}
use Rattle.std.proofs.lemmas.Bool.{eq-eqb, ne_eqb, cases_lt}
use Rattle.std.proofs.lemmas.Grind.{flat_map-append}
use Rattle.std.proofs.lemmas.List.{map-set, reverse-append, reverse-reverse, take_all}
use Rattle.std.proofs.lemmas.Option.{get_or_from_slice_get, slice_get-map, slice_get_within}
use Rattle.tds_packet.specs.declared.kind.Direction.{Direction}
use Rattle.tds_packet.specs.declared.kind.Direction.TheVariants.{ToClient}
use Rattle.tds_packet.specs.Reading.{Reading}
use Rattle.tds_token.specs.declared.token.Token.{Token}
use Rattle.tds_ends.specs.AllBytes.{AreToldBy, new_reader}
use Rattle.tds_world.specs.declared.event.Event.{Event}
use Rattle.tds_world.specs.declared.outcome.Outcome.{Outcome}
use Rattle.tds_world.specs.declared.report.EventReport.{EventReport}
use Rattle.tds_world.specs.declared.report.RequestReport.{RequestReport}
use Rattle.tds_world.specs.World.{numbered}
use Rattle.tds_play.specs.Seats.{Seated}
use Rattle.tds_play.specs.declared.request.Record.{Record}
use Rattle.tds_play.specs.AnyBytes.{AnswerInTurn, IsRefused, ReadsBytes, given_on, given_to, outcomes_on}
use Rattle.tds_play.specs.Links.{behind, newest_there, report_of}
use Rattle.tds_play.specs.Pipe.{Pipe, traffic}
use Rattle.tds_play.specs.Reads.{AllRead, ReadsThere, TakesLast, TellsGiven, given_at, tokens_of}
use Rattle.tds_play.proofs.any_bytes.Answered.{answers_of}
use Rattle.tds_play.proofs.any_bytes.Fed.{fewer_told}
use Rattle.tds_play.proofs.Listed.{by_test, is_at, is_other}
use Rattle.tds_play.proofs.any_bytes.Stays.{given_behind}

-- ---- What is left to be told

abbrev pub left_in : Option (List Record) → List Token
left_in None = []
left_in (Some rs) = flat_map tokens_of (reverse rs)

-- So much was told, and so much is left, the oldest request last.
abbrev pub ToldSoFar : {E S : Type 0} → List (Seated E S) → List (List Record) → List RequestReport → Type 0
ToldSoFar links stacks reports = (n : ℕ) → given_at (numbered links n) ≡ given_on n reports ++ left_in (numbered stacks n)

at_first_of : {E S : Type 0} (o : Option (Seated E S)) → given_at o ≡ left_in (option_map newest_there o)
at_first_of None = refl
at_first_of (Some link) =
    sym (given_behind link.link.past.items link.link.current)
    ∙ ap (flat_map tokens_of) (sym (reverse-reverse (behind link.link.past.items link.link.current)))

at_first_on : {E S : Type 0} (links : List (Seated E S)) (n : ℕ) → given_at (numbered links n) ≡ left_in (numbered (map newest_there links) n)
at_first_on links zero = refl
at_first_on links (suc i) = at_first_of (slice_get links i) ∙ ap left_in (sym (slice_get-map newest_there links i))

pub told_at_first : {E S : Type 0} (links : List (Seated E S)) (stacks : List (List Record)) (reports : List RequestReport) → stacks ≡ map newest_there links → reports ≡ [] → ToldSoFar links stacks reports
told_at_first links stacks reports is none n =
    at_first_on links n ∙ ap (λ (ss : List (List Record)). left_in (numbered ss n)) (sym is) ∙ ap (λ (rs : List RequestReport). given_on n rs ++ left_in (numbered stacks n)) (sym none)

-- ---- One more

get_set_same : {A : Type 0} (xs : List A) (i : ℕ) (x y : A) → slice_get xs i ≡ Some y → slice_get (slice_set xs i x) i ≡ Some x
get_set_same [] i x y there = absurd (cc)
get_set_same (z ∷ zs) zero x y there = refl
get_set_same (z ∷ zs) (suc i) x y there = get_set_same zs i x y there

get_set_other : {A : Type 0} (xs : List A) (i j : ℕ) (x : A) → i ≢ j → slice_get (slice_set xs i x) j ≡ slice_get xs j
get_set_other [] i j x other = refl
get_set_other (z ∷ zs) zero zero x other = absurd (other refl)
get_set_other (z ∷ zs) zero (suc j) x other = refl
get_set_other (z ∷ zs) (suc i) zero x other = refl
get_set_other (z ∷ zs) (suc i) (suc j) x other = get_set_other zs i j x (λ same. other (ap suc same))

last_left : (left : List Record) (r : Record) → flat_map tokens_of (reverse (left ++ r ∷ [])) ≡ tokens_of r ++ flat_map tokens_of (reverse left)
last_left left r = ap (flat_map tokens_of) (reverse-append left (r ∷ []))

given_more : (n : ℕ) (reports : List RequestReport) (q : RequestReport) (b : Bool) → (q.conn == n) ≡ b → given_on n (reports ++ q ∷ []) ≡ given_on n reports ++ cond b q.tokens []
given_more n reports q b is =
    flat_map-append (given_to n) reports (q ∷ [])
    ∙ ap (λ (ts : List Token). given_on n reports ++ ts) (append-nil (given_to n q) ∙ ap (λ (x : Bool). cond x q.tokens []) is)

here_more : (place : ℕ) (stacks : List (List Record)) (reports : List RequestReport) (left : List Record) (r : Record) → slice_get stacks place ≡ Some (left ++ r ∷ [])
    → given_on (suc place) reports ++ left_in (numbered stacks (suc place)) ≡ given_on (suc place) (reports ++ report_of (suc place) r ∷ []) ++ left_in (numbered (slice_set stacks place left) (suc place))
here_more place stacks reports left r there =
    ap (λ (o : Option (List Record)). given_on (suc place) reports ++ left_in o) there
    ∙ ap (λ (ts : List Token). given_on (suc place) reports ++ ts) (last_left left r)
    ∙ sym (append_assoc (given_on (suc place) reports) (tokens_of r) (flat_map tokens_of (reverse left)))
    ∙ ap (λ (ts : List Token). ts ++ flat_map tokens_of (reverse left)) (sym (given_more (suc place) reports (report_of (suc place) r) true (eq-eqb (suc place) (suc place) refl)))
    ∙ ap (λ (o : Option (List Record)). given_on (suc place) (reports ++ report_of (suc place) r ∷ []) ++ left_in o) (sym (get_set_same stacks place left (left ++ r ∷ []) there))

other_set : (stacks : List (List Record)) (place n : ℕ) (left : List Record) → suc place ≢ n → numbered (slice_set stacks place left) n ≡ numbered stacks n
other_set stacks place zero left other = refl
other_set stacks place (suc i) left other = get_set_other stacks place i left (λ same. other (ap suc same))

other_more : (place n : ℕ) (stacks : List (List Record)) (reports : List RequestReport) (left : List Record) (r : Record) → suc place ≢ n
    → given_on n reports ++ left_in (numbered stacks n) ≡ given_on n (reports ++ report_of (suc place) r ∷ []) ++ left_in (numbered (slice_set stacks place left) n)
other_more place n stacks reports left r other =
    ap (λ (ts : List Token). ts ++ left_in (numbered stacks n))
    (sym (given_more n reports (report_of (suc place) r) false (ne_eqb (suc place) n other) ∙ append-nil (given_on n reports)))
    ∙ ap (λ (o : Option (List Record)). given_on n (reports ++ report_of (suc place) r ∷ []) ++ left_in o) (sym (other_set stacks place n left other))

told_more : {E S : Type 0} (links : List (Seated E S)) (stacks after : List (List Record)) (reports more : List RequestReport) (conn : ℕ) (result : Option Record) (r : Record)
    → ToldSoFar links stacks reports → TakesLast stacks after conn result → result ≡ Some r → more ≡ reports ++ report_of conn r ∷ [] → ToldSoFar links after more
told_more links stacks after reports more conn result r far takes is told n =
    let one : TakesLast stacks after conn (Some r) = subst (TakesLast stacks after conn) is takes in
    let place : ℕ = one.0 in
    let left : List Record = one.1 in
    let next : reports ++ report_of (suc place) r ∷ [] ≡ more = ap (λ (k : ℕ). reports ++ report_of k r ∷ []) (sym one.2) ∙ sym told in
    far n
    ∙ by_test (given_on n reports ++ left_in (numbered stacks n) ≡ given_on n (reports ++ report_of (suc place) r ∷ []) ++ left_in (numbered (slice_set stacks place left) n)) (eqb (suc place) n)
    (λ t. subst (λ (k : ℕ). given_on k reports ++ left_in (numbered stacks k) ≡ given_on k (reports ++ report_of (suc place) r ∷ []) ++ left_in (numbered (slice_set stacks place left) k)) (is_at (suc place) n t)
    (here_more place stacks reports left r one.3))
    (λ t. other_more place n stacks reports left r (is_other (suc place) n t))
    ∙ ap (λ (rs : List RequestReport). given_on n rs ++ left_in (numbered (slice_set stacks place left) n)) next
    ∙ ap (λ (ss : List (List Record)). given_on n more ++ left_in (numbered ss n)) (sym one.4)

pub told_turn : {E S : Type 0} (links : List (Seated E S)) (stacks mid after : List (List Record)) (reports more : List RequestReport) (conn : ℕ) (result : Option Record) (r : Record)
    → ToldSoFar links stacks reports → TakesLast stacks mid conn result → after ≡ mid → result ≡ Some r → more ≡ reports ++ report_of conn r ∷ [] → ToldSoFar links after more
told_turn links stacks mid after reports more conn result r far takes same is told =
    subst (λ (ss : List (List Record)). ToldSoFar links ss more) (sym same) (told_more links stacks mid reports more conn result r far takes is told)

told_no_more : {E S : Type 0} (links : List (Seated E S)) (stacks after : List (List Record)) (reports : List RequestReport) (conn : ℕ) (result : Option Record)
    → ToldSoFar links stacks reports → TakesLast stacks after conn result → result ≡ None → ToldSoFar links after reports
told_no_more links stacks after reports conn result far takes is n =
    let same : after ≡ stacks = subst (TakesLast stacks after conn) is takes in
    far n ∙ ap (λ (ss : List (List Record)). given_on n reports ++ left_in (numbered ss n)) (sym same)

pub none_turn : {E S : Type 0} (links : List (Seated E S)) (stacks mid after : List (List Record)) (reports more : List RequestReport) (conn : ℕ) (result : Option Record)
    → ToldSoFar links stacks reports → TakesLast stacks mid conn result → after ≡ mid → result ≡ None → more ≡ reports → ToldSoFar links after more
none_turn links stacks mid after reports more conn result far takes same is told =
    subst (ToldSoFar links after) (sym told)
    (subst (λ (ss : List (List Record)). ToldSoFar links ss reports) (sym same) (told_no_more links stacks mid reports conn result far takes is))

pub told_whole : {E S : Type 0} (links : List (Seated E S)) (stacks : List (List Record)) (reports : List RequestReport) → ToldSoFar links stacks reports → (n : ℕ) → TellsGiven links reports n
told_whole links stacks reports far n = (left_in (numbered stacks n), far n)

-- ---- Taking the last one

there_in : {V : Type 0} (items : V → List Record) (xs : List V) (i : ℕ) (d : V) → i < length xs → slice_get (map items xs) i ≡ Some (items (slice_index_or xs i d))
there_in items [] i d less = absurd (omega (arith, less))
there_in items (x ∷ xs) zero d less = refl
there_in items (x ∷ xs) (suc i) d less = there_in items xs i d (omega (arith, less))

set_same : {V : Type 0} (items : V → List Record) (xs : List V) (i : ℕ) (d x : V) → items x ≡ items (slice_index_or xs i d) → map items (slice_set xs i x) ≡ map items xs
set_same items [] i d x same = refl
set_same items (y ∷ ys) zero d x same = ap (λ (rs : List Record). rs ∷ map items ys) same
set_same items (y ∷ ys) (suc i) d x same = ap (λ (rss : List (List Record)). items y ∷ rss) (set_same items ys i d x same)

takes_by : {V : Type 0} (items : V → List Record) (xs : List V) (i : ℕ) (d popped : V) (result : Option Record) → i < length xs
    → items (slice_index_or xs i d) ≡ items popped ++ option_to_list result → TakesLast (map items xs) (map items (slice_set xs i popped)) (suc i) result
takes_by items xs i d popped None within is = set_same items xs i d popped (sym (is ∙ append-nil (items popped)))
takes_by items xs i d popped (Some r) within is =
    (i, items popped, refl, there_in items xs i d within ∙ ap Some is, map-set items xs i popped)

pub takes_last : {V : Type 0} (items : V → List Record) (xs : List V) (conn : ℕ) (d popped : V) (result : Option Record) → 0 < conn → conn ≤ length xs
    → items (slice_index_or xs (conn - 1) d) ≡ items popped ++ option_to_list result → TakesLast (map items xs) (map items (slice_set xs (conn - 1) popped)) conn result
takes_last items xs zero d popped result some within is = absurd (omega (arith, some))
takes_last {V} items xs (suc i) d popped result some within is =
    let place : suc i - 1 ≡ i = omega arith in
    subst (λ (k : ℕ). TakesLast (map items xs) (map items (slice_set xs k popped)) (suc i) result) (sym place)
    (takes_by items xs i d popped result (omega (arith, within)) (subst (λ (k : ℕ). items (slice_index_or xs k d) ≡ items popped ++ option_to_list result) place is))

-- ---- The whole play

told_nothing : (r : Reading) (bytes : List ℕ) → AreToldBy r bytes []
told_nothing r bytes = record { packets = []; rest = bytes; whole = record { each = tt; joined = refl }; some = refl }

nothing_both : (xs ys : List Token) → [] ≡ xs ++ ys → xs ≡ []
nothing_both [] ys is = refl
nothing_both (x ∷ xs) ys is = absurd (cc)

told_at : {E S : Type 0} (size : ℕ) (o : Option (Seated E S)) (pipe : Option Pipe) (given more : List Token) → ((link : Seated E S) → o ≡ Some link → ReadsThere size link pipe)
    → given_at o ≡ given ++ more → AreToldBy (new_reader ToClient size) (traffic pipe ToClient).came given
told_at size None pipe given more reads is =
    subst (AreToldBy (new_reader ToClient size) (traffic pipe ToClient).came) (sym (nothing_both given more is)) (told_nothing (new_reader ToClient size) (traffic pipe ToClient).came)
told_at size (Some link) pipe given more reads is =
    fewer_told (new_reader ToClient size) (traffic pipe ToClient).came given more
    (subst (AreToldBy (new_reader ToClient size) (traffic pipe ToClient).came) is (reads link refl).told)

known_at : {E S : Type 0} (size : ℕ) (links : List (Seated E S)) (pipes : ℕ → Option Pipe) (n : ℕ) (link : Seated E S)
    → ((i : ℕ) (x : Seated E S) → i < length links → ReadsThere size (get_or links i x) (pipes (suc i))) → numbered links n ≡ Some link → ReadsThere size link (pipes n)
known_at size links pipes zero link reads is = absurd (cc)
known_at {E} {S} size links pipes (suc i) link reads is =
    subst (λ (x : Seated E S). ReadsThere size x (pipes (suc i))) (get_or_from_slice_get links i link link is) (reads i link (slice_get_within links i link is))

answered_at : {E S : Type 0} (size : ℕ) (links : List (Seated E S)) (pipes : ℕ → Option Pipe) (rs : List EventReport) (es : List Event) (n : ℕ) (d : Direction) → AllRead size links pipes (answers_of es rs)
    → AllByRecursion IsRefused (outcomes_on n d es rs) ⊎ AnswerInTurn (new_reader d size) [] (outcomes_on n d es rs) (traffic (pipes n) d).came
answered_at size links pipes rs es zero d all = inl (all.refused zero d (inl refl))
answered_at size links pipes rs es (suc i) d all = elim (cases_lt i (length links)) [
  | inl low ↦ inr (all.answered i d low)
  | inr high ↦ inl (all.refused (suc i) d (inr (omega (arith, high))))
]

pub read_in_the_end : {E S : Type 0} (size : ℕ) (es : List Event) (i : ℕ) (links : List (Seated E S)) (pipes : ℕ → Option Pipe) (rs events : List EventReport) (requests told : List RequestReport)
    → length es ≤ i → events ≡ rs → requests ≡ told → AllRead size links pipes (answers_of (take i es) rs) → ((n : ℕ) → TellsGiven links told n)
    → ReadsBytes size es (record { events = events; requests = requests }) pipes
read_in_the_end {E} {S} size es i links pipes rs events requests told over same are all tells =
    let whole : (n : ℕ) (d : Direction) → outcomes_on n d (take i es) rs ≡ outcomes_on n d es events = (λ n d.
    ap (λ (xs : List Event). outcomes_on n d xs rs) (take_all i es over) ∙ ap (outcomes_on n d es) (sym same)) in
    record {
      answers = λ n d.
          subst (λ (os : List Outcome). AllByRecursion IsRefused os ⊎ AnswerInTurn (new_reader d size) [] os (traffic (pipes n) d).came) (whole n d)
          (answered_at size links pipes rs (take i es) n d all);
      tells = λ n.
          let t = tells n in
          told_at size (numbered links n) (pipes n) (given_on n requests) t.0 (λ link is. known_at size links pipes n link all.reading is)
          (t.1 ∙ ap (λ (qs : List RequestReport). given_on n qs ++ t.0) (sym are));
    }
