-- What the deliveries of a play came to, event by event, on all connections.
use Rattle.std.proofs.Common.{◌≡◌, ◌≢◌, ◌∙◌, ◌<◌, ◌+◌, ℕ, suc, Bool, true, false, List, [], ◌∷◌, ◌++◌, length, length-append, get_or, set, take, ap, refl, subst, sym, arith, inl, inr, ◌⊎◌, Option, append-nil, append_assoc, cond, eqb, slice_index_or}
use Rattle.std.proofs.lemmas.Bool.{eq-eqb, ne_eqb, cases_lt}
use Rattle.std.proofs.lemmas.List.{length-set}
use Rattle.std.specs.List.{AllByRecursion}
use Rattle.tds_packet.specs.declared.kind.Direction.{Direction}
use Rattle.tds_packet.specs.declared.kind.Direction.TheVariants.{ToServer, ToClient}
use Rattle.tds_packet.specs.Reading.{Reading}
use Rattle.tds_ends.specs.AllBytes.{ClientHasRead, new_reader}
use Rattle.tds_world.specs.declared.event.Event.{Event}
use Rattle.tds_world.specs.declared.event.Event.TheVariants as event
use Rattle.tds_world.specs.declared.outcome.Outcome.{Outcome}
use Rattle.tds_world.specs.declared.outcome.Outcome.TheVariants as outcome
use Rattle.tds_world.specs.declared.outcome.Refusal.{Refusal}
use Rattle.tds_world.specs.declared.report.EventReport.{EventReport}
use Rattle.tds_play.specs.declared.link.Link.{Link}
use Rattle.tds_play.specs.Seats.{Seated}
use Rattle.tds_play.specs.AnyBytes.{AnswersWith, AnswerInTurn, IsRefused, is_delivery, outcomes_on}
use Rattle.tds_play.specs.Pipe.{Pipe, AreSame, traffic}
use Rattle.tds_play.specs.Reads.{AllRead, Answers, BringsBy, IsAbout, IsReading, ReadsNoMore, ReadsThere, ReadsOn, answers_then, delivers, given_by}
use Rattle.tds_play.specs.Ties.{AreTied}
use Rattle.tds_play.proofs.Listed.{by_test, is_at, is_other, number_there, push_each, set_each}
use Rattle.tds_play.proofs.any_bytes.Stays.{reading_stays}
use Rattle.tds_play.proofs.Turns.{all_so_far, one_taken, so_many}

-- ---- The deliveries of a connection

then_answered : (r : Reading) (o : Outcome) (before came came' : List ℕ) (os : List Outcome) → AnswerInTurn r before os came → AnswersWith r o came came' → AnswerInTurn r before (os ++ o ∷ []) came'
then_answered r o before came came' [] is one = (came', subst (λ (xs : List ℕ). AnswersWith r o xs came') is one, refl)
then_answered r o before came came' (p ∷ ps) is one = (is.0, is.1, then_answered r o is.0 came came' ps is.2 one)

-- One event more.
more_answered : (b : Bool) (r : Reading) (o : Outcome) (came came' : List ℕ) (os : List Outcome) → AnswerInTurn r [] os came → BringsBy b r o came came' → AnswerInTurn r [] (os ++ cond b (o ∷ []) []) came'
more_answered true r o came came' os is one = then_answered r o [] came came' os is one
more_answered false r o came came' os is one =
    subst (AnswerInTurn r [] (os ++ [])) (sym one) (subst (λ (xs : List Outcome). AnswerInTurn r [] xs came) (sym (append-nil os)) is)

by_delivery : (e : Event) (n : ℕ) (d : Direction) (b : Bool) (size : ℕ) (o : Outcome) (came came' : List ℕ) (os : List Outcome) → is_delivery e n d ≡ b
    → AnswerInTurn (new_reader d size) [] os came → BringsBy b (new_reader d size) o came came' → AnswerInTurn (new_reader d size) [] (os ++ cond (is_delivery e n d) (o ∷ []) []) came'
by_delivery e n d b size o came came' os is far one =
    subst (λ (x : Bool). AnswerInTurn (new_reader d size) [] (os ++ cond x (o ∷ []) []) came') (sym is) (more_answered b (new_reader d size) o came came' os far one)

brings_refused : (b : Bool) (r : Reading) (why : Refusal) (came : List ℕ) → BringsBy b r (outcome.Refused why) came came
brings_refused true r why came = refl
brings_refused false r why came = refl

refused_one : (r : Reading) (o : Outcome) (came : List ℕ) → IsRefused o → AnswersWith r o came came
refused_one r (outcome.Refused why) came is = refl
refused_one r o came is = absurd is

refused_answered : (r : Reading) (came : List ℕ) (os : List Outcome) → AllByRecursion IsRefused os → AnswerInTurn r came os came
refused_answered r came [] all = refl
refused_answered r came (o ∷ os) all = (came, refused_one r o came all.0, refused_answered r came os all.1)

not_refused : (b : Bool) (o : Outcome) (os : List Outcome) → b ≡ false → AllByRecursion IsRefused os → AllByRecursion IsRefused (os ++ cond b (o ∷ []) [])
not_refused b o os is all = subst (λ (x : Bool). AllByRecursion IsRefused (os ++ cond x (o ∷ []) [])) (sym is) (subst (AllByRecursion IsRefused) (sym (append-nil os)) all)

one_refused : (b : Bool) (why : Refusal) (os : List Outcome) → AllByRecursion IsRefused os → AllByRecursion IsRefused (os ++ cond b (outcome.Refused why ∷ []) [])
one_refused true why os all = all_so_far IsRefused os (outcome.Refused why) all tt
one_refused false why os all = subst (AllByRecursion IsRefused) (sym (append-nil os)) all

-- ---- Which connection a delivery is about

about_here : (e : Event) (place : ℕ) (d : Direction) → IsAbout e place → is_delivery e (suc place) d ≡ delivers e d
about_here (event.ToServer n count) place ToServer is = eq-eqb n (suc place) is
about_here (event.ToServer n count) place ToClient is = refl
about_here (event.ToClient n count) place ToServer is = refl
about_here (event.ToClient n count) place ToClient is = eq-eqb n (suc place) is
about_here e place d is = refl

about_other : (e : Event) (place n : ℕ) (d : Direction) → IsAbout e place → n ≢ suc place → is_delivery e n d ≡ false
about_other (event.ToServer m count) place n ToServer is other = ne_eqb m n (λ same. other (sym same ∙ is))
about_other (event.ToServer m count) place n ToClient is other = refl
about_other (event.ToClient m count) place n ToServer is other = refl
about_other (event.ToClient m count) place n ToClient is other = ne_eqb m n (λ same. other (sym same ∙ is))
about_other e place n d is other = refl

-- ---- All connections

-- The same answers, told in another way.
pub read_as : {E S : Type 0} (size : ℕ) (links : List (Seated E S)) (pipes : ℕ → Option Pipe) (a b : Answers) → ((n : ℕ) (d : Direction) → a n d ≡ b n d) → AllRead size links pipes a → AllRead size links pipes b
read_as size links pipes a b same all = record {
  reading = all.reading;
  answered = λ i d less. subst (λ (os : List Outcome). AnswerInTurn (new_reader d size) [] os (traffic (pipes (suc i)) d).came) (same (suc i) d) (all.answered i d less);
  refused = λ n d out. subst (AllByRecursion IsRefused) (same n d) (all.refused n d out);
}

-- An event that delivers nothing.
pub none_delivered : {E S : Type 0} (size : ℕ) (links : List (Seated E S)) (pipes : ℕ → Option Pipe) (answers : Answers) (e : Event) (o : Outcome) → ((n : ℕ) (d : Direction) → is_delivery e n d ≡ false)
    → AllRead size links pipes answers → AllRead size links pipes (answers_then e o answers)
none_delivered size links pipes answers e o none all =
    read_as size links pipes answers (answers_then e o answers)
    (λ n d. sym (ap (λ (b : Bool). answers n d ++ cond b (o ∷ []) []) (none n d) ∙ append-nil (answers n d))) all

-- An event that is refused.
pub refuses_all : {E S : Type 0} (size : ℕ) (links : List (Seated E S)) (pipes : ℕ → Option Pipe) (answers : Answers) (e : Event) (o : Outcome) (why : Refusal) → o ≡ outcome.Refused why
    → AllRead size links pipes answers → AllRead size links pipes (answers_then e o answers)
refuses_all size links pipes answers e o why is all =
    subst (λ (x : Outcome). AllRead size links pipes (answers_then e x answers)) (sym is)
    (record {
      reading = all.reading;
      answered = λ i d less.
          by_delivery e (suc i) d (is_delivery e (suc i) d) size (outcome.Refused why) (traffic (pipes (suc i)) d).came (traffic (pipes (suc i)) d).came (answers (suc i) d) refl (all.answered i d less)
          (brings_refused (is_delivery e (suc i) d) (new_reader d size) why (traffic (pipes (suc i)) d).came);
      refused = λ n d out. one_refused (is_delivery e n d) why (answers n d) (all.refused n d out);
    })

not_there : (n count place : ℕ) → (n ≡ 0) ⊎ (count < n) → place < count → n ≢ suc place
not_there n count place (inl is) less = λ same. omega (arith, is, same)
not_there n count place (inr over) less = λ same. omega (arith, over, same, less)

out_of_set : {E S : Type 0} (links : List (Seated E S)) (place : ℕ) (new : Seated E S) (n : ℕ) → (n ≡ 0) ⊎ (length (set links place new) < n) → (n ≡ 0) ⊎ (length links < n)
out_of_set links place new n (inl is) = inl is
out_of_set links place new n (inr over) = inr (omega (arith, over, length-set links place new))

-- The connection at a place changes.
pub read_at : {E S : Type 0} (size : ℕ) (links : List (Seated E S)) (place : ℕ) (new : Seated E S) (pipes pipes' : ℕ → Option Pipe) (answers : Answers) (e : Event) (o : Outcome)
    → AllRead size links pipes answers → place < length links → AreSame pipes pipes' (suc place) → IsAbout e place
    → ReadsOn size e o new.link new.seat.client.columns (pipes (suc place)) (pipes' (suc place)) → AllRead size (set links place new) pipes' (answers_then e o answers)
read_at {E} {S} size links place new pipes pipes' answers e o all there same about reads =
    let others : (j : ℕ) → j ≢ place → pipes' (suc j) ≡ pipes (suc j) = (λ j other. same (suc j) (λ z. other (omega (arith, z)))) in
    record {
      reading = set_each (λ j (x : Seated E S). ReadsThere size x (pipes' (suc j))) links place new
          (λ j x other less. subst (ReadsThere size (get_or links j x)) (sym (others j other)) (all.reading j x less)) there reads.reading;
      answered = λ i d less.
          let low : i < length links = omega (arith, less, length-set links place new) in
          by_test (AnswerInTurn (new_reader d size) [] (answers_then e o answers (suc i) d) (traffic (pipes' (suc i)) d).came) (eqb i place)
          (λ t. let at : i ≡ place = is_at i place t in
          subst (λ (k : ℕ). AnswerInTurn (new_reader d size) [] (answers_then e o answers (suc k) d) (traffic (pipes' (suc k)) d).came) (sym at)
          (by_delivery e (suc place) d (delivers e d) size o (traffic (pipes (suc place)) d).came (traffic (pipes' (suc place)) d).came (answers (suc place) d) (about_here e place d about)
          (all.answered place d there) (reads.brings d)))
          (λ t. let other : i ≢ place = is_other i place t in
          by_delivery e (suc i) d false size o (traffic (pipes (suc i)) d).came (traffic (pipes' (suc i)) d).came (answers (suc i) d)
          (about_other e place (suc i) d about (λ z. other (omega (arith, z)))) (all.answered i d low) (ap (λ (p : Option Pipe). (traffic p d).came) (others i other)));
      refused = λ n d out.
          let far = out_of_set links place new n out in
          not_refused (is_delivery e n d) o (answers n d) (about_other e place n d about (not_there n (length links) place far there)) (all.refused n d far);
    }

-- Of one that is cut nobody asks for the columns.
reading_left : {E S : Type 0} (size : ℕ) (link new : Link E S) (columns then : Option ℕ) (before after : Option Pipe) → IsReading size link columns before → ReadsNoMore link new before after → (new.is_cut ≡ false → then ≡ columns) → IsReading size new then after
reading_left size link new columns then before after reads still same =
    let r : IsReading size new columns after = reading_stays size link new columns columns before after reads still refl in
    record {
      server = r.server;
      client = λ live. subst (λ (k : Option ℕ). ClientHasRead (new_reader ToClient size) new.client_reader k (traffic after ToClient).came (given_by new)) (sym (same live)) (r.client live);
      told = r.told;
    }

-- It reads no more.
pub still_at : {E S : Type 0} (size : ℕ) (links : List (Seated E S)) (place : ℕ) (link new : Seated E S) (pipes pipes' : ℕ → Option Pipe) (answers : Answers)
    → AllRead size links pipes answers → place < length links → link ≡ get_or links place link → AreSame pipes pipes' (suc place)
    → ReadsNoMore link.link new.link (pipes (suc place)) (pipes' (suc place)) → (new.link.is_cut ≡ false → new.seat.client.columns ≡ link.seat.client.columns) → AllRead size (set links place new) pipes' answers
still_at {E} {S} size links place link new pipes pipes' answers all there is same still columns =
    let others : (j : ℕ) → j ≢ place → pipes' (suc j) ≡ pipes (suc j) = (λ j other. same (suc j) (λ z. other (omega (arith, z)))) in
    record {
      reading = set_each (λ j (x : Seated E S). ReadsThere size x (pipes' (suc j))) links place new
          (λ j x other less. subst (ReadsThere size (get_or links j x)) (sym (others j other)) (all.reading j x less)) there
          (reading_left size link.link new.link link.seat.client.columns new.seat.client.columns (pipes (suc place)) (pipes' (suc place)) (subst (λ (x : Seated E S). ReadsThere size x (pipes (suc place))) (sym is) (all.reading place link there)) still columns);
      answered = λ i d less.
          let low : i < length links = omega (arith, less, length-set links place new) in
          by_test (AnswerInTurn (new_reader d size) [] (answers (suc i) d) (traffic (pipes' (suc i)) d).came) (eqb i place)
          (λ t. let at : i ≡ place = is_at i place t in
          subst (λ (k : ℕ). AnswerInTurn (new_reader d size) [] (answers (suc k) d) (traffic (pipes' (suc k)) d).came) (sym at)
          (subst (AnswerInTurn (new_reader d size) [] (answers (suc place) d)) (sym (still.came d)) (all.answered place d there)))
          (λ t. subst (λ (p : Option Pipe). AnswerInTurn (new_reader d size) [] (answers (suc i) d) (traffic p d).came) (sym (others i (is_other i place t))) (all.answered i d low));
      refused = λ n d out. all.refused n d (out_of_set links place new n out);
    }

out_of_push : {A : Type 0} (xs : List A) (x : A) (n : ℕ) → (n ≡ 0) ⊎ (length (xs ++ x ∷ []) < n) → (n ≡ 0) ⊎ (length xs < n)
out_of_push xs x n (inl is) = inl is
out_of_push xs x n (inr over) = inr (omega (arith, over, length-append xs (x ∷ [])))

-- One is opened.
pub read_opened : {E S : Type 0} (size : ℕ) (links : List (Seated E S)) (new : Seated E S) (pipes pipes' : ℕ → Option Pipe) (answers : Answers)
    → AllRead size links pipes answers → AreSame pipes pipes' (suc (length links)) → ReadsThere size new (pipes' (suc (length links)))
    → ((d : Direction) → (traffic (pipes' (suc (length links))) d).came ≡ []) → AllRead size (links ++ new ∷ []) pipes' answers
read_opened {E} {S} size links new pipes pipes' answers all same reads none =
    let others : (j : ℕ) → j < length links → pipes' (suc j) ≡ pipes (suc j) = (λ j less. same (suc j) (λ z. absurd (omega (arith, z, less)))) in
    record {
      reading = push_each (λ j (x : Seated E S). ReadsThere size x (pipes' (suc j))) links new
          (λ j x less. subst (ReadsThere size (get_or links j x)) (sym (others j less)) (all.reading j x less)) reads;
      answered = λ i d less. elim (cases_lt i (length links)) [
        | inl low ↦ subst (λ (p : Option Pipe). AnswerInTurn (new_reader d size) [] (answers (suc i) d) (traffic p d).came) (sym (others i low)) (all.answered i d low)
        | inr high ↦
            let at : i ≡ length links = omega (arith, high, less, length-append links (new ∷ [])) in
            subst (λ (k : ℕ). AnswerInTurn (new_reader d size) [] (answers (suc k) d) (traffic (pipes' (suc k)) d).came) (sym at)
            (subst (AnswerInTurn (new_reader d size) [] (answers (suc (length links)) d)) (sym (none d))
            (refused_answered (new_reader d size) [] (answers (suc (length links)) d) (all.refused (suc (length links)) d (inr (omega arith)))))
      ];
      refused = λ n d out. all.refused n d (out_of_push links new n out);
    }

-- ---- The whole play

abbrev pub answers_of : List Event → List EventReport → Answers
answers_of es rs = λ n d. outcomes_on n d es rs

one_more : (n : ℕ) (d : Direction) (es : List Event) (e : Event) (rs : List EventReport) (r : EventReport) → length rs ≡ length es
    → outcomes_on n d (es ++ e ∷ []) (rs ++ r ∷ []) ≡ outcomes_on n d es rs ++ cond (is_delivery e n d) (r.outcome ∷ []) []
one_more n d [] e [] r same = append-nil (cond (is_delivery e n d) (r.outcome ∷ []) [])
one_more n d [] e (s ∷ ss) r same = absurd (omega (arith, same))
one_more n d (f ∷ fs) e [] r same = absurd (omega (arith, same))
one_more n d (f ∷ fs) e (s ∷ ss) r same =
    ap (λ (os : List Outcome). cond (is_delivery f n d) (s.outcome ∷ []) [] ++ os) (one_more n d fs e ss r (omega (arith, same)))
    ∙ sym (append_assoc (cond (is_delivery f n d) (s.outcome ∷ []) []) (outcomes_on n d fs ss) (cond (is_delivery e n d) (r.outcome ∷ []) []))

pub answers_more : (es : List Event) (i : ℕ) (e : Event) (rs more : List EventReport) (r : EventReport) → i < length es → e ≡ slice_index_or es i e → length rs ≡ i → more ≡ rs ++ r ∷ []
    → (n : ℕ) (d : Direction) → answers_then e r.outcome (answers_of (take i es) rs) n d ≡ answers_of (take (i + 1) es) more n d
answers_more es i e rs more r less is count told n d =
    sym (ap (λ (xs : List Event). outcomes_on n d xs more) (one_taken es i e less is) ∙ ap (outcomes_on n d (take i es ++ e ∷ [])) told
    ∙ one_more n d (take i es) e rs r (omega (arith, count, so_many i es (omega (arith, less)))))

pub read_more : {E S : Type 0} (size now : ℕ) (links : List (Seated E S)) (pipes : ℕ → Option Pipe) (es : List Event) (i : ℕ) (e : Event) (rs more : List EventReport) (r : EventReport) → i < length es → e ≡ slice_index_or es i e → length rs ≡ i → more ≡ rs ++ r ∷ []
    → now ≡ size → AllRead now links pipes (answers_then e r.outcome (answers_of (take i es) rs)) → AllRead size links pipes (answers_of (take (i + 1) es) more)
read_more size now links pipes es i e rs more r less is count told same all =
    subst (λ (k : ℕ). AllRead k links pipes (answers_of (take (i + 1) es) more)) same
    (read_as now links pipes (answers_then e r.outcome (answers_of (take i es) rs)) (answers_of (take (i + 1) es) more) (answers_more es i e rs more r less is count told) all)

pub none_read : {E S : Type 0} (size : ℕ) (links : List (Seated E S)) (pipes : ℕ → Option Pipe) (es : List Event) → links ≡ [] → AllRead size links pipes (answers_of (take 0 es) [])
none_read {E} {S} size links pipes es none =
    subst (λ (ls : List (Seated E S)). AllRead size ls pipes (answers_of [] [])) (sym none)
    (record {
      reading = λ i x less. absurd (omega (arith, less));
      answered = λ i d less. absurd (omega (arith, less));
      refused = λ n d out. tt;
    })

-- ---- An event on one of them

pub acted_reads : {E S : Type 0} (size : ℕ) (links : List (Seated E S)) (place : ℕ) (link new : Seated E S) (pipes pipes' : ℕ → Option Pipe) (answers : Answers) (e : Event) (o : Outcome)
    → AreTied links pipes → place < length links → link ≡ get_or links place link → AreSame pipes pipes' link.link.number
    → (ReadsThere size link (pipes link.link.number) → ReadsOn size e o new.link new.seat.client.columns (pipes link.link.number) (pipes' link.link.number))
    → IsAbout e place → AllRead size links pipes answers → AllRead size (set links place new) pipes' (answers_then e o answers)
acted_reads {E} {S} size links place link new pipes pipes' answers e o tied there is same reads about all =
    let number : link.link.number ≡ suc place = number_there links place link pipes tied there is in
    let here : ReadsThere size link (pipes link.link.number) =
    subst (λ (k : ℕ). ReadsThere size link (pipes k)) (sym number) (subst (λ (x : Seated E S). ReadsThere size x (pipes (suc place))) (sym is) (all.reading place link there)) in
    read_at size links place new pipes pipes' answers e o all there (subst (AreSame pipes pipes') number same) about
    (subst (λ (k : ℕ). ReadsOn size e o new.link new.seat.client.columns (pipes k) (pipes' k)) number (reads here))

pub cut_reads : {E S : Type 0} (size : ℕ) (links : List (Seated E S)) (place : ℕ) (link new : Seated E S) (pipes pipes' : ℕ → Option Pipe) (answers : Answers)
    → AreTied links pipes → place < length links → link ≡ get_or links place link → AreSame pipes pipes' link.link.number
    → ReadsNoMore link.link new.link (pipes link.link.number) (pipes' link.link.number) → (new.link.is_cut ≡ false → new.seat.client.columns ≡ link.seat.client.columns) → AllRead size links pipes answers → AllRead size (set links place new) pipes' answers
cut_reads {E} {S} size links place link new pipes pipes' answers tied there is same still columns all =
    let number : link.link.number ≡ suc place = number_there links place link pipes tied there is in
    still_at size links place link new pipes pipes' answers all there is (subst (AreSame pipes pipes') number same)
    (subst (λ (k : ℕ). ReadsNoMore link.link new.link (pipes k) (pipes' k)) number still) columns
