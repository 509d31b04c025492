-- A packet on a connection is the machine's call.
use Rattle.std.proofs.Common.{◌≡◌, ◌∙◌, ◌==◌, ◌<◌, ℕ, zero, suc, Bool, true, false, List, [], ◌∷◌, ◌++◌, length, get_or, refl, sym, ap, subst, arith}
use Rattle.std.proofs.Math.ListN.{set}
use Rattle.std.proofs.lemmas.List.{append-nil}
use Rattle.std.specs.Prelude.{Option, Some}
use Rattle.tds_wire.specs.declared.told.Token.{Token}
use Rattle.tds_service.specs.declared.refusal.Refusal.TheVariants as refusals
use Rattle.tds_service.specs.declared.seat.Seat as code
use Rattle.tds_service.specs.Parts.{Part}
use Rattle.tds_service.specs.Line as line
use Rattle.tds_service.specs.Line.{Line, Answer, Packet, line_turn}
use Rattle.tds_service.specs.History.{line_after}
use Rattle.tds_service.specs.Packets.{told_of_part}
use Rattle.tds_service.specs.Service.{Seat, Service, Did, lease_in, lease_at, drained, find_by, has_number, hears}
use Rattle.tds_service.specs.Table.{Comes, StepsIn, AllTo, answers_in, told_in, RefusesIn, met, reading_by, place_of, seat_in, seats_in}
use Rattle.tds_service.specs.Ties.{Hears, IsTo, Appends, line_in, tokens_in}
use Rattle.tds_service.proofs.Numbered.{same_number}
use Rattle.tds_service.proofs.Tables.{Here, with_seats, found_here, meets_here, does_alike}

pub comes_here : (s : Service) (number : ℕ) (part : Part Token) (lease : Option ℕ) (request : ℕ) (answer : Answer) (items lent news : List code.Seat) (i : ℕ) (here : Here (has_number number) items lent i)
    (y : code.Seat) (before after : List Token)
    → s.seats ≡ seats_in items → lent ≡ items → news ≡ set lent i y → y.number ≡ here.seat.number
    → place_of y.place ≡ drained (place_of here.seat.place) (line_in y.connection).stage
    → lease ≡ lease_in (place_of here.seat.place) → request ≡ here.seat.connection.asked
    → Hears part (line_in here.seat.connection) (line_in y.connection) answer (told_of_part (line_in here.seat.connection) part)
    → after ≡ before ++ told_of_part (line_in here.seat.connection) part
    → Comes s (with_seats s (seats_in news)) number part lease request answer before after
comes_here s number part lease request answer items lent news i here y before after table same changed numbered placed leased requested h told =
    let c = here.seat in
    let l = line_in c.connection in
    let test = has_number number in
    let all = line.Come part ∷ [] in
    let found : find_by test s.seats ≡ Some (seat_in c) = ap (find_by test) table ∙ found_here test items lent i here in
    let place = drained (place_of c.place) (line_after l all).stage in
    let put = does_alike s s.given test place all Did items i c y table here.first here.at numbered (placed ∙ ap (λ (k : Line). drained (place_of c.place) k.stage) h.line_is) h.line_is in
    let news_are = changed ∙ ap (λ (cs : List code.Seat). set cs i y) same in
    record {
      steps = subst (λ (x : Option Seat). StepsIn (hears s test part x) (with_seats s (seats_in news)) Did number [] []) (sym found) (record {
        service_is = ap (λ (cs : List code.Seat). with_seats s (seats_in cs)) news_are ∙ put;
        reply_is = refl;
        number_is = same_number c.number number (meets_here test items lent i here);
        bytes = subst (λ (ps : List Packet). Appends (ps ++ []) [] []) (sym h.quiet) ([], refl, refl);
      });
      answers = ap (λ (x : Option Seat). answers_in (hears s test part x).dones) found ∙ ap (λ (a : Answer). a ∷ []) h.answer_is;
      told = told ∙ ap (λ (ts : List Token). before ++ ts) (sym (append-nil (tokens_in (line_turn l (line.Come part)).told)) ∙ ap (λ (x : Option Seat). told_in (hears s test part x).dones) (sym found));
      owner = subst (λ (x : Option Seat). AllTo request (hears s test part x).dones) (sym found) (subst (λ (r : ℕ). IsTo r (line_turn l (line.Come part)).told) (sym requested) h.owner, tt);
      holder = ap lease_at found ∙ sym leased;
    }

-- ---- Where the parser stands

reading_first : (test : Seat → Bool) (d : code.Seat) (cs : List code.Seat) (i : ℕ) → i < length cs → met test cs i ≡ true → ((k : ℕ) → k < i → met test cs k ≡ false)
    → reading_by test cs ≡ Some ((get_or cs i d).connection.parser)
reading_first test d [] i lt here before = absurd (omega arith)
reading_first test d (c ∷ cs) zero lt here before = rw here refl
reading_first test d (c ∷ cs) (suc i) lt here before =
    let first : test (seat_in c) ≡ false = before 0 (omega arith) in
    rw first (reading_first test d cs i (omega arith) here (λ k h. before (suc k) (omega arith)))

reading_set : (test : Seat → Bool) (y : code.Seat) (cs : List code.Seat) (i : ℕ) → i < length cs → ((k : ℕ) → k < i → met test cs k ≡ false) → test (seat_in y) ≡ true
    → reading_by test (set cs i y) ≡ Some y.connection.parser
reading_set test y [] i lt before e = absurd (omega arith)
reading_set test y (c ∷ cs) zero lt before e = rw e refl
reading_set test y (c ∷ cs) (suc i) lt before e =
    let first : test (seat_in c) ≡ false = before 0 (omega arith) in
    rw first (reading_set test y cs i (omega arith) (λ k h. before (suc k) (omega arith)) e)

pub reading_here : (test : Seat → Bool) (items lent : List code.Seat) (i : ℕ) (here : Here test items lent i) → reading_by test items ≡ Some here.seat.connection.parser
reading_here test items lent i here =
    reading_first test here.seat items i here.first.within here.first.here here.first.before ∙ ap (λ (x : code.Seat). Some x.connection.parser) (sym here.at)

pub reading_behind : (number : ℕ) (items lent news : List code.Seat) (i : ℕ) (here : Here (has_number number) items lent i) (y : code.Seat)
    → lent ≡ items → news ≡ set lent i y → y.number ≡ here.seat.number → reading_by (has_number number) news ≡ Some y.connection.parser
reading_behind number items lent news i here y same changed numbered =
    ap (reading_by (has_number number)) (changed ∙ ap (λ (cs : List code.Seat). set cs i y) same)
    ∙ reading_set (has_number number) y items i here.first.within here.first.before (ap (λ (n : ℕ). n == number) numbered ∙ meets_here (has_number number) items lent i here)

pub same_inside : {A : Type 0} (x y : A) → Some x ≡ Some y → x ≡ y
same_inside x y e = let u : x ≡ y = cc in u

pub wants_memory : (s : Service) (number : ℕ) (part : Part Token) (items lent : List code.Seat) (i : ℕ) (here : Here (has_number number) items lent i) → s.seats ≡ seats_in items
    → RefusesIn s (hears s (has_number number) part (find_by (has_number number) s.seats)) refusals.Memory
wants_memory s number part items lent i here table =
    let found : find_by (has_number number) s.seats ≡ Some (seat_in here.seat) = ap (find_by (has_number number)) table ∙ found_here (has_number number) items lent i here in
    subst (λ (x : Option Seat). RefusesIn s (hears s (has_number number) part x) refusals.Memory) (sym found) (λ numbers. refl)
