-- The table that C keeps, and the machine's.
use Rattle.std.proofs.Common.{◌≡◌, ◌∙◌, ◌<◌, ◌≤◌, ◌+◌, ℕ, zero, suc, Bool, true, false, List, [], ◌∷◌, ◌++◌, length, get_or, take, drop, refl, sym, ap, subst, arith}
use Rattle.std.proofs.Math.ListN.{set}
use Rattle.std.specs.List.{remove}
use Rattle.std.specs.Prelude.{Some, None, nat_lt, ◌-◌}
use Rattle.std.proofs.Math.Seq.{take-append_seam, take-set-lt}
use Rattle.std.proofs.lemmas.Bool.Decides.{nat_tests}
use Rattle.std.proofs.lemmas.List.{append-nil, get_or-take, length-set, length-take-le, take_more_set}
use Rattle.std.proofs.lemmas.List.Edits.{length-remove}
use Rattle.tds_client.specs.Packets as wire
use Rattle.tds_packet.specs.declared.kind.Kind.{Kind}
use Rattle.tds_packet.specs.declared.status.Reset.{Reset}
use Rattle.tds_wire.specs.declared.told.Token.{Token}
use Rattle.tds_service.specs.History.{line_after}
use Rattle.tds_service.specs.Line.{Line, Act, Mark, Marked, LineStage, Idle, Sending, Reading, Cancelling, Broken, Turn, cancels, marked, marks, new_line, quiet}
use Rattle.tds_service.specs.Service.{Place, Leased, Seat, Service, Reply, Lent, is_idle, does, find_by, change_by, opens}
use Rattle.tds_service.specs.Table.{StepsIn}
use Rattle.tds_service.specs.Ties.{Appends, AreBytes}
use Rattle.tds_c.specs.declared.service.plain.TdsSeat.{TdsSeat}
use Rattle.tds_c.specs.declared.service.seat.Stage.TheVariants as stages
use Rattle.tds_c.specs.service.Plain.{line_of, place_of, seat_of, seats_of, stage_of}
use Rattle.tds_c.specs.service.Table.{met, seen, FirstMet}

-- ---- Finding

pub met_at : (test : Seat → Bool) (d : TdsSeat) (cs : List TdsSeat) (i : ℕ) → i < length cs → met test cs i ≡ test (seat_of (get_or cs i d))
met_at test d [] i lt = absurd (omega arith)
met_at test d (c ∷ cs) zero lt = refl
met_at test d (c ∷ cs) (suc i) lt = met_at test d cs i (omega arith)

-- where none meets the test, none is found
pub none_met : (test : Seat → Bool) (cs : List TdsSeat) → ((k : ℕ) → k < length cs → met test cs k ≡ false) → find_by test (seats_of cs) ≡ None
none_met test [] h = refl
none_met test (c ∷ cs) h =
    let first : test (seat_of c) ≡ false = h 0 (omega arith) in
    rw first (none_met test cs (λ k lt. h (suc k) (omega arith)))

-- what is found is what stands at the first index
pub found_at : (test : Seat → Bool) (d : TdsSeat) (cs : List TdsSeat) (i : ℕ) → i < length cs → met test cs i ≡ true → ((k : ℕ) → k < i → met test cs k ≡ false)
    → find_by test (seats_of cs) ≡ Some (seat_of (get_or cs i d))
found_at test d [] i lt here before = absurd (omega arith)
found_at test d (c ∷ cs) zero lt here before = rw here refl
found_at test d (c ∷ cs) (suc i) lt here before =
    let first : test (seat_of c) ≡ false = before 0 (omega arith) in
    rw first (found_at test d cs i (omega arith) here (λ k h. before (suc k) (omega arith)))

-- a change there is the machine's
pub changed_at : (test : Seat → Bool) (d y : TdsSeat) (place : Place) (l : Line) (cs : List TdsSeat) (i : ℕ)
    → i < length cs → met test cs i ≡ true → ((k : ℕ) → k < i → met test cs k ≡ false)
    → seat_of y ≡ record { number = (get_or cs i d).number; place = place; line = l }
    → seats_of (set cs i y) ≡ change_by test (Some place) l (seats_of cs)
changed_at test d y place l [] i lt here before is = absurd (omega arith)
changed_at test d y place l (c ∷ cs) zero lt here before is = rw here (ap (λ (s : Seat). s ∷ seats_of cs) is)
changed_at test d y place l (c ∷ cs) (suc i) lt here before is =
    let first : test (seat_of c) ≡ false = before 0 (omega arith) in
    rw first (ap (λ ss. seat_of c ∷ ss) (changed_at test d y place l cs i (omega arith) here (λ k h. before (suc k) (omega arith)) is))

-- so is taking it out
pub removed_at : (test : Seat → Bool) (l : Line) (cs : List TdsSeat) (i : ℕ) → i < length cs → met test cs i ≡ true → ((k : ℕ) → k < i → met test cs k ≡ false)
    → seats_of (take i cs ++ drop (suc i) cs) ≡ change_by test None l (seats_of cs)
removed_at test l [] i lt here before = absurd (omega arith)
removed_at test l (c ∷ cs) zero lt here before = rw here refl
removed_at test l (c ∷ cs) (suc i) lt here before =
    let first : test (seat_of c) ≡ false = before 0 (omega arith) in
    rw first (ap (λ ss. seat_of c ∷ ss) (removed_at test l cs i (omega arith) here (λ k h. before (suc k) (omega arith))))

-- ---- Doing

-- A change of the seat at the first index is what the machine does there.
pub does_alike : (s : Service) (given : ℕ) (test : Seat → Bool) (place : Place) (all : List (Act Token)) (reply : Reply) (cs : List TdsSeat) (i : ℕ) (c y : TdsSeat)
    → s.seats ≡ seats_of cs → FirstMet test cs i → c ≡ get_or cs i c → seat_of y ≡ record { number = c.number; place = place; line = line_after (line_of c) all }
    → (record { max = s.max; last = s.last; given = given; seats = seats_of (set cs i y) }) ≡ (does s given test (seat_of c) (Some place) all reply).service
does_alike s given test place all reply cs i c y table first at is =
    let new = is ∙ ap (λ (x : TdsSeat). let t : Seat = record { number = x.number; place = place; line = line_after (line_of c) all } in t) at in
    ap (λ ss. let t : Service = record { max = s.max; last = s.last; given = given; seats = ss } in t)
    (changed_at test c y place (line_after (line_of c) all) cs i first.within first.here first.before new
    ∙ ap (change_by test (Some place) (line_after (line_of c) all)) (sym table))

pub does_gone : (s : Service) (given : ℕ) (test : Seat → Bool) (all : List (Act Token)) (reply : Reply) (cs : List TdsSeat) (i : ℕ) (c : TdsSeat)
    → s.seats ≡ seats_of cs → FirstMet test cs i
    → (record { max = s.max; last = s.last; given = given; seats = seats_of (take i cs ++ drop (i + 1) cs) }) ≡ (does s given test (seat_of c) None all reply).service
does_gone s given test all reply cs i c table first =
    ap (λ ss. let t : Service = record { max = s.max; last = s.last; given = given; seats = ss } in t)
    (ap (λ (k : ℕ). seats_of (take i cs ++ drop k cs)) (let e : i + 1 ≡ suc i = omega arith in e)
    ∙ removed_at test (line_after (line_of c) all) cs i first.within first.here first.before
    ∙ ap (change_by test None (line_after (line_of c) all)) (sym table))

-- A seat of the array is written.
pub put_in : (last given count : ℕ) (seats : List TdsSeat) (i : ℕ) (y : TdsSeat) → i < count
    → (let t : Service = record { max = length (set seats i y); last = last; given = given; seats = seats_of (take count (set seats i y)) } in t)
    ≡ record { max = length seats; last = last; given = given; seats = seats_of (set (take count seats) i y) }
put_in last given count seats i y lt =
    ap (λ (n : ℕ). let t : Service = record { max = n; last = last; given = given; seats = seats_of (take count (set seats i y)) } in t) (length-set seats i y)
    ∙ ap (λ (cs : List TdsSeat). let t : Service = record { max = length seats; last = last; given = given; seats = seats_of cs } in t) (take-set-lt count seats i y lt)

-- ---- Lending

-- What is idle takes a mark, and nothing goes out.
marks_at : (l : Line) (reset : Reset) (s : LineStage) → is_idle s ≡ true → marks {T = Token} l reset s ≡ quiet (marked l reset) Marked
marks_at l reset Idle e = refl
marks_at l reset (Sending begun) e = absurd (let u : ⊥ = cc in u)
marks_at l reset Reading e = absurd (let u : ⊥ = cc in u)
marks_at l reset Cancelling e = absurd (let u : ⊥ = cc in u)
marks_at l reset (Broken fault) e = absurd (let u : ⊥ = cc in u)

pub lends_here : (last given count lease : ℕ) (seats : List TdsSeat) (i : ℕ) (test : Seat → Bool) (place : Place) (reset : Reset) (c y : TdsSeat)
    → i < count → FirstMet test (take count seats) i → c ≡ get_or seats i c → is_idle (stage_of c.client) ≡ true
    → seat_of y ≡ record { number = c.number; place = place; line = marked (line_of c) reset }
    → StepsIn (does (record { max = length seats; last = last; given = given; seats = seats_of (take count seats) }) lease test (seat_of c) (Some place) (Mark reset ∷ []) (Lent lease c.number true))
    (record { max = length (set seats i y); last = last; given = lease; seats = seats_of (take count (set seats i y)) }) (Lent lease c.number true) c.number [] []
lends_here last given count lease seats i test place reset c y lt first at idle is =
    let s : Service = record { max = length seats; last = last; given = given; seats = seats_of (take count seats) } in
    let at_used = at ∙ sym (get_or-take count seats i c lt) in
    let took = marks_at (line_of c) reset (stage_of c.client) idle in
    let did = is ∙ ap (λ (t : Turn Token). let x : Seat = record { number = c.number; place = place; line = t.line } in x) (sym took) in
    record {
      service_is = put_in last lease count seats i y lt ∙ does_alike s lease test place (Mark reset ∷ []) (Lent lease c.number true) (take count seats) i c y refl first at_used did;
      reply_is = refl;
      number_is = refl;
      bytes = subst (λ (t : Turn Token). Appends (t.sent ++ []) [] []) (sym took) ([], refl, refl);
    }

-- the same of the seat that stands there, whatever the default
pub lends_at : (last given count lease : ℕ) (seats : List TdsSeat) (i : ℕ) (test : Seat → Bool) (place : Place) (reset : Reset) (x m y c : TdsSeat)
    → i < count → FirstMet test (take count seats) i → c ≡ get_or seats i c → x ≡ c → is_idle (stage_of c.client) ≡ true
    → seat_of m ≡ record { number = x.number; place = place_of x; line = marked (line_of x) reset } → seat_of y ≡ record { number = m.number; place = place; line = line_of m }
    → StepsIn (does (record { max = length seats; last = last; given = given; seats = seats_of (take count seats) }) lease test (seat_of c) (Some place) (Mark reset ∷ []) (Lent lease c.number true))
    (record { max = length (set seats i y); last = last; given = lease; seats = seats_of (take count (set seats i y)) }) (Lent lease x.number true) x.number [] []
lends_at last given count lease seats i test place reset x m y c lt first at same idle took put =
    let s : Service = record { max = length seats; last = last; given = given; seats = seats_of (take count seats) } in
    let new : Service = record { max = length (set seats i y); last = last; given = lease; seats = seats_of (take count (set seats i y)) } in
    let was = ap (λ (z : TdsSeat). let t : Seat = record { number = z.number; place = place_of z; line = marked (line_of z) reset } in t) same in
    let is = put ∙ ap (λ (z : Seat). let t : Seat = record { number = z.number; place = place; line = z.line } in t) (took ∙ was) in
    subst (λ (n : ℕ). StepsIn (does s lease test (seat_of c) (Some place) (Mark reset ∷ []) (Lent lease c.number true)) new (Lent lease n true) n [] []) (ap (λ (z : TdsSeat). z.number) (sym same))
    (lends_here last given count lease seats i test place reset c y lt first at idle is)

-- ---- Adding, and taking out

-- Behind a rotation the last place has what was taken out.
pub rotated : (xs zs : List TdsSeat) (i : ℕ) → i < length xs → ((d : TdsSeat) → zs ≡ remove xs i ++ get_or xs i d ∷ []) → take (length xs - 1) zs ≡ take i xs ++ drop (i + 1) xs
rotated [] zs i lt h = absurd (omega arith)
rotated (x ∷ xs) zs i lt h =
    let e : length (remove (x ∷ xs) i) + 1 ≡ length (x ∷ xs) = length-remove (x ∷ xs) i lt in
    let n : length (x ∷ xs) - 1 ≡ length (remove (x ∷ xs) i) = omega (arith, e) in
    ap (λ (k : ℕ). take k zs) n ∙ (ap (take (length (remove (x ∷ xs) i))) (h x)
    ∙ (take-append_seam (remove (x ∷ xs) i) (get_or (x ∷ xs) i x ∷ [])
    ∙ ap (λ (k : ℕ). take i (x ∷ xs) ++ drop k (x ∷ xs)) (let m : suc i ≡ i + 1 = omega arith in m)))

pub length_of : (cs : List TdsSeat) → length (seats_of cs) ≡ length cs
length_of [] = refl
length_of (c ∷ cs) = ap suc (length_of cs)

pub seats_added : (cs : List TdsSeat) (c : TdsSeat) → seats_of (cs ++ c ∷ []) ≡ seats_of cs ++ seat_of c ∷ []
seats_added [] c = refl
seats_added (d ∷ cs) c = ap (λ ss. seat_of d ∷ ss) (seats_added cs c)

-- the default of an element that is there doesn't matter
pub same_get : (cs : List TdsSeat) (i : ℕ) (d e : TdsSeat) → i < length cs → get_or cs i d ≡ get_or cs i e
same_get [] i d e lt = absurd (omega arith)
same_get (c ∷ cs) zero d e lt = refl
same_get (c ∷ cs) (suc i) d e lt = same_get cs i d e (omega arith)

-- A new connection.
pub opens_here : (last given count lease : ℕ) (seats : List TdsSeat) (y : TdsSeat) → count < length seats → lease ≡ given + 1
    → seat_of y ≡ record { number = last + 1; place = Leased lease; line = new_line }
    → StepsIn (opens {T = Token} (record { max = length seats; last = last; given = given; seats = seats_of (take count seats) }) (nat_lt (length (seats_of (take count seats))) (length seats)))
    (record { max = length (set seats count y); last = last + 1; given = lease; seats = seats_of (take (count + 1) (set seats count y)) }) (Lent lease (last + 1) false) 0 [] []
opens_here last given count lease seats y lt is new =
    let s : Service = record { max = length seats; last = last; given = given; seats = seats_of (take count seats) } in
    let le : count ≤ length seats = omega (arith, lt) in
    let room : nat_lt (length (seats_of (take count seats))) (length seats) ≡ true =
    ap (λ (n : ℕ). nat_lt n (length seats)) (length_of (take count seats) ∙ length-take-le count seats le) ∙ (let t : nat_lt count (length seats) ≡ true = grind (arith, nat_tests) in t) in
    let next : last + 1 ≡ suc last = omega arith in
    let leased : lease ≡ suc given = is ∙ (let e : given + 1 ≡ suc given = omega arith in e) in
    let put = ap seats_of (take_more_set seats count y lt) ∙ (seats_added (take count seats) y ∙ ap (λ (x : Seat). seats_of (take count seats) ++ x ∷ []) new) in
    let made : (record { max = length (set seats count y); last = last + 1; given = lease; seats = seats_of (take (count + 1) (set seats count y)) }) ≡ (opens {T = Token} s true).service =
    ap (λ (n : ℕ). let t : Service = record { max = n; last = last + 1; given = lease; seats = seats_of (take (count + 1) (set seats count y)) } in t) (length-set seats count y)
    ∙ (ap (λ ss. let t : Service = record { max = length seats; last = last + 1; given = lease; seats = ss } in t) put
    ∙ (ap (λ (n : ℕ). let t : Service = record { max = length seats; last = n; given = lease; seats = seats_of (take count seats) ++ (record { number = n; place = Leased lease; line = new_line }) ∷ [] } in t) next
    ∙ ap (λ (n : ℕ). let t : Service = record { max = length seats; last = suc last; given = n; seats = seats_of (take count seats) ++ (record { number = suc last; place = Leased n; line = new_line }) ∷ [] } in t) leased)) in
    subst (λ (b : Bool). StepsIn (opens {T = Token} s b) (record { max = length (set seats count y); last = last + 1; given = lease; seats = seats_of (take (count + 1) (set seats count y)) }) (Lent lease (last + 1) false) 0 [] []) (sym room)
    (record {
      service_is = made;
      reply_is = ap (λ (n : ℕ). Lent n (suc last) false) (sym leased) ∙ ap (λ (n : ℕ). Lent lease n false) (sym next);
      number_is = refl;
      bytes = ([], refl, refl);
    })

-- ---- Cancelling

seen_sending : (s : LineStage) → seen s ≡ stages.Sending → s ≡ Sending true
seen_sending Idle e = absurd (let u : ⊥ = cc in u)
seen_sending (Sending false) e = absurd (let u : ⊥ = cc in u)
seen_sending (Sending true) e = refl
seen_sending Reading e = absurd (let u : ⊥ = cc in u)
seen_sending Cancelling e = absurd (let u : ⊥ = cc in u)
seen_sending (Broken fault) e = absurd (let u : ⊥ = cc in u)

pub both_written : (l : Line) (s : LineStage) (kind : Kind) (before : ℕ) (bytes : List ℕ) → seen s ≡ stages.Sending → bytes ≡ wire.ignore kind before ++ wire.stop_bytes
    → AreBytes (cancels {T = Token} l s).sent bytes
both_written l s kind before bytes e is =
    subst (λ (k : LineStage). AreBytes (cancels {T = Token} l k).sent bytes) (sym (seen_sending s e))
    (wire.ignore kind before, wire.stop_bytes, is, (kind, before, refl), (wire.stop_bytes, [], sym (append-nil wire.stop_bytes), refl, refl))

-- The array is full.
pub no_room : (count : ℕ) (seats : List TdsSeat) → count ≤ length seats → length seats ≤ count → nat_lt (length (seats_of (take count seats))) (length seats) ≡ false
no_room count seats le full =
    ap (λ (n : ℕ). nat_lt n (length seats)) (length_of (take count seats) ∙ length-take-le count seats le)
    ∙ (let t : nat_lt count (length seats) ≡ false = grind (arith, nat_tests) in t)
