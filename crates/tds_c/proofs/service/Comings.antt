-- What a seat's client hears, one part after the other, in the table.
use Rattle.std.proofs.Common.{◌≡◌, ◌∙◌, ◌≤◌, ◌<◌, ◌+◌, ℕ, zero, suc, Bool, true, false, List, [], ◌∷◌, ◌++◌, length, get_or, take, drop, slice_set, append_assoc, refl, sym, ap, subst, arith}
use Rattle.std.proofs.Math.ListN.{set}
use Rattle.std.proofs.Math.Seq.{drop-cons, take-set-lt}
use Rattle.std.proofs.lemmas.List.{append-nil, get_or-set_same, length-append, length-set, set-get_or, set-set, set_at}
use Rattle.std.specs.Prelude.{◌==◌, not, Option, Some, None, Result, Ok, Err, if◌then◌else◌}
use Rattle.tds_client.specs.declared.heard.FinalDone.{FinalDone}
use Rattle.tds_client.specs.declared.heard.FinalDone.TheVariants.{Awaited, Answered, Acknowledged}
use Rattle.tds_client.specs.declared.heard.Heard.{Heard}
use Rattle.tds_client.specs.declared.sign.Sign.{Sign}
use Rattle.tds_client.specs.declared.fault.ClientFault.TheVariants as broken
use Rattle.tds_listen.specs.declared.fault.ListenFault.{ListenFault}
use Rattle.tds_listen.specs.declared.fault.ListenFault.TheVariants as faults
use Rattle.tds_wire.specs.declared.fault.Refusal.{Refusal}
use Rattle.tds_wire.specs.declared.told.Token.{Token}
use Rattle.tds_wire.specs.declared.lent.LentWalk.{LentWalk}
use Rattle.tds_wire.specs.declared.memory.Memory.{Memory}
use Rattle.tds_wire.specs.Lent.{reading_of}
use Rattle.tds_wire.specs.Reading.{Found, Inside, Parser, Refuses, Sees, is_between}
use Rattle.tds_service.specs.Line as line
use Rattle.tds_service.specs.Line.{Answer, Line, LineStage, Told, comes, heard_at, reads, skips, skips_to_end}
use Rattle.tds_service.specs.Parts.{Part}
use Rattle.tds_service.specs.Service.{Place as Held, Seat, Leased, Cleaning, Kept, Free, Draining, drained, find_by, has_number, is_idle, lease_in}
use Rattle.tds_service.specs.Table.{Comes, ReadsAt}
use Rattle.tds_service.specs.Ties.{Hears as LineHears, end_at, listed, part_of, tokens_in}
use Rattle.tds_walk.specs.declared.token.TdsWireToken.{TdsWireToken}
use Rattle.tds_walk.specs.declared.walk.TdsWire.{TdsWire}
use Rattle.tds_walk.specs.Rooms.{HasRead, Room}
use Rattle.tds_walk.specs.Wire.{truth, walk_from}
use Rattle.tds_walk.specs.WireCalls.{reading_from}
use Rattle.tds_walk.specs.WireTokens.{AllShow, Puts, Shows}
use Rattle.tds_c.specs.declared.service.packet.Halt.{Halt}
use Rattle.tds_c.specs.declared.service.plain.TdsSeat.{TdsSeat}
use Rattle.tds_c.specs.declared.service.plain.TdsService.{TdsService}
use Rattle.tds_c.specs.declared.service.plain.TdsWhose.{TdsWhose}
use Rattle.tds_c.specs.service.ComesOn.{BreaksOn, HeardOn, IsSpot, KeptOn, MovesOn, Spot, is_reading, owner_on, table_with}
use Rattle.tds_c.specs.service.Packet.{BreaksThere, HasPassed, OwnerHears, InTurn, Passage, PassesBy, Owner, Reached, found_at, passages_told}
use Rattle.tds_c.specs.service.Hearing.{end_part, lease_number, one_part}
use Rattle.tds_c.specs.service.Plain.{line_of, place_of, seat_of, table_of}
use Rattle.tds_c.specs.service.Table.{FirstMet, met}
use Rattle.tds_c.proofs.service.Acting.{found_seat}
use Rattle.tds_c.proofs.service.Arrivals.{comes_here}
use Rattle.tds_c.proofs.service.Steps.{here_in, same_number, same_seat}
use Rattle.tds_c.proofs.service.Tables.{same_get}

-- ---- Bytes that are none

module _ (l : Line) (refusal : Refusal) where
  pub fails_read : l.stage ≡ line.Reading → LineHears (part_of (Refuses refusal)) l (heard_at l (line.Broken broken.Lost) l.heard) (line.Fault (faults.Wire refusal)) []
  fails_read st = record { line_is = rw st refl; answer_is = rw st refl; told_is = rw st refl; owner = rw st tt; quiet = rw st refl }

  pub fails_skipped : l.stage ≡ line.Cancelling → LineHears (part_of (Refuses refusal)) l (heard_at l (line.Broken broken.Lost) l.heard) (line.Fault (faults.Wire refusal)) []
  fails_skipped st = record { line_is = rw st refl; answer_is = rw st refl; told_is = rw st refl; owner = rw st tt; quiet = rw st refl }

-- ---- What stays

asked_read : (l : Line) (part : Part Token) (b : Bool) (u : Heard) (r : Result Heard ListenFault) → (reads l part b u r).line.asked ≡ l.asked
asked_read l part b u (Err fault) = refl
asked_read l part true u (Ok heard) = refl
asked_read l part false u (Ok heard) = refl

asked_ended : (l : Line) (heard : Heard) (d : FinalDone) → (skips_to_end {T = Token} l heard d).line.asked ≡ l.asked
asked_ended l heard Awaited = refl
asked_ended l heard Answered = refl
asked_ended l heard Acknowledged = refl

asked_skipped : (l : Line) (b : Bool) (u : Heard) (r : Result Heard ListenFault) → (skips {T = Token} l b u r).line.asked ≡ l.asked
asked_skipped l b u (Err fault) = refl
asked_skipped l false u (Ok heard) = refl
asked_skipped l true u (Ok heard) = asked_ended l heard heard.done

asked_same : (l : Line) (part : Part Token) (s : LineStage) → (comes l part s).line.asked ≡ l.asked
asked_same l part line.Idle = refl
asked_same l part (line.Sending begun) = refl
asked_same l part line.Reading = asked_read l part _ _ _
asked_same l part line.Cancelling = asked_skipped l _ _ _
asked_same l part (line.Broken fault) = refl

none_drains : (b : Bool) → lease_in (if b then Free else Draining) ≡ None
none_drains true = refl
none_drains false = refl

lease_same : (place : Held) (stage : LineStage) → lease_in (drained place stage) ≡ lease_in place
lease_same (Leased lease) stage = refl
lease_same (Cleaning lease) stage = refl
lease_same (Kept ticket) stage = refl
lease_same Free stage = refl
lease_same Draining stage = none_drains (is_idle stage)

pub kept_on : (part : Part Token) (c z : TdsSeat) (answer : Answer) (tokens : List Token) → HeardOn part c z answer tokens → KeptOn c z
kept_on part c z answer tokens on = record {
  number_is = on.number_is;
  asked_is = ap (λ (l : Line). l.asked) on.hears.line_is ∙ asked_same (line_of c) part (line_of c).stage;
  lease_is = ap lease_in on.place_is ∙ lease_same (place_of c) (line_of z).stage;
  apart_is = on.apart_is;
}

pub kept_again : (b c z : TdsSeat) → KeptOn b c → KeptOn c z → KeptOn b z
kept_again b c z one two = record {
  number_is = two.number_is ∙ one.number_is;
  asked_is = two.asked_is ∙ one.asked_is;
  lease_is = two.lease_is ∙ one.lease_is;
  apart_is = two.apart_is ∙ one.apart_is;
}

pub kept_none : (c : TdsSeat) → KeptOn c c
kept_none c = record { number_is = refl; asked_is = refl; lease_is = refl; apart_is = refl }

-- ---- In the table

met_same : (test : Seat → Bool) (cs : List TdsSeat) (i : ℕ) (c : TdsSeat) → i < length cs → met test (set cs i c) i ≡ test (seat_of c)
met_same test [] i c lt = absurd (omega arith)
met_same test (x ∷ cs) zero c lt = refl
met_same test (x ∷ cs) (suc i) c lt = met_same test cs i c (omega arith)

met_before : (test : Seat → Bool) (cs : List TdsSeat) (i k : ℕ) (c : TdsSeat) → k < i → met test (set cs i c) k ≡ met test cs k
met_before test [] i k c lt = refl
met_before test (x ∷ cs) zero k c lt = absurd (omega arith)
met_before test (x ∷ cs) (suc i) zero c lt = refl
met_before test (x ∷ cs) (suc i) (suc k) c lt = met_before test cs i k c (omega arith)

met_again : (test : Seat → Bool) (cs : List TdsSeat) (i : ℕ) (c : TdsSeat) → FirstMet test cs i → test (seat_of c) ≡ true → FirstMet test (set cs i c) i
met_again test cs i c first meets = record {
  within = omega (arith, length-set cs i c, first.within);
  here = met_same test cs i c first.within ∙ meets;
  before = λ k lt. met_before test cs i k c lt ∙ first.before k lt;
}

pub meets_number : (s : Spot) → IsSpot s → (c : TdsSeat) → c.number ≡ s.number → has_number s.number (seat_of c) ≡ true
meets_number s is c named =
    let here = here_in (has_number s.number) s.service.count s.seats s.index is.fits is.met in
    subst (λ (n : ℕ). (n == s.number) ≡ true) (same_number here.seat.number s.number here.meets ∙ sym named) here.meets

module _ (s : Spot) (is : IsSpot s) where
  pub comes_on : (part : Part Token) (c z : TdsSeat) (answer : Answer) (tokens : List Token) → c.number ≡ s.number → HeardOn part c z answer tokens
      → Comes (table_with s c) (table_with s z) s.number part (lease_in (place_of c)) c.asked answer [] tokens
  comes_on part c z answer tokens named on =
      let test = has_number s.number in
      let here = here_in test s.service.count s.seats s.index is.fits is.met in
      let seats : List TdsSeat = set s.seats s.index c in
      let y : TdsSeat = record z { place = c.place; holder = c.holder } in
      let long : s.service.count ≤ length seats = omega (arith, length-set s.seats s.index c, is.fits) in
      let met : FirstMet test (take s.service.count seats) s.index =
      subst (λ (cs : List TdsSeat). FirstMet test cs s.index) (sym (take-set-lt s.service.count s.seats s.index c here.under))
      (met_again test (take s.service.count s.seats) s.index c is.met (meets_number s is c named)) in
      let at : c ≡ get_or seats s.index c = sym (get_or-set_same s.seats s.index c c here.within) in
      subst (λ (xs : List TdsSeat). Comes (table_with s c) (table_of s.service xs) s.number part (lease_in (place_of c)) c.asked answer [] tokens)
      (set-set s.seats s.index c z)
      (comes_here s.service.last s.service.given s.service.count seats s.index s.number c y z part answer tokens (lease_in (place_of c))
      long met at on.hears refl on.number_is refl on.place_is refl refl)

  -- of a connection that was another seat's before
  pub comes_owned : (part : Part Token) (b c z : TdsSeat) (answer : Answer) (tokens : List Token) → c.number ≡ s.number → KeptOn b c → HeardOn part c z answer tokens
      → OwnerHears (owner_on s b) part (table_with s c) (table_with s z) answer tokens
  comes_owned part b c z answer tokens named kept on =
      subst (λ (l : Option ℕ). Comes (table_with s c) (table_with s z) s.number part l b.asked answer [] tokens) kept.lease_is
      (subst (λ (n : ℕ). Comes (table_with s c) (table_with s z) s.number part (lease_in (place_of c)) n answer [] tokens) kept.asked_is
      (comes_on part c z answer tokens named on))

  pub moves_by : (b c z : TdsSeat) (r next : Parser) (bytes left : List ℕ) (told : List Token) (f : Found) → c.number ≡ s.number → KeptOn b c → MovesOn f c z next left told
      → PassesBy (owner_on s b) (record { table = table_with s c; reading = r; rest = bytes }) f (record { told = told; to = record { table = table_with s z; reading = next; rest = left } })
  moves_by b c z r next bytes left told (Sees token x rest) named kept m = (m.0, m.1, comes_owned (part_of (Sees token x rest)) b c z line.More told named kept m.2)
  moves_by b c z r next bytes left told (Inside x) named kept m = (m.3, rw (m.0, m.1, m.2) refl)
  moves_by b c z r next bytes left told (Refuses refusal) named kept m = absurd m

  pub breaks_by : (b c z : TdsSeat) (f : Found) (fault : ListenFault) → c.number ≡ s.number → KeptOn b c → BreaksOn f c z fault
      → BreaksThere (owner_on s b) (table_with s c) f (table_with s z) fault
  breaks_by b c z (Sees token x rest) fault named kept m = comes_owned (part_of (Sees token x rest)) b c z (line.Fault fault) [] named kept m
  breaks_by b c z (Inside x) fault named kept m = absurd m
  breaks_by b c z (Refuses refusal) fault named kept m = comes_owned (part_of (Refuses refusal)) b c z (line.Fault fault) [] named kept m

-- ---- One after the other

in_turn_on : (o : Owner) (first : Reached) (moves : List Passage) (place : Reached) (move : Passage) → InTurn o first moves place → PassesBy o place (found_at place) move → InTurn o first (moves ++ move ∷ []) move.to
unfolding InTurn
in_turn_on o first [] place move so next = (rw so next, refl)
in_turn_on o first (x ∷ moves) place move so next = (so.0, in_turn_on o x.to moves place move so.1 next)

told_on : (moves : List Passage) (move : Passage) → passages_told (moves ++ move ∷ []) ≡ passages_told moves ++ move.told
unfolding passages_told
told_on [] move = append-nil move.told
told_on (x ∷ moves) move = ap (λ (ts : List Token). x.told ++ ts) (told_on moves move) ∙ sym (append_assoc x.told (passages_told moves) move.told)

shows_on : (values : List TdsWireToken) (tokens : List Token) (value : TdsWireToken) (token : Token) → AllShow values tokens → Shows value token token.told → AllShow (values ++ value ∷ []) (tokens ++ token ∷ [])
unfolding AllShow
shows_on [] [] value token all one = (one, tt)
shows_on [] (t ∷ tokens) value token all one = absurd all
shows_on (x ∷ values) [] value token all one = absurd all
shows_on (x ∷ values) (t ∷ tokens) value token all one = (all.0, shows_on values tokens value token all.1 one)

pub none_heard : (o : Owner) (first : Reached) (room : List TdsWireToken) → HasPassed o first first (record { before = room; after = room; count = 0 })
unfolding InTurn passages_told AllShow
none_heard o first room = record { moves = []; in_turn = refl; values = []; shows = tt; written = (refl, refl) }

front_on : {A : Type 0} → (read before : List A) (x : A) (n : ℕ) → length read ≡ n → n < length before → slice_set (read ++ drop n before) n x ≡ read ++ x ∷ drop (suc n) before
front_on read before x n counted within = rw (drop-cons before n x within) (set_at read (get_or before n x) (drop (suc n) before) x n counted)

-- one more value stands at the front of the room
written_on : {A : Type 0} → (read before after : List A) (x : A) (i : ℕ) → HasRead read (record { before = before; after = after; count = i }) → i < length before
    → HasRead (read ++ x ∷ []) (record { before = before; after = slice_set after i x; count = i + 1 })
written_on read before after x i written within =
    let counted : length read ≡ i = sym written.1 in
    let more : length (read ++ x ∷ []) ≡ suc i = omega (arith, length-append read (x ∷ []), counted) in
    (rw (written.0, counted, more) (front_on read before x i counted within ∙ sym (append_assoc read (x ∷ []) (drop (suc i) before))), omega (arith, more))

-- one more move was made
pub heard_on : (told : Option Token) (o : Owner) (first place : Reached) (move : Passage) (before after new : List TdsWireToken) (i j : ℕ) → move.told ≡ listed told → length after ≡ length before
    → PassesBy o place (found_at place) move → Puts told (record { before = after; after = new; count = j }) i
    → HasPassed o first place (record { before = before; after = after; count = i }) → HasPassed o first move.to (record { before = before; after = new; count = j })
heard_on None o first place move before after new i j is long next put heard = record {
  moves = heard.moves ++ move ∷ [];
  in_turn = in_turn_on o first heard.moves place move heard.in_turn next;
  values = heard.values;
  shows = subst (AllShow heard.values) (sym (told_on heard.moves move ∙ (ap (λ (ts : List Token). passages_told heard.moves ++ ts) is ∙ append-nil (passages_told heard.moves)))) heard.shows;
  written = rw (put.0, put.1) heard.written;
}
heard_on (Some token) o first place move before after new i j is long next put heard = record {
  moves = heard.moves ++ move ∷ [];
  in_turn = in_turn_on o first heard.moves place move heard.in_turn next;
  values = heard.values ++ put.0 ∷ [];
  shows = subst (AllShow (heard.values ++ put.0 ∷ [])) (sym (told_on heard.moves move ∙ ap (λ (ts : List Token). passages_told heard.moves ++ ts) is)) (shows_on heard.values (passages_told heard.moves) put.0 token heard.shows put.1);
  written = rw (put.3, put.4) (written_on heard.values before after put.0 i heard.written (rw (sym long) put.2));
}

-- ---- What a token's part does

abbrev Goes : Answer → Type 0
Goes (line.Refused why) = ⊥
Goes line.Marked = ⊥
Goes (line.Asked request descriptor) = ⊥
Goes line.Sent = ⊥
Goes line.Nothing = ⊥
Goes line.Already = ⊥
Goes (line.Unsent request) = ⊥
Goes (line.Stopped request) = ⊥
Goes line.More = Unit {0}
Goes (line.Finished request) = ⊥
Goes (line.Acked request) = ⊥
Goes (line.Fault fault) = Unit {0}
Goes line.Lost = ⊥

goes_read : (l : Line) (part : Part Token) (u : Heard) (r : Result Heard ListenFault) → Goes (reads l part false u r).answer
goes_read l part u (Ok heard) = tt
goes_read l part u (Err fault) = tt

goes_skipped : (l : Line) (u : Heard) (r : Result Heard ListenFault) → Goes (skips {T = Token} l false u r).answer
goes_skipped l u (Ok heard) = tt
goes_skipped l u (Err fault) = tt

goes : (l : Line) (sign : Sign) (token : Token) (s : LineStage) → Goes (comes l (one_part sign token) s).answer
goes l sign token line.Idle = tt
goes l sign token (line.Sending begun) = tt
goes l sign token line.Reading = goes_read l (one_part sign token) _ _
goes l sign token line.Cancelling = goes_skipped l _ _
goes l sign token (line.Broken fault) = tt

-- it ends no message
pub ends_none : (sign : Sign) (token : Token) (l new : Line) (answer : Answer) (tokens : List Token) → LineHears (one_part sign token) l new answer tokens → Goes answer
ends_none sign token l new answer tokens hears = subst Goes hears.answer_is (goes l sign token l.stage)

none_told_of : (t : Told Token) → t ≡ line.Nobody → (token : Token) → tokens_in t ≡ token ∷ [] → ⊥
none_told_of t is token e = absurd (let u : ⊥ = cc in u)

untold_end : (l : Line) (heard : Heard) (d : FinalDone) → (skips_to_end {T = Token} l heard d).told ≡ line.Nobody
untold_end l heard Awaited = refl
untold_end l heard Answered = refl
untold_end l heard Acknowledged = refl

untold : (l : Line) (b : Bool) (u : Heard) (r : Result Heard ListenFault) → (skips {T = Token} l b u r).told ≡ line.Nobody
untold l b u (Err fault) = refl
untold l false u (Ok heard) = refl
untold l true u (Ok heard) = untold_end l heard heard.done

-- a token that is told is an answer's that is read
told_reading : (l : Line) (part : Part Token) (s : LineStage) (token : Token) → tokens_in (comes l part s).told ≡ token ∷ [] → is_reading s ≡ true
told_reading l part line.Idle token e = absurd (none_told_of line.Nobody refl token e)
told_reading l part (line.Sending begun) token e = absurd (none_told_of line.Nobody refl token e)
told_reading l part line.Reading token e = refl
told_reading l part line.Cancelling token e = absurd (none_told_of _ (untold l _ _ _) token e)
told_reading l part (line.Broken fault) token e = absurd (none_told_of line.Nobody refl token e)

pub may_be_told : (part : Part Token) (l new : Line) (answer : Answer) (token : Token) → LineHears part l new answer (token ∷ []) → is_reading l.stage ≡ true
may_be_told part l new answer token hears = told_reading l part l.stage token hears.told_is

-- ---- The end of a message

pub end_is : (r : Parser) (b : Bool) → b ≡ is_between r → end_part (not b) ≡ end_at r
end_is r true is = rw (sym is) refl
end_is r false is = rw (sym is) refl

-- ---- What stays, whatever is found

pub kept_moved : (f : Found) (c z : TdsSeat) (next : Parser) (left : List ℕ) (told : List Token) → MovesOn f c z next left told → KeptOn c z
kept_moved (Sees token x rest) c z next left told m = kept_on (part_of (Sees token x rest)) c z line.More told m.2
kept_moved (Inside x) c z next left told m = subst (λ (y : TdsSeat). KeptOn c y) (sym m.2) (kept_none c)
kept_moved (Refuses refusal) c z next left told m = absurd m

pub kept_broken : (f : Found) (c z : TdsSeat) (fault : ListenFault) → BreaksOn f c z fault → KeptOn c z
kept_broken (Sees token x rest) c z fault m = kept_on (part_of (Sees token x rest)) c z (line.Fault fault) [] m
kept_broken (Inside x) c z fault m = absurd m
kept_broken (Refuses refusal) c z fault m = kept_on (part_of (Refuses refusal)) c z (line.Fault fault) [] m

-- ---- Where it is found

pub reading_is : (s : LineStage) → is_reading s ≡ true → s ≡ line.Reading
reading_is line.Idle e = absurd (let u : ⊥ = cc in u)
reading_is (line.Sending begun) e = absurd (let u : ⊥ = cc in u)
reading_is line.Reading e = refl
reading_is line.Cancelling e = absurd (let u : ⊥ = cc in u)
reading_is (line.Broken fault) e = absurd (let u : ⊥ = cc in u)

module _ (s : Spot) (is : IsSpot s) (c : TdsSeat) (named : c.number ≡ s.number) where
  pub found_on : find_by (has_number s.number) (table_with s c).seats ≡ Some (seat_of c)
  found_on =
      let test = has_number s.number in
      let here = here_in test s.service.count s.seats s.index is.fits is.met in
      let seats : List TdsSeat = set s.seats s.index c in
      let long : s.service.count ≤ length seats = omega (arith, length-set s.seats s.index c, is.fits) in
      let met : FirstMet test (take s.service.count seats) s.index =
      subst (λ (cs : List TdsSeat). FirstMet test cs s.index) (sym (take-set-lt s.service.count s.seats s.index c here.under))
      (met_again test (take s.service.count s.seats) s.index c is.met (meets_number s is c named)) in
      found_seat test s.service.count seats s.index c long met (sym (get_or-set_same s.seats s.index c c here.within))

  pub reads_on : is_reading (line_of c).stage ≡ true → ReadsAt (find_by (has_number s.number) (table_with s c).seats)
  reads_on reads = subst ReadsAt (sym found_on) (reading_is (line_of c).stage reads)
