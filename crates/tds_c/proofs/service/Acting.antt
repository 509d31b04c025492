-- What a lease asks, and what comes: from a seat to the machine's step.
use Rattle.std.proofs.Common.{◌≡◌, ◌∙◌, ◌<◌, ◌≤◌, ◌+◌, ◌==◌, ℕ, zero, suc, Bool, true, false, List, [], ◌∷◌, ◌++◌, length, get_or, take, drop, refl, sym, ap, subst, arith}
use Rattle.std.proofs.Math.ListN.{set}
use Rattle.std.proofs.Math.Seq.{take-append_seam}
use Rattle.std.proofs.lemmas.List.{append-nil, get_or-take, length-append}
use Rattle.std.specs.Prelude.{Option, Some, None, Result, Ok, if◌then◌else◌}
use Rattle.tds_packet.specs.declared.kind.Kind.{Kind}
use Rattle.tds_packet.specs.declared.status.Reset.{Reset}
use Rattle.tds_packet.specs.Resets.{header_descriptor, mark_bit, reset_bit}
use Rattle.tds_packet.specs.Sent.{end_bit}
use Rattle.tds_packet.specs.Size.{IsPacketSize}
use Rattle.tds_client.specs.declared.message.MessageKind.{MessageKind}
use Rattle.tds_client.specs.declared.state.Cancelled.{Cancelled}
use Rattle.tds_client.specs.declared.state.Cancelled.TheVariants as cancels
use Rattle.tds_client.specs.Packets.{packet_bytes}
use Rattle.tds_client.specs.Streams.{finished, packets_are}
use Rattle.tds_client.specs.declared.fault.ClientFault.{ClientFault}
use Rattle.tds_client.specs.declared.fault.ClientRefusal.{ClientRefusal}
use Rattle.tds_client.specs.declared.fault.ClientRefusal.TheVariants as clients
use Rattle.tds_client.specs.Sending.{Effect, IsRefusal}
use Rattle.tds_wire.specs.declared.told.Token.{Token}
use Rattle.tds_service.specs.declared.refusal.Refusal.{Refusal}
use Rattle.tds_service.specs.declared.refusal.Refusal.TheVariants as refusals
use Rattle.tds_service.specs.History.{Done, history}
use Rattle.tds_service.specs.Line as line
use Rattle.tds_service.specs.Line.{Act, Answer, Line, Packet, LineStage, Idle, Sending, Reading, Cancelling, Broken, Told, mark_on, not_begun, line_turn}
use Rattle.tds_service.specs.Parts.{Part}
use Rattle.tds_service.specs.Refusing.{packets, refusal_in}
use Rattle.tds_service.specs.Service as calls
use Rattle.tds_service.specs.Service.{Place, Seat, Service, ServiceStep, Did, drained, find_by, has_lease, has_number, lease_at, lease_in, acts, acts_unless, hears}
use Rattle.tds_service.specs.Table.{AllTo, Comes, RefusedBy, Denies, RefusesIn, StepsIn, answers_in, refusal_of, told_in}
use Rattle.tds_service.specs.Ties.{Appends, AreBytes, Hears, IsTo, begun_of, cancel_answer, sent_in, tokens_in}
use Rattle.tds_c.specs.declared.service.answers.Stop.{Stop}
use Rattle.tds_c.specs.declared.service.answers.Stop.TheVariants as stops
use Rattle.tds_c.specs.declared.service.plain.TdsSeat.{TdsSeat}
use Rattle.tds_c.specs.declared.service.plain.TdsService.{TdsService}
use Rattle.tds_c.specs.declared.service.sending.Putting.{Putting}
use Rattle.tds_c.specs.service.Asking.{AskStops, FinishStops, Found, HasAsked, HasCancelled, HasFinished, HasPut, Keep, PutStops, Turned, headers_by, packet_of, put_number, with_front}
use Rattle.tds_c.specs.service.Calls.{Buffer, DoesIt, Held, Stops}
use Rattle.tds_c.specs.service.Clients.{asked_seat, cancel_bytes, cancelled_seat, sent_seat, session_of}
use Rattle.tds_c.specs.service.OnSeat.{AsksNot, FinishesNot, PutsNot, PutsOn}
use Rattle.tds_c.specs.service.Plain.{fault_of, kind_at, line_of, mark_of, place_of, seat_of, seats_of, stage_at, stage_of, table_of}
use Rattle.tds_c.specs.service.Table.{ActsOn, Becomes, FirstMet, RefusedOn}
use Rattle.tds_c.proofs.service.Clients.{Sends, ends_so, opens_so}
use Rattle.tds_c.proofs.service.Cancels.{begun_at, cancels_so}
use Rattle.tds_c.proofs.service.Tables.{does_alike, put_in, same_get}
use Rattle.tds_c.proofs.service.Steps.{Here, becomes, comes_by_number, here_in, same_number}

-- ---- The seat that is found

pub found_seat : (test : Seat → Bool) (count : ℕ) (seats : List TdsSeat) (i : ℕ) (c : TdsSeat) → count ≤ length seats → FirstMet test (take count seats) i → c ≡ get_or seats i c
    → find_by test (seats_of (take count seats)) ≡ Some (seat_of c)
found_seat test count seats i c le met at =
    let here = here_in test count seats i le met in
    here.found ∙ ap (λ (x : TdsSeat). Some (seat_of x)) (sym (at ∙ (same_get seats i c here.seat here.within ∙ sym here.at)))

pub meets_seat : (test : Seat → Bool) (count : ℕ) (seats : List TdsSeat) (i : ℕ) (c : TdsSeat) → count ≤ length seats → FirstMet test (take count seats) i → c ≡ get_or seats i c
    → test (seat_of c) ≡ true
meets_seat test count seats i c le met at =
    let here = here_in test count seats i le met in
    ap (λ (x : TdsSeat). test (seat_of x)) (at ∙ (same_get seats i c here.seat here.within ∙ sym here.at)) ∙ here.meets

-- ---- Acts of a lease

pub acts_here : (last given count : ℕ) (seats : List TdsSeat) (i : ℕ) (test : Seat → Bool) (c y : TdsSeat) (first : Act Token) (all : List (Act Token)) (bytes : List ℕ)
    → count ≤ length seats → FirstMet test (take count seats) i → c ≡ get_or seats i c → ActsOn first all c y bytes
    → StepsIn (acts (record { max = length seats; last = last; given = given; seats = seats_of (take count seats) }) test first all (find_by test (seats_of (take count seats))))
    (record { max = length (set seats i y); last = last; given = given; seats = seats_of (take count (set seats i y)) }) Did c.number [] bytes
acts_here last given count seats i test c y first all bytes le met at a =
    let s : Service = record { max = length seats; last = last; given = given; seats = seats_of (take count seats) } in
    let new : Service = record { max = length (set seats i y); last = last; given = given; seats = seats_of (take count (set seats i y)) } in
    let here = here_in test count seats i le met in
    let at_used = at ∙ sym (get_or-take count seats i c here.under) in
    subst (λ (o : Option Seat). StepsIn (acts s test first all o) new Did c.number [] bytes) (sym (found_seat test count seats i c le met at))
    (subst (λ (o : Option ClientRefusal). StepsIn (acts_unless s test (seat_of c) all o) new Did c.number [] bytes) (sym a.may)
    (record {
      service_is =
          put_in last given count seats i y here.under
          ∙ does_alike s given test (place_of c) all Did (take count seats) i c y refl met at_used (becomes c y (place_of c) all a.becomes);
      reply_is = refl;
      number_is = refl;
      bytes = (bytes, refl, a.sent);
    }))

-- what the connection answered to the one act
pub answers_here : (last given count : ℕ) (seats : List TdsSeat) (i : ℕ) (test : Seat → Bool) (c : TdsSeat) (act : Act Token) (answer : Answer)
    → count ≤ length seats → FirstMet test (take count seats) i → c ≡ get_or seats i c → (line_turn (line_of c) act).answer ≡ answer → refusal_in (line_turn (line_of c) act).answer ≡ None
    → answers_in (acts (record { max = length seats; last = last; given = given; seats = seats_of (take count seats) }) test act (act ∷ []) (find_by test (seats_of (take count seats)))).dones ≡ answer ∷ []
answers_here last given count seats i test c act answer le met at is may =
    let s : Service = record { max = length seats; last = last; given = given; seats = seats_of (take count seats) } in
    subst (λ (o : Option Seat). answers_in (acts s test act (act ∷ []) o).dones ≡ answer ∷ []) (sym (found_seat test count seats i c le met at))
    (subst (λ (o : Option ClientRefusal). answers_in (acts_unless s test (seat_of c) (act ∷ []) o).dones ≡ answer ∷ []) (sym may) (ap (λ (a : Answer). a ∷ []) is))

-- ---- Refusals

unless_refuses : (s : Service) (test : Seat → Bool) (c : Seat) (all : List (Act Token)) (x : Option ClientRefusal) (why : ClientRefusal) → IsRefusal x why
    → (x ≡ Some clients.Memory → ⊥) → RefusesIn s (acts_unless s test c all x) (refusal_of why)
unless_refuses s test c all None why is never = subst (λ (w : ClientRefusal). RefusesIn s (acts_unless s test c all None) (refusal_of w)) (sym is) (λ numbers. refl)
unless_refuses s test c all (Some clients.NotIdle) why is never = subst (λ (w : ClientRefusal). RefusesIn s (acts_unless s test c all (Some clients.NotIdle)) (refusal_of w)) (sym is) refl
unless_refuses s test c all (Some clients.NotSending) why is never = subst (λ (w : ClientRefusal). RefusesIn s (acts_unless s test c all (Some clients.NotSending)) (refusal_of w)) (sym is) refl
unless_refuses s test c all (Some clients.Broken) why is never = subst (λ (w : ClientRefusal). RefusesIn s (acts_unless s test c all (Some clients.Broken)) (refusal_of w)) (sym is) refl
unless_refuses s test c all (Some clients.Memory) why is never = absurd (never refl)

pub refuses_here : (last given count : ℕ) (seats : List TdsSeat) (i : ℕ) (test : Seat → Bool) (c : TdsSeat) (first : Act Token) (all : List (Act Token)) (refusal : Refusal)
    → count ≤ length seats → FirstMet test (take count seats) i → c ≡ get_or seats i c → RefusedOn first c refusal
    → (refusal_in (line_turn (line_of c) first).answer ≡ Some clients.Memory → ⊥)
    → (let s : Service = record { max = length seats; last = last; given = given; seats = seats_of (take count seats) } in RefusesIn s (acts s test first all (find_by test s.seats)) refusal)
refuses_here last given count seats i test c first all refusal le met at by never =
    let s : Service = record { max = length seats; last = last; given = given; seats = seats_of (take count seats) } in
    subst (λ (o : Option Seat). RefusesIn s (acts s test first all o) refusal) (sym (found_seat test count seats i c le met at))
    (subst (λ (r : Refusal). RefusesIn s (acts_unless s test (seat_of c) all (refusal_in (line_turn (line_of c) first).answer)) r) (sym by.1)
    (unless_refuses s test (seat_of c) all (refusal_in (line_turn (line_of c) first).answer) by.0 by.2 never))

-- ---- One packet that goes out

not_not : (x b : Bool) → b ≡ not_begun x → not_begun b ≡ x
not_not true true e = absurd (let u : ⊥ = cc in u)
not_not true false e = refl
not_not false true e = refl
not_not false false e = absurd (let u : ⊥ = cc in u)

first_alone : (x b : Bool) (mark : Option Reset) → b ≡ not_begun x → reset_bit (mark_on b mark) ≡ (if x then reset_bit mark else 0)
first_alone true true mark e = absurd (let u : ⊥ = cc in u)
first_alone true false mark e = refl
first_alone false true mark e = refl
first_alone false false mark e = absurd (let u : ⊥ = cc in u)

pub at_sending : (n out fault : ℕ) → n ≡ 1 → stage_at n out fault ≡ Sending (begun_of out)
unfolding stage_at
at_sending n out fault e = rw e refl

sent_bytes : (l : Line) (b last : Bool) (kind : Kind) (out : ℕ) (content : List ℕ) → l.stage ≡ Sending b → b ≡ begun_of out
    → AreBytes (sent_in (history {T = Token} l (line.Send last ∷ []))) (packet_bytes kind (end_bit last + mark_bit out l.heard.mark) out content)
sent_bytes l b last kind out content st is =
    let bytes = packet_bytes kind (end_bit last + mark_bit out l.heard.mark) out content in
    let status = ap (λ (n : ℕ). packet_bytes kind (end_bit last + n) out content) (sym (first_alone (out == 0) b l.heard.mark is)) in
    subst (λ (s : LineStage). AreBytes ((line.sends {T = Token} l last s).sent ++ []) bytes) (sym st)
    (bytes, [], sym (append-nil bytes), (kind, out, content, not_not (out == 0) b is, status), refl)

may_send : (l : Line) (b last : Bool) → l.stage ≡ Sending b → refusal_in (line_turn {T = Token} l (line.Send last)).answer ≡ None
may_send l b last st = subst (λ (s : LineStage). refusal_in (line.sends {T = Token} l last s).answer ≡ None) (sym st) refl

pub sends_one : (c y : TdsSeat) (last : Bool) (content : List ℕ) → (b : Bool) × ((line_of c).stage ≡ Sending b)
    → line_of y ≡ (line_turn {T = Token} (line_of c) (line.Send last)).line → place_of y ≡ place_of c → y.number ≡ c.number
    → ActsOn (line.Send last) (line.Send last ∷ []) c y (packet_of c last content)
sends_one c y last content sending moved placed numbered = record {
  becomes = record { number_is = numbered; place_is = placed; line_is = moved };
  may = may_send (line_of c) sending.0 last sending.1;
  sent = sent_bytes (line_of c) sending.0 last (kind_at c.client.kind) c.client.packets content sending.1 (begun_at c.client.stage c.client.packets c.client.fault sending.0 sending.1);
}

-- none: all of it waits
pub sends_none : (c : TdsSeat) → (b : Bool) × ((line_of c).stage ≡ Sending b) → ActsOn (line.Send false) [] c c []
sends_none c sending = record {
  becomes = record { number_is = refl; place_is = refl; line_is = refl };
  may = may_send (line_of c) sending.0 false sending.1;
  sent = refl;
}

-- ---- Acts are refused, but for no want of memory

asks_never : (l : Line) (s : LineStage) → refusal_in (line.asks {T = Token} l s).answer ≡ Some clients.Memory → ⊥
asks_never l Idle e = let u : ⊥ = cc in u
asks_never l (Sending b) e = let u : ⊥ = cc in u
asks_never l Reading e = let u : ⊥ = cc in u
asks_never l Cancelling e = let u : ⊥ = cc in u
asks_never l (Broken fault) e = let u : ⊥ = cc in u

sends_never : (l : Line) (last : Bool) (s : LineStage) → refusal_in (line.sends {T = Token} l last s).answer ≡ Some clients.Memory → ⊥
sends_never l last Idle e = let u : ⊥ = cc in u
sends_never l last (Sending b) e = let u : ⊥ = cc in u
sends_never l last Reading e = let u : ⊥ = cc in u
sends_never l last Cancelling e = let u : ⊥ = cc in u
sends_never l last (Broken fault) e = let u : ⊥ = cc in u

cancels_never : (l : Line) (s : LineStage) → refusal_in (line.cancels {T = Token} l s).answer ≡ Some clients.Memory → ⊥
cancels_never l Idle e = let u : ⊥ = cc in u
cancels_never l (Sending false) e = let u : ⊥ = cc in u
cancels_never l (Sending true) e = let u : ⊥ = cc in u
cancels_never l Reading e = let u : ⊥ = cc in u
cancels_never l Cancelling e = let u : ⊥ = cc in u
cancels_never l (Broken fault) e = let u : ⊥ = cc in u

asks_answer : (l : Line) (s : LineStage) → refusal_in (line.asks {T = Token} l s).answer ≡ None
    → (line.asks {T = Token} l s).answer ≡ line.Asked (suc l.asked) (header_descriptor l.heard.mark l.heard.descriptor)
asks_answer l Idle e = refl
asks_answer l (Sending b) e = absurd (let u : ⊥ = cc in u)
asks_answer l Reading e = absurd (let u : ⊥ = cc in u)
asks_answer l Cancelling e = absurd (let u : ⊥ = cc in u)
asks_answer l (Broken fault) e = absurd (let u : ⊥ = cc in u)

cancels_may : (n : ℕ) (how : Cancelled) → refusal_in (cancel_answer n how) ≡ None
cancels_may n cancels.Nothing = refl
cancels_may n cancels.Already = refl
cancels_may n cancels.Unsent = refl
cancels_may n cancels.Asked = refl

-- ---- What the core's client does

ends_on : (c y : TdsSeat) (kept : List ℕ) → Sends c → y ≡ sent_seat true c → line_of y ≡ (line_turn {T = Token} (line_of c) (line.Send true)).line → IsPacketSize c.client.size → length kept + 8 ≤ c.client.size
    → finished (session_of c kept) ≡ Ok (record { answer = tt; session = session_of y []; bytes = packet_of c true kept })
ends_on c y kept at is moved range holds =
    let reads : (line_of y).stage ≡ Reading = ap (λ (l : Line). l.stage) moved ∙ ap (λ (s : LineStage). (line.sends {T = Token} (line_of c) true s).line.stage) at.1 in
    ends_so c kept at (subst (λ (s : TdsSeat). (line_of s).stage ≡ Reading) is reads) range holds
    ∙ ap (λ (s : TdsSeat). let r : Result (Effect (Unit {0})) ClientRefusal = Ok (record { answer = tt; session = session_of s []; bytes = packet_of c true kept }) in r) (sym is)

-- ---- In the table

module _ (s : TdsService) (seats : List TdsSeat) (i lease : ℕ) (d : TdsSeat) (le : s.count ≤ length seats) (met : FirstMet (has_lease lease) (take s.count seats) i) where
  abbrev the_seat : TdsSeat
  the_seat = get_or seats i d

  abbrev the_table : Held
  the_table = record { service = s; seats = seats }

  abbrev table_with : TdsSeat → Held
  table_with y = record { service = s; seats = set seats i y }

  here : the_seat ≡ get_or seats i the_seat
  here = same_get seats i d the_seat (here_in (has_lease lease) s.count seats i le met).within

  turns : (y : TdsSeat) → Turned (has_lease lease) the_table (table_with y) the_seat y
  turns y = record { index = i; met = met; was = here; is = refl; service = refl }

  finds : Found (has_lease lease) the_table the_seat
  finds = record { index = i; met = met; at = here }

  pub has_asked : (kind : MessageKind) (y : TdsSeat) (kept : Buffer) → ActsOn line.Ask (line.Ask ∷ []) the_seat y [] → y.asked ≡ the_seat.asked + 1 → kind_at y.client.kind ≡ packets_are kind
      → y ≡ asked_seat kind the_seat
      → kept.after ≡ with_front (headers_by kind (header_descriptor (mark_of the_seat.client.mark) the_seat.client.descriptor)) kept.before
      → kept.count ≡ length (headers_by kind (header_descriptor (mark_of the_seat.client.mark) the_seat.client.descriptor))
      → HasAsked lease kind the_table (table_with y) kept (record { number = the_seat.number; request = y.asked })
  has_asked kind y kept acts more kinds is written counted =
      let l = line_of the_seat in
      let named = header_descriptor (mark_of the_seat.client.mark) the_seat.client.descriptor in
      let newest : suc the_seat.asked ≡ y.asked = (let e : suc the_seat.asked ≡ the_seat.asked + 1 = omega arith in e) ∙ sym more in
      record {
        descriptor = named;
        before = the_seat;
        after = y;
        turned = turns y;
        does = (le, acts_here s.last s.given s.count seats i (has_lease lease) the_seat y line.Ask (line.Ask ∷ []) [] le met here acts);
        names =
            answers_here s.last s.given s.count seats i (has_lease lease) the_seat line.Ask (line.Asked y.asked named) le met here
            (asks_answer l l.stage acts.may ∙ ap (λ (n : ℕ). line.Asked n named) newest) acts.may;
        written = written;
        counted = counted;
        kind_is = kinds;
        seat_is = is;
        client_is = ap (λ (c : TdsSeat). session_of c (headers_by kind named)) is ∙ opens_so kind the_seat;
      }

  pub ask_stops : (kind : MessageKind) (kept : Buffer) (stop : Stop) → AsksNot the_seat kind (header_descriptor (mark_of the_seat.client.mark) the_seat.client.descriptor) kept stop
      → AskStops lease (Some kind) the_table kept stop
  ask_stops kind kept stops.NoTable n = absurd n
  ask_stops kind kept stops.NoRoom n = (kind, header_descriptor (mark_of the_seat.client.mark) the_seat.client.descriptor, refl, n.0, n.1)
  ask_stops kind kept stops.OutOfRange n = absurd n
  ask_stops kind kept (stops.Refused refusal) n = (
    (
      le,
      refuses_here s.last s.given s.count seats i (has_lease lease) the_seat line.Ask (line.Ask ∷ []) refusal le met here n.0 (asks_never (line_of the_seat) (line_of the_seat).stage),
      λ e. (the_seat, finds, n.1 e),
    ),
    n.2,
  )

  pub has_put : (y : TdsSeat) (keep : Keep) (bytes : List ℕ) (taken : ℕ) (out : Buffer) (answer : Putting)
      → PutsOn the_seat y keep bytes taken out answer → HasPut lease the_table (table_with y) keep bytes taken out answer
  has_put y keep bytes taken out answer p = record {
    before = the_seat;
    after = y;
    turned = turns y;
    packet = p.packet;
    does = (le, acts_here s.last s.given s.count seats i (has_lease lease) the_seat y (line.Send false) (packets (put_number answer)) p.packet le met here p.acts);
    written = p.written;
    counted = p.counted;
    taken_are = p.taken_are;
    seat_is = p.seat_is;
    client_does = p.client_does;
  }

  pub put_stops : (keep : Keep) (out : Buffer) (stop : Stop) → PutsNot the_seat keep out stop → PutStops lease the_table keep out stop
  put_stops keep out stops.NoTable n = absurd n
  put_stops keep out stops.NoRoom n = (the_seat, finds, n.0, n.1)
  put_stops keep out stops.OutOfRange n = (the_seat, finds, n.0, n.1)
  put_stops keep out (stops.Refused refusal) n = (
    λ count. (
      le,
      refuses_here s.last s.given s.count seats i (has_lease lease) the_seat (line.Send false) (packets count) refusal le met here (n.0.0 false) (sends_never (line_of the_seat) false (line_of the_seat).stage),
      λ e. (the_seat, finds, n.0.1 e),
    ),
    n.1,
  )

  pub has_finished : (y : TdsSeat) (kept : List ℕ) (out : Buffer) → ActsOn (line.Send true) (line.Send true ∷ []) the_seat y (packet_of the_seat true kept)
      → Sends the_seat → y ≡ sent_seat true the_seat → line_of y ≡ (line_turn {T = Token} (line_of the_seat) (line.Send true)).line → IsPacketSize the_seat.client.size
      → length kept + 8 ≤ the_seat.client.size → out.after ≡ with_front (packet_of the_seat true kept) out.before → out.count ≡ 8 + length kept
      → HasFinished lease the_table (table_with y) kept out
  has_finished y kept out acts sending is moved range holds written counted = record {
    before = the_seat;
    after = y;
    turned = turns y;
    does = (le, acts_here s.last s.given s.count seats i (has_lease lease) the_seat y (line.Send true) (line.Send true ∷ []) (packet_of the_seat true kept) le met here acts);
    written = written;
    counted = counted;
    holds = holds;
    seat_is = is;
    client_does = ends_on the_seat y kept sending is moved range holds;
  }

  pub finish_stops : (kept : List ℕ) (out : Buffer) (stop : Stop) → FinishesNot the_seat kept out stop → FinishStops lease the_table kept out stop
  finish_stops kept out stops.NoTable n = absurd n
  finish_stops kept out stops.NoRoom n = (le, n.0, n.1)
  finish_stops kept out stops.OutOfRange n = (the_seat, finds, n.0, n.1)
  finish_stops kept out (stops.Refused refusal) n = (
    λ count. (
      le,
      refuses_here s.last s.given s.count seats i (has_lease lease) the_seat (line.Send true) (packets count ++ line.Send true ∷ []) refusal le met here (n.0.0 true) (sends_never (line_of the_seat) true (line_of the_seat).stage),
      λ e. (the_seat, finds, n.0.1 e),
    ),
    n.1,
  )

  pub has_cancelled : (y : TdsSeat) (how : Cancelled) (bytes copied written out : List ℕ) → (line_turn {T = Token} (line_of the_seat) line.Cancel).answer ≡ cancel_answer the_seat.asked how
      → line_of y ≡ (line_turn {T = Token} (line_of the_seat) line.Cancel).line → place_of y ≡ place_of the_seat → y.number ≡ the_seat.number
      → y ≡ cancelled_seat the_seat → AreBytes (line_turn {T = Token} (line_of the_seat) line.Cancel).sent written → written ≡ cancel_bytes the_seat → bytes ≡ written → copied ≡ bytes
      → HasCancelled lease the_table (table_with y) (record { before = out; after = copied ++ drop (length bytes) out; count = length bytes }) how
  has_cancelled y how bytes copied written out answers moved placed numbered seat_is sent bytes_are wrote same =
      let l = line_of the_seat in
      let behind = drop (length bytes) out in
      let may : refusal_in (line_turn {T = Token} l line.Cancel).answer ≡ None = ap refusal_in answers ∙ cancels_may the_seat.asked how in
      let acts : ActsOn line.Cancel (line.Cancel ∷ []) the_seat y bytes = record {
        becomes = record { number_is = numbered; place_is = placed; line_is = moved };
        may = may;
        sent = subst (λ (ps : List Packet). AreBytes ps bytes) (sym (append-nil (line_turn {T = Token} l line.Cancel).sent))
            (subst (λ (b : List ℕ). AreBytes (line_turn {T = Token} l line.Cancel).sent b) (sym wrote) sent);
      } in
      let is : take (length bytes) (copied ++ behind) ≡ bytes = ap (λ (front : List ℕ). take (length bytes) (front ++ behind)) same ∙ take-append_seam bytes behind in
      let long : length (copied ++ behind) ≡ length bytes + length behind = length-append copied behind ∙ ap (λ (front : List ℕ). length front + length behind) same in
      record {
        before = the_seat;
        after = y;
        turned = turns y;
        within = omega (arith, long);
        does =
            subst (λ (b : List ℕ). DoesIt (calls.Cancel lease) the_table (table_with y) Did the_seat.number b) (sym is)
            (le, acts_here s.last s.given s.count seats i (has_lease lease) the_seat y line.Cancel (line.Cancel ∷ []) bytes le met here acts);
        how_is = answers_here s.last s.given s.count seats i (has_lease lease) the_seat line.Cancel (cancel_answer the_seat.asked how) le met here answers may;
        seat_is = seat_is;
        client_does = λ (left : List ℕ). cancels_so the_seat y how (take (length bytes) (copied ++ behind)) left seat_is moved answers (is ∙ wrote ∙ bytes_are);
      }

  pub cancel_stops : (room count : ℕ) (stop : Stop) → stop ≡ stops.Refused refusals.Broken → (line_turn {T = Token} (line_of the_seat) line.Cancel).answer ≡ line.Refused clients.Broken
      → Stops (calls.Cancel lease) the_table room count stop
  cancel_stops room count stop is answers =
      let broken = subst (λ (a : Answer). IsRefusal (refusal_in a) clients.Broken) (sym answers) refl in
      subst (λ (x : Stop). Stops (calls.Cancel lease) the_table room count x) (sym is)
      (le, refuses_here s.last s.given s.count seats i (has_lease lease) the_seat line.Cancel (line.Cancel ∷ []) refusals.Broken le met here (clients.Broken, refl, broken) (cancels_never (line_of the_seat) (line_of the_seat).stage))
