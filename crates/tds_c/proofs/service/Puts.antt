-- Bytes that are put on a seat: all of them wait, or a packet is full.
use Rattle.std.proofs.Common.{◌≡◌, ◌∙◌, ◌≤◌, ◌<◌, ◌+◌, ◌-◌, ℕ, suc, true, false, List, [], ◌++◌, length, take, drop, refl, sym, ap, subst, arith}
use Rattle.std.proofs.Math.Seq.{take-append_seam}
use Rattle.std.proofs.lemmas.List.{length-append, length-drop, length-take-le}
use Rattle.tds_packet.specs.Size.{IsPacketSize}
use Rattle.tds_wire.specs.declared.told.Token.{Token}
use Rattle.tds_service.specs.Line as line
use Rattle.tds_service.specs.Line.{Line, line_turn}
use Rattle.tds_c.specs.declared.service.plain.TdsSeat.{TdsSeat}
use Rattle.tds_c.specs.declared.service.sending.Putting.TheVariants.{All, Packet}
use Rattle.tds_c.specs.service.Asking.{packet_of, with_front}
use Rattle.tds_c.specs.service.Clients.{sent_seat, session_of}
use Rattle.tds_c.specs.service.OnSeat.{PutsOn}
use Rattle.tds_c.specs.service.Plain.{line_of, place_of}
use Rattle.tds_c.proofs.service.Acting.{sends_none, sends_one}
use Rattle.tds_c.proofs.service.Clients.{Sends, done, puts_all, puts_one}

-- what stands at the front of a buffer is taken from there
front_of : (x buffer : List ℕ) (n : ℕ) → n ≡ length x → take n (with_front x buffer) ≡ x
front_of x buffer n e = ap (λ (k : ℕ). take k (with_front x buffer)) e ∙ take-append_seam x (drop (length x) buffer)

pub all_wait : (c : TdsSeat) (kept after out bytes : List ℕ) (waiting count : ℕ) → Sends c → IsPacketSize c.client.size → waiting ≤ length kept → waiting + length bytes + 8 ≤ c.client.size
    → after ≡ with_front (take waiting kept ++ bytes) kept → count ≡ 0
    → PutsOn c c (record { before = kept; after = after; waiting = waiting; waits = waiting + length bytes }) bytes (length bytes) (record { before = out; after = out; count = count }) All
all_wait c kept after out bytes waiting count at range within fits is none =
    let left = take waiting kept in
    let long = length-take-le waiting kept within in
    let waits : waiting + length bytes ≡ length (left ++ bytes) = omega (arith, length-append left bytes, long) in
    let front : take (waiting + length bytes) after ≡ left ++ bytes = ap (take (waiting + length bytes)) is ∙ front_of (left ++ bytes) kept (waiting + length bytes) waits in
    record {
      packet = [];
      acts = sends_none c at;
      written = refl;
      counted = none;
      taken_are = (refl, refl, is, refl, fits);
      seat_is = refl;
      client_does = puts_all c left bytes at range (omega (arith, long, fits)) ∙ ap (λ (x : List ℕ). done (session_of c x) []) (sym front);
    }

sends_on : (c y : TdsSeat) → Sends c → line_of y ≡ (line_turn {T = Token} (line_of c) (line.Send false)).line → Sends y
sends_on c y at moved =
    (true, ap (λ (l : Line). l.stage) moved ∙ ap (λ (s : line.LineStage). (line.sends {T = Token} (line_of c) false s).line.stage) at.1)

header_and : (n : ℕ) → 8 + n ≡ suc (suc (suc (suc (suc (suc (suc (suc n)))))))
header_and n = omega arith

pub one_goes : (c y : TdsSeat) (kept after out written bytes : List ℕ) (waiting end count : ℕ) → Sends c → IsPacketSize c.client.size → waiting ≤ length kept → waiting + end + 8 ≡ c.client.size → end < length bytes
    → line_of y ≡ (line_turn {T = Token} (line_of c) (line.Send false)).line → place_of y ≡ place_of c → y.number ≡ c.number → y ≡ sent_seat false c
    → after ≡ with_front (take 1 (drop end bytes)) kept → written ≡ with_front (packet_of c false (take waiting kept ++ take end bytes)) out → count ≡ c.client.size
    → PutsOn c y (record { before = kept; after = after; waiting = waiting; waits = 1 }) bytes (end + 1) (record { before = out; after = written; count = count }) Packet
one_goes c y kept after out written bytes waiting end count at range within full over moved placed numbered is waits wrote counts =
    let left = take waiting kept in
    let x = left ++ take end bytes in
    let next = take 1 (drop end bytes) in
    let long = length-take-le waiting kept within in
    let one : 1 ≡ length next = sym (length-take-le 1 (drop end bytes) (omega (arith, length-drop end bytes, over))) in
    let counted : count ≡ 8 + length x = omega (arith, length-append left (take end bytes), long, length-take-le end bytes (omega (arith, over)), full, counts) in
    let front : take 1 after ≡ next = ap (take 1) waits ∙ front_of next kept 1 one in
    record {
      packet = packet_of c false x;
      acts = sends_one c y false x at moved placed numbered;
      written = wrote;
      counted = counted ∙ header_and (length x);
      taken_are = (end, refl, over, full, refl, waits, refl);
      seat_is = is;
      client_does =
          puts_one c left bytes end at (subst Sends is (sends_on c y at moved)) range (omega (arith, long, full)) over
          ∙ ap (λ (s : TdsSeat). done (session_of s next) (packet_of c false x)) (sym is)
          ∙ ap (λ (b : List ℕ). done (session_of y b) (packet_of c false x)) (sym front);
    }
