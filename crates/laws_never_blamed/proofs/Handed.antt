-- A batch and its answer, as bytes that are handed to a judge and as calls, worked out: there are such, and their answer is none of a fault.
use Rattle.std.proofs.Common.{◌≡◌, ℕ, zero, suc, ◌<◌, true, false, List, [], ◌∷◌, ◌++◌, refl, arith}
use Rattle.std.specs.Prelude.{None}
use Rattle.tds_packet.specs.declared.header.Header.{Header}
use Rattle.tds_packet.specs.declared.kind.Kind.TheVariants as kinds
use Rattle.tds_packet.specs.Layout.{is_status, status_of}
use Rattle.tds_packet.specs.Stream.{AreBytes}
use Rattle.tds_client.specs.declared.message.MessageKind.TheVariants.{Batch}
use Rattle.tds_client.specs.Packets.{packet_bytes}
use Rattle.tds_client.specs.Session as session
use Rattle.tds_client.specs.Session.{ClientSession, Sending, new_session, with_stage}
use Rattle.tds_client.specs.Streams.{opened}
use Rattle.tds_request.specs.Layout.{all_headers}
use Rattle.tds_wire.specs.declared.told.Token.{Token}
use Rattle.tds_wire.specs.Reading.{Parser, next_token, restarted}
use Rattle.tds_client.specs.Hearing.{place_done}
use Rattle.tds_listen.specs.Hearing.{Fails, Stands, Stop, tokens_in, tokens_within}
use Rattle.tds_listen.specs.Signs.{done_kind}
use Rattle.tds_wire.specs.Bytes.{onward, walk_step, to_end}
use Rattle.tds_wire.specs.Told.{short_at, told_of}
use Rattle.tds_wire.specs.Walking.{begun}
use Rattle.tds_service.specs.Packets.{packet_part}
use Rattle.tds_service.specs.Line as line
use Rattle.tds_service.specs.Line.{Act, OfRequest, new_line, line_turn}
use Rattle.tds_service.specs.History.{Done, history}
use Rattle.laws_conforming_server.specs.Answering.{NoFault}
use Rattle.laws_never_blamed.specs.Called.{AreCalled, Called, Come, End, Finish, IsDone, IsTyped, Open, Put, acts_of, new_end}
use Rattle.laws_never_blamed.specs.Spelled.{AreOut, IsHanded, IsIn, IsOut, Pen, Shown, Wire, new_wire}

-- a DONE with nothing in it, and its packet
abbrev content : List ℕ
content = 0xFD ∷ 0 ∷ 0 ∷ 0 ∷ 0 ∷ 0 ∷ 0 ∷ 0 ∷ 0 ∷ 0 ∷ 0 ∷ 0 ∷ 0 ∷ []

abbrev answer : List ℕ
answer = 4 ∷ 1 ∷ 0 ∷ 21 ∷ 0 ∷ 0 ∷ 1 ∷ 0 ∷ content

-- a batch of one letter
abbrev body : List ℕ
body = 0x53 ∷ 0 ∷ []

abbrev batch : List ℕ
batch = packet_bytes kinds.Batch 1 0 (all_headers 0 ++ body)

abbrev acts : Parser → List (Act Token)
acts r = line.Ask ∷ line.Send true ∷ line.Come (packet_part (restarted r) content true) ∷ []

abbrev with_bytes : List (Done Token) → List (List ℕ) → List Shown
with_bytes [] bytes = []
with_bytes (d ∷ ds) [] = (record { done = d; time = 0; bytes = [] }) ∷ with_bytes ds []
with_bytes (d ∷ ds) (bytes ∷ others) = (record { done = d; time = 0; bytes = bytes }) ∷ with_bytes ds others

abbrev shown : Parser → List Shown
shown r = with_bytes (history new_line (acts r)) ([] ∷ batch ∷ answer ∷ [])

none_ranged : AreBytes []
none_ranged zero = omega arith
none_ranged (suc i) = omega arith

abbrev Small : List ℕ → Type 0
Small [] = Unit {0}
Small (b ∷ bytes) = (b < 256) × Small bytes

ranged : (bytes : List ℕ) → Small bytes → AreBytes bytes
ranged [] small i = none_ranged i
ranged (b ∷ bytes) small zero = small.0
ranged (b ∷ bytes) small (suc i) = ranged bytes small.1 i

answer_small : Small answer
answer_small = (omega arith, (omega arith, (omega arith, (omega arith, (omega arith, (omega arith, (omega arith, (omega arith, (omega arith, (omega arith, (omega arith, (omega arith, (omega arith, (omega arith, (omega arith, (omega arith, (omega arith, (omega arith, (omega arith, (omega arith, (omega arith, tt)))))))))))))))))))))

abbrev reading_by : Stop → Parser → Parser
reading_by (Stands u) r = u
reading_by (Fails refusal) r = r

abbrev behind : Parser → Parser
behind r = reading_by (tokens_in (restarted r) content).stop r

abbrev header : Header
header = record { kind = kinds.Answer; status = status_of 1; length = 21; spid = 0; packet_id = 1; window = 0 }

answers : (r : Parser) → (line_turn {T = Token} (record { asked = 1; stage = line.Reading; heard = new_line.heard }) (line.Come (packet_part (restarted r) content true))).answer ≡ line.Finished 1
unfolding tokens_within next_token onward to_end walk_step begun told_of place_done done_kind short_at
answers r = refl

well : (r : Parser) → NoFault (history new_line (acts r))
unfolding tokens_within next_token onward to_end walk_step begun told_of place_done done_kind short_at
well r = (tt, (tt, (tt, tt)))

stands : (r : Parser) → (tokens_in (restarted r) content).stop ≡ Stands (behind r)
unfolding tokens_within next_token onward to_end walk_step begun
stands r = refl

abbrev sent : Parser → Wire
sent r = record { pen = record { kind = Batch; packets = 1 }; reading = restarted r; is_first = true }

abbrev heard : Parser → Wire
heard r = record { pen = record { kind = Batch; packets = 1 }; reading = restarted (behind r); is_first = false }

sends : AreOut 0 (record { kind = Batch; packets = 0 }) (OfRequest 1 true None true ∷ []) batch (record { kind = Batch; packets = 1 })
sends = (batch, [], record { kind = Batch; packets = 1 }, refl, (Batch, body, omega arith, omega arith, refl, refl), (refl, refl))

comes : (r : Parser) → IsIn (restarted r) true (packet_part (restarted r) content true) (line.Finished 1) answer (restarted (behind r))
unfolding is_status
comes r = record {
  header = header;
  content = content;
  size = 4096;
  are_bytes = ranged answer answer_small;
  packet = record { laid_out = record { spelled = refl; counted = refl; fits = omega arith; directed = refl; status = refl; ends = λ e. refl }; is_read = refl };
  part_is = refl;
  numbered = λ e. omega arith;
  reads = λ so. (behind r, stands r, refl);
}

handed : (r : Parser) → IsHanded r (history new_line (acts r)) (shown r)
unfolding tokens_within next_token onward to_end walk_step begun told_of place_done done_kind short_at
handed r = record {
  done = refl;
  spelled = (new_wire r, ((refl, refl), refl, refl), (sent r, (sends, refl, refl), (heard r, (comes r, refl, refl), tt)));
}

-- ---- The same by calls: it is begun, put and finished, and its answer comes

abbrev end : ClientSession → Parser → End
end client r = record { asked = 1; client = client; reading = restarted r; is_first = true }

abbrev idle : ClientSession
idle = new_session 4096

abbrev begun_end : Parser → End
begun_end r = end (opened idle Batch) r

abbrev put_end : Parser → End
put_end r = end (with_stage idle (Sending kinds.Batch (all_headers 0 ++ body) 0)) r

abbrev finished_end : Parser → End
finished_end r = end (with_stage idle session.Reading) r

abbrev answered_end : Parser → End
answered_end r = record { asked = 1; client = idle; reading = restarted (behind r); is_first = false }

abbrev calls : Parser → List Called
calls r =
    (record { call = Open Batch; time = 0; bytes = []; behind = begun_end r }) ∷ (record { call = Put body; time = 0; bytes = []; behind = put_end r })
    ∷ (record { call = Finish; time = 0; bytes = batch; behind = finished_end r })
    ∷ (record { call = Come (packet_part (restarted r) content true); time = 0; bytes = answer; behind = answered_end r }) ∷ []

typed : (stage : session.Stage) → IsTyped (with_stage idle stage)
typed stage = record { size = (omega arith, omega arith); descriptor = omega arith }

called : (r : Parser) → AreCalled (new_end 4096 r) (calls r)
unfolding tokens_within next_token onward to_end walk_step begun told_of place_done done_kind short_at
called r =
    let answered : IsDone (finished_end r) (Come (packet_part (restarted r) content true)) answer (answered_end r) = (comes r, record { line_is = refl; size = refl; later = refl }) in (
      (refl, refl, refl),
      typed (opened idle Batch).stage,
      (([], ([], refl, refl), refl), typed (put_end r).client.stage, (([], (batch, refl, refl), refl), typed session.Reading, (answered, typed session.Idle, tt))),
    )

same_acts : (r : Parser) → acts_of (new_end 4096 r) (calls r) ≡ acts r
same_acts r = refl

-- A batch doesn't go on with a packet of another type.
another_type : (behind : Pen) → IsOut 0 (record { kind = Batch; packets = 1 }) (OfRequest 1 false None true) (packet_bytes kinds.Procedure 1 1 []) behind → ⊥
another_type behind (content, few, is, pen_is) = absurd cc
