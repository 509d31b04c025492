use Rattle.std.proofs.Common.{◌≡◌, ◌∙◌, ◌≤◌, ℕ, ◌+◌, ◌-◌, List, [], ◌++◌, length, take, drop, refl, sym, ap, arith}
use Rattle.std.proofs.lemmas.Bool.{ltb-false}
use Rattle.std.proofs.lemmas.List.{length-append, length-take, length-take-le}
use Rattle.tds_packet.specs.Resets.{header_descriptor}
use Rattle.tds_client.specs.Parts.{session_from}
use Rattle.tds_client.specs.Sending.{Effect, room}
use Rattle.tds_client.specs.Session.{ClientSession, Reading, with_stage}
use Rattle.tds_client.specs.Streams.{finished, finished_of, headers_of, packets_are}
use Rattle.tds_c.specs.Calls.{with_front}
use Rattle.tds_c.specs.Streams.{headers_by}
use Rattle.tds_c.proofs.WholeMessages.{asked_from, begun, done_is, done_of, fronted, how_long, lent, one_length, waiting}
use Rattle.tds_c.proofs.asking.ask_for.Goals as goal

pub returns-then-end-out : goal.returns-then-end-out
returns-then-end-out c =
    let s = session_from c.in-Some.parts [] in
    let message = headers_of s.heard c.args.kind ++ c.args.body.now in
    let no = sym c.is_longer.ensures.value ∙ c.if-is_longer.false in
    let fits : length message ≤ room s = ltb-false (room s) (length message) no in
    let own : c.before-2.result ≡ length (headers_of s.heard c.args.kind) = c.before-2.ensures.value (header_descriptor s.heard.mark s.heard.descriptor) in
    let counted : 8 + c.before-2.result + length c.args.body.now ≡ 8 + length message = omega (arith, own, length-append (headers_of s.heard c.args.kind) c.args.body.now) in
    rw (how_long c.args.client.now c.args.kind c.args.body.now s _ c.in-Some.ensures.some no)
    ((tt, _, _, asked_from _ c.args.kind c.args.body.now s _ c.in-Some.ensures.some c.in-Ok.ensures.accepted c.is_longer.ensures.some fits refl, one_length s c.args.kind message _ c.is_longer.ensures.some fits counted, c.if-end-out.true), (refl, refl))

pub put_message-requires : goal.put_message-requires
put_message-requires c =
    let own = c.before-2.ensures.value c.in-Ok.descriptor in
    record { room = omega (arith, own, c.if-end-out.false, length-append (headers_by c.args.kind c.in-Ok.descriptor) c.args.body.now) }

pub finish-requires-clause-room : goal.finish-requires-clause-room
finish-requires-clause-room c =
    let s = session_from c.in-Some.parts [] in
    let message = headers_of s.heard c.args.kind ++ c.args.body.now in
    let fits : length message ≤ room s = ltb-false (room s) (length message) (sym c.is_longer.ensures.value ∙ c.if-is_longer.false) in
    let own : c.before-2.result ≡ length (headers_of s.heard c.args.kind) = c.before-2.ensures.value (header_descriptor s.heard.mark s.heard.descriptor) in
    let size : c.start_message.new.self.size ≡ s.size = ap (λ (x : ClientSession). x.size) c.in-Ok.ensures.ok in
    let lent = length-take (8 + c.before-2.result + length c.args.body.now - 8) (drop 8 c.put_message.new.out) in
    omega (arith, lent, size, fits, own, length-append (headers_of s.heard c.args.kind) c.args.body.now)

pub returns : goal.returns
returns c =
    let s = session_from c.in-Some.parts [] in
    let out = c.args.out.now in
    let message = headers_of s.heard c.args.kind ++ c.args.body.now in
    let no = sym c.is_longer.ensures.value ∙ c.if-is_longer.false in
    let fits : length message ≤ room s = ltb-false (room s) (length message) no in
    let own : c.before-2.result ≡ length (headers_of s.heard c.args.kind) = c.before-2.ensures.value (header_descriptor s.heard.mark s.heard.descriptor) in
    let end : ℕ = 8 + c.before-2.result + length c.args.body.now in
    let counted : end ≡ 8 + length message = omega (arith, own, length-append (headers_of s.heard c.args.kind) c.args.body.now) in
    let eight : length (take 8 out) ≡ 8 = length-take-le 8 out (omega (arith, c.if-end-out.false)) in
    let written : c.put_message.new.out ≡ with_front (take 8 out ++ message) out =
    c.put_message.ensures ∙ ap (λ (d : ℕ). with_front (take 8 out ++ (headers_by c.args.kind d ++ c.args.body.now)) out) c.in-Ok.ensures.descriptor in
    let kept : take (end - 8) (drop 8 c.put_message.new.out) ≡ message = lent (take 8 out) message out c.put_message.new.out end eight (sym counted) written in
    let ends = ap finished (sym (begun c.start_message.new.self s c.args.kind _ message c.in-Ok.ensures.ok)) ∙ sym (ap (λ (left : List ℕ). finished (session_from c.start_message.new.self left)) kept) ∙ c.in-Ok-finish.ensures.ok in
    let packet = c.in-Ok-finish.header ++ take (end - 8) (drop 8 c.put_message.new.out) in
    let after : c.put_at.new.out ≡ with_front packet out =
    c.put_at.ensures [] c.put_message.new.out refl refl ∙ fronted (take 8 out) c.in-Ok-finish.header message out c.put_message.new.out eight c.in-Ok-finish.ensures.header written
    ∙ ap (λ (xs : List ℕ). with_front (c.in-Ok-finish.header ++ xs) out) (sym kept) in
    let count : end ≡ length packet = omega (arith, counted, c.in-Ok-finish.ensures.header, ap length kept, length-append c.in-Ok-finish.header (take (end - 8) (drop 8 c.put_message.new.out))) in
    let reads : with_stage s Reading ≡ session_from c.finish.new.self [] =
    ap (λ (x : Effect (Unit {0})). x.session) (done_is (finished_of (waiting s c.args.kind message) (packets_are c.args.kind) message 0) _ ends) in
    rw (how_long c.args.client.now c.args.kind c.args.body.now s _ c.in-Some.ensures.some no)
    (with_stage s Reading, packet, asked_from _ c.args.kind c.args.body.now s (record { answer = tt; session = with_stage s Reading; bytes = packet }) c.in-Some.ensures.some c.in-Ok.ensures.accepted c.is_longer.ensures.some fits (ends ∙ ap (λ (x : ClientSession). done_of x packet) (sym reads)), c.await_answer.ensures s c.in-Some.ensures.some, after, count)
