use Rattle.std.proofs.Common.{◌≡◌, ◌≤◌, ◌<◌, ◌+◌, ◌-◌, ℕ, length, take, refl, subst, rules, arith}
use Rattle.std.specs.Prelude.{◌⊎◌}
use Rattle.tds_client.specs.declared.client.filling.Fill.TheVariants.{Kept, Packet}
use Rattle.tds_client.specs.Parts.{session_from}
use Rattle.tds_c.proofs.Keeping.{fills_one, full_room, kept_fits, keeps_all, waiting_held}
use Rattle.tds_c.proofs.streams.put.Goals as goal

pub returns-then-not-has_room : goal.returns-then-not-has_room
returns-then-not-has_room c =
    let kept = c.args.kept.now in
    let waiting = c.args.waiting.now in
    let size : c.from-size.result ≡ c.in-Some.parts.size = search rules in
    let none : (length c.args.out.now < c.from-size.result) ⊎ (length kept + 8 < c.from-size.result) = search rules in (
      (session_from c.in-Some.parts (take waiting kept), waiting_held c.args.client.now (record { before = kept; after = kept; waiting = waiting; waits = waiting }) _ c.if-before-kept.false c.in-Some.ensures.some, size, subst (λ (n : ℕ). (length c.args.out.now < n) ⊎ (length kept + 8 < n)) size none),
      record { client = refl; kept = refl; waits_are = refl; written = refl; taken_are = refl },
    )

pub keep-requires : goal.keep-requires
keep-requires c =
    let kept = c.args.kept.now in
    let size : c.from-size.result ≡ c.in-Some.parts.size = search rules in
    let room : c.from-size.result ≤ length kept + 8 = search rules in
    let filled : c.in-Ok.filled ≡ Kept = search rules in
    record { room = kept_fits (session_from c.in-Some.parts (take c.args.waiting.now kept)) c.in-Ok.filled c.put.new.self c.args.waiting.now kept c.args.bytes.now filled c.if-before-kept.false c.in-Ok.ensures.ok c.in-Ok.ensures.room (omega (arith, size, room)) }

pub write_full-requires-clause-waiting : goal.write_full-requires-clause-waiting
write_full-requires-clause-waiting c =
    let size : c.from-size.result ≡ c.in-Some.parts.size = search rules in
    let range : 512 ≤ c.in-Some.parts.size = search rules in
    let room : c.from-size.result ≤ length c.args.kept.now + 8 = search rules in
    (omega (arith, size, range, room), c.if-before-kept.false)

pub write_full-requires-clause-room : goal.write_full-requires-clause-room
write_full-requires-clause-room c =
    let size : c.from-size.result ≡ c.in-Some.parts.size = search rules in
    let range : 512 ≤ c.in-Some.parts.size = search rules in
    let room : c.from-size.result ≤ length c.args.out.now = search rules in
    let filled : c.in-Ok.filled ≡ Packet c.in-Packet.header c.in-Packet.end = search rules in
    let full = full_room (c.in-Some.parts.size - 8) c.args.waiting.now c.in-Packet.end c.in-Ok.filled c.in-Packet.header c.args.kept.now filled c.if-before-kept.false c.in-Ok.ensures.full in
    omega (arith, size, range, room, full.1)

pub returns-in-Kept : goal.returns-in-Kept
returns-in-Kept c =
    let kept = c.args.kept.now in
    let filled : c.in-Ok.filled ≡ Kept = search rules in
    rw c.of.ensures (keeps_all c.args.client.now (session_from c.in-Some.parts (take c.args.waiting.now kept)) c.in-Ok.filled c.put.new.self kept c.keep.new.kept c.args.bytes.now c.args.out.now c.args.waiting.now filled c.if-before-kept.false c.in-Some.ensures.some c.in-Ok.ensures.ok c.keep.ensures)

pub returns-in-Packet : goal.returns-in-Packet
returns-in-Packet c =
    let kept = c.args.kept.now in
    let size : c.from-size.result ≡ c.in-Some.parts.size = search rules in
    let range : 512 ≤ c.in-Some.parts.size = search rules in
    let filled : c.in-Ok.filled ≡ Packet c.in-Packet.header c.in-Packet.end = search rules in
    let over : c.in-Packet.end < length c.args.bytes.now = search rules in
    let full = full_room (c.in-Some.parts.size - 8) c.args.waiting.now c.in-Packet.end c.in-Ok.filled c.in-Packet.header kept filled c.if-before-kept.false c.in-Ok.ensures.full in
    rw (c.of.ensures, size) (fills_one c.args.client.now (session_from c.in-Some.parts (take c.args.waiting.now kept)) c.in-Ok.filled c.put.new.self kept c.write_full.new.kept c.args.bytes.now c.args.out.now c.write_full.new.out c.in-Packet.header c.args.waiting.now c.in-Packet.end filled c.if-before-kept.false c.in-Some.ensures.some c.in-Ok.ensures.ok over full.0 (omega (arith, range, full.1)) c.write_full.ensures.kept c.write_full.ensures.written)
