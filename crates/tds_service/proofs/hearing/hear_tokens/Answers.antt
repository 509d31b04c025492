use Rattle.std.proofs.Common.{◌≡◌, ◌∙◌, ◌≤◌, ◌<◌, ◌-◌, ◌++◌, List, [], length, take, drop, refl, ap, subst, arith, rules}
use Rattle.tds_wire.specs.declared.told.Token.{Token}
use Rattle.tds_wire.specs.Reading.{next_token}
use Rattle.tds_service.specs.declared.connection.Connection.{Connection}
use Rattle.tds_service.specs.Line as line
use Rattle.tds_service.specs.Line.{Line}
use Rattle.tds_service.specs.Parts.{items_told}
use Rattle.tds_service.specs.Ties.{Hears, Stands, line_in, items_of, part_of}
use Rattle.tds_service.proofs.Packeting.{one_more_at, fault_at, within_at, moves_at}
use Rattle.tds_service.proofs.Noting.{noted_fits, noted_still_fits, noted_more}
use Rattle.tds_service.proofs.hearing.hear_tokens.Goals as goal

-- ---- A token that stands whole

pub note-requires : goal.note-requires
note-requires c =
    let s = c.tokens.invariant.some in
    let some : 0 < c.in-Ok.count = search rules in
    noted_fits s.0 (line_in c.args.connection.now) (line_in c.tokens.connection) (line_in c.hear_whole.new.self) c.args.connection.now.parser c.tokens.connection.parser c.args.bytes.now [] s.1
    c.tokens.done c.tokens-test.true s.2 c.args.tells c.hear_whole.new.token (items_told (items_of c.hear_whole.new.token)) _ _ (c.in-Ok.ensures.ok some) refl c.tokens.told.ok.1 c.tokens.invariant.room

pub tokens-preserved-then-whole-gt0 : goal.tokens-preserved-then-whole-gt0
tokens-preserved-then-whole-gt0 c =
    let l = line_in c.args.connection.now in
    let r = c.args.connection.now.parser in
    let bytes = c.args.bytes.now in
    let k = line_in c.tokens.connection in
    let reading = c.tokens.connection.parser in
    let new = line_in c.hear_whole.new.self in
    let done = c.tokens.done in
    let count = c.in-Ok.count in
    let some : 0 < count = search rules in
    let found = items_told (items_of c.hear_whole.new.token) in
    let s = c.tokens.invariant.some in
    let more = c.tokens-test.true in
    let one = one_more_at s.0 l k new r reading bytes [] s.1 done more s.2 c.hear_whole.new.self.parser count found (c.in-Ok.ensures.ok some) (c.in-Ok.ensures.stands some) in
    let within = within_at s.0 l k new r reading bytes [] s.1 done more s.2 count c.in-Ok.ensures.within in
    record {
      some = (s.0, s.1 ++ found, one, c.note.ensures.items ∙ noted_more c.args.tells c.args.told.now.items c.tokens.told.items found s.1 s.3);
      within = within;
      room = λ t e.
          let fit = c.tokens.invariant.room t e in
          let some_less : count ≤ length bytes - done = omega (arith, within) in
          let still = noted_still_fits c.args.tells c.hear_whole.new.token _ _ (length bytes - done) count fit some some_less in
          let len = c.note.ensures.len in
          let cap = c.note.ensures.capacity in
          omega (arith, still, len, cap, within);
      size = c.hear_whole.ensures.size ∙ c.tokens.invariant.size;
    }

pub returns-in-Err-clause-fault : goal.returns-in-Err-clause-fault
returns-in-Err-clause-fault c = λ ends.
    let s = c.tokens.invariant.some in
    fault_at s.0 (line_in c.args.connection.now) (line_in c.tokens.connection) (line_in c.hear_whole.new.self) c.args.connection.now.parser c.tokens.connection.parser c.args.bytes.now [] s.1
    c.tokens.done c.tokens-test.true s.2 _ ends c.in-Err.ensures.fault

-- ---- Anything else, where nothing was done before

pub note-requires-in-Ok-hear_some : goal.note-requires-in-Ok-hear_some
note-requires-in-Ok-hear_some c =
    let s = c.tokens.invariant.some in
    let none : c.in-Ok.count ≡ 0 = search rules in
    let same : c.hear_whole.new.self ≡ c.tokens.connection = c.in-Ok.ensures.same none in
    let piece = take (length c.args.bytes.now - c.tokens.done) (drop c.tokens.done c.args.bytes.now) in
    let new = line_in c.hear_some.new.self in
    let found = c.in-Ok-hear_some.ensures.ok.0 in
    let heard = subst (λ (x : Connection). Hears (part_of (next_token x.parser piece)) (line_in x) new line.More found) same c.in-Ok-hear_some.ensures.ok.1 in
    noted_fits s.0 (line_in c.args.connection.now) (line_in c.tokens.connection) new c.args.connection.now.parser c.tokens.connection.parser c.args.bytes.now [] s.1
    c.tokens.done c.tokens-test.true s.2 c.args.tells c.hear_some.new.token found _ _ heard c.in-Ok-hear_some.ensures.ok.2 c.tokens.told.ok.1 c.tokens.invariant.room

pub tokens-preserved : goal.tokens-preserved
tokens-preserved c =
    let l = line_in c.args.connection.now in
    let r = c.args.connection.now.parser in
    let bytes = c.args.bytes.now in
    let k = line_in c.tokens.connection in
    let reading = c.tokens.connection.parser in
    let new = line_in c.hear_some.new.self in
    let done = c.tokens.done in
    let count = c.in-Ok-hear_some.count in
    let found = c.in-Ok-hear_some.ensures.ok.0 in
    let s = c.tokens.invariant.some in
    let more = c.tokens-test.true in
    let none : c.in-Ok.count ≡ 0 = search rules in
    let same : c.hear_whole.new.self ≡ c.tokens.connection = c.in-Ok.ensures.same none in
    let piece = take (length bytes - done) (drop done bytes) in
    let heard = subst (λ (x : Connection). Hears (part_of (next_token x.parser piece)) (line_in x) new line.More found) same c.in-Ok-hear_some.ensures.ok.1 in
    let stood = subst (λ (x : Connection). Stands (next_token x.parser piece) c.hear_some.new.self.parser (drop count piece)) same c.in-Ok-hear_some.ensures.stands in
    let one = one_more_at s.0 l k new r reading bytes [] s.1 done more s.2 c.hear_some.new.self.parser count found heard stood in
    let within = within_at s.0 l k new r reading bytes [] s.1 done more s.2 count c.in-Ok-hear_some.ensures.within in
    let moved = moves_at s.0 l k new r reading bytes [] s.1 done more s.2 count c.in-Ok-hear_some.ensures.moves in
    record {
      some = (s.0, s.1 ++ found, one, c.note-in-Ok-hear_some.ensures.items ∙ (ap (λ (ts : List Token). c.tokens.told.items ++ ts) c.in-Ok-hear_some.ensures.ok.2 ∙ noted_more c.args.tells c.args.told.now.items c.tokens.told.items found s.1 s.3));
      within = within;
      room = λ t e.
          let fit = c.tokens.invariant.room t e in
          let some_less : count ≤ length bytes - done = omega (arith, within) in
          let still = noted_still_fits c.args.tells c.hear_some.new.token _ _ (length bytes - done) count fit moved some_less in
          let len = c.note-in-Ok-hear_some.ensures.len in
          let cap = c.note-in-Ok-hear_some.ensures.capacity in
          omega (arith, still, len, cap, within);
      size = c.hear_some.ensures.size ∙ (c.hear_whole.ensures.size ∙ c.tokens.invariant.size);
    }

pub returns-in-Err-hear_some-clause-fault : goal.returns-in-Err-hear_some-clause-fault
returns-in-Err-hear_some-clause-fault c = λ ends.
    let s = c.tokens.invariant.some in
    let none : c.in-Ok.count ≡ 0 = search rules in
    let same : c.hear_whole.new.self ≡ c.tokens.connection = c.in-Ok.ensures.same none in
    let piece = take (length c.args.bytes.now - c.tokens.done) (drop c.tokens.done c.args.bytes.now) in
    let new = line_in c.hear_some.new.self in
    let heard = subst (λ (x : Connection). Hears (part_of (next_token x.parser piece)) (line_in x) new (line.Fault c.in-Err-hear_some.fault) []) same c.in-Err-hear_some.ensures.fault in
    fault_at s.0 (line_in c.args.connection.now) (line_in c.tokens.connection) new c.args.connection.now.parser c.tokens.connection.parser c.args.bytes.now [] s.1
    c.tokens.done c.tokens-test.true s.2 c.in-Err-hear_some.fault ends heard
