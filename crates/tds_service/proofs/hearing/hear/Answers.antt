use Rattle.std.proofs.Common.{◌≡◌, ◌∙◌, ◌++◌, Bool, true, false, List, [], sym, ap, subst, rules}
use Rattle.tds_wire.specs.declared.told.Token.{Token}
use Rattle.tds_service.specs.declared.connection.Connection.{Connection}
use Rattle.tds_service.specs.Packets.{HeardSome, behind_packet, noted}
use Rattle.tds_service.specs.Ties.{line_in}
use Rattle.tds_service.proofs.Packeting.{whole_goes, whole_ends, fault_ends, stop_is}
use Rattle.tds_service.proofs.hearing.hear.Goals as goal

pub returns-then-not-ends-clause-ok : goal.returns-then-not-ends-clause-ok
returns-then-not-ends-clause-ok c =
    let l = line_in c.args.connection.now in
    let r = c.args.connection.now.parser in
    let k = line_in c.hear_tokens.new.connection in
    let reading = c.hear_tokens.new.connection.parser in
    let s = c.in_default-hear_tokens.ensures.ok in
    let some = subst (λ (x : Connection). HeardSome s.0 (line_in x) x.parser c.args.bytes.now k reading [] [] s.1) c.in_default.ensures.ok s.2 in
    let e : c.args.ends ≡ false = search rules in
    let w = whole_goes s.0 l k r reading c.args.bytes.now [] s.1 c.args.ends e some in
    w.hears

pub returns-then-not-ends-clause-told : goal.returns-then-not-ends-clause-told
returns-then-not-ends-clause-told c =
    let l = line_in c.args.connection.now in
    let r = c.args.connection.now.parser in
    let k = line_in c.hear_tokens.new.connection in
    let reading = c.hear_tokens.new.connection.parser in
    let s = c.in_default-hear_tokens.ensures.ok in
    let some = subst (λ (x : Connection). HeardSome s.0 (line_in x) x.parser c.args.bytes.now k reading [] [] s.1) c.in_default.ensures.ok s.2 in
    let e : c.args.ends ≡ false = search rules in
    let w = whole_goes s.0 l k r reading c.args.bytes.now [] s.1 c.args.ends e some in
    s.3 ∙ ap (λ (ts : List Token). c.args.told.now.items ++ noted c.args.tells ts) w.told

pub returns-then-not-ends-clause-stands : goal.returns-then-not-ends-clause-stands
returns-then-not-ends-clause-stands c =
    let l = line_in c.args.connection.now in
    let r = c.args.connection.now.parser in
    let k = line_in c.hear_tokens.new.connection in
    let reading = c.hear_tokens.new.connection.parser in
    let s = c.in_default-hear_tokens.ensures.ok in
    let some = subst (λ (x : Connection). HeardSome s.0 (line_in x) x.parser c.args.bytes.now k reading [] [] s.1) c.in_default.ensures.ok s.2 in
    let e : c.args.ends ≡ false = search rules in
    (reading, stop_is s.0 l k r reading c.args.bytes.now [] s.1 some, ap (λ (b : Bool). behind_packet b reading) (sym e))

pub returns-in-Ok-clause-ok : goal.returns-in-Ok-clause-ok
returns-in-Ok-clause-ok c =
    let l = line_in c.args.connection.now in
    let r = c.args.connection.now.parser in
    let k = line_in c.hear_tokens.new.connection in
    let reading = c.hear_tokens.new.connection.parser in
    let s = c.in_default-hear_tokens.ensures.ok in
    let some = subst (λ (x : Connection). HeardSome s.0 (line_in x) x.parser c.args.bytes.now k reading [] [] s.1) c.in_default.ensures.ok s.2 in
    let e : c.args.ends ≡ true = search rules in
    let w = whole_ends s.0 l k (line_in c.ended.new.self) r reading c.args.bytes.now [] s.1 c.args.ends c.in-Ok.taken e some c.in-Ok.ensures.ok in
    w.hears

pub returns-in-Ok-clause-told : goal.returns-in-Ok-clause-told
returns-in-Ok-clause-told c =
    let l = line_in c.args.connection.now in
    let r = c.args.connection.now.parser in
    let k = line_in c.hear_tokens.new.connection in
    let reading = c.hear_tokens.new.connection.parser in
    let s = c.in_default-hear_tokens.ensures.ok in
    let some = subst (λ (x : Connection). HeardSome s.0 (line_in x) x.parser c.args.bytes.now k reading [] [] s.1) c.in_default.ensures.ok s.2 in
    let e : c.args.ends ≡ true = search rules in
    let w = whole_ends s.0 l k (line_in c.ended.new.self) r reading c.args.bytes.now [] s.1 c.args.ends c.in-Ok.taken e some c.in-Ok.ensures.ok in
    s.3 ∙ ap (λ (ts : List Token). c.args.told.now.items ++ noted c.args.tells ts) w.told

pub returns-in-Ok-clause-stands : goal.returns-in-Ok-clause-stands
returns-in-Ok-clause-stands c =
    let l = line_in c.args.connection.now in
    let r = c.args.connection.now.parser in
    let k = line_in c.hear_tokens.new.connection in
    let reading = c.hear_tokens.new.connection.parser in
    let s = c.in_default-hear_tokens.ensures.ok in
    let some = subst (λ (x : Connection). HeardSome s.0 (line_in x) x.parser c.args.bytes.now k reading [] [] s.1) c.in_default.ensures.ok s.2 in
    let e : c.args.ends ≡ true = search rules in
    (reading, stop_is s.0 l k r reading c.args.bytes.now [] s.1 some, c.in-Ok.ensures.anew ∙ ap (λ (b : Bool). behind_packet b reading) (sym e))

pub returns-in-Err-ended-clause-fault : goal.returns-in-Err-ended-clause-fault
returns-in-Err-ended-clause-fault c =
    let l = line_in c.args.connection.now in
    let r = c.args.connection.now.parser in
    let k = line_in c.hear_tokens.new.connection in
    let reading = c.hear_tokens.new.connection.parser in
    let s = c.in_default-hear_tokens.ensures.ok in
    let some = subst (λ (x : Connection). HeardSome s.0 (line_in x) x.parser c.args.bytes.now k reading [] [] s.1) c.in_default.ensures.ok s.2 in
    let e : c.args.ends ≡ true = search rules in
    fault_ends s.0 l k (line_in c.ended.new.self) r reading c.args.bytes.now [] s.1 c.args.ends c.in-Err-ended.fault e some c.in-Err-ended.ensures.fault
