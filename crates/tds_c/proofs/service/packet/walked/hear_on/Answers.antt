use Rattle.std.proofs.Common.{◌≡◌, ◌∙◌, ℕ, [], sym, ap, subst, rules}
use Rattle.tds_wire.specs.Lent.{reading_of}
use Rattle.tds_walk.specs.Wire.{truth}
use Rattle.tds_service.specs.Line as line
use Rattle.tds_service.specs.Parts.{Part}
use Rattle.tds_service.specs.Ties.{end_at, taken_answer}
use Rattle.tds_wire.specs.declared.told.Token.{Token}
use Rattle.tds_c.specs.service.ComesOn.{HeardOn}
use Rattle.tds_c.proofs.service.Comings.{end_is}
use Rattle.tds_c.proofs.service.Here.{broken_any, full_any, stops_broken_at_end, stops_ended, stops_through}
use Rattle.tds_c.proofs.service.packet.walked.hear_on.Goals as goal

pub returns-in-Err-clause-run : goal.returns-in-Err-clause-run
returns-in-Err-clause-run c = λ first room long come. broken_any first _ _ c.in-Err.fault _ _ (rw c.in-Err.is at (c.hear_tokens.ensures.run first room long come))

pub returns-in-Ok-Full-clause-run : goal.returns-in-Ok-Full-clause-run
returns-in-Ok-Full-clause-run c = λ first room long come. full_any first _ _ _ (rw c.in-Ok-Full.field-0-is at (c.in-Ok-Full.ensures.run first room long come))

pub returns-then-ends-eq0-clause-run : goal.returns-then-ends-eq0-clause-run
returns-then-ends-eq0-clause-run c = λ first room long come.
    let x = rw c.in-Ok-Through.field-0-is at (c.in-Ok-Through.ensures.run first room long come) in
    stops_through first _ _ x.0 x.1 _ (search rules)

pub returns-in-Ok-clause-run : goal.returns-in-Ok-clause-run
returns-in-Ok-clause-run c = λ first room long come.
    let x = rw c.in-Ok-Through.field-0-is at (c.in-Ok-Through.ensures.run first room long come) in
    let y = c.hear_tokens.new.seat in
    let z = c.end_message.new.seat in
    let r = reading_of c.hear_tokens.new.walk c.hear_tokens.new.memory in
    let on : HeardOn (end_at r) y z (taken_answer y.asked c.in-Ok.answer) [] =
    subst (λ (p : Part Token). HeardOn p y z (taken_answer y.asked c.in-Ok.answer) []) (end_is r c.is_between-between.result c.is_between-between.ensures.between) c.in-Ok.ensures.ok in
    stops_ended first _ _ x.0 z _ c.in-Ok.answer x.1 on c.restart.ensures.state _ (search rules)

pub returns-in-Err-end_message-clause-run : goal.returns-in-Err-end_message-clause-run
returns-in-Err-end_message-clause-run c = λ first room long come.
    let x = rw c.in-Ok-Through.field-0-is at (c.in-Ok-Through.ensures.run first room long come) in
    let y = c.hear_tokens.new.seat in
    let z = c.end_message.new.seat in
    let r = reading_of c.hear_tokens.new.walk c.hear_tokens.new.memory in
    let on : HeardOn (end_at r) y z (line.Fault c.in-Err-end_message.fault) [] =
    subst (λ (p : Part Token). HeardOn p y z (line.Fault c.in-Err-end_message.fault) []) (end_is r c.is_between-between.result c.is_between-between.ensures.between) c.in-Err-end_message.ensures.fault in
    stops_broken_at_end first _ _ x.0 z _ c.in-Err-end_message.fault x.1 on c.restart.ensures.state _ (search rules)
