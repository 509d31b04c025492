use Rattle.std.proofs.Common.{◌≡◌, ◌∙◌, [], true, false, refl, sym, subst, rules}
use Rattle.tds_service.specs.Line as line
use Rattle.tds_service.specs.Parts.{Part}
use Rattle.tds_service.specs.Ties.{end_at, taken_answer}
use Rattle.tds_wire.specs.declared.told.Token.{Token}
use Rattle.tds_c.specs.declared.service.packet.Halt.TheVariants as halts
use Rattle.tds_c.specs.service.ComesOn.{HeardOn}
use Rattle.tds_c.proofs.service.Comings.{end_is}
use Rattle.tds_c.proofs.service.Here.{stops_broken_at_end, stops_ended, stops_through}
use Rattle.tds_c.proofs.service.packet.whole.end_ready.Goals as goal

pub returns-then-ends-eq0 : goal.returns-then-ends-eq0
returns-then-ends-eq0 c = λ first room r at come. (halts.Through, refl, r, at, stops_through first _ room come refl _ (search rules))

pub returns-in-Ok : goal.returns-in-Ok
returns-in-Ok c = λ first room r at come.
    let anew = c.begin_anew.ensures r at in
    let on : HeardOn (end_at r) c.args.seat.now c.end_message.new.seat (taken_answer c.args.seat.now.asked c.in-Ok.answer) [] =
    subst (λ (p : Part Token). HeardOn p c.args.seat.now c.end_message.new.seat (taken_answer c.args.seat.now.asked c.in-Ok.answer) []) (end_is r true (sym anew.0)) c.in-Ok.ensures.ok in
    (halts.Ended c.in-Ok.answer, search rules, _, anew.1, stops_ended first _ room come c.end_message.new.seat _ c.in-Ok.answer refl on refl _ (search rules))

pub returns-in-Err : goal.returns-in-Err
returns-in-Err c = λ first room r at come.
    let anew = c.begin_anew.ensures r at in
    let on : HeardOn (end_at r) c.args.seat.now c.end_message.new.seat (line.Fault c.in-Err.fault) [] =
    subst (λ (p : Part Token). HeardOn p c.args.seat.now c.end_message.new.seat (line.Fault c.in-Err.fault) []) (end_is r true (sym anew.0)) c.in-Err.ensures.fault in
    (halts.BrokenAtEnd c.in-Err.fault, search rules, _, anew.1, stops_broken_at_end first _ room come c.end_message.new.seat _ c.in-Err.fault refl on refl _ (search rules))
