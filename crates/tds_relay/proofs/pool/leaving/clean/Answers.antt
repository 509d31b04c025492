use Rattle.std.proofs.Common.{refl, [], ◌+◌}
use Rattle.tds_service.specs.Table.{puts_on, service_in}
use Rattle.tds_relay.specs.Pool.{Sent}
use Rattle.tds_relay.proofs.steps.Made.{cleaned_whole}
use Rattle.tds_service.specs.Service as calls
use Rattle.tds_relay.proofs.bytes.Walking.{keeps_stand}
use Rattle.tds_relay.proofs.spared.Aside.{above_given, called_for, lent_given, refl_for}
use Rattle.tds_relay.proofs.spared.Cleaned.{cleans, cleans_all}
use Rattle.tds_relay.proofs.spared.Marking.{cleans_full}
use Rattle.tds_relay.proofs.lending.Leases.{cleaned_given}
use Rattle.tds_relay.proofs.pool.leaving.clean.Goals as goal

pub returns-clause-makes : goal.returns-clause-makes
returns-clause-makes c =
    let put = c.in-Ok-put.ensures.ok in
    let count = puts_on c.in-Ok.lent.lease c.ask.new.self c.args.text.now in
    let left = puts_on c.in-Ok.lent.lease c.put.new.self [] in
    let end = c.in-Ok-finish.ensures.ok in (
      Sent count left,
      refl,
      cleaned_whole (service_in c.args.service.now) (service_in c.clean.new.self) (service_in c.ask.new.self) (service_in c.put.new.self) (service_in c.finish.new.self) c.args.number c.in-Ok.lent.lease
          c.in-Ok.lent.number _ _ _ _ c.in-Ok.lent.had count left c.args.out.now.items c.put.new.out.items c.finish.new.out.items c.in-Ok.ensures.ok c.in-Ok-ask.ensures.ok put end,
    )

pub returns-clause-stand : goal.returns-clause-stand
returns-clause-stand c = λ n r h. keeps_stand c.put.new.self c.finish.new.self (calls.Finish c.in-Ok.lent.lease (puts_on c.in-Ok.lent.lease c.put.new.self [])) c.in-Ok-finish.ensures.ok.service_is (λ opens. opens) c.in-Ok-finish.ensures.makes c.in-Ok-finish.ensures.sizes c.in-Ok-finish.ensures.keeps n r (keeps_stand c.ask.new.self c.put.new.self (calls.Put c.in-Ok.lent.lease (puts_on c.in-Ok.lent.lease c.ask.new.self c.args.text.now)) c.in-Ok-put.ensures.ok.service_is (λ opens. opens) c.in-Ok-put.ensures.makes c.in-Ok-put.ensures.sizes c.in-Ok-put.ensures.keeps n r (keeps_stand c.clean.new.self c.ask.new.self (calls.Ask c.in-Ok.lent.lease) c.in-Ok-ask.ensures.ok.service_is (λ opens. opens) c.in-Ok-ask.ensures.makes c.in-Ok-ask.ensures.sizes c.in-Ok-ask.ensures.keeps n r (keeps_stand c.args.service.now c.clean.new.self (calls.Clean c.args.number) c.in-Ok.ensures.ok.service_is (λ opens. opens) c.in-Ok.ensures.makes c.in-Ok.ensures.sizes c.in-Ok.ensures.keeps n r h)))

pub returns-clause-aside : goal.returns-clause-aside
returns-clause-aside c = λ but lease client differs aside there.
    (called_for lease (c.args.service.now.given + 1) c.args.number c.args.service.now c.clean.new.self c.finish.new.self (calls.Clean c.args.number) tt c.in-Ok.ensures.ok.service_is c.in-Ok.ensures.clients (above_given (service_in c.args.service.now) lease aside.given)
    (called_for lease c.in-Ok.lent.lease c.args.number c.clean.new.self c.ask.new.self c.finish.new.self (calls.Ask c.in-Ok.lent.lease) tt c.in-Ok-ask.ensures.ok.service_is c.in-Ok-ask.ensures.clients (lent_given (service_in c.args.service.now) c.args.number c.in-Ok.lent.lease c.in-Ok.lent.number c.in-Ok.lent.had lease c.in-Ok.ensures.ok.reply_is aside.given)
    (called_for lease c.in-Ok.lent.lease c.args.number c.ask.new.self c.put.new.self c.finish.new.self (calls.Put c.in-Ok.lent.lease (puts_on c.in-Ok.lent.lease c.ask.new.self c.args.text.now)) tt c.in-Ok-put.ensures.ok.service_is c.in-Ok-put.ensures.clients (lent_given (service_in c.args.service.now) c.args.number c.in-Ok.lent.lease c.in-Ok.lent.number c.in-Ok.lent.had lease c.in-Ok.ensures.ok.reply_is aside.given)
    (called_for lease c.in-Ok.lent.lease c.args.number c.put.new.self c.finish.new.self c.finish.new.self (calls.Finish c.in-Ok.lent.lease (puts_on c.in-Ok.lent.lease c.put.new.self [])) tt c.in-Ok-finish.ensures.ok.service_is c.in-Ok-finish.ensures.clients (lent_given (service_in c.args.service.now) c.args.number c.in-Ok.lent.lease c.in-Ok.lent.number c.in-Ok.lent.had lease c.in-Ok.ensures.ok.reply_is aside.given)
    (refl_for lease c.args.number c.finish.new.self))))) client aside there

pub returns-clause-puts : goal.returns-clause-puts
returns-clause-puts c =
    cleans c.args.text.now c.in-Ok.lent.lease c.clean.new.self c.ask.new.self c.put.new.self c.finish.new.self c.args.out.now.items c.put.new.out.items c.finish.new.out.items c.in-Ok-ask.ensures.opened c.in-Ok-put.ensures.puts
    c.in-Ok-finish.ensures.ends

pub returns-clause-cleans : goal.returns-clause-cleans
returns-clause-cleans c = λ led.
    let opens = c.in-Ok-ask.ensures.opened in
    cleans_all c.args.text.now c.in-Ok.lent.lease c.clean.new.self c.ask.new.self c.put.new.self c.finish.new.self c.args.out.now.items c.put.new.out.items c.finish.new.out.items opens
    (cleans_full c.args.number c.in-Ok.lent.lease c.in-Ok.lent.number c.in-Ok.lent.had c.args.service.now c.clean.new.self opens.0 led c.in-Ok.ensures.ok.service_is c.in-Ok.ensures.ok.reply_is opens.1.was)
    c.in-Ok-put.ensures.puts c.in-Ok-finish.ensures.ends

pub returns-clause-leases : goal.returns-clause-leases
returns-clause-leases c =
    let lease = c.in-Ok.lent.lease in
    cleaned_given (service_in c.args.service.now) (service_in c.clean.new.self) (service_in c.ask.new.self) (service_in c.put.new.self) (service_in c.finish.new.self) c.args.number lease c.in-Ok.lent.number
    (puts_on lease c.ask.new.self c.args.text.now) (puts_on lease c.put.new.self []) c.in-Ok.lent.had c.in-Ok.ensures.ok.service_is c.in-Ok.ensures.ok.reply_is c.in-Ok-ask.ensures.ok.service_is c.in-Ok-put.ensures.ok.service_is
    c.in-Ok-finish.ensures.ok.service_is
