use Rattle.std.proofs.Common.{◌≡◌, ◌∙◌, false, rules, subst, sym, true, inl, refl}
use Rattle.tds_packet.specs.Reading.{Reading}
use Rattle.tds_packet.specs.declared.kind.Direction.TheVariants.{ToClient}
use Rattle.tds_service.specs.Table.{reading_on}
use Rattle.tds_relay.specs.Handing.{KnowsOn}
use Rattle.tds_relay.proofs.steps.Handed.{done_keeps, hears_is}
use Rattle.tds_relay.proofs.bytes.Reader.{reads_by}
use Rattle.tds_relay.proofs.bytes.Turns.{takes_some}
use Rattle.tds_relay.proofs.spared.Waking.{puts_brings}
use Rattle.tds_relay.proofs.lending.Awaiting.{unheard_cleaned}
use Rattle.tds_relay.proofs.relay.coming.hear_on.Goals as goal

pub invariant_of-link-2 : goal.invariant_of-link-2
invariant_of-link-2 c =
    let direction : c.hear_packet.new.link.reader.direction ≡ ToClient = search rules in
    record {
      reads =
          done_keeps c.args.number (reading_on c.args.number c.args.pool.now.service) _ _ _ _ _ _ _ _
          c.in_ok-heard.ensures.brings c.in_ok-heard.ensures.reader c.done.ensures.next c.done.ensures.same ∙ direction;
      unread = λ closed. absurd (let no : true ≡ false = sym (c.hear_packet.ensures.is_open ∙ c.requires) ∙ closed in let u : ⊥ = cc in u);
    }

pub returns-clause-hears : goal.returns-clause-hears
returns-clause-hears c =
    hears_is c.reads_packets.ensures.less c.reads_packets.ensures.nothing c.args.number (reading_on c.args.number c.args.pool.now.service) c.args.link.now _ c.args.piece.now _ _ _ _ _ _
    c.feed.ensures.taken c.in-Ok.ensures.count c.in_ok-heard.ensures.brings c.in_ok-heard.ensures.reader c.done.ensures.next c.done.ensures.same

pub returns-clause-read : goal.returns-clause-read
returns-clause-read c = reads_by c.reads_packets.ensures.one c.args.number _ _ c.in_ok-heard.heard _ _ c.feed.ensures.taken c.in_ok-heard.ensures.read

pub returns-in-Err-clause-puts : goal.returns-in-Err-clause-puts
returns-in-Err-clause-puts c = λ key. inl refl

pub returns-clause-puts : goal.returns-clause-puts
returns-clause-puts c = puts_brings c.args.number _ _ _ _ _ _ _ c.in_ok-heard.ensures.brings

pub returns-in-Err-clause-asks : goal.returns-in-Err-clause-asks
returns-in-Err-clause-asks c = λ key goes. refl

pub returns-clause-takes : goal.returns-clause-takes
returns-clause-takes c = λ less some. takes_some c.args.link.now.reader _ _ c.args.piece.now c.in-Ok.count c.feed.ensures.taken c.in-Ok.ensures.count c.in-Ok.ensures.all less some

pub returns-in-Err-clause-cleans : goal.returns-in-Err-clause-cleans
returns-in-Err-clause-cleans c = λ reached left. absurd left

pub returns-clause-cleans : goal.returns-clause-cleans
returns-clause-cleans c = c.in_ok-heard.ensures.cleans

pub returns-in-Err-clause-known : goal.returns-in-Err-clause-known
returns-in-Err-clause-known c = inl refl

pub returns-clause-known : goal.returns-clause-known
returns-clause-known c = subst (λ (r : Reading). KnowsOn r c.args.link.now.answer c.hear_packet.new.link.answer) c.feed.ensures.taken c.in_ok-heard.ensures.known

pub returns-in-Err-clause-seats : goal.returns-in-Err-clause-seats
returns-in-Err-clause-seats c = λ reached n. refl

pub returns-clause-seats : goal.returns-clause-seats
returns-clause-seats c = λ reached. c.in_ok-heard.ensures.seats reached

pub returns-in-Err-clause-holds : goal.returns-in-Err-clause-holds
returns-in-Err-clause-holds c = inl refl

pub returns-clause-holds : goal.returns-clause-holds
returns-clause-holds c = c.in_ok-heard.ensures.holds

pub returns-in-Err-clause-leases : goal.returns-in-Err-clause-leases
returns-in-Err-clause-leases c = λ left. absurd left

pub returns-clause-leases : goal.returns-clause-leases
returns-clause-leases c = c.in_ok-heard.ensures.leases

pub returns-in-Err-clause-newly : goal.returns-in-Err-clause-newly
returns-in-Err-clause-newly c = λ reached. unheard_cleaned c.args.number _ _ _ refl

pub returns-clause-newly : goal.returns-clause-newly
returns-clause-newly c = c.in_ok-heard.ensures.newly
