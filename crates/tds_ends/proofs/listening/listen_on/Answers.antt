use Rattle.std.proofs.Common.{◌≡◌, ◌∙◌, ap, refl, true, false, rules}
use Rattle.tds_client.specs.declared.state.Taken.TheVariants.{NoMemory}
use Rattle.tds_packet.specs.Reading.{IsWhole}
use Rattle.tds_ends.proofs.Empty.{fed_tells, faulty_some}
use Rattle.tds_ends.proofs.Feeding.{slice_rest, fed_at, held_at, faulty_at, drained_at}
use Rattle.tds_ends.proofs.FedClient.{does_take, untaken, goes_on, stopped}
use Rattle.tds_ends.proofs.LentClient.{wants}
use Rattle.tds_ends.proofs.listening.listen_on.Goals as goal

pub returns-in-Err-clause-listens : goal.returns-in-Err-clause-listens
returns-in-Err-clause-listens c =
    let so = c.packets.invariant.so_far in
    stopped _ _ c.feed.new.self c.args.piece.now _ c.packets.count _ _ _ _ _ _ _ _ _ so
    (faulty_at c.reads_packets.ensures.faulty _ _ _ _ _ c.packets.count so.packets c.in-Err.fault so.bytes (slice_rest c.packets.count c.args.piece.now) c.in-Err.ensures.taken c.in-Err.ensures.fault)
    refl refl

pub returns-in_default-clause-listens : goal.returns-in_default-clause-listens
returns-in_default-clause-listens c =
    let so = c.packets.invariant.so_far in
    let not : ¬ IsWhole c.feed.new.self = λ whole. let z : false ≡ true = c.in_default.ensures.whole.1 whole in absurd (cc) in
    stopped _ _ c.feed.new.self c.args.piece.now _ c.packets.count _ _ _ _ _ _ _ _ _ so
    (drained_at c.reads_packets.ensures.less _ _ _ _ _ c.packets.count c.in-Ok.taken so.packets so.bytes (slice_rest c.packets.count c.args.piece.now) c.packets.invariant.within c.in-Ok.ensures.within c.in-Ok.ensures.taken c.in-Ok.ensures.count c.in-Ok.ensures.all not c.in-Ok.ensures.fault)
    refl refl

pub returns-then-eq-clause-listens : goal.returns-then-eq-clause-listens
returns-then-eq-clause-listens c =
    let so = c.packets.invariant.so_far in
    let whole : IsWhole c.feed.new.self = (c.in-Some.packet.header, c.in-Some.packet.data.now, c.in-Some.ensures.lent) in
    let none : c.in-Ok-take.took ≡ NoMemory = search rules in
    let still = untaken _ c.in-Ok-take.took _ _ _ _ none c.in-Ok-take.ensures.taken in
    stopped _ _ c.feed.new.self c.args.piece.now _ c.packets.count _ _ _ _ _ _ _ _ _ so
    (held_at _ _ c.feed.new.self c.args.piece.now _ c.packets.count c.in-Ok.taken so.packets so.bytes (slice_rest c.packets.count c.args.piece.now) c.in-Ok.ensures.taken c.in-Ok.ensures.count whole)
    still.1 still.0

pub returns-in-Err-take-clause-listens : goal.returns-in-Err-take-clause-listens
returns-in-Err-take-clause-listens c =
    let so = c.packets.invariant.so_far in
    let whole : IsWhole c.feed.new.self = (c.in-Some.packet.header, c.in-Some.packet.data.now, c.in-Some.ensures.lent) in
    stopped _ _ c.feed.new.self c.args.piece.now _ c.packets.count _ _ _ _ _ _ _ _ _ so
    (held_at _ _ c.feed.new.self c.args.piece.now _ c.packets.count c.in-Ok.taken so.packets so.bytes (slice_rest c.packets.count c.args.piece.now) c.in-Ok.ensures.taken c.in-Ok.ensures.count whole)
    c.in-Err-take.ensures.nothing (c.in-Some.packet.header, c.in-Some.packet.data.now, c.in-Some.ensures.lent, c.in-Err-take.ensures.fault, c.in-Err-take.ensures.broken)

pub packets-preserved : goal.packets-preserved
packets-preserved c =
    let so = c.packets.invariant.so_far in
    let lent = c.in-Some.ensures.lent in
    let gone = c.done.ensures.next (c.in-Some.packet.header, c.in-Some.packet.data.now, lent) in
    let fed = fed_at _ _ c.feed.new.self c.args.piece.now _ c.packets.count c.in-Ok.taken so.packets so.bytes (slice_rest c.packets.count c.args.piece.now) c.in-Ok.ensures.taken c.in-Ok.ensures.count in
    let differs : ¬ (c.in-Ok-take.took ≡ NoMemory) = λ e. let z : false ≡ true = rw e at c.if-eq.ensures in absurd (cc) in
    let does = does_take _ c.in-Ok-take.took _ _ _ _ differs c.in-Ok-take.ensures.taken in
    record {
      reads = ap (λ r. r.direction) gone ∙ ap (λ r. r.direction) c.in-Ok.ensures.taken ∙ c.packets.invariant.reads;
      size = ap (λ r. r.size) gone ∙ ap (λ r. r.size) c.in-Ok.ensures.taken ∙ c.packets.invariant.size;
      within = search rules;
      empty = λ tells. ap (λ r. r.taken) gone;
      so_far = goes_on _ c.feed.new.self c.done.new.self c.args.piece.now _ _ _ _ _ _ _ _ _ _ _ _ c.in-Ok-take.took so.packets fed so.took lent gone does.1 does.2 c.settled_by-settled.ensures;
    }

pub returns-in-Err-clause-empty : goal.returns-in-Err-clause-empty
returns-in-Err-clause-empty c = λ tells. faulty_some c.feed.new.self c.in-Err.fault c.in-Err.ensures.fault

pub returns-in_default-clause-empty : goal.returns-in_default-clause-empty
returns-in_default-clause-empty c = λ tells. fed_tells _ _ c.in-Ok.taken _ _ _ c.is_still_empty-is_empty.ensures c.in-Ok.ensures.within c.in-Ok.ensures.count (c.packets.invariant.empty tells)

pub returns-then-eq-clause-empty : goal.returns-then-eq-clause-empty
returns-then-eq-clause-empty c = λ tells. fed_tells _ _ c.in-Ok.taken _ _ _ c.is_still_empty-is_empty.ensures c.in-Ok.ensures.within c.in-Ok.ensures.count (c.packets.invariant.empty tells)

pub returns-in-Err-take-clause-empty : goal.returns-in-Err-take-clause-empty
returns-in-Err-take-clause-empty c = λ tells. fed_tells _ _ c.in-Ok.taken _ _ _ c.is_still_empty-is_empty.ensures c.in-Ok.ensures.within c.in-Ok.ensures.count (c.packets.invariant.empty tells)

pub returns-then-eq-clause-waits : goal.returns-then-eq-clause-waits
returns-then-eq-clause-waits c =
    let none : c.in-Ok-take.took ≡ NoMemory = search rules in
    (c.in-Some.packet.header, c.in-Some.packet.data.now, c.in-Some.ensures.lent, wants c.packets.client c.take.new.self c.in-Some.packet.header c.in-Some.packet.data.now c.in-Ok-take.took c.packets.told.items c.take.new.out.items none c.in-Ok-take.ensures.taken)
