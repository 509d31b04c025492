use Rattle.std.proofs.Common.{◌≡◌, refl, subst, drop, true, false, rules}
use Rattle.tds_client.specs.declared.state.Taken.TheVariants.{NoMemory}
use Rattle.tds_packet.specs.declared.kind.Direction.TheVariants.{ToClient}
use Rattle.tds_packet.specs.Stream.{IsLess}
use Rattle.tds_ends.specs.AllBytes.{new_reader}
use Rattle.tds_ends.proofs.Feeding.{slice_rest}
use Rattle.tds_ends.proofs.FedClient.{does_take, untaken}
use Rattle.tds_ends.proofs.Lent.{front_at, lent_within}
use Rattle.tds_ends.proofs.LentClient.{hears_all, hears_on, hears_refused, hears_wanting, wants}
use Rattle.tds_ends.proofs.listening.listen_lent.Goals as goal

pub packets-preserved : goal.packets-preserved
packets-preserved c =
    let so = c.packets.invariant.so_far in
    let front = front_at ToClient c.args.size c.args.piece.now c.in-Some.packet.data.now c.in-Some.packet.header c.packets.count c.in-Some.ensures.lent in
    let differs : ¬ (c.in-Ok.answer ≡ NoMemory) = λ e. let z : false ≡ true = rw e at c.if-eq.ensures in absurd (cc) in
    let does = does_take _ c.in-Ok.answer _ _ _ _ differs c.in-Ok.ensures.taken in
    record {
      within = lent_within c.args.piece.now c.in-Some.packet.header c.in-Some.packet.data.now front.0 c.packets.count front.1 c.packets.invariant.within;
      so_far = hears_on ToClient c.args.size c.args.piece.now c.in-Some.packet.data.now c.in-Some.packet.header c.packets.count _ _ c.packets.client c.take.new.self _ c.packets.told.items c.take.new.out.items _ c.packets.settled _ c.in-Ok.answer so front refl does.1 does.2 c.settled_by-settled.ensures;
    }

pub returns-then-eq-clause-listens : goal.returns-then-eq-clause-listens
returns-then-eq-clause-listens c =
    let so = c.packets.invariant.so_far in
    let front = front_at ToClient c.args.size c.args.piece.now c.in-Some.packet.data.now c.in-Some.packet.header c.packets.count c.in-Some.ensures.lent in
    let none : c.in-Ok.answer ≡ NoMemory = search rules in
    let still = untaken _ c.in-Ok.answer _ _ _ _ none c.in-Ok.ensures.taken in
    hears_wanting ToClient c.args.size c.args.piece.now c.in-Some.packet.data.now c.in-Some.packet.header c.packets.count _ c.packets.client c.take.new.self _ c.packets.told.items c.take.new.out.items c.packets.settled so front still.0 still.1 (wants c.packets.client c.take.new.self c.in-Some.packet.header c.in-Some.packet.data.now c.in-Ok.answer c.packets.told.items c.take.new.out.items none c.in-Ok.ensures.taken)

pub returns-in-Err-clause-listens : goal.returns-in-Err-clause-listens
returns-in-Err-clause-listens c =
    let so = c.packets.invariant.so_far in
    let front = front_at ToClient c.args.size c.args.piece.now c.in-Some.packet.data.now c.in-Some.packet.header c.packets.count c.in-Some.ensures.lent in
    hears_refused ToClient c.args.size c.args.piece.now c.in-Some.packet.data.now c.in-Some.packet.header c.packets.count _ _ c.packets.client c.take.new.self _ c.packets.told.items c.take.new.out.items c.packets.settled c.in-Err.fault so front refl c.in-Err.ensures.nothing c.in-Err.ensures.fault c.in-Err.ensures.broken

pub returns-in_default-clause-listens : goal.returns-in_default-clause-listens
returns-in_default-clause-listens c =
    let less : IsLess (new_reader ToClient c.args.size) (drop c.packets.count c.args.piece.now) = subst (IsLess (new_reader ToClient c.args.size)) (slice_rest c.packets.count c.args.piece.now) (c.in_default.ensures.none refl) in
    hears_all ToClient c.args.size c.args.piece.now c.packets.count _ c.packets.client _ c.packets.told.items c.packets.settled c.packets.invariant.so_far less
