use Rattle.std.proofs.Common.{[], ◌∷◌, ◌≡◌, ◌∙◌, ◌++◌, ℕ, Option, sym, ap, min, arith}
use Rattle.tds_packet.specs.declared.kind.Direction.TheVariants.{ToClient}
use Rattle.tds_world.specs.Arrivals.{to_client}
use Rattle.tds_play.specs.Pipe.{Pipe, traffic, next_of}
use Rattle.tds_play.specs.Plays.{RepresentsConnection}
use Rattle.tds_play.proofs.deliveries.ClientEvent.{come_heard, heard_alike}
use Rattle.tds_play.proofs.Doing.{ended}
use Rattle.tds_play.proofs.Listening.{listened_by, listened_on}
use Rattle.tds_play.proofs.Losing.{delivered_down}
use Rattle.tds_play.specs.Failures.{Carry}
use Rattle.tds_play.proofs.Failing.{brought_as}
use Rattle.std.proofs.Common.{subst, refl}
use Rattle.tds_pool.specs.Cleaning.{client_at}
use Rattle.tds_pool.specs.Connections.{connections}
use Rattle.tds_ends.specs.AllBytes.{ClientHasRead, new_reader}
use Rattle.tds_play.specs.declared.link.EventDone.{EventDone}
use Rattle.tds_play.specs.Reads.{ClientIsFed, given_by}
use Rattle.tds_play.proofs.any_bytes.Brought.{faulty_heard, heard_reads}
use Rattle.tds_play.specs.Seats.{drained, seated}
use Rattle.tds_play.specs.Ties.{IsTied}
use Rattle.tds_play.proofs.Tying.{faithful_before, ties_handed}
use Rattle.tds_play.proofs.any_bytes.Stays.{stays_numbered}
use Rattle.tds_play.proofs.Unasked.{carries_at}
use Rattle.tds_play.proofs.link.Link.deliver_to_client.Goals as goal

-- The client takes all that came, so it finds no fault.
pub returns-in-Some-clause-refines : goal.returns-in-Some-clause-refines
returns-in-Some-clause-refines g c = λ answers size engine p m faithful played promises.
    let live = played.lives c.requires.live in
    let pipe : Option Pipe = g.C.EventCarrier.pipes c.args.carrier.now c.args.self.now.number in
    let k : ℕ = c.in_ok-carried.carried.count in
    let exact : k ≡ min k c.args.self.now.to_client = omega (arith, c.in_ok-carried.ensures.within, c.at_most-count.ensures.within) in
    let a = come_heard c.listens_alike.ensures c.args.self.now (seated p (client_at c.args.self.now.number (connections c.args.pool.now))) pipe m k k live.stands exact (promises.heard c.args.self.now.client_reader live.client_reads live.client_size) in
    let came = faithful_before c.args.self.now.number c.hear.new.self.number c.end_by_fault.new.self (g.C.EventCarrier.pipes c.carry.new.carrier) (g.C.EventCarrier.pipes c.end_by_fault.new.carrier)
    (g.C.EventCarrier.began c.carry.new.carrier) (g.C.EventCarrier.began c.end_by_fault.new.carrier) (c.in_ok-heard.ensures.number ∙ c.in_ok-carried.ensures.number) c.end_by_fault.ensures.ties faithful in
    let brought = c.in_ok-carried.ensures.brought came in
    let counted = c.in_ok-carried.ensures.counted in
    let piece : c.as_slice.result.now ≡ next_of (traffic pipe ToClient) k = c.as_slice.ensures.value ∙ brought.bytes ∙ ap (λ xs. xs ++ next_of (traffic pipe ToClient) k) c.new-piece.ensures.items in
    let reader = ap (λ l. l.client_reader) counted in
    let current = ap (λ l. l.current) counted in
    let heard = c.in_ok-heard.ensures.heard a.packets a.rest a.then (rw (reader, piece) a.comes) (rw current a.listens) in
    let none = sym c.in-Some.is ∙ heard.0 in
    absurd (cc)

pub returns-clause-refines : goal.returns-clause-refines
returns-clause-refines g c = λ answers size engine p m faithful played promises.
    let live = played.lives c.requires.live in
    let conn : ℕ = c.args.self.now.number in
    let pipe : Option Pipe = g.C.EventCarrier.pipes c.args.carrier.now conn in
    let after : Option Pipe = g.C.EventCarrier.pipes c.carry.new.carrier conn in
    let k : ℕ = c.in_ok-carried.carried.count in
    let here = live.stands.down.counts in
    let exact : k ≡ min k c.args.self.now.to_client = omega (arith, c.in_ok-carried.ensures.within, c.at_most-count.ensures.within) in
    let a = come_heard c.listens_alike.ensures c.args.self.now (seated p (client_at c.args.self.now.number (connections c.args.pool.now))) pipe m k k live.stands exact (promises.heard c.args.self.now.client_reader live.client_reads live.client_size) in
    let came = faithful_before c.args.self.now.number c.hear.new.self.number c.end.new.self (g.C.EventCarrier.pipes c.carry.new.carrier) (g.C.EventCarrier.pipes c.end.new.carrier)
    (g.C.EventCarrier.began c.carry.new.carrier) (g.C.EventCarrier.began c.end.new.carrier) (c.in_ok-heard.ensures.number ∙ c.in_ok-carried.ensures.number) c.end.ensures.ties faithful in
    let brought = c.in_ok-carried.ensures.brought came in
    let counted = c.in_ok-carried.ensures.counted in
    let piece : c.as_slice.result.now ≡ next_of (traffic pipe ToClient) k = c.as_slice.ensures.value ∙ brought.bytes ∙ ap (λ xs. xs ++ next_of (traffic pipe ToClient) k) c.new-piece.ensures.items in
    let reader = ap (λ l. l.client_reader) counted in
    let current = ap (λ l. l.current) counted in
    let heard = c.in_ok-heard.ensures.heard a.packets a.rest a.then (rw (reader, piece) a.comes) (rw current a.listens) in
    let then = listened_by c.args.self.now c.carry.new.self c.hear.new.self (seated p (client_at c.args.self.now.number (connections c.args.pool.now))) (drained (seated p (client_at c.args.self.now.number (connections c.hear.new.pool)))) (client_at c.args.self.now.number (connections c.hear.new.pool)) pipe after k a.then a.rest c.in_ok-carried.carried.lost
    (c.requires.tied.holds c.requires.live).is_open counted heard.1 heard.2 refl brought.pipe in
    let stands = heard_alike c.pool_is_unseen.ensures c.the_other_stays.ensures.listens c.args.self.now c.hear.new.self (seated p (client_at c.args.self.now.number (connections c.args.pool.now))) (drained (seated p (client_at c.args.self.now.number (connections c.hear.new.pool)))) pipe after m k k a.then.session a.rest live.stands exact (promises.delivers k).1 a.matches a.left then.heard then.client in
    let listened : RepresentsConnection conn size engine c.hear.new.self (drained (seated p (client_at c.args.self.now.number (connections c.hear.new.pool)))) after (to_client k m) =
    listened_on c.idle_alike.ensures conn size k k engine _ c.args.self.now c.hear.new.self (seated p (client_at c.args.self.now.number (connections c.args.pool.now))) (drained (seated p (client_at c.args.self.now.number (connections c.hear.new.pool)))) pipe after m played c.requires.live (promises.hears_past k) a then stands in
    delivered_down conn size c.args.most k engine c.end.result c.in_ok-carried.carried.lost c.end.new.self (drained (seated p (client_at c.args.self.now.number (connections c.hear.new.pool)))) (g.C.EventCarrier.pipes c.end.new.carrier conn) m c.end.ensures.done
    (λ whole. c.in_ok-carried.ensures.all whole ∙ c.at_most-count.ensures.value ∙ ap (min c.args.most) here)
    (omega (arith, c.in_ok-carried.ensures.within, c.at_most-count.ensures.within, here))
    (ended conn c.hear.new.self.number size engine c.hear.new.self c.end.new.self (drained (seated p (client_at c.args.self.now.number (connections c.hear.new.pool)))) (g.C.EventCarrier.pipes c.carry.new.carrier) (g.C.EventCarrier.pipes c.end.new.carrier) c.in_ok-carried.carried.lost (to_client k m)
    (then.number) (c.end.ensures.refines size engine (drained (seated p (client_at c.args.self.now.number (connections c.hear.new.pool)))) _) listened)

pub returns-in-Some-clause-failed : goal.returns-in-Some-clause-failed
returns-in-Some-clause-failed g c = λ fine.
    brought_as c.args.self.now.number c.hear.new.self.number (Carry ToClient ∷ []) c.end_by_fault.result c.in_ok-carried.carried.lost c.end_by_fault.new.self
    (g.C.EventCarrier.pipes c.carry.new.carrier) (g.C.EventCarrier.pipes c.end_by_fault.new.carrier)
    (c.in_ok-heard.ensures.number ∙ c.in_ok-carried.ensures.number) (c.end_by_fault.ensures.failed (Carry ToClient ∷ [])) (c.in_ok-carried.ensures.failed fine)

pub returns-clause-failed : goal.returns-clause-failed
returns-clause-failed g c = λ fine.
    brought_as c.args.self.now.number c.hear.new.self.number (Carry ToClient ∷ []) c.end.result c.in_ok-carried.carried.lost c.end.new.self
    (g.C.EventCarrier.pipes c.carry.new.carrier) (g.C.EventCarrier.pipes c.end.new.carrier)
    (c.in_ok-heard.ensures.number ∙ c.in_ok-carried.ensures.number) (c.end.ensures.failed (Carry ToClient ∷ [])) (c.in_ok-carried.ensures.failed fine)

pub returns-clause-reads : goal.returns-clause-reads
returns-clause-reads g c = λ size n reads.
    let conn : ℕ = c.args.self.now.number in
    let live = c.requires.live in
    let pipe : Option Pipe = g.C.EventCarrier.pipes c.args.carrier.now conn in
    let mid : Option Pipe = g.C.EventCarrier.pipes c.carry.new.carrier conn in
    let b = c.in_ok-carried.ensures.any in
    let counted = c.in_ok-carried.ensures.counted in
    let piece = c.as_slice.ensures.value ∙ b.appended ∙ ap (λ xs. xs ++ b.bytes) c.new-piece.ensures.items in
    let before : ClientHasRead (new_reader ToClient size) c.carry.new.self.client_reader (client_at c.args.self.now.number (connections c.args.pool.now)).columns (traffic pipe ToClient).came (given_by c.carry.new.self) = rw counted (reads.client live) in
    let fed = subst (ClientIsFed size c.hear.new.self.client_reader (client_at c.args.self.now.number (connections c.hear.new.pool)).columns ((traffic pipe ToClient).came ++ c.as_slice.result.now) (given_by c.hear.new.self)) c.in_default.is
    (c.in_ok-heard.ensures.any size (traffic pipe ToClient).came before) in
    let number = c.in_ok-heard.ensures.number ∙ c.in_ok-carried.ensures.number in
    let ended = stays_numbered c.hear.new.self.number conn c.hear.new.self c.end.new.self (g.C.EventCarrier.pipes c.carry.new.carrier) (g.C.EventCarrier.pipes c.end.new.carrier) number c.end.ensures.still in
    heard_reads size n c.args.most c.in_ok-carried.carried.count c.args.self.now c.hear.new.self c.end.new.self (client_at c.args.self.now.number (connections c.args.pool.now)).columns (client_at c.args.self.now.number (connections c.hear.new.pool)).columns (client_at c.args.self.now.number (connections c.hear.new.pool)).columns pipe mid (g.C.EventCarrier.pipes c.end.new.carrier conn) c.new-piece.result.items c.carry.new.out.items c.as_slice.result.now c.end.result.outcome
    reads live b piece (c.in_ok-heard.ensures.server ∙ ap (λ l. l.server_reader) counted) fed
    (c.given_are_told.ensures (new_reader ToClient size) c.hear.new.self.client_reader (client_at c.args.self.now.number (connections c.hear.new.pool)).columns _ (given_by c.hear.new.self) fed)
    (c.no_fault_is_read.ensures (new_reader ToClient size) c.hear.new.self.client_reader _ fed.packets fed.read)
    ended refl
    (ap (λ (d : EventDone). d.outcome) c.end.ensures.done)

pub returns-in-Some-clause-reads : goal.returns-in-Some-clause-reads
returns-in-Some-clause-reads g c = λ size n reads.
    let conn : ℕ = c.args.self.now.number in
    let live = c.requires.live in
    let pipe : Option Pipe = g.C.EventCarrier.pipes c.args.carrier.now conn in
    let mid : Option Pipe = g.C.EventCarrier.pipes c.carry.new.carrier conn in
    let b = c.in_ok-carried.ensures.any in
    let counted = c.in_ok-carried.ensures.counted in
    let piece = c.as_slice.ensures.value ∙ b.appended ∙ ap (λ xs. xs ++ b.bytes) c.new-piece.ensures.items in
    let before : ClientHasRead (new_reader ToClient size) c.carry.new.self.client_reader (client_at c.args.self.now.number (connections c.args.pool.now)).columns (traffic pipe ToClient).came (given_by c.carry.new.self) = rw counted (reads.client live) in
    let fed = subst (ClientIsFed size c.hear.new.self.client_reader (client_at c.args.self.now.number (connections c.hear.new.pool)).columns ((traffic pipe ToClient).came ++ c.as_slice.result.now) (given_by c.hear.new.self)) c.in-Some.is
    (c.in_ok-heard.ensures.any size (traffic pipe ToClient).came before) in
    let ended = stays_numbered c.hear.new.self.number conn c.hear.new.self c.end_by_fault.new.self (g.C.EventCarrier.pipes c.carry.new.carrier) (g.C.EventCarrier.pipes c.end_by_fault.new.carrier) (c.in_ok-heard.ensures.number ∙ c.in_ok-carried.ensures.number) c.end_by_fault.ensures.still in
    faulty_heard size n c.args.most c.in_ok-carried.carried.count c.args.self.now c.hear.new.self c.end_by_fault.new.self (client_at c.args.self.now.number (connections c.args.pool.now)).columns (client_at c.args.self.now.number (connections c.hear.new.pool)).columns pipe mid (g.C.EventCarrier.pipes c.end_by_fault.new.carrier conn) c.new-piece.result.items c.carry.new.out.items c.as_slice.result.now c.end_by_fault.result.outcome c.in-Some.fault
    reads b piece fed.0 fed.1 ended (ap (λ l. l.is_cut) c.end_by_fault.ensures.value) (ap (λ (d : EventDone). d.outcome) c.end_by_fault.ensures.done)

-- ---- What stays tied

pub end_by_fault-requires-clause-tied : goal.end_by_fault-requires-clause-tied
end_by_fault-requires-clause-tied g c =
    let here = c.in_ok-heard.ensures.number ∙ c.in_ok-carried.ensures.number in
    c.in_ok-heard.ensures.tied _ (subst (λ (n : ℕ). IsTied c.carry.new.self (g.C.EventCarrier.pipes c.carry.new.carrier n)) (sym here) c.in_ok-carried.ensures.ties.tied)

pub end-requires-clause-tied : goal.end-requires-clause-tied
end-requires-clause-tied g c =
    let here = c.in_ok-heard.ensures.number ∙ c.in_ok-carried.ensures.number in
    c.in_ok-heard.ensures.tied _ (subst (λ (n : ℕ). IsTied c.carry.new.self (g.C.EventCarrier.pipes c.carry.new.carrier n)) (sym here) c.in_ok-carried.ensures.ties.tied)

pub returns-in-Some-clause-number : goal.returns-in-Some-clause-number
returns-in-Some-clause-number g c = c.end_by_fault.ensures.number ∙ c.in_ok-heard.ensures.number ∙ c.in_ok-carried.ensures.number

pub returns-in-Some-clause-ties : goal.returns-in-Some-clause-ties
returns-in-Some-clause-ties g c =
    ties_handed c.args.self.now.number c.args.self.now.number c.hear.new.self.number c.carry.new.self c.end_by_fault.new.self
    (g.C.EventCarrier.pipes c.args.carrier.now) (g.C.EventCarrier.pipes c.carry.new.carrier) (g.C.EventCarrier.pipes c.end_by_fault.new.carrier)
    (g.C.EventCarrier.began c.args.carrier.now) (g.C.EventCarrier.began c.carry.new.carrier) (g.C.EventCarrier.began c.end_by_fault.new.carrier)
    refl (c.in_ok-heard.ensures.number ∙ c.in_ok-carried.ensures.number) c.in_ok-carried.ensures.ties c.end_by_fault.ensures.ties

pub returns-clause-number : goal.returns-clause-number
returns-clause-number g c = c.end.ensures.number ∙ c.in_ok-heard.ensures.number ∙ c.in_ok-carried.ensures.number

pub returns-clause-ties : goal.returns-clause-ties
returns-clause-ties g c =
    ties_handed c.args.self.now.number c.args.self.now.number c.hear.new.self.number c.carry.new.self c.end.new.self
    (g.C.EventCarrier.pipes c.args.carrier.now) (g.C.EventCarrier.pipes c.carry.new.carrier) (g.C.EventCarrier.pipes c.end.new.carrier)
    (g.C.EventCarrier.began c.args.carrier.now) (g.C.EventCarrier.began c.carry.new.carrier) (g.C.EventCarrier.began c.end.new.carrier)
    refl (c.in_ok-heard.ensures.number ∙ c.in_ok-carried.ensures.number) c.in_ok-carried.ensures.ties c.end.ensures.ties

pub carry-requires-clause-early : goal.carry-requires-clause-early
carry-requires-clause-early g c = carries_at (g.C.EventCarrier.began c.args.carrier.now) (g.C.EventCarrier.pipes c.args.carrier.now) c.args.self.now.number c.requires.unasked
