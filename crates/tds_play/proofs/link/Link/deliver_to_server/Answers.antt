use Rattle.std.proofs.Common.{[], ◌∷◌, ◌||◌, Bool, ◌≡◌, ◌∙◌, ◌++◌, ℕ, Option, sym, ap, refl, subst, min, cond, arith, Some, None}
use Rattle.tds_packet.specs.declared.kind.Direction.TheVariants.{ToServer, ToClient}
use Rattle.tds_packet.specs.Reading.{with_taken}
use Rattle.tds_session.specs.Answer.{Answers, answer_of}
use Rattle.tds_world.specs.Arrivals.{to_server}
use Rattle.tds_world.specs.Deliveries.{DeliversOn}
use Rattle.tds_ends.specs.ModelGives.{IsCountable}
use Rattle.tds_play.specs.Between.{RepresentsEnds}
use Rattle.tds_ends.specs.Deliveries.{AllArrive}
use Rattle.tds_play.specs.Pipe.{Pipe, traffic, next_of, sent_on}
use Rattle.tds_play.specs.Plays.{RepresentsConnection}
use Rattle.tds_play.proofs.Doing.{ended}
use Rattle.tds_play.proofs.Losing.{delivered_up}
use Rattle.tds_play.proofs.Played.{Ends, served_on, stays_by}
use Rattle.tds_play.proofs.deliveries.ServerEvent.{come_served, delivered_alike, none_told, both_false, delivered_by}
use Rattle.tds_play.specs.Failures.{Carry, Fails, Send}
use Rattle.tds_play.proofs.Failing.{brought_as, fails_numbered, fails_of_more}
use Rattle.tds_ends.specs.AllBytes.{ServerHasRead, new_reader}
use Rattle.tds_play.specs.declared.link.EventDone.{EventDone}
use Rattle.tds_play.specs.Reads.{ServerIsFed, given_by}
use Rattle.tds_play.proofs.any_bytes.Brought.{faulty_served, fed_so, served_reads}
use Rattle.tds_play.specs.Ties.{IsTied}
use Rattle.tds_play.proofs.Tying.{faithful_before, retied_reader, ties_handed}
use Rattle.tds_play.proofs.any_bytes.Stays.{stays, stays_handed, stays_numbered}
use Rattle.tds_play.proofs.Unasked.{carries_at, sends_then}
use Rattle.tds_play.proofs.link.Link.deliver_to_server.Goals as goal

-- The server takes all that came, so it finds no fault.
pub returns-clause-refines : goal.returns-clause-refines
returns-clause-refines g c = λ size engine seat m faithful played promises few.
    let live = played.lives c.requires.live in
    let at = sym live.engine_is in
    let answers : Answers = answer_of (g.E.Engine.statements_of c.args.self.now.server.engine) (g.E.Engine.step_of c.args.self.now.server.engine) in
    let pipe : Option Pipe = g.C.EventCarrier.pipes c.args.carrier.now c.args.self.now.number in
    let k : ℕ = c.in_ok-carried.carried.count in
    let exact : k ≡ min k c.args.self.now.to_server = omega (arith, c.in_ok-carried.ensures.within, c.at_most-count.ensures.within) in
    let all = subst (λ e. AllArrive g.row.E.Denot (answer_of (g.E.Engine.statements_of e) (g.E.Engine.step_of e)) c.args.self.now.server_reader m m.to_server.waiting) at (promises.arrive c.args.self.now.server_reader live.server_reads live.server_size) in
    let a = come_served c.serves_alike.ensures answers c.args.self.now seat pipe m k k live.stands exact all in
    let came = faithful_before c.args.self.now.number c.carry.new.self.number c.end_by_fault.new.self (g.C.EventCarrier.pipes c.carry.new.carrier) (g.C.EventCarrier.pipes c.end_by_fault.new.carrier)
    (g.C.EventCarrier.began c.carry.new.carrier) (g.C.EventCarrier.began c.end_by_fault.new.carrier) c.in_ok-carried.ensures.number c.end_by_fault.ensures.ties faithful in
    let brought = c.in_ok-carried.ensures.brought came in
    let counted = c.in_ok-carried.ensures.counted in
    let piece : c.as_slice-piece.result.now ≡ next_of (traffic pipe ToServer) k = c.as_slice-piece.ensures.value ∙ brought.bytes ∙ ap (λ xs. xs ++ next_of (traffic pipe ToServer) k) c.new-piece.ensures.items in
    let reader = ap (λ l. l.server_reader) counted in
    let server = ap (λ l. l.server) counted in
    let fed = c.in_ok-feed_server.ensures.served a.packets a.rest a.then (rw (reader, piece) a.comes) (rw (server, c.new-reply.ensures.items) a.serves) in
    absurd (none_told c.in-Some.fault c.in_ok-feed_server.field-0 c.feed_server.result c.in-Some.is c.in_ok-feed_server.was (c.in_ok-feed_server.was ∙ fed.0))

pub returns-in-None-clause-refines : goal.returns-in-None-clause-refines
returns-in-None-clause-refines g c = λ size engine seat m faithful played promises few.
    let conn : ℕ = c.args.self.now.number in
    let live = played.lives c.requires.live in
    let at = sym live.engine_is in
    let answers : Answers = answer_of (g.E.Engine.statements_of c.args.self.now.server.engine) (g.E.Engine.step_of c.args.self.now.server.engine) in
    let pipe : Option Pipe = g.C.EventCarrier.pipes c.args.carrier.now conn in
    let mid : Option Pipe = g.C.EventCarrier.pipes c.carry.new.carrier conn in
    let after : Option Pipe = g.C.EventCarrier.pipes c.hand_over.new.carrier conn in
    let k : ℕ = c.in_ok-carried.carried.count in
    let n : ℕ = c.at_most-count.result in
    let here = live.stands.up.counts in
    let exact : k ≡ min k c.args.self.now.to_server = omega (arith, c.in_ok-carried.ensures.within, c.at_most-count.ensures.within) in
    let all = subst (λ e. AllArrive g.row.E.Denot (answer_of (g.E.Engine.statements_of e) (g.E.Engine.step_of e)) c.args.self.now.server_reader m m.to_server.waiting) at (promises.arrive c.args.self.now.server_reader live.server_reads live.server_size) in
    let a = come_served c.serves_alike.ensures answers c.args.self.now seat pipe m k k live.stands exact all in
    let out = c.in_ok-lost-in-None.ensures in
    let handed = faithful_before conn c.hand_over.new.self.number c.end.new.self (g.C.EventCarrier.pipes c.hand_over.new.carrier) (g.C.EventCarrier.pipes c.end.new.carrier)
    (g.C.EventCarrier.began c.hand_over.new.carrier) (g.C.EventCarrier.began c.end.new.carrier) (out.number ∙ c.in_ok-carried.ensures.number) c.end.ensures.ties faithful in
    let came = faithful_before conn c.carry.new.self.number c.hand_over.new.self (g.C.EventCarrier.pipes c.carry.new.carrier) (g.C.EventCarrier.pipes c.hand_over.new.carrier)
    (g.C.EventCarrier.began c.carry.new.carrier) (g.C.EventCarrier.began c.hand_over.new.carrier) c.in_ok-carried.ensures.number out.ties handed in
    let brought = c.in_ok-carried.ensures.brought came in
    let counted = c.in_ok-carried.ensures.counted in
    let piece : c.as_slice-piece.result.now ≡ next_of (traffic pipe ToServer) k = c.as_slice-piece.ensures.value ∙ brought.bytes ∙ ap (λ xs. xs ++ next_of (traffic pipe ToServer) k) c.new-piece.ensures.items in
    let reader = ap (λ l. l.server_reader) counted in
    let server = ap (λ l. l.server) counted in
    let fed = c.in_ok-feed_server.ensures.served a.packets a.rest a.then (rw (reader, piece) a.comes) (rw (server, c.new-reply.ensures.items) a.serves) in
    let turned = record c.carry.new.self { server = c.feed_server.new.server; server_reader = c.feed_server.new.reader } in
    let by = delivered_by c.args.self.now c.carry.new.self turned c.hand_over.new.self pipe mid after k a.rest c.as_slice.result.now c.in_ok-carried.carried.lost (cond c.in_ok-lost-in-None.lost 1 0)
    (c.requires.tied.holds c.requires.live).is_open counted refl (ap (λ r. r.taken) fed.2) brought.pipe
    (λ empty. let h = c.hand_over.ensures.nothing empty in (h.1, ap (λ k. g.C.EventCarrier.pipes k conn) h.2))
    (λ full. (
      out.counted full,
      subst (λ (k : ℕ). g.C.EventCarrier.pipes c.hand_over.new.carrier k ≡ sent_on (g.C.EventCarrier.pipes c.carry.new.carrier k) ToClient c.as_slice.result.now (cond c.in_ok-lost-in-None.lost 1 0)) c.in_ok-carried.ensures.number (out.handed full),
    )) in
    let countable = subst (λ e. (k : ℕ) → IsCountable (to_server (answer_of (g.E.Engine.statements_of e) (g.E.Engine.step_of e)) k m)) at few in
    let lanes = subst (λ e. DeliversOn (answer_of (g.E.Engine.statements_of e) (g.E.Engine.step_of e)) m) at promises.delivers in
    let stands : RepresentsEnds c.hand_over.new.self seat after (to_server answers k m) =
    delivered_alike answers (c.the_other_stays.ensures.serves answers) c.args.self.now c.hand_over.new.self seat pipe after m k k _ c.as_slice.result.now live.stands exact (lanes k).0 (countable k).1 a (c.as_slice.ensures.value ∙ fed.1.1) (rw fed.1.0 at by) in
    let last = c.hand_over.ensures.rest in
    let reads = ap (λ l. l.server_reader) last ∙ fed.2 ∙ ap (λ r. with_taken r a.rest) reader in
    let ends : Ends size engine c.hand_over.new.self = record {
      engine_is = ap (λ l. l.server.engine) last ∙ c.in_ok-feed_server.ensures.engine ∙ ap (λ s. s.engine) server ∙ live.engine_is;
      server_reads = ap (λ r. r.direction) reads ∙ live.server_reads;
      server_size = ap (λ r. r.size) reads ∙ live.server_size;
    } in
    let same : Answers = answer_of (g.E.Engine.statements_of engine) (g.E.Engine.step_of engine) in
    let served : RepresentsConnection conn size engine c.hand_over.new.self seat after (to_server same k m) =
    served_on same conn size k engine c.args.self.now c.hand_over.new.self seat pipe after m played c.requires.live
    (stays_by c.args.self.now c.carry.new.self turned c.hand_over.new.self _ _ _ counted refl last) ends
    (subst (λ e. RepresentsEnds c.hand_over.new.self seat after (to_server (answer_of (g.E.Engine.statements_of e) (g.E.Engine.step_of e)) k m)) live.engine_is stands) in
    delivered_up conn size c.args.most k engine c.end.result c.either.result c.end.new.self seat (g.C.EventCarrier.pipes c.end.new.carrier conn) same m c.end.ensures.done
    (λ whole. c.in_ok-carried.ensures.all (both_false _ _ (sym c.either.ensures ∙ whole)).0 ∙ c.at_most-count.ensures.value ∙ ap (min c.args.most) here)
    (omega (arith, c.in_ok-carried.ensures.within, c.at_most-count.ensures.within, here))
    (ended conn c.hand_over.new.self.number size engine c.hand_over.new.self c.end.new.self seat (g.C.EventCarrier.pipes c.hand_over.new.carrier) (g.C.EventCarrier.pipes c.end.new.carrier) c.either.result (to_server same k m)
    (out.number ∙ c.in_ok-carried.ensures.number) (c.end.ensures.refines size engine seat _) served)

pub returns-clause-failed : goal.returns-clause-failed
returns-clause-failed g c = λ fine.
    let calls = Carry ToServer ∷ Send ToClient ∷ [] in
    brought_as c.args.self.now.number c.carry.new.self.number calls c.end_by_fault.result c.in_ok-carried.carried.lost c.end_by_fault.new.self
    (g.C.EventCarrier.pipes c.carry.new.carrier) (g.C.EventCarrier.pipes c.end_by_fault.new.carrier)
    c.in_ok-carried.ensures.number (c.end_by_fault.ensures.failed calls)
    (fails_of_more (Carry ToServer ∷ []) (Send ToClient ∷ []) c.in_ok-carried.carried.lost (g.C.EventCarrier.pipes c.carry.new.carrier c.args.self.now.number) (c.in_ok-carried.ensures.failed fine))

pub returns-in-None-clause-failed : goal.returns-in-None-clause-failed
returns-in-None-clause-failed g c = λ fine.
    let calls = Carry ToServer ∷ Send ToClient ∷ [] in
    let conn : ℕ = c.args.self.now.number in
    let out = c.in_ok-lost-in-None.ensures in
    let here = c.in_ok-carried.ensures.number in
    let pipes = g.C.EventCarrier.pipes c.hand_over.new.carrier in
    let both : Bool = c.in_ok-carried.carried.lost || c.in_ok-lost-in-None.lost in
    let handed : Fails calls both (pipes c.carry.new.self.number) =
    out.failed (Carry ToServer ∷ []) c.in_ok-carried.carried.lost
    (fails_numbered conn c.carry.new.self.number (Carry ToServer ∷ []) c.in_ok-carried.carried.lost (g.C.EventCarrier.pipes c.carry.new.carrier) (sym here) (c.in_ok-carried.ensures.failed fine)) in
    brought_as conn c.hand_over.new.self.number calls c.end.result c.either.result c.end.new.self pipes (g.C.EventCarrier.pipes c.end.new.carrier)
    (out.number ∙ here) (c.end.ensures.failed calls)
    (subst (λ b. Fails calls b (pipes conn)) (sym c.either.ensures) (fails_numbered c.carry.new.self.number conn calls both pipes here handed))

pub returns-in-None-clause-reads : goal.returns-in-None-clause-reads
returns-in-None-clause-reads g c = λ size n columns reads.
    let conn : ℕ = c.args.self.now.number in
    let live = c.requires.live in
    let pipe : Option Pipe = g.C.EventCarrier.pipes c.args.carrier.now conn in
    let mid : Option Pipe = g.C.EventCarrier.pipes c.carry.new.carrier conn in
    let b = c.in_ok-carried.ensures.any in
    let counted = c.in_ok-carried.ensures.counted in
    let number = c.in_ok-carried.ensures.number in
    let reader = ap (λ l. l.server_reader) counted in
    let turned = record c.carry.new.self { server = c.feed_server.new.server; server_reader = c.feed_server.new.reader } in
    let piece = c.as_slice-piece.ensures.value ∙ b.appended ∙ ap (λ xs. xs ++ b.bytes) c.new-piece.ensures.items in
    let before : ServerHasRead (new_reader ToServer size) c.carry.new.self.server_reader (traffic pipe ToServer).came = rw reader (reads.server live) in
    let fed = fed_so c.feed_server.result c.in_ok-feed_server.field-0 None (ServerIsFed size c.feed_server.new.reader ((traffic pipe ToServer).came ++ c.as_slice-piece.result.now))
    c.in_ok-feed_server.was c.in-None.is
    (c.feed_server.ensures.any size (traffic pipe ToServer).came before) in
    served_reads size n c.args.most c.in_ok-carried.carried.count c.args.self.now turned c.end.new.self columns pipe mid (g.C.EventCarrier.pipes c.end.new.carrier conn) c.new-piece.result.items c.carry.new.out.items c.as_slice-piece.result.now c.end.result.outcome
    reads live b piece (ap (λ l. l.client_reader) counted) (ap given_by counted)
    fed (c.no_fault_is_read.ensures (new_reader ToServer size) c.feed_server.new.reader _ fed.0 fed.1)
    (stays_handed conn c.carry.new.self.number c.hand_over.new.self.number turned turned c.hand_over.new.self c.end.new.self
    (g.C.EventCarrier.pipes c.carry.new.carrier) (g.C.EventCarrier.pipes c.hand_over.new.carrier) (g.C.EventCarrier.pipes c.end.new.carrier)
    number c.in_ok-lost-in-None.ensures.number (stays turned mid) c.in_ok-lost-in-None.ensures.still c.end.ensures.still)
    (ap (λ (d : EventDone). d.outcome) c.end.ensures.done)

pub returns-clause-reads : goal.returns-clause-reads
returns-clause-reads g c = λ size n columns reads.
    let conn : ℕ = c.args.self.now.number in
    let live = c.requires.live in
    let pipe : Option Pipe = g.C.EventCarrier.pipes c.args.carrier.now conn in
    let mid : Option Pipe = g.C.EventCarrier.pipes c.carry.new.carrier conn in
    let b = c.in_ok-carried.ensures.any in
    let counted = c.in_ok-carried.ensures.counted in
    let number = c.in_ok-carried.ensures.number in
    let reader = ap (λ l. l.server_reader) counted in
    let turned = record c.carry.new.self { server = c.feed_server.new.server; server_reader = c.feed_server.new.reader } in
    let piece = c.as_slice-piece.ensures.value ∙ b.appended ∙ ap (λ xs. xs ++ b.bytes) c.new-piece.ensures.items in
    let before : ServerHasRead (new_reader ToServer size) c.carry.new.self.server_reader (traffic pipe ToServer).came = rw reader (reads.server live) in
    let fed = fed_so c.feed_server.result c.in_ok-feed_server.field-0 (Some c.in-Some.fault) (ServerIsFed size c.feed_server.new.reader ((traffic pipe ToServer).came ++ c.as_slice-piece.result.now))
    c.in_ok-feed_server.was c.in-Some.is
    (c.feed_server.ensures.any size (traffic pipe ToServer).came before) in
    let ended = stays_numbered c.carry.new.self.number conn turned c.end_by_fault.new.self (g.C.EventCarrier.pipes c.carry.new.carrier) (g.C.EventCarrier.pipes c.end_by_fault.new.carrier) number c.end_by_fault.ensures.still in
    faulty_served size n c.args.most c.in_ok-carried.carried.count c.args.self.now turned c.end_by_fault.new.self columns pipe mid (g.C.EventCarrier.pipes c.end_by_fault.new.carrier conn) c.new-piece.result.items c.carry.new.out.items c.as_slice-piece.result.now c.end_by_fault.result.outcome c.in-Some.fault
    reads b piece (ap given_by counted) fed ended (ap (λ l. l.is_cut) c.end_by_fault.ensures.value) (ap (λ (d : EventDone). d.outcome) c.end_by_fault.ensures.done)

-- ---- What stays tied

pub hand_over-requires-clause-tied : goal.hand_over-requires-clause-tied
hand_over-requires-clause-tied g c =
    retied_reader c.carry.new.self c.feed_server.new.server c.feed_server.new.reader c.args.self.now.number (g.C.EventCarrier.pipes c.carry.new.carrier)
    c.in_ok-carried.ensures.number c.feed_server.ensures.reads c.in_ok-carried.ensures.ties.tied

pub end_by_fault-requires-clause-tied : goal.end_by_fault-requires-clause-tied
end_by_fault-requires-clause-tied g c =
    retied_reader c.carry.new.self c.feed_server.new.server c.feed_server.new.reader c.args.self.now.number (g.C.EventCarrier.pipes c.carry.new.carrier)
    c.in_ok-carried.ensures.number c.feed_server.ensures.reads c.in_ok-carried.ensures.ties.tied

pub end-requires-clause-tied : goal.end-requires-clause-tied
end-requires-clause-tied g c =
    let out = c.in_ok-lost-in-None.ensures in
    subst (λ (n : ℕ). IsTied c.hand_over.new.self (g.C.EventCarrier.pipes c.hand_over.new.carrier n)) (sym out.number) out.ties.tied

pub returns-clause-number : goal.returns-clause-number
returns-clause-number g c = c.end_by_fault.ensures.number ∙ c.in_ok-carried.ensures.number

pub returns-clause-ties : goal.returns-clause-ties
returns-clause-ties g c =
    ties_handed c.args.self.now.number c.args.self.now.number c.carry.new.self.number c.carry.new.self c.end_by_fault.new.self
    (g.C.EventCarrier.pipes c.args.carrier.now) (g.C.EventCarrier.pipes c.carry.new.carrier) (g.C.EventCarrier.pipes c.end_by_fault.new.carrier)
    (g.C.EventCarrier.began c.args.carrier.now) (g.C.EventCarrier.began c.carry.new.carrier) (g.C.EventCarrier.began c.end_by_fault.new.carrier)
    refl c.in_ok-carried.ensures.number c.in_ok-carried.ensures.ties c.end_by_fault.ensures.ties

pub returns-in-None-clause-number : goal.returns-in-None-clause-number
returns-in-None-clause-number g c = c.end.ensures.number ∙ c.in_ok-lost-in-None.ensures.number ∙ c.in_ok-carried.ensures.number

pub returns-in-None-clause-ties : goal.returns-in-None-clause-ties
returns-in-None-clause-ties g c =
    let conn : ℕ = c.args.self.now.number in
    let here = c.in_ok-carried.ensures.number in
    let out = c.in_ok-lost-in-None.ensures in
    ties_handed conn conn c.hand_over.new.self.number c.hand_over.new.self c.end.new.self
    (g.C.EventCarrier.pipes c.args.carrier.now) (g.C.EventCarrier.pipes c.hand_over.new.carrier) (g.C.EventCarrier.pipes c.end.new.carrier)
    (g.C.EventCarrier.began c.args.carrier.now) (g.C.EventCarrier.began c.hand_over.new.carrier) (g.C.EventCarrier.began c.end.new.carrier)
    refl (out.number ∙ here)
    (ties_handed conn conn c.carry.new.self.number c.carry.new.self c.hand_over.new.self
    (g.C.EventCarrier.pipes c.args.carrier.now) (g.C.EventCarrier.pipes c.carry.new.carrier) (g.C.EventCarrier.pipes c.hand_over.new.carrier)
    (g.C.EventCarrier.began c.args.carrier.now) (g.C.EventCarrier.began c.carry.new.carrier) (g.C.EventCarrier.began c.hand_over.new.carrier)
    refl here c.in_ok-carried.ensures.ties out.ties)
    c.end.ensures.ties

pub carry-requires-clause-early : goal.carry-requires-clause-early
carry-requires-clause-early g c = carries_at (g.C.EventCarrier.began c.args.carrier.now) (g.C.EventCarrier.pipes c.args.carrier.now) c.args.self.now.number c.requires.unasked

pub hand_over-requires-clause-once : goal.hand_over-requires-clause-once
hand_over-requires-clause-once g c =
    let told = g.C.EventCarrier.began c.carry.new.carrier in
    let pipes : ℕ → Option Pipe = g.C.EventCarrier.pipes c.carry.new.carrier in
    sends_then told told c.args.self.now.number c.carry.new.self.number pipes (pipes c.args.self.now.number) c.in_ok-carried.ensures.number refl refl c.in_ok-carried.ensures.sends
