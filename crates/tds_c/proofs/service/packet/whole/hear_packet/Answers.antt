use Rattle.std.proofs.Common.{◌≡◌, ◌∙◌, ℕ, List, [], drop, length, refl, sym, ap, subst, arith, rules}
use Rattle.std.proofs.lemmas.List.{drop_all, length-drop}
use Rattle.std.specs.Prelude.{true}
use Rattle.tds_walk.specs.Taking.{IsReadyValue}
use Rattle.tds_walk.specs.Wire.{truth}
use Rattle.tds_c.specs.declared.service.packet.Halt.TheVariants as halts
use Rattle.tds_c.specs.service.Here.{HasCome, Start}
use Rattle.tds_c.proofs.service.Here.{broken_any, come_none, hears_any, ready_never, stops_full}
use Rattle.tds_c.proofs.service.packet.whole.hear_packet.Goals as goal

pub returns-then-not-is_ready : goal.returns-then-not-is_ready
returns-then-not-is_ready c =
    hears_any _ _ _
    (λ none. let so = c.hear_walked.ensures.none none in (so.0.0, so.0.1, so.1 ∙ c.requires.none, so.0.3, so.2 ∙ c.requires.empty))
    (λ r at.
    let d = c.hear_walked.ensures.some (record { seat = c.args.seat.now; reading = r; rest = c.args.bytes.now }) c.args.tokens.now r refl at
    (rw (c.requires.none, c.requires.empty) (come_none _ _)) in
    record { halt = d.halt; is = d.is; next = d.next; stands = d.stands; lease_is = d.lease_is; request_is = d.request_is; within = d.within; stops = d.stops })

pub returns-in-Err : goal.returns-in-Err
returns-in-Err c =
    let ready : IsReadyValue c.args.walk.now = search rules in
    hears_any _ _ _ (λ none. absurd (ready_never c.args.walk.now c.args.memory.now ready none)) (λ r at.
    let x = c.in-Err.ensures.run r at in
    record {
      halt = halts.Broken c.in-Err.fault;
      is = c.packet_fault_number.ensures;
      next = x.0;
      stands = x.1;
      lease_is = c.whose.ensures.lease;
      request_is = c.whose.ensures.request;
      within = c.hear_whole.ensures.within;
      stops = broken_any _ _ _ c.in-Err.fault (truth c.args.ends) true x.2;
    })

pub returns-then-may_tell : goal.returns-then-may_tell
returns-then-may_tell c =
    let ready : IsReadyValue c.args.walk.now = search rules in
    hears_any _ _ _ (λ none. absurd (ready_never c.args.walk.now c.args.memory.now ready none)) (λ r at.
    let x = c.in_default.ensures.run r at in
    record {
      halt = halts.Full;
      is = refl;
      next = x.0;
      stands = x.1;
      lease_is = c.whose.ensures.lease;
      request_is = c.whose.ensures.request;
      within = c.hear_whole.ensures.within;
      stops =
          stops_full _ _ _ x.2 (λ none. omega (arith, ap length none, length-drop c.hear_whole.new.taken c.args.bytes.now, c.if-taken-bytes.true))
          (sym c.may_tell-then-count-tokens.ensures ∙ c.if-may_tell.true) (c.if-count-tokens.true ∙ c.hear_whole.ensures.same) (truth c.args.ends);
    })

pub returns-then-taken-bytes : goal.returns-then-taken-bytes
returns-then-taken-bytes c =
    let ready : IsReadyValue c.args.walk.now = search rules in
    hears_any _ _ _ (λ none. absurd (ready_never c.args.walk.now c.args.memory.now ready none)) (λ r at.
    let x = c.in_default.ensures.run r at in
    let d = c.hear_walked-then-taken-bytes.ensures.some (record { seat = c.args.seat.now; reading = r; rest = c.args.bytes.now }) c.args.tokens.now x.0 (sym c.hear_whole.ensures.same) x.1 x.2 in
    record { halt = d.halt; is = d.is; next = d.next; stands = d.stands; lease_is = d.lease_is; request_is = d.request_is; within = d.within; stops = d.stops })

pub returns : goal.returns
returns c =
    let ready : IsReadyValue c.args.walk.now = search rules in
    let none : drop c.hear_whole.new.taken c.args.bytes.now ≡ [] = drop_all c.hear_whole.new.taken c.args.bytes.now (omega (arith, c.if-taken-bytes.false)) in
    hears_any _ _ _ (λ none. absurd (ready_never c.args.walk.now c.args.memory.now ready none)) (λ r at.
    let x = c.in_default.ensures.run r at in
    let first : Start = record { seat = c.args.seat.now; reading = r; rest = c.args.bytes.now } in
    let come : HasCome first (record { seat = c.hear_whole.new.seat; reading = x.0; rest = [] }) (record { before = c.args.tokens.now; after = c.hear_whole.new.tokens; count = c.hear_whole.new.count }) =
    subst (λ (rest : List ℕ). HasCome first (record { seat = c.hear_whole.new.seat; reading = x.0; rest = rest }) (record { before = c.args.tokens.now; after = c.hear_whole.new.tokens; count = c.hear_whole.new.count })) none x.2 in
    let e = c.end_ready.ensures first _ x.0 x.1 come in
    record {
      halt = e.0;
      is = e.1;
      next = e.2;
      stands = e.3;
      lease_is = c.whose.ensures.lease;
      request_is = c.whose.ensures.request;
      within = c.hear_whole.ensures.within;
      stops = rw none e.4;
    })
