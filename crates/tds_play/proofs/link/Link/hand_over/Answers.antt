use Rattle.std.proofs.Common.{◌∷◌, [], cond, refl}
use Rattle.tds_play.specs.Failures.{Send}
use Rattle.tds_play.proofs.Failing.{none_fails, sent_fails}
use Rattle.tds_play.proofs.Tying.{handed_ties, live_so, number_so, recounted_so}
use Rattle.tds_play.proofs.any_bytes.Stays.{handed_stays, stays}
use Rattle.tds_play.proofs.link.Link.hand_over.Goals as goal

-- ---- Nothing

pub returns-then-is_empty-clause-ties : goal.returns-then-is_empty-clause-ties
returns-then-is_empty-clause-ties g c = record { tied = c.requires.tied; others = λ other differs. refl; begun = refl; faithful = λ f. f }

pub returns-then-is_empty-clause-still : goal.returns-then-is_empty-clause-still
returns-then-is_empty-clause-still g c = stays c.args.self.now (g.C.EventCarrier.pipes c.args.carrier.now c.args.self.now.number)

pub returns-then-is_empty-clause-failed : goal.returns-then-is_empty-clause-failed
returns-then-is_empty-clause-failed g c = λ calls before fails.
    none_fails calls (Send c.args.direction ∷ []) before (g.C.EventCarrier.pipes c.args.carrier.now c.args.self.now.number) fails

-- ---- Some bytes

pub returns-clause-number : goal.returns-clause-number
returns-clause-number g c = number_so c.args.self.now c.went.new.self c.args.direction _ c.went.ensures

pub returns-clause-live : goal.returns-clause-live
returns-clause-live g c = live_so c.args.self.now c.went.new.self c.args.direction _ c.went.ensures c.requires.live

pub returns-clause-rest : goal.returns-clause-rest
returns-clause-rest g c = recounted_so c.args.self.now c.went.new.self c.args.direction _ c.went.ensures

pub returns-clause-ties : goal.returns-clause-ties
returns-clause-ties g c =
    handed_ties c.args.self.now c.went.new.self c.args.direction _ c.args.bytes.now (cond c.in_ok-lost.lost 1 0)
    (g.C.EventCarrier.pipes c.args.carrier.now) (g.C.EventCarrier.pipes c.hand_bytes.new.carrier) (g.C.EventCarrier.began c.args.carrier.now) (g.C.EventCarrier.began c.hand_bytes.new.carrier)
    c.requires.tied c.requires.live refl c.went.ensures c.in_ok-lost.ensures.handed c.in_ok-lost.ensures.begun

pub returns-clause-handed : goal.returns-clause-handed
returns-clause-handed g c = λ full. c.in_ok-lost.ensures.handed.here

pub returns-clause-still : goal.returns-clause-still
returns-clause-still g c =
    let conn = c.args.self.now.number in
    handed_stays c.args.self.now c.went.new.self (g.C.EventCarrier.pipes c.args.carrier.now conn) (g.C.EventCarrier.pipes c.hand_bytes.new.carrier conn) c.args.direction c.args.bytes.now (cond c.in_ok-lost.lost 1 0)
    (recounted_so c.args.self.now c.went.new.self c.args.direction _ c.went.ensures) c.in_ok-lost.ensures.handed.here

pub returns-clause-failed : goal.returns-clause-failed
returns-clause-failed g c = λ calls before fails.
    let conn = c.args.self.now.number in
    sent_fails calls before c.in_ok-lost.lost (g.C.EventCarrier.pipes c.args.carrier.now conn) (g.C.EventCarrier.pipes c.hand_bytes.new.carrier conn) c.args.direction c.args.bytes.now
    (c.requires.tied.holds c.requires.live).is_open c.in_ok-lost.ensures.handed.here fails
