use Rattle.std.proofs.Common.{◌≡◌, ◌∙◌, true, false, Bool, sym, subst}
use Rattle.tds_play.specs.Plays.{RepresentsConnection, cut_where}
use Rattle.tds_play.proofs.pooled.Back.{out_either}
use Rattle.tds_play.proofs.seat.Held.come_back.Goals.{in-Free, in-Draining, in-Closed, then-lost-via-then-lost, then-lost-via-else-lost+then-matches, in-Closed-matches, in_default}
use Rattle.tds_play.proofs.seat.Held.come_back.Goals as goal

pub returns-then-lost-clause-refines : goal.returns-then-lost-clause-refines
returns-then-lost-clause-refines g c = λ size engine seat then m rests played same.
    let left = c.leave.ensures.refines size engine seat then m played in
    elim c.then-lost.branch [
      | then-lost-via-then-lost w ↦ subst (λ (b : Bool). RepresentsConnection c.args.self.now.link.number size engine c.leave.new.self.link then (g.C.EventCarrier.pipes c.leave.new.carrier c.args.self.now.link.number) (cut_where b m)) (sym w.if-lost.true) left
      | then-lost-via-else-lost+then-matches w ↦ elim w.match-matches.branch [
        | in-Closed-matches w' ↦ elim c.match-answer.branch [
          | in-Free z ↦ (let e = w'.in-Closed-matches.is in let f = z.answer-is in absurd (cc))
          | in-Draining z ↦ (let e = w'.in-Closed-matches.is in let f = z.answer-is in absurd (cc))
          | in-Closed z ↦ (let bad : true ≡ false = sym rests ∙ out_either c.args.answer z.in-Closed.is in absurd (cc))
        ]
        | in_default w' ↦ (let e = w'.matches-is in let f = w.if-matches.true in absurd (cc))
      ]
    ]
