use Rattle.std.proofs.Common.{◌∙◌, ℕ, Option, ap, length, map, sym, ⊎_elim}
use Rattle.tds_world.specs.declared.outcome.Refusal.TheVariants.{UnknownConnection, UnknownLease, UnknownTicket}
use Rattle.tds_play.specs.Holdings.{conn_of}
use Rattle.tds_play.specs.Lending.{numbered_of, standing_of}
use Rattle.tds_play.specs.Noted.{about_of, held_of}
use Rattle.tds_play.specs.Player.{all_of}
use Rattle.tds_play.specs.Pooled.{numbers_kept, numbers_leased}
use Rattle.tds_play.specs.Stepping.{one_event}
use Rattle.tds_play.specs.declared.step.OneStep.{OneStep}
use Rattle.tds_play.proofs.pooled.Finding.{many_standings}
use Rattle.tds_play.proofs.player.Player.about.Goals.{in-GiveBack, in-GiveBack-2, in-Resume, in-Resume-2}
use Rattle.tds_play.proofs.player.Player.about.Goals as goal

pub returns-in-Clean-clause-value : goal.returns-in-Clean-clause-value
returns-in-Clean-clause-value g c =
    let p = c.args.self.now in
    c.numbered.ensures.value
    ∙ ap (λ (n : ℕ). numbered_of n c.in-Clean.conn UnknownConnection) (sym (many_standings p))
    ∙ sym (ap (λ (s : OneStep). about_of (one_event s) (map standing_of (all_of p)) p.max (numbers_leased p.leases) (numbers_kept p.tickets)) c.in-Clean.is)

pub returns-in-AtEnds-clause-value : goal.returns-in-AtEnds-clause-value
returns-in-AtEnds-clause-value g c =
    let p = c.args.self.now in
    c.at_ends.ensures.value
    ∙ sym (ap (λ (s : OneStep). about_of (one_event s) (map standing_of (all_of p)) p.max (numbers_leased p.leases) (numbers_kept p.tickets)) c.in-AtEnds.is)

pub returns-in-GiveBack-clause-value : goal.returns-in-GiveBack-clause-value
returns-in-GiveBack-clause-value g c =
    let p = c.args.self.now in
    let about = λ (s : OneStep). about_of (one_event s) (map standing_of (all_of p)) p.max (numbers_leased p.leases) (numbers_kept p.tickets) in
    let on = λ (n : ℕ). held_of (length (map standing_of (all_of p))) (conn_of (numbers_leased p.leases) n) UnknownLease in
    c.held.ensures.value
    ∙ ap (λ (o : Option ℕ). held_of (length p.links.items) o UnknownLease) c.lent_on.ensures
    ∙ ap (λ (n : ℕ). held_of n (conn_of (numbers_leased p.leases) c.in-GiveBack-1.lease) UnknownLease) (sym (many_standings p))
    ∙ elim c.in-GiveBack-1.branch [
      | in-GiveBack w ↦ ap on w.lease-is ∙ sym (⊎_elim (ap about) (ap about) w.in-GiveBack.is)
      | in-GiveBack-2 w ↦ ap on w.lease-is ∙ sym (⊎_elim (ap about) (ap about) w.in-GiveBack.is)
    ]

pub returns-in-Resume-clause-value : goal.returns-in-Resume-clause-value
returns-in-Resume-clause-value g c =
    let p = c.args.self.now in
    let about = λ (s : OneStep). about_of (one_event s) (map standing_of (all_of p)) p.max (numbers_leased p.leases) (numbers_kept p.tickets) in
    let on = λ (n : ℕ). held_of (length (map standing_of (all_of p))) (conn_of (numbers_kept p.tickets) n) UnknownTicket in
    c.held-in-Resume.ensures.value
    ∙ ap (λ (o : Option ℕ). held_of (length p.links.items) o UnknownTicket) c.kept_on.ensures
    ∙ ap (λ (n : ℕ). held_of n (conn_of (numbers_kept p.tickets) c.in-Resume-1.ticket) UnknownTicket) (sym (many_standings p))
    ∙ elim c.in-Resume-1.branch [
      | in-Resume w ↦ ap on w.ticket-is ∙ sym (⊎_elim (ap about) (ap about) w.in-Resume.is)
      | in-Resume-2 w ↦ ap on w.ticket-is ∙ sym (⊎_elim (ap about) (ap about) w.in-Resume.is)
    ]
