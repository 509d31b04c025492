use Rattle.std.proofs.Common.{◌∙◌, ℕ, Option, ap, length, map, sym}
use Rattle.tds_world.specs.declared.outcome.Refusal.TheVariants.{UnknownConnection, UnknownLease}
use Rattle.tds_play.specs.Holdings.{conn_of}
use Rattle.tds_play.specs.Lending.{numbered_of, standing_of}
use Rattle.tds_play.specs.Noted.{about_of, held_of}
use Rattle.tds_play.specs.Player.{all_of}
use Rattle.tds_play.specs.Pooled.{numbers_kept, numbers_leased}
use Rattle.tds_play.specs.Stepping as stepping
use Rattle.tds_play.specs.Stepping.{ends_event, lease_of}
use Rattle.tds_play.specs.declared.step.EndsStep.{EndsStep}
use Rattle.tds_play.proofs.Stepping.{about_caller, about_link}
use Rattle.tds_play.proofs.pooled.Finding.{many_standings}
use Rattle.tds_play.proofs.player.Player.at_ends.Goals as goal

pub returns-in-OfCaller-clause-value : goal.returns-in-OfCaller-clause-value
returns-in-OfCaller-clause-value g c =
    let p = c.args.self.now in
    c.held.ensures.value
    ∙ ap (λ (o : Option ℕ). held_of (length p.links.items) o UnknownLease) (c.lent_on.ensures ∙ ap (conn_of (numbers_leased p.leases)) c.lease.ensures)
    ∙ ap (λ (n : ℕ). held_of n (conn_of (numbers_leased p.leases) (lease_of c.in-OfCaller.step)) UnknownLease) (sym (many_standings p))
    ∙ sym (about_caller c.in-OfCaller.step p.max (map standing_of (all_of p)) (numbers_leased p.leases) (numbers_kept p.tickets))
    ∙ sym (ap (λ (s : EndsStep). about_of (ends_event s) (map standing_of (all_of p)) p.max (numbers_leased p.leases) (numbers_kept p.tickets)) c.in-OfCaller.is)

pub returns-in-OfLink-clause-value : goal.returns-in-OfLink-clause-value
returns-in-OfLink-clause-value g c =
    let p = c.args.self.now in
    c.numbered.ensures.value
    ∙ ap (λ (n : ℕ). numbered_of (length p.links.items) n UnknownConnection) c.conn.ensures
    ∙ ap (λ (n : ℕ). numbered_of n (stepping.conn_of c.in-OfLink.step) UnknownConnection) (sym (many_standings p))
    ∙ sym (about_link c.in-OfLink.step p.max (map standing_of (all_of p)) (numbers_leased p.leases) (numbers_kept p.tickets))
    ∙ sym (ap (λ (s : EndsStep). about_of (ends_event s) (map standing_of (all_of p)) p.max (numbers_leased p.leases) (numbers_kept p.tickets)) c.in-OfLink.is)
