use Rattle.std.proofs.Common.{◌≡◌, ◌∙◌, length, ◌+◌, ap, arith, refl}
use Rattle.tds_play.proofs.pooled.Closing.{ended_whole, leases_only, loses_as, loses_lease, loses_ticket, one_more_ended, tickets_first, tickets_too}
use Rattle.tds_play.proofs.player.Player.end_all.Goals as goal
use Rattle.tds_play.proofs.player.Player.end_all.Goals.{in-Some, in-Some-take_at, in_default, in_default-take_at}

pub leases-init : goal.leases-init
leases-init g c = record {
  leases = refl;
  rest = refl;
  pool = record { rest = record { name = refl; max = refl; size = refl; last = refl }; none = λ none. none };
}

pub leases-preserved : goal.leases-preserved
leases-preserved g c =
    let first = c.args.self.now in
    let old = c.leases.self in
    let inv = c.leases.invariant in
    let next = one_more_ended c.leases.place (c.leases.place + 1) first.leases old.leases c.take_at.new.self inv.leases c.take_at.ensures.left (omega (arith)) in
    elim c.match-take_at.branch [
      | in-Some w ↦ record {
        leases = ap (λ p. p.leases) w.self-is ∙ next;
        rest = leases_only first old c.match-take_at.self w.spend.new.pool c.take_at.new.self inv.rest w.self-is;
        pool = loses_as first.pool w.spend.new.pool c.match-take_at.self.pool (loses_lease w.in-Some.lease.number first.pool old.pool w.spend.new.pool inv.pool w.spend.ensures.lost) (ap (λ p. p.pool) w.self-is);
      }
      | in_default w ↦ record {
        leases = ap (λ p. p.leases) w.self-is ∙ next;
        rest = leases_only first old c.match-take_at.self old.pool c.take_at.new.self inv.rest w.self-is;
        pool = loses_as first.pool old.pool c.match-take_at.self.pool inv.pool (ap (λ p. p.pool) w.self-is);
      }
    ]

pub tickets-init : goal.tickets-init
tickets-init g c =
    let first = c.args.self.now in
    let old = c.leases.self in
    let inv = c.leases.invariant in
    record {
      leases = ended_whole c.leases.place first.leases old.leases inv.leases (omega (arith, c.leases-test.false, c.leases.auto.place-end, c.len-place-end.ensures));
      tickets = ap (λ p. p.tickets) inv.rest;
      rest = tickets_first first old inv.rest;
      pool = inv.pool;
    }

pub tickets-preserved : goal.tickets-preserved
tickets-preserved g c =
    let first = c.args.self.now in
    let old = c.tickets.self in
    let inv = c.tickets.invariant in
    let next = one_more_ended c.tickets.place (c.tickets.place + 1) first.tickets old.tickets c.take_at-in-tickets.new.self inv.tickets c.take_at-in-tickets.ensures.left (omega (arith)) in
    elim c.match-take_at-2.branch [
      | in-Some-take_at w ↦ record {
        leases = ap (λ p. p.leases) w.self-is ∙ inv.leases;
        tickets = ap (λ p. p.tickets) w.self-is ∙ next;
        rest = tickets_too first old c.match-take_at-2.self w.abandon.new.self c.take_at-in-tickets.new.self inv.rest w.self-is;
        pool = loses_as first.pool w.abandon.new.self c.match-take_at-2.self.pool (loses_ticket w.in-Some-take_at.ticket first.pool old.pool w.abandon.new.self inv.pool w.abandon.ensures.shown w.abandon.ensures.rest) (ap (λ p. p.pool) w.self-is);
      }
      | in_default-take_at w ↦ record {
        leases = ap (λ p. p.leases) w.self-is ∙ inv.leases;
        tickets = ap (λ p. p.tickets) w.self-is ∙ next;
        rest = tickets_too first old c.match-take_at-2.self old.pool c.take_at-in-tickets.new.self inv.rest w.self-is;
        pool = loses_as first.pool old.pool c.match-take_at-2.self.pool inv.pool (ap (λ p. p.pool) w.self-is);
      }
    ]

pub returns-clause-tickets : goal.returns-clause-tickets
returns-clause-tickets g c =
    let many : length c.leases.self.tickets ≡ length c.args.self.now.tickets = ap (λ p. length p.tickets) c.leases.invariant.rest in
    ended_whole c.tickets.place c.args.self.now.tickets c.tickets.self.tickets c.tickets.invariant.tickets
    (omega (arith, c.tickets-test.false, c.tickets.auto.place-end, c.len-place-end-2.ensures, many))
