use Rattle.std.proofs.Common.{◌∙◌, ◌<◌, length, refl, sym, ap, arith}
use Rattle.tds_service.specs.Table.{place_of as place_named}
use Rattle.tds_c.proofs.service.Tables.{lends_at, same_get}
use Rattle.tds_service.specs.Service.{Seat}
use Rattle.tds_c.specs.declared.service.plain.TdsClient.{TdsClient}
use Rattle.tds_c.specs.service.Clients.{apart}
use Rattle.tds_c.proofs.service.Leaving.{leaves_put}
use Rattle.tds_c.proofs.service.lending.lend_at.Goals as goal

pub returns-clause-lent : goal.returns-clause-lent
returns-clause-lent c = λ test d e first.
    let s = c.args.service.now in
    let seats = c.args.seats.now in
    let i = c.args.index in
    let lt : i < length seats = omega (arith, c.requires.within, c.requires.fits) in
    lends_at s.last s.given s.count c.args.lease seats i test (place_named c.args.place) c.args.reset _ c.marked.result c.at.result d
    c.requires.within first e (same_get seats i _ d lt ∙ sym e) (c.requires.idle d e) c.marked.ensures.seat c.at.ensures.seat

pub returns-clause-leaves : goal.returns-clause-leaves
returns-clause-leaves c =
    let s = c.args.service.now in
    let seats = c.args.seats.now in
    let i = c.args.index in
    let lt : i < length seats = omega (arith, c.requires.within, c.requires.fits) in
    record {
      size = refl;
      clients = λ test new. leaves_put test s.count seats i _ c.at.result c.requires.within (same_get seats i _ _ lt)
          (ap (λ (x : Seat). x.number) (c.at.ensures.seat) ∙ ap (λ (x : Seat). x.number) c.marked.ensures.seat)
          (ap (λ (k : TdsClient). apart k) c.at.ensures.client ∙ c.marked.ensures.apart);
    }
