use Rattle.std.proofs.Common.{◌∙◌, refl, ap, sym}
use Rattle.std.specs.Prelude.{Option}
use Rattle.tds_wire.specs.declared.told.Token.{Token}
use Rattle.tds_service.specs.Service.{Place, Seat, Free, Draining, does}
use Rattle.tds_service.specs.Table.{rest_of}
use Rattle.tds_c.specs.service.Plain.{seat_of, table_of}
use Rattle.tds_c.proofs.service.Steps.{closes, settles}
use Rattle.tds_c.specs.declared.service.plain.TdsClient.{TdsClient}
use Rattle.tds_c.specs.service.Clients.{apart}
use Rattle.tds_c.proofs.service.Leaving.{leaves_gone, leaves_put}
use Rattle.tds_c.proofs.service.giving.settle.Goals as goal

pub returns-in-Free-clause-table : goal.returns-in-Free-clause-table
returns-in-Free-clause-table c = λ test all reply d e first number moved.
    let s = c.args.service.now in
    settles s.last s.given s.count c.args.seats.now c.args.index test Free all reply c.args.rest d c.args.seat c.at.result c.requires.within first e number moved c.at.ensures.seat (ap rest_of c.in-Free.is)

pub returns-in-Draining-clause-table : goal.returns-in-Draining-clause-table
returns-in-Draining-clause-table c = λ test all reply d e first number moved.
    let s = c.args.service.now in
    settles s.last s.given s.count c.args.seats.now c.args.index test Draining all reply c.args.rest d c.args.seat c.at-in-Draining.result c.requires.within first e number moved c.at-in-Draining.ensures.seat (ap rest_of c.in-Draining.is)

pub returns-in-Closed-clause-table : goal.returns-in-Closed-clause-table
returns-in-Closed-clause-table c = λ test all reply d e first number moved.
    let s = c.args.service.now in
    let seats = c.args.seats.now in
    let gone = closes s.last s.given s.count seats c.take_out.new.used c.args.index test all reply d c.requires.fits c.requires.within first c.take_out.ensures.len c.take_out.ensures.front in
    gone ∙ ap (λ (p : Option Place). (does {T = Token} (table_of s seats) s.given test (seat_of d) p all reply).service) (sym (ap rest_of c.in-Closed.is))

pub returns-in-Free-clause-leaves : goal.returns-in-Free-clause-leaves
returns-in-Free-clause-leaves c = λ d e number is.
    let s = c.args.service.now in
    record {
      size = refl;
      clients = λ test new. leaves_put test s.count c.args.seats.now c.args.index d c.at.result c.requires.within e
          (ap (λ (x : Seat). x.number) c.at.ensures.seat ∙ number) (ap (λ (k : TdsClient). apart k) c.at.ensures.client ∙ is);
    }

pub returns-in-Draining-clause-leaves : goal.returns-in-Draining-clause-leaves
returns-in-Draining-clause-leaves c = λ d e number is.
    let s = c.args.service.now in
    record {
      size = refl;
      clients = λ test new. leaves_put test s.count c.args.seats.now c.args.index d c.at-in-Draining.result c.requires.within e
          (ap (λ (x : Seat). x.number) c.at-in-Draining.ensures.seat ∙ number) (ap (λ (k : TdsClient). apart k) c.at-in-Draining.ensures.client ∙ is);
    }

pub returns-in-Closed-clause-leaves : goal.returns-in-Closed-clause-leaves
returns-in-Closed-clause-leaves c = λ d e number is.
    let s = c.args.service.now in
    record {
      size = refl;
      clients = λ test new. leaves_gone test s.count c.args.seats.now c.take_out.new.used c.args.index c.requires.fits c.requires.within c.take_out.ensures.len c.take_out.ensures.front;
    }
