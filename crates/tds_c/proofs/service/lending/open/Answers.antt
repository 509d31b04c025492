use Rattle.std.proofs.Common.{Bool, refl, ap, arith}
use Rattle.tds_wire.specs.declared.told.Token.{Token}
use Rattle.tds_service.specs.Service.{Seat, opens}
use Rattle.tds_c.specs.service.Plain.{table_of}
use Rattle.tds_c.proofs.service.Tables.{no_room, opens_here}
use Rattle.tds_c.proofs.service.Leaving.{leaves_new}
use Rattle.tds_c.proofs.service.lending.open.Goals as goal

pub returns-clause-ok : goal.returns-clause-ok
returns-clause-ok c =
    let s = c.args.service.now in
    opens_here s.last s.given s.count c.args.lease c.args.seats.now c.new_seat.result (omega arith) c.requires.next c.new_seat.ensures.seat

pub returns-then-service-seats-clause-refused : goal.returns-then-service-seats-clause-refused
returns-then-service-seats-clause-refused c =
    let s = c.args.service.now in
    ap (λ (b : Bool). opens {T = Token} (table_of s c.args.seats.now) b) (no_room s.count c.args.seats.now c.requires.fits (omega arith))

pub returns-clause-leaves : goal.returns-clause-leaves
returns-clause-leaves c =
    let s = c.args.service.now in
    record {
      size = refl;
      clients = λ test new. leaves_new test s.count s.last s.size c.args.seats.now c.new_seat.result (omega arith)
          (ap (λ (x : Seat). x.number) c.new_seat.ensures.seat) c.new_seat.ensures.apart new;
    }
