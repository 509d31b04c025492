use Rattle.tds_c.specs.declared.service.plain.TdsSeat.{TdsSeat}
use Rattle.tds_c.proofs.service.Acting.{sends_one}
use Rattle.std.specs.Prelude.{true}
use Rattle.tds_c.proofs.service.sending.finish.Goals as goal

pub returns-clause-acts : goal.returns-clause-acts
returns-clause-acts c =
    sends_one c.args.seat.now c.go_on.new.self true c.args.kept.now c.in_default.ensures.ok c.go_on.ensures.line c.go_on.ensures.place c.go_on.ensures.number
