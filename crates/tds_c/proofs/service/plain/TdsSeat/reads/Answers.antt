use Rattle.std.proofs.Common.{◌∙◌, ap}
use Rattle.std.specs.Prelude.{false}
use Rattle.tds_c.specs.service.Plain.{fault_of, line_of}
use Rattle.tds_c.proofs.service.Hearings.{sign_known}
use Rattle.tds_c.proofs.service.plain.TdsSeat.reads.Goals as goal

pub breaks-requires : goal.breaks-requires
breaks-requires c = ap fault_of c.number.ensures ∙ sign_known false c.heard.result c.args.sign c.in-Err.fault c.in-Err.ensures.fault
