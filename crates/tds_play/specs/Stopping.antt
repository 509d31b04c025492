-- A play that cleans nothing: each of its connections that isn't cut comes to rest by a cancel too.
use Rattle.std.specs.List.{AllByRecursion}
use Rattle.tds_session.specs.Answer.{Answers}
use Rattle.tds_world.specs.declared.event.Setup.{Setup}
use Rattle.tds_world.specs.declared.report.Report.{Report}
use Rattle.tds_world.specs.rest.RestShown.{CanCancelShown, last_snapshots}
use Rattle.tds_world.specs.World.{World}
use Rattle.tds_play.specs.WholePlay.{CanAllStop}

-- So it is in the model; and none that the report shows is being cleaned.
pub record AllStop (setup : Setup) (answers : Answers) (w : World) (report : Report) : Type 0 where
  pub world : CanAllStop setup answers w
  pub shown : AllByRecursion CanCancelShown (last_snapshots report)
