-- What reports show of what a cleaning leaves.
use Rattle.std.specs.Prelude.{ℕ, ◌≡◌, List, [], ◌∷◌, Bool, false, ◌==◌}
use Rattle.std.specs.List.{AllByRecursion}
use Rattle.tds_session.specs.Session.{IsFresh}
use Rattle.tds_world.specs.declared.event.Event.{Event}
use Rattle.tds_world.specs.declared.event.Event.TheVariants as event
use Rattle.tds_world.specs.declared.outcome.Outcome.{Outcome}
use Rattle.tds_world.specs.declared.outcome.Outcome.TheVariants as outcome
use Rattle.tds_world.specs.declared.report.ClientView.TheVariants as view
use Rattle.tds_world.specs.declared.report.EventReport.{EventReport}
use Rattle.tds_world.specs.declared.report.Report.{Report}
use Rattle.tds_world.specs.declared.report.Snapshot.{Snapshot}

-- Of connection n it is shown: where its client is idle, its server has no transaction and no settings.
abbrev pub IsFreshIfIdle : ℕ → Snapshot → Type 0
IsFreshIfIdle n s = s.conn ≡ n → s.client ≡ view.Idle → IsFresh s.server

-- Whether an event lent connection n.
abbrev pub lent_here : ℕ → Outcome → Bool
lent_here n (outcome.Leased lease conn opened) = conn == n
lent_here n o = false

-- So it is up to the event that lends it, and behind that one too.
abbrev pub FreshUntilLent : ℕ → List EventReport → Type 0
FreshUntilLent n [] = Unit {0}
FreshUntilLent n (r ∷ rs) =
    AllByRecursion (IsFreshIfIdle n) r.snapshots × (lent_here n r.outcome ≡ false → FreshUntilLent n rs)

-- From the event on that cleans a connection it is so. A cleaning that sent nothing would leave the
-- client idle, and the server as it was.
abbrev pub FreshIfCleaned : Event → Outcome → List EventReport → Type 0
FreshIfCleaned (event.Clean n) (outcome.Cleaning lease request) rs = FreshUntilLent n rs
FreshIfCleaned e o rs = Unit {0}

abbrev pub EachLeftClean : List Event → List EventReport → Type 0
EachLeftClean [] rs = Unit {0}
EachLeftClean (e ∷ es) [] = ⊥
EachLeftClean (e ∷ es) (r ∷ rs) = FreshIfCleaned e r.outcome (r ∷ rs) × EachLeftClean es rs

abbrev pub ShowsLeftClean : List Event → Report → Type 0
ShowsLeftClean events r = EachLeftClean events r.events
