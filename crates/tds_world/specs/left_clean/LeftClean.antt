-- What a cleaning leaves.
use Rattle.std.specs.Prelude.{ℕ, ◌≡◌, true, Some}
use Rattle.std.specs.List.{AllByRecursion}
use Rattle.tds_packet.specs.declared.status.Reset.TheVariants.{Full}
use Rattle.tds_session.specs.Answer.{Answers, Step}
use Rattle.tds_session.specs.Session.{SessionState, IsFresh}
use Rattle.tds_world.specs.Cleaning.{clean_request}
use Rattle.tds_world.specs.Connection.{Connection}
use Rattle.tds_world.specs.Laws.{OfEachConnection}
use Rattle.tds_world.specs.Record.{Record, is_finished}
use Rattle.tds_world.specs.World.{World}

-- A server's answers to what a cleaning asks leave a fresh session: where it asks for a full reset,
-- each step does.
abbrev pub AnswersClean : Answers → Type 0
AnswersClean answers =
    (s : SessionState) (descriptor : ℕ)
    → AllByRecursion (λ (step : Step). IsFresh step.after) (answers s descriptor (Some Full) clean_request)

-- Where a connection's newest request asked this under a full mark, and is finished, its server has no
-- transaction and no settings. Whoever is lent it next finds it so.
abbrev pub IsLeftClean : Connection → Type 0
IsLeftClean c =
    (q : Record)
    → c.current ≡ Some q → q.asking.request ≡ clean_request → q.asking.mark ≡ Some Full
    → is_finished q.fate ≡ true → IsFresh c.session

abbrev pub LeftClean : World → Type 0
LeftClean w = OfEachConnection IsLeftClean w
