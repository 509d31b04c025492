-- A packet that was judged, and is not taken yet.
use Rattle.std.specs.Prelude.{List, []}
use Rattle.tds_token.specs.declared.token.Token.{Token}
use Rattle.tds_token.specs.Contents.{Contents}
use Rattle.tds_token.specs.Told.{told}
use Rattle.tds_client.specs.declared.client.taking.Judged.{Judged}
use Rattle.tds_client.specs.declared.heard.FinalDone.{FinalDone}
use Rattle.tds_client.specs.declared.heard.FinalDone.TheVariants.{Awaited, Answered, Acknowledged}
use Rattle.tds_client.specs.declared.state.Taken.{Taken}
use Rattle.tds_client.specs.declared.state.Taken.TheVariants as takes
use Rattle.tds_client.specs.Session.{ClientSession, Stage, Idle, Sending, Reading, Cancelling, Broken}
use Rattle.tds_client.specs.Taking.{ClientMove}

-- where the client is then
abbrev pub stage_behind : Taken → Stage → Stage
stage_behind takes.More stage = stage
stage_behind takes.Finished stage = Idle
stage_behind takes.Acknowledged stage = Idle
stage_behind takes.NoMemory stage = stage

-- what the end of a message answers in cancelling
abbrev pub answer_skipped : FinalDone → Taken
answer_skipped Awaited = takes.More
answer_skipped Answered = takes.More
answer_skipped Acknowledged = takes.Acknowledged

-- the client that takes it
abbrev pub judged : ClientSession → Judged → ClientSession
judged s next = record {
  size = s.size;
  stage = stage_behind next.answer s.stage;
  heard = next.heard;
  columns = next.columns;
}

-- what is told of its contents: nothing but in reading
abbrev pub told_in : Stage → Contents → List Token
told_in Idle contents = []
told_in (Sending kind left packets) contents = []
told_in Reading contents = told contents.tokens
told_in Cancelling contents = []
told_in (Broken fault) contents = []

-- all that it does
abbrev pub took_by : ClientSession → Contents → Judged → ClientMove
took_by s contents next = record {
  answer = next.answer;
  session = judged s next;
  tokens = told_in s.stage contents;
}
