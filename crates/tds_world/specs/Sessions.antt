-- The sessions of the servers stay those of the program, and each step of an answer fits one packet.
use Rattle.std.specs.Prelude.{ℕ, ◌≤◌, List, length, flat_map, Option, None}
use Rattle.std.specs.List.{AllByRecursion}
use Rattle.tds_packet.specs.declared.status.Reset.{Reset}
use Rattle.tds_request.specs.declared.request.Request.{Request}
use Rattle.tds_session.specs.Answer as answer
use Rattle.tds_session.specs.Answer.{Answers}
use Rattle.tds_session.specs.Attention.{acknowledging}
use Rattle.tds_session.specs.Session.{SessionState, IsSession}
use Rattle.tds_token.specs.declared.env_change.EnvChange.{EnvChange}
use Rattle.tds_token.specs.Layout.{IsTokens, spelling}
use Rattle.tds_world.specs.Connection.{Connection}
use Rattle.tds_world.specs.Laws.{OfEachConnection}
use Rattle.tds_world.specs.Steps.{OfSteps, OfAcknowledgements, sent_down}
use Rattle.tds_world.specs.World.{World}

-- Its tokens have a spelling, where no columns are known before them.
abbrev pub HasSpelling : answer.Step → Type 0
HasSpelling s = (columns : Option ℕ) × IsTokens None s.tokens (flat_map spelling s.tokens) columns

-- One packet of the smallest size, 512 bytes, holds the step's tokens: they have a spelling, which
-- has a byte at least and has room behind the header. The session behind the step is one of the
-- program.
pub record FitsStep (s : answer.Step) : Type 0 where
  pub spelled : HasSpelling s
  pub some : 1 ≤ length (flat_map spelling s.tokens)
  pub most : length (flat_map spelling s.tokens) ≤ 504
  pub after : IsSession s.after

-- So does one that acknowledges an attention and tells these changes.
pub record FitsAcknowledgement (changes : List EnvChange) : Type 0 where
  pub spelled :
      (columns : Option ℕ)
      × IsTokens None (acknowledging changes) (flat_map spelling (acknowledging changes)) columns
  pub some : 1 ≤ length (flat_map spelling (acknowledging changes))
  pub most : length (flat_map spelling (acknowledging changes)) ≤ 504

-- Answers of which it holds, from each session of the program on.
abbrev pub StayInRange : Answers → Type 0
StayInRange answers =
    (s : SessionState) (descriptor : ℕ) (reset : Option Reset) (q : Request) → IsSession s
    → AllByRecursion FitsStep (answers s descriptor reset q)

-- The server's session is one of the program, and each step that was sent or is due fits, and so
-- does each acknowledgement.
pub record IsInRange (c : Connection) : Type 0 where
  pub session : IsSession c.session
  pub sent : OfSteps FitsStep (sent_down c)
  pub due : AllByRecursion FitsStep c.due
  pub told : OfAcknowledgements FitsAcknowledgement (sent_down c)

abbrev pub AllInRange : World → Type 0
AllInRange w = OfEachConnection IsInRange w
