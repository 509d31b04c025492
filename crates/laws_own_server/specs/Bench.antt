-- The bench's server as one that keeps the rules: what it says of its answers and to an attention, token by token.
use Rattle.std.specs.Prelude.{ℕ, suc, ℤ, Bool, true, false, not, List, [], ◌∷◌, Option, None}
use Rattle.tds_packet.specs.declared.status.Reset.{Reset}
use Rattle.tds_packet.specs.Resets.{header_descriptor}
use Rattle.tds_token.specs.declared.env_change.EnvChange.{EnvChange}
use Rattle.tds_token.specs.declared.env_change.EnvChange.TheVariants as change
use Rattle.tds_token.specs.declared.token.Token.{Token}
use Rattle.tds_token.specs.declared.token.Token.TheVariants as token
use Rattle.tds_request.specs.declared.request.Request.{Request}
use Rattle.tds_session.specs.declared.attention.OnAttention.{OnAttention}
use Rattle.tds_session.specs.Answer as answer
use Rattle.tds_session.specs.Answer.{Answers}
use Rattle.tds_session.specs.Attention.{Stop, acknowledging, stopped}
use Rattle.tds_session.specs.Session.{SessionState, no_settings}
use Rattle.tds_client.specs.Signs.{sign_of}
use Rattle.tds_service.specs.Parts.{Item}
use Rattle.laws_conforming_server.specs.Lawful.{Session, ServerStep, Says, Ends, AnyServer}

-- What a reset sets anew: the settings of the keys. And whether an answer is in its middle: behind its first step, and before its last.
-- Behind a login and behind a full reset that says nothing, since there is no transaction to be rolled back.
pub record Kept : Type 0 where
  pub settings : List (Option ℤ)
  pub midway : Bool

abbrev pub kept_anew : Kept
kept_anew = record { settings = no_settings; midway = true }

-- ---- What is said

abbrev pub item_of : Token → Item Token
item_of t = record { sign = sign_of t; token = t }

-- The transaction behind a change.
abbrev pub moved_by : Option Reset → ℕ → EnvChange → ℕ
moved_by reset descriptor (change.Begin d) = d
moved_by reset descriptor (change.Commit d) = 0
moved_by reset descriptor (change.Rollback d) = 0
moved_by reset descriptor change.ResetDone = header_descriptor reset descriptor

abbrev pub moved : Option Reset → ℕ → Token → ℕ
moved reset descriptor (token.Env change) = moved_by reset descriptor change
moved reset descriptor _ = descriptor

-- Tokens, one after the other, and then the rest.
abbrev pub said_tokens : Option Reset → ℕ → Kept → List Token → List (ServerStep Kept Token) → List (ServerStep Kept Token)
said_tokens reset descriptor kept [] others = others
said_tokens reset descriptor kept (t ∷ ts) others =
    Says (item_of t) (record { transaction = moved reset descriptor t; settings = kept })
    ∷ said_tokens reset (moved reset descriptor t) kept ts others

abbrev pub ends_if : Bool → List (ServerStep Kept Token) → List (ServerStep Kept Token)
ends_if true others = Ends ∷ others
ends_if false others = others

-- A step of an answer: its tokens, of which each has the settings behind the step, and the message's end behind the last one.
abbrev pub said_step : ℕ → answer.Step → List (ServerStep Kept Token) → List (ServerStep Kept Token)
said_step descriptor s others =
    said_tokens s.reset descriptor (record { settings = s.after.settings; midway = not s.last }) s.tokens (ends_if s.last others)

abbrev pub said : ℕ → List answer.Step → List (ServerStep Kept Token)
said descriptor [] = []
said descriptor (s ∷ ss) = said_step descriptor s (said s.after.descriptor ss)

-- What acknowledges an attention: the changes that it tells, and a DONE with bit 0020, which end a message.
abbrev pub said_stop : ℕ → Stop → List (ServerStep Kept Token)
said_stop descriptor stop =
    said_tokens None descriptor (record { settings = stop.after.settings; midway = false }) (acknowledging stop.changes) (Ends ∷ [])

-- ---- The engine

-- What a request asks, and how many transactions had begun before it: a reset sets that not anew.
pub record Asked : Type 0 where
  pub request : Request
  pub begun : ℕ

-- Of each request by its number.
abbrev pub Log : Type 0
Log = ℕ → Asked

abbrev pub state_of : ℕ → Session Kept → SessionState
state_of begun s = record { settings = s.settings.settings; descriptor = s.transaction; next_descriptor = suc begun }

abbrev pub bench : OnAttention → Answers → Log → AnyServer Kept Token
bench attention answers log = record {
  settings = kept_anew;
  answers = λ request s reset named. said s.transaction (answers (state_of (log request).begun s) named reset (log request).request);
  stops = λ request s. said_stop s.transaction (stopped attention s.settings.midway (state_of 0 s));
}
