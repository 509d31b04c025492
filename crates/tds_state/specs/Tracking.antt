-- A tracker: a session, and what has come of the token that an answer is in.
use Rattle.std.specs.Prelude.{ℕ, ◌-◌, ◌==◌, ◌||◌, Bool, List, ◌++◌, length, take, get_or, Option, Some, None, if◌then◌else◌}
use Rattle.tds_wire.specs.declared.told.Token.{Token}
use Rattle.tds_state.specs.declared.tracker.Tracker.{Tracker}
use Rattle.tds_state.specs.Hearing.{state_news}
use Rattle.tds_state.specs.KeptBytes.{KeptBytes, no_bytes_kept, with_more_kept}
use Rattle.tds_state.specs.Sessions.{session_told, session_at_login}

abbrev pub new_tracker : Tracker
new_tracker = record { session = session_at_login; partial = no_bytes_kept 8192 }

-- ENVCHANGE, SESSIONSTATE, FEATUREEXTACK and RETURNVALUE are kept, up to the most; of any other token its first byte
abbrev pub is_needed : ℕ → Bool
is_needed kind = (kind == 0xE3) || (kind == 0xE4) || (kind == 0xAE) || (kind == 0xAC)

abbrev pub needed : KeptBytes → List ℕ → List ℕ
needed k more = if is_needed (get_or (k.bytes ++ more) 0 0) then more else take (1 - length k.bytes) more

abbrev pub with_bytes : KeptBytes → List ℕ → KeptBytes
with_bytes k more = with_more_kept k (needed k more)

-- bytes of an answer up to the end of a token, or inside one
abbrev pub tracks : Tracker → List ℕ → Option Token → Tracker
tracks t bytes None = record t { partial = with_bytes t.partial bytes }
tracks t bytes (Some token) = record {
  session = session_told t.session (state_news token (with_bytes t.partial bytes).bytes);
  partial = no_bytes_kept t.partial.most;
}
