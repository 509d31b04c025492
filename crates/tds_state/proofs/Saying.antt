-- What is said of a session adds to its past.
use Rattle.std.proofs.Common.{ℕ, List, ◌∷◌, [], Option, Some, None, ap, refl}
use Rattle.tds_packet.specs.declared.status.Reset.{Reset}
use Rattle.tds_state.specs.declared.asked.Request.{Request}
use Rattle.tds_state.specs.declared.session.Session.{Session}
use Rattle.tds_state.specs.declared.tracker.Tracker.{Tracker}
use Rattle.tds_state.specs.Hearing.{Heard, state_news}
use Rattle.tds_state.specs.Pasts.{HasPast, Begins, Goes, Cancels, Tells, Ends, session_said}
use Rattle.tds_state.specs.Sessions.{session_asked, session_at_login, session_cancelled, session_ended, session_sent, session_told}
use Rattle.tds_state.specs.Tracking.{tracks, with_bytes}
use Rattle.tds_wire.specs.declared.told.Token.{Token}

pub said_nothing : HasPast session_at_login
unfolding session_said
said_nothing = record { past = []; is = refl }

pub said_asked : (s : Session) (kind : Request) (reset : Option Reset) → HasPast s → HasPast (session_asked s kind reset)
unfolding session_said
said_asked s kind reset h = record { past = Begins kind reset ∷ h.past; is = ap (λ (t : Session). session_asked t kind reset) h.is }

pub said_sent : (s : Session) (bytes : List ℕ) → HasPast s → HasPast (session_sent s bytes)
unfolding session_said
said_sent s bytes h = record { past = Goes bytes ∷ h.past; is = ap (λ (t : Session). session_sent t bytes) h.is }

pub said_cancelled : (s : Session) → HasPast s → HasPast (session_cancelled s)
unfolding session_said
said_cancelled s h = record { past = Cancels ∷ h.past; is = ap session_cancelled h.is }

pub said_told : (s : Session) (heard : Heard) → HasPast s → HasPast (session_told s heard)
unfolding session_said
said_told s heard h = record { past = Tells heard ∷ h.past; is = ap (λ (t : Session). session_told t heard) h.is }

pub said_ended : (s : Session) → HasPast s → HasPast (session_ended s)
unfolding session_said
said_ended s h = record { past = Ends ∷ h.past; is = ap session_ended h.is }

pub said_heard : (t : Tracker) (bytes : List ℕ) (token : Option Token) → HasPast t.session → HasPast (tracks t bytes token).session
said_heard t bytes None h = h
said_heard t bytes (Some token) h = said_told t.session (state_news token (with_bytes t.partial bytes).bytes) h
