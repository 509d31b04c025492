-- A server that keeps the rules of MS-TDS, as far as a client's session rests on them. It is any server: what it answers may depend
-- on all that its users do, which no session has: so each request has an answer of its own, by the request's number.
use Rattle.std.specs.Prelude.{◌≡◌, ℕ, ◌||◌, not, Bool, true, false, List, [], ◌∷◌, Option, Some, None}
use Rattle.tds_packet.specs.declared.status.Reset.{Reset}
use Rattle.tds_packet.specs.Layout.{has_bit}
use Rattle.tds_packet.specs.Resets.{header_descriptor}
use Rattle.tds_token.specs.declared.env_change.EnvChange.TheVariants as changes
use Rattle.tds_token.specs.DoneStatus.{more}
use Rattle.tds_client.specs.declared.sign.Sign.{Sign}
use Rattle.tds_client.specs.declared.sign.Sign.TheVariants as signs
use Rattle.tds_client.specs.Acts.{is_acknowledgement}
use Rattle.tds_client.specs.Hearing.{change_placed, ended_at, mark_after}
use Rattle.tds_service.specs.Parts.{Item, told_by}

-- A session: the transaction that is open, 0 for none, and all else that a reset sets anew.
pub record Session (V : Type 0) : Type 0 where
  pub transaction : ℕ
  pub settings : V

-- What a server says, one thing after the other: a token, with the session behind it; or a message's end, between two tokens or
-- inside one.
pub data ServerStep (V T : Type 0) : Type 0 where
  Says : (item : Item T) (after : Session V) → ServerStep V T
  Ends : ServerStep V T
  Breaks : ServerStep V T

-- The settings behind a login and behind a reset; what is answered to the request of this number, in this session, if it asks for
-- this reset and its header names this transaction (MS-TDS 2.2.5.3.2); and what is said to an attention behind that request.
pub record AnyServer (V T : Type 0) : Type 0 where
  pub settings : V
  pub answers : (request : ℕ) (s : Session V) (reset : Option Reset) (named : ℕ) → List (ServerStep V T)
  pub stops : (request : ℕ) (s : Session V) → List (ServerStep V T)

-- ---- Sessions

-- The session behind a reset (MS-TDS 2.2.3.1.2): all is set anew, bit 08 ends the transaction, and bit 10 keeps it.
abbrev pub reset_by : {V : Type 0} → V → Reset → Session V → Session V
reset_by settings reset s = record { transaction = header_descriptor (Some reset) s.transaction; settings = settings }

-- The session behind a token. A transaction begins and ends with its change alone (MS-TDS 2.2.7.9, types 8, 9, 10). Where a reset is
-- asked for and isn't done yet, it is done first, which the server tells (type 18); that the transaction which it ends was rolled
-- back may be told too (type 10), and of a request that resets its session by itself (`sp_reset_connection`) both may.
abbrev pub Leads : {V : Type 0} → V → Option Reset → Session V → Sign → Session V → Type 0
Leads settings None s signs.Nothing after = after.transaction ≡ s.transaction
Leads settings None s (signs.Change change) after = change_placed None s.transaction change ≡ Some after.transaction
Leads settings None s (signs.Done kind status) after = after.transaction ≡ s.transaction
Leads settings (Some reset) s signs.Nothing after = after ≡ s
Leads settings (Some reset) s (signs.Change changes.ResetDone) after = after ≡ reset_by settings reset s
Leads settings (Some reset) s (signs.Change (changes.Rollback d)) after =
    (ended_at s.transaction d ≡ Some after.transaction) × (after.settings ≡ s.settings)
Leads settings (Some reset) s (signs.Change (changes.Begin d)) after = ⊥
Leads settings (Some reset) s (signs.Change (changes.Commit d)) after = ⊥
Leads settings (Some reset) s (signs.Done kind status) after = after ≡ s

-- The reset that is still to be done behind a token.
abbrev pub reset_left : Option Reset → Sign → Option Reset
reset_left reset signs.Nothing = reset
reset_left reset (signs.Change change) = mark_after change reset
reset_left reset (signs.Done kind status) = reset

-- ---- Answers

-- Whether the last DONE was final: it doesn't say that more follows (MS-TDS 2.2.7.6).
abbrev pub final_by : Bool → Sign → Bool
final_by final signs.Nothing = final
final_by final (signs.Change change) = final
final_by final (signs.Done kind status) = not (has_bit status more)

-- An answer is one message. Its last DONE is final, none acknowledges an attention, and a reset that was asked for is done in it.
abbrev pub IsAnswer : {V T : Type 0} → V → Option Reset → Session V → Bool → List (ServerStep V T) → Type 0
IsAnswer settings reset s final [] = ⊥
IsAnswer settings reset s final (Says item after ∷ steps) =
    Leads settings reset s item.sign after × (is_acknowledgement item.sign ≡ false)
    × IsAnswer settings (reset_left reset item.sign) after (final_by final item.sign) steps
IsAnswer settings reset s final (Ends ∷ steps) = (reset ≡ None) × (final ≡ true) × (steps ≡ [])
IsAnswer settings reset s final (Breaks ∷ steps) = ⊥

-- ---- Attentions (MS-TDS 2.2.1.7)

-- After an attention nothing is run. The transaction may be rolled back, which the server tells.
abbrev pub LeadsOut : {V : Type 0} → Session V → Sign → Session V → Type 0
LeadsOut s signs.Nothing after = after.transaction ≡ s.transaction
LeadsOut s (signs.Change (changes.Rollback d)) after = ended_at s.transaction d ≡ Some after.transaction
LeadsOut s (signs.Change (changes.Begin d)) after = ⊥
LeadsOut s (signs.Change (changes.Commit d)) after = ⊥
LeadsOut s (signs.Change changes.ResetDone) after = ⊥
LeadsOut s (signs.Done kind status) after = after.transaction ≡ s.transaction

abbrev pub UnlessAcknowledged : {V T : Type 0} → Bool → List (ServerStep V T) → Type 0 → Type 0
UnlessAcknowledged true steps others = steps ≡ []
UnlessAcknowledged false steps others = others

-- The message that comes may be broken off, between two tokens or inside one. The end of the message that has the acknowledgement, a
-- DONE with bit 0020 (MS-TDS 2.2.7.6), is the last thing said.
abbrev pub IsStop : {V T : Type 0} → Session V → Bool → List (ServerStep V T) → Type 0
IsStop s acknowledged [] = ⊥
IsStop s acknowledged (Says item after ∷ steps) =
    LeadsOut s item.sign after × IsStop after (acknowledged || is_acknowledgement item.sign) steps
IsStop s acknowledged (Ends ∷ steps) = UnlessAcknowledged acknowledged steps (IsStop s false steps)
IsStop s acknowledged (Breaks ∷ steps) = UnlessAcknowledged acknowledged steps (IsStop s false steps)

-- ---- A server that keeps the rules, whatever it answers

pub record IsLawful {V T : Type 0} (engine : AnyServer V T) : Type 0 where
  pub answers : (request : ℕ) (s : Session V) (reset : Option Reset) (named : ℕ)
      → IsAnswer engine.settings reset s false (engine.answers request s reset named)
  pub stops : (request : ℕ) (s : Session V) → IsStop s false (engine.stops request s)

-- What a caller may be told of them.
abbrev pub told_of : {V T : Type 0} → List (ServerStep V T) → List T
told_of [] = []
told_of (Says item after ∷ steps) = told_by item.sign item.token (told_of steps)
told_of (Ends ∷ steps) = told_of steps
told_of (Breaks ∷ steps) = told_of steps
