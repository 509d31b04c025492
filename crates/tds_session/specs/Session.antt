-- A session: its settings, its transaction descriptor and the next one; and what a reset does to it.
use Rattle.std.specs.Prelude.{ℕ, ◌+◌, ◌-◌, ◌^◌, ◌<◌, ◌≡◌, ℤ, pos, Bool, ◌&&◌, not, ◌==◌, List, length, replicate, Option, Some, None, slice_index_or, slice_set, unwrap_or, IfSome, FitsSigned}
use Rattle.std.specs.Int.{w32}
use Rattle.std.specs.List.{All}
use Rattle.tds_packet.specs.declared.status.Reset.{Reset}
use Rattle.tds_packet.specs.declared.status.Reset.TheVariants.{Full, KeepTransaction}

-- what a connection's server keeps for its user
pub record SessionState : Type 0 where
  pub settings : List (Option ℤ)  -- of the keys a to z
  pub descriptor : ℕ  -- of the transaction, 0 outside one
  pub next_descriptor : ℕ  -- of the next transaction

-- no key is set
abbrev pub no_settings : List (Option ℤ)
no_settings = replicate 26 None

-- the session that a connection begins with
abbrev pub new_session : SessionState
new_session = record { settings = no_settings; descriptor = 0; next_descriptor = 1 }

-- a setting is unset, or a number of 32 bits with a sign
abbrev pub IsSetting : Option ℤ → Type 0
IsSetting setting = IfSome setting (FitsSigned w32)

-- what each session of the program keeps: a place for each key, and descriptors of 64 bits, of
-- which the next one is not 0
pub record IsSession (s : SessionState) : Type 0 where
  pub keys : length s.settings ≡ 26
  pub values : All IsSetting s.settings
  pub descriptor : s.descriptor < 2 ^ 64
  pub next_some : 0 < s.next_descriptor
  pub next_fits : s.next_descriptor < 2 ^ 64

-- the greatest number of 64 bits; it is never begun, so that the next descriptor has room
abbrev pub last_descriptor : ℕ
last_descriptor = 18446744073709551615

-- the value of a key, 0 where it is unset; keys are the letters from a (97) to z
abbrev pub value_of : SessionState → ℕ → ℤ
value_of s key = unwrap_or (slice_index_or s.settings (key - 97) None) (pos 0)

-- the session with a key set
abbrev pub with_value : ℕ → ℤ → SessionState → SessionState
with_value key value s = record s { settings = slice_set s.settings (key - 97) (Some value) }

-- whether the session is in a transaction
abbrev pub is_in_transaction : SessionState → Bool
is_in_transaction s = not (s.descriptor == 0)

-- whether a transaction can begin: there is none, and a descriptor is left
abbrev pub can_begin : SessionState → Bool
can_begin s = (s.descriptor == 0) && not (s.next_descriptor == last_descriptor)

-- the session in a new transaction, of the next descriptor
abbrev pub transacting : SessionState → SessionState
transacting s = record s { descriptor = s.next_descriptor; next_descriptor = s.next_descriptor + 1 }

-- the session outside its transaction
abbrev pub out_of_transaction : SessionState → SessionState
out_of_transaction s = record s { descriptor = 0 }

-- whether a transaction can end and the next one begin at once: there is one, and a descriptor is
-- left
abbrev pub can_renew : SessionState → Bool
can_renew s = is_in_transaction s && not (s.next_descriptor == last_descriptor)

-- the session behind its transaction, in a new one of the next descriptor
abbrev pub renewed : SessionState → SessionState
renewed s = transacting (out_of_transaction s)

-- the session after a reset (MS-TDS 2.2.3.1.2): its settings are gone, and its transaction too
-- unless the reset keeps it; the next descriptor survives both, so that none comes twice
abbrev pub after_reset : Reset → SessionState → SessionState
after_reset Full s = record s { settings = no_settings; descriptor = 0 }
after_reset KeepTransaction s = record s { settings = no_settings }

-- nothing of an earlier user is left
abbrev pub IsFresh : SessionState → Type 0
IsFresh s = (s.settings ≡ no_settings) × (s.descriptor ≡ 0)
