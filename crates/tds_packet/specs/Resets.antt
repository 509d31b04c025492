-- The reset that a request asks for, and what it makes of the transaction (MS-TDS 2.2.3.1.2, 2.2.5.3.2, 2.2.7.9).
use Rattle.std.specs.Prelude.{ℕ, ◌==◌, Option, Some, None, if◌then◌else◌}
use Rattle.tds_packet.specs.declared.status.Reset.{Reset}
use Rattle.tds_packet.specs.declared.status.Reset.TheVariants.{Full, KeepTransaction}

-- the bit of a status that asks for it
abbrev pub reset_bit : Option Reset → ℕ
reset_bit None = 0
reset_bit (Some Full) = 0x08
reset_bit (Some KeepTransaction) = 0x10

-- the same, on a packet that stands behind this many others of its message: the first one alone has it
abbrev pub mark_bit : ℕ → Option Reset → ℕ
mark_bit before reset = if before == 0 then reset_bit reset else 0

-- of two resets the stronger one: a full reset, then one that keeps the transaction, then none
abbrev pub strongest : Option Reset → Option Reset → Option Reset
strongest None m = m
strongest (Some Full) m = Some Full
strongest (Some KeepTransaction) None = Some KeepTransaction
strongest (Some KeepTransaction) (Some m) = Some m

-- the descriptor in a request's header, where this one was heard: 0 under a full reset, which ends the transaction first
abbrev pub header_descriptor : Option Reset → ℕ → ℕ
header_descriptor (Some Full) heard = 0
header_descriptor _ heard = heard

-- the descriptor behind the end of the reset that was asked for; where none was, there is no such end
abbrev pub reset_effect : Option Reset → ℕ → Option ℕ
reset_effect None = λ descriptor. None
reset_effect (Some Full) = λ descriptor. Some 0
reset_effect (Some KeepTransaction) = λ descriptor. Some descriptor
