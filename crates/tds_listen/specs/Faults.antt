-- The faults' numbers, and what a client is broken by.
use Rattle.std.specs.Prelude.{ℕ, ◌≡◌}
use Rattle.tds_client.specs.declared.fault.ClientFault.{ClientFault}
use Rattle.tds_client.specs.declared.fault.ClientFault.TheVariants.{Lost}
use Rattle.tds_client.specs.Session.{ClientSession, Stage, Idle, Broken, lost}
use Rattle.tds_client.specs.Taking.{broken_by, behind_message}
use Rattle.tds_listen.specs.declared.fault.ListenFault.{ListenFault}
use Rattle.tds_listen.specs.declared.fault.ListenFault.TheVariants as faults

abbrev pub fault_number : ListenFault → ℕ
fault_number (faults.Client fault) = 1
fault_number (faults.Wire refusal) = 2
fault_number faults.Cut = 3
fault_number faults.ResetUnanswered = 4

-- A fault breaks the client, by its own fault or as one whose connection is lost, and changes nothing else.
abbrev pub broken_at : ClientSession → ListenFault → ClientSession
broken_at s (faults.Client fault) = broken_by s fault
broken_at s (faults.Wire refusal) = lost s
broken_at s faults.Cut = lost s
broken_at s faults.ResetUnanswered = lost s

-- At a message's end it is the same, but that the message is over where only the reset's end is wanting.
abbrev pub broken_at_end : ClientSession → ListenFault → ClientSession
broken_at_end s (faults.Client fault) = broken_by s fault
broken_at_end s (faults.Wire refusal) = lost s
broken_at_end s faults.Cut = lost s
broken_at_end s faults.ResetUnanswered = lost (behind_message s Idle s.heard)

-- so it is broken, by what it was broken before if it was
abbrev pub IsBroken : ListenFault → Stage → Type 0
IsBroken (faults.Client fault) stage = stage ≡ Broken fault
IsBroken (faults.Wire refusal) stage = (fault : ClientFault) × (stage ≡ Broken fault)
IsBroken faults.Cut stage = stage ≡ Broken Lost
IsBroken faults.ResetUnanswered stage = stage ≡ Broken Lost
