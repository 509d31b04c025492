-- A connection that a caller chooses to be lent: one that was kept, by its ticket, or one to be cleaned, by its number.
use Rattle.std.specs.Prelude.{ℕ, Bool}
use Rattle.tds_packet.specs.declared.status.Reset.{Reset}
use Rattle.tds_packet.specs.declared.status.Reset.TheVariants.{Full, KeepTransaction}
use Rattle.tds_wire.specs.declared.told.Token.{Token}
use Rattle.tds_service.specs.Service.{Call, Clean, Cleaning, Leased, Place, Resume, Seat, has_number, has_ticket, is_idle, is_lendable}
use Rattle.tds_c.specs.declared.service.keeping.Chosen.{Chosen}
use Rattle.tds_c.specs.declared.service.keeping.Chosen.TheVariants.{Kept, Unclean}

abbrev pub chosen_call : Chosen → Call Token
chosen_call (Kept ticket) = Resume ticket
chosen_call (Unclean number) = Clean number

-- Which one it is.
abbrev pub chosen_test : Chosen → Seat → Bool
chosen_test (Kept ticket) c = has_ticket ticket c
chosen_test (Unclean number) c = has_number number c

-- It must be idle; to be cleaned, it must be free too.
abbrev pub chosen_allows : Chosen → Seat → Bool
chosen_allows (Kept ticket) c = is_idle c.line.stage
chosen_allows (Unclean number) c = is_lendable c

abbrev pub chosen_place : Chosen → ℕ → Place
chosen_place (Kept ticket) lease = Leased lease
chosen_place (Unclean number) lease = Cleaning lease

abbrev pub chosen_reset : Chosen → Reset
chosen_reset (Kept ticket) = KeepTransaction
chosen_reset (Unclean number) = Full
