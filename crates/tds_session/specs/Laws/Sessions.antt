-- Every session of the program stays one.
use Rattle.std.proofs.Common.{◌<◌, None, refl, arith, lit<}
use Rattle.std.specs.List.{All}
use Rattle.std.proofs.lemmas.List.Elements.{All-replicate}
use Rattle.tds_packet.specs.declared.status.Reset.{Reset}
use Rattle.tds_packet.specs.declared.status.Reset.TheVariants.{Full, KeepTransaction}
use Rattle.tds_session.specs.Session.{SessionState, IsSession, IsSetting, no_settings, new_session, transacting, out_of_transaction, after_reset}

-- keys that are unset
pub unset : All IsSetting no_settings
unset = All-replicate IsSetting 26 None tt

pub new_is_session : IsSession new_session
new_is_session = record { keys = refl; values = unset; descriptor = lit< tt; next_some = lit< tt; next_fits = lit< tt }

pub ended_is_session : (s : SessionState) → IsSession s → IsSession (out_of_transaction s)
ended_is_session s h = record { keys = h.keys; values = h.values; descriptor = lit< tt; next_some = h.next_some; next_fits = h.next_fits }

pub begun_is_session : (s : SessionState) → IsSession s → s.next_descriptor < 18446744073709551615 → IsSession (transacting s)
begun_is_session s h left = record { keys = h.keys; values = h.values; descriptor = h.next_fits; next_some = omega arith; next_fits = omega (arith, left) }

pub reset_is_session : (r : Reset) (s : SessionState) → IsSession s → IsSession (after_reset r s)
reset_is_session Full s h = record { keys = refl; values = unset; descriptor = lit< tt; next_some = h.next_some; next_fits = h.next_fits }
reset_is_session KeepTransaction s h = record { keys = refl; values = unset; descriptor = h.descriptor; next_some = h.next_some; next_fits = h.next_fits }
