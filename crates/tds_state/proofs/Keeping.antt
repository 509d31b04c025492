-- What an answer's end leaves as it is of the handles.
use Rattle.std.proofs.Common.{◌≡◌, ℕ, Bool, true, false, cond, length, set, refl}
use Rattle.std.proofs.lemmas.List.{length-set}
use Rattle.std.specs.Prelude.{◌==◌, ◌||◌, not, nat_lt}
use Rattle.tds_state.specs.declared.asked.Call.{Call}
use Rattle.tds_state.specs.declared.asked.Call.TheVariants as calls
use Rattle.tds_state.specs.declared.handles.Handles.{Handles}
use Rattle.tds_state.specs.declared.handles.Returned as answers
use Rattle.tds_state.specs.declared.handles.Returned.TheVariants as values
use Rattle.tds_state.specs.declared.session.Flight.{Flight}
use Rattle.tds_state.specs.declared.session.Flight.TheVariants as flights
use Rattle.tds_state.specs.Handles.{handle_put, handles_settled, place_of_handle, prepared_by, handles_unprepared, unclear_if}
use Rattle.tds_state.specs.Sessions.{flight_settled}

exchange_keeps : (old new : ℕ) (h : Handles) → ((handle_put old new h).returned ≡ h.returned) × (((handle_put old new h).has_failed ≡ h.has_failed) × ((handle_put old new h).overlaps ≡ h.overlaps))
exchange_keeps old new h = chosen ((old == new) || not (nat_lt (place_of_handle old h.places) 64)) where
  chosen : (b : Bool) → let k = cond b (record h { is_unclear = true }) (record h { places = set h.places (place_of_handle old h.places) new }) in (k.returned ≡ h.returned) × ((k.has_failed ≡ h.has_failed) × (k.overlaps ≡ h.overlaps))
  chosen true = (refl, (refl, refl))
  chosen false = (refl, (refl, refl))

exchange_length : (old new : ℕ) (h : Handles) → length (handle_put old new h).places ≡ length h.places
exchange_length old new h = chosen ((old == new) || not (nat_lt (place_of_handle old h.places) 64)) where
  chosen : (b : Bool) → length (cond b (record h { is_unclear = true }) (record h { places = set h.places (place_of_handle old h.places) new })).places ≡ length h.places
  chosen true = refl
  chosen false = length-set h.places (place_of_handle old h.places) new

pub record Keeps (h k : Handles) : Type 0 where
  pub returned : k.returned ≡ h.returned
  pub has_failed : k.has_failed ≡ h.has_failed
  pub overlaps : k.overlaps ≡ h.overlaps
  pub room : length k.places ≡ length h.places

keeps_all : (h : Handles) → Keeps h h
keeps_all h = record { returned = refl; has_failed = refl; overlaps = refl; room = refl }

keeps_exchanged : (old new : ℕ) (h : Handles) → Keeps h (handle_put old new h)
keeps_exchanged old new h =
    let same = exchange_keeps old new h in
    record { returned = same.0; has_failed = same.1.0; overlaps = same.1.1; room = exchange_length old new h }

keeps_prepared : (r : answers.Returned) (h : Handles) → Keeps h (prepared_by r h)
keeps_prepared values.Nothing h = record { returned = refl; has_failed = refl; overlaps = refl; room = refl }
keeps_prepared (values.One m) h = keeps_exchanged 0 m h
keeps_prepared values.Unclear h = record { returned = refl; has_failed = refl; overlaps = refl; room = refl }

keeps_unprepared : (b : Bool) (m : ℕ) (h : Handles) → Keeps h (handles_unprepared b m h)
keeps_unprepared true m h =
    let same = exchange_keeps m 0 h in
    record { returned = same.0; has_failed = same.1.0; overlaps = same.1.1; room = refl }
keeps_unprepared false m h = keeps_exchanged m 0 h

keeps_unclear : (is : Bool) (h k : Handles) → Keeps h k → Keeps h (unclear_if is k)
keeps_unclear is h k same = record { returned = same.returned; has_failed = same.has_failed; overlaps = same.overlaps; room = same.room }

keeps_settled : (c : Call) (h : Handles) → Keeps h (handles_settled c h)
keeps_settled calls.Harmless h = keeps_all h
keeps_settled calls.Prepares h = keeps_unclear h.overlaps h (prepared_by h.returned h) (keeps_prepared h.returned h)
keeps_settled (calls.Unprepares m) h = keeps_unclear h.overlaps h (handles_unprepared h.has_failed m h) (keeps_unprepared h.has_failed m h)
keeps_settled calls.Unknown h = keeps_all h

pub keeps_ended : (f : Flight) (c : Call) (h : Handles) → Keeps h (flight_settled f c h)
keeps_ended flights.Quiet c h = keeps_all h
keeps_ended flights.Asked c h = keeps_settled c h
keeps_ended flights.Cancelled c h = keeps_all h
keeps_ended flights.Stopped c h = keeps_all h
