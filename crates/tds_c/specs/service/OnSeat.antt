-- What is done on one seat, before it is put back in the table.
use Rattle.std.specs.Prelude.{◌≡◌, ℕ, ◌+◌, ◌<◌, ◌≤◌, ◌⊎◌, Bool, false, List, length, take, Ok}
use Rattle.tds_wire.specs.declared.told.Token.{Token}
use Rattle.tds_client.specs.declared.message.MessageKind.{MessageKind}
use Rattle.tds_client.specs.Streams.{put}
use Rattle.tds_service.specs.declared.refusal.Refusal.{Refusal}
use Rattle.tds_service.specs.declared.refusal.Refusal.TheVariants.{Memory}
use Rattle.tds_service.specs.Line as line
use Rattle.tds_service.specs.Refusing.{packets}
use Rattle.tds_c.specs.declared.service.answers.Stop.{Stop}
use Rattle.tds_c.specs.declared.service.answers.Stop.TheVariants as stops
use Rattle.tds_c.specs.declared.service.plain.TdsSeat.{TdsSeat}
use Rattle.tds_c.specs.declared.service.sending.Putting.{Putting}
use Rattle.tds_c.specs.service.Asking.{AreTaken, Keep, WaitsWrong, headers_by, put_number, put_seat, with_front}
use Rattle.tds_c.specs.service.Calls.{Buffer}
use Rattle.tds_c.specs.service.Clients.{session_of}
use Rattle.tds_c.specs.service.Plain.{line_of}
use Rattle.tds_c.specs.service.Table.{ActsOn, RefusedOn}

-- Why no request was asked on it.
abbrev pub AsksNot : TdsSeat → MessageKind → ℕ → Buffer → Stop → Type 0
AsksNot c kind descriptor kept stops.NoTable = ⊥
AsksNot c kind descriptor kept stops.NoRoom = (kept.count ≡ length (headers_by kind descriptor)) × (length kept.before < kept.count)
AsksNot c kind descriptor kept stops.OutOfRange = ⊥
AsksNot c kind descriptor kept (stops.Refused refusal) =
    RefusedOn line.Ask c refusal × (refusal ≡ Memory → 18446744073709551615 ≤ c.asked) × (kept.count ≡ 0)

-- Why no packet of it goes out.
abbrev pub SendsNot : TdsSeat → Refusal → Type 0
SendsNot c refusal = ((last : Bool) → RefusedOn (line.Send last) c refusal) × (refusal ≡ Memory → 9223372036854775807 ≤ c.client.packets)

-- Bytes were put on it.
pub record PutsOn (c y : TdsSeat) (keep : Keep) (bytes : List ℕ) (taken : ℕ) (out : Buffer) (answer : Putting) : Type 0 where
  pub packet : List ℕ
  pub acts : ActsOn (line.Send false) (packets (put_number answer)) c y packet
  pub written : out.after ≡ with_front packet out.before
  pub counted : out.count ≡ length packet
  pub taken_are : AreTaken answer c keep bytes taken packet
  pub seat_is : y ≡ put_seat answer c
  pub client_does : put (session_of c (take keep.waiting keep.before)) (take taken bytes)
      ≡ Ok (record { answer = tt; session = session_of y (take keep.waits keep.after); bytes = packet })

abbrev pub PutsNot : TdsSeat → Keep → Buffer → Stop → Type 0
PutsNot c keep out stops.NoTable = ⊥
PutsNot c keep out stops.NoRoom =
    (out.count ≡ c.client.size) × ((length out.before < c.client.size) ⊎ (length keep.before + 8 < c.client.size))
PutsNot c keep out stops.OutOfRange = WaitsWrong c keep.waiting (length keep.before) × (out.count ≡ 0)
PutsNot c keep out (stops.Refused refusal) = SendsNot c refusal × (out.count ≡ 0)

abbrev pub FinishesNot : TdsSeat → List ℕ → Buffer → Stop → Type 0
FinishesNot c kept out stops.NoTable = ⊥
FinishesNot c kept out stops.NoRoom = (out.count ≡ 8 + length kept) × (length out.before < out.count)
FinishesNot c kept out stops.OutOfRange = WaitsWrong c (length kept) (length kept) × (out.count ≡ 0)
FinishesNot c kept out (stops.Refused refusal) = SendsNot c refusal × (out.count ≡ 0)
