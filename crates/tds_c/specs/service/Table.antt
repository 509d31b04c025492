-- The table's calls, in the words of the machine's.
use Rattle.std.specs.Prelude.{◌≡◌, ◌<◌, ℕ, zero, suc, Bool, true, false, List, [], ◌∷◌, length, None}
use Rattle.tds_service.specs.declared.refusal.Refusal.{Refusal}
use Rattle.tds_service.specs.History.{history, line_after}
use Rattle.tds_service.specs.Line.{Act, LineStage, Idle, Sending, Reading, Cancelling, Broken, line_turn}
use Rattle.tds_service.specs.Refusing.{refusal_in}
use Rattle.tds_service.specs.Ties.{AreBytes, sent_in}
use Rattle.tds_wire.specs.declared.told.Token.{Token}
use Rattle.tds_service.specs.Service.{Call, Place, Seat, Service, has_lease, has_ticket, has_number, is_lendable}
use Rattle.tds_c.specs.declared.service.plain.TdsSeat.{TdsSeat}
use Rattle.tds_c.specs.declared.service.seat.Stage as code
use Rattle.tds_c.specs.declared.service.seat.Stage.TheVariants as stages
use Rattle.tds_c.specs.declared.service.seat.Wanted.{Wanted}
use Rattle.tds_c.specs.declared.service.seat.Wanted.TheVariants as wants
use Rattle.tds_service.specs.Table.{RefusedBy, Denies}
use Rattle.tds_c.specs.declared.service.answers.Stop.{Stop}
use Rattle.tds_c.specs.declared.service.answers.Stop.TheVariants as stops
use Rattle.tds_c.specs.declared.service.cancel.Written.{Written}
use Rattle.tds_c.specs.declared.service.cancel.Written.TheVariants as sends
use Rattle.tds_c.specs.service.Plain.{line_of, place_of, seat_of}

-- What is seen of a stage.
abbrev pub seen : LineStage → code.Stage
seen Idle = stages.Idle
seen (Sending false) = stages.Unsent
seen (Sending true) = stages.Sending
seen Reading = stages.Reading
seen Cancelling = stages.Cancelling
seen (Broken fault) = stages.Broken

abbrev pub wanted_test : Wanted → Seat → Bool
wanted_test (wants.Lease lease) c = has_lease lease c
wanted_test (wants.Ticket ticket) c = has_ticket ticket c
wanted_test (wants.Number number) c = has_number number c
wanted_test wants.Lendable c = is_lendable c

-- Whether the connection at an index meets a test.
abbrev pub met : (Seat → Bool) → List TdsSeat → ℕ → Bool
met test [] k = false
met test (c ∷ cs) zero = test (seat_of c)
met test (c ∷ cs) (suc k) = met test cs k

-- It does, and none before it.
pub record FirstMet (test : Seat → Bool) (cs : List TdsSeat) (index : ℕ) : Type 0 where
  pub within : index < length cs
  pub here : met test cs index ≡ true
  pub before : (k : ℕ) → k < index → met test cs k ≡ false

-- ---- What is sent for a cancel

abbrev pub written_bytes : Written → List ℕ
written_bytes sends.Nothing = []
written_bytes (sends.Attention bytes) = bytes
written_bytes (sends.Both bytes) = bytes

-- ---- Why a call isn't done

-- The machine refuses it so; or what is written needs more room than this.
abbrev pub StopsAt : Call Token → Service → (room count : ℕ) → Stop → Type 0
StopsAt call s room count stops.NoTable = ⊥
StopsAt call s room count stops.NoRoom = room < count
StopsAt call s room count stops.OutOfRange = ⊥
StopsAt call s room count (stops.Refused refusal) = Denies call s refusal

-- ---- A seat on whose client something was done

pub record Becomes (c y : TdsSeat) (place : Place) (all : List (Act Token)) : Type 0 where
  pub number_is : y.number ≡ c.number
  pub place_is : place_of y ≡ place
  pub line_is : line_of y ≡ line_after (line_of c) all

-- ---- What is done on a seat's client: these acts, of which the machine takes the first, and these bytes go out

pub record ActsOn (first : Act Token) (all : List (Act Token)) (c y : TdsSeat) (bytes : List ℕ) : Type 0 where
  pub becomes : Becomes c y (place_of c) all
  pub may : refusal_in (line_turn (line_of c) first).answer ≡ None
  pub sent : AreBytes (sent_in (history (line_of c) all)) bytes

-- The machine refuses the first.
abbrev pub RefusedOn : Act Token → TdsSeat → Refusal → Type 0
RefusedOn first c refusal = RefusedBy (refusal_in (line_turn (line_of c) first).answer) refusal
