-- How an application's bytes are read: what one call does with a piece.
use Rattle.std.specs.Prelude.{◌≡◌, ◌≤◌, ℕ, ◌+◌, ◌-◌, ◌*◌, ◌==◌, ◌&&◌, ◌||◌, not, nat_lt, min, Bool, true, List, [], ◌∷◌, length, Option, Some, None, Result, Ok, Err, if◌then◌else◌}
use Rattle.tds_packet.specs.declared.kind.Kind.{Kind}
use Rattle.tds_packet.specs.declared.kind.Kind.TheVariants as kinds
use Rattle.tds_packet.specs.declared.kind.Direction.TheVariants.{ToServer}
use Rattle.tds_packet.specs.declared.status.Status.{Status}
use Rattle.tds_packet.specs.Layout.{has_bit, is_status, bits_of, status_of}
use Rattle.tds_front.specs.declared.fault.FrontFault.{FrontFault}
use Rattle.tds_front.specs.declared.fault.FrontFault.TheVariants as faults
use Rattle.tds_front.specs.declared.front.Due.{Due}
use Rattle.tds_front.specs.declared.front.Due.TheVariants as due
use Rattle.tds_front.specs.declared.front.Fed.{Fed}
use Rattle.tds_front.specs.declared.front.Front.{Front}
use Rattle.tds_front.specs.declared.front.Part.{Part}
use Rattle.tds_front.specs.declared.front.Part.TheVariants.{Low, High, Third, Fourth, Headers, Body, Dropped}
use Rattle.tds_front.specs.declared.front.Said.{Said}
use Rattle.tds_front.specs.declared.front.Said.TheVariants as said
use Rattle.tds_front.specs.declared.stage.Action.{Action}
use Rattle.tds_front.specs.declared.stage.Action.TheVariants as actions
use Rattle.tds_front.specs.declared.stage.Head.{Head}
use Rattle.tds_front.specs.declared.stage.Stage.{Stage}
use Rattle.tds_front.specs.declared.stage.Stage.TheVariants as stages
use Rattle.tds_front.specs.Rules.{taken}

abbrev pub new_front : ℕ → Front
new_front most = record { most = most; stage = stages.Quiet; due = due.Type; part = Body }

-- the end then, and what the call answers
pub record FrontStep : Type 0 where
  pub front : Front
  pub brings : Result Fed FrontFault

abbrev pub says : Front → ℕ → Said → FrontStep
says f count what = record { front = f; brings = Ok (record { count = count; said = what }) }

abbrev pub fails : Front → FrontFault → FrontStep
fails f fault = record { front = record f { stage = stages.Broken fault }; brings = Err fault }

-- how many of the bytes that were taken are the body's
abbrev pub body_in : Said → ℕ
body_in (said.Body count) = count
body_in (said.End count) = count
body_in _ = 0

-- at most so many bytes were taken, and the body's are among them
abbrev pub IsWithin : ℕ → Result Fed FrontFault → Type 0
IsWithin most (Ok fed) = (fed.count ≤ most) × (body_in fed.said ≤ fed.count)
IsWithin most (Err fault) = Unit {0}

-- ---- A packet's data

-- Where a request's body stands in its data: behind ALL_HEADERS, whose length is four bytes, the lowest one first (MS-TDS 2.2.5.3); it
-- counts itself.
abbrev pub behind_length : ℕ → Part
behind_length count = if count == 4 then Body else Headers (count - 4)

abbrev pub part_of : Kind → Part
part_of kinds.Batch = Low
part_of kinds.Procedure = Low
part_of kinds.Answer = Body
part_of kinds.Attention = Body
part_of kinds.BulkLoad = Body
part_of kinds.Transaction = Low

-- how many bytes are read at once, of so many that are there
abbrev pub run_of : Part → ℕ → ℕ
run_of (Headers left) there = min left there
run_of Body there = there
run_of Dropped there = there
run_of _ there = 1

-- what is due behind so many, of which this is the first one; nothing where there is no such length
abbrev pub length_part_behind : Part → ℕ → ℕ → Option Part
length_part_behind Low byte run = Some (High byte)
length_part_behind (High low) byte run = Some (Third (low + 256 * byte))
length_part_behind (Third count) byte run = if byte == 0 then Some (Fourth count) else None
length_part_behind (Fourth count) byte run = if (byte == 0) && not (nat_lt count 4) then Some (behind_length count) else None
length_part_behind (Headers left) byte run = if left == run then Some Body else Some (Headers (left - run))
length_part_behind Body byte run = Some Body
length_part_behind Dropped byte run = Some Dropped

-- how many of them are the body's
abbrev pub body_count : Part → ℕ → ℕ
body_count Body run = run
body_count _ run = 0

-- a request has ended: its headers must have come
abbrev pub ended_in : Front → ℕ → ℕ → Part → FrontStep
ended_in f count body Body = says f count (said.End body)
ended_in f count body Dropped = says f count said.Nothing
ended_in f count body _ = fails f faults.WrongHeaders

abbrev pub told_body : ℕ → Said
told_body body = if body == 0 then said.Nothing else said.Body body

-- behind the data of a packet
abbrev pub packet_done : Front → Stage → ℕ → ℕ → FrontStep
packet_done f (stages.Underway gone) count body = ended_in f count body f.part
packet_done f _ count body = says f count (told_body body)

abbrev pub front_with_due : Front → Due → Front
front_with_due f next = record { most = f.most; stage = f.stage; due = next; part = f.part }

abbrev pub behind_data : Front → ℕ → ℕ → ℕ → FrontStep
behind_data f left run body =
    if left == run then packet_done (front_with_due f due.Type) f.stage run body
    else says (front_with_due f (due.Data (left - run))) run (told_body body)

abbrev pub with_part : Front → ℕ → ℕ → ℕ → Option Part → FrontStep
with_part f left run body None = fails f faults.WrongHeaders
with_part f left run body (Some part) = behind_data (record { most = f.most; stage = f.stage; due = f.due; part = part }) left run body

abbrev pub data_taken : Front → ℕ → ℕ → ℕ → FrontStep
data_taken f left byte there =
    with_part f left (run_of f.part (min left there)) (body_count f.part (run_of f.part (min left there)))
    (length_part_behind f.part byte (run_of f.part (min left there)))

-- ---- A packet's header (MS-TDS 2.2.3.1)

-- the types that an application sends
abbrev pub kind_from : ℕ → Option Kind
kind_from byte =
    if byte == 1 then Some kinds.Batch
    else if byte == 3 then Some kinds.Procedure
    else if byte == 6 then Some kinds.Attention
    else if byte == 7 then Some kinds.BulkLoad
    else if byte == 14 then Some kinds.Transaction
    else None

abbrev pub front_with_kind : Front → Option Kind → FrontStep
front_with_kind f None = fails f faults.UnknownType
front_with_kind f (Some kind) = says (front_with_due f (due.Status kind)) 1 said.Nothing

abbrev pub with_status : Front → Kind → ℕ → FrontStep
with_status f kind byte =
    if is_status ToServer byte then says (front_with_due f (due.HighLength kind (status_of byte))) 1 said.Nothing
    else fails f faults.WrongStatus

abbrev pub with_length : Front → Kind → Status → ℕ → FrontStep
with_length f kind status count =
    if nat_lt count 8 || nat_lt f.most count then fails f faults.WrongLength
    else if (count == 8) && not (has_bit (bits_of status) 1) then fails f faults.EmptyPart
    else says (front_with_due f (due.Rest (record { kind = kind; status = status; count = count - 8 }) 4)) 1 said.Nothing

-- where its data are to come
abbrev pub due_for : ℕ → Due
due_for count = if count == 0 then due.Type else due.Data count

abbrev pub headed : Front → Stage → ℕ → Part → Front
headed f stage count part = record { most = f.most; stage = stage; due = due_for count; part = part }

-- a packet without data that goes on with a message ends it
abbrev pub packet_gone_on : Front → ℕ → FrontStep
packet_gone_on f count = if count == 0 then packet_done f f.stage 1 0 else says f 1 said.Nothing

-- what the whole header says
abbrev pub action_done : Front → Stage → ℕ → Result Action FrontFault → FrontStep
action_done f stage count (Err fault) = fails f fault
action_done f stage count (Ok (actions.Begin kind reset)) = says (headed f stage count (part_of kind)) 1 (said.Begin kind reset)
action_done f stage count (Ok actions.Go) = packet_gone_on (headed f stage count f.part) count
action_done f stage count (Ok (actions.Forget gone)) = says (headed f stage count Dropped) 1 (said.Forget gone)
action_done f stage count (Ok actions.Acknowledge) = says (headed f stage count Dropped) 1 said.Acknowledge
action_done f stage count (Ok actions.HandOn) = says (headed f stage count Dropped) 1 said.HandOn

abbrev pub with_rest : Front → Head → ℕ → FrontStep
with_rest f head left =
    if nat_lt 1 left then says (front_with_due f (due.Rest head (left - 1))) 1 said.Nothing
    else action_done f (taken f.stage head).stage head.count (taken f.stage head).does

-- ---- A call

-- a piece of so many bytes, of which this is the first one
abbrev pub fed_by : Due → Front → ℕ → ℕ → FrontStep
fed_by due.Type f byte there = front_with_kind f (kind_from byte)
fed_by (due.Status kind) f byte there = with_status f kind byte
fed_by (due.HighLength kind status) f byte there = says (front_with_due f (due.LowLength kind status byte)) 1 said.Nothing
fed_by (due.LowLength kind status high) f byte there = with_length f kind status (256 * high + byte)
fed_by (due.Rest head left) f byte there = with_rest f head left
fed_by (due.Data left) f byte there = data_taken f left byte there

abbrev pub fed_unless : Stage → Front → ℕ → ℕ → FrontStep
fed_unless (stages.Broken fault) f byte there = record { front = f; brings = Err fault }
fed_unless _ f byte there = fed_by f.due f byte there

unfoldable pub fed : Front → List ℕ → FrontStep
fed f [] = says f 0 said.Nothing
fed f (byte ∷ bytes) = fed_unless f.stage f byte (length (byte ∷ bytes))

-- ---- That each call takes some

-- a byte of it is due at least
abbrev pub is_due_some : Due → Bool
is_due_some (due.Data left) = not (left == 0)
is_due_some _ = true

abbrev pub is_part_some : Part → Bool
is_part_some (Headers left) = not (left == 0)
is_part_some _ = true

-- Of bytes, where there are any, one is taken at least.
abbrev pub TakesSome : Front → Type 0
TakesSome f = (is_due_some f.due && is_part_some f.part) ≡ true
