-- What a byte of a connection does: where each direction is in its packets (MS-TDS 2.2.3), what is
-- said there, and what is found.
use Rattle.std.specs.Prelude.{◌≡◌, ℕ, ◌+◌, ◌-◌, ◌/◌, ◌%◌, ◌==◌, ◌&&◌, ◌||◌, not, min, nat_lt, Bool, true, false, List, [], ◌∷◌, Option, Some, None, if◌then◌else◌}
use Rattle.tds_judge.specs.declared.finding.Direction.{Direction}
use Rattle.tds_judge.specs.declared.finding.Direction.TheVariants.{ToServer, ToClient}
use Rattle.tds_judge.specs.declared.finding.Finding.{Finding}
use Rattle.tds_judge.specs.declared.finding.Spot.{Spot}
use Rattle.tds_judge.specs.declared.frame.Due.{Due}
use Rattle.tds_judge.specs.declared.frame.Due.TheVariants as due
use Rattle.tds_judge.specs.declared.frame.Frame.{Frame}
use Rattle.tds_judge.specs.declared.frame.Head.{Head}
use Rattle.tds_judge.specs.declared.frame.Inside.{Inside}
use Rattle.tds_judge.specs.declared.frame.Inside.TheVariants as inside
use Rattle.tds_judge.specs.declared.frame.Part.{Part}
use Rattle.tds_judge.specs.declared.frame.Part.TheVariants as parts
use Rattle.tds_judge.specs.declared.headers.Headed.{Headed}
use Rattle.tds_judge.specs.declared.headers.Headed.TheVariants as headings
use Rattle.tds_judge.specs.declared.headers.HeaderFault.TheVariants as faults
use Rattle.tds_judge.specs.declared.judge.Judge.{Judge}
use Rattle.tds_judge.specs.declared.talk.Ending.TheVariants as endings
use Rattle.tds_judge.specs.declared.talk.Event.{Event}
use Rattle.tds_judge.specs.declared.talk.Event.TheVariants as events
use Rattle.tds_judge.specs.declared.talk.Limits.{Limits}
use Rattle.tds_judge.specs.Headers.{heading_by}
use Rattle.tds_judge.specs.Talking.{new_talk, talk_by}
use Rattle.tds_judge.specs.Noting.{told_by}
use Rattle.tds_wire.specs.declared.fault.Refusal.{Refusal}
use Rattle.tds_wire.specs.Faults.{fault_number}
use Rattle.tds_wire.specs.Reading.{IsReady, Parser, Found, Sees, Inside as Amid, Refuses, is_between, next_token, restarted}
use Rattle.tds_judge.specs.PacketHeads.{shifted, head_of, is_plausible, is_tls, fault_of, event_of, is_to_fill, inside_of}

-- ---- Frames

abbrev pub new_frame : Frame
new_frame = record {
  due = due.Head 0 0;
  part = parts.Lost;
  inside = inside.Skipped;
  kind = 0;
  status = 0;
  offset = 0;
}

abbrev pub opened_frame : Frame → Part → Inside → Head → Frame
opened_frame f part inside head = record {
  due = due.Data (head.size - 8);
  part = part;
  inside = inside;
  kind = head.kind;
  status = head.status;
  offset = f.offset;
}

-- ---- A judge, and what it found

pub record Run : Type 0 where
  pub judge : Judge
  pub told : List Finding

abbrev pub run_of : Judge → List Finding → Run
run_of judge told = record { judge = judge; told = told }

abbrev pub frame_by : Direction → Judge → Frame
frame_by ToServer j = j.client
frame_by ToClient j = j.server

abbrev pub with_frame : Direction → Frame → Judge → Judge
with_frame ToServer f j = record j { client = f }
with_frame ToClient f j = record j { server = f }

abbrev pub frame_of : Direction → Run → Frame
frame_of direction run = frame_by direction run.judge

abbrev pub framed : Direction → Frame → Run → Run
framed direction f run = record { judge = with_frame direction f run.judge; told = run.told }

-- something is said
abbrev pub said : Spot → Event → Run → Run
said spot event run = record {
  judge = record run.judge { talk = talk_by run.judge.talk spot.time event };
  told = told_by run.told run.judge.limits run.judge.talk spot event;
}

-- the judging ends
abbrev pub stops : Spot → Event → Run → Run
stops spot event run =
    said spot event (record { judge = record run.judge { parser = None }; told = run.told })

-- ---- The end of a packet

abbrev pub is_whole : Inside → Option Parser → Bool
is_whole inside.Skipped parser = true
is_whole (inside.Prefix heading) parser = true
is_whole (inside.Version place) parser = true
is_whole inside.Walked None = true
is_whole inside.Walked (Some r) = is_between r

-- a request ends before the end of its ALL_HEADERS
abbrev pub headed_at_end : Inside → Spot → Run → Run
headed_at_end inside.Skipped spot run = run
headed_at_end (inside.Prefix heading) spot run = said spot (events.Headers faults.Length) run
headed_at_end inside.Walked spot run = run
headed_at_end (inside.Version place) spot run = run

-- A message whose beginning was seen ends. What is to be ignored need not be whole.
abbrev pub message_over : Direction → Spot → Frame → Run → Run
message_over ToServer spot f run =
    if f.status / 2 % 2 == 1 then said spot events.Ignored run else headed_at_end f.inside spot run
message_over ToClient spot f run =
    if f.kind == 18 then run
    else said spot (events.Answered (is_whole f.inside run.judge.parser)) run

abbrev pub over_by : Part → Spot → Frame → Run → Run
over_by parts.Lost spot f run = run
over_by parts.Passing spot f run = said spot events.TakenUp run
over_by parts.Between spot f run = run
over_by parts.Within spot f run = message_over spot.direction spot f run

-- behind a packet; a message ends with the packet whose status has bit 01
unfoldable pub over : Spot → Run → Run
over spot run =
    let f = frame_of spot.direction run in
    if f.status % 2 == 1
    then over_by f.part spot f
    (framed spot.direction (record f { due = due.Head 0 0; part = parts.Between }) run)
    else framed spot.direction (record f { due = due.Head 0 0 }) run

-- ---- The end of a header

unfoldable pub opened : Spot → Part → Inside → Head → Run → Run
opened spot part inside head run =
    let there = framed spot.direction (opened_frame (frame_of spot.direction run) part inside head)
    run in
    if head.size == 8 then over spot there else there

-- A header that can't be one is the beginning of another eight bytes: one byte is dropped.
abbrev pub slid_frame : ℕ → Frame → Frame
slid_frame value f = record f { part = parts.Lost; due = due.Head 7 value }

abbrev pub slid : Spot → ℕ → Run → Run
slid spot value run = framed spot.direction (slid_frame value (frame_of spot.direction run)) run

-- What was never TDS is given up behind a mebibyte.
unfoldable pub lost : Spot → ℕ → Run → Run
lost spot value run =
    if (spot.offset == 7) && is_tls (head_of value)
    then stops spot (events.Stops endings.Encrypted 0) run
    else if nat_lt spot.offset 1048575 then slid spot value run
    else stops spot (events.Stops endings.NotTds 0) run

-- The answer to PRELOGIN has no tokens, and a server wraps TLS in packets of its type.
abbrev pub is_walked : Head → Run → Bool
is_walked head run = not (head.kind == 18) && not (run.judge.client.kind == 18)

abbrev pub restarted_by : Option Parser → Option Parser
restarted_by None = None
restarted_by (Some r) = Some (restarted r)

-- A message of that type to the client is one of TLS's handshake, of which there are as many as it
-- needs (2.2.6.5).
abbrev pub answer_begun : Spot → Head → Run → Run
answer_begun spot head run = if head.kind == 18 then run else said spot events.Answer run

abbrev pub begun_by : Direction → Spot → Head → Run → Run
begun_by ToServer spot head run =
    opened spot parts.Within (inside_of head.kind) head (said spot (event_of head) run)
begun_by ToClient spot head run =
    opened spot parts.Within (if is_walked head run then inside.Walked else inside.Skipped) head
    (answer_begun spot head
    (record {
      judge = record run.judge { parser = restarted_by run.judge.parser };
      told =
          run.told;
    }))

-- a message begins
unfoldable pub begins : Spot → Head → Run → Run
begins spot head run =
    begun_by spot.direction spot head
    (said spot (events.Packet head.size (is_to_fill spot.direction head)) run)

abbrev pub later_by : Direction → Spot → Head → Run → Run
later_by ToServer spot head run = said spot (events.Later head.status) run
later_by ToClient spot head run = run

-- A message goes on with a packet of its type. An attention may come at any time.
unfoldable pub goes_on : Spot → Frame → Head → Run → Run
goes_on spot f head run =
    if (head.kind == f.kind) && not (head.kind == 6)
    then opened spot parts.Within f.inside head
    (later_by spot.direction spot head
    (said spot (events.Packet head.size (is_to_fill spot.direction head)) run))
    else if head.kind == 6 then begins spot head run
    else begins spot head (said spot events.Unfinished run)

-- The first message is taken up where its first eight bytes begin one; else behind the end of
-- another.
unfoldable pub taken_up : Spot → Head → Run → Run
taken_up spot head run =
    if (spot.offset == 7) && nat_lt head.id 2 then begins spot head run
    else opened spot parts.Passing inside.Skipped head run

abbrev pub headed_by : Part → Bool → Spot → ℕ → Run → Run
headed_by parts.Lost true spot value run = taken_up spot (head_of value) run
headed_by parts.Lost false spot value run = lost spot value run
headed_by parts.Passing true spot value run =
    opened spot parts.Passing inside.Skipped (head_of value) run
headed_by parts.Passing false spot value run = slid spot value run
headed_by parts.Between true spot value run = begins spot (head_of value) run
headed_by parts.Between false spot value run =
    stops spot (fault_of spot.direction (head_of value)) run
headed_by parts.Within true spot value run =
    goes_on spot (frame_of spot.direction run) (head_of value) run
headed_by parts.Within false spot value run =
    stops spot (fault_of spot.direction (head_of value)) run

abbrev pub headed : Spot → ℕ → Run → Run
headed spot value run =
    headed_by (frame_of spot.direction run).part (is_plausible spot.direction (head_of value)) spot
    value run

abbrev pub head_taken : Spot → ℕ → ℕ → Run → Run
head_taken spot got value run =
    if nat_lt got 7
    then framed spot.direction
    (record (frame_of spot.direction run) { due = due.Head (got + 1) value }) run
    else headed spot value run

-- ---- Data

abbrev pub inside_put : Spot → Inside → Run → Run
inside_put spot inside run =
    framed spot.direction (record (frame_of spot.direction run) { inside = inside }) run

-- a byte of ALL_HEADERS has come
abbrev pub prefixed : Spot → Headed → Run → Run
prefixed spot (headings.On heading) run = inside_put spot (inside.Prefix heading) run
prefixed spot (headings.Names descriptor heading) run =
    said spot (events.Names descriptor) (inside_put spot (inside.Prefix heading) run)
prefixed spot headings.Over run = inside_put spot inside.Skipped run
prefixed spot (headings.Wrong fault) run =
    said spot (events.Headers fault) (inside_put spot inside.Skipped run)

-- LOGIN7 has its length in 4 bytes, then its version, whose highest byte comes last: 72 to 74
-- (MS-TDS 2.2.6.4)
abbrev pub is_judged_version : ℕ → Bool
is_judged_version byte = (byte == 0x72) || (byte == 0x73) || (byte == 0x74)

abbrev pub versioned_if : Bool → Spot → ℕ → Run → Run
versioned_if judged spot byte run =
    if judged then run else stops spot (events.Stops endings.OtherVersion byte) run

abbrev pub versioned : Spot → ℕ → ℕ → Run → Run
versioned spot place byte run =
    if nat_lt place 7
    then framed spot.direction
    (record (frame_of spot.direction run) { inside = inside.Version (place + 1) }) run
    else versioned_if (is_judged_version byte) spot byte
    (framed spot.direction (record (frame_of spot.direction run) { inside = inside.Skipped })
    run)

abbrev pub read_by : Parser → Run → Run
read_by r run = record { judge = record run.judge { parser = Some r }; told = run.told }

-- ALTMETADATA and ALTROW (COMPUTE, 2.2.7.1 and 2.2.7.2) aren't read; all else that is refused is no
-- token
abbrev pub refused_as : Refusal → Event
refused_as refusal =
    if (fault_number refusal.fault == 1) && ((refusal.byte == 0x88) || (refusal.byte == 0xD3))
    then events.Stops endings.Compute refusal.byte
    else events.Stops endings.WrongToken (fault_number refusal.fault)

abbrev pub walked_by : Found → Spot → Run → Run
walked_by (Sees token r rest) spot run = said spot (events.Says token) (read_by r run)
walked_by (Amid r) spot run = read_by r run
walked_by (Refuses refusal) spot run = stops spot (refused_as refusal) run

abbrev pub walked : Option Parser → Spot → ℕ → Run → Run
walked None spot byte run = run
walked (Some r) spot byte run = walked_by (next_token r (byte ∷ [])) spot run

unfoldable pub inside_by : Inside → Spot → ℕ → Run → Run
inside_by inside.Skipped spot byte run = run
inside_by (inside.Prefix heading) spot byte run = prefixed spot (heading_by heading byte) run
inside_by inside.Walked spot byte run = walked run.judge.parser spot byte run
inside_by (inside.Version place) spot byte run = versioned spot place byte run

abbrev pub counted_by : Option Parser → Spot → ℕ → Run → Run
counted_by None spot left run = run
counted_by (Some r) spot left run =
    if nat_lt 1 left
    then framed spot.direction
    (record (frame_of spot.direction run) { due = due.Data (left - 1) }) run
    else over spot run

-- one byte less is to come
abbrev pub counted : Spot → ℕ → Run → Run
counted spot left run = counted_by run.judge.parser spot left run

-- ---- A byte

unfoldable pub due_by : Due → Spot → ℕ → Run → Run
due_by (due.Head got value) spot byte run = head_taken spot got (shifted value byte) run
due_by (due.Data left) spot byte run =
    counted spot left (inside_by (frame_of spot.direction run).inside spot byte run)

abbrev pub moved : Direction → Run → Run
moved direction run =
    framed direction
    (record (frame_of direction run) {
      offset = min 18446744073709551615
          ((frame_of direction run).offset + 1);
    }) run

abbrev pub spot_of : Direction → ℕ → Run → Spot
spot_of direction time run = record {
  direction = direction;
  offset = (frame_of direction run).offset;
  time = time;
}

abbrev pub step_by : Option Parser → Direction → ℕ → ℕ → Run → Run
step_by None direction time byte run = run
step_by (Some r) direction time byte run =
    due_by (frame_of direction run).due (spot_of direction time run) byte (moved direction run)

-- what a byte of a direction does, that came at a time; nothing where the judging has ended
unfoldable pub step : Direction → ℕ → ℕ → Run → Run
step direction time byte run = step_by run.judge.parser direction time byte run

-- and bytes, one behind the other
unfoldable pub steps : Direction → ℕ → List ℕ → Run → Run
steps direction time [] run = run
steps direction time (byte ∷ bytes) run = steps direction time bytes (step direction time byte run)

abbrev pub stopped_by : Option Parser → Bool
stopped_by None = true
stopped_by (Some r) = false

abbrev pub has_stopped : Judge → Bool
has_stopped j = stopped_by j.parser

-- nothing was seen of the connection
pub record IsNew (given : Limits) (j : Judge) : Type 0 where
  pub limits : j.limits ≡ given
  pub client : j.client ≡ new_frame
  pub server : j.server ≡ new_frame
  pub talk : j.talk ≡ new_talk
  pub parser : (r : Parser) × (j.parser ≡ Some r) × IsReady r

-- ---- Other events

-- What is said of the connection as a whole has the place of the client's next byte.
abbrev pub event_by : Option Parser → Spot → Event → Run → Run
event_by None spot event run = run
event_by (Some r) spot event run = said spot event run

unfoldable pub event_said : ℕ → Event → Run → Run
event_said time event run = event_by run.judge.parser (spot_of ToServer time run) event run

-- A connection of which no header was found is closed as none of TDS.
abbrev pub is_lost : Part → Bool
is_lost parts.Lost = true
is_lost parts.Passing = false
is_lost parts.Between = false
is_lost parts.Within = false

abbrev pub closing : Judge → Event
closing j =
    if is_lost j.client.part && nat_lt 0 j.client.offset then events.Stops endings.NotTds 0
    else events.Closed

abbrev pub closed_by : Option Parser → Spot → Run → Run
closed_by None spot run = run
closed_by (Some r) spot run = stops spot (closing run.judge) run

unfoldable pub closed : ℕ → Run → Run
closed time run = closed_by run.judge.parser (spot_of ToServer time run) run
