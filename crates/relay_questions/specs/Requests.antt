-- The bytes that each step sends.
use Rattle.std.specs.Prelude.{ℕ, ◌+◌, ◌||◌, codes, Bool, true, false, List, [], ◌∷◌, ◌++◌, if◌then◌else◌}
use Rattle.std.specs.Int.{w32, to_le_bytes}
use Rattle.tds_packet.specs.declared.kind.Kind.{Kind}
use Rattle.tds_packet.specs.declared.kind.Kind.TheVariants as packets
use Rattle.tds_packet.specs.Resets.{mark_bit}
use Rattle.tds_packet.specs.Sent.{end_bit, sent_bytes}
use Rattle.tds_request.specs.Layout.{all_headers}
use Rattle.relay_questions.specs.declared.step.Step.{Step}
use Rattle.relay_questions.specs.declared.step.Step.TheVariants.{Set, Reset, SetAgain, Isolate, MakeTable, MakeTableAgain, OpenCursor, Lock, Begin, ResetButTransaction, ResetTransaction, Prepare, Unprepare, SetAndWait, AskOnceMore, ResetAll}
use Rattle.relay_questions.specs.Steps.{reset_of}

-- two bytes for each unit of a text, the lower one first
unfoldable pub two_bytes_each : List ℕ → List ℕ
two_bytes_each [] = []
two_bytes_each (unit ∷ units) = unit ∷ 0 ∷ two_bytes_each units

-- an NVARCHAR(4000) without a name, of so many bytes (MS-TDS 2.2.5.5.3)
abbrev pub text_parameter : ℕ → List ℕ → List ℕ
text_parameter count bytes = 0 ∷ 0 ∷ 231 ∷ 64 ∷ 31 ∷ 9 ∷ 4 ∷ 208 ∷ 0 ∷ 52 ∷ count ∷ 0 ∷ bytes

-- What steps say behind ALL_HEADERS, but for a handle: a batch (2.2.6.7), or a call by its number (2.2.6.6).

unfoldable pub set_text : List ℕ
set_text = two_bytes_each (codes "set lock_timeout 5")

unfoldable pub select_text : List ℕ
select_text = two_bytes_each (codes "select 1")

unfoldable pub isolate_text : List ℕ
isolate_text = two_bytes_each (codes "set transaction isolation level serializable")

unfoldable pub make_table_text : List ℕ
make_table_text = two_bytes_each (codes "create table #tdsrelay (n int)")

unfoldable pub open_cursor_text : List ℕ
open_cursor_text = two_bytes_each (codes "declare tdsrelay cursor global for select 1")

unfoldable pub lock_text : List ℕ
lock_text = two_bytes_each (codes "exec sp_getapplock @Resource = 'tdsrelay', @LockMode = 'Shared', @LockOwner = 'Session'")

unfoldable pub begin_text : List ℕ
begin_text = two_bytes_each (codes "begin transaction")

-- sp_prepare: a handle that is returned, no parameters, a text
unfoldable pub prepare_call : List ℕ
prepare_call =
    255 ∷ 255 ∷ 11 ∷ 0 ∷ 0 ∷ 0 ∷ 0 ∷ 1 ∷ 38 ∷ 4 ∷ 0 ∷ (text_parameter 0 [] ++ text_parameter 16 (two_bytes_each (codes "select 1")))

-- sp_unprepare, up to the handle of four bytes
unfoldable pub unprepare_call : List ℕ
unprepare_call = 255 ∷ 255 ∷ 15 ∷ 0 ∷ 0 ∷ 0 ∷ 0 ∷ 0 ∷ 38 ∷ 4 ∷ 4 ∷ []

unfoldable pub wait_text : List ℕ
wait_text = two_bytes_each (codes "set lock_timeout 5; raiserror('tdsrelay', 0, 1) with nowait; waitfor delay '00:00:00.900'")

abbrev pub text_of : Step → List ℕ
text_of Set = set_text
text_of SetAgain = set_text
text_of Isolate = isolate_text
text_of MakeTable = make_table_text
text_of MakeTableAgain = make_table_text
text_of OpenCursor = open_cursor_text
text_of Lock = lock_text
text_of Begin = begin_text
text_of Prepare = prepare_call
text_of Unprepare = unprepare_call
text_of SetAndWait = wait_text
text_of _ = select_text

-- which of them close a handle, and which are calls
abbrev pub is_unprepare : Step → Bool
is_unprepare Unprepare = true
is_unprepare _ = false

abbrev pub is_prepare : Step → Bool
is_prepare Prepare = true
is_prepare _ = false

abbrev pub is_call : Step → Bool
is_call step = is_prepare step || is_unprepare step

abbrev pub kind_of_step : Step → Kind
kind_of_step step = if is_call step then packets.Procedure else packets.Batch

abbrev pub handle_of : Step → ℕ → List ℕ
handle_of step handle = if is_unprepare step then to_le_bytes w32 handle else []

abbrev pub body_of : Step → ℕ → List ℕ
body_of step handle = text_of step ++ handle_of step handle

-- The one packet of a request: in the transaction of this descriptor, which is 0 outside one.
abbrev pub request_of : Step → ℕ → ℕ → List ℕ
request_of step descriptor handle =
    sent_bytes (kind_of_step step) (end_bit true + mark_bit 0 (reset_of step)) 1 (all_headers descriptor ++ body_of step handle)

-- what cancels the request underway (2.2.1.7)
abbrev pub attention_bytes : List ℕ
attention_bytes = sent_bytes packets.Attention (end_bit true) 1 []
