-- The lines of a trace: objects of JSON, with the words of a report in them.
use Rattle.std.specs.Prelude.{ℕ, ◌+◌, ◌-◌, ◌==◌, List, [], ◌∷◌, ◌++◌, length, drop, take, map, Bool, true, false, ◌||◌, ◌&&◌, nat_le, if◌then◌else◌, codes, decimal}
use Rattle.std.specs.List.{flat_map}
use Rattle.tds_packet.specs.declared.kind.Direction.{Direction}
use Rattle.tds_packet.specs.declared.kind.Direction.TheVariants.{ToServer, ToClient}
use Rattle.tds_session.specs.declared.attention.OnAttention.{OnAttention}
use Rattle.tds_text.specs.Lines.{connection_line, event_line, request_line}
use Rattle.tds_text.specs.Texts.{hex2, with_commas}
use Rattle.tds_text.specs.Tokens.{token_line}
use Rattle.tds_session.specs.declared.attention.OnAttention.TheVariants as attention
use Rattle.tds_trace.specs.declared.call.Call.{Call}
use Rattle.tds_trace.specs.declared.call.Made.{Made}
use Rattle.tds_trace.specs.declared.call.Made.TheVariants as made
use Rattle.tds_world.specs.declared.event.Setup.{Setup}
use Rattle.tds_world.specs.declared.report.EventReport.{EventReport}
use Rattle.tds_world.specs.declared.report.Report.{Report}
use Rattle.tds_world.specs.declared.report.RequestReport.{RequestReport}
use Rattle.tds_world.specs.declared.report.Snapshot.{Snapshot}
use Rattle.tds_token.specs.declared.token.Token.{Token}

-- A character of a report within a text of JSON (RFC 8259, 7). A report has none but those from space to
-- tilde.
abbrev pub is_quoted : ℕ → Bool
is_quoted c = (c == 34) || (c == 92)

abbrev pub is_shown : ℕ → Bool
is_shown c = nat_le 32 c && nat_le c 126

abbrev pub json_char : ℕ → List ℕ
json_char c = if is_quoted c then 92 ∷ c ∷ [] else if is_shown c then c ∷ [] else codes "?"

-- A line of a report as a text of JSON: behind so many characters, and without the line feed.
abbrev pub line_text : ℕ → List ℕ → List ℕ
line_text from line =
    codes "\"" ++ flat_map json_char (take (length line - 1 - from) (drop from line)) ++ codes "\""

abbrev pub truth : Bool → List ℕ
truth true = codes "true"
truth false = codes "false"

abbrev pub rolls_back : OnAttention → Bool
rolls_back attention.Keep = false
rolls_back attention.RollBack = true

-- What is played.
unfoldable pub setup_head : Setup → List ℕ
setup_head s =
    codes "{\"packet_size\":" ++ decimal s.packet_size ++ codes ",\"max\":" ++ decimal s.max
    ++ codes ",\"rollback_on_attention\":"

abbrev pub setup_line : Setup → List ℕ
setup_line s = setup_head s ++ truth (rolls_back s.on_attention) ++ codes "}\n"

-- An event: what it came to, and the connections after it.
unfoldable pub event_words : EventReport → List ℕ
event_words e = line_text 2 (event_line 1 e)

unfoldable pub snapshot_text : Snapshot → List ℕ
snapshot_text s = line_text 0 (connection_line s)

abbrev pub snapshots_text : List Snapshot → List ℕ
snapshots_text snapshots = with_commas (map snapshot_text snapshots)

unfoldable pub event_front : ℕ → List ℕ
event_front place = codes "{\"event\":" ++ decimal place ++ codes ",\"outcome\":"

abbrev pub event_json : ℕ → EventReport → List ℕ
event_json place e =
    event_front place ++ event_words e
    ++ codes ",\"connections\":[" ++ snapshots_text e.snapshots ++ codes "]}\n"

-- A call, with the bytes that it handed over or brought.
abbrev pub direction_word : Direction → List ℕ
direction_word ToServer = codes "to_server"
direction_word ToClient = codes "to_client"

unfoldable pub bytes_head : Direction → List ℕ
bytes_head d = codes ",\"direction\":\"" ++ direction_word d ++ codes "\",\"bytes\":\""

abbrev pub bytes_text : Direction → List ℕ → List ℕ
bytes_text d bytes = bytes_head d ++ flat_map hex2 bytes ++ codes "\""

abbrev pub made_word : Made → List ℕ
made_word made.Open = codes "open"
made_word (made.Send d bytes) = codes "send"
made_word (made.Carry d bytes) = codes "carry"
made_word made.Cut = codes "cut"

abbrev pub made_bytes : Made → List ℕ
made_bytes made.Open = []
made_bytes (made.Send d bytes) = bytes_text d bytes.items
made_bytes (made.Carry d bytes) = bytes_text d bytes.items
made_bytes made.Cut = []

unfoldable pub call_head : Call → List ℕ
call_head c =
    codes "{\"event\":" ++ decimal c.event ++ codes ",\"connection\":" ++ decimal c.conn
    ++ codes ",\"call\":\"" ++ made_word c.made ++ codes "\""

abbrev pub call_json : Call → List ℕ
call_json c = call_head c ++ made_bytes c.made ++ codes ",\"failed\":" ++ truth c.failed ++ codes "}\n"

-- The calls of one event.
abbrev pub call_of : ℕ → Call → List ℕ
call_of place c = if c.event == place then call_json c else []

abbrev pub calls_of : ℕ → List Call → List ℕ
calls_of place calls = flat_map (call_of place) calls

-- Each event, the first of which stands at this place, with its calls behind it.
abbrev pub event_lines : ℕ → List EventReport → List Call → List ℕ
event_lines place [] calls = []
event_lines place (e ∷ es) calls =
    event_json place e ++ calls_of place calls ++ event_lines (place + 1) es calls

-- A request: what became of it, and what its caller was told.
unfoldable pub request_words : RequestReport → List ℕ
request_words q = line_text 10 (request_line 1 q)

unfoldable pub token_text : Token → List ℕ
token_text t = line_text 2 (token_line t)

abbrev pub tokens_text : List Token → List ℕ
tokens_text tokens = with_commas (map token_text tokens)

unfoldable pub request_front : ℕ → List ℕ
request_front number = codes "{\"request\":" ++ decimal number ++ codes ",\"outcome\":"

abbrev pub request_json : ℕ → RequestReport → List ℕ
request_json number q =
    request_front number ++ request_words q
    ++ codes ",\"told\":[" ++ tokens_text q.tokens ++ codes "]}\n"

abbrev pub request_lines : ℕ → List RequestReport → List ℕ
request_lines number [] = []
request_lines number (q ∷ qs) = request_json number q ++ request_lines (number + 1) qs

-- The trace of a play.
abbrev pub trace_text : Setup → Report → List Call → List ℕ
trace_text setup report calls =
    setup_line setup ++ event_lines 1 report.events calls ++ request_lines 1 report.requests
