-- The text of a report: a line for each event, a block for each request, and a line for each
-- connection that isn't cut at the end.
use Rattle.std.specs.Prelude.{ℕ, ◌+◌, List, [], ◌∷◌, ◌++◌, flat_map, Bool, true, false, Option, Some, None, codes, decimal}
use Rattle.tds_packet.specs.declared.status.Reset.{Reset}
use Rattle.tds_packet.specs.declared.status.Reset.TheVariants as reset
use Rattle.tds_session.specs.Session.{SessionState}
use Rattle.tds_world.specs.declared.report.Report.{Report}
use Rattle.tds_world.specs.declared.report.EventReport.{EventReport}
use Rattle.tds_world.specs.declared.report.RequestReport.{RequestReport}
use Rattle.tds_world.specs.declared.report.RequestStatus.{RequestStatus}
use Rattle.tds_world.specs.declared.report.RequestStatus.TheVariants as status
use Rattle.tds_world.specs.declared.report.Snapshot.{Snapshot}
use Rattle.tds_world.specs.declared.report.ClientView.{ClientView}
use Rattle.tds_world.specs.declared.report.ClientView.TheVariants as client
use Rattle.tds_world.specs.declared.report.Place.{Place}
use Rattle.tds_world.specs.declared.report.Place.TheVariants as place
use Rattle.tds_text.specs.Outcomes.{outcome_text}
use Rattle.tds_text.specs.Sessions.{session_text}
use Rattle.tds_text.specs.Texts.{line_feed}
use Rattle.tds_text.specs.Tokens.{token_line}

-- Whether the event cost its connection.
abbrev pub lost_text : Bool → List ℕ
lost_text true = codes " lost"
lost_text false = []

-- The line of the event at this place.
abbrev pub event_line : ℕ → EventReport → List ℕ
event_line place e = decimal place ++ codes " " ++ outcome_text e.outcome ++ lost_text e.lost ++ line_feed

-- The lines of events, of which the first stands at this place.
abbrev pub event_lines : ℕ → List EventReport → List ℕ
event_lines place [] = []
event_lines place (e ∷ es) = event_line place e ++ event_lines (place + 1) es

-- What became of a request.
abbrev pub status_word : RequestStatus → List ℕ
status_word status.Open = codes "open"
status_word status.Cancelling = codes "cancelling"
status_word status.Finished = codes "finished"
status_word status.Acknowledged = codes "acknowledged"
status_word status.Unsent = codes "unsent"
status_word status.Lost = codes "lost"

-- The session that a request ran in.
abbrev pub ran_text : Option SessionState → List ℕ
ran_text None = codes "not run"
ran_text (Some session) = codes "ran " ++ session_text session

-- Which request it is, and whose.
unfoldable pub request_head : ℕ → RequestReport → List ℕ
request_head number q = codes "request " ++ decimal number ++ codes " lease " ++ decimal q.lease ++ codes " on " ++ decimal q.conn

-- The first line of the block of the request with this number.
abbrev pub request_line : ℕ → RequestReport → List ℕ
request_line number q = request_head number q ++ codes " " ++ status_word q.status ++ codes " " ++ ran_text q.ran ++ line_feed

-- A request's block: that line, and one for each token that its caller was given.
abbrev pub request_block : ℕ → RequestReport → List ℕ
request_block number q = request_line number q ++ flat_map token_line q.tokens

-- The blocks of requests, of which the first has this number.
abbrev pub request_blocks : ℕ → List RequestReport → List ℕ
request_blocks number [] = []
request_blocks number (q ∷ qs) = request_block number q ++ request_blocks (number + 1) qs

-- What a client does.
abbrev pub client_word : ClientView → List ℕ
client_word client.Idle = codes "idle"
client_word client.Sending = codes "sending"
client_word client.Reading = codes "reading"
client_word client.Cancelling = codes "cancelling"

-- Where a connection stands in the pool.
abbrev pub place_text : Place → List ℕ
place_text (place.Leased lease) = codes "leased " ++ decimal lease
place_text (place.Kept ticket) = codes "kept " ++ decimal ticket
place_text place.Free = codes "free"
place_text place.Draining = codes "draining"

-- The reset that the next request asks for.
abbrev pub mark_word : Option Reset → List ℕ
mark_word None = codes "none"
mark_word (Some reset.Full) = codes "full"
mark_word (Some reset.KeepTransaction) = codes "keep"

-- Which connection it is, and what its client does.
unfoldable pub connection_head : Snapshot → List ℕ
connection_head s = codes "connection " ++ decimal s.conn ++ codes " " ++ client_word s.client

-- What its client heard last, and what it will ask for.
unfoldable pub client_text : Snapshot → List ℕ
client_text s = codes " descriptor " ++ decimal s.descriptor ++ codes " mark " ++ mark_word s.mark

-- How many bytes are underway to its server and to its client.
unfoldable pub underway_text : Snapshot → List ℕ
underway_text s = codes " underway " ++ decimal s.to_server ++ codes " " ++ decimal s.to_client

-- The line of a connection.
abbrev pub connection_line : Snapshot → List ℕ
connection_line s = connection_head s ++ codes " " ++ place_text s.place ++ client_text s ++ codes " server " ++ session_text s.server ++ underway_text s ++ line_feed

-- The snapshots after the last event.
abbrev pub last_snapshots : List EventReport → List Snapshot
last_snapshots [] = []
last_snapshots (e ∷ []) = e.snapshots
last_snapshots (e ∷ f ∷ es) = last_snapshots (f ∷ es)

-- The text of a report.
abbrev pub text_of : Report → List ℕ
text_of r = event_lines 1 r.events ++ request_blocks 1 r.requests ++ flat_map connection_line (last_snapshots r.events)
