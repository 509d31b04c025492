-- What the server and the client do when an entry arrives, what comes with a delivery, and what the
-- server's work sends.
use Rattle.std.specs.Prelude.{ℕ, ◌+◌, ◌-◌, min, List, [], ◌∷◌, ◌++◌, length, Bool, true, false, if◌then◌else◌, nat_lt, Option, Some, None, unwrap_or}
use Rattle.tds_packet.specs.declared.status.Reset.{Reset}
use Rattle.tds_packet.specs.Resets.{reset_effect}
use Rattle.tds_session.specs.Answer as answer
use Rattle.tds_session.specs.Answer.{Answers}
use Rattle.tds_session.specs.Attention.{Stop, stopped}
use Rattle.tds_token.specs.declared.env_change.EnvChange.{EnvChange}
use Rattle.tds_token.specs.Told.{changes_of, applied}
use Rattle.tds_world.specs.declared.report.Place.TheVariants as place
use Rattle.tds_world.specs.Connection.{Connection, Standing, In, is_idle, with_record, up_underway, down_underway}
use Rattle.tds_world.specs.Entries.{Up, Part, End, Drop, Attention, Down, Step, Acknowledgement, up_bytes, down_bytes}
use Rattle.tds_world.specs.Lane.{append, passed, with_waiting}
use Rattle.tds_world.specs.Record.{gives, acknowledges, runs}

-- The place of an acknowledgement in its message: it ends the message of an answer that is still
-- due, or else is a message of its own.
abbrev pub acknowledged_at : List answer.Step → ℕ → ℕ
acknowledged_at [] taken = 1
acknowledged_at (s ∷ ss) taken = taken + 1

-- Whether an answer of which so many steps were taken is in its middle: one was, and these are due.
abbrev pub is_midway : ℕ → List answer.Step → Bool
is_midway taken [] = false
is_midway taken (s ∷ ss) = nat_lt 0 taken

-- What an attention does to the server's session.
abbrev pub stops : Connection → Stop
stops c = stopped c.on_attention (is_midway c.taken c.due) c.session

-- An entry arrives at the server. With a request's end its whole answer is due, from the session of
-- this moment, and no step of it is taken yet. A word to drop forgets the parts. An attention stops
-- the answer, and is acknowledged: the session changes as the acknowledgement tells, both at once.
abbrev pub server_acts : Answers → Connection → Up → Connection
server_acts answers c (Part r p) = record c { parts = c.parts ++ p.body }
server_acts answers c (End r a p) = record c {
  parts = [];
  answering = r;
  due = answers c.session a.descriptor a.mark a.request;
  taken = 0;
}
server_acts answers c (Drop r p) = record c { parts = [] }
server_acts answers c (Attention r) = record c {
  parts = [];
  due = [];
  taken = 0;
  session = (stops c).after;
  to_client = append (Acknowledgement r (acknowledged_at c.due c.taken) (stops c).changes) c.to_client;
}

-- The server takes the next step of the answer that is due: its session becomes the step's, and the
-- step goes out, both at once.
abbrev pub works_on : Connection → List answer.Step → Connection
works_on c [] = c
works_on c (s ∷ ss) = with_record c.answering (runs c.session s) (record c {
  due = ss;
  taken = c.taken + 1;
  session = s.after;
  to_client = append (Step c.answering (c.taken + 1) s) c.to_client;
})

abbrev pub works : Connection → Connection
works c = works_on c c.due

-- The descriptor after all changes that a step tells, if they apply.
abbrev pub heard_after : ℕ → answer.Step → Option ℕ
heard_after descriptor s = applied (reset_effect s.reset) descriptor (changes_of s.tokens)

-- The descriptor after the changes of an acknowledgement. No reset ends there.
abbrev pub heard_behind : ℕ → List EnvChange → Option ℕ
heard_behind descriptor changes = applied (reset_effect None) descriptor changes

-- The mark after a step: it stands until a reset is done.
abbrev pub mark_after : Option Reset → Option Reset → Option Reset
mark_after None mark = mark
mark_after (Some r) mark = None

-- The client hears of a step's changes, whether or not anyone is given its tokens.
abbrev pub hears : answer.Step → Connection → Connection
hears s c = record c {
  heard = unwrap_or (heard_after c.heard s) c.heard;
  mark = mark_after s.reset c.mark;
}

-- So it hears of what an acknowledgement tells.
abbrev pub hears_of : List EnvChange → Connection → Connection
hears_of changes c = record c { heard = unwrap_or (heard_behind c.heard changes) c.heard }

-- An entry arrives at the client. It acts on the request whose tag it has.
abbrev pub client_acts : Connection → Down → Connection
client_acts c (Step r place s) = with_record r (gives s) (hears s c)
client_acts c (Acknowledgement r place changes) = with_record r acknowledges (hears_of changes c)

-- Of the entries that waited for the server, k bytes have come: those that are whole arrive and act
-- in order, and the rest waits.
abbrev pub reach_server : Answers → Connection → List Up → ℕ → Connection
reach_server answers c [] k = record c { to_server = with_waiting [] 0 c.to_server }
reach_server answers c (e ∷ es) k =
    if nat_lt k (length (up_bytes e))
    then record c { to_server = with_waiting (e ∷ es) k c.to_server }
    else reach_server answers
    (server_acts answers (record c { to_server = passed e c.to_server }) e)
    es (k - length (up_bytes e))

-- The same at the client.
abbrev pub reach_client : Connection → List Down → ℕ → Connection
reach_client c [] k = record c { to_client = with_waiting [] 0 c.to_client }
reach_client c (e ∷ es) k =
    if nat_lt k (length (down_bytes e))
    then record c { to_client = with_waiting (e ∷ es) k c.to_client }
    else reach_client
    (client_acts (record c { to_client = passed e c.to_client }) e)
    es (k - length (down_bytes e))

-- A draining connection is free once it is idle.
abbrev pub drained : Bool → Standing → Standing
drained true (In place.Draining) = In place.Free
drained idle standing = standing

abbrev pub drains : Connection → Connection
drains c = record c { standing = drained (is_idle c) c.standing }

-- Of the bytes underway to the server, n more come, or all where there are fewer.
abbrev pub to_server : Answers → ℕ → Connection → Connection
to_server answers n c =
    reach_server answers c c.to_server.waiting (c.to_server.part + min n (up_underway c))

-- The same towards the client.
abbrev pub to_client : ℕ → Connection → Connection
to_client n c =
    drains (reach_client c c.to_client.waiting (c.to_client.part + min n (down_underway c)))
