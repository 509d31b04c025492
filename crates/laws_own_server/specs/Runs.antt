-- A connection of the bench as a run of `laws_conforming_server`: its packets, and what comes on it.
use Rattle.std.specs.Prelude.{◌≡◌, ℕ, suc, Bool, true, false, not, List, [], ◌∷◌, ◌++◌, Option, Some, None}
use Rattle.tds_packet.specs.declared.status.Reset.{Reset}
use Rattle.tds_packet.specs.Layout.{bits_of, reset_of}
use Rattle.tds_token.specs.declared.token.Token.{Token}
use Rattle.tds_session.specs.Answer.{Answers}
use Rattle.tds_session.specs.Attention.{acknowledging}
use Rattle.tds_service.specs.Parts as parts
use Rattle.tds_service.specs.Parts.{Item, Close}
use Rattle.tds_service.specs.Line as line
use Rattle.tds_service.specs.Line.{Act}
use Rattle.tds_service.specs.History.{Done}
use Rattle.tds_world.specs.Connection.{Connection}
use Rattle.tds_world.specs.Entries as entries
use Rattle.tds_world.specs.Entries.{Up, Part, End, Drop, Attention, Down, Step, Acknowledgement}
use Rattle.tds_world.specs.Laws.{OfEachConnection}
use Rattle.tds_world.specs.World.{World, numbered}
use Rattle.laws_conforming_server.specs.Lawful as lawful
use Rattle.laws_conforming_server.specs.Link as links
use Rattle.laws_conforming_server.specs.Link.{Link, Move, Runs, here, link_after, new_link}
use Rattle.laws_own_server.specs.Bench.{Kept, Log, bench, item_of, said}

-- ---- What goes out

-- Where a message is: the number of its request on this connection, whether a packet of it is out, and the reset that its first one
-- asks for.
pub record Place : Type 0 where
  pub number : ℕ
  pub begun : Bool
  pub reset : Option Reset

abbrev pub first_place : Place
first_place = record { number = 1; begun = false; reset = None }

-- The reset that a packet asks for, by the bits of its status (MS-TDS 2.2.3.1.2): the first one of a message alone does.
abbrev pub asked_by : Bool → entries.Packet → Option Reset
asked_by false p = reset_of (bits_of p.header.status)
asked_by true p = None

abbrev pub asked_so_far : Bool → Option Reset → entries.Packet → Option Reset
asked_so_far false reset p = asked_by false p
asked_so_far true reset p = reset

abbrev pub packet_of : Place → Up → line.Packet
packet_of place (Part r p) = line.OfRequest place.number (not place.begun) (asked_by place.begun p) false
packet_of place (End r a p) = line.OfRequest place.number (not place.begun) (asked_by place.begun p) true
packet_of place (Drop r p) = line.Ignore place.number
packet_of place (Attention r) = line.Attention

abbrev pub place_behind : Place → Up → Place
place_behind place (Part r p) = record { number = place.number; begun = true; reset = asked_so_far place.begun place.reset p }
place_behind place (End r a p) = record { number = suc place.number; begun = false; reset = None }
place_behind place (Drop r p) = record { number = suc place.number; begun = false; reset = None }
place_behind place (Attention r) = record { number = place.number; begun = false; reset = None }

abbrev pub places : Place → List Up → Place
places place [] = place
places place (e ∷ es) = places (place_behind place e) es

abbrev pub packets_of : Place → List Up → List line.Packet
packets_of place [] = []
packets_of place (e ∷ es) = packet_of place e ∷ packets_of (place_behind place e) es

abbrev pub packets_in : {T : Type 0} → List (Done T) → List line.Packet
packets_in [] = []
packets_in (d ∷ ds) = d.sent ++ packets_in ds

-- ---- What comes

-- A token with its sign, a message's end, or the place where it is broken off.
pub data Thing (T : Type 0) : Type 0 where
  A : (item : Item T) → Thing T
  MessageEnd : Thing T
  Break : Thing T

abbrev pub then_items : {T : Type 0} → List (Item T) → List (Thing T) → List (Thing T)
then_items [] others = others
then_items (item ∷ items) others = A item ∷ then_items items others

abbrev pub then_close : {T : Type 0} → Close → List (Thing T) → List (Thing T)
then_close parts.Goes others = others
then_close parts.Ends others = MessageEnd ∷ others
then_close parts.Cut others = Break ∷ others
then_close (parts.Fails refusal) others = others

abbrev pub items_of : List Token → List (Item Token)
items_of [] = []
items_of (t ∷ ts) = item_of t ∷ items_of ts

abbrev pub close_if : Bool → Close
close_if true = parts.Ends
close_if false = parts.Goes

-- Of the entries towards a client.
abbrev pub things_of : List Down → List (Thing Token)
things_of [] = []
things_of (Step r place s ∷ es) = then_items (items_of s.tokens) (then_close (close_if s.last) (things_of es))
things_of (Acknowledgement r place changes ∷ es) = then_items (items_of (acknowledging changes)) (MessageEnd ∷ things_of es)

-- Of what a lawful server said.
abbrev pub things_said : {V T : Type 0} → List (lawful.ServerStep V T) → List (Thing T)
things_said [] = []
things_said (lawful.Says item after ∷ steps) = A item ∷ things_said steps
things_said (lawful.Ends ∷ steps) = MessageEnd ∷ things_said steps
things_said (lawful.Breaks ∷ steps) = Break ∷ things_said steps

-- Of what was done at the client's end.
abbrev pub things_by : {T : Type 0} → Act T → List (Thing T)
things_by (line.Come part) = then_items part.items (then_close part.close [])
things_by act = []

abbrev pub things_in : {T : Type 0} → List (Done T) → List (Thing T)
things_in [] = []
things_in (d ∷ ds) = things_by d.act ++ things_in ds

-- ---- Both at one moment

abbrev pub packets_up : List links.PacketUp → List line.Packet
packets_up [] = []
packets_up (u ∷ us) = u.packet ∷ packets_up us

-- What waits on the lanes is on its way, and the server has the same session, and the same to say.
pub record Stands (c : Connection) (link : Link Kept Token) : Type 0 where
  pub up : packets_up link.up ≡ packets_of (places first_place c.to_server.arrived) c.to_server.waiting
  pub down : things_said link.down ≡ things_of c.to_client.waiting
  pub transaction : link.server.session.transaction ≡ c.session.descriptor
  pub settings : link.server.session.settings.settings ≡ c.session.settings
  pub due : link.server.due ≡ said c.session.descriptor c.due

-- A run of the lawful server of these answers, in which just that went out and came that went out and came on the connection.
pub record RunsTo (answers : Answers) (log : Log) (moves : List (Move Token)) (c : Connection) : Type 0 where
  pub runs : Runs (bench c.on_attention answers log) (new_link (bench c.on_attention answers log)) moves
  pub sent : packets_in (here moves) ≡ packets_of first_place (c.to_server.arrived ++ c.to_server.waiting)
  pub came : things_in (here moves) ≡ things_of c.to_client.arrived
  pub stands : Stands c (link_after (bench c.on_attention answers log) (new_link (bench c.on_attention answers log)) moves)

pub record IsRunOf (answers : Answers) (c : Connection) : Type 0 where
  pub log : Log
  pub moves : List (Move Token)
  pub to : RunsTo answers log moves c

abbrev pub AreRuns : Answers → World → Type 0
AreRuns answers w = OfEachConnection (IsRunOf answers) w

-- One run of one server leads to a connection as it was, and goes on to it as it is.
pub record GoesOn (answers : Answers) (c d : Connection) : Type 0 where
  pub log : Log
  pub moves : List (Move Token)
  pub later : List (Move Token)
  pub was : RunsTo answers log moves c
  pub is : RunsTo answers log (moves ++ later) d

-- So it is with each connection of a world, and the one of its number in a later one.
abbrev pub GoOn : Answers → World → World → Type 0
GoOn answers w v =
    (n : ℕ) (c d : Connection) → numbered w.connections n ≡ Some c → numbered v.connections n ≡ Some d → GoesOn answers c d
