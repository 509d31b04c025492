-- What a delivery does at the end that it comes to, and what it does in the model.
use Rattle.std.specs.Prelude.{ℕ, ◌≡◌, List, [], ◌∷◌, ◌++◌, take, flat_map, false, Option, Some, None, Result}
use Rattle.tds_client.specs.declared.fault.ClientFault.{ClientFault}
use Rattle.tds_client.specs.Session.{ClientSession}
use Rattle.tds_client.specs.Taking as client
use Rattle.tds_client.specs.Taking.{ClientMove}
use Rattle.tds_packet.specs.Layout.{bits_of, has_bit}
use Rattle.tds_packet.specs.Reading.{Reading}
use Rattle.tds_server.specs.State.{ServerState}
use Rattle.tds_server.specs.Taking.{taken}
use Rattle.tds_session.specs.Answer.{Answers}
use Rattle.tds_token.specs.declared.token.Token.{Token}
use Rattle.tds_world.specs.declared.report.RequestStatus.{RequestStatus}
use Rattle.tds_world.specs.Arrivals.{server_acts, client_acts}
use Rattle.tds_world.specs.Connection.{Connection}
use Rattle.tds_world.specs.Entries.{Up, up_packet, up_bytes, Down, down_packet, down_bytes}
use Rattle.tds_world.specs.Lane.{passed}
use Rattle.tds_world.specs.Phase.{request_status}
use Rattle.tds_world.specs.Record.{Record}
use Rattle.tds_ends.specs.Refines.{RefinesArrive}
use Rattle.tds_ends.specs.Feeding.{Coming, Comes, IsComing, Served, served, Listened, listened}
use Rattle.tds_ends.specs.Hearing.{RefinesHear}
use Rattle.tds_ends.specs.Stands.{MatchesServer, MatchesClient, Sends}

-- An entry as the packet that comes.
abbrev pub up_coming : Up → Coming
up_coming e = record { bytes = up_bytes e; header = (up_packet e).header; content = (up_packet e).body }

-- Each of these entries is a packet to this reader, and a server that stands for the connection takes
-- it as the model does, one after the other.
abbrev pub AllArrive : Type 0 → Answers → Reading → Connection → List Up → Type 0
AllArrive E answers r c [] = Unit {0}
AllArrive E answers r c (e ∷ es) =
    IsComing r (up_coming e)
    × ((s : ServerState E) → MatchesServer s (record c { to_server = passed e c.to_server })
    → RefinesArrive answers (record c { to_server = passed e c.to_server }) e (taken answers s (up_packet e).header (up_packet e).body))
    × AllArrive E answers r (server_acts answers (record c { to_server = passed e c.to_server }) e) es

-- More was appended, and more was sent.
abbrev pub SendsMore : Connection → Connection → List ℕ → List ℕ → Type 0
SendsMore c d before after =
    (more : List ℕ) × (after ≡ before ++ more) × Sends down_bytes more c.to_client d.to_client

-- Bytes that come to a server, and the connection then: they are packets and the beginning of one; the
-- server takes them all, stands for the connection then, and has appended what the connection sent;
-- and what is left of the bytes is what has come of the entry that is cut.
pub record RefinesServes (E : Type 0) (answers : Answers) (r : Reading) (bytes : List ℕ) (c d : Connection)
    (s : ServerState E) (reply : List ℕ) : Type 0 where
  pub packets : List Coming
  pub rest : List ℕ
  pub then : Served E
  pub comes : Comes r bytes packets rest
  pub serves : served answers s reply packets ≡ Some then
  pub matches : MatchesServer then.state d
  pub sends : SendsMore c d reply then.reply
  pub left : rest ≡ take d.to_server.part (flat_map up_bytes d.to_server.waiting)

-- ---- At the client

abbrev pub down_coming : Down → Coming
down_coming e = record { bytes = down_bytes e; header = (down_packet e).header; content = (down_packet e).body }

-- What a client makes of an entry's packet.
abbrev pub heard_of : ClientSession → Down → Result ClientMove ClientFault
heard_of s e = client.taken s (has_bit (bits_of (down_packet e).header.status) 1) (down_packet e).body

-- Each of these entries is a packet to this reader, somebody waits for it, and a client that stands for
-- the connection hears it as the model does, one after the other.
abbrev pub AllHeard : Reading → Connection → List Down → Type 0
AllHeard r c [] = Unit {0}
AllHeard r c (e ∷ es) =
    IsComing r (down_coming e)
    × ((s : ClientSession) → MatchesClient s (record c { to_client = passed e c.to_client })
    → (q : Record) × (c.current ≡ Some q) × RefinesHear (record c { to_client = passed e c.to_client }) q e (heard_of s e))
    × AllHeard r (client_acts (record c { to_client = passed e c.to_client }) e) es

-- A status, unless it was settled since.
abbrev pub status_under : Option RequestStatus → RequestStatus → RequestStatus
status_under None before = before
status_under (Some now) before = now

-- The newest request's caller was given what was told, and its status is what the client's answers
-- made of it.
abbrev pub TellsMore : Connection → Connection → Option RequestStatus → List Token → Listened → Type 0
TellsMore c d settled told then =
    (q : Record) → c.current ≡ Some q
    → (after : Record) × (d.current ≡ Some after)
    × ((more : List Token) × (then.told ≡ told ++ more) × (after.given ≡ q.given ++ more))
    × ((before : RequestStatus) → request_status false q ≡ status_under settled before
    → request_status false after ≡ status_under then.settled before)

-- Bytes that come to a client, and the connection then: they are packets and the beginning of one; the
-- client takes them all, stands for the connection then, and told the newest request's caller what the
-- model gave; and what is left of the bytes is what has come of the entry that is cut.
pub record RefinesListens (r : Reading) (bytes : List ℕ) (c d : Connection) (s : ClientSession)
    (settled : Option RequestStatus) (told : List Token) : Type 0 where
  pub packets : List Coming
  pub rest : List ℕ
  pub then : Listened
  pub comes : Comes r bytes packets rest
  pub listens : listened s settled told packets ≡ Some then
  pub matches : MatchesClient then.session d
  pub tells : TellsMore c d settled told then
  pub left : rest ≡ take d.to_client.part (flat_map down_bytes d.to_client.waiting)
