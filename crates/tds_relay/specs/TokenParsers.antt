-- Where the parser over what a connection answers stands: each packet is read from where the one before has left it, each message anew;
-- and how long the packets are that go out.
use Rattle.std.specs.Prelude.{◌≡◌, ◌≢◌, ◌⊎◌, ◌≤◌, ℕ, ◌==◌, Bool, List, [], ◌∷◌, Option, Some, None, if◌then◌else◌}
use Rattle.tds_packet.specs.declared.header.Header.{Header}
use Rattle.tds_packet.specs.Layout.{IsPacket}
use Rattle.tds_packet.specs.Reading as packets
use Rattle.tds_packet.specs.Reading.{IsWhole}
use Rattle.tds_listen.specs.Hearing.{Stop, Stands, Fails, tokens_in}
use Rattle.tds_wire.specs.declared.features.Features.{Features}
use Rattle.tds_wire.specs.declared.told.Token.{Token}
use Rattle.tds_wire.specs.Reading.{Parser}
use Rattle.tds_service.specs.declared.service.Service as services
use Rattle.tds_service.specs.Beginning.{Begins}
use Rattle.tds_service.specs.Packets.{behind_packet, packet_part}
use Rattle.tds_service.specs.Parts.{Part}
use Rattle.tds_service.specs.Service.{Service, Call, Seat, new_service, seat_numbered, service_after}
use Rattle.tds_service.specs.Sizes.{AllSized, KeepsSize}
use Rattle.tds_service.specs.Table.{reading_on, service_in}
use Rattle.tds_relay.specs.declared.pool.coming.Heard.{Heard}
use Rattle.tds_relay.specs.Cutting.{is_last_packet}
use Rattle.tds_relay.specs.Machine.{Machine, Step, Hands, MayAll, after, after_all, new_machine}
use Rattle.tds_relay.specs.Pool.{Sharing}

-- ---- What a packet moves

-- where a parser stands behind a packet's data, which end their message or not
abbrev pub read_to : Bool → Parser → Stop → Parser
read_to ends r (Stands next) = behind_packet ends next
read_to ends r (Fails refusal) = r

-- the same of a packet on this connection, or on another one, where the service has that
abbrev pub read_at : ℕ → ℕ → Option Seat → Bool → List ℕ → Parser → Parser
read_at number other None ends content r = r
read_at number other (Some c) ends content r = if other == number then read_to ends r (tokens_in r content).stop else r

-- ---- Along steps

-- A packet of a connection that the service has is read from there.
abbrev pub IsReadBy : Option Seat → Parser → Header → List ℕ → Part Token → Type 0
IsReadBy None r header content part = Unit {0}
IsReadBy (Some c) r header content part = part ≡ packet_part r content (is_last_packet header)

abbrev pub IsReadAt : ℕ → Parser → Machine → Step → Type 0
IsReadAt number r h (Hands other header content part way manner) = number ≡ other → IsReadBy (seat_numbered other h.core.pool.service.seats) r header content part
IsReadAt number r h step = Unit {0}

abbrev pub stands_by : ℕ → Parser → Machine → Step → Parser
stands_by number r h (Hands other header content part way manner) =
    read_at number other (seat_numbered other h.core.pool.service.seats) (is_last_packet header) content r
stands_by number r h step = r

-- Each packet on the connection of this number is read from where the one before has left its parser.
abbrev pub AreRead : ℕ → Parser → Machine → List Step → Type 0
AreRead number r h [] = Unit {0}
AreRead number r h (step ∷ steps) = IsReadAt number r h step × AreRead number (stands_by number r h step) (after h step) steps

abbrev pub stands_behind : ℕ → Parser → Machine → List Step → Parser
stands_behind number r h [] = r
stands_behind number r h (step ∷ steps) = stands_behind number (stands_by number r h step) (after h step) steps

-- whatever its parser is, none is read
abbrev pub NoneRead : ℕ → Machine → List Step → Type 0
NoneRead number h steps = (r : Parser) → AreRead number r h steps × (stands_behind number r h steps ≡ r)

-- Each is, on each connection: the first one by a parser that has read nothing.
abbrev pub AllReadAnew : ℕ → Features → Machine → List Step → Type 0
AllReadAnew most features h steps = (number : ℕ) → (r : Parser) × Begins most features r × AreRead number r h steps

-- ---- In a service

-- Calls led to it from a new one.
abbrev pub IsLed : Service → Type 0
IsLed s = (max : ℕ) × (all : List (Call Token)) × (service_after (new_service max) all ≡ s)

-- The parser of the connection of this number stands there; or the connection is there no more, and no other has its number.
pub record StandsAt (number : ℕ) (r : Parser) (s : services.Service) : Type 0 where
  pub led : IsLed (service_in s)
  pub given : number ≤ s.last
  pub there : (now : Parser) → reading_on number s ≡ Some now → now ≡ r

-- The parser of the connection of this number, if it is there already, has read nothing: it has room for so many columns, and its login
-- acknowledged these features, as the service was told of each.
pub record IsUnread (most : ℕ) (features : Features) (number : ℕ) (s : services.Service) : Type 0 where
  pub led : IsLed (service_in s)
  pub told : (s.most ≡ most) × (s.features ≡ features)
  pub begins : (now : Parser) → reading_on number s ≡ Some now → Begins most features now

-- What stands in a service: a connection's parser that has read nothing yet, or that is there; or
-- how long the packets of all connections are that go out.
pub data WhatStands : Type 0 where
  Unread : (most : ℕ) (features : Features) → WhatStands
  There : (r : Parser) → WhatStands
  OfSize : (size : ℕ) → WhatStands

abbrev pub IsStanding : ℕ → WhatStands → services.Service → Type 0
IsStanding number (Unread most features) s = IsUnread most features number s
IsStanding number (There r) s = StandsAt number r s
IsStanding number (OfSize size) s = AllSized size s

-- Each parser stands where it stood, and the size of the packets that go out stays.
abbrev pub AllStand : services.Service → services.Service → Type 0
AllStand old new =
    (number : ℕ) (what : WhatStands) → IsStanding number what old → IsStanding number what new

-- A packet with these data has come on the connection of this number, and the size of the packets that go out stays.
pub record AllRead (number : ℕ) (ends : Bool) (content : List ℕ) (old new : services.Service) : Type 0 where
  pub stand : (other : ℕ) (r : Parser) → StandsAt other r old
      → StandsAt other (read_at other number (seat_numbered number (service_in old).seats) ends content r) new
  pub unread : (other most : ℕ) (features : Features) → (other ≢ number) ⊎ (seat_numbered number (service_in old).seats ≡ None)
      → IsUnread most features other old → IsUnread most features other new
  pub sized : KeepsSize old new

-- That which a reader has, if it has one.
abbrev pub HasRead : ℕ → packets.Reading → services.Service → services.Service → Type 0
HasRead number r old new =
    ((¬ IsWhole r) × AllStand old new)
    ⊎ ((header : Header) × (content : List ℕ) × IsPacket r.direction r.size r.taken header content × AllRead number (is_last_packet header) content old new)

-- whatever packet that is
pub record ReadsOn (number : ℕ) (r : packets.Reading) (old new : services.Service) : Type 0 where
  pub none : ¬ IsWhole r → AllStand old new
  pub one : (header : Header) (content : List ℕ) → IsPacket r.direction r.size r.taken header content → AllRead number (is_last_packet header) content old new

-- a header with a fault is no packet's
abbrev pub ReadsBy : ℕ → packets.Reading → Option Heard → services.Service → services.Service → Type 0
ReadsBy number r None old new = AllStand old new
ReadsBy number r (Some heard) old new = ReadsOn number r old new

-- Each packet on the connection of this number is read, the first one by a parser that has read nothing; it stands where they lead it, or
-- none was read.
abbrev pub ReadAnew : ℕ → Features → ℕ → Machine → List Step → services.Service → Type 0
ReadAnew most features number h steps to =
    (r : Parser) × Begins most features r × AreRead number r h steps
    × (StandsAt number (stands_behind number r h steps) to ⊎ (NoneRead number h steps × IsUnread most features number to))

-- Behind steps each parser stands where their packets lead it, which are read from there; and the size of the packets that go out stays.
pub record Walks (from : services.Service) (old : Machine) (steps : List Step) (to : services.Service) : Type 0 where
  pub each : (number : ℕ) (r : Parser) → StandsAt number r from → AreRead number r old steps
  pub stand : (number : ℕ) (r : Parser) → StandsAt number r from → StandsAt number (stands_behind number r old steps) to
  pub anew : (number most : ℕ) (features : Features) → IsUnread most features number from → ReadAnew most features number old steps to
  pub sized : KeepsSize from to

-- ---- From a new relay

-- Steps led to this machine, and to this service, each packet among which is read from where the one before has left its connection's parser.
pub record IsReadTo (sharing : Sharing) (most : ℕ) (features : Features) (h : Machine) (s : services.Service) : Type 0 where
  pub steps : List Step
  pub are : after_all (new_machine sharing) steps ≡ h
  pub may : MayAll (new_machine sharing) steps
  pub each : (number : ℕ) → ReadAnew most features number (new_machine sharing) steps s
