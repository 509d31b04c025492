-- What the packets of a request are to the server that they come to: the pieces of its message.
use Rattle.std.specs.Prelude.{ℕ, ◌+◌, ◌≡◌, ◌≢◌, ◌≤◌, List, [], ◌∷◌, ◌++◌, length, Bool, true, false, Option, Some, None}
use Rattle.tds_packet.specs.declared.status.Reset.{Reset}
use Rattle.tds_packet.specs.Layout.{bits_of}
use Rattle.tds_request.specs.Layout.{IsRequest, kind_of_request, request_spelling, packet_kind}
use Rattle.tds_packet.specs.Resets.{reset_bit}
use Rattle.tds_world.specs.Connection.{Connection}
use Rattle.tds_world.specs.Entries.{Packet, Asking, Up, Part, End, Drop, Attention}
use Rattle.tds_world.specs.Laws.{OfEachConnection}
use Rattle.tds_world.specs.Record.{Record, Out, NotBegun, Begun, Whole, is_cancelled}
use Rattle.tds_world.specs.World.{World}

-- A request's message.
abbrev pub message_of : Asking → List ℕ
message_of a = request_spelling a.descriptor a.request

-- It is one that has a spelling.
abbrev pub IsSpelled : Asking → Type 0
IsSpelled a = IsRequest (kind_of_request a.request) a.descriptor a.request (message_of a)

-- The mark's bit of a packet behind which so much of the message came: it stands on the first alone.
abbrev pub bits_behind : List ℕ → Option Reset → ℕ
bits_behind [] mark = reset_bit mark
bits_behind (b ∷ bs) mark = 0

-- A packet with the next bytes of a request's message, and with these bits beside the mark's.
pub record IsPiece (a : Asking) (before : List ℕ) (bits : ℕ) (p : Packet) : Type 0 where
  pub kind : p.header.kind ≡ packet_kind (kind_of_request a.request)
  pub status : bits_of p.header.status ≡ bits + bits_behind before a.mark
  pub most : length (before ++ p.body) ≤ 4022

-- The word to drop what came.
pub record IsDrop (a : Asking) (p : Packet) : Type 0 where
  pub kind : p.header.kind ≡ packet_kind (kind_of_request a.request)
  pub status : bits_of p.header.status ≡ 3

-- An entry of a request is next, behind these bytes of its message.
abbrev pub IsNext : Asking → List ℕ → Up → Type 0
IsNext a before (Part r p) = IsPiece a before 0 p × (p.body ≢ [])
IsNext a before (End r b p) = IsPiece a before 1 p × (b ≡ a) × (before ++ p.body ≡ message_of a)
IsNext a before (Drop r p) = IsDrop a p
IsNext a before (Attention r) = Unit {0}

-- What has come of a message behind an entry.
abbrev pub came_with : List ℕ → Up → List ℕ
came_with before (Part r p) = before ++ p.body
came_with before _ = []

-- What is still to be sent behind these bytes, of a request that isn't cancelled.
abbrev pub IsLeft : Asking → Bool → Out → List ℕ → List ℕ → Type 0
IsLeft a true out left before = Unit {0}
IsLeft a false NotBegun left before = (before ≡ []) × (left ≡ message_of a)
IsLeft a false (Begun n) left before = (before ≢ []) × (before ++ left ≡ message_of a)
IsLeft a false (Whole n) left before = Unit {0}

-- Behind these bytes of a request's message, these entries are the next ones, and then what is left.
abbrev pub AreNext : Asking → Bool → Out → List ℕ → List ℕ → List Up → Type 0
AreNext a cancelled out left before [] = IsLeft a cancelled out left before
AreNext a cancelled out left before (e ∷ es) =
    IsNext a before e × AreNext a cancelled out left (came_with before e) es

-- What came of the newest request, what waits and what is left are its message. Without a request
-- nothing waits.
abbrev pub AreNextIn : Option Record → List ℕ → List Up → Type 0
AreNextIn None parts ups = ups ≡ []
AreNextIn (Some q) parts ups =
    IsSpelled q.asking × AreNext q.asking (is_cancelled q.fate) q.out q.left parts ups

abbrev pub AreWhole : Connection → Type 0
AreWhole c = AreNextIn c.current c.parts c.to_server.waiting

abbrev pub MessagesAreWhole : World → Type 0
MessagesAreWhole w = OfEachConnection AreWhole w
