-- A lawful server's end: what comes from its client and what goes to it, one thing after the other, behind the login (MS-TDS 3.3.5).
-- It is of messages, whatever they say.
use Rattle.std.specs.Prelude.{◌≡◌, ℕ, ◌==◌, ◌&&◌, not, Bool, true, false, List, [], ◌∷◌, Option, Some, None, if◌then◌else◌}
use Rattle.tds_packet.specs.declared.kind.Kind.{Kind}
use Rattle.tds_packet.specs.declared.kind.Kind.TheVariants as kinds
use Rattle.tds_packet.specs.Layout.{bits_of, has_bit, has_both_resets, kind_byte}
use Rattle.tds_front.specs.declared.stage.Head.{Head}

-- ---- What happens

-- what a packet of the client brings
pub data Brought : Type 0 where
  -- more of a request, whose end comes in a later packet
  More : Brought
  -- the last of a request
  Whole : Brought
  -- the last of a request that says to ignore it (2.2.3.1.2)
  Ignored : Brought
  -- an attention (2.2.1.7)
  Attention : Brought
  -- what no client may send there
  Wrong : Brought

-- what goes to the client
pub data ServerReply : Type 0 where
  -- some of a message
  Tokens : ServerReply
  -- the end of a request's answer
  Ends : ServerReply
  -- the end of a message that acknowledges an attention: a DONE with bit 0020 (2.2.7.6)
  Acknowledges : ServerReply

pub data Happening : Type 0 where
  Comes : (brought : Brought) → Happening
  Goes : (reply : ServerReply) → Happening
  -- the server closes the connection
  Closes : Happening

-- ---- Where a server is

pub data ServerIsAt : Type 0 where
  -- Logged In (3.3.5.6): it waits for a request, of which a part may have come
  Ready : ServerIsAt
  -- Client Request Execution (3.3.5.7): a request is whole, and its answer hasn't ended
  Executing : ServerIsAt
  -- an attention has come, and isn't acknowledged (2.2.1.7): whether an answer is underway that may still end before
  Stopping : (answering : Bool) → ServerIsAt
  -- the client broke the protocol
  Broken : ServerIsAt

-- A request is asked where none is underway, and one attention at a time; it may come at any other moment, also behind the answer's end.
abbrev pub behind_brought : ServerIsAt → Brought → ServerIsAt
behind_brought Ready More = Ready
behind_brought Ready Whole = Executing
behind_brought Ready Ignored = Ready
behind_brought Ready Attention = Stopping false
behind_brought Ready Wrong = Broken
behind_brought Executing Attention = Stopping true
behind_brought Executing brought = Broken
behind_brought (Stopping answering) brought = Broken
behind_brought Broken brought = Broken

-- A request is answered where it is whole, and an attention acknowledged where one is. Nothing else goes.
abbrev pub MayGo : ServerIsAt → ServerReply → Type 0
MayGo Executing Tokens = Unit {0}
MayGo Executing Ends = Unit {0}
MayGo (Stopping answering) Tokens = Unit {0}
MayGo (Stopping true) Ends = Unit {0}
MayGo (Stopping answering) Acknowledges = Unit {0}
MayGo place reply = ⊥

-- With the acknowledgement the answer is over.
abbrev pub behind_reply : ServerIsAt → ServerReply → ServerIsAt
behind_reply place Tokens = place
behind_reply (Stopping answering) Ends = Stopping false
behind_reply Broken reply = Broken
behind_reply place reply = Ready

-- Only what may go at that moment goes, one thing after the other; and the server closes only where the client broke the protocol.
abbrev pub IsLawful : ServerIsAt → List Happening → Type 0
IsLawful place [] = Unit {0}
IsLawful place (Comes brought ∷ later) = IsLawful (behind_brought place brought) later
IsLawful place (Goes reply ∷ later) = MayGo place reply × IsLawful (behind_reply place reply) later
IsLawful place (Closes ∷ later) = (place ≡ Broken) × IsLawful place later

-- ---- What a packet brings, by its header (2.2.3.1)

-- The last packet of a message has bit 01; with bit 02 the message is to be ignored, and only the last packet has it.
abbrev pub brought_by_status : ℕ → Brought
brought_by_status status =
    if has_bit status 2 then (if has_bit status 1 then Ignored else Wrong)
    else (if has_bit status 1 then Whole else More)

-- The first packet of a message doesn't ask for both resets, and has data unless it is ignored.
abbrev pub brought_first : Head → Brought
brought_first head =
    if has_both_resets (bits_of head.status) then Wrong
    else if (head.count == 0) && not (has_bit (bits_of head.status) 2) then Wrong
    else brought_by_status (bits_of head.status)

-- Each packet of a message has the type of the first one.
abbrev pub brought_in : Option Kind → Head → Brought
brought_in None head = brought_first head
brought_in (Some kind) head = if kind_byte kind == kind_byte head.kind then brought_by_status (bits_of head.status) else Wrong

-- An attention has no data, and end of message alone (2.2.1.7).
abbrev pub brought_apart : Head → Brought
brought_apart head = if (bits_of head.status == 1) && (head.count == 0) then Attention else Wrong

abbrev pub brought_as : Kind → Option Kind → Head → Brought
brought_as kinds.Attention begun head = brought_apart head
brought_as kinds.Answer begun head = Wrong
brought_as kind begun head = brought_in begun head

-- where a message of this type has begun, or none has
abbrev pub brings_message : Option Kind → Head → Brought
brings_message begun head = brought_as head.kind begun head

-- the type of the message that has begun then, which is its first packet's
abbrev pub message_type : Option Kind → Kind → Kind
message_type None kind = kind
message_type (Some first) kind = first

abbrev pub begun_by : Brought → Option Kind → Kind → Option Kind
begun_by More begun kind = Some (message_type begun kind)
begun_by brought begun kind = None

abbrev pub begun_behind : Option Kind → Head → Option Kind
begun_behind begun head = begun_by (brings_message begun head) begun head.kind
