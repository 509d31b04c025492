-- An answer's data without the news of a reset that nobody asked for (MS-TDS 2.2.7.9, type 18): token by token, as its parser sees
-- them; and what is left, in packets whose lengths are their own.
use Rattle.std.specs.Prelude.{◌≡◌, ℕ, zero, suc, ◌+◌, ◌≤◌, Bool, List, [], ◌∷◌, ◌++◌, Option, Some, None, length, if◌then◌else◌}
use Rattle.tds_packet.specs.declared.header.Header.{Header}
use Rattle.tds_packet.specs.declared.kind.Kind.TheVariants.{Answer}
use Rattle.tds_packet.specs.Layout.{bits_of, has_bit}
use Rattle.tds_packet.specs.Reading.{joined}
use Rattle.tds_packet.specs.Sent.{end_bit, sent_bytes}
use Rattle.tds_wire.specs.Reading.{Parser, Found, Sees, Inside, Refuses, front_of, next_token, restarted}
use Rattle.tds_service.specs.Packets.{behind_packet}
use Rattle.tds_relay.specs.declared.link.Answer as code
use Rattle.tds_relay.specs.declared.news.Known.{Known}
use Rattle.tds_relay.specs.declared.news.Known.TheVariants as knowns
use Rattle.tds_relay.specs.News.{awaiting, bytes_going_on, goes_on_to_end, held, known_after, known_next}
use Rattle.tds_relay.specs.Promises.{Each}

-- What is left of bytes, what is known of the token that they end in, and where their parser stands behind them: nowhere behind one that no
-- answer has.
pub record Left : Type 0 where
  pub bytes : List ℕ
  pub known : Known
  pub stands : Option Parser

abbrev pub led : List ℕ → Left → Left
led before left = record { bytes = before ++ left.bytes; known = left.known; stands = left.stands }

-- what goes on of bytes of one token, which they end or not, and what is known behind them
abbrev pub passed_on : Bool → Known → List ℕ → List ℕ
passed_on ends known bytes = if ends then goes_on_to_end known bytes else bytes_going_on known bytes

abbrev pub known_behind : Bool → Known → List ℕ → Known
known_behind ends known bytes = if ends then known_next (known_after known bytes) else known_after known bytes

-- Of a token that ends the news alone is left out, where it is awaited. Behind one that no answer has nothing goes on.
abbrev pub left_at_token : Known → List ℕ → Found → (Known → Parser → List ℕ → Left) → Left
left_at_token known bytes (Sees token next rest) others =
    led (goes_on_to_end known (front_of bytes rest)) (others (known_next (known_after known (front_of bytes rest))) next rest)
left_at_token known bytes (Inside next) others = record { bytes = bytes_going_on known bytes; known = known_after known bytes; stands = Some next }
left_at_token known bytes (Refuses refusal) others = record { bytes = []; known = known; stands = None }

unfoldable pub left_within : ℕ → Known → Parser → List ℕ → Left
left_within most known r [] = record { bytes = []; known = known; stands = Some r }
left_within zero known r (byte ∷ bytes) = record { bytes = []; known = known; stands = Some r }
left_within (suc most) known r (byte ∷ bytes) =
    left_at_token known (byte ∷ bytes) (next_token r (byte ∷ bytes)) (left_within most)

abbrev pub left_of : Known → Parser → List ℕ → Left
left_of known r bytes = left_within (length bytes) known r bytes

-- and with the message's end what was held back
abbrev pub left_in : Bool → Left → List ℕ
left_in ends l = if ends then l.bytes ++ held l.known else l.bytes

-- ---- In packets

abbrev pub all_sent : ℕ → List (List ℕ) → List ℕ
all_sent id [] = []
all_sent id (part ∷ parts) = sent_bytes Answer 0 id part ++ all_sent id parts

-- the last one: none where there are no data and no end
abbrev pub last_sent : ℕ → Bool → List ℕ → List ℕ
last_sent id ends [] = if ends then sent_bytes Answer (end_bit ends) id [] else []
last_sent id ends (byte ∷ bytes) = sent_bytes Answer (end_bit ends) id (byte ∷ bytes)

-- The bytes are packets of this PacketID, no longer than this, with these data, of which the last one ends the message or not: each but that is
-- as long as may be, and behind another it has data.
pub record IsAnew (size id : ℕ) (ends : Bool) (content bytes : List ℕ) : Type 0 where
  pub parts : List (List ℕ)
  pub last : List ℕ
  pub content_is : content ≡ joined parts ++ last
  pub bytes_are : bytes ≡ all_sent id parts ++ last_sent id ends last
  pub fill : Each (λ part. 8 + length part ≡ size) parts
  pub last_fits : 8 + length last ≤ size
  pub has_data : last ≡ [] → parts ≡ []

abbrev pub is_last_packet : Header → Bool
is_last_packet header = has_bit (bits_of header.status) 1

-- as it is where the server owes the news, or doesn't
abbrev pub awaited : Bool → code.Answer → code.Answer
awaited owed a = record a { known = awaiting owed a.known }

-- The bytes are a packet of an answer without the news.
abbrev pub IsCut : code.Answer → Header → List ℕ → List ℕ → Type 0
IsCut a header content bytes = IsAnew a.size header.packet_id (is_last_packet header) (left_in (is_last_packet header) (left_of a.known a.parser content)) bytes

-- ---- From packet to packet

-- Nothing has come of the message that comes next.
abbrev pub at_its_beginning : code.Answer → code.Answer
at_its_beginning a = record a { parser = restarted a.parser; known = knowns.None }

-- What is known behind a packet, and where the parser stands then: where what is left of its data ends, and anew behind a message's end. The
-- next ones are as long.
abbrev pub IsCutTo : code.Answer → Bool → List ℕ → code.Answer → Type 0
IsCutTo old ends content new =
    (new.known ≡ (if ends then known_next (left_of old.known old.parser content).known else (left_of old.known old.parser content).known))
    × ((next : Parser) → (left_of old.known old.parser content).stands ≡ Some next → new.parser ≡ behind_packet ends next)
    × (new.size ≡ old.size)
