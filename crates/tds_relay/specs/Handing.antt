-- Which packet the bytes of a connection complete, and how it is handed on.
use Rattle.std.specs.Prelude.{◌≡◌, ◌⊎◌, ◌&&◌, ◌||◌, ℕ, not, Bool, true, false, List, [], ◌++◌, take, Option, None, Some, IsSome}
use Rattle.tds_packet.specs.declared.header.Header.{Header}
use Rattle.tds_packet.specs.Layout.{IsPacket}
use Rattle.tds_packet.specs.Reading as packets
use Rattle.tds_packet.specs.Reading.{IsWhole, fault_of, up_to_end, with_taken}
use Rattle.tds_packet.specs.Stream.{IsLess}
use Rattle.tds_wire.specs.declared.told.Token.{Token}
use Rattle.tds_wire.specs.Reading.{Parser}
use Rattle.tds_service.specs.Parts.{Part}
use Rattle.tds_relay.specs.declared.pool.coming.Heard.{Heard}
use Rattle.tds_relay.specs.declared.pool.coming.What.TheVariants as whats
use Rattle.tds_relay.specs.declared.link.Answer.{Answer}
use Rattle.tds_relay.specs.declared.link.Link.{Link}
use Rattle.tds_relay.specs.declared.link.News.{News}
use Rattle.tds_relay.specs.Cutting.{IsCut, IsCutTo, awaited, is_last_packet}
use Rattle.tds_relay.specs.News.{holds_back}
use Rattle.tds_relay.specs.Pool.{Way, owes_reset, whose}
use Rattle.tds_relay.specs.Fronts.{IsWhat}
use Rattle.tds_relay.specs.Core.{dones_of_part}
use Rattle.tds_relay.specs.Machine.{Machine, Hands, IsTold, Manner, Whole, Without, Withheld, after, end_whose, handed, hears_of_reset, is_said, news_in, put_some}
use Rattle.tds_relay.specs.Queues.{Queue}
use Rattle.tds_relay.specs.Ties.{part_on}

-- ---- How a packet is handed on

-- As it came, or without the news where this is cut out; behind it or not.
abbrev pub IsOf : Bool → Bool → Answer → Header → List ℕ → Manner → Type 0
IsOf tells false a header content manner = manner ≡ Whole tells
IsOf tells true a header content manner = (bytes : List ℕ) × (manner ≡ Without tells bytes) × IsCut a header content bytes

abbrev pub IsBy : News → Answer → Header → List ℕ → Manner → Type 0
IsBy goes a header content manner = IsOf goes.is_told goes.is_cut (awaited goes.is_owed a) header content manner

pub record Passes (goes : News) (a : Answer) (header : Header) (content : List ℕ) (old new : Queue) : Type 0 where
  pub manner : Manner
  pub by : IsBy goes a header content manner
  pub is : new ≡ put_some (handed manner header content) old

-- Not at all where no end says it.
abbrev pub IsFor : Bool → News → Answer → Header → List ℕ → Manner → Type 0
IsFor false goes a header content manner = manner ≡ Withheld
IsFor true goes a header content manner = IsBy goes a header content manner

-- Who is told of a reset with a packet is told by the relay, unless the server tells it there. To others it isn't told, nor is it twice.
-- What the server owes before it and tells in it is cut out, once.
abbrev pub news_for : Bool → Bool → Bool → Bool → News
news_for asks is_in owed held = record { is_told = asks && not is_in; is_cut = (owed || held) && not (asks && is_in); is_owed = owed }

-- ---- What is known behind it of the message that comes

-- The same as before, unless the news is cut out of it.
abbrev pub IsKnownBy : Bool → Bool → Answer → Header → List ℕ → Answer → Type 0
IsKnownBy false owed a header content new = new ≡ a
IsKnownBy true owed a header content new = IsCutTo (awaited owed a) (is_last_packet header) content new

abbrev pub IsKnown : News → Answer → Header → List ℕ → Answer → Type 0
IsKnown goes a header content new = IsKnownBy goes.is_cut goes.is_owed a header content new

-- The same as before; or the news was cut out of the packet that the reader has.
abbrev pub KnowsOn : packets.Reading → Answer → Answer → Type 0
KnowsOn r a new =
    (new ≡ a) ⊎ ((owed : Bool) × (header : Header) × (content : List ℕ) × IsPacket r.direction r.size r.taken header content × IsCutTo (awaited owed a) (is_last_packet header) content new)

-- A packet is set anew where the server owes the news before it, or bytes before it were held back; from where its connection's parser
-- stands, in packets of that connection's size. It passes as it came where neither is so, or where the news is in it. By any other than
-- those that are set anew nothing is known of the message.
abbrev pub PassesAs : Bool → Answer → Header → List ℕ → Part Token → Manner → Answer → Type 0
PassesAs owed a header content part (Whole tells) new = (new ≡ a) × (((owed || holds_back a.known) ≡ false) ⊎ (news_in owed part.items ≡ 1))
PassesAs owed a header content part (Without tells bytes) new =
    ((owed || holds_back a.known) ≡ true) × IsCut (awaited owed a) header content bytes × IsCutTo (awaited owed a) (is_last_packet header) content new
PassesAs owed a header content part Withheld new = new ≡ a

-- ---- Which packet is handed on

-- The reader has a packet. The pool hears what its parser makes of it, and whoever has the connection is told, and handed it or not.
pub record Passing (number : ℕ) (parser : Option Parser) (a next : Answer) (r : packets.Reading) (heard : Heard) (old new : Machine) : Type 0 where
  pub header : Header
  pub content : List ℕ
  pub packet : IsPacket r.direction r.size r.taken header content
  pub way : Way
  pub manner : Manner
  pub whose_is : heard.key ≡ whose old.core.pool number
  pub what_is : IsWhat heard.key heard.what (dones_of_part old.core.pool number (part_on parser content (is_last_packet header)))
  pub has_parser : (key : ℕ) → whose old.core.pool number ≡ Some key → IsSome parser
  pub goes : News
  pub by : IsFor (is_said heard.what (end_whose heard.key old.core.ends)) goes a header content manner
  pub cut : PassesAs (owes_reset number old.core.pool) a header content (part_on parser content (is_last_packet header)) manner next
  pub told : IsTold (owes_reset number old.core.pool) (hears_of_reset heard.what (end_whose heard.key old.core.ends)) manner (part_on parser content (is_last_packet header))
  pub is : new ≡ after old (Hands number header content (part_on parser content (is_last_packet header)) way manner)

-- Nothing came of it.
abbrev pub IsNothing : Heard → Type 0
IsNothing heard = (heard.key ≡ None) × (heard.what ≡ whats.Goes)

-- That one, once, and no other. Where the reader has none, nothing is done.
abbrev pub BringsPacket : ℕ → Option Parser → Answer → Answer → packets.Reading → Heard → Machine → Machine → Type 0
BringsPacket number parser a next r heard old new = ((¬ IsWhole r) × (new ≡ old) × IsNothing heard × (next ≡ a)) ⊎ Passing number parser a next r heard old new

-- A packet that was handed on is done.
pub record IsDone (r new : packets.Reading) : Type 0 where
  pub whole : IsWhole r → new ≡ with_taken r []
  pub less : ¬ IsWhole r → new ≡ r

-- ---- What bytes do

-- Bytes are taken up to the end of a packet.
abbrev pub filled : packets.Reading → List ℕ → packets.Reading
filled r bytes = with_taken r (up_to_end r (r.taken ++ bytes))

-- So many of these bytes were taken, and what the reader had with them is handed on. It keeps less than a packet.
pub record HearsBytes (number : ℕ) (parser : Option Parser) (link next : Link) (bytes : List ℕ) (count : ℕ) (heard : Heard) (old new : Machine) : Type 0 where
  pub taken : (filled link.reader bytes).taken ≡ link.reader.taken ++ take count bytes
  pub brings : BringsPacket number parser link.answer next.answer (filled link.reader bytes) heard old new
  pub done : IsDone (filled link.reader bytes) next.reader
  pub less : IsLess next.reader next.reader.taken

-- to whose end it is told
abbrev pub heard_key : Option Heard → Option ℕ
heard_key None = None
heard_key (Some heard) = heard.key

-- Or a header with a fault has come, and nothing is done.
abbrev pub HearsBy : ℕ → Option Parser → Link → Link → List ℕ → ℕ → Option Heard → Machine → Machine → Type 0
HearsBy number parser link next bytes count None old new = IsSome (fault_of (filled link.reader bytes) (filled link.reader bytes).taken) × (new ≡ old) × (next.answer ≡ link.answer)
HearsBy number parser link next bytes count (Some heard) old new = HearsBytes number parser link next bytes count heard old new
