-- All the bytes that ever came to an end, whatever they are: their whole packets, the header among them that
-- has a fault, and the tokens that they spell.
use Rattle.std.specs.Prelude.{ℕ, ◌≡◌, ◌⊎◌, List, [], ◌∷◌, ◌++◌, Bool, true, false, Option, Some, None}
use Rattle.std.specs.List.{AllByRecursion}
use Rattle.tds_packet.specs.declared.fault.PacketFault.{PacketFault}
use Rattle.tds_packet.specs.declared.kind.Direction.{Direction}
use Rattle.tds_packet.specs.Layout.{bits_of, has_bit}
use Rattle.tds_packet.specs.Reading.{Reading, with_taken, fault_of}
use Rattle.tds_packet.specs.Stream.{IsLess}
use Rattle.tds_token.specs.declared.token.Token.{Token}
use Rattle.tds_token.specs.Contents.{Contents, contents_of}
use Rattle.tds_token.specs.Told.{told}
use Rattle.tds_ends.specs.declared.listening.ClientStop.{ClientStop}
use Rattle.tds_ends.specs.declared.listening.ClientStop.TheVariants as client_stop
use Rattle.tds_ends.specs.declared.serving.ServerStop.{ServerStop}
use Rattle.tds_ends.specs.declared.serving.ServerStop.TheVariants as server_stop
use Rattle.tds_ends.specs.Feeding.{Coming, IsComing, bytes_of}

-- ---- Packets

-- A reader before any byte came.
abbrev pub new_reader : Direction → ℕ → Reading
new_reader direction size = record { direction = direction; size = size; taken = [] }

-- The bytes are these packets, each of them whole, and then the rest.
pub record AreWhole (r : Reading) (bytes : List ℕ) (packets : List Coming) (rest : List ℕ) : Type 0 where
  pub each : AllByRecursion (IsComing r) packets
  pub joined : bytes ≡ bytes_of packets ++ rest

-- They are whole packets, and a rest whose first eight bytes have this fault of a header (MS-TDS 2.2.3.1).
pub record HasFault (r : Reading) (bytes : List ℕ) (fault : PacketFault) : Type 0 where
  pub packets : List Coming
  pub rest : List ℕ
  pub whole : AreWhole r bytes packets rest
  pub faulty : fault_of r rest ≡ Some fault

abbrev pub HasNoFault : Reading → List ℕ → Type 0
HasNoFault r bytes = (fault : PacketFault) → ¬ HasFault r bytes fault

-- A reader that began so has read all these bytes: it holds what is behind their whole packets.
pub record HasRead (first now : Reading) (bytes : List ℕ) (packets : List Coming) : Type 0 where
  pub same : now ≡ with_taken first now.taken
  pub whole : AreWhole first bytes packets now.taken
  pub less : IsLess first now.taken
  pub lawful : fault_of first now.taken ≡ None

-- ---- Tokens

-- Some of a list, in their order.
abbrev pub AreSomeOf : {A : Type 0} → List A → List A → Type 0
AreSomeOf xs [] = xs ≡ []
AreSomeOf {A} xs (y ∷ ys) = AreSomeOf xs ys ⊎ ((others : List A) × (xs ≡ y ∷ others) × AreSomeOf others ys)

-- The columns that are known behind a packet: those of its tokens, where its message goes on.
abbrev pub columns_by : Bool → Option ℕ → Option ℕ
columns_by true columns = None
columns_by false columns = columns

abbrev pub columns_behind : Coming → Contents → Option ℕ
columns_behind p contents = columns_by (has_bit (bits_of p.header.status) 1) contents.columns

-- What is told of the tokens that packets of answers spell (MS-TDS 2.2.4.2), where these columns are known
-- before them.
abbrev pub told_by : Option ℕ → List Coming → List Token
told_by columns [] = []
told_by columns (p ∷ ps) =
    told (contents_of columns p.content).tokens
    ++ told_by (columns_behind p (contents_of columns p.content)) ps

abbrev pub columns_after : Option ℕ → List Coming → Option ℕ
columns_after columns [] = columns
columns_after columns (p ∷ ps) = columns_after (columns_behind p (contents_of columns p.content)) ps

-- The tokens are some of those told by whole packets that the bytes begin with.
pub record AreToldBy (r : Reading) (bytes : List ℕ) (tokens : List Token) : Type 0 where
  pub packets : List Coming
  pub rest : List ℕ
  pub whole : AreWhole r bytes packets rest
  pub some : AreSomeOf tokens (told_by None packets)

-- ---- The ends

-- A server's reader has read all these bytes.
abbrev pub ServerHasRead : Reading → Reading → List ℕ → Type 0
ServerHasRead first now bytes = (packets : List Coming) × HasRead first now bytes packets

-- So has a client's, which knows these columns then; its callers were given these tokens.
pub record ClientHasRead (first now : Reading) (columns : Option ℕ) (bytes : List ℕ) (given : List Token) : Type 0 where
  pub packets : List Coming
  pub read : HasRead first now bytes packets
  pub columns_are : columns ≡ columns_after None packets
  pub some : AreSomeOf given (told_by None packets)

-- What it comes to when a server is fed, where these are all the bytes that came to it.
abbrev pub ServerReads : Option ServerStop → Reading → Reading → List ℕ → Type 0
ServerReads None first now bytes = ServerHasRead first now bytes
ServerReads (Some (server_stop.Packet fault)) first now bytes = HasFault first bytes fault
ServerReads (Some (server_stop.Server fault)) first now bytes = Unit {0}
ServerReads (Some server_stop.NoMemory) first now bytes = Unit {0}

-- And a client.
abbrev pub ClientReads : Option ClientStop → Reading → Reading → Option ℕ → List ℕ → List Token → Type 0
ClientReads None first now columns bytes given = ClientHasRead first now columns bytes given
ClientReads (Some (client_stop.Packet fault)) first now columns bytes given =
    HasFault first bytes fault × AreToldBy first bytes given
ClientReads (Some (client_stop.Client fault)) first now columns bytes given = AreToldBy first bytes given
ClientReads (Some client_stop.NoMemory) first now columns bytes given = Unit {0}
