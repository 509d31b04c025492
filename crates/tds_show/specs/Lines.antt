-- The lines of tokens and of faults.
use Rattle.std.specs.Prelude.{ℕ, List, [], ◌++◌, codes, decimal}
use Rattle.tds_packet.specs.declared.fault.PacketFault.{PacketFault}
use Rattle.tds_packet.specs.Faults.{fault_number}
use Rattle.tds_text.specs.Texts.{line_feed, hex2, hex4}
use Rattle.tds_wire.specs.declared.fault.WireFault.{WireFault}
use Rattle.tds_wire.specs.declared.fault.WireFault.TheVariants.{UnknownToken, NoColumns, UnknownType, ManyColumns}
use Rattle.tds_wire.specs.declared.told.Done.{Done}
use Rattle.tds_wire.specs.declared.told.Told.{Told}
use Rattle.tds_wire.specs.declared.told.Told.TheVariants as told
use Rattle.tds_wire.specs.declared.told.Token.{Token}

-- where a token stands in its message, its kind, and its length
abbrev pub place_text : Token → List ℕ
place_text token = decimal token.start ++ codes " " ++ hex2 token.kind ++ codes " " ++ decimal token.length

-- a DONE's status, its command, and its count
abbrev pub done_text : Done → List ℕ
done_text done = codes " " ++ hex4 done.status ++ codes " " ++ decimal done.command ++ codes " " ++ decimal done.count

-- an ENVCHANGE's type
abbrev pub change_text : ℕ → List ℕ
change_text type = codes " " ++ decimal type

-- what else its line has; of an ENVCHANGE, an ERROR, an INFO and a SESSIONSTATE, whether its fields fit its length
abbrev pub told_text : Told → List ℕ
told_text (told.Done done) = done_text done
told_text (told.Change change) = change_text change.kind
told_text (told.Message message) = []
told_text (told.ReturnStatus value) = []
told_text (told.SessionState state) = []
told_text told.Unclear = codes " unclear"
told_text told.Other = []

abbrev pub token_line : Token → List ℕ
token_line token = place_text token ++ told_text token.told ++ line_feed

-- ---- Faults

abbrev pub wire_words : WireFault → List ℕ
wire_words UnknownToken = codes "unknown token"
wire_words NoColumns = codes "no columns"
wire_words UnknownType = codes "unknown type"
wire_words ManyColumns = codes "many columns"

-- a fault of a message's data, at the byte at which it is found
abbrev pub refused_line : WireFault → ℕ → List ℕ
refused_line fault at = codes "fault " ++ wire_words fault ++ codes " at " ++ decimal at ++ line_feed

-- a fault of a packet's header, by its number
abbrev pub number_line : ℕ → List ℕ
number_line number = codes "fault packet " ++ decimal number ++ line_feed

abbrev pub packet_line : PacketFault → List ℕ
packet_line fault = number_line (fault_number fault)

abbrev pub cut_line : List ℕ
cut_line = codes "cut\n"

abbrev pub end_line : List ℕ
end_line = codes "end\n"

abbrev pub word_line : List ℕ
word_line = codes "fault hex\n"
