-- LOGIN7 as a client sends it that has no name and no password (MS-TDS 2.2.6.4), in one packet.
use Rattle.std.specs.Prelude.{ℕ, zero, suc, List, [], ◌∷◌, ◌++◌, replicate}
use Rattle.std.specs.Int.{w32, to_le_bytes}
use Rattle.tds_packet.specs.declared.size.PacketSize.{PacketSize}

-- so many texts, each empty: it would stand behind the 94 bytes, and has no units
abbrev pub empty_texts : ℕ → List ℕ
empty_texts zero = []
empty_texts (suc more) = 94 ∷ 0 ∷ 0 ∷ 0 ∷ empty_texts more

-- the length, TDS 7.4, the packet size, settings of 0, nine texts, the client's address, three texts, and
-- the length of a long text
abbrev pub login7 : PacketSize → List ℕ
login7 size =
    to_le_bytes w32 94 ++ (to_le_bytes w32 1946157060 ++ (to_le_bytes w32 size ++ (replicate 24 0
    ++ (empty_texts 9 ++ (replicate 6 0 ++ (empty_texts 3 ++ replicate 4 0))))))

-- its packet: type 16, the last one, 102 bytes
abbrev pub login_of : PacketSize → List ℕ
login_of size = 16 ∷ 1 ∷ 0 ∷ 102 ∷ 0 ∷ 0 ∷ 1 ∷ 0 ∷ login7 size
