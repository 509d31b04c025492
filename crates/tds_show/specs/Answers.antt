-- The text of packets of answers: the lines of each message's tokens, and one for its end.
use Rattle.std.specs.Prelude.{ℕ, zero, suc, Bool, true, false, List, [], ◌++◌, length, drop, if◌then◌else◌}
use Rattle.tds_show.specs.declared.tokens.front.Front.{Front}
use Rattle.tds_show.specs.declared.tokens.front.Front.TheVariants as front
use Rattle.tds_show.specs.declared.tokens.message.Ending.{Ending}
use Rattle.tds_show.specs.declared.tokens.message.Ending.TheVariants.{Between, Inside, Refused}
use Rattle.tds_show.specs.Lines.{cut_line, end_line, packet_line, refused_line}
use Rattle.tds_show.specs.Messages.{lines_of}
use Rattle.tds_show.specs.Packets.{content, front}

-- a text, and whether it ends without a fault
pub record Shown : Type 0 where
  pub text : List ℕ
  pub is_well : Bool

abbrev pub shown_after : List ℕ → Shown → Shown
shown_after text s = record { text = text ++ s.text; is_well = s.is_well }

abbrev pub well : List ℕ → Shown
well text = record { text = text; is_well = true }

abbrev pub faulty : List ℕ → Shown
faulty line = record { text = line; is_well = false }

-- a text, and what follows it; a fault ends it
abbrev pub then_shown : Shown → Shown → Shown
then_shown first second = if first.is_well then shown_after first.text second else first

-- between two tokens, by the packet that ends the message, or by what stands in the place of one
abbrev pub closed_between : Front → Shown
closed_between front.Nothing = well []
closed_between front.Cut = faulty cut_line
closed_between (front.Refused fault) = faulty (packet_line fault)
closed_between (front.Packet n ends) = well end_line

abbrev pub closed_inside : Front → Shown
closed_inside front.Nothing = faulty cut_line
closed_inside front.Cut = faulty cut_line
closed_inside (front.Refused fault) = faulty (packet_line fault)
closed_inside (front.Packet n ends) = faulty cut_line

-- what is said after the tokens
abbrev pub closed : Ending → Front → Shown
closed Between stop = closed_between stop
closed Inside stop = closed_inside stop
closed (Refused fault at) stop = faulty (refused_line fault at)

-- the text of a message's data up to there
unfoldable pub shown_message : List ℕ → Front → Shown
shown_message bytes stop = shown_after (lines_of bytes).text (closed (lines_of bytes).ending stop)

-- by the packet at the front, where these bytes of a message came before it
abbrev pub by_front : (List ℕ → List ℕ → Shown) → List ℕ → List ℕ → Front → Shown
by_front more message bytes front.Nothing = shown_message message front.Nothing
by_front more message bytes front.Cut = shown_message message front.Cut
by_front more message bytes (front.Refused fault) = shown_message message (front.Refused fault)
by_front more message bytes (front.Packet n true) =
    then_shown (shown_message (message ++ content n bytes) (front.Packet n true)) (more [] (drop n bytes))
by_front more message bytes (front.Packet n false) = more (message ++ content n bytes) (drop n bytes)

-- there are no more packets than bytes
unfoldable pub shown_from : ℕ → List ℕ → List ℕ → Shown
shown_from zero message bytes = shown_message message front.Nothing
shown_from (suc most) message bytes = by_front (shown_from most) message bytes (front bytes)

-- the text of bytes that are packets
abbrev pub shown : List ℕ → Shown
shown bytes = shown_from (length bytes) [] bytes
