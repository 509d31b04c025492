-- Whatever is handed in, events are said; and where they are a lawful conversation there is no breach.
use Rattle.std.proofs.Common.{Option, Some, None, subst, ◌≡◌, ◌∙◌, false, List, [], ◌∷◌, ◌++◌, refl, sym, ap}
use Rattle.tds_judge.specs.declared.finding.Direction.TheVariants.{ToServer}
use Rattle.tds_judge.specs.declared.finding.Spot.{Spot}
use Rattle.tds_judge.specs.declared.judge.Judge.{Judge}
use Rattle.tds_judge.specs.declared.talk.Event.{Event}
use Rattle.tds_judge.specs.declared.talk.Event.TheVariants as events
use Rattle.tds_wire.specs.Reading.{Parser}
use Rattle.tds_judge.specs.Conversation.{IsLawful, Piece, Bytes, Lends, Closes, piece_seen, seen}
use Rattle.tds_judge.specs.Framing.{Run, closed, closed_by, closing, event_by, event_said, run_of, spot_of}
use Rattle.tds_judge.specs.History.{Said, Tells, further}
use Rattle.tds_judge.specs.Talking.{new_talk}
use Rattle.tds_judge.specs.Told.{has_breach}
use Rattle.tds_judge.proofs.Breaking.{breaks_by}
use Rattle.tds_judge.proofs.Lawful.{not_broken}
use Rattle.tds_judge.proofs.Telling.{on, said_so, same, steps_so, stopped_so}

event_so_by : (o : Option Parser) (spot : Spot) (event : Event) (a : Run) → Tells a (event_by o spot event a)
event_so_by None spot event a = same a
event_so_by (Some r) spot event a = said_so spot event a

closed_so_by : (o : Option Parser) (spot : Spot) (a : Run) → Tells a (closed_by o spot a)
closed_so_by None spot a = same a
closed_so_by (Some r) spot a = stopped_so spot (closing a.judge) a

piece_so : (piece : Piece) (a : Run) → Tells a (piece_seen piece a)
unfolding event_said closed
piece_so (Bytes direction time bytes) a = steps_so direction time bytes a
piece_so (Lends time) a = event_so_by a.judge.parser (spot_of ToServer time a) events.Borrowed a
piece_so (Closes time) a = closed_so_by a.judge.parser (spot_of ToServer time a) a

pub seen_so : (pieces : List Piece) (a : Run) → Tells a (seen pieces a)
unfolding seen
seen_so [] a = same a
seen_so (piece ∷ pieces) a = on a (piece_seen piece a) (seen pieces (piece_seen piece a)) (piece_so piece a) (seen_so pieces (piece_seen piece a))

without_end : (xs : List Said) → xs ++ [] ≡ xs
without_end [] = refl
without_end (x ∷ xs) = ap (λ (ys : List Said). x ∷ ys) (without_end xs)

lawful_end : (xs ys : List Said) → ys ≡ xs → IsLawful xs → IsLawful ys
lawful_end xs ys so lawful = subst IsLawful (sym so) lawful

pub not_blamed : (judge : Judge) (after : Run) (tells : Tells (run_of judge []) after) → judge.talk ≡ new_talk → IsLawful tells.events → has_breach after.told ≡ false
unfolding further
not_blamed judge after tells so lawful =
    breaks_by [] (run_of judge []) after so tells
    ∙ not_broken [] tells.events (lawful_end tells.events (tells.events ++ []) (without_end tells.events) lawful)
