-- What is lawful at a server's end and what isn't, worked out by the checker; and what an application's end makes of packets.
use Rattle.std.proofs.Common.{◌≡◌, ℕ, true, false, List, [], ◌∷◌, refl, subst}
use Rattle.std.specs.Prelude.{None}
use Rattle.tds_packet.specs.declared.kind.Kind.{Kind}
use Rattle.tds_packet.specs.declared.kind.Kind.TheVariants as kinds
use Rattle.tds_packet.specs.Layout.{status_of}
use Rattle.tds_front.specs.declared.stage.Head.{Head}
use Rattle.tds_front.specs.declared.stage.Stage.TheVariants.{Quiet}
use Rattle.tds_front.specs.Serving.{More, Whole, Ignored, Attention, Tokens, Ends, Acknowledges, Happening, Comes, Goes, Closes, ServerIsAt, Ready, Broken, IsLawful}
use Rattle.tds_front.specs.Passing.{FrontEvent, Packet, GoesOn, Says, happenings_of, towards}

abbrev Yes : List Happening → Type 0
Yes happenings = IsLawful Ready happenings

abbrev No : List Happening → Type 0
No happenings = IsLawful Ready happenings → ⊥

abbrev IsReady : ServerIsAt → Type 0
IsReady Ready = Unit {0}
IsReady place = ⊥

not_broken : Ready ≡ Broken → ⊥
not_broken e = subst IsReady e tt

-- ---- Lawful

answered : Yes (Comes More ∷ Comes Whole ∷ Goes Tokens ∷ Goes Ends ∷ Comes Whole ∷ Goes Ends ∷ [])
answered = (tt, (tt, (tt, tt)))

-- an attention inside a request whose end hasn't come
inside : Yes (Comes More ∷ Comes Attention ∷ Goes Acknowledges ∷ Comes Whole ∷ Goes Ends ∷ [])
inside = (tt, (tt, tt))

-- in the middle of the answer, crossing its end, behind its end
stopped : Yes (Comes Whole ∷ Goes Tokens ∷ Comes Attention ∷ Goes Tokens ∷ Goes Acknowledges ∷ [])
stopped = (tt, (tt, (tt, tt)))

crossed : Yes (Comes Whole ∷ Goes Tokens ∷ Comes Attention ∷ Goes Ends ∷ Goes Acknowledges ∷ [])
crossed = (tt, (tt, (tt, tt)))

late : Yes (Comes Whole ∷ Goes Ends ∷ Comes Attention ∷ Goes Acknowledges ∷ [])
late = (tt, (tt, tt))

-- two attentions, one after the other's acknowledgement
twice : Yes (Comes Whole ∷ Comes Attention ∷ Goes Acknowledges ∷ Comes Attention ∷ Goes Acknowledges ∷ [])
twice = (tt, (tt, tt))

ignored : Yes (Comes More ∷ Comes Ignored ∷ Comes Whole ∷ Goes Ends ∷ [])
ignored = (tt, tt)

closed : Yes (Comes Whole ∷ Comes Whole ∷ Closes ∷ [])
closed = (refl, tt)

-- ---- Not lawful

answers_twice : No (Comes Whole ∷ Goes Ends ∷ Goes Ends ∷ [])
answers_twice l = l.1.0

answers_nothing : No (Goes Tokens ∷ [])
answers_nothing l = l.0

answers_a_part : No (Comes More ∷ Goes Ends ∷ [])
answers_a_part l = l.0

answers_ignored : No (Comes More ∷ Comes Ignored ∷ Goes Ends ∷ [])
answers_ignored l = l.0

acknowledges_none : No (Comes Whole ∷ Goes Acknowledges ∷ [])
acknowledges_none l = l.0

acknowledges_twice : No (Comes Whole ∷ Goes Tokens ∷ Comes Attention ∷ Goes Acknowledges ∷ Goes Acknowledges ∷ [])
acknowledges_twice l = l.1.1.0

-- by itself, and then it goes on with the answer
goes_on_behind : No (Comes Whole ∷ Goes Tokens ∷ Comes Attention ∷ Goes Acknowledges ∷ Goes Tokens ∷ Goes Ends ∷ [])
goes_on_behind l = l.1.1.0

-- it takes the answer's end for the acknowledgement
ends_for_it : No (Comes Whole ∷ Comes Attention ∷ Goes Ends ∷ Comes Whole ∷ Goes Acknowledges ∷ [])
ends_for_it l = l.1.0

-- it lets a request through while one is answered
two_at_once : No (Comes Whole ∷ Comes Whole ∷ Goes Ends ∷ Goes Ends ∷ [])
two_at_once l = l.0

two_attentions : No (Comes Whole ∷ Comes Attention ∷ Comes Attention ∷ Goes Acknowledges ∷ Goes Acknowledges ∷ [])
two_attentions l = l.0

closes_for_nothing : No (Comes Whole ∷ Goes Ends ∷ Closes ∷ [])
closes_for_nothing l = not_broken l.1.0

-- ---- Packets

abbrev head : Kind → ℕ → ℕ → Head
head kind status count = record { kind = kind; status = status_of status; count = count }

abbrev part : FrontEvent
part = Packet (head kinds.Batch 0 100)

abbrev whole : FrontEvent
whole = Packet (head kinds.Batch 1 100)

abbrev part_ignored : FrontEvent
part_ignored = Packet (head kinds.Batch 3 0)

abbrev cancel : FrontEvent
cancel = Packet (head kinds.Attention 1 0)

-- its request waits: the attention is acknowledged here, and nothing goes on
here_front : towards None Quiet (whole ∷ cancel ∷ []) ≡ Comes Whole ∷ Comes Attention ∷ Goes Acknowledges ∷ []
here_front = refl

here_behind : happenings_of Quiet (whole ∷ cancel ∷ []) ≡ []
here_behind = refl

-- a part has gone on: whoever has it acknowledges
there_front : towards None Quiet (part ∷ GoesOn false ∷ cancel ∷ Says Acknowledges ∷ []) ≡ Comes More ∷ Comes Attention ∷ Goes Acknowledges ∷ []
there_front = refl

there_behind : happenings_of Quiet (part ∷ GoesOn false ∷ cancel ∷ Says Acknowledges ∷ []) ≡ Comes More ∷ Comes Attention ∷ Goes Acknowledges ∷ []
there_behind = refl

-- the attention crosses the answer's end
crosses_front : towards None Quiet (whole ∷ GoesOn true ∷ cancel ∷ Says Ends ∷ Says Acknowledges ∷ []) ≡ Comes Whole ∷ Comes Attention ∷ Goes Ends ∷ Goes Acknowledges ∷ []
crosses_front = refl

-- or comes behind it, and isn't handed on
behind_end_front : towards None Quiet (whole ∷ GoesOn true ∷ Says Ends ∷ cancel ∷ []) ≡ Comes Whole ∷ Goes Ends ∷ Comes Attention ∷ Goes Acknowledges ∷ []
behind_end_front = refl

behind_end : happenings_of Quiet (whole ∷ GoesOn true ∷ Says Ends ∷ cancel ∷ []) ≡ Comes Whole ∷ Goes Ends ∷ []
behind_end = refl

-- taken back in the middle
ignored_front : towards None Quiet (part ∷ GoesOn false ∷ part_ignored ∷ whole ∷ []) ≡ Comes More ∷ Comes Ignored ∷ Comes Whole ∷ []
ignored_front = refl

ignored_behind : happenings_of Quiet (part ∷ GoesOn false ∷ part_ignored ∷ whole ∷ []) ≡ Comes More ∷ Comes Ignored ∷ []
ignored_behind = refl

-- a second attention: what comes then goes nowhere
second_front : towards None Quiet (whole ∷ GoesOn true ∷ cancel ∷ cancel ∷ Says Acknowledges ∷ []) ≡ Comes Whole ∷ Comes Attention ∷ Comes Attention ∷ Closes ∷ []
second_front = refl
