-- What may be seen before an attention or behind it.
use Rattle.tds_judge.specs.declared.talk.Event.{Event}
use Rattle.tds_judge.specs.declared.talk.Event.TheVariants as events

-- Something that the server says: a packet, or what stands in one.
abbrev pub IsOfServer : Event → Type 0
IsOfServer (events.Packet size fills) = Unit {0}
IsOfServer events.Answer = Unit {0}
IsOfServer (events.Says token) = Unit {0}
IsOfServer (events.Answered whole) = Unit {0}
IsOfServer _ = ⊥
