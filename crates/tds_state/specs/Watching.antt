-- Where a watch is in what went out and came.
use Rattle.std.specs.Prelude.{◌&&◌, ◌||◌, not, Bool}
use Rattle.tds_packet.specs.Passing.{is_apart}
use Rattle.tds_wire.specs.Lent.{reading_of}
use Rattle.tds_wire.specs.Reading.{Parser, is_between}
use Rattle.tds_state.specs.declared.answers.Answers.{Answers}
use Rattle.tds_state.specs.declared.watch.Watch.{Watch}
use Rattle.tds_state.specs.Sessions.{is_quiet}

-- where the walk is in the tokens of the server's answers
abbrev pub answers_reading : Answers → Parser
answers_reading a = reading_of a.walk a.memory.value

-- no answer is due, no request goes on, and nothing of an answer has come that hasn't ended
abbrev pub watch_settled : Watch → Bool
watch_settled w = is_quiet w.tracker.session.flight && (not w.is_within && (is_apart w.back && is_between (answers_reading w.answers)))

-- something couldn't be read or kept: the session never rests any more
abbrev pub watch_lost : Watch → Bool
watch_lost w = w.is_lost || w.tracker.session.is_lost
