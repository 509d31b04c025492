-- What a recording carrier was told.
use Rattle.std.specs.Prelude.{ℕ, List, map, Option}
use Rattle.tds_play.specs.Pipe.{BegunEvent, Pipe}
use Rattle.tds_trace.specs.declared.recording.Telling.{Telling}

-- The events of which it was told, and what there was of each connection then.
abbrev pub begun_by : {C : Type 0} → (C → ℕ → Option Pipe) → Telling C → BegunEvent
begun_by pipes t = record { event = t.event.value; pipes = pipes t.carrier.value }

abbrev pub begun_in : {C : Type 0} → (C → ℕ → Option Pipe) → List (Telling C) → List BegunEvent
begun_in pipes tellings = map (begun_by pipes) tellings
