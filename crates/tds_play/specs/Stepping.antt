-- The event that a step was read of.
use Rattle.std.specs.Prelude.{ℕ, Bool, true, false}
use Rattle.tds_world.specs.declared.event.Event.{Event}
use Rattle.tds_world.specs.declared.event.Event.TheVariants as event
use Rattle.tds_play.specs.declared.step.CallerStep.{CallerStep}
use Rattle.tds_play.specs.declared.step.CallerStep.TheVariants as caller
use Rattle.tds_play.specs.declared.step.EndsStep.{EndsStep}
use Rattle.tds_play.specs.declared.step.EndsStep.TheVariants as ends
use Rattle.tds_play.specs.declared.step.LinkStep.{LinkStep}
use Rattle.tds_play.specs.declared.step.LinkStep.TheVariants as link
use Rattle.tds_play.specs.declared.step.OneStep.{OneStep}
use Rattle.tds_play.specs.declared.step.OneStep.TheVariants as one
use Rattle.tds_play.specs.declared.step.Step.{Step}
use Rattle.tds_play.specs.declared.step.Step.TheVariants as step

abbrev pub caller_event : CallerStep → Event
caller_event (caller.Ask lease request) = event.Ask lease request.now
caller_event (caller.Send lease) = event.Send lease
caller_event (caller.Cancel lease) = event.Cancel lease

abbrev pub link_event : LinkStep → Event
link_event (link.Work conn) = event.Work conn
link_event (link.ToServer conn most) = event.ToServer conn most
link_event (link.ToClient conn most) = event.ToClient conn most
link_event (link.Cut conn) = event.Cut conn

abbrev pub ends_event : EndsStep → Event
ends_event (ends.OfCaller s) = caller_event s
ends_event (ends.OfLink s) = link_event s

abbrev pub one_event : OneStep → Event
one_event (one.Resume ticket) = event.Resume ticket
one_event (one.GiveBack lease) = event.GiveBack lease
one_event (one.Keep lease) = event.Keep lease
one_event (one.Abandon ticket) = event.Abandon ticket
one_event (one.Clean conn) = event.Clean conn
one_event (one.AtEnds s) = ends_event s

abbrev pub event_of : Step → Event
event_of step.Lease = event.Lease
event_of step.RestartServer = event.RestartServer
event_of step.RestartClient = event.RestartClient
event_of (step.OfOne s) = one_event s

-- The lease of a caller.
abbrev pub lease_of : CallerStep → ℕ
lease_of (caller.Ask lease request) = lease
lease_of (caller.Send lease) = lease
lease_of (caller.Cancel lease) = lease

-- The number of a connection.
abbrev pub conn_of : LinkStep → ℕ
conn_of (link.Work conn) = conn
conn_of (link.ToServer conn most) = conn
conn_of (link.ToClient conn most) = conn
conn_of (link.Cut conn) = conn

-- A caller asks, sends or cancels.
abbrev pub is_by_caller : EndsStep → Bool
is_by_caller (ends.OfCaller s) = true
is_by_caller (ends.OfLink s) = false
