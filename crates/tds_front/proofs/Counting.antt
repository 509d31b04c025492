-- Attentions along events: who acknowledges each.
use Rattle.std.proofs.Common.{◌≡◌, ◌≤◌, ◌+◌, ℕ, List, [], ◌∷◌, refl, arith, rules}
use Rattle.tds_front.specs.declared.stage.Head.{Head}
use Rattle.tds_front.specs.declared.stage.Stage.{Stage}
use Rattle.tds_front.specs.declared.stage.Stage.TheVariants.{Quiet, Receiving, Underway, Stopping, Broken}
use Rattle.tds_front.specs.Promises.{Event, Packet, WentOn, Answered, Acknowledged, count, handed_in, here_in, is_stopping, one_if, settled_in, stage_by, taken_in}

abbrev pub waits : Stage → ℕ
waits stage = one_if (is_stopping stage)

abbrev pub lives : Stage → ℕ
lives Quiet = 1
lives (Receiving kind gone) = 1
lives (Underway gone) = 1
lives Stopping = 1
lives (Broken fault) = 0

pub one-of-packet : (stage : Stage) (head : Head) → taken_in stage (Packet head) ≡ here_in stage (Packet head) + handed_in stage (Packet head)
one-of-packet stage head = search rules

pub one-in : (stage : Stage) (event : Event) → taken_in stage event ≡ here_in stage event + handed_in stage event
one-in stage (Packet head) = one-of-packet stage head
one-in stage WentOn = refl
one-in stage Answered = refl
one-in stage Acknowledged = refl

pub one-along : (stage : Stage) (events : List Event) → count taken_in stage events ≡ count here_in stage events + count handed_in stage events
one-along stage [] = refl
one-along stage (event ∷ events) = omega (arith, one-in stage event, one-along (stage_by stage event) events)

pub settles-packet : (stage : Stage) (head : Head) → waits (stage_by stage (Packet head)) ≤ handed_in stage (Packet head) + waits stage
settles-packet Quiet head = search rules
settles-packet (Receiving kind gone) head = search rules
settles-packet (Underway gone) head = search rules
settles-packet Stopping head = search rules
settles-packet (Broken fault) head = search rules

pub settles-in : (stage : Stage) (event : Event) → settled_in stage event + waits (stage_by stage event) ≤ handed_in stage event + waits stage
settles-in stage (Packet head) = omega (arith, settles-packet stage head)
settles-in stage WentOn = search rules
settles-in stage Answered = search rules
settles-in stage Acknowledged = search rules

pub settles-along : (stage : Stage) (events : List Event) → count settled_in stage events ≤ count handed_in stage events + waits stage
settles-along stage [] = omega arith
settles-along stage (event ∷ events) = omega (arith, settles-in stage event, settles-along (stage_by stage event) events)

pub hands-packet : (stage : Stage) (head : Head) → handed_in stage (Packet head) + waits stage + lives (stage_by stage (Packet head)) ≤ waits (stage_by stage (Packet head)) + lives stage
hands-packet stage head = search rules

pub hands-in : (stage : Stage) (event : Event) → handed_in stage event + waits stage + lives (stage_by stage event) ≤ settled_in stage event + waits (stage_by stage event) + lives stage
hands-in stage (Packet head) = omega (arith, hands-packet stage head)
hands-in stage WentOn = search rules
hands-in stage Answered = search rules
hands-in stage Acknowledged = search rules

pub waits-live : (stage : Stage) → waits stage ≤ lives stage
waits-live stage = search rules

pub hands-along : (stage : Stage) (events : List Event) → count handed_in stage events + waits stage ≤ count settled_in stage events + lives stage
hands-along stage [] = omega (arith, waits-live stage)
hands-along stage (event ∷ events) = omega (arith, hands-in stage event, hands-along (stage_by stage event) events)
