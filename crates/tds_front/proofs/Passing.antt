-- An application's end passes on what is lawful behind it.
use Rattle.std.proofs.Common.{◌≡◌, ◌==◌, ◌&&◌, not, Bool, true, false, List, [], ◌∷◌, refl, sym, subst}
use Rattle.std.specs.Prelude.{Option, Some, None, if◌then◌else◌}
use Rattle.tds_packet.specs.declared.kind.Kind.{Kind}
use Rattle.tds_packet.specs.declared.kind.Kind.TheVariants as kinds
use Rattle.tds_packet.specs.declared.status.Reset.{Reset}
use Rattle.tds_packet.specs.Layout.{bits_of, has_bit, has_both_resets, kind_byte, reset_of}
use Rattle.tds_front.specs.declared.fault.FrontFault.{FrontFault}
use Rattle.tds_front.specs.declared.fault.FrontFault.TheVariants as faults
use Rattle.tds_front.specs.declared.stage.Action.TheVariants as actions
use Rattle.tds_front.specs.declared.stage.Head.{Head}
use Rattle.tds_front.specs.declared.stage.Move.{Move}
use Rattle.tds_front.specs.declared.stage.Stage.{Stage}
use Rattle.tds_front.specs.declared.stage.Stage.TheVariants.{Quiet, Receiving, Underway, Stopping, Broken}
use Rattle.tds_front.specs.Rules.{takes_attention, breaks_end, moves_to, of_request, refuses, stops, taken_as}
use Rattle.tds_front.specs.Serving as serving
use Rattle.tds_front.specs.Serving.{Brought, More, Whole, Ignored, Attention, Wrong, ServerReply, Tokens, Ends, Acknowledges, ServerIsAt, Ready, Executing, IsLawful, MayGo, begun_behind, begun_by, behind_brought, brings_message, brought_apart, brought_as, brought_by_status, brought_first, brought_in}
use Rattle.tds_front.specs.Passing.{FrontEvent, Packet, Refuses, GoesOn, Says, EndsWhole, happenings_of, towards, with_own, with_told}

-- ---- Behind a fault

attends_again : (fault : FrontFault) (is_one : Bool)
    → (if is_one then breaks_end fault else breaks_end fault) ≡ breaks_end fault
attends_again fault true = refl
attends_again fault false = refl

breaks_again : (fault : FrontFault) (head : Head) (kind : Kind) → taken_as kind (Broken fault) head ≡ breaks_end fault
breaks_again fault head kinds.Batch = refl
breaks_again fault head kinds.Procedure = refl
breaks_again fault head kinds.BulkLoad = refl
breaks_again fault head kinds.Transaction = refl
breaks_again fault head kinds.Answer = refl
breaks_again fault head kinds.Attention = attends_again fault ((bits_of head.status == 1) && (head.count == 0))

closed : (fault : FrontFault) (begun : Option Kind) (events : List FrontEvent) → IsLawful serving.Broken (towards begun (Broken fault) events)
closed fault begun [] = tt
closed fault begun (Packet head ∷ events) =
    subst (λ (m : Move). IsLawful serving.Broken (with_own m.does (towards (begun_behind begun head) m.stage events)))
    (sym (breaks_again fault head head.kind)) (refl, closed fault (begun_behind begun head) events)
closed fault begun (Refuses other ∷ events) = (refl, closed fault None events)
closed fault begun (GoesOn last ∷ events) = closed fault begun events
closed fault begun (Says Tokens ∷ events) = closed fault begun events
closed fault begun (Says Ends ∷ events) = closed fault begun events
closed fault begun (Says Acknowledges ∷ events) = closed fault begun events

-- ---- Where both servers are

-- towards the application: its server is where the end says, and of a stopped answer also what it may still say
abbrev pub place_of : Stage → Bool → ServerIsAt
place_of Quiet answering = Ready
place_of (Receiving kind gone) answering = Ready
place_of (Underway gone) answering = Executing
place_of Stopping answering = serving.Stopping answering
place_of (Broken fault) answering = serving.Broken

abbrev pub begun_of : Stage → Option Kind
begun_of (Receiving kind gone) = Some kind
begun_of stage = None

-- the one behind: nothing is underway there, or it was asked wrongly and says nothing any more
abbrev pub IsIdle : ServerIsAt → Type 0
IsIdle Ready = Unit {0}
IsIdle Executing = ⊥
IsIdle (serving.Stopping answering) = ⊥
IsIdle serving.Broken = Unit {0}

-- it may have the whole request
abbrev pub IsAsked : ServerIsAt → Type 0
IsAsked Ready = Unit {0}
IsAsked Executing = Unit {0}
IsAsked (serving.Stopping answering) = ⊥
IsAsked serving.Broken = Unit {0}

-- it is stopping, and says no more than may be said here
abbrev pub Stops : Bool → ServerIsAt → Type 0
Stops answering Ready = ⊥
Stops answering Executing = ⊥
Stops true (serving.Stopping other) = Unit {0}
Stops false (serving.Stopping true) = ⊥
Stops false (serving.Stopping false) = Unit {0}
Stops answering serving.Broken = Unit {0}

abbrev pub Ties : Stage → Bool → ServerIsAt → Type 0
Ties Quiet answering place = IsIdle place
Ties (Receiving kind gone) answering place = IsIdle place
Ties (Underway false) answering place = IsIdle place
Ties (Underway true) answering place = IsAsked place
Ties Stopping answering place = Stops answering place
Ties (Broken fault) answering place = Unit {0}

-- what is to be shown of events, from anywhere
abbrev pub Passes : List FrontEvent → Type 0
Passes events = (stage : Stage) (answering : Bool) (place : ServerIsAt) → Ties stage answering place → EndsWhole stage events
    → IsLawful place (happenings_of stage events) → IsLawful (place_of stage answering) (towards (begun_of stage) stage events)

-- ---- A packet

-- of a packet of this type that brings this, and is this to the end
abbrev pub Steps : List FrontEvent → ServerIsAt → ServerIsAt → Option Kind → Kind → Brought → Move → Type 0
Steps events here place begun kind brought move = EndsWhole move.stage events → IsLawful place (with_told move.does (happenings_of move.stage events))
    → IsLawful (behind_brought here brought) (with_own move.does (towards (begun_by brought begun kind) move.stage events))

-- a fault here is one there
refused : (events : List FrontEvent) (here place : ServerIsAt) (begun : Option Kind) (kind : Kind) (brought : Brought) (fault : FrontFault)
    → behind_brought here brought ≡ serving.Broken → Steps events here place begun kind brought (breaks_end fault)
refused events here place begun kind brought fault e w l =
    (e, subst (λ (p : ServerIsAt). IsLawful p (towards (begun_by brought begun kind) (Broken fault) events)) (sym e) (closed fault (begun_by brought begun kind) events))

-- the first one of a message: it asks for both resets, has no data, is to be ignored, ends its message
begins_step : (events : List FrontEvent) → Passes events → (place : ServerIsAt) → IsIdle place → (kind : Kind) (reset : Option Reset) (both empty ignored ends : Bool)
    → Steps events Ready place None kind
    (if both then Wrong else if empty && not ignored then Wrong else if ignored then (if ends then Ignored else Wrong) else (if ends then Whole else More))
    (if both then breaks_end faults.BothResets else if ignored then (if ends then moves_to Quiet (actions.Forget false) else breaks_end faults.IgnoredPart)
    else if empty then breaks_end faults.EmptyPart else moves_to (if ends then Underway false else Receiving kind false) (actions.Begin kind reset))
begins_step events later place idle kind reset true empty ignored ends = refused events Ready place None kind Wrong faults.BothResets refl
begins_step events later place idle kind reset false true true true = later Quiet false place idle
begins_step events later place idle kind reset false false true true = later Quiet false place idle
begins_step events later place idle kind reset false true true false = refused events Ready place None kind Wrong faults.IgnoredPart refl
begins_step events later place idle kind reset false false true false = refused events Ready place None kind Wrong faults.IgnoredPart refl
begins_step events later place idle kind reset false true false ends = refused events Ready place None kind Wrong faults.EmptyPart refl
begins_step events later place idle kind reset false false false true = later (Underway false) false place idle
begins_step events later place idle kind reset false false false false = later (Receiving kind false) false place idle

asked_idle : (place : ServerIsAt) → IsIdle place → IsAsked place
asked_idle Ready idle = tt
asked_idle Executing idle = absurd idle
asked_idle (serving.Stopping answering) idle = absurd idle
asked_idle serving.Broken idle = tt

forgets_step : (events : List FrontEvent) → Passes events → (gone : Bool) (place : ServerIsAt) → IsIdle place → (begun : Option Kind) (kind : Kind)
    → Steps events Ready place begun kind Ignored (moves_to Quiet (actions.Forget gone))
forgets_step events later false place idle begun kind = later Quiet false place idle
forgets_step events later true Ready idle begun kind = later Quiet false Ready tt
forgets_step events later true Executing idle begun kind = absurd idle
forgets_step events later true (serving.Stopping answering) idle begun kind = absurd idle
forgets_step events later true serving.Broken idle begun kind = later Quiet false serving.Broken tt

whole_step : (events : List FrontEvent) → Passes events → (gone : Bool) (place : ServerIsAt) → IsIdle place → (begun : Option Kind) (kind : Kind)
    → Steps events Ready place begun kind Whole (moves_to (Underway gone) actions.Go)
whole_step events later false place idle begun kind = later (Underway false) false place idle
whole_step events later true place idle begun kind = later (Underway true) false place (asked_idle place idle)

-- one of a message that has begun: it has its type, is to be ignored, ends it
goes_on_step : (events : List FrontEvent) → Passes events → (place : ServerIsAt) → IsIdle place → (first : Kind) (gone : Bool) (kind : Kind) (same ignored ends : Bool)
    → Steps events Ready place (Some first) kind
    (if same then (if ignored then (if ends then Ignored else Wrong) else (if ends then Whole else More)) else Wrong)
    (if same then (if ignored then (if ends then moves_to Quiet (actions.Forget gone) else breaks_end faults.IgnoredPart)
    else moves_to (if ends then Underway gone else Receiving first gone) actions.Go) else breaks_end faults.TypeChanged)
goes_on_step events later place idle first gone kind false ignored ends = refused events Ready place (Some first) kind Wrong faults.TypeChanged refl
goes_on_step events later place idle first gone kind true true true = forgets_step events later gone place idle (Some first) kind
goes_on_step events later place idle first gone kind true true false = refused events Ready place (Some first) kind Wrong faults.IgnoredPart refl
goes_on_step events later place idle first gone kind true false true = whole_step events later gone place idle (Some first) kind
goes_on_step events later place idle first gone kind true false false = later (Receiving first gone) false place idle

-- no packet of a request is lawful while one is underway
none_by : (both empty ignored ends : Bool) → behind_brought Executing
    (if both then Wrong else if empty && not ignored then Wrong else if ignored then (if ends then Ignored else Wrong) else (if ends then Whole else More))
    ≡ serving.Broken
none_by true empty ignored ends = refl
none_by false true true true = refl
none_by false true true false = refl
none_by false false true true = refl
none_by false false true false = refl
none_by false true false ends = refl
none_by false false false true = refl
none_by false false false false = refl

none_first : (head : Head) → behind_brought Executing (brought_first head) ≡ serving.Broken
none_first head = none_by (has_both_resets (bits_of head.status)) (head.count == 0) (has_bit (bits_of head.status) 2) (has_bit (bits_of head.status) 1)

request_step : (events : List FrontEvent) → Passes events → (stage : Stage) (answering : Bool) (place : ServerIsAt) → Ties stage answering place → (head : Head)
    → Steps events (place_of stage answering) place (begun_of stage) head.kind (brought_in (begun_of stage) head) (of_request stage head)
request_step events later Quiet answering place ties head =
    begins_step events later place ties head.kind (reset_of (bits_of head.status)) (has_both_resets (bits_of head.status)) (head.count == 0)
    (has_bit (bits_of head.status) 2) (has_bit (bits_of head.status) 1)
request_step events later (Receiving kind gone) answering place ties head =
    goes_on_step events later place ties kind gone head.kind (kind_byte kind == kind_byte head.kind) (has_bit (bits_of head.status) 2) (has_bit (bits_of head.status) 1)
request_step events later (Underway gone) answering place ties head =
    refused events Executing place None head.kind (brought_first head) faults.RequestWhileAnswering (none_first head)
request_step events later Stopping answering place ties head =
    refused events (serving.Stopping answering) place None head.kind (brought_first head) faults.RequestWhileAnswering refl
request_step events later (Broken fault) answering place ties head =
    refused events serving.Broken place None head.kind (brought_first head) fault refl

-- an attention, handed on where something of its request has gone on
stops_step : (events : List FrontEvent) → Passes events → (place : ServerIsAt) → IsIdle place → (gone : Bool) (begun : Option Kind) (kind : Kind)
    → Steps events Ready place begun kind Attention (stops gone)
stops_step events later place idle false begun kind = λ w l. (tt, later Quiet false place idle w l)
stops_step events later Ready idle true begun kind = later Stopping false (serving.Stopping false) tt
stops_step events later Executing idle true begun kind = absurd idle
stops_step events later (serving.Stopping answering) idle true begun kind = absurd idle
stops_step events later serving.Broken idle true begun kind = later Stopping false serving.Broken tt

stops_answer : (events : List FrontEvent) → Passes events → (place : ServerIsAt) → IsAsked place → (kind : Kind)
    → Steps events Executing place None kind Attention (stops true)
stops_answer events later Ready asked kind = later Stopping true (serving.Stopping false) tt
stops_answer events later Executing asked kind = later Stopping true (serving.Stopping true) tt
stops_answer events later (serving.Stopping answering) asked kind = absurd asked
stops_answer events later serving.Broken asked kind = later Stopping true serving.Broken tt

attention_step : (events : List FrontEvent) → Passes events → (stage : Stage) (answering : Bool) (place : ServerIsAt) → Ties stage answering place → (kind : Kind)
    → Steps events (place_of stage answering) place (begun_of stage) kind Attention (takes_attention stage)
attention_step events later Quiet answering place ties kind = stops_step events later place ties false None kind
attention_step events later (Receiving first gone) answering place ties kind = stops_step events later place ties gone (Some first) kind
attention_step events later (Underway false) answering place ties kind = λ w l. (tt, later Quiet false place ties w l)
attention_step events later (Underway true) answering place ties kind = stops_answer events later place ties kind
attention_step events later Stopping answering place ties kind =
    refused events (serving.Stopping answering) place None kind Attention faults.SecondAttention refl
attention_step events later (Broken fault) answering place ties kind = refused events serving.Broken place None kind Attention fault refl

wrong_step : (events : List FrontEvent) (stage : Stage) (answering : Bool) (place : ServerIsAt) (kind : Kind) (fault : FrontFault)
    → Steps events (place_of stage answering) place (begun_of stage) kind Wrong (refuses stage fault)
wrong_step events Quiet answering place kind fault = refused events Ready place None kind Wrong fault refl
wrong_step events (Receiving first gone) answering place kind fault = refused events Ready place (Some first) kind Wrong fault refl
wrong_step events (Underway gone) answering place kind fault = refused events Executing place None kind Wrong fault refl
wrong_step events Stopping answering place kind fault = refused events (serving.Stopping answering) place None kind Wrong fault refl
wrong_step events (Broken first) answering place kind fault = refused events serving.Broken place None kind Wrong first refl

attended_step : (events : List FrontEvent) → Passes events → (stage : Stage) (answering : Bool) (place : ServerIsAt) → Ties stage answering place → (kind : Kind) (is_one : Bool)
    → Steps events (place_of stage answering) place (begun_of stage) kind (if is_one then Attention else Wrong)
    (if is_one then takes_attention stage else refuses stage faults.WrongAttention)
attended_step events later stage answering place ties kind true = attention_step events later stage answering place ties kind
attended_step events later stage answering place ties kind false = wrong_step events stage answering place kind faults.WrongAttention

packet_step : (events : List FrontEvent) → Passes events → (stage : Stage) (answering : Bool) (place : ServerIsAt) → Ties stage answering place → (head : Head) (kind : Kind)
    → Steps events (place_of stage answering) place (begun_of stage) head.kind (brought_as kind (begun_of stage) head) (taken_as kind stage head)
packet_step events later stage answering place ties head kinds.Batch = request_step events later stage answering place ties head
packet_step events later stage answering place ties head kinds.Procedure = request_step events later stage answering place ties head
packet_step events later stage answering place ties head kinds.BulkLoad = request_step events later stage answering place ties head
packet_step events later stage answering place ties head kinds.Transaction = request_step events later stage answering place ties head
packet_step events later stage answering place ties head kinds.Answer = wrong_step events stage answering place head.kind faults.UnknownType
packet_step events later stage answering place ties head kinds.Attention =
    attended_step events later stage answering place ties head.kind ((bits_of head.status == 1) && (head.count == 0))

refuses_on : (events : List FrontEvent) (stage : Stage) (answering : Bool) (place : ServerIsAt) (fault : FrontFault) → EndsWhole stage (Refuses fault ∷ events)
    → IsLawful place (happenings_of stage (Refuses fault ∷ events)) → IsLawful (place_of stage answering) (towards (begun_of stage) stage (Refuses fault ∷ events))
refuses_on events Quiet answering place fault w l = wrong_step events Quiet answering place kinds.Batch fault w l
refuses_on events (Receiving kind gone) answering place fault w l = wrong_step events (Receiving kind gone) answering place kinds.Batch fault w l
refuses_on events (Underway gone) answering place fault w l = wrong_step events (Underway gone) answering place kinds.Batch fault w l
refuses_on events Stopping answering place fault w l = wrong_step events Stopping answering place kinds.Batch fault w l
refuses_on events (Broken first) answering place fault w l = wrong_step events (Broken first) answering place kinds.Batch fault w l

-- ---- What goes on

still_idle : (place : ServerIsAt) → IsIdle place → IsIdle (behind_brought place More)
still_idle Ready idle = tt
still_idle Executing idle = absurd idle
still_idle (serving.Stopping answering) idle = absurd idle
still_idle serving.Broken idle = tt

then_asked : (place : ServerIsAt) → IsAsked place → (last : Bool) → IsAsked (behind_brought place (if last then Whole else More))
then_asked Ready asked true = tt
then_asked Ready asked false = tt
then_asked Executing asked true = tt
then_asked Executing asked false = tt
then_asked (serving.Stopping answering) asked last = absurd asked
then_asked serving.Broken asked last = tt

then_stops : (answering : Bool) (place : ServerIsAt) → Stops answering place → (last : Bool) → Stops answering (behind_brought place (if last then Whole else More))
then_stops answering Ready stops last = absurd stops
then_stops answering Executing stops last = absurd stops
then_stops true (serving.Stopping other) stops last = tt
then_stops false (serving.Stopping other) stops last = tt
then_stops true serving.Broken stops last = tt
then_stops false serving.Broken stops last = tt

goes_on : (events : List FrontEvent) → Passes events → (stage : Stage) (answering : Bool) (place : ServerIsAt) → Ties stage answering place → (last : Bool)
    → EndsWhole stage (GoesOn last ∷ events) → IsLawful place (happenings_of stage (GoesOn last ∷ events))
    → IsLawful (place_of stage answering) (towards (begun_of stage) stage (GoesOn last ∷ events))
goes_on events later Quiet answering place ties true w l = absurd w.0
goes_on events later Quiet answering place ties false w l = later Quiet false (behind_brought place More) (still_idle place ties) w.1 l
goes_on events later (Receiving kind gone) answering place ties true w l = absurd w.0
goes_on events later (Receiving kind gone) answering place ties false w l =
    later (Receiving kind true) false (behind_brought place More) (still_idle place ties) w.1 l
goes_on events later (Underway false) answering place ties last w l =
    later (Underway true) false (behind_brought place (if last then Whole else More)) (then_asked place (asked_idle place ties) last) w.1 l
goes_on events later (Underway true) answering place ties last w l =
    later (Underway true) false (behind_brought place (if last then Whole else More)) (then_asked place ties last) w.1 l
goes_on events later Stopping answering place ties last w l =
    later Stopping answering (behind_brought place (if last then Whole else More)) (then_stops answering place ties last) w.1 l
goes_on events later (Broken fault) answering place ties last w l = closed fault None events

-- ---- What is said

silent : (place : ServerIsAt) → IsIdle place → (reply : ServerReply) → MayGo place reply → ⊥
silent Ready idle Tokens may = may
silent Ready idle Ends may = may
silent Ready idle Acknowledges may = may
silent Executing idle reply may = idle
silent (serving.Stopping answering) idle reply may = idle
silent serving.Broken idle Tokens may = may
silent serving.Broken idle Ends may = may
silent serving.Broken idle Acknowledges may = may

answers : (events : List FrontEvent) → Passes events → (answering : Bool) (place : ServerIsAt) → IsAsked place → (reply : ServerReply)
    → EndsWhole (Underway true) (Says reply ∷ events) → IsLawful place (happenings_of (Underway true) (Says reply ∷ events))
    → IsLawful Executing (towards None (Underway true) (Says reply ∷ events))
answers events later answering Ready asked reply w l = absurd (silent Ready tt reply l.0)
answers events later answering Executing asked Tokens w l = (tt, later (Underway true) false Executing tt w l.1)
answers events later answering Executing asked Ends w l = (tt, later Quiet false Ready tt w l.1)
answers events later answering Executing asked Acknowledges w l = absurd l.0
answers events later answering (serving.Stopping other) asked reply w l = absurd asked
answers events later answering serving.Broken asked reply w l = absurd (silent serving.Broken tt reply l.0)

acknowledges : (events : List FrontEvent) → Passes events → (answering : Bool) (place : ServerIsAt) → Stops answering place → (reply : ServerReply)
    → EndsWhole Stopping (Says reply ∷ events) → IsLawful place (happenings_of Stopping (Says reply ∷ events))
    → IsLawful (serving.Stopping answering) (towards None Stopping (Says reply ∷ events))
acknowledges events later answering Ready stops reply w l = absurd stops
acknowledges events later answering Executing stops reply w l = absurd stops
acknowledges events later answering serving.Broken stops reply w l = absurd (silent serving.Broken tt reply l.0)
acknowledges events later answering (serving.Stopping other) stops Tokens w l = (tt, later Stopping answering (serving.Stopping other) stops w l.1)
acknowledges events later answering (serving.Stopping other) stops Acknowledges w l = (tt, later Quiet false Ready tt w l.1)
acknowledges events later true (serving.Stopping other) stops Ends w l = (tt, later Stopping false (serving.Stopping false) tt w l.1)
acknowledges events later false (serving.Stopping true) stops Ends w l = absurd stops
acknowledges events later false (serving.Stopping false) stops Ends w l = absurd l.0

says : (events : List FrontEvent) → Passes events → (stage : Stage) (answering : Bool) (place : ServerIsAt) → Ties stage answering place → (reply : ServerReply)
    → EndsWhole stage (Says reply ∷ events) → IsLawful place (happenings_of stage (Says reply ∷ events))
    → IsLawful (place_of stage answering) (towards (begun_of stage) stage (Says reply ∷ events))
says events later Quiet answering place ties reply w l = absurd (silent place ties reply l.0)
says events later (Receiving kind gone) answering place ties reply w l = absurd (silent place ties reply l.0)
says events later (Underway false) answering place ties reply w l = absurd (silent place ties reply l.0)
says events later (Underway true) answering place ties reply w l = answers events later answering place ties reply w l
says events later Stopping answering place ties reply w l = acknowledges events later answering place ties reply w l
says events later (Broken fault) answering place ties reply w l = closed fault None (Says reply ∷ events)

-- ---- Any events

pub passes : (events : List FrontEvent) → Passes events
passes [] stage answering place ties w l = tt
passes (Packet head ∷ events) stage answering place ties w l = packet_step events (passes events) stage answering place ties head head.kind w l
passes (Refuses fault ∷ events) stage answering place ties w l = refuses_on events stage answering place fault w l
passes (GoesOn last ∷ events) stage answering place ties w l = goes_on events (passes events) stage answering place ties last w l
passes (Says reply ∷ events) stage answering place ties w l = says events (passes events) stage answering place ties reply w l
