-- Whatever bytes come, something is said in some order, and what is found is found at what is said.
use Rattle.std.proofs.Common.{◌≡◌, ◌∙◌, ◌+◌, ◌-◌, ◌/◌, ◌%◌, ◌==◌, ◌&&◌, not, nat_lt, Bool, true, false, ℕ, List, [], ◌∷◌, ◌++◌, Option, Some, None, refl, ap, if◌then◌else◌}
use Rattle.tds_judge.specs.declared.finding.Direction.{Direction}
use Rattle.tds_judge.specs.declared.finding.Direction.TheVariants.{ToServer, ToClient}
use Rattle.tds_judge.specs.declared.finding.Finding.{Finding}
use Rattle.tds_judge.specs.declared.finding.Spot.{Spot}
use Rattle.tds_judge.specs.declared.frame.Due.{Due}
use Rattle.tds_judge.specs.declared.frame.Due.TheVariants as due
use Rattle.tds_judge.specs.declared.frame.Frame.{Frame}
use Rattle.tds_judge.specs.declared.frame.Head.{Head}
use Rattle.tds_judge.specs.declared.frame.Inside.{Inside}
use Rattle.tds_judge.specs.declared.frame.Inside.TheVariants as inside
use Rattle.tds_judge.specs.declared.frame.Part.{Part}
use Rattle.tds_judge.specs.declared.frame.Part.TheVariants as parts
use Rattle.tds_judge.specs.declared.talk.Ending.TheVariants as endings
use Rattle.tds_judge.specs.declared.talk.Event.{Event}
use Rattle.tds_judge.specs.declared.talk.Event.TheVariants as events
use Rattle.tds_judge.specs.declared.talk.Limits.{Limits}
use Rattle.tds_judge.specs.declared.talk.Talk.{Talk}
use Rattle.tds_wire.specs.Reading.{Parser, Found, Sees, Inside as Amid, Refuses, next_token}
use Rattle.tds_judge.specs.declared.headers.Headed.{Headed}
use Rattle.tds_judge.specs.declared.headers.Headed.TheVariants as headings
use Rattle.tds_judge.specs.declared.headers.HeaderFault.TheVariants as faults
use Rattle.tds_judge.specs.Headers.{heading_by}
use Rattle.tds_judge.specs.Talking.{talk_by}
use Rattle.tds_judge.specs.Noting.{told_by}
use Rattle.tds_judge.specs.Framing.{Run, answer_begun, begins, begun_by, counted, counted_by, due_by, frame_of, framed, goes_on, head_taken, headed, headed_at_end, headed_by, inside_by, inside_put, is_judged_version, is_walked, is_whole, later_by, lost, message_over, moved, opened, opened_frame, over, over_by, prefixed, read_by, restarted_by, said, slid, slid_frame, spot_of, step, step_by, steps, stops, taken_up, walked, walked_by, refused_as, versioned, versioned_if}
use Rattle.tds_judge.specs.PacketHeads.{event_of, fault_of, head_of, inside_of, is_to_fill, is_plausible, is_tls, shifted}
use Rattle.tds_judge.specs.History.{Said, Tells, found_in, further}

further_more : (later earlier : List Said) (t : Talk) → further later (further earlier t) ≡ further (later ++ earlier) t
unfolding further
further_more [] earlier t = refl
further_more (x ∷ later) earlier t = ap (λ (u : Talk). talk_by u x.spot.time x.event) (further_more later earlier t)

found_more : (limits : Limits) (later earlier : List Said) (t : Talk) (xs : List Finding)
    → found_in limits later (further earlier t) (found_in limits earlier t xs) ≡ found_in limits (later ++ earlier) t xs
unfolding found_in
found_more limits [] earlier t xs = refl
found_more limits (x ∷ later) earlier t xs =
    ap (λ (found : List Finding). told_by found limits (further later (further earlier t)) x.spot x.event) (found_more limits later earlier t xs)
    ∙ ap (λ (u : Talk). told_by (found_in limits (later ++ earlier) t xs) limits u x.spot x.event) (further_more later earlier t)

-- nothing is said
nothing : (a b : Run) → b.judge.talk ≡ a.judge.talk → b.judge.limits ≡ a.judge.limits → b.told ≡ a.told → Tells a b
unfolding further found_in
nothing a b talk limits told = record { events = []; talk = talk; limits = limits; told = told }

-- one thing behind the other
pub on : (a b c : Run) → Tells a b → Tells b c → Tells a c
on a b c first second = record {
  events = second.events ++ first.events;
  talk = second.talk ∙ (ap (further second.events) first.talk ∙ further_more second.events first.events a.judge.talk);
  limits = second.limits ∙ first.limits;
  told =
      second.told
      ∙ (ap (λ (l : Limits). found_in l second.events b.judge.talk b.told) first.limits
      ∙ (ap (λ (t : Talk). found_in a.judge.limits second.events t b.told) first.talk
      ∙ (ap (found_in a.judge.limits second.events (further first.events a.judge.talk)) first.told
      ∙ found_more a.judge.limits second.events first.events a.judge.talk a.told)));
}

either : (a x y : Run) (b : Bool) → Tells a x → Tells a y → Tells a (if b then x else y)
either a x y true p q = p
either a x y false p q = q

pub same : (a : Run) → Tells a a
same a = nothing a a refl refl refl

pub said_so : (spot : Spot) (event : Event) (a : Run) → Tells a (said spot event a)
unfolding further found_in
said_so spot event a = record { events = record { spot = spot; event = event } ∷ []; talk = refl; limits = refl; told = refl }

pub stopped_so : (spot : Spot) (event : Event) (a : Run) → Tells a (stops spot event a)
unfolding further found_in
stopped_so spot event a = record { events = record { spot = spot; event = event } ∷ []; talk = refl; limits = refl; told = refl }

framed_so : (d : Direction) (f : Frame) (a : Run) → Tells a (framed d f a)
framed_so ToServer f a = nothing a (framed ToServer f a) refl refl refl
framed_so ToClient f a = nothing a (framed ToClient f a) refl refl refl

-- ---- Packets

headers_so : (i : Inside) (spot : Spot) (a : Run) → Tells a (headed_at_end i spot a)
headers_so inside.Skipped spot a = same a
headers_so (inside.Prefix heading) spot a = said_so spot (events.Headers faults.Length) a
headers_so inside.Walked spot a = same a
headers_so (inside.Version place) spot a = same a

message_so : (d : Direction) (spot : Spot) (f : Frame) (a : Run) → Tells a (message_over d spot f a)
message_so ToServer spot f a =
    either a (said spot events.Ignored a) (headed_at_end f.inside spot a) (f.status / 2 % 2 == 1) (said_so spot events.Ignored a) (headers_so f.inside spot a)
message_so ToClient spot f a =
    either a a (said spot (events.Answered (is_whole f.inside a.judge.parser)) a) (f.kind == 18) (same a) (said_so spot (events.Answered (is_whole f.inside a.judge.parser)) a)

over_so_by : (part : Part) (spot : Spot) (f : Frame) (a : Run) → Tells a (over_by part spot f a)
over_so_by parts.Lost spot f a = same a
over_so_by parts.Passing spot f a = said_so spot events.TakenUp a
over_so_by parts.Between spot f a = same a
over_so_by parts.Within spot f a = message_so spot.direction spot f a

over_so : (spot : Spot) (a : Run) → Tells a (over spot a)
unfolding over
over_so spot a =
    let f = frame_of spot.direction a in
    let ended = framed spot.direction (record f { due = due.Head 0 0; part = parts.Between }) a in
    let going = framed spot.direction (record f { due = due.Head 0 0 }) a in
    either a (over_by f.part spot f ended) going (f.status % 2 == 1)
    (on a ended (over_by f.part spot f ended) (framed_so spot.direction (record f { due = due.Head 0 0; part = parts.Between }) a) (over_so_by f.part spot f ended))
    (framed_so spot.direction (record f { due = due.Head 0 0 }) a)

opened_so : (spot : Spot) (part : Part) (i : Inside) (head : Head) (a : Run) → Tells a (opened spot part i head a)
unfolding opened
opened_so spot part i head a =
    let there = framed spot.direction (opened_frame (frame_of spot.direction a) part i head) a in
    let gone = framed_so spot.direction (opened_frame (frame_of spot.direction a) part i head) a in
    either a (over spot there) there (head.size == 8) (on a there (over spot there) gone (over_so spot there)) gone

slid_so : (spot : Spot) (value : ℕ) (a : Run) → Tells a (slid spot value a)
slid_so spot value a = framed_so spot.direction (slid_frame value (frame_of spot.direction a)) a

lost_so : (spot : Spot) (value : ℕ) (a : Run) → Tells a (lost spot value a)
unfolding lost
lost_so spot value a =
    either a (stops spot (events.Stops endings.Encrypted 0) a) (if nat_lt spot.offset 1048575 then slid spot value a else stops spot (events.Stops endings.NotTds 0) a) ((spot.offset == 7) && is_tls (head_of value))
    (stopped_so spot (events.Stops endings.Encrypted 0) a)
    (either a (slid spot value a) (stops spot (events.Stops endings.NotTds 0) a) (nat_lt spot.offset 1048575) (slid_so spot value a) (stopped_so spot (events.Stops endings.NotTds 0) a))

answer_so : (spot : Spot) (head : Head) (a : Run) → Tells a (answer_begun spot head a)
answer_so spot head a = either a a (said spot events.Answer a) (head.kind == 18) (same a) (said_so spot events.Answer a)

begun_so : (d : Direction) (spot : Spot) (head : Head) (a : Run) → Tells a (begun_by d spot head a)
begun_so ToServer spot head a =
    let b = said spot (event_of head) a in
    on a b (opened spot parts.Within (inside_of head.kind) head b) (said_so spot (event_of head) a) (opened_so spot parts.Within (inside_of head.kind) head b)
begun_so ToClient spot head a =
    let r : Run = record { judge = record a.judge { parser = restarted_by a.judge.parser }; told = a.told } in
    let b = answer_begun spot head r in
    let i = if is_walked head a then inside.Walked else inside.Skipped in
    on a r (opened spot parts.Within i head b) (nothing a r refl refl refl)
    (on r b (opened spot parts.Within i head b) (answer_so spot head r) (opened_so spot parts.Within i head b))

begins_so : (spot : Spot) (head : Head) (a : Run) → Tells a (begins spot head a)
unfolding begins
begins_so spot head a =
    let b = said spot (events.Packet head.size (is_to_fill spot.direction head)) a in
    on a b (begun_by spot.direction spot head b) (said_so spot (events.Packet head.size (is_to_fill spot.direction head)) a) (begun_so spot.direction spot head b)

later_so : (d : Direction) (spot : Spot) (head : Head) (a : Run) → Tells a (later_by d spot head a)
later_so ToServer spot head a = said_so spot (events.Later head.status) a
later_so ToClient spot head a = same a

goes_so : (spot : Spot) (f : Frame) (head : Head) (a : Run) → Tells a (goes_on spot f head a)
unfolding goes_on
goes_so spot f head a =
    let b = said spot (events.Packet head.size (is_to_fill spot.direction head)) a in
    let c = later_by spot.direction spot head b in
    let u = said spot events.Unfinished a in
    either a (opened spot parts.Within f.inside head c) (if head.kind == 6 then begins spot head a else begins spot head u) ((head.kind == f.kind) && not (head.kind == 6))
    (on a b (opened spot parts.Within f.inside head c) (said_so spot (events.Packet head.size (is_to_fill spot.direction head)) a)
    (on b c (opened spot parts.Within f.inside head c) (later_so spot.direction spot head b) (opened_so spot parts.Within f.inside head c)))
    (either a (begins spot head a) (begins spot head u) (head.kind == 6) (begins_so spot head a) (on a u (begins spot head u) (said_so spot events.Unfinished a) (begins_so spot head u)))

taken_so : (spot : Spot) (head : Head) (a : Run) → Tells a (taken_up spot head a)
unfolding taken_up
taken_so spot head a =
    either a (begins spot head a) (opened spot parts.Passing inside.Skipped head a) ((spot.offset == 7) && nat_lt head.id 2)
    (begins_so spot head a) (opened_so spot parts.Passing inside.Skipped head a)

headed_so : (part : Part) (plausible : Bool) (spot : Spot) (value : ℕ) (a : Run) → Tells a (headed_by part plausible spot value a)
headed_so parts.Lost true spot value a = taken_so spot (head_of value) a
headed_so parts.Lost false spot value a = lost_so spot value a
headed_so parts.Passing true spot value a = opened_so spot parts.Passing inside.Skipped (head_of value) a
headed_so parts.Passing false spot value a = slid_so spot value a
headed_so parts.Between true spot value a = begins_so spot (head_of value) a
headed_so parts.Between false spot value a = stopped_so spot (fault_of spot.direction (head_of value)) a
headed_so parts.Within true spot value a = goes_so spot (frame_of spot.direction a) (head_of value) a
headed_so parts.Within false spot value a = stopped_so spot (fault_of spot.direction (head_of value)) a

head_so : (spot : Spot) (got value : ℕ) (a : Run) → Tells a (head_taken spot got value a)
head_so spot got value a =
    let f = record (frame_of spot.direction a) { due = due.Head (got + 1) value } in
    either a (framed spot.direction f a) (headed spot value a) (nat_lt got 7) (framed_so spot.direction f a)
    (headed_so (frame_of spot.direction a).part (is_plausible spot.direction (head_of value)) spot value a)

-- ---- Data

put_so : (spot : Spot) (i : Inside) (a : Run) → Tells a (inside_put spot i a)
put_so spot i a = framed_so spot.direction (record (frame_of spot.direction a) { inside = i }) a

prefixed_so : (spot : Spot) (found : Headed) (a : Run) → Tells a (prefixed spot found a)
prefixed_so spot (headings.On heading) a = put_so spot (inside.Prefix heading) a
prefixed_so spot (headings.Names descriptor heading) a =
    let b = inside_put spot (inside.Prefix heading) a in
    on a b (said spot (events.Names descriptor) b) (put_so spot (inside.Prefix heading) a) (said_so spot (events.Names descriptor) b)
prefixed_so spot headings.Over a = put_so spot inside.Skipped a
prefixed_so spot (headings.Wrong fault) a =
    let b = inside_put spot inside.Skipped a in
    on a b (said spot (events.Headers fault) b) (put_so spot inside.Skipped a) (said_so spot (events.Headers fault) b)

versioned_so_by : (judged : Bool) (spot : Spot) (byte : ℕ) (a : Run) → Tells a (versioned_if judged spot byte a)
versioned_so_by true spot byte a = same a
versioned_so_by false spot byte a = stopped_so spot (events.Stops endings.OtherVersion byte) a

versioned_so : (spot : Spot) (place byte : ℕ) (a : Run) → Tells a (versioned spot place byte a)
versioned_so spot place byte a =
    let f = record (frame_of spot.direction a) { inside = inside.Version (place + 1) } in
    let g = record (frame_of spot.direction a) { inside = inside.Skipped } in
    let b = framed spot.direction g a in
    either a (framed spot.direction f a) (versioned_if (is_judged_version byte) spot byte b) (nat_lt place 7) (framed_so spot.direction f a)
    (on a b (versioned_if (is_judged_version byte) spot byte b) (framed_so spot.direction g a) (versioned_so_by (is_judged_version byte) spot byte b))

read_so : (r : Parser) (a : Run) → Tells a (read_by r a)
read_so r a = nothing a (read_by r a) refl refl refl

found_so : (found : Found) (spot : Spot) (a : Run) → Tells a (walked_by found spot a)
found_so (Sees token r rest) spot a = on a (read_by r a) (said spot (events.Says token) (read_by r a)) (read_so r a) (said_so spot (events.Says token) (read_by r a))
found_so (Amid r) spot a = read_so r a
found_so (Refuses refusal) spot a = stopped_so spot (refused_as refusal) a

walked_so : (o : Option Parser) (spot : Spot) (byte : ℕ) (a : Run) → Tells a (walked o spot byte a)
walked_so None spot byte a = same a
walked_so (Some r) spot byte a = found_so (next_token r (byte ∷ [])) spot a

inside_so : (i : Inside) (spot : Spot) (byte : ℕ) (a : Run) → Tells a (inside_by i spot byte a)
unfolding inside_by
inside_so inside.Skipped spot byte a = same a
inside_so (inside.Prefix heading) spot byte a = prefixed_so spot (heading_by heading byte) a
inside_so inside.Walked spot byte a = walked_so a.judge.parser spot byte a
inside_so (inside.Version place) spot byte a = versioned_so spot place byte a

counted_so : (o : Option Parser) (spot : Spot) (left : ℕ) (a : Run) → Tells a (counted_by o spot left a)
counted_so None spot left a = same a
counted_so (Some r) spot left a =
    let f = record (frame_of spot.direction a) { due = due.Data (left - 1) } in
    either a (framed spot.direction f a) (over spot a) (nat_lt 1 left) (framed_so spot.direction f a) (over_so spot a)

-- ---- Bytes

due_so : (d : Due) (spot : Spot) (byte : ℕ) (a : Run) → Tells a (due_by d spot byte a)
unfolding due_by
due_so (due.Head got value) spot byte a = head_so spot got (shifted value byte) a
due_so (due.Data left) spot byte a =
    let b = inside_by (frame_of spot.direction a).inside spot byte a in
    on a b (counted spot left b) (inside_so (frame_of spot.direction a).inside spot byte a) (counted_so b.judge.parser spot left b)

step_so_by : (o : Option Parser) (d : Direction) (time byte : ℕ) (a : Run) → Tells a (step_by o d time byte a)
step_so_by None d time byte a = same a
step_so_by (Some r) d time byte a =
    let f = frame_of d a in
    on a (moved d a) (due_by f.due (spot_of d time a) byte (moved d a)) (framed_so d _ a) (due_so f.due (spot_of d time a) byte (moved d a))

step_so : (d : Direction) (time byte : ℕ) (a : Run) → Tells a (step d time byte a)
unfolding step
step_so d time byte a = step_so_by a.judge.parser d time byte a

pub steps_so : (d : Direction) (time : ℕ) (bytes : List ℕ) (a : Run) → Tells a (steps d time bytes a)
unfolding steps
steps_so d time [] a = same a
steps_so d time (byte ∷ bytes) a = on a (step d time byte a) (steps d time bytes (step d time byte a)) (step_so d time byte a) (steps_so d time bytes (step d time byte a))
