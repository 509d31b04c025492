-- Whether a whole request is out on a connection whose answer hasn't ended, by where its line is; and what the line makes of a packet that comes.
use Rattle.std.proofs.Common.{◌≡◌, ℕ, Bool, true, false, List, [], ◌∷◌, ◌++◌, refl}
use Rattle.std.specs.Prelude.{Result, Ok, Err}
use Rattle.tds_wire.specs.declared.told.Token.{Token}
use Rattle.tds_client.specs.declared.heard.Heard.{Heard}
use Rattle.tds_client.specs.declared.heard.FinalDone.{FinalDone}
use Rattle.tds_client.specs.declared.heard.FinalDone.TheVariants.{Awaited, Answered, Acknowledged}
use Rattle.tds_listen.specs.declared.fault.ListenFault.{ListenFault}
use Rattle.tds_listen.specs.declared.fault.ListenFault.TheVariants as listens
use Rattle.tds_client.specs.declared.fault.ClientFault.TheVariants as faults
use Rattle.tds_service.specs.Parts.{Part, is_end, hear_part, heard_until}
use Rattle.tds_service.specs.Line as line
use Rattle.tds_service.specs.Line.{Line, Act, LineStage, Turn, reads, skips, skips_to_end, line_turn}
use Rattle.tds_service.specs.History.{Done, history, line_after}
use Rattle.tds_service.specs.Promises.{ends_message}
use Rattle.tds_relay.specs.Fronting.{AnswersOnce, is_left_out, is_out_behind}
use Rattle.tds_relay.proofs.ends.Fronting.{line_at, out_of}

-- ---- Whether one is out, behind what was done

abbrev pub out_by : Bool → Done Token → Bool
out_by out d = is_left_out (is_out_behind out d.sent) (ends_message d.act) d.answer

abbrev pub out_after : Bool → List (Done Token) → Bool
out_after out [] = out
out_after out (d ∷ ds) = out_after (out_by out d) ds

pub out_both : (out : Bool) (ds es : List (Done Token)) → out_after out (ds ++ es) ≡ out_after (out_after out ds) es
out_both out [] es = refl
out_both out (d ∷ ds) es = out_both (out_by out d) ds es

pub once_split : (out : Bool) (ds es : List (Done Token)) → AnswersOnce out (ds ++ es) → AnswersOnce out ds × AnswersOnce (out_after out ds) es
once_split out [] es once = (tt, once)
once_split out (d ∷ ds) es once = let more = once_split (out_by out d) ds es once.1 in ((once.0, more.0), more.1)

-- ---- As the line is

abbrev Left : Bool → Bool → Turn Token → Bool
Left out ends t = is_left_out (is_out_behind out t.sent) ends t.answer

abbrev Tells : Bool → Bool → Turn Token → Type 0
Tells out ends t = out_of t.line.stage (Left out ends t) ≡ Left out ends t

reads_tells : (l : Line) (part : Part Token) (ends : Bool) (u : Heard) (r : Result Heard ListenFault) (out : Bool) → true ≡ out → Tells out ends (reads l part ends u r)
reads_tells l part ends u (Err fault) out e = refl
reads_tells l part false u (Ok heard) out e = e
reads_tells l part true u (Ok heard) out e = refl

skips_end_tells : (l : Line) (heard : Heard) (done : FinalDone) (out : Bool) → Tells out true (skips_to_end {T = Token} l heard done)
skips_end_tells l heard Awaited out = refl
skips_end_tells l heard Answered out = refl
skips_end_tells l heard Acknowledged out = refl

skips_tells : (l : Line) (ends : Bool) (u : Heard) (r : Result Heard ListenFault) (out : Bool) → Tells out ends (skips {T = Token} l ends u r)
skips_tells l ends u (Err fault) out = refl
skips_tells l false u (Ok heard) out = refl
skips_tells l true u (Ok heard) out = skips_end_tells l heard heard.done out

tells : (n : ℕ) (s : LineStage) (h : Heard) (out : Bool) (act : Act Token) → out_of s out ≡ out → Tells out (ends_message act) (line_turn (line_at n s h) act)
tells n line.Idle h out (line.Mark reset) e = e
tells n (line.Sending begun) h out (line.Mark reset) e = e
tells n line.Reading h out (line.Mark reset) e = e
tells n line.Cancelling h out (line.Mark reset) e = e
tells n (line.Broken fault) h out (line.Mark reset) e = e
tells n line.Idle h out line.Ask e = e
tells n (line.Sending begun) h out line.Ask e = e
tells n line.Reading h out line.Ask e = e
tells n line.Cancelling h out line.Ask e = e
tells n (line.Broken fault) h out line.Ask e = e
tells n line.Idle h out (line.Send last) e = e
tells n (line.Sending begun) h out (line.Send false) e = e
tells n (line.Sending begun) h out (line.Send true) e = refl
tells n line.Reading h out (line.Send last) e = e
tells n line.Cancelling h out (line.Send last) e = e
tells n (line.Broken fault) h out (line.Send last) e = e
tells n line.Idle h out line.Cancel e = e
tells n (line.Sending false) h out line.Cancel e = e
tells n (line.Sending true) h out line.Cancel e = refl
tells n line.Reading h out line.Cancel e = refl
tells n line.Cancelling h out line.Cancel e = refl
tells n (line.Broken fault) h out line.Cancel e = refl
tells n line.Idle h out (line.Come part) e = refl
tells n (line.Sending begun) h out (line.Come part) e = refl
tells n line.Reading h out (line.Come part) e =
    reads_tells (line_at n line.Reading h) part (is_end part.close) (heard_until false h part.items) (hear_part false h part) out e
tells n line.Cancelling h out (line.Come part) e =
    skips_tells (line_at n line.Cancelling h) (is_end part.close) (heard_until true h part.items) (hear_part true h part) out
tells n (line.Broken fault) h out (line.Come part) e = refl
tells n line.Idle h out line.Lose e = refl
tells n (line.Sending begun) h out line.Lose e = refl
tells n line.Reading h out line.Lose e = refl
tells n line.Cancelling h out line.Lose e = refl
tells n (line.Broken fault) h out line.Lose e = refl

pub tells_all : (l : Line) (acts : List (Act Token)) (out : Bool) → out_of l.stage out ≡ out → out_of (line_after l acts).stage (out_after out (history l acts)) ≡ out_after out (history l acts)
tells_all l [] out e = e
tells_all l (act ∷ acts) out e = tells_all (line_turn l act).line acts (out_by out (Rattle.tds_service.specs.History.done_by act (line_turn l act))) (tells l.asked l.stage l.heard out act e)

-- ---- A packet that comes

pub data HeardAs (s : LineStage) (ends : Bool) (t : Turn Token) : Type 0 where
  Breaks : (fault : ListenFault) → t.answer ≡ line.Fault fault → HeardAs s ends t
  -- of an answer that is read: it goes on, or ends
  ReadsOn : s ≡ line.Reading → ends ≡ false → t.answer ≡ line.More → t.sent ≡ [] → t.line.stage ≡ line.Reading → HeardAs s ends t
  ReadsEnd : (request : ℕ) → s ≡ line.Reading → t.answer ≡ line.Finished request → t.sent ≡ [] → t.line.stage ≡ line.Idle → HeardAs s ends t
  -- behind a cancel: the acknowledgement is to come, or comes
  SkipsOn : s ≡ line.Cancelling → t.answer ≡ line.More → t.sent ≡ [] → t.line.stage ≡ line.Cancelling → HeardAs s ends t
  SkipsEnd : (request : ℕ) → s ≡ line.Cancelling → t.answer ≡ line.Acked request → t.sent ≡ [] → t.line.stage ≡ line.Idle → HeardAs s ends t

reads_as : (l : Line) (part : Part Token) (ends : Bool) (u : Heard) (r : Result Heard ListenFault) → HeardAs line.Reading ends (reads l part ends u r)
reads_as l part ends u (Err fault) = Breaks fault refl
reads_as l part false u (Ok heard) = ReadsOn refl refl refl refl refl
reads_as l part true u (Ok heard) = ReadsEnd l.asked refl refl refl refl

skips_end_as : (l : Line) (heard : Heard) (done : FinalDone) → HeardAs line.Cancelling true (skips_to_end {T = Token} l heard done)
skips_end_as l heard Awaited = SkipsOn refl refl refl refl
skips_end_as l heard Answered = SkipsOn refl refl refl refl
skips_end_as l heard Acknowledged = SkipsEnd l.asked refl refl refl refl

skips_as : (l : Line) (ends : Bool) (u : Heard) (r : Result Heard ListenFault) → HeardAs line.Cancelling ends (skips {T = Token} l ends u r)
skips_as l ends u (Err fault) = Breaks fault refl
skips_as l false u (Ok heard) = SkipsOn refl refl refl refl
skips_as l true u (Ok heard) = skips_end_as l heard heard.done

heard_at : (n : ℕ) (s : LineStage) (h : Heard) (part : Part Token) → HeardAs s (is_end part.close) (line_turn (line_at n s h) (line.Come part))
heard_at n line.Idle h part = Breaks (listens.Client faults.AnswerInIdle) refl
heard_at n (line.Sending begun) h part = Breaks (listens.Client faults.AnswerInSending) refl
heard_at n line.Reading h part = reads_as (line_at n line.Reading h) part (is_end part.close) (heard_until false h part.items) (hear_part false h part)
heard_at n line.Cancelling h part = skips_as (line_at n line.Cancelling h) (is_end part.close) (heard_until true h part.items) (hear_part true h part)
heard_at n (line.Broken fault) h part = Breaks (listens.Client fault) refl

pub heard_as : (l : Line) (part : Part Token) → HeardAs l.stage (is_end part.close) (line_turn l (line.Come part))
heard_as l part = heard_at l.asked l.stage l.heard part
