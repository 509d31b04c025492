-- An answer names the newest request of its connection.
use Rattle.std.proofs.Common.{◌≡◌, ℕ, Bool, true, false, List, [], ◌∷◌, refl, sym, subst}
use Rattle.std.specs.Prelude.{Result, Ok, Err}
use Rattle.tds_packet.specs.declared.status.Reset.{Reset}
use Rattle.tds_client.specs.declared.heard.Heard.{Heard}
use Rattle.tds_client.specs.declared.heard.FinalDone.{FinalDone}
use Rattle.tds_client.specs.declared.heard.FinalDone.TheVariants.{Awaited, Answered, Acknowledged}
use Rattle.tds_listen.specs.declared.fault.ListenFault.{ListenFault}
use Rattle.tds_service.specs.Parts.{Part, is_end, hear_part, heard_until}
use Rattle.tds_service.specs.Line.{Line, Turn, Act, Mark, Ask, Send, Cancel, Come, Lose, LineStage, Idle, Sending, Reading, Cancelling, Broken, line_turn, marks, asks, sends, cancels, comes, reads, skips, skips_to_end, line_loses}
use Rattle.tds_service.specs.History.{history}
use Rattle.tds_service.specs.Newest.{NamesBy, NamesNewest, newest_by}

-- A turn names the newest request, and leaves its number.
record Names (T : Type 0) (n : ℕ) (t : Turn T) : Type 0 where
  names : NamesBy n t.answer
  leaves : newest_by n t.answer ≡ t.line.asked

names_marks : {T : Type 0} (l : Line) (reset : Reset) (s : LineStage) → Names T l.asked (marks l reset s)
names_marks l reset Idle = record { names = tt; leaves = refl }
names_marks l reset (Sending begun) = record { names = tt; leaves = refl }
names_marks l reset Reading = record { names = tt; leaves = refl }
names_marks l reset Cancelling = record { names = tt; leaves = refl }
names_marks l reset (Broken fault) = record { names = tt; leaves = refl }

names_asks : {T : Type 0} (l : Line) (s : LineStage) → Names T l.asked (asks l s)
names_asks l Idle = record { names = refl; leaves = refl }
names_asks l (Sending begun) = record { names = tt; leaves = refl }
names_asks l Reading = record { names = tt; leaves = refl }
names_asks l Cancelling = record { names = tt; leaves = refl }
names_asks l (Broken fault) = record { names = tt; leaves = refl }

names_sends : {T : Type 0} (l : Line) (last : Bool) (s : LineStage) → Names T l.asked (sends l last s)
names_sends l last Idle = record { names = tt; leaves = refl }
names_sends l last (Sending begun) = record { names = tt; leaves = refl }
names_sends l last Reading = record { names = tt; leaves = refl }
names_sends l last Cancelling = record { names = tt; leaves = refl }
names_sends l last (Broken fault) = record { names = tt; leaves = refl }

names_cancels : {T : Type 0} (l : Line) (s : LineStage) → Names T l.asked (cancels l s)
names_cancels l Idle = record { names = tt; leaves = refl }
names_cancels l (Sending false) = record { names = refl; leaves = refl }
names_cancels l (Sending true) = record { names = refl; leaves = refl }
names_cancels l Reading = record { names = refl; leaves = refl }
names_cancels l Cancelling = record { names = tt; leaves = refl }
names_cancels l (Broken fault) = record { names = tt; leaves = refl }

names_reads : {T : Type 0} (l : Line) (part : Part T) (ends : Bool) (u : Heard) (x : Result Heard ListenFault) → Names T l.asked (reads l part ends u x)
names_reads l part ends u (Err fault) = record { names = tt; leaves = refl }
names_reads l part false u (Ok heard) = record { names = tt; leaves = refl }
names_reads l part true u (Ok heard) = record { names = refl; leaves = refl }

names_end : {T : Type 0} (l : Line) (heard : Heard) (done : FinalDone) → Names T l.asked (skips_to_end l heard done)
names_end l heard Awaited = record { names = tt; leaves = refl }
names_end l heard Answered = record { names = tt; leaves = refl }
names_end l heard Acknowledged = record { names = refl; leaves = refl }

names_skips : {T : Type 0} (l : Line) (ends : Bool) (u : Heard) (x : Result Heard ListenFault) → Names T l.asked (skips l ends u x)
names_skips l ends u (Err fault) = record { names = tt; leaves = refl }
names_skips l false u (Ok heard) = record { names = tt; leaves = refl }
names_skips l true u (Ok heard) = names_end l heard heard.done

names_comes : {T : Type 0} (l : Line) (part : Part T) (s : LineStage) → Names T l.asked (comes l part s)
names_comes l part Idle = record { names = tt; leaves = refl }
names_comes l part (Sending begun) = record { names = tt; leaves = refl }
names_comes l part Reading = names_reads l part (is_end part.close) (heard_until false l.heard part.items) (hear_part false l.heard part)
names_comes l part Cancelling = names_skips l (is_end part.close) (heard_until true l.heard part.items) (hear_part true l.heard part)
names_comes l part (Broken fault) = record { names = tt; leaves = refl }

names_loses : {T : Type 0} (l : Line) (s : LineStage) → Names T l.asked (line_loses l s)
names_loses l Idle = record { names = tt; leaves = refl }
names_loses l (Sending begun) = record { names = tt; leaves = refl }
names_loses l Reading = record { names = tt; leaves = refl }
names_loses l Cancelling = record { names = tt; leaves = refl }
names_loses l (Broken fault) = record { names = tt; leaves = refl }

names_turn : {T : Type 0} (l : Line) (act : Act T) → Names T l.asked (line_turn l act)
names_turn l (Mark reset) = names_marks l reset l.stage
names_turn l Ask = names_asks l l.stage
names_turn l (Send last) = names_sends l last l.stage
names_turn l Cancel = names_cancels l l.stage
names_turn l (Come part) = names_comes l part l.stage
names_turn l Lose = names_loses l l.stage

pub names_newest : {T : Type 0} (l : Line) (acts : List (Act T)) → NamesNewest l.asked (history l acts)
names_newest l [] = tt
names_newest l (act ∷ acts) =
    let t = line_turn l act in
    let k = names_turn l act in (
      k.names,
      subst (λ (n : ℕ). NamesNewest n (history t.line acts)) (sym k.leaves) (names_newest t.line acts),
    )
