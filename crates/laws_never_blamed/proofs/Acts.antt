-- What each act of a client makes of a conversation, and all of them.
use Rattle.std.proofs.Common.{◌≡◌, ◌∙◌, ◌==◌, ◌||◌, ℕ, Bool, true, false, List, [], ◌∷◌, ◌++◌, refl, sym, ap, subst}
use Rattle.std.specs.Prelude.{Option, Some, None, Result, Ok, Err, not, nat_lt, if◌then◌else◌}
use Rattle.std.proofs.lemmas.Bool.{eq-eqb}
use Rattle.tds_packet.specs.declared.status.Reset.{Reset}
use Rattle.tds_packet.specs.declared.status.Reset.TheVariants.{Full, KeepTransaction}
use Rattle.tds_packet.specs.Resets.{header_descriptor}
use Rattle.tds_client.specs.declared.heard.Heard.{Heard}
use Rattle.tds_client.specs.declared.heard.FinalDone.{FinalDone}
use Rattle.tds_client.specs.declared.heard.FinalDone.TheVariants.{Awaited, Answered, Acknowledged}
use Rattle.tds_listen.specs.declared.fault.ListenFault.{ListenFault}
use Rattle.tds_wire.specs.declared.told.Token.{Token}
use Rattle.tds_service.specs.Parts.{Part, heard_until, hear_part, is_end}
use Rattle.tds_service.specs.Line as line
use Rattle.tds_service.specs.Line.{Act, Answer, Line, Packet, LineStage, Idle, Sending, Reading, Cancelling, Broken, Turn, line_turn}
use Rattle.tds_service.specs.History.{done_by, history}
use Rattle.tds_judge.specs.declared.talk.Event.TheVariants as events
use Rattle.tds_judge.specs.declared.talk.Transaction.{Transaction}
use Rattle.tds_judge.specs.declared.talk.Transaction.TheVariants as transactions
use Rattle.tds_judge.specs.Breaches.{agreed_last, size_told}
use Rattle.tds_judge.specs.Conversation.{IsLawful, MayAsk, MayName, MayStop, Names, Place, Asking, forgotten_at, place_of, stopped_at, Skipping}
use Rattle.tds_judge.specs.History.{Said, asks_of, is_cleared, last_told}
use Rattle.tds_judge.specs.Talking.{ignores_early, is_both, reset_of}
use Rattle.tds_judge.specs.Told.{is_broken}
use Rattle.laws_never_blamed.specs.Seen.{named_by, sees_outs, AllBehindLogin, AreBehindLogin, ComesBehindLogin, EndsIf, Eye, Watch, acknowledge, conversation, seen, sees, sees_begin, sees_come, sees_done, sees_names, sees_packet, status, unless_lost, watch_by, sees_request}
use Rattle.laws_conforming_server.specs.Answering.{IsNoFault, NoFault, UnlessLost}
use Rattle.laws_never_blamed.proofs.Hears.{IsLast, NotAcknowledged, as_reset, is_acknowledged, or_true}
use Rattle.laws_never_blamed.proofs.Steps.{Answers, Asked, At, Knows, Rests, Skips, Stands, Stops, packet_seen, part_reads, part_skips, reading_begins, reads_stand, skipping_begins, skips_stand}

abbrev pub line_at : ℕ → LineStage → Heard → Line
line_at n stage h = record { asked = n; stage = stage; heard = h }

abbrev pub Moves : Eye → ℕ → LineStage → Heard → Watch → List Said → Act Token → Type 0
Moves eye n stage h w past act =
    IsNoFault (line_turn (line_at n stage h) act).answer
    → Stands (line_turn (line_at n stage h) act).line (watch_by (done_by act (line_turn (line_at n stage h) act)) w) (sees_done eye w past (done_by act (line_turn (line_at n stage h) act)))

-- ---- Marks, and asking

knows_marked : (h : Heard) (mark : Option Reset) (past : List Said) → Knows h past → Knows (record h { mark = mark }) past
knows_marked h mark past k = record { lawful = k.lawful; agreed = k.agreed; size = k.size; last = k.last }

mark_moves : (eye : Eye) (n : ℕ) (stage : LineStage) (h : Heard) (w : Watch) (past : List Said) (reset : Reset)
    → Knows h past → At stage w.begun w.named h past → Moves eye n stage h w past (line.Mark reset)
mark_moves eye n Idle h w past reset k a well =
    record { knows = knows_marked h _ past k; at = (a.0, record { place = a.1.place; done = a.1.done }) }
mark_moves eye n (Sending begun) h w past reset k a well = record { knows = k; at = a }
mark_moves eye n Reading h w past reset k a well = record { knows = k; at = a }
mark_moves eye n Cancelling h w past reset k a well = record { knows = k; at = a }
mark_moves eye n (Broken fault) h w past reset k a well = record { knows = k; at = a }

ask_moves : (eye : Eye) (n : ℕ) (stage : LineStage) (h : Heard) (w : Watch) (past : List Said)
    → Knows h past → At stage w.begun w.named h past → Moves eye n stage h w past line.Ask
ask_moves eye n Idle h w past k a well = record { knows = k; at = (a.0, refl, a.1) }
ask_moves eye n (Sending begun) h w past k a well = record { knows = k; at = a }
ask_moves eye n Reading h w past k a well = record { knows = k; at = a }
ask_moves eye n Cancelling h w past k a well = record { knows = k; at = a }
ask_moves eye n (Broken fault) h w past k a well = record { knows = k; at = a }

-- ---- Sending

reset_read : (mark : Option Reset) (last : Bool) → reset_of (status mark last) ≡ as_reset mark
reset_read None true = refl
reset_read None false = refl
reset_read (Some Full) true = refl
reset_read (Some Full) false = refl
reset_read (Some KeepTransaction) true = refl
reset_read (Some KeepTransaction) false = refl

-- none of them is to be ignored
ends_read : (mark : Option Reset) (last : Bool) → ignores_early (status mark last) ≡ false
ends_read None true = refl
ends_read None false = refl
ends_read (Some Full) true = refl
ends_read (Some Full) false = refl
ends_read (Some KeepTransaction) true = refl
ends_read (Some KeepTransaction) false = refl

one_reset : (mark : Option Reset) → is_both (as_reset mark) ≡ false
one_reset None = refl
one_reset (Some Full) = refl
one_reset (Some KeepTransaction) = refl

same_named : (last descriptor : ℕ) (b : Bool) → last ≡ descriptor → ((last == descriptor) || b) ≡ true
same_named last descriptor b is = ap (λ (x : Bool). x || b) (eq-eqb last descriptor is)

names_last : (mark : Option Reset) (last : Transaction) (descriptor : ℕ) → IsLast last descriptor → Names last (as_reset mark) (header_descriptor mark descriptor)
names_last mark transactions.Unknown descriptor is = tt
names_last None (transactions.Told last) descriptor is = same_named last descriptor false is
names_last (Some Full) (transactions.Told last) descriptor is = or_true (last == 0)
names_last (Some KeepTransaction) (transactions.Told last) descriptor is = same_named last descriptor false is

-- the descriptor is seen or not
names_by : (b : Bool) (eye : Eye) (h : Heard) (named : ℕ) (past : List Said) → named ≡ header_descriptor h.mark h.descriptor → Knows h past → Asked h past
    → Knows h (if b then sees eye past (events.Names named) else past) × Asked h (if b then sees eye past (events.Names named) else past)
unfolding IsLawful agreed_last size_told last_told place_of asks_of is_cleared
names_by false eye h named past is k a = (k, a)
names_by true eye h named past is k a = (
  record {
    lawful = (k.lawful, subst (λ (p : Place). MayName p (last_told past) named) (sym a.place) (subst (Names (last_told past) (as_reset h.mark)) (sym is) (names_last h.mark (last_told past) h.descriptor k.last)));
    agreed = k.agreed;
    size = k.size;
    last = k.last;
  },
  record { place = a.place; owes = a.owes; done = a.done },
)

begins_sent : (eye : Eye) (h : Heard) (named : ℕ) (past : List Said) (last : Bool) → named ≡ header_descriptor h.mark h.descriptor → Knows h past → Rests h past
    → Knows h (sees_names eye named (sees_request eye past (status h.mark last))) × Asked h (sees_names eye named (sees_request eye past (status h.mark last)))
unfolding IsLawful agreed_last size_told last_told place_of asks_of is_cleared
begins_sent eye h named past last is k a =
    names_by (eye.headers (sees_request eye past (status h.mark last))) eye h named (sees_request eye past (status h.mark last)) is
    (record {
      lawful = (k.lawful, subst (λ (p : Place). MayAsk p (status h.mark last)) (sym a.place) (ap is_both (reset_read h.mark last) ∙ one_reset h.mark, ends_read h.mark last));
      agreed = k.agreed;
      size = k.size;
      last = k.last;
    })
    (record { place = ap Asking (reset_read h.mark last); owes = reset_read h.mark last; done = a.done })

later_sent : (eye : Eye) (h : Heard) (past : List Said) (last : Bool) → Knows h past → Asked h past
    → Knows h (sees eye past (events.Later (status None last))) × Asked h (sees eye past (events.Later (status None last)))
unfolding IsLawful agreed_last size_told last_told place_of asks_of is_cleared
later_sent eye h past last k a = (
  record { lawful = (k.lawful, (reset_read None last, ends_read None last)); agreed = k.agreed; size = k.size; last = k.last },
  record { place = a.place; owes = a.owes; done = a.done },
)

rests_packet : (eye : Eye) (h : Heard) (past : List Said) → Rests h past → Rests h (sees_packet eye past)
unfolding place_of
rests_packet eye h past a = record { place = a.place; done = a.done }

asked_packet : (eye : Eye) (h : Heard) (past : List Said) → Asked h past → Asked h (sees_packet eye past)
unfolding place_of asks_of is_cleared
asked_packet eye h past a = record { place = a.place; owes = a.owes; done = a.done }

-- what was sent was the last packet or not
sent_stands : (n : ℕ) (h : Heard) (begun : Bool) (named : ℕ) (past : List Said) (last : Bool) → begun ≡ false → Knows h past → Asked h past
    → Stands (line_at n (line.stage_behind last) h) (record { named = named; begun = begun }) past
sent_stands n h begun named past false none k a = record { knows = k; at = (none, a) }
sent_stands n h begun named past true none k a = record { knows = k; at = subst (λ (b : Bool). At Reading b named h past) (sym none) a }

send_moves : (eye : Eye) (n : ℕ) (stage : LineStage) (h : Heard) (w : Watch) (past : List Said) (last : Bool)
    → Knows h past → At stage w.begun w.named h past → Moves eye n stage h w past (line.Send last)
send_moves eye n (Sending false) h w past last k a well =
    let both = begins_sent eye h w.named (sees_packet eye past) last a.1 (packet_seen eye h past k) (rests_packet eye h past a.2) in
    sent_stands n h w.begun w.named (sees_names eye w.named (sees_request eye (sees_packet eye past) (status h.mark last))) last a.0 both.0 both.1
send_moves eye n (Sending true) h w past last k a well =
    let both = later_sent eye h (sees_packet eye past) last (packet_seen eye h past k) (asked_packet eye h past a.1) in
    sent_stands n h w.begun w.named (sees eye (sees_packet eye past) (events.Later (status None last))) last a.0 both.0 both.1
send_moves eye n Idle h w past last k a well = record { knows = k; at = a }
send_moves eye n Reading h w past last k a well = record { knows = k; at = a }
send_moves eye n Cancelling h w past last k a well = record { knows = k; at = a }
send_moves eye n (Broken fault) h w past last k a well = record { knows = k; at = a }

-- ---- Cancelling

-- the packet of an attention, where one may be sent
abbrev attends : Eye → List Said → List Said
attends eye past = sees eye (sees eye past (events.Packet 8 false)) (events.Attention 8 1)

attention_known : (eye : Eye) (h : Heard) (past : List Said) → MayStop (place_of past) → Knows h past → Knows h (attends eye past)
unfolding IsLawful agreed_last size_told last_told place_of
attention_known eye h past may k = record {
  lawful = ((k.lawful, ap (λ (n : ℕ). (n == 0) || not (nat_lt n 8)) k.size), (may, refl, refl));
  agreed = k.agreed;
  size = k.size;
  last = k.last;
}

abbrev ignores : Eye → List Said → List Said
ignores eye past = sees eye (sees eye (sees_packet eye past) (events.Later 3)) events.Ignored

ignored_known : (eye : Eye) (h : Heard) (past : List Said) → Knows h past → Knows h (ignores eye past)
unfolding IsLawful agreed_last size_told last_told place_of
ignored_known eye h past k =
    let k' = packet_seen eye h past k in
    record { lawful = ((k'.lawful, (refl, refl)), tt); agreed = k.agreed; size = k.size; last = k.last }

-- an attention behind a request whose answer hasn't begun, behind one that is ignored, and inside an answer
stop_asked : (eye : Eye) (h : Heard) (past : List Said) → Knows h past → Asked h past → Knows h (attends eye past) × Stops h (attends eye past)
unfolding place_of asks_of is_cleared
stop_asked eye h past k a = (
  attention_known eye h past (subst MayStop (sym a.place) tt) k,
  record { place = ap stopped_at a.place; owes = a.owes; done = a.done },
)

stop_ignored : (eye : Eye) (h : Heard) (past : List Said) → Knows h past → Asked h past
    → Knows h (attends eye (ignores eye past)) × Stops h (attends eye (ignores eye past))
unfolding place_of asks_of is_cleared
stop_ignored eye h past k a = (
  attention_known eye h (ignores eye past) (subst (λ (p : Place). MayStop (forgotten_at p)) (sym a.place) tt) (ignored_known eye h past k),
  record { place = ap (λ (p : Place). stopped_at (forgotten_at p)) a.place; owes = a.owes; done = a.done },
)

not_acknowledged : (done : FinalDone) → NotAcknowledged done → false ≡ is_acknowledged done
not_acknowledged Awaited none = refl
not_acknowledged Answered none = refl
not_acknowledged Acknowledged none = absurd none

stop_answer : (eye : Eye) (h : Heard) (past : List Said) → Knows h past → Answers h past → Knows h (attends eye past) × Skips h (attends eye past)
unfolding place_of asks_of is_cleared
stop_answer eye h past k a = (
  attention_known eye h past (subst MayStop (sym a.place) tt) k,
  record { place = ap stopped_at a.place ∙ ap Skipping (not_acknowledged h.done a.done); owes = a.owes },
)

stop_reading : (eye : Eye) (n : ℕ) (h : Heard) (begun : Bool) (named : ℕ) (past : List Said) → Knows h past → At Reading begun named h past
    → Stands (line_at n Cancelling h) (record { named = named; begun = begun }) (attends eye past)
stop_reading eye n h false named past k a = let both = stop_asked eye h past k a in record { knows = both.0; at = both.1 }
stop_reading eye n h true named past k a =
    let both = stop_answer eye h past k a in record { knows = both.0; at = (both.1, sym (not_acknowledged h.done a.done)) }

cancel_moves : (eye : Eye) (n : ℕ) (stage : LineStage) (h : Heard) (w : Watch) (past : List Said)
    → Knows h past → At stage w.begun w.named h past → Moves eye n stage h w past line.Cancel
cancel_moves eye n Idle h w past k a well = record { knows = k; at = a }
cancel_moves eye n (Sending false) h w past k a well = record { knows = k; at = (a.0, a.2) }
cancel_moves eye n (Sending true) h w past k a well =
    let both = stop_ignored eye h past k a.1 in
    record { knows = both.0; at = subst (λ (b : Bool). At Cancelling b w.named h (attends eye (ignores eye past))) (sym a.0) both.1 }
cancel_moves eye n Reading h w past k a well = stop_reading eye n h w.begun w.named past k a
cancel_moves eye n Cancelling h w past k a well = record { knows = k; at = a }
cancel_moves eye n (Broken fault) h w past k a well = record { knows = k; at = a }

-- ---- What comes, and a loss

reading_packet : (eye : Eye) (begun : Bool) (named : ℕ) (h : Heard) (past : List Said) → At Reading begun named h past → At Reading begun named h (sees_packet eye past)
unfolding place_of asks_of is_cleared
reading_packet eye false named h past a = record { place = a.place; owes = a.owes; done = a.done }
reading_packet eye true named h past a = record { place = a.place; owes = a.owes; done = a.done }

cancelling_packet : (eye : Eye) (begun : Bool) (named : ℕ) (h : Heard) (past : List Said) → At Cancelling begun named h past → At Cancelling begun named h (sees_packet eye past)
unfolding place_of asks_of is_cleared
cancelling_packet eye false named h past a = record { place = a.place; owes = a.owes; done = a.done }
cancelling_packet eye true named h past a = (record { place = a.0.place; owes = a.0.owes }, a.1)

-- nothing goes out where something comes, and nothing is asked
pub quiet_reads : (l : Line) (part : Part Token) (ends : Bool) (until : Heard) (r : Result Heard ListenFault) (named : ℕ)
    → ((line.reads l part ends until r).sent ≡ []) × (named_by (line.reads l part ends until r).answer named ≡ named)
quiet_reads l part ends until (Err fault) named = (refl, refl)
quiet_reads l part true until (Ok h) named = (refl, refl)
quiet_reads l part false until (Ok h) named = (refl, refl)

quiet_skipped : (l : Line) (h : Heard) (done : FinalDone) (named : ℕ)
    → ((line.skips_to_end {T = Token} l h done).sent ≡ []) × (named_by (line.skips_to_end {T = Token} l h done).answer named ≡ named)
quiet_skipped l h Awaited named = (refl, refl)
quiet_skipped l h Answered named = (refl, refl)
quiet_skipped l h Acknowledged named = (refl, refl)

pub quiet_skips : (l : Line) (ends : Bool) (until : Heard) (r : Result Heard ListenFault) (named : ℕ)
    → ((line.skips {T = Token} l ends until r).sent ≡ []) × (named_by (line.skips {T = Token} l ends until r).answer named ≡ named)
quiet_skips l ends until (Err fault) named = (refl, refl)
quiet_skips l true until (Ok h) named = quiet_skipped l h h.done named
quiet_skips l false until (Ok h) named = (refl, refl)

comes_so : (eye : Eye) (w : Watch) (past : List Said) (part : Part Token) (t : Turn Token) → (t.sent ≡ []) × (named_by t.answer w.named ≡ w.named)
    → Stands t.line (record { named = w.named; begun = if is_end part.close then false else true }) (sees_come eye w.begun past part)
    → Stands t.line (watch_by (done_by (line.Come part) t) w) (sees_done eye w past (done_by (line.Come part) t))
comes_so eye w past part t quiet stands =
    subst (λ (sent : List Packet). Stands t.line (watch_by (done_by (line.Come part) t) w) (sees_come eye w.begun (sees_outs eye w.named past sent) part)) (sym quiet.0)
    (subst (λ (named : ℕ). Stands t.line (record { named = named; begun = if is_end part.close then false else true }) (sees_come eye w.begun past part)) (sym quiet.1) stands)

come_moves : (eye : Eye) (n : ℕ) (stage : LineStage) (h : Heard) (w : Watch) (past : List Said) (part : Part Token)
    → AreBehindLogin part.items × EndsIf (acknowledge part.items) part.close → Knows h past → At stage w.begun w.named h past → Moves eye n stage h w past (line.Come part)
come_moves eye n Reading h w past part plain k a well =
    let both = reading_begins eye w.begun w.named h (sees_packet eye past) (packet_seen eye h past k) (reading_packet eye w.begun w.named h past a) in
    comes_so eye w past part (line.reads (line_at n Reading h) part (is_end part.close) (heard_until false h part.items) (hear_part false h part))
    (quiet_reads (line_at n Reading h) part (is_end part.close) (heard_until false h part.items) (hear_part false h part) w.named)
    (reads_stand (line_at n Reading h) part w.named (sees_come eye w.begun past part) (is_end part.close) (heard_until false h part.items) (hear_part false h part)
    (part_reads eye h (sees_begin eye w.begun (sees_packet eye past)) part plain.0 both.0 both.1) well)
come_moves eye n Cancelling h w past part plain k a well =
    let both = skipping_begins eye w.begun w.named h (sees_packet eye past) (packet_seen eye h past k) (cancelling_packet eye w.begun w.named h past a) in
    comes_so eye w past part (line.skips (line_at n Cancelling h) (is_end part.close) (heard_until true h part.items) (hear_part true h part))
    (quiet_skips (line_at n Cancelling h) (is_end part.close) (heard_until true h part.items) (hear_part true h part) w.named)
    (skips_stand (line_at n Cancelling h) w.named (sees_come eye w.begun past part) (is_end part.close) (heard_until true h part.items) (hear_part true h part)
    (part_skips eye h (sees_begin eye w.begun (sees_packet eye past)) part plain.0 plain.1 both.0 both.1 both.2) well)
come_moves eye n Idle h w past part plain k a well = absurd well
come_moves eye n (Sending begun) h w past part plain k a well = absurd well
come_moves eye n (Broken fault) h w past part plain k a well = absurd well

lose_moves : (eye : Eye) (n : ℕ) (stage : LineStage) (h : Heard) (w : Watch) (past : List Said)
    → Knows h past → At stage w.begun w.named h past → Moves eye n stage h w past line.Lose
lose_moves eye n Idle h w past k a well = record { knows = k; at = tt }
lose_moves eye n (Sending begun) h w past k a well = record { knows = k; at = tt }
lose_moves eye n Reading h w past k a well = record { knows = k; at = tt }
lose_moves eye n Cancelling h w past k a well = record { knows = k; at = tt }
lose_moves eye n (Broken fault) h w past k a well = record { knows = k; at = tt }

pub moves : (eye : Eye) (n : ℕ) (stage : LineStage) (h : Heard) (w : Watch) (past : List Said) (act : Act Token) → ComesBehindLogin act
    → Knows h past → At stage w.begun w.named h past → Moves eye n stage h w past act
moves eye n stage h w past (line.Mark reset) plain k a = mark_moves eye n stage h w past reset k a
moves eye n stage h w past line.Ask plain k a = ask_moves eye n stage h w past k a
moves eye n stage h w past (line.Send last) plain k a = send_moves eye n stage h w past last k a
moves eye n stage h w past line.Cancel plain k a = cancel_moves eye n stage h w past k a
moves eye n stage h w past (line.Come part) plain k a = come_moves eye n stage h w past part plain k a
moves eye n stage h w past line.Lose plain k a = lose_moves eye n stage h w past k a

-- ---- All of them

pub closes : (eye : Eye) (past : List Said) → IsLawful past → IsLawful (sees eye past events.Closed)
unfolding IsLawful
closes eye past lawful = (lawful, tt)

unless_closed : (eye : Eye) (answer : Answer) (past others : List Said) (Rest : Type 0) → IsLawful past → (Rest → IsLawful others) → UnlessLost answer Rest
    → IsLawful (unless_lost eye answer past others)
unless_closed eye line.Lost past others Rest lawful so rest = closes eye past lawful
unless_closed eye _ past others Rest lawful so rest = so rest

all_lawful : (eye : Eye) (l : Line) (w : Watch) (past : List Said) (acts : List (Act Token)) → AllBehindLogin acts → Stands l w past → NoFault (history l acts)
    → IsLawful (seen eye w past (history l acts))
all_lawful eye l w past [] plain stands well = stands.knows.lawful
all_lawful eye l w past (act ∷ acts) plain stands well =
    unless_closed eye (line_turn l act).answer past (seen eye (watch_by (done_by act (line_turn l act)) w) (sees_done eye w past (done_by act (line_turn l act))) (history (line_turn l act).line acts))
    (NoFault (history (line_turn l act).line acts)) stands.knows.lawful
    (all_lawful eye (line_turn l act).line (watch_by (done_by act (line_turn l act)) w) (sees_done eye w past (done_by act (line_turn l act))) acts plain.1
    (moves eye l.asked l.stage l.heard w past act plain.0 stands.knows stands.at well.0))
    well.1

pub starts : Stands line.new_line (record { named = 0; begun = false }) []
unfolding IsLawful agreed_last size_told last_told place_of
starts = record {
  knows = record { lawful = tt; agreed = refl; size = refl; last = tt };
  at = (refl, record { place = refl; done = refl });
}

pub is_lawful : (eye : Eye) (acts : List (Act Token)) → AllBehindLogin acts → NoFault (history line.new_line acts) → IsLawful (conversation eye (history line.new_line acts))
is_lawful eye acts plain well = all_lawful eye line.new_line (record { named = 0; begun = false }) [] acts plain starts well

pub without_end : (xs : List Said) → xs ++ [] ≡ xs
without_end [] = refl
without_end (x ∷ xs) = ap (λ (ys : List Said). x ∷ ys) (without_end xs)

-- the law of the judge, from the beginning on
pub not_blamed : ((past later : List Said) → IsLawful (later ++ past) → is_broken past later ≡ false) → (said : List Said) → IsLawful said → is_broken [] said ≡ false
not_blamed law said lawful = law [] said (subst IsLawful (sym (without_end said)) lawful)
