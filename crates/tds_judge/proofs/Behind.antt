-- Where a judge is behind a history, field by field.
use Rattle.std.proofs.Common.{◌≡◌, ◌∙◌, ◌==◌, ◌&&◌, ◌||◌, not, Bool, true, false, ℕ, List, [], ◌∷◌, refl, sym, ap}
use Rattle.std.specs.Prelude.{if◌then◌else◌}
use Rattle.std.proofs.Math.Bool.{and-false, and-true, or-false}
use Rattle.tds_judge.specs.declared.finding.Spot.{Spot}
use Rattle.tds_judge.specs.declared.talk.Event.{Event}
use Rattle.tds_judge.specs.declared.talk.Event.TheVariants as events
use Rattle.tds_judge.specs.declared.talk.Talk.{Talk}
use Rattle.tds_judge.specs.declared.talk.Transaction.TheVariants as transactions
use Rattle.tds_wire.specs.declared.told.ChangeValue.{ChangeValue}
use Rattle.tds_wire.specs.declared.told.ChangeValue.TheVariants as changes
use Rattle.tds_wire.specs.declared.told.Told.{Told}
use Rattle.tds_wire.specs.declared.told.Told.TheVariants as told
use Rattle.tds_judge.specs.Breaches.{agreed_last, asked_last, gone_last, has_begun, has_worked, idle_since, is_asking, is_awaited_answer, is_bulk, is_dated, is_entering, is_lent, is_other_shown, is_over, is_unheard, size_told}
use Rattle.tds_judge.specs.History.{Said, asks_of, further, has_asked_since, has_ended, is_acknowledged, is_cleared, is_forgotten, is_out, is_twice, is_underway, last_told, left_underway, talk_behind, course_of}
use Rattle.tds_judge.specs.Talking.{begun_as, descriptor_of, has_begun as begun_at, has_ended as ended_at, keeps, kind_heard, owed, talk_by}

-- the talk that a history makes
abbrev pub talk_as : List Said → Talk
talk_as past = record {
  asked = asked_last past;
  underway = is_underway past;
  attention = is_out past;
  doubled = is_twice past;
  late = has_asked_since past;
  ended_since = has_ended past;
  reset = asks_of past;
  asking = is_asking past;
  reset_done = is_cleared past;
  bulk = is_bulk past;
  forgotten = is_forgotten past;
  transaction = last_told past;
  begun = has_begun past;
  begun_unheard = is_unheard past;
  ended = gone_last past;
  is_final = is_over past;
  acknowledges = is_acknowledged past;
  borrowed = is_lent past;
  since = idle_since past;
  agreed = agreed_last past;
  most = size_told past;
  dated = is_dated past;
  other = is_other_shown past;
  entering = is_entering past;
  worked = has_worked past;
}

abbrev behind_of : List Said → Spot → Event → Talk
behind_of past spot event = talk_as ((record { spot = spot; event = event }) ∷ past)

-- ---- Changes

changed : (b : Bool) (t : Talk) (time type new : ℕ)
    → (if b then begun_at t time type new else ended_at t time)
    ≡ record t { transaction = if b then begun_as type new else transactions.Told 0; begun = b; begun_unheard = b && t.attention; ended = if b then 0 else descriptor_of t.transaction; since = time }
changed true t time type new = refl
changed false t time type new = refl

cleared : (b : Bool) (t : Talk)
    → (if b then record t { reset_done = true; borrowed = false } else record t { reset_done = true; borrowed = false; transaction = transactions.Told 0; begun_unheard = false })
    ≡ record t { reset_done = true; borrowed = false; transaction = if b then t.transaction else transactions.Told 0; begun_unheard = if b then t.begun_unheard else false }
cleared true t = refl
cleared false t = refl

unclear : (b : Bool) (t : Talk) → (if b then record t { transaction = transactions.Unknown } else t) ≡ record t { transaction = if b then transactions.Unknown else t.transaction }
unclear true t = refl
unclear false t = refl

-- ---- Tokens

abbrev said_token : ℕ → ℕ → ℕ → Told → Event
said_token kind start length x = events.Says (record { kind = kind; start = start; length = length; told = x })

-- what acknowledges nothing
plainly : (t : Talk) → t ≡ record t { acknowledges = t.acknowledges || false }
plainly t = ap (λ (b : Bool). record t { acknowledges = b }) (sym (or-false t.acknowledges))

by_change : (past : List Said) (spot : Spot) (kind start length type : ℕ) (value : ChangeValue)
    → talk_by (talk_as past) spot.time (said_token kind start length (told.Change (record { kind = type; value = value })))
    ≡ behind_of past spot (said_token kind start length (told.Change (record { kind = type; value = value })))
unfolding talk_by asked_last course_of is_out is_twice is_dated is_other_shown asks_of is_cleared last_told has_begun is_unheard gone_last is_over is_acknowledged is_lent idle_since agreed_last size_told is_entering has_worked is_asking is_bulk is_forgotten
by_change past spot kind start length type (changes.Transaction new old) =
    changed ((type == 8) || (type == 11)) (kind_heard (talk_as past) kind) spot.time type new
    ∙ plainly (record (kind_heard (talk_as past) kind) {
      transaction = if (type == 8) || (type == 11) then begun_as type new else transactions.Told 0;
      begun = (type == 8) || (type == 11);
      begun_unheard = ((type == 8) || (type == 11)) && is_out past;
      ended = if (type == 8) || (type == 11) then 0 else descriptor_of (last_told past);
      since = spot.time;
    })
by_change past spot kind start length type changes.ResetDone =
    cleared (keeps (owed (is_cleared past) (asks_of past))) (kind_heard (talk_as past) kind)
    ∙ plainly (record (kind_heard (talk_as past) kind) {
      reset_done = true;
      borrowed = false;
      transaction = if keeps (owed (is_cleared past) (asks_of past)) then last_told past else transactions.Told 0;
      begun_unheard = if keeps (owed (is_cleared past) (asks_of past)) then is_unheard past else false;
    })
by_change past spot kind start length type (changes.PacketSize size) = plainly (record (kind_heard (talk_as past) kind) { agreed = size })
by_change past spot kind start length type (changes.Values new old) = plainly (kind_heard (talk_as past) kind)
by_change past spot kind start length type changes.Other = plainly (kind_heard (talk_as past) kind)

by_token : (past : List Said) (spot : Spot) (kind start length : ℕ) (x : Told)
    → talk_by (talk_as past) spot.time (said_token kind start length x) ≡ behind_of past spot (said_token kind start length x)
unfolding talk_by asked_last course_of is_out is_twice is_dated is_other_shown asks_of is_cleared last_told has_begun is_unheard gone_last is_over is_acknowledged is_lent idle_since agreed_last size_told is_entering has_worked is_asking is_bulk is_forgotten
by_token past spot kind start length (told.Done done) = refl
by_token past spot kind start length (told.Change change) = by_change past spot kind start length change.kind change.value
by_token past spot kind start length (told.Message message) = plainly (kind_heard (talk_as past) kind)
by_token past spot kind start length (told.ReturnStatus value) = plainly (kind_heard (talk_as past) kind)
by_token past spot kind start length (told.SessionState state) = plainly (kind_heard (talk_as past) kind)
by_token past spot kind start length told.Unclear =
    unclear (kind == 0xE3) (kind_heard (talk_as past) kind) ∙ plainly (record (kind_heard (talk_as past) kind) { transaction = if kind == 0xE3 then transactions.Unknown else last_told past })
by_token past spot kind start length told.Other = plainly (kind_heard (talk_as past) kind)

-- ---- The end of an answer

ends : (b cut : Bool) (t : Talk) (time : ℕ)
    → (if b
    then record t { underway = if t.attention then t.late else t.doubled && t.underway; attention = false; doubled = t.doubled && t.attention; late = false; ended_since = false; forgotten = false; since = time; most = t.agreed }
    else record t { underway = false; late = t.late && not t.ended_since; ended_since = true; forgotten = false; since = time; most = t.agreed; other = t.other || cut })
    ≡ record t {
      underway = left_underway b t.attention t.late t.doubled t.underway;
      attention = t.attention && not b;
      doubled = if b then t.doubled && t.attention else t.doubled;
      late = not b && (t.late && not t.ended_since);
      ended_since = not b;
      forgotten = false;
      since = time;
      most = t.agreed;
      other = if b then t.other else t.other || cut;
    }
ends true cut t time =
    ap (λ (a : Bool). record t { underway = if t.attention then t.late else t.doubled && t.underway; attention = a; doubled = t.doubled && t.attention; late = false; ended_since = false; forgotten = false; since = time; most = t.agreed })
    (sym (and-false t.attention))
ends false cut t time =
    ap (λ (a : Bool). record t { underway = false; attention = a; late = t.late && not t.ended_since; ended_since = true; forgotten = false; since = time; most = t.agreed; other = t.other || cut }) (sym (and-true t.attention))

-- ---- An event

said_next : (past : List Said) (spot : Spot) (event : Event) → talk_by (talk_as past) spot.time event ≡ behind_of past spot event
unfolding talk_by asked_last course_of is_out is_twice is_dated is_other_shown asks_of is_cleared last_told has_begun is_unheard gone_last is_over is_acknowledged is_lent idle_since agreed_last size_told is_entering has_worked is_asking is_bulk is_forgotten
said_next past spot (events.Says token) = by_token past spot token.kind token.start token.length token.told
said_next past spot (events.Answered whole) = ends (is_acknowledged past) (is_awaited_answer past && (not whole && not (is_dated past))) (talk_as past) spot.time
said_next past spot _ = refl

pub talk_is : (past : List Said) → talk_behind past ≡ talk_as past
unfolding further asked_last course_of is_out is_twice is_dated is_other_shown asks_of is_cleared last_told has_begun is_unheard gone_last is_over is_acknowledged is_lent idle_since agreed_last size_told is_entering has_worked is_asking is_bulk is_forgotten
talk_is [] = refl
talk_is (x ∷ past) = ap (λ (t : Talk). talk_by t x.spot.time x.event) (talk_is past) ∙ said_next past x.spot x.event
