-- What a line makes of a part that comes behind a login: whether that acknowledges, and where its message ends.
use Rattle.std.proofs.Common.{◌≡◌, ◌∙◌, ◌||◌, ℕ, Bool, true, false, List, [], ◌∷◌, refl, sym, ap, subst}
use Rattle.std.specs.Prelude.{Option, Some, None, Result, Ok, Err, IfOk}
use Rattle.tds_packet.specs.declared.status.Reset.{Reset}
use Rattle.tds_client.specs.declared.fault.ClientFault.{ClientFault}
use Rattle.tds_client.specs.declared.fault.ClientFault.TheVariants.{AnswerInIdle, AnswerInSending, NoFinalDone}
use Rattle.tds_client.specs.declared.heard.Heard.{Heard}
use Rattle.tds_client.specs.declared.heard.FinalDone.{FinalDone}
use Rattle.tds_client.specs.declared.heard.FinalDone.TheVariants.{Awaited, Answered, Acknowledged}
use Rattle.tds_client.specs.declared.sign.Rules.TheVariants.{Any}
use Rattle.tds_client.specs.declared.sign.Sign.{Sign}
use Rattle.tds_client.specs.Hearing.{◌>>=◌, any_sign, hear_sign, may_end}
use Rattle.tds_listen.specs.declared.fault.ListenFault.{ListenFault}
use Rattle.tds_listen.specs.declared.fault.ListenFault.TheVariants as listens
use Rattle.tds_listen.specs.Hearing.{heard_by}
use Rattle.tds_listen.specs.Signs.{sign_of}
use Rattle.tds_wire.specs.declared.fault.Refusal.{Refusal}
use Rattle.tds_wire.specs.declared.told.Token.{Token}
use Rattle.tds_service.specs.Parts.{Item, Close, Goes, Ends, Cut, Fails, Part, close_by, hear_items, heard_until, is_end, unless_owed}
use Rattle.tds_service.specs.Line as line
use Rattle.tds_service.specs.Line.{Act, Answer, Line, LineStage, Idle, Sending, Reading, Cancelling, Broken, More, Finished, Acked, Fault, Turn, reads, skips, skips_to_end, line_turn}
use Rattle.tds_service.specs.History.{line_after}
use Rattle.tds_judge.specs.declared.talk.Transaction.TheVariants as transactions
use Rattle.tds_judge.specs.Talking.{acknowledges}
use Rattle.laws_never_blamed.specs.Seen.{AllBehindLogin, AreBehindLogin, ComesBehindLogin, EndsIf, IsBehindLogin, acknowledge}
use Rattle.laws_never_blamed.proofs.Acts.{line_at}
use Rattle.laws_never_blamed.proofs.Hears.{NotAcknowledged, as_reset, follows, if_ok, is_acknowledged}

-- ---- Tokens

-- What is heard of them, where an attention is out or not. Without one, none acknowledges it.
pub record Heeds (c told : Bool) (h next : Heard) : Type 0 where
  pub done : is_acknowledged h.done || told ≡ is_acknowledged next.done
  pub plain : c ≡ false → NotAcknowledged h.done → (told ≡ false) × NotAcknowledged next.done

or_none : (b : Bool) → b || false ≡ b
or_none true = refl
or_none false = refl

or_more : (a b c : Bool) → (a || b) || c ≡ a || (b || c)
or_more true b c = refl
or_more false b c = refl

either : (a b : Bool) → a ≡ false → b ≡ false → a || b ≡ false
either a b e f = ap (λ (x : Bool). x || b) e ∙ f

item_heeds : (c : Bool) (h : Heard) (item : Item Token) → IsBehindLogin item → IfOk (hear_sign Any c h item.sign) (λ next. Heeds c (acknowledges item.token) h next)
item_heeds c h item plain =
    subst (λ (s : Sign). IfOk (any_sign c h s) (λ next. Heeds c (acknowledges item.token) h next)) (sym plain.sign)
    (if_ok (any_sign c h (sign_of item.token)) (λ next f.
    record { done = f.acknowledged; plain = λ not none. let all = f.reads not none in (all.0, all.2) })
    (follows c h item.token.kind item.token.told (as_reset h.mark) (transactions.Told h.descriptor) plain.size plain.done refl refl))

then_ok : (P Q : Heard → Type 0) (r : Result Heard ClientFault) (f : Heard → Result Heard ClientFault) → IfOk r P → ((x : Heard) → P x → IfOk (f x) Q) → IfOk (r >>= f) Q
then_ok P Q (Ok x) f is so = so x is
then_ok P Q (Err e) f is so = tt

if_so : (P Q : Heard → Type 0) (r : Result Heard ClientFault) → ((x : Heard) → P x → Q x) → IfOk r P → IfOk r Q
if_so P Q (Ok x) so is = so x is
if_so P Q (Err e) so is = tt

pub items_heed : (c : Bool) (h : Heard) (items : List (Item Token)) → AreBehindLogin items → IfOk (hear_items c h items) (λ next. Heeds c (acknowledge items) h next)
items_heed c h [] plain = record { done = or_none (is_acknowledged h.done); plain = λ not none. (refl, none) }
items_heed c h (item ∷ items) plain =
    then_ok (λ next. Heeds c (acknowledges item.token) h next) (λ next. Heeds c (acknowledge (item ∷ items)) h next)
    (hear_sign Any c h item.sign) (λ next. hear_items c next items) (item_heeds c h item plain.0)
    (λ middle one. if_so (λ next. Heeds c (acknowledge items) middle next) (λ next. Heeds c (acknowledge (item ∷ items)) h next) (hear_items c middle items)
    (λ next two. record {
      done = sym (or_more (is_acknowledged h.done) (acknowledges item.token) (acknowledge items))
          ∙ (ap (λ (b : Bool). b || acknowledge items) one.done ∙ two.done);
      plain = λ not none. let first = one.plain not none in let rest = two.plain not first.1 in
          (either (acknowledges item.token) (acknowledge items) first.0 rest.0, rest.1);
    })
    (items_heed c middle items plain.2))

-- ---- A part

-- What an answer to a part says of it, and of what was heard then.
pub data Heeded (part : Part Token) (s : LineStage) (answer : Answer) : Type 0 where
  Breaks : (fault : ListenFault) → answer ≡ Fault fault → Heeded part s answer
  ReadsOn : s ≡ Reading → answer ≡ More → acknowledge part.items ≡ false → part.close ≡ Goes → Heeded part s answer
  ReadsAll : (request : ℕ) → s ≡ Reading → answer ≡ Finished request → acknowledge part.items ≡ false → part.close ≡ Ends → Heeded part s answer
  SkipsOn : s ≡ Cancelling → answer ≡ More → acknowledge part.items ≡ false → Heeded part s answer
  SkipsAll : (request : ℕ) → s ≡ Cancelling → answer ≡ Acked request → acknowledge part.items ≡ true → is_end part.close ≡ true → Heeded part s answer

-- By where a line is: what was heard of the message that comes there.
abbrev pub Kept : LineStage → Heard → Type 0
Kept Idle h = h.done ≡ Awaited
Kept (Sending begun) h = h.done ≡ Awaited
Kept Reading h = NotAcknowledged h.done
Kept Cancelling h = is_acknowledged h.done ≡ false
Kept (Broken fault) h = Unit {0}

abbrev Stays : Line → Type 0
Stays l = Kept l.stage l.heard

-- both of a turn
record Both (part : Part Token) (s : LineStage) (t : Turn Token) : Type 0 where
  answers : Heeded part s t.answer
  stays : Stays t.line

abbrev part_at : List (Item Token) → Close → Part Token
part_at items close = record { items = items; close = close }

read_goes : (l : Line) (items : List (Item Token)) (h u : Heard) (r : Result Heard ClientFault) → NotAcknowledged h.done → IfOk r (λ next. Heeds false (acknowledge items) h next)
    → Both (part_at items Goes) Reading (reads l (part_at items Goes) false u (heard_by r (λ next. Ok next)))
read_goes l items h u (Err fault) none is = record { answers = Breaks (listens.Client fault) refl; stays = tt }
read_goes l items h u (Ok next) none is = let both = is.plain refl none in record { answers = ReadsOn refl refl both.0 refl; stays = both.1 }

read_owed : (l : Line) (items : List (Item Token)) (u next : Heard) (mark : Option Reset) → acknowledge items ≡ false
    → Both (part_at items Ends) Reading (reads l (part_at items Ends) true u (unless_owed mark next))
read_owed l items u next None not = record { answers = ReadsAll l.asked refl refl not refl; stays = refl }
read_owed l items u next (Some reset) not = record { answers = Breaks listens.ResetUnanswered refl; stays = tt }

read_closes : (l : Line) (items : List (Item Token)) (u next : Heard) (b : Bool) → acknowledge items ≡ false
    → Both (part_at items Ends) Reading (reads l (part_at items Ends) true u (close_by false b next))
read_closes l items u next false not = record { answers = Breaks (listens.Client NoFinalDone) refl; stays = tt }
read_closes l items u next true not = read_owed l items u next next.mark not

read_ends : (l : Line) (items : List (Item Token)) (h u : Heard) (r : Result Heard ClientFault) → NotAcknowledged h.done → IfOk r (λ next. Heeds false (acknowledge items) h next)
    → Both (part_at items Ends) Reading (reads l (part_at items Ends) true u (heard_by r (λ next. close_by false (may_end Any false next.done) next)))
read_ends l items h u (Err fault) none is = record { answers = Breaks (listens.Client fault) refl; stays = tt }
read_ends l items h u (Ok next) none is = read_closes l items u next (may_end Any false next.done) (is.plain refl none).0

read_cut : (l : Line) (items : List (Item Token)) (u : Heard) (r : Result Heard ClientFault)
    → Both (part_at items Cut) Reading (reads l (part_at items Cut) true u (heard_by r (λ (next : Heard). Err listens.Cut)))
read_cut l items u (Err fault) = record { answers = Breaks (listens.Client fault) refl; stays = tt }
read_cut l items u (Ok next) = record { answers = Breaks listens.Cut refl; stays = tt }

read_fails : (l : Line) (items : List (Item Token)) (u : Heard) (refusal : Refusal) (r : Result Heard ClientFault)
    → Both (part_at items (Fails refusal)) Reading (reads l (part_at items (Fails refusal)) false u (heard_by r (λ (next : Heard). Err (listens.Wire refusal))))
read_fails l items u refusal (Err fault) = record { answers = Breaks (listens.Client fault) refl; stays = tt }
read_fails l items u refusal (Ok next) = record { answers = Breaks (listens.Wire refusal) refl; stays = tt }

read_any : (n : ℕ) (h : Heard) (items : List (Item Token)) (close : Close) → AreBehindLogin items → NotAcknowledged h.done
    → Both (part_at items close) Reading (line_turn (line_at n Reading h) (line.Come (part_at items close)))
read_any n h items Goes plain none =
    read_goes (line_at n Reading h) items h (heard_until false h items) (hear_items false h items) none (items_heed false h items plain)
read_any n h items Ends plain none =
    read_ends (line_at n Reading h) items h (heard_until false h items) (hear_items false h items) none (items_heed false h items plain)
read_any n h items Cut plain none = read_cut (line_at n Reading h) items (heard_until false h items) (hear_items false h items)
read_any n h items (Fails refusal) plain none = read_fails (line_at n Reading h) items (heard_until false h items) refusal (hear_items false h items)

-- ---- Behind a cancel

-- a message that goes on has acknowledged nothing
goes_none : (b : Bool) → EndsIf b Goes → b ≡ false
goes_none true ends = let bad : false ≡ true = ends in absurd (let u : ⊥ = cc in u)
goes_none false ends = refl

skip_goes : (l : Line) (items : List (Item Token)) (h u : Heard) (r : Result Heard ClientFault) → is_acknowledged h.done ≡ false → EndsIf (acknowledge items) Goes
    → IfOk r (λ next. Heeds true (acknowledge items) h next) → Both (part_at items Goes) Cancelling (skips {T = Token} l false u (heard_by r (λ next. Ok next)))
skip_goes l items h u (Err fault) none ends is = record { answers = Breaks (listens.Client fault) refl; stays = tt }
skip_goes l items h u (Ok next) none ends is =
    let not : acknowledge items ≡ false = goes_none (acknowledge items) ends in
    record { answers = SkipsOn refl refl not; stays = sym is.done ∙ either (is_acknowledged h.done) (acknowledge items) none not }

skip_done : (l : Line) (items : List (Item Token)) (close : Close) (next : Heard) (done : FinalDone) → is_end close ≡ true → acknowledge items ≡ is_acknowledged done
    → Both (part_at items close) Cancelling (skips_to_end {T = Token} l next done)
skip_done l items close next Awaited ends is = record { answers = SkipsOn refl refl is; stays = refl }
skip_done l items close next Answered ends is = record { answers = SkipsOn refl refl is; stays = refl }
skip_done l items close next Acknowledged ends is = record { answers = SkipsAll l.asked refl refl is ends; stays = refl }

skip_closes : (l : Line) (items : List (Item Token)) (close : Close) (u next : Heard) (b : Bool) → is_end close ≡ true → acknowledge items ≡ is_acknowledged next.done
    → Both (part_at items close) Cancelling (skips {T = Token} l true u (close_by true b next))
skip_closes l items close u next false ends is = record { answers = Breaks (listens.Client NoFinalDone) refl; stays = tt }
skip_closes l items close u next true ends is = skip_done l items close next next.done ends is

skip_ends : (l : Line) (items : List (Item Token)) (close : Close) (h u : Heard) (r : Result Heard ClientFault) → is_end close ≡ true → is_acknowledged h.done ≡ false
    → IfOk r (λ next. Heeds true (acknowledge items) h next)
    → Both (part_at items close) Cancelling (skips {T = Token} l true u (heard_by r (λ next. close_by true (may_end Any true next.done) next)))
skip_ends l items close h u (Err fault) ends none is = record { answers = Breaks (listens.Client fault) refl; stays = tt }
skip_ends l items close h u (Ok next) ends none is =
    skip_closes l items close u next (may_end Any true next.done) ends (ap (λ (b : Bool). b || acknowledge items) (sym none) ∙ is.done)

skip_fails : (l : Line) (items : List (Item Token)) (u : Heard) (refusal : Refusal) (r : Result Heard ClientFault)
    → Both (part_at items (Fails refusal)) Cancelling (skips {T = Token} l false u (heard_by r (λ (next : Heard). Err (listens.Wire refusal))))
skip_fails l items u refusal (Err fault) = record { answers = Breaks (listens.Client fault) refl; stays = tt }
skip_fails l items u refusal (Ok next) = record { answers = Breaks (listens.Wire refusal) refl; stays = tt }

skip_any : (n : ℕ) (h : Heard) (items : List (Item Token)) (close : Close) → AreBehindLogin items → EndsIf (acknowledge items) close → is_acknowledged h.done ≡ false
    → Both (part_at items close) Cancelling (line_turn (line_at n Cancelling h) (line.Come (part_at items close)))
skip_any n h items Goes plain ends none =
    skip_goes (line_at n Cancelling h) items h (heard_until true h items) (hear_items true h items) none ends (items_heed true h items plain)
skip_any n h items Ends plain ends none =
    skip_ends (line_at n Cancelling h) items Ends h (heard_until true h items) (hear_items true h items) refl none (items_heed true h items plain)
skip_any n h items Cut plain ends none =
    skip_ends (line_at n Cancelling h) items Cut h (heard_until true h items) (hear_items true h items) refl none (items_heed true h items plain)
skip_any n h items (Fails refusal) plain ends none = skip_fails (line_at n Cancelling h) items (heard_until true h items) refusal (hear_items true h items)

-- ---- Any line

come_at : (n : ℕ) (s : LineStage) (h : Heard) (items : List (Item Token)) (close : Close) → AreBehindLogin items → EndsIf (acknowledge items) close → Kept s h
    → Both (part_at items close) s (line_turn (line_at n s h) (line.Come (part_at items close)))
come_at n Idle h items close plain ends kept = record { answers = Breaks (listens.Client AnswerInIdle) refl; stays = tt }
come_at n (Sending begun) h items close plain ends kept = record { answers = Breaks (listens.Client AnswerInSending) refl; stays = tt }
come_at n Reading h items close plain ends kept = read_any n h items close plain kept
come_at n Cancelling h items close plain ends kept = skip_any n h items close plain ends kept
come_at n (Broken fault) h items close plain ends kept = record { answers = Breaks (listens.Client fault) refl; stays = tt }

pub heeds : (l : Line) (part : Part Token) → ComesBehindLogin (line.Come part) → Kept l.stage l.heard → Heeded part l.stage (line_turn l (line.Come part)).answer
heeds l part plain kept = (come_at l.asked l.stage l.heard part.items part.close plain.0 plain.1 kept).answers

unacknowledged : (done : FinalDone) → NotAcknowledged done → is_acknowledged done ≡ false
unacknowledged Awaited none = refl
unacknowledged Answered none = refl
unacknowledged Acknowledged none = absurd none

act_stays : (n : ℕ) (s : LineStage) (h : Heard) (act : Act Token) → ComesBehindLogin act → Kept s h → Stays (line_turn (line_at n s h) act).line
act_stays n Idle h (line.Mark reset) plain kept = kept
act_stays n (Sending begun) h (line.Mark reset) plain kept = kept
act_stays n Reading h (line.Mark reset) plain kept = kept
act_stays n Cancelling h (line.Mark reset) plain kept = kept
act_stays n (Broken fault) h (line.Mark reset) plain kept = tt
act_stays n Idle h line.Ask plain kept = kept
act_stays n (Sending begun) h line.Ask plain kept = kept
act_stays n Reading h line.Ask plain kept = kept
act_stays n Cancelling h line.Ask plain kept = kept
act_stays n (Broken fault) h line.Ask plain kept = tt
act_stays n Idle h (line.Send last) plain kept = kept
act_stays n (Sending begun) h (line.Send false) plain kept = kept
act_stays n (Sending begun) h (line.Send true) plain kept = subst NotAcknowledged (sym kept) tt
act_stays n Reading h (line.Send last) plain kept = kept
act_stays n Cancelling h (line.Send last) plain kept = kept
act_stays n (Broken fault) h (line.Send last) plain kept = tt
act_stays n Idle h line.Cancel plain kept = kept
act_stays n (Sending false) h line.Cancel plain kept = kept
act_stays n (Sending true) h line.Cancel plain kept = ap is_acknowledged kept
act_stays n Reading h line.Cancel plain kept = unacknowledged h.done kept
act_stays n Cancelling h line.Cancel plain kept = kept
act_stays n (Broken fault) h line.Cancel plain kept = tt
act_stays n s h (line.Come part) plain kept = (come_at n s h part.items part.close plain.0 plain.1 kept).stays
act_stays n Idle h line.Lose plain kept = tt
act_stays n (Sending begun) h line.Lose plain kept = tt
act_stays n Reading h line.Lose plain kept = tt
act_stays n Cancelling h line.Lose plain kept = tt
act_stays n (Broken fault) h line.Lose plain kept = tt

pub all_stay : (l : Line) (acts : List (Act Token)) → AllBehindLogin acts → Kept l.stage l.heard → Kept (line_after l acts).stage (line_after l acts).heard
all_stay l [] plain kept = kept
all_stay l (act ∷ acts) plain kept = all_stay (line_turn l act).line acts plain.1 (act_stays l.asked l.stage l.heard act plain.0 kept)
