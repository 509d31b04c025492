-- What is seen where a packet is handed to an application, and where its end is then.
use Rattle.std.proofs.Common.{◌≡◌, ◌∙◌, ◌+◌, ◌&&◌, ◌||◌, not, ℕ, zero, suc, Bool, true, false, List, refl, sym, ap, subst}
use Rattle.std.specs.Prelude.{Option, Some, None, is_some, if◌then◌else◌}
use Rattle.tds_packet.specs.declared.status.Reset.{Reset}
use Rattle.tds_wire.specs.declared.told.Token.{Token}
use Rattle.tds_front.specs.declared.front.Front.{Front}
use Rattle.tds_front.specs.declared.stage.Stage.{Stage}
use Rattle.tds_front.specs.declared.stage.Stage.TheVariants as stages
use Rattle.tds_front.specs.Rules as rules
use Rattle.tds_front.specs.Serving as serving
use Rattle.tds_listen.specs.declared.fault.ListenFault.{ListenFault}
use Rattle.tds_service.specs.Parts.{Item, Close, Goes, Ends, Cut, Fails, Part, is_end}
use Rattle.tds_service.specs.Line as line
use Rattle.tds_service.specs.Line.{Answer}
use Rattle.tds_relay.specs.declared.pool.coming.What.{What}
use Rattle.tds_relay.specs.declared.pool.coming.What.TheVariants as whats
use Rattle.tds_relay.specs.Core.{Open, end_told, what_of}
use Rattle.tds_relay.specs.Machine.{IsHanded, IsTold, Manner, Whole, Without, Withheld, hears_of_reset, is_said, news_in}
use Rattle.tds_relay.specs.Promises.{one_if}
use Rattle.tds_relay.proofs.ends.Tying.{Tied}
use Rattle.tds_judge.specs.declared.talk.Event.TheVariants as events
use Rattle.tds_judge.specs.declared.talk.Reset.{Reset as Asks}
use Rattle.tds_judge.specs.declared.talk.Reset.TheVariants as resets
use Rattle.tds_judge.specs.Conversation.{MayAnswer, MayEnd, Place, Asking, Answering, Quiet, Skipping, Stopping, begun_at, ended_at, place_of}
use Rattle.tds_judge.specs.History.{Said, is_forgotten}
use Rattle.laws_never_blamed.specs.Seen.{AreBehindLogin, Eye, acknowledge, sees, sees_begin, sees_items, sees_packet}
use Rattle.laws_never_blamed.specs.Relayed.{EndsFinally, Side, goes_on_behind, sees_handed, sees_news, sees_told, own_news}
use Rattle.laws_never_blamed.proofs.Hears.{as_reset}
use Rattle.laws_never_blamed.proofs.Heeding.{Heeded, Breaks, ReadsOn, ReadsAll, SkipsOn, SkipsAll}
use Rattle.laws_never_blamed.proofs.Sides.{Answered, Fine, Skipped, fine_answer, fine_answered, fine_packet, items_answer, items_skip, left_acknowledges, left_all, left_behind, news_left, none_left, says_answer, says_skip}
use Rattle.laws_never_blamed.proofs.Taken.{AtStage, Now}
use Rattle.laws_never_blamed.proofs.Fed.{NowEnd}

-- ---- An answer begins, or goes on

packet_place : (eye : Eye) (past : List Said) → place_of (sees_packet eye past) ≡ place_of past
unfolding place_of
packet_place eye past = refl

packet_fine : (eye : Eye) (past : List Said) → Fine past → Fine (sees_packet eye past)
packet_fine eye past f = fine_packet eye past (eye.length past) (eye.fills past) f

answer_place : (eye : Eye) (past : List Said) → place_of (sees eye past events.Answer) ≡ begun_at (place_of past)
unfolding place_of
answer_place eye past = refl

goes_on_at : (eye : Eye) (past : List Said) (reset : Asks) → Answered reset past → Answered reset (sees_packet eye past)
goes_on_at eye past reset a = record { fine = packet_fine eye past a.fine; at = record { final = a.at.final; place = packet_place eye past ∙ a.at.place } }

-- what is still to be told then
abbrev first_of : Bool → Option Reset → Asks
first_of true asks = resets.None
first_of false asks = as_reset asks

reads_at : (eye : Eye) (begun : Bool) (asks : Option Reset) (past : List Said) → Now (stages.Underway true) asks begun past → Answered (first_of begun asks) (sees_begin eye begun (sees_packet eye past))
reads_at eye true asks past now = goes_on_at eye past resets.None (record { fine = now.fine; at = now.at.1 })
reads_at eye false asks past now =
    let here : place_of (sees_packet eye past) ≡ Asking (as_reset asks) = packet_place eye past ∙ now.at in
    record {
      fine = fine_answer eye (sees_packet eye past) (subst (MayAnswer (is_forgotten (sees_packet eye past))) (sym here) tt) (packet_fine eye past now.fine);
      at = record { final = false; place = answer_place eye (sees_packet eye past) ∙ ap begun_at here };
    }

skips_at : (eye : Eye) (begun : Bool) (asks : Option Reset) (past : List Said) → Now stages.Stopping asks begun past → Skipped false (sees_begin eye begun (sees_packet eye past))
skips_at eye true asks past now = record { fine = packet_fine eye past now.fine; place = packet_place eye past ∙ now.at }
skips_at eye false asks past now =
    let here : place_of (sees_packet eye past) ≡ Stopping = packet_place eye past ∙ now.at in
    record {
      fine = fine_answer eye (sees_packet eye past) (subst (MayAnswer (is_forgotten (sees_packet eye past))) (sym here) tt) (packet_fine eye past now.fine);
      place = answer_place eye (sees_packet eye past) ∙ ap begun_at here;
    }

-- ---- The relay's news before it

abbrev told_first : Bool → Bool → Option Reset → Asks
told_first true begun asks = resets.None
told_first false begun asks = first_of begun asks

told_reads : (s : Side) (begun tells : Bool) (asks : Option Reset) (past : List Said) → Now (stages.Underway true) asks begun past
    → Answered (told_first tells begun asks) (sees_begin s.eye (tells || begun) (sees_packet s.eye (sees_news s begun past tells)))
told_reads s begun false asks past now = reads_at s.eye begun asks past now
told_reads s begun true asks past now =
    let at = sees_begin s.eye begun (sees_packet s.eye past) in
    goes_on_at s.eye (sees s.eye at (events.Says own_news)) resets.None
    (says_answer s.eye at (first_of begun asks) own_news refl (λ none. none) (reads_at s.eye begun asks past now))

told_skips : (s : Side) (begun tells : Bool) (asks : Option Reset) (past : List Said) → Now stages.Stopping asks begun past
    → Skipped false (sees_begin s.eye (tells || begun) (sees_packet s.eye (sees_news s begun past tells)))
told_skips s begun false asks past now = skips_at s.eye begun asks past now
told_skips s begun true asks past now =
    let at = sees_begin s.eye begun (sees_packet s.eye past) in
    let told = says_skip s.eye at own_news refl (λ none. none) (skips_at s.eye begun asks past now) in
    let last = sees s.eye at (events.Says own_news) in
    record { fine = packet_fine s.eye last told.fine; place = packet_place s.eye last ∙ told.place }

-- ---- Nothing of a reset is left to be told

abbrev IsLeft : Bool → Bool → Option Reset → List (Item Token) → Type 0
IsLeft tells begun asks items = left_all items (told_first tells begun asks) ≡ resets.None

one_not : (n : ℕ) → n ≡ 1 → n ≡ 0 → ⊥
one_not n e f = let u : suc zero ≡ zero = sym e ∙ f in let v : ⊥ = cc in v

-- as it came
left_whole : (owed tells begun : Bool) (asks : Option Reset) (past : List Said) (items : List (Item Token)) (close : Close) → AtStage (stages.Underway true) asks begun past → AreBehindLogin items
    → IsTold owed (is_some asks && true) (Whole tells) (record { items = items; close = close }) → IsLeft tells begun asks items
left_whole owed true begun asks past items close at plain told = none_left items
left_whole owed false true asks past items close at plain told = none_left items
left_whole owed false false None past items close at plain told = none_left items
left_whole owed false false (Some reset) past items close at plain told = news_left owed items (as_reset (Some reset)) plain (λ none. one_not (one_if false + news_in owed items) told (ap (λ (n : ℕ). one_if false + n) none))

-- without some of it
left_without : (owed tells begun : Bool) (asks : Option Reset) (past : List Said) (bytes : List ℕ) (items : List (Item Token)) (part : Part Token) → AtStage (stages.Underway true) asks begun past
    → IsTold owed (is_some asks && true) (Without tells bytes) part → IsLeft tells begun asks items
left_without owed true begun asks past bytes items part at told = none_left items
left_without owed false true asks past bytes items part at told = none_left items
left_without owed false false None past bytes items part at told = none_left items
left_without owed false false (Some reset) past bytes items part at told = absurd (let u : 0 ≡ 1 = told in let v : ⊥ = cc in v)

-- ---- Behind its tokens

abbrev goes_or_ends : Close → Bool
goes_or_ends close = if is_end close then false else true

-- of an answer that is read
read_seen : (s : Side) (begun tells : Bool) (asks : Option Reset) (past : List Said) (items : List (Item Token)) (close : Close) → Now (stages.Underway true) asks begun past → AreBehindLogin items
    → acknowledge items ≡ false → IsLeft tells begun asks items
    → Answered resets.None (sees_items s.eye (sees_begin s.eye (tells || begun) (sees_packet s.eye (sees_news s begun past tells))) items)
read_seen s begun tells asks past items close now plain not none =
    let at = sees_begin s.eye (tells || begun) (sees_packet s.eye (sees_news s begun past tells)) in
    subst (λ (r : Asks). Answered r (sees_items s.eye at items)) none
    (items_answer s.eye at (told_first tells begun asks) items plain not (told_reads s begun tells asks past now))

quiet_behind : (eye : Eye) (past : List Said) (whole : Bool) (p : Place) → place_of past ≡ p → ended_at p ≡ Quiet → place_of (sees eye past (events.Answered whole)) ≡ Quiet
unfolding place_of
quiet_behind eye past whole p e f = ap ended_at e ∙ f

stopping_behind : (eye : Eye) (past : List Said) (whole : Bool) → place_of past ≡ Skipping false → place_of (sees eye past (events.Answered whole)) ≡ Stopping
unfolding place_of
stopping_behind eye past whole e = ap ended_at e

final_ends : (final : Bool) → final ≡ true → MayEnd (Answering resets.None final) true
final_ends final e = subst (λ (b : Bool). MayEnd (Answering resets.None b) true) (sym e) tt

answer_ends : (eye : Eye) (past : List Said) → Answered resets.None past → Fine (sees eye past (events.Answered true)) × (place_of (sees eye past (events.Answered true)) ≡ Quiet)
answer_ends eye past a = (
  fine_answered eye past true
      (λ final. subst (λ (p : Place). MayEnd p true) (sym a.at.place) (final_ends a.at.final (subst EndsFinally a.at.place final))) a.fine,
  quiet_behind eye past true (Answering resets.None a.at.final) a.at.place refl,
)

skip_ends : (eye : Eye) (past : List Said) (acknowledged whole : Bool) → Skipped acknowledged past → Fine (sees eye past (events.Answered whole))
skip_ends eye past acknowledged whole a = fine_answered eye past whole (λ final. subst (λ (p : Place). MayEnd p whole) (sym a.place) tt) a.fine

-- ---- By the close of its part

abbrev Read : Side → Front → Option Reset → Bool → Bool → List Said → List (Item Token) → Close → What → Type 0
Read s front asks begun tells past items close what =
    NowEnd (Some (end_told what (Open front false asks))) (goes_or_ends close) (sees_told s begun past tells (record { items = items; close = close }))

read_goes : (s : Side) (front : Front) (asks : Option Reset) (begun tells : Bool) (past : List Said) (items : List (Item Token)) → front.stage ≡ stages.Underway true → Now (stages.Underway true) asks begun past
    → AreBehindLogin items → acknowledge items ≡ false → IsLeft tells begun asks items → Read s front asks begun tells past items Goes whats.Goes
read_goes s front asks begun tells past items e now plain not none =
    let a = read_seen s begun tells asks past items Goes now plain not none in
    let last = sees_items s.eye (sees_begin s.eye (tells || begun) (sees_packet s.eye (sees_news s begun past tells))) items in
    record { fine = a.fine; at = subst (λ (x : Stage). AtStage x None true last) (sym e) (refl, a.at) }

read_ends : (s : Side) (front : Front) (asks : Option Reset) (begun tells : Bool) (past : List Said) (items : List (Item Token)) → front.stage ≡ stages.Underway true → Now (stages.Underway true) asks begun past
    → AreBehindLogin items → acknowledge items ≡ false → IsLeft tells begun asks items → Read s front asks begun tells past items Ends whats.Finished
read_ends s front asks begun tells past items e now plain not none =
    let a = read_seen s begun tells asks past items Ends now plain not none in
    let last = sees_items s.eye (sees_begin s.eye (tells || begun) (sees_packet s.eye (sees_news s begun past tells))) items in
    let both = answer_ends s.eye last a in
    record { fine = both.0; at = subst (λ (x : Stage). AtStage (rules.answered x) None false (sees s.eye last (events.Answered true))) (sym e) (refl, both.1) }

skip_seen : (s : Side) (begun tells : Bool) (asks : Option Reset) (past : List Said) (items : List (Item Token)) → Now stages.Stopping asks begun past → AreBehindLogin items
    → Skipped (acknowledge items) (sees_items s.eye (sees_begin s.eye (tells || begun) (sees_packet s.eye (sees_news s begun past tells))) items)
skip_seen s begun tells asks past items now plain =
    items_skip s.eye (sees_begin s.eye (tells || begun) (sees_packet s.eye (sees_news s begun past tells))) items plain (told_skips s begun tells asks past now)

skip_on_by : (s : Side) (front : Front) (asks : Option Reset) (begun tells : Bool) (past : List Said) (items : List (Item Token)) (close : Close) → front.stage ≡ stages.Stopping
    → Skipped false (sees_items s.eye (sees_begin s.eye (tells || begun) (sees_packet s.eye (sees_news s begun past tells))) items)
    → Read s front asks begun tells past items close whats.Goes
skip_on_by s front asks begun tells past items Goes e a =
    let last = sees_items s.eye (sees_begin s.eye (tells || begun) (sees_packet s.eye (sees_news s begun past tells))) items in
    record { fine = a.fine; at = subst (λ (x : Stage). AtStage x None true last) (sym e) a.place }
skip_on_by s front asks begun tells past items (Fails refusal) e a =
    let last = sees_items s.eye (sees_begin s.eye (tells || begun) (sees_packet s.eye (sees_news s begun past tells))) items in
    record { fine = a.fine; at = subst (λ (x : Stage). AtStage x None true last) (sym e) a.place }
skip_on_by s front asks begun tells past items Ends e a =
    let last = sees_items s.eye (sees_begin s.eye (tells || begun) (sees_packet s.eye (sees_news s begun past tells))) items in
    record {
      fine = skip_ends s.eye last false true a;
      at = subst (λ (x : Stage). AtStage x None false (sees s.eye last (events.Answered true))) (sym e) (stopping_behind s.eye last true a.place);
    }
skip_on_by s front asks begun tells past items Cut e a =
    let last = sees_items s.eye (sees_begin s.eye (tells || begun) (sees_packet s.eye (sees_news s begun past tells))) items in
    record {
      fine = skip_ends s.eye last false false a;
      at = subst (λ (x : Stage). AtStage x None false (sees s.eye last (events.Answered false))) (sym e) (stopping_behind s.eye last false a.place);
    }

skip_on : (s : Side) (front : Front) (asks : Option Reset) (begun tells : Bool) (past : List Said) (items : List (Item Token)) (close : Close) → front.stage ≡ stages.Stopping → Now stages.Stopping asks begun past
    → AreBehindLogin items → acknowledge items ≡ false → Read s front asks begun tells past items close whats.Goes
skip_on s front asks begun tells past items close e now plain not =
    skip_on_by s front asks begun tells past items close e
    (subst (λ (b : Bool). Skipped b (sees_items s.eye (sees_begin s.eye (tells || begun) (sees_packet s.eye (sees_news s begun past tells))) items)) not (skip_seen s begun tells asks past items now plain))

skip_all_by : (s : Side) (front : Front) (asks : Option Reset) (begun tells : Bool) (past : List Said) (items : List (Item Token)) (close : Close) → front.stage ≡ stages.Stopping → is_end close ≡ true
    → Skipped true (sees_items s.eye (sees_begin s.eye (tells || begun) (sees_packet s.eye (sees_news s begun past tells))) items)
    → Read s front asks begun tells past items close whats.Acknowledged
skip_all_by s front asks begun tells past items Goes e ends a = absurd (let u : ⊥ = cc in u)
skip_all_by s front asks begun tells past items (Fails refusal) e ends a = absurd (let u : ⊥ = cc in u)
skip_all_by s front asks begun tells past items Ends e ends a =
    let last = sees_items s.eye (sees_begin s.eye (tells || begun) (sees_packet s.eye (sees_news s begun past tells))) items in
    record {
      fine = skip_ends s.eye last true true a;
      at = subst (λ (x : Stage). AtStage (rules.acknowledged x) None false (sees s.eye last (events.Answered true))) (sym e) (refl, quiet_behind s.eye last true (Skipping true) a.place refl);
    }
skip_all_by s front asks begun tells past items Cut e ends a =
    let last = sees_items s.eye (sees_begin s.eye (tells || begun) (sees_packet s.eye (sees_news s begun past tells))) items in
    record {
      fine = skip_ends s.eye last true false a;
      at = subst (λ (x : Stage). AtStage (rules.acknowledged x) None false (sees s.eye last (events.Answered false))) (sym e) (refl, quiet_behind s.eye last false (Skipping true) a.place refl);
    }

skip_all : (s : Side) (front : Front) (asks : Option Reset) (begun tells : Bool) (past : List Said) (items : List (Item Token)) (close : Close) → front.stage ≡ stages.Stopping → Now stages.Stopping asks begun past
    → AreBehindLogin items → acknowledge items ≡ true → is_end close ≡ true → Read s front asks begun tells past items close whats.Acknowledged
skip_all s front asks begun tells past items close e now plain told ends =
    skip_all_by s front asks begun tells past items close e ends
    (subst (λ (b : Bool). Skipped b (sees_items s.eye (sees_begin s.eye (tells || begun) (sees_packet s.eye (sees_news s begun past tells))) items)) told (skip_seen s begun tells asks past items now plain))

-- ---- A packet that comes

abbrev pub Handed : Side → Front → Bool → Option Reset → Bool → Bool → List Said → Part Token → Manner → Answer → Type 0
Handed s front w asks owed begun past part manner answer =
    IsHanded (is_said (what_of answer) (Some (Open front w asks))) manner → IsTold owed (hears_of_reset (what_of answer) (Some (Open front w asks))) manner part
    → NowEnd (Some (end_told (what_of answer) (Open front w asks))) (goes_on_behind begun manner part) (sees_handed s begun past manner part)

stage_now : (front : Front) (asks : Option Reset) (begun : Bool) (past : List Said) (stage : Stage) → front.stage ≡ stage → Now front.stage asks begun past → Now stage asks begun past
stage_now front asks begun past stage e now = subst (λ (x : Stage). Now x asks begun past) e now

-- withheld from one that is to be closed by it, or that has taken its request back
over_handed : (s : Side) (front : Front) (w : Bool) (asks : Option Reset) (begun : Bool) (past : List Said) (part : Part Token) (manner : Manner) → Now front.stage asks begun past → manner ≡ Withheld
    → NowEnd (Some (end_told whats.Closed (Open front w asks))) (goes_on_behind begun manner part) (sees_handed s begun past manner part)
over_handed s front w asks begun past part manner now e =
    subst (λ (m : Manner). NowEnd (Some (end_told whats.Closed (Open front w asks))) (goes_on_behind begun m part) (sees_handed s begun past m part)) (sym e) (record { fine = now.fine; at = tt })

kept_handed : (s : Side) (front : Front) (w : Bool) (asks : Option Reset) (begun : Bool) (past : List Said) (part : Part Token) (manner : Manner) → Now front.stage asks begun past → manner ≡ Withheld
    → NowEnd (Some (Open front w asks)) (goes_on_behind begun manner part) (sees_handed s begun past manner part)
kept_handed s front w asks begun past part manner now e =
    subst (λ (m : Manner). NowEnd (Some (Open front w asks)) (goes_on_behind begun m part) (sees_handed s begun past m part)) (sym e) (record { fine = now.fine; at = now.at })

pub closed_seen : (s : Side) (front : Front) (w : Bool) (asks : Option Reset) (owed begun : Bool) (past : List Said) (part : Part Token) (manner : Manner) (fault : ListenFault) → Now front.stage asks begun past
    → Handed s front w asks owed begun past part manner (line.Fault fault)
closed_seen s front true asks owed begun past part manner fault now on told = over_handed s front true asks begun past part manner now on
closed_seen s front false asks owed begun past part manner fault now on told = over_handed s front false asks begun past part manner now on

module _ (s : Side) (front : Front) (asks : Option Reset) (owed begun : Bool) (past : List Said) (items : List (Item Token)) (close : Close) (plain : AreBehindLogin items) where
  abbrev Came : Part Token
  Came = record { items = items; close = close }

  abbrev left : List (Item Token)
  left = s.leaves past items

  left_plain : AreBehindLogin left
  left_plain = left_behind items left (s.news_only past items) plain

  left_says : (b : Bool) → acknowledge items ≡ b → acknowledge left ≡ b
  left_says b e = left_acknowledges items left (s.news_only past items) plain ∙ e

  reads_on : (manner : Manner) → front.stage ≡ stages.Underway true → Now front.stage asks begun past → acknowledge items ≡ false → close ≡ Goes → Handed s front false asks owed begun past Came manner line.More
  reads_on (Whole tells) e now not goes on told =
      let there = stage_now front asks begun past (stages.Underway true) e now in
      subst (λ (c : Close). Read s front asks begun tells past items c whats.Goes) (sym goes)
      (read_goes s front asks begun tells past items e there plain not (left_whole owed tells begun asks past items close there.at plain told))
  reads_on (Without tells bytes) e now not goes on told =
      let there = stage_now front asks begun past (stages.Underway true) e now in
      subst (λ (c : Close). Read s front asks begun tells past left c whats.Goes) (sym goes)
      (read_goes s front asks begun tells past left e there left_plain (left_says false not) (left_without owed tells begun asks past bytes left Came there.at told))
  reads_on Withheld e now not goes on told = absurd on

  reads_all : (request : ℕ) (manner : Manner) → front.stage ≡ stages.Underway true → Now front.stage asks begun past → acknowledge items ≡ false → close ≡ Ends
      → Handed s front false asks owed begun past Came manner (line.Finished request)
  reads_all request (Whole tells) e now not ends on told =
      let there = stage_now front asks begun past (stages.Underway true) e now in
      subst (λ (c : Close). Read s front asks begun tells past items c whats.Finished) (sym ends)
      (read_ends s front asks begun tells past items e there plain not (left_whole owed tells begun asks past items close there.at plain told))
  reads_all request (Without tells bytes) e now not ends on told =
      let there = stage_now front asks begun past (stages.Underway true) e now in
      subst (λ (c : Close). Read s front asks begun tells past left c whats.Finished) (sym ends)
      (read_ends s front asks begun tells past left e there left_plain (left_says false not) (left_without owed tells begun asks past bytes left Came there.at told))
  reads_all request Withheld e now not ends on told = absurd on

  skips_on : (manner : Manner) → front.stage ≡ stages.Stopping → Now front.stage asks begun past → acknowledge items ≡ false → Handed s front false asks owed begun past Came manner line.More
  skips_on (Whole tells) e now not on told = skip_on s front asks begun tells past items close e (stage_now front asks begun past stages.Stopping e now) plain not
  skips_on (Without tells bytes) e now not on told = skip_on s front asks begun tells past left close e (stage_now front asks begun past stages.Stopping e now) left_plain (left_says false not)
  skips_on Withheld e now not on told = absurd on

  skips_all : (request : ℕ) (manner : Manner) → front.stage ≡ stages.Stopping → Now front.stage asks begun past → acknowledge items ≡ true → is_end close ≡ true
      → Handed s front false asks owed begun past Came manner (line.Acked request)
  skips_all request (Whole tells) e now told_it ends on told = skip_all s front asks begun tells past items close e (stage_now front asks begun past stages.Stopping e now) plain told_it ends
  skips_all request (Without tells bytes) e now told_it ends on told =
      skip_all s front asks begun tells past left close e (stage_now front asks begun past stages.Stopping e now) left_plain (left_says true told_it) ends
  skips_all request Withheld e now told_it ends on told = absurd on

  -- where its line reads an answer, or skips one
  reading : (p : serving.ServerIsAt) (out : Bool) (l : line.LineStage) → Tied front.stage false p l out → l ≡ line.Reading → front.stage ≡ stages.Underway true
  reading p out l tied is = let t : Tied front.stage false p line.Reading out = subst (λ (x : line.LineStage). Tied front.stage false p x out) is tied in t.0

  skipping : (p : serving.ServerIsAt) (out : Bool) (l : line.LineStage) → Tied front.stage false p l out → l ≡ line.Cancelling → front.stage ≡ stages.Stopping
  skipping p out l tied is = let t : Tied front.stage false p line.Cancelling out = subst (λ (x : line.LineStage). Tied front.stage false p x out) is tied in t.0

  never_reads : (p : serving.ServerIsAt) (out : Bool) (l : line.LineStage) → Tied front.stage true p l out → l ≡ line.Reading → ⊥
  never_reads p out l tied is = let e : line.Reading ≡ line.Cancelling = sym is ∙ tied.0 in let u : ⊥ = cc in u

  abbrev Brings : Bool → Manner → Answer → Type 0
  Brings w manner answer = Handed s front w asks owed begun past Came manner answer

  pub handed_seen : (w : Bool) (p : serving.ServerIsAt) (out : Bool) (l : line.LineStage) (answer : Answer) (manner : Manner) → Tied front.stage w p l out → Heeded Came l answer → Now front.stage asks begun past
      → Handed s front w asks owed begun past Came manner answer
  handed_seen w p out l answer manner tied (Breaks fault a) now =
      subst (Brings w manner) (sym a) (closed_seen s front w asks owed begun past Came manner fault now)
  handed_seen true p out l answer manner tied (ReadsOn is a not goes) now = absurd (never_reads p out l tied is)
  handed_seen true p out l answer manner tied (ReadsAll request is a not ends) now = absurd (never_reads p out l tied is)
  handed_seen true p out l answer manner tied (SkipsOn is a not) now =
      subst (Brings true manner) (sym a) (λ on told. kept_handed s front true asks begun past Came manner now on)
  handed_seen true p out l answer manner tied (SkipsAll request is a told_it ends) now =
      subst (Brings true manner) (sym a) (λ on told. kept_handed s front false asks begun past Came manner now on)
  handed_seen false p out l answer manner tied (ReadsOn is a not goes) now =
      subst (Brings false manner) (sym a) (reads_on manner (reading p out l tied is) now not goes)
  handed_seen false p out l answer manner tied (ReadsAll request is a not ends) now =
      subst (Brings false manner) (sym a) (reads_all request manner (reading p out l tied is) now not ends)
  handed_seen false p out l answer manner tied (SkipsOn is a not) now =
      subst (Brings false manner) (sym a) (skips_on manner (skipping p out l tied is) now not)
  handed_seen false p out l answer manner tied (SkipsAll request is a told_it ends) now =
      subst (Brings false manner) (sym a) (skips_all request manner (skipping p out l tied is) now told_it ends)
