-- What is on its way and due, one thing behind the other, is heard.
use Rattle.std.proofs.Common.{◌≡◌, ◌∙◌, ◌||◌, Bool, true, false, List, [], ◌∷◌, ◌++◌, refl, sym, ap, subst}
use Rattle.std.specs.Prelude.{Option, Some, Result, Ok}
use Rattle.tds_packet.specs.declared.status.Reset.{Reset}
use Rattle.tds_client.specs.declared.fault.ClientFault.{ClientFault}
use Rattle.tds_client.specs.declared.heard.Heard.{Heard}
use Rattle.tds_client.specs.declared.heard.FinalDone.{FinalDone}
use Rattle.tds_client.specs.declared.sign.Sign.{Sign}
use Rattle.tds_client.specs.declared.sign.Sign.TheVariants as signs
use Rattle.tds_client.specs.Acts.{is_acknowledgement}
use Rattle.tds_client.specs.Hearing.{◌>>=◌}
use Rattle.tds_service.specs.Parts.{Item, Close, hear_items, items_told, told_by}
use Rattle.laws_conforming_server.specs.Lawful.{Session, ServerStep, Says, Ends, Breaks, IsAnswer, IsStop, final_by, reset_left, told_of}
use Rattle.laws_conforming_server.specs.Starting.{owed_by_step}
use Rattle.laws_conforming_server.specs.Link.{IsEnd, IsNext, without, without_end, session_behind}
use Rattle.laws_conforming_server.proofs.Hears.{heard, placed, leads_placed, leads_out_placed, done_of, done_sign, acknowledged, reading_heard, cancelling_heard, acknowledged_by}

abbrev pub behind : {V T : Type 0} → Session V → List (ServerStep V T) → Session V
behind s [] = s
behind s (step ∷ steps) = behind (session_behind s step) steps

-- The reset that is still to be done behind these.
abbrev pub marks : {V T : Type 0} → Option Reset → List (ServerStep V T) → Option Reset
marks mark [] = mark
marks mark (step ∷ steps) = marks (owed_by_step mark step) steps

told_by_append : {T : Type 0} (sign : Sign) (token : T) (xs ys : List T) → told_by sign token (xs ++ ys) ≡ told_by sign token xs ++ ys
told_by_append signs.Nothing token xs ys = refl
told_by_append (signs.Change change) token xs ys = refl
told_by_append (signs.Done kind status) token xs ys = refl

abbrev pub then_items : {T : Type 0} → Bool → List (Item T) → Result Heard ClientFault → Result Heard ClientFault
then_items cancelling items r = r >>= λ next. hear_items cancelling next items

-- ---- An answer that is read

-- Its tokens are heard up to a part's end; what is left is still an answer.
pub record ReadTo {V T : Type 0} (settings : V) (mark : Option Reset) (s : Session V) (final : Bool) (items : List (Item T)) (close : Close) (down due : List (ServerStep V T)) : Type 0 where
  pub now : Session V
  pub left_mark : Option Reset
  pub now_final : Bool
  pub middle : List (ServerStep V T)
  pub hears : hear_items false (heard s mark (done_of final)) items ≡ Ok (heard now left_mark (done_of now_final))
  pub answer : IsAnswer settings left_mark now now_final (middle ++ due)
  pub end : IsEnd close middle
  pub left : without items close down ≡ without_end close middle
  pub session : behind s down ≡ behind now middle
  pub owes : marks mark down ≡ marks left_mark middle
  pub tells : told_of (down ++ due) ≡ items_told items ++ told_of (middle ++ due)

read_more : {V T : Type 0} (settings : V) (mark : Option Reset) (s : Session V) (final : Bool) (item : Item T) (items : List (Item T)) (close : Close) (after : Session V) (down due : List (ServerStep V T))
    → (placed mark s.transaction item.sign ≡ Some after.transaction) → (is_acknowledgement item.sign ≡ false)
    → ReadTo settings (reset_left mark item.sign) after (final_by final item.sign) items close down due
    → ReadTo settings mark s final (item ∷ items) close (Says item after ∷ down) due
read_more settings mark s final item items close after down due p q ih = record {
  now = ih.now;
  left_mark = ih.left_mark;
  now_final = ih.now_final;
  middle = ih.middle;
  hears = ap (then_items false items) (reading_heard s after mark final item.sign p q) ∙ ih.hears;
  answer = ih.answer;
  end = ih.end;
  left = ih.left;
  session = ih.session;
  owes = ih.owes;
  tells = ap (told_by item.sign item.token) ih.tells ∙ told_by_append item.sign item.token (items_told items) (told_of (ih.middle ++ due));
}

pub reads_to : {V T : Type 0} (settings : V) (mark : Option Reset) (s : Session V) (final : Bool) (items : List (Item T)) (close : Close) (down due : List (ServerStep V T))
    → IsAnswer settings mark s final (down ++ due) → IsNext items close down → ReadTo settings mark s final items close down due
reads_to settings mark s final [] close down due a n = record {
  now = s;
  left_mark = mark;
  now_final = final;
  middle = down;
  hears = refl;
  answer = a;
  end = n;
  left = refl;
  session = refl;
  owes = refl;
  tells = refl;
}
reads_to settings mark s final (item ∷ items) close [] due a n = absurd n
reads_to settings mark s final (item ∷ items) close (Ends ∷ down) due a n = absurd n
reads_to settings mark s final (item ∷ items) close (Breaks ∷ down) due a n = absurd n
reads_to {V} {T} settings mark s final (item ∷ items) close (Says said after ∷ down) due a n =
    subst (λ (it : Item T). ReadTo settings mark s final (it ∷ items) close (Says said after ∷ down) due) (sym n.0)
    (read_more settings mark s final said items close after down due (leads_placed settings mark s said.sign after a.0) a.1
    (reads_to settings (reset_left mark said.sign) after (final_by final said.sign) items close down due a.2 n.1))

-- ---- What comes behind a cancel

-- Until the attention is taken there is no acknowledgement; behind it the last message that comes has it.
abbrev pub Quietly : Bool → Sign → Type 0
Quietly true sign = Unit {0}
Quietly false sign = is_acknowledgement sign ≡ false

abbrev pub SettledBy : {V T : Type 0} → (stopped acked : Bool) → List (ServerStep V T) → Type 0 → Type 0
SettledBy true true steps others = steps ≡ []
SettledBy false true steps others = ⊥
SettledBy stopped false steps others = others

abbrev pub Cancels : {V T : Type 0} → (stopped : Bool) → Option Reset → Session V → (acked : Bool) → List (ServerStep V T) → Type 0
Cancels true mark s acked [] = ⊥
Cancels false mark s acked [] = acked ≡ false
Cancels stopped mark s acked (Says item after ∷ steps) =
    (placed mark s.transaction item.sign ≡ Some after.transaction) × Quietly stopped item.sign
    × Cancels stopped (reset_left mark item.sign) after (acked || is_acknowledgement item.sign) steps
Cancels stopped mark s acked (Ends ∷ steps) = SettledBy stopped acked steps (Cancels stopped mark s false steps)
Cancels stopped mark s acked (Breaks ∷ steps) = SettledBy stopped acked steps (Cancels stopped mark s false steps)

pub answer_cancels : {V T : Type 0} (settings : V) (mark : Option Reset) (s : Session V) (final : Bool) (steps : List (ServerStep V T))
    → IsAnswer settings mark s final steps → Cancels false mark s false steps
answer_cancels settings mark s final [] a = absurd a
answer_cancels settings mark s final (Says item after ∷ steps) a = (
  leads_placed settings mark s item.sign after a.0,
  a.1,
  subst (λ (b : Bool). Cancels false (reset_left mark item.sign) after (false || b) steps) (sym a.1)
      (answer_cancels settings (reset_left mark item.sign) after (final_by final item.sign) steps a.2),
)
answer_cancels {V} {T} settings mark s final (Ends ∷ steps) a = subst (λ (ts : List (ServerStep V T)). Cancels false mark s false ts) (sym a.2) refl
answer_cancels settings mark s final (Breaks ∷ steps) a = absurd a

-- ---- The attention is taken

pub stop_cancels : {V T : Type 0} (mark : Option Reset) (s : Session V) (acked : Bool) (steps : List (ServerStep V T))
    → IsStop s acked steps → Cancels true mark s acked steps
stop_cancels mark s acked [] a = absurd a
stop_cancels mark s acked (Says item after ∷ steps) a = (
  leads_out_placed mark s item.sign after a.0,
  tt,
  stop_cancels (reset_left mark item.sign) after (acked || is_acknowledgement item.sign) steps a.1,
)
stop_cancels mark s true (Ends ∷ steps) a = a
stop_cancels mark s false (Ends ∷ steps) a = stop_cancels mark s false steps a
stop_cancels mark s true (Breaks ∷ steps) a = a
stop_cancels mark s false (Breaks ∷ steps) a = stop_cancels mark s false steps a

pub stops_behind : {V T : Type 0} (mark : Option Reset) (s : Session V) (down due stop : List (ServerStep V T))
    → Cancels false mark s false (down ++ due) → IsStop (behind s down) false stop → Cancels true mark s false (down ++ stop)
stops_behind mark s [] due stop a b = stop_cancels mark s false stop b
stops_behind mark s (Says item after ∷ down) due stop a b = (
  a.0,
  tt,
  subst (λ (c : Bool). Cancels true (reset_left mark item.sign) after (false || c) (down ++ stop)) (sym a.1)
      (stops_behind (reset_left mark item.sign) after down due stop
      (subst (λ (c : Bool). Cancels false (reset_left mark item.sign) after (false || c) (down ++ due)) a.1 a.2) b),
)
stops_behind mark s (Ends ∷ down) due stop a b = stops_behind mark s down due stop a b
stops_behind mark s (Breaks ∷ down) due stop a b = stops_behind mark s down due stop a b

-- ---- It is heard

pub record SkippedTo {V T : Type 0} (stopped : Bool) (mark : Option Reset) (s : Session V) (done : FinalDone) (items : List (Item T)) (close : Close) (down due : List (ServerStep V T)) : Type 0 where
  pub now : Session V
  pub left_mark : Option Reset
  pub now_done : FinalDone
  pub middle : List (ServerStep V T)
  pub hears : hear_items true (heard s mark done) items ≡ Ok (heard now left_mark now_done)
  pub cancels : Cancels stopped left_mark now (acknowledged now_done) (middle ++ due)
  pub end : IsEnd close middle
  pub left : without items close down ≡ without_end close middle
  pub session : behind s down ≡ behind now middle
  pub owes : marks mark down ≡ marks left_mark middle

skip_more : {V T : Type 0} (stopped : Bool) (mark : Option Reset) (s : Session V) (done : FinalDone) (item : Item T) (items : List (Item T)) (close : Close) (after : Session V) (down due : List (ServerStep V T))
    → (placed mark s.transaction item.sign ≡ Some after.transaction)
    → SkippedTo stopped (reset_left mark item.sign) after (done_sign done item.sign) items close down due
    → SkippedTo stopped mark s done (item ∷ items) close (Says item after ∷ down) due
skip_more stopped mark s done item items close after down due p ih = record {
  now = ih.now;
  left_mark = ih.left_mark;
  now_done = ih.now_done;
  middle = ih.middle;
  hears = ap (then_items true items) (cancelling_heard s after mark done item.sign p) ∙ ih.hears;
  cancels = ih.cancels;
  end = ih.end;
  left = ih.left;
  session = ih.session;
  owes = ih.owes;
}

pub skips_to : {V T : Type 0} (stopped : Bool) (mark : Option Reset) (s : Session V) (done : FinalDone) (items : List (Item T)) (close : Close) (down due : List (ServerStep V T))
    → Cancels stopped mark s (acknowledged done) (down ++ due) → IsNext items close down → SkippedTo stopped mark s done items close down due
skips_to stopped mark s done [] close down due a n = record {
  now = s;
  left_mark = mark;
  now_done = done;
  middle = down;
  hears = refl;
  cancels = a;
  end = n;
  left = refl;
  session = refl;
  owes = refl;
}
skips_to stopped mark s done (item ∷ items) close [] due a n = absurd n
skips_to stopped mark s done (item ∷ items) close (Ends ∷ down) due a n = absurd n
skips_to stopped mark s done (item ∷ items) close (Breaks ∷ down) due a n = absurd n
skips_to {V} {T} stopped mark s done (item ∷ items) close (Says said after ∷ down) due a n =
    subst (λ (it : Item T). SkippedTo stopped mark s done (it ∷ items) close (Says said after ∷ down) due) (sym n.0)
    (skip_more stopped mark s done said items close after down due a.0
    (skips_to stopped (reset_left mark said.sign) after (done_sign done said.sign) items close down due
    (subst (λ (b : Bool). Cancels stopped (reset_left mark said.sign) after b (down ++ due)) (sym (acknowledged_by done said.sign)) a.2) n.1))
