-- What a request is told is a beginning of its own answer, and all of it where it is finished.
use Rattle.std.proofs.Common.{◌≡◌, ◌∙◌, ◌⊎◌, ◌==◌, ◌||◌, ℕ, Bool, true, false, List, [], ◌∷◌, ◌++◌, refl, sym, ap, subst, inl, inr, arith, append_assoc}
use Rattle.std.specs.Prelude.{Option, Some, None, if◌then◌else◌}
use Rattle.tds_packet.specs.declared.status.Reset.{Reset}
use Rattle.tds_client.specs.declared.fault.ClientFault.TheVariants as faults
use Rattle.tds_client.specs.declared.heard.Heard.{Heard}
use Rattle.tds_service.specs.Parts.{Part, items_told}
use Rattle.tds_service.specs.Line.{Line, LineStage, Idle, Sending, Reading, Cancelling, Broken, Packet, OfRequest, Ignore, Attention, Act, Mark, Ask, Send, Cancel, Come, Lose, Turn, line_turn}
use Rattle.tds_service.specs.History.{Done, done_by, given, told_to}
use Rattle.laws_conforming_server.specs.Lawful.{ServerStep, AnyServer, IsLawful, told_of}
use Rattle.laws_conforming_server.specs.Link as links
use Rattle.laws_conforming_server.specs.Link.{Link, Move, Runs, PacketUp, ups, Comes, HasSome, TakesNext, done_here, goes, here, spoken, taken, without}
use Rattle.laws_conforming_server.specs.Answering.{answer_now, answered, finishes, is_finished, or_later}
use Rattle.laws_conforming_server.proofs.Flow.{AreParts, IsWhole, Still, Named, Quiet, Uploads, Answers}
use Rattle.laws_conforming_server.proofs.Coming.{line, came, append_nothing, nothing_comes, read_comes, ReadsOn, ReadsOut}
use Rattle.laws_conforming_server.proofs.Taking.{keeps_takes, none_taken, answers_it, no_down}
use Rattle.laws_conforming_server.proofs.Keeps.{as_before, same_link, begins_part, begins_whole, sends_part, sends_whole, moves_down, speaks_answer, none_due}
use Rattle.laws_conforming_server.proofs.Plans.{Planned, Does, Takes, Speaks, moves_by}
use Rattle.laws_conforming_server.proofs.Past.{IsOwn, Silent, Untold, IsPastOn, past, own_silent, own_untold, same}

-- ---- Its answer is on its way

abbrev pub left_of : {V T : Type 0} → Link V T → List (ServerStep V T)
left_of link = link.down ++ link.server.due

-- tokens of it are told, and the rest is told later
own_told : {V T : Type 0} (n : ℕ) (d : Done T) (ds : List (Done T)) (tokens : List T) (steps rest : List (ServerStep V T))
    → told_to n d.told ≡ tokens → is_finished n d.answer ≡ false → told_of steps ≡ tokens ++ told_of rest → IsOwn n ds rest → IsOwn n (d ∷ ds) steps
own_told {V} {T} n d ds tokens steps rest e f g o =
    let h : given n (d ∷ ds) ≡ tokens ++ given n ds = ap (λ (xs : List T). xs ++ given n ds) e in
    record {
      begins = (
        o.begins.0,
        ap (λ (xs : List T). xs ++ o.begins.0) h ∙ append_assoc tokens (given n ds) o.begins.0 ∙ ap (λ (xs : List T). tokens ++ xs) o.begins.1 ∙ sym g,
      );
      whole = λ (w : finishes n (d ∷ ds) ≡ true).
          h ∙ ap (λ (xs : List T). tokens ++ xs) (o.whole (sym (ap (λ (b : Bool). b || finishes n ds) f) ∙ w)) ∙ sym g;
    }

-- the last ones are told
own_last : {V T : Type 0} (n : ℕ) (d : Done T) (ds : List (Done T)) (tokens : List T) (steps : List (ServerStep V T))
    → told_to n d.told ≡ tokens → told_of steps ≡ tokens → Silent n ds → IsOwn n (d ∷ ds) steps
own_last {V} {T} n d ds tokens steps e g s =
    let h : given n (d ∷ ds) ≡ told_of steps =
    ap (λ (xs : List T). xs ++ given n ds) e ∙ ap (λ (xs : List T). tokens ++ xs) s.given_nothing ∙ append_nothing tokens ∙ sym g in
    record {
      begins = ([], ap (λ (xs : List T). xs ++ []) h ∙ append_nothing (told_of steps));
      whole = λ (w : finishes n (d ∷ ds) ≡ true). h;
    }

to_self : {T : Type 0} (n : ℕ) (tokens : List T) → (if n == n then tokens else []) ≡ tokens
to_self {T} n tokens = ap (λ (b : Bool). if b then tokens else []) (same n)

abbrev pub ds_by : {T : Type 0} → Line → List (Planned T) → List (Done T)
ds_by l plan = here (moves_by l plan)

abbrev pub OwnNext : {V T : Type 0} → ℕ → Act T → Turn T → List (Planned T) → List (ServerStep V T) → Type 0
OwnNext n a t plan steps = IsOwn n (done_by a t ∷ ds_by t.line plan) steps

-- the runs behind it
abbrev pub RunsNext : {V T : Type 0} → AnyServer V T → Link V T → Act T → Turn T → List (Planned T) → Type 0
RunsNext engine link a t plan = Runs engine (done_here link (done_by a t)) (moves_by t.line plan)

own_reads : {V T : Type 0} (engine : AnyServer V T) (n : ℕ) (h : Heard) (link : Link V T) (part : Part T) (plan : List (Planned T))
    → ReadsOn engine n h link part ⊎ ReadsOut n h link part
    → RunsNext engine link (Come part) (line_turn (line n Reading h) (Come part)) plan
    → ((after : Heard) (next : Link V T) → Answers engine after next → Runs engine next (moves_by (line n Reading after) plan) → IsOwn n (ds_by (line n Reading after) plan) (left_of next))
    → OwnNext n (Come part) (line_turn (line n Reading h) (Come part)) plan (left_of link)
own_reads {V} {T} engine n h link part plan (inl r) runs ih =
    subst (λ (t : Turn T). OwnNext n (Come part) t plan (left_of link)) (sym r.is)
    (own_told n _ (ds_by (line n Reading r.after) plan) (items_told part.items) (left_of link) (left_of (came link part)) (to_self n (items_told part.items)) refl r.tells
    (ih r.after (came link part) r.answers (subst (λ (t : Turn T). RunsNext engine link (Come part) t plan) r.is runs)))
own_reads {V} {T} engine n h link part plan (inr r) runs ih =
    subst (λ (t : Turn T). OwnNext n (Come part) t plan (left_of link)) (sym r.is)
    (own_last n _ (ds_by (line n Idle r.after) plan) (items_told part.items) (left_of link) (to_self n (items_told part.items)) r.tells
    (past n (line n Idle r.after) plan (omega arith)))

own_same : {V T : Type 0} (engine : AnyServer V T) (n : ℕ) (h : Heard) (link : Link V T) (plan : List (Planned T)) (d : Done T) → Untold n d
    → Answers engine h link
    → Runs engine (as_before link) (moves_by (line n Reading h) plan)
    → ((next : Link V T) → Answers engine h next → Runs engine next (moves_by (line n Reading h) plan) → IsOwn n (ds_by (line n Reading h) plan) (left_of next))
    → IsOwn n (d ∷ ds_by (line n Reading h) plan) (left_of link)
own_same {V} {T} engine n h link plan d u a runs ih =
    own_untold n d (ds_by (line n Reading h) plan) (left_of link) u
    (ih link a (subst (λ (k : Link V T). Runs engine k (moves_by (line n Reading h) plan)) (same_link link) runs))

told_on : {V T : Type 0} (n : ℕ) (ds : List (Done T)) (xs ys : List (ServerStep V T)) → xs ≡ ys → IsOwn n ds xs → IsOwn n ds ys
told_on {V} {T} n ds xs ys e o = subst (λ (zs : List (ServerStep V T)). IsOwn n ds zs) e o

spoken_left : {V T : Type 0} (link : Link V T) (due : List (ServerStep V T)) → link.server.due ≡ due → HasSome due → left_of (spoken link due) ≡ left_of link
spoken_left link [] e t = absurd t
spoken_left {V} {T} link (step ∷ due) e t = sym (ap (λ (d : List (ServerStep V T)). link.down ++ d) e ∙ moves_down link.down due step)

pub own_reading : {V T : Type 0} (engine : AnyServer V T) (n : ℕ) (h : Heard) (link : Link V T) (plan : List (Planned T)) → Answers engine h link
    → Runs engine link (moves_by (line n Reading h) plan) → IsOwn n (ds_by (line n Reading h) plan) (left_of link)
own_reading engine n h link [] a runs = own_silent n [] (left_of link) (record { given_nothing = refl; unfinished = refl })
own_reading engine n h link (Takes ∷ plan) a runs = absurd (none_taken link a.up runs.0)
own_reading engine n h link (Speaks ∷ plan) a runs =
    told_on n (ds_by (line n Reading h) plan) (left_of (spoken link link.server.due)) (left_of link) (spoken_left link link.server.due refl runs.0)
    (own_reading engine n h (spoken link link.server.due) plan (speaks_answer engine h link link.server.due refl runs.0 a) runs.1)
own_reading engine n h link (Does (Mark reset) ∷ plan) a runs =
    own_same engine n h link plan _ (record { told = refl; finished = refl }) a runs.1 (λ k b r. own_reading engine n h k plan b r)
own_reading engine n h link (Does Ask ∷ plan) a runs =
    own_same engine n h link plan _ (record { told = refl; finished = refl }) a runs.1 (λ k b r. own_reading engine n h k plan b r)
own_reading engine n h link (Does (Send last) ∷ plan) a runs =
    own_same engine n h link plan _ (record { told = refl; finished = refl }) a runs.1 (λ k b r. own_reading engine n h k plan b r)
own_reading engine n h link (Does Cancel ∷ plan) a runs =
    own_untold n _ (ds_by (line n Cancelling h) plan) (left_of link) (record { told = refl; finished = refl })
    (own_silent n (ds_by (line n Cancelling h) plan) (left_of link) (past n (line n Cancelling h) plan (omega arith)))
own_reading engine n h link (Does (Come part) ∷ plan) a runs =
    own_reads engine n h link part plan (read_comes engine n h link part a runs.0) runs.1 (λ g k b r. own_reading engine n g k plan b r)
own_reading engine n h link (Does Lose ∷ plan) a runs =
    own_untold n _ (ds_by (line n (Broken faults.Lost) h) plan) (left_of link) (record { told = refl; finished = refl })
    (own_silent n (ds_by (line n (Broken faults.Lost) h) plan) (left_of link) (past n (line n (Broken faults.Lost) h) plan tt))

-- ---- It is asked, and its last packet isn't taken yet

pub none_in_parts : {V T : Type 0} (engine : AnyServer V T) (n r : ℕ) (wanted : Option Reset) (link : Link V T) (packets : List Packet)
    → AreParts n wanted link.server.reset packets → answer_now engine link r (ups link.asking packets) ≡ None
none_in_parts engine n r wanted link [] are = refl
none_in_parts engine n r wanted link (OfRequest request first own false ∷ packets) are = refl
none_in_parts engine n r wanted link (OfRequest request first own true ∷ packets) are = absurd are
none_in_parts engine n r wanted link (Ignore request ∷ packets) are = refl
none_in_parts engine n r wanted link (Attention ∷ packets) are = refl

-- what is answered along a run, by what is due as a packet is taken
later : {V T : Type 0} (engine : AnyServer V T) (r : ℕ) (link : Link V T) (moves : List (Move T)) (now : Option (List (ServerStep V T)))
    → answer_now engine link r link.up ≡ now
    → answered engine link r (links.Takes ∷ moves) ≡ or_later now (answered engine (goes engine link links.Takes) r moves)
later {V} {T} engine r link moves now e = ap (λ (x : Option (List (ServerStep V T))). or_later x (answered engine (goes engine link links.Takes) r moves)) e

-- The last packet of the request is taken, or it isn't yet.
pub record Starts {V T : Type 0} (engine : AnyServer V T) (n : ℕ) (h : Heard) (link next : Link V T) (u : List PacketUp) : Type 0 where
  pub now : answer_now engine link n u ≡ Some next.server.due
  pub none : next.down ≡ []
  pub answers : Answers engine h next

pub record Waits {V T : Type 0} (engine : AnyServer V T) (n : ℕ) (h : Heard) (link next : Link V T) (u : List PacketUp) : Type 0 where
  pub now : answer_now engine link n u ≡ None
  pub uploads : Uploads n h next (IsWhole n h.mark [])

chosen : {A : Type 0} (request n : ℕ) (x : A) → request ≡ n → (if request == n then Some x else None) ≡ Some x
chosen {A} request n x e = ap (λ (b : Bool). if b then Some x else None) (ap (λ (k : ℕ). k == n) e ∙ same n)

starts_by : {V T : Type 0} (engine : AnyServer V T) (lawful : IsLawful engine) (n : ℕ) (h : Heard) (link : Link V T) (named : Named n h link) (s : Still h link) (packets : List Packet)
    → IsWhole n h.mark [] link.server.reset packets
    → Waits engine n h link (taken engine link (ups link.asking packets)) (ups link.asking packets)
    ⊎ Starts engine n h link (taken engine link (ups link.asking packets)) (ups link.asking packets)
starts_by engine lawful n h link named s [] are = absurd are
starts_by engine lawful n h link named s (OfRequest request first own false ∷ packets) are = inl (record {
  now = refl;
  uploads = record {
    packets = packets;
    up = refl;
    are = are.1;
    still = record { down = s.down; due = s.due; transaction = s.transaction; done = s.done };
    named = named;
  };
})
starts_by engine lawful n h link named s (OfRequest request first own true ∷ packets) are = inr (record {
  now = chosen request n (engine.answers request link.server.session (if first then own else link.server.reset) link.asking.named) are.0;
  none = s.down;
  answers = record {
    up = ap (ups link.asking) are.2;
    session = link.server.session;
    transaction = s.transaction;
    final = false;
    done = s.done;
    answer = answers_it engine lawful h link s request (if first then own else link.server.reset) are.1;
    server = no_down h link s;
  };
})
starts_by engine lawful n h link named s (Ignore request ∷ packets) are = absurd are
starts_by engine lawful n h link named s (Attention ∷ packets) are = absurd are

-- whether it is being sent, or is out
abbrev pub Out : {V T : Type 0} → ℕ → LineStage → Heard → Link V T → Type 0
Out n Idle h link = ⊥
Out n (Sending false) h link = Quiet h link × Named n h link
Out n (Sending true) h link = Uploads n h link (AreParts n h.mark)
Out n Reading h link = Uploads n h link (IsWhole n h.mark [])
Out n Cancelling h link = ⊥
Out n (Broken fault) h link = ⊥

abbrev pub OwnOf : {V T : Type 0} → AnyServer V T → ℕ → Line → Link V T → List (Planned T) → Type 0
OwnOf engine r l link plan = IsOwn r (ds_by l plan) (answered engine link r (moves_by l plan))

pub none_told : {T : Type 0} (r : ℕ) → Silent {T = T} r []
none_told r = record { given_nothing = refl; unfinished = refl }

-- it starts, and what is left is its answer
own_starts : {V T : Type 0} (engine : AnyServer V T) (n : ℕ) (h : Heard) (link : Link V T) (plan : List (Planned T))
    → Starts engine n h link (goes engine link links.Takes) link.up
    → Runs engine (goes engine link links.Takes) (moves_by (line n Reading h) plan)
    → OwnOf engine n (line n Reading h) link (Takes ∷ plan)
own_starts {V} {T} engine n h link plan s runs =
    let next : Link V T = goes engine link links.Takes in
    told_on n (ds_by (line n Reading h) plan) (left_of next) (answered engine link n (links.Takes ∷ moves_by (line n Reading h) plan))
    (ap (λ (d : List (ServerStep V T)). d ++ next.server.due) s.none
    ∙ sym (later engine n link (moves_by (line n Reading h) plan) (Some next.server.due) s.now))
    (own_reading engine n h next plan s.answers runs)

pub own_waits : {V T : Type 0} (engine : AnyServer V T) (n r : ℕ) (stage : LineStage) (h : Heard) (link : Link V T) (plan : List (Planned T))
    → answer_now engine link r link.up ≡ None
    → IsOwn r (ds_by (line n stage h) plan) (answered engine (goes engine link links.Takes) r (moves_by (line n stage h) plan))
    → OwnOf engine r (line n stage h) link (Takes ∷ plan)
own_waits engine n r stage h link plan e o =
    told_on r (ds_by (line n stage h) plan) (answered engine (goes engine link links.Takes) r (moves_by (line n stage h) plan)) _
    (sym (later engine r link (moves_by (line n stage h) plan) None e)) o

-- nothing is done there
own_before : {V T : Type 0} (engine : AnyServer V T) (n : ℕ) (stage : LineStage) (h : Heard) (link : Link V T) (plan : List (Planned T)) (d : Done T) → Untold n d
    → Out n stage h link → Runs engine (as_before link) (moves_by (line n stage h) plan)
    → ((next : Link V T) → Out n stage h next → Runs engine next (moves_by (line n stage h) plan) → OwnOf engine n (line n stage h) next plan)
    → IsOwn n (d ∷ ds_by (line n stage h) plan) (answered engine (as_before link) n (moves_by (line n stage h) plan))
own_before {V} {T} engine n stage h link plan d u o runs ih =
    own_untold n d (ds_by (line n stage h) plan) (answered engine (as_before link) n (moves_by (line n stage h) plan)) u
    (ih (as_before link) (subst (λ (k : Link V T). Out n stage h k) (sym (same_link link)) o) runs)

-- it is done with
own_past : {V T : Type 0} (n : ℕ) (d : Done T) (l : Line) (plan : List (Planned T)) (steps : List (ServerStep V T)) → Untold n d → IsPastOn l n
    → IsOwn n (d ∷ ds_by l plan) steps
own_past n d l plan steps u p = own_untold n d (ds_by l plan) steps u (own_silent n (ds_by l plan) steps (past n l plan p))

taken_whole : {V T : Type 0} (engine : AnyServer V T) (lawful : IsLawful engine) (n : ℕ) (h : Heard) (link : Link V T) (f : Uploads n h link (IsWhole n h.mark []))
    → Waits engine n h link (goes engine link links.Takes) link.up ⊎ Starts engine n h link (goes engine link links.Takes) link.up
taken_whole engine lawful n h link f =
    subst (λ (u : List PacketUp). Waits engine n h link (taken engine link u) u ⊎ Starts engine n h link (taken engine link u) u) (sym f.up)
    (starts_by engine lawful n h link f.named f.still f.packets f.are)

own_takes : {V T : Type 0} (engine : AnyServer V T) (n : ℕ) (h : Heard) (link : Link V T) (plan : List (Planned T))
    → Waits engine n h link (goes engine link links.Takes) link.up ⊎ Starts engine n h link (goes engine link links.Takes) link.up
    → Runs engine (goes engine link links.Takes) (moves_by (line n Reading h) plan)
    → ((next : Link V T) → Out n Reading h next → Runs engine next (moves_by (line n Reading h) plan) → OwnOf engine n (line n Reading h) next plan)
    → OwnOf engine n (line n Reading h) link (Takes ∷ plan)
own_takes engine n h link plan (inl w) runs ih =
    own_waits engine n n Reading h link plan w.now (ih (goes engine link links.Takes) w.uploads runs)
own_takes engine n h link plan (inr s) runs ih = own_starts engine n h link plan s runs

no_last : {V T : Type 0} (engine : AnyServer V T) (n r : ℕ) (h : Heard) (link : Link V T) (f : Uploads n h link (AreParts n h.mark)) → answer_now engine link r link.up ≡ None
no_last engine n r h link f =
    subst (λ (u : List PacketUp). answer_now engine link r u ≡ None) (sym f.up) (none_in_parts engine n r h.mark link f.packets f.are)

pub own_now : {V T : Type 0} (engine : AnyServer V T) (lawful : IsLawful engine) (n : ℕ) (stage : LineStage) (h : Heard) (link : Link V T) (plan : List (Planned T))
    → Out n stage h link → Runs engine link (moves_by (line n stage h) plan) → OwnOf engine n (line n stage h) link plan
own_now engine lawful n Idle h link plan o runs = absurd o
own_now engine lawful n Cancelling h link plan o runs = absurd o
own_now engine lawful n (Broken fault) h link plan o runs = absurd o
own_now engine lawful n (Sending false) h link [] o runs = own_silent n [] [] (none_told n)
own_now engine lawful n (Sending true) h link [] o runs = own_silent n [] [] (none_told n)
own_now engine lawful n Reading h link [] o runs = own_silent n [] [] (none_told n)
own_now engine lawful n (Sending false) h link (Takes ∷ plan) o runs = absurd (none_taken link o.0.up runs.0)
own_now engine lawful n (Sending false) h link (Speaks ∷ plan) o runs = absurd (none_due link.server.due o.0.still.due runs.0)
own_now engine lawful n (Sending false) h link (Does (Mark reset) ∷ plan) o runs =
    own_before engine n (Sending false) h link plan _ (record { told = refl; finished = refl }) o runs.1 (λ k p r. own_now engine lawful n (Sending false) h k plan p r)
own_now engine lawful n (Sending false) h link (Does Ask ∷ plan) o runs =
    own_before engine n (Sending false) h link plan _ (record { told = refl; finished = refl }) o runs.1 (λ k p r. own_now engine lawful n (Sending false) h k plan p r)
own_now engine lawful n (Sending false) h link (Does (Send false) ∷ plan) o runs =
    own_untold n _ (ds_by (line n (Sending true) h) plan) _ (record { told = refl; finished = refl })
    (own_now engine lawful n (Sending true) h _ plan (begins_part n h link o) runs.1)
own_now engine lawful n (Sending false) h link (Does (Send true) ∷ plan) o runs =
    own_untold n _ (ds_by (line n Reading h) plan) _ (record { told = refl; finished = refl })
    (own_now engine lawful n Reading h _ plan (begins_whole n h link o) runs.1)
own_now engine lawful n (Sending false) h link (Does Cancel ∷ plan) o runs =
    own_past n _ (line n Idle h) plan _ (record { told = refl; finished = refl }) (omega arith)
own_now engine lawful n (Sending false) h link (Does (Come part) ∷ plan) o runs = absurd (nothing_comes h link part o.0.still runs.0)
own_now engine lawful n (Sending false) h link (Does Lose ∷ plan) o runs =
    own_past n _ (line n (Broken faults.Lost) h) plan _ (record { told = refl; finished = refl }) tt
own_now engine lawful n (Sending true) h link (Takes ∷ plan) o runs =
    own_waits engine n n (Sending true) h link plan (no_last engine n n h link o)
    (own_now engine lawful n (Sending true) h (goes engine link links.Takes) plan (keeps_takes engine lawful n (Sending true) h link o runs.0) runs.1)
own_now engine lawful n (Sending true) h link (Speaks ∷ plan) o runs = absurd (none_due link.server.due o.still.due runs.0)
own_now engine lawful n (Sending true) h link (Does (Mark reset) ∷ plan) o runs =
    own_before engine n (Sending true) h link plan _ (record { told = refl; finished = refl }) o runs.1 (λ k p r. own_now engine lawful n (Sending true) h k plan p r)
own_now engine lawful n (Sending true) h link (Does Ask ∷ plan) o runs =
    own_before engine n (Sending true) h link plan _ (record { told = refl; finished = refl }) o runs.1 (λ k p r. own_now engine lawful n (Sending true) h k plan p r)
own_now engine lawful n (Sending true) h link (Does (Send false) ∷ plan) o runs =
    own_untold n _ (ds_by (line n (Sending true) h) plan) _ (record { told = refl; finished = refl })
    (own_now engine lawful n (Sending true) h _ plan (sends_part n h link o) runs.1)
own_now engine lawful n (Sending true) h link (Does (Send true) ∷ plan) o runs =
    own_untold n _ (ds_by (line n Reading h) plan) _ (record { told = refl; finished = refl })
    (own_now engine lawful n Reading h _ plan (sends_whole n h link o) runs.1)
own_now engine lawful n (Sending true) h link (Does Cancel ∷ plan) o runs =
    own_past n _ (line n Cancelling h) plan _ (record { told = refl; finished = refl }) (omega arith)
own_now engine lawful n (Sending true) h link (Does (Come part) ∷ plan) o runs = absurd (nothing_comes h link part o.still runs.0)
own_now engine lawful n (Sending true) h link (Does Lose ∷ plan) o runs =
    own_past n _ (line n (Broken faults.Lost) h) plan _ (record { told = refl; finished = refl }) tt
own_now engine lawful n Reading h link (Takes ∷ plan) o runs =
    own_takes engine n h link plan (taken_whole engine lawful n h link o) runs.1 (λ k p r. own_now engine lawful n Reading h k plan p r)
own_now engine lawful n Reading h link (Speaks ∷ plan) o runs = absurd (none_due link.server.due o.still.due runs.0)
own_now engine lawful n Reading h link (Does (Mark reset) ∷ plan) o runs =
    own_before engine n Reading h link plan _ (record { told = refl; finished = refl }) o runs.1 (λ k p r. own_now engine lawful n Reading h k plan p r)
own_now engine lawful n Reading h link (Does Ask ∷ plan) o runs =
    own_before engine n Reading h link plan _ (record { told = refl; finished = refl }) o runs.1 (λ k p r. own_now engine lawful n Reading h k plan p r)
own_now engine lawful n Reading h link (Does (Send last) ∷ plan) o runs =
    own_before engine n Reading h link plan _ (record { told = refl; finished = refl }) o runs.1 (λ k p r. own_now engine lawful n Reading h k plan p r)
own_now engine lawful n Reading h link (Does Cancel ∷ plan) o runs =
    own_past n _ (line n Cancelling h) plan _ (record { told = refl; finished = refl }) (omega arith)
own_now engine lawful n Reading h link (Does (Come part) ∷ plan) o runs = absurd (nothing_comes h link part o.still runs.0)
own_now engine lawful n Reading h link (Does Lose ∷ plan) o runs =
    own_past n _ (line n (Broken faults.Lost) h) plan _ (record { told = refl; finished = refl }) tt
