-- What comes of a part at the client, in front of a lawful server.
use Rattle.std.proofs.Common.{◌≡◌, ◌∙◌, ◌⊎◌, ℕ, Bool, true, false, List, [], ◌∷◌, ◌++◌, refl, sym, ap, subst, inl, inr}
use Rattle.std.specs.Prelude.{Option, None, Result, Ok}
use Rattle.tds_packet.specs.declared.status.Reset.{Reset}
use Rattle.tds_client.specs.declared.fault.ClientFault.{ClientFault}
use Rattle.tds_client.specs.declared.heard.Heard.{Heard}
use Rattle.tds_client.specs.declared.heard.FinalDone.{FinalDone}
use Rattle.tds_client.specs.declared.heard.FinalDone.TheVariants.{Awaited, Answered, Acknowledged}
use Rattle.tds_client.specs.declared.sign.Rules.TheVariants.{Any}
use Rattle.tds_client.specs.Hearing.{may_end}
use Rattle.tds_listen.specs.declared.fault.ListenFault.{ListenFault}
use Rattle.tds_listen.specs.Hearing.{heard_by}
use Rattle.tds_service.specs.Parts as parts
use Rattle.tds_service.specs.Parts.{Item, Part, Close, close_by, close_part, hear_items, hear_part, heard_until, is_end, items_told, unless_owed}
use Rattle.tds_service.specs.Line.{Line, LineStage, Idle, Reading, Cancelling, Turn, Come, More, Finished, Acked, To, quiet, reads, skips, skips_to_end, line_turn}
use Rattle.laws_conforming_server.specs.Lawful.{Session, ServerStep, Says, Ends, Breaks, AnyServer, IsAnswer, told_of}
use Rattle.laws_conforming_server.specs.Link.{Asking, PacketUp, ups, Link, Comes, HasSome, IsEnd, without, without_end}
use Rattle.laws_conforming_server.proofs.Hears.{heard, done_of, acknowledged}
use Rattle.laws_conforming_server.proofs.Chains.{behind, marks, Cancels, SettledBy, ReadTo, reads_to, skips_to}
use Rattle.laws_conforming_server.proofs.Flow.{Still, Quiet, Answers, Stops, attention_left}

abbrev pub line : ℕ → LineStage → Heard → Line
line n s h = record { asked = n; stage = s; heard = h }

-- The connection behind it.
abbrev pub came : {V T : Type 0} → Link V T → Part T → Link V T
came link part = record {
  up = link.up ++ [];
  server = link.server;
  down = without part.items part.close link.down;
  asking = link.asking;
}

abbrev pub then_close : Bool → Close → Result Heard ClientFault → Result Heard ListenFault
then_close cancelling close r = heard_by r (λ next. close_part cancelling close next)

nothing_left : {V T : Type 0} (xs ys : List (ServerStep V T)) → xs ++ ys ≡ [] → (xs ≡ []) × (ys ≡ [])
nothing_left [] ys e = (refl, e)
nothing_left (x ∷ xs) ys e = let a : ⊥ = cc in absurd a

-- ---- An answer that is read

abbrev pub read_on : {T : Type 0} → ℕ → Heard → Part T → Turn T
read_on n h part = record { line = line n Reading h; answer = More; sent = []; told = To n (items_told part.items) }

abbrev pub read_out : {T : Type 0} → ℕ → Heard → Part T → Turn T
read_out n h part = record { line = line n Idle h; answer = Finished n; sent = []; told = To n (items_told part.items) }

pub record ReadsOn {V T : Type 0} (engine : AnyServer V T) (n : ℕ) (h : Heard) (link : Link V T) (part : Part T) : Type 0 where
  pub after : Heard
  pub is : line_turn (line n Reading h) (Come part) ≡ read_on n after part
  pub answers : Answers engine after (came link part)
  pub owes : marks h.mark link.down ≡ marks after.mark (without part.items part.close link.down)
  pub tells : told_of (link.down ++ link.server.due) ≡ items_told part.items ++ told_of (without part.items part.close link.down ++ link.server.due)

pub record ReadsOut {V T : Type 0} (n : ℕ) (h : Heard) (link : Link V T) (part : Part T) : Type 0 where
  pub after : Heard
  pub is : line_turn (line n Reading h) (Come part) ≡ read_out n after part
  pub still : Quiet after (came link part)
  pub owes : marks h.mark link.down ≡ after.mark
  pub tells : told_of (link.down ++ link.server.due) ≡ items_told part.items

same_heard : {V : Type 0} (h : Heard) (s : Session V) (done : FinalDone) → h.descriptor ≡ s.transaction → h.done ≡ done → h ≡ heard s h.mark done
same_heard h s done e f =
    ap (λ (d : ℕ). record { descriptor = d; mark = h.mark; done = h.done }) e
    ∙ ap (λ (d : FinalDone). record { descriptor = s.transaction; mark = h.mark; done = d }) f

pub append_nothing : {A : Type 0} (xs : List A) → xs ++ [] ≡ xs
append_nothing [] = refl
append_nothing (x ∷ xs) = ap (λ (ys : List _). x ∷ ys) (append_nothing xs)

abbrev pub part_of : {T : Type 0} → List (Item T) → Close → Part T
part_of items close = record { items = items; close = close }

abbrev pub fine : Heard → Result Heard ClientFault
fine h = Ok h

-- The part goes on.
read_goes : {V T : Type 0} (engine : AnyServer V T) (n : ℕ) (h : Heard) (link : Link V T) (items : List (Item T)) (a : Answers engine h link)
    (rd : ReadTo engine.settings h.mark a.session a.final items parts.Goes link.down link.server.due)
    → hear_items false h items ≡ Ok (heard rd.now rd.left_mark (done_of rd.now_final))
    → ReadsOn engine n h link (part_of items parts.Goes)
read_goes {V} {T} engine n h link items a rd hears = record {
  after = heard rd.now rd.left_mark (done_of rd.now_final);
  is = ap (λ (r : Result Heard ListenFault). reads (line n Reading h) (part_of items parts.Goes) false (heard_until false h items) r) (ap (then_close false parts.Goes) hears);
  answers = record {
    up = ap (λ (u : List PacketUp). u ++ []) a.up;
    session = rd.now;
    transaction = refl;
    final = rd.now_final;
    done = refl;
    answer = subst (λ (m : List (ServerStep V T)). IsAnswer engine.settings rd.left_mark rd.now rd.now_final (m ++ link.server.due)) (sym rd.left) rd.answer;
    server = a.server ∙ rd.session ∙ ap (behind rd.now) (sym rd.left);
  };
  owes = rd.owes ∙ ap (marks rd.left_mark) (sym rd.left);
  tells = rd.tells ∙ ap (λ (m : List (ServerStep V T)). items_told items ++ told_of (m ++ link.server.due)) (sym rd.left);
}

-- It ends its message.
read_ends : {V T : Type 0} (engine : AnyServer V T) (n : ℕ) (h : Heard) (link : Link V T) (items : List (Item T)) (a : Answers engine h link)
    (now : Session V) (mark : Option Reset) (final : Bool) (middle : List (ServerStep V T))
    → hear_items false h items ≡ Ok (heard now mark (done_of final))
    → (mark ≡ None) → (final ≡ true) → (middle ++ link.server.due ≡ [])
    → (without items parts.Ends link.down ≡ middle)
    → (behind a.session link.down ≡ behind now middle)
    → (marks h.mark link.down ≡ marks mark middle)
    → (told_of (link.down ++ link.server.due) ≡ items_told items ++ told_of (middle ++ link.server.due))
    → ReadsOut n h link (part_of items parts.Ends)
read_ends {V} {T} engine n h link items a now mark final middle hears p q e left session owes tells =
    let none : middle ≡ [] = (nothing_left middle link.server.due e).0 in
    let all : hear_items false h items ≡ Ok (heard now None Answered) =
    hears ∙ ap (λ (m : Option Reset). fine (heard now m (done_of final))) p ∙ ap (λ (f : Bool). fine (heard now None (done_of f))) q in
    record {
      after = heard now None Awaited;
      is = ap (λ (r : Result Heard ListenFault). reads (line n Reading h) (part_of items parts.Ends) true (heard_until false h items) r) (ap (then_close false parts.Ends) all);
      still = record {
        up = ap (λ (u : List PacketUp). u ++ []) a.up;
        still = record {
          down = left ∙ none;
          due = (nothing_left middle link.server.due e).1;
          transaction = sym (ap (λ (s : Session V). s.transaction) (a.server ∙ session ∙ ap (behind now) none));
          done = refl;
        };
      };
      owes = owes ∙ ap (marks mark) none ∙ p;
      tells = tells ∙ ap (λ (m : List (ServerStep V T)). items_told items ++ told_of m) e ∙ append_nothing (items_told items);
    }

read_closed : {V T : Type 0} (engine : AnyServer V T) (n : ℕ) (h : Heard) (link : Link V T) (items : List (Item T)) (close : Close) (a : Answers engine h link)
    (now : Session V) (mark : Option Reset) (final : Bool) (middle : List (ServerStep V T))
    → hear_items false h items ≡ Ok (heard now mark (done_of final))
    → IsAnswer engine.settings mark now final (middle ++ link.server.due)
    → IsEnd close middle
    → (without items close link.down ≡ without_end close middle)
    → (behind a.session link.down ≡ behind now middle)
    → (marks h.mark link.down ≡ marks mark middle)
    → (told_of (link.down ++ link.server.due) ≡ items_told items ++ told_of (middle ++ link.server.due))
    → ReadsOn engine n h link (part_of items close) ⊎ ReadsOut n h link (part_of items close)
read_closed engine n h link items parts.Goes a now mark final middle hears answer end left session owes tells =
    inl (read_goes engine n h link items a
    (record {
      now = now;
      left_mark = mark;
      now_final = final;
      middle = middle;
      hears = ap (λ (x : Heard). hear_items false x items) (sym (same_heard h a.session (done_of a.final) a.transaction a.done)) ∙ hears;
      answer = answer;
      end = end;
      left = left;
      session = session;
      owes = owes;
      tells = tells;
    })
    hears)
read_closed engine n h link items parts.Ends a now mark final [] hears answer end left session owes tells = absurd end
read_closed engine n h link items parts.Ends a now mark final (Says item after ∷ middle) hears answer end left session owes tells = absurd end
read_closed engine n h link items parts.Ends a now mark final (Breaks ∷ middle) hears answer end left session owes tells = absurd end
read_closed engine n h link items parts.Ends a now mark final (Ends ∷ middle) hears answer end left session owes tells =
    inr (read_ends engine n h link items a now mark final middle hears answer.0 answer.1 answer.2 left session owes tells)
read_closed engine n h link items parts.Cut a now mark final [] hears answer end left session owes tells = absurd end
read_closed engine n h link items parts.Cut a now mark final (Says item after ∷ middle) hears answer end left session owes tells = absurd end
read_closed engine n h link items parts.Cut a now mark final (Ends ∷ middle) hears answer end left session owes tells = absurd end
read_closed engine n h link items parts.Cut a now mark final (Breaks ∷ middle) hears answer end left session owes tells = absurd answer
read_closed engine n h link items (parts.Fails refusal) a now mark final middle hears answer end left session owes tells = absurd end

pub read_comes : {V T : Type 0} (engine : AnyServer V T) (n : ℕ) (h : Heard) (link : Link V T) (part : Part T) → Answers engine h link
    → Comes (Come part) link.down link.server.due → ReadsOn engine n h link part ⊎ ReadsOut n h link part
read_comes engine n h link part a c =
    let rd = reads_to engine.settings h.mark a.session a.final part.items part.close link.down link.server.due a.answer c.1 in
    read_closed engine n h link part.items part.close a rd.now rd.left_mark rd.now_final rd.middle
    (ap (λ (x : Heard). hear_items false x part.items) (same_heard h a.session (done_of a.final) a.transaction a.done) ∙ rd.hears)
    rd.answer rd.end rd.left rd.session rd.owes rd.tells

-- ---- What comes behind a cancel

pub record SkipsOn {V T : Type 0} (n : ℕ) (h : Heard) (stopped : Bool) (link : Link V T) (part : Part T) : Type 0 where
  pub after : Heard
  pub is : line_turn (line n Cancelling h) (Come part) ≡ quiet (line n Cancelling after) More
  pub stops : Stops stopped after (came link part)
  pub owes : marks h.mark link.down ≡ marks after.mark (without part.items part.close link.down)

pub record SkipsOut {V T : Type 0} (n : ℕ) (h : Heard) (link : Link V T) (part : Part T) : Type 0 where
  pub after : Heard
  pub is : line_turn (line n Cancelling h) (Come part) ≡ quiet (line n Idle after) (Acked n)
  pub still : Quiet after (came link part)
  pub owes : marks h.mark link.down ≡ after.mark

-- what is on its way to the server stays so
still_up : (asking : Asking) (u : List PacketUp) (stopped : Bool) → u ≡ ups asking (attention_left stopped) → u ++ [] ≡ ups asking (attention_left stopped)
still_up asking u stopped e = append_nothing u ∙ e

skip_goes : {V T : Type 0} (n : ℕ) (h : Heard) (stopped : Bool) (link : Link V T) (items : List (Item T)) (a : Stops stopped h link)
    (now : Session V) (mark : Option Reset) (done : FinalDone) (middle : List (ServerStep V T))
    → hear_items true h items ≡ Ok (heard now mark done)
    → Cancels stopped mark now (acknowledged done) (middle ++ link.server.due)
    → (without items parts.Goes link.down ≡ middle)
    → (behind a.session link.down ≡ behind now middle)
    → (marks h.mark link.down ≡ marks mark middle)
    → SkipsOn n h stopped link (part_of items parts.Goes)
skip_goes {V} {T} n h stopped link items a now mark done middle hears cancels left session owes = record {
  after = heard now mark done;
  is = ap (λ (r : Result Heard ListenFault). skips (line n Cancelling h) false (heard_until true h items) r) (ap (then_close true parts.Goes) hears);
  stops = record {
    up = still_up link.asking link.up stopped a.up;
    session = now;
    transaction = refl;
    cancels = subst (λ (m : List (ServerStep V T)). Cancels stopped mark now (acknowledged done) (m ++ link.server.due)) (sym left) cancels;
    server = a.server ∙ session ∙ ap (behind now) (sym left);
  };
  owes = owes ∙ ap (marks mark) (sym left);
}

abbrev pub end_of : {T : Type 0} → ℕ → Heard → Part T → Heard → Turn T
end_of n h part after = skips_to_end (line n Cancelling h) after after.done

end_turn : {T : Type 0} (n : ℕ) (h : Heard) (part : Part T) (after : Heard) → is_end part.close ≡ true → hear_part true h part ≡ Ok after
    → line_turn (line n Cancelling h) (Come part) ≡ end_of n h part after
end_turn n h part after e f =
    ap (λ (b : Bool). skips (line n Cancelling h) b (heard_until true h part.items) (hear_part true h part)) e
    ∙ ap (λ (r : Result Heard ListenFault). skips (line n Cancelling h) true (heard_until true h part.items) r) f

may_close : (h : Heard) (done : FinalDone) → close_by true (may_end Any true done) h ≡ Ok h
may_close h Awaited = refl
may_close h Answered = refl
may_close h Acknowledged = refl

settled_open : {V T : Type 0} (stopped : Bool) (steps : List (ServerStep V T)) (others : Type 0) → SettledBy stopped false steps others → others
settled_open true steps others o = o
settled_open false steps others o = o

-- The message ends, and the attention isn't acknowledged.
skip_end : {V T : Type 0} (n : ℕ) (h : Heard) (stopped : Bool) (link : Link V T) (part : Part T) (a : Stops stopped h link)
    (now : Session V) (mark : Option Reset) (middle : List (ServerStep V T))
    → line_turn (line n Cancelling h) (Come part) ≡ quiet (line n Cancelling (heard now mark Awaited)) More
    → Cancels stopped mark now false (middle ++ link.server.due)
    → (without part.items part.close link.down ≡ middle)
    → (behind a.session link.down ≡ behind now middle)
    → (marks h.mark link.down ≡ marks mark middle)
    → SkipsOn n h stopped link part
skip_end {V} {T} n h stopped link part a now mark middle is cancels left session owes = record {
  after = heard now mark Awaited;
  is = is;
  stops = record {
    up = still_up link.asking link.up stopped a.up;
    session = now;
    transaction = refl;
    cancels = subst (λ (m : List (ServerStep V T)). Cancels stopped mark now false (m ++ link.server.due)) (sym left) cancels;
    server = a.server ∙ session ∙ ap (behind now) (sym left);
  };
  owes = owes ∙ ap (marks mark) (sym left);
}

-- It is.
skip_out : {V T : Type 0} (n : ℕ) (h : Heard) (link : Link V T) (part : Part T) (a : Stops true h link)
    (now : Session V) (mark : Option Reset) (middle : List (ServerStep V T))
    → line_turn (line n Cancelling h) (Come part) ≡ quiet (line n Idle (heard now mark Awaited)) (Acked n)
    → (middle ++ link.server.due ≡ [])
    → (without part.items part.close link.down ≡ middle)
    → (behind a.session link.down ≡ behind now middle)
    → (marks h.mark link.down ≡ marks mark middle)
    → SkipsOut n h link part
skip_out {V} {T} n h link part a now mark middle is e left session owes = record {
  after = heard now mark Awaited;
  is = is;
  still = record {
    up = still_up link.asking link.up true a.up;
    still = record {
      down = left ∙ (nothing_left middle link.server.due e).0;
      due = (nothing_left middle link.server.due e).1;
      transaction = sym (ap (λ (s : Session V). s.transaction) (a.server ∙ session ∙ ap (behind now) (nothing_left middle link.server.due e).0));
      done = refl;
    };
  };
  owes = owes ∙ ap (marks mark) (nothing_left middle link.server.due e).0;
}

skip_ends : {V T : Type 0} (n : ℕ) (h : Heard) (stopped : Bool) (link : Link V T) (part : Part T) (a : Stops stopped h link)
    (now : Session V) (mark : Option Reset) (done : FinalDone) (middle : List (ServerStep V T))
    → line_turn (line n Cancelling h) (Come part) ≡ end_of n h part (heard now mark done)
    → SettledBy stopped (acknowledged done) (middle ++ link.server.due) (Cancels stopped mark now false (middle ++ link.server.due))
    → (without part.items part.close link.down ≡ middle)
    → (behind a.session link.down ≡ behind now middle)
    → (marks h.mark link.down ≡ marks mark middle)
    → SkipsOn n h stopped link part ⊎ SkipsOut n h link part
skip_ends n h stopped link part a now mark Awaited middle is c left session owes =
    inl (skip_end n h stopped link part a now mark middle is (settled_open stopped (middle ++ link.server.due) (Cancels stopped mark now false (middle ++ link.server.due)) c) left session owes)
skip_ends n h stopped link part a now mark Answered middle is c left session owes =
    inl (skip_end n h stopped link part a now mark middle is (settled_open stopped (middle ++ link.server.due) (Cancels stopped mark now false (middle ++ link.server.due)) c) left session owes)
skip_ends n h true link part a now mark Acknowledged middle is c left session owes = inr (skip_out n h link part a now mark middle is c left session owes)
skip_ends n h false link part a now mark Acknowledged middle is c left session owes = absurd c

skip_closed : {V T : Type 0} (n : ℕ) (h : Heard) (stopped : Bool) (link : Link V T) (items : List (Item T)) (close : Close) (a : Stops stopped h link)
    (now : Session V) (mark : Option Reset) (done : FinalDone) (middle : List (ServerStep V T))
    → hear_items true h items ≡ Ok (heard now mark done)
    → Cancels stopped mark now (acknowledged done) (middle ++ link.server.due)
    → IsEnd close middle
    → (without items close link.down ≡ without_end close middle)
    → (behind a.session link.down ≡ behind now middle)
    → (marks h.mark link.down ≡ marks mark middle)
    → SkipsOn n h stopped link (part_of items close) ⊎ SkipsOut n h link (part_of items close)
skip_closed n h stopped link items parts.Goes a now mark done middle hears c end left session owes =
    inl (skip_goes n h stopped link items a now mark done middle hears c left session owes)
skip_closed n h stopped link items parts.Ends a now mark done [] hears c end left session owes = absurd end
skip_closed n h stopped link items parts.Ends a now mark done (Says item after ∷ middle) hears c end left session owes = absurd end
skip_closed n h stopped link items parts.Ends a now mark done (Breaks ∷ middle) hears c end left session owes = absurd end
skip_closed n h stopped link items parts.Ends a now mark done (Ends ∷ middle) hears c end left session owes =
    skip_ends n h stopped link (part_of items parts.Ends) a now mark done middle
    (end_turn n h (part_of items parts.Ends) (heard now mark done) refl (ap (then_close true parts.Ends) hears ∙ may_close (heard now mark done) done)) c left session owes
skip_closed n h stopped link items parts.Cut a now mark done [] hears c end left session owes = absurd end
skip_closed n h stopped link items parts.Cut a now mark done (Says item after ∷ middle) hears c end left session owes = absurd end
skip_closed n h stopped link items parts.Cut a now mark done (Ends ∷ middle) hears c end left session owes = absurd end
skip_closed n h stopped link items parts.Cut a now mark done (Breaks ∷ middle) hears c end left session owes =
    skip_ends n h stopped link (part_of items parts.Cut) a now mark done middle
    (end_turn n h (part_of items parts.Cut) (heard now mark done) refl (ap (then_close true parts.Cut) hears ∙ may_close (heard now mark done) done)) c left session owes
skip_closed n h stopped link items (parts.Fails refusal) a now mark done middle hears c end left session owes = absurd end

pub skip_comes : {V T : Type 0} (n : ℕ) (h : Heard) (stopped : Bool) (link : Link V T) (part : Part T) → Stops stopped h link
    → Comes (Come part) link.down link.server.due → SkipsOn n h stopped link part ⊎ SkipsOut n h link part
skip_comes {V} {T} n h stopped link part a c =
    let sk = skips_to stopped h.mark a.session h.done part.items part.close link.down link.server.due a.cancels c.1 in
    skip_closed n h stopped link part.items part.close a sk.now sk.left_mark sk.now_done sk.middle
    (ap (λ (x : Heard). hear_items true x part.items) (same_heard h a.session h.done a.transaction refl) ∙ sk.hears)
    sk.cancels sk.end sk.left sk.session sk.owes

-- ---- Where nothing is said nothing comes

pub nothing_comes : {V T : Type 0} (h : Heard) (link : Link V T) (part : Part T) → Still h link → Comes (Come part) link.down link.server.due → ⊥
nothing_comes {V} {T} h link part s c =
    subst (λ (xs : List (ServerStep V T)). HasSome (xs ++ [])) s.down (subst (λ (ys : List (ServerStep V T)). HasSome (link.down ++ ys)) s.due c.0)
