-- The server of one's own says what the other one says, but what that tells of resets.
use Rattle.std.proofs.Common.{◌≡◌, ◌∙◌, ◌⊎◌, ◌||◌, ◌==◌, ◌≤◌, ℕ, suc, Bool, true, false, List, [], ◌∷◌, ◌++◌, length, refl, sym, ap, subst, inl, inr, arith}
use Rattle.std.specs.Prelude.{Option, Some, None, if◌then◌else◌, nat_lt}
use Rattle.std.proofs.lemmas.Bool.Decides.{nat_tests}
use Rattle.tds_packet.specs.declared.status.Reset.{Reset}
use Rattle.tds_packet.specs.declared.status.Reset.TheVariants.{Full, KeepTransaction}
use Rattle.tds_packet.specs.Resets.{header_descriptor, strongest}
use Rattle.tds_token.specs.declared.env_change.EnvChange.TheVariants as changes
use Rattle.tds_client.specs.declared.heard.Heard.{Heard}
use Rattle.tds_client.specs.declared.sign.Sign.{Sign}
use Rattle.tds_client.specs.declared.sign.Sign.TheVariants as signs
use Rattle.tds_client.specs.Acts.{is_acknowledgement}
use Rattle.tds_service.specs.Parts.{Item, told_by}
use Rattle.tds_service.specs.Line.{Line, LineStage, Idle, Sending, Reading, Cancelling, Broken, Packet, OfRequest, Ignore, Attention, Act, Mark, Ask, Send, Cancel, Come, Lose, line_turn}
use Rattle.tds_service.specs.History.{done_by}
use Rattle.laws_conforming_server.specs.Lawful.{Session, ServerStep, Says, Ends, Breaks, AnyServer, IsLawful, IsStop, Leads, LeadsOut, UnlessAcknowledged, reset_by, reset_left, told_of}
use Rattle.laws_conforming_server.specs.Link as links
use Rattle.laws_conforming_server.specs.Link.{Link, Runs, Server, Asking, PacketUp, HasSome, MayTake, TakesNext, goes, session_behind, spoken, taken, takes}
use Rattle.laws_conforming_server.specs.Answering.{answer_by, answer_now, answered, or_later}
use Rattle.laws_conforming_server.specs.Agreeing.{NextInNamed, RunsInNamed, AllInNamed}
use Rattle.laws_conforming_server.specs.Starting.{owed_by_step, owed_here, owed_next, NextAsOwed, RunsAsOwed, SaidAsOwed, StartsFresh}
use Rattle.laws_conforming_server.specs.Alone.{Beside, DoesReset, IsBeside, IsChange, Own, ResetsFirst, alone_by, alone_now, answered_alone, beside_after, left_of_session, own_here, own_says, own_speaks, own_taken, own_takes}
use Rattle.laws_conforming_server.proofs.Flow.{Flow, FlowOn}
use Rattle.laws_conforming_server.proofs.Taking.{keeps_takes}
use Rattle.laws_conforming_server.proofs.Keeps.{keeps_act, keeps_speaks}
use Rattle.laws_conforming_server.proofs.Coming.{line, append_nothing}
use Rattle.laws_conforming_server.proofs.Plans.{Planned, Does, Takes, Speaks, moves_by}

-- ---- Both servers

-- What is due at the other is what is due at one's own, behind what does the reset.
pub record Doing {V T : Type 0} (settings : V) (owed : Option Reset) (s : Session V) (due own : List (ServerStep V T)) : Type 0 where
  pub front : List (ServerStep V T)
  pub split : due ≡ front ++ own
  pub does : DoesReset settings owed s front

-- Nothing is due at the other, or what is said to an attention.
abbrev pub Stopping : {V T : Type 0} → Session V → List (ServerStep V T) → Type 0
Stopping s due = (due ≡ []) ⊎ ((acked : Bool) × IsStop s acked due)

abbrev pub DueBeside : {V T : Type 0} → V → Option Reset → Session V → List (ServerStep V T) → List (ServerStep V T) → Type 0
DueBeside settings None s due own = Doing settings None s due own
DueBeside settings (Some reset) s due own = Doing settings (Some reset) s due own ⊎ ((own ≡ []) × Stopping s due)

pub record Twin {V T : Type 0} (settings : V) (owed : Option Reset) (s : Session V) (due : List (ServerStep V T)) (own : Own V T) : Type 0 where
  pub same : own.session ≡ left_of_session settings owed s
  pub left : DueBeside settings owed s due own.due

stopping_beside : {V T : Type 0} (due own : List (ServerStep V T)) → own ≡ [] → due ≡ due ++ own
stopping_beside {V} {T} due own e = sym (ap (λ (d : List (ServerStep V T)). due ++ d) e ∙ append_nothing due)

due_beside : {V T : Type 0} (settings : V) (owed : Option Reset) (s : Session V) (due own : List (ServerStep V T)) → DueBeside settings owed s due own
    → (before : List (ServerStep V T)) × (due ≡ before ++ own)
due_beside settings None s due own d = (d.front, d.split)
due_beside settings (Some reset) s due own (inl d) = (d.front, d.split)
due_beside settings (Some reset) s due own (inr d) = (due, stopping_beside due own d.0)

is_beside : {V T : Type 0} (settings : V) (owed : Option Reset) (link : Link V T) (own : Own V T) → Twin settings owed link.server.session link.server.due own
    → IsBeside settings (record { link = link; owed = owed; own = own })
is_beside settings owed link own t =
    let d = due_beside settings owed link.server.session link.server.due own.due t.left in
    record { session = t.same; before = d.0; due = d.1 }

-- one's own is a new one
pub twin_new : {V : Type 0} (T : Type 0) (settings : V) (owed : Option Reset) (s : Session V)
    → Twin {T = T} settings owed s [] (record { session = left_of_session settings owed s; due = [] })
twin_new T settings None s = record { same = refl; left = record { front = []; split = refl; does = refl } }
twin_new T settings (Some reset) s = record { same = refl; left = inr (refl, inl refl) }

-- ---- What does a reset is told to nobody

untold : {T : Type 0} (sign : Sign) (token : T) (others : List T) → IsChange sign → told_by sign token others ≡ others
untold signs.Nothing token others c = absurd c
untold (signs.Change change) token others c = refl
untold (signs.Done kind status) token others c = absurd c

told_change : {T : Type 0} (item : Item T) (others : List T) → IsChange item.sign → told_by item.sign item.token others ≡ others
told_change {T} item others = untold item.sign item.token others

told_behind : {V T : Type 0} (settings : V) (owed : Option Reset) (s : Session V) (front own : List (ServerStep V T)) → DoesReset settings owed s front
    → told_of (front ++ own) ≡ told_of own
told_behind settings owed s [] own d = refl
told_behind settings owed s (Says item after ∷ front) own d =
    told_change item (told_of (front ++ own)) d.0 ∙ told_behind settings (reset_left owed item.sign) after front own d.2
told_behind settings owed s (Ends ∷ front) own d = absurd d
told_behind settings owed s (Breaks ∷ front) own d = absurd d

told_doing : {V T : Type 0} (settings : V) (owed : Option Reset) (s : Session V) (due own : List (ServerStep V T)) → Doing settings owed s due own → told_of due ≡ told_of own
told_doing {V} {T} settings owed s due own d = ap (λ (x : List (ServerStep V T)). told_of x) d.split ∙ told_behind settings owed s d.front own d.does

-- ---- The server takes a packet

pub record Answers {V T : Type 0} (settings : V) (owed : Option Reset) (s : Session V) (due own : List (ServerStep V T)) : Type 0 where
  pub doing : Doing settings owed s due own
  pub beside : DueBeside settings owed s due own

-- the answer to a request
answers_now : {V T : Type 0} (engine : AnyServer V T) (first : ResetsFirst engine) (owed : Option Reset) (s : Session V) (request named : ℕ) (own : Own V T)
    → own.session ≡ left_of_session engine.settings owed s → named ≡ header_descriptor owed s.transaction
    → Answers engine.settings owed s (engine.answers request s owed named) (engine.answers request own.session None own.session.transaction)
answers_now {V} {T} engine first None s request named own e f =
    let split : engine.answers request s None named ≡ engine.answers request own.session None own.session.transaction =
    ap (λ (n : ℕ). engine.answers request s None n) f ∙ ap (λ (x : Session V). engine.answers request x None x.transaction) (sym e) in
    let d : Doing engine.settings None s (engine.answers request s None named) (engine.answers request own.session None own.session.transaction) =
    record { front = []; split = split; does = refl } in
    record { doing = d; beside = d }
answers_now {V} {T} engine first (Some reset) s request named own e f =
    let there : List (ServerStep V T) = engine.answers request own.session None own.session.transaction in
    let split : engine.answers request s (Some reset) named ≡ first.resets request s reset named ++ there =
    first.answers request s reset named
    ∙ ap (λ (n : ℕ). first.resets request s reset named ++ engine.answers request (reset_by engine.settings reset s) None n) f
    ∙ ap (λ (x : Session V). first.resets request s reset named ++ engine.answers request x None x.transaction) (sym e) in
    let d : Doing engine.settings (Some reset) s (engine.answers request s (Some reset) named) there =
    record { front = first.resets request s reset named; split = split; does = first.does request s reset named } in
    record { doing = d; beside = inl d }

answers_asked : {V T : Type 0} (engine : AnyServer V T) (first : ResetsFirst engine) (owed : Option Reset) (server : Server V T) (asking : Asking) (request : ℕ) (reset : Option Reset) (own : Own V T)
    → own.session ≡ left_of_session engine.settings owed server.session → reset ≡ owed → asking.named ≡ header_descriptor reset server.session.transaction
    → Answers engine.settings owed server.session (engine.answers request server.session reset asking.named) (engine.answers request own.session None own.session.transaction)
answers_asked {V} {T} engine first owed server asking request reset own e r f =
    subst (λ (m : Option Reset). Answers engine.settings owed server.session (engine.answers request server.session m asking.named) (engine.answers request own.session None own.session.transaction)) (sym r)
    (answers_now engine first owed server.session request asking.named own e (f ∙ ap (λ (m : Option Reset). header_descriptor m server.session.transaction) r))

twin_attention : {V T : Type 0} (engine : AnyServer V T) (lawful : IsLawful engine) (owed : Option Reset) (server : Server V T) (asking : Asking) (own : Own V T)
    → own.session ≡ left_of_session engine.settings owed server.session
    → Twin engine.settings owed server.session (engine.stops asking.request server.session) (own_takes engine owed asking Attention own)
twin_attention {V} {T} engine lawful None server asking own e = record {
  same = e;
  left = record { front = []; split = ap (λ (x : Session V). engine.stops asking.request x) (sym e); does = refl };
}
twin_attention engine lawful (Some reset) server asking own e = record {
  same = e;
  left = inr (refl, inr (false, lawful.stops asking.request server.session));
}

twin_takes : {V T : Type 0} (engine : AnyServer V T) (lawful : IsLawful engine) (first : ResetsFirst engine) (owed : Option Reset) (server : Server V T) (asking : Asking) (packet : Packet) (own : Own V T)
    → RunsAsOwed owed server packet → RunsInNamed server asking packet → Twin engine.settings owed server.session server.due own
    → Twin engine.settings owed (takes engine server asking packet).session (takes engine server asking packet).due (own_takes engine owed asking packet own)
twin_takes engine lawful first owed server asking (OfRequest request one reset true) own r n t = record {
  same = t.same;
  left = (answers_asked engine first owed server asking request (if one then reset else server.reset) own t.same r n.1).beside;
}
twin_takes engine lawful first owed server asking (OfRequest request one reset false) own r n t = t
twin_takes engine lawful first owed server asking (Ignore request) own r n t = t
twin_takes engine lawful first owed server asking Attention own r n t = twin_attention engine lawful owed server asking own t.same

twin_taken : {V T : Type 0} (engine : AnyServer V T) (lawful : IsLawful engine) (first : ResetsFirst engine) (owed : Option Reset) (link : Link V T) (u : List PacketUp) (own : Own V T)
    → NextAsOwed owed link.server u → NextInNamed link.server u → Twin engine.settings owed link.server.session link.server.due own
    → Twin engine.settings owed (taken engine link u).server.session (taken engine link u).server.due (own_taken engine owed u own)
twin_taken engine lawful first owed link [] own r n t = t
twin_taken engine lawful first owed link (next ∷ others) own r n t = twin_takes engine lawful first owed link.server next.asking next.packet own r n t

-- ---- What both answer

chosen_alike : {V T : Type 0} (b : Bool) (x y now there : List (ServerStep V T)) → told_of x ≡ told_of y → told_of now ≡ told_of there
    → told_of (or_later (if b then Some x else None) now) ≡ told_of (or_later (if b then Some y else None) there)
chosen_alike true x y now there e f = e
chosen_alike false x y now there e f = f

told_packet : {V T : Type 0} (engine : AnyServer V T) (first : ResetsFirst engine) (owed : Option Reset) (link : Link V T) (r : ℕ) (asking : Asking) (packet : Packet) (own : Own V T) (now there : List (ServerStep V T))
    → RunsAsOwed owed link.server packet → RunsInNamed link.server asking packet → own.session ≡ left_of_session engine.settings owed link.server.session
    → told_of now ≡ told_of there
    → told_of (or_later (answer_by engine link.server asking r packet) now) ≡ told_of (or_later (alone_by engine owed r asking packet own) there)
told_packet engine first owed link r asking (OfRequest request one reset true) own now there a n e f =
    let d = (answers_asked engine first owed link.server asking request (if one then reset else link.server.reset) own e a n.1).doing in
    chosen_alike (request == r) _ _ now there (told_doing engine.settings owed link.server.session _ _ d) f
told_packet engine first owed link r asking (OfRequest request one reset false) own now there a n e f = f
told_packet engine first owed link r asking (Ignore request) own now there a n e f = f
told_packet engine first owed link r asking Attention own now there a n e f = f

told_by_both : {V T : Type 0} (engine : AnyServer V T) (first : ResetsFirst engine) (owed : Option Reset) (link : Link V T) (r : ℕ) (u : List PacketUp) (own : Own V T) (now there : List (ServerStep V T))
    → NextAsOwed owed link.server u → NextInNamed link.server u → own.session ≡ left_of_session engine.settings owed link.server.session
    → told_of now ≡ told_of there
    → told_of (or_later (answer_now engine link r u) now) ≡ told_of (or_later (alone_now engine owed r u own) there)
told_by_both engine first owed link r [] own now there a n e f = f
told_by_both engine first owed link r (next ∷ others) own now there a n e f = told_packet engine first owed link r next.asking next.packet own now there a n e f

-- ---- The server says the next thing

none_more : {V T : Type 0} (step : ServerStep V T) (due : List (ServerStep V T)) → step ∷ due ≡ [] → ⊥
none_more step due e = cc

first_same : {A : Type 0} (x y : A) (xs ys : List A) → x ∷ xs ≡ y ∷ ys → (x ≡ y) × (xs ≡ ys)
first_same x y xs ys e = (cc, cc)

some_reset : (reset : Reset) → Some reset ≡ None → ⊥
some_reset reset e = cc

left_at : {A : Type 0} (front own : List A) → length own ≤ length (front ++ own)
left_at [] own = omega arith
left_at (x ∷ front) own = let h = left_at front own in omega arith

below : (n m : ℕ) → n ≤ m → nat_lt n (suc m) ≡ true
below n m h = grind (arith, nat_tests)

same_length : (n : ℕ) → nat_lt n n ≡ false
same_length n = grind (arith, nat_tests)

none_owed : (sign : Sign) → reset_left None sign ≡ None
none_owed signs.Nothing = refl
none_owed (signs.Change (changes.Begin d)) = refl
none_owed (signs.Change (changes.Commit d)) = refl
none_owed (signs.Change (changes.Rollback d)) = refl
none_owed (signs.Change changes.ResetDone) = refl
none_owed (signs.Done kind status) = refl

none_behind : {V T : Type 0} (step : ServerStep V T) → owed_by_step None step ≡ None
none_behind (Says item after) = none_owed item.sign
none_behind Ends = refl
none_behind Breaks = refl

-- as much is due at both
says_both : {V T : Type 0} (settings : V) (s : Session V) (step : ServerStep V T) (due : List (ServerStep V T)) (own : Own V T) → own.session ≡ s → step ∷ due ≡ own.due
    → Twin settings None (session_behind s step) due (own_speaks settings None s (step ∷ due) own)
says_both {V} {T} settings s step due own e f =
    let there : Own V T = record { session = session_behind s step; due = due } in
    let is : own_speaks settings None s (step ∷ due) own ≡ there =
    ap (λ (b : Bool). if b then own else own_says own.session own.due) (ap (λ (d : List (ServerStep V T)). nat_lt (length d) (length (step ∷ due))) (sym f) ∙ same_length (length (step ∷ due)))
    ∙ ap (λ (d : List (ServerStep V T)). own_says own.session d) (sym f)
    ∙ ap (λ (x : Session V). own_says x (step ∷ due)) e in
    subst (λ (o : Own V T). Twin settings None (session_behind s step) due o) (sym is)
    (record { same = refl; left = record { front = []; split = refl; does = refl } })

-- more is due at the other, which tells of the reset
waits_own : {V T : Type 0} (settings : V) (s after : Session V) (item : Item T) (front due : List (ServerStep V T)) (own : Own V T)
    → own.session ≡ s → due ≡ front ++ own.due → after ≡ s → DoesReset settings None after front
    → Twin settings None after due (own_speaks settings None s (Says item after ∷ due) own)
waits_own {V} {T} settings s after item front due own e f g d =
    let more : length own.due ≤ length due = subst (λ (x : List (ServerStep V T)). length own.due ≤ length x) (sym f) (left_at front own.due) in
    subst (λ (o : Own V T). Twin settings None after due o)
    (sym (ap (λ (b : Bool). if b then own else own_says own.session own.due) (below (length own.due) (length due) more)))
    (record { same = e ∙ sym g; left = record { front = front; split = f; does = d } })

resets_none : {V T : Type 0} (settings : V) (item : Item T) (after : Session V) (front : List (ServerStep V T)) → DoesReset settings (reset_left None item.sign) after front
    → DoesReset settings None after front
resets_none {V} {T} settings item after front d = subst (λ (m : Option Reset). DoesReset settings m after front) (none_owed item.sign) d

speaks_none : {V T : Type 0} (settings : V) (s : Session V) (step : ServerStep V T) (due : List (ServerStep V T)) (own : Own V T) (front : List (ServerStep V T))
    → own.session ≡ s → step ∷ due ≡ front ++ own.due → DoesReset settings None s front
    → Twin settings None (session_behind s step) due (own_speaks settings None s (step ∷ due) own)
speaks_none settings s step due own [] e f d = says_both settings s step due own e f
speaks_none {V} {T} settings s step due own (Says item after ∷ front) e f d =
    let both = first_same step (Says item after) due (front ++ own.due) f in
    subst (λ (x : ServerStep V T). Twin settings None (session_behind s x) due (own_speaks settings None s (x ∷ due) own)) (sym both.0)
    (waits_own settings s after item front due own e both.1 d.1 (resets_none settings item after front d.2))
speaks_none settings s step due own (Ends ∷ front) e f d = absurd d
speaks_none settings s step due own (Breaks ∷ front) e f d = absurd d

-- ---- It does a reset

kept_by : {V : Type 0} (settings : V) (reset : Reset) (s : Session V) → reset_by settings reset (reset_by settings reset s) ≡ reset_by settings reset s
kept_by settings Full s = refl
kept_by settings KeepTransaction s = refl

done_reset : {V : Type 0} (settings : V) (reset : Reset) (s after : Session V) → after ≡ reset_by settings reset s → reset_by settings reset after ≡ after
done_reset {V} settings reset s after e = ap (λ (x : Session V). reset_by settings reset x) e ∙ kept_by settings reset s ∙ sym e

-- the reset's end isn't said to an attention
ends_reset : {V : Type 0} (settings : V) (reset : Reset) (s after : Session V)
    → (after ≡ reset_by settings reset s) ⊎ ⊥ → reset_by settings reset after ≡ after
ends_reset settings reset s after (inl e) = done_reset settings reset s after e
ends_reset settings reset s after (inr e) = absurd e

does_next : {V T : Type 0} (settings : V) (reset : Reset) (s after : Session V) (sign : Sign) (token : T) (front due : List (ServerStep V T)) (own : Own V T)
    → IsChange sign → Leads settings (Some reset) s sign after ⊎ LeadsOut s sign after → due ≡ front ++ own.due
    → DoesReset settings (reset_left (Some reset) sign) after front
    → Twin settings (reset_left (Some reset) sign) after due (record { session = reset_by settings reset after; due = own.due })
does_next settings reset s after signs.Nothing token front due own c a f d = absurd c
does_next settings reset s after (signs.Change (changes.Begin x)) token front due own c a f d =
    record { same = refl; left = inl (record { front = front; split = f; does = d }) }
does_next settings reset s after (signs.Change (changes.Commit x)) token front due own c a f d =
    record { same = refl; left = inl (record { front = front; split = f; does = d }) }
does_next settings reset s after (signs.Change (changes.Rollback x)) token front due own c a f d =
    record { same = refl; left = inl (record { front = front; split = f; does = d }) }
does_next settings reset s after (signs.Change changes.ResetDone) token front due own c a f d =
    record { same = ends_reset settings reset s after a; left = record { front = front; split = f; does = d } }
does_next settings reset s after (signs.Done kind status) token front due own c a f d = absurd c

speaks_some : {V T : Type 0} (settings : V) (reset : Reset) (s : Session V) (step : ServerStep V T) (due : List (ServerStep V T)) (own : Own V T) (front : List (ServerStep V T))
    → SaidAsOwed settings (Some reset) s (step ∷ due) → step ∷ due ≡ front ++ own.due → DoesReset settings (Some reset) s front
    → Twin settings (owed_by_step (Some reset) step) (session_behind s step) due (own_speaks settings (Some reset) s (step ∷ due) own)
speaks_some settings reset s step due own [] a f d = absurd (some_reset reset d)
speaks_some {V} {T} settings reset s step due own (Says item after ∷ front) a f d =
    let both = first_same step (Says item after) due (front ++ own.due) f in
    subst (λ (x : ServerStep V T). SaidAsOwed settings (Some reset) s (x ∷ due)
    → Twin settings (owed_by_step (Some reset) x) (session_behind s x) due (own_speaks settings (Some reset) s (x ∷ due) own)) (sym both.0)
    (λ b. does_next settings reset s after item.sign item.token front due own d.0 b both.1 d.2) a
speaks_some settings reset s step due own (Ends ∷ front) a f d = absurd d
speaks_some settings reset s step due own (Breaks ∷ front) a f d = absurd d

-- ---- It says something to an attention

stop_left : {V T : Type 0} (s : Session V) (acked : Bool) (due : List (ServerStep V T)) → UnlessAcknowledged acked due (IsStop s false due) → Stopping s due
stop_left s true due a = inl a
stop_left s false due a = inr (false, a)

stops_next : {V T : Type 0} (settings : V) (reset : Reset) (s after : Session V) (acked : Bool) (sign : Sign) (due : List (ServerStep V T)) (own : Own V T)
    → own.due ≡ [] → LeadsOut s sign after → IsStop after acked due
    → Twin settings (reset_left (Some reset) sign) after due (record { session = reset_by settings reset after; due = own.due })
stops_next settings reset s after acked signs.Nothing due own e a b = record { same = refl; left = inr (e, inr (acked, b)) }
stops_next settings reset s after acked (signs.Change (changes.Begin x)) due own e a b = absurd a
stops_next settings reset s after acked (signs.Change (changes.Commit x)) due own e a b = absurd a
stops_next settings reset s after acked (signs.Change (changes.Rollback x)) due own e a b = record { same = refl; left = inr (e, inr (acked, b)) }
stops_next settings reset s after acked (signs.Change changes.ResetDone) due own e a b = absurd a
stops_next settings reset s after acked (signs.Done kind status) due own e a b = record { same = refl; left = inr (e, inr (acked, b)) }

speaks_stop : {V T : Type 0} (settings : V) (reset : Reset) (s : Session V) (acked : Bool) (step : ServerStep V T) (due : List (ServerStep V T)) (own : Own V T)
    → own.due ≡ [] → IsStop s acked (step ∷ due)
    → Twin settings (owed_by_step (Some reset) step) (session_behind s step) due (own_speaks settings (Some reset) s (step ∷ due) own)
speaks_stop settings reset s acked (Says item after) due own e a =
    stops_next settings reset s after (acked || is_acknowledgement item.sign) item.sign due own e a.0 a.1
speaks_stop settings reset s acked Ends due own e a = record { same = refl; left = inr (e, stop_left s acked due a) }
speaks_stop settings reset s acked Breaks due own e a = record { same = refl; left = inr (e, stop_left s acked due a) }

speaks_stopping : {V T : Type 0} (settings : V) (reset : Reset) (s : Session V) (step : ServerStep V T) (due : List (ServerStep V T)) (own : Own V T)
    → own.due ≡ [] → Stopping s (step ∷ due)
    → Twin settings (owed_by_step (Some reset) step) (session_behind s step) due (own_speaks settings (Some reset) s (step ∷ due) own)
speaks_stopping settings reset s step due own e (inl a) = absurd (none_more step due a)
speaks_stopping settings reset s step due own e (inr (acked, a)) = speaks_stop settings reset s acked step due own e a

twin_owed : {V T : Type 0} (settings : V) (reset : Reset) (s : Session V) (step : ServerStep V T) (due : List (ServerStep V T)) (own : Own V T)
    → SaidAsOwed settings (Some reset) s (step ∷ due) → DueBeside settings (Some reset) s (step ∷ due) own.due
    → Twin settings (owed_by_step (Some reset) step) (session_behind s step) due (own_speaks settings (Some reset) s (step ∷ due) own)
twin_owed settings reset s step due own a (inl d) = speaks_some settings reset s step due own d.front a d.split d.does
twin_owed settings reset s step due own a (inr d) = speaks_stopping settings reset s step due own d.0 d.1

twin_says : {V T : Type 0} (settings : V) (owed : Option Reset) (s : Session V) (step : ServerStep V T) (due : List (ServerStep V T)) (own : Own V T)
    → SaidAsOwed settings owed s (step ∷ due) → Twin settings owed s (step ∷ due) own
    → Twin settings (owed_by_step owed step) (session_behind s step) due (own_speaks settings owed s (step ∷ due) own)
twin_says {V} {T} settings None s step due own a t =
    subst (λ (m : Option Reset). Twin settings m (session_behind s step) due (own_speaks settings None s (step ∷ due) own)) (sym (none_behind step))
    (speaks_none settings s step due own t.left.front t.same t.left.split t.left.does)
twin_says settings (Some reset) s step due own a t = twin_owed settings reset s step due own a t.left

twin_speaks : {V T : Type 0} (settings : V) (owed : Option Reset) (link : Link V T) (due : List (ServerStep V T)) (own : Own V T)
    → link.server.due ≡ due → HasSome due → SaidAsOwed settings owed link.server.session due → Twin settings owed link.server.session due own
    → Twin settings (owed_next owed due) (spoken link due).server.session (spoken link due).server.due (own_speaks settings owed link.server.session due own)
twin_speaks settings owed link [] own e h a t = absurd h
twin_speaks settings owed link (step ∷ due) own e h a t = twin_says settings owed link.server.session step due own a t

-- ---- Something is done at the client's end

twin_act : {V T : Type 0} (engine : AnyServer V T) (owed : Option Reset) (n : ℕ) (stage : LineStage) (h : Heard) (link : Link V T) (a : Act T) (own : Own V T)
    → Flow engine n stage h link → Twin engine.settings owed link.server.session link.server.due own
    → Twin engine.settings (owed_here owed a (line_turn (line n stage h) a).answer) link.server.session link.server.due
    (own_here engine.settings (owed_here owed a (line_turn (line n stage h) a).answer) link.server.session a (line_turn (line n stage h) a).answer own)
twin_act {V} {T} engine owed n Idle h link (Mark reset) own f t =
    subst (λ (d : List (ServerStep V T)). Twin engine.settings (strongest (Some reset) owed) link.server.session d
    (record { session = left_of_session engine.settings (strongest (Some reset) owed) link.server.session; due = [] })) (sym f.still.due)
    (twin_new T engine.settings (strongest (Some reset) owed) link.server.session)
twin_act engine owed n (Sending begun) h link (Mark reset) own f t = t
twin_act engine owed n Reading h link (Mark reset) own f t = t
twin_act engine owed n Cancelling h link (Mark reset) own f t = t
twin_act engine owed n (Broken fault) h link (Mark reset) own f t = t
twin_act engine owed n stage h link Ask own f t = t
twin_act engine owed n stage h link (Send last) own f t = t
twin_act engine owed n stage h link Cancel own f t = t
twin_act engine owed n stage h link (Come part) own f t = t
twin_act engine owed n stage h link Lose own f t = t

-- ---- Along a run

abbrev pub besides : {V T : Type 0} → Link V T → Option Reset → Own V T → Beside V T
besides link owed own = record { link = link; owed = owed; own = own }

-- The same is told, and they end beside each other.
pub record AsAlone {V T : Type 0} (engine : AnyServer V T) (r : ℕ) (b : Beside V T) (moves : List (links.Move T)) : Type 0 where
  pub told : told_of (answered engine b.link r moves) ≡ told_of (answered_alone engine b r moves)
  pub ends : IsBeside engine.settings (beside_after engine b moves)

pub as_alone : {V T : Type 0} (engine : AnyServer V T) (lawful : IsLawful engine) (first : ResetsFirst engine) (r : ℕ) (owed : Option Reset) (own : Own V T) (l : Line) (link : Link V T) (plan : List (Planned T))
    → FlowOn engine l link → Twin engine.settings owed link.server.session link.server.due own
    → StartsFresh engine owed link (moves_by l plan) → AllInNamed engine link (moves_by l plan) → Runs engine link (moves_by l plan)
    → AsAlone engine r (besides link owed own) (moves_by l plan)
as_alone engine lawful first r owed own l link [] f t s n runs = record { told = refl; ends = is_beside engine.settings owed link own t }
as_alone engine lawful first r owed own l link (Does a ∷ plan) f t s n runs =
    let ih = as_alone engine lawful first r (owed_here owed a (line_turn l a).answer)
    (own_here engine.settings (owed_here owed a (line_turn l a).answer) link.server.session a (line_turn l a).answer own)
    (line_turn l a).line (goes engine link (links.Here (done_by a (line_turn l a)))) plan
    (keeps_act engine l.asked l.stage l.heard link a f runs.0)
    (twin_act engine owed l.asked l.stage l.heard link a own f t) s n runs.1 in
    record { told = ih.told; ends = ih.ends }
as_alone engine lawful first r owed own l link (Takes ∷ plan) f t s n runs =
    let ih = as_alone engine lawful first r owed (own_taken engine owed link.up own) l (goes engine link links.Takes) plan
    (keeps_takes engine lawful l.asked l.stage l.heard link f runs.0)
    (twin_taken engine lawful first owed link link.up own s.0 n.0 t) s.1 n.1 runs.1 in
    record {
      told = told_by_both engine first owed link r link.up own
          (answered engine (goes engine link links.Takes) r (moves_by l plan))
          (answered_alone engine (besides (goes engine link links.Takes) owed (own_taken engine owed link.up own)) r (moves_by l plan))
          s.0 n.0 t.same ih.told;
      ends = ih.ends;
    }
as_alone engine lawful first r owed own l link (Speaks ∷ plan) f t s n runs =
    let ih = as_alone engine lawful first r (owed_next owed link.server.due) (own_speaks engine.settings owed link.server.session link.server.due own) l (goes engine link links.Speaks) plan
    (keeps_speaks engine l.asked l.stage l.heard link f runs.0)
    (twin_speaks engine.settings owed link link.server.due own refl runs.0 s.0 t) s.1 n runs.1 in
    record { told = ih.told; ends = ih.ends }
