-- What each request of a connection found and left, and what an attention does to that.
use Rattle.std.proofs.Common.{◌≡◌, ◌⊎◌, ◌<◌, ℕ, List, [], ◌∷◌, ◌++◌, drop, inl, inr, Bool, true, false, eqb, refl, sym, ap, subst, ◌∙◌, Option, Some, None, option_map}
use Rattle.std.specs.List.{AllByRecursion}
use Rattle.tds_session.specs.declared.attention.OnAttention.{OnAttention}
use Rattle.tds_session.specs.declared.attention.OnAttention.TheVariants as on_attention
use Rattle.tds_session.specs.Answer as answer
use Rattle.tds_session.specs.Answer.{Answers, reset_step}
use Rattle.tds_session.specs.Attention.{rolls_back, stop_by}
use Rattle.tds_session.specs.Session.{SessionState, new_session}
use Rattle.tds_token.specs.declared.env_change.EnvChange.{EnvChange}
use Rattle.tds_token.specs.declared.env_change.EnvChange.TheVariants as change
use Rattle.tds_world.specs.alone.Alone.{session_after, left_by, rolls_among, Progress, MayRollBack}
use Rattle.tds_world.specs.Arrivals.{server_acts, acknowledged_at, is_midway}
use Rattle.tds_world.specs.Connection.{Connection}
use Rattle.tds_world.specs.Entries.{Asking, Packet, Up, Part, End, Drop, Attention, Down, Acknowledgement}
use Rattle.tds_world.specs.Lane.{passed}
use Rattle.tds_world.specs.Phase.{Phase, Settled, Asked, Sending, Reading, Cancelling, phase_in, phase_of}
use Rattle.tds_world.specs.Record.{Record}
use Rattle.tds_world.specs.Steps.{sent_down}
use Rattle.tds_world.proofs.flow.Flow.{FlowIn, number_in, SoundWith}
use Rattle.tds_world.proofs.flow.Stops.{rolls, rolls_nothing}
use Rattle.tds_world.proofs.reports.Asks.{one_behind}
use Rattle.tds_world.proofs.requests.Asking.{ByRan, NewestWith, Newest}
use Rattle.tds_world.proofs.requests.Cores.{Core, core_of, past_of, newest_of, SameCores}
use Rattle.tds_world.proofs.requests.Marks.{none_done}
use Rattle.tds_world.proofs.requests.Numbers.{NumbersOf}
use Rattle.tds_world.proofs.requests.Runs.{runs_in}
use Rattle.tds_world.proofs.alone.Progress.{NoneLater, among, all_same, later_same, differs, plain_ack, other_ack, own_ack, steps_ack, older_ack}

-- All steps of the answer to what is asked, in this session, its reset apart.
abbrev pub whole_of : Answers → SessionState → Asking → List answer.Step
whole_of answers ran a = answers ran a.descriptor None a.request

-- Where servers do this at an attention.
module _ (attention : OnAttention) where
  -- What a request found, and left when it had got so far.
  abbrev pub Found : Answers → Progress → SessionState → Asking → Option SessionState → SessionState → Type 0
  Found answers got before a None after = (before ≡ after) × (got.done ≡ 0) × (got.rolled ≡ false)
  Found answers got before a (Some ran) after =
      (ran ≡ runs_in a.mark before) × MayRollBack attention got.rolled
      × (after ≡ left_by got.rolled (session_after ran got.done (whole_of answers ran a)))

  -- Each of them got so far.
  abbrev pub Thread : Answers → (ℕ → Progress) → SessionState → List Core → SessionState → Type 0
  Thread answers got before [] after = before ≡ after
  Thread answers got before (x ∷ xs) after = (m : SessionState) × (Found answers (got x.number) before x.asking x.ran m × Thread answers got m xs after)

  -- The newest one has left this session so far, and these steps are due.
  abbrev pub Going : Answers → Progress → SessionState → Asking → Option SessionState → SessionState → List answer.Step → Type 0
  Going answers got before a None s due = (before ≡ s) × (got.done ≡ 0) × (got.rolled ≡ false)
  Going answers got before a (Some ran) s due =
      (ran ≡ runs_in a.mark before) × MayRollBack attention got.rolled
      × (s ≡ left_by got.rolled (session_after ran got.done (whole_of answers ran a)))
      × ((due ≡ []) ⊎ ((got.rolled ≡ false) × (due ≡ drop got.done (whole_of answers ran a))))

  abbrev pub GoingIn : Answers → (ℕ → Progress) → SessionState → Option Core → SessionState → List answer.Step → Type 0
  GoingIn answers got before None s due = before ≡ s
  GoingIn answers got before (Some x) s due = Going answers (got x.number) before x.asking x.ran s due

  abbrev pub Chained : Answers → (ℕ → Progress) → List Core → Option Core → SessionState → List answer.Step → Type 0
  Chained answers got past o s due = (m : SessionState) × (Thread answers got new_session past m × GoingIn answers got m o s due)

  pub record ChainOf (answers : Answers) (sent : List Down) (c : Connection) : Type 0 where
    pub told : c.on_attention ≡ attention
    pub chained : Chained answers (among sent) (past_of c) (newest_of c) c.session c.due
    pub later : NoneLater (among sent) (newest_of c)

  abbrev pub ChainWith : Answers → Connection → List Down → Type 0
  ChainWith answers c downs = ChainOf answers (c.to_client.arrived ++ downs) c

  abbrev pub Chain : Answers → Connection → Type 0
  Chain answers c = ChainWith answers c c.to_client.waiting

  -- ---- What leaves the requests and the session

  pub chain_same : (answers : Answers) (sent : List Down) (c d : Connection) → SameCores c d → d.session ≡ c.session → d.due ≡ c.due → d.on_attention ≡ c.on_attention → ChainOf answers sent c → ChainOf answers sent d
  chain_same answers sent c d s e f o h = record {
    told = o ∙ h.told;
    chained = subst (λ xs. Chained answers (among sent) xs (newest_of d) d.session d.due) (sym s.0)
        (subst (λ o. Chained answers (among sent) (past_of c) o d.session d.due) (sym s.1)
        (subst (λ t. Chained answers (among sent) (past_of c) (newest_of c) t d.due) (sym e)
        (subst (λ ss. Chained answers (among sent) (past_of c) (newest_of c) c.session ss) (sym f) h.chained)));
    later = subst (NoneLater (among sent)) (sym s.1) h.later;
  }

  -- Counts that are the same.
  pub thread_same : (answers : Answers) (f g : ℕ → Progress) (before : SessionState) (xs : List Core) (after : SessionState) → AllByRecursion (λ (x : Core). f x.number ≡ g x.number) xs → Thread answers f before xs after → Thread answers g before xs after
  thread_same answers f g before [] after e h = h
  thread_same answers f g before (x ∷ xs) after e h =
      (h.0, (subst (λ n. Found answers n before x.asking x.ran h.0) e.0 h.1.0, thread_same answers f g h.0 xs after e.1 h.1.1))

  going_same : (answers : Answers) (f g : ℕ → Progress) (m : SessionState) (o : Option Core) (s : SessionState) (due : List answer.Step) → ((n : ℕ) → f n ≡ g n) → GoingIn answers f m o s due → GoingIn answers g m o s due
  going_same answers f g m None s due e h = h
  going_same answers f g m (Some x) s due e h = subst (λ n. Going answers n m x.asking x.ran s due) (e x.number) h

  -- A server that keeps transactions rolls none back.
  may_roll : (o : OnAttention) (midway : Bool) (s : SessionState) → o ≡ attention → MayRollBack attention (rolls_back o midway s)
  may_roll o midway s e = subst (λ x. MayRollBack x (rolls_back o midway s)) e (by_option o)
    where
      by_option : (x : OnAttention) → MayRollBack x (rolls_back x midway s)
      by_option on_attention.Keep = refl
      by_option on_attention.RollBack = tt

  -- An answer becomes due of a request that did not run.
  starts_going : (answers : Answers) (got : ℕ → Progress) (c : Connection) (m : SessionState) (o : Option Record) (r : ℕ) (a : Asking) (p : Packet) (es : List Up) (downs : List Down) (due more : List answer.Step) → Newest answers c (End r a p ∷ es) downs o → GoingIn answers got m (option_map core_of o) c.session due → GoingIn answers got m (option_map core_of o) c.session more
  starts_going answers got c m None r a p es downs due more f h = h
  starts_going answers got c m (Some q) r a p es downs due more f h = by_ran q.ran f h
    where
      by_ran : (ran : Option SessionState) → ByRan answers c (End r a p ∷ es) downs (phase_of q) q.asking ran → Going answers (got q.number) m q.asking ran c.session due → Going answers (got q.number) m q.asking ran c.session more
      by_ran None k g = g
      by_ran (Some ran) k g = absurd k.ends

  -- An attention is of the newest request.
  attention_number : (p : Phase) (r k a : ℕ) (es : List Up) (downs : List Down) (parts : List ℕ) (due : List answer.Step) → FlowIn p r a (Attention k ∷ es) downs parts due → k ≡ r
  attention_number Settled r k a es downs parts due f = let z : Attention k ∷ es ≡ [] = f.0 in absurd (cc)
  attention_number Asked r k a es downs parts due f = let z : Attention k ∷ es ≡ [] = f.0 in absurd (cc)
  attention_number Sending r k a es downs parts due f = absurd f.0
  attention_number Reading r k a es downs parts due f = elim f [
    | inl h ↦ absurd h.0
    | inr h ↦ let z : Attention k ∷ es ≡ [] = h.0 in absurd (cc)
  ]
  attention_number Cancelling r k a es downs parts due f = elim f [
    | inl h ↦ h.0.0
    | inr g ↦ elim g [
      | inl h ↦ let z : Attention k ∷ es ≡ Attention r ∷ [] = h.0 in cc
      | inr h ↦ let z : Attention k ∷ es ≡ [] = h.0 in absurd (cc)
    ]
  ]

  -- What is behind an attention that rolls back, or doesn't.
  abbrev pub Stopped : Answers → Bool → List Down → ℕ → ℕ → List Core → Option Core → SessionState → Type 0
  Stopped answers b sent r place past o s =
      Chained answers (among (sent ++ Acknowledgement r place (stop_by b s).changes ∷ [])) past o (left_by b s) []
      × NoneLater (among (sent ++ Acknowledgement r place (stop_by b s).changes ∷ [])) o

  -- What is due is stopped.
  stops_going : (answers : Answers) (got : ℕ → Progress) (m : SessionState) (o : Option Core) (s : SessionState) (due : List answer.Step) → GoingIn answers got m o s due → GoingIn answers got m o s []
  stops_going answers got m None s due h = h
  stops_going answers got m (Some x) s due h = by_ran x.ran h
    where
      by_ran : (ran : Option SessionState) → Going answers (got x.number) m x.asking ran s due → Going answers (got x.number) m x.asking ran s []
      by_ran None g = g
      by_ran (Some ran) g = (g.0, g.1, g.2, inl refl)

  keeps_stopped : (answers : Answers) (sent : List Down) (r place : ℕ) (past : List Core) (o : Option Core) (s : SessionState) (due : List answer.Step) → Chained answers (among sent) past o s due → NoneLater (among sent) o → Stopped answers false sent r place past o s
  keeps_stopped answers sent r place past o s due h z =
      let more : List Down = sent ++ Acknowledgement r place [] ∷ [] in (
        (
          h.0,
          (
            thread_same answers (among sent) (among more) new_session past h.0 (all_same (among sent) (among more) past (plain_ack sent r place)) h.1.0,
            going_same answers (among sent) (among more) h.0 o s [] (plain_ack sent r place) (stops_going answers (among sent) h.0 o s due h.1.1),
          ),
        ),
        later_same (among sent) (among more) o (plain_ack sent r place) z,
      )

  -- A transaction is rolled back only where steps are due.
  rolled_going : (answers : Answers) (a : Asking) (m ran s : SessionState) (due : List answer.Step) (got more : Progress) → MayRollBack attention true → (due ≡ [] → true ≡ false) → got.done ≡ more.done → more.rolled ≡ true → Going answers got m a (Some ran) s due → Going answers more m a (Some ran) (left_by true s) []
  rolled_going answers a m ran s due got more y none e f g = elim g.3 [
    | inl z ↦ let x : true ≡ false = none z in absurd (cc)
    | inr z ↦ (
      g.0,
      subst (MayRollBack attention) (sym f) y,
      ap (left_by true) (g.2 ∙ ap (λ b. left_by b (session_after ran got.done (whole_of answers ran a))) z.0)
          ∙ (ap (λ n. left_by true (session_after ran n (whole_of answers ran a))) e
          ∙ ap (λ b. left_by b (session_after ran more.done (whole_of answers ran a))) (sym f)),
      inl refl,
    )
  ]

  rolls_stopped : (answers : Answers) (sent : List Down) (r place : ℕ) (past : List Core) (x : Core) (ran s : SessionState) (due : List answer.Step) → MayRollBack attention true → (due ≡ [] → true ≡ false) → r ≡ x.number → x.ran ≡ Some ran → AllByRecursion (λ (y : Core). y.number < x.number) past → Chained answers (among sent) past (Some x) s due → NoneLater (among sent) (Some x) → Stopped answers true sent r place past (Some x) s
  rolls_stopped answers sent r place past x ran s due y none e i low h z =
      let changes : List EnvChange = (stop_by true s).changes in
      let more : List Down = sent ++ Acknowledgement r place changes ∷ [] in
      let rolled : rolls_among x.number more ≡ true = subst (λ n. rolls_among n more ≡ true) e (own_ack sent r place (change.Rollback s.descriptor)) in (
        (
          h.0,
          (
            thread_same answers (among sent) (among more) new_session past h.0 (older_ack sent r place changes past (subst (λ n. AllByRecursion (λ (y : Core). y.number < n) past) (sym e) low)) h.1.0,
            subst (λ o. Going answers (among more x.number) h.0 x.asking o (left_by true s) []) (sym i)
                (rolled_going answers x.asking h.0 ran s due (among sent x.number) (among more x.number) y none (steps_ack sent r place x.number changes) rolled
                (subst (λ o. Going answers (among sent x.number) h.0 x.asking o s due) i h.1.1)),
          ),
        ),
        λ n less. sym (other_ack sent r place n changes (subst (λ k. eqb k n ≡ false) (sym e) (differs x.number n less).0)) ∙ z n less,
      )

  -- By whether the newest request ran: one that didn't is not rolled back.
  stops_by : (answers : Answers) (count : ℕ) (c : Connection) (r : ℕ) (es : List Up) (q : Record) (ran : Option SessionState) (b : Bool) → rolls c ≡ b → c.on_attention ≡ attention → r ≡ q.number → q.ran ≡ ran → NumbersOf count (past_of c) (Some (core_of q)) → ByRan answers c (Attention r ∷ es) c.to_client.waiting (phase_of q) q.asking ran → Chained answers (among (sent_down c)) (past_of c) (Some (core_of q)) c.session c.due → NoneLater (among (sent_down c)) (Some (core_of q)) → Stopped answers b (sent_down c) r (acknowledged_at c.due c.taken) (past_of c) (Some (core_of q)) c.session
  stops_by answers count c r es q ran false e t n i low f h z = keeps_stopped answers (sent_down c) r (acknowledged_at c.due c.taken) (past_of c) (Some (core_of q)) c.session c.due h z
  stops_by answers count c r es q None true e t n i low f h z =
      let x : true ≡ false = sym e ∙ rolls_nothing c (none_done answers c q.asking f.due) in absurd (cc)
  stops_by answers count c r es q (Some ran) true e t n i low f h z =
      rolls_stopped answers (sent_down c) r (acknowledged_at c.due c.taken) (past_of c) (core_of q) ran c.session c.due
      (subst (MayRollBack attention) e (may_roll c.on_attention (is_midway c.taken c.due) c.session t))
      (λ none. sym e ∙ rolls_nothing c (inl none)) n i low.1 h z

  stops_in : (answers : Answers) (count : ℕ) (c : Connection) (r : ℕ) (es : List Up) (o : Option Record) → c.current ≡ o → c.on_attention ≡ attention → SoundWith c (Attention r ∷ es) c.to_client.waiting → NumbersOf count (past_of c) (option_map core_of o) → Newest answers c (Attention r ∷ es) c.to_client.waiting o → Chained answers (among (sent_down c)) (past_of c) (option_map core_of o) c.session c.due → NoneLater (among (sent_down c)) (option_map core_of o) → Stopped answers (rolls c) (sent_down c) r (acknowledged_at c.due c.taken) (past_of c) (option_map core_of o) c.session
  stops_in answers count c r es None i t f low g h z =
      let x : Attention r ∷ es ≡ [] = (subst (λ o. FlowIn (phase_in o) (number_in o) c.answering (Attention r ∷ es) c.to_client.waiting c.parts c.due) i f.0).0 in absurd (cc)
  stops_in answers count c r es (Some q) i t f low g h z =
      let number : r ≡ q.number = attention_number (phase_of q) q.number r c.answering es c.to_client.waiting c.parts c.due (subst (λ o. FlowIn (phase_in o) (number_in o) c.answering (Attention r ∷ es) c.to_client.waiting c.parts c.due) i f.0) in
      stops_by answers count c r es q q.ran (rolls c) refl t number refl low g h z

  pub server_chain : (answers : Answers) (count : ℕ) (c : Connection) (e : Up) (es : List Up) → SoundWith c (e ∷ es) c.to_client.waiting → NumbersOf count (past_of c) (newest_of c) → NewestWith answers c (e ∷ es) c.to_client.waiting → Chain answers c → Chain answers (server_acts answers (record c { to_server = passed e c.to_server }) e)
  server_chain answers count c (Part r p) es x n f h = record { told = h.told; chained = h.chained; later = h.later }
  server_chain answers count c (Drop r p) es x n f h = record { told = h.told; chained = h.chained; later = h.later }
  server_chain answers count c (Attention r) es x n f h =
      let d : Connection = server_acts answers (record c { to_server = passed (Attention r) c.to_server }) (Attention r) in
      let all = stops_in answers count c r es c.current refl h.told x n f h.chained h.later in
      subst (λ sent. ChainOf answers sent d) (one_behind c.to_client.arrived c.to_client.waiting (Acknowledgement r (acknowledged_at c.due c.taken) (stop_by (rolls c) c.session).changes ∷ []))
      (record { told = h.told; chained = all.0; later = all.1 })
  server_chain answers count c (End r a p) es x n f h = record {
    told = h.told;
    chained = (h.chained.0, (h.chained.1.0, starts_going answers (among (sent_down c)) c h.chained.0 c.current r a p es c.to_client.waiting c.due _ f h.chained.1.1));
    later = h.later;
  }
