-- Each request that ran on a connection found the session that the one before it left, behind its own
-- reset if it asked for one; and it left what it leaves that got so far as what was sent tells.
use Rattle.std.proofs.Common.{◌≡◌, ◌≤◌, ◌<◌, ◌-◌, ◌+◌, ℕ, zero, suc, List, [], ◌∷◌, ◌++◌, map, drop, inl, inr, Bool, true, false, length, eqb, refl, sym, ap, subst, ◌∙◌, Option, Some, None, option_map, arith}
use Rattle.std.specs.List.{AllByRecursion}
use Rattle.tds_packet.specs.declared.status.Reset.{Reset}
use Rattle.tds_request.specs.declared.request.Request.{Request}
use Rattle.tds_session.specs.declared.attention.OnAttention.{OnAttention}
use Rattle.tds_session.specs.Answer as answer
use Rattle.tds_session.specs.Answer.{Answers, reset_step}
use Rattle.tds_session.specs.Session.{SessionState, new_session, after_reset}
use Rattle.tds_world.specs.declared.event.Setup.{Setup}
use Rattle.tds_world.specs.alone.Alone.{session_after, counted, steps_among, Progress, progress_of}
use Rattle.tds_world.specs.Arrivals.{client_acts, works_on}
use Rattle.tds_world.specs.Caller.{asks, cancels_by, sends_by}
use Rattle.tds_world.specs.Connection.{Connection, records, phase}
use Rattle.tds_world.specs.Entries.{Asking, Up, Down, Step, Acknowledgement}
use Rattle.tds_world.specs.Events.{world_after}
use Rattle.tds_world.specs.Lane.{Lane, passed}
use Rattle.tds_world.specs.Lawful.{Lawful, TakesNoReset}
use Rattle.tds_world.specs.Laws.{Always, OfEachConnection}
use Rattle.tds_world.specs.Phase.{Phase, Settled, phase_in, phase_of, is_settled}
use Rattle.tds_world.specs.Record.{Record, runs, ran_in, if_numbered}
use Rattle.tds_world.specs.Steps.{sent_down}
use Rattle.tds_world.specs.World.{World, next_number, new_world}
use Rattle.tds_world.proofs.events.Moves.{BothIn, MovesOver, noted_on_top, by_noted_moves, AnyAt}
use Rattle.tds_world.proofs.events.Noted.{KeptIn, always_in}
use Rattle.tds_world.proofs.events.Worlds.{each_follows}
use Rattle.tds_world.proofs.flow.Arrivals.{same_number, of_changed}
use Rattle.tds_world.proofs.flow.Busy.{Answering}
use Rattle.tds_world.proofs.flow.Flow.{number_in, Sound}
use Rattle.tds_world.proofs.reports.Asks.{one_behind}
use Rattle.tds_world.proofs.requests.Asking.{ByRan, NewestWith, Newest}
use Rattle.tds_world.proofs.requests.Cores.{Core, core_of, past_of, newest_of, SameCores, all_of, joined_cores, client_same, cancels_same_by, sends_same}
use Rattle.tds_world.proofs.requests.Newest.{answering}
use Rattle.tds_world.proofs.requests.Numbers.{NumbersOf, past_stays}
use Rattle.tds_world.proofs.requests.OwnTransactions.{WellMarked, WellMarkedWith, marked_noted}
use Rattle.tds_world.proofs.requests.Runs.{runs_in}
use Rattle.tds_world.proofs.alone.Progress.{nowhere, may_keep, NoneLater, among, rolls_more, both_progress, differs, own_step, other_step, older_step}
use Rattle.tds_world.proofs.alone.Found.{whole_of, Found, Thread, Going, GoingIn, Chained, ChainOf, ChainWith, Chain, chain_same, thread_same, server_chain}

-- Where servers do this at an attention.
module _ (attention : OnAttention) where
  acts_leave : (d : Connection) (e : Down) → ((client_acts d e).session ≡ d.session) × ((client_acts d e).due ≡ d.due) × ((client_acts d e).to_client ≡ d.to_client) × ((client_acts d e).on_attention ≡ d.on_attention)
  acts_leave d (Step r place s) = (refl, refl, refl, refl)
  acts_leave d (Acknowledgement r place changes) = (refl, refl, refl, refl)

  client_chain : (answers : Answers) (c : Connection) (e : Down) (es : List Down) → ChainWith attention answers c (e ∷ es) → ChainWith attention answers (client_acts (record c { to_client = passed e c.to_client }) e) es
  client_chain answers c e es h =
      let p : Connection = record c { to_client = passed e c.to_client } in
      let left = acts_leave p e in
      subst (λ sent. ChainOf attention answers sent (client_acts p e))
      (sym (one_behind c.to_client.arrived (e ∷ []) es) ∙ ap (λ (l : Lane Down). l.arrived ++ es) (sym left.2))
      (chain_same attention answers (c.to_client.arrived ++ e ∷ es) c (client_acts p e) (client_same c e) left.0 left.1 left.3 h)

  -- ---- The server works

  drop_next : (n : ℕ) (ran : SessionState) (s : answer.Step) (ss whole : List answer.Step) → drop n whole ≡ s ∷ ss → (session_after ran (suc n) whole ≡ s.after) × (drop (suc n) whole ≡ ss)
  drop_next zero ran s ss [] e = absurd (cc)
  drop_next zero ran s ss (t ∷ ts) e =
      let first : t ≡ s = cc in
      let rest : ts ≡ ss = cc in
      (ap (λ (x : answer.Step). x.after) first, rest)
  drop_next (suc n) ran s ss [] e = absurd (cc)
  drop_next (suc n) ran s ss (t ∷ ts) e = drop_next n t.after s ss ts e

  -- It takes no reset.
  next_plain : (n : ℕ) (s : answer.Step) (ss whole : List answer.Step) → TakesNoReset whole → drop n whole ≡ s ∷ ss → s.reset ≡ None
  next_plain zero s ss [] k e = absurd (cc)
  next_plain zero s ss (t ∷ ts) k e = let first : t ≡ s = cc in subst (λ (x : answer.Step). x.reset ≡ None) first k.0
  next_plain (suc n) s ss [] k e = absurd (cc)
  next_plain (suc n) s ss (t ∷ ts) k e = next_plain n s ss ts k.1 e

  no_more : {A : Type 0} (x : A) (xs : List A) → x ∷ xs ≡ [] → ⊥
  no_more x xs e = absurd (cc)

  -- The first step.
  first_going : (answers : Answers) (m s : SessionState) (a : Asking) (mark : Option Reset) (t : answer.Step) (ss : List answer.Step) → Lawful answers → m ≡ s → a.mark ≡ mark → t ∷ ss ≡ answers s a.descriptor mark a.request → Going attention answers (record { done = counted t.reset; rolled = false }) m a (Some (ran_in None t.reset s t.after)) t.after ss
  first_going answers m s a None t ss l e k f =
      let plain : TakesNoReset (t ∷ ss) = subst TakesNoReset (sym f) (l.only s a.descriptor a.request) in
      subst (λ r. Going attention answers (record { done = counted r; rolled = false }) m a (Some (ran_in None r s t.after)) t.after ss) (sym plain.0)
      (sym e ∙ ap (λ r. runs_in r m) (sym k), may_keep attention, ap (λ us. session_after s 1 us) f, inr (refl, ap (λ us. drop 1 us) f))
  first_going answers m s a (Some r) t ss l e k f =
      let whole : t ∷ ss ≡ reset_step r s ∷ answers (after_reset r s) a.descriptor None a.request = f ∙ l.resets s a.descriptor r a.request in
      let first : t ≡ reset_step r s = cc in
      let rest : ss ≡ answers (after_reset r s) a.descriptor None a.request = cc in
      subst (λ u. Going attention answers (record { done = counted u.reset; rolled = false }) m a (Some (ran_in None u.reset s u.after)) u.after ss) (sym first)
      (ap (λ x. after_reset r x) (sym e) ∙ ap (λ x. runs_in x m) (sym k), may_keep attention, refl, inr (refl, rest))

  works_going : (answers : Answers) (c : Connection) (got more : Progress) (m : SessionState) (a : Asking) (ran : Option SessionState) (t : answer.Step) (ss : List answer.Step) (ups : List Up) (downs : List Down) (p : Phase) → Lawful answers → c.due ≡ t ∷ ss → more.done ≡ got.done + counted t.reset → more.rolled ≡ got.rolled → ByRan answers c ups downs p a ran → Going attention answers got m a ran c.session (t ∷ ss) → Going attention answers more m a (Some (ran_in ran t.reset c.session t.after)) t.after ss
  works_going answers c got more m a None t ss ups downs p l e u v f h = elim f.due [
    | inl z ↦ absurd (no_more t ss (sym e ∙ z))
    | inr z ↦
        let none : got.done ≡ 0 = h.1 in
        let sum : counted t.reset ≡ got.done + counted t.reset = omega arith in
        subst (λ x. Going attention answers x m a (Some (ran_in None t.reset c.session t.after)) t.after ss)
        (both_progress (record { done = counted t.reset; rolled = false }) more (sum ∙ sym u) (sym (v ∙ h.2)))
        (first_going answers m c.session a a.mark t ss l h.0 refl (sym e ∙ z.1))
  ]
  works_going answers c got more m a (Some ran) t ss ups downs p l e u v f h = elim h.3 [
    | inl z ↦ absurd (no_more t ss z)
    | inr z ↦
        let whole : List answer.Step = whole_of answers ran a in
        let next = drop_next got.done ran t ss whole (sym z.1) in
        let plain : t.reset ≡ None = next_plain got.done t ss whole (l.only ran a.descriptor a.request) (sym z.1) in
        let one : suc got.done ≡ got.done + 1 = omega arith in
        subst (λ x. Going attention answers x m a (Some ran) t.after ss)
        (both_progress (record { done = suc got.done; rolled = false }) more (one ∙ (ap (λ r. got.done + counted r) (sym plain) ∙ sym u)) (sym (v ∙ z.0)))
        (h.0, may_keep attention, sym next.0, inr (refl, sym next.1))
  ]

  not_none : (c : Connection) → is_settled (phase c) ≡ false → c.current ≡ None → ⊥
  not_none c e f = let z : true ≡ false = sym (ap (λ o. is_settled (phase_in o)) f) ∙ e in absurd (cc)

  -- What is sent then.
  abbrev then_sent : Connection → answer.Step → List Down
  then_sent c t = sent_down c ++ Step c.answering (c.taken + 1) t ∷ []

  abbrev Worked : Answers → Connection → answer.Step → List Core → Option Core → List answer.Step → Type 0
  Worked answers c t past o ss = Chained attention answers (among (then_sent c t)) past o t.after ss × NoneLater (among (then_sent c t)) o

  works_newest : (answers : Answers) (count : ℕ) (c : Connection) (q : Record) (t : answer.Step) (ss : List answer.Step) → Lawful answers → c.due ≡ t ∷ ss → c.answering ≡ q.number → NumbersOf count (past_of c) (Some (core_of q)) → Newest answers c c.to_server.waiting c.to_client.waiting (Some q) → (m : SessionState) → Thread attention answers (among (sent_down c)) new_session (past_of c) m → Going attention answers (among (sent_down c) q.number) m q.asking q.ran c.session (t ∷ ss) → NoneLater (among (sent_down c)) (Some (core_of q))
      → Worked answers c t (past_of c) (Some (core_of (runs c.session t q))) ss
  works_newest answers count c q t ss l e a b f m h g z =
      let sent : List Down = sent_down c in
      let own : steps_among q.number (then_sent c t) ≡ steps_among q.number sent + counted t.reset =
      subst (λ n. steps_among n (then_sent c t) ≡ steps_among n sent + counted t.reset) a (own_step sent c.answering (c.taken + 1) t) in
      let older : AllByRecursion (λ (x : Core). x.number < c.answering) (past_of c) = subst (λ n. AllByRecursion (λ (x : Core). x.number < n) (past_of c)) (sym a) b.1 in (
        (
          m,
          (
            thread_same attention answers (among sent) (among (then_sent c t)) new_session (past_of c) m (older_step sent c.answering (c.taken + 1) t (past_of c) older) h,
            works_going answers c (among sent q.number) (among (then_sent c t) q.number) m q.asking q.ran t ss c.to_server.waiting c.to_client.waiting (phase_of q) l e own
                (rolls_more sent (Step c.answering (c.taken + 1) t) q.number refl) f g,
          ),
        ),
        λ n less. sym (other_step sent c.answering (c.taken + 1) n t (subst (λ k. eqb k n ≡ false) (sym a) (differs q.number n less).0)) ∙ z n less,
      )

  works_chain_in : (answers : Answers) (count : ℕ) (c : Connection) (o : Option Record) (t : answer.Step) (ss : List answer.Step) → Lawful answers → c.due ≡ t ∷ ss → c.answering ≡ number_in o → NumbersOf count (past_of c) (option_map core_of o) → Newest answers c c.to_server.waiting c.to_client.waiting o → (m : SessionState) → Thread attention answers (among (sent_down c)) new_session (past_of c) m → GoingIn attention answers (among (sent_down c)) m (option_map core_of o) c.session (t ∷ ss) → NoneLater (among (sent_down c)) (option_map core_of o) → (o ≡ None → ⊥)
      → Worked answers c t (map core_of (map (if_numbered c.answering (runs c.session t)) c.past)) (option_map core_of (option_map (if_numbered c.answering (runs c.session t)) o)) ss
  works_chain_in answers count c None t ss l e a b f m h g u z = absurd (z refl)
  works_chain_in answers count c (Some q) t ss l e a b f m h g u z =
      let stays : map (if_numbered c.answering (runs c.session t)) c.past ≡ c.past =
      subst (λ n. map (if_numbered n (runs c.session t)) c.past ≡ c.past) (sym a) (past_stays q.number (runs c.session t) c.past b.1) in
      subst (λ qs. Worked answers c t (map core_of qs) (Some (core_of (if_numbered c.answering (runs c.session t) q))) ss) (sym stays)
      (of_changed (λ x. Worked answers c t (past_of c) (Some (core_of x)) ss) (eqb q.number c.answering) (runs c.session t) q
      (same_number c.answering q.number a)
      (works_newest answers count c q t ss l e a b f m h g u))

  works_chain : (answers : Answers) (count : ℕ) (c : Connection) (t : answer.Step) (ss : List answer.Step) → Lawful answers → c.due ≡ t ∷ ss → Sound c → NumbersOf count (past_of c) (newest_of c) → NewestWith answers c c.to_server.waiting c.to_client.waiting → Chain attention answers c → Chain attention answers (works_on c (t ∷ ss))
  works_chain answers count c t ss l e f b n h =
      let d : Connection = works_on c (t ∷ ss) in
      let is : Answering (phase c) (number_in c.current) c.answering c.to_server.waiting = answering c t ss e f in
      let both = works_chain_in answers count c c.current t ss l e is.number b n h.chained.0 h.chained.1.0
      (subst (λ us. GoingIn attention answers (among (sent_down c)) h.chained.0 (newest_of c) c.session us) e h.chained.1.1) h.later (not_none c is.busy) in
      subst (λ sent. ChainOf attention answers sent d) (one_behind c.to_client.arrived c.to_client.waiting (Step c.answering (c.taken + 1) t ∷ []))
      (record { told = h.told; chained = both.0; later = both.1 })

  -- ---- The caller and the pool

  found_so : (answers : Answers) (got : Progress) (m : SessionState) (a : Asking) (ran : Option SessionState) (s : SessionState) (due : List answer.Step) → Going attention answers got m a ran s due → Found attention answers got m a ran s
  found_so answers got m a None s due h = h
  found_so answers got m a (Some ran) s due h = (h.0, h.1, h.2)

  thread_more : (answers : Answers) (got : ℕ → Progress) (b : SessionState) (xs : List Core) (m : SessionState) (x : Core) (s : SessionState) → Thread attention answers got b xs m → Found attention answers (got x.number) m x.asking x.ran s → Thread attention answers got b (xs ++ x ∷ []) s
  thread_more answers got b [] m x s h g = (s, (subst (λ n. Found attention answers (got x.number) n x.asking x.ran s) (sym h) g, refl))
  thread_more answers got b (y ∷ ys) m x s h g = (h.0, (h.1.0, thread_more answers got h.0 ys m x s h.1.1 g))

  thread_all : (answers : Answers) (got : ℕ → Progress) (past : List Core) (o : Option Core) (s : SessionState) (due : List answer.Step) → Chained attention answers got past o s due → Thread attention answers got new_session (all_of past o) s
  thread_all answers got past None s due h = subst (λ n. Thread attention answers got new_session past n) h.1.1 h.1.0
  thread_all answers got past (Some x) s due h = thread_more answers got new_session past h.0 x s h.1.0 (found_so answers (got x.number) h.0 x.asking x.ran s due h.1.1)

  -- A request with a higher number is asked: no step of it was done.
  abbrev Higher : ℕ → Option Core → Type 0
  Higher number None = Unit {0}
  Higher number (Some x) = x.number < number

  higher : (count : ℕ) (past : List Core) (o : Option Core) → NumbersOf count past o → Higher (suc count) o
  higher count past None h = tt
  higher count past (Some x) h = let z : x.number ≤ count = h.0 in omega arith

  none_got : (got : ℕ → Progress) (number : ℕ) (o : Option Core) → Higher number o → NoneLater got o → got number ≡ nowhere
  none_got got number None l h = h number
  none_got got number (Some x) l h = h number l

  none_later : (got : ℕ → Progress) (number : ℕ) (o : Option Core) → Higher number o → NoneLater got o → (n : ℕ) → number < n → got n ≡ nowhere
  none_later got number None l h n less = h n
  none_later got number (Some x) l h n less = let z : x.number < number = l in h n (omega arith)

  asks_chain : (answers : Answers) (number lease n : ℕ) (q : Request) (c : Connection) → Higher number (newest_of c) → Chain attention answers c → Chain attention answers (asks number lease n q c)
  asks_chain answers number lease n q c l h =
      let got : ℕ → Progress = among (sent_down c) in
      record {
        told = h.told;
        chained = (
          c.session,
          (
            subst (λ xs. Thread attention answers got new_session xs c.session) (sym (joined_cores c.past c.current)) (thread_all answers got (past_of c) (newest_of c) c.session c.due h.chained),
            (refl, ap (λ (x : Progress). x.done) (none_got got number (newest_of c) l h.later), ap (λ (x : Progress). x.rolled) (none_got got number (newest_of c) l h.later)),
          ),
        );
        later = none_later got number (newest_of c) l h.later;
      }

  cancels_leave : (p : Phase) (q : Record) (c : Connection) → ((cancels_by p q c).session ≡ c.session) × ((cancels_by p q c).due ≡ c.due) × ((cancels_by p q c).to_client ≡ c.to_client) × ((cancels_by p q c).on_attention ≡ c.on_attention)
  cancels_leave Settled q c = (refl, refl, refl, refl)
  cancels_leave p q c = (refl, refl, refl, refl)

  sends_leave : (b : Bool) (room : ℕ) (q : Record) (c : Connection) → ((sends_by b room q c).session ≡ c.session) × ((sends_by b room q c).due ≡ c.due) × ((sends_by b room q c).to_client ≡ c.to_client) × ((sends_by b room q c).on_attention ≡ c.on_attention)
  sends_leave true room q c = (refl, refl, refl, refl)
  sends_leave false room q c = (refl, refl, refl, refl)

  -- The requests, the session, what is due and the lane to the client stay.
  all_stays : (answers : Answers) (c d : Connection) → SameCores c d → (d.session ≡ c.session) × (d.due ≡ c.due) × (d.to_client ≡ c.to_client) × (d.on_attention ≡ c.on_attention) → Chain attention answers c → Chain attention answers d
  all_stays answers c d s e h =
      subst (λ (l : Lane Down). ChainOf attention answers (l.arrived ++ l.waiting) d) (sym e.2)
      (chain_same attention answers (sent_down c) c d s e.0 e.1 e.3 h)

-- ---- Each move

chain_moves : (setup : Setup) (answers : Answers) → Lawful answers → MovesOver setup answers AnyAt (WellMarkedWith answers) (λ w c ups downs. ChainWith setup.on_attention answers c downs)
chain_moves setup answers l = record {
  stands = λ w r n c b f h. record { told = h.told; chained = h.chained; later = h.later };
  asked = λ w lease n q c x s i f h. asks_chain setup.on_attention answers (next_number w.asked_on) lease n q c (higher setup.on_attention (length w.asked_on) (past_of c) (newest_of c) f.0.1) h;
  sent = λ w last q c i s b f h.
      all_stays setup.on_attention answers c (sends_by last (setup.packet_size - 8) q c) (sends_same last (setup.packet_size - 8) q c i) (sends_leave setup.on_attention last (setup.packet_size - 8) q c) h;
  cancelled = λ w p q c i at f h. all_stays setup.on_attention answers c (cancels_by p q c) (cancels_same_by p q c i) (cancels_leave setup.on_attention p q c) h;
  worked = λ w c s ss is f h. works_chain setup.on_attention answers (length w.asked_on) c s ss l is f.0.0.0 f.0.1 f.1.1 h;
  at_server = λ w c e es f h. server_chain setup.on_attention answers (length w.asked_on) c e es f.0.0.0 f.0.1 f.1.1 h;
  at_client = λ w c e es f h. client_chain setup.on_attention answers c e es h;
  server_waits = λ w c es k m h. record { told = h.told; chained = h.chained; later = h.later };
  client_waits = λ w c es k m h. record { told = h.told; chained = h.chained; later = h.later };
}

pub chain_kept : (setup : Setup) (answers : Answers) → Lawful answers → KeptIn setup answers (λ w c. WellMarked answers w c × Chain setup.on_attention answers c)
chain_kept setup answers l =
    by_noted_moves setup answers (BothIn (WellMarkedWith answers) (λ w c ups downs. ChainWith setup.on_attention answers c downs))
    (noted_on_top setup answers AnyAt (WellMarkedWith answers) (λ w c ups downs. ChainWith setup.on_attention answers c downs) (marked_noted setup answers l)
    (record { grows = λ w v c u d a h. h; opened = λ w n. record { told = refl; chained = (new_session, (refl, refl)); later = λ m. refl }; moves = chain_moves setup answers l }))

-- ---- The law

-- The requests of each connection, one after the other, from a new session on: each that ran found what
-- the one before it left, and left what the steps leave that were done of it.
abbrev pub Threaded : OnAttention → Answers → Connection → Type 0
Threaded attention answers c = Thread attention answers (progress_of c) new_session (map core_of (records c)) c.session

threaded : (attention : OnAttention) (answers : Answers) (c : Connection) → Chain attention answers c → Threaded attention answers c
threaded attention answers c h =
    subst (λ xs. Thread attention answers (progress_of c) new_session xs c.session) (sym (joined_cores c.past c.current)) (thread_all attention answers (progress_of c) (past_of c) (newest_of c) c.session c.due h.chained)

pub all_threaded : (setup : Setup) (answers : Answers) → Lawful answers → Always setup answers (OfEachConnection (Threaded setup.on_attention answers))
all_threaded setup answers l events =
    let w : World = world_after setup answers events new_world in
    each_follows (λ c. WellMarked answers w c × Chain setup.on_attention answers c) (Threaded setup.on_attention answers) w.connections (λ c h. threaded setup.on_attention answers c h.1)
    (always_in setup answers (λ w c. WellMarked answers w c × Chain setup.on_attention answers c) events (chain_kept setup answers l))
