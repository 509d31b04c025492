-- What becomes of a transaction where a request is cancelled: one that is stopped in the middle of its
-- answer leaves none, where servers roll back; one that didn't run leaves the kept one.
use Rattle.std.proofs.Common.{◌≡◌, ◌≢◌, ◌≤◌, ◌⊎◌, ◌-◌, ◌+◌, ℕ, List, [], ◌∷◌, ◌++◌, map, inl, inr, Bool, true, false, eqb, refl, sym, ap, subst, ◌∙◌, Option, Some, None, option_map, arith}
use Rattle.std.proofs.lemmas.Bool.Decides.{nat_tests}
use Rattle.std.proofs.lemmas.List.{append_assoc}
use Rattle.std.specs.List.{AllByRecursion}
use Rattle.tds_session.specs.declared.attention.OnAttention.{OnAttention}
use Rattle.tds_session.specs.declared.attention.OnAttention.TheVariants.{RollBack}
use Rattle.tds_session.specs.Answer as answer
use Rattle.tds_session.specs.Answer.{Answers, EndsOnce}
use Rattle.tds_session.specs.Attention.{stop_by, rolls_back}
use Rattle.tds_session.specs.Session.{SessionState, is_in_transaction}
use Rattle.tds_world.specs.declared.event.Setup.{Setup}
use Rattle.tds_world.specs.declared.report.Place.TheVariants as place
use Rattle.tds_world.specs.Arrivals.{server_acts, client_acts, is_midway, stops}
use Rattle.tds_world.specs.Caller.{cancels_by, sends_by}
use Rattle.tds_world.specs.Connection.{Connection, In, phase, records}
use Rattle.tds_world.specs.Entries.{Up, Part, End, Drop, Attention, Down, Step, Acknowledgement}
use Rattle.tds_world.specs.Events.{world_after}
use Rattle.tds_world.specs.Lane.{passed}
use Rattle.tds_world.specs.Lawful.{Lawful}
use Rattle.tds_world.specs.Laws.{Always}
use Rattle.tds_world.specs.Phase.{Phase, Settled, Asked, Sending, Reading, Cancelling, phase_of, phase_in}
use Rattle.tds_world.specs.Record.{Record, Acknowledged, gives, acknowledges, runs, when, if_numbered}
use Rattle.tds_world.specs.Rollback.{NoLast, IsStopped, IsOutside, StoppedIsOutside, IsUnrun, KeptUntilRun}
use Rattle.tds_world.specs.Steps.{EndsIfDue}
use Rattle.tds_world.specs.World.{World, Holding, new_world}
use Rattle.tds_world.proofs.events.Moves.{BothIn, MovesOver, noted_on_top, by_noted_moves, AnyAt}
use Rattle.tds_world.proofs.events.Noted.{KeptIn, always_in}
use Rattle.tds_world.proofs.events.Worlds.{each_follows}
use Rattle.tds_world.proofs.flow.Arrivals.{same_number, of_changed}
use Rattle.tds_world.proofs.flow.Flow.{FlowIn, Quiet, number_in, Hears, Sound}
use Rattle.tds_world.proofs.flow.Stops.{rolls}
use Rattle.tds_world.proofs.requests.Asking.{ByRan, Newest, NewestWith}
use Rattle.tds_world.proofs.requests.Cores.{core_of, joined_cores}
use Rattle.tds_world.proofs.requests.FreshStarts.{ReadyAndMarked, ready_kept}
use Rattle.tds_world.proofs.requests.Newest.{answering}
use Rattle.tds_world.proofs.requests.OwnTransactions.{WellMarked, WellMarkedWith, marked_noted}
use Rattle.tds_world.proofs.requests.Ready.{NoneRan, OfLease, OfStart, OfTicket, Owes, ReadyNew, ReadyKept, cores, open_lease}

-- ---- Stopped in the middle

-- Of the newest request that ran and whose last step was not sent: nothing is due and there is no
-- transaction, or steps are due and some were taken.
abbrev Midway : ℕ → List Down → List answer.Step → ℕ → ℕ → Option SessionState → Type 0
Midway number sent due descriptor taken None = Unit {0}
Midway number sent due descriptor taken (Some s) =
    NoLast number sent → ((due ≡ []) × (descriptor ≡ 0)) ⊎ ((due ≢ []) × (1 ≤ taken))

abbrev MidwayIn : List Down → List answer.Step → ℕ → ℕ → Option Record → Type 0
MidwayIn sent due descriptor taken None = Unit {0}
MidwayIn sent due descriptor taken (Some q) = Midway q.number sent due descriptor taken q.ran

abbrev StopsWith : Connection → List Up → List Down → Type 0
StopsWith c ups downs =
    (c.on_attention ≡ RollBack) × EndsIfDue c.due × MidwayIn (c.to_client.arrived ++ downs) c.due c.session.descriptor c.taken c.current

abbrev Stops : Connection → Type 0
Stops c = StopsWith c c.to_server.waiting c.to_client.waiting

-- ---- The last step

behind_front : (r : ℕ) (xs ys : List Down) → NoLast r (xs ++ ys) → NoLast r ys
behind_front r [] ys h = h
behind_front r (Step q i s ∷ es) ys h = behind_front r es ys h.1
behind_front r (Acknowledgement q i changes ∷ es) ys h = behind_front r es ys h

before_rest : (r : ℕ) (xs ys : List Down) → NoLast r (xs ++ ys) → NoLast r xs
before_rest r [] ys h = tt
before_rest r (Step q i s ∷ es) ys h = (h.0, before_rest r es ys h.1)
before_rest r (Acknowledgement q i changes ∷ es) ys h = before_rest r es ys h

not_last : (r a i : ℕ) (s : answer.Step) (xs ys : List Down) → a ≡ r → NoLast r (xs ++ (ys ++ Step a i s ∷ [])) → s.last ≡ false
not_last r a i s xs ys e h = (behind_front r ys (Step a i s ∷ []) (behind_front r xs (ys ++ Step a i s ∷ []) h)).0 e

more_due : (s : answer.Step) (ss : List answer.Step) → EndsOnce (s ∷ ss) → s.last ≡ false → ss ≢ []
more_due s [] ends more = absurd (cc)
more_due s (t ∷ ts) ends more = λ e. absurd (cc)

ends_rest : (s : answer.Step) (ss : List answer.Step) → EndsOnce (s ∷ ss) → EndsIfDue ss
ends_rest s [] h = tt
ends_rest s (t ∷ ts) h = h.1

if_due : (ss : List answer.Step) → EndsOnce ss → EndsIfDue ss
if_due [] h = tt
if_due (s ∷ ss) h = h

one_taken : (taken : ℕ) → 1 ≤ taken + 1
one_taken taken = omega arith

-- ---- The server works

works_stops : (answers : Answers) (c : Connection) (s : answer.Step) (ss : List answer.Step) (o : Option Record) → c.due ≡ s ∷ ss → c.answering ≡ number_in o → EndsOnce (s ∷ ss) → MidwayIn (c.to_client.arrived ++ (c.to_client.waiting ++ Step c.answering (c.taken + 1) s ∷ [])) ss s.after.descriptor (c.taken + 1) (option_map (if_numbered c.answering (runs c.session s)) o)
works_stops answers c s ss None e a h = tt
works_stops answers c s ss (Some q) e a h =
    of_changed (λ x. MidwayIn (c.to_client.arrived ++ (c.to_client.waiting ++ Step c.answering (c.taken + 1) s ∷ [])) ss s.after.descriptor (c.taken + 1) (Some x)) (eqb q.number c.answering) (runs c.session s) q
    (same_number c.answering q.number a)
    (λ n. inr (more_due s ss h (not_last q.number c.answering (c.taken + 1) s c.to_client.arrived c.to_client.waiting a n), one_taken c.taken))

-- ---- An attention

none_left : (o : OnAttention) (midway : Bool) (s : SessionState) → o ≡ RollBack → midway ≡ true → (stop_by (rolls_back o midway s) s).after.descriptor ≡ 0
none_left o midway s e m =
    subst (λ x. (stop_by (rolls_back x midway s) s).after.descriptor ≡ 0) (sym e)
    (subst (λ b. (stop_by (rolls_back RollBack b s) s).after.descriptor ≡ 0) (sym m) (by_test (is_in_transaction s) refl))
  where
    by_test : (b : Bool) → is_in_transaction s ≡ b → (stop_by b s).after.descriptor ≡ 0
    by_test true k = refl
    by_test false k = grind (arith, nat_tests)

still_none : (b : Bool) (s : SessionState) → s.descriptor ≡ 0 → (stop_by b s).after.descriptor ≡ 0
still_none true s e = refl
still_none false s e = e

some_midway : (taken : ℕ) (due : List answer.Step) → due ≢ [] → 1 ≤ taken → is_midway taken due ≡ true
some_midway taken [] some most = absurd (some refl)
some_midway taken (s ∷ ss) some most = grind (arith, nat_tests)

attention_stops : (c : Connection) (r i : ℕ) (o : Option Record) → c.on_attention ≡ RollBack → MidwayIn (c.to_client.arrived ++ c.to_client.waiting) c.due c.session.descriptor c.taken o → MidwayIn (c.to_client.arrived ++ (c.to_client.waiting ++ Acknowledgement r i (stops c).changes ∷ [])) [] (stops c).after.descriptor 0 o
attention_stops c r i None e h = tt
attention_stops c r i (Some q) e h = by_ran q.ran h
  where
    by_ran : (ran : Option SessionState) → Midway q.number (c.to_client.arrived ++ c.to_client.waiting) c.due c.session.descriptor c.taken ran → Midway q.number (c.to_client.arrived ++ (c.to_client.waiting ++ Acknowledgement r i (stops c).changes ∷ [])) [] (stops c).after.descriptor 0 ran
    by_ran None g = tt
    by_ran (Some x) g = λ n. elim (g (before_rest q.number (c.to_client.arrived ++ c.to_client.waiting) (Acknowledgement r i (stops c).changes ∷ []) (subst (NoLast q.number) (sym (append_assoc c.to_client.arrived c.to_client.waiting (Acknowledgement r i (stops c).changes ∷ []))) n))) [
      | inl k ↦ inl (refl, still_none (rolls c) c.session k.1)
      | inr k ↦ inl (refl, none_left c.on_attention (is_midway c.taken c.due) c.session e (some_midway c.taken c.due k.0 k.1))
    ]

-- With its end a request's answer becomes due; it did not run.
end_stops : (answers : Answers) (c : Connection) (e : Up) (es : List Up) (r : ℕ) (o : Option Record) (sent : List Down) (due : List answer.Step) (descriptor taken : ℕ) → ((p : Phase) (q : Record) (x : SessionState) → ByRan answers c (e ∷ es) c.to_client.waiting p q.asking (Some x) → ⊥) → Newest answers c (e ∷ es) c.to_client.waiting o → MidwayIn sent due descriptor taken o
end_stops answers c e es r None sent due descriptor taken never h = tt
end_stops answers c e es r (Some q) sent due descriptor taken never h = by_ran q.ran h
  where
    by_ran : (ran : Option SessionState) → ByRan answers c (e ∷ es) c.to_client.waiting (phase_of q) q.asking ran → Midway q.number sent due descriptor taken ran
    by_ran None g = tt
    by_ran (Some x) g = absurd (never (phase_of q) q x g)

server_stops : (answers : Answers) (c : Connection) (e : Up) (es : List Up) → Lawful answers → NewestWith answers c (e ∷ es) c.to_client.waiting → StopsWith c (e ∷ es) c.to_client.waiting → StopsWith (server_acts answers (record c { to_server = passed e c.to_server }) e) es (server_acts answers (record c { to_server = passed e c.to_server }) e).to_client.waiting
server_stops answers c (Part r p) es l f h = h
server_stops answers c (Drop r p) es l f h = h
server_stops answers c (End r a p) es l f h = (
  h.0,
  if_due (answers c.session a.descriptor a.mark a.request) (l.ends c.session a.descriptor a.mark a.request),
  end_stops answers c (End r a p) es r c.current (c.to_client.arrived ++ c.to_client.waiting) (answers c.session a.descriptor a.mark a.request) c.session.descriptor 0 (λ s q x g. g.ends) f,
)
server_stops answers c (Attention r) es l f h = (h.0, tt, attention_stops c r _ c.current h.0 h.2)

-- ---- An entry comes to the client

any_change : (P : Record → Type 0) (b : Bool) (f : Record → Record) (q : Record) → P (f q) → P q → P (when b f q)
any_change P true f q g h = g
any_change P false f q g h = h

client_stops_by : (sent : List Down) (due : List answer.Step) (descriptor taken r : ℕ) (f : Record → Record) (o : Option Record) → ((q : Record) → ((f q).number ≡ q.number) × ((f q).ran ≡ q.ran)) → MidwayIn sent due descriptor taken o → MidwayIn sent due descriptor taken (option_map (if_numbered r f) o)
client_stops_by sent due descriptor taken r f None same h = tt
client_stops_by sent due descriptor taken r f (Some q) same h =
    any_change (λ x. MidwayIn sent due descriptor taken (Some x)) (eqb q.number r) f q
    (subst (λ n. Midway n sent due descriptor taken (f q).ran) (sym (same q).0) (subst (λ x. Midway q.number sent due descriptor taken x) (sym (same q).1) h)) h

client_stops : (c : Connection) (e : Down) (es : List Down) → StopsWith c c.to_server.waiting (e ∷ es) → StopsWith (client_acts (record c { to_client = passed e c.to_client }) e) (client_acts (record c { to_client = passed e c.to_client }) e).to_server.waiting es
client_stops c (Step r i s) es h = (
  h.0,
  h.1,
  client_stops_by ((c.to_client.arrived ++ Step r i s ∷ []) ++ es) c.due c.session.descriptor c.taken r (gives s) c.current (λ q. (refl, refl))
      (subst (λ xs. MidwayIn xs c.due c.session.descriptor c.taken c.current) (sym (append_assoc c.to_client.arrived (Step r i s ∷ []) es)) h.2),
)
client_stops c (Acknowledgement r i changes) es h = (
  h.0,
  h.1,
  client_stops_by ((c.to_client.arrived ++ Acknowledgement r i changes ∷ []) ++ es) c.due c.session.descriptor c.taken r acknowledges c.current (λ q. (refl, refl))
      (subst (λ xs. MidwayIn xs c.due c.session.descriptor c.taken c.current) (sym (append_assoc c.to_client.arrived (Acknowledgement r i changes ∷ []) es)) h.2),
)

-- ---- The caller

of_newest : (sent : List Down) (due : List answer.Step) (descriptor taken : ℕ) (q : Record) (o : Option Record) → o ≡ Some q → MidwayIn sent due descriptor taken o → Midway q.number sent due descriptor taken q.ran
of_newest sent due descriptor taken q o e h = subst (MidwayIn sent due descriptor taken) e h

cancels_stops : (p : Phase) (q : Record) (c : Connection) → c.current ≡ Some q → Stops c → Stops (cancels_by p q c)
cancels_stops Settled q c e h = h
cancels_stops Cancelling q c e h = h
cancels_stops Asked q c e h = (h.0, h.1, of_newest (c.to_client.arrived ++ c.to_client.waiting) c.due c.session.descriptor c.taken q c.current e h.2)
cancels_stops Sending q c e h = (h.0, h.1, of_newest (c.to_client.arrived ++ c.to_client.waiting) c.due c.session.descriptor c.taken q c.current e h.2)
cancels_stops Reading q c e h = (h.0, h.1, of_newest (c.to_client.arrived ++ c.to_client.waiting) c.due c.session.descriptor c.taken q c.current e h.2)

sends_stops : (b : Bool) (room : ℕ) (q : Record) (c : Connection) → c.current ≡ Some q → Stops c → Stops (sends_by b room q c)
sends_stops true room q c e h = (h.0, h.1, of_newest (c.to_client.arrived ++ c.to_client.waiting) c.due c.session.descriptor c.taken q c.current e h.2)
sends_stops false room q c e h = (h.0, h.1, of_newest (c.to_client.arrived ++ c.to_client.waiting) c.due c.session.descriptor c.taken q c.current e h.2)

-- ---- Each move

stops_moves : (setup : Setup) (answers : Answers) → Lawful answers → MovesOver setup answers AnyAt (WellMarkedWith answers) (λ w c ups downs. StopsWith c ups downs)
stops_moves setup answers l = record {
  stands = λ w r n c b f h. h;
  asked = λ w lease n q c x s i f h. (h.0, h.1, tt);
  sent = λ w last q c i s b f h. sends_stops last (setup.packet_size - 8) q c i h;
  cancelled = λ w p q c i at f h. cancels_stops p q c i h;
  worked = λ w c s ss is f h.
      let ends : EndsOnce (s ∷ ss) = subst EndsIfDue is h.1 in
      (h.0, ends_rest s ss ends, works_stops answers c s ss c.current is (answering c s ss is f.0.0.0).number ends);
  at_server = λ w c e es f h. server_stops answers c e es l f.1.1 h;
  at_client = λ w c e es f h. client_stops c e es h;
  server_waits = λ w c es k m h. h;
  client_waits = λ w c es k m h. h;
}

stops_kept : (setup : Setup) (answers : Answers) → setup.on_attention ≡ RollBack → Lawful answers → KeptIn setup answers (λ w c. WellMarked answers w c × Stops c)
stops_kept setup answers e l =
    by_noted_moves setup answers (BothIn (WellMarkedWith answers) (λ w c ups downs. StopsWith c ups downs))
    (noted_on_top setup answers AnyAt (WellMarkedWith answers) (λ w c ups downs. StopsWith c ups downs) (marked_noted setup answers l)
    (record { grows = λ w v c u d a h. h; opened = λ w n. (e, tt, tt); moves = stops_moves setup answers l }))

-- ---- The law

acknowledged_settles : (q : Record) → q.fate ≡ Acknowledged → phase_of q ≡ Settled
acknowledged_settles q e = rw e refl

quiet_flow : (p : Phase) (r a : ℕ) (ups : List Up) (downs : List Down) (parts : List ℕ) (due : List answer.Step) → p ≡ Settled → FlowIn p r a ups downs parts due → Quiet ups downs parts due
quiet_flow p r a ups downs parts due e f = subst (λ x. FlowIn x r a ups downs parts due) e f

is_outside : (answers : Answers) (w : World) (c : Connection) → Sound c → Stops c → IsStopped c → IsOutside c
is_outside answers w c f h k =
    let settled : phase c ≡ Settled = ap phase_in k.newest ∙ acknowledged_settles k.request k.acknowledged in
    let quiet : Quiet c.to_server.waiting c.to_client.waiting c.parts c.due =
    quiet_flow (phase c) (number_in c.current) c.answering c.to_server.waiting c.to_client.waiting c.parts c.due settled f.0 in
    let heard : c.heard ≡ c.session.descriptor = subst (λ ds. Hears c.heard ds c.session.descriptor) quiet.1 f.1.0 in
    let midway : Midway k.request.number (c.to_client.arrived ++ c.to_client.waiting) c.due c.session.descriptor c.taken (Some k.ran.0) =
    subst (λ x. Midway k.request.number (c.to_client.arrived ++ c.to_client.waiting) c.due c.session.descriptor c.taken x) k.ran.1
    (of_newest (c.to_client.arrived ++ c.to_client.waiting) c.due c.session.descriptor c.taken k.request c.current k.newest h.2) in
    let none : c.session.descriptor ≡ 0 = elim (midway k.middle) [
      | inl x ↦ x.1
      | inr x ↦ absurd (x.0 quiet.3)
    ] in
    record { client = heard ∙ none; server = none }

pub stopped_is_outside : (setup : Setup) (answers : Answers) → setup.on_attention ≡ RollBack → Lawful answers → Always setup answers StoppedIsOutside
stopped_is_outside setup answers e l events =
    let w : World = world_after setup answers events new_world in
    each_follows (λ c. WellMarked answers w c × Stops c) (λ c. IsStopped c → IsOutside c) w.connections (λ c h. is_outside answers w c h.0.0.0.0 h.1)
    (always_in setup answers (λ v c. WellMarked answers v c × Stops c) events (stops_kept setup answers e l))

-- ---- Until a request of the lease runs

none_of_lease : (l : ℕ) (qs : List Record) → AllByRecursion (λ (q : Record). q.lease ≡ l → q.ran ≡ None) qs → NoneRan l (map core_of qs)
none_of_lease l [] h = tt
none_of_lease l (q ∷ qs) h = (h.0, none_of_lease l qs h.1)

kept_descriptor : (answers : Answers) (w : World) (c : Connection) (ticket : Holding) → ReadyAndMarked answers w c → IsUnrun w c ticket → c.session.descriptor ≡ ticket.descriptor
kept_descriptor answers w c ticket h k =
    let owes : Owes w (In (place.Leased k.lease)) (cores c) c.mark c.session (open_lease c.current) =
    subst (λ s. Owes w s (cores c) c.mark c.session (open_lease c.current)) k.leased h.1.1 in
    let none : NoneRan k.lease (cores c) = subst (NoneRan k.lease) (joined_cores c.past c.current) (none_of_lease k.lease (records c) k.unrun) in
    let ready : OfLease (ReadyNew c.mark c.session) (ReadyKept c.mark c.session) w.tickets (Some k.resumed.0) =
    subst (OfLease (ReadyNew c.mark c.session) (ReadyKept c.mark c.session) w.tickets) k.resumed.1 (owes.0 none) in
    let start : OfStart (ReadyNew c.mark c.session) (ReadyKept c.mark c.session) w.tickets (Some k.number) =
    subst (OfStart (ReadyNew c.mark c.session) (ReadyKept c.mark c.session) w.tickets) k.resumed.2 ready in
    let kept : OfTicket (ReadyKept c.mark c.session) (Some ticket) = subst (OfTicket (ReadyKept c.mark c.session)) k.kept start in
    kept.1

pub kept_until_run : (setup : Setup) (answers : Answers) → Lawful answers → Always setup answers KeptUntilRun
kept_until_run setup answers l events =
    let w : World = world_after setup answers events new_world in
    each_follows (ReadyAndMarked answers w) (λ c. (ticket : Holding) → IsUnrun w c ticket → c.session.descriptor ≡ ticket.descriptor) w.connections (λ c h ticket k. kept_descriptor answers w c ticket h k)
    (always_in setup answers (ReadyAndMarked answers) events (ready_kept setup answers l))
