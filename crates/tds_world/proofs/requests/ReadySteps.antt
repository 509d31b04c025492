-- Each move of a connection keeps it ready, or is the run that its lease was waiting for.
use Rattle.std.proofs.Common.{◌≡◌, ◌<◌, ◌⊎◌, ℕ, List, [], ◌∷◌, ◌++◌, inl, inr, map, Bool, true, false, cond, eqb, refl, sym, ap, subst, ◌∙◌, Option, Some, None, option_map}
use Rattle.std.specs.List.{AllByRecursion}
use Rattle.tds_packet.specs.declared.status.Reset.{Reset}
use Rattle.tds_session.specs.Answer as answer
use Rattle.tds_session.specs.Answer.{Answers}
use Rattle.tds_session.specs.Attention.{stop_by}
use Rattle.tds_session.specs.Session.{SessionState, IsFresh}
use Rattle.tds_world.specs.declared.report.Place.TheVariants as place
use Rattle.tds_world.specs.Arrivals.{server_acts, client_acts, works_on, mark_after}
use Rattle.tds_world.specs.Connection.{Connection, phase, Standing, In, Cut}
use Rattle.tds_world.specs.Entries.{Asking, Up, Part, End, Drop, Attention, Down, Step, Acknowledgement}
use Rattle.tds_world.specs.Lane.{passed}
use Rattle.tds_world.specs.Lawful.{Lawful}
use Rattle.tds_world.specs.Phase.{Phase, phase_of, phase_in, is_settled}
use Rattle.tds_world.specs.Record.{Record, gives, acknowledges, runs, when, if_numbered, ran_in}
use Rattle.tds_world.specs.World.{World, numbered}
use Rattle.tds_world.proofs.flow.Arrivals.{same_number, of_changed}
use Rattle.tds_world.proofs.flow.Busy.{Rests, Answering, busy_down, busy_up}
use Rattle.tds_world.proofs.flow.Flow.{number_in, Sound, SoundWith}
use Rattle.tds_world.proofs.flow.Stops.{rolls, rolls_nothing}
use Rattle.tds_world.proofs.requests.Asking.{Unrun, ByRan, Newest, NewestWith}
use Rattle.tds_world.proofs.requests.Cores.{Core, core_of, past_of, newest_of, all_of, SameCores, client_same, map_cores, gives_core}
use Rattle.tds_world.proofs.requests.Marks.{NewestOf, not_none, none_done}
use Rattle.tds_world.proofs.requests.Numbers.{NumbersOf}
use Rattle.tds_world.proofs.requests.OwnTransactions.{answers_newest, works_past}
use Rattle.tds_world.proofs.requests.Ready.{OfLease, KeptFresh, ready_runs, NoneRan, RanFirst, StartsWell, ReadyFor, ReadyIf, IsOf, Owes, open_lease, cores, IsReadyBy, IsReady}
use Rattle.tds_world.proofs.requests.Rests.{RestsIdle}
use Rattle.tds_world.proofs.requests.Runs.{FirstStep, first_step, runs_in}

-- ---- The newest request stays, or is settled

abbrev pub Eases : Option ℕ → Option ℕ → Type 0
Eases o o1 = (o1 ≡ o) ⊎ (o1 ≡ None)

no_newest : (w : World) (p : Standing) (xs : List Core) (mark : Option Reset) (s : SessionState) (o : Option ℕ) → Owes w p xs mark s o → Owes w p xs mark s None
no_newest w (In (place.Leased l)) xs mark s o h = (h.0, tt)
no_newest w (In (place.Kept t)) xs mark s o h = h
no_newest w (In place.Free) xs mark s o h = tt
no_newest w (In place.Draining) xs mark s o h = tt
no_newest w Cut xs mark s o h = tt

eased : (w : World) (xs : List Core) (mark : Option Reset) (s : SessionState) (p : Standing) (o o1 : Option ℕ) → Eases o o1 → IsReadyBy w xs mark s p o → IsReadyBy w xs mark s p o1
eased w xs mark s p o o1 e h = elim e [
  | inl i ↦ subst (IsReadyBy w xs mark s p) (sym i) h
  | inr i ↦ subst (IsReadyBy w xs mark s p) (sym i) (h.0, no_newest w p xs mark s o h.1, tt)
]

cores_same : (c d : Connection) → SameCores c d → cores d ≡ cores c
cores_same c d e = ap (λ xs. all_of xs (newest_of d)) e.0 ∙ ap (λ o. all_of (past_of c) o) e.1

pub same_ready : (w : World) (c d : Connection) → SameCores c d → Eases (open_lease c.current) (open_lease d.current) → IsReady w c → IsReadyBy w (cores d) c.mark c.session c.standing (open_lease d.current)
same_ready w c d e o h =
    subst (λ xs. IsReadyBy w xs c.mark c.session c.standing (open_lease d.current)) (sym (cores_same c d e))
    (eased w (cores c) c.mark c.session c.standing (open_lease c.current) (open_lease d.current) o h)

-- ---- The newest request ran: its lease waits for no other

last_of : (P : Core → Type 0) (past : List Core) (x : Core) → AllByRecursion P (past ++ x ∷ []) → P x
last_of P [] x h = h.0
last_of P (p ∷ ps) x h = last_of P ps x h.1

has_run : (past : List Core) (x : Core) (r : SessionState) (l : ℕ) → x.ran ≡ Some r → x.lease ≡ l → NoneRan l (past ++ x ∷ []) → ⊥
has_run past x r l e i n = let z : x.ran ≡ None = last_of (λ y. y.lease ≡ l → y.ran ≡ None) past x n i in absurd (cc)

is_of_same : (k l : ℕ) (o : Option ℕ) → k ≡ l → IsOf k o → IsOf l o
is_of_same k l None e h = tt
is_of_same k l (Some m) e h = h ∙ e

running_owes : (w : World) (p : Standing) (xs past : List Core) (x : Core) (r : SessionState) (mark mark1 : Option Reset) (s s1 : SessionState) (o : Option ℕ) → x.ran ≡ Some r → Rests p false → IsOf x.lease o → Owes w p xs mark s (Some x.lease) → Owes w p (past ++ x ∷ []) mark1 s1 o
running_owes w (In (place.Leased l)) xs past x r mark mark1 s s1 o e b i h = (λ n. absurd (has_run past x r l e h.1 n), is_of_same x.lease l o h.1 i)
running_owes w (In (place.Kept t)) xs past x r mark mark1 s s1 o e b i h = absurd (cc)
running_owes w (In place.Free) xs past x r mark mark1 s s1 o e b i h = tt
running_owes w (In place.Draining) xs past x r mark mark1 s s1 o e b i h = tt
running_owes w Cut xs past x r mark mark1 s s1 o e b i h = tt

running_if : (w : World) (past : List Core) (x : Core) (r : SessionState) (mark : Option Reset) (s : SessionState) (o : Option ℕ) → x.ran ≡ Some r → IsOf x.lease o → ReadyIf w (past ++ x ∷ []) mark s o
running_if w past x r mark s None e i = tt
running_if w past x r mark s (Some l) e i = λ n. absurd (has_run past x r l e (sym i) n)

-- Of a busy connection whose newest request ran, its mark and its session are no one's any more.
running : (w : World) (p : Standing) (xs past : List Core) (x : Core) (r : SessionState) (mark mark1 : Option Reset) (s s1 : SessionState) (o : Option ℕ) → x.ran ≡ Some r → Rests p false → IsOf x.lease o → AllByRecursion (StartsWell w (past ++ x ∷ [])) (past ++ x ∷ []) → Owes w p xs mark s (Some x.lease) → IsReadyBy w (past ++ x ∷ []) mark1 s1 p o
running w p xs past x r mark mark1 s s1 o e b i g h =
    (g, running_owes w p xs past x r mark mark1 s s1 o e b i h, running_if w past x r mark1 s1 o e i)

-- The lease of a request that somebody waits for.
lease_open : (q : Record) (b : Bool) → b ≡ false → cond b None (Some q.lease) ≡ Some q.lease
lease_open q true e = absurd (cc)
lease_open q false e = refl

of_lease : (l : ℕ) (b : Bool) → IsOf l (cond b None (Some l))
of_lease l true = tt
of_lease l false = refl

-- ---- An entry arrives at the client

ack_eases_by : (b : Bool) (q : Record) → Eases (open_lease (Some q)) (open_lease (Some (when b acknowledges q)))
ack_eases_by false q = inl refl
ack_eases_by true q = inr refl

ack_eases : (r : ℕ) (o : Option Record) → Eases (open_lease o) (open_lease (option_map (if_numbered r acknowledges) o))
ack_eases r None = inl refl
ack_eases r (Some q) = ack_eases_by (eqb q.number r) q

gives_lease : (b : Bool) (s : answer.Step) (q : Record) → IsOf q.lease (open_lease (Some (when b (gives s) q)))
gives_lease true s q = of_lease q.lease (is_settled (phase_of (gives s q)))
gives_lease false s q = of_lease q.lease (is_settled (phase_of q))

-- A step came, so the newest request ran.
step_ran : (answers : Answers) (c : Connection) (ups : List Up) (r place : ℕ) (s : answer.Step) (es : List Down) (p : Phase) (a : Asking) (o : Option SessionState) → ByRan answers c ups (Step r place s ∷ es) p a o → (x : SessionState) × (o ≡ Some x)
step_ran answers c ups r place s es p a None h = absurd h.downs
step_ran answers c ups r place s es p a (Some x) h = (x, refl)

step_ready : (answers : Answers) (w : World) (c : Connection) (ups : List Up) (r place : ℕ) (s : answer.Step) (es : List Down) (mark : Option Reset) (o : Option Record) → is_settled (phase_in o) ≡ false → Rests c.standing (is_settled (phase_in o)) → Newest answers c ups (Step r place s ∷ es) o → IsReadyBy w (all_of (past_of c) (option_map core_of o)) c.mark c.session c.standing (open_lease o) → IsReadyBy w (all_of (map core_of (map (if_numbered r (gives s)) c.past)) (option_map core_of (option_map (if_numbered r (gives s)) o))) mark c.session c.standing (open_lease (option_map (if_numbered r (gives s)) o))
step_ready answers w c ups r place s es mark None b z n h = absurd (cc)
step_ready answers w c ups r place s es mark (Some q) b z n h =
    let ran : (x : SessionState) × (q.ran ≡ Some x) = step_ran answers c ups r place s es (phase_of q) q.asking q.ran n in
    let o1 : Option ℕ = open_lease (Some (if_numbered r (gives s) q)) in
    let same : map core_of (map (if_numbered r (gives s)) c.past) ++ core_of (if_numbered r (gives s) q) ∷ [] ≡ past_of c ++ core_of q ∷ [] =
    ap (λ xs. xs ++ core_of (if_numbered r (gives s) q) ∷ []) (map_cores (if_numbered r (gives s)) c.past (gives_core r s)) ∙ ap (λ x. past_of c ++ x ∷ []) (gives_core r s q) in
    let owes : Owes w c.standing (past_of c ++ core_of q ∷ []) c.mark c.session (Some q.lease) =
    subst (Owes w c.standing (past_of c ++ core_of q ∷ []) c.mark c.session) (lease_open q (is_settled (phase_of q)) b) h.1 in
    subst (λ xs. IsReadyBy w xs mark c.session c.standing o1) (sym same)
    (running w c.standing (past_of c ++ core_of q ∷ []) (past_of c) (core_of q) ran.0 c.mark mark c.session c.session o1 ran.1
    (subst (Rests c.standing) b z) (gives_lease (eqb q.number r) s q) h.0 owes)

pub down_ready : (answers : Answers) (w : World) (c : Connection) (e : Down) (es : List Down) → SoundWith c c.to_server.waiting (e ∷ es) → RestsIdle c → NewestWith answers c c.to_server.waiting (e ∷ es) → IsReady w c → IsReady w (client_acts (record c { to_client = passed e c.to_client }) e)
down_ready answers w c (Step r place s) es f z n h =
    step_ready answers w c c.to_server.waiting r place s es (mark_after s.reset c.mark) c.current
    (busy_down (phase c) (number_in c.current) c.answering c.to_server.waiting (Step r place s) es c.parts c.due f.0) z n h
down_ready answers w c (Acknowledgement r place changes) es f z n h =
    same_ready w c (client_acts (record c { to_client = passed (Acknowledgement r place changes) c.to_client }) (Acknowledgement r place changes)) (client_same c (Acknowledgement r place changes)) (ack_eases r c.current) h

-- ---- An entry arrives at the server

-- A transaction is rolled back, so the newest request ran.
rolls_ran : (answers : Answers) (c : Connection) (ups : List Up) (downs : List Down) (p : Phase) (a : Asking) (o : Option SessionState) → rolls c ≡ true → ByRan answers c ups downs p a o → (x : SessionState) × (o ≡ Some x)
rolls_ran answers c ups downs p a None y h =
    let z : true ≡ false = sym y ∙ rolls_nothing c (none_done answers c a h.due) in absurd (cc)
rolls_ran answers c ups downs p a (Some x) y h = (x, refl)

rolls_ready : (answers : Answers) (w : World) (c : Connection) (ups : List Up) (downs : List Down) (s : SessionState) (o : Option Record) → rolls c ≡ true → is_settled (phase_in o) ≡ false → Rests c.standing (is_settled (phase_in o)) → Newest answers c ups downs o → IsReadyBy w (all_of (past_of c) (option_map core_of o)) c.mark c.session c.standing (open_lease o) → IsReadyBy w (all_of (past_of c) (option_map core_of o)) c.mark s c.standing (open_lease o)
rolls_ready answers w c ups downs s None y b z n h = absurd (cc)
rolls_ready answers w c ups downs s (Some q) y b z n h =
    let ran : (x : SessionState) × (q.ran ≡ Some x) = rolls_ran answers c ups downs (phase_of q) q.asking q.ran y n in
    let owes : Owes w c.standing (past_of c ++ core_of q ∷ []) c.mark c.session (Some q.lease) =
    subst (Owes w c.standing (past_of c ++ core_of q ∷ []) c.mark c.session) (lease_open q (is_settled (phase_of q)) b) h.1 in
    running w c.standing (past_of c ++ core_of q ∷ []) (past_of c) (core_of q) ran.0 c.mark c.mark c.session s (open_lease (Some q)) ran.1
    (subst (Rests c.standing) b z) (of_lease q.lease (is_settled (phase_of q))) h.0 owes

stop_ready : (answers : Answers) (w : World) (c : Connection) (ups : List Up) (downs : List Down) (b : Bool) → rolls c ≡ b → is_settled (phase c) ≡ false → RestsIdle c → Newest answers c ups downs c.current → IsReady w c → IsReadyBy w (cores c) c.mark (stop_by b c.session).after c.standing (open_lease c.current)
stop_ready answers w c ups downs false y b z n h = h
stop_ready answers w c ups downs true y b z n h = rolls_ready answers w c ups downs (stop_by true c.session).after c.current y b z n h

pub up_ready : (answers : Answers) (w : World) (c : Connection) (e : Up) (es : List Up) → SoundWith c (e ∷ es) c.to_client.waiting → RestsIdle c → NewestWith answers c (e ∷ es) c.to_client.waiting → IsReady w c → IsReady w (server_acts answers (record c { to_server = passed e c.to_server }) e)
up_ready answers w c (Part r p) es f z n h = h
up_ready answers w c (End r a p) es f z n h = h
up_ready answers w c (Drop r p) es f z n h = h
up_ready answers w c (Attention r) es f z n h =
    stop_ready answers w c (Attention r ∷ es) c.to_client.waiting (rolls c) refl
    (busy_up (phase c) (number_in c.current) c.answering (Attention r) es c.to_client.waiting c.parts c.due f.0) z n h

-- ---- The server works

-- The session that the newest request runs in, where it didn't run before.
first_run : (answers : Answers) (c : Connection) (s : answer.Step) (ss : List answer.Step) (p : Phase) (a : Asking) → Lawful answers → c.due ≡ s ∷ ss → is_settled p ≡ false → Unrun answers c.session c.mark c.heard c.taken c.due p a c.to_server.waiting c.to_client.waiting → ran_in None s.reset c.session s.after ≡ runs_in c.mark c.session
first_run answers c s ss p a l e b h = elim h.due [
  | inl z ↦ absurd (not_none s ss (sym e ∙ z))
  | inr z ↦
      let first : FirstStep c.session a.mark s ss = first_step answers l c.session a.descriptor a.mark a.request s ss (sym e ∙ z.1) in
      first.ran ∙ ap (λ m. runs_in m c.session) (h.current b).0
]

-- The newest request ran, and no other.
first_back : (past : List Core) (x x1 p : Core) → x1.lease ≡ x.lease → x1.number ≡ x.number → (x1.ran ≡ None → x.ran ≡ None) → RanFirst (past ++ x1 ∷ []) p → RanFirst (past ++ x ∷ []) p
first_back [] x x1 p l n r h = (λ i j. r (h.0 (l ∙ i) (subst (λ k. k < p.number) (sym n) j)), tt)
first_back (y ∷ ys) x x1 p l n r h = (h.0, first_back ys x x1 p l n r h.1)

none_before : (past : List Core) (x x1 : Core) → x1.lease ≡ x.lease → x1.number ≡ x.number → x.ran ≡ None → AllByRecursion (λ p. p.number < x.number) past → RanFirst (past ++ x1 ∷ []) x1 → NoneRan x.lease (past ++ x ∷ [])
none_before [] x x1 l n r k h = (λ i. r, tt)
none_before (y ∷ ys) x x1 l n r k h =
    (λ i. h.0 (i ∙ sym l) (subst (λ m. y.number < m) (sym n) k.0), none_before ys x x1 l n r k.1 h.1)

starts_before : (w : World) (past : List Core) (x x1 : Core) (ys : List Core) → x1.lease ≡ x.lease → x1.number ≡ x.number → (x1.ran ≡ None → x.ran ≡ None) → StartsWell w (past ++ x1 ∷ []) x1 → AllByRecursion (StartsWell w (past ++ x ∷ [])) (ys ++ x ∷ []) → AllByRecursion (StartsWell w (past ++ x1 ∷ [])) (ys ++ x1 ∷ [])
starts_before w past x x1 [] l n r own h = (own, tt)
starts_before w past x x1 (y ∷ ys) l n r own h =
    (λ s e f. h.0 s e (first_back past x x1 y l n r f), starts_before w past x x1 ys l n r own h.1)

-- The newest request, by what it was before this step.
run_starts : (answers : Answers) (w : World) (c : Connection) (s : answer.Step) (ss : List answer.Step) (q : Record) (ran : Option SessionState) → Lawful answers → c.due ≡ s ∷ ss → is_settled (phase_of q) ≡ false → q.ran ≡ ran → AllByRecursion (λ p. p.number < q.number) (past_of c) → ByRan answers c c.to_server.waiting c.to_client.waiting (phase_of q) q.asking ran → ReadyFor w (past_of c ++ core_of q ∷ []) c.mark c.session q.lease → StartsWell w (past_of c ++ core_of q ∷ []) (core_of q) → StartsWell w (past_of c ++ core_of (runs c.session s q) ∷ []) (core_of (runs c.session s q))
run_starts answers w c s ss q (Some x) l e b i k n ready own t j f =
    let is : t ≡ x = let y : Some (ran_in q.ran s.reset c.session s.after) ≡ Some x = ap (λ o. Some (ran_in o s.reset c.session s.after)) i in let z : Some t ≡ Some x = sym j ∙ y in cc in
    subst (λ y. OfLease (IsFresh y) (KeptFresh y) w.tickets (numbered w.leases q.lease)) (sym is)
    (own x i (first_back (past_of c) (core_of q) (core_of (runs c.session s q)) (core_of q) refl refl (λ z. absurd (cc)) f))
run_starts answers w c s ss q None l e b i k n ready own t j f =
    let at : ran_in q.ran s.reset c.session s.after ≡ runs_in c.mark c.session =
    ap (λ o. ran_in o s.reset c.session s.after) i ∙ first_run answers c s ss (phase_of q) q.asking l e b n in
    let is : t ≡ runs_in c.mark c.session = let z : Some t ≡ Some (runs_in c.mark c.session) = sym j ∙ ap (λ y. Some y) at in cc in
    subst (λ y. OfLease (IsFresh y) (KeptFresh y) w.tickets (numbered w.leases q.lease)) (sym is)
    (ready_runs w.tickets (numbered w.leases q.lease) c.mark c.session
    (ready (none_before (past_of c) (core_of q) (core_of (runs c.session s q)) refl refl i k f)))

works_in : (answers : Answers) (w : World) (n : ℕ) (c : Connection) (s : answer.Step) (ss : List answer.Step) (o : Option Record) → Lawful answers → c.due ≡ s ∷ ss → Answering (phase_in o) (number_in o) c.answering c.to_server.waiting → Rests c.standing (is_settled (phase_in o)) → NumbersOf n (past_of c) (option_map core_of o) → Newest answers c c.to_server.waiting c.to_client.waiting o → IsReadyBy w (all_of (past_of c) (option_map core_of o)) c.mark c.session c.standing (open_lease o) → IsReadyBy w (all_of (past_of c) (option_map core_of (option_map (if_numbered c.answering (runs c.session s)) o))) c.mark s.after c.standing (open_lease (option_map (if_numbered c.answering (runs c.session s)) o))
works_in answers w n c s ss None l e f z k m h = let y : true ≡ false = f.busy in absurd (cc)
works_in answers w n c s ss (Some q) l e f z k m h =
    let p : Record = runs c.session s q in
    let waits : open_lease (Some q) ≡ Some q.lease = lease_open q (is_settled (phase_of q)) f.busy in
    let owes : Owes w c.standing (past_of c ++ core_of q ∷ []) c.mark c.session (Some q.lease) = subst (Owes w c.standing (past_of c ++ core_of q ∷ []) c.mark c.session) waits h.1 in
    let ready : ReadyFor w (past_of c ++ core_of q ∷ []) c.mark c.session q.lease = subst (ReadyIf w (past_of c ++ core_of q ∷ []) c.mark c.session) waits h.2 in
    let own : StartsWell w (past_of c ++ core_of p ∷ []) (core_of p) =
    run_starts answers w c s ss q q.ran l e f.busy refl k.1 m ready (last_of (StartsWell w (past_of c ++ core_of q ∷ [])) (past_of c) (core_of q) h.0) in
    of_changed (λ x. IsReadyBy w (past_of c ++ core_of x ∷ []) c.mark s.after c.standing (open_lease (Some x))) (eqb q.number c.answering) (runs c.session s) q
    (same_number c.answering q.number f.number)
    (running w c.standing (past_of c ++ core_of q ∷ []) (past_of c) (core_of p) (ran_in q.ran s.reset c.session s.after) c.mark c.mark c.session s.after (open_lease (Some p)) refl
    (subst (Rests c.standing) f.busy z) (of_lease q.lease (is_settled (phase_of q)))
    (starts_before w (past_of c) (core_of q) (core_of p) (past_of c) refl refl (λ y. absurd (cc)) own h.0) owes)

pub works_ready : (answers : Answers) (w : World) (n : ℕ) (c : Connection) (due : List answer.Step) → Lawful answers → c.due ≡ due → Sound c → RestsIdle c → NumbersOf n (past_of c) (newest_of c) → NewestOf answers c → IsReady w c → IsReady w (works_on c due)
works_ready answers w n c [] l e f z k m h = h
works_ready answers w n c (s ∷ ss) l e f z k m h =
    subst (λ qs. IsReadyBy w (all_of (map core_of qs) (newest_of (works_on c (s ∷ ss)))) c.mark s.after c.standing (open_lease (works_on c (s ∷ ss)).current)) (sym (works_past n c (s ∷ ss) e f k))
    (works_in answers w n c s ss c.current l e (answers_newest c s ss e f) z k m h)
