-- The leases of a connection's requests come one after the other, and in each of them no reset is asked
-- for once a request ran.
use Rattle.std.proofs.Common.{◌≡◌, ◌⊎◌, ◌≤◌, ◌<◌, ◌-◌, ◌+◌, ℕ, suc, List, [], ◌∷◌, ◌++◌, map, length, Bool, true, false, eqb, min, inl, inr, refl, sym, ap, subst, ◌∙◌, Option, Some, None, option_map, arith}
use Rattle.std.proofs.lemmas.List.{length-append}
use Rattle.std.specs.List.{AllByRecursion}
use Rattle.std.specs.Prelude.{◌==◌, ◌||◌, ◌&&◌}
use Rattle.tds_packet.specs.declared.status.Reset.{Reset}
use Rattle.tds_request.specs.declared.request.Request.{Request}
use Rattle.tds_session.specs.Answer as answer
use Rattle.tds_session.specs.Answer.{Answers}
use Rattle.tds_session.specs.Session.{SessionState}
use Rattle.tds_world.specs.declared.event.Event.{Event}
use Rattle.tds_world.specs.declared.event.Event.TheVariants as event
use Rattle.tds_world.specs.declared.event.Setup.{Setup}
use Rattle.tds_world.specs.declared.report.Place.TheVariants as place
use Rattle.tds_world.specs.Arrivals.{reach_client, works_on}
use Rattle.tds_world.specs.Caller.{asks, sends_by, sends_last}
use Rattle.tds_world.specs.Cleaning.{aside, clean_request, cleaning_record, cleans}
use Rattle.tds_world.specs.Connection.{Connection, Standing, In, Cut, records, phase, is_idle, up_underway, down_underway}
use Rattle.tds_world.specs.Entries.{Down, Step, Acknowledgement}
use Rattle.tds_world.specs.Events.{acts, asks_by, cleans_by, sends_in, world_after}
use Rattle.tds_world.specs.Lawful.{Lawful}
use Rattle.tds_world.specs.Laws.{Always, OfEachConnection}
use Rattle.tds_world.specs.Phase.{phase_in, phase_of, is_settled}
use Rattle.tds_world.specs.Pool.{Acted, Refuses, Does, is_free, gives_back_at, abandons_at, keeps_by, is_full}
use Rattle.tds_world.specs.Record.{Record, runs, ran_in, if_numbered}
use Rattle.tds_world.specs.World.{World, new_world, Holding, next_number, put_numbered}
use Rattle.tds_world.proofs.events.Adds.{notes_add}
use Rattle.tds_world.proofs.events.Noted.{KeptIn, on_top, always_in, world_with}
use Rattle.tds_world.proofs.events.Places.{StandsFor}
use Rattle.tds_world.proofs.events.Words.{OfActed}
use Rattle.tds_world.proofs.events.Worlds.{each_follows}
use Rattle.tds_world.proofs.flow.Arrivals.{same_number, of_changed}
use Rattle.tds_world.proofs.flow.Busy.{Answering}
use Rattle.tds_world.proofs.flow.Flow.{number_in, Quiet, Sound}
use Rattle.tds_world.proofs.flow.Keeps.{ask_fits}
use Rattle.tds_world.proofs.requests.Asking.{ByRan, Newest, NewestWith}
use Rattle.tds_world.proofs.requests.Cores.{Core, core_of, past_of, newest_of, all_of, joined_cores}
use Rattle.tds_world.proofs.requests.Marks.{not_none}
use Rattle.tds_world.proofs.requests.Newest.{answering}
use Rattle.tds_world.proofs.requests.Numbers.{NumbersOf, all_below_next}
use Rattle.tds_world.proofs.requests.OwnTransactions.{WellMarked, marked_kept, works_past}
use Rattle.tds_world.proofs.requests.Ready.{NoneRan, cores}
use Rattle.tds_world.proofs.requests.Runs.{FirstStep, first_step}
use Rattle.tds_world.proofs.alone.Tenants.{IsRan, Behind, InTurn, WithReset, HasReset, Cleared, HolderOf, Tenant, TenantOf, all_at_most, tenant_grows, more_leases, no_tenant, cancels_tenant, back, abandoned, kept, sent, sends_tenant, cleared_more, tenant_then, reach_server_tenant, reach_client_tenant, drained_tenant}

-- ---- The server works

-- The last one changes, but for its number, its lease and what it asks.
last_behind : (p x y : Core) → y.number ≡ x.number → y.lease ≡ x.lease → y.asking ≡ x.asking → Behind p x → Behind p y
last_behind p x y n l a h = record {
  number = subst (λ m. p.number < m) (sym n) h.number;
  lease = subst (λ m. p.lease ≤ m) (sym l) h.lease;
  mark = λ e r. ap (λ z. z.mark) a ∙ h.mark (sym l ∙ e) r;
}

last_all : (P : Core → Type 0) (past : List Core) (x y : Core) → (P x → P y) → AllByRecursion P (past ++ x ∷ []) → AllByRecursion P (past ++ y ∷ [])
last_all P [] x y f h = (f h.0, tt)
last_all P (p ∷ ps) x y f h = (h.0, last_all P ps x y f h.1)

last_in_turn : (past : List Core) (x y : Core) → y.number ≡ x.number → y.lease ≡ x.lease → y.asking ≡ x.asking → InTurn (past ++ x ∷ []) → InTurn (past ++ y ∷ [])
last_in_turn [] x y n l a h = (tt, tt)
last_in_turn (p ∷ ps) x y n l a h = (last_all (Behind p) ps x y (last_behind p x y n l a) h.0, last_in_turn ps x y n l a h.1)

or_reset : (o : Option Reset) (P : Type 0) → P → WithReset o P
or_reset None P h = h
or_reset (Some x) P h = tt

reset_last : (xs : List Down) (r place : ℕ) (s : answer.Step) (m : Reset) → s.reset ≡ Some m → HasReset (xs ++ Step r place s ∷ [])
reset_last [] r place s m e = subst (λ o. WithReset o ⊥) (sym e) tt
reset_last (Acknowledgement q i changes ∷ es) r place s m e = reset_last es r place s m e
reset_last (Step q i t ∷ es) r place s m e = or_reset t.reset (HasReset (es ++ Step r place s ∷ [])) (reset_last es r place s m e)

first_cleared : (mark : Option Reset) (xs : List Down) (r place : ℕ) (s : answer.Step) → s.reset ≡ mark → Cleared mark (xs ++ Step r place s ∷ [])
first_cleared None xs r place s e = inl refl
first_cleared (Some m) xs r place s e = inr (reset_last xs r place s m e)

cleared_holder : (k : ℕ) (s : Standing) (past : List Core) (x y : Core) (mark : Option Reset) (downs more : List Down) → y.lease ≡ x.lease → Cleared mark more → HolderOf k s (past ++ x ∷ []) mark downs → HolderOf k s (past ++ y ∷ []) mark more
cleared_holder k (In (place.Leased l)) past x y mark downs more e c h = (h.0, (last_all (λ (z : Core). z.lease ≤ l) past x y (λ z. subst (λ m. m ≤ l) (sym e) z) h.1.0, inr c))
cleared_holder k s past x y mark downs more e c h = tt

run_tenant : (k : ℕ) (answers : Answers) (c : Connection) (s : answer.Step) (ss : List answer.Step) (q : Record) (place : ℕ) (ran : Option SessionState) → Lawful answers → c.due ≡ s ∷ ss → is_settled (phase_of q) ≡ false → q.ran ≡ ran → ByRan answers c c.to_server.waiting c.to_client.waiting (phase_of q) q.asking ran → Tenant k (past_of c ++ core_of q ∷ []) c.standing c.mark c.to_client.waiting → Tenant k (past_of c ++ core_of (runs c.session s q) ∷ []) c.standing c.mark (c.to_client.waiting ++ Step c.answering place s ∷ [])
run_tenant k answers c s ss q place None l e b i n h = elim n.due [
  | inl z ↦ absurd (not_none s ss (sym e ∙ z))
  | inr z ↦
      let first : FirstStep c.session q.asking.mark s ss = first_step answers l c.session q.asking.descriptor q.asking.mark q.asking.request s ss (sym e ∙ z.1) in
      let more : List Down = c.to_client.waiting ++ Step c.answering place s ∷ [] in
      let clear : Cleared c.mark more = first_cleared c.mark c.to_client.waiting c.answering place s (first.reset ∙ (n.current b).0) in
      record {
        turn = last_in_turn (past_of c) (core_of q) (core_of (runs c.session s q)) refl refl refl h.turn;
        known = last_all (λ (x : Core). x.lease ≤ k) (past_of c) (core_of q) (core_of (runs c.session s q)) (λ x. x) h.known;
        holder = cleared_holder k c.standing (past_of c) (core_of q) (core_of (runs c.session s q)) c.mark c.to_client.waiting more refl clear h.holder;
      }
]
run_tenant k answers c s ss q place (Some x) l e b i n h =
    let same : core_of (runs c.session s q) ≡ core_of q =
    ap (λ o. record { number = q.number; lease = q.lease; conn = q.conn; asking = q.asking; ran = o }) (ap (λ o. Some (ran_in o s.reset c.session s.after)) i ∙ sym i) in
    subst (λ y. Tenant k (past_of c ++ y ∷ []) c.standing c.mark (c.to_client.waiting ++ Step c.answering place s ∷ [])) (sym same)
    (tenant_then k c.standing (past_of c ++ core_of q ∷ []) c.mark c.mark c.to_client.waiting _ (cleared_more c.mark c.to_client.waiting _) h)

works_in : (k : ℕ) (answers : Answers) (c : Connection) (s : answer.Step) (ss : List answer.Step) (o : Option Record) (place : ℕ) → Lawful answers → c.due ≡ s ∷ ss → Answering (phase_in o) (number_in o) c.answering c.to_server.waiting → Newest answers c c.to_server.waiting c.to_client.waiting o → Tenant k (all_of (past_of c) (option_map core_of o)) c.standing c.mark c.to_client.waiting → Tenant k (all_of (past_of c) (option_map core_of (option_map (if_numbered c.answering (runs c.session s)) o))) c.standing c.mark (c.to_client.waiting ++ Step c.answering place s ∷ [])
works_in k answers c s ss None place l e f m h = let y : true ≡ false = f.busy in absurd (cc)
works_in k answers c s ss (Some q) place l e f m h =
    of_changed (λ x. Tenant k (past_of c ++ core_of x ∷ []) c.standing c.mark (c.to_client.waiting ++ Step c.answering place s ∷ [])) (eqb q.number c.answering) (runs c.session s) q
    (same_number c.answering q.number f.number)
    (run_tenant k answers c s ss q place q.ran l e f.busy refl m h)

works_tenant : (k n : ℕ) (answers : Answers) (c : Connection) (due : List answer.Step) → Lawful answers → c.due ≡ due → Sound c → NumbersOf n (past_of c) (newest_of c) → NewestWith answers c c.to_server.waiting c.to_client.waiting → TenantOf k c → TenantOf k (works_on c due)
works_tenant k n answers c [] l e f m g h = h
works_tenant k n answers c (s ∷ ss) l e f m g h =
    subst (λ qs. Tenant k (all_of (map core_of qs) (newest_of (works_on c (s ∷ ss)))) c.standing c.mark (works_on c (s ∷ ss)).to_client.waiting) (sym (works_past n c (s ∷ ss) e f m))
    (works_in k answers c s ss c.current _ l e (answering c s ss e f) g h)

-- ---- A request is asked

and_last : (P : Core → Type 0) (xs : List Core) (x : Core) → AllByRecursion P xs → P x → AllByRecursion P (xs ++ x ∷ [])
and_last P [] x h k = (k, tt)
and_last P (y ∷ ys) x h k = (h.0, and_last P ys x h.1 k)

-- It is behind all others.
turn_more : (xs : List Core) (x : Core) → AllByRecursion (λ y. Behind y x) xs → InTurn xs → InTurn (xs ++ x ∷ [])
turn_more [] x h g = (tt, tt)
turn_more (y ∷ ys) x h g = (and_last (Behind y) ys x g.0 h.0, turn_more ys x h.1 g.1)

not_ran : (o : Option SessionState) (mark : Option Reset) → o ≡ None → IsRan o → mark ≡ None
not_ran None mark e r = absurd r
not_ran (Some s) mark e r = absurd (cc)

all_not_ran : (l : ℕ) (mark : Option Reset) (xs : List Core) → NoneRan l xs → AllByRecursion (λ (y : Core). y.lease ≡ l → IsRan y.ran → mark ≡ None) xs
all_not_ran l mark [] h = tt
all_not_ran l mark (y ∷ ys) h = (λ e r. not_ran y.ran mark (h.0 e) r, all_not_ran l mark ys h.1)

all_clear : (l : ℕ) (mark : Option Reset) (xs : List Core) → mark ≡ None → AllByRecursion (λ (y : Core). y.lease ≡ l → IsRan y.ran → mark ≡ None) xs
all_clear l mark [] h = tt
all_clear l mark (y ∷ ys) h = (λ e r. h, all_clear l mark ys h)

all_behind : (xs : List Core) (x : Core) → AllByRecursion (λ (y : Core). y.number < x.number) xs → AllByRecursion (λ (y : Core). y.lease ≤ x.lease) xs → AllByRecursion (λ (y : Core). y.lease ≡ x.lease → IsRan y.ran → x.asking.mark ≡ None) xs → AllByRecursion (λ y. Behind y x) xs
all_behind [] x f g h = tt
all_behind (y ∷ ys) x f g h = (record { number = f.0; lease = g.0; mark = λ e r. h.0 (sym e) r }, all_behind ys x f.1 g.1 h.1)

-- Nothing is on its way to an idle client.
marks_clear : (mark : Option Reset) (downs : List Down) → downs ≡ [] → Cleared mark downs → mark ≡ None
marks_clear mark [] e h = elim h [
  | inl g ↦ g
  | inr g ↦ absurd g
]
marks_clear mark (x ∷ xs) e h = absurd (cc)

none_more : (l : ℕ) (xs : List Core) (x : Core) (mark : Option Reset) (downs : List Down) → x.ran ≡ None → NoneRan l xs ⊎ Cleared mark downs → NoneRan l (xs ++ x ∷ []) ⊎ Cleared mark downs
none_more l xs x mark downs e h = elim h [
  | inl n ↦ inl (and_last (λ (y : Core). y.lease ≡ l → y.ran ≡ None) xs x n (λ f. e))
  | inr g ↦ inr g
]

marks_of : (l : ℕ) (mark : Option Reset) (downs : List Down) (xs : List Core) → downs ≡ [] → NoneRan l xs ⊎ Cleared mark downs → AllByRecursion (λ (y : Core). y.lease ≡ l → IsRan y.ran → mark ≡ None) xs
marks_of l mark downs xs e h = elim h [
  | inl n ↦ all_not_ran l mark xs n
  | inr g ↦ all_clear l mark xs (marks_clear mark downs e g)
]

same_most : (n : ℕ) → n ≤ n
same_most n = omega arith

one_more : (k l : ℕ) (xs ys : List Core) (s : Standing) (mark : Option Reset) (downs : List Down) (x : Core) → ys ≡ xs → s ≡ In (place.Leased l) → x.lease ≡ l → x.asking.mark ≡ mark → x.ran ≡ None → downs ≡ [] → AllByRecursion (λ (y : Core). y.number < x.number) xs → Tenant k xs s mark downs → Tenant k (ys ++ x ∷ []) s mark downs
one_more k l xs ys s mark downs x i e a m r d n h =
    let held : HolderOf k (In (place.Leased l)) xs mark downs = subst (λ t. HolderOf k t xs mark downs) e h.holder in
    let most : x.lease ≤ l = subst (λ y. y ≤ l) (sym a) (same_most l) in
    let low : l ≤ k = held.0 in
    let marked : AllByRecursion (λ (y : Core). y.lease ≡ x.lease → IsRan y.ran → x.asking.mark ≡ None) xs =
    subst (λ b. AllByRecursion (λ (y : Core). y.lease ≡ b → IsRan y.ran → x.asking.mark ≡ None) xs) (sym a)
    (subst (λ b. AllByRecursion (λ (y : Core). y.lease ≡ l → IsRan y.ran → b ≡ None) xs) (sym m) (marks_of l mark downs xs d held.1.1)) in
    subst (λ zs. Tenant k (zs ++ x ∷ []) s mark downs) (sym i)
    (record {
      turn = turn_more xs x (all_behind xs x n (subst (λ b. AllByRecursion (λ (y : Core). y.lease ≤ b) xs) (sym a) held.1.0) marked) h.turn;
      known = and_last (λ (y : Core). y.lease ≤ k) xs x h.known (omega arith);
      holder = subst (λ t. HolderOf k t (xs ++ x ∷ []) mark downs) (sym e)
          (held.0, (and_last (λ (y : Core). y.lease ≤ l) xs x held.1.0 most, none_more l xs x mark downs r held.1.1));
    })

asked : (k : ℕ) (b : Bool) (ns : List ℕ) (lease n : ℕ) (q : Request) (c : Connection) → is_idle c ≡ b → c.standing ≡ In (place.Leased lease) → Sound c → NumbersOf (length ns) (past_of c) (newest_of c) → TenantOf k c → OfActed (TenantOf k) (asks_by b (next_number ns) lease n q c)
asked k false ns lease n q c i e f m h = tt
asked k true ns lease n q c i e f m h =
    let quiet : Quiet c.to_server.waiting c.to_client.waiting c.parts c.due =
    ask_fits (phase c) (number_in c.current) c.answering c.to_server.waiting c.to_client.waiting c.parts c.due i f.0 in
    one_more k lease (cores c) (map core_of (records c)) c.standing c.mark c.to_client.waiting _ (joined_cores c.past c.current) e refl refl refl quiet.1
    (all_below_next (length ns) (past_of c) (newest_of c) m) h

-- ---- A lease begins

none_of_new : (k : ℕ) (xs : List Core) → AllByRecursion (λ (x : Core). x.lease ≤ k) xs → NoneRan (suc k) xs
none_of_new k [] h = tt
none_of_new k (x ∷ xs) h = (λ e. let z : x.lease ≤ k = h.0 in absurd (omega arith), none_of_new k xs h.1)

less_or : (k : ℕ) → k ≤ suc k
less_or k = omega arith

lent : (k m : ℕ) (xs : List Core) (s : Standing) (mark new : Option Reset) (downs : List Down) → suc k ≤ m → Tenant k xs s mark downs → Tenant m xs (In (place.Leased (suc k))) new downs
lent k m xs s mark new downs l h = record {
  turn = h.turn;
  known = all_at_most k m xs (omega arith) h.known;
  holder = (l, (all_at_most k (suc k) xs (less_or k) h.known, inl (none_of_new k xs h.known)));
}

one_longer : (hs : List Holding) (x : Holding) → suc (length hs) ≤ length (hs ++ x ∷ [])
one_longer hs x = rw (length-append hs (x ∷ [])) (omega arith)

-- ---- A connection is cleaned

-- It is lent, asked and given back: nobody has it then.
cleans_tenant : (room n : ℕ) (hs : List Holding) (ns : List ℕ) (c : Connection) → is_idle c ≡ true → Sound c → NumbersOf (length ns) (past_of c) (newest_of c) → TenantOf (length hs) c → TenantOf (suc (length hs)) (cleans room (next_number hs) (next_number ns) n c)
cleans_tenant room n hs ns c i f m h =
    let l : ℕ = next_number hs in
    let mark : Option Reset = (aside c).mark in
    let b : Connection = record c { mark = mark; standing = In (place.Leased l) } in
    let g : TenantOf l b = lent (length hs) l (cores c) c.standing c.mark mark c.to_client.waiting (same_most l) h in
    let d : Connection = asks (next_number ns) l n clean_request b in
    let j : TenantOf l d = asked l true ns l n clean_request b i refl f m g in
    let e : Connection = sends_by true room (cleaning_record l (next_number ns) n c) d in
    no_tenant l e (In place.Draining) (λ k xs mark downs. tt) (sends_tenant l true room (cleaning_record l (next_number ns) n c) d refl j)

-- ---- Each act

abbrev TenantIn : World → Connection → Type 0
TenantIn w c = TenantOf (length w.leases) c

noted : (w : World) (e : Event) (n : ℕ) (a : Acted) → OfActed (TenantOf (length w.leases)) a → OfActed (λ d. TenantIn (world_with e n w d) d) a
noted w e n (Refuses why) h = tt
noted w e n (Does what d) h =
    tenant_grows (length w.leases) (length (world_with e n w d).leases) d d.to_client.waiting
    (more_leases w.leases (world_with e n w d).leases (notes_add e n d.heard w (put_numbered n d w.connections)).leases) h

cleaned : (w : World) (i n room : ℕ) (free idle last : Bool) (c : Connection) → is_idle c ≡ idle → Sound c → NumbersOf (length w.asked_on) (past_of c) (newest_of c) → TenantIn w c → OfActed (λ d. TenantIn (world_with (event.Clean i) n w d) d) (cleans_by free (idle && last) room (next_number w.leases) (next_number w.asked_on) n c)
cleaned w i n room false idle last c e f m h = tt
cleaned w i n room true false last c e f m h = tt
cleaned w i n room true true false c e f m h = tt
cleaned w i n room true true true c e f m h =
    let d : Connection = cleans room (next_number w.leases) (next_number w.asked_on) n c in
    tenant_grows (suc (length w.leases)) (length (world_with (event.Clean i) n w d).leases) d d.to_client.waiting (one_longer w.leases _)
    (cleans_tenant room n w.leases w.asked_on c e f m h)

acted : (setup : Setup) (answers : Answers) (w : World) (e : Event) (n : ℕ) (c : Connection) → Lawful answers → StandsFor e c.standing → WellMarked answers w c → TenantIn w c → OfActed (λ d. TenantIn (world_with e n w d) d) (acts setup answers w e n c)
acted setup answers w event.Lease n c l s f h = lent (length w.leases) _ (cores c) c.standing c.mark _ c.to_client.waiting (one_longer w.leases _) h
acted setup answers w (event.Resume t) n c l s f h = lent (length w.leases) _ (cores c) c.standing c.mark _ c.to_client.waiting (one_longer w.leases _) h
acted setup answers w (event.GiveBack x) n c l s f h = noted w (event.GiveBack x) n (gives_back_at c.standing c) (back (length w.leases) c.standing c h)
acted setup answers w (event.Keep x) n c l s f h =
    noted w (event.Keep x) n (keeps_by (is_idle c) (c.heard == 0 || is_full c.mark) (next_number w.tickets) c) (kept (length w.leases) (is_idle c) (c.heard == 0 || is_full c.mark) (next_number w.tickets) c h)
acted setup answers w (event.Abandon t) n c l s f h = noted w (event.Abandon t) n (abandons_at c.standing c) (abandoned (length w.leases) c.standing c h)
acted setup answers w (event.Clean i) n c l s f h =
    cleaned w i n (setup.packet_size - 8) (is_free c.standing) (is_idle c) (sends_last (setup.packet_size - 8) (cleaning_record (next_number w.leases) (next_number w.asked_on) n c)) c refl f.0.0.0 f.0.1 h
acted setup answers w (event.Ask x q) n c l s f h =
    noted w (event.Ask x q) n (asks_by (is_idle c) (next_number w.asked_on) x n q c) (asked (length w.leases) (is_idle c) w.asked_on x n q c refl s f.0.0.0 f.0.1 h)
acted setup answers w (event.Send x) n c l s f h =
    noted w (event.Send x) n (sends_in (phase c) (setup.packet_size - 8) c.current c) (sent (length w.leases) (phase c) (setup.packet_size - 8) c.current c refl h)
acted setup answers w (event.Cancel x) n c l s f h = cancels_tenant (length w.leases) c.current c refl h
acted setup answers w (event.Work i) n c l s f h = works_tenant (length w.leases) (length w.asked_on) answers c c.due l refl f.0.0.0 f.0.1 f.1.1 h
acted setup answers w (event.ToServer i m) n c l s f h = reach_server_tenant (length w.leases) answers c c.to_server.waiting (c.to_server.part + min m (up_underway c)) h
acted setup answers w (event.ToClient i m) n c l s f h =
    let d : Connection = reach_client c c.to_client.waiting (c.to_client.part + min m (down_underway c)) in
    drained_tenant (length w.leases) d (reach_client_tenant (length w.leases) c c.to_client.waiting (c.to_client.part + min m (down_underway c)) h)
acted setup answers w (event.Cut i) n c l s f h = no_tenant (length w.leases) c Cut (λ m xs mark downs. tt) h
acted setup answers w event.RestartServer n c l s f h = tt
acted setup answers w event.RestartClient n c l s f h = tt

abbrev MarkedTenant : Answers → World → Connection → Type 0
MarkedTenant answers w c = WellMarked answers w c × TenantIn w c

tenants_kept : (setup : Setup) (answers : Answers) → Lawful answers → KeptIn setup answers (MarkedTenant answers)
tenants_kept setup answers l = on_top setup answers (WellMarked answers) TenantIn (marked_kept setup answers l) (record {
  grows = λ w v c a h. tenant_grows (length w.leases) (length v.leases) c c.to_client.waiting (more_leases w.leases v.leases a.leases) h;
  opened = λ w n. record { turn = tt; known = tt; holder = (one_longer w.leases _, (tt, inl tt)) };
  acted = λ w e n c s f h. acted setup answers w e n c l s f h;
  was_cut = λ w c h. no_tenant (length w.leases) c Cut (λ m xs mark downs. tt) h;
})

pub all_in_turn : (setup : Setup) (answers : Answers) → Lawful answers → Always setup answers (OfEachConnection (λ c. InTurn (map core_of (records c))))
all_in_turn setup answers l events =
    let w : World = world_after setup answers events new_world in
    each_follows (MarkedTenant answers w) (λ c. InTurn (map core_of (records c))) w.connections (λ c h. subst InTurn (sym (joined_cores c.past c.current)) h.1.turn)
    (always_in setup answers (MarkedTenant answers) events (tenants_kept setup answers l))
