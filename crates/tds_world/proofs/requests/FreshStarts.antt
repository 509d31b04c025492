-- The first request of a lease that runs finds a fresh session, or the kept transaction without
-- settings.
use Rattle.std.proofs.Common.{◌≡◌, ◌<◌, ℕ, List, [], ◌∷◌, ◌++◌, ◌-◌, inl, inr, map, length, Bool, true, false, cond, refl, sym, ap, subst, Option, Some, None}
use Rattle.std.specs.List.{AllByRecursion}
use Rattle.std.specs.Prelude.{◌==◌, ◌||◌}
use Rattle.tds_packet.specs.declared.status.Reset.{Reset}
use Rattle.tds_packet.specs.declared.status.Reset.TheVariants.{Full, KeepTransaction}
use Rattle.tds_request.specs.declared.request.Request.{Request}
use Rattle.tds_session.specs.Answer.{Answers}
use Rattle.tds_session.specs.Session.{SessionState, IsFresh}
use Rattle.tds_packet.specs.Resets.{strongest}
use Rattle.tds_world.specs.declared.event.Event.TheVariants as event
use Rattle.tds_world.specs.declared.event.Setup.{Setup}
use Rattle.tds_world.specs.declared.report.Place.TheVariants as place
use Rattle.tds_world.specs.Caller.{cancels_by, sends_by, asks}
use Rattle.tds_world.specs.Connection.{Connection, new_connection, records, phase, is_idle, Standing, In}
use Rattle.tds_world.specs.Events.{world_after}
use Rattle.tds_world.specs.Lawful.{Lawful}
use Rattle.tds_world.specs.Laws.{Always, HasKept, StartsFrom, StartsUnder, StartsFresh, FreshStart}
use Rattle.tds_world.specs.Phase.{Phase, Settled, Asked, Sending, Reading, Cancelling, phase_of, phase_in, phase_by, is_settled}
use Rattle.tds_world.specs.Pool.{is_full, place_back}
use Rattle.tds_world.specs.Record.{Record, Cancelled}
use Rattle.tds_world.specs.World.{World, new_world, Holding, numbered, next_number, holding, put_numbered}
use Rattle.tds_world.proofs.events.Adds.{notes_add}
use Rattle.tds_world.proofs.events.Moves.{Invariant, BothIn, MovesOver, Stand, Lends, Resumes, GivesBack, Keeps, Abandons, Drains, Cuts, Before, restood, restood_in, noted_on_top, by_noted_moves, AnyAt}
use Rattle.tds_world.proofs.events.Noted.{KeptIn, always_in, world_with}
use Rattle.tds_world.proofs.events.Worlds.{each_follows}
use Rattle.tds_world.proofs.flow.Busy.{is_open}
use Rattle.tds_world.proofs.flow.Flow.{number_in, Hears, Quiet, Sound}
use Rattle.tds_world.proofs.flow.Keeps.{ask_fits}
use Rattle.tds_world.proofs.requests.Cores.{Core, core_of, joined_cores, sends_same, cancels_same_by}
use Rattle.tds_world.proofs.requests.OwnTransactions.{WellMarked, lend_idle, resume_idle, WellMarkedWith, marked_noted}
use Rattle.tds_world.proofs.requests.Ready.{OfTicket, OfStart, OfLease, KeptFresh, ReadyNew, ReadyKept, KeptWell, kept_ready, NoneRan, RanFirst, StartsWell, ReadyFor, IsOf, Owes, open_lease, cores, IsReadyBy, IsReady, is_ready_grows, drained_owes, last_numbered}
use Rattle.tds_world.proofs.requests.ReadySteps.{Eases, same_ready, down_ready, up_ready, works_ready}
use Rattle.tds_world.proofs.requests.Rests.{SoundAndIdle}
use Rattle.tds_world.proofs.flow.Fates.{is_sending}

-- ---- The caller

open_eases : (q : Record) (b c : Bool) → b ≡ false → Eases (cond b None (Some q.lease)) (cond c None (Some q.lease))
open_eases q true c e = absurd (cc)
open_eases q false true e = inr refl
open_eases q false false e = inl refl

cancels_ease_by : (p : Phase) (q : Record) (c : Connection) → c.current ≡ Some q → phase_of q ≡ p → Eases (open_lease c.current) (open_lease (cancels_by p q c).current)
cancels_ease_by Settled q c i e = inl refl
cancels_ease_by Cancelling q c i e = inl refl
cancels_ease_by Asked q c i e = rw i (open_eases q (is_settled (phase_of q)) (is_settled (phase_by Cancelled q.out)) (ap is_settled e))
cancels_ease_by Sending q c i e = rw i (open_eases q (is_settled (phase_of q)) (is_settled (phase_by Cancelled q.out)) (ap is_settled e))
cancels_ease_by Reading q c i e = rw i (open_eases q (is_settled (phase_of q)) (is_settled (phase_by Cancelled q.out)) (ap is_settled e))

-- It is at the place where it stood, under the mark that it had.
cancelled_by : (w : World) (p : Phase) (q : Record) (c : Connection) → IsReadyBy w (cores (cancels_by p q c)) c.mark c.session c.standing (open_lease (cancels_by p q c).current) → IsReady w (cancels_by p q c)
cancelled_by w Settled q c h = h
cancelled_by w p q c h = h

cancels_ready : (w : World) (p : Phase) (q : Record) (c : Connection) → c.current ≡ Some q → phase_of q ≡ p → IsReady w c → IsReady w (cancels_by p q c)
cancels_ready w p q c i e h = cancelled_by w p q c (same_ready w c (cancels_by p q c) (cancels_same_by p q c i) (cancels_ease_by p q c i e) h)

-- A connection comes back, free or draining.
comes_back : (w : World) (b : Bool) (d : Connection) → IsReady w d → IsReady w (record d { standing = In (place_back b) })
comes_back w true d h = (h.0, tt, h.2)
comes_back w false d h = (h.0, tt, h.2)

-- A request is asked under the lease that has the connection.
newer : (w : World) (xs ys : List Core) (x : Core) → x.ran ≡ None → AllByRecursion (StartsWell w xs) ys → AllByRecursion (StartsWell w (xs ++ x ∷ [])) (ys ++ x ∷ [])
newer w xs [] x e h = (λ s i f. absurd (cc), tt)
newer w xs (y ∷ ys) x e h = (λ s i f. h.0 s i (without_last xs f), newer w xs ys x e h.1)
  where
    without_last : (zs : List Core) → RanFirst (zs ++ x ∷ []) y → RanFirst zs y
    without_last [] f = tt
    without_last (z ∷ zs) f = (f.0, without_last zs f.1)

none_ran_before : (l : ℕ) (xs : List Core) (x : Core) → NoneRan l (xs ++ x ∷ []) → NoneRan l xs
none_ran_before l [] x n = tt
none_ran_before l (y ∷ ys) x n = (n.0, none_ran_before l ys x n.1)

asks_ready : (w : World) (xs ys : List Core) (mark : Option Reset) (s : SessionState) (p : Standing) (l : ℕ) (x : Core) (o : Option ℕ) → ys ≡ xs → x.ran ≡ None → p ≡ In (place.Leased l) → IsReadyBy w xs mark s p o → IsReadyBy w (ys ++ x ∷ []) mark s p (Some l)
asks_ready w xs ys mark s p l x o i e j h =
    let held : ReadyFor w xs mark s l × IsOf l o = subst (λ r. Owes w r xs mark s o) j h.1 in
    let ready : ReadyFor w (xs ++ x ∷ []) mark s l = λ n. held.0 (none_ran_before l xs x n) in
    subst (λ zs. IsReadyBy w (zs ++ x ∷ []) mark s p (Some l)) (sym i)
    (newer w xs xs x e h.0, subst (λ r. Owes w r (xs ++ x ∷ []) mark s (Some l)) (sym j) (ready, refl), ready)

sends_ready : (w : World) (b : Bool) (room : ℕ) (q : Record) (c : Connection) → c.current ≡ Some q → is_sending (phase_of q) ≡ true → IsReady w c → IsReady w (sends_by b room q c)
sends_ready w true room q c i s h =
    same_ready w c (sends_by true room q c) (sends_same true room q c i) (rw i (open_eases q (is_settled (phase_of q)) _ (is_open (phase_of q) s))) h
sends_ready w false room q c i s h =
    same_ready w c (sends_by false room q c) (sends_same false room q c i) (rw i (open_eases q (is_settled (phase_of q)) _ (is_open (phase_of q) s))) h

-- ---- The pool

-- An idle connection has no request that somebody waits for.
idle_none : (o : Option Record) → is_settled (phase_in o) ≡ true → open_lease o ≡ None
idle_none None e = refl
idle_none (Some q) e = ap (λ b. cond b None (Some q.lease)) e

-- A lease begins on it.
lent : (w : World) (xs : List Core) (mark : Option Reset) (s : SessionState) (l : ℕ) (o : Option ℕ) (x : Holding) → o ≡ None → numbered w.leases l ≡ Some x → OfStart (ReadyNew mark s) (ReadyKept mark s) w.tickets x.resumed → AllByRecursion (StartsWell w xs) xs → IsReadyBy w xs mark s (In (place.Leased l)) o
lent w xs mark s l o x e i r h =
    subst (IsReadyBy w xs mark s (In (place.Leased l))) (sym e)
    (h, (λ n. subst (OfLease (ReadyNew mark s) (ReadyKept mark s) w.tickets) (sym i) r, tt), tt)

-- A ticket begins on it.
or_false : (a b : Bool) → (a || b) ≡ false → b ≡ false
or_false true b e = absurd (cc)
or_false false b e = e

keeps_ready : (w : World) (n lease : ℕ) (c : Connection) → is_idle c ≡ true → (c.heard == 0 || is_full c.mark) ≡ false → Sound c → IsReady (restood_in w (Keeps lease) n c) c → IsReady (restood_in w (Keeps lease) n c) (restood w (Keeps lease) c)
keeps_ready w n lease c e i f h =
    let quiet : Quiet c.to_server.waiting c.to_client.waiting c.parts c.due =
    ask_fits (phase c) (number_in c.current) c.answering c.to_server.waiting c.to_client.waiting c.parts c.due e f.0 in
    let heard : c.heard ≡ c.session.descriptor = subst (λ ds. Hears c.heard ds c.session.descriptor) quiet.1 f.1.0 in (
      h.0,
      subst (OfTicket (KeptWell c.mark c.session)) (sym (last_numbered w.tickets (holding n c.heard None))) (or_false (c.heard == 0) (is_full c.mark) i, sym heard),
      h.2,
    )

lends_ready : (w : World) (n : ℕ) (c : Connection) → is_idle c ≡ true → IsReady (restood_in w Lends n c) c → IsReady (restood_in w Lends n c) (restood w Lends c)
lends_ready w n c e h =
    lent (restood_in w Lends n c) (cores c) (strongest (Some Full) c.mark) c.session (next_number w.leases) (open_lease c.current) (holding n c.heard None) (idle_none c.current e)
    (last_numbered w.leases (holding n c.heard None)) (inl refl) h.0

resumes_ready : (w : World) (n t : ℕ) (c : Connection) → c.standing ≡ In (place.Kept t) → is_idle c ≡ true → IsReady (restood_in w (Resumes t) n c) c → IsReady (restood_in w (Resumes t) n c) (restood w (Resumes t) c)
resumes_ready w n t c i e h =
    let v : World = restood_in w (Resumes t) n c in
    let owed : OfTicket (KeptWell c.mark c.session) (numbered v.tickets t) = subst (λ p. Owes v p (cores c) c.mark c.session (open_lease c.current)) i h.1 in
    lent v (cores c) (strongest (Some KeepTransaction) c.mark) c.session (next_number w.leases) (open_lease c.current) (holding n c.heard (Some t)) (idle_none c.current e)
    (last_numbered w.leases (holding n c.heard (Some t))) (kept_ready c.mark c.session (numbered v.tickets t) owed) h.0

-- ---- Each move

stood_ready : (w : World) (r : Stand) (n : ℕ) (c : Connection) → Before r c → SoundAndIdle w c → IsReady (restood_in w r n c) c → IsReady (restood_in w r n c) (restood w r c)
stood_ready w Lends n c b f h = lends_ready w n c (lend_idle c b f.1) h
stood_ready w (Resumes t) n c b f h = resumes_ready w n t c b (resume_idle t c b f.1) h
stood_ready w (GivesBack l) n c b f h = comes_back (restood_in w (GivesBack l) n c) (is_idle c) c h
stood_ready w (Keeps l) n c b f h = keeps_ready w n l c b.0 b.1 f.0 h
stood_ready w (Abandons t) n c b f h = (h.0, tt, h.2)
stood_ready w (Drains k m) n c b f h = (h.0, drained_owes (restood_in w (Drains k m) n c) (is_idle c) c.standing (cores c) c.mark c.session (open_lease c.current) h.1, h.2)
stood_ready w (Cuts k) n c b f h = (h.0, tt, h.2)

-- The world knows as much once it notes where the request was asked.
asked_ready : (w : World) (lease n : ℕ) (q : Request) (c : Connection) → c.standing ≡ In (place.Leased lease) → IsReady w c → let d : Connection = asks (next_number w.asked_on) lease n q c in IsReady (world_with (event.Ask lease q) n w d) d
asked_ready w lease n q c e h =
    let d : Connection = asks (next_number w.asked_on) lease n q c in
    let v : World = world_with (event.Ask lease q) n w d in
    asks_ready v (cores c) (map core_of (records c)) c.mark c.session c.standing lease _ (open_lease c.current) (joined_cores c.past c.current) refl e
    (is_ready_grows w v c (notes_add (event.Ask lease q) n c.heard w (put_numbered n d w.connections)) h)

abbrev ReadyWith : World → Invariant
ReadyWith w c ups downs = IsReady w c

ready_moves : (setup : Setup) (answers : Answers) → Lawful answers → MovesOver setup answers AnyAt (WellMarkedWith answers) ReadyWith
ready_moves setup answers l = record {
  stands = λ w r n c b f h. stood_ready w r n c b f.0.0 h;
  asked = λ w lease n q c x s i f h. asked_ready w lease n q c s h;
  sent = λ w last q c i s b f h. sends_ready w last (setup.packet_size - 8) q c i s h;
  cancelled = λ w p q c i at f h. cancels_ready w p q c i at h;
  worked = λ w c s ss is f h. works_ready answers w (length w.asked_on) c (s ∷ ss) l is f.0.0.0 f.0.0.1 f.0.1 f.1.1 h;
  at_server = λ w c e es f h. up_ready answers w c e es f.0.0.0 f.0.0.1 f.1.1 h;
  at_client = λ w c e es f h. down_ready answers w c e es f.0.0.0 f.0.0.1 f.1.1 h;
  server_waits = λ w c es k m h. h;
  client_waits = λ w c es k m h. h;
}

opened_ready : (setup : Setup) (w : World) (n : ℕ) → IsReady (world_with event.Lease n w (new_connection setup.on_attention (place.Leased (next_number w.leases)))) (new_connection setup.on_attention (place.Leased (next_number w.leases)))
opened_ready setup w n =
    let c : Connection = new_connection setup.on_attention (place.Leased (next_number w.leases)) in
    lent (world_with event.Lease n w c) [] None c.session (next_number w.leases) None (holding n 0 None) refl (last_numbered w.leases (holding n 0 None)) (inr (refl, (refl, refl))) tt

abbrev pub ReadyAndMarked : Answers → World → Connection → Type 0
ReadyAndMarked answers w c = WellMarked answers w c × IsReady w c

pub ready_kept : (setup : Setup) (answers : Answers) → Lawful answers → KeptIn setup answers (ReadyAndMarked answers)
ready_kept setup answers l =
    by_noted_moves setup answers (BothIn (WellMarkedWith answers) ReadyWith)
    (noted_on_top setup answers AnyAt (WellMarkedWith answers) ReadyWith (marked_noted setup answers l)
    (record { grows = λ w v c u d a h. is_ready_grows w v c a h; opened = opened_ready setup; moves = ready_moves setup answers l }))

-- ---- The law

has_kept : (s : SessionState) (o : Option Holding) → OfTicket (KeptFresh s) o → HasKept o s
has_kept s None h = absurd h
has_kept s (Some t) h = h

starts_from : (w : World) (s : SessionState) (o : Option ℕ) → OfStart (IsFresh s) (KeptFresh s) w.tickets o → StartsFrom w o s
starts_from w s None h = h
starts_from w s (Some t) h = has_kept s (numbered w.tickets t) h

starts_under : (w : World) (s : SessionState) (o : Option Holding) → OfLease (IsFresh s) (KeptFresh s) w.tickets o → StartsUnder w o s
starts_under w s None h = absurd h
starts_under w s (Some x) h = starts_from w s x.resumed h

first_of : (q : Record) (qs : List Record) → AllByRecursion (λ p. p.lease ≡ q.lease → p.number < q.number → p.ran ≡ None) qs → RanFirst (map core_of qs) (core_of q)
first_of q [] h = tt
first_of q (p ∷ ps) h = (h.0, first_of q ps h.1)

all_fresh : (w : World) (c : Connection) (qs : List Record) → AllByRecursion (StartsWell w (map core_of (records c))) (map core_of qs) → AllByRecursion (StartsFresh w c) qs
all_fresh w c [] h = tt
all_fresh w c (q ∷ qs) h =
    (λ s e f. starts_under w s (numbered w.leases q.lease) (h.0 s e (first_of q (records c) f)), all_fresh w c qs h.1)

ready_is_fresh : (answers : Answers) (w : World) (c : Connection) → ReadyAndMarked answers w c → AllByRecursion (StartsFresh w c) (records c)
ready_is_fresh answers w c h =
    all_fresh w c (records c) (subst (λ xs. AllByRecursion (StartsWell w xs) xs) (sym (joined_cores c.past c.current)) h.1.0)

pub fresh_start : (setup : Setup) (answers : Answers) → Lawful answers → Always setup answers FreshStart
fresh_start setup answers l events =
    let w : World = world_after setup answers events new_world in
    each_follows (ReadyAndMarked answers w) (λ c. AllByRecursion (StartsFresh w c) (records c)) w.connections (ready_is_fresh answers w)
    (always_in setup answers (ReadyAndMarked answers) events (ready_kept setup answers l))
