-- No transaction of a connection is told twice to have begun.
use Rattle.std.proofs.Common.{◌≡◌, ◌<◌, ◌-◌, ◌+◌, ℕ, List, [], ◌∷◌, ◌++◌, Bool, true, false, eqb, sym, ap, subst, ◌∙◌, Some, arith, flat_map}
use Rattle.std.proofs.lemmas.Bool.Decides.{nat_tests}
use Rattle.std.proofs.lemmas.Grind.{flat_map-append}
use Rattle.std.proofs.lemmas.List.{append_assoc, append-nil}
use Rattle.std.specs.List.{AllByRecursion, IsDistinct}
use Rattle.tds_session.specs.Answer as answer
use Rattle.tds_session.specs.Answer.{Answers}
use Rattle.tds_session.specs.Attention.{stop_by}
use Rattle.tds_session.specs.Session.{SessionState}
use Rattle.tds_token.specs.Told.{changes_of}
use Rattle.tds_world.specs.declared.event.Setup.{Setup}
use Rattle.tds_world.specs.Arrivals.{server_acts, client_acts, works_on}
use Rattle.tds_world.specs.Begins.{CountFrom, HandsOut, HandsOutNext}
use Rattle.tds_world.specs.Bounds.{begun_by, begun_in, begun_on, BeginsOnce}
use Rattle.tds_world.specs.Caller.{cancels_by, sends_by, sends_last}
use Rattle.tds_world.specs.Connection.{Connection}
use Rattle.tds_world.specs.Entries.{Up, Part, End, Drop, Attention, Down, Step, Acknowledgement}
use Rattle.tds_world.specs.Events.{world_after}
use Rattle.tds_world.specs.Lane.{passed}
use Rattle.tds_world.specs.Laws.{Always}
use Rattle.tds_world.specs.Phase.{Phase, Settled, phase_of}
use Rattle.tds_world.specs.Record.{Record}
use Rattle.tds_world.specs.World.{new_world}
use Rattle.tds_world.proofs.events.Moves.{KeptByMoves, by_moves}
use Rattle.tds_world.proofs.events.Worlds.{always, each_follows}
use Rattle.tds_world.proofs.flow.Fates.{is_sending}
use Rattle.tds_world.proofs.flow.Stops.{rolls}

-- ---- Numbers, all different and below n

record Apart (n : ℕ) (ds : List ℕ) : Type 0 where
  pub distinct : IsDistinct eqb ds
  pub under : AllByRecursion (λ d. d < n) ds

none_apart : (n : ℕ) → Apart n []
unfolding IsDistinct
none_apart n = record { distinct = tt; under = tt }

other : (d n : ℕ) → d < n → eqb d n ≡ false
other d n e = grind (arith, nat_tests)

differs_last : (d n : ℕ) (ds : List ℕ) → d < n → AllByRecursion (λ y. eqb d y ≡ false) ds → AllByRecursion (λ y. eqb d y ≡ false) (ds ++ n ∷ [])
differs_last d n [] e h = (other d n e, tt)
differs_last d n (x ∷ xs) e h = (h.0, differs_last d n xs e h.1)

distinct_last : (n : ℕ) (ds : List ℕ) → AllByRecursion (λ d. d < n) ds → IsDistinct eqb ds → IsDistinct eqb (ds ++ n ∷ [])
unfolding IsDistinct
distinct_last n [] u h = (tt, tt)
distinct_last n (d ∷ ds) u h = (differs_last d n ds u.0 h.0, distinct_last n ds u.1 h.1)

under_last : (n : ℕ) (ds : List ℕ) → AllByRecursion (λ d. d < n) ds → AllByRecursion (λ d. d < n + 1) (ds ++ n ∷ [])
under_last n [] u = (let less : n < n + 1 = omega arith in less, tt)
under_last n (d ∷ ds) u = (let less : d < n = u.0 in let more : d < n + 1 = omega arith in more, under_last n ds u.1)

apart_last : (n : ℕ) (ds : List ℕ) → Apart n ds → Apart (n + 1) (ds ++ n ∷ [])
apart_last n ds h = record { distinct = distinct_last n ds h.under h.distinct; under = under_last n ds h.under }

-- Numbers that are counted on from n.
apart_more : (n m : ℕ) (ds es : List ℕ) → CountFrom n es m → Apart n ds → Apart m (ds ++ es)
apart_more n m ds [] e h = subst (λ xs. Apart m xs) (sym (append-nil ds)) (subst (λ k. Apart k ds) e h)
apart_more n m ds (d ∷ es) e h =
    let one : Apart (n + 1) (ds ++ d ∷ []) = subst (λ k. Apart (n + 1) (ds ++ k ∷ [])) (sym e.0) (apart_last n ds h) in
    subst (λ xs. Apart m xs) (append_assoc ds (d ∷ []) es) (apart_more (n + 1) m (ds ++ d ∷ []) es e.1 one)

-- ---- The invariant: what is told begins below the next descriptor, and so will what is due

abbrev BegunWith : Connection → List Down → Type 0
BegunWith c downs = Apart c.session.next_descriptor (flat_map begun_in (c.to_client.arrived ++ downs)) × HandsOut c.session c.due

abbrev Begun : Connection → Type 0
Begun c = BegunWith c c.to_client.waiting

begun_last : (es : List Down) (e : Down) → flat_map begun_in (es ++ e ∷ []) ≡ flat_map begun_in es ++ begun_in e
begun_last es e = flat_map-append begun_in es (e ∷ []) ∙ ap (λ xs. flat_map begun_in es ++ xs) (append-nil (begun_in e))

-- One more that waits.
told_more : (arrived waiting : List Down) (e : Down) → flat_map begun_in (arrived ++ (waiting ++ e ∷ [])) ≡ flat_map begun_in (arrived ++ waiting) ++ begun_in e
told_more arrived waiting e = ap (λ xs. flat_map begun_in xs) (sym (append_assoc arrived waiting (e ∷ []))) ∙ begun_last (arrived ++ waiting) e

-- An acknowledgement tells of no beginning.
stop_begun : (b : Bool) (s : SessionState) (arrived waiting : List Down) (r place : ℕ) → Apart s.next_descriptor (flat_map begun_in (arrived ++ waiting)) → Apart (stop_by b s).after.next_descriptor (flat_map begun_in (arrived ++ (waiting ++ Acknowledgement r place (stop_by b s).changes ∷ [])))
stop_begun true s arrived waiting r place h =
    subst (λ xs. Apart s.next_descriptor xs) (sym (told_more arrived waiting _ ∙ append-nil (flat_map begun_in (arrived ++ waiting)))) h
stop_begun false s arrived waiting r place h =
    subst (λ xs. Apart s.next_descriptor xs) (sym (told_more arrived waiting _ ∙ append-nil (flat_map begun_in (arrived ++ waiting)))) h

server_begun : (answers : Answers) (c : Connection) (e : Up) → HandsOutNext answers → Begun c → Begun (server_acts answers c e)
server_begun answers c (Part r p) l h = h
server_begun answers c (End r a p) l h = (h.0, l c.session a.descriptor a.mark a.request)
server_begun answers c (Drop r p) l h = h
server_begun answers c (Attention r) l h = (stop_begun (rolls c) c.session c.to_client.arrived c.to_client.waiting r _ h.0, tt)

client_begun_at : (c : Connection) (e : Down) (es : List Down) → BegunWith c (e ∷ es) → BegunWith (client_acts (record c { to_client = passed e c.to_client }) e) es
client_begun_at c (Step r i s) es h = (subst (λ xs. Apart c.session.next_descriptor (flat_map begun_in xs)) (sym (append_assoc c.to_client.arrived (Step r i s ∷ []) es)) h.0, h.1)
client_begun_at c (Acknowledgement r i changes) es h = (subst (λ xs. Apart c.session.next_descriptor (flat_map begun_in xs)) (sym (append_assoc c.to_client.arrived (Acknowledgement r i changes ∷ []) es)) h.0, h.1)

works_begun : (c : Connection) (due : List answer.Step) → c.due ≡ due → Begun c → Begun (works_on c due)
works_begun c [] e h = h
works_begun c (s ∷ ss) e h =
    let next : HandsOut c.session (s ∷ ss) = subst (λ d. HandsOut c.session d) e h.1 in (
      subst (λ xs. Apart s.after.next_descriptor xs) (sym (told_more c.to_client.arrived c.to_client.waiting _))
          (apart_more c.session.next_descriptor s.after.next_descriptor (flat_map begun_in (c.to_client.arrived ++ c.to_client.waiting)) (flat_map begun_by (changes_of s.tokens)) next.0 h.0),
      next.1,
    )

cancels_begun_by : (p : Phase) (q : Record) (c : Connection) → c.current ≡ Some q → phase_of q ≡ p → Begun c → Begun (cancels_by p q c)
cancels_begun_by Settled q c is at h = h
cancels_begun_by p q c is at h = h

sends_begun : (setup : Setup) (last : Bool) (q : Record) (c : Connection) → c.current ≡ Some q → is_sending (phase_of q) ≡ true → sends_last (setup.packet_size - 8) q ≡ last → Begun c → Begun (sends_by last (setup.packet_size - 8) q c)
sends_begun setup true q c is at l h = h
sends_begun setup false q c is at l h = h

begun_kept : (setup : Setup) (answers : Answers) → HandsOutNext answers → KeptByMoves setup answers (λ c ups downs. BegunWith c downs)
begun_kept setup answers l = record {
  opened = λ lease. (none_apart 1, tt);
  stands = λ c m s h. h;
  asked = λ number lease n q c x is f h. h;
  sent = λ last q c is at l f h. sends_begun setup last q c is at l h;
  cancelled = λ p q c is at f h. cancels_begun_by p q c is at h;
  worked = λ c s ss is f h. works_begun c (s ∷ ss) is h;
  at_server = λ c e es f h. server_begun answers (record c { to_server = passed e c.to_server }) e l h;
  at_client = λ c e es f h. client_begun_at c e es h;
  server_waits = λ c es k m h. h;
  client_waits = λ c es k m h. h;
}

pub begins_once : (setup : Setup) (answers : Answers) → HandsOutNext answers → Always setup answers BeginsOnce
begins_once setup answers l events =
    each_follows Begun (λ c. IsDistinct eqb (begun_on c)) (world_after setup answers events new_world).connections (λ c h. h.0.distinct)
    (always Begun setup answers events (by_moves setup answers (λ c ups downs. BegunWith c downs) (begun_kept setup answers l)))
