-- What a cancelled request was given stays as it is.
use Rattle.std.proofs.Common.{◌≡◌, ℕ, zero, suc, List, [], ◌∷◌, ◌++◌, map, Bool, true, false, cond, refl, sym, ap, subst, ◌∙◌, Option, Some, None, option_map, ◌-◌}
use Rattle.std.specs.Prelude.{find, slice_get, ◌==◌}
use Rattle.tds_session.specs.Answer as answer
use Rattle.tds_session.specs.Answer.{Answers}
use Rattle.tds_world.specs.declared.event.Setup.{Setup}
use Rattle.tds_world.specs.Arrivals.{server_acts, client_acts, works_on}
use Rattle.tds_world.specs.Caller.{cancels_by, sends_by, asks}
use Rattle.tds_world.specs.Connection.{Connection, joined, records}
use Rattle.tds_world.specs.Entries.{Up, Part, Down, Step, Acknowledgement}
use Rattle.tds_world.specs.Events.{world_after}
use Rattle.tds_world.specs.Lane.{passed}
use Rattle.tds_world.specs.Laws.{NothingAfterCancel, request_in, request_on}
use Rattle.tds_world.specs.Observed.{record_on}
use Rattle.tds_world.specs.Phase.{Phase, Settled, Asked, Sending, Reading, Cancelling}
use Rattle.tds_world.specs.Record.{Record, gives, acknowledges, runs, when, if_numbered, is_cancelled}
use Rattle.tds_world.specs.World.{World, new_world, numbered, next_number}
use Rattle.tds_world.proofs.events.Agreement.{new_agrees}
use Rattle.tds_world.proofs.events.Grows.{Growth, Grown, Related, after_grow, after_both, after_agrees}
use Rattle.tds_world.proofs.events.Moves.{FreeIn, AnyAt, MovesOver, acted}
use Rattle.tds_world.proofs.flow.Fates.{step_cancels_none}

-- A request became this one: its number, its lease and what it asks stay, and once it is cancelled,
-- it stays so, and so does what it was given.
pub record Later (q p : Record) : Type 0 where
  pub number : p.number ≡ q.number
  pub lease : p.lease ≡ q.lease
  pub asking : p.asking ≡ q.asking
  pub cancelled : is_cancelled q.fate ≡ true → is_cancelled p.fate ≡ true
  pub given : is_cancelled q.fate ≡ true → p.given ≡ q.given

same : (q : Record) → Later q q
same q = record { number = refl; lease = refl; asking = refl; cancelled = λ e. e; given = λ e. refl }

later_then : (q p r : Record) → Later q p → Later p r → Later q r
later_then q p r f g = record {
  number = g.number ∙ f.number;
  lease = g.lease ∙ f.lease;
  asking = g.asking ∙ f.asking;
  cancelled = λ e. g.cancelled (f.cancelled e);
  given = λ e. g.given (f.cancelled e) ∙ f.given e;
}

-- Each request of a list became one at its place, and perhaps more were asked.
abbrev pub Longer : List Record → List Record → Type 0
Longer [] ps = Unit {0}
Longer (q ∷ qs) [] = ⊥
Longer (q ∷ qs) (p ∷ ps) = Later q p × Longer qs ps

longer_same : (qs : List Record) → Longer qs qs
longer_same [] = tt
longer_same (q ∷ qs) = (same q, longer_same qs)

longer_more : (qs ps : List Record) → Longer qs (qs ++ ps)
longer_more [] ps = tt
longer_more (q ∷ qs) ps = (same q, longer_more qs ps)

longer_then : (qs ps rs : List Record) → Longer qs ps → Longer ps rs → Longer qs rs
longer_then [] ps rs f g = tt
longer_then (q ∷ qs) [] rs f g = absurd f
longer_then (q ∷ qs) (p ∷ ps) [] f g = absurd g
longer_then (q ∷ qs) (p ∷ ps) (r ∷ rs) f g = (later_then q p r f.0 g.0, longer_then qs ps rs f.1 g.1)

-- A change of each, and of the newest alone.
changed_joined : (change : Record → Record) (past : List Record) (current : Option Record) → ((q : Record) → Later q (change q)) → Longer (joined past current) (joined (map change past) (option_map change current))
changed_joined change [] None k = tt
changed_joined change [] (Some q) k = (k q, tt)
changed_joined change (p ∷ ps) None k = (k p, changed_joined change ps None k)
changed_joined change (p ∷ ps) (Some q) k = (k p, changed_joined change ps (Some q) k)

changed_newest : (past : List Record) (q p : Record) → Later q p → Longer (past ++ q ∷ []) (past ++ p ∷ [])
changed_newest [] q p k = (k, tt)
changed_newest (r ∷ rs) q p k = (same r, changed_newest rs q p k)

later_when : (b : Bool) (change : Record → Record) (q : Record) → Later q (change q) → Later q (when b change q)
later_when true change q k = k
later_when false change q k = same q

if_cancelled : {A : Type 0} (b : Bool) (x y : A) → b ≡ true → cond b x y ≡ x
if_cancelled true x y e = refl
if_cancelled false x y e = absurd (cc)

gives_later : (s : answer.Step) (q : Record) → Later q (gives s q)
gives_later s q = record { number = refl; lease = refl; asking = refl; cancelled = λ e. step_cancels_none s.last q.fate ∙ e; given = λ e. if_cancelled (is_cancelled q.fate) q.given _ e }

-- ---- Each act

abbrev pub Follows : Connection → Connection → Type 0
Follows c d = Longer (records c) (records d)

follows_then : (b c d : Connection) → Follows b c → Follows c d → Follows b d
follows_then b c d f g = longer_then (records b) (records c) (records d) f g

newest : (c : Connection) (q p : Record) → c.current ≡ Some q → Later q p → Longer (records c) (c.past ++ p ∷ [])
newest c q p e k = subst (λ o. Longer (joined c.past o) (c.past ++ p ∷ [])) (sym e) (changed_newest c.past q p k)

cancels_later : (q : Record) (p : Record) → p.number ≡ q.number → p.lease ≡ q.lease → p.asking ≡ q.asking → is_cancelled p.fate ≡ true → p.given ≡ q.given → Later q p
cancels_later q p n l a c g = record { number = n; lease = l; asking = a; cancelled = λ e. c; given = λ e. g }

cancels_follow_by : (p : Phase) (q : Record) (c : Connection) → c.current ≡ Some q → Follows c (cancels_by p q c)
cancels_follow_by Settled q c e = longer_same (records c)
cancels_follow_by Cancelling q c e = longer_same (records c)
cancels_follow_by Asked q c e = newest c q _ e (cancels_later q _ refl refl refl refl refl)
cancels_follow_by Sending q c e = newest c q _ e (cancels_later q _ refl refl refl refl refl)
cancels_follow_by Reading q c e = newest c q _ e (cancels_later q _ refl refl refl refl refl)

works_follow : (c : Connection) (due : List answer.Step) → Follows c (works_on c due)
works_follow c [] = longer_same (records c)
works_follow c (s ∷ ss) =
    changed_joined (if_numbered c.answering (runs c.session s)) c.past c.current
    (λ q. later_when (q.number == c.answering) (runs c.session s) q (record { number = refl; lease = refl; asking = refl; cancelled = λ e. e; given = λ e. refl }))

server_follows : (answers : Answers) (c : Connection) (e : Up) → Follows c (server_acts answers c e)
server_follows answers c (Part r p) = longer_same (records c)
server_follows answers c e = longer_same (records c)

client_follows : (c : Connection) (e : Down) → Follows c (client_acts c e)
client_follows c (Step r place s) =
    changed_joined (if_numbered r (gives s)) c.past c.current (λ q. later_when (q.number == r) (gives s) q (gives_later s q))
client_follows c (Acknowledgement r place changes) =
    changed_joined (if_numbered r acknowledges) c.past c.current
    (λ q. later_when (q.number == r) acknowledges q (record { number = refl; lease = refl; asking = refl; cancelled = λ e. refl; given = λ e. refl }))

sends_follow : (b : Bool) (room : ℕ) (q : Record) (c : Connection) → c.current ≡ Some q → Follows c (sends_by b room q c)
sends_follow true room q c e = newest c q _ e (record { number = refl; lease = refl; asking = refl; cancelled = λ f. f; given = λ f. refl })
sends_follow false room q c e = newest c q _ e (record { number = refl; lease = refl; asking = refl; cancelled = λ f. f; given = λ f. refl })

-- ---- Each move

follows_moves : (setup : Setup) (answers : Answers) (b : Connection) → MovesOver setup answers AnyAt FreeIn (λ w c ups downs. Follows b c)
follows_moves setup answers b = record {
  stands = λ w r n c x f h. h;
  asked = λ w lease n q c x s i f h. follows_then b c (asks (next_number w.asked_on) lease n q c) h (longer_more (records c) _);
  sent = λ w last q c i s l f h. follows_then b c (sends_by last (setup.packet_size - 8) q c) h (sends_follow last (setup.packet_size - 8) q c i);
  cancelled = λ w p q c i at f h. follows_then b c (cancels_by p q c) h (cancels_follow_by p q c i);
  worked = λ w c s ss is f h. follows_then b c (works_on c (s ∷ ss)) h (works_follow c (s ∷ ss));
  at_server = λ w c e es f h. let p : Connection = record c { to_server = passed e c.to_server } in follows_then b p (server_acts answers p e) h (server_follows answers p e);
  at_client = λ w c e es f h. let p : Connection = record c { to_client = passed e c.to_client } in follows_then b p (client_acts p e) h (client_follows p e);
  server_waits = λ w c es k m h. h;
  client_waits = λ w c es k m h. h;
}

pub growth : (setup : Setup) (answers : Answers) → Growth setup answers Follows
growth setup answers = record {
  same = λ c. longer_same (records c);
  then = follows_then;
  acted = λ w e n c s. acted setup answers AnyAt (λ i j lease x. tt) (λ v d ups downs. Follows c d) (λ v u d i j m a h. h) (follows_moves setup answers c) w e n c tt s (longer_same (records c));
  was_cut = λ c. longer_same (records c);
}

-- ---- The request of a number

found_later : (number : ℕ) (qs ps : List Record) (q : Record) → Longer qs ps → find (λ x. x.number == number) qs ≡ Some q → (p : Record) × (find (λ x. x.number == number) ps ≡ Some p) × Later q p
found_later number [] ps q k e = absurd (cc)
found_later number (x ∷ xs) [] q k e = absurd k
found_later number (x ∷ xs) (y ∷ ys) q k e =
    by_number (x.number == number) (y.number == number) (ap (λ n. n == number) k.0.number) e (found_later number xs ys q k.1)
  where
    by_number : (a b : Bool) → b ≡ a → cond a (Some x) (find (λ z. z.number == number) xs) ≡ Some q → (find (λ z. z.number == number) xs ≡ Some q → (p : Record) × (find (λ z. z.number == number) ys ≡ Some p) × Later q p) → (p : Record) × (cond b (Some y) (find (λ z. z.number == number) ys) ≡ Some p) × Later q p
    by_number true true g h f = (y, refl, subst (λ z. Later z y) (let is : x ≡ q = cc in is) k.0)
    by_number true false g h f = absurd (cc)
    by_number false true g h f = absurd (cc)
    by_number false false g h f = f h

-- On a connection that grew.
on_grown : (number : ℕ) (c : Connection) (o : Option Connection) (q : Record) → Related Follows c o → record_on number c ≡ Some q → (p : Record) × (request_in number o ≡ Some p) × Later q p
on_grown number c None q r e = absurd r
on_grown number c (Some d) q r e = found_later number (records c) (records d) q r e

pub in_grown : (number n : ℕ) (bs cs : List Connection) (q : Record) → Grown Follows bs cs → request_in number (numbered bs n) ≡ Some q → (p : Record) × (request_in number (numbered cs n) ≡ Some p) × Later q p
in_grown number zero bs cs q g e = absurd (cc)
in_grown number (suc k) bs cs q g e = here (slice_get bs k) refl e
  where
    here : (o : Option Connection) → slice_get bs k ≡ o → request_in number o ≡ Some q → (p : Record) × (request_in number (slice_get cs k) ≡ Some p) × Later q p
    here None i f = absurd (cc)
    here (Some c) i f = on_grown number c (slice_get cs k) q (g k c i) f

pub nothing_after_cancel : (setup : Setup) (answers : Answers) → NothingAfterCancel setup answers
nothing_after_cancel setup answers events later n number q e c =
    let w : World = world_after setup answers events new_world in
    let grown : Grown Follows w.connections (world_after setup answers later w).connections =
    after_grow setup answers Follows later w (growth setup answers) (after_agrees setup answers events new_world new_agrees) in
    let found : (p : Record) × (request_in number (numbered (world_after setup answers later w).connections n) ≡ Some p) × Later q p =
    in_grown number n w.connections (world_after setup answers later w).connections q grown e in (
      found.0,
      subst (λ v. request_on v n number ≡ Some found.0) (sym (after_both setup answers events later new_world)) found.1,
      found.2.given c,
    )
