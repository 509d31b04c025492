-- What holds of each connection and is kept by each act, holds of each connection after any events.
use Rattle.std.proofs.Common.{ℕ, zero, suc, List, [], ◌∷◌, map, ltb, Option, Some, None}
use Rattle.std.specs.List.{AllByRecursion}
use Rattle.std.specs.Prelude.{slice_get}
use Rattle.tds_session.specs.Answer.{Answers}
use Rattle.tds_world.specs.declared.event.Event.{Event}
use Rattle.tds_world.specs.declared.event.Event.TheVariants as event
use Rattle.tds_world.specs.declared.event.Setup.{Setup}
use Rattle.tds_world.specs.declared.outcome.Refusal.{Refusal}
use Rattle.tds_world.specs.declared.outcome.Refusal.TheVariants as refusal
use Rattle.tds_world.specs.declared.report.Place.TheVariants as place
use Rattle.tds_world.specs.Connection.{Connection, new_connection, is_cut, cut}
use Rattle.tds_world.specs.Events.{about, acts, notes, settles, happens_at, happens, world_after}
use Rattle.tds_world.specs.Pool.{Acted, Refuses, Does, to_lend_by, lowest_free, pool_count, opens}
use Rattle.tds_world.specs.World.{World, new_world, Holding, Found, Missing, Here, Opens, numbered, next_number, put, put_numbered, uncut_in, there, held, not_cut, by_lease, by_ticket}
use Rattle.tds_world.proofs.events.Agreement.{happens_agrees, new_agrees}
use Rattle.tds_world.proofs.events.Happens.{happens_cases}
use Rattle.tds_world.proofs.events.Places.{StandsFor, FoundWith, about_stands, Agrees}
use Rattle.tds_world.proofs.events.Words.{OfSome, OfFound, OfActed, either}

-- What an invariant of a connection owes, for events of this kind: it holds of a new connection, is
-- kept by what an event does to a connection that stands where the event wants it, and by a cut.
pub record Kept (setup : Setup) (answers : Answers) (E : Event → Type 0) (P : Connection → Type 0) : Type 0 where
  pub opened : (lease : ℕ) → P (new_connection setup.on_attention (place.Leased lease))
  pub acted : (w : World) (e : Event) (n : ℕ) (c : Connection) → E e → StandsFor e c.standing → P c → OfActed P (acts setup answers w e n c)
  pub was_cut : (c : Connection) → P c → P (cut c)

-- Events of any kind.
abbrev pub Any : Event → Type 0
Any e = Unit {0}

all_any : (events : List Event) → AllByRecursion Any events
all_any [] = tt
all_any (e ∷ es) = (tt, all_any es)

-- ---- Lists of connections

at_place : (P : Connection → Type 0) (cs : List Connection) (n : ℕ) → AllByRecursion P cs → OfSome P (slice_get cs n)
at_place P [] n h = tt
at_place P (c ∷ cs) zero h = h.0
at_place P (c ∷ cs) (suc n) h = at_place P cs n h.1

pub at_number : (P : Connection → Type 0) (cs : List Connection) (n : ℕ) → AllByRecursion P cs → OfSome P (numbered cs n)
at_number P cs zero h = tt
at_number P cs (suc n) h = at_place P cs n h

put_at : (P : Connection → Type 0) (n : ℕ) (c : Connection) (cs : List Connection) → P c → AllByRecursion P cs → AllByRecursion P (put n c cs)
put_at P n c [] p h = (p, tt)
put_at P zero c (d ∷ ds) p h = (p, h.1)
put_at P (suc n) c (d ∷ ds) p h = (h.0, put_at P n c ds p h.1)

put_at_number : (P : Connection → Type 0) (n : ℕ) (c : Connection) (cs : List Connection) → P c → AllByRecursion P cs → AllByRecursion P (put_numbered n c cs)
put_at_number P zero c cs p h = h
put_at_number P (suc n) c cs p h = put_at P n c cs p h

-- ---- The connection that an event is about is one of the world's

uncut_in_has : (P : Connection → Type 0) (why : Refusal) (n : ℕ) (o : Option Connection) → OfSome P o → OfFound P (uncut_in why n o)
uncut_in_has P why n None h = tt
uncut_in_has P why n (Some c) h = either (OfFound P) (is_cut c.standing) (Missing why) (Here n c) tt h

there_has : (P : Connection → Type 0) (why : Refusal) (n : ℕ) (o : Option Connection) → OfSome P o → OfFound P (there why n o)
there_has P why n None h = tt
there_has P why n (Some c) h = h

held_has : (P : Connection → Type 0) (w : World) (why : Refusal) (o : Option Holding) → AllByRecursion P w.connections → OfFound P (held w why o)
held_has P w why None h = tt
held_has P w why (Some x) h =
    either (OfFound P) x.over (Missing why) (there why x.conn (numbered w.connections x.conn)) tt
    (there_has P why x.conn (numbered w.connections x.conn) (at_number P w.connections x.conn h))

by_lease_has : (P : Connection → Type 0) (w : World) (lease : ℕ) → AllByRecursion P w.connections → OfFound P (by_lease w lease)
by_lease_has P w lease h = held_has P w refusal.UnknownLease (numbered w.leases lease) h

by_ticket_has : (P : Connection → Type 0) (w : World) (ticket : ℕ) → AllByRecursion P w.connections → OfFound P (by_ticket w ticket)
by_ticket_has P w ticket h = held_has P w refusal.UnknownTicket (numbered w.tickets ticket) h

by_number_has : (P : Connection → Type 0) (w : World) (n : ℕ) → AllByRecursion P w.connections → OfFound P (uncut_in refusal.UnknownConnection n (numbered w.connections n))
by_number_has P w n h = uncut_in_has P refusal.UnknownConnection n (numbered w.connections n) (at_number P w.connections n h)

not_cut_has : (P : Connection → Type 0) (f : Found) → OfFound P f → OfFound P (not_cut f)
not_cut_has P (Missing why) h = tt
not_cut_has P (Here n c) h = either (OfFound P) (is_cut c.standing) (Missing refusal.ConnectionCut) (Here n c) tt h
not_cut_has P (Opens n) h = tt

to_lend_has : (P : Connection → Type 0) (setup : Setup) (w : World) (o : Option ℕ) → AllByRecursion P w.connections → OfFound P (to_lend_by setup w o)
to_lend_has P setup w None h =
    either (OfFound P) (ltb (pool_count w.connections) setup.max) (Opens (next_number w.connections)) (Missing refusal.AllInUse) tt tt
to_lend_has P setup w (Some n) h =
    there_has P refusal.AllInUse n (numbered w.connections n) (at_number P w.connections n h)

pub about_has : (P : Connection → Type 0) (setup : Setup) (w : World) (e : Event) → AllByRecursion P w.connections → OfFound P (about setup w e)
about_has P setup w event.Lease h = to_lend_has P setup w (lowest_free 1 w.connections) h
about_has P setup w (event.Resume t) h = not_cut_has P (by_ticket w t) (by_ticket_has P w t h)
about_has P setup w (event.GiveBack l) h = by_lease_has P w l h
about_has P setup w (event.Keep l) h = not_cut_has P (by_lease w l) (by_lease_has P w l h)
about_has P setup w (event.Abandon t) h = by_ticket_has P w t h
about_has P setup w (event.Clean n) h = by_number_has P w n h
about_has P setup w (event.Ask l q) h = not_cut_has P (by_lease w l) (by_lease_has P w l h)
about_has P setup w (event.Send l) h = not_cut_has P (by_lease w l) (by_lease_has P w l h)
about_has P setup w (event.Cancel l) h = not_cut_has P (by_lease w l) (by_lease_has P w l h)
about_has P setup w (event.Work n) h = by_number_has P w n h
about_has P setup w (event.ToServer n k) h = by_number_has P w n h
about_has P setup w (event.ToClient n k) h = by_number_has P w n h
about_has P setup w (event.Cut n) h = by_number_has P w n h
about_has P setup w event.RestartServer h = tt
about_has P setup w event.RestartClient h = tt

-- ---- One event

-- What the world notes changes no connection.
noted : (P : Connection → Type 0) (e : Event) (n heard : ℕ) (w : World) → AllByRecursion P w.connections → AllByRecursion P (notes e n heard w).connections
noted P event.Lease n heard w h = h
noted P e n heard w h = h

pub settled : (P : Connection → Type 0) (e : Event) (n : ℕ) (w : World) (a : Acted) → OfActed P a → AllByRecursion P w.connections → AllByRecursion P (settles e n w a).1.connections
settled P e n w (Refuses why) g h = h
settled P e n w (Does what c) g h =
    noted P e n c.heard (record w { connections = put_numbered n c w.connections }) (put_at_number P n c w.connections g h)

found : (P : Connection → Type 0) (E : Event → Type 0) (setup : Setup) (answers : Answers) (e : Event) (w : World) (f : Found) → Kept setup answers E P → E e → FoundWith w (StandsFor e) f → OfFound P f → AllByRecursion P w.connections → AllByRecursion P (happens_at setup answers e w f).1.connections
found P E setup answers e w (Missing why) k x s g h = h
found P E setup answers e w (Here n c) k x s g h = settled P e n w (acts setup answers w e n c) (k.acted w e n c x s.1 g) h
found P E setup answers e w (Opens n) k x s g h = settled P event.Lease n w (opens setup.on_attention (next_number w.leases) n) (k.opened (next_number w.leases)) h

pub all_cut : (P : Connection → Type 0) (cs : List Connection) → ((c : Connection) → P c → P (cut c)) → AllByRecursion P cs → AllByRecursion P (map cut cs)
all_cut P [] k h = tt
all_cut P (c ∷ cs) k h = (k c h.0, all_cut P cs k h.1)

at_event : (P : Connection → Type 0) (E : Event → Type 0) (setup : Setup) (answers : Answers) (e : Event) (w : World) → Kept setup answers E P → E e → Agrees w → AllByRecursion P w.connections → AllByRecursion P (happens_at setup answers e w (about setup w e)).1.connections
at_event P E setup answers e w k x a h = found P E setup answers e w (about setup w e) k x (about_stands setup w e a) (about_has P setup w e h) h

happens_keeps : (P : Connection → Type 0) (E : Event → Type 0) (setup : Setup) (answers : Answers) (e : Event) (w : World) → Kept setup answers E P → E e → Agrees w → AllByRecursion P w.connections → AllByRecursion P (happens setup answers e w).1.connections
happens_keeps P E setup answers e w k x a h =
    happens_cases setup answers w (λ e r. E e → AllByRecursion P r.1.connections)
    (λ x. all_cut P w.connections k.was_cut h)
    (λ x. all_cut P w.connections k.was_cut h)
    (λ e x. at_event P E setup answers e w k x a h) e x

after_keeps : (P : Connection → Type 0) (E : Event → Type 0) (setup : Setup) (answers : Answers) (events : List Event) (w : World) → Kept setup answers E P → AllByRecursion E events → Agrees w → AllByRecursion P w.connections → AllByRecursion P (world_after setup answers events w).connections
after_keeps P E setup answers [] w k x a h = h
after_keeps P E setup answers (e ∷ es) w k x a h =
    after_keeps P E setup answers es (happens setup answers e w).1 k x.1 (happens_agrees setup answers e w a) (happens_keeps P E setup answers e w k x.0 a h)

-- After any events of the kind.
pub always_such : (P : Connection → Type 0) (E : Event → Type 0) (setup : Setup) (answers : Answers) (events : List Event) → Kept setup answers E P → AllByRecursion E events → AllByRecursion P (world_after setup answers events new_world).connections
always_such P E setup answers events k x = after_keeps P E setup answers events new_world k x new_agrees tt

-- After any events.
pub always : (P : Connection → Type 0) (setup : Setup) (answers : Answers) (events : List Event) → Kept setup answers Any P → AllByRecursion P (world_after setup answers events new_world).connections
always P setup answers events k = always_such P Any setup answers events k (all_any events)

-- A fact that follows from it does too.
pub each_follows : (P Q : Connection → Type 0) (cs : List Connection) → ((c : Connection) → P c → Q c) → AllByRecursion P cs → AllByRecursion Q cs
each_follows P Q [] f h = tt
each_follows P Q (c ∷ cs) f h = (f c h.0, each_follows P Q cs f h.1)

-- Two facts of each are one.
pub each_both : (P Q : Connection → Type 0) (cs : List Connection) → AllByRecursion P cs → AllByRecursion Q cs → AllByRecursion (λ c. P c × Q c) cs
each_both P Q [] f g = tt
each_both P Q (c ∷ cs) f g = ((f.0, g.0), each_both P Q cs f.1 g.1)
