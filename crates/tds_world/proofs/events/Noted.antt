-- What holds of each connection in the light of what the world notes, and is kept by each act, holds
-- after any events.
use Rattle.std.proofs.Common.{ℕ, List, [], ◌∷◌, map}
use Rattle.std.specs.List.{AllByRecursion}
use Rattle.tds_session.specs.Answer.{Answers}
use Rattle.tds_world.specs.declared.event.Event.{Event}
use Rattle.tds_world.specs.declared.event.Event.TheVariants as event
use Rattle.tds_world.specs.declared.event.Setup.{Setup}
use Rattle.tds_world.specs.declared.report.Place.TheVariants as place
use Rattle.tds_world.specs.Connection.{Connection, new_connection, cut}
use Rattle.tds_world.specs.Events.{about, acts, notes, settles, happens_at, happens, world_after}
use Rattle.tds_world.specs.Pool.{Acted, Refuses, Does, opens}
use Rattle.tds_world.specs.World.{World, new_world, Found, Missing, Here, Opens, next_number, put_numbered}
use Rattle.tds_world.proofs.events.Adds.{Adds, adds_same, notes_add, restart_adds}
use Rattle.tds_world.proofs.events.Agreement.{happens_agrees, new_agrees}
use Rattle.tds_world.proofs.events.Happens.{happens_cases}
use Rattle.tds_world.proofs.events.Places.{StandsFor, FoundWith, about_stands, Agrees}
use Rattle.tds_world.proofs.events.Words.{OfFound, OfActed}
use Rattle.tds_world.proofs.events.Worlds.{Any, Kept, about_has, settled, all_cut}

-- The world after an event that left this connection, which has number n.
abbrev pub world_with : Event → ℕ → World → Connection → World
world_with e n w c = notes e n c.heard (record w { connections = put_numbered n c w.connections })

-- What such an invariant owes, where another one holds already: it doesn't fall when the world notes
-- more; it holds of a new connection, is kept by what an event does to a connection that stands
-- where the event wants it, and by a cut.
pub record KeptUnder (setup : Setup) (answers : Answers) (Q P : World → Connection → Type 0) : Type 0 where
  pub grows : (w v : World) (c : Connection) → Adds w v → P w c → P v c
  pub opened : (w : World) (n : ℕ) → P (world_with event.Lease n w (new_connection setup.on_attention (place.Leased (next_number w.leases)))) (new_connection setup.on_attention (place.Leased (next_number w.leases)))
  pub acted : (w : World) (e : Event) (n : ℕ) (c : Connection) → StandsFor e c.standing → Q w c → P w c → OfActed (λ d. P (world_with e n w d) d) (acts setup answers w e n c)
  pub was_cut : (w : World) (c : Connection) → P w c → P w (cut c)

-- Without another one.
abbrev pub Free : World → Connection → Type 0
Free w c = Unit {0}

abbrev pub KeptIn : Setup → Answers → (World → Connection → Type 0) → Type 0
KeptIn setup answers P = KeptUnder setup answers Free P

-- One that doesn't look at what is noted.
pub alone : (setup : Setup) (answers : Answers) (P : Connection → Type 0) → Kept setup answers Any P → KeptIn setup answers (λ w c. P c)
alone setup answers P k = record {
  grows = λ w v c a h. h;
  opened = λ w n. k.opened (next_number w.leases);
  acted = λ w e n c s q h. k.acted w e n c tt s h;
  was_cut = λ w c h. k.was_cut c h;
}

-- One on top of another.
both_acted : (Q P : Connection → Type 0) (a : Acted) → OfActed Q a → OfActed P a → OfActed (λ d. Q d × P d) a
both_acted Q P (Refuses why) f g = tt
both_acted Q P (Does what c) f g = (f, g)

pub on_top : (setup : Setup) (answers : Answers) (Q P : World → Connection → Type 0) → KeptIn setup answers Q → KeptUnder setup answers Q P → KeptIn setup answers (λ w c. Q w c × P w c)
on_top setup answers Q P j k = record {
  grows = λ w v c a h. (j.grows w v c a h.0, k.grows w v c a h.1);
  opened = λ w n. (j.opened w n, k.opened w n);
  acted = λ w e n c s q h.
      both_acted (λ d. Q (world_with e n w d) d) (λ d. P (world_with e n w d) d) (acts setup answers w e n c)
      (j.acted w e n c s tt h.0) (k.acted w e n c s h.0 h.1);
  was_cut = λ w c h. (j.was_cut w c h.0, k.was_cut w c h.1);
}

-- ---- One event

abbrev pub Each : (World → Connection → Type 0) → World → Type 0
Each P w = AllByRecursion (P w) w.connections

all_grow : (setup : Setup) (answers : Answers) (P : World → Connection → Type 0) (w v : World) (cs : List Connection) → KeptIn setup answers P → Adds w v → AllByRecursion (P w) cs → AllByRecursion (P v) cs
all_grow setup answers P w v [] k a h = tt
all_grow setup answers P w v (c ∷ cs) k a h = (k.grows w v c a h.0, all_grow setup answers P w v cs k a h.1)

settles_keep : (setup : Setup) (answers : Answers) (P : World → Connection → Type 0) (e : Event) (n : ℕ) (w : World) (a : Acted) → KeptIn setup answers P → OfActed (λ d. P (world_with e n w d) d) a → Each P w → Each P (settles e n w a).1
settles_keep setup answers P e n w (Refuses why) k g h = h
settles_keep setup answers P e n w (Does what c) k g h =
    settled (P (world_with e n w c)) e n w (Does what c) g
    (all_grow setup answers P w (world_with e n w c) w.connections k (notes_add e n c.heard w (put_numbered n c w.connections)) h)

found_keeps : (setup : Setup) (answers : Answers) (P : World → Connection → Type 0) (e : Event) (w : World) (f : Found) → KeptIn setup answers P → FoundWith w (StandsFor e) f → OfFound (P w) f → Each P w → Each P (happens_at setup answers e w f).1
found_keeps setup answers P e w (Missing why) k s g h = h
found_keeps setup answers P e w (Here n c) k s g h =
    settles_keep setup answers P e n w (acts setup answers w e n c) k (k.acted w e n c s.1 tt g) h
found_keeps setup answers P e w (Opens n) k s g h =
    settles_keep setup answers P event.Lease n w (opens setup.on_attention (next_number w.leases) n) k (k.opened w n) h

at_event : (setup : Setup) (answers : Answers) (P : World → Connection → Type 0) (e : Event) (w : World) → KeptIn setup answers P → Agrees w → Each P w → Each P (happens_at setup answers e w (about setup w e)).1
at_event setup answers P e w k a h =
    found_keeps setup answers P e w (about setup w e) k (about_stands setup w e a) (about_has (P w) setup w e h) h

happens_keep : (setup : Setup) (answers : Answers) (P : World → Connection → Type 0) (e : Event) (w : World) → KeptIn setup answers P → Agrees w → Each P w → Each P (happens setup answers e w).1
happens_keep setup answers P e w k a h =
    happens_cases setup answers w (λ e r. Each P r.1)
    (let v : World = record w { connections = map cut w.connections } in
    all_cut (P v) w.connections (k.was_cut v) (all_grow setup answers P w v w.connections k (adds_same w (map cut w.connections)) h))
    (let v : World = (happens setup answers event.RestartClient w).1 in
    all_cut (P v) w.connections (k.was_cut v) (all_grow setup answers P w v w.connections k (restart_adds w) h))
    (λ e. at_event setup answers P e w k a h) e

after_keep : (setup : Setup) (answers : Answers) (P : World → Connection → Type 0) (events : List Event) (w : World) → KeptIn setup answers P → Agrees w → Each P w → Each P (world_after setup answers events w)
after_keep setup answers P [] w k a h = h
after_keep setup answers P (e ∷ es) w k a h =
    after_keep setup answers P es (happens setup answers e w).1 k (happens_agrees setup answers e w a) (happens_keep setup answers P e w k a h)

-- After any events.
pub always_in : (setup : Setup) (answers : Answers) (P : World → Connection → Type 0) (events : List Event) → KeptIn setup answers P → Each P (world_after setup answers events new_world)
always_in setup answers P events k = after_keep setup answers P events new_world k new_agrees tt
