-- A connection that is lent again is idle, since it rests in the pool until then.
use Rattle.std.proofs.Common.{◌≡◌, ℕ, true, subst}
use Rattle.std.specs.List.{AllByRecursion}
use Rattle.tds_session.specs.Answer.{Answers}
use Rattle.tds_world.specs.declared.event.Event.TheVariants as event
use Rattle.tds_world.specs.declared.event.Setup.{Setup}
use Rattle.tds_world.specs.Connection.{Connection, Standing, is_idle}
use Rattle.tds_world.specs.Events.{about, world_after}
use Rattle.tds_world.specs.Lawful.{Lawful}
use Rattle.tds_world.specs.Laws.{Always}
use Rattle.tds_world.specs.Lending.{LendsIdle}
use Rattle.tds_world.specs.World.{World, Found, Here, new_world}
use Rattle.tds_world.proofs.events.Agreement.{new_agrees}
use Rattle.tds_world.proofs.events.Grows.{after_agrees}
use Rattle.tds_world.proofs.events.Noted.{always_in}
use Rattle.tds_world.proofs.events.Places.{StandsFor, FoundWith, about_stands, Agrees}
use Rattle.tds_world.proofs.events.Words.{OfFound}
use Rattle.tds_world.proofs.events.Worlds.{about_has, each_follows}
use Rattle.tds_world.proofs.requests.OwnTransactions.{lend_idle, resume_idle}
use Rattle.tds_world.proofs.requests.Rests.{RestsIdle, SoundAndIdle, rests_kept}

-- What stands so and rests is idle.
found_idle : (w : World) (P : Standing → Type 0) (f : Found) (n : ℕ) (c : Connection) → ((d : Connection) → P d.standing → RestsIdle d → is_idle d ≡ true) → f ≡ Here n c → FoundWith w P f → OfFound RestsIdle f → is_idle c ≡ true
found_idle w P f n c k e s r = k c (subst (FoundWith w P) e s).1 (subst (OfFound RestsIdle) e r)

idle_in : (setup : Setup) (w : World) → Agrees w → AllByRecursion RestsIdle w.connections → LendsIdle setup w
idle_in setup w a h = record {
  lease = λ n c e.
      found_idle w (StandsFor event.Lease) (about setup w event.Lease) n c (λ d s r. lend_idle d s r) e
      (about_stands setup w event.Lease a) (about_has RestsIdle setup w event.Lease h);
  resume = λ ticket n c e.
      found_idle w (StandsFor (event.Resume ticket)) (about setup w (event.Resume ticket)) n c (λ d s r. resume_idle ticket d s r) e
      (about_stands setup w (event.Resume ticket) a) (about_has RestsIdle setup w (event.Resume ticket) h);
}

pub lends_idle : (setup : Setup) (answers : Answers) → Lawful answers → Always setup answers (LendsIdle setup)
lends_idle setup answers l events =
    let w : World = world_after setup answers events new_world in
    idle_in setup w (after_agrees setup answers events new_world new_agrees)
    (each_follows (SoundAndIdle w) RestsIdle w.connections (λ c h. h.1)
    (always_in setup answers SoundAndIdle events (rests_kept setup answers l)))
