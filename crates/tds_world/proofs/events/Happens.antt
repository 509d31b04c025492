-- What an event does, in three cases: a restart of the server, one of the client, and all others, which
-- are about one connection.
use Rattle.tds_session.specs.Answer.{Answers}
use Rattle.tds_world.specs.declared.event.Event.{Event}
use Rattle.tds_world.specs.declared.event.Event.TheVariants as event
use Rattle.tds_world.specs.declared.event.Setup.{Setup}
use Rattle.tds_world.specs.declared.outcome.Outcome.{Outcome}
use Rattle.tds_world.specs.Events.{about, happens_at, happens}
use Rattle.tds_world.specs.World.{World}

pub happens_cases : (setup : Setup) (answers : Answers) (w : World) (P : Event → Outcome × World → Type 0) → P event.RestartServer (happens setup answers event.RestartServer w) → P event.RestartClient (happens setup answers event.RestartClient w) → ((e : Event) → P e (happens_at setup answers e w (about setup w e))) → (e : Event) → P e (happens setup answers e w)
happens_cases setup answers w P server client other event.RestartServer = server
happens_cases setup answers w P server client other event.RestartClient = client
happens_cases setup answers w P server client other event.Lease = other event.Lease
happens_cases setup answers w P server client other (event.Resume t) = other (event.Resume t)
happens_cases setup answers w P server client other (event.GiveBack l) = other (event.GiveBack l)
happens_cases setup answers w P server client other (event.Keep l) = other (event.Keep l)
happens_cases setup answers w P server client other (event.Abandon t) = other (event.Abandon t)
happens_cases setup answers w P server client other (event.Clean n) = other (event.Clean n)
happens_cases setup answers w P server client other (event.Ask l q) = other (event.Ask l q)
happens_cases setup answers w P server client other (event.Send l) = other (event.Send l)
happens_cases setup answers w P server client other (event.Cancel l) = other (event.Cancel l)
happens_cases setup answers w P server client other (event.Work n) = other (event.Work n)
happens_cases setup answers w P server client other (event.ToServer n m) = other (event.ToServer n m)
happens_cases setup answers w P server client other (event.ToClient n m) = other (event.ToClient n m)
happens_cases setup answers w P server client other (event.Cut n) = other (event.Cut n)
