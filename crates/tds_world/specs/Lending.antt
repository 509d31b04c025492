-- What a connection is when it is lent again.
use Rattle.std.specs.Prelude.{ℕ, ◌≡◌, true}
use Rattle.tds_world.specs.declared.event.Event.TheVariants as event
use Rattle.tds_world.specs.declared.event.Setup.{Setup}
use Rattle.tds_world.specs.Connection.{Connection, is_idle}
use Rattle.tds_world.specs.Events.{about}
use Rattle.tds_world.specs.World.{World, Here}

-- A free connection that is lent, and a kept one that is lent again, is idle.
pub record LendsIdle (setup : Setup) (w : World) : Type 0 where
  pub lease : (n : ℕ) (c : Connection) → about setup w event.Lease ≡ Here n c → is_idle c ≡ true
  pub resume : (ticket n : ℕ) (c : Connection) → about setup w (event.Resume ticket) ≡ Here n c
      → is_idle c ≡ true
