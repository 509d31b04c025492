-- An idle connection is quiet.
use Rattle.std.proofs.Common.{◌≡◌, ℕ, List, [], subst, length, ◌-◌, arith, flat_map}
use Rattle.tds_session.specs.Answer.{Answers}
use Rattle.tds_world.specs.declared.event.Setup.{Setup}
use Rattle.tds_world.specs.Connection.{Connection}
use Rattle.tds_world.specs.Entries.{up_bytes, down_bytes}
use Rattle.tds_world.specs.Events.{world_after}
use Rattle.tds_world.specs.Lawful.{Lawful}
use Rattle.tds_world.specs.Laws.{Always, QuietIfIdle, IdleIsQuiet}
use Rattle.tds_world.specs.World.{new_world}
use Rattle.tds_world.proofs.events.Worlds.{always, each_follows}
use Rattle.tds_world.proofs.flow.Flow.{Quiet, FlowIn, number_in, Hears, Sound}
use Rattle.tds_world.proofs.flow.Sound.{sound_kept}

nothing : {Entry : Type 0} (bytes : Entry → List ℕ) (entries : List Entry) (k : ℕ) → entries ≡ [] → length (flat_map bytes entries) - k ≡ 0
nothing bytes entries k e = rw e (omega arith)

pub sound_is_quiet : (c : Connection) → Sound c → QuietIfIdle c
sound_is_quiet c f e =
    let q : Quiet c.to_server.waiting c.to_client.waiting c.parts c.due =
    subst (λ p. FlowIn p (number_in c.current) c.answering c.to_server.waiting c.to_client.waiting c.parts c.due) e f.0 in
    record {
      to_server = nothing up_bytes c.to_server.waiting c.to_server.part q.0;
      to_client = nothing down_bytes c.to_client.waiting c.to_client.part q.1;
      parts = q.2;
      due = q.3;
      descriptor = subst (λ ds. Hears c.heard ds c.session.descriptor) q.1 f.1.0;
    }

pub idle_is_quiet : (setup : Setup) (answers : Answers) → Lawful answers → Always setup answers IdleIsQuiet
idle_is_quiet setup answers l events =
    each_follows Sound QuietIfIdle (world_after setup answers events new_world).connections sound_is_quiet
    (always Sound setup answers events (sound_kept setup answers l))
