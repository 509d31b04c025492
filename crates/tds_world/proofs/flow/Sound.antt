-- Each move keeps a connection sound.
use Rattle.std.proofs.Common.{refl, subst, ◌-◌, ◌∷◌}
use Rattle.tds_session.specs.Answer.{Answers}
use Rattle.tds_world.specs.declared.event.Setup.{Setup}
use Rattle.tds_world.specs.Lawful.{Lawful}
use Rattle.tds_world.specs.Phase.{phase_in}
use Rattle.tds_world.proofs.events.Moves.{KeptByMoves, by_moves}
use Rattle.tds_world.proofs.events.Worlds.{Any, Kept}
use Rattle.tds_world.proofs.flow.Cancels.{by_phase}
use Rattle.tds_world.proofs.flow.Flow.{FlowIn, SoundWith, Sound, number_in}
use Rattle.tds_world.proofs.flow.Keeps.{up_act, down_act_at, works_keeps_on, asks_keeps, sends_keeps_by}

-- With lawful answers every connection is sound, after any events.
pub sound_moves : (setup : Setup) (answers : Answers) → Lawful answers → KeptByMoves setup answers SoundWith
sound_moves setup answers l = record {
  opened = λ lease. ((refl, refl, refl, refl), (refl, tt));
  stands = λ c m s f. f;
  asked = λ number lease n q c x i u f. asks_keeps number lease n q c i f;
  sent = λ last q c i s b u f. sends_keeps_by last (setup.packet_size - 8) q c i s f;
  cancelled = λ p q c i at u f. by_phase p q c at (subst (λ x. FlowIn x q.number c.answering c.to_server.waiting c.to_client.waiting c.parts c.due) at (subst (λ o. FlowIn (phase_in o) (number_in o) c.answering c.to_server.waiting c.to_client.waiting c.parts c.due) i f.0)) f;
  worked = λ c s ss i u f. works_keeps_on c (s ∷ ss) i f;
  at_server = λ c e es u f. up_act answers c e es l f;
  at_client = λ c e es u f. down_act_at c e es f;
  server_waits = λ c es k m f. f;
  client_waits = λ c es k m f. f;
}

pub sound_kept : (setup : Setup) (answers : Answers) → Lawful answers → Kept setup answers Any Sound
sound_kept setup answers l = by_moves setup answers SoundWith (sound_moves setup answers l)
