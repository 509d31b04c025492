-- From sessions of the program on, each connection's session is one and each step fits one packet.
use Rattle.std.proofs.Common.{◌≡◌, ◌+◌, ◌^◌, ◌<◌, ℕ, [], ◌∷◌, Bool, true, false, Option, None, refl, flat_map, arith, lit<, lit≤}
use Rattle.std.proofs.lemmas.Bool.Decides.{nat_tests}
use Rattle.std.specs.List.{AllByRecursion}
use Rattle.tds_session.specs.Answer.{Answers}
use Rattle.tds_session.specs.Laws.Sessions.{new_is_session}
use Rattle.tds_session.specs.Attention.{stop_by, acknowledging}
use Rattle.tds_session.specs.Session.{SessionState, IsSession, is_in_transaction}
use Rattle.tds_token.specs.declared.env_change.EnvChange.TheVariants as change
use Rattle.tds_token.specs.declared.token.Token.TheVariants as token
use Rattle.tds_token.specs.Layout.{IsTokens, spelling, is_done_status}
use Rattle.tds_world.specs.declared.event.Setup.{Setup}
use Rattle.tds_world.specs.Arrivals.{acknowledged_at}
use Rattle.tds_world.specs.Events.{world_after}
use Rattle.tds_world.specs.Lawful.{Lawful}
use Rattle.tds_world.specs.Laws.{Always}
use Rattle.tds_world.specs.Sessions.{FitsStep, FitsAcknowledgement, StayInRange, IsInRange, AllInRange}
use Rattle.tds_world.specs.Steps.{OfSteps, OfAcknowledgements}
use Rattle.tds_world.specs.World.{new_world}
use Rattle.tds_world.proofs.events.Worlds.{always, each_follows}
use Rattle.tds_world.proofs.flow.Flow.{Sound}
use Rattle.tds_world.proofs.packets.Sent.{Saying, Sent, Keeps, sent_kept}
use Rattle.tds_world.proofs.packets.Steps.{with_step, with_acknowledgement, told_more, told_same}

-- ---- What acknowledges an attention fits

-- A transaction's descriptor, of 64 bits and not 0, has a spelling of 14 bytes.
descriptor_some : (s : SessionState) → is_in_transaction s ≡ true → 0 < s.descriptor
descriptor_some s e = grind (arith, nat_tests)

done_spelled : (columns : Option ℕ) → IsTokens columns (acknowledging []) (flat_map spelling (acknowledging [])) None
unfolding IsTokens is_done_status
done_spelled columns =
    (spelling (token.Done 0x20 0 0), [], None, refl, record { spelled = refl; fits = refl; ranged = (lit< tt, lit< tt, lit< tt); under = tt; after_is = refl }, (refl, refl))

told_spelled : (d : ℕ) → 0 < d → d < 2 ^ 64 → IsTokens None (acknowledging (change.Rollback d ∷ [])) (flat_map spelling (acknowledging (change.Rollback d ∷ []))) None
unfolding IsTokens
told_spelled d some most =
    (spelling (token.Env (change.Rollback d)), flat_map spelling (acknowledging []), None, refl, record { spelled = refl; fits = some; ranged = most; under = tt; after_is = refl }, done_spelled None)

fits_told : (b : Bool) (s : SessionState) → (b ≡ true → is_in_transaction s ≡ true) → IsSession s → FitsAcknowledgement (stop_by b s).changes
fits_told false s t h = record { spelled = (None, done_spelled None); some = lit≤ tt; most = lit≤ tt }
fits_told true s t h = record { spelled = (None, told_spelled s.descriptor (descriptor_some s (t refl)) h.descriptor); some = lit≤ tt; most = lit≤ tt }

-- ---- The invariant

abbrev InRange : Saying
InRange s sent due taken = IsSession s × OfSteps FitsStep sent × AllByRecursion FitsStep due × OfAcknowledgements FitsAcknowledgement sent

pub stop_is_session : (b : Bool) (s : SessionState) → IsSession s → IsSession (stop_by b s).after
stop_is_session false s h = h
stop_is_session true s h = record { keys = h.keys; values = h.values; descriptor = lit< tt; next_some = h.next_some; next_fits = h.next_fits }

range_kept : (answers : Answers) → StayInRange answers → Keeps answers InRange
range_kept answers a = record {
  first = (new_is_session, tt, tt, tt);
  asked = λ s sent taken d m q h. (h.0, h.1, a s d m q h.0, h.3);
  stopped = λ s sent due taken r rolls t h. (
    stop_is_session rolls s h.0,
    with_acknowledgement FitsStep sent r (acknowledged_at due taken) _ h.1,
    tt,
    told_more FitsAcknowledgement sent r (acknowledged_at due taken) (stop_by rolls s).changes (fits_told rolls s t h.0) h.3,
  );
  worked = λ s sent t ts taken r h. (h.2.0.after, with_step FitsStep sent r (taken + 1) t h.2.0 h.1, h.2.1, told_same FitsAcknowledgement sent r (taken + 1) t h.3);
}

pub all_in_range : (setup : Setup) (answers : Answers) → Lawful answers → StayInRange answers → Always setup answers AllInRange
all_in_range setup answers l a events =
    each_follows (λ c. Sound c × Sent InRange c) IsInRange (world_after setup answers events new_world).connections
    (λ c h. record { session = h.1.0; sent = h.1.1; due = h.1.2; told = h.1.3 })
    (always (λ c. Sound c × Sent InRange c) setup answers events (sent_kept setup answers InRange l (range_kept answers a)))
