-- Each caller has a beginning of its own answer: a request runs in the transaction that its header
-- names, so its answer is that of its own session's descriptor.
use Rattle.std.proofs.Common.{◌≡◌, List, [], ◌∷◌, refl, subst, Option, Some, None, flat_map}
use Rattle.std.specs.List.{AllByRecursion}
use Rattle.tds_session.specs.Answer.{Answers}
use Rattle.tds_session.specs.Session.{SessionState}
use Rattle.tds_token.specs.Told.{told}
use Rattle.tds_world.specs.declared.event.Setup.{Setup}
use Rattle.tds_world.specs.Bounds.{RanInOwn}
use Rattle.tds_world.specs.Connection.{Connection, records}
use Rattle.tds_world.specs.Events.{world_after}
use Rattle.tds_world.specs.Lawful.{Lawful}
use Rattle.tds_world.specs.Laws.{Always, IsAnswer, IsOwnAnswer, OwnAnswers}
use Rattle.tds_world.specs.Record.{Record}
use Rattle.tds_world.specs.World.{World, new_world}
use Rattle.tds_world.proofs.events.Noted.{always_in}
use Rattle.tds_world.proofs.requests.Own.{HasOwn, OwnsPast}
use Rattle.tds_world.proofs.requests.OwnActs.{Owned, owned_kept, all_have}
use Rattle.tds_world.proofs.requests.OwnTransactions.{own_transaction}

own_by : (answers : Answers) (q : Record) (ran : Option SessionState) → ((s : SessionState) → ran ≡ Some s → q.asking.descriptor ≡ s.descriptor) → HasOwn answers q ran → IsOwnAnswer answers q ran
own_by answers q None f h = h
own_by answers q (Some s) f h = subst (λ d. IsAnswer q.given (told (flat_map (λ step. step.tokens) (answers s d None q.asking.request))) q) (f s refl) h

each_own : (answers : Answers) (c : Connection) (qs : List Record) → AllByRecursion (RanInOwn c) qs → OwnsPast answers qs → AllByRecursion (λ q. IsOwnAnswer answers q q.ran) qs
each_own answers c [] f h = tt
each_own answers c (q ∷ qs) f h = (own_by answers q q.ran f.0 h.0, each_own answers c qs f.1 h.1)

all_own : (answers : Answers) (w : World) (cs : List Connection) → AllByRecursion (λ c. AllByRecursion (RanInOwn c) (records c)) cs → AllByRecursion (Owned answers w) cs → AllByRecursion (λ c. AllByRecursion (λ q. IsOwnAnswer answers q q.ran) (records c)) cs
all_own answers w [] f h = tt
all_own answers w (c ∷ cs) f h =
    (each_own answers c (records c) f.0 (all_have answers c.session c.past c.current c.to_server.waiting c.to_client.waiting c.due h.0.1.0 h.0.1.1), all_own answers w cs f.1 h.1)

pub own_answers : (setup : Setup) (answers : Answers) → Lawful answers → Always setup answers (OwnAnswers answers)
own_answers setup answers l events =
    let w : World = world_after setup answers events new_world in
    all_own answers w w.connections (own_transaction setup answers l events) (always_in setup answers (Owned answers) events (owned_kept setup answers l))
