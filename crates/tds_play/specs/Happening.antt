-- An event of a play: what it made of the player and of its carrier, and what it came to in the model.
use Rattle.std.specs.Prelude.{List, ℕ, ◌≡◌, length, Option}
use Rattle.tds_ends.specs.ModelGives.{IsCountable}
use Rattle.tds_session.specs.Answer.{Answers}
use Rattle.tds_world.specs.declared.event.Event.{Event}
use Rattle.tds_world.specs.declared.event.Setup.{Setup}
use Rattle.tds_world.specs.Events.{happens}
use Rattle.tds_world.specs.Laws.{OfEachConnection}
use Rattle.tds_world.specs.Losses.{bringing, link_of}
use Rattle.tds_world.specs.World.{World}
use Rattle.tds_play.specs.declared.link.EventDone.{EventDone}
use Rattle.tds_play.specs.declared.player.Player.{Player}
use Rattle.tds_play.specs.Failures.{FailsOn, LiveAreSound, all_known}
use Rattle.tds_play.specs.Pipe.{AreFaithfulTo, AreSameBeyond, BegunEvent, Pipe}
use Rattle.tds_play.specs.Player.{AreHeld, ModelGivesEach, RefinesEvent, RepresentsWorld, all_of}
use Rattle.tds_play.specs.Reads.{AllRead, Answers as Answered, answers_then}
use Rattle.tds_play.specs.Steps.{GrowsByOne}
use Rattle.tds_play.specs.Ties.{AreTied}

-- What an event came to in a play, over a carrier that was told of these events, and is of no other one. It
-- keeps what each event needs of the player.
pub record HappensAs {E S : Type 0} (answers : E → Answers) (e : Event) (old new : Player E S)
    (pipes pipes' : ℕ → Option Pipe) (told still : List BegunEvent) (done : EventDone) : Type 0 where
  pub tied : AreTied (all_of new) pipes'
  pub held : AreHeld new
  pub grows : GrowsByOne old new
  pub begun : still ≡ told
  pub others : AreSameBeyond (length new.links.items) pipes pipes'
  pub faithful : AreFaithfulTo (length new.links.items) pipes' → AreFaithfulTo (length old.links.items) pipes
  pub sound : LiveAreSound (all_of old) pipes → LiveAreSound (all_of new) pipes'
  pub size : new.size ≡ old.size
  -- Both ends of each connection read what comes, whatever it is.
  pub reads : (so_far : Answered) → AllRead old.size (all_of old) pipes so_far
      → AllRead old.size (all_of new) pipes' (answers_then e done.outcome so_far)
  -- Where it was lost, calls that it makes failed on the connection whose link it uses.
  pub lost : (setup : Setup) (engine : E) (w : World) → LiveAreSound (all_of old) pipes
      → RepresentsWorld setup engine old pipes w → ModelGivesEach E (answers engine) setup w
      → FailsOn e done.lost (link_of setup w e) (all_known (length old.links.items) pipes)
      (all_known (length new.links.items) pipes')
  -- What stands for a world of the model stands for the world after it.
  pub refines : (setup : Setup) (engine : E) (w : World) → AreFaithfulTo (length new.links.items) pipes'
      → RepresentsWorld setup engine old pipes w → ModelGivesEach E (answers engine) setup w
      → ((k : ℕ) → OfEachConnection IsCountable (happens setup (answers engine) (bringing k e) w).1)
      → RefinesEvent setup engine (answers engine) done new pipes' e w
