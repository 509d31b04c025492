-- The calls of a play are those that its carrier was asked: each event's do there what the event does in the model.
use Rattle.std.proofs.Common.{◌≡◌, ◌∙◌, ℕ, suc, List, [], ◌∷◌, Option, None, true, refl, sym, ap, subst}
use Rattle.std.proofs.Math.Path.{fun_ext}
use Rattle.std.specs.List.{AllByRecursion}
use Rattle.tds_play.specs.Calls.{CarrierDoes, DoInTurn as MakeInTurn, MakesCalls, next_there}
use Rattle.tds_play.specs.Pipe.{BegunEvent, Pipe}
use Rattle.tds_session.specs.Answer.{Answers}
use Rattle.tds_trace.specs.Turns.{AreCallsOfPlay, AreCallsSince, DoInTurn, IsRecordOf, MayAllBe, left_of}
use Rattle.tds_trace.specs.declared.call.Call.{Call}
use Rattle.tds_world.specs.Losses.{Played, world_then}
use Rattle.tds_world.specs.World.{World, new_world}
use Rattle.tds_world.specs.declared.event.Setup.{Setup}

-- ---- The calls

in_turn : (setup : Setup) (answers : Answers) (n : ℕ) (ps : List Played) (told : List BegunEvent) (last before : ℕ → Option Pipe) (w : World)
    (calls : List Call) → next_there told last ≡ before
    → MakeInTurn setup answers n ps told last w → AreCallsSince told last calls → DoInTurn setup answers n ps w before calls
in_turn setup answers n [] [] last before w calls begins makes none = none
in_turn setup answers n [] (b ∷ bs) last before w calls begins makes since = absurd makes
in_turn setup answers n (p ∷ ps) [] last before w calls begins makes since = absurd makes
in_turn setup answers n (p ∷ ps) (b ∷ bs) last before w calls begins (number, does, rest) (own, later, parts, in', left, since) =
    let after : next_there bs last ≡ (λ (m : ℕ). left_of own m (before m)) =
    fun_ext (λ m. left m ∙ ap (λ (f : ℕ → Option Pipe). left_of own m (f m)) begins) in (
      own,
      later,
      parts,
      record {
        numbered = subst (λ (k : ℕ). AllByRecursion (λ (c : Call). c.event ≡ k) own) number in'.numbered;
        may = subst (MayAllBe [] own) begins in'.may;
      },
      subst (λ (f : ℕ → Option Pipe). CarrierDoes setup answers w p f (λ m. left_of own m (before m))) begins
          (subst (CarrierDoes setup answers w p b.pipes) after does),
      in_turn setup answers (suc n) ps bs last (λ m. left_of own m (before m)) (world_then setup answers w p) later after rest since,
    )

pub calls_of_record : (setup : Setup) (answers : Answers) (ps : List Played) (event : Option ℕ) (calls : List Call) (told : List BegunEvent)
    (last : ℕ → Option Pipe)
    → MakesCalls true setup answers ps [] told last → IsRecordOf event calls told last → AreCallsOfPlay setup answers ps calls
calls_of_record setup answers ps event calls told last makes is =
    in_turn setup answers 1 ps told last (λ n. None) new_world calls (fun_ext is.begins)
    (subst (λ (bs : List BegunEvent). MakeInTurn setup answers 1 ps bs last new_world) (sym (makes.since refl)) makes.calls) is.each
