-- Runs in front of a small server that keeps the rules, worked out by the checker.
use Rattle.std.proofs.Common.{◌≡◌, ℕ, zero, suc, true, false, List, [], ◌∷◌, refl}
use Rattle.std.specs.Prelude.{Option, Some, None}
use Rattle.tds_packet.specs.declared.status.Reset.{Reset}
use Rattle.tds_packet.specs.declared.status.Reset.TheVariants.{Full, KeepTransaction}
use Rattle.tds_token.specs.declared.env_change.EnvChange.TheVariants as changes
use Rattle.tds_client.specs.declared.sign.DoneKind.TheVariants.{Statement}
use Rattle.tds_client.specs.declared.sign.Sign.TheVariants as signs
use Rattle.tds_client.specs.Hearing.{place_change, place_done}
use Rattle.tds_service.specs.Parts as parts
use Rattle.tds_service.specs.Parts.{Item, Part}
use Rattle.tds_service.specs.Line as line
use Rattle.tds_service.specs.Line.{Answer, new_line}
use Rattle.tds_service.specs.History.{Done, given, history}
use Rattle.laws_conforming_server.specs.Lawful.{Session, ServerStep, Says, Ends, AnyServer, IsAnswer, IsLawful, told_of}
use Rattle.laws_conforming_server.specs.Link.{IsRun, link_after, new_link}
use Rattle.laws_conforming_server.specs.Answering.{answered}
use Rattle.laws_conforming_server.proofs.Plans.{Planned, Does, Takes, Speaks, acts_in, moves_by}

-- ---- A server: each request begins transaction 7 where none is open, and an attention leaves it open

abbrev session : ℕ → Session ℕ
session transaction = record { transaction = transaction; settings = 0 }

abbrev begun : Item ℕ
begun = record { sign = signs.Change (changes.Begin 7); token = 1 }

abbrev row : Item ℕ
row = record { sign = signs.Nothing; token = 2 }

abbrev pub done : Item ℕ
done = record { sign = signs.Done Statement 0; token = 3 }

abbrev pub reset : Item ℕ
reset = record { sign = signs.Change changes.ResetDone; token = 4 }

abbrev pub acknowledged : Item ℕ
acknowledged = record { sign = signs.Done Statement 32; token = 5 }

abbrev pub at : ℕ → ℕ → Session ℕ
at transaction settings = record { transaction = transaction; settings = settings }

abbrev runs : ℕ → ℕ → List (ServerStep ℕ ℕ)
runs zero settings = Says begun (at 7 settings) ∷ Says row (at 7 settings) ∷ Says done (at 7 settings) ∷ Ends ∷ []
runs (suc d) settings = Says row (at (suc d) settings) ∷ Says done (at (suc d) settings) ∷ Ends ∷ []

abbrev first : Option Reset → Session ℕ → List (ServerStep ℕ ℕ)
first None s = runs s.transaction s.settings
first (Some Full) s = Says reset (at 0 0) ∷ runs 0 0
first (Some KeepTransaction) s = Says reset (at s.transaction 0) ∷ runs s.transaction 0

abbrev small : AnyServer ℕ ℕ
small = record {
  settings = 0;
  answers = λ request s reset named. first reset s;
  stops = λ request s. Says acknowledged s ∷ Ends ∷ [];
}

runs_lawful : (d settings : ℕ) → IsAnswer 0 None (at d settings) false (runs d settings)
runs_lawful zero settings = (refl, refl, (refl, refl, (refl, refl, (refl, refl, refl))))
runs_lawful (suc d) settings = (refl, refl, (refl, refl, (refl, refl, refl)))

first_lawful : (s : Session ℕ) (asked : Option Reset) → IsAnswer 0 asked s false (first asked s)
first_lawful s None = runs_lawful s.transaction s.settings
first_lawful s (Some Full) = (refl, refl, runs_lawful 0 0)
first_lawful s (Some KeepTransaction) = (refl, refl, runs_lawful s.transaction 0)

pub small_is_lawful : IsLawful small
small_is_lawful = record {
  answers = λ request s asked named. first_lawful s asked;
  stops = λ request s. (refl, refl);
}

-- ---- What was answered

abbrev pub answers : List (Done ℕ) → List Answer
answers [] = []
answers (d ∷ ds) = d.answer ∷ answers ds

abbrev pub whole : List (Item ℕ) → Part ℕ
whole items = record { items = items; close = parts.Ends }

abbrev piece : List (Item ℕ) → Part ℕ
piece items = record { items = items; close = parts.Goes }

-- ---- A begin that is cancelled while its answer crosses: the next request names transaction 7

abbrev crossing : List (Planned ℕ)
crossing = Does line.Ask ∷ Does (line.Send true) ∷ Takes ∷ Speaks ∷ Speaks ∷ Speaks ∷ Speaks ∷ Does line.Cancel
    ∷ Does (line.Come (piece (begun ∷ row ∷ []))) ∷ Takes ∷ Speaks ∷ Does (line.Come (whole (done ∷ []))) ∷ Speaks
    ∷ Does (line.Come (whole (acknowledged ∷ []))) ∷ Does line.Ask ∷ []

crossing_runs : IsRun small (moves_by new_line crossing) (history new_line (acts_in crossing))
crossing_runs = record {
  ours = refl;
  runs = (tt, (tt, (refl, (tt, (tt, (tt, (tt, (tt, ((tt, (refl, (refl, tt))), (tt, (tt, ((tt, (refl, tt)), (tt, ((tt, (refl, tt)), (tt, tt)))))))))))))));
}

crossing_answers : answers (history new_line (acts_in crossing))
    ≡ line.Asked 1 0 ∷ line.Sent ∷ line.Stopped 1 ∷ line.More ∷ line.More ∷ line.Acked 1 ∷ line.Asked 2 7 ∷ []
unfolding place_change place_done
crossing_answers = refl

crossing_ends : link_after small (new_link small) (moves_by new_line crossing)
    ≡ record { up = []; server = record { session = session 7; reset = None; due = [] }; down = []; asking = record { request = 2; named = 7 } }
unfolding place_change place_done
crossing_ends = refl

-- ---- A reset that runs, and an answer that is read in two parts

abbrev resetting : List (Planned ℕ)
resetting = Does (line.Mark Full) ∷ Does line.Ask ∷ Does (line.Send false) ∷ Takes ∷ Does (line.Send true) ∷ Takes ∷ Speaks ∷ Speaks
    ∷ Does (line.Come (piece (reset ∷ begun ∷ []))) ∷ Speaks ∷ Speaks ∷ Speaks ∷ Does (line.Come (whole (row ∷ done ∷ []))) ∷ []

resetting_runs : IsRun small (moves_by new_line resetting) (history new_line (acts_in resetting))
resetting_runs = record {
  ours = refl;
  runs = (tt, (tt, (tt, (refl, (tt, (refl, (tt, (tt, ((tt, (refl, (refl, tt))), (tt, (tt, (tt, ((tt, (refl, (refl, tt))), tt)))))))))))));
}

resetting_answers : answers (history new_line (acts_in resetting))
    ≡ line.Marked ∷ line.Asked 1 0 ∷ line.Sent ∷ line.Sent ∷ line.More ∷ line.Finished 1 ∷ []
unfolding place_change place_done
resetting_answers = refl

resetting_tells : given 1 (history new_line (acts_in resetting)) ≡ 2 ∷ 3 ∷ []
unfolding place_change place_done
resetting_tells = refl

resetting_owns : told_of (answered small (new_link small) 1 (moves_by new_line resetting)) ≡ 2 ∷ 3 ∷ []
resetting_owns = refl

-- ---- Half a message, which is ignored

abbrev ignoring : List (Planned ℕ)
ignoring = Does line.Ask ∷ Does (line.Send false) ∷ Does line.Cancel ∷ Takes ∷ Takes ∷ Takes ∷ Speaks ∷ Speaks
    ∷ Does (line.Come (whole (acknowledged ∷ []))) ∷ []

ignoring_runs : IsRun small (moves_by new_line ignoring) (history new_line (acts_in ignoring))
ignoring_runs = record {
  ours = refl;
  runs = (tt, (tt, (tt, (refl, (refl, (tt, (tt, (tt, ((tt, (refl, tt)), tt)))))))));
}

ignoring_answers : answers (history new_line (acts_in ignoring)) ≡ line.Asked 1 0 ∷ line.Sent ∷ line.Stopped 1 ∷ line.Acked 1 ∷ []
unfolding place_change place_done
ignoring_answers = refl

ignoring_ends : link_after small (new_link small) (moves_by new_line ignoring)
    ≡ record { up = []; server = record { session = session 0; reset = None; due = [] }; down = []; asking = record { request = 1; named = 0 } }
unfolding place_change place_done
ignoring_ends = refl
