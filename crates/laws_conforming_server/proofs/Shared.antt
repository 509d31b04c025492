-- Two leases of one connection, in front of a server that counts the requests of its session: worked out by the checker.
use Rattle.std.proofs.Common.{◌≡◌, ℕ, suc, true, false, List, [], ◌∷◌, ◌++◌, refl}
use Rattle.std.specs.Prelude.{Option, Some, None}
use Rattle.tds_packet.specs.declared.status.Reset.{Reset}
use Rattle.tds_packet.specs.declared.status.Reset.TheVariants.{Full, KeepTransaction}
use Rattle.tds_client.specs.declared.sign.Sign.TheVariants as signs
use Rattle.tds_client.specs.Hearing.{place_change, place_done}
use Rattle.tds_service.specs.Parts.{Item}
use Rattle.tds_service.specs.Line as line
use Rattle.tds_service.specs.Line.{new_line}
use Rattle.tds_service.specs.History.{given, history}
use Rattle.laws_conforming_server.specs.Lawful.{Session, ServerStep, Says, Ends, AnyServer, IsAnswer, IsLawful, reset_by, told_of}
use Rattle.laws_conforming_server.specs.Link.{IsRun}
use Rattle.laws_conforming_server.specs.Alone.{DoesReset, ResetsFirst, answered_alone, new_beside}
use Rattle.laws_conforming_server.proofs.Examples.{acknowledged, at, done, reset, whole}
use Rattle.laws_conforming_server.proofs.Plans.{Planned, Does, Takes, Speaks, acts_in, moves_by}

-- ---- It tells how many there were

abbrev pub count : ℕ → Item ℕ
count n = record { sign = signs.Nothing; token = n }

abbrev pub counted : Session ℕ → List (ServerStep ℕ ℕ)
counted s = Says (count s.settings) (at s.transaction (suc s.settings)) ∷ Says done (at s.transaction (suc s.settings)) ∷ Ends ∷ []

abbrev pub counts_by : Option Reset → Session ℕ → List (ServerStep ℕ ℕ)
counts_by None s = counted s
counts_by (Some Full) s = Says reset (at 0 0) ∷ counted (at 0 0)
counts_by (Some KeepTransaction) s = Says reset (at s.transaction 0) ∷ counted (at s.transaction 0)

abbrev pub counting : AnyServer ℕ ℕ
counting = record {
  settings = 0;
  answers = λ request s reset named. counts_by reset s;
  stops = λ request s. Says acknowledged (at s.transaction 9) ∷ Ends ∷ [];
}

counts_lawful : (s : Session ℕ) (asked : Option Reset) → IsAnswer 0 asked s false (counts_by asked s)
counts_lawful s None = (refl, refl, (refl, refl, (refl, refl, refl)))
counts_lawful s (Some Full) = (refl, refl, (refl, refl, (refl, refl, (refl, refl, refl))))
counts_lawful s (Some KeepTransaction) = (refl, refl, (refl, refl, (refl, refl, (refl, refl, refl))))

pub counting_is_lawful : IsLawful counting
counting_is_lawful = record {
  answers = λ request s asked named. counts_lawful s asked;
  stops = λ request s. (refl, refl);
}

abbrev pub counting_resets : (s : Session ℕ) (asked : Reset) → List (ServerStep ℕ ℕ)
counting_resets s Full = Says reset (at 0 0) ∷ []
counting_resets s KeepTransaction = Says reset (at s.transaction 0) ∷ []

does_by : (s : Session ℕ) (asked : Reset) → DoesReset 0 (Some asked) s (counting_resets s asked)
does_by s Full = (tt, refl, refl)
does_by s KeepTransaction = (tt, refl, refl)

first_by : (s : Session ℕ) (asked : Reset) → counts_by (Some asked) s ≡ counting_resets s asked ++ counted (reset_by 0 asked s)
first_by s Full = refl
first_by s KeepTransaction = refl

pub counting_resets_first : ResetsFirst counting
counting_resets_first = record {
  resets = λ request s asked named. counting_resets s asked;
  does = λ request s asked named. does_by s asked;
  answers = λ request s asked named. first_by s asked;
}

-- ---- The second lease's first request is cancelled before its reset is done

abbrev pub shared : List (Planned ℕ)
shared = Does line.Ask ∷ Does (line.Send true) ∷ Takes ∷ Speaks ∷ Speaks ∷ Speaks ∷ Does (line.Come (whole (count 0 ∷ done ∷ [])))
    ∷ Does (line.Mark Full) ∷ Does line.Ask ∷ Does (line.Send true) ∷ Does line.Cancel ∷ Takes ∷ Takes ∷ Speaks ∷ Speaks
    ∷ Does (line.Come (whole (acknowledged ∷ [])))
    ∷ Does line.Ask ∷ Does (line.Send true) ∷ Takes ∷ Speaks ∷ Speaks ∷ Speaks ∷ Speaks ∷ Does (line.Come (whole (reset ∷ count 0 ∷ done ∷ [])))
    ∷ Does line.Ask ∷ Does (line.Send true) ∷ Takes ∷ Speaks ∷ Speaks ∷ Speaks ∷ Does (line.Come (whole (count 1 ∷ done ∷ []))) ∷ []

shared_tells : given 3 (history new_line (acts_in shared)) ++ given 4 (history new_line (acts_in shared)) ≡ 0 ∷ 3 ∷ 1 ∷ 3 ∷ []
unfolding place_change place_done
shared_tells = refl

abbrev pub told_alone : ℕ → List ℕ
told_alone r = told_of (answered_alone counting (new_beside counting) r (moves_by new_line shared))

alone_tells : told_alone 3 ++ told_alone 4 ≡ 0 ∷ 3 ∷ 1 ∷ 3 ∷ []
unfolding place_change place_done
alone_tells = refl

-- each move may be made
shared_runs : IsRun counting (moves_by new_line shared) (history new_line (acts_in shared))
unfolding place_change place_done
shared_runs = record {
  ours = refl;
  runs = (tt, (tt, (refl, (tt, (tt, (tt, ((tt, (refl, (refl, tt))), (tt, (tt, (tt, (tt, (refl, (tt, (tt, (tt, ((tt, (refl, tt)), (tt, (tt, (refl, (tt, (tt, (tt, (tt, ((tt, (refl, (refl, (refl, tt)))), (tt, (tt, (refl, (tt, (tt, (tt, ((tt, (refl, (refl, tt))), tt)))))))))))))))))))))))))))))));
}
