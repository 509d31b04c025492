-- What each event adds at most, and a cut does not, a play adds at most so often as it has events.
use Rattle.std.proofs.Common.{◌≡◌, ℕ, suc, List, [], ◌∷◌, ◌+◌, length, sym, subst, Option, Some, None, arith}
use Rattle.tds_session.specs.Answer.{Answers}
use Rattle.tds_world.specs.declared.event.Event.{Event}
use Rattle.tds_world.specs.declared.event.Event.TheVariants as event
use Rattle.tds_world.specs.declared.event.Setup.{Setup}
use Rattle.tds_world.specs.limits.Counts.{AreFew}
use Rattle.tds_world.specs.Events.{happens, world_after}
use Rattle.tds_world.specs.Lawful.{Lawful}
use Rattle.tds_world.specs.Losses.{Loss, Nothing, Failed, Played, met, link_of, cuts_after, world_then, world_with, with_cuts}
use Rattle.tds_world.specs.Sessions.{StayInRange}
use Rattle.tds_world.specs.limits.Underway.{FewToClients}
use Rattle.tds_world.specs.World.{World, new_world}
use Rattle.tds_world.proofs.packets.Underway.{Few, new_few_waits, happens_few_waits, cut_few_waits, few_wait}
use Rattle.tds_world.proofs.plays.Worlds.{plain_worlds}
use Rattle.tds_world.proofs.reports.Few.{new_few, happens_few, cut_few}

-- A bound that each event raises by one, and a cut leaves.
pub record Counted (setup : Setup) (answers : Answers) (F : ℕ → World → Type 0) : Type 0 where
  pub by_event : (n : ℕ) (e : Event) (w : World) → F n w → F (suc n) (happens setup answers e w).1
  pub was_cut : (n k : ℕ) (w : World) → F n w → F n (happens setup answers (event.Cut k) w).1

one_event : (F : ℕ → World → Type 0) (setup : Setup) (answers : Answers) (l : Loss) (link : Option ℕ) (n : ℕ) (e : Event) (w : World) → Counted setup answers F → F n w → F (suc n) (world_after setup answers (met l e ∷ cuts_after l link) w)
one_event F setup answers Nothing link n e w c h = c.by_event n e w h
one_event F setup answers (Failed k) None n e w c h = c.by_event n (met (Failed k) e) w h
one_event F setup answers (Failed k) (Some m) n e w c h =
    c.was_cut (suc n) m (happens setup answers (met (Failed k) e) w).1 (c.by_event n (met (Failed k) e) w h)

after_play : (F : ℕ → World → Type 0) (setup : Setup) (answers : Answers) (n : ℕ) (ps : List Played) (w : World) → Counted setup answers F → F n w → F (n + length ps) (world_with setup answers ps w)
after_play F setup answers n [] w c h =
    let none : n ≡ n + 0 = omega arith in subst (λ k. F k w) none h
after_play F setup answers n (p ∷ ps) w c h =
    let sum : suc n + length ps ≡ n + suc (length ps) = omega arith in
    subst (λ k. F k (world_with setup answers ps (world_then setup answers w p))) sum
    (after_play F setup answers (suc n) ps (world_then setup answers w p) c (one_event F setup answers p.loss (link_of setup w p.event) n p.event w c h))

after_any_play : (F : ℕ → World → Type 0) (setup : Setup) (answers : Answers) (ps : List Played) → Counted setup answers F → F 0 new_world → F (length ps) (world_with setup answers ps new_world)
after_any_play F setup answers ps c h =
    let none : 0 + length ps ≡ length ps = omega arith in
    subst (λ n. F n (world_with setup answers ps new_world)) none (after_play F setup answers 0 ps new_world c h)

pub few_of_each : (setup : Setup) (answers : Answers) (ps : List Played) → AreFew (length ps) (world_with setup answers ps new_world)
few_of_each setup answers ps =
    after_any_play AreFew setup answers ps (record { by_event = happens_few setup answers; was_cut = cut_few setup answers }) new_few

pub few_to_clients : (setup : Setup) (answers : Answers) → Lawful answers → StayInRange answers → (ps : List Played) → FewToClients (length ps) (world_with setup answers ps new_world)
few_to_clients setup answers l a ps =
    let few : Few (length ps) (world_with setup answers ps new_world) =
    after_any_play Few setup answers ps (record { by_event = happens_few_waits setup answers; was_cut = cut_few_waits setup answers }) new_few_waits in
    subst (FewToClients (length ps)) (sym (plain_worlds setup answers ps new_world))
    (few_wait setup answers l a (length ps) (with_cuts setup answers ps new_world) (subst (Few (length ps)) (plain_worlds setup answers ps new_world) few))
