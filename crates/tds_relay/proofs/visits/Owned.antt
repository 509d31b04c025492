-- What parts an application from its connection is asked for by its own bytes.
use Rattle.std.proofs.Common.{◌≡◌, ◌∙◌, ◌⊎◌, ◌++◌, ℕ, List, [], ◌∷◌, sym, ap, subst, inl, inr, append_assoc}
use Rattle.std.specs.Prelude.{Option, Some, None}
use Rattle.tds_packet.specs.declared.status.Reset.{Reset}
use Rattle.tds_packet.specs.declared.status.Reset.TheVariants.{Full, KeepTransaction}
use Rattle.tds_relay.specs.declared.pool.Hold.{Hold}
use Rattle.tds_relay.specs.Pool as pool
use Rattle.tds_relay.specs.Pool.{Sharing, find_key}
use Rattle.tds_relay.specs.Giving.{Visit, moves_in}
use Rattle.tds_relay.specs.Core as core
use Rattle.tds_relay.specs.Core.{AsksFor, End, Open, Over, Core, MayMove, Move, end_at, moved, moved_all, new_core}
use Rattle.tds_relay.specs.Places.{HasNoTransaction}
use Rattle.tds_relay.specs.Machine.{Machine, Step, Admits, after_all, new_machine}
use Rattle.tds_relay.specs.Law.{HasAsked, IsParked, KeepsOwnOrRests, KeepsTransaction, Parts, PartsFor, core_behind}
use Rattle.tds_relay.specs.Taking.{IsDeaf}
use Rattle.tds_relay.specs.Telling.{AsksJust, happens_to, wants}
use Rattle.tds_relay.proofs.ends.Keeping.{Asks, keeps_all}
use Rattle.tds_relay.proofs.steps.Stepping.{after_both}
use Rattle.tds_relay.proofs.visits.Stays.{core_after, may_moves}
use Rattle.tds_relay.proofs.visits.Tellings.{wants_in}

-- what its end asks for, its bytes do
asked : (asks : Option Reset) (reset : Reset) (o : Option End) → AsksJust asks o → AsksFor reset o → (asks ≡ Some reset) ⊎ IsDeaf o
asked asks reset None just is = inr tt
asked asks reset (Some (Open front withdrawn its)) just is = inl (sym just ∙ is)
asked asks reset (Some (Over why)) just is = inr tt

module _ (A B : Reset → Type 0) (leads : (reset : Reset) → A reset → B reset) (key : ℕ) (hold : Hold) (h : Core) where
  either : (A Full ⊎ (A KeepTransaction × HasNoTransaction h.pool key)) → B Full ⊎ (B KeepTransaction × HasNoTransaction h.pool key)
  either (inl all) = inl (leads Full all)
  either (inr kept) = inr (leads KeepTransaction kept.0, kept.1)

  parts_for : PartsFor A key h → PartsFor B key h
  parts_for p = (p.0, either p.1)

  pub parts_by : (move : Move) → Parts A key hold h move → Parts B key hold h move
  parts_by (core.Does (pool.Waits other)) p = absurd p
  parts_by (core.Does (pool.Unwaits other)) p = absurd p
  parts_by (core.Does pool.Serves) p = absurd p
  parts_by (core.Does (pool.Brings gives way)) p = absurd p
  parts_by (core.Does (pool.Does other action)) p = absurd p
  parts_by (core.Does (pool.Leaves other gives way)) p = absurd p
  parts_by (core.Does (pool.Renews other resumes)) p = (p.0, leads KeepTransaction p.1, p.2)
  parts_by (core.Does (pool.Comes number part way)) p = absurd p
  parts_by (core.Does (pool.Loses number)) p = absurd p
  parts_by (core.Sends other action) p = absurd p
  parts_by (core.LetsGo other parks gives way) p = (p.0, parts_for p.1)
  parts_by (core.Loses number) p = p
  parts_by (core.Replaces number) p = (p.0, parts_for p.1)
  parts_by (core.Comes number part way) p = p
  parts_by (core.Feeds other bytes) p = absurd p
  parts_by (core.Closes other) p = absurd p
  parts_by (core.Enters other ends) p = absurd p
  parts_by (core.Quits other gives way) p = p

-- where a visit's steps have led, its moves lead
behind_is : (sharing : Sharing) (key : ℕ) (v : Visit sharing key) → core_behind v ≡ moved_all (new_core sharing) (moves_in (v.before ++ Admits key v.ends v.queues ∷ v.since))
behind_is sharing key v =
    let come : List Step = Admits key v.ends v.queues ∷ [] in
    ap (λ (h : Machine). h.core) (sym (after_both (new_machine sharing) (v.before ++ come) v.since) ∙ ap (after_all (new_machine sharing)) (append_assoc v.before come v.since))
    ∙ core_after (new_machine sharing) (v.before ++ Admits key v.ends v.queues ∷ v.since)

own_by : (sharing : Sharing) (key : ℕ) (v : Visit sharing key) (move : Move) (hold : Hold)
    → (find_key key (moved (core_behind v) move).pool.holds ≡ Some hold) ⊎ (Parts (Asks (core_behind v) key) key hold (core_behind v) move ⊎ IsParked key (core_behind v) move)
    → (find_key key (moved (core_behind v) move).pool.holds ≡ Some hold) ⊎ (Parts (HasAsked v) key hold (core_behind v) move ⊎ IsParked key (core_behind v) move)
own_by sharing key v move hold (inl keeps) = inl keeps
own_by sharing key v move hold (inr (inl parts)) =
    inr (inl (parts_by (Asks (core_behind v) key) (HasAsked v) (λ reset. asked (wants None (happens_to v)) reset (end_at (core_behind v).ends key) (wants_in sharing key v)) key hold (core_behind v) move parts))
own_by sharing key v move hold (inr (inr parked)) = inr (inr parked)

pub keeps_own : (sharing : Sharing) (key : ℕ) (v : Visit sharing key) (move : Move) → MayMove (core_behind v) move → KeepsOwnOrRests v move
keeps_own sharing key v move may hold e =
    let all : List Step = v.before ++ Admits key v.ends v.queues ∷ v.since in
    let is = behind_is sharing key v in
    let its : KeepsTransaction key (core_behind v) move =
    subst (λ (h : Core). KeepsTransaction key h move) (sym is) (keeps_all sharing key (moves_in all) move (may_moves (new_machine sharing) all v.may) (subst (λ (h : Core). MayMove h move) is may)) in
    own_by sharing key v move hold (its hold e)
