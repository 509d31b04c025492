-- A play tells its carrier's failures, event by event.
use Rattle.std.proofs.Common.{◌≡◌, ◌∙◌, ◌<◌, ◌≤◌, ◌+◌, ◌++◌, ℕ, suc, Bool, true, false, List, [], ◌∷◌, length, take, slice_index_or, Option, refl, sym, ap, subst, arith}
use Rattle.std.proofs.lemmas.List.{take_all}
use Rattle.std.specs.List.{AllByRecursion}
use Rattle.tds_pool.specs.Connections.{connections}
use Rattle.tds_session.specs.Answer.{Answers}
use Rattle.tds_world.specs.declared.event.Event.{Event}
use Rattle.tds_world.specs.declared.event.Setup.{Setup}
use Rattle.tds_world.specs.declared.outcome.Outcome.{Outcome}
use Rattle.tds_world.specs.declared.report.EventReport.{EventReport}
use Rattle.tds_world.specs.declared.report.Snapshot.{Snapshot}
use Rattle.tds_world.specs.Losses.{Nothing, Played, is_lost, link_of, loss_by, marked, world_with}
use Rattle.tds_world.specs.WithLosses.{LosesNothing}
use Rattle.tds_world.specs.World.{new_world}
use Rattle.tds_play.specs.declared.link.EventDone.{EventDone}
use Rattle.tds_play.specs.declared.player.Player.{Player}
use Rattle.tds_play.specs.Failures.{FailNowhere, FailsOn, TellFailures, all_known}
use Rattle.tds_play.specs.Pipe.{Pipe}
use Rattle.tds_play.specs.Player.{RepresentsWorld, all_of}
use Rattle.tds_play.specs.Plays.{loss_of}
use Rattle.tds_play.proofs.Accounts.{AreTold, known_fine, told_all, told_more}
use Rattle.tds_play.proofs.AllPlayed.{as_many}
use Rattle.tds_play.proofs.pooled.Seated.{seated_length}
use Rattle.tds_play.proofs.Turns.{marked_one_more, one_taken, so_many}

pub marks_lost : (b : Bool) (o : Outcome) → b ≡ is_lost (loss_by b o)
marks_lost true o = refl
marks_lost false o = refl

pub told_one_more : (setup : Setup) (answers : Answers) (es : List Event) (i : ℕ) (e : Event) (reports told : List EventReport) (done : EventDone) (seen : List Snapshot) (before after : ℕ → Option Pipe)
    → i < length es → e ≡ slice_index_or es i e → length reports ≡ i
    → told ≡ reports ++ record { outcome = done.outcome; lost = done.lost; snapshots = seen } ∷ []
    → FailsOn e done.lost (link_of setup (world_with setup answers (marked (take i es) reports) new_world) e) before after
    → AreTold setup answers (marked (take i es) reports) before → AreTold setup answers (marked (take (i + 1) es) told) after
told_one_more setup answers es i e reports told done seen before after less is count more fails far =
    let p : Played = record { event = e; loss = loss_of done } in
    let r : EventReport = record { outcome = done.outcome; lost = done.lost; snapshots = seen } in
    let ps : marked (take (i + 1) es) told ≡ marked (take i es) reports ++ p ∷ [] =
    ap (λ xs. marked xs told) (one_taken es i e less is) ∙ ap (marked (take i es ++ e ∷ [])) more
    ∙ marked_one_more (take i es) e reports r (omega (arith, count, so_many i es (omega (arith, less)))) in
    subst (λ (xs : List Played). AreTold setup answers xs after) (sym ps)
    (told_more setup answers (marked (take i es) reports) p before after
    (subst (λ (b : Bool). FailsOn e b (link_of setup (world_with setup answers (marked (take i es) reports) new_world) e) before after) (marks_lost done.lost done.outcome) fails) far)

pub told_in_the_end : {E S : Type 0} (setup : Setup) (answers : Answers) (engine : E) (es : List Event) (i : ℕ) (player : Player E S) (pipes : ℕ → Option Pipe) (so_far reports : List EventReport)
    → length es ≤ i → reports ≡ so_far → RepresentsWorld setup engine player pipes (world_with setup answers (marked (take i es) so_far) new_world)
    → AreTold setup answers (marked (take i es) so_far) (all_known (length player.links.items) pipes) → TellFailures setup answers (marked es reports) pipes
told_in_the_end setup answers engine es i player pipes so_far reports over same play told =
    let ps : marked (take i es) so_far ≡ marked es reports = ap (λ xs. marked xs so_far) (take_all i es over) ∙ ap (marked es) (sym same) in
    subst (λ (xs : List Played). TellFailures setup answers xs pipes) ps
    (told_all setup answers (marked (take i es) so_far) (length player.links.items) pipes
    (sym (seated_length 1 player.links.items (connections player.pool)) ∙ as_many 1 setup.packet_size engine (all_of player) pipes (world_with setup answers (marked (take i es) so_far) new_world).connections play.connections) told)

not_lost : (b : Bool) (o : Outcome) → loss_by b o ≡ Nothing → b ≡ false
not_lost true o is = let bad : true ≡ false = ap is_lost is in absurd (cc)
not_lost false o is = refl

none_marked : (es : List Event) (rs : List EventReport) → length rs ≤ length es → LosesNothing (marked es rs) → AllByRecursion (λ (r : EventReport). r.lost ≡ false) rs
none_marked es [] few none = tt
none_marked [] (r ∷ rs) few none = absurd (omega (arith, few))
none_marked (e ∷ es) (r ∷ rs) few none = (not_lost r.lost r.outcome none.0, none_marked es rs (omega (arith, few)) none.1)

-- Where no call failed no event is marked.
pub unfailing_in_the_end : (setup : Setup) (answers : Answers) (es : List Event) (i count : ℕ) (pipes : ℕ → Option Pipe) (so_far reports : List EventReport)
    → length es ≤ i → length so_far ≤ length es → reports ≡ so_far
    → AreTold setup answers (marked (take i es) so_far) (all_known count pipes) → FailNowhere pipes
    → AllByRecursion (λ (r : EventReport). r.lost ≡ false) reports
unfailing_in_the_end setup answers es i count pipes so_far reports over few same told fine =
    let none : LosesNothing (marked (take i es) so_far) = told.unfailing (λ place. known_fine count place (pipes (suc place)) (fine (suc place))) in
    subst (AllByRecursion (λ (r : EventReport). r.lost ≡ false)) (sym same)
    (none_marked es so_far few (subst (λ (xs : List Event). LosesNothing (marked xs so_far)) (take_all i es over) none))
