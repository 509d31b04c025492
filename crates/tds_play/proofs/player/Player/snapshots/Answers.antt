use Rattle.std.proofs.Common.{◌∙◌, length, ap, sym, arith}
use Rattle.std.specs.List.{filter_map}
use Rattle.std.proofs.lemmas.List.{take_all}
use Rattle.tds_pool.specs.Calls.{all_numbers}
use Rattle.tds_pool.specs.Connections.{connections}
use Rattle.tds_play.specs.Player.{all_of}
use Rattle.tds_play.specs.Seen.{seen_at}
use Rattle.tds_play.proofs.Snapshots.{some_more, none_more}
use Rattle.tds_play.proofs.pooled.Shown.{item_of, shown}
use Rattle.tds_play.proofs.player.Player.snapshots.Goals as goal
use Rattle.tds_play.proofs.player.Player.snapshots.Goals.{in-Some+in_ok-push, in_default}

pub numbers-preserved : goal.numbers-preserved
numbers-preserved g c =
    let player = c.args.self.now in
    let numbers = all_numbers (connections player.pool) in
    let same = c.deref-number-items.ensures.value ∙ c.in_ok-numbers.ensures in
    let less = rw same at c.numbers-test.true in
    let item = item_of c.deref-number-items.result.now numbers c.numbers.number-index same less in
    elim c.match-snapshot.branch [
      | in-Some+in_ok-push w ↦
          some_more (seen_at (all_of player)) numbers c.numbers.number-index _ w.in-Some.snapshot c.numbers.snapshots.items c.match-snapshot.snapshots.items
          less item (sym c.snapshot.ensures ∙ w.in-Some.is) c.numbers.invariant (ap (λ v. v.items) w.snapshots-is ∙ w.in_ok-push.ensures.items)
      | in_default w ↦
          none_more (seen_at (all_of player)) numbers c.numbers.number-index _ c.numbers.snapshots.items c.match-snapshot.snapshots.items
          less item (sym c.snapshot.ensures ∙ w.in_default.is) c.numbers.invariant (ap (λ v. v.items) w.snapshots-is)
    ]

pub returns : goal.returns
returns g c =
    let numbers = all_numbers (connections c.args.self.now.pool) in
    let same = ap length (c.deref-number-items.ensures.value ∙ c.in_ok-numbers.ensures) in
    c.numbers.invariant
    ∙ ap (filter_map (seen_at (all_of c.args.self.now))) (take_all c.numbers.number-index numbers (omega (arith, same, c.numbers-test.false, c.deref-number-items.ensures.len)))
    ∙ shown c.args.self.now c.requires.held
