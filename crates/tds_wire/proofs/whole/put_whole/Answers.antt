use Rattle.std.proofs.Common.{◌∙◌, ◌≡◌, ℕ, Some, ap, drop, get_or, length, sym, take}
use Rattle.std.proofs.lemmas.List.{length-take-le}
use Rattle.tds_wire.specs.Reading.{found_to}
use Rattle.tds_wire.specs.Told.{added, told_of}
use Rattle.tds_wire.specs.Whole.{behind_whole}
use Rattle.tds_wire.proofs.Feeding.{takes_whole}
use Rattle.tds_wire.proofs.whole.put_whole.Goals as goal

pub returns-clause-exact : goal.returns-clause-exact
returns-clause-exact c = λ r ready s.
    let piece = c.args.piece.now in
    let count = c.args.count in
    let n = c.added-length.result in
    let first = c.first_of.result.now in
    let long : n ≡ added 0 (length (take count piece)) = c.added-length.ensures ∙ ap (added 0) (sym (length-take-le count piece c.requires.within)) in
    ap (λ t. found_to t (behind_whole r piece count) (drop count piece)) c.put_token.ensures
    ∙ (ap (λ (k : ℕ). found_to (Some (record { kind = get_or piece 0 0; start = k; length = n; told = told_of (get_or piece 0 0) k n first })) (behind_whole r piece count) (drop count piece)) (sym s)
    ∙ takes_whole r piece count n first ready c.requires.within c.requires.whole long c.first_of.ensures)
