use Rattle.std.proofs.Common.{◌≡◌, ◌∙◌, ◌+◌, ◌++◌, ℕ, List, length, take, drop, sym, ap, rules}
use Rattle.std.proofs.Math.Seq.{take-add, drop-append_seam}
use Rattle.tds_play.proofs.memory.queue.Queue.take.Goals as goal

-- The bytes up to the new place are those up to the old one, and then those that were appended.
taken_next : (items out new : List ℕ) (place count : ℕ) → new ≡ out ++ take count (drop place items) → take (place + count) items ≡ take place items ++ drop (length out) new
taken_next items out new place count e =
    take-add place count items
    ∙ ap (λ (xs : List ℕ). take place items ++ xs) (sym (ap (drop (length out)) e ∙ drop-append_seam out (take count (drop place items))))

pub returns-clause-queue : goal.returns-clause-queue
returns-clause-queue c =
    let q = c.args.self.now in
    let next : c.extend_from_slice.new.self.items ≡ c.args.out.now.items ++ take c.args.count (drop q.place q.bytes.items) = search rules in
    let came = taken_next q.bytes.items c.args.out.now.items c.extend_from_slice.new.self.items q.place c.args.count next in
    search rules
