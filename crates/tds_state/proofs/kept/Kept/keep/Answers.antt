use Rattle.std.proofs.Common.{◌≡◌, ◌∙◌, ◌≤◌, ◌-◌, ◌++◌, ℕ, List, ap, arith, length, take}
use Rattle.tds_state.proofs.KeptBytes.{kept_more, grown}
use Rattle.tds_state.proofs.kept.Kept.keep.Goals as goal

pub returns : goal.returns
returns c =
    let k = c.self.inside in
    let ok = c.extend_from_slice.ensures.succeeds (omega (arith, c.first_of-front.ensures.few, c.len.ensures, c.self.invariant.0, c.self.invariant.1)) in
    let new = grown c.extend_from_slice.result _ _ _ ok c.extend_from_slice.ensures.items in
    let left : k.most - c.len.result ≡ k.most - length k.bytes.items = omega (arith, c.len.ensures, k.bytes.ok.0) in
    let front = c.first_of-front.ensures.front ∙ ap (λ (n : ℕ). take n c.args.more.now) left in
    let few : length k.bytes.items ≤ k.most = omega (arith, k.bytes.ok.0, c.self.invariant.0) in
    rw (← c.self.view_is) (ap (λ (xs : List ℕ). record { bytes = xs; most = k.most }) (new ∙ ap (λ (xs : List ℕ). k.bytes.items ++ xs) front ∙ kept_more k.most k.bytes.items c.args.more.now few))
