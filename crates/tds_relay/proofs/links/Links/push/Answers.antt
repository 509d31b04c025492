use Rattle.std.proofs.Common.{◌≡◌, ◌++◌, ◌∷◌, ◌∙◌, [], ℕ, List, length, ap, sym, subst, arith}
use Rattle.tds_relay.specs.declared.link.Link.{Link}
use Rattle.tds_relay.specs.declared.index.Indexed.{Indexed}
use Rattle.tds_relay.specs.Sorted.{one_if, under}
use Rattle.tds_relay.specs.Linking.{ArePlaced}
use Rattle.tds_relay.proofs.indexed.Placing.{placed_more}
use Rattle.tds_relay.proofs.links.Links.push.Goals as goal

pub invariant_of-self-2 : goal.invariant_of-self-2
invariant_of-self-2 c =
    let ls = c.self.inside.list.items in
    let es = c.self.inside.places.items in
    let same : c.reserve.new.self.items ≡ ls = c.in_ok-reserve.ensures.items in
    let kept : c.reserve-2.new.self.items ≡ es = c.in_ok-reserve-2.ensures.items in
    let is : c.add.new.index.len ≡ length c.add.new.index.items = c.add.new.index.ok.0 in
    let was : c.reserve-2.new.self.len ≡ length c.reserve-2.new.self.items = c.reserve-2.new.self.ok.0 in
    let had = ap (λ (xs : List (Indexed ℕ)). length xs) kept in
    let more = c.add.ensures.len in
    let here : c.len.result ≡ length ls = c.len.ensures ∙ (c.reserve.new.self.ok.0 ∙ ap (λ (xs : List Link). length xs) same) in
    subst (λ (xs : List Link). ArePlaced xs c.add.new.index.items) (sym (c.push_reserved.ensures.items ∙ ap (λ (xs : List Link). xs ++ c.args.link ∷ []) same))
    (placed_more ls c.args.link es c.add.new.index.items c.len.result c.self.invariant c.add.ensures.climbs (omega (arith, is, was, had, more))
    (λ other. c.add.ensures.adds other ∙ ap (λ (xs : List (Indexed ℕ)). under other xs ++ one_if c.args.link.number other c.len.result) kept) here)
