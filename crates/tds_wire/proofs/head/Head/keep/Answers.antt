use Rattle.std.proofs.Common.{rules, ◌≡◌, ◌∙◌, ◌∷◌, [], ℕ, List, ap, sym, length, get_or}
use Rattle.tds_wire.specs.Lent.{head_of}
use Rattle.tds_wire.specs.Reading.{kept}
use Rattle.tds_wire.proofs.Heads.{few_kept, nothing_kept, kept_more, kept_so_far}
use Rattle.tds_wire.proofs.head.Head.keep.Goals as goal

pub bytes-init : goal.bytes-init
bytes-init c = record {
  items = nothing_kept (head_of c.args.self.now) (few_kept c.args.self.now (search rules));
  within = search rules;
}

pub returns-then-count-ge24 : goal.returns-then-count-ge24
returns-then-count-ge24 c =
    let e : length (head_of c.bytes.self) ≡ 24 = search rules in
    c.bytes.invariant.items ∙ kept_so_far (head_of c.args.self.now) c.args.bytes.now c.bytes.place (sym (ap length c.bytes.invariant.items) ∙ e)

pub bytes-preserved : goal.bytes-preserved
bytes-preserved c =
    let byte : ℕ = get_or c.args.bytes.now c.bytes.place 0 in
    record {
      items = c.keep_byte.ensures
          ∙ (ap (λ (h : List ℕ). kept h (byte ∷ [])) c.bytes.invariant.items ∙ kept_more (head_of c.args.self.now) c.args.bytes.now c.bytes.place 0 (search rules));
      within = search rules;
    }
