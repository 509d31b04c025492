use Rattle.std.proofs.Common.{rules, ◌≡◌, true}
use Rattle.tds_rows.specs.Pieces.{is_in_prefix, parts_at}
use Rattle.tds_rows.proofs.Coming.{after_more, after_none, own_more, own_none}
use Rattle.tds_rows.proofs.pieces.PartsReader.pass_prefix.Goals as goal

pub prefix-init : goal.prefix-init
prefix-init c = record { to = after_none (parts_at c.args.self.now) c.args.bytes.now; own = own_none (parts_at c.args.self.now) c.args.bytes.now; within = search rules }

pub prefix-preserved : goal.prefix-preserved
prefix-preserved c =
    let before : is_in_prefix (parts_at c.prefix.self) ≡ true = search rules in
    record {
      to = after_more _ _ _ c.args.bytes.now c.prefix.done (search rules) c.prefix.invariant.to c.take_prefix.ensures;
      own = own_more _ _ c.args.bytes.now c.prefix.done (search rules) c.prefix.invariant.to c.prefix.invariant.own before;
      within = search rules;
    }
