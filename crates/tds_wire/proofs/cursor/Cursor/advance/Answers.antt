use Rattle.tds_wire.specs.Memory.{walk_of}
use Rattle.std.proofs.Common.{rules, refl}
use Rattle.tds_wire.proofs.Walks.{taken}
use Rattle.tds_wire.proofs.cursor.Cursor.advance.Goals as goal

pub returns : goal.returns
returns c = record {
  within = search rules;
  moves = search rules;
  exact = taken (walk_of c.args.self.now c.args.memory.now) (walk_of c.take.new.self c.take.new.memory) c.args.bytes.now _ c.requires.some refl c.take.ensures c.requires.on;
}
