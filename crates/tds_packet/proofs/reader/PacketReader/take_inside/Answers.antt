use Rattle.std.proofs.Common.{◌+◌, List, ℕ, ap, arith, length}
use Rattle.tds_packet.specs.Reading.{with_taken}
use Rattle.tds_packet.specs.Reader.{reading_of}
use Rattle.tds_packet.proofs.Fields.{holds_inside, pushed, room_left}
use Rattle.tds_packet.proofs.reader.PacketReader.take_inside.Goals as goal

pub push_reserved-requires : goal.push_reserved-requires
push_reserved-requires c = omega (arith, room_left c.self.inside c.args.self.now (length c.args.run.now + 1) c.self.view_is c.self.invariant (omega (arith, c.requires)))

pub invariant_of-self : goal.invariant_of-self
invariant_of-self c = record {
  room = omega (arith, c.self.invariant.room, c.push_reserved.ensures.capacity);
  least = c.self.invariant.least;
  ends = c.self.invariant.ends;
  state = holds_inside c.self.inside c.args.self.now _ _ c.push_reserved.ensures.items c.self.view_is c.self.invariant (omega (arith, c.requires, c.in-len1.len_at_least));
}

pub invariant_of-self-in_default : goal.invariant_of-self-in_default
invariant_of-self-in_default c =
    let ok = c.extend_from_slice.ensures.succeeds (room_left c.self.inside c.args.self.now (length c.args.run.now) c.self.view_is c.self.invariant (omega (arith, c.requires))) in
    let grown = pushed c.extend_from_slice.result _ _ _ ok c.extend_from_slice.ensures.items in
    record {
      room = omega (arith, c.self.invariant.room, c.extend_from_slice.ensures.capacity);
      least = c.self.invariant.least;
      ends = c.self.invariant.ends;
      state = holds_inside c.self.inside c.args.self.now c.args.run.now _ grown c.self.view_is c.self.invariant c.requires;
    }

pub returns-in_default : goal.returns-in_default
returns-in_default c =
    let ok = c.extend_from_slice.ensures.succeeds (room_left c.self.inside c.args.self.now (length c.args.run.now) c.self.view_is c.self.invariant (omega (arith, c.requires))) in
    let grown = pushed c.extend_from_slice.result _ _ _ ok c.extend_from_slice.ensures.items in
    rw (← c.self.view_is) (ap (λ (xs : List ℕ). with_taken (reading_of c.self.inside) xs) grown)
