-- Walks inside a value, as plain values.
use Rattle.std.proofs.Common.{◌≡◌, ◌∙◌, ◌≤◌, ℕ, Bool, List, length, Option, Some, None, Ok, refl, sym, subst, arith}
use Rattle.std.specs.Prelude.{IsSome}
use Rattle.tds_wire.specs.declared.due.Due.TheVariants.{Run}
use Rattle.tds_wire.specs.declared.due.Inside.{Inside}
use Rattle.tds_wire.specs.declared.lent.LentWalk.{LentWalk}
use Rattle.tds_wire.specs.declared.memory.Memory.{Memory}
use Rattle.tds_wire.specs.Lent.{head_of, reading_of}
use Rattle.tds_wire.specs.Memory.{shape_of, walk_of}
use Rattle.tds_walk.specs.Wire.{code_of, due_from, inside_from, next_from, refusal_from, truth, walk_from}
use Rattle.tds_walk.specs.WireCalls.{Call, Feeds, FeedsBy}
use Rattle.tds_walk.specs.Within.{RunsOn, StaysInside, behind_piece, run_next}
use Rattle.tds_walk.specs.declared.token.TdsWireToken.{TdsWireToken}
use Rattle.tds_walk.specs.declared.walk.TdsWire.{TdsWire}
use Rattle.tds_walk.proofs.Runs.{feeds_inside, inside_same, kept_full, none_kept}
use Rattle.tds_walk.proofs.Walks.{found_in}

-- the walk that such a value is
abbrev run_walk : TdsWire → Inside → Bool → LentWalk
run_walk p i in_parts = record {
  cursor = record {
    at = record { due = Run p.due.left (run_next in_parts); kind = p.kind; inside = i; shape = shape_of p.shape; ciphered = truth p.ciphered; left = p.entries; parts = p.parts };
    most = p.most;
    features = record { encryption = truth p.encryption; ranks = truth p.ranks };
  };
  head = record { bytes = p.head; count = p.head_count };
  start = p.start;
  passed = p.passed;
  refused = None;
}

run_from : (p : TdsWire) (i : Inside) (in_parts : Bool) → p.due.due ≡ 2 → p.refused.fault ≡ 0 → inside_from p.inside ≡ Some i
    → next_from p.due.next (code_of p.due) ≡ Some (run_next in_parts) → walk_from p ≡ Some (run_walk p i in_parts)
unfolding walk_from due_from refusal_from
run_from p i in_parts due whole inside next = rw due (rw whole (rw inside (rw next refl)))

pub stays : (p : TdsWire) (left : ℕ) (in_parts : Bool) (piece : List ℕ) → p.due.due ≡ 2 → p.refused.fault ≡ 0 → 24 ≤ p.head_count → IsSome (inside_from p.inside) → length p.head ≡ 24
    → next_from p.due.next (code_of p.due) ≡ Some (run_next in_parts) → RunsOn p.due.left in_parts piece left
    → StaysInside p (behind_piece p left piece) piece
stays p left in_parts piece due whole head inside row next on =
    let (i, at) = found_in (inside_from p.inside) inside in
    let q : TdsWire = behind_piece p left piece in
    let w = run_walk p i in_parts in
    let u = run_walk q i in_parts in (
      w,
      u,
      run_from p i in_parts due whole at next,
      run_from q i in_parts due whole at next,
      λ (m : Memory).
          let r = reading_of w m in
          let v = walk_of u.cursor m in
          sym (inside_same v _ _ p.start _ (none_kept (head_of w.head) piece (kept_full w.head row head))
          ∙ feeds_inside r piece v refl (sym (on r.walk refl))),
    )

-- a call that found none of its token's end
abbrev within : TdsWire → TdsWire → Memory → List ℕ → TdsWireToken → Call
within p q m piece token = record {
  before = p;
  after = q;
  memory_before = m;
  memory_after = m;
  piece = piece;
  count = length piece;
  token_before = token;
  token_after = token;
  answer = 1;
}

pub fed_within : (p q : TdsWire) (m : Memory) (piece : List ℕ) (token : TdsWireToken) → StaysInside p q piece → Feeds (within p q m piece token)
fed_within p q m piece token so =
    subst (λ (o : Option LentWalk). FeedsBy o (within p q m piece token)) (sym so.2)
    (so.1, Ok (record { count = length piece; token = None }), so.3, sym (so.4 m), omega arith, (refl, (refl, refl)))
