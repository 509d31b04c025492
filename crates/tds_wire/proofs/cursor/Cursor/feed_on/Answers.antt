use Rattle.tds_wire.specs.Memory.{walk_of}
use Rattle.std.proofs.Common.{rules, sym, ◌∙◌, ◌≡◌, length}
use Rattle.tds_wire.proofs.Walks.{onward_failing, end_between, end_going, end_failing, turned, nothing_left}
use Rattle.tds_wire.proofs.cursor.Cursor.feed_on.Goals as goal

pub returns-in-Failing-clause-exact : goal.returns-in-Failing-clause-exact
returns-in-Failing-clause-exact c = sym (onward_failing (walk_of c.args.self.now c.args.memory.now) c.args.piece.now c.in-Failing.fault (sym c.standing.ensures.due ∙ c.in-Failing.is))

pub returns-in-Between : goal.returns-in-Between
returns-in-Between c =
    let t = turned (walk_of c.bytes.self c.bytes.memory) (walk_of c.advance-done.new.self c.advance-done.new.memory) c.args.piece.now c.bytes.done c.advance-done.result c.advance-done.ensures.exact in
    let s = sym c.standing-in-bytes.ensures.due ∙ c.in-Between.is in
    record {
      within = search rules;
      moves = search rules;
      ends = c.standing-in-bytes.ensures.between c.in-Between.is;
      exact = sym (c.bytes.invariant.does ∙ (t ∙ end_between _ _ s));
    }

pub bytes-preserved : goal.bytes-preserved
bytes-preserved c =
    let t = turned (walk_of c.bytes.self c.bytes.memory) (walk_of c.advance-done.new.self c.advance-done.new.memory) c.args.piece.now c.bytes.done c.advance-done.result c.advance-done.ensures.exact in
    let s = sym c.standing-in-bytes.ensures.due ∙ c.in-Going.is in
    record {
      does = c.bytes.invariant.does ∙ (t ∙ end_going _ _ s);
      within = search rules;
      on = λ fault e. let x = sym s ∙ e in absurd cc;
    }

pub returns-in-Failing-standing : goal.returns-in-Failing-standing
returns-in-Failing-standing c =
    let t = turned (walk_of c.bytes.self c.bytes.memory) (walk_of c.advance-done.new.self c.advance-done.new.memory) c.args.piece.now c.bytes.done c.advance-done.result c.advance-done.ensures.exact in
    let s = sym c.standing-in-bytes.ensures.due ∙ c.in-Failing-standing.is in
    record {
      within = search rules;
      moves = tt;
      ends = tt;
      exact = sym (c.bytes.invariant.does ∙ (t ∙ end_failing _ _ c.in-Failing-standing.fault s));
    }

pub returns : goal.returns
returns c =
    let e : c.bytes.done ≡ length c.args.piece.now = search rules in
    record {
      within = tt;
      moves = tt;
      ends = tt;
      exact = sym (c.bytes.invariant.does ∙ nothing_left (walk_of c.bytes.self c.bytes.memory) c.args.piece.now c.bytes.done e c.bytes.invariant.on);
    }
