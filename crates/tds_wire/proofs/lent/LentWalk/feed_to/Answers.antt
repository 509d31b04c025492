use Rattle.std.proofs.Common.{rules, refl, ◌≡◌, ◌∙◌, ◌<◌, ap, sym, drop}
use Rattle.std.specs.Prelude.{None, min}
use Rattle.tds_wire.specs.declared.lent.LentWalk.{LentWalk}
use Rattle.tds_wire.specs.declared.told.Token.{Token}
use Rattle.tds_wire.specs.Told.{added}
use Rattle.tds_wire.specs.Memory.{walk_of}
use Rattle.tds_wire.specs.Lent.{reading_of}
use Rattle.tds_wire.specs.Reading.{Parser, Refuses, next_token}
use Rattle.tds_wire.proofs.Agreed.{keeps_over, keeps_within}
use Rattle.tds_wire.proofs.Feeding.{feeds_refusal, feeds_over, feeds_inside, feeds_fault, inside_same, sees_same}
use Rattle.tds_wire.proofs.lent.LentWalk.feed_to.Goals as goal

pub returns-in-Some-clause-exact : goal.returns-in-Some-clause-exact
returns-in-Some-clause-exact c = feeds_refusal (reading_of c.args.self.now c.args.memory.now) c.args.piece.now c.in-Some.refusal c.in-Some.is

pub returns-in-Over-clause-exact : goal.returns-in-Over-clause-exact
returns-in-Over-clause-exact c =
    let none : c.pass_row_here-count.result ≡ 0 = search rules in
    let same = c.pass_row_here-count.ensures.same none in
    let e : c.pass_row_here-count.new.self.refused ≡ None = ap (λ (x : LentWalk). x.refused) same ∙ search rules in
    sees_same _ _ _ _ (drop c.in-Over.count c.args.piece.now) (c.end_token.ensures.token c.feed.new.memory) (c.end_token.ensures.state c.feed.new.memory)
    ∙ feeds_over (reading_of c.pass_row_here-count.new.self c.args.memory.now) c.args.piece.now (walk_of c.feed.new.self c.feed.new.memory) c.in-Over.count e c.in-Over.ensures.within c.in-Over.ensures.exact
    ∙ ap (λ (x : LentWalk). next_token (reading_of x c.args.memory.now) c.args.piece.now) same

pub returns-in-Within-clause-exact : goal.returns-in-Within-clause-exact
returns-in-Within-clause-exact c =
    let none : c.pass_row_here-count.result ≡ 0 = search rules in
    let same = c.pass_row_here-count.ensures.same none in
    let e : c.pass_row_here-count.new.self.refused ≡ None = ap (λ (x : LentWalk). x.refused) same ∙ search rules in
    inside_same (walk_of c.feed.new.self c.feed.new.memory) _ _ c.pass_row_here-count.new.self.start _ _ c.pass_row_here-count.new.self.refused c.keep.ensures (search rules) e
    ∙ feeds_inside (reading_of c.pass_row_here-count.new.self c.args.memory.now) c.args.piece.now (walk_of c.feed.new.self c.feed.new.memory) e c.in-Within.ensures.exact
    ∙ ap (λ (x : LentWalk). next_token (reading_of x c.args.memory.now) c.args.piece.now) same

pub returns-in-Failed-clause-exact : goal.returns-in-Failed-clause-exact
returns-in-Failed-clause-exact c =
    let none : c.pass_row_here-count.result ≡ 0 = search rules in
    let same = c.pass_row_here-count.ensures.same none in
    let e : c.pass_row_here-count.new.self.refused ≡ None = ap (λ (x : LentWalk). x.refused) same ∙ search rules in
    ap Refuses (c.refuse.ensures.refusal c.feed.new.memory)
    ∙ feeds_fault (reading_of c.pass_row_here-count.new.self c.args.memory.now) c.args.piece.now c.in-Failed.fault c.in-Failed.count e c.in-Failed.ensures.within c.in-Failed.ensures.exact
    ∙ ap (λ (x : LentWalk). next_token (reading_of x c.args.memory.now) c.args.piece.now) same

pub returns-in-Over-clause-most : goal.returns-in-Over-clause-most
returns-in-Over-clause-most c =
    ap (λ (r : Parser). r.walk.most) (c.end_token.ensures.state c.feed.new.memory)
    ∙ (keeps_over (walk_of c.pass_row_here-count.new.self.cursor c.args.memory.now) (walk_of c.feed.new.self c.feed.new.memory) c.args.piece.now _ c.in-Over.ensures.exact).0
    ∙ ap (min 4096) c.pass_row_here-count.ensures.most

pub returns-in-Within-clause-most : goal.returns-in-Within-clause-most
returns-in-Within-clause-most c =
    (keeps_within (walk_of c.pass_row_here-count.new.self.cursor c.args.memory.now) (walk_of c.feed.new.self c.feed.new.memory) c.args.piece.now c.in-Within.ensures.exact).0
    ∙ ap (min 4096) c.pass_row_here-count.ensures.most

pub returns-in-Over-clause-features : goal.returns-in-Over-clause-features
returns-in-Over-clause-features c =
    ap (λ (r : Parser). r.walk.features) (c.end_token.ensures.state c.feed.new.memory)
    ∙ (keeps_over (walk_of c.pass_row_here-count.new.self.cursor c.args.memory.now) (walk_of c.feed.new.self c.feed.new.memory) c.args.piece.now _ c.in-Over.ensures.exact).1
    ∙ c.pass_row_here-count.ensures.features

pub returns-in-Within-clause-features : goal.returns-in-Within-clause-features
returns-in-Within-clause-features c =
    (keeps_within (walk_of c.pass_row_here-count.new.self.cursor c.args.memory.now) (walk_of c.feed.new.self c.feed.new.memory) c.args.piece.now c.in-Within.ensures.exact).1
    ∙ c.pass_row_here-count.ensures.features

pub returns-in-Over-clause-start : goal.returns-in-Over-clause-start
returns-in-Over-clause-start c =
    ap (λ (r : Parser). r.start) (c.end_token.ensures.state c.feed.new.memory)
    ∙ sym (ap (λ (t : Token). added t.start t.length) (c.end_token.ensures.token c.feed.new.memory))

pub returns-then-count-gt0-clause-exact : goal.returns-then-count-gt0-clause-exact
returns-then-count-gt0-clause-exact c =
    let some : 0 < c.pass_row_here-count.result = search rules in
    sees_same _ _ _ _ (drop c.pass_row_here-count.result c.args.piece.now) (c.row_token.ensures (reading_of c.args.self.now c.args.memory.now) refl) refl
    ∙ sym (c.pass_row_here-count.ensures.row some)

pub returns-then-count-gt0-clause-start : goal.returns-then-count-gt0-clause-start
returns-then-count-gt0-clause-start c =
    let some : 0 < c.pass_row_here-count.result = search rules in
    c.pass_row_here-count.ensures.start some
    ∙ sym (ap (λ (t : Token). added t.start t.length) (c.row_token.ensures (reading_of c.args.self.now c.args.memory.now) refl))
