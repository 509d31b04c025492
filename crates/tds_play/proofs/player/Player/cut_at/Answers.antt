use Rattle.std.proofs.Common.{List, refl, subst, sym}
use Rattle.std.specs.Vec.{with_item}
use Rattle.tds_world.specs.Connection.{cut}
use Rattle.tds_world.specs.World.{put}
use Rattle.tds_play.specs.Plays.{RepresentConnections}
use Rattle.tds_play.specs.Pooled.{seat_in}
use Rattle.tds_play.specs.Seats.{Seated}
use Rattle.tds_play.proofs.pooled.Cutting.{cut_keeps, cut_played, cuts_at, is_cut_then, is_uncut, still_cut, unmoved, unmoved_keeps}
use Rattle.tds_play.proofs.pooled.Unseen.{read_at, tied_at}
use Rattle.tds_play.proofs.player.Player.cut_at.Goals as goal

-- ---- It was cut before

pub returns-then-link : goal.returns-then-link
returns-then-link g c =
    let old = c.args.self.now in
    let h = c.index_mut.result.now in
    let new = record old { links = with_item old.links c.args.place h } in
    let pipes = g.C.EventCarrier.pipes c.args.carrier.now in
    let same = unmoved c.args.place old new h c.requires.there c.index_mut.ensures.value refl refl in
    record {
      keeps = unmoved_keeps c.args.place old new h pipes _ c.requires.tied c.requires.held c.requires.there c.index_mut.ensures.value refl refl refl;
      cuts = record {
        was = h;
        now = h;
        at = read_at old.links.items c.args.place h c.requires.there c.index_mut.ensures.value;
        links = refl;
        cut = c.if-link.true;
        rest = refl;
      };
      refines = λ size engine cs m there all.
          subst (λ (ls : List (Seated g.row.E.Denot g.row.E-Stmt.Denot)). RepresentConnections 1 size engine ls pipes (put c.args.place (cut m) cs)) (sym same)
          (still_cut c.args.place old h pipes c.requires.tied c.requires.there c.index_mut.ensures.value c.if-link.true size engine cs m there all);
    }

-- ---- It is cut

pub cut-requires : goal.cut-requires
cut-requires g c =
    let old = c.args.self.now in
    let h = c.index_mut.result.now in
    let pipes = g.C.EventCarrier.pipes c.args.carrier.now in
    let tied = tied_at old c.args.place h pipes c.requires.tied (read_at old.links.items c.args.place h c.requires.there c.index_mut.ensures.value) in
    record { uncut = is_uncut (pipes h.link.number) (tied.holds c.if-link.false).is_open; server_reads = tied.server_reads; client_reads = tied.client_reads }

pub returns : goal.returns
returns g c =
    let old = c.args.self.now in
    let h = c.index_mut.result.now in
    let k = record h { link = c.cut.new.self } in
    let new = record old { links = with_item old.links c.args.place k; pool = c.lost.new.self } in
    let pipes = g.C.EventCarrier.pipes c.args.carrier.now in
    let pipes' = g.C.EventCarrier.pipes c.cut.new.carrier in
    let is = cuts_at c.args.place _ old new h k pipes c.requires.tied c.requires.there c.index_mut.ensures.value
    refl c.cut.ensures.value c.cut.ensures.number c.lost.ensures.shown c.lost.ensures.rest
    (record { engine_is = refl; max_is = refl; size_is = refl; told_is = refl }) refl refl in
    record {
      keeps = cut_keeps c.args.place old new h k pipes pipes' _ _ is c.cut.ensures.ties c.cut.ensures.still c.cut.ensures.failed c.requires.tied c.requires.held refl;
      cuts = record { was = h; now = k; at = is.at; links = refl; cut = is_cut_then c.args.place old new h k is; rest = refl };
      refines = λ size engine cs m there all.
          cut_played c.args.place old new h k pipes pipes' _ _ is c.cut.ensures.ties size engine cs m
          (λ was. c.cut.ensures.refines size engine (seat_in h old.pool) m was c.if-link.false) there all;
    }
