use Rattle.std.proofs.Common.{◌≡◌, ◌++◌, map, option_map, drop}
use Rattle.tds_session.specs.Language.{statements_of, statement_of, each_of}
use Rattle.tds_session.proofs.parsing.parse_text.Given as goal

-- the statements so far and those of the pieces that are left
abbrev pub invariant-loop-piece : goal.invariant-loop-piece
invariant-loop-piece l =
    option_map (λ others. l.statements.items ++ others) (each_of (map (λ piece. statement_of piece.now) (drop l.piece-index l.piece-items))) ≡ statements_of l.text
