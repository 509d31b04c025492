-- Reports of one event or one request.
use Rattle.std.proofs.Common.{◌≡◌, ℕ, List, [], ◌∷◌, ◌++◌, take, ap, arith, append-nil}
use Rattle.std.specs.List.{flat_map}
use Rattle.tds_text.specs.Lines.{request_block, request_head, request_line}
use Rattle.tds_trace.specs.Lines.{json_char, line_text}
use Rattle.tds_world.specs.declared.report.RequestReport.{RequestReport}

-- behind the line of an event of six characters
pub behind_a_cut : (line : List ℕ) → line_text 6 (49 ∷ 32 ∷ 99 ∷ 117 ∷ 116 ∷ 10 ∷ line) ≡ line_text 0 line
behind_a_cut line = ap (λ (n : ℕ). 34 ∷ (flat_map json_char (take n line) ++ 34 ∷ [])) (omega arith)

-- a request without its tokens has its first line alone
pub without_tokens : (q : RequestReport) → request_block 1 (record {
  lease = q.lease;
  conn = q.conn;
  status = q.status;
  ran = q.ran;
  tokens = [];
}) ≡ request_line 1 q
unfolding request_head
without_tokens q = append-nil (request_line 1 q)
