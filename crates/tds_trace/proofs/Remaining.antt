-- The lines that are left, the next one first.
use Rattle.std.proofs.Common.{◌≡◌, ◌<◌, ◌+◌, ℕ, List, ◌++◌, length, drop, get_or, refl}
use Rattle.std.proofs.lemmas.List.{drop_more}
use Rattle.tds_world.specs.declared.report.EventReport.{EventReport}
use Rattle.tds_world.specs.declared.report.RequestReport.{RequestReport}
use Rattle.tds_trace.specs.declared.call.Call.{Call}
use Rattle.tds_trace.specs.Lines.{calls_of, event_json, event_lines, request_json, request_lines}

pub events_left : (es : List EventReport) (calls : List Call) (i : ℕ) (x : EventReport) → i < length es → x ≡ get_or es i x
    → event_lines (i + 1) (drop i es) calls
    ≡ event_json (i + 1) x ++ calls_of (i + 1) calls ++ event_lines (i + 1 + 1) (drop (i + 1) es) calls
events_left es calls i x h e = rw (drop_more es i x h, ← e) refl

pub requests_left : (qs : List RequestReport) (i : ℕ) (x : RequestReport) → i < length qs → x ≡ get_or qs i x
    → request_lines (i + 1) (drop i qs) ≡ request_json (i + 1) x ++ request_lines (i + 1 + 1) (drop (i + 1) qs)
requests_left qs i x h e = rw (drop_more qs i x h, ← e) refl
