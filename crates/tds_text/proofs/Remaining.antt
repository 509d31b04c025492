-- The lines that are left of a list, the next one first.
use Rattle.std.proofs.Common.{◌≡◌, ◌<◌, ◌+◌, ℕ, zero, suc, List, [], ◌∷◌, ◌++◌, length, drop, get_or, refl, ap, sym, arith}
use Rattle.std.specs.List.{flat_map}
use Rattle.std.proofs.lemmas.List.{drop_more}
use Rattle.tds_world.specs.declared.report.EventReport.{EventReport}
use Rattle.tds_world.specs.declared.report.RequestReport.{RequestReport}
use Rattle.tds_text.specs.Lines.{event_line, event_lines, request_block, request_blocks, last_snapshots}

pub events_left : (es : List EventReport) (i : ℕ) (x : EventReport) → i < length es → x ≡ get_or es i x
    → event_lines (i + 1) (drop i es) ≡ event_line (i + 1) x ++ event_lines (i + 1 + 1) (drop (i + 1) es)
events_left es i x h e = rw (drop_more es i x h, ← e) refl

pub requests_left : (qs : List RequestReport) (i : ℕ) (x : RequestReport) → i < length qs → x ≡ get_or qs i x
    → request_blocks (i + 1) (drop i qs) ≡ request_block (i + 1) x ++ request_blocks (i + 1 + 1) (drop (i + 1) qs)
requests_left qs i x h e = rw (drop_more qs i x h, ← e) refl

pub pieces_left : {A : Type 0} (f : A → List ℕ) (xs : List A) (i : ℕ) (x : A) → i < length xs → x ≡ get_or xs i x
    → flat_map f (drop i xs) ≡ f x ++ flat_map f (drop (i + 1) xs)
pieces_left f xs i x h e = rw (drop_more xs i x h, ← e) refl

-- the snapshots of the last event
pub last_of : (es : List EventReport) (n : ℕ) (x : EventReport) → n + 1 ≡ length es → x ≡ get_or es n x → last_snapshots es ≡ x.snapshots
last_of [] n x h e = absurd (omega arith)
last_of (e ∷ []) zero x h p = ap (λ (r : EventReport). r.snapshots) (sym p)
last_of (e ∷ []) (suc n) x h p = absurd (omega arith)
last_of (e ∷ f ∷ es) zero x h p = absurd (omega arith)
last_of (e ∷ f ∷ es) (suc n) x h p = last_of (f ∷ es) n x (omega arith) p
