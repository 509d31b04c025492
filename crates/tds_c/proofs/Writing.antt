-- Bytes behind those that stand at a buffer's front.
use Rattle.std.proofs.Common.{◌≡◌, ℕ, ◌+◌, ◌*◌, ◌<◌, List, [], ◌∷◌, ◌++◌, length, take, get_or, refl, ap, ◌∙◌, append_assoc, arith}
use Rattle.std.proofs.lemmas.List.{take_more}
use Rattle.std.proofs.lemmas.Grind.{flat_map-append}
use Rattle.std.specs.Int.{w16, to_le_bytes}
use Rattle.tds_request.specs.Layout.{text_bytes}
use Rattle.tds_c.specs.Calls.{with_front}

-- a text's bytes are two a unit
pub two_each : (text : List ℕ) → length (text_bytes text) ≡ 2 * length text
two_each [] = refl
two_each (unit ∷ others) = omega (arith, two_each others)

one_more : (text : List ℕ) (i : ℕ) → i < length text → text_bytes (take (i + 1) text) ≡ text_bytes (take i text) ++ to_le_bytes w16 (get_or text i 0)
one_more text i within =
    ap text_bytes (take_more text i 0 within) ∙ flat_map-append (λ (u : ℕ). to_le_bytes w16 u) (take i text) (get_or text i 0 ∷ [])

-- one unit more stands behind the front
pub unit_on : (front buffer new text : List ℕ) (i : ℕ) → i < length text → new ≡ with_front ((front ++ text_bytes (take i text)) ++ to_le_bytes w16 (get_or text i 0)) buffer
    → new ≡ with_front (front ++ text_bytes (take (i + 1) text)) buffer
unit_on front buffer new text i within h =
    rw (one_more text i within) (h ∙ ap (λ (bytes : List ℕ). with_front bytes buffer) (append_assoc front (text_bytes (take i text)) (to_le_bytes w16 (get_or text i 0))))
