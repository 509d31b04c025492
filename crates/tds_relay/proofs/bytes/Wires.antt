-- What is sent on a connection over calls, and what waits there then, is what waited and what was put.
use Rattle.std.proofs.Common.{◌≡◌, ◌∙◌, ◌++◌, ℕ, List, [], ◌∷◌, drop, take, sym, ap, append_assoc, append-nil}
use Rattle.std.proofs.lemmas.List.{take-append-drop}
use Rattle.tds_relay.specs.Law.{Wire, Fills, Sends, FollowOn, put_in, went_out}

pub goes_out : (waits last : List ℕ) (wires : List Wire) → FollowOn waits wires last → went_out waits wires ++ last ≡ waits ++ put_in wires
goes_out waits last [] f = sym f ∙ sym (append-nil waits)
goes_out waits last (Fills old new fills ∷ wires) f =
    goes_out new last wires f.1 ∙ ap (λ (xs : List ℕ). xs ++ put_in wires) (fills.1 ∙ ap (λ (xs : List ℕ). xs ++ fills.0) (sym f.0)) ∙ append_assoc waits fills.0 (put_in wires)
goes_out waits last (Sends count ∷ wires) f =
    append_assoc (take count waits) (went_out (drop count waits) wires) last
    ∙ ap (λ (xs : List ℕ). take count waits ++ xs) (goes_out (drop count waits) last wires f)
    ∙ sym (append_assoc (take count waits) (drop count waits) (put_in wires))
    ∙ ap (λ (xs : List ℕ). xs ++ put_in wires) (take-append-drop count waits)
