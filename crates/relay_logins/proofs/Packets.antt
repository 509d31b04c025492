-- A login's packets, one by one.
use Rattle.std.proofs.Common.{◌≡◌, ◌≤◌, ◌∙◌, ℕ, zero, suc, List, [], ◌∷◌, ◌++◌, length, take, drop, arith, refl, ap, sym, min}
use Rattle.std.proofs.lemmas.List.{append_assoc, append-nil, length-drop, take_min}
use Rattle.relay_logins.specs.Sending.{login_packets, packet, packet_of, packets_of, status_before}

-- more than as many as there are bytes are none
enough : (one other : ℕ) (bytes : List ℕ) → length bytes ≤ one → length bytes ≤ other → packets_of one bytes ≡ packets_of other bytes
unfolding packets_of
enough zero zero bytes h k = refl
enough zero (suc other) [] h k = refl
enough zero (suc other) (byte ∷ bytes) h k = absurd (omega (arith, h))
enough (suc one) zero [] h k = refl
enough (suc one) zero (byte ∷ bytes) h k = absurd (omega (arith, k))
enough (suc one) (suc other) [] h k = refl
enough (suc one) (suc other) (byte ∷ bytes) h k =
    ap (λ l. packet_of (byte ∷ bytes) ++ l)
    (enough one other (drop 4088 (byte ∷ bytes)) (omega (arith, h, length-drop 4088 (byte ∷ bytes))) (omega (arith, k, length-drop 4088 (byte ∷ bytes))))

-- the first packet, and those of the rest
first_packet : (bytes : List ℕ) → 1 ≤ length bytes → login_packets bytes ≡ packet_of bytes ++ login_packets (drop 4088 bytes)
unfolding packets_of
first_packet [] h = absurd (omega (arith, h))
first_packet (byte ∷ bytes) h =
    ap (λ l. packet_of (byte ∷ bytes) ++ l)
    (enough (length bytes) (length (drop 4088 (byte ∷ bytes))) (drop 4088 (byte ∷ bytes)) (omega (arith, length-drop 4088 (byte ∷ bytes))) (omega arith))

next_packet : (old new bytes : List ℕ) → 1 ≤ length bytes → new ≡ old ++ packet_of bytes
    → new ++ login_packets (drop 4088 bytes) ≡ old ++ login_packets bytes
next_packet old new bytes h is =
    ap (λ l. l ++ login_packets (drop 4088 bytes)) is ∙ append_assoc old (packet_of bytes) (login_packets (drop 4088 bytes))
    ∙ ap (λ l. old ++ l) (sym (first_packet bytes h))

drop_min : (n : ℕ) (bytes : List ℕ) → drop (min n (length bytes)) bytes ≡ drop n bytes
drop_min zero bytes = let on : min zero (length bytes) ≡ zero = omega arith in ap (λ k. drop k bytes) on
drop_min (suc n) [] = let on : min (suc n) 0 ≡ zero = omega arith in ap (λ k. drop k []) on
drop_min (suc n) (byte ∷ bytes) = let on : min (suc n) (length (byte ∷ bytes)) ≡ suc (min n (length bytes)) = omega arith in ap (λ k. drop k (byte ∷ bytes)) on ∙ drop_min n bytes

-- the same, where the bytes were split behind this many
pub put_next : (old new bytes front back : List ℕ) (status count : ℕ) → 1 ≤ length bytes → count ≡ min 4088 (length bytes) → front ≡ take count bytes → back ≡ drop count bytes
    → status ≡ status_before bytes → new ≡ old ++ packet status front → new ++ login_packets back ≡ old ++ login_packets bytes
put_next old new bytes front back status count h few is rest said put =
    let first = is ∙ ap (λ n. take n bytes) few ∙ take_min 4088 bytes in
    let others = rest ∙ ap (λ n. drop n bytes) few ∙ drop_min 4088 bytes in
    ap (λ l. new ++ login_packets l) others ∙ next_packet old new bytes h (put ∙ ap (λ s. old ++ packet s front) said ∙ ap (λ l. old ++ packet (status_before bytes) l) first)

pub no_packet : (out bytes : List ℕ) → length bytes ≡ 0 → out ++ login_packets bytes ≡ out
unfolding packets_of
no_packet out [] h = append-nil out
no_packet out (byte ∷ bytes) h = absurd (omega (arith, h))
