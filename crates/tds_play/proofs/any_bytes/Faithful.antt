-- Where what came is the first of what was handed over, it was so before each call of a carrier.
use Rattle.std.proofs.Common.{◌≡◌, ◌≤◌, ◌∙◌, ℕ, zero, suc, ◌+◌, List, [], ◌∷◌, ◌++◌, length, take, drop, Option, Some, None, eqb, sym, ap, refl, subst, length-append, arith}
use Rattle.std.proofs.Math.Seq.{take-append_seam, drop-append_seam}
use Rattle.std.proofs.lemmas.List.{drop-take, take-append-le}
use Rattle.tds_packet.specs.declared.kind.Direction.{Direction}
use Rattle.tds_packet.specs.declared.kind.Direction.TheVariants.{ToServer, ToClient}
use Rattle.tds_play.specs.Pipe.{AreFaithfulTo, AreSame, IsFaithful, Pipe, carried_on, cut_pipe, sent_on, stuck_on, traffic}
use Rattle.tds_play.specs.Ties.{Holds}
use Rattle.tds_play.proofs.Listed.{by_test, is_at, is_other}

-- ---- Lists

take_front : (n k : ℕ) (xs : List ℕ) → n ≤ k → take n (take k xs) ≡ take n xs
take_front zero k xs less = refl
take_front (suc n) zero xs less = absurd (omega (arith, less))
take_front (suc n) (suc k) [] less = refl
take_front (suc n) (suc k) (x ∷ xs) less = ap (λ (ys : List ℕ). x ∷ ys) (take_front n k xs (omega (arith, less)))

-- The first of what came.
front_in : (came bytes handed : List ℕ) → came ++ bytes ≡ take (length (came ++ bytes)) handed → came ≡ take (length came) handed
front_in came bytes handed f =
    sym (take-append_seam came bytes)
    ∙ ap (take (length came)) (f ∙ ap (λ (n : ℕ). take n handed) (length-append came bytes))
    ∙ take_front (length came) (length came + length bytes) handed (omega arith)

-- What came behind it.
next_in : (came bytes handed : List ℕ) → came ++ bytes ≡ take (length (came ++ bytes)) handed → bytes ≡ take (length bytes) (drop (length came) handed)
next_in came bytes handed f =
    sym (drop-append_seam came bytes)
    ∙ ap (drop (length came)) (f ∙ ap (λ (n : ℕ). take n handed) (length-append came bytes))
    ∙ drop-take (length came) (length bytes) handed

-- ---- Calls

-- No more came than was handed over.
pub no_more_came : (up down : ℕ) (p : Option Pipe) → Holds up down p → (d : Direction) → length (traffic p d).came ≤ length (traffic p d).handed
no_more_came up down p h ToServer = let within = h.to_server in omega (arith, within)
no_more_came up down p h ToClient = let within = h.to_client in omega (arith, within)

pub sent_faithful : (p : Option Pipe) (d : Direction) (bytes : List ℕ) (failures : ℕ) → ((e : Direction) → length (traffic p e).came ≤ length (traffic p e).handed) → IsFaithful (sent_on p d bytes failures) → IsFaithful p
sent_faithful None d bytes failures few f e = f e
sent_faithful (Some p) ToServer bytes failures few f ToServer = f ToServer ∙ take-append-le (length p.to_server.came) p.to_server.handed bytes (few ToServer)
sent_faithful (Some p) ToServer bytes failures few f ToClient = f ToClient
sent_faithful (Some p) ToClient bytes failures few f ToServer = f ToServer
sent_faithful (Some p) ToClient bytes failures few f ToClient = f ToClient ∙ take-append-le (length p.to_client.came) p.to_client.handed bytes (few ToClient)

pub carried_faithful : (p : Option Pipe) (d : Direction) (bytes : List ℕ) → IsFaithful (carried_on p d bytes) → IsFaithful p
carried_faithful None d bytes f e = f e
carried_faithful (Some p) ToServer bytes f ToServer = front_in p.to_server.came bytes p.to_server.handed (f ToServer)
carried_faithful (Some p) ToServer bytes f ToClient = f ToClient
carried_faithful (Some p) ToClient bytes f ToServer = f ToServer
carried_faithful (Some p) ToClient bytes f ToClient = front_in p.to_client.came bytes p.to_client.handed (f ToClient)

-- What came is the next of what was handed over.
carried_next : (p : Pipe) (d : Direction) (bytes : List ℕ) → IsFaithful (carried_on (Some p) d bytes) → bytes ≡ take (length bytes) (drop (length (traffic (Some p) d).came) (traffic (Some p) d).handed)
carried_next p ToServer bytes f = next_in p.to_server.came bytes p.to_server.handed (f ToServer)
carried_next p ToClient bytes f = next_in p.to_client.came bytes p.to_client.handed (f ToClient)

pub next_came : (up down : ℕ) (p : Option Pipe) (d : Direction) (bytes : List ℕ) → Holds up down p → IsFaithful (carried_on p d bytes) → bytes ≡ take (length bytes) (drop (length (traffic p d).came) (traffic p d).handed)
next_came up down None d bytes h f = absurd h.is_open
next_came up down (Some p) d bytes h f = carried_next p d bytes f

pub stuck_faithful : (p : Option Pipe) (d : Direction) → IsFaithful (stuck_on p d) → IsFaithful p
stuck_faithful None d f e = f e
stuck_faithful (Some p) ToServer f ToServer = f ToServer
stuck_faithful (Some p) ToServer f ToClient = f ToClient
stuck_faithful (Some p) ToClient f ToServer = f ToServer
stuck_faithful (Some p) ToClient f ToClient = f ToClient

pub cut_faithful : (p : Option Pipe) → IsFaithful (cut_pipe p) → IsFaithful p
cut_faithful None f e = f e
cut_faithful (Some p) f ToServer = f ToServer
cut_faithful (Some p) f ToClient = f ToClient

-- ---- All connections

-- One connection changes, and no other.
pub one_faithful : (conn : ℕ) (pipes pipes' : ℕ → Option Pipe) → AreSame pipes pipes' conn → (IsFaithful (pipes' conn) → IsFaithful (pipes conn)) → (n : ℕ) → IsFaithful (pipes' n) → IsFaithful (pipes n)
one_faithful conn pipes pipes' same here n =
    by_test (IsFaithful (pipes' n) → IsFaithful (pipes n)) (eqb n conn)
    (λ t. subst (λ (k : ℕ). IsFaithful (pipes' k) → IsFaithful (pipes k)) (sym (is_at n conn t)) here)
    (λ t. subst IsFaithful (same n (is_other n conn t)))

pub faithful_to : (conn : ℕ) (pipes pipes' : ℕ → Option Pipe) → AreSame pipes pipes' conn → (IsFaithful (pipes' conn) → IsFaithful (pipes conn)) → (count : ℕ) → AreFaithfulTo count pipes' → AreFaithfulTo count pipes
faithful_to conn pipes pipes' same here count all place less = one_faithful conn pipes pipes' same here (suc place) (all place less)
