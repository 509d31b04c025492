-- What is put of a request, and that it has gone on.
use Rattle.std.proofs.Common.{◌≡◌, ◌∙◌, ◌++◌, ◌+◌, ◌==◌, length, ℕ, Bool, true, false, List, [], ◌∷◌, Option, Some, None, inl, inr, refl, sym, ap, subst, option_map, append-nil}
use Rattle.tds_packet.specs.declared.kind.Kind.{Kind}
use Rattle.tds_packet.specs.declared.kind.Kind.TheVariants as kinds
use Rattle.tds_front.specs.declared.stage.Stage.{Stage}
use Rattle.tds_front.specs.declared.stage.Stage.TheVariants as stages
use Rattle.tds_front.specs.Rules as rules
use Rattle.tds_packet.specs.Resets.{reset_bit}
use Rattle.tds_packet.specs.Sent.{end_bit}
use Rattle.tds_client.specs.Packets.{packet_bytes}
use Rattle.tds_service.specs.Line as line
use Rattle.tds_service.specs.Line.{Packet}
use Rattle.tds_service.specs.Ties.{Appends, IsBytes}
use Rattle.tds_relay.specs.Pool as pool
use Rattle.tds_relay.specs.Pool.{Action, Pool, turn}
use Rattle.tds_relay.specs.Fronts.{MayPut, PutsOn, goes_by, core_of_ends, puts}
use Rattle.tds_relay.specs.Core.{End, EndList, Core, IfOpen, IsBegun, IsPut, HasWholeRequest, MayDo, Moves, Open, Over, Sends, change_end, end_at, end_goes_on, move_stage, sent_by}
use Rattle.tds_relay.specs.Ties.{Cause, Turns}
use Rattle.tds_relay.proofs.steps.Fronts.{changed_alike, changed_at, changed_both, changed_not, moves_one, moves_same, same_core}

-- ---- Packets have bytes

went_twice : (stage : Stage) → rules.request_went_on (rules.request_went_on stage) ≡ rules.request_went_on stage
went_twice stages.Quiet = refl
went_twice (stages.Receiving kind gone) = refl
went_twice (stages.Underway gone) = refl
went_twice stages.Stopping = refl
went_twice (stages.Broken fault) = refl

gone_twice : (e : End) → move_stage rules.request_went_on (move_stage rules.request_went_on e) ≡ move_stage rules.request_went_on e
gone_twice (Open front withdrawn asks) = ap (λ (s : Stage). Open (record front { stage = s }) withdrawn asks) (went_twice front.stage)
gone_twice (Over why) = refl

gone_by : (bytes : List ℕ) (e : End) → move_stage rules.request_went_on (goes_by bytes e) ≡ move_stage rules.request_went_on e
gone_by [] e = refl
gone_by (byte ∷ bytes) e = gone_twice e

-- there is one
record HasFirst (bytes : List ℕ) : Type 0 where
  first : ℕ
  others : List ℕ
  are : bytes ≡ first ∷ others

packet_has : (kind : Kind) (status before : ℕ) (content bytes : List ℕ) → bytes ≡ packet_bytes kind status before content → HasFirst bytes
packet_has kind status before content bytes is = record { first = _; others = _; are = is }

has_first : (packet : Packet) (bytes : List ℕ) → IsBytes packet bytes → HasFirst bytes
has_first (line.OfRequest request first reset last) bytes (kind, before, content, counted, is) = packet_has kind (end_bit last + reset_bit reset) before content bytes is
has_first (line.Ignore request) bytes (kind, before, is) = packet_has kind 3 before [] bytes is
has_first line.Attention bytes h = packet_has kinds.Attention 1 0 [] bytes h

by_first : (before bytes : List ℕ) (e : End) → HasFirst bytes → move_stage rules.request_went_on e ≡ goes_by (before ++ bytes) e
by_first (b ∷ before) bytes e h = refl
by_first [] bytes e h = ap (λ (xs : List ℕ). goes_by xs e) (sym h.are)

first_more : (front rest : List ℕ) → HasFirst front → HasFirst (front ++ rest)
first_more front rest h = record { first = h.first; others = h.others ++ rest; are = ap (λ (xs : List ℕ). xs ++ rest) h.are }

-- where packets went out there are bytes, and none where none did
goes_same : (packets : List Packet) (before after : List ℕ) (e : End) → Appends packets before after → end_goes_on packets (goes_by before e) ≡ goes_by after e
goes_same [] before after e (more, is, none) = ap (λ (xs : List ℕ). goes_by xs e) (sym (is ∙ ap (λ (xs : List ℕ). before ++ xs) none ∙ append-nil before))
goes_same (packet ∷ packets) before after e (more, is, (front, rest, split, bytes, others)) =
    let has : HasFirst more = subst HasFirst (sym split) (first_more front rest (has_first packet front bytes)) in
    gone_by before e ∙ by_first before more e has ∙ ap (λ (xs : List ℕ). goes_by xs e) (sym is)

-- where there are bytes
pub gone_where : (bytes : List ℕ) (b : Bool) (e : End) → b ≡ (length bytes == 0) → b ≡ false → move_stage rules.request_went_on e ≡ goes_by bytes e
gone_where [] b e is some = absurd (let u : ⊥ = cc in u)
gone_where (byte ∷ bytes) b e is some = refl

-- ---- What may be put

begun : (whole : Bool) (stage : Stage) → puts whole stage → IsBegun stage
begun false stage h = h
begun true stages.Quiet h = h
begun true (stages.Receiving kind gone) h = tt
begun true (stages.Underway gone) h = tt
begun true stages.Stopping h = h
begun true (stages.Broken fault) h = h

begun_end : (whole : Bool) (o : Option End) → IfOpen (puts whole) o → IfOpen IsBegun o
begun_end whole None h = tt
begun_end whole (Some (Open front withdrawn asks)) h = begun whole front.stage h
begun_end whole (Some (Over why)) h = tt

whole_on : (stage : Stage) → HasWholeRequest stage → HasWholeRequest (rules.request_went_on stage)
whole_on stages.Quiet h = h
whole_on (stages.Receiving kind gone) h = h
whole_on (stages.Underway gone) h = tt
whole_on stages.Stopping h = h
whole_on (stages.Broken fault) h = h

whole_end : (packets : List Packet) (o : Option End) → IfOpen HasWholeRequest o → IfOpen HasWholeRequest (option_map (end_goes_on packets) o)
whole_end packets None h = tt
whole_end [] (Some (Open front withdrawn asks)) h = h
whole_end (p ∷ ps) (Some (Open front withdrawn asks)) h = whole_on front.stage h
whole_end [] (Some (Over why)) h = tt
whole_end (p ∷ ps) (Some (Over why)) h = tt

-- ---- What was put

-- one action, with what goes out
moves_sends : (by : Cause) (from : Core) (d d1 : Pool) (es : EndList) (key : ℕ) (action : Action) (before after : List ℕ)
    → Turns (pool.Does key action) d d1 before after → IsPut action → MayDo action (end_at es key) → Moves by from (core_of_ends d es)
    → Moves by from (core_of_ends d1 (change_end key (end_goes_on (sent_by d (pool.Does key action))) es))
moves_sends by from d d1 es key action before after t put may m =
    subst (Moves by from)
    (same_core (turn d (pool.Does key action)).pool d1 (change_end key (end_goes_on (sent_by d (pool.Does key action))) es) _ t.pool_is refl)
    (moves_one by from (core_of_ends d es) (Sends key action) (put, may) tt tt m)

-- from nothing that waited
gone_once : (packets : List Packet) (after : List ℕ) (es : EndList) (key : ℕ) → Appends packets [] after → change_end key (end_goes_on packets) es ≡ change_end key (goes_by after) es
gone_once packets after es key a = changed_alike es key (end_goes_on packets) (goes_by after) (λ e. goes_same packets [] after e a)

gone_then : (packets others : List Packet) (between after : List ℕ) (es : EndList) (key : ℕ) → Appends packets [] between → Appends others between after
    → change_end key (end_goes_on others) (change_end key (end_goes_on packets) es) ≡ change_end key (goes_by after) es
gone_then packets others between after es key a b =
    changed_both es key (end_goes_on others) (end_goes_on packets)
    ∙ changed_alike es key (λ e. end_goes_on others (end_goes_on packets e)) (goes_by after)
    (λ e. ap (end_goes_on others) (goes_same packets [] between e a) ∙ goes_same others between after e b)

moves_both_puts : (by : Cause) (from : Core) (d d1 : Pool) (es : EndList) (key : ℕ) (whole : Bool) (after : List ℕ)
    → PutsOn key d d1 [] after whole → IfOpen (puts whole) (end_at es key) → Moves by from (core_of_ends d es) → Moves by from (core_of_ends d1 (change_end key (goes_by after) es))
moves_both_puts by from d d1 es key whole after p may m =
    let first : Action = pool.Puts p.count in
    let es1 : EndList = change_end key (end_goes_on (sent_by d (pool.Does key first))) es in
    let put : Moves by from (core_of_ends p.mid es1) = moves_sends by from d p.mid es key first [] p.between p.first tt (begun_end whole (end_at es key) may) m in
    elim p.last [
      | inl same ↦ moves_same by from p.mid d1 es1 (change_end key (goes_by after) es) same.0
          (ap (λ (xs : List ℕ). change_end key (goes_by xs) es) same.1 ∙ sym (gone_once (sent_by d (pool.Does key first)) p.between es key p.first.bytes)) put
      | inr more ↦
          let last : Action = pool.Ends more.1 in
          let is_whole : IfOpen HasWholeRequest (end_at es key) = subst (λ (b : Bool). IfOpen (puts b) (end_at es key)) more.0 may in
          let still : IfOpen HasWholeRequest (end_at es1 key) = subst (IfOpen HasWholeRequest) (sym (changed_at es key (end_goes_on (sent_by d (pool.Does key first))))) (whole_end (sent_by d (pool.Does key first)) (end_at es key) is_whole) in
          moves_same by from d1 d1 (change_end key (end_goes_on (sent_by p.mid (pool.Does key last))) es1) (change_end key (goes_by after) es) refl
          (sym (gone_then (sent_by d (pool.Does key first)) (sent_by p.mid (pool.Does key last)) p.between after es key p.first.bytes more.2.bytes))
          (moves_sends by from p.mid d1 es1 key last p.between after more.2 tt still put)
    ]

pub moves_puts : (by : Cause) (from : Core) (d d1 : Pool) (es es1 : EndList) (key : ℕ) (whole : Bool) (after : List ℕ)
    → MayPut key whole d d1 [] after → IfOpen (puts whole) (end_at es key) → es1 ≡ change_end key (goes_by after) es → Moves by from (core_of_ends d es) → Moves by from (core_of_ends d1 es1)
moves_puts by from d d1 es es1 key whole after (inl none) may is m =
    moves_same by from d d1 es es1 none.0 (is ∙ ap (λ (xs : List ℕ). change_end key (goes_by xs) es) none.1 ∙ sym (changed_not es key (goes_by []) (λ e. refl))) m
moves_puts by from d d1 es es1 key whole after (inr p) may is m =
    moves_same by from d1 d1 (change_end key (goes_by after) es) es1 refl is (moves_both_puts by from d d1 es key whole after p may m)
