-- How many bytes a cancel sends, and how many the server answers to it.
use Rattle.std.proofs.Common.{◌≡◌, ◌≤◌, ◌+◌, ◌-◌, ℕ, List, [], ◌∷◌, ◌++◌, length, ltb, min, refl, ap, ◌∙◌, flat_map, arith, lit≤, Option, Some, None}
use Rattle.std.proofs.lemmas.Grind.{flat_map-append}
use Rattle.std.proofs.lemmas.List.{length-append}
use Rattle.std.specs.Prelude.{◌&&◌, Bool, true, false}
use Rattle.tds_session.specs.declared.attention.OnAttention.{OnAttention}
use Rattle.tds_session.specs.declared.attention.OnAttention.TheVariants.{Keep, RollBack}
use Rattle.tds_session.specs.Answer.{Answers}
use Rattle.tds_session.specs.Attention.{stopped, stop_by}
use Rattle.tds_session.specs.Session.{SessionState, is_in_transaction}
use Rattle.tds_world.specs.Arrivals.{server_acts, reach_server, to_server, stops, is_midway, acknowledged_at}
use Rattle.tds_world.specs.Bounds.{attention_count, acknowledgement_count}
use Rattle.tds_world.specs.Caller.{cancels, cancels_in, cancels_by, drop_packet}
use Rattle.tds_world.specs.Connection.{Connection, phase, up_underway, down_underway}
use Rattle.tds_world.specs.Entries.{Up, Part, End, Drop, Attention, Acknowledgement, up_bytes, down_bytes}
use Rattle.tds_world.specs.Lane.{Lane, append, passed, with_waiting, underway}
use Rattle.tds_world.specs.Phase.{Phase, Settled, Asked, Sending, Reading, Cancelling, phase_of}
use Rattle.tds_world.specs.Record.{Record}
use Rattle.tds_world.specs.rest.Rest.{AreAll}
use Rattle.tds_world.specs.rest.RestShown.{acknowledgement_most}
use Rattle.tds_world.proofs.events.Options.{server_told, cancels_told}
use Rattle.tds_world.proofs.events.Words.{either}
use Rattle.tds_world.proofs.flow.Counts.{at_most_one}
use Rattle.tds_world.proofs.flow.Flow.{number_in, Sound}

size_more : {Entry : Type 0} (bytes : Entry → List ℕ) (e : Entry) (lane : Lane Entry) → underway bytes (append e lane) ≤ underway bytes lane + length (bytes e)
size_more bytes e lane =
    let size : length (flat_map bytes (lane.waiting ++ e ∷ [])) ≡ length (flat_map bytes lane.waiting) + length (flat_map bytes (e ∷ [])) =
    ap (λ bs. length bs) (flat_map-append bytes lane.waiting (e ∷ [])) ∙ length-append (flat_map bytes lane.waiting) (flat_map bytes (e ∷ [])) in
    let one : length (flat_map bytes (e ∷ [])) ≡ length (bytes e) + 0 = length-append (bytes e) [] in
    rw size (rw one (omega arith))

-- ---- The cancel

attention_size : (r : ℕ) → length (up_bytes (Attention r)) ≡ 8
attention_size r = refl

drop_size : (r : ℕ) (q : Record) → length (up_bytes (Drop r (drop_packet q))) ≡ 8
drop_size r q = refl

none_more : (n k : ℕ) → n ≤ n + k
none_more n k = omega arith

cancel_sends_by : (p : Phase) (q : Record) (c : Connection) → up_underway (cancels_by p q c) ≤ up_underway c + 16
cancel_sends_by Settled q c = none_more (up_underway c) 16
cancel_sends_by Asked q c = none_more (up_underway c) 16
cancel_sends_by Cancelling q c = none_more (up_underway c) 16
cancel_sends_by Reading q c =
    let more : underway up_bytes (append (Attention q.number) c.to_server) ≤ up_underway c + 8 = size_more up_bytes (Attention q.number) c.to_server in omega arith
cancel_sends_by Sending q c =
    let first : underway up_bytes (append (Drop q.number (drop_packet q)) c.to_server) ≤ up_underway c + 8 = size_more up_bytes (Drop q.number (drop_packet q)) c.to_server in
    let more : underway up_bytes (append (Attention q.number) (append (Drop q.number (drop_packet q)) c.to_server)) ≤ underway up_bytes (append (Drop q.number (drop_packet q)) c.to_server) + 8 =
    size_more up_bytes (Attention q.number) (append (Drop q.number (drop_packet q)) c.to_server) in
    omega arith

cancel_sends_in : (o : Option Record) (c : Connection) → up_underway (cancels_in o c) ≤ up_underway c + 16
cancel_sends_in None c = none_more (up_underway c) 16
cancel_sends_in (Some q) c = cancel_sends_by (phase_of q) q c

cancel_leaves_by : (p : Phase) (q : Record) (c : Connection) → down_underway (cancels_by p q c) ≡ down_underway c
cancel_leaves_by Settled q c = refl
cancel_leaves_by p q c = refl

cancel_leaves_in : (o : Option Record) (c : Connection) → down_underway (cancels_in o c) ≡ down_underway c
cancel_leaves_in None c = refl
cancel_leaves_in (Some q) c = cancel_leaves_by (phase_of q) q c

-- ---- The acknowledgement

stop_size : (o : OnAttention) (midway : Bool) (s : SessionState) (r place : ℕ) → length (down_bytes (Acknowledgement r place (stopped o midway s).changes)) ≤ acknowledgement_most o
stop_size Keep midway s r place = lit≤ tt
stop_size RollBack midway s r place = by_stop (midway && is_in_transaction s)
  where
    by_stop : (b : Bool) → length (down_bytes (Acknowledgement r place (stop_by b s).changes)) ≤ 35
    by_stop true = lit≤ tt
    by_stop false = lit≤ tt

-- The bytes of so many acknowledgements of this size as there are attentions.
answer_bytes : ℕ → List Up → ℕ
answer_bytes most [] = 0
answer_bytes most (Part r p ∷ es) = answer_bytes most es
answer_bytes most (End r a p ∷ es) = answer_bytes most es
answer_bytes most (Drop r p ∷ es) = answer_bytes most es
answer_bytes most (Attention r ∷ es) = most + answer_bytes most es

no_bytes : (most : ℕ) (es : List Up) → attention_count es ≡ 0 → answer_bytes most es ≡ 0
unfolding answer_bytes
no_bytes most [] e = refl
no_bytes most (Part r p ∷ es) e = no_bytes most es e
no_bytes most (End r a p ∷ es) e = no_bytes most es e
no_bytes most (Drop r p ∷ es) e = no_bytes most es e
no_bytes most (Attention r ∷ es) e = absurd (cc)

one_answer : (most : ℕ) (es : List Up) → attention_count es ≤ 1 → answer_bytes most es ≤ most
unfolding answer_bytes
one_answer most [] h = omega arith
one_answer most (Part r p ∷ es) h = one_answer most es h
one_answer most (End r a p ∷ es) h = one_answer most es h
one_answer most (Drop r p ∷ es) h = one_answer most es h
one_answer most (Attention r ∷ es) h =
    let none : attention_count es ≡ 0 = omega (arith, h) in
    let z : answer_bytes most es ≡ 0 = no_bytes most es none in omega (arith, z)

-- What an entry makes the server send.
answered : (most : ℕ) (answers : Answers) (c : Connection) (e : Up) (es : List Up) → acknowledgement_most c.on_attention ≡ most → down_underway (server_acts answers c e) + answer_bytes most es ≤ down_underway c + answer_bytes most (e ∷ es)
unfolding answer_bytes
answered most answers c (Part r p) es o = omega arith
answered most answers c (End r a p) es o = omega arith
answered most answers c (Drop r p) es o = omega arith
answered most answers c (Attention r) es o =
    let place : ℕ = acknowledged_at c.due c.taken in
    let size : length (down_bytes (Acknowledgement r place (stops c).changes)) ≤ acknowledgement_most c.on_attention =
    stop_size c.on_attention (is_midway c.taken c.due) c.session r place in
    let more : down_underway (server_acts answers c (Attention r)) ≤ down_underway c + length (down_bytes (Acknowledgement r place (stops c).changes)) =
    size_more down_bytes (Acknowledgement r place (stops c).changes) c.to_client in
    omega (arith, size, more, o)

all_answered : (most : ℕ) (answers : Answers) (c : Connection) (es : List Up) (k : ℕ) → acknowledgement_most c.on_attention ≡ most → down_underway (reach_server answers c es k) ≤ down_underway c + answer_bytes most es
all_answered most answers c [] k o = none_more (down_underway c) _
all_answered most answers c (e ∷ es) k o =
    let p : Connection = record c { to_server = passed e c.to_server } in
    either (λ (d : Connection). down_underway d ≤ down_underway c + answer_bytes most (e ∷ es)) (ltb k (length (up_bytes e))) (record c { to_server = with_waiting (e ∷ es) k c.to_server }) (reach_server answers (server_acts answers p e) es (k - length (up_bytes e)))
    (none_more (down_underway c) _)
    (let later : down_underway (reach_server answers (server_acts answers p e) es (k - length (up_bytes e))) ≤ down_underway (server_acts answers p e) + answer_bytes most es =
    all_answered most answers (server_acts answers p e) es (k - length (up_bytes e)) (ap acknowledgement_most (server_told answers p e) ∙ o) in
    let now : down_underway (server_acts answers p e) + answer_bytes most es ≤ down_underway c + answer_bytes most (e ∷ es) = answered most answers p e es o in
    omega (arith, later, now))

cancel_told_in : (o : Option Record) (c : Connection) → (cancels_in o c).on_attention ≡ c.on_attention
cancel_told_in None c = refl
cancel_told_in (Some q) c = cancels_told (phase_of q) q c

pub stop_counts : (most : ℕ) (answers : Answers) (c : Connection) (up down : ℕ) → acknowledgement_most c.on_attention ≡ most → Sound (cancels c) → up_underway c + 16 ≤ up → down_underway c + most ≤ down → AreAll answers (cancels c) up down
stop_counts most answers c up down o f m k =
    let d : Connection = cancels c in
    let sent : up_underway d ≤ up_underway c + 16 = cancel_sends_in c.current c in
    let one : attention_count d.to_server.waiting + acknowledgement_count d.to_client.waiting ≤ 1 =
    at_most_one (phase d) (number_in d.current) d.answering d.to_server.waiting d.to_client.waiting d.parts d.due f.0 in
    let same : down_underway d ≡ down_underway c = cancel_leaves_in c.current c in
    let few : answer_bytes most d.to_server.waiting ≤ most = one_answer most d.to_server.waiting (omega (arith, one)) in
    let all : down_underway (to_server answers up d) ≤ down_underway d + answer_bytes most d.to_server.waiting =
    all_answered most answers d d.to_server.waiting (d.to_server.part + min up (up_underway d)) (ap acknowledgement_most (cancel_told_in c.current c) ∙ o) in
    record { up_all = omega (arith, sent, m); down_all = omega (arith, same, few, all, k) }
