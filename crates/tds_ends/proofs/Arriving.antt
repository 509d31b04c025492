-- An entry that arrives at the server, at the server and in the model.
use Rattle.std.proofs.Common.{◌≡◌, ◌≢◌, ◌≤◌, ◌∙◌, ℕ, ◌+◌, ◌%◌, Bool, true, false, refl, sym, ap, subst, Option, Some, None, List, [], ◌∷◌, ◌++◌, length, ltb, arith}
use Rattle.std.proofs.lemmas.Bool.Decides.{nat_tests}
use Rattle.std.specs.Prelude.{Ok, nat_lt}
use Rattle.tds_packet.specs.declared.kind.Kind.{Kind}
use Rattle.tds_packet.specs.declared.status.Reset.{Reset}
use Rattle.tds_packet.specs.declared.status.Reset.TheVariants.{Full, KeepTransaction}
use Rattle.tds_packet.specs.Layout.{bits_of, has_bit}
use Rattle.tds_request.specs.declared.request.Request.{Request}
use Rattle.tds_request.specs.declared.request.RequestKind.{RequestKind}
use Rattle.tds_request.specs.declared.request.RequestKind.TheVariants as message
use Rattle.tds_request.specs.Layout.{IsRequest, kind_of_request, packet_kind}
use Rattle.tds_request.specs.Reading.{read_request}
use Rattle.tds_server.specs.declared.outcome.ServerTook.TheVariants as took
use Rattle.tds_server.specs.Packets.{acknowledgement}
use Rattle.tds_server.specs.State as server
use Rattle.tds_server.specs.State.{ServerState, Message}
use Rattle.tds_server.specs.Taking.{Move, goes_on, is_same_kind, begun_by, gone_on_by, message_before, answered, joined, ignored, continued, after_check, part_taken, acknowledging_id, acknowledges, is_midway, attended, moved_by, fault_in, unless_broken, moved, taken_as, taken}
use Rattle.tds_session.specs.declared.attention.OnAttention.{OnAttention}
use Rattle.tds_session.specs.Answer as answer
use Rattle.tds_session.specs.Answer.{Answers, EndsOnce}
use Rattle.tds_session.specs.Attention.{Stop, stopped}
use Rattle.tds_session.specs.Session.{SessionState}
use Rattle.tds_token.specs.declared.env_change.EnvChange.{EnvChange}
use Rattle.tds_world.specs.Arrivals as model
use Rattle.tds_world.specs.Arrivals.{server_acts, acknowledged_at}
use Rattle.tds_packet.specs.Resets.{reset_bit}
use Rattle.tds_world.specs.Connection.{Connection}
use Rattle.tds_world.specs.Entries.{Packet, Asking, Up, Part, End, Drop, Attention, up_packet, Acknowledgement, down_bytes}
use Rattle.tds_world.specs.Lawful.{Lawful}
use Rattle.tds_world.specs.Record.{Record}
use Rattle.tds_world.specs.Welcome.{ServerExpects}
use Rattle.tds_ends.specs.Refines.{RefinesArrive}
use Rattle.tds_world.specs.Messages.{IsSpelled, message_of, bits_behind, IsNext}
use Rattle.tds_ends.specs.Stands.{MatchesServer, MatchesPhase, IsOf, Sends, kind_asked}
use Rattle.tds_ends.proofs.Lanes.{appended, unsent}
use Rattle.tds_ends.proofs.Picks.{pick_true, pick_false}

-- What is promised of reading: a request that a message spells is read of it.
abbrev pub SpelledIsRead : Type 0
SpelledIsRead =
    (kind : RequestKind) (descriptor : ℕ) (request : Request) (bytes : List ℕ) → IsRequest kind descriptor request bytes → read_request kind bytes ≡ Ok (descriptor, request)

-- ---- The bits of a packet

abbrev bit : Bool → ℕ
bit true = 1
bit false = 0

-- Beside the mark's bit there is no bit that says to ignore the message, and the end's is there where
-- it is wanted.
record AreBits (last : Bool) (status : ℕ) : Type 0 where
  kept : has_bit status 2 ≡ false
  ends : has_bit status 1 ≡ last

mark_bits : (last : Bool) (mark : Option Reset) → AreBits last (bit last + reset_bit mark)
mark_bits true None = record { kept = refl; ends = refl }
mark_bits true (Some Full) = record { kept = refl; ends = refl }
mark_bits true (Some KeepTransaction) = record { kept = refl; ends = refl }
mark_bits false None = record { kept = refl; ends = refl }
mark_bits false (Some Full) = record { kept = refl; ends = refl }
mark_bits false (Some KeepTransaction) = record { kept = refl; ends = refl }

later_bits : (last : Bool) → AreBits last (bit last + 0)
later_bits true = record { kept = refl; ends = refl }
later_bits false = record { kept = refl; ends = refl }

piece_bits : (last : Bool) (before : List ℕ) (mark : Option Reset) → AreBits last (bit last + bits_behind before mark)
piece_bits last [] mark = mark_bits last mark
piece_bits last (b ∷ bs) mark = later_bits last

-- ---- The message that a packet of the newest request goes on with

by_kind : (k : RequestKind) (answers : Answers) (told : OnAttention) (session : SessionState) (phase : server.Phase) (status : ℕ) (content : List ℕ) → moved_by (packet_kind k) answers told session phase status content ≡ part_taken answers session phase k status content
by_kind message.Batch answers told session phase status content = refl
by_kind message.Transaction answers told session phase status content = refl

same_kind : (k : RequestKind) → is_same_kind k k ≡ true
same_kind message.Batch = refl
same_kind message.Transaction = refl

-- As much of a request's message as has come.
abbrev so_far : Record → List ℕ → Message
so_far q before = record { kind = kind_of_request q.asking.request; reset = q.asking.mark; content = before }

begins : (last : Bool) (k : RequestKind) (mark : Option Reset) → begun_by k (bit last + reset_bit mark) ≡ Ok (record { kind = k; reset = mark; content = [] })
unfolding begun_by
begins true k None = refl
begins true k (Some Full) = refl
begins true k (Some KeepTransaction) = refl
begins false k None = refl
begins false k (Some Full) = refl
begins false k (Some KeepTransaction) = refl

went_on : (k : RequestKind) (m : Message) → m.kind ≡ k → gone_on_by k m ≡ Ok m
unfolding gone_on_by
went_on k m e = pick_true _ _ (ap (λ (x : RequestKind). is_same_kind x k) e ∙ same_kind k) refl

same_message : (m : Message) (k : RequestKind) (mark : Option Reset) (content : List ℕ) → m.kind ≡ k → m.reset ≡ mark → m.content ≡ content → m ≡ record { kind = k; reset = mark; content = content }
same_message m k mark content ek er ec =
    ap (λ (x : RequestKind). record { kind = x; reset = m.reset; content = m.content }) ek
    ∙ (ap (λ (x : Option Reset). record { kind = k; reset = x; content = m.content }) er
    ∙ ap (λ (x : List ℕ). record { kind = k; reset = mark; content = x }) ec)

message_is : (last : Bool) (phase : server.Phase) (c : Connection) (q : Record) → MatchesPhase phase c → c.due ≡ [] → c.current ≡ Some q → message_before phase (kind_of_request q.asking.request) (bit last + bits_behind c.parts q.asking.mark) ≡ Ok (so_far q c.parts)
message_is last server.Waiting c q p none is = subst (λ (x : List ℕ). begun_by (kind_of_request q.asking.request) (bit last + bits_behind x q.asking.mark) ≡ Ok (so_far q x)) (sym p.0) (begins last (kind_of_request q.asking.request) q.asking.mark)
message_is last (server.Receiving m) c q p none is =
    let its : IsOf m (Some q) = subst (λ (o : Option Record). IsOf m o) is p.3 in
    went_on (kind_of_request q.asking.request) m its.0
    ∙ ap (λ (x : Message). Ok x) (same_message m (kind_of_request q.asking.request) q.asking.mark c.parts its.0 its.1 p.0)
message_is last (server.Answering due id begun) c q p none is = absurd (p.2 none)
message_is last (server.Broken fault) c q p none is = absurd p

-- A word to drop may stand for any message.
dropped : (phase : server.Phase) (c : Connection) (q : Record) → MatchesPhase phase c → c.due ≡ [] → c.current ≡ Some q → (m : Message) × (message_before phase (kind_of_request q.asking.request) 3 ≡ Ok m)
unfolding begun_by
dropped server.Waiting c q p none is = (_, refl)
dropped (server.Receiving m) c q p none is =
    let its : IsOf m (Some q) = subst (λ (o : Option Record). IsOf m o) is p.3 in
    (m, went_on (kind_of_request q.asking.request) m its.0)
dropped (server.Answering due id begun) c q p none is = absurd (p.2 none)
dropped (server.Broken fault) c q p none is = absurd p

-- ---- What such a packet does

part_goes_on : (answers : Answers) (session : SessionState) (q : Record) (before body : List ℕ) → length (before ++ body) ≤ 4022 → continued answers session (0 + bits_behind before q.asking.mark) body (so_far q before) ≡ Ok (goes_on session (server.Receiving (so_far q (before ++ body))) took.More)
unfolding continued joined
part_goes_on answers session q before body most =
    let bits : AreBits false (0 + bits_behind before q.asking.mark) = piece_bits false before q.asking.mark in
    let short : ltb 4022 (length (before ++ body)) ≡ false = grind (arith, nat_tests, most) in
    pick_false _ _ bits.kept (pick_false _ _ short (pick_false _ _ bits.ends refl))

end_answers : SpelledIsRead → (answers : Answers) (session : SessionState) (q : Record) (before body : List ℕ) → length (before ++ body) ≤ 4022 → before ++ body ≡ message_of q.asking → IsSpelled q.asking → continued answers session (1 + bits_behind before q.asking.mark) body (so_far q before) ≡ Ok (goes_on session (server.Answering (answers session q.asking.descriptor q.asking.mark q.asking.request) 1 false) took.Request)
unfolding continued joined
end_answers is_read answers session q before body most whole spelled =
    let bits : AreBits true (1 + bits_behind before q.asking.mark) = piece_bits true before q.asking.mark in
    let short : ltb 4022 (length (before ++ body)) ≡ false = grind (arith, nat_tests, most) in
    pick_false _ _ bits.kept (pick_false _ _ short (pick_true _ _ bits.ends
    (ap (λ r. answered answers session q.asking.mark r)
    (ap (λ (x : List ℕ). read_request (kind_of_request q.asking.request) x) whole
    ∙ is_read (kind_of_request q.asking.request) q.asking.descriptor q.asking.request (message_of q.asking) spelled))))

drop_forgets : (answers : Answers) (session : SessionState) (content : List ℕ) (m : Message) → continued answers session 3 content m ≡ Ok (goes_on session server.Waiting took.Dropped)
unfolding continued ignored
drop_forgets answers session content m = refl

unbroken : (phase : server.Phase) (c : Connection) → MatchesPhase phase c → fault_in phase ≡ None
unbroken server.Waiting c p = refl
unbroken (server.Receiving m) c p = refl
unbroken (server.Answering due id begun) c p = refl
unbroken (server.Broken fault) c p = absurd p

-- The move of a packet of the newest request.
move_is : (answers : Answers) (told : OnAttention) (session : SessionState) (phase : server.Phase) (c : Connection) (q : Record) (p : Packet) (status : ℕ) (m : Message) → MatchesPhase phase c → p.header.kind ≡ kind_asked q.asking → bits_of p.header.status ≡ status → message_before phase (kind_of_request q.asking.request) status ≡ Ok m → moved answers told session phase p.header p.body ≡ continued answers session status p.body m
move_is answers told session phase c q p status m at kind bits before =
    let k : RequestKind = kind_of_request q.asking.request in
    ap (λ f. unless_broken f (moved_by p.header.kind answers told session phase (bits_of p.header.status) p.body)) (unbroken phase c at)
    ∙ (ap (λ (x : Kind). moved_by x answers told session phase (bits_of p.header.status) p.body) kind
    ∙ (ap (λ (x : ℕ). moved_by (packet_kind k) answers told session phase x p.body) bits
    ∙ (by_kind k answers told session phase status p.body
    ∙ ap (λ x. after_check x (continued answers session status p.body)) before)))

-- ---- Acknowledgements

place_due : (due : List answer.Step) (taken : ℕ) → due ≢ [] → acknowledged_at due taken ≡ taken + 1
place_due [] taken some = absurd (some refl)
place_due (s ∷ ss) taken some = refl

place_none : (due : List answer.Step) (taken : ℕ) → due ≡ [] → 1 ≡ acknowledged_at due taken % 256
place_none due taken none = ap (λ (d : List answer.Step). acknowledged_at d taken % 256) (sym none)

place_is : (phase : server.Phase) (c : Connection) → MatchesPhase phase c → acknowledging_id phase ≡ acknowledged_at c.due c.taken % 256
place_is server.Waiting c p = place_none c.due c.taken p.1
place_is (server.Receiving m) c p = place_none c.due c.taken p.2
place_is (server.Answering due id begun) c p = p.3 ∙ ap (λ (n : ℕ). n % 256) (sym (place_due c.due c.taken p.2))
place_is (server.Broken fault) c p = absurd p

acknowledgement_is : (r place id : ℕ) (changes : List EnvChange) → id ≡ place % 256 → down_bytes (Acknowledgement r place changes) ≡ acknowledgement id changes
acknowledgement_is r place id changes e = ap (λ (n : ℕ). acknowledgement n changes) (sym e)

attention_moves : (answers : Answers) (told : OnAttention) (session : SessionState) (phase : server.Phase) (c : Connection) (r : ℕ) → MatchesPhase phase c → moved answers told session phase (up_packet (Attention r)).header (up_packet (Attention r)).body ≡ Ok (acknowledges phase (stopped told (is_midway phase) session))
unfolding attended
attention_moves answers told session phase c r at = ap (λ f. unless_broken f (attended told session phase 1 [])) (unbroken phase c at)

-- The server's answer is in its middle where the model's is.
none_midway : (taken : ℕ) (due : List answer.Step) → due ≡ [] → false ≡ model.is_midway taken due
none_midway taken due none = ap (λ (d : List answer.Step). model.is_midway taken d) (sym none)

some_midway : (taken : ℕ) (due : List answer.Step) → due ≢ [] → model.is_midway taken due ≡ nat_lt 0 taken
some_midway taken [] some = absurd (some refl)
some_midway taken (s ∷ ss) some = refl

midway_is : (phase : server.Phase) (c : Connection) → MatchesPhase phase c → is_midway phase ≡ model.is_midway c.taken c.due
midway_is server.Waiting c p = none_midway c.taken c.due p.1
midway_is (server.Receiving m) c p = none_midway c.taken c.due p.2
midway_is (server.Answering due id begun) c p = p.4 ∙ sym (some_midway c.taken c.due p.2)
midway_is (server.Broken fault) c p = absurd p

stop_is : {E : Type 0} (s : ServerState E) (c : Connection) → MatchesServer s c → stopped s.on_attention (is_midway s.phase) s.session ≡ model.stops c
stop_is s c m =
    ap (λ o. stopped o (is_midway s.phase) s.session) m.told
    ∙ (ap (λ b. stopped c.on_attention b s.session) (midway_is s.phase c m.phase)
    ∙ ap (λ x. stopped c.on_attention (model.is_midway c.taken c.due) x) m.session)

-- ---- The whole

by_move : {E : Type 0} (answers : Answers) (s : ServerState E) (c : Connection) (e : Up) (m : Move) → moved answers s.on_attention s.session s.phase (up_packet e).header (up_packet e).body ≡ Ok m → s.on_attention ≡ (server_acts answers c e).on_attention → m.session ≡ (server_acts answers c e).session → MatchesPhase m.phase (server_acts answers c e) → Sends down_bytes m.reply c.to_client (server_acts answers c e).to_client → RefinesArrive answers c e (taken answers s (up_packet e).header (up_packet e).body)
by_move answers s c e m is told session phase sends =
    subst (λ r. RefinesArrive answers c e (taken_as s r)) (sym is)
    (record { took = m.took; lawful = refl; matches = record { told = told; session = session; phase = phase }; sends = sends })

some_behind : (xs ys : List ℕ) → ys ≢ [] → xs ++ ys ≢ []
some_behind [] ys some = some
some_behind (x ∷ xs) ys some = λ e. absurd (cc)

some_due : (due : List answer.Step) → EndsOnce due → due ≢ []
some_due [] ends = absurd ends
some_due (s ∷ ss) ends = λ e. absurd (cc)

pub arrive_alike : {E : Type 0} → SpelledIsRead → (answers : Answers) (s : ServerState E) (c : Connection) (q : Record) (e : Up) → Lawful answers → MatchesServer s c → c.current ≡ Some q → IsSpelled q.asking → IsNext q.asking c.parts e → ServerExpects c e → RefinesArrive answers c e (taken answers s (up_packet e).header (up_packet e).body)
arrive_alike is_read answers s c q (Part r p) w m is spelled next none =
    by_move answers s c (Part r p) (goes_on s.session (server.Receiving (so_far q (c.parts ++ p.body))) took.More)
    (move_is answers s.on_attention s.session s.phase c q p (0 + bits_behind c.parts q.asking.mark) (so_far q c.parts) m.phase next.0.kind next.0.status (message_is false s.phase c q m.phase none is)
    ∙ part_goes_on answers s.session q c.parts p.body next.0.most)
    m.told m.session
    (refl, some_behind c.parts p.body next.1, none, subst (λ (o : Option Record). IsOf (so_far q (c.parts ++ p.body)) o) (sym is) (refl, refl))
    (unsent down_bytes c.to_client)
arrive_alike is_read answers s c q (End r a p) w m is spelled next none =
    by_move answers s c (End r a p) (goes_on s.session (server.Answering (answers s.session q.asking.descriptor q.asking.mark q.asking.request) 1 false) took.Request)
    (move_is answers s.on_attention s.session s.phase c q p (1 + bits_behind c.parts q.asking.mark) (so_far q c.parts) m.phase next.0.kind next.0.status (message_is true s.phase c q m.phase none is)
    ∙ end_answers is_read answers s.session q c.parts p.body next.0.most next.2 spelled)
    m.told m.session (
      refl,
      ap (λ (x : SessionState). answers x q.asking.descriptor q.asking.mark q.asking.request) m.session
          ∙ ap (λ (x : Asking). answers c.session x.descriptor x.mark x.request) (sym next.1),
      some_due (answers c.session a.descriptor a.mark a.request) (w.ends c.session a.descriptor a.mark a.request),
      refl,
      refl,
    )
    (unsent down_bytes c.to_client)
arrive_alike is_read answers s c q (Drop r p) w m is spelled next none =
    let old : (x : Message) × (message_before s.phase (kind_of_request q.asking.request) 3 ≡ Ok x) = dropped s.phase c q m.phase none is in
    by_move answers s c (Drop r p) (goes_on s.session server.Waiting took.Dropped)
    (move_is answers s.on_attention s.session s.phase c q p 3 old.0 m.phase next.kind next.status old.1 ∙ drop_forgets answers s.session p.body old.0)
    m.told m.session
    (refl, none)
    (unsent down_bytes c.to_client)
arrive_alike is_read answers s c q (Attention r) w m is spelled next none =
    let id : ℕ = acknowledging_id s.phase in
    let place : ℕ = acknowledged_at c.due c.taken in
    by_move answers s c (Attention r) (acknowledges s.phase (stopped s.on_attention (is_midway s.phase) s.session))
    (attention_moves answers s.on_attention s.session s.phase c r m.phase)
    m.told (ap (λ (x : Stop). x.after) (stop_is s c m))
    (refl, refl)
    (appended down_bytes (acknowledgement id (stopped s.on_attention (is_midway s.phase) s.session).changes) (Acknowledgement r place (model.stops c).changes) c.to_client
    (acknowledgement_is r place id (model.stops c).changes (place_is s.phase c m.phase)
    ∙ ap (λ (x : Stop). acknowledgement id x.changes) (sym (stop_is s c m))))
