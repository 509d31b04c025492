-- What one end does leaves the other end as it is, and what it stands for.
use Rattle.std.proofs.Common.{◌≡◌, ◌∙◌, ◌+◌, ◌-◌, ℕ, min, Bool, true, false, cond, eqb, ltb, refl, sym, subst, Option, Some, None, option_map, List, [], ◌∷◌, length}
use Rattle.tds_client.specs.Session.{ClientSession}
use Rattle.tds_packet.specs.declared.status.Reset.{Reset}
use Rattle.tds_request.specs.declared.request.Request.{Request}
use Rattle.tds_server.specs.State.{ServerState, Message}
use Rattle.tds_session.specs.Answer as answer
use Rattle.tds_session.specs.Answer.{Answers}
use Rattle.tds_session.specs.Session.{SessionState}
use Rattle.tds_world.specs.Arrivals.{server_acts, client_acts, works, works_on, reach_server, reach_client, to_server, to_client, drains}
use Rattle.tds_world.specs.Caller.{asks, sends, sends_by, sends_last, cancels, cancels_by, cancels_in}
use Rattle.tds_world.specs.Connection.{Connection, down_underway, up_underway}
use Rattle.tds_world.specs.Entries.{Up, Part, End, Drop, Attention, Down, Step, Acknowledgement, up_bytes, down_bytes}
use Rattle.tds_world.specs.Lane.{Lane, passed, with_waiting}
use Rattle.tds_world.specs.Phase.{Phase, Settled, Asked, Sending, Reading, Cancelling, phase_of}
use Rattle.tds_world.specs.Record.{Record, gives, acknowledges, runs, when, if_numbered}
use Rattle.tds_ends.specs.Stands.{MatchesClient, MatchesServer, IsOf, BeginsBy, BeginsIn, stage_by, stage_in}
use Rattle.tds_ends.specs.Stays.{PoolIsUnseen}
use Rattle.tds_ends.proofs.Matching.{client_still_matches, server_still_matches}

-- ---- The server

-- A message stays the newest request's, where that asks for the same.
is_of_given : (m : Message) (b : Bool) (s : answer.Step) (q : Record) → IsOf m (Some q) → IsOf m (Some (when b (gives s) q))
is_of_given m true s q h = h
is_of_given m false s q h = h

is_of_acknowledged : (m : Message) (b : Bool) (q : Record) → IsOf m (Some q) → IsOf m (Some (when b acknowledges q))
is_of_acknowledged m true q h = h
is_of_acknowledged m false q h = h

gives_is_of : (m : Message) (r : ℕ) (s : answer.Step) (current : Option Record) → IsOf m current → IsOf m (option_map (if_numbered r (gives s)) current)
gives_is_of m r s None h = h
gives_is_of m r s (Some q) h = is_of_given m (eqb q.number r) s q h

acknowledges_is_of : (m : Message) (r : ℕ) (current : Option Record) → IsOf m current → IsOf m (option_map (if_numbered r acknowledges) current)
acknowledges_is_of m r None h = h
acknowledges_is_of m r (Some q) h = is_of_acknowledged m (eqb q.number r) q h

pub hears_kept : {E : Type 0} (s : ServerState E) (c : Connection) (e : Down) → MatchesServer s c → MatchesServer s (client_acts c e)
hears_kept s c (Step r place step) m =
    server_still_matches s c (client_acts c (Step r place step)) refl refl refl refl refl (λ message some of. gives_is_of message r step c.current of) m
hears_kept s c (Acknowledgement r place changes) m =
    server_still_matches s c (client_acts c (Acknowledgement r place changes)) refl refl refl refl refl (λ message some of. acknowledges_is_of message r c.current of) m

sends_kept_by : {E : Type 0} (b : Bool) (room : ℕ) (s : ServerState E) (c : Connection) (q : Record) → c.current ≡ Some q → MatchesServer s c → MatchesServer s (sends_by b room q c)
sends_kept_by true room s c q is m = server_still_matches s c (sends_by true room q c) refl refl refl refl refl (λ message some of. subst (λ (o : Option Record). IsOf message o) is of) m
sends_kept_by false room s c q is m = server_still_matches s c (sends_by false room q c) refl refl refl refl refl (λ message some of. subst (λ (o : Option Record). IsOf message o) is of) m

pub sends_kept : {E : Type 0} (room : ℕ) (s : ServerState E) (c : Connection) (q : Record) → c.current ≡ Some q → MatchesServer s c → MatchesServer s (sends room q c)
sends_kept room s c q is m = sends_kept_by (sends_last room q) room s c q is m

pub asks_kept : {E : Type 0} (number lease n : ℕ) (q : Request) (s : ServerState E) (c : Connection) → c.parts ≡ [] → MatchesServer s c → MatchesServer s (asks number lease n q c)
asks_kept number lease n q s c rests m = server_still_matches s c (asks number lease n q c) refl refl refl refl refl (λ message some of. absurd (some rests)) m

cancels_by_kept : {E : Type 0} (p : Phase) (s : ServerState E) (c : Connection) (q : Record) → c.current ≡ Some q → MatchesServer s c → MatchesServer s (cancels_by p q c)
cancels_by_kept Settled s c q is m = m
cancels_by_kept Cancelling s c q is m = m
cancels_by_kept Asked s c q is m = server_still_matches s c (cancels_by Asked q c) refl refl refl refl refl (λ message some of. subst (λ (o : Option Record). IsOf message o) is of) m
cancels_by_kept Sending s c q is m = server_still_matches s c (cancels_by Sending q c) refl refl refl refl refl (λ message some of. subst (λ (o : Option Record). IsOf message o) is of) m
cancels_by_kept Reading s c q is m = server_still_matches s c (cancels_by Reading q c) refl refl refl refl refl (λ message some of. subst (λ (o : Option Record). IsOf message o) is of) m

cancels_in_kept : {E : Type 0} (current : Option Record) (s : ServerState E) (c : Connection) → c.current ≡ current → MatchesServer s c → MatchesServer s (cancels_in current c)
cancels_in_kept None s c is m = m
cancels_in_kept (Some q) s c is m = cancels_by_kept (phase_of q) s c q is m

pub cancels_kept : {E : Type 0} (s : ServerState E) (c : Connection) → MatchesServer s c → MatchesServer s (cancels c)
cancels_kept s c m = cancels_in_kept c.current s c refl m

-- A server sees nothing of what is underway to the client, nor where the connection stands, nor its mark.
seen_on : {E : Type 0} (s : ServerState E) (c : Connection) (lane : Lane Down) → MatchesServer s c → MatchesServer s (record c { to_client = lane })
seen_on s c lane m = server_still_matches s c (record c { to_client = lane }) refl refl refl refl refl (λ message some of. of) m

either_server : {E : Type 0} (b : Bool) (s : ServerState E) (x y : Connection) → MatchesServer s x → MatchesServer s y → MatchesServer s (cond b x y)
either_server true s x y f g = f
either_server false s x y f g = g

reach_client_kept : {E : Type 0} (s : ServerState E) (c : Connection) (es : List Down) (k : ℕ) → MatchesServer s c → MatchesServer s (reach_client c es k)
reach_client_kept s c [] k m = seen_on s c (with_waiting [] 0 c.to_client) m
reach_client_kept s c (e ∷ es) k m =
    let d : Connection = client_acts (record c { to_client = passed e c.to_client }) e in
    either_server (ltb k (length (down_bytes e))) s (record c { to_client = with_waiting (e ∷ es) k c.to_client }) (reach_client d es (k - length (down_bytes e)))
    (seen_on s c (with_waiting (e ∷ es) k c.to_client) m)
    (reach_client_kept s d es (k - length (down_bytes e)) (hears_kept s (record c { to_client = passed e c.to_client }) e (seen_on s c (passed e c.to_client) m)))

pub listens_kept : {E : Type 0} (most : ℕ) (s : ServerState E) (c : Connection) → MatchesServer s c → MatchesServer s (to_client most c)
listens_kept most s c m =
    let d : Connection = reach_client c c.to_client.waiting (c.to_client.part + min most (down_underway c)) in
    server_still_matches s d (drains d) refl refl refl refl refl (λ message some of. of)
    (reach_client_kept s c c.to_client.waiting (c.to_client.part + min most (down_underway c)) m)

-- ---- The client

stage_same : (p : Phase) (before : SessionState) (s : answer.Step) (q : Record) → stage_by p (runs before s q) ≡ stage_by p q
stage_same Settled before s q = refl
stage_same Asked before s q = refl
stage_same Sending before s q = refl
stage_same Reading before s q = refl
stage_same Cancelling before s q = refl

begins_same : (p : Phase) (before : SessionState) (s : answer.Step) (q : Record) (mark : Option Reset) → BeginsBy p q mark → BeginsBy p (runs before s q) mark
begins_same Settled before s q mark h = h
begins_same Asked before s q mark h = h
begins_same Sending before s q mark h = h
begins_same Reading before s q mark h = h
begins_same Cancelling before s q mark h = h

ran_stage : (b : Bool) (before : SessionState) (s : answer.Step) (q : Record) → stage_in (Some (when b (runs before s) q)) ≡ stage_in (Some q)
ran_stage true before s q = stage_same (phase_of q) before s q
ran_stage false before s q = refl

runs_stage : (r : ℕ) (before : SessionState) (s : answer.Step) (current : Option Record) → stage_in (option_map (if_numbered r (runs before s)) current) ≡ stage_in current
runs_stage r before s None = refl
runs_stage r before s (Some q) = ran_stage (eqb q.number r) before s q

ran_begins : (b : Bool) (before : SessionState) (s : answer.Step) (q : Record) (mark : Option Reset) → BeginsIn (Some q) mark → BeginsIn (Some (when b (runs before s) q)) mark
ran_begins true before s q mark h = begins_same (phase_of q) before s q mark h
ran_begins false before s q mark h = h

runs_begins : (r : ℕ) (before : SessionState) (s : answer.Step) (current : Option Record) (mark : Option Reset) → BeginsIn current mark → BeginsIn (option_map (if_numbered r (runs before s)) current) mark
runs_begins r before s None mark h = h
runs_begins r before s (Some q) mark h = ran_begins (eqb q.number r) before s q mark h

works_on_kept : (s : ClientSession) (c : Connection) (due : List answer.Step) → MatchesClient s c → MatchesClient s (works_on c due)
works_on_kept s c [] m = m
works_on_kept s c (step ∷ rest) m = record {
  stage = m.stage ∙ sym (runs_stage c.answering c.session step c.current);
  descriptor = m.descriptor;
  mark = m.mark;
  done = m.done;
  columns = m.columns;
  begins = runs_begins c.answering c.session step c.current c.mark m.begins;
}

pub works_kept : (s : ClientSession) (c : Connection) → MatchesClient s c → MatchesClient s (works c)
works_kept s c m = works_on_kept s c c.due m

pub arrives_kept : (answers : Answers) (s : ClientSession) (c : Connection) (e : Up) → MatchesClient s c → MatchesClient s (server_acts answers c e)
arrives_kept answers s c (Part r p) m = client_still_matches s c (server_acts answers c (Part r p)) refl refl refl m
arrives_kept answers s c (End r a p) m = client_still_matches s c (server_acts answers c (End r a p)) refl refl refl m
arrives_kept answers s c (Drop r p) m = client_still_matches s c (server_acts answers c (Drop r p)) refl refl refl m
arrives_kept answers s c (Attention r) m = client_still_matches s c (server_acts answers c (Attention r)) refl refl refl m

either_client : (b : Bool) (s : ClientSession) (x y : Connection) → MatchesClient s x → MatchesClient s y → MatchesClient s (cond b x y)
either_client true s x y f g = f
either_client false s x y f g = g

reach_server_kept : (answers : Answers) (s : ClientSession) (c : Connection) (es : List Up) (k : ℕ) → MatchesClient s c → MatchesClient s (reach_server answers c es k)
reach_server_kept answers s c [] k m = client_still_matches s c (record c { to_server = with_waiting [] 0 c.to_server }) refl refl refl m
reach_server_kept answers s c (e ∷ es) k m =
    let b : Connection = record c { to_server = passed e c.to_server } in
    let d : Connection = server_acts answers b e in
    either_client (ltb k (length (up_bytes e))) s (record c { to_server = with_waiting (e ∷ es) k c.to_server }) (reach_server answers d es (k - length (up_bytes e)))
    (client_still_matches s c (record c { to_server = with_waiting (e ∷ es) k c.to_server }) refl refl refl m)
    (reach_server_kept answers s d es (k - length (up_bytes e)) (arrives_kept answers s b e (client_still_matches s c b refl refl refl m)))

pub serves_kept : (answers : Answers) (most : ℕ) (s : ClientSession) (c : Connection) → MatchesClient s c → MatchesClient s (to_server answers most c)
serves_kept answers most s c m = reach_server_kept answers s c c.to_server.waiting (c.to_server.part + min most (up_underway c)) m

-- ---- The pool

pub pool_unseen : {E : Type 0} → PoolIsUnseen E
pool_unseen = record {
  client = λ standing s c m. client_still_matches s c (record c { standing = standing }) refl refl refl m;
  server = λ mark standing s c m. server_still_matches s c (record c { mark = mark; standing = standing }) refl refl refl refl refl (λ message some of. of) m;
}
