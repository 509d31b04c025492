-- A server that takes packets straight from a piece.
use Rattle.std.proofs.Common.{◌≡◌, ◌≢◌, ◌∙◌, ◌+◌, ◌≤◌, inl, inr, ℕ, List, [], ◌++◌, length, drop, sym, ap, refl, subst, Option, Some, None, Ok, Err, arith}
use Rattle.tds_packet.specs.declared.header.Header.{Header}
use Rattle.tds_packet.specs.declared.kind.Direction.{Direction}
use Rattle.tds_packet.specs.Layout.{header_bytes}
use Rattle.tds_packet.specs.Reading.{Reading, with_taken}
use Rattle.tds_packet.specs.Stream.{IsLess}
use Rattle.tds_server.specs.declared.fault.ServerFault.{ServerFault}
use Rattle.tds_server.specs.declared.outcome.ServerTook.{ServerTook}
use Rattle.tds_server.specs.State.{ServerState}
use Rattle.tds_server.specs.Taking.{taken}
use Rattle.tds_session.specs.Answer.{Answers}
use Rattle.tds_ends.specs.declared.serving.ServerFed.{ServerFed}
use Rattle.tds_ends.specs.declared.serving.ServerStop.{ServerStop}
use Rattle.tds_ends.specs.declared.serving.ServerStop.TheVariants as server_stop
use Rattle.tds_ends.specs.AllBytes.{new_reader}
use Rattle.tds_ends.specs.Ends.{Serves, EndServes, ServerKeeps, server_stops, server_lacking, server_fed_twice}
use Rattle.tds_ends.specs.Lent.{IsFront, ServerWants, ServerWaits, ServerReplied, ServerLeaves, LentToServer}
use Rattle.tds_ends.proofs.FedServer.{Serving, goes_on, then_more}
use Rattle.tds_ends.proofs.Lent.{feeds_behind, feeds_whole, front_on, lent_behind, lent_still, lent_up_to, rest_wants_room}

-- At want of memory the server is as it was.
pub wanting : {E : Type 0} → (answers : Answers) (s new : ServerState E) (header : Header) (content : List ℕ) → new ≡ s → ServerWants answers s header content → ServerWants answers new header content
wanting answers s new header content same wants = subst (λ x. ServerWants answers x header content) (sym same) wants

-- ---- One packet after the other

pub serves_on : {E : Type 0} (answers : Answers) (direction : Direction) (size : ℕ) (piece content : List ℕ) (header : Header) (count n : ℕ) (s state then : ServerState E) (reply before out : List ℕ) (took : ServerTook) → Serving answers (new_reader direction size) (new_reader direction size) piece count s state reply before → IsFront direction size (drop count piece) header content → n ≡ 8 + length content → Ok took ≡ (taken answers state header content).answer → then ≡ (taken answers state header content).state → out ≡ before ++ (taken answers state header content).reply → Serving answers (new_reader direction size) (new_reader direction size) piece (count + n) s then reply out
serves_on answers direction size piece content header count n s state then reply before out took l front long does then_is out_is =
    let r : Reading = new_reader direction size in
    goes_on answers r (with_taken r (header_bytes header ++ content)) r piece content header (count + n) s state then reply before out took l.packets
    (front_on direction size piece content header count n l.packets l.bytes front long) l.took front.2 refl does then_is out_is

pub serves_all : {E : Type 0} (answers : Answers) (direction : Direction) (size : ℕ) (piece : List ℕ) (count : ℕ) (s state : ServerState E) (reply out : List ℕ) → Serving answers (new_reader direction size) (new_reader direction size) piece count s state reply out → IsLess (new_reader direction size) (drop count piece) → LentToServer answers (new_reader direction size) piece s state reply out (record { count = count; stop = None })
serves_all answers direction size piece count s state reply out l less =
    lent_up_to (ServerReplied answers s reply out) (ServerLeaves None answers (new_reader direction size) state) direction size piece count l.packets
    (record { state = state; reply = out }) l.bytes (l.took, refl) (refl, refl, less)

pub serves_wanting : {E : Type 0} (answers : Answers) (direction : Direction) (size : ℕ) (piece content : List ℕ) (header : Header) (count : ℕ) (s state new : ServerState E) (reply before out : List ℕ) → Serving answers (new_reader direction size) (new_reader direction size) piece count s state reply before → IsFront direction size (drop count piece) header content → new ≡ state → out ≡ before → ServerWants answers state header content → LentToServer answers (new_reader direction size) piece s new reply out (record { count = count; stop = Some server_stop.NoMemory })
serves_wanting answers direction size piece content header count s state new reply before out l front same out_is wanting =
    lent_up_to (ServerReplied answers s reply out) (ServerLeaves (Some server_stop.NoMemory) answers (new_reader direction size) new) direction size piece count l.packets
    (record { state = state; reply = before }) l.bytes (l.took, out_is) (
      refl,
      same,
      inl (record { bytes = header_bytes header ++ content; header = header; content = content }, front.0, front.2, front.1, wanting),
    )

pub serves_refused : {E : Type 0} (answers : Answers) (direction : Direction) (size : ℕ) (piece content : List ℕ) (header : Header) (count n : ℕ) (s state new : ServerState E) (reply before out : List ℕ) (fault : ServerFault) → Serving answers (new_reader direction size) (new_reader direction size) piece count s state reply before → IsFront direction size (drop count piece) header content → n ≡ 8 + length content → out ≡ before → (taken answers state header content).answer ≡ Err fault → new ≡ (taken answers state header content).state → LentToServer answers (new_reader direction size) piece s new reply out (record { count = count + n; stop = Some (server_stop.Server fault) })
serves_refused answers direction size piece content header count n s state new reply before out fault l front long out_is refused broken =
    lent_behind (ServerReplied answers s reply out) (ServerLeaves (Some (server_stop.Server fault)) answers (new_reader direction size) new) direction size piece content header count n l.packets
    (record { state = state; reply = before }) l.bytes front long (l.took, out_is)
    (record { bytes = header_bytes header ++ content; header = header; content = content }, front.2, refl, (refused, broken))

-- ---- And then the rest

-- All of the piece was taken.
whole_by : {E : Type 0} (answers : Answers) (r : Reading) (piece : List ℕ) (s now : ServerState E) (reply after : List ℕ) (count : ℕ) (stop : Option ServerStop) → r.taken ≡ [] → stop ≡ None → count ≡ length piece → LentToServer answers r piece s now reply after (record { count = count; stop = stop }) → Serves answers r r piece s now reply after (record { count = count; stop = stop })
whole_by answers r piece s now reply after count (Some stop) empty none all l = absurd (cc)
whole_by answers r piece s now reply after count None empty none all l = record {
  packets = l.packets;
  left = l.left;
  then = l.then;
  feeds = feeds_whole (ServerReplied answers s reply after) (ServerLeaves None answers r now) r piece count l empty all l.leaves.0 l.leaves.2;
  serves = l.took.0;
  replies = l.took.1;
  server = l.leaves.1;
}

pub served_whole : {E : Type 0} (answers : Answers) (r : Reading) (piece : List ℕ) (s now : ServerState E) (reply after : List ℕ) (fed : ServerFed) → r.taken ≡ [] → fed.stop ≡ None → fed.count ≡ length piece → LentToServer answers r piece s now reply after fed → EndServes answers r r piece s now reply after fed
served_whole answers r piece s now reply after fed empty none all l =
    inl (whole_by answers r piece s now reply after fed.count fed.stop empty none all l, subst (λ (x : Option ServerStop). ServerWaits x answers r now) (sym none) tt)

-- It stopped, and holds none.
pub served_stopped : {E : Type 0} → (answers : Answers) (r new : Reading) (piece : List ℕ) (s now : ServerState E) (reply after : List ℕ) (fed : ServerFed) → r.taken ≡ [] → new ≡ r → fed.stop ≢ None → LentToServer answers r piece s now reply after fed → EndServes answers r new piece s now reply after fed
served_stopped answers r new piece s now reply after fed empty same some l = inr (empty, same, some, l)

behind_by : {E : Type 0} (answers : Answers) (r new : Reading) (piece : List ℕ) (s between now : ServerState E) (reply some after : List ℕ) (count : ℕ) (stop : Option ServerStop) (second : ServerFed) → r.taken ≡ [] → stop ≡ None → count ≤ length piece → LentToServer answers r piece s between reply some (record { count = count; stop = stop }) → Serves answers r new (drop count piece) between now some after second → Serves answers r new piece s now reply after (server_fed_twice (record { count = count; stop = stop }) second)
behind_by answers r new piece s between now reply some after count (Some stop) second empty none within a b = absurd (cc)
behind_by answers r new piece s between now reply some after count None second empty none within a b =
    let at : between ≡ a.then.state = a.leaves.1 in
    let later = b.serves in
    record {
      packets = a.packets ++ b.packets;
      left = b.left;
      then = b.then;
      feeds = feeds_behind (ServerReplied answers s reply some) (ServerLeaves None answers r between) (server_stops second.stop) r new piece b.left count second.count b.packets a empty within a.leaves.0 b.feeds;
      serves = then_more answers s reply a.packets b.packets a.then a.took.0 ∙ rw (sym at, sym a.took.1) later;
      replies = b.replies;
      server = b.server;
    }

-- There was no buffer for the rest.
lacking_by : {E : Type 0} (answers : Answers) (r : Reading) (piece : List ℕ) (s between now : ServerState E) (reply some after : List ℕ) (count : ℕ) (stop : Option ServerStop) → stop ≡ None → count ≤ length piece → count ≢ length piece → now ≡ between → after ≡ some → LentToServer answers r piece s between reply some (record { count = count; stop = stop }) → LentToServer answers r piece s now reply after (server_fed_twice (record { count = count; stop = stop }) server_lacking)
lacking_by answers r piece s between now reply some after count (Some stop) none within more same still a = absurd (cc)
lacking_by answers r piece s between now reply some after count None none within more same still a =
    lent_still (ServerReplied answers s reply some) (ServerReplied answers s reply after) (ServerLeaves None answers r between) (ServerLeaves (Some server_stop.NoMemory) answers r now) r piece count a
    (a.took.0, still ∙ a.took.1)
    (a.leaves.0 ∙ ap (λ (k : ℕ). drop k piece) (omega arith), same ∙ a.leaves.1, inr (rest_wants_room r piece a.left count within more a.leaves.0 a.leaves.2))

pub served_behind : {E : Type 0} (answers : Answers) (r new : Reading) (piece rest : List ℕ) (s between now : ServerState E) (reply some after : List ℕ) (first second fed : ServerFed) → r.taken ≡ [] → first.stop ≡ None → first.count ≤ length piece → first.count ≢ length piece → rest ≡ drop first.count piece → fed ≡ server_fed_twice first second → LentToServer answers r piece s between reply some first → ServerKeeps answers r new rest between now some after second → EndServes answers r new piece s now reply after fed
served_behind {E} answers r new piece rest s between now reply some after first second fed empty none within more rest_is is a b =
    subst (λ (x : ServerFed). EndServes answers r new piece s now reply after x) (sym is)
    (elim (subst (λ (xs : List ℕ). ServerKeeps answers r new xs between now some after second) rest_is b) [
      | inl kept ↦ inl (behind_by answers r new piece s between now reply some after first.count first.stop second empty none within a kept.0, kept.1)
      | inr lacking ↦
          inr (
            empty,
            lacking.1.reader,
            subst (λ (x : ServerFed). x.stop ≢ None) (sym lacking.0) (λ e. absurd (cc)),
            subst (λ (x : ServerFed). LentToServer answers r piece s now reply after (server_fed_twice first x)) (sym lacking.0)
                (lacking_by answers r piece s between now reply some after first.count first.stop none within more lacking.1.core lacking.1.appended a),
          )
    ])
