-- A server that takes packets, one after the other.
use Rattle.std.proofs.Common.{◌≡◌, ◌∙◌, ◌≤◌, ◌+◌, ℕ, List, [], ◌∷◌, ◌++◌, length, take, length-append, sym, ap, refl, append-nil, Option, Some, Result, Ok, Err, arith}
use Rattle.std.proofs.lemmas.List.{length-take-le}
use Rattle.tds_packet.specs.declared.header.Header.{Header}
use Rattle.tds_packet.specs.Layout.{IsPacket}
use Rattle.tds_packet.specs.Reading.{Reading, with_taken}
use Rattle.tds_server.specs.declared.fault.ServerFault.{ServerFault}
use Rattle.tds_server.specs.declared.outcome.ServerTook.{ServerTook}
use Rattle.tds_server.specs.State.{ServerState}
use Rattle.tds_server.specs.Taking.{Move, taken, taken_as, moved}
use Rattle.tds_session.specs.Answer.{Answers}
use Rattle.tds_ends.specs.declared.serving.ServerStop.{ServerStop}
use Rattle.tds_ends.specs.Ends.{Feeds, IsServerAt, Serves, server_stops}
use Rattle.tds_ends.specs.Feeding.{Coming, Served, served, unless_refused}
use Rattle.tds_ends.proofs.Feeding.{SoFar, done_on}

-- So far the server took these packets.
pub record Serving {E : Type 0} (answers : Answers) (r now : Reading) (piece : List ℕ) (count : ℕ) (s state : ServerState E) (reply out : List ℕ) : Type 0 where
  pub packets : List Coming
  pub bytes : SoFar r now piece count packets
  pub took : served answers s reply packets ≡ Some (record { state = state; reply = out })

-- ---- Packets, and then more of them

-- A packet, and those behind it: what is made of the packets behind is known.
on_first : {E : Type 0} (answer : Result ServerTook ServerFault) (f g : Option (Served E)) (then : Served E) (o : Option (Served E)) → (f ≡ Some then → g ≡ o) → unless_refused answer f ≡ Some then → unless_refused answer g ≡ o
on_first (Ok took) f g then o later is = later is
on_first (Err fault) f g then o later is = absurd (cc)

pub then_more : {E : Type 0} (answers : Answers) (s : ServerState E) (reply : List ℕ) (ps qs : List Coming) (then : Served E) → served answers s reply ps ≡ Some then → served answers s reply (ps ++ qs) ≡ served answers then.state then.reply qs
then_more {E} answers s reply [] qs then is =
    let same : record { state = s; reply = reply } ≡ then = cc in
    ap (λ (t : Served E). served answers t.state t.reply qs) same
then_more answers s reply (p ∷ ps) qs then is =
    on_first (taken answers s p.header p.content).answer _ _ then _
    (λ e. then_more answers (taken answers s p.header p.content).state (reply ++ (taken answers s p.header p.content).reply) ps qs then e) is

-- ---- The packet that the reader holds

-- A packet that is refused is not replied to.
quietly : {E : Type 0} (s : ServerState E) (m : Result Move ServerFault) (fault : ServerFault) → Err fault ≡ (taken_as s m).answer → (taken_as s m).reply ≡ []
quietly s (Ok m) fault e = absurd (cc)
quietly s (Err other) fault e = refl

pub refused_quietly : {E : Type 0} (answers : Answers) (s : ServerState E) (header : Header) (content before after : List ℕ) (fault : ServerFault) → Err fault ≡ (taken answers s header content).answer → after ≡ before ++ (taken answers s header content).reply → after ≡ before
refused_quietly answers s header content before after fault e is =
    is ∙ ap (λ (xs : List ℕ). before ++ xs) (quietly s (moved answers s.on_attention s.session s.phase header content) fault e) ∙ append-nil before

pub same_took : (a b : ServerTook) (r : Result ServerTook ServerFault) → r ≡ Ok a → r ≡ Ok b → a ≡ b
same_took a b r e f = cc

-- It is taken, and done.
pub goes_on : {E : Type 0} (answers : Answers) (r now gone : Reading) (piece content : List ℕ) (header : Header) (count : ℕ) (s state then : ServerState E) (reply before out : List ℕ) (took : ServerTook) (packets : List Coming) → SoFar r now piece count packets → served answers s reply packets ≡ Some (record { state = state; reply = before }) → IsPacket now.direction now.size now.taken header content → gone ≡ with_taken now [] → Ok took ≡ (taken answers state header content).answer → then ≡ (taken answers state header content).state → out ≡ before ++ (taken answers state header content).reply → Serving answers r gone piece count s then reply out
goes_on answers r now gone piece content header count s state then reply before out took packets bytes so is done does then_is out_is = record {
  packets = packets ++ record { bytes = now.taken; header = header; content = content } ∷ [];
  bytes = done_on r now gone piece content header count packets bytes is done;
  took =
      then_more answers s reply packets (record { bytes = now.taken; header = header; content = content } ∷ []) _ so
      ∙ ap (λ x. unless_refused x (Some (record { state = (taken answers state header content).state; reply = before ++ (taken answers state header content).reply }))) (sym does)
      ∙ rw (out_is, then_is) refl;
}

-- ---- Where it stopped

pub stopped : {E : Type 0} (answers : Answers) (r now new : Reading) (piece left : List ℕ) (count n : ℕ) (s state then : ServerState E) (reply out after : List ℕ) (stop : Option ServerStop) → (l : Serving answers r now piece count s state reply out) → Feeds r new piece n (server_stops stop) l.packets left → after ≡ out → IsServerAt stop answers new state then → Serves answers r new piece s then reply after (record { count = n; stop = stop })
stopped answers r now new piece left count n s state then reply out after stop l feeds replies at = record {
  packets = l.packets;
  left = left;
  then = record { state = state; reply = out };
  feeds = feeds;
  serves = l.took;
  replies = replies;
  server = at;
}

-- ---- How much is appended

pub fed_length : (n : ℕ) (old slice new : List ℕ) → new ≡ old ++ take n slice → n ≤ length slice → length new ≡ length old + n
fed_length n old slice new is within = omega (arith, ap length is, length-append old (take n slice), length-take-le n slice within)

pub whole_length : (r : Reading) (header : Header) (content : List ℕ) → IsPacket r.direction r.size r.taken header content → 8 ≤ length r.taken
whole_length r header content is = omega (arith, ap length is.laid_out.spelled)
