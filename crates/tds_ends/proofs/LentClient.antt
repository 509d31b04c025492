-- A client that takes packets straight from a piece.
use Rattle.std.proofs.Common.{◌≡◌, ◌≢◌, ◌∙◌, ◌+◌, ◌≤◌, inl, inr, ℕ, List, [], ◌++◌, length, drop, sym, ap, refl, subst, Option, Some, None, Ok, Err, arith}
use Rattle.tds_client.specs.declared.fault.ClientFault.{ClientFault}
use Rattle.tds_client.specs.declared.state.Taken.{Taken}
use Rattle.tds_client.specs.declared.state.Taken.TheVariants.{More, Finished, Acknowledged, NoMemory}
use Rattle.tds_client.specs.Session.{ClientSession}
use Rattle.tds_client.specs.Taking.{Takes, broken_by}
use Rattle.tds_packet.specs.declared.header.Header.{Header}
use Rattle.tds_packet.specs.declared.kind.Direction.{Direction}
use Rattle.tds_packet.specs.Layout.{header_bytes}
use Rattle.tds_packet.specs.Reading.{Reading, with_taken}
use Rattle.tds_packet.specs.Stream.{IsLess}
use Rattle.tds_token.specs.declared.token.Token.{Token}
use Rattle.tds_world.specs.declared.report.RequestStatus.{RequestStatus}
use Rattle.tds_ends.specs.declared.listening.ClientFed.{ClientFed}
use Rattle.tds_ends.specs.declared.listening.ClientStop.{ClientStop}
use Rattle.tds_ends.specs.declared.listening.ClientStop.TheVariants as client_stop
use Rattle.tds_ends.specs.AllBytes.{new_reader}
use Rattle.tds_ends.specs.Ends.{Listens, EndListens, ClientKeeps, client_stops, client_lacking, client_fed_twice, settled_last}
use Rattle.tds_ends.specs.Feeding.{settled_by}
use Rattle.tds_ends.specs.Lent.{IsFront, ClientWants, client_takes, ClientWaits, ClientTook, ClientLeaves, LentToClient}
use Rattle.tds_ends.proofs.Cutting.{settled_before, with_settled}
use Rattle.tds_ends.proofs.FedClient.{Listening, goes_on, then_more}
use Rattle.tds_ends.proofs.Lent.{feeds_behind, feeds_whole, front_on, lent_behind, lent_still, lent_up_to, rest_wants_room}

-- What the client says where it wants memory.
pub wants : (s new : ClientSession) (header : Header) (content : List ℕ) (answer : Taken) (before after : List Token) → answer ≡ NoMemory → Takes (client_takes s header content) answer s new before after → ClientWants new header content
wants s new header content More before after none is = absurd (cc)
wants s new header content Finished before after none is = absurd (cc)
wants s new header content Acknowledged before after none is = absurd (cc)
wants s new header content NoMemory before after none is =
    subst (λ (x : ClientSession). ClientWants x header content) (sym is.session)
    (record { reading = is.reading; lawful = is.lawful; telling = is.telling })

-- ---- One packet after the other

pub hears_on : (direction : Direction) (size : ℕ) (piece content : List ℕ) (header : Header) (count n : ℕ) (s session then : ClientSession) (told before out more : List Token) (settled settles : Option RequestStatus) (took : Taken) → Listening (new_reader direction size) (new_reader direction size) piece count s session told before settled → IsFront direction size (drop count piece) header content → n ≡ 8 + length content → client_takes session header content ≡ Ok (record { answer = took; session = then; tokens = more }) → out ≡ before ++ more → settles ≡ settled_by took settled → Listening (new_reader direction size) (new_reader direction size) piece (count + n) s then told out settles
hears_on direction size piece content header count n s session then told before out more settled settles took l front long does out_is settles_is =
    let r : Reading = new_reader direction size in
    goes_on r (with_taken r (header_bytes header ++ content)) r piece content header (count + n) s session then told out more settled settles before took l.packets
    (front_on direction size piece content header count n l.packets l.bytes front long) l.took front.2 refl does out_is settles_is

pub hears_all : (direction : Direction) (size : ℕ) (piece : List ℕ) (count : ℕ) (s session : ClientSession) (told out : List Token) (settled : Option RequestStatus) → Listening (new_reader direction size) (new_reader direction size) piece count s session told out settled → IsLess (new_reader direction size) (drop count piece) → LentToClient (new_reader direction size) piece s session told out (record { count = count; settled = settled; stop = None })
hears_all direction size piece count s session told out settled l less =
    lent_up_to (ClientTook s told out settled) (ClientLeaves None (new_reader direction size) session) direction size piece count l.packets
    (record { session = session; settled = settled; told = out }) l.bytes (l.took, refl, refl) (refl, refl, less)

pub hears_wanting : (direction : Direction) (size : ℕ) (piece content : List ℕ) (header : Header) (count : ℕ) (s session new : ClientSession) (told before out : List Token) (settled : Option RequestStatus) → Listening (new_reader direction size) (new_reader direction size) piece count s session told before settled → IsFront direction size (drop count piece) header content → new ≡ session → out ≡ before → ClientWants new header content → LentToClient (new_reader direction size) piece s new told out (record { count = count; settled = settled; stop = Some client_stop.NoMemory })
hears_wanting direction size piece content header count s session new told before out settled l front same out_is wanting =
    lent_up_to (ClientTook s told out settled) (ClientLeaves (Some client_stop.NoMemory) (new_reader direction size) new) direction size piece count l.packets
    (record { session = session; settled = settled; told = before }) l.bytes (l.took, refl, out_is) (
      refl,
      same,
      inl (record { bytes = header_bytes header ++ content; header = header; content = content }, front.0, front.2, front.1, subst (λ (x : ClientSession). ClientWants x header content) same wanting),
    )

pub hears_refused : (direction : Direction) (size : ℕ) (piece content : List ℕ) (header : Header) (count n : ℕ) (s session new : ClientSession) (told before out : List Token) (settled : Option RequestStatus) (fault : ClientFault) → Listening (new_reader direction size) (new_reader direction size) piece count s session told before settled → IsFront direction size (drop count piece) header content → n ≡ 8 + length content → out ≡ before → client_takes session header content ≡ Err fault → new ≡ broken_by session fault → LentToClient (new_reader direction size) piece s new told out (record { count = count + n; settled = settled; stop = Some (client_stop.Client fault) })
hears_refused direction size piece content header count n s session new told before out settled fault l front long out_is refused broken =
    lent_behind (ClientTook s told out settled) (ClientLeaves (Some (client_stop.Client fault)) (new_reader direction size) new) direction size piece content header count n l.packets
    (record { session = session; settled = settled; told = before }) l.bytes front long (l.took, refl, out_is)
    (record { bytes = header_bytes header ++ content; header = header; content = content }, front.2, refl, (refused, broken))

-- ---- And then the rest

-- All of the piece was heard.
whole_by : (r : Reading) (piece : List ℕ) (s now : ClientSession) (told after : List Token) (count : ℕ) (settled : Option RequestStatus) (stop : Option ClientStop) → r.taken ≡ [] → stop ≡ None → count ≡ length piece → LentToClient r piece s now told after (record { count = count; settled = settled; stop = stop }) → Listens r r piece s now told after (record { count = count; settled = settled; stop = stop })
whole_by r piece s now told after count settled (Some stop) empty none all l = absurd (cc)
whole_by r piece s now told after count settled None empty none all l = record {
  packets = l.packets;
  left = l.left;
  then = l.then;
  feeds = feeds_whole (ClientTook s told after settled) (ClientLeaves None r now) r piece count l empty all l.leaves.0 l.leaves.2;
  listens = l.took.0;
  settled = l.took.1;
  tells = l.took.2;
  client = l.leaves.1;
}

pub heard_whole : (r : Reading) (piece : List ℕ) (s now : ClientSession) (told after : List Token) (fed : ClientFed) → r.taken ≡ [] → fed.stop ≡ None → fed.count ≡ length piece → LentToClient r piece s now told after fed → EndListens r r piece s now told after fed
heard_whole r piece s now told after fed empty none all l =
    inl (whole_by r piece s now told after fed.count fed.settled fed.stop empty none all l, subst (λ (x : Option ClientStop). ClientWaits x r now) (sym none) tt)

-- It stopped, and holds none.
pub heard_stopped : (r new : Reading) (piece : List ℕ) (s now : ClientSession) (told after : List Token) (fed : ClientFed) → r.taken ≡ [] → new ≡ r → fed.stop ≢ None → LentToClient r piece s now told after fed → EndListens r new piece s now told after fed
heard_stopped r new piece s now told after fed empty same some l = inr (empty, same, some, l)

behind_by : (r new : Reading) (piece : List ℕ) (s between now : ClientSession) (told some after : List Token) (count : ℕ) (settled : Option RequestStatus) (stop : Option ClientStop) (second : ClientFed) → r.taken ≡ [] → stop ≡ None → count ≤ length piece → LentToClient r piece s between told some (record { count = count; settled = settled; stop = stop }) → Listens r new (drop count piece) between now some after second → Listens r new piece s now told after (client_fed_twice (record { count = count; settled = settled; stop = stop }) second)
behind_by r new piece s between now told some after count settled (Some stop) second empty none within a b = absurd (cc)
behind_by r new piece s between now told some after count settled None second empty none within a b =
    let at : between ≡ a.then.session = a.leaves.1 in
    let later = settled_before between None settled some b.packets b.then b.listens in
    record {
      packets = a.packets ++ b.packets;
      left = b.left;
      then = with_settled settled b.then;
      feeds = feeds_behind (ClientTook s told some settled) (ClientLeaves None r between) (client_stops second.stop) r new piece b.left count second.count b.packets a empty within a.leaves.0 b.feeds;
      listens = then_more s None told a.packets b.packets a.then a.took.0 ∙ rw (sym at, sym a.took.1, sym a.took.2) later;
      settled = ap (λ x. settled_last x settled) b.settled;
      tells = b.tells;
      client = b.client;
    }

-- There was no buffer for the rest.
lacking_by : (r : Reading) (piece : List ℕ) (s between now : ClientSession) (told some after : List Token) (count : ℕ) (settled : Option RequestStatus) (stop : Option ClientStop) → stop ≡ None → count ≤ length piece → count ≢ length piece → now ≡ between → after ≡ some → LentToClient r piece s between told some (record { count = count; settled = settled; stop = stop }) → LentToClient r piece s now told after (client_fed_twice (record { count = count; settled = settled; stop = stop }) client_lacking)
lacking_by r piece s between now told some after count settled (Some stop) none within more same still a = absurd (cc)
lacking_by r piece s between now told some after count settled None none within more same still a =
    lent_still (ClientTook s told some settled) (ClientTook s told after settled) (ClientLeaves None r between) (ClientLeaves (Some client_stop.NoMemory) r now) r piece count a
    (a.took.0, a.took.1, still ∙ a.took.2)
    (a.leaves.0 ∙ ap (λ (k : ℕ). drop k piece) (omega arith), same ∙ a.leaves.1, inr (rest_wants_room r piece a.left count within more a.leaves.0 a.leaves.2))

pub heard_behind : (r new : Reading) (piece rest : List ℕ) (s between now : ClientSession) (told some after : List Token) (first second fed : ClientFed) → r.taken ≡ [] → first.stop ≡ None → first.count ≤ length piece → first.count ≢ length piece → rest ≡ drop first.count piece → fed ≡ client_fed_twice first second → LentToClient r piece s between told some first → ClientKeeps r new rest between now some after second → EndListens r new piece s now told after fed
heard_behind r new piece rest s between now told some after first second fed empty none within more rest_is is a b =
    subst (λ (x : ClientFed). EndListens r new piece s now told after x) (sym is)
    (elim (subst (λ (xs : List ℕ). ClientKeeps r new xs between now some after second) rest_is b) [
      | inl kept ↦ inl (behind_by r new piece s between now told some after first.count first.settled first.stop second empty none within a kept.0, kept.1)
      | inr lacking ↦
          inr (
            empty,
            lacking.1.reader,
            subst (λ (x : ClientFed). x.stop ≢ None) (sym lacking.0) (λ e. absurd (cc)),
            subst (λ (x : ClientFed). LentToClient r piece s now told after (client_fed_twice first x)) (sym lacking.0)
                (lacking_by r piece s between now told some after first.count first.settled first.stop none within more lacking.1.core lacking.1.appended a),
          )
    ])
