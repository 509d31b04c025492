-- A piece and then another one are fed as both are, joined.
use Rattle.std.proofs.Common.{◌≡◌, ◌∙◌, ◌+◌, ◌-◌, ◌≤◌, ℕ, List, [], ◌∷◌, ◌++◌, length, drop, sym, ap, refl, subst, Option, Some, None, Result, Ok, Err, append_assoc, append-nil, arith, length-append, length-drop}
use Rattle.std.proofs.lemmas.Grind.{flat_map-append}
use Rattle.std.proofs.lemmas.List.{drop-drop, drop_all, drop-append-le}
use Rattle.std.specs.List.{AllByRecursion}
use Rattle.tds_client.specs.declared.fault.ClientFault.{ClientFault}
use Rattle.tds_client.specs.declared.state.Taken.{Taken}
use Rattle.tds_client.specs.declared.state.Taken.TheVariants as takes
use Rattle.tds_client.specs.Session.{ClientSession}
use Rattle.tds_client.specs.Taking.{ClientMove, taken}
use Rattle.tds_packet.specs.Layout.{bits_of, has_bit}
use Rattle.tds_packet.specs.Reading.{Reading, with_taken, fault_of, end_of, up_to_end}
use Rattle.tds_packet.specs.Stream.{IsLess}
use Rattle.tds_server.specs.State.{ServerState}
use Rattle.tds_session.specs.Answer.{Answers}
use Rattle.tds_token.specs.declared.token.Token.{Token}
use Rattle.tds_world.specs.declared.report.RequestStatus.{RequestStatus}
use Rattle.tds_ends.specs.declared.listening.ClientFed.{ClientFed}
use Rattle.tds_ends.specs.declared.listening.ClientStop.{ClientStop}
use Rattle.tds_ends.specs.declared.listening.ClientStop.TheVariants as client_stop
use Rattle.tds_ends.specs.declared.serving.ServerFed.{ServerFed}
use Rattle.tds_ends.specs.declared.serving.ServerStop.{ServerStop}
use Rattle.tds_ends.specs.declared.serving.ServerStop.TheVariants as server_stop
use Rattle.tds_ends.specs.Ends.{Stop, Drained, Faulty, Held, IsLeft, Feeds, Listens, Serves, IsClientAt, IsServerAt, client_stops, server_stops, ClientGoesOn, ServerGoesOn, settled_last, client_fed_twice, server_fed_twice}
use Rattle.tds_ends.specs.Feeding.{Coming, IsComing, Listened, listened, on_taken, settled_by, bytes_of}
use Rattle.tds_ends.proofs.FedClient as client
use Rattle.tds_ends.proofs.FedServer as server

pub all_both : (P : Coming → Type 0) (ps qs : List Coming) → AllByRecursion P ps → AllByRecursion P qs → AllByRecursion P (ps ++ qs)
all_both P [] qs a b = b
all_both P (p ∷ ps) qs a b = (a.0, all_both P ps qs a.1 b)

-- What is left of the first piece: what the reader holds, and what it did not take.
drained_on : (mid : Reading) (piece left : List ℕ) (count : ℕ) → mid.taken ≡ left → count ≡ length piece → left ≡ mid.taken ++ drop count piece
drained_on mid piece left count is all =
    sym is ∙ sym (append-nil mid.taken) ∙ ap (λ (xs : List ℕ). mid.taken ++ xs) (sym (drop_all count piece (omega (arith, all))))

rest_of_both : (count : ℕ) (piece more : List ℕ) → count ≤ length piece → drop count (piece ++ more) ≡ drop count piece ++ more
rest_of_both count piece more h = drop-append-le count piece more h

-- Where the second call stopped, the one of both stopped.
fault_same : (r : Reading) (taken bytes : List ℕ) → fault_of (with_taken r taken) bytes ≡ fault_of r bytes
unfolding fault_of
fault_same r taken bytes = refl

end_same : (r : Reading) (taken bytes : List ℕ) → up_to_end (with_taken r taken) bytes ≡ up_to_end r bytes
unfolding end_of
end_same r taken bytes = refl

pub stops_so : (stop : Stop) (r mid new : Reading) (piece more left : List ℕ) (first second : ℕ) → first ≤ length piece → mid ≡ with_taken r mid.taken → IsLeft stop mid new (drop first piece ++ more) second left → IsLeft stop r new (piece ++ more) (first + second) left
stops_so Drained r mid new piece more left first second within same is =
    let long : length (drop first piece ++ more) ≡ length (drop first piece) + length more = length-append (drop first piece) more in
    let short : length (drop first piece) ≡ length piece - first = length-drop first piece in
    let both : length (piece ++ more) ≡ length piece + length more = length-append piece more in
    let all : second ≡ length (drop first piece ++ more) = is.3 in (
      subst (λ (x : Reading). IsLess x left) same is.0,
      sym (fault_same r mid.taken left) ∙ sym (ap (λ (x : Reading). fault_of x left) same) ∙ is.1,
      is.2,
      omega (arith, long, short, both, all, within),
    )
stops_so (Faulty fault) r mid new piece more left first second within same is =
    let long : length (drop first piece ++ more) ≡ length (drop first piece) + length more = length-append (drop first piece) more in
    let short : length (drop first piece) ≡ length piece - first = length-drop first piece in
    let both : length (piece ++ more) ≡ length piece + length more = length-append piece more in
    let all : second ≡ length (drop first piece ++ more) = is.3 in (
      subst (λ (x : Reading). IsLess x left) same is.0,
      sym (fault_same r mid.taken left) ∙ sym (ap (λ (x : Reading). fault_of x left) same) ∙ is.1,
      is.2 ∙ ap (λ (x : Reading). up_to_end x left) same ∙ end_same r mid.taken left,
      omega (arith, long, short, both, all, within),
    )
stops_so Held r mid new piece more left first second within same is = (
  is.0,
  is.1 ∙ ap (λ (xs : List ℕ). new.taken ++ xs)
      (ap (drop second) (sym (rest_of_both first piece more within)) ∙ drop-drop second first (piece ++ more)),
)

feeds_both : (one two : Stop) (r mid new : Reading) (piece more : List ℕ) (first second : ℕ) (ps qs : List Coming) (left rest : List ℕ) → left ≡ mid.taken ++ drop first piece → first ≤ length piece → Feeds r mid piece first one ps left → Feeds mid new (drop first piece ++ more) second two qs rest → Feeds r new (piece ++ more) (first + second) two (ps ++ qs) rest
feeds_both one two r mid new piece more first second ps qs left rest is within a b = record {
  each = all_both (IsComing r) ps qs a.each (subst (λ (x : Reading). AllByRecursion (IsComing x) qs) a.same b.each);
  joined =
      sym (append_assoc r.taken piece more)
      ∙ ap (λ (xs : List ℕ). xs ++ more) (a.joined ∙ ap (λ (xs : List ℕ). bytes_of ps ++ xs) is)
      ∙ append_assoc (bytes_of ps) (mid.taken ++ drop first piece) more
      ∙ ap (λ (xs : List ℕ). bytes_of ps ++ xs) (append_assoc mid.taken (drop first piece) more ∙ b.joined)
      ∙ sym (append_assoc (bytes_of ps) (bytes_of qs) rest)
      ∙ ap (λ (xs : List ℕ). xs ++ rest) (sym (flat_map-append (λ (q : Coming). q.bytes) ps qs));
  same = b.same ∙ ap (λ (x : Reading). with_taken x new.taken) a.same;
  is_left = stops_so two r mid new piece more rest first second within a.same b.is_left;
}

-- ---- At a client

settles_last : (t : Taken) (before first : Option RequestStatus) → settled_by t (settled_last before first) ≡ settled_last (settled_by t before) first
settles_last takes.More before first = refl
settles_last takes.Finished before first = refl
settles_last takes.Acknowledged before first = refl
settles_last takes.NoMemory before first = refl

-- The same, with what was settled before.
abbrev pub with_settled : Option RequestStatus → Listened → Listened
with_settled first then = record then { settled = settled_last then.settled first }

on_each : (found : Result ClientMove ClientFault) (f g : ClientMove → Option Listened) (then other : Listened) → ((t : ClientMove) → f t ≡ Some then → g t ≡ Some other) → on_taken found f ≡ Some then → on_taken found g ≡ Some other
on_each (Ok t) f g then other later is = later t is
on_each (Err fault) f g then other later is = absurd (cc)

pub settled_before : (s : ClientSession) (before first : Option RequestStatus) (told : List Token) (ps : List Coming) (then : Listened) → listened s before told ps ≡ Some then → listened s (settled_last before first) told ps ≡ Some (with_settled first then)
settled_before s before first told [] then is =
    let same : record { session = s; settled = before; told = told } ≡ then = cc in
    ap (λ (t : Listened). Some (with_settled first t)) same
settled_before s before first told (p ∷ ps) then is =
    on_each (taken s (has_bit (bits_of p.header.status) 1) p.content) _ _ then (with_settled first then)
    (λ t e. ap (λ x. listened t.session x (told ++ t.tokens) ps) (settles_last t.answer before first)
    ∙ settled_before t.session (settled_by t.answer before) first (told ++ t.tokens) ps then e) is

client_at : (stop : Option ClientStop) (held : Reading) (then now : ClientSession) → ClientGoesOn stop → IsClientAt stop held then now → now ≡ then
client_at None held then now on is = is
client_at (Some (client_stop.Packet fault)) held then now on is = absurd on
client_at (Some (client_stop.Client fault)) held then now on is = absurd on
client_at (Some client_stop.NoMemory) held then now on is = is

client_left : (stop : Option ClientStop) (r mid : Reading) (piece left : List ℕ) (count : ℕ) → ClientGoesOn stop → IsLeft (client_stops stop) r mid piece count left → left ≡ mid.taken ++ drop count piece
client_left None r mid piece left count on is = drained_on mid piece left count is.2 is.3
client_left (Some (client_stop.Packet fault)) r mid piece left count on is = absurd on
client_left (Some (client_stop.Client fault)) r mid piece left count on is = absurd on
client_left (Some client_stop.NoMemory) r mid piece left count on is = is.1

pub listens_both : (r mid new : Reading) (piece more : List ℕ) (s between now : ClientSession) (told some after : List Token) (first second : ClientFed) → Listens r mid piece s between told some first → ClientGoesOn first.stop → first.count ≤ length piece → Listens mid new (drop first.count piece ++ more) between now some after second → Listens r new (piece ++ more) s now told after (client_fed_twice first second)
listens_both r mid new piece more s between now told some after first second a on within b =
    let at : between ≡ a.then.session = client_at first.stop mid a.then.session between on a.client in
    let later = settled_before between None first.settled some b.packets b.then b.listens in
    record {
      packets = a.packets ++ b.packets;
      left = b.left;
      then = with_settled first.settled b.then;
      feeds = feeds_both (client_stops first.stop) (client_stops second.stop) r mid new piece more first.count second.count a.packets b.packets a.left b.left (client_left first.stop r mid piece a.left first.count on a.feeds.is_left) within a.feeds b.feeds;
      listens =
          client.then_more s None told a.packets b.packets a.then a.listens
          ∙ rw (sym at, sym a.settled, sym a.tells) later;
      settled = ap (λ x. settled_last x first.settled) b.settled;
      tells = b.tells;
      client = b.client;
    }

-- ---- At a server

server_at : {E : Type 0} (stop : Option ServerStop) (answers : Answers) (held : Reading) (then now : ServerState E) → ServerGoesOn stop → IsServerAt stop answers held then now → now ≡ then
server_at None answers held then now on is = is
server_at (Some (server_stop.Packet fault)) answers held then now on is = absurd on
server_at (Some (server_stop.Server fault)) answers held then now on is = absurd on
server_at (Some server_stop.NoMemory) answers held then now on is = is

server_left : (stop : Option ServerStop) (r mid : Reading) (piece left : List ℕ) (count : ℕ) → ServerGoesOn stop → IsLeft (server_stops stop) r mid piece count left → left ≡ mid.taken ++ drop count piece
server_left None r mid piece left count on is = drained_on mid piece left count is.2 is.3
server_left (Some (server_stop.Packet fault)) r mid piece left count on is = absurd on
server_left (Some (server_stop.Server fault)) r mid piece left count on is = absurd on
server_left (Some server_stop.NoMemory) r mid piece left count on is = is.1

pub serves_both : {E : Type 0} (answers : Answers) (r mid new : Reading) (piece more : List ℕ) (s between now : ServerState E) (reply some after : List ℕ) (first second : ServerFed) → Serves answers r mid piece s between reply some first → ServerGoesOn first.stop → first.count ≤ length piece → Serves answers mid new (drop first.count piece ++ more) between now some after second → Serves answers r new (piece ++ more) s now reply after (server_fed_twice first second)
serves_both answers r mid new piece more s between now reply some after first second a on within b =
    let at : between ≡ a.then.state = server_at first.stop answers mid a.then.state between on a.server in
    let later = b.serves in
    record {
      packets = a.packets ++ b.packets;
      left = b.left;
      then = b.then;
      feeds = feeds_both (server_stops first.stop) (server_stops second.stop) r mid new piece more first.count second.count a.packets b.packets a.left b.left (server_left first.stop r mid piece a.left first.count on a.feeds.is_left) within a.feeds b.feeds;
      serves = server.then_more answers s reply a.packets b.packets a.then a.serves ∙ rw (sym at, sym a.replies) later;
      replies = b.replies;
      server = b.server;
    }
