-- Packets that a client takes, and then less than one: it takes them all.
use Rattle.std.proofs.Common.{◌≡◌, ◌∙◌, ◌≢◌, ℕ, List, [], ◌∷◌, ◌++◌, drop, sym, ap, refl, subst, Option, Some, None, Result, Err, append_assoc}
use Rattle.std.specs.List.{AllByRecursion}
use Rattle.tds_client.specs.declared.fault.ClientFault.{ClientFault}
use Rattle.tds_client.specs.Session.{ClientSession}
use Rattle.tds_client.specs.Taking.{ClientMove, taken}
use Rattle.tds_packet.specs.declared.header.Header.{Header}
use Rattle.tds_packet.specs.Layout.{IsPacket, bits_of, has_bit}
use Rattle.tds_packet.specs.Reading.{Reading, with_taken, fault_of}
use Rattle.tds_packet.specs.Stream.{IsLess}
use Rattle.tds_token.specs.declared.token.Token.{Token}
use Rattle.tds_ends.specs.declared.listening.ClientFed.{ClientFed}
use Rattle.tds_ends.specs.declared.listening.ClientStop.{ClientStop}
use Rattle.tds_ends.specs.declared.listening.ClientStop.TheVariants.{Packet, Client, NoMemory}
use Rattle.tds_ends.specs.Ends.{Listens, IsClientAt, IsLeft, client_stops}
use Rattle.tds_ends.specs.Feeding.{Coming, Comes, IsComing, Listened, IsListened, listened, on_taken, bytes_of}
use Rattle.tds_ends.proofs.FedClient.{then_more}
use Rattle.tds_ends.proofs.Spelling.{OnePacket, Behind, behind, no_more, comes_spelled}
use Rattle.tds_ends.proofs.Streams.{Fronts}

-- The bytes behind the packets that were taken, and what the client was to make of the packets there.
record Left (r : Reading) (left rest : List ℕ) (more : List Coming) (at then : Listened) : Type 0 where
  pub each : AllByRecursion (IsComing r) more
  pub behind : left ≡ bytes_of more ++ rest
  pub less : IsLess r rest
  pub lawful : fault_of r rest ≡ None
  pub takes : listened at.session at.settled at.told more ≡ Some then

abbrev All : Option ClientStop → Reading → List ℕ → ClientSession → Listened → Listened → Type 0
All stop new rest now at then =
    (stop ≡ None) × (now ≡ then.session) × (at ≡ then) × (new.taken ≡ rest)

refused : (found : Result ClientMove ClientFault) (next : ClientMove → Option Listened) (then : Listened) (fault : ClientFault) → found ≡ Err fault → on_taken found next ≡ Some then → ⊥
refused found next then fault e is =
    let none : None ≡ Some then = subst (λ x. on_taken x next ≡ Some then) e is in
    absurd (cc)

none_refused : OnePacket → (r new : Reading) (left rest after : List ℕ) (more : List Coming) (at then : Listened) (header : Header) (content : List ℕ) (fault : ClientFault) → Left r left rest more at then → new ≡ with_taken r new.taken → left ≡ new.taken ++ after → IsPacket new.direction new.size new.taken header content → taken at.session (has_bit (bits_of header.status) 1) content ≡ Err fault → ⊥
none_refused one r new left rest after [] at then header content fault l same is packet bad =
    l.less new.taken after (sym l.behind ∙ is) (header, content, subst (λ (x : Reading). IsPacket x.direction x.size new.taken header content) same packet)
none_refused one r new left rest after (q ∷ qs) at then header content fault l same is packet bad =
    let here : IsPacket r.direction r.size new.taken header content = subst (λ (x : Reading). IsPacket x.direction x.size new.taken header content) same packet in
    let both = one r.direction r.size q.bytes new.taken (bytes_of qs ++ rest) after q.content content q.header header l.each.0 here
    (sym (append_assoc q.bytes (bytes_of qs) rest) ∙ sym l.behind ∙ is) in
    refused (taken at.session (has_bit (bits_of q.header.status) 1) q.content) _ then fault
    (ap (λ (x : Header). taken at.session (has_bit (bits_of x.status) 1) q.content) both.1
    ∙ ap (λ (xs : List ℕ). taken at.session (has_bit (bits_of header.status) 1) xs) both.2 ∙ bad) l.takes

ended : (r new : Reading) (left rest : List ℕ) (more : List Coming) (now : ClientSession) (at then : Listened) → Left r left rest more at then → IsLess r left → new.taken ≡ left → now ≡ at.session → All None new rest now at then
ended r new left rest more now at then l less is same =
    let none = no_more r more left rest l.each l.behind less in
    let takes : listened at.session at.settled at.told [] ≡ Some then = subst (λ (ps : List Coming). listened at.session at.settled at.told ps ≡ Some then) none.0 l.takes in
    let done : at ≡ then = cc (takes) in
    (refl, same ∙ ap (λ t. t.session) done, done, is ∙ none.1)

at_stop : OnePacket → (stop : Option ClientStop) (r new : Reading) (piece left rest : List ℕ) (count : ℕ) (more : List Coming) (now : ClientSession) (at then : Listened) → Left r left rest more at then → new ≡ with_taken r new.taken → IsLeft (client_stops stop) r new piece count left → IsClientAt stop new at.session now → stop ≢ Some NoMemory → All stop new rest now at then
at_stop one None r new piece left rest count more now at then l same is c some = ended r new left rest more now at then l is.0 is.2 c
at_stop one (Some (Packet fault)) r new piece left rest count more now at then l same is c some =
    let none = no_more r more left rest l.each l.behind is.0 in
    let found : fault_of r rest ≡ Some fault = subst (λ (xs : List ℕ). fault_of r xs ≡ Some fault) none.1 is.1 in
    let lawful = l.lawful in
    absurd (cc)
at_stop one (Some (Client fault)) r new piece left rest count more now at then l same is c some =
    absurd (none_refused one r new left rest (drop count piece) more at then c.0 c.1 fault l same is.1 c.2 c.3)
at_stop one (Some NoMemory) r new piece left rest count more now at then l same is c some = absurd (some refl)

pub all_listened : OnePacket → Fronts → (r new : Reading) (piece rest : List ℕ) (s now : ClientSession) (told after : List Token) (fed : ClientFed) (packets : List Coming) (then : Listened) → Listens r new piece s now told after fed → Comes r (r.taken ++ piece) packets rest → listened s None told packets ≡ Some then → fed.stop ≢ Some NoMemory → (fed.stop ≡ None) × IsListened now fed.settled after then × (new ≡ with_taken r rest)
all_listened one fronts r new piece rest s now told after fed packets then l comes is some =
    let spelled = comes_spelled one fronts r (r.taken ++ piece) rest packets comes in
    let b : Behind r l.packets packets l.left rest = behind one r l.packets packets l.left rest l.feeds.each spelled.0.each (sym l.feeds.joined ∙ spelled.0.joined) spelled.0.less in
    let takes : listened l.then.session l.then.settled l.then.told b.more ≡ Some then =
    sym (then_more s None told l.packets b.more l.then l.listens)
    ∙ ap (λ (ps : List Coming). listened s None told ps) (sym b.is) ∙ is in
    let d : All fed.stop new rest now l.then then = at_stop one fed.stop r new piece l.left rest fed.count b.more now l.then then
    (record { each = b.each; behind = b.left; less = spelled.0.less; lawful = spelled.1; takes = takes })
    l.feeds.same l.feeds.is_left l.client some in
    (d.0, (d.1, l.settled ∙ ap (λ t. t.settled) d.2, l.tells ∙ ap (λ t. t.told) d.2), l.feeds.same ∙ ap (with_taken r) d.3)
