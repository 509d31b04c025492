-- Packets that a server takes, and then less than one: it takes them all.
use Rattle.std.proofs.Common.{◌≡◌, ◌∙◌, ◌≢◌, ℕ, List, [], ◌∷◌, ◌++◌, drop, sym, ap, refl, subst, Option, Some, None, Result, Err, append_assoc}
use Rattle.std.specs.List.{AllByRecursion}
use Rattle.tds_packet.specs.declared.header.Header.{Header}
use Rattle.tds_packet.specs.Layout.{IsPacket}
use Rattle.tds_packet.specs.Reading.{Reading, with_taken, fault_of}
use Rattle.tds_packet.specs.Stream.{IsLess}
use Rattle.tds_server.specs.declared.fault.ServerFault.{ServerFault}
use Rattle.tds_server.specs.declared.outcome.ServerTook.{ServerTook}
use Rattle.tds_server.specs.State.{ServerState}
use Rattle.tds_server.specs.Taking.{taken}
use Rattle.tds_session.specs.Answer.{Answers}
use Rattle.tds_ends.specs.declared.serving.ServerFed.{ServerFed}
use Rattle.tds_ends.specs.declared.serving.ServerStop.{ServerStop}
use Rattle.tds_ends.specs.declared.serving.ServerStop.TheVariants.{Packet, Server, NoMemory}
use Rattle.tds_ends.specs.Ends.{Serves, IsServerAt, IsLeft, server_stops}
use Rattle.tds_ends.specs.Feeding.{Coming, Comes, IsComing, Served, IsServed, served, unless_refused, bytes_of}
use Rattle.tds_ends.proofs.FedServer.{then_more}
use Rattle.tds_ends.proofs.Spelling.{OnePacket, Behind, behind, no_more, comes_spelled}
use Rattle.tds_ends.proofs.Streams.{Fronts}

-- The bytes behind the packets that were taken, and what the server was to make of the packets there.
record Left {E : Type 0} (answers : Answers) (r : Reading) (left rest : List ℕ) (more : List Coming) (at then : Served E) : Type 0 where
  pub each : AllByRecursion (IsComing r) more
  pub behind : left ≡ bytes_of more ++ rest
  pub less : IsLess r rest
  pub lawful : fault_of r rest ≡ None
  pub takes : served answers at.state at.reply more ≡ Some then

abbrev All : {E : Type 0} → Option ServerStop → Reading → List ℕ → ServerState E → Served E → Served E → Type 0
All stop new rest now at then =
    (stop ≡ None) × (now ≡ then.state) × (at ≡ then) × (new.taken ≡ rest)

refused : {E : Type 0} (answer : Result ServerTook ServerFault) (next : Option (Served E)) (then : Served E) (fault : ServerFault) → answer ≡ Err fault → unless_refused answer next ≡ Some then → ⊥
refused answer next then fault e is =
    let none : None ≡ Some then = subst (λ x. unless_refused x next ≡ Some then) e is in
    absurd (cc)

none_refused : {E : Type 0} → OnePacket → (answers : Answers) (r new : Reading) (left rest after : List ℕ) (more : List Coming) (at then : Served E) (header : Header) (content : List ℕ) (fault : ServerFault) → Left answers r left rest more at then → new ≡ with_taken r new.taken → left ≡ new.taken ++ after → IsPacket new.direction new.size new.taken header content → (taken answers at.state header content).answer ≡ Err fault → ⊥
none_refused one answers r new left rest after [] at then header content fault l same is packet bad =
    l.less new.taken after (sym l.behind ∙ is) (header, content, subst (λ (x : Reading). IsPacket x.direction x.size new.taken header content) same packet)
none_refused one answers r new left rest after (q ∷ qs) at then header content fault l same is packet bad =
    let here : IsPacket r.direction r.size new.taken header content = subst (λ (x : Reading). IsPacket x.direction x.size new.taken header content) same packet in
    let both = one r.direction r.size q.bytes new.taken (bytes_of qs ++ rest) after q.content content q.header header l.each.0 here
    (sym (append_assoc q.bytes (bytes_of qs) rest) ∙ sym l.behind ∙ is) in
    refused (taken answers at.state q.header q.content).answer _ then fault
    (ap (λ (x : Header). (taken answers at.state x q.content).answer) both.1
    ∙ ap (λ (xs : List ℕ). (taken answers at.state header xs).answer) both.2 ∙ bad) l.takes

ended : {E : Type 0} (answers : Answers) (r new : Reading) (left rest : List ℕ) (more : List Coming) (now : ServerState E) (at then : Served E) → Left answers r left rest more at then → IsLess r left → new.taken ≡ left → now ≡ at.state → All None new rest now at then
ended answers r new left rest more now at then l less is same =
    let none = no_more r more left rest l.each l.behind less in
    let takes : served answers at.state at.reply [] ≡ Some then = subst (λ (ps : List Coming). served answers at.state at.reply ps ≡ Some then) none.0 l.takes in
    let done : at ≡ then = cc (takes) in
    (refl, same ∙ ap (λ t. t.state) done, done, is ∙ none.1)

at_stop : {E : Type 0} → OnePacket → (stop : Option ServerStop) (answers : Answers) (r new : Reading) (piece left rest : List ℕ) (count : ℕ) (more : List Coming) (now : ServerState E) (at then : Served E) → Left answers r left rest more at then → new ≡ with_taken r new.taken → IsLeft (server_stops stop) r new piece count left → IsServerAt stop answers new at.state now → stop ≢ Some NoMemory → All stop new rest now at then
at_stop one None answers r new piece left rest count more now at then l same is c some = ended answers r new left rest more now at then l is.0 is.2 c
at_stop one (Some (Packet fault)) answers r new piece left rest count more now at then l same is c some =
    let none = no_more r more left rest l.each l.behind is.0 in
    let found : fault_of r rest ≡ Some fault = subst (λ (xs : List ℕ). fault_of r xs ≡ Some fault) none.1 is.1 in
    let lawful = l.lawful in
    absurd (cc)
at_stop one (Some (Server fault)) answers r new piece left rest count more now at then l same is c some =
    absurd (none_refused one answers r new left rest (drop count piece) more at then c.0 c.1 fault l same is.1 c.2 c.3)
at_stop one (Some NoMemory) answers r new piece left rest count more now at then l same is c some = absurd (some refl)

pub all_served : {E : Type 0} → OnePacket → Fronts → (answers : Answers) (r new : Reading) (piece rest : List ℕ) (s now : ServerState E) (reply after : List ℕ) (fed : ServerFed) (packets : List Coming) (then : Served E) → Serves answers r new piece s now reply after fed → Comes r (r.taken ++ piece) packets rest → served answers s reply packets ≡ Some then → fed.stop ≢ Some NoMemory → (fed.stop ≡ None) × IsServed now after then × (new ≡ with_taken r rest)
all_served one fronts answers r new piece rest s now reply after fed packets then l comes is some =
    let spelled = comes_spelled one fronts r (r.taken ++ piece) rest packets comes in
    let b : Behind r l.packets packets l.left rest = behind one r l.packets packets l.left rest l.feeds.each spelled.0.each (sym l.feeds.joined ∙ spelled.0.joined) spelled.0.less in
    let takes : served answers l.then.state l.then.reply b.more ≡ Some then =
    sym (then_more answers s reply l.packets b.more l.then l.serves)
    ∙ ap (λ (ps : List Coming). served answers s reply ps) (sym b.is) ∙ is in
    let d : All fed.stop new rest now l.then then = at_stop one fed.stop answers r new piece l.left rest fed.count b.more now l.then then
    (record { each = b.each; behind = b.left; less = spelled.0.less; lawful = spelled.1; takes = takes })
    l.feeds.same l.feeds.is_left l.server some in
    (d.0, (d.1, l.replies ∙ ap (λ t. t.reply) d.2), l.feeds.same ∙ ap (with_taken r) d.3)
