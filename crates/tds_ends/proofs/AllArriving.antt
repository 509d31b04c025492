-- All that waits for a server is packets to its reader, and is taken as the model takes it.
use Rattle.std.proofs.Common.{◌≡◌, ◌≤◌, ◌∙◌, ◌+◌, ℕ, true, refl, sym, ap, subst, Option, Some, None, List, [], ◌∷◌}
use Rattle.std.specs.List.{AllByRecursion}
use Rattle.tds_packet.specs.declared.kind.Direction.TheVariants.{ToServer}
use Rattle.tds_packet.specs.declared.status.Reset.{Reset}
use Rattle.tds_packet.specs.declared.status.Reset.TheVariants.{Full, KeepTransaction}
use Rattle.tds_packet.specs.Layout.{IsPacket, bits_of, direction_of, has_bit, is_read, is_status}
use Rattle.tds_packet.specs.Reading.{Reading}
use Rattle.tds_request.specs.declared.request.RequestKind.{RequestKind}
use Rattle.tds_request.specs.declared.request.RequestKind.TheVariants as requests
use Rattle.tds_request.specs.Layout.{kind_of_request, packet_kind}
use Rattle.tds_server.specs.State.{ServerState}
use Rattle.tds_server.specs.Taking.{taken}
use Rattle.tds_session.specs.Answer.{Answers}
use Rattle.tds_world.specs.Arrivals.{server_acts}
use Rattle.tds_world.specs.Connection.{Connection, up_underway}
use Rattle.tds_world.specs.Entries.{Asking, Packet, packet_bytes, Up, Part, End, Drop, Attention, up_packet}
use Rattle.tds_world.specs.Lane.{passed}
use Rattle.tds_world.specs.Lawful.{Lawful}
use Rattle.tds_world.specs.Messages.{bits_behind, IsSpelled, IsNext, came_with, AreNextIn, AreWhole}
use Rattle.tds_world.specs.Packets.{IsSized}
use Rattle.tds_world.specs.Record.{Record}
use Rattle.tds_world.specs.Welcome.{ServerExpects, WelcomeToServer, WelcomeToClient}
use Rattle.tds_ends.specs.Refines.{RefinesArrive}
use Rattle.tds_ends.specs.Deliveries.{up_coming, AllArrive}
use Rattle.tds_ends.specs.Feeding.{IsComing}
use Rattle.tds_ends.specs.Stands.{MatchesServer}

-- ---- Packets to the server's reader

-- A packet with lawful status bits, of which the end is one where there are no data.
record HasBits (p : Packet) (bits : ℕ) : Type 0 where
  status : bits_of p.header.status ≡ bits
  lawful : is_status ToServer bits ≡ true
  ends : p.body ≡ [] → has_bit bits 1 ≡ true

is_packet : (r : Reading) (p : Packet) (bits : ℕ) → r.direction ≡ ToServer → IsSized r.size p → direction_of p.header.kind ≡ ToServer → is_read p.header.kind ≡ true → HasBits p bits → IsPacket r.direction r.size (packet_bytes p) p.header p.body
is_packet r p bits to sized directed known h = record {
  laid_out = record {
    spelled = refl;
    counted = sized.counted;
    fits = sized.fits;
    directed = directed ∙ sym to;
    status = subst (λ d. is_status d (bits_of p.header.status) ≡ true) (sym to) (ap (λ (b : ℕ). is_status ToServer b) h.status ∙ h.lawful);
    ends = λ none. ap (λ (b : ℕ). has_bit b 1) h.status ∙ h.ends none;
  };
  is_read = known;
}

request_directed : (k : RequestKind) → direction_of (packet_kind k) ≡ ToServer
request_directed requests.Batch = refl
request_directed requests.Transaction = refl

request_read : (k : RequestKind) → is_read (packet_kind k) ≡ true
request_read requests.Batch = refl
request_read requests.Transaction = refl

part_lawful : (before : List ℕ) (mark : Option Reset) → is_status ToServer (0 + bits_behind before mark) ≡ true
unfolding is_status
part_lawful [] None = refl
part_lawful [] (Some Full) = refl
part_lawful [] (Some KeepTransaction) = refl
part_lawful (b ∷ bs) mark = refl

end_lawful : (before : List ℕ) (mark : Option Reset) → is_status ToServer (1 + bits_behind before mark) ≡ true
unfolding is_status
end_lawful [] None = refl
end_lawful [] (Some Full) = refl
end_lawful [] (Some KeepTransaction) = refl
end_lawful (b ∷ bs) mark = refl

end_ends : (before : List ℕ) (mark : Option Reset) → has_bit (1 + bits_behind before mark) 1 ≡ true
end_ends [] None = refl
end_ends [] (Some Full) = refl
end_ends [] (Some KeepTransaction) = refl
end_ends (b ∷ bs) mark = refl

drop_lawful : is_status ToServer 3 ≡ true
unfolding is_status
drop_lawful = refl

attention_lawful : is_status ToServer 1 ≡ true
unfolding is_status
attention_lawful = refl

-- The next entry of a request is one.
is_coming : (r : Reading) (a : Asking) (before : List ℕ) (e : Up) → r.direction ≡ ToServer → IsSized r.size (up_packet e) → IsNext a before e → IsComing r (up_coming e)
is_coming r a before (Part n p) to sized next =
    is_packet r p (0 + bits_behind before a.mark) to sized
    (ap direction_of next.0.kind ∙ request_directed (kind_of_request a.request)) (ap is_read next.0.kind ∙ request_read (kind_of_request a.request))
    (record { status = next.0.status; lawful = part_lawful before a.mark; ends = λ none. absurd (next.1 none) })
is_coming r a before (End n b p) to sized next =
    is_packet r p (1 + bits_behind before a.mark) to sized
    (ap direction_of next.0.kind ∙ request_directed (kind_of_request a.request)) (ap is_read next.0.kind ∙ request_read (kind_of_request a.request))
    (record { status = next.0.status; lawful = end_lawful before a.mark; ends = λ none. end_ends before a.mark })
is_coming r a before (Drop n p) to sized next =
    is_packet r p 3 to sized
    (ap direction_of next.kind ∙ request_directed (kind_of_request a.request)) (ap is_read next.kind ∙ request_read (kind_of_request a.request))
    (record { status = next.status; lawful = drop_lawful; ends = λ none. refl })
is_coming r a before (Attention n) to sized next =
    is_packet r (up_packet (Attention n)) 1 to sized refl refl
    (record { status = refl; lawful = attention_lawful; ends = λ none. refl })

-- ---- One behind the other

then_in : (current : Option Record) (parts : List ℕ) (e : Up) (es : List Up) → AreNextIn current parts (e ∷ es) → AreNextIn current (came_with parts e) es
then_in None parts e es h = absurd (cc)
then_in (Some q) parts e es h = (h.0, h.1.1)

then_next : (answers : Answers) (c : Connection) (e : Up) (es : List Up) → AreNextIn c.current c.parts (e ∷ es) → AreNextIn (server_acts answers c e).current (server_acts answers c e).parts es
then_next answers c (Part r p) es h = then_in c.current c.parts (Part r p) es h
then_next answers c (End r a p) es h = then_in c.current c.parts (End r a p) es h
then_next answers c (Drop r p) es h = then_in c.current c.parts (Drop r p) es h
then_next answers c (Attention r) es h = then_in c.current c.parts (Attention r) es h

one_of : (q : Record) (parts : List ℕ) (e : Up) (es : List Up) → AreNextIn (Some q) parts (e ∷ es) → IsNext q.asking parts e
one_of q parts e es h = h.1.0

expects : (c : Connection) (e : Up) → ServerExpects c e → ServerExpects (record c { to_server = passed e c.to_server }) e
expects c (Part r p) h = h
expects c (End r a p) h = h
expects c (Drop r p) h = h
expects c (Attention r) h = h

-- What is promised of one entry: it arrives at a server as in the model.
abbrev pub ArrivesAlike : Type 0 → Type 0
ArrivesAlike E =
    (answers : Answers) (s : ServerState E) (c : Connection) (q : Record) (e : Up) → Lawful answers → MatchesServer s c → c.current ≡ Some q → IsSpelled q.asking → IsNext q.asking c.parts e → ServerExpects c e
    → RefinesArrive answers c e (taken answers s (up_packet e).header (up_packet e).body)

arrive_on : (E : Type 0) → ArrivesAlike E → (answers : Answers) (r : Reading) (c : Connection) (es : List Up) (current : Option Record) → Lawful answers → r.direction ≡ ToServer → c.current ≡ current → AreNextIn current c.parts es → WelcomeToServer answers c es → AllByRecursion (λ e. IsSized r.size (up_packet e)) es → AllArrive E answers r c es
arrive_on E one answers r c [] current l to is next welcome sized = tt
arrive_on E one answers r c (e ∷ es) None l to is next welcome sized = absurd (cc)
arrive_on E one answers r c (e ∷ es) (Some q) l to is next welcome sized =
    let d : Connection = record c { to_server = passed e c.to_server } in (
      is_coming r q.asking c.parts e to sized.0 (one_of q c.parts e es next),
      λ s matches. one answers s d q e l matches is next.0 (one_of q c.parts e es next) (expects c e welcome.0),
      arrive_on E one answers r (server_acts answers d e) es (server_acts answers d e).current l to refl
          (then_next answers d e es (subst (λ (o : Option Record). AreNextIn o c.parts (e ∷ es)) (sym is) next))
          welcome.1 sized.1,
    )

pub all_arrive : (E : Type 0) → ArrivesAlike E → (answers : Answers) (r : Reading) (c : Connection) → Lawful answers → r.direction ≡ ToServer → AreWhole c → WelcomeToServer answers c c.to_server.waiting → AllByRecursion (λ e. IsSized r.size (up_packet e)) c.to_server.waiting → AllArrive E answers r c c.to_server.waiting
all_arrive E one answers r c l to whole welcome sized = arrive_on E one answers r c c.to_server.waiting c.current l to refl whole welcome sized

-- ---- In every world

-- What waits for the server arrives there by a reader of this packet size, and few bytes are underway.
abbrev pub Arrives : Type 0 → Answers → ℕ → Connection → Type 0
Arrives E answers size c =
    ((r : Reading) → r.direction ≡ ToServer → r.size ≡ size → AllArrive E answers r c c.to_server.waiting)
    × (up_underway c ≤ 4094)

-- What holds of a connection with lawful answers, where these hold.
abbrev pub AllArriveAt : Type 0 → Answers → Type 0
AllArriveAt E answers =
    (r : Reading) (c : Connection) → r.direction ≡ ToServer → AreWhole c → WelcomeToServer answers c c.to_server.waiting
    → AllByRecursion (λ e. IsSized r.size (up_packet e)) c.to_server.waiting → AllArrive E answers r c c.to_server.waiting

pub each_arrives : (E : Type 0) (answers : Answers) (size : ℕ) (cs : List Connection) → AllArriveAt E answers → AllByRecursion AreWhole cs → AllByRecursion (λ c. WelcomeToServer answers c c.to_server.waiting × WelcomeToClient c c.to_client.waiting) cs → AllByRecursion (λ c. AllByRecursion (λ e. IsSized size (up_packet e)) c.to_server.waiting) cs → AllByRecursion (λ c. up_underway c ≤ 4094) cs → AllByRecursion (Arrives E answers size) cs
each_arrives E answers size [] at whole welcome sized few = tt
each_arrives E answers size (c ∷ cs) at whole welcome sized few = (
  (
    λ r to is. at r c to whole.0 welcome.0.0 (subst (λ n. AllByRecursion (λ e. IsSized n (up_packet e)) c.to_server.waiting) (sym is) sized.0),
    few.0,
  ),
  each_arrives E answers size cs at whole.1 welcome.1 sized.1 few.1,
)
