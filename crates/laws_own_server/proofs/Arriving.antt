-- A packet arrives at the server.
use Rattle.std.proofs.Common.{◌≡◌, ◌∙◌, ◌<◌, ◌&&◌, ℕ, zero, suc, Bool, false, List, [], ◌∷◌, ◌++◌, refl, sym, ap, subst, arith}
use Rattle.std.specs.Prelude.{Option, None, not, if◌then◌else◌}
use Rattle.std.proofs.lemmas.List.{append-nil, append_assoc}
use Rattle.tds_packet.specs.declared.status.Reset.{Reset}
use Rattle.tds_token.specs.declared.token.Token.{Token}
use Rattle.tds_session.specs.declared.attention.OnAttention.{OnAttention}
use Rattle.tds_session.specs.Answer as answer
use Rattle.tds_session.specs.Answer.{Answers}
use Rattle.tds_session.specs.Session.{SessionState, is_in_transaction}
use Rattle.tds_service.specs.Line as line
use Rattle.tds_world.specs.Arrivals.{is_midway, server_acts}
use Rattle.tds_world.specs.Connection.{Connection}
use Rattle.tds_world.specs.Entries as entries
use Rattle.tds_world.specs.Entries.{Up, Part, End, Drop, Attention, Down, Step, Acknowledgement}
use Rattle.tds_world.specs.Lane.{passed}
use Rattle.tds_world.specs.Requests.{AreRequests, Message, Nothing}
use Rattle.laws_conforming_server.specs.Lawful.{AnyServer, Session}
use Rattle.laws_conforming_server.specs.Link as links
use Rattle.laws_conforming_server.specs.Link.{Asking, HasSome, Link, MayTake, Move, Takes, TakesNext, Runs, goes, here, link_after, taken, takes}
use Rattle.laws_own_server.specs.Bench.{Asked, Kept, Log, bench, said, state_of}
use Rattle.laws_own_server.specs.Runs.{Place, asked_by, first_place, packet_of, packets_of, place_behind, places, things_of}
use Rattle.laws_own_server.proofs.Asking.{Split, asked_at, asks_on, end_asks, requests_split}
use Rattle.laws_own_server.proofs.Standing.{AreUps, Holds, Leads, Names, leads_on, link_of, place_of, places_both}

-- ---- The next packet

pub record First (place : Place) (e : Up) (es : List Up) (us : List links.PacketUp) : Type 0 where
  pub next : links.PacketUp
  pub others : List links.PacketUp
  pub are : us ≡ next ∷ others
  pub packet : next.packet ≡ packet_of place e
  pub names : Names e next.asking
  pub rest : AreUps (place_behind place e) es others

pub first_of : (place : Place) (e : Up) (es : List Up) (us : List links.PacketUp) → AreUps place (e ∷ es) us → First place e es us
first_of place e es [] a = absurd a
first_of place e es (u ∷ us) a = record { next = u; others = us; are = refl; packet = a.0; names = a.1; rest = a.2 }

-- the link when it is taken
abbrev pub took : AnyServer Kept Token → Link Kept Token → links.PacketUp → List links.PacketUp → line.Packet → Link Kept Token
took engine link u us packet = record { up = us; server = takes engine link.server u.asking packet; down = link.down; asking = link.asking }

pub took_it : (engine : AnyServer Kept Token) (link : Link Kept Token) (u : links.PacketUp) (us : List links.PacketUp) (packet : line.Packet) → link.up ≡ u ∷ us → u.packet ≡ packet
    → goes engine link Takes ≡ took engine link u us packet
took_it engine link u us packet e f = ap (λ (xs : List links.PacketUp). taken engine link xs) e ∙ ap (λ (p : line.Packet). took engine link u us p) f

pub may_take : (link : Link Kept Token) (u : links.PacketUp) (us : List links.PacketUp) (packet : line.Packet) → link.up ≡ u ∷ us → u.packet ≡ packet → MayTake packet link.server.due
    → TakesNext link.up link.server.due
may_take link u us packet e f m =
    subst (λ (xs : List links.PacketUp). TakesNext xs link.server.due) (sym e) (subst (λ (p : line.Packet). MayTake p link.server.due) (sym f) m)

-- ---- It arrived

abbrev pub passing : Connection → Up → Connection
passing c e = record c { to_server = passed e c.to_server }

abbrev pub arrived : Answers → Connection → Up → Connection
arrived answers c e = server_acts answers (passing c e) e

pub same_packets : (c : Connection) (e : Up) (es : List Up) → packets_of first_place ((c.to_server.arrived ++ e ∷ []) ++ es) ≡ packets_of first_place (c.to_server.arrived ++ e ∷ es) ++ []
same_packets c e es =
    ap (λ (xs : List Up). packets_of first_place xs) (append_assoc c.to_server.arrived (e ∷ []) es) ∙ sym (append-nil (packets_of first_place (c.to_server.arrived ++ e ∷ es)))

abbrev pub Behind : Connection → Up → Place
Behind c e = places first_place (c.to_server.arrived ++ e ∷ [])

pub place_next : (c : Connection) (e : Up) → Behind c e ≡ place_behind (place_of c) e
place_next c e = places_both first_place c.to_server.arrived (e ∷ [])

pub ups_next : (c : Connection) (e : Up) (es : List Up) (us : List links.PacketUp) → AreUps (place_behind (place_of c) e) es us → AreUps (Behind c e) es us
ups_next c e es us a = subst (λ (p : Place). AreUps p es us) (sym (place_next c e)) a

pub reset_next : (c : Connection) (e : Up) (reset : Option Reset) → reset ≡ (place_behind (place_of c) e).reset → reset ≡ (Behind c e).reset
reset_next c e reset i = i ∙ ap (λ (p : Place). p.reset) (sym (place_next c e))

none_due : (c : Connection) (ups : List Up) (downs : List Down) (link : Link Kept Token) → Holds c ups downs link → c.due ≡ [] → link.server.due ≡ []
none_due c ups downs link h e = h.due ∙ ap (λ (ss : List answer.Step). said c.session.descriptor ss) e

-- one move leads there
takes_leads : (attention : OnAttention) (answers : Answers) (log : Log) (moves : List (Move Token)) (c : Connection) (e : Up) (es : List Up) (downs : List Down) (l : Leads attention answers log moves c (e ∷ es) downs)
    (f : First (place_of c) e es (link_of attention answers log moves).up)
    → MayTake (packet_of (place_of c) e) (link_of attention answers log moves).server.due
    → (arrived answers c e).to_server.arrived ≡ c.to_server.arrived ++ e ∷ [] → (arrived answers c e).to_client.arrived ≡ c.to_client.arrived
    → Holds (arrived answers c e) es downs (took (bench attention answers log) (link_of attention answers log moves) f.next f.others (packet_of (place_of c) e))
    → Leads attention answers log (moves ++ Takes ∷ []) (arrived answers c e) es downs
takes_leads attention answers log moves c e es downs l f m i j h =
    let engine : AnyServer Kept Token = bench attention answers log in
    let link : Link Kept Token = link_of attention answers log moves in
    leads_on attention answers log moves c (arrived answers c e) (e ∷ es) es downs downs l (Takes ∷ [])
    (may_take link f.next f.others (packet_of (place_of c) e) f.are f.packet m, tt)
    (ap (λ (xs : List Up). packets_of first_place (xs ++ es)) i ∙ same_packets c e es)
    (ap things_of j ∙ sym (append-nil (things_of c.to_client.arrived)))
    (subst (λ (k : Link Kept Token). Holds (arrived answers c e) es downs k) (sym (took_it engine link f.next f.others (packet_of (place_of c) e) f.are f.packet)) h)

pub part_leads : (attention : OnAttention) (answers : Answers) (log : Log) (moves : List (Move Token)) (c : Connection) (r : ℕ) (p : entries.Packet) (es : List Up) (downs : List Down) → c.due ≡ []
    → Leads attention answers log moves c (Part r p ∷ es) downs → Leads attention answers log (moves ++ Takes ∷ []) (arrived answers c (Part r p)) es downs
part_leads attention answers log moves c r p es downs d l =
    let link : Link Kept Token = link_of attention answers log moves in
    let h : Holds c (Part r p ∷ es) downs link = l.holds in
    let f : First (place_of c) (Part r p) es link.up = first_of (place_of c) (Part r p) es link.up h.up in
    takes_leads attention answers log moves c (Part r p) es downs l f (none_due c (Part r p ∷ es) downs link h d) refl refl
    (record {
      up = ups_next c (Part r p) es f.others f.rest;
      reset = reset_next c (Part r p) _ (asks_on (place_of c).begun p link.server.reset (place_of c).reset h.reset);
      transaction = h.transaction;
      settings = h.settings;
      rolls = h.rolls;
      due = h.due;
      down = h.down;
    })

pub drop_leads : (attention : OnAttention) (answers : Answers) (log : Log) (moves : List (Move Token)) (c : Connection) (r : ℕ) (p : entries.Packet) (es : List Up) (downs : List Down) → c.due ≡ []
    → Leads attention answers log moves c (Drop r p ∷ es) downs → Leads attention answers log (moves ++ Takes ∷ []) (arrived answers c (Drop r p)) es downs
drop_leads attention answers log moves c r p es downs d l =
    let link : Link Kept Token = link_of attention answers log moves in
    let h : Holds c (Drop r p ∷ es) downs link = l.holds in
    let f : First (place_of c) (Drop r p) es link.up = first_of (place_of c) (Drop r p) es link.up h.up in
    takes_leads attention answers log moves c (Drop r p) es downs l f (none_due c (Drop r p ∷ es) downs link h d) refl refl
    (record {
      up = ups_next c (Drop r p) es f.others f.rest;
      reset = reset_next c (Drop r p) None refl;
      transaction = h.transaction;
      settings = h.settings;
      rolls = h.rolls;
      due = h.due;
      down = h.down;
    })

-- ---- A request is whole

abbrev pub before : ℕ → ℕ
before zero = zero
before (suc n) = n

suc_before : (n : ℕ) → 0 < n → suc (before n) ≡ n
suc_before zero p = let b : ⊥ = omega arith in absurd b
suc_before (suc n) p = refl

-- what is written down of it
abbrev pub asked_now : Connection → entries.Asking → Asked
asked_now c a = record { request = a.request; begun = before c.session.next_descriptor }

same_state : (c : Connection) (s : Session Kept) (begun : ℕ) → s.transaction ≡ c.session.descriptor → s.settings.settings ≡ c.session.settings → suc begun ≡ c.session.next_descriptor
    → state_of begun s ≡ c.session
same_state c s begun e f g =
    ap (λ (d : ℕ). record { settings = s.settings.settings; descriptor = d; next_descriptor = suc begun }) e
    ∙ ap (λ v. record { settings = v; descriptor = c.session.descriptor; next_descriptor = suc begun }) f
    ∙ ap (λ (n : ℕ). record { settings = c.session.settings; descriptor = c.session.descriptor; next_descriptor = n }) g

same_answer : (answers : Answers) (log : Log) (c : Connection) (a : entries.Asking) (k named : ℕ) (s : Session Kept) (reset : Option Reset)
    → s.transaction ≡ c.session.descriptor → s.settings.settings ≡ c.session.settings → 0 < c.session.next_descriptor → log k ≡ asked_now c a → reset ≡ a.mark → named ≡ a.descriptor
    → said s.transaction (answers (state_of (log k).begun s) named reset (log k).request) ≡ said c.session.descriptor (answers c.session a.descriptor a.mark a.request)
same_answer answers log c a k named s reset e f p x r n =
    ap (λ (y : Asked). said s.transaction (answers (state_of y.begun s) named reset y.request)) x
    ∙ ap (λ (st : SessionState). said s.transaction (answers st named reset a.request)) (same_state c s (before c.session.next_descriptor) e f (suc_before c.session.next_descriptor p))
    ∙ ap (λ (m : Option Reset). said s.transaction (answers c.session named m a.request)) r
    ∙ ap (λ (d : ℕ). said s.transaction (answers c.session d a.mark a.request)) n
    ∙ ap (λ (d : ℕ). said d (answers c.session a.descriptor a.mark a.request)) e

not_midway : (ss : List answer.Step) → is_midway 0 ss ≡ false
not_midway [] = refl
not_midway (s ∷ ss) = refl

-- where nothing is due nothing is rolled back
rolls_none : (c : Connection) (ss : List answer.Step) (midway : Bool) → c.due ≡ [] → (midway && is_in_transaction c.session) ≡ (is_midway c.taken c.due && is_in_transaction c.session)
    → (midway && is_in_transaction c.session) ≡ (is_midway 0 ss && is_in_transaction c.session)
rolls_none c ss midway d e =
    e ∙ ap (λ (xs : List answer.Step). is_midway c.taken xs && is_in_transaction c.session) d
    ∙ sym (ap (λ (b : Bool). b && is_in_transaction c.session) (not_midway ss))

pub end_leads : (attention : OnAttention) (answers : Answers) (log : Log) (moves : List (Move Token)) (c : Connection) (r : ℕ) (a : entries.Asking) (p : entries.Packet) (es : List Up) (downs : List Down) (out : Message)
    → c.due ≡ [] → 0 < c.session.next_descriptor → log (place_of c).number ≡ asked_now c a → AreRequests Nothing (c.to_server.arrived ++ End r a p ∷ es) out
    → Leads attention answers log moves c (End r a p ∷ es) downs → Leads attention answers log (moves ++ Takes ∷ []) (arrived answers c (End r a p)) es downs
end_leads attention answers log moves c r a p es downs out d some x are l =
    let link : Link Kept Token = link_of attention answers log moves in
    let h : Holds c (End r a p ∷ es) downs link = l.holds in
    let f : First (place_of c) (End r a p) es link.up = first_of (place_of c) (End r a p) es link.up h.up in
    let s : Split Nothing out c.to_server.arrived (End r a p ∷ es) = requests_split Nothing out c.to_server.arrived (End r a p ∷ es) are in
    let mark : (if not (place_of c).begun then asked_by (place_of c).begun p else link.server.reset) ≡ a.mark =
    end_asks (place_of c) s.middle a p link.server.reset (asked_at first_place Nothing s.middle c.to_server.arrived refl s.front) s.rest.0 s.rest.1 h.reset in
    takes_leads attention answers log moves c (End r a p) es downs l f (none_due c (End r a p ∷ es) downs link h d) refl refl
    (record {
      up = ups_next c (End r a p) es f.others f.rest;
      reset = reset_next c (End r a p) None refl;
      transaction = h.transaction;
      settings = h.settings;
      rolls = rolls_none c (answers c.session a.descriptor a.mark a.request) link.server.session.settings.midway d h.rolls;
      due = same_answer answers log c a (place_of c).number f.next.asking.named link.server.session
          (if not (place_of c).begun then asked_by (place_of c).begun p else link.server.reset) h.transaction h.settings some x mark f.names;
      down = h.down;
    })
