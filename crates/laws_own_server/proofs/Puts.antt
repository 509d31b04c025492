-- A packet goes out.
use Rattle.std.proofs.Common.{◌≡◌, ◌∙◌, ℕ, Bool, List, [], ◌∷◌, ◌++◌, refl, sym, ap, subst}
use Rattle.std.specs.Prelude.{Option}
use Rattle.std.proofs.lemmas.List.{append-nil, append_assoc}
use Rattle.tds_token.specs.declared.token.Token.{Token}
use Rattle.tds_session.specs.declared.attention.OnAttention.{OnAttention}
use Rattle.tds_session.specs.Answer.{Answers}
use Rattle.tds_service.specs.Line as line
use Rattle.tds_world.specs.Connection.{Connection}
use Rattle.tds_world.specs.Entries.{Up, Down}
use Rattle.tds_world.specs.Lane.{append}
use Rattle.tds_world.specs.Record.{Record}
use Rattle.laws_conforming_server.specs.Link as links
use Rattle.laws_conforming_server.specs.Link.{Asking, Link, Move}
use Rattle.laws_own_server.specs.Bench.{Kept, Log}
use Rattle.laws_own_server.specs.Runs.{Place, first_place, packet_of, packets_of, places, things_of}
use Rattle.laws_own_server.proofs.Standing.{AreUps, Holds, Leads, Names, leads_on, link_of, packets_both, place_of, places_both, ups_more}

abbrev pub with_sent : Connection → Up → Option Record → Connection
with_sent c e o = record c { to_server = append e c.to_server; current = o }

-- where the next packet stands
abbrev pub out_place : Connection → Place
out_place c = places (place_of c) c.to_server.waiting

abbrev pub next_packet : Connection → Up → line.Packet
next_packet c e = packet_of (out_place c) e

sent_more : (c : Connection) (e : Up) → packets_of first_place (c.to_server.arrived ++ (c.to_server.waiting ++ e ∷ [])) ≡ packets_of first_place (c.to_server.arrived ++ c.to_server.waiting) ++ next_packet c e ∷ []
sent_more c e =
    ap (λ (es : List Up). packets_of first_place es) (sym (append_assoc c.to_server.arrived c.to_server.waiting (e ∷ [])))
    ∙ packets_both first_place (c.to_server.arrived ++ c.to_server.waiting) (e ∷ [])
    ∙ ap (λ (p : Place). packets_of first_place (c.to_server.arrived ++ c.to_server.waiting) ++ packet_of p e ∷ []) (places_both first_place c.to_server.arrived c.to_server.waiting)

none_came : (c : Connection) → things_of c.to_client.arrived ≡ things_of c.to_client.arrived ++ []
none_came c = sym (append-nil (things_of c.to_client.arrived))

holds_more : (c : Connection) (e : Up) (o : Option Record) (downs : List Down) (link : Link Kept Token) (us : List links.PacketUp) (asking now : Asking) → Names e asking
    → Holds c c.to_server.waiting downs link → us ≡ link.up ++ (record { asking = asking; packet = next_packet c e }) ∷ []
    → Holds (with_sent c e o) (c.to_server.waiting ++ e ∷ []) downs (record { up = us; server = link.server; down = link.down; asking = now })
holds_more c e o downs link us asking now n h i = record {
  up = subst (λ (xs : List links.PacketUp). AreUps (place_of c) (c.to_server.waiting ++ e ∷ []) xs) (sym i)
      (ups_more (place_of c) c.to_server.waiting link.up e (record { asking = asking; packet = next_packet c e }) h.up refl n);
  reset = h.reset;
  transaction = h.transaction;
  settings = h.settings;
  rolls = h.rolls;
  due = h.due;
  down = h.down;
}

-- ---- It is one of a request

abbrev pub asks_it : ℕ → ℕ → Move Token
asks_it number named = links.Here (record { act = line.Ask; answer = line.Asked number named; sent = []; told = line.Nobody })

abbrev pub sends_it : Bool → line.Packet → Move Token
sends_it last p = links.Here (record { act = line.Send last; answer = line.Sent; sent = p ∷ []; told = line.Nobody })

abbrev pub sends_moves : Connection → Up → Bool → ℕ → List (Move Token)
sends_moves c e last named = asks_it (out_place c).number named ∷ sends_it last (next_packet c e) ∷ []

pub leads_sends : (attention : OnAttention) (answers : Answers) (log : Log) (moves : List (Move Token)) (c : Connection) (e : Up) (o : Option Record) (last : Bool) (named : ℕ) → Names e (record { request = (out_place c).number; named = named })
    → Leads attention answers log moves c c.to_server.waiting c.to_client.waiting
    → Leads attention answers log (moves ++ sends_moves c e last named) (with_sent c e o) (c.to_server.waiting ++ e ∷ []) c.to_client.waiting
leads_sends attention answers log moves c e o last named n l =
    let link : Link Kept Token = link_of attention answers log moves in
    let asking : Asking = record { request = (out_place c).number; named = named } in
    leads_on attention answers log moves c (with_sent c e o) c.to_server.waiting (c.to_server.waiting ++ e ∷ []) c.to_client.waiting c.to_client.waiting l
    (asks_it (out_place c).number named ∷ sends_it last (next_packet c e) ∷ []) (tt, (tt, tt)) (sent_more c e) (none_came c)
    (holds_more c e o c.to_client.waiting link ((link.up ++ []) ++ (record { asking = asking; packet = next_packet c e }) ∷ []) asking asking n l.holds
    (ap (λ (us : List links.PacketUp). us ++ (record { asking = asking; packet = next_packet c e }) ∷ []) (append-nil link.up)))

-- ---- It is one that cancels

abbrev pub cancels_it : ℕ → line.Packet → Move Token
cancels_it number p = links.Here (record { act = line.Cancel; answer = line.Stopped number; sent = p ∷ []; told = line.Nobody })

abbrev pub cancels_moves : Connection → Up → List (Move Token)
cancels_moves c e = cancels_it (out_place c).number (next_packet c e) ∷ []

pub leads_cancels : (attention : OnAttention) (answers : Answers) (log : Log) (moves : List (Move Token)) (c : Connection) (e : Up) (o : Option Record) → ((asking : Asking) → Names e asking)
    → Leads attention answers log moves c c.to_server.waiting c.to_client.waiting
    → Leads attention answers log (moves ++ cancels_moves c e) (with_sent c e o) (c.to_server.waiting ++ e ∷ []) c.to_client.waiting
leads_cancels attention answers log moves c e o n l =
    let link : Link Kept Token = link_of attention answers log moves in
    leads_on attention answers log moves c (with_sent c e o) c.to_server.waiting (c.to_server.waiting ++ e ∷ []) c.to_client.waiting c.to_client.waiting l
    (cancels_it (out_place c).number (next_packet c e) ∷ []) (tt, tt) (sent_more c e) (none_came c)
    (holds_more c e o c.to_client.waiting link (link.up ++ (record { asking = link.asking; packet = next_packet c e }) ∷ []) link.asking link.asking (n link.asking) l.holds refl)
