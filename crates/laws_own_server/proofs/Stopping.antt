-- An attention arrives at the server, and stops what is due.
use Rattle.std.proofs.Common.{◌≡◌, ◌∙◌, ℕ, false, List, [], ◌∷◌, ◌++◌, refl, sym, ap, subst}
use Rattle.std.specs.Prelude.{None}
use Rattle.std.proofs.lemmas.List.{append-nil}
use Rattle.tds_token.specs.declared.token.Token.{Token}
use Rattle.tds_session.specs.Answer.{Answers}
use Rattle.tds_session.specs.Attention.{Stop, acknowledging, rolls_back}
use Rattle.tds_service.specs.Line as line
use Rattle.tds_world.specs.Arrivals.{acknowledged_at, is_midway, stops}
use Rattle.tds_world.specs.Connection.{Connection}
use Rattle.tds_world.specs.Entries.{Up, Attention, Acknowledgement}
use Rattle.laws_conforming_server.specs.Lawful.{AnyServer, Session, ServerStep, Ends}
use Rattle.laws_conforming_server.specs.Link as links
use Rattle.laws_conforming_server.specs.Link.{Link, Move, Takes, Runs, goes, here, link_after}
use Rattle.laws_own_server.specs.Bench.{Kept, Log, bench, said_stop}
use Rattle.laws_own_server.specs.Runs.{Thing, MessageEnd, items_of, first_place, packets_in, packets_of, things_in, things_of, things_said, then_items}
use Rattle.laws_own_server.proofs.Arriving.{First, arrived, first_of, may_take, reset_next, same_packets, took, took_it, ups_next}
use Rattle.laws_own_server.proofs.Speaking.{behind_all, says_all, speaks, speaks_here}
use Rattle.laws_own_server.proofs.Standing.{Holds, Leads, leads_on, link_of, place_of, said_both, things_both}
use Rattle.laws_own_server.proofs.Told.{behind_stop, same_stop, session, stop_settings, tokens_things}

-- what is said then
abbrev pub stop_said : Connection → List (ServerStep Kept Token)
stop_said c = said_stop c.session.descriptor (stops c)

stop_things : (d : ℕ) (stop : Stop) → things_said (said_stop d stop) ≡ then_items (items_of (acknowledging stop.changes)) (MessageEnd ∷ [])
stop_things d stop = tokens_things None d (record { settings = stop.after.settings; midway = false }) (acknowledging stop.changes) (Ends ∷ [])

stop_down : (c : Connection) (r : ℕ) (down : List (ServerStep Kept Token)) → things_said down ≡ things_of c.to_client.waiting
    → things_said (down ++ stop_said c) ≡ things_of (c.to_client.waiting ++ Acknowledgement r (acknowledged_at c.due c.taken) (stops c).changes ∷ [])
stop_down c r down h =
    said_both down (stop_said c)
    ∙ ap (λ (zs : List (Thing Token)). zs ++ things_said (stop_said c)) h
    ∙ ap (λ (zs : List (Thing Token)). things_of c.to_client.waiting ++ zs) (stop_things c.session.descriptor (stops c))
    ∙ sym (things_both c.to_client.waiting (Acknowledgement r (acknowledged_at c.due c.taken) (stops c).changes ∷ []))

-- the link behind it
abbrev pub stopped_link : Connection → Link Kept Token → List links.PacketUp → Link Kept Token
stopped_link c link us = record {
  up = us;
  server = record { session = session (stops c).after.descriptor (record { settings = c.session.settings; midway = false }); reset = None; due = [] };
  down = link.down ++ stop_said c;
  asking = link.asking;
}

abbrev pub stopping : Connection → List (Move Token)
stopping c = Takes ∷ speaks (stop_said c)

none_here : (c : Connection) → here (stopping c) ≡ []
none_here c = speaks_here (stop_said c)

pub attention_leads : (answers : Answers) (log : Log) (moves : List (Move Token)) (c : Connection) (r : ℕ) (es : List Up)
    → Leads c.on_attention answers log moves c (Attention r ∷ es) c.to_client.waiting
    → Leads c.on_attention answers log (moves ++ stopping c) (arrived answers c (Attention r)) es (arrived answers c (Attention r)).to_client.waiting
attention_leads answers log moves c r es l =
    let engine : AnyServer Kept Token = bench c.on_attention answers log in
    let link : Link Kept Token = link_of c.on_attention answers log moves in
    let h : Holds c (Attention r ∷ es) c.to_client.waiting link = l.holds in
    let f : First (place_of c) (Attention r) es link.up = first_of (place_of c) (Attention r) es link.up h.up in
    let now : Link Kept Token = took engine link f.next f.others line.Attention in
    let due : now.server.due ≡ stop_said c ++ [] =
    same_stop c.on_attention link.server.session c.session (is_midway c.taken c.due) h.transaction h.settings h.rolls ∙ sym (append-nil (stop_said c)) in
    let s = says_all engine now (stop_said c) [] due in
    let it : goes engine link Takes ≡ now = took_it engine link f.next f.others line.Attention f.are f.packet in
    let behind : behind_all link.server.session (stop_said c) ≡ session (stops c).after.descriptor (record { settings = c.session.settings; midway = false }) =
    behind_stop link.server.session (rolls_back c.on_attention (is_midway c.taken c.due) c.session) c.session in
    let last : link_after engine link (stopping c) ≡ stopped_link c link f.others =
    ap (λ (k : Link Kept Token). link_after engine k (speaks (stop_said c))) it ∙ s.1
    ∙ ap (λ (x : Session Kept). record { up = f.others; server = record { session = x; reset = None; due = [] }; down = link.down ++ stop_said c; asking = link.asking }) behind in
    leads_on c.on_attention answers log moves c (arrived answers c (Attention r)) (Attention r ∷ es) es c.to_client.waiting (arrived answers c (Attention r)).to_client.waiting l (stopping c)
    (may_take link f.next f.others line.Attention f.are f.packet tt, subst (λ (k : Link Kept Token). Runs engine k (speaks (stop_said c))) (sym it) s.0)
    (same_packets c (Attention r) es ∙ ap (λ ps. packets_of first_place (c.to_server.arrived ++ Attention r ∷ es) ++ packets_in {T = Token} ps) (sym (none_here c)))
    (sym (append-nil (things_of c.to_client.arrived)) ∙ ap (λ ps. things_of c.to_client.arrived ++ things_in ps) (sym (none_here c)))
    (subst (λ (k : Link Kept Token). Holds (arrived answers c (Attention r)) es (arrived answers c (Attention r)).to_client.waiting k) (sym last)
    (record {
      up = ups_next c (Attention r) es f.others f.rest;
      reset = reset_next c (Attention r) None refl;
      transaction = refl;
      settings = stop_settings (rolls_back c.on_attention (is_midway c.taken c.due) c.session) c.session;
      rolls = refl;
      due = refl;
      down = stop_down c r link.down h.down;
    }))
