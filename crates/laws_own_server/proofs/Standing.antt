-- A connection of the bench and a link with a lawful server, side by side.
use Rattle.std.proofs.Common.{◌≡◌, ◌∙◌, ◌&&◌, Bool, true, false, List, [], ◌∷◌, ◌++◌, refl, sym, ap, subst}
use Rattle.std.proofs.lemmas.List.{append_assoc}
use Rattle.tds_token.specs.declared.token.Token.{Token}
use Rattle.tds_session.specs.declared.attention.OnAttention.{OnAttention}
use Rattle.tds_session.specs.Answer.{Answers}
use Rattle.tds_session.specs.Attention.{acknowledging}
use Rattle.tds_session.specs.Session.{is_in_transaction}
use Rattle.tds_service.specs.Parts.{Item}
use Rattle.tds_service.specs.Line as line
use Rattle.tds_service.specs.Line.{Act}
use Rattle.tds_service.specs.History.{Done}
use Rattle.tds_world.specs.Arrivals.{is_midway}
use Rattle.tds_world.specs.Connection.{Connection}
use Rattle.tds_world.specs.Entries.{Up, Part, End, Drop, Attention, Down, Step, Acknowledgement}
use Rattle.laws_conforming_server.specs.Lawful as lawful
use Rattle.laws_conforming_server.specs.Lawful.{AnyServer}
use Rattle.laws_conforming_server.specs.Link as links
use Rattle.laws_conforming_server.specs.Link.{Asking, Link, Move, Runs, goes, here, link_after, new_link, taken, takes}
use Rattle.laws_own_server.specs.Bench.{Kept, Log, bench, said}
use Rattle.laws_own_server.specs.Runs.{Place, Stands, Thing, A, MessageEnd, Break, first_place, packet_of, packets_in, packets_of, packets_up, place_behind, places, then_items, then_close, items_of, close_if, things_of, things_said, things_by, things_in}
use Rattle.laws_own_server.proofs.Speaking.{after_both, here_both, runs_both}

-- ---- What goes out

-- The packet that makes a request whole is of the transaction that its header names.
abbrev pub Names : Up → Asking → Type 0
Names (Part r p) asking = Unit {0}
Names (End r a p) asking = asking.named ≡ a.descriptor
Names (Drop r p) asking = Unit {0}
Names (Attention r) asking = Unit {0}

abbrev pub AreUps : Place → List Up → List links.PacketUp → Type 0
AreUps place [] us = us ≡ []
AreUps place (e ∷ es) [] = ⊥
AreUps place (e ∷ es) (u ∷ us) = (u.packet ≡ packet_of place e) × Names e u.asking × AreUps (place_behind place e) es us

pub ups_packets : (place : Place) (es : List Up) (us : List links.PacketUp) → AreUps place es us → packets_up us ≡ packets_of place es
ups_packets place [] us a = ap packets_up a
ups_packets place (e ∷ es) [] a = absurd a
ups_packets place (e ∷ es) (u ∷ us) a =
    ap (λ (p : line.Packet). p ∷ packets_up us) a.0 ∙ ap (λ (ps : List line.Packet). packet_of place e ∷ ps) (ups_packets (place_behind place e) es us a.2)

pub ups_more : (place : Place) (es : List Up) (us : List links.PacketUp) (e : Up) (u : links.PacketUp) → AreUps place es us → u.packet ≡ packet_of (places place es) e → Names e u.asking
    → AreUps place (es ++ e ∷ []) (us ++ u ∷ [])
ups_more place [] us e u a p n = subst (λ (xs : List links.PacketUp). AreUps place (e ∷ []) (xs ++ u ∷ [])) (sym a) (p, n, refl)
ups_more place (x ∷ es) [] e u a p n = absurd a
ups_more place (x ∷ es) (y ∷ us) e u a p n = (a.0, a.1, ups_more (place_behind place x) es us e u a.2 p n)

pub places_both : (place : Place) (es fs : List Up) → places place (es ++ fs) ≡ places (places place es) fs
places_both place [] fs = refl
places_both place (e ∷ es) fs = places_both (place_behind place e) es fs

pub packets_both : (place : Place) (es fs : List Up) → packets_of place (es ++ fs) ≡ packets_of place es ++ packets_of (places place es) fs
packets_both place [] fs = refl
packets_both place (e ∷ es) fs = ap (λ (ps : List line.Packet). packet_of place e ∷ ps) (packets_both (place_behind place e) es fs)

pub packets_in_both : {T : Type 0} (ds es : List (Done T)) → packets_in (ds ++ es) ≡ packets_in ds ++ packets_in es
packets_in_both [] es = refl
packets_in_both (d ∷ ds) es = ap (λ (ps : List line.Packet). d.sent ++ ps) (packets_in_both ds es) ∙ sym (append_assoc d.sent (packets_in ds) (packets_in es))

-- ---- What comes

pub items_then : {T : Type 0} (items : List (Item T)) (xs ys : List (Thing T)) → then_items items (xs ++ ys) ≡ then_items items xs ++ ys
items_then [] xs ys = refl
items_then {T} (item ∷ items) xs ys = ap (λ (zs : List (Thing T)). A item ∷ zs) (items_then items xs ys)

pub close_then : {T : Type 0} (last : Bool) (xs ys : List (Thing T)) → then_close (close_if last) (xs ++ ys) ≡ then_close (close_if last) xs ++ ys
close_then true xs ys = refl
close_then false xs ys = refl

pub things_both : (es fs : List Down) → things_of (es ++ fs) ≡ things_of es ++ things_of fs
things_both [] fs = refl
things_both (Step r place s ∷ es) fs =
    ap (λ (zs : List (Thing Token)). then_items (items_of s.tokens) (then_close (close_if s.last) zs)) (things_both es fs)
    ∙ ap (λ (zs : List (Thing Token)). then_items (items_of s.tokens) zs) (close_then s.last (things_of es) (things_of fs))
    ∙ items_then (items_of s.tokens) (then_close (close_if s.last) (things_of es)) (things_of fs)
things_both (Acknowledgement r place changes ∷ es) fs =
    ap (λ (zs : List (Thing Token)). then_items (items_of (acknowledging changes)) (MessageEnd ∷ zs)) (things_both es fs)
    ∙ items_then (items_of (acknowledging changes)) (MessageEnd ∷ things_of es) (things_of fs)

pub said_both : {V T : Type 0} (xs ys : List (lawful.ServerStep V T)) → things_said (xs ++ ys) ≡ things_said xs ++ things_said ys
said_both [] ys = refl
said_both {V} {T} (lawful.Says item after ∷ xs) ys = ap (λ (zs : List (Thing T)). A item ∷ zs) (said_both xs ys)
said_both {V} {T} (lawful.Ends ∷ xs) ys = ap (λ (zs : List (Thing T)). MessageEnd ∷ zs) (said_both xs ys)
said_both {V} {T} (lawful.Breaks ∷ xs) ys = ap (λ (zs : List (Thing T)). Break ∷ zs) (said_both xs ys)

pub things_in_both : {T : Type 0} (ds es : List (Done T)) → things_in (ds ++ es) ≡ things_in ds ++ things_in es
things_in_both [] es = refl
things_in_both {T} (d ∷ ds) es =
    ap (λ (zs : List (Thing T)). things_by d.act ++ zs) (things_in_both ds es) ∙ sym (append_assoc (things_by d.act) (things_in ds) (things_in es))

-- ---- Side by side

abbrev pub place_of : Connection → Place
place_of c = places first_place c.to_server.arrived

pub record Holds (c : Connection) (ups : List Up) (downs : List Down) (link : Link Kept Token) : Type 0 where
  pub up : AreUps (place_of c) ups link.up
  pub reset : link.server.reset ≡ (place_of c).reset
  pub transaction : link.server.session.transaction ≡ c.session.descriptor
  pub settings : link.server.session.settings.settings ≡ c.session.settings
  pub rolls : (link.server.session.settings.midway && is_in_transaction c.session) ≡ (is_midway c.taken c.due && is_in_transaction c.session)
  pub due : link.server.due ≡ said c.session.descriptor c.due
  pub down : things_said link.down ≡ things_of downs

pub holds_stand : (c : Connection) (link : Link Kept Token) → Holds c c.to_server.waiting c.to_client.waiting link → Stands c link
holds_stand c link h = record {
  up = ups_packets (place_of c) c.to_server.waiting link.up h.up;
  down = h.down;
  transaction = h.transaction;
  settings = h.settings;
  due = h.due;
}

-- A run that leads there.
pub record Leads (attention : OnAttention) (answers : Answers) (log : Log) (moves : List (Move Token)) (c : Connection) (ups : List Up) (downs : List Down) : Type 0 where
  pub runs : Runs (bench attention answers log) (new_link (bench attention answers log)) moves
  pub sent : packets_in (here moves) ≡ packets_of first_place (c.to_server.arrived ++ ups)
  pub came : things_in (here moves) ≡ things_of c.to_client.arrived
  pub holds : Holds c ups downs (link_after (bench attention answers log) (new_link (bench attention answers log)) moves)

abbrev pub link_of : (attention : OnAttention) (answers : Answers) (log : Log) → List (Move Token) → Link Kept Token
link_of attention answers log moves = link_after (bench attention answers log) (new_link (bench attention answers log)) moves

-- More moves lead on.
pub leads_on : (attention : OnAttention) (answers : Answers) (log : Log) (moves : List (Move Token)) (c d : Connection) (ups ups_then : List Up) (downs downs_then : List Down)
    (l : Leads attention answers log moves c ups downs) (more : List (Move Token))
    → Runs (bench attention answers log) (link_of attention answers log moves) more
    → packets_of first_place (d.to_server.arrived ++ ups_then) ≡ packets_of first_place (c.to_server.arrived ++ ups) ++ packets_in (here more)
    → things_of d.to_client.arrived ≡ things_of c.to_client.arrived ++ things_in (here more)
    → Holds d ups_then downs_then (link_after (bench attention answers log) (link_of attention answers log moves) more)
    → Leads attention answers log (moves ++ more) d ups_then downs_then
leads_on attention answers log moves c d ups ups_then downs downs_then l more r s t h =
    let engine : AnyServer Kept Token = bench attention answers log in
    record {
      runs = runs_both engine (new_link engine) moves more l.runs r;
      sent = ap packets_in (here_both moves more) ∙ packets_in_both (here moves) (here more) ∙ ap (λ (ps : List line.Packet). ps ++ packets_in (here more)) l.sent ∙ sym s;
      came = ap things_in (here_both moves more) ∙ things_in_both (here moves) (here more) ∙ ap (λ (zs : List (Thing Token)). zs ++ things_in (here more)) l.came ∙ sym t;
      holds = subst (λ (k : Link Kept Token). Holds d ups_then downs_then k) (sym (after_both engine (new_link engine) moves more)) h;
    }
