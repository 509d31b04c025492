-- What is seen of the connections of a play is what the model shows of its own.
use Rattle.std.proofs.Common.{◌≡◌, ◌∙◌, ◌<◌, ◌+◌, ℕ, suc, List, [], ◌∷◌, ◌++◌, length, take, get_or, Bool, true, false, Option, Some, None, option_map, refl, sym, ap, append-nil}
use Rattle.std.specs.List.{filter_map, cons_option}
use Rattle.std.proofs.lemmas.List.{take_more}
use Rattle.std.proofs.lemmas.List.Elements.{filter_map-append}
use Rattle.tds_packet.specs.declared.status.Reset.{Reset}
use Rattle.tds_session.specs.Session.{SessionState}
use Rattle.tds_world.specs.declared.report.ClientView.{ClientView}
use Rattle.tds_world.specs.declared.report.Place.{Place}
use Rattle.tds_world.specs.declared.report.Snapshot.{Snapshot}
use Rattle.tds_world.specs.Connection.{Connection, phase, up_underway}
use Rattle.tds_world.specs.Observed.{seen, snapshot_of, snapshots_from}
use Rattle.tds_world.specs.Phase.{Phase, Settled, phase_of, phase_in, state_of}
use Rattle.tds_world.specs.Record.{Record}
use Rattle.tds_play.specs.Lending.{standing_by}
use Rattle.tds_play.specs.Pipe.{Pipe}
use Rattle.tds_play.specs.Plays.{RepresentsConnection, RepresentsLive, RepresentConnections}
use Rattle.tds_play.specs.Seen.{view_of, snapshot_as, seen_by, seen_in, seen_of}
use Rattle.tds_ends.specs.Stands.{stage_by, stage_in}
use Rattle.tds_play.specs.declared.link.Link.{Link}
use Rattle.tds_play.specs.Seats.{Seat, Seated}

-- ---- One more of a list

pub kept_more : {X Y : Type 0} (h : X → Option Y) (xs : List X) (i : ℕ) (x : X) → i < length xs → x ≡ get_or xs i x
    → filter_map h (take (i + 1) xs) ≡ filter_map h (take i xs) ++ cons_option (h x) []
kept_more h xs i x less is =
    ap (filter_map h) (take_more xs i x less ∙ ap (λ y. take i xs ++ y ∷ []) (sym is)) ∙ filter_map-append h (take i xs) (x ∷ [])

pub some_more : {X Y : Type 0} (h : X → Option Y) (xs : List X) (i : ℕ) (x : X) (y : Y) (before after : List Y) → i < length xs → x ≡ get_or xs i x
    → h x ≡ Some y → before ≡ filter_map h (take i xs) → after ≡ before ++ y ∷ [] → after ≡ filter_map h (take (i + 1) xs)
some_more h xs i x y before after less is kept e then =
    then ∙ ap (λ zs. zs ++ y ∷ []) e ∙ ap (λ o. filter_map h (take i xs) ++ cons_option o []) (sym kept) ∙ sym (kept_more h xs i x less is)

pub none_more : {X Y : Type 0} (h : X → Option Y) (xs : List X) (i : ℕ) (x : X) (before after : List Y) → i < length xs → x ≡ get_or xs i x
    → h x ≡ None → before ≡ filter_map h (take i xs) → after ≡ before → after ≡ filter_map h (take (i + 1) xs)
none_more h xs i x before after less is kept e then =
    then ∙ e ∙ sym (append-nil (filter_map h (take i xs))) ∙ ap (λ o. filter_map h (take i xs) ++ cons_option o []) (sym kept) ∙ sym (kept_more h xs i x less is)

-- ---- One connection

view_by : (p : Phase) (q : Record) → view_of (stage_by p q) ≡ Some (state_of p)
view_by Settled q = refl
view_by p q = refl

view_in : (current : Option Record) → view_of (stage_in current) ≡ Some (state_of (phase_in current))
view_in None = refl
view_in (Some q) = view_by (phase_of q) q

abbrev shown : ℕ → ClientView → Place → ℕ → Option Reset → SessionState → ℕ → ℕ → Snapshot
shown conn client place descriptor mark server up down = record {
  conn = conn;
  client = client;
  place = place;
  descriptor = descriptor;
  mark = mark;
  server = server;
  to_server = up;
  to_client = down;
}

shown_alike : {E S : Type 0} (number size : ℕ) (engine : E) (link : Link E S) (seat : Seat) (pipe : Option Pipe) (c : Connection)
    → link.number ≡ number → RepresentsLive size engine link seat pipe c → snapshot_as link seat (state_of (phase c)) ≡ snapshot_of number c seat.place
shown_alike number size engine link seat pipe c numbered l =
    let view : ClientView = state_of (phase c) in
    ap (λ n. shown n view seat.place seat.client.heard.descriptor seat.client.heard.mark link.server.session link.to_server link.to_client) numbered
    ∙ ap (λ d. shown number view seat.place d seat.client.heard.mark link.server.session link.to_server link.to_client) l.stands.client.descriptor
    ∙ ap (λ m. shown number view seat.place c.heard m link.server.session link.to_server link.to_client) l.stands.client.mark
    ∙ ap (λ s. shown number view seat.place c.heard c.mark s link.to_server link.to_client) l.stands.server.session
    ∙ ap (λ n. shown number view seat.place c.heard c.mark c.session n link.to_client) l.stands.up.counts
    ∙ ap (λ n. shown number view seat.place c.heard c.mark c.session (up_underway c) n) l.stands.down.counts

by_cut : {E S : Type 0} (number size : ℕ) (engine : E) (link : Link E S) (seat : Seat) (pipe : Option Pipe) (c : Connection) (cut : Bool)
    → link.number ≡ number → (cut ≡ false → RepresentsLive size engine link seat pipe c)
    → cons_option (seen_by cut link seat) [] ≡ seen number c (standing_by cut seat.place)
by_cut number size engine link seat pipe c true numbered lives = refl
by_cut number size engine link seat pipe c false numbered lives =
    let l = lives refl in
    ap (λ o. cons_option (option_map (snapshot_as link seat) o) []) (ap view_of l.stands.client.stage ∙ view_in c.current)
    ∙ ap (λ s. s ∷ []) (shown_alike number size engine link seat pipe c numbered l)

pub seen_alike : {E S : Type 0} (number size : ℕ) (engine : E) (link : Link E S) (seat : Seat) (pipe : Option Pipe) (c : Connection)
    → RepresentsConnection number size engine link seat pipe c → cons_option (seen_in link seat) [] ≡ seen number c c.standing
seen_alike number size engine link seat pipe c p =
    by_cut number size engine link seat pipe c link.is_cut p.numbered p.lives ∙ ap (seen number c) p.standing

-- ---- All of them

before_rest : {Y : Type 0} (o : Option Y) (ys : List Y) → cons_option o ys ≡ cons_option o [] ++ ys
before_rest None ys = refl
before_rest (Some y) ys = refl

pub all_seen_alike : {E S : Type 0} (number size : ℕ) (engine : E) (links : List (Seated E S)) (pipes : ℕ → Option Pipe) (cs : List Connection)
    → RepresentConnections number size engine links pipes cs → filter_map seen_of links ≡ snapshots_from number cs
all_seen_alike number size engine [] pipes [] p = refl
all_seen_alike number size engine [] pipes (c ∷ cs) p = absurd p
all_seen_alike number size engine (l ∷ ls) pipes [] p = absurd p
all_seen_alike number size engine (l ∷ ls) pipes (c ∷ cs) p =
    before_rest (seen_of l) (filter_map seen_of ls)
    ∙ ap (λ ys. ys ++ filter_map seen_of ls) (seen_alike number size engine l.link l.seat (pipes number) c p.0)
    ∙ ap (λ ys. seen number c c.standing ++ ys) (all_seen_alike (suc number) size engine ls pipes cs p.1)
