-- What applications ask, as packets come one behind the other.
use Rattle.std.proofs.Common.{◌≡◌, ◌∙◌, ℕ, Bool, option_map, true, false, List, [], ◌∷◌, ◌++◌, Option, Some, None, inl, inr, refl, sym, ap, subst, drop, slice_index_or, slice_set}
use Rattle.std.specs.Prelude.{Result, Ok, Err, IfOk, IsNone, OnOk}
use Rattle.tds_packet.specs.Reading as packets
use Rattle.tds_packet.specs.declared.header.Header.{Header}
use Rattle.tds_wire.specs.declared.told.Token.{Token}
use Rattle.tds_service.specs.declared.service.Service.{Service}
use Rattle.tds_service.specs.History.{Done}
use Rattle.tds_service.specs.Parts.{Part}
use Rattle.tds_service.specs.Table.{reading_on, service_in}
use Rattle.tds_relay.specs.declared.pool.coming.Heard.{Heard}
use Rattle.tds_relay.specs.declared.pool.coming.What.{What}
use Rattle.tds_relay.specs.declared.link.Link.{Link}
use Rattle.tds_relay.specs.declared.relay.Relay as code
use Rattle.tds_relay.specs.Bodies.{Body, Spared}
use Rattle.tds_relay.specs.Coming.{AreToldOn, AskAsTold, AskOrGo, ComesTold, ContinuesTold, GoesIf, StreamsTold, acknowledged_in, acknowledges_to, asking_in, body_behind, body_heard}
use Rattle.tds_relay.specs.Core.{Core, End, Move, dones_of_part, end_at, what_in}
use Rattle.tds_relay.specs.Cutting.{is_last_packet}
use Rattle.tds_relay.specs.Fronts.{IsWhat, Moved, MovedOn, core_in, machine_in}
use Rattle.tds_relay.specs.Handing.{BringsPacket, HearsBytes, HearsBy, filled}
use Rattle.tds_relay.specs.Machine.{Machine, Manner, Step, Admits, Hands, Makes, Removes, Takes, Writes, after, after_all}
use Rattle.tds_relay.specs.Pool.{Way, whose}
use Rattle.tds_relay.specs.Queues.{Queues, queues_in}
use Rattle.tds_relay.specs.Reads.{LinksStay, Opens, StreamsAll, if_heard, link_at, open_at, open_of, place_of, reader_at, seen_of}
use Rattle.tds_relay.specs.Ties.{Connection, part_on}
use Rattle.tds_relay.specs.TokenParsers.{AllStand, ReadsBy as WalksBy, ReadsOn}
use Rattle.tds_relay.proofs.bytes.Streaming.{heard_stays, streams_begin, streams_brought, streams_moved, streams_unheard}
use Rattle.tds_relay.proofs.steps.Answering.{spared_both}
use Rattle.tds_relay.proofs.steps.Fronts.{no_moves}
use Rattle.tds_relay.proofs.steps.Placed.{IsAt, is_at, is_nowhere, is_open_at, is_shut_at}
use Rattle.tds_relay.proofs.steps.Stepping.{makes_all}

-- ---- Along steps

module _ (key : ℕ) (goes : Body) where
  tells_spared : (h : Machine) (steps : List Step) (a b c : Body) → AreToldOn key goes h steps a b → Spared b c → AreToldOn key goes h steps a c
  tells_spared h [] a b c s k = spared_both a b c s k
  tells_spared h (Hands number header content part way manner ∷ steps) a b c s k =
      (s.0, s.1, s.2, s.3, tells_spared (after h (Hands number header content part way manner)) steps s.1 b c s.4 k)
  tells_spared h (Makes move ∷ steps) a b c s k = tells_spared (after h (Makes move)) steps a b c s k
  tells_spared h (Takes other bytes ∷ steps) a b c s k = tells_spared (after h (Takes other bytes)) steps a b c s k
  tells_spared h (Writes other count ∷ steps) a b c s k = tells_spared (after h (Writes other count)) steps a b c s k
  tells_spared h (Admits other ends queues ∷ steps) a b c s k = tells_spared (after h (Admits other ends queues)) steps a b c s k
  tells_spared h (Removes other gives way ∷ steps) a b c s k = tells_spared (after h (Removes other gives way)) steps a b c s k

  tells_moves : (h : Machine) (moves : List Move) (a b : Body) → Spared a b → AreToldOn key goes h (makes_all moves) a b
  tells_moves h [] a b s = s
  tells_moves h (move ∷ moves) a b s = tells_moves (after h (Makes move)) moves a b s

  tells_quiet : (h : Machine) (steps : List Step) (moves : List Move) (a b : Body) → AreToldOn key goes h steps a b → AreToldOn key goes h (steps ++ makes_all moves) a b
  tells_quiet h [] moves a b s = tells_moves h moves a b s
  tells_quiet h (Hands number header content part way manner ∷ steps) moves a b s =
      (s.0, s.1, s.2, s.3, tells_quiet (after h (Hands number header content part way manner)) steps moves s.1 b s.4)
  tells_quiet h (Makes move ∷ steps) moves a b s = tells_quiet (after h (Makes move)) steps moves a b s
  tells_quiet h (Takes other bytes ∷ steps) moves a b s = tells_quiet (after h (Takes other bytes)) steps moves a b s
  tells_quiet h (Writes other count ∷ steps) moves a b s = tells_quiet (after h (Writes other count)) steps moves a b s
  tells_quiet h (Admits other ends queues ∷ steps) moves a b s = tells_quiet (after h (Admits other ends queues)) steps moves a b s
  tells_quiet h (Removes other gives way ∷ steps) moves a b s = tells_quiet (after h (Removes other gives way)) steps moves a b s

-- it is told so at this machine
abbrev TellsAt : ℕ → Body → ℕ → Part Token → Machine → Body → Body → Type 0
TellsAt key goes number part h b c =
    GoesIf (acknowledges_to (whose h.core.pool number) (what_in (dones_of_part h.core.pool number part))) goes
    (body_heard (whose h.core.pool number) (what_in (dones_of_part h.core.pool number part)) key (end_at h.core.ends key) b) c

module _ (key : ℕ) (goes : Body) (number : ℕ) (header : Header) (content : List ℕ) (part : Part Token) (way : Way) (manner : Manner) (b c : Body) where
  tells_one : (h : Machine) (steps : List Step) (a : Body) → AreToldOn key goes h steps a b → TellsAt key goes number part (after_all h steps) b c → AreToldOn key goes h (steps ++ Hands number header content part way manner ∷ []) a c
  tells_one h [] a s tells = (b, c, s, tells, inl refl)
  tells_one h (Hands other head more piece how so ∷ steps) a s tells =
      (s.0, s.1, s.2, s.3, tells_one (after h (Hands other head more piece how so)) steps s.1 s.4 tells)
  tells_one h (Makes move ∷ steps) a s tells = tells_one (after h (Makes move)) steps a s tells
  tells_one h (Takes other bytes ∷ steps) a s tells = tells_one (after h (Takes other bytes)) steps a s tells
  tells_one h (Writes other count ∷ steps) a s tells = tells_one (after h (Writes other count)) steps a s tells
  tells_one h (Admits other ends queues ∷ steps) a s tells = tells_one (after h (Admits other ends queues)) steps a s tells
  tells_one h (Removes other gives how ∷ steps) a s tells = tells_one (after h (Removes other gives how)) steps a s tells

-- ---- Of bytes

pub tells_begin : (number : ℕ) (first : ℕ → Body → Body) (had : Option packets.Reading) (h : Machine) (s : Service) (bytes : List ℕ) → StreamsTold number first had h s bytes bytes first had h s
tells_begin number first had h s bytes = record { streams = streams_begin number had h s bytes; told = λ key goes is. inl refl }

pub tells_left : (number : ℕ) (first last : ℕ → Body → Body) (had now : Option packets.Reading) (old h : Machine) (from to : Service) (bytes left rest : List ℕ) → rest ≡ left
    → StreamsTold number first had old from bytes left last now h to → StreamsTold number first had old from bytes rest last now h to
tells_left number first last had now old h from to bytes left rest is s = subst (λ (xs : List ℕ). StreamsTold number first had old from bytes xs last now h to) (sym is) s

unless_silent : (may : Bool) (goes a b : Body) → may ≡ false → GoesIf may goes a b → Spared a b
unless_silent may goes a b not told = subst (λ (x : Bool). GoesIf x goes a b) not told

-- a packet is told to nobody
abbrev IsSilent : Option Heard → Type 0
IsSilent heard = (acknowledged_in heard ≡ false) × ((key : ℕ) (end : Option End) (b : Body) → body_behind heard key end b ≡ b)

silent_key : (h : Heard) → h.key ≡ None → IsSilent (Some h)
silent_key h none = (
  ap (λ (who : Option ℕ). acknowledges_to who h.what) none,
  λ key end b. ap (λ (who : Option ℕ). body_heard who h.what key end b) none,
)

silent_none : IsSilent None
silent_none = (refl, λ key end b. refl)

-- nobody hears them, for the connection isn't there; or it will be so
unheard_by : (number : ℕ) (piece : List ℕ) (count : ℕ) (heard : Option Heard) (now next : Option packets.Reading) (f g : Machine) (at to : Service) → IsSilent heard → next ≡ None → g ≡ f → AllStand at to
    → ContinuesTold number piece (drop count piece) heard now next f at g to
unheard_by number piece count heard now next f g at to silent none is stand = λ first asks behind begun old from bytes s told.
    subst (λ (o : Option packets.Reading). StreamsTold number first begun old from bytes (drop count piece) behind o g to) (sym none)
    (record {
      streams = streams_unheard number begun now old f g from at to bytes piece count is stand s.streams;
      told = λ key goes going.
          tells_spared key goes old s.streams.steps (first key goes) (asks key goes) (behind key goes) (s.told key goes going)
          (subst (λ (b : Body). Spared b (behind key goes)) (silent.1 key (end_at f.core.ends key) (asks key goes))
          (unless_silent (acknowledged_in heard) goes (body_behind heard key (end_at f.core.ends key) (asks key goes)) (behind key goes) silent.0 (told.ask key goes going)));
    })

heard_as : (who : Option ℕ) (what : What) (dones : List (Done Token)) (key : ℕ) (end : Option End) (goes b c : Body) → IsWhat who what dones → GoesIf (acknowledges_to who what) goes (body_heard who what key end b) c
    → GoesIf (acknowledges_to who (what_in dones)) goes (body_heard who (what_in dones) key end b) c
heard_as None what dones key end goes b c is h = h
heard_as (Some who) what dones key end goes b c is h = subst (λ (w : What). GoesIf (acknowledges_to (Some who) w) goes (body_heard (Some who) w key end b) c) is h

brought : (number : ℕ) (first asks behind : ℕ → Body → Body) (begun now : Option packets.Reading) (link next : Link) (old f g : Machine) (from at to : Service) (bytes left : List ℕ) (count : ℕ) (heard : Heard)
    → now ≡ Some link.reader → f.core.pool.service ≡ service_in at → HearsBytes number (reading_on number at) link next left count heard f g → ReadsOn number (filled link.reader left) at to
    → BringsPacket number (reading_on number at) link.answer next.answer (filled link.reader left) heard f g → AskAsTold (acknowledged_in (Some heard)) (Some heard) f.core.ends asks behind
    → StreamsTold number first begun old from bytes left asks now f at → StreamsTold number first begun old from bytes (drop count left) behind (Some next.reader) g to
brought number first asks behind begun now link next old f g from at to bytes left count heard is its hears reads (inl none) told s =
    let silent : IsSilent (Some heard) = silent_key heard none.2.0 in
    record {
      streams = streams_brought number begun now link next old f g from at to bytes left count heard is its hears reads (inl none) s.streams;
      told = λ key goes going.
          tells_spared key goes old s.streams.steps (first key goes) (asks key goes) (behind key goes) (s.told key goes going)
          (subst (λ (b : Body). Spared b (behind key goes)) (silent.1 key (end_at f.core.ends key) (asks key goes))
          (unless_silent (acknowledged_in (Some heard)) goes (body_behind (Some heard) key (end_at f.core.ends key) (asks key goes)) (behind key goes) silent.0 (told.ask key goes going)));
    }
brought number first asks behind begun now link next old f g from at to bytes left count heard is its hears reads (inr p) told s =
    let part = part_on (reading_on number at) p.content (is_last_packet p.header) in
    let dones : List (Done Token) = dones_of_part f.core.pool number part in
    record {
      streams = streams_brought number begun now link next old f g from at to bytes left count heard is its hears reads (inr p) s.streams;
      told = λ key goes going.
          tells_one key goes number p.header p.content part p.way p.manner (asks key goes) (behind key goes) old s.streams.steps (first key goes) (s.told key goes going)
          (subst (λ (h : Machine). TellsAt key goes number part h (asks key goes) (behind key goes)) (sym s.streams.are)
          (subst (λ (who : Option ℕ). GoesIf (acknowledges_to who (what_in dones)) goes (body_heard who (what_in dones) key (end_at f.core.ends key) (asks key goes)) (behind key goes)) p.whose_is
          (heard_as heard.key heard.what dones key (end_at f.core.ends key) goes (asks key goes) (behind key goes) p.what_is (told.ask key goes going))));
    }

-- ---- As calls answer

hear_by : (number : ℕ) (link next : Link) (piece : List ℕ) (now behind : Option packets.Reading) (f g : Machine) (at to : Service) (count : ℕ) (heard : Option Heard)
    → now ≡ Some link.reader → behind ≡ Some next.reader → f.core.pool.service ≡ service_in at → HearsBy number (reading_on number at) link next piece count heard f g
    → WalksBy number (filled link.reader piece) heard at to → ContinuesTold number piece (drop count piece) heard now (if_heard heard behind) f at g to
hear_by number link next piece now behind f g at to count None is after its h walks = unheard_by number piece count None now None f g at to silent_none refl h.1 walks
hear_by number link next piece now behind f g at to count (Some heard) is after its h walks = λ first asks on begun old from bytes s told.
    subst (λ (o : Option packets.Reading). StreamsTold number first begun old from bytes (drop count piece) on o g to) (sym after)
    (brought number first asks on begun now link next old f g from at to bytes piece count heard is its h walks h.brings told s)

hear_ok : {E : Type 0} (r : Result (ℕ × Option Heard) E) (number : ℕ) (link next : Link) (piece : List ℕ) (now behind : Option packets.Reading) (f : Machine) (g : Option Heard → Machine) (at to : Service)
    → now ≡ Some link.reader → behind ≡ Some next.reader → f.core.pool.service ≡ service_in at
    → IfOk r (λ heard. HearsBy number (reading_on number at) link next piece heard.0 heard.1 f (g heard.1)) → IfOk r (λ heard. WalksBy number (filled link.reader piece) heard.1 at to)
    → IfOk r (λ heard. ContinuesTold number piece (drop heard.0 piece) heard.1 now (if_heard heard.1 behind) f at (g heard.1) to)
hear_ok (Ok x) number link next piece now behind f g at to is after its h walks = hear_by number link next piece now behind f (g x.1) at to x.0 x.1 is after its h walks
hear_ok (Err e) number link next piece now behind f g at to is after its h walks = tt

-- it is open, and what has come of a packet is written back
pub tells_at : {E : Type 0} (r : Result (ℕ × Option Heard) E) (number : ℕ) (ls : List Link) (place : ℕ) (l next : Link) (piece : List ℕ) (f : Machine) (g : Option Heard → Machine) (from to : Service)
    → place_of number ls ≡ Some place → l ≡ slice_index_or ls place l → next.number ≡ l.number → l.is_open ≡ true → next.is_open ≡ l.is_open → f.core.pool.service ≡ service_in from
    → IfOk r (λ heard. HearsBy number (reading_on number from) l next piece heard.0 heard.1 f (g heard.1)) → IfOk r (λ heard. WalksBy number (filled l.reader piece) heard.1 from to)
    → IfOk r (λ heard. ContinuesTold number piece (drop heard.0 piece) heard.1 (open_at number ls) (if_heard heard.1 (open_at number (slice_set ls place next))) f from (g heard.1) to)
tells_at r number ls place l next piece f g from to is there same is_open stays its h walks =
    let at : IsAt number ls place = is_at number ls place is in
    let found : link_at number ls ≡ Some l = at.found l ∙ ap Some (sym there) in
    let written : link_at number (slice_set ls place next) ≡ Some next = at.written l next (same ∙ ap (λ (x : Link). x.number) there) in
    hear_ok r number l next piece (open_at number ls) (open_at number (slice_set ls place next)) f g from to
    (is_open_at number ls l found is_open) (is_open_at number (slice_set ls place next) next written (stays ∙ is_open)) its h walks

-- it isn't open
pub tells_shut : (number : ℕ) (piece : List ℕ) (count : ℕ) (heard : Heard) (ls : List Link) (place : ℕ) (l : Link) (f : Machine) (at : Service) → heard.key ≡ None → place_of number ls ≡ Some place → l ≡ slice_index_or ls place l → l.is_open ≡ false
    → ContinuesTold number piece (drop count piece) (Some heard) (open_at number ls) (open_at number (slice_set ls place l)) f at f at
tells_shut number piece count heard ls place l f at none is there closed =
    let here : IsAt number ls place = is_at number ls place is in
    let written : link_at number (slice_set ls place l) ≡ Some l = here.written l l (ap (λ (x : Link). x.number) there) in
    unheard_by number piece count (Some heard) (open_at number ls) (open_at number (slice_set ls place l)) f f at at (silent_key heard none)
    (is_shut_at number (slice_set ls place l) l written closed) refl (λ n r st. st)

-- it isn't there
pub tells_nowhere : (number : ℕ) (piece : List ℕ) (count : ℕ) (heard : Heard) (ls : List Link) (f : Machine) (at : Service) → heard.key ≡ None → place_of number ls ≡ None
    → ContinuesTold number piece (drop count piece) (Some heard) (open_at number ls) (open_at number ls) f at f at
tells_nowhere number piece count heard ls f at none is =
    unheard_by number piece count (Some heard) (open_at number ls) (open_at number ls) f f at at (silent_key heard none)
    (ap (λ (o : Option Link). open_of (option_map seen_of o)) (is_nowhere number ls is)) refl (λ n r st. st)

-- bytes are heard, and what came of them is done
pub tells_more : (number : ℕ) (first asks behind : ℕ → Body → Body) (had now : Option packets.Reading) (old f : Machine) (from at between to : Service) (h h1 : Core) (ps ps1 : Queues) (bytes left rest : List ℕ) (heard : Option Heard)
    (ls ms : List Link) → StreamsTold number first had old from bytes left asks now f at
    → ContinuesTold number left rest heard now (if_heard heard (open_at number ls)) f at (record { core = h; queues = ps }) between
    → Moved (Connection number) h h1 → ps1 ≡ ps → LinksStay ls ms → (IsNone heard → reader_at number ms ≡ None) → AllStand between to → AskAsTold (acknowledged_in heard) heard f.core.ends asks behind
    → StreamsTold number first had old from bytes rest behind (open_at number ms) (record { core = h1; queues = ps1 }) to
tells_more number first asks behind had now old f from at between to h h1 ps ps1 bytes left rest heard ls ms s hears m kept stays gone stand told =
    let t = hears first asks behind had old from bytes s told in
    let moves = (m h (no_moves (Connection number) h)).moves in
    record {
      streams = streams_moved number had (if_heard heard (open_at number ls)) (open_at number ms) old from between to h h1 ps ps1 bytes rest m kept (heard_stays number heard ls ms stays gone) stand t.streams;
      told = λ key goes going. tells_quiet key goes old t.streams.steps moves (first key goes) (behind key goes) (t.told key goes going);
    }

pub tells_all : (number : ℕ) (first last : ℕ → Body → Body) (had now : Option packets.Reading) (old h : Machine) (from to : Service) (bytes left : List ℕ) → left ≡ []
    → StreamsTold number first had old from bytes left last now h to → StreamsTold number first had old from bytes [] last now h to
tells_all number first last had now old h from to bytes left none s = tells_left number first last had now old h from to bytes left [] (sym none) s

-- and then those who wait are served
pub comes_told : {A E : Type 0} (r : Result A E) (number : ℕ) (bytes : List ℕ) (old mid new : code.Relay)
    → StreamsTold number (asking_in old.applications) (open_at number old.links.items) (machine_in old) old.pool.service bytes [] (asking_in mid.applications) (open_at number mid.links.items) (machine_in mid) mid.pool.service
    → OnOk r (MovedOn (core_in mid) (core_in new)) → OnOk r (queues_in new.applications ≡ queues_in mid.applications) → OnOk r (Opens mid.links.items new.links.items) → OnOk r (AllStand mid.pool.service new.pool.service)
    → OnOk r (AskOrGo mid.applications new.applications) → OnOk r (ComesTold number bytes old new)
comes_told (Ok x) number bytes old mid new s on kept opens stand asks =
    let all : StreamsAll number (open_at number old.links.items) (machine_in old) old.pool.service bytes (open_at number mid.links.items) (machine_in mid) mid.pool.service = record { left = []; streams = s.streams; all = refl } in
    record {
      comes = record {
        mid = machine_in mid;
        left = open_at number mid.links.items;
        at = mid.pool.service;
        streams = all;
        goes_on = λ by. on by (core_in mid) (no_moves by (core_in mid));
        kept = kept;
        has = opens.opens number;
        stand = stand;
      };
      behind = asking_in mid.applications;
      told = s.told;
      served = asks.ask;
    }
comes_told (Err e) number bytes old mid new s on kept opens stand asks = tt
