-- Packets that are set anew, one behind the other.
use Rattle.std.proofs.Common.{◌≡◌, ◌≢◌, ◌⊎◌, ◌∙◌, ℕ, Bool, true, false, List, [], ◌∷◌, ◌++◌, Option, Some, None, inl, inr, refl, sym, ap, subst, drop, option_map, slice_index_or, slice_set}
use Rattle.std.proofs.lemmas.Bool.{cases_eq}
use Rattle.std.specs.Prelude.{Result, Ok, Err, IfOk, IsNone, OnOk}
use Rattle.tds_packet.specs.Reading as packets
use Rattle.tds_packet.specs.declared.header.Header.{Header}
use Rattle.tds_wire.specs.declared.told.Token.{Token}
use Rattle.tds_service.specs.declared.service.Service.{Service}
use Rattle.tds_service.specs.Parts.{Part}
use Rattle.tds_service.specs.Table.{reading_on, service_in}
use Rattle.tds_relay.specs.declared.pool.coming.Heard.{Heard}
use Rattle.tds_relay.specs.declared.link.Answer.{Answer}
use Rattle.tds_relay.specs.declared.link.Link.{Link}
use Rattle.tds_relay.specs.declared.relay.Relay as code
use Rattle.tds_relay.specs.Cutting.{at_its_beginning, is_last_packet}
use Rattle.tds_relay.specs.Pool.{Way, find_number, key_of, owes_reset, whose}
use Rattle.tds_relay.specs.Fronts.{IsWhat, Moved, MovedOn, core_in, machine_in}
use Rattle.tds_relay.specs.Core.{Core, Move, dones_of_part, what_in}
use Rattle.tds_service.specs.History.{Done}
use Rattle.tds_relay.specs.declared.pool.coming.What.{What}
use Rattle.tds_relay.specs.declared.pool.coming.What.TheVariants as whats
use Rattle.tds_relay.specs.Handing.{BringsPacket, HearsBytes, HearsBy, IsNothing, PassesAs, filled}
use Rattle.tds_relay.specs.Machine.{Machine, Manner, Step, Admits, Hands, Makes, Removes, Takes, Writes, after, after_all}
use Rattle.tds_relay.specs.Lent.{KeepsAnswers, KeepsWaits, LendsInLine, MayBeLent}
use Rattle.tds_relay.specs.Lent as lent
use Rattle.tds_relay.specs.Queues.{Queues, queues_in}
use Rattle.tds_relay.specs.Reads.{Carried, MayBegin, Opens, LinksStay, StaysAt, StreamsAll, answer_at, answer_on, carried_by, if_heard, if_open, link_at, open_answer, open_at, open_of, place_of, reader_at, seen_of}
use Rattle.tds_relay.specs.Coming.{AreSetAnew, BeginAnyIf, BeginsIf, BeginsLent, ComesAnew, ContinuesAnew, MayBeginAny, StreamsAnew, acknowledges_to, acknowledged_in}
use Rattle.tds_relay.proofs.steps.Beginning.{begin_both, begin_refl}
use Rattle.tds_relay.specs.Ties.{Connection, IsReached, pool_in, part_on}
use Rattle.tds_relay.specs.TokenParsers.{AllStand, ReadsBy as WalksBy, ReadsOn}
use Rattle.tds_relay.proofs.bytes.Streaming.{heard_stays, streams_begin, streams_brought, streams_moved, streams_unheard}
use Rattle.tds_relay.proofs.spared.Begun.{at_next}
use Rattle.tds_relay.proofs.spared.Filling.{key_some}
use Rattle.tds_relay.proofs.spared.Waits.{others_link}
use Rattle.tds_relay.proofs.steps.Fronts.{no_moves}
use Rattle.tds_relay.proofs.steps.Placed.{IsAt, is_at, is_nowhere, is_open_at, is_shut_at}
use Rattle.tds_relay.proofs.steps.Staying.{at_refl}
use Rattle.tds_relay.proofs.steps.Stepping.{makes_all}

-- ---- What is known of a message

-- whether the next one may begin or not, it may stay
pub stays_if : (may : Bool) (o p : Option Answer) → StaysAt o p → BeginsIf may o p
stays_if true o p h = inl h
stays_if false o p h = h

keeps_if : (may : Bool) (ls ms : List Link) → KeepsAnswers ls ms → BeginAnyIf may ls ms
keeps_if may ls ms h = record { begins = λ n. stays_if may (answer_at n ls) (answer_at n ms) (h.keeps n) }

pub any_if : {A E : Type 0} (r : Result A E) (may : Bool) (ls ms : List Link) → OnOk r (KeepsAnswers ls ms) → OnOk r (BeginAnyIf may ls ms)
any_if (Ok x) may ls ms h = keeps_if may ls ms h
any_if (Err e) may ls ms h = tt

pub sent_if : (may : Bool) (ls ms ns : List Link) → ms ≡ ls → KeepsAnswers ms ns → BeginAnyIf may ls ns
sent_if may ls ms ns same h = keeps_if may ls ns (subst (λ (xs : List Link). KeepsAnswers xs ns) same h)

may_begin : (may : Bool) (ls ms : List Link) → may ≡ true → MayBeginAny ls ms → BeginAnyIf may ls ms
may_begin may ls ms is h = subst (λ (b : Bool). BeginAnyIf b ls ms) (sym is) (record { begins = h.begins })

pub begins_any : {A E : Type 0} (r : Result A E) (may : Bool) (ls ms : List Link) → may ≡ true → OnOk r (MayBeginAny ls ms) → OnOk r (BeginAnyIf may ls ms)
begins_any (Ok x) may ls ms is h = may_begin may ls ms is h
begins_any (Err e) may ls ms is h = tt

-- it acknowledges what its application cancelled
pub acknowledges_one : (o : Option Heard) (h : Heard) (key : ℕ) → o ≡ Some h → h.key ≡ Some key → h.what ≡ whats.Acknowledged → acknowledged_in o ≡ true
acknowledges_one o h key is its what =
    ap acknowledged_in is ∙ ap (λ (k : Option ℕ). acknowledges_to k h.what) its ∙ ap (λ (w : What). acknowledges_to (Some key) w) what

pub any_refl : (ls : List Link) → MayBeginAny ls ls
any_refl ls = record { begins = λ n. begin_refl (answer_at n ls) }

pub any_keeps : (ls ms : List Link) → KeepsAnswers ls ms → MayBeginAny ls ms
any_keeps ls ms h = record { begins = λ n. inl (h.keeps n) }

pub any_both : (ls ms ns : List Link) → MayBeginAny ls ms → MayBeginAny ms ns → MayBeginAny ls ns
any_both ls ms ns h k = record { begins = λ n. begin_both (answer_at n ls) (answer_at n ms) (answer_at n ns) (h.begins n) (k.begins n) }

pub any_on : {A E : Type 0} (r : Result A E) (ls ms ns : List Link) → MayBeginAny ls ms → OnOk r (MayBeginAny ms ns) → OnOk r (MayBeginAny ls ns)
any_on (Ok x) ls ms ns h k = any_both ls ms ns h k
any_on (Err e) ls ms ns h k = tt

pub any_kept : {A E : Type 0} (r : Result A E) (ls ms ns : List Link) → MayBeginAny ls ms → OnOk r (KeepsAnswers ms ns) → OnOk r (MayBeginAny ls ns)
any_kept (Ok x) ls ms ns h k = any_both ls ms ns h (any_keeps ms ns k)
any_kept (Err e) ls ms ns h k = tt

pub any_same : {A E : Type 0} (r : Result A E) (ls ms ns : List Link) → MayBeginAny ls ms → OnOk r (ns ≡ ms) → OnOk r (MayBeginAny ls ns)
any_same (Ok x) ls ms ns h same = subst (λ (xs : List Link). MayBeginAny ls xs) (sym same) h
any_same (Err e) ls ms ns h same = tt

pub any_sent : (ls ms ns : List Link) → ms ≡ ls → KeepsAnswers ms ns → MayBeginAny ls ns
any_sent ls ms ns same k = any_keeps ls ns (subst (λ (xs : List Link). KeepsAnswers xs ns) same k)

-- ---- Along steps

set_stays : (h : Machine) (steps : List Step) (first b c : Option Answer) → AreSetAnew h steps first b → StaysAt b c → AreSetAnew h steps first c
set_stays h [] first b c s k = at_next first b c s k
set_stays h (Hands number header content part way manner ∷ steps) first b c s k =
    (s.0, s.1, s.2, s.3, s.4, s.5, set_stays (after h (Hands number header content part way manner)) steps s.2 b c s.6 k)
set_stays h (Makes move ∷ steps) first b c s k = set_stays (after h (Makes move)) steps first b c s k
set_stays h (Takes key bytes ∷ steps) first b c s k = set_stays (after h (Takes key bytes)) steps first b c s k
set_stays h (Writes key count ∷ steps) first b c s k = set_stays (after h (Writes key count)) steps first b c s k
set_stays h (Admits key ends queues ∷ steps) first b c s k = set_stays (after h (Admits key ends queues)) steps first b c s k
set_stays h (Removes key gives way ∷ steps) first b c s k = set_stays (after h (Removes key gives way)) steps first b c s k

set_moves : (h : Machine) (moves : List Move) (b c : Option Answer) → StaysAt b c → AreSetAnew h (makes_all moves) b c
set_moves h [] b c k = k
set_moves h (move ∷ moves) b c k = set_moves (after h (Makes move)) moves b c k

set_quiet : (h : Machine) (steps : List Step) (moves : List Move) (first b : Option Answer) → AreSetAnew h steps first b → AreSetAnew h (steps ++ makes_all moves) first b
set_quiet h [] moves first b s = set_moves h moves first b s
set_quiet h (Hands number header content part way manner ∷ steps) moves first b s =
    (s.0, s.1, s.2, s.3, s.4, s.5, set_quiet (after h (Hands number header content part way manner)) steps moves s.2 b s.6)
set_quiet h (Makes move ∷ steps) moves first b s = set_quiet (after h (Makes move)) steps moves first b s
set_quiet h (Takes key bytes ∷ steps) moves first b s = set_quiet (after h (Takes key bytes)) steps moves first b s
set_quiet h (Writes key count ∷ steps) moves first b s = set_quiet (after h (Writes key count)) steps moves first b s
set_quiet h (Admits key ends queues ∷ steps) moves first b s = set_quiet (after h (Admits key ends queues)) steps moves first b s
set_quiet h (Removes key gives way ∷ steps) moves first b s = set_quiet (after h (Removes key gives way)) steps moves first b s

module _ (number : ℕ) (header : Header) (content : List ℕ) (part : Part Token) (way : Way) (manner : Manner) (from next : Answer) (behind : Option Answer) where
  set_one : (h : Machine) (steps : List Step) (first : Option Answer) → AreSetAnew h steps first (Some from) → PassesAs (owes_reset number (after_all h steps).core.pool) from header content part manner next
      → BeginsIf (acknowledges_to (whose (after_all h steps).core.pool number) (what_in (dones_of_part (after_all h steps).core.pool number part))) (Some next) behind
      → AreSetAnew h (steps ++ Hands number header content part way manner ∷ []) first behind
  set_one h [] first s cut begins = (from, next, behind, s, cut, begins, at_refl behind)
  set_one h (Hands other head more piece how so ∷ steps) first s cut begins =
      (s.0, s.1, s.2, s.3, s.4, s.5, set_one (after h (Hands other head more piece how so)) steps s.2 s.6 cut begins)
  set_one h (Makes move ∷ steps) first s cut begins = set_one (after h (Makes move)) steps first s cut begins
  set_one h (Takes key bytes ∷ steps) first s cut begins = set_one (after h (Takes key bytes)) steps first s cut begins
  set_one h (Writes key count ∷ steps) first s cut begins = set_one (after h (Writes key count)) steps first s cut begins
  set_one h (Admits key ends queues ∷ steps) first s cut begins = set_one (after h (Admits key ends queues)) steps first s cut begins
  set_one h (Removes key gives how ∷ steps) first s cut begins = set_one (after h (Removes key gives how)) steps first s cut begins

-- ---- Of bytes

pub anew_begin : (number : ℕ) (first : Option Answer) (had : Option packets.Reading) (h : Machine) (s : Service) (bytes : List ℕ) → StreamsAnew number first had h s bytes bytes first had h s
anew_begin number first had h s bytes = record { streams = streams_begin number had h s bytes; anew = at_refl first }

pub anew_left : (number : ℕ) (first last : Option Answer) (had now : Option packets.Reading) (old h : Machine) (from to : Service) (bytes left rest : List ℕ) → rest ≡ left
    → StreamsAnew number first had old from bytes left last now h to → StreamsAnew number first had old from bytes rest last now h to
anew_left number first last had now old h from to bytes left rest is s = subst (λ (xs : List ℕ). StreamsAnew number first had old from bytes xs last now h to) (sym is) s

stays_unless : (may : Bool) (o p : Option Answer) → may ≡ false → BeginsIf may o p → StaysAt o p
stays_unless may o p not begins = subst (λ (b : Bool). BeginsIf b o p) not begins

-- nobody hears them, for the connection isn't there; or it will be so
unheard_by : (number : ℕ) (piece : List ℕ) (count : ℕ) (heard : Option Heard) (now next : Option packets.Reading) (b c : Option Answer) (f g : Machine) (at to : Service) → acknowledged_in heard ≡ false → next ≡ None → StaysAt b c → g ≡ f → AllStand at to
    → ContinuesAnew number piece (drop count piece) heard b now c next f at g to
unheard_by number piece count heard now next b c f g at to silent none same is stand = λ first behind begun old from bytes s begins.
    subst (λ (o : Option packets.Reading). StreamsAnew number first begun old from bytes (drop count piece) behind o g to) (sym none)
    (record {
      streams = streams_unheard number begun now old f g from at to bytes piece count is stand s.streams;
      anew = set_stays old s.streams.steps first b behind s.anew (at_next b c behind same (stays_unless (acknowledged_in heard) c behind silent begins));
    })

as_it_is : (b c : Option Answer) (l m : Answer) → b ≡ Some l → c ≡ Some m → m ≡ l → StaysAt b c
as_it_is b c l m had has same = subst (λ (o : Option Answer). StaysAt b o) (had ∙ ap Some (sym same) ∙ sym has) (at_refl b)

nothing_silent : (h : Heard) → IsNothing h → acknowledged_in (Some h) ≡ false
nothing_silent h nothing = ap (λ (k : Option ℕ). acknowledges_to k h.what) nothing.0

same_what : (key : Option ℕ) (what : What) (dones : List (Done Token)) → IsWhat key what dones → acknowledges_to key what ≡ acknowledges_to key (what_in dones)
same_what None what dones is = refl
same_what (Some key) what dones is = ap (λ (w : What). acknowledges_to (Some key) w) is

brought : (number : ℕ) (first b c behind : Option Answer) (begun now : Option packets.Reading) (link next : Link) (old f g : Machine) (from at to : Service) (bytes left : List ℕ) (count : ℕ) (heard : Heard)
    → b ≡ Some link.answer → c ≡ Some next.answer → now ≡ Some link.reader → f.core.pool.service ≡ service_in at → HearsBytes number (reading_on number at) link next left count heard f g → ReadsOn number (filled link.reader left) at to
    → BringsPacket number (reading_on number at) link.answer next.answer (filled link.reader left) heard f g → BeginsIf (acknowledged_in (Some heard)) c behind → StreamsAnew number first begun old from bytes left b now f at
    → StreamsAnew number first begun old from bytes (drop count left) behind (Some next.reader) g to
brought number first b c behind begun now link next old f g from at to bytes left count heard had has is its hears reads (inl none) begins s = record {
  streams = streams_brought number begun now link next old f g from at to bytes left count heard is its hears reads (inl none) s.streams;
  anew = set_stays old s.streams.steps first b behind s.anew
      (at_next b c behind (as_it_is b c link.answer next.answer had has none.3) (stays_unless (acknowledged_in (Some heard)) c behind (nothing_silent heard none.2) begins));
}
brought number first b c behind begun now link next old f g from at to bytes left count heard had has is its hears reads (inr p) begins s =
    let part = part_on (reading_on number at) p.content (is_last_packet p.header) in
    let before : AreSetAnew old s.streams.steps first (Some link.answer) = subst (λ (o : Option Answer). AreSetAnew old s.streams.steps first o) had s.anew in
    let cut : PassesAs (owes_reset number (after_all old s.streams.steps).core.pool) link.answer p.header p.content part p.manner next.answer =
    subst (λ (h : Machine). PassesAs (owes_reset number h.core.pool) link.answer p.header p.content part p.manner next.answer) (sym s.streams.are) p.cut in
    let what : acknowledged_in (Some heard) ≡ acknowledges_to (whose f.core.pool number) (what_in (dones_of_part f.core.pool number part)) =
    same_what heard.key heard.what (dones_of_part f.core.pool number part) p.what_is ∙ ap (λ (k : Option ℕ). acknowledges_to k (what_in (dones_of_part f.core.pool number part))) p.whose_is in
    let here : BeginsIf (acknowledges_to (whose f.core.pool number) (what_in (dones_of_part f.core.pool number part))) (Some next.answer) behind =
    subst (λ (may : Bool). BeginsIf may (Some next.answer) behind) what (subst (λ (o : Option Answer). BeginsIf (acknowledged_in (Some heard)) o behind) has begins) in
    record {
      streams = streams_brought number begun now link next old f g from at to bytes left count heard is its hears reads (inr p) s.streams;
      anew = set_one number p.header p.content part p.way p.manner link.answer next.answer behind old s.streams.steps first before cut
          (subst (λ (h : Machine). BeginsIf (acknowledges_to (whose h.core.pool number) (what_in (dones_of_part h.core.pool number part))) (Some next.answer) behind) (sym s.streams.are) here);
    }

-- ---- As calls answer

hear_by : (number : ℕ) (link next : Link) (piece : List ℕ) (now behind : Option packets.Reading) (b c : Option Answer) (f g : Machine) (at to : Service) (count : ℕ) (heard : Option Heard)
    → b ≡ Some link.answer → c ≡ Some next.answer → now ≡ Some link.reader → behind ≡ Some next.reader → f.core.pool.service ≡ service_in at → HearsBy number (reading_on number at) link next piece count heard f g
    → WalksBy number (filled link.reader piece) heard at to → ContinuesAnew number piece (drop count piece) heard b now c (if_heard heard behind) f at g to
hear_by number link next piece now behind b c f g at to count None had has is after its h walks =
    unheard_by number piece count None now None b c f g at to refl refl (as_it_is b c link.answer next.answer had has h.2) h.1 walks
hear_by number link next piece now behind b c f g at to count (Some heard) had has is after its h walks = λ first on begun old from bytes s begins.
    subst (λ (o : Option packets.Reading). StreamsAnew number first begun old from bytes (drop count piece) on o g to) (sym after)
    (brought number first b c on begun now link next old f g from at to bytes piece count heard had has is its h walks h.brings begins s)

hear_ok : {E : Type 0} (r : Result (ℕ × Option Heard) E) (number : ℕ) (link next : Link) (piece : List ℕ) (now behind : Option packets.Reading) (b c : Option Answer) (f : Machine) (g : Option Heard → Machine) (at to : Service)
    → b ≡ Some link.answer → c ≡ Some next.answer → now ≡ Some link.reader → behind ≡ Some next.reader → f.core.pool.service ≡ service_in at
    → IfOk r (λ heard. HearsBy number (reading_on number at) link next piece heard.0 heard.1 f (g heard.1)) → IfOk r (λ heard. WalksBy number (filled link.reader piece) heard.1 at to)
    → IfOk r (λ heard. ContinuesAnew number piece (drop heard.0 piece) heard.1 b now c (if_heard heard.1 behind) f at (g heard.1) to)
hear_ok (Ok x) number link next piece now behind b c f g at to had has is after its h walks = hear_by number link next piece now behind b c f (g x.1) at to x.0 x.1 had has is after its h walks
hear_ok (Err e) number link next piece now behind b c f g at to had has is after its h walks = tt

-- it is open, and what has come of a packet is written back
pub hear_at : {E : Type 0} (r : Result (ℕ × Option Heard) E) (number : ℕ) (ls : List Link) (place : ℕ) (l next : Link) (piece : List ℕ) (f : Machine) (g : Option Heard → Machine) (from to : Service)
    → place_of number ls ≡ Some place → l ≡ slice_index_or ls place l → next.number ≡ l.number → l.is_open ≡ true → next.is_open ≡ l.is_open → f.core.pool.service ≡ service_in from
    → IfOk r (λ heard. HearsBy number (reading_on number from) l next piece heard.0 heard.1 f (g heard.1)) → IfOk r (λ heard. WalksBy number (filled l.reader piece) heard.1 from to)
    → IfOk r (λ heard. ContinuesAnew number piece (drop heard.0 piece) heard.1 (answer_at number ls) (open_at number ls) (answer_at number (slice_set ls place next)) (if_heard heard.1 (open_at number (slice_set ls place next))) f from (g heard.1) to)
hear_at r number ls place l next piece f g from to is there same is_open stays its h walks =
    let at : IsAt number ls place = is_at number ls place is in
    let found : link_at number ls ≡ Some l = at.found l ∙ ap Some (sym there) in
    let written : link_at number (slice_set ls place next) ≡ Some next = at.written l next (same ∙ ap (λ (x : Link). x.number) there) in
    hear_ok r number l next piece (open_at number ls) (open_at number (slice_set ls place next)) (answer_at number ls) (answer_at number (slice_set ls place next)) f g from to
    (ap (option_map answer_on) found) (ap (option_map answer_on) written) (is_open_at number ls l found is_open) (is_open_at number (slice_set ls place next) next written (stays ∙ is_open)) its h walks

-- it isn't open
pub unopened : (number : ℕ) (piece : List ℕ) (count : ℕ) (heard : Option Heard) (ls : List Link) (place : ℕ) (l : Link) (f : Machine) (at : Service) → acknowledged_in heard ≡ false → place_of number ls ≡ Some place → l ≡ slice_index_or ls place l → l.is_open ≡ false
    → ContinuesAnew number piece (drop count piece) heard (answer_at number ls) (open_at number ls) (answer_at number (slice_set ls place l)) (open_at number (slice_set ls place l)) f at f at
unopened number piece count heard ls place l f at silent is there closed =
    let here : IsAt number ls place = is_at number ls place is in
    let found : link_at number ls ≡ Some l = here.found l ∙ ap Some (sym there) in
    let written : link_at number (slice_set ls place l) ≡ Some l = here.written l l (ap (λ (x : Link). x.number) there) in
    unheard_by number piece count heard (open_at number ls) (open_at number (slice_set ls place l)) (answer_at number ls) (answer_at number (slice_set ls place l)) f f at at silent
    (is_shut_at number (slice_set ls place l) l written closed) (as_it_is (answer_at number ls) (answer_at number (slice_set ls place l)) l.answer l.answer (ap (option_map answer_on) found) (ap (option_map answer_on) written) refl)
    refl (λ n r st. st)

-- it isn't there
pub unheard : (number : ℕ) (piece : List ℕ) (count : ℕ) (heard : Option Heard) (ls : List Link) (f : Machine) (at : Service) → acknowledged_in heard ≡ false → place_of number ls ≡ None
    → ContinuesAnew number piece (drop count piece) heard (answer_at number ls) (open_at number ls) (answer_at number ls) (open_at number ls) f at f at
unheard number piece count heard ls f at silent is =
    unheard_by number piece count heard (open_at number ls) (open_at number ls) (answer_at number ls) (answer_at number ls) f f at at silent
    (ap (λ (o : Option Link). open_of (option_map seen_of o)) (is_nowhere number ls is)) (at_refl (answer_at number ls)) refl (λ n r st. st)

-- bytes are heard, and what came of them is done
pub anew_on : (number : ℕ) (first : Option Answer) (had : Option packets.Reading) (old f : Machine) (from at between to : Service) (h h1 : Core) (ps ps1 : Queues) (bytes left rest : List ℕ) (heard : Option Heard) (b : Option Answer) (now : Option packets.Reading)
    (ls ms : List Link) → StreamsAnew number first had old from bytes left b now f at
    → ContinuesAnew number left rest heard b now (answer_at number ls) (if_heard heard (open_at number ls)) f at (record { core = h; queues = ps }) between
    → Moved (Connection number) h h1 → ps1 ≡ ps → LinksStay ls ms → (IsNone heard → reader_at number ms ≡ None) → AllStand between to → BeginAnyIf (acknowledged_in heard) ls ms
    → StreamsAnew number first had old from bytes rest (answer_at number ms) (open_at number ms) (record { core = h1; queues = ps1 }) to
anew_on number first had old f from at between to h h1 ps ps1 bytes left rest heard b now ls ms s hears m kept stays gone stand begins =
    let t = hears first (answer_at number ms) had old from bytes s (begins.begins number) in
    let moves = (m h (no_moves (Connection number) h)).moves in
    record {
      streams = streams_moved number had (if_heard heard (open_at number ls)) (open_at number ms) old from between to h h1 ps ps1 bytes rest m kept (heard_stays number heard ls ms stays gone) stand t.streams;
      anew = set_quiet old t.streams.steps moves first (answer_at number ms) t.anew;
    }

-- and then those who wait are served
gone_answer : (x : Option packets.Reading) (o : Option Link) → option_map carried_by o ≡ None → if_open x (option_map answer_on o) ≡ None
gone_answer None o e = refl
gone_answer (Some r) None e = refl
gone_answer (Some r) (Some l) e = absurd (let u : ⊥ = cc in u)

same_answer : (o p : Option packets.Reading) (a b : Option Answer) → StaysAt o p → b ≡ a → StaysAt (if_open o a) (if_open p b)
same_answer o None a b stays e = tt
same_answer o (Some r) a b stays e = subst (λ (x : Option packets.Reading). StaysAt (if_open x a) b) (sym stays) (subst (λ (y : Option Answer). StaysAt a y) (sym e) (at_refl a))

abbrev known_of : (o : Option Carried) → Option Answer
known_of o = option_map (λ (c : Carried). c.1) o

known_is : (o : Option Link) → known_of (option_map carried_by o) ≡ option_map answer_on o
known_is None = refl
known_is (Some l) = refl

begins_kept : (number : ℕ) (mid new : code.Relay) → Opens mid.links.items new.links.items → KeepsWaits number mid.links.items new.links.items → StaysAt (open_answer number mid.links.items) (open_answer number new.links.items)
begins_kept number mid new opens (inl none) =
    subst (λ (o : Option Answer). StaysAt (open_answer number mid.links.items) o) (sym (gone_answer (open_at number new.links.items) (link_at number new.links.items) none)) tt
begins_kept number mid new opens (inr same) =
    same_answer (open_at number mid.links.items) (open_at number new.links.items) (answer_at number mid.links.items) (answer_at number new.links.items) (opens.opens number)
    (sym (known_is (link_at number new.links.items)) ∙ ap known_of same ∙ known_is (link_at number mid.links.items))

begins_by : (number : ℕ) (mid new : code.Relay) → Opens mid.links.items new.links.items → MayBeLent number mid.pool.line.items mid.pool.holds.items mid.links.items new.pool.holds.items new.links.items
    → BeginsLent number (core_in mid) (core_in new) (open_answer number mid.links.items) (open_answer number new.links.items)
begins_by number mid new opens (lent.OfWaiting h is i) = inr (inr (h.key, ap key_of is, i), opens.begins number)
begins_by number mid new opens (lent.Keeps e kept) = inl (begins_kept number mid new opens kept)
begins_by number mid new opens (lent.Lends none some) = inr (inl (ap key_of none, key_some (find_number number new.pool.holds.items) some), opens.begins number)

pub comes_anew : {A E : Type 0} (r : Result A E) (number : ℕ) (bytes : List ℕ) (old mid new : code.Relay)
    → StreamsAnew number (answer_at number old.links.items) (open_at number old.links.items) (machine_in old) old.pool.service bytes [] (answer_at number mid.links.items) (open_at number mid.links.items) (machine_in mid) mid.pool.service
    → OnOk r (MovedOn (core_in mid) (core_in new)) → OnOk r (queues_in new.applications ≡ queues_in mid.applications) → OnOk r (Opens mid.links.items new.links.items) → OnOk r (AllStand mid.pool.service new.pool.service)
    → (IsReached (pool_in old.pool) → IsReached (pool_in mid.pool)) → (IsReached (pool_in mid.pool) → OnOk r (LendsInLine mid new)) → OnOk r (ComesAnew number bytes old new)
comes_anew (Ok x) number bytes old mid new s on kept opens stand led lends =
    let all : StreamsAll number (open_at number old.links.items) (machine_in old) old.pool.service bytes (open_at number mid.links.items) (machine_in mid) mid.pool.service = record { left = []; streams = s.streams; all = refl } in
    record {
      comes = record {
        mid = machine_in mid;
        left = open_at number mid.links.items;
        at = mid.pool.service;
        streams = all;
        goes_on = λ by. on by (core_in mid) (no_moves by (core_in mid));
        kept = kept;
        has = opens.opens number;
        stand = stand;
      };
      behind = answer_at number mid.links.items;
      anew = s.anew;
      begins = λ reached. begins_by number mid new opens (lends (led reached) number);
    }
comes_anew (Err e) number bytes old mid new s on kept opens stand led lends = tt

pub anew_all : (number : ℕ) (first last : Option Answer) (had now : Option packets.Reading) (old h : Machine) (from to : Service) (bytes left : List ℕ) → left ≡ []
    → StreamsAnew number first had old from bytes left last now h to → StreamsAnew number first had old from bytes [] last now h to
anew_all number first last had now old h from to bytes left none s = anew_left number first last had now old h from to bytes left [] (sym none) s

-- ---- Where one is lent anew

other_answer : (number n : ℕ) (o p : Option Answer) → (n ≡ number) ⊎ (n ≢ number) → (n ≡ number → p ≡ option_map at_its_beginning o) → (n ≢ number → p ≡ o) → MayBegin o p
other_answer number n o p (inl same) begins stays = inr (subst (λ (x : Option Answer). StaysAt (option_map at_its_beginning o) x) (sym (begins same)) (at_refl (option_map at_its_beginning o)))
other_answer number n o p (inr differs) begins stays = inl (subst (λ (x : Option Answer). StaysAt o x) (sym (stays differs)) (at_refl o))

pub any_begins : (number : ℕ) (ls ms : List Link) → answer_at number ms ≡ option_map at_its_beginning (answer_at number ls) → ((other : ℕ) → other ≢ number → answer_at other ms ≡ answer_at other ls) → MayBeginAny ls ms
any_begins number ls ms begins others = record {
  begins = λ n. other_answer number n (answer_at n ls) (answer_at n ms) (cases_eq n number)
      (λ same. ap (λ (k : ℕ). answer_at k ms) same ∙ begins ∙ ap (λ (k : ℕ). option_map at_its_beginning (answer_at k ls)) (sym same)) (others n);
}

pub any_written : (number : ℕ) (ls : List Link) (place : ℕ) (d m : Link) → place_of number ls ≡ Some place → m.number ≡ (slice_index_or ls place d).number → m.answer ≡ at_its_beginning (slice_index_or ls place d).answer
    → MayBeginAny ls (slice_set ls place m)
any_written number ls place d m is same answer =
    let at : IsAt number ls place = is_at number ls place is in
    any_begins number ls (slice_set ls place m)
    (ap (option_map answer_on) (at.written d m same) ∙ ap Some answer ∙ sym (ap (λ (o : Option Link). option_map at_its_beginning (option_map answer_on o)) (at.found d)))
    (λ other differs. ap (option_map answer_on) (others_link number ls place d m is same other differs))
