-- What comes by steps of the bytes that a connection's reader takes.
use Rattle.std.proofs.Common.{◌≡◌, ◌∙◌, ℕ, List, [], ◌∷◌, ◌++◌, Option, Some, None, inl, inr, refl, sym, ap, subst, drop, take, append_assoc, append-nil}
use Rattle.std.proofs.lemmas.List.{take-append-drop}
use Rattle.std.specs.Prelude.{Result, Ok, Err, IsNone, OnOk}
use Rattle.tds_packet.specs.Layout.{header_bytes}
use Rattle.tds_packet.specs.Reading as packets
use Rattle.tds_packet.specs.Reading.{IsWhole, with_taken}
use Rattle.tds_packet.specs.Stream.{IsLess}
use Rattle.tds_service.specs.declared.service.Service.{Service}
use Rattle.tds_service.specs.Table.{reading_on, service_in}
use Rattle.tds_relay.specs.declared.pool.coming.Heard.{Heard}
use Rattle.tds_relay.specs.declared.link.Link.{Link}
use Rattle.tds_relay.specs.Cutting.{is_last_packet}
use Rattle.tds_relay.specs.Fronts.{Moved, MovedOn}
use Rattle.tds_relay.specs.Core.{Core, Move, Moves}
use Rattle.tds_relay.specs.Handing.{BringsPacket, HearsBytes, filled}
use Rattle.tds_relay.specs.Machine.{Machine, Step, Admits, CausesStep, Hands, Makes, MayAll, MayStep, Removes, Steps, Takes, Writes, after, after_all}
use Rattle.tds_relay.specs.Queues.{Queues}
use Rattle.tds_relay.specs.Reads.{BytesCome, Opens, ReaderTakes, ReadsBy, LinksStay, StaysAt, ReadsPackets, StreamsAll, if_heard, open_at, packets_in_steps, reader_at}
use Rattle.tds_relay.specs.Ties.{Connection, part_on}
use Rattle.tds_relay.specs.TokenParsers.{AllStand, ReadsOn, Walks}
use Rattle.tds_relay.proofs.bytes.Rereading.{walks_both, walks_hands, walks_makes, walks_none, walks_on}
use Rattle.tds_relay.proofs.steps.Fronts.{each_both, no_moves}
use Rattle.tds_relay.proofs.steps.Handed.{may_hand}
use Rattle.tds_relay.proofs.steps.Staying.{gone_open, stays_opens}
use Rattle.tds_relay.proofs.steps.Stepping.{after_both, after_makes, caused_makes, makes_all, may_both, may_makes}
use Rattle.tds_relay.proofs.bytes.Taking.{reads_gone, reads_less, reads_nothing, reads_packet, reads_stays}

-- ---- Packets of steps

pub packets_both : (xs ys : List Step) → packets_in_steps (xs ++ ys) ≡ packets_in_steps xs ++ packets_in_steps ys
packets_both [] ys = refl
packets_both (Makes move ∷ xs) ys = packets_both xs ys
packets_both (Hands number header content part way manner ∷ xs) ys = ap (λ (zs : List (List ℕ)). (header_bytes header ++ content) ∷ zs) (packets_both xs ys)
packets_both (Takes key bytes ∷ xs) ys = packets_both xs ys
packets_both (Writes key count ∷ xs) ys = packets_both xs ys
packets_both (Admits key ends queues ∷ xs) ys = packets_both xs ys
packets_both (Removes key gives way ∷ xs) ys = packets_both xs ys

pub no_packets : (moves : List Move) → packets_in_steps (makes_all moves) ≡ []
no_packets [] = refl
no_packets (move ∷ moves) = no_packets moves

-- ---- From call to call

pub begins_by : (had : Option packets.Reading) → ReadsBy had [] [] had
begins_by None = (refl, refl)
begins_by (Some r) = λ few. reads_nothing r few

abbrev pub streams_begin : (number : ℕ) (had : Option packets.Reading) (h : Machine) (s : Service) (bytes : List ℕ) → ReadsPackets number had h s bytes bytes had h s
streams_begin number had h s bytes = record { steps = []; heard = []; are = refl; may = tt; caused = tt; bytes_are = refl; reads = begins_by had; walks = walks_none s h }

pub streams_left : (number : ℕ) (had now : Option packets.Reading) (old h : Machine) (from to : Service) (bytes left rest : List ℕ) → rest ≡ left → ReadsPackets number had old from bytes left now h to → ReadsPackets number had old from bytes rest now h to
streams_left number had now old h from to bytes left rest is s = subst (λ (xs : List ℕ). ReadsPackets number had old from bytes xs now h to) (sym is) s

-- the core moves on, and nothing more comes of the connection
abbrev pub streams_go : (number : ℕ) (had now next : Option packets.Reading) (old : Machine) (from at to : Service) (h h1 : Core) (ps ps1 : Queues) (bytes left : List ℕ)
    → Moves (Connection number) h h1 → ps1 ≡ ps → StaysAt now next → AllStand at to → ReadsPackets number had old from bytes left now (record { core = h; queues = ps }) at → ReadsPackets number had old from bytes left next (record { core = h1; queues = ps1 }) to
streams_go number had now next old from at to h h1 ps ps1 bytes left m kept stays stand s =
    let more : List Step = makes_all m.moves in
    let mid : Machine = record { core = h; queues = ps } in
    let same : packets_in_steps s.steps ≡ packets_in_steps (s.steps ++ more) =
    sym (append-nil (packets_in_steps s.steps)) ∙ ap (λ (xs : List (List ℕ)). packets_in_steps s.steps ++ xs) (sym (no_packets m.moves)) ∙ sym (packets_both s.steps more) in
    record {
      steps = s.steps ++ more;
      heard = s.heard;
      are =
          after_both old s.steps more ∙ ap (λ (x : Machine). after_all x more) s.are ∙ after_makes mid m.moves
          ∙ ap (λ (x : Core). record { core = x; queues = ps }) m.are
          ∙ ap (λ (xs : Queues). record { core = h1; queues = xs }) (sym kept);
      may = may_both old s.steps more s.may (subst (λ (x : Machine). MayAll x more) (sym s.are) (may_makes mid m.moves m.may m.quiet));
      caused = each_both (CausesStep (Connection number)) s.steps more s.caused (caused_makes (Connection number) m.moves m.caused);
      bytes_are = s.bytes_are;
      reads = subst (λ (xs : List (List ℕ)). ReadsBy had s.heard xs next) same (reads_stays had s.heard (packets_in_steps s.steps) now next stays s.reads);
      walks = walks_both from at to old s.steps more s.walks (walks_makes at to (after_all old s.steps) m.moves stand);
    }

abbrev pub streams_moved : (number : ℕ) (had now next : Option packets.Reading) (old : Machine) (from at to : Service) (h h1 : Core) (ps ps1 : Queues) (bytes left : List ℕ)
    → Moved (Connection number) h h1 → ps1 ≡ ps → StaysAt now next → AllStand at to → ReadsPackets number had old from bytes left now (record { core = h; queues = ps }) at
    → ReadsPackets number had old from bytes left next (record { core = h1; queues = ps1 }) to
streams_moved number had now next old from at to h h1 ps ps1 bytes left m kept stays stand s =
    streams_go number had now next old from at to h h1 ps ps1 bytes left (m h (no_moves (Connection number) h)) kept stays stand s

-- steps of a call
pub streams_steps : (number : ℕ) (had now : Option packets.Reading) (old new : Machine) (from to : Service) (bytes left : List ℕ) → ReadsPackets number had old from bytes left now new to → Steps (Connection number) old new
streams_steps number had now old new from to bytes left s = record { steps = s.steps; are = s.are; may = s.may; caused = s.caused }

-- bytes that were heard, and the others
pub heard_more : (bytes heard left : List ℕ) (count : ℕ) → bytes ≡ heard ++ left → bytes ≡ (heard ++ take count left) ++ drop count left
heard_more bytes heard left count e =
    e ∙ ap (λ (xs : List ℕ). heard ++ xs) (sym (take-append-drop count left)) ∙ sym (append_assoc heard (take count left) (drop count left))

-- nobody hears them, for the connection isn't there; or it will be so
abbrev pub streams_unheard : (number : ℕ) (had now : Option packets.Reading) (old f g : Machine) (from at to : Service) (bytes left : List ℕ) (count : ℕ) → g ≡ f → AllStand at to
    → ReadsPackets number had old from bytes left now f at → ReadsPackets number had old from bytes (drop count left) None g to
streams_unheard number had now old f g from at to bytes left count same stand s = record {
  steps = s.steps;
  heard = s.heard ++ take count left;
  are = s.are ∙ sym same;
  may = s.may;
  caused = s.caused;
  bytes_are = heard_more bytes s.heard left count s.bytes_are;
  reads = reads_gone had s.heard (take count left) (packets_in_steps s.steps) (reads_stays had s.heard (packets_in_steps s.steps) now None tt s.reads);
  walks = walks_on from at to old s.steps s.walks stand;
}

pub less_by : (had now : Option packets.Reading) (r next : packets.Reading) (bytes more : List ℕ) (ps : List (List ℕ)) → ReadsBy had bytes ps now → now ≡ Some r → next ≡ with_taken r (r.taken ++ more) → IsLess next next.taken
    → ReadsBy had (bytes ++ more) ps (Some next)
less_by None now r next bytes more ps s is fed few = absurd (let none = s.1 in let u : ⊥ = cc in u)
less_by (Some h) now r next bytes more ps s is fed few = λ begins. reads_less h r next bytes more ps (subst (λ (o : Option packets.Reading). ReaderTakes h bytes ps o) is (s begins)) fed few

pub packet_by : (had now : Option packets.Reading) (r next : packets.Reading) (bytes more : List ℕ) (ps : List (List ℕ)) → ReadsBy had bytes ps now → now ≡ Some r → IsWhole (with_taken r (r.taken ++ more)) → next ≡ with_taken r []
    → ReadsBy had (bytes ++ more) (ps ++ (r.taken ++ more) ∷ []) (Some next)
packet_by None now r next bytes more ps s is whole fed = absurd (let none = s.1 in let u : ⊥ = cc in u)
packet_by (Some h) now r next bytes more ps s is whole fed = λ begins. reads_packet h r next bytes more ps (subst (λ (o : Option packets.Reading). ReaderTakes h bytes ps o) is (s begins)) whole fed

-- what they are with what was there
abbrev pub streams_brought : (number : ℕ) (had now : Option packets.Reading) (link next : Link) (old f g : Machine) (from at to : Service) (bytes left : List ℕ) (count : ℕ) (heard : Heard)
    → now ≡ Some link.reader → f.core.pool.service ≡ service_in at → HearsBytes number (reading_on number at) link next left count heard f g → ReadsOn number (filled link.reader left) at to
    → BringsPacket number (reading_on number at) link.answer next.answer (filled link.reader left) heard f g → ReadsPackets number had old from bytes left now f at → ReadsPackets number had old from bytes (drop count left) (Some next.reader) g to
streams_brought number had now link next old f g from at to bytes left count heard is its hears reads (inl none) s =
    let more : List ℕ = take count left in
    let r : packets.Reading = filled link.reader left in
    let same : r ≡ with_taken link.reader (link.reader.taken ++ more) = ap (λ (xs : List ℕ). with_taken link.reader xs) hears.taken in
    record {
      steps = s.steps;
      heard = s.heard ++ more;
      are = s.are ∙ sym none.1;
      may = s.may;
      caused = s.caused;
      bytes_are = heard_more bytes s.heard left count s.bytes_are;
      reads = less_by had now link.reader next.reader s.heard more (packets_in_steps s.steps) s.reads is (hears.done.less none.0 ∙ same) hears.less;
      walks = walks_on from at to old s.steps s.walks (reads.none none.0);
    }
streams_brought number had now link next old f g from at to bytes left count heard is its hears reads (inr p) s =
    let parser = reading_on number at in
    let more : List ℕ = take count left in
    let r : packets.Reading = filled link.reader left in
    let same : r ≡ with_taken link.reader (link.reader.taken ++ more) = ap (λ (xs : List ℕ). with_taken link.reader xs) hears.taken in
    let step : Step = Hands number p.header p.content (part_on parser p.content (is_last_packet p.header)) p.way p.manner in
    let packet : header_bytes p.header ++ p.content ≡ link.reader.taken ++ more = sym p.packet.laid_out.spelled ∙ hears.taken in
    let all : packets_in_steps s.steps ++ (link.reader.taken ++ more) ∷ [] ≡ packets_in_steps (s.steps ++ step ∷ []) =
    ap (λ (xs : List ℕ). packets_in_steps s.steps ++ xs ∷ []) (sym packet) ∙ sym (packets_both s.steps (step ∷ [])) in
    let whole : IsWhole r = (p.header, p.content, p.packet) in
    let may : MayStep f step = may_hand number parser link.answer next.answer r heard f g p in
    record {
      steps = s.steps ++ step ∷ [];
      heard = s.heard ++ more;
      are = after_both old s.steps (step ∷ []) ∙ ap (λ (h : Machine). after h step) s.are ∙ sym p.is;
      may = may_both old s.steps (step ∷ []) s.may (subst (λ (h : Machine). MayAll h (step ∷ [])) (sym s.are) (may, tt));
      caused = each_both (CausesStep (Connection number)) s.steps (step ∷ []) s.caused ((refl, tt), tt);
      bytes_are = heard_more bytes s.heard left count s.bytes_are;
      reads = subst (λ (ps : List (List ℕ)). ReadsBy had (s.heard ++ more) ps (Some next.reader)) all
          (packet_by had now link.reader next.reader s.heard more (packets_in_steps s.steps) s.reads is (subst (λ (x : packets.Reading). IsWhole x) same whole) (hears.done.whole whole));
      walks = walks_both from at to old s.steps (step ∷ []) s.walks
          (subst (λ (h : Machine). Walks at h (step ∷ []) to) (sym s.are)
          (walks_hands number p.header p.content p.way p.manner at to f its (reads.one p.header p.content p.packet)));
    }

-- ---- As calls answer

pub heard_stays : (number : ℕ) (heard : Option Heard) (ls ms : List Link) → LinksStay ls ms → (IsNone heard → reader_at number ms ≡ None) → StaysAt (if_heard heard (open_at number ls)) (open_at number ms)
heard_stays number None ls ms stays gone = subst (λ (o : Option packets.Reading). StaysAt None o) (sym (gone_open number ms (gone refl))) tt
heard_stays number (Some heard) ls ms stays gone = (stays_opens ls ms stays).opens number

-- and then those who wait are served
pub comes : {A E : Type 0} (r : Result A E) (number : ℕ) (had : Option packets.Reading) (old : Machine) (from at to : Service) (h h1 : Core) (ps ps1 : Queues) (bytes : List ℕ) (ls ms : List Link)
    → StreamsAll number had old from bytes (open_at number ls) (record { core = h; queues = ps }) at → OnOk r (MovedOn h h1) → OnOk r (ps1 ≡ ps) → OnOk r (Opens ls ms) → OnOk r (AllStand at to)
    → OnOk r (BytesCome number had old from bytes (open_at number ms) (record { core = h1; queues = ps1 }) to)
comes (Ok x) number had old from at to h h1 ps ps1 bytes ls ms s on kept opens stand = record {
  mid = record { core = h; queues = ps };
  left = open_at number ls;
  at = at;
  streams = s;
  goes_on = λ by. on by h (no_moves by h);
  kept = kept;
  has = opens.opens number;
  stand = stand;
}
comes (Err e) number had old from at to h h1 ps ps1 bytes ls ms s on kept opens stand = tt
