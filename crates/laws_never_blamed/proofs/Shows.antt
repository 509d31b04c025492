-- Bytes that are shown to a judge, one thing done behind the other: where both directions are between two of them, and what is seen.
use Rattle.std.proofs.Common.{◌≡◌, ◌∙◌, ◌+◌, ◌/◌, ◌%◌, ◌<◌, ◌==◌, ◌||◌, Bool, true, false, ℕ, List, [], ◌∷◌, ◌++◌, length, Option, Some, None, refl, sym, ap, subst, arith, if◌then◌else◌}
use Rattle.std.proofs.lemmas.Bool.{eqb-true, lt-ltb}
use Rattle.tds_packet.specs.declared.kind.Direction.TheVariants as ways
use Rattle.tds_packet.specs.declared.header.Header.{Header}
use Rattle.tds_packet.specs.declared.kind.Kind.{Kind}
use Rattle.tds_packet.specs.declared.kind.Kind.TheVariants as kinds
use Rattle.tds_packet.specs.declared.status.Reset.{Reset}
use Rattle.tds_packet.specs.declared.status.Reset.TheVariants.{Full, KeepTransaction}
use Rattle.tds_packet.specs.Layout.{bits_of, direction_of, has_bit, header_bytes, is_status, kind_byte}
use Rattle.tds_packet.specs.Resets.{reset_bit}
use Rattle.tds_packet.specs.Sent.{end_bit}
use Rattle.tds_packet.specs.Stream as stream
use Rattle.tds_client.specs.declared.message.MessageKind.{MessageKind}
use Rattle.tds_client.specs.declared.message.MessageKind.TheVariants.{Batch, Procedure, BulkLoad, Transaction}
use Rattle.tds_client.specs.Packets.{stop_bytes, packet_bytes}
use Rattle.tds_client.specs.Streams.{has_headers, packets_are}
use Rattle.tds_wire.specs.declared.told.Token.{Token}
use Rattle.tds_wire.specs.Reading.{Parser, is_between, restarted}
use Rattle.tds_listen.specs.Hearing.{Stands, Stop, TokensHeard, tokens_in}
use Rattle.tds_service.specs.Parts.{Ends, Cut, Part, is_end}
use Rattle.tds_service.specs.Packets.{behind_packet, close_from, items_from}
use Rattle.tds_service.specs.Line as line
use Rattle.laws_conforming_server.specs.Answering.{IsNoFault}
use Rattle.tds_service.specs.Line.{Packet, OfRequest, Ignore, Attention, LineStage, Idle, Sending, Reading as Awaiting, Cancelling, Broken}
use Rattle.tds_judge.specs.declared.finding.Direction.TheVariants.{ToServer, ToClient}
use Rattle.tds_judge.specs.declared.frame.Frame.{Frame}
use Rattle.tds_judge.specs.declared.frame.Part.TheVariants as parts
use Rattle.tds_judge.specs.declared.talk.Event.{Event}
use Rattle.tds_judge.specs.declared.talk.Event.TheVariants as events
use Rattle.tds_judge.specs.Framing.{Run, steps}
use Rattle.tds_judge.specs.History.{Said}
use Rattle.tds_judge.proofs.Folding.{steps-append}
use Rattle.tds_judge.proofs.InRuns.{Cuts}
use Rattle.laws_never_blamed.specs.Seen.{Eye, sees, sees_begin, sees_close, sees_come, sees_items, sees_outs, sees_packet, status}
use Rattle.laws_never_blamed.specs.Spelled.{AreOut, IsIn, IsOut, Pen, Wire, headers_of}
use Rattle.laws_never_blamed.proofs.Heads.{Base, run_at}
use Rattle.laws_never_blamed.proofs.Follows.{Follows, eye_at, follows_more, seen_so, sees_all}
use Rattle.laws_never_blamed.proofs.Tokens.{says_of}
use Rattle.laws_never_blamed.proofs.Out.{After, Amid, Rests, attention_out, bulk_of, fills, names_of, request_first, request_ignored, request_later}
use Rattle.laws_never_blamed.proofs.In.{BehindAnswer, Comes, Quiet, Small, Told, answer_begins, answer_bytes, answer_goes_on, ended_by}

-- ---- Where both directions are

abbrev pub OutAt : LineStage → Pen → Frame → Type 0
OutAt Idle pen c = Rests c
OutAt (Sending false) pen c = Rests c
OutAt (Sending true) pen c = Amid pen.kind c
OutAt Awaiting pen c = Rests c
OutAt Cancelling pen c = Rests c
OutAt (Broken fault) pen c = ⊥

-- by whether a message comes that has begun, and whether nothing came yet; the judge's parser, and the client's
abbrev pub InAt : Bool → Bool → Frame → Parser → Parser → Type 0
InAt true first s j r = Comes s × (j ≡ r)
InAt false first s j r = Quiet s × (first ≡ false → s.part ≡ parts.Between) × (restarted j ≡ r)

pub record State (base : Base) (stage : LineStage) (begun : Bool) (wire : Wire) (run : Run) (past : List Said) : Type 0 where
  pub client : Frame
  pub server : Frame
  pub parser : Parser
  pub run_is : run ≡ run_at base client server parser past
  pub out : OutAt stage wire.pen client
  pub into : InAt begun wire.is_first server parser wire.reading

-- what is seen by some eye, and where the judge is then
pub record GoesOn (base : Base) (stage : LineStage) (begun : Bool) (wire : Wire) (run : Run) (seen : Eye → List Said) : Type 0 where
  pub eye : Eye
  pub state : State base stage begun wire run (seen eye)

-- ---- A request's packet

pub record Facts (reset : Option Reset) (last : Bool) : Type 0 where
  pub ends : ((end_bit last + reset_bit reset) % 2 == 1) ≡ last
  pub plain : ((end_bit last + reset_bit reset) / 2 % 2 == 1) ≡ false
  pub small : end_bit last + reset_bit reset < 256
  pub is : end_bit last + reset_bit reset ≡ status reset last

pub facts : (reset : Option Reset) (last : Bool) → Facts reset last
facts None true = record { ends = refl; plain = refl; small = omega arith; is = refl }
facts None false = record { ends = refl; plain = refl; small = omega arith; is = refl }
facts (Some Full) true = record { ends = refl; plain = refl; small = omega arith; is = refl }
facts (Some Full) false = record { ends = refl; plain = refl; small = omega arith; is = refl }
facts (Some KeepTransaction) true = record { ends = refl; plain = refl; small = omega arith; is = refl }
facts (Some KeepTransaction) false = record { ends = refl; plain = refl; small = omega arith; is = refl }

-- what an eye sees of a request's first packet
seen_first : (kind : MessageKind) (behind : List Said) (size st n named : ℕ) (full : Bool) (reset : Option Reset) (last : Bool) (past : List Said) → st ≡ status reset last
    → sees_all (eye_at behind size (has_headers kind) full) past (events.Packet size full ∷ events.Request st (bulk_of kind) ∷ names_of kind named)
    ≡ sees_outs (eye_at behind size (has_headers kind) full) named past (OfRequest n true reset last ∷ [])
seen_first Batch behind size st n named full reset last past e = ap (λ (x : ℕ). sees_all (eye_at behind size true full) past (events.Packet size full ∷ events.Request x false ∷ names_of Batch named)) e
seen_first Procedure behind size st n named full reset last past e = ap (λ (x : ℕ). sees_all (eye_at behind size true full) past (events.Packet size full ∷ events.Request x false ∷ names_of Procedure named)) e
seen_first BulkLoad behind size st n named full reset last past e = ap (λ (x : ℕ). sees_all (eye_at behind size false full) past (events.Packet size full ∷ events.Request x true ∷ names_of BulkLoad named)) e
seen_first Transaction behind size st n named full reset last past e = ap (λ (x : ℕ). sees_all (eye_at behind size true full) past (events.Packet size full ∷ events.Request x false ∷ names_of Transaction named)) e

seen_later : (behind : List Said) (size st n named : ℕ) (full : Bool) (reset : Option Reset) (last : Bool) (past : List Said) → st ≡ status reset last
    → sees_all (eye_at behind size false full) past (events.Packet size full ∷ events.Later st ∷ []) ≡ sees_outs (eye_at behind size false full) named past (OfRequest n false reset last ∷ [])
seen_later behind size st n named full reset last past e = ap (λ (x : ℕ). sees_all (eye_at behind size false full) past (events.Packet size full ∷ events.Later x ∷ [])) e

-- behind the last packet the answer is awaited
out_behind : (last : Bool) (kind : MessageKind) (pen : Pen) (c : Frame) → pen.kind ≡ kind → After last kind c → OutAt (line.stage_behind last) pen c
out_behind true kind pen c is a = a
out_behind false kind pen c is a = subst (λ (k : MessageKind). Amid k c) (sym is) a

empty_end : (xs : List ℕ) → xs ++ [] ≡ xs
empty_end [] = refl
empty_end (x ∷ xs) = ap (λ (ys : List ℕ). x ∷ ys) (empty_end xs)

alone : (named : ℕ) (pen : Pen) (packet : Packet) (bytes : List ℕ) (behind : Pen) → AreOut named pen (packet ∷ []) bytes behind → IsOut named pen packet bytes behind
alone named pen packet bytes behind all =
    let (front, rest, middle, is, out, ended) = all in
    let none : rest ≡ [] = ended.0 in
    let same : behind ≡ middle = ended.1 in
    let whole : front ≡ bytes = sym (is ∙ (ap (λ (xs : List ℕ). front ++ xs) none ∙ empty_end front)) in
    subst (λ (xs : List ℕ). IsOut named pen packet xs behind) whole (subst (λ (p : Pen). IsOut named pen packet front p) (sym same) out)

pub sends_first : (base : Base) (t n named : ℕ) (reset : Option Reset) (last begun : Bool) (wire behind : Wire) (bytes : List ℕ) (run : Run) (past : List Said)
    → State base (Sending false) begun wire run past → AreOut named wire.pen (OfRequest n true reset last ∷ []) bytes behind.pen
    → behind.reading ≡ wire.reading → behind.is_first ≡ wire.is_first
    → GoesOn base (line.stage_behind last) begun behind (steps ToServer t bytes run) (λ eye. sees_outs eye named past (OfRequest n true reset last ∷ []))
sends_first base t n named reset last begun wire behind bytes run past state out same first =
    let (kind, body, few, ranged, bytes_are, pen_is) = alone named wire.pen (OfRequest n true reset last) bytes behind.pen out in
    let f = facts reset last in
    let size : ℕ = 8 + length (headers_of kind named ++ body) in
    let full : Bool = fills (packets_are kind) (end_bit last + reset_bit reset) in
    let spoken = request_first base t last kind (end_bit last + reset_bit reset) named body state.client state.server state.parser past state.out f.small few f.ends f.plain ranged in
    let eye : Eye = eye_at spoken.behind size (has_headers kind) full in
    let seen : spoken.behind ≡ sees_outs eye named past (OfRequest n true reset last ∷ []) =
    sym (seen_so spoken.behind size (has_headers kind) full (events.Packet size full ∷ events.Request (end_bit last + reset_bit reset) (bulk_of kind) ∷ names_of kind named) past spoken.follows)
    ∙ seen_first kind spoken.behind size (end_bit last + reset_bit reset) n named full reset last past f.is in
    record {
      eye = eye;
      state = record {
        client = spoken.frame;
        server = state.server;
        parser = state.parser;
        run_is =
            ap (λ (xs : List ℕ). steps ToServer t xs run) bytes_are
            ∙ (ap (steps ToServer t (packet_bytes (packets_are kind) (end_bit last + reset_bit reset) 0 (headers_of kind named ++ body))) state.run_is
            ∙ (spoken.is ∙ ap (run_at base spoken.frame state.server state.parser) seen));
        out = out_behind last kind behind.pen spoken.frame (ap (λ (p : Pen). p.kind) pen_is) spoken.so;
        into = subst (λ (b : Bool). InAt begun b state.server state.parser behind.reading) (sym first) (subst (InAt begun wire.is_first state.server state.parser) (sym same) state.into);
      };
    }

pub sends_later : (base : Base) (t n named : ℕ) (reset : Option Reset) (last begun : Bool) (wire behind : Wire) (bytes : List ℕ) (run : Run) (past : List Said)
    → State base (Sending true) begun wire run past → AreOut named wire.pen (OfRequest n false reset last ∷ []) bytes behind.pen
    → behind.reading ≡ wire.reading → behind.is_first ≡ wire.is_first
    → GoesOn base (line.stage_behind last) begun behind (steps ToServer t bytes run) (λ eye. sees_outs eye named past (OfRequest n false reset last ∷ []))
sends_later base t n named reset last begun wire behind bytes run past state out same first =
    let (content, few, bytes_are, pen_is) = alone named wire.pen (OfRequest n false reset last) bytes behind.pen out in
    let f = facts reset last in
    let size : ℕ = 8 + length content in
    let full : Bool = fills (packets_are wire.pen.kind) (end_bit last + reset_bit reset) in
    let spoken = request_later base t last wire.pen.kind (end_bit last + reset_bit reset) wire.pen.packets content state.client state.server state.parser past state.out f.small few f.ends f.plain in
    let eye : Eye = eye_at spoken.behind size false full in
    let seen : spoken.behind ≡ sees_outs eye named past (OfRequest n false reset last ∷ []) =
    sym (seen_so spoken.behind size false full (events.Packet size full ∷ events.Later (end_bit last + reset_bit reset) ∷ []) past spoken.follows)
    ∙ seen_later spoken.behind size (end_bit last + reset_bit reset) n named full reset last past f.is in
    record {
      eye = eye;
      state = record {
        client = spoken.frame;
        server = state.server;
        parser = state.parser;
        run_is =
            ap (λ (xs : List ℕ). steps ToServer t xs run) bytes_are
            ∙ (ap (steps ToServer t (packet_bytes (packets_are wire.pen.kind) (end_bit last + reset_bit reset) wire.pen.packets content)) state.run_is
            ∙ (spoken.is ∙ ap (run_at base spoken.frame state.server state.parser) seen));
        out = out_behind last wire.pen.kind behind.pen spoken.frame (ap (λ (p : Pen). p.kind) pen_is) spoken.so;
        into = subst (λ (b : Bool). InAt begun b state.server state.parser behind.reading) (sym first) (subst (InAt begun wire.is_first state.server state.parser) (sym same) state.into);
      };
    }

-- ---- An attention, and one behind a message that is ignored

pub stops_reading : (base : Base) (t named : ℕ) (begun : Bool) (wire behind : Wire) (bytes : List ℕ) (run : Run) (past : List Said)
    → State base Awaiting begun wire run past → AreOut named wire.pen (Attention ∷ []) bytes behind.pen → behind.reading ≡ wire.reading → behind.is_first ≡ wire.is_first
    → GoesOn base Cancelling begun behind (steps ToServer t bytes run) (λ eye. sees_outs eye named past (Attention ∷ []))
stops_reading base t named begun wire behind bytes run past state out same first =
    let (bytes_are, pen_is) = alone named wire.pen Attention bytes behind.pen out in
    let spoken = attention_out base t state.client state.server state.parser past state.out in
    record {
      eye = eye_at spoken.behind 8 false false;
      state = record {
        client = spoken.frame;
        server = state.server;
        parser = state.parser;
        run_is =
            ap (λ (xs : List ℕ). steps ToServer t xs run) bytes_are
            ∙ (ap (steps ToServer t stop_bytes) state.run_is
            ∙ (spoken.is ∙ ap (run_at base spoken.frame state.server state.parser) (sym (seen_so spoken.behind 8 false false (events.Packet 8 false ∷ events.Attention 8 1 ∷ []) past spoken.follows))));
        out = spoken.so;
        into = subst (λ (b : Bool). InAt begun b state.server state.parser behind.reading) (sym first) (subst (InAt begun wire.is_first state.server state.parser) (sym same) state.into);
      };
    }

pub stops_sending : (base : Base) (t n named : ℕ) (begun : Bool) (wire behind : Wire) (bytes : List ℕ) (run : Run) (past : List Said)
    → State base (Sending true) begun wire run past → AreOut named wire.pen (Ignore n ∷ Attention ∷ []) bytes behind.pen → behind.reading ≡ wire.reading → behind.is_first ≡ wire.is_first
    → GoesOn base Cancelling begun behind (steps ToServer t bytes run) (λ eye. sees_outs eye named past (Ignore n ∷ Attention ∷ []))
stops_sending base t n named begun wire behind bytes run past state out same first =
    let (front, rest, middle, is, ignored, more) = out in
    let (rest_is, pen_is) = alone named middle Attention rest behind.pen more in
    let one = request_ignored base t wire.pen.kind wire.pen.packets state.client state.server state.parser past state.out in
    let two = attention_out base t one.frame state.server state.parser one.behind one.so in
    let all : List Event = events.Packet 8 false ∷ events.Later 3 ∷ events.Ignored ∷ events.Packet 8 false ∷ events.Attention 8 1 ∷ [] in
    let follows : Follows all past two.behind =
    follows_more (events.Packet 8 false ∷ events.Later 3 ∷ events.Ignored ∷ []) (events.Packet 8 false ∷ events.Attention 8 1 ∷ []) past one.behind two.behind one.follows two.follows in
    record {
      eye = eye_at two.behind 8 false false;
      state = record {
        client = two.frame;
        server = state.server;
        parser = state.parser;
        run_is =
            ap (λ (xs : List ℕ). steps ToServer t xs run) is
            ∙ (sym (steps-append ToServer t front rest run)
            ∙ (ap (λ (r : Run). steps ToServer t rest (steps ToServer t front r)) state.run_is
            ∙ (ap (λ (xs : List ℕ). steps ToServer t rest (steps ToServer t xs (run_at base state.client state.server state.parser past))) ignored.0
            ∙ (ap (steps ToServer t rest) one.is
            ∙ (ap (λ (xs : List ℕ). steps ToServer t xs (run_at base one.frame state.server state.parser one.behind)) rest_is
            ∙ (two.is ∙ ap (run_at base two.frame state.server state.parser) (sym (seen_so two.behind 8 false false all past follows))))))));
        out = two.so;
        into = subst (λ (b : Bool). InAt begun b state.server state.parser behind.reading) (sym first) (subst (InAt begun wire.is_first state.server state.parser) (sym same) state.into);
      };
    }

-- ---- What comes

all_more : (eye : Eye) (past : List Said) (first second : List Event) → sees_all eye past (first ++ second) ≡ sees_all eye (sees_all eye past first) second
all_more eye past [] second = refl
all_more eye past (event ∷ first) second = all_more eye (sees eye past event) first second

items_seen : (eye : Eye) (past : List Said) (tokens : List Token) → sees_all eye past (says_of tokens) ≡ sees_items eye past (items_from tokens)
items_seen eye past [] = refl
items_seen eye past (token ∷ tokens) = items_seen eye (sees eye past (events.Says token)) tokens

end_seen : (eye : Eye) (past : List Said) (whole : Bool) → sees eye past (events.Answered whole) ≡ sees_close eye past (if whole then Ends else Cut)
end_seen eye past true = refl
end_seen eye past false = refl

close_seen : (eye : Eye) (past : List Said) (ends : Bool) (u : Parser) → sees_all eye past (ended_by ends u) ≡ sees_close eye past (close_from ends (Stands u))
close_seen eye past true u = end_seen eye past (is_between u)
close_seen eye past false u = refl

abbrev pub begins_by : Bool → List Event
begins_by true = []
begins_by false = events.Answer ∷ []

-- what an eye sees of a packet of an answer
seen_come : (behind : List Said) (size : ℕ) (begun ends : Bool) (tokens : List Token) (u : Parser) (past : List Said) (part : Part Token)
    → part ≡ record { items = items_from tokens; close = close_from ends (Stands u) }
    → sees_all (eye_at behind size false false) (sees_begin (eye_at behind size false false) begun (sees_packet (eye_at behind size false false) past)) (says_of tokens ++ ended_by ends u)
    ≡ sees_come (eye_at behind size false false) begun past part
seen_come behind size begun ends tokens u past part is =
    let eye : Eye = eye_at behind size false false in
    let there : List Said = sees_begin eye begun (sees_packet eye past) in
    all_more eye there (says_of tokens) (ended_by ends u)
    ∙ (ap (λ (xs : List Said). sees_all eye xs (ended_by ends u)) (items_seen eye there tokens)
    ∙ (close_seen eye (sees_items eye there (items_from tokens)) ends u
    ∙ ap (λ (p : Part Token). sees_close eye (sees_items eye there p.items) p.close) (sym is)))

kind_is : (kind : Kind) → direction_of kind ≡ ways.ToClient → kind_byte kind ≡ 4
kind_is kinds.Answer e = refl
kind_is kinds.Batch e = absurd cc
kind_is kinds.Procedure e = absurd cc
kind_is kinds.Attention e = absurd cc
kind_is kinds.BulkLoad e = absurd cc
kind_is kinds.Transaction e = absurd cc

record Status (st : ℕ) : Type 0 where
  ends : (st % 2 == 1) ≡ has_bit st 1
  small : st < 256

status_at : (st k : ℕ) → st ≡ k → Status k → Status st
status_at st k e s = subst Status (sym e) s

status_by : (st : ℕ) (is_zero is_one : Bool) → (st == 0) ≡ is_zero → (st == 1) ≡ is_one → (is_zero || is_one) ≡ true → Status st
status_by st true is_one a b e = status_at st 0 (eqb-true st 0 a) (record { ends = refl; small = omega arith })
status_by st false is_one a b e = status_at st 1 (eqb-true st 1 (b ∙ e)) (record { ends = refl; small = omega arith })

status_of_answer : (st : ℕ) → is_status ways.ToClient st ≡ true → Status st
unfolding is_status
status_of_answer st e = status_by st (st == 0) (st == 1) refl refl e

fields_small : (st size spid id window : ℕ) (content : List ℕ) → stream.AreBytes (answer_bytes st size spid id window content) → Small st size spid id window
fields_small st size spid id window content bytes =
    let b1 : st < 256 = bytes 1 in
    let b2 : size / 256 < 256 = bytes 2 in
    let b4 : spid / 256 < 256 = bytes 4 in
    let b6 : id < 256 = bytes 6 in
    let b7 : window < 256 = bytes 7 in
    record { status_few = b1; size_few = omega arith; spid_few = omega arith; id_few = b6; window_few = b7 }

spelled_so : (h : Header) (content : List ℕ) → direction_of h.kind ≡ ways.ToClient → h.length ≡ 8 + length content
    → header_bytes h ++ content ≡ answer_bytes (bits_of h.status) (8 + length content) h.spid h.packet_id h.window content
spelled_so h content directed counted =
    ap (λ (k : ℕ). k ∷ bits_of h.status ∷ h.length / 256 ∷ h.length % 256 ∷ h.spid / 256 ∷ h.spid % 256 ∷ h.packet_id ∷ h.window ∷ content) (kind_is h.kind directed)
    ∙ ap (λ (n : ℕ). answer_bytes (bits_of h.status) n h.spid h.packet_id h.window content) counted

told_by : (cuts : Cuts) (base : Base) (t st size spid id window : ℕ) (begun first ends : Bool) (content : List ℕ) (c s : Frame) (j r u : Parser) (past : List Said) (all : TokensHeard)
    → InAt begun first s j r → (first ≡ true → id < 2) → (c.kind == 18) ≡ false → Small st (8 + length content) spid id window → (st % 2 == 1) ≡ ends
    → tokens_in r content ≡ all → all.stop ≡ Stands u
    → Told base t ends (answer_bytes st (8 + length content) spid id window content) c s j u past
    (events.Packet (8 + length content) false ∷ (begins_by begun ++ (says_of all.tokens ++ ended_by ends u)))
told_by cuts base t st size spid id window true first ends content c s j r u past all into numbered other small e is stop =
    answer_goes_on cuts base t st spid id window ends content c s j u past all into.0 small e (ap (λ (x : Parser). tokens_in x content) into.1 ∙ is) stop
told_by cuts base t st size spid id window false true ends content c s j r u past all into numbered other small e is stop =
    answer_begins cuts base t st spid id window ends content c s j r u past all into.0 (λ lost. lt-ltb id 2 (numbered refl)) other small e into.2 is stop
told_by cuts base t st size spid id window false false ends content c s j r u past all into numbered other small e is stop =
    answer_begins cuts base t st spid id window ends content c s j r u past all into.0
    (λ lost. let between : parts.Between ≡ parts.Lost = sym (into.1 refl) ∙ lost in absurd cc) other small e into.2 is stop

begin_seen : (eye : Eye) (begun : Bool) (size : ℕ) (past : List Said) (others : List Event)
    → sees_all eye past (events.Packet size false ∷ (begins_by begun ++ others)) ≡ sees_all eye (sees_begin eye begun (sees eye past (events.Packet size false))) others
begin_seen eye true size past others = refl
begin_seen eye false size past others = refl

whole_end : (b : Bool) → is_end (if b then Ends else Cut) ≡ true
whole_end true = refl
whole_end false = refl

end_is : (ends : Bool) (u : Parser) → is_end (close_from ends (Stands u)) ≡ ends
end_is false u = refl
end_is true u = whole_end (is_between u)

into_behind : (ends first : Bool) (s : Frame) (u r : Parser) → BehindAnswer ends s → r ≡ behind_packet ends u → InAt (if ends then false else true) first s u r
into_behind true first s u r so is = (so.0, (λ none. so.1), sym is)
into_behind false first s u r so is = (so, sym is)

pub comes : (cuts : Cuts) (base : Base) (t : ℕ) (begun : Bool) (wire behind : Wire) (bytes : List ℕ) (run : Run) (past : List Said) (stage after : LineStage) (part : Part Token) (answer : line.Answer)
    (state : State base stage begun wire run past) → Rests state.client → OutAt after behind.pen state.client
    → IsIn wire.reading wire.is_first part answer bytes behind.reading → IsNoFault answer
    → GoesOn base after (if is_end part.close then false else true) behind (steps ToClient t bytes run) (λ eye. sees_come eye begun past part)
comes cuts base t begun wire behind bytes run past stage after part answer state rests out i well =
    let h : Header = i.header in
    let st : ℕ = bits_of h.status in
    let ends : Bool = has_bit st 1 in
    let size : ℕ = 8 + length i.content in
    let laid = i.packet.laid_out in
    let all : TokensHeard = tokens_in wire.reading i.content in
    let bytes_are : bytes ≡ answer_bytes st size h.spid h.packet_id h.window i.content = laid.spelled ∙ spelled_so h i.content laid.directed laid.counted in
    let small : Small st size h.spid h.packet_id h.window = fields_small st size h.spid h.packet_id h.window i.content (subst stream.AreBytes bytes_are i.are_bytes) in
    let bits = status_of_answer st laid.status in
    let (u, stop_is, reading_is) = i.reads well in
    let part_are : part ≡ record { items = items_from all.tokens; close = close_from ends (Stands u) } =
    i.part_is ∙ (let with_stop : Stop → Part Token = λ stop. record { items = items_from all.tokens; close = close_from ends stop } in ap with_stop stop_is) in
    let told = told_by cuts base t st size h.spid h.packet_id h.window begun wire.is_first ends i.content state.client state.server state.parser wire.reading u past all
    state.into i.numbered rests.kind small bits.ends refl stop_is in
    let eye : Eye = eye_at told.behind size false false in
    let seen : told.behind ≡ sees_come eye begun past part =
    sym (seen_so told.behind size false false (events.Packet size false ∷ (begins_by begun ++ (says_of all.tokens ++ ended_by ends u))) past told.follows)
    ∙ (begin_seen eye begun size past (says_of all.tokens ++ ended_by ends u)
    ∙ seen_come told.behind size begun ends all.tokens u past part part_are) in
    let is : is_end part.close ≡ ends = ap (λ (p : Part Token). is_end p.close) part_are ∙ end_is ends u in
    record {
      eye = eye;
      state = record {
        client = state.client;
        server = told.frame;
        parser = u;
        run_is =
            ap (λ (xs : List ℕ). steps ToClient t xs run) bytes_are
            ∙ (ap (steps ToClient t (answer_bytes st size h.spid h.packet_id h.window i.content)) state.run_is
            ∙ (told.is ∙ ap (run_at base state.client told.frame u) seen));
        out = out;
        into = subst (λ (b : Bool). InAt (if b then false else true) behind.is_first told.frame u behind.reading) (sym is)
            (into_behind ends behind.is_first told.frame u behind.reading told.so reading_is);
      };
    }
