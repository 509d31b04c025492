-- Packets that are handed on, and what steps they are.
use Rattle.std.proofs.Common.{◌≡◌, ◌⊎◌, ◌∙◌, ℕ, Bool, true, false, List, Option, Some, None, inl, inr, refl, sym, ap, subst, not, ◌&&◌, ◌||◌, ◌∷◌, if◌then◌else◌, slice_set, option_map, [], ◌++◌, take}
use Rattle.std.proofs.lemmas.List.{set-get_or}
use Rattle.std.specs.Prelude.{IsSome}
use Rattle.slab.specs.Slab.{Slab, get, with_value}
use Rattle.tds_wire.specs.declared.told.Token.{Token}
use Rattle.tds_wire.specs.Reading.{Parser}
use Rattle.tds_service.specs.Parts.{Part}
use Rattle.tds_packet.specs.declared.header.Header.{Header}
use Rattle.tds_packet.specs.Layout.{IsPacket}
use Rattle.tds_packet.specs.Reading as packets
use Rattle.tds_packet.specs.Reading.{IsWhole, up_to_end, with_taken}
use Rattle.tds_packet.specs.Stream.{IsLess}
use Rattle.tds_service.specs.Service.{Seat, find_by, has_number, lease_at, seat_numbered}
use Rattle.tds_service.specs.Table.{reading_by, seat_in, seats_in}
use Rattle.tds_service.specs.declared.seat.Seat as seats
use Rattle.tds_relay.specs.declared.application.Application.{Application}
use Rattle.tds_relay.specs.declared.pool.coming.Heard.{Heard}
use Rattle.tds_relay.specs.declared.pool.coming.What.{What}
use Rattle.tds_relay.specs.declared.pool.coming.What.TheVariants as whats
use Rattle.tds_relay.specs.declared.link.Answer.{Answer}
use Rattle.tds_relay.specs.declared.link.Link.{Link}
use Rattle.tds_relay.specs.declared.link.News.{News}
use Rattle.tds_relay.specs.Cutting.{is_last_packet, awaited}
use Rattle.tds_relay.specs.Pool.{owes_reset, Pool, Comes, Way, turn, whose}
use Rattle.tds_relay.specs.Fronts.{IsWhat, own_end, ends_in as ends_of, machine_with, told_by}
use Rattle.tds_relay.specs.Core as core
use Rattle.tds_relay.specs.Core.{End, EndList, Open, Over, dones_of_part, end_at, end_told, what_in}
use Rattle.tds_relay.specs.Handing.{BringsPacket, HearsBytes, IsBy, PassesAs, IsDone, IsFor, IsKnown, IsKnownBy, IsOf, KnowsOn, Passing, filled, news_for}
use Rattle.tds_relay.specs.News.{holds_back}
use Rattle.tds_relay.specs.Machine.{Machine, IsHanded, IsRight, IsTold, Manner, MayHand, Withheld, behind_news, change_whose_queue, closes_connection, end_whose, handed, hears_of_reset, is_said, news_in, put_all, put_some}
use Rattle.tds_relay.specs.Promises.{one_if}
use Rattle.tds_relay.specs.Queues.{Queue, Queues, change, queue_at, queue_of, queues_in, put_behind, put_news}
use Rattle.tds_relay.specs.Ties.{Turns, part_on}
use Rattle.tds_relay.proofs.steps.Fronts.{end_is, told_whose}
use Rattle.tds_relay.proofs.steps.Queueing.{queues_changed}

-- ---- As it may be

right_of : (tells cut : Bool) (a : Answer) (h : Header) (content : List ℕ) (manner : Manner) → IsOf tells cut a h content manner → IsRight h content manner
right_of tells false a h content manner by = subst (λ (m : Manner). IsRight h content m) (sym by) tt
right_of tells true a h content manner by = subst (λ (m : Manner). IsRight h content m) (sym by.1) (a, by.2)

right_by : (goes : News) (a : Answer) (h : Header) (content : List ℕ) (manner : Manner) → IsBy goes a h content manner → IsRight h content manner
right_by goes a h content manner by = right_of goes.is_told goes.is_cut (awaited goes.is_owed a) h content manner by

right_for : (said : Bool) (goes : News) (a : Answer) (h : Header) (content : List ℕ) (manner : Manner) → IsFor said goes a h content manner → IsRight h content manner
right_for false goes a h content manner by = subst (λ (m : Manner). IsRight h content m) (sym by) tt
right_for true goes a h content manner by = right_by goes a h content manner by

on_of : (tells cut : Bool) (a : Answer) (h : Header) (content : List ℕ) (manner : Manner) → IsOf tells cut a h content manner → IsHanded true manner
on_of tells false a h content manner by = subst (IsHanded true) (sym by) tt
on_of tells true a h content manner by = subst (IsHanded true) (sym by.1) tt

on_by : (goes : News) (a : Answer) (h : Header) (content : List ℕ) (manner : Manner) → IsBy goes a h content manner → IsHanded true manner
on_by goes a h content manner by = on_of goes.is_told goes.is_cut (awaited goes.is_owed a) h content manner by

on_for : (said : Bool) (goes : News) (a : Answer) (h : Header) (content : List ℕ) (manner : Manner) → IsFor said goes a h content manner → IsHanded said manner
on_for false goes a h content manner by = by
on_for true goes a h content manner by = on_by goes a h content manner by

-- what came of it is what the service answers, where it is somebody's
said_alike : (who : Option ℕ) (what : What) (dones : List (Rattle.tds_service.specs.History.Done Rattle.tds_wire.specs.declared.told.Token.Token)) (es : EndList) → IsWhat who what dones
    → is_said (what_in dones) (end_whose who es) ≡ is_said what (end_whose who es)
said_alike None what dones es is = refl
said_alike (Some key) what dones es is = ap (λ (w : What). is_said w (end_at es key)) (sym is)

told_alike : (who : Option ℕ) (what : What) (dones : List (Rattle.tds_service.specs.History.Done Rattle.tds_wire.specs.declared.told.Token.Token)) (es : EndList) → IsWhat who what dones
    → hears_of_reset (what_in dones) (end_whose who es) ≡ hears_of_reset what (end_whose who es)
told_alike None what dones es is = refl
told_alike (Some key) what dones es is = ap (λ (w : What). hears_of_reset w (end_at es key)) (sym is)

pub may_hand : (number : ℕ) (parser : Option Parser) (a b : Answer) (r : packets.Reading) (heard : Heard) (old new : Machine) → (p : Passing number parser a b r heard old new)
    → MayHand old number p.header p.content (part_on parser p.content (is_last_packet p.header)) p.manner
may_hand number parser a b r heard old new p =
    let part = part_on parser p.content (is_last_packet p.header) in
    let dones = dones_of_part old.core.pool number part in
    let who = whose old.core.pool number in
    let same : is_said (what_in dones) (end_whose who old.core.ends) ≡ is_said heard.what (end_whose heard.key old.core.ends) =
    ap (λ (o : Option ℕ). is_said (what_in dones) (end_whose o old.core.ends)) (sym p.whose_is) ∙ said_alike heard.key heard.what dones old.core.ends p.what_is in
    let alike : hears_of_reset (what_in dones) (end_whose who old.core.ends) ≡ hears_of_reset heard.what (end_whose heard.key old.core.ends) =
    ap (λ (o : Option ℕ). hears_of_reset (what_in dones) (end_whose o old.core.ends)) (sym p.whose_is) ∙ told_alike heard.key heard.what dones old.core.ends p.what_is in
    record {
      counted = p.packet.laid_out.counted;
      parser = parser;
      part_is = refl;
      has_parser = p.has_parser;
      right = right_for (is_said heard.what (end_whose heard.key old.core.ends)) p.goes a p.header p.content p.manner p.by;
      handed_on = subst (λ (b : Bool). IsHanded b p.manner) (sym same) (on_for (is_said heard.what (end_whose heard.key old.core.ends)) p.goes a p.header p.content p.manner p.by);
      told = subst (λ (b : Bool). IsTold (owes_reset number old.core.pool) b p.manner part) (sym alike) p.told;
    }

-- ---- What waits by it

-- the news first, where it is told
pub news_first : (tells : Bool) (bytes : List ℕ) (p : Queue) → put_behind bytes (put_news tells p) ≡ put_all (behind_news tells bytes) p
news_first true bytes p = refl
news_first false bytes p = refl

same_queue : (o : Option Queue) → option_map (put_some None) o ≡ o
same_queue None = refl
same_queue (Some p) = refl

pub nothing_put : (queues : Queues) (key : ℕ) → change key (put_some None) queues ≡ queues
nothing_put queues key = ap (λ (o : Option Queue). slice_set queues key o) (same_queue (queue_at queues key)) ∙ set-get_or queues key None

-- nothing of it is
pub withheld_is : (who : Option ℕ) (h : Header) (content : List ℕ) (queues : Queues) → queues ≡ change_whose_queue who (put_some (handed Withheld h content)) queues
withheld_is None h content queues = refl
withheld_is (Some key) h content queues = sym (nothing_put queues key)

-- its application has it
pub handed_is : (who : Option ℕ) (key : ℕ) (h : Header) (content : List ℕ) (manner : Manner) (s : Slab Application) (a b : Application) → Some key ≡ who → Some a ≡ get s key → queue_of b ≡ put_some (handed manner h content) (queue_of a)
    → queues_in (with_value s key b) ≡ change_whose_queue who (put_some (handed manner h content)) (queues_in s)
handed_is who key h content manner s a b its is passes =
    queues_changed s key a b (put_some (handed manner h content)) is passes ∙ ap (λ (o : Option ℕ). change_whose_queue o (put_some (handed manner h content)) (queues_in s)) its

-- ---- Why

pub withheld_for : (said : Bool) (goes : News) (a : Answer) (h : Header) (content : List ℕ) → said ≡ false → IsFor said goes a h content Withheld
withheld_for false goes a h content e = refl
withheld_for true goes a h content e = absurd (let u : ⊥ = cc in u)

pub handed_for : (said : Bool) (goes : News) (a : Answer) (h : Header) (content : List ℕ) (manner : Manner) → said ≡ true → IsBy goes a h content manner → IsFor said goes a h content manner
handed_for false goes a h content manner e by = absurd (let u : ⊥ = cc in u)
handed_for true goes a h content manner e by = by

-- the connection is closed behind it
pub to_closed : (what : What) (o : Option End) → closes_connection what ≡ true → is_said what o ≡ false
to_closed what None e = refl
to_closed what (Some (Open front true asks)) e = refl
to_closed what (Some (Open front false asks)) e = ap not e
to_closed what (Some (Over why)) e = refl

-- nobody has it
pub to_nobody : (what : What) (who : Option ℕ) (es : EndList) → who ≡ None → is_said what (end_whose who es) ≡ false
to_nobody what who es e = ap (λ (o : Option ℕ). is_said what (end_whose o es)) e

-- who has it is there no more
pub to_absent : (what : What) (s : Slab Application) (who : Option ℕ) (key : ℕ) → who ≡ Some key → get s key ≡ None → is_said what (end_whose who (ends_of s)) ≡ false
to_absent what s who key its none =
    ap (λ (o : Option ℕ). is_said what (end_whose o (ends_of s))) its ∙ ap (is_said what) (end_is s key ∙ ap (option_map own_end) none)

pub end_whose_is : (s : Slab Application) (who : Option ℕ) (key : ℕ) (a : Application) → who ≡ Some key → Some a ≡ get s key → end_whose who (ends_of s) ≡ Some (own_end a)
end_whose_is s who key a its is = ap (λ (o : Option ℕ). end_whose o (ends_of s)) its ∙ end_is s key ∙ ap (option_map own_end) (sym is)

-- it hears nothing
deaf : (what : What) (e : End) → is_said whats.Goes (Some e) ≡ false → is_said what (Some e) ≡ false
deaf what (Open front true asks) h = refl
deaf what (Open front false asks) h = absurd (let u : ⊥ = cc in u)
deaf what (Over why) h = refl

pub to_deaf : (what : What) (s : Slab Application) (who : Option ℕ) (key : ℕ) (a : Application) → who ≡ Some key → Some a ≡ get s key → is_said whats.Goes (Some (own_end a)) ≡ false
    → is_said what (end_whose who (ends_of s)) ≡ false
to_deaf what s who key a its is h = ap (is_said what) (end_whose_is s who key a its is) ∙ deaf what (own_end a) h

-- it is handed on
heard_by : (what : What) (e : End) → closes_connection what ≡ false → is_said whats.Goes (Some e) ≡ true → is_said what (Some e) ≡ true
heard_by what (Open front true asks) c h = absurd (let u : ⊥ = cc in u)
heard_by what (Open front false asks) c h = ap not c
heard_by what (Over why) c h = absurd (let u : ⊥ = cc in u)

pub to_one : (what : What) (s : Slab Application) (who : Option ℕ) (key : ℕ) (a : Application) → closes_connection what ≡ false → who ≡ Some key → Some a ≡ get s key → is_said whats.Goes (Some (own_end a)) ≡ true
    → is_said what (end_whose who (ends_of s)) ≡ true
to_one what s who key a on its is h = ap (is_said what) (end_whose_is s who key a its is) ∙ heard_by what (own_end a) on h

-- ---- The parser

parser_if : (b : Bool) (test : Seat → Bool) (x : seats.Seat) (xs : List seats.Seat) (c : Seat) → (if b then Some (seat_in x) else find_by test (seats_in xs)) ≡ Some c
    → (find_by test (seats_in xs) ≡ Some c → IsSome (reading_by test xs)) → IsSome (if b then Some x.connection.parser else reading_by test xs)
parser_if true test x xs c e later = refl
parser_if false test x xs c e later = later e

pub parser_by : (test : Seat → Bool) (cs : List seats.Seat) (c : Seat) → find_by test (seats_in cs) ≡ Some c → IsSome (reading_by test cs)
parser_by test [] c e = absurd (let u : ⊥ = cc in u)
parser_by test (x ∷ xs) c e = parser_if (test (seat_in x)) test x xs c e (parser_by test xs c)

-- a connection that is somebody's has one
found_seat : (d : Pool) (number key : ℕ) (o : Option Seat) → seat_numbered number d.service.seats ≡ o → whose d number ≡ Some key → (c : Seat) × (o ≡ Some c)
found_seat d number key (Some c) e h = (c, refl)
found_seat d number key None e h =
    absurd (let nobody : whose d number ≡ None = ap (λ (o : Option Seat). Rattle.tds_relay.specs.Pool.whose_by (lease_at o) d.holds) e in let u : Some key ≡ None = sym h ∙ nobody in let v : ⊥ = cc in v)

pub has_parser : (d : Pool) (number key : ℕ) (cs : List seats.Seat) → d.service.seats ≡ seats_in cs → whose d number ≡ Some key → IsSome (reading_by (has_number number) cs)
has_parser d number key cs is h =
    let c = found_seat d number key (seat_numbered number d.service.seats) refl h in
    parser_by (has_number number) cs c.0 (ap (λ (xs : List Seat). seat_numbered number xs) (sym is) ∙ c.1)

-- ---- That it was

-- a packet has come, and was handed on so
pub passing : (number : ℕ) (parser : Option Parser) (goes : News) (a b : Answer) (r : packets.Reading) (heard : Heard) (d d1 : Pool) (es : EndList) (p p1 : Queues) (h : Header) (content : List ℕ) (ends : Bool) (way : Way) (manner : Manner) (before after : List ℕ)
    → IsPacket r.direction r.size r.taken h content → ends ≡ is_last_packet h → Turns (Comes number (part_on parser content ends) way) d d1 before after
    → heard.key ≡ whose d number → IsWhat heard.key heard.what (dones_of_part d number (part_on parser content ends)) → ((key : ℕ) → whose d number ≡ Some key → IsSome parser)
    → IsFor (is_said heard.what (end_whose heard.key es)) goes a h content manner → PassesAs (owes_reset number d) a h content (part_on parser content ends) manner b → IsTold (owes_reset number d) (hears_of_reset heard.what (end_whose heard.key es)) manner (part_on parser content ends) → p1 ≡ change_whose_queue (whose d number) (put_some (handed manner h content)) p
    → BringsPacket number parser a b r heard (machine_with d es p) (machine_with d1 (told_by (Some heard) es) p1)
passing number parser goes a b r heard d d1 es p p1 h content ends way manner before behind packet last turned its what there by cut tells is =
    let turns = subst (λ (b : Bool). Turns (Comes number (part_on parser content b) way) d d1 before behind) last turned in
    let hears = subst (λ (b : Bool). IsTold (owes_reset number d) (hears_of_reset heard.what (end_whose heard.key es)) manner (part_on parser content b)) last tells in
    let said = subst (λ (b : Bool). IsWhat heard.key heard.what (dones_of_part d number (part_on parser content b))) last what in
    let dones = dones_of_part d number (part_on parser content (is_last_packet h)) in
    inr (record {
      header = h;
      content = content;
      packet = packet;
      way = way;
      manner = manner;
      whose_is = its;
      what_is = said;
      has_parser = there;
      goes = goes;
      by = by;
      cut = subst (λ (x : Bool). PassesAs (owes_reset number d) a h content (part_on parser content x) manner b) last cut;
      told = hears;
      is =
          ap (λ (e : Pool). machine_with e (told_by (Some heard) es) p1) turns.pool_is
          ∙ ap (λ (x : EndList). machine_with (turn d (Comes number (part_on parser content (is_last_packet h)) way)).pool x p1)
          (sym (ap (λ (o : Option ℕ). core.change_whose o (end_told (what_in dones)) es) (sym its) ∙ told_whose heard.key heard.what dones es said))
          ∙ ap (λ (q : Queues). machine_with (turn d (Comes number (part_on parser content (is_last_packet h)) way)).pool (core.change_whose (whose d number) (end_told (what_in dones)) es) q) is;
    })

-- ---- Of which bytes

left_less : ((r : packets.Reading) (bytes : List ℕ) → ¬ IsWhole (with_taken r (up_to_end r bytes)) → IsLess r (up_to_end r bytes)) → ((r : packets.Reading) → IsLess r [])
    → (number : ℕ) (parser : Option Parser) (a b : Answer) (r next : packets.Reading) (bytes : List ℕ) (heard : Heard) (old new : Machine)
    → BringsPacket number parser a b (filled r bytes) heard old new → IsDone (filled r bytes) next → IsLess next next.taken
left_less less nothing number parser a b r next bytes heard old new (inl none) done =
    subst (λ (x : packets.Reading). IsLess x x.taken) (sym (done.less none.0)) (less r (r.taken ++ bytes) none.0)
left_less less nothing number parser a b r next bytes heard old new (inr p) done =
    subst (λ (x : packets.Reading). IsLess x x.taken) (sym (done.whole (p.header, p.content, p.packet))) (nothing r)

pub hears_is : ((r : packets.Reading) (bytes : List ℕ) → ¬ IsWhole (with_taken r (up_to_end r bytes)) → IsLess r (up_to_end r bytes)) → ((r : packets.Reading) → IsLess r [])
    → (number : ℕ) (parser : Option Parser) (link next : Link) (bytes : List ℕ) (count : ℕ) (heard : Heard) (old new : Machine) (r s : packets.Reading)
    → r ≡ filled link.reader bytes → r.taken ≡ link.reader.taken ++ take count bytes → BringsPacket number parser link.answer next.answer r heard old new
    → s ≡ r → (IsWhole s → next.reader ≡ with_taken s []) → (¬ IsWhole s → next.reader ≡ s) → HearsBytes number parser link next bytes count heard old new
hears_is less nothing number parser link next bytes count heard old new r s is took brings same whole none =
    let brought = subst (λ (x : packets.Reading). BringsPacket number parser link.answer next.answer x heard old new) is brings in
    let done : IsDone (filled link.reader bytes) next.reader =
    subst (λ (x : packets.Reading). IsDone x next.reader) (same ∙ is) (record { whole = whole; less = none }) in
    record {
      taken = ap (λ (x : packets.Reading). x.taken) (sym is) ∙ took;
      brings = brought;
      done = done;
      less = left_less less nothing number parser link.answer next.answer link.reader next.reader bytes heard old new brought done;
    }

-- its reader goes the same way
pub done_keeps : (number : ℕ) (parser : Option Parser) (a b : Answer) (r s next : packets.Reading) (heard : Heard) (old new : Machine) → BringsPacket number parser a b r heard old new
    → s ≡ r → (IsWhole s → next ≡ with_taken s []) → (¬ IsWhole s → next ≡ s) → next.direction ≡ s.direction
done_keeps number parser a b r s next heard old new (inl none) same whole less =
    ap (λ (x : packets.Reading). x.direction) (less (subst (λ (x : packets.Reading). ¬ IsWhole x) (sym same) none.0))
done_keeps number parser a b r s next heard old new (inr p) same whole less =
    ap (λ (x : packets.Reading). x.direction) (whole (subst (λ (x : packets.Reading). IsWhole x) (sym same) (p.header, p.content, p.packet)))

-- ---- As what is known has it

cut_of : (tells cut owed : Bool) (a : Answer) (h : Header) (content : List ℕ) (part : Part Token) (manner : Manner) (new : Answer) → (cut ≡ true → (owed || holds_back a.known) ≡ true)
    → (cut ≡ false → ((owed || holds_back a.known) ≡ false) ⊎ (news_in owed part.items ≡ 1)) → IsOf tells cut (awaited owed a) h content manner → IsKnownBy cut owed a h content new → PassesAs owed a h content part manner new
cut_of tells false owed a h content part manner new why not_why by known = subst (λ (m : Manner). PassesAs owed a h content part m new) (sym by) (known, not_why refl)
cut_of tells true owed a h content part manner new why not_why by known = subst (λ (m : Manner). PassesAs owed a h content part m new) (sym by.1) (why refl, by.2, known)

-- it isn't cut: nothing is owed or held, or the news is in it
whole_for : (asks is_in due : Bool) (count : ℕ) → count ≡ one_if is_in → (due && not (asks && is_in)) ≡ false → (due ≡ false) ⊎ (count ≡ 1)
whole_for asks is_in false count counted e = inl refl
whole_for true true true count counted e = inr counted
whole_for true false true count counted e = absurd (let u : ⊥ = cc in u)
whole_for false is_in true count counted e = absurd (let u : ⊥ = cc in u)

and_first : (a b : Bool) → (a && b) ≡ true → a ≡ true
and_first true b e = refl
and_first false b e = absurd (let u : ⊥ = cc in u)

pub cut_as : (asks is_in owed held : Bool) (a : Answer) (h : Header) (content : List ℕ) (part : Part Token) (manner : Manner) (new : Answer) → held ≡ holds_back a.known → news_in owed part.items ≡ one_if is_in
    → IsBy (news_for asks is_in owed held) a h content manner → IsKnown (news_for asks is_in owed held) a h content new → PassesAs owed a h content part manner new
cut_as asks is_in owed held a h content part manner new holds counted by known =
    let same : (owed || held) ≡ (owed || holds_back a.known) = ap (λ (b : Bool). owed || b) holds in
    cut_of (asks && not is_in) ((owed || held) && not (asks && is_in)) owed a h content part manner new
    (λ e. sym same ∙ and_first (owed || held) (not (asks && is_in)) e)
    (λ e. subst (λ (b : Bool). (b ≡ false) ⊎ (news_in owed part.items ≡ 1)) same (whole_for asks is_in (owed || held) (news_in owed part.items) counted e)) by known

-- ---- What is known behind it

pub knows_by : (cut owed : Bool) (r : packets.Reading) (a : Answer) (header : Header) (content : List ℕ) (new : Answer) → IsPacket r.direction r.size r.taken header content → IsKnownBy cut owed a header content new → KnowsOn r a new
knows_by false owed r a header content new packet same = inl same
knows_by true owed r a header content new packet behind = inr (owed, header, content, packet, behind)
