-- How many turns it takes to hear all bytes of a connection: but in the first one, one is heard in each at least.
use Rattle.std.proofs.Common.{◌≡◌, ◌∙◌, ◌⊎◌, ◌==◌, ◌≤◌, ◌<◌, ◌+◌, ◌++◌, ℕ, zero, true, false, suc, List, [], ◌∷◌, Option, Some, None, length, drop, take, slice_index_or, slice_set, option_map, inl, inr, refl, sym, ap, subst, append-nil, arith}
use Rattle.std.proofs.lemmas.List.{length-drop}
use Rattle.std.specs.Prelude.{Result, Ok, Err, IfOk}
use Rattle.tds_packet.specs.Reading as packets
use Rattle.tds_packet.specs.Reading.{IsWhole, with_taken}
use Rattle.tds_packet.specs.Stream.{IsLess}
use Rattle.tds_wire.specs.Reading as parsers
use Rattle.tds_service.specs.declared.service.Service.{Service}
use Rattle.tds_relay.specs.declared.pool.coming.Heard.{Heard}
use Rattle.tds_relay.specs.declared.link.Link.{Link}
use Rattle.tds_relay.specs.Handing.{HearsBy}
use Rattle.tds_relay.specs.Machine.{Machine}
use Rattle.tds_relay.specs.Reads.{IsLessAt, StaysAt, ReadsPackets, StreamsAll, if_heard, open_at, open_of, place_of, seen_of}
use Rattle.tds_relay.proofs.steps.Placed.{IsAt, is_at, is_nowhere, is_open_at, is_shut_at}

-- So much is left behind so many turns: in the first one nothing may be heard, for a packet may be there already.
abbrev pub InTurns : Option packets.Reading → List ℕ → ℕ → ℕ → Type 0
InTurns now rest turns many = ((turns ≡ 0) × (length rest ≤ many)) ⊎ (IsLessAt now × (length rest + turns ≤ suc many))

pub turns_begin : (now : Option packets.Reading) (bytes : List ℕ) → InTurns now bytes 0 (length bytes)
turns_begin now bytes = inl (refl, omega arith)

less_stays : (now next : Option packets.Reading) → IsLessAt now → StaysAt now next → IsLessAt next
less_stays now None less stays = tt
less_stays now (Some r) less stays = subst IsLessAt stays less

pub some_is : (bytes : List ℕ) → (length bytes == 0) ≡ false → 1 ≤ length bytes
some_is [] e = absurd (let u : ⊥ = cc in u)
some_is (byte ∷ bytes) e = omega arith

-- one more
turned_by : (rest : List ℕ) (count turns many : ℕ) → 1 ≤ length rest → ((turns ≡ 0) × (length rest ≤ many)) ⊎ ((1 ≤ count) × (length rest + turns ≤ suc many)) → length (drop count rest) + (turns + 1) ≤ suc many
turned_by rest count turns many some (inl first) =
    subst (λ (n : ℕ). n + (turns + 1) ≤ suc many) (sym (length-drop count rest)) (omega (arith, first.0, first.1))
turned_by rest count turns many some (inr later) =
    subst (λ (n : ℕ). n + (turns + 1) ≤ suc many) (sym (length-drop count rest)) (omega (arith, some, later.0, later.1))

pub turned : (now mid next : Option packets.Reading) (rest left : List ℕ) (count turns many : ℕ) → 1 ≤ length rest → left ≡ drop count rest → (IsLessAt now → 1 ≤ length rest → 1 ≤ count) → IsLessAt mid → StaysAt mid next
    → InTurns now rest turns many → InTurns next left ((turns + 1)) many
turned now mid next rest left count turns many some is takes less stays (inl first) =
    inr (less_stays mid next less stays, subst (λ (xs : List ℕ). length xs + (turns + 1) ≤ suc many) (sym is) (turned_by rest count turns many some (inl first)))
turned now mid next rest left count turns many some is takes less stays (inr later) =
    inr (less_stays mid next less stays, subst (λ (xs : List ℕ). length xs + (turns + 1) ≤ suc many) (sym is) (turned_by rest count turns many some (inr (takes later.0 some, later.1))))

none_left : (rest : List ℕ) (many : ℕ) → length rest + suc many ≤ suc many → rest ≡ []
none_left [] many few = refl
none_left (x ∷ rest) many few = absurd (let u : ⊥ = omega (arith, few) in u)

pub few : (bytes : List ℕ) → length bytes + 0 ≤ length bytes
few bytes = omega arith

-- where one is taken in each
pub turned_each : (rest left : List ℕ) (count turns many : ℕ) → 1 ≤ length rest → left ≡ drop count rest → (1 ≤ length rest → 1 ≤ count) → length rest + turns ≤ many → length left + (turns + 1) ≤ many
turned_each rest left count turns many some is takes le =
    let one : 1 ≤ count = takes some in
    subst (λ (n : ℕ). n + (turns + 1) ≤ many) (sym (ap length is ∙ length-drop count rest)) (omega (arith, some, one, le))

pub each_end : (rest : List ℕ) (turns many : ℕ) → turns ≡ many → length rest + turns ≤ many → rest ≡ []
each_end [] turns many last le = refl
each_end (x ∷ rest) turns many last le = absurd (let u : ⊥ = omega (arith, last, le) in u)

-- behind the last turn nothing is left
pub turns_end : (now : Option packets.Reading) (rest : List ℕ) (turns many : ℕ) → turns ≡ suc many → InTurns now rest turns many → rest ≡ []
turns_end now rest turns many last (inl first) = absurd (let u : ⊥ = omega (arith, last, first.0) in u)
turns_end now rest turns many last (inr later) = none_left rest many (subst (λ (n : ℕ). length rest + n ≤ suc many) last later.1)

-- All of them were heard.
pub streams_all : (number : ℕ) (had now : Option packets.Reading) (old new : Machine) (from to : Service) (bytes left : List ℕ) → left ≡ [] → ReadsPackets number had old from bytes left now new to → StreamsAll number had old from bytes now new to
streams_all number had now old new from to bytes left none s = record { left = left; streams = s; all = none }

-- ---- As a connection's reader takes them

-- Nothing is taken only where a packet is there already.
pub takes_some : (r new : packets.Reading) (bytes piece : List ℕ) (count : ℕ) → new ≡ with_taken r bytes → new.taken ≡ r.taken ++ take count piece → (count < length piece → IsWhole new) → IsLess r r.taken → 1 ≤ length piece → 1 ≤ count
takes_some r new bytes piece zero is taken whole less some =
    let same : bytes ≡ r.taken = sym (ap (λ (x : packets.Reading). x.taken) is) ∙ taken ∙ append-nil r.taken in
    absurd (less r.taken [] (sym (append-nil r.taken)) (subst (λ (xs : List ℕ). IsWhole (with_taken r xs)) same (subst IsWhole is (whole some))))
takes_some r new bytes piece (suc n) is taken whole less some = omega arith

pub takes_at : {E : Type 0} (r : Result (ℕ × Option Heard) E) (number : ℕ) (ls : List Link) (place : ℕ) (l : Link) (piece : List ℕ) → place_of number ls ≡ Some place → l ≡ slice_index_or ls place l → l.is_open ≡ true
    → IfOk r (λ heard. IsLess l.reader l.reader.taken → 1 ≤ length piece → 1 ≤ heard.0) → IfOk r (λ heard. IsLessAt (open_at number ls) → 1 ≤ length piece → 1 ≤ heard.0)
takes_at (Ok x) number ls place l piece is there opens takes =
    let at : IsAt number ls place = is_at number ls place is in
    λ less some. takes (subst IsLessAt (is_open_at number ls l (at.found l ∙ ap Some (sym there)) opens) less) some
takes_at (Err e) number ls place l piece is there opens takes = tt

less_by : (number : ℕ) (parser : Option parsers.Parser) (l next : Link) (piece : List ℕ) (count : ℕ) (heard : Option Heard) (f g : Machine) (now : Option packets.Reading) → now ≡ Some next.reader → HearsBy number parser l next piece count heard f g
    → IsLessAt (if_heard heard now)
less_by number parser l next piece count None f g now is h = tt
less_by number parser l next piece count (Some heard) f g now is h = subst IsLessAt (sym is) h.less

pub less_at : {E : Type 0} (r : Result (ℕ × Option Heard) E) (number : ℕ) (parser : Option parsers.Parser) (ls : List Link) (place : ℕ) (l next : Link) (piece : List ℕ) (f : Machine) (g : Option Heard → Machine)
    → place_of number ls ≡ Some place → l ≡ slice_index_or ls place l → next.number ≡ l.number → next.is_open ≡ true → IfOk r (λ heard. HearsBy number parser l next piece heard.0 heard.1 f (g heard.1))
    → IfOk r (λ heard. IsLessAt (if_heard heard.1 (open_at number (slice_set ls place next))))
less_at (Ok x) number parser ls place l next piece f g is there same opens hears =
    let at : IsAt number ls place = is_at number ls place is in
    less_by number parser l next piece x.0 x.1 f (g x.1) (open_at number (slice_set ls place next))
    (is_open_at number (slice_set ls place next) next (at.written l next (same ∙ ap (λ (y : Link). y.number) there)) opens) hears
less_at (Err e) number parser ls place l next piece f g is there same opens hears = tt

pub less_nowhere : (number : ℕ) (ls : List Link) → place_of number ls ≡ None → IsLessAt (open_at number ls)
less_nowhere number ls is = subst IsLessAt (sym (ap (λ (o : Option Link). open_of (option_map seen_of o)) (is_nowhere number ls is))) tt

pub less_shut : (number : ℕ) (ls : List Link) (place : ℕ) (l : Link) → place_of number ls ≡ Some place → l ≡ slice_index_or ls place l → l.is_open ≡ false → IsLessAt (open_at number (slice_set ls place l))
less_shut number ls place l is there closed =
    subst IsLessAt (sym (is_shut_at number (slice_set ls place l) l ((is_at number ls place is).written l l (ap (λ (x : Link). x.number) there)) closed)) tt
