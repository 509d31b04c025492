-- The news of a reset in a packet, by what its connection owes before it and behind it.
use Rattle.std.proofs.Common.{◌≡◌, ◌∙◌, ◌==◌, ◌&&◌, ◌||◌, ◌+◌, ℕ, Bool, true, false, List, [], ◌∷◌, Option, Some, None, is_some, not, arith, refl, sym, ap, subst, if◌then◌else◌}
use Rattle.std.specs.Prelude.{Result, Ok, Err}
use Rattle.tds_packet.specs.declared.status.Reset.{Reset}
use Rattle.tds_packet.specs.declared.header.Header.{Header}
use Rattle.tds_token.specs.declared.env_change.EnvChange.TheVariants as changes
use Rattle.tds_client.specs.declared.fault.ClientFault.{ClientFault}
use Rattle.tds_client.specs.declared.heard.Heard.{Heard}
use Rattle.tds_client.specs.declared.heard.FinalDone.{FinalDone}
use Rattle.tds_client.specs.declared.heard.FinalDone.TheVariants as finals
use Rattle.tds_client.specs.declared.sign.Sign.{Sign}
use Rattle.tds_client.specs.declared.sign.Sign.TheVariants as signs
use Rattle.tds_client.specs.declared.sign.DoneKind.{DoneKind}
use Rattle.tds_client.specs.declared.sign.Rules.TheVariants.{Any}
use Rattle.tds_client.specs.Hearing.{◌>>=◌, acknowledges_by, change_placed, descriptor_changed, done_behind, hear_sign, place_change, mark_after, may_end, place_done, with_done}
use Rattle.tds_token.specs.declared.env_change.EnvChange.{EnvChange}
use Rattle.tds_listen.specs.Hearing.{heard_by}
use Rattle.tds_listen.specs.declared.fault.ListenFault.{ListenFault}
use Rattle.tds_wire.specs.declared.told.Token.{Token}
use Rattle.tds_service.specs.Line as line
use Rattle.tds_service.specs.Line.{Line, LineStage, line_turn}
use Rattle.tds_service.specs.Parts as parts
use Rattle.tds_service.specs.Parts.{Close, Item, Part, close_by, close_part, hear_items, hear_part, heard_until, is_end, unless_owed}
use Rattle.tds_service.specs.Service as calls
use Rattle.tds_service.specs.Service.{Place, Seat, Service, change_by, drained, find_by, has_number, lease_at, placed, seat_numbered, step}
use Rattle.tds_relay.specs.declared.pool.Hold.{Hold}
use Rattle.tds_relay.specs.declared.pool.coming.Heard as code
use Rattle.tds_relay.specs.declared.link.Answer.{Answer}
use Rattle.tds_relay.specs.Pool as pool
use Rattle.tds_relay.specs.Pool.{Pool, Hearing, Way, find_lease, hearing_of, key_of, owes_of, owes_reset, whose, whose_by}
use Rattle.tds_relay.specs.Core.{dones_of_part, what_in, what_of}
use Rattle.tds_relay.specs.Fronts.{IsWhat}
use Rattle.tds_relay.specs.Ties.{Turns}
use Rattle.tds_relay.specs.Cutting.{awaited}
use Rattle.tds_relay.specs.Handing.{IsBy, IsOf, news_for}
use Rattle.tds_relay.specs.Machine.{IsTold, Manner, Whole, Without, closes_connection, news_in, news_of, owed_behind}
use Rattle.tds_relay.specs.Promises.{one_if}

-- ---- Of signs

abbrev is_owed : Heard → Bool
is_owed heard = is_some heard.mark

abbrev Owed : Heard → ℕ
Owed heard = one_if (is_owed heard)

-- Behind a sign that is no fault a reset is owed still, or isn't.
abbrev Leaves : Heard → Sign → Result Heard ClientFault → Type 0
Leaves heard sign (Ok next) = is_owed next ≡ owed_behind (is_owed heard) sign
Leaves heard sign (Err fault) = Unit {0}

changed_leaves : (heard : Heard) (change : EnvChange) (sign : Sign) (o : Option ℕ) → is_some (mark_after change heard.mark) ≡ owed_behind (is_owed heard) sign → Leaves heard sign (descriptor_changed heard change o)
changed_leaves heard change sign None e = tt
changed_leaves heard change sign (Some descriptor) e = e

done_if : (heard : Heard) (kind : DoneKind) (status : ℕ) (acknowledges cancelling : Bool)
    → Leaves heard (signs.Done kind status) (if acknowledges then (if cancelling then Ok (with_done heard finals.Acknowledged) else Err Rattle.tds_client.specs.declared.fault.ClientFault.TheVariants.UnaskedAcknowledgement) else Ok (with_done heard (done_behind heard.done status)))
done_if heard kind status true true = refl
done_if heard kind status true false = tt
done_if heard kind status false cancelling = refl

sign_leaves : (cancelling : Bool) (heard : Heard) (sign : Sign) → Leaves heard sign (hear_sign Any cancelling heard sign)
unfolding place_change place_done
sign_leaves cancelling heard signs.Nothing = refl
sign_leaves cancelling heard (signs.Change (changes.Begin d)) = changed_leaves heard (changes.Begin d) (signs.Change (changes.Begin d)) (change_placed heard.mark heard.descriptor (changes.Begin d)) refl
sign_leaves cancelling heard (signs.Change (changes.Commit d)) = changed_leaves heard (changes.Commit d) (signs.Change (changes.Commit d)) (change_placed heard.mark heard.descriptor (changes.Commit d)) refl
sign_leaves cancelling heard (signs.Change (changes.Rollback d)) = changed_leaves heard (changes.Rollback d) (signs.Change (changes.Rollback d)) (change_placed heard.mark heard.descriptor (changes.Rollback d)) refl
sign_leaves cancelling heard (signs.Change changes.ResetDone) = changed_leaves heard changes.ResetDone (signs.Change changes.ResetDone) (change_placed heard.mark heard.descriptor changes.ResetDone) refl
sign_leaves cancelling heard (signs.Done kind status) = done_if heard kind status (acknowledges_by kind status) cancelling

-- how often it is told by one, and what is owed behind it, is what was owed
one_adds : (owed : Bool) (sign : Sign) → news_of owed sign + one_if (owed_behind owed sign) ≡ one_if owed
one_adds owed signs.Nothing = let e : 0 + one_if owed ≡ one_if owed = omega arith in e
one_adds owed (signs.Change (changes.Begin d)) = let e : 0 + one_if owed ≡ one_if owed = omega arith in e
one_adds owed (signs.Change (changes.Commit d)) = let e : 0 + one_if owed ≡ one_if owed = omega arith in e
one_adds owed (signs.Change (changes.Rollback d)) = let e : 0 + one_if owed ≡ one_if owed = omega arith in e
one_adds owed (signs.Change changes.ResetDone) = let e : one_if owed + 0 ≡ one_if owed = omega arith in e
one_adds owed (signs.Done kind status) = let e : 0 + one_if owed ≡ one_if owed = omega arith in e

-- ---- Of a packet's

abbrev AddsAll : Heard → List (Item Token) → Result Heard ClientFault → Type 0
AddsAll heard items (Ok next) = news_in (is_owed heard) items + Owed next ≡ Owed heard
AddsAll heard items (Err fault) = Unit {0}

items_by : (heard : Heard) (item : Item Token) (items : List (Item Token)) (next : Heard) (all : Result Heard ClientFault) → is_owed next ≡ owed_behind (is_owed heard) item.sign → AddsAll next items all
    → AddsAll heard (item ∷ items) all
items_by heard item items next (Ok last) leaves later =
    let n = news_of (is_owed heard) item.sign in
    let rest = news_in (owed_behind (is_owed heard) item.sign) items in
    let more : rest + Owed last ≡ one_if (owed_behind (is_owed heard) item.sign) = subst (λ (b : Bool). news_in b items + Owed last ≡ one_if b) leaves later in
    let one = one_adds (is_owed heard) item.sign in
    let all : (n + rest) + Owed last ≡ Owed heard = omega (arith, more, one) in
    all
items_by heard item items next (Err fault) leaves later = tt

items_then : (heard : Heard) (item : Item Token) (items : List (Item Token)) (one : Result Heard ClientFault) (all : Heard → Result Heard ClientFault) → Leaves heard item.sign one
    → ((next : Heard) → AddsAll next items (all next)) → AddsAll heard (item ∷ items) (one >>= all)
items_then heard item items (Err fault) all one later = tt
items_then heard item items (Ok next) all one later = items_by heard item items next (all next) one (later next)

items_add : (cancelling : Bool) (heard : Heard) (items : List (Item Token)) → AddsAll heard items (hear_items cancelling heard items)
items_add cancelling heard [] = let e : 0 + Owed heard ≡ Owed heard = omega arith in e
items_add cancelling heard (item ∷ items) =
    items_then heard item items (hear_sign Any cancelling heard item.sign) (λ next. hear_items cancelling next items) (sign_leaves cancelling heard item.sign) (λ next. items_add cancelling next items)

-- its end leaves that as it is
abbrev Same : Heard → Result Heard ListenFault → Type 0
Same heard (Ok next) = next ≡ heard
Same heard (Err fault) = Unit {0}

unless_same : (mark : Option Reset) (heard : Heard) → Same heard (unless_owed mark heard)
unless_same None heard = refl
unless_same (Some reset) heard = tt

by_same : (cancelling may : Bool) (heard : Heard) → Same heard (close_by cancelling may heard)
by_same cancelling false heard = tt
by_same true true heard = refl
by_same false true heard = unless_same heard.mark heard

close_same : (cancelling : Bool) (close : Close) (heard : Heard) → Same heard (close_part cancelling close heard)
close_same cancelling parts.Goes heard = refl
close_same cancelling parts.Ends heard = by_same cancelling (may_end Any cancelling heard.done) heard
close_same false parts.Cut heard = tt
close_same true parts.Cut heard = by_same true (may_end Any true heard.done) heard
close_same cancelling (parts.Fails refusal) heard = tt

abbrev AddsIn : Heard → List (Item Token) → Result Heard ListenFault → Type 0
AddsIn heard items (Ok next) = news_in (is_owed heard) items + Owed next ≡ Owed heard
AddsIn heard items (Err fault) = Unit {0}

closed_adds : (heard : Heard) (items : List (Item Token)) (next : Heard) (last : Result Heard ListenFault) → news_in (is_owed heard) items + Owed next ≡ Owed heard → Same next last → AddsIn heard items last
closed_adds heard items next (Ok end) e same = subst (λ (h : Heard). news_in (is_owed heard) items + Owed h ≡ Owed heard) (sym same) e
closed_adds heard items next (Err fault) e same = tt

heard_adds : (heard : Heard) (items : List (Item Token)) (all : Result Heard ClientFault) (close : Heard → Result Heard ListenFault) → AddsAll heard items all → ((next : Heard) → Same next (close next))
    → AddsIn heard items (heard_by all close)
heard_adds heard items (Err fault) close e same = tt
heard_adds heard items (Ok next) close e same = closed_adds heard items next (close next) e (same next)

part_adds : (cancelling : Bool) (heard : Heard) (part : Part Token) → AddsIn heard part.items (hear_part cancelling heard part)
part_adds cancelling heard part =
    heard_adds heard part.items (hear_items cancelling heard part.items) (λ next. close_part cancelling part.close next) (items_add cancelling heard part.items) (λ next. close_same cancelling part.close next)

-- ---- Of a line

-- where the connection isn't to be closed
abbrev Counts : Line → Part Token → line.Turn Token → Type 0
Counts l part t = closes_connection (what_of t.answer) ≡ false → news_in (is_owed l.heard) part.items + Owed t.line.heard ≡ Owed l.heard

reads_count : (l : Line) (part : Part Token) (ends : Bool) (until : Heard) (all : Result Heard ListenFault) → AddsIn l.heard part.items all → Counts l part (line.reads l part ends until all)
reads_count l part ends until (Err fault) adds right = absurd (let u : ⊥ = cc in u)
reads_count l part false until (Ok heard) adds right = adds
reads_count l part true until (Ok heard) adds right = adds

skips_end_count : (l : Line) (part : Part Token) (heard : Heard) (done : FinalDone) → news_in (is_owed l.heard) part.items + Owed heard ≡ Owed l.heard → Counts l part (line.skips_to_end l heard done)
skips_end_count l part heard finals.Awaited adds right = adds
skips_end_count l part heard finals.Answered adds right = adds
skips_end_count l part heard finals.Acknowledged adds right = adds

skips_count : (l : Line) (part : Part Token) (ends : Bool) (until : Heard) (all : Result Heard ListenFault) → AddsIn l.heard part.items all → Counts l part (line.skips l ends until all)
skips_count l part ends until (Err fault) adds right = absurd (let u : ⊥ = cc in u)
skips_count l part false until (Ok heard) adds right = adds
skips_count l part true until (Ok heard) adds right = skips_end_count l part heard heard.done adds right

comes_count : (l : Line) (part : Part Token) (stage : LineStage) → Counts l part (line.comes l part stage)
comes_count l part line.Idle right = absurd (let u : ⊥ = cc in u)
comes_count l part (line.Sending begun) right = absurd (let u : ⊥ = cc in u)
comes_count l part line.Reading right = reads_count l part (is_end part.close) (heard_until false l.heard part.items) (hear_part false l.heard part) (part_adds false l.heard part) right
comes_count l part line.Cancelling right = skips_count l part (is_end part.close) (heard_until true l.heard part.items) (hear_part true l.heard part) (part_adds true l.heard part) right
comes_count l part (line.Broken fault) right = absurd (let u : ⊥ = cc in u)

-- ---- Of a connection

-- the first one that meets the test is changed, and still is the first
changed_if : (test : Seat → Bool) (x c : Seat) (place : Place) (l : Line) (xs : List Seat) (b : Bool) → test x ≡ b → test (record { number = x.number; place = place; line = l }) ≡ b
    → (if b then Some x else find_by test xs) ≡ Some c → (find_by test xs ≡ Some c → find_by test (change_by test (Some place) l xs) ≡ Some (record { number = c.number; place = place; line = l }))
    → find_by test (if b then placed x.number (Some place) l xs else x ∷ change_by test (Some place) l xs) ≡ Some (record { number = c.number; place = place; line = l })
changed_if test x c place l xs true was is e later =
    ap (λ (b : Bool). if b then Some (record { number = x.number; place = place; line = l }) else find_by test xs) is
    ∙ ap (λ (o : Option Seat). Rattle.std.specs.Prelude.option_map (λ (y : Seat). let z : Seat = record { number = y.number; place = place; line = l } in z) o) e
changed_if test x c place l xs false was is e later =
    ap (λ (b : Bool). if b then Some x else find_by test (change_by test (Some place) l xs)) was ∙ later e

changed_first : (number : ℕ) (place : Place) (l : Line) (cs : List Seat) (c : Seat) → seat_numbered number cs ≡ Some c
    → seat_numbered number (change_by (has_number number) (Some place) l cs) ≡ Some (record { number = c.number; place = place; line = l })
changed_first number place l [] c e = absurd (let u : ⊥ = cc in u)
changed_first number place l (x ∷ xs) c e = changed_if (has_number number) x c place l xs (x.number == number) refl refl e (changed_first number place l xs c)

abbrev Owes : Option Seat → ℕ
Owes o = one_if (owes_of o)

-- the service, behind what came there
abbrev Behind : Pool → ℕ → Part Token → Service
Behind d number part = (step d.service (calls.Came number part)).service

came_counts : (s : Service) (number : ℕ) (part : Part Token) (c : Seat) → seat_numbered number s.seats ≡ Some c → closes_connection (what_in (step s (calls.Came number part)).dones) ≡ false
    → news_in (owes_of (seat_numbered number s.seats)) part.items + Owes (seat_numbered number (step s (calls.Came number part)).service.seats) ≡ Owes (seat_numbered number s.seats)
came_counts s number part c there right =
    let l = c.line in
    let t = line_turn l (line.Come part) in
    let place = drained c.place t.line.stage in
    let did = ap (λ (o : Option Seat). calls.hears s (has_number number) part o) there in
    let one : closes_connection (what_of t.answer) ≡ false = subst (λ (x : calls.ServiceStep Token). closes_connection (what_in x.dones) ≡ false) did right in
    let now : seat_numbered number (step s (calls.Came number part)).service.seats ≡ Some (record { number = c.number; place = place; line = t.line }) =
    ap (λ (x : calls.ServiceStep Token). seat_numbered number x.service.seats) did ∙ changed_first number place t.line s.seats c there in
    ap (λ (o : Option Seat). news_in (owes_of (seat_numbered number s.seats)) part.items + Owes o) now
    ∙ ap (λ (b : Bool). news_in b part.items + Owed t.line.heard) (ap owes_of there) ∙ comes_count l part l.stage one ∙ sym (ap Owes there)

-- ---- Of a pool

-- where it is somebody's, nothing more is done
held_none : (d : Pool) (s : Service) (number key : ℕ) (way : Way) (lease : ℕ) (o : Option Hold) → key_of o ≡ Some key → find_lease lease d.holds ≡ o → pool.settles d.holds s number way (Some lease) ≡ []
held_none d s number key way lease None its is = absurd (let u : ⊥ = cc in u)
held_none d s number key way lease (Some h) its is = ap (λ (o : Option Hold). pool.settles_of s number lease way o) is

settles_none : (d : Pool) (s : Service) (number key : ℕ) (way : Way) (lease : Option ℕ) → whose_by lease d.holds ≡ Some key → pool.settles d.holds s number way lease ≡ []
settles_none d s number key way None its = absurd (let u : ⊥ = cc in u)
settles_none d s number key way (Some lease) its = held_none d s number key way lease (find_lease lease d.holds) its refl

service_by : (d : Pool) (number key : ℕ) (part : Part Token) (way : Way) (lease : Option ℕ) (hearing : Hearing) → whose_by lease d.holds ≡ Some key → (hearing ≡ pool.Wrong → ⊥)
    → (pool.comes_by d (calls.Came number part) (Behind d number part) number way lease hearing).pool.service ≡ Behind d number part
service_by d number key part way lease pool.Goes its right = refl
service_by d number key part way lease pool.Settled its right =
    ap (λ (more : List (calls.Call Token)). calls.service_after d.service (calls.Came number part ∷ more)) (settles_none d (Behind d number part) number key way lease its)
service_by d number key part way lease pool.Wrong its right = absurd (right refl)

-- a packet that comes is no loss
not_lost : (l : Line) (part : Part Token) (ends : Bool) (until : Heard) (all : Result Heard ListenFault) → closes_connection (what_of (line.reads l part ends until all).answer) ≡ false
    → hearing_of (line.reads l part ends until all).answer ≡ pool.Wrong → ⊥
not_lost l part ends until (Err fault) right wrong = let u : ⊥ = cc in u
not_lost l part false until (Ok heard) right wrong = let u : ⊥ = cc in u
not_lost l part true until (Ok heard) right wrong = let u : ⊥ = cc in u

end_not_lost : (l : Line) (heard : Heard) (done : FinalDone) → hearing_of (line.skips_to_end {T = Token} l heard done).answer ≡ pool.Wrong → ⊥
end_not_lost l heard finals.Awaited wrong = let u : ⊥ = cc in u
end_not_lost l heard finals.Answered wrong = let u : ⊥ = cc in u
end_not_lost l heard finals.Acknowledged wrong = let u : ⊥ = cc in u

skip_not_lost : (l : Line) (ends : Bool) (until : Heard) (all : Result Heard ListenFault) → closes_connection (what_of (line.skips {T = Token} l ends until all).answer) ≡ false
    → hearing_of (line.skips {T = Token} l ends until all).answer ≡ pool.Wrong → ⊥
skip_not_lost l ends until (Err fault) right wrong = let u : ⊥ = cc in u
skip_not_lost l false until (Ok heard) right wrong = let u : ⊥ = cc in u
skip_not_lost l true until (Ok heard) right wrong = end_not_lost l heard heard.done wrong

right_of : (l : Line) (part : Part Token) (stage : LineStage) → closes_connection (what_of (line.comes l part stage).answer) ≡ false → hearing_of (line.comes l part stage).answer ≡ pool.Wrong → ⊥
right_of l part line.Idle right wrong = let u : ⊥ = cc in u
right_of l part (line.Sending begun) right wrong = let u : ⊥ = cc in u
right_of l part line.Reading right wrong = not_lost l part (is_end part.close) (heard_until false l.heard part.items) (hear_part false l.heard part) right wrong
right_of l part line.Cancelling right wrong = skip_not_lost l (is_end part.close) (heard_until true l.heard part.items) (hear_part true l.heard part) right wrong
right_of l part (line.Broken fault) right wrong = let u : ⊥ = cc in u

seat_of : (d : Pool) (number key : ℕ) (o : Option Seat) → seat_numbered number d.service.seats ≡ o → whose d number ≡ Some key → (c : Seat) × (seat_numbered number d.service.seats ≡ Some c)
seat_of d number key (Some c) e h = (c, e)
seat_of d number key None e h =
    absurd (let nobody : whose d number ≡ None = ap (λ (o : Option Seat). whose_by (lease_at o) d.holds) e in let u : Some key ≡ None = sym h ∙ nobody in let v : ⊥ = cc in v)

-- So often a packet tells it that somebody hears: as often as it was owed, and isn't behind it.
pub news_counted : (d : Pool) (number key : ℕ) (part : Part Token) (way : Way) → whose d number ≡ Some key → closes_connection (what_in (dones_of_part d number part)) ≡ false
    → news_in (owes_reset number d) part.items + one_if (owes_reset number (pool.turn d (pool.Comes number part way)).pool) ≡ one_if (owes_reset number d)
news_counted d number key part way its right =
    let c = seat_of d number key (seat_numbered number d.service.seats) refl its in
    let did = ap (λ (o : Option Seat). calls.hears d.service (has_number number) part o) c.1 in
    let heard = step {T = Token} d.service (calls.Came number part) in
    let one : closes_connection (what_of (line_turn c.0.line (line.Come part)).answer) ≡ false = subst (λ (x : calls.ServiceStep Token). closes_connection (what_in x.dones) ≡ false) did right in
    let no : pool.hearing heard.dones ≡ pool.Wrong → ⊥ = λ wrong. right_of c.0.line part c.0.line.stage one (sym (ap (λ (x : calls.ServiceStep Token). pool.hearing x.dones) did) ∙ wrong) in
    let same : (pool.turn d (pool.Comes number part way)).pool.service ≡ Behind d number part =
    service_by d number key part way (lease_at (seat_numbered number d.service.seats)) (pool.hearing heard.dones) its no in
    ap (λ (s : Service). news_in (owes_reset number d) part.items + Owes (seat_numbered number s.seats)) same ∙ came_counts d.service number part c.0 c.1 right

-- ---- How it is told

-- it's in a packet where it was owed before it, and isn't behind it
pub in_packet : (count : ℕ) (before behind : Bool) → count + one_if behind ≡ one_if before → count ≡ one_if (before && not behind)
in_packet count true true e = let n : count ≡ 0 = omega (arith, e) in n
in_packet count true false e = let n : count ≡ 1 = omega (arith, e) in n
in_packet count false true e = let n : count ≡ 0 = omega (arith, e) in n
in_packet count false false e = let n : count ≡ 0 = omega (arith, e) in n

whole_told : (owes tells is_in asks : Bool) (manner : Manner) (part : Part Token) → manner ≡ Whole tells → news_in owes part.items ≡ one_if is_in → one_if tells + one_if is_in ≡ one_if asks → IsTold owes asks manner part
whole_told owes tells is_in asks manner part is count e = subst (λ (m : Manner). IsTold owes asks m part) (sym is) (ap (λ (n : ℕ). one_if tells + n) count ∙ e)

cut_told : (owes tells asks : Bool) (manner : Manner) (part : Part Token) (bytes : List ℕ) → manner ≡ Without tells bytes → one_if tells ≡ one_if asks → IsTold owes asks manner part
cut_told owes tells asks manner part bytes is e = subst (λ (m : Manner). IsTold owes asks m part) (sym is) e

told_one : (owes asks is_in owed : Bool) (a : Answer) (h : Header) (content : List ℕ) (manner : Manner) (part : Part Token) → news_in owes part.items ≡ one_if is_in → (owed ≡ false → is_in ≡ false)
    → IsOf (asks && not is_in) (owed && not (asks && is_in)) a h content manner → IsTold owes asks manner part
told_one owes true true true a h content manner part count was by = whole_told owes false true true manner part by count refl
told_one owes true true false a h content manner part count was by = whole_told owes false true true manner part by count refl
told_one owes true false true a h content manner part count was by = cut_told owes true true manner part by.0 by.1 refl
told_one owes true false false a h content manner part count was by = whole_told owes true false true manner part by count refl
told_one owes false true true a h content manner part count was by = cut_told owes false false manner part by.0 by.1 refl
told_one owes false true false a h content manner part count was by = absurd (let e = was refl in let u : ⊥ = cc in u)
told_one owes false false true a h content manner part count was by = cut_told owes false false manner part by.0 by.1 refl
told_one owes false false false a h content manner part count was by = whole_told owes false false false manner part by count refl

told_by : (owes asks is_in owed held : Bool) (a : Answer) (h : Header) (content : List ℕ) (manner : Manner) (part : Part Token) → news_in owes part.items ≡ one_if is_in → ((owed || held) ≡ false → is_in ≡ false)
    → IsOf (asks && not is_in) ((owed || held) && not (asks && is_in)) a h content manner → IsTold owes asks manner part
told_by owes asks is_in owed held a h content manner part count was by = told_one owes asks is_in (owed || held) a h content manner part count was by

pub told_for : (owes asks is_in owed held : Bool) (a : Answer) (h : Header) (content : List ℕ) (manner : Manner) (part : Part Token) → news_in owes part.items ≡ one_if is_in → ((owed || held) ≡ false → is_in ≡ false)
    → IsBy (news_for asks is_in owed held) a h content manner → IsTold owes asks manner part
told_for owes asks is_in owed held a h content manner part count was by = told_by owes asks is_in owed held (awaited owed a) h content manner part count was by

-- what isn't owed isn't in it
pub unowed : (owed owes holds : Bool) → (owed || holds) ≡ false → (owed && not owes) ≡ false
unowed true owes holds e = absurd (let u : ⊥ = cc in u)
unowed false owes holds e = refl

-- As it is heard: how often a packet has the news, by what its connection owed before it and owes behind it.
pub heard_so : (d : Pool) (number key : ℕ) (part : Part Token) (heard : code.Heard) (way : Way) (d1 : Pool) (before behind : List ℕ) → Turns (pool.Comes number part way) d d1 before behind
    → whose d number ≡ Some key → heard.key ≡ Some key → IsWhat heard.key heard.what (dones_of_part d number part) → closes_connection heard.what ≡ false
    → (owed owes : Bool) → owed ≡ owes_reset number d → owes ≡ owes_reset number d1 → news_in (owes_reset number d) part.items ≡ one_if (owed && not owes)
heard_so d number key part heard way d1 before behind turned mine its what right owed owes was is =
    let same : heard.what ≡ what_in (dones_of_part d number part) = subst (λ (o : Option ℕ). IsWhat o heard.what (dones_of_part d number part)) its what in
    let one : closes_connection (what_in (dones_of_part d number part)) ≡ false = ap closes_connection (sym same) ∙ right in
    let count = news_counted d number key part way mine one in
    let now : news_in (owes_reset number d) part.items + one_if owes ≡ one_if owed =
    ap (λ (b : Bool). news_in (owes_reset number d) part.items + one_if b) (is ∙ ap (λ (x : Pool). owes_reset number x) turned.pool_is) ∙ count ∙ ap one_if (sym was) in
    in_packet (news_in (owes_reset number d) part.items) owed owes now
