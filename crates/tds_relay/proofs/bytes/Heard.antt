-- Where a parser stands behind a packet that it has read.
use Rattle.std.proofs.Common.{◌≡◌, ◌≢◌, ◌∙◌, ◌==◌, ◌≤◌, ℕ, Bool, true, false, List, [], inl, inr, refl, sym, ap, subst, arith}
use Rattle.std.specs.Prelude.{◌⊎◌, Option, Some, None}
use Rattle.std.proofs.lemmas.Bool.{eqb-true}
use Rattle.tds_wire.specs.declared.features.Features.{Features}
use Rattle.tds_wire.specs.declared.told.Token.{Token}
use Rattle.tds_wire.specs.Reading.{Parser}
use Rattle.tds_listen.specs.Hearing.{Stop, tokens_in}
use Rattle.tds_service.specs.declared.service.Service as services
use Rattle.tds_service.specs.Beginning.{MakesAlike}
use Rattle.tds_service.specs.Parts.{Part}
use Rattle.tds_service.specs.Packets.{ReadsTo}
use Rattle.tds_service.specs.Service as calls
use Rattle.tds_service.specs.Service.{Service, Call, Seat, nothing, seat_numbered, step, new_service}
use Rattle.tds_service.specs.Sizes.{KeepsSize}
use Rattle.tds_service.specs.Table.{KeepsOthers, reading_on, service_in}
use Rattle.tds_relay.specs.TokenParsers.{AllRead, AllStand, IsLed, IsUnread, OfSize, StandsAt, There, Unread, read_at, read_to}
use Rattle.tds_relay.proofs.bytes.Walking.{Leaves, differ, led_on, none_begun, nothing_there, seat_unread, stand_one, step_leaves, unread_one}

-- ---- What is read

-- where its own parser stands
own_stand : (old mid : services.Service) (call : Call Token) (n : ℕ) (r next : Parser) → service_in mid ≡ (step (service_in old) call).service → reading_on n mid ≡ Some next → StandsAt n r old → StandsAt n next mid
own_stand old mid call n r next is at h =
    let left = subst (Leaves n (service_in old)) (sym is) (step_leaves n (service_in old) call h.given) in
    record {
      led = led_on (service_in old) (service_in mid) call is h.led;
      given = (let low : n ≤ old.last = h.given in let more : old.last ≤ mid.last = left.rises in omega (arith, low, more));
      there = λ now e. let u : Some now ≡ Some next = sym e ∙ at in cc;
    }

read_other : (n number : ℕ) (o : Option Seat) (ends : Bool) (content : List ℕ) (r : Parser) → (number == n) ≡ false → read_at n number o ends content r ≡ r
read_other n number None ends content r e = refl
read_other n number (Some c) ends content r e = rw e refl

-- where it is there
read_here : (n number : ℕ) (o : Option Seat) (ends : Bool) (content : List ℕ) (r : Parser) → (o ≡ None → ⊥) → (number == n) ≡ true → read_at n number o ends content r ≡ read_to ends r (tokens_in r content).stop
read_here n number None ends content r there e = absurd (there refl)
read_here n number (Some c) ends content r there e = rw e refl

to_behind : (ends : Bool) (r next : Parser) (stop : Stop) → ReadsTo ends stop next → read_to ends r stop ≡ next
to_behind ends r next stop h = ap (λ (s : Stop). read_to ends r s) h.1 ∙ sym h.2

is_there : (number : ℕ) (s : services.Service) (at : Parser) → reading_on number s ≡ Some at → seat_numbered number (service_in s).seats ≡ None → ⊥
is_there number s at is none = let u : None ≡ Some at = sym (seat_unread number s none) ∙ is in cc

-- what is known of the parser that has read
abbrev Known : ℕ → Bool → List ℕ → services.Service → services.Service → Type 0
Known number ends content old mid = (r : Parser) → reading_on number old ≡ Some r → (next : Parser) × (reading_on number mid ≡ Some next) × ReadsTo ends (tokens_in r content).stop next

-- where a connection's parser stands behind a packet on this one
abbrev behind : ℕ → ℕ → Bool → List ℕ → services.Service → Parser → Parser
behind n number ends content old r = read_at n number (seat_numbered number (service_in old).seats) ends content r

here_stand : (old mid : services.Service) (part : Part Token) (number n : ℕ) (ends : Bool) (content : List ℕ) (r : Parser) (at : Parser) → reading_on number old ≡ Some at
    → service_in mid ≡ (step (service_in old) (calls.Came number part)).service → Known number ends content old mid → (number == n) ≡ true → StandsAt n r old → StandsAt n (behind n number ends content old r) mid
here_stand old mid part number n ends content r at is step_is known e h =
    let same : number ≡ n = eqb-true number n e in
    let its : at ≡ r = h.there at (subst (λ (k : ℕ). reading_on k old ≡ Some at) same is) in
    let k = known at is in
    let next_is : behind n number ends content old r ≡ k.0 =
    read_here n number (seat_numbered number (service_in old).seats) ends content r (is_there number old at is) e
    ∙ ap (λ (x : Parser). read_to ends x (tokens_in x content).stop) (sym its) ∙ to_behind ends at k.0 (tokens_in at content).stop k.2 in
    subst (λ (x : Parser). StandsAt n x mid) (sym next_is)
    (own_stand old mid (calls.Came number part) n r k.0 step_is (subst (λ (m : ℕ). reading_on m mid ≡ Some k.0) same k.1) h)

other_stand : (old mid : services.Service) (call : Call Token) (number n : ℕ) (ends : Bool) (content : List ℕ) (r : Parser) → service_in mid ≡ (step (service_in old) call).service → KeepsOthers number old mid
    → (number == n) ≡ false → StandsAt n r old → StandsAt n (behind n number ends content old r) mid
other_stand old mid call number n ends content r is keeps e h =
    subst (λ (x : Parser). StandsAt n x mid) (sym (read_other n number (seat_numbered number (service_in old).seats) ends content r e))
    (stand_one old mid call n r is (λ q. keeps n q (λ same. differ number n e (sym same))) h)

came_by : (old mid : services.Service) (part : Part Token) (number n : ℕ) (ends : Bool) (content : List ℕ) (r at : Parser) (b : Bool) → (number == n) ≡ b → reading_on number old ≡ Some at
    → service_in mid ≡ (step (service_in old) (calls.Came number part)).service → Known number ends content old mid → KeepsOthers number old mid → StandsAt n r old → StandsAt n (behind n number ends content old r) mid
came_by old mid part number n ends content r at true e is step_is known keeps h = here_stand old mid part number n ends content r at is step_is known e h
came_by old mid part number n ends content r at false e is step_is known keeps h = other_stand old mid (calls.Came number part) number n ends content r step_is keeps e h

-- nothing of another one
others_unread : (old mid new : services.Service) (part : Part Token) (number : ℕ) (at : Parser) (n most : ℕ) (features : Features) → reading_on number old ≡ Some at
    → service_in mid ≡ (step (service_in old) (calls.Came number part)).service → MakesAlike old mid → KeepsOthers number old mid → AllStand mid new
    → (n ≢ number) ⊎ (seat_numbered number (service_in old).seats ≡ None) → IsUnread most features n old → IsUnread most features n new
others_unread old mid new part number at n most features is step_is alike keeps later (inl other) h =
    later n (Unread most features)
    (unread_one most features old mid (calls.Came number part) n step_is alike (λ q. keeps n q other) (none_begun old mid (calls.Came number part) n step_is (λ opened. opened)) h)
others_unread old mid new part number at n most features is step_is alike keeps later (inr none) h = absurd (is_there number old at is none)

-- a packet has come, and then nothing is read
pub came_read : (old mid new : services.Service) (part : Part Token) (number : ℕ) (ends : Bool) (content : List ℕ) (at : Parser) → reading_on number old ≡ Some at
    → service_in mid ≡ (step (service_in old) (calls.Came number part)).service → Known number ends content old mid → MakesAlike old mid → KeepsSize old mid → KeepsOthers number old mid → AllStand mid new
    → AllRead number ends content old new
came_read old mid new part number ends content at is step_is known alike sized keeps later = record {
  stand = λ n r h. later n (There (behind n number ends content old r)) (came_by old mid part number n ends content r at (number == n) refl is step_is known keeps h);
  unread = λ n most features other h. others_unread old mid new part number at n most features is step_is alike keeps later other h;
  sized = λ size h. later 0 (OfSize size) (sized size h);
}

-- or it has a fault, and the connection is lost
lost_by_test : (old mid new : services.Service) (part : Part Token) (number n : ℕ) (ends : Bool) (content : List ℕ) (r next : Parser) (b : Bool) → (number == n) ≡ b → reading_on number mid ≡ Some next
    → service_in mid ≡ (step (service_in old) (calls.Came number part)).service → KeepsOthers number old mid → AllStand mid new → (IsLed (service_in mid) → reading_on number new ≡ None)
    → StandsAt n r old → StandsAt n (behind n number ends content old r) new
lost_by_test old mid new part number n ends content r next true e is step_is keeps later gone h =
    let same : number ≡ n = eqb-true number n e in
    let was = own_stand old mid (calls.Came number part) n r next step_is (subst (λ (m : ℕ). reading_on m mid ≡ Some next) same is) h in
    let now = later n (There next) was in
    let none : reading_on n new ≡ None = subst (λ (m : ℕ). reading_on m new ≡ None) same (gone was.led) in
    record { led = now.led; given = now.given; there = λ x. nothing_there (behind n number ends content old r) x (reading_on n new) none }
lost_by_test old mid new part number n ends content r next false e is step_is keeps later gone h =
    later n (There (behind n number ends content old r)) (other_stand old mid (calls.Came number part) number n ends content r step_is keeps e h)

pub lost_read : (old mid new : services.Service) (part : Part Token) (number : ℕ) (ends : Bool) (content : List ℕ) (at next : Parser) → reading_on number old ≡ Some at → reading_on number mid ≡ Some next
    → service_in mid ≡ (step (service_in old) (calls.Came number part)).service → MakesAlike old mid → KeepsSize old mid → KeepsOthers number old mid → AllStand mid new → (IsLed (service_in mid) → reading_on number new ≡ None)
    → AllRead number ends content old new
lost_read old mid new part number ends content at next was is step_is alike sized keeps later gone = record {
  stand = λ n r h. lost_by_test old mid new part number n ends content r next (number == n) refl is step_is keeps later gone h;
  unread = λ n most features other h. others_unread old mid new part number at n most features was step_is alike keeps later other h;
  sized = λ size h. later 0 (OfSize size) (sized size h);
}

-- or the connection isn't there
pub unknown_read : (s : services.Service) (number : ℕ) (ends : Bool) (content : List ℕ) → seat_numbered number (service_in s).seats ≡ None → AllRead number ends content s s
unknown_read s number ends content none = record {
  stand = λ n r h. subst (λ (o : Option Seat). StandsAt n (read_at n number o ends content r) s) (sym none) h;
  unread = λ n most features other h. h;
  sized = λ size h. h;
}

-- where a service is new
pub unread_new : (max most : ℕ) (features : Features) (s : services.Service) → service_in s ≡ new_service max → (s.most ≡ most) × (s.features ≡ features) → (n : ℕ) → IsUnread most features n s
unread_new max most features s is told n =
    let none : reading_on n s ≡ None = seat_unread n s (subst (λ (x : Service). seat_numbered n x.seats ≡ None) (sym is) refl) in
    record {
      led = (max, [], sym is);
      told = told;
      begins = λ now there. absurd (let u : None ≡ Some now = sym none ∙ there in let v : ⊥ = cc in v);
    }
