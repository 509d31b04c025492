-- What is left of a request is sent: so many packets hold it.
use Rattle.std.proofs.Common.{◌≡◌, ℕ, zero, suc, List, [], ◌+◌, ◌-◌, ◌*◌, ◌≤◌, ◌<◌, leb, Bool, true, false, refl, sym, ap, subst, ◌∙◌, length, drop, arith, Option, Some, None}
use Rattle.std.proofs.Math.Nat.{suc-mul}
use Rattle.std.proofs.lemmas.Bool.Decides.{nat_tests}
use Rattle.std.proofs.lemmas.List.{length-drop}
use Rattle.tds_world.specs.Caller.{sends_by, sends_last}
use Rattle.tds_world.specs.Connection.{Connection, phase}
use Rattle.tds_world.specs.Events.{sends_in}
use Rattle.tds_world.specs.Phase.{Phase, Settled, Asked, Sending, Reading, Cancelling, phase_in, phase_of, phase_by}
use Rattle.tds_world.specs.Record.{Record, Fate, Out, Begun, Whole, packets_of}
use Rattle.tds_world.specs.rest.Rest.{times, sends_next, after_act, HoldsAll, HoldAll}
use Rattle.tds_world.proofs.events.Standings.{sends_stand}
use Rattle.tds_world.proofs.flow.Fates.{is_sending, when_going}
use Rattle.tds_world.proofs.flow.Keeps.{sends_keeps_by}
use Rattle.tds_world.proofs.packets.Deliveries.{sends_within}
use Rattle.tds_world.proofs.rest.Arriving.{IsGood}

all_out : (fate : Fate) (out : Out) (n : ℕ) → is_sending (phase_by fate out) ≡ true → phase_by fate (Whole n) ≡ Reading
all_out fate out n e = when_going (λ f o. phase_by f (Whole n) ≡ Reading) refl (λ m. refl) fate out e

-- So many packets hold what is left, where something is.
abbrev pub LeftFits : ℕ → ℕ → Connection → Type 0
LeftFits room packets c = (q : Record) → c.current ≡ Some q → is_sending (phase_of q) ≡ true → HoldsAll room packets q

pub left_fits : (room packets : ℕ) (p : Phase) (o : Option Record) → phase_in o ≡ p → HoldAll room packets p o → (q : Record) → o ≡ Some q → is_sending (phase_of q) ≡ true → HoldsAll room packets q
left_fits room packets p None e h q f s = absurd (cc)
left_fits room packets Asked (Some x) e h q f s = let same : x ≡ q = cc in subst (HoldsAll room packets) same h
left_fits room packets Sending (Some x) e h q f s = let same : x ≡ q = cc in subst (HoldsAll room packets) same h
left_fits room packets Settled (Some x) e h q f s = let same : x ≡ q = cc in let z : is_sending Settled ≡ true = sym (ap is_sending (sym (ap phase_of same) ∙ e)) ∙ s in absurd (cc)
left_fits room packets Reading (Some x) e h q f s = let same : x ≡ q = cc in let z : is_sending Reading ≡ true = sym (ap is_sending (sym (ap phase_of same) ∙ e)) ∙ s in absurd (cc)
left_fits room packets Cancelling (Some x) e h q f s = let same : x ≡ q = cc in let z : is_sending Cancelling ≡ true = sym (ap is_sending (sym (ap phase_of same) ∙ e)) ∙ s in absurd (cc)

-- One that has nothing to send sends nothing.
pub sends_not : (p : Phase) (room : ℕ) (o : Option Record) (c : Connection) → is_sending p ≡ false → after_act c (sends_in p room o c) ≡ c
sends_not Settled room o c e = refl
sends_not Asked room o c e = absurd (cc)
sends_not Sending room o c e = absurd (cc)
sends_not Reading room o c e = refl
sends_not Cancelling room o c e = refl

sends_so : (p : Phase) (room : ℕ) (q : Record) (c : Connection) → is_sending p ≡ true → after_act c (sends_in p room (Some q) c) ≡ sends_by (sends_last room q) room q c
sends_so Settled room q c e = absurd (cc)
sends_so Asked room q c e = refl
sends_so Sending room q c e = refl
sends_so Reading room q c e = absurd (cc)
sends_so Cancelling room q c e = absurd (cc)

-- It is sound and has nothing left to send.
pub record Sent (c d : Connection) : Type 0 where
  pub good : IsGood d
  pub nothing : is_sending (phase d) ≡ false
  pub stands : d.standing ≡ c.standing

some_left : (room n m : ℕ) → m ≤ n * room + room → room < m → 1 ≤ n
some_left room zero m h l = absurd (omega arith)
some_left room (suc n) m h l = omega arith

less_left : (room n : ℕ) (xs : List ℕ) → leb (length xs) room ≡ false → length xs ≤ suc n * room → (1 ≤ n) × (length (drop room xs) ≤ n * room)
less_left room n xs e h =
    let more : room < length xs = grind (arith, nat_tests) in
    let whole : length xs ≤ n * room + room = subst (λ x. length xs ≤ x) (suc-mul n room) h in
    let size : length (drop room xs) ≡ length xs - room = length-drop room xs in
    (some_left room n (length xs) whole more, rw size (omega arith))

next_fits : (b : Bool) (room n : ℕ) (q : Record) (c : Connection) → leb (length q.left) room ≡ b → is_sending (phase_of q) ≡ true → HoldsAll room (suc n) q → LeftFits room n (sends_by b room q c)
next_fits true room n q c e s h x f g =
    let same : record q { left = []; out = Whole (packets_of q.out + 1) } ≡ x = cc in
    let z : is_sending Reading ≡ true = ap is_sending (sym (all_out q.fate q.out (packets_of q.out + 1) s)) ∙ (ap (λ y. is_sending (phase_of y)) same ∙ g) in
    absurd (cc)
next_fits false room n q c e s h x f g =
    let same : record q { left = drop room q.left; out = Begun (packets_of q.out + 1) } ≡ x = cc in
    let less = less_left room n q.left e h.all in
    subst (HoldsAll room n) same (record { some = less.0; all = less.1 })

fits_not : (room n : ℕ) (c : Connection) → is_sending (phase c) ≡ false → LeftFits room n c
fits_not room n c e q f s = let z : false ≡ true = sym (ap (λ o. is_sending (phase_in o)) (sym f) ∙ e) ∙ s in absurd (cc)

none_sent : (room : ℕ) (c : Connection) (b : Bool) (o : Option Record) → c.current ≡ o → is_sending (phase_in o) ≡ b → IsGood c → LeftFits room 0 c → Sent c c
none_sent room c false o e s g h = record { good = g; nothing = ap (λ x. is_sending (phase_in x)) e ∙ s; stands = refl }
none_sent room c true None e s g h = absurd (cc)
none_sent room c true (Some q) e s g h = let z : 1 ≤ 0 = (h q e s).some in absurd (omega arith)

abbrev Sends : ℕ → ℕ → Type 0
Sends room n = (c : Connection) → IsGood c → LeftFits room n c → Sent c (times n (sends_next room) c)

sent_of : (room n : ℕ) (c : Connection) (o : Option Record) → Sends room n → c.current ≡ o → is_sending (phase_in o) ≡ true → IsGood c → LeftFits room (suc n) c → Sent c (times n (sends_next room) (sends_next room c))
sent_of room n c None ih e s g h = absurd (cc)
sent_of room n c (Some q) ih e s g h =
    let d : Connection = sends_by (sends_last room q) room q c in
    let is : sends_next room c ≡ d =
    ap (λ o. after_act c (sends_in (phase c) room o c)) e ∙ sends_so (phase c) room q c (ap (λ o. is_sending (phase_in o)) e ∙ s) in
    let good : IsGood d = (sends_keeps_by (sends_last room q) room q c e s g.0, sends_within (sends_last room q) room q c g.1) in
    let later = ih d good (next_fits (sends_last room q) room n q c refl s (h q e s)) in
    subst (λ x. Sent c (times n (sends_next room) x)) (sym is)
    (record { good = later.good; nothing = later.nothing; stands = later.stands ∙ sends_stand (sends_last room q) room q c })

sent_by : (room n : ℕ) (c : Connection) (b : Bool) → Sends room n → is_sending (phase c) ≡ b → IsGood c → LeftFits room (suc n) c → Sent c (times n (sends_next room) (sends_next room c))
sent_by room n c false ih s g h =
    subst (λ d. Sent c (times n (sends_next room) d)) (sym (sends_not (phase c) room c.current c s))
    (ih c g (fits_not room n c s))
sent_by room n c true ih s g h = sent_of room n c c.current ih refl s g h

pub all_sent : (room n : ℕ) → Sends room n
all_sent room zero c g h = none_sent room c (is_sending (phase c)) c.current refl refl g h
all_sent room (suc n) c g h = sent_by room n c (is_sending (phase c)) (all_sent room n) refl g h
