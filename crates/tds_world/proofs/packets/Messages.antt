-- A request's packets are the pieces of its message, whatever happens.
use Rattle.std.proofs.Common.{◌≡◌, ◌≢◌, ◌∙◌, ◌≤◌, ◌<◌, ◌^◌, ◌+◌, ◌-◌, ℕ, Bool, true, false, eqb, leb, refl, sym, ap, subst, Option, Some, None, option_map, List, [], ◌∷◌, ◌++◌, length, take, drop, append_assoc, length-append, length-take, arith}
use Rattle.std.proofs.lemmas.Bool.Decides.{nat_tests}
use Rattle.std.proofs.lemmas.List.{take-append-drop}
use Rattle.std.specs.List.{AllByRecursion}
use Rattle.tds_packet.specs.declared.status.Reset.{Reset}
use Rattle.tds_packet.specs.declared.status.Reset.TheVariants.{Full, KeepTransaction}
use Rattle.tds_request.specs.declared.request.Request.{Request}
use Rattle.tds_request.specs.Layout.{Fits}
use Rattle.tds_session.specs.Answer as answer
use Rattle.tds_session.specs.Answer.{Answers}
use Rattle.tds_session.specs.Laws.Sessions.{new_is_session}
use Rattle.tds_session.specs.Session.{SessionState, IsSession}
use Rattle.tds_world.specs.declared.event.Setup.{Setup}
use Rattle.tds_world.specs.Arrivals.{server_acts, client_acts, works_on}
use Rattle.tds_world.specs.Bounds.{IsSetup, IsEvent}
use Rattle.tds_world.specs.Caller.{asks, sends_by, first_bit, next_packet, drop_packet, cancels_by}
use Rattle.tds_world.specs.Connection.{Connection, phase, is_idle}
use Rattle.tds_world.specs.Entries.{Asking, Up, Part, End, Drop, Attention, Down, Step, Acknowledgement}
use Rattle.tds_world.specs.Events.{world_after}
use Rattle.tds_world.specs.Lane.{passed}
use Rattle.tds_world.specs.Lawful.{Lawful}
use Rattle.tds_world.specs.Laws.{AlwaysOf}
use Rattle.tds_world.specs.Messages.{message_of, IsSpelled, bits_behind, IsNext, came_with, IsLeft, AreNext, AreNextIn, AreWhole, MessagesAreWhole}
use Rattle.tds_world.specs.Phase.{Phase, Settled, Asked, Sending, Reading, Cancelling, phase_of, phase_by}
use Rattle.tds_world.specs.Record.{Record, Out, NotBegun, Begun, Whole, packets_of, gives, acknowledges, runs, when, if_numbered, Fate, is_cancelled}
use Rattle.tds_packet.specs.Resets.{header_descriptor}
use Rattle.tds_world.specs.Sessions.{FitsStep, StayInRange}
use Rattle.tds_world.specs.World.{new_world}
use Rattle.tds_world.proofs.events.Moves.{Invariant, KeptOver, Both, Of, on_top, by_moves_of}
use Rattle.tds_world.proofs.events.Worlds.{Kept, always_such, each_follows}
use Rattle.tds_world.proofs.flow.Flow.{Quiet, Hears, number_in, Sound, SoundWith}
use Rattle.tds_world.proofs.flow.Keeps.{ask_fits}
use Rattle.tds_world.proofs.packets.Ranges.{cleaning_is_event, packet_least}
use Rattle.tds_world.proofs.packets.Sessions.{stop_is_session}
use Rattle.tds_world.proofs.packets.Sent.{Saying, Keeps, SentWith, sent_moves}
use Rattle.tds_world.proofs.packets.Sizes.{message_size}
use Rattle.tds_world.proofs.flow.Fates.{step_cancels_none, is_sending, when_going}

-- ---- Asking

descriptor_fits : (mark : Option Reset) (d : ℕ) → d < 2 ^ 64 → header_descriptor mark d < 2 ^ 64
descriptor_fits None d h = h
descriptor_fits (Some Full) d h = omega arith
descriptor_fits (Some KeepTransaction) d h = h

asked_whole : (number lease n : ℕ) (q : Request) (c : Connection) → Fits q → c.heard < 2 ^ 64 → c.parts ≡ [] → c.to_server.waiting ≡ [] → AreWhole (asks number lease n q c)
asked_whole number lease n q c fits ranged parts none =
    let asking : Asking = record { request = q; descriptor = header_descriptor c.mark c.heard; mark = c.mark } in
    let spelled : IsSpelled asking = record { kind_is = refl; spelled = refl; fits = fits; ranged = descriptor_fits c.mark c.heard ranged } in (
      spelled,
      subst (λ (ups : List Up). AreNext asking false NotBegun (message_of asking) c.parts ups) (sym none) (parts, refl),
    )

-- ---- Changes of the record that leave what is asked and how much of it is out

-- With what is left forgotten.
forgotten : (a : Asking) (can : Bool) (out out' : Out) (left before : List ℕ) (ups : List Up) → AreNext a can out left before ups → AreNext a true out' left before ups
forgotten a can out out' left before [] h = tt
forgotten a can out out' left before (e ∷ es) h = (h.0, forgotten a can out out' left (came_with before e) es h.1)

gives_same : (b : Bool) (s : answer.Step) (q : Record) (parts : List ℕ) (ups : List Up) → AreNextIn (Some q) parts ups → AreNextIn (Some (when b (gives s) q)) parts ups
gives_same true s q parts ups h = (h.0, subst (λ b. AreNext q.asking b q.out q.left parts ups) (sym (step_cancels_none s.last q.fate)) h.1)
gives_same false s q parts ups h = h

acknowledges_same : (b : Bool) (q : Record) (parts : List ℕ) (ups : List Up) → AreNextIn (Some q) parts ups → AreNextIn (Some (when b acknowledges q)) parts ups
acknowledges_same true q parts ups h = (h.0, forgotten q.asking (is_cancelled q.fate) q.out q.out q.left parts ups h.1)
acknowledges_same false q parts ups h = h

runs_same : (b : Bool) (before : SessionState) (s : answer.Step) (q : Record) (parts : List ℕ) (ups : List Up) → AreNextIn (Some q) parts ups → AreNextIn (Some (when b (runs before s) q)) parts ups
runs_same true before s q parts ups h = h
runs_same false before s q parts ups h = h

gives_next : (r : ℕ) (s : answer.Step) (current : Option Record) (parts : List ℕ) (ups : List Up) → AreNextIn current parts ups → AreNextIn (option_map (if_numbered r (gives s)) current) parts ups
gives_next r s None parts ups h = h
gives_next r s (Some q) parts ups h = gives_same (eqb q.number r) s q parts ups h

acknowledges_next : (r : ℕ) (current : Option Record) (parts : List ℕ) (ups : List Up) → AreNextIn current parts ups → AreNextIn (option_map (if_numbered r acknowledges) current) parts ups
acknowledges_next r None parts ups h = h
acknowledges_next r (Some q) parts ups h = acknowledges_same (eqb q.number r) q parts ups h

runs_next : (r : ℕ) (before : SessionState) (s : answer.Step) (current : Option Record) (parts : List ℕ) (ups : List Up) → AreNextIn current parts ups → AreNextIn (option_map (if_numbered r (runs before s)) current) parts ups
runs_next r before s None parts ups h = h
runs_next r before s (Some q) parts ups h = runs_same (eqb q.number r) before s q parts ups h

heard_whole : (c : Connection) (e : Down) → AreWhole c → AreWhole (client_acts c e)
heard_whole c (Step r place s) h = gives_next r s c.current c.parts c.to_server.waiting h
heard_whole c (Acknowledgement r place changes) h = acknowledges_next r c.current c.parts c.to_server.waiting h

worked_by : (c : Connection) (due : List answer.Step) → AreWhole c → AreWhole (works_on c due)
worked_by c [] h = h
worked_by c (s ∷ ss) h = runs_next c.answering c.session s c.current c.parts c.to_server.waiting h

-- ---- Arriving

arrived_in : (current : Option Record) (parts : List ℕ) (e : Up) (es : List Up) → AreNextIn current parts (e ∷ es) → AreNextIn current (came_with parts e) es
arrived_in None parts e es h = absurd (cc)
arrived_in (Some q) parts e es h = (h.0, h.1.1)

arrived_whole : (answers : Answers) (c : Connection) (e : Up) (es : List Up) → AreNextIn c.current c.parts (e ∷ es) → AreNextIn (server_acts answers c e).current (server_acts answers c e).parts es
arrived_whole answers c (Part r p) es h = arrived_in c.current c.parts (Part r p) es h
arrived_whole answers c (End r a p) es h = arrived_in c.current c.parts (End r a p) es h
arrived_whole answers c (Drop r p) es h = arrived_in c.current c.parts (Drop r p) es h
arrived_whole answers c (Attention r) es h = arrived_in c.current c.parts (Attention r) es h

-- ---- Entries that are appended

-- What came of a message behind entries.
abbrev came_behind : List ℕ → List Up → List ℕ
came_behind before [] = before
came_behind before (e ∷ es) = came_behind (came_with before e) es

all_left : (a : Asking) (cancelled : Bool) (out : Out) (left before : List ℕ) (ups : List Up) → AreNext a cancelled out left before ups → IsLeft a cancelled out left (came_behind before ups)
all_left a cancelled out left before [] h = h
all_left a cancelled out left before (e ∷ es) h = all_left a cancelled out left (came_with before e) es h.1

one_more : (a : Asking) (can can' : Bool) (out out' : Out) (left left' before : List ℕ) (ups : List Up) (e : Up) → AreNext a can out left before ups → IsNext a (came_behind before ups) e → IsLeft a can' out' left' (came_with (came_behind before ups) e) → AreNext a can' out' left' before (ups ++ e ∷ [])
one_more a can can' out out' left left' before [] e h next rest = (next, rest)
one_more a can can' out out' left left' before (x ∷ xs) e h next rest = (h.0, one_more a can can' out out' left left' (came_with before x) xs e h.1 next rest)

-- ---- Cancelling

dropped_next : (a : Asking) (q : Record) (before : List ℕ) → a ≡ q.asking → IsNext a before (Drop q.number (drop_packet q))
dropped_next a q before e = subst (λ (x : Asking). IsNext x before (Drop q.number (drop_packet q))) (sym e) (record { kind = refl; status = refl })

cancelled_by : (p : Phase) (q : Record) (c : Connection) → c.current ≡ Some q → AreWhole c → AreWhole (cancels_by p q c)
cancelled_by Settled q c is h = h
cancelled_by Cancelling q c is h = h
cancelled_by Asked q c is h =
    let k : AreNextIn (Some q) c.parts c.to_server.waiting = subst (λ (o : Option Record). AreNextIn o c.parts c.to_server.waiting) is h in
    (k.0, forgotten q.asking (is_cancelled q.fate) q.out q.out q.left c.parts c.to_server.waiting k.1)
cancelled_by Sending q c is h =
    let k : AreNextIn (Some q) c.parts c.to_server.waiting = subst (λ (o : Option Record). AreNextIn o c.parts c.to_server.waiting) is h in
    let word : Up = Drop q.number (drop_packet q) in
    let one : AreNext q.asking true q.out q.left c.parts (c.to_server.waiting ++ word ∷ []) = one_more q.asking (is_cancelled q.fate) true q.out q.out q.left q.left c.parts c.to_server.waiting word k.1 (record { kind = refl; status = refl }) tt in
    (k.0, one_more q.asking true true q.out q.out q.left q.left c.parts (c.to_server.waiting ++ word ∷ []) (Attention q.number) one tt tt)
cancelled_by Reading q c is h =
    let k : AreNextIn (Some q) c.parts c.to_server.waiting = subst (λ (o : Option Record). AreNextIn o c.parts c.to_server.waiting) is h in
    (k.0, one_more q.asking (is_cancelled q.fate) true q.out q.out q.left q.left c.parts c.to_server.waiting (Attention q.number) k.1 tt tt)

-- ---- Sending

-- Whether some of a request is to go out.
abbrev is_going : Out → Bool
is_going NotBegun = true
is_going (Begun n) = true
is_going (Whole n) = false

going : (fate : Fate) (out : Out) → is_sending (phase_by fate out) ≡ true → (is_cancelled fate ≡ false) × (is_going out ≡ true)
going fate out = when_going (λ x o. (is_cancelled x ≡ false) × (is_going o ≡ true)) (refl, refl) (λ n. (refl, refl)) fate out

-- What is left ends the message, and the mark's bit stands on the first packet.
record IsRest (a : Asking) (out : Out) (left before : List ℕ) : Type 0 where
  whole : before ++ left ≡ message_of a
  bits : first_bit out a.mark ≡ bits_behind before a.mark

rest_is : (a : Asking) (out : Out) (left before : List ℕ) → is_going out ≡ true → IsLeft a false out left before → IsRest a out left before
rest_is a NotBegun left before e h = record {
  whole = subst (λ (x : List ℕ). x ++ left ≡ message_of a) (sym h.0) h.1;
  bits = subst (λ (x : List ℕ). first_bit NotBegun a.mark ≡ bits_behind x a.mark) (sym h.0) refl;
}
rest_is a (Begun n) left [] e h = absurd (h.0 refl)
rest_is a (Begun n) left (b ∷ bs) e h = record { whole = h.1; bits = refl }
rest_is a (Whole n) left before e h = absurd (cc)

-- A full packet has some bytes, and leaves the rest.
some_taken : (room : ℕ) (left : List ℕ) → 1 ≤ room → room < length left → take room left ≢ []
some_taken room left some more = λ e. absurd (let none : length (take room left) ≡ 0 = ap (λ (x : List ℕ). length x) e in omega (arith, length-take room left, none))

some_behind : (xs ys : List ℕ) → ys ≢ [] → xs ++ ys ≢ []
some_behind [] ys some = some
some_behind (x ∷ xs) ys some = λ e. absurd (cc)

sent_by : (b : Bool) (room : ℕ) (q : Record) (c : Connection) → leb (length q.left) room ≡ b → 1 ≤ room → c.current ≡ Some q → is_sending (phase_of q) ≡ true → AreWhole c → AreWhole (sends_by b room q c)
sent_by true room q c fits some is sending h =
    let k : AreNextIn (Some q) c.parts c.to_server.waiting = subst (λ (o : Option Record). AreNextIn o c.parts c.to_server.waiting) is h in
    let g : (is_cancelled q.fate ≡ false) × (is_going q.out ≡ true) = going q.fate q.out sending in
    let before : List ℕ = came_behind c.parts c.to_server.waiting in
    let left : IsLeft q.asking false q.out q.left before = subst (λ (x : Bool). IsLeft q.asking x q.out q.left before) g.0 (all_left q.asking (is_cancelled q.fate) q.out q.left c.parts c.to_server.waiting k.1) in
    let rest : IsRest q.asking q.out q.left before = rest_is q.asking q.out q.left before g.1 left in
    let most : length (message_of q.asking) ≤ 4022 = message_size q.asking.descriptor q.asking.request k.0.fits in (
      k.0,
      one_more q.asking (is_cancelled q.fate) (is_cancelled q.fate) q.out (Whole (packets_of q.out + 1)) q.left [] c.parts c.to_server.waiting (End q.number q.asking (next_packet q 1 q.left)) k.1 (
        record { kind = refl; status = ap (λ (n : ℕ). 1 + n) rest.bits; most = subst (λ (x : List ℕ). length x ≤ 4022) (sym rest.whole) most },
        refl,
        rest.whole,
      )
          (subst (λ (x : Bool). IsLeft q.asking x (Whole (packets_of q.out + 1)) [] []) (sym g.0) tt),
    )
sent_by false room q c full some is sending h =
    let k : AreNextIn (Some q) c.parts c.to_server.waiting = subst (λ (o : Option Record). AreNextIn o c.parts c.to_server.waiting) is h in
    let g : (is_cancelled q.fate ≡ false) × (is_going q.out ≡ true) = going q.fate q.out sending in
    let before : List ℕ = came_behind c.parts c.to_server.waiting in
    let left : IsLeft q.asking false q.out q.left before = subst (λ (x : Bool). IsLeft q.asking x q.out q.left before) g.0 (all_left q.asking (is_cancelled q.fate) q.out q.left c.parts c.to_server.waiting k.1) in
    let rest : IsRest q.asking q.out q.left before = rest_is q.asking q.out q.left before g.1 left in
    let most : length (message_of q.asking) ≤ 4022 = message_size q.asking.descriptor q.asking.request k.0.fits in
    let more : room < length q.left = grind (arith, nat_tests, full) in
    let body : take room q.left ≢ [] = some_taken room q.left some more in
    let whole : (before ++ take room q.left) ++ drop room q.left ≡ message_of q.asking = append_assoc before (take room q.left) (drop room q.left) ∙ (ap (λ (x : List ℕ). before ++ x) (take-append-drop room q.left) ∙ rest.whole) in (
      k.0,
      one_more q.asking (is_cancelled q.fate) (is_cancelled q.fate) q.out (Begun (packets_of q.out + 1)) q.left (drop room q.left) c.parts c.to_server.waiting (Part q.number (next_packet q 0 (take room q.left))) k.1 (
        record {
          kind = refl;
          status = ap (λ (n : ℕ). 0 + n) rest.bits;
          most =
              let sum : length ((before ++ take room q.left) ++ drop room q.left) ≡ length (before ++ take room q.left) + length (drop room q.left) = length-append (before ++ take room q.left) (drop room q.left) in
              let all : length ((before ++ take room q.left) ++ drop room q.left) ≤ 4022 = subst (λ (x : List ℕ). length x ≤ 4022) (sym whole) most in
              omega (arith, sum, all);
        },
        body,
      )
          (subst (λ (x : Bool). IsLeft q.asking x (Begun (packets_of q.out + 1)) (drop room q.left) (before ++ take room q.left)) (sym g.0) (some_behind before (take room q.left) body, whole)),
    )

-- Where nobody waits for an answer, the client has heard the server's descriptor, which has 64 bits.
asks_whole : (number lease n : ℕ) (q : Request) (c : Connection) → Fits q → is_idle c ≡ true → Sound c → IsSession c.session → AreWhole (asks number lease n q c)
asks_whole number lease n q c fits e s i =
    let quiet : Quiet c.to_server.waiting c.to_client.waiting c.parts c.due =
    ask_fits (phase c) (number_in c.current) c.answering c.to_server.waiting c.to_client.waiting c.parts c.due e s.0 in
    let heard : c.heard ≡ c.session.descriptor = subst (λ ds. Hears c.heard ds c.session.descriptor) quiet.1 s.1.0 in
    asked_whole number lease n q c fits (subst (λ (d : ℕ). d < 2 ^ 64) (sym heard) i.descriptor) quiet.2 quiet.0

-- ---- The law

-- The server's session is one, and is one after each step that is due.
abbrev InSession : Saying
InSession s sent due taken = IsSession s × AllByRecursion FitsStep due

session_kept : (answers : Answers) → StayInRange answers → Keeps answers InSession
session_kept answers r = record {
  first = (new_is_session, tt);
  asked = λ s sent taken d m q h. (h.0, r s d m q h.0);
  stopped = λ s sent due taken r rolls t h. (stop_is_session rolls s h.0, tt);
  worked = λ s sent t ts taken r h. (h.1.0.after, h.1.1);
}

abbrev Known : Invariant
Known = Both SoundWith (λ c ups downs. SentWith InSession c downs)

abbrev WholeWith : Invariant
WholeWith c ups downs = AreNextIn c.current c.parts ups

whole_moves : (setup : Setup) (answers : Answers) → IsSetup setup → KeptOver setup answers IsEvent Known WholeWith
whole_moves setup answers u =
    let some : 1 ≤ setup.packet_size - 8 = (let least : 512 ≤ setup.packet_size = packet_least setup u in omega arith) in record {
      opened = λ lease. refl;
      stands = λ c m s h. h;
      asked = λ number lease n q c x is f h. asks_whole number lease n q c x is f.0 f.1.0;
      sent = λ last q c is at b f h. sent_by last (setup.packet_size - 8) q c b some is at h;
      cancelled = λ p q c is at f h. cancelled_by p q c is h;
      worked = λ c s ss is f h. worked_by c (s ∷ ss) h;
      at_server = λ c e es f h. arrived_whole answers (record c { to_server = passed e c.to_server }) e es h;
      at_client = λ c e es f h. heard_whole (record c { to_client = passed e c.to_client }) e h;
      server_waits = λ c es k m h. h;
      client_waits = λ c es k m h. h;
    }

whole_kept : (setup : Setup) (answers : Answers) → IsSetup setup → Lawful answers → StayInRange answers → Kept setup answers IsEvent (Of (Both Known WholeWith))
whole_kept setup answers u l r =
    by_moves_of setup answers IsEvent (Both Known WholeWith) cleaning_is_event
    (on_top setup answers IsEvent Known WholeWith (sent_moves setup answers InSession l (session_kept answers r)) (whole_moves setup answers u))

pub messages_are_whole : (setup : Setup) (answers : Answers) → IsSetup setup → Lawful answers → StayInRange answers → AlwaysOf IsEvent setup answers MessagesAreWhole
messages_are_whole setup answers u l r events x =
    each_follows (Of (Both Known WholeWith)) AreWhole (world_after setup answers events new_world).connections (λ c h. h.1)
    (always_such (Of (Both Known WholeWith)) IsEvent setup answers events (whole_kept setup answers u l r) x)
