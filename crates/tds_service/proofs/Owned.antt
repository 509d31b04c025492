-- What each act leaves of whose a connection is.
use Rattle.std.proofs.Common.{◌≡◌, ℕ, zero, suc, Bool, true, false, List, [], ◌∷◌, ◌++◌, refl, sym, subst}
use Rattle.std.specs.Prelude.{Option, Some, None, Result, Ok, Err}
use Rattle.tds_packet.specs.declared.status.Reset.{Reset}
use Rattle.tds_client.specs.declared.heard.Heard.{Heard}
use Rattle.tds_client.specs.declared.heard.FinalDone.{FinalDone}
use Rattle.tds_client.specs.declared.heard.FinalDone.TheVariants.{Awaited, Answered, Acknowledged}
use Rattle.tds_listen.specs.declared.fault.ListenFault.{ListenFault}
use Rattle.tds_service.specs.Parts.{Part, is_end, hear_part, heard_until}
use Rattle.tds_service.specs.Line.{Line, new_line, Act, LineStage, line_turn, reads, skips, skips_to_end, marks, asks, sends, cancels, comes, line_loses}
use Rattle.tds_service.specs.Line as line
use Rattle.tds_service.specs.History.{Done, history, line_after}
use Rattle.tds_service.specs.Refusing.{packets}
use Rattle.tds_service.specs.Owning.{Asker, asked_in, asker_by, IsOwn, AreOwn}
use Rattle.tds_service.specs.Service as calls
use Rattle.tds_service.specs.Service.{Place, Leased, Cleaning, Kept, Free, Draining, Seat, Service, new_service, Call, Reply, Unknown, NotNow, AllInUse, No, NoMemory, Lent, Ticket, Did, Back, ServiceStep, nothing, seat_numbered, find_by, change_by, has_lease, has_ticket, has_number, holds, keeps, is_lendable, is_idle, is_free, may_keep, rests, rests_clean, clean_place, drained, is_clean, lease_in, lease_at, does, acts_unless, rests_cleaned, step}
use Rattle.tds_service.proofs.Lends.{idle_stage}

-- Whose a connection is, by what its newest request is doing.
abbrev pub Held : Place → ℕ → Option Asker → Type 0
Held place asked asker = (lease : ℕ) × (lease_in place ≡ Some lease) × (asker ≡ Some (record { lease = lease; request = asked }))

abbrev pub OwnedAt : LineStage → Place → ℕ → Option Asker → Type 0
OwnedAt line.Idle place asked asker = Unit {0}
OwnedAt (line.Sending begun) place asked asker = Held place asked asker
OwnedAt line.Reading place asked asker = Held place asked asker
OwnedAt line.Cancelling place asked asker = Unit {0}
OwnedAt (line.Broken fault) place asked asker = Unit {0}

abbrev pub Owned : Seat → Option Asker → Type 0
Owned c asker = OwnedAt c.line.stage c.place c.line.asked asker

abbrev pub OwnedIn : Option Seat → Option Asker → Type 0
OwnedIn None asker = Unit {0}
OwnedIn (Some c) asker = Owned c asker

-- What a call does on a connection keeps that.
abbrev pub seat_behind : ℕ → Option Place → Line → Option Seat
seat_behind number None l = None
seat_behind number (Some place) l = Some (record { number = number; place = place; line = l })

pub record Keeps {T : Type 0} (call : Call T) (c : Seat) (place : Option Place) (xs : List (Act T)) : Type 0 where
  pub own : (asker : Option Asker) → Owned c asker → AreOwn asker (lease_in c.place) (history c.line xs)
  pub next : (asker : Option Asker) → Owned c asker → OwnedIn (seat_behind c.number place (line_after c.line xs)) (asker_by asker call (history c.line xs))

-- ---- One act

silent_marks : (T : Type 0) (l : Line) (reset : Reset) (s : LineStage) (asker : Option Asker) (holder : Option ℕ) → IsOwn asker holder (marks {T = T} l reset s).told
silent_marks T l reset line.Idle asker holder = tt
silent_marks T l reset (line.Sending begun) asker holder = tt
silent_marks T l reset line.Reading asker holder = tt
silent_marks T l reset line.Cancelling asker holder = tt
silent_marks T l reset (line.Broken fault) asker holder = tt

silent_asks : (T : Type 0) (l : Line) (s : LineStage) (asker : Option Asker) (holder : Option ℕ) → IsOwn asker holder (asks {T = T} l s).told
silent_asks T l line.Idle asker holder = tt
silent_asks T l (line.Sending begun) asker holder = tt
silent_asks T l line.Reading asker holder = tt
silent_asks T l line.Cancelling asker holder = tt
silent_asks T l (line.Broken fault) asker holder = tt

silent_sends : (T : Type 0) (l : Line) (last : Bool) (s : LineStage) (asker : Option Asker) (holder : Option ℕ) → IsOwn asker holder (sends {T = T} l last s).told
silent_sends T l last line.Idle asker holder = tt
silent_sends T l last (line.Sending begun) asker holder = tt
silent_sends T l last line.Reading asker holder = tt
silent_sends T l last line.Cancelling asker holder = tt
silent_sends T l last (line.Broken fault) asker holder = tt

silent_cancels : (T : Type 0) (l : Line) (s : LineStage) (asker : Option Asker) (holder : Option ℕ) → IsOwn asker holder (cancels {T = T} l s).told
silent_cancels T l line.Idle asker holder = tt
silent_cancels T l (line.Sending false) asker holder = tt
silent_cancels T l (line.Sending true) asker holder = tt
silent_cancels T l line.Reading asker holder = tt
silent_cancels T l line.Cancelling asker holder = tt
silent_cancels T l (line.Broken fault) asker holder = tt

silent_loses : (T : Type 0) (l : Line) (s : LineStage) (asker : Option Asker) (holder : Option ℕ) → IsOwn asker holder (line_loses {T = T} l s).told
silent_loses T l line.Idle asker holder = tt
silent_loses T l (line.Sending begun) asker holder = tt
silent_loses T l line.Reading asker holder = tt
silent_loses T l line.Cancelling asker holder = tt
silent_loses T l (line.Broken fault) asker holder = tt

-- where it was idle it is idle behind a mark
idle_marked : (T : Type 0) (l : Line) (reset : Reset) (place : Place) (asker : Option Asker) (s : LineStage) → l.stage ≡ s → s ≡ line.Idle
    → OwnedAt (marks {T = T} l reset s).line.stage place (marks {T = T} l reset s).line.asked asker
idle_marked T l reset place asker line.Idle e f = subst (λ (k : LineStage). OwnedAt k place l.asked asker) (sym e) tt
idle_marked T l reset place asker (line.Sending begun) e f = absurd (let u : ⊥ = cc in u)
idle_marked T l reset place asker line.Reading e f = absurd (let u : ⊥ = cc in u)
idle_marked T l reset place asker line.Cancelling e f = absurd (let u : ⊥ = cc in u)
idle_marked T l reset place asker (line.Broken fault) e f = absurd (let u : ⊥ = cc in u)

pub marked_keeps : {T : Type 0} (call : Call T) (c : Seat) (place : Place) (reset : Reset) → is_idle c.line.stage ≡ true
    → ((asker : Option Asker) (ds : List (Done T)) → asker_by asker call ds ≡ asker)
    → Keeps call c (Some place) (line.Mark reset ∷ [])
marked_keeps {T} call c place reset idle same = record {
  own = λ asker h. (silent_marks T c.line reset c.line.stage asker (lease_in c.place), tt);
  next = λ asker h.
      let l = (line_turn {T = T} c.line (line.Mark reset)).line in
      subst (λ (a : Option Asker). OwnedAt l.stage place l.asked a) (sym (same asker (history c.line (line.Mark reset ∷ []))))
      (idle_marked T c.line reset place asker c.line.stage refl (idle_stage c.line.stage idle));
}

-- a request that is asked is the lease's
asked_owned : (T : Type 0) (l : Line) (place : Place) (lease : ℕ) (asker : Option Asker) (s : LineStage) → l.stage ≡ s → lease_in place ≡ Some lease → OwnedAt s place l.asked asker
    → OwnedAt (asks {T = T} l s).line.stage place (asks {T = T} l s).line.asked (asked_in lease asker (asks {T = T} l s).answer)
asked_owned T l place lease asker line.Idle e is h = (lease, is, refl)
asked_owned T l place lease asker (line.Sending begun) e is h = subst (λ (k : LineStage). OwnedAt k place l.asked asker) (sym e) h
asked_owned T l place lease asker line.Reading e is h = subst (λ (k : LineStage). OwnedAt k place l.asked asker) (sym e) h
asked_owned T l place lease asker line.Cancelling e is h = subst (λ (k : LineStage). OwnedAt k place l.asked asker) (sym e) h
asked_owned T l place lease asker (line.Broken fault) e is h = subst (λ (k : LineStage). OwnedAt k place l.asked asker) (sym e) h

pub ask_keeps : {T : Type 0} (lease : ℕ) (c : Seat) → lease_in c.place ≡ Some lease → Keeps {T = T} (calls.Ask lease) c (Some c.place) (line.Ask ∷ [])
ask_keeps {T} lease c is = record {
  own = λ asker h. (silent_asks T c.line c.line.stage asker (lease_in c.place), tt);
  next = λ asker h. asked_owned T c.line c.place lease asker c.line.stage refl is h;
}

-- sending keeps whose it is
sent_owned_by : (T : Type 0) (l : Line) (last : Bool) (place : Place) (asker : Option Asker) (s : LineStage) → l.stage ≡ s → OwnedAt s place l.asked asker
    → OwnedAt (sends {T = T} l last s).line.stage place (sends {T = T} l last s).line.asked asker
sent_owned_by T l last place asker line.Idle e h = subst (λ (k : LineStage). OwnedAt k place l.asked asker) (sym e) h
sent_owned_by T l false place asker (line.Sending begun) e h = h
sent_owned_by T l true place asker (line.Sending begun) e h = h
sent_owned_by T l last place asker line.Reading e h = subst (λ (k : LineStage). OwnedAt k place l.asked asker) (sym e) h
sent_owned_by T l last place asker line.Cancelling e h = subst (λ (k : LineStage). OwnedAt k place l.asked asker) (sym e) h
sent_owned_by T l last place asker (line.Broken fault) e h = subst (λ (k : LineStage). OwnedAt k place l.asked asker) (sym e) h

abbrev OwnedLine : Line → Place → Option Asker → Type 0
OwnedLine l place asker = OwnedAt l.stage place l.asked asker

packets_owned : (T : Type 0) (l : Line) (count : ℕ) (rest : List (Act T)) (place : Place) (asker : Option Asker) → OwnedLine l place asker
    → ((k : Line) → OwnedLine k place asker → AreOwn asker (lease_in place) (history k rest) × OwnedLine (line_after k rest) place asker)
    → AreOwn asker (lease_in place) (history l (packets count ++ rest)) × OwnedLine (line_after l (packets count ++ rest)) place asker
packets_owned T l zero rest place asker h f = f l h
packets_owned T l (suc count) rest place asker h f =
    let k = packets_owned T (line_turn {T = T} l (line.Send false)).line count rest place asker (sent_owned_by T l false place asker l.stage refl h) f in
    ((silent_sends T l false l.stage asker (lease_in place), k.0), k.1)

packets_alone : (T : Type 0) (l : Line) (count : ℕ) (place : Place) (asker : Option Asker) → OwnedLine l place asker
    → AreOwn asker (lease_in place) (history {T = T} l (packets count)) × OwnedLine (line_after {T = T} l (packets count)) place asker
packets_alone T l zero place asker h = (tt, h)
packets_alone T l (suc count) place asker h =
    let k = packets_alone T (line_turn {T = T} l (line.Send false)).line count place asker (sent_owned_by T l false place asker l.stage refl h) in
    ((silent_sends T l false l.stage asker (lease_in place), k.0), k.1)

last_owned : (T : Type 0) (place : Place) (asker : Option Asker) (k : Line) → OwnedLine k place asker
    → AreOwn asker (lease_in place) (history {T = T} k (line.Send true ∷ [])) × OwnedLine (line_after {T = T} k (line.Send true ∷ [])) place asker
last_owned T place asker k h = ((silent_sends T k true k.stage asker (lease_in place), tt), sent_owned_by T k true place asker k.stage refl h)

pub put_keeps : (T : Type 0) (lease count : ℕ) (c : Seat) → Keeps {T = T} (calls.Put lease count) c (Some c.place) (packets count)
put_keeps T lease count c = record {
  own = λ asker h. (packets_alone T c.line count c.place asker h).0;
  next = λ asker h. (packets_alone T c.line count c.place asker h).1;
}

pub finish_keeps : (T : Type 0) (lease count : ℕ) (c : Seat) → Keeps {T = T} (calls.Finish lease count) c (Some c.place) (packets count ++ line.Send true ∷ [])
finish_keeps T lease count c = record {
  own = λ asker h. (packets_owned T c.line count (line.Send true ∷ []) c.place asker h (last_owned T c.place asker)).0;
  next = λ asker h. (packets_owned T c.line count (line.Send true ∷ []) c.place asker h (last_owned T c.place asker)).1;
}

-- behind a cancel nobody reads
cancelled_owned : (T : Type 0) (l : Line) (place : Place) (asker : Option Asker) (s : LineStage) → l.stage ≡ s → OwnedAt (cancels {T = T} l s).line.stage place (cancels {T = T} l s).line.asked asker
cancelled_owned T l place asker line.Idle e = subst (λ (k : LineStage). OwnedAt k place l.asked asker) (sym e) tt
cancelled_owned T l place asker (line.Sending false) e = tt
cancelled_owned T l place asker (line.Sending true) e = tt
cancelled_owned T l place asker line.Reading e = tt
cancelled_owned T l place asker line.Cancelling e = subst (λ (k : LineStage). OwnedAt k place l.asked asker) (sym e) tt
cancelled_owned T l place asker (line.Broken fault) e = subst (λ (k : LineStage). OwnedAt k place l.asked asker) (sym e) tt

cancel_next : (T : Type 0) (c : Seat) (place : Option Place) (asker : Option Asker) → OwnedIn (seat_behind c.number place (line_turn {T = T} c.line line.Cancel).line) asker
cancel_next T c None asker = tt
cancel_next T c (Some place) asker = cancelled_owned T c.line place asker c.line.stage refl

pub cancel_keeps : {T : Type 0} (call : Call T) (c : Seat) (place : Option Place) → ((asker : Option Asker) (ds : List (Done T)) → asker_by asker call ds ≡ asker)
    → Keeps call c place (line.Cancel ∷ [])
cancel_keeps {T} call c place same = record {
  own = λ asker h. (silent_cancels T c.line c.line.stage asker (lease_in c.place), tt);
  next = λ asker h.
      subst (λ (a : Option Asker). OwnedIn (seat_behind c.number place (line_turn {T = T} c.line line.Cancel).line) a) (sym (same asker (history c.line (line.Cancel ∷ []))))
      (cancel_next T c place asker);
}

pub lost_keeps : (T : Type 0) (number : ℕ) (c : Seat) → Keeps {T = T} (calls.Lost number) c None (line.Lose ∷ [])
lost_keeps T number c = record {
  own = λ asker h. (silent_loses T c.line c.line.stage asker (lease_in c.place), tt);
  next = λ asker h. tt;
}

-- ---- No act

idle_owned : (s : LineStage) (place : Place) (asked : ℕ) (asker : Option Asker) → s ≡ line.Idle → OwnedAt s place asked asker
idle_owned s place asked asker e = subst (λ (k : LineStage). OwnedAt k place asked asker) (sym e) tt

pub kept_keeps : {T : Type 0} (lease : ℕ) (c : Seat) (place : Place) → is_idle c.line.stage ≡ true → Keeps {T = T} (calls.Keep lease) c (Some place) []
kept_keeps lease c place idle = record {
  own = λ asker h. tt;
  next = λ asker h. idle_owned c.line.stage place c.line.asked asker (idle_stage c.line.stage idle);
}

clean_next : (clean : Bool) (number asked : ℕ) (l : Line) (asker : Option Asker) (place : Option Place) (s : LineStage) → l.stage ≡ s → rests_clean clean s ≡ Some place
    → OwnedIn (seat_behind number place l) asker
clean_next clean number asked l asker None s e f = tt
clean_next clean number asked l asker (Some place) line.Idle e f = idle_owned l.stage place l.asked asker e
clean_next clean number asked l asker (Some place) (line.Sending begun) e f = absurd (let u : ⊥ = cc in u)
clean_next clean number asked l asker (Some place) line.Reading e f = absurd (let u : ⊥ = cc in u)
clean_next clean number asked l asker (Some place) line.Cancelling e f = absurd (let u : ⊥ = cc in u)
clean_next clean number asked l asker (Some place) (line.Broken fault) e f = absurd (let u : ⊥ = cc in u)

clean_next_at : (c : Seat) (asker : Option Asker) (place : Option Place) (at : Place) → clean_place at c.line ≡ Some place → OwnedIn (seat_behind c.number place c.line) asker
clean_next_at c asker place (Leased lease) e = absurd (let u : ⊥ = cc in u)
clean_next_at c asker place (Cleaning lease) e = clean_next (is_clean c.line.heard.mark c.line.heard.descriptor) c.number c.line.asked c.line asker place c.line.stage refl e
clean_next_at c asker place (Kept ticket) e = absurd (let u : ⊥ = cc in u)
clean_next_at c asker place Free e = absurd (let u : ⊥ = cc in u)
clean_next_at c asker place Draining e = absurd (let u : ⊥ = cc in u)

pub cleaned_keeps : {T : Type 0} (lease : ℕ) (c : Seat) (place : Option Place) → clean_place c.place c.line ≡ Some place → Keeps {T = T} (calls.Cleaned lease) c place []
cleaned_keeps lease c place e = record { own = λ asker h. tt; next = λ asker h. clean_next_at c asker place c.place e }

-- a connection that is kept has no request underway
not_held : {A : Type 0} (ticket asked : ℕ) (at : Place) (asker : Option Asker) → keeps ticket at ≡ true → Held at asked asker → A
not_held ticket asked (Leased lease) asker e h = absurd (let u : ⊥ = cc in u)
not_held ticket asked (Cleaning lease) asker e h = absurd (let u : ⊥ = cc in u)
not_held ticket asked (Kept other) asker e h = absurd (let f = h.1 in let u : ⊥ = cc in u)
not_held ticket asked Free asker e h = absurd (let u : ⊥ = cc in u)
not_held ticket asked Draining asker e h = absurd (let u : ⊥ = cc in u)

abandon_next : (ticket : ℕ) (c : Seat) (asker : Option Asker) (s : LineStage) → c.line.stage ≡ s → keeps ticket c.place ≡ true → OwnedAt s c.place c.line.asked asker
    → OwnedIn (seat_behind c.number (rests s) c.line) asker
abandon_next ticket c asker line.Idle e k h = idle_owned c.line.stage Free c.line.asked asker e
abandon_next ticket c asker (line.Sending begun) e k h = not_held ticket c.line.asked c.place asker k h
abandon_next ticket c asker line.Reading e k h = not_held ticket c.line.asked c.place asker k h
abandon_next ticket c asker line.Cancelling e k h = subst (λ (s : LineStage). OwnedAt s Draining c.line.asked asker) (sym e) tt
abandon_next ticket c asker (line.Broken fault) e k h = tt

pub abandon_keeps : {T : Type 0} (ticket : ℕ) (c : Seat) → keeps ticket c.place ≡ true → Keeps {T = T} (calls.Abandon ticket) c (rests c.line.stage) []
abandon_keeps ticket c k = record { own = λ asker h. tt; next = λ asker h. abandon_next ticket c asker c.line.stage refl k h }

-- ---- What comes

drained_held : (place : Place) (s : LineStage) (asked : ℕ) (asker : Option Asker) → Held place asked asker → Held (drained place s) asked asker
drained_held (Leased lease) s asked asker h = h
drained_held (Cleaning lease) s asked asker h = h
drained_held (Kept ticket) s asked asker h = absurd (let f = h.1 in let u : ⊥ = cc in u)
drained_held Free s asked asker h = absurd (let f = h.1 in let u : ⊥ = cc in u)
drained_held Draining s asked asker h = absurd (let f = h.1 in let u : ⊥ = cc in u)

-- what a turn tells, and where it leaves the connection
abbrev Follows : {T : Type 0} → Place → Option Asker → line.Turn T → Type 0
Follows place asker t = IsOwn asker (lease_in place) t.told × OwnedAt t.line.stage (drained place t.line.stage) t.line.asked asker

reads_follow : {T : Type 0} (l : Line) (place : Place) (asker : Option Asker) (part : Part T) (ends : Bool) (u : Heard) (x : Result Heard ListenFault) → Held place l.asked asker
    → Follows place asker (reads l part ends u x)
reads_follow l place asker part ends u (Err fault) h = (tt, tt)
reads_follow l place asker part false u (Ok heard) h = ((h.0, h.2, h.1), drained_held place line.Reading l.asked asker h)
reads_follow l place asker part true u (Ok heard) h = ((h.0, h.2, h.1), tt)

skips_to_end_follow : (T : Type 0) (l : Line) (place : Place) (asker : Option Asker) (heard : Heard) (done : FinalDone) → Follows place asker (skips_to_end {T = T} l heard done)
skips_to_end_follow T l place asker heard Awaited = (tt, tt)
skips_to_end_follow T l place asker heard Answered = (tt, tt)
skips_to_end_follow T l place asker heard Acknowledged = (tt, tt)

skips_follow : (T : Type 0) (l : Line) (place : Place) (asker : Option Asker) (ends : Bool) (u : Heard) (x : Result Heard ListenFault) → Follows place asker (skips {T = T} l ends u x)
skips_follow T l place asker ends u (Err fault) = (tt, tt)
skips_follow T l place asker false u (Ok heard) = (tt, tt)
skips_follow T l place asker true u (Ok heard) = skips_to_end_follow T l place asker heard heard.done

comes_follow : {T : Type 0} (l : Line) (place : Place) (asker : Option Asker) (part : Part T) (s : LineStage) → OwnedAt s place l.asked asker → Follows place asker (comes l part s)
comes_follow l place asker part line.Idle h = (tt, tt)
comes_follow l place asker part (line.Sending begun) h = (tt, tt)
comes_follow l place asker part line.Reading h =
    reads_follow l place asker part (is_end part.close) (heard_until false l.heard part.items) (hear_part false l.heard part) h
comes_follow {T} l place asker part line.Cancelling h =
    skips_follow T l place asker (is_end part.close) (heard_until true l.heard part.items) (hear_part true l.heard part)
comes_follow l place asker part (line.Broken fault) h = (tt, tt)

pub came_keeps : {T : Type 0} (number : ℕ) (part : Part T) (c : Seat)
    → Keeps (calls.Came number part) c (Some (drained c.place (line_after c.line (line.Come part ∷ [])).stage)) (line.Come part ∷ [])
came_keeps number part c = record {
  own = λ asker h. ((comes_follow c.line c.place asker part c.line.stage h).0, tt);
  next = λ asker h. (comes_follow c.line c.place asker part c.line.stage h).1;
}
