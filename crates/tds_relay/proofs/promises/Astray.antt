-- Attentions go out where an application cancels or leaves, and nowhere else.
use Rattle.std.proofs.Common.{◌≡◌, ◌==◌, ◌<◌, ◌+◌, ℕ, zero, suc, Bool, true, false, List, [], ◌∷◌, ◌++◌, refl, arith}
use Rattle.std.specs.Prelude.{Option, Some, None, if◌then◌else◌, Result, Ok, Err, nat_lt, length}
use Rattle.std.proofs.lemmas.Bool.{eqb-true}
use Rattle.tds_packet.specs.declared.status.Reset.TheVariants.{Full, KeepTransaction}
use Rattle.tds_client.specs.declared.fault.ClientRefusal.{ClientRefusal}
use Rattle.tds_wire.specs.declared.told.Token.{Token}
use Rattle.tds_service.specs.Parts.{Part, is_end, hear_part, heard_until}
use Rattle.tds_client.specs.declared.heard.Heard.{Heard}
use Rattle.tds_client.specs.declared.heard.FinalDone.{FinalDone}
use Rattle.tds_client.specs.declared.heard.FinalDone.TheVariants.{Awaited, Answered, Acknowledged}
use Rattle.tds_listen.specs.declared.fault.ListenFault.{ListenFault}
use Rattle.tds_service.specs.Line as line
use Rattle.tds_service.specs.Line.{Line, Act, LineStage, Packet, line_turn, marks, asks, sends, cancels, comes, reads, skips, skips_to_end, line_loses}
use Rattle.tds_service.specs.History.{Done, history}
use Rattle.tds_service.specs.Refusing.{packets, refusal_in}
use Rattle.tds_service.specs.Service as calls
use Rattle.tds_service.specs.Service.{Service, Call, ServiceStep, Seat, find_by, has_lease, has_ticket, has_number, is_lendable, is_idle, may_keep, clean_place, acts_unless, rests_cleaned, opens, does, nothing, step, steps, on, on_one}
use Rattle.tds_service.specs.Promises.{attentions, attentions_in}

-- ---- One connection

abbrev IsNoCancel : {T : Type 0} → Act T → Type 0
IsNoCancel (line.Mark reset) = Unit {0}
IsNoCancel line.Ask = Unit {0}
IsNoCancel (line.Send last) = Unit {0}
IsNoCancel line.Cancel = ⊥
IsNoCancel (line.Come part) = Unit {0}
IsNoCancel line.Lose = Unit {0}

abbrev AreNoCancels : List (Act Token) → Type 0
AreNoCancels [] = Unit {0}
AreNoCancels (act ∷ acts) = IsNoCancel act × AreNoCancels acts

reads_quiet : (l : Line) (part : Part Token) (ends : Bool) (until : Heard) (r : Result Heard ListenFault) → attentions_in (reads l part ends until r).sent ≡ 0
reads_quiet l part ends until (Err fault) = refl
reads_quiet l part false until (Ok heard) = refl
reads_quiet l part true until (Ok heard) = refl

skips_end_quiet : (l : Line) (heard : Heard) (done : FinalDone) → attentions_in (skips_to_end {T = Token} l heard done).sent ≡ 0
skips_end_quiet l heard Awaited = refl
skips_end_quiet l heard Answered = refl
skips_end_quiet l heard Acknowledged = refl

skips_quiet : (l : Line) (ends : Bool) (until : Heard) (r : Result Heard ListenFault) → attentions_in (skips {T = Token} l ends until r).sent ≡ 0
skips_quiet l ends until (Err fault) = refl
skips_quiet l false until (Ok heard) = refl
skips_quiet l true until (Ok heard) = skips_end_quiet l heard heard.done

turn_quiet : (l : Line) (act : Act Token) (stage : LineStage) → l.stage ≡ stage → IsNoCancel act → attentions_in (line_turn l act).sent ≡ 0
turn_quiet l (line.Mark reset) line.Idle e h = rw e refl
turn_quiet l (line.Mark reset) (line.Sending begun) e h = rw e refl
turn_quiet l (line.Mark reset) line.Reading e h = rw e refl
turn_quiet l (line.Mark reset) line.Cancelling e h = rw e refl
turn_quiet l (line.Mark reset) (line.Broken fault) e h = rw e refl
turn_quiet l line.Ask line.Idle e h = rw e refl
turn_quiet l line.Ask (line.Sending begun) e h = rw e refl
turn_quiet l line.Ask line.Reading e h = rw e refl
turn_quiet l line.Ask line.Cancelling e h = rw e refl
turn_quiet l line.Ask (line.Broken fault) e h = rw e refl
turn_quiet l (line.Send last) line.Idle e h = rw e refl
turn_quiet l (line.Send true) (line.Sending begun) e h = rw e refl
turn_quiet l (line.Send false) (line.Sending begun) e h = rw e refl
turn_quiet l (line.Send last) line.Reading e h = rw e refl
turn_quiet l (line.Send last) line.Cancelling e h = rw e refl
turn_quiet l (line.Send last) (line.Broken fault) e h = rw e refl
turn_quiet l line.Cancel stage e h = absurd h
turn_quiet l (line.Come part) line.Idle e h = rw e refl
turn_quiet l (line.Come part) (line.Sending begun) e h = rw e refl
turn_quiet l (line.Come part) line.Reading e h = rw e (reads_quiet l part (is_end part.close) (heard_until false l.heard part.items) (hear_part false l.heard part))
turn_quiet l (line.Come part) line.Cancelling e h = rw e (skips_quiet l (is_end part.close) (heard_until true l.heard part.items) (hear_part true l.heard part))
turn_quiet l (line.Come part) (line.Broken fault) e h = rw e refl
turn_quiet l line.Lose line.Idle e h = rw e refl
turn_quiet l line.Lose (line.Sending begun) e h = rw e refl
turn_quiet l line.Lose line.Reading e h = rw e refl
turn_quiet l line.Lose line.Cancelling e h = rw e refl
turn_quiet l line.Lose (line.Broken fault) e h = rw e refl

history_quiet : (l : Line) (acts : List (Act Token)) → AreNoCancels acts → attentions (history l acts) ≡ 0
history_quiet l [] h = refl
history_quiet l (act ∷ acts) h =
    let one = turn_quiet l act l.stage refl h.0 in
    let others = history_quiet (line_turn l act).line acts h.1 in
    omega (arith, one, others)

-- ---- One call

unless_quiet : (s : Service) (test : Seat → Bool) (c : Seat) (all : List (Act Token)) (why : Option ClientRefusal) → AreNoCancels all → attentions (acts_unless s test c all why).dones ≡ 0
unless_quiet s test c all None h = history_quiet c.line all h
unless_quiet s test c all (Some why) h = refl

acts_quiet : (s : Service) (test : Seat → Bool) (first : Act Token) (all : List (Act Token)) (o : Option Seat) → AreNoCancels all → attentions (calls.acts s test first all o).dones ≡ 0
acts_quiet s test first all None h = refl
acts_quiet s test first all (Some c) h = unless_quiet s test c all (refusal_in (line_turn c.line first).answer) h

packets_none : (count : ℕ) → AreNoCancels (packets count)
packets_none zero = tt
packets_none (suc count) = (tt, packets_none count)

ended_none : (count : ℕ) → AreNoCancels (packets count ++ line.Send true ∷ [])
ended_none zero = (tt, tt)
ended_none (suc count) = (tt, ended_none count)

if_quiet : (b : Bool) (x y : ServiceStep Token) → attentions x.dones ≡ 0 → attentions y.dones ≡ 0 → attentions (if b then x else y).dones ≡ 0
if_quiet true x y h g = h
if_quiet false x y h g = g

cleaned_quiet : (s : Service) (test : Seat → Bool) (c : Seat) (o : Option (Option calls.Place)) → attentions (rests_cleaned {T = Token} s test c o).dones ≡ 0
cleaned_quiet s test c None = refl
cleaned_quiet s test c (Some place) = refl

lends_quiet : (s : Service) (o : Option Seat) (b : Bool) → nat_lt (length s.seats) s.max ≡ b → attentions (calls.lends {T = Token} s o).dones ≡ 0
lends_quiet s None true e = rw e refl
lends_quiet s None false e = rw e refl
lends_quiet s (Some c) b e = history_quiet c.line (line.Mark Full ∷ []) (tt, tt)

resumes_quiet : (s : Service) (test : Seat → Bool) (o : Option Seat) → attentions (calls.resumes {T = Token} s test o).dones ≡ 0
resumes_quiet s test None = refl
resumes_quiet s test (Some c) =
    if_quiet (is_idle c.line.stage) (does s (suc s.given) test c (Some (calls.Leased (suc s.given))) (line.Mark KeepTransaction ∷ []) (calls.Lent (suc s.given) c.number true)) (nothing s calls.NotNow)
    (history_quiet c.line (line.Mark KeepTransaction ∷ []) (tt, tt)) refl

cleans_quiet : (s : Service) (test : Seat → Bool) (o : Option Seat) → attentions (calls.cleans {T = Token} s test o).dones ≡ 0
cleans_quiet s test None = refl
cleans_quiet s test (Some c) =
    if_quiet (is_lendable c) (does s (suc s.given) test c (Some (calls.Cleaning (suc s.given))) (line.Mark Full ∷ []) (calls.Lent (suc s.given) c.number true)) (nothing s calls.NotNow)
    (history_quiet c.line (line.Mark Full ∷ []) (tt, tt)) refl

cleaned_all_quiet : (s : Service) (test : Seat → Bool) (o : Option Seat) → attentions (calls.cleaned {T = Token} s test o).dones ≡ 0
cleaned_all_quiet s test None = refl
cleaned_all_quiet s test (Some c) = cleaned_quiet s test c (clean_place c.place c.line)

keeps_quiet : (s : Service) (test : Seat → Bool) (o : Option Seat) → attentions (calls.keeps_it {T = Token} s test o).dones ≡ 0
keeps_quiet s test None = refl
keeps_quiet s test (Some c) = if_quiet (may_keep c) (does {T = Token} s (suc s.given) test c (Some (calls.Kept (suc s.given))) [] (calls.Ticket (suc s.given))) (nothing s calls.NotNow) refl refl

abandons_quiet : (s : Service) (test : Seat → Bool) (o : Option Seat) → attentions (calls.abandons {T = Token} s test o).dones ≡ 0
abandons_quiet s test None = refl
abandons_quiet s test (Some c) = refl

hears_quiet : (s : Service) (test : Seat → Bool) (part : Part Token) (o : Option Seat) → attentions (calls.hears s test part o).dones ≡ 0
hears_quiet s test part None = refl
hears_quiet s test part (Some c) = history_quiet c.line (line.Come part ∷ []) (tt, tt)

loses_quiet : (s : Service) (test : Seat → Bool) (o : Option Seat) → attentions (calls.loses {T = Token} s test o).dones ≡ 0
loses_quiet s test None = refl
loses_quiet s test (Some c) = history_quiet c.line (line.Lose ∷ []) (tt, tt)

abbrev pub IsQuiet : Call Token → Type 0
IsQuiet calls.Lease = Unit {0}
IsQuiet (calls.Resume ticket) = Unit {0}
IsQuiet (calls.Ask lease) = Unit {0}
IsQuiet (calls.Put lease count) = Unit {0}
IsQuiet (calls.Finish lease count) = Unit {0}
IsQuiet (calls.Cancel lease) = ⊥
IsQuiet (calls.GiveBack lease) = ⊥
IsQuiet (calls.Clean number) = Unit {0}
IsQuiet (calls.Cleaned lease) = Unit {0}
IsQuiet (calls.Keep lease) = Unit {0}
IsQuiet (calls.Abandon ticket) = Unit {0}
IsQuiet (calls.Came number part) = Unit {0}
IsQuiet (calls.Lost number) = Unit {0}
IsQuiet (calls.Without call) = Unit {0}

pub call_quiet : (s : Service) (call : Call Token) → IsQuiet call → attentions (step s call).dones ≡ 0
call_quiet s calls.Lease h = lends_quiet s (find_by is_lendable s.seats) (nat_lt (length s.seats) s.max) refl
call_quiet s (calls.Resume ticket) h = resumes_quiet s (has_ticket ticket) (find_by (has_ticket ticket) s.seats)
call_quiet s (calls.Ask lease) h = acts_quiet s (has_lease lease) line.Ask (line.Ask ∷ []) (find_by (has_lease lease) s.seats) (tt, tt)
call_quiet s (calls.Put lease count) h = acts_quiet s (has_lease lease) (line.Send false) (packets count) (find_by (has_lease lease) s.seats) (packets_none count)
call_quiet s (calls.Finish lease count) h =
    acts_quiet s (has_lease lease) (line.Send true) (packets count ++ line.Send true ∷ []) (find_by (has_lease lease) s.seats) (ended_none count)
call_quiet s (calls.Cancel lease) h = absurd h
call_quiet s (calls.GiveBack lease) h = absurd h
call_quiet s (calls.Clean number) h = cleans_quiet s (has_number number) (find_by (has_number number) s.seats)
call_quiet s (calls.Cleaned lease) h = cleaned_all_quiet s (has_lease lease) (find_by (has_lease lease) s.seats)
call_quiet s (calls.Keep lease) h = keeps_quiet s (has_lease lease) (find_by (has_lease lease) s.seats)
call_quiet s (calls.Abandon ticket) h = abandons_quiet s (has_ticket ticket) (find_by (has_ticket ticket) s.seats)
call_quiet s (calls.Came number part) h = hears_quiet s (has_number number) part (find_by (has_number number) s.seats)
call_quiet s (calls.Lost number) h = loses_quiet s (has_number number) (find_by (has_number number) s.seats)
call_quiet s (calls.Without call) h = refl

-- ---- Calls, one behind the other

abbrev pub AreQuiet : List (Call Token) → Type 0
AreQuiet [] = Unit {0}
AreQuiet (call ∷ all) = IsQuiet call × AreQuiet all

attentions_both : (ds es : List (Done Token)) → attentions (ds ++ es) ≡ attentions ds + attentions es
attentions_both [] es = let u : attentions es ≡ 0 + attentions es = omega arith in u
attentions_both (d ∷ ds) es = let h = attentions_both ds es in omega (arith, h)

pub here_or_not : (b : Bool) (ds es : List (Done Token)) → attentions ds ≡ 0 → attentions es ≡ 0 → attentions (on_one b ds es) ≡ 0
here_or_not true ds es h g = let both = attentions_both ds es in omega (arith, both, h, g)
here_or_not false ds es h g = g

pub all_quiet : (n : ℕ) (s : Service) (all : List (Call Token)) → AreQuiet all → attentions (on n (steps s all)) ≡ 0
all_quiet n s [] h = refl
all_quiet n s (call ∷ all) h =
    here_or_not ((step s call).number == n) (step s call).dones (on n (steps (step s call).service all)) (call_quiet s call h.0) (all_quiet n (step s call).service all h.1)

first_by : (n m : ℕ) (ds es : List (Done Token)) (b : Bool) → (m == n) ≡ b → attentions es ≡ 0 → 0 < attentions (on_one b ds es) → (m ≡ n) × (0 < attentions ds)
first_by n m ds es true e none lt = let both = attentions_both ds es in (eqb-true m n e, omega (arith, both, none))
first_by n m ds es false e none lt = absurd (let u : ⊥ = omega (arith, none) in u)

-- What goes out first alone.
pub first_alone : (n : ℕ) (s : Service) (call : Call Token) (all : List (Call Token)) → ((t : Service) → attentions (on n (steps t all)) ≡ 0) → 0 < attentions (on n (steps s (call ∷ all)))
    → ((step s call).number ≡ n) × (0 < attentions (step s call).dones)
first_alone n s call all quiet lt = first_by n (step s call).number (step s call).dones (on n (steps (step s call).service all)) ((step s call).number == n) refl (quiet (step s call).service) lt
