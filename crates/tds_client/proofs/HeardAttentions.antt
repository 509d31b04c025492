-- An attention is out once, until it is acknowledged, and nothing is told meanwhile: whoever reads the answers.
use Rattle.std.proofs.Common.{◌≡◌, ◌∙◌, ◌≤◌, ℕ, ◌+◌, Bool, true, false, cond, List, [], ◌∷◌, ◌++◌, refl, sym, ap, subst, arith}
use Rattle.std.specs.Prelude.{Result, Ok, Err}
use Rattle.tds_client.specs.declared.fault.ClientFault.{ClientFault}
use Rattle.tds_client.specs.declared.fault.ClientFault.TheVariants as faults
use Rattle.tds_client.specs.declared.heard.Heard.{Heard}
use Rattle.tds_client.specs.declared.heard.FinalDone.{FinalDone}
use Rattle.tds_client.specs.declared.heard.FinalDone.TheVariants.{Awaited, Answered, Acknowledged}
use Rattle.tds_client.specs.declared.sign.Rules.{Rules}
use Rattle.tds_client.specs.declared.sign.Sign.{Sign}
use Rattle.tds_client.specs.Acts.{Act, MarkReset, Start, Send, Cancel, Lose, Stream, Hear, heard_turn, act, behind, put_out, acted, told_at, told_by}
use Rattle.tds_client.specs.Calls as calls
use Rattle.tds_client.specs.Calls.{Turn, turn, silent}
use Rattle.tds_client.specs.Hearing.{◌>>=◌, hear_sign, may_end}
use Rattle.tds_client.specs.Machine.{ItemMove, Token, MessageEnd, signed_in, ended_in, with_heard, going_on, end_read, end_skipped, tells}
use Rattle.tds_client.specs.Promises.{Packet, ArePackets, one_if, attentions, acknowledgements, AtMostAttentions, LeavesBy}
use Rattle.tds_client.specs.Session.{ClientSession, Stage, Idle, Sending, Reading, Cancelling, Broken, marked, unless_idle, lost_stage}
use Rattle.tds_client.specs.Sending.{started, sent_in, cancelled_in}
use Rattle.tds_client.specs.Streams.{Open, Put, Finish, opened, put_in, finished_in}
use Rattle.tds_client.specs.Taking.{behind_message}
use Rattle.tds_client.proofs.Attentions.{IsCalled, Keeps, Leaves, keeps, quiet, breaks, out, at_most_one, way_out}
use Rattle.tds_client.proofs.Spelled.{joined, counted_both}

abbrev Answer : Type 0
Answer = Result ItemMove ClientFault

-- ---- What is heard appends nothing

module _ (size : ℕ) (s : ClientSession) (stage : Stage) (h : IsCalled size s) (e : s.stage ≡ stage) where
  sign_keeps : (r : Result Heard ClientFault) → Keeps size (out stage) (heard_turn s ((r >>= λ heard. Ok (with_heard s heard)) >>= λ next. Ok (going_on next)))
  sign_keeps (Ok heard) = quiet size (out stage) (with_heard s heard) h.size_is h.kind (omega (arith, ap out e))
  sign_keeps (Err fault) = breaks size s fault stage h

signs_keep : (size : ℕ) (s : ClientSession) (rules : Rules) (sign : Sign) (stage : Stage) → IsCalled size s → s.stage ≡ stage
    → Keeps size (out stage) (heard_turn s (signed_in rules stage s sign >>= λ next. Ok (going_on next)))
signs_keep size s rules sign Idle h e = breaks size s _ Idle h
signs_keep size s rules sign (Sending kind left before) h e = breaks size s _ (Sending kind left before) h
signs_keep size s rules sign Reading h e = sign_keeps size s Reading h e (hear_sign rules false s.heard sign)
signs_keep size s rules sign Cancelling h e = sign_keeps size s Cancelling h e (hear_sign rules true s.heard sign)
signs_keep size s rules sign (Broken fault) h e = breaks size s fault (Broken fault) h

skipped_keeps : (size : ℕ) (s : ClientSession) (done : FinalDone) → IsCalled size s → Keeps size 1 (heard_turn s (Ok (end_skipped s done)))
skipped_keeps size s Awaited h = quiet size 1 (behind_message s Cancelling s.heard) h.size_is tt (omega arith)
skipped_keeps size s Answered h = quiet size 1 (behind_message s Cancelling s.heard) h.size_is tt (omega arith)
skipped_keeps size s Acknowledged h = record { size_is = h.size_is; kind = tt; packets = []; spelled = refl; counted = omega arith }

end_keeps : (size : ℕ) (s : ClientSession) (stage : Stage) (move : ItemMove) (b : Bool) → IsCalled size s → Keeps size (out stage) (heard_turn s (Ok move))
    → Keeps size (out stage) (heard_turn s (cond {A = Answer} b (Ok move) (Err faults.NoFinalDone)))
end_keeps size s stage move true h k = k
end_keeps size s stage move false h k = breaks size s faults.NoFinalDone stage h

ends_keep : (size : ℕ) (s : ClientSession) (rules : Rules) (stage : Stage) → IsCalled size s → s.stage ≡ stage → Keeps size (out stage) (heard_turn s (ended_in rules stage s))
ends_keep size s rules Idle h e = breaks size s _ Idle h
ends_keep size s rules (Sending kind left before) h e = breaks size s _ (Sending kind left before) h
ends_keep size s rules Reading h e =
    end_keeps size s Reading (end_read s) (may_end rules false s.heard.done) h (quiet size 0 (behind_message s Idle s.heard) h.size_is tt (omega arith))
ends_keep size s rules Cancelling h e =
    end_keeps size s Cancelling (end_skipped s s.heard.done) (may_end rules true s.heard.done) h (skipped_keeps size s s.heard.done h)
ends_keep size s rules (Broken fault) h e = breaks size s fault (Broken fault) h

act_keeps : (size : ℕ) (s : ClientSession) (a : Act) → IsCalled size s → Keeps size (out s.stage) (act s a)
act_keeps size s (MarkReset reset) h = keeps size s (calls.MarkReset reset) h
act_keeps size s (Start request) h = keeps size s (calls.Start request) h
act_keeps size s Send h = keeps size s calls.Send h
act_keeps size s Cancel h = keeps size s calls.Cancel h
act_keeps size s Lose h = keeps size s calls.Lose h
act_keeps size s (Stream step) h = keeps size s (calls.Stream step) h
act_keeps size s (Hear rules (Token sign)) h = signs_keep size s rules sign s.stage h refl
act_keeps size s (Hear rules MessageEnd) h = ends_keep size s rules s.stage h refl

acted_is_called : (size : ℕ) (s : ClientSession) (a : Act) → IsCalled size s → IsCalled size (act s a).session
acted_is_called size s a h = let k = act_keeps size s a h in record { lawful = h.lawful; size_is = k.size_is; kind = k.kind }

pub behind_is_called : (size : ℕ) (s : ClientSession) (acts : List Act) → IsCalled size s → IsCalled size (behind s acts)
behind_is_called size s [] h = h
behind_is_called size s (a ∷ others) h = behind_is_called size (act s a).session others (acted_is_called size s a h)

-- what all of them append
record KeepAll (size : ℕ) (s : ClientSession) (acts : List Act) : Type 0 where
  packets : List Packet
  spelled : ArePackets size (put_out s acts) packets
  counted : attentions packets + out s.stage ≤ acknowledgements (acted s acts) + out (behind s acts).stage

keep_all : (size : ℕ) (s : ClientSession) (acts : List Act) → IsCalled size s → KeepAll size s acts
keep_all size s [] h = record { packets = []; spelled = refl; counted = omega arith }
keep_all size s (a ∷ others) h =
    let one = act_keeps size s a h in
    let all = keep_all size (act s a).session others (acted_is_called size s a h) in
    record {
      packets = one.packets ++ all.packets;
      spelled = joined size _ _ one.packets all.packets one.spelled all.spelled;
      counted = omega (arith, counted_both one.packets all.packets, one.counted, all.counted);
    }

pub never_twice : (size : ℕ) (s : ClientSession) (acts : List Act) → IsCalled size s → AtMostAttentions size (put_out s acts) (acknowledgements (acted s acts) + 1)
never_twice size s acts h =
    let all = keep_all size s acts h in
    record { packets = all.packets; spelled = all.spelled; bound = omega (arith, all.counted, at_most_one (behind s acts).stage) }

-- ---- The ways out of cancelling

sign_out : (s : ClientSession) (r : Result Heard ClientFault) → s.stage ≡ Cancelling → Leaves (heard_turn s ((r >>= λ heard. Ok (with_heard s heard)) >>= λ next. Ok (going_on next)))
sign_out s (Ok heard) e = subst (LeavesBy false) (sym e) refl
sign_out s (Err fault) e = refl

skipped_out : (s : ClientSession) (done : FinalDone) → Leaves (heard_turn s (Ok (end_skipped s done)))
skipped_out s Awaited = refl
skipped_out s Answered = refl
skipped_out s Acknowledged = refl

end_out : (s : ClientSession) (b : Bool) → Leaves (heard_turn s (cond {A = Answer} b (Ok (end_skipped s s.heard.done)) (Err faults.NoFinalDone)))
end_out s true = skipped_out s s.heard.done
end_out s false = refl

pub act_out : (s : ClientSession) (a : Act) → s.stage ≡ Cancelling → Leaves (act s a)
act_out s (MarkReset reset) e = way_out s (calls.MarkReset reset) e
act_out s (Start request) e = way_out s (calls.Start request) e
act_out s Send e = way_out s calls.Send e
act_out s Cancel e = way_out s calls.Cancel e
act_out s Lose e = way_out s calls.Lose e
act_out s (Stream step) e = way_out s (calls.Stream step) e
act_out s (Hear rules (Token sign)) e =
    subst (λ (x : Stage). Leaves (heard_turn s (signed_in rules x s sign >>= λ next. Ok (going_on next)))) (sym e) (sign_out s (hear_sign rules true s.heard sign) e)
act_out s (Hear rules MessageEnd) e =
    subst (λ (x : Stage). Leaves (heard_turn s (ended_in rules x s))) (sym e) (end_out s (may_end rules true s.heard.done))

-- ---- Nothing is told behind a cancel

-- cancelling, or broken
abbrev IsQuiet : Stage → Type 0
IsQuiet Idle = ⊥
IsQuiet (Sending kind left packets) = ⊥
IsQuiet Reading = ⊥
IsQuiet Cancelling = Unit {0}
IsQuiet (Broken fault) = Unit {0}

quiet_out : (acknowledged : Bool) (stage : Stage) → LeavesBy acknowledged stage → acknowledged ≡ false → IsQuiet stage
quiet_out acknowledged Idle l e = let no : true ≡ false = sym l ∙ e in absurd cc
quiet_out acknowledged (Sending kind left packets) l e = l
quiet_out acknowledged Reading l e = l
quiet_out acknowledged Cancelling l e = tt
quiet_out acknowledged (Broken fault) l e = tt

-- a broken client stays so
abbrev StaysBroken : Turn → Type 0
StaysBroken t = IsQuiet t.session.stage

broken_stays : (s : ClientSession) (a : Act) (fault : ClientFault) → s.stage ≡ Broken fault → StaysBroken (act s a)
broken_stays s (MarkReset reset) fault e =
    subst (λ (x : Stage). StaysBroken (silent (calls.unless_refused (unless_idle x) s (marked s reset)))) (sym e) (subst IsQuiet (sym e) tt)
broken_stays s (Start request) fault e =
    subst (λ (x : Stage). StaysBroken (silent (calls.unless_refused (unless_idle x) s (started s request)))) (sym e) (subst IsQuiet (sym e) tt)
broken_stays s Send fault e = subst (λ (x : Stage). StaysBroken (calls.effect_of s (sent_in s x))) (sym e) (subst IsQuiet (sym e) tt)
broken_stays s Cancel fault e = subst (λ (x : Stage). StaysBroken (calls.effect_of s (cancelled_in s x))) (sym e) (subst IsQuiet (sym e) tt)
broken_stays s (Stream (Open kind)) fault e =
    subst (λ (x : Stage). StaysBroken (silent (calls.unless_refused (unless_idle x) s (opened s kind)))) (sym e) (subst IsQuiet (sym e) tt)
broken_stays s (Stream (Put part)) fault e = subst (λ (x : Stage). StaysBroken (calls.effect_of s (put_in s part x))) (sym e) (subst IsQuiet (sym e) tt)
broken_stays s (Stream Finish) fault e = subst (λ (x : Stage). StaysBroken (calls.effect_of s (finished_in s x))) (sym e) (subst IsQuiet (sym e) tt)
broken_stays s Lose fault e = subst (λ (x : Stage). IsQuiet (lost_stage x)) (sym e) tt
broken_stays s (Hear rules (Token sign)) fault e =
    subst (λ (x : Stage). StaysBroken (heard_turn s (signed_in rules x s sign >>= λ next. Ok (going_on next)))) (sym e) tt
broken_stays s (Hear rules MessageEnd) fault e = subst (λ (x : Stage). StaysBroken (heard_turn s (ended_in rules x s))) (sym e) tt

quiet_stays : (s : ClientSession) (a : Act) (stage : Stage) → s.stage ≡ stage → IsQuiet stage → (act s a).acknowledged ≡ false → IsQuiet (act s a).session.stage
quiet_stays s a Idle e q none = absurd q
quiet_stays s a (Sending kind left packets) e q none = absurd q
quiet_stays s a Reading e q none = absurd q
quiet_stays s a Cancelling e q none = quiet_out (act s a).acknowledged (act s a).session.stage (act_out s a e) none
quiet_stays s a (Broken fault) e q none = broken_stays s a fault e

none_told : (stage : Stage) (sign : Sign) → IsQuiet stage → (cond (tells stage) (sign ∷ []) []) ≡ []
none_told Idle sign q = absurd q
none_told (Sending kind left packets) sign q = absurd q
none_told Reading sign q = absurd q
none_told Cancelling sign q = refl
none_told (Broken fault) sign q = refl

tells_nothing : (s : ClientSession) (a : Act) → IsQuiet s.stage → told_at s a ≡ []
tells_nothing s (MarkReset reset) q = refl
tells_nothing s (Start request) q = refl
tells_nothing s Send q = refl
tells_nothing s Cancel q = refl
tells_nothing s Lose q = refl
tells_nothing s (Stream step) q = refl
tells_nothing s (Hear rules (Token sign)) q = none_told s.stage sign q
tells_nothing s (Hear rules MessageEnd) q = refl

-- no acknowledgement in all is none in the first, nor in the others
none_first : (b : Bool) (n : ℕ) → one_if b + n ≡ 0 → (b ≡ false) × (n ≡ 0)
none_first true n e = absurd (omega (arith, e))
none_first false n e = (refl, omega (arith, e))

quiet_all : (s : ClientSession) (acts : List Act) → IsQuiet s.stage → acknowledgements (acted s acts) ≡ 0 → told_by s acts ≡ []
quiet_all s [] q e = refl
quiet_all s (a ∷ others) q e =
    let none = none_first (act s a).acknowledged (acknowledgements (acted (act s a).session others)) e in
    ap (λ (xs : List Sign). xs ++ told_by (act s a).session others) (tells_nothing s a q)
    ∙ quiet_all (act s a).session others (quiet_stays s a s.stage refl q none.0) none.1

pub told_nothing : (s : ClientSession) (acts : List Act) → s.stage ≡ Cancelling → acknowledgements (acted s acts) ≡ 0 → told_by s acts ≡ []
told_nothing s acts e none = quiet_all s acts (subst IsQuiet (sym e) tt) none
