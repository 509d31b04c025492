-- A client that is cancelling is idle again at the end of a message in which a DONE acknowledges: whoever reads the answers.
use Rattle.std.proofs.Common.{◌≡◌, ◌∙◌, ℕ, Bool, true, false, cond, ◌||◌, List, [], ◌∷◌, ◌++◌, refl, sym, ap, subst}
use Rattle.std.specs.Prelude.{Result, Ok, Err, Option, Some, None, if◌then◌else◌}
use Rattle.tds_packet.specs.Layout.{has_bit}
use Rattle.tds_token.specs.declared.env_change.EnvChange.{EnvChange}
use Rattle.tds_client.specs.declared.fault.ClientFault.{ClientFault}
use Rattle.tds_client.specs.declared.fault.ClientFault.TheVariants as faults
use Rattle.tds_client.specs.declared.heard.Heard.{Heard}
use Rattle.tds_client.specs.declared.heard.FinalDone.{FinalDone}
use Rattle.tds_client.specs.declared.heard.FinalDone.TheVariants.{Awaited, Answered, Acknowledged}
use Rattle.tds_client.specs.declared.sign.DoneKind.TheVariants.{Statement, Procedure, InProcedure}
use Rattle.tds_client.specs.declared.sign.Rules.{Rules}
use Rattle.tds_client.specs.declared.sign.Rules.TheVariants.{Strict, Any}
use Rattle.tds_client.specs.declared.sign.Sign.{Sign}
use Rattle.tds_client.specs.declared.sign.Sign.TheVariants as signs
use Rattle.tds_client.specs.declared.state.Taken.{Taken}
use Rattle.tds_client.specs.declared.state.Taken.TheVariants as takes
use Rattle.tds_client.specs.Acts.{Act, MarkReset, Start, Send, Cancel, Lose, Stream, Hear, heard_turn, act, behind, message_behind, message_of, is_acknowledgement, has_acknowledgement}
use Rattle.tds_client.specs.Hearing.{◌>>=◌, hear_sign, strict_sign, strict_before, any_sign, hear_change, hear_done, place_change, place_done, descriptor_changed, with_done, done_behind, may_end}
use Rattle.tds_client.specs.Machine.{ItemMove, Token, MessageEnd, signed_in, ended_in, message_ended, with_heard, going_on, end_read, end_skipped}
use Rattle.tds_client.specs.Session.{ClientSession, Stage, Idle, Sending, Reading, Cancelling, Broken, new_session, with_stage, lost_stage, marked, unless_idle}
use Rattle.tds_client.proofs.Leaving.{Leaves, is_broken, mark_leaves, start_leaves, send_leaves, stream_leaves, cancel_leaves}

abbrev Answer : Type 0
Answer = Result Heard ClientFault

abbrev pub is_acknowledging : FinalDone → Bool
is_acknowledging Awaited = false
is_acknowledging Answered = false
is_acknowledging Acknowledged = true

-- ---- One sign

-- An acknowledgement that was heard stays, and another sign makes none.
abbrev Tells : Heard → Sign → Heard → Type 0
Tells heard sign next = is_acknowledging next.done ≡ (is_acknowledging heard.done || is_acknowledgement sign)

abbrev heard_so : Heard → Answer
heard_so heard = Ok heard

heard_is : (x y : Heard) → heard_so x ≡ heard_so y → x ≡ y
heard_is x y e = cc

or_none : (b : Bool) → b ≡ (b || false)
or_none true = refl
or_none false = refl

or_true : (b : Bool) → true ≡ (b || true)
or_true true = refl
or_true false = refl

module _ (heard next : Heard) where
  by_change : (change : EnvChange) (o : Option ℕ) → descriptor_changed heard change o ≡ Ok next → Tells heard (signs.Change change) next
  by_change change None e = absurd cc
  by_change change (Some d) e = sym (ap (λ (h : Heard). is_acknowledging h.done) (heard_is _ next e)) ∙ or_none (is_acknowledging heard.done)

  -- in the strict profile, before the final DONE
  strict_done : (a m c : Bool) → heard.done ≡ Awaited
      → cond a (cond {A = Answer} c (Ok (with_done heard Acknowledged)) (Err faults.UnaskedAcknowledgement)) (cond {A = Answer} m (Ok heard) (Ok (with_done heard Answered))) ≡ Ok next
      → is_acknowledging next.done ≡ (is_acknowledging heard.done || a)
  strict_done true m true before e = sym (ap (λ (h : Heard). is_acknowledging h.done) (heard_is _ next e)) ∙ or_true (is_acknowledging heard.done)
  strict_done true m false before e = absurd cc
  strict_done false true c before e = sym (ap (λ (h : Heard). is_acknowledging h.done) (heard_is _ next e)) ∙ or_none (is_acknowledging heard.done)
  strict_done false false c before e =
      sym (ap (λ (h : Heard). is_acknowledging h.done) (heard_is _ next e)) ∙ sym (ap (λ (d : FinalDone). is_acknowledging d || false) before)

  by_strict : (cancelling : Bool) (sign : Sign) → heard.done ≡ Awaited → strict_sign cancelling heard sign ≡ Ok next → Tells heard sign next
  unfolding hear_change hear_done
  by_strict cancelling signs.Nothing before e = sym (ap (λ (h : Heard). is_acknowledging h.done) (heard_is heard next e)) ∙ or_none (is_acknowledging heard.done)
  by_strict cancelling (signs.Change change) before e = by_change change _ e
  by_strict cancelling (signs.Done Statement status) before e = strict_done (has_bit status 0x20) (has_bit status 1) cancelling before e
  by_strict cancelling (signs.Done Procedure status) before e = absurd cc
  by_strict cancelling (signs.Done InProcedure status) before e = absurd cc

  by_before : (cancelling : Bool) (sign : Sign) (done : FinalDone) → heard.done ≡ done → strict_before done cancelling heard sign ≡ Ok next → Tells heard sign next
  by_before cancelling sign Awaited before e = by_strict cancelling sign before e
  by_before cancelling sign Answered before e = absurd cc
  by_before cancelling sign Acknowledged before e = absurd cc

  -- of any server
  stands : (m : Bool) (done : FinalDone) → heard.done ≡ done → is_acknowledging (cond m Awaited Answered) ≡ false
  stands true done e = refl
  stands false done e = refl

  stays : (status : ℕ) (done : FinalDone) → is_acknowledging (done_behind done status) ≡ is_acknowledging done
  stays status Awaited = neither (has_bit status 1)
    where
      neither : (b : Bool) → is_acknowledging (if b then Awaited else Answered) ≡ false
      neither true = refl
      neither false = refl
  stays status Answered = neither (has_bit status 1)
    where
      neither : (b : Bool) → is_acknowledging (if b then Awaited else Answered) ≡ false
      neither true = refl
      neither false = refl
  stays status Acknowledged = refl

  any_done : (status : ℕ) (a c : Bool)
      → cond a (cond {A = Answer} c (Ok (with_done heard Acknowledged)) (Err faults.UnaskedAcknowledgement)) (Ok (with_done heard (done_behind heard.done status))) ≡ Ok next
      → is_acknowledging next.done ≡ (is_acknowledging heard.done || a)
  any_done status true true e = sym (ap (λ (h : Heard). is_acknowledging h.done) (heard_is _ next e)) ∙ or_true (is_acknowledging heard.done)
  any_done status true false e = absurd cc
  any_done status false c e = sym (ap (λ (h : Heard). is_acknowledging h.done) (heard_is _ next e)) ∙ (stays status heard.done ∙ or_none (is_acknowledging heard.done))

  by_any : (cancelling : Bool) (sign : Sign) → any_sign cancelling heard sign ≡ Ok next → Tells heard sign next
  unfolding place_change place_done
  by_any cancelling signs.Nothing e = sym (ap (λ (h : Heard). is_acknowledging h.done) (heard_is heard next e)) ∙ or_none (is_acknowledging heard.done)
  by_any cancelling (signs.Change change) e = by_change change _ e
  by_any cancelling (signs.Done Statement status) e = any_done status (has_bit status 0x20) cancelling e
  by_any cancelling (signs.Done Procedure status) e = any_done status false cancelling e
  by_any cancelling (signs.Done InProcedure status) e = any_done status false cancelling e

  pub by_sign : (rules : Rules) (cancelling : Bool) (sign : Sign) → hear_sign rules cancelling heard sign ≡ Ok next → Tells heard sign next
  by_sign Strict cancelling sign e = by_before cancelling sign heard.done refl e
  by_sign Any cancelling sign e = by_any cancelling sign e

-- ---- All acts

-- Unless the client is broken, it knows whether the message that comes has an acknowledgement.
abbrev Knows : ClientSession → List Sign → Type 0
Knows s m = is_broken s.stage ≡ false → is_acknowledging s.heard.done ≡ has_acknowledgement m

also : (first : List Sign) (sign : Sign) → has_acknowledgement (first ++ sign ∷ []) ≡ (has_acknowledgement first || is_acknowledgement sign)
also [] sign = or_none_back (is_acknowledgement sign)
  where
    or_none_back : (b : Bool) → (b || false) ≡ b
    or_none_back true = refl
    or_none_back false = refl
also (x ∷ first) sign = ap (λ (b : Bool). is_acknowledgement x || b) (also first sign) ∙ or_assoc (is_acknowledgement x) (has_acknowledgement first) (is_acknowledgement sign)
  where
    or_assoc : (a b c : Bool) → (a || (b || c)) ≡ ((a || b) || c)
    or_assoc true b c = refl
    or_assoc false b c = refl

left : (s next : ClientSession) (m : List Sign) → Leaves s next → Knows s m → Knows next m
left s next m l k whole = ap is_acknowledging l.heard ∙ k (l.whole whole)

no_longer : true ≡ false → ⊥
no_longer e = cc

lose_knows : (s : ClientSession) (m : List Sign) (stage : Stage) → Knows (with_stage s (lost_stage stage)) m
lose_knows s m Idle whole = absurd (no_longer whole)
lose_knows s m (Sending kind left packets) whole = absurd (no_longer whole)
lose_knows s m Reading whole = absurd (no_longer whole)
lose_knows s m Cancelling whole = absurd (no_longer whole)
lose_knows s m (Broken fault) whole = absurd (no_longer whole)

sign_knows : (s : ClientSession) (m : List Sign) (rules : Rules) (cancelling : Bool) (sign : Sign) (r : Answer) → is_broken s.stage ≡ false → Knows s m → hear_sign rules cancelling s.heard sign ≡ r
    → Knows (heard_turn s ((r >>= λ heard. Ok (with_heard s heard)) >>= λ next. Ok (going_on next))).session (m ++ sign ∷ [])
sign_knows s m rules cancelling sign (Ok heard) sound k e whole =
    by_sign s.heard heard rules cancelling sign e ∙ (ap (λ (b : Bool). b || is_acknowledgement sign) (k sound) ∙ sym (also m sign))
sign_knows s m rules cancelling sign (Err fault) sound k e whole = absurd (no_longer whole)

signs_know : (s : ClientSession) (m : List Sign) (rules : Rules) (sign : Sign) (stage : Stage) → s.stage ≡ stage → Knows s m
    → Knows (heard_turn s (signed_in rules stage s sign >>= λ next. Ok (going_on next))).session (m ++ sign ∷ [])
signs_know s m rules sign Idle e k whole = absurd (no_longer whole)
signs_know s m rules sign (Sending kind left packets) e k whole = absurd (no_longer whole)
signs_know s m rules sign Reading e k whole = sign_knows s m rules false sign (hear_sign rules false s.heard sign) (ap is_broken e) k refl whole
signs_know s m rules sign Cancelling e k whole = sign_knows s m rules true sign (hear_sign rules true s.heard sign) (ap is_broken e) k refl whole
signs_know s m rules sign (Broken fault) e k whole = absurd (no_longer whole)

skipped_knows : (s : ClientSession) (done : FinalDone) → Knows (end_skipped s done).session []
skipped_knows s Awaited whole = refl
skipped_knows s Answered whole = refl
skipped_knows s Acknowledged whole = refl

end_knows : (s : ClientSession) (move : ItemMove) (b : Bool) → Knows move.session []
    → Knows (heard_turn s (cond {A = Result ItemMove ClientFault} b (Ok move) (Err faults.NoFinalDone))).session []
end_knows s move true k whole = k whole
end_knows s move false k whole = absurd (no_longer whole)

read_knows : (s : ClientSession) → Knows (end_read s).session []
read_knows s whole = refl

ends_know : (s : ClientSession) (rules : Rules) (stage : Stage) → Knows (heard_turn s (ended_in rules stage s)).session []
ends_know s rules Idle whole = absurd (no_longer whole)
ends_know s rules (Sending kind left packets) whole = absurd (no_longer whole)
ends_know s rules Reading whole = end_knows s (end_read s) (may_end rules false s.heard.done) (read_knows s) whole
ends_know s rules Cancelling whole = end_knows s (end_skipped s s.heard.done) (may_end rules true s.heard.done) (skipped_knows s s.heard.done) whole
ends_know s rules (Broken fault) whole = absurd (no_longer whole)

act_knows : (s : ClientSession) (m : List Sign) (a : Act) → Knows s m → Knows (act s a).session (message_behind m a)
act_knows s m (MarkReset reset) k = left s _ m (mark_leaves s (marked s reset) (unless_idle s.stage) (record { heard = refl; columns = refl; whole = λ h. h })) k
act_knows s m (Start request) k = left s _ m (start_leaves s request s.stage refl) k
act_knows s m Send k = left s _ m (send_leaves s s.stage refl) k
act_knows s m Cancel k = left s _ m (cancel_leaves s s.stage refl) k
act_knows s m Lose k = lose_knows s m s.stage
act_knows s m (Stream step) k = left s _ m (stream_leaves s step) k
act_knows s m (Hear rules (Token sign)) k = signs_know s m rules sign s.stage refl k
act_knows s m (Hear rules MessageEnd) k = ends_know s rules s.stage

all_know : (s : ClientSession) (m : List Sign) (acts : List Act) → Knows s m → Knows (behind s acts) (message_of m acts)
all_know s m [] k = k
all_know s m (a ∷ others) k = all_know (act s a).session (message_behind m a) others (act_knows s m a k)

-- ---- The end of a message

abbrev pub answer_if : Bool → Taken
answer_if b = if b then takes.Acknowledged else takes.More

abbrev pub stage_if : Bool → Stage
stage_if b = if b then Idle else Cancelling

abbrev pub IsEnd : Bool → ItemMove → Type 0
IsEnd acknowledged move = (move.answer ≡ answer_if acknowledged) × (move.session.stage ≡ stage_if acknowledged)

abbrev moved_so : ItemMove → Result ItemMove ClientFault
moved_so move = Ok move

move_is : (x y : ItemMove) → moved_so x ≡ moved_so y → x ≡ y
move_is x y e = cc

skipped_ends : (s : ClientSession) (done : FinalDone) → IsEnd (is_acknowledging done) (end_skipped s done)
skipped_ends s Awaited = (refl, refl)
skipped_ends s Answered = (refl, refl)
skipped_ends s Acknowledged = (refl, refl)

ends_by : (s : ClientSession) (move : ItemMove) (b : Bool) → cond {A = Result ItemMove ClientFault} b (Ok (end_skipped s s.heard.done)) (Err faults.NoFinalDone) ≡ Ok move
    → IsEnd (is_acknowledging s.heard.done) move
ends_by s move true e = subst (IsEnd (is_acknowledging s.heard.done)) (move_is _ move e) (skipped_ends s s.heard.done)
ends_by s move false e = absurd cc

ends_from : (s : ClientSession) (m : List Sign) (rules : Rules) (move : ItemMove) → s.stage ≡ Cancelling → Knows s m → message_ended rules s ≡ Ok move → IsEnd (has_acknowledgement m) move
ends_from s m rules move stage k e =
    subst (λ (b : Bool). IsEnd b move) (k (ap is_broken stage))
    (ends_by s move (may_end rules true s.heard.done) (sym (ap (λ (x : Stage). ended_in rules x s) stage) ∙ e))

pub ends_cancelling : (size : ℕ) (acts : List Act) (s : ClientSession) (rules : Rules) (move : ItemMove) → s ≡ behind (new_session size) acts → s.stage ≡ Cancelling → message_ended rules s ≡ Ok move
    → IsEnd (has_acknowledgement (message_of [] acts)) move
ends_cancelling size acts s rules move is stage e =
    ends_from s (message_of [] acts) rules move stage (subst (λ (x : ClientSession). Knows x (message_of [] acts)) (sym is) (all_know (new_session size) [] acts (λ whole. refl))) e
