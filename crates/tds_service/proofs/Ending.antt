-- A message's end wants no memory.
use Rattle.std.proofs.Common.{◌≡◌, ◌&&◌, Bool, true, false, refl, subst}
use Rattle.std.specs.Prelude.{Option, Some, None, not, Result, Ok, Err, MatchResult, if◌then◌else◌}
use Rattle.tds_packet.specs.declared.status.Reset.{Reset}
use Rattle.tds_wire.specs.Reading.{Parser, is_between}
use Rattle.tds_client.specs.declared.fault.ClientFault.{ClientFault}
use Rattle.tds_client.specs.declared.heard.FinalDone.{FinalDone}
use Rattle.tds_client.specs.declared.heard.FinalDone.TheVariants.{Awaited, Answered, Acknowledged}
use Rattle.tds_client.specs.declared.sign.Rules.TheVariants.{Any}
use Rattle.tds_client.specs.declared.state.Taken.{Taken}
use Rattle.tds_client.specs.declared.state.Taken.TheVariants as takes
use Rattle.tds_client.specs.Hearing.{may_end}
use Rattle.tds_client.specs.Machine.{ItemMove, end_read, end_skipped, ended_in, tells}
use Rattle.tds_client.specs.Session as session
use Rattle.tds_client.specs.Session.{ClientSession}
use Rattle.tds_listen.specs.declared.fault.ListenFault.{ListenFault}
use Rattle.tds_listen.specs.declared.fault.ListenFault.TheVariants as listens
use Rattle.tds_listen.specs.Hearing.{heard_by, heard_end, settled_by, without_mark}
use Rattle.tds_service.proofs.Alike.{ok_same}

abbrev NeedsNone : ItemMove → Type 0
NeedsNone move = move.answer ≡ takes.NoMemory → ⊥

skipped_needs : (s : ClientSession) (done : FinalDone) → NeedsNone (end_skipped s done)
skipped_needs s Awaited = λ e. let u : ⊥ = cc in u
skipped_needs s Answered = λ e. let u : ⊥ = cc in u
skipped_needs s Acknowledged = λ e. let u : ⊥ = cc in u

ends_if : (may : Bool) (wanted move : ItemMove) (fault : ClientFault) → NeedsNone wanted → (if may then Ok wanted else Err fault) ≡ Ok move → NeedsNone move
ends_if true wanted move fault none e = subst (λ (m : ItemMove). NeedsNone m) (ok_same ClientFault wanted move e) none
ends_if false wanted move fault none e = absurd (let u : ⊥ = cc in u)

ends_in : (s : ClientSession) (k : session.Stage) (move : ItemMove) → ended_in Any k s ≡ Ok move → NeedsNone move
ends_in s session.Idle move e = absurd (let u : ⊥ = cc in u)
ends_in s (session.Sending kind left packets) move e = absurd (let u : ⊥ = cc in u)
ends_in s session.Reading move e = ends_if (may_end Any false s.heard.done) (end_read s) move _ (λ h. let u : ⊥ = cc in u) e
ends_in s session.Cancelling move e = ends_if (may_end Any true s.heard.done) (end_skipped s s.heard.done) move _ (skipped_needs s s.heard.done) e
ends_in s (session.Broken fault) move e = absurd (let u : ⊥ = cc in u)

mark_needs : (mark : Option Reset) (wanted move : ItemMove) → NeedsNone wanted → without_mark mark wanted ≡ Ok move → NeedsNone move
mark_needs None wanted move none e = subst (λ (m : ItemMove). NeedsNone m) (ok_same ListenFault wanted move e) none
mark_needs (Some reset) wanted move none e = absurd (let u : ⊥ = cc in u)

settled_needs : (answer : Taken) (wanted move : ItemMove) → NeedsNone wanted → settled_by answer wanted ≡ Ok move → NeedsNone move
settled_needs takes.More wanted move none e = subst (λ (m : ItemMove). NeedsNone m) (ok_same ListenFault wanted move e) none
settled_needs takes.Finished wanted move none e = mark_needs wanted.session.heard.mark wanted move none e
settled_needs takes.Acknowledged wanted move none e = subst (λ (m : ItemMove). NeedsNone m) (ok_same ListenFault wanted move e) none
settled_needs takes.NoMemory wanted move none e = subst (λ (m : ItemMove). NeedsNone m) (ok_same ListenFault wanted move e) none

closes : (s : ClientSession) (move : ItemMove) (x : Result ItemMove ClientFault) → ended_in Any s.stage s ≡ x
    → heard_by x (λ wanted. settled_by wanted.answer wanted) ≡ Ok move → NeedsNone move
closes s move (Ok wanted) is e = settled_needs wanted.answer wanted move (ends_in s s.stage wanted is) e
closes s move (Err fault) is e = absurd (let u : ⊥ = cc in u)

cut_or : (s : ClientSession) (move : ItemMove) (cut : Bool)
    → (if cut then Err listens.Cut else heard_by (ended_in Any s.stage s) (λ wanted. settled_by wanted.answer wanted)) ≡ Ok move → NeedsNone move
cut_or s move true e = absurd (let u : ⊥ = cc in u)
cut_or s move false e = closes s move (ended_in Any s.stage s) refl e

pub end_needs_none : (s next : ClientSession) (r : Parser) (result : Result Taken ListenFault)
    → MatchResult result (λ answer. heard_end s r ≡ Ok (record { answer = answer; session = next })) (λ fault. heard_end s r ≡ Err fault)
    → result ≡ Ok takes.NoMemory → ⊥
end_needs_none s next r (Ok answer) exact is =
    cut_or s (record { answer = answer; session = next }) (tells s.stage && not (is_between r)) exact (ok_same ListenFault answer takes.NoMemory is)
end_needs_none s next r (Err fault) exact is = let u : ⊥ = cc in u
