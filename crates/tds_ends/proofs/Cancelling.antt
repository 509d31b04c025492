-- A request that is cancelled, at the client and in the model.
use Rattle.std.proofs.Common.{◌≡◌, ◌∙◌, ◌≤◌, ℕ, false, eqb, refl, sym, ap, subst, Option, Some, None, List, [], ◌++◌, append_assoc, flat_map, arith}
use Rattle.std.proofs.lemmas.Bool.Decides.{nat_tests}
use Rattle.std.specs.Prelude.{Ok}
use Rattle.tds_client.specs.declared.state.Cancelled.{Cancelled}
use Rattle.tds_client.specs.declared.state.Cancelled.TheVariants as answered
use Rattle.tds_client.specs.Packets.{stop_bytes, ignore}
use Rattle.tds_client.specs.Sending.{Effect, cancelled_sending, cancelled_in}
use Rattle.tds_client.specs.Session as client
use Rattle.tds_client.specs.Session.{ClientSession, with_stage}
use Rattle.tds_world.specs.Caller.{drop_packet, cancels, cancels_in, cancels_by}
use Rattle.tds_world.specs.Caller as model
use Rattle.tds_world.specs.Connection.{Connection}
use Rattle.tds_world.specs.Entries.{Drop, Attention, up_bytes}
use Rattle.tds_world.specs.Lane.{Lane, append}
use Rattle.tds_world.specs.Phase.{Phase, Settled, Asked, Sending, Reading, Cancelling, phase_by, phase_in, phase_of}
use Rattle.tds_world.specs.Record as record_of
use Rattle.tds_world.specs.Record.{Record, Out, NotBegun, packets_of}
use Rattle.tds_ends.specs.Refines.{RefinesCancel, DoesCancel}
use Rattle.tds_ends.specs.Stands.{MatchesClient, BeginsBy, BeginsIn, Sends, kind_asked, stage_by, stage_in}
use Rattle.tds_ends.proofs.Lanes.{appended, unsent}
use Rattle.tds_world.specs.PhaseTells.{PhaseTells}
use Rattle.tds_ends.proofs.Phases.{PhasesTell}
use Rattle.tds_ends.proofs.Picks.{pick_true, pick_false}

sends_two : {Entry : Type 0} {bytes : Entry → List ℕ} {one two : List ℕ} {a b c : Lane Entry} → Sends bytes one a b → Sends bytes two b c → Sends bytes (one ++ two) a c
sends_two {bytes = bytes} {one = one} {two = two} {a = a} h k = record {
  waiting = k.waiting ∙ (ap (λ (x : List ℕ). x ++ two) h.waiting ∙ append_assoc (flat_map bytes a.waiting) one two);
  arrived = k.arrived ∙ h.arrived;
  part = k.part ∙ h.part;
}

-- Where a request is when it is cancelled.
from_asked : (fate : record_of.Fate) (out : Out) → PhaseTells Asked fate out → phase_by record_of.Cancelled out ≡ Settled
from_asked fate out t = ap (λ (o : Out). phase_by record_of.Cancelled o) t.1

from_sending : (fate : record_of.Fate) (out : Out) → PhaseTells Sending fate out → phase_by record_of.Cancelled out ≡ Cancelling
from_sending fate out t = ap (λ (o : Out). phase_by record_of.Cancelled o) t.2

from_reading : (fate : record_of.Fate) (out : Out) → PhaseTells Reading fate out → phase_by record_of.Cancelled out ≡ Cancelling
from_reading fate out t = ap (λ (o : Out). phase_by record_of.Cancelled o) t.2

-- The client's effect, by how much is out.
none_out : (s : ClientSession) (q : Record) → q.out ≡ NotBegun → cancelled_sending s (kind_asked q.asking) (packets_of q.out) ≡ record { answer = answered.Unsent; session = with_stage s client.Idle; bytes = [] }
unfolding cancelled_sending
none_out s q e = pick_true _ _ (ap (λ (o : Out). eqb (packets_of o) 0) e) refl

some_out : (s : ClientSession) (q : Record) → 1 ≤ packets_of q.out → cancelled_sending s (kind_asked q.asking) (packets_of q.out) ≡ record { answer = answered.Asked; session = with_stage s client.Cancelling; bytes = ignore (kind_asked q.asking) (packets_of q.out) ++ stop_bytes }
unfolding cancelled_sending
some_out s q some = let later : eqb (packets_of q.out) 0 ≡ false = grind (arith, nat_tests, some) in pick_false _ _ later refl

-- A client that is elsewhere then.
client_at : (s : ClientSession) (c d : Connection) (q : Record) (p : Phase) (stage : client.Stage) → MatchesClient s c → d.current ≡ Some (record_of.cancelled q) → d.heard ≡ c.heard → d.mark ≡ c.mark → phase_of (record_of.cancelled q) ≡ p → stage ≡ stage_by p (record_of.cancelled q) → BeginsBy p (record_of.cancelled q) d.mark → MatchesClient (with_stage s stage) d
client_at s c d q p stage m current heard mark phase is begins = record {
  stage = is ∙ sym (ap stage_in current ∙ ap (λ (x : Phase). stage_by x (record_of.cancelled q)) phase);
  descriptor = m.descriptor ∙ sym heard;
  mark = m.mark ∙ sym mark;
  done = m.done;
  columns = m.columns;
  begins =
      subst (λ (o : Option Record). BeginsIn o d.mark) (sym current)
      (subst (λ (x : Phase). BeginsBy x (record_of.cancelled q) d.mark) (sym phase) begins);
}

by_phase : (p : Phase) (s : ClientSession) (c : Connection) (q : Record) → PhaseTells p q.fate q.out → MatchesClient s c → BeginsBy p q c.mark → DoesCancel c (cancelled_in s (stage_by p q)) (model.cancel_outcome p) (cancels_by p q c)
by_phase Settled s c q e m b = (_, refl, refl, m, unsent up_bytes c.to_server)
by_phase Cancelling s c q e m b = (_, refl, refl, m, unsent up_bytes c.to_server)
by_phase Asked s c q e m b =
    let d : Connection = cancels_by Asked q c in
    let out : q.out ≡ NotBegun = e.1 in (
      record { answer = answered.Unsent; session = with_stage s client.Idle; bytes = [] },
      ap (λ (x : Effect Cancelled). Ok x) (none_out s q out),
      refl,
      client_at s c d q Settled client.Idle m refl refl refl (from_asked q.fate q.out e) refl tt,
      unsent up_bytes c.to_server,
    )
by_phase Sending s c q e m b =
    let d : Connection = cancels_by Sending q c in (
      record { answer = answered.Asked; session = with_stage s client.Cancelling; bytes = ignore (kind_asked q.asking) (packets_of q.out) ++ stop_bytes },
      ap (λ (x : Effect Cancelled). Ok x) (some_out s q b),
      refl,
      client_at s c d q Cancelling client.Cancelling m refl refl refl (from_sending q.fate q.out e) refl tt,
      sends_two
          (appended up_bytes (ignore (kind_asked q.asking) (packets_of q.out)) (Drop q.number (drop_packet q)) c.to_server refl)
          (appended up_bytes stop_bytes (Attention q.number) (append (Drop q.number (drop_packet q)) c.to_server) refl),
    )
by_phase Reading s c q e m b =
    let d : Connection = cancels_by Reading q c in (
      record { answer = answered.Asked; session = with_stage s client.Cancelling; bytes = stop_bytes },
      refl,
      refl,
      client_at s c d q Cancelling client.Cancelling m refl refl refl (from_reading q.fate q.out e) refl tt,
      appended up_bytes stop_bytes (Attention q.number) c.to_server refl,
    )

by_current : PhasesTell → (current : Option Record) (s : ClientSession) (c : Connection) → MatchesClient s c → BeginsIn current c.mark → DoesCancel c (cancelled_in s (stage_in current)) (model.cancel_outcome (phase_in current)) (cancels_in current c)
by_current tells None s c m b = (_, refl, refl, m, unsent up_bytes c.to_server)
by_current tells (Some q) s c m b = by_phase (phase_of q) s c q (tells q) m b

pub cancel_alike : PhasesTell → (s : ClientSession) (c : Connection) → MatchesClient s c → RefinesCancel s c
cancel_alike tells s c m =
    subst (λ (stage : client.Stage). DoesCancel c (cancelled_in s stage) (model.cancel_outcome (phase_in c.current)) (cancels c)) (sym m.stage)
    (by_current tells c.current s c m m.begins)
