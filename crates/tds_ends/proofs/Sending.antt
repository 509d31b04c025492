-- A request's next packet, at the client and in the model.
use Rattle.std.proofs.Common.{◌≡◌, ◌∙◌, ◌≤◌, ℕ, zero, suc, ◌+◌, Bool, true, false, cond, refl, sym, ap, subst, Option, Some, None, [], take, drop, eqb, arith}
use Rattle.std.proofs.lemmas.Bool.Decides.{nat_tests}
use Rattle.std.specs.Prelude.{Ok}
use Rattle.tds_client.specs.declared.state.Sent.{Sent}
use Rattle.tds_client.specs.declared.state.Sent.TheVariants as sents
use Rattle.tds_client.specs.Packets as packets
use Rattle.tds_client.specs.Sending.{Effect, sent, sent_in, sent_of, room}
use Rattle.tds_client.specs.Session as client
use Rattle.tds_client.specs.Session.{ClientSession, with_stage}
use Rattle.tds_packet.specs.declared.status.Reset.{Reset}
use Rattle.tds_world.specs.Caller.{first_bit, next_packet, sends_by, sends_last}
use Rattle.tds_packet.specs.Resets.{reset_bit, mark_bit}
use Rattle.tds_world.specs.Connection.{Connection, phase}
use Rattle.tds_world.specs.Entries.{End, Part, up_bytes}
use Rattle.tds_world.specs.Events.{sends_in, sent_as}
use Rattle.tds_world.specs.Phase.{Phase, Settled, Asked, Sending, Reading, Cancelling, phase_in, phase_of}
use Rattle.tds_world.specs.Pool.{Does}
use Rattle.tds_world.specs.Record.{Record, Out, NotBegun, Begun, Whole, packets_of}
use Rattle.tds_world.specs.declared.outcome.Outcome.TheVariants as outcome
use Rattle.tds_ends.specs.Refines.{RefinesSend}
use Rattle.tds_ends.specs.Stands.{MatchesClient, BeginsBy, BeginsIn, stage_by, stage_in, kind_asked}
use Rattle.tds_ends.proofs.Lanes.{appended}
use Rattle.tds_world.specs.PhaseTells.{PhaseTells}
use Rattle.tds_ends.proofs.Phases.{GoesOn, PhasesTell, goes_on}

-- ---- The mark's bit

first_asked : (out : Out) (asked mark : Option Reset) → out ≡ NotBegun → asked ≡ mark → first_bit out asked ≡ mark_bit (packets_of out) mark
first_asked out asked mark o a =
    subst (λ (x : Out). first_bit x asked ≡ mark_bit (packets_of x) mark) (sym o)
    (ap (λ (m : Option Reset). reset_bit m) a)

first_begun : (out : Out) (n : ℕ) (asked mark : Option Reset) → out ≡ Begun n → 1 ≤ packets_of out → first_bit out asked ≡ mark_bit (packets_of out) mark
first_begun out zero asked mark o some = let z : 1 ≤ packets_of (Begun 0) = subst (λ (x : Out). 1 ≤ packets_of x) o some in absurd (omega arith)
first_begun out (suc n) asked mark o some =
    let later : eqb (suc n) 0 ≡ false = grind (arith, nat_tests) in
    subst (λ (x : Out). first_bit x asked ≡ mark_bit (packets_of x) mark) (sym o)
    (sym (ap (λ (b : Bool). cond b (reset_bit mark) 0) later))

-- What is wanted of the newest request, where its client sends.
record IsGoing (q : Record) (mark : Option Reset) : Type 0 where
  goes : GoesOn q.fate
  first : first_bit q.out q.asking.mark ≡ mark_bit (packets_of q.out) mark

going_asked : (q : Record) (mark : Option Reset) → PhaseTells Asked q.fate q.out → q.asking.mark ≡ mark → IsGoing q mark
going_asked q mark t b = record {
  goes = goes_on q.fate t.0;
  first = first_asked q.out q.asking.mark mark t.1 b;
}

going_begun : (q : Record) (mark : Option Reset) → PhaseTells Sending q.fate q.out → 1 ≤ packets_of q.out → IsGoing q mark
going_begun q mark t b = record {
  goes = goes_on q.fate t.0;
  first = first_begun q.out t.1 q.asking.mark mark t.2 b;
}

-- ---- One packet

-- The whole rest, or a full packet.
abbrev last_effect : ClientSession → Record → Effect Sent
last_effect s q = record {
  answer = sents.Last;
  session = with_stage s client.Reading;
  bytes = packets.packet_bytes (kind_asked q.asking) (1 + mark_bit (packets_of q.out) s.heard.mark) (packets_of q.out) q.left;
}

abbrev more_effect : ClientSession → Record → Effect Sent
more_effect s q = record {
  answer = sents.More;
  session = with_stage s (client.Sending (kind_asked q.asking) (drop (room s) q.left) (packets_of q.out + 1));
  bytes = packets.packet_bytes (kind_asked q.asking) (0 + mark_bit (packets_of q.out) s.heard.mark) (packets_of q.out) (take (room s) q.left);
}

last_alike : (s : ClientSession) (c : Connection) (q : Record) → MatchesClient s c → IsGoing q c.mark → RefinesSend c (Ok (last_effect s q)) (Does (outcome.Sent (sent_as true)) (sends_by true (room s) q c))
last_alike s c q m g =
    let q' : Record = record q { left = []; out = Whole (packets_of q.out + 1) } in
    let reads : phase_of q' ≡ Reading = g.goes.last (packets_of q.out + 1) in (
      refl,
      record {
        stage = sym (ap (λ (p : Phase). stage_by p q') reads);
        descriptor = m.descriptor;
        mark = m.mark;
        done = m.done;
        columns = m.columns;
        begins = subst (λ (p : Phase). BeginsBy p q' c.mark) (sym reads) tt;
      },
      appended up_bytes (last_effect s q).bytes (End q.number q.asking (next_packet q 1 q.left)) c.to_server
          (ap (λ (b : ℕ). packets.packet_bytes (kind_asked q.asking) (1 + b) (packets_of q.out) q.left)
          (g.first ∙ ap (λ (mark : Option Reset). mark_bit (packets_of q.out) mark) (sym m.mark))),
    )

more_alike : (s : ClientSession) (c : Connection) (q : Record) → MatchesClient s c → IsGoing q c.mark → RefinesSend c (Ok (more_effect s q)) (Does (outcome.Sent (sent_as false)) (sends_by false (room s) q c))
more_alike s c q m g =
    let q' : Record = record q { left = drop (room s) q.left; out = Begun (packets_of q.out + 1) } in
    let sends : phase_of q' ≡ Sending = g.goes.more (packets_of q.out + 1) in (
      refl,
      record {
        stage = sym (ap (λ (p : Phase). stage_by p q') sends);
        descriptor = m.descriptor;
        mark = m.mark;
        done = m.done;
        columns = m.columns;
        begins = subst (λ (p : Phase). BeginsBy p q' c.mark) (sym sends) (let some : 1 ≤ packets_of q.out + 1 = omega arith in some);
      },
      appended up_bytes (more_effect s q).bytes (Part q.number (next_packet q 0 (take (room s) q.left))) c.to_server
          (ap (λ (b : ℕ). packets.packet_bytes (kind_asked q.asking) (0 + b) (packets_of q.out) (take (room s) q.left))
          (g.first ∙ ap (λ (mark : Option Reset). mark_bit (packets_of q.out) mark) (sym m.mark))),
    )

by_last : (b : Bool) (s : ClientSession) (c : Connection) (q : Record) → MatchesClient s c → IsGoing q c.mark → RefinesSend c (Ok (cond b (last_effect s q) (more_effect s q))) (Does (outcome.Sent (sent_as b)) (sends_by b (room s) q c))
by_last true s c q m g = last_alike s c q m g
by_last false s c q m g = more_alike s c q m g

going_alike : (s : ClientSession) (c : Connection) (q : Record) → MatchesClient s c → IsGoing q c.mark → RefinesSend c (Ok (sent_of s (kind_asked q.asking) q.left (packets_of q.out))) (Does (outcome.Sent (sent_as (sends_last (room s) q))) (sends_by (sends_last (room s) q) (room s) q c))
unfolding sent_of
going_alike s c q m g = by_last (sends_last (room s) q) s c q m g

-- ---- By the newest request

by_phase : (p : Phase) (s : ClientSession) (c : Connection) (q : Record) → PhaseTells p q.fate q.out → MatchesClient s c → BeginsBy p q c.mark → RefinesSend c (sent_in s (stage_by p q)) (sends_in p (room s) (Some q) c)
by_phase Settled s c q e m b = (refl, refl)
by_phase Asked s c q e m b = going_alike s c q m (going_asked q c.mark e b)
by_phase Sending s c q e m b = going_alike s c q m (going_begun q c.mark e b)
by_phase Reading s c q e m b = (refl, refl)
by_phase Cancelling s c q e m b = (refl, refl)

by_current : PhasesTell → (current : Option Record) (s : ClientSession) (c : Connection) → MatchesClient s c → BeginsIn current c.mark → RefinesSend c (sent_in s (stage_in current)) (sends_in (phase_in current) (room s) current c)
by_current tells None s c m b = (refl, refl)
by_current tells (Some q) s c m b = by_phase (phase_of q) s c q (tells q) m b

pub send_alike : PhasesTell → (s : ClientSession) (c : Connection) → MatchesClient s c → RefinesSend c (sent s) (sends_in (phase c) (room s) c.current c)
send_alike tells s c m =
    subst (λ (stage : client.Stage). RefinesSend c (sent_in s stage) (sends_in (phase c) (room s) c.current c)) (sym m.stage)
    (by_current tells c.current s c m m.begins)
