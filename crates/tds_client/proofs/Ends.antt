-- A message ends with its final DONE, over all calls of a client.
use Rattle.std.proofs.Common.{◌≡◌, ◌∙◌, ◌&&◌, ℕ, Bool, true, false, if◌then◌else◌, List, [], ◌∷◌, Option, is_some, refl, sym, ap, subst}
use Rattle.std.specs.Prelude.{Result, Ok, Err}
use Rattle.tds_packet.specs.declared.reader.PacketRef.{PacketRef}
use Rattle.tds_token.specs.Contents.{Contents, contents_of}
use Rattle.tds_client.specs.declared.fault.ClientFault.{ClientFault}
use Rattle.tds_client.specs.declared.heard.Heard.{Heard}
use Rattle.tds_client.specs.declared.heard.FinalDone.{FinalDone}
use Rattle.tds_client.specs.declared.heard.FinalDone.TheVariants.{Awaited, Answered, Acknowledged}
use Rattle.tds_client.specs.declared.state.Taken.{Taken}
use Rattle.tds_client.specs.declared.state.Taken.TheVariants as takes
use Rattle.tds_client.specs.Calls.{Call, MarkReset, Start, Send, Cancel, Take, Lose, Stream, took_of, turn, after}
use Rattle.tds_client.specs.Hearing.{◌>>=◌, hear_packet}
use Rattle.tds_client.specs.Promises.{final_done, Coming, nothing_yet, with_packet, coming_behind, coming, ends_message, message_with, ends_acknowledged}
use Rattle.tds_client.specs.Session.{ClientSession, Stage, Idle, Sending, Reading, Cancelling, Broken, new_session, with_stage, lost_stage, marked, unless_idle}
use Rattle.tds_client.specs.Taking.{ClientMove, taken_in, taken_of, taken_reading, taken_cancelling, read, skipped, skipped_to_end}
use Rattle.tds_client.proofs.Finals.{done_of, done_behind, also, is_final, final_so, is_acknowledging, acknowledging_so, packet_heard}
use Rattle.tds_client.proofs.Leaving.{Leaves, is_broken, mark_leaves, start_leaves, send_leaves, stream_leaves, cancel_leaves}

-- ---- What is known of the message that comes, unless the client is broken

record Knows (s : ClientSession) (m : Coming) : Type 0 where
  columns : s.columns ≡ m.columns
  done : s.heard.done ≡ done_of (final_done m.tokens)

abbrev Follows : ClientSession → Coming → Type 0
Follows s m = is_broken s.stage ≡ false → Knows s m

-- ---- A packet that is taken

-- What was heard of it.
record Hears (cancelling : Bool) (s : ClientSession) (m : Coming) (packet : PacketRef) (f : Heard → ClientMove) (took : ClientMove) : Type 0 where
  heard : Heard
  is : took ≡ f heard
  done : heard.done ≡ done_of (final_done (with_packet m packet).tokens)
  final : ends_message packet ≡ true → is_final heard.done ≡ true

hears_by : (cancelling : Bool) (s : ClientSession) (m : Coming) (packet : PacketRef) (f : Heard → ClientMove) (took : ClientMove) (columns : Option ℕ) (r : Result Heard ClientFault) → Knows s m → columns ≡ m.columns
    → hear_packet cancelling s.heard (ends_message packet) (contents_of columns packet.«data».now) ≡ r → (r >>= λ heard. Ok (f heard)) ≡ Ok took → Hears cancelling s m packet f took
hears_by cancelling s m packet f took columns (Ok heard) k c said e =
    let p = packet_heard cancelling s.heard heard (ends_message packet) columns packet.«data».now said in
    let same : done_behind s.heard.done (contents_of columns packet.«data».now).tokens ≡ done_behind (done_of (final_done m.tokens)) (contents_of m.columns packet.«data».now).tokens =
    ap (λ (d : FinalDone). done_behind d (contents_of columns packet.«data».now).tokens) k.done
    ∙ ap (λ (x : Option ℕ). done_behind (done_of (final_done m.tokens)) (contents_of x packet.«data».now).tokens) c in
    record {
      heard = heard;
      is = cc;
      done = p.done ∙ (same ∙ sym (also m.tokens (contents_of m.columns packet.«data».now).tokens));
      final = p.final;
    }
hears_by cancelling s m packet f took columns (Err fault) k c said e = absurd cc

abbrev reads : ClientSession → PacketRef → Heard → ClientMove
reads s packet heard = read s (ends_message packet) heard (contents_of s.columns packet.«data».now)

abbrev skips : ClientSession → PacketRef → Heard → ClientMove
skips s packet heard = skipped s (ends_message packet) heard (contents_of s.columns packet.«data».now)

hears_reading : (s : ClientSession) (m : Coming) (packet : PacketRef) (took : ClientMove) → Knows s m → taken_reading s (ends_message packet) packet.«data».now ≡ Ok took → Hears false s m packet (reads s packet) took
unfolding taken_reading
hears_reading s m packet took k e = hears_by false s m packet (reads s packet) took s.columns (hear_packet false s.heard (ends_message packet) (contents_of s.columns packet.«data».now)) k k.columns refl e

hears_cancelling : (s : ClientSession) (m : Coming) (packet : PacketRef) (took : ClientMove) → Knows s m → taken_cancelling s (ends_message packet) packet.«data».now ≡ Ok took → Hears true s m packet (skips s packet) took
unfolding taken_cancelling
hears_cancelling s m packet took k e = hears_by true s m packet (skips s packet) took s.columns (hear_packet true s.heard (ends_message packet) (contents_of s.columns packet.«data».now)) k k.columns refl e

-- What the client knows behind it.
abbrev behind_packet : Bool → Coming → PacketRef → Coming
behind_packet ends m packet = if ends then nothing_yet else with_packet m packet

read_knows : (s : ClientSession) (m : Coming) (packet : PacketRef) (ends : Bool) (heard : Heard) → s.columns ≡ m.columns → heard.done ≡ done_of (final_done (with_packet m packet).tokens)
    → Knows (read s ends heard (contents_of s.columns packet.«data».now)).session (behind_packet ends m packet)
read_knows s m packet false heard c d = record { columns = ap (λ (x : Option ℕ). (contents_of x packet.«data».now).columns) c; done = d }
read_knows s m packet true heard c d = record { columns = refl; done = refl }

skip_knows_to_end : (s : ClientSession) (heard : Heard) (done : FinalDone) → Knows (skipped_to_end s heard done).session nothing_yet
skip_knows_to_end s heard Awaited = record { columns = refl; done = refl }
skip_knows_to_end s heard Answered = record { columns = refl; done = refl }
skip_knows_to_end s heard Acknowledged = record { columns = refl; done = refl }

skip_knows : (s : ClientSession) (m : Coming) (packet : PacketRef) (ends : Bool) (heard : Heard) → s.columns ≡ m.columns → heard.done ≡ done_of (final_done (with_packet m packet).tokens)
    → Knows (skipped s ends heard (contents_of s.columns packet.«data».now)).session (behind_packet ends m packet)
skip_knows s m packet false heard c d = record { columns = ap (λ (x : Option ℕ). (contents_of x packet.«data».now).columns) c; done = d }
skip_knows s m packet true heard c d = skip_knows_to_end s heard heard.done

took_knows : (s : ClientSession) (m : Coming) (packet : PacketRef) (took : ClientMove) (stage : Stage) → (is_broken stage ≡ false → Knows s m) → taken_in stage s (ends_message packet) packet.«data».now ≡ Ok took
    → Knows took.session (behind_packet (ends_message packet) m packet)
took_knows s m packet took Idle k e = absurd cc
took_knows s m packet took (Sending kind left before) k e = absurd cc
took_knows s m packet took Reading k e =
    let h = hears_reading s m packet took (k refl) e in
    subst (λ (t : ClientMove). Knows t.session (behind_packet (ends_message packet) m packet)) (sym h.is) (read_knows s m packet (ends_message packet) h.heard (k refl).columns h.done)
took_knows s m packet took Cancelling k e =
    let h = hears_cancelling s m packet took (k refl) e in
    subst (λ (t : ClientMove). Knows t.session (behind_packet (ends_message packet) m packet)) (sym h.is) (skip_knows s m packet (ends_message packet) h.heard (k refl).columns h.done)
took_knows s m packet took (Broken fault) k e = absurd cc

broken_not : true ≡ false → ⊥
broken_not e = cc

take_follows : (s : ClientSession) (m : Coming) (packet : PacketRef) (r : Result ClientMove ClientFault) → Follows s m → taken_of s packet ≡ r → Follows (took_of s r).session (behind_packet (ends_message packet) m packet)
take_follows s m packet (Ok took) f said whole = took_knows s m packet took s.stage f said
take_follows s m packet (Err fault) f said whole = absurd (broken_not whole)

-- ---- Every other call

left : (s next : ClientSession) (m : Coming) → Leaves s next → Follows s m → Follows next m
left s next m l f whole = let k = f (l.whole whole) in record { columns = l.columns ∙ k.columns; done = l.heard ∙ k.done }

lose_follows : (s : ClientSession) (m : Coming) (stage : Stage) → Follows (with_stage s (lost_stage stage)) m
lose_follows s m Idle whole = absurd (broken_not whole)
lose_follows s m (Sending kind left packets) whole = absurd (broken_not whole)
lose_follows s m Reading whole = absurd (broken_not whole)
lose_follows s m Cancelling whole = absurd (broken_not whole)
lose_follows s m (Broken fault) whole = absurd (broken_not whole)

-- ---- All calls

follows : (s : ClientSession) (m : Coming) (call : Call) → Follows s m → Follows (turn s call).session (coming_behind m call)
follows s m (MarkReset reset) f = left s _ m (mark_leaves s (marked s reset) (unless_idle s.stage) (record { heard = refl; columns = refl; whole = λ h. h })) f
follows s m (Start request) f = left s _ m (start_leaves s request s.stage refl) f
follows s m Send f = left s _ m (send_leaves s s.stage refl) f
follows s m Cancel f = left s _ m (cancel_leaves s s.stage refl) f
follows s m (Take packet) f = take_follows s m packet (taken_of s packet) f refl
follows s m Lose f = lose_follows s m s.stage
follows s m (Stream step) f = left s _ m (stream_leaves s step) f

follows_all : (s : ClientSession) (m : Coming) (calls : List Call) → Follows s m → Follows (after s calls) (coming m calls)
follows_all s m [] f = f
follows_all s m (call ∷ calls) f = follows_all (turn s call).session (coming_behind m call) calls (follows s m call f)

new_follows : (size : ℕ) → Follows (new_session size) nothing_yet
new_follows size whole = record { columns = refl; done = refl }

follows_so : (size : ℕ) (calls : List Call) (s : ClientSession) → s ≡ after (new_session size) calls → Follows s (coming nothing_yet calls)
follows_so size calls s e = subst (λ (x : ClientSession). Follows x (coming nothing_yet calls)) (sym e) (follows_all (new_session size) nothing_yet calls (new_follows size))

-- ---- The end of a message

-- What is answered, and where the client is.
abbrev EndsSo : Bool → Taken → Stage → ClientMove → Type 0
EndsSo idle there going took = (took.answer ≡ (if idle then there else takes.More)) × (took.session.stage ≡ (if idle then Idle else going))

skip_ends_by : (s : ClientSession) (heard : Heard) (done : FinalDone) (b : Bool) → is_acknowledging done ≡ b → EndsSo b takes.Acknowledged Cancelling (skipped_to_end s heard done)
skip_ends_by s heard Awaited true e = absurd cc
skip_ends_by s heard Answered true e = absurd cc
skip_ends_by s heard Acknowledged true e = (refl, refl)
skip_ends_by s heard Awaited false e = (refl, refl)
skip_ends_by s heard Answered false e = (refl, refl)
skip_ends_by s heard Acknowledged false e = absurd cc

skip_ends : (s : ClientSession) (ends : Bool) (heard : Heard) (contents : Contents) (b : Bool) → s.stage ≡ Cancelling → is_acknowledging heard.done ≡ b
    → EndsSo (ends && b) takes.Acknowledged Cancelling (skipped s ends heard contents)
skip_ends s false heard contents b c e = (refl, c)
skip_ends s true heard contents b c e = skip_ends_by s heard heard.done b e

pub ends_cancelling : (size : ℕ) (calls : List Call) (s : ClientSession) (packet : PacketRef) (took : ClientMove) → s ≡ after (new_session size) calls → s.stage ≡ Cancelling → taken_of s packet ≡ Ok took
    → EndsSo (ends_acknowledged calls packet) takes.Acknowledged Cancelling took
ends_cancelling size calls s packet took is c e =
    let f = follows_so size calls s is (ap is_broken c) in
    let said : taken_cancelling s (ends_message packet) packet.«data».now ≡ Ok took = ap (λ (stage : Stage). taken_in stage s (ends_message packet) packet.«data».now) (sym c) ∙ e in
    let h = hears_cancelling s (coming nothing_yet calls) packet took f said in
    subst (EndsSo (ends_acknowledged calls packet) takes.Acknowledged Cancelling) (sym h.is)
    (skip_ends s (ends_message packet) h.heard _ _ c (ap is_acknowledging h.done ∙ acknowledging_so (final_done (message_with calls packet))))

read_ends : (s : ClientSession) (ends : Bool) (heard : Heard) (contents : Contents) → s.stage ≡ Reading → EndsSo ends takes.Finished Reading (read s ends heard contents)
read_ends s false heard contents c = (refl, c)
read_ends s true heard contents c = (refl, refl)

ends_reading_by : (s : ClientSession) (ends : Bool) (contents : Contents) (took : ClientMove) (r : Result Heard ClientFault) → s.stage ≡ Reading → (r >>= λ heard. Ok (read s ends heard contents)) ≡ Ok took
    → EndsSo ends takes.Finished Reading took
ends_reading_by s ends contents took (Ok heard) c e = let is : read s ends heard contents ≡ took = cc in subst (EndsSo ends takes.Finished Reading) is (read_ends s ends heard contents c)
ends_reading_by s ends contents took (Err fault) c e = absurd cc

pub ends_reading : (s : ClientSession) (packet : PacketRef) (took : ClientMove) → s.stage ≡ Reading → taken_of s packet ≡ Ok took → EndsSo (ends_message packet) takes.Finished Reading took
unfolding taken_reading
ends_reading s packet took c e =
    let said : taken_reading s (ends_message packet) packet.«data».now ≡ Ok took = ap (λ (stage : Stage). taken_in stage s (ends_message packet) packet.«data».now) (sym c) ∙ e in
    ends_reading_by s (ends_message packet) _ took (hear_packet false s.heard (ends_message packet) (contents_of s.columns packet.«data».now)) c said

-- a message ends with its final DONE
finishes_in : (s : ClientSession) (m : Coming) (packet : PacketRef) (took : ClientMove) (stage : Stage) → (is_broken stage ≡ false → Knows s m) → taken_in stage s (ends_message packet) packet.«data».now ≡ Ok took
    → ends_message packet ≡ true → is_some (final_done (with_packet m packet).tokens) ≡ true
finishes_in s m packet took Idle k e ends = absurd cc
finishes_in s m packet took (Sending kind left before) k e ends = absurd cc
finishes_in s m packet took Reading k e ends =
    let h = hears_reading s m packet took (k refl) e in
    sym (final_so (final_done (with_packet m packet).tokens)) ∙ (sym (ap is_final h.done) ∙ h.final ends)
finishes_in s m packet took Cancelling k e ends =
    let h = hears_cancelling s m packet took (k refl) e in
    sym (final_so (final_done (with_packet m packet).tokens)) ∙ (sym (ap is_final h.done) ∙ h.final ends)
finishes_in s m packet took (Broken fault) k e ends = absurd cc

pub finishes : (size : ℕ) (calls : List Call) (s : ClientSession) (packet : PacketRef) (took : ClientMove) → s ≡ after (new_session size) calls → taken_of s packet ≡ Ok took → ends_message packet ≡ true
    → is_some (final_done (message_with calls packet)) ≡ true
finishes size calls s packet took is e ends = finishes_in s (coming nothing_yet calls) packet took s.stage (follows_so size calls s is) e ends
