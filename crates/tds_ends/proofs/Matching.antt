-- What an end stands for doesn't rest on the rest of its connection.
use Rattle.std.proofs.Common.{◌≡◌, ◌≢◌, ◌∙◌, ◌+◌, ◌%◌, ℕ, sym, ap, subst, Option, []}
use Rattle.std.specs.Prelude.{nat_lt}
use Rattle.tds_client.specs.Session.{ClientSession}
use Rattle.tds_packet.specs.declared.status.Reset.{Reset}
use Rattle.tds_server.specs.State as server
use Rattle.tds_server.specs.State.{ServerState, Message}
use Rattle.tds_world.specs.Connection.{Connection}
use Rattle.tds_world.specs.Record.{Record}
use Rattle.tds_ends.specs.Stands.{BeginsIn, IsOf, MatchesClient, MatchesPhase, MatchesServer, stage_in}

phase_same : (p : server.Phase) (c d : Connection) → d.parts ≡ c.parts → d.due ≡ c.due → d.taken ≡ c.taken → ((m : Message) → d.parts ≢ [] → IsOf m c.current → IsOf m d.current) → MatchesPhase p c → MatchesPhase p d
phase_same server.Waiting c d parts due taken of h = (parts ∙ h.0, due ∙ h.1)
phase_same (server.Receiving m) c d parts due taken of h =
    let some : d.parts ≢ [] = λ e. h.1 (sym parts ∙ e) in
    (h.0 ∙ sym parts, some, due ∙ h.2, of m some h.3)
phase_same (server.Answering steps id begun) c d parts due taken of h =
    (parts ∙ h.0, h.1 ∙ sym due, λ e. h.2 (sym due ∙ e), h.3 ∙ ap (λ (k : ℕ). (k + 1) % 256) (sym taken), h.4 ∙ ap (λ (k : ℕ). nat_lt 0 k) (sym taken))
phase_same (server.Broken fault) c d parts due taken of h = absurd h

pub server_still_matches : {E : Type 0} (s : ServerState E) (c d : Connection) → d.on_attention ≡ c.on_attention → d.session ≡ c.session → d.parts ≡ c.parts → d.due ≡ c.due → d.taken ≡ c.taken → ((m : Message) → d.parts ≢ [] → IsOf m c.current → IsOf m d.current) → MatchesServer s c → MatchesServer s d
server_still_matches s c d told session parts due taken of m = record {
  told = m.told ∙ sym told;
  session = m.session ∙ sym session;
  phase = phase_same s.phase c d parts due taken of m.phase;
}

pub client_still_matches : (s : ClientSession) (c d : Connection) → d.current ≡ c.current → d.heard ≡ c.heard → d.mark ≡ c.mark → MatchesClient s c → MatchesClient s d
client_still_matches s c d current heard mark m = record {
  stage = m.stage ∙ ap stage_in (sym current);
  descriptor = m.descriptor ∙ sym heard;
  mark = m.mark ∙ sym mark;
  done = m.done;
  columns = m.columns;
  begins = subst (λ (o : Option Record). BeginsIn o d.mark) (sym current) (subst (λ (r : Option Reset). BeginsIn c.current r) (sym mark) m.begins);
}
