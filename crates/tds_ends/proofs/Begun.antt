-- A connection that is lent: a new one, and one whose next request is to ask for a reset.
use Rattle.std.proofs.Common.{◌≡◌, ℕ, refl, ap, Option, Some, None}
use Rattle.tds_client.specs.Session.{ClientSession, new_session, marked}
use Rattle.tds_packet.specs.declared.status.Reset.{Reset}
use Rattle.tds_server.specs.State.{server_with}
use Rattle.tds_session.specs.declared.attention.OnAttention.{OnAttention}
use Rattle.tds_packet.specs.Resets.{strongest}
use Rattle.tds_world.specs.declared.report.Place.{Place}
use Rattle.tds_world.specs.Connection.{Connection, Standing, new_connection, phase}
use Rattle.tds_world.specs.Phase.{Phase, Settled, phase_in, phase_of}
use Rattle.tds_world.specs.Record.{Record}
use Rattle.tds_ends.specs.Stands.{MatchesClient, MatchesServer, BeginsBy, BeginsIn}

pub new_client : (size : ℕ) (o : OnAttention) (p : Place) → MatchesClient (new_session size) (new_connection o p)
new_client size o p = record { stage = refl; descriptor = refl; mark = refl; done = refl; columns = tt; begins = tt }

pub new_server_matches : {E : Type 0} (engine : E) (o : OnAttention) (p : Place) → MatchesServer (server_with o engine) (new_connection o p)
new_server_matches engine o p = record { told = refl; session = refl; phase = (refl, refl) }

begins_settled : (p : Phase) (q : Record) (mark : Option Reset) → p ≡ Settled → BeginsBy p q mark
begins_settled p q mark e = rw e tt

begins_where : (current : Option Record) (mark : Option Reset) → phase_in current ≡ Settled → BeginsIn current mark
begins_where None mark e = tt
begins_where (Some q) mark e = begins_settled (phase_of q) q mark e

pub marked_matches : (s : ClientSession) (c : Connection) (r : Reset) (standing : Standing) → MatchesClient s c → phase c ≡ Settled → MatchesClient (marked s r) (record c { mark = strongest (Some r) c.mark; standing = standing })
marked_matches s c r standing m e = record {
  stage = m.stage;
  descriptor = m.descriptor;
  mark = ap (λ (mark : Option Reset). strongest (Some r) mark) m.mark;
  done = m.done;
  columns = m.columns;
  begins = begins_where c.current (strongest (Some r) c.mark) e;
}
