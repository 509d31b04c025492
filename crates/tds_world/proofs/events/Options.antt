-- Each connection's server is told once what to do at an attention: when the connection is opened.
use Rattle.std.proofs.Common.{◌≡◌, ◌-◌, Bool, true, false, refl, ◌∙◌}
use Rattle.tds_session.specs.Answer.{Answers}
use Rattle.tds_world.specs.declared.event.Setup.{Setup}
use Rattle.tds_world.specs.Arrivals.{server_acts, client_acts}
use Rattle.tds_world.specs.Caller.{cancels_by, sends_by}
use Rattle.tds_world.specs.Connection.{Connection}
use Rattle.tds_world.specs.Entries.{Up, Part, Down, Step, Acknowledgement}
use Rattle.tds_world.specs.Lane.{passed}
use Rattle.tds_world.specs.Phase.{Phase, Settled}
use Rattle.tds_world.specs.Record.{Record}
use Rattle.tds_world.proofs.events.Moves.{KeptByMoves, by_moves}
use Rattle.tds_world.proofs.events.Worlds.{Any, Kept}

pub server_told : (answers : Answers) (c : Connection) (e : Up) → (server_acts answers c e).on_attention ≡ c.on_attention
server_told answers c (Part r p) = refl
server_told answers c e = refl

pub client_told : (c : Connection) (e : Down) → (client_acts c e).on_attention ≡ c.on_attention
client_told c (Step r place s) = refl
client_told c (Acknowledgement r place changes) = refl

pub cancels_told : (p : Phase) (q : Record) (c : Connection) → (cancels_by p q c).on_attention ≡ c.on_attention
cancels_told Settled q c = refl
cancels_told p q c = refl

sends_told : (setup : Setup) (b : Bool) (q : Record) (c : Connection) → (sends_by b (setup.packet_size - 8) q c).on_attention ≡ c.on_attention
sends_told setup true q c = refl
sends_told setup false q c = refl

pub told_moves : (setup : Setup) (answers : Answers) → KeptByMoves setup answers (λ c ups downs. c.on_attention ≡ setup.on_attention)
told_moves setup answers = record {
  opened = λ lease. refl;
  stands = λ c m s h. h;
  asked = λ number lease n q c x is f h. h;
  sent = λ last q c is at l f h. sends_told setup last q c ∙ h;
  cancelled = λ p q c is at f h. cancels_told p q c ∙ h;
  worked = λ c s ss is f h. h;
  at_server = λ c e es f h. server_told answers (record c { to_server = passed e c.to_server }) e ∙ h;
  at_client = λ c e es f h. client_told (record c { to_client = passed e c.to_client }) e ∙ h;
  server_waits = λ c es k m h. h;
  client_waits = λ c es k m h. h;
}

pub told_kept : (setup : Setup) (answers : Answers) → Kept setup answers Any (λ c. c.on_attention ≡ setup.on_attention)
told_kept setup answers = by_moves setup answers (λ c ups downs. c.on_attention ≡ setup.on_attention) (told_moves setup answers)
