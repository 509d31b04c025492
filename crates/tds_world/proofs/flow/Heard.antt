-- The descriptor heard stays tied to the server's.
use Rattle.std.proofs.Common.{◌≡◌, ℕ, List, [], ◌∷◌, ◌++◌, refl, sym, ap, subst, ◌∙◌, Some}
use Rattle.std.specs.Prelude.{unwrap_or}
use Rattle.tds_session.specs.Answer as answer
use Rattle.tds_session.specs.Answer.{Answers}
use Rattle.tds_session.specs.Attention.{rolls_back}
use Rattle.tds_token.specs.declared.env_change.EnvChange.{EnvChange}
use Rattle.tds_world.specs.Arrivals.{server_acts, client_acts, heard_after, heard_behind, is_midway, stops}
use Rattle.tds_world.specs.Connection.{Connection}
use Rattle.tds_world.specs.Entries.{Up, Part, End, Drop, Attention, Down, Step, Acknowledgement}
use Rattle.tds_world.specs.Lawful.{Lawful}
use Rattle.tds_world.proofs.flow.Flow.{Hears, HeardWith}
use Rattle.tds_world.proofs.flow.Stops.{stop_heard}

hears_ack : (d e g r id : ℕ) (changes : List EnvChange) (downs : List Down) → heard_behind e changes ≡ Some g → Hears d downs e → Hears d (downs ++ Acknowledgement r id changes ∷ []) g
hears_ack d e g r id changes [] a h = (g, ap (λ x. heard_behind x changes) h ∙ a, refl)
hears_ack d e g r id changes (Step q i s ∷ es) a h = (h.0, h.1, hears_ack h.0 e g r id changes es a h.2)
hears_ack d e g r id changes (Acknowledgement q i others ∷ es) a h = (h.0, h.1, hears_ack h.0 e g r id changes es a h.2)

pub hears_step : (d e g r id : ℕ) (s : answer.Step) (downs : List Down) → heard_after e s ≡ Some g → Hears d downs e → Hears d (downs ++ Step r id s ∷ []) g
hears_step d e g r id s [] a h = (g, ap (λ x. heard_after x s) h ∙ a, refl)
hears_step d e g r id s (Step q i t ∷ es) a h = (h.0, h.1, hears_step h.0 e g r id s es a h.2)
hears_step d e g r id s (Acknowledgement q i changes ∷ es) a h = (h.0, h.1, hears_step h.0 e g r id s es a h.2)

pub server_heard : (ans : Answers) (c : Connection) (e : Up) → Lawful ans → HeardWith c c.to_client.waiting → HeardWith (server_acts ans c e) (server_acts ans c e).to_client.waiting
server_heard ans c (Part r p) w h = h
server_heard ans c (End r a p) w h = (h.0, w.tells c.session a.descriptor a.mark a.request)
server_heard ans c (Drop r p) w h = h
server_heard ans c (Attention r) w h =
    (hears_ack c.heard c.session.descriptor (stops c).after.descriptor r _ (stops c).changes c.to_client.waiting (stop_heard (rolls_back c.on_attention (is_midway c.taken c.due) c.session) c.session) h.0, tt)

pub client_heard : (c : Connection) (e : Down) (es : List Down) → HeardWith c (e ∷ es) → HeardWith (client_acts c e) es
client_heard c (Step r id s) es h = (subst (λ o. Hears (unwrap_or o c.heard) es c.session.descriptor) (sym h.0.1) h.0.2, h.1)
client_heard c (Acknowledgement r id changes) es h = (subst (λ o. Hears (unwrap_or o c.heard) es c.session.descriptor) (sym h.0.1) h.0.2, h.1)
