-- What each entry that arrives asks of the end that takes it. The ends that are built answer a fault
-- where it does not hold.
use Rattle.std.specs.Prelude.{ℕ, ◌≡◌, List, [], ◌∷◌, Option, Some, None}
use Rattle.tds_packet.specs.declared.status.Reset.{Reset}
use Rattle.tds_session.specs.Answer.{Answers}
use Rattle.tds_token.specs.declared.env_change.EnvChange.{EnvChange}
use Rattle.tds_token.specs.declared.env_change.EnvChange.TheVariants as change
use Rattle.tds_token.specs.Told.{change_applied, changes_of}
use Rattle.tds_world.specs.declared.report.ClientView.{ClientView}
use Rattle.tds_world.specs.declared.report.ClientView.TheVariants as view
use Rattle.tds_world.specs.Arrivals.{server_acts, client_acts, hears, hears_of}
use Rattle.tds_packet.specs.Resets.{reset_effect}
use Rattle.tds_world.specs.Connection.{Connection, phase}
use Rattle.tds_world.specs.Entries.{Up, Part, End, Drop, Attention, Down, Step, Acknowledgement}
use Rattle.tds_world.specs.Lane.{passed}
use Rattle.tds_world.specs.Laws.{OfEachConnection}
use Rattle.tds_world.specs.Phase.{state_of}
use Rattle.tds_world.specs.World.{World}

-- No packet of a request comes to a server while an answer is due. An attention may come at any
-- time.
abbrev pub ServerExpects : Connection → Up → Type 0
ServerExpects c (Attention r) = Unit {0}
ServerExpects c _ = c.due ≡ []

-- No answer comes to a client that is idle or sending, and no acknowledgement to one that asked for
-- none.
abbrev pub ClientExpects : ClientView → Down → Type 0
ClientExpects view.Idle e = ⊥
ClientExpects view.Sending e = ⊥
ClientExpects view.Reading (Step r place s) = Unit {0}
ClientExpects view.Reading (Acknowledgement r place changes) = ⊥
ClientExpects view.Cancelling e = Unit {0}

-- The end of a reset clears the mark, and no other change does.
abbrev pub marked_after : EnvChange → Option Reset → Option Reset
marked_after change.ResetDone mark = None
marked_after _ mark = mark

-- Changes, one after the other, each apply to the descriptor heard, and the end of a reset meets a
-- mark: from this mark and descriptor the client comes to those.
abbrev pub Apply : Option Reset → ℕ → List EnvChange → Option Reset → ℕ → Type 0
Apply mark heard [] last_mark last = (mark ≡ last_mark) × (heard ≡ last)
Apply mark heard (e ∷ es) last_mark last =
    (next : ℕ) × (change_applied (reset_effect mark) heard e ≡ Some next)
    × Apply (marked_after e mark) next es last_mark last

abbrev pub ChangesApply : Connection → Down → Type 0
ChangesApply c (Step r place s) =
    Apply c.mark c.heard (changes_of s.tokens) (hears s c).mark (hears s c).heard
ChangesApply c (Acknowledgement r place changes) =
    Apply c.mark c.heard changes c.mark (hears_of changes c).heard

-- Of these entries each is welcome where it arrives, one after the other.
abbrev pub WelcomeToServer : Answers → Connection → List Up → Type 0
WelcomeToServer answers c [] = Unit {0}
WelcomeToServer answers c (e ∷ es) =
    ServerExpects c e
    × WelcomeToServer answers (server_acts answers (record c { to_server = passed e c.to_server }) e) es

abbrev pub WelcomeToClient : Connection → List Down → Type 0
WelcomeToClient c [] = Unit {0}
WelcomeToClient c (e ∷ es) =
    (ClientExpects (state_of (phase c)) e × ChangesApply c e)
    × WelcomeToClient (client_acts (record c { to_client = passed e c.to_client }) e) es

-- All that waits is, either way, however much of it a delivery brings.
abbrev pub AllWelcome : Answers → World → Type 0
AllWelcome answers w =
    OfEachConnection
    (λ c. WelcomeToServer answers c c.to_server.waiting × WelcomeToClient c c.to_client.waiting) w
