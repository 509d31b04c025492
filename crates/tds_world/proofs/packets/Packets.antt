-- Each packet that waits for a server fits the packet size.
use Rattle.std.proofs.Common.{◌≡◌, ◌≤◌, ◌+◌, ◌-◌, ℕ, List, [], ◌∷◌, ◌++◌, Bool, true, false, length, take, refl, min, arith}
use Rattle.std.proofs.lemmas.Bool.Decides.{nat_tests}
use Rattle.std.proofs.lemmas.List.{length-take}
use Rattle.std.specs.List.{AllByRecursion}
use Rattle.std.specs.Prelude.{nat_le}
use Rattle.tds_session.specs.Answer as answer
use Rattle.tds_session.specs.Answer.{Answers}
use Rattle.tds_world.specs.declared.event.Setup.{Setup}
use Rattle.tds_world.specs.Arrivals.{client_acts, works_on}
use Rattle.tds_world.specs.Bounds.{IsSetup}
use Rattle.tds_world.specs.Caller.{cancels_by, sends_by, sends_last, next_packet, drop_packet}
use Rattle.tds_world.specs.Connection.{Connection}
use Rattle.tds_world.specs.Entries.{Up, up_packet, Part, End, Drop, Attention, Down, Step, Acknowledgement}
use Rattle.tds_world.specs.Lane.{passed}
use Rattle.tds_world.specs.Laws.{Always}
use Rattle.tds_world.specs.Packets.{IsSized, PacketsFit}
use Rattle.tds_world.specs.Phase.{Phase, Settled, Asked, Sending, Reading, Cancelling}
use Rattle.tds_world.specs.Record.{Record}
use Rattle.tds_world.proofs.events.Moves.{KeptByMoves, by_moves}
use Rattle.tds_world.proofs.events.Worlds.{always}
use Rattle.tds_world.proofs.packets.Ranges.{packet_least}

abbrev FitsIn : ℕ → Up → Type 0
FitsIn size e = IsSized size (up_packet e)

-- Those that wait do.
abbrev Fit : ℕ → Connection → Type 0
Fit size c = AllByRecursion (FitsIn size) c.to_server.waiting

one_more : (size : ℕ) (es : List Up) (e : Up) → AllByRecursion (FitsIn size) es → FitsIn size e → AllByRecursion (FitsIn size) (es ++ e ∷ [])
one_more size [] e h f = (f, tt)
one_more size (x ∷ xs) e h f = (h.0, one_more size xs e h.1 f)

-- ---- Deliveries and work

client_fit : (size : ℕ) (c : Connection) (e : Down) → Fit size c → Fit size (client_acts (record c { to_client = passed e c.to_client }) e)
client_fit size c (Step r place s) h = h
client_fit size c (Acknowledgement r place changes) h = h

works_fit : (size : ℕ) (c : Connection) (due : List answer.Step) → Fit size c → Fit size (works_on c due)
works_fit size c [] h = h
works_fit size c (s ∷ ss) h = h

-- ---- Sends and cancels

cancels_fit_by : (size : ℕ) (p : Phase) (q : Record) (c : Connection) → 8 ≤ size → Fit size c → Fit size (cancels_by p q c)
cancels_fit_by size Settled q c room h = h
cancels_fit_by size Cancelling q c room h = h
cancels_fit_by size Asked q c room h = h
cancels_fit_by size Sending q c room h =
    one_more size (c.to_server.waiting ++ Drop q.number (drop_packet q) ∷ []) (Attention q.number)
    (one_more size c.to_server.waiting (Drop q.number (drop_packet q)) h (record { counted = refl; fits = room }))
    (record { counted = refl; fits = room })
cancels_fit_by size Reading q c room h = one_more size c.to_server.waiting (Attention q.number) h (record { counted = refl; fits = room })

rest_fits : (size left : ℕ) → 8 ≤ size → nat_le left (size - 8) ≡ true → 8 + left ≤ size
rest_fits size left room e = grind (arith, nat_tests)

sends_fit : (size : ℕ) (b : Bool) (q : Record) (c : Connection) → 8 ≤ size → sends_last (size - 8) q ≡ b → Fit size c → Fit size (sends_by b (size - 8) q c)
sends_fit size true q c room l h =
    one_more size c.to_server.waiting (End q.number q.asking (next_packet q 1 q.left)) h (record { counted = refl; fits = rest_fits size (length q.left) room l })
sends_fit size false q c room l h =
    let taken : length (take (size - 8) q.left) ≡ min (size - 8) (length q.left) = length-take (size - 8) q.left in
    one_more size c.to_server.waiting (Part q.number (next_packet q 0 (take (size - 8) q.left))) h (record { counted = refl; fits = omega arith })

fit_kept : (setup : Setup) (answers : Answers) → IsSetup setup → KeptByMoves setup answers (λ c ups downs. AllByRecursion (FitsIn setup.packet_size) ups)
fit_kept setup answers u =
    let room : 8 ≤ setup.packet_size = (let least : 512 ≤ setup.packet_size = packet_least setup u in omega arith) in record {
      opened = λ lease. tt;
      stands = λ c m s h. h;
      asked = λ number lease n q c x is f h. h;
      sent = λ last q c is at l f h. sends_fit setup.packet_size last q c room l h;
      cancelled = λ p q c is at f h. cancels_fit_by setup.packet_size p q c room h;
      worked = λ c s ss is f h. works_fit setup.packet_size c (s ∷ ss) h;
      at_server = λ c e es f h. h.1;
      at_client = λ c e es f h. client_fit setup.packet_size c e h;
      server_waits = λ c es k m h. h;
      client_waits = λ c es k m h. h;
    }

pub packets_fit : (setup : Setup) (answers : Answers) → IsSetup setup → Always setup answers (PacketsFit setup)
packets_fit setup answers u events = always (Fit setup.packet_size) setup answers events (by_moves setup answers (λ c ups downs. AllByRecursion (FitsIn setup.packet_size) ups) (fit_kept setup answers u))
