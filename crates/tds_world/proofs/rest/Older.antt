-- Older requests are settled.
use Rattle.std.proofs.Common.{◌≡◌, ℕ, length, List, [], ◌∷◌, ◌-◌, Bool, true, false, refl, sym, subst, Option, Some, None}
use Rattle.std.specs.List.{AllByRecursion}
use Rattle.tds_session.specs.Answer.{Answers}
use Rattle.tds_world.specs.declared.event.Setup.{Setup}
use Rattle.tds_world.specs.Arrivals.{server_acts, client_acts, works_on}
use Rattle.tds_world.specs.Caller.{cancels_by, sends_by}
use Rattle.tds_world.specs.Connection.{Connection, joined}
use Rattle.tds_world.specs.Entries.{Up, Part}
use Rattle.tds_world.specs.Lane.{passed}
use Rattle.tds_world.specs.Lawful.{Lawful}
use Rattle.tds_world.specs.Phase.{Phase, Settled, phase_in, phase_of, is_settled}
use Rattle.tds_world.specs.Record.{Record}
use Rattle.tds_world.specs.World.{World}
use Rattle.tds_world.proofs.events.Moves.{BothIn, MovesOver, noted_on_top, by_noted_moves, AnyAt}
use Rattle.tds_world.proofs.events.Noted.{KeptIn}
use Rattle.tds_world.proofs.requests.Newest.{client_past}
use Rattle.tds_world.proofs.requests.Numbers.{InOrder, InOrderWith, in_order_noted}
use Rattle.tds_world.proofs.requests.OwnTransactions.{works_past}

abbrev pub AreSettled : List Record → Type 0
AreSettled qs = AllByRecursion (λ (q : Record). is_settled (phase_of q) ≡ true) qs

abbrev pub OlderSettled : Connection → Type 0
OlderSettled c = AreSettled c.past

and_newest : (past : List Record) (o : Option Record) → is_settled (phase_in o) ≡ true → AreSettled past → AreSettled (joined past o)
and_newest past None e h = h
and_newest [] (Some q) e h = (e, tt)
and_newest (p ∷ ps) (Some q) e h = (h.0, and_newest ps (Some q) e h.1)

sends_past : (b : Bool) (room : ℕ) (q : Record) (c : Connection) → (sends_by b room q c).past ≡ c.past
sends_past true room q c = refl
sends_past false room q c = refl

cancels_past : (p : Phase) (q : Record) (c : Connection) → (cancels_by p q c).past ≡ c.past
cancels_past Settled q c = refl
cancels_past p q c = refl

server_past : (answers : Answers) (c : Connection) (e : Up) → (server_acts answers c e).past ≡ c.past
server_past answers c (Part r p) = refl
server_past answers c e = refl

then_settled : (c d : Connection) → d.past ≡ c.past → OlderSettled c → OlderSettled d
then_settled c d e h = subst AreSettled (sym e) h

older_moves : (setup : Setup) (answers : Answers) → MovesOver setup answers AnyAt InOrderWith (λ w c ups downs. OlderSettled c)
older_moves setup answers = record {
  stands = λ w r n c b f h. h;
  asked = λ w lease n q c x s i f h. and_newest c.past c.current i h;
  sent = λ w last q c i s b f h. then_settled c (sends_by last (setup.packet_size - 8) q c) (sends_past last (setup.packet_size - 8) q c) h;
  cancelled = λ w p q c i at f h. then_settled c (cancels_by p q c) (cancels_past p q c) h;
  worked = λ w c s ss is f h. then_settled c (works_on c (s ∷ ss)) (works_past (length w.asked_on) c (s ∷ ss) is f.0.0 f.1) h;
  at_server = λ w c e es f h.
      let p : Connection = record c { to_server = passed e c.to_server } in then_settled c (server_acts answers p e) (server_past answers p e) h;
  at_client = λ w c e es f h. then_settled c (client_acts (record c { to_client = passed e c.to_client }) e) (client_past (length w.asked_on) c e es f.0.0 f.1) h;
  server_waits = λ w c es k m h. h;
  client_waits = λ w c es k m h. h;
}

-- With its requests in order, and the older ones settled.
abbrev pub InOrderAndSettled : World → Connection → Type 0
InOrderAndSettled w c = InOrder w c × OlderSettled c

pub older_kept : (setup : Setup) (answers : Answers) → Lawful answers → KeptIn setup answers InOrderAndSettled
older_kept setup answers l =
    by_noted_moves setup answers (BothIn InOrderWith (λ w c ups downs. OlderSettled c))
    (noted_on_top setup answers AnyAt InOrderWith (λ w c ups downs. OlderSettled c) (in_order_noted setup answers l)
    (record { grows = λ w v c u d a h. h; opened = λ w n. tt; moves = older_moves setup answers }))
