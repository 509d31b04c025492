-- What becomes of a transaction where a request is cancelled.
use Rattle.std.specs.Prelude.{ℕ, ◌≡◌, List, [], ◌∷◌, false, Some, None}
use Rattle.std.specs.List.{AllByRecursion}
use Rattle.tds_session.specs.Session.{SessionState}
use Rattle.tds_world.specs.declared.report.Place.TheVariants as place
use Rattle.tds_world.specs.Connection.{Connection, In, records}
use Rattle.tds_world.specs.Entries.{Down, Step, Acknowledgement}
use Rattle.tds_world.specs.Laws.{OfEachConnection}
use Rattle.tds_world.specs.Record.{Record, Acknowledged}
use Rattle.tds_world.specs.Steps.{sent_down}
use Rattle.tds_world.specs.World.{World, Holding, numbered}

-- The last step of the answer to this request is not among these.
abbrev pub NoLast : ℕ → List Down → Type 0
NoLast r [] = Unit {0}
NoLast r (Step q place s ∷ es) = (q ≡ r → s.last ≡ false) × NoLast r es
NoLast r (Acknowledgement q place changes ∷ es) = NoLast r es

-- The newest request was stopped in the middle of its answer: its cancel is acknowledged, a step of it
-- was done, and the last one was not.
pub record IsStopped (c : Connection) : Type 0 where
  pub request : Record
  pub newest : c.current ≡ Some request
  pub acknowledged : request.fate ≡ Acknowledged
  pub ran : (s : SessionState) × (request.ran ≡ Some s)
  pub middle : NoLast request.number (sent_down c)

-- Both ends are outside a transaction.
pub record IsOutside (c : Connection) : Type 0 where
  pub client : c.heard ≡ 0
  pub server : c.session.descriptor ≡ 0

abbrev pub StoppedIsOutside : World → Type 0
StoppedIsOutside w = OfEachConnection (λ c. IsStopped c → IsOutside c) w

-- The connection's lease came from this ticket, and no request of the lease ran, whatever was cancelled.
pub record IsUnrun (w : World) (c : Connection) (ticket : Holding) : Type 0 where
  pub lease : ℕ
  pub number : ℕ
  pub leased : c.standing ≡ In (place.Leased lease)
  pub resumed : (h : Holding) × (numbered w.leases lease ≡ Some h) × (h.resumed ≡ Some number)
  pub kept : numbered w.tickets number ≡ Some ticket
  pub unrun : AllByRecursion (λ q. q.lease ≡ lease → q.ran ≡ None) (records c)

-- Then its server is in the transaction that the ticket kept.
abbrev pub KeptUntilRun : World → Type 0
KeptUntilRun w =
    OfEachConnection
    (λ c. (ticket : Holding) → IsUnrun w c ticket → c.session.descriptor ≡ ticket.descriptor) w
