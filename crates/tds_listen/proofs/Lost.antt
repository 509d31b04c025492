-- A client that is lost is broken.
use Rattle.std.proofs.Common.{◌≡◌, ◌∙◌, refl, ap}
use Rattle.tds_client.specs.declared.fault.ClientFault.{ClientFault}
use Rattle.tds_client.specs.declared.fault.ClientFault.TheVariants.{Lost}
use Rattle.tds_client.specs.Session.{ClientSession, Stage, Idle, Sending, Reading, Cancelling, Broken, lost, lost_stage}

lost_is : (st : Stage) → (fault : ClientFault) × (lost_stage st ≡ Broken fault)
lost_is Idle = (Lost, refl)
lost_is (Sending kind left packets) = (Lost, refl)
lost_is Reading = (Lost, refl)
lost_is Cancelling = (Lost, refl)
lost_is (Broken fault) = (fault, refl)

pub broken_then : (s next : ClientSession) → next ≡ lost s → (fault : ClientFault) × (next.stage ≡ Broken fault)
broken_then s next e = let l = lost_is s.stage in (l.0, ap (λ (t : ClientSession). t.stage) e ∙ l.1)
