-- When a request is settled.
use Rattle.std.specs.Prelude.{◌≡◌, ◌||◌, ◌&&◌, Bool, true, false, List, [], ◌∷◌, if◌then◌else◌}
use Rattle.tds_service.specs.Parts.{Item, is_end}
use Rattle.tds_client.specs.Acts.{is_acknowledgement}
use Rattle.tds_service.specs.Line.{Act, Come}
use Rattle.tds_service.specs.Line.{Answer, Stopped, More, Finished, Acked, Fault}
use Rattle.tds_service.specs.History.{Done}

-- Whether a DONE among them acknowledges an attention (MS-TDS 2.2.7.6).
abbrev pub has_ack : {T : Type 0} → List (Item T) → Bool
has_ack [] = false
has_ack (item ∷ items) = is_acknowledgement item.sign || has_ack items

-- What may be answered to a part that comes, where an attention is out or not, by whether it ends its message, and whether that has
-- an acknowledgement: a cancelled request is settled exactly at the end of a message that has one, any other at its message's end.
abbrev pub Settles : (out ends acknowledged : Bool) → Answer → Type 0
Settles out ends acknowledged More = (if out then (ends && acknowledged) else ends) ≡ false
Settles out ends acknowledged (Finished request) = (out ≡ false) × (ends ≡ true)
Settles out ends acknowledged (Acked request) = (out ≡ true) × ((ends && acknowledged) ≡ true)
Settles out ends acknowledged (Fault fault) = Unit {0}
Settles out ends acknowledged _ = ⊥

abbrev pub SettlesBy : {T : Type 0} → Bool → Bool → Act T → Answer → Type 0
SettlesBy out seen (Come part) answer = Settles out (is_end part.close) (seen || has_ack part.items) answer
SettlesBy out seen _ answer = Unit {0}

-- Whether an attention is out behind this answer, and whether the message that comes has had an acknowledgement.
abbrev pub out_by : Bool → Answer → Bool
out_by out (Stopped request) = true
out_by out (Acked request) = false
out_by out _ = out

abbrev pub seen_by : {T : Type 0} → Bool → Act T → Bool
seen_by seen (Come part) = if (is_end part.close) then false else (seen || has_ack part.items)
seen_by seen _ = seen

abbrev pub SettlesRight : {T : Type 0} → Bool → Bool → List (Done T) → Type 0
SettlesRight out seen [] = Unit {0}
SettlesRight out seen (d ∷ ds) = SettlesBy out seen d.act d.answer × SettlesRight (out_by out d.answer) (seen_by seen d.act) ds
