-- Why a machine refuses, and acts that are several packets.
use Rattle.std.specs.Prelude.{ℕ, zero, suc, false, List, [], ◌∷◌, Option, Some, None}
use Rattle.tds_client.specs.declared.fault.ClientRefusal.{ClientRefusal}
use Rattle.tds_service.specs.Line as line
use Rattle.tds_service.specs.Line.{Act, Answer}

-- Why the machine refuses, if it does.
abbrev pub refusal_in : Answer → Option ClientRefusal
refusal_in (line.Refused why) = Some why
refusal_in _ = None

-- So many packets of a request, none the last.
abbrev pub packets : {T : Type 0} → ℕ → List (Act T)
packets zero = []
packets (suc count) = line.Send false ∷ packets count
