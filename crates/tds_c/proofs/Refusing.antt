-- The refusal of a call that wants an idle client.
use Rattle.std.proofs.Common.{◌≡◌, Option, Some, None}
use Rattle.tds_client.specs.declared.fault.ClientRefusal.{ClientRefusal}
use Rattle.tds_client.specs.Sending.{Effect, refusal_of}
use Rattle.tds_c.specs.Calls.{unless}

pub is_first : (first : Option ClientRefusal) (effect : Effect (Unit {0})) (refusal : ClientRefusal) → first ≡ Some refusal → refusal_of (unless first effect) ≡ Some refusal
is_first None effect refusal h = absurd cc
is_first (Some first) effect refusal h = h
