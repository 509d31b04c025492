-- Which parts are a client's, as a test.
use Rattle.std.proofs.Common.{◌≡◌, ℕ, ◌+◌, ◌<◌, ◌^◌, nat_lt, if◌then◌else◌, Bool, true, false, Option, Some, None, List, length, refl, ap, arith}
use Rattle.std.proofs.lemmas.Bool.{ltb-true, ltb-false}
use Rattle.std.specs.Option.{SomeIff}
use Rattle.tds_client.specs.declared.client.parts.StageParts.{StageParts}
use Rattle.tds_client.specs.declared.client.parts.StageParts.TheVariants as stages
use Rattle.tds_client.specs.declared.client.parts.ClientParts.{ClientParts}
use Rattle.tds_client.specs.Parts.{AreParts, left_by, left_of, parts_of, session_from, stage_from, stage_parts}
use Rattle.tds_client.specs.Session.{ClientSession}
use Rattle.tds_c.specs.Plain.{have_room}

below : (a b : ℕ) (t : Bool) → nat_lt a b ≡ t → (s : ClientSession) (r : Option ClientSession) → SomeIff r (a < b) s → r ≡ (if t then Some s else None)
below a b true e s None h = absurd (h (ltb-true a b e))
below a b true e s (Some x) h = ap Some h.1
below a b false e s None h = refl
below a b false e s (Some x) h = absurd (omega (arith, ltb-false a b e, h.0))

always : (s : ClientSession) (r : Option ClientSession) → SomeIff r (Unit {0}) s → r ≡ Some s
always s None h = absurd (h tt)
always s (Some x) h = ap Some h.1

pub joined : (parts : StageParts) (left : List ℕ) (s : ClientSession) (r : Option ClientSession) → SomeIff r (AreParts parts left) s → r ≡ (if have_room parts (length left) then Some s else None)
unfolding have_room
joined stages.Idle left s r h = always s r h
joined (stages.Sending kind packets) left s r h = below (packets + length left) (2 ^ 63) (nat_lt (packets + length left) (2 ^ 63)) refl s r h
joined stages.Reading left s r h = always s r h
joined stages.Cancelling left s r h = always s r h
joined (stages.Broken fault) left s r h = always s r h

-- What was put together is taken apart again.
parted_stage : (parts : StageParts) (left : List ℕ) → stage_parts (stage_from parts left) ≡ parts
parted_stage stages.Idle left = refl
parted_stage (stages.Sending kind packets) left = refl
parted_stage stages.Reading left = refl
parted_stage stages.Cancelling left = refl
parted_stage (stages.Broken fault) left = refl

pub parted : (parts : ClientParts) (left : List ℕ) → parts_of (session_from parts left) ≡ parts
parted parts left = rw (parted_stage parts.stage left) refl

pub left_again : (parts : StageParts) (left : List ℕ) → left_of (stage_from parts left) ≡ left_by parts left
left_again stages.Idle left = refl
left_again (stages.Sending kind packets) left = refl
left_again stages.Reading left = refl
left_again stages.Cancelling left = refl
left_again (stages.Broken fault) left = refl
