-- Which connection a delivery is about.
use Rattle.std.proofs.Common.{◌≡◌, ℕ, zero, suc, Bool, true, false, List, length, Option, refl, ap, sym, cond}
use Rattle.std.specs.Prelude.{nat_lt}
use Rattle.tds_packet.specs.declared.kind.Direction.{Direction}
use Rattle.tds_world.specs.declared.event.Event.{Event}
use Rattle.tds_world.specs.declared.event.Event.TheVariants as event
use Rattle.tds_world.specs.declared.outcome.Refusal.{Refusal}
use Rattle.tds_world.specs.Connection.{Standing}
use Rattle.tds_play.specs.Lending.{Missing, Here, Opens, numbered_of}
use Rattle.tds_play.specs.AnyBytes.{is_delivery}
use Rattle.tds_play.specs.Noted.{about_of}
use Rattle.tds_play.specs.Reads.{IsAbout}

place_by : (b : Bool) (m place : ℕ) (why : Refusal) → Here place ≡ cond b (Here m) (Missing why) → suc m ≡ suc place
place_by true m place why is = let same : place ≡ m = cc in ap suc (sym same)
place_by false m place why is = absurd (cc)

pub place_of : (n count place : ℕ) (why : Refusal) → Here place ≡ numbered_of count n why → n ≡ suc place
place_of zero count place why is = absurd (cc)
place_of (suc m) count place why is = place_by (nat_lt m count) m place why is

pub about_there : (e : Event) (standings : List Standing) (max : ℕ) (leases tickets : List (Option ℕ)) (place : ℕ) → Here place ≡ about_of e standings max leases tickets → IsAbout e place
about_there (event.ToServer n count) standings max leases tickets place is = place_of n (length standings) place _ is
about_there (event.ToClient n count) standings max leases tickets place is = place_of n (length standings) place _ is
about_there e standings max leases tickets place is = tt

not_opened : (b : Bool) (m : ℕ) (why : Refusal) → Opens ≡ cond b (Here m) (Missing why) → ⊥
not_opened true m why is = absurd (cc)
not_opened false m why is = absurd (cc)

none_opened : (n count : ℕ) (why : Refusal) → Opens ≡ numbered_of count n why → ⊥
none_opened zero count why is = absurd (cc)
none_opened (suc m) count why is = not_opened (nat_lt m count) m why is

pub opens_none : (e : Event) (standings : List Standing) (max : ℕ) (leases tickets : List (Option ℕ)) → Opens ≡ about_of e standings max leases tickets → (n : ℕ) (d : Direction) → is_delivery e n d ≡ false
opens_none (event.ToServer m count) standings max leases tickets is n d = absurd (none_opened m (length standings) _ is)
opens_none (event.ToClient m count) standings max leases tickets is n d = absurd (none_opened m (length standings) _ is)
opens_none e standings max leases tickets is n d = refl
