-- Two plays, and a lease in each: what is given in one and in the other is the same as far as both go,
-- whatever else happens in the two plays.
use Rattle.std.specs.Prelude.{ℕ, ◌≡◌, ◌⊎◌, List, [], ◌∷◌, ◌++◌, Bool, true, false, Option, Some, None}
use Rattle.tds_session.specs.Session.{SessionState}
use Rattle.tds_token.specs.declared.token.Token.{Token}
use Rattle.tds_world.specs.declared.event.Event.{Event}
use Rattle.tds_world.specs.declared.outcome.Opened.{Opened}
use Rattle.tds_world.specs.declared.outcome.Opened.TheVariants as opened
use Rattle.tds_world.specs.declared.report.Report.{Report}
use Rattle.tds_world.specs.alone.Alone.{AreAlike, Exchange, exchanges_of}
use Rattle.tds_world.specs.alone.AloneShown.{LeaseShown, OfEachLease, HowFar}
use Rattle.tds_world.specs.Connection.{Connection}
use Rattle.tds_world.specs.World.{World, Holding, numbered}

-- One of them is a beginning of the other.
abbrev pub AgreeSoFar : List Token → List Token → Type 0
AgreeSoFar ts us =
    ((rest : List Token) × (ts ++ rest ≡ us)) ⊎ ((rest : List Token) × (us ++ rest ≡ ts))

-- What came of the same request in two plays: where it ran in both it did so in sessions alike, the
-- same is given as far as both go, and all the same where both are finished.
pub record AreGivenAlike (x y : Exchange) : Type 0 where
  pub alike : (s t : SessionState) → x.ran ≡ Some s → y.ran ≡ Some t → AreAlike s t
  pub so_far : AgreeSoFar x.given y.given
  pub finished : x.finished ≡ true → y.finished ≡ true → x.given ≡ y.given

-- So it is with each, as long as the same requests were asked, and each got as far.
abbrev pub AllGivenAlike : List Exchange → List Exchange → Type 0
AllGivenAlike [] ys = Unit {0}
AllGivenAlike (x ∷ xs) [] = Unit {0}
AllGivenAlike (x ∷ xs) (y ∷ ys) =
    x.request ≡ y.request → AreGivenAlike x y × (x.got ≡ y.got → AllGivenAlike xs ys)

-- ---- Of worlds

-- Whether a lease came from a ticket.
abbrev pub is_from : Option ℕ → Bool
is_from None = false
is_from (Some ticket) = true

abbrev pub is_resumed : Option Holding → Bool
is_resumed None = false
is_resumed (Some lease) = is_from lease.resumed

-- Any lease on any connection of one world, and any of the other: both came from a ticket, or neither.
abbrev pub GiveAlike : World → World → Type 0
GiveAlike w v =
    (m n lease other : ℕ) (c d : Connection)
    → numbered w.connections m ≡ Some c → numbered v.connections n ≡ Some d
    → is_resumed (numbered w.leases lease) ≡ is_resumed (numbered v.leases other)
    → AllGivenAlike (exchanges_of lease c) (exchanges_of other d)

-- ---- Of reports

abbrev pub was_resumed : Opened → Bool
was_resumed opened.New = false
was_resumed opened.Reused = false
was_resumed opened.Resumed = true

pub record LeasesAlike (x y : LeaseShown) : Type 0 where
  pub given : was_resumed x.opened ≡ was_resumed y.opened → AllGivenAlike x.exchanges y.exchanges

-- Any lease that is shown in one report, and any in the other.
abbrev pub ShowGivenAlike : HowFar → List Event → Report → HowFar → List Event → Report → Type 0
ShowGivenAlike far events r far_there events_there there =
    OfEachLease (λ x. OfEachLease (λ y. LeasesAlike x y) far_there events_there there) far events r
