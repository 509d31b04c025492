-- What a step was read of, by what it is about.
use Rattle.std.proofs.Common.{◌≡◌, ℕ, List, Option, length, refl}
use Rattle.tds_world.specs.declared.outcome.Refusal.TheVariants.{UnknownConnection, UnknownLease}
use Rattle.tds_world.specs.Connection.{Standing}
use Rattle.tds_play.specs.declared.step.CallerStep.{CallerStep}
use Rattle.tds_play.specs.declared.step.CallerStep.TheVariants as caller
use Rattle.tds_play.specs.declared.step.EndsStep.{EndsStep}
use Rattle.tds_play.specs.declared.step.EndsStep.TheVariants as ends
use Rattle.tds_play.specs.declared.step.LinkStep.{LinkStep}
use Rattle.tds_play.specs.declared.step.LinkStep.TheVariants as link
use Rattle.tds_play.specs.declared.step.OneStep.{OneStep}
use Rattle.tds_play.specs.declared.step.OneStep.TheVariants as one
use Rattle.tds_play.specs.Holdings.{conn_of}
use Rattle.tds_play.specs.Lending.{numbered_of}
use Rattle.tds_play.specs.Noted.{about_of, held_of}
use Rattle.tds_play.specs.Stepping as stepping
use Rattle.tds_play.specs.Stepping.{caller_event, ends_event, lease_of, link_event, one_event}
use Rattle.tds_play.proofs.Found.{IsAboutOne}

ends_is_one : (s : EndsStep) → IsAboutOne (ends_event s)
ends_is_one (ends.OfCaller (caller.Ask lease request)) = tt
ends_is_one (ends.OfCaller (caller.Send lease)) = tt
ends_is_one (ends.OfCaller (caller.Cancel lease)) = tt
ends_is_one (ends.OfLink (link.Work conn)) = tt
ends_is_one (ends.OfLink (link.ToServer conn most)) = tt
ends_is_one (ends.OfLink (link.ToClient conn most)) = tt
ends_is_one (ends.OfLink (link.Cut conn)) = tt

pub one_is_one : (s : OneStep) → IsAboutOne (one_event s)
one_is_one (one.Resume ticket) = tt
one_is_one (one.GiveBack lease) = tt
one_is_one (one.Keep lease) = tt
one_is_one (one.Abandon ticket) = tt
one_is_one (one.Clean conn) = tt
one_is_one (one.AtEnds s) = ends_is_one s

pub about_caller : (s : CallerStep) (max : ℕ) (ss : List Standing) (leases tickets : List (Option ℕ)) → about_of (caller_event s) ss max leases tickets ≡ held_of (length ss) (conn_of leases (lease_of s)) UnknownLease
about_caller (caller.Ask lease request) max ss leases tickets = refl
about_caller (caller.Send lease) max ss leases tickets = refl
about_caller (caller.Cancel lease) max ss leases tickets = refl

pub about_link : (s : LinkStep) (max : ℕ) (ss : List Standing) (leases tickets : List (Option ℕ)) → about_of (link_event s) ss max leases tickets ≡ numbered_of (length ss) (stepping.conn_of s) UnknownConnection
about_link (link.Work conn) max ss leases tickets = refl
about_link (link.ToServer conn most) max ss leases tickets = refl
about_link (link.ToClient conn most) max ss leases tickets = refl
about_link (link.Cut conn) max ss leases tickets = refl
