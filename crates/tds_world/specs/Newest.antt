-- What is done and heard on a connection is its newest request's. No older one changes by it.
use Rattle.std.specs.Prelude.{ℕ, ◌≡◌, ◌<◌, List, [], ◌∷◌, Option, Some, None}
use Rattle.std.specs.List.{AllByRecursion}
use Rattle.tds_session.specs.Answer as answer
use Rattle.tds_world.specs.Arrivals.{client_acts, works, to_client}
use Rattle.tds_world.specs.Connection.{Connection}
use Rattle.tds_world.specs.Entries.{Down, Step, Acknowledgement}
use Rattle.tds_world.specs.Lane.{passed}
use Rattle.tds_world.specs.Laws.{OfEachConnection}
use Rattle.tds_world.specs.Record.{Record, runs}
use Rattle.tds_world.specs.World.{World}

-- The number of the request that an entry towards the client belongs to.
abbrev pub request_of : Down → ℕ
request_of (Step r place s) = r
request_of (Acknowledgement r place changes) = r

-- There is a newest request, and it has this number.
pub record IsOfNewest (c : Connection) (number : ℕ) : Type 0 where
  pub request : Record
  pub newest : c.current ≡ Some request
  pub same : number ≡ request.number

-- Each of these entries is the newest request's where it arrives, one after the other.
abbrev pub HearsOfNewest : Connection → List Down → Type 0
HearsOfNewest c [] = Unit {0}
HearsOfNewest c (e ∷ es) =
    IsOfNewest c (request_of e)
    × HearsOfNewest (client_acts (record c { to_client = passed e c.to_client }) e) es

-- What is due, if anything is, is the newest request's.
abbrev pub AnswersNewest : Connection → List answer.Step → Type 0
AnswersNewest c [] = Unit {0}
AnswersNewest c (s ∷ ss) = IsOfNewest c c.answering

-- The older requests have lower numbers.
abbrev pub AreBefore : Option Record → List Record → Type 0
AreBefore None past = Unit {0}
AreBefore (Some q) past = AllByRecursion (λ p. p.number < q.number) past

pub record ActsOnNewest (c : Connection) : Type 0 where
  pub hears : HearsOfNewest c c.to_client.waiting
  pub answers : AnswersNewest c c.due
  pub before : AreBefore c.current c.past
  pub works_past : (works c).past ≡ c.past
  pub hears_past : (n : ℕ) → (to_client n c).past ≡ c.past

abbrev pub ActOnNewest : World → Type 0
ActOnNewest w = OfEachConnection ActsOnNewest w

-- ---- The server's work

-- The step is one of the newest request's answer: the server's work says of this request that it ran,
-- and where it is the first step, it takes the reset that the request asks for.
pub record WorksOn (c : Connection) (s : answer.Step) : Type 0 where
  pub request : Record
  pub newest : c.current ≡ Some request
  pub then : (works c).current ≡ Some (runs c.session s request)
  pub first : request.ran ≡ None → s.reset ≡ request.asking.mark

abbrev pub WorksOnNewest : Connection → List answer.Step → Type 0
WorksOnNewest c [] = Unit {0}
WorksOnNewest c (s ∷ ss) = WorksOn c s

abbrev pub WorkOnNewest : World → Type 0
WorkOnNewest w = OfEachConnection (λ c. WorksOnNewest c c.due) w
