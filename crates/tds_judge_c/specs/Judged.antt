-- What the judge for C finds: the steps of the judge over all pieces, from one that has seen nothing.
use Rattle.std.specs.Prelude.{◌≡◌, ℕ, ◌-◌, ◌<◌, ◌==◌, ◌&&◌, not, nat_lt, Bool, true, List, [], ◌∷◌, ◌++◌, length, take, drop, map, if◌then◌else◌}
use Rattle.tds_judge.specs.declared.finding.Direction.{Direction}
use Rattle.tds_judge.specs.declared.finding.Direction.TheVariants.{ToServer, ToClient}
use Rattle.tds_judge.specs.declared.finding.Finding.{Finding}
use Rattle.tds_judge.specs.declared.finding.Level.{Level}
use Rattle.tds_judge.specs.declared.finding.Level.TheVariants.{Breach, Risk, Note}
use Rattle.tds_judge.specs.declared.judge.Judge.{Judge}
use Rattle.tds_judge.specs.declared.talk.Event.TheVariants as events
use Rattle.tds_judge.specs.declared.talk.Limits.{Limits}
use Rattle.tds_judge.specs.Findings.{level_of, number_of}
use Rattle.tds_judge.specs.Framing.{IsNew, Run, closed, event_said, run_of, steps}
use Rattle.tds_judge_c.specs.declared.plain.TdsJudgeFinding.{TdsJudgeFinding}
use Rattle.tds_judge_c.specs.declared.plain.TdsJudgeLimits.{TdsJudgeLimits}
use Rattle.tds_judge_c.specs.declared.plain.TdsJudgePiece.{TdsJudgePiece}

-- ---- What crosses to C

abbrev pub limits_of : TdsJudgeLimits → Limits
limits_of l = record { idle = l.idle; columns = l.columns; features = record { encryption = not (l.encryption == 0); ranks = not (l.ranks == 0) } }

abbrev pub level_number : Level → ℕ
level_number Breach = 0
level_number Risk = 1
level_number Note = 2

abbrev pub direction_number : Direction → ℕ
direction_number ToServer = 0
direction_number ToClient = 1

abbrev pub shown : Finding → TdsJudgeFinding
shown f = record {
  offset = f.spot.offset;
  time = f.spot.time;
  value = f.value;
  number = number_of f.name;
  level = level_number (level_of (number_of f.name));
  direction = direction_number f.spot.direction;
}

-- ---- Pieces

-- so many bytes are those of all pieces, or more
unfoldable pub fits : List TdsJudgePiece → ℕ → Bool
fits [] n = true
fits (piece ∷ pieces) n = not (nat_lt n piece.length) && fits pieces (n - piece.length)

-- what a piece does with these bytes
abbrev pub heard : TdsJudgePiece → List ℕ → Run → Run
heard piece bytes run =
    if piece.what == 0 then steps ToServer piece.time bytes run
    else if piece.what == 1 then steps ToClient piece.time bytes run
    else if piece.what == 2 then event_said piece.time events.Borrowed run
    else closed piece.time run

-- each has the bytes behind those of the one before
unfoldable pub heard_all : List TdsJudgePiece → List ℕ → Run → Run
heard_all [] bytes run = run
heard_all (piece ∷ pieces) bytes run = heard_all pieces (drop piece.length bytes) (heard piece (take piece.length bytes) run)

-- ---- What is found

-- by a judge of a connection of which nothing was seen
abbrev pub IsTold : TdsJudgeLimits → List TdsJudgePiece → List ℕ → List Finding → Type 0
IsTold limits pieces bytes told =
    (before : Judge) × (after : Judge) × IsNew (limits_of limits) before × (run_of after told ≡ heard_all pieces bytes (run_of before []))

abbrev pub Finds : TdsJudgeLimits → List TdsJudgePiece → List ℕ → List TdsJudgeFinding → Type 0
Finds limits pieces bytes found = (told : List Finding) × IsTold limits pieces bytes told × (found ≡ map shown told)

-- they stand at the front of the array, and behind them nothing changed
abbrev pub Fills : TdsJudgeLimits → List TdsJudgePiece → List ℕ → List TdsJudgeFinding → List TdsJudgeFinding → ℕ → Type 0
Fills limits pieces bytes old new count =
    (found : List TdsJudgeFinding) × Finds limits pieces bytes found × (new ≡ found ++ drop (length found) old) × (count ≡ length found)

-- there are more than it has room for
abbrev pub Lacks : TdsJudgeLimits → List TdsJudgePiece → List ℕ → List TdsJudgeFinding → ℕ → Type 0
Lacks limits pieces bytes old count =
    (found : List TdsJudgeFinding) × Finds limits pieces bytes found × (count ≡ length found) × (length old < length found)

abbrev pub is_fit : TdsJudgeLimits → List TdsJudgePiece → List ℕ → Bool
is_fit limits pieces bytes = not (nat_lt 4096 limits.columns) && fits pieces (length bytes)
