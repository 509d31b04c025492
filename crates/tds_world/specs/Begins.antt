-- Answers that hand out what the session's next descriptor says.
use Rattle.std.specs.Prelude.{ℕ, ◌≡◌, ◌+◌, List, [], ◌∷◌, flat_map, Option}
use Rattle.tds_packet.specs.declared.status.Reset.{Reset}
use Rattle.tds_request.specs.declared.request.Request.{Request}
use Rattle.tds_session.specs.Answer.{Answers, Step}
use Rattle.tds_session.specs.Session.{SessionState}
use Rattle.tds_token.specs.Told.{changes_of}
use Rattle.tds_world.specs.Bounds.{begun_by}

-- These are the numbers from n on, and m is the next one after them.
abbrev pub CountFrom : ℕ → List ℕ → ℕ → Type 0
CountFrom n [] m = n ≡ m
CountFrom n (d ∷ ds) m = (d ≡ n) × CountFrom (n + 1) ds m

-- From this session on, the transactions that each step tells to have begun have the session's next
-- descriptors, and the session behind the step has the next one after them.
abbrev pub HandsOut : SessionState → List Step → Type 0
HandsOut s [] = Unit {0}
HandsOut s (t ∷ ts) =
    CountFrom s.next_descriptor (flat_map begun_by (changes_of t.tokens)) t.after.next_descriptor
    × HandsOut t.after ts

-- Answers of which it holds, for every session, header descriptor, reset and request.
abbrev pub HandsOutNext : Answers → Type 0
HandsOutNext answers =
    (s : SessionState) (descriptor : ℕ) (reset : Option Reset) (q : Request)
    → HandsOut s (answers s descriptor reset q)
