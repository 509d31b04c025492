-- What all the calls of a stream append, in the words of the wire.
use Rattle.std.specs.Prelude.{◌≡◌, List, [], ◌∷◌, ◌++◌, ℕ, Ok}
use Rattle.tds_client.specs.Session.{ClientSession}
use Rattle.tds_client.specs.Streams.{put, finished}

-- These parts are put, one behind the other, and the message is finished: all that is appended, and the client behind it.
abbrev pub Streams : ClientSession → List (List ℕ) → List ℕ → ClientSession → Type 0
Streams s [] bytes behind = finished s ≡ Ok (record { answer = tt; session = behind; bytes = bytes })
Streams s (part ∷ parts) bytes behind =
    (first : List ℕ) × (rest : List ℕ) × (middle : ClientSession) × (bytes ≡ first ++ rest)
    × (put s part ≡ Ok (record { answer = tt; session = middle; bytes = first })) × Streams middle parts rest behind
