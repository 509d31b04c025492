-- The tokens of the bytes that an application is given.
use Rattle.std.specs.Prelude.{◌≡◌, ℕ, List, [], ◌∷◌, ◌++◌}
use Rattle.tds_listen.specs.Hearing.{tokens_in}
use Rattle.tds_wire.specs.declared.told.Token.{Token}
use Rattle.tds_wire.specs.Reading.{Parser}
use Rattle.tds_service.specs.Packets.{items_from}
use Rattle.tds_service.specs.Parts.{Item}
use Rattle.laws_conforming_server.specs.Lawful.{Session}
use Rattle.tds_relay.specs.Pool.{Pool, Event, Sharing, PoolTurn, whose}
use Rattle.tds_relay.specs.Giving.{ReadVisit, Visit, machine_at_visit}
use Rattle.tds_relay.specs.Machine.{Machine, Step, Admits, Hands, after, new_machine}
use Rattle.tds_relay.specs.TokenParsers.{AreRead, stands_behind, stands_by}
use Rattle.laws_as_if_alone.specs.Alone.{all_asks, given_at, heard_of, if_its, line_of, underway, unless_wrong}
use Rattle.laws_as_if_alone.specs.Serving.{Moment, Server, World, answers_alone}

-- Where the parser of each connection stands, by its number.
abbrev pub TokenParsers : Type 0
TokenParsers = ℕ → Parser

-- Of a packet of an answer that it reads, the tokens of its data, from where its connection's parser stands; but for the news of resets.
abbrev pub read_in : ℕ → TokenParsers → Machine → Step → List (Item Token)
read_in key at h (Hands number header content part way manner) =
    if_its key (whose h.core.pool number)
    (unless_wrong (heard_of (line_of h.core.pool number) part) (given_at (line_of h.core.pool number).stage (items_from (tokens_in (at number) content).tokens)) [])
read_in key at h step = []

abbrev pub parsers_behind : TokenParsers → Machine → Step → TokenParsers
parsers_behind at h step = λ number. stands_by number (at number) h step

abbrev pub read_all : ℕ → TokenParsers → Machine → List Step → List (Item Token)
read_all key at h [] = []
read_all key at h (step ∷ steps) = read_in key at h step ++ read_all key (parsers_behind at h step) (after h step) steps

-- Where each stands where an application has come: where the packets of all steps before have left it, the first one of which it read from
-- its beginning.
abbrev pub parsers_in : {sharing : Sharing} {key : ℕ} → ReadVisit sharing key → TokenParsers
parsers_in {sharing} {key} v =
    λ number. stands_behind number (v.read number).0 (new_machine sharing) (v.visit.before ++ Admits key v.visit.ends v.visit.queues ∷ [])

-- Each packet that comes is read from there.
abbrev pub AllRead : TokenParsers → Machine → List Step → Type 0
AllRead at h steps = (number : ℕ) → AreRead number (at number) h steps

-- These tokens, and what is underway, are what a server of its own answers.
abbrev pub ReadAsIfAlone : {V : Type 0} {sharing : Sharing} {key : ℕ} → (Pool → Event → PoolTurn) → Server V → Session V → TokenParsers → Visit sharing key → World V → List (Moment V) → World V → Type 0
ReadAsIfAlone {V} {sharing} {key} turns server s at v w ms behind =
    read_all key at (machine_at_visit v) v.since ++ underway key behind ≡ answers_alone server [] s (all_asks turns key server 0 w ms)
