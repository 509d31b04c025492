-- What is never exceeded, and never comes twice.
use Rattle.std.specs.Prelude.{ℕ, suc, eqb, nat_le, ◌&&◌, ◌≡◌, ◌≤◌, Bool, true, List, [], ◌∷◌, ◌++◌, flat_map, Some}
use Rattle.std.specs.List.{IsDistinct}
use Rattle.tds_request.specs.Layout.{Fits}
use Rattle.tds_session.specs.Session.{SessionState}
use Rattle.tds_token.specs.declared.env_change.EnvChange.{EnvChange}
use Rattle.tds_token.specs.declared.env_change.EnvChange.TheVariants as change
use Rattle.tds_token.specs.Told.{changes_of}
use Rattle.tds_world.specs.declared.event.Event.{Event}
use Rattle.tds_world.specs.declared.event.Event.TheVariants as event
use Rattle.tds_world.specs.declared.event.Setup.{Setup}
use Rattle.tds_world.specs.Connection.{Connection, up_underway}
use Rattle.tds_world.specs.Entries.{Up, Part, End, Drop, Attention, Down, Step, Acknowledgement}
use Rattle.tds_world.specs.Laws.{OfEachConnection, OfEachRequest}
use Rattle.tds_world.specs.Record.{Record}
use Rattle.tds_world.specs.World.{World}

-- A packet has 512 to 32,767 bytes, and a pool 1 to 64 connections.
abbrev pub is_in_range : Setup → Bool
is_in_range s =
    (nat_le 512 s.packet_size && nat_le s.packet_size 32767) && (nat_le 1 s.max && nat_le s.max 64)

-- A setup that a play takes.
abbrev pub IsSetup : Setup → Type 0
IsSetup setup = is_in_range setup ≡ true

-- An event of the program. Its request is one that has a spelling.
abbrev pub IsEvent : Event → Type 0
IsEvent (event.Ask lease q) = Fits q
IsEvent e = Unit {0}

-- At most 4,094 bytes of a connection are underway to its server: a request's longest message in
-- its packets, the word to drop it and its attention.
abbrev pub FewUnderway : World → Type 0
FewUnderway w = OfEachConnection (λ c. up_underway c ≤ 4094) w

-- How many attentions are among entries, and how many acknowledgements.
abbrev pub attention_count : List Up → ℕ
attention_count [] = 0
attention_count (Part r p ∷ es) = attention_count es
attention_count (End r a p ∷ es) = attention_count es
attention_count (Drop r p ∷ es) = attention_count es
attention_count (Attention r ∷ es) = suc (attention_count es)

abbrev pub acknowledgement_count : List Down → ℕ
acknowledgement_count [] = 0
acknowledgement_count (Step r place s ∷ es) = acknowledgement_count es
acknowledgement_count (Acknowledgement r place changes ∷ es) = suc (acknowledgement_count es)

-- At most one attention of a connection is without an arrived acknowledgement.
abbrev pub HasOneAttention : Connection → Type 0
HasOneAttention c =
    attention_count (c.to_server.arrived ++ c.to_server.waiting)
    ≤ suc (acknowledgement_count c.to_client.arrived)

abbrev pub OneAttention : World → Type 0
OneAttention w = OfEachConnection HasOneAttention w

-- A request that ran did so in the transaction that its header names, so none got the answer to a
-- descriptor that differs.
abbrev pub RanInOwn : Connection → Record → Type 0
RanInOwn c q = (s : SessionState) → q.ran ≡ Some s → q.asking.descriptor ≡ s.descriptor

abbrev pub OwnTransaction : World → Type 0
OwnTransaction w = OfEachRequest RanInOwn w

-- The transactions that changes begin, and those that entries towards the client tell of.
abbrev pub begun_by : EnvChange → List ℕ
begun_by (change.Begin d) = d ∷ []
begun_by _ = []

abbrev pub begun_in : Down → List ℕ
begun_in (Step r place s) = flat_map begun_by (changes_of s.tokens)
begun_in (Acknowledgement r place changes) = flat_map begun_by changes

-- No two entries of a connection tell that the same transaction began.
abbrev pub begun_on : Connection → List ℕ
begun_on c = flat_map begun_in (c.to_client.arrived ++ c.to_client.waiting)

abbrev pub BeginsOnce : World → Type 0
BeginsOnce w = OfEachConnection (λ c. IsDistinct eqb (begun_on c)) w
