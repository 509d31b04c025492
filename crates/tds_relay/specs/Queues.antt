-- What waits to be sent to each application.
use Rattle.std.specs.Prelude.{◌≡◌, ◌≢◌, ℕ, ◌+◌, nat_le, Bool, true, false, not, ◌&&◌, List, ◌∷◌, [], ◌++◌, drop, length, map, Option, Some, None, option_map, if◌then◌else◌, slice_index_or, slice_set}
use Rattle.slab.specs.Slab.{Slab}
use Rattle.tds_packet.specs.declared.kind.Kind.TheVariants.{Answer}
use Rattle.tds_packet.specs.Layout.{header_bytes, status_of}
use Rattle.tds_relay.specs.declared.application.Application.{Application}
use Rattle.tds_relay.specs.declared.outgoing.Outgoing.{Outgoing}

-- The bytes that wait for one application, whose packets have this size; what whoever carries them calls it; and whether something didn't fit
-- behind them: then nothing more is put there.
pub record Queue : Type 0 where
  pub tag : Option ℕ
  pub size : ℕ
  pub bytes : List ℕ
  pub is_full : Bool

-- nothing waits, for nobody yet
abbrev pub empty_queue : ℕ → Queue
empty_queue size = record { tag = None; size = size; bytes = []; is_full = false }

-- it is called so
abbrev pub tagged : ℕ → Queue → Queue
tagged tag p = record { tag = Some tag; size = p.size; bytes = p.bytes; is_full = p.is_full }

-- at most as many bytes wait as a packet has, and 32,768
abbrev pub fits : Queue → List ℕ → Bool
fits p bytes = not p.is_full && nat_le (length p.bytes + length bytes) (p.size + 32768)

-- All that was put for it fits.
abbrev pub HasAll : Option Queue → Type 0
HasAll queue = option_map (λ (p : Queue). p.is_full) queue ≡ Some false

-- these bytes are put behind those that wait, all of them or none
unfoldable pub put_behind : List ℕ → Queue → Queue
put_behind bytes p =
    if fits p bytes then record { tag = p.tag; size = p.size; bytes = p.bytes ++ bytes; is_full = false }
    else record { tag = p.tag; size = p.size; bytes = p.bytes; is_full = true }

-- so many of them are sent
abbrev pub without_first : ℕ → Queue → Queue
without_first count p = record { tag = p.tag; size = p.size; bytes = drop count p.bytes; is_full = p.is_full }

-- ---- Of all applications, by their keys

abbrev pub Queues : Type 0
Queues = List (Option Queue)

abbrev pub queue_at : Queues → ℕ → Option Queue
queue_at queues key = slice_index_or queues key None

-- that of one application changes so, if there is this application
abbrev pub change : ℕ → (Queue → Queue) → Queues → Queues
change key by queues = slice_set queues key (option_map by (queue_at queues key))

-- these bytes are for this application
abbrev pub give : ℕ → List ℕ → Queues → Queues
give key bytes queues = change key (put_behind bytes) queues

-- An application has come by a key that nobody had, and is called so: nothing waits for it, and for the others what did.
pub record EntersQueues (size tag key : ℕ) (old new : Queues) : Type 0 where
  pub was_free : queue_at old key ≡ None
  pub nothing_waits : queue_at new key ≡ Some (tagged tag (empty_queue size))
  pub others_stay : (other : ℕ) → other ≢ key → queue_at new other ≡ queue_at old other

-- ---- What the relay says itself

-- the acknowledgement of an attention: a message of one DONE with bit 0020 (MS-TDS 2.2.7.6)
abbrev pub acknowledgement : List ℕ
acknowledgement =
    header_bytes (record { kind = Answer; status = status_of 1; length = 21; spid = 0; packet_id = 1; window = 0 })
    ++ 0xfd ∷ 0x20 ∷ 0 ∷ 0 ∷ 0 ∷ 0 ∷ 0 ∷ 0 ∷ 0 ∷ 0 ∷ 0 ∷ 0 ∷ 0 ∷ []

-- the news of a reset that is done: an ENVCHANGE of type 18, in a packet that doesn't end its message (MS-TDS 2.2.7.9)
abbrev pub news : List ℕ
news =
    header_bytes (record { kind = Answer; status = status_of 0; length = 14; spid = 0; packet_id = 1; window = 0 })
    ++ 0xe3 ∷ 3 ∷ 0 ∷ 18 ∷ 0 ∷ 0 ∷ []

-- it is put there, where it is told
abbrev pub put_news : Bool → Queue → Queue
put_news true p = put_behind news p
put_news false p = p

-- ---- As the code has them

abbrev pub queue_in : Outgoing → Queue
queue_in o = record { tag = None; size = o.size; bytes = drop o.sent o.bytes.items; is_full = o.is_full }

abbrev pub queue_of : Application → Queue
queue_of a = tagged a.tag (queue_in a.out)

abbrev pub queues_in : Slab Application → Queues
queues_in s = map (option_map queue_of) s.slots

-- what whoever carries their bytes calls applications, by their keys
abbrev pub names_of : Queues → List (Option (Option ℕ))
names_of queues = map (option_map (λ (p : Queue). p.tag)) queues

abbrev pub names_in : Slab Application → List (Option (Option ℕ))
names_in s = names_of (queues_in s)

-- what of it is still to be sent
abbrev pub unsent_of : Option Application → List ℕ
unsent_of None = []
unsent_of (Some a) = (queue_of a).bytes
