-- What waits for each application, where one of them changes.
use Rattle.std.proofs.Common.{◌≡◌, ◌∙◌, ℕ, Option, Some, None, ap, slice_set, option_map}
use Rattle.slab.specs.Slab.{Slab, Updates, get, with_value}
use Rattle.std.specs.Prelude.{Result, Ok, Err, OnOk, OnSome, IfNone}
use Rattle.tds_relay.specs.declared.application.Application.{Application}
use Rattle.tds_relay.specs.Queues.{EntersQueues, Queue, Queues, tagged, change, empty_queue, queue_at, queue_of, queues_in}
use Rattle.tds_relay.proofs.steps.Seen.{seen_changed, seen_is, seen_kept, seen_new, seen_nobody, seen_others, seen_quit}

-- an application is written back of which the same waits
pub queues_kept : (s : Slab Application) (key : ℕ) (a b : Application) → Some a ≡ get s key → queue_of b ≡ queue_of a → queues_in (with_value s key b) ≡ queues_in s
queues_kept s key a b is same = seen_kept queue_of s key a b is same

-- what waits for one is what its slot has
pub queue_is : (s : Slab Application) (key : ℕ) → queue_at (queues_in s) key ≡ option_map queue_of (get s key)
queue_is s key = seen_is queue_of s key

-- nothing changes of one that isn't there
pub queues_nobody : (s : Slab Application) (key : ℕ) (by : Queue → Queue) → get s key ≡ None → change key by (queues_in s) ≡ queues_in s
queues_nobody s key by none = seen_nobody queue_of s key by none

-- an application is written back of which something else waits
pub queues_changed : (s : Slab Application) (key : ℕ) (a b : Application) (by : Queue → Queue) → Some a ≡ get s key → queue_of b ≡ by (queue_of a) → queues_in (with_value s key b) ≡ change key by (queues_in s)
queues_changed s key a b by is changed = seen_changed queue_of s key a b by is changed

-- the same waits behind two steps; or what waits behind the first
pub kept_more : {A E : Type 0} (r : Result A E) (p q s : Queues) → OnOk r (p ≡ q) → q ≡ s → OnOk r (p ≡ s)
kept_more (Ok x) p q s h k = h ∙ k
kept_more (Err e) p q s h k = tt

-- an application is there no more
pub quits_is : (s s1 : Slab Application) (key : ℕ) (r : Option Application) → r ≡ get s key → OnSome r (s1.slots ≡ slice_set s.slots key None) → IfNone r (s1 ≡ s)
    → queues_in s1 ≡ slice_set (queues_in s) key None
quits_is s s1 key r is slots absent = seen_quit queue_of s s1 key r is slots absent

-- an application has come
pub enters_is : (s s1 : Slab Application) (size tag key : ℕ) (a : Application) → get s key ≡ None → Updates s s1 key (Some a) → queue_of a ≡ tagged tag (empty_queue size) → EntersQueues size tag key (queues_in s) (queues_in s1)
enters_is s s1 size tag key a none updates is = record {
  was_free = queue_is s key ∙ ap (option_map queue_of) none;
  nothing_waits = seen_new queue_of s s1 key a updates ∙ ap Some is;
  others_stay = λ other apart. seen_others queue_of s s1 key other a updates apart;
}
