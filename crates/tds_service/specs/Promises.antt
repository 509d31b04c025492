-- What a service promises of each of its connections, whatever its peer sends. Nothing here looks into the machine: all is said of
-- what was done, answered, sent and told.
use Rattle.std.specs.Prelude.{◌≡◌, ℕ, ◌+◌, ◌==◌, ◌||◌, Bool, true, false, List, [], ◌∷◌, ◌++◌, Option, Some, None, if◌then◌else◌}
use Rattle.tds_packet.specs.declared.status.Reset.{Reset}
use Rattle.tds_packet.specs.declared.status.Reset.TheVariants.{Full, KeepTransaction}
use Rattle.tds_packet.specs.Resets.{strongest, header_descriptor}
use Rattle.tds_token.specs.declared.env_change.EnvChange.{EnvChange}
use Rattle.tds_token.specs.declared.env_change.EnvChange.TheVariants as changes
use Rattle.tds_service.specs.Parts.{Item, is_end, items_told}
use Rattle.tds_client.specs.declared.sign.Sign.{Sign}
use Rattle.tds_client.specs.declared.sign.Sign.TheVariants as signs
use Rattle.tds_service.specs.Line.{Act, Mark, Ask, Send, Cancel, Come, Lose}
use Rattle.tds_service.specs.Line.{Packet, OfRequest, Ignore, Attention}
use Rattle.tds_service.specs.Line.{Answer, Marked, Asked, Unsent, Stopped, Finished, Acked, Fault, Lost}
use Rattle.tds_service.specs.History.{Done, given}

-- ---- paired

-- Whether the last packet of this request is among these.
abbrev pub ends_request : ℕ → List Packet → Bool
ends_request r [] = false
ends_request r (OfRequest request first reset true ∷ packets) = (request == r) || ends_request r packets
ends_request r (OfRequest request first reset false ∷ packets) = ends_request r packets
ends_request r (Ignore request ∷ packets) = ends_request r packets
ends_request r (Attention ∷ packets) = ends_request r packets

-- Whether the answer says that nobody waits on: a fault, a cancel of a request that was out, a loss.
abbrev pub leaves_off : Answer → Bool
leaves_off (Stopped request) = true
leaves_off (Fault fault) = true
leaves_off Lost = true
leaves_off _ = false

-- What comes in one call, and whether the message ends with it.
abbrev pub coming : {T : Type 0} → Act T → List T
coming (Come part) = items_told part.items
coming _ = []

abbrev pub ends_message : {T : Type 0} → Act T → Bool
ends_message (Come part) = (is_end part.close)
ends_message _ = false

-- The next message that comes: the tokens of its parts, in order, up to its end; or up to where it is left off.
abbrev pub next_message : {T : Type 0} → List (Done T) → List T
next_message [] = []
next_message (d ∷ ds) =
    if leaves_off d.answer then [] else (coming d.act ++ (if ends_message d.act then [] else next_message ds))

-- The message of a request: the next one that comes behind its last packet.
abbrev pub message_of : {T : Type 0} → ℕ → List (Done T) → List T
message_of r [] = []
message_of r (d ∷ ds) = if ends_request r d.sent then next_message ds else message_of r ds

-- Each request was given the tokens of its own message, and nothing else.
abbrev pub Paired : {T : Type 0} → List (Done T) → Type 0
Paired ds = (r : ℕ) → given r ds ≡ message_of r ds

-- ---- unawaited

-- Whether an answer or an acknowledgement is awaited: a request's last packet or an attention went out, and it isn't settled.
abbrev pub awaited_by_packets : Bool → List Packet → Bool
awaited_by_packets b [] = b
awaited_by_packets b (OfRequest request first reset false ∷ packets) = awaited_by_packets b packets
awaited_by_packets b (OfRequest request first reset true ∷ packets) = true
awaited_by_packets b (Ignore request ∷ packets) = awaited_by_packets b packets
awaited_by_packets b (Attention ∷ packets) = true

abbrev pub awaited_by_answer : Bool → Answer → Bool
awaited_by_answer b (Finished request) = false
awaited_by_answer b (Acked request) = false
awaited_by_answer b (Fault fault) = false
awaited_by_answer b Lost = false
awaited_by_answer b _ = b

abbrev pub IsFault : Answer → Type 0
IsFault (Fault fault) = Unit {0}
IsFault _ = ⊥

abbrev pub FaultsUnless : {T : Type 0} → Bool → Act T → Answer → Type 0
FaultsUnless awaited (Mark reset) answer = Unit {0}
FaultsUnless awaited Ask answer = Unit {0}
FaultsUnless awaited (Send last) answer = Unit {0}
FaultsUnless awaited Cancel answer = Unit {0}
FaultsUnless true (Come part) answer = Unit {0}
FaultsUnless false (Come part) answer = IsFault answer
FaultsUnless awaited Lose answer = Unit {0}

-- What comes where nothing is awaited is a fault.
abbrev pub FaultsUnawaited : {T : Type 0} → Bool → List (Done T) → Type 0
FaultsUnawaited awaited [] = Unit {0}
FaultsUnawaited awaited (d ∷ ds) =
    FaultsUnless awaited d.act d.answer × FaultsUnawaited (awaited_by_answer (awaited_by_packets awaited d.sent) d.answer) ds

-- A request is asked, and a reset marked, only where nothing is awaited.
abbrev pub FreeFor : Bool → Answer → Type 0
FreeFor awaited Marked = awaited ≡ false
FreeFor awaited (Asked request descriptor) = awaited ≡ false
FreeFor awaited _ = Unit {0}

abbrev pub AsksUnawaited : {T : Type 0} → Bool → List (Done T) → Type 0
AsksUnawaited awaited [] = Unit {0}
AsksUnawaited awaited (d ∷ ds) = FreeFor awaited d.answer × AsksUnawaited (awaited_by_answer (awaited_by_packets awaited d.sent) d.answer) ds

-- ---- after_cancel

abbrev pub IsSilent : {T : Type 0} → Answer → List (Done T) → Type 0
IsSilent (Unsent request) ds = given request ds ≡ []
IsSilent (Stopped request) ds = given request ds ≡ []
IsSilent _ ds = Unit {0}

-- Behind its cancel a request is given nothing.
abbrev pub NothingBehindCancel : {T : Type 0} → List (Done T) → Type 0
NothingBehindCancel [] = Unit {0}
NothingBehindCancel (d ∷ ds) = IsSilent d.answer ds × NothingBehindCancel ds

-- ---- one_attention

abbrev pub attentions_in : List Packet → ℕ
attentions_in [] = 0
attentions_in (OfRequest request first reset last ∷ packets) = attentions_in packets
attentions_in (Ignore request ∷ packets) = attentions_in packets
attentions_in (Attention ∷ packets) = 1 + attentions_in packets

abbrev pub one_if_acked : Answer → ℕ
one_if_acked (Acked request) = 1
one_if_acked _ = 0

abbrev pub attentions : {T : Type 0} → List (Done T) → ℕ
attentions [] = 0
attentions (d ∷ ds) = attentions_in d.sent + attentions ds

abbrev pub acknowledgements : {T : Type 0} → List (Done T) → ℕ
acknowledgements [] = 0
acknowledgements (d ∷ ds) = one_if_acked d.answer + acknowledgements ds

-- ---- asks_for_reset, names_descriptor

-- What whoever reads along knows of the session: the reset that is owed, and the transaction that was heard last, 0 for none.
pub record Known : Type 0 where
  pub owed : Option Reset
  pub transaction : ℕ

-- The end of a reset: a full one ends the transaction, and so does one that nobody asked for.
abbrev pub reset_done : Option Reset → ℕ → ℕ
reset_done None t = 0
reset_done (Some Full) t = 0
reset_done (Some KeepTransaction) t = t

abbrev pub known_by_change : Known → EnvChange → Known
known_by_change k (changes.Begin d) = record { owed = k.owed; transaction = d }
known_by_change k (changes.Commit d) = record { owed = k.owed; transaction = 0 }
known_by_change k (changes.Rollback d) = record { owed = k.owed; transaction = 0 }
known_by_change k changes.ResetDone = record { owed = None; transaction = reset_done k.owed k.transaction }

abbrev pub known_by_sign : Known → Sign → Known
known_by_sign k signs.Nothing = k
known_by_sign k (signs.Change change) = known_by_change k change
known_by_sign k (signs.Done kind status) = k

abbrev pub known_by_items : {T : Type 0} → Known → List (Item T) → Known
known_by_items k [] = k
known_by_items k (item ∷ items) = known_by_items (known_by_sign k item.sign) items

abbrev pub is_marked : Answer → Bool
is_marked Marked = true
is_marked _ = false

-- A reset is owed from where it was marked up to where its end is heard. Of two the stronger one is.
abbrev pub known_by : {T : Type 0} → Known → Act T → Answer → Known
known_by k (Mark reset) answer =
    if is_marked answer then record { owed = strongest (Some reset) k.owed; transaction = k.transaction } else k
known_by k (Come part) answer = known_by_items k part.items
known_by k _ answer = k

-- The first packet of a request asks for the reset that is owed, and no other packet asks for one.
abbrev pub AsksFor : Option Reset → List Packet → Type 0
AsksFor owed [] = Unit {0}
AsksFor owed (OfRequest request true reset last ∷ packets) = (reset ≡ owed) × AsksFor owed packets
AsksFor owed (OfRequest request false reset last ∷ packets) = (reset ≡ None) × AsksFor owed packets
AsksFor owed (Ignore request ∷ packets) = AsksFor owed packets
AsksFor owed (Attention ∷ packets) = AsksFor owed packets

abbrev pub AsksAsOwed : {T : Type 0} → Known → List (Done T) → Type 0
AsksAsOwed k [] = Unit {0}
AsksAsOwed k (d ∷ ds) = AsksFor k.owed d.sent × AsksAsOwed (known_by k d.act d.answer) ds

-- A request that has its whole answer leaves none owed: where none was told to be done, the answer is a fault.
abbrev pub Leaves : Option Reset → Answer → Type 0
Leaves owed (Finished request) = owed ≡ None
Leaves owed _ = Unit {0}

abbrev pub LeavesNoneOwed : {T : Type 0} → Known → List (Done T) → Type 0
LeavesNoneOwed k [] = Unit {0}
LeavesNoneOwed k (d ∷ ds) = Leaves (known_by k d.act d.answer).owed d.answer × LeavesNoneOwed (known_by k d.act d.answer) ds

-- The transaction that a request's header names: the one heard last, or none where a full reset goes before it.
abbrev pub named : Known → ℕ
named k = header_descriptor k.owed k.transaction

abbrev pub Names : Known → Answer → Type 0
Names k (Asked request descriptor) = descriptor ≡ named k
Names k _ = Unit {0}

abbrev pub NamesAsHeard : {T : Type 0} → Known → List (Done T) → Type 0
NamesAsHeard k [] = Unit {0}
NamesAsHeard k (d ∷ ds) = Names k d.answer × NamesAsHeard (known_by k d.act d.answer) ds

abbrev pub nothing_known : Known
nothing_known = record { owed = None; transaction = 0 }
