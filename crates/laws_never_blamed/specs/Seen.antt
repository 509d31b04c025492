-- What somebody at the client's end of a connection of a service sees, in the judge's words: what goes out and what comes there.
use Rattle.std.specs.Prelude.{◌≡◌, ℕ, ◌+◌, ◌&&◌, ◌||◌, Bool, true, false, List, [], ◌∷◌, Option, if◌then◌else◌}
use Rattle.tds_packet.specs.declared.status.Reset.{Reset}
use Rattle.tds_packet.specs.Resets.{reset_bit}
use Rattle.tds_listen.specs.Signs.{sign_of}
use Rattle.tds_wire.specs.declared.told.Token.{Token}
use Rattle.tds_service.specs.Parts.{Item, Close, Goes, Ends, Cut, Fails, Part, is_end}
use Rattle.tds_service.specs.Line as line
use Rattle.tds_service.specs.Line.{Act, Answer, Packet, OfRequest, Ignore, Attention}
use Rattle.tds_service.specs.History.{Done}
use Rattle.tds_judge.specs.declared.finding.Spot.{Spot}
use Rattle.tds_judge.specs.declared.talk.Event.{Event}
use Rattle.tds_judge.specs.declared.talk.Event.TheVariants as events
use Rattle.tds_judge.specs.History.{Said}
use Rattle.tds_judge.specs.Talking.{acknowledges, says_more}
use Rattle.laws_never_blamed.specs.Tokens.{AcknowledgesAsDone, TellsNoSize}

-- What isn't said of a connection there, by what was seen so far: where and when the next thing is seen, how long the next packet is and
-- whether it has to be full, whether the data of the next request begin with ALL_HEADERS (MS-TDS 2.2.3.1.3, 2.2.5.3), and whether it is a
-- bulk load.
pub record Eye : Type 0 where
  pub spot : List Said → Spot
  pub length : List Said → ℕ
  pub fills : List Said → Bool
  pub headers : List Said → Bool
  pub bulk : List Said → Bool

abbrev pub sees : Eye → List Said → Event → List Said
sees eye past event = (record { spot = eye.spot past; event = event }) ∷ past

abbrev pub sees_packet : Eye → List Said → List Said
sees_packet eye past = sees eye past (events.Packet (eye.length past) (eye.fills past))

-- ---- What goes out (MS-TDS 2.2.3.1.2)

abbrev pub status : Option Reset → Bool → ℕ
status reset last = reset_bit reset + (if last then 1 else 0)

abbrev pub sees_names : Eye → ℕ → List Said → List Said
sees_names eye named past = if eye.headers past then sees eye past (events.Names named) else past

abbrev pub sees_request : Eye → List Said → ℕ → List Said
sees_request eye past status = sees eye past (events.Request status (eye.bulk past))

abbrev pub sees_part : Eye → ℕ → List Said → Bool → Option Reset → Bool → List Said
sees_part eye named past true reset last = sees_names eye named (sees_request eye (sees_packet eye past) (status reset last))
sees_part eye named past false reset last = sees eye (sees_packet eye past) (events.Later (status reset last))

abbrev pub sees_out : Eye → ℕ → List Said → Packet → List Said
sees_out eye named past (OfRequest request first reset last) = sees_part eye named past first reset last
sees_out eye named past (Ignore request) = sees eye (sees eye (sees_packet eye past) (events.Later 3)) events.Ignored
sees_out eye named past Attention = sees eye (sees eye past (events.Packet 8 false)) (events.Attention 8 1)

abbrev pub sees_outs : Eye → ℕ → List Said → List Packet → List Said
sees_outs eye named past [] = past
sees_outs eye named past (packet ∷ packets) = sees_outs eye named (sees_out eye named past packet) packets

-- ---- What comes

abbrev pub sees_items : Eye → List Said → List (Item Token) → List Said
sees_items eye past [] = past
sees_items eye past (item ∷ items) = sees_items eye (sees eye past (events.Says item.token)) items

abbrev pub sees_close : Eye → List Said → Close → List Said
sees_close eye past Goes = past
sees_close eye past Ends = sees eye past (events.Answered true)
sees_close eye past Cut = sees eye past (events.Answered false)
sees_close eye past (Fails refusal) = past

-- A message begins with its first packet.
abbrev pub sees_begin : Eye → Bool → List Said → List Said
sees_begin eye true past = past
sees_begin eye false past = sees eye past events.Answer

abbrev pub sees_come : Eye → Bool → List Said → Part Token → List Said
sees_come eye begun past part = sees_close eye (sees_items eye (sees_begin eye begun (sees_packet eye past)) part.items) part.close

-- ---- All that is done and comes, until the connection is lost

-- the transaction that the header of the request which is asked names, and whether a message comes that has begun
pub record Watch : Type 0 where
  pub named : ℕ
  pub begun : Bool

abbrev pub named_by : Answer → ℕ → ℕ
named_by (line.Asked request named) before = named
named_by _ before = before

abbrev pub begun_by : Act Token → Bool → Bool
begun_by (line.Come part) before = if is_end part.close then false else true
begun_by _ before = before

abbrev pub watch_by : Done Token → Watch → Watch
watch_by d w = record { named = named_by d.answer w.named; begun = begun_by d.act w.begun }

abbrev pub sees_act : Eye → Bool → List Said → Act Token → List Said
sees_act eye begun past (line.Come part) = sees_come eye begun past part
sees_act eye begun past _ = past

abbrev pub sees_done : Eye → Watch → List Said → Done Token → List Said
sees_done eye w past d = sees_act eye w.begun (sees_outs eye w.named past d.sent) d.act

abbrev pub unless_lost : Eye → Answer → List Said → List Said → List Said
unless_lost eye line.Lost past others = sees eye past events.Closed
unless_lost eye _ past others = others

abbrev pub seen : Eye → Watch → List Said → List (Done Token) → List Said
seen eye w past [] = past
seen eye w past (d ∷ ds) = unless_lost eye d.answer past (seen eye (watch_by d w) (sees_done eye w past d) ds)

-- From a login on, which is over: nothing was seen.
abbrev pub conversation : Eye → List (Done Token) → List Said
conversation eye ds = seen eye (record { named = 0; begun = false }) [] ds

-- ---- Tokens behind a login

-- A token with its sign; no packet size is told, and bit 0020 stands in a DONE alone, and not with 0001.
pub record IsBehindLogin (item : Item Token) : Type 0 where
  pub sign : item.sign ≡ sign_of item.token
  pub size : TellsNoSize item.token.told
  pub done : AcknowledgesAsDone item.token
  pub final : acknowledges item.token && says_more item.token ≡ false

abbrev pub NothingIf : Bool → List (Item Token) → Type 0
NothingIf true items = items ≡ []
NothingIf false items = Unit {0}

-- Behind an acknowledgement nothing comes in its message (MS-TDS 2.2.7.6).
abbrev pub AreBehindLogin : List (Item Token) → Type 0
AreBehindLogin [] = Unit {0}
AreBehindLogin (item ∷ items) = IsBehindLogin item × NothingIf (acknowledges item.token) items × AreBehindLogin items

abbrev pub acknowledge : List (Item Token) → Bool
acknowledge [] = false
acknowledge (item ∷ items) = acknowledges item.token || acknowledge items

abbrev pub EndsIf : Bool → Close → Type 0
EndsIf true close = is_end close ≡ true
EndsIf false close = Unit {0}

abbrev pub ComesBehindLogin : Act Token → Type 0
ComesBehindLogin (line.Come part) = AreBehindLogin part.items × EndsIf (acknowledge part.items) part.close
ComesBehindLogin _ = Unit {0}

-- All that comes is of this kind.
abbrev pub AllBehindLogin : List (Act Token) → Type 0
AllBehindLogin [] = Unit {0}
AllBehindLogin (act ∷ acts) = ComesBehindLogin act × AllBehindLogin acts
