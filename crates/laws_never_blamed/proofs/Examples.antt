-- What is seen of a begin whose cancel crosses its answer, worked out: the next request names the transaction that it began.
use Rattle.std.proofs.Common.{◌≡◌, ℕ, true, false, List, [], ◌∷◌, refl}
use Rattle.tds_client.specs.Hearing.{place_change, place_done}
use Rattle.tds_listen.specs.Signs.{done_kind, sign_of, transaction_change}
use Rattle.tds_wire.specs.declared.told.ChangeValue.TheVariants as changes
use Rattle.tds_wire.specs.declared.told.Told.{Told}
use Rattle.tds_wire.specs.declared.told.Told.TheVariants as told
use Rattle.tds_wire.specs.declared.told.Token.{Token}
use Rattle.tds_service.specs.Parts.{Ends, Item}
use Rattle.tds_service.specs.Line as line
use Rattle.tds_service.specs.Line.{Act, new_line}
use Rattle.tds_service.specs.History.{history}
use Rattle.tds_judge.specs.declared.finding.Direction.TheVariants.{ToServer}
use Rattle.tds_judge.specs.declared.talk.Event.{Event}
use Rattle.tds_judge.specs.declared.talk.Event.TheVariants as events
use Rattle.tds_judge.specs.History.{Said}
use Rattle.laws_never_blamed.specs.Seen.{Eye, conversation}

abbrev eye : Eye
eye = record { spot = λ past. record { direction = ToServer; offset = 0; time = 0 }; length = λ past. 99; fills = λ past. false; headers = λ past. true; bulk = λ past. false }

abbrev token : ℕ → Told → Token
token kind x = record { kind = kind; start = 0; length = 13; told = x }

abbrev done : ℕ → Token
done status = token 0xFD (told.Done (record { status = status; command = 0; count = 0 }))

abbrev begun : Token
begun = token 0xE3 (told.Change (record { kind = 8; value = changes.Transaction 7 0 }))

abbrev items : List Token → List (Item Token)
items [] = []
items (t ∷ ts) = (record { sign = sign_of t; token = t }) ∷ items ts

abbrev whole : List Token → Act Token
whole ts = line.Come (record { items = items ts; close = Ends })

abbrev events_of : List Said → List Event
events_of [] = []
events_of (x ∷ past) = x.event ∷ events_of past

crossing : events_of (conversation eye (history new_line
    (line.Ask ∷ line.Send true ∷ line.Cancel ∷ whole (begun ∷ done 0 ∷ []) ∷ whole (done 0x20 ∷ []) ∷ line.Ask ∷ line.Send true ∷ [])))
    ≡ events.Names 7 ∷ events.Request 1 false ∷ events.Packet 99 false
    ∷ events.Answered true ∷ events.Says (done 0x20) ∷ events.Answer ∷ events.Packet 99 false
    ∷ events.Answered true ∷ events.Says (done 0) ∷ events.Says begun ∷ events.Answer ∷ events.Packet 99 false
    ∷ events.Attention 8 1 ∷ events.Packet 8 false
    ∷ events.Names 0 ∷ events.Request 1 false ∷ events.Packet 99 false ∷ []
unfolding place_change place_done done_kind transaction_change
crossing = refl
