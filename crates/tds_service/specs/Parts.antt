-- What is heard of an answer, whoever reads its tokens: each token with its sign, in the parts in which they come.
use Rattle.std.specs.Prelude.{Bool, true, false, List, [], ◌∷◌, Option, Some, None, Result, Ok, Err}
use Rattle.tds_packet.specs.declared.status.Reset.{Reset}
use Rattle.tds_wire.specs.declared.fault.Refusal.{Refusal}
use Rattle.tds_client.specs.declared.fault.ClientFault.{ClientFault}
use Rattle.tds_client.specs.declared.fault.ClientFault.TheVariants.{NoFinalDone}
use Rattle.tds_client.specs.declared.heard.Heard.{Heard}
use Rattle.tds_client.specs.declared.sign.Sign.{Sign}
use Rattle.tds_client.specs.declared.sign.Sign.TheVariants as signs
use Rattle.tds_client.specs.declared.sign.Rules.TheVariants.{Any}
use Rattle.tds_client.specs.Hearing.{◌>>=◌, hear_sign, may_end}
use Rattle.tds_listen.specs.declared.fault.ListenFault.{ListenFault}
use Rattle.tds_listen.specs.declared.fault.ListenFault.TheVariants as faults
use Rattle.tds_listen.specs.Hearing.{heard_by}

-- A token, of whatever kind, and its sign.
pub record Item (T : Type 0) : Type 0 where
  pub sign : Sign
  pub token : T

-- What stands behind the tokens of a part: more of the message; its end, between two tokens or inside one; or bytes that are none.
pub data Close : Type 0 where
  Goes : Close
  Ends : Close
  Cut : Close
  Fails : (refusal : Refusal) → Close

-- What is heard at once.
pub record Part (T : Type 0) : Type 0 where
  pub items : List (Item T)
  pub close : Close

abbrev pub is_end : Close → Bool
is_end Goes = false
is_end Ends = true
is_end Cut = true
is_end (Fails refusal) = false

-- The tokens that are told to a caller: all but the changes of a transaction and the ends of resets.
abbrev pub told_by : {T : Type 0} → Sign → T → List T → List T
told_by signs.Nothing token others = token ∷ others
told_by (signs.Change change) token others = others
told_by (signs.Done kind status) token others = token ∷ others

abbrev pub items_told : {T : Type 0} → List (Item T) → List T
items_told [] = []
items_told (item ∷ items) = told_by item.sign item.token (items_told items)

-- ---- What a client makes of a part, by the rules of any server

abbrev pub hear_items : {T : Type 0} → Bool → Heard → List (Item T) → Result Heard ClientFault
hear_items cancelling heard [] = Ok heard
hear_items cancelling heard (item ∷ items) = hear_sign Any cancelling heard item.sign >>= λ next. hear_items cancelling next items

-- What was heard up to the one that is at fault, or up to the end.
abbrev pub until_by : Heard → Result Heard ClientFault → (Heard → Heard) → Heard
until_by heard (Ok next) behind = behind next
until_by heard (Err fault) behind = heard

abbrev pub heard_until : {T : Type 0} → Bool → Heard → List (Item T) → Heard
heard_until cancelling heard [] = heard
heard_until cancelling heard (item ∷ items) = until_by heard (hear_sign Any cancelling heard item.sign) (λ next. heard_until cancelling next items)

-- A request that has its whole answer was told that the reset it asked for is done (MS-TDS 2.2.7.9, type 18).
abbrev pub unless_owed : Option Reset → Heard → Result Heard ListenFault
unless_owed None heard = Ok heard
unless_owed (Some reset) heard = Err faults.ResetUnanswered

abbrev pub close_by : Bool → Bool → Heard → Result Heard ListenFault
close_by cancelling false heard = Err (faults.Client NoFinalDone)
close_by true true heard = Ok heard
close_by false true heard = unless_owed heard.mark heard

-- A message that is read ends between two tokens, behind a final DONE. Behind a cancel it may end anywhere.
abbrev pub close_part : Bool → Close → Heard → Result Heard ListenFault
close_part cancelling Goes heard = Ok heard
close_part cancelling Ends heard = close_by cancelling (may_end Any cancelling heard.done) heard
close_part false Cut heard = Err faults.Cut
close_part true Cut heard = close_by true (may_end Any true heard.done) heard
close_part cancelling (Fails refusal) heard = Err (faults.Wire refusal)

abbrev pub hear_part : {T : Type 0} → Bool → Heard → Part T → Result Heard ListenFault
hear_part cancelling heard part = heard_by (hear_items cancelling heard part.items) (λ next. close_part cancelling part.close next)
