-- What a report says of an event.
use Rattle.std.specs.Prelude.{ℕ, List, ◌++◌, codes, decimal}
use Rattle.tds_world.specs.declared.outcome.Outcome.{Outcome}
use Rattle.tds_world.specs.declared.outcome.Outcome.TheVariants as outcome
use Rattle.tds_world.specs.declared.outcome.Opened.{Opened}
use Rattle.tds_world.specs.declared.outcome.Opened.TheVariants as opened
use Rattle.tds_world.specs.declared.outcome.GiveBackOutcome.{GiveBackOutcome}
use Rattle.tds_world.specs.declared.outcome.GiveBackOutcome.TheVariants as give_back
use Rattle.tds_world.specs.declared.outcome.AbandonOutcome.{AbandonOutcome}
use Rattle.tds_world.specs.declared.outcome.AbandonOutcome.TheVariants as abandon
use Rattle.tds_world.specs.declared.outcome.SendOutcome.{SendOutcome}
use Rattle.tds_world.specs.declared.outcome.SendOutcome.TheVariants as send
use Rattle.tds_world.specs.declared.outcome.CancelOutcome.{CancelOutcome}
use Rattle.tds_world.specs.declared.outcome.CancelOutcome.TheVariants as cancel
use Rattle.tds_world.specs.declared.outcome.WorkOutcome.{WorkOutcome}
use Rattle.tds_world.specs.declared.outcome.WorkOutcome.TheVariants as work
use Rattle.tds_world.specs.declared.outcome.End.{End}
use Rattle.tds_world.specs.declared.outcome.End.TheVariants as an_end
use Rattle.tds_world.specs.declared.outcome.Layer.{Layer}
use Rattle.tds_world.specs.declared.outcome.Layer.TheVariants as layer
use Rattle.tds_world.specs.Refusals.{refusal_number}

-- How a lease came by its connection.
abbrev pub opened_word : Opened → List ℕ
opened_word opened.New = codes "new"
opened_word opened.Reused = codes "reused"
opened_word opened.Resumed = codes "resumed"

-- Where the connection of a lease that was given back is.
abbrev pub give_back_word : GiveBackOutcome → List ℕ
give_back_word give_back.Free = codes "free"
give_back_word give_back.Draining = codes "draining"
give_back_word give_back.Closed = codes "closed"

-- Where the connection of a ticket that was abandoned is.
abbrev pub abandon_word : AbandonOutcome → List ℕ
abandon_word abandon.Free = codes "free"
abandon_word abandon.Closed = codes "closed"

-- Whether a packet was its request's last one.
abbrev pub send_word : SendOutcome → List ℕ
send_word send.More = codes "more"
send_word send.Last = codes "last"

-- What a cancel did.
abbrev pub cancel_word : CancelOutcome → List ℕ
cancel_word cancel.Nothing = codes "nothing"
cancel_word cancel.Already = codes "already"
cancel_word cancel.Unsent = codes "unsent"
cancel_word cancel.Asked = codes "asked"

-- What a server's work did.
abbrev pub work_word : WorkOutcome → List ℕ
work_word work.Idle = codes "idle"
work_word work.Step = codes "step"
work_word work.Finished = codes "finished"

-- An end of a connection.
abbrev pub end_word : End → List ℕ
end_word an_end.Server = codes "server"
end_word an_end.Client = codes "client"

-- A layer.
abbrev pub layer_word : Layer → List ℕ
layer_word layer.Packet = codes "packet"
layer_word layer.Core = codes "core"

-- What an event came to.
abbrev pub outcome_text : Outcome → List ℕ
outcome_text (outcome.Leased lease conn how) = codes "leased " ++ decimal lease ++ codes " on " ++ decimal conn ++ codes " " ++ opened_word how
outcome_text (outcome.GivenBack how) = codes "given back " ++ give_back_word how
outcome_text (outcome.Kept ticket) = codes "kept " ++ decimal ticket
outcome_text (outcome.Abandoned how) = codes "abandoned " ++ abandon_word how
outcome_text (outcome.Cleaning lease request) = codes "cleaning " ++ decimal request ++ codes " lease " ++ decimal lease
outcome_text (outcome.Asked request) = codes "asked " ++ decimal request
outcome_text (outcome.Sent how) = codes "sent " ++ send_word how
outcome_text (outcome.Cancel how) = codes "cancel " ++ cancel_word how
outcome_text (outcome.Work how) = codes "work " ++ work_word how
outcome_text (outcome.ToServer count) = codes "to server " ++ decimal count
outcome_text (outcome.ToClient count) = codes "to client " ++ decimal count
outcome_text outcome.Cut = codes "cut"
outcome_text outcome.RestartedServer = codes "restarted server"
outcome_text outcome.RestartedClient = codes "restarted client"
outcome_text (outcome.Refused why) = codes "refused " ++ decimal (refusal_number why)
outcome_text (outcome.Fault at layer number) = codes "fault " ++ end_word at ++ codes " " ++ layer_word layer ++ codes " " ++ decimal number
