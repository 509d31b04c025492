use Rattle.tds_service.specs.Line.{new_line}
use Rattle.tds_service.specs.History.{history}
use Rattle.laws_never_blamed.specs.Seen.{conversation}
use Rattle.laws_never_blamed.proofs.Acts.{is_lawful, not_blamed}
use Rattle.laws_never_blamed.proofs.laws.own_conversations_are_lawful.Goals as goal

pub returns-clause-lawful : goal.returns-clause-lawful
returns-clause-lawful c = is_lawful

pub returns-clause-blamed : goal.returns-clause-blamed
returns-clause-blamed c eye acts plain well =
    not_blamed c.lawful_is_never_blamed.ensures.said (conversation eye (history new_line acts)) (is_lawful eye acts plain well)
