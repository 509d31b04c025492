use Rattle.tds_service.specs.Line.{new_line}
use Rattle.tds_service.specs.History.{history}
use Rattle.laws_never_blamed.specs.Seen.{conversation}
use Rattle.laws_never_blamed.proofs.Acts.{is_lawful, not_blamed}
use Rattle.laws_never_blamed.proofs.laws.never_blamed_before_a_lawful_server.Goals as goal

pub returns-clause-lawful : goal.returns-clause-lawful
returns-clause-lawful g c engine acts moves eye rules run plain = is_lawful eye acts plain (c.no_fault.ensures engine acts moves rules run)

pub returns-clause-blamed : goal.returns-clause-blamed
returns-clause-blamed g c engine acts moves eye rules run plain =
    not_blamed c.lawful_is_never_blamed.ensures.said (conversation eye (history new_line acts))
    (is_lawful eye acts plain (c.no_fault.ensures engine acts moves rules run))
