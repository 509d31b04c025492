use Rattle.tds_service.proofs.Alone.{line_by_history}
use Rattle.tds_service.proofs.table_laws.line_by_history.Goals as goal

pub returns : goal.returns
returns g c = λ max n calls seat e. line_by_history max n calls seat e
