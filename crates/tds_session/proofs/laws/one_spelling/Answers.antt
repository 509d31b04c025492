use Rattle.tds_session.specs.Laws.Words.{read_is_spelled}
use Rattle.tds_session.specs.Laws.Texts.{spelled_is_read}
use Rattle.tds_session.proofs.laws.one_spelling.Goals as goal

pub returns : goal.returns
returns c = λ text statements. (read_is_spelled text statements, spelled_is_read text statements)
