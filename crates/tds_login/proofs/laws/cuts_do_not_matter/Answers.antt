use Rattle.std.proofs.Common.{sym}
use Rattle.tds_login.proofs.Folds.{after-append, answers-append, after_broken, answers_broken}
use Rattle.tds_login.proofs.laws.cuts_do_not_matter.Goals as goal

pub returns : goal.returns
returns c = record {
  login = λ l first second. sym (after-append l first second);
  answers = λ l first second. sym (answers-append l first second);
  broken = λ l fault bytes h. (after_broken l fault bytes h, answers_broken l fault bytes h);
}
