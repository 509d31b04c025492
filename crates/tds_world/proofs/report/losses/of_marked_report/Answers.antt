use Rattle.tds_world.proofs.plays.Headline as headline
use Rattle.tds_world.proofs.report.losses.of_marked_report.Goals as goal

pub returns-clause-own_answers : goal.returns-clause-own_answers
returns-clause-own_answers c = headline.own_answers

pub returns-clause-own_transaction : goal.returns-clause-own_transaction
returns-clause-own_transaction c = headline.own_transaction

pub returns-clause-after_cancel : goal.returns-clause-after_cancel
returns-clause-after_cancel c = headline.after_cancel

pub returns-clause-fresh_start : goal.returns-clause-fresh_start
returns-clause-fresh_start c = headline.fresh_start

pub returns-clause-kept_transaction : goal.returns-clause-kept_transaction
returns-clause-kept_transaction c = headline.kept_transaction

pub returns-clause-left_clean : goal.returns-clause-left_clean
returns-clause-left_clean c = headline.left_clean

pub returns-clause-lends_idle : goal.returns-clause-lends_idle
returns-clause-lends_idle c = headline.lends_idle

pub returns-clause-idle_is_quiet : goal.returns-clause-idle_is_quiet
returns-clause-idle_is_quiet c = headline.idle_is_quiet

pub returns-clause-few_underway : goal.returns-clause-few_underway
returns-clause-few_underway c = headline.few_underway

pub returns-clause-no_fault : goal.returns-clause-no_fault
returns-clause-no_fault c = headline.no_fault

pub returns-clause-comes_to_rest : goal.returns-clause-comes_to_rest
returns-clause-comes_to_rest c = headline.comes_to_rest

pub returns-clause-told_alone : goal.returns-clause-told_alone
returns-clause-told_alone c = headline.told_alone

pub returns-clause-whole : goal.returns-clause-whole
returns-clause-whole c = headline.whole

pub returns-clause-plain : goal.returns-clause-plain
returns-clause-plain c = headline.plain
