use Rattle.std.proofs.Common.{subst}
use Rattle.std.proofs.lemmas.Result.{IfOk-weaker}
use Rattle.tds_session.specs.Answer.{script_answers}
use Rattle.tds_world.specs.Losses.{marked}
use Rattle.tds_world.specs.WithLosses.{IsReportWith}
use Rattle.tds_play.proofs.playing.play.Goals as goal

pub returns-clause-report : goal.returns-clause-report
returns-clause-report g c = λ faithful. IfOk-weaker c.play_with.result _ _ (λ report is. is.told) (c.play_with.ensures.refines faithful)

pub returns-clause-bytes : goal.returns-clause-bytes
returns-clause-bytes g c = λ faithful. IfOk-weaker c.play_with.result _ _ (λ report is. is.bytes) (c.play_with.ensures.refines faithful)

pub returns-clause-carried : goal.returns-clause-carried
returns-clause-carried g c = λ faithful. IfOk-weaker c.play_with.result _ _ (λ report is. is.carried) (c.play_with.ensures.refines faithful)

pub returns-clause-cuts : goal.returns-clause-cuts
returns-clause-cuts g c = λ faithful. IfOk-weaker c.play_with.result _ _ (λ report is. is.cuts) (c.play_with.ensures.refines faithful)

pub returns-clause-whole : goal.returns-clause-whole
returns-clause-whole g c = λ faithful. IfOk-weaker c.play_with.result _ _ (λ report is. is.plain) (c.play_with.ensures.refines faithful)

pub returns-clause-own_answers : goal.returns-clause-own_answers
returns-clause-own_answers g c = λ faithful. IfOk-weaker c.play_with.result _ _ (λ report is. c.of_marked_report.ensures.own_answers c.args.setup.now script_answers c.args.events.now report c.script_is_lawful.ensures is.told) (c.play_with.ensures.refines faithful)

pub returns-clause-own_transaction : goal.returns-clause-own_transaction
returns-clause-own_transaction g c = λ faithful. IfOk-weaker c.play_with.result _ _ (λ report is. c.of_marked_report.ensures.own_transaction c.args.setup.now script_answers c.args.events.now report c.script_is_lawful.ensures is.told) (c.play_with.ensures.refines faithful)

pub returns-clause-after_cancel : goal.returns-clause-after_cancel
returns-clause-after_cancel g c = λ front later parts faithful. IfOk-weaker c.play_with.result _ _ (λ report is. c.of_marked_report.ensures.after_cancel c.args.setup.now script_answers front later report c.script_is_lawful.ensures (subst (λ es. IsReportWith c.args.setup.now script_answers es report) parts is.told)) (c.play_with.ensures.refines faithful)

pub returns-clause-fresh_start : goal.returns-clause-fresh_start
returns-clause-fresh_start g c = λ faithful. IfOk-weaker c.play_with.result _ _ (λ report is. c.of_marked_report.ensures.fresh_start c.args.setup.now script_answers c.args.events.now report c.script_is_lawful.ensures is.told) (c.play_with.ensures.refines faithful)

pub returns-clause-lends_idle : goal.returns-clause-lends_idle
returns-clause-lends_idle g c = λ faithful. IfOk-weaker c.play_with.result _ _ (λ report is. c.of_marked_report.ensures.lends_idle c.args.setup.now script_answers c.args.events.now report c.script_is_lawful.ensures is.told) (c.play_with.ensures.refines faithful)

pub returns-clause-idle_is_quiet : goal.returns-clause-idle_is_quiet
returns-clause-idle_is_quiet g c = λ faithful. IfOk-weaker c.play_with.result _ _ (λ report is. c.of_marked_report.ensures.idle_is_quiet c.args.setup.now script_answers c.args.events.now report c.script_is_lawful.ensures is.told) (c.play_with.ensures.refines faithful)

pub returns-clause-kept_transaction : goal.returns-clause-kept_transaction
returns-clause-kept_transaction g c = λ faithful. IfOk-weaker c.play_with.result _ _ (λ report is. c.of_marked_report.ensures.kept_transaction c.args.setup.now script_answers c.args.events.now report c.script_is_lawful.ensures is.told) (c.play_with.ensures.refines faithful)

pub returns-clause-few_underway : goal.returns-clause-few_underway
returns-clause-few_underway g c = λ faithful. IfOk-weaker c.play_with.result _ _ (λ report is. c.of_marked_report.ensures.few_underway c.args.setup.now script_answers c.args.events.now report is.in_range c.script_is_lawful.ensures is.known is.told) (c.play_with.ensures.refines faithful)

pub returns-clause-no_fault : goal.returns-clause-no_fault
returns-clause-no_fault g c = λ faithful. IfOk-weaker c.play_with.result _ _ (λ report is. c.of_marked_report.ensures.no_fault c.args.setup.now script_answers c.args.events.now report is.told) (c.play_with.ensures.refines faithful)

pub returns-clause-one_attention : goal.returns-clause-one_attention
returns-clause-one_attention g c = λ faithful. IfOk-weaker c.play_with.result _ _ (λ report is. c.one_attention.ensures c.args.setup.now script_answers c.script_is_lawful.ensures (marked c.args.events.now report.events)) (c.play_with.ensures.refines faithful)

pub returns-clause-begins_once : goal.returns-clause-begins_once
returns-clause-begins_once g c = λ faithful. IfOk-weaker c.play_with.result _ _ (λ report is. c.begins_once.ensures c.args.setup.now script_answers c.script_hands_out_next.ensures (marked c.args.events.now report.events)) (c.play_with.ensures.refines faithful)

pub returns-clause-never_stuck : goal.returns-clause-never_stuck
returns-clause-never_stuck g c = λ faithful. IfOk-weaker c.play_with.result _ _ (λ report is. c.never_stuck.ensures c.args.setup.now script_answers c.script_is_lawful.ensures (marked c.args.events.now report.events)) (c.play_with.ensures.refines faithful)

pub returns-clause-as_if_alone : goal.returns-clause-as_if_alone
returns-clause-as_if_alone g c = λ faithful.
    c.play_with.ensures.as_if_alone faithful c.script_is_blind.ensures c.script_uses_few.ensures

pub returns-clause-comes_to_rest : goal.returns-clause-comes_to_rest
returns-clause-comes_to_rest g c = λ faithful. IfOk-weaker c.play_with.result _ _ (λ report is. c.of_marked_report.ensures.comes_to_rest c.args.setup.now script_answers c.args.events.now report is.in_range c.script_is_lawful.ensures is.told) (c.play_with.ensures.refines faithful)

pub returns-clause-told_alone : goal.returns-clause-told_alone
returns-clause-told_alone g c = λ faithful.
    c.play_with.ensures.told_alone faithful c.script_is_blind.ensures c.script_uses_few.ensures

pub returns-clause-left_clean : goal.returns-clause-left_clean
returns-clause-left_clean g c = λ faithful.
    c.play_with.ensures.left_clean faithful c.script_answers_clean.ensures

pub returns-clause-all_stop : goal.returns-clause-all_stop
returns-clause-all_stop g c = λ faithful none. c.play_with.ensures.all_stop faithful none
