use Rattle.std.proofs.Common.{take, ap, ◌∙◌, ◌++◌}
use Rattle.tds_login.specs.Answers.{error_body, error_head, long_text, place}
use Rattle.tds_login.proofs.Joining.{three_pieces}
use Rattle.tds_login.proofs.answer.put_error_body.Goals as goal

pub returns : goal.returns
unfolding error_body
returns c =
    three_pieces c.put_place.result c.args.body.now.items (error_head c.args.number) (long_text (take 200 c.args.text.now)) (place c.args.layout)
    c.put_error_head.new.body.items c.put_long_text.new.data.items c.put_place.new.body.items
    c.in_ok-put_error_head.ensures
    (c.in_ok-put_long_text.ensures ∙ ap (λ t. c.put_error_head.new.body.items ++ long_text t) c.front.ensures.front)
    c.put_place.ensures
