use Rattle.std.proofs.Common.{ℕ, List, refl, ap, ◌∙◌, []}
use Rattle.tds_client.specs.Parts.{session_from}
use Rattle.tds_client.specs.Sending.{message_of, started}
use Rattle.tds_c.specs.Calls.{request_of, start_on, with_front}
use Rattle.tds_c.proofs.Refusing.{is_first}
use Rattle.tds_c.proofs.Starting.{asked_kind, asked_length, is_started, started_from, starts_from}
use Rattle.tds_c.proofs.calls.start_asked.Goals as goal

pub returns-in-Err : goal.returns-in-Err
returns-in-Err c =
    ((start_on (request_of c.args.asked) (session_from c.in-Some.parts []), starts_from _ (request_of c.args.asked) _ c.in-Some.ensures.some, is_first _ _ _ c.in-Err.ensures.refused, refl), (refl, refl))

pub returns-then-count-message : goal.returns-then-count-message
returns-then-count-message c =
    ((tt, started (session_from c.in-Some.parts []) (request_of c.args.asked), message_of c.in-Some.parts.heard (request_of c.args.asked), started_from _ (request_of c.args.asked) _ c.in-Some.ensures.some c.in-Ok.ensures.accepted, asked_length c.in-Some.parts.heard c.args.asked _ (c.as_slice.ensures ∙ c.body-body.ensures), c.if-count-message.true), (refl, refl))

pub returns : goal.returns
returns c = (
  started (session_from c.in-Some.parts []) (request_of c.args.asked),
  message_of c.in-Some.parts.heard (request_of c.args.asked),
  started_from _ (request_of c.args.asked) _ c.in-Some.ensures.some c.in-Ok.ensures.accepted,
  c.of.ensures ∙ is_started _ _ _ (c.in-Ok.ensures.ok (request_of c.args.asked) (asked_kind c.args.asked)),
  c.put_asked.ensures c.args.asked c.body-body.ensures ∙ ap (λ (bytes : List ℕ). with_front bytes c.args.message.now) (c.in-Ok.ensures.message (request_of c.args.asked)),
  asked_length c.in-Some.parts.heard c.args.asked _ (c.as_slice.ensures ∙ c.body-body.ensures),
)
