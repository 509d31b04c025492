use Rattle.std.proofs.Common.{ℕ, List, refl, ap, ◌∙◌, []}
use Rattle.tds_request.specs.declared.request.Request.TheVariants.{Batch}
use Rattle.tds_client.specs.Parts.{session_from}
use Rattle.tds_client.specs.Sending.{message_of, started}
use Rattle.tds_c.specs.Calls.{start_on, with_front}
use Rattle.tds_c.proofs.Refusing.{is_first}
use Rattle.tds_c.proofs.Starting.{batch_length, is_started, started_from, starts_from}
use Rattle.tds_c.proofs.calls.start_batch.Goals as goal

pub returns-in-Err : goal.returns-in-Err
returns-in-Err c =
    ((start_on (Batch c.args.text.now) (session_from c.in-Some.parts []), starts_from _ (Batch c.args.text.now) _ c.in-Some.ensures.some, is_first _ _ _ c.in-Err.ensures.refused, refl), (refl, refl))

pub returns-then-count-message : goal.returns-then-count-message
returns-then-count-message c =
    ((tt, started (session_from c.in-Some.parts []) (Batch c.args.text.now), message_of c.in-Some.parts.heard (Batch c.args.text.now), started_from _ (Batch c.args.text.now) _ c.in-Some.ensures.some c.in-Ok.ensures.accepted, batch_length c.in-Some.parts.heard c.args.text.now, c.if-count-message.true), (refl, refl))

pub returns : goal.returns
returns c = (
  started (session_from c.in-Some.parts []) (Batch c.args.text.now),
  message_of c.in-Some.parts.heard (Batch c.args.text.now),
  started_from _ (Batch c.args.text.now) _ c.in-Some.ensures.some c.in-Ok.ensures.accepted,
  c.of.ensures ∙ is_started _ _ _ (c.in-Ok.ensures.ok (Batch c.args.text.now) refl),
  c.put_batch.ensures ∙ ap (λ (bytes : List ℕ). with_front bytes c.args.message.now) (c.in-Ok.ensures.message (Batch c.args.text.now)),
  batch_length c.in-Some.parts.heard c.args.text.now,
)
