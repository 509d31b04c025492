use Rattle.std.proofs.Common.{◌∙◌, ◌++◌, ℕ, Bool, List, Some, ap, refl, subst, sym}
use Rattle.tds_packet.specs.Layout.{header_bytes}
use Rattle.tds_relay.specs.Cutting.{awaited}
use Rattle.tds_relay.specs.Handing.{IsKnownBy, IsOf}
use Rattle.tds_relay.specs.Machine.{Whole, Without, behind_news}
use Rattle.tds_relay.specs.Queues.{Queue, queue_in, put_behind}
use Rattle.tds_relay.proofs.steps.Handed.{news_first}
use Rattle.tds_relay.proofs.steps.Reaching.{ok_if, ok_more}
use Rattle.tds_relay.proofs.steps.Renaming.{called_so}
use Rattle.tds_relay.proofs.relay.coming.hand_on.Goals as goal

pub returns-then-news-clause-passes : goal.returns-then-news-clause-passes
returns-then-news-clause-passes c =
    let tells = c.args.news.is_told in
    ok_more c.put_without_news.result _ _
    (λ made. record {
      manner = Without tells made.0;
      by = subst (λ (b : Bool). IsOf tells b (awaited c.args.news.is_owed c.args.answer.now) c.args.packet.header c.args.packet.«data».now (Without tells made.0)) (sym c.if-news.true) (made.0, refl, made.1);
      is = called_so c.args.application.now.tag _ _ (Some (behind_news tells made.0)) (made.2 ∙ ap (λ (p : Queue). put_behind made.0 p) c.in_ok-put_news.ensures.queue ∙ news_first tells made.0 (queue_in c.args.application.now.out));
    })
    c.put_without_news.ensures.cut

pub returns-else-news-clause-passes : goal.returns-else-news-clause-passes
returns-else-news-clause-passes c =
    let tells = c.args.news.is_told in
    let piece : List ℕ = header_bytes c.args.packet.header ++ c.args.packet.«data».now in
    ok_more c.put_packet.result _ _
    (λ queue. record {
      manner = Whole tells;
      by = subst (λ (b : Bool). IsOf tells b (awaited c.args.news.is_owed c.args.answer.now) c.args.packet.header c.args.packet.«data».now (Whole tells)) (sym c.if-news.false) refl;
      is = called_so c.args.application.now.tag _ _ (Some (behind_news tells piece)) (queue ∙ ap (λ (p : Queue). put_behind piece p) c.in_ok-put_news.ensures.queue ∙ news_first tells piece (queue_in c.args.application.now.out));
    })
    c.put_packet.ensures.queue

pub returns-then-news-clause-end : goal.returns-then-news-clause-end
returns-then-news-clause-end c = ok_if c.put_without_news.result _ refl

pub returns-else-news-clause-end : goal.returns-else-news-clause-end
returns-else-news-clause-end c = ok_if c.put_packet.result _ refl

pub returns-then-news-clause-known : goal.returns-then-news-clause-known
returns-then-news-clause-known c =
    ok_more c.put_without_news.result _ _
    (λ behind. subst (λ (b : Bool). IsKnownBy b c.args.news.is_owed c.args.answer.now c.args.packet.header c.args.packet.«data».now c.put_without_news.new.self) (sym c.if-news.true) behind)
    c.put_without_news.ensures.behind

pub returns-else-news-clause-known : goal.returns-else-news-clause-known
returns-else-news-clause-known c =
    ok_if c.put_packet.result _
    (subst (λ (b : Bool). IsKnownBy b c.args.news.is_owed c.args.answer.now c.args.packet.header c.args.packet.«data».now c.args.answer.now) (sym c.if-news.false) refl)
