use Rattle.std.proofs.Common.{◌≡◌, ◌∙◌, ◌++◌, List, ℕ, ap, subst}
use Rattle.tds_relay.specs.Cutting.{IsAnew, IsCut, awaited, is_last_packet, left_of}
use Rattle.tds_relay.specs.declared.news.Known.{Known}
use Rattle.tds_relay.specs.News.{awaiting}
use Rattle.tds_relay.specs.Queues.{queue_in, put_behind}
use Rattle.tds_relay.proofs.bytes.Cuts.{behind_is, cut_is}
use Rattle.tds_relay.proofs.steps.Reaching.{ok_if, ok_more}
use Rattle.tds_relay.proofs.link.Answer.put_without_news.Goals as goal

pub returns-clause-cut : goal.returns-clause-cut
returns-clause-cut c =
    let made = c.in_ok-put_data.ensures in
    let kept : c.cut.new.kept.items ≡ (left_of (awaiting c.args.owed c.args.self.now.known) c.args.self.now.parser c.args.bytes.now).bytes =
    c.in_ok-cut.ensures.kept ∙ ap (λ (front : List ℕ). front ++ (left_of c.awaits.new.self c.args.self.now.parser c.args.bytes.now).bytes) c.new-kept.ensures.items
    ∙ ap (λ (k : Known). (left_of k c.args.self.now.parser c.args.bytes.now).bytes) c.awaits.ensures in
    let is_cut : IsCut (awaited c.args.owed c.args.self.now) c.args.header c.args.bytes.now made.0 =
    cut_is (awaited c.args.owed c.args.self.now) c.args.header c.args.bytes.now c.close.new.self.size c.ends-ends.result c.cut.new.kept.items c.close.new.kept.items made.0 c.cut.new.self.known
    (c.in_ok-close.ensures.size ∙ c.in_ok-cut.ensures.size) c.ends-ends.ensures kept (c.in_ok-cut.ensures.known ∙ ap (λ (k : Known). (left_of k c.args.self.now.parser c.args.bytes.now).known) c.awaits.ensures) c.in_ok-close.ensures.kept
    (subst (λ (bytes : List ℕ). IsAnew c.close.new.self.size c.args.header.packet_id c.ends-ends.result bytes made.0) c.deref.ensures.value made.1) in
    ok_more c.append.result _ _
    (λ queue. (
      made.0,
      is_cut,
      queue ∙ ap (λ (bytes : List ℕ). put_behind bytes (queue_in c.args.on.now)) (c.deref-2.ensures.value ∙ made.2 ∙ ap (λ (front : List ℕ). front ++ made.0) c.new-packets.ensures.items),
    ))
    c.append.ensures.queue

pub returns-clause-behind : goal.returns-clause-behind
returns-clause-behind c =
    let owed = awaited c.args.owed c.args.self.now in
    let behind = behind_is owed c.args.bytes.now c.ends-ends.result (is_last_packet c.args.header) c.awaits.new.self c.cut.new.self.known c.close.new.self.known c.cut.new.self.parser c.close.new.self.parser c.awaits.ensures
    c.ends-ends.ensures c.in_ok-cut.ensures.known c.in_ok-cut.ensures.stands c.in_ok-close.ensures.known c.in_ok-close.ensures.parser in
    ok_if c.append.result _ (behind.0, behind.1, c.in_ok-close.ensures.size ∙ c.in_ok-cut.ensures.size)
