use Rattle.std.proofs.Common.{◌≡◌, ◌∙◌, [], Ok, Err, sym, ap, subst, rules}
use Rattle.tds_client.specs.Parts.{session_from}
use Rattle.tds_listen.specs.Faults.{broken_at_end}
use Rattle.tds_listen.specs.Hearing.{Both, heard_end}
use Rattle.tds_wire.specs.Lent.{reading_of}
use Rattle.tds_wire.specs.Reading.{restarted}
use Rattle.tds_c.proofs.wire.hearing.walked.hear_on.Goals as goal

pub returns-in-Ok-Full-clause-run : goal.returns-in-Ok-Full-clause-run
returns-in-Ok-Full-clause-run c first room long run = rw c.in-Ok-Full.field-0-is at (c.in-Ok-Full.ensures.run first room long run)

pub returns-then-ends-eq0-clause-run : goal.returns-then-ends-eq0-clause-run
returns-then-ends-eq0-clause-run c first room long run =
    let x = rw c.in-Ok-Through.field-0-is at (c.in-Ok-Through.ensures.run first room long run) in
    (x.0, x.1, x.2, (x.3.0, search rules, x.3.1))

pub returns-in-Ok-clause-run : goal.returns-in-Ok-clause-run
returns-in-Ok-clause-run c first room long run =
    let x = rw c.in-Ok-Through.field-0-is at (c.in-Ok-Through.ensures.run first room long run) in
    let ended = c.in-Ok.ensures.exact (reading_of c.hear_tokens.new.walk c.hear_tokens.new.memory) (sym c.is_between-between.ensures.between) in
    (x.0, x.1, x.2, (x.3.0, search rules, subst (λ (b : Both). heard_end b.session b.reading ≡ Ok (record { answer = c.in-Ok.answer; session = session_from c.end_message.new.parts [] })) x.3.1 ended, c.restart.ensures.state ∙ ap (λ (b : Both). restarted b.reading) x.3.1))

pub returns-in-Err-end_message-clause-run : goal.returns-in-Err-end_message-clause-run
returns-in-Err-end_message-clause-run c first room long run =
    let x = rw c.in-Ok-Through.field-0-is at (c.in-Ok-Through.ensures.run first room long run) in
    let ended = c.in-Err-end_message.ensures.exact (reading_of c.hear_tokens.new.walk c.hear_tokens.new.memory) (sym c.is_between-between.ensures.between) in (
      x.0,
      x.1,
      x.2,
      (
        x.3.0,
        search rules,
        subst (λ (b : Both). heard_end b.session b.reading ≡ Err c.in-Err-end_message.fault) x.3.1 ended,
        c.in-Err-end_message.ensures.broken ∙ ap (λ (b : Both). broken_at_end b.session c.in-Err-end_message.fault) x.3.1,
        c.restart.ensures.state ∙ ap (λ (b : Both). restarted b.reading) x.3.1,
      ),
    )
