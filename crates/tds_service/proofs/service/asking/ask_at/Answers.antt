use Rattle.std.proofs.Common.{◌∙◌, [], refl, sym, ap, subst}
use Rattle.tds_client.specs.Streams.{opened}
use Rattle.tds_service.specs.declared.seat.Seat.{Seat}
use Rattle.tds_service.specs.Line as line
use Rattle.tds_service.specs.Ties.{Does, line_in, asked_answer}
use Rattle.tds_service.proofs.Tables.{same_get}
use Rattle.tds_service.proofs.Keeping.{keeps_set}
use Rattle.tds_service.proofs.Indexing.{holders_set}
use Rattle.tds_service.proofs.Rising.{numbers_set}
use Rattle.tds_service.proofs.Sizing.{sizes_set}
use Rattle.tds_service.proofs.service.asking.ask_at.Goals as goal

pub returns-in-Ok-clause-ok : goal.returns-in-Ok-clause-ok
returns-in-Ok-clause-ok c = λ s h.
    let same = same_get c.args.seats.now c.args.index c.index-seats-index.result s c.requires ∙ sym h in (
      _,
      refl,
      ap (λ (x : Seat). x.number) same,
      ap (λ (x : Seat). x.place) same,
      ap (λ (x : Seat). x.number) same,
      subst (λ (x : Seat). Does line.Ask (line_in x.connection) (line_in c.ask.new.self) (asked_answer x.connection c.in-Ok.request) [] []) same (c.in-Ok.ensures.ok []),
      c.in-Ok.ensures.opened ∙ ap (λ (x : Seat). opened x.connection.client c.args.kind) same,
    )

pub returns-in-Ok-clause-keeps : goal.returns-in-Ok-clause-keeps
returns-in-Ok-clause-keeps c = λ n. keeps_set n c.index-seats-index.result _ c.args.seats.now c.args.index c.requires refl c.ask.ensures.parser

pub returns-in-Ok-clause-sizes : goal.returns-in-Ok-clause-sizes
returns-in-Ok-clause-sizes c = sizes_set c.index-seats-index.result _ c.args.seats.now c.args.index c.requires c.ask.ensures.size

pub returns-in-Ok-clause-numbers : goal.returns-in-Ok-clause-numbers
returns-in-Ok-clause-numbers c = numbers_set c.index-seats-index.result _ c.args.seats.now c.args.index c.requires refl

pub returns-in-Ok-clause-holders : goal.returns-in-Ok-clause-holders
returns-in-Ok-clause-holders c = holders_set c.index-seats-index.result _ c.args.seats.now c.args.index c.requires refl refl
