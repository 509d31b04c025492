use Rattle.std.proofs.Common.{◌≡◌, ◌∙◌, [], Ok, Err, refl, sym, ap, subst, rules}
use Rattle.tds_client.specs.Session.{ClientSession}
use Rattle.tds_client.specs.Parts.{session_from}
use Rattle.tds_listen.specs.Faults.{broken_at_end}
use Rattle.tds_listen.specs.Hearing.{heard_end}
use Rattle.tds_c.proofs.Ready.{anew, stands_between}
use Rattle.tds_c.proofs.wire.hearing.end_ready.Goals as goal

pub returns-in-Ok : goal.returns-in-Ok
returns-in-Ok c = record {
  run = λ first last room heard none session at.
      let ended = c.in-Ok.ensures.exact last.reading (stands_between c.args.walk.now c.args.memory.now c.requires.ready last.reading at) in
      (_, anew c.args.walk.now c.args.memory.now c.requires.ready last.reading at, (last, heard, none, (none, search rules, subst (λ (s : ClientSession). heard_end s last.reading ≡ Ok (record { answer = c.in-Ok.answer; session = session_from c.end_message.new.parts [] })) (sym session) ended, refl)));
}

pub returns-in-Err : goal.returns-in-Err
returns-in-Err c = record {
  run = λ first last room heard none session at.
      let ended = c.in-Err.ensures.exact last.reading (stands_between c.args.walk.now c.args.memory.now c.requires.ready last.reading at) in
      (_, anew c.args.walk.now c.args.memory.now c.requires.ready last.reading at, (last, heard, none, (none, search rules, subst (λ (s : ClientSession). heard_end s last.reading ≡ Err c.in-Err.fault) (sym session) ended, c.in-Err.ensures.broken ∙ ap (λ (s : ClientSession). broken_at_end s c.in-Err.fault) (sym session), refl)));
}
