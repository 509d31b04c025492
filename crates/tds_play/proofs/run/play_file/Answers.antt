use Rattle.tds_play.specs.Runs.{IsTold}
use Rattle.tds_play.proofs.run.play_file.Goals as goal

pub returns-clause-played : goal.returns-clause-played
returns-clause-played g c = λ faithful.
    let played = c.in_ok-play.ensures in
    let told : IsTold (g.C.EventCarrier.pipes c.play.new.carrier) c.in_ok-setup.setup c.as_slice.result.now c.in_ok-play.field-0 = record {
      told = played.report faithful;
      plain = λ none. (played.whole faithful none).told;
      whole = played.unfailing faithful;
    } in
    (c.in_ok-setup.setup, c.as_slice.result.now, rw c.as_slice.ensures.value c.in_ok-setup.ensures.ok, played.played, told)
