use Rattle.std.proofs.Common.{◌≡◌, ◌<◌, ◌+◌, ◌++◌, ◌∷◌, [], ◌∙◌, string_bytes, take, length, length-append, arith}
use Rattle.tds_text.specs.Sessions.{setting_text, settings_from}
use Rattle.tds_text.proofs.Joined.{counted_more}
use Rattle.tds_text.proofs.Settings.{none_more, some_more}
use Rattle.tds_text.proofs.rendering.session.put_settings.Goals as goal
use Rattle.tds_text.proofs.rendering.session.put_settings.Goals.{in-Some+in_ok-put_comma+in_ok-put_setting, in_default}

pub loop-index-preserved : goal.loop-index-preserved
loop-index-preserved c =
    let here : c.loop-index.index < length c.args.settings.now = omega (arith, c.told-settings) in
    elim c.match-setting.branch [
      | in-Some+in_ok-put_comma+in_ok-put_setting w ↦ (
          let more : settings_from 97 (take (c.loop-index.index + 1) c.args.settings.now)
          ≡ settings_from 97 (take c.loop-index.index c.args.settings.now) ++ setting_text (97 + c.loop-index.index) w.in-Some.value ∷ []
          = some_more 97 c.args.settings.now c.loop-index.index w.in-Some.value here w.in-Some.is in
          record {
            told = rw more (counted_more (settings_from 97 (take c.loop-index.index c.args.settings.now)) c.loop-index.count
                (setting_text (97 + c.loop-index.index) w.in-Some.value) (string_bytes c.args.text.now) (string_bytes c.loop-index.text)
                (string_bytes w.put_comma.new.text) (string_bytes c.match-setting.text)
                c.loop-index.invariant.counted c.loop-index.invariant.told w.in_ok-put_comma.ensures (rw w.text-is w.in_ok-put_setting.ensures));
            counted = w.count-is ∙ rw (more, length-append, c.loop-index.invariant.counted) (omega arith);
            few = omega arith;
          })
      | in_default w ↦ (
          let same : settings_from 97 (take (c.loop-index.index + 1) c.args.settings.now) ≡ settings_from 97 (take c.loop-index.index c.args.settings.now)
          = none_more 97 c.args.settings.now c.loop-index.index here w.in_default.is in
          record {
            told = rw (w.text-is, same) c.loop-index.invariant.told;
            counted = rw (w.count-is, same) c.loop-index.invariant.counted;
            few = omega arith;
          })
    ]
