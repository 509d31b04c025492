use Rattle.std.proofs.Common.{◌≡◌, ◌≤◌, ◌++◌, string_bytes, take, length}
use Rattle.tds_text.specs.Texts.{with_commas}
use Rattle.tds_text.specs.Sessions.{settings_from}
use Rattle.tds_text.proofs.rendering.session.put_settings.Given as goal

abbrev pub invariant-loop-index : goal.invariant-loop-index
invariant-loop-index l = record {
  told : string_bytes l.text ≡ string_bytes l.fn.text ++ with_commas (settings_from 97 (take l.index l.settings));
  counted : l.count ≡ length (settings_from 97 (take l.index l.settings));
  few : l.count ≤ l.index;
}
