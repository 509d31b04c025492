use Rattle.std.proofs.Common.{◌≡◌, ◌++◌}
use Rattle.std.specs.Prelude.{IsUtf8}
use Rattle.std.specs.Str.Iter.{encode_utf16_rest}
use Rattle.tds_text.specs.Fields.{units_of}
use Rattle.tds_text.proofs.Utf16.{units_left}
use Rattle.tds_text.proofs.schedule.fields.units_in.Given as goal

abbrev pub invariant-loop-unit : goal.invariant-loop-unit
invariant-loop-unit l = record {
  taken : l.units.items ++ units_left l.unit-iterator ≡ units_of l.text;
  text : IsUtf8 (encode_utf16_rest l.unit-iterator);
}
