use Rattle.std.proofs.Common.{List, ◌++◌, ℕ, string_bytes, ap, ◌∙◌}
use Rattle.tds_token.specs.declared.columns.Column.{Column}
use Rattle.tds_text.specs.Texts.{shown}
use Rattle.tds_text.specs.Tokens.{name_text}
use Rattle.tds_text.proofs.Joined.{told_more}
use Rattle.tds_text.proofs.rendering.token.put_names.Goals as goal

pub loop-index-preserved : goal.loop-index-preserved
loop-index-preserved c =
    told_more name_text c.args.columns.now c.loop-index.index c.index-columns-index.result (string_bytes c.args.text.now) (string_bytes c.loop-index.text) (string_bytes c.put_comma.new.text) _
    c.loop-index-test.true c.loop-index.invariant c.in_ok-put_comma.ensures
    (c.in_ok-put_units.ensures ∙ ap (λ (name : List ℕ). string_bytes c.put_comma.new.text ++ shown name) (c.units.ensures ∙ ap (λ (x : Column). x.name) c.index-columns-index.is))
