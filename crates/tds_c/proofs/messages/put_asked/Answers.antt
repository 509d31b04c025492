use Rattle.std.proofs.Common.{refl, [], ◌∙◌}
use Rattle.tds_request.specs.Layout.{all_headers}
use Rattle.tds_c.proofs.messages.put_asked.Goals as goal

pub returns : goal.returns
returns c =
    λ asked same. rw (c.as_slice.ensures ∙ same) at c.put_at-2.ensures (all_headers c.args.descriptor) c.args.out.now refl (rw c.headers.ensures at c.put_at.ensures [] c.args.out.now refl refl)
