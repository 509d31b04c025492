use Rattle.std.proofs.Common.{ℕ, List, ◌++◌, ap, ◌∙◌}
use Rattle.tds_request.specs.Layout.{request_spelling}
use Rattle.tds_request.proofs.laws.decodes_again.Goals as goal

pub returns : goal.returns
returns c =
    let is = c.encode.ensures.spelled in
    let message = request_spelling c.args.descriptor c.args.request.now in
    c.decode.ensures.only c.args.descriptor c.args.request.now (record {
      kind_is = c.kind.ensures;
      spelled = c.as_slice.ensures.value ∙ c.in_ok-encode.ensures.appended ∙ ap (λ (before : List ℕ). before ++ message) c.new-bytes.ensures.items;
      fits = is.fits;
      ranged = is.ranged;
    })
