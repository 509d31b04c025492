use Rattle.tds_request.specs.Layout.{all_headers, text_bytes}
use Rattle.tds_request.proofs.Appending.{front, appended_two, on_ok}
use Rattle.tds_request.proofs.encoding.put_batch.Goals as goal

pub returns-clause-appended : goal.returns-clause-appended
returns-clause-appended c =
    let old = c.args.out.now.items in
    let mid = c.extend_from_slice.new.self.items in
    let headers = all_headers c.args.descriptor in
    on_ok c.put_units.result (appended_two old headers mid (text_bytes c.args.units.now) c.put_units.new.out.items
    (front old c.reserve.new.self.items c.headers.result headers mid c.reserve.ensures.items c.headers.ensures c.in_ok-extend_from_slice.ensures.items) c.put_units.ensures.appended)
