use Rattle.tds_request.specs.Layout.{all_headers}
use Rattle.tds_request.proofs.Appending.{front, on_ok_items}
use Rattle.tds_request.proofs.encoding.put_message.Goals as goal

pub returns-clause-appended : goal.returns-clause-appended
returns-clause-appended c =
    let old = c.args.out.now.items in
    let mid = c.extend_from_slice.new.self.items in
    let headers = all_headers c.args.descriptor in
    on_ok_items c.extend_from_slice-2.result old headers mid c.args.body.now c.extend_from_slice-2.new.self.items
    (front old c.reserve.new.self.items c.headers.result headers mid c.reserve.ensures.items c.headers.ensures c.in_ok-extend_from_slice.ensures.items) c.extend_from_slice-2.ensures.items
