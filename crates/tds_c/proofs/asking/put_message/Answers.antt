use Rattle.std.proofs.Common.{◌≡◌, ◌∙◌, ◌≤◌, ℕ, Bool, List, [], ◌++◌, length, take, cond, sym, ap, rules, arith, append_assoc}
use Rattle.std.proofs.lemmas.List.{length-append, length-take-le}
use Rattle.tds_request.specs.Layout.{all_headers}
use Rattle.tds_c.specs.Calls.{with_front}
use Rattle.tds_c.specs.Streams.{headers_by}
use Rattle.tds_c.proofs.Keeping.{with_own}
use Rattle.tds_c.proofs.asking.put_message.Goals as goal

pub returns-then-has_headers : goal.returns-then-has_headers
returns-then-has_headers c =
    let out = c.args.out.now in
    let first = take 8 out in
    let written : List ℕ = all_headers c.args.descriptor in
    let named : written ≡ headers_by c.args.kind c.args.descriptor =
    sym (ap (λ (b : Bool). cond b written []) (sym c.has_headers.ensures ∙ c.if-has_headers.true)) in
    let within : 8 ≤ length out = search rules in
    let eight : length first ≡ 8 = length-take-le 8 out within in
    let one = rw c.headers.ensures at c.put_at.ensures first out eight (with_own 8 out within) in
    c.put_at-then-has_headers.ensures (first ++ written) out (omega (arith, length-append first written, eight)) one
    ∙ ap (λ (bytes : List ℕ). with_front bytes out) (append_assoc first written c.args.body.now ∙ ap (λ (bytes : List ℕ). first ++ (bytes ++ c.args.body.now)) named)
