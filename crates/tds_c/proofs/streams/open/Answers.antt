use Rattle.std.proofs.Common.{◌≡◌, ◌∙◌, ℕ, List, [], length, refl, ap, rules}
use Rattle.tds_client.specs.Parts.{session_from}
use Rattle.tds_client.specs.Streams.{headers_of, opened}
use Rattle.tds_c.specs.Calls.{with_front}
use Rattle.tds_c.specs.Streams.{headers_by, open_on}
use Rattle.tds_c.proofs.Keeping.{opened_from, opens_from}
use Rattle.tds_c.proofs.Refusing.{is_first}
use Rattle.tds_c.proofs.Starting.{is_started}
use Rattle.tds_c.proofs.streams.open.Goals as goal

pub returns-in-Err : goal.returns-in-Err
returns-in-Err c =
    ((open_on c.args.kind (session_from c.in-Some.parts []), opens_from _ c.args.kind _ c.in-Some.ensures.some, is_first _ _ _ c.in-Err.ensures.refused, refl), (refl, refl))

pub returns-then-not-put_headers : goal.returns-then-not-put_headers
returns-then-not-put_headers c =
    let same = ap (λ (d : ℕ). length (headers_by c.args.kind d)) c.in-Ok.ensures.descriptor in
    ((tt, opened (session_from c.in-Some.parts []) c.args.kind, headers_of c.in-Some.parts.heard c.args.kind, opened_from _ c.args.kind _ c.in-Some.ensures.some c.in-Ok.ensures.accepted, c.put_headers.ensures.count ∙ same, search rules), (refl, search rules))

pub returns : goal.returns
returns c =
    let same = ap (headers_by c.args.kind) c.in-Ok.ensures.descriptor in
    let written : c.put_headers.new.kept ≡ with_front (headers_by c.args.kind c.in-Ok.descriptor) c.args.kept.now = search rules in
    (opened (session_from c.in-Some.parts []) c.args.kind, headers_of c.in-Some.parts.heard c.args.kind, opened_from _ c.args.kind _ c.in-Some.ensures.some c.in-Ok.ensures.accepted, c.of.ensures ∙ is_started c.start_message.new.self (headers_of c.in-Some.parts.heard c.args.kind) _ c.in-Ok.ensures.ok, written ∙ ap (λ (bytes : List ℕ). with_front bytes c.args.kept.now) same, c.put_headers.ensures.count ∙ ap length same)
