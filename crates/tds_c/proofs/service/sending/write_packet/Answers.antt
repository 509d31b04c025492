use Rattle.std.proofs.Common.{rules, ◌≡◌, ◌∙◌, ◌+◌, ◌++◌, [], ℕ, List, length, refl, sym, ap}
use Rattle.std.proofs.lemmas.List.{append_assoc, length-append}
use Rattle.tds_c.specs.service.Asking.{with_front}
use Rattle.tds_c.proofs.service.sending.write_packet.Goals as goal

pub returns : goal.returns
returns c =
    let out = c.args.out.now in
    let header = c.header-header.result in
    let front = c.args.front.now in
    let eight : length header ≡ 8 = search rules in
    let first = c.put_at.ensures [] out refl refl in
    let second = c.put_at-2.ensures header out eight first in
    let third = c.put_at-3.ensures (header ++ front) out (length-append header front ∙ ap (λ (n : ℕ). n + length front) eight) second in
    third ∙ ap (λ (bytes : List ℕ). with_front bytes out) (append_assoc header front c.args.rest.now ∙ c.header-header.ensures)
