use Rattle.std.proofs.Common.{◌≡◌, ◌∙◌, ◌+◌, ◌-◌, ◌*◌, ◌++◌, List, ℕ, take, drop, length, length-drop, ap, sym, rules, arith}
use Rattle.std.proofs.lemmas.List.{drop-append-le}
use Rattle.tds_client.specs.Streams.{full_packets, left_behind, packets_of}
use Rattle.tds_client.proofs.Filled.{Over, over_at, regrouped, sum_of, to_end}
use Rattle.tds_client.proofs.client.Outgoing.put_over.Goals as goal

abbrev kept : goal.After-struct_known-2-1 → List ℕ
kept c = drop c.args.self.sent c.args.message.now.items

abbrev filling : goal.After-struct_known-2-1 → ℕ
filling c = c.args.self.sent + c.args.first * c.args.room - c.len-length.result

abbrev rest : goal.After-struct_known-2-1 → List ℕ
rest c = drop (filling c) c.args.bytes.now

over : (c : goal.After-struct_known-2-1) → Over c.args.room c.args.self.kind c.args.mark c.args.self.packets c.args.first (kept c ++ take (filling c) c.args.bytes.now) (rest c)
over c = over_at c.args.room c.args.self.kind c.args.mark c.args.self.packets c.args.first (filling c) (kept c) c.args.bytes.now
    (omega (arith, c.requires.room))
    (omega (arith, c.len-length.ensures, c.requires.sent, c.requires.first, c.requires.over))
    (omega (arith, c.len-length.ensures, c.requires.sent, c.requires.first, length-drop c.args.self.sent c.args.message.now.items))

counted : (c : goal.After-struct_known-2-1) → c.full_packets-count.result ≡ full_packets c.args.room (length (rest c))
counted c = c.full_packets-count.ensures.value ∙ ap (λ (xs : List ℕ). full_packets c.args.room (length xs)) c.split_at.ensures.back

pub returns-clause-packets : goal.returns-clause-packets
returns-clause-packets c =
    let all = ap (λ (xs : List ℕ). full_packets c.args.room (length xs)) (regrouped (filling c) (kept c) c.args.bytes.now) ∙ (over c).count in
    ap (λ (n : ℕ). c.args.self.packets + c.args.first + n) (counted c) ∙ sum_of c.args.self.packets c.args.first (full_packets c.args.room (length (rest c)))
    ∙ ap (λ (n : ℕ). c.args.self.packets + n) (sym all)

pub returns-clause-left : goal.returns-clause-left
returns-clause-left c =
    let tail : c.extend_from_slice-2.new.self.items ≡ drop (c.full_packets-count.result * c.args.room) c.split_at.result.1.now =
    c.in_ok-extend_from_slice-2.ensures.items
    ∙ ap (λ (xs : List ℕ). c.clear.new.self.items ++ xs) (to_end (c.full_packets-count.result * c.args.room) c.split_at.result.1.now)
    ∙ ap (λ (xs : List ℕ). xs ++ drop (c.full_packets-count.result * c.args.room) c.split_at.result.1.now) c.clear.ensures.items in
    tail ∙ ap (λ (xs : List ℕ). drop (c.full_packets-count.result * c.args.room) xs) c.split_at.ensures.back ∙ ap (λ (n : ℕ). drop (n * c.args.room) (rest c)) (counted c)
    ∙ sym (ap (left_behind c.args.room) (regrouped (filling c) (kept c) c.args.bytes.now) ∙ (over c).left)

pub returns-clause-appended : goal.returns-clause-appended
returns-clause-appended c =
    let a = c.args in
    let message : c.extend_from_slice.new.self.items ≡ a.message.now.items ++ c.split_at.result.0.now = search rules in
    let begun : c.deref.result.now ≡ a.message.now.items ++ take (filling c) a.bytes.now = c.deref.ensures.value ∙ message ∙ ap (λ (xs : List ℕ). a.message.now.items ++ xs) c.split_at.ensures.front in
    let kept_is : take (length c.deref.result.now - a.self.sent) (drop a.self.sent c.deref.result.now) ≡ kept c ++ take (filling c) a.bytes.now =
    to_end a.self.sent c.deref.result.now ∙ ap (drop a.self.sent) begun ∙ drop-append-le a.self.sent a.message.now.items (take (filling c) a.bytes.now) c.requires.sent in
    let put : c.put_both.new.out.items ≡ a.out.now.items ++ (packets_of a.room a.self.kind a.mark a.self.packets a.first (take (length c.deref.result.now - a.self.sent) (drop a.self.sent c.deref.result.now))
    ++ packets_of a.room a.self.kind a.mark (a.self.packets + a.first) c.full_packets-count.result c.split_at.result.1.now) = c.in_default.ensures.ok in
    put
    ∙ ap (λ (xs : List ℕ). a.out.now.items ++ (packets_of a.room a.self.kind a.mark a.self.packets a.first xs ++ packets_of a.room a.self.kind a.mark (a.self.packets + a.first) c.full_packets-count.result c.split_at.result.1.now)) kept_is
    ∙ ap (λ (xs : List ℕ). a.out.now.items ++ (packets_of a.room a.self.kind a.mark a.self.packets a.first (kept c ++ take (filling c) a.bytes.now) ++ packets_of a.room a.self.kind a.mark (a.self.packets + a.first) c.full_packets-count.result xs)) c.split_at.ensures.back
    ∙ ap (λ (n : ℕ). a.out.now.items ++ (packets_of a.room a.self.kind a.mark a.self.packets a.first (kept c ++ take (filling c) a.bytes.now) ++ packets_of a.room a.self.kind a.mark (a.self.packets + a.first) n (rest c))) (counted c)
    ∙ ap (λ (xs : List ℕ). a.out.now.items ++ xs) (sym ((over c).packets))
    ∙ ap (λ (xs : List ℕ). a.out.now.items ++ packets_of a.room a.self.kind a.mark a.self.packets (full_packets a.room (length xs)) xs) (sym (regrouped (filling c) (kept c) a.bytes.now))
