use Rattle.std.proofs.Common.{◌≡◌, ◌≤◌, ◌∙◌, ◌+◌, ◌++◌, List, ℕ, drop, length, length-append, length-drop, ap, sym, arith}
use Rattle.std.proofs.lemmas.List.{drop-append-le}
use Rattle.tds_client.specs.Streams.{full_packets, packets_of}
use Rattle.tds_client.proofs.Waiting.{none_full, none_out}
use Rattle.tds_client.proofs.client.Outgoing.keep.Goals as goal

none : (room sent : ℕ) (message bytes : List ℕ) → 1 ≤ room → sent ≤ length message → length message + length bytes ≤ sent + room
    → full_packets room (length (drop sent message ++ bytes)) ≡ 0
none room sent message bytes lawful within fits =
    none_full room (length (drop sent message ++ bytes)) (omega (arith, lawful))
    (omega (arith, length-append (drop sent message) bytes, length-drop sent message, within, fits))

nothing_more : (a : ℕ) → a ≡ a + 0
nothing_more a = omega arith

pub returns-clause-packets : goal.returns-clause-packets
returns-clause-packets c =
    let a = c.args in
    nothing_more a.self.packets ∙ ap (λ (n : ℕ). a.self.packets + n)
    (sym (none a.room a.self.sent a.message.now.items a.bytes.now (omega (arith, c.requires.room)) c.requires.sent c.requires.fits))

pub returns-clause-left : goal.returns-clause-left
returns-clause-left c =
    let a = c.args in
    ap (drop a.self.sent) c.in_ok-extend_from_slice.ensures.items ∙ drop-append-le a.self.sent a.message.now.items a.bytes.now c.requires.sent
    ∙ sym (none_out a.room _ (drop a.self.sent a.message.now.items ++ a.bytes.now) (none a.room a.self.sent a.message.now.items a.bytes.now (omega (arith, c.requires.room)) c.requires.sent c.requires.fits))

pub returns-clause-none : goal.returns-clause-none
returns-clause-none c mark =
    let a = c.args in
    ap (λ (n : ℕ). packets_of a.room a.self.kind mark a.self.packets n (drop a.self.sent a.message.now.items ++ a.bytes.now))
    (none a.room a.self.sent a.message.now.items a.bytes.now (omega (arith, c.requires.room)) c.requires.sent c.requires.fits)
