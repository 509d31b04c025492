-- Sending what is left of a message.
use Rattle.std.proofs.Common.{◌≡◌, ℕ, ◌+◌, ◌-◌, ◌≤◌, List, ◌++◌, length, drop, Some, refl, sym, ap, ◌∙◌, arith}
use Rattle.std.proofs.lemmas.Bool.{le-leb}
use Rattle.std.proofs.lemmas.List.{length-append, length-drop}
use Rattle.tds_client.specs.declared.client.parts.ClientParts.{ClientParts}
use Rattle.tds_client.specs.Parts.{left_by, left_of, session_from}
use Rattle.tds_client.specs.Sending.{sent}
use Rattle.tds_client.specs.Session.{ClientSession}
use Rattle.tds_c.specs.declared.client.TdsClient.{TdsClient}
use Rattle.tds_c.specs.Calls.{out_of, sends, value_of}
use Rattle.tds_c.specs.Plain.{client_of, plain_of}
use Rattle.tds_c.proofs.Joining.{left_again, parted}

pub sends_from : (c : TdsClient) (message left : List ℕ) (s : ClientSession) → c.sent ≤ length message → left ≡ drop c.sent message → client_of c left ≡ Some s → sends c message ≡ Some (sent s)
sends_from c message left s within behind held = rw (le-leb c.sent (length message) within, sym behind, held) refl

-- so many bytes more are out
pub is_out : (parts : ClientParts) (message left : List ℕ) (before more : ℕ) → before ≤ length message → left ≡ drop before message → more ≤ length left → drop more left ≡ left_by parts.stage (drop more left)
    → plain_of parts (before + more) ≡ value_of (session_from parts (drop more left)) (out_of message (session_from parts (drop more left)))
is_out parts message left before more within behind fits rest =
    let kept : left_of (session_from parts (drop more left)).stage ≡ drop more left = left_again parts.stage (drop more left) ∙ sym rest in
    let counted : length left ≡ length message - before = ap length behind ∙ length-drop before message in
    let count : before + more ≡ length message - length (drop more left) = omega (arith, within, fits, counted, length-drop more left) in
    rw (parted parts (drop more left), kept, sym count) refl

pub packet_length : (header content : List ℕ) → length header ≡ 8 → 8 + length content ≡ length (header ++ content)
packet_length header content eight = omega (arith, eight, length-append header content)
