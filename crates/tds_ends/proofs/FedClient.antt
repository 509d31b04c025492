-- A client that takes packets, one after the other.
use Rattle.std.proofs.Common.{◌≡◌, ◌∙◌, ℕ, List, [], ◌∷◌, ◌++◌, ap, refl, Option, Some, None, Result, Ok, Err}
use Rattle.tds_client.specs.declared.fault.ClientFault.{ClientFault}
use Rattle.tds_client.specs.declared.state.Taken.{Taken}
use Rattle.tds_client.specs.declared.state.Taken.TheVariants.{More, Finished, Acknowledged, NoMemory}
use Rattle.tds_client.specs.Session.{ClientSession}
use Rattle.tds_client.specs.Taking.{ClientMove, Takes, DoesTake, taken}
use Rattle.tds_packet.specs.declared.header.Header.{Header}
use Rattle.tds_packet.specs.Layout.{IsPacket, bits_of, has_bit}
use Rattle.tds_packet.specs.Reading.{Reading, with_taken}
use Rattle.tds_token.specs.declared.token.Token.{Token}
use Rattle.tds_world.specs.declared.report.RequestStatus.{RequestStatus}
use Rattle.tds_ends.specs.declared.listening.ClientStop.{ClientStop}
use Rattle.tds_ends.specs.Ends.{Feeds, IsClientAt, Listens, client_stops}
use Rattle.tds_ends.specs.Feeding.{Coming, Listened, listened, on_taken, settled_by}
use Rattle.tds_ends.proofs.Feeding.{SoFar, begins, done_on}

-- So far the client took these packets.
pub record Listening (r now : Reading) (piece : List ℕ) (count : ℕ) (s session : ClientSession) (told out : List Token) (settled : Option RequestStatus) : Type 0 where
  pub packets : List Coming
  pub bytes : SoFar r now piece count packets
  pub took : listened s None told packets ≡ Some (record { session = session; settled = settled; told = out })

pub nothing_yet : (r : Reading) (piece : List ℕ) (s : ClientSession) (told : List Token) → Listening r r piece 0 s s told told None
nothing_yet r piece s told = record { packets = []; bytes = begins r piece; took = refl }

-- ---- Packets, and then more of them

on_both : {A : Type 0} (found : Result ClientMove ClientFault) (f g : ClientMove → Option A) (P : Option A → Option A → Type 0) → P None None → ((t : ClientMove) → P (f t) (g t)) → P (on_taken found f) (on_taken found g)
on_both (Ok t) f g P none each = each t
on_both (Err e) f g P none each = none

-- A packet, and those behind it: what is made of the packets behind is known for each client.
on_first : (found : Result ClientMove ClientFault) (f g : ClientMove → Option Listened) (then : Listened) (o : Option Listened) → ((t : ClientMove) → f t ≡ Some then → g t ≡ o) → on_taken found f ≡ Some then → on_taken found g ≡ o
on_first (Ok t) f g then o later is = later t is
on_first (Err fault) f g then o later is = absurd (cc)

pub then_more : (s : ClientSession) (settled : Option RequestStatus) (told : List Token) (ps qs : List Coming) (then : Listened) → listened s settled told ps ≡ Some then → listened s settled told (ps ++ qs) ≡ listened then.session then.settled then.told qs
then_more s settled told [] qs then is =
    let same : record { session = s; settled = settled; told = told } ≡ then = cc in
    ap (λ (t : Listened). listened t.session t.settled t.told qs) same
then_more s settled told (p ∷ ps) qs then is =
    on_first (taken s (has_bit (bits_of p.header.status) 1) p.content) _ _ then _
    (λ t e. then_more t.session (settled_by t.answer settled) (told ++ t.tokens) ps qs then e) is

-- ---- The packet that the reader holds

-- What an answer says that isn't want of memory.
pub does_take : (wanted : Result ClientMove ClientFault) (answer : Taken) (old new : ClientSession) (before after : List Token) → ¬ (answer ≡ NoMemory) → Takes wanted answer old new before after → DoesTake wanted answer new before after
does_take wanted More old new before after some is = is
does_take wanted Finished old new before after some is = is
does_take wanted Acknowledged old new before after some is = is
does_take wanted NoMemory old new before after some is = absurd (some refl)

-- At want of memory everything is as it was.
pub untaken : (wanted : Result ClientMove ClientFault) (answer : Taken) (old new : ClientSession) (before after : List Token) → answer ≡ NoMemory → Takes wanted answer old new before after → (new ≡ old) × (after ≡ before)
untaken wanted More old new before after none is = absurd (cc)
untaken wanted Finished old new before after none is = absurd (cc)
untaken wanted Acknowledged old new before after none is = absurd (cc)
untaken wanted NoMemory old new before after none is = (is.session, is.tokens)

-- It is taken, and done.
pub goes_on : (r now gone : Reading) (piece content : List ℕ) (header : Header) (count : ℕ) (s session then : ClientSession) (told out more : List Token) (settled settles : Option RequestStatus) (before : List Token) (took : Taken) → (packets : List Coming) → SoFar r now piece count packets → listened s None told packets ≡ Some (record { session = session; settled = settled; told = before }) → IsPacket now.direction now.size now.taken header content → gone ≡ with_taken now [] → taken session (has_bit (bits_of header.status) 1) content ≡ Ok (record { answer = took; session = then; tokens = more }) → out ≡ before ++ more → settles ≡ settled_by took settled → Listening r gone piece count s then told out settles
goes_on r now gone piece content header count s session then told out more settled settles before took packets bytes so is done does out_is settles_is = record {
  packets = packets ++ record { bytes = now.taken; header = header; content = content } ∷ [];
  bytes = done_on r now gone piece content header count packets bytes is done;
  took =
      then_more s None told packets (record { bytes = now.taken; header = header; content = content } ∷ []) _ so
      ∙ ap (λ (x : Result ClientMove ClientFault). on_taken x (λ t. Some (record { session = t.session; settled = settled_by t.answer settled; told = before ++ t.tokens }))) does
      ∙ rw (out_is, settles_is) refl;
}

-- ---- Where it stopped

pub stopped : (r now new : Reading) (piece left : List ℕ) (count n : ℕ) (s session then : ClientSession) (told out after : List Token) (settled : Option RequestStatus) (stop : Option ClientStop) → (l : Listening r now piece count s session told out settled) → Feeds r new piece n (client_stops stop) l.packets left → after ≡ out → IsClientAt stop new session then → Listens r new piece s then told after (record { count = n; settled = settled; stop = stop })
stopped r now new piece left count n s session then told out after settled stop l feeds tells at = record {
  packets = l.packets;
  left = left;
  then = record { session = session; settled = settled; told = out };
  feeds = feeds;
  listens = l.took;
  settled = refl;
  tells = tells;
  client = at;
}
