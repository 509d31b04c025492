-- A packet's data that end inside a value.
use Rattle.std.proofs.Common.{◌≡◌, ◌∙◌, ◌≤◌, ℕ, zero, suc, ◌==◌, List, [], length, false, Option, None, Some, Ok, refl, sym, ap, arith, rules}
use Rattle.std.proofs.lemmas.Bool.{le-leb}
use Rattle.std.proofs.lemmas.List.{drop_all}
use Rattle.tds_packet.specs.declared.status.Reset.{Reset}
use Rattle.tds_packet.specs.declared.status.Reset.TheVariants.{Full, KeepTransaction}
use Rattle.tds_client.specs.declared.client.parts.ClientParts.{ClientParts}
use Rattle.tds_client.specs.declared.client.parts.StageParts.TheVariants as stages
use Rattle.tds_client.specs.declared.heard.FinalDone.{FinalDone}
use Rattle.tds_client.specs.declared.heard.FinalDone.TheVariants.{Awaited, Answered, Acknowledged}
use Rattle.tds_client.specs.Parts.{session_from}
use Rattle.tds_client.specs.Session.{ClientSession}
use Rattle.tds_listen.specs.Hearing.{Move, moved_by, next_heard}
use Rattle.tds_wire.specs.declared.lent.LentWalk.{LentWalk}
use Rattle.tds_wire.specs.declared.memory.Memory.{Memory}
use Rattle.tds_wire.specs.Lent.{reading_of}
use Rattle.tds_walk.specs.Wire.{◌>>=◌, truth}
use Rattle.tds_walk.specs.WireCalls.{reading_from}
use Rattle.tds_walk.specs.Within.{StaysInside}
use Rattle.tds_walk.specs.declared.token.TdsWireToken.{TdsWireToken}
use Rattle.tds_walk.specs.declared.walk.TdsWire.{TdsWire}
use Rattle.tds_c.specs.declared.client.TdsClient.{TdsClient}
use Rattle.tds_c.specs.declared.wire.hearing.Came.TheVariants as came
use Rattle.tds_c.specs.Calls.{value_of}
use Rattle.tds_c.specs.Hearing.{HearsAll, Hearing, Place, behind}
use Rattle.tds_c.specs.Plain.{client_of, columns_from, columns_number, done_from, done_number, have_room, mark_from, mark_number, parts_from, plain_of, while_reading, size_from, stage_from_number}
use Rattle.tds_c.proofs.Hearing.{heard_on, none_heard}
use Rattle.tds_c.proofs.Starting.{is_started}

-- ---- A client that reads

mark_known : (n : ℕ) → n ≤ 2 → (x : Option Reset) × (mark_from n ≡ Some x) × (mark_number x ≡ n)
unfolding mark_from
mark_known zero few = (None, refl, refl)
mark_known (suc zero) few = (Some Full, refl, refl)
mark_known (suc (suc zero)) few = (Some KeepTransaction, refl, refl)
mark_known (suc (suc (suc n))) few = absurd (omega (arith, few))

done_known : (n : ℕ) → n ≤ 2 → (x : FinalDone) × (done_from n ≡ Some x) × (done_number x ≡ n)
unfolding done_from
done_known zero few = (Awaited, refl, refl)
done_known (suc zero) few = (Answered, refl, refl)
done_known (suc (suc zero)) few = (Acknowledged, refl, refl)
done_known (suc (suc (suc n))) few = absurd (omega (arith, few))

columns_known : (n : ℕ) → n ≤ 16 → (x : Option ℕ) × (columns_from n ≡ Some x) × (columns_number x ≡ n)
unfolding columns_from
columns_known zero few = (None, refl, refl)
columns_known (suc n) few =
    let some : (suc n == 0) ≡ false = search rules in
    (Some (suc n), rw some (rw (le-leb (suc n) 16 few) refl), refl)

size_known : (n : ℕ) → 512 ≤ n → n ≤ 32767 → size_from n ≡ Some n
unfolding size_from
size_known n least most = rw (le-leb 512 n least) (rw (le-leb n 32767 most) refl)

stage_known : (c : TdsClient) → c.stage ≡ 2 → stage_from_number c ≡ Some stages.Reading
unfolding stage_from_number
stage_known c stage = rw stage refl

module _ (c : TdsClient) (mark : Option Reset) (done : FinalDone) (columns : Option ℕ) where
  abbrev reading_parts : ClientParts
  reading_parts = record { size = c.size; stage = stages.Reading; heard = record { descriptor = c.descriptor; mark = mark; done = done }; columns = columns }

  from_parts : size_from c.size ≡ Some c.size → stage_from_number c ≡ Some stages.Reading → mark_from c.mark ≡ Some mark → done_from c.done ≡ Some done → columns_from c.columns ≡ Some columns
      → parts_from c ≡ Some reading_parts
  unfolding parts_from
  from_parts size stage m d k = rw size (rw stage (rw m (rw d (rw k refl))))

  client_reads : parts_from c ≡ Some reading_parts → client_of c [] ≡ Some (session_from reading_parts [])
  unfolding client_of have_room
  client_reads from = rw from refl

  value_reads : c.stage ≡ 2 → mark_number mark ≡ c.mark → done_number done ≡ c.done → columns_number columns ≡ c.columns → while_reading c ≡ plain_of reading_parts 0
  unfolding plain_of
  value_reads stage m d k = rw stage (rw m (rw d (rw k refl)))

-- such a value is a client, which is what it was when it has read on
pub reads : (c : TdsClient) → c.stage ≡ 2 → 512 ≤ c.size → c.size ≤ 32767 → c.mark ≤ 2 → c.done ≤ 2 → c.columns ≤ 16
    → (s : ClientSession) × (client_of c [] ≡ Some s) × (while_reading c ≡ value_of s 0)
reads c stage least most mark done columns =
    let m = mark_known c.mark mark in
    let d = done_known c.done done in
    let k = columns_known c.columns columns in
    let from = from_parts c m.0 d.0 k.0 (size_known c.size least most) (stage_known c stage) m.1 d.1 k.1 in (
      session_from (reading_parts c m.0 d.0 k.0) [],
      client_reads c m.0 d.0 k.0 from,
      value_reads c m.0 d.0 k.0 stage m.2 d.2 k.2 ∙ is_started (reading_parts c m.0 d.0 k.0) [] _ refl,
    )

-- ---- A call

abbrev within : TdsClient → TdsClient → TdsWire → TdsWire → Memory → List ℕ → ℕ → List TdsWireToken → Hearing
within c d p q m bytes ends tokens = record {
  before = record { client = c; walk = p; memory = m };
  after = record { client = d; walk = q; memory = m };
  bytes = bytes;
  ends = ends;
  taken = length bytes;
  room = record { before = tokens; after = tokens; count = 0 };
}

pub hears_within : (c d : TdsClient) (p q : TdsWire) (m : Memory) (bytes : List ℕ) (ends : ℕ) (tokens : List TdsWireToken) (s : ClientSession)
    → client_of c [] ≡ Some s → d ≡ value_of s 0 → StaysInside p q bytes → truth ends ≡ false → HearsAll (within c d p q m bytes ends tokens) came.Through
hears_within c d p q m bytes ends tokens s held value so going =
    let r = reading_of so.0 m in
    let t = reading_of so.1 m in
    let first : Place = record { session = s; reading = r; rest = bytes } in
    let move : Move = record { told = None; session = s; reading = t; rest = [] } in
    let next : next_heard s r bytes ≡ Ok move = ap (moved_by s) (so.4 m) in
    let before : reading_from p m ≡ Some r = ap (λ (o : Option LentWalk). o >>= λ w. Some (reading_of w m)) so.2 in
    let after : reading_from q m ≡ Some t = ap (λ (o : Option LentWalk). o >>= λ w. Some (reading_of w m)) so.3 in
    rw (held, before) (
      record { session = s; reading = t },
      value,
      after,
      omega arith,
      (behind move, heard_on first first move tokens tokens tokens 0 0 refl next (refl, refl) (none_heard first tokens), sym (drop_all (length bytes) bytes (omega arith)), (refl, going, refl)),
    )
