-- What one seat hears of a packet's data, wherever it stands in a table.
use Rattle.std.proofs.Common.{◌≡◌, ◌∙◌, ◌≤◌, ◌+◌, ℕ, Bool, true, false, List, [], length, take, drop, get_or, slice_set, refl, sym, ap, subst}
use Rattle.std.proofs.Math.ListN.{set}
use Rattle.std.proofs.lemmas.List.{set-get_or}
use Rattle.std.specs.Prelude.{◌≢◌, IsSome, Option, Some, None, Result, Ok, Err}
use Rattle.tds_client.specs.declared.state.Taken.{Taken}
use Rattle.tds_listen.specs.declared.fault.ListenFault.{ListenFault}
use Rattle.tds_wire.specs.declared.lent.LentWalk.{LentWalk}
use Rattle.tds_wire.specs.declared.memory.Memory.{Memory}
use Rattle.tds_wire.specs.declared.told.Token.{Token}
use Rattle.tds_wire.specs.Lent.{reading_of}
use Rattle.tds_wire.specs.Reading.{Found, Parser, Sees, next_token, restarted}
use Rattle.tds_listen.specs.Signs.{sign_of}
use Rattle.tds_walk.specs.declared.token.TdsWireToken.{TdsWireToken}
use Rattle.tds_walk.specs.declared.walk.TdsWire.{TdsWire}
use Rattle.tds_walk.specs.Rooms.{Room}
use Rattle.tds_walk.specs.Taking.{IsReadyValue}
use Rattle.tds_walk.specs.Wire.{due_from, inside_from, refusal_from, truth, walk_from}
use Rattle.tds_walk.specs.WireCalls.{reading_from}
use Rattle.tds_walk.specs.WireTokens.{Puts}
use Rattle.tds_service.specs.Line as line
use Rattle.tds_service.specs.Service.{has_number, lease_in}
use Rattle.tds_service.specs.Ties.{end_at, listed, taken_answer}
use Rattle.tds_c.specs.declared.service.packet.Halt.{Halt}
use Rattle.tds_c.specs.declared.service.packet.Halt.TheVariants as halts
use Rattle.tds_c.specs.declared.service.packet.Without.{Without}
use Rattle.tds_c.specs.declared.service.packet.Without.TheVariants as without
use Rattle.tds_c.specs.declared.service.plain.TdsSeat.{TdsSeat}
use Rattle.tds_c.specs.declared.service.plain.TdsService.{TdsService}
use Rattle.tds_c.specs.declared.service.plain.TdsWhose.{TdsWhose}
use Rattle.tds_c.specs.service.ComesOn.{BreaksOn, HeardOn, IsSpot, KeptOn, MovesOn, Spot, is_reading, owner_on}
use Rattle.tds_c.specs.service.Hearing.{lease_number, one_part}
use Rattle.tds_c.specs.service.Here.{HasCome, HearsBy, HearsHere, Hearing, IsNothing, Start, StopsHere, now_of, reached}
use Rattle.tds_c.specs.service.Packet.{HearsPacket, HearsPacketFrom, OwnsSeat, PacketStopsBehind, SaysFault, halt_number, packet_number}
use Rattle.tds_c.specs.service.Plain.{line_of, place_of, table_of}
use Rattle.tds_c.specs.service.Table.{FirstMet}
use Rattle.tds_c.proofs.service.Comings.{breaks_by, comes_owned, heard_on, kept_again, kept_broken, kept_moved, kept_none, kept_on, moves_by, none_heard, reads_on}
use Rattle.tds_c.proofs.service.Steps.{here_in, same_number, same_seat}
use Rattle.tds_c.proofs.service.Tables.{same_get}

pub come_none : (at : Start) (room : List TdsWireToken) → HasCome at at (record { before = room; after = room; count = 0 })
come_none at room = record { kept = kept_none at.seat; passed = λ s is named. none_heard (owner_on s at.seat) (reached s at) room }

pub come_on : (first at to : Start) (told : Option Token) (before after new : List TdsWireToken) (i j : ℕ)
    → MovesOn (next_token at.reading at.rest) at.seat to.seat to.reading to.rest (listed told) → length after ≡ length before
    → Puts told (record { before = after; after = new; count = j }) i
    → HasCome first at (record { before = before; after = after; count = i }) → HasCome first to (record { before = before; after = new; count = j })
come_on first at to told before after new i j moved long put come = record {
  kept = kept_again first.seat at.seat to.seat come.kept (kept_moved (next_token at.reading at.rest) at.seat to.seat to.reading to.rest (listed told) moved);
  passed = λ s is named.
      heard_on told (owner_on s first.seat) (reached s first) (reached s at) (record { told = listed told; to = reached s to }) before after new i j refl long
      (moves_by s is first.seat at.seat to.seat at.reading to.reading at.rest to.rest (listed told) (next_token at.reading at.rest) (come.kept.number_is ∙ named) come.kept moved)
      put (come.passed s is named);
}

module _ (first at : Start) (room : Room TdsWireToken) (come : HasCome first at room) where
  pub stops_full : at.rest ≢ [] → is_reading (line_of at.seat).stage ≡ true → room.count ≡ length room.before → (ends : Bool) → StopsHere first at ends room halts.Full
  stops_full more reads full ends = record {
    kept = come.kept;
    stops = λ s is named. (reached s at, come.passed s is named, refl, (more, reads_on s is at.seat (come.kept.number_is ∙ named) reads, full, refl));
  }

  pub stops_through : at.rest ≡ [] → (ends : Bool) → ends ≡ false → StopsHere first at ends room halts.Through
  stops_through none ends on = record { kept = come.kept; stops = λ s is named. (reached s at, come.passed s is named, refl, (none, on, refl)) }

  pub stops_broken : (z : TdsSeat) (next : Parser) (fault : ListenFault) → BreaksOn (next_token at.reading at.rest) at.seat z fault → SaysFault fault next → (ends : Bool)
      → StopsHere first (record { seat = z; reading = next; rest = at.rest }) ends room (halts.Broken fault)
  stops_broken z next fault broken says ends = record {
    kept = kept_again first.seat at.seat z come.kept (kept_broken (next_token at.reading at.rest) at.seat z fault broken);
    stops = λ s is named. (
      reached s at,
      come.passed s is named,
      refl,
      (breaks_by s is first.seat at.seat z (next_token at.reading at.rest) fault (come.kept.number_is ∙ named) come.kept broken, says),
    );
  }

  pub stops_ended : (z : TdsSeat) (next : Parser) (taken : Taken) → at.rest ≡ [] → HeardOn (end_at at.reading) at.seat z (taken_answer at.seat.asked taken) []
      → next ≡ restarted at.reading → (ends : Bool) → ends ≡ true → StopsHere first (record { seat = z; reading = next; rest = at.rest }) ends room (halts.Ended taken)
  stops_ended z next taken none on anew ends last = record {
    kept = kept_again first.seat at.seat z come.kept (kept_on _ at.seat z _ [] on);
    stops = λ s is named.
        let asked : HeardOn (end_at at.reading) at.seat z (taken_answer first.seat.asked taken) [] =
        subst (λ (n : ℕ). HeardOn (end_at at.reading) at.seat z (taken_answer n taken) []) come.kept.asked_is on in (
          reached s at,
          come.passed s is named,
          refl,
          (none, last, comes_owned s is (end_at at.reading) first.seat at.seat z (taken_answer first.seat.asked taken) [] (come.kept.number_is ∙ named) come.kept asked, anew),
        );
  }

  pub stops_broken_at_end : (z : TdsSeat) (next : Parser) (fault : ListenFault) → at.rest ≡ [] → HeardOn (end_at at.reading) at.seat z (line.Fault fault) []
      → next ≡ restarted at.reading → (ends : Bool) → ends ≡ true → StopsHere first (record { seat = z; reading = next; rest = at.rest }) ends room (halts.BrokenAtEnd fault)
  stops_broken_at_end z next fault none on anew ends last = record {
    kept = kept_again first.seat at.seat z come.kept (kept_on _ at.seat z _ [] on);
    stops = λ s is named. (
      reached s at,
      come.passed s is named,
      refl,
      (none, last, comes_owned s is (end_at at.reading) first.seat at.seat z (line.Fault fault) [] (come.kept.number_is ∙ named) come.kept on, anew),
    );
  }

-- whether the message ends there or not
pub full_any : (first at : Start) (room : Room TdsWireToken) (ends : Bool) → StopsHere first at false room halts.Full → StopsHere first at ends room halts.Full
full_any first at room ends is = record { kept = is.kept; stops = is.stops }

pub broken_any : (first at : Start) (room : Room TdsWireToken) (fault : ListenFault) (ends last : Bool) → StopsHere first at last room (halts.Broken fault) → StopsHere first at ends room (halts.Broken fault)
broken_any first at room fault ends last is = record { kept = is.kept; stops = is.stops }

-- ---- A walk's value

pub read_in : (w : TdsWire) (m : Memory) (a : LentWalk) → walk_from w ≡ Some a → reading_from w m ≡ Some (reading_of a m)
read_in w m a e = rw e refl

same_in : (a b : Parser) → (let r : Option Parser = Some a in r) ≡ Some b → a ≡ b
same_in a b e = cc

pub read_one : (w : TdsWire) (m : Memory) (a b : Parser) → reading_from w m ≡ Some a → reading_from w m ≡ Some b → a ≡ b
read_one w m a b e f = same_in a b (sym e ∙ f)

pub read_none : (w : TdsWire) (m : Memory) → walk_from w ≡ None → reading_from w m ≡ None
read_none w m e = rw e refl

pub read_some : (o : Option Parser) (r : Parser) → o ≡ None → o ≡ Some r → ⊥
read_some o r e f = absurd (let u : ⊥ = cc in u)

-- ---- A whole call

pub hears_any : (o : Option Parser) (h : Hearing) (n : ℕ) → (o ≡ None → IsNothing h n)
    → ((r : Parser) → o ≡ Some r → HearsHere (record { seat = h.before.seat; reading = r; rest = h.bytes }) h n) → HearsBy o h n
hears_any None h n none some = none refl
hears_any (Some x) h n none some = some x refl

in_some : {A : Type 0} (o : Option A) → IsSome o → (x : A) × (o ≡ Some x)
in_some (Some x) is = (x, refl)
in_some None is = absurd cc

is_walk : (w : TdsWire) (m : Memory) → IsReadyValue w → IsSome (reading_from w m)
unfolding walk_from due_from refusal_from
is_walk w m ready = let found = in_some (inside_from w.inside) ready.inside in rw (ready.due, ready.whole, found.1) refl

pub ready_never : (w : TdsWire) (m : Memory) → IsReadyValue w → reading_from w m ≡ None → ⊥
ready_never w m ready none = let x = in_some (reading_from w m) (is_walk w m ready) in read_some (reading_from w m) x.0 none x.1

-- ---- Tokens that stand whole

-- what a token says was heard, and it is the next one
pub moved_by_token : (c z : TdsSeat) (r next : Parser) (bytes : List ℕ) (n : ℕ) (token : Token) (told : Option Token)
    → next_token r bytes ≡ Sees token next (drop n bytes) → HeardOn (one_part (sign_of token) token) c z line.More (listed told)
    → MovesOn (next_token r bytes) c z next (drop n bytes) (listed told)
moved_by_token c z r next bytes n token told is on = subst (λ (f : Found). MovesOn f c z next (drop n bytes) (listed told)) (sym is) (refl, refl, on)

pub broken_by_token : (c z : TdsSeat) (r next : Parser) (bytes : List ℕ) (n : ℕ) (token : Token) (fault : ListenFault)
    → next_token r bytes ≡ Sees token next (drop n bytes) → HeardOn (one_part (sign_of token) token) c z (line.Fault fault) []
    → BreaksOn (next_token r bytes) c z fault
broken_by_token c z r next bytes n token fault is on = subst (λ (f : Found). BreaksOn f c z fault) (sym is) on

-- whose it is was written behind some tokens
pub here_walked : (first : Start) (h : Hearing) (n : ℕ) (next : Parser) (halt : Halt) → n ≡ halt_number halt → KeptOn first.seat h.before.seat
    → reading_from h.after.walk h.after.memory ≡ Some next → h.after.whose.lease ≡ lease_number (lease_in (place_of h.before.seat))
    → h.after.whose.request ≡ h.before.seat.asked → h.taken ≤ length h.bytes
    → StopsHere first (record { seat = h.after.seat; reading = next; rest = drop h.taken h.bytes }) (truth h.ends) h.room halt → HearsHere first h n
here_walked first h n next halt is kept stands lease request within stops = record {
  halt = halt;
  is = is;
  next = next;
  stands = stands;
  lease_is = lease ∙ ap lease_number kept.lease_is;
  request_is = request ∙ kept.asked_is;
  within = within;
  stops = stops;
}

-- of the seat at an index, whatever the default
whose_is : (w : TdsWhose) (l r : ℕ) → w.lease ≡ l → w.request ≡ r → w ≡ record { lease = l; request = r }
whose_is w l r e f = rw (sym e, sym f) refl

module _ (service : TdsService) (seats : List TdsSeat) (i number : ℕ) (d : TdsSeat) (fits : service.count ≤ length seats) (met : FirstMet (has_number number) (take service.count seats) i) where
  pub hears_there : (r : Parser) (h : Hearing) (n : ℕ) → h.before.seat ≡ get_or seats i d → reading_from h.before.walk h.before.memory ≡ Some r
      → HearsHere (record { seat = h.before.seat; reading = r; rest = h.bytes }) h n
      → (o : Result Halt Without) × (n ≡ packet_number o) × HearsPacket number (record {
        before = record { held = record { service = service; seats = seats }; walk = h.before.walk; memory = h.before.memory; whose = h.before.whose };
        after = record { held = record { service = service; seats = set seats i h.after.seat }; walk = h.after.walk; memory = h.after.memory; whose = h.after.whose };
        bytes = h.bytes;
        ends = h.ends;
        taken = h.taken;
        room = h.room;
      }) o
  hears_there r h n at began does =
      let s : Spot = record { service = service; seats = seats; index = i; number = number } in
      let is : IsSpot s = record { fits = fits; met = met } in
      let c = h.before.seat in
      let here = here_in (has_number number) service.count seats i fits met in
      let same : c ≡ here.seat = at ∙ same_seat (has_number number) service.count seats i here d in
      let named : c.number ≡ number = ap (λ (x : TdsSeat). x.number) same ∙ same_number here.seat.number number here.meets in (
        Ok does.halt,
        does.is,
        (
          owner_on s c,
          refl,
          record {
            first = r;
            last = does.next;
            began = began;
            stands = does.stands;
            fits = fits;
            owns = subst (OwnsSeat (owner_on s c)) (sym here.found) (ap (λ (x : TdsSeat). lease_in (place_of x)) same, ap (λ (x : TdsSeat). x.asked) same);
            whose = whose_is h.after.whose _ _ does.lease_is does.request_is;
            others = record {
              before = c;
              after = h.after.seat;
              turned = record { index = i; met = met; was = at ∙ same_get seats i d c here.within; is = refl; service = refl };
              apart_is = does.stops.kept.apart_is;
            };
            within = does.within;
            stops =
                subst (λ (xs : List TdsSeat). PacketStopsBehind (owner_on s c) (record { table = table_of service xs; reading = r; rest = h.bytes }) (drop h.taken h.bytes) (now_of s (record { seat = h.after.seat; reading = does.next; rest = drop h.taken h.bytes })) (truth h.ends) h.room does.halt)
                (ap (λ (x : TdsSeat). set seats i x) at ∙ set-get_or seats i d) (does.stops.stops s is named);
          },
        ),
      )

  nothing_there : (h : Hearing) (n : ℕ) → h.before.seat ≡ get_or seats i d → reading_from h.before.walk h.before.memory ≡ None → IsNothing h n
      → (o : Result Halt Without) × (n ≡ packet_number o) × HearsPacket number (record {
        before = record { held = record { service = service; seats = seats }; walk = h.before.walk; memory = h.before.memory; whose = h.before.whose };
        after = record { held = record { service = service; seats = set seats i h.after.seat }; walk = h.after.walk; memory = h.after.memory; whose = h.after.whose };
        bytes = h.bytes;
        ends = h.ends;
        taken = h.taken;
        room = h.room;
      }) o
  nothing_there h n at began nothing =
      (Err without.NoWalk, nothing.0, ((rw (nothing.1, at, set-get_or seats i d) refl, nothing.2, nothing.3, nothing.4), began))

  pub hears_in : (o : Option Parser) (h : Hearing) (n : ℕ) → h.before.seat ≡ get_or seats i d → reading_from h.before.walk h.before.memory ≡ o → HearsBy o h n
      → (result : Result Halt Without) × (n ≡ packet_number result) × HearsPacket number (record {
        before = record { held = record { service = service; seats = seats }; walk = h.before.walk; memory = h.before.memory; whose = h.before.whose };
        after = record { held = record { service = service; seats = set seats i h.after.seat }; walk = h.after.walk; memory = h.after.memory; whose = h.after.whose };
        bytes = h.bytes;
        ends = h.ends;
        taken = h.taken;
        room = h.room;
      }) result
  hears_in None h n at began does = nothing_there h n at began does
  hears_in (Some r) h n at began does = hears_there r h n at began does
