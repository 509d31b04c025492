-- What is put as a request starts: behind what waits there, and nothing where it doesn't.
use Rattle.std.proofs.Common.{◌≡◌, ◌∙◌, ◌⊎◌, ℕ, Bool, true, false, List, Option, Some, None, inl, inr, refl, sym, ap, subst, if◌then◌else◌}
use Rattle.std.specs.Prelude.{IsSome}
use Rattle.slab.specs.Slab.{Slab, get, with_value}
use Rattle.tds_packet.specs.declared.kind.Kind.{Kind}
use Rattle.tds_packet.specs.declared.status.Reset.{Reset}
use Rattle.tds_packet.specs.declared.status.Reset.TheVariants.{Full}
use Rattle.tds_client.specs.declared.message.MessageKind.{MessageKind}
use Rattle.tds_client.specs.Session.{ClientSession}
use Rattle.tds_client.specs.Streams.{opened}
use Rattle.tds_service.specs.declared.service.Service as services
use Rattle.tds_service.specs.Table.{BeginsMessage, client_of}
use Rattle.tds_relay.specs.declared.application.Application.{Application}
use Rattle.tds_relay.specs.declared.state.Asking.{Asking}
use Rattle.tds_relay.specs.declared.state.Asking.TheVariants as asking
use Rattle.tds_relay.specs.declared.pool.Pool as pools
use Rattle.tds_relay.specs.declared.pool.Hold.{Hold}
use Rattle.tds_relay.specs.declared.link.Link.{Link}
use Rattle.tds_relay.specs.declared.relay.Relay as code
use Rattle.tds_relay.specs.Asking.{waits_of}
use Rattle.tds_relay.specs.Cleaning.{LeavesAll}
use Rattle.tds_relay.specs.Waking.{BeginsFrom, PutsSaid}
use Rattle.tds_front.specs.declared.front.Said.{Said}
use Rattle.tds_front.specs.declared.front.Said.TheVariants as said
use Rattle.tds_relay.specs.Bodies.{BeginsBody, Body, BodyAndWaits, Closed, Closing, Follows, Going, Grows, IsStill, Kept, PutsFrom, Refuses, Remains, Sends, Shuts, Spared, StartsInPlace, Wanders, body_by, body_in, body_of, going, going_by, going_of, standing_in}
use Rattle.tds_relay.specs.Pool.{find_key}
use Rattle.tds_relay.specs.Reads.{StaysAt, waits_on}
use Rattle.tds_relay.proofs.steps.Bodied.{written_body}
use Rattle.tds_relay.proofs.steps.Going.{waits_any}
use Rattle.tds_relay.specs.Places.{is_closed, own_asking, own_held}

pub same_at : (o : Option (List ℕ)) → StaysAt o o
same_at None = tt
same_at (Some bytes) = refl

-- ---- It stays, or is to be closed

pub put_refl : (b : BodyAndWaits) → PutsFrom b.1 b.0 b
put_refl b = record { starts = Remains; still = λ was is number. same_at (b.1 number) }

pub put_same : (old new : BodyAndWaits) → new.0 ≡ old.0 → ((number : ℕ) → new.1 number ≡ old.1 number) → PutsFrom old.1 old.0 new
put_same old new body waits = record {
  starts = subst (λ (x : Body). StartsInPlace old.1 old.0 x) (sym body) Remains;
  still = λ was is number. subst (λ (o : Option (List ℕ)). StaysAt (old.1 number) o) (sym (waits number)) (same_at (old.1 number));
}

unstill : (b : Body) → b ≡ Closed → ¬ IsStill b
unstill b shut still = subst IsStill shut still

pub put_shut : (waits : ℕ → Option (List ℕ)) (mid : Body) (new : BodyAndWaits) → new.0 ≡ Closed → PutsFrom waits mid new
put_shut waits mid new shut = record {
  starts = subst (λ (x : Body). StartsInPlace waits mid x) (sym shut) Closing;
  still = λ was still number. absurd (unstill new.0 shut still);
}

pub none_shut : (s : Slab Application) (key : ℕ) (goes : Body) → get s key ≡ None → body_in (get s key) goes ≡ Closed
none_shut s key goes none = ap (λ (o : Option Application). body_in o goes) none

-- ---- It starts

put_as : (waits : ℕ → Option (List ℕ)) (v : ℕ → Option (List ℕ)) (whole : Bool) (held : List ℕ) (kind : MessageKind) (number : ℕ) (from : ClientSession) (was : List ℕ) (b : Body) → waits number ≡ Some was
    → Grows whole held (Going number (opened from kind) was) b → PutsFrom waits (Kept kind held whole) (b, v)
put_as waits v whole held kind number from was b is (Sends ws out client put) = record { starts = Follows ws out from is put; still = λ kept still n. absurd still }
put_as waits v whole held kind number from was b is Shuts = record { starts = Closing; still = λ kept still n. absurd still }

put_by : (waits : ℕ → Option (List ℕ)) (v : ℕ → Option (List ℕ)) (whole : Bool) (held : List ℕ) (kind : MessageKind) (number : ℕ) (from : ClientSession) (was : List ℕ) (b : Body) → waits number ≡ Some was
    → Grows whole held (going_by number (Some (opened from kind)) (waits number)) b → PutsFrom waits (Kept kind held whole) (b, v)
put_by waits v whole held kind number from was b is g =
    put_as waits v whole held kind number from was b is (subst (λ (o : Option (List ℕ)). Grows whole held (going_by number (Some (opened from kind)) o) b) is g)

some_of : (o : Option (List ℕ)) → IsSome o → (waits : List ℕ) × (o ≡ Some waits)
some_of None is = absurd (let u : ⊥ = cc in u)
some_of (Some waits) is = (waits, refl)

pub put_there : (whole : Bool) (held : List ℕ) (kind : MessageKind) (key : ℕ) (old new : pools.Pool) (ls : List Link) (hold its : Hold) (b : BodyAndWaits) → find_key key old.holds.items ≡ Some hold → find_key key old.holds.items ≡ Some its
    → new.holds.items ≡ old.holds.items → BeginsMessage kind hold.lease old.service new.service → IsSome (waits_on its.number ls)
    → Grows whole held (going new.service ls (find_key key new.holds.items)) b.0 → PutsFrom (λ (number : ℕ). waits_on number ls) (Kept kind held whole) b
put_there whole held kind key old new ls hold its b one two same o there g =
    let alike : its ≡ hold = (let u : Some its ≡ Some hold = sym two ∙ one in cc) in
    let waits = some_of (waits_on hold.number ls) (subst (λ (h : Hold). IsSome (waits_on h.number ls)) alike there) in
    let is : going new.service ls (find_key key new.holds.items) ≡ going_by hold.number (Some (opened o.0 kind)) (waits_on hold.number ls) =
    ap (λ (hs : List Hold). going new.service ls (find_key key hs)) same ∙ ap (going new.service ls) one ∙ ap (λ (c : Option ClientSession). going_by hold.number c (waits_on hold.number ls)) o.1.is in
    put_by (λ (number : ℕ). waits_on number ls) b.1 whole held kind hold.number o.0 waits.0 b.0 waits.1 (subst (λ (x : Body). Grows whole held x b.0) is g)

-- ---- It goes on

going_moves : (number : ℕ) (o : Option ClientSession) (waits : Option (List ℕ)) → ¬ IsStill (going_by number o waits)
going_moves number None waits = λ s. s
going_moves number (Some client) None = λ s. s
going_moves number (Some client) (Some bytes) = λ s. s

pub moves : (s : services.Service) (ls : List Link) (o : Option Hold) → ¬ IsStill (going s ls o)
moves s ls None = λ s. s
moves s ls (Some h) = going_moves h.number (client_of h.lease s) (waits_on h.number ls)

moves_asked : (over : Bool) (a : Asking) (held : List ℕ) (goes : Body) → (over ≡ false → a ≡ asking.Goes) → ¬ IsStill goes → ¬ IsStill (if over then Closed else body_by a held goes)
moves_asked true a held goes e m = λ s. s
moves_asked false a held goes e m = λ s. m (subst (λ (x : Asking). IsStill (body_by x held goes)) (e refl) s)

-- behind what is put of a request that goes on
pub put_going : (X : Type 0) (waits : ℕ → Option (List ℕ)) (key : ℕ) (s : Slab Application) (a b : Application) (new : code.Relay) → Some a ≡ get s key → (is_closed b ≡ false → own_asking b ≡ asking.Goes)
    → (body_of key new ≡ Closed) ⊎ (((goes : Body) → body_in (get new.applications key) goes ≡ body_in (get (with_value s key b) key) goes) × X)
    → PutsFrom waits (body_of key new) (standing_in key new)
put_going X waits key s a b new is goes (inl closed) = put_shut waits (body_of key new) (standing_in key new) closed
put_going X waits key s a b new is goes (inr puts) =
    let g : Body = going_of key new in
    let one : body_of key new ≡ body_in (Some b) g = puts.0 g ∙ written_body s key a b g is in
    record {
      starts = Remains;
      still = λ was still number. absurd (moves_asked (is_closed b) (own_asking b) (own_held b) g goes (moves new.pool.service new.links.items (find_key key new.pool.holds.items)) (subst IsStill one still));
    }

-- ---- It begins

pub begins_put : (R : Type 0) (kind : Kind) (reset : Option Reset) (mid : Body) (old new : BodyAndWaits) → BeginsBody kind mid → (reset ≡ Some Full → Spared mid new.0) → PutsFrom old.1 mid new → (R → reset ≡ Some Full → LeavesAll old.1 new.1)
    → BeginsFrom R kind reset old new
begins_put R kind reset mid old new begins parts p lets = record { mid = mid; begins = begins; starts = p.starts; still = λ none. p.still; parts = parts; lets = lets }

pub begins_shut : (R : Type 0) (kind : Kind) (reset : Option Reset) (old new : BodyAndWaits) → new.0 ≡ Closed → (R → reset ≡ Some Full → LeavesAll old.1 new.1) → BeginsFrom R kind reset old new
begins_shut R kind reset old new shut lets = begins_put R kind reset Closed old new Refuses (λ full. inl shut) (put_shut old.1 Closed new shut) lets

-- for whatever the other leads to
pub puts_more : (R S : Type 0) (answer : Said) (taken : List ℕ) (old new : BodyAndWaits) → (S → R) → PutsSaid R answer taken old new → PutsSaid S answer taken old new
puts_more R S said.Nothing taken old new f p = p
puts_more R S (said.Begin kind reset) taken old new f p = record { mid = p.mid; begins = p.begins; starts = p.starts; still = p.still; parts = p.parts; lets = λ s. p.lets (f s) }
puts_more R S (said.Body count) taken old new f p = p
puts_more R S (said.End count) taken old new f p = p
puts_more R S (said.Forget false) taken old new f p = p
puts_more R S (said.Forget true) taken old new f p = tt
puts_more R S said.Acknowledge taken old new f p = p
puts_more R S said.HandOn taken old new f p = tt

-- wherever the same waits
place_as : (w v : ℕ → Option (List ℕ)) (a b : Body) → ((number : ℕ) → v number ≡ w number) → StartsInPlace v a b → StartsInPlace w a b
place_as w v a b same Remains = Remains
place_as w v a b same Closing = Closing
place_as w v a b same Wanders = Wanders
place_as w v a b same (Follows was out from is put) = Follows was out from (sym (same _) ∙ is) put

pub waits_place : (w v : ℕ → Option (List ℕ)) (m n : Option Application) (whole : Bool) (g h x : Body) → waits_of m ≡ Some whole → n ≡ m → ((number : ℕ) → v number ≡ w number) → StartsInPlace v (body_in n h) x → StartsInPlace w (body_in m g) x
waits_place w v m n whole g h x e alike same s =
    subst (λ (b : Body). StartsInPlace w b x) (ap (λ (o : Option Application). body_in o h) alike ∙ waits_any m whole h g e) (place_as w v (body_in n h) x same s)

pub spared_place : (w : ℕ → Option (List ℕ)) (a b : Body) → Spared a b → StartsInPlace w a b
spared_place w a b (inl e) = subst (StartsInPlace w a) (sym e) Remains
spared_place w a b (inr shut) = subst (StartsInPlace w a) (sym shut) Closing

-- ---- It is taken back

pub asked_moves : (b goes : Body) → ¬ IsStill goes → Spared goes b → ¬ IsStill b
asked_moves b goes m (inl e) still = m (subst IsStill e still)
asked_moves b goes m (inr shut) still = unstill b shut still

pub links_same : (number : ℕ) (old new : List Link) → new ≡ old → StaysAt (waits_on number old) (waits_on number new)
links_same number old new e = subst (λ (ls : List Link). StaysAt (waits_on number old) (waits_on number ls)) (sym e) (same_at (waits_on number old))

pub links_then : (number : ℕ) (o : Option (List ℕ)) (mid new : List Link) → new ≡ mid → StaysAt o (waits_on number mid) → StaysAt o (waits_on number new)
links_then number o mid new e h = subst (λ (ls : List Link). StaysAt o (waits_on number ls)) (sym e) h
