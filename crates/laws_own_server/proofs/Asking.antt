-- What the packets of a request ask for is its mark.
use Rattle.std.proofs.Common.{◌≡◌, ◌∙◌, ◌+◌, ℕ, Bool, true, false, List, [], ◌∷◌, ◌++◌, refl, ap, subst}
use Rattle.std.specs.Prelude.{Option, Some, None, not, if◌then◌else◌}
use Rattle.tds_packet.specs.declared.status.Reset.{Reset}
use Rattle.tds_packet.specs.declared.status.Reset.TheVariants.{Full, KeepTransaction}
use Rattle.tds_packet.specs.Layout.{bits_of, reset_of}
use Rattle.tds_packet.specs.Resets.{reset_bit}
use Rattle.tds_world.specs.Entries as entries
use Rattle.tds_world.specs.Entries.{Up, Part, End, Drop, Attention}
use Rattle.tds_world.specs.Requests.{Message, Nothing, Partly, AreRequests, AsksThis, content_of, packet_in, packets_in}
use Rattle.laws_own_server.specs.Runs.{Place, asked_by, asked_so_far, place_behind, places}

-- what is known of a message at a place
abbrev pub MessageAt : Place → Message → Type 0
MessageAt p Nothing = p.begun ≡ false
MessageAt p (Partly a content n) = (p.begun ≡ true) × (p.reset ≡ a.mark)

first_asks : (mark : Option Reset) → reset_of (0 + reset_bit mark) ≡ mark
first_asks None = refl
first_asks (Some Full) = refl
first_asks (Some KeepTransaction) = refl

last_asks : (mark : Option Reset) → reset_of (1 + reset_bit mark) ≡ mark
last_asks None = refl
last_asks (Some Full) = refl
last_asks (Some KeepTransaction) = refl

abbrev pub bits_in : entries.Packet → ℕ
bits_in p = bits_of p.header.status

part_asks : (p : Place) (m : Message) (a : entries.Asking) (pk : entries.Packet) → MessageAt p m → AsksThis m a → pk ≡ packet_in m a 0 pk.body
    → asked_so_far p.begun p.reset pk ≡ a.mark
part_asks p Nothing a pk h k e =
    ap (λ (b : Bool). asked_so_far b p.reset pk) h ∙ ap (λ (x : entries.Packet). reset_of (bits_in x)) e ∙ first_asks a.mark
part_asks p (Partly b content n) a pk h k e =
    ap (λ (c : Bool). asked_so_far c p.reset pk) h.0 ∙ h.1 ∙ ap (λ (x : entries.Asking). x.mark) k

pub asked_at : (p : Place) (m out : Message) (es : List Up) → MessageAt p m → AreRequests m es out → MessageAt (places p es) out
asked_at p m out [] h a = subst (λ (x : Message). MessageAt p x) a h
asked_at p m out (Part r pk ∷ es) h a =
    asked_at (place_behind p (Part r pk)) (Partly a.0 (content_of m ++ pk.body) (packets_in m + 1)) out es (refl, part_asks p m a.0 pk h a.1 a.2) a.3
asked_at p m out (End r b pk ∷ es) h a = asked_at (place_behind p (End r b pk)) Nothing out es refl a.3
asked_at p m out (Drop r pk ∷ es) h a = asked_at (place_behind p (Drop r pk)) Nothing out es refl a.1
asked_at p m out (Attention r ∷ es) h a = asked_at (place_behind p (Attention r)) Nothing out es refl a.1

pub end_asks : (p : Place) (m : Message) (a : entries.Asking) (pk : entries.Packet) (reset : Option Reset) → MessageAt p m → AsksThis m a → pk ≡ packet_in m a 1 pk.body
    → reset ≡ p.reset → (if not p.begun then asked_by p.begun pk else reset) ≡ a.mark
end_asks p Nothing a pk reset h k e r =
    ap (λ (b : Bool). if not b then asked_by b pk else reset) h ∙ ap (λ (x : entries.Packet). reset_of (bits_in x)) e ∙ last_asks a.mark
end_asks p (Partly b content n) a pk reset h k e r =
    ap (λ (c : Bool). if not c then asked_by c pk else reset) h.0 ∙ r ∙ h.1 ∙ ap (λ (x : entries.Asking). x.mark) k

pub asks_on : (begun : Bool) (pk : entries.Packet) (reset there : Option Reset) → reset ≡ there → (if not begun then asked_by begun pk else reset) ≡ asked_so_far begun there pk
asks_on true pk reset there e = e
asks_on false pk reset there e = refl

pub record Split (m out : Message) (xs ys : List Up) : Type 0 where
  pub middle : Message
  pub front : AreRequests m xs middle
  pub rest : AreRequests middle ys out

pub requests_split : (m out : Message) (xs ys : List Up) → AreRequests m (xs ++ ys) out → Split m out xs ys
requests_split m out [] ys a = record { middle = m; front = refl; rest = a }
requests_split m out (Part r pk ∷ xs) ys a =
    let s = requests_split (Partly a.0 (content_of m ++ pk.body) (packets_in m + 1)) out xs ys a.3 in
    record { middle = s.middle; front = (a.0, a.1, a.2, s.front); rest = s.rest }
requests_split m out (End r b pk ∷ xs) ys a =
    let s = requests_split Nothing out xs ys a.3 in record { middle = s.middle; front = (a.0, a.1, a.2, s.front); rest = s.rest }
requests_split m out (Drop r pk ∷ xs) ys a =
    let s = requests_split Nothing out xs ys a.1 in record { middle = s.middle; front = (a.0, s.front); rest = s.rest }
requests_split m out (Attention r ∷ xs) ys a =
    let s = requests_split Nothing out xs ys a.1 in record { middle = s.middle; front = (a.0, s.front); rest = s.rest }
