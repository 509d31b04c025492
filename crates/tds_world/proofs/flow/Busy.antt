-- Where something waits for a client or is due, somebody waits for an answer.
use Rattle.std.proofs.Common.{◌≡◌, ℕ, List, [], ◌∷◌, inl, inr, Bool, true, false, refl}
use Rattle.tds_session.specs.Answer as answer
use Rattle.tds_world.specs.declared.report.Place.TheVariants as place
use Rattle.tds_world.specs.Connection.{Standing, In, Cut}
use Rattle.tds_world.specs.Entries.{Up, Part, End, Drop, Attention, Down}
use Rattle.tds_world.specs.Phase.{Phase, Settled, Asked, Sending, Reading, Cancelling, is_settled}
use Rattle.tds_world.proofs.flow.Flow.{FlowIn}
use Rattle.tds_world.proofs.flow.Fates.{is_sending}

-- No request ends among these.
abbrev pub NoEnd : List Up → Type 0
NoEnd [] = Unit {0}
NoEnd (Part r p ∷ es) = NoEnd es
NoEnd (End r a p ∷ es) = ⊥
NoEnd (Drop r p ∷ es) = NoEnd es
NoEnd (Attention r ∷ es) = NoEnd es

-- An entry waits for the client.
pub busy_down : (p : Phase) (r a : ℕ) (ups : List Up) (e : Down) (es : List Down) (parts : List ℕ) (due : List answer.Step) → FlowIn p r a ups (e ∷ es) parts due → is_settled p ≡ false
busy_down Settled r a ups e es parts due f = let z : e ∷ es ≡ [] = f.1 in absurd (cc)
busy_down p r a ups e es parts due f = refl

pub busy_up : (p : Phase) (r a : ℕ) (e : Up) (es : List Up) (downs : List Down) (parts : List ℕ) (due : List answer.Step) → FlowIn p r a (e ∷ es) downs parts due → is_settled p ≡ false
busy_up Settled r a e es downs parts due f = let z : e ∷ es ≡ [] = f.0 in absurd (cc)
busy_up p r a e es downs parts due f = refl

-- A step is due: all of the request is out, it is the one that the server answers, and its end has
-- arrived.
pub record Answering (p : Phase) (r a : ℕ) (ups : List Up) : Type 0 where
  pub busy : is_settled p ≡ false
  pub whole : is_sending p ≡ false
  pub number : a ≡ r
  pub ends : NoEnd ups

no_end_in : (ups : List Up) → ups ≡ [] → NoEnd ups
no_end_in ups e = rw e tt

no_end_attention : (r : ℕ) (ups : List Up) → ups ≡ Attention r ∷ [] → NoEnd ups
no_end_attention r ups e = rw e tt

pub busy_due : (p : Phase) (r a : ℕ) (ups : List Up) (downs : List Down) (parts : List ℕ) (s : answer.Step) (ss : List answer.Step) → FlowIn p r a ups downs parts (s ∷ ss) → Answering p r a ups
busy_due Settled r a ups downs parts s ss f = let z : s ∷ ss ≡ [] = f.3 in absurd (cc)
busy_due Asked r a ups downs parts s ss f = let z : s ∷ ss ≡ [] = f.3 in absurd (cc)
busy_due Sending r a ups downs parts s ss f = let z : s ∷ ss ≡ [] = f.2 in absurd (cc)
busy_due Reading r a ups downs parts s ss f = elim f [
  | inl h ↦ let z : s ∷ ss ≡ [] = h.2 in absurd (cc)
  | inr h ↦ record { busy = refl; whole = refl; number = h.2; ends = no_end_in ups h.0 }
]
busy_due Cancelling r a ups downs parts s ss f = elim f [
  | inl h ↦ let z : s ∷ ss ≡ [] = h.2 in absurd (cc)
  | inr k ↦ elim k [
    | inl h ↦ record { busy = refl; whole = refl; number = h.1; ends = no_end_attention r ups h.0 }
    | inr h ↦ let z : s ∷ ss ≡ [] = h.2 in absurd (cc)
  ]
]

-- Of a connection at a place, whether it is idle: a free one and a kept one are.
abbrev pub Rests : Standing → Bool → Type 0
Rests (In place.Free) idle = idle ≡ true
Rests (In (place.Kept t)) idle = idle ≡ true
Rests (In (place.Leased l)) idle = Unit {0}
Rests (In place.Draining) idle = Unit {0}
Rests Cut idle = Unit {0}

-- One that is busy has no such place.
pub rests_any : (s : Standing) (b : Bool) → Rests s false → Rests s b
rests_any (In place.Free) b h = absurd (cc)
rests_any (In (place.Kept t)) b h = absurd (cc)
rests_any (In (place.Leased l)) b h = tt
rests_any (In place.Draining) b h = tt
rests_any Cut b h = tt

-- Somebody waits for one that sends.
pub is_open : (p : Phase) → is_sending p ≡ true → is_settled p ≡ false
is_open Settled e = absurd (cc)
is_open Asked e = refl
is_open Sending e = refl
is_open Reading e = absurd (cc)
is_open Cancelling e = absurd (cc)
