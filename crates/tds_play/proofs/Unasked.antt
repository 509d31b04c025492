-- What a call of a carrier needs: the event that it was told of has handed over nothing yet, and no call failed.
use Rattle.std.proofs.Common.{Bool, true, ◌≡◌, ◌∙◌, ◌<◌, ℕ, suc, List, [], ◌∷◌, ◌++◌, length, slice_index_or, Option, Some, None, false, refl, sym, ap, subst}
use Rattle.tds_packet.specs.declared.kind.Direction.{Direction}
use Rattle.tds_packet.specs.declared.kind.Direction.TheVariants.{ToServer, ToClient}
use Rattle.tds_play.specs.Failures.{Carry, HasNoFailure, LiveAreSound, Send}
use Rattle.tds_play.specs.Pipe.{BegunEvent, MayCarry, MaySend, Pipe, carried_on, newest_of, since, stuck_on, traffic}
use Rattle.tds_play.specs.Seats.{Seated}
use Rattle.tds_play.specs.Ties.{IsJustTold, IsUnasked}

-- ---- The newest event

newest_is : (pipes : ℕ → Option Pipe) (bs : List BegunEvent) (b : BegunEvent) → newest_of pipes (bs ++ b ∷ []) ≡ b.pipes
newest_is pipes [] b = refl
newest_is pipes (c ∷ bs) b = newest_is c.pipes bs b

-- A carrier was told of an event, and nothing else changed.
pub just_told : {is_told : Bool} (event : ℕ) (old new : List BegunEvent) (pipes after : ℕ → Option Pipe) → (is_told ≡ true → new ≡ old ++ record { event = event; pipes = pipes } ∷ []) → after ≡ pipes → IsJustTold is_told new after
just_told event old new pipes after told still n tells =
    ap (λ (bs : List BegunEvent). since bs n) (told tells)
    ∙ ap (λ (ps : ℕ → Option Pipe). ps n) (newest_is (λ n. None) old (record { event = event; pipes = pipes }))
    ∙ ap (λ (ps : ℕ → Option Pipe). ps n) (sym still)

-- ---- Nothing was asked

sends_fine : (p : Option Pipe) → HasNoFailure p → (d : Direction) → (traffic p d).send_failures ≡ 0
sends_fine None fine d = refl
sends_fine (Some p) fine d = fine (Send d)

carries_fine : (p : Option Pipe) → HasNoFailure p → (d : Direction) → (traffic p d).carry_failures ≡ 0
carries_fine None fine d = refl
carries_fine (Some p) fine d = fine (Carry d)

may_send : (is_told : Bool) (before now : Option Pipe) → (is_told ≡ true → before ≡ now) → HasNoFailure now → MaySend is_told before now
may_send is_told before now same fine = record {
  first = λ tells d. ap (λ (p : Option Pipe). (traffic p d).handed) (sym (same tells));
  unfailed = sends_fine now fine;
}

-- Bytes may be handed over, and carried.
pub sends_at : {is_told : Bool} (told : List BegunEvent) (pipes : ℕ → Option Pipe) (n m : ℕ) → m ≡ n → IsUnasked is_told told pipes n → MaySend is_told (since told m) (pipes m)
sends_at {is_told} told pipes n m is u =
    subst (λ (k : ℕ). MaySend is_told (since told k) (pipes k)) (sym is) (may_send is_told (since told n) (pipes n) u.since_then u.unfailed)

pub carries_at : {is_told : Bool} (told : List BegunEvent) (pipes : ℕ → Option Pipe) (n : ℕ) → IsUnasked is_told told pipes n → MayCarry is_told (since told n) (pipes n)
carries_at {is_told} told pipes n u = record {
  sends = may_send is_told (since told n) (pipes n) u.since_then u.unfailed;
  unfailed = carries_fine (pipes n) u.unfailed;
}

-- ---- Bytes come

carried_handed : (p : Option Pipe) (d : Direction) (bytes : List ℕ) (e : Direction) → (traffic (carried_on p d bytes) e).handed ≡ (traffic p e).handed
carried_handed None d bytes e = refl
carried_handed (Some p) ToServer bytes ToServer = refl
carried_handed (Some p) ToServer bytes ToClient = refl
carried_handed (Some p) ToClient bytes ToServer = refl
carried_handed (Some p) ToClient bytes ToClient = refl

carried_sends : (p : Option Pipe) (d : Direction) (bytes : List ℕ) (e : Direction) → (traffic (carried_on p d bytes) e).send_failures ≡ (traffic p e).send_failures
carried_sends None d bytes e = refl
carried_sends (Some p) ToServer bytes ToServer = refl
carried_sends (Some p) ToServer bytes ToClient = refl
carried_sends (Some p) ToClient bytes ToServer = refl
carried_sends (Some p) ToClient bytes ToClient = refl

carried_carries : (p : Option Pipe) (d : Direction) (bytes : List ℕ) (e : Direction) → (traffic (carried_on p d bytes) e).carry_failures ≡ (traffic p e).carry_failures
carried_carries None d bytes e = refl
carried_carries (Some p) ToServer bytes ToServer = refl
carried_carries (Some p) ToServer bytes ToClient = refl
carried_carries (Some p) ToClient bytes ToServer = refl
carried_carries (Some p) ToClient bytes ToClient = refl

pub carries_on : {is_told : Bool} (before p : Option Pipe) (d : Direction) (bytes : List ℕ) → MayCarry is_told before p → MayCarry is_told before (carried_on p d bytes)
carries_on before p d bytes may = record {
  sends = record {
    first = λ tells e. carried_handed p d bytes e ∙ may.sends.first tells e;
    unfailed = λ e. carried_sends p d bytes e ∙ may.sends.unfailed e;
  };
  unfailed = λ e. carried_carries p d bytes e ∙ may.unfailed e;
}

stuck_handed : (p : Option Pipe) (d e : Direction) → (traffic (stuck_on p d) e).handed ≡ (traffic p e).handed
stuck_handed None d e = refl
stuck_handed (Some p) ToServer ToServer = refl
stuck_handed (Some p) ToServer ToClient = refl
stuck_handed (Some p) ToClient ToServer = refl
stuck_handed (Some p) ToClient ToClient = refl

stuck_sends : (p : Option Pipe) (d e : Direction) → (traffic (stuck_on p d) e).send_failures ≡ (traffic p e).send_failures
stuck_sends None d e = refl
stuck_sends (Some p) ToServer ToServer = refl
stuck_sends (Some p) ToServer ToClient = refl
stuck_sends (Some p) ToClient ToServer = refl
stuck_sends (Some p) ToClient ToClient = refl

-- Where no more came, what had come may cause an answer.
pub sends_stuck : {is_told : Bool} (before p : Option Pipe) (d : Direction) → MayCarry is_told before p → MaySend is_told before (stuck_on p d)
sends_stuck before p d may = record {
  first = λ tells e. stuck_handed p d e ∙ may.sends.first tells e;
  unfailed = λ e. stuck_sends p d e ∙ may.sends.unfailed e;
}

-- What one call left, seen by the next one: the carrier was told of no other event.
pub sends_then : {is_told : Bool} (told still : List BegunEvent) (n m : ℕ) (now : ℕ → Option Pipe) (p : Option Pipe) → m ≡ n → still ≡ told → now n ≡ p → MaySend is_told (since told n) p → MaySend is_told (since still m) (now m)
sends_then {is_told} told still n m now p is same here may =
    subst (λ (k : ℕ). MaySend is_told (since still k) (now k)) (sym is)
    (subst (λ (bs : List BegunEvent). MaySend is_told (since bs n) (now n)) (sym same)
    (subst (λ (q : Option Pipe). MaySend is_told (since told n) q) (sym here) may))

pub carries_then : {is_told : Bool} (told still : List BegunEvent) (n m : ℕ) (now : ℕ → Option Pipe) (p : Option Pipe) → m ≡ n → still ≡ told → now n ≡ p → MayCarry is_told (since told n) p → MayCarry is_told (since still m) (now m)
carries_then {is_told} told still n m now p is same here may =
    subst (λ (k : ℕ). MayCarry is_told (since still k) (now k)) (sym is)
    (subst (λ (bs : List BegunEvent). MayCarry is_told (since bs n) (now n)) (sym same)
    (subst (λ (q : Option Pipe). MayCarry is_told (since told n) q) (sym here) may))

-- ---- A connection of a player

pub unasked_at : {E S : Type 0} {is_told : Bool} (links : List (Seated E S)) (place n : ℕ) (x d : Seated E S) (told : List BegunEvent) (pipes : ℕ → Option Pipe)
    → IsJustTold is_told told pipes → LiveAreSound links pipes → place < length links → slice_index_or links place d ≡ x → x.link.is_cut ≡ false → n ≡ suc place → IsUnasked is_told told pipes n
unasked_at {E} {S} links place n x d told pipes just sound within at live is =
    let lives = ap (λ (y : Seated E S). y.link.is_cut) at ∙ live in
    record {
      since_then = just n;
      unfailed = subst (λ (k : ℕ). HasNoFailure (pipes k)) (sym is) (sound place d within lives);
    }
