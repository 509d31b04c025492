-- The clients of those who wait for no connection stay, behind what is done for another application, or on a connection.
use Rattle.std.proofs.Common.{◌≡◌, ◌∙◌, ℕ, false, None, Some, inl, refl, sym, ap}
use Rattle.std.specs.Prelude.{Result, Ok, Err, OnOk}
use Rattle.tds_relay.specs.declared.pool.Pool as pools
use Rattle.tds_relay.specs.declared.relay.Relay as code
use Rattle.tds_relay.specs.Closings.{IsWaiting, IsWho, Itself}
use Rattle.tds_relay.specs.Core.{holder, is_in}
use Rattle.tds_relay.specs.Sparing.{AllGo, AllRest, AwayRest, ClientsStay, OffGo, OthersRest}
use Rattle.tds_relay.specs.Ties.{IsReached, pool_in}
use Rattle.tds_relay.proofs.lending.Resting.{still_both, still_rests}
use Rattle.tds_relay.proofs.spared.Parks.{out_by}

pub clients_refl : (But : ℕ → Type 0) (r : code.Relay) → ClientsStay But r r
clients_refl But r = record { stay = λ key not away. inl (inl refl) }

pub clients_all : (But : ℕ → Type 0) (a b : code.Relay) → AllRest a b → ClientsStay But a b
clients_all But a b h = record { stay = λ key not away. h.holds key }

pub clients_others : (key : ℕ) (a b : code.Relay) → OthersRest key a b → ClientsStay (Itself key) a b
clients_others key a b h = record { stay = λ other not away. h.holds other not }

-- of whoever holds a connection
pub clients_holder : {A E : Type 0} (r : Result A E) (key number : ℕ) (a b : code.Relay) → holder (pool_in a.pool) number ≡ Some key → OnOk r (OthersRest key a b) → OnOk r (ClientsStay (IsWho (holder (pool_in a.pool) number)) a b)
clients_holder (Ok x) key number a b its h = record { stay = λ other not away. h.holds other (λ same. not (its ∙ ap (λ (k : ℕ). Some k) (sym same))) }
clients_holder (Err e) key number a b its h = tt

-- or where something comes there
pub clients_off : {A E : Type 0} (r : Result A E) (number : ℕ) (a b : code.Relay) → IsReached (pool_in a.pool) → OnOk r (OffGo number None a b) → OnOk r (ClientsStay (IsWho (holder (pool_in a.pool) number)) a b)
clients_off (Ok x) number a b reached h = record { stay = λ key not away. h.holds reached key (λ e. (let u : None ≡ Some key = e in cc)) not away }
clients_off (Err e) number a b reached h = tt

-- all stay, and then something is done for whoever holds it
pub clients_behind : (number : ℕ) (a b c : code.Relay) → b.pool ≡ a.pool → IsReached (pool_in b.pool) → AllRest a b → AllGo b c → ClientsStay (IsWho (holder (pool_in b.pool) number)) b c → ClientsStay (IsWho (holder (pool_in a.pool) number)) a c
clients_behind number a b c same reached h goes k = record {
  stay = λ key not away.
      still_both key a b c (h.holds key) (goes.go reached key)
      (k.stay key (λ its. not (ap (λ (d : pools.Pool). holder (pool_in d) number) (sym same) ∙ its)) (ap (λ (d : pools.Pool). is_in key (pool_in d).line) same ∙ away));
}

-- those who wait are served then: whoever does, but these, did before
pub clients_then : (But : ℕ → Type 0) (a b c : code.Relay) → ClientsStay But a b → ((key : ℕ) → ¬ But key → IsWaiting (pool_in b.pool).line key → IsWaiting (pool_in a.pool).line key) → AwayRest b c → ClientsStay But a c
clients_then But a b c h waited k = record {
  stay = λ key not away.
      let out : is_in key b.pool.line.items ≡ false = out_by (is_in key b.pool.line.items) (is_in key a.pool.line.items) (waited key not) away in
      still_rests key a b c (h.stay key not away) (k.rest key out) (k.holds key out);
}

pub clients_served : {A E : Type 0} (r : Result A E) (But : ℕ → Type 0) (a b c : code.Relay) → ClientsStay But a b → ((key : ℕ) → ¬ But key → IsWaiting (pool_in b.pool).line key → IsWaiting (pool_in a.pool).line key) → OnOk r (AwayRest b c)
    → OnOk r (ClientsStay But a c)
clients_served (Ok x) But a b c h waited k = clients_then But a b c h waited k
clients_served (Err e) But a b c h waited k = tt
