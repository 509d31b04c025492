-- The client of one connection of a pool changes, and nothing else.
use Rattle.std.proofs.Common.{◌≡◌, ◌∙◌, ℕ, Bool, List, Option, Some, None, Result, Ok, Err, refl, sym, ap, subst}
use Rattle.std.specs.Prelude.{IsSome, OnOk, option_map}
use Rattle.tds_client.specs.Session.{ClientSession}
use Rattle.tds_pool.specs.Calls.{all_numbers}
use Rattle.tds_pool.specs.Cleaning.{client_at, client_or_new}
use Rattle.tds_pool.specs.Connections.{Connection, PoolState, SameRest, connections, numbered, taken_out, with_client}
use Rattle.tds_play.specs.Pooled.{ChangesClient, ChangesOne}
use Rattle.tds_play.proofs.pooled.Changes.{changed_here, changed_numbers, changed_others}
use Rattle.tds_play.proofs.pooled.Leaves.{taken_changed}

-- It has this client.
abbrev pub with : ClientSession → Connection → Connection
with s c = record c { client = s }

pub client_at_is : (n : ℕ) (pcs : List Connection) (c : Connection) → numbered n pcs ≡ Some c → client_at n pcs ≡ c.client
client_at_is n pcs c found = ap client_or_new found

-- ---- Nothing changes

option_same : (o : Option Connection) → o ≡ option_map (with (client_or_new o)) o
option_same None = refl
option_same (Some c) = refl

pub no_change : (n : ℕ) (p : PoolState) → ChangesClient n p p
no_change n p = record {
  others = λ m other. refl;
  numbers = refl;
  here = option_same (numbered n (connections p));
  but = refl;
  rest = record { name = refl; max = refl; size = refl; last = refl };
}

pub on_any : {A B : Type 0} (r : Result A B) (P : Type 0) → P → OnOk r P
on_any (Ok x) P h = h
on_any (Err e) P h = tt

-- ---- A client is put there

put_option : (s : ClientSession) (o p : Option Connection) → p ≡ option_map (with s) o → p ≡ option_map (with (client_or_new p)) o
put_option s None p e = e
put_option s (Some c) p e = e ∙ ap (λ (x : ClientSession). Some (with x c)) (sym (ap client_or_new e))

pub client_put : (n : ℕ) (s : ClientSession) (old new : PoolState) → connections new ≡ with_client n s (connections old) → SameRest old new → ChangesClient n old new
client_put n s old new shown rest = record {
  others = λ m other. ap (numbered m) shown ∙ changed_others n (with s) (connections old) (λ d. refl) m other;
  numbers = ap all_numbers shown ∙ changed_numbers n (with s) (connections old) (λ d. refl);
  here = put_option s (numbered n (connections old)) (numbered n (connections new)) (ap (numbered n) shown ∙ changed_here n (with s) (connections old) (λ d. refl));
  but = ap (taken_out n) shown ∙ taken_changed n (with s) (connections old) (λ d. refl);
  rest = rest;
}

-- ---- One change, and then another

option_twice : (s t : ClientSession) (o : Option Connection) → option_map (with t) (option_map (with s) o) ≡ option_map (with t) o
option_twice s t None = refl
option_twice s t (Some c) = refl

pub rest_then : (a b c : PoolState) → SameRest a b → SameRest b c → SameRest a c
rest_then a b c first next = record {
  name = next.name ∙ first.name;
  max = next.max ∙ first.max;
  size = next.size ∙ first.size;
  last = next.last ∙ first.last;
}

pub client_then : (n : ℕ) (a b c : PoolState) → ChangesClient n a b → ChangesClient n b c → ChangesClient n a c
client_then n a b c first next = record {
  others = λ m other. next.others m other ∙ first.others m other;
  numbers = next.numbers ∙ first.numbers;
  here =
      next.here ∙ ap (option_map (with (client_at n (connections c)))) first.here
      ∙ option_twice (client_at n (connections b)) (client_at n (connections c)) (numbered n (connections a));
  but = next.but ∙ first.but;
  rest = rest_then a b c first.rest next.rest;
}

some_option : (s : ClientSession) (o p : Option Connection) → p ≡ option_map (with s) o → IsSome o → IsSome p
some_option s None p e h = absurd (cc)
some_option s (Some c) p e h = subst (λ (x : Option Connection). IsSome x) (sym e) refl

pub still_there : (n : ℕ) (a b : PoolState) → ChangesClient n a b → IsSome (numbered n (connections a)) → IsSome (numbered n (connections b))
still_there n a b h there = some_option (client_at n (connections b)) (numbered n (connections a)) (numbered n (connections b)) h.here there

-- ---- And then the connection changes

pub client_one : (n : ℕ) (cut : Bool) (old mid new : PoolState) → ChangesClient n old mid → ChangesOne n cut mid new → ChangesOne n cut old new
client_one n cut old mid new c changes = record {
  others = λ m other. changes.others m other ∙ c.others m other;
  live = λ e. changes.live e ∙ c.numbers;
  stays = λ a b was now. changes.stays (with (client_at n (connections mid)) a) b (c.here ∙ ap (option_map (with (client_at n (connections mid)))) was) now;
  gone = λ e. changes.gone e ∙ c.but;
  rest = rest_then old mid new c.rest changes.rest;
}
