-- A connection that the pool cleans: what is left of it in the pool when that begins, and once its answer has
-- come.
use Rattle.std.proofs.Common.{◌≡◌, ◌≢◌, ◌∙◌, inl, inr, ℕ, Bool, true, false, cond, List, [], ◌∷◌, Option, Some, None, refl, sym, ap, subst}
use Rattle.std.proofs.Math.Dec.{eqb}
use Rattle.std.specs.Prelude.{IfNone, IfSome, IsSome, is_none, option_map}
use Rattle.tds_client.specs.Session.{Stage, Idle, Sending, Reading, Cancelling, Broken, unless_idle}
use Rattle.tds_pool.specs.Calls.{IsRefusal, Returned, all_numbers, asks_reset, behind_refusal, cleaned, cleaned_to, cleaning, free_one, is_clean, is_cleaning, is_free, is_held, looked_at_clean, not_cleaned, only, refuses_clean, rests_clean}
use Rattle.tds_pool.specs.Calls as calls
use Rattle.tds_pool.specs.Cleaning.{client_at, is_cleaned}
use Rattle.tds_pool.specs.Connections.{Connection, PoolState, SameRest, at_place, changed_in, connections, numbered, taken_out}
use Rattle.tds_pool.specs.declared.answers.GivenBack.TheVariants as given
use Rattle.tds_pool.specs.declared.answers.PoolRefusal.{PoolRefusal}
use Rattle.tds_pool.specs.declared.answers.PoolRefusal.TheVariants as refusals
use Rattle.tds_pool.specs.declared.seat.Place.{Place}
use Rattle.tds_pool.specs.declared.seat.Place.TheVariants as places
use Rattle.tds_request.specs.declared.request.Request.{Request}
use Rattle.tds_world.specs.declared.report.Place.TheVariants.{Draining, Free}
use Rattle.tds_world.specs.declared.report.Place as world
use Rattle.tds_play.specs.Pooled.{ChangesClient, ChangesOne, IsNotCleaned, IsThere, StaysAs, cleans_not, seat_by}
use Rattle.tds_play.specs.Seats.{drained, drained_at, seated}
use Rattle.tds_play.specs.declared.seat.Held.{Held}
use Rattle.tds_play.proofs.pooled.Changes.{changed_here, changed_numbers, changed_others, taken_gone, taken_others}
use Rattle.tds_play.proofs.pooled.Clients.{rest_then, with}
use Rattle.tds_play.proofs.pooled.Leaves.{IsMoved, is_closed, stays_there, taken_changed}
use Rattle.tds_play.proofs.pooled.Returned.{number_found}

-- ---- Its answer comes

some_cleaned : (o : Option Connection) → is_cleaned o ≡ true → IsSome o
some_cleaned None e = absurd (cc)
some_cleaned (Some c) e = refl

pub cleaned_there : (n : ℕ) (cs : List Connection) → is_cleaned (numbered n cs) ≡ true → IsSome (numbered n cs)
cleaned_there n cs e = some_cleaned (numbered n cs) e

cleaning_is : (p : Place) → is_cleaning p ≡ true → p ≡ places.Cleaning
cleaning_is places.Leased e = absurd (cc)
cleaning_is places.Kept e = absurd (cc)
cleaning_is places.Free e = absurd (cc)
cleaning_is places.Draining e = absurd (cc)
cleaning_is places.Cleaning e = refl

-- How it stands then, and what a play shows of it.
pub record Looks (n holder : ℕ) (cs : List Connection) (c : Connection) (r : Returned) : Type 0 where
  pub moved : IsMoved n cs c r
  pub shown : seat_by holder (numbered n r.connections) ≡ drained (seat_by holder (Some c))

shown_by : (holder : ℕ) (c : Connection) (stage : Stage) (p : world.Place) → c.client.stage ≡ stage → c.place ≡ places.Cleaning → drained_at (is_none (unless_idle stage)) Draining ≡ p → seated p c.client ≡ drained (seat_by holder (Some c))
shown_by holder c stage p at is e =
    sym (ap (λ (q : Place). drained (seat_by holder (Some (record c { place = q })))) is
    ∙ ap (λ (s : Stage). seated (drained_at (is_none (unless_idle s)) Draining) c.client) at
    ∙ ap (λ (q : world.Place). seated q c.client) e)

freed : (n : ℕ) (cs : List Connection) (c : Connection) → numbered n cs ≡ Some c → c.place ≡ places.Cleaning → IsMoved n cs c (record { answer = given.Free n; connections = at_place n places.Free cs })
freed n cs c found is = record {
  others = changed_others n (λ (d : Connection). record d { place = places.Free }) cs (λ d. refl);
  numbers = changed_numbers n (λ (d : Connection). record d { place = places.Free }) cs (λ d. refl);
  place = places.Free;
  turn = c.turn;
  here = changed_here n (λ (d : Connection). record d { place = places.Free }) cs (λ d. refl) ∙ ap (option_map (λ (d : Connection). record d { place = places.Free })) found;
  from = inr (ap is_held is);
}

waits : (n holder : ℕ) (cs : List Connection) (c : Connection) (stage : Stage) → c.client.stage ≡ stage → numbered n cs ≡ Some c → c.place ≡ places.Cleaning → drained_at (is_none (unless_idle stage)) Draining ≡ Draining → Looks n holder cs c (record { answer = given.Draining n; connections = cs })
waits n holder cs c stage at found is e = record {
  moved = stays_there n cs c (given.Draining n) found;
  shown =
      ap (seat_by holder) found ∙ ap (λ (q : Place). seat_by holder (Some (record c { place = q }))) is
      ∙ shown_by holder c stage Draining at is e;
}

looks_in : (n holder : ℕ) (cs : List Connection) (c : Connection) (stage : Stage) → c.client.stage ≡ stage → numbered n cs ≡ Some c → c.place ≡ places.Cleaning → is_closed (cleaned_to n (rests_clean c.client stage) cs).answer ≡ false → Looks n holder cs c (cleaned_to n (rests_clean c.client stage) cs)
looks_in n holder cs c Idle at found is e = by_clean (is_clean c.client) e
  where
    by_clean : (b : Bool) → is_closed (cleaned_to n (cond b (Some places.Free) None) cs).answer ≡ false → Looks n holder cs c (cleaned_to n (cond b (Some places.Free) None) cs)
    by_clean false e = absurd (cc)
    by_clean true e = record {
      moved = freed n cs c found is;
      shown =
          ap (seat_by holder) (changed_here n (λ (d : Connection). record d { place = places.Free }) cs (λ d. refl) ∙ ap (option_map (λ (d : Connection). record d { place = places.Free })) found)
          ∙ shown_by holder c Idle Free at is refl;
    }
looks_in n holder cs c (Sending kind left packets) at found is e = waits n holder cs c (Sending kind left packets) at found is refl
looks_in n holder cs c Reading at found is e = waits n holder cs c Reading at found is refl
looks_in n holder cs c Cancelling at found is e = waits n holder cs c Cancelling at found is refl
looks_in n holder cs c (Broken fault) at found is e = absurd (cc)

pub looked : (n holder : ℕ) (cs : List Connection) (c : Connection) → numbered n cs ≡ Some c → is_cleaned (numbered n cs) ≡ true → is_closed (cleaned n cs).answer ≡ false → Looks n holder cs c (cleaned n cs)
looked n holder cs c found cleans =
    let at : is_cleaning c.place ≡ true = sym (ap is_cleaned found) ∙ cleans in
    let is : cleaned n cs ≡ cleaned_to n (rests_clean c.client c.client.stage) cs =
    ap (λ o. looked_at_clean (only (λ (d : Connection). is_cleaning d.place) o) cs) found
    ∙ ap (λ (b : Bool). looked_at_clean (cond b (Some c) None) cs) at
    ∙ ap (λ (m : ℕ). cleaned_to m (rests_clean c.client c.client.stage) cs) (number_found n cs c found) in
    subst (λ (r : Returned). is_closed r.answer ≡ false → Looks n holder cs c r) (sym is)
    (looks_in n holder cs c c.client.stage refl found (cleaning_is c.place at))

-- ---- The pool refuses

pub not_cleaned_so : (o : Option PoolRefusal) (why : PoolRefusal) → IsRefusal o why → why ≢ refusals.Memory → IsNotCleaned o (cleans_not why)
not_cleaned_so None why is other = absurd (other is)
not_cleaned_so (Some first) why is other = ap cleans_not is

changed_same : (n : ℕ) (f : Connection → Connection) (cs : List Connection) → ((c : Connection) → f c ≡ c) → changed_in n f cs ≡ cs
changed_same n f [] same = refl
changed_same n f (c ∷ cs) same = by (eqb c.number n) (changed_same n f cs same)
  where
    by : (b : Bool) → changed_in n f cs ≡ cs → cond b (f c) c ∷ changed_in n f cs ≡ c ∷ cs
    by true e = rw (same c, e) refl
    by false e = rw e refl

not_changed : (why : PoolRefusal) (n : ℕ) (cs : List Connection) → why ≢ refusals.Memory → not_cleaned why n cs ≡ cs
not_changed refusals.Memory n cs other = absurd (other refl)
not_changed why n cs other = changed_same n (λ (c : Connection). record c { client = behind_refusal why c.client }) cs (λ c. refl)

pub still_free : (why : PoolRefusal) (n : ℕ) (o : Option Connection) (old new : PoolState) → why ≢ refusals.Memory → IfNone o (new ≡ old) → IfSome o (λ c. connections new ≡ not_cleaned why n (connections old)) → connections new ≡ connections old
still_free why n None old new other none some = ap connections none
still_free why n (Some c) old new other none some = some ∙ not_changed why n (connections old) other

-- ---- It begins

-- What the pool has of it then.
abbrev pub begun : Request → Connection → Connection
begun request c = record c { place = places.Cleaning; client = asks_reset c.client request }

pub begun_here : (n : ℕ) (request : Request) (cs : List Connection) (c : Connection) → numbered n cs ≡ Some c → numbered n (cleaning n request cs) ≡ Some (begun request c)
begun_here n request cs c found = changed_here n (begun request) cs (λ d. refl) ∙ ap (option_map (begun request)) found

only_where : (test : Connection → Bool) (c : Connection) → is_none (only test (Some c)) ≡ false → test c ≡ true
only_where test c e = by (test c) e
  where
    by : (b : Bool) → is_none (cond b (Some c) None) ≡ false → b ≡ true
    by true e = refl
    by false e = absurd (cc)

-- It was free, and its client idle.
pub record WasFree (c : Connection) : Type 0 where
  pub free : is_free c.place ≡ true
  pub idle : calls.unless_idle c.client.stage ≡ None

pub was_free : (n : ℕ) (cs : List Connection) (c : Connection) → numbered n cs ≡ Some c → refuses_clean (free_one n cs) ≡ None → WasFree c
was_free n cs c found none = by (is_free c.place) refl (sym (ap (λ o. refuses_clean (only (λ (d : Connection). is_free d.place) o)) found) ∙ none)
  where
    by : (b : Bool) → is_free c.place ≡ b → refuses_clean (cond b (Some c) None) ≡ None → WasFree c
    by true at e = record { free = at; idle = e }
    by false at e = absurd (cc)

free_unheld : (p : Place) → is_free p ≡ true → is_held p ≡ false
free_unheld places.Free e = refl
free_unheld p e = absurd (cc)

-- It began to be cleaned, its client sent, and it may have left the pool.
pub record CleansOne (n : ℕ) (request : Request) (cut : Bool) (old mid sent new : PoolState) : Type 0 where
  pub began : connections mid ≡ cleaning n request (connections old)
  pub began_rest : SameRest old mid
  pub client : ChangesClient n mid sent
  pub live : cut ≡ false → new ≡ sent
  pub gone : cut ≡ true → connections new ≡ taken_out n (connections sent)
  pub rest : SameRest sent new

pub sent_here : (n : ℕ) (request : Request) (cut : Bool) (old mid sent new : PoolState) (c : Connection) → CleansOne n request cut old mid sent new → numbered n (connections old) ≡ Some c → numbered n (connections sent) ≡ Some (with (client_at n (connections sent)) (begun request c))
sent_here n request cut old mid sent new c h found =
    h.client.here ∙ ap (λ (cs : List Connection). option_map (with (client_at n (connections sent))) (numbered n cs)) h.began
    ∙ ap (option_map (with (client_at n (connections sent)))) (begun_here n request (connections old) c found)

pub cleans_one : (n : ℕ) (request : Request) (cut : Bool) (old mid sent new : PoolState) (c : Connection) → CleansOne n request cut old mid sent new → numbered n (connections old) ≡ Some c → WasFree c → ChangesOne n cut old new
cleans_one n request cut old mid sent new c h found free = record {
  others = λ m other. by_cut m other cut refl;
  live = λ e.
      ap (λ (p : PoolState). all_numbers (connections p)) (h.live e) ∙ h.client.numbers ∙ ap all_numbers h.began
      ∙ changed_numbers n (begun request) (connections old) (λ d. refl);
  stays = λ a b was now. inr (let same : Some c ≡ Some a = sym found ∙ was in let one : c ≡ a = cc in ap (λ (x : Connection). is_held x.place) (sym one) ∙ free_unheld c.place free.free);
  gone = λ e.
      h.gone e ∙ h.client.but ∙ ap (taken_out n) h.began
      ∙ taken_changed n (begun request) (connections old) (λ d. refl);
  rest = rest_then old mid new h.began_rest (rest_then mid sent new h.client.rest h.rest);
}
  where
    before : (m : ℕ) → m ≢ n → numbered m (connections sent) ≡ numbered m (connections old)
    before m other = h.client.others m other ∙ ap (numbered m) h.began ∙ changed_others n (begun request) (connections old) (λ d. refl) m other

    by_cut : (m : ℕ) → m ≢ n → (b : Bool) → cut ≡ b → numbered m (connections new) ≡ numbered m (connections old)
    by_cut m other true e = ap (numbered m) (h.gone e) ∙ taken_others n (connections sent) m other ∙ before m other
    by_cut m other false e = ap (λ (p : PoolState). numbered m (connections p)) (h.live e) ∙ before m other

pub cleans_there : {E S : Type 0} (n : ℕ) (request : Request) (old mid sent new : PoolState) (c : Connection) (h : Held E S) → h.link.number ≡ n → CleansOne n request h.link.is_cut old mid sent new → numbered n (connections old) ≡ Some c → IsThere h new
cleans_there {E} {S} n request old mid sent new c h number cleans found = record {
  is_in = λ e.
      subst (λ (m : ℕ). IsSome (numbered m (connections new))) (sym number)
      (subst (λ (p : PoolState). IsSome (numbered n (connections p))) (sym (cleans.live e))
      (subst (λ (o : Option Connection). IsSome o) (sym (sent_here n request h.link.is_cut old mid sent new c cleans found)) refl));
  is_out = λ e. ap (λ (m : ℕ). numbered m (connections new)) number ∙ ap (numbered n) (cleans.gone e) ∙ taken_gone n (connections sent);
}

-- ---- Nothing changes

pub alike_changes : (n : ℕ) (cut : Bool) (old new : PoolState) → cut ≡ false → connections new ≡ connections old → SameRest old new → ChangesOne n cut old new
alike_changes n cut old new lives same rest = record {
  others = λ m other. ap (numbered m) same;
  live = λ e. ap all_numbers same;
  stays = λ a b was now. let one : Some a ≡ Some b = sym was ∙ sym (ap (numbered n) same) ∙ now in let it : a ≡ b = cc in subst (λ (x : Connection). StaysAs a x) it (inl (refl, refl));
  gone = λ e. let bad : true ≡ false = sym e ∙ lives in absurd (cc);
  rest = rest;
}

pub alike_there : {E S : Type 0} (h : Held E S) (old new : PoolState) → connections new ≡ connections old → IsThere h old → IsThere h new
alike_there h old new same there = record {
  is_in = λ e. subst (λ (cs : List Connection). IsSome (numbered h.link.number cs)) (sym same) (there.is_in e);
  is_out = λ e. ap (numbered h.link.number) same ∙ there.is_out e;
}

pub idle_there : (stage : Stage) → calls.unless_idle stage ≡ None → is_none (unless_idle stage) ≡ true
idle_there Idle e = refl
idle_there (Sending kind left packets) e = absurd (cc)
idle_there Reading e = absurd (cc)
idle_there Cancelling e = absurd (cc)
idle_there (Broken fault) e = absurd (cc)
