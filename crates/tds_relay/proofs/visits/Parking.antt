-- Who is parked holds no connection, and waits for none.
use Rattle.std.proofs.Common.{◌≡◌, ◌∙◌, ◌||◌, ℕ, Bool, true, false, List, [], ◌∷◌, refl, sym, ap, subst}
use Rattle.tds_relay.specs.Apart.{UnlessServed}
use Rattle.tds_relay.specs.Pool as pool
use Rattle.tds_relay.specs.Pool.{Pool, Event, Sharing, pool_after, turn}
use Rattle.tds_relay.specs.Core.{Core, IsThereAndAway, IsOpenEnd, change_end, is_in, lets_go, may_park, moved_all, new_core}
use Rattle.tds_relay.specs.Giving.{moves_in}
use Rattle.tds_relay.specs.Machine.{Machine, IsLedTo, new_machine}
use Rattle.tds_relay.specs.Promises.{Each}
use Rattle.tds_relay.specs.Ties.{Causes, LedOn, Leaving, Neither, Reaches}
use Rattle.tds_relay.proofs.ends.Keeping.{pool_along}
use Rattle.tds_relay.proofs.ends.Standing.{AtPool}
use Rattle.tds_relay.proofs.ends.Stopping.{quits_gone}
use Rattle.tds_relay.proofs.held.Away.{WaitsNot, stays_gone}
use Rattle.tds_relay.proofs.held.Lists.{first_other, places, theirs_none}
use Rattle.tds_relay.proofs.held.Ours.{Gone}
use Rattle.tds_relay.proofs.promises.Caring.{Sound}
use Rattle.tds_relay.proofs.spared.Parks.{ends_stay}
use Rattle.tds_relay.proofs.steps.Parked.{rested}
use Rattle.tds_relay.proofs.visits.Stays.{core_after, may_moves}

-- ---- Nobody comes to wait whom nobody lets wait

no_wait : (key : ℕ) (event : Event) → Causes Neither event → WaitsNot key event
no_wait key (pool.Waits other) cause = absurd cause
no_wait key (pool.Unwaits other) cause = tt
no_wait key pool.Serves cause = tt
no_wait key (pool.Brings gives way) cause = tt
no_wait key (pool.Does other action) cause = tt
no_wait key (pool.Leaves other gives way) cause = tt
no_wait key (pool.Renews other resumes) cause = tt
no_wait key (pool.Comes number part way) cause = tt
no_wait key (pool.Loses number) cause = tt

gone_along : (key : ℕ) (d : Pool) (events : List Event) → Each (Causes Neither) events → Gone key d → Gone key (pool_after d events)
gone_along key d [] caused gone = gone
gone_along key d (event ∷ events) caused gone = gone_along key (turn d event).pool events caused.1 (stays_gone d key gone event (no_wait key event caused.0))

gone_on : (key : ℕ) (d e : Pool) → LedOn d e → Gone key d → Gone key e
gone_on key d e goes gone =
    let r : Reaches Neither d e = goes Neither d (record { events = []; are = refl; caused = tt }) in
    subst (Gone key) r.are (gone_along key d r.events r.caused gone)

pub out_of : (key : ℕ) (line : List ℕ) → places key line ≡ [] → is_in key line ≡ false
out_of key [] e = refl
out_of key (k ∷ ks) e =
    let f = first_other key k ks e in
    ap (λ (b : Bool). b || is_in key ks) f.0 ∙ out_of key ks f.1

-- ---- Where steps led to a machine

pub at_machine : (sharing : Sharing) (key : ℕ) (h : Machine) → IsLedTo sharing h → Sound h.core.pool × AtPool key h.core.pool
at_machine sharing key h (steps, are, may) =
    let is : moved_all (new_core sharing) (moves_in steps) ≡ h.core = sym (core_after (new_machine sharing) steps) ∙ ap (λ (x : Machine). x.core) are in
    subst (λ (x : Core). Sound x.pool × AtPool key x.pool) is (pool_along sharing key (moves_in steps) (may_moves (new_machine sharing) steps may))

pub parked_away : (sharing : Sharing) (key : ℕ) (old : Machine) (mid new : Core) → IsLedTo sharing old → may_park old.core key ≡ true → mid.ends ≡ change_end key lets_go old.core.ends → Leaving key old.core.pool mid.pool
    → LedOn mid.pool new.pool → UnlessServed mid new → IsThereAndAway new key
parked_away sharing key old mid new led parks is leaving goes served =
    let at = at_machine sharing key old led in
    let left : Gone key mid.pool = gone_on key (turn old.core.pool (pool.Leaves key leaving.0 leaving.1)).pool mid.pool leaving.2 (quits_gone old.core.pool key leaving.0 leaving.1 at.0 at.1) in
    let gone : Gone key new.pool = gone_on key mid.pool new.pool goes left in
    record {
      there = subst IsOpenEnd (sym (served key (out_of key mid.pool.line left.waits) ∙ ends_stay old.core key mid.ends parks is key ∙ (rested old.core key parks).end)) tt;
      holds = theirs_none key new.pool.holds gone.holds;
      waits = out_of key new.pool.line gone.waits;
    }
