-- What a cleaning puts, and what goes out where a connection is let go.
use Rattle.std.proofs.Common.{◌≡◌, ◌∙◌, ◌==◌, ◌++◌, ◌≤◌, ℕ, Bool, true, false, not, List, [], ◌∷◌, Option, Some, None, inl, inr, refl, sym, ap, subst, append_assoc, arith, option_map, if◌then◌else◌}
use Rattle.std.specs.Prelude.{IsSome, OnOk, Result, Ok, Err, ◌⊎◌}
use Rattle.std.proofs.lemmas.Bool.{eqb-true, eq-eqb}
use Rattle.tds_client.specs.declared.message.MessageKind.TheVariants.{Batch}
use Rattle.tds_client.specs.Session.{ClientSession}
use Rattle.tds_client.specs.Streams.{finished, opened, put}
use Rattle.tds_service.specs.declared.service.Service as services
use Rattle.tds_service.specs.Table.{CancelsOut, DoesAt, BeginsMessage, client_of}
use Rattle.tds_service.specs.Ties.{cancel_out}
use Rattle.tds_packet.specs.declared.status.Reset.TheVariants.{Full}
use Rattle.tds_relay.specs.declared.pool.Pool as pools
use Rattle.tds_relay.specs.declared.pool.Hold.{Hold}
use Rattle.tds_relay.specs.declared.pool.leaving.Left.{Left}
use Rattle.tds_relay.specs.declared.link.Link.{Link}
use Rattle.tds_relay.specs.declared.relay.Relay as code
use Rattle.tds_relay.specs.Cleaning.{CleansOnce, GoesOutAtEnd, GoesOutBy, IsBatch, IsCleaning, WaitsAtEnd, OfItsHold, MayClean, IsPutBehind, CannotClean, CountsAtEnd, CountsHold, CountsSent, CountsSince, CountsSinceEnd, IsBrokenFor, IsTooLong, IsUnfit, LosesWaiting, cleaned_in, rests_once, text_of_cleaning, IsShutFor}
use Rattle.tds_relay.specs.Cleaning as cleaning
use Rattle.tds_relay.specs.Pool as pool
use Rattle.tds_relay.specs.Pool.{Pool, find_key, find_lease, find_number, whose_by, without_lease, next}
use Rattle.tds_relay.specs.Promises.{Each}
use Rattle.tds_relay.specs.Closings.{ClosesOnly, IsWaiting, NoKey, Register, open_name, register_in}
use Rattle.tds_relay.specs.Lent.{HasClosed, IsMade, LastBut, KeepsGiven}
use Rattle.tds_relay.specs.Reads.{FillsAt, FillsBy, bytes_on, link_at, queue_on, reader_at, reader_of, waits_on}
use Rattle.tds_relay.specs.Queues.{Queue, fits, empty_queue, queue_in}
use Rattle.tds_relay.specs.Reasons.{HasNoRoom}
use Rattle.tds_wire.specs.declared.features.Features.{Features}
use Rattle.tds_relay.specs.Ties.{IsNumberOf, IsReached, Turns, pool_in}
use Rattle.tds_relay.proofs.spared.Freeing.{held_low}
use Rattle.tds_relay.proofs.held.Sitting.{Sits}
use Rattle.tds_relay.proofs.spared.Held.{Seated, same_lease, seated, sits_at, sound_at}

-- ---- At the pool

-- a batch is begun, put and ended
pub cleans : (text : List ℕ) (lease : ℕ) (cleaned asked sent ended : services.Service) (before between after : List ℕ) → BeginsMessage Batch lease cleaned asked
    → DoesAt (λ (s : ClientSession). put s text) lease asked sent before between → DoesAt finished lease sent ended between after → IsPutBehind (IsBatch text) before after
cleans text lease cleaned asked sent ended before between after o p f =
    let one : p.session ≡ opened o.0 Batch = (let u : Some p.session ≡ Some (opened o.0 Batch) = sym p.moves.was ∙ o.1.is in cc) in
    let two : f.session ≡ p.next = (let u : Some f.session ≡ Some p.next = sym f.moves.was ∙ p.moves.is in cc) in
    record {
      out = p.does.0 ++ f.does.0;
      is = record {
        from = o.0;
        to = f.next;
        put = (p.does.0, f.does.0, p.next, refl, ap (λ (s : ClientSession). put s text) (sym one) ∙ p.does.1, ap finished (sym two) ∙ f.does.1);
      };
      appended = f.does.2 ∙ ap (λ (xs : List ℕ). xs ++ f.does.0) p.does.2 ∙ append_assoc before p.does.0 f.does.0;
    }

-- and it asks for the full reset
pub cleans_all : (text : List ℕ) (lease : ℕ) (cleaned asked sent ended : services.Service) (before between after : List ℕ) → (o : BeginsMessage Batch lease cleaned asked) → o.0.heard.mark ≡ Some Full
    → DoesAt (λ (s : ClientSession). put s text) lease asked sent before between → DoesAt finished lease sent ended between after → IsPutBehind (IsCleaning text) before after
cleans_all text lease cleaned asked sent ended before between after o full p f =
    let one : p.session ≡ opened o.0 Batch = (let u : Some p.session ≡ Some (opened o.0 Batch) = sym p.moves.was ∙ o.1.is in cc) in
    let two : f.session ≡ p.next = (let u : Some f.session ≡ Some p.next = sym f.moves.was ∙ p.moves.is in cc) in
    record {
      out = p.does.0 ++ f.does.0;
      is = record {
        batch = record {
          from = o.0;
          to = f.next;
          put = (p.does.0, f.does.0, p.next, refl, ap (λ (s : ClientSession). put s text) (sym one) ∙ p.does.1, ap finished (sym two) ∙ f.does.1);
        };
        full = full;
      };
      appended = f.does.2 ∙ ap (λ (xs : List ℕ). xs ++ f.does.0) p.does.2 ∙ append_assoc before p.does.0 f.does.0;
    }

-- what is underway is cancelled, and more is to come
pub cancelled : (text : List ℕ) (lease : ℕ) (old : services.Service) (before after : List ℕ) → (c : CancelsOut lease old before after) → rests_once c.0.stage ≡ false → IsPutBehind (GoesOutAtEnd text (client_of lease old)) before after
cancelled text lease old before after c works = record {
  out = cancel_out c.0.stage;
  is = record { session = c.0; was = c.1; does = subst (λ (b : Bool). CleansOnce b text (cancel_out c.0.stage) (cancel_out c.0.stage)) (sym works) refl };
  appended = c.2;
}

-- and a cleaning goes behind that
pub cancelled_cleaned : (text : List ℕ) (lease : ℕ) (old : services.Service) (before between after : List ℕ) → (c : CancelsOut lease old before between) → rests_once c.0.stage ≡ true → IsPutBehind (IsCleaning text) between after
    → IsPutBehind (GoesOutAtEnd text (client_of lease old)) before after
cancelled_cleaned text lease old before between after c rests p = record {
  out = cancel_out c.0.stage ++ p.out;
  is = record {
    session = c.0;
    was = c.1;
    does = subst (λ (b : Bool). CleansOnce b text (cancel_out c.0.stage) (cancel_out c.0.stage ++ p.out)) (sym rests) (record { out = p.out; is = p.is; appended = refl });
  };
  appended = p.appended ∙ ap (λ (xs : List ℕ). xs ++ p.out) c.2 ∙ append_assoc before (cancel_out c.0.stage) p.out;
}

pub text_is : (text : List ℕ) (client : Option ClientSession) (before after : List ℕ) → text ≡ text_of_cleaning → IsPutBehind (GoesOutAtEnd text client) before after → IsPutBehind (GoesOutAtEnd text_of_cleaning client) before after
text_is text client before after same p = subst (λ (t : List ℕ). IsPutBehind (GoesOutAtEnd t client) before after) same p

-- ---- A packet that is nobody's

pub nobodys : (lease who : Option ℕ) (holds : List Hold) (before after : List ℕ) → who ≡ whose_by lease holds → MayClean lease before after → MayClean who before after
nobodys lease who holds before after is (inl same) = inl same
nobodys lease who holds before after is (inr x) = inr (is ∙ ap (λ (o : Option ℕ). whose_by o holds) x.0, x.1)

pub ends_none : (s : services.Service) (o : Option Hold) (before after : List ℕ) → GoesOutBy s o None before after
ends_none s None before after = tt
ends_none s (Some hold) before after = tt

pub ends_some : (s : services.Service) (o : Option Hold) (h : Hold) (left : Left) (before after : List ℕ) → o ≡ Some h
    → (left.is_there ≡ true → IsPutBehind (GoesOutAtEnd text_of_cleaning (client_of h.lease s)) before after) → GoesOutBy s o (Some left) before after
ends_some s o h left before after is ends = subst (λ (p : Option Hold). GoesOutBy s p (Some left) before after) (sym is) ends

pub shut_none : (s : services.Service) (o : Option Hold) → IsShutFor s o None
shut_none s None = tt
shut_none s (Some hold) = tt

pub shut_some : (s : services.Service) (o : Option Hold) (h : Hold) (left : Left) → o ≡ Some h → (left.is_there ≡ false → IsBrokenFor (client_of h.lease s)) → IsShutFor s o (Some left)
shut_some s o h left is shut = subst (λ (p : Option Hold). IsShutFor s p (Some left)) (sym is) shut

pub not_both : {A : Type 0} (o : Option A) (x : A) → o ≡ Some x → o ≡ None → ⊥
not_both o x e f = let u : Some x ≡ None = sym e ∙ f in let v : ⊥ = cc in v

gone_by : (o : Option Link) → option_map reader_of o ≡ None → option_map bytes_on o ≡ None
gone_by None e = refl
gone_by (Some l) e = absurd (let u : ⊥ = cc in u)

pub waits_none : (number : ℕ) (ls : List Link) → reader_at number ls ≡ None → waits_on number ls ≡ None
waits_none number ls e = gone_by (link_at number ls) e

-- ---- Nobody else holds it

none_by : (number lease : ℕ) (b k : Bool) (y : Hold) (ys : List Hold) → (y.number == number) ≡ b → not (y.lease == lease) ≡ k → (y.number ≡ number → y.lease ≡ lease)
    → find_number number ys ≡ None → find_number number (if k then y ∷ ys else ys) ≡ None
none_by number lease b false y ys e f same none = none
none_by number lease false true y ys e f same none = rw e none
none_by number lease true true y ys e f same none =
    let is : (y.lease == lease) ≡ true = eq-eqb y.lease lease (same (eqb-true y.number number e)) in
    let u : false ≡ true = ap not (sym is) ∙ f in
    absurd (let v : ⊥ = cc in v)

none_left : (number lease : ℕ) (hs : List Hold) → Each (λ (y : Hold). y.number ≡ number → y.lease ≡ lease) hs → find_number number (without_lease lease hs) ≡ None
none_left number lease [] each = refl
none_left number lease (y ∷ ys) each = none_by number lease (y.number == number) (not (y.lease == lease)) y (without_lease lease ys) refl refl each.0 (none_left number lease ys each.1)

each_more : (P Q : Hold → Type 0) (hs : List Hold) → ((y : Hold) → P y → Q y) → Each P hs → Each Q hs
each_more P Q [] f h = tt
each_more P Q (y ∷ ys) f h = (f y h.0, each_more P Q ys f h.1)

leaves_none : (d : pools.Pool) (key : ℕ) (h : Hold) (client : ClientSession) → IsReached (pool_in d) → find_key key d.holds.items ≡ Some h → client_of h.lease d.service ≡ Some client
    → find_number h.number (without_lease h.lease d.holds.items) ≡ None
leaves_none d key h client reached its there =
    let at : Seated (pool_in d) h = seated d key h client (sound_at (pool_in d) reached) its there in
    none_left h.number h.lease d.holds.items
    (each_more (λ (y : Hold). Sits (pool_in d).service y) (λ (y : Hold). y.number ≡ h.number → y.lease ≡ h.lease) d.holds.items (λ y sits number. same_lease (pool_in d) h y at sits number) (sits_at (pool_in d) reached))

holds_left : (d : Pool) (key : ℕ) (gives : Bool) (way : pool.Way) (h : Hold) → find_key key d.holds ≡ Some h → (pool.leaves d key gives way (find_key key d.holds)).pool.holds ≡ without_lease h.lease d.holds
holds_left d key gives way h its = ap (λ (o : Option Hold). (pool.leaves d key gives way o).pool.holds) its

-- ---- At a relay

filled : (client : Option ClientSession) (out : List ℕ) (old now : Option (List ℕ)) → GoesOutAtEnd text_of_cleaning client out → FillsBy out old now → WaitsAtEnd client old now
filled client out old None e f = cleaning.IsShut
filled client out None (Some new) e f = absurd f
filled client out (Some waits) (Some new) e f = subst (λ (xs : List ℕ). WaitsAtEnd client (Some waits) (Some xs)) (sym f) (cleaning.HasMore waits out refl e)

-- nobody holds what was let go
left_free : (key : ℕ) (left : Left) (o : Option Hold) (gives : Bool) (way : pool.Way) (old mid : code.Relay) (d : pools.Pool) (before after : List ℕ) → o ≡ find_key key old.pool.holds.items
    → IsNumberOf o (Some left) → left.is_there ≡ true → IsReached (pool_in old.pool) → (l : Option Left) → l ≡ Some left
    → (IsReached (pool_in old.pool) → GoesOutBy old.pool.service (find_key key old.pool.holds.items) l before after)
    → Turns (pool.Leaves key gives way) (pool_in old.pool) (pool_in d) before after → mid.pool ≡ d
    → (hold : Hold) → find_key key old.pool.holds.items ≡ Some hold → (left.number ≡ hold.number) × (find_number left.number (pool_in mid.pool).holds ≡ None)
left_free key left o gives way old mid d before after same is there reached l its_left ends t at hold its =
    let here : o ≡ Some hold = same ∙ its in
    let number : left.number ≡ hold.number = subst (λ (p : Option Hold). IsNumberOf p (Some left)) here is in
    let e : IsPutBehind (GoesOutAtEnd text_of_cleaning (client_of hold.lease old.pool.service)) before after =
    subst (λ (p : Option Hold). GoesOutBy old.pool.service p (Some left) before after) its (subst (λ (y : Option Left). GoesOutBy old.pool.service (find_key key old.pool.holds.items) y before after) its_left (ends reached)) there in
    let holds : (pool_in mid.pool).holds ≡ without_lease hold.lease old.pool.holds.items =
    ap (λ (x : pools.Pool). (pool_in x).holds) at ∙ ap (λ (x : Pool). x.holds) t.pool_is ∙ holds_left (pool_in old.pool) key gives way hold its in
    (number, ap (find_number left.number) holds ∙ ap (λ (n : ℕ). find_number n (without_lease hold.lease old.pool.holds.items)) number ∙ leaves_none old.pool key hold e.is.session reached its e.is.was)

-- what goes out by it waits on the connection that was let go
pub left_by : {A E : Type 0} (r : Result A E) (key : ℕ) (left : Left) (o : Option Hold) (gives : Bool) (way : pool.Way) (old mid new : code.Relay) (d : pools.Pool) (before after outbox : List ℕ) → o ≡ find_key key old.pool.holds.items
    → IsNumberOf o (Some left) → left.is_there ≡ true → IsReached (pool_in old.pool) → before ≡ [] → (l : Option Left) → l ≡ Some left
    → (IsReached (pool_in old.pool) → GoesOutBy old.pool.service (find_key key old.pool.holds.items) l before after) → outbox ≡ after
    → Turns (pool.Leaves key gives way) (pool_in old.pool) (pool_in d) before after → mid.pool ≡ d → mid.links.items ≡ old.links.items
    → (find_number left.number (pool_in mid.pool).holds ≡ None → OnOk r (FillsBy outbox (waits_on left.number mid.links.items) (waits_on left.number new.links.items)))
    → OnOk r (OfItsHold WaitsAtEnd key old (λ (n : ℕ). waits_on n new.links.items))
left_by (Ok x) key left o gives way old mid new d before after outbox same is there reached empty l its_left ends out t at links fills = λ hold its.
    let here : o ≡ Some hold = same ∙ its in
    let number : left.number ≡ hold.number = subst (λ (p : Option Hold). IsNumberOf p (Some left)) here is in
    let e : IsPutBehind (GoesOutAtEnd text_of_cleaning (client_of hold.lease old.pool.service)) before after =
    subst (λ (p : Option Hold). GoesOutBy old.pool.service p (Some left) before after) its (subst (λ (y : Option Left). GoesOutBy old.pool.service (find_key key old.pool.holds.items) y before after) its_left (ends reached)) there in
    let client = e.is.session in
    let holds : (pool_in mid.pool).holds ≡ without_lease hold.lease old.pool.holds.items =
    ap (λ (x : pools.Pool). (pool_in x).holds) at ∙ ap (λ (x : Pool). x.holds) t.pool_is ∙ holds_left (pool_in old.pool) key gives way hold its in
    let none : find_number left.number (pool_in mid.pool).holds ≡ None =
    ap (find_number left.number) holds ∙ ap (λ (n : ℕ). find_number n (without_lease hold.lease old.pool.holds.items)) number ∙ leaves_none old.pool key hold client reached its e.is.was in
    let puts : outbox ≡ e.out = out ∙ e.appended ∙ ap (λ (xs : List ℕ). xs ++ e.out) empty in
    let f : FillsBy e.out (waits_on left.number old.links.items) (waits_on left.number new.links.items) =
    subst (λ (xs : List ℕ). FillsBy xs (waits_on left.number old.links.items) (waits_on left.number new.links.items)) puts
    (subst (λ (ls : List Link). FillsBy outbox (waits_on left.number ls) (waits_on left.number new.links.items)) links (fills none)) in
    subst (λ (n : ℕ). WaitsAtEnd (client_of hold.lease old.pool.service) (waits_on n old.links.items) (waits_on n new.links.items)) number
    (filled (client_of hold.lease old.pool.service) e.out (waits_on left.number old.links.items) (waits_on left.number new.links.items) e.is f)
left_by (Err x) key left o gives way old mid new d before after outbox same is there reached empty l its_left ends out t at links fills = tt

-- or it is closed
pub shut_by : {A E : Type 0} (r : Result A E) (key : ℕ) (left : Left) (o : Option Hold) (old new : code.Relay) → o ≡ find_key key old.pool.holds.items → IsNumberOf o (Some left)
    → OnOk r (waits_on left.number new.links.items ≡ None) → OnOk r (OfItsHold WaitsAtEnd key old (λ (n : ℕ). waits_on n new.links.items))
shut_by (Ok x) key left o old new same is gone = λ hold its.
    let number : left.number ≡ hold.number = subst (λ (p : Option Hold). IsNumberOf p (Some left)) (same ∙ its) is in
    subst (WaitsAtEnd (client_of hold.lease old.pool.service) (waits_on hold.number old.links.items)) (sym gone ∙ ap (λ (n : ℕ). waits_on n new.links.items) number) cleaning.IsShut
shut_by (Err x) key left o old new same is gone = tt

-- nobody held one
pub nobody_left : (key : ℕ) (o : Option Hold) (old new : code.Relay) → o ≡ find_key key old.pool.holds.items → IsNumberOf o None → OfItsHold WaitsAtEnd key old (λ (n : ℕ). waits_on n new.links.items)
nobody_left key o old new same is = λ hold its. absurd (subst (λ (p : Option Hold). IsNumberOf p None) (same ∙ its) is)

-- ---- How often

pub counts_none : (o : Option Hold) (p q : ℕ × ℕ) → IsNumberOf o None → q ≡ p → CountsHold o p q
counts_none None p q is e = e
counts_none (Some hold) p q is e = absurd is

pub counts_some : (o : Option Hold) (left : Left) (p q : ℕ × ℕ) → IsNumberOf o (Some left) → (q ≡ (next p.0, p.1)) ⊎ (q ≡ (p.0, next p.1)) → CountsHold o p q
counts_some None left p q is e = absurd is
counts_some (Some hold) left p q is e = e

pub counts_on : {A E : Type 0} (r : Result A E) (o : Option Hold) (p q u : ℕ × ℕ) → CountsHold o p q → u ≡ q → OnOk r (CountsHold o p u)
counts_on (Ok x) o p q u h e = subst (CountsHold o p) (sym e) h
counts_on (Err x) o p q u h e = tt

pub more_is : (p q u : ℕ × ℕ) (n : ℕ) → q ≡ p → n ≡ next q.0 → u ≡ (n, q.1) → u ≡ (next p.0, p.1)
more_is p q u n same is e =
    let one : u ≡ (next q.0, q.1) = e ∙ ap (λ (k : ℕ). (k, q.1)) is in
    one ∙ ap (λ (x : ℕ × ℕ). (next x.0, x.1)) same

pub failed_is : (p q u : ℕ × ℕ) (n : ℕ) → q ≡ p → n ≡ next q.1 → u ≡ (q.0, n) → u ≡ (p.0, next p.1)
failed_is p q u n same is e =
    let one : u ≡ (q.0, next q.1) = e ∙ ap (λ (k : ℕ). (q.0, k)) is in
    one ∙ ap (λ (x : ℕ × ℕ). (x.0, next x.1)) same

-- ---- Which of the two

-- what was put waits
pub sent_there : (Fails : Type 0) (o w : Option (List ℕ)) (out : List ℕ) (p q : ℕ × ℕ) → w ≡ option_map (λ (waits : List ℕ). waits ++ out) o → IsSome o → q ≡ (next p.0, p.1) → CountsSent Fails w p q
sent_there Fails None w out p q e there more = absurd (let u : ⊥ = cc in u)
sent_there Fails (Some waits) w out p q e there more = subst (λ (x : Option (List ℕ)). CountsSent Fails x p q) (sym e) more

pub sent_gone : (Fails : Type 0) (number : ℕ) (ls : List Link) (p q : ℕ × ℕ) → waits_on number ls ≡ None → q ≡ (p.0, next p.1) → Fails → CountsSent Fails (waits_on number ls) p q
sent_gone Fails number ls p q gone failed why = subst (λ (x : Option (List ℕ)). CountsSent Fails x p q) (sym gone) (failed, why)

-- for another reason, to which that leads
sent_for : (F G : Type 0) (w : Option (List ℕ)) (p q : ℕ × ℕ) → (F → G) → CountsSent F w p q → CountsSent G w p q
sent_for F G None p q more h = (h.0, more h.1)
sent_for F G (Some waits) p q more h = h

unfit_of : (out : List ℕ) (o : Option Link) → option_map (λ (l : Link). fits (queue_in l.out) out) o ≡ Some false → option_map (λ (p : Queue). fits p out) (option_map (λ (l : Link). queue_in l.out) o) ≡ Some false
unfit_of out None h = absurd (let u : ⊥ = cc in u)
unfit_of out (Some l) h = h

pub unfit_there : (number : ℕ) (out : List ℕ) (ls : List Link) → HasNoRoom number out ls → IsUnfit out (queue_on number ls)
unfit_there number out ls h = unfit_of out (link_at number ls) h

-- what an application held
pub counted_by : {A E : Type 0} (r : Result A E) (key : ℕ) (left : Left) (o : Option Hold) (gives : Bool) (way : pool.Way) (old mid new : code.Relay) (d : pools.Pool) (before after : List ℕ) → o ≡ find_key key old.pool.holds.items
    → IsNumberOf o (Some left) → left.is_there ≡ true → IsReached (pool_in old.pool) → (l : Option Left) → l ≡ Some left
    → (IsReached (pool_in old.pool) → GoesOutBy old.pool.service (find_key key old.pool.holds.items) l before after)
    → Turns (pool.Leaves key gives way) (pool_in old.pool) (pool_in d) before after → mid.pool ≡ d → mid.links.items ≡ old.links.items → cleaned_in mid ≡ cleaned_in old → before ≡ [] → mid.outbox.items ≡ after
    → (find_number left.number (pool_in mid.pool).holds ≡ None → IsSome (waits_on left.number mid.links.items)
    → OnOk r (CountsSent (HasNoRoom left.number mid.outbox.items mid.links.items) (waits_on left.number new.links.items) (cleaned_in mid) (cleaned_in new)))
    → OnOk r (CountsAtEnd key old new)
counted_by (Ok x) key left o gives way old mid new d before after same is there reached l its_left ends t at links figures empty out counts = λ hold its was.
    let free = left_free key left o gives way old mid d before after same is there reached l its_left ends t at hold its in
    let e : IsPutBehind (GoesOutAtEnd text_of_cleaning (client_of hold.lease old.pool.service)) before after =
    subst (λ (p : Option Hold). GoesOutBy old.pool.service p (Some left) before after) its (subst (λ (y : Option Left). GoesOutBy old.pool.service (find_key key old.pool.holds.items) y before after) its_left (ends reached)) there in
    let puts : mid.outbox.items ≡ e.out = out ∙ e.appended ∙ ap (λ (xs : List ℕ). xs ++ e.out) empty in
    let why : HasNoRoom left.number mid.outbox.items mid.links.items → CannotClean hold old = λ full.
    inr (
      e.out,
      e.is,
      unfit_there hold.number e.out old.links.items
          (subst (λ (n : ℕ). HasNoRoom n e.out old.links.items) free.0
          (subst (λ (xs : List ℕ). HasNoRoom left.number xs old.links.items) puts (subst (λ (ls : List Link). HasNoRoom left.number mid.outbox.items ls) links full))),
    ) in
    subst (λ (n : ℕ). CountsSent (CannotClean hold old) (waits_on n new.links.items) (cleaned_in old) (cleaned_in new)) free.0
    (subst (λ (p : ℕ × ℕ). CountsSent (CannotClean hold old) (waits_on left.number new.links.items) p (cleaned_in new)) figures
    (sent_for (HasNoRoom left.number mid.outbox.items mid.links.items) (CannotClean hold old) (waits_on left.number new.links.items) (cleaned_in mid) (cleaned_in new) why
    (counts free.1 (subst (λ (n : ℕ). IsSome (waits_on n mid.links.items)) (sym free.0) (subst (λ (ls : List Link). IsSome (waits_on hold.number ls)) (sym links) was)))))
counted_by (Err x) key left o gives way old mid new d before after same is there reached l its_left ends t at links figures empty out counts = tt

-- or that is there no more
pub shut_counted : {A E : Type 0} (r : Result A E) (key : ℕ) (left : Left) (o : Option Hold) (l : Option Left) (old new : code.Relay) → o ≡ find_key key old.pool.holds.items → IsNumberOf o (Some left) → cleaned_in new ≡ (old.cleanings, next old.failed)
    → OnOk r (waits_on left.number new.links.items ≡ None) → l ≡ Some left → left.is_there ≡ false → IsShutFor old.pool.service (find_key key old.pool.holds.items) l → OnOk r (CountsAtEnd key old new)
shut_counted (Ok x) key left o l old new same is failed gone its_left none shut = λ hold its was.
    let number : left.number ≡ hold.number = subst (λ (p : Option Hold). IsNumberOf p (Some left)) (same ∙ its) is in
    let broken : IsBrokenFor (client_of hold.lease old.pool.service) =
    subst (λ (p : Option Hold). IsShutFor old.pool.service p (Some left)) its (subst (λ (y : Option Left). IsShutFor old.pool.service (find_key key old.pool.holds.items) y) its_left shut) none in
    subst (λ (n : ℕ). CountsSent (CannotClean hold old) (waits_on n new.links.items) (cleaned_in old) (cleaned_in new)) number
    (sent_gone (CannotClean hold old) left.number new.links.items (cleaned_in old) (cleaned_in new) gone failed (inl broken))
shut_counted (Err x) key left o l old new same is failed gone its_left none shut = tt

pub nobody_counted : (key : ℕ) (o : Option Hold) (old new : code.Relay) → o ≡ find_key key old.pool.holds.items → IsNumberOf o None → CountsAtEnd key old new
nobody_counted key o old new same is = λ hold its was. absurd (subst (λ (p : Option Hold). IsNumberOf p None) (same ∙ its) is)

-- ---- And those who wait are served

none_on : (o p : Option (List ℕ)) → o ≡ None → FillsAt o p → p ≡ None
none_on o None e h = refl
none_on None (Some new) e h = absurd h
none_on (Some old) (Some new) e h = absurd (let u : Some old ≡ None = e in let v : ⊥ = cc in v)

gone_or : {Was : Option (List ℕ)} (Fails Lost : Type 0) (number : ℕ) (p q u : ℕ × ℕ) (ns : List Link) (w : List ℕ) → u ≡ (next p.0, p.1) → (Was ≡ None) ⊎ Lost → Was ≡ Some w → CountsSince Fails Lost number p u ns
gone_or Fails Lost number p q u ns w counts (inl none) was = absurd (let e : Some w ≡ None = sym was ∙ none in let f : ⊥ = cc in f)
gone_or Fails Lost number p q u ns w counts (inr gone) was = cleaning.IsCleaned counts (inr gone)

since_by : (Fails Lost : Type 0) (number : ℕ) (p q u : ℕ × ℕ) (ms ns : List Link) (w v : Option (List ℕ)) → waits_on number ms ≡ w → waits_on number ns ≡ v → CountsSent Fails w p q → u ≡ q
    → FillsAt (waits_on number ms) (waits_on number ns) → (waits_on number ns ≡ None → (waits_on number ms ≡ None) ⊎ Lost) → CountsSince Fails Lost number p u ns
since_by Fails Lost number p q u ms ns None v was is counts same fills lost =
    cleaning.IsFailed (same ∙ counts.0) (none_on (waits_on number ms) (waits_on number ns) was fills) counts.1
since_by Fails Lost number p q u ms ns (Some w) (Some v) was is counts same fills lost = cleaning.IsCleaned (same ∙ counts) (inl (subst IsSome (sym is) refl))
since_by Fails Lost number p q u ms ns (Some w) None was is counts same fills lost = gone_or Fails Lost number p q u ns w (same ∙ counts) (lost is) was

pub since_at : (Fails Lost : Type 0) (number : ℕ) (p q u : ℕ × ℕ) (ms ns : List Link) → CountsSent Fails (waits_on number ms) p q → u ≡ q → FillsAt (waits_on number ms) (waits_on number ns)
    → (waits_on number ns ≡ None → (waits_on number ms ≡ None) ⊎ Lost) → CountsSince Fails Lost number p u ns
since_at Fails Lost number p q u ms ns counts same fills lost = since_by Fails Lost number p q u ms ns (waits_on number ms) (waits_on number ns) refl refl counts same fills lost

-- of who waited somebody is closed, where more is gone
lost_since : (May : ℕ → Type 0) (a b c : Register) → ((key tag : ℕ) → open_name key b ≡ Some tag → open_name key a ≡ Some tag) → LastBut May b c → (number : ℕ) → waits_on number c.links ≡ None
    → (waits_on number b.links ≡ None) ⊎ HasClosed May a c
lost_since May a b c were (inl all) number e = inl (all number e)
lost_since May a b c were (inr y) number e = inr (record { key = y.key; may = y.may; tag = y.tag; was = were y.key y.tag y.was; closed = y.closed })

pub since_served : (key : ℕ) (was : Register) (old mid new : code.Relay) → IsReached (pool_in old.pool) → old.pool.service.last ≤ mid.pool.service.last → CountsAtEnd key old mid → KeepsGiven mid new → cleaned_in new ≡ cleaned_in mid → ClosesOnly NoKey was (register_in mid)
    → LastBut (IsWaiting (pool_in old.pool).line) (register_in mid) (register_in new) → CountsSinceEnd key was old new
since_served key was old mid new reached rises counts given same closes lasts = λ hold its there.
    let low : hold.number ≤ old.pool.service.last = held_low old.pool key hold reached its in
    since_at (CannotClean hold old) (LosesWaiting was old new) hold.number (cleaned_in old) (cleaned_in mid) (cleaned_in new) mid.links.items new.links.items (counts hold its there) same (given.fills hold.number (omega (arith, low, rises)))
    (lost_since (IsWaiting (pool_in old.pool).line) was (register_in mid) (register_in new) closes.were_open lasts hold.number)

pub since_served_on : {A E : Type 0} (r : Result A E) (key : ℕ) (was : Register) (old mid new : code.Relay) → IsReached (pool_in old.pool) → old.pool.service.last ≤ mid.pool.service.last → CountsAtEnd key old mid
    → OnOk r (KeepsGiven mid new) → cleaned_in new ≡ cleaned_in mid → ClosesOnly NoKey was (register_in mid) → OnOk r (LastBut (IsWaiting (pool_in old.pool).line) (register_in mid) (register_in new)) → OnOk r (CountsSinceEnd key was old new)
since_served_on (Ok x) key was old mid new reached rises counts given same closes lasts = since_served key was old mid new reached rises counts given same closes lasts
since_served_on (Err e) key was old mid new reached rises counts given same closes lasts = tt

-- ---- One was brought

-- nothing waits there, and a cleaning doesn't fit
pub too_long : (size number : ℕ) (features : Features) (l : Link) (ls ms : List Link) (before outbox : List ℕ) → ls ≡ [] → ms ≡ ls ++ l ∷ [] → l.number ≡ number → IsMade size features l → bytes_on l ≡ [] → before ≡ []
    → (p : IsPutBehind (IsCleaning text_of_cleaning) before outbox) → HasNoRoom number outbox ms → IsTooLong size
too_long size number features l ls ms before outbox empty more is made none nothing_before p full =
    let out : outbox ≡ p.out = p.appended ∙ ap (λ (xs : List ℕ). xs ++ p.out) nothing_before in
    let here : (l.number == number) ≡ true = eq-eqb l.number number is in
    let there : link_at number ms ≡ Some l = ap (link_at number) (more ∙ ap (λ (xs : List Link). xs ++ l ∷ []) empty) ∙ ap (λ (b : Bool). if b then Some l else None) here in
    let unfit : Some (fits (queue_in l.out) p.out) ≡ Some false =
    sym (ap (option_map (λ (x : Link). fits (queue_in x.out) p.out)) there) ∙ subst (λ (xs : List ℕ). HasNoRoom number xs ms) out full in
    let one : fits (queue_in l.out) p.out ≡ false = (let u : Some (fits (queue_in l.out) p.out) ≡ Some false = unfit in cc) in
    let queue : queue_in l.out ≡ empty_queue size =
    ap (λ (n : ℕ). record { tag = None; size = n; bytes = bytes_on l; is_full = l.out.is_full }) made.2
    ∙ ap (λ (xs : List ℕ). record { tag = None; size = size; bytes = xs; is_full = l.out.is_full }) none
    ∙ ap (λ (b : Bool). record { tag = None; size = size; bytes = []; is_full = b }) made.5 in
    (p.out, p.is, ap (λ (q : Queue). fits q p.out) (sym queue) ∙ one)

pub since_brought : (Fails Now : Type 0) (number : ℕ) (old mid new : code.Relay) → (Now → Fails) → CountsSent Now (waits_on number mid.links.items) (cleaned_in old) (cleaned_in mid) → FillsAt (waits_on number mid.links.items) (waits_on number new.links.items) → cleaned_in new ≡ cleaned_in mid
    → ((key tag : ℕ) → open_name key (register_in mid) ≡ Some tag → open_name key (register_in old) ≡ Some tag) → LastBut (IsWaiting (pool_in old.pool).line) (register_in mid) (register_in new)
    → CountsSince Fails (LosesWaiting (register_in old) old new) number (cleaned_in old) (cleaned_in new) new.links.items
since_brought Fails Now number old mid new why counts fills same were lasts =
    since_at Fails (LosesWaiting (register_in old) old new) number (cleaned_in old) (cleaned_in mid) (cleaned_in new) mid.links.items new.links.items
    (sent_for Now Fails (waits_on number mid.links.items) (cleaned_in old) (cleaned_in mid) why counts) same fills
    (lost_since (IsWaiting (pool_in old.pool).line) (register_in old) (register_in mid) (register_in new) were lasts number)
