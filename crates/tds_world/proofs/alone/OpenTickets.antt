-- A ticket keeps a transaction: no ticket has descriptor 0, and each lease that came from a ticket came
-- from one that was given.
use Rattle.std.proofs.Common.{◌≡◌, ◌-◌, ℕ, zero, suc, List, [], ◌∷◌, ◌++◌, map, Bool, true, false, cond, eqb, refl, sym, subst, ◌∙◌, Option, Some, None}
use Rattle.std.specs.List.{AllByRecursion}
use Rattle.std.specs.Prelude.{slice_get, ◌==◌, ◌||◌}
use Rattle.tds_request.specs.declared.request.Request.{Request}
use Rattle.tds_session.specs.Answer.{Answers}
use Rattle.tds_world.specs.declared.event.Event.{Event}
use Rattle.tds_world.specs.declared.event.Event.TheVariants as event
use Rattle.tds_world.specs.declared.event.Setup.{Setup}
use Rattle.tds_world.specs.declared.outcome.Refusal.TheVariants as refusal
use Rattle.tds_world.specs.Cleaning.{can_clean}
use Rattle.tds_world.specs.Connection.{Connection, Standing, In, Cut, phase, is_idle, is_cut}
use Rattle.tds_world.specs.Events.{about, acts, asks_by, cleans_by, sends_in, settles, happens_at, happens, world_after}
use Rattle.tds_world.specs.Phase.{Phase, Asked, Sending}
use Rattle.tds_world.specs.Pool.{is_free, gives_back_at, abandons_at, keeps_by, is_full}
use Rattle.tds_world.specs.Record.{Record}
use Rattle.tds_world.specs.World.{World, new_world, Holding, Found, Missing, Here, Opens, numbered, next_number, holding_ended, ended_at, ended_numbered, held, not_cut, by_ticket, put_numbered}
use Rattle.tds_world.proofs.events.Adds.{Extends, notes_add, restart_adds}
use Rattle.tds_world.proofs.events.Happens.{happens_cases}
use Rattle.tds_world.proofs.requests.Ready.{OfTicket, ticket_grows}

-- A descriptor of a transaction.
abbrev pub IsOne : ℕ → Type 0
IsOne d = eqb d 0 ≡ false

abbrev AreOpen : List Holding → Type 0
AreOpen ts = AllByRecursion (λ (h : Holding). IsOne h.descriptor) ts

abbrev pub FromOpen : List Holding → Option ℕ → Type 0
FromOpen ts None = Unit {0}
FromOpen ts (Some t) = OfTicket IsOne (numbered ts t)

abbrev pub AllFrom : List Holding → List Holding → Type 0
AllFrom ts hs = AllByRecursion (λ (h : Holding). FromOpen ts h.resumed) hs

pub record OpenTickets (ts hs : List Holding) : Type 0 where
  pub tickets : AreOpen ts
  pub leases : AllFrom ts hs

-- ---- Lists

and_last : (P : Holding → Type 0) (hs : List Holding) (x : Holding) → AllByRecursion P hs → P x → AllByRecursion P (hs ++ x ∷ [])
and_last P [] x h k = (k, tt)
and_last P (y ∷ ys) x h k = (h.0, and_last P ys x h.1 k)

ended_all_at : (P : Holding → Type 0) (n : ℕ) (hs : List Holding) → ((h : Holding) → P h → P (holding_ended h)) → AllByRecursion P hs → AllByRecursion P (ended_at n hs)
ended_all_at P n [] f h = tt
ended_all_at P zero (y ∷ ys) f h = (f y h.0, h.1)
ended_all_at P (suc n) (y ∷ ys) f h = (h.0, ended_all_at P n ys f h.1)

ended_all : (P : Holding → Type 0) (n : ℕ) (hs : List Holding) → ((h : Holding) → P h → P (holding_ended h)) → AllByRecursion P hs → AllByRecursion P (ended_numbered n hs)
ended_all P zero hs f h = h
ended_all P (suc n) hs f h = ended_all_at P n hs f h

map_all : (P : Holding → Type 0) (hs : List Holding) → ((h : Holding) → P h → P (holding_ended h)) → AllByRecursion P hs → AllByRecursion P (map holding_ended hs)
map_all P [] f h = tt
map_all P (y ∷ ys) f h = (f y h.0, map_all P ys f h.1)

from_grows : (ts us : List Holding) (o : Option ℕ) → Extends ts us → FromOpen ts o → FromOpen us o
from_grows ts us None e h = tt
from_grows ts us (Some t) e h = ticket_grows IsOne ts us t e h

all_from_grow : (ts us hs : List Holding) → Extends ts us → AllFrom ts hs → AllFrom us hs
all_from_grow ts us [] e h = tt
all_from_grow ts us (x ∷ xs) e h = (from_grows ts us x.resumed e h.0, all_from_grow ts us xs e h.1)

open_at : (ts : List Holding) (k : ℕ) (h : Holding) → AreOpen ts → slice_get ts k ≡ Some h → IsOne h.descriptor
open_at [] k h o e = absurd (cc)
open_at (t ∷ ts) zero h o e = let same : t ≡ h = cc in subst (λ (x : Holding). IsOne x.descriptor) same o.0
open_at (t ∷ ts) (suc k) h o e = open_at ts k h o.1 e

open_numbered : (ts : List Holding) (t : ℕ) (o : Option Holding) → AreOpen ts → numbered ts t ≡ o → ((h : Holding) → o ≡ Some h → OfTicket IsOne o)
open_numbered ts zero o a e h i = let z : None ≡ Some h = e ∙ i in absurd (cc)
open_numbered ts (suc k) o a e h i = subst (OfTicket IsOne) (sym i) (open_at ts k h a (e ∙ i))

-- ---- One event

abbrev IsOpenIn : World → Type 0
IsOpenIn w = OpenTickets w.tickets w.leases

-- The ticket that is resumed was given.
given_by : (w : World) (n : ℕ) (c : Connection) (o : Option Holding) → held w refusal.UnknownTicket o ≡ Here n c → (h : Holding) × (o ≡ Some h)
given_by w n c None e = absurd (cc)
given_by w n c (Some h) e = (h, refl)

whole_is : (b : Bool) (n m : ℕ) (c d : Connection) → cond b (Missing refusal.ConnectionCut) (Here m d) ≡ Here n c → Here m d ≡ Here n c
whole_is true n m c d e = absurd (cc)
whole_is false n m c d e = e

not_cut_is : (f : Found) (n : ℕ) (c : Connection) → not_cut f ≡ Here n c → f ≡ Here n c
not_cut_is (Missing why) n c e = absurd (cc)
not_cut_is (Here m d) n c e = whole_is (is_cut d.standing) n m c d e
not_cut_is (Opens m) n c e = absurd (cc)

resumed_open : (w : World) (t n : ℕ) (c : Connection) → IsOpenIn w → not_cut (by_ticket w t) ≡ Here n c → OfTicket IsOne (numbered w.tickets t)
resumed_open w t n c a e =
    let g = given_by w n c (numbered w.tickets t) (not_cut_is (by_ticket w t) n c e) in
    open_numbered w.tickets t (numbered w.tickets t) a.tickets refl g.0 g.1

ends_lease : (w : World) (l : ℕ) → IsOpenIn w → OpenTickets w.tickets (ended_numbered l w.leases)
ends_lease w l a = record { tickets = a.tickets; leases = ended_all (λ (h : Holding). FromOpen w.tickets h.resumed) l w.leases (λ h x. x) a.leases }

back : (l n : ℕ) (w : World) (s : Standing) (c : Connection) → IsOpenIn w → IsOpenIn (settles (event.GiveBack l) n w (gives_back_at s c)).1
back l n w (In p) c a = ends_lease w l a
back l n w Cut c a = ends_lease w l a

ends_ticket : (w : World) (t n : ℕ) (c : Connection) → IsOpenIn w → OpenTickets (ended_numbered t w.tickets) w.leases
ends_ticket w t n c a = record {
  tickets = ended_all (λ (h : Holding). IsOne h.descriptor) t w.tickets (λ h x. x) a.tickets;
  leases = all_from_grow w.tickets (ended_numbered t w.tickets) w.leases (notes_add (event.Abandon t) n c.heard w (put_numbered n c w.connections)).tickets a.leases;
}

abandoned : (t n : ℕ) (w : World) (s : Standing) (c : Connection) → IsOpenIn w → IsOpenIn (settles (event.Abandon t) n w (abandons_at s c)).1
abandoned t n w (In p) c a = ends_ticket w t n c a
abandoned t n w Cut c a = ends_ticket w t n c a

not_zero : (a b : Bool) → (a || b) ≡ false → a ≡ false
not_zero true b e = absurd (cc)
not_zero false b e = refl

kept : (l n : ℕ) (w : World) (idle nothing : Bool) (ticket : ℕ) (c : Connection) → (c.heard == 0 || is_full c.mark) ≡ nothing → IsOpenIn w → IsOpenIn (settles (event.Keep l) n w (keeps_by idle nothing ticket c)).1
kept l n w false nothing ticket c e a = a
kept l n w true true ticket c e a = a
kept l n w true false ticket c e a = record {
  tickets = and_last (λ (h : Holding). IsOne h.descriptor) w.tickets _ a.tickets (not_zero (eqb c.heard 0) (is_full c.mark) e);
  leases = all_from_grow w.tickets _ (ended_numbered l w.leases) (notes_add (event.Keep l) n c.heard w (put_numbered n c w.connections)).tickets (ends_lease w l a).leases;
}

asked : (l n : ℕ) (w : World) (b : Bool) (number : ℕ) (q : Request) (c : Connection) → IsOpenIn w → IsOpenIn (settles (event.Ask l q) n w (asks_by b number l n q c)).1
asked l n w true number q c a = a
asked l n w false number q c a = a

sent : (l n : ℕ) (w : World) (p : Phase) (room : ℕ) (current : Option Record) (c : Connection) → IsOpenIn w → IsOpenIn (settles (event.Send l) n w (sends_in p room current c)).1
sent l n w Asked room None c a = a
sent l n w Sending room None c a = a
sent l n w p room current c a = a

cleaned : (k n : ℕ) (w : World) (free can : Bool) (room lease number : ℕ) (c : Connection) → IsOpenIn w → IsOpenIn (settles (event.Clean k) n w (cleans_by free can room lease number n c)).1
cleaned k n w false can room lease number c a = a
cleaned k n w true false room lease number c a = a
cleaned k n w true true room lease number c a = record { tickets = a.tickets; leases = and_last (λ (h : Holding). FromOpen w.tickets h.resumed) w.leases _ a.leases tt }

acted : (setup : Setup) (answers : Answers) (w : World) (e : Event) (n : ℕ) (c : Connection) → about setup w e ≡ Here n c → IsOpenIn w → IsOpenIn (settles e n w (acts setup answers w e n c)).1
acted setup answers w event.Lease n c i a = record { tickets = a.tickets; leases = and_last (λ (h : Holding). FromOpen w.tickets h.resumed) w.leases _ a.leases tt }
acted setup answers w (event.Resume t) n c i a =
    let ended_one = ends_ticket w t n c a in
    record {
      tickets = ended_one.tickets;
      leases = and_last (λ (h : Holding). FromOpen (ended_numbered t w.tickets) h.resumed) w.leases _ ended_one.leases
          (ticket_grows IsOne w.tickets (ended_numbered t w.tickets) t (notes_add (event.Abandon t) n c.heard w (put_numbered n c w.connections)).tickets (resumed_open w t n c a i));
    }
acted setup answers w (event.GiveBack l) n c i a = back l n w c.standing c a
acted setup answers w (event.Keep l) n c i a = kept l n w (is_idle c) (c.heard == 0 || is_full c.mark) (next_number w.tickets) c refl a
acted setup answers w (event.Abandon t) n c i a = abandoned t n w c.standing c a
acted setup answers w (event.Clean k) n c i a =
    cleaned k n w (is_free c.standing) (can_clean (setup.packet_size - 8) (next_number w.leases) (next_number w.asked_on) n c) (setup.packet_size - 8) (next_number w.leases) (next_number w.asked_on) c a
acted setup answers w (event.Ask l q) n c i a = asked l n w (is_idle c) (next_number w.asked_on) q c a
acted setup answers w (event.Send l) n c i a = sent l n w (phase c) (setup.packet_size - 8) c.current c a
acted setup answers w e n c i a = a

found : (setup : Setup) (answers : Answers) (e : Event) (w : World) (f : Found) → about setup w e ≡ f → IsOpenIn w → IsOpenIn (happens_at setup answers e w f).1
found setup answers e w (Missing why) i a = a
found setup answers e w (Here n c) i a = acted setup answers w e n c i a
found setup answers e w (Opens n) i a = record { tickets = a.tickets; leases = and_last (λ (h : Holding). FromOpen w.tickets h.resumed) w.leases _ a.leases tt }

happens_open : (setup : Setup) (answers : Answers) (e : Event) (w : World) → IsOpenIn w → IsOpenIn (happens setup answers e w).1
happens_open setup answers e w a =
    happens_cases setup answers w (λ e r. IsOpenIn r.1) a
    (record {
      tickets = map_all (λ (h : Holding). IsOne h.descriptor) w.tickets (λ h x. x) a.tickets;
      leases = all_from_grow w.tickets (map holding_ended w.tickets) (map holding_ended w.leases) (restart_adds w).tickets (map_all (λ (h : Holding). FromOpen w.tickets h.resumed) w.leases (λ h x. x) a.leases);
    })
    (λ e. found setup answers e w (about setup w e) refl a) e

after_open : (setup : Setup) (answers : Answers) (events : List Event) (w : World) → IsOpenIn w → IsOpenIn (world_after setup answers events w)
after_open setup answers [] w a = a
after_open setup answers (e ∷ es) w a = after_open setup answers es (happens setup answers e w).1 (happens_open setup answers e w a)

from_at : (ts hs : List Holding) (k : ℕ) (h : Holding) → AllFrom ts hs → slice_get hs k ≡ Some h → FromOpen ts h.resumed
from_at ts [] k h a e = absurd (cc)
from_at ts (x ∷ xs) zero h a e = let same : x ≡ h = cc in subst (λ (y : Holding). FromOpen ts y.resumed) same a.0
from_at ts (x ∷ xs) (suc k) h a e = from_at ts xs k h a.1 e

-- Each lease that came from a ticket came from one of a transaction.
pub from_open : (setup : Setup) (answers : Answers) (events : List Event) (l : ℕ) (h : Holding) → let w : World = world_after setup answers events new_world in numbered w.leases l ≡ Some h → FromOpen w.tickets h.resumed
from_open setup answers events zero h e = absurd (cc)
from_open setup answers events (suc k) h e =
    let w : World = world_after setup answers events new_world in
    from_at w.tickets w.leases k h (after_open setup answers events new_world (record { tickets = tt; leases = tt })).leases e
