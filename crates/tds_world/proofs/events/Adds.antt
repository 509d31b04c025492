-- What the world notes is never forgotten: a lease keeps the ticket that it came from, a ticket its
-- descriptor, and numbers only grow.
use Rattle.std.proofs.Common.{◌≡◌, ◌≤◌, ℕ, zero, suc, List, [], ◌∷◌, ◌++◌, map, length, refl, ap, subst, sym, Option, Some, None, arith}
use Rattle.std.proofs.lemmas.List.{length-append}
use Rattle.tds_world.specs.declared.event.Event.{Event}
use Rattle.tds_world.specs.declared.event.Event.TheVariants as event
use Rattle.tds_world.specs.Connection.{Connection, cut}
use Rattle.tds_world.specs.Events.{notes}
use Rattle.tds_world.specs.World.{World, Holding, next_number, numbered, holding_ended, ended_at, ended_numbered, holding}

-- A lease or ticket that was given so, and may have ended since.
abbrev pub GivenAs : Holding → Option Holding → Type 0
GivenAs h None = ⊥
GivenAs h (Some k) = (k.resumed ≡ h.resumed) × (k.descriptor ≡ h.descriptor)

-- Each one of a list is in the other, as it was given.
abbrev pub Extends : List Holding → List Holding → Type 0
Extends hs ks = (l : ℕ) (h : Holding) → numbered hs l ≡ Some h → GivenAs h (numbered ks l)

-- What the one world knows, the other knows too.
pub record Adds (w v : World) : Type 0 where
  pub leases : Extends w.leases v.leases
  pub tickets : Extends w.tickets v.tickets
  pub asked : length w.asked_on ≤ length v.asked_on

given_same : (o : Option Holding) (h : Holding) → o ≡ Some h → GivenAs h o
given_same o h e = subst (GivenAs h) (sym e) (refl, refl)

extends_same : (hs : List Holding) → Extends hs hs
extends_same hs l h e = given_same (numbered hs l) h e

extends_more : (hs ks : List Holding) → Extends hs (hs ++ ks)
extends_more hs ks zero h e = absurd (cc)
extends_more [] ks (suc l) h e = absurd (cc)
extends_more (x ∷ xs) ks (suc zero) h e = given_same (Some x) h e
extends_more (x ∷ xs) ks (suc (suc l)) h e = extends_more xs ks (suc l) h e

extends_ended_at : (n : ℕ) (hs : List Holding) (l : ℕ) (h : Holding) → numbered hs (suc l) ≡ Some h → GivenAs h (numbered (ended_at n hs) (suc l))
extends_ended_at n [] l h e = absurd (cc)
extends_ended_at zero (x ∷ xs) zero h e = given_same (Some x) h e
extends_ended_at zero (x ∷ xs) (suc l) h e = extends_same xs (suc l) h e
extends_ended_at (suc n) (x ∷ xs) zero h e = given_same (Some x) h e
extends_ended_at (suc n) (x ∷ xs) (suc l) h e = extends_ended_at n xs l h e

extends_ended : (n : ℕ) (hs : List Holding) → Extends hs (ended_numbered n hs)
extends_ended zero hs l h e = extends_same hs l h e
extends_ended (suc n) hs zero h e = absurd (cc)
extends_ended (suc n) hs (suc l) h e = extends_ended_at n hs l h e

extends_all_ended : (hs : List Holding) → Extends hs (map holding_ended hs)
extends_all_ended hs zero h e = absurd (cc)
extends_all_ended [] (suc l) h e = absurd (cc)
extends_all_ended (x ∷ xs) (suc zero) h e = given_same (Some x) h e
extends_all_ended (x ∷ xs) (suc (suc l)) h e = extends_all_ended xs (suc l) h e

more_asked : (ns : List ℕ) (n : ℕ) → length ns ≤ length (ns ++ n ∷ [])
more_asked ns n = rw (length-append ns (n ∷ [])) (omega arith)

same_asked : (n : ℕ) → n ≤ n
same_asked n = omega arith

-- Connections apart, the same is known.
pub adds_same : (w : World) (cs : List Connection) → Adds w (record w { connections = cs })
adds_same w cs = record {
  leases = extends_same w.leases;
  tickets = extends_same w.tickets;
  asked = same_asked (length w.asked_on);
}

-- What is noted of an event.
pub notes_add : (e : Event) (n heard : ℕ) (w : World) (cs : List Connection) → Adds w (notes e n heard (record w { connections = cs }))
notes_add event.Lease n heard w cs = record {
  leases = extends_more w.leases (holding n heard None ∷ []);
  tickets = extends_same w.tickets;
  asked = same_asked (length w.asked_on);
}
notes_add (event.Resume t) n heard w cs = record {
  leases = extends_more w.leases (holding n heard (Some t) ∷ []);
  tickets = extends_ended t w.tickets;
  asked = same_asked (length w.asked_on);
}
notes_add (event.GiveBack l) n heard w cs = record {
  leases = extends_ended l w.leases;
  tickets = extends_same w.tickets;
  asked = same_asked (length w.asked_on);
}
notes_add (event.Keep l) n heard w cs = record {
  leases = extends_ended l w.leases;
  tickets = extends_more w.tickets (holding n heard None ∷ []);
  asked = same_asked (length w.asked_on);
}
notes_add (event.Abandon t) n heard w cs = record {
  leases = extends_same w.leases;
  tickets = extends_ended t w.tickets;
  asked = same_asked (length w.asked_on);
}
notes_add (event.Clean k) n heard w cs = record {
  leases = extends_more w.leases (holding_ended (holding n heard None) ∷ []);
  tickets = extends_same w.tickets;
  asked = more_asked w.asked_on n;
}
notes_add (event.Ask l q) n heard w cs = record {
  leases = extends_same w.leases;
  tickets = extends_same w.tickets;
  asked = more_asked w.asked_on n;
}
notes_add (event.Send l) n heard w cs = adds_same w cs
notes_add e n heard w cs = adds_same w cs

-- A restart of the client ends all leases and tickets.
pub restart_adds : (w : World) → Adds w (record w {
  connections = map cut w.connections;
  leases = map holding_ended w.leases;
  tickets = map holding_ended w.tickets;
})
restart_adds w = record {
  leases = extends_all_ended w.leases;
  tickets = extends_all_ended w.tickets;
  asked = same_asked (length w.asked_on);
}

last_ended : (xs : List Holding) (h : Holding) → ended_numbered (next_number xs) (xs ++ h ∷ []) ≡ xs ++ holding_ended h ∷ []
last_ended [] h = refl
last_ended (x ∷ xs) h = ap (λ ys. x ∷ ys) (last_ended xs h)

-- What is noted of a cleaning is what is noted of the four moves.
pub cleaning_adds : (n heard : ℕ) (w : World) (cs ds : List Connection) → Adds (record w { connections = cs; leases = ended_numbered (next_number w.leases) (w.leases ++ holding n heard None ∷ []); asked_on = w.asked_on ++ n ∷ [] }) (record w { connections = ds; leases = w.leases ++ holding_ended (holding n heard None) ∷ []; asked_on = w.asked_on ++ n ∷ [] })
cleaning_adds n heard w cs ds = record {
  leases = subst (λ hs. Extends hs (w.leases ++ holding_ended (holding n heard None) ∷ [])) (sym (last_ended w.leases (holding n heard None))) (extends_same (w.leases ++ holding_ended (holding n heard None) ∷ []));
  tickets = extends_same w.tickets;
  asked = omega arith;
}
