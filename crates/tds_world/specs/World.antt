-- The world: connections, leases and tickets, each numbered from 1, and where each request was
-- asked.
use Rattle.std.specs.Prelude.{ℕ, zero, suc, List, [], ◌∷◌, length, Bool, true, false, if◌then◌else◌, Option, Some, None, slice_get}
use Rattle.tds_world.specs.declared.outcome.Refusal.{Refusal}
use Rattle.tds_world.specs.declared.outcome.Refusal.TheVariants as refusal
use Rattle.tds_world.specs.Connection.{Connection, is_cut}

-- A lease or a ticket.
pub record Holding : Type 0 where
  pub conn : ℕ
  pub over : Bool  -- it ended
  pub resumed : Option ℕ  -- of a lease: the ticket that it came from
  pub descriptor : ℕ  -- that the connection's client had heard when it was given

-- All that the model knows.
pub record World : Type 0 where
  pub connections : List Connection
  pub leases : List Holding
  pub tickets : List Holding
  pub asked_on : List ℕ  -- the connection of each request

-- The world before any event.
abbrev pub new_world : World
new_world = record { connections = []; leases = []; tickets = []; asked_on = [] }

-- What stands at a number, counted from 1.
abbrev pub numbered : {A : Type 0} → List A → ℕ → Option A
numbered xs zero = None
numbered xs (suc n) = slice_get xs n

-- The number that the next one gets.
abbrev pub next_number : {A : Type 0} → List A → ℕ
next_number xs = suc (length xs)

-- The list with x at this place, counted from 0, or behind all where there is none.
abbrev pub put : {A : Type 0} → ℕ → A → List A → List A
put n x [] = x ∷ []
put zero x (y ∷ ys) = x ∷ ys
put (suc n) x (y ∷ ys) = y ∷ put n x ys

-- The list with x at this number, counted from 1.
abbrev pub put_numbered : {A : Type 0} → ℕ → A → List A → List A
put_numbered zero x xs = xs
put_numbered (suc n) x xs = put n x xs

-- A lease or ticket that is given now, on connection n, which has heard this, from this ticket.
abbrev pub holding : ℕ → ℕ → Option ℕ → Holding
holding n heard ticket = record { conn = n; over = false; resumed = ticket; descriptor = heard }

-- A lease or ticket that ended.
abbrev pub holding_ended : Holding → Holding
holding_ended h = record h { over = true }

abbrev pub ended_at : ℕ → List Holding → List Holding
ended_at n [] = []
ended_at zero (h ∷ hs) = holding_ended h ∷ hs
ended_at (suc n) (h ∷ hs) = h ∷ ended_at n hs

-- The list with the lease or ticket of this number ended.
abbrev pub ended_numbered : ℕ → List Holding → List Holding
ended_numbered zero hs = hs
ended_numbered (suc n) hs = ended_at n hs

-- The connection that an event is about: there is none, and the event is refused; it is there, with
-- its number; or it is a new one, which gets this number.
pub data Found : Type 0 where
  Missing : (refusal : Refusal) → Found
  Here : (conn : ℕ) (connection : Connection) → Found
  Opens : (conn : ℕ) → Found

-- A connection that must not be cut.
abbrev pub uncut : Refusal → ℕ → Connection → Found
uncut why n c = if is_cut c.standing then Missing why else Here n c

abbrev pub uncut_in : Refusal → ℕ → Option Connection → Found
uncut_in why n None = Missing why
uncut_in why n (Some c) = uncut why n c

-- By its own number. One that was cut is unknown.
abbrev pub by_number : World → ℕ → Found
by_number w n = uncut_in refusal.UnknownConnection n (numbered w.connections n)

-- A connection that must be there.
abbrev pub there : Refusal → ℕ → Option Connection → Found
there why n None = Missing why
there why n (Some c) = Here n c

-- By a lease or ticket that has not ended. The connection may be cut.
abbrev pub held : World → Refusal → Option Holding → Found
held w why None = Missing why
held w why (Some h) =
    if h.over then Missing why else there why h.conn (numbered w.connections h.conn)

abbrev pub by_lease : World → ℕ → Found
by_lease w lease = held w refusal.UnknownLease (numbered w.leases lease)

abbrev pub by_ticket : World → ℕ → Found
by_ticket w ticket = held w refusal.UnknownTicket (numbered w.tickets ticket)

-- What was found, unless it is cut.
abbrev pub not_cut : Found → Found
not_cut (Missing why) = Missing why
not_cut (Here n c) = uncut refusal.ConnectionCut n c
not_cut (Opens n) = Opens n
