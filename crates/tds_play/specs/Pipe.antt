-- What a carrier was handed on a connection, what came of it, and what failed.
use Rattle.std.specs.Prelude.{ℕ, suc, ◌+◌, ◌<◌, ◌≡◌, ◌≢◌, List, [], ◌∷◌, ◌++◌, length, take, drop, Option, Some, None, Bool, true, false}
use Rattle.tds_packet.specs.declared.kind.Direction.{Direction}
use Rattle.tds_packet.specs.declared.kind.Direction.TheVariants.{ToServer, ToClient}

-- One direction of a connection.
pub record Traffic : Type 0 where
  pub handed : List ℕ  -- the bytes that were handed over, in order
  pub came : List ℕ  -- the bytes that came out
  pub send_failures : ℕ
  pub carry_failures : ℕ

-- A connection.
pub record Pipe : Type 0 where
  pub to_server : Traffic
  pub to_client : Traffic
  pub open_failures : ℕ
  pub is_cut : Bool

-- An event of which a carrier was told: its number, and what there was of each connection then. What is said of
-- these is said where the carrier is told at all.
pub record BegunEvent : Type 0 where
  pub event : ℕ
  pub pipes : ℕ → Option Pipe

-- What there was of each connection when the newest of these events began: nothing, where none did.
abbrev pub newest_of : (ℕ → Option Pipe) → List BegunEvent → ℕ → Option Pipe
newest_of pipes [] = pipes
newest_of pipes (b ∷ bs) = newest_of b.pipes bs

abbrev pub since : List BegunEvent → ℕ → Option Pipe
since began = newest_of (λ n. None) began

abbrev pub no_traffic : Traffic
no_traffic = record { handed = []; came = []; send_failures = 0; carry_failures = 0 }

-- A connection that was opened now, after so many failures to do so.
abbrev pub new_pipe : ℕ → Pipe
new_pipe failures = record {
  to_server = no_traffic;
  to_client = no_traffic;
  open_failures = failures;
  is_cut = false;
}

abbrev pub traffic_of : Pipe → Direction → Traffic
traffic_of p ToServer = p.to_server
traffic_of p ToClient = p.to_client

abbrev pub with_traffic : Pipe → Direction → Traffic → Pipe
with_traffic p ToServer t = record p { to_server = t }
with_traffic p ToClient t = record p { to_client = t }

-- One direction of a connection that may be unknown.
abbrev pub traffic : Option Pipe → Direction → Traffic
traffic None d = no_traffic
traffic (Some p) d = traffic_of p d

abbrev pub with_traffic_in : Option Pipe → Direction → Traffic → Option Pipe
with_traffic_in None d t = None
with_traffic_in (Some p) d t = Some (with_traffic p d t)

-- Whether it is known, and cut.
abbrev pub is_cut_at : Option Pipe → Bool
is_cut_at None = false
is_cut_at (Some p) = p.is_cut

-- It is known, and isn't cut.
abbrev pub IsUncut : Option Pipe → Type 0
IsUncut None = ⊥
IsUncut (Some p) = p.is_cut ≡ false

-- It was opened without a failure, and isn't cut.
abbrev pub IsOpen : Option Pipe → Type 0
IsOpen None = ⊥
IsOpen (Some p) = (p.is_cut ≡ false) × (p.open_failures ≡ 0)

-- Since an event began no bytes were handed over on a connection, and no call of `send` ever failed there: what
-- each call of `send` needs. So an event hands a connection all its bytes by one call.
pub record MaySend (is_told : Bool) (before now : Option Pipe) : Type 0 where
  pub first : is_told ≡ true → (d : Direction) → (traffic now d).handed ≡ (traffic before d).handed
  pub unfailed : (d : Direction) → (traffic now d).send_failures ≡ 0

-- The same, and no call of `carry` ever failed there: what each call of `carry` needs. So it comes before the
-- event's bytes are handed over, and after a failure there is none.
pub record MayCarry (is_told : Bool) (before now : Option Pipe) : Type 0 where
  pub sends : MaySend is_told before now
  pub unfailed : (d : Direction) → (traffic now d).carry_failures ≡ 0

-- These bytes were handed over, with so many failures.
abbrev pub sent : Traffic → List ℕ → ℕ → Traffic
sent t bytes failures = record t {
  handed = t.handed ++ bytes;
  send_failures = t.send_failures + failures;
}

abbrev pub sent_on : Option Pipe → Direction → List ℕ → ℕ → Option Pipe
sent_on p d bytes failures = with_traffic_in p d (sent (traffic p d) bytes failures)

-- These bytes came out.
abbrev pub carried : Traffic → List ℕ → Traffic
carried t bytes = record t { came = t.came ++ bytes }

abbrev pub carried_on : Option Pipe → Direction → List ℕ → Option Pipe
carried_on p d bytes = with_traffic_in p d (carried (traffic p d) bytes)

-- Nothing came out, and that is a failure.
abbrev pub stuck_on : Option Pipe → Direction → Option Pipe
stuck_on p d = with_traffic_in p d (record (traffic p d) {
  carry_failures = (traffic p d).carry_failures + 1;
})

abbrev pub cut_pipe : Option Pipe → Option Pipe
cut_pipe None = None
cut_pipe (Some p) = Some (record p { is_cut = true })

-- Each way, what came out is the first of what was handed over.
abbrev pub IsFaithful : Option Pipe → Type 0
IsFaithful p = (d : Direction) → (traffic p d).came ≡ take (length (traffic p d).came) (traffic p d).handed

abbrev pub AreFaithful : (ℕ → Option Pipe) → Type 0
AreFaithful pipes = (n : ℕ) → IsFaithful (pipes n)

-- So it is on each of the first so many connections, which are numbered from 1.
abbrev pub AreFaithfulTo : ℕ → (ℕ → Option Pipe) → Type 0
AreFaithfulTo count pipes = (place : ℕ) → place < count → IsFaithful (pipes (suc place))

-- Every connection but this one is as it was.
abbrev pub AreSame : (ℕ → Option Pipe) → (ℕ → Option Pipe) → ℕ → Type 0
AreSame old new conn = (other : ℕ) → other ≢ conn → new other ≡ old other

-- None of the first so many connections has this number.
abbrev pub IsBeyond : ℕ → ℕ → Type 0
IsBeyond count n = (place : ℕ) → place < count → n ≢ suc place

-- No connection changes but the first so many.
abbrev pub AreSameBeyond : ℕ → (ℕ → Option Pipe) → (ℕ → Option Pipe) → Type 0
AreSameBeyond count old new = (n : ℕ) → IsBeyond count n → new n ≡ old n

-- One connection changes, and no other.
pub record Changes (old new : ℕ → Option Pipe) (conn : ℕ) (pipe : Option Pipe) : Type 0 where
  pub here : new conn ≡ pipe
  pub others : AreSame old new conn

-- The next so many of the bytes that were handed over.
abbrev pub next_of : Traffic → ℕ → List ℕ
next_of t n = take n (drop (length t.came) t.handed)

-- These came out, and nothing else changed; where it failed then, that is one more failure.
abbrev pub brought_on : Option Pipe → Direction → List ℕ → Bool → Option Pipe
brought_on p d bytes false = carried_on p d bytes
brought_on p d bytes true = stuck_on (carried_on p d bytes) d

-- The next so many bytes came out, and were appended.
pub record Brings (old : Option Pipe) (d : Direction) (n : ℕ) (before after : List ℕ) (new : Option Pipe)
    (failed : Bool) : Type 0 where
  pub bytes : after ≡ before ++ next_of (traffic old d) n
  pub pipe : new ≡ brought_on old d (next_of (traffic old d) n) failed
