-- A connection that is lent, kept or given up, in a play and in the model.
use Rattle.std.specs.Prelude.{◌==◌, ◌||◌, is_none}
use Rattle.std.proofs.Common.{◌≡◌, ◌∙◌, ℕ, Bool, true, false, refl, ap, Option, Some, None}
use Rattle.tds_client.specs.Session.{ClientSession, marked, unless_idle}
use Rattle.tds_packet.specs.declared.status.Reset.{Reset}
use Rattle.tds_packet.specs.Resets.{strongest}
use Rattle.tds_world.specs.declared.outcome.Outcome.TheVariants.{Kept, Refused}
use Rattle.tds_world.specs.declared.outcome.Refusal.{Refusal}
use Rattle.tds_world.specs.declared.outcome.Refusal.TheVariants.{NotIdle, NothingToKeep}
use Rattle.tds_world.specs.declared.report.Place.{Place}
use Rattle.tds_world.specs.declared.report.Place.TheVariants as place
use Rattle.tds_world.specs.Connection.{Connection, Standing, In, is_idle, phase}
use Rattle.tds_world.specs.Phase.{Phase, Settled, is_settled}
use Rattle.tds_world.specs.Pool.{Acted, is_full, keeps, keeps_by}
use Rattle.tds_play.specs.Lending.{standing_by}
use Rattle.tds_play.specs.Seats.{Seat, lent_as, placed_at, seated, unless_kept, unless_kept_by}
use Rattle.tds_play.specs.Pipe.{Pipe}
use Rattle.tds_play.specs.Plays.{RepresentsConnection, after, outcome_of}
use Rattle.tds_play.specs.Seen.{done_as}
use Rattle.tds_ends.specs.Stands.{MatchesClient, MatchesServer}
use Rattle.tds_ends.specs.Stays.{RefinesIdle, PoolIsUnseen}
use Rattle.tds_play.specs.declared.link.EventDone.{EventDone}
use Rattle.tds_play.specs.declared.link.Link.{Link}

-- ---- Who waits

settled_where : (p : Phase) → is_settled p ≡ true → p ≡ Settled
settled_where Settled e = refl
settled_where p e = absurd (cc)

pub idle_settled : (c : Connection) → is_idle c ≡ true → phase c ≡ Settled
idle_settled c e = settled_where (phase c) e

none_where : {A : Type 0} (o : Option A) → is_none o ≡ true → o ≡ None
none_where None e = refl
none_where (Some x) e = absurd (cc)

pub idle_unless : RefinesIdle → (s : ClientSession) (c : Connection) → MatchesClient s c → is_idle c ≡ true → unless_idle s.stage ≡ None
idle_unless waits s c m e = none_where (unless_idle s.stage) (waits s c m ∙ e)

-- ---- Elsewhere in the pool

-- It stands there with this client, and may be marked.
pub stood : {E S : Type 0} (number size : ℕ) (engine : E) (link : Link E S) (seat : Seat) (pipe : Option Pipe) (c : Connection) (client : ClientSession) (p : Place) (mark : Option Reset)
    → RepresentsConnection number size engine link seat pipe c → link.is_cut ≡ false → client.size ≡ seat.client.size
    → (MatchesClient seat.client c → MatchesClient client (record c { mark = mark; standing = In p }))
    → (MatchesServer link.server c → MatchesServer link.server (record c { mark = mark; standing = In p }))
    → RepresentsConnection number size engine link (seated p client) pipe (record c { mark = mark; standing = In p })
stood number size engine link seat pipe c client p mark i live sized caller server = record {
  numbered = i.numbered;
  standing = ap (λ (b : Bool). standing_by b p) live;
  older = i.older;
  newest = i.newest;
  to_server = i.to_server;
  to_client = i.to_client;
  came_up = i.came_up;
  came_down = i.came_down;
  lives = λ uncut.
      let v = i.lives uncut in
      record {
        stands = record { client = caller v.stands.client; server = server v.stands.server; up = v.stands.up; down = v.stands.down };
        engine_is = v.engine_is;
        size_is = sized ∙ v.size_is;
        server_reads = v.server_reads;
        server_size = v.server_size;
        client_reads = v.client_reads;
        client_size = v.client_size;
      };
  gone = i.gone;
}

pub placed_played : {E S : Type 0} → PoolIsUnseen E → (number size : ℕ) (engine : E) (link : Link E S) (seat : Seat) (pipe : Option Pipe) (c : Connection) (p : Place)
    → RepresentsConnection number size engine link seat pipe c → link.is_cut ≡ false
    → RepresentsConnection number size engine link (placed_at p seat) pipe (record c { standing = In p })
placed_played unseen number size engine link seat pipe c p i live =
    stood number size engine link seat pipe c seat.client p c.mark i live refl (unseen.client (In p) seat.client c) (unseen.server c.mark (In p) link.server c)

-- A client that is marked for a reset stands for a connection that is lent again.
abbrev pub RefinesMarks : Type 0
RefinesMarks = (s : ClientSession) (c : Connection) (r : Reset) (standing : Standing) → MatchesClient s c → phase c ≡ Settled → MatchesClient (marked s r) (record c { mark = strongest (Some r) c.mark; standing = standing })

pub lent_played : {E S : Type 0} → PoolIsUnseen E → RefinesIdle → RefinesMarks → (number size lease : ℕ) (mark : Reset) (engine : E) (link : Link E S) (seat new : Seat) (pipe : Option Pipe) (c : Connection)
    → RepresentsConnection number size engine link seat pipe c → link.is_cut ≡ false → is_idle c ≡ true
    → (unless_idle seat.client.stage ≡ None → new ≡ lent_as lease mark seat)
    → RepresentsConnection number size engine link new pipe (record c { mark = strongest (Some mark) c.mark; standing = In (place.Leased lease) })
lent_played {E} {S} unseen waits marks number size lease mark engine link seat new pipe c i live idle is =
    rw (is (idle_unless waits seat.client c (i.lives live).stands.client idle))
    (stood number size engine link seat pipe c (marked seat.client mark) (place.Leased lease) (strongest (Some mark) c.mark) i live refl
    (λ m. marks seat.client c mark (In (place.Leased lease)) m (idle_settled c idle)) (unseen.server (strongest (Some mark) c.mark) (In (place.Leased lease)) link.server c))

-- ---- Keeping

-- What is done on a connection without its carrier, and that it stands for the model's then.
abbrev pub DoesWhole : {E S : Type 0} → ℕ → ℕ → E → EventDone → Link E S → Seat → Option Pipe → Acted → Connection → Type 0
DoesWhole number size engine done link seat pipe a c =
    (done ≡ done_as (outcome_of a)) × RepresentsConnection number size engine link seat pipe (after a c)

kept_by : {E S : Type 0} → PoolIsUnseen E → (number size ticket : ℕ) (engine : E) (link : Link E S) (seat new : Seat) (pipe : Option Pipe) (c : Connection) (done : EventDone) (idle nothing : Bool)
    → RepresentsConnection number size engine link seat pipe c → link.is_cut ≡ false
    → ((why : Refusal) → unless_kept_by idle nothing ≡ Some why → (done ≡ done_as (Refused why)) × (new ≡ seat))
    → (unless_kept_by idle nothing ≡ None → (done ≡ done_as (Kept ticket)) × (new ≡ placed_at (place.Kept ticket) seat))
    → DoesWhole number size engine done link new pipe (keeps_by idle nothing ticket c) c
kept_by unseen number size ticket engine link seat new pipe c done false nothing i live refused kept =
    let h = refused NotIdle refl in (h.0, rw h.1 i)
kept_by unseen number size ticket engine link seat new pipe c done true true i live refused kept =
    let h = refused NothingToKeep refl in (h.0, rw h.1 i)
kept_by unseen number size ticket engine link seat new pipe c done true false i live refused kept =
    let h = kept refl in (h.0, rw h.1 (placed_played unseen number size engine link seat pipe c (place.Kept ticket) i live))

pub kept_alike : {E S : Type 0} → PoolIsUnseen E → RefinesIdle → (number size ticket : ℕ) (engine : E) (link : Link E S) (seat new : Seat) (pipe : Option Pipe) (c : Connection) (done : EventDone)
    → RepresentsConnection number size engine link seat pipe c → link.is_cut ≡ false
    → ((why : Refusal) → unless_kept seat.client ≡ Some why → (done ≡ done_as (Refused why)) × (new ≡ seat))
    → (unless_kept seat.client ≡ None → (done ≡ done_as (Kept ticket)) × (new ≡ placed_at (place.Kept ticket) seat))
    → DoesWhole number size engine done link new pipe (keeps ticket c) c
kept_alike unseen waits number size ticket engine link seat new pipe c done i live refused kept =
    let m = (i.lives live).stands.client in
    let same : unless_kept seat.client ≡ unless_kept_by (is_idle c) (c.heard == 0 || is_full c.mark) =
    ap (λ (b : Bool). unless_kept_by b (seat.client.heard.descriptor == 0 || is_full seat.client.heard.mark)) (waits seat.client c m)
    ∙ ap (λ (n : ℕ). unless_kept_by (is_idle c) (n == 0 || is_full seat.client.heard.mark)) m.descriptor
    ∙ ap (λ (r : Option Reset). unless_kept_by (is_idle c) (c.heard == 0 || is_full r)) m.mark in
    kept_by unseen number size ticket engine link seat new pipe c done (is_idle c) (c.heard == 0 || is_full c.mark) i live
    (λ why e. refused why (same ∙ e)) (λ e. kept (same ∙ e))
