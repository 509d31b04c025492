-- A new connection that the pool lends, and that is opened: what the player keeps.
use Rattle.std.proofs.Common.{◌≡◌, ◌∙◌, ℕ, suc, ◌≤◌, min, List, [], ◌∷◌, ◌++◌, length, Option, Some, None, Bool, true, false, refl, sym, ap, subst, arith}
use Rattle.std.specs.List.{slice_get}
use Rattle.std.specs.Prelude.{IfNone, IfSome}
use Rattle.tds_client.specs.Session.{new_session}
use Rattle.tds_packet.specs.declared.kind.Direction.{Direction}
use Rattle.tds_packet.specs.declared.status.Reset.TheVariants.{Full}
use Rattle.tds_pool.specs.Calls.{lent_again, lent_next, new_connection, refuses_new}
use Rattle.tds_pool.specs.declared.answers.Opened.{Opened}
use Rattle.tds_pool.specs.declared.answers.Opened.TheVariants as how
use Rattle.tds_world.specs.Connection as model
use Rattle.tds_world.specs.declared.outcome.Opened.TheVariants as opened
use Rattle.tds_world.specs.declared.outcome.Outcome.TheVariants as outcome
use Rattle.tds_play.specs.declared.link.EventDone.{EventDone}
use Rattle.tds_play.specs.Failures.{Fails, Open}
use Rattle.tds_play.specs.Pipe.{BegunEvent, Pipe, traffic}
use Rattle.tds_play.specs.Plays.{RepresentsConnection, cut_where}
use Rattle.tds_play.specs.Reads.{IsReading}
use Rattle.tds_play.specs.Ties.{OpensTies}
use Rattle.tds_pool.specs.Connections as pool
use Rattle.tds_pool.specs.Connections.{PoolState, SameRest, connections, first_turn, numbered, taken_out}
use Rattle.tds_pool.specs.declared.lease.Lease.{Lease}
use Rattle.tds_pool.specs.declared.lease.Ticket.{Ticket}
use Rattle.tds_pool.specs.declared.lease.Turn.{Turn}
use Rattle.tds_world.specs.declared.report.Place.TheVariants.{Leased}
use Rattle.tds_play.specs.declared.link.Link.{Link}
use Rattle.tds_play.specs.declared.player.Player.{Player}
use Rattle.tds_play.specs.declared.seat.Held.{Held}
use Rattle.tds_play.specs.Player.{AreHeld, all_of}
use Rattle.tds_play.specs.Pooled.{AreKnown, IsGone, Stamp, lease_stamp, numbers_kept, numbers_leased, seated_from, seated_in, stamp_of}
use Rattle.tds_play.specs.Seats.{Seat, seated}
use Rattle.tds_play.specs.Steps.{AreFew, GrowsByOne, HoldsBy, OpensAs, SameSetup}
use Rattle.tds_play.proofs.pooled.Begun.{lease_begun, lease_begun_lost}
use Rattle.tds_play.proofs.pooled.Changes.{added_here, added_others, taken_added}
use Rattle.tds_play.proofs.pooled.Kept.{known_more, pooled_more, pooled_more_lost, pooled_next}
use Rattle.tds_play.proofs.pooled.Moves.{seated_came, seated_came_lost}
use Rattle.tds_play.proofs.pooled.Slots.{held_more, numbers_pushed}
use Rattle.tds_play.proofs.pooled.Unseen.{as_long, first_next, held_as, one_longer}

-- What the pool lends, which the play opens under this lease, and whether it was lost at once.
pub record OpenedBy {E S : Type 0} (next conn key : ℕ) (lease : Lease) (link : Link E S) (lost : Bool) (old new : Player E S)
    : Type 0 where
  pub conn_is : conn ≡ suc old.pool.last
  pub key_is : lease.key ≡ key
  pub turn_is : lease.turn ≡ first_turn old.pool.name
  pub number_is : lease.number ≡ conn
  pub mid : PoolState
  pub came : connections mid ≡ connections old.pool ++ new_connection old.pool.name conn key old.pool.size ∷ []
  pub last : mid.last ≡ suc old.pool.last
  pub max : mid.max ≡ old.pool.max
  pub size : mid.size ≡ old.pool.size
  pub live : lost ≡ false → new.pool ≡ mid
  pub gone : lost ≡ true → IsGone conn mid new.pool
  pub link_number : link.number ≡ conn
  pub uncut : link.is_cut ≡ lost
  pub next_is : next ≡ min (suc (length old.leases)) 4294967295
  pub links : new.links.items ≡ old.links.items ++ record { link = link; holder = next } ∷ []
  pub leases : new.leases ≡ old.leases ++ Some lease ∷ []
  pub tickets : new.tickets ≡ old.tickets
  pub asked : new.asked_on.items ≡ old.asked_on.items
  pub setup : SameSetup old new

-- What a lease has, by its parts.
abbrev stamp : ℕ → Turn → Stamp
stamp key turn = record { key = key; turn = turn }

stamped : (lease : Lease) (key : ℕ) (turn : Turn) → lease.key ≡ key → lease.turn ≡ turn → lease_stamp lease ≡ stamp key turn
stamped lease key turn key_is turn_is =
    ap (λ (k : ℕ). stamp k lease.turn) key_is ∙ ap (stamp key) turn_is

last_is : {A : Type 0} (xs : List A) (x : A) → slice_get (xs ++ x ∷ []) (length xs) ≡ Some x
last_is [] x = refl
last_is (y ∷ xs) x = last_is xs x

-- ---- What it keeps

pub record IsOpened {E S : Type 0} (next : ℕ) (link : Link E S) (lost : Bool) (old new : Player E S) (conn : ℕ) : Type 0 where
  pub conn_is : conn ≡ suc (length old.links.items)
  pub seat : Seat
  pub all : all_of new ≡ all_of old ++ record { link = link; seat = seat } ∷ []
  pub lent : lost ≡ false → seat ≡ seated (Leased next) (new_session old.size)
  pub held : AreHeld new
  pub grows : GrowsByOne old new
  pub holds : HoldsBy new (numbers_leased old.leases ++ Some conn ∷ []) (numbers_kept old.tickets) old.asked_on.items

pub is_opened : {E S : Type 0} (next conn key : ℕ) (lease : Lease) (link : Link E S) (lost : Bool) (old new : Player E S) → AreHeld old → AreFew 9999 old → OpenedBy next conn key lease link lost old new → IsOpened next link lost old new conn
is_opened {E} {S} next conn key lease link lost old new held few o = by_lost lost refl
  where
    h : Held E S
    h = record { link = link; holder = next }

    hs : List (Held E S)
    hs = old.links.items

    n : ℕ
    n = suc (length hs)

    c : pool.Connection
    c = new_connection old.pool.name conn key old.pool.size

    is_n : conn ≡ n
    is_n = o.conn_is ∙ ap suc held.pooled.last

    none : numbered n (connections old.pool) ≡ None
    none = pooled_next old.max old.size hs old.pool held.pooled

    none_conn : numbered conn (connections old.pool) ≡ None
    none_conn = ap (λ (m : ℕ). numbered m (connections old.pool)) is_n ∙ none

    holder_is : next ≡ suc (length old.leases)
    holder_is = first_next (length old.leases) next 9999 o.next_is few.leases_few (omega arith)

    grows : GrowsByOne old new
    grows most f = record {
      links_few = subst (λ (ks : List (Held E S)). length ks ≤ suc most) (sym o.links) (one_longer hs h most f.links_few);
      leases_few = subst (λ (ls : List (Option Lease)). length ls ≤ suc most) (sym o.leases) (one_longer old.leases (Some lease) most f.leases_few);
      tickets_few = as_long old.tickets new.tickets most (ap length o.tickets) f.tickets_few;
    }

    holds : HoldsBy new (numbers_leased old.leases ++ Some conn ∷ []) (numbers_kept old.tickets) old.asked_on.items
    holds = record {
      leases_are =
          ap numbers_leased o.leases ∙ numbers_pushed (λ (l : Lease). l.number) old.leases (Some lease)
          ∙ ap (λ (m : ℕ). numbers_leased old.leases ++ Some m ∷ []) o.number_is;
      tickets_are = ap numbers_kept o.tickets;
      asked_are = o.asked;
    }

    known_by : AreKnown (old.leases ++ Some lease ∷ []) old.tickets (hs ++ h ∷ []) (connections new.pool) → AreKnown new.leases new.tickets (hs ++ h ∷ []) (connections new.pool)
    known_by known =
        subst (λ (ls : List (Option Lease)). AreKnown ls new.tickets (hs ++ h ∷ []) (connections new.pool)) (sym o.leases)
        (subst (λ (ts : List (Option Ticket)). AreKnown (old.leases ++ Some lease ∷ []) ts (hs ++ h ∷ []) (connections new.pool)) (sym o.tickets) known)

    by_lost : (b : Bool) → lost ≡ b → IsOpened next link lost old new conn
    by_lost false whole = record {
      conn_is = is_n;
      seat = (seated_in h (Some c)).seat;
      all =
          ap (λ (ks : List (Held E S)). seated_from 1 ks (connections new.pool)) o.links
          ∙ ap (seated_from 1 (hs ++ h ∷ [])) added
          ∙ seated_came hs h (connections old.pool) c is_n none;
      lent = λ e. ap (λ (k : ℕ). seated (Leased next) (new_session k)) held.pooled.size_is;
      held = held_as old new (hs ++ h ∷ []) o.links o.setup
          (pooled_more old.max old.size hs h c old.pool new.pool held.pooled added o.conn_is
          (ap (λ (p : PoolState). p.last) (o.live whole) ∙ o.last) (ap (λ (p : PoolState). p.max) (o.live whole) ∙ o.max) (ap (λ (p : PoolState). p.size) (o.live whole) ∙ o.size)
          (o.uncut ∙ whole))
          (known_by begun);
      grows = grows;
      holds = holds;
    }
      where
        added : connections new.pool ≡ connections old.pool ++ c ∷ []
        added = ap connections (o.live whole) ∙ o.came

        others : (m : ℕ) → (m ≡ n → ⊥) → numbered m (connections new.pool) ≡ numbered m (connections old.pool)
        others m other = ap (numbered m) added ∙ added_others c (connections old.pool) m (λ is. other (is ∙ is_n))

        there : numbered n (connections new.pool) ≡ Some c
        there = ap (numbered n) added ∙ ap (λ (m : ℕ). numbered m (connections old.pool ++ c ∷ [])) (sym is_n) ∙ added_here c (connections old.pool) none_conn

        more : AreKnown old.leases old.tickets (hs ++ h ∷ []) (connections new.pool)
        more = known_more old.leases old.tickets n hs (hs ++ h ∷ []) (connections old.pool) (connections new.pool) held.known others (held_more n hs h) (omega arith)

        begun : AreKnown (old.leases ++ Some lease ∷ []) old.tickets (hs ++ h ∷ []) (connections new.pool)
        begun = lease_begun (length hs) old.leases old.tickets lease (hs ++ h ∷ []) h (connections new.pool) c more (last_is hs h) holder_is (o.number_is ∙ is_n) there (sym (stamped lease key (first_turn old.pool.name) o.key_is o.turn_is)) refl
    by_lost true gone = record {
      conn_is = is_n;
      seat = (seated_in h None).seat;
      all =
          ap (λ (ks : List (Held E S)). seated_from 1 ks (connections new.pool)) o.links
          ∙ ap (seated_from 1 (hs ++ h ∷ [])) left
          ∙ seated_came_lost hs h (connections old.pool) none;
      lent = λ e. let bad : true ≡ false = sym gone ∙ e in absurd (cc);
      held = held_as old new (hs ++ h ∷ []) o.links o.setup
          (pooled_more_lost old.max old.size hs h c old.pool new.pool held.pooled
          ((o.gone gone).connections ∙ ap (taken_out conn) o.came) o.conn_is
          ((o.gone gone).rest.last ∙ o.last) ((o.gone gone).rest.max ∙ o.max) ((o.gone gone).rest.size ∙ o.size)
          (o.uncut ∙ gone))
          (known_by begun);
      grows = grows;
      holds = holds;
    }
      where
        left : connections new.pool ≡ connections old.pool
        left = (o.gone gone).connections ∙ ap (taken_out conn) o.came ∙ taken_added c (connections old.pool) none_conn

        more : AreKnown old.leases old.tickets (hs ++ h ∷ []) (connections new.pool)
        more = known_more old.leases old.tickets n hs (hs ++ h ∷ []) (connections old.pool) (connections new.pool) held.known (λ m other. ap (numbered m) left) (held_more n hs h) (omega arith)

        begun : AreKnown (old.leases ++ Some lease ∷ []) old.tickets (hs ++ h ∷ []) (connections new.pool)
        begun = lease_begun_lost (length hs) old.leases old.tickets lease (hs ++ h ∷ []) h (connections new.pool) more (last_is hs h) (o.number_is ∙ is_n) (ap (numbered n) left ∙ none)

-- ---- Opening it

-- The pool has lost it where the carrier failed.
pub record LostBy {E S : Type 0} (conn : ℕ) (lost : Bool) (old mid : Player E S) : Type 0 where
  pub same : mid ≡ record old { pool = mid.pool }
  pub live : lost ≡ false → mid.pool ≡ old.pool
  pub gone : lost ≡ true → IsGone conn old.pool mid.pool

pub lost_out : {E S : Type 0} (conn : ℕ) (lost : Bool) (old mid : Player E S) (q : PoolState) → lost ≡ true → IsGone conn old.pool q → mid ≡ record old { pool = q } → LostBy conn lost old mid
lost_out {E} {S} conn lost old mid q is gone same = record {
  same = same ∙ ap (λ (p : PoolState). record old { pool = p }) (sym (ap (λ (x : Player E S). x.pool) same));
  live = λ e. let bad : true ≡ false = sym is ∙ e in absurd (cc);
  gone = λ e. subst (IsGone conn old.pool) (sym (ap (λ (x : Player E S). x.pool) same)) gone;
}

pub lost_not : {E S : Type 0} (conn : ℕ) (lost : Bool) (old mid : Player E S) → lost ≡ false → mid ≡ old → LostBy conn lost old mid
lost_not {E} {S} conn lost old mid is same = record {
  same = same ∙ ap (λ (p : PoolState). record old { pool = p }) (sym (ap (λ (x : Player E S). x.pool) same));
  live = λ e. ap (λ (x : Player E S). x.pool) same;
  gone = λ e. let bad : true ≡ false = sym e ∙ is in absurd (cc);
}

pub opens_as : {E S : Type 0} (conn lease : ℕ) (old mid new : Player E S) (link : Link E S) (lost : Bool) (pipes pipes' : ℕ → Option Pipe) (told still : List BegunEvent) (done : EventDone)
    → LostBy conn lost old mid → new.links.items ≡ mid.links.items ++ record { link = link; holder = lease } ∷ [] → new ≡ record mid { links = new.links }
    → done ≡ record { outcome = outcome.Leased lease conn opened.New; lost = lost }
    → link.number ≡ conn → link.is_cut ≡ lost → OpensTies conn link pipes pipes' told still → Fails (Open ∷ []) lost (pipes' conn)
    → IsReading old.size link None (pipes' conn) → ((d : Direction) → (traffic (pipes' conn) d).came ≡ [])
    → RepresentsConnection conn old.size old.engine link (seated (Leased lease) (new_session old.size)) (pipes' conn) (cut_where lost (model.new_connection old.on_attention (Leased lease)))
    → OpensAs conn lease old new pipes pipes' told still done
opens_as {E} {S} conn lease old mid new link lost pipes pipes' told still done split links rest is number uncut ties failed reading nothing played =
    let whole : done.lost ≡ lost = ap (λ (d : EventDone). d.lost) is in
    let same_pool : new.pool ≡ mid.pool = ap (λ (x : Player E S). x.pool) rest in
    record {
      link = link;
      links = links ∙ ap (λ (x : Player E S). x.links.items ++ record { link = link; holder = lease } ∷ []) split.same;
      rest =
          rest ∙ ap (λ (x : Player E S). record x { links = new.links }) split.same
          ∙ ap (λ (p : PoolState). record old { links = new.links; pool = p }) (sym same_pool);
      live = λ e. same_pool ∙ split.live (sym whole ∙ e);
      gone = λ e. subst (IsGone conn old.pool) (sym same_pool) (split.gone (sym whole ∙ e));
      outcome = ap (λ (d : EventDone). d.outcome) is;
      number = number;
      uncut = uncut ∙ sym whole;
      ties = ties;
      failed = subst (λ (b : Bool). Fails (Open ∷ []) b (pipes' conn)) (sym whole) failed;
      reading = reading;
      nothing = nothing;
      played = subst (λ (b : Bool). RepresentsConnection conn old.size old.engine link (seated (Leased lease) (new_session old.size)) (pipes' conn) (cut_where b (model.new_connection old.on_attention (Leased lease)))) (sym whole) played;
    }

-- ---- What the pool answers

-- It lends one again.
pub record LentAgain (conn : ℕ) (lease : Lease) (old new : PoolState) : Type 0 where
  pub connection : pool.Connection
  pub lent : lent_next (connections old) ≡ Some connection
  pub stamp : lease_stamp lease ≡ stamp_of connection
  pub number : lease.number ≡ connection.number
  pub conn_is : conn ≡ connection.number
  pub shown : connections new ≡ lent_again connection.number Full (connections old)
  pub rest : SameRest old new

same_reused : (n m : ℕ) → how.Reused n ≡ how.Reused m → n ≡ m
same_reused n m e = cc

same_new : (n m : ℕ) → how.New n ≡ how.New m → n ≡ m
same_new n m e = cc

pub lent_again_of : (conn : ℕ) (lease : Lease) (said : Opened) (old new : PoolState) (P : Type 0) (Q : Type 0) (o : Option pool.Connection) → lent_next (connections old) ≡ o
    → IfSome o (λ c. (lease.key ≡ c.key) × (lease.number ≡ c.number) × (said ≡ how.Reused c.number))
    → IfSome o (λ c. lease.turn ≡ c.turn)
    → IfSome o (λ c. (connections new ≡ lent_again c.number Full (connections old)) × SameRest old new)
    → IfNone o (P × (said ≡ how.New (suc old.last)) × Q)
    → said ≡ how.Reused conn → LentAgain conn lease old new
lent_again_of conn lease said old new P Q None at reused turn reset fresh is =
    let bad : how.Reused conn ≡ how.New (suc old.last) = sym is ∙ fresh.1 in absurd (cc)
lent_again_of conn lease said old new P Q (Some c) at reused turn reset fresh is = record {
  connection = c;
  lent = at;
  stamp = stamped lease c.key c.turn reused.0 turn;
  number = reused.1;
  conn_is = same_reused conn c.number (sym is ∙ reused.2);
  shown = reset.0;
  rest = reset.1;
}

-- It lends a new one.
pub record LentNew (conn : ℕ) (lease : Lease) (old new : PoolState) : Type 0 where
  pub none : lent_next (connections old) ≡ None
  pub conn_is : conn ≡ suc old.last
  pub number_is : lease.number ≡ conn
  pub turn_is : lease.turn ≡ first_turn old.name
  pub came : connections new ≡ connections old ++ new_connection old.name conn lease.key old.size ∷ []
  pub last : new.last ≡ suc old.last
  pub max : new.max ≡ old.max
  pub size : new.size ≡ old.size
  pub allowed : refuses_new (length (connections old)) old.max old.last ≡ None

pub lent_new_of : (conn : ℕ) (lease : Lease) (said : Opened) (old new : PoolState) (o : Option pool.Connection) → lent_next (connections old) ≡ o
    → IfSome o (λ c. (lease.key ≡ c.key) × (lease.number ≡ c.number) × (said ≡ how.Reused c.number))
    → IfNone o ((lease.number ≡ suc old.last) × (said ≡ how.New (suc old.last)) × (connections new ≡ connections old ++ new_connection old.name (suc old.last) lease.key old.size ∷ []))
    → IfNone o (lease.turn ≡ first_turn old.name)
    → IfNone o ((new.last ≡ suc old.last) × (new.max ≡ old.max) × (new.size ≡ old.size))
    → IfNone o (refuses_new (length (connections old)) old.max old.last ≡ None)
    → said ≡ how.New conn → LentNew conn lease old new
lent_new_of conn lease said old new (Some c) at reused fresh first used allowed is =
    let bad : how.New conn ≡ how.Reused c.number = sym is ∙ reused.2 in absurd (cc)
lent_new_of conn lease said old new None at reused fresh first used allowed is =
    let same : conn ≡ suc old.last = same_new conn (suc old.last) (sym is ∙ fresh.1) in
    record {
      none = at;
      conn_is = same;
      number_is = fresh.0 ∙ sym same;
      turn_is = first;
      came = fresh.2 ∙ ap (λ (n : ℕ). connections old ++ new_connection old.name n lease.key old.size ∷ []) (sym same);
      last = used.0;
      max = used.1;
      size = used.2;
      allowed = allowed;
    }

-- ---- The player that opens it

pub opened_by : {E S : Type 0} (next conn : ℕ) (lease : Lease) (old mid new : Player E S) (p : PoolState) (pipes pipes' : ℕ → Option Pipe) (told still : List BegunEvent) (done : EventDone) → LentNew conn lease old.pool p → next ≡ min (suc (length old.leases)) 4294967295 → mid ≡ record old { pool = p; leases = mid.leases } → mid.leases ≡ old.leases ++ Some lease ∷ [] → (o : OpensAs conn next mid new pipes pipes' told still done) → OpenedBy next conn lease.key lease o.link done.lost old new
opened_by {E} {S} next conn lease old mid new p pipes pipes' told still done lent is_next was begun o =
    let same_pool : mid.pool ≡ p = ap (λ (x : Player E S). x.pool) was in
    record {
      conn_is = lent.conn_is;
      key_is = refl;
      turn_is = lent.turn_is;
      number_is = lent.number_is;
      mid = p;
      came = lent.came;
      last = lent.last;
      max = lent.max;
      size = lent.size;
      live = λ e. o.live e ∙ same_pool;
      gone = λ e. subst (λ (q : PoolState). IsGone conn q new.pool) same_pool (o.gone e);
      link_number = o.number;
      uncut = o.uncut;
      next_is = is_next;
      links = o.links ∙ ap (λ (x : Player E S). x.links.items ++ record { link = o.link; holder = next } ∷ []) was;
      leases = ap (λ (x : Player E S). x.leases) o.rest ∙ begun;
      tickets = ap (λ (x : Player E S). x.tickets) o.rest ∙ ap (λ (x : Player E S). x.tickets) was;
      asked = ap (λ (x : Player E S). x.asked_on.items) o.rest ∙ ap (λ (x : Player E S). x.asked_on.items) was;
      setup = record {
        engine_is = ap (λ (x : Player E S). x.engine) o.rest ∙ ap (λ (x : Player E S). x.engine) was;
        max_is = ap (λ (x : Player E S). x.max) o.rest ∙ ap (λ (x : Player E S). x.max) was;
        size_is = ap (λ (x : Player E S). x.size) o.rest ∙ ap (λ (x : Player E S). x.size) was;
        told_is = ap (λ (x : Player E S). x.on_attention) o.rest ∙ ap (λ (x : Player E S). x.on_attention) was;
      };
    }
