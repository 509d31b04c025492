-- One connection of a play that the pool was asked about: what the play keeps of it, and its seat.
use Rattle.std.proofs.Common.{◌≡◌, ◌≢◌, ◌∙◌, ◌⊎◌, inl, inr, ℕ, Bool, true, false, not, List, Option, Some, None, refl, sym, ap, subst, cond}
use Rattle.std.specs.Prelude.{IsSome, option_map}
use Rattle.tds_client.specs.Session.{ClientSession}
use Rattle.tds_pool.specs.Calls.{Returned, all_numbers, is_broken, is_cleaning, is_held, only}
use Rattle.tds_pool.specs.Cleaning.{carried}
use Rattle.tds_pool.specs.Connections.{Connection, PoolState, SameRest, connections, numbered, taken_out, with_client}
use Rattle.tds_pool.specs.declared.answers.GivenBack.{GivenBack}
use Rattle.tds_pool.specs.declared.answers.GivenBack.TheVariants as given
use Rattle.tds_pool.specs.declared.lease.Turn.{Turn}
use Rattle.tds_play.specs.Plays.{RefinesAct, RepresentsConnection, after, cut_where}
use Rattle.tds_play.specs.declared.link.EventDone.{EventDone}
use Rattle.tds_world.specs.Pool.{Acted}
use Rattle.tds_play.specs.Pipe.{Pipe, traffic}
use Rattle.tds_play.specs.Reads.{BringsBy, IsReading, ReadsNoMore, ReadsOn, delivers, given_by}
use Rattle.tds_ends.specs.AllBytes.{ClientHasRead, new_reader}
use Rattle.tds_packet.specs.declared.kind.Direction.TheVariants.{ToClient}
use Rattle.tds_world.specs.declared.event.Event.{Event}
use Rattle.tds_world.specs.declared.outcome.Outcome.{Outcome}
use Rattle.tds_play.proofs.any_bytes.Stays.{reading_stays}
use Rattle.tds_play.proofs.pooled.Returned.{unbroken}
use Rattle.tds_play.specs.Pooled.{ChangesOne, IsThere, StaysAs, seat_in, stamp_of}
use Rattle.tds_play.specs.Seats.{Seat}
use Rattle.tds_play.specs.Lending.{standing_by}
use Rattle.tds_play.specs.declared.link.Link.{Link}
use Rattle.tds_play.specs.declared.seat.Held.{Held}
use Rattle.tds_world.specs.Connection as model
use Rattle.tds_play.proofs.pooled.Changes.{changed_here, changed_numbers, changed_others, taken_gone, taken_none, taken_others}
use Rattle.tds_play.proofs.pooled.Leaves.{IsMoved, found_still, is_closed, taken_changed}
use Rattle.tds_play.proofs.pooled.Numbers.{IsIn}

-- ---- What is there

pub in_of : (n : ℕ) (pcs : List Connection) → IsSome (numbered n pcs) → IsIn n pcs
in_of n pcs there = by_found (numbered n pcs) refl there
  where
    by_found : (o : Option Connection) → numbered n pcs ≡ o → IsSome o → IsIn n pcs
    by_found None e h = absurd (cc)
    by_found (Some c) e h = record { connection = c; there = e }

pub one_of : (o : Option Connection) → IsSome o → (c : Connection) × (o ≡ Some c)
one_of None h = absurd (cc)
one_of (Some c) h = (c, refl)

pub is_some_of : (o : Option Connection) (c : Connection) → o ≡ Some c → IsSome o
is_some_of o c e = subst (λ (x : Option Connection). IsSome x) (sym e) refl

-- ---- It is taken out

pub closed_changes : (n : ℕ) (cut : Bool) (old new : PoolState) → cut ≡ true → connections new ≡ taken_out n (connections old) → SameRest old new → ChangesOne n cut old new
closed_changes n cut old new is out rest = record {
  others = λ m other. ap (numbered m) out ∙ taken_others n (connections old) m other;
  live = λ lives. let bad : true ≡ false = sym is ∙ lives in absurd (cc);
  stays = λ c d was now. let bad : None ≡ Some d = sym (ap (numbered n) out ∙ taken_gone n (connections old)) ∙ now in absurd (cc);
  gone = λ e. out;
  rest = rest;
}

pub gone_there : {E S : Type 0} (h : Held E S) (n : ℕ) (p : PoolState) (pcs : List Connection) → h.link.number ≡ n → h.link.is_cut ≡ true → connections p ≡ taken_out n pcs → IsThere h p
gone_there h n p pcs number is out = record {
  is_in = λ lives. let bad : true ≡ false = sym is ∙ lives in absurd (cc);
  is_out = λ cut. ap (λ (m : ℕ). numbered m (connections p)) number ∙ ap (numbered n) out ∙ taken_gone n pcs;
}

-- ---- It stays

pub moved_changes : (n : ℕ) (cut : Bool) (old new : PoolState) (c : Connection) (r : Returned) → cut ≡ false → numbered n (connections old) ≡ Some c → IsMoved n (connections old) c r → connections new ≡ r.connections → SameRest old new → ChangesOne n cut old new
moved_changes n cut old new c r lives found moved shown rest = record {
  others = λ m other. ap (numbered m) shown ∙ moved.others m other;
  live = λ e. ap all_numbers shown ∙ moved.numbers;
  stays = stays;
  gone = λ e. let bad : true ≡ false = sym e ∙ lives in absurd (cc);
  rest = rest;
}
  where
    then : Connection
    then = record c { place = moved.place; turn = moved.turn }

    stayed : ((moved.turn ≡ c.turn) × (moved.place ≡ c.place)) ⊎ (is_held c.place ≡ false) → StaysAs c then
    stayed (inl (turn, place)) = inl (ap (λ (t : Turn). stamp_of (record c { turn = t })) turn, place)
    stayed (inr unheld) = inr unheld

    as_it : (a b : Connection) → c ≡ a → then ≡ b → StaysAs a b
    as_it a b first last =
        subst (λ (x : Connection). StaysAs a x) last
        (subst (λ (x : Connection). StaysAs x then) first (stayed moved.from))

    stays : (a b : Connection) → numbered n (connections old) ≡ Some a → numbered n (connections new) ≡ Some b → StaysAs a b
    stays a b was now =
        let one : Some c ≡ Some a = sym found ∙ was in
        let two : Some then ≡ Some b = sym (ap (numbered n) shown ∙ moved.here) ∙ now in
        as_it a b (cc) (cc)

pub same_changes : (n : ℕ) (cut : Bool) (p : PoolState) → cut ≡ false → ChangesOne n cut p p
same_changes n cut p lives = record {
  others = λ m other. refl;
  live = λ e. refl;
  stays = λ a b was now. let one : Some a ≡ Some b = sym was ∙ now in let same : a ≡ b = cc in subst (λ (x : Connection). StaysAs a x) same (inl (refl, refl));
  gone = λ e. let bad : true ≡ false = sym e ∙ lives in absurd (cc);
  rest = record { name = refl; max = refl; size = refl; last = refl };
}

pub none_changes : (n : ℕ) (cut : Bool) (p : PoolState) → cut ≡ true → numbered n (connections p) ≡ None → ChangesOne n cut p p
none_changes n cut p is none = closed_changes n cut p p is (sym (taken_none n (connections p) none)) (record { name = refl; max = refl; size = refl; last = refl })

pub stays_there : {E S : Type 0} (old new : Held E S) (p q : PoolState) → new.link.number ≡ old.link.number → new.link.is_cut ≡ false → IsSome (numbered old.link.number (connections p)) → all_numbers (connections q) ≡ all_numbers (connections p) → IsThere new q
stays_there old new p q number lives there same = record {
  is_in = λ e. subst (λ (n : ℕ). IsSome (numbered n (connections q))) (sym number) (found_still old.link.number (connections p) (connections q) same there);
  is_out = λ e. let bad : true ≡ false = sym e ∙ lives in absurd (cc);
}

-- ---- Its client is another one

pub client_found : (n : ℕ) (s : ClientSession) (pcs : List Connection) (c : Connection) → numbered n pcs ≡ Some c → numbered n (with_client n s pcs) ≡ Some (record c { client = s })
client_found n s pcs c found =
    changed_here n (λ (d : Connection). record d { client = s }) pcs (λ d. refl) ∙ ap (option_map (λ (d : Connection). record d { client = s })) found

pub client_changes : (n : ℕ) (cut : Bool) (s : ClientSession) (old mid new : PoolState) (c : Connection) → numbered n (connections old) ≡ Some c → connections mid ≡ with_client n s (connections old) → SameRest old mid → ChangesOne n cut mid new → ChangesOne n cut old new
client_changes n cut s old mid new c found shown rest changes = record {
  others = λ m other.
      changes.others m other ∙ ap (numbered m) shown
      ∙ changed_others n (λ (d : Connection). record d { client = s }) (connections old) (λ d. refl) m other;
  live = λ e.
      changes.live e ∙ ap all_numbers shown
      ∙ changed_numbers n (λ (d : Connection). record d { client = s }) (connections old) (λ d. refl);
  stays = stays;
  gone = λ e.
      changes.gone e ∙ ap (taken_out n) shown
      ∙ taken_changed n (λ (d : Connection). record d { client = s }) (connections old) (λ d. refl);
  rest = record {
    name = changes.rest.name ∙ rest.name;
    max = changes.rest.max ∙ rest.max;
    size = changes.rest.size ∙ rest.size;
    last = changes.rest.last ∙ rest.last;
  };
}
  where
    stays : (a b : Connection) → numbered n (connections old) ≡ Some a → numbered n (connections new) ≡ Some b → StaysAs a b
    stays a b was now =
        let there : numbered n (connections mid) ≡ Some (record a { client = s }) = ap (numbered n) shown ∙ client_found n s (connections old) a was in
        changes.stays (record a { client = s }) b there now

-- ---- Its seat

-- One that is cut stands for the model's whatever its seat is.
pub cut_seat : {E S : Type 0} (number size : ℕ) (engine : E) (link : Link E S) (seat then : Seat) (pipe : Option Pipe) (c : model.Connection) → link.is_cut ≡ true → RepresentsConnection number size engine link seat pipe c → RepresentsConnection number size engine link then pipe c
cut_seat number size engine link seat then pipe c is i = record {
  numbered = i.numbered;
  standing = ap (λ (b : Bool). standing_by b then.place) is ∙ sym (ap (λ (b : Bool). standing_by b seat.place) is) ∙ i.standing;
  older = i.older;
  newest = i.newest;
  to_server = i.to_server;
  to_client = i.to_client;
  came_up = i.came_up;
  came_down = i.came_down;
  lives = λ uncut. let bad : true ≡ false = sym is ∙ uncut in absurd (cc);
  gone = i.gone;
}

-- The answer isn't that it was closed.
pub not_closed : (a : GivenBack) → ((m : ℕ) → a ≢ given.Closed m) → is_closed a ≡ false
not_closed (given.Free n) other = refl
not_closed (given.Draining n) other = refl
not_closed (given.Closed n) other = absurd (other n refl)
not_closed given.Unknown other = refl

-- What an event made of it, it is still once the pool was asked about it.
pub settled_played : {E S : Type 0} (number size : ℕ) (engine : E) (mid new : Held E S) (s : ClientSession) (seat : Seat) (pool : PoolState) (between after : Option Pipe) (d : model.Connection)
    → seat.client ≡ s
    → RepresentsConnection number size engine mid.link seat between d
    → (mid.link.is_cut ≡ true → (new ≡ mid) × (after ≡ between))
    → (mid.link.is_cut ≡ false → is_broken s.stage ≡ false → (new ≡ mid) × (after ≡ between) × (seat_in new pool ≡ seat))
    → RepresentsConnection number size engine new.link (seat_in new pool) after d
settled_played {E} {S} number size engine mid new s seat pool between after d has i gone sound = by_cut mid.link.is_cut refl
  where
    moved : (new ≡ mid) × (after ≡ between) → (then : Seat) → RepresentsConnection number size engine mid.link then between d → RepresentsConnection number size engine new.link then after d
    moved h then p =
        subst (λ (x : Held E S). RepresentsConnection number size engine x.link then after d) (sym h.0)
        (subst (λ (x : Option Pipe). RepresentsConnection number size engine mid.link then x d) (sym h.1) p)

    by_cut : (b : Bool) → mid.link.is_cut ≡ b → RepresentsConnection number size engine new.link (seat_in new pool) after d
    by_cut true cut = moved (gone cut) (seat_in new pool) (cut_seat number size engine mid.link seat (seat_in new pool) between d cut i)
    by_cut false lives =
        let fine : is_broken s.stage ≡ false = ap (λ (x : ClientSession). is_broken x.stage) (sym has) ∙ unbroken seat.client d (i.lives lives).stands.client in
        let h = sound lives fine in
        moved (h.0, h.1) (seat_in new pool) (subst (λ (x : Seat). RepresentsConnection number size engine mid.link x between d) (sym h.2) i)

-- Its ends have read what they had.
pub settled_reads : {E S : Type 0} (size : ℕ) (e : Event) (o : Outcome) (mid new : Link E S) (columns then : Option ℕ) (before between after : Option Pipe)
    → ReadsOn size e o mid columns before between → ReadsNoMore mid new between after → (new.is_cut ≡ false → then ≡ columns)
    → ReadsOn size e o new then before after
settled_reads size e o mid new columns then before between after on still same =
    let r : IsReading size new columns after = reading_stays size mid new columns columns between after on.reading still refl in
    record {
      reading = record {
        server = r.server;
        client = λ live. subst (λ (k : Option ℕ). ClientHasRead (new_reader ToClient size) new.client_reader k (traffic after ToClient).came (given_by new)) (sym (same live)) (r.client live);
        told = r.told;
      };
      brings = λ d. subst (λ (x : List ℕ). BringsBy (delivers e d) (new_reader d size) o (traffic before d).came x) (sym (still.came d)) (on.brings d);
    }

-- The client that is lent. It is none of a connection that is being cleaned.
pub lent_client : (n : ℕ) (pcs : List Connection) (c : Connection) (s : ClientSession) → numbered n pcs ≡ Some c → Some s ≡ option_map (λ (d : Connection). d.client) (carried n pcs) → s ≡ c.client
lent_client n pcs c s found lent = by (not (is_cleaning c.place)) (lent ∙ ap (λ o. option_map (λ (d : Connection). d.client) (only (λ (d : Connection). not (is_cleaning d.place)) o)) found) where
  by : (b : Bool) → Some s ≡ option_map (λ (d : Connection). d.client) (cond b (Some c) None) → s ≡ c.client
  by true e = cc
  by false e = absurd (cc)

pub lent_there : (n : ℕ) (pcs : List Connection) (s : ClientSession) → Some s ≡ option_map (λ (d : Connection). d.client) (carried n pcs) → IsSome (carried n pcs)
lent_there n pcs s lent = by (carried n pcs) lent where
  by : (o : Option Connection) → Some s ≡ option_map (λ (d : Connection). d.client) o → IsSome o
  by None e = absurd (cc)
  by (Some c) e = refl

-- Its seat means nothing where it is cut.
pub reseats : {E S : Type 0} (number size : ℕ) (engine : E) (done : EventDone) (link : Link E S) (seat then : Seat) (pipe : Option Pipe) (acted : Acted) (c : model.Connection) → (link.is_cut ≡ false → then ≡ seat) → RefinesAct number size engine done link seat pipe acted c → RefinesAct number size engine done link then pipe acted c
reseats {E} {S} number size engine done link seat then pipe acted c same h = record { outcome = h.outcome; played = by link.is_cut refl }
  where
    d : model.Connection
    d = cut_where done.lost (after acted c)

    by : (b : Bool) → link.is_cut ≡ b → RepresentsConnection number size engine link then pipe d
    by true cut = cut_seat number size engine link seat then pipe d cut h.played
    by false lives = subst (λ (x : Seat). RepresentsConnection number size engine link x pipe d) (sym (same lives)) h.played
