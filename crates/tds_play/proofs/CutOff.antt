-- A connection that is cut, in a play and in the model.
use Rattle.std.proofs.Common.{◌≡◌, ◌∙◌, ℕ, Bool, true, false, refl, sym, ap, subst, Option, Some, None, option_map, List, [], ◌∷◌}
use Rattle.tds_packet.specs.declared.kind.Direction.{Direction}
use Rattle.tds_packet.specs.declared.kind.Direction.TheVariants.{ToServer, ToClient}
use Rattle.tds_world.specs.Connection.{Connection, cut}
use Rattle.tds_world.specs.Phase.{Phase, Settled, phase_of, status_by}
use Rattle.tds_world.specs.Record as world
use Rattle.tds_play.specs.Lending.{standing_by}
use Rattle.tds_play.specs.Links.{lost_record, lost_status}
use Rattle.tds_play.specs.Pipe.{Pipe, IsUncut, traffic, cut_pipe, is_cut_at}
use Rattle.tds_play.specs.Plays.{RepresentsConnection}
use Rattle.tds_play.specs.Requests.{MatchesRecord, AreOlder, IsNewest}
use Rattle.tds_play.specs.declared.link.Link.{Link}
use Rattle.tds_play.specs.Seats.{Seat}
use Rattle.tds_play.specs.declared.request.Record.{Record}

-- ---- Requests

-- A settled request stays what it is.
settled_stays : (fate : world.Fate) (p : Phase) → p ≡ Settled → status_by fate false p ≡ status_by fate true p
settled_stays world.Open Settled e = refl
settled_stays world.Open p e = absurd (cc)
settled_stays world.Cancelled Settled e = refl
settled_stays world.Cancelled p e = absurd (cc)
settled_stays fate p e = refl

-- Any other one is lost.
lost_is : (fate : world.Fate) (p : Phase) → lost_status (status_by fate false p) ≡ status_by fate true p
lost_is world.Open Settled = refl
lost_is world.Cancelled Settled = refl
lost_is fate p = refl

older_cut : (number : ℕ) (rs : List Record) (qs : List world.Record) → AreOlder number false rs qs → AreOlder number true rs qs
older_cut number [] [] h = tt
older_cut number [] (q ∷ qs) h = absurd h
older_cut number (r ∷ rs) [] h = absurd h
older_cut number (r ∷ rs) (q ∷ qs) h =
    let i : MatchesRecord number false r q = h.0.0 in (
      (
        record {
          lease = i.lease;
          conn = i.conn;
          mark = i.mark;
          status = i.status ∙ settled_stays q.fate (phase_of q) h.0.1;
          ran = i.ran;
          tokens = i.tokens;
        },
        h.0.1,
      ),
      older_cut number rs qs h.1,
    )

newest_cut : (number : ℕ) (r : Option Record) (q : Option world.Record) → IsNewest number false r q → IsNewest number true (option_map lost_record r) q
newest_cut number None None h = tt
newest_cut number None (Some q) h = absurd h
newest_cut number (Some r) None h = absurd h
newest_cut number (Some r) (Some q) h = record {
  lease = h.lease;
  conn = h.conn;
  mark = h.mark;
  status = ap lost_status h.status ∙ lost_is q.fate (phase_of q);
  ran = h.ran;
  tokens = h.tokens;
}

-- ---- The connection

handed_stays : (p : Option Pipe) (d : Direction) → (traffic (cut_pipe p) d).handed ≡ (traffic p d).handed
handed_stays None d = refl
handed_stays (Some p) ToServer = refl
handed_stays (Some p) ToClient = refl

came_stays : (p : Option Pipe) (d : Direction) → (traffic (cut_pipe p) d).came ≡ (traffic p d).came
came_stays None d = refl
came_stays (Some p) ToServer = refl
came_stays (Some p) ToClient = refl

cut_off : (p : Option Pipe) → IsUncut p → is_cut_at (cut_pipe p) ≡ true
cut_off None known = absurd known
cut_off (Some p) known = refl

pub cut_played : {E S : Type 0} (number size : ℕ) (engine : E) (link new : Link E S) (seat : Seat) (pipe after : Option Pipe) (c : Connection)
    → RepresentsConnection number size engine link seat pipe c → link.is_cut ≡ false
    → new.number ≡ link.number → new.is_cut ≡ true → new.past ≡ link.past → new.current ≡ option_map lost_record link.current
    → IsUncut pipe → after ≡ cut_pipe pipe
    → RepresentsConnection number size engine new seat after (cut c)
cut_played number size engine link new seat pipe after c p live same is past current known off = record {
  numbered = same ∙ p.numbered;
  standing = ap (λ (b : Bool). standing_by b seat.place) is;
  older = rw (is, past) (older_cut number link.past.items c.past (subst (λ (b : Bool). AreOlder number b link.past.items c.past) live p.older));
  newest = rw (is, current) (newest_cut number link.current c.current (subst (λ (b : Bool). IsNewest number b link.current c.current) live p.newest));
  to_server = rw off (handed_stays pipe ToServer ∙ p.to_server);
  to_client = rw off (handed_stays pipe ToClient ∙ p.to_client);
  came_up = rw off (came_stays pipe ToServer ∙ p.came_up);
  came_down = rw off (came_stays pipe ToClient ∙ p.came_down);
  lives = λ uncut. let no : true ≡ false = sym is ∙ uncut in absurd (cc);
  gone = λ cut. ap is_cut_at off ∙ cut_off pipe known;
}
