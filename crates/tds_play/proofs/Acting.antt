-- An event on a connection that isn't cut, in a play and in the model.
use Rattle.std.specs.Prelude.{IfOk}
use Rattle.std.proofs.Common.{Result, ◌≡◌, ◌≤◌, ◌∙◌, ℕ, Bool, true, false, refl, sym, ap, subst, Option, Some, None}
use Rattle.tds_packet.specs.declared.status.Reset.{Reset}
use Rattle.tds_session.specs.Answer.{Answers}
use Rattle.tds_packet.specs.Resets.{strongest}
use Rattle.tds_world.specs.declared.event.Event.{Event}
use Rattle.tds_world.specs.declared.event.Event.TheVariants as event
use Rattle.tds_world.specs.declared.event.Setup.{Setup}
use Rattle.tds_world.specs.declared.outcome.AbandonOutcome.TheVariants as abandoned
use Rattle.tds_world.specs.declared.outcome.Opened.{Opened}
use Rattle.tds_world.specs.declared.outcome.Outcome.TheVariants.{Abandoned, Leased}
use Rattle.tds_world.specs.declared.report.Place.{Place}
use Rattle.tds_world.specs.declared.report.Place.TheVariants as place
use Rattle.tds_world.specs.Arrivals.{to_server}
use Rattle.tds_world.specs.Caller.{cancels}
use Rattle.tds_world.specs.Connection.{Connection, Standing, In, Cut, is_idle, up_underway}
use Rattle.tds_world.specs.Events.{acts}
use Rattle.tds_world.specs.Losses.{bringing, met}
use Rattle.tds_world.specs.Pool.{Acted, Does, abandons, abandons_at, gives_back, gives_back_at, comes_back, keeps}
use Rattle.tds_world.specs.World.{World}
use Rattle.tds_client.specs.Session.{ClientSession, unless_idle}
use Rattle.tds_play.specs.Lending.{standing_by}
use Rattle.tds_play.specs.Seats.{Seat, drained, lent_as, placed_at, placed_behind, seated}
use Rattle.tds_play.specs.Pipe.{Pipe}
use Rattle.tds_play.specs.Plays.{RefinesAct, RepresentsConnection, acts_at, acts_on, after, count_of, delivers_down, delivers_up, loss_of, on_cut, outcome_of}
use Rattle.tds_ends.specs.ModelGives.{IsCountable}
use Rattle.tds_play.specs.Seen.{done_as}
use Rattle.tds_ends.specs.Stays.{RefinesIdle, PoolIsUnseen}
use Rattle.tds_play.specs.declared.link.EventDone.{EventDone}
use Rattle.tds_play.specs.declared.link.Link.{Link}
use Rattle.tds_play.proofs.Losing.{down_met, met_ok, plain_met, up_met, whole_ok}
use Rattle.tds_play.proofs.Placed.{DoesWhole, RefinesMarks, lent_played, placed_played}

-- ---- A connection that isn't cut

pub stands_in : {E S : Type 0} (number size : ℕ) (engine : E) (link : Link E S) (seat : Seat) (pipe : Option Pipe) (c : Connection) → RepresentsConnection number size engine link seat pipe c → link.is_cut ≡ false → c.standing ≡ In seat.place
stands_in number size engine link seat pipe c i live = sym i.standing ∙ ap (λ (b : Bool). standing_by b seat.place) live

pub acts_there : (setup : Setup) (answers : Answers) (w : World) (e : Event) (n : ℕ) (c : Connection) (p : Place) → c.standing ≡ In p → acts_on setup answers w e n c ≡ acts setup answers w e n c
acts_there setup answers w e n c p at = ap (λ (s : Standing). acts_at s setup answers w e n c) at

pub comes_there : (c : Connection) (p : Place) → c.standing ≡ In p → gives_back c ≡ comes_back (cancels c)
comes_there c p at = ap (λ (s : Standing). gives_back_at s c) at

-- ---- Lending and giving up

-- The lease that is told is the number of the model's.
pub lent_alike : {E S : Type 0} → PoolIsUnseen E → RefinesIdle → RefinesMarks → (number size told lease : ℕ) (mark : Reset) (opened : Opened) (engine : E) (link : Link E S) (seat new : Seat) (pipe : Option Pipe) (c : Connection) (done : EventDone)
    → RepresentsConnection number size engine link seat pipe c → link.is_cut ≡ false → is_idle c ≡ true → told ≡ lease
    → done ≡ done_as (Leased told link.number opened)
    → (unless_idle seat.client.stage ≡ None → new ≡ lent_as told mark seat)
    → DoesWhole number size engine done link new pipe (Does (Leased lease number opened) (record c { mark = strongest (Some mark) c.mark; standing = In (place.Leased lease) })) c
lent_alike {E} {S} unseen waits marks number size told lease mark opened engine link seat new pipe c done i live idle same is lends = (
  is ∙ ap (λ (n : ℕ). done_as (Leased n link.number opened)) same ∙ ap (λ (n : ℕ). done_as (Leased lease n opened)) i.numbered,
  subst (λ (n : ℕ). RepresentsConnection number size engine link new pipe (record c { mark = strongest (Some mark) c.mark; standing = In (place.Leased n) })) same
      (lent_played unseen waits marks number size told mark engine link seat new pipe c i live idle lends),
)

pub abandoned_alike : {E S : Type 0} → PoolIsUnseen E → (number size : ℕ) (engine : E) (link : Link E S) (seat new : Seat) (pipe : Option Pipe) (c : Connection) (done : EventDone)
    → RepresentsConnection number size engine link seat pipe c → link.is_cut ≡ false
    → done ≡ done_as (Abandoned abandoned.Free) → new ≡ placed_at place.Free seat
    → DoesWhole number size engine done link new pipe (abandons c) c
abandoned_alike {E} {S} unseen number size engine link seat new pipe c done i live is at =
    subst (λ (a : Acted). DoesWhole number size engine done link new pipe a c) (sym (ap (λ (s : Standing). abandons_at s c) (stands_in number size engine link seat pipe c i live)))
    (is, subst (λ (s : Seat). RepresentsConnection number size engine link s pipe (record c { standing = In place.Free })) (sym at) (placed_played unseen number size engine link seat pipe c place.Free i live))

pub kept_at : {E S : Type 0} (number size told ticket : ℕ) (engine : E) (link : Link E S) (new : Seat) (pipe : Option Pipe) (c : Connection) (done : EventDone)
    → told ≡ ticket → DoesWhole number size engine done link new pipe (keeps told c) c → DoesWhole number size engine done link new pipe (keeps ticket c) c
kept_at number size told ticket engine link new pipe c done same h = subst (λ (n : ℕ). DoesWhole number size engine done link new pipe (keeps n c) c) same h

-- ---- The event's kind

pub event_at : (setup : Setup) (answers : Answers) (w : World) (e kind : Event) (n : ℕ) (c : Connection) (p : Place) → c.standing ≡ In p → e ≡ kind → acts_on setup answers w e n c ≡ acts setup answers w kind n c
event_at setup answers w e kind n c p at is = ap (λ (x : Event). acts_on setup answers w x n c) is ∙ acts_there setup answers w kind n c p at

pub by_event : {E S : Type 0} (number size : ℕ) (engine : E) (done : EventDone) (new : Link E S) (seat : Seat) (pipe : Option Pipe) (c : Connection) (a b : Acted) → a ≡ b → DoesWhole number size engine done new seat pipe b c → DoesWhole number size engine done new seat pipe a c
by_event number size engine done new seat pipe c a b e h = subst (λ x. DoesWhole number size engine done new seat pipe x c) (sym e) h

by_event_ok : {E S B : Type 0} (number size : ℕ) (engine : E) (r : Result EventDone B) (new : Link E S) (seat : Seat) (pipe : Option Pipe) (c : Connection) (a b : Acted) → a ≡ b → IfOk r (λ done. DoesWhole number size engine done new seat pipe b c) → IfOk r (λ done. DoesWhole number size engine done new seat pipe a c)
by_event_ok number size engine r new seat pipe c a b e h = subst (λ x. IfOk r (λ done. DoesWhole number size engine done new seat pipe x c)) (sym e) h

pub few_then : (c : Connection) (a b : Acted) → a ≡ b → IsCountable (after a c) → IsCountable (after b c)
few_then c a b e h = subst (λ x. IsCountable (after x c)) e h

-- What comes back has as many bytes underway.
pub few_back : (c : Connection) (p : Place) → c.standing ≡ In p → IsCountable (after (gives_back c) c) → up_underway (cancels c) ≤ 18446744073709551615
few_back c p at few = (few_then c (gives_back c) (comes_back (cancels c)) (comes_there c p at) few).0

-- ---- An event as it was met

-- One that isn't a delivery is what it is.
plain_ok : {E S B : Type 0} (number size : ℕ) (engine : E) (r : Result EventDone B) (new : Link E S) (seat : Seat) (pipe : Option Pipe) (setup : Setup) (answers : Answers) (w : World) (e kind : Event) (c : Connection) (p : Place)
    → c.standing ≡ In p → e ≡ kind → ((k : ℕ) → bringing k kind ≡ kind)
    → IfOk r (λ done. RefinesAct number size engine done new seat pipe (acts setup answers w kind number c) c)
    → IfOk r (λ done. RefinesAct number size engine done new seat pipe (acts_on setup answers w (met (loss_of done) e) number c) c)
plain_ok number size engine r new seat pipe setup answers w e kind c p at is plain h =
    met_ok number size engine r new seat pipe c (λ done. acts_on setup answers w (met (loss_of done) e) number c) (λ done. acts setup answers w kind number c)
    (λ done. event_at setup answers w (met (loss_of done) e) kind number c p at (ap (met (loss_of done)) is ∙ plain_met done.lost done.outcome kind plain)) h

plain_few : (setup : Setup) (answers : Answers) (w : World) (e kind : Event) (number : ℕ) (c : Connection) (p : Place)
    → c.standing ≡ In p → e ≡ kind → ((k : ℕ) → bringing k kind ≡ kind)
    → ((k : ℕ) → IsCountable (after (acts_on setup answers w (bringing k e) number c) c))
    → IsCountable (after (acts setup answers w kind number c) c)
plain_few setup answers w e kind number c p at is plain few =
    few_then c (acts_on setup answers w (bringing 0 e) number c) (acts setup answers w kind number c)
    (event_at setup answers w (bringing 0 e) kind number c p at (ap (bringing 0) is ∙ plain 0)) (few 0)

-- A delivery brings what came.
up_ok : {E S B : Type 0} (number size : ℕ) (engine : E) (r : Result EventDone B) (new : Link E S) (seat : Seat) (pipe : Option Pipe) (setup : Setup) (answers : Answers) (w : World) (e : Event) (n count : ℕ) (c : Connection) (p : Place)
    → c.standing ≡ In p → e ≡ event.ToServer n count
    → IfOk r (λ done. RefinesAct number size engine done new seat pipe (delivers_up answers (count_of done count) c) c)
    → IfOk r (λ done. RefinesAct number size engine done new seat pipe (acts_on setup answers w (met (loss_of done) e) number c) c)
up_ok number size engine r new seat pipe setup answers w e n count c p at is h =
    met_ok number size engine r new seat pipe c (λ done. acts_on setup answers w (met (loss_of done) e) number c) (λ done. delivers_up answers (count_of done count) c)
    (λ done. event_at setup answers w (met (loss_of done) e) (event.ToServer n (count_of done count)) number c p at (ap (met (loss_of done)) is ∙ up_met done.lost done.outcome n count)) h

up_few : (setup : Setup) (answers : Answers) (w : World) (e : Event) (number n count : ℕ) (c : Connection) (p : Place)
    → c.standing ≡ In p → e ≡ event.ToServer n count
    → ((k : ℕ) → IsCountable (after (acts_on setup answers w (bringing k e) number c) c))
    → (k : ℕ) → IsCountable (to_server answers k c)
up_few setup answers w e number n count c p at is few = λ k.
    few_then c (acts_on setup answers w (bringing k e) number c) (acts setup answers w (event.ToServer n k) number c)
    (event_at setup answers w (bringing k e) (event.ToServer n k) number c p at (ap (bringing k) is)) (few k)

down_ok : {E S B : Type 0} (number size : ℕ) (engine : E) (r : Result EventDone B) (new : Link E S) (seat : Seat) (pipe : Option Pipe) (setup : Setup) (answers : Answers) (w : World) (e : Event) (n count : ℕ) (c : Connection) (p : Place)
    → c.standing ≡ In p → e ≡ event.ToClient n count
    → IfOk r (λ done. RefinesAct number size engine done new seat pipe (delivers_down (count_of done count) c) c)
    → IfOk r (λ done. RefinesAct number size engine done new seat pipe (acts_on setup answers w (met (loss_of done) e) number c) c)
down_ok number size engine r new seat pipe setup answers w e n count c p at is h =
    met_ok number size engine r new seat pipe c (λ done. acts_on setup answers w (met (loss_of done) e) number c) (λ done. delivers_down (count_of done count) c)
    (λ done. event_at setup answers w (met (loss_of done) e) (event.ToClient n (count_of done count)) number c p at (ap (met (loss_of done)) is ∙ down_met done.lost done.outcome n count)) h

-- ---- Where it stands behind it

behind_ok : {E S B : Type 0} (number size : ℕ) (engine : E) (r : Result EventDone B) (new : Link E S) (client : ClientSession) (pipe : Option Pipe) (c : Connection) (acted : EventDone → Acted) (e kind : Event) (p : Place)
    → e ≡ kind
    → IfOk r (λ done. RefinesAct number size engine done new (seated (placed_behind kind client p) client) pipe (acted done) c)
    → IfOk r (λ done. RefinesAct number size engine done new (seated (placed_behind e client p) client) pipe (acted done) c)
behind_ok number size engine r new client pipe c acted e kind p is h =
    subst (λ (x : Event). IfOk r (λ done. RefinesAct number size engine done new (seated (placed_behind x client p) client) pipe (acted done) c)) (sym is) h

-- ---- What an event of the ends comes to

-- An event on a connection that isn't cut, at its ends.
module _ {E S B : Type 0} {engine : E} {link : Link E S} {p : Place} {before : ClientSession} {old : Option Pipe} {c : Connection} (setup : Setup) (answers : Answers) (w : World) (e : Event)
    (new : Link E S) (client : ClientSession) (pipe : Option Pipe) (r : Result EventDone B)
    (stands : RepresentsConnection link.number setup.packet_size engine link (seated p before) old c) (live : link.is_cut ≡ false) where
  at_place : c.standing ≡ In p
  at_place = stands_in link.number setup.packet_size engine link (seated p before) old c stands live

  -- One that can't meet the carrier.
  pub whole_act : (kind : Event) → e ≡ kind
      → IfOk r (λ done. DoesWhole link.number setup.packet_size engine done new (seated (placed_behind kind client p) client) pipe (acts setup answers w kind link.number c) c)
      → IfOk r (λ done. RefinesAct link.number setup.packet_size engine done new (seated (placed_behind e client p) client) pipe (acts_on setup answers w (met (loss_of done) e) link.number c) c)
  whole_act kind is h =
      behind_ok link.number setup.packet_size engine r new client pipe c (λ done. acts_on setup answers w (met (loss_of done) e) link.number c) e kind p is
      (whole_ok link.number setup.packet_size engine r new (seated (placed_behind kind client p) client) pipe (λ x. acts_on setup answers w x link.number c) e c
      (by_event_ok link.number setup.packet_size engine r new (seated (placed_behind kind client p) client) pipe c _ _ (event_at setup answers w e kind link.number c p at_place is) h))

  -- One that isn't a delivery.
  pub plain_act : (kind : Event) → e ≡ kind → ((k : ℕ) → bringing k kind ≡ kind)
      → ((k : ℕ) → IsCountable (after (acts_on setup answers w (bringing k e) link.number c) c))
      → (IsCountable (after (acts setup answers w kind link.number c) c) → IfOk r (λ done. RefinesAct link.number setup.packet_size engine done new (seated (placed_behind kind client p) client) pipe (acts setup answers w kind link.number c) c))
      → IfOk r (λ done. RefinesAct link.number setup.packet_size engine done new (seated (placed_behind e client p) client) pipe (acts_on setup answers w (met (loss_of done) e) link.number c) c)
  plain_act kind is plain few does =
      behind_ok link.number setup.packet_size engine r new client pipe c (λ done. acts_on setup answers w (met (loss_of done) e) link.number c) e kind p is
      (plain_ok link.number setup.packet_size engine r new (seated (placed_behind kind client p) client) pipe setup answers w e kind c p at_place is plain
      (does (plain_few setup answers w e kind link.number c p at_place is plain few)))

  pub up_act : (n count : ℕ) → e ≡ event.ToServer n count
      → ((k : ℕ) → IsCountable (after (acts_on setup answers w (bringing k e) link.number c) c))
      → (((k : ℕ) → IsCountable (to_server answers k c)) → IfOk r (λ done. RefinesAct link.number setup.packet_size engine done new (seated p client) pipe (delivers_up answers (count_of done count) c) c))
      → IfOk r (λ done. RefinesAct link.number setup.packet_size engine done new (seated (placed_behind e client p) client) pipe (acts_on setup answers w (met (loss_of done) e) link.number c) c)
  up_act n count is few does =
      behind_ok link.number setup.packet_size engine r new client pipe c (λ done. acts_on setup answers w (met (loss_of done) e) link.number c) e (event.ToServer n count) p is
      (up_ok link.number setup.packet_size engine r new (seated p client) pipe setup answers w e n count c p at_place is
      (does (up_few setup answers w e link.number n count c p at_place is few)))

  pub down_act : (n count : ℕ) → e ≡ event.ToClient n count
      → IfOk r (λ done. RefinesAct link.number setup.packet_size engine done new (drained (seated p client)) pipe (delivers_down (count_of done count) c) c)
      → IfOk r (λ done. RefinesAct link.number setup.packet_size engine done new (seated (placed_behind e client p) client) pipe (acts_on setup answers w (met (loss_of done) e) link.number c) c)
  down_act n count is does =
      behind_ok link.number setup.packet_size engine r new client pipe c (λ done. acts_on setup answers w (met (loss_of done) e) link.number c) e (event.ToClient n count) p is
      (down_ok link.number setup.packet_size engine r new (drained (seated p client)) pipe setup answers w e n count c p at_place is does)

-- ---- A connection that is cut

left_as : (e : Event) (c : Connection) → after (on_cut e c) c ≡ c
left_as event.Lease c = refl
left_as e c = refl

pub cut_alike : {E S : Type 0} (number size : ℕ) (engine : E) (link : Link E S) (seat : Seat) (pipe : Option Pipe) (setup : Setup) (answers : Answers) (w : World) (e : Event) (c : Connection) (done : EventDone)
    → RepresentsConnection number size engine link seat pipe c → link.is_cut ≡ true → done ≡ done_as (outcome_of (on_cut e c))
    → DoesWhole number size engine done link seat pipe (acts_on setup answers w e number c) c
cut_alike {E} {S} number size engine link seat pipe setup answers w e c done i gone is =
    let at : c.standing ≡ Cut = sym i.standing ∙ ap (λ (b : Bool). standing_by b seat.place) gone in
    subst (λ a. DoesWhole number size engine done link seat pipe a c) (sym (ap (λ (s : Standing). acts_at s setup answers w e number c) at))
    (is, subst (λ (d : Connection). RepresentsConnection number size engine link seat pipe d) (sym (left_as e c)) i)
