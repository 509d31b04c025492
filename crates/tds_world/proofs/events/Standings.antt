-- What each act does to where a connection stands.
use Rattle.std.proofs.Common.{◌≡◌, ℕ, List, [], ◌∷◌, Bool, true, false, length, ltb, inl, inr, refl, sym, subst, ◌∙◌, Option, Some, None, ◌-◌, ◌+◌, min}
use Rattle.std.specs.Prelude.{◌==◌, ◌||◌}
use Rattle.tds_request.specs.declared.request.Request.{Request}
use Rattle.tds_session.specs.Answer as answer
use Rattle.tds_session.specs.Answer.{Answers}
use Rattle.tds_world.specs.declared.event.Event.{Event}
use Rattle.tds_world.specs.declared.event.Event.TheVariants as event
use Rattle.tds_world.specs.declared.event.Setup.{Setup}
use Rattle.tds_world.specs.declared.report.Place.{Place}
use Rattle.tds_world.specs.declared.report.Place.TheVariants as place
use Rattle.tds_world.specs.Arrivals.{server_acts, client_acts, reach_server, reach_client, to_server, to_client, works, works_on, drained}
use Rattle.tds_world.specs.Caller.{cancels, cancels_in, cancels_by, sends_by, sends_last}
use Rattle.tds_world.specs.Cleaning.{can_clean}
use Rattle.tds_world.specs.Connection.{Connection, phase, is_idle, Standing, In, Cut, up_underway, down_underway}
use Rattle.tds_world.specs.Entries.{Up, Part, Down, Step, Acknowledgement, up_bytes, down_bytes}
use Rattle.tds_world.specs.Events.{acts, asks_by, cleans_by, sends_in}
use Rattle.tds_world.specs.Lane.{passed, with_waiting}
use Rattle.tds_world.specs.Phase.{Phase, Settled, Asked, Sending, Reading, Cancelling, phase_of}
use Rattle.tds_world.specs.Pool.{is_free, gives_back_at, abandons_at, keeps_by, is_full}
use Rattle.tds_world.specs.Record.{Record}
use Rattle.tds_world.specs.World.{World, next_number}
use Rattle.tds_world.proofs.events.Places.{StandsAt, free_stands}
use Rattle.tds_world.proofs.events.Words.{OfActed, either}

-- A place that a lease or a ticket has.
abbrev pub IsHeld : Place → Type 0
IsHeld (place.Leased l) = Unit {0}
IsHeld (place.Kept t) = Unit {0}
IsHeld place.Free = ⊥
IsHeld place.Draining = ⊥

-- Whoever has the connection has it still.
abbrev pub Still : Standing → Standing → Type 0
Still s t = (p : Place) → IsHeld p → StandsAt p s → StandsAt p t

-- Where a connection stands after an event that does something.
abbrev pub StandsThen : World → Event → Standing → Standing → Type 0
StandsThen w event.Lease s t = t ≡ In (place.Leased (next_number w.leases))
StandsThen w (event.Resume _) s t = t ≡ In (place.Leased (next_number w.leases))
StandsThen w (event.GiveBack l) s t = s ≡ Cut → t ≡ Cut
StandsThen w (event.Keep l) s t = t ≡ In (place.Kept (next_number w.tickets))
StandsThen w (event.Abandon _) s t = s ≡ Cut → t ≡ Cut
StandsThen w e s t = Still s t

same_still : (s t : Standing) → t ≡ s → Still s t
same_still s t e p i h = subst (StandsAt p) (sym e) h

pub cancels_stand_by : (p : Phase) (q : Record) (c : Connection) → (cancels_by p q c).standing ≡ c.standing
cancels_stand_by Settled q c = refl
cancels_stand_by p q c = refl

pub cancels_stand_in : (current : Option Record) (c : Connection) → (cancels_in current c).standing ≡ c.standing
cancels_stand_in None c = refl
cancels_stand_in (Some q) c = cancels_stand_by (phase_of q) q c

pub works_stand : (c : Connection) (due : List answer.Step) → (works_on c due).standing ≡ c.standing
works_stand c [] = refl
works_stand c (s ∷ ss) = refl

server_stands : (answers : Answers) (c : Connection) (e : Up) → (server_acts answers c e).standing ≡ c.standing
server_stands answers c (Part r p) = refl
server_stands answers c e = refl

client_stands : (c : Connection) (e : Down) → (client_acts c e).standing ≡ c.standing
client_stands c (Step r place s) = refl
client_stands c (Acknowledgement r place changes) = refl

pub reach_server_stands : (answers : Answers) (c : Connection) (es : List Up) (k : ℕ) → (reach_server answers c es k).standing ≡ c.standing
reach_server_stands answers c [] k = refl
reach_server_stands answers c (e ∷ es) k =
    let p : Connection = record c { to_server = passed e c.to_server } in
    either (λ x. x.standing ≡ c.standing) (ltb k (length (up_bytes e))) (record c { to_server = with_waiting (e ∷ es) k c.to_server }) (reach_server answers (server_acts answers p e) es (k - length (up_bytes e))) refl
    (reach_server_stands answers (server_acts answers p e) es (k - length (up_bytes e)) ∙ server_stands answers p e)

pub reach_client_stands : (c : Connection) (es : List Down) (k : ℕ) → (reach_client c es k).standing ≡ c.standing
reach_client_stands c [] k = refl
reach_client_stands c (e ∷ es) k =
    let p : Connection = record c { to_client = passed e c.to_client } in
    either (λ x. x.standing ≡ c.standing) (ltb k (length (down_bytes e))) (record c { to_client = with_waiting (e ∷ es) k c.to_client }) (reach_client (client_acts p e) es (k - length (down_bytes e))) refl
    (reach_client_stands (client_acts p e) es (k - length (down_bytes e)) ∙ client_stands p e)

-- A connection that drains has no holder.
drained_still : (idle : Bool) (s : Standing) → Still s (drained idle s)
drained_still true (In place.Draining) p i h = elim h [
  | inl e ↦ let z : place.Draining ≡ p = cc in absurd (subst IsHeld (sym z) i)
  | inr e ↦ absurd (cc)
]
drained_still true (In place.Free) p i h = h
drained_still true (In (place.Leased l)) p i h = h
drained_still true (In (place.Kept t)) p i h = h
drained_still true Cut p i h = h
drained_still false s p i h = h

to_client_still : (n : ℕ) (c : Connection) → Still c.standing (to_client n c).standing
to_client_still n c p i h =
    let d : Connection = reach_client c c.to_client.waiting (c.to_client.part + min n (down_underway c)) in
    drained_still (is_idle d) d.standing p i
    (subst (StandsAt p) (sym (reach_client_stands c c.to_client.waiting (c.to_client.part + min n (down_underway c)))) h)

cut_still : (s : Standing) → Still s Cut
cut_still s p i h = inr refl

back_then : (s : Standing) (c : Connection) → c.standing ≡ s → OfActed (λ d. c.standing ≡ Cut → d.standing ≡ Cut) (gives_back_at s c)
back_then (In p) c e = λ z. let y : In p ≡ Cut = sym e ∙ z in absurd (cc)
back_then Cut c e = λ z. e

abandoned_then : (s : Standing) (c : Connection) → c.standing ≡ s → OfActed (λ d. c.standing ≡ Cut → d.standing ≡ Cut) (abandons_at s c)
abandoned_then (In p) c e = λ z. let y : In p ≡ Cut = sym e ∙ z in absurd (cc)
abandoned_then Cut c e = λ z. e

kept_then : (idle nothing : Bool) (ticket : ℕ) (c : Connection) → OfActed (λ d. d.standing ≡ In (place.Kept ticket)) (keeps_by idle nothing ticket c)
kept_then false nothing ticket c = tt
kept_then true true ticket c = tt
kept_then true false ticket c = refl

asked_then : (b : Bool) (number lease n : ℕ) (q : Request) (c : Connection) → OfActed (λ d. Still c.standing d.standing) (asks_by b number lease n q c)
asked_then true number lease n q c = same_still c.standing c.standing refl
asked_then false number lease n q c = tt

pub sends_stand : (b : Bool) (room : ℕ) (q : Record) (c : Connection) → (sends_by b room q c).standing ≡ c.standing
sends_stand true room q c = refl
sends_stand false room q c = refl

sent_then : (p : Phase) (room : ℕ) (current : Option Record) (c : Connection) → OfActed (λ d. Still c.standing d.standing) (sends_in p room current c)
sent_then Asked room (Some q) c = same_still c.standing (sends_by (sends_last room q) room q c).standing (sends_stand (sends_last room q) room q c)
sent_then Sending room (Some q) c = same_still c.standing (sends_by (sends_last room q) room q c).standing (sends_stand (sends_last room q) room q c)
sent_then Asked room None c = tt
sent_then Sending room None c = tt
sent_then Settled room current c = tt
sent_then Reading room current c = tt
sent_then Cancelling room current c = tt

-- Nobody has a free connection.
pub free_still : (s t : Standing) → s ≡ In place.Free → Still s t
free_still s t e p i h = elim h [
  | inl f ↦ let z : place.Free ≡ p = (let y : In place.Free ≡ In p = sym e ∙ f in cc) in absurd (subst IsHeld (sym z) i)
  | inr f ↦ let z : In place.Free ≡ Cut = sym e ∙ f in absurd (cc)
]

cleaned_then : (free can : Bool) (room lease number n : ℕ) (c : Connection) → is_free c.standing ≡ free → OfActed (λ d. Still c.standing d.standing) (cleans_by free can room lease number n c)
cleaned_then false can room lease number n c e = tt
cleaned_then true false room lease number n c e = tt
cleaned_then true true room lease number n c e = free_still c.standing (In place.Draining) (free_stands c.standing e)

-- Each event.
pub stands_then : (setup : Setup) (answers : Answers) (w : World) (e : Event) (n : ℕ) (c : Connection) → OfActed (λ d. StandsThen w e c.standing d.standing) (acts setup answers w e n c)
stands_then setup answers w event.Lease n c = refl
stands_then setup answers w (event.Resume t) n c = refl
stands_then setup answers w (event.GiveBack l) n c = back_then c.standing c refl
stands_then setup answers w (event.Keep l) n c = kept_then (is_idle c) (c.heard == 0 || is_full c.mark) (next_number w.tickets) c
stands_then setup answers w (event.Abandon t) n c = abandoned_then c.standing c refl
stands_then setup answers w (event.Clean k) n c =
    cleaned_then (is_free c.standing) (can_clean (setup.packet_size - 8) (next_number w.leases) (next_number w.asked_on) n c) (setup.packet_size - 8) (next_number w.leases) (next_number w.asked_on) n c refl
stands_then setup answers w (event.Ask l q) n c = asked_then (is_idle c) (next_number w.asked_on) l n q c
stands_then setup answers w (event.Send l) n c = sent_then (phase c) (setup.packet_size - 8) c.current c
stands_then setup answers w (event.Cancel l) n c = same_still c.standing (cancels c).standing (cancels_stand_in c.current c)
stands_then setup answers w (event.Work k) n c = same_still c.standing (works c).standing (works_stand c c.due)
stands_then setup answers w (event.ToServer k m) n c =
    same_still c.standing (to_server answers m c).standing (reach_server_stands answers c c.to_server.waiting (c.to_server.part + min m (up_underway c)))
stands_then setup answers w (event.ToClient k m) n c = to_client_still m c
stands_then setup answers w (event.Cut k) n c = cut_still c.standing
stands_then setup answers w event.RestartServer n c = tt
stands_then setup answers w event.RestartClient n c = tt
