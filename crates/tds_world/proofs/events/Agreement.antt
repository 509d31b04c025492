-- Leases and tickets agree with where connections stand, after any events.
use Rattle.std.proofs.Common.{◌≡◌, ◌≢◌, ℕ, zero, suc, List, [], ◌∷◌, ◌++◌, map, true, false, inl, inr, refl, sym, ap, subst, ◌∙◌, Some, None}
use Rattle.tds_session.specs.Answer.{Answers}
use Rattle.tds_world.specs.declared.event.Event.{Event}
use Rattle.tds_world.specs.declared.event.Event.TheVariants as event
use Rattle.tds_world.specs.declared.event.Setup.{Setup}
use Rattle.tds_world.specs.declared.outcome.Outcome.{Outcome}
use Rattle.tds_world.specs.declared.report.Place.{Place}
use Rattle.tds_world.specs.declared.report.Place.TheVariants as place
use Rattle.tds_world.specs.Connection.{Connection, new_connection, In, Cut, cut}
use Rattle.tds_world.specs.Events.{about, acts, settles, happens_at, happens}
use Rattle.tds_world.specs.Pool.{Acted, Refuses, Does, opens}
use Rattle.tds_world.specs.World.{World, new_world, Holding, Found, Missing, Here, Opens, numbered, next_number, put_numbered, holding, holding_ended, ended_numbered}
use Rattle.tds_world.proofs.events.Happens.{happens_cases}
use Rattle.tds_world.proofs.events.Places.{StandsAt, Holds, Agrees, StandsFor, FoundWith, about_stands, Moved, moved_holds, here_holds, holds_put, holds_end_at, none_at_end, began, is_over}
use Rattle.tds_world.proofs.events.Standings.{IsHeld, Still, StandsThen, stands_then}
use Rattle.tds_world.proofs.events.Words.{OfActed}

-- The holders of one kind have their connections.
abbrev HaveAll : (ℕ → Place) → List Holding → List Connection → Type 0
HaveAll P hs cs = (l : ℕ) (h : Holding) → numbered hs l ≡ Some h → h.over ≡ false → Holds (P l) (numbered cs h.conn)

-- ---- A connection moves from a holder at p0

same_have : (P : ℕ → Place) (w : World) (n : ℕ) (p0 : Place) (c : Connection) (hs : List Holding) → Moved w n p0 c → ((l : ℕ) → p0 ≢ P l) → HaveAll P hs w.connections → HaveAll P hs (put_numbered n c w.connections)
same_have P w n p0 c hs m differ have l h e f = moved_holds w n p0 (P l) c h.conn m (differ l) (have l h e f)

end_have : (P : ℕ → Place) (w : World) (n : ℕ) (p0 : Place) (c : Connection) (hs : List Holding) (over : ℕ) → Moved w n p0 c → ((l : ℕ) → l ≢ over → p0 ≢ P l) → HaveAll P hs w.connections → HaveAll P (ended_numbered over hs) (put_numbered n c w.connections)
end_have P w n p0 c hs over m differ have l h e f =
    let k : (numbered hs l ≡ Some h) × (l ≢ over) = is_over over hs l h e f in
    moved_holds w n p0 (P l) c h.conn m (differ l k.1) (have l h k.0 f)

begin_have : (P : ℕ → Place) (w : World) (n : ℕ) (p0 : Place) (c : Connection) (hs : List Holding) (x : Holding) → Moved w n p0 c → ((l : ℕ) → p0 ≢ P l) → c.standing ≡ In (P (next_number hs)) → x.conn ≡ n → HaveAll P hs w.connections → HaveAll P (hs ++ x ∷ []) (put_numbered n c w.connections)
begin_have P w n p0 c hs x m differ stands at have l h e f = elim (began hs x h l e) [
  | inl k ↦ moved_holds w n p0 (P l) c h.conn m (differ l) (have l h k f)
  | inr k ↦
      let here : n ≡ h.conn = sym at ∙ ap (λ (y : Holding). y.conn) k.1 in
      let holds : Holds (P (next_number hs)) (numbered (put_numbered n c w.connections) n) = here_holds w n p0 (P (next_number hs)) c m stands in
      let there : Holds (P (next_number hs)) (numbered (put_numbered n c w.connections) h.conn) = subst (λ i. Holds (P (next_number hs)) (numbered (put_numbered n c w.connections) i)) here holds in
      subst (λ i. Holds (P i) (numbered (put_numbered n c w.connections) h.conn)) (sym k.0) there
]

-- ---- A connection stays with its holder

still_have : (P : ℕ → Place) → ((l : ℕ) → IsHeld (P l)) → (n : ℕ) (c old : Connection) (hs : List Holding) (cs : List Connection) → numbered cs n ≡ Some old → Still old.standing c.standing → HaveAll P hs cs → HaveAll P hs (put_numbered n c cs)
still_have P held n c old hs cs there still have l h e f =
    holds_put (P l) n c cs h.conn
    (λ d z s. let same : d ≡ old = let q : Some d ≡ Some old = sym z ∙ there in cc in still (P l) (held l) (subst (λ x. StandsAt (P l) x.standing) same s))
    (have l h e f)

-- ---- A connection is opened

new_have : (P : ℕ → Place) (c : Connection) (hs : List Holding) (cs : List Connection) → HaveAll P hs cs → HaveAll P hs (put_numbered (next_number cs) c cs)
new_have P c hs cs have l h e f =
    holds_put (P l) (next_number cs) c cs h.conn (λ d z s. absurd (none_at_end cs d z)) (have l h e f)

open_have : (P : ℕ → Place) (c : Connection) (hs : List Holding) (x : Holding) (cs : List Connection) → c.standing ≡ In (P (next_number hs)) → x.conn ≡ next_number cs → HaveAll P hs cs → HaveAll P (hs ++ x ∷ []) (put_numbered (next_number cs) c cs)
open_have P c hs x cs stands at have l h e f = elim (began hs x h l e) [
  | inl k ↦ new_have P c hs cs have l h k f
  | inr k ↦
      let here : next_number cs ≡ h.conn = sym at ∙ ap (λ (y : Holding). y.conn) k.1 in
      let holds : Holds (P (next_number hs)) (numbered (put_numbered (next_number cs) c cs) (next_number cs)) = holds_end_at (P (next_number hs)) c cs (inl stands) in
      let there : Holds (P (next_number hs)) (numbered (put_numbered (next_number cs) c cs) h.conn) = subst (λ i. Holds (P (next_number hs)) (numbered (put_numbered (next_number cs) c cs) i)) here holds in
      subst (λ i. Holds (P i) (numbered (put_numbered (next_number cs) c cs) h.conn)) (sym k.0) there
]

-- ---- One that is over at once

over_have : (P : ℕ → Place) (hs : List Holding) (x : Holding) (cs : List Connection) → x.over ≡ true → HaveAll P hs cs → HaveAll P (hs ++ x ∷ []) cs
over_have P hs x cs over have l h e f = elim (began hs x h l e) [
  | inl k ↦ have l h k f
  | inr k ↦ let z : true ≡ false = sym over ∙ (ap (λ (y : Holding). y.over) k.1 ∙ f) in absurd (cc)
]

-- ---- One event

is_there : (w : World) (n : ℕ) (p0 : Place) (old c : Connection) → numbered w.connections n ≡ Some old → old.standing ≡ In p0 → Moved w n p0 c
is_there w n p0 old c e s = record {
  old = old;
  there = e;
  stood = inl s;
  stays = λ z. let y : In p0 ≡ Cut = sym s ∙ z in absurd (cc);
}

free_not_leased : (l : ℕ) → place.Free ≢ place.Leased l
free_not_leased l = λ e. absurd (cc)

free_not_kept : (l : ℕ) → place.Free ≢ place.Kept l
free_not_kept l = λ e. absurd (cc)

kept_not_leased : (t l : ℕ) → place.Kept t ≢ place.Leased l
kept_not_leased t l = λ e. absurd (cc)

leased_not_kept : (l t : ℕ) → place.Leased l ≢ place.Kept t
leased_not_kept l t = λ e. absurd (cc)

other_lease : (l k : ℕ) → k ≢ l → place.Leased l ≢ place.Leased k
other_lease l k differ = λ e. differ (let same : k ≡ l = cc in same)

other_ticket : (t k : ℕ) → k ≢ t → place.Kept t ≢ place.Kept k
other_ticket t k differ = λ e. differ (let same : k ≡ t = cc in same)

stays_agreed : (w : World) (n : ℕ) (c old : Connection) → Agrees w → numbered w.connections n ≡ Some old → Still old.standing c.standing → Agrees (record w { connections = put_numbered n c w.connections })
stays_agreed w n c old a there still = record {
  leases = still_have place.Leased (λ l. tt) n c old w.leases w.connections there still a.leases;
  tickets = still_have place.Kept (λ t. tt) n c old w.tickets w.connections there still a.tickets;
}

-- An event that did something to the connection that was found.
did_agree : (w : World) (e : Event) (n : ℕ) (old c : Connection) (what : Outcome) → Agrees w → numbered w.connections n ≡ Some old → StandsFor e old.standing → StandsThen w e old.standing c.standing → Agrees (settles e n w (Does what c)).1
did_agree w event.Lease n old c what a there stood then =
    let m : Moved w n place.Free c = is_there w n place.Free old c there stood in record {
      leases = begin_have place.Leased w n place.Free c w.leases (holding n c.heard None) m free_not_leased then refl a.leases;
      tickets = same_have place.Kept w n place.Free c w.tickets m free_not_kept a.tickets;
    }
did_agree w (event.Resume t) n old c what a there stood then =
    let m : Moved w n (place.Kept t) c = is_there w n (place.Kept t) old c there stood in record {
      leases = begin_have place.Leased w n (place.Kept t) c w.leases (holding n c.heard (Some t)) m (kept_not_leased t) then refl a.leases;
      tickets = end_have place.Kept w n (place.Kept t) c w.tickets t m (other_ticket t) a.tickets;
    }
did_agree w (event.GiveBack l) n old c what a there stood then =
    let m : Moved w n (place.Leased l) c = record { old = old; there = there; stood = stood; stays = then } in record {
      leases = end_have place.Leased w n (place.Leased l) c w.leases l m (other_lease l) a.leases;
      tickets = same_have place.Kept w n (place.Leased l) c w.tickets m (leased_not_kept l) a.tickets;
    }
did_agree w (event.Keep l) n old c what a there stood then =
    let m : Moved w n (place.Leased l) c = is_there w n (place.Leased l) old c there stood in record {
      leases = end_have place.Leased w n (place.Leased l) c w.leases l m (other_lease l) a.leases;
      tickets = begin_have place.Kept w n (place.Leased l) c w.tickets (holding n c.heard None) m (leased_not_kept l) then refl a.tickets;
    }
did_agree w (event.Abandon t) n old c what a there stood then =
    let m : Moved w n (place.Kept t) c = record { old = old; there = there; stood = stood; stays = then } in record {
      leases = same_have place.Leased w n (place.Kept t) c w.leases m (kept_not_leased t) a.leases;
      tickets = end_have place.Kept w n (place.Kept t) c w.tickets t m (other_ticket t) a.tickets;
    }
did_agree w (event.Clean k) n old c what a there stood then =
    let g : Agrees (record w { connections = put_numbered n c w.connections }) = stays_agreed w n c old a there then in record {
      leases = over_have place.Leased w.leases (holding_ended (holding n c.heard None)) (put_numbered n c w.connections) refl g.leases;
      tickets = g.tickets;
    }
did_agree w (event.Ask l q) n old c what a there stood then =
    let k : Agrees (record w { connections = put_numbered n c w.connections }) = stays_agreed w n c old a there then in
    record { leases = k.leases; tickets = k.tickets }
did_agree w (event.Send l) n old c what a there stood then = stays_agreed w n c old a there then
did_agree w e n old c what a there stood then = stays_agreed w n c old a there then

acted_agrees : (w : World) (e : Event) (n : ℕ) (old : Connection) (x : Acted) → Agrees w → numbered w.connections n ≡ Some old → StandsFor e old.standing → OfActed (λ d. StandsThen w e old.standing d.standing) x → Agrees (settles e n w x).1
acted_agrees w e n old (Refuses why) a there stood then = a
acted_agrees w e n old (Does what c) a there stood then = did_agree w e n old c what a there stood then

opened_agrees : (setup : Setup) (w : World) (n : ℕ) → n ≡ next_number w.connections → Agrees w → Agrees (settles event.Lease n w (opens setup.on_attention (next_number w.leases) n)).1
opened_agrees setup w n e a =
    subst (λ i. Agrees (settles event.Lease i w (opens setup.on_attention (next_number w.leases) i)).1) (sym e) (record {
      leases = open_have place.Leased (new_connection setup.on_attention (place.Leased (next_number w.leases))) w.leases (holding (next_number w.connections) 0 None) w.connections refl refl a.leases;
      tickets = new_have place.Kept (new_connection setup.on_attention (place.Leased (next_number w.leases))) w.tickets w.connections a.tickets;
    })

found_agrees : (setup : Setup) (answers : Answers) (e : Event) (w : World) (f : Found) → Agrees w → FoundWith w (StandsFor e) f → Agrees (happens_at setup answers e w f).1
found_agrees setup answers e w (Missing why) a g = a
found_agrees setup answers e w (Here n c) a g = acted_agrees w e n c (acts setup answers w e n c) a g.0 g.1 (stands_then setup answers w e n c)
found_agrees setup answers e w (Opens n) a g = opened_agrees setup w n g a

cut_holds_at : (p : Place) (cs : List Connection) (k : ℕ) → Holds p (numbered cs (suc k)) → Holds p (numbered (map cut cs) (suc k))
cut_holds_at p [] k h = h
cut_holds_at p (c ∷ cs) zero h = inr refl
cut_holds_at p (c ∷ cs) (suc k) h = cut_holds_at p cs k h

cut_holds : (p : Place) (cs : List Connection) (k : ℕ) → Holds p (numbered cs k) → Holds p (numbered (map cut cs) k)
cut_holds p cs zero h = h
cut_holds p cs (suc k) h = cut_holds_at p cs k h

all_ended : (hs : List Holding) (k : ℕ) (h : Holding) → numbered (map holding_ended hs) (suc k) ≡ Some h → h.over ≡ true
all_ended [] k h e = absurd (cc)
all_ended (x ∷ xs) zero h e = let same : holding_ended x ≡ h = cc in sym (ap (λ (y : Holding). y.over) same)
all_ended (x ∷ xs) (suc k) h e = all_ended xs k h e

none_have : (P : ℕ → Place) (hs : List Holding) (cs : List Connection) → HaveAll P (map holding_ended hs) cs
none_have P hs cs zero h e f = absurd (cc)
none_have P hs cs (suc k) h e f = let z : true ≡ false = sym (all_ended hs k h e) ∙ f in absurd (cc)

at_event : (setup : Setup) (answers : Answers) (e : Event) (w : World) → Agrees w → Agrees (happens_at setup answers e w (about setup w e)).1
at_event setup answers e w a = found_agrees setup answers e w (about setup w e) a (about_stands setup w e a)

pub happens_agrees : (setup : Setup) (answers : Answers) (e : Event) (w : World) → Agrees w → Agrees (happens setup answers e w).1
happens_agrees setup answers e w a =
    happens_cases setup answers w (λ e r. Agrees r.1)
    (record {
      leases = λ l h e f. cut_holds (place.Leased l) w.connections h.conn (a.leases l h e f);
      tickets = λ t h e f. cut_holds (place.Kept t) w.connections h.conn (a.tickets t h e f);
    })
    (record {
      leases = none_have place.Leased w.leases (map cut w.connections);
      tickets = none_have place.Kept w.tickets (map cut w.connections);
    })
    (λ e. at_event setup answers e w a) e

no_holding : (l : ℕ) (h : Holding) → numbered [] l ≡ Some h → ⊥
no_holding zero h e = absurd (cc)
no_holding (suc l) h e = absurd (cc)

-- Before any event there are none.
pub new_agrees : Agrees new_world
new_agrees = record {
  leases = λ l h e f. absurd (no_holding l h e);
  tickets = λ t h e f. absurd (no_holding t h e);
}
