-- An application's connection is lent to it anew, with a reset that keeps its transaction.
use Rattle.std.proofs.Common.{◌≡◌, ◌∙◌, ◌==◌, ◌≤◌, ℕ, Bool, true, false, List, [], ◌∷◌, ◌++◌, refl, sym, ap, subst, inl}
use Rattle.std.specs.Prelude.{Option, Some, None, is_some, if◌then◌else◌}
use Rattle.tds_packet.specs.declared.status.Reset.{Reset}
use Rattle.tds_packet.specs.declared.status.Reset.TheVariants.{Full, KeepTransaction}
use Rattle.tds_packet.specs.Resets.{strongest}
use Rattle.tds_wire.specs.declared.told.Token.{Token}
use Rattle.tds_service.specs.Line as line
use Rattle.tds_service.specs.Line.{Line, Packet, LineStage}
use Rattle.tds_service.specs.History.{history, line_after}
use Rattle.tds_service.specs.Service.{on, steps}
use Rattle.laws_conforming_server.specs.Lawful.{Session, reset_by}
use Rattle.tds_relay.specs.declared.pool.Hold.{Hold}
use Rattle.tds_relay.specs.Pool as pool
use Rattle.tds_relay.specs.Pool.{Event, PoolTurn, find_key, holding, turn}
use Rattle.tds_relay.proofs.promises.Caring.{Sound}
use Rattle.laws_as_if_alone.specs.Serving.{ServerAsk, Resets, ServerEnd, Moment, Server, World, goes_out, happens, logged_in, packets_in, reset_if, said, takes_all}
use Rattle.laws_as_if_alone.specs.Alone.{asks_at, given_at, given_in, keeping_asks_by, underway}
use Rattle.tds_relay.proofs.held.Lists.{theirs_found}
use Rattle.tds_relay.proofs.held.Others.{Its, found, number_is}
use Rattle.tds_relay.proofs.held.Ours.{Gone, same_number}
use Rattle.tds_relay.proofs.held.Kept.{IsRelent, Renewed, Rests, Lends, Goes, marked_idle, relent, renewed, ticket_for}
use Rattle.laws_as_if_alone.proofs.Own.{Stands, StandsAt}
use Rattle.laws_as_if_alone.proofs.Story.{Holding, Next, goes_away, goes_on, logged, moved, seated, underway_held}

-- ---- The session that is left is the one alone

keeps_session : {V : Type 0} (server : Server V) (s : Session V) (mark : Option Reset) (x : Session V) → reset_if server mark x ≡ s
    → reset_if server (strongest (Some KeepTransaction) mark) x ≡ reset_by server.settings KeepTransaction s
keeps_session {V} server s None x e = ap (λ (y : Session V). reset_by server.settings KeepTransaction y) e
keeps_session {V} server s (Some Full) x e = ap (λ (y : Session V). reset_by server.settings KeepTransaction y) e
keeps_session {V} server s (Some KeepTransaction) x e = ap (λ (y : Session V). reset_by server.settings KeepTransaction y) e

marked_stands : {V : Type 0} (server : Server V) (s : Session V) (l : Line) (e : ServerEnd V) → l.stage ≡ line.Idle → Stands server s l e
    → Stands server (reset_by server.settings KeepTransaction s) (line_after {T = Token} l (line.Mark KeepTransaction ∷ [])) e
marked_stands {V} server s l e is h =
    let s2 = reset_by server.settings KeepTransaction s in
    let h2 : reset_if server l.heard.mark e.session ≡ s = subst (λ (st : LineStage). StandsAt server s st l.heard.mark e) is h in
    let k : StandsAt server s2 line.Idle (strongest (Some KeepTransaction) l.heard.mark) e = keeps_session server s l.heard.mark e.session h2 in
    let m : Stands server s2 (line.marked l KeepTransaction) e = subst (λ (st : LineStage). StandsAt server s2 st (strongest (Some KeepTransaction) l.heard.mark) e) (sym is) k in
    let P : line.Turn Token → Type 0 = λ (x : line.Turn Token). Stands server s2 x.line e in
    let done : P (line.marks {T = Token} l KeepTransaction l.stage) = subst P (sym (ap (λ (st : LineStage). line.marks {T = Token} l KeepTransaction st) is)) m in
    done

marked_quiet : (l : Line) → l.stage ≡ line.Idle → packets_in (history {T = Token} l (line.Mark KeepTransaction ∷ [])) ≡ []
marked_quiet l is = ap (λ (st : LineStage). (line.marks {T = Token} l KeepTransaction st).sent ++ []) is

abbrev kept_if : {V : Type 0} → Bool → Option ℕ → List (ServerAsk V)
kept_if resumes o = if is_some o then (if resumes then Resets KeepTransaction ∷ [] else Resets Full ∷ []) else []

-- what it asks by a renewal, by whether there is a ticket for it
renews_asks : {V : Type 0} (server : Server V) (key count : ℕ) (w : World V) (resumes : Bool) (m : Moment V) (h : Hold) → m.event ≡ pool.Renews key resumes → find_key key w.pool.holds ≡ Some h
    → asks_at key server w m count m.event ≡ kept_if {V = V} resumes (ticket_for w.pool h)
renews_asks {V} server key count w resumes m h is f =
    ap (λ (x : Event). asks_at key server w m count x) is ∙ (let same : (key == key) ≡ true = same_number key in rw same refl) ∙ ap (λ (x : Option Hold). keeping_asks_by {V = V} w.pool resumes x) f

-- ---- Not kept

unkept_next : {V : Type 0} (server : Server V) (key count : ℕ) (s : Session V) (w : World V) (resumes : Bool) (m : Moment V) (k : Holding server key s w) → m.event ≡ pool.Renews key resumes → Sound w.pool
    → ticket_for w.pool k.hold ≡ None → turn w.pool (pool.Renews key resumes) ≡ pool.pool_rests w.pool → Next server key count s w m
unkept_next {V} server key count s w resumes m k is sound none rest =
    let d = w.pool in
    let h = k.hold in
    let c = k.seat in
    let f = found d key h c sound k.its in
    let t : turn d m.event ≡ pool.pool_rests d = ap (λ (x : Event). turn d x) is ∙ rest in
    let its2 : Its (turn d m.event).pool key h c = subst (λ (x : PoolTurn). Its x.pool key h c) (sym t) (record { sole = k.its.sole; there = k.its.there; lent = k.its.lent; line = k.its.line }) in
    let out : goes_out turn d m.event h.number ≡ [] = ap (λ (x : PoolTurn). packets_in (on h.number (steps d.service x.calls))) t in
    let asks : asks_at key server w m count m.event ≡ [] = renews_asks server key count w resumes m h is f ∙ ap (λ (x : Option ℕ). kept_if {V = V} resumes x) none in
    let nothing : given_in key d m.event ≡ [] = ap (λ (x : Event). given_in key d x) is in
    goes_on server key count s w m h c c [] (w.ends h.number) [] [] sound k.its its2 out (ap (λ (x : Event). said h.number x (w.ends h.number)) is) asks nothing s k.stands (refl, refl)

-- ---- Kept

kept_next : {V : Type 0} (server : Server V) (key count : ℕ) (s : Session V) (w : World V) (m : Moment V) (k : Holding server key s w) (ticket : ℕ) → m.event ≡ pool.Renews key true → Sound w.pool
    → ticket_for w.pool k.hold ≡ Some ticket → k.seat.line.stage ≡ line.Idle → IsRelent w.pool key k.hold k.seat true → Next server key count s w m
kept_next {V} server key count s w m k ticket is sound some idle r =
    let d = w.pool in
    let h = k.hold in
    let c = k.seat in
    let f = found d key h c sound k.its in
    let h2 = holding h.key r.lease c.number in
    let c2 = relent r.lease c in
    let l2 = c2.line in
    let its2 : Its (turn d m.event).pool key h2 c2 = subst (λ (x : Event). Its (turn d x).pool key h2 c2) (sym is) r.its in
    let out : goes_out turn d m.event c.number ≡ [] = ap (λ (x : Event). packets_in (on c.number (steps d.service (turn d x).calls))) is ∙ ap packets_in r.out ∙ marked_quiet c.line idle in
    let number = number_is d key h c sound k.its in
    let e = w.ends h.number in
    let low = subst (λ (x : ℕ). x ≤ d.service.last) (sym number) (seated d key h c sound k.its) in
    let end : (happens turn server w m).ends c.number ≡ e =
    ap (λ (x : List Packet). takes_all server m x (said c.number m.event (logged_in server d.service c.number (w.ends c.number)))) out
    ∙ ap (λ (x : Event). said c.number x (logged_in server d.service c.number (w.ends c.number))) is
    ∙ logged server d.service c.number (w.ends c.number) low ∙ ap (λ (x : ℕ). w.ends x) number in
    let s2 = reset_by server.settings KeepTransaction s in
    let stands : Stands server s2 l2 e = marked_stands server s c.line e idle k.stands in
    let asks : asks_at key server w m count m.event ≡ Resets KeepTransaction ∷ [] = renews_asks server key count w true m h is f ∙ ap (λ (x : Option ℕ). kept_if {V = V} true x) some in
    let nothing_given : given_in key d m.event ≡ [] = ap (λ (x : Event). given_in key d x) is in
    let before : underway key w ≡ [] = underway_held key w h c line.Idle f k.its.there idle in
    let behind : underway key (happens turn server w m) ≡ [] =
    underway_held key (happens turn server w m) h2 c2 line.Idle (theirs_found key h2 (turn d m.event).pool.holds its2.sole) its2.there (marked_idle c.line idle) in
    record {
      next = s2;
      story = inl (record { hold = h2; seat = c2; its = its2; stands = subst (λ (x : ServerEnd V). Stands server s2 l2 x) (sym end) stands });
      follows = moved server count s s2 (underway key w) [] (asks_at key server w m count m.event) (Resets KeepTransaction ∷ []) (given_in key d m.event) [] (underway key (happens turn server w m)) []
          before asks nothing_given behind (refl, (refl, refl, refl));
    }

-- Where memory is refused to it, it's closed.
refused_next : {V : Type 0} (server : Server V) (key count : ℕ) (s : Session V) (w : World V) (m : Moment V) (k : Holding server key s w) (ticket : ℕ) → m.event ≡ pool.Renews key false → Sound w.pool
    → ticket_for w.pool k.hold ≡ Some ticket → k.seat.line.stage ≡ line.Idle → Gone key (turn w.pool (pool.Renews key false)).pool → Next server key count s w m
refused_next {V} server key count s w m k ticket is sound some idle gone =
    let d = w.pool in
    let h = k.hold in
    let c = k.seat in
    let there : Gone key (turn d m.event).pool = subst (λ (x : Event). Gone key (turn d x).pool) (sym is) gone in
    let asks : asks_at key server w m count m.event ≡ Resets Full ∷ [] =
    renews_asks server key count w false m h is (found d key h c sound k.its) ∙ ap (λ (x : Option ℕ). kept_if {V = V} false x) some in
    let due : given_at c.line.stage (w.ends h.number).due ≡ [] = ap (λ (x : LineStage). given_at x (w.ends h.number).due) idle in
    goes_away server key count s w m h c (Resets Full ∷ []) sound k.its there.holds (inl there.waits) asks (ap (λ (x : Event). given_in key d x) is) (refl, (due, refl, refl))

renewed_next : {V : Type 0} (server : Server V) (key count : ℕ) (s : Session V) (w : World V) (resumes : Bool) (m : Moment V) (k : Holding server key s w) → m.event ≡ pool.Renews key resumes → Sound w.pool
    → Renewed w.pool key k.hold k.seat resumes → Next server key count s w m
renewed_next server key count s w resumes m k is sound (Rests none rest) = unkept_next server key count s w resumes m k is sound none rest
renewed_next server key count s w true m k is sound (Lends ticket some given idle lent) = kept_next server key count s w m k ticket is sound some idle lent
renewed_next server key count s w false m k is sound (Lends ticket some given idle lent) = absurd (let u : ⊥ = cc in u)
renewed_next server key count s w true m k is sound (Goes ticket some given idle gone) = absurd (let u : ⊥ = cc in u)
renewed_next server key count s w false m k is sound (Goes ticket some given idle gone) = refused_next server key count s w m k ticket is sound some idle gone

pub renews_next : {V : Type 0} (server : Server V) (key count : ℕ) (s : Session V) (w : World V) (resumes : Bool) (m : Moment V) (k : Holding server key s w) → m.event ≡ pool.Renews key resumes → Sound w.pool
    → Next server key count s w m
renews_next server key count s w resumes m k is sound = renewed_next server key count s w resumes m k is sound (renewed w.pool key k.hold k.seat sound k.its resumes)
