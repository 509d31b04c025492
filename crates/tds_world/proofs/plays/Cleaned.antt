-- What each act leaves of a connection that was cleaned and that nobody has.
use Rattle.std.proofs.Common.{◌≡◌, ◌≢◌, ◌-◌, ◌+◌, ℕ, zero, suc, List, [], ◌∷◌, map, length, Bool, true, false, eqb, ltb, min, inl, inr, refl, sym, ap, subst, ◌∙◌, Option, Some, None, option_map}
use Rattle.std.specs.Prelude.{slice_get}
use Rattle.tds_session.specs.Answer as answer
use Rattle.tds_session.specs.Answer.{Answers}
use Rattle.tds_token.specs.declared.env_change.EnvChange.{EnvChange}
use Rattle.tds_world.specs.declared.event.Event.{Event}
use Rattle.tds_world.specs.declared.event.Event.TheVariants as event
use Rattle.tds_world.specs.declared.event.Setup.{Setup}
use Rattle.tds_world.specs.declared.report.Place.TheVariants as place
use Rattle.tds_world.specs.Arrivals.{server_acts, client_acts, reach_server, reach_client, works_on, drained}
use Rattle.tds_world.specs.Cleaning.{can_clean}
use Rattle.tds_world.specs.Connection.{Connection, Standing, In, Cut, cut, up_underway, down_underway}
use Rattle.tds_world.specs.Entries.{Up, Down, Step, Acknowledgement, up_bytes, down_bytes}
use Rattle.tds_world.specs.Events.{acts, cleans_by}
use Rattle.tds_world.specs.Lane.{passed, with_waiting}
use Rattle.tds_world.specs.Lawful.{Lawful}
use Rattle.tds_world.specs.left_clean.LeftCleanShown.{lent_here}
use Rattle.tds_world.specs.Phase.{phase_by, phase_in}
use Rattle.tds_world.specs.Pool.{Acted, Refuses, Does, is_free, gives_back_at, abandons_at}
use Rattle.tds_world.specs.Record.{Record, Fate, Open, Finished, Cancelled, Acknowledged, Out, NotBegun, Begun, Whole, is_cancelled, gives, runs, when, if_numbered}
use Rattle.tds_world.specs.World.{World, numbered, next_number, put, put_numbered}
use Rattle.tds_world.proofs.events.Moves.{KeptByMoves}
use Rattle.tds_world.proofs.events.Places.{StandsFor}
use Rattle.tds_world.proofs.events.Standings.{works_stand, reach_server_stands, reach_client_stands}
use Rattle.tds_world.proofs.events.Words.{either}
use Rattle.tds_world.proofs.flow.Fates.{step_cancels_none}
use Rattle.tds_world.proofs.flow.Flow.{FlowIn, SoundWith, Sound, number_in}
use Rattle.tds_world.proofs.flow.Sound.{sound_moves}
use Rattle.tds_world.proofs.reports.Asks.{same_number}
use Rattle.tds_world.proofs.requests.LeftClean.{AsksClean}
use Rattle.tds_world.proofs.rest.Arriving.{server_leaves_newest}

-- The newest request is a cleaning's, and nobody cancelled it.
abbrev pub CleanedIn : Option Record → Type 0
CleanedIn None = ⊥
CleanedIn (Some q) = AsksClean q.asking × (is_cancelled q.fate ≡ false)

-- No lease and no ticket has it.
abbrev pub Aside : Standing → Type 0
Aside (In place.Free) = Unit {0}
Aside (In place.Draining) = Unit {0}
Aside (In (place.Leased l)) = ⊥
Aside (In (place.Kept t)) = ⊥
Aside Cut = Unit {0}

drained_aside : (b : Bool) (s : Standing) → Aside s → Aside (drained b s)
drained_aside true (In place.Draining) a = tt
drained_aside true (In place.Free) a = tt
drained_aside true (In (place.Leased l)) a = a
drained_aside true (In (place.Kept t)) a = a
drained_aside true Cut a = tt
drained_aside false s a = a

-- ---- What each act leaves

any_change : (P : Record → Type 0) (b : Bool) (f : Record → Record) (q : Record) → P (f q) → P q → P (when b f q)
any_change P true f q g h = g
any_change P false f q g h = h

changed : (r : ℕ) (f : Record → Record) (o : Option Record) → ((q : Record) → ((f q).asking ≡ q.asking) × (is_cancelled (f q).fate ≡ is_cancelled q.fate)) → CleanedIn o → CleanedIn (option_map (if_numbered r f) o)
changed r f None same h = h
changed r f (Some q) same h =
    any_change (λ x. CleanedIn (Some x)) (eqb q.number r) f q (subst AsksClean (sym (same q).0) h.0, (same q).1 ∙ h.1) h

-- Nothing of an acknowledgement waits for a request that nobody cancelled.
no_acknowledgement_by : (fate : Fate) (out : Out) (r a q i : ℕ) (changes : List EnvChange) (ups : List Up) (es : List Down) (parts : List ℕ) (due : List answer.Step) → is_cancelled fate ≡ false → FlowIn (phase_by fate out) r a ups (Acknowledgement q i changes ∷ es) parts due → ⊥
no_acknowledgement_by Open NotBegun r a q i changes ups es parts due e f = let z : Acknowledgement q i changes ∷ es ≡ [] = f.1 in absurd (cc)
no_acknowledgement_by Open (Begun n) r a q i changes ups es parts due e f = let z : Acknowledgement q i changes ∷ es ≡ [] = f.1 in absurd (cc)
no_acknowledgement_by Open (Whole n) r a q i changes ups es parts due e f = elim f [
  | inl h ↦ let z : Acknowledgement q i changes ∷ es ≡ [] = h.1 in absurd (cc)
  | inr h ↦ absurd h.3
]
no_acknowledgement_by Finished out r a q i changes ups es parts due e f = let z : Acknowledgement q i changes ∷ es ≡ [] = f.1 in absurd (cc)
no_acknowledgement_by Cancelled out r a q i changes ups es parts due e f = let z : true ≡ false = e in absurd (cc)
no_acknowledgement_by Acknowledged out r a q i changes ups es parts due e f = let z : true ≡ false = e in absurd (cc)

no_acknowledgement : (o : Option Record) (a q i : ℕ) (changes : List EnvChange) (ups : List Up) (es : List Down) (parts : List ℕ) (due : List answer.Step) → CleanedIn o → FlowIn (phase_in o) (number_in o) a ups (Acknowledgement q i changes ∷ es) parts due → ⊥
no_acknowledgement None a q i changes ups es parts due h f = h
no_acknowledgement (Some p) a q i changes ups es parts due h f = no_acknowledgement_by p.fate p.out p.number a q i changes ups es parts due h.1 f

client_cleaned : (c : Connection) (e : Down) (es : List Down) → SoundWith c c.to_server.waiting (e ∷ es) → CleanedIn c.current → CleanedIn (client_acts (record c { to_client = passed e c.to_client }) e).current
client_cleaned c (Step r i s) es f h = changed r (gives s) c.current (λ q. (refl, step_cancels_none s.last q.fate)) h
client_cleaned c (Acknowledgement r i changes) es f h = absurd (no_acknowledgement c.current c.answering r i changes c.to_server.waiting es c.parts c.due h f.0)

reach_client_cleaned : (setup : Setup) (answers : Answers) (k : KeptByMoves setup answers SoundWith) (c : Connection) (es : List Down) (m : ℕ) → SoundWith c c.to_server.waiting es → CleanedIn c.current → CleanedIn (reach_client c es m).current
reach_client_cleaned setup answers k c [] m f h = h
reach_client_cleaned setup answers k c (e ∷ es) m f h =
    let d : Connection = client_acts (record c { to_client = passed e c.to_client }) e in
    either (λ x. CleanedIn x.current) (ltb m (length (down_bytes e))) (record c { to_client = with_waiting (e ∷ es) m c.to_client }) (reach_client d es (m - length (down_bytes e))) h
    (reach_client_cleaned setup answers k d es (m - length (down_bytes e)) (k.at_client c e es tt f) (client_cleaned c e es f h))

reach_server_newest : (answers : Answers) (c : Connection) (es : List Up) (m : ℕ) → (reach_server answers c es m).current ≡ c.current
reach_server_newest answers c [] m = refl
reach_server_newest answers c (e ∷ es) m =
    let p : Connection = record c { to_server = passed e c.to_server } in
    either (λ x. x.current ≡ c.current) (ltb m (length (up_bytes e))) (record c { to_server = with_waiting (e ∷ es) m c.to_server }) (reach_server answers (server_acts answers p e) es (m - length (up_bytes e))) refl
    (reach_server_newest answers (server_acts answers p e) es (m - length (up_bytes e)) ∙ server_leaves_newest answers p e)

works_cleaned : (c : Connection) (due : List answer.Step) → CleanedIn c.current → CleanedIn (works_on c due).current
works_cleaned c [] h = h
works_cleaned c (s ∷ ss) h = changed c.answering (runs c.session s) c.current (λ q. (refl, refl)) h

-- It is still so, and still aside unless this outcome lent it.
abbrev pub Leaves : ℕ → Acted → Type 0
Leaves n (Refuses why) = Unit {0}
Leaves n (Does what d) = CleanedIn d.current × (lent_here n what ≡ false → Aside d.standing)

lent_is : (n : ℕ) → eqb n n ≡ false → ⊥
lent_is n e = let z : true ≡ false = sym (same_number n) ∙ e in absurd (cc)

back : (n : ℕ) (s : Standing) (c : Connection) → s ≡ Cut → CleanedIn c.current → Aside c.standing → Leaves n (gives_back_at s c)
back n (In p) c e h a = absurd (cc)
back n Cut c e h a = (h, λ z. a)

abandoned : (n : ℕ) (s : Standing) (c : Connection) → s ≡ Cut → CleanedIn c.current → Aside c.standing → Leaves n (abandons_at s c)
abandoned n (In p) c e h a = absurd (cc)
abandoned n Cut c e h a = (h, λ z. a)

cleaned : (free can : Bool) (room lease number n : ℕ) (c : Connection) → Leaves n (cleans_by free can room lease number n c)
cleaned false can room lease number n c = tt
cleaned true false room lease number n c = tt
cleaned true true room lease number n c = (((refl, refl), refl), λ z. tt)

pub acted : (setup : Setup) (answers : Answers) (w : World) (e : Event) (n : ℕ) (c : Connection) → Lawful answers → StandsFor e c.standing → Sound c → CleanedIn c.current → Aside c.standing → Leaves n (acts setup answers w e n c)
acted setup answers w event.Lease n c l s f h a = (h, λ z. absurd (lent_is n z))
acted setup answers w (event.Resume t) n c l s f h a = absurd (subst Aside s a)
acted setup answers w (event.GiveBack k) n c l s f h a = elim s [
  | inl e ↦ absurd (subst Aside e a)
  | inr e ↦ back n c.standing c e h a
]
acted setup answers w (event.Keep k) n c l s f h a = absurd (subst Aside s a)
acted setup answers w (event.Abandon t) n c l s f h a = elim s [
  | inl e ↦ absurd (subst Aside e a)
  | inr e ↦ abandoned n c.standing c e h a
]
acted setup answers w (event.Clean k) n c l s f h a =
    cleaned (is_free c.standing) (can_clean (setup.packet_size - 8) (next_number w.leases) (next_number w.asked_on) n c) (setup.packet_size - 8) (next_number w.leases) (next_number w.asked_on) n c
acted setup answers w (event.Ask k q) n c l s f h a = absurd (subst Aside s a)
acted setup answers w (event.Send k) n c l s f h a = absurd (subst Aside s a)
acted setup answers w (event.Cancel k) n c l s f h a = absurd (subst Aside s a)
acted setup answers w (event.Work k) n c l s f h a = (works_cleaned c c.due h, λ z. subst Aside (sym (works_stand c c.due)) a)
acted setup answers w (event.ToServer k m) n c l s f h a =
    let come : ℕ = c.to_server.part + min m (up_underway c) in (
      subst CleanedIn (sym (reach_server_newest answers c c.to_server.waiting come)) h,
      λ z. subst Aside (sym (reach_server_stands answers c c.to_server.waiting come)) a,
    )
acted setup answers w (event.ToClient k m) n c l s f h a =
    let come : ℕ = c.to_client.part + min m (down_underway c) in
    let d : Connection = reach_client c c.to_client.waiting come in (
      reach_client_cleaned setup answers (sound_moves setup answers l) c c.to_client.waiting come f h,
      λ z. drained_aside _ d.standing (subst Aside (sym (reach_client_stands c c.to_client.waiting come)) a),
    )
acted setup answers w (event.Cut k) n c l s f h a = (h, λ z. tt)
acted setup answers w event.RestartServer n c l s f h a = tt
acted setup answers w event.RestartClient n c l s f h a = tt

-- ---- Connections at their numbers

put_other_at : (m n : ℕ) (d c : Connection) (cs : List Connection) → m ≢ n → slice_get cs n ≡ Some c → slice_get (put m d cs) n ≡ Some c
put_other_at m n d c [] differ e = absurd (cc)
put_other_at zero zero d c (x ∷ xs) differ e = absurd (differ refl)
put_other_at zero (suc n) d c (x ∷ xs) differ e = e
put_other_at (suc m) zero d c (x ∷ xs) differ e = e
put_other_at (suc m) (suc n) d c (x ∷ xs) differ e = put_other_at m n d c xs (λ z. differ (ap suc z)) e

pub put_other : (m n : ℕ) (d c : Connection) (cs : List Connection) → m ≢ n → numbered cs n ≡ Some c → numbered (put_numbered m d cs) n ≡ Some c
put_other zero n d c cs differ e = e
put_other (suc m) zero d c cs differ e = absurd (cc)
put_other (suc m) (suc n) d c cs differ e = put_other_at m n d c cs (λ z. differ (ap suc z)) e

cut_at : (cs : List Connection) (k : ℕ) (c : Connection) → slice_get cs k ≡ Some c → slice_get (map cut cs) k ≡ Some (cut c)
cut_at [] k c e = absurd (cc)
cut_at (x ∷ xs) zero c e = let same : x ≡ c = cc in ap (λ y. Some (cut y)) same
cut_at (x ∷ xs) (suc k) c e = cut_at xs k c e

pub cut_there : (cs : List Connection) (n : ℕ) (c : Connection) → numbered cs n ≡ Some c → numbered (map cut cs) n ≡ Some (cut c)
cut_there cs zero c e = absurd (cc)
cut_there cs (suc k) c e = cut_at cs k c e
