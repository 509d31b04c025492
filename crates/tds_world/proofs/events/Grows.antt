-- What each event does to a connection, it does over any events: for a relation that is reflexive and
-- transitive.
use Rattle.std.proofs.Common.{◌≡◌, ℕ, zero, suc, List, [], ◌∷◌, ◌++◌, map, refl, sym, subst, ◌∙◌, Option, Some, None}
use Rattle.std.specs.Prelude.{slice_get}
use Rattle.tds_session.specs.Answer.{Answers}
use Rattle.tds_world.specs.declared.event.Event.{Event}
use Rattle.tds_world.specs.declared.event.Event.TheVariants as event
use Rattle.tds_world.specs.declared.event.Setup.{Setup}
use Rattle.tds_world.specs.declared.outcome.Outcome.{Outcome}
use Rattle.tds_world.specs.Connection.{Connection, cut}
use Rattle.tds_world.specs.Events.{about, acts, notes, settles, happens_at, happens, world_after}
use Rattle.tds_world.specs.Pool.{Acted, Refuses, Does, opens}
use Rattle.tds_world.specs.World.{World, Found, Missing, Here, Opens, numbered, next_number, put, put_numbered}
use Rattle.tds_world.proofs.events.Agreement.{happens_agrees}
use Rattle.tds_world.proofs.events.Happens.{happens_cases}
use Rattle.tds_world.proofs.events.Places.{StandsFor, FoundWith, about_stands, Agrees, none_at_end}
use Rattle.tds_world.proofs.events.Words.{OfActed}

-- A relation that each act on a connection keeps.
pub record Growth (setup : Setup) (answers : Answers) (R : Connection → Connection → Type 0) : Type 0 where
  pub same : (c : Connection) → R c c
  pub then : (b c d : Connection) → R b c → R c d → R b d
  pub acted : (w : World) (e : Event) (n : ℕ) (c : Connection) → StandsFor e c.standing → OfActed (R c) (acts setup answers w e n c)
  pub was_cut : (c : Connection) → R c (cut c)

-- What was related stands at its number still.
abbrev pub Related : (Connection → Connection → Type 0) → Connection → Option Connection → Type 0
Related R c None = ⊥
Related R c (Some d) = R c d

abbrev pub Grown : (Connection → Connection → Type 0) → List Connection → List Connection → Type 0
Grown R bs cs = (k : ℕ) (c : Connection) → slice_get bs k ≡ Some c → Related R c (slice_get cs k)

grown_same : (setup : Setup) (answers : Answers) (R : Connection → Connection → Type 0) (cs : List Connection) → Growth setup answers R → Grown R cs cs
grown_same setup answers R cs g k c e = subst (Related R c) (sym e) (g.same c)

grown_then : (setup : Setup) (answers : Answers) (R : Connection → Connection → Type 0) (bs cs ds : List Connection) → Growth setup answers R → Grown R bs cs → Grown R cs ds → Grown R bs ds
grown_then setup answers R bs cs ds g f h k b e = next (slice_get cs k) refl (f k b e)
  where
    last : (c : Connection) (o : Option Connection) → R b c → Related R c o → Related R b o
    last c None r s = s
    last c (Some d) r s = g.then b c d r s

    next : (o : Option Connection) → slice_get cs k ≡ o → Related R b o → Related R b (slice_get ds k)
    next None i r = absurd r
    next (Some c) i r = last c (slice_get ds k) r (h k c i)

put_grown : (setup : Setup) (answers : Answers) (R : Connection → Connection → Type 0) (n : ℕ) (c : Connection) (cs : List Connection) → Growth setup answers R → ((b : Connection) → slice_get cs n ≡ Some b → R b c) → Grown R cs (put n c cs)
put_grown setup answers R n c [] g r k b e = absurd (cc)
put_grown setup answers R zero c (d ∷ ds) g r zero b e = r b e
put_grown setup answers R zero c (d ∷ ds) g r (suc k) b e = grown_same setup answers R ds g k b e
put_grown setup answers R (suc n) c (d ∷ ds) g r zero b e = subst (R b) (sym (let same : d ≡ b = cc in same)) (g.same b)
put_grown setup answers R (suc n) c (d ∷ ds) g r (suc k) b e = put_grown setup answers R n c ds g r k b e

put_number_grown : (setup : Setup) (answers : Answers) (R : Connection → Connection → Type 0) (n : ℕ) (c : Connection) (cs : List Connection) → Growth setup answers R → ((b : Connection) → numbered cs n ≡ Some b → R b c) → Grown R cs (put_numbered n c cs)
put_number_grown setup answers R zero c cs g r = grown_same setup answers R cs g
put_number_grown setup answers R (suc n) c cs g r = put_grown setup answers R n c cs g r

cut_grown : (setup : Setup) (answers : Answers) (R : Connection → Connection → Type 0) (cs : List Connection) → Growth setup answers R → Grown R cs (map cut cs)
cut_grown setup answers R [] g k b e = absurd (cc)
cut_grown setup answers R (c ∷ cs) g zero b e = subst (λ x. R x (cut c)) (let same : c ≡ b = cc in same) (g.was_cut c)
cut_grown setup answers R (c ∷ cs) g (suc k) b e = cut_grown setup answers R cs g k b e

-- ---- One event

pub notes_leave : (e : Event) (n heard : ℕ) (w : World) → (notes e n heard w).connections ≡ w.connections
notes_leave event.Lease n heard w = refl
notes_leave e n heard w = refl

did_grow : (setup : Setup) (answers : Answers) (R : Connection → Connection → Type 0) (e : Event) (n : ℕ) (w : World) (c : Connection) (what : Outcome) → Growth setup answers R → ((b : Connection) → numbered w.connections n ≡ Some b → R b c) → Grown R w.connections (settles e n w (Does what c)).1.connections
did_grow setup answers R e n w c what g r =
    subst (Grown R w.connections) (sym (notes_leave e n c.heard (record w { connections = put_numbered n c w.connections })))
    (put_number_grown setup answers R n c w.connections g r)

acted_grow : (setup : Setup) (answers : Answers) (R : Connection → Connection → Type 0) (e : Event) (n : ℕ) (w : World) (c : Connection) (a : Acted) → Growth setup answers R → numbered w.connections n ≡ Some c → OfActed (R c) a → Grown R w.connections (settles e n w a).1.connections
acted_grow setup answers R e n w c (Refuses why) g i r = grown_same setup answers R w.connections g
acted_grow setup answers R e n w c (Does what d) g i r =
    did_grow setup answers R e n w d what g (λ b j. subst (λ x. R x d) (let same : c ≡ b = let q : Some c ≡ Some b = sym i ∙ j in cc in same) r)

found_grow : (setup : Setup) (answers : Answers) (R : Connection → Connection → Type 0) (e : Event) (w : World) (f : Found) → Growth setup answers R → FoundWith w (StandsFor e) f → Grown R w.connections (happens_at setup answers e w f).1.connections
found_grow setup answers R e w (Missing why) g s = grown_same setup answers R w.connections g
found_grow setup answers R e w (Here n c) g s = acted_grow setup answers R e n w c (acts setup answers w e n c) g s.0 (g.acted w e n c s.1)
found_grow setup answers R e w (Opens n) g s = opened_grow (opens setup.on_attention (next_number w.leases) n)
  where
    opened_grow : (a : Acted) → Grown R w.connections (settles event.Lease n w a).1.connections
    opened_grow (Refuses why) = grown_same setup answers R w.connections g
    opened_grow (Does what d) =
        did_grow setup answers R event.Lease n w d what g
        (λ b j. absurd (none_at_end w.connections b (subst (λ i. numbered w.connections i ≡ Some b) s j)))

at_event : (setup : Setup) (answers : Answers) (R : Connection → Connection → Type 0) (e : Event) (w : World) → Growth setup answers R → Agrees w → Grown R w.connections (happens_at setup answers e w (about setup w e)).1.connections
at_event setup answers R e w g a = found_grow setup answers R e w (about setup w e) g (about_stands setup w e a)

happens_grow : (setup : Setup) (answers : Answers) (R : Connection → Connection → Type 0) (e : Event) (w : World) → Growth setup answers R → Agrees w → Grown R w.connections (happens setup answers e w).1.connections
happens_grow setup answers R e w g a =
    happens_cases setup answers w (λ e r. Grown R w.connections r.1.connections)
    (cut_grown setup answers R w.connections g)
    (cut_grown setup answers R w.connections g)
    (λ e. at_event setup answers R e w g a) e

-- Over any events.
pub after_grow : (setup : Setup) (answers : Answers) (R : Connection → Connection → Type 0) (events : List Event) (w : World) → Growth setup answers R → Agrees w → Grown R w.connections (world_after setup answers events w).connections
after_grow setup answers R [] w g a = grown_same setup answers R w.connections g
after_grow setup answers R (e ∷ es) w g a =
    grown_then setup answers R w.connections (happens setup answers e w).1.connections (world_after setup answers es (happens setup answers e w).1).connections g
    (happens_grow setup answers R e w g a)
    (after_grow setup answers R es (happens setup answers e w).1 g (happens_agrees setup answers e w a))

-- Events one after the other.
pub after_both : (setup : Setup) (answers : Answers) (es fs : List Event) (w : World) → world_after setup answers (es ++ fs) w ≡ world_after setup answers fs (world_after setup answers es w)
after_both setup answers [] fs w = refl
after_both setup answers (e ∷ es) fs w = after_both setup answers es fs (happens setup answers e w).1

pub after_agrees : (setup : Setup) (answers : Answers) (events : List Event) (w : World) → Agrees w → Agrees (world_after setup answers events w)
after_agrees setup answers [] w a = a
after_agrees setup answers (e ∷ es) w a = after_agrees setup answers es (happens setup answers e w).1 (happens_agrees setup answers e w a)
