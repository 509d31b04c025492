-- What the pool lends next is what the model lends: the first free connection, whose client is idle.
use Rattle.std.proofs.Common.{◌≡◌, ◌∙◌, ℕ, suc, ◌+◌, Bool, true, false, List, [], ◌∷◌, length, Option, Some, None, refl, sym, ap, subst, cond, ltb, arith}
use Rattle.std.specs.List.{slice_get}
use Rattle.std.specs.Prelude.{◌&&◌, option_map}
use Rattle.tds_client.specs.Session.{ClientSession, Idle}
use Rattle.tds_ends.specs.Stands.{MatchesClient, stage_by, stage_in}
use Rattle.tds_pool.specs.Calls.{all_numbers, is_lendable, lent_next}
use Rattle.tds_pool.specs.Calls as calls
use Rattle.tds_pool.specs.Connections as pool
use Rattle.tds_pool.specs.declared.seat.Place.{Place as PoolPlace}
use Rattle.tds_pool.specs.declared.seat.Place.TheVariants as pooled
use Rattle.tds_world.specs.declared.event.Setup.{Setup}
use Rattle.tds_world.specs.declared.outcome.Refusal.TheVariants.{AllInUse}
use Rattle.tds_world.specs.declared.report.Place.{Place}
use Rattle.tds_world.specs.Connection.{Connection, Standing, In, is_cut, is_idle}
use Rattle.tds_world.specs.Lending.{LendsIdle}
use Rattle.tds_world.specs.Phase.{Phase, Settled, is_settled, phase_in, phase_of}
use Rattle.tds_world.specs.Pool.{is_free, first_of, lowest_free, pool_count, to_lend, to_lend_by}
use Rattle.tds_world.specs.Record.{Record}
use Rattle.tds_world.specs.World.{World, Here, Missing, Opens, next_number, there}
use Rattle.tds_play.specs.Lending.{standing_by}
use Rattle.tds_play.specs.Pipe.{Pipe}
use Rattle.tds_play.specs.Plays.{RepresentConnections, RepresentsConnection}
use Rattle.tds_play.specs.Pooled.{number_unless, numbers_in, place_by, seat_by, seated_from}
use Rattle.tds_play.specs.declared.seat.Held.{Held}
use Rattle.tds_play.proofs.pooled.Changes.{first_is, first_not}
use Rattle.tds_play.proofs.pooled.Numbers.{IsOfPlay, head_is, of_play, rest_is}
use Rattle.tds_play.proofs.pooled.Seated.{seated_same}

-- ---- Free and idle

idle_by : (p : Phase) (q : Record) → is_settled p ≡ true → stage_by p q ≡ Idle
idle_by Settled q e = refl
idle_by p q e = absurd (cc)

idle_in : (o : Option Record) → is_settled (phase_in o) ≡ true → stage_in o ≡ Idle
idle_in None e = refl
idle_in (Some q) e = idle_by (phase_of q) q e

-- A client on whose connection nobody waits is idle.
pub client_idle : (s : ClientSession) (c : Connection) → MatchesClient s c → is_idle c ≡ true → calls.is_idle s.stage ≡ true
client_idle s c m idle = ap calls.is_idle (m.stage ∙ idle_in c.current idle)

free_alike : (holder : ℕ) (p : PoolPlace) → is_free (In (place_by holder p)) ≡ calls.is_free p
free_alike holder pooled.Leased = refl
free_alike holder p = refl

-- The first free one of a list is idle, where the first of the list has this number.
abbrev pub LowestIsIdle : ℕ → List Connection → Type 0
LowestIsIdle number cs = (place : ℕ) (c : Connection) → lowest_free number cs ≡ Some (number + place) → slice_get cs place ≡ Some c → is_idle c ≡ true

-- Where the first isn't free, it is one behind it.
passes : (number : ℕ) (c : Connection) (cs : List Connection) → is_free c.standing ≡ false → lowest_free number (c ∷ cs) ≡ lowest_free (suc number) cs
passes number c cs free = ap (λ (b : Bool). first_of b number (lowest_free (suc number) cs)) free

later_idle : (number : ℕ) (c : Connection) (cs : List Connection) → is_free c.standing ≡ false → LowestIsIdle number (c ∷ cs) → LowestIsIdle (suc number) cs
later_idle number c cs free idle place d lowest at =
    let next : suc number + place ≡ number + suc place = omega arith in
    idle (suc place) d (passes number c cs free ∙ lowest ∙ ap Some next) at

-- ---- The choice

abbrev number_of : Option pool.Connection → Option ℕ
number_of o = option_map (λ (c : pool.Connection). c.number) o

-- Those behind the first stand for the model's also where the pool is looked at without the first.
behind_first : {E S : Type 0} (number size : ℕ) (engine : E) (hs : List (Held E S)) (p : pool.Connection) (ps : List pool.Connection) (pipes : ℕ → Option Pipe) (cs : List Connection)
    → p.number ≡ number → RepresentConnections (suc number) size engine (seated_from (suc number) hs (p ∷ ps)) pipes cs → RepresentConnections (suc number) size engine (seated_from (suc number) hs ps) pipes cs
behind_first number size engine hs p ps pipes cs first all =
    subst (λ xs. RepresentConnections (suc number) size engine xs pipes cs)
    (sym (seated_same (suc number) hs (p ∷ ps) ps (λ m above. sym (first_not p ps m (λ is. let bad : ⊥ = omega (arith, above, first, is) in bad)))))
    all

pub chosen : {E S : Type 0} (number size : ℕ) (engine : E) (hs : List (Held E S)) (pcs : List pool.Connection) (pipes : ℕ → Option Pipe) (cs : List Connection)
    → all_numbers pcs ≡ numbers_in number hs
    → RepresentConnections number size engine (seated_from number hs pcs) pipes cs
    → LowestIsIdle number cs → option_map (λ (c : pool.Connection). c.number) (lent_next pcs) ≡ lowest_free number cs
chosen number size engine [] [] pipes [] same all idle = refl
chosen number size engine [] (p ∷ ps) pipes [] same all idle = let e : p.number ∷ all_numbers ps ≡ [] = same in absurd (cc)
chosen number size engine [] pcs pipes (c ∷ cs) same all idle = absurd all
chosen number size engine (h ∷ hs) pcs pipes [] same all idle = absurd all
chosen {E} {S} number size engine (h ∷ hs) pcs pipes (c ∷ cs) same all idle =
    by_cut h.link.is_cut refl pcs (λ ps numbers rest free. chosen (suc number) size engine hs ps pipes cs numbers rest (later_idle number c cs free idle)) same all
  where
    by_free : (p : pool.Connection) (ps : List pool.Connection) (b : Bool) → calls.is_free p.place ≡ b → p.number ≡ number → is_free c.standing ≡ calls.is_free p.place → MatchesClient p.client c → (is_free c.standing ≡ false → number_of (lent_next ps) ≡ lowest_free (suc number) cs) → number_of (lent_next (p ∷ ps)) ≡ lowest_free number (c ∷ cs)
    by_free p ps true free first alike matches later =
        let here : number ≡ number + 0 = omega arith in
        let lowest : lowest_free number (c ∷ cs) ≡ Some number = ap (λ (b : Bool). first_of b number (lowest_free (suc number) cs)) (alike ∙ free) in
        let lends : is_lendable p ≡ true =
        ap (λ (b : Bool). b && calls.is_idle p.client.stage) free
        ∙ client_idle p.client c matches (idle 0 c (lowest ∙ ap Some here) refl) in
        ap (λ (b : Bool). number_of (cond b (Some p) (lent_next ps))) lends ∙ ap Some first ∙ sym lowest
    by_free p ps false free first alike matches later =
        let lends : is_lendable p ≡ false = ap (λ (b : Bool). b && calls.is_idle p.client.stage) free in
        ap (λ (b : Bool). number_of (cond b (Some p) (lent_next ps))) lends ∙ later (alike ∙ free) ∙ sym (passes number c cs (alike ∙ free))

    by_cut : (b : Bool) → h.link.is_cut ≡ b → (ps : List pool.Connection) → ((qs : List pool.Connection) → all_numbers qs ≡ numbers_in (suc number) hs → RepresentConnections (suc number) size engine (seated_from (suc number) hs qs) pipes cs → is_free c.standing ≡ false → number_of (lent_next qs) ≡ lowest_free (suc number) cs) → all_numbers ps ≡ number_unless b number (numbers_in (suc number) hs) → RepresentsConnection number size engine h.link (seat_by h.holder (pool.numbered number ps)) (pipes number) c × RepresentConnections (suc number) size engine (seated_from (suc number) hs ps) pipes cs → number_of (lent_next ps) ≡ lowest_free number (c ∷ cs)
    by_cut true cut ps later numbers (first, rest) =
        let free : is_free c.standing ≡ false =
        ap is_free (sym first.standing) ∙ ap (λ (b : Bool). is_free (standing_by b (seat_by h.holder (pool.numbered number ps)).place)) cut in
        later ps numbers rest free ∙ sym (passes number c cs free)
    by_cut false lives [] later numbers (first, rest) = absurd (cc)
    by_cut false lives (p ∷ ps) later numbers (first, rest) =
        let is : p.number ≡ number = head_is p ps number (numbers_in (suc number) hs) numbers in
        let found : pool.numbered number (p ∷ ps) ≡ Some p = first_is p ps number is in
        let here : RepresentsConnection number size engine h.link (seat_by h.holder (Some p)) (pipes number) c =
        subst (λ o. RepresentsConnection number size engine h.link (seat_by h.holder o) (pipes number) c) found first in
        let free : is_free c.standing ≡ calls.is_free p.place =
        ap is_free (sym here.standing) ∙ ap (λ (b : Bool). is_free (standing_by b (place_by h.holder p.place))) lives ∙ free_alike h.holder p.place in
        by_free p ps (calls.is_free p.place) refl is free (here.lives lives).stands.client
        (later ps (rest_is p ps number (numbers_in (suc number) hs) numbers) (behind_first number size engine hs p ps pipes cs is rest))

-- ---- How many there are

numbers_count : (pcs : List pool.Connection) → length pcs ≡ length (all_numbers pcs)
numbers_count [] = refl
numbers_count (c ∷ cs) = ap suc (numbers_count cs)

count_in : {E S : Type 0} (number size : ℕ) (engine : E) (hs : List (Held E S)) (pcs : List pool.Connection) (pipes : ℕ → Option Pipe) (cs : List Connection)
    → RepresentConnections number size engine (seated_from number hs pcs) pipes cs → length (numbers_in number hs) ≡ pool_count cs
count_in number size engine [] pcs pipes [] all = refl
count_in number size engine [] pcs pipes (c ∷ cs) all = absurd all
count_in number size engine (h ∷ hs) pcs pipes [] all = absurd all
count_in {E} {S} number size engine (h ∷ hs) pcs pipes (c ∷ cs) (first, rest) = by_cut h.link.is_cut (seat_by h.holder (pool.numbered number pcs)).place first.standing (count_in (suc number) size engine hs pcs pipes cs rest)
  where
    by_cut : (b : Bool) (p : Place) → standing_by b p ≡ c.standing → length (numbers_in (suc number) hs) ≡ pool_count cs → length (number_unless b number (numbers_in (suc number) hs)) ≡ cond (is_cut c.standing) 0 1 + pool_count cs
    by_cut true p stands rest = let none : pool_count cs ≡ 0 + pool_count cs = omega arith in rest ∙ none ∙ ap (λ (s : Standing). cond (is_cut s) 0 1 + pool_count cs) stands
    by_cut false p stands rest = let one : suc (pool_count cs) ≡ 1 + pool_count cs = omega arith in ap suc rest ∙ one ∙ ap (λ (s : Standing). cond (is_cut s) 0 1 + pool_count cs) stands

pub counted : {E S : Type 0} (number size : ℕ) (engine : E) (hs : List (Held E S)) (pcs : List pool.Connection) (pipes : ℕ → Option Pipe) (cs : List Connection)
    → all_numbers pcs ≡ numbers_in number hs
    → RepresentConnections number size engine (seated_from number hs pcs) pipes cs → length pcs ≡ pool_count cs
counted number size engine hs pcs pipes cs same all = numbers_count pcs ∙ ap length same ∙ count_in number size engine hs pcs pipes cs all

-- ---- What is lent

-- It is the pool's, of its number.
pub lent_there : {E S : Type 0} (number : ℕ) (hs : List (Held E S)) (pcs : List pool.Connection) (c : pool.Connection) → all_numbers pcs ≡ numbers_in number hs → lent_next pcs ≡ Some c → pool.numbered c.number pcs ≡ Some c
lent_there number [] [] c same lent = absurd (cc)
lent_there number [] (p ∷ ps) c same lent = let e : p.number ∷ all_numbers ps ≡ [] = same in absurd (cc)
lent_there {E} {S} number (h ∷ hs) pcs c same lent = by_cut h.link.is_cut pcs (λ ps numbers is. lent_there (suc number) hs ps c numbers is) same lent
  where
    by_first : (p : pool.Connection) (ps : List pool.Connection) (b : Bool) → p.number ≡ number → all_numbers ps ≡ numbers_in (suc number) hs → ((qs : List pool.Connection) → all_numbers qs ≡ numbers_in (suc number) hs → lent_next qs ≡ Some c → pool.numbered c.number qs ≡ Some c) → cond b (Some p) (lent_next ps) ≡ Some c → pool.numbered c.number (p ∷ ps) ≡ Some c
    by_first p ps true first rest later is = let same : p ≡ c = cc in first_is p ps c.number (ap (λ (x : pool.Connection). x.number) same) ∙ is
    by_first p ps false first rest later is =
        let found : pool.numbered c.number ps ≡ Some c = later ps rest is in
        let o : IsOfPlay (suc number) c.number hs = of_play (suc number) c.number hs ps c rest found in
        first_not p ps c.number (λ e. let bad : ⊥ = omega (arith, first, o.at, e) in bad) ∙ found

    by_cut : (b : Bool) (pcs : List pool.Connection) → ((qs : List pool.Connection) → all_numbers qs ≡ numbers_in (suc number) hs → lent_next qs ≡ Some c → pool.numbered c.number qs ≡ Some c) → all_numbers pcs ≡ number_unless b number (numbers_in (suc number) hs) → lent_next pcs ≡ Some c → pool.numbered c.number pcs ≡ Some c
    by_cut true ps later numbers is = later ps numbers is
    by_cut false [] later numbers is = absurd (cc)
    by_cut false (p ∷ ps) later numbers is =
        by_first p ps (is_lendable p) (head_is p ps number (numbers_in (suc number) hs) numbers) (rest_is p ps number (numbers_in (suc number) hs) numbers) later is

-- It is free.
pub lent_free : (pcs : List pool.Connection) (c : pool.Connection) → lent_next pcs ≡ Some c → c.place ≡ pooled.Free
lent_free [] c lent = absurd (cc)
lent_free (p ∷ ps) c lent = by_first (is_lendable p) refl (lent_free ps c) lent
  where
    free_is : (q : PoolPlace) (b : Bool) → calls.is_free q && b ≡ true → q ≡ pooled.Free
    free_is pooled.Leased b e = absurd (cc)
    free_is pooled.Kept b e = absurd (cc)
    free_is pooled.Free b e = refl
    free_is pooled.Draining b e = absurd (cc)
    free_is pooled.Cleaning b e = absurd (cc)

    by_first : (b : Bool) → is_lendable p ≡ b → (lent_next ps ≡ Some c → c.place ≡ pooled.Free) → cond b (Some p) (lent_next ps) ≡ Some c → c.place ≡ pooled.Free
    by_first true lends later is = let same : p ≡ c = cc in ap (λ (x : pool.Connection). x.place) (sym same) ∙ free_is p.place (calls.is_idle p.client.stage) lends
    by_first false lends later is = later is

-- ---- What the next lease gets

-- The lowest free one of a world is idle.
pub lowest_idle : (setup : Setup) (w : World) → LendsIdle setup w → LowestIsIdle 1 w.connections
lowest_idle setup w idle place c lowest at =
    let is : 1 + place ≡ suc place = omega arith in
    idle.lease (suc place) c (ap (to_lend_by setup w) (lowest ∙ ap Some is) ∙ ap (there AllInUse (suc place)) at)

-- Where the pool lends one again, the model lends the connection of its number.
pub reused : {E S : Type 0} (setup : Setup) (w : World) (engine : E) (hs : List (Held E S)) (pcs : List pool.Connection) (pipes : ℕ → Option Pipe) (c : pool.Connection) (place : ℕ) (d : Connection)
    → all_numbers pcs ≡ numbers_in 1 hs
    → RepresentConnections 1 setup.packet_size engine (seated_from 1 hs pcs) pipes w.connections
    → LendsIdle setup w → lent_next pcs ≡ Some c → c.number ≡ suc place → slice_get w.connections place ≡ Some d → to_lend setup w ≡ Here (suc place) d
reused setup w engine hs pcs pipes c place d same all idle lent is at =
    let lowest : Some (suc place) ≡ lowest_free 1 w.connections =
    ap Some (sym is) ∙ ap number_of (sym lent) ∙ chosen 1 setup.packet_size engine hs pcs pipes w.connections same all (lowest_idle setup w idle) in
    ap (to_lend_by setup w) (sym lowest) ∙ ap (there AllInUse (suc place)) at

-- Where it lends none, the model opens one, or none if there are as many as there may be.
pub opened : {E S : Type 0} (setup : Setup) (w : World) (engine : E) (hs : List (Held E S)) (pcs : List pool.Connection) (pipes : ℕ → Option Pipe)
    → all_numbers pcs ≡ numbers_in 1 hs
    → RepresentConnections 1 setup.packet_size engine (seated_from 1 hs pcs) pipes w.connections
    → LendsIdle setup w → lent_next pcs ≡ None → to_lend setup w ≡ cond (ltb (length pcs) setup.max) (Opens (next_number w.connections)) (Missing AllInUse)
opened setup w engine hs pcs pipes same all idle lent =
    let lowest : None ≡ lowest_free 1 w.connections =
    ap number_of (sym lent) ∙ chosen 1 setup.packet_size engine hs pcs pipes w.connections same all (lowest_idle setup w idle) in
    ap (to_lend_by setup w) (sym lowest)
    ∙ ap (λ (n : ℕ). cond (ltb n setup.max) (Opens (next_number w.connections)) (Missing AllInUse)) (sym (counted 1 setup.packet_size engine hs pcs pipes w.connections same all))
