-- What an event on one connection keeps of all of them, and what it comes to in the model.
use Rattle.std.proofs.Common.{[], ◌≡◌, ◌∙◌, ℕ, suc, ◌+◌, ◌<◌, List, length, get_or, Option, Some, true, refl, sym, ap, subst, arith}
use Rattle.std.proofs.lemmas.Option.{get_or_from_slice_get, slice_get_within}
use Rattle.std.specs.List.{slice_get}
use Rattle.std.specs.Prelude.{Err, IfOk, Ok, Result, option_map}
use Rattle.tds_session.specs.Answer.{Answers}
use Rattle.tds_ends.specs.ModelGives.{IsCountable, ModelGives}
use Rattle.tds_pool.specs.Connections.{connections, numbered}
use Rattle.tds_world.specs.declared.event.Event.{Event}
use Rattle.tds_world.specs.declared.event.Setup.{Setup}
use Rattle.tds_world.specs.declared.outcome.Outcome.{Outcome}
use Rattle.tds_world.specs.declared.outcome.Outcome.TheVariants as outcome
use Rattle.tds_world.specs.declared.outcome.Refusal.{Refusal}
use Rattle.tds_world.specs.Connection.{Connection}
use Rattle.tds_world.specs.Events.{happens}
use Rattle.tds_world.specs.Laws.{OfEachConnection}
use Rattle.tds_world.specs.Losses.{bringing, link_of, met}
use Rattle.tds_world.specs.World.{World}
use Rattle.tds_play.specs.declared.link.EventDone.{EventDone}
use Rattle.tds_play.specs.declared.player.Player.{Player}
use Rattle.tds_play.specs.declared.seat.Held.{Held}
use Rattle.tds_play.specs.Failures.{FailsOn, LiveAreSound, all_known, calls_of}
use Rattle.tds_play.specs.Pipe.{AreFaithfulTo, AreSameBeyond, BegunEvent, IsFaithful, Pipe}
use Rattle.tds_play.specs.Player.{IsFound, ModelGivesEach, RefinesEvent, RepresentsWorld, all_of}
use Rattle.tds_play.specs.Plays.{acts_on, loss_of}
use Rattle.tds_play.specs.Pooled.{seat_in, seated_in}
use Rattle.tds_play.specs.Reads.{AllRead, Answers as Answered, IsAbout, answers_then}
use Rattle.tds_play.specs.Seats.{Seated}
use Rattle.tds_play.specs.Steps.{StepsAt}
use Rattle.tds_play.specs.Ties.{AreTied}
use Rattle.tds_play.proofs.Accounts.{acted_lost, acted_sound}
use Rattle.tds_play.proofs.Listed.{changed}
use Rattle.tds_play.proofs.plays.PlayerActs.{RefinesActs, acts_alike, all_at, lost_there, noted_alike, refused_alike}
use Rattle.tds_play.proofs.any_bytes.Answered.{acted_reads}
use Rattle.tds_play.proofs.pooled.Seated.{seated_get, seated_length}
use Rattle.tds_play.proofs.pooled.Slots.{length_set}
use Rattle.tds_play.proofs.any_bytes.Faithful.{faithful_to}

-- ---- The connection at the place

-- As it stands in a player.
abbrev pub in_player : {E S : Type 0} → Held E S → Player E S → Seated E S
in_player h player = record { link = h.link; seat = seat_in h player.pool }

-- There are as many connections as links.
pub many_of : {E S : Type 0} (player : Player E S) → length (all_of player) ≡ length player.links.items
many_of player = seated_length 1 player.links.items (connections player.pool)

pub place_of : {E S : Type 0} (player : Player E S) (place : ℕ) (h : Held E S) → slice_get player.links.items place ≡ Some h → h.link.number ≡ suc place → slice_get (all_of player) place ≡ Some (in_player h player)
place_of {E} {S} player place h at number =
    let one : 1 + place ≡ h.link.number = (let n = number in omega (arith, n)) in
    seated_get 1 place player.links.items (connections player.pool)
    ∙ ap (option_map (λ (k : Held E S). seated_in k (numbered (1 + place) (connections player.pool)))) at
    ∙ ap (λ (n : ℕ). Some (seated_in h (numbered n (connections player.pool)))) one

pub stands_at : {E S : Type 0} (player : Player E S) (place : ℕ) (h : Held E S) → slice_get player.links.items place ≡ Some h → h.link.number ≡ suc place → in_player h player ≡ get_or (all_of player) place (in_player h player)
stands_at player place h at number = sym (get_or_from_slice_get (all_of player) place (in_player h player) (in_player h player) (place_of player place h at number))

pub within_all : {E S : Type 0} (player : Player E S) (place : ℕ) (h : Held E S) → slice_get player.links.items place ≡ Some h → place < length (all_of player)
within_all player place h at =
    let within : place < length player.links.items = slice_get_within player.links.items place h at in
    let many : length (all_of player) ≡ length player.links.items = many_of player in
    omega (arith, within, many)

-- ---- What a step keeps

pub steps_count : {E S : Type 0} (answers : E → Answers) (e : Event) (place : ℕ) (old new : Player E S) (pipes pipes' : ℕ → Option Pipe) (told still : List BegunEvent) (done : EventDone) → StepsAt answers e place old new pipes pipes' told still done → length new.links.items ≡ length old.links.items
steps_count answers e place old new pipes pipes' told still done s = ap length s.links ∙ length_set old.links.items place s.now

pub steps_tied : {E S : Type 0} (answers : E → Answers) (e : Event) (place : ℕ) (old new : Player E S) (pipes pipes' : ℕ → Option Pipe) (told still : List BegunEvent) (done : EventDone) → StepsAt answers e place old new pipes pipes' told still done → AreTied (all_of old) pipes → AreTied (all_of new) pipes'
steps_tied {E} {S} answers e place old new pipes pipes' told still done s tied =
    subst (λ (ls : List (Seated E S)). AreTied ls pipes') (sym s.all)
    (changed (all_of old) place (in_player s.was old) (in_player s.now new) pipes pipes' tied (within_all old place s.was s.at) (stands_at old place s.was s.at s.number) s.same_number s.ties.tied s.ties.others)

pub steps_sound : {E S : Type 0} (answers : E → Answers) (e : Event) (place : ℕ) (old new : Player E S) (pipes pipes' : ℕ → Option Pipe) (told still : List BegunEvent) (done : EventDone) → StepsAt answers e place old new pipes pipes' told still done → AreTied (all_of old) pipes → LiveAreSound (all_of old) pipes → LiveAreSound (all_of new) pipes'
steps_sound {E} {S} answers e place old new pipes pipes' told still done s tied sound =
    subst (λ (ls : List (Seated E S)). LiveAreSound ls pipes') (sym s.all)
    (acted_sound (all_of old) place (in_player s.was old) (in_player s.now new) pipes pipes' (calls_of e) done tied (within_all old place s.was s.at) (stands_at old place s.was s.at s.number) s.ties.others s.failed (λ cut. (s.gone cut).1) sound)

pub steps_reads : {E S : Type 0} (answers : E → Answers) (e : Event) (place : ℕ) (old new : Player E S) (pipes pipes' : ℕ → Option Pipe) (told still : List BegunEvent) (done : EventDone) → StepsAt answers e place old new pipes pipes' told still done → AreTied (all_of old) pipes → (size : ℕ) (so_far : Answered) → IsAbout e place → AllRead size (all_of old) pipes so_far → AllRead size (all_of new) pipes' (answers_then e done.outcome so_far)
steps_reads {E} {S} answers e place old new pipes pipes' told still done s tied size so_far about all =
    subst (λ (ls : List (Seated E S)). AllRead size ls pipes' (answers_then e done.outcome so_far)) (sym s.all)
    (acted_reads size (all_of old) place (in_player s.was old) (in_player s.now new) pipes pipes' so_far e done.outcome tied (within_all old place s.was s.at) (stands_at old place s.was s.at s.number) s.ties.others (s.reads size) about all)

pub steps_lost : {E S : Type 0} (answers : E → Answers) (e : Event) (place : ℕ) (old new : Player E S) (pipes pipes' : ℕ → Option Pipe) (told still : List BegunEvent) (done : EventDone) → StepsAt answers e place old new pipes pipes' told still done → AreTied (all_of old) pipes → (setup : Setup) (engine : E) (w : World) (c : Connection) → LiveAreSound (all_of old) pipes → RepresentsWorld setup engine old pipes w → IsFound setup (answers engine) w e place c → FailsOn e done.lost (link_of setup w e) (all_known (length old.links.items) pipes) (all_known (length new.links.items) pipes')
steps_lost answers e place old new pipes pipes' told still done s tied setup engine w c sound is found =
    subst (λ (n : ℕ). FailsOn e done.lost (link_of setup w e) (all_known n pipes) (all_known (length new.links.items) pipes')) (many_of old)
    (acted_lost (all_of old) place (length new.links.items) (in_player s.was old) (in_player s.now new) pipes pipes' e done (link_of setup w e) tied (within_all old place s.was s.at) (stands_at old place s.was s.at s.number) s.ties.others s.failed
    (λ cut. ((s.gone cut).0, (s.gone cut).2))
    (lost_there setup engine (answers engine) w e place c old pipes (in_player s.was old) done.lost is (stands_at old place s.was s.at s.number) found s.loses)
    (steps_count answers e place old new pipes pipes' told still done s ∙ sym (many_of old)) sound)

-- ---- What it comes to in the model

-- An outcome is a refusal, or not.
by_outcome : (Q : Outcome → Type 0) (o : Outcome) → ((why : Refusal) → Q (outcome.Refused why)) → (((why : Refusal) → o ≡ outcome.Refused why → ⊥) → Q o) → Q o
by_outcome Q (outcome.Refused why) refused applied = refused why
by_outcome Q o refused applied = applied (λ why z. cc)

pub steps_refine : {E S : Type 0} (answers : E → Answers) (e : Event) (place : ℕ) (old new : Player E S) (pipes pipes' : ℕ → Option Pipe) (told still : List BegunEvent) (done : EventDone) → StepsAt answers e place old new pipes pipes' told still done → (setup : Setup) (engine : E) (w : World) (c : Connection) → IsFaithful (pipes' (suc place)) → RepresentsWorld setup engine old pipes w → ModelGivesEach E (answers engine) setup w → IsFound setup (answers engine) w e place c → ((k : ℕ) → OfEachConnection IsCountable (happens setup (answers engine) (bringing k e) w).1) → RefinesEvent setup engine (answers engine) done new pipes' e w
steps_refine {E} {S} answers e place old new pipes pipes' told still done s setup engine w c faithful is promised found countable =
    by_outcome (λ (o : Outcome). done.outcome ≡ o → RefinesEvent setup engine (answers engine) done new pipes' e w) done.outcome
    (λ why refused. refused_alike setup engine (answers engine) w e place c old new pipes pipes' done why is found link acts s.setup (s.noted.refused why refused) refused)
    (λ applied same. noted_alike setup engine (answers engine) w e place c old new pipes pipes' done is found link acts s.setup (s.noted.applied applied) applied)
    refl
  where
    promise : ModelGives E (answers engine) setup.packet_size c
    promise = all_at (ModelGives E (answers engine) setup.packet_size) w.connections place c promised.each found.there

    link : done.lost ≡ true → link_of setup w e ≡ Some (suc place)
    link = lost_there setup engine (answers engine) w e place c old pipes (in_player s.was old) done.lost is (stands_at old place s.was s.at s.number) found s.loses

    acts : RefinesActs setup.packet_size engine place c w.connections (acts_on setup (answers engine) w (met (loss_of done) e) (suc place) c) done (all_of new) pipes'
    acts =
        subst (λ (ls : List (Seated E S)). RefinesActs setup.packet_size engine place c w.connections (acts_on setup (answers engine) w (met (loss_of done) e) (suc place) c) done ls pipes') (sym s.all)
        (acts_alike setup engine (answers engine) w e place c old pipes pipes' (in_player s.was old) (in_player s.now new) done is (stands_at old place s.was s.at s.number) (within_all old place s.was s.at) s.ties.others found countable
        (λ played counts is_ready. s.refines setup engine w c (subst (λ (n : ℕ). IsFaithful (pipes' n)) (sym s.number) faithful) is promised promise played is_ready counts))

-- Where what came then is the first of what was handed over, it was so before.
pub steps_faithful : {E S : Type 0} (answers : E → Answers) (e : Event) (place : ℕ) (old new : Player E S) (pipes pipes' : ℕ → Option Pipe) (told still : List BegunEvent) (done : EventDone) → StepsAt answers e place old new pipes pipes' told still done → AreFaithfulTo (length new.links.items) pipes' → AreFaithfulTo (length old.links.items) pipes
steps_faithful answers e place old new pipes pipes' told still done s all =
    faithful_to s.was.link.number pipes pipes' s.ties.others s.ties.faithful (length old.links.items)
    (subst (λ (n : ℕ). AreFaithfulTo n pipes') (steps_count answers e place old new pipes pipes' told still done s) all)

-- What came on its connection is the first of what was handed over, where it is so on all.
pub steps_here : {E S : Type 0} (answers : E → Answers) (e : Event) (place : ℕ) (old new : Player E S) (pipes pipes' : ℕ → Option Pipe) (told still : List BegunEvent) (done : EventDone) → StepsAt answers e place old new pipes pipes' told still done → AreFaithfulTo (length new.links.items) pipes' → IsFaithful (pipes' (suc place))
steps_here answers e place old new pipes pipes' told still done s all =
    let within : place < length old.links.items = slice_get_within old.links.items place s.was s.at in
    all place (omega (arith, within, steps_count answers e place old new pipes pipes' told still done s))

-- Nothing changes at the carrier but on a connection of the player.
pub steps_beyond : {E S : Type 0} (answers : E → Answers) (e : Event) (place : ℕ) (old new : Player E S) (pipes pipes' : ℕ → Option Pipe) (told still : List BegunEvent) (done : EventDone) → StepsAt answers e place old new pipes pipes' told still done → AreSameBeyond (length new.links.items) pipes pipes'
steps_beyond answers e place old new pipes pipes' told still done s n beyond =
    let within : place < length old.links.items = slice_get_within old.links.items place s.was s.at in
    s.ties.others n (λ same. beyond place (omega (arith, within, steps_count answers e place old new pipes pipes' told still done s)) (same ∙ s.number))

-- A step for whatever the carrier was told of.
pub for_told : {E S : Type 0} (answers : E → Answers) (e : Event) (place : ℕ) (old new : Player E S) (pipes : ℕ → Option Pipe) (told : List BegunEvent) (done : EventDone) → StepsAt answers e place old new pipes pipes [] [] done → StepsAt answers e place old new pipes pipes told told done
for_told answers e place old new pipes told done s = record {
  was = s.was;
  now = s.now;
  at = s.at;
  number = s.number;
  links = s.links;
  all = s.all;
  held = s.held;
  same_number = s.same_number;
  ties = record { tied = s.ties.tied; others = s.ties.others; begun = refl; faithful = s.ties.faithful };
  failed = s.failed;
  gone = s.gone;
  loses = s.loses;
  reads = s.reads;
  setup = s.setup;
  grows = s.grows;
  noted = s.noted;
  refines = s.refines;
}

-- It is of the event that it is.
pub of_event : {E S B : Type 0} (answers : E → Answers) (e kind : Event) (place : ℕ) (old new : Player E S) (pipes pipes' : ℕ → Option Pipe) (told still : List BegunEvent) (r : Result EventDone B) → e ≡ kind → IfOk r (λ done. StepsAt answers kind place old new pipes pipes' told still done) → IfOk r (λ done. StepsAt answers e place old new pipes pipes' told still done)
of_event answers e kind place old new pipes pipes' told still r is s = subst (λ (x : Event). IfOk r (λ done. StepsAt answers x place old new pipes pipes' told still done)) (sym is) s

pub of_quiet : {E S B : Type 0} (answers : E → Answers) (e kind : Event) (place : ℕ) (old new : Player E S) (pipes : ℕ → Option Pipe) (told : List BegunEvent) (r : Result EventDone B) → e ≡ kind → IfOk r (λ done. StepsAt answers kind place old new pipes pipes [] [] done) → IfOk r (λ done. StepsAt answers e place old new pipes pipes told told done)
of_quiet answers e kind place old new pipes told (Ok done) is s = subst (λ (x : Event). StepsAt answers x place old new pipes pipes told told done) (sym is) (for_told answers kind place old new pipes told done s)
of_quiet answers e kind place old new pipes told (Err why) is s = s
