-- Answers that don't keep the rules, and connections that are no run: wrong servers, refused.
use Rattle.std.proofs.Common.{◌≡◌, ◌∙◌, Bool, true, false, List, [], ◌∷◌, ◌++◌, refl, sym, ap, subst}
use Rattle.std.specs.Prelude.{Some, None}
use Rattle.std.specs.List.{AllByRecursion}
use Rattle.std.proofs.lemmas.List.{append-nil}
use Rattle.tds_packet.specs.declared.status.Reset.TheVariants.{Full}
use Rattle.tds_packet.specs.declared.kind.Kind.TheVariants as kind
use Rattle.tds_request.specs.declared.request.Request.TheVariants.{Batch}
use Rattle.tds_token.specs.declared.env_change.EnvChange.TheVariants as change
use Rattle.tds_token.specs.declared.token.Token.{Token}
use Rattle.tds_token.specs.declared.token.Token.TheVariants as token
use Rattle.tds_session.specs.declared.attention.OnAttention.TheVariants.{Keep}
use Rattle.tds_session.specs.Answer as answer
use Rattle.tds_session.specs.Answer.{Answers, reset_step}
use Rattle.tds_session.specs.Session.{SessionState, after_reset, new_session}
use Rattle.tds_service.specs.Parts as parts
use Rattle.tds_service.specs.Parts.{Item, Close}
use Rattle.tds_service.specs.Line as line
use Rattle.tds_world.specs.declared.report.Place.TheVariants as place
use Rattle.tds_world.specs.Connection.{Connection, new_connection}
use Rattle.tds_world.specs.Entries.{Up, Part, Drop, Down, Step, packet}
use Rattle.laws_conforming_server.specs.Lawful as lawful
use Rattle.laws_conforming_server.specs.Lawful.{AnyServer, IsLawful}
use Rattle.laws_conforming_server.specs.Link as links
use Rattle.laws_conforming_server.specs.Link.{Asking, Here, HasSome, Link, Move, Runs, Server, Speaks, Takes, done_here, goes, here, link_after, new_link, spoken, taken, takes, ups}
use Rattle.laws_own_server.specs.Bench.{Kept, Log, bench}
use Rattle.laws_own_server.specs.Runs.{IsRunOf, first_place, packets_in, packets_of, things_said, things_of}

-- ---- Wrong answers

abbrev nothing_asked : Log
nothing_asked r = record { request = Batch []; begun = 0 }

abbrev step_of : List Token → Bool → SessionState → answer.Step
step_of ts last s = record { tokens = ts; last = last; reset = None; after = s }

-- the last DONE says that more follows
abbrev goes_on : Answers
goes_on s d None q = step_of (token.Done 1 0 0 ∷ []) true s ∷ []
goes_on s d (Some r) q = reset_step r s ∷ step_of (token.Done 1 0 0 ∷ []) true (after_reset r s) ∷ []

not_ended : IsLawful (bench Keep goes_on nothing_asked) → ⊥
not_ended l = let a = l.answers 1 (new_link (bench Keep goes_on nothing_asked)).server.session None 0 in let e : false ≡ true = a.2.1 in cc

-- a transaction 0 begins
abbrev begins_none : Answers
begins_none s d reset q = step_of (token.Env (change.Begin 0) ∷ token.Done 0 0 0 ∷ []) true s ∷ []

not_placed : IsLawful (bench Keep begins_none nothing_asked) → ⊥
not_placed l = let a = l.answers 1 (new_link (bench Keep begins_none nothing_asked)).server.session None 0 in let e : None ≡ Some 0 = a.0 in cc

-- the reset's end isn't told
abbrev resets_untold : Answers
resets_untold s d None q = step_of (token.Done 0 0 0 ∷ []) true s ∷ []
resets_untold s d (Some r) q = step_of (token.Done 0 0 0 ∷ []) true (after_reset r s) ∷ []

not_told : IsLawful (bench Keep resets_untold nothing_asked) → ⊥
not_told l = let a = l.answers 1 (new_link (bench Keep resets_untold nothing_asked)).server.session (Some Full) 0 in let e : Some Full ≡ None = a.2.0 in cc

-- ---- Wrong servers: they say something, and no request is whole

-- a packet that nothing is said to
abbrev IsMute : line.Packet → Type 0
IsMute (line.OfRequest n first reset false) = Unit {0}
IsMute (line.OfRequest n first reset true) = ⊥
IsMute (line.Ignore n) = Unit {0}
IsMute line.Attention = ⊥

abbrev AllMute : List line.Packet → Type 0
AllMute ps = AllByRecursion IsMute ps

abbrev UpsMute : List links.PacketUp → Type 0
UpsMute us = AllByRecursion (λ (u : links.PacketUp). IsMute u.packet) us

pub record Mute {V T : Type 0} (link : Link V T) : Type 0 where
  pub up : UpsMute link.up
  pub due : link.server.due ≡ []
  pub down : link.down ≡ []

all_of : (xs ys : List line.Packet) → AllMute (xs ++ ys) → AllMute xs × AllMute ys
all_of [] ys a = (tt, a)
all_of (x ∷ xs) ys a = let b = all_of xs ys a.1 in ((a.0, b.0), b.1)

more_mute : (us : List links.PacketUp) (asking : Asking) (ps : List line.Packet) → UpsMute us → AllMute ps → UpsMute (us ++ ups asking ps)
more_mute [] asking [] a b = tt
more_mute [] asking (p ∷ ps) a b = (b.0, more_mute [] asking ps tt b.1)
more_mute (u ∷ us) asking ps a b = (a.0, more_mute us asking ps a.1 b)

takes_mute : {V T : Type 0} (engine : AnyServer V T) (server : Server V T) (asking : Asking) (p : line.Packet) → IsMute p → server.due ≡ [] → (takes engine server asking p).due ≡ []
takes_mute engine server asking (line.OfRequest n first reset false) m e = e
takes_mute engine server asking (line.OfRequest n first reset true) m e = absurd m
takes_mute engine server asking (line.Ignore n) m e = e
takes_mute engine server asking line.Attention m e = absurd m

taken_mute : {V T : Type 0} (engine : AnyServer V T) (link : Link V T) (us : List links.PacketUp) → UpsMute us → link.server.due ≡ [] → link.down ≡ [] → Mute link → Mute (taken engine link us)
taken_mute engine link [] a e d m = m
taken_mute engine link (u ∷ us) a e d m = record { up = a.1; due = takes_mute engine link.server u.asking u.packet a.0 e; down = d }

none_said : {V T : Type 0} (steps : List (lawful.ServerStep V T)) → steps ≡ [] → HasSome steps → ⊥
none_said {V} {T} steps e h = subst (λ (xs : List (lawful.ServerStep V T)). HasSome xs) e h

none_end : {V T : Type 0} (close : Close) → links.without_end {V = V} {T = T} close [] ≡ []
none_end parts.Goes = refl
none_end parts.Ends = refl
none_end parts.Cut = refl
none_end (parts.Fails refusal) = refl

none_left : {V T : Type 0} (items : List (Item T)) (close : Close) → links.without {V = V} {T = T} items close [] ≡ []
none_left [] close = none_end close
none_left (item ∷ items) close = refl

down_mute : {V T : Type 0} (a : line.Act T) (down : List (lawful.ServerStep V T)) → down ≡ [] → links.behind_act a down ≡ []
down_mute (line.Mark reset) down e = e
down_mute line.Ask down e = e
down_mute (line.Send last) down e = e
down_mute line.Cancel down e = e
down_mute (line.Come part) down e = ap (λ d. links.without part.items part.close d) e ∙ none_left part.items part.close
down_mute line.Lose down e = e

mute : {V T : Type 0} (engine : AnyServer V T) (link : Link V T) (moves : List (Move T)) → Mute link → AllMute (packets_in (here moves)) → Runs engine link moves → Mute (link_after engine link moves)
mute engine link [] m a r = m
mute engine link (Here d ∷ moves) m a r =
    let both = all_of d.sent (packets_in (here moves)) a in
    mute engine (done_here link d) moves (record { up = more_mute link.up link.asking d.sent m.up both.0; due = m.due; down = down_mute d.act link.down m.down }) both.1 r.1
mute engine link (Takes ∷ moves) m a r = mute engine (goes engine link Takes) moves (taken_mute engine link link.up m.up m.due m.down m) a r.1
mute engine link (Speaks ∷ moves) m a r = absurd (none_said link.server.due m.due r.0)

-- ---- Such a connection is no run

abbrev here_was : List Up → List Up → List Down → List Down → Connection
here_was arrived waiting came downs = record (new_connection Keep (place.Leased 1)) {
  to_server = record { arrived = arrived; waiting = waiting; part = 0 };
  to_client = record { arrived = came; waiting = downs; part = 0 };
}

abbrev said_done : Down
said_done = Step 1 1 (step_of (token.Done 0 0 0 ∷ []) true new_session)

abbrev a_part : Up
a_part = Part 1 (packet kind.Batch 0 1 (1 ∷ []))

new_mute : (engine : AnyServer Kept Token) → Mute (new_link engine)
new_mute engine = record { up = tt; due = refl; down = refl }

no_run : (answers : Answers) (arrived : List Up) → AllMute (packets_of first_place arrived) → IsRunOf answers (here_was arrived [] [] (said_done ∷ [])) → ⊥
no_run answers arrived m i =
    let engine = bench Keep answers i.log in
    let n : Mute (link_after engine (new_link engine) i.moves) =
    mute engine (new_link engine) i.moves (new_mute engine)
    (subst (λ ps. AllMute ps) (sym i.to.sent) (subst (λ (es : List Up). AllMute (packets_of first_place es)) (sym (append-nil arrived)) m)) i.to.runs in
    let e : [] ≡ things_of (said_done ∷ []) = sym (ap (λ (d : List (lawful.ServerStep Kept Token)). things_said d) n.down) ∙ i.to.stands.down in
    let b : ⊥ = cc in b

-- it answers before it is asked
unasked : (answers : Answers) → IsRunOf answers (here_was [] [] [] (said_done ∷ [])) → ⊥
unasked answers i = no_run answers [] tt i

-- it answers at a request's first packet
too_early : (answers : Answers) → IsRunOf answers (here_was (a_part ∷ []) [] [] (said_done ∷ [])) → ⊥
too_early answers i = no_run answers (a_part ∷ []) (tt, tt) i

-- it answers what is to be ignored
ignored : (answers : Answers) → IsRunOf answers (here_was (a_part ∷ Drop 1 (packet kind.Batch 3 2 []) ∷ []) [] [] (said_done ∷ [])) → ⊥
ignored answers i = no_run answers (a_part ∷ Drop 1 (packet kind.Batch 3 2 []) ∷ []) (tt, (tt, tt)) i
