-- What is seen of bytes is a lawful conversation, from a new judge on.
use Rattle.std.proofs.Common.{◌≡◌, ◌==◌, true, false, List, [], ◌∷◌, Option, Some, refl, sym, ap, subst}
use Rattle.tds_wire.specs.declared.told.Token.{Token}
use Rattle.tds_wire.specs.Reading.{Parser}
use Rattle.tds_service.specs.Line as line
use Rattle.tds_service.specs.Line.{Act, Answer, Line, new_line, line_turn}
use Rattle.tds_service.specs.History.{Done, done_by, history}
use Rattle.laws_conforming_server.specs.Answering.{NoFault, UnlessLost}
use Rattle.tds_judge.specs.declared.frame.Frame.{Frame}
use Rattle.tds_judge.specs.declared.judge.Judge.{Judge}
use Rattle.tds_judge.specs.declared.talk.Limits.{Limits}
use Rattle.tds_judge.specs.Conversation.{IsLawful, seen}
use Rattle.tds_judge.specs.Framing.{IsNew, run_of}
use Rattle.tds_judge.specs.History.{Said, Tells, found_in, further}
use Rattle.tds_judge.proofs.InRuns.{Cuts}
use Rattle.laws_never_blamed.specs.Seen.{AllBehindLogin, Eye, Watch, sees_done, watch_by}
use Rattle.laws_never_blamed.specs.Spelled.{AreSeen, IsHanded, IsSeen, Shown, new_watch, new_wire, pieces}
use Rattle.laws_never_blamed.proofs.Acts.{closes, moves, starts}
use Rattle.laws_never_blamed.proofs.Heads.{Base}
use Rattle.laws_never_blamed.proofs.In.{First as First_in}
use Rattle.laws_never_blamed.proofs.Out.{First}
use Rattle.laws_never_blamed.proofs.Shows.{State}
use Rattle.laws_never_blamed.proofs.Speaks.{speaks}
use Rattle.laws_never_blamed.proofs.Steps.{Stands}

-- ---- What is seen is lawful

seen_lawful : (answer : Answer) (w : Watch) (past : List Said) (d : Done Token) (behind : Watch → List Said → Type 0) (all : List Said) (Rest : Type 0)
    → IsLawful past → UnlessLost answer Rest → ((eye : Eye) → behind (watch_by d w) (sees_done eye w past d) → Rest → IsLawful all) → IsSeen answer w past d behind all → IsLawful all
seen_lawful line.Lost w past d behind all Rest lawful rest so is = subst IsLawful (sym is.1) (closes is.0 past lawful)
seen_lawful _ w past d behind all Rest lawful rest so is = so is.0 is.1 rest

all_lawful : (l : Line) (w : Watch) (past : List Said) (acts : List (Act Token)) (all : List Said) → AllBehindLogin acts → Stands l w past → NoFault (history l acts)
    → AreSeen w past (history l acts) all → IsLawful all
all_lawful l w past [] all plain stands well is = subst IsLawful (sym is) stands.knows.lawful
all_lawful l w past (act ∷ acts) all plain stands well is =
    let d = done_by act (line_turn l act) in
    seen_lawful d.answer w past d (λ v before. AreSeen v before (history (line_turn l act).line acts) all) all (NoFault (history (line_turn l act).line acts)) stands.knows.lawful well.1
    (λ (eye : Eye) (rest : AreSeen (watch_by d w) (sees_done eye w past d) (history (line_turn l act).line acts) all) (others : NoFault (history (line_turn l act).line acts)).
    all_lawful (line_turn l act).line (watch_by d w) (sees_done eye w past d) acts all plain.1
    (moves eye l.asked l.stage l.heard w past act plain.0 stands.knows stands.at well.0) others rest) is

-- ---- A new judge

begins : (limits : Limits) (j : Judge) (r : Parser) → IsNew limits j → j.parser ≡ Some r → State (record { limits = j.limits; talk = j.talk; told = [] }) line.Idle false (new_wire r) (run_of j []) []
unfolding further found_in
begins limits j r new parser = record {
  client = j.client;
  server = j.server;
  parser = r;
  run_is = ap (λ (x : Option Parser). run_of (record j { parser = x }) []) parser;
  out = record {
    due = ap (λ (f : Frame). f.due) new.client;
    edge = First (ap (λ (f : Frame). f.part) new.client) (ap (λ (f : Frame). f.offset) new.client);
    kind = ap (λ (f : Frame). f.kind == 18) new.client;
  };
  into = (
    record { due = ap (λ (f : Frame). f.due) new.server; start = First_in (ap (λ (f : Frame). f.part) new.server) (ap (λ (f : Frame). f.offset) new.server) },
    (λ (none : true ≡ false). absurd cc),
    refl,
  );
}

-- what was said of the bytes is what is seen
pub heard_of : (cuts : Cuts) (limits : Limits) (j : Judge) (r : Parser) (acts : List (Act Token)) (shown : List Shown)
    → IsNew limits j → j.parser ≡ Some r → IsHanded r (history new_line acts) shown → NoFault (history new_line acts)
    → (tells : Tells (run_of j []) (seen (pieces shown) (run_of j []))) × AreSeen new_watch [] (history new_line acts) tells.events
heard_of cuts limits j r acts shown new parser handed well =
    let base : Base = record { limits = j.limits; talk = j.talk; told = [] } in
    let all = speaks cuts base new_line new_watch (new_wire r) (run_of j []) [] acts shown handed.done well handed.spelled (begins limits j r new parser) in
    (record { events = all.all; talk = all.ends.talk; limits = all.ends.limits; told = all.ends.told }, all.seen)

pub is_lawful_of : (acts : List (Act Token)) (all : List Said) → AllBehindLogin acts → NoFault (history new_line acts) → AreSeen new_watch [] (history new_line acts) all → IsLawful all
is_lawful_of acts all plain well is = all_lawful new_line new_watch [] acts all plain starts well is
