-- A connection on which the server works, in a play and in the model.
use Rattle.std.proofs.Common.{◌≡◌, ◌≤◌, ◌∙◌, ℕ, Bool, true, false, refl, sym, ap, subst, Option, Some, None, option_map, List, [], ◌∷◌}
use Rattle.tds_packet.specs.declared.kind.Direction.TheVariants.{ToClient}
use Rattle.tds_packet.specs.declared.status.Reset.{Reset}
use Rattle.tds_server.specs.declared.outcome.Worked.{Worked}
use Rattle.tds_server.specs.declared.outcome.Worked.TheVariants as server
use Rattle.tds_server.specs.State as phase
use Rattle.tds_server.specs.State.{ServerState, Phase}
use Rattle.tds_server.specs.Working.{worked, works_in}
use Rattle.tds_server.specs.Working as serving
use Rattle.tds_session.specs.Answer.{Step}
use Rattle.tds_session.specs.Session.{SessionState}
use Rattle.tds_world.specs.declared.outcome.WorkOutcome.TheVariants as work
use Rattle.tds_world.specs.Arrivals.{works, works_on}
use Rattle.tds_world.specs.Connection.{Connection, down_underway}
use Rattle.tds_world.specs.Entries.{down_bytes}
use Rattle.tds_world.specs.Events.{work_outcome}
use Rattle.tds_world.specs.Record.{ran_in, runs}
use Rattle.tds_world.specs.Record as world
use Rattle.tds_play.specs.Acts.{current_behind, worked_as, worked_by}
use Rattle.tds_ends.specs.Refines.{RefinesWork, worked_outcome}
use Rattle.tds_ends.specs.Stands.{MatchesClient}
use Rattle.tds_play.specs.Links.{stepped}
use Rattle.tds_play.specs.Pipe.{Pipe}
use Rattle.tds_play.specs.Plays.{RepresentsConnection}
use Rattle.tds_world.specs.Newest.{WorksOnNewest}
use Rattle.tds_play.specs.Requests.{MatchesRecord, IsNewest}
use Rattle.tds_play.specs.declared.link.Link.{Link}
use Rattle.tds_play.specs.Seats.{Seat}
use Rattle.tds_play.specs.declared.request.Record.{Record}
use Rattle.tds_play.proofs.Outward.{Handed, SentMore, replied_played}

-- ---- What the server's work changes

worked_is : {E S : Type 0} (b : Bool) (state : ServerState E) (link : Link E S) → worked_by (serving.worked_by b) state link ≡ record link { server = state; current = current_behind (serving.worked_by b) link.server.session state.session link.current }
worked_is true state link = refl
worked_is false state link = refl

link_by : {E S : Type 0} (p : Phase) (link : Link E S) → worked_as (works_in link.server p) link ≡ record link { server = (works_in link.server p).state; current = current_behind (works_in link.server p).answer link.server.session (works_in link.server p).state.session link.current }
link_by (phase.Answering (s ∷ ss) id begun) link = worked_is s.last (works_in link.server (phase.Answering (s ∷ ss) id begun)).state link
link_by p link = refl

-- What a call left that did so.
pub worked_so : {E S : Type 0} (link new : Link E S) (s : ServerState E) (a : Worked) (before : SessionState)
    → s ≡ (worked link.server).state → a ≡ (worked link.server).answer → before ≡ link.server.session
    → new ≡ record link { server = s; current = current_behind a before s.session link.current }
    → new ≡ worked_as (worked link.server) link
worked_so {E} {S} link new s a before server answer from is =
    let w = worked link.server in
    is
    ∙ ap (λ (x : SessionState). record link { server = s; current = current_behind a x s.session link.current }) from
    ∙ ap (λ (x : Worked). record link { server = s; current = current_behind x link.server.session s.session link.current }) answer
    ∙ ap (λ (x : ServerState E). record link { server = x; current = current_behind w.answer link.server.session x.session link.current }) server
    ∙ sym (link_by link.server.phase link)

engine_by : {E : Type 0} (p : Phase) (s : ServerState E) → (works_in s p).state.engine ≡ s.engine
engine_by (phase.Answering [] id begun) s = refl
engine_by (phase.Answering (t ∷ ts) id begun) s = refl
engine_by p s = refl

-- ---- What the model's work leaves

standing_kept : (c : Connection) (due : List Step) → (works_on c due).standing ≡ c.standing
standing_kept c [] = refl
standing_kept c (s ∷ ss) = refl

above_kept : (c : Connection) (due : List Step) → (works_on c due).to_server ≡ c.to_server
above_kept c [] = refl
above_kept c (s ∷ ss) = refl

-- ---- The newest request

-- The first step runs in the session that its reset says, and the other ones change nothing.
ran_alike : (ran : Option SessionState) (mark reset : Option Reset) (before after : SessionState) → (ran ≡ None → reset ≡ mark) → ran_in ran mark before after ≡ ran_in ran reset before after
ran_alike (Some x) mark reset before after h = refl
ran_alike None mark reset before after h = ap (λ (m : Option Reset). ran_in None m before after) (sym (h refl))

stepped_alike : (number : ℕ) (r : Record) (q : world.Record) (s : Step) (before after session : SessionState) → MatchesRecord number false r q → (q.ran ≡ None → s.reset ≡ q.asking.mark) → before ≡ session → after ≡ s.after → MatchesRecord number false (stepped before after r) (runs session s q)
stepped_alike number r q s before after session i first from to = record {
  lease = i.lease;
  conn = i.conn;
  mark = i.mark;
  status = i.status;
  ran = ap Some (
      ap (λ (x : Option SessionState). ran_in x r.mark before after) i.ran
      ∙ ap (λ (m : Option Reset). ran_in q.ran m before after) i.mark
      ∙ ran_alike q.ran q.asking.mark s.reset before after first
      ∙ ap (λ (x : SessionState). ran_in q.ran s.reset x after) from
      ∙ ap (λ (x : SessionState). ran_in q.ran s.reset session x) to
      );
  tokens = i.tokens;
}

stepped_newest : (number : ℕ) (r : Option Record) (current then : Option world.Record) (q : world.Record) (s : Step) (before after session : SessionState) → current ≡ Some q → then ≡ Some (runs session s q) → (q.ran ≡ None → s.reset ≡ q.asking.mark) → before ≡ session → after ≡ s.after → IsNewest number false r current → IsNewest number false (option_map (stepped before after) r) then
stepped_newest number None current then q s before after session is will first from to h =
    absurd (subst (λ (o : Option world.Record). IsNewest number false None o) is h)
stepped_newest number (Some r) current then q s before after session is will first from to h =
    subst (λ (o : Option world.Record). IsNewest number false (Some (stepped before after r)) o) (sym will)
    (stepped_alike number r q s before after session (subst (λ (o : Option world.Record). IsNewest number false (Some r) o) is h) first from to)

some_done : (s : Step) (ss : List Step) → work_outcome (s ∷ ss) ≡ work.Idle → ⊥
some_done s [] e = absurd (cc)
some_done s (t ∷ ts) e = absurd (cc)

newest_by : (number : ℕ) (due : List Step) (a : Worked) (before after : SessionState) (c : Connection) (r : Option Record)
    → due ≡ c.due → work_outcome due ≡ worked_outcome a → WorksOnNewest c due → before ≡ c.session → after ≡ (works c).session
    → IsNewest number false r c.current → IsNewest number false (current_behind a before after r) (works c).current
newest_by number [] server.Idle before after c r e told w from to h =
    subst (λ (d : List Step). IsNewest number false r (works_on c d).current) e h
newest_by number [] server.Step before after c r e told w from to h = absurd (cc)
newest_by number [] server.Finished before after c r e told w from to h = absurd (cc)
newest_by number (s ∷ ss) server.Idle before after c r e told w from to h = absurd (some_done s ss told)
newest_by number (s ∷ ss) server.Step before after c r e told w from to h =
    stepped_newest number r c.current (works c).current w.request s before after c.session w.newest w.then w.first from
    (to ∙ ap (λ (d : List Step). (works_on c d).session) (sym e)) h
newest_by number (s ∷ ss) server.Finished before after c r e told w from to h =
    stepped_newest number r c.current (works c).current w.request s before after c.session w.newest w.then w.first from
    (to ∙ ap (λ (d : List Step). (works_on c d).session) (sym e)) h

-- ---- The connection then

pub worked_played : {E S : Type 0} → SentMore down_bytes → (number size : ℕ) (engine : E) (link mid new : Link E S) (seat : Seat) (pipe after : Option Pipe) (c : Connection) (bytes : List ℕ)
    → RepresentsConnection number size engine link seat pipe c → link.is_cut ≡ false
    → RefinesWork c (worked link.server) → MatchesClient seat.client (works c)
    → WorksOnNewest c c.due → (works c).past ≡ c.past → down_underway (works c) ≤ 18446744073709551615
    → mid ≡ worked_as (worked link.server) link → bytes ≡ (worked link.server).packet
    → Handed ToClient mid new pipe after bytes
    → (worked_outcome (worked link.server).answer ≡ work_outcome c.due) × RepresentsConnection number size engine new seat after (works c)
worked_played {E} {S} appends number size engine link mid new seat pipe after c bytes i live a stays newest past few is sent h =
    let w = worked link.server in
    let v = (i.lives live).stands in
    let behind : Option Record = current_behind w.answer link.server.session w.state.session link.current in
    let at : mid ≡ record link { server = w.state; current = behind } = is ∙ link_by link.server.phase link in (
      sym a.outcome,
      replied_played appends number size engine link new seat w.state behind pipe after c (works c) w.packet i live
          (subst (λ (l : Link E S). Handed ToClient l new pipe after w.packet) at (subst (λ (bs : List ℕ). Handed ToClient mid new pipe after bs) sent h))
          (standing_kept c c.due) (engine_by link.server.phase link.server)
          stays a.matches a.sends (above_kept c c.due) past
          (newest_by number c.due w.answer link.server.session w.state.session c link.current refl a.outcome newest v.server.session a.matches.session
          (subst (λ (b : Bool). IsNewest number b link.current c.current) live i.newest))
          few,
    )
