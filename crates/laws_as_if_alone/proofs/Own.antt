-- What an application does on its connection, and what comes there: the server's end keeps step with a server of one's own.
use Rattle.std.proofs.Common.{◌≡◌, ◌∙◌, ℕ, zero, suc, Bool, true, false, not, List, [], ◌∷◌, ◌++◌, length, drop, refl, sym, ap, subst}
use Rattle.std.specs.Prelude.{Option, Some, None, Result, Ok, Err, if◌then◌else◌}
use Rattle.std.proofs.lemmas.List.Elements.{filter-append}
use Rattle.std.proofs.Math.Seq.{drop-append_seam}
use Rattle.tds_packet.specs.declared.status.Reset.{Reset}
use Rattle.tds_client.specs.declared.fault.ClientFault.{ClientFault}
use Rattle.tds_client.specs.declared.fault.ClientRefusal.{ClientRefusal}
use Rattle.tds_client.specs.declared.heard.Heard.{Heard}
use Rattle.tds_client.specs.declared.heard.FinalDone.{FinalDone}
use Rattle.tds_client.specs.declared.heard.FinalDone.TheVariants.{Awaited, Answered, Acknowledged}
use Rattle.tds_client.specs.declared.sign.Rules.TheVariants.{Any}
use Rattle.tds_client.specs.Hearing.{may_end}
use Rattle.tds_listen.specs.declared.fault.ListenFault.{ListenFault}
use Rattle.tds_listen.specs.Hearing.{heard_by}
use Rattle.tds_wire.specs.declared.told.Token.{Token}
use Rattle.tds_service.specs.Parts as parts
use Rattle.tds_service.specs.Parts.{Item, Close, Part, is_end, hear_items, hear_part, heard_until, close_part, close_by, unless_owed}
use Rattle.tds_service.specs.Line as line
use Rattle.tds_service.specs.Line.{Line, Act, Packet, OfRequest, LineStage, Turn, line_turn, asks, sends, cancels, comes, reads, skips, skips_to_end, at, mark_on, not_begun, stage_behind}
use Rattle.tds_service.specs.History.{history, line_after}
use Rattle.tds_service.specs.Refusing.{packets, refusal_in}
use Rattle.laws_conforming_server.specs.Lawful.{Session, reset_by}
use Rattle.tds_relay.specs.Pool as pool
use Rattle.tds_relay.specs.Pool.{Action, hearing_of}
use Rattle.tds_relay.proofs.held.Ours.{acts_of_action, first_of}
use Rattle.laws_as_if_alone.specs.Serving.{ServerAsk, Runs, Resets, Stops, Finds, Ends, ServerEnd, Moment, Server, but_news, fresh, is_news, packets_in, reset_if, takes_all, told_if}
use Rattle.laws_as_if_alone.specs.Alone.{EndsBehind, IsNext, IsNextAt, does_at, given_at, settles_at}

pub append_none : (ys : List (Item Token)) → ys ++ [] ≡ ys
append_none [] = refl
append_none (y ∷ ys) = ap (λ (zs : List (Item Token)). y ∷ zs) (append_none ys)

-- Where the newest request is, the session of a server of one's own is that of this end, or what the reset that is owed makes of it.
abbrev pub StandsAt : {V : Type 0} → Server V → Session V → LineStage → Option Reset → ServerEnd V → Type 0
StandsAt server s line.Idle mark e = reset_if server mark e.session ≡ s
StandsAt server s (line.Sending false) mark e = reset_if server mark e.session ≡ s
StandsAt server s (line.Sending true) mark e = reset_if server e.reset e.session ≡ s
StandsAt server s line.Reading mark e = e.session ≡ s
StandsAt server s line.Cancelling mark e = Unit {0}
StandsAt server s (line.Broken fault) mark e = ⊥

abbrev pub Stands : {V : Type 0} → Server V → Session V → Line → ServerEnd V → Type 0
Stands server s l e = StandsAt server s l.stage l.heard.mark e

-- What one of one's own answers by what was asked: nothing new where nothing was, and the rest is given or still underway.
abbrev pub Answers : {V : Type 0} → Server V → ℕ → Session V → List (Item Token) → ServerAsk V → Session V → List (Item Token) → Type 0
Answers server count s before (Runs request) next behind = (before ≡ []) × (next ≡ (request s).after) × (behind ≡ but_news (request s).items)
Answers server count s before (Resets reset) next behind = (before ≡ []) × (next ≡ reset_by server.settings reset s) × (behind ≡ [])
Answers server count s before (Stops number) next behind = (number ≡ count) × (next ≡ s) × (behind ≡ [])
Answers server count s before (Finds session) next behind = (before ≡ []) × (next ≡ session) × (behind ≡ [])
Answers server count s before (Ends number) next behind = (number ≡ count) × (next ≡ fresh server) × (behind ≡ [])

abbrev pub Follows : {V : Type 0} → Server V → ℕ → Session V → List (Item Token) → List (ServerAsk V) → List (Item Token) → Session V → List (Item Token) → Type 0
Follows server count s before [] items next behind = (next ≡ s) × (before ≡ items ++ behind)
Follows server count s before (ask ∷ []) items next behind = (items ≡ []) × Answers server count s before ask next behind
Follows server count s before (ask ∷ more ∷ asks) items next behind = ⊥

-- These packets go out: what is asked by them is answered alone so, and this much is underway behind them.
pub record Acted {V : Type 0} (server : Server V) (m : Moment V) (count : ℕ) (s : Session V) (stage : LineStage) (e : ServerEnd V) (l : Line) (ps : List Packet) (asked : List (ServerAsk V)) : Type 0 where
  pub next : Session V
  pub stands : Stands server next l (takes_all server m ps e)
  pub follows : Follows server count s (given_at stage e.due) asked [] next (given_at l.stage (takes_all server m ps e).due)

module _ {V : Type 0} (server : Server V) (m : Moment V) (count : ℕ) (s : Session V) where
  pub same_acted : (l : Line) (e : ServerEnd V) → Stands server s l e → Acted server m count s l.stage e l [] []
  same_acted l e h = record { next = s; stands = h; follows = (refl, refl) }

  asks_acted : (l : Line) (e : ServerEnd V) (stage : LineStage) → refusal_in (asks {T = Token} l stage).answer ≡ None → StandsAt server s stage l.heard.mark e
      → Acted server m count s stage e (asks {T = Token} l stage).line ((asks {T = Token} l stage).sent ++ []) []
  asks_acted l e line.Idle f h = record { next = s; stands = h; follows = (refl, refl) }
  asks_acted l e (line.Sending begun) f h = absurd (let u : ⊥ = cc in u)
  asks_acted l e line.Reading f h = absurd (let u : ⊥ = cc in u)
  asks_acted l e line.Cancelling f h = absurd (let u : ⊥ = cc in u)
  asks_acted l e (line.Broken fault) f h = absurd h

  stops_acted : (l : Line) (e : ServerEnd V) (stage : LineStage) → l.stage ≡ stage → StandsAt server s stage l.heard.mark e
      → Acted server m count s stage e (cancels {T = Token} l stage).line ((cancels {T = Token} l stage).sent ++ []) (does_at m count pool.Stops stage)
  stops_acted l e line.Idle is h =
      let before : Stands server s l e = subst (λ (st : LineStage). StandsAt server s st l.heard.mark e) (sym is) h in
      subst (λ (st : LineStage). Acted server m count s st e l [] []) is (same_acted l e before)
  stops_acted l e (line.Sending false) is h = record { next = s; stands = h; follows = (refl, refl) }
  stops_acted l e (line.Sending true) is h = record { next = s; stands = tt; follows = (refl, (refl, refl, refl)) }
  stops_acted l e line.Reading is h = record { next = s; stands = tt; follows = (refl, (refl, refl, refl)) }
  stops_acted l e line.Cancelling is h =
      let before : Stands server s l e = subst (λ (st : LineStage). StandsAt server s st l.heard.mark e) (sym is) tt in
      subst (λ (st : LineStage). Acted server m count s st e l [] []) is (same_acted l e before)
  stops_acted l e (line.Broken fault) is h = absurd h

  -- ---- Packets of a request

  abbrev sent_by : Line → Bool → Bool → Turn Token
  sent_by l begun last = record {
    line = at l (stage_behind last);
    answer = line.Sent;
    sent = OfRequest l.asked (not_begun begun) (mark_on begun l.heard.mark) last ∷ [];
    told = line.Nobody;
  }

  sends_is : (l : Line) (begun last : Bool) → l.stage ≡ line.Sending begun → line_turn {T = Token} l (line.Send last) ≡ sent_by l begun last
  sends_is l begun last e = rw e refl

  abbrev asked_reset : Line → Bool → ServerEnd V → Option Reset
  asked_reset l begun e = if not_begun begun then mark_on begun l.heard.mark else e.reset

  asked_stands : (l : Line) (begun : Bool) (e : ServerEnd V) → StandsAt server s (line.Sending begun) l.heard.mark e → reset_if server (asked_reset l begun e) e.session ≡ s
  asked_stands l false e h = h
  asked_stands l true e h = h

  abbrev begun_end : Line → Bool → ServerEnd V → ServerEnd V
  begun_end l begun e = record { session = e.session; reset = asked_reset l begun e; due = e.due }

  -- one more of them
  one_more : (l l2 : Line) (begun : Bool) (e : ServerEnd V) (ps : List Packet) (asked : List (ServerAsk V)) → Acted server m count s (line.Sending true) (begun_end l begun e) l2 ps asked
      → Acted server m count s (line.Sending begun) e l2 (OfRequest l.asked (not_begun begun) (mark_on begun l.heard.mark) false ∷ ps) asked
  one_more l l2 begun e ps asked a = record { next = a.next; stands = a.stands; follows = a.follows }

  abbrev Behind : List (ServerAsk V) → Bool → ServerEnd V → List (Act Token) → Turn Token → Type 0
  Behind asked begun e rest t = Acted server m count s (line.Sending begun) e (line_after t.line rest) (t.sent ++ packets_in (history t.line rest)) asked

  puts_acted : (l : Line) (number : ℕ) (begun : Bool) (e : ServerEnd V) → l.stage ≡ line.Sending begun → StandsAt server s (line.Sending begun) l.heard.mark e
      → Acted server m count s (line.Sending begun) e (line_after {T = Token} l (packets number)) (packets_in (history l (packets number))) []
  puts_acted l zero begun e is h =
      let before : Stands server s l e = subst (λ (st : LineStage). StandsAt server s st l.heard.mark e) (sym is) h in
      subst (λ (st : LineStage). Acted server m count s st e l [] []) is (same_acted l e before)
  puts_acted l (suc number) begun e is h =
      let l1 = at l (line.Sending true) in
      let more = puts_acted l1 number true (begun_end l begun e) refl (asked_stands l begun e h) in
      let done : Behind [] begun e (packets number) (sent_by l begun false) = one_more l (line_after {T = Token} l1 (packets number)) begun e (packets_in (history l1 (packets number))) [] more in
      subst (Behind [] begun e (packets number)) (sym (sends_is l begun false is)) done

  news_drop : (reset : Option Reset) (items : List (Item Token)) → but_news items ≡ but_news (told_if server reset items)
  news_drop None items = refl
  news_drop (Some reset) items = sym (server.news_only reset items)

  ends_acted : (l : Line) (number : ℕ) (begun : Bool) (e : ServerEnd V) → l.stage ≡ line.Sending begun → StandsAt server s (line.Sending begun) l.heard.mark e
      → Acted server m count s (line.Sending begun) e (line_after {T = Token} l (packets number ++ line.Send true ∷ [])) (packets_in (history l (packets number ++ line.Send true ∷ []))) (Runs m.request ∷ [])
  ends_acted l zero begun e is h =
      let found : reset_if server (asked_reset l begun e) e.session ≡ s = asked_stands l begun e h in
      let done : Behind (Runs m.request ∷ []) begun e [] (sent_by l begun true) = record {
        next = (m.request s).after;
        stands = ap (λ (x : Session V). (m.request x).after) found;
        follows = (
          refl,
          (refl, refl, sym (news_drop (asked_reset l begun e) (m.request s).items ∙ ap (λ (x : Session V). but_news (told_if server (asked_reset l begun e) (m.request x).items)) (sym found))),
        );
      } in
      subst (Behind (Runs m.request ∷ []) begun e []) (sym (sends_is l begun true is)) done
  ends_acted l (suc number) begun e is h =
      let l1 = at l (line.Sending true) in
      let rest : List (Act Token) = packets number ++ line.Send true ∷ [] in
      let more = ends_acted l1 number true (begun_end l begun e) refl (asked_stands l begun e h) in
      let done : Behind (Runs m.request ∷ []) begun e rest (sent_by l begun false) = one_more l (line_after {T = Token} l1 rest) begun e (packets_in (history l1 rest)) (Runs m.request ∷ []) more in
      subst (Behind (Runs m.request ∷ []) begun e rest) (sym (sends_is l begun false is)) done

  puts_by : (l : Line) (number : ℕ) (e : ServerEnd V) (stage : LineStage) → l.stage ≡ stage → refusal_in (sends {T = Token} l false stage).answer ≡ None → StandsAt server s stage l.heard.mark e
      → Acted server m count s stage e (line_after {T = Token} l (packets number)) (packets_in (history l (packets number))) []
  puts_by l number e line.Idle is f h = absurd (let u : ⊥ = cc in u)
  puts_by l number e (line.Sending begun) is f h = puts_acted l number begun e is h
  puts_by l number e line.Reading is f h = absurd (let u : ⊥ = cc in u)
  puts_by l number e line.Cancelling is f h = absurd (let u : ⊥ = cc in u)
  puts_by l number e (line.Broken fault) is f h = absurd h

  ends_by : (l : Line) (number : ℕ) (e : ServerEnd V) (stage : LineStage) → l.stage ≡ stage → refusal_in (sends {T = Token} l true stage).answer ≡ None → StandsAt server s stage l.heard.mark e
      → Acted server m count s stage e (line_after {T = Token} l (packets number ++ line.Send true ∷ [])) (packets_in (history l (packets number ++ line.Send true ∷ []))) (does_at m count (pool.Ends number) stage)
  ends_by l number e line.Idle is f h = absurd (let u : ⊥ = cc in u)
  ends_by l number e (line.Sending begun) is f h = ends_acted l number begun e is h
  ends_by l number e line.Reading is f h = absurd (let u : ⊥ = cc in u)
  ends_by l number e line.Cancelling is f h = absurd (let u : ⊥ = cc in u)
  ends_by l number e (line.Broken fault) is f h = absurd h

  -- ---- An action

  pub action_acted : (l : Line) (action : Action) (e : ServerEnd V) → refusal_in (line_turn l (first_of action)).answer ≡ None → Stands server s l e
      → Acted server m count s l.stage e (line_after l (acts_of_action action)) (packets_in (history l (acts_of_action action))) (does_at m count action l.stage)
  action_acted l pool.Asks e f h = asks_acted l e l.stage f h
  action_acted l (pool.Puts number) e f h = puts_by l number e l.stage refl f h
  action_acted l (pool.Ends number) e f h = ends_by l number e l.stage refl f h
  action_acted l pool.Stops e f h = stops_acted l e l.stage refl h

  ends_refused : (l : Line) (number : ℕ) (stage : LineStage) (why : ClientRefusal) → refusal_in (sends {T = Token} l true stage).answer ≡ Some why → does_at m count (pool.Ends number) stage ≡ []
  ends_refused l number line.Idle why f = refl
  ends_refused l number (line.Sending begun) why f = absurd (let u : ⊥ = cc in u)
  ends_refused l number line.Reading why f = refl
  ends_refused l number line.Cancelling why f = refl
  ends_refused l number (line.Broken fault) why f = refl

  stops_refused : (l : Line) (stage : LineStage) (why : ClientRefusal) → refusal_in (cancels {T = Token} l stage).answer ≡ Some why → does_at m count pool.Stops stage ≡ []
  stops_refused l line.Idle why f = refl
  stops_refused l (line.Sending false) why f = refl
  stops_refused l (line.Sending true) why f = absurd (let u : ⊥ = cc in u)
  stops_refused l line.Reading why f = absurd (let u : ⊥ = cc in u)
  stops_refused l line.Cancelling why f = refl
  stops_refused l (line.Broken fault) why f = refl

  pub refused_asks : (l : Line) (action : Action) (why : ClientRefusal) → refusal_in (line_turn l (first_of action)).answer ≡ Some why → does_at m count action l.stage ≡ []
  refused_asks l pool.Asks why f = refl
  refused_asks l (pool.Puts number) why f = refl
  refused_asks l (pool.Ends number) why f = ends_refused l number l.stage why f
  refused_asks l pool.Stops why f = stops_refused l l.stage why f

  -- ---- What comes

  abbrev pub come_end : Part Token → ServerEnd V → ServerEnd V
  come_end part e = record { session = e.session; reset = e.reset; due = drop (length part.items) e.due }

  -- It is heard, and what is given and what is still underway are what was underway; or its cancel is acknowledged.
  pub record Hears (part : Part Token) (stage : LineStage) (e : ServerEnd V) (t : Turn Token) : Type 0 where
    pub sent : t.sent ≡ []
    pub next : Session V
    pub stands : Stands server next t.line (come_end part e)
    pub follows : Follows server count s (given_at stage e.due) (settles_at server e stage t.line) (given_at stage part.items) next (given_at t.line.stage (come_end part e).due)

  split_due : (items others due : List (Item Token)) → items ++ others ≡ due → but_news due ≡ but_news items ++ but_news (drop (length items) due)
  split_due items others due is =
      let P : List (Item Token) → Type 0 = λ (x : List (Item Token)). but_news x ≡ but_news items ++ but_news (drop (length items) x) in
      let seam : drop (length items) (items ++ others) ≡ others = drop-append_seam items others in
      let one : P (items ++ others) = filter-append (λ (item : Item Token). not (is_news item.sign)) items others ∙ ap (λ (x : List (Item Token)). but_news items ++ but_news x) (sym seam) in
      subst P is one

  whole_due : (close : Close) (items others due : List (Item Token)) → items ++ others ≡ due → is_end close ≡ true → EndsBehind close others → but_news due ≡ but_news items ++ []
  whole_due parts.Goes items others due is ends h = absurd (let u : ⊥ = cc in u)
  whole_due parts.Ends items others due is ends h =
      let all : items ≡ due = sym (append_none items) ∙ ap (λ (x : List (Item Token)). items ++ x) (sym h) ∙ is in
      ap but_news (sym all) ∙ sym (append_none (but_news items))
  whole_due parts.Cut items others due is ends h = absurd h
  whole_due (parts.Fails refusal) items others due is ends h = absurd h

  unowed_mark : (mark : Option Reset) (next heard : Heard) → next.mark ≡ mark → unless_owed mark next ≡ Ok heard → heard.mark ≡ None
  unowed_mark None next heard e f =
      let same : next ≡ heard = cc in
      ap (λ (x : Heard). x.mark) (sym same) ∙ e
  unowed_mark (Some reset) next heard e f = absurd (let u : ⊥ = cc in u)

  unowed_close : (may : Bool) (next heard : Heard) → close_by false may next ≡ Ok heard → heard.mark ≡ None
  unowed_close false next heard f = absurd (let u : ⊥ = cc in u)
  unowed_close true next heard f = unowed_mark next.mark next heard refl f

  unowed_part : (close : Close) (next heard : Heard) → is_end close ≡ true → close_part false close next ≡ Ok heard → heard.mark ≡ None
  unowed_part parts.Goes next heard e f = absurd (let u : ⊥ = cc in u)
  unowed_part parts.Ends next heard e f = unowed_close (may_end Any false next.done) next heard f
  unowed_part parts.Cut next heard e f = absurd (let u : ⊥ = cc in u)
  unowed_part (parts.Fails refusal) next heard e f = absurd (let u : ⊥ = cc in u)

  unowed_by : (r : Result Heard ClientFault) (close : Close) (heard : Heard) → is_end close ≡ true → heard_by r (λ (next : Heard). close_part false close next) ≡ Ok heard → heard.mark ≡ None
  unowed_by (Ok next) close heard e f = unowed_part close next heard e f
  unowed_by (Err fault) close heard e f = absurd (let u : ⊥ = cc in u)

  -- an answer that came whole leaves no reset owed
  unowed : (h heard : Heard) (part : Part Token) → is_end part.close ≡ true → hear_part false h part ≡ Ok heard → heard.mark ≡ None
  unowed h heard part e f = unowed_by (hear_items false h part.items) part.close heard e f

  reads_heard : (l : Line) (part : Part Token) (e : ServerEnd V) (ends : Bool) (until : Heard) (r : Result Heard ListenFault) → is_end part.close ≡ ends → hear_part false l.heard part ≡ r
      → e.session ≡ s → IsNext part e.due → (hearing_of (reads l part ends until r).answer ≡ pool.Wrong → ⊥) → Hears part line.Reading e (reads l part ends until r)
  reads_heard l part e ends until (Err fault) is heard h said right = absurd (right refl)
  reads_heard l part e false until (Ok heard) is f h said right =
      record { sent = refl; next = s; stands = h; follows = (refl, split_due part.items said.0 e.due said.1) }
  reads_heard l part e true until (Ok heard) is f h said right = record {
    sent = refl;
    next = s;
    stands = ap (λ (mark : Option Reset). reset_if server mark e.session) (unowed l.heard heard part is f) ∙ h;
    follows = (refl, whole_due part.close part.items said.0 e.due said.1 is said.2);
  }

  skips_end_heard : (l : Line) (part : Part Token) (e : ServerEnd V) (heard : Heard) (done : FinalDone) → Hears part line.Cancelling e (skips_to_end {T = Token} l heard done)
  skips_end_heard l part e heard Awaited = record { sent = refl; next = s; stands = tt; follows = (refl, refl) }
  skips_end_heard l part e heard Answered = record { sent = refl; next = s; stands = tt; follows = (refl, refl) }
  skips_end_heard l part e heard Acknowledged =
      record { sent = refl; next = reset_if server heard.mark e.session; stands = refl; follows = (refl, (refl, refl, refl)) }

  skips_heard : (l : Line) (part : Part Token) (e : ServerEnd V) (ends : Bool) (until : Heard) (r : Result Heard ListenFault) → (hearing_of (skips {T = Token} l ends until r).answer ≡ pool.Wrong → ⊥)
      → Hears part line.Cancelling e (skips {T = Token} l ends until r)
  skips_heard l part e ends until (Err fault) right = absurd (right refl)
  skips_heard l part e false until (Ok heard) right = record { sent = refl; next = s; stands = tt; follows = (refl, refl) }
  skips_heard l part e true until (Ok heard) right = skips_end_heard l part e heard heard.done

  pub comes_heard : (l : Line) (part : Part Token) (e : ServerEnd V) (stage : LineStage) → StandsAt server s stage l.heard.mark e → IsNextAt stage part e.due
      → (hearing_of (comes l part stage).answer ≡ pool.Wrong → ⊥) → Hears part stage e (comes l part stage)
  comes_heard l part e line.Idle h said right = absurd (right refl)
  comes_heard l part e (line.Sending begun) h said right = absurd (right refl)
  comes_heard l part e line.Reading h said right =
      reads_heard l part e (is_end part.close) (heard_until false l.heard part.items) (hear_part false l.heard part) refl refl h said right
  comes_heard l part e line.Cancelling h said right =
      skips_heard l part e (is_end part.close) (heard_until true l.heard part.items) (hear_part true l.heard part) right
  comes_heard l part e (line.Broken fault) h said right = absurd h
