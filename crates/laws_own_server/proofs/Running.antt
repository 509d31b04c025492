-- Each connection of a play is a run of a lawful server.
use Rattle.std.proofs.Common.{◌≡◌, ◌∙◌, ◌-◌, ℕ, suc, Bool, true, false, List, [], ◌∷◌, ◌++◌, length, refl, sym, ap, subst}
use Rattle.std.specs.Prelude.{Option, Some}
use Rattle.std.specs.List.{AllByRecursion}
use Rattle.std.proofs.lemmas.List.{append-nil, append_assoc}
use Rattle.tds_packet.specs.declared.status.Reset.{Reset}
use Rattle.tds_request.specs.declared.request.Request.{Request}
use Rattle.tds_session.specs.Answer as answer
use Rattle.tds_session.specs.Answer.{Answers, EndsOnce}
use Rattle.tds_session.specs.Laws.Sessions.{new_is_session}
use Rattle.tds_session.specs.Session.{IsSession}
use Rattle.tds_world.specs.declared.event.Setup.{Setup}
use Rattle.tds_world.specs.declared.report.Place.TheVariants as pool
use Rattle.tds_world.specs.Arrivals.{works_on}
use Rattle.tds_world.specs.Caller.{asks, cancels_by, drop_packet, next_packet as packet_next, sends_by}
use Rattle.tds_world.specs.Connection.{Connection, Standing, new_connection}
use Rattle.tds_world.specs.Entries.{Up, Part, End, Drop, Attention, Down, Step, Acknowledgement}
use Rattle.tds_world.specs.Lane.{with_waiting}
use Rattle.tds_world.specs.Lawful.{Lawful, TellsChanges}
use Rattle.tds_world.specs.Phase.{Phase, Settled, Asked as IsAsked, Sending, Reading, Cancelling}
use Rattle.tds_world.specs.Record.{Record, cancelled}
use Rattle.tds_world.specs.Requests.{Message, Nothing, AreRequests}
use Rattle.tds_world.specs.Sessions.{FitsStep, StayInRange}
use Rattle.tds_world.specs.Steps.{EndsIfDue}
use Rattle.tds_world.proofs.events.Moves.{Both, Invariant, KeptByMoves, KeptOver, Of, on_top}
use Rattle.tds_world.proofs.events.Worlds.{Any}
use Rattle.tds_world.proofs.flow.Flow.{SoundWith}
use Rattle.tds_world.proofs.packets.Sent.{Keeps, Saying, SentWith, sent_moves, server_expects}
use Rattle.tds_world.proofs.packets.Sessions.{stop_is_session}
use Rattle.tds_token.specs.declared.token.Token.{Token}
use Rattle.laws_conforming_server.specs.Link.{Asking, Move, Takes}
use Rattle.laws_own_server.proofs.Speaking.{speaks}
use Rattle.laws_own_server.specs.Bench.{Asked, Log}
use Rattle.laws_own_server.specs.Runs.{Place}
use Rattle.laws_own_server.proofs.Arriving.{arrived, asked_now, drop_leads, end_leads, part_leads, place_next}
use Rattle.laws_own_server.proofs.Logs.{Extends, nothing_asked}
use Rattle.laws_own_server.proofs.Asking.{Split, requests_split}
use Rattle.laws_own_server.proofs.Hearing.{heard_moves, hearing, hears_leads}
use Rattle.laws_own_server.proofs.Puts.{cancels_moves, leads_cancels, leads_sends, out_place, sends_moves, with_sent}
use Rattle.laws_own_server.proofs.Standing.{Leads, Names, place_of}
use Rattle.laws_own_server.proofs.Stopping.{attention_leads, stopping}
use Rattle.laws_own_server.proofs.Working.{now_said, work_leads}

-- ---- A run, and where it goes on

pub record Based (answers : Answers) (known : List Asked) (moves : List (Move Token)) (c : Connection) (ups : List Up) (downs : List Down) : Type 0 where
  pub number : (place_of c).number ≡ suc (length known)
  pub leads : (log : Log) → Extends known log → Leads c.on_attention answers log moves c ups downs

pub record Further (answers : Answers) (known : List Asked) (moves : List (Move Token)) (c : Connection) (ups : List Up) (downs : List Down) : Type 0 where
  pub more : List Asked
  pub later : List (Move Token)
  pub based : Based answers (more ++ known) (moves ++ later) c ups downs

abbrev pub Sent : Connection → List Up → Message → Type 0
Sent c ups out = AreRequests Nothing (c.to_server.arrived ++ ups) out

-- From one connection to the next: what is sent there was sent before, and a run goes on.
pub record Onward (answers : Answers) (c : Connection) (ups : List Up) (downs : List Down) (d : Connection) (ups_then : List Up) (downs_then : List Down) : Type 0 where
  pub back : (out : Message) → Sent d ups_then out → (before : Message) × Sent c ups before
  pub forth : (known : List Asked) (moves : List (Move Token)) → Based answers known moves c ups downs → (out : Message) → Sent d ups_then out
      → Further answers known moves d ups_then downs_then

-- no move is made
no_further : (answers : Answers) (known : List Asked) (moves : List (Move Token)) (c : Connection) (ups : List Up) (downs : List Down) → Based answers known moves c ups downs
    → Further answers known moves c ups downs
no_further answers known moves c ups downs b = record {
  more = [];
  later = [];
  based = subst (λ (ms : List (Move Token)). Based answers known ms c ups downs) (sym (append-nil moves)) b;
}

both_further : (answers : Answers) (known : List Asked) (moves : List (Move Token)) (c d : Connection) (ups ups_then : List Up) (downs downs_then : List Down)
    (f : Further answers known moves c ups downs) → Further answers (f.more ++ known) (moves ++ f.later) d ups_then downs_then → Further answers known moves d ups_then downs_then
both_further answers known moves c d ups ups_then downs downs_then f g = record {
  more = g.more ++ f.more;
  later = f.later ++ g.later;
  based = subst (λ (xs : List Asked). Based answers xs (moves ++ (f.later ++ g.later)) d ups_then downs_then) (sym (append_assoc g.more f.more known))
      (subst (λ (ms : List (Move Token)). Based answers (g.more ++ (f.more ++ known)) ms d ups_then downs_then) (append_assoc moves f.later g.later) g.based);
}

pub onward_both : (answers : Answers) (b c d : Connection) (ups ups_now ups_then : List Up) (downs downs_now downs_then : List Down)
    → Onward answers b ups downs c ups_now downs_now → Onward answers c ups_now downs_now d ups_then downs_then → Onward answers b ups downs d ups_then downs_then
onward_both answers b c d ups ups_now ups_then downs downs_now downs_then p q = record {
  back = λ out s. let m = q.back out s in p.back m.0 m.1;
  forth = λ known moves based out s.
      let m = q.back out s in
      let f : Further answers known moves c ups_now downs_now = p.forth known moves based m.0 m.1 in
      both_further answers known moves c d ups_now ups_then downs_now downs_then f (q.forth (f.more ++ known) (moves ++ f.later) f.based out s);
}

pub record Good (answers : Answers) (c : Connection) (ups : List Up) (downs : List Down) : Type 0 where
  pub known : List Asked
  pub moves : List (Move Token)
  pub based : Based answers known moves c ups downs

-- ---- Two invariants: there is a run; and a run of one moment goes on

abbrev pub Running : Answers → Invariant
Running answers c ups downs = (out : Message) → Sent c ups out → Good answers c ups downs

abbrev pub Going : Answers → Connection → Invariant
Going answers b c ups downs = Onward answers b b.to_server.waiting b.to_client.waiting c ups downs

running_on : (answers : Answers) (c d : Connection) (ups ups_then : List Up) (downs downs_then : List Down) → Onward answers c ups downs d ups_then downs_then
    → Running answers c ups downs → Running answers d ups_then downs_then
running_on answers c d ups ups_then downs downs_then p h = λ out s.
    let m = p.back out s in
    let g : Good answers c ups downs = h m.0 m.1 in
    let f : Further answers g.known g.moves d ups_then downs_then = p.forth g.known g.moves g.based out s in
    record { known = f.more ++ g.known; moves = g.moves ++ f.later; based = f.based }

pub requests_both : (m middle out : Message) (xs ys : List Up) → AreRequests m xs middle → AreRequests middle ys out → AreRequests m (xs ++ ys) out
requests_both m middle out [] ys f g = subst (λ (x : Message). AreRequests x ys out) (sym f) g
requests_both m middle out (Part r p ∷ es) ys f g = (f.0, f.1, f.2, requests_both _ middle out es ys f.3 g)
requests_both m middle out (End r a p ∷ es) ys f g = (f.0, f.1, f.2, requests_both Nothing middle out es ys f.3 g)
requests_both m middle out (Drop r p ∷ es) ys f g = (f.0, requests_both Nothing middle out es ys f.1 g)
requests_both m middle out (Attention r ∷ es) ys f g = (f.0, requests_both Nothing middle out es ys f.1 g)

-- but for the last one they are, too
without_last : (c : Connection) (e : Up) (ups : List Up) (out : Message) → AreRequests Nothing (c.to_server.arrived ++ (ups ++ e ∷ [])) out
    → Split Nothing out (c.to_server.arrived ++ ups) (e ∷ [])
without_last c e ups out a =
    requests_split Nothing out (c.to_server.arrived ++ ups) (e ∷ []) (subst (λ (es : List Up). AreRequests Nothing es out) (sym (append_assoc c.to_server.arrived ups (e ∷ []))) a)

-- ---- Moves that the server doesn't see

pub elsewhere : (answers : Answers) (c : Connection) (mark : Option Reset) (standing : Standing) → Onward answers c c.to_server.waiting c.to_client.waiting (record c { mark = mark; standing = standing }) c.to_server.waiting c.to_client.waiting
elsewhere answers c mark standing = record {
  back = λ out s. (out, s);
  forth = λ known moves b out s. no_further answers known moves (record c { mark = mark; standing = standing }) c.to_server.waiting c.to_client.waiting (record {
    number = b.number;
    leads = λ log x. let l = b.leads log x in record {
      runs = l.runs;
      sent = l.sent;
      came = l.came;
      holds = record { up = l.holds.up; reset = l.holds.reset; transaction = l.holds.transaction; settings = l.holds.settings; rolls = l.holds.rolls; due = l.holds.due; down = l.holds.down };
    };
  });
}

pub is_asked : (answers : Answers) (c : Connection) (number lease n : ℕ) (q : Request) → Onward answers c c.to_server.waiting c.to_client.waiting (asks number lease n q c) c.to_server.waiting c.to_client.waiting
is_asked answers c number lease n q = record {
  back = λ out s. (out, s);
  forth = λ known moves b out s. no_further answers known moves (asks number lease n q c) c.to_server.waiting c.to_client.waiting (record {
    number = b.number;
    leads = λ log x. let l = b.leads log x in record {
      runs = l.runs;
      sent = l.sent;
      came = l.came;
      holds = record { up = l.holds.up; reset = l.holds.reset; transaction = l.holds.transaction; settings = l.holds.settings; rolls = l.holds.rolls; due = l.holds.due; down = l.holds.down };
    };
  });
}

is_unsent : (answers : Answers) (c : Connection) (q : Record) → Onward answers c c.to_server.waiting c.to_client.waiting (record c { current = Some (cancelled q) }) c.to_server.waiting c.to_client.waiting
is_unsent answers c q = record {
  back = λ out s. (out, s);
  forth = λ known moves b out s. no_further answers known moves (record c { current = Some (cancelled q) }) c.to_server.waiting c.to_client.waiting (record {
    number = b.number;
    leads = λ log x. let l = b.leads log x in record {
      runs = l.runs;
      sent = l.sent;
      came = l.came;
      holds = record { up = l.holds.up; reset = l.holds.reset; transaction = l.holds.transaction; settings = l.holds.settings; rolls = l.holds.rolls; due = l.holds.due; down = l.holds.down };
    };
  });
}

pub server_waiting : (answers : Answers) (c : Connection) (es : List Up) (k : ℕ) → Onward answers c es c.to_client.waiting (record c { to_server = with_waiting es k c.to_server }) es c.to_client.waiting
server_waiting answers c es k = record {
  back = λ out s. (out, s);
  forth = λ known moves b out s. no_further answers known moves (record c { to_server = with_waiting es k c.to_server }) es c.to_client.waiting (record {
    number = b.number;
    leads = λ log x. let l = b.leads log x in record {
      runs = l.runs;
      sent = l.sent;
      came = l.came;
      holds = record { up = l.holds.up; reset = l.holds.reset; transaction = l.holds.transaction; settings = l.holds.settings; rolls = l.holds.rolls; due = l.holds.due; down = l.holds.down };
    };
  });
}

pub client_waiting : (answers : Answers) (c : Connection) (es : List Down) (k : ℕ) → Onward answers c c.to_server.waiting es (record c { to_client = with_waiting es k c.to_client }) c.to_server.waiting es
client_waiting answers c es k = record {
  back = λ out s. (out, s);
  forth = λ known moves b out s. no_further answers known moves (record c { to_client = with_waiting es k c.to_client }) c.to_server.waiting es (record {
    number = b.number;
    leads = λ log x. let l = b.leads log x in record {
      runs = l.runs;
      sent = l.sent;
      came = l.came;
      holds = record { up = l.holds.up; reset = l.holds.reset; transaction = l.holds.transaction; settings = l.holds.settings; rolls = l.holds.rolls; due = l.holds.due; down = l.holds.down };
    };
  });
}

-- ---- Something goes out

sent_before : (c : Connection) (e : Up) (out : Message) → AreRequests Nothing (c.to_server.arrived ++ (c.to_server.waiting ++ e ∷ [])) out → (before : Message) × Sent c c.to_server.waiting before
sent_before c e out a = let s = without_last c e c.to_server.waiting out a in (s.middle, s.front)

sends : (answers : Answers) (c : Connection) (e : Up) (o : Option Record) (last : Bool) (named : ℕ) → ((n : ℕ) → Names e (record { request = n; named = named }))
    → Onward answers c c.to_server.waiting c.to_client.waiting (with_sent c e o) (c.to_server.waiting ++ e ∷ []) c.to_client.waiting
sends answers c e o last named n = record {
  back = sent_before c e;
  forth = λ known moves b out s. record {
    more = [];
    later = sends_moves c e last named;
    based = record { number = b.number; leads = λ log x. leads_sends c.on_attention answers log moves c e o last named (n (out_place c).number) (b.leads log x) };
  };
}

cancels : (answers : Answers) (c : Connection) (e : Up) (o : Option Record) → ((asking : Asking) → Names e asking)
    → Onward answers c c.to_server.waiting c.to_client.waiting (with_sent c e o) (c.to_server.waiting ++ e ∷ []) c.to_client.waiting
cancels answers c e o n = record {
  back = sent_before c e;
  forth = λ known moves b out s. record {
    more = [];
    later = cancels_moves c e;
    based = record { number = b.number; leads = λ log x. leads_cancels c.on_attention answers log moves c e o n (b.leads log x) };
  };
}

-- between two moments, with what waits then
abbrev pub Steps : Answers → Connection → Connection → Type 0
Steps answers c d = Onward answers c c.to_server.waiting c.to_client.waiting d d.to_server.waiting d.to_client.waiting

pub sends_next : (answers : Answers) (last : Bool) (room : ℕ) (q : Record) (c : Connection) → Steps answers c (sends_by last room q c)
sends_next answers true room q c = sends answers c (End q.number q.asking (packet_next q 1 q.left)) _ true q.asking.descriptor (λ n. refl)
sends_next answers false room q c = sends answers c (Part q.number _) _ false q.asking.descriptor (λ n. tt)

pub stays_so : (answers : Answers) (c : Connection) → Steps answers c c
stays_so answers c = record {
  back = λ out s. (out, s);
  forth = λ known moves b out s. no_further answers known moves c c.to_server.waiting c.to_client.waiting b;
}

pub cancels_now : (answers : Answers) (p : Phase) (q : Record) (c : Connection) → Steps answers c (cancels_by p q c)
cancels_now answers Settled q c = stays_so answers c
cancels_now answers Cancelling q c = stays_so answers c
cancels_now answers IsAsked q c = is_unsent answers c q
cancels_now answers Reading q c = cancels answers c (Attention q.number) (Some (cancelled q)) (λ asking. tt)
cancels_now answers Sending q c =
    let e : Up = Drop q.number (drop_packet q) in
    let d : Connection = with_sent c e (Some (cancelled q)) in
    onward_both answers c d (cancels_by Sending q c) c.to_server.waiting d.to_server.waiting (d.to_server.waiting ++ Attention q.number ∷ []) c.to_client.waiting c.to_client.waiting c.to_client.waiting
    (cancels answers c e (Some (cancelled q)) (λ asking. tt)) (cancels answers d (Attention q.number) (Some (cancelled q)) (λ asking. tt))

-- ---- Something arrives

whole_list : (c : Connection) (e : Up) (es : List Up) (out : Message) → AreRequests Nothing ((c.to_server.arrived ++ e ∷ []) ++ es) out → AreRequests Nothing (c.to_server.arrived ++ e ∷ es) out
whole_list c e es out a = subst (λ (xs : List Up). AreRequests Nothing xs out) (append_assoc c.to_server.arrived (e ∷ []) es) a

-- What is said of the server's session and of what is due.
abbrev pub Fitting : Saying
Fitting s sent due taken = IsSession s × AllByRecursion FitsStep due × EndsIfDue due × TellsChanges s due

abbrev pub Known : Invariant
Known = Both SoundWith (λ c ups downs. SentWith Fitting c downs)

pub at_server : (answers : Answers) (c : Connection) (e : Up) (es : List Up) → Known c (e ∷ es) c.to_client.waiting
    → Onward answers c (e ∷ es) c.to_client.waiting (arrived answers c e) es (arrived answers c e).to_client.waiting
at_server answers c (Part r p) es f = record {
  back = λ out s. (out, whole_list c (Part r p) es out s);
  forth = λ known moves b out s. record {
    more = [];
    later = Takes ∷ [];
    based = record {
      number = ap (λ (x : Place). x.number) (place_next c (Part r p)) ∙ b.number;
      leads = λ log x. part_leads c.on_attention answers log moves c r p es c.to_client.waiting (server_expects c (Part r p) es f.0) (b.leads log x);
    };
  };
}
at_server answers c (End r a p) es f = record {
  back = λ out s. (out, whole_list c (End r a p) es out s);
  forth = λ known moves b out s. record {
    more = asked_now c a ∷ [];
    later = Takes ∷ [];
    based = record {
      number = ap (λ (x : Place). x.number) (place_next c (End r a p)) ∙ ap suc b.number;
      leads = λ log x. end_leads c.on_attention answers log moves c r a p es c.to_client.waiting out (server_expects c (End r a p) es f.0) f.1.0.next_some (ap log b.number ∙ x.0) (whole_list c (End r a p) es out s) (b.leads log x.1);
    };
  };
}
at_server answers c (Drop r p) es f = record {
  back = λ out s. (out, whole_list c (Drop r p) es out s);
  forth = λ known moves b out s. record {
    more = nothing_asked ∷ [];
    later = Takes ∷ [];
    based = record {
      number = ap (λ (x : Place). x.number) (place_next c (Drop r p)) ∙ ap suc b.number;
      leads = λ log x. drop_leads c.on_attention answers log moves c r p es c.to_client.waiting (server_expects c (Drop r p) es f.0) (b.leads log x.1);
    };
  };
}
at_server answers c (Attention r) es f = record {
  back = λ out s. (out, whole_list c (Attention r) es out s);
  forth = λ known moves b out s. record {
    more = [];
    later = stopping c;
    based = record {
      number = ap (λ (x : Place). x.number) (place_next c (Attention r)) ∙ b.number;
      leads = λ log x. attention_leads answers log moves c r es (b.leads log x);
    };
  };
}

pub at_client : (answers : Answers) (c : Connection) (e : Down) (es : List Down) → Onward answers c c.to_server.waiting (e ∷ es) (hearing c e) (hearing c e).to_server.waiting es
at_client answers c (Step r place s) es = record {
  back = λ out t. (out, t);
  forth = λ known moves b out t. record {
    more = [];
    later = heard_moves (Step r place s);
    based = record { number = b.number; leads = λ log x. hears_leads c.on_attention answers log moves c (Step r place s) es c.to_server.waiting (b.leads log x) };
  };
}
at_client answers c (Acknowledgement r place changes) es = record {
  back = λ out t. (out, t);
  forth = λ known moves b out t. record {
    more = [];
    later = heard_moves (Acknowledgement r place changes);
    based = record { number = b.number; leads = λ log x. hears_leads c.on_attention answers log moves c (Acknowledgement r place changes) es c.to_server.waiting (b.leads log x) };
  };
}

-- ---- The server works

pub works : (answers : Answers) (c : Connection) (s : answer.Step) (ss : List answer.Step) → c.due ≡ s ∷ ss → Of Known c → Steps answers c (works_on c (s ∷ ss))
works answers c s ss e f =
    let fits : AllByRecursion FitsStep (s ∷ ss) = subst (λ (xs : List answer.Step). AllByRecursion FitsStep xs) e f.1.1 in
    let once : EndsOnce (s ∷ ss) = subst (λ (xs : List answer.Step). EndsIfDue xs) e f.1.2 in
    let tells : TellsChanges c.session (s ∷ ss) = subst (λ (xs : List answer.Step). TellsChanges c.session xs) e f.1.3 in record {
      back = λ out t. (out, t);
      forth = λ known moves b out t. record {
        more = [];
        later = speaks (now_said c s);
        based = record { number = b.number; leads = λ log x. work_leads c.on_attention answers log moves c s ss e fits.0.some tells.0 once (b.leads log x) };
      };
    }

-- ---- All moves

new_running : (setup : Setup) (answers : Answers) (lease : ℕ) → Of (Running answers) (new_connection setup.on_attention (pool.Leased lease))
new_running setup answers lease = λ out a. record {
  known = [];
  moves = [];
  based = record {
    number = refl;
    leads = λ log x. record {
      runs = tt;
      sent = refl;
      came = refl;
      holds = record { up = refl; reset = refl; transaction = refl; settings = refl; rolls = refl; due = refl; down = refl };
    };
  };
}

running_kept : (setup : Setup) (answers : Answers) → KeptOver setup answers Any Known (Running answers)
running_kept setup answers = record {
  opened = new_running setup answers;
  stands = λ c m s h. running_on answers c _ _ _ _ _ (elsewhere answers c m s) h;
  asked = λ number lease n q c x i f h. running_on answers c _ _ _ _ _ (is_asked answers c number lease n q) h;
  sent = λ last q c i s b f h. running_on answers c (sends_by last (setup.packet_size - 8) q c) _ _ _ _ (sends_next answers last (setup.packet_size - 8) q c) h;
  cancelled = λ p q c i e f h. running_on answers c (cancels_by p q c) _ _ _ _ (cancels_now answers p q c) h;
  worked = λ c s ss e f h. running_on answers c (works_on c (s ∷ ss)) _ _ _ _ (works answers c s ss e f) h;
  at_server = λ c e es f h. running_on answers c (arrived answers c e) _ _ _ _ (at_server answers c e es f) h;
  at_client = λ c e es f h. running_on answers c (hearing c e) _ _ _ _ (at_client answers c e es) h;
  server_waits = λ c es k m h. running_on answers c _ _ _ _ _ (server_waiting answers c es k) h;
  client_waits = λ c es k m h. running_on answers c _ _ _ _ _ (client_waiting answers c es k) h;
}

ends_due : (ss : List answer.Step) → EndsOnce ss → EndsIfDue ss
ends_due [] e = tt
ends_due (s ∷ ss) e = e

ends_rest : (s : answer.Step) (ss : List answer.Step) → EndsOnce (s ∷ ss) → EndsIfDue ss
ends_rest s [] e = tt
ends_rest s (t ∷ ss) e = e.1

fitting_kept : (answers : Answers) → Lawful answers → StayInRange answers → Keeps answers Fitting
fitting_kept answers lawful stay = record {
  first = (new_is_session, tt, tt, tt);
  asked = λ s sent taken d m q h. (h.0, stay s d m q h.0, ends_due (answers s d m q) (lawful.ends s d m q), lawful.tells s d m q);
  stopped = λ s sent due taken r rolls t h. (stop_is_session rolls s h.0, tt, tt, tt);
  worked = λ s sent t ts taken r h. (h.1.0.after, h.1.1, ends_rest t ts h.2, h.3.1);
}

pub known_kept : (setup : Setup) (answers : Answers) → Lawful answers → StayInRange answers → KeptByMoves setup answers Known
known_kept setup answers lawful stay = sent_moves setup answers Fitting lawful (fitting_kept answers lawful stay)

pub known_runs : (setup : Setup) (answers : Answers) → Lawful answers → StayInRange answers → KeptByMoves setup answers (Both Known (Running answers))
known_runs setup answers lawful stay = on_top setup answers Any Known (Running answers) (known_kept setup answers lawful stay) (running_kept setup answers)
