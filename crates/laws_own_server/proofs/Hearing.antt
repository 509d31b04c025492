-- An entry arrives at the client.
use Rattle.std.proofs.Common.{◌≡◌, ◌∙◌, ℕ, Bool, true, false, List, [], ◌∷◌, ◌++◌, refl, sym, ap, subst}
use Rattle.std.proofs.lemmas.List.{append-nil}
use Rattle.tds_token.specs.declared.token.Token.{Token}
use Rattle.tds_session.specs.declared.attention.OnAttention.{OnAttention}
use Rattle.tds_session.specs.Answer as answer
use Rattle.tds_session.specs.Answer.{Answers}
use Rattle.tds_session.specs.Attention.{acknowledging}
use Rattle.tds_token.specs.declared.env_change.EnvChange.{EnvChange}
use Rattle.tds_service.specs.Parts.{Item, Close}
use Rattle.tds_service.specs.Line as line
use Rattle.tds_world.specs.Arrivals.{client_acts}
use Rattle.tds_world.specs.Connection.{Connection}
use Rattle.tds_world.specs.Entries.{Up, Down, Step, Acknowledgement}
use Rattle.tds_world.specs.Lane.{passed}
use Rattle.laws_conforming_server.specs.Lawful as lawful
use Rattle.laws_conforming_server.specs.Lawful.{AnyServer}
use Rattle.laws_conforming_server.specs.Link as links
use Rattle.laws_conforming_server.specs.Link.{HasSome, IsNext, Link, Move, without}
use Rattle.laws_own_server.specs.Bench.{Kept, Log}
use Rattle.laws_own_server.specs.Runs.{Thing, A, MessageEnd, close_if, items_of, first_place, packets_of, then_close, then_items, things_of, things_said}
use Rattle.laws_own_server.proofs.Standing.{AreUps, Holds, Leads, leads_on, link_of, place_of, things_both}

-- ---- What comes is the first of what is on its way

heads : {X : Type 0} (x y : X) (xs ys : List X) → x ∷ xs ≡ y ∷ ys → (x ≡ y) × (xs ≡ ys)
heads x y xs ys e = (cc, cc)

same_item : (i j : Item Token) → A i ≡ A j → i ≡ j
same_item i j e = cc

pub record Next (items : List (Item Token)) (close : Close) (down : List (lawful.ServerStep Kept Token)) (rest : List (Thing Token)) : Type 0 where
  pub next : IsNext items close down
  pub left : things_said (without items close down) ≡ rest

next_more : (item said : Item Token) (items : List (Item Token)) (close : Close) (after : lawful.Session Kept) (down : List (lawful.ServerStep Kept Token)) (rest : List (Thing Token)) → said ≡ item
    → Next items close down rest → Next (item ∷ items) close (lawful.Says said after ∷ down) rest
next_more item said items close after down rest e n = record { next = (sym e, n.next); left = n.left }

comes_next : (items : List (Item Token)) (last : Bool) (down : List (lawful.ServerStep Kept Token)) (rest : List (Thing Token)) → things_said down ≡ then_items items (then_close (close_if last) rest)
    → Next items (close_if last) down rest
comes_next [] false down rest e = record { next = tt; left = e }
comes_next [] true [] rest e = let b : ⊥ = cc in absurd b
comes_next [] true (lawful.Says said after ∷ down) rest e = let b : ⊥ = cc in absurd b
comes_next [] true (lawful.Breaks ∷ down) rest e = let b : ⊥ = cc in absurd b
comes_next [] true (lawful.Ends ∷ down) rest e = record { next = tt; left = (heads MessageEnd MessageEnd (things_said down) rest e).1 }
comes_next (item ∷ items) last [] rest e = let b : ⊥ = cc in absurd b
comes_next (item ∷ items) last (lawful.Ends ∷ down) rest e = let b : ⊥ = cc in absurd b
comes_next (item ∷ items) last (lawful.Breaks ∷ down) rest e = let b : ⊥ = cc in absurd b
comes_next (item ∷ items) last (lawful.Says said after ∷ down) rest e =
    let h = heads (A said) (A item) (things_said down) (then_items items (then_close (close_if last) rest)) e in
    next_more item said items (close_if last) after down rest (same_item said item h.0) (comes_next items last down rest h.1)

-- something comes
abbrev pub IsSome : List (Item Token) → Bool → Type 0
IsSome [] false = ⊥
IsSome [] true = Unit {0}
IsSome (item ∷ items) last = Unit {0}

not_empty : (x : Thing Token) (xs : List (Thing Token)) (down due : List (lawful.ServerStep Kept Token)) → things_said down ≡ x ∷ xs → HasSome (down ++ due)
not_empty x xs [] due e = let b : ⊥ = cc in absurd b
not_empty x xs (step ∷ down) due e = tt

some_there : (items : List (Item Token)) (last : Bool) (down due : List (lawful.ServerStep Kept Token)) (rest : List (Thing Token)) → IsSome items last
    → things_said down ≡ then_items items (then_close (close_if last) rest) → HasSome (down ++ due)
some_there [] false down due rest s e = absurd s
some_there [] true down due rest s e = not_empty MessageEnd rest down due e
some_there (item ∷ items) last down due rest s e = not_empty (A item) (then_items items (then_close (close_if last) rest)) down due e

-- ---- It comes

abbrev pub comes_it : List (Item Token) → Bool → Move Token
comes_it items last = links.Here (record { act = line.Come (record { items = items; close = close_if last }); answer = line.More; sent = []; told = line.Nobody })

abbrev pub hearing : Connection → Down → Connection
hearing c e = client_acts (record c { to_client = passed e c.to_client }) e

-- the link behind it
abbrev pub come_link : Link Kept Token → List (Item Token) → Bool → Link Kept Token
come_link link items last = record { up = link.up ++ []; server = link.server; down = without items (close_if last) link.down; asking = link.asking }

things_more : (c : Connection) (e : Down) (items : List (Item Token)) (last : Bool) → things_of (e ∷ []) ≡ then_items items (then_close (close_if last) [])
    → things_of (c.to_client.arrived ++ e ∷ []) ≡ things_of c.to_client.arrived ++ (then_items items (then_close (close_if last) []) ++ [])
things_more c e items last i =
    things_both c.to_client.arrived (e ∷ []) ∙ ap (λ (zs : List (Thing Token)). things_of c.to_client.arrived ++ zs) i
    ∙ ap (λ (zs : List (Thing Token)). things_of c.to_client.arrived ++ zs) (sym (append-nil (then_items items (then_close (close_if last) []))))

come_leads : (attention : OnAttention) (answers : Answers) (log : Log) (moves : List (Move Token)) (c : Connection) (e : Down) (es : List Down) (ups : List Up) (items : List (Item Token)) (last : Bool)
    → IsSome items last → things_of (e ∷ es) ≡ then_items items (then_close (close_if last) (things_of es)) → things_of (e ∷ []) ≡ then_items items (then_close (close_if last) [])
    → Leads attention answers log moves c ups (e ∷ es)
    → Leads attention answers log (moves ++ comes_it items last ∷ []) (record c { to_client = passed e c.to_client }) ups es
come_leads attention answers log moves c e es ups items last s i j l =
    let link : Link Kept Token = link_of attention answers log moves in
    let h : Holds c ups (e ∷ es) link = l.holds in
    let down : things_said link.down ≡ then_items items (then_close (close_if last) (things_of es)) = h.down ∙ i in
    let n : Next items (close_if last) link.down (things_of es) = comes_next items last link.down (things_of es) down in
    leads_on attention answers log moves c (record c { to_client = passed e c.to_client }) ups ups (e ∷ es) es l (comes_it items last ∷ [])
    ((some_there items last link.down link.server.due (things_of es) s down, n.next), tt)
    (sym (append-nil (packets_of first_place (c.to_server.arrived ++ ups))))
    (things_more c e items last j)
    (record {
      up = subst (λ (us : List links.PacketUp). AreUps (place_of c) ups us) (sym (append-nil link.up)) h.up;
      reset = h.reset;
      transaction = h.transaction;
      settings = h.settings;
      rolls = h.rolls;
      due = h.due;
      down = n.left;
    })

-- nothing comes of a step without tokens
none_leads : (attention : OnAttention) (answers : Answers) (log : Log) (moves : List (Move Token)) (c : Connection) (e : Down) (es : List Down) (ups : List Up) → things_of (e ∷ es) ≡ things_of es → things_of (e ∷ []) ≡ []
    → Leads attention answers log moves c ups (e ∷ es) → Leads attention answers log (moves ++ []) (record c { to_client = passed e c.to_client }) ups es
none_leads attention answers log moves c e es ups i j l =
    let link : Link Kept Token = link_of attention answers log moves in
    let h : Holds c ups (e ∷ es) link = l.holds in
    leads_on attention answers log moves c (record c { to_client = passed e c.to_client }) ups ups (e ∷ es) es l [] tt
    (sym (append-nil (packets_of first_place (c.to_server.arrived ++ ups))))
    (things_both c.to_client.arrived (e ∷ []) ∙ ap (λ (zs : List (Thing Token)). things_of c.to_client.arrived ++ zs) j)
    (record { up = h.up; reset = h.reset; transaction = h.transaction; settings = h.settings; rolls = h.rolls; due = h.due; down = h.down ∙ i })

step_is : (s : answer.Step) (ts : List Token) (last : Bool) → s.tokens ≡ ts → s.last ≡ last → (rest : List (Thing Token))
    → then_items (items_of s.tokens) (then_close (close_if s.last) rest) ≡ then_items (items_of ts) (then_close (close_if last) rest)
step_is s ts last e f rest =
    ap (λ (xs : List Token). then_items (items_of xs) (then_close (close_if s.last) rest)) e ∙ ap (λ (b : Bool). then_items (items_of ts) (then_close (close_if b) rest)) f

abbrev pub come_moves : List Token → Bool → List (Move Token)
come_moves [] false = []
come_moves [] true = comes_it [] true ∷ []
come_moves (t ∷ ts) last = comes_it (items_of (t ∷ ts)) last ∷ []

abbrev pub heard_moves : Down → List (Move Token)
heard_moves (Step r place s) = come_moves s.tokens s.last
heard_moves (Acknowledgement r place changes) = comes_it (items_of (acknowledging changes)) true ∷ []

step_leads : (attention : OnAttention) (answers : Answers) (log : Log) (moves : List (Move Token)) (c : Connection) (r place : ℕ) (s : answer.Step) (es : List Down) (ups : List Up) (ts : List Token) (last : Bool) → s.tokens ≡ ts → s.last ≡ last
    → Leads attention answers log moves c ups (Step r place s ∷ es) → Leads attention answers log (moves ++ come_moves ts last) (record c { to_client = passed (Step r place s) c.to_client }) ups es
step_leads attention answers log moves c r place s es ups [] false e f l =
    none_leads attention answers log moves c (Step r place s) es ups (step_is s [] false e f (things_of es)) (step_is s [] false e f []) l
step_leads attention answers log moves c r place s es ups [] true e f l =
    come_leads attention answers log moves c (Step r place s) es ups [] true tt (step_is s [] true e f (things_of es)) (step_is s [] true e f []) l
step_leads attention answers log moves c r place s es ups (t ∷ ts) last e f l =
    come_leads attention answers log moves c (Step r place s) es ups (items_of (t ∷ ts)) last tt (step_is s (t ∷ ts) last e f (things_of es)) (step_is s (t ∷ ts) last e f []) l

some_acknowledges : (changes : List EnvChange) → IsSome (items_of (acknowledging changes)) true
some_acknowledges [] = tt
some_acknowledges (change ∷ changes) = tt

heard_leads : (attention : OnAttention) (answers : Answers) (log : Log) (moves : List (Move Token)) (c : Connection) (e : Down) (es : List Down) (ups : List Up)
    → Leads attention answers log moves c ups (e ∷ es) → Leads attention answers log (moves ++ heard_moves e) (record c { to_client = passed e c.to_client }) ups es
heard_leads attention answers log moves c (Step r place s) es ups l = step_leads attention answers log moves c r place s es ups s.tokens s.last refl refl l
heard_leads attention answers log moves c (Acknowledgement r place changes) es ups l =
    come_leads attention answers log moves c (Acknowledgement r place changes) es ups (items_of (acknowledging changes)) true (some_acknowledges changes) refl refl l

-- what the client makes of it is not seen here
acts_leads : (attention : OnAttention) (answers : Answers) (log : Log) (moves : List (Move Token)) (c : Connection) (e : Down) (es : List Down) (ups : List Up)
    → Leads attention answers log moves c ups es → Leads attention answers log moves (client_acts c e) ups es
acts_leads attention answers log moves c (Step r place s) es ups l = record {
  runs = l.runs;
  sent = l.sent;
  came = l.came;
  holds = record { up = l.holds.up; reset = l.holds.reset; transaction = l.holds.transaction; settings = l.holds.settings; rolls = l.holds.rolls; due = l.holds.due; down = l.holds.down };
}
acts_leads attention answers log moves c (Acknowledgement r place changes) es ups l = record {
  runs = l.runs;
  sent = l.sent;
  came = l.came;
  holds = record { up = l.holds.up; reset = l.holds.reset; transaction = l.holds.transaction; settings = l.holds.settings; rolls = l.holds.rolls; due = l.holds.due; down = l.holds.down };
}

pub hears_leads : (attention : OnAttention) (answers : Answers) (log : Log) (moves : List (Move Token)) (c : Connection) (e : Down) (es : List Down) (ups : List Up)
    → Leads attention answers log moves c ups (e ∷ es) → Leads attention answers log (moves ++ heard_moves e) (hearing c e) ups es
hears_leads attention answers log moves c e es ups l =
    acts_leads attention answers log (moves ++ heard_moves e) (record c { to_client = passed e c.to_client }) e es ups (heard_leads attention answers log moves c e es ups l)
