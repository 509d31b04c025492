-- A packet is heard token by token.
use Rattle.std.proofs.Common.{◌≡◌, ◌∙◌, ◌+◌, ◌-◌, ◌<◌, ◌≤◌, ℕ, Bool, true, false, List, [], ◌∷◌, ◌++◌, length, take, drop, refl, sym, ap, subst, arith, append_assoc}
use Rattle.std.proofs.lemmas.List.{append-nil, take_all, drop_all, drop-drop, length-drop}
use Rattle.std.specs.Prelude.{Result, Ok, Err}
use Rattle.tds_wire.specs.declared.told.Token.{Token}
use Rattle.tds_wire.specs.Reading.{Parser, Found, Sees, Inside, Refuses, next_token}
use Rattle.tds_client.specs.declared.fault.ClientFault.{ClientFault}
use Rattle.tds_client.specs.declared.heard.Heard.{Heard}
use Rattle.tds_client.specs.declared.sign.Rules.TheVariants.{Any}
use Rattle.tds_client.specs.declared.sign.Sign.TheVariants as signs
use Rattle.tds_client.specs.declared.state.Taken.{Taken}
use Rattle.tds_client.specs.declared.state.Taken.TheVariants as takes
use Rattle.tds_client.specs.Hearing.{◌>>=◌, hear_sign}
use Rattle.tds_client.specs.Machine.{signed, signed_in}
use Rattle.tds_client.specs.Session as session
use Rattle.tds_client.specs.Session.{ClientSession}
use Rattle.tds_listen.specs.declared.fault.ListenFault.{ListenFault}
use Rattle.tds_listen.specs.Hearing.{TokensHeard, Stop, Stands, heard_by, led_by, no_tokens, tokens_by, tokens_in, tokens_within}
use Rattle.tds_listen.specs.Signs.{sign_of}
use Rattle.tds_listen.proofs.Within.{step_is}
use Rattle.tds_service.specs.Parts as parts
use Rattle.tds_service.specs.Parts.{Item, Part, Close, hear_items, close_part, until_by}
use Rattle.tds_service.specs.Line as line
use Rattle.tds_service.specs.Line.{Line, Turn, Answer, line_turn, reads, skips}
use Rattle.tds_service.specs.Packets.{awaiting, tells, items_from, close_from, part_from, packet_part, told_of_part, led_all, HeardSome}
use Rattle.tds_service.specs.Ties as ties
use Rattle.tds_service.specs.Ties.{Hears, IsTo, Stands as Stood, part_of, items_of, listed, end_at, taken_answer, stage_of}
use Rattle.tds_service.proofs.Alike.{okay}
use Rattle.tds_service.proofs.Pairing.{line as line_at}
use Rattle.tds_service.proofs.Joining.{Alike, before_answer, joins, hear_behind, told_both}

-- ---- Whether anything is awaited

pub awaits_in : (s next : ClientSession) (k : session.Stage) → signed_in Any k s signs.Nothing ≡ Ok next → (c : Bool) × (stage_of k ≡ awaiting c)
awaits_in s next session.Idle h = absurd (let u : ⊥ = cc in u)
awaits_in s next (session.Sending kind left packets) h = absurd (let u : ⊥ = cc in u)
awaits_in s next session.Reading h = (false, refl)
awaits_in s next session.Cancelling h = (true, refl)
awaits_in s next (session.Broken fault) h = absurd (let u : ⊥ = cc in u)

pub awaits : (s next : ClientSession) → signed Any s signs.Nothing ≡ Ok next → (c : Bool) × (stage_of s.stage ≡ awaiting c)
awaits s next h = awaits_in s next s.stage h

-- ---- Lists

items_both : (xs ys : List Token) → items_from (xs ++ ys) ≡ items_from xs ++ items_from ys
items_both [] ys = refl
items_both (x ∷ xs) ys = ap (λ (is : List (Item Token)). (record { sign = sign_of x; token = x }) ∷ is) (items_both xs ys)

led_items : (ts : List Token) (t : TokensHeard) → items_from (led_all ts t).tokens ≡ items_from ts ++ items_from t.tokens
led_items [] t = refl
led_items (x ∷ ts) t = ap (λ (is : List (Item Token)). (record { sign = sign_of x; token = x }) ∷ is) (led_items ts t)

pub led_stop : (ts : List Token) (t : TokensHeard) → (led_all ts t).stop ≡ t.stop
led_stop [] t = refl
led_stop (x ∷ ts) t = led_stop ts t

led_more : (ts : List Token) (x : Token) (t : TokensHeard) → led_all ts (led_by x t) ≡ led_all (ts ++ x ∷ []) t
led_more [] x t = refl
led_more (y ∷ ts) x t = ap (led_by y) (led_more ts x t)

part_led : (ends : Bool) (ts : List Token) (t : TokensHeard)
    → part_from ends (led_all ts t) ≡ record { items = items_from ts ++ (part_from ends t).items; close = (part_from ends t).close }
part_led ends ts t =
    ap (λ (stop : Stop). let p : Part Token = record { items = items_from (led_all ts t).tokens; close = close_from ends stop } in p) (led_stop ts t)
    ∙ ap (λ (is : List (Item Token)). let p : Part Token = record { items = is; close = close_from ends t.stop } in p) (led_items ts t)

none_left : (r : Parser) → tokens_in r [] ≡ no_tokens (Stands r)
unfolding tokens_within
none_left r = refl

-- ---- From a turn to what was heard

hears_as : (n : ℕ) (before toks : List Token) (part more : Part Token) (l k new : Line) (answer : Answer) → l.asked ≡ n
    → Alike n before (line_turn l (line.Come more)) (line_turn k (line.Come part)) → Hears part k new answer toks
    → Hears more l new answer (before_answer answer before toks)
hears_as n before toks part more l k new answer is a h = record {
  line_is = h.line_is ∙ sym a.line_is;
  answer_is = a.answer_is ∙ h.answer_is;
  told_is = a.told_is ∙ (ap (λ (x : Answer). before_answer x before (ties.tokens_in (line_turn k (line.Come part)).told)) h.answer_is ∙ ap (before_answer answer before) h.told_is);
  owner = subst (λ (m : ℕ). IsTo m (line_turn l (line.Come more)).told) (sym is) a.owner;
  quiet = a.sent_is ∙ h.quiet;
}

-- What comes behind tokens that were heard, as one part with them.
pub behind : (c : Bool) (l k : Line) (r reading : Parser) (bytes left : List ℕ) (before after toks : List Token) (ends : Bool) (new : Line) (answer : Answer)
    → (some : HeardSome c l r bytes k reading left before after)
    → Hears (part_from ends (tokens_in reading left)) k new answer toks
    → Hears (packet_part r bytes ends) l new answer (before_answer answer (tells c (items_from some.tokens)) toks)
behind c l k r reading bytes left before after toks ends new answer some h =
    let n = l.asked in
    let t = tokens_in reading left in
    let ys = (part_from ends t).items in
    let close = (part_from ends t).close in
    let part : Part Token = record { items = ys; close = close } in
    let more : Part Token = record { items = items_from some.tokens ++ ys; close = close } in
    let alike = joins c n l.heard k.heard (items_from some.tokens) ys close some.heard in
    let at_l = subst (λ (x : Line). Alike n (tells c (items_from some.tokens)) (line_turn x (line.Come more)) (line_turn (line_at n (awaiting c) k.heard) (line.Come part))) (sym some.old_is) alike in
    let at_k = subst (λ (x : Line). Alike n (tells c (items_from some.tokens)) (line_turn l (line.Come more)) (line_turn x (line.Come part))) (sym some.new_is) at_l in
    subst (λ (p : Part Token). Hears p l new answer (before_answer answer (tells c (items_from some.tokens)) toks))
    (sym (ap (part_from ends) some.are ∙ part_led ends some.tokens t))
    (hears_as n (tells c (items_from some.tokens)) toks part more l k new answer refl at_k h)

-- ---- One token more

-- What the parser finds was heard.
record Goes (c : Bool) (n : ℕ) (h : Heard) (items : List (Item Token)) (new : Line) (toks : List Token) : Type 0 where
  next : Heard
  heard : hear_items c h items ≡ Ok next
  new_is : new ≡ line_at n (awaiting c) next
  told_is : toks ≡ tells c items

goes_reads : (n : ℕ) (h until : Heard) (item : Item Token) (new : Line) (toks : List Token) (x : Result Heard ClientFault) → hear_items false h (item ∷ []) ≡ x
    → let t = reads (line_at n line.Reading h) (record { items = item ∷ []; close = parts.Goes }) false until (heard_by x (λ next. close_part false parts.Goes next))
    in new ≡ t.line → t.answer ≡ line.More → ties.tokens_in t.told ≡ toks → Goes false n h (item ∷ []) new toks
goes_reads n h until item new toks (Ok next) is l a t = record { next = next; heard = is; new_is = l; told_is = sym t }
goes_reads n h until item new toks (Err fault) is l a t = absurd (let u : ⊥ = cc in u)

goes_skips : (n : ℕ) (h until : Heard) (item : Item Token) (new : Line) (toks : List Token) (x : Result Heard ClientFault) → hear_items true h (item ∷ []) ≡ x
    → let t = skips {T = Token} (line_at n line.Cancelling h) false until (heard_by x (λ next. close_part true parts.Goes next))
    in new ≡ t.line → t.answer ≡ line.More → ties.tokens_in t.told ≡ toks → Goes true n h (item ∷ []) new toks
goes_skips n h until item new toks (Ok next) is l a t = record { next = next; heard = is; new_is = l; told_is = sym t }
goes_skips n h until item new toks (Err fault) is l a t = absurd (let u : ⊥ = cc in u)

goes_in : (c : Bool) (n : ℕ) (h : Heard) (f : Found) (new : Line) (toks : List Token) → Hears (part_of f) (line_at n (awaiting c) h) new line.More toks
    → Goes c n h (part_of f).items new toks
goes_in false n h (Sees token r rest) new toks k =
    let item : Item Token = record { sign = sign_of token; token = token } in
    goes_reads n h _ item new toks (hear_items false h (item ∷ [])) refl k.line_is k.answer_is k.told_is
goes_in true n h (Sees token r rest) new toks k =
    let item : Item Token = record { sign = sign_of token; token = token } in
    goes_skips n h _ item new toks (hear_items true h (item ∷ [])) refl k.line_is k.answer_is k.told_is
goes_in false n h (Inside r) new toks k = record { next = h; heard = refl; new_is = k.line_is; told_is = sym k.told_is }
goes_in true n h (Inside r) new toks k = record { next = h; heard = refl; new_is = k.line_is; told_is = sym k.told_is }
goes_in false n h (Refuses refusal) new toks k = absurd (let e = k.answer_is in let u : ⊥ = cc in u)
goes_in true n h (Refuses refusal) new toks k = absurd (let e = k.answer_is in let u : ⊥ = cc in u)

tells_both : (c : Bool) (xs ys : List (Item Token)) → tells c (xs ++ ys) ≡ tells c xs ++ tells c ys
tells_both false xs ys = told_both xs ys
tells_both true xs ys = refl

-- the tokens of what is found, and what is left
abbrev found_tokens : Found → List Token
found_tokens (Sees token r rest) = token ∷ []
found_tokens (Inside r) = []
found_tokens (Refuses refusal) = []

found_items : (f : Found) → (part_of f).items ≡ items_from (found_tokens f)
found_items (Sees token r rest) = refl
found_items (Inside r) = refl
found_items (Refuses refusal) = refl

found_led : (f : Found) (reading : Parser) (left : List ℕ) (ts : List Token) → Stood f reading left
    → led_all ts (tokens_by f (λ next rest. tokens_in next rest)) ≡ led_all (ts ++ found_tokens f) (tokens_in reading left)
found_led (Sees token r rest) reading left ts s =
    led_more ts token (tokens_in r rest)
    ∙ (ap (λ (x : Parser). led_all (ts ++ token ∷ []) (tokens_in x rest)) (sym s.0) ∙ ap (λ (b : List ℕ). led_all (ts ++ token ∷ []) (tokens_in reading b)) (sym s.1))
found_led (Inside r) reading left ts s =
    ap (led_all ts) (sym (ap (tokens_in reading) s.1 ∙ (none_left reading ∙ ap (λ (x : Parser). no_tokens (Stands x)) s.0)))
    ∙ ap (λ (xs : List Token). led_all xs (tokens_in reading left)) (sym (append-nil ts))
found_led (Refuses refusal) reading left ts s = absurd s

-- One token more was heard.
pub one_more : (c : Bool) (l k new : Line) (r reading behind : Parser) (bytes left rest : List ℕ) (before after toks : List Token)
    → 0 < length left → HeardSome c l r bytes k reading left before after
    → Hears (part_of (next_token reading left)) k new line.More toks → Stood (next_token reading left) behind rest
    → HeardSome c l r bytes new behind rest before (after ++ toks)
one_more c l k new r reading behind bytes [] rest before after toks lt some h s = absurd (omega (arith, lt))
one_more c l k new r reading behind bytes (x ∷ xs) rest before after toks lt some h s =
    let f = next_token reading (x ∷ xs) in
    let n = l.asked in
    let at_k = subst (λ (y : Line). Hears (part_of f) y new line.More toks) some.new_is h in
    let g = goes_in c n k.heard f new toks at_k in
    let new_heard : new.heard ≡ g.next = ap (λ (y : Line). y.heard) g.new_is in
    record {
      tokens = some.tokens ++ found_tokens f;
      are = some.are ∙ (ap (led_all some.tokens) (step_is reading x xs) ∙ found_led f behind rest some.tokens s);
      heard =
          ap (hear_items c l.heard) (items_both some.tokens (found_tokens f) ∙ ap (λ (is : List (Item Token)). items_from some.tokens ++ is) (sym (found_items f)))
          ∙ (hear_behind c l.heard k.heard (items_from some.tokens) (part_of f).items some.heard ∙ (g.heard ∙ ap (λ (y : Heard). okay ClientFault y) (sym new_heard)));
      new_is = g.new_is ∙ ap (λ (y : Heard). line_at n (awaiting c) y) (sym new_heard);
      old_is = some.old_is;
      told_is =
          ap (λ (ts : List Token). ts ++ toks) some.told_is
          ∙ (append_assoc before (tells c (items_from some.tokens)) toks
          ∙ ap (λ (ts : List Token). before ++ ts)
          (ap (λ (ts : List Token). tells c (items_from some.tokens) ++ ts) (g.told_is ∙ ap (tells c) (found_items f))
          ∙ (sym (tells_both c (items_from some.tokens) (items_from (found_tokens f))) ∙ ap (tells c) (sym (items_both some.tokens (found_tokens f))))));
    }

-- At first none was.
pub none_yet : (c : Bool) (l : Line) (r : Parser) (bytes : List ℕ) (before : List Token) → l.stage ≡ awaiting c → HeardSome c l r bytes l r bytes before before
none_yet c l r bytes before e = record {
  tokens = [];
  are = refl;
  heard = refl;
  new_is = ap (λ (s : line.LineStage). let x : Line = record { asked = l.asked; stage = s; heard = l.heard } in x) e;
  old_is = ap (λ (s : line.LineStage). let x : Line = record { asked = l.asked; stage = s; heard = l.heard } in x) e;
  told_is = sym (append-nil before) ∙ ap (λ (ts : List Token). before ++ ts) (none_told c);
}
  where
    none_told : (c : Bool) → [] ≡ tells c []
    none_told true = refl
    none_told false = refl

-- ---- A fault

fault_reads : (n : ℕ) (h : Heard) (item : Item Token) (zs : List (Item Token)) (close : Close) (new : Line) (fault : ListenFault) (x : Result Heard ClientFault)
    → let t = reads (line_at n line.Reading h) (record { items = item ∷ []; close = parts.Goes }) false (until_by h x (λ n. n)) (heard_by (x >>= λ n. Ok n) (λ n. close_part false parts.Goes n)) in
    let u = reads (line_at n line.Reading h) (record { items = item ∷ zs; close = close }) (parts.is_end close) (until_by h x (λ n. parts.heard_until false n zs)) (heard_by (x >>= λ n. hear_items false n zs) (λ n. close_part false close n))
    in new ≡ t.line → t.answer ≡ line.Fault fault → (new ≡ u.line) × (u.answer ≡ line.Fault fault) × (ties.tokens_in u.told ≡ []) × IsTo n u.told × (u.sent ≡ [])
fault_reads n h item zs close new fault (Err f) l a = (l, a, refl, tt, refl)
fault_reads n h item zs close new fault (Ok next) l a = absurd (let u : ⊥ = cc in u)

fault_skips : (n : ℕ) (h : Heard) (zs : List (Item Token)) (close : Close) (new : Line) (fault : ListenFault) (x : Result Heard ClientFault)
    → let t = skips {T = Token} (line_at n line.Cancelling h) false (until_by h x (λ n. n)) (heard_by (x >>= λ n. Ok n) (λ n. close_part true parts.Goes n)) in
    let u = skips {T = Token} (line_at n line.Cancelling h) (parts.is_end close) (until_by h x (λ n. parts.heard_until true n zs)) (heard_by (x >>= λ n. hear_items true n zs) (λ n. close_part true close n))
    in new ≡ t.line → t.answer ≡ line.Fault fault → (new ≡ u.line) × (u.answer ≡ line.Fault fault) × (ties.tokens_in u.told ≡ []) × IsTo n u.told × (u.sent ≡ [])
fault_skips n h zs close new fault (Err f) l a = (l, a, refl, tt, refl)
fault_skips n h zs close new fault (Ok next) l a = absurd (let u : ⊥ = cc in u)

fault_in : (c : Bool) (n : ℕ) (h : Heard) (f : Found) (new : Line) (fault : ListenFault) (ends : Bool) → Hears (part_of f) (line_at n (awaiting c) h) new (line.Fault fault) []
    → Hears (part_from ends (tokens_by f (λ next rest. tokens_in next rest))) (line_at n (awaiting c) h) new (line.Fault fault) []
fault_in false n h (Sees token r rest) new fault ends k =
    let item : Item Token = record { sign = sign_of token; token = token } in
    let u = fault_reads n h item (items_from (tokens_in r rest).tokens) (close_from ends (tokens_in r rest).stop) new fault (hear_sign Any false h (sign_of token)) k.line_is k.answer_is in
    record { line_is = u.0; answer_is = u.1; told_is = u.2; owner = u.3; quiet = u.4 }
fault_in true n h (Sees token r rest) new fault ends k =
    let u = fault_skips n h (items_from (tokens_in r rest).tokens) (close_from ends (tokens_in r rest).stop) new fault (hear_sign Any true h (sign_of token)) k.line_is k.answer_is in
    record { line_is = u.0; answer_is = u.1; told_is = u.2; owner = u.3; quiet = u.4 }
fault_in false n h (Inside r) new fault ends k = absurd (let e = k.answer_is in let u : ⊥ = cc in u)
fault_in true n h (Inside r) new fault ends k = absurd (let e = k.answer_is in let u : ⊥ = cc in u)
fault_in c n h (Refuses refusal) new fault true k = k
fault_in c n h (Refuses refusal) new fault false k = k

-- A fault behind tokens that were heard is the packet's.
pub fault_behind : (c : Bool) (l k new : Line) (r reading : Parser) (bytes left : List ℕ) (before after : List Token) (fault : ListenFault) (ends : Bool)
    → 0 < length left → HeardSome c l r bytes k reading left before after
    → Hears (part_of (next_token reading left)) k new (line.Fault fault) []
    → Hears (packet_part r bytes ends) l new (line.Fault fault) []
fault_behind c l k new r reading bytes [] before after fault ends lt some h = absurd (omega (arith, lt))
fault_behind c l k new r reading bytes (x ∷ xs) before after fault ends lt some h =
    let f = next_token reading (x ∷ xs) in
    let at_k = subst (λ (y : Line). Hears (part_of f) y new (line.Fault fault) []) some.new_is h in
    let g = fault_in c l.asked k.heard f new fault ends at_k in
    let whole = subst (λ (t : TokensHeard). Hears (part_from ends t) k new (line.Fault fault) []) (sym (step_is reading x xs))
    (subst (λ (y : Line). Hears (part_from ends (tokens_by f (λ next rest. tokens_in next rest))) y new (line.Fault fault) []) (sym some.new_is) g) in
    behind c l k r reading bytes (x ∷ xs) before after [] ends new (line.Fault fault) some whole

-- ---- The end

taken_before : (n : ℕ) (answer : Taken) (before : List Token) → before_answer (taken_answer n answer) before [] ≡ before ++ []
taken_before n takes.More before = refl
taken_before n takes.Finished before = refl
taken_before n takes.Acknowledged before = refl
taken_before n takes.NoMemory before = refl

pub record Whole (l : Line) (r : Parser) (bytes : List ℕ) (ends : Bool) (new : Line) (answer : Answer) (before after : List Token) : Type 0 where
  pub hears : Hears (packet_part r bytes ends) l new answer (told_of_part l (packet_part r bytes ends))
  pub told : after ≡ before ++ told_of_part l (packet_part r bytes ends)

-- What was heard to the end of the bytes, and then of the message, is the packet.
pub whole : (c : Bool) (l k new : Line) (r reading : Parser) (bytes : List ℕ) (ends : Bool) (before after : List Token) (n : ℕ) (answer : Taken)
    → HeardSome c l r bytes k reading [] before after
    → Hears (part_from ends (no_tokens (Stands reading))) k new (taken_answer n answer) []
    → Whole l r bytes ends new (taken_answer n answer) before after
whole c l k new r reading bytes ends before after n answer some h =
    let at = subst (λ (t : TokensHeard). Hears (part_from ends t) k new (taken_answer n answer) []) (sym (none_left reading)) h in
    let b = behind c l k r reading bytes [] before after [] ends new (taken_answer n answer) some at in
    record {
      hears = record { line_is = b.line_is; answer_is = b.answer_is; told_is = refl; owner = b.owner; quiet = b.quiet };
      told = some.told_is ∙ ap (λ (ts : List Token). before ++ ts) (sym (b.told_is ∙ (taken_before n answer (tells c (items_from some.tokens)) ∙ append-nil (tells c (items_from some.tokens)))));
    }

-- nothing stands behind the data of a packet that doesn't end its message
pub goes_on : (c : Bool) (k : Line) (reading : Parser) → k ≡ record { asked = k.asked; stage = awaiting c; heard = k.heard }
    → Hears (part_from false (no_tokens (Stands reading))) k k line.More []
goes_on c k reading e =
    subst (λ (y : Line). Hears (part_from false (no_tokens (Stands reading))) y y line.More []) (sym e) (at c)
  where
    at : (c : Bool) → let y : Line = record { asked = k.asked; stage = awaiting c; heard = k.heard } in Hears (part_from false (no_tokens (Stands reading))) y y line.More []
    at false = record { line_is = refl; answer_is = refl; told_is = refl; owner = refl; quiet = refl }
    at true = record { line_is = refl; answer_is = refl; told_is = refl; owner = tt; quiet = refl }

pub stop_is : (c : Bool) (l k : Line) (r reading : Parser) (bytes : List ℕ) (before after : List Token) → HeardSome c l r bytes k reading [] before after
    → (tokens_in r bytes).stop ≡ Stands reading
stop_is c l k r reading bytes before after some =
    ap (λ (t : TokensHeard). t.stop) some.are ∙ (led_stop some.tokens (tokens_in reading []) ∙ ap (λ (t : TokensHeard). t.stop) (none_left reading))

-- ---- Room for what is told

no_tokens_told : (n : ℕ) (h : Heard) (f : Found) (new : Line) (toks : List Token) → Hears (part_of f) (line_at n line.Cancelling h) new line.More toks → length toks ≡ 0
no_tokens_told n h f new toks k = ap length (goes_in true n h f new toks k).told_is

pub fits : (c : Bool) (l k new : Line) (r reading : Parser) (bytes left : List ℕ) (before after : List Token) (f : Found) (toks : List Token) (len cap rest : ℕ)
    → HeardSome c l r bytes k reading left before after → length toks ≤ 1 → Hears (part_of f) k new line.More toks → len ≤ cap → 0 < rest
    → (l.stage ≡ line.Reading → len + rest ≤ cap) → len + length toks ≤ cap
fits false l k new r reading bytes left before after f toks len cap rest some short h under lt room =
    let fit = room (ap (λ (x : Line). x.stage) some.old_is) in
    omega (arith, fit, short, lt)
fits true l k new r reading bytes left before after f toks len cap rest some short h under lt room =
    let none = no_tokens_told l.asked k.heard f new toks (subst (λ (x : Line). Hears (part_of f) x new line.More toks) some.new_is h) in
    omega (arith, none, under)

pub front_is : (before after xs : List Token) → after ≡ before ++ xs → take (length before) after ≡ before
front_is before after xs e = ap (take (length before)) e ∙ taken before xs
  where
    taken : (before xs : List Token) → take (length before) (before ++ xs) ≡ before
    taken [] xs = refl
    taken (b ∷ before) xs = ap (λ ts. b ∷ ts) (taken before xs)

-- ---- With the bytes of a packet behind the first `done`

module _ (c : Bool) (l k new : Line) (r reading : Parser) (bytes : List ℕ) (before after : List Token) (done : ℕ) (more : done < length bytes)
    (some : HeardSome c l r bytes k reading (drop done bytes) before after) where
  abbrev piece : List ℕ
  piece = take (length bytes - done) (drop done bytes)

  piece_is : piece ≡ drop done bytes
  piece_is = take_all (length bytes - done) (drop done bytes) (let e : length (drop done bytes) ≡ length bytes - done = length-drop done bytes in omega (arith, e))

  has_some : 0 < length (drop done bytes)
  has_some = let e : length (drop done bytes) ≡ length bytes - done = length-drop done bytes in omega (arith, e, more)

  pub one_more_at : (behind : Parser) (count : ℕ) (toks : List Token) → Hears (part_of (next_token reading piece)) k new line.More toks
      → Stood (next_token reading piece) behind (drop count piece) → HeardSome c l r bytes new behind (drop (done + count) bytes) before (after ++ toks)
  one_more_at behind count toks h s =
      let at = subst (λ (b : List ℕ). Hears (part_of (next_token reading b)) k new line.More toks) piece_is h in
      let stood = subst (λ (b : List ℕ). Stood (next_token reading b) behind (drop count b)) piece_is s in
      subst (λ (b : List ℕ). HeardSome c l r bytes new behind b before (after ++ toks)) (drop-drop count done bytes)
      (one_more c l k new r reading behind bytes (drop done bytes) (drop count (drop done bytes)) before after toks has_some some at stood)

  pub fault_at : (fault : ListenFault) (ends : Bool) → Hears (part_of (next_token reading piece)) k new (line.Fault fault) [] → Hears (packet_part r bytes ends) l new (line.Fault fault) []
  fault_at fault ends h =
      let at = subst (λ (b : List ℕ). Hears (part_of (next_token reading b)) k new (line.Fault fault) []) piece_is h in
      fault_behind c l k new r reading bytes (drop done bytes) before after fault ends has_some some at

  pub within_at : (count : ℕ) → count ≤ length piece → done + count ≤ length bytes
  within_at count h = let e : length piece ≡ length bytes - done = ap length piece_is ∙ length-drop done bytes in omega (arith, e, h, more)

  pub moves_at : (count : ℕ) → (0 < length piece → 0 < count) → 0 < count
  moves_at count h = let e : length piece ≡ length bytes - done = ap length piece_is ∙ length-drop done bytes in h (omega (arith, e, more))

  pub fits_at : (toks : List Token) (len cap : ℕ) → length toks ≤ 1 → Hears (part_of (next_token reading piece)) k new line.More toks → len ≤ cap
      → (l.stage ≡ line.Reading → len + (length bytes - done) ≤ cap) → len + length toks ≤ cap
  fits_at toks len cap short h under room =
      fits c l k new r reading bytes (drop done bytes) before after (next_token reading piece) toks len cap (length bytes - done) some short h under (omega (arith, more)) room

-- at the end nothing is left
pub all_heard : (c : Bool) (l k : Line) (r reading : Parser) (bytes : List ℕ) (before after : List Token) (done : ℕ) → length bytes ≤ done
    → HeardSome c l r bytes k reading (drop done bytes) before after → HeardSome c l r bytes k reading [] before after
all_heard c l k r reading bytes before after done e some = subst (λ (b : List ℕ). HeardSome c l r bytes k reading b before after) (drop_all done bytes e) some

-- ---- A packet

own_asked : (c : Bool) (l k : Line) (r reading : Parser) (bytes left : List ℕ) (before after : List Token) → HeardSome c l r bytes k reading left before after → k.asked ≡ l.asked
own_asked c l k r reading bytes left before after some = ap (λ (x : Line). x.asked) some.new_is

pub whole_goes : (c : Bool) (l k : Line) (r reading : Parser) (bytes : List ℕ) (before after : List Token) (ends : Bool) → ends ≡ false
    → HeardSome c l r bytes k reading [] before after → Whole l r bytes ends k line.More before after
whole_goes c l k r reading bytes before after true e some = absurd (let u : ⊥ = cc in u)
whole_goes c l k r reading bytes before after false e some =
    let is = some.new_is ∙ ap (λ (n : ℕ). let x : Line = record { asked = n; stage = awaiting c; heard = k.heard } in x) (sym (own_asked c l k r reading bytes [] before after some)) in
    whole c l k k r reading bytes false before after 0 takes.More some (goes_on c k reading is)

pub whole_ends : (c : Bool) (l k new : Line) (r reading : Parser) (bytes : List ℕ) (before after : List Token) (ends : Bool) (answer : Taken) → ends ≡ true
    → HeardSome c l r bytes k reading [] before after → Hears (end_at reading) k new (taken_answer k.asked answer) []
    → Whole l r bytes ends new (taken_answer l.asked answer) before after
whole_ends c l k new r reading bytes before after false answer e some h = absurd (let u : ⊥ = cc in u)
whole_ends c l k new r reading bytes before after true answer e some h =
    let same = own_asked c l k r reading bytes [] before after some in
    whole c l k new r reading bytes true before after l.asked answer some (subst (λ (n : ℕ). Hears (end_at reading) k new (taken_answer n answer) []) same h)

pub fault_ends : (c : Bool) (l k new : Line) (r reading : Parser) (bytes : List ℕ) (before after : List Token) (ends : Bool) (fault : ListenFault) → ends ≡ true
    → HeardSome c l r bytes k reading [] before after → Hears (end_at reading) k new (line.Fault fault) [] → Hears (packet_part r bytes ends) l new (line.Fault fault) []
fault_ends c l k new r reading bytes before after false fault e some h = absurd (let u : ⊥ = cc in u)
fault_ends c l k new r reading bytes before after true fault e some h =
    behind c l k r reading bytes [] before after [] true new (line.Fault fault) some
    (subst (λ (t : TokensHeard). Hears (part_from true t) k new (line.Fault fault) []) (sym (none_left reading)) h)
