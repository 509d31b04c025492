-- What the tokens in a packet's data are to a judge, and the packet's end.
use Rattle.std.proofs.Common.{◌≡◌, ◌∙◌, ◌-◌, ◌<◌, nat_lt, true, ℕ, List, [], ◌∷◌, ◌++◌, length, refl, sym, ap, subst, arith}
use Rattle.std.proofs.lemmas.Bool.{lt-ltb}
use Rattle.tds_judge.specs.declared.finding.Direction.TheVariants.{ToClient}
use Rattle.tds_judge.specs.declared.frame.Due.TheVariants as due
use Rattle.tds_judge.specs.declared.frame.Frame.{Frame}
use Rattle.tds_judge.specs.declared.frame.Inside.TheVariants as inside
use Rattle.tds_judge.specs.declared.talk.Event.{Event}
use Rattle.tds_judge.specs.declared.talk.Event.TheVariants as events
use Rattle.tds_wire.specs.declared.told.Token.{Token}
use Rattle.tds_wire.specs.Reading.{Parser, Found, Sees, Inside as Amid, Refuses, next_token, then_found}
use Rattle.tds_listen.specs.Hearing.{Stands, Fails, TokensHeard, tokens_by, tokens_in, tokens_within}
use Rattle.tds_listen.proofs.Within.{step_is}
use Rattle.tds_judge.specs.Framing.{due_by, inside_by, over, step, steps}
use Rattle.tds_judge.specs.History.{Said, found_in, further}
use Rattle.tds_judge.proofs.Walks.{sees_fewer}
use Rattle.tds_judge.proofs.InRuns.{Cuts}
use Rattle.laws_never_blamed.proofs.Heads.{Base, next, run_at, says, server_spot}
use Rattle.laws_never_blamed.proofs.Contents.{last, on}
use Rattle.laws_never_blamed.proofs.Follows.{Follows}

-- ---- One byte

abbrev pub walking : Frame → ℕ → ℕ → Frame
walking s left o = record s { due = due.Data left; inside = inside.Walked; offset = o }

amid_more : (base : Base) (t b left o : ℕ) (c s : Frame) (r u : Parser) (past : List Said) → next_token r (b ∷ []) ≡ Amid u → nat_lt 1 left ≡ true
    → step ToClient t b (run_at base c (walking s left o) r past) ≡ run_at base c (walking s (left - 1) (next o)) u past
unfolding step due_by inside_by
amid_more base t b left o c s r u past e more = rw (e, more) refl

sees_more : (base : Base) (t b left o : ℕ) (c s : Frame) (r u : Parser) (past : List Said) (token : Token) (rest : List ℕ) → next_token r (b ∷ []) ≡ Sees token u rest → nat_lt 1 left ≡ true
    → step ToClient t b (run_at base c (walking s left o) r past)
    ≡ run_at base c (walking s (left - 1) (next o)) u (says (server_spot o t) (events.Says token) past)
unfolding step due_by inside_by further found_in
sees_more base t b left o c s r u past token rest e more = rw (e, more) refl

amid_last : (base : Base) (t b o : ℕ) (c s : Frame) (r u : Parser) (past : List Said) → next_token r (b ∷ []) ≡ Amid u
    → step ToClient t b (run_at base c (walking s 1 o) r past) ≡ over (server_spot o t) (run_at base c (walking s 1 (next o)) u past)
unfolding step due_by inside_by
amid_last base t b o c s r u past e = rw e refl

sees_last : (base : Base) (t b o : ℕ) (c s : Frame) (r u : Parser) (past : List Said) (token : Token) (rest : List ℕ) → next_token r (b ∷ []) ≡ Sees token u rest
    → step ToClient t b (run_at base c (walking s 1 o) r past)
    ≡ over (server_spot o t) (run_at base c (walking s 1 (next o)) u (says (server_spot o t) (events.Says token) past))
unfolding step due_by inside_by further found_in
sees_last base t b o c s r u past token rest e = rw e refl

-- ---- All tokens that end among bytes

abbrev pub says_of : List Token → List Event
says_of [] = []
says_of (token ∷ tokens) = events.Says token ∷ says_of tokens

pub record Walks (base : Base) (t left o b : ℕ) (bytes : List ℕ) (c s : Frame) (r u : Parser) (past : List Said) (tokens : List Token) : Type 0 where
  pub behind : List Said
  pub are : Follows (says_of tokens) past behind
  pub is : steps ToClient t (b ∷ bytes) (run_at base c (walking s left o) r past)
      ≡ over (server_spot (last o b bytes) t) (run_at base c (walking s 1 (on o (b ∷ bytes))) u behind)

no_more : (rest : List ℕ) → length rest < 1 → rest ≡ []
no_more [] few = refl
no_more (b ∷ rest) few = absurd (omega (arith, few))

pub none : (r : Parser) → tokens_in r [] ≡ record { tokens = []; stop = Stands r }
unfolding tokens_within
none r = refl

last_byte : (found : Found) (base : Base) (t o b : ℕ) (c s : Frame) (r u : Parser) (past : List Said) (all : TokensHeard)
    → next_token r (b ∷ []) ≡ found → tokens_by found (λ next rest. tokens_in next rest) ≡ all → all.stop ≡ Stands u
    → Walks base t 1 o b [] c s r u past all.tokens
unfolding steps
last_byte (Amid v) base t o b c s r u past all e is stop =
    let stands : Stands v ≡ Stands u = ap (λ (x : TokensHeard). x.stop) is ∙ stop in
    let same : v ≡ u = cc in
    let none_of : [] ≡ all.tokens = ap (λ (x : TokensHeard). x.tokens) is in
    record {
      behind = past;
      are = subst (λ (xs : List Token). Follows (says_of xs) past past) none_of refl;
      is = amid_last base t b o c s r v past e ∙ ap (λ (x : Parser). over (server_spot o t) (run_at base c (walking s 1 (next o)) x past)) same;
    }
last_byte (Sees token v rest) base t o b c s r u past all e is stop =
    let few : length rest < 1 = sees_fewer r (b ∷ []) token v rest e in
    let ends : tokens_in v rest ≡ record { tokens = []; stop = Stands v } = ap (tokens_in v) (no_more rest few) ∙ none v in
    let stands : Stands v ≡ Stands u = sym (ap (λ (x : TokensHeard). x.stop) ends) ∙ (ap (λ (x : TokensHeard). x.stop) is ∙ stop) in
    let same : v ≡ u = cc in
    let one : token ∷ [] ≡ all.tokens = ap (λ (x : TokensHeard). token ∷ x.tokens) (sym ends) ∙ ap (λ (x : TokensHeard). x.tokens) is in
    let behind : List Said = says (server_spot o t) (events.Says token) past in
    record {
      behind = behind;
      are = subst (λ (xs : List Token). Follows (says_of xs) past behind) one (server_spot o t, refl);
      is = sees_last base t b o c s r v past token rest e ∙ ap (λ (x : Parser). over (server_spot o t) (run_at base c (walking s 1 (next o)) x behind)) same;
    }
last_byte (Refuses refusal) base t o b c s r u past all e is stop =
    let bad : Fails refusal ≡ Stands u = ap (λ (x : TokensHeard). x.stop) is ∙ stop in
    absurd cc

record Further (found : Found) (base : Base) (t left o b d : ℕ) (bytes : List ℕ) (c s : Frame) (r u : Parser) (past : List Said) : Type 0 where
  on : (v : Parser) (behind : List Said) (all : TokensHeard) → tokens_in v (d ∷ bytes) ≡ all → all.stop ≡ Stands u → Walks base t (left - 1) (next o) d bytes c s v u behind all.tokens

first_byte : (found : Found) (base : Base) (t left o b d : ℕ) (bytes : List ℕ) (c s : Frame) (r u : Parser) (past : List Said) (all : TokensHeard)
    → next_token r (b ∷ []) ≡ found → tokens_by (then_found found (d ∷ bytes)) (λ next rest. tokens_in next rest) ≡ all → all.stop ≡ Stands u → nat_lt 1 left ≡ true
    → Further found base t left o b d bytes c s r u past → Walks base t left o b (d ∷ bytes) c s r u past all.tokens
unfolding steps
first_byte (Amid v) base t left o b d bytes c s r u past all e is stop more next_is =
    let w = next_is.on v past all (step_is v d bytes ∙ is) stop in
    record {
      behind = w.behind;
      are = w.are;
      is = ap (steps ToClient t (d ∷ bytes)) (amid_more base t b left o c s r v past e more) ∙ w.is;
    }
first_byte (Sees token v rest) base t left o b d bytes c s r u past all e is stop more next_is =
    let few : length rest < 1 = sees_fewer r (b ∷ []) token v rest e in
    let gone : rest ++ (d ∷ bytes) ≡ d ∷ bytes = ap (λ (xs : List ℕ). xs ++ (d ∷ bytes)) (no_more rest few) in
    let there : tokens_in v (d ∷ bytes) ≡ tokens_in v (rest ++ (d ∷ bytes)) = ap (tokens_in v) (sym gone) in
    let stands : (tokens_in v (d ∷ bytes)).stop ≡ Stands u = ap (λ (x : TokensHeard). x.stop) there ∙ (ap (λ (x : TokensHeard). x.stop) is ∙ stop) in
    let tokens : token ∷ (tokens_in v (d ∷ bytes)).tokens ≡ all.tokens = ap (λ (x : TokensHeard). token ∷ x.tokens) there ∙ ap (λ (x : TokensHeard). x.tokens) is in
    let w = next_is.on v (says (server_spot o t) (events.Says token) past) (tokens_in v (d ∷ bytes)) refl stands in
    record {
      behind = w.behind;
      are = subst (λ (xs : List Token). Follows (says_of xs) past w.behind) tokens (server_spot o t, w.are);
      is = ap (steps ToClient t (d ∷ bytes)) (sees_more base t b left o c s r v past token rest e more) ∙ w.is;
    }
first_byte (Refuses refusal) base t left o b d bytes c s r u past all e is stop more next_is =
    let bad : Fails refusal ≡ Stands u = ap (λ (x : TokensHeard). x.stop) is ∙ stop in
    absurd cc

pub walks : (cuts : Cuts) (base : Base) (t left o b : ℕ) (bytes : List ℕ) (c s : Frame) (r u : Parser) (past : List Said) (all : TokensHeard)
    → tokens_in r (b ∷ bytes) ≡ all → all.stop ≡ Stands u → length (b ∷ bytes) ≡ left → Walks base t left o b bytes c s r u past all.tokens
walks cuts base t left o b [] c s r u past all is stop few =
    let one : 1 ≡ left = omega (arith, few) in
    subst (λ (n : ℕ). Walks base t n o b [] c s r u past all.tokens) one
    (last_byte (next_token r (b ∷ [])) base t o b c s r u past all refl (sym (step_is r b []) ∙ is) stop)
walks cuts base t left o b (d ∷ bytes) c s r u past all is stop few =
    let n : length (d ∷ bytes) ≡ left - 1 = omega (arith, few) in
    first_byte (next_token r (b ∷ [])) base t left o b d bytes c s r u past all refl
    (ap (λ (f : Found). tokens_by f (λ next rest. tokens_in next rest)) (cuts r (b ∷ []) (d ∷ bytes)) ∙ (sym (step_is r b (d ∷ bytes)) ∙ is)) stop
    (lt-ltb 1 left (omega (arith, few)))
    (record { on = λ (v : Parser) (behind : List Said) (all' : TokensHeard) (h : tokens_in v (d ∷ bytes) ≡ all') (k : all'.stop ≡ Stands u). walks cuts base t (left - 1) (next o) d bytes c s v u behind all' h k n })
