-- Own answers: of a request that waits for its answer, what its caller was given, what waits and what
-- is due are together its whole answer, in the session that it ran in.
use Rattle.std.proofs.Common.{◌≡◌, ◌⊎◌, ℕ, List, [], ◌∷◌, ◌++◌, inl, inr, Bool, true, false, cond, refl, sym, ap, subst, ◌∙◌, Option, Some, None, flat_map}
use Rattle.std.proofs.lemmas.List.{append_assoc, append-nil}
use Rattle.std.specs.List.{AllByRecursion}
use Rattle.tds_packet.specs.declared.status.Reset.{Reset}
use Rattle.tds_session.specs.Answer as answer
use Rattle.tds_session.specs.Answer.{Answers, reset_step}
use Rattle.tds_session.specs.Session.{SessionState, after_reset}
use Rattle.tds_token.specs.declared.token.Token.{Token}
use Rattle.tds_token.specs.declared.token.Token.TheVariants as token
use Rattle.tds_token.specs.Told.{told}
use Rattle.tds_token.specs.declared.env_change.EnvChange.{EnvChange}
use Rattle.tds_world.specs.Connection.{Connection}
use Rattle.tds_world.specs.Entries.{Up, Part, End, Drop, Down, Step, Acknowledgement, Asking, Packet}
use Rattle.tds_world.specs.Lawful.{Lawful, TakesNoReset}
use Rattle.tds_world.specs.Laws.{IsAnswer}
use Rattle.tds_world.specs.Record.{Record, Out, NotBegun, Begun, Whole, gives, acknowledges, runs, ran_in, Fate, Open, Finished, Cancelled, Acknowledged, is_cancelled, is_finished, stepped}
use Rattle.tds_world.proofs.requests.Asking.{EndsAsk}

-- ---- Tokens

-- The tokens of the steps that wait, and of those that are due.
abbrev pub waiting_tokens : List Down → List Token
waiting_tokens [] = []
waiting_tokens (Step r place s ∷ es) = s.tokens ++ waiting_tokens es
waiting_tokens (Acknowledgement r place changes ∷ es) = waiting_tokens es

abbrev pub tokens_left : List Down → List answer.Step → List Token
tokens_left downs due = waiting_tokens downs ++ flat_map (λ step. step.tokens) due

pub told_two : (xs ys : List Token) → told (xs ++ ys) ≡ told xs ++ told ys
told_two [] ys = refl
told_two (token.Info m ∷ xs) ys = ap (λ (ts : List Token). token.Info m ∷ ts) (told_two xs ys)
told_two (token.Error m ∷ xs) ys = ap (λ (ts : List Token). token.Error m ∷ ts) (told_two xs ys)
told_two (token.ReturnStatus v ∷ xs) ys = ap (λ (ts : List Token). token.ReturnStatus v ∷ ts) (told_two xs ys)
told_two (token.Columns cs ∷ xs) ys = ap (λ (ts : List Token). token.Columns cs ∷ ts) (told_two xs ys)
told_two (token.Row vs ∷ xs) ys = ap (λ (ts : List Token). token.Row vs ∷ ts) (told_two xs ys)
told_two (token.Env e ∷ xs) ys = told_two xs ys
told_two (token.Done a b n ∷ xs) ys = ap (λ (ts : List Token). token.Done a b n ∷ ts) (told_two xs ys)

-- A step arrives and is told.
pub step_told : (r place : ℕ) (s : answer.Step) (given : List Token) (es : List Down) (due : List answer.Step) → (given ++ told s.tokens) ++ told (tokens_left es due) ≡ given ++ told (tokens_left (Step r place s ∷ es) due)
step_told r place s given es due =
    append_assoc given (told s.tokens) (told (tokens_left es due))
    ∙ ap (λ (xs : List Token). given ++ xs)
    (sym (told_two s.tokens (tokens_left es due)) ∙ ap told (sym (append_assoc s.tokens (waiting_tokens es) (flat_map (λ step. step.tokens) due))))

-- A step goes out.
waits_more : (r place : ℕ) (s : answer.Step) (downs : List Down) (rest : List Token) → waiting_tokens (downs ++ Step r place s ∷ []) ++ rest ≡ waiting_tokens downs ++ (s.tokens ++ rest)
waits_more r place s [] rest = ap (λ (xs : List Token). xs ++ rest) (append-nil s.tokens)
waits_more r place s (Step q i t ∷ es) rest =
    append_assoc t.tokens (waiting_tokens (es ++ Step r place s ∷ [])) rest
    ∙ (ap (λ (xs : List Token). t.tokens ++ xs) (waits_more r place s es rest)
    ∙ sym (append_assoc t.tokens (waiting_tokens es) (s.tokens ++ rest)))
waits_more r place s (Acknowledgement q i changes ∷ es) rest = waits_more r place s es rest

pub work_told : (r place : ℕ) (s : answer.Step) (downs : List Down) (ss : List answer.Step) → tokens_left (downs ++ Step r place s ∷ []) ss ≡ tokens_left downs (s ∷ ss)
work_told r place s downs ss = waits_more r place s downs (flat_map (λ step. step.tokens) ss)

-- ---- The invariant

-- The answer that a request asks for, in this session and by the descriptor in its header.
abbrev pub asked_answer : Answers → SessionState → Asking → List Token
asked_answer answers s a = told (flat_map (λ step. step.tokens) (answers s a.descriptor None a.request))

-- What was given is a beginning of it, and all of it where the request is finished.
abbrev pub HasOwn : Answers → Record → Option SessionState → Type 0
HasOwn answers q None = (q.given ≡ []) × (is_finished q.fate ≡ false)
HasOwn answers q (Some s) = IsAnswer q.given (asked_answer answers s q.asking) q

abbrev pub is_whole : Out → Bool
is_whole NotBegun = false
is_whole (Begun n) = false
is_whole (Whole n) = true

-- Of a request that waits for its answer: before its first step, what is due is its answer from the
-- session of this moment; after it, what was given, what waits and what is due are its answer.
abbrev pub Underway : Answers → SessionState → Record → List Up → List Down → List answer.Step → Option SessionState → Type 0
Underway answers s q ups downs due None =
    (q.given ≡ []) × EndsAsk q.asking ups × (downs ≡ [])
    × ((due ≡ []) ⊎ (due ≡ answers s q.asking.descriptor q.asking.mark q.asking.request))
Underway answers s q ups downs due (Some t) =
    (ups ≡ []) × (is_whole q.out ≡ true) × (q.given ++ told (tokens_left downs due) ≡ asked_answer answers t q.asking)

pub record Owns (answers : Answers) (s : SessionState) (q : Record) (ups : List Up) (downs : List Down) (due : List answer.Step) : Type 0 where
  pub has : HasOwn answers q q.ran
  pub live : is_cancelled q.fate ≡ false → is_finished q.fate ≡ false → Underway answers s q ups downs due q.ran

abbrev pub OwnsIn : Answers → SessionState → Option Record → List Up → List Down → List answer.Step → Type 0
OwnsIn answers s None ups downs due = Unit {0}
OwnsIn answers s (Some q) ups downs due = Owns answers s q ups downs due

abbrev pub OwnsPast : Answers → List Record → Type 0
OwnsPast answers past = AllByRecursion (λ q. HasOwn answers q q.ran) past

-- Where these entries wait.
abbrev pub OwnWith : Answers → Connection → List Up → List Down → Type 0
OwnWith answers c ups downs = OwnsPast answers c.past × OwnsIn answers c.session c.current ups downs c.due

abbrev pub Own : Answers → Connection → Type 0
Own answers c = OwnWith answers c c.to_server.waiting c.to_client.waiting

-- ---- An entry arrives at the server

no_more : {A : Type 0} (x : A) (xs : List A) → x ∷ xs ≡ [] → ⊥
no_more x xs e = absurd (cc)

pub part_owned : (answers : Answers) (s : SessionState) (q : Record) (r : ℕ) (p : Packet) (es : List Up) (downs : List Down) (due : List answer.Step) (ran : Option SessionState) → Underway answers s q (Part r p ∷ es) downs due ran → Underway answers s q es downs due ran
part_owned answers s q r p es downs due None h = h
part_owned answers s q r p es downs due (Some t) h = absurd (no_more (Part r p) es h.0)

pub drop_owned : (answers : Answers) (s : SessionState) (q : Record) (r : ℕ) (p : Packet) (es : List Up) (downs : List Down) (due : List answer.Step) (ran : Option SessionState) → Underway answers s q (Drop r p ∷ es) downs due ran → Underway answers s q es downs due ran
drop_owned answers s q r p es downs due None h = h
drop_owned answers s q r p es downs due (Some t) h = absurd (no_more (Drop r p) es h.0)

pub end_owned : (answers : Answers) (s : SessionState) (q : Record) (r : ℕ) (a : Asking) (p : Packet) (es : List Up) (downs : List Down) (due : List answer.Step) (ran : Option SessionState) → Underway answers s q (End r a p ∷ es) downs due ran → Underway answers s q es downs (answers s a.descriptor a.mark a.request) ran
end_owned answers s q r a p es downs due None h = (h.0, h.1.1, h.2, inr (ap (λ (b : Asking). answers s b.descriptor b.mark b.request) h.1.0))
end_owned answers s q r a p es downs due (Some t) h = absurd (no_more (End r a p) es h.0)

-- ---- A step arrives at the client

is_last : (last : Bool) → is_finished (cond last Finished Open) ≡ true → last ≡ true
is_last true e = refl
is_last false e = absurd (cc)

-- Of a request that is not cancelled.
pub told_owned : (answers : Answers) (s : SessionState) (q : Record) (r place : ℕ) (t : answer.Step) (ups : List Up) (es : List Down) (due : List answer.Step) (ran : Option SessionState) → (t.last ≡ true → (es ≡ []) × (due ≡ [])) → Underway answers s q ups (Step r place t ∷ es) due ran
    → HasOwn answers (record q { given = q.given ++ told t.tokens; fate = cond t.last Finished Open }) ran
    × Underway answers s (record q { given = q.given ++ told t.tokens; fate = cond t.last Finished Open }) ups es due ran
told_owned answers s q r place t ups es due None l h = absurd (no_more (Step r place t) es h.2)
told_owned answers s q r place t ups es due (Some before) l h =
    let all : (q.given ++ told t.tokens) ++ told (tokens_left es due) ≡ asked_answer answers before q.asking = step_told r place t q.given es due ∙ h.2 in (
      record {
        begins = (told (tokens_left es due), all);
        ends = λ e. sym (append-nil (q.given ++ told t.tokens))
            ∙ (ap (λ (xs : List Token). (q.given ++ told t.tokens) ++ xs) (sym (ap (λ ds. told (tokens_left ds due)) (l (is_last t.last e)).0 ∙ ap (λ ss. told (tokens_left [] ss)) (l (is_last t.last e)).1)) ∙ all);
      },
      (h.0, h.1, all),
    )

-- What was given stays, of a request that is cancelled.
pub stays_own : (answers : Answers) (q : Record) (fate : Fate) (ran : Option SessionState) → is_finished fate ≡ false → HasOwn answers q ran → HasOwn answers (record q { given = q.given; fate = fate }) ran
stays_own answers q fate None e h = (h.0, e)
stays_own answers q fate (Some s) e h = record { begins = h.begins; ends = λ f. let z : true ≡ false = sym f ∙ e in absurd (cc) }

gives_by : (answers : Answers) (s : SessionState) (q : Record) (r place : ℕ) (t : answer.Step) (ups : List Up) (es : List Down) (due : List answer.Step) (fate : Fate) → q.fate ≡ fate → (is_cancelled fate ≡ false → (is_finished fate ≡ false) × (t.last ≡ true → (es ≡ []) × (due ≡ []))) → Owns answers s q ups (Step r place t ∷ es) due
    → HasOwn answers (record q { given = cond (is_cancelled fate) q.given (q.given ++ told t.tokens); fate = stepped t.last fate }) q.ran
    × (is_cancelled (stepped t.last fate) ≡ false → is_finished (stepped t.last fate) ≡ false → Underway answers s (record q { given = cond (is_cancelled fate) q.given (q.given ++ told t.tokens); fate = stepped t.last fate }) ups es due q.ran)
gives_by answers s q r place t ups es due Cancelled e f h = (stays_own answers q Cancelled q.ran refl h.has, λ z. absurd (cc))
gives_by answers s q r place t ups es due Acknowledged e f h = (stays_own answers q Acknowledged q.ran refl h.has, λ z. absurd (cc))
gives_by answers s q r place t ups es due Finished e f h = let z : true ≡ false = (f refl).0 in absurd (cc)
gives_by answers s q r place t ups es due Open e f h =
    let told_now = told_owned answers s q r place t ups es due q.ran (f refl).1 (h.live (ap is_cancelled e) (ap is_finished e)) in (told_now.0, λ z y. told_now.1)

pub gives_owned : (answers : Answers) (s : SessionState) (q : Record) (r place : ℕ) (t : answer.Step) (ups : List Up) (es : List Down) (due : List answer.Step) → (is_cancelled q.fate ≡ false → (is_finished q.fate ≡ false) × (t.last ≡ true → (es ≡ []) × (due ≡ []))) → Owns answers s q ups (Step r place t ∷ es) due → Owns answers s (gives t q) ups es due
gives_owned answers s q r place t ups es due f h =
    let both = gives_by answers s q r place t ups es due q.fate refl f h in record { has = both.0; live = both.1 }

pub acknowledged_owned : (answers : Answers) (s : SessionState) (q : Record) (r place : ℕ) (changes : List EnvChange) (ups : List Up) (es : List Down) (due : List answer.Step) → Owns answers s q ups (Acknowledgement r place changes ∷ es) due → Owns answers s (acknowledges q) ups es due
acknowledged_owned answers s q r place changes ups es due h = record {
  has = stays_own answers q Acknowledged q.ran refl h.has;
  live = λ c. let z : true ≡ false = c in absurd (cc);
}

-- ---- The server takes a step

-- The first one: what is due is the whole answer, behind the reset where there is one.
first_owned : (answers : Answers) (s : SessionState) (a : Asking) (mark : Option Reset) (t : answer.Step) (ss : List answer.Step) → Lawful answers → a.mark ≡ mark → t ∷ ss ≡ answers s a.descriptor mark a.request → told (tokens_left [] (t ∷ ss)) ≡ asked_answer answers (ran_in None t.reset s t.after) a
first_owned answers s a None t ss l m e =
    let plain : TakesNoReset (t ∷ ss) = subst TakesNoReset (sym e) (l.only s a.descriptor a.request) in
    ap (λ (us : List answer.Step). told (flat_map (λ step. step.tokens) us)) e
    ∙ ap (λ (x : Option Reset). asked_answer answers (ran_in None x s t.after) a) (sym plain.0)
first_owned answers s a (Some r) t ss l m e =
    let whole : t ∷ ss ≡ reset_step r s ∷ answers (after_reset r s) a.descriptor None a.request = e ∙ l.resets s a.descriptor r a.request in
    let first : t ≡ reset_step r s = cc in
    ap (λ (us : List answer.Step). told (flat_map (λ step. step.tokens) us)) whole
    ∙ ap (λ (u : answer.Step). asked_answer answers (ran_in None u.reset s u.after) a) (sym first)

runs_has : (answers : Answers) (s : SessionState) (q : Record) (t : answer.Step) (ran : Option SessionState) → HasOwn answers q ran → HasOwn answers (runs s t q) (Some (ran_in ran t.reset s t.after))
runs_has answers s q t (Some before) h = record { begins = h.begins; ends = h.ends }
runs_has answers s q t None h = record {
  begins = (asked_answer answers (ran_in None t.reset s t.after) q.asking, ap (λ (xs : List Token). xs ++ asked_answer answers (ran_in None t.reset s t.after) q.asking) h.0);
  ends = λ e. let z : true ≡ false = sym e ∙ h.1 in absurd (cc);
}

runs_live : (answers : Answers) (s : SessionState) (q : Record) (r place : ℕ) (t : answer.Step) (ss : List answer.Step) (ups : List Up) (downs : List Down) (ran : Option SessionState) → Lawful answers → ups ≡ [] → is_whole q.out ≡ true → Underway answers s q ups downs (t ∷ ss) ran
    → Underway answers t.after (runs s t q) ups (downs ++ Step r place t ∷ []) ss (Some (ran_in ran t.reset s t.after))
runs_live answers s q r place t ss ups downs (Some before) l u w h =
    (h.0, h.1, ap (λ (xs : List Token). q.given ++ told xs) (work_told r place t downs ss) ∙ h.2)
runs_live answers s q r place t ss ups downs None l u w h = elim h.3 [
  | inl e ↦ absurd (no_more t ss e)
  | inr e ↦ (
    u,
    w,
    ap (λ (xs : List Token). xs ++ told (tokens_left (downs ++ Step r place t ∷ []) ss)) h.0
        ∙ (ap told (work_told r place t downs ss)
        ∙ (ap (λ ds. told (tokens_left ds (t ∷ ss))) h.2
        ∙ first_owned answers s q.asking q.asking.mark t ss l refl e)),
  )
]

pub runs_owned : (answers : Answers) (s : SessionState) (q : Record) (r place : ℕ) (t : answer.Step) (ss : List answer.Step) (ups : List Up) (downs : List Down) → Lawful answers → (is_cancelled q.fate ≡ false → (ups ≡ []) × (is_whole q.out ≡ true)) → Owns answers s q ups downs (t ∷ ss)
    → Owns answers t.after (runs s t q) ups (downs ++ Step r place t ∷ []) ss
runs_owned answers s q r place t ss ups downs l f h = record {
  has = runs_has answers s q t q.ran h.has;
  live = λ c g. runs_live answers s q r place t ss ups downs q.ran l (f c).0 (f c).1 (h.live c g);
}
