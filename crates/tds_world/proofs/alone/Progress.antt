-- How far requests got, by what was sent to their client.
use Rattle.std.proofs.Common.{◌≡◌, ◌<◌, ◌+◌, ℕ, List, [], ◌∷◌, ◌++◌, Bool, true, false, cond, eqb, refl, sym, ap, ◌∙◌, Option, Some, None, arith}
use Rattle.std.proofs.lemmas.Bool.Decides.{nat_tests}
use Rattle.std.specs.List.{AllByRecursion}
use Rattle.tds_session.specs.declared.attention.OnAttention.{OnAttention}
use Rattle.tds_session.specs.declared.attention.OnAttention.TheVariants as on_attention
use Rattle.tds_session.specs.Answer as answer
use Rattle.tds_session.specs.Answer.{Answers, reset_step}
use Rattle.tds_token.specs.declared.env_change.EnvChange.{EnvChange}
use Rattle.tds_world.specs.alone.Alone.{counted, steps_among, rolls_among, tells_back, Progress, progress_among, MayRollBack}
use Rattle.tds_world.specs.Entries.{Down, Step, Acknowledgement}
use Rattle.tds_world.proofs.flow.Arrivals.{same_number}
use Rattle.tds_world.proofs.reports.Asks.{else_is, then_is}
use Rattle.tds_world.proofs.requests.Cores.{Core}

-- One that got nowhere.
abbrev pub nowhere : Progress
nowhere = record { done = 0; rolled = false }

pub may_keep : (o : OnAttention) → MayRollBack o false
may_keep on_attention.Keep = refl
may_keep on_attention.RollBack = tt

-- A request that is not asked yet got nowhere.
abbrev pub NoneLater : (ℕ → Progress) → Option Core → Type 0
NoneLater got None = (n : ℕ) → got n ≡ nowhere
NoneLater got (Some x) = (n : ℕ) → x.number < n → got n ≡ nowhere

-- How far each request got, by what was sent.
abbrev pub among : List Down → ℕ → Progress
among sent number = progress_among sent number

pub all_same : (f g : ℕ → Progress) (xs : List Core) → ((n : ℕ) → f n ≡ g n) → AllByRecursion (λ (x : Core). f x.number ≡ g x.number) xs
all_same f g [] e = tt
all_same f g (x ∷ xs) e = (e x.number, all_same f g xs e)

pub later_same : (f g : ℕ → Progress) (o : Option Core) → ((n : ℕ) → f n ≡ g n) → NoneLater f o → NoneLater g o
later_same f g None e h = λ n. sym (e n) ∙ h n
later_same f g (Some x) e h = λ n l. sym (e n) ∙ h n l

-- What is sent more.
pub steps_more : (sent more : List Down) (n : ℕ) → steps_among n (sent ++ more) ≡ steps_among n sent + steps_among n more
steps_more [] more n = let z : steps_among n more ≡ 0 + steps_among n more = omega arith in z
steps_more (Acknowledgement r place changes ∷ es) more n = steps_more es more n
steps_more (Step r place s ∷ es) more n =
    let k : ℕ = cond (eqb r n) (counted s.reset) 0 in
    let rest : steps_among n (es ++ more) ≡ steps_among n es + steps_among n more = steps_more es more n in
    ap (λ m. k + m) rest ∙ sum k (steps_among n es) (steps_among n more)
  where
    sum : (a b c : ℕ) → a + (b + c) ≡ a + b + c
    sum a b c = omega arith

pub rolls_more : (sent : List Down) (e : Down) (n : ℕ) → rolls_among n (e ∷ []) ≡ false → rolls_among n (sent ++ e ∷ []) ≡ rolls_among n sent
rolls_more [] e n h = h
rolls_more (Acknowledgement r place changes ∷ es) e n h = ap (tells_back (eqb r n) changes) (rolls_more es e n h)
rolls_more (Step r place s ∷ es) e n h = rolls_more es e n h

pub both_progress : (a b : Progress) → a.done ≡ b.done → a.rolled ≡ b.rolled → a ≡ b
both_progress a b e f = ap (λ d. record { done = d; rolled = a.rolled }) e ∙ ap (λ r. record { done = b.done; rolled = r }) f

-- One that tells nothing of this request.
pub same_among : (sent : List Down) (e : Down) (n : ℕ) → steps_among n (e ∷ []) ≡ 0 → rolls_among n (e ∷ []) ≡ false → among (sent ++ e ∷ []) n ≡ among sent n
same_among sent e n f g =
    let none : steps_among n sent + steps_among n (e ∷ []) ≡ steps_among n sent = omega arith in
    both_progress (among (sent ++ e ∷ []) n) (among sent n) (steps_more sent (e ∷ []) n ∙ none) (rolls_more sent e n g)

pub differs : (a b : ℕ) → a < b → (eqb a b ≡ false) × (eqb b a ≡ false)
differs a b l = (lower, higher)
  where
    lower : eqb a b ≡ false
    lower = grind (arith, nat_tests)

    higher : eqb b a ≡ false
    higher = grind (arith, nat_tests)

-- ---- The server hears

-- An acknowledgement is no step, and one that tells nothing rolls nothing back.
pub plain_ack : (sent : List Down) (r place n : ℕ) → among sent n ≡ among (sent ++ Acknowledgement r place [] ∷ []) n
plain_ack sent r place n = sym (same_among sent (Acknowledgement r place []) n refl (tells_none (eqb r n)))
  where
    tells_none : (b : Bool) → tells_back b [] false ≡ false
    tells_none true = refl
    tells_none false = refl

pub other_ack : (sent : List Down) (r place n : ℕ) (changes : List EnvChange) → eqb r n ≡ false → among sent n ≡ among (sent ++ Acknowledgement r place changes ∷ []) n
other_ack sent r place n changes e =
    sym (same_among sent (Acknowledgement r place changes) n refl (ap (λ b. tells_back b changes false) e))

pub tells_true : (b : Bool) (changes : List EnvChange) → tells_back b changes true ≡ true
tells_true true [] = refl
tells_true true (x ∷ xs) = refl
tells_true false changes = refl

pub own_ack : (sent : List Down) (r place : ℕ) (x : EnvChange) → rolls_among r (sent ++ Acknowledgement r place (x ∷ []) ∷ []) ≡ true
own_ack [] r place x = ap (λ b. tells_back b (x ∷ []) false) (same_number r r refl)
own_ack (Acknowledgement q i changes ∷ es) r place x = ap (tells_back (eqb q r) changes) (own_ack es r place x) ∙ tells_true (eqb q r) changes
own_ack (Step q i s ∷ es) r place x = own_ack es r place x

pub steps_ack : (sent : List Down) (r place n : ℕ) (changes : List EnvChange) → steps_among n sent ≡ steps_among n (sent ++ Acknowledgement r place changes ∷ [])
steps_ack sent r place n changes =
    let sum : steps_among n sent + 0 ≡ steps_among n sent = omega arith in
    sym sum ∙ sym (steps_more sent (Acknowledgement r place changes ∷ []) n)

pub older_ack : (sent : List Down) (r place : ℕ) (changes : List EnvChange) (xs : List Core) → AllByRecursion (λ (x : Core). x.number < r) xs → AllByRecursion (λ (x : Core). among sent x.number ≡ among (sent ++ Acknowledgement r place changes ∷ []) x.number) xs
older_ack sent r place changes [] h = tt
older_ack sent r place changes (x ∷ xs) h = (other_ack sent r place x.number changes (differs x.number r h.0).1, older_ack sent r place changes xs h.1)

-- One more step of this request was sent.
pub own_step : (sent : List Down) (r place : ℕ) (s : answer.Step) → steps_among r (sent ++ Step r place s ∷ []) ≡ steps_among r sent + counted s.reset
own_step sent r place s =
    let k : ℕ = cond (eqb r r) (counted s.reset) 0 in
    let sum : steps_among r sent + (k + 0) ≡ steps_among r sent + k = omega arith in
    steps_more sent (Step r place s ∷ []) r ∙ (sum ∙ ap (λ x. steps_among r sent + x) (then_is (eqb r r) (counted s.reset) 0 (same_number r r refl)))

pub other_step : (sent : List Down) (r place n : ℕ) (s : answer.Step) → eqb r n ≡ false → among sent n ≡ among (sent ++ Step r place s ∷ []) n
other_step sent r place n s e =
    let k : ℕ = cond (eqb r n) (counted s.reset) 0 in
    let none : k ≡ 0 = else_is (eqb r n) (counted s.reset) 0 e in
    let sum : k + 0 ≡ 0 = omega arith in
    sym (same_among sent (Step r place s) n sum refl)

pub older_step : (sent : List Down) (r place : ℕ) (s : answer.Step) (xs : List Core) → AllByRecursion (λ (x : Core). x.number < r) xs → AllByRecursion (λ (x : Core). among sent x.number ≡ among (sent ++ Step r place s ∷ []) x.number) xs
older_step sent r place s [] h = tt
older_step sent r place s (x ∷ xs) h =
    (other_step sent r place x.number s (differs x.number r h.0).1, older_step sent r place s xs h.1)
