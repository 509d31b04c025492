-- Parts that come one behind the other are one part.
use Rattle.std.proofs.Common.{◌≡◌, ◌∙◌, ℕ, Bool, true, false, List, [], ◌∷◌, ◌++◌, refl, sym, ap, subst}
use Rattle.std.specs.Prelude.{Result, Ok, Err}
use Rattle.tds_wire.specs.declared.told.Token.{Token}
use Rattle.tds_client.specs.declared.fault.ClientFault.{ClientFault}
use Rattle.tds_client.specs.declared.heard.Heard.{Heard}
use Rattle.tds_client.specs.declared.heard.FinalDone.{FinalDone}
use Rattle.tds_client.specs.declared.heard.FinalDone.TheVariants.{Awaited, Answered, Acknowledged}
use Rattle.tds_client.specs.declared.sign.Rules.TheVariants.{Any}
use Rattle.tds_client.specs.declared.sign.Sign.{Sign}
use Rattle.tds_client.specs.declared.sign.Sign.TheVariants as signs
use Rattle.tds_client.specs.Hearing.{◌>>=◌, hear_sign}
use Rattle.tds_listen.specs.declared.fault.ListenFault.{ListenFault}
use Rattle.tds_listen.specs.Hearing.{heard_by}
use Rattle.tds_service.specs.Parts.{Item, Part, Close, is_end, items_told, told_by, hear_items, hear_part, heard_until, until_by, close_part}
use Rattle.tds_service.specs.Packets.{awaiting, tells}
use Rattle.tds_service.specs.Line as line
use Rattle.tds_service.specs.Line.{Line, Turn, Answer, Told, LineStage, line_turn, reads, skips, skips_to_end}
use Rattle.tds_service.specs.Ties.{IsTo, tokens_in}
use Rattle.tds_service.proofs.Pairing.{line as line_at}

-- ---- Items

hear_by : (c : Bool) (x : Result Heard ClientFault) (xs ys : List (Item Token)) → ((h : Heard) → hear_items c h (xs ++ ys) ≡ (hear_items c h xs >>= λ next. hear_items c next ys))
    → (x >>= λ next. hear_items c next (xs ++ ys)) ≡ ((x >>= λ next. hear_items c next xs) >>= λ next. hear_items c next ys)
hear_by c (Ok h) xs ys ih = ih h
hear_by c (Err fault) xs ys ih = refl

hear_both : (c : Bool) (h : Heard) (xs ys : List (Item Token)) → hear_items c h (xs ++ ys) ≡ (hear_items c h xs >>= λ next. hear_items c next ys)
hear_both c h [] ys = refl
hear_both c h (x ∷ xs) ys = hear_by c (hear_sign Any c h x.sign) xs ys (λ h. hear_both c h xs ys)

pub hear_behind : (c : Bool) (h next : Heard) (xs ys : List (Item Token)) → hear_items c h xs ≡ Ok next → hear_items c h (xs ++ ys) ≡ hear_items c next ys
hear_behind c h next xs ys e = hear_both c h xs ys ∙ ap (λ (x : Result Heard ClientFault). x >>= λ n. hear_items c n ys) e

until_both_by : (c : Bool) (h next : Heard) (x : Result Heard ClientFault) (xs ys : List (Item Token)) → (x >>= λ n. hear_items c n xs) ≡ Ok next
    → ((h : Heard) → hear_items c h xs ≡ Ok next → heard_until c h (xs ++ ys) ≡ heard_until c next ys)
    → until_by h x (λ n. heard_until c n (xs ++ ys)) ≡ heard_until c next ys
until_both_by c h next (Ok n) xs ys e ih = ih n e
until_both_by c h next (Err fault) xs ys e ih = absurd (let u : ⊥ = cc in u)

pub until_behind : (c : Bool) (h next : Heard) (xs ys : List (Item Token)) → hear_items c h xs ≡ Ok next → heard_until c h (xs ++ ys) ≡ heard_until c next ys
until_behind c h next [] ys e = ap (λ (n : Heard). heard_until c n ys) (let same : h ≡ next = cc in same)
until_behind c h next (x ∷ xs) ys e = until_both_by c h next (hear_sign Any c h x.sign) xs ys e (λ n f. until_behind c n next xs ys f)

told_by_both : (sign : Sign) (token : Token) (a b c : List Token) → a ≡ b ++ c → told_by sign token a ≡ told_by sign token b ++ c
told_by_both signs.Nothing token a b c e = ap (λ ts. token ∷ ts) e
told_by_both (signs.Change change) token a b c e = e
told_by_both (signs.Done kind status) token a b c e = ap (λ ts. token ∷ ts) e

pub told_both : (xs ys : List (Item Token)) → items_told (xs ++ ys) ≡ items_told xs ++ items_told ys
told_both [] ys = refl
told_both (x ∷ xs) ys = told_by_both x.sign x.token (items_told (xs ++ ys)) (items_told xs) (items_told ys) (told_both xs ys)

-- ---- A part behind items that were heard

-- Nothing before a fault is told.
abbrev pub before_answer : Answer → List Token → List Token → List Token
before_answer (line.Refused why) before tokens = before ++ tokens
before_answer line.Marked before tokens = before ++ tokens
before_answer (line.Asked request descriptor) before tokens = before ++ tokens
before_answer line.Sent before tokens = before ++ tokens
before_answer line.Nothing before tokens = before ++ tokens
before_answer line.Already before tokens = before ++ tokens
before_answer (line.Unsent request) before tokens = before ++ tokens
before_answer (line.Stopped request) before tokens = before ++ tokens
before_answer line.More before tokens = before ++ tokens
before_answer (line.Finished request) before tokens = before ++ tokens
before_answer (line.Acked request) before tokens = before ++ tokens
before_answer (line.Fault fault) before tokens = tokens
before_answer line.Lost before tokens = before ++ tokens

-- Two turns that are alike, but that the first told more before.
pub record Alike (n : ℕ) (before : List Token) (t u : Turn Token) : Type 0 where
  pub line_is : t.line ≡ u.line
  pub answer_is : t.answer ≡ u.answer
  pub sent_is : t.sent ≡ u.sent
  pub told_is : tokens_in t.told ≡ before_answer u.answer before (tokens_in u.told)
  pub owner : IsTo n t.told

reads_alike : (n : ℕ) (h next until : Heard) (xs ys : List (Item Token)) (close : Close) (ends : Bool) (x : Result Heard ListenFault)
    → Alike n (items_told xs) (reads (line_at n line.Reading h) (record { items = xs ++ ys; close = close }) ends until x)
    (reads (line_at n line.Reading next) (record { items = ys; close = close }) ends until x)
reads_alike n h next until xs ys close ends (Err fault) = record { line_is = refl; answer_is = refl; sent_is = refl; told_is = refl; owner = tt }
reads_alike n h next until xs ys close false (Ok heard) = record { line_is = refl; answer_is = refl; sent_is = refl; told_is = told_both xs ys; owner = refl }
reads_alike n h next until xs ys close true (Ok heard) = record { line_is = refl; answer_is = refl; sent_is = refl; told_is = told_both xs ys; owner = refl }

skips_to_end_alike : (n : ℕ) (h next heard : Heard) (done : FinalDone)
    → Alike n [] (skips_to_end (line_at n line.Cancelling h) heard done) (skips_to_end (line_at n line.Cancelling next) heard done)
skips_to_end_alike n h next heard Awaited = record { line_is = refl; answer_is = refl; sent_is = refl; told_is = refl; owner = tt }
skips_to_end_alike n h next heard Answered = record { line_is = refl; answer_is = refl; sent_is = refl; told_is = refl; owner = tt }
skips_to_end_alike n h next heard Acknowledged = record { line_is = refl; answer_is = refl; sent_is = refl; told_is = refl; owner = tt }

skips_alike : (n : ℕ) (h next until : Heard) (ends : Bool) (x : Result Heard ListenFault)
    → Alike n [] (skips (line_at n line.Cancelling h) ends until x) (skips (line_at n line.Cancelling next) ends until x)
skips_alike n h next until ends (Err fault) = record { line_is = refl; answer_is = refl; sent_is = refl; told_is = refl; owner = tt }
skips_alike n h next until false (Ok heard) = record { line_is = refl; answer_is = refl; sent_is = refl; told_is = refl; owner = tt }
skips_alike n h next until true (Ok heard) = skips_to_end_alike n h next heard heard.done

-- A part whose first items were heard is what its rest is behind them.
pub joins : (c : Bool) (n : ℕ) (h next : Heard) (xs ys : List (Item Token)) (close : Close) → hear_items c h xs ≡ Ok next
    → Alike n (tells c xs) (line_turn (line_at n (awaiting c) h) (line.Come (record { items = xs ++ ys; close = close })))
    (line_turn (line_at n (awaiting c) next) (line.Come (record { items = ys; close = close })))
joins false n h next xs ys close e =
    let part : Part Token = record { items = xs ++ ys; close = close } in
    let u = line_turn (line_at n line.Reading next) (line.Come (record { items = ys; close = close })) in
    let heard = ap (λ (x : Result Heard ClientFault). heard_by x (λ n. close_part false close n)) (hear_behind false h next xs ys e) in
    subst (λ (k : Heard). Alike n (items_told xs) (reads (line_at n line.Reading h) part (is_end close) k (hear_part false h part)) u) (sym (until_behind false h next xs ys e))
    (subst (λ (x : Result Heard ListenFault). Alike n (items_told xs) (reads (line_at n line.Reading h) part (is_end close) (heard_until false next ys) x) u) (sym heard)
    (reads_alike n h next (heard_until false next ys) xs ys close (is_end close) (hear_part false next (record { items = ys; close = close }))))
joins true n h next xs ys close e =
    let part : Part Token = record { items = xs ++ ys; close = close } in
    let u = line_turn (line_at n line.Cancelling next) (line.Come (record { items = ys; close = close })) in
    let heard = ap (λ (x : Result Heard ClientFault). heard_by x (λ n. close_part true close n)) (hear_behind true h next xs ys e) in
    subst (λ (k : Heard). Alike n [] (skips (line_at n line.Cancelling h) (is_end close) k (hear_part true h part)) u) (sym (until_behind true h next xs ys e))
    (subst (λ (x : Result Heard ListenFault). Alike n [] (skips (line_at n line.Cancelling h) (is_end close) (heard_until true next ys) x) u) (sym heard)
    (skips_alike n h next (heard_until true next ys) (is_end close) (hear_part true next (record { items = ys; close = close }))))
