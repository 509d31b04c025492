-- Rows that are whole: a client that listens does nothing with them.
use Rattle.std.proofs.Common.{◌≡◌, ◌∙◌, ◌≤◌, ◌<◌, ℕ, ◌+◌, ◌-◌, List, [], ◌∷◌, ◌++◌, length, take, drop, take-add, refl, sym, ap, subst, arith}
use Rattle.std.proofs.lemmas.List.{drop-drop, length-append, length-drop, length-take-le, take-append-drop, take_all}
use Rattle.std.specs.Prelude.{Result, Ok}
use Rattle.tds_client.specs.declared.fault.ClientFault.{ClientFault}
use Rattle.tds_client.specs.declared.sign.Rules.TheVariants.{Any}
use Rattle.tds_client.specs.declared.sign.Sign.TheVariants as signs
use Rattle.tds_client.specs.declared.state.ClientState.TheVariants as states
use Rattle.tds_client.specs.Machine.{Listens, signed_in}
use Rattle.tds_client.specs.Session.{ClientSession, Stage, Idle, Sending, Reading as Reads, Cancelling, Broken, state_of}
use Rattle.tds_wire.specs.declared.told.Token.{Token}
use Rattle.tds_wire.specs.Reading.{Parser, Found, Sees, Inside, Refuses, next_token, then_found}
use Rattle.tds_wire.specs.Rows.{IsPassed, row_token}
use Rattle.tds_listen.specs.declared.fault.ListenFault.{ListenFault}
use Rattle.tds_listen.specs.Hearing.{Both, heard_by, heard_data, then_data}
use Rattle.tds_listen.proofs.Cuts.{cuts}
use Rattle.tds_listen.proofs.Data.{data_by, data_step, nothing_heard}
use Rattle.tds_listen.proofs.Fewer.{TakesSome, takes_any}

-- the law of `tds_wire`: two pieces do what both do as one
abbrev pub Cuts : Type 0
Cuts = (r : Parser) (first second : List ℕ) → then_found (next_token r first) second ≡ next_token r (first ++ second)

-- ---- Only a token's own bytes matter

nothing_before : (rest more : List ℕ) → rest ++ more ≡ more → rest ≡ []
nothing_before [] more e = refl
nothing_before (x ∷ xs) more e =
    let n : length (x ∷ xs) + length more ≡ length more = sym (length-append (x ∷ xs) more) ∙ ap length e in
    absurd (omega (arith, n))

token_from : Token → Found → Token
token_from other (Sees token r rest) = token
token_from other (Inside r) = other
token_from other (Refuses refusal) = other

behind_from : Parser → Found → Parser
behind_from other (Sees token r rest) = r
behind_from other (Inside r) = other
behind_from other (Refuses refusal) = other

rest_from : Found → List ℕ
rest_from (Sees token r rest) = rest
rest_from (Inside r) = []
rest_from (Refuses refusal) = []

own_bytes : (found : Found) (token : Token) (s : Parser) (more : List ℕ) → then_found found more ≡ Sees token s more → found ≡ Sees token s []
unfolding token_from behind_from rest_from
own_bytes (Sees t r rest) token s more e =
    let a : t ≡ token = ap (token_from token) e in
    let b : r ≡ s = ap (behind_from s) e in
    let c : rest ≡ [] = nothing_before rest more (ap rest_from e) in
    cc
own_bytes (Inside r) token s more e =
    let h : TakesSome (length more) (Sees token s more) = subst (TakesSome (length more)) e (takes_any r more) in
    absurd (omega (arith, h))
own_bytes (Refuses refusal) token s more e = absurd cc

seen_alone : Cuts → (r s : Parser) (n : ℕ) (token : Token) (bytes : List ℕ) → next_token r bytes ≡ Sees token s (drop n bytes) → next_token r (take n bytes) ≡ Sees token s []
seen_alone cut r s n token bytes e =
    own_bytes (next_token r (take n bytes)) token s (drop n bytes) (cut r (take n bytes) (drop n bytes) ∙ (ap (next_token r) (take-append-drop n bytes) ∙ e))

-- ---- What says nothing

unmoved_in : (st : Stage) (s : ClientSession) → Listens st → signed_in Any st s signs.Nothing ≡ Ok s
unmoved_in Idle s h = absurd h
unmoved_in (Sending kind left packets) s h = absurd h
unmoved_in Reads s h = refl
unmoved_in Cancelling s h = refl
unmoved_in (Broken fault) s h = absurd h

found_data : (s : ClientSession) (r : Parser) (bytes : List ℕ) → 0 < length bytes → heard_data s r bytes ≡ data_by s (next_token r bytes)
found_data s r [] some = absurd (omega (arith, some))
found_data s r (x ∷ xs) some = data_step s r x xs

-- where an answer is awaited
pub reads_on : (st : Stage) → state_of st ≡ states.Reading → Listens st
reads_on Idle e = absurd cc
reads_on (Sending kind left packets) e = absurd cc
reads_on Reads e = tt
reads_on Cancelling e = absurd cc
reads_on (Broken fault) e = absurd cc

pub skips_on : (st : Stage) → state_of st ≡ states.Cancelling → Listens st
skips_on Idle e = absurd cc
skips_on (Sending kind left packets) e = absurd cc
skips_on Reads e = absurd cc
skips_on Cancelling e = tt
skips_on (Broken fault) e = absurd cc

-- one row
row_heard : Cuts → (s : ClientSession) (r after : Parser) (n : ℕ) (bytes : List ℕ) → Listens s.stage → IsPassed n r after bytes → 0 < n → n ≤ length bytes
    → heard_data s r (take n bytes) ≡ Ok (record { session = s; reading = after })
row_heard cut s r after n bytes listens passed some few =
    let l : length (take n bytes) ≡ n = length-take-le n bytes few in
    found_data s r (take n bytes) (omega (arith, l, some))
    ∙ (ap (data_by s) (seen_alone cut r after n (row_token n r) bytes passed)
    ∙ (ap (λ (x : Result ClientSession ClientFault). heard_by x (λ next. heard_data next after [])) (unmoved_in s.stage s listens)
    ∙ nothing_heard s after))

-- and one more
pub rows_heard : Cuts → (s : ClientSession) (r mid after : Parser) (done n : ℕ) (bytes : List ℕ) → Listens s.stage
    → heard_data s r (take done bytes) ≡ Ok (record { session = s; reading = mid }) → IsPassed n mid after (drop done bytes) → 0 < n → n ≤ length (drop done bytes)
    → heard_data s r (take (done + n) bytes) ≡ Ok (record { session = s; reading = after })
rows_heard cut s r mid after done n bytes listens before passed some few =
    ap (heard_data s r) (take-add done n bytes)
    ∙ (cuts cut s r (take done bytes) (take n (drop done bytes))
    ∙ (ap (λ (x : Result Both ListenFault). then_data x (take n (drop done bytes))) before ∙ row_heard cut s mid after n (drop done bytes) listens passed some few))

-- what is left behind them
goes_on_behind : Cuts → (s : ClientSession) (r after : Parser) (n : ℕ) (bytes : List ℕ)
    → heard_data s r (take n bytes) ≡ Ok (record { session = s; reading = after }) → heard_data s r bytes ≡ heard_data s after (drop n bytes)
goes_on_behind cut s r after n bytes heard =
    ap (heard_data s r) (sym (take-append-drop n bytes)) ∙ (cuts cut s r (take n bytes) (drop n bytes) ∙ ap (λ (x : Result Both ListenFault). then_data x (drop n bytes)) heard)

-- the same of what is left of all
pub rows_behind : Cuts → (s : ClientSession) (r after : Parser) (n done : ℕ) (all : List ℕ)
    → heard_data s r (take n (take (length all - done) (drop done all))) ≡ Ok (record { session = s; reading = after })
    → heard_data s r (drop done all) ≡ heard_data s after (drop (done + n) all)
rows_behind cut s r after n done all heard =
    let l : length (drop done all) ≡ length all - done = length-drop done all in
    let p : take (length all - done) (drop done all) ≡ drop done all = take_all (length all - done) (drop done all) (omega (arith, l)) in
    goes_on_behind cut s r after n (drop done all) (ap (λ (xs : List ℕ). heard_data s r (take n xs)) (sym p) ∙ heard)
    ∙ ap (heard_data s after) (drop-drop n done all)
