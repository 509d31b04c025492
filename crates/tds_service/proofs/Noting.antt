-- Tokens that are heard one behind the other, of which a caller notes all, or none.
use Rattle.std.proofs.Common.{◌≡◌, ◌∙◌, ◌+◌, ◌-◌, ◌≤◌, ◌<◌, ℕ, zero, suc, Bool, true, false, List, [], ◌∷◌, ◌++◌, length, take, drop, refl, sym, ap, subst, arith, append_assoc}
use Rattle.std.proofs.lemmas.List.{append-nil}
use Rattle.std.specs.Prelude.{Option, Some, None, Result, Ok, Err, MatchResult, IfOk, IfErr}
use Rattle.tds_wire.specs.declared.told.Token.{Token}
use Rattle.tds_wire.specs.Reading.{Parser, next_token}
use Rattle.tds_wire.specs.Rows.{IsPassed, row_token}
use Rattle.tds_client.specs.declared.sign.Rules.TheVariants.{Any}
use Rattle.tds_client.specs.declared.sign.Sign.{Sign}
use Rattle.tds_client.specs.declared.sign.Sign.TheVariants as signs
use Rattle.tds_client.specs.declared.fault.ClientFault.{ClientFault}
use Rattle.tds_client.specs.Machine as machine
use Rattle.tds_client.specs.Machine.{signed, signed_in}
use Rattle.tds_client.specs.Session as session
use Rattle.tds_client.specs.Session.{ClientSession}
use Rattle.tds_client.specs.Taking.{broken_by}
use Rattle.tds_listen.specs.declared.fault.ListenFault.{ListenFault}
use Rattle.tds_listen.specs.declared.fault.ListenFault.TheVariants as faults
use Rattle.tds_listen.specs.Faults.{broken_at}
use Rattle.tds_listen.specs.Hearing.{Move, heard_by, moved_by, next_heard, told_if}
use Rattle.tds_listen.specs.Signs.{sign_of}
use Rattle.tds_service.specs.Parts.{Part, items_told}
use Rattle.tds_service.specs.Line as line
use Rattle.tds_service.specs.Line.{Line, Answer}
use Rattle.tds_service.specs.Packets.{HeardSome, awaiting, noted}
use Rattle.tds_service.specs.Service.{Service}
use Rattle.tds_service.specs.Table.{Comes}
use Rattle.tds_service.specs.Ties.{Hears, Stands, items_of, line_of, part_of, stage_of}
use Rattle.tds_service.proofs.Coming.{came_ok, came_fault, stands}
use Rattle.tds_service.proofs.Packeting.{fits_at}
use Rattle.tds_service.proofs.Sizing.{broken_keeps, next_keeps}

-- ---- One token, where it is known that one is awaited

awaited_in : (s : ClientSession) (k : session.Stage) (c : Bool) → stage_of k ≡ awaiting c → signed_in Any k s signs.Nothing ≡ Ok s
awaited_in s session.Idle true e = absurd (let u : ⊥ = cc in u)
awaited_in s session.Idle false e = absurd (let u : ⊥ = cc in u)
awaited_in s (session.Sending kind left packets) true e = absurd (let u : ⊥ = cc in u)
awaited_in s (session.Sending kind left packets) false e = absurd (let u : ⊥ = cc in u)
awaited_in s session.Reading c e = refl
awaited_in s session.Cancelling c e = refl
awaited_in s (session.Broken fault) true e = absurd (let u : ⊥ = cc in u)
awaited_in s (session.Broken fault) false e = absurd (let u : ⊥ = cc in u)

module _ (n : ℕ) (s next : ClientSession) (r reading : Parser) (piece : List ℕ) (token : Option Token) where
  abbrev pub Exact : Result ℕ ListenFault → Type 0
  Exact result =
      MatchResult result (λ count. next_heard s r piece ≡ Ok (record { told = token; session = next; reading = reading; rest = drop count piece })) (λ fault. next_heard s r piece ≡ Err fault)

  pub next_ok : (c : Bool) → stage_of s.stage ≡ awaiting c → (result : Result ℕ ListenFault) → Exact result
      → IfOk result (λ _. Hears (part_of (next_token r piece)) (line_of n s) (line_of n next) line.More (items_told (items_of token)))
  next_ok c e (Ok count) h = came_ok n s s next r reading piece (drop count piece) token _ (awaited_in s s.stage c e) h refl
  next_ok c e (Err fault) h = tt

  pub next_fault : (c : Bool) → stage_of s.stage ≡ awaiting c → (result : Result ℕ ListenFault) → Exact result → IfErr result (λ fault. next ≡ broken_at s fault)
      → IfErr result (λ fault. Hears (part_of (next_token r piece)) (line_of n s) (line_of n next) (line.Fault fault) [])
  next_fault c e (Ok count) h is = tt
  next_fault c e (Err fault) h is = came_fault n s s next r piece fault (awaited_in s s.stage c e) h is

  pub next_stands : (result : Result ℕ ListenFault) → Exact result → IfOk result (λ count. Stands (next_token r piece) reading (drop count piece))
  next_stands (Ok count) h = stands s next r reading piece (drop count piece) token h
  next_stands (Err fault) h = tt

  pub next_sized : (result : Result ℕ ListenFault) → Exact result → IfErr result (λ fault. next ≡ broken_at s fault) → next.size ≡ s.size
  next_sized (Ok count) h is = next_keeps s next r reading piece (drop count piece) token h
  next_sized (Err fault) h is = ap (λ (x : ClientSession). x.size) is ∙ broken_keeps s fault

  -- the same of a token that stands whole, or of nothing
  abbrev pub WholeExact : Result ℕ ClientFault → Type 0
  WholeExact result =
      MatchResult result (λ count. 0 < count → next_heard s r piece ≡ Ok (record { told = token; session = next; reading = reading; rest = drop count piece })) (λ fault. next_heard s r piece ≡ Err (faults.Client fault))

  pub whole_ok : (c : Bool) → stage_of s.stage ≡ awaiting c → (result : Result ℕ ClientFault) → WholeExact result
      → IfOk result (λ count. 0 < count → Hears (part_of (next_token r piece)) (line_of n s) (line_of n next) line.More (items_told (items_of token)))
  whole_ok c e (Ok count) h = λ some. next_ok c e (Ok count) (h some)
  whole_ok c e (Err fault) h = tt

  pub whole_fault : (c : Bool) → stage_of s.stage ≡ awaiting c → (result : Result ℕ ClientFault) → WholeExact result → IfErr result (λ fault. next ≡ broken_by s fault)
      → IfErr result (λ fault. Hears (part_of (next_token r piece)) (line_of n s) (line_of n next) (line.Fault (faults.Client fault)) [])
  whole_fault c e (Ok count) h is = tt
  whole_fault c e (Err fault) h is = next_fault c e (Err (faults.Client fault)) h is

  pub whole_stands : (result : Result ℕ ClientFault) → WholeExact result → IfOk result (λ count. 0 < count → Stands (next_token r piece) reading (drop count piece))
  whole_stands (Ok count) h = λ some. next_stands (Ok count) (h some)
  whole_stands (Err fault) h = tt

  pub whole_sized : (result : Result ℕ ClientFault) → WholeExact result → IfOk result (λ count. count ≡ 0 → (next ≡ s) × (reading ≡ r))
      → IfErr result (λ fault. next ≡ broken_by s fault) → next.size ≡ s.size
  whole_sized (Ok zero) h same is = ap (λ (x : ClientSession). x.size) (same refl).0
  whole_sized (Ok (suc count)) h same is = next_sized (Ok (suc count)) (h (omega arith)) tt
  whole_sized (Err fault) h same is = ap (λ (x : ClientSession). x.size) is ∙ broken_keeps s (faults.Client fault)

-- ---- A row, of which a client that awaits something hears nothing

module _ (n : ℕ) (s : ClientSession) (r after : Parser) (piece : List ℕ) (k : ℕ) (c : Bool) (e : stage_of s.stage ≡ awaiting c) (passed : IsPassed k r after piece) where
  abbrev row : Option Token
  row = told_if (machine.tells s.stage) (row_token k r)

  row_heard : next_heard s r piece ≡ Ok (record { told = row; session = s; reading = after; rest = drop k piece })
  row_heard =
      ap (moved_by s) passed
      ∙ ap (λ (x : Result ClientSession ClientFault). heard_by x (λ next. Ok (let m : Move = record { told = row; session = next; reading = after; rest = drop k piece } in m)))
      (awaited_in s s.stage c e)

  pub row_ok : (tokens : List Token) × Hears (part_of (next_token r piece)) (line_of n s) (line_of n s) line.More tokens
  row_ok = (items_told (items_of row), next_ok n s s r after piece row c e (Ok k) row_heard)

  pub row_stands : Stands (next_token r piece) after (drop k piece)
  row_stands = next_stands n s s r after piece row (Ok k) row_heard

-- ---- What is noted

pub noted_both : (tells : Bool) (xs ys : List Token) → noted tells (xs ++ ys) ≡ noted tells xs ++ noted tells ys
noted_both true xs ys = refl
noted_both false xs ys = refl

-- some tokens, and then more
pub noted_more : (tells : Bool) (before after more xs : List Token) → after ≡ before ++ noted tells xs → after ++ noted tells more ≡ before ++ noted tells (xs ++ more)
noted_more tells before after more xs e =
    ap (λ (ts : List Token). ts ++ noted tells more) e ∙ (append_assoc before (noted tells xs) (noted tells more) ∙ ap (λ (ts : List Token). before ++ ts) (sym (noted_both tells xs more)))

-- at first none
pub none_noted : (tells : Bool) (before : List Token) → before ≡ before ++ noted tells []
none_noted true before = sym (append-nil before)
none_noted false before = sym (append-nil before)

told_one : (token : Option Token) → length (items_told (items_of token)) ≤ 1
told_one None = omega arith
told_one (Some token) = by_sign (sign_of token) token
  where
    by_sign : (s : Sign) (token : Token) → length (items_told (record { sign = s; token = token } ∷ [])) ≤ 1
    by_sign signs.Nothing token = omega arith
    by_sign (signs.Change change) token = omega arith
    by_sign (signs.Done kind status) token = omega arith

-- there is room for what is noted of one token, where there was for as many as bytes are left
module _ (c : Bool) (l k new : Line) (r reading : Parser) (bytes : List ℕ) (before after : List Token) (done : ℕ) (more : done < length bytes)
    (some : HeardSome c l r bytes k reading (drop done bytes) before after) where
  pub noted_fits : (tells : Bool) (token : Option Token) (found : List Token) (len cap : ℕ)
      → Hears (part_of (next_token reading (take (length bytes - done) (drop done bytes)))) k new line.More found
      → noted tells (items_told (items_of token)) ≡ noted tells found → len ≤ cap
      → (tells ≡ true → l.stage ≡ line.Reading → len + (length bytes - done) ≤ cap) → len + length (noted tells (items_told (items_of token))) ≤ cap
  noted_fits true token found len cap h same under room =
      fits_at c l k new r reading bytes before after done more some (items_told (items_of token)) len cap (told_one token)
      (subst (λ (ts : List Token). Hears (part_of (next_token reading (take (length bytes - done) (drop done bytes)))) k new line.More ts) (sym same) h) under (room refl)
  noted_fits false token found len cap h same under room = omega (arith, under)

pub noted_still_fits : (tells : Bool) (token : Option Token) (len cap rest count : ℕ) → len + rest ≤ cap → 0 < count → count ≤ rest
    → len + length (noted tells (items_told (items_of token))) + (rest - count) ≤ cap
noted_still_fits true token len cap rest count fit some within = let short = told_one token in omega (arith, short, fit, some, within)
noted_still_fits false token len cap rest count fit some within = omega (arith, fit, some, within)

-- ---- Who notes what came

pub noted_comes : (s new : Service) (number : ℕ) (part : Part Token) (lease : Option ℕ) (request : ℕ) (answer : Answer) (tokens before after : List Token)
    → Comes s new number part lease request answer [] tokens → after ≡ before ++ tokens → Comes s new number part lease request answer before after
noted_comes s new number part lease request answer tokens before after c e =
    record { steps = c.steps; answers = c.answers; told = e ∙ ap (λ (ts : List Token). before ++ ts) c.told; owner = c.owner; holder = c.holder }
