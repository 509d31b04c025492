-- Each spelling of the strict profile is passed as one token.
use Rattle.std.proofs.Common.{◌≡◌, ◌∙◌, ◌≤◌, ◌<◌, ◌^◌, ℕ, zero, suc, ℤ, ◌+◌, ◌-◌, ◌*◌, ◌%◌, ◌==◌, nat_lt, Bool, true, false, List, [], ◌∷◌, ◌++◌, length, take, Option, Some, refl, sym, ap, subst, append_assoc, append-nil, arith, rules}
use Rattle.std.proofs.lemmas.Bool.{le-ltb}
use Rattle.std.specs.Prelude.{if◌then◌else◌}
use Rattle.std.specs.Int.{w16, to_le_bytes, from_le_bytes}
use Rattle.std.specs.List.{flat_map}
use Rattle.std.proofs.lemmas.List.{length-append}
use Rattle.std.proofs.lemmas.Nat.{from_le_bytes-to_le_bytes_2}
use Rattle.std.proofs.Math.Seq.{take-append_seam}
use Rattle.tds_token.specs.declared.columns.Column.{Column}
use Rattle.tds_token.specs.declared.message.Message.{Message}
use Rattle.tds_token.specs.declared.env_change.EnvChange.{EnvChange}
use Rattle.tds_token.specs.declared.env_change.EnvChange.TheVariants.{Begin, Commit, Rollback, ResetDone}
use Rattle.tds_token.specs.declared.token.Token.{Token}
use Rattle.tds_token.specs.declared.token.Token.TheVariants as tokens
use Rattle.tds_token.specs.Layout.{Fits, FitsMessage, IsToken, Ranged, RangedEnv, Under, column_bytes, columns_after, int_bytes, message_inside, sized, spelling}
use Rattle.tds_token.specs.Texts.{units_bytes}
use Rattle.tds_client.specs.Signs as strict
use Rattle.tds_client.specs.declared.sign.DoneKind.TheVariants.{Statement}
use Rattle.tds_client.specs.declared.sign.Sign.TheVariants as signs
use Rattle.tds_wire.specs.declared.features.Features.{Features}
use Rattle.tds_wire.specs.declared.shape.Shape.{Shape}
use Rattle.tds_wire.specs.declared.shape.Shape.TheVariants as shape
use Rattle.tds_wire.specs.declared.told.Message.{Message as Told_message}
use Rattle.tds_wire.specs.declared.told.Told.TheVariants as told
use Rattle.tds_wire.specs.Bytes.{seen_of}
use Rattle.tds_wire.specs.Types.{type_of}
use Rattle.tds_wire.specs.Layout.{Read, Got, Seen, ◌>>=◌, column_list, columns_at, counted, info_at, run, token_at, token_behind, two, value, values}
use Rattle.tds_wire.specs.Reading.{IsReady, Parser, Ends, Passed, front_of, kept, laid_by, laid_out, next_token, outcome_of, token_with}
use Rattle.tds_wire.specs.Told.{added, told_of, short_at}
use Rattle.tds_listen.specs.Agreeing.{IsPassed, IsSameToken, Knows, int4s, kind_of}
use Rattle.tds_listen.specs.Signs.{done_kind, sign_by, unclear_sign}
use Rattle.tds_listen.proofs.Same.{same}

-- ---- Fields

two_is : (n : ℕ) (more : List ℕ) → n < 2 ^ 16 → two (to_le_bytes w16 n ++ more) ≡ Got n more
two_is n more few =
    let e : from_le_bytes w16 (to_le_bytes w16 n) ≡ n = from_le_bytes-to_le_bytes_2 n few in
    ap (λ (k : ℕ). Got k more) (omega (arith, e))

run_all : (front more : List ℕ) → run (length front) (front ++ more) ≡ Got tt more
unfolding run
run_all [] more = refl
run_all (b ∷ front) more = run_all front more

units_length : (units : List ℕ) → length (units_bytes units) ≡ 2 * length units
units_length [] = refl
units_length (u ∷ units) = let r = units_length units in omega (arith, r)

-- ---- Tokens with a length

message_length : (m : Message) → length (message_inside m) ≡ 14 + 2 * (length m.text + length m.server + length m.procedure)
message_length m =
    let a = units_length m.text in
    let b = units_length m.server in
    let c = units_length m.procedure in
    omega (arith, a, b, c, length-append (units_bytes m.text) ((length m.server ∷ units_bytes m.server) ++ ((length m.procedure ∷ units_bytes m.procedure) ++ int_bytes m.line)), length-append (units_bytes m.server) ((length m.procedure ∷ units_bytes m.procedure) ++ int_bytes m.line), length-append (units_bytes m.procedure) (int_bytes m.line))

pub counted_all : (s : Seen) (inside more : List ℕ) → length inside < 2 ^ 16 → counted s (sized inside ++ more) ≡ Got s more
counted_all s inside more few =
    ap (λ (r : Read ℕ). r >>= λ n rest. run n rest >>= λ u others. Got s others) (two_is (length inside) (inside ++ more) few)
    ∙ ap (λ (r : Read (Unit {0})). r >>= λ u others. Got s others) (run_all inside more)

-- ---- Columns

abbrev without_encryption : Bool → Features
without_encryption ranks = record { encryption = false; ranks = ranks }

one_column : (ranks : Bool) (known : List Shape) (n : ℕ) (c : Column) (more : List ℕ)
    → columns_at (without_encryption ranks) (suc n) known (column_bytes c ++ more) ≡ columns_at (without_encryption ranks) n (known ++ shape.Fixed 4 ∷ []) more
unfolding columns_at info_at type_of run
one_column ranks known n c more =
    let e : run (2 * length c.name) (units_bytes c.name ++ more) ≡ Got tt more = ap (λ (k : ℕ). run k (units_bytes c.name ++ more)) (sym (units_length c.name)) ∙ run_all (units_bytes c.name) more in
    ap (λ (r : Read (Unit {0})). r >>= λ y f. columns_at (without_encryption ranks) n (known ++ shape.Fixed 4 ∷ []) f) e

more_columns : (known : List Shape) (n : ℕ) → (known ++ shape.Fixed 4 ∷ []) ++ int4s n ≡ known ++ int4s (suc n)
unfolding int4s
more_columns known n = append_assoc known (shape.Fixed 4 ∷ []) (int4s n)

nothing_more : (known : List Shape) → known ++ int4s 0 ≡ known
unfolding int4s
nothing_more known = append-nil known

all_columns : (ranks : Bool) (known : List Shape) (cs : List Column) (more : List ℕ)
    → columns_at (without_encryption ranks) (length cs) known (flat_map column_bytes cs ++ more) ≡ Got (known ++ int4s (length cs)) more
unfolding columns_at
all_columns ranks known [] more = ap (λ (all : List Shape). Got all more) (sym (nothing_more known))
all_columns ranks known (c ∷ cs) more =
    ap (columns_at (without_encryption ranks) (suc (length cs)) known) (append_assoc (column_bytes c) (flat_map column_bytes cs) more)
    ∙ (one_column ranks known (length cs) c (flat_map column_bytes cs ++ more)
    ∙ (all_columns ranks (known ++ shape.Fixed 4 ∷ []) cs more
    ∙ ap (λ (all : List Shape). Got all more) (more_columns known (length cs))))

-- ---- Rows

all_values : (vs : List ℤ) (i : ℕ) (more : List ℕ) → values false [] i (int4s (length vs)) (flat_map int_bytes vs ++ more) ≡ Got tt more
unfolding values int4s value run
all_values [] i more = refl
all_values (v ∷ vs) i more =
    ap (values false [] i (int4s (suc (length vs)))) (append_assoc (int_bytes v) (flat_map int_bytes vs) more) ∙ all_values vs (i + 1) more

-- ---- Their tokens

few_is : (n : ℕ) → n ≤ 16 → n % 65536 ≡ n
few_is n few = omega (arith, few)

list_passes : (most : ℕ) (ranks : Bool) (s : Seen) (cs : List Column) (rest : List ℕ) → 16 ≤ most → length cs ≤ 16
    → column_list most (without_encryption ranks) s (length cs) (flat_map column_bytes cs ++ rest) ≡ Got (record { kind = s.kind; columns = int4s (length cs) }) rest
unfolding column_list
list_passes most ranks s cs rest room few =
    let a : (length cs == 65535) ≡ false = search rules in
    let b : nat_lt most (length cs) ≡ false = le-ltb most (length cs) (omega (arith, room, few)) in
    rw a (rw b (ap (λ (r : Read (List Shape)). r >>= λ columns more. Got (record { kind = s.kind; columns = columns }) more) (all_columns ranks [] cs rest)))

columns_pass : (most : ℕ) (ranks : Bool) (s : Seen) (cs : List Column) (rest : List ℕ) → 16 ≤ most → length cs ≤ 16
    → token_at most (without_encryption ranks) s (spelling (tokens.Columns cs) ++ rest) ≡ Got (record { kind = 0x81; columns = int4s (length cs) }) rest
unfolding token_at token_behind
columns_pass most ranks s cs rest room few =
    ap (λ (r : Read ℕ). r >>= λ n more. column_list most (without_encryption ranks) (record s { kind = 0x81 }) (n % 65536) more) (two_is (length cs) (flat_map column_bytes cs ++ rest) (omega (arith, few)))
    ∙ (ap (λ (n : ℕ). column_list most (without_encryption ranks) (record s { kind = 0x81 }) n (flat_map column_bytes cs ++ rest)) (few_is (length cs) few)
    ∙ list_passes most ranks (record s { kind = 0x81 }) cs rest room few)

int4s_length : (n : ℕ) → length (int4s n) ≡ n
unfolding int4s
int4s_length zero = refl
int4s_length (suc n) = let r = int4s_length n in omega (arith, r)

row_passes : (most : ℕ) (features : Features) (kind : ℕ) (vs : List ℤ) (rest : List ℕ) → 1 ≤ length vs
    → token_at most features (record { kind = kind; columns = int4s (length vs) }) (spelling (tokens.Row vs) ++ rest) ≡ Got (record { kind = 0xD1; columns = int4s (length vs) }) rest
unfolding token_at token_behind
row_passes most features kind vs rest some =
    let e : (length (int4s (length vs)) == 0) ≡ false = rw (int4s_length (length vs)) (search rules) in
    rw e (ap (λ (r : Read (Unit {0})). r >>= λ u more. Got (record { kind = 0xD1; columns = int4s (length vs) }) more) (all_values vs 0 rest))

-- ---- The columns that are known behind a token

abbrev columns_behind : Token → List Shape → List Shape
columns_behind (tokens.Info m) known = known
columns_behind (tokens.Error m) known = known
columns_behind (tokens.ReturnStatus v) known = known
columns_behind (tokens.Columns cs) known = int4s (length cs)
columns_behind (tokens.Row vs) known = known
columns_behind (tokens.Env e) known = known
columns_behind (tokens.Done status cur_cmd rows) known = known

known_behind : (columns : Option ℕ) (token : Token) (known : List Shape) → Knows columns known → Knows (columns_after columns token) (columns_behind token known)
known_behind columns (tokens.Info m) known k = k
known_behind columns (tokens.Error m) known k = k
known_behind columns (tokens.ReturnStatus v) known k = k
known_behind columns (tokens.Columns cs) known k = refl
known_behind columns (tokens.Row vs) known k = k
known_behind columns (tokens.Env e) known k = k
known_behind columns (tokens.Done status cur_cmd rows) known k = tt

-- ---- Tokens

abbrev seen_behind : Seen → Token → Seen
seen_behind s token = record { kind = kind_of token; columns = columns_behind token s.columns }

module _ (most : ℕ) (features : Features) (s : Seen) (rest : List ℕ) where
  abbrev Passes : Token → Type 0
  Passes token = token_at most features s (spelling token ++ rest) ≡ Got (seen_behind s token) rest

  info_passes : (m : Message) → FitsMessage m → Passes (tokens.Info m)
  unfolding token_at token_behind
  info_passes m fits = counted_all (record s { kind = 0xAB }) (message_inside m) rest (omega (arith, message_length m, fits.whole))

  error_passes : (m : Message) → FitsMessage m → Passes (tokens.Error m)
  unfolding token_at token_behind
  error_passes m fits = counted_all (record s { kind = 0xAA }) (message_inside m) rest (omega (arith, message_length m, fits.whole))

  status_passes : (v : ℤ) → Passes (tokens.ReturnStatus v)
  unfolding token_at token_behind run
  status_passes v = refl

  done_passes : (status cur_cmd rows : ℕ) → Passes (tokens.Done status cur_cmd rows)
  unfolding token_at token_behind run
  done_passes status cur_cmd rows = refl

  begin_passes : (d : ℕ) → Passes (tokens.Env (Begin d))
  unfolding token_at token_behind run
  begin_passes d = refl

  commit_passes : (d : ℕ) → Passes (tokens.Env (Commit d))
  unfolding token_at token_behind run
  commit_passes d = refl

  rollback_passes : (d : ℕ) → Passes (tokens.Env (Rollback d))
  unfolding token_at token_behind run
  rollback_passes d = refl

  reset_passes : Passes (tokens.Env ResetDone)
  unfolding token_at token_behind run
  reset_passes = refl

module _ (most : ℕ) (ranks : Bool) (s : Seen) (rest : List ℕ) where
  env_passes : (e : EnvChange) → Passes most (without_encryption ranks) s rest (tokens.Env e)
  env_passes (Begin d) = begin_passes most (without_encryption ranks) s rest d
  env_passes (Commit d) = commit_passes most (without_encryption ranks) s rest d
  env_passes (Rollback d) = rollback_passes most (without_encryption ranks) s rest d
  env_passes ResetDone = reset_passes most (without_encryption ranks) s rest

  row_by : (columns : Option ℕ) (vs : List ℤ) → 1 ≤ length vs → Knows columns s.columns → columns ≡ Some (length vs) → Passes most (without_encryption ranks) s rest (tokens.Row vs)
  row_by columns vs some known under =
      let k : s.columns ≡ int4s (length vs) = subst (λ (c : Option ℕ). Knows c s.columns) under known in
      subst (λ (known : List Shape). token_at most (without_encryption ranks) (record { kind = s.kind; columns = known }) (spelling (tokens.Row vs) ++ rest) ≡ Got (record { kind = 0xD1; columns = known }) rest) (sym k)
      (row_passes most (without_encryption ranks) s.kind vs rest some)

  token_passes : (columns : Option ℕ) (token : Token) → 16 ≤ most → Knows columns s.columns → Fits token → Under columns token → Passes most (without_encryption ranks) s rest token
  token_passes columns (tokens.Info m) room known fits under = info_passes most (without_encryption ranks) s rest m fits
  token_passes columns (tokens.Error m) room known fits under = error_passes most (without_encryption ranks) s rest m fits
  token_passes columns (tokens.ReturnStatus v) room known fits under = status_passes most (without_encryption ranks) s rest v
  token_passes columns (tokens.Columns cs) room known fits under = columns_pass most ranks s cs rest room fits.1
  token_passes columns (tokens.Row vs) room known fits under = row_by columns vs fits.0 known under
  token_passes columns (tokens.Env e) room known fits under = env_passes e
  token_passes columns (tokens.Done status cur_cmd rows) room known fits under = done_passes most (without_encryption ranks) s rest status cur_cmd rows

-- ---- Signs

quiet_message : (kind : ℕ) (b : Bool) (m : Told_message) → (kind == 0xE3) ≡ false → sign_by kind (if b then told.Unclear else told.Message m) ≡ signs.Nothing
unfolding unclear_sign
quiet_message kind true m e = rw e refl
quiet_message kind false m e = refl

abbrev SameSign : ℕ → Token → Type 0
SameSign start token = sign_by (kind_of token) (told_of (kind_of token) start (added 0 (length (spelling token))) (take 24 (spelling token))) ≡ strict.sign_of token

same_change : (start : ℕ) (e : EnvChange) → RangedEnv e → SameSign start (tokens.Env e)
same_change start (Begin d) ranged = same (Begin d) start ranged
same_change start (Commit d) ranged = same (Commit d) start ranged
same_change start (Rollback d) ranged = same (Rollback d) start ranged
same_change start ResetDone ranged = same ResetDone start ranged

status_is : (status : ℕ) → status < 2 ^ 16 → from_le_bytes w16 (to_le_bytes w16 status) ≡ status
status_is status few = from_le_bytes-to_le_bytes_2 status few

same_sign : (start : ℕ) (token : Token) → Ranged token → SameSign start token
unfolding told_of short_at done_kind
same_sign start (tokens.Info m) ranged = quiet_message 0xAB _ _ refl
same_sign start (tokens.Error m) ranged = quiet_message 0xAA _ _ refl
same_sign start (tokens.ReturnStatus v) ranged = refl
same_sign start (tokens.Columns cs) ranged = refl
same_sign start (tokens.Row vs) ranged = refl
same_sign start (tokens.Env e) ranged = same_change start e ranged
same_sign start (tokens.Done status cur_cmd rows) ranged = ap (λ (n : ℕ). signs.Done Statement n) (status_is status ranged.0)

-- ---- The parser

front_is : (bytes rest : List ℕ) → front_of (bytes ++ rest) rest ≡ bytes
front_is bytes rest =
    let n = length-append bytes rest in
    let e : length (bytes ++ rest) - length rest ≡ length bytes = omega (arith, n) in
    ap (λ (k : ℕ). take k (bytes ++ rest)) e ∙ take-append_seam bytes rest

module _ (r : Parser) (columns : Option ℕ) (token : Token) (rest : List ℕ) (ready : IsReady r) where
  abbrev the_passed : Passed
  the_passed = record { token = token_with r (kind_of token) (spelling token); columns = columns_behind token r.walk.columns }

  seen_so : r.walk.features.encryption ≡ false → 16 ≤ r.walk.most → Knows columns r.walk.columns → Fits token → Under columns token
      → token_at r.walk.most r.walk.features (seen_of r.walk) (spelling token ++ rest) ≡ Got (seen_behind (seen_of r.walk) token) rest
  seen_so plain room known fits under =
      ap (λ (b : Bool). token_at r.walk.most (record { encryption = b; ranks = r.walk.features.ranks }) (seen_of r.walk) (spelling token ++ rest)) plain
      ∙ token_passes r.walk.most r.walk.features.ranks (seen_of r.walk) rest columns token room known fits under

  laid_so : r.walk.features.encryption ≡ false → 16 ≤ r.walk.most → Knows columns r.walk.columns → Fits token → Under columns token
      → laid_out r (spelling token ++ rest) ≡ Ends the_passed rest
  laid_so plain room known fits under =
      ap (laid_by r (spelling token ++ rest)) (seen_so plain room known fits under)
      ∙ ap (λ (front : List ℕ). Ends (record { token = token_with r (kind_of token) front; columns = columns_behind token r.walk.columns }) rest) (front_is (spelling token) rest)

  is_same : Knows columns r.walk.columns → Ranged token → IsSameToken r token (spelling token) (columns_after columns token) the_passed
  is_same known ranged = record {
    kind = refl;
    start = refl;
    length = ap (λ (n : ℕ). added n (length (spelling token))) ready.passed;
    sign =
        ap (λ (n : ℕ). sign_by (kind_of token) (told_of (kind_of token) r.start (added n (length (spelling token))) (kept r.head (spelling token)))) ready.passed
        ∙ (ap (λ (head : List ℕ). sign_by (kind_of token) (told_of (kind_of token) r.start (added 0 (length (spelling token))) (kept head (spelling token)))) ready.head
        ∙ same_sign r.start token ranged);
    columns = known_behind columns token r.walk.columns known;
  }

pub agree : ((r : Parser) (piece : List ℕ) → IsReady r → outcome_of (next_token r piece) ≡ laid_out r piece)
    → (r : Parser) (columns after : Option ℕ) (token : Token) (bytes rest : List ℕ) → IsReady r → r.walk.features.encryption ≡ false → 16 ≤ r.walk.most
    → Knows columns r.walk.columns → IsToken columns token bytes after → IsPassed r token bytes rest after (outcome_of (next_token r (bytes ++ rest)))
agree passed r columns after token bytes rest ready plain room known is =
    let all : IsPassed r token (spelling token) rest (columns_after columns token) (outcome_of (next_token r (spelling token ++ rest))) =
    (the_passed r columns token rest ready, passed r (spelling token ++ rest) ready ∙ laid_so r columns token rest ready plain room known is.fits is.under, is_same r columns token rest ready known is.ranged) in
    subst (λ (x : List ℕ). IsPassed r token x rest after (outcome_of (next_token r (x ++ rest)))) (sym is.spelled)
    (subst (λ (x : Option ℕ). IsPassed r token (spelling token) rest x (outcome_of (next_token r (spelling token ++ rest)))) (sym is.after_is) all)
