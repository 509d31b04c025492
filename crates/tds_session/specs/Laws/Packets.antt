-- Each statement's tokens fit into a packet.
use Rattle.std.proofs.Common.{◌≡◌, ◌≤◌, ◌<◌, ◌^◌, ℕ, zero, suc, ◌+◌, ◌*◌, ℤ, pos, Bool, true, false, ◌||◌, nat_le, List, [], ◌∷◌, ◌++◌, length, Option, Some, None, IfSome, FitsSigned, ◌-◌, ◌==◌, slice_index_or, unwrap_or, refl, arith, lit<, lit≤, codes}
use Rattle.std.specs.Int.{w32}
use Rattle.std.specs.List.{All, list_all}
use Rattle.std.proofs.lemmas.List.{length-append}
use Rattle.std.proofs.lemmas.List.Elements.{All-nil, All-cons, All-set}
use Rattle.std.proofs.lemmas.Bool.Decides.{leb_tells, nat_tests}
use Rattle.std.proofs.lemmas.Grind.{common_steps}
use Rattle.std.proofs.lemmas.Int.{fits_signed_from_abs}
use Rattle.tds_session.specs.Session.{SessionState, IsSession, IsSetting, with_value, value_of, transacting, out_of_transaction, last_descriptor}
use Rattle.tds_session.specs.Effects.{message, error_token, done, begin_by, end_by}
use Rattle.tds_session.specs.Script.{with_more, rows_from, result_set, row_column, step_of}
use Rattle.tds_session.specs.Words.{is_within, is_digit, is_letter_or_digit, is_word}
use Rattle.tds_session.specs.Laws.Spells.{is_within_is}
use Rattle.tds_session.specs.Laws.Numerals.{both, or_cases}
use Rattle.tds_session.specs.Within.{IsWithin}
use Rattle.tds_session.specs.Statements.{IsStatement}
use Rattle.tds_session.specs.Lawful.{FitsPacket}
use Rattle.tds_session.specs.Laws.Sessions.{begun_is_session, ended_is_session}
use Rattle.tds_session.specs.declared.statement.Statement.{Statement}
use Rattle.tds_session.specs.declared.statement.Statement.TheVariants as statement
use Rattle.tds_token.specs.declared.env_change.EnvChange.{EnvChange}
use Rattle.tds_token.specs.declared.env_change.EnvChange.TheVariants as change
use Rattle.tds_token.specs.declared.token.Token.{Token}
use Rattle.tds_token.specs.declared.token.Token.TheVariants as token
use Rattle.tds_token.specs.Texts.{units_bytes}
use Rattle.tds_token.specs.Layout.{Fits, Ranged, Under, IsTokens, columns_after, spelling, message_inside, AreUnits, IsInt, FitsMessage, RangedMessage, is_done_status, FitsEnv, RangedEnv, RangedColumn, env_inside}

-- tokens that can be written one behind the other, from these columns on, in so many bytes
record Written (columns : Option ℕ) (tokens : List Token) (size : ℕ) : Type 0 where
  pub fit : All Fits tokens
  pub bytes : List ℕ
  pub after : Option ℕ
  pub spelled : IsTokens columns tokens bytes after
  pub short : length bytes ≤ size

nothing : (columns : Option ℕ) → Written columns [] 0
unfolding IsTokens
nothing columns = record { fit = All-nil Fits; bytes = []; after = columns; spelled = (refl, refl); short = lit≤ tt }

-- a token, and the others
behind : (columns : Option ℕ) (t : Token) (ts : List Token) (most size : ℕ) → Fits t → Ranged t → Under columns t → length (spelling t) ≤ most
    → Written (columns_after columns t) ts size → Written columns (t ∷ ts) (most + size)
unfolding IsTokens
behind columns t ts most size fits ranged under short w = record {
  fit = All-cons Fits t ts fits w.fit;
  bytes = spelling t ++ w.bytes;
  after = w.after;
  spelled = (spelling t, w.bytes, columns_after columns t, refl, record { spelled = refl; fits = fits; ranged = ranged; under = under; after_is = refl }, w.spelled);
  short = omega (arith, length-append (spelling t) w.bytes, short, w.short);
}

-- a DONE
done_written : (columns : Option ℕ) (status rows : ℕ) → Fits (token.Done status 0 rows) → status < 2 ^ 16 → rows < 2 ^ 64 → Written columns (token.Done status 0 rows ∷ []) 13
done_written columns status rows fits s r = behind columns (token.Done status 0 rows) [] 13 0 fits (s, lit< tt, r) tt (lit≤ tt) (nothing None)

more_written : (columns : Option ℕ) → Written columns (done 1 ∷ []) 13
unfolding is_done_status
more_written columns = done_written columns 1 0 refl (lit< tt) (lit< tt)

units_length : (units : List ℕ) → length (units_bytes units) ≡ 2 * length units
units_length [] = refl
units_length (u ∷ units) = let r = units_length units in omega (arith, r)

-- a message of a text of at most 200 units
record IsShortText (text : List ℕ) : Type 0 where
  pub units : AreUnits text
  pub few : length text ≤ 200

message_short : (number class : ℕ) (text : List ℕ) → length text ≤ 200 → length (message_inside (message number class text)) ≤ 414
message_short number class text few =
    omega (arith, few, units_length text, length-append (units_bytes text) (0 ∷ 0 ∷ 0 ∷ 0 ∷ 0 ∷ 0 ∷ []))

-- the same, with more room
with_room : (columns : Option ℕ) (ts : List Token) (size most : ℕ) → size ≤ most → Written columns ts size → Written columns ts most
with_room columns ts size most h w = record { fit = w.fit; bytes = w.bytes; after = w.after; spelled = w.spelled; short = omega (arith, h, w.short) }

-- what is written from no columns on in at most 504 bytes fits
fits_by : (ts : List Token) (after : SessionState) (size : ℕ) → size ≤ 504 → Written None ts size → IsSession after → FitsPacket (record { tokens = ts; after = after })
fits_by ts after size h w s = record { fit = w.fit; bytes = w.bytes; columns = w.after; spelled = w.spelled; short = omega (arith, h, w.short); after = s }

-- units of a text of the program
abbrev is_unit : ℕ → Bool
is_unit u = nat_le u 65535

units_by : (test : ℕ → Bool) → ((u : ℕ) → test u ≡ true → u < 2 ^ 16) → (us : List ℕ) → list_all test us ≡ true → AreUnits us
units_by test small [] h = tt
units_by test small (u ∷ us) h = let p = both (test u) (list_all test us) h in (small u p.0, units_by test small us p.1)

within_small : (low high u : ℕ) → high < 2 ^ 16 → is_within low high u ≡ true → u < 2 ^ 16
within_small low high u k h = let p = is_within_is low high u h in omega (arith, k, p.most)

letter_small : (u : ℕ) → is_letter_or_digit u ≡ true → u < 2 ^ 16
letter_small u h =
    or_cases (u < 2 ^ 16) (is_digit u || is_within 65 90 u) (is_within 97 122 u)
    (or_cases (u < 2 ^ 16) (is_digit u) (is_within 65 90 u) (within_small 48 57 u (lit< tt)) (within_small 65 90 u (lit< tt)))
    (within_small 97 122 u (lit< tt)) h

word_short : (w : List ℕ) → is_word w ≡ true → IsShortText w
word_short w h =
    let p = both (is_within 1 200 (length w)) (list_all is_letter_or_digit w) h in
    record { units = units_by is_letter_or_digit letter_small w p.1; few = (is_within_is 1 200 (length w) p.0).most }

int_is : (n : ℕ) → n < 2 ^ 31 → IsInt (pos n)
int_is n h = fits_signed_from_abs w32 (pos n) h

fits_message : (number class : ℕ) (text : List ℕ) → length text ≤ 200 → FitsMessage (message number class text)
fits_message number class text few = record { server = lit< tt; procedure = lit< tt; whole = omega (arith, few) }

ranged_message : (number class : ℕ) (text : List ℕ) → number < 2 ^ 31 → class < 256 → AreUnits text → RangedMessage (message number class text)
ranged_message number class text n c units = record { number = int_is number n; state = lit< tt; class = c; text = units; server = tt; procedure = tt; line = int_is 0 (lit< tt) }

info_written : (columns : Option ℕ) (number : ℕ) (text : List ℕ) (ts : List Token) (size : ℕ) → number < 2 ^ 31 → IsShortText text → Written columns ts size
    → Written columns (token.Info (message number 0 text) ∷ ts) (417 + size)
info_written columns number text ts size n short w =
    behind columns (token.Info (message number 0 text)) ts 417 size (fits_message number 0 text short.few) (ranged_message number 0 text n (lit< tt) short.units) tt
    (omega (arith, message_short number 0 text short.few)) w

error_written : (number : ℕ) (text : List ℕ) → number < 2 ^ 31 → IsShortText text → Written None (error_token number text ∷ []) 417
error_written number text n short =
    behind None (error_token number text) [] 417 0 (fits_message number 16 text short.few) (ranged_message number 16 text n (lit< tt) short.units) tt
    (omega (arith, message_short number 16 text short.few)) (nothing None)

-- an ERROR alone
error_fits : (number : ℕ) (text : List ℕ) (s : SessionState) → number < 2 ^ 31 → IsShortText text → IsSession s → FitsPacket (record { tokens = error_token number text ∷ []; after = s })
error_fits number text s n short h = fits_by (error_token number text ∷ []) s 417 (lit≤ tt) (error_written number text n short) h

-- a change of the transaction and a DONE
change_fits : (change : EnvChange) (after : SessionState) → FitsEnv change → RangedEnv change → length (env_inside change) ≤ 11 → IsSession after
    → FitsPacket (record { tokens = token.Env change ∷ done 1 ∷ []; after = after })
change_fits change after fits ranged short h =
    fits_by (token.Env change ∷ done 1 ∷ []) after 27 (lit≤ tt) (behind None (token.Env change) (done 1 ∷ []) 14 13 fits ranged tt (omega (arith, short)) (more_written None)) h

unit_by : (u : ℕ) (b : Bool) → nat_le u 65535 ≡ b → b ≡ true → u < 2 ^ 16
unit_by u true e h = grind (arith, leb_tells u 65535)
unit_by u false e h = absurd (let z : false ≡ true = h in cc)

unit_small : (u : ℕ) → is_unit u ≡ true → u < 2 ^ 16
unit_small u h = unit_by u (nat_le u 65535) refl h

short_text : (us : List ℕ) → list_all is_unit us ≡ true → length us ≤ 200 → IsShortText us
short_text us h k = record { units = units_by is_unit unit_small us h; few = k }

-- ---- each statement

begin_fits : (outside used_up : Bool) (s : SessionState) → (s.next_descriptor == last_descriptor) ≡ used_up → IsSession s → FitsPacket (with_more (begin_by outside used_up s))
begin_fits false used_up s e h = error_fits 50002 (codes "in transaction") s (lit< tt) (short_text (codes "in transaction") refl (lit≤ tt)) h
begin_fits true true s e h = error_fits 50004 (codes "no descriptor") s (lit< tt) (short_text (codes "no descriptor") refl (lit≤ tt)) h
begin_fits true false s e h =
    let left : s.next_descriptor < 18446744073709551615 = grind (arith, nat_tests, h.next_fits) in
    change_fits (change.Begin s.next_descriptor) (transacting s) h.next_some h.next_fits (lit≤ tt) (begun_is_session s h left)

some_descriptor : (d : ℕ) → (d == 0) ≡ false → 0 < d
some_descriptor zero e = absurd (let z : true ≡ false = e in cc)
some_descriptor (suc d) e = omega arith

no_transaction_fits : (s : SessionState) → IsSession s → FitsPacket (record { tokens = error_token 50003 (codes "no transaction") ∷ []; after = s })
no_transaction_fits s h = error_fits 50003 (codes "no transaction") s (lit< tt) (short_text (codes "no transaction") refl (lit≤ tt)) h

commit_fits : (outside : Bool) (s : SessionState) → (s.descriptor == 0) ≡ outside → IsSession s → FitsPacket (with_more (end_by outside change.Commit s))
commit_fits true s e h = no_transaction_fits s h
commit_fits false s e h = change_fits (change.Commit s.descriptor) (out_of_transaction s) (some_descriptor s.descriptor e) h.descriptor (lit≤ tt) (ended_is_session s h)

rollback_fits : (outside : Bool) (s : SessionState) → (s.descriptor == 0) ≡ outside → IsSession s → FitsPacket (with_more (end_by outside change.Rollback s))
rollback_fits true s e h = no_transaction_fits s h
rollback_fits false s e h = change_fits (change.Rollback s.descriptor) (out_of_transaction s) (some_descriptor s.descriptor e) h.descriptor (lit≤ tt) (ended_is_session s h)

row_written : (first : ℕ) (ts : List Token) (size : ℕ) → first < 2 ^ 31 → Written (Some 1) ts size → Written (Some 1) (token.Row (pos first ∷ []) ∷ ts) (5 + size)
row_written first ts size h w =
    behind (Some 1) (token.Row (pos first ∷ [])) ts 5 size (lit≤ tt, lit≤ tt) (int_is first h, tt) refl (lit≤ tt) w

rows_written : (first count : ℕ) (ts : List Token) (size : ℕ) → first + count < 2 ^ 31 → Written (Some 1) ts size → Written (Some 1) (rows_from first count ++ ts) (5 * count + size)
rows_written first zero ts size h w = with_room (Some 1) ts size (5 * 0 + size) (omega arith) w
rows_written first (suc count) ts size h w =
    with_room (Some 1) (rows_from first (suc count) ++ ts) (5 + (5 * count + size)) (5 * suc count + size) (omega arith)
    (row_written first (rows_from (first + 1) count ++ ts) (5 * count + size) (omega (arith, h)) (rows_written (first + 1) count ts size (omega (arith, h)) w))

count_fits : Fits (token.Done 17 0 0)
unfolding is_done_status
count_fits = refl

result_fits : (first count : ℕ) (s : SessionState) → IsWithin 0 1000000 first → IsWithin 0 64 count → IsSession s → FitsPacket (record { tokens = result_set first count; after = s })
result_fits first count s a n h =
    let done : Written (Some 1) (token.Done 17 0 count ∷ []) 13 = done_written (Some 1) 17 count count_fits (lit< tt) (omega (arith, n.most)) in
    let rows : Written (Some 1) (rows_from first count ++ token.Done 17 0 count ∷ []) (5 * count + 13) = rows_written first count (token.Done 17 0 count ∷ []) 13 (omega (arith, a.most, n.most)) done in
    let name : AreUnits (codes "n") = (lit< tt, tt) in
    let column : RangedColumn row_column = record { user_type = lit< tt; flags = lit< tt; name = name } in
    fits_by (result_set first count) s (13 + (5 * count + 13)) (omega (arith, n.most))
    (behind None (token.Columns (row_column ∷ [])) (rows_from first count ++ token.Done 17 0 count ∷ []) 13 (5 * count + 13) (lit≤ tt, lit≤ tt, (lit≤ tt, tt)) (column, tt) tt (lit≤ tt) rows) h

or_zero : (v : Option ℤ) → IfSome v (FitsSigned w32) → FitsSigned w32 (unwrap_or v (pos 0))
or_zero None h = int_is 0 (lit< tt)
or_zero (Some z) h = h

value_fits : (s : SessionState) (key : ℕ) → IsWithin 97 122 key → IsSession s → IsInt (value_of s key)
value_fits s key k h = or_zero (slice_index_or s.settings (key - 97) None) (h.values (key - 97) None (omega (arith, h.keys, k.most)))

get_fits : (s : SessionState) (key : ℕ) → IsWithin 97 122 key → IsSession s → FitsPacket (step_of s (statement.Get key))
get_fits s key k h =
    fits_by (token.ReturnStatus (value_of s key) ∷ done 1 ∷ []) s 18 (lit≤ tt)
    (behind None (token.ReturnStatus (value_of s key)) (done 1 ∷ []) 5 13 tt (value_fits s key k h) tt (lit≤ tt) (more_written None)) h

set_is_session : (s : SessionState) (key : ℕ) (value : ℤ) → FitsSigned w32 value → IsSession s → IsSession (with_value key value s)
set_is_session s key value v h = record {
  keys = grind (arith, common_steps, h.keys);
  values = All-set IsSetting s.settings (key - 97) (Some value) v h.values;
  descriptor = h.descriptor;
  next_some = h.next_some;
  next_fits = h.next_fits;
}

pub step_fits : (s : SessionState) (q : Statement) → IsSession s → IsStatement q → FitsPacket (step_of s q)
step_fits s (statement.Say word) h k =
    fits_by (token.Info (message 50000 0 word) ∷ done 1 ∷ []) s 430 (lit≤ tt) (info_written None 50000 word (done 1 ∷ []) 13 (lit< tt) (word_short word k) (more_written None)) h
step_fits s (statement.Rows first count) h k = result_fits first count s k.0 k.1 h
step_fits s (statement.Set key value) h k = fits_by (done 1 ∷ []) (with_value key value s) 13 (lit≤ tt) (more_written None) (set_is_session s key value k.1 h)
step_fits s (statement.Get key) h k = get_fits s key k h
step_fits s statement.Begin h k = begin_fits (s.descriptor == 0) (s.next_descriptor == last_descriptor) s refl h
step_fits s statement.Commit h k = commit_fits (s.descriptor == 0) s refl h
step_fits s statement.Rollback h k = rollback_fits (s.descriptor == 0) s refl h
step_fits s (statement.Fail number) h k = error_fits number (codes "fail") s (omega (arith, k.most)) (short_text (codes "fail") refl (lit≤ tt)) h
