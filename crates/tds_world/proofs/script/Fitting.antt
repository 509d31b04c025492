-- Each step of an engine's answers fits one packet, from each session of the program on.
use Rattle.std.proofs.Common.{◌≡◌, ◌≤◌, ◌<◌, ◌^◌, ℕ, ◌+◌, ◌&&◌, nat_le, List, [], ◌∷◌, ◌++◌, Bool, true, false, cond, length, length-append, refl, sym, subst, Option, Some, None, eqb, arith, lit<, lit≤, codes}
use Rattle.std.proofs.lemmas.Bool.Decides.{leb_tells, nat_tests}
use Rattle.std.proofs.lemmas.Int.{fits_signed_from_abs}
use Rattle.std.proofs.lemmas.List.Elements.{All-head, All-tail}
use Rattle.std.specs.Int.{w32}
use Rattle.std.specs.List.{All, AllByRecursion, list_all}
use Rattle.std.specs.Prelude.{◌==◌, flat_map, pos}
use Rattle.tds_packet.specs.declared.status.Reset.{Reset}
use Rattle.tds_request.specs.declared.request.Request.{Request}
use Rattle.tds_request.specs.declared.request.Request.TheVariants as request
use Rattle.tds_session.specs.Answer.{Step, step_then, last_step, final_step, and_then, batch_steps, steps_in, steps_of, wrong_descriptor, answer_to, answer_of}
use Rattle.tds_session.specs.declared.transaction.Ending.{Ending}
use Rattle.tds_session.specs.declared.transaction.Ending.TheVariants as ending
use Rattle.tds_session.specs.Effects.{Effect, error_token, has_error, fails, done, begin_by, end_by, told_by, renew_by, completes}
use Rattle.tds_session.specs.Lawful.{IsEffect, FitsPacket}
use Rattle.tds_session.specs.Laws.Sessions.{begun_is_session, ended_is_session, reset_is_session}
use Rattle.tds_session.specs.Session.{SessionState, IsSession, transacting, out_of_transaction, renewed, after_reset, last_descriptor}
use Rattle.tds_token.specs.declared.env_change.EnvChange.{EnvChange}
use Rattle.tds_token.specs.declared.env_change.EnvChange.TheVariants as change
use Rattle.tds_token.specs.declared.token.Token.{Token}
use Rattle.tds_token.specs.declared.token.Token.TheVariants as token
use Rattle.tds_token.specs.Layout.{Fits, Ranged, Under, IsTokens, columns_after, spelling, AreUnits, is_done_status, FitsEnv, RangedEnv}
use Rattle.tds_world.specs.Sessions.{FitsStep, StayInRange}
use Rattle.tds_world.proofs.events.Words.{either}

-- ---- Tokens that are written one behind the other

-- From these columns on, in at most so many bytes.
record Written (columns : Option ℕ) (ts : List Token) (most : ℕ) : Type 0 where
  pub after : Option ℕ
  pub spelled : IsTokens columns ts (flat_map spelling ts) after
  pub short : length (flat_map spelling ts) ≤ most

nothing : (columns : Option ℕ) → Written columns [] 0
unfolding IsTokens
nothing columns = record { after = columns; spelled = (refl, refl); short = lit≤ tt }

behind : (columns : Option ℕ) (t : Token) (ts : List Token) (most more : ℕ) → Fits t → Ranged t → Under columns t → length (spelling t) ≤ most → Written (columns_after columns t) ts more → Written columns (t ∷ ts) (most + more)
unfolding IsTokens
behind columns t ts most more fits ranged under short w = record {
  after = w.after;
  spelled = (spelling t, flat_map spelling ts, columns_after columns t, refl, record { spelled = refl; fits = fits; ranged = ranged; under = under; after_is = refl }, w.spelled);
  short = omega (arith, length-append (spelling t) (flat_map spelling ts), short, w.short);
}

-- An effect's tokens, as the engine says of them.
same_bytes : {a b x y : List ℕ} → a ≡ x → b ≡ y → a ++ b ≡ x ++ y
same_bytes e f = cc

joined : (columns after : Option ℕ) (ts : List Token) (bytes : List ℕ) → IsTokens columns ts bytes after → bytes ≡ flat_map spelling ts
unfolding IsTokens
joined columns after [] bytes h = h.0
joined columns after (t ∷ ts) bytes h = rw h.3 (same_bytes h.4.spelled (joined _ after ts _ h.5))

-- A token has a byte.
a_byte : (t : Token) → 1 ≤ length (spelling t)
a_byte (token.Info m) = omega arith
a_byte t = omega arith

some_bytes : (ts : List Token) → 0 < length ts → 1 ≤ length (flat_map spelling ts)
some_bytes [] h = absurd (omega (arith, h))
some_bytes (t ∷ ts) h = omega (arith, a_byte t, length-append (spelling t) (flat_map spelling ts))

of_engine : (e : Effect) → 0 < length e.tokens → FitsPacket e → FitsStep (step_then e)
of_engine e some h =
    let same : h.bytes ≡ flat_map spelling e.tokens = joined None h.columns e.tokens h.bytes h.spelled in record {
      spelled = (h.columns, subst (λ bytes. IsTokens None e.tokens bytes h.columns) same h.spelled);
      some = some_bytes e.tokens some;
      most = subst (λ bytes. length bytes ≤ 504) same h.short;
      after = h.after;
    }

-- ---- The tokens that a server gives of itself

done_written : (columns : Option ℕ) (status : ℕ) → is_done_status status ≡ true → status < 2 ^ 16 → Written columns (done status ∷ []) 13
done_written columns status fits small = behind columns (done status) [] 13 0 fits (small, lit< tt, lit< tt) tt (lit≤ tt) (nothing None)

final_is_status : (b : Bool) → is_done_status (cond b 2 0) ≡ true
unfolding is_done_status
final_is_status true = refl
final_is_status false = refl

final_small : (b : Bool) → cond b 2 0 < 2 ^ 16
final_small true = lit< tt
final_small false = lit< tt

final_written : (columns : Option ℕ) (b : Bool) → Written columns (done (cond b 2 0) ∷ []) 13
final_written columns b = done_written columns (cond b 2 0) (final_is_status b) (final_small b)

-- One token of a request's effect, and the final DONE behind it or none.
record IsShort (t : Token) : Type 0 where
  pub fits : Fits t
  pub ranged : Ranged t
  pub under : Under None t
  pub keeps : columns_after None t ≡ None
  pub short : length (spelling t) ≤ 200

short_error : (number : ℕ) (text : List ℕ) → number < 2 ^ 31 → AreUnits text → length text ≤ 100 → length (spelling (error_token number text)) ≤ 200 → IsShort (error_token number text)
short_error number text n units few short = record {
  fits = record { server = lit< tt; procedure = lit< tt; whole = omega (arith, few) };
  ranged = record { number = fits_signed_from_abs w32 (pos number) n; state = lit< tt; class = lit< tt; text = units; server = tt; procedure = tt; line = fits_signed_from_abs w32 (pos 0) (lit< tt) };
  under = tt;
  keeps = refl;
  short = short;
}

from_written : (ts : List Token) (most : ℕ) (last : Bool) (reset : Option Reset) (s : SessionState) → 0 < length ts → most ≤ 504 → Written None ts most → IsSession s → FitsStep (record { tokens = ts; last = last; reset = reset; after = s })
from_written ts most last reset s some few w h = record {
  spelled = (w.after, w.spelled);
  some = some_bytes ts some;
  most = omega (arith, w.short, few);
  after = h;
}

alone_fits : (t : Token) (last : Bool) (reset : Option Reset) (s : SessionState) → IsShort t → IsSession s → FitsStep (record { tokens = t ∷ []; last = last; reset = reset; after = s })
alone_fits t last reset s k h =
    from_written (t ∷ []) 200 last reset s (lit< tt) (lit≤ tt) (behind None t [] 200 0 k.fits k.ranged k.under k.short (nothing (columns_after None t))) h

last_fits : (t : Token) (s : SessionState) → IsShort t → IsSession s → FitsStep (last_step (record { tokens = t ∷ []; after = s }))
last_fits t s k h =
    let failed : Bool = has_error (record { tokens = t ∷ []; after = s }) in
    from_written (t ∷ done (cond failed 2 0) ∷ []) 213 true None s (lit< tt) (lit≤ tt)
    (behind None t (done (cond failed 2 0) ∷ []) 200 13 k.fits k.ranged k.under k.short (final_written (columns_after None t) failed)) h

-- Two such tokens, and the final DONE behind them.
last_two_fit : (t u : Token) (s : SessionState) → IsShort t → IsShort u → IsSession s → FitsStep (last_step (record { tokens = t ∷ u ∷ []; after = s }))
last_two_fit t u s k l h =
    let failed : Bool = has_error (record { tokens = t ∷ u ∷ []; after = s }) in
    let second : Written None (u ∷ done (cond failed 2 0) ∷ []) 213 = behind None u (done (cond failed 2 0) ∷ []) 200 13 l.fits l.ranged l.under l.short (final_written (columns_after None u) failed) in
    from_written (t ∷ u ∷ done (cond failed 2 0) ∷ []) 413 true None s (lit< tt) (lit≤ tt)
    (behind None t (u ∷ done (cond failed 2 0) ∷ []) 200 213 k.fits k.ranged k.under k.short (subst (λ columns. Written columns (u ∷ done (cond failed 2 0) ∷ []) 213) (sym k.keeps) second)) h

final_fits : (b : Bool) (s : SessionState) → IsSession s → FitsStep (final_step (cond b 2 0) s)
final_fits b s h = from_written (done (cond b 2 0) ∷ []) 13 true None s (lit< tt) (lit≤ tt) (final_written None b) h

-- ---- Texts of the program

unit_by : (u : ℕ) (b : Bool) → nat_le u 65535 ≡ b → b ≡ true → u < 2 ^ 16
unit_by u true e h = grind (arith, leb_tells u 65535)
unit_by u false e h = absurd (let z : false ≡ true = h in cc)

units_then : (b : Bool) (u : ℕ) (us : List ℕ) (others : Bool) → nat_le u 65535 ≡ b → (b && others) ≡ true → (others ≡ true → AreUnits us) → AreUnits (u ∷ us)
units_then true u us others e k f = (unit_by u true e refl, f k)
units_then false u us others e k f = absurd (let z : false ≡ true = k in cc)

units_of : (us : List ℕ) → list_all (λ u. nat_le u 65535) us ≡ true → AreUnits us
units_of [] h = tt
units_of (u ∷ us) h = units_then (nat_le u 65535) u us (list_all (λ v. nat_le v 65535) us) refl h (units_of us)

syntax : IsShort (error_token 50001 (codes "syntax"))
syntax = short_error 50001 (codes "syntax") (lit< tt) (units_of (codes "syntax") refl) (lit≤ tt) (lit≤ tt)

descriptor : IsShort (error_token 50010 (codes "descriptor"))
descriptor = short_error 50010 (codes "descriptor") (lit< tt) (units_of (codes "descriptor") refl) (lit≤ tt) (lit≤ tt)

in_transaction : IsShort (error_token 50002 (codes "in transaction"))
in_transaction = short_error 50002 (codes "in transaction") (lit< tt) (units_of (codes "in transaction") refl) (lit≤ tt) (lit≤ tt)

no_descriptor : IsShort (error_token 50004 (codes "no descriptor"))
no_descriptor = short_error 50004 (codes "no descriptor") (lit< tt) (units_of (codes "no descriptor") refl) (lit≤ tt) (lit≤ tt)

no_transaction : IsShort (error_token 50003 (codes "no transaction"))
no_transaction = short_error 50003 (codes "no transaction") (lit< tt) (units_of (codes "no transaction") refl) (lit≤ tt) (lit≤ tt)

short_change : (e : EnvChange) → FitsEnv e → RangedEnv e → length (spelling (token.Env e)) ≤ 200 → IsShort (token.Env e)
short_change e fits ranged short = record { fits = fits; ranged = ranged; under = tt; keeps = refl; short = short }

-- ---- A transaction's requests

begin_fits : (outside used_up : Bool) (s : SessionState) → (s.next_descriptor == last_descriptor) ≡ used_up → IsSession s → FitsStep (last_step (begin_by outside used_up s))
begin_fits false used_up s e h = last_fits (error_token 50002 (codes "in transaction")) s in_transaction h
begin_fits true true s e h = last_fits (error_token 50004 (codes "no descriptor")) s no_descriptor h
begin_fits true false s e h =
    let left : s.next_descriptor < 18446744073709551615 = grind (arith, nat_tests, h.next_fits) in
    last_fits (token.Env (change.Begin s.next_descriptor)) (transacting s) (short_change (change.Begin s.next_descriptor) h.next_some h.next_fits (lit≤ tt)) (begun_is_session s h left)

some_descriptor : (d : ℕ) → (d == 0) ≡ false → 0 < d
some_descriptor d e = grind (arith, nat_tests)

short_end : (how : Ending) (s : SessionState) → (s.descriptor == 0) ≡ false → IsSession s → IsShort (token.Env (told_by how s.descriptor))
short_end ending.Commit s e h = short_change (change.Commit s.descriptor) (some_descriptor s.descriptor e) h.descriptor (lit≤ tt)
short_end ending.Rollback s e h = short_change (change.Rollback s.descriptor) (some_descriptor s.descriptor e) h.descriptor (lit≤ tt)

end_fits : (outside : Bool) (how : Ending) (s : SessionState) → (s.descriptor == 0) ≡ outside → IsSession s → FitsStep (last_step (end_by outside (told_by how) s))
end_fits true how s e h = last_fits (error_token 50003 (codes "no transaction")) s no_transaction h
end_fits false how s e h = last_fits (token.Env (told_by how s.descriptor)) (out_of_transaction s) (short_end how s e h) (ended_is_session s h)

renewal_fits : (outside used_up : Bool) (how : Ending) (s : SessionState) → (s.descriptor == 0) ≡ outside → (s.next_descriptor == last_descriptor) ≡ used_up → IsSession s → FitsStep (last_step (renew_by outside used_up how s))
renewal_fits true used_up how s e u h = last_fits (error_token 50003 (codes "no transaction")) s no_transaction h
renewal_fits false true how s e u h = last_fits (error_token 50004 (codes "no descriptor")) s no_descriptor h
renewal_fits false false how s e u h =
    let left : s.next_descriptor < 18446744073709551615 = grind (arith, nat_tests, h.next_fits) in
    last_two_fit (token.Env (told_by how s.descriptor)) (token.Env (change.Begin s.next_descriptor)) (renewed s) (short_end how s e h)
    (short_change (change.Begin s.next_descriptor) h.next_some h.next_fits (lit≤ tt)) (begun_is_session (out_of_transaction s) (ended_is_session s h) left)

completion_fits : (how : Ending) (anew : Option ℕ) (s : SessionState) → IsSession s → FitsStep (last_step (completes how anew s))
completion_fits how None s h = end_fits (s.descriptor == 0) how s refl h
completion_fits how (Some isolation) s h = renewal_fits (s.descriptor == 0) (s.next_descriptor == last_descriptor) how s refl refl h

-- ---- Answers

and_fit : (b : Bool) (e : Effect) (ss : List Step) → FitsStep (step_then e) → AllByRecursion FitsStep ss → AllByRecursion FitsStep (and_then b e ss)
and_fit true e ss h g = (h, (final_fits true e.after h.after, tt))
and_fit false e ss h g = (h, g)

-- What an engine's statements do, from a session of the program.
abbrev DoFit : {S : Type 0} → (S → Type 0) → (SessionState → S → Effect) → Type 0
DoFit {S} IsOne step = (s : SessionState) (q : S) → IsSession s → IsOne q → FitsStep (step_then (step s q))

batch_fits : {S : Type 0} (IsOne : S → Type 0) (step : SessionState → S → Effect) → DoFit IsOne step → (s : SessionState) (qs : List S) → IsSession s → All IsOne qs → AllByRecursion FitsStep (batch_steps step s qs)
batch_fits IsOne step f s [] h k = (final_fits false s h, tt)
batch_fits IsOne step f s (q ∷ qs) h k =
    let first : FitsStep (step_then (step s q)) = f s q h (All-head IsOne q qs k) in
    and_fit (has_error (step s q)) (step s q) (batch_steps step (step s q).after qs) first
    (batch_fits IsOne step f (step s q).after qs first.after (All-tail IsOne q qs k))

refused_fits : (number : ℕ) (text : List ℕ) (s : SessionState) → IsShort (error_token number text) → IsSession s → AllByRecursion FitsStep (and_then true (fails number text s) [])
refused_fits number text s k h = and_fit true (fails number text s) [] (alone_fits (error_token number text) false None s k h) tt

in_fit : {S : Type 0} (IsOne : S → Type 0) (step : SessionState → S → Effect) → DoFit IsOne step → (s : SessionState) (o : Option (List S)) → IsSession s → ((qs : List S) → o ≡ Some qs → All IsOne qs) → AllByRecursion FitsStep (steps_in step s o)
in_fit IsOne step f s None h k = refused_fits 50001 (codes "syntax") s syntax h
in_fit IsOne step f s (Some qs) h k = batch_fits IsOne step f s qs h (k qs refl)

-- An engine: what it reads of a text are statements.
abbrev pub Reads : {S : Type 0} → (S → Type 0) → (List ℕ → Option (List S)) → Type 0
Reads {S} IsOne statements = (text : List ℕ) (qs : List S) → statements text ≡ Some qs → All IsOne qs

of_fit : {S : Type 0} (IsOne : S → Type 0) (statements : List ℕ → Option (List S)) (step : SessionState → S → Effect) → Reads IsOne statements → DoFit IsOne step → (s : SessionState) (q : Request) → IsSession s → AllByRecursion FitsStep (steps_of statements step s q)
of_fit IsOne statements step r f s (request.Batch text) h = in_fit IsOne step f s (statements text) h (r text)
of_fit IsOne statements step r f s (request.Begin i) h = (begin_fits (s.descriptor == 0) (s.next_descriptor == last_descriptor) s refl h, tt)
of_fit IsOne statements step r f s (request.Commit anew) h = (completion_fits ending.Commit anew s h, tt)
of_fit IsOne statements step r f s (request.Rollback anew) h = (completion_fits ending.Rollback anew s h, tt)

wrong_fits : (s : SessionState) (q : Request) → IsSession s → AllByRecursion FitsStep (wrong_descriptor s q)
wrong_fits s (request.Batch text) h = refused_fits 50010 (codes "descriptor") s descriptor h
wrong_fits s (request.Begin i) h = (last_fits (error_token 50010 (codes "descriptor")) s descriptor h, tt)
wrong_fits s (request.Commit anew) h = (last_fits (error_token 50010 (codes "descriptor")) s descriptor h, tt)
wrong_fits s (request.Rollback anew) h = (last_fits (error_token 50010 (codes "descriptor")) s descriptor h, tt)

to_fit : {S : Type 0} (IsOne : S → Type 0) (statements : List ℕ → Option (List S)) (step : SessionState → S → Effect) → Reads IsOne statements → DoFit IsOne step → (s : SessionState) (d : ℕ) (q : Request) → IsSession s → AllByRecursion FitsStep (answer_to statements step s d q)
to_fit IsOne statements step r f s d q h =
    either (AllByRecursion FitsStep) (eqb d s.descriptor) (steps_of statements step s q) (wrong_descriptor s q) (of_fit IsOne statements step r f s q h) (wrong_fits s q h)

answers_fit : {S : Type 0} (IsOne : S → Type 0) (statements : List ℕ → Option (List S)) (step : SessionState → S → Effect) → Reads IsOne statements → DoFit IsOne step → StayInRange (answer_of statements step)
answers_fit IsOne statements step r f s d None q h = to_fit IsOne statements step r f s d q h
answers_fit IsOne statements step r f s d (Some m) q h = (
  alone_fits (token.Env change.ResetDone) false (Some m) (after_reset m s) (short_change change.ResetDone tt tt (lit≤ tt)) (reset_is_session m s h),
  to_fit IsOne statements step r f (after_reset m s) d q (reset_is_session m s h),
)

-- An engine's statements: each says something, and its tokens fit.
pub stay_in_range : {S : Type 0} (IsOne : S → Type 0) (statements : List ℕ → Option (List S)) (step : SessionState → S → Effect) → Reads IsOne statements
    → ((s : SessionState) (q : S) → IsEffect s (step s q)) → ((s : SessionState) (q : S) → IsSession s → IsOne q → FitsPacket (step s q)) → StayInRange (answer_of statements step)
stay_in_range IsOne statements step r effect fits =
    answers_fit IsOne statements step r (λ s q h k. of_engine (step s q) (effect s q).some (fits s q h k))
