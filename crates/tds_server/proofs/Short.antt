-- The steps that a server makes itself fit into a packet.
use Rattle.std.proofs.Common.{rules, ℕ, ◌≤◌, ◌<◌, List, [], ◌∷◌, ◌++◌, length, arith, refl, ap, subst, sym, codes, ◌==◌, Bool, true, false, if◌then◌else◌, ◌≡◌, length-append, Option, Some, None, lit≤}
use Rattle.std.specs.List.{flat_map}
use Rattle.std.proofs.lemmas.Bool.Decides.{nat_tests}
use Rattle.std.proofs.lemmas.Grind.{flat_map-append}
use Rattle.std.proofs.lemmas.List.Elements.{All-append, All-cons, All-nil}
use Rattle.tds_server.specs.Packets.{AreShort, FitsOnePacket, answer_packet, final}
use Rattle.tds_session.specs.declared.transaction.Ending.{Ending}
use Rattle.tds_session.specs.declared.transaction.Ending.TheVariants as ending
use Rattle.tds_session.specs.Effects.{error_token, done, Effect, begins, begin_by, end_by, told_by, renew_by, completes}
use Rattle.tds_session.specs.Session.{SessionState, IsSession}
use Rattle.tds_session.specs.Lawful.{FitsPacket}
use Rattle.tds_token.specs.declared.env_change.EnvChange.TheVariants as change
use Rattle.tds_token.specs.Layout.{Fits, spelling, is_done_status, IsTokens}
use Rattle.tds_token.specs.declared.token.Token.{Token}
use Rattle.tds_token.specs.declared.token.Token.TheVariants as token

-- A token that leaves room for a DONE.
record LeavesRoom (t : Token) : Type 0 where
  pub fits : Fits t
  pub short : length (spelling t) ≤ 491

one : (t : Token) → LeavesRoom t → FitsOnePacket (t ∷ [])
one t s = record { fit = All-cons Fits t [] s.fits (All-nil Fits); short = omega (arith, length-append (spelling t) [], s.short) }

one_short : (t : Token) → LeavesRoom t → AreShort (t ∷ [])
one_short t s = record { fit = All-cons Fits t [] s.fits (All-nil Fits); short = omega (arith, length-append (spelling t) [], s.short) }

two_short : (t u : Token) → Fits t → Fits u → length (flat_map spelling (t ∷ u ∷ [])) ≤ 491 → AreShort (t ∷ u ∷ [])
two_short t u f g short = record { fit = All-cons Fits t (u ∷ []) f (All-cons Fits u [] g (All-nil Fits)); short = short }

done_count : (status : ℕ) → length (spelling (done status)) ≡ 13
done_count status = refl

is_lawful_final : (failed : Bool) → is_done_status (if failed then 2 else 0) ≡ true
unfolding is_done_status
is_lawful_final true = refl
is_lawful_final false = refl

short_done : (status : ℕ) → is_done_status status ≡ true → LeavesRoom (done status)
short_done status lawful = record { fits = lawful; short = omega (arith, done_count status) }

pub acknowledging : FitsOnePacket (token.Done 32 0 0 ∷ [])
unfolding is_done_status
acknowledging = one _ (short_done 32 refl)

pub rolling_back : (d : ℕ) → 0 < d → FitsOnePacket (token.Env (change.Rollback d) ∷ token.Done 32 0 0 ∷ [])
rolling_back d some = record {
  fit = All-cons Fits (token.Env (change.Rollback d)) (token.Done 32 0 0 ∷ []) some acknowledging.fit;
  short = lit≤ tt;
}

pub finished : (failed : Bool) → FitsOnePacket (final failed ∷ [])
finished failed = one _ (short_done _ (is_lawful_final failed))

final_count : (failed : Bool) → length (flat_map spelling (final failed ∷ [])) ≡ 13
final_count failed = refl

pub requested : (ts : List Token) (failed : Bool) → AreShort ts → FitsOnePacket (ts ++ final failed ∷ [])
requested ts failed room = record {
  fit = All-append Fits ts (final failed ∷ []) room.fit (finished failed).fit;
  short = omega (
    arith,
    ap length (flat_map-append spelling ts (final failed ∷ [])),
    length-append (flat_map spelling ts) (flat_map spelling (final failed ∷ [])),
    final_count failed,
    room.short,
  );
}

pub reset_done : FitsOnePacket (token.Env change.ResetDone ∷ [])
reset_done = one _ (record { fits = tt; short = search rules })

short_descriptor : LeavesRoom (error_token 50010 (codes "descriptor"))
short_descriptor = record { fits = record { server = search rules; procedure = search rules; whole = search rules }; short = search rules }

pub refused_short : (t : Token) → t ≡ error_token 50010 (codes "descriptor") → AreShort (t ∷ [])
refused_short t e = one_short t (subst LeavesRoom (sym e) short_descriptor)

pub descriptor_error : FitsOnePacket (error_token 50010 (codes "descriptor") ∷ [])
descriptor_error = one _ short_descriptor

short_syntax : LeavesRoom (error_token 50001 (codes "syntax"))
short_syntax = record { fits = record { server = search rules; procedure = search rules; whole = search rules }; short = search rules }

pub syntax_error : FitsOnePacket (error_token 50001 (codes "syntax") ∷ [])
syntax_error = one _ short_syntax

-- an effect's tokens leave room
abbrev pub IsShort : Effect → Type 0
IsShort e = AreShort e.tokens

no_transaction : AreShort (error_token 50003 (codes "no transaction") ∷ [])
no_transaction = one_short _ (record { fits = record { server = search rules; procedure = search rules; whole = search rules }; short = search rules })

no_descriptor : AreShort (error_token 50004 (codes "no descriptor") ∷ [])
no_descriptor = one_short _ (record { fits = record { server = search rules; procedure = search rules; whole = search rules }; short = search rules })

in_transaction : AreShort (error_token 50002 (codes "in transaction") ∷ [])
in_transaction = one_short _ (record { fits = record { server = search rules; procedure = search rules; whole = search rules }; short = search rules })

begin_is_short : (none used_up : Bool) (s : SessionState) → IsSession s → IsShort (begin_by none used_up s)
begin_is_short false used_up s is = in_transaction
begin_is_short true true s is = no_descriptor
begin_is_short true false s is = one_short _ (record { fits = is.next_some; short = search rules })

short_alike : (e : Effect) (ts : List Token) → ts ≡ e.tokens → IsShort e → AreShort ts
short_alike e ts h s = subst AreShort (sym h) s

pub begins_short : (s : SessionState) (ts : List Token) → IsSession s → ts ≡ (begins s).tokens → AreShort ts
begins_short s ts is h = short_alike (begins s) ts h (begin_is_short _ _ s is)

some_descriptor : (d : ℕ) → (d == 0) ≡ false → 0 < d
some_descriptor d e = grind (arith, nat_tests)

-- the ENVCHANGE of an end leaves room, and so does that of a begin behind it
end_told : (how : Ending) (d : ℕ) → 0 < d → LeavesRoom (token.Env (told_by how d))
end_told ending.Commit d some = record { fits = some; short = search rules }
end_told ending.Rollback d some = record { fits = some; short = search rules }

renewal_told : (how : Ending) (d next : ℕ) → 0 < d → 0 < next → AreShort (token.Env (told_by how d) ∷ token.Env (change.Begin next) ∷ [])
renewal_told ending.Commit d next some more = two_short (token.Env (change.Commit d)) (token.Env (change.Begin next)) some more (search rules)
renewal_told ending.Rollback d next some more = two_short (token.Env (change.Rollback d)) (token.Env (change.Begin next)) some more (search rules)

end_is_short : (none : Bool) (how : Ending) (s : SessionState) → (s.descriptor == 0) ≡ none → IsShort (end_by none (told_by how) s)
end_is_short true how s e = no_transaction
end_is_short false how s e = one_short _ (end_told how s.descriptor (some_descriptor s.descriptor e))

renewal_is_short : (none used_up : Bool) (how : Ending) (s : SessionState) → IsSession s → (s.descriptor == 0) ≡ none → IsShort (renew_by none used_up how s)
renewal_is_short true used_up how s is e = no_transaction
renewal_is_short false true how s is e = no_descriptor
renewal_is_short false false how s is e = renewal_told how s.descriptor s.next_descriptor (some_descriptor s.descriptor e) is.next_some

completion_is_short : (how : Ending) (anew : Option ℕ) (s : SessionState) → IsSession s → IsShort (completes how anew s)
completion_is_short how None s is = end_is_short _ how s refl
completion_is_short how (Some isolation) s is = renewal_is_short _ _ how s is refl

pub completes_short : (how : Ending) (anew : Option ℕ) (s : SessionState) (ts : List Token) → IsSession s → ts ≡ (completes how anew s).tokens → AreShort ts
completes_short how anew s ts is h = short_alike (completes how anew s) ts h (completion_is_short how anew s is)

joined : {a b x y : List ℕ} → a ≡ x → b ≡ y → a ++ b ≡ x ++ y
joined e f = cc

spelled_joined : (columns after : Option ℕ) (tokens : List Token) (bytes : List ℕ) → IsTokens columns tokens bytes after → bytes ≡ flat_map spelling tokens
unfolding IsTokens
spelled_joined columns after [] bytes h = h.0
spelled_joined columns after (t ∷ ts) bytes h = rw h.3 (joined h.4.spelled (spelled_joined _ after ts _ h.5))

pub of_engine : (e : Effect) → FitsPacket e → FitsOnePacket e.tokens
of_engine e fits = record {
  fit = fits.fit;
  short = omega (arith, ap length (spelled_joined _ _ e.tokens fits.bytes fits.spelled), fits.short);
}

pub packet_count : (id : ℕ) (last : Bool) (tokens : List Token) → FitsOnePacket tokens → length (answer_packet id last tokens) ≤ 512
packet_count id last tokens fits = omega (arith, fits.short)
