-- Answers that the checker computes.
use Rattle.std.specs.Prelude.{◌≡◌, refl, pos, negsuc, [], ◌∷◌, ◌++◌, Some, None, replicate, codes, true, false}
use Rattle.tds_session.specs.Session.{SessionState, new_session, no_settings, with_value, transacting, last_descriptor}
use Rattle.tds_session.specs.Effects.{error_token, done}
use Rattle.tds_session.specs.Answer.{script_answers}
use Rattle.tds_session.specs.Language.{statements_of}
use Rattle.tds_session.specs.Script.{step_of}
use Rattle.tds_session.specs.declared.statement.Statement.TheVariants as statement
use Rattle.tds_packet.specs.declared.status.Reset.TheVariants.{Full, KeepTransaction}
use Rattle.tds_request.specs.declared.request.Request.TheVariants as request
use Rattle.tds_token.specs.declared.env_change.EnvChange.TheVariants as change
use Rattle.tds_token.specs.declared.token.Token.TheVariants as token

-- the session of a user who set x to 7 and is in transaction 1
abbrev used : SessionState
used = transacting (with_value 120 (pos 7) new_session)

-- after a full reset, of a header without a transaction: x is unset, and nothing is to commit
fully_reset : script_answers used 0 (Some Full) (request.Batch (codes "get x;commit")) ≡
    record { tokens = token.Env change.ResetDone ∷ []; last = false; reset = Some Full; after = record { settings = no_settings; descriptor = 0; next_descriptor = 2 } }
    ∷ record { tokens = token.ReturnStatus (pos 0) ∷ done 1 ∷ []; last = false; reset = None; after = record { settings = no_settings; descriptor = 0; next_descriptor = 2 } }
    ∷ record { tokens = error_token 50003 (codes "no transaction") ∷ []; last = false; reset = None; after = record { settings = no_settings; descriptor = 0; next_descriptor = 2 } }
    ∷ record { tokens = done 2 ∷ []; last = true; reset = None; after = record { settings = no_settings; descriptor = 0; next_descriptor = 2 } }
    ∷ []
fully_reset = refl

-- after a reset that keeps the transaction: x is unset, and the transaction ends
kept : script_answers used 1 (Some KeepTransaction) (request.Batch (codes "get x;commit")) ≡
    record { tokens = token.Env change.ResetDone ∷ []; last = false; reset = Some KeepTransaction; after = record { settings = no_settings; descriptor = 1; next_descriptor = 2 } }
    ∷ record { tokens = token.ReturnStatus (pos 0) ∷ done 1 ∷ []; last = false; reset = None; after = record { settings = no_settings; descriptor = 1; next_descriptor = 2 } }
    ∷ record { tokens = token.Env (change.Commit 1) ∷ done 1 ∷ []; last = false; reset = None; after = record { settings = no_settings; descriptor = 0; next_descriptor = 2 } }
    ∷ record { tokens = done 0 ∷ []; last = true; reset = None; after = record { settings = no_settings; descriptor = 0; next_descriptor = 2 } }
    ∷ []
kept = refl

-- a batch and a commit of a header with another descriptor
differing : script_answers used 2 None (request.Batch (codes "get x")) ≡
    record { tokens = error_token 50010 (codes "descriptor") ∷ []; last = false; reset = None; after = used }
    ∷ record { tokens = done 2 ∷ []; last = true; reset = None; after = used }
    ∷ []
differing = refl

differing_commit : script_answers used 0 None (request.Commit None) ≡
    record { tokens = error_token 50010 (codes "descriptor") ∷ done 2 ∷ []; last = true; reset = None; after = used } ∷ []
differing_commit = refl

-- begin, commit, begin: descriptors 1 and 2
begun_twice : script_answers new_session 0 None (request.Batch (codes "begin;commit;begin")) ≡
    record { tokens = token.Env (change.Begin 1) ∷ done 1 ∷ []; last = false; reset = None; after = record { settings = no_settings; descriptor = 1; next_descriptor = 2 } }
    ∷ record { tokens = token.Env (change.Commit 1) ∷ done 1 ∷ []; last = false; reset = None; after = record { settings = no_settings; descriptor = 0; next_descriptor = 2 } }
    ∷ record { tokens = token.Env (change.Begin 2) ∷ done 1 ∷ []; last = false; reset = None; after = record { settings = no_settings; descriptor = 2; next_descriptor = 3 } }
    ∷ record { tokens = done 0 ∷ []; last = true; reset = None; after = record { settings = no_settings; descriptor = 2; next_descriptor = 3 } }
    ∷ []
begun_twice = refl

-- a begin where the descriptors are used up changes nothing
used_up : step_of (record { settings = no_settings; descriptor = 0; next_descriptor = last_descriptor }) statement.Begin ≡
    record { tokens = error_token 50004 (codes "no descriptor") ∷ []; after = record { settings = no_settings; descriptor = 0; next_descriptor = last_descriptor } }
used_up = refl

-- each statement once
each_statement : statements_of (codes "say aZ09;rows 1000000 64;set x -2147483648;get x;begin;commit;rollback;fail 999999") ≡ Some (
    statement.Say (codes "aZ09") ∷ statement.Rows 1000000 64 ∷ statement.Set 120 (negsuc 2147483647) ∷ statement.Get 120
    ∷ statement.Begin ∷ statement.Commit ∷ statement.Rollback ∷ statement.Fail 999999 ∷ [])
each_statement = refl

-- the limits, each passed by one
too_large : statements_of (codes "rows 1000001 1") ≡ None
too_large = refl

no_word : statements_of (codes "say") ≡ None
no_word = refl

empty_statement : statements_of (codes "get x;") ≡ None
empty_statement = refl

minus_zero : statements_of (codes "set x -0") ≡ None
minus_zero = refl

double_space : statements_of (codes "say  a") ≡ None
double_space = refl

trailing_space : statements_of (codes "begin ") ≡ None
trailing_space = refl

capitals : statements_of (codes "SAY a") ≡ None
capitals = refl

letters_201 : statements_of (codes "say " ++ replicate 201 97) ≡ None
letters_201 = refl

letters_200 : statements_of (codes "say " ++ replicate 200 97) ≡ Some (statement.Say (replicate 200 97) ∷ [])
letters_200 = refl

fail_million : statements_of (codes "fail 1000000") ≡ None
fail_million = refl

leading_zero : statements_of (codes "fail 01") ≡ None
leading_zero = refl

no_statement : statements_of [] ≡ None
no_statement = refl
