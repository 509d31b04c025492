-- Commits and rollbacks that begin anew, computed by the checker.
use Rattle.std.specs.Prelude.{◌≡◌, ℕ, refl, [], ◌∷◌, Some, None, codes, true, false, flat_map}
use Rattle.tds_session.specs.Session.{SessionState, no_settings, last_descriptor}
use Rattle.tds_session.specs.Effects.{error_token, done}
use Rattle.tds_session.specs.Answer.{script_answers}
use Rattle.tds_packet.specs.declared.status.Reset.TheVariants.{Full, KeepTransaction}
use Rattle.tds_request.specs.declared.request.Request.TheVariants as request
use Rattle.tds_token.specs.declared.env_change.EnvChange.TheVariants as change
use Rattle.tds_token.specs.declared.token.Token.TheVariants as token
use Rattle.tds_token.specs.Layout.{spelling}

-- a session without settings
abbrev at : ℕ → ℕ → SessionState
at descriptor next = record { settings = no_settings; descriptor = descriptor; next_descriptor = next }

-- transaction 1 is committed, and transaction 2 begins
committed : script_answers (at 1 2) 1 None (request.Commit (Some 2)) ≡
    record { tokens = token.Env (change.Commit 1) ∷ token.Env (change.Begin 2) ∷ done 0 ∷ []; last = true; reset = None; after = at 2 3 } ∷ []
committed = refl

-- its data: 9 with the old descriptor, 8 with the new one, and the final DONE
committed_bytes : flat_map spelling (token.Env (change.Commit 1) ∷ token.Env (change.Begin 2) ∷ done 0 ∷ []) ≡
    0xE3 ∷ 0x0B ∷ 0x00 ∷ 0x09 ∷ 0x00 ∷ 0x08 ∷ 0x01 ∷ 0x00 ∷ 0x00 ∷ 0x00 ∷ 0x00 ∷ 0x00 ∷ 0x00 ∷ 0x00
    ∷ 0xE3 ∷ 0x0B ∷ 0x00 ∷ 0x08 ∷ 0x08 ∷ 0x02 ∷ 0x00 ∷ 0x00 ∷ 0x00 ∷ 0x00 ∷ 0x00 ∷ 0x00 ∷ 0x00 ∷ 0x00
    ∷ 0xFD ∷ 0x00 ∷ 0x00 ∷ 0x00 ∷ 0x00 ∷ 0x00 ∷ 0x00 ∷ 0x00 ∷ 0x00 ∷ 0x00 ∷ 0x00 ∷ 0x00 ∷ 0x00 ∷ []
committed_bytes = refl

-- transaction 6 is rolled back, and transaction 9 begins
rolled_back : script_answers (at 6 9) 6 None (request.Rollback (Some 0)) ≡
    record { tokens = token.Env (change.Rollback 6) ∷ token.Env (change.Begin 9) ∷ done 0 ∷ []; last = true; reset = None; after = at 9 10 } ∷ []
rolled_back = refl

-- outside a transaction nothing begins
outside : script_answers (at 0 5) 0 None (request.Commit (Some 2)) ≡
    record { tokens = error_token 50003 (codes "no transaction") ∷ done 2 ∷ []; last = true; reset = None; after = at 0 5 } ∷ []
outside = refl

-- the last descriptor but one begins; behind it no other does, and the transaction stays
last_but_one : script_answers (at 7 18446744073709551614) 7 None (request.Commit (Some 2)) ≡
    record { tokens = token.Env (change.Commit 7) ∷ token.Env (change.Begin 18446744073709551614) ∷ done 0 ∷ []; last = true; reset = None; after = at 18446744073709551614 last_descriptor } ∷ []
last_but_one = refl

used_up : script_answers (at 18446744073709551614 last_descriptor) 18446744073709551614 None (request.Rollback (Some 2)) ≡
    record { tokens = error_token 50004 (codes "no descriptor") ∷ done 2 ∷ []; last = true; reset = None; after = at 18446744073709551614 last_descriptor } ∷ []
used_up = refl

-- with the descriptors used up, too, there is first of all no transaction
used_up_outside : script_answers (at 0 last_descriptor) 0 None (request.Rollback (Some 2)) ≡
    record { tokens = error_token 50003 (codes "no transaction") ∷ done 2 ∷ []; last = true; reset = None; after = at 0 last_descriptor } ∷ []
used_up_outside = refl

-- a header of another transaction ends and begins nothing
differing : script_answers (at 2 3) 1 None (request.Commit (Some 2)) ≡
    record { tokens = error_token 50010 (codes "descriptor") ∷ done 2 ∷ []; last = true; reset = None; after = at 2 3 } ∷ []
differing = refl

-- behind a full reset there is nothing to end; behind one that keeps the transaction there is
fully_reset : script_answers (at 1 2) 0 (Some Full) (request.Commit (Some 2)) ≡
    record { tokens = token.Env change.ResetDone ∷ []; last = false; reset = Some Full; after = at 0 2 }
    ∷ record { tokens = error_token 50003 (codes "no transaction") ∷ done 2 ∷ []; last = true; reset = None; after = at 0 2 }
    ∷ []
fully_reset = refl

kept : script_answers (at 1 2) 1 (Some KeepTransaction) (request.Commit (Some 2)) ≡
    record { tokens = token.Env change.ResetDone ∷ []; last = false; reset = Some KeepTransaction; after = at 1 2 }
    ∷ record { tokens = token.Env (change.Commit 1) ∷ token.Env (change.Begin 2) ∷ done 0 ∷ []; last = true; reset = None; after = at 2 3 }
    ∷ []
kept = refl
