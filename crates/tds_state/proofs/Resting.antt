-- What a session that rests is made of.
use Rattle.std.proofs.Common.{◌≡◌, true, false, Option, Some, None, refl, sym}
use Rattle.std.proofs.lemmas.Bool.{and_parts, eqb-true, false≢true, not-true}
use Rattle.std.specs.Prelude.{◌&&◌, ◌==◌, not, nat_lt}
use Rattle.tds_packet.specs.declared.status.Reset.{Reset}
use Rattle.tds_state.specs.declared.session.Session.{Session}
use Rattle.tds_state.specs.Asking.{may_make_handles}
use Rattle.tds_state.specs.Handles.{are_closed}
use Rattle.tds_state.specs.Ledgers.{is_home}
use Rattle.tds_state.specs.Sessions.{has_nothing_due, has_nothing_open, is_owed, is_quiet, is_told_home, session_rests}

pub record Parts (s : Session) : Type 0 where
  pub acknowledged : s.is_acknowledged ≡ true
  pub read : s.is_lost ≡ false
  pub recoverable : s.is_recoverable ≡ true
  pub states : is_home s.states ≡ true
  pub changes : is_home s.changes ≡ true
  pub transaction : s.transaction ≡ 0
  pub owed : s.owed ≡ None
  pub pinned : s.is_pinned ≡ false
  pub handles : may_make_handles s.asked ≡ false
  pub closed : are_closed s.handles ≡ true
  pub quiet : is_quiet s.flight ≡ true
  pub awaits : s.awaits ≡ false
  pub letters : nat_lt s.asked.letters 8 ≡ true

nothing_owed : (o : Option Reset) → is_owed o ≡ false → o ≡ None
nothing_owed None h = refl
nothing_owed (Some reset) h = absurd (false≢true (sym h))

pub parts_of : (s : Session) → session_rests s ≡ true → Parts s
parts_of s h =
    let a = and_parts (is_told_home s) (has_nothing_open s && has_nothing_due s) h in
    let b = and_parts (has_nothing_open s) (has_nothing_due s) a.1 in
    let t1 = and_parts s.is_acknowledged (not s.is_lost && (s.is_recoverable && (is_home s.states && is_home s.changes))) a.0 in
    let t2 = and_parts (not s.is_lost) (s.is_recoverable && (is_home s.states && is_home s.changes)) t1.1 in
    let t3 = and_parts s.is_recoverable (is_home s.states && is_home s.changes) t2.1 in
    let t4 = and_parts (is_home s.states) (is_home s.changes) t3.1 in
    let f1 = and_parts (s.transaction == 0) (not (is_owed s.owed) && (not s.is_pinned && (not (may_make_handles s.asked) && are_closed s.handles))) b.0 in
    let f2 = and_parts (not (is_owed s.owed)) (not s.is_pinned && (not (may_make_handles s.asked) && are_closed s.handles)) f1.1 in
    let f3 = and_parts (not s.is_pinned) (not (may_make_handles s.asked) && are_closed s.handles) f2.1 in
    let f4 = and_parts (not (may_make_handles s.asked)) (are_closed s.handles) f3.1 in
    let d1 = and_parts (is_quiet s.flight) (not s.awaits && nat_lt s.asked.letters 8) b.1 in
    let d2 = and_parts (not s.awaits) (nat_lt s.asked.letters 8) d1.1 in
    record {
      acknowledged = t1.0;
      read = not-true s.is_lost t2.0;
      recoverable = t3.0;
      states = t4.0;
      changes = t4.1;
      transaction = eqb-true s.transaction 0 f1.0;
      owed = nothing_owed s.owed (not-true (is_owed s.owed) f2.0);
      pinned = not-true s.is_pinned f3.0;
      handles = not-true (may_make_handles s.asked) f4.0;
      closed = f4.1;
      quiet = d1.0;
      awaits = not-true s.awaits d2.0;
      letters = d2.1;
    }
