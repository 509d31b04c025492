-- An application's connection is lent to it anew, with its transaction: it is idle before, and behind it.
use Rattle.std.proofs.Common.{◌≡◌, ◌∙◌, ◌==◌, ◌&&◌, ℕ, suc, Bool, true, false, not, List, [], ◌∷◌, ◌++◌, refl, sym, ap, subst}
use Rattle.std.specs.Prelude.{Option, Some, None, if◌then◌else◌}
use Rattle.std.proofs.lemmas.Bool.{eqb-true, eq-eqb}
use Rattle.tds_packet.specs.declared.status.Reset.TheVariants.{KeepTransaction}
use Rattle.tds_wire.specs.declared.told.Token.{Token}
use Rattle.tds_service.specs.Line as line
use Rattle.tds_service.specs.Line.{Line, LineStage}
use Rattle.tds_service.specs.History.{history, line_after}
use Rattle.tds_service.specs.Service as calls
use Rattle.tds_service.specs.Service.{ServiceStep, Call, Place, Leased, Cleaning, Kept, Free, Draining, Seat, find_by, change_by, has_lease, has_ticket, has_number, is_idle, is_open, keeps, may_keep, seat_numbered, on, on_one, step, steps, does, nothing}
use Rattle.tds_service.proofs.Numbered.{change_here, change_other, is_found}
use Rattle.tds_relay.specs.declared.pool.Hold.{Hold}
use Rattle.tds_relay.specs.Pool as pool
use Rattle.tds_relay.specs.Pool.{Pool, PoolTurn, holding, lent_in, moves, ticket_in, turn, without_lease, without_number}
use Rattle.tds_relay.specs.Promises.{CaresFor, IsCaredFor}
use Rattle.tds_relay.proofs.promises.Seats.{Distinct, each_found, found_meets, found_other}
use Rattle.tds_relay.proofs.promises.Tidy.{step_rises}
use Rattle.tds_relay.proofs.promises.Renewing.{idle_is}
use Rattle.tds_relay.proofs.promises.Caring.{Sound}
use Rattle.tds_relay.proofs.held.Lists.{theirs, theirs_left, theirs_one}
use Rattle.tds_relay.proofs.held.Sparing.{none_on}
use Rattle.tds_relay.proofs.held.Others.{Its, found, key_is}
use Rattle.tds_relay.proofs.held.Ours.{Gone, append_done, by_lease, not_same, on_here, same_number}

and_first : (a b : Bool) → (a && b) ≡ true → a ≡ true
and_first true b e = refl
and_first false b e = absurd (let u : ⊥ = cc in u)

may_idle : (c : Seat) → may_keep c ≡ true → c.line.stage ≡ line.Idle
may_idle c may = idle_is c.line.stage (and_first (is_idle c.line.stage) (is_open c.line.heard.mark c.line.heard.descriptor) may)

-- ---- The connection that is kept is found by its ticket

not_kept : (d : Pool) (ticket n : ℕ) (place : Place) (l : line.Line) → IsCaredFor d.holds n place l → keeps ticket place ≡ true → ⊥
not_kept d ticket n (Leased lease) l h e = let u : ⊥ = cc in u
not_kept d ticket n (Cleaning lease) l h e = let u : ⊥ = cc in u
not_kept d ticket n (Kept other) l h e = h
not_kept d ticket n Free l h e = let u : ⊥ = cc in u
not_kept d ticket n Draining l h e = let u : ⊥ = cc in u

ticket_by : (d : Pool) (ticket : ℕ) (h : Hold) (c x : Seat) (b : Bool) → Sound d → find_by (has_lease h.lease) d.service.seats ≡ Some c → (c.number == x.number) ≡ b → has_ticket ticket x ≡ true
    → seat_numbered x.number (change_by (has_lease h.lease) (Some (Kept ticket)) c.line d.service.seats) ≡ Some x → Some x ≡ Some (record { number = c.number; place = Kept ticket; line = c.line })
ticket_by d ticket h c x true sound by e meets there =
    let number : c.number ≡ x.number = eqb-true c.number x.number e in
    let here = change_here (has_lease h.lease) c (Kept ticket) c.line d.service.seats sound.tidy.distinct by in
    let at : seat_numbered c.number (change_by (has_lease h.lease) (Some (Kept ticket)) c.line d.service.seats) ≡ Some x =
    subst (λ (k : ℕ). seat_numbered k (change_by (has_lease h.lease) (Some (Kept ticket)) c.line d.service.seats) ≡ Some x) (sym number) there in
    sym at ∙ here
ticket_by d ticket h c x false sound by e meets there =
    let other = change_other (has_lease h.lease) x.number c (Some (Kept ticket)) c.line d.service.seats e by in
    let was : seat_numbered x.number d.service.seats ≡ Some x = sym other ∙ there in
    let cared : CaresFor d.holds x = each_found (CaresFor d.holds) (has_number x.number) x d.service.seats sound.cared was in
    absurd (not_kept d ticket x.number x.place x.line cared meets)

ticket_of : (d : Pool) (ticket : ℕ) (h : Hold) (c : Seat) (o : Option Seat) → Sound d → find_by (has_lease h.lease) d.service.seats ≡ Some c
    → Distinct (change_by (has_lease h.lease) (Some (Kept ticket)) c.line d.service.seats)
    → find_by (has_ticket ticket) (change_by (has_lease h.lease) (Some (Kept ticket)) c.line d.service.seats) ≡ o → o ≡ Some (record { number = c.number; place = Kept ticket; line = c.line })
ticket_of d ticket h c None sound by distinct e =
    let here = change_here (has_lease h.lease) c (Kept ticket) c.line d.service.seats sound.tidy.distinct by in
    let fails : has_ticket ticket (record { number = c.number; place = Kept ticket; line = c.line }) ≡ false =
    found_other (has_number c.number) (has_ticket ticket) (record { number = c.number; place = Kept ticket; line = c.line }) (change_by (has_lease h.lease) (Some (Kept ticket)) c.line d.service.seats) here e in
    let u : true ≡ false = sym (same_number ticket) ∙ fails in
    absurd (let v : ⊥ = cc in v)
ticket_of d ticket h c (Some x) sound by distinct e =
    ticket_by d ticket h c x (c.number == x.number) sound by refl (found_meets (has_ticket ticket) x (change_by (has_lease h.lease) (Some (Kept ticket)) c.line d.service.seats) e)
    (is_found (has_ticket ticket) x (change_by (has_lease h.lease) (Some (Kept ticket)) c.line d.service.seats) distinct e)

pub marked_idle : (l : Line) → l.stage ≡ line.Idle → (line_after {T = Token} l (line.Mark KeepTransaction ∷ [])).stage ≡ line.Idle
marked_idle l is = ap (λ (st : LineStage). (line.marks {T = Token} l KeepTransaction st).line.stage) is ∙ is

-- ---- What comes of it

-- It holds an idle connection where it held one.
pub record IsLent (key : ℕ) (d : Pool) : Type 0 where
  pub hold : Hold
  pub seat : Seat
  pub its : Its d key hold seat
  pub idle : seat.line.stage ≡ line.Idle

abbrev pub relent : ℕ → Seat → Seat
relent lease c = record { number = c.number; place = Leased lease; line = line_after {T = Token} c.line (line.Mark KeepTransaction ∷ []) }

-- It holds the one that it held, by another lease. That is marked, and nothing else is done there.
pub record IsRelent (d : Pool) (key : ℕ) (h : Hold) (c : Seat) (resumes : Bool) : Type 0 where
  pub lease : ℕ
  pub its : Its (turn d (pool.Renews key resumes)).pool key (holding h.key lease c.number) (relent lease c)
  pub out : on c.number (steps d.service (turn d (pool.Renews key resumes)).calls) ≡ history {T = Token} c.line (line.Mark KeepTransaction ∷ [])

pub relent_lent : (d : Pool) (key : ℕ) (h : Hold) (c : Seat) (resumes : Bool) → c.line.stage ≡ line.Idle → IsRelent d key h c resumes → IsLent key (turn d (pool.Renews key resumes)).pool
relent_lent d key h c resumes idle r = record { hold = holding h.key r.lease c.number; seat = relent r.lease c; its = r.its; idle = marked_idle c.line idle }

abbrev pub ticket_for : Pool → Hold → Option ℕ
ticket_for d h = ticket_in (step {T = Token} d.service (calls.Keep h.lease)).reply

pub data Renewed (d : Pool) (key : ℕ) (h : Hold) (c : Seat) (resumes : Bool) : Type 0 where
  -- nothing is done
  Rests : ticket_for d h ≡ None → turn d (pool.Renews key resumes) ≡ pool.pool_rests d → Renewed d key h c resumes
  -- it was idle, and is; or, where memory is refused to it, it is gone
  Lends : (ticket : ℕ) → ticket_for d h ≡ Some ticket → resumes ≡ true → c.line.stage ≡ line.Idle → IsRelent d key h c resumes → Renewed d key h c resumes
  Goes : (ticket : ℕ) → ticket_for d h ≡ Some ticket → resumes ≡ false → c.line.stage ≡ line.Idle → Gone key (turn d (pool.Renews key resumes)).pool → Renewed d key h c resumes

module _ (d : Pool) (key : ℕ) (h : Hold) (c : Seat) (sound : Sound d) (its : Its d key h c) where
  unkept : (resumes : Bool) → may_keep c ≡ false → Renewed d key h c resumes
  unkept resumes may =
      let by = by_lease d key h c sound its in
      let f = found d key h c sound its in
      let kept = step {T = Token} d.service (calls.Keep h.lease) in
      let none : ticket_in kept.reply ≡ None = rw (by, may) refl in
      Rests none (ap (λ (x : Option Hold). pool.renews d resumes x) f ∙ ap (λ (x : Option ℕ). pool.keeps_by d h resumes kept.service x) none)

  kept : may_keep c ≡ true → Renewed d key h c true
  kept may =
      let f = found d key h c sound its in
      let by = by_lease d key h c sound its in
      let idle = may_idle c may in
      let ticket = suc d.service.given in
      let lease = suc ticket in
      let keep = step {T = Token} d.service (calls.Keep h.lease) in
      let kept2 : ServiceStep Token = does {T = Token} d.service ticket (has_lease h.lease) c (Some (Kept ticket)) [] (calls.Ticket ticket) in
      let keeping : keep ≡ kept2 = ap (λ (o : Option Seat). calls.keeps_it {T = Token} d.service (has_lease h.lease) o) by
      ∙ ap (λ (b : Bool). if b then kept2 else nothing d.service calls.NotNow) may in
      let s1 = kept2.service in
      let distinct : Distinct s1.seats = subst (λ (x : ServiceStep Token). Distinct x.service.seats) keeping (step_rises d.service (calls.Keep h.lease) sound.tidy).tidy.distinct in
      let c1 : Seat = record { number = c.number; place = Kept ticket; line = c.line } in
      let found1 : find_by (has_ticket ticket) s1.seats ≡ Some c1 = ticket_of d ticket h c (find_by (has_ticket ticket) s1.seats) sound by distinct refl in
      let l2 = line_after {T = Token} c.line (line.Mark KeepTransaction ∷ []) in
      let resume2 : ServiceStep Token = does {T = Token} s1 lease (has_ticket ticket) c1 (Some (Leased lease)) (line.Mark KeepTransaction ∷ []) (calls.Lent lease c.number true) in
      let can : is_idle c.line.stage ≡ true = ap is_idle idle in
      let resuming : step {T = Token} s1 (calls.Resume ticket) ≡ resume2 = ap (λ (o : Option Seat). calls.resumes {T = Token} s1 (has_ticket ticket) o) found1
      ∙ ap (λ (b : Bool). if b then resume2 else nothing s1 calls.NotNow) can in
      let h2 = holding h.key lease c.number in
      let more = without_lease h.lease d.holds ++ h2 ∷ [] in
      let all : List (Call Token) = calls.Keep h.lease ∷ calls.Resume ticket ∷ [] in
      let t : turn d (pool.Renews key true) ≡ moves d more d.line all = ap (λ (x : Option Hold). pool.renews d true x) f
      ∙ ap (λ (x : ServiceStep Token). pool.keeps_by d h true x.service (ticket_in x.reply)) keeping ∙ ap (λ (x : ServiceStep Token). pool.renews_by d h ticket (lent_in x.reply) true) resuming in
      let c2 : Seat = relent lease c in
      let there : seat_numbered c.number resume2.service.seats ≡ Some c2 = change_here (has_ticket ticket) c1 (Leased lease) l2 s1.seats distinct found1 in
      let there2 : seat_numbered c.number (moves d more d.line all).pool.service.seats ≡ Some c2 =
      ap (λ (x : ServiceStep Token). seat_numbered c.number (step {T = Token} x.service (calls.Resume ticket)).service.seats) keeping
      ∙ ap (λ (x : ServiceStep Token). seat_numbered c.number x.service.seats) resuming ∙ there in
      let yes : (h.key == key) ≡ true = eq-eqb h.key key (key_is d key h c sound its) in
      let sole : theirs key more ≡ h2 ∷ [] =
      theirs_one key h2 (without_lease h.lease d.holds) (theirs_left key h (λ (x : Hold). not (x.lease == h.lease)) d.holds its.sole (not_same h.lease)) yes in
      let its2 : Its (turn d (pool.Renews key true)).pool key h2 c2 = subst (λ (x : PoolTurn). Its x.pool key h2 c2) (sym t) (record { sole = sole; there = there2; lent = refl; line = its.line }) in
      let done = history {T = Token} c.line (line.Mark KeepTransaction ∷ []) in
      let out : on c.number (steps d.service (turn d (pool.Renews key true)).calls) ≡ done = ap (λ (x : PoolTurn). on c.number (steps d.service x.calls)) t
      ∙ ap (λ (x : ServiceStep Token). on_one (x.number == c.number) x.dones (on_one ((step {T = Token} x.service (calls.Resume ticket)).number == c.number) (step {T = Token} x.service (calls.Resume ticket)).dones [])) keeping
      ∙ ap (λ (x : ServiceStep Token). on_one (c.number == c.number) [] (on_one (x.number == c.number) x.dones [])) resuming
      ∙ none_on (c.number == c.number) (on_one (c.number == c.number) done []) ∙ on_here (c.number == c.number) done (same_number c.number) ∙ append_done done in
      Lends ticket (ap (λ (x : ServiceStep Token). ticket_in x.reply) keeping) refl idle (record { lease = lease; its = its2; out = out })

  -- where memory is refused to it, it's closed
  refused : may_keep c ≡ true → Renewed d key h c false
  refused may =
      let f = found d key h c sound its in
      let by = by_lease d key h c sound its in
      let ticket = suc d.service.given in
      let keep = step {T = Token} d.service (calls.Keep h.lease) in
      let some : ticket_in keep.reply ≡ Some ticket = rw (by, may) refl in
      let t2 : PoolTurn = moves d (without_number h.number d.holds) d.line (calls.Keep h.lease ∷ calls.Lost h.number ∷ []) in
      let t : turn d (pool.Renews key false) ≡ t2 = ap (λ (x : Option Hold). pool.renews d false x) f ∙ ap (λ (x : Option ℕ). pool.keeps_by d h false keep.service x) some in
      let gone : Gone key t2.pool = record { holds = theirs_left key h (λ (x : Hold). not (x.number == h.number)) d.holds its.sole (not_same h.number); waits = its.line } in
      Goes ticket some refl (may_idle c may) (subst (λ (x : PoolTurn). Gone key x.pool) (sym t) gone)

  by : (resumes b : Bool) → may_keep c ≡ b → Renewed d key h c resumes
  by resumes false may = unkept resumes may
  by true true may = kept may
  by false true may = refused may

  pub renewed : (resumes : Bool) → Renewed d key h c resumes
  renewed resumes = by resumes (may_keep c) refl
