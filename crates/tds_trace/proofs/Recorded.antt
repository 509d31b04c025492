-- A call more at a carrier: what it handed over and brought, and the event that made it.
use Rattle.std.proofs.Common.{◌≡◌, ◌≢◌, ◌==◌, ◌<◌, ◌+◌, ℕ, List, [], ◌∷◌, ◌++◌, length, drop, Bool, true, false, if◌then◌else◌, is_err, Option, Some, None, Result, Ok, Err, IfOk, IfSome, OnOk, inl, inr, refl, sym, ap, subst, ◌∙◌, append-nil, arith}
use Rattle.std.proofs.Math.Seq.{drop-length}
use Rattle.std.proofs.lemmas.Bool.{eq-eqb}
use Rattle.std.proofs.lemmas.Bool.Decides.{eqb_tells}
use Rattle.std.proofs.lemmas.List.{length-drop}
use Rattle.std.proofs.lemmas.List.Sums.{fold-append}
use Rattle.std.proofs.Math.Logic.{∥∥₁_map}
use Rattle.tds_packet.specs.declared.kind.Direction.{Direction}
use Rattle.tds_packet.specs.declared.kind.Direction.TheVariants.{ToServer, ToClient}
use Rattle.tds_play.specs.Pipe.{BegunEvent, Changes, IsOpen, MayCarry, Pipe, brought_on, carried_on, since, stuck_on, traffic}
use Rattle.tds_play.specs.declared.carrier.CarrierError.{CarrierError}
use Rattle.tds_play.specs.declared.carrier.CarrierError.TheVariants.{Lost, Memory}
use Rattle.tds_trace.specs.Calls.{AreCallsAt, brought_after, brought_of, handed_after, handed_of}
use Rattle.tds_trace.specs.Turns.{IsRecordOf, MayBe, MayBring, made_on}
use Rattle.tds_trace.specs.declared.call.Call.{Call}
use Rattle.tds_trace.specs.declared.call.Made.{Made}
use Rattle.tds_trace.specs.declared.call.Made.TheVariants as made
use Rattle.tds_trace.proofs.Turning.{called}

-- ---- One call more

handed_more : (calls : List Call) (call : Call) (n : ℕ) (d : Direction)
    → handed_of (calls ++ call ∷ []) n d ≡ (if call.conn == n then handed_after call.made d (handed_of calls n d) else handed_of calls n d)
handed_more calls call n d = fold-append _ [] calls (call ∷ [])

brought_more : (calls : List Call) (call : Call) (n : ℕ) (d : Direction)
    → brought_of (calls ++ call ∷ []) n d ≡ (if call.conn == n then brought_after call.made d (brought_of calls n d) else brought_of calls n d)
brought_more calls call n d = fold-append _ [] calls (call ∷ [])

-- A call does this to what was handed over and what came, each way.
abbrev pub Changed : Made → Option Pipe → Option Pipe → Type 0
Changed made old new =
    (d : Direction)
    → ((traffic new d).handed ≡ handed_after made d (traffic old d).handed) × ((traffic new d).came ≡ brought_after made d (traffic old d).came)

kept_call : (calls : List Call) (call : Call) (old new : ℕ → Option Pipe) (pipe : Option Pipe)
    → AreCallsAt calls old → Changes old new call.conn pipe → Changed call.made (old call.conn) pipe
    → AreCallsAt (calls ++ call ∷ []) new
kept_call calls call old new pipe was changes does n d =
    elim (eqb_tells call.conn n) [
      | inl same ↦
          subst (λ (m : ℕ). ((traffic (new m) d).handed ≡ handed_of (calls ++ call ∷ []) m d) × ((traffic (new m) d).came ≡ brought_of (calls ++ call ∷ []) m d)) same.1
          (let itself : (call.conn == call.conn) ≡ true = eq-eqb call.conn call.conn refl in (
            ap (λ (p : Option Pipe). (traffic p d).handed) changes.here ∙ ((does d).0 ∙ (ap (handed_after call.made d) (was call.conn d).0
                ∙ sym (handed_more calls call call.conn d ∙ rw itself refl))),
            ap (λ (p : Option Pipe). (traffic p d).came) changes.here ∙ ((does d).1 ∙ (ap (brought_after call.made d) (was call.conn d).1
                ∙ sym (brought_more calls call call.conn d ∙ rw itself refl))),
          ))
      | inr other ↦ (
        ap (λ (p : Option Pipe). (traffic p d).handed) (changes.others n (λ e. other.1 (sym e))) ∙ ((was n d).0
            ∙ sym (handed_more calls call n d ∙ rw other.0 refl)),
        ap (λ (p : Option Pipe). (traffic p d).came) (changes.others n (λ e. other.1 (sym e))) ∙ ((was n d).1
            ∙ sym (brought_more calls call n d ∙ rw other.0 refl)),
      )
    ]

-- ---- What it does to the bytes

changed : (made : Made) (failed : Bool) (before p : Option Pipe) → MayBe made failed before p → Changed made p (made_on made failed p)
changed made.Open failed before p may ToServer = (refl, refl)
changed made.Open failed before p may ToClient = (refl, refl)
changed (made.Send way bytes) failed before None may d = absurd may.1
changed (made.Send ToServer bytes) failed before (Some p) may ToServer = (refl, refl)
changed (made.Send ToClient bytes) failed before (Some p) may ToClient = (refl, refl)
changed (made.Send ToServer bytes) failed before (Some p) may ToClient = (sym (append-nil p.to_client.handed), refl)
changed (made.Send ToClient bytes) failed before (Some p) may ToServer = (sym (append-nil p.to_server.handed), refl)
changed (made.Carry way bytes) false before None may d = absurd may.1
changed (made.Carry way bytes) true before None may d = absurd may.1
changed (made.Carry ToServer bytes) false before (Some p) may ToServer = (refl, refl)
changed (made.Carry ToClient bytes) false before (Some p) may ToClient = (refl, refl)
changed (made.Carry ToServer bytes) false before (Some p) may ToClient = (refl, sym (append-nil p.to_client.came))
changed (made.Carry ToClient bytes) false before (Some p) may ToServer = (refl, sym (append-nil p.to_server.came))
changed (made.Carry ToServer bytes) true before (Some p) may ToServer = (refl, refl)
changed (made.Carry ToClient bytes) true before (Some p) may ToClient = (refl, refl)
changed (made.Carry ToServer bytes) true before (Some p) may ToClient = (refl, sym (append-nil p.to_client.came))
changed (made.Carry ToClient bytes) true before (Some p) may ToServer = (refl, sym (append-nil p.to_server.came))
changed made.Cut failed before None may d = absurd may.1
changed made.Cut failed before (Some p) may ToServer = (refl, refl)
changed made.Cut failed before (Some p) may ToClient = (refl, refl)

-- ---- What was answered

pub on_ok : {X E : Type 0} (r : Result X E) {P : Type 0} → is_err r ≡ false → OnOk r P → P
on_ok (Ok x) fine holds = holds
on_ok (Err e) fails holds = absurd (cc)

-- It did what it does where it failed, or where it didn't.
pub done_by : {X : Type 0} (r : Result X CarrierError) (made : Made) (pipes next : ℕ → Option Pipe) (conn : ℕ)
    → r ≢ Err Memory → OnOk r (Changes pipes next conn (made_on made false (pipes conn)))
    → (r ≡ Err Lost → Changes pipes next conn (made_on made true (pipes conn)))
    → Changes pipes next conn (made_on made (is_err r) (pipes conn))
done_by (Ok x) made pipes next conn known ok lost = ok
done_by (Err Lost) made pipes next conn known ok lost = lost refl
done_by (Err Memory) made pipes next conn known ok lost = absurd (known refl)

-- Nothing came where that failed.
stuck_same : (p : Option Pipe) (d : Direction) (bytes : List ℕ) → bytes ≡ [] → stuck_on p d ≡ brought_on p d bytes true
stuck_same None d bytes none = refl
stuck_same (Some p) ToServer bytes none =
    ap (λ (came : List ℕ). Some (record p { to_server = record p.to_server { came = came; carry_failures = p.to_server.carry_failures + 1 } }))
    (sym (ap (λ (more : List ℕ). p.to_server.came ++ more) none ∙ append-nil p.to_server.came))
stuck_same (Some p) ToClient bytes none =
    ap (λ (came : List ℕ). Some (record p { to_client = record p.to_client { came = came; carry_failures = p.to_client.carry_failures + 1 } }))
    (sym (ap (λ (more : List ℕ). p.to_client.came ++ more) none ∙ append-nil p.to_client.came))

-- What a call that brings bytes did.
pub brought_by : (r : Result ℕ CarrierError) (way : Direction) (pipes next : ℕ → Option Pipe) (conn : ℕ) (before after : List ℕ)
    → OnOk r (Changes pipes next conn (carried_on (pipes conn) way (drop (length before) after)))
    → (r ≡ Err Lost → Changes pipes next conn (stuck_on (pipes conn) way)) → (r ≡ Err Lost → after ≡ before) → r ≢ Err Memory
    → Changes pipes next conn (brought_on (pipes conn) way (drop (length before) after) (is_err r))
brought_by (Ok n) way pipes next conn before after ok lost nothing known = ok
brought_by (Err Lost) way pipes next conn before after ok lost nothing known =
    subst (Changes pipes next conn) (stuck_same (pipes conn) way (drop (length before) after)
    (ap (drop (length before)) (nothing refl) ∙ drop-length before)) (lost refl)
brought_by (Err Memory) way pipes next conn before after ok lost nothing known = absurd (known refl)

-- It may be asked, and answered so.
pub may_bring : (r : Result ℕ CarrierError) (bytes : List ℕ) (before now : Option Pipe) (old after : List ℕ)
    → IsOpen now → MayCarry true before now → IfOk r (λ n. 0 < n) → IfOk r (λ n. length after ≡ length old + n)
    → (r ≡ Err Lost → after ≡ old) → r ≢ Err Memory → bytes ≡ drop (length old) after
    → MayBring bytes (is_err r) before now
may_bring (Ok n) bytes before now old after is_open may least count nothing known is =
    (omega (arith, ap length is, length-drop (length old) after, least, count), is_open, may)
may_bring (Err Lost) bytes before now old after is_open may least count nothing known is =
    (is ∙ (ap (drop (length old)) (nothing refl) ∙ drop-length old), is_open, may)
may_bring (Err Memory) bytes before now old after is_open may least count nothing known is = absurd (known refl)

-- ---- The record, with one call more

pub all_kept : (event : Option ℕ) (calls all : List Call) (conn : ℕ) (made : Made) (failed : Bool) (before : List BegunEvent) (pipes next : ℕ → Option Pipe)
    → event ≢ None → IfSome event (λ number. all ≡ calls ++ record { event = number; conn = conn; made = made; failed = failed } ∷ [])
    → Changes pipes next conn (made_on made failed (pipes conn)) → MayBe made failed (since before conn) (pipes conn)
    → AreCallsAt calls pipes → AreCallsAt all next
all_kept None calls all conn made failed before pipes next some is changes may was = absurd (some refl)
all_kept (Some number) calls all conn made failed before pipes next some is changes may was =
    subst (λ (cs : List Call). AreCallsAt cs next) (sym is)
    (kept_call calls (record { event = number; conn = conn; made = made; failed = failed }) pipes next (made_on made failed (pipes conn)) was changes
    (changed made failed (since before conn) (pipes conn) may))

pub turn_kept : (event : Option ℕ) (calls all : List Call) (conn : ℕ) (made : Made) (failed : Bool) (before after : List BegunEvent)
    (pipes next : ℕ → Option Pipe)
    → event ≢ None → IfSome event (λ number. all ≡ calls ++ record { event = number; conn = conn; made = made; failed = failed } ∷ [])
    → Changes pipes next conn (made_on made failed (pipes conn)) → MayBe made failed (since before conn) (pipes conn) → after ≡ before
    → ∥ IsRecordOf event calls before pipes ∥₁ → ∥ IsRecordOf event all after next ∥₁
turn_kept None calls all conn made failed before after pipes next some is changes may same was = absurd (some refl)
turn_kept (Some number) calls all conn made failed before after pipes next some is changes may same was =
    ∥∥₁_map was (λ r. subst (λ (cs : List Call). IsRecordOf (Some number) cs after next) (sym is)
    (called (record { event = number; conn = conn; made = made; failed = failed }) calls before after pipes next changes may same r))

-- ---- The record of nothing

pub none_kept : (calls : List Call) (pipes : ℕ → Option Pipe) → calls ≡ [] → ((n : ℕ) → pipes n ≡ None) → AreCallsAt calls pipes
none_kept calls pipes none unused n d = (
  ap (λ (p : Option Pipe). (traffic p d).handed) (unused n) ∙ sym (ap (λ (cs : List Call). handed_of cs n d) none),
  ap (λ (p : Option Pipe). (traffic p d).came) (unused n) ∙ sym (ap (λ (cs : List Call). brought_of cs n d) none),
)

pub no_turn : (calls : List Call) (told : List BegunEvent) (pipes : ℕ → Option Pipe) → calls ≡ [] → told ≡ [] → ((n : ℕ) → pipes n ≡ None)
    → ∥ IsRecordOf None calls told pipes ∥₁
no_turn calls told pipes none untold unused =
    ∣ subst (λ (bs : List BegunEvent). IsRecordOf None calls bs pipes) (sym untold) (record { now = refl; begins = unused; each = none }) ∣₁
