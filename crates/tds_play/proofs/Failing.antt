-- The failures of a connection as bytes are handed over and carried, and as an event ends.
use Rattle.std.proofs.Common.{◌≡◌, ◌≢◌, ◌∙◌, ◌+◌, ◌++◌, ◌||◌, ℕ, Bool, true, false, cond, List, [], ◌∷◌, Option, Some, None, ◌⊎◌, inl, inr, refl, sym, subst, arith}
use Rattle.std.specs.Prelude.{Err, IfOk, Ok, OnOk, Result}
use Rattle.tds_packet.specs.declared.kind.Direction.{Direction}
use Rattle.tds_packet.specs.declared.kind.Direction.TheVariants.{ToServer, ToClient}
use Rattle.tds_play.specs.Failures.{Call, Open, Send, Carry, Fails, FailsAs, FailsNoMore, HasFailed, HasNoFailure, IsOneOf, failures}
use Rattle.tds_play.specs.declared.link.EventDone.{EventDone}
use Rattle.tds_play.specs.declared.link.Link.{Link}
use Rattle.tds_world.specs.declared.outcome.Outcome.{Outcome}
use Rattle.tds_play.specs.Pipe.{Pipe, IsOpen, carried_on, cut_pipe, new_pipe, sent_on, stuck_on}

-- ---- Lists of calls

one_before : (call : Call) (calls more : List Call) → IsOneOf call calls → IsOneOf call (calls ++ more)
one_before call [] more one = absurd one
one_before call (c ∷ cs) more one = elim one [
  | inl is ↦ inl is
  | inr r ↦ inr (one_before call cs more r)
]

one_last : (call : Call) (calls : List Call) → IsOneOf call (calls ++ call ∷ [])
one_last call [] = inl refl
one_last call (c ∷ cs) = inr (one_last call cs)

-- ---- The same failures

pub fails_no_more : (calls : List Call) (lost : Bool) (before after : Option Pipe) → FailsNoMore before after → Fails calls lost before → Fails calls lost after
fails_no_more calls false before after same fails = λ call. same call ∙ fails call
fails_no_more calls true before after same fails = record {
  some = (fails.some.0, λ none. fails.some.1 (sym (same fails.some.0) ∙ none));
  each = λ call failed. fails.each call (λ none. failed (same call ∙ none));
}

pub fails_of_more : (calls more : List Call) (lost : Bool) (pipe : Option Pipe) → Fails calls lost pipe → Fails (calls ++ more) lost pipe
fails_of_more calls more false pipe fails = fails
fails_of_more calls more true pipe fails = record {
  some = fails.some;
  each = λ call failed. one_before call calls more (fails.each call failed);
}

-- ---- What the carrier did

pub cut_no_more : (pipe : Option Pipe) → FailsNoMore pipe (cut_pipe pipe)
cut_no_more None call = refl
cut_no_more (Some p) (Send ToServer) = refl
cut_no_more (Some p) (Carry ToServer) = refl
cut_no_more (Some p) call = refl

pub carried_no_more : (pipe : Option Pipe) (d : Direction) (bytes : List ℕ) → FailsNoMore pipe (carried_on pipe d bytes)
carried_no_more None d bytes call = refl
carried_no_more (Some p) ToServer bytes (Send ToServer) = refl
carried_no_more (Some p) ToServer bytes (Carry ToServer) = refl
carried_no_more (Some p) ToClient bytes (Send ToServer) = refl
carried_no_more (Some p) ToClient bytes (Carry ToServer) = refl
carried_no_more (Some p) d bytes call = refl

sent_no_more : (pipe : Option Pipe) (d : Direction) (bytes : List ℕ) → FailsNoMore pipe (sent_on pipe d bytes 0)
sent_no_more None d bytes call = refl
sent_no_more (Some p) ToServer bytes (Send ToServer) = omega arith
sent_no_more (Some p) ToServer bytes (Carry ToServer) = refl
sent_no_more (Some p) ToClient bytes (Send ToClient) = omega arith
sent_no_more (Some p) ToClient bytes (Carry ToServer) = refl
sent_no_more (Some p) d bytes call = refl

-- Where a send fails, no other call has failed more often.
sent_else : (p : Pipe) (d : Direction) (bytes : List ℕ) (call : Call) → (call ≡ Send d) ⊎ (failures (sent_on (Some p) d bytes 1) call ≡ failures (Some p) call)
sent_else p ToServer bytes (Send ToServer) = inl refl
sent_else p ToServer bytes (Carry ToServer) = inr refl
sent_else p ToClient bytes (Send ToClient) = inl refl
sent_else p ToClient bytes (Carry ToServer) = inr refl
sent_else p d bytes call = inr refl

stuck_else : (p : Pipe) (d : Direction) (call : Call) → (call ≡ Carry d) ⊎ (failures (stuck_on (Some p) d) call ≡ failures (Some p) call)
stuck_else p ToServer (Carry ToServer) = inl refl
stuck_else p ToServer (Send ToServer) = inr refl
stuck_else p ToClient (Carry ToClient) = inl refl
stuck_else p ToClient (Send ToServer) = inr refl
stuck_else p d call = inr refl

one_more : (n : ℕ) → n + 1 ≢ 0
one_more n none = absurd (omega (arith, none))

sent_some : (p : Pipe) (d : Direction) (bytes : List ℕ) → failures (sent_on (Some p) d bytes 1) (Send d) ≢ 0
sent_some p ToServer bytes = one_more p.to_server.send_failures
sent_some p ToClient bytes = one_more p.to_client.send_failures

stuck_some : (p : Pipe) (d : Direction) → failures (stuck_on (Some p) d) (Carry d) ≢ 0
stuck_some p ToServer = one_more p.to_server.carry_failures
stuck_some p ToClient = one_more p.to_client.carry_failures

-- What failed before is one of those calls.
one_by : (calls : List Call) (before : Bool) (pipe : Option Pipe) (call : Call) → Fails calls before pipe → failures pipe call ≢ 0 → IsOneOf call calls
one_by calls false pipe call fails failed = absurd (failed (fails call))
one_by calls true pipe call fails failed = fails.each call failed

sent_lost : (calls : List Call) (before : Bool) (pipe : Option Pipe) (d : Direction) (bytes : List ℕ) → IsOpen pipe → Fails calls before pipe → HasFailed (calls ++ Send d ∷ []) (sent_on pipe d bytes 1)
sent_lost calls before None d bytes there fails = absurd there
sent_lost calls before (Some p) d bytes there fails = record {
  some = (Send d, sent_some p d bytes);
  each = λ call failed. elim (sent_else p d bytes call) [
    | inl is ↦ subst (λ (c : Call). IsOneOf c (calls ++ Send d ∷ [])) (sym is) (one_last (Send d) calls)
    | inr same ↦ one_before call calls (Send d ∷ []) (one_by calls before (Some p) call fails (λ none. failed (same ∙ none)))
  ];
}

pub sent_fails : (calls : List Call) (before lost : Bool) (pipe new : Option Pipe) (d : Direction) (bytes : List ℕ) → IsOpen pipe → new ≡ sent_on pipe d bytes (cond lost 1 0) → Fails calls before pipe → Fails (calls ++ Send d ∷ []) (before || lost) new
sent_fails calls false false pipe new d bytes there is fails = subst (Fails (calls ++ Send d ∷ []) false) (sym is) (fails_no_more (calls ++ Send d ∷ []) false pipe (sent_on pipe d bytes 0) (sent_no_more pipe d bytes) fails)
sent_fails calls false true pipe new d bytes there is fails = subst (HasFailed (calls ++ Send d ∷ [])) (sym is) (sent_lost calls false pipe d bytes there fails)
sent_fails calls true false pipe new d bytes there is fails = subst (Fails (calls ++ Send d ∷ []) true) (sym is) (fails_no_more (calls ++ Send d ∷ []) true pipe (sent_on pipe d bytes 0) (sent_no_more pipe d bytes) (fails_of_more calls (Send d ∷ []) true pipe fails))
sent_fails calls true true pipe new d bytes there is fails = subst (HasFailed (calls ++ Send d ∷ [])) (sym is) (sent_lost calls true pipe d bytes there fails)

-- Nothing was handed over.
pub none_fails : (calls more : List Call) (before : Bool) (pipe : Option Pipe) → Fails calls before pipe → Fails (calls ++ more) (before || false) pipe
none_fails calls more false pipe fails = fails
none_fails calls more true pipe fails = fails_of_more calls more true pipe fails

pub stuck_fails : (pipe : Option Pipe) (d : Direction) → IsOpen pipe → HasNoFailure pipe → HasFailed (Carry d ∷ []) (stuck_on pipe d)
stuck_fails None d there fine = absurd there
stuck_fails (Some p) d there fine = record {
  some = (Carry d, stuck_some p d);
  each = λ call failed. elim (stuck_else p d call) [
    | inl is ↦ inl is
    | inr same ↦ absurd (failed (same ∙ fine call))
  ];
}

pub new_fails : HasFailed (Open ∷ []) (Some (new_pipe 1))
new_fails = record {
  some = (Open, one_more 0);
  each = λ call failed. opened call failed;
}
  where
    opened : (call : Call) → failures (Some (new_pipe 1)) call ≢ 0 → IsOneOf call (Open ∷ [])
    opened Open failed = inl refl
    opened (Send ToServer) failed = absurd (failed refl)
    opened (Carry ToServer) failed = absurd (failed refl)
    opened call failed = absurd (failed refl)

pub new_fine : HasNoFailure (Some (new_pipe 0))
new_fine (Send ToServer) = refl
new_fine (Carry ToServer) = refl
new_fine call = refl

-- ---- How an event ends

-- A connection that is cut where it was lost.
pub ended_as : {E S : Type 0} (calls : List Call) (done : EventDone) (what : Outcome) (lost : Bool) (new : Link E S) (before after : Option Pipe)
    → done ≡ record { outcome = what; lost = lost } → (lost ≡ true → new.is_cut ≡ true) → FailsNoMore before after
    → Fails calls lost before → FailsAs calls done new after
ended_as {E} {S} calls done what lost new before after is cut same fails =
    subst (λ (d : EventDone). FailsAs calls d new after) (sym is) (record { failed = fails_no_more calls lost before after same fails; cut = cut })

-- An event that meets no call.
pub whole_as : {E S : Type 0} (calls : List Call) (done : EventDone) (new : Link E S) (pipe : Option Pipe)
    → done.lost ≡ false → HasNoFailure pipe → FailsAs calls done new pipe
whole_as calls done new pipe whole fine = record {
  failed = subst (λ (b : Bool). Fails calls b pipe) (sym whole) fine;
  cut = λ lost. absurd (cc);
}

-- The connection's number is the same.
pub as_numbered : {E S : Type 0} (m n : ℕ) (calls : List Call) (done : EventDone) (new : Link E S) (pipes : ℕ → Option Pipe)
    → m ≡ n → FailsAs calls done new (pipes m) → FailsAs calls done new (pipes n)
as_numbered {E} {S} m n calls done new pipes is h = subst (λ (k : ℕ). FailsAs calls done new (pipes k)) is h

pub fails_numbered : (m n : ℕ) (calls : List Call) (lost : Bool) (pipes : ℕ → Option Pipe) → m ≡ n → Fails calls lost (pipes m) → Fails calls lost (pipes n)
fails_numbered m n calls lost pipes is h = subst (λ (k : ℕ). Fails calls lost (pipes k)) is h

-- A connection that hands bytes over, which it had counted under the number m, and k at the end.
pub sent_so : (conn m : ℕ) (calls : List Call) (lost : Bool) (old mid : ℕ → Option Pipe)
    → m ≡ conn → (Fails [] false (old m) → Fails calls lost (mid m))
    → HasNoFailure (old conn) → Fails calls lost (mid conn)
sent_so conn m calls lost old mid put hands fine = fails_numbered m conn calls lost mid put (hands (fails_numbered conn m [] false old (sym put) fine))

pub sent_as : {E S : Type 0} (conn m k : ℕ) (calls : List Call) (done : EventDone) (lost : Bool) (new : Link E S) (old mid after : ℕ → Option Pipe)
    → m ≡ conn → k ≡ m
    → (Fails [] false (old m) → Fails calls lost (mid m))
    → (Fails calls lost (mid k) → FailsAs calls done new (after k))
    → HasNoFailure (old conn) → FailsAs calls done new (after conn)
sent_as conn m k calls done lost new old mid after put out hands ends fine =
    as_numbered k conn calls done new after (out ∙ put)
    (ends (fails_numbered m k calls lost mid (sym out) (hands (fails_numbered conn m [] false old (sym put) fine))))

-- One that brought bytes, under its number.
pub brought_as : {E S : Type 0} (conn k : ℕ) (calls : List Call) (done : EventDone) (lost : Bool) (new : Link E S) (mid after : ℕ → Option Pipe)
    → k ≡ conn → (Fails calls lost (mid k) → FailsAs calls done new (after k)) → Fails calls lost (mid conn) → FailsAs calls done new (after conn)
brought_as conn k calls done lost new mid after same ends fails =
    as_numbered k conn calls done new after same (ends (fails_numbered conn k calls lost mid (sym same) fails))

-- What follows an event, under the number that the connection then had, lets no other call fail.
pub settled_as : {E S : Type 0} (conn m : ℕ) (calls : List Call) (done : EventDone) (out new : Link E S) (mid last : ℕ → Option Pipe)
    → m ≡ conn → (out.is_cut ≡ true → new.is_cut ≡ true) → FailsNoMore (mid m) (last m) → FailsAs calls done out (mid conn) → FailsAs calls done new (last conn)
settled_as conn m calls done out new mid last same stays no_more fails = record {
  failed = fails_no_more calls done.lost (mid conn) (last conn) (subst (λ (n : ℕ). FailsNoMore (mid n) (last n)) same no_more) fails.failed;
  cut = λ lost. stays (fails.cut lost);
}

pub whole_ok : {E S B : Type 0} (calls : List Call) (r : Result EventDone B) (new : Link E S) (pipe : Option Pipe)
    → IfOk r (λ done. done.lost ≡ false) → HasNoFailure pipe → IfOk r (λ done. FailsAs calls done new pipe)
whole_ok calls (Ok done) new pipe whole fine = whole_as calls done new pipe whole fine
whole_ok calls (Err why) new pipe whole fine = whole

-- ---- What a call answered

pub on_ok : {A B : Type 0} (r : Result A B) (x : A) (P : Type 0) → r ≡ Ok x → OnOk r P → P
on_ok r x P is h = subst (λ y. OnOk y P) is h
