-- A walk's value between two tokens.
use Rattle.std.proofs.Common.{◌≡◌, ◌∙◌, ◌≤◌, ℕ, List, [], length, drop, min, get_or, ◌+◌, Option, Some, None, Ok, Err, true, false, refl, sym, ap, subst}
use Rattle.std.proofs.lemmas.List.{drop-drop}
use Rattle.std.specs.Prelude.{IsSome, Result}
use Rattle.tds_client.specs.declared.fault.ClientFault.{ClientFault}
use Rattle.tds_client.specs.declared.sign.Rules.TheVariants.{Any}
use Rattle.tds_client.specs.declared.client.parts.ClientParts.{ClientParts}
use Rattle.tds_client.specs.declared.client.parts.StageParts.{StageParts}
use Rattle.tds_client.specs.declared.client.parts.StageParts.TheVariants.{Reading as Reads}
use Rattle.tds_client.specs.declared.heard.Heard.{Heard}
use Rattle.tds_client.specs.declared.sign.Sign.{Sign}
use Rattle.tds_client.specs.Hearing.{◌>>=◌, hear_sign}
use Rattle.tds_client.specs.Machine.{signed, tells, with_heard}
use Rattle.tds_client.specs.Parts.{session_from}
use Rattle.tds_client.specs.Session.{ClientSession, Stage, Idle, Sending, Reading as IsReading, Cancelling, Broken}
use Rattle.tds_listen.specs.Hearing.{moved_by, next_heard, told_if}
use Rattle.tds_listen.specs.Signs.{sign_of}
use Rattle.tds_wire.specs.declared.due.Inside.{Inside}
use Rattle.tds_wire.specs.declared.due.Due.TheVariants.{Token as IsDue}
use Rattle.tds_wire.specs.declared.lent.LentWalk.{LentWalk}
use Rattle.tds_wire.specs.declared.memory.Memory.{Memory}
use Rattle.tds_wire.specs.declared.told.Token.{Token}
use Rattle.tds_wire.specs.Lent.{head_of, reading_of}
use Rattle.tds_wire.specs.Memory.{shape_of, shapes_of}
use Rattle.tds_wire.specs.Reading.{IsReady, Parser, Sees, is_between, next_token, restarted}
use Rattle.tds_wire.specs.Told.{added}
use Rattle.tds_wire.specs.Whole.{IsNext, behind_whole}
use Rattle.tds_walk.specs.declared.walk.TdsWire.{TdsWire}
use Rattle.tds_walk.specs.declared.token.TdsWireToken.{TdsWireToken}
use Rattle.tds_c.specs.Hearing.{HasHeard, Place, Ready}
use Rattle.tds_walk.specs.WireCalls.{reading_from}
use Rattle.tds_walk.specs.WireTokens.{Puts}
use Rattle.tds_walk.specs.Wire.{due_from, inside_from, refusal_from, truth, walk_from}
use Rattle.tds_c.proofs.Hearing.{heard_on}

pub in_some : {A : Type 0} (o : Option A) → IsSome o → (x : A) × (o ≡ Some x)
in_some (Some x) is = (x, refl)
in_some None is = absurd cc

-- the parser that it is
abbrev pub reading_in : TdsWire → Memory → Inside → Parser
reading_in w m inside = record {
  walk = record {
    at = record { due = IsDue; kind = w.kind; inside = inside; shape = shape_of w.shape; ciphered = truth w.ciphered; left = w.entries; parts = w.parts };
    columns = shapes_of m;
    nulls = m.nulls;
    most = min 4096 w.most;
    features = record { encryption = truth w.encryption; ranks = truth w.ranks };
  };
  head = [];
  start = w.start;
  passed = 0;
  refused = None;
}

abbrev pub at_ready : (w : TdsWire) → Memory → Ready w → Parser
at_ready w m ready = reading_in w m (in_some (inside_from w.inside) ready.inside).0

is_in : (w : TdsWire) (m : Memory) (inside : Inside) → Ready w → inside_from w.inside ≡ Some inside → reading_from w m ≡ Some (reading_in w m inside)
unfolding walk_from due_from refusal_from head_of
is_in w m inside ready is = rw (ready.due, ready.refused, is, ready.head, ready.passed) refl

pub is_at_ready : (w : TdsWire) (m : Memory) (ready : Ready w) → reading_from w m ≡ Some (at_ready w m ready)
is_at_ready w m ready = let found = in_some (inside_from w.inside) ready.inside in is_in w m found.0 ready found.1

pub at_between : (w : TdsWire) (m : Memory) (ready : Ready w) → length (shapes_of m) ≤ 4096 → length m.nulls ≡ 512 → IsReady (at_ready w m ready)
at_between w m ready columns nulls = record { walk = record { due = refl; columns = columns; nulls = nulls }; head = refl; passed = refl; whole = refl }

-- behind a token that stands whole
abbrev pub moved : (w : TdsWire) (kind start : ℕ) → Ready w → Ready (record w { kind = kind; start = start })
moved w kind start ready = record { inside = ready.inside; due = ready.due; refused = ready.refused; head = ready.head; passed = ready.passed }

module _ (w : TdsWire) (m : Memory) (ready : Ready w) (columns : length (shapes_of m) ≤ 4096) (nulls : length m.nulls ≡ 512) (s : ClientSession) (token : Token) (n : ℕ) (bytes : List ℕ) (is : IsNext w.start n (Some token) bytes) where
  sees : next_token (at_ready w m ready) bytes ≡ Sees token (behind_whole (at_ready w m ready) bytes n) (drop n bytes)
  sees = sym (is (at_ready w m ready) (at_between w m ready columns nulls) refl)

  pub whole_heard : (next : ClientSession) → signed Any s (sign_of token) ≡ Ok next
      → next_heard s (at_ready w m ready) bytes
      ≡ Ok (record { told = told_if (tells s.stage) token; session = next; reading = at_ready (record w { kind = get_or bytes 0 0; start = added w.start n }) m (moved w (get_or bytes 0 0) (added w.start n) ready); rest = drop n bytes })
  whole_heard next heard = ap (moved_by s) sees ∙ rw heard refl

same : (a b : Parser) → (let r : Option Parser = Some a in r) ≡ Some b → a ≡ b
same a b e = cc

pub is_the : (w : TdsWire) (m : Memory) (ready : Ready w) (r : Parser) → reading_from w m ≡ Some r → r ≡ at_ready w m ready
is_the w m ready r e = same r (at_ready w m ready) (sym e ∙ is_at_ready w m ready)

pub is_read : (w : TdsWire) (m : Memory) (lent : LentWalk) → walk_from w ≡ Some lent → reading_from w m ≡ Some (reading_of lent m)
is_read w m lent e = rw e refl

pub read_as : (w : TdsWire) (m : Memory) (lent : LentWalk) (r : Parser) → walk_from w ≡ Some lent → reading_from w m ≡ Some r → r ≡ reading_of lent m
read_as w m lent r e at = same r (reading_of lent m) (sym at ∙ is_read w m lent e)

abbrev pub so_far : Place → ClientSession → Parser → List ℕ → List TdsWireToken → List TdsWireToken → ℕ → Type 0
so_far first s r rest before after count =
    HasHeard first (record { session = s; reading = r; rest = rest }) (record { before = before; after = after; count = count })

-- one more token was heard that stands whole
pub whole_on : (w : TdsWire) (m : Memory) (ready : Ready w) → length (shapes_of m) ≤ 4096 → length m.nulls ≡ 512
    → (s next : ClientSession) (token : Token) (n done : ℕ) (bytes piece : List ℕ) (first : Place) (r : Parser) (before after new : List TdsWireToken) (i j kind start : ℕ)
    → piece ≡ drop done bytes → IsNext w.start n (Some token) piece → signed Any s (sign_of token) ≡ Ok next → kind ≡ get_or piece 0 0 → start ≡ added w.start n
    → length after ≡ length before → Puts (told_if (tells s.stage) token) (record { before = after; after = new; count = j }) i
    → reading_from w m ≡ Some r → so_far first s r (drop done bytes) before after i
    → (x : Parser) × (reading_from (record w { kind = kind; start = start }) m ≡ Some x) × so_far first next x (drop (done + n) bytes) before new j
whole_on w m ready columns nulls s next token n done bytes piece first r before after new i j kind start is_piece is heard is_kind is_start long put at so =
    let here : so_far first s (at_ready w m ready) piece before after i =
    rw is_piece (subst (λ (x : Parser). so_far first s x (drop done bytes) before after i) (is_the w m ready r at) so) in
    let there = at_ready (record w { kind = get_or piece 0 0; start = added w.start n }) m (moved w (get_or piece 0 0) (added w.start n) ready) in
    let behind : so_far first next there (drop n piece) before new j =
    heard_on first _ _ before after new i j long (whole_heard w m ready columns nulls s token n piece is next heard) put here in
    (at_ready (record w { kind = kind; start = start }) m (moved w kind start ready), is_at_ready _ m (moved w kind start ready), rw (is_kind, is_start) (subst (λ (xs : List ℕ). so_far first next there xs before new j) (ap (drop n) is_piece ∙ drop-drop n done bytes) behind))

-- ---- A client that reads

pub stays_heard : (s : ClientSession) (h : Heard) → s.heard ≡ h → s ≡ with_heard s h
stays_heard s h e = ap (with_heard s) e

pub signs : (s : ClientSession) (h k : Heard) (sign : Sign) → s.stage ≡ IsReading → hear_sign Any false h sign ≡ Ok k → signed Any (with_heard s h) sign ≡ Ok (with_heard s k)
signs s h k sign stage e = rw (stage, e) refl

signed_by : (r : Result Heard ClientFault) (s next : ClientSession) → (r >>= λ heard. Ok (with_heard s heard)) ≡ Ok next → r ≡ Ok next.heard
signed_by (Ok heard) s next e =
    let same : with_heard s heard ≡ next = cc in
    ap (λ (x : ClientSession). let r : Result Heard ClientFault = Ok x.heard in r) same
signed_by (Err fault) s next e = absurd (let u : ⊥ = cc in u)

pub reads_sign : (p : ClientParts) (sign : Sign) (next : ClientSession) → p.stage ≡ Reads → signed Any (session_from p []) sign ≡ Ok next → hear_sign Any false p.heard sign ≡ Ok next.heard
reads_sign p sign next stage e =
    signed_by (hear_sign Any false p.heard sign) (session_from (record p { stage = Reads }) []) next
    (subst (λ (x : StageParts). signed Any (session_from (record p { stage = x }) []) sign ≡ Ok next) stage e)

pub tells_reading : (s : Stage) → tells s ≡ true → s ≡ IsReading
tells_reading Idle e = absurd (let u : ⊥ = cc in u)
tells_reading (Sending kind left packets) e = absurd (let u : ⊥ = cc in u)
tells_reading IsReading e = refl
tells_reading Cancelling e = absurd (let u : ⊥ = cc in u)
tells_reading (Broken fault) e = absurd (let u : ⊥ = cc in u)

-- ---- The end of a message

pub stands_between : (w : TdsWire) (m : Memory) (ready : Ready w) (r : Parser) → reading_from w m ≡ Some r → is_between r ≡ true
stands_between w m ready r at = rw (is_the w m ready r at) refl

forgotten : (m : Memory) → shapes_of (record m { count = 0 }) ≡ []
unfolding shapes_of
forgotten m = refl

pub anew : (w : TdsWire) (m : Memory) (ready : Ready w) (r : Parser) → reading_from w m ≡ Some r → reading_from (record w { start = 0 }) (record m { count = 0 }) ≡ Some (restarted r)
anew w m ready r at =
    is_at_ready (record w { start = 0 }) (record m { count = 0 }) (moved w w.kind 0 ready) ∙ rw (is_the w m ready r at, forgotten m) refl
