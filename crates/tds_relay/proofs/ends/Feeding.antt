-- An application's end behind bytes of its own.
use Rattle.std.proofs.Common.{◌≡◌, ◌∙◌, ◌||◌, ℕ, Bool, true, false, List, [], ◌∷◌, refl, sym, ap, subst, inl, inr}
use Rattle.std.specs.Prelude.{Option, Some, None, Result, Ok, Err}
use Rattle.tds_packet.specs.declared.status.Reset.{Reset}
use Rattle.tds_front.specs.declared.fault.FrontFault.{FrontFault}
use Rattle.tds_front.specs.declared.front.Fed.{Fed}
use Rattle.tds_front.specs.declared.front.Front.{Front}
use Rattle.tds_front.specs.declared.front.Said.{Said}
use Rattle.tds_front.specs.declared.front.Said.TheVariants as said
use Rattle.tds_front.specs.declared.stage.Action.{Action}
use Rattle.tds_front.specs.declared.stage.Action.TheVariants as actions
use Rattle.tds_front.specs.declared.stage.Head.{Head}
use Rattle.tds_front.specs.declared.stage.Stage.{Stage}
use Rattle.tds_front.specs.declared.stage.Stage.TheVariants as stages
use Rattle.tds_front.specs.Exchanges.{place_after}
use Rattle.tds_front.specs.Passing.{FrontEvent, Packet, IsData, IsSaid, SaysOf, stage_fed, with_told}
use Rattle.tds_front.specs.Rules.{taken}
use Rattle.tds_front.specs.Serving as serving
use Rattle.tds_front.specs.Serving.{ServerIsAt, Ready, IsLawful, Happening, behind_brought}
use Rattle.tds_service.specs.Line as line
use Rattle.tds_service.specs.Line.{Line}
use Rattle.tds_relay.specs.Pool as pool
use Rattle.tds_relay.specs.Pool.{Pool, Event, pool_after, turn}
use Rattle.tds_relay.specs.Behind.{brought_by, refused_by}
use Rattle.tds_relay.specs.Core.{IsHere, end_behind, event_if, hands_on, stops_by, takes_back}
use Rattle.tds_relay.proofs.promises.Caring.{Sound}
use Rattle.tds_relay.proofs.held.Seated.{AllSit}
use Rattle.tds_relay.proofs.ends.Leading.{FitsAction, ForgetsFrom, IsGone, KeepsGone, Lawful, Leads, fits}
use Rattle.tds_relay.proofs.ends.Tying.{GoneAt, SendsOut, ReadsOut, Tied, gone_at, here_gone}
use Rattle.tds_relay.proofs.ends.Standing.{Leaves, Next, Standing, at_pool}
use Rattle.tds_relay.proofs.ends.Stopping as stopping
use Rattle.tds_relay.proofs.ends.Stopping.{Known, Told}

-- ---- What is said of a packet

-- nothing that has gone on is stopped
abbrev IsPlain : Action → Type 0
IsPlain (actions.Begin kind reset) = Unit {0}
IsPlain actions.Go = Unit {0}
IsPlain (actions.Forget gone) = gone ≡ false
IsPlain actions.Acknowledge = Unit {0}
IsPlain actions.HandOn = ⊥

data SaidKind (does : Result Action FrontFault) (answer : Said) : Type 0 where
  Plain : (action : Action) → does ≡ Ok action → IsPlain action → takes_back answer ≡ false → hands_on answer ≡ false → SaidKind does answer
  Takes : does ≡ Ok (actions.Forget true) → takes_back answer ≡ true → SaidKind does answer
  Hands : does ≡ Ok actions.HandOn → takes_back answer ≡ false → hands_on answer ≡ true → SaidKind does answer

said_go : (answer : Said) → IsSaid (Ok actions.Go) answer → SaidKind (Ok actions.Go) answer
said_go said.Nothing s = Plain actions.Go refl tt refl refl
said_go (said.Begin kind reset) s = absurd s
said_go (said.Body count) s = absurd s
said_go (said.End count) s = Plain actions.Go refl tt refl refl
said_go (said.Forget gone) s = absurd s
said_go said.Acknowledge s = absurd s
said_go said.HandOn s = absurd s

said_kind : (does : Result Action FrontFault) (answer : Said) → IsSaid does answer → SaidKind does answer
said_kind (Ok (actions.Begin kind reset)) answer s = Plain (actions.Begin kind reset) refl tt (ap takes_back s) (ap hands_on s)
said_kind (Ok actions.Go) answer s = said_go answer s
said_kind (Ok (actions.Forget true)) answer s = Takes refl (ap takes_back s)
said_kind (Ok (actions.Forget false)) answer s = Plain (actions.Forget false) refl refl (ap takes_back s) (ap hands_on s)
said_kind (Ok actions.Acknowledge) answer s = Plain actions.Acknowledge refl tt (ap takes_back s) (ap hands_on s)
said_kind (Ok actions.HandOn) answer s = Hands refl (ap takes_back s) (ap hands_on s)
said_kind (Err fault) answer s = absurd s

-- of other bytes
data_plain : (answer : Said) → IsData answer → (takes_back answer ≡ false) × (hands_on answer ≡ false)
data_plain said.Nothing s = (refl, refl)
data_plain (said.Begin kind reset) s = absurd s
data_plain (said.Body count) s = (refl, refl)
data_plain (said.End count) s = (refl, refl)
data_plain (said.Forget gone) s = absurd s
data_plain said.Acknowledge s = absurd s
data_plain said.HandOn s = absurd s

-- ---- A packet that stops nothing leaves an end as it was tied

here_quiet : (next : Stage) → next ≡ stages.Quiet → IsHere next
here_quiet next e = subst IsHere (sym e) tt

here_goes : (stage next : Stage) → KeepsGone stage next → IsHere stage → IsHere next
here_goes stages.Quiet next k h = absurd k
here_goes (stages.Receiving kind gone) stages.Quiet k h = absurd k
here_goes (stages.Receiving kind gone) (stages.Receiving other next) k h = k ∙ h
here_goes (stages.Receiving kind gone) (stages.Underway next) k h = k ∙ h
here_goes (stages.Receiving kind gone) stages.Stopping k h = absurd k
here_goes (stages.Receiving kind gone) (stages.Broken fault) k h = absurd k
here_goes (stages.Underway gone) next k h = absurd k
here_goes stages.Stopping next k h = absurd k
here_goes (stages.Broken fault) next k h = absurd k

gone_goes : (stage next : Stage) → KeepsGone stage next → IsGone stage → IsGone next
gone_goes stages.Quiet next k h = absurd k
gone_goes (stages.Receiving kind gone) stages.Quiet k h = absurd k
gone_goes (stages.Receiving kind gone) (stages.Receiving other next) k h = k ∙ h
gone_goes (stages.Receiving kind gone) (stages.Underway next) k h = k ∙ h
gone_goes (stages.Receiving kind gone) stages.Stopping k h = absurd k
gone_goes (stages.Receiving kind gone) (stages.Broken fault) k h = absurd k
gone_goes (stages.Underway gone) next k h = absurd k
gone_goes stages.Stopping next k h = absurd k
gone_goes (stages.Broken fault) next k h = absurd k

plain_here : (stage : Stage) (action : Action) (next : Stage) → FitsAction stage action next → IsPlain action → IsHere stage → IsHere next
plain_here stage (actions.Begin kind reset) next f plain here = f.1.0
plain_here stage actions.Go next f plain here = here_goes stage next f here
plain_here stage (actions.Forget gone) next f plain here = here_quiet next f.0
plain_here stage actions.Acknowledge next f plain here = here_quiet next f.0
plain_here stage actions.HandOn next f plain here = absurd plain

-- of one that was not taken back something is out still
forgets_not : (stage : Stage) → ForgetsFrom stage false → IsGone stage → ⊥
forgets_not stages.Quiet f g = g
forgets_not (stages.Receiving kind gone) f g = let u : ⊥ = cc in u
forgets_not (stages.Underway gone) f g = f
forgets_not stages.Stopping f g = f
forgets_not (stages.Broken fault) f g = f

plain_gone : (stage : Stage) (action : Action) (next : Stage) → FitsAction stage action next → IsPlain action → IsGone stage → IsGone next
plain_gone stage (actions.Begin kind reset) next f plain gone = absurd (let u : IsGone stages.Quiet = subst IsGone f.0 gone in u)
plain_gone stage actions.Go next f plain gone = gone_goes stage next f gone
plain_gone stage (actions.Forget was) next f plain gone = absurd (forgets_not stage (subst (λ (b : Bool). ForgetsFrom stage b) plain f.1) gone)
plain_gone stage actions.Acknowledge next f plain gone = absurd (here_gone stage f.1 gone)
plain_gone stage actions.HandOn next f plain gone = absurd plain

-- behind a whole request, and behind its stop, none comes
plain_underway : (action : Action) (next : Stage) → FitsAction (stages.Underway true) action next → IsPlain action → ⊥
plain_underway (actions.Begin kind reset) next f plain = let e : stages.Underway true ≡ stages.Quiet = f.0 in let u : ⊥ = cc in u
plain_underway actions.Go next f plain = f
plain_underway (actions.Forget gone) next f plain = f.1
plain_underway actions.Acknowledge next f plain = let e : true ≡ false = f.1 in let u : ⊥ = cc in u
plain_underway actions.HandOn next f plain = plain

plain_stopping : (action : Action) (next : Stage) → FitsAction stages.Stopping action next → IsPlain action → ⊥
plain_stopping (actions.Begin kind reset) next f plain = let e : stages.Stopping ≡ stages.Quiet = f.0 in let u : ⊥ = cc in u
plain_stopping actions.Go next f plain = f
plain_stopping (actions.Forget gone) next f plain = f.1
plain_stopping actions.Acknowledge next f plain = f.1
plain_stopping actions.HandOn next f plain = plain

plain_tied : (s : line.LineStage) (stage : Stage) (action : Action) (next : Stage) (w : Bool) (p : ServerIsAt) (out : Bool) → FitsAction stage action next → IsPlain action → Tied stage w p s out → Tied next w p s out
plain_tied s stage action next true p out f plain t = (t.0, plain_here stage action next f plain t.1, t.2)
plain_tied line.Idle stage action next false p out f plain t = (plain_here stage action next f plain t.0, t.1)
plain_tied (line.Sending false) stage action next false p out f plain t = (plain_here stage action next f plain t.0, t.1)
plain_tied (line.Sending true) stage action next false p out f plain t = (plain_gone stage action next f plain t.0, t.1)
plain_tied line.Reading stage action next false p out f plain t = absurd (plain_underway action next (subst (λ (x : Stage). FitsAction x action next) t.0 f) plain)
plain_tied line.Cancelling stage action next false p out f plain t = absurd (plain_stopping action next (subst (λ (x : Stage). FitsAction x action next) t.0 f) plain)
plain_tied (line.Broken fault) stage action next false p out f plain t = absurd t.0

plain_told : (action : Action) → IsPlain action → with_told (Ok action) [] ≡ []
plain_told (actions.Begin kind reset) plain = refl
plain_told actions.Go plain = refl
plain_told (actions.Forget gone) plain = ap (λ (b : Bool). with_told (Ok (actions.Forget b)) []) plain
plain_told actions.Acknowledge plain = refl
plain_told actions.HandOn plain = absurd plain

-- ---- What the end is then

or_right : (b w : Bool) → b ≡ false → w ≡ (b || w)
or_right true w e = absurd (let u : ⊥ = cc in u)
or_right false w e = refl

or_left : (b w : Bool) → b ≡ true → true ≡ (b || w)
or_left true w e = refl
or_left false w e = absurd (let u : ⊥ = cc in u)

or_none : (a b : Bool) → a ≡ false → b ≡ false → (a || b) ≡ false
or_none true b e f = absurd (let u : ⊥ = cc in u)
or_none false b e f = f

or_first : (a b : Bool) → a ≡ true → (a || b) ≡ true
or_first true b e = refl
or_first false b e = absurd (let u : ⊥ = cc in u)

or_second : (a b : Bool) → a ≡ false → b ≡ true → (a || b) ≡ true
or_second true b e f = absurd (let u : ⊥ = cc in u)
or_second false b e f = f

module _ (d : Pool) (key : ℕ) (outs outs2 : ℕ → Bool) (sound : Sound d) (sit : AllSit d) where
  abbrev Stops : Event
  Stops = pool.Does key pool.Stops

  -- what the stop leaves of what is out, if there is one
  abbrev pub LeavesIf : Bool → Type 0
  LeavesIf true = Leaves d key outs outs2 sound sit Stops
  LeavesIf false = (n : ℕ) → outs2 n ≡ outs n

  abbrev pub PoolIf : Bool → Pool
  PoolIf b = pool_after d (event_if b Stops)

  same_outs : (stage : Stage) (w : Bool) (p : ServerIsAt) → ((n : ℕ) → outs2 n ≡ outs n) → Standing outs d key stage w p → Standing outs2 d key stage w p
  same_outs stage w p same (inl k) =
      inl (record { hold = k.hold; seat = k.seat; its = k.its; tied = subst (λ (o : Bool). Tied stage w p k.seat.line.stage o) (sym (same k.hold.number)) k.tied })
  same_outs stage w p same (inr k) = inr k

  plain_stands : (stage : Stage) (action : Action) (next : Stage) (w : Bool) (p : ServerIsAt) → FitsAction stage action next → IsPlain action → Standing outs d key stage w p → Standing outs d key next w p
  plain_stands stage action next w p f plain (inl k) =
      inl (record { hold = k.hold; seat = k.seat; its = k.its; tied = plain_tied k.seat.line.stage stage action next w p (outs k.hold.number) f plain k.tied })
  plain_stands stage action next w p f plain (inr k) =
      inr (record { absent = k.absent; rests = record { here = plain_here stage action next f plain k.rests.here; its = k.rests.its; ready = k.rests.ready } })

  -- none is stopped
  still_next : (b : Bool) (stage next : Stage) (w w2 : Bool) (p : ServerIsAt) (es : List FrontEvent) → b ≡ false → w ≡ w2 → Leads stage p es next p → LeavesIf b → Standing outs d key next w p
      → Next outs2 (PoolIf b) key stage p es next w2
  still_next true stage next w w2 p es none same leads leaves s = absurd (let u : ⊥ = cc in u)
  still_next false stage next w w2 p es none same leads leaves s =
      record { place = p; standing = subst (λ (x : Bool). Standing outs2 d key next x p) same (same_outs next w p leaves s); leads = leads }

  takes_next : (b : Bool) (stage next : Stage) (head : Head) (w w2 : Bool) (p : ServerIsAt) → b ≡ true → true ≡ w2 → (taken stage head).stage ≡ next → (taken stage head).does ≡ Ok (actions.Forget true) → LeavesIf b
      → Standing outs d key stage w p → Next outs2 (PoolIf b) key stage p (Packet head ∷ []) next w2
  takes_next false stage next head w w2 p some same is does leaves s = absurd (let u : ⊥ = cc in u)
  takes_next true stage next head w w2 p some same is does leaves s =
      let f = fits stage head (actions.Forget true) does in
      let back = stopping.takes_back d key outs outs2 sound sit stage w p s f.1 leaves in
      let quiet : stages.Quiet ≡ next = sym f.0 ∙ is in
      let d2 = (turn d Stops).pool in
      let one : Standing outs2 d2 key next true Ready = subst (λ (x : Stage). Standing outs2 d2 key x true Ready) quiet back.standing in
      record {
        place = Ready;
        standing = subst (λ (x : Bool). Standing outs2 d2 key next x Ready) same one;
        leads = record {
          stage_is = is;
          place_is = ap (λ (r : Result Action FrontFault). place_after p (with_told r [])) does ∙ ap (λ (x : ServerIsAt). behind_brought x serving.Ignored) back.was;
        };
      }

  open_at : (stage : Stage) (w : Bool) (p : ServerIsAt) (l : line.LineStage) → GoneAt stage w p l → w ≡ false
  open_at stage w p l (SendsOut its at is) = its
  open_at stage w p l (ReadsOut its at underway is) = its

  open_by : (stage : Stage) (w : Bool) (p : ServerIsAt) → Standing outs d key stage w p → IsGone stage → w ≡ false
  open_by stage w p (inl k) gone = open_at stage w p k.seat.line.stage (gone_at k.seat.line.stage stage w p (outs k.hold.number) k.tied gone)
  open_by stage w p (inr k) gone = absurd (here_gone stage k.rests.here gone)

  hands_next : (b : Bool) (stage next : Stage) (head : Head) (w w2 : Bool) (p : ServerIsAt) → b ≡ true → w ≡ w2 → (taken stage head).stage ≡ next → (taken stage head).does ≡ Ok actions.HandOn
      → Known d key outs outs2 sound sit → LeavesIf b → Standing outs d key stage w p → Next outs2 (PoolIf b) key stage p (Packet head ∷ []) next w2
  hands_next false stage next head w w2 p some same is does known leaves s = absurd (let u : ⊥ = cc in u)
  hands_next true stage next head w w2 p some same is does known leaves s =
      let f = fits stage head actions.HandOn does in
      let on = stopping.hands_on d key outs outs2 sound sit stage w p s f.1 known leaves in
      let q : ServerIsAt = behind_brought p serving.Attention in
      let stops : stages.Stopping ≡ next = sym f.0 ∙ is in
      let its : false ≡ w2 = sym (open_by stage w p s f.1) ∙ same in
      let d2 = (turn d Stops).pool in
      let one : Standing outs2 d2 key next false q = subst (λ (x : Stage). Standing outs2 d2 key x false q) stops on in
      record {
        place = q;
        standing = subst (λ (x : Bool). Standing outs2 d2 key next x q) its one;
        leads = record { stage_is = is; place_is = ap (λ (r : Result Action FrontFault). place_after p (with_told r [])) does };
      }

  -- a packet
  packet_next : (b : Bool) (stage next : Stage) (head : Head) (w : Bool) (p : ServerIsAt) (answer : Said) → SaidKind (taken stage head).does answer → (takes_back answer || hands_on answer) ≡ b → (taken stage head).stage ≡ next
      → Known d key outs outs2 sound sit → LeavesIf b → Standing outs d key stage w p → Next outs2 (PoolIf b) key stage p (Packet head ∷ []) next (takes_back answer || w)
  packet_next b stage next head w p answer (Plain action does plain takes hands) e is known leaves s =
      let f : FitsAction stage action next = subst (λ (x : Stage). FitsAction stage action x) is (fits stage head action does) in
      let leads : Leads stage p (Packet head ∷ []) next p =
      record { stage_is = is; place_is = ap (λ (r : Result Action FrontFault). place_after p (with_told r [])) does ∙ ap (place_after p) (plain_told action plain) } in
      still_next b stage next w (takes_back answer || w) p (Packet head ∷ []) (sym e ∙ or_none (takes_back answer) (hands_on answer) takes hands) (or_right (takes_back answer) w takes) leads leaves
      (plain_stands stage action next w p f plain s)
  packet_next b stage next head w p answer (Takes does takes) e is known leaves s =
      takes_next b stage next head w (takes_back answer || w) p (sym e ∙ or_first (takes_back answer) (hands_on answer) takes) (or_left (takes_back answer) w takes) is does leaves s
  packet_next b stage next head w p answer (Hands does takes hands) e is known leaves s =
      hands_next b stage next head w (takes_back answer || w) p (sym e ∙ or_second (takes_back answer) (hands_on answer) takes hands) (or_right (takes_back answer) w takes) is does known leaves s

  -- any bytes
  pub fed_next : (b : Bool) (stage : Stage) (front : Front) (w : Bool) (asks : Option Reset) (p : ServerIsAt) (packet : Option Head) (brings : Result Fed FrontFault) → stops_by brings ≡ b → front.stage ≡ stage_fed stage packet brings
      → SaysOf stage packet brings → Known d key outs outs2 sound sit → LeavesIf b → Standing outs d key stage w p
      → Told outs2 (PoolIf b) key stage p (brought_by stage packet brings) (end_behind front w asks brings)
  fed_next b stage front w asks p None (Ok fed) e is says known leaves s =
      let plain = data_plain fed.said says in
      let same : stage ≡ front.stage = sym is in
      let leads : Leads stage p [] front.stage p = record { stage_is = same; place_is = refl } in
      still_next b stage front.stage w (takes_back fed.said || w) p [] (sym e ∙ or_none (takes_back fed.said) (hands_on fed.said) plain.0 plain.1) (or_right (takes_back fed.said) w plain.0) leads leaves
      (subst (λ (x : Stage). Standing outs d key x w p) same s)
  fed_next b stage front w asks p (Some head) (Ok fed) e is says known leaves s =
      packet_next b stage front.stage head w p fed.said (said_kind (taken stage head).does fed.said says) e (sym is) known leaves s
  fed_next true stage front w asks p packet (Err fault) e is says known leaves s = absurd (let u : ⊥ = cc in u)
  fed_next false stage front w asks p packet (Err fault) e is says known leaves s = at_pool outs d key stage w p s

-- ---- What is said behind it is lawful

told_lawful : (does : Result Action FrontFault) (p : ServerIsAt) → IsLawful p (with_told does [])
told_lawful (Ok (actions.Begin kind reset)) p = tt
told_lawful (Ok actions.Go) p = tt
told_lawful (Ok (actions.Forget true)) p = tt
told_lawful (Ok (actions.Forget false)) p = tt
told_lawful (Ok actions.Acknowledge) p = tt
told_lawful (Ok actions.HandOn) p = tt
told_lawful (Err fault) p = tt

refused_lawful : (stage : Stage) (head : Head) (p : ServerIsAt) (does : Result Action FrontFault) (fault : FrontFault) → Lawful p stage (Packet head ∷ refused_by does fault)
refused_lawful stage head p (Ok action) fault = (told_lawful (taken stage head).does p, tt)
refused_lawful stage head p (Err first) fault = (told_lawful (taken stage head).does p, tt)

pub fed_lawful : (stage : Stage) (p : ServerIsAt) (packet : Option Head) (brings : Result Fed FrontFault) → Lawful p stage (brought_by stage packet brings)
fed_lawful stage p None (Ok fed) = (tt, tt)
fed_lawful stage p None (Err fault) = (tt, tt)
fed_lawful stage p (Some head) (Ok fed) = (told_lawful (taken stage head).does p, tt)
fed_lawful stage p (Some head) (Err fault) = refused_lawful stage head p (taken stage head).does fault
