-- What is seen where a packet comes on a connection of a relay, for the application that holds it.
use Rattle.std.proofs.Common.{◌≡◌, ◌∙◌, ◌==◌, ℕ, Bool, true, false, List, [], ◌∷◌, ◌++◌, refl, sym, ap, subst, inl, inr}
use Rattle.std.specs.Prelude.{Option, Some, None, if◌then◌else◌, option_map}
use Rattle.std.proofs.lemmas.Bool.{eqb-true}
use Rattle.std.proofs.lemmas.List.{append-nil}
use Rattle.tds_packet.specs.declared.header.Header.{Header}
use Rattle.tds_wire.specs.declared.told.Token.{Token}
use Rattle.tds_front.specs.declared.front.Front.{Front}
use Rattle.tds_service.specs.History.{Done, acts_of, line_after}
use Rattle.tds_service.specs.Line as line
use Rattle.tds_service.specs.Line.{Act, Answer, Line, Packet, new_line, line_turn}
use Rattle.tds_service.specs.Parts.{Part}
use Rattle.tds_service.specs.Service.{Call, Seat, Service, new_service, on, seat_numbered, service_after, steps}
use Rattle.tds_relay.specs.Pool as pool
use Rattle.tds_relay.specs.Pool.{Pool, Event, Sharing, Way, pool_after, new_pool, turn, whose}
use Rattle.tds_relay.specs.Fronting.{calls_along, done_on}
use Rattle.tds_relay.specs.Core.{End, Open, Core, dones_of_part, end_at, end_told, what_in}
use Rattle.tds_relay.specs.Machine.{Machine, IsHanded, IsTold, Manner, MayHand, end_whose, hears_of_reset, is_said}
use Rattle.tds_relay.specs.Pool.{owes_reset}
use Rattle.tds_relay.proofs.ends.Ending.{whose_by}
use Rattle.tds_relay.proofs.ends.Folding.{ByHistory, IsAt, append_more, done_both, done_from, outs_of, sound_at}
use Rattle.tds_relay.proofs.ends.Outs.{HeardAs, Breaks, ReadsOn, ReadsEnd, SkipsOn, SkipsEnd, heard_as}
use Rattle.tds_relay.proofs.ends.Standing.{Holds, Standing, absent_whose, whose_number}
use Rattle.tds_relay.proofs.held.Ours.{came_done, heard_of, hears_right}
use Rattle.tds_relay.proofs.steps.Calling.{service_along}
use Rattle.tds_relay.proofs.visits.Reached.{Stands}
use Rattle.tds_judge.specs.History.{Said}
use Rattle.laws_never_blamed.specs.Seen.{AllBehindLogin, ComesBehindLogin}
use Rattle.laws_never_blamed.specs.Relayed.{ComeBehindLogin, Sight, Side, goes_on_behind, sees_handed, sees_its}
use Rattle.laws_never_blamed.proofs.Heeding.{Kept, all_stay, heeds}
use Rattle.laws_never_blamed.proofs.Taken.{Now}
use Rattle.laws_never_blamed.proofs.Fed.{NowEnd}
use Rattle.laws_never_blamed.proofs.Handing.{Handed, closed_seen, handed_seen}

-- ---- All that comes is behind a login

acts_both : (xs ys : List (Done Token)) → acts_of (xs ++ ys) ≡ acts_of xs ++ acts_of ys
acts_both [] ys = refl
acts_both (x ∷ xs) ys = ap (λ (acts : List (Act Token)). x.act ∷ acts) (acts_both xs ys)

login_front : (xs ys : List (Act Token)) → AllBehindLogin (xs ++ ys) → AllBehindLogin xs
login_front [] ys all = tt
login_front (x ∷ xs) ys all = (all.0, login_front xs ys all.1)

login_rest : (xs ys : List (Act Token)) → AllBehindLogin (xs ++ ys) → AllBehindLogin ys
login_rest [] ys all = all
login_rest (x ∷ xs) ys all = login_rest xs ys all.1

abbrev pub Plain : Sharing → List Event → Type 0
Plain = ComeBehindLogin

plain_both : (sharing : Sharing) (events more : List Event) (n : ℕ) → AllBehindLogin (acts_of (done_on sharing n (events ++ more)))
    → AllBehindLogin (acts_of (done_on sharing n events) ++ acts_of (done_from n (pool_after (new_pool sharing) events) more))
plain_both sharing events more n plain =
    subst AllBehindLogin (acts_both (done_on sharing n events) (done_from n (pool_after (new_pool sharing) events) more))
    (subst (λ (ds : List (Done Token)). AllBehindLogin (acts_of ds)) (done_both n (new_pool sharing) events more) plain)

pub plain_front : (sharing : Sharing) (events more : List Event) → Plain sharing (events ++ more) → Plain sharing events
plain_front sharing events more plain n =
    login_front (acts_of (done_on sharing n events)) (acts_of (done_from n (pool_after (new_pool sharing) events) more)) (plain_both sharing events more n (plain n))

pub plain_next : (sharing : Sharing) (events here more : List Event) → Plain sharing (events ++ (here ++ more)) → Plain sharing ((events ++ here) ++ more)
plain_next sharing events here more plain = subst (Plain sharing) (sym (append_more events here more)) plain

plain_from : (sharing : Sharing) (events : List Event) (h : Core) (event : Event) (n : ℕ) → IsAt sharing events h → Plain sharing (events ++ event ∷ [])
    → AllBehindLogin (acts_of (on n (steps h.pool.service (turn h.pool event).calls)))
plain_from sharing events h event n is plain =
    let two = login_rest (acts_of (done_on sharing n events)) (acts_of (done_from n (pool_after (new_pool sharing) events) (event ∷ []))) (plain_both sharing events (event ∷ []) n (plain n)) in
    let here : AllBehindLogin (acts_of (done_from n h.pool (event ∷ []))) = subst (λ (d : Pool). AllBehindLogin (acts_of (done_from n d (event ∷ [])))) (sym is) two in
    subst (λ (all : List (Call Token)). AllBehindLogin (acts_of (on n (steps h.pool.service all)))) (append-nil (turn h.pool event).calls) here

-- what was heard of the message that comes on a connection
seat_kept : (sharing : Sharing) → ByHistory → (events : List Event) (h : Core) (n : ℕ) (c : Seat) → IsAt sharing events h → Plain sharing events → seat_numbered n h.pool.service.seats ≡ Some c → Kept c.line.stage c.line.heard
seat_kept sharing by events h n c is plain there =
    let all = calls_along (new_pool sharing) events in
    let ds = done_on sharing n events in
    let reached : seat_numbered n (pool_after (new_pool sharing) events).service.seats ≡ Some c = ap (λ (d : Pool). seat_numbered n d.service.seats) (sym is) ∙ there in
    let at : seat_numbered n (service_after (new_service sharing.most) all).seats ≡ Some c = ap (λ (x : Service). seat_numbered n x.seats) (sym (service_along (new_pool sharing) events)) ∙ reached in
    let l : c.line ≡ line_after new_line (acts_of ds) = by sharing.most n all c at in
    subst (λ (x : Line). Kept x.stage x.heard) (sym l) (all_stay new_line (acts_of ds) (plain n) refl)

-- ---- A packet comes on its connection

module _ (s : Side) (sharing : Sharing) (key : ℕ) (by : ByHistory) (events : List Event) (h : Machine) (front : Front) (w : Bool) (stands : Stands sharing key events h.core front w) (number : ℕ) (header : Header) (content : List ℕ) (part : Part Token)
    (way : Way) (manner : Manner) (may : MayHand h number header content part manner) (plain : Plain sharing (events ++ pool.Comes number part way ∷ [])) (begun : Bool) (past : List Said)
    (now : NowEnd (end_at h.core.ends key) begun past) where
  abbrev d : Pool
  d = h.core.pool

  abbrev owed : Bool
  owed = owes_reset number h.core.pool

  here : Now front.stage stands.asks begun past
  here = let at : NowEnd (Some (Open front w stands.asks)) begun past = subst (λ (o : Option End). NowEnd o begun past) stands.end_is now in record { fine = at.fine; at = at.at }

  abbrev By : Answer → Type 0
  By answer = Handed s front w stands.asks owed begun past part manner answer

  abbrev Of : List (Done Token) → Type 0
  Of dones = IsHanded (is_said (what_in dones) (Some (Open front w stands.asks))) manner → IsTold owed (hears_of_reset (what_in dones) (Some (Open front w stands.asks))) manner part
      → NowEnd (Some (end_told (what_in dones) (Open front w stands.asks))) (goes_on_behind begun manner part) (sees_handed s begun past manner part)

  right_by : (l : Line) (answer : Answer) → (line_turn l (line.Come part)).answer ≡ answer → (pool.hearing_of answer ≡ pool.Wrong → ⊥) → heard_of l part ≡ pool.Wrong → ⊥
  right_by l answer a not wrong = not (ap pool.hearing_of (sym a) ∙ wrong)

  come_plain : (k : Holds (outs_of sharing events) d key front.stage w stands.place) → Plain sharing (events ++ pool.Comes k.hold.number part way ∷ []) → (heard_of k.seat.line part ≡ pool.Wrong → ⊥)
      → ComesBehindLogin (line.Come part)
  come_plain k behind_login right =
      let sound = sound_at sharing events h.core stands.is in
      let ours = hears_right d key k.hold k.seat part way sound k.its right in
      let all = plain_from sharing events h.core (pool.Comes k.hold.number part way) k.hold.number stands.is behind_login in
      (subst (λ (ds : List (Done Token)). AllBehindLogin (acts_of ds)) ours.out all).0

  heeded_by : (k : Holds (outs_of sharing events) d key front.stage w stands.place) → Plain sharing (events ++ pool.Comes k.hold.number part way ∷ []) → (heard_of k.seat.line part ≡ pool.Wrong → ⊥)
      → By (line_turn k.seat.line (line.Come part)).answer
  heeded_by k behind_login right =
      let login : ComesBehindLogin (line.Come part) = come_plain k behind_login right in
      let kept = seat_kept sharing by events h.core k.hold.number k.seat stands.is (plain_front sharing events (pool.Comes k.hold.number part way ∷ []) behind_login) k.its.there in
      handed_seen s front stands.asks owed begun past part.items part.close login.0 w stands.place (outs_of sharing events k.hold.number) k.seat.line.stage
      (line_turn k.seat.line (line.Come part)).answer manner k.tied (heeds k.seat.line part login kept) here

  heard_by : (k : Holds (outs_of sharing events) d key front.stage w stands.place) → Plain sharing (events ++ pool.Comes k.hold.number part way ∷ [])
      → HeardAs k.seat.line.stage (Rattle.tds_service.specs.Parts.is_end part.close) (line_turn k.seat.line (line.Come part)) → By (line_turn k.seat.line (line.Come part)).answer
  heard_by k login (Breaks fault a) = subst By (sym a) (closed_seen s front w stands.asks owed begun past part manner fault here)
  heard_by k login (ReadsOn is goes a sent l) = heeded_by k login (right_by k.seat.line line.More a (λ e. let u : ⊥ = cc in u))
  heard_by k login (ReadsEnd request is a sent l) = heeded_by k login (right_by k.seat.line (line.Finished request) a (λ e. let u : ⊥ = cc in u))
  heard_by k login (SkipsOn is a sent l) = heeded_by k login (right_by k.seat.line line.More a (λ e. let u : ⊥ = cc in u))
  heard_by k login (SkipsEnd request is a sent l) = heeded_by k login (right_by k.seat.line (line.Acked request) a (λ e. let u : ⊥ = cc in u))

  held_seen : (k : Holds (outs_of sharing events) d key front.stage w stands.place) → Plain sharing (events ++ pool.Comes k.hold.number part way ∷ []) → Of (dones_of_part d k.hold.number part)
  held_seen k login = subst Of (sym (came_done d key k.hold k.seat part k.its)) (heard_by k login (heard_as k.seat.line part))

  its_seen : Standing (outs_of sharing events) d key front.stage w stands.place → whose d number ≡ Some key → Of (dones_of_part d number part)
  its_seen (inl k) mine =
      let number_is : k.hold.number ≡ number = whose_number d key number k.hold k.seat (sound_at sharing events h.core stands.is) k.its mine in
      subst (λ (m : ℕ). Plain sharing (events ++ pool.Comes m part way ∷ []) → Of (dones_of_part d m part)) number_is (held_seen k) plain
  its_seen (inr k) mine = absurd (absent_whose d key number (sound_at sharing events h.core stands.is) k.absent.none mine)

  mine_seen : whose d number ≡ Some key
      → NowEnd (option_map (end_told (what_in (dones_of_part d number part))) (end_at h.core.ends key)) (goes_on_behind begun manner part) (sees_handed s begun past manner part)
  mine_seen mine =
      let what = what_in (dones_of_part d number part) in
      let on : IsHanded (is_said what (Some (Open front w stands.asks))) manner =
      subst (λ (o : Option End). IsHanded (is_said what o) manner) stands.end_is (subst (λ (who : Option ℕ). IsHanded (is_said what (end_whose who h.core.ends)) manner) mine may.handed_on) in
      let told_it : IsTold owed (hears_of_reset what (Some (Open front w stands.asks))) manner part =
      subst (λ (o : Option End). IsTold owed (hears_of_reset what o) manner part) stands.end_is
      (subst (λ (who : Option ℕ). IsTold owed (hears_of_reset what (end_whose who h.core.ends)) manner part) mine may.told) in
      subst (λ (o : Option End). NowEnd (option_map (end_told what) o) (goes_on_behind begun manner part) (sees_handed s begun past manner part)) (sym stands.end_is) (its_seen stands.standing mine on told_it)

  abbrev Behind : Sight
  Behind = record { begun = goes_on_behind begun manner part; past = sees_handed s begun past manner part }

  abbrev Before : Sight
  Before = record { begun = begun; past = past }

  abbrev Told : End → End
  Told = end_told (what_in (dones_of_part d number part))

  abbrev AtIf : Bool → Type 0
  AtIf b = NowEnd (if b then option_map Told (end_at h.core.ends key) else end_at h.core.ends key) (if b then Behind else Before).begun (if b then Behind else Before).past

  abbrev At : Option ℕ → Type 0
  At who = NowEnd (whose_by key who Told (end_at h.core.ends key)) (sees_its key who Before Behind).begun (sees_its key who Before Behind).past

  hands_if : (other : ℕ) (b : Bool) → whose d number ≡ Some other → (other == key) ≡ b → AtIf b
  hands_if other true mine e = mine_seen (mine ∙ ap (λ (k : ℕ). Some k) (eqb-true other key e))
  hands_if other false mine e = now

  hands_whose : (who : Option ℕ) → whose d number ≡ who → At who
  hands_whose None mine = now
  hands_whose (Some other) mine = hands_if other (other == key) mine refl

  pub hands_seen : At (whose d number)
  hands_seen = hands_whose (whose d number) refl
