-- What an application is given by a packet on its connection: that packet, exactly where its end says it.
use Rattle.std.proofs.Common.{◌≡◌, ◌∙◌, ◌==◌, ◌&&◌, not, ℕ, Bool, true, false, List, [], ◌∷◌, refl, sym, ap, subst, inl, inr}
use Rattle.std.specs.Prelude.{Option, Some, None, if◌then◌else◌}
use Rattle.std.proofs.lemmas.Bool.{eqb-true}
use Rattle.tds_packet.specs.declared.header.Header.{Header}
use Rattle.tds_front.specs.declared.front.Front.{Front}
use Rattle.tds_front.specs.declared.stage.Stage.{Stage}
use Rattle.tds_front.specs.declared.stage.Stage.TheVariants as stages
use Rattle.tds_front.specs.Passing.{FrontEvent, Says, with_reply}
use Rattle.tds_front.specs.Serving.{Goes, Happening, ServerIsAt, ServerReply, Tokens, Ends, Acknowledges}
use Rattle.tds_wire.specs.declared.told.Token.{Token}
use Rattle.tds_service.specs.History.{Done, history}
use Rattle.tds_service.specs.Line as line
use Rattle.tds_service.specs.Line.{Answer, Turn, line_turn}
use Rattle.tds_service.specs.Parts.{Part, is_end}
use Rattle.tds_relay.specs.Behind.{if_end_open, if_whose, passes, said_by, said_in, unless_withdrawn}
use Rattle.tds_relay.specs.Cutting.{is_last_packet}
use Rattle.tds_relay.specs.Pool.{Pool, Event, Sharing, Way, whose}
use Rattle.tds_relay.specs.Giving.{AreSaid, Given, IsPacketOf, IsSaid, if_its}
use Rattle.tds_relay.specs.Core as core
use Rattle.tds_relay.specs.Core.{End, Open, dones_of_part, end_at, what_in, what_of}
use Rattle.tds_relay.specs.Machine.{Machine, IsHanded, IsRight, Manner, MayHand, Whole, Without, Withheld, closes_connection, end_whose, handed, is_said}
use Rattle.tds_relay.proofs.ends.Folding.{outs_of, sound_at}
use Rattle.tds_relay.proofs.held.Ours.{came_done}
use Rattle.tds_relay.proofs.ends.Outs.{HeardAs, Breaks, ReadsOn, ReadsEnd, SkipsOn, SkipsEnd, heard_as}
use Rattle.tds_relay.proofs.ends.Standing.{Holds, Standing, absent_whose, whose_number}
use Rattle.tds_relay.proofs.ends.Tying.{Tied}
use Rattle.tds_relay.proofs.visits.Closing.{EndsAs, ends_heard}
use Rattle.tds_relay.proofs.visits.Reached.{Stands}
use Rattle.tds_relay.proofs.visits.Replies.{Said, gives, its, not_its}

-- ---- Where an end is that is answered

-- nothing goes to one that is closed
abbrev IsLive : Stage → Type 0
IsLive (stages.Broken fault) = ⊥
IsLive stage = Unit {0}

reply_goes : (stage : Stage) (reply : ServerReply) → IsLive stage → with_reply stage reply [] ≡ Goes reply ∷ []
reply_goes stages.Quiet reply live = refl
reply_goes (stages.Receiving kind gone) reply live = refl
reply_goes (stages.Underway gone) reply live = refl
reply_goes stages.Stopping reply live = refl
reply_goes (stages.Broken fault) reply live = absurd live

live_reading : (stage : Stage) (p : ServerIsAt) (s : line.LineStage) (out : Bool) → Tied stage false p s out → s ≡ line.Reading → IsLive stage
live_reading stage p s out tied is =
    let t : Tied stage false p line.Reading out = subst (λ (x : line.LineStage). Tied stage false p x out) is tied in
    subst IsLive (sym t.0) tt

live_stopping : (stage : Stage) (p : ServerIsAt) (s : line.LineStage) (out : Bool) → Tied stage false p s out → s ≡ line.Cancelling → IsLive stage
live_stopping stage p s out tied is =
    let t : Tied stage false p line.Cancelling out = subst (λ (x : line.LineStage). Tied stage false p x out) is tied in
    subst IsLive (sym t.0) tt

-- ---- A packet that is handed on, and one that isn't

goes : (header : Header) (content : List ℕ) (manner : Manner) (ends : Bool) (reply : ServerReply) → IsRight header content manner → IsHanded true manner → is_last_packet header ≡ ends
    → ((given : Given) → IsPacketOf ends given → IsSaid reply given) → AreSaid (Goes reply ∷ []) (gives (handed manner header content))
goes header content (Whole tells) ends reply right on is says = (says _ (record { header = header; content = content; manner = Whole tells; ends_is = is; right = right; are = refl }), refl)
goes header content (Without tells bytes) ends reply right on is says =
    (says _ (record { header = header; content = content; manner = Without tells bytes; ends_is = is; right = right; are = refl }), refl)
goes header content Withheld ends reply right on is says = absurd on

withheld : (header : Header) (content : List ℕ) (manner : Manner) → IsHanded false manner → gives (handed manner header content) ≡ []
withheld header content manner e = ap (λ (m : Manner). gives (handed m header content)) e

-- ---- By what the service answers

module _ (header : Header) (content : List ℕ) (manner : Manner) (right : IsRight header content manner) where
  abbrev Gives : List Given
  Gives = gives (handed manner header content)

  says : (stage : Stage) (reply : ServerReply) → IsLive stage → AreSaid (Goes reply ∷ []) Gives → Said stage (Says reply ∷ []) Gives
  says stage reply live are begun = subst (λ (xs : List Happening). AreSaid xs Gives) (sym (reply_goes stage reply live)) are

  abbrev SaidBy : Stage → Bool → Answer → Type 0
  SaidBy stage ends answer = EndsAs (is_last_packet header) ends answer → IsHanded (not (closes_connection (what_of answer))) manner → Said stage (said_by ends answer) Gives

  more_said : (stage : Stage) (ends : Bool) → IsLive stage → SaidBy stage ends line.More
  more_said stage true live fits on = says stage Ends live (goes header content manner true Ends right on (sym fits) (λ given packet. packet))
  more_said stage false live fits on = says stage Tokens live (goes header content manner false Tokens right on (sym fits) (λ given packet. packet))

  finished_said : (stage : Stage) (ends : Bool) (request : ℕ) → IsLive stage → SaidBy stage ends (line.Finished request)
  finished_said stage ends request live fits on = says stage Ends live (goes header content manner true Ends right on fits (λ given packet. packet))

  acked_said : (stage : Stage) (ends : Bool) (request : ℕ) → IsLive stage → SaidBy stage ends (line.Acked request)
  acked_said stage ends request live fits on = says stage Acknowledges live (goes header content manner true Acknowledges right on fits (λ given packet. inl packet))

  answered_said : (stage : Stage) (p : ServerIsAt) (s : line.LineStage) (out : Bool) (ends : Bool) (t : Turn Token) → Tied stage false p s out → HeardAs s ends t → SaidBy stage ends t.answer
  answered_said stage p s out ends t tied (Breaks fault a) = subst (SaidBy stage ends) (sym a) (λ fits on begun. withheld header content manner on)
  answered_said stage p s out ends t tied (ReadsOn is closed a sent l) = subst (SaidBy stage ends) (sym a) (more_said stage ends (live_reading stage p s out tied is))
  answered_said stage p s out ends t tied (ReadsEnd request is a sent l) = subst (SaidBy stage ends) (sym a) (finished_said stage ends request (live_reading stage p s out tied is))
  answered_said stage p s out ends t tied (SkipsOn is a sent l) = subst (SaidBy stage ends) (sym a) (more_said stage ends (live_stopping stage p s out tied is))
  answered_said stage p s out ends t tied (SkipsEnd request is a sent l) = subst (SaidBy stage ends) (sym a) (acked_said stage ends request (live_stopping stage p s out tied is))

  -- also where it has taken its request back
  heard_said : (stage : Stage) (w : Bool) (p : ServerIsAt) (s : line.LineStage) (out : Bool) (ends : Bool) (t : Turn Token) → Tied stage w p s out → HeardAs s ends t → EndsAs (is_last_packet header) ends t.answer
      → IsHanded (not w && not (closes_connection (what_of t.answer))) manner → Said stage (unless_withdrawn w (said_by ends t.answer)) Gives
  heard_said stage true p s out ends t tied heard fits on begun = withheld header content manner on
  heard_said stage false p s out ends t tied heard fits on begun = answered_said stage p s out ends t tied heard fits on begun

-- ---- By whose it is

module _ (sharing : Sharing) (key : ℕ) (events : List Event) (h : Machine) (front : Front) (w : Bool) (stands : Stands sharing key events h.core front w)
    (number : ℕ) (header : Header) (content : List ℕ) (part : Part Token) (manner : Manner) (may : MayHand h number header content part manner) where
  abbrev d : Pool
  d = h.core.pool

  abbrev Handed : List Given
  Handed = gives (handed manner header content)

  abbrev SaidOf : List (Done Token) → Type 0
  SaidOf dones = IsHanded (not w && not (closes_connection (what_in dones))) manner → Said front.stage (unless_withdrawn w (said_in dones)) Handed

  came_said : (k : Holds (outs_of sharing events) d key front.stage w stands.place) → EndsAs (is_last_packet header) (is_end part.close) (line_turn k.seat.line (line.Come part)).answer → SaidOf (history k.seat.line (line.Come part ∷ []))
  came_said k fits on =
      heard_said header content manner may.right front.stage w stands.place k.seat.line.stage (outs_of sharing events k.hold.number) (is_end part.close) (line_turn k.seat.line (line.Come part)) k.tied
      (heard_as k.seat.line part) fits on

  -- the application holds that connection
  own_said : Holds (outs_of sharing events) d key front.stage w stands.place → whose d number ≡ Some key → SaidOf (dones_of_part d number part)
  own_said k mine =
      let sound = sound_at sharing events h.core stands.is in
      let number_is : k.hold.number ≡ number = whose_number d key number k.hold k.seat sound k.its mine in
      let fits = ends_heard k.seat.line may.parser content (is_last_packet header) part may.part_is (may.has_parser key mine) in
      let here : SaidOf (dones_of_part d k.hold.number part) = subst SaidOf (sym (came_done d key k.hold k.seat part k.its)) (came_said k fits) in
      subst (λ (n : ℕ). SaidOf (dones_of_part d n part)) number_is here

  its_said : Standing (outs_of sharing events) d key front.stage w stands.place → whose d number ≡ Some key → SaidOf (dones_of_part d number part)
  its_said (inl k) mine = own_said k mine
  its_said (inr k) mine = absurd (absent_whose d key number (sound_at sharing events h.core stands.is) k.absent.none mine)

  abbrev Heard : List FrontEvent
  Heard = if_end_open (end_at h.core.ends key) (λ front withdrawn. unless_withdrawn withdrawn (said_in (dones_of_part d number part)))

  mine_said : whose d number ≡ Some key → Said front.stage Heard Handed
  mine_said mine =
      let what = what_in (dones_of_part d number part) in
      let whose_is : IsHanded (is_said what (end_at h.core.ends key)) manner = subst (λ (who : Option ℕ). IsHanded (is_said what (end_whose who h.core.ends)) manner) mine may.handed_on in
      let on : IsHanded (is_said what (Some (Open front w stands.asks))) manner = subst (λ (o : Option End). IsHanded (is_said what o) manner) stands.end_is whose_is in
      subst (λ (o : Option End). Said front.stage (if_end_open o (λ front withdrawn. unless_withdrawn withdrawn (said_in (dones_of_part d number part)))) Handed) (sym stands.end_is)
      (its_said stands.standing mine on)

  hands_if : (other : ℕ) (b : Bool) → whose d number ≡ Some other → (other == key) ≡ b → Said front.stage (if b then Heard else []) (if_its key (Some other) (handed manner header content))
  hands_if other true mine e =
      subst (λ (all : List Given). Said front.stage Heard all) (sym (its key other (handed manner header content) e)) (mine_said (mine ∙ ap (λ (k : ℕ). Some k) (eqb-true other key e)))
  hands_if other false mine e = subst (λ (all : List Given). Said front.stage [] all) (sym (not_its key other (handed manner header content) e)) (λ begun. refl)

  hands_whose : (who : Option ℕ) → whose d number ≡ who → Said front.stage (if_whose key who Heard) (if_its key who (handed manner header content))
  hands_whose None mine begun = refl
  hands_whose (Some other) mine begun = hands_if other (other == key) mine refl begun

  pub hands_said : (way : Way) → Said front.stage (passes key h.core (core.Comes number part way)) (if_its key (whose d number) (handed manner header content))
  hands_said way = hands_whose (whose d number) refl
