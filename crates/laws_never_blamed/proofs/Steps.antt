-- Where a conversation is, by where a client is: the invariant, and what each act makes of it.
use Rattle.std.proofs.Common.{◌≡◌, ◌∙◌, ◌==◌, ◌||◌, ℕ, Bool, true, false, List, [], ◌∷◌, refl, sym, ap, subst}
use Rattle.std.specs.Prelude.{Option, Some, None, Result, Ok, Err, IfOk, not, nat_lt, if◌then◌else◌}
use Rattle.tds_packet.specs.declared.status.Reset.{Reset}
use Rattle.tds_packet.specs.Resets.{header_descriptor}
use Rattle.tds_client.specs.declared.fault.ClientFault.{ClientFault}
use Rattle.tds_client.specs.declared.heard.Heard.{Heard}
use Rattle.tds_client.specs.declared.heard.FinalDone.{FinalDone}
use Rattle.tds_client.specs.declared.heard.FinalDone.TheVariants.{Awaited, Answered, Acknowledged}
use Rattle.tds_client.specs.Hearing.{◌>>=◌, any_sign, hear_sign, may_end, with_done}
use Rattle.tds_client.specs.declared.sign.Rules.TheVariants.{Any}
use Rattle.tds_client.specs.declared.sign.Sign.{Sign}
use Rattle.tds_listen.specs.declared.fault.ListenFault.{ListenFault}
use Rattle.tds_listen.specs.Hearing.{heard_by}
use Rattle.tds_listen.specs.Signs.{sign_of}
use Rattle.tds_wire.specs.declared.told.Token.{Token}
use Rattle.tds_service.specs.Parts.{Item, Close, Goes, Ends, Cut, Fails, Part, close_by, close_part, hear_items, hear_part, is_end}
use Rattle.tds_service.specs.Line as line
use Rattle.tds_service.specs.Line.{Act, Answer, Line, LineStage, Idle, Sending, Reading, Cancelling, Broken, Turn, reads, skips, line_turn}
use Rattle.tds_judge.specs.declared.talk.Event.TheVariants as events
use Rattle.tds_judge.specs.declared.talk.Reset.{Reset as Asks}
use Rattle.tds_judge.specs.Breaches.{agreed_last, final_by_token, size_by_token, size_told}
use Rattle.tds_judge.specs.Conversation.{IsLawful, MayAnswer, MayEnd, MaySay, Place, Quiet, Asking, Answering, Stopping, Skipping, begun_at, ended_at, heard_at, left_by, place_of}
use Rattle.tds_judge.specs.History.{Said, asks_of, is_cleared, is_forgotten, last_told, owed_of}
use Rattle.tds_judge.specs.Talking.{acknowledges}
use Rattle.laws_never_blamed.specs.Seen.{AreBehindLogin, EndsIf, Eye, IsBehindLogin, NothingIf, Watch, acknowledge, sees, sees_begin, sees_close, sees_items, sees_packet}
use Rattle.laws_conforming_server.specs.Answering.{IsNoFault}
use Rattle.laws_never_blamed.proofs.Hears.{IsLast, NotAcknowledged, as_reset, follows, if_ok, is_acknowledged, is_final, no_size, owed_behind}

-- ---- The invariant

-- whatever is underway
pub record Knows (h : Heard) (past : List Said) : Type 0 where
  pub lawful : IsLawful past
  pub agreed : agreed_last past ≡ 0
  pub size : size_told past ≡ 0
  pub last : IsLast (last_told past) h.descriptor

-- a request was begun, and its answer wasn't
pub record Asked (h : Heard) (past : List Said) : Type 0 where
  pub place : place_of past ≡ Asking (as_reset h.mark)
  pub owes : owed_of past ≡ as_reset h.mark
  pub done : h.done ≡ Awaited

-- its answer comes
pub record Answers (h : Heard) (past : List Said) : Type 0 where
  pub place : place_of past ≡ Answering (as_reset h.mark) (is_final h.done)
  pub owes : owed_of past ≡ as_reset h.mark
  pub done : NotAcknowledged h.done

-- a message comes behind an attention
pub record Skips (h : Heard) (past : List Said) : Type 0 where
  pub place : place_of past ≡ Skipping (is_acknowledged h.done)
  pub owes : owed_of past ≡ as_reset h.mark

-- an attention is out, and none comes
pub record Stops (h : Heard) (past : List Said) : Type 0 where
  pub place : place_of past ≡ Stopping
  pub owes : owed_of past ≡ as_reset h.mark
  pub done : h.done ≡ Awaited

pub record Rests (h : Heard) (past : List Said) : Type 0 where
  pub place : place_of past ≡ Quiet
  pub done : h.done ≡ Awaited

-- by the stage, and by whether a message comes that has begun
abbrev pub At : LineStage → Bool → ℕ → Heard → List Said → Type 0
At Idle begun named h past = (begun ≡ false) × Rests h past
At (Sending false) begun named h past = (begun ≡ false) × (named ≡ header_descriptor h.mark h.descriptor) × Rests h past
At (Sending true) begun named h past = (begun ≡ false) × Asked h past
At Reading false named h past = Asked h past
At Reading true named h past = Answers h past
At Cancelling false named h past = Stops h past
At Cancelling true named h past = Skips h past × (is_acknowledged h.done ≡ false)
At (Broken fault) begun named h past = Unit {0}

pub record Stands (l : Line) (w : Watch) (past : List Said) : Type 0 where
  pub knows : Knows l.heard past
  pub at : At l.stage w.begun w.named l.heard past

-- ---- Packets change nothing but that they are seen

pub packet_seen : (eye : Eye) (h : Heard) (past : List Said) → Knows h past → Knows h (sees_packet eye past)
unfolding IsLawful agreed_last size_told last_told
packet_seen eye h past k = record {
  lawful = (k.lawful, ap (λ (n : ℕ). (n == 0) || not (nat_lt n (eye.length past))) k.size);
  agreed = k.agreed;
  size = k.size;
  last = k.last;
}

-- ---- Items

item_reads : (eye : Eye) (h : Heard) (past : List Said) (item : Item Token) → IsBehindLogin item → Knows h past → Answers h past
    → IfOk (any_sign false h item.sign) (λ next. Knows next (sees eye past (events.Says item.token)) × Answers next (sees eye past (events.Says item.token)))
unfolding IsLawful agreed_last size_told last_told place_of asks_of is_cleared
item_reads eye h past item plain k a =
    subst (λ (s : Sign). IfOk (any_sign false h s) (λ next. Knows next (sees eye past (events.Says item.token)) × Answers next (sees eye past (events.Says item.token)))) (sym plain.sign)
    (if_ok (any_sign false h (sign_of item.token)) (λ next f.
    let done = f.reads refl a.done in (
      record {
        lawful = (k.lawful, (subst (λ (p : Place). MaySay p item.token) (sym a.place) done.0, f.change));
        agreed = ap (size_by_token item.token.told) k.agreed ∙ no_size item.token.told plain.size;
        size = k.size;
        last = f.last;
      },
      record {
        place = ap (heard_at item.token) a.place ∙ (ap (λ (r : Asks). Answering r (final_by_token item.token.told (is_final h.done))) f.left ∙ ap (Answering (as_reset next.mark)) done.1);
        owes = owed_behind item.token.told (is_cleared past) (asks_of past) ∙ (ap (left_by item.token.told) a.owes ∙ f.left);
        done = done.2;
      },
    ))
    (follows false h item.token.kind item.token.told (owed_of past) (last_told past) plain.size plain.done a.owes k.last))

item_skips : (eye : Eye) (h : Heard) (past : List Said) (item : Item Token) → IsBehindLogin item → Knows h past → Skips h past → is_acknowledged h.done ≡ false
    → IfOk (any_sign true h item.sign) (λ next. Knows next (sees eye past (events.Says item.token)) × Skips next (sees eye past (events.Says item.token)) × (acknowledges item.token ≡ is_acknowledged next.done))
unfolding IsLawful agreed_last size_told last_told place_of asks_of is_cleared
item_skips eye h past item plain k a none =
    subst (λ (s : Sign). IfOk (any_sign true h s) (λ next. Knows next (sees eye past (events.Says item.token)) × Skips next (sees eye past (events.Says item.token)) × (acknowledges item.token ≡ is_acknowledged next.done))) (sym plain.sign)
    (if_ok (any_sign true h (sign_of item.token)) (λ next f. (
      record {
        lawful = (k.lawful, (subst (λ (p : Place). MaySay p item.token) (sym a.place) (subst (λ (b : Bool). MaySay (Skipping b) item.token) (sym none) plain.final), f.change));
        agreed = ap (size_by_token item.token.told) k.agreed ∙ no_size item.token.told plain.size;
        size = k.size;
        last = f.last;
      },
      record { place = ap (heard_at item.token) a.place ∙ ap Skipping f.acknowledged; owes = owed_behind item.token.told (is_cleared past) (asks_of past) ∙ (ap (left_by item.token.told) a.owes ∙ f.left) },
      ap (λ (b : Bool). b || acknowledges item.token) (sym none) ∙ f.acknowledged,
    ))
    (follows true h item.token.kind item.token.told (owed_of past) (last_told past) plain.size plain.done a.owes k.last))

-- from a fact of what was heard first
if_next : (P Q : Heard → Type 0) (r : Result Heard ClientFault) (f : Heard → Result Heard ClientFault) → IfOk r P → ((x : Heard) → P x → IfOk (f x) Q) → IfOk (r >>= f) Q
if_next P Q (Ok x) f is so = so x is
if_next P Q (Err e) f is so = tt

items_read : (eye : Eye) (h : Heard) (past : List Said) (items : List (Item Token)) → AreBehindLogin items → Knows h past → Answers h past
    → IfOk (hear_items false h items) (λ next. Knows next (sees_items eye past items) × Answers next (sees_items eye past items))
items_read eye h past [] plain k a = (k, a)
items_read eye h past (item ∷ items) plain k a =
    if_next _ _ (hear_sign Any false h item.sign) (λ next. hear_items false next items) (item_reads eye h past item plain.0 k a)
    (λ next both. items_read eye next (sees eye past (events.Says item.token)) items plain.2 both.0 both.1)

-- no acknowledgement was heard, unless one was told
abbrev UnlessTold : Bool → Heard → Type 0
UnlessTold true h = Unit {0}
UnlessTold false h = is_acknowledged h.done ≡ false

abbrev Skipped : Eye → List Said → List (Item Token) → Bool → Heard → Type 0
Skipped eye past items told next = Knows next (sees_items eye past items) × Skips next (sees_items eye past items) × UnlessTold told next

-- behind a token that acknowledges or not
skip_on : (eye : Eye) (told : Bool) (h : Heard) (past : List Said) (items : List (Item Token)) → NothingIf told items → Knows h past → Skips h past → told ≡ is_acknowledged h.done
    → (is_acknowledged h.done ≡ false → IfOk (hear_items true h items) (λ next. Skipped eye past items (acknowledge items) next))
    → IfOk (hear_items true h items) (λ next. Skipped eye past items (told || acknowledge items) next)
skip_on eye true h past items nothing k a same rest =
    subst (λ (xs : List (Item Token)). IfOk (hear_items true h xs) (λ next. Skipped eye past xs true next)) (sym nothing) (k, a, tt)
skip_on eye false h past items nothing k a same rest = rest (sym same)

items_skip : (eye : Eye) (h : Heard) (past : List Said) (items : List (Item Token)) → AreBehindLogin items → Knows h past → Skips h past → is_acknowledged h.done ≡ false
    → IfOk (hear_items true h items) (λ next. Skipped eye past items (acknowledge items) next)
items_skip eye h past [] plain k a none = (k, a, none)
items_skip eye h past (item ∷ items) plain k a none =
    if_next _ _ (hear_sign Any true h item.sign) (λ next. hear_items true next items) (item_skips eye h past item plain.0 k a none)
    (λ next both. skip_on eye (acknowledges item.token) next (sees eye past (events.Says item.token)) items plain.1 both.0 both.1 both.2
    (λ none. items_skip eye next (sees eye past (events.Says item.token)) items plain.2 both.0 both.1 none))

-- ---- A message begins

pub reading_begins : (eye : Eye) (begun : Bool) (named : ℕ) (h : Heard) (past : List Said) → Knows h past → At Reading begun named h past
    → Knows h (sees_begin eye begun past) × Answers h (sees_begin eye begun past)
unfolding IsLawful agreed_last size_told last_told place_of asks_of is_cleared
reading_begins eye true named h past k a = (k, a)
reading_begins eye false named h past k a = (
  record { lawful = (k.lawful, subst (MayAnswer (is_forgotten past)) (sym a.place) tt); agreed = k.agreed; size = k.size; last = k.last },
  record {
    place = ap begun_at a.place ∙ ap (λ (d : FinalDone). Answering (as_reset h.mark) (is_final d)) (sym a.done);
    owes = a.owes;
    done = subst NotAcknowledged (sym a.done) tt;
  },
)

pub skipping_begins : (eye : Eye) (begun : Bool) (named : ℕ) (h : Heard) (past : List Said) → Knows h past → At Cancelling begun named h past
    → Knows h (sees_begin eye begun past) × Skips h (sees_begin eye begun past) × (is_acknowledged h.done ≡ false)
unfolding IsLawful agreed_last size_told last_told place_of asks_of is_cleared
skipping_begins eye true named h past k a = (k, a.0, a.1)
skipping_begins eye false named h past k a = (
  record { lawful = (k.lawful, subst (MayAnswer (is_forgotten past)) (sym a.place) tt); agreed = k.agreed; size = k.size; last = k.last },
  record { place = ap begun_at a.place ∙ ap (λ (d : FinalDone). Skipping (is_acknowledged d)) (sym a.done); owes = a.owes },
  ap is_acknowledged a.done,
)

-- ---- An answer's part

abbrev AfterRead : Bool → Heard → List Said → Type 0
AfterRead false h past = Knows h past × Answers h past
AfterRead true h past = Knows h past × (place_of past ≡ Quiet)

read_ends : (eye : Eye) (descriptor : ℕ) (mark : Option Reset) (done : FinalDone) (past : List Said)
    → Knows (record { descriptor = descriptor; mark = mark; done = done }) past → Answers (record { descriptor = descriptor; mark = mark; done = done }) past
    → IfOk (close_part false Ends (record { descriptor = descriptor; mark = mark; done = done })) (λ next. AfterRead true next (sees eye past (events.Answered true)))
unfolding IsLawful agreed_last size_told last_told place_of
read_ends eye descriptor mark Awaited past k a = tt
read_ends eye descriptor None Answered past k a =
    (record { lawful = (k.lawful, subst (λ (p : Place). MayEnd p true) (sym a.place) tt); agreed = k.agreed; size = k.agreed; last = k.last }, ap ended_at a.place)
read_ends eye descriptor (Some reset) Answered past k a = tt
read_ends eye descriptor mark Acknowledged past k a = absurd a.done

read_closes : (eye : Eye) (h : Heard) (past : List Said) (close : Close) → Knows h past → Answers h past
    → IfOk (close_part false close h) (λ next. AfterRead (is_end close) next (sees_close eye past close))
read_closes eye h past Goes k a = (k, a)
read_closes eye h past Ends k a = read_ends eye h.descriptor h.mark h.done past k a
read_closes eye h past Cut k a = tt
read_closes eye h past (Fails refusal) k a = tt

abbrev AfterSkip : Bool → Heard → List Said → Type 0
AfterSkip false h past = Knows h past × Skips h past × (is_acknowledged h.done ≡ false)
AfterSkip true h past = Knows h past × (place_of past ≡ ended_at (Skipping (is_acknowledged h.done))) × (owed_of past ≡ as_reset h.mark)

skip_ends : (eye : Eye) (whole : Bool) (h : Heard) (past : List Said) → Knows h past → Skips h past
    → AfterSkip true h (sees eye past (events.Answered whole))
unfolding IsLawful agreed_last size_told last_told place_of asks_of is_cleared
skip_ends eye whole h past k a =
    (record { lawful = (k.lawful, subst (λ (p : Place). MayEnd p whole) (sym a.place) tt); agreed = k.agreed; size = k.agreed; last = k.last }, ap ended_at a.place, a.owes)

skip_may : (eye : Eye) (whole : Bool) (done : FinalDone) (h : Heard) (past : List Said) → Knows h past → Skips h past
    → IfOk (close_by true (may_end Any true done) h) (λ next. AfterSkip true next (sees eye past (events.Answered whole)))
skip_may eye whole Awaited h past k a = skip_ends eye whole h past k a
skip_may eye whole Answered h past k a = skip_ends eye whole h past k a
skip_may eye whole Acknowledged h past k a = skip_ends eye whole h past k a

-- a message that goes on has acknowledged nothing
goes_on : (told : Bool) (h : Heard) → UnlessTold told h → EndsIf told Goes → is_acknowledged h.done ≡ false
goes_on true h none ends = let bad : false ≡ true = ends in absurd cc
goes_on false h none ends = none

skip_closes : (eye : Eye) (told : Bool) (h : Heard) (past : List Said) (close : Close) → Knows h past → Skips h past → UnlessTold told h → EndsIf told close
    → IfOk (close_part true close h) (λ next. AfterSkip (is_end close) next (sees_close eye past close))
skip_closes eye told h past Goes k a none ends = (k, a, goes_on told h none ends)
skip_closes eye told h past Ends k a none ends = skip_may eye true h.done h past k a
skip_closes eye told h past Cut k a none ends = skip_may eye false h.done h past k a
skip_closes eye told h past (Fails refusal) k a none ends = tt

if_heard : (P Q : Heard → Type 0) (r : Result Heard ClientFault) (f : Heard → Result Heard ListenFault) → IfOk r P → ((x : Heard) → P x → IfOk (f x) Q) → IfOk (heard_by r f) Q
if_heard P Q (Ok x) f is so = so x is
if_heard P Q (Err e) f is so = tt

-- the begun message's part
pub part_reads : (eye : Eye) (h : Heard) (past : List Said) (part : Part Token) → AreBehindLogin part.items → Knows h past → Answers h past
    → IfOk (hear_part false h part) (λ next. AfterRead (is_end part.close) next (sees_close eye (sees_items eye past part.items) part.close))
part_reads eye h past part plain k a =
    if_heard _ _ (hear_items false h part.items) (λ next. close_part false part.close next) (items_read eye h past part.items plain k a)
    (λ next both. read_closes eye next (sees_items eye past part.items) part.close both.0 both.1)

pub part_skips : (eye : Eye) (h : Heard) (past : List Said) (part : Part Token) → AreBehindLogin part.items → EndsIf (acknowledge part.items) part.close → Knows h past → Skips h past
    → is_acknowledged h.done ≡ false
    → IfOk (hear_part true h part) (λ next. AfterSkip (is_end part.close) next (sees_close eye (sees_items eye past part.items) part.close))
part_skips eye h past part plain ends k a none =
    if_heard _ _ (hear_items true h part.items) (λ next. close_part true part.close next) (items_skip eye h past part.items plain k a none)
    (λ next both. skip_closes eye (acknowledge part.items) next (sees_items eye past part.items) part.close both.0 both.1 both.2 ends)

-- ---- What the client makes of it

abbrev watching : ℕ → Bool → Watch
watching named begun = record { named = named; begun = begun }

still : (h : Heard) (past : List Said) (done : FinalDone) → Knows h past → Knows (with_done h done) past
still h past done k = record { lawful = k.lawful; agreed = k.agreed; size = k.size; last = k.last }

pub reads_stand : (l : Line) (part : Part Token) (named : ℕ) (past : List Said) (ends : Bool) (until : Heard) (r : Result Heard ListenFault)
    → IfOk r (λ next. AfterRead ends next past) → IsNoFault (reads l part ends until r).answer
    → Stands (reads l part ends until r).line (watching named (if ends then false else true)) past
reads_stand l part named past ends until (Err fault) so well = absurd well
reads_stand l part named past false until (Ok h) so well = record { knows = so.0; at = so.1 }
reads_stand l part named past true until (Ok h) so well =
    record { knows = still h past Awaited so.0; at = (refl, record { place = so.1; done = refl }) }

skipped_stand : (l : Line) (named descriptor : ℕ) (mark : Option Reset) (done : FinalDone) (past : List Said)
    → AfterSkip true (record { descriptor = descriptor; mark = mark; done = done }) past
    → Stands (line.skips_to_end {T = Token} l (record { descriptor = descriptor; mark = mark; done = done }) done).line (watching named false) past
skipped_stand l named descriptor mark Awaited past so =
    record { knows = still (record { descriptor = descriptor; mark = mark; done = Awaited }) past Awaited so.0; at = record { place = so.1; owes = so.2; done = refl } }
skipped_stand l named descriptor mark Answered past so =
    record { knows = still (record { descriptor = descriptor; mark = mark; done = Answered }) past Awaited so.0; at = record { place = so.1; owes = so.2; done = refl } }
skipped_stand l named descriptor mark Acknowledged past so =
    record { knows = still (record { descriptor = descriptor; mark = mark; done = Acknowledged }) past Awaited so.0; at = (refl, record { place = so.1; done = refl }) }

pub skips_stand : (l : Line) (named : ℕ) (past : List Said) (ends : Bool) (until : Heard) (r : Result Heard ListenFault)
    → IfOk r (λ next. AfterSkip ends next past) → IsNoFault (skips {T = Token} l ends until r).answer
    → Stands (skips {T = Token} l ends until r).line (watching named (if ends then false else true)) past
skips_stand l named past ends until (Err fault) so well = absurd well
skips_stand l named past false until (Ok h) so well = record { knows = so.0; at = (so.1, so.2) }
skips_stand l named past true until (Ok h) so well = skipped_stand l named h.descriptor h.mark h.done past so
