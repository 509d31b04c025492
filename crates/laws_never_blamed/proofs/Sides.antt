-- What is seen between an application and its end of a relay, event by event: what is known of it, and where it is then.
use Rattle.std.proofs.Common.{◌≡◌, ◌∙◌, ◌+◌, ◌==◌, ◌||◌, ◌&&◌, not, nat_lt, ℕ, Bool, true, false, List, [], ◌∷◌, refl, sym, ap, subst, inl, inr, arith}
use Rattle.std.specs.Prelude.{if◌then◌else◌}
use Rattle.tds_token.specs.declared.env_change.EnvChange.TheVariants.{Begin, Commit, Rollback}
use Rattle.tds_client.specs.declared.sign.Sign.{Sign}
use Rattle.tds_client.specs.declared.sign.Sign.TheVariants as signs
use Rattle.tds_listen.specs.Signs.{sign_by, transaction_change, unclear_sign}
use Rattle.tds_wire.specs.declared.told.ChangeValue.{ChangeValue}
use Rattle.tds_wire.specs.declared.told.ChangeValue.TheVariants as values
use Rattle.tds_wire.specs.declared.told.Told.{Told}
use Rattle.tds_wire.specs.declared.told.Told.TheVariants as told
use Rattle.tds_wire.specs.declared.told.Token.{Token}
use Rattle.tds_service.specs.Parts.{Item}
use Rattle.tds_judge.specs.declared.talk.Event.TheVariants as events
use Rattle.tds_judge.specs.declared.talk.Reset.{Reset as Asks}
use Rattle.tds_judge.specs.declared.talk.Reset.TheVariants as resets
use Rattle.tds_judge.specs.Breaches.{agreed_last, final_by_token, size_by_token, size_told}
use Rattle.tds_judge.specs.Conversation.{IsLawful, MayAnswer, MayEnd, MaySay, Place, Answering, Skipping, heard_at, left_by, place_of}
use Rattle.tds_judge.specs.History.{Said, is_forgotten}
use Rattle.tds_judge.specs.Talking.{acknowledges, says_more, told_acknowledges}
use Rattle.tds_relay.specs.Machine.{news_in, news_of, owed_behind}
use Rattle.laws_never_blamed.specs.Seen.{AreBehindLogin, Eye, NothingIf, acknowledge, sees, sees_items}
use Rattle.laws_never_blamed.specs.Tokens.{TellsNoSize}
use Rattle.laws_never_blamed.specs.Relayed.{AllSupposed, EndsFinally, IsNews, LeavesOut}
use Rattle.laws_never_blamed.proofs.Hears.{no_size}

-- ---- What is known of it: it is lawful, as far as what is supposed goes; and no packet size was told

pub record Fine (past : List Said) : Type 0 where
  pub lawful : AllSupposed past → IsLawful past
  pub agreed : agreed_last past ≡ 0
  pub size : size_told past ≡ 0

pub fine_packet : (eye : Eye) (past : List Said) (size : ℕ) (fills : Bool) → Fine past → Fine (sees eye past (events.Packet size fills))
unfolding IsLawful AllSupposed agreed_last size_told
fine_packet eye past size fills f = record {
  lawful = λ s. (f.lawful s.0, ap (λ (n : ℕ). (n == 0) || not (nat_lt n size)) f.size);
  agreed = f.agreed;
  size = f.size;
}

pub fine_request : (eye : Eye) (past : List Said) (status : ℕ) (bulk : Bool) → Fine past → Fine (sees eye past (events.Request status bulk))
unfolding IsLawful AllSupposed agreed_last size_told
fine_request eye past status bulk f = record { lawful = λ s. (f.lawful s.0, s.1); agreed = f.agreed; size = f.size }

pub fine_names : (eye : Eye) (past : List Said) (named : ℕ) → Fine past → Fine (sees eye past (events.Names named))
unfolding IsLawful AllSupposed agreed_last size_told
fine_names eye past named f = record { lawful = λ s. (f.lawful s.0, s.1); agreed = f.agreed; size = f.size }

pub fine_later : (eye : Eye) (past : List Said) (status : ℕ) → Fine past → Fine (sees eye past (events.Later status))
unfolding IsLawful AllSupposed agreed_last size_told
fine_later eye past status f = record { lawful = λ s. (f.lawful s.0, s.1); agreed = f.agreed; size = f.size }

pub fine_ignored : (eye : Eye) (past : List Said) → Fine past → Fine (sees eye past events.Ignored)
unfolding IsLawful AllSupposed agreed_last size_told
fine_ignored eye past f = record { lawful = λ s. (f.lawful s.0, tt); agreed = f.agreed; size = f.size }

pub fine_attention : (eye : Eye) (past : List Said) → Fine past → Fine (sees eye past (events.Attention 8 1))
unfolding IsLawful AllSupposed agreed_last size_told
fine_attention eye past f = record { lawful = λ s. (f.lawful s.0, s.1); agreed = f.agreed; size = f.size }

pub fine_answer : (eye : Eye) (past : List Said) → MayAnswer (is_forgotten past) (place_of past) → Fine past → Fine (sees eye past events.Answer)
unfolding IsLawful AllSupposed agreed_last size_told
fine_answer eye past may f = record { lawful = λ s. (f.lawful s.0, may); agreed = f.agreed; size = f.size }

pub fine_says : (eye : Eye) (past : List Said) (token : Token) → MaySay (place_of past) token → TellsNoSize token.told → Fine past → Fine (sees eye past (events.Says token))
unfolding IsLawful AllSupposed agreed_last size_told
fine_says eye past token may none f = record {
  lawful = λ s. (f.lawful s.0, (may, s.1));
  agreed = ap (size_by_token token.told) f.agreed ∙ no_size token.told none;
  size = f.size;
}

pub fine_answered : (eye : Eye) (past : List Said) (whole : Bool) → (EndsFinally (place_of past) → MayEnd (place_of past) whole) → Fine past → Fine (sees eye past (events.Answered whole))
unfolding IsLawful AllSupposed agreed_last size_told
fine_answered eye past whole may f = record { lawful = λ s. (f.lawful s.0, may s.1); agreed = f.agreed; size = f.agreed }

-- ---- Tokens of an answer

-- what is still to be told behind them
abbrev pub left_all : List (Item Token) → Asks → Asks
left_all [] reset = reset
left_all (item ∷ items) reset = left_all items (left_by item.token.told reset)

-- where it is: an answer comes, of which this is still to be told
pub record AnswersAt (reset : Asks) (past : List Said) : Type 0 where
  pub final : Bool
  pub place : place_of past ≡ Answering reset final

pub record Answered (reset : Asks) (past : List Said) : Type 0 where
  pub fine : Fine past
  pub at : AnswersAt reset past

or_left : (a b : Bool) → a || b ≡ false → a ≡ false
or_left true b e = e
or_left false b e = refl

or_right : (a b : Bool) → a || b ≡ false → b ≡ false
or_right true b e = absurd (let u : ⊥ = cc in u)
or_right false b e = e

pub says_answer : (eye : Eye) (past : List Said) (reset : Asks) (token : Token) → acknowledges token ≡ false → TellsNoSize token.told → Answered reset past
    → Answered (left_by token.told reset) (sees eye past (events.Says token))
unfolding place_of
says_answer eye past reset token not none a = record {
  fine = fine_says eye past token (subst (λ (p : Place). MaySay p token) (sym a.at.place) not) none a.fine;
  at = record { final = final_by_token token.told a.at.final; place = ap (heard_at token) a.at.place };
}

pub items_answer : (eye : Eye) (past : List Said) (reset : Asks) (items : List (Item Token)) → AreBehindLogin items → acknowledge items ≡ false → Answered reset past
    → Answered (left_all items reset) (sees_items eye past items)
items_answer eye past reset [] plain not a = a
items_answer eye past reset (item ∷ items) plain not a =
    items_answer eye (sees eye past (events.Says item.token)) (left_by item.token.told reset) items plain.2 (or_right (acknowledges item.token) (acknowledge items) not)
    (says_answer eye past reset item.token (or_left (acknowledges item.token) (acknowledge items) not) plain.0.size a)

-- ---- Tokens behind an attention

pub record Skipped (acknowledged : Bool) (past : List Said) : Type 0 where
  pub fine : Fine past
  pub place : place_of past ≡ Skipping acknowledged

pub says_skip : (eye : Eye) (past : List Said) (token : Token) → acknowledges token && says_more token ≡ false → TellsNoSize token.told → Skipped false past
    → Skipped (acknowledges token) (sees eye past (events.Says token))
unfolding place_of
says_skip eye past token last none a = record {
  fine = fine_says eye past token (subst (λ (p : Place). MaySay p token) (sym a.place) last) none a.fine;
  place = ap (heard_at token) a.place;
}

skip_on : (eye : Eye) (past : List Said) (b : Bool) (items : List (Item Token)) → NothingIf b items → Skipped b past
    → (Skipped false past → Skipped (acknowledge items) (sees_items eye past items)) → Skipped (b || acknowledge items) (sees_items eye past items)
skip_on eye past true items nothing a rest = subst (λ (xs : List (Item Token)). Skipped true (sees_items eye past xs)) (sym nothing) a
skip_on eye past false items nothing a rest = rest a

pub items_skip : (eye : Eye) (past : List Said) (items : List (Item Token)) → AreBehindLogin items → Skipped false past → Skipped (acknowledge items) (sees_items eye past items)
items_skip eye past [] plain a = a
items_skip eye past (item ∷ items) plain a =
    skip_on eye (sees eye past (events.Says item.token)) (acknowledges item.token) items plain.1 (says_skip eye past item.token plain.0.final plain.0.size a)
    (λ b. items_skip eye (sees eye past (events.Says item.token)) items plain.2 b)

-- ---- What is told of a reset

-- none is to be told where none was
none_change : (value : ChangeValue) (type : ℕ) → left_by (told.Change (record { kind = type; value = value })) resets.None ≡ resets.None
none_change (values.Transaction new old) type = refl
none_change values.ResetDone type = refl
none_change (values.PacketSize n) type = refl
none_change (values.Values new old) type = refl
none_change values.Other type = refl

none_by : (x : Told) → left_by x resets.None ≡ resets.None
none_by (told.Change change) = none_change change.value change.kind
none_by (told.Done d) = refl
none_by (told.Message m) = refl
none_by (told.ReturnStatus n) = refl
none_by (told.SessionState s) = refl
none_by told.Unclear = refl
none_by told.Other = refl

pub none_left : (items : List (Item Token)) → left_all items resets.None ≡ resets.None
none_left [] = refl
none_left (item ∷ items) = ap (left_all items) (none_by item.token.told) ∙ none_left items

-- Each token tells of it, or isn't counted.
data Counts (x : Told) (sign : Sign) : Type 0 where
  TellsIt : ((reset : Asks) → left_by x reset ≡ resets.None) → Counts x sign
  Else : ((owed : Bool) → news_of owed sign ≡ 0) → ((owed : Bool) → owed_behind owed sign ≡ owed) → Counts x sign

choice_counts : (x : Told) (p q : Bool) (new old : ℕ) → Counts x (signs.Change (if p then Begin new else if q then Commit old else Rollback old))
choice_counts x true q new old = Else (λ owed. refl) (λ owed. refl)
choice_counts x false true new old = Else (λ owed. refl) (λ owed. refl)
choice_counts x false false new old = Else (λ owed. refl) (λ owed. refl)

change_counts : (kind type : ℕ) (value : ChangeValue) → Counts (told.Change (record { kind = type; value = value })) (sign_by kind (told.Change (record { kind = type; value = value })))
unfolding transaction_change
change_counts kind type (values.Transaction new old) = choice_counts _ ((type == 8) || (type == 11)) (type == 9) new old
change_counts kind type values.ResetDone = TellsIt (λ reset. refl)
change_counts kind type (values.PacketSize n) = Else (λ owed. refl) (λ owed. refl)
change_counts kind type (values.Values new old) = Else (λ owed. refl) (λ owed. refl)
change_counts kind type values.Other = Else (λ owed. refl) (λ owed. refl)

unclear_counts : (b : Bool) → Counts told.Unclear (if b then signs.Change (Begin 0) else signs.Nothing)
unclear_counts true = Else (λ owed. refl) (λ owed. refl)
unclear_counts false = Else (λ owed. refl) (λ owed. refl)

counts : (kind : ℕ) (x : Told) → Counts x (sign_by kind x)
unfolding unclear_sign
counts kind (told.Change change) = change_counts kind change.kind change.value
counts kind (told.Done d) = Else (λ owed. refl) (λ owed. refl)
counts kind (told.Message m) = Else (λ owed. refl) (λ owed. refl)
counts kind (told.ReturnStatus n) = Else (λ owed. refl) (λ owed. refl)
counts kind (told.SessionState s) = Else (λ owed. refl) (λ owed. refl)
counts kind told.Unclear = unclear_counts (kind == 0xE3)
counts kind told.Other = Else (λ owed. refl) (λ owed. refl)

sum_none : (a b : ℕ) → a ≡ 0 → b ≡ 0 → a + b ≡ 0
sum_none a b e f = omega (arith, e, f)

abbrev IsSome : ℕ → Type 0
IsSome n = n ≡ 0 → ⊥

counted : (owed : Bool) (items : List (Item Token)) (item : Item Token) (reset : Asks) → Counts item.token.told item.sign
    → ((o : Bool) (r : Asks) → IsSome (news_in o items) → left_all items r ≡ resets.None)
    → IsSome (news_in owed (item ∷ items)) → left_all items (left_by item.token.told reset) ≡ resets.None
counted owed items item reset (TellsIt tells) rest some = ap (left_all items) (tells reset) ∙ none_left items
counted owed items item reset (Else none same) rest some =
    rest owed (left_by item.token.told reset)
    (λ zero. some (sum_none (news_of owed item.sign) (news_in (owed_behind owed item.sign) items) (none owed) (ap (λ (o : Bool). news_in o items) (same owed) ∙ zero)))

-- what tells of one leaves none to be told
pub news_left : (owed : Bool) (items : List (Item Token)) (reset : Asks) → AreBehindLogin items → IsSome (news_in owed items) → left_all items reset ≡ resets.None
news_left owed [] reset plain some = absurd (some refl)
news_left owed (item ∷ items) reset plain some =
    counted owed items item reset (subst (Counts item.token.told) (sym plain.0.sign) (counts item.token.kind item.token.told))
    (λ o r more. news_left o items r plain.2 more) some

-- ---- What is left where news is left out

abbrev Quiets : Told → Sign → Type 0
Quiets x sign = IsNews sign → told_acknowledges x ≡ false

news_quiet : (kind : ℕ) (x : Told) → Quiets x (sign_by kind x)
news_quiet kind (told.Change change) news = refl
news_quiet kind (told.Done d) news = absurd news
news_quiet kind (told.Message m) news = refl
news_quiet kind (told.ReturnStatus n) news = refl
news_quiet kind (told.SessionState s) news = refl
news_quiet kind told.Unclear news = refl
news_quiet kind told.Other news = refl

nothing_left : (items left : List (Item Token)) → items ≡ [] → LeavesOut items left → left ≡ []
nothing_left items left e out = subst (λ (xs : List (Item Token)). LeavesOut xs left → left ≡ []) (sym e) (λ none. none) out

left_nothing : (b : Bool) (items left : List (Item Token)) → NothingIf b items → LeavesOut items left → NothingIf b left
left_nothing true items left none out = nothing_left items left none out
left_nothing false items left none out = tt

pub left_behind : (items left : List (Item Token)) → LeavesOut items left → AreBehindLogin items → AreBehindLogin left
left_behind [] left out plain = subst AreBehindLogin (sym out) tt
left_behind (item ∷ items) left (inl kept) plain =
    subst AreBehindLogin (sym kept.1) (plain.0, left_nothing (acknowledges item.token) items kept.0 plain.1 kept.2, left_behind items kept.0 kept.2 plain.2)
left_behind (item ∷ items) left (inr more) plain = left_behind items left more.1 plain.2

pub left_acknowledges : (items left : List (Item Token)) → LeavesOut items left → AreBehindLogin items → acknowledge left ≡ acknowledge items
left_acknowledges [] left out plain = ap acknowledge out
left_acknowledges (item ∷ items) left (inl kept) plain =
    ap acknowledge kept.1 ∙ ap (λ (b : Bool). acknowledges item.token || b) (left_acknowledges items kept.0 kept.2 plain.2)
left_acknowledges (item ∷ items) left (inr more) plain =
    left_acknowledges items left more.1 plain.2
    ∙ sym (ap (λ (b : Bool). b || acknowledge items) (subst (Quiets item.token.told) (sym plain.0.sign) (news_quiet item.token.kind item.token.told) more.0))
