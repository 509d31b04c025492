-- What a client hears of a token without a fault, and where a conversation is behind it.
use Rattle.std.proofs.Common.{◌≡◌, ◌∙◌, ◌*◌, ◌/◌, ◌%◌, ◌<◌, ◌==◌, ◌&&◌, ◌||◌, not, ℕ, zero, suc, Bool, true, false, refl, sym, ap, subst, arith}
use Rattle.std.specs.Prelude.{Option, Some, None, Result, Ok, Err, IfOk, if◌then◌else◌}
use Rattle.std.proofs.lemmas.Nat.Bits.{and_high}
use Rattle.std.proofs.lemmas.Nat.{and_mask}
use Rattle.tds_packet.specs.declared.status.Reset.{Reset}
use Rattle.tds_packet.specs.declared.status.Reset.TheVariants.{Full, KeepTransaction}
use Rattle.tds_packet.specs.Layout.{has_bit}
use Rattle.tds_token.specs.declared.env_change.EnvChange.TheVariants.{Begin, Commit, Rollback, ResetDone}
use Rattle.tds_token.specs.DoneStatus.{attention, more}
use Rattle.tds_client.specs.declared.fault.ClientFault.{ClientFault}
use Rattle.tds_client.specs.declared.fault.ClientFault.TheVariants as faults
use Rattle.tds_client.specs.declared.heard.Heard.{Heard}
use Rattle.tds_client.specs.declared.heard.FinalDone.{FinalDone}
use Rattle.tds_client.specs.declared.heard.FinalDone.TheVariants.{Awaited, Answered, Acknowledged}
use Rattle.tds_client.specs.declared.sign.DoneKind.TheVariants.{Statement, Procedure, InProcedure}
use Rattle.tds_client.specs.declared.sign.Sign.TheVariants as signs
use Rattle.tds_client.specs.Hearing.{acknowledges_by, any_sign, descriptor_changed, done_behind, is_full as is_full_mark, reset_told, place_change, place_done, with_done}
use Rattle.tds_listen.specs.Signs.{change_sign, done_kind, sign_by, transaction_change, unclear_sign}
use Rattle.tds_wire.specs.declared.told.ChangeValue.{ChangeValue}
use Rattle.tds_wire.specs.declared.told.ChangeValue.TheVariants as changes
use Rattle.tds_wire.specs.declared.told.Done.{Done}
use Rattle.tds_wire.specs.declared.told.Told.{Told}
use Rattle.tds_wire.specs.declared.told.Told.TheVariants as told
use Rattle.tds_wire.specs.declared.told.Token.{Token}
use Rattle.tds_judge.specs.declared.talk.Reset.{Reset as Asks}
use Rattle.tds_judge.specs.declared.talk.Reset.TheVariants as resets
use Rattle.tds_judge.specs.declared.talk.Transaction.{Transaction}
use Rattle.tds_judge.specs.declared.talk.Transaction.TheVariants as transactions
use Rattle.tds_judge.specs.Breaches.{final_by_token, size_by_token}
use Rattle.tds_judge.specs.Conversation.{left_by}
use Rattle.tds_judge.specs.History.{cleared_by_token, last_by_token}
use Rattle.tds_judge.specs.Talking.{begun_as, changes_wrongly, descriptor_of, ends_old, keeps, owed as still_owed, told_acknowledges}
use Rattle.laws_never_blamed.specs.Tokens.{TellsNoSize}

-- ---- In the judge's words

abbrev pub as_reset : Option Reset → Asks
as_reset None = resets.None
as_reset (Some Full) = resets.Full
as_reset (Some KeepTransaction) = resets.Keep

abbrev pub is_final : FinalDone → Bool
is_final Awaited = false
is_final Answered = true
is_final Acknowledged = false

abbrev pub is_acknowledged : FinalDone → Bool
is_acknowledged Awaited = false
is_acknowledged Answered = false
is_acknowledged Acknowledged = true

abbrev pub NotAcknowledged : FinalDone → Type 0
NotAcknowledged Awaited = Unit {0}
NotAcknowledged Answered = Unit {0}
NotAcknowledged Acknowledged = ⊥

-- the descriptor that is known is the one that was told last, where one was
abbrev pub IsLast : Transaction → ℕ → Type 0
IsLast transactions.Unknown descriptor = Unit {0}
IsLast (transactions.Told last) descriptor = last ≡ descriptor

abbrev token_as : ℕ → Told → Token
token_as kind x = record { kind = kind; start = 0; length = 0; told = x }

-- what a token leaves
pub record Follows (cancelling : Bool) (h : Heard) (kind : ℕ) (x : Told) (owed : Asks) (before : Transaction) (next : Heard) : Type 0 where
  pub left : left_by x (as_reset h.mark) ≡ as_reset next.mark
  pub last : IsLast (last_by_token kind x owed before) next.descriptor
  pub change : changes_wrongly before (token_as kind x) ≡ false
  pub acknowledged : is_acknowledged h.done || told_acknowledges x ≡ is_acknowledged next.done
  pub reads : cancelling ≡ false → NotAcknowledged h.done
      → (told_acknowledges x ≡ false) × (final_by_token x (is_final h.done) ≡ is_final next.done) × NotAcknowledged next.done

abbrev IsSet : Bool → Type 0
IsSet true = Unit {0}
IsSet false = ⊥

true_not : true ≡ false → ⊥
true_not is = subst IsSet is tt

-- ---- Bits

or_false : (b : Bool) → b || false ≡ b
or_false true = refl
or_false false = refl

pub or_true : (b : Bool) → b || true ≡ true
or_true true = refl
or_true false = refl

one_bit : (b : ℕ) → b < 2 → (b * 32 == 32) ≡ (b == 1)
one_bit zero small = refl
one_bit (suc zero) small = refl
one_bit (suc (suc b)) small = absurd (omega arith)

below_two : (n : ℕ) → n % 2 < 2
below_two n = omega arith

bit_32 : (status : ℕ) → has_bit status attention ≡ (status / 32 % 2 == 1)
bit_32 status = ap (λ (n : ℕ). n == 32) (and_high status 1 5) ∙ one_bit (status / 32 % 2) (below_two (status / 32))

bit_1 : (status : ℕ) → has_bit status more ≡ (status % 2 == 1)
bit_1 status = ap (λ (n : ℕ). n == 1) (and_mask status 1)

-- ---- A DONE

kind_by : (p q a b : Bool) (status : ℕ) → has_bit status attention ≡ b → (b ≡ true → (p ≡ false) × (q ≡ false))
    → acknowledges_by (if p then Procedure else if q then InProcedure else Statement) status ≡ b
kind_by p q a true status same plain =
    ap (λ (x : Bool). acknowledges_by (if x then Procedure else if q then InProcedure else Statement) status) (plain refl).0
    ∙ (ap (λ (x : Bool). acknowledges_by (if x then InProcedure else Statement) status) (plain refl).1 ∙ same)
kind_by true q a false status same plain = refl
kind_by false true a false status same plain = refl
kind_by false false a false status same plain = same

plain_kind : (kind : ℕ) → kind ≡ 0xFD → ((kind == 0xFE) ≡ false) × ((kind == 0xFF) ≡ false)
plain_kind kind is = (ap (λ (n : ℕ). n == 0xFE) is, ap (λ (n : ℕ). n == 0xFF) is)

same_done : (kind status : ℕ) → ((status / 32 % 2 == 1) ≡ true → kind ≡ 0xFD) → acknowledges_by (done_kind kind) status ≡ (status / 32 % 2 == 1)
unfolding done_kind
same_done kind status plain =
    kind_by (kind == 0xFE) (kind == 0xFF) true (status / 32 % 2 == 1) status (bit_32 status) (λ is. plain_kind kind (plain is))

abbrev done_heard : Bool → Bool → Heard → ℕ → Result Heard ClientFault
done_heard true true h status = Ok (with_done h Acknowledged)
done_heard true false h status = Err faults.UnaskedAcknowledgement
done_heard false cancelling h status = Ok (with_done h (done_behind h.done status))

done_by : (a cancelling : Bool) (h : Heard) (status : ℕ)
    → done_heard a cancelling h status
    ≡ (if a then (if cancelling then Ok (with_done h Acknowledged) else Err faults.UnaskedAcknowledgement) else Ok (with_done h (done_behind h.done status)))
done_by true true h status = refl
done_by true false h status = refl
done_by false cancelling h status = refl

behind_is : (done : FinalDone) (m : Bool) (status : ℕ) → has_bit status more ≡ m → NotAcknowledged done
    → (not m ≡ is_final (done_behind done status)) × NotAcknowledged (done_behind done status)
behind_is Awaited true status is none =
    (sym (ap (λ (b : Bool). is_final (if b then Awaited else Answered)) is), subst NotAcknowledged (sym (ap (λ (b : Bool). if b then Awaited else Answered) is)) tt)
behind_is Awaited false status is none =
    (sym (ap (λ (b : Bool). is_final (if b then Awaited else Answered)) is), subst NotAcknowledged (sym (ap (λ (b : Bool). if b then Awaited else Answered) is)) tt)
behind_is Answered true status is none =
    (sym (ap (λ (b : Bool). is_final (if b then Awaited else Answered)) is), subst NotAcknowledged (sym (ap (λ (b : Bool). if b then Awaited else Answered) is)) tt)
behind_is Answered false status is none =
    (sym (ap (λ (b : Bool). is_final (if b then Awaited else Answered)) is), subst NotAcknowledged (sym (ap (λ (b : Bool). if b then Awaited else Answered) is)) tt)
behind_is Acknowledged m status is none = absurd none

stays_by : (b : Bool) → false ≡ is_acknowledged (if b then Awaited else Answered)
stays_by true = refl
stays_by false = refl

stays : (done : FinalDone) (status : ℕ) → is_acknowledged done ≡ is_acknowledged (done_behind done status)
stays Awaited status = stays_by (has_bit status more)
stays Answered status = stays_by (has_bit status more)
stays Acknowledged status = refl

done_follows : (a cancelling : Bool) (h : Heard) (kind : ℕ) (d : Done) (owed : Asks) (last : Transaction)
    → IsLast last h.descriptor → (d.status / 32 % 2 == 1) ≡ a
    → IfOk (done_heard a cancelling h d.status) (λ next. Follows cancelling h kind (told.Done d) owed last next)
done_follows true true h kind d owed last is a = record {
  left = refl;
  last = is;
  change = refl;
  acknowledged = ap (λ (b : Bool). is_acknowledged h.done || b) a ∙ or_true (is_acknowledged h.done);
  reads = λ no none. absurd (true_not no);
}
done_follows true false h kind d owed last is a = tt
done_follows false cancelling h kind d owed last is a =
    let behind = λ (none : NotAcknowledged h.done). behind_is h.done (d.status % 2 == 1) d.status (bit_1 d.status) none in
    record {
      left = refl;
      last = is;
      change = refl;
      acknowledged = ap (λ (b : Bool). is_acknowledged h.done || b) a ∙ (or_false (is_acknowledged h.done) ∙ stays h.done d.status);
      reads = λ no none. (a, (behind none).0, (behind none).1);
    }

-- ---- A change

unchanged : (cancelling : Bool) (h : Heard) (kind : ℕ) (x : Told) (owed : Asks) (last : Transaction)
    → left_by x (as_reset h.mark) ≡ as_reset h.mark → IsLast (last_by_token kind x owed last) h.descriptor
    → told_acknowledges x ≡ false → final_by_token x (is_final h.done) ≡ is_final h.done → changes_wrongly last (token_as kind x) ≡ false
    → Follows cancelling h kind x owed last h
unchanged cancelling h kind x owed last left is a final change = record {
  left = left;
  last = is;
  change = change;
  acknowledged = ap (λ (b : Bool). is_acknowledged h.done || b) a ∙ or_false (is_acknowledged h.done);
  reads = λ no none. (a, final, none);
}

abbrev Moves : Heard → ℕ → Heard → Type 0
Moves h descriptor next = next ≡ record h { descriptor = descriptor }

-- what a change that is no fault says: a begin isn't of descriptor 0, and both stand where none is known, or the same
abbrev Fits : Bool → Heard → ℕ → ℕ → Type 0
Fits true h new old = ((new == 0) ≡ false) × ((h.descriptor == 0) || (h.descriptor == new) ≡ true)
Fits false h new old = (h.descriptor == 0) || (h.descriptor == old) ≡ true

begun_so : (h : Heard) (new : ℕ) (z full b : Bool)
    → IfOk (descriptor_changed h (Begin new) (if z || full then None else if b then Some new else None)) (λ next. Moves h new next × ((z ≡ false) × (b ≡ true)))
begun_so h new true full b = tt
begun_so h new false true b = tt
begun_so h new false false true = (refl, (refl, refl))
begun_so h new false false false = tt

commit_so : (h : Heard) (old : ℕ) (b : Bool) → IfOk (descriptor_changed h (Commit old) (if b then Some 0 else None)) (λ next. Moves h 0 next × (b ≡ true))
commit_so h old true = (refl, refl)
commit_so h old false = tt

rollback_so : (h : Heard) (old : ℕ) (b : Bool) → IfOk (descriptor_changed h (Rollback old) (if b then Some 0 else None)) (λ next. Moves h 0 next × (b ≡ true))
rollback_so h old true = (refl, refl)
rollback_so h old false = tt

placed_so : (h : Heard) (new old : ℕ) (p q : Bool)
    → IfOk (place_change h (if p then Begin new else if q then Commit old else Rollback old)) (λ next. Moves h (if p then new else 0) next × Fits p h new old)
unfolding place_change
placed_so h new old true q = begun_so h new (new == 0) (is_full_mark h.mark) ((h.descriptor == 0) || (h.descriptor == new))
placed_so h new old false true = commit_so h old ((h.descriptor == 0) || (h.descriptor == old))
placed_so h new old false false = rollback_so h old ((h.descriptor == 0) || (h.descriptor == old))

either_way : (p q : Bool) → p || q ≡ true → not p && not q ≡ false
either_way true q so = refl
either_way false true so = refl
either_way false false so = sym so

and_none : (b : Bool) → b && false ≡ false
and_none true = refl
and_none false = refl

-- so it changes nothing wrongly
begins_well : (a : Bool) (last : Transaction) (descriptor new : ℕ) → IsLast last descriptor → (new == 0) ≡ false → (descriptor == 0) || (descriptor == new) ≡ true
    → a && ((new == 0) || (not (descriptor_of last == 0) && not (descriptor_of last == new))) ≡ false
begins_well a transactions.Unknown descriptor new is some fits = ap (λ (b : Bool). a && (b || false)) some ∙ and_none a
begins_well a (transactions.Told last) descriptor new is some fits =
    ap (λ (b : Bool). a && (b || (not (last == 0) && not (last == new)))) some
    ∙ (ap (λ (d : ℕ). a && (not (d == 0) && not (d == new))) is
    ∙ (ap (λ (b : Bool). a && b) (either_way (descriptor == 0) (descriptor == new) fits) ∙ and_none a))

ends_well : (a : Bool) (last : Transaction) (descriptor old : ℕ) → IsLast last descriptor → (descriptor == 0) || (descriptor == old) ≡ true
    → a && (not (descriptor_of last == 0) && not (descriptor_of last == old)) ≡ false
ends_well a transactions.Unknown descriptor old is fits = and_none a
ends_well a (transactions.Told last) descriptor old is fits =
    ap (λ (d : ℕ). a && (not (d == 0) && not (d == old))) is
    ∙ (ap (λ (b : Bool). a && b) (either_way (descriptor == 0) (descriptor == old) fits) ∙ and_none a)

moves_well : (p a e : Bool) (last : Transaction) (h : Heard) (new old : ℕ) → IsLast last h.descriptor → Fits p h new old
    → (if p then a && ((new == 0) || (not (descriptor_of last == 0) && not (descriptor_of last == new)))
    else e && (not (descriptor_of last == 0) && not (descriptor_of last == old))) ≡ false
moves_well true a e last h new old is fits = begins_well a last h.descriptor new is fits.0 fits.1
moves_well false a e last h new old is fits = ends_well e last h.descriptor old is fits

begun_last : (b : Bool) (new : ℕ) → IsLast (if b then transactions.Unknown else transactions.Told new) new
begun_last true new = tt
begun_last false new = refl

last_moved : (p : Bool) (type new : ℕ) → IsLast (if p then begun_as type new else transactions.Told 0) (if p then new else 0)
last_moved true type new = begun_last (type == 11) new
last_moved false type new = refl

pub if_ok : {A E : Type 0} {P Q : A → Type 0} (r : Result A E) → ((x : A) → P x → Q x) → IfOk r P → IfOk r Q
if_ok (Ok x) so is = so x is
if_ok (Err e) so is = tt

moves_follow : (cancelling : Bool) (h : Heard) (kind : ℕ) (type new old : ℕ) (owed : Asks) (last : Transaction) (next : Heard)
    → IsLast last h.descriptor
    → Moves h (if (type == 8) || (type == 11) then new else 0) next × Fits ((type == 8) || (type == 11)) h new old
    → Follows cancelling h kind (told.Change (record { kind = type; value = changes.Transaction new old })) owed last next
moves_follow cancelling h kind type new old owed last next known both =
    subst (λ (x : Heard). Follows cancelling h kind (told.Change (record { kind = type; value = changes.Transaction new old })) owed last x) (sym both.0)
    (record {
      left = refl;
      last = last_moved ((type == 8) || (type == 11)) type new;
      change = moves_well ((type == 8) || (type == 11)) (type == 8) (ends_old type) last h new old known both.1;
      acknowledged = or_false (is_acknowledged h.done);
      reads = λ no none. (refl, refl, none);
    })

reset_follows : (cancelling : Bool) (mark : Option Reset) (descriptor : ℕ) (done : FinalDone) (kind type : ℕ) (owed : Asks) (last : Transaction)
    → owed ≡ as_reset mark → IsLast last descriptor
    → IfOk (descriptor_changed (record { descriptor = descriptor; mark = mark; done = done }) ResetDone (Some (reset_told mark descriptor)))
    (λ next. Follows cancelling (record { descriptor = descriptor; mark = mark; done = done }) kind (told.Change (record { kind = type; value = changes.ResetDone })) owed last next)
reset_follows cancelling None descriptor done kind type owed last owes is = record {
  left = refl;
  last = subst (λ (r : Asks). IsLast (if keeps r then last else transactions.Told 0) 0) (sym owes) refl;
  change = refl;
  acknowledged = or_false (is_acknowledged done);
  reads = λ no none. (refl, refl, none);
}
reset_follows cancelling (Some Full) descriptor done kind type owed last owes is = record {
  left = refl;
  last = subst (λ (r : Asks). IsLast (if keeps r then last else transactions.Told 0) 0) (sym owes) refl;
  change = refl;
  acknowledged = or_false (is_acknowledged done);
  reads = λ no none. (refl, refl, none);
}
reset_follows cancelling (Some KeepTransaction) descriptor done kind type owed last owes is = record {
  left = refl;
  last = subst (λ (r : Asks). IsLast (if keeps r then last else transactions.Told 0) descriptor) (sym owes) is;
  change = refl;
  acknowledged = or_false (is_acknowledged done);
  reads = λ no none. (refl, refl, none);
}

change_follows : (cancelling : Bool) (h : Heard) (kind type : ℕ) (value : ChangeValue) (owed : Asks) (last : Transaction)
    → TellsNoSize (told.Change (record { kind = type; value = value })) → owed ≡ as_reset h.mark → IsLast last h.descriptor
    → IfOk (any_sign cancelling h (change_sign type value)) (λ next. Follows cancelling h kind (told.Change (record { kind = type; value = value })) owed last next)
unfolding transaction_change place_change
change_follows cancelling h kind type (changes.Transaction new old) owed last size owes is =
    if_ok (place_change h (transaction_change type new old)) (λ next so. moves_follow cancelling h kind type new old owed last next is so)
    (placed_so h new old ((type == 8) || (type == 11)) (type == 9))
change_follows cancelling h kind type changes.ResetDone owed last size owes is =
    reset_follows cancelling h.mark h.descriptor h.done kind type owed last owes is
change_follows cancelling h kind type (changes.PacketSize n) owed last size owes is = absurd (size tt)
change_follows cancelling h kind type (changes.Values new old) owed last size owes is =
    unchanged cancelling h kind (told.Change (record { kind = type; value = changes.Values new old })) owed last refl is refl refl refl
change_follows cancelling h kind type changes.Other owed last size owes is =
    unchanged cancelling h kind (told.Change (record { kind = type; value = changes.Other })) owed last refl is refl refl refl

-- an ENVCHANGE that can't be read is a fault
unclear_follows : (b cancelling : Bool) (h : Heard) (kind : ℕ) (owed : Asks) (last : Transaction) → (kind == 0xE3) ≡ b
    → IsLast last h.descriptor
    → IfOk (any_sign cancelling h (if b then signs.Change (Begin 0) else signs.Nothing)) (λ next. Follows cancelling h kind told.Unclear owed last next)
unfolding place_change
unclear_follows true cancelling h kind owed last is at = tt
unclear_follows false cancelling h kind owed last is at =
    unchanged cancelling h kind told.Unclear owed last refl
    (subst (λ (b : Bool). IsLast (if b then transactions.Unknown else last) h.descriptor) (sym is) at) refl refl refl

-- ---- Any token

pub follows : (cancelling : Bool) (h : Heard) (kind : ℕ) (x : Told) (owed : Asks) (last : Transaction)
    → TellsNoSize x → (told_acknowledges x ≡ true → kind ≡ 0xFD) → owed ≡ as_reset h.mark → IsLast last h.descriptor
    → IfOk (any_sign cancelling h (sign_by kind x)) (λ next. Follows cancelling h kind x owed last next)
unfolding unclear_sign place_done
follows cancelling h kind (told.Done d) owed last size plain owes is =
    subst (λ (r : Result Heard ClientFault). IfOk r (λ next. Follows cancelling h kind (told.Done d) owed last next))
    (done_by (d.status / 32 % 2 == 1) cancelling h d.status
    ∙ ap (λ (b : Bool). if b then (if cancelling then Ok (with_done h Acknowledged) else Err faults.UnaskedAcknowledgement) else Ok (with_done h (done_behind h.done d.status)))
    (sym (same_done kind d.status plain)))
    (done_follows (d.status / 32 % 2 == 1) cancelling h kind d owed last is refl)
follows cancelling h kind (told.Change change) owed last size plain owes is = change_follows cancelling h kind change.kind change.value owed last size owes is
follows cancelling h kind (told.Message m) owed last size plain owes is = unchanged cancelling h kind (told.Message m) owed last refl is refl refl refl
follows cancelling h kind (told.ReturnStatus n) owed last size plain owes is = unchanged cancelling h kind (told.ReturnStatus n) owed last refl is refl refl refl
follows cancelling h kind (told.SessionState s) owed last size plain owes is = unchanged cancelling h kind (told.SessionState s) owed last refl is refl refl refl
follows cancelling h kind told.Unclear owed last size plain owes is = unclear_follows (kind == 0xE3) cancelling h kind owed last refl is
follows cancelling h kind told.Other owed last size plain owes is = unchanged cancelling h kind told.Other owed last refl is refl refl refl

no_size_change : (value : ChangeValue) (type : ℕ) → TellsNoSize (told.Change (record { kind = type; value = value })) → size_by_token (told.Change (record { kind = type; value = value })) 0 ≡ 0
no_size_change (changes.PacketSize n) type size = absurd (size tt)
no_size_change (changes.Transaction new old) type size = refl
no_size_change changes.ResetDone type size = refl
no_size_change (changes.Values new old) type size = refl
no_size_change changes.Other type size = refl

pub no_size : (x : Told) → TellsNoSize x → size_by_token x 0 ≡ 0
no_size (told.Change change) size = no_size_change change.value change.kind size
no_size (told.Done d) size = refl
no_size (told.Message m) size = refl
no_size (told.ReturnStatus n) size = refl
no_size (told.SessionState s) size = refl
no_size told.Unclear size = refl
no_size told.Other size = refl

-- ---- What is owed behind a token

change_owed : (value : ChangeValue) (type : ℕ) (cleared : Bool) (asks : Asks)
    → still_owed (cleared_by_token (told.Change (record { kind = type; value = value })) cleared) asks
    ≡ left_by (told.Change (record { kind = type; value = value })) (still_owed cleared asks)
change_owed (changes.PacketSize n) type cleared asks = refl
change_owed (changes.Transaction new old) type cleared asks = refl
change_owed changes.ResetDone type cleared asks = refl
change_owed (changes.Values new old) type cleared asks = refl
change_owed changes.Other type cleared asks = refl

pub owed_behind : (x : Told) (cleared : Bool) (asks : Asks) → still_owed (cleared_by_token x cleared) asks ≡ left_by x (still_owed cleared asks)
owed_behind (told.Done d) cleared asks = refl
owed_behind (told.Change change) cleared asks = change_owed change.value change.kind cleared asks
owed_behind (told.Message m) cleared asks = refl
owed_behind (told.ReturnStatus n) cleared asks = refl
owed_behind (told.SessionState s) cleared asks = refl
owed_behind told.Unclear cleared asks = refl
owed_behind told.Other cleared asks = refl
