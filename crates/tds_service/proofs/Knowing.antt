-- What is heard of the reset and of the transaction.
use Rattle.std.proofs.Common.{◌≡◌, ◌∙◌, ◌||◌, ℕ, Bool, true, false, List, [], ◌∷◌, refl, sym, ap}
use Rattle.std.specs.Prelude.{Option, Some, None, Result, Ok, Err, ◌==◌, if◌then◌else◌}
use Rattle.tds_packet.specs.declared.status.Reset.{Reset}
use Rattle.tds_packet.specs.declared.status.Reset.TheVariants.{Full, KeepTransaction}
use Rattle.tds_token.specs.declared.env_change.EnvChange.{EnvChange}
use Rattle.tds_token.specs.declared.env_change.EnvChange.TheVariants as changes
use Rattle.tds_client.specs.declared.fault.ClientFault.{ClientFault}
use Rattle.tds_client.specs.declared.fault.ClientFault.TheVariants as faults
use Rattle.tds_client.specs.declared.heard.Heard.{Heard}
use Rattle.tds_client.specs.declared.heard.FinalDone.TheVariants.{Acknowledged}
use Rattle.tds_client.specs.declared.sign.Rules.TheVariants.{Any}
use Rattle.tds_client.specs.declared.sign.Sign.{Sign}
use Rattle.tds_client.specs.declared.sign.Sign.TheVariants as signs
use Rattle.tds_client.specs.Hearing.{◌>>=◌, with_done, hear_sign, place_change, place_done, acknowledges_by, done_behind, reset_told, is_full, descriptor_changed, may_end}
use Rattle.tds_listen.specs.declared.fault.ListenFault.{ListenFault}
use Rattle.tds_listen.specs.declared.fault.ListenFault.TheVariants as listens
use Rattle.tds_listen.specs.Hearing.{heard_by}
use Rattle.tds_service.specs.Parts.{Item, Part, Close, Goes, Ends, Cut, Fails, is_end, hear_part, hear_items, close_part, close_by, unless_owed}
use Rattle.tds_service.specs.Promises.{Known, known_by_change, known_by_sign, known_by_items, reset_done}

-- What a client holds is what who reads along knows.
abbrev pub known_of : Heard → Known
known_of h = record { owed = h.mark; transaction = h.descriptor }

-- ---- One change

abbrev pub fine : Heard → Result Heard ClientFault
fine h = Ok h

abbrev pub wrong : ClientFault → Result Heard ClientFault
wrong fault = Err fault

pub ok_is : (a b : Heard) → fine a ≡ fine b → b ≡ a
ok_is a b e = cc

pub not_ok : {A : Type 0} (fault : ClientFault) (b : Heard) → wrong fault ≡ fine b → A
not_ok fault b e = cc

by_begin : (h next : Heard) (d : ℕ) (none some : Bool) → descriptor_changed h (changes.Begin d) (if none then None else if some then Some d else None) ≡ Ok next
    → known_of next ≡ known_by_change (known_of h) (changes.Begin d)
by_begin h next d true some e = not_ok _ next e
by_begin h next d false true e = ap known_of (ok_is _ next e)
by_begin h next d false false e = not_ok _ next e

by_commit : (h next : Heard) (d : ℕ) (b : Bool) → descriptor_changed h (changes.Commit d) (if b then Some 0 else None) ≡ Ok next
    → known_of next ≡ known_by_change (known_of h) (changes.Commit d)
by_commit h next d true e = ap known_of (ok_is _ next e)
by_commit h next d false e = not_ok _ next e

by_rollback : (h next : Heard) (d : ℕ) (b : Bool) → descriptor_changed h (changes.Rollback d) (if b then Some 0 else None) ≡ Ok next
    → known_of next ≡ known_by_change (known_of h) (changes.Rollback d)
by_rollback h next d true e = ap known_of (ok_is _ next e)
by_rollback h next d false e = not_ok _ next e

by_reset : (h next : Heard) (m : Option Reset) → h.mark ≡ m → descriptor_changed h changes.ResetDone (Some (reset_told m h.descriptor)) ≡ Ok next
    → known_of next ≡ record { owed = None; transaction = reset_done m h.descriptor }
by_reset h next None e x = ap known_of (ok_is _ next x)
by_reset h next (Some Full) e x = ap known_of (ok_is _ next x)
by_reset h next (Some KeepTransaction) e x = ap known_of (ok_is _ next x)

by_change : (h next : Heard) (change : EnvChange) → place_change h change ≡ Ok next → known_of next ≡ known_by_change (known_of h) change
unfolding place_change
by_change h next (changes.Begin d) e = by_begin h next d ((d == 0) || is_full h.mark) ((h.descriptor == 0) || (h.descriptor == d)) e
by_change h next (changes.Commit d) e = by_commit h next d ((h.descriptor == 0) || (h.descriptor == d)) e
by_change h next (changes.Rollback d) e = by_rollback h next d ((h.descriptor == 0) || (h.descriptor == d)) e
by_change h next changes.ResetDone e = by_reset h next h.mark refl e

by_done : (cancelling : Bool) (h next : Heard) (status : ℕ) (ack : Bool)
    → (if ack then (if cancelling then Ok (with_done h Acknowledged) else Err faults.UnaskedAcknowledgement) else Ok (with_done h (done_behind h.done status))) ≡ Ok next
    → known_of next ≡ known_of h
by_done true h next status true e = ap known_of (ok_is _ next e)
by_done false h next status true e = not_ok _ next e
by_done cancelling h next status false e = ap known_of (ok_is _ next e)

by_sign : (cancelling : Bool) (h next : Heard) (sign : Sign) → hear_sign Any cancelling h sign ≡ Ok next → known_of next ≡ known_by_sign (known_of h) sign
unfolding place_done
by_sign cancelling h next signs.Nothing e = ap known_of (ok_is _ next e)
by_sign cancelling h next (signs.Change change) e = by_change h next change e
by_sign cancelling h next (signs.Done kind status) e = by_done cancelling h next status (acknowledges_by kind status) e

-- ---- One thing behind another

pub record Between (x : Result Heard ClientFault) (f : Heard → Result Heard ClientFault) (next : Heard) : Type 0 where
  pub middle : Heard
  pub first : x ≡ Ok middle
  pub second : f middle ≡ Ok next

pub between : (x : Result Heard ClientFault) (f : Heard → Result Heard ClientFault) (next : Heard) → (x >>= f) ≡ Ok next → Between x f next
between (Ok h) f next e = record { middle = h; first = refl; second = e }
between (Err fault) f next e = not_ok fault next e

pub by_items : {T : Type 0} (cancelling : Bool) (h next : Heard) (items : List (Item T)) → hear_items cancelling h items ≡ Ok next
    → known_of next ≡ known_by_items (known_of h) items
by_items cancelling h next [] e = ap known_of (ok_is _ next e)
by_items cancelling h next (item ∷ items) e =
    let b = between (hear_sign Any cancelling h item.sign) (λ next. hear_items cancelling next items) next e in
    by_items cancelling b.middle next items b.second ∙ ap (λ (k : Known). known_by_items k items) (by_sign cancelling h b.middle item.sign b.first)

-- ---- The end of a part

abbrev pub heard_so : Heard → Result Heard ListenFault
heard_so h = Ok h

abbrev pub heard_wrong : ListenFault → Result Heard ListenFault
heard_wrong fault = Err fault

heard_is : (a b : Heard) → heard_so a ≡ heard_so b → b ≡ a
heard_is a b e = cc

not_heard : {A : Type 0} (fault : ListenFault) (b : Heard) → heard_wrong fault ≡ heard_so b → A
not_heard fault b e = cc

-- What is heard behind a part is what is heard behind its items; and where an answer has ended, nothing is owed.
pub record Closed (cancelling ends : Bool) (h next : Heard) : Type 0 where
  pub same : next ≡ h
  pub paid : ends ≡ true → cancelling ≡ false → next.mark ≡ None

abbrev ClosesAs : Bool → Bool → Heard → Result Heard ListenFault → Type 0
ClosesAs cancelling ends h r = (next : Heard) → r ≡ Ok next → Closed cancelling ends h next

goes_on : (cancelling ends : Bool) (h : Heard) → (ends ≡ true → cancelling ≡ false → h.mark ≡ None) → ClosesAs cancelling ends h (Ok h)
goes_on cancelling ends h paid next e =
    let same = heard_is h next e in record { same = same; paid = λ a b. ap (λ (x : Heard). x.mark) same ∙ paid a b }

stops : (cancelling ends : Bool) (h : Heard) (fault : ListenFault) → ClosesAs cancelling ends h (Err fault)
stops cancelling ends h fault next e = not_heard fault next e

not_both : {A : Type 0} → true ≡ false → A
not_both e = cc

by_mark : (ends : Bool) (h : Heard) (mark : Option Reset) → h.mark ≡ mark → ClosesAs false ends h (unless_owed mark h)
by_mark ends h None m = goes_on false ends h (λ a b. m)
by_mark ends h (Some reset) m = stops false ends h listens.ResetUnanswered

by_close : (cancelling may ends : Bool) (h : Heard) → ClosesAs cancelling ends h (close_by cancelling may h)
by_close cancelling false ends h = stops cancelling ends h (listens.Client faults.NoFinalDone)
by_close true true ends h = goes_on true ends h (λ a b. not_both b)
by_close false true ends h = by_mark ends h h.mark refl

by_end : (cancelling : Bool) (close : Close) (h : Heard) → ClosesAs cancelling (is_end close) h (close_part cancelling close h)
by_end cancelling Goes h = goes_on cancelling false h (λ a b. not_both (sym a))
by_end cancelling Ends h = by_close cancelling (may_end Any cancelling h.done) true h
by_end false Cut h = stops false true h listens.Cut
by_end true Cut h = by_close true (may_end Any true h.done) true h
by_end cancelling (Fails refusal) h = stops cancelling false h (listens.Wire refusal)

pub record Split (x : Result Heard ClientFault) (f : Heard → Result Heard ListenFault) (next : Heard) : Type 0 where
  pub middle : Heard
  pub first : x ≡ Ok middle
  pub second : f middle ≡ Ok next

split : (x : Result Heard ClientFault) (f : Heard → Result Heard ListenFault) (next : Heard) → heard_by x f ≡ Ok next → Split x f next
split (Ok h) f next e = record { middle = h; first = refl; second = e }
split (Err fault) f next e = not_heard (listens.Client fault) next e

-- ---- All of a part

pub record HeardPart {T : Type 0} (cancelling : Bool) (h next : Heard) (part : Part T) : Type 0 where
  pub items : hear_items cancelling h part.items ≡ Ok next
  pub paid : is_end part.close ≡ true → cancelling ≡ false → next.mark ≡ None

pub part_heard : {T : Type 0} (cancelling : Bool) (h next : Heard) (part : Part T) → hear_part cancelling h part ≡ Ok next → HeardPart cancelling h next part
part_heard cancelling h next part e =
    let b = split (hear_items cancelling h part.items) (λ next. close_part cancelling part.close next) next e in
    let c = by_end cancelling part.close b.middle next b.second in
    record { items = b.first ∙ ap fine (sym c.same); paid = c.paid }

pub by_part : {T : Type 0} (cancelling : Bool) (h next : Heard) (part : Part T) → hear_part cancelling h part ≡ Ok next
    → known_of next ≡ known_by_items (known_of h) part.items
by_part cancelling h next part e = by_items cancelling h next part.items (part_heard cancelling h next part e).items
