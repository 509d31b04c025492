-- What a client hears of a lawful server's tokens.
use Rattle.std.proofs.Common.{◌≡◌, ◌∙◌, ◌||◌, ℕ, Bool, true, false, refl, sym, ap}
use Rattle.std.specs.Prelude.{Option, Some, None, Result, Ok, Err, not, if◌then◌else◌}
use Rattle.tds_packet.specs.declared.status.Reset.{Reset}
use Rattle.tds_packet.specs.declared.status.Reset.TheVariants.{Full, KeepTransaction}
use Rattle.tds_packet.specs.Layout.{has_bit}
use Rattle.tds_token.specs.declared.env_change.EnvChange.{EnvChange}
use Rattle.tds_token.specs.declared.env_change.EnvChange.TheVariants as changes
use Rattle.tds_token.specs.DoneStatus.{more}
use Rattle.tds_client.specs.declared.fault.ClientFault.{ClientFault}
use Rattle.tds_client.specs.declared.fault.ClientFault.TheVariants as faults
use Rattle.tds_client.specs.declared.heard.Heard.{Heard}
use Rattle.tds_client.specs.declared.heard.FinalDone.{FinalDone}
use Rattle.tds_client.specs.declared.heard.FinalDone.TheVariants.{Awaited, Answered, Acknowledged}
use Rattle.tds_client.specs.declared.sign.DoneKind.{DoneKind}
use Rattle.tds_client.specs.declared.sign.DoneKind.TheVariants.{Statement, Procedure, InProcedure}
use Rattle.tds_client.specs.declared.sign.Sign.{Sign}
use Rattle.tds_client.specs.declared.sign.Sign.TheVariants as signs
use Rattle.tds_client.specs.Acts.{is_acknowledgement}
use Rattle.tds_client.specs.Hearing.{any_sign, acknowledges_by, change_placed, descriptor_changed, done_behind, mark_after, place_change, place_done, with_done}
use Rattle.laws_conforming_server.specs.Lawful.{Session, Leads, LeadsOut, final_by, reset_left}

abbrev pub heard : {V : Type 0} → Session V → Option Reset → FinalDone → Heard
heard s mark done = record { descriptor = s.transaction; mark = mark; done = done }

-- ---- The transaction behind a token

abbrev pub placed : Option Reset → ℕ → Sign → Option ℕ
placed mark d signs.Nothing = Some d
placed mark d (signs.Change change) = change_placed mark d change
placed mark d (signs.Done kind status) = Some d

pub leads_placed : {V : Type 0} (settings : V) (reset : Option Reset) (s : Session V) (sign : Sign) (after : Session V)
    → Leads settings reset s sign after → placed reset s.transaction sign ≡ Some after.transaction
leads_placed settings None s signs.Nothing after p = ap Some (sym p)
leads_placed settings None s (signs.Change change) after p = p
leads_placed settings None s (signs.Done kind status) after p = ap Some (sym p)
leads_placed {V} settings (Some reset) s signs.Nothing after p = ap (λ (a : Session V). Some a.transaction) (sym p)
leads_placed {V} settings (Some Full) s (signs.Change changes.ResetDone) after p = ap (λ (a : Session V). Some a.transaction) (sym p)
leads_placed {V} settings (Some KeepTransaction) s (signs.Change changes.ResetDone) after p = ap (λ (a : Session V). Some a.transaction) (sym p)
leads_placed settings (Some reset) s (signs.Change (changes.Rollback d)) after p = p.0
leads_placed settings (Some reset) s (signs.Change (changes.Begin d)) after p = absurd p
leads_placed settings (Some reset) s (signs.Change (changes.Commit d)) after p = absurd p
leads_placed {V} settings (Some reset) s (signs.Done kind status) after p = ap (λ (a : Session V). Some a.transaction) (sym p)

pub leads_out_placed : {V : Type 0} (mark : Option Reset) (s : Session V) (sign : Sign) (after : Session V)
    → LeadsOut s sign after → placed mark s.transaction sign ≡ Some after.transaction
leads_out_placed mark s signs.Nothing after p = ap Some (sym p)
leads_out_placed mark s (signs.Change (changes.Rollback d)) after p = p
leads_out_placed mark s (signs.Change (changes.Begin d)) after p = absurd p
leads_out_placed mark s (signs.Change (changes.Commit d)) after p = absurd p
leads_out_placed mark s (signs.Change changes.ResetDone) after p = absurd p
leads_out_placed mark s (signs.Done kind status) after p = ap Some (sym p)

-- ---- Hearing it

abbrev pub done_sign : FinalDone → Sign → FinalDone
done_sign done signs.Nothing = done
done_sign done (signs.Change change) = done
done_sign done (signs.Done kind status) = if is_acknowledgement (signs.Done kind status) then Acknowledged else done_behind done status

same_bit : (kind : DoneKind) (status : ℕ) → acknowledges_by kind status ≡ is_acknowledgement (signs.Done kind status)
same_bit Statement status = refl
same_bit Procedure status = refl
same_bit InProcedure status = refl

abbrev pub okay : Heard → Result Heard ClientFault
okay h = Ok h

push : (a : Bool) (h : Heard) (x y : FinalDone)
    → (if a then okay (with_done h x) else okay (with_done h y)) ≡ okay (with_done h (if a then x else y))
push true h x y = refl
push false h x y = refl

done_cancelling : (h : Heard) (kind : DoneKind) (status : ℕ)
    → place_done true h kind status ≡ Ok (with_done h (done_sign h.done (signs.Done kind status)))
unfolding place_done
done_cancelling h kind status =
    ap (λ (b : Bool). if b then okay (with_done h Acknowledged) else okay (with_done h (done_behind h.done status))) (same_bit kind status)
    ∙ push (is_acknowledgement (signs.Done kind status)) h Acknowledged (done_behind h.done status)

done_reading : (h : Heard) (kind : DoneKind) (status : ℕ) → is_acknowledgement (signs.Done kind status) ≡ false
    → place_done false h kind status ≡ Ok (with_done h (done_behind h.done status))
unfolding place_done
done_reading h kind status p =
    ap (λ (b : Bool). if b then Err faults.UnaskedAcknowledgement else okay (with_done h (done_behind h.done status))) (same_bit kind status ∙ p)

change_heard : {V : Type 0} (s after : Session V) (mark : Option Reset) (done : FinalDone) (change : EnvChange)
    → change_placed mark s.transaction change ≡ Some after.transaction
    → place_change (heard s mark done) change ≡ Ok (heard after (mark_after change mark) done)
unfolding place_change
change_heard s after mark done change p = ap (λ (d : Option ℕ). descriptor_changed (heard s mark done) change d) p

same_transaction : {V : Type 0} (s after : Session V) → Some s.transaction ≡ Some after.transaction → s.transaction ≡ after.transaction
same_transaction s after p = cc

moved : {V : Type 0} (s after : Session V) (mark : Option Reset) (done : FinalDone) → Some s.transaction ≡ Some after.transaction
    → okay (heard s mark done) ≡ okay (heard after mark done)
moved s after mark done p = ap (λ (d : ℕ). okay (record { descriptor = d; mark = mark; done = done })) (same_transaction s after p)

-- What is placed is heard, where an attention is out.
pub cancelling_heard : {V : Type 0} (s after : Session V) (mark : Option Reset) (done : FinalDone) (sign : Sign)
    → placed mark s.transaction sign ≡ Some after.transaction
    → any_sign true (heard s mark done) sign ≡ Ok (heard after (reset_left mark sign) (done_sign done sign))
cancelling_heard s after mark done signs.Nothing p = moved s after mark done p
cancelling_heard s after mark done (signs.Change change) p = change_heard s after mark done change p
cancelling_heard s after mark done (signs.Done kind status) p =
    done_cancelling (heard s mark done) kind status ∙ moved s after mark (done_sign done (signs.Done kind status)) p

abbrev pub done_of : Bool → FinalDone
done_of true = Answered
done_of false = Awaited

done_follows : (final m : Bool) (status : ℕ) → has_bit status more ≡ m → done_behind (done_of final) status ≡ done_of (not m)
done_follows true true status e = ap (λ (b : Bool). if b then Awaited else Answered) e
done_follows true false status e = ap (λ (b : Bool). if b then Awaited else Answered) e
done_follows false true status e = ap (λ (b : Bool). if b then Awaited else Answered) e
done_follows false false status e = ap (λ (b : Bool). if b then Awaited else Answered) e

-- It is heard too where none is out, if it doesn't acknowledge one.
pub reading_heard : {V : Type 0} (s after : Session V) (mark : Option Reset) (final : Bool) (sign : Sign)
    → placed mark s.transaction sign ≡ Some after.transaction → is_acknowledgement sign ≡ false
    → any_sign false (heard s mark (done_of final)) sign ≡ Ok (heard after (reset_left mark sign) (done_of (final_by final sign)))
reading_heard s after mark final signs.Nothing p q = moved s after mark (done_of final) p
reading_heard s after mark final (signs.Change change) p q = change_heard s after mark (done_of final) change p
reading_heard s after mark final (signs.Done kind status) p q =
    done_reading (heard s mark (done_of final)) kind status q
    ∙ moved s after mark (done_behind (done_of final) status) p
    ∙ ap (λ (d : FinalDone). okay (heard after mark d)) (done_follows final (has_bit status more) status refl)

-- Whether an acknowledgement was heard.
abbrev pub acknowledged : FinalDone → Bool
acknowledged Awaited = false
acknowledged Answered = false
acknowledged Acknowledged = true

plain_done : (m : Bool) → acknowledged (if m then Awaited else Answered) ≡ false
plain_done true = refl
plain_done false = refl

acked_by : (done : FinalDone) (status : ℕ) (a : Bool) → acknowledged (if a then Acknowledged else done_behind done status) ≡ acknowledged done || a
acked_by Awaited status true = refl
acked_by Answered status true = refl
acked_by Acknowledged status true = refl
acked_by Awaited status false = plain_done (has_bit status more)
acked_by Answered status false = plain_done (has_bit status more)
acked_by Acknowledged status false = refl

or_false : (a : Bool) → a ≡ (a || false)
or_false true = refl
or_false false = refl

pub acknowledged_by : (done : FinalDone) (sign : Sign) → acknowledged (done_sign done sign) ≡ acknowledged done || is_acknowledgement sign
acknowledged_by done signs.Nothing = or_false (acknowledged done)
acknowledged_by done (signs.Change change) = or_false (acknowledged done)
acknowledged_by done (signs.Done kind status) = acked_by done status (is_acknowledgement (signs.Done kind status))
