-- What a client hears of a step's tokens.
use Rattle.std.proofs.Common.{◌≡◌, ◌∙◌, ℕ, Bool, true, false, refl, sym, ap, Option, Some, None, List, [], ◌∷◌, ◌++◌, append-nil, eqb, length, ◌<◌, arith}
use Rattle.std.proofs.lemmas.List.Elements.{All-tail}
use Rattle.std.specs.List.{All, AllByRecursion}
use Rattle.std.specs.Prelude.{Ok, bit_and, map}
use Rattle.tds_client.specs.declared.heard.Heard.{Heard}
use Rattle.tds_client.specs.declared.heard.FinalDone.{FinalDone}
use Rattle.tds_client.specs.declared.heard.FinalDone.TheVariants.{Awaited, Answered, Acknowledged}
use Rattle.tds_client.specs.Hearing.{◌>>=◌, at_end_of_data, hear, hear_all, hear_change, descriptor_changed, hear_done, hear_packet, at_end_of_message, with_done}
use Rattle.tds_packet.specs.declared.status.Reset.{Reset}
use Rattle.tds_packet.specs.declared.status.Reset.TheVariants.{Full, KeepTransaction}
use Rattle.tds_session.specs.Attention.{acknowledging}
use Rattle.tds_session.specs.Lawful.{IsStatementDone}
use Rattle.tds_token.specs.declared.env_change.EnvChange.{EnvChange}
use Rattle.tds_token.specs.declared.env_change.EnvChange.TheVariants.{Begin, Commit, Rollback, ResetDone}
use Rattle.tds_token.specs.declared.token.Token.{Token}
use Rattle.tds_token.specs.declared.token.Token.TheVariants as tokens
use Rattle.tds_token.specs.Contents.{Contents}
use Rattle.tds_token.specs.Told.{changes_of, applied, applied_on, change_applied, no_reset}
use Rattle.tds_world.specs.Dones.{IsFinal, DonesBy}
use Rattle.tds_ends.proofs.Picks.{pick_true, pick_false}

-- Between two entries.
abbrev pub at : ℕ → Option Reset → Heard
at descriptor mark = record { descriptor = descriptor; mark = mark; done = Awaited }

abbrev pub done_by : Bool → FinalDone
done_by true = Answered
done_by false = Awaited

-- Behind a step.
abbrev pub behind : ℕ → Option Reset → Bool → Heard
behind descriptor mark last = record { descriptor = descriptor; mark = mark; done = done_by last }

found : (o : Option ℕ) (next : ℕ → Option ℕ) (d : ℕ) → applied_on next o ≡ Some d → (x : ℕ) × (o ≡ Some x) × (next x ≡ Some d)
found None next d e = absurd (cc)
found (Some x) next d e = (x, refl, e)

-- A change that is no end of a reset takes any client to the same descriptor.
change_heard : (cancelling : Bool) (x y : ℕ) (mark : Option Reset) (change : EnvChange) → change_applied no_reset x change ≡ Some y → hear_change (at x mark) change ≡ Ok (at y mark)
unfolding hear_change
change_heard cancelling x y mark (Begin d) e = ap (descriptor_changed (at x mark) (Begin d)) e
change_heard cancelling x y mark (Commit d) e = ap (descriptor_changed (at x mark) (Commit d)) e
change_heard cancelling x y mark (Rollback d) e = ap (descriptor_changed (at x mark) (Rollback d)) e
change_heard cancelling x y mark ResetDone e = absurd (cc)

done_heard : (cancelling : Bool) (x : ℕ) (mark : Option Reset) (status : ℕ) → bit_and status 1 ≡ 1 → bit_and status 32 ≡ 0 → hear_done cancelling (at x mark) status ≡ Ok (at x mark)
unfolding hear_done
done_heard cancelling x mark status more none =
    pick_false _ _ (ap (λ (n : ℕ). eqb n 32) none) (pick_true _ _ (ap (λ (n : ℕ). eqb n 1) more) refl)

final_heard : (cancelling : Bool) (x : ℕ) (mark : Option Reset) (status : ℕ) → IsFinal status → hear_done cancelling (at x mark) status ≡ Ok (behind x mark true)
unfolding hear_done
final_heard cancelling x mark status f =
    pick_false _ _ (ap (λ (n : ℕ). eqb n 32) f.1) (pick_false _ _ (ap (λ (n : ℕ). eqb n 1) f.0) refl)

-- Tokens of a statement, and then others.
front_heard : (cancelling : Bool) (x d : ℕ) (mark : Option Reset) (ts rest : List Token) → applied no_reset x (changes_of ts) ≡ Some d → AllByRecursion IsStatementDone ts → hear_all cancelling (at x mark) (ts ++ rest) ≡ hear_all cancelling (at d mark) rest
unfolding hear
front_heard cancelling x d mark [] rest e a = let same : x ≡ d = cc in ap (λ (n : ℕ). hear_all cancelling (at n mark) rest) same
front_heard cancelling x d mark (tokens.Info m ∷ ts) rest e a = front_heard cancelling x d mark ts rest e a.1
front_heard cancelling x d mark (tokens.Error m ∷ ts) rest e a = front_heard cancelling x d mark ts rest e a.1
front_heard cancelling x d mark (tokens.ReturnStatus v ∷ ts) rest e a = front_heard cancelling x d mark ts rest e a.1
front_heard cancelling x d mark (tokens.Columns cs ∷ ts) rest e a = front_heard cancelling x d mark ts rest e a.1
front_heard cancelling x d mark (tokens.Row vs ∷ ts) rest e a = front_heard cancelling x d mark ts rest e a.1
front_heard cancelling x d mark (tokens.Env change ∷ ts) rest e a =
    let one = found (change_applied no_reset x change) (λ next. applied no_reset next (changes_of ts)) d e in
    ap (λ r. r >>= λ next. hear_all cancelling next (ts ++ rest)) (change_heard cancelling x one.0 mark change one.1)
    ∙ front_heard cancelling one.0 d mark ts rest one.2 a.1
front_heard cancelling x d mark (tokens.Done status cur_cmd rows ∷ ts) rest e a =
    ap (λ r. r >>= λ next. hear_all cancelling next (ts ++ rest)) (done_heard cancelling x mark status a.0.0 a.0.1)
    ∙ front_heard cancelling x d mark ts rest e a.1

-- The final DONE tells no change.
changes_before : (front : List Token) (status cur_cmd rows : ℕ) → changes_of (front ++ tokens.Done status cur_cmd rows ∷ []) ≡ changes_of front
changes_before [] status cur_cmd rows = refl
changes_before (tokens.Info m ∷ ts) status cur_cmd rows = changes_before ts status cur_cmd rows
changes_before (tokens.Error m ∷ ts) status cur_cmd rows = changes_before ts status cur_cmd rows
changes_before (tokens.ReturnStatus v ∷ ts) status cur_cmd rows = changes_before ts status cur_cmd rows
changes_before (tokens.Columns cs ∷ ts) status cur_cmd rows = changes_before ts status cur_cmd rows
changes_before (tokens.Row vs ∷ ts) status cur_cmd rows = changes_before ts status cur_cmd rows
changes_before (tokens.Env e ∷ ts) status cur_cmd rows = ap (λ (es : List EnvChange). e ∷ es) (changes_before ts status cur_cmd rows)
changes_before (tokens.Done s c r ∷ ts) status cur_cmd rows = changes_before ts status cur_cmd rows

each : (ts : List Token) → All IsStatementDone ts → AllByRecursion IsStatementDone ts
each [] h = tt
each (t ∷ ts) h = (let some : 0 < length (t ∷ ts) = omega arith in h 0 t some, each ts (All-tail IsStatementDone t ts h))

-- All tokens of a step without a reset.
pub tokens_heard : (cancelling last : Bool) (x d cur_cmd rows : ℕ) (mark : Option Reset) (ts : List Token) → applied no_reset x (changes_of ts) ≡ Some d → DonesBy cur_cmd rows last ts → hear_all cancelling (at x mark) ts ≡ Ok (behind d mark last)
unfolding hear
tokens_heard cancelling false x d cur_cmd rows mark ts e a =
    ap (λ (all : List Token). hear_all cancelling (at x mark) all) (sym (append-nil ts)) ∙ front_heard cancelling x d mark ts [] e (each ts a)
tokens_heard cancelling true x d cur_cmd rows mark ts e a =
    let final : Token = tokens.Done a.1 cur_cmd rows in
    ap (λ (all : List Token). hear_all cancelling (at x mark) all) a.2
    ∙ (front_heard cancelling x d mark a.0 (final ∷ []) (ap (λ (es : List EnvChange). applied no_reset x es) (sym (ap changes_of a.2 ∙ changes_before a.0 a.1 cur_cmd rows)) ∙ e) (each a.0 a.3)
    ∙ ap (λ r. r >>= λ next. hear_all cancelling next []) (final_heard cancelling d mark a.1 a.4))

-- The end of a reset that was asked for.
abbrev pub descriptor_behind : Reset → ℕ → ℕ
descriptor_behind Full x = 0
descriptor_behind KeepTransaction x = x

pub reset_heard : (cancelling : Bool) (x : ℕ) (r : Reset) → hear_all cancelling (at x (Some r)) (tokens.Env ResetDone ∷ []) ≡ Ok (behind (descriptor_behind r x) None false)
unfolding hear hear_change
reset_heard cancelling x Full = refl
reset_heard cancelling x KeepTransaction = refl

-- The packet of such tokens.
pub packet_heard : (cancelling last : Bool) (heard : Heard) (d : ℕ) (mark : Option Reset) (contents : Contents) → contents.fault ≡ None → hear_all cancelling heard contents.tokens ≡ Ok (behind d mark last) → hear_packet cancelling heard last contents ≡ Ok (behind d mark last)
unfolding hear_packet
packet_heard cancelling true heard d mark contents none e =
    ap (λ r. (r >>= λ next. at_end_of_data contents.fault next) >>= λ next. at_end_of_message true next.done next) e
    ∙ ap (λ f. at_end_of_data f (behind d mark true) >>= λ next. at_end_of_message true next.done next) none
packet_heard cancelling false heard d mark contents none e =
    ap (λ r. (r >>= λ next. at_end_of_data contents.fault next) >>= λ next. at_end_of_message false next.done next) e
    ∙ ap (λ f. at_end_of_data f (behind d mark false) >>= λ next. at_end_of_message false next.done next) none

-- ---- An acknowledgement: changes, and a DONE

told_changes : (changes : List EnvChange) → changes_of (map tokens.Env changes) ≡ changes
told_changes [] = refl
told_changes (e ∷ es) = ap (λ (xs : List EnvChange). e ∷ xs) (told_changes es)

no_dones : (changes : List EnvChange) → AllByRecursion IsStatementDone (map tokens.Env changes)
no_dones [] = tt
no_dones (e ∷ es) = (tt, no_dones es)

pub acknowledgement_heard : (x d : ℕ) (mark : Option Reset) (changes : List EnvChange) (columns : Option ℕ) → applied no_reset x changes ≡ Some d → hear_packet true (at x mark) true (record { tokens = acknowledging changes; fault = None; columns = columns }) ≡ Ok (with_done (at d mark) Acknowledged)
unfolding hear_packet hear hear_done
acknowledgement_heard x d mark changes columns e =
    ap (λ r. (r >>= λ next. at_end_of_data None next) >>= λ next. at_end_of_message true next.done next)
    (front_heard true x d mark (map tokens.Env changes) (tokens.Done 0x20 0 0 ∷ []) (ap (λ (es : List EnvChange). applied no_reset x es) (told_changes changes) ∙ e) (no_dones changes))
