-- A token that is told and changes nothing; what changes in a seat where it stands.
use Rattle.std.proofs.Common.{◌≡◌, ◌∙◌, Bool, true, false, List, [], ◌∷◌, refl, sym, ap, subst}
use Rattle.std.specs.Prelude.{None, Ok}
use Rattle.tds_client.specs.declared.sign.Sign.{Sign}
use Rattle.tds_client.specs.declared.sign.Sign.TheVariants as signs
use Rattle.tds_client.specs.declared.sign.Rules.TheVariants.{Any}
use Rattle.tds_client.specs.declared.heard.FinalDone.TheVariants.{Awaited}
use Rattle.tds_client.specs.declared.heard.Heard.{Heard}
use Rattle.tds_client.specs.Hearing.{hear_sign, with_done}
use Rattle.tds_wire.specs.declared.told.Token.{Token}
use Rattle.tds_service.specs.Line as line
use Rattle.tds_service.specs.Line.{Line, LineStage, heard_at}
use Rattle.tds_service.specs.Service.{Place as Held, Leased, Cleaning, Kept, Free, Draining, drained}
use Rattle.tds_service.specs.Parts.{told_by}
use Rattle.tds_service.specs.Ties.{Hears as LineHears}
use Rattle.tds_c.specs.declared.service.plain.TdsSeat.{TdsSeat}
use Rattle.tds_c.specs.service.ComesOn.{HeardOn, is_reading}
use Rattle.tds_c.specs.service.Clients.{apart}
use Rattle.tds_c.specs.service.Hearing.{end_part, one_part, told_if}
use Rattle.tds_c.specs.service.Plain.{done_of, line_of, mark_of, place_of, stage_of}
use Rattle.tds_c.proofs.service.Comings.{reading_is}
use Rattle.tds_c.proofs.service.Hearings.{end_finished, reads_ok}

drained_reading : (p : Held) → p ≡ drained p line.Reading
drained_reading (Leased lease) = refl
drained_reading (Cleaning lease) = refl
drained_reading (Kept ticket) = refl
drained_reading Free = refl
drained_reading Draining = refl

nothing_heard : (l : Line) (token : Token) → l.stage ≡ line.Reading → LineHears (one_part signs.Nothing token) l l line.More (token ∷ [])
nothing_heard l token st =
    subst (λ (s : LineStage). LineHears (one_part signs.Nothing token) l (heard_at l s l.heard) line.More (token ∷ [])) (sym st)
    (reads_ok l signs.Nothing token l.heard st refl)

pub passed_on : (c : TdsSeat) (sign : Sign) (token : Token) → (sign ≡ signs.Nothing) × (is_reading (line_of c).stage ≡ true) → HeardOn (one_part sign token) c c line.More (token ∷ [])
passed_on c sign token h =
    let st : (line_of c).stage ≡ line.Reading = reading_is (line_of c).stage h.1 in
    subst (λ (s : Sign). HeardOn (one_part s token) c c line.More (token ∷ [])) (sym h.0) (record {
      hears = nothing_heard (line_of c) token st;
      place_is = drained_reading (place_of c) ∙ ap (drained (place_of c)) (sym st);
      number_is = refl;
      apart_is = refl;
    })

-- ---- What changes in its place

module _ (c z : TdsSeat) (placed : place_of z ≡ place_of c) (numbered : z.number ≡ c.number) (alone : apart z.client ≡ apart c.client) where
  pub held_on : (sign : Sign) (token : Token) (next : Heard) (told : Bool) → stage_of c.client ≡ line.Reading → hear_sign Any false (line_of c).heard sign ≡ Ok next
      → line_of z ≡ heard_at (line_of c) (stage_of c.client) next → told_if told token ≡ told_by sign token []
      → HeardOn (one_part sign token) c z line.More (told_if told token)
  held_on sign token next told st e is told_is =
      let there : line_of z ≡ heard_at (line_of c) line.Reading next = is ∙ ap (λ (s : LineStage). heard_at (line_of c) s next) st in
      record {
        hears = subst (λ (ts : List Token). LineHears (one_part sign token) (line_of c) (line_of z) line.More ts) (sym told_is)
            (subst (λ (l : Line). LineHears (one_part sign token) (line_of c) l line.More (told_by sign token [])) (sym there) (reads_ok (line_of c) sign token next st e));
        place_is = placed ∙ (drained_reading (place_of c) ∙ ap (λ (l : Line). drained (place_of c) l.stage) (sym there));
        number_is = numbered;
        apart_is = alone;
      }

  not_drained : (p : Held) (s : LineStage) → (p ≡ Draining → ⊥) → p ≡ drained p s
  not_drained (Leased lease) s never = refl
  not_drained (Cleaning lease) s never = refl
  not_drained (Kept ticket) s never = refl
  not_drained Free s never = refl
  not_drained Draining s never = absurd (never refl)

  pub ended_on : (cut : Bool) → cut ≡ false → stage_of c.client ≡ line.Reading → mark_of c.client.mark ≡ None → (done_of c.client.done ≡ Awaited → ⊥) → (place_of c ≡ Draining → ⊥)
      → line_of z ≡ heard_at (line_of c) line.Idle (with_done (line_of c).heard Awaited) → HeardOn (end_part cut) c z (line.Finished c.asked) []
  ended_on cut between st mark done held is =
      subst (λ (b : Bool). HeardOn (end_part b) c z (line.Finished c.asked) []) (sym between) (record {
        hears = subst (λ (l : Line). LineHears (end_part false) (line_of c) l (line.Finished c.asked) []) (sym is) (end_finished (line_of c) done st mark);
        place_is = placed ∙ not_drained (place_of c) (line_of z).stage held;
        number_is = numbered;
        apart_is = alone;
      })
