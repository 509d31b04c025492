-- Events that were said one behind the other, each somewhere, and an eye that sees them so.
use Rattle.std.proofs.Common.{◌≡◌, ◌∙◌, ◌==◌, not, Bool, true, false, ℕ, List, [], ◌∷◌, ◌++◌, length, refl, sym, ap, subst, arith}
use Rattle.std.proofs.lemmas.Bool.{eq-eqb, ne_eqb}
use Rattle.std.proofs.lemmas.List.{length-append}
use Rattle.tds_judge.specs.declared.finding.Direction.TheVariants.{ToServer}
use Rattle.tds_judge.specs.declared.finding.Spot.{Spot}
use Rattle.tds_judge.specs.declared.talk.Event.{Event}
use Rattle.tds_judge.specs.History.{Said}
use Rattle.laws_never_blamed.specs.Seen.{Eye, sees}
use Rattle.laws_never_blamed.proofs.Heads.{says}

abbrev pub Follows : List Event → List Said → List Said → Type 0
Follows [] past behind = behind ≡ past
Follows (event ∷ events) past behind = (spot : Spot) × Follows events (says spot event past) behind

pub follows_more : (first second : List Event) (past middle behind : List Said) → Follows first past middle → Follows second middle behind → Follows (first ++ second) past behind
follows_more [] second past middle behind f g = subst (λ (p : List Said). Follows second p behind) f g
follows_more (event ∷ first) second past middle behind f g = (f.0, follows_more first second (says f.0 event past) middle behind f.1 g)

-- what stands before them stays
pub record Front (past behind : List Said) : Type 0 where
  pub front : List Said
  pub is : behind ≡ front ++ past

append_append : (xs ys zs : List Said) → (xs ++ ys) ++ zs ≡ xs ++ (ys ++ zs)
append_append [] ys zs = refl
append_append (x ∷ xs) ys zs = ap (λ (others : List Said). x ∷ others) (append_append xs ys zs)

pub front_of : (events : List Event) (past behind : List Said) → Follows events past behind → Front past behind
front_of [] past behind f = record { front = []; is = f }
front_of (event ∷ events) past behind f =
    let rest = front_of events (says f.0 event past) behind f.1 in
    let one : Said = record { spot = f.0; event = event } in
    record { front = rest.front ++ (one ∷ []); is = rest.is ∙ sym (append_append rest.front (one ∷ []) past) }

-- ---- The eye

abbrev pub nowhere : Spot
nowhere = record { direction = ToServer; offset = 0; time = 0 }

abbrev pub spot_by : Bool → Spot → Spot → Spot
spot_by true spot other = spot
spot_by false spot other = other

-- where the next thing was said that stands behind so many in a list
abbrev pub spot_behind : List Said → ℕ → Spot
spot_behind [] count = nowhere
spot_behind (x ∷ past) count = spot_by (length past == count) x.spot (spot_behind past count)

spot_is : (front past : List Said) (x : Said) → spot_behind (front ++ (x ∷ past)) (length past) ≡ x.spot
spot_is [] past x = ap (λ (b : Bool). spot_by b x.spot (spot_behind past (length past))) (eq-eqb (length past) (length past) refl)
spot_is (y ∷ front) past x =
    ap (λ (b : Bool). spot_by b y.spot (spot_behind (front ++ (x ∷ past)) (length past)))
    (ne_eqb (length (front ++ (x ∷ past))) (length past) (λ (e : length (front ++ (x ∷ past)) ≡ length past). omega (arith, e, length-append front (x ∷ past))))
    ∙ spot_is front past x

abbrev pub eye_at : List Said → ℕ → Bool → Bool → Eye
eye_at behind size headers fills = record { spot = λ past. spot_behind behind (length past); length = λ past. size; headers = λ past. headers; bulk = λ past. not headers; fills = λ past. fills }

abbrev pub sees_all : Eye → List Said → List Event → List Said
sees_all eye past [] = past
sees_all eye past (event ∷ events) = sees_all eye (sees eye past event) events

pub seen_so : (behind : List Said) (size : ℕ) (headers fills : Bool) (events : List Event) (past : List Said) → Follows events past behind
    → sees_all (eye_at behind size headers fills) past events ≡ behind
seen_so behind size headers fills [] past f = sym f
seen_so behind size headers fills (event ∷ events) past f =
    let rest = front_of events (says f.0 event past) behind f.1 in
    let one : Said = record { spot = f.0; event = event } in
    let there : spot_behind behind (length past) ≡ f.0 = ap (λ (xs : List Said). spot_behind xs (length past)) rest.is ∙ spot_is rest.front past one in
    ap (λ (spot : Spot). sees_all (eye_at behind size headers fills) (says spot event past) events) there
    ∙ seen_so behind size headers fills events (says f.0 event past) f.1
