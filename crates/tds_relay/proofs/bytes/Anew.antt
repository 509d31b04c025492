-- Data that are laid out in packets anew.
use Rattle.std.proofs.Common.{◌≡◌, ◌⊎◌, ◌∙◌, ◌==◌, ◌++◌, ◌+◌, ◌<◌, ◌≤◌, arith, inl, inr, ℕ, Bool, true, false, List, [], ◌∷◌, length, take, drop, refl, sym, ap}
use Rattle.std.proofs.lemmas.Bool.{false≢true}
use Rattle.std.proofs.lemmas.List.{append_assoc, append-nil, take-append-drop}
use Rattle.tds_packet.specs.declared.kind.Kind.TheVariants.{Answer}
use Rattle.tds_packet.specs.Reading.{joined}
use Rattle.tds_packet.specs.Sent.{end_bit, sent_bytes}
use Rattle.tds_relay.specs.Cutting.{IsAnew, all_sent, last_sent}
use Rattle.tds_relay.specs.Promises.{Each}

sent_both : (id : ℕ) (xs ys : List (List ℕ)) → all_sent id (xs ++ ys) ≡ all_sent id xs ++ all_sent id ys
sent_both id [] ys = refl
sent_both id (x ∷ xs) ys = ap (λ (more : List ℕ). sent_bytes Answer 0 id x ++ more) (sent_both id xs ys) ∙ sym (append_assoc (sent_bytes Answer 0 id x) (all_sent id xs) (all_sent id ys))

joined_both : (xs ys : List (List ℕ)) → joined (xs ++ ys) ≡ joined xs ++ joined ys
joined_both [] ys = refl
joined_both (x ∷ xs) ys = ap (λ (more : List ℕ). x ++ more) (joined_both xs ys) ∙ sym (append_assoc x (joined xs) (joined ys))

-- one more packet that doesn't end the message
pub sent_more : (id : ℕ) (parts : List (List ℕ)) (part : List ℕ) → all_sent id (parts ++ part ∷ []) ≡ all_sent id parts ++ sent_bytes Answer 0 id part
sent_more id parts part = sent_both id parts (part ∷ []) ∙ ap (λ (more : List ℕ). all_sent id parts ++ more) (append-nil (sent_bytes Answer 0 id part))

pub joined_more : (parts : List (List ℕ)) (part rest : List ℕ) → joined (parts ++ part ∷ []) ++ rest ≡ joined parts ++ (part ++ rest)
joined_more parts part rest =
    ap (λ (front : List ℕ). front ++ rest) (joined_both parts (part ∷ []) ∙ ap (λ (more : List ℕ). joined parts ++ more) (append-nil part))
    ∙ append_assoc (joined parts) part rest

pub each_more : {X : Type 0} (P : X → Type 0) (xs : List X) (x : X) → Each P xs → P x → Each P (xs ++ x ∷ [])
each_more P [] x h k = (k, tt)
each_more P (y ∷ ys) x h k = (h.0, each_more P ys x h.1 k)

-- there are no data, and no end
pub none_last : (id : ℕ) (last : List ℕ) → last ≡ [] → last_sent id false last ≡ []
none_last id [] is = refl
none_last id (x ∷ xs) is = absurd (let u : ⊥ = cc in u)

pub some_last : (id : ℕ) (ends : Bool) (last : List ℕ) → (last ≡ [] → ends ≡ true) → last_sent id ends last ≡ sent_bytes Answer (end_bit ends) id last
some_last id true [] some = refl
some_last id false [] some = absurd (let u : false ≡ true = some refl in let v : ⊥ = cc in v)
some_last id ends (x ∷ xs) some = refl

-- ---- So many packets that don't end the message, and what is left of the data

abbrev pub Fits : ℕ → List ℕ → Type 0
Fits size part = 8 + length part ≤ size

abbrev pub Fills : ℕ → List ℕ → Type 0
Fills size part = 8 + length part ≡ size

pub record Laid (size id : ℕ) (before now content rest : List ℕ) : Type 0 where
  pub parts : List (List ℕ)
  pub now_is : now ≡ before ++ all_sent id parts
  pub content_is : content ≡ joined parts ++ rest
  pub fill : Each (Fills size) parts
  pub has_data : rest ≡ [] → parts ≡ []

pub laid_none : (size id : ℕ) (before content : List ℕ) → Laid size id before before content content
laid_none size id before content = record { parts = []; now_is = sym (append-nil before); content_is = refl; fill = tt; has_data = λ none. refl }

pub laid_more : (size id : ℕ) (before now now2 content rest first others : List ℕ) → Laid size id before now content rest → rest ≡ first ++ others
    → now2 ≡ now ++ sent_bytes Answer 0 id first → Fills size first → (others ≡ [] → ⊥) → Laid size id before now2 content others
laid_more size id before now now2 content rest first others l split sent fills some = record {
  parts = l.parts ++ first ∷ [];
  now_is = sent ∙ ap (λ (front : List ℕ). front ++ sent_bytes Answer 0 id first) l.now_is
      ∙ append_assoc before (all_sent id l.parts) (sent_bytes Answer 0 id first) ∙ ap (λ (more : List ℕ). before ++ more) (sym (sent_more id l.parts first));
  content_is = l.content_is ∙ ap (λ (more : List ℕ). joined l.parts ++ more) split ∙ sym (joined_more l.parts first others);
  fill = each_more (Fills size) l.parts first l.fill fills;
  has_data = λ none. absurd (some none);
}

-- nothing more is sent, or the last one
abbrev pub Anew : ℕ → ℕ → Bool → List ℕ → List ℕ → List ℕ → Type 0
Anew size id ends content before now = (sent : List ℕ) × IsAnew size id ends content sent × (now ≡ before ++ sent)

pub anew_by : (size id : ℕ) (ends : Bool) (before now now2 content rest : List ℕ) → Laid size id before now content rest → Fits size rest
    → now2 ≡ now ++ last_sent id ends rest → Anew size id ends content before now2
anew_by size id ends before now now2 content rest l fits sent = (
  all_sent id l.parts ++ last_sent id ends rest,
  record { parts = l.parts; last = rest; content_is = l.content_is; bytes_are = refl; fill = l.fill; last_fits = fits; has_data = l.has_data },
  sent ∙ ap (λ (front : List ℕ). front ++ last_sent id ends rest) l.now_is ∙ append_assoc before (all_sent id l.parts) (last_sent id ends rest),
)

pub split_is : (rest first others : List ℕ) (n : ℕ) → first ≡ take n rest → others ≡ drop n rest → rest ≡ first ++ others
split_is rest first others n front back =
    sym (take-append-drop n rest) ∙ ap (λ (f : List ℕ). f ++ drop n rest) (sym front) ∙ ap (λ (o : List ℕ). first ++ o) (sym back)

-- something is left behind the first of them
pub some_left : (rest first others : List ℕ) → rest ≡ first ++ others → length first < length rest → others ≡ [] → ⊥
some_left rest first others split less none =
    let same : length rest ≡ length first = ap (length {A = ℕ}) (split ∙ ap (λ (o : List ℕ). first ++ o) none ∙ append-nil first) in
    let lt : length first < length rest = less in
    let u : ⊥ = omega (arith, same, lt) in u

pub none_sent : (id : ℕ) (ends : Bool) (now rest : List ℕ) → ends ≡ false → rest ≡ [] → now ≡ now ++ last_sent id ends rest
none_sent id ends now rest unended none =
    sym (append-nil now) ∙ ap (λ (more : List ℕ). now ++ more) (sym (ap (λ (b : Bool). last_sent id b rest) unended ∙ none_last id rest none))

pub ends_if : (ends empty : Bool) (rest : List ℕ) → empty ≡ (length rest == 0) → ((empty ≡ true) × (ends ≡ true)) ⊎ (empty ≡ false) → rest ≡ [] → ends ≡ true
ends_if ends empty rest is (inl both) none = both.1
ends_if ends empty rest is (inr some) none = absurd (false≢true (sym some ∙ is ∙ ap (λ (bytes : List ℕ). length bytes == 0) none))
