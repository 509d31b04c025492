-- What is left of an answer's data, one token after the other.
use Rattle.std.proofs.Common.{◌≡◌, ◌∙◌, ◌≤◌, ◌<◌, ◌++◌, ◌-◌, ℕ, zero, suc, Bool, List, [], ◌∷◌, Option, Some, None, length, take, drop, is_some, if◌then◌else◌, refl, sym, ap, subst, arith}
use Rattle.std.proofs.lemmas.List.{append-nil, append_assoc, length-drop}
use Rattle.std.proofs.Math.Seq.{drop-length, take-length}
use Rattle.tds_wire.specs.declared.fault.Refusal.{Refusal}
use Rattle.tds_wire.specs.declared.told.Token.{Token}
use Rattle.tds_wire.specs.Reading.{Parser, Found, Sees, Inside, Refuses, found_to, front_of, next_token}
use Rattle.tds_listen.proofs.Fewer.{TakesSome, takes_some}
use Rattle.tds_relay.specs.declared.news.Known.{Known}
use Rattle.tds_packet.specs.declared.header.Header.{Header}
use Rattle.tds_relay.specs.declared.link.Answer.{Answer}
use Rattle.tds_relay.specs.Cutting.{IsAnew, IsCut, Left, is_last_packet, known_behind, led, left_at_token, left_in, left_of, left_within, passed_on}
use Rattle.tds_service.specs.Packets.{behind_packet}
use Rattle.tds_relay.specs.News.{bytes_going_on, goes_on_to_end, held, known_after, known_next}

by_same : (known : Known) (bytes : List ℕ) (found : Found) (n : ℕ) (f g : Known → Parser → List ℕ → Left) → TakesSome (suc n) found → ((k : Known) (r : Parser) (rest : List ℕ) → length rest ≤ n → f k r rest ≡ g k r rest)
    → left_at_token known bytes found f ≡ left_at_token known bytes found g
by_same known bytes (Sees token r rest) n f g h same = ap (led (goes_on_to_end known (front_of bytes rest))) (same (known_next (known_after known (front_of bytes rest))) r rest (omega (arith, h)))
by_same known bytes (Inside r) n f g h same = refl
by_same known bytes (Refuses refusal) n f g h same = refl

pub none_left : (most : ℕ) (known : Known) (r : Parser) → left_within most known r [] ≡ record { bytes = []; known = known; stands = Some r }
unfolding left_within
none_left zero known r = refl
none_left (suc most) known r = refl

same : (a b : ℕ) (known : Known) (r : Parser) (bytes : List ℕ) → length bytes ≤ a → length bytes ≤ b → left_within a known r bytes ≡ left_within b known r bytes
unfolding left_within
same a b known r [] ha hb = none_left a known r ∙ sym (none_left b known r)
same zero b known r (x ∷ xs) ha hb = absurd (omega (arith, ha))
same (suc a) zero known r (x ∷ xs) ha hb = absurd (omega (arith, hb))
same (suc a) (suc b) known r (x ∷ xs) ha hb =
    by_same known (x ∷ xs) (next_token r (x ∷ xs)) (length xs) (left_within a) (left_within b) (takes_some r x xs)
    (λ k r rest few. same a b k r rest (omega (arith, few, ha)) (omega (arith, few, hb)))

step_is : (known : Known) (r : Parser) (x : ℕ) (xs : List ℕ) → left_of known r (x ∷ xs) ≡ left_at_token known (x ∷ xs) (next_token r (x ∷ xs)) left_of
unfolding left_within
step_is known r x xs =
    by_same known (x ∷ xs) (next_token r (x ∷ xs)) (length xs) (left_within (length xs)) left_of (takes_some r x xs)
    (λ k next rest few. same (length xs) (length rest) k next rest few (omega arith))

-- bytes that no answer has there
pub refused_is : (known : Known) (r : Parser) (bytes : List ℕ) (refusal : Refusal) → 0 < length bytes → next_token r bytes ≡ Refuses refusal → left_of known r bytes ≡ record { bytes = []; known = known; stands = None }
refused_is known r [] refusal some is = absurd (omega (arith, some))
refused_is known r (x ∷ xs) refusal some is = step_is known r x xs ∙ ap (λ (f : Found). left_at_token known (x ∷ xs) f left_of) is

front_is : (bytes : List ℕ) (count : ℕ) → count ≤ length bytes → front_of bytes (drop count bytes) ≡ take count bytes
front_is bytes count within =
    let left : length (drop count bytes) ≡ length bytes - count = length-drop count bytes in
    ap (λ (n : ℕ). take n bytes) (omega (arith, left, within))

inside_is : (known : Known) (r : Parser) (bytes taken dropped : List ℕ) → taken ≡ bytes → dropped ≡ []
    → record { bytes = bytes_going_on known bytes; known = known_after known bytes; stands = Some r } ≡ led (bytes_going_on known taken) (left_of (known_after known taken) r dropped)
inside_is known r bytes taken dropped whole none =
    subst (λ (t : List ℕ). record { bytes = bytes_going_on known bytes; known = known_after known bytes; stands = Some r } ≡ led (bytes_going_on known t) (left_of (known_after known t) r dropped)) (sym whole)
    (subst (λ (rest : List ℕ). record { bytes = bytes_going_on known bytes; known = known_after known bytes; stands = Some r } ≡ led (bytes_going_on known bytes) (left_of (known_after known bytes) r rest)) (sym none)
    (ap (λ (front : List ℕ). record { bytes = front; known = known_after known bytes; stands = Some r }) (sym (append-nil (bytes_going_on known bytes)))
    ∙ ap (led (bytes_going_on known bytes)) (sym (none_left 0 (known_after known bytes) r))))

-- a token ends with these bytes, or they are all inside one
pub token_is : (known : Known) (r r2 : Parser) (bytes : List ℕ) (count : ℕ) (token : Option Token)
    → 0 < length bytes → count ≤ length bytes → (token ≡ None → count ≡ length bytes) → found_to token r2 (drop count bytes) ≡ next_token r bytes
    → left_of known r bytes ≡ led (passed_on (is_some token) known (take count bytes)) (left_of (known_behind (is_some token) known (take count bytes)) r2 (drop count bytes))
token_is known r r2 [] count token some within all found = absurd (omega (arith, some))
token_is known r r2 (x ∷ xs) count None some within all found =
    let whole : count ≡ length (x ∷ xs) = all refl in
    step_is known r x xs ∙ ap (λ (f : Found). left_at_token known (x ∷ xs) f left_of) (sym found)
    ∙ inside_is known r2 (x ∷ xs) (take count (x ∷ xs)) (drop count (x ∷ xs))
    (ap (λ (n : ℕ). take n (x ∷ xs)) whole ∙ take-length (x ∷ xs)) (ap (λ (n : ℕ). drop n (x ∷ xs)) whole ∙ drop-length (x ∷ xs))
token_is known r r2 (x ∷ xs) count (Some token) some within all found =
    step_is known r x xs ∙ ap (λ (f : Found). left_at_token known (x ∷ xs) f left_of) (sym found)
    ∙ ap (λ (front : List ℕ). led (goes_on_to_end known front) (left_of (known_next (known_after known front)) r2 (drop count (x ∷ xs)))) (front_is (x ∷ xs) count within)

abbrev KeepsOn : List ℕ → List ℕ → Left → Left → Type 0
KeepsOn more kept later earlier = (more ++ later.bytes ≡ kept ++ earlier.bytes) × (later.known ≡ earlier.known) × (later.stands ≡ earlier.stands)

-- one token more, or all that is left of the bytes
pub kept_on : (kept more : List ℕ) (known known2 : Known) (r r2 : Parser) (bytes taken rest : List ℕ) (count : ℕ) (token : Option Token)
    → 0 < length bytes → count ≤ length bytes → (token ≡ None → count ≡ length bytes) → found_to token r2 (drop count bytes) ≡ next_token r bytes
    → taken ≡ take count bytes → rest ≡ drop count bytes → more ≡ kept ++ passed_on (is_some token) known taken → known2 ≡ known_behind (is_some token) known taken
    → KeepsOn more kept (left_of known2 r2 rest) (left_of known r bytes)
kept_on kept more known known2 r r2 bytes taken rest count token some within all found taken_is rest_is more_is known_is =
    let ends : Bool = is_some token in
    let step = token_is known r r2 bytes count token some within all found in
    let behind : known2 ≡ known_behind ends known (take count bytes) = known_is ∙ ap (known_behind ends known) taken_is in
    let later : left_of known2 r2 rest ≡ left_of (known_behind ends known (take count bytes)) r2 (drop count bytes) =
    ap (λ (k : Known). left_of k r2 rest) behind ∙ ap (left_of (known_behind ends known (take count bytes)) r2) rest_is in
    let inner : passed_on ends known taken ++ (left_of known2 r2 rest).bytes ≡ (left_of known r bytes).bytes =
    ap (λ (t : List ℕ). passed_on ends known t ++ (left_of known2 r2 rest).bytes) taken_is
    ∙ ap (λ (l : Left). passed_on ends known (take count bytes) ++ l.bytes) later
    ∙ ap (λ (l : Left). l.bytes) (sym step) in (
      ap (λ (m : List ℕ). m ++ (left_of known2 r2 rest).bytes) more_is ∙ append_assoc kept (passed_on ends known taken) (left_of known2 r2 rest).bytes ∙ ap (λ (l : List ℕ). kept ++ l) inner,
      ap (λ (l : Left). l.known) later ∙ ap (λ (l : Left). l.known) (sym step),
      ap (λ (l : Left). l.stands) later ∙ ap (λ (l : Left). l.stands) (sym step),
    )

-- nothing is left of the bytes
pub ended_is : (known : Known) (r : Parser) (bytes : List ℕ) → bytes ≡ [] → left_of known r bytes ≡ record { bytes = []; known = known; stands = Some r }
ended_is known r bytes none = ap (left_of known r) none ∙ none_left 0 known r

pub kept_all : (kept target : List ℕ) (known : Known) (left : Left) (stands : Option Parser) → left ≡ record { bytes = []; known = known; stands = stands } → kept ++ left.bytes ≡ target → kept ≡ target
kept_all kept target known left stands none is = sym (append-nil kept) ∙ ap (λ (l : Left). kept ++ l.bytes) (sym none) ∙ is

pub known_all : (target known : Known) (left : Left) (stands : Option Parser) → left ≡ record { bytes = []; known = known; stands = stands } → left.known ≡ target → known ≡ target
known_all target known left stands none is = ap (λ (l : Left). l.known) (sym none) ∙ is

-- where the parser stands, of which this was said
pub stands_all : (target : Option Parser) (known : Known) (left : Left) (r next : Parser) → left ≡ record { bytes = []; known = known; stands = Some r } → left.stands ≡ target → target ≡ Some next → r ≡ next
stands_all target known left r next none is there =
    let same : Some r ≡ Some next = ap (λ (l : Left). l.stands) (sym none) ∙ is ∙ there in
    cc

pub stands_none : (target : Option Parser) (known : Known) (left : Left) (next : Parser) → left ≡ record { bytes = []; known = known; stands = None } → left.stands ≡ target → target ≡ Some next → ⊥
stands_none target known left next none is there =
    let same : None ≡ Some next = ap (λ (l : Left). l.stands) (sym none) ∙ is ∙ there in
    let u : ⊥ = cc in u

-- what is left is laid out anew
pub cut_is : (a : Answer) (header : Header) (content : List ℕ) (size : ℕ) (ends : Bool) (kept all sent : List ℕ) (known : Known)
    → size ≡ a.size → ends ≡ is_last_packet header → kept ≡ (left_of a.known a.parser content).bytes → known ≡ (left_of a.known a.parser content).known
    → all ≡ (if ends then kept ++ held known else kept) → IsAnew size header.packet_id ends all sent → IsCut a header content sent
cut_is a header content size ends kept all sent known size_is ends_is kept_is known_is all_is anew =
    let left : Left = left_of a.known a.parser content in
    let whole : all ≡ left_in ends left =
    all_is ∙ ap (λ (k : Known). if ends then kept ++ held k else kept) known_is ∙ ap (λ (front : List ℕ). if ends then front ++ held left.known else front) kept_is in
    subst (λ (b : Bool). IsAnew a.size header.packet_id b (left_in b left) sent) ends_is
    (subst (λ (n : ℕ). IsAnew n header.packet_id ends (left_in ends left) sent) size_is
    (subst (λ (bytes : List ℕ). IsAnew size header.packet_id ends bytes sent) whole anew))

pub no_bytes : (bytes : List ℕ) → length bytes ≡ 0 → bytes ≡ []
no_bytes [] none = refl
no_bytes (x ∷ xs) none = absurd (omega (arith, none))

-- what is known behind it, and where the parser stands
pub behind_is : (a : Answer) (content : List ℕ) (ends last : Bool) (first mid new : Known) (at now : Parser) → first ≡ a.known → ends ≡ last → mid ≡ (left_of first a.parser content).known
    → ((next : Parser) → (left_of first a.parser content).stands ≡ Some next → at ≡ next) → new ≡ (if ends then known_next mid else mid) → now ≡ behind_packet ends at
    → (new ≡ (if last then known_next (left_of a.known a.parser content).known else (left_of a.known a.parser content).known))
    × ((next : Parser) → (left_of a.known a.parser content).stands ≡ Some next → now ≡ behind_packet last next)
behind_is a content ends last first mid new at now known_is ends_is left_is stands_is new_is now_is = (
  new_is ∙ ap (λ (k : Known). if ends then known_next k else k) (left_is ∙ ap (λ (k : Known). (left_of k a.parser content).known) known_is)
      ∙ ap (λ (b : Bool). if b then known_next (left_of a.known a.parser content).known else (left_of a.known a.parser content).known) ends_is,
  λ next there. now_is ∙ ap (behind_packet ends) (stands_is next (ap (λ (k : Known). (left_of k a.parser content).stands) known_is ∙ there)) ∙ ap (λ (b : Bool). behind_packet b next) ends_is,
)
