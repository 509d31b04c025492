-- What the data of a packet do to a judge: those that nobody reads, those of ALL_HEADERS, and those that the parser reads.
use Rattle.std.proofs.Common.{◌≡◌, ◌∙◌, ◌+◌, ◌-◌, ◌*◌, ◌/◌, ◌<◌, nat_lt, true, false, ℕ, List, [], ◌∷◌, length, refl, sym, ap, arith}
use Rattle.std.proofs.lemmas.Bool.{lt-ltb}
use Rattle.tds_judge.specs.declared.finding.Direction.TheVariants.{ToServer}
use Rattle.tds_judge.specs.declared.frame.Due.TheVariants as due
use Rattle.tds_judge.specs.declared.frame.Frame.{Frame}
use Rattle.tds_judge.specs.declared.frame.Inside.TheVariants as inside
use Rattle.tds_judge.specs.declared.talk.Event.TheVariants as events
use Rattle.tds_wire.specs.Reading.{Parser}
use Rattle.tds_judge.specs.declared.headers.Field.TheVariants as fields
use Rattle.tds_judge.specs.declared.headers.Headed.{Headed}
use Rattle.tds_judge.specs.declared.headers.Headed.TheVariants as read
use Rattle.tds_judge.specs.declared.headers.Heading.{Heading}
use Rattle.tds_judge.specs.Framing.{Run, due_by, inside_by, over, step, steps}
use Rattle.tds_judge.specs.Headers.{heading_by, new_heading, spelled_with}
use Rattle.tds_judge.specs.History.{Said, found_in, further}
use Rattle.laws_never_blamed.proofs.Heads.{Base, client_spot, next, run_at, says}

-- ---- The last byte of a packet

-- so many bytes on
abbrev pub on : ℕ → List ℕ → ℕ
on o [] = o
on o (b ∷ bytes) = on (next o) bytes

-- the place of the last of them
abbrev pub last : ℕ → ℕ → List ℕ → ℕ
last o b [] = o
last o b (c ∷ bytes) = last (next o) c bytes

-- ---- Data of the client that nobody reads

abbrev pub skipped : Frame → ℕ → ℕ → Frame
skipped c left o = record c { due = due.Data left; inside = inside.Skipped; offset = o }

skip_more : (base : Base) (t b left o : ℕ) (c s : Frame) (r : Parser) (past : List Said) → nat_lt 1 left ≡ true
    → step ToServer t b (run_at base (skipped c left o) s r past) ≡ run_at base (skipped c (left - 1) (next o)) s r past
unfolding step due_by inside_by
skip_more base t b left o c s r past more = rw more refl

skip_last : (base : Base) (t b o : ℕ) (c s : Frame) (r : Parser) (past : List Said)
    → step ToServer t b (run_at base (skipped c 1 o) s r past) ≡ over (client_spot o t) (run_at base (skipped c 1 (next o)) s r past)
unfolding step due_by inside_by
skip_last base t b o c s r past = refl

pub skips_all : (base : Base) (t b left o : ℕ) (bytes : List ℕ) (c s : Frame) (r : Parser) (past : List Said) → length (b ∷ bytes) ≡ left
    → steps ToServer t (b ∷ bytes) (run_at base (skipped c left o) s r past)
    ≡ over (client_spot (last o b bytes) t) (run_at base (skipped c 1 (on o (b ∷ bytes))) s r past)
unfolding steps
skips_all base t b left o [] c s r past is =
    ap (λ (n : ℕ). step ToServer t b (run_at base (skipped c n o) s r past)) (sym is) ∙ skip_last base t b o c s r past
skips_all base t b left o (d ∷ bytes) c s r past is =
    let n : length (d ∷ bytes) ≡ left - 1 = omega (arith, is) in
    ap (steps ToServer t (d ∷ bytes)) (skip_more base t b left o c s r past (lt-ltb 1 left (omega (arith, is))))
    ∙ skips_all base t d (left - 1) (next o) bytes c s r past n

-- ---- ALL_HEADERS

abbrev pub prefix : Frame → ℕ → Heading → ℕ → Frame
prefix c left h o = record c { due = due.Data left; inside = inside.Prefix h; offset = o }

prefix_more : (base : Base) (t b left o : ℕ) (h g : Heading) (c s : Frame) (r : Parser) (past : List Said) → heading_by h b ≡ read.On g → nat_lt 1 left ≡ true
    → step ToServer t b (run_at base (prefix c left h o) s r past) ≡ run_at base (prefix c (left - 1) g (next o)) s r past
unfolding step due_by inside_by
prefix_more base t b left o h g c s r past is more = rw (is, more) refl

prefix_names : (base : Base) (t b left o n : ℕ) (h g : Heading) (c s : Frame) (r : Parser) (past : List Said) → heading_by h b ≡ read.Names n g → nat_lt 1 left ≡ true
    → step ToServer t b (run_at base (prefix c left h o) s r past)
    ≡ run_at base (prefix c (left - 1) g (next o)) s r (says (client_spot o t) (events.Names n) past)
unfolding step due_by inside_by further found_in
prefix_names base t b left o n h g c s r past is more = rw (is, more) refl

prefix_passed : (base : Base) (t b left o : ℕ) (h : Heading) (c s : Frame) (r : Parser) (past : List Said) → heading_by h b ≡ read.Over → nat_lt 1 left ≡ true
    → step ToServer t b (run_at base (prefix c left h o) s r past) ≡ run_at base (skipped c (left - 1) (next o)) s r past
unfolding step due_by inside_by
prefix_passed base t b left o h c s r past is more = rw (is, more) refl

prefix_last : (base : Base) (t b o : ℕ) (h : Heading) (c s : Frame) (r : Parser) (past : List Said) → heading_by h b ≡ read.Over
    → step ToServer t b (run_at base (prefix c 1 h o) s r past) ≡ over (client_spot o t) (run_at base (skipped c 1 (next o)) s r past)
unfolding step due_by inside_by
prefix_last base t b o h c s r past is = rw is refl

-- what bytes come to, one behind the other, as long as more is to come
abbrev heading_after : Headed → List ℕ → Headed
heading_after (read.On h) [] = read.On h
heading_after (read.On h) (b ∷ bytes) = heading_after (heading_by h b) bytes
heading_after (read.Names n h) bytes = read.Names n h
heading_after read.Over bytes = read.Over
heading_after (read.Wrong fault) bytes = read.Wrong fault

abbrev left_after : ℕ → List ℕ → ℕ
left_after left [] = left
left_after left (b ∷ bytes) = left_after (left - 1) bytes

-- the first of them
prefix_on : (found : Headed) (base : Base) (t b left o : ℕ) (h g : Heading) (bytes : List ℕ) (c s : Frame) (r : Parser) (past : List Said) (end : Run)
    → heading_by h b ≡ found → heading_after found bytes ≡ read.On g → nat_lt 1 left ≡ true
    → ((k : Heading) → heading_after (read.On k) bytes ≡ read.On g → steps ToServer t bytes (run_at base (prefix c (left - 1) k (next o)) s r past) ≡ end)
    → steps ToServer t (b ∷ bytes) (run_at base (prefix c left h o) s r past) ≡ end
unfolding steps
prefix_on (read.On k) base t b left o h g bytes c s r past end is so more rest = ap (steps ToServer t bytes) (prefix_more base t b left o h k c s r past is more) ∙ rest k so
prefix_on (read.Names n k) base t b left o h g bytes c s r past end is so more rest = absurd cc
prefix_on read.Over base t b left o h g bytes c s r past end is so more rest = absurd cc
prefix_on (read.Wrong fault) base t b left o h g bytes c s r past end is so more rest = absurd cc

prefix_run : (base : Base) (t left o : ℕ) (h g : Heading) (bytes : List ℕ) (c s : Frame) (r : Parser) (past : List Said)
    → heading_after (read.On h) bytes ≡ read.On g → length bytes < left
    → steps ToServer t bytes (run_at base (prefix c left h o) s r past) ≡ run_at base (prefix c (left_after left bytes) g (on o bytes)) s r past
unfolding steps
prefix_run base t left o h g [] c s r past so more = let same : h ≡ g = cc in ap (λ (x : Heading). run_at base (prefix c left x o) s r past) same
prefix_run base t left o h g (b ∷ bytes) c s r past so more =
    prefix_on (heading_by h b) base t b left o h g bytes c s r past _ refl so (lt-ltb 1 left (omega (arith, more)))
    (λ (k : Heading) (also : heading_after (read.On k) bytes ≡ read.On g). prefix_run base t (left - 1) (next o) k g bytes c s r past also (omega (arith, more)))

left_by : (left : ℕ) (bytes : List ℕ) → left_after left bytes ≡ left - length bytes
left_by left [] = omega arith
left_by left (b ∷ bytes) = left_by (left - 1) bytes ∙ (let e : left - 1 - length bytes ≡ left - length (b ∷ bytes) = omega arith in e)

-- the first seventeen bytes of ALL_HEADERS with one header, of a transaction's descriptor in these bytes and one more
abbrev pub front : ℕ → ℕ → ℕ → ℕ → ℕ → ℕ → ℕ → List ℕ
front a b c d e f g = 22 ∷ 0 ∷ 0 ∷ 0 ∷ 18 ∷ 0 ∷ 0 ∷ 0 ∷ 2 ∷ 0 ∷ a ∷ b ∷ c ∷ d ∷ e ∷ f ∷ g ∷ []

abbrev spelled7 : ℕ → ℕ → ℕ → ℕ → ℕ → ℕ → ℕ → ℕ
spelled7 a b c d e f g = spelled_with (spelled_with (spelled_with (spelled_with (spelled_with (spelled_with (spelled_with 0 a) b) c) d) e) f) g

abbrev pub descriptor : ℕ → ℕ → ℕ → ℕ → ℕ → ℕ → ℕ → ℕ → ℕ
descriptor a b c d e f g h = spelled_with (spelled7 a b c d e f g) h

-- in the descriptor, before its last byte; and behind it
abbrev amid : ℕ → Heading
amid value = record { field = fields.Descriptor; left = 1; value = value; total = 18; length = 18; named = false }

abbrev pub rest_of : ℕ → ℕ → Heading
rest_of left value = record { field = fields.Rest; left = left; value = value; total = 18; length = 18; named = true }

front_read : (a b c d e f g : ℕ) → heading_after (read.On new_heading) (front a b c d e f g) ≡ read.On (amid (spelled7 a b c d e f g))
unfolding heading_by
front_read a b c d e f g = refl

named_there : (value h : ℕ) → heading_by (amid value) h ≡ read.Names (spelled_with value h) (rest_of 4 0)
unfolding heading_by
named_there value h = refl

pub names : (base : Base) (t a b c d e f g h left o : ℕ) (rest : List ℕ) (x s : Frame) (r : Parser) (past : List Said) → 18 < left
    → steps ToServer t (22 ∷ 0 ∷ 0 ∷ 0 ∷ 18 ∷ 0 ∷ 0 ∷ 0 ∷ 2 ∷ 0 ∷ a ∷ b ∷ c ∷ d ∷ e ∷ f ∷ g ∷ h ∷ rest) (run_at base (prefix x left new_heading o) s r past)
    ≡ steps ToServer t rest (run_at base (prefix x (left - 18) (rest_of 4 0) (next (on o (front a b c d e f g)))) s r
    (says (client_spot (on o (front a b c d e f g)) t) (events.Names (descriptor a b c d e f g h)) past))
unfolding steps
names base t a b c d e f g h left o rest x s r past more =
    let place : ℕ = on o (front a b c d e f g) in
    let n : left_after left (front a b c d e f g) ≡ left - 17 = left_by left (front a b c d e f g) in
    let m : left - 17 - 1 ≡ left - 18 = omega arith in
    ap (λ (run : Run). steps ToServer t rest (step ToServer t h run))
    (prefix_run base t left o new_heading (amid (spelled7 a b c d e f g)) (front a b c d e f g) x s r past (front_read a b c d e f g) (omega (arith, more))
    ∙ ap (λ (k : ℕ). run_at base (prefix x k (amid (spelled7 a b c d e f g)) place) s r past) n)
    ∙ ap (steps ToServer t rest)
    (prefix_names base t h (left - 17) place (descriptor a b c d e f g h) (amid (spelled7 a b c d e f g)) (rest_of 4 0) x s r past
    (named_there (spelled7 a b c d e f g) h) (lt-ltb 1 (left - 17) (omega (arith, more)))
    ∙ ap (λ (k : ℕ). run_at base (prefix x k (rest_of 4 0) (next place)) s r (says (client_spot place t) (events.Names (descriptor a b c d e f g h)) past)) m)

-- the last byte of ALL_HEADERS, and what stands behind it
passes_all : (base : Base) (t b left o : ℕ) (h : Heading) (bytes : List ℕ) (c s : Frame) (r : Parser) (past : List Said) → heading_by h b ≡ read.Over → length (b ∷ bytes) ≡ left
    → steps ToServer t (b ∷ bytes) (run_at base (prefix c left h o) s r past)
    ≡ over (client_spot (last o b bytes) t) (run_at base (skipped c 1 (on o (b ∷ bytes))) s r past)
unfolding steps
passes_all base t b left o h [] c s r past ends is =
    ap (λ (n : ℕ). step ToServer t b (run_at base (prefix c n h o) s r past)) (sym is) ∙ prefix_last base t b o h c s r past ends
passes_all base t b left o h (d ∷ bytes) c s r past ends is =
    let n : length (d ∷ bytes) ≡ left - 1 = omega (arith, is) in
    ap (steps ToServer t (d ∷ bytes)) (prefix_passed base t b left o h c s r past ends (lt-ltb 1 left (omega (arith, is))))
    ∙ skips_all base t d (left - 1) (next o) bytes c s r past n

count_read : (n b value : ℕ) → nat_lt 1 n ≡ true → heading_by (rest_of n value) b ≡ read.On (rest_of (n - 1) (spelled_with value b))
unfolding heading_by
count_read n b value more = rw more refl

count_over : (b value : ℕ) → heading_by (rest_of 1 value) b ≡ read.Over
unfolding heading_by
count_over b value = refl

pub headers_end : (base : Base) (t left o : ℕ) (body : List ℕ) (c s : Frame) (r : Parser) (past : List Said) → length (1 ∷ 0 ∷ 0 ∷ 0 ∷ body) ≡ left
    → steps ToServer t (1 ∷ 0 ∷ 0 ∷ 0 ∷ body) (run_at base (prefix c left (rest_of 4 0) o) s r past)
    ≡ over (client_spot (last o 1 (0 ∷ 0 ∷ 0 ∷ body)) t) (run_at base (skipped c 1 (on o (1 ∷ 0 ∷ 0 ∷ 0 ∷ body))) s r past)
unfolding steps
headers_end base t left o body c s r past is =
    let v1 : ℕ = spelled_with 0 1 in
    let v2 : ℕ = spelled_with v1 0 in
    let v3 : ℕ = spelled_with v2 0 in
    let n : length (0 ∷ body) ≡ left - 1 - 1 - 1 = omega (arith, is) in
    ap (steps ToServer t (0 ∷ 0 ∷ 0 ∷ body)) (prefix_more base t 1 left o (rest_of 4 0) (rest_of 3 v1) c s r past (count_read 4 1 0 refl) (lt-ltb 1 left (omega (arith, is))))
    ∙ (ap (steps ToServer t (0 ∷ 0 ∷ body))
    (prefix_more base t 0 (left - 1) (next o) (rest_of 3 v1) (rest_of 2 v2) c s r past (count_read 3 0 v1 refl) (lt-ltb 1 (left - 1) (omega (arith, is))))
    ∙ (ap (steps ToServer t (0 ∷ body))
    (prefix_more base t 0 (left - 1 - 1) (next (next o)) (rest_of 2 v2) (rest_of 1 v3) c s r past (count_read 2 0 v2 refl) (lt-ltb 1 (left - 1 - 1) (omega (arith, is))))
    ∙ passes_all base t 0 (left - 1 - 1 - 1) (next (next (next o))) (rest_of 1 v3) body c s r past (count_over 0 v3) n))

pub descriptor_is : (a b c d e f g h : ℕ) → a < 256 → b < 256 → c < 256 → d < 256 → e < 256 → f < 256 → g < 256 → h < 256
    → descriptor a b c d e f g h ≡ a + b * 256 + c * 65536 + d * 16777216 + e * 4294967296 + f * 1099511627776 + g * 281474976710656 + h * 72057594037927936
descriptor_is a b c d e f g h la lb lc ld le lf lg lh =
    let v1 : 0 / 256 + a * 72057594037927936 ≡ a * 72057594037927936 = omega arith in
    let v2 : a * 72057594037927936 / 256 + b * 72057594037927936 ≡ a * 281474976710656 + b * 72057594037927936 = omega arith in
    let v3 : (a * 281474976710656 + b * 72057594037927936) / 256 + c * 72057594037927936 ≡ a * 1099511627776 + b * 281474976710656 + c * 72057594037927936 = omega arith in
    let v4 : (a * 1099511627776 + b * 281474976710656 + c * 72057594037927936) / 256 + d * 72057594037927936
    ≡ a * 4294967296 + b * 1099511627776 + c * 281474976710656 + d * 72057594037927936 = omega arith in
    let v5 : (a * 4294967296 + b * 1099511627776 + c * 281474976710656 + d * 72057594037927936) / 256 + e * 72057594037927936
    ≡ a * 16777216 + b * 4294967296 + c * 1099511627776 + d * 281474976710656 + e * 72057594037927936 = omega arith in
    let v6 : (a * 16777216 + b * 4294967296 + c * 1099511627776 + d * 281474976710656 + e * 72057594037927936) / 256 + f * 72057594037927936
    ≡ a * 65536 + b * 16777216 + c * 4294967296 + d * 1099511627776 + e * 281474976710656 + f * 72057594037927936 = omega arith in
    let v7 : (a * 65536 + b * 16777216 + c * 4294967296 + d * 1099511627776 + e * 281474976710656 + f * 72057594037927936) / 256 + g * 72057594037927936
    ≡ a * 256 + b * 65536 + c * 16777216 + d * 4294967296 + e * 1099511627776 + f * 281474976710656 + g * 72057594037927936 = omega arith in
    let v8 : (a * 256 + b * 65536 + c * 16777216 + d * 4294967296 + e * 1099511627776 + f * 281474976710656 + g * 72057594037927936) / 256 + h * 72057594037927936
    ≡ a + b * 256 + c * 65536 + d * 16777216 + e * 4294967296 + f * 1099511627776 + g * 281474976710656 + h * 72057594037927936 = omega arith in
    ap (λ (n : ℕ). ((((((n / 256 + b * 72057594037927936) / 256 + c * 72057594037927936) / 256 + d * 72057594037927936) / 256 + e * 72057594037927936) / 256 + f * 72057594037927936) / 256 + g * 72057594037927936) / 256 + h * 72057594037927936) v1
    ∙ (ap (λ (n : ℕ). (((((n / 256 + c * 72057594037927936) / 256 + d * 72057594037927936) / 256 + e * 72057594037927936) / 256 + f * 72057594037927936) / 256 + g * 72057594037927936) / 256 + h * 72057594037927936) v2
    ∙ (ap (λ (n : ℕ). ((((n / 256 + d * 72057594037927936) / 256 + e * 72057594037927936) / 256 + f * 72057594037927936) / 256 + g * 72057594037927936) / 256 + h * 72057594037927936) v3
    ∙ (ap (λ (n : ℕ). (((n / 256 + e * 72057594037927936) / 256 + f * 72057594037927936) / 256 + g * 72057594037927936) / 256 + h * 72057594037927936) v4
    ∙ (ap (λ (n : ℕ). ((n / 256 + f * 72057594037927936) / 256 + g * 72057594037927936) / 256 + h * 72057594037927936) v5
    ∙ (ap (λ (n : ℕ). (n / 256 + g * 72057594037927936) / 256 + h * 72057594037927936) v6
    ∙ (ap (λ (n : ℕ). n / 256 + h * 72057594037927936) v7 ∙ v8))))))
