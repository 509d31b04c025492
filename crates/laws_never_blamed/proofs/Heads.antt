-- What the eight bytes of a packet's header do to a judge, and the end of a packet.
use Rattle.std.proofs.Common.{◌≡◌, ◌∙◌, ◌+◌, ◌*◌, ◌/◌, ◌%◌, ◌<◌, ◌==◌, ◌&&◌, not, nat_lt, Bool, true, false, ℕ, List, ◌∷◌, Some, refl, ap, arith}
use Rattle.std.specs.Prelude.{min}
use Rattle.tds_judge.specs.declared.finding.Direction.{Direction}
use Rattle.tds_judge.specs.declared.finding.Direction.TheVariants.{ToServer, ToClient}
use Rattle.tds_judge.specs.declared.finding.Finding.{Finding}
use Rattle.tds_judge.specs.declared.finding.Spot.{Spot}
use Rattle.tds_judge.specs.declared.frame.Due.TheVariants as due
use Rattle.tds_judge.specs.declared.frame.Frame.{Frame}
use Rattle.tds_judge.specs.declared.frame.Head.{Head}
use Rattle.tds_judge.specs.declared.frame.Inside.TheVariants as inside
use Rattle.tds_judge.specs.declared.frame.Part.{Part}
use Rattle.tds_judge.specs.declared.frame.Part.TheVariants as parts
use Rattle.tds_judge.specs.declared.talk.Event.{Event}
use Rattle.tds_judge.specs.declared.talk.Event.TheVariants as events
use Rattle.tds_judge.specs.declared.talk.Limits.{Limits}
use Rattle.tds_judge.specs.declared.talk.Talk.{Talk}
use Rattle.tds_wire.specs.Reading.{Parser, restarted}
use Rattle.tds_judge.specs.Framing.{Run, begins, due_by, frame_of, goes_on, headed, headed_by, opened, step, steps, taken_up}
use Rattle.tds_judge.specs.PacketHeads.{event_of, head_of, inside_of, is_plausible, is_to_fill, shifted}
use Rattle.tds_judge.specs.History.{Said, found_in, further}

-- ---- A judge that goes on from a talk, behind what was said since

pub record Base : Type 0 where
  pub limits : Limits
  pub talk : Talk
  pub told : List Finding

abbrev pub run_at : Base → Frame → Frame → Parser → List Said → Run
run_at base c s r past = record {
  judge = record { limits = base.limits; client = c; server = s; talk = further past base.talk; parser = Some r };
  told = found_in base.limits past base.talk base.told;
}

abbrev pub says : Spot → Event → List Said → List Said
says spot event past = (record { spot = spot; event = event }) ∷ past

-- ---- Eight bytes

abbrev pub next : ℕ → ℕ
next o = min 18446744073709551615 (o + 1)

abbrev pub seven : ℕ → ℕ
seven o = next (next (next (next (next (next (next o))))))

abbrev pub spelled7 : ℕ → ℕ → ℕ → ℕ → ℕ → ℕ → ℕ → ℕ
spelled7 a b c d e f g = shifted (shifted (shifted (shifted (shifted (shifted (shifted 0 a) b) c) d) e) f) g

abbrev pub head_spot : Direction → ℕ → ℕ → Spot
head_spot direction o t = record { direction = direction; offset = seven o; time = t }

pub client_head : (base : Base) (t a b c d e f g h : ℕ) (rest : List ℕ) (x s : Frame) (r : Parser) (past : List Said)
    → steps ToServer t (a ∷ b ∷ c ∷ d ∷ e ∷ f ∷ g ∷ h ∷ rest) (run_at base (record x { due = due.Head 0 0 }) s r past)
    ≡ steps ToServer t rest (headed (head_spot ToServer x.offset t) (shifted (spelled7 a b c d e f g) h)
    (run_at base (record x { due = due.Head 7 (spelled7 a b c d e f g); offset = next (seven x.offset) }) s r past))
unfolding steps step due_by
client_head base t a b c d e f g h rest x s r past = refl

pub server_head : (base : Base) (t a b c d e f g h : ℕ) (rest : List ℕ) (x s : Frame) (r : Parser) (past : List Said)
    → steps ToClient t (a ∷ b ∷ c ∷ d ∷ e ∷ f ∷ g ∷ h ∷ rest) (run_at base x (record s { due = due.Head 0 0 }) r past)
    ≡ steps ToClient t rest (headed (head_spot ToClient s.offset t) (shifted (spelled7 a b c d e f g) h)
    (run_at base x (record s { due = due.Head 7 (spelled7 a b c d e f g); offset = next (seven s.offset) }) r past))
unfolding steps step due_by
server_head base t a b c d e f g h rest x s r past = refl

-- ---- What they spell

head_is : (k k' s s' z z' i i' : ℕ) → k ≡ k' → s ≡ s' → z ≡ z' → i ≡ i'
    → ◌≡◌ {A = Head} (record { kind = k; status = s; size = z; id = i }) (record { kind = k'; status = s'; size = z'; id = i' })
head_is k k' s s' z z' i i' p q u v = cc

closed : (a b c d e f g h : ℕ) → a < 256 → b < 256 → c < 256 → d < 256 → e < 256 → f < 256 → g < 256 → h < 256
    → shifted (spelled7 a b c d e f g) h
    ≡ a * 72057594037927936 + b * 281474976710656 + c * 1099511627776 + d * 4294967296 + e * 16777216 + f * 65536 + g * 256 + h
closed a b c d e f g h la lb lc ld le lf lg lh =
    let v1 : shifted 0 a ≡ a = omega arith in
    let v2 : shifted a b ≡ a * 256 + b = omega arith in
    let v3 : shifted (a * 256 + b) c ≡ a * 65536 + b * 256 + c = omega arith in
    let v4 : shifted (a * 65536 + b * 256 + c) d ≡ a * 16777216 + b * 65536 + c * 256 + d = omega arith in
    let v5 : shifted (a * 16777216 + b * 65536 + c * 256 + d) e ≡ a * 4294967296 + b * 16777216 + c * 65536 + d * 256 + e = omega arith in
    let v6 : shifted (a * 4294967296 + b * 16777216 + c * 65536 + d * 256 + e) f
    ≡ a * 1099511627776 + b * 4294967296 + c * 16777216 + d * 65536 + e * 256 + f = omega arith in
    let v7 : shifted (a * 1099511627776 + b * 4294967296 + c * 16777216 + d * 65536 + e * 256 + f) g
    ≡ a * 281474976710656 + b * 1099511627776 + c * 4294967296 + d * 16777216 + e * 65536 + f * 256 + g = omega arith in
    let v8 : shifted (a * 281474976710656 + b * 1099511627776 + c * 4294967296 + d * 16777216 + e * 65536 + f * 256 + g) h
    ≡ a * 72057594037927936 + b * 281474976710656 + c * 1099511627776 + d * 4294967296 + e * 16777216 + f * 65536 + g * 256 + h = omega arith in
    ap (λ (n : ℕ). shifted (shifted (shifted (shifted (shifted (shifted (shifted n b) c) d) e) f) g) h) v1
    ∙ (ap (λ (n : ℕ). shifted (shifted (shifted (shifted (shifted (shifted n c) d) e) f) g) h) v2
    ∙ (ap (λ (n : ℕ). shifted (shifted (shifted (shifted (shifted n d) e) f) g) h) v3
    ∙ (ap (λ (n : ℕ). shifted (shifted (shifted (shifted n e) f) g) h) v4
    ∙ (ap (λ (n : ℕ). shifted (shifted (shifted n f) g) h) v5
    ∙ (ap (λ (n : ℕ). shifted (shifted n g) h) v6
    ∙ (ap (λ (n : ℕ). shifted n h) v7 ∙ v8))))))

fields : (n a b c d e f g h : ℕ) → a < 256 → b < 256 → c < 256 → d < 256 → e < 256 → f < 256 → g < 256 → h < 256
    → n ≡ a * 72057594037927936 + b * 281474976710656 + c * 1099511627776 + d * 4294967296 + e * 16777216 + f * 65536 + g * 256 + h
    → head_of n ≡ record { kind = a; status = b; size = c * 256 + d; id = g }
fields n a b c d e f g h la lb lc ld le lf lg lh is =
    let k : n / 72057594037927936 % 256 ≡ a = omega arith in
    let s : n / 281474976710656 % 256 ≡ b = omega arith in
    let z : n / 4294967296 % 65536 ≡ c * 256 + d = omega arith in
    let i : n / 256 % 256 ≡ g = omega arith in
    head_is _ _ _ _ _ _ _ _ k s z i

pub spelled_head : (a b c d e f g h : ℕ) → a < 256 → b < 256 → c < 256 → d < 256 → e < 256 → f < 256 → g < 256 → h < 256
    → head_of (shifted (spelled7 a b c d e f g) h) ≡ record { kind = a; status = b; size = c * 256 + d; id = g }
spelled_head a b c d e f g h la lb lc ld le lf lg lh =
    fields (shifted (spelled7 a b c d e f g) h) a b c d e f g h la lb lc ld le lf lg lh (closed a b c d e f g h la lb lc ld le lf lg lh)

-- ---- Behind a header

pub between_begins : (spot : Spot) (value : ℕ) (head : Head) (run : Run) → head_of value ≡ head → is_plausible spot.direction head ≡ true
    → (frame_of spot.direction run).part ≡ parts.Between → headed spot value run ≡ begins spot head run
between_begins spot value head run e plain part =
    ap (λ (p : Part). headed_by p (is_plausible spot.direction (head_of value)) spot value run) part
    ∙ (ap (λ (b : Bool). headed_by parts.Between b spot value run) (ap (λ (h : Head). is_plausible spot.direction h) e ∙ plain)
    ∙ ap (λ (h : Head). begins spot h run) e)

first_by : (spot : Spot) (head : Head) (run : Run) → ((spot.offset == 7) && nat_lt head.id 2) ≡ true → taken_up spot head run ≡ begins spot head run
unfolding taken_up
first_by spot head run so = rw so refl

pub first_begins : (spot : Spot) (value : ℕ) (head : Head) (run : Run) → head_of value ≡ head → is_plausible spot.direction head ≡ true
    → (frame_of spot.direction run).part ≡ parts.Lost → ((spot.offset == 7) && nat_lt head.id 2) ≡ true → headed spot value run ≡ begins spot head run
first_begins spot value head run e plain part so =
    ap (λ (p : Part). headed_by p (is_plausible spot.direction (head_of value)) spot value run) part
    ∙ (ap (λ (b : Bool). headed_by parts.Lost b spot value run) (ap (λ (h : Head). is_plausible spot.direction h) e ∙ plain)
    ∙ (ap (λ (h : Head). taken_up spot h run) e ∙ first_by spot head run so))

pub within_goes_on : (spot : Spot) (value : ℕ) (head : Head) (run : Run) → head_of value ≡ head → is_plausible spot.direction head ≡ true
    → (frame_of spot.direction run).part ≡ parts.Within → headed spot value run ≡ goes_on spot (frame_of spot.direction run) head run
within_goes_on spot value head run e plain part =
    ap (λ (p : Part). headed_by p (is_plausible spot.direction (head_of value)) spot value run) part
    ∙ (ap (λ (b : Bool). headed_by parts.Within b spot value run) (ap (λ (h : Head). is_plausible spot.direction h) e ∙ plain)
    ∙ ap (λ (h : Head). goes_on spot (frame_of spot.direction run) h run) e)

-- ---- A message of the client begins, and goes on

abbrev pub client_spot : ℕ → ℕ → Spot
client_spot offset time = record { direction = ToServer; offset = offset; time = time }

abbrev pub server_spot : ℕ → ℕ → Spot
server_spot offset time = record { direction = ToClient; offset = offset; time = time }

pub client_begins : (base : Base) (c s : Frame) (r : Parser) (past : List Said) (o t : ℕ) (head : Head) (event : Event) → event_of head ≡ event
    → begins (client_spot o t) head (run_at base c s r past)
    ≡ opened (client_spot o t) parts.Within (inside_of head.kind) head (run_at base c s r (says (client_spot o t) event (says (client_spot o t) (events.Packet head.size (is_to_fill ToServer head)) past)))
unfolding begins further found_in
client_begins base c s r past o t head event e =
    ap (λ (x : Event). opened (client_spot o t) parts.Within (inside_of head.kind) head (run_at base c s r (says (client_spot o t) x (says (client_spot o t) (events.Packet head.size (is_to_fill ToServer head)) past)))) e

pub client_goes_on : (base : Base) (c s : Frame) (r : Parser) (past : List Said) (o t : ℕ) (head : Head) → ((head.kind == c.kind) && not (head.kind == 6)) ≡ true
    → goes_on (client_spot o t) c head (run_at base c s r past)
    ≡ opened (client_spot o t) parts.Within c.inside head (run_at base c s r (says (client_spot o t) (events.Later head.status) (says (client_spot o t) (events.Packet head.size (is_to_fill ToServer head)) past)))
unfolding goes_on further found_in
client_goes_on base c s r past o t head e = rw e refl

-- ---- A message of the server begins, and goes on

pub server_begins : (base : Base) (c s : Frame) (r : Parser) (past : List Said) (o t : ℕ) (head : Head) → (head.kind == 18) ≡ false → (c.kind == 18) ≡ false
    → begins (server_spot o t) head (run_at base c s r past)
    ≡ opened (server_spot o t) parts.Within inside.Walked head (run_at base c s (restarted r) (says (server_spot o t) events.Answer (says (server_spot o t) (events.Packet head.size false) past)))
unfolding begins further found_in
server_begins base c s r past o t head e f = rw (e, f) refl

pub server_goes_on : (base : Base) (c s : Frame) (r : Parser) (past : List Said) (o t : ℕ) (head : Head) → ((head.kind == s.kind) && not (head.kind == 6)) ≡ true
    → goes_on (server_spot o t) s head (run_at base c s r past)
    ≡ opened (server_spot o t) parts.Within s.inside head (run_at base c s r (says (server_spot o t) (events.Packet head.size false) past))
unfolding goes_on further found_in
server_goes_on base c s r past o t head e = rw e refl
