-- The lines of packets, one after another.
use Rattle.std.proofs.Common.{◌≡◌, ◌≢◌, refl, sym, ◌∙◌, ap, arith, ℕ, zero, suc, ◌-◌, ◌<◌, Bool, true, false, List, [], ◌++◌, drop, append_assoc}
use Rattle.tds_show.specs.declared.tokens.front.Front.{Front}
use Rattle.tds_show.specs.declared.tokens.front.Front.TheVariants.{Nothing, Cut, Refused, Packet}
use Rattle.tds_show.specs.declared.tokens.message.Ending.{Ending}
use Rattle.tds_show.specs.Answers.{Shown, shown_after, by_front, closed, shown_from, shown_message, then_shown}
use Rattle.tds_show.specs.Messages.{Lines, after, lines_of}
use Rattle.tds_show.specs.Packets.{content, front}

shown_after_both : (text line : List ℕ) (s : Shown) → shown_after text (shown_after line s) ≡ shown_after (text ++ line) s
shown_after_both text line s = ap (λ (t : List ℕ). record { text = t; is_well = s.is_well }) (sym (append_assoc text line s.text))

-- a message's tokens, and what is said after them
pub message_shown : (old text : List ℕ) (e : Ending) (bytes : List ℕ) (stop : Front) (s : Shown) → record { text = text; ending = e } ≡ after old (lines_of bytes)
    → s ≡ shown_after text (closed e stop) → s ≡ shown_after old (shown_message bytes stop)
unfolding shown_message
message_shown old text e bytes stop s h k =
    let t : text ≡ old ++ (lines_of bytes).text = ap (λ (l : Lines). l.text) h in
    let f : e ≡ (lines_of bytes).ending = ap (λ (l : Lines). l.ending) h in
    k
    ∙ (ap (λ (u : List ℕ). shown_after u (closed e stop)) t
    ∙ (ap (λ (x : Ending). shown_after (old ++ (lines_of bytes).text) (closed x stop)) f
    ∙ sym (shown_after_both old (lines_of bytes).text (closed (lines_of bytes).ending stop))))

-- ---- Turns of the loop

turned : (most : ℕ) (message bytes : List ℕ) (stop : Front) → 0 < most → stop ≡ front bytes
    → shown_from most message bytes ≡ by_front (shown_from (most - 1)) message bytes stop
unfolding shown_from
turned zero message bytes stop m e = absurd (omega (arith, m))
turned (suc most) message bytes stop m e =
    let n : suc most - 1 ≡ most = omega arith in
    rw n (ap (by_front (shown_from most) message bytes) (sym e))

by_stop : (more : List ℕ → List ℕ → Shown) (message bytes : List ℕ) (stop : Front) → ((n : ℕ) (ends : Bool) → stop ≢ Packet n ends)
    → by_front more message bytes stop ≡ shown_message message stop
by_stop more message bytes Nothing other = refl
by_stop more message bytes Cut other = refl
by_stop more message bytes (Refused fault) other = refl
by_stop more message bytes (Packet n ends) other = absurd (other n ends refl)

-- no packet is at the front
pub stops : (total s : Shown) (text : List ℕ) (most : ℕ) (message bytes shown : List ℕ) (stop : Front) → 0 < most → stop ≡ front bytes
    → ((n : ℕ) (ends : Bool) → stop ≢ Packet n ends) → shown ≡ message
    → total ≡ shown_after text (shown_from most message bytes) → s ≡ shown_after text (shown_message shown stop) → s ≡ total
stops total s text most message bytes shown stop m e other d h k =
    k
    ∙ (ap (λ (x : List ℕ). shown_after text (shown_message x stop)) d
    ∙ sym (h ∙ ap (shown_after text) (turned most message bytes stop m e ∙ by_stop (shown_from (most - 1)) message bytes stop other)))

pub no_more : (total s : Shown) (text : List ℕ) (most : ℕ) (message bytes shown : List ℕ) → most ≡ 0 → shown ≡ message
    → total ≡ shown_after text (shown_from most message bytes) → s ≡ shown_after text (shown_message shown Nothing) → s ≡ total
unfolding shown_from
no_more total s text zero message bytes shown e d h k = k ∙ (ap (λ (x : List ℕ). shown_after text (shown_message x Nothing)) d ∙ sym h)
no_more total s text (suc most) message bytes shown e d h k = absurd (omega (arith, e))

-- a packet that doesn't end its message
pub goes_on : (total : Shown) (text : List ℕ) (most : ℕ) (message bytes more : List ℕ) (n : ℕ) (ends : Bool) → 0 < most → Packet n ends ≡ front bytes → ends ≡ false
    → more ≡ message ++ content n bytes → total ≡ shown_after text (shown_from most message bytes) → total ≡ shown_after text (shown_from (most - 1) more (drop n bytes))
goes_on total text most message bytes more n ends m e f d h =
    h
    ∙ ap (shown_after text) (turned most message bytes (Packet n ends) m e
    ∙ (ap (λ (b : Bool). by_front (shown_from (most - 1)) message bytes (Packet n b)) f ∙ ap (λ (x : List ℕ). shown_from (most - 1) x (drop n bytes)) (sym d)))

-- one that does
ends_message : (total : Shown) (text : List ℕ) (most : ℕ) (message bytes whole : List ℕ) (n : ℕ) (ends : Bool) → 0 < most → Packet n ends ≡ front bytes → ends ≡ true
    → whole ≡ message ++ content n bytes → total ≡ shown_after text (shown_from most message bytes)
    → total ≡ shown_after text (then_shown (shown_message whole (Packet n ends)) (shown_from (most - 1) [] (drop n bytes)))
ends_message total text most message bytes whole n ends m e f d h =
    h
    ∙ ap (shown_after text) (turned most message bytes (Packet n ends) m e
    ∙ (ap (λ (b : Bool). by_front (shown_from (most - 1)) message bytes (Packet n b)) f
    ∙ (ap (λ (b : Bool). then_shown (shown_message (message ++ content n bytes) (Packet n b)) (shown_from (most - 1) [] (drop n bytes))) (sym f)
    ∙ ap (λ (x : List ℕ). then_shown (shown_message x (Packet n ends)) (shown_from (most - 1) [] (drop n bytes))) (sym d))))

-- with a fault, which ends the text
ends_text : (b : Bool) (text t : List ℕ) (second : Shown) → b ≡ false
    → shown_after text (then_shown (record { text = t; is_well = b }) second) ≡ shown_after text (record { text = t; is_well = b })
ends_text true text t second h = cc
ends_text false text t second h = refl

pub faulted : (total s : Shown) (text : List ℕ) (most : ℕ) (message bytes whole : List ℕ) (n : ℕ) (ends : Bool) → 0 < most → Packet n ends ≡ front bytes → ends ≡ true
    → whole ≡ message ++ content n bytes → total ≡ shown_after text (shown_from most message bytes) → s ≡ shown_after text (shown_message whole (Packet n ends)) → s.is_well ≡ false → s ≡ total
faulted total s text most message bytes whole n ends m e f d h k w =
    let first = shown_message whole (Packet n ends) in
    let v : first.is_well ≡ false = sym (ap (λ (x : Shown). x.is_well) k) ∙ w in
    k ∙ sym (ends_message total text most message bytes whole n ends m e f d h ∙ ends_text first.is_well text first.text _ v)

-- or without one
begins_next : (b : Bool) (text t : List ℕ) (second : Shown) → b ≡ true
    → shown_after text (then_shown (record { text = t; is_well = b }) second) ≡ shown_after (text ++ t) second
begins_next true text t second h = shown_after_both text t second
begins_next false text t second h = cc

pub next_message : (total s : Shown) (text : List ℕ) (most : ℕ) (message bytes whole none : List ℕ) (n : ℕ) (ends : Bool) → 0 < most → Packet n ends ≡ front bytes → ends ≡ true
    → whole ≡ message ++ content n bytes → none ≡ [] → total ≡ shown_after text (shown_from most message bytes) → s ≡ shown_after text (shown_message whole (Packet n ends)) → s.is_well ≡ true
    → total ≡ shown_after s.text (shown_from (most - 1) none (drop n bytes))
next_message total s text most message bytes whole none n ends m e f d z h k w =
    let first = shown_message whole (Packet n ends) in
    let v : first.is_well ≡ true = sym (ap (λ (x : Shown). x.is_well) k) ∙ w in
    ends_message total text most message bytes whole n ends m e f d h
    ∙ (begins_next first.is_well text first.text _ v
    ∙ (ap (λ (t : List ℕ). shown_after t (shown_from (most - 1) [] (drop n bytes))) (sym (ap (λ (x : Shown). x.text) k))
    ∙ ap (λ (x : List ℕ). shown_after s.text (shown_from (most - 1) x (drop n bytes))) (sym z)))
