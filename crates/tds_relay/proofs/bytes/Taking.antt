-- What readers take of bytes, packet by packet.
use Rattle.std.proofs.Common.{◌≡◌, ◌∙◌, ℕ, List, [], ◌∷◌, ◌++◌, Option, Some, None, refl, sym, ap, subst, append_assoc, append-nil}
use Rattle.std.specs.List.{AllByRecursion}
use Rattle.tds_packet.specs.declared.header.Header.{Header}
use Rattle.tds_packet.specs.Layout.{IsPacket}
use Rattle.tds_packet.specs.Reading.{Reading, IsWhole, after_pieces, joined, up_to_end, with_taken}
use Rattle.tds_packet.specs.Stream.{IsLess, IsOnePacket}
use Rattle.tds_relay.specs.Reads.{ReaderTakes, ReadsBy, StaysAt}

-- ---- As the packet layer says

abbrev pub WhateverFollows : Type 0
WhateverFollows =
    (r : Reading) (packet rest content : List ℕ) (header : Header) (pieces : List (List ℕ))
    → IsPacket r.direction r.size packet header content → joined pieces ≡ packet ++ rest → after_pieces r [] pieces ≡ packet

abbrev pub AnyCutting : Type 0
AnyCutting = (r : Reading) (pieces : List (List ℕ)) → after_pieces r [] pieces ≡ up_to_end r (joined pieces)

pub less : WhateverFollows → AnyCutting → (r : Reading) (bytes : List ℕ) → ¬ IsWhole (with_taken r (up_to_end r bytes)) → IsLess r (up_to_end r bytes)
less follows cutting r bytes none packet more e one =
    let front : List ℕ = up_to_end r bytes in
    let first : up_to_end r front ≡ packet = follows r packet more one.1 one.0 (front ∷ []) one.2 (append-nil front ∙ e) in
    let again : up_to_end r front ≡ front =
    ap (up_to_end r) (sym (append-nil front)) ∙ cutting r (bytes ∷ [] ∷ []) ∙ ap (up_to_end r) (append-nil bytes) in
    none (subst (λ (xs : List ℕ). IsWhole (with_taken r xs)) (sym first ∙ again) one)

pub nothing_less : (r : Reading) → IsLess r []
nothing_less r [] more e one = absurd (let s = one.2.laid_out.spelled in let u : ⊥ = cc in u)
nothing_less r (byte ∷ packet) more e one = absurd (let u : ⊥ = cc in u)

-- ---- Behind each step

pub joined_both : (xs ys : List (List ℕ)) → joined (xs ++ ys) ≡ joined xs ++ joined ys
joined_both [] ys = refl
joined_both (x ∷ xs) ys = ap (λ (zs : List ℕ). x ++ zs) (joined_both xs ys) ∙ sym (append_assoc x (joined xs) (joined ys))

each_more : (P : List ℕ → Type 0) (xs : List (List ℕ)) (x : List ℕ) → AllByRecursion P xs → P x → AllByRecursion P (xs ++ x ∷ [])
each_more P [] x all one = (one, tt)
each_more P (y ∷ xs) x all one = (all.0, each_more P xs x all.1 one)

-- bytes more, which stand behind what was there
pub more_are : (had bytes more front rest : List ℕ) → had ++ bytes ≡ front ++ rest → had ++ (bytes ++ more) ≡ front ++ (rest ++ more)
more_are had bytes more front rest e =
    sym (append_assoc had bytes more) ∙ ap (λ (xs : List ℕ). xs ++ more) e ∙ append_assoc front rest more

pub reads_nothing : (r : Reading) → IsLess r r.taken → ReaderTakes r [] [] (Some r)
reads_nothing r few = record { rest = r.taken; each = tt; are = append-nil r.taken; holds = (refl, few) }

-- they are no packet yet
pub reads_less : (r now next : Reading) (bytes more : List ℕ) (packets : List (List ℕ)) → ReaderTakes r bytes packets (Some now) → next ≡ with_taken now (now.taken ++ more) → IsLess next next.taken
    → ReaderTakes r (bytes ++ more) packets (Some next)
reads_less r now next bytes more packets s is few =
    let rest : now.taken ≡ s.rest = ap (λ (x : Reading). x.taken) s.holds.0 in
    let same : next ≡ with_taken r (s.rest ++ more) =
    is ∙ ap (λ (x : Reading). with_taken x (x.taken ++ more)) s.holds.0 in
    record {
      rest = s.rest ++ more;
      each = s.each;
      are = more_are r.taken bytes more (joined packets) s.rest s.are;
      holds = (same, subst (λ (x : Reading). IsLess x x.taken) same few);
    }

-- they end one
pub reads_packet : (r now next : Reading) (bytes more : List ℕ) (packets : List (List ℕ)) → ReaderTakes r bytes packets (Some now) → IsWhole (with_taken now (now.taken ++ more)) → next ≡ with_taken now []
    → ReaderTakes r (bytes ++ more) (packets ++ (now.taken ++ more) ∷ []) (Some next)
reads_packet r now next bytes more packets s whole is =
    let packet : List ℕ = now.taken ++ more in
    let rest : s.rest ≡ now.taken = sym (ap (λ (x : Reading). x.taken) s.holds.0) in
    let one : IsOnePacket r packet = subst (λ (x : Reading). IsWhole (with_taken x packet)) s.holds.0 whole in
    record {
      rest = [];
      each = each_more (IsOnePacket r) packets packet s.each one;
      are =
          more_are r.taken bytes more (joined packets) s.rest s.are
          ∙ ap (λ (xs : List ℕ). joined packets ++ (xs ++ more)) rest
          ∙ ap (λ (xs : List ℕ). joined packets ++ xs) (sym (append-nil packet))
          ∙ sym (joined_both packets (packet ∷ []))
          ∙ sym (append-nil (joined (packets ++ packet ∷ [])));
      holds = (is ∙ ap (λ (x : Reading). with_taken x []) s.holds.0, nothing_less r);
    }

-- its connection is there no more, and more isn't heard
pub reads_gone : (had : Option Reading) (bytes more : List ℕ) (packets : List (List ℕ)) → ReadsBy had bytes packets None → ReadsBy had (bytes ++ more) packets None
reads_gone None bytes more packets s = s
reads_gone (Some r) bytes more packets s = λ few.
    let t = s few in
    record { rest = t.rest ++ more; each = t.each; are = more_are r.taken bytes more (joined packets) t.rest t.are; holds = tt }

-- the same is there, or nothing
stays_read : (r : Reading) (bytes : List ℕ) (packets : List (List ℕ)) (now next : Option Reading) → StaysAt now next → ReaderTakes r bytes packets now → ReaderTakes r bytes packets next
stays_read r bytes packets now None stays s = record { rest = s.rest; each = s.each; are = s.are; holds = tt }
stays_read r bytes packets now (Some x) stays s = subst (λ (o : Option Reading). ReaderTakes r bytes packets o) stays s

none_stays : (now next : Option Reading) → now ≡ None → StaysAt now next → next ≡ None
none_stays now None none stays = refl
none_stays now (Some x) none stays = absurd (let u : ⊥ = cc in u)

pub reads_stays : (had : Option Reading) (bytes : List ℕ) (packets : List (List ℕ)) (now next : Option Reading) → StaysAt now next → ReadsBy had bytes packets now → ReadsBy had bytes packets next
reads_stays None bytes packets now next stays s = (s.0, none_stays now next s.1 stays)
reads_stays (Some r) bytes packets now next stays s = λ few. stays_read r bytes packets now next stays (s few)
