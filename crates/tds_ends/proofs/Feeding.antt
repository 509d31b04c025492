-- Packets that an end takes one after the other, and what is left of the bytes.
use Rattle.std.proofs.Common.{◌≡◌, ◌∙◌, ◌+◌, ◌-◌, ◌<◌, ◌≤◌, inl, inr, ℕ, List, [], ◌∷◌, ◌++◌, length, take, drop, sym, ap, refl, Some, None, append_assoc, append-nil, arith, length-drop, subst}
use Rattle.std.proofs.lemmas.Grind.{flat_map-append}
use Rattle.std.proofs.lemmas.List.{take_all, take-append-drop, drop-drop, drop_all}
use Rattle.std.proofs.lemmas.Bool.{cases_lt}
use Rattle.std.specs.List.{AllByRecursion}
use Rattle.tds_packet.specs.declared.fault.PacketFault.{PacketFault}
use Rattle.tds_packet.specs.declared.header.Header.{Header}
use Rattle.tds_packet.specs.Layout.{IsPacket}
use Rattle.tds_packet.specs.Reading.{Reading, with_taken, fault_of, end_of, up_to_end, IsWhole}
use Rattle.tds_packet.specs.Stream.{IsLess}
use Rattle.tds_ends.specs.Ends.{Drained, Faulty, Held, Feeds}
use Rattle.tds_ends.specs.Feeding.{Coming, IsComing, bytes_of}

-- ---- Slices

-- What a slice from n on is.
pub slice_rest : (n : ℕ) (xs : List ℕ) → take (length xs - n) (drop n xs) ≡ drop n xs
slice_rest n xs = take_all (length xs - n) (drop n xs) (omega (arith, length-drop n xs))

-- What was offered is what was taken, and the rest.
pub offered : (n : ℕ) (old rest taken : List ℕ) → taken ≡ old ++ take n rest → old ++ rest ≡ taken ++ drop n rest
offered n old rest taken e =
    ap (λ (xs : List ℕ). old ++ xs) (sym (take-append-drop n rest)) ∙ sym (append_assoc old (take n rest) (drop n rest))
    ∙ ap (λ (xs : List ℕ). xs ++ drop n rest) (sym e)

pub dropped_on : (a b : ℕ) (xs : List ℕ) → drop b (drop a xs) ≡ drop (a + b) xs
dropped_on a b xs = drop-drop b a xs

pub nothing_left : (xs : List ℕ) → drop (length xs) xs ≡ []
nothing_left xs = drop_all (length xs) xs (omega arith)

-- ---- So far

-- So far the bytes were these packets, and the reader and the rest of the piece have what is behind them.
pub record SoFar (r now : Reading) (piece : List ℕ) (count : ℕ) (packets : List Coming) : Type 0 where
  pub each : AllByRecursion (IsComing r) packets
  pub joined : r.taken ++ piece ≡ bytes_of packets ++ (now.taken ++ drop count piece)
  pub same : (taken : List ℕ) → with_taken now taken ≡ with_taken r taken

pub begins : (r : Reading) (piece : List ℕ) → SoFar r r piece 0 []
begins r piece = record { each = tt; joined = refl; same = λ taken. refl }

-- The reader took more.
pub fed_on : (r now new : Reading) (piece : List ℕ) (count n : ℕ) (packets : List Coming) → SoFar r now piece count packets → new.taken ≡ now.taken ++ take n (drop count piece) → new ≡ with_taken now new.taken → SoFar r new piece (count + n) packets
fed_on r now new piece count n packets s took is = record {
  each = s.each;
  joined =
      s.joined
      ∙ ap (λ (xs : List ℕ). bytes_of packets ++ xs) (offered n now.taken (drop count piece) new.taken took
      ∙ ap (λ (xs : List ℕ). new.taken ++ xs) (dropped_on count n piece));
  same = λ taken. ap (λ x. with_taken x taken) is ∙ s.same taken;
}

-- The reader was fed a slice.
pub fed_at : (r now new : Reading) (piece slice : List ℕ) (count n : ℕ) (packets : List Coming) → SoFar r now piece count packets → slice ≡ drop count piece → new ≡ with_taken now (up_to_end now (now.taken ++ slice)) → new.taken ≡ now.taken ++ take n slice → SoFar r new piece (count + n) packets
fed_at r now new piece slice count n packets s rest is took =
    fed_on r now new piece count n packets s (took ∙ ap (λ (xs : List ℕ). now.taken ++ take n xs) rest)
    (is ∙ ap (with_taken now) (sym (ap (λ x. x.taken) is)))

pub all_and : (P : Coming → Type 0) (ps : List Coming) (p : Coming) → AllByRecursion P ps → P p → AllByRecursion P (ps ++ p ∷ [])
all_and P [] p all one = (one, tt)
all_and P (q ∷ ps) p all one = (all.0, all_and P ps p all.1 one)

-- The packet that it held is done.
pub done_on : (r now gone : Reading) (piece content : List ℕ) (header : Header) (count : ℕ) (packets : List Coming) → SoFar r now piece count packets → IsPacket now.direction now.size now.taken header content → gone ≡ with_taken now [] → SoFar r gone piece count (packets ++ record { bytes = now.taken; header = header; content = content } ∷ [])
done_on r now gone piece content header count packets s is done =
    let p : Coming = record { bytes = now.taken; header = header; content = content } in
    let coming : IsComing r p =
    subst (λ (x : Reading). IsPacket x.direction x.size now.taken header content) (s.same now.taken) is in
    record {
      each = all_and (IsComing r) packets p s.each coming;
      joined =
          s.joined ∙ sym (append_assoc (bytes_of packets) now.taken (drop count piece))
          ∙ ap (λ (xs : List ℕ). xs ++ drop count piece)
          (ap (λ (xs : List ℕ). bytes_of packets ++ xs) (sym (append-nil now.taken))
          ∙ sym (flat_map-append (λ (q : Coming). q.bytes) packets (p ∷ [])))
          ∙ ap (λ (xs : List ℕ). bytes_of (packets ++ p ∷ []) ++ (xs ++ drop count piece)) (sym (ap (λ x. x.taken) done));
      same = λ taken. ap (λ x. with_taken x taken) done ∙ s.same taken;
    }

-- ---- Where it stops

abbrev pub FindsLess : Type 0
FindsLess = (r : Reading) (bytes : List ℕ) → up_to_end r bytes ≡ bytes → ¬ IsWhole (with_taken r bytes) → IsLess r bytes

abbrev pub FindsFaulty : Type 0
FindsFaulty =
    (r : Reading) (bytes : List ℕ) (fault : PacketFault) → fault_of r (up_to_end r bytes) ≡ Some fault
    → IsLess r bytes × (fault_of r bytes ≡ Some fault)

fault_same : (r : Reading) (taken bytes : List ℕ) → fault_of (with_taken r taken) bytes ≡ fault_of r bytes
unfolding fault_of
fault_same r taken bytes = refl

end_same : (r : Reading) (taken bytes : List ℕ) → up_to_end (with_taken r taken) bytes ≡ up_to_end r bytes
unfolding end_of
end_same r taken bytes = refl

-- A whole packet is not taken.
pub held : (r now : Reading) (piece : List ℕ) (count : ℕ) (packets : List Coming) → SoFar r now piece count packets → IsWhole now → Feeds r now piece count Held packets (now.taken ++ drop count piece)
held r now piece count packets s whole =
    record { each = s.each; joined = s.joined; same = s.same now.taken; is_left = (whole, refl) }

-- It was fed a slice, and holds a packet then.
pub held_at : (r now new : Reading) (piece slice : List ℕ) (count n : ℕ) (packets : List Coming) → SoFar r now piece count packets → slice ≡ drop count piece → new ≡ with_taken now (up_to_end now (now.taken ++ slice)) → new.taken ≡ now.taken ++ take n slice → IsWhole new → Feeds r new piece (count + n) Held packets (new.taken ++ drop (count + n) piece)
held_at r now new piece slice count n packets s rest is took whole =
    held r new piece (count + n) packets (fed_at r now new piece slice count n packets s rest is took) whole

-- What the reader takes doesn't depend on what it has taken.
taken_same : (r now : Reading) (piece : List ℕ) (count : ℕ) (packets : List Coming) (bytes : List ℕ) → SoFar r now piece count packets → up_to_end now bytes ≡ up_to_end r bytes
taken_same r now piece count packets bytes s =
    ap (λ x. up_to_end x bytes) (s.same now.taken) ∙ end_same r now.taken bytes

is_with : (r now new : Reading) (taken : List ℕ) → ((bytes : List ℕ) → with_taken now bytes ≡ with_taken r bytes) → new ≡ with_taken now taken → new ≡ with_taken r new.taken
is_with r now new taken same e =
    e ∙ same taken ∙ ap (with_taken r) (sym (ap (λ x. x.taken) e))

-- A header has a fault.
pub faulty_at : FindsFaulty → (r now new : Reading) (piece slice : List ℕ) (count : ℕ) (packets : List Coming) (fault : PacketFault) → SoFar r now piece count packets → slice ≡ drop count piece → new ≡ with_taken now (up_to_end now (now.taken ++ slice)) → fault_of new new.taken ≡ Some fault → Feeds r new piece (length piece) (Faulty fault) packets (now.taken ++ drop count piece)
faulty_at finds r now new piece slice count packets fault s rest is found =
    let bytes : List ℕ = now.taken ++ drop count piece in
    let taken : new.taken ≡ up_to_end r bytes =
    ap (λ x. x.taken) is ∙ ap (λ (xs : List ℕ). up_to_end now (now.taken ++ xs)) rest
    ∙ taken_same r now piece count packets bytes s in
    let as_r : new ≡ with_taken r new.taken = is_with r now new _ s.same is in
    let there : fault_of r (up_to_end r bytes) ≡ Some fault =
    sym (ap (fault_of r) taken) ∙ sym (fault_same r new.taken new.taken)
    ∙ sym (ap (λ x. fault_of x new.taken) as_r) ∙ found in
    let said = finds r bytes fault there in
    record { each = s.each; joined = s.joined; same = as_r; is_left = (said.0, said.1, taken, refl) }

-- All was taken, and no packet is whole.
pub drained_at : FindsLess → (r now new : Reading) (piece slice : List ℕ) (count n : ℕ) (packets : List Coming) → SoFar r now piece count packets → slice ≡ drop count piece → count ≤ length piece → n ≤ length slice → new ≡ with_taken now (up_to_end now (now.taken ++ slice)) → new.taken ≡ now.taken ++ take n slice → (n < length slice → IsWhole new) → ¬ IsWhole new → fault_of new new.taken ≡ None → Feeds r new piece (count + n) Drained packets new.taken
drained_at finds r now new piece slice count n packets s rest within few is took more not none =
    let long : length (drop count piece) ≡ length piece - count = length-drop count piece in
    let sliced : length slice ≡ length (drop count piece) = ap length rest in
    let every : n ≡ length slice = elim (cases_lt n (length slice)) [
      | inl less ↦ absurd (not (more less))
      | inr all ↦ omega (arith, all, few)
    ] in
    let all : count + n ≡ length piece = omega (arith, every, long, sliced, within) in
    let whole : new.taken ≡ now.taken ++ slice = took ∙ ap (λ (xs : List ℕ). now.taken ++ xs) (take_all n slice (omega (arith, every))) in
    let on = fed_on r now new piece count n packets s (took ∙ ap (λ (xs : List ℕ). now.taken ++ take n xs) rest) (is ∙ ap (with_taken now) (sym (ap (λ x. x.taken) is))) in
    let as_r : new ≡ with_taken r new.taken = is_with r now new _ s.same is in
    let stays : up_to_end r new.taken ≡ new.taken =
    ap (up_to_end r) whole ∙ sym (taken_same r now piece count packets (now.taken ++ slice) s)
    ∙ sym (ap (λ x. x.taken) is) in
    let nothing : drop (count + n) piece ≡ [] = drop_all (count + n) piece (omega (arith, all)) in
    record {
      each = s.each;
      joined =
          on.joined
          ∙ ap (λ (xs : List ℕ). bytes_of packets ++ (new.taken ++ xs)) nothing
          ∙ ap (λ (xs : List ℕ). bytes_of packets ++ xs) (append-nil new.taken);
      same = as_r;
      is_left = (
        finds r new.taken stays (λ w. not (subst IsWhole (sym as_r) w)),
        sym (fault_same r new.taken new.taken) ∙ sym (ap (λ x. fault_of x new.taken) as_r) ∙ none,
        refl,
        all,
      );
    }
