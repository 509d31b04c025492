-- A run of bytes does what its bytes do, one behind the other.
use Rattle.std.proofs.Common.{◌≡◌, ◌∙◌, ◌≤◌, ◌<◌, ℕ, zero, suc, ◌+◌, ◌-◌, nat_lt, true, List, [], ◌∷◌, ◌++◌, length, take, drop, take-add, Option, Some, None, refl, sym, ap, subst, arith}
use Rattle.std.specs.Prelude.{min, max}
use Rattle.std.proofs.lemmas.Bool.{lt-ltb}
use Rattle.std.proofs.lemmas.List.{length-append, length-drop, length-take, take_all}
use Rattle.tds_wire.specs.declared.due.Standing.TheVariants.{Failing}
use Rattle.tds_wire.specs.declared.fault.Refusal.{Refusal}
use Rattle.tds_wire.specs.declared.fault.WireFault.{WireFault}
use Rattle.tds_wire.specs.declared.told.Token.{Token}
use Rattle.tds_wire.specs.Bytes.{Went, Over, Within, Failed, onward, standing, then_piece}
use Rattle.tds_wire.specs.Reading.{Parser, Found, Sees, Inside as Amid, Refuses, found_by, found_on, front_of, inside as inside_of, next_token, refusal_at, then_found}
use Rattle.tds_judge.specs.declared.finding.Direction.{Direction}
use Rattle.tds_judge.specs.declared.finding.Direction.TheVariants.{ToServer, ToClient}
use Rattle.tds_judge.specs.declared.finding.Finding.{Finding}
use Rattle.tds_judge.specs.declared.frame.Due.{Due}
use Rattle.tds_judge.specs.declared.frame.Due.TheVariants as due
use Rattle.tds_judge.specs.declared.frame.Inside.{Inside}
use Rattle.tds_judge.specs.declared.frame.Inside.TheVariants as inside
use Rattle.tds_judge.specs.declared.judge.Judge.{Judge}
use Rattle.tds_judge.specs.declared.talk.Event.TheVariants as events
use Rattle.tds_judge.specs.Framing.{Run, due_by, frame_by, inside_by, refused_as, run_of, said, step, steps, stops}
use Rattle.tds_judge.specs.Runs.{failed, passed, place, refused_after, spot_at}
use Rattle.tds_judge.proofs.Folding.{steps-append}
use Rattle.tds_judge.proofs.Walks.{AtMost, Fails, FailsLater, StaysOn, cut, fails_later, most_onward, sees_fewer, stays_on}

-- ---- The judging has ended

pub stopped : (d : Direction) (t : ℕ) (bytes : List ℕ) (j : Judge) (told : List Finding) → j.parser ≡ None → steps d t bytes (run_of j told) ≡ run_of j told
unfolding steps step
stopped d t [] j told e = refl
stopped d t (b ∷ bytes) j told e = ap (steps d t bytes) (rw e refl) ∙ stopped d t bytes j told e

-- ---- Data that nobody reads

abbrev skipping : Direction → Judge → Parser → ℕ → ℕ → Judge
skipping ToServer j r left offset = record j { client = record j.client { due = due.Data left; inside = inside.Skipped; offset = offset }; parser = Some r }
skipping ToClient j r left offset = record j { server = record j.server { due = due.Data left; inside = inside.Skipped; offset = offset }; parser = Some r }

skip_one : (d : Direction) (t b : ℕ) (j : Judge) (told : List Finding) (r : Parser) (left offset : ℕ) → nat_lt 1 left ≡ true
    → step d t b (run_of (skipping d j r left offset) told) ≡ run_of (skipping d j r (left - 1) (min 18446744073709551615 (offset + 1))) told
unfolding step due_by inside_by
skip_one ToServer t b j told r left offset more = rw more refl
skip_one ToClient t b j told r left offset more = rw more refl

skip_run : (d : Direction) (t b : ℕ) (bytes : List ℕ) (j : Judge) (told : List Finding) (r : Parser) (left offset : ℕ) → length (b ∷ bytes) < left
    → steps d t (b ∷ bytes) (run_of (skipping d j r left offset) told)
    ≡ run_of (skipping d j r (left - length (b ∷ bytes)) (min 18446744073709551615 (offset + length (b ∷ bytes)))) told
unfolding steps
skip_run d t b [] j told r left offset few = skip_one d t b j told r left offset (lt-ltb 1 left (omega (arith, few)))
skip_run d t b (c ∷ bytes) j told r left offset few =
    let e : left - 1 - length (c ∷ bytes) ≡ left - length (b ∷ c ∷ bytes) = omega arith in
    let f : min 18446744073709551615 (min 18446744073709551615 (offset + 1) + length (c ∷ bytes)) ≡ min 18446744073709551615 (offset + length (b ∷ c ∷ bytes)) = omega arith in
    ap (steps d t (c ∷ bytes)) (skip_one d t b j told r left offset (lt-ltb 1 left (omega (arith, few))))
    ∙ (skip_run d t c bytes j told r (left - 1) (min 18446744073709551615 (offset + 1)) (omega (arith, few))
    ∙ (ap (λ (n : ℕ). run_of (skipping d j r n (min 18446744073709551615 (min 18446744073709551615 (offset + 1) + length (c ∷ bytes)))) told) e
    ∙ ap (λ (n : ℕ). run_of (skipping d j r (left - length (b ∷ c ∷ bytes)) n) told) f))

-- a judge that is there is one of these
is_skipping : (d : Direction) (j : Judge) (r : Parser) (left : ℕ) → (frame_by d j).due ≡ due.Data left → (frame_by d j).inside ≡ inside.Skipped → j.parser ≡ Some r
    → skipping d j r left (frame_by d j).offset ≡ j
is_skipping ToServer j r left d i w =
    ap (λ (x : Due). record j { client = record j.client { due = x; inside = inside.Skipped }; parser = Some r }) (sym d)
    ∙ (ap (λ (x : Inside). record j { client = record j.client { inside = x }; parser = Some r }) (sym i)
    ∙ ap (λ (x : Option Parser). record j { parser = x }) (sym w))
is_skipping ToClient j r left d i w =
    ap (λ (x : Due). record j { server = record j.server { due = x; inside = inside.Skipped }; parser = Some r }) (sym d)
    ∙ (ap (λ (x : Inside). record j { server = record j.server { inside = x }; parser = Some r }) (sym i)
    ∙ ap (λ (x : Option Parser). record j { parser = x }) (sym w))

skips_by : (d : Direction) (t b : ℕ) (bytes : List ℕ) (j : Judge) (told : List Finding) (r : Parser) (left : ℕ) → length (b ∷ bytes) < left
    → steps d t (b ∷ bytes) (run_of (skipping d j r left (frame_by d j).offset) told)
    ≡ run_of (passed d left (length (b ∷ bytes)) (skipping d j r left (frame_by d j).offset)) told
skips_by ToServer t b bytes j told r left few = skip_run ToServer t b bytes j told r left j.client.offset few
skips_by ToClient t b bytes j told r left few = skip_run ToClient t b bytes j told r left j.server.offset few

pub skips : (d : Direction) (t b : ℕ) (bytes : List ℕ) (j : Judge) (told : List Finding) (r : Parser) (left : ℕ)
    → (frame_by d j).due ≡ due.Data left → (frame_by d j).inside ≡ inside.Skipped → j.parser ≡ Some r → length (b ∷ bytes) < left
    → run_of (passed d left (length (b ∷ bytes)) j) told ≡ steps d t (b ∷ bytes) (run_of j told)
skips d t b bytes j told r left e i w few =
    let so : skipping d j r left (frame_by d j).offset ≡ j = is_skipping d j r left e i w in
    sym (ap (λ (x : Judge). steps d t (b ∷ bytes) (run_of x told)) (sym so)
    ∙ (skips_by d t b bytes j told r left few
    ∙ ap (λ (x : Judge). run_of (passed d left (length (b ∷ bytes)) x) told) so))

-- ---- Data that the parser reads

-- the law of `tds_wire`: two pieces do what both do as one
abbrev pub Cuts : Type 0
Cuts = (r : Parser) (first second : List ℕ) → then_found (next_token r first) second ≡ next_token r (first ++ second)

abbrev reading : Judge → Parser → ℕ → ℕ → Judge
reading j r left offset = record j { server = record j.server { due = due.Data left; inside = inside.Walked; offset = offset }; parser = Some r }

walk_one : (t b : ℕ) (j : Judge) (told : List Finding) (r s : Parser) (left offset : ℕ) → next_token r (b ∷ []) ≡ Amid s → nat_lt 1 left ≡ true
    → step ToClient t b (run_of (reading j r left offset) told) ≡ run_of (reading j s (left - 1) (min 18446744073709551615 (offset + 1))) told
unfolding step due_by inside_by
walk_one t b j told r s left offset e more = rw e (rw more refl)

over_one : (t b : ℕ) (j : Judge) (told : List Finding) (r s : Parser) (left offset : ℕ) (token : Token) (rest : List ℕ) → next_token r (b ∷ []) ≡ Sees token s rest → nat_lt 1 left ≡ true
    → step ToClient t b (run_of (reading j r left offset) told)
    ≡ said (spot_at offset t) (events.Says token) (run_of (reading j s (left - 1) (min 18446744073709551615 (offset + 1))) told)
unfolding step due_by inside_by
over_one t b j told r s left offset token rest e more = rw e (rw more refl)

-- all of it is inside a token
within_on : (f : Found) (t b : ℕ) (more : List ℕ) (j : Judge) (told : List Finding) (r s : Parser) (left offset : ℕ) (end : Run)
    → next_token r (b ∷ []) ≡ f → then_found f more ≡ Amid s → nat_lt 1 left ≡ true
    → ((u : Parser) → next_token u more ≡ Amid s → steps ToClient t more (run_of (reading j u (left - 1) (min 18446744073709551615 (offset + 1))) told) ≡ end)
    → steps ToClient t (b ∷ more) (run_of (reading j r left offset) told) ≡ end
unfolding steps
within_on (Amid u) t b more j told r s left offset end e h lt next = ap (steps ToClient t more) (walk_one t b j told r u left offset e lt) ∙ next u h
within_on (Sees token u rest) t b more j told r s left offset end e h lt next = absurd cc
within_on (Refuses refusal) t b more j told r s left offset end e h lt next = absurd cc

within_run : (cuts : Cuts) (t b : ℕ) (bytes : List ℕ) (j : Judge) (told : List Finding) (r s : Parser) (left offset : ℕ) → next_token r (b ∷ bytes) ≡ Amid s → length (b ∷ bytes) < left
    → steps ToClient t (b ∷ bytes) (run_of (reading j r left offset) told)
    ≡ run_of (reading j s (left - length (b ∷ bytes)) (min 18446744073709551615 (offset + length (b ∷ bytes)))) told
unfolding steps
within_run cuts t b [] j told r s left offset e few = walk_one t b j told r s left offset e (lt-ltb 1 left (omega (arith, few)))
within_run cuts t b (c ∷ bytes) j told r s left offset e few =
    let n : left - 1 - length (c ∷ bytes) ≡ left - length (b ∷ c ∷ bytes) = omega arith in
    let m : min 18446744073709551615 (min 18446744073709551615 (offset + 1) + length (c ∷ bytes)) ≡ min 18446744073709551615 (offset + length (b ∷ c ∷ bytes)) = omega arith in
    within_on (next_token r (b ∷ [])) t b (c ∷ bytes) j told r s left offset _ refl (cuts r (b ∷ []) (c ∷ bytes) ∙ e) (lt-ltb 1 left (omega (arith, few)))
    (λ (u : Parser) (h : next_token u (c ∷ bytes) ≡ Amid s).
    within_run cuts t c bytes j told u s (left - 1) (min 18446744073709551615 (offset + 1)) h (omega (arith, few))
    ∙ (ap (λ (k : ℕ). run_of (reading j s k (min 18446744073709551615 (min 18446744073709551615 (offset + 1) + length (c ∷ bytes)))) told) n
    ∙ ap (λ (k : ℕ). run_of (reading j s (left - length (b ∷ c ∷ bytes)) k) told) m))

is_reading : (j : Judge) (r : Parser) (left : ℕ) → j.server.due ≡ due.Data left → j.server.inside ≡ inside.Walked → j.parser ≡ Some r → reading j r left j.server.offset ≡ j
is_reading j r left d i w =
    ap (λ (x : Due). record j { server = record j.server { due = x; inside = inside.Walked }; parser = Some r }) (sym d)
    ∙ (ap (λ (x : Inside). record j { server = record j.server { inside = x }; parser = Some r }) (sym i)
    ∙ ap (λ (x : Option Parser). record j { parser = x }) (sym w))

pub walks_within : (cuts : Cuts) (t b : ℕ) (bytes : List ℕ) (j : Judge) (told : List Finding) (r s : Parser) (left : ℕ)
    → j.server.due ≡ due.Data left → j.server.inside ≡ inside.Walked → j.parser ≡ Some r → next_token r (b ∷ bytes) ≡ Amid s → length (b ∷ bytes) < left
    → run_of (passed ToClient left (length (b ∷ bytes)) (record j { parser = Some s })) told ≡ steps ToClient t (b ∷ bytes) (run_of j told)
walks_within cuts t b bytes j told r s left d i w e few =
    let so : reading j r left j.server.offset ≡ j = is_reading j r left d i w in
    sym (ap (λ (x : Judge). steps ToClient t (b ∷ bytes) (run_of x told)) (sym so)
    ∙ (within_run cuts t b bytes j told r s left j.server.offset e few
    ∙ ap (λ (x : Inside). run_of (record j { server = record j.server { due = due.Data (left - length (b ∷ bytes)); inside = x; offset = min 18446744073709551615 (j.server.offset + length (b ∷ bytes)) }; parser = Some s }) told) (sym i)))

-- a token ends with the last of these bytes
abbrev over_run : ℕ → Judge → List Finding → Parser → ℕ → ℕ → ℕ → Token → Run
over_run t j told s left offset n token = said (spot_at (place offset n) t) (events.Says token) (run_of (reading j s (left - n) (min 18446744073709551615 (offset + n))) told)

-- the last byte's place, from the second one on
place_on : (k offset : ℕ) → place (min 18446744073709551615 (offset + 1)) (suc k) ≡ place offset (suc (suc k))
place_on zero offset = refl
place_on (suc k) offset =
    let a : nat_lt 1 (suc (suc k)) ≡ true = lt-ltb 1 (suc (suc k)) (omega arith) in
    let b : nat_lt 1 (suc (suc (suc k))) ≡ true = lt-ltb 1 (suc (suc (suc k))) (omega arith) in
    rw (a, b) (omega arith)

-- the first of the bytes is inside the token, or its end
first_on : (f : Found) (t b k : ℕ) (more : List ℕ) (j : Judge) (told : List Finding) (r s : Parser) (left offset : ℕ) (token : Token)
    → next_token r (b ∷ []) ≡ f → then_found f more ≡ Sees token s (drop k more) → k ≤ length more → nat_lt 1 left ≡ true
    → ((u : Parser) → next_token u more ≡ Sees token s (drop k more) → steps ToClient t (take k more) (run_of (reading j u (left - 1) (min 18446744073709551615 (offset + 1))) told) ≡ over_run t j told s left offset (suc k) token)
    → steps ToClient t (b ∷ take k more) (run_of (reading j r left offset) told) ≡ over_run t j told s left offset (suc k) token
unfolding steps
first_on (Amid u) t b k more j told r s left offset token e h few lt next = ap (steps ToClient t (take k more)) (walk_one t b j told r u left offset e lt) ∙ next u h
first_on (Sees first u rest) t b zero more j told r s left offset token e h few lt next =
    let same : u ≡ s = cc in
    let also : first ≡ token = cc in
    over_one t b j told r u left offset first rest e lt
    ∙ (ap (λ (x : Parser). said (spot_at offset t) (events.Says first) (run_of (reading j x (left - 1) (min 18446744073709551615 (offset + 1))) told)) same
    ∙ ap (λ (x : Token). said (spot_at offset t) (events.Says x) (run_of (reading j s (left - 1) (min 18446744073709551615 (offset + 1))) told)) also)
first_on (Sees first u rest) t b (suc k) more j told r s left offset token e h few lt next =
    let same : rest ++ more ≡ drop (suc k) more = cc in
    let n : length (rest ++ more) ≡ length rest + length more = length-append rest more in
    let m : length (drop (suc k) more) ≡ length more - suc k = length-drop (suc k) more in
    absurd (omega (arith, n, m, few, ap length same))
first_on (Refuses refusal) t b k more j told r s left offset token e h few lt next = absurd cc

over_steps : (cuts : Cuts) (t b k : ℕ) (bytes : List ℕ) (j : Judge) (told : List Finding) (r s : Parser) (left offset : ℕ) (token : Token)
    → next_token r (b ∷ bytes) ≡ Sees token s (drop k bytes) → k ≤ length bytes → suc k < left
    → steps ToClient t (b ∷ take k bytes) (run_of (reading j r left offset) told) ≡ over_run t j told s left offset (suc k) token
over_steps cuts t b zero bytes j told r s left offset token e few less =
    first_on (next_token r (b ∷ [])) t b 0 bytes j told r s left offset token refl (cuts r (b ∷ []) bytes ∙ e) few (lt-ltb 1 left (omega (arith, less)))
    (λ (u : Parser) (h : next_token u bytes ≡ Sees token s bytes). absurd (omega (arith, sees_fewer u bytes token s bytes h)))
over_steps cuts t b (suc k) [] j told r s left offset token e few less = absurd (omega (arith, few))
over_steps cuts t b (suc k) (c ∷ bytes) j told r s left offset token e few less =
    let n : left - 1 - suc k ≡ left - suc (suc k) = omega arith in
    let m : min 18446744073709551615 (min 18446744073709551615 (offset + 1) + suc k) ≡ min 18446744073709551615 (offset + suc (suc k)) = omega arith in
    let p : place (min 18446744073709551615 (offset + 1)) (suc k) ≡ place offset (suc (suc k)) = place_on k offset in
    first_on (next_token r (b ∷ [])) t b (suc k) (c ∷ bytes) j told r s left offset token refl (cuts r (b ∷ []) (c ∷ bytes) ∙ e) few (lt-ltb 1 left (omega (arith, less)))
    (λ (u : Parser) (h : next_token u (c ∷ bytes) ≡ Sees token s (drop k bytes)).
    over_steps cuts t c k bytes j told u s (left - 1) (min 18446744073709551615 (offset + 1)) token h (omega (arith, few)) (omega (arith, less))
    ∙ (ap (λ (x : ℕ). said (spot_at x t) (events.Says token) (run_of (reading j s (left - 1 - suc k) (min 18446744073709551615 (min 18446744073709551615 (offset + 1) + suc k))) told)) p
    ∙ (ap (λ (x : ℕ). said (spot_at (place offset (suc (suc k))) t) (events.Says token) (run_of (reading j s x (min 18446744073709551615 (min 18446744073709551615 (offset + 1) + suc k))) told)) n
    ∙ ap (λ (x : ℕ). said (spot_at (place offset (suc (suc k))) t) (events.Says token) (run_of (reading j s (left - suc (suc k)) x) told)) m)))

pub walks_over : (cuts : Cuts) (t b k : ℕ) (bytes : List ℕ) (j : Judge) (told : List Finding) (r s : Parser) (left : ℕ) (token : Token)
    → j.server.due ≡ due.Data left → j.server.inside ≡ inside.Walked → j.parser ≡ Some r → next_token r (b ∷ bytes) ≡ Sees token s (drop k bytes) → k ≤ length bytes → suc k < left
    → said (spot_at (place j.server.offset (suc k)) t) (events.Says token) (run_of (passed ToClient left (suc k) (record j { parser = Some s })) told) ≡ steps ToClient t (b ∷ take k bytes) (run_of j told)
walks_over cuts t b k bytes j told r s left token d i w e few less =
    let so : reading j r left j.server.offset ≡ j = is_reading j r left d i w in
    sym (ap (λ (x : Judge). steps ToClient t (b ∷ take k bytes) (run_of x told)) (sym so)
    ∙ (over_steps cuts t b k bytes j told r s left j.server.offset token e few less
    ∙ ap (λ (x : Inside). said (spot_at (place j.server.offset (suc k)) t) (events.Says token) (run_of (record j { server = record j.server { due = due.Data (left - suc k); inside = x; offset = min 18446744073709551615 (j.server.offset + suc k) }; parser = Some s }) told)) (sym i)))

-- ---- A fault

fault_one : (t b : ℕ) (j : Judge) (told : List Finding) (r : Parser) (left offset : ℕ) (refusal : Refusal) → next_token r (b ∷ []) ≡ Refuses refusal
    → step ToClient t b (run_of (reading j r left offset) told)
    ≡ stops (spot_at offset t) (refused_as refusal) (run_of (reading j r left (min 18446744073709551615 (offset + 1))) told)
unfolding step due_by inside_by
fault_one t b j told r left offset refusal e = rw e refl

-- one byte on, inside a token
record Further (r : Parser) (bytes : List ℕ) (behind : List ℕ) : Type 0 where
  fails : Fails r bytes
  rest : fails.rest ≡ behind
  on : (fault : WireFault) → standing r.walk.at.due ≡ Failing fault → ⊥

further_by : (went : Went) (b : ℕ) (bytes rest : List ℕ) (fault : WireFault) (r u : Parser)
    → onward r.walk (b ∷ []) ≡ went → StaysOn went → found_by r (b ∷ []) went ≡ Amid u → then_piece went bytes ≡ Failed fault rest → Further u bytes rest
further_by (Over w left) b bytes rest fault r u e stays f h = absurd cc
further_by (Within w) b bytes rest fault r u e stays f h =
    let same : inside_of r w (b ∷ []) ≡ u = cc in
    record {
      fails = record { fault = fault; rest = rest; whole = ap (λ (x : Parser). x.refused) (sym same); fails = ap (λ (x : Parser). onward x.walk bytes) (sym same) ∙ h };
      rest = refl;
      on = λ (g : WireFault) (k : standing u.walk.at.due ≡ Failing g). stays g (ap (λ (x : Parser). standing x.walk.at.due) same ∙ k);
    }
further_by (Failed g left) b bytes rest fault r u e stays f h = absurd cc

further : (r u : Parser) (b : ℕ) (bytes : List ℕ) (h : Fails r (b ∷ bytes)) → next_token r (b ∷ []) ≡ Amid u → Further u bytes h.rest
unfolding next_token
further r u b bytes h e =
    further_by (onward r.walk (b ∷ [])) b bytes h.rest h.fault r u refl (stays_on r.walk (b ∷ []))
    (sym (ap (λ (o : Option Refusal). found_on o r (b ∷ [])) h.whole) ∙ e) (cut r.walk (b ∷ []) bytes ∙ h.fails)

-- what is left behind a byte that is refused at once is all behind it
at_once_by : (went : Went) (b : ℕ) (bytes rest : List ℕ) (fault : WireFault) (r : Parser) (refusal : Refusal)
    → found_by r (b ∷ []) went ≡ Refuses refusal → then_piece went bytes ≡ Failed fault rest → length bytes ≤ length rest
at_once_by (Over w left) b bytes rest fault r refusal f h = absurd cc
at_once_by (Within w) b bytes rest fault r refusal f h = absurd cc
at_once_by (Failed g left) b bytes rest fault r refusal f h =
    let same : left ++ bytes ≡ rest = cc in
    omega (arith, length-append left bytes, ap length same)

at_once : (r : Parser) (b : ℕ) (bytes : List ℕ) (refusal : Refusal) (h : Fails r (b ∷ bytes)) → next_token r (b ∷ []) ≡ Refuses refusal → length bytes ≤ length h.rest
unfolding next_token
at_once r b bytes refusal h e =
    at_once_by (onward r.walk (b ∷ [])) b bytes h.rest h.fault r refusal
    (sym (ap (λ (o : Option Refusal). found_on o r (b ∷ [])) h.whole) ∙ e) (cut r.walk (b ∷ []) bytes ∙ h.fails)

-- behind a byte of a token, a byte at least leads to the fault
some_later : (u : Parser) (bytes rest : List ℕ) → Further u bytes rest → length rest < length bytes
some_later u bytes rest h =
    let l : FailsLater (length bytes) (Failed h.fails.fault h.fails.rest) = subst (FailsLater (length bytes)) h.fails.fails (fails_later u.walk bytes h.on) in
    omega (arith, l, ap length h.rest)

abbrev failing : ℕ → Judge → List Finding → Parser → ℕ → ℕ → ℕ → Refusal → Run
failing t j told r left offset n refusal =
    stops (spot_at (place offset n) t) (refused_as refusal) (run_of (reading j r left (min 18446744073709551615 (offset + n))) told)

fault_on : (f : Found) (t b n : ℕ) (bytes : List ℕ) (j : Judge) (told : List Finding) (r : Parser) (left offset : ℕ) (refusal : Refusal) (h : Fails r (b ∷ bytes))
    → next_token r (b ∷ []) ≡ f → then_found f bytes ≡ Refuses refusal → suc n ≡ max 1 (length (b ∷ bytes) - length h.rest) → nat_lt 1 left ≡ true
    → ((u : Parser) → next_token u bytes ≡ Refuses refusal → Further u bytes h.rest → steps ToClient t (take n bytes) (run_of (reading j u (left - 1) (min 18446744073709551615 (offset + 1))) told) ≡ failing t j told r (left - n) offset (suc n) refusal)
    → steps ToClient t (b ∷ take n bytes) (run_of (reading j r left offset) told) ≡ failing t j told r (left - n) offset (suc n) refusal
unfolding steps
fault_on (Amid u) t b n bytes j told r left offset refusal h e f count lt next = ap (steps ToClient t (take n bytes)) (walk_one t b j told r u left offset e lt) ∙ next u f (further r u b bytes h e)
fault_on (Sees token u rest) t b n bytes j told r left offset refusal h e f count lt next = absurd cc
fault_on (Refuses first) t b zero bytes j told r left offset refusal h e f count lt next =
    let same : first ≡ refusal = cc in
    let all : left - 0 ≡ left = omega arith in
    fault_one t b j told r left offset first e
    ∙ (ap (λ (x : Refusal). stops (spot_at offset t) (refused_as x) (run_of (reading j r left (min 18446744073709551615 (offset + 1))) told)) same
    ∙ ap (λ (x : ℕ). failing t j told r x offset 1 refusal) (sym all))
fault_on (Refuses first) t b (suc n) bytes j told r left offset refusal h e f count lt next = absurd (omega (arith, count, at_once r b bytes first h e))

fault_steps : (cuts : Cuts) (t b n : ℕ) (bytes : List ℕ) (j : Judge) (told : List Finding) (r : Parser) (left offset : ℕ) (refusal : Refusal) (h : Fails r (b ∷ bytes))
    → next_token r (b ∷ bytes) ≡ Refuses refusal → suc n ≡ max 1 (length (b ∷ bytes) - length h.rest) → suc n < left
    → steps ToClient t (b ∷ take n bytes) (run_of (reading j r left offset) told) ≡ failing t j told r (left - n) offset (suc n) refusal
fault_steps cuts t b n [] j told r left offset refusal h e count less =
    fault_on (next_token r (b ∷ [])) t b n [] j told r left offset refusal h refl (cuts r (b ∷ []) [] ∙ e) count (lt-ltb 1 left (omega (arith, less)))
    (λ (u : Parser) (f : next_token u [] ≡ Refuses refusal) (g : Further u [] h.rest). absurd (omega (arith, some_later u [] h.rest g)))
fault_steps cuts t b zero (c ∷ bytes) j told r left offset refusal h e count less =
    fault_on (next_token r (b ∷ [])) t b 0 (c ∷ bytes) j told r left offset refusal h refl (cuts r (b ∷ []) (c ∷ bytes) ∙ e) count (lt-ltb 1 left (omega (arith, less)))
    (λ (u : Parser) (f : next_token u (c ∷ bytes) ≡ Refuses refusal) (g : Further u (c ∷ bytes) h.rest). absurd (omega (arith, count, some_later u (c ∷ bytes) h.rest g)))
fault_steps cuts t b (suc n) (c ∷ bytes) j told r left offset refusal h e count less =
    let k : left - 1 - n ≡ left - suc n = omega arith in
    let m : min 18446744073709551615 (min 18446744073709551615 (offset + 1) + suc n) ≡ min 18446744073709551615 (offset + suc (suc n)) = omega arith in
    let p : place (min 18446744073709551615 (offset + 1)) (suc n) ≡ place offset (suc (suc n)) = place_on n offset in
    fault_on (next_token r (b ∷ [])) t b (suc n) (c ∷ bytes) j told r left offset refusal h refl (cuts r (b ∷ []) (c ∷ bytes) ∙ e) count (lt-ltb 1 left (omega (arith, less)))
    (λ (u : Parser) (f : next_token u (c ∷ bytes) ≡ Refuses refusal) (g : Further u (c ∷ bytes) h.rest).
    fault_steps cuts t c n bytes j told u (left - 1) (min 18446744073709551615 (offset + 1)) refusal g.fails f (omega (arith, count, some_later u (c ∷ bytes) h.rest g, ap length g.rest)) (omega (arith, less))
    ∙ (ap (λ (x : ℕ). stops (spot_at x t) (refused_as refusal) (run_of (reading j r (left - 1 - n) (min 18446744073709551615 (min 18446744073709551615 (offset + 1) + suc n))) told)) p
    ∙ (ap (λ (x : ℕ). stops (spot_at (place offset (suc (suc n))) t) (refused_as refusal) (run_of (reading j r x (min 18446744073709551615 (min 18446744073709551615 (offset + 1) + suc n))) told)) k
    ∙ ap (λ (x : ℕ). stops (spot_at (place offset (suc (suc n))) t) (refused_as refusal) (run_of (reading j r (left - suc n) x) told)) m)))

-- how many bytes lead to a fault, by what is told of it
counts_by : (went : Went) (r : Parser) (piece : List ℕ) (refusal : Refusal) → AtMost (length piece) went → r.refused ≡ None → onward r.walk piece ≡ went → found_by r piece went ≡ Refuses refusal
    → r.start + r.passed + length piece < 18446744073709551615
    → (h : Fails r piece) × (max 1 (length piece - length h.rest) ≡ refused_after (r.start + r.passed) refusal)
counts_by (Over w rest) r piece refusal most whole e f few = absurd cc
counts_by (Within w) r piece refusal most whole e f few = absurd cc
counts_by (Failed fault rest) r piece refusal most whole e f few =
    let same : refusal_at r fault (front_of piece rest) ≡ refusal = cc in
    let n : length (front_of piece rest) ≡ min (length piece - length rest) (length piece) = length-take (length piece - length rest) piece in
    (record { fault = fault; rest = rest; whole = whole; fails = e }, omega (arith, n, most, few, ap (λ (x : Refusal). x.at) same))

counts : (r : Parser) (piece : List ℕ) (refusal : Refusal) → r.refused ≡ None → next_token r piece ≡ Refuses refusal → r.start + r.passed + length piece < 18446744073709551615
    → (h : Fails r piece) × (max 1 (length piece - length h.rest) ≡ refused_after (r.start + r.passed) refusal)
unfolding next_token
counts r piece refusal whole e few =
    counts_by (onward r.walk piece) r piece refusal (most_onward r.walk piece) whole refl (sym (ap (λ (o : Option Refusal). found_on o r piece) whole) ∙ e) few

pub walks_to_fault : (cuts : Cuts) (t b n : ℕ) (bytes : List ℕ) (j : Judge) (told : List Finding) (r : Parser) (left : ℕ) (refusal : Refusal)
    → j.server.due ≡ due.Data left → j.server.inside ≡ inside.Walked → j.parser ≡ Some r → r.refused ≡ None → r.start + r.passed ≤ 9223372036854775808
    → next_token r (b ∷ bytes) ≡ Refuses refusal → length (b ∷ bytes) < left → left ≤ 65535 → suc n ≡ min (refused_after (r.start + r.passed) refusal) (length (b ∷ bytes))
    → stops (spot_at (place j.server.offset (suc n)) t) (refused_as refusal) (run_of (failed left (suc n) j) told) ≡ steps ToClient t (b ∷ take n bytes) (run_of j told)
walks_to_fault cuts t b n bytes j told r left refusal d i w whole small e few most count =
    let so : reading j r left j.server.offset ≡ j = is_reading j r left d i w in
    let (h, c) = counts r (b ∷ bytes) refusal whole e (omega (arith, small, few, most)) in
    let less : suc n - 1 ≡ n = omega arith in
    sym (ap (λ (x : Judge). steps ToClient t (b ∷ take n bytes) (run_of x told)) (sym so)
    ∙ (fault_steps cuts t b n bytes j told r left j.server.offset refusal h e (omega (arith, c, count)) (omega (arith, count, few))
    ∙ (ap (λ (x : Inside). stops (spot_at (place j.server.offset (suc n)) t) (refused_as refusal) (run_of (record j { server = record j.server { due = due.Data (left - n); inside = x; offset = min 18446744073709551615 (j.server.offset + suc n) } }) told)) (sym i)
    ∙ ap (λ (x : ℕ). stops (spot_at (place j.server.offset (suc n)) t) (refused_as refusal) (run_of (record j { server = record j.server { due = due.Data (left - x); offset = min 18446744073709551615 (j.server.offset + suc n) } }) told)) (sym less))))

-- ---- Runs, one behind the other

pub takes_more : (d : Direction) (t n k : ℕ) (xs : List ℕ) (start before after : Run) → n ≤ length xs
    → after ≡ steps d t (take k (take (length xs - n) (drop n xs))) before → before ≡ steps d t (take n xs) start → after ≡ steps d t (take (n + k) xs) start
takes_more d t n k xs start before after few does so =
    let all : take (length xs - n) (drop n xs) ≡ drop n xs = take_all (length xs - n) (drop n xs) (omega (arith, length-drop n xs)) in
    does ∙ (ap (λ (ys : List ℕ). steps d t (take k ys) before) all
    ∙ (ap (steps d t (take k (drop n xs))) so ∙ (steps-append d t (take n xs) (take k (drop n xs)) start
    ∙ ap (λ (ys : List ℕ). steps d t ys start) (sym (take-add n k xs)))))
