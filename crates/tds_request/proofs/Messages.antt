-- A message that is read is spelled so, and what is spelled so is read.
use Rattle.std.proofs.Common.{◌≡◌, ℕ, ◌^◌, ◌<◌, true, false, cond, eqb, ltb, nat_le, List, [], ◌∷◌, ◌++◌, length, Option, None, Some, IfSome, Result, Ok, Err, refl, sym, ap, subst, ◌∙◌, arith, inl, inr}
use Rattle.std.specs.Int.{w16, w32, w64, to_le_bytes}
use Rattle.std.proofs.lemmas.Bool.{le-ltb, eqb-true, leb-true, le-leb}
use Rattle.std.proofs.lemmas.List.{length-append, nil_from_length}
use Rattle.tds_request.specs.declared.fault.RequestFault.{RequestFault}
use Rattle.tds_request.specs.declared.fault.RequestFault.TheVariants.{Short, WrongTotalLength, WrongHeader, WrongCount, WrongTextLength, WrongRequestType, WrongIsolation, WrongName, WrongFlags, BytesLeftOver}
use Rattle.tds_request.specs.declared.request.Request.{Request}
use Rattle.tds_request.specs.declared.request.Request.TheVariants as requests
use Rattle.tds_request.specs.declared.request.RequestKind.{RequestKind}
use Rattle.tds_request.specs.declared.request.RequestKind.TheVariants as kinds
use Rattle.tds_request.specs.Values.{IsBatchText, IsIsolation}
use Rattle.tds_request.specs.Layout.{kind_of_request, all_headers, body_of, request_spelling, text_bytes, no_name, begun, begun_anew, Fits, IsRequest}
use Rattle.tds_request.specs.Reading.{◌>>=◌, number_is_at, byte_is_at, header_fields_at, headers_at, units_of, is_text_length, batch_in, ended, isolation_of, begun_in, begun_anew_in, end_in, transaction_in, body_in, read_request}
use Rattle.tds_request.proofs.Readers.{IsBytes, IsMark, bind_ok, want_ok, unless_ok, chosen, ok_is, step, mark_step, step_again, mark_again, wide16, wide32, wide64, number_field, byte_field, number_mark, byte_mark}
use Rattle.tds_request.proofs.Texts.{units_again, text_of, is_length}

-- ---- ALL_HEADERS

total_mark : IsMark (number_is_at w32 22 WrongTotalLength) (to_le_bytes w32 22)
total_mark = number_mark w32 (2 ^ 32) wide32 22 WrongTotalLength (omega arith)

length_mark : IsMark (number_is_at w32 18 WrongHeader) (to_le_bytes w32 18)
length_mark = number_mark w32 (2 ^ 32) wide32 18 WrongHeader (omega arith)

type_mark : IsMark (number_is_at w16 2 WrongHeader) (to_le_bytes w16 2)
type_mark = number_mark w16 (2 ^ 16) wide16 2 WrongHeader (omega arith)

count_mark : IsMark (number_is_at w32 1 WrongCount) (to_le_bytes w32 1)
count_mark = number_mark w32 (2 ^ 32) wide32 1 WrongCount (omega arith)

all_parts : (bytes r1 r2 r3 r4 rest : List ℕ) (descriptor : ℕ) → bytes ≡ to_le_bytes w32 22 ++ r1 → r1 ≡ to_le_bytes w32 18 ++ r2 → r2 ≡ to_le_bytes w16 2 ++ r3 → r3 ≡ to_le_bytes w64 descriptor ++ r4 → r4 ≡ to_le_bytes w32 1 ++ rest
    → bytes ≡ all_headers descriptor ++ rest
all_parts bytes r1 r2 r3 r4 rest descriptor e1 e2 e3 e4 e5 = rw (e1, e2, e3, e4, e5) refl

record AreHeaders (bytes : List ℕ) (x : ℕ × List ℕ) : Type 0 where
  pub spelled : bytes ≡ all_headers x.0 ++ x.1
  pub ranged : x.0 < 2 ^ 64
  pub fits : IsBytes x.1

fields_take : (bytes : List ℕ) (x : ℕ × List ℕ) → IsBytes bytes → header_fields_at bytes ≡ Ok x → AreHeaders bytes x
unfolding header_fields_at
fields_take bytes x fits e =
    mark_step (AreHeaders bytes x) total_mark bytes _ x fits e (λ r1 e1 h1 n1.
    mark_step (AreHeaders bytes x) length_mark r1 _ x h1 n1 (λ r2 e2 h2 n2.
    mark_step (AreHeaders bytes x) type_mark r2 _ x h2 n2 (λ r3 e3 h3 n3.
    step (AreHeaders bytes x) (number_field w64 (2 ^ 64) wide64) r3 _ x h3 n3 (λ descriptor r4 e4 lt h4 n4.
    mark_step (AreHeaders bytes x) count_mark r4 _ x h4 n4 (λ rest e5 h5 n5.
    subst (AreHeaders bytes) (ok_is (descriptor, rest) x n5) (record { spelled = all_parts bytes r1 r2 r3 r4 rest descriptor e1 e2 e3 e4 e5; ranged = lt; fits = h5 }))))))

fields_again_by : (bytes r1 r2 r3 r4 rest : List ℕ) (descriptor : ℕ) → descriptor < 2 ^ 64 → bytes ≡ to_le_bytes w32 22 ++ r1 → r1 ≡ to_le_bytes w32 18 ++ r2 → r2 ≡ to_le_bytes w16 2 ++ r3 → r3 ≡ to_le_bytes w64 descriptor ++ r4 → r4 ≡ to_le_bytes w32 1 ++ rest
    → header_fields_at bytes ≡ Ok (descriptor, rest)
unfolding header_fields_at
fields_again_by bytes r1 r2 r3 r4 rest descriptor lt e1 e2 e3 e4 e5 =
    mark_again total_mark bytes r1 _ e1 ∙ (mark_again length_mark r1 r2 _ e2 ∙ (mark_again type_mark r2 r3 _ e3
    ∙ (step_again (number_field w64 (2 ^ 64) wide64) r3 descriptor r4 _ lt e4 ∙ mark_again count_mark r4 rest _ e5)))

fields_again : (descriptor : ℕ) (rest : List ℕ) → descriptor < 2 ^ 64 → header_fields_at (all_headers descriptor ++ rest) ≡ Ok (descriptor, rest)
fields_again descriptor rest lt =
    let r4 = to_le_bytes w32 1 ++ rest in
    let r3 = to_le_bytes w64 descriptor ++ r4 in
    let r2 = to_le_bytes w16 2 ++ r3 in
    let r1 = to_le_bytes w32 18 ++ r2 in
    fields_again_by (all_headers descriptor ++ rest) r1 r2 r3 r4 rest descriptor lt refl refl refl refl refl

headers_take : (bytes : List ℕ) (x : ℕ × List ℕ) → IsBytes bytes → headers_at bytes ≡ Ok x → AreHeaders bytes x
unfolding headers_at
headers_take bytes x fits e = fields_take bytes x fits (unless_ok (ltb (length bytes) 22) Short (header_fields_at bytes) x e).1

headers_again : (descriptor : ℕ) (rest : List ℕ) → descriptor < 2 ^ 64 → headers_at (all_headers descriptor ++ rest) ≡ Ok (descriptor, rest)
unfolding headers_at
headers_again descriptor rest lt =
    let long : ltb (length (all_headers descriptor ++ rest)) 22 ≡ false = le-ltb _ _ (omega (arith, length-append (all_headers descriptor) rest)) in
    rw long (fields_again descriptor rest lt)

-- ---- bodies

record IsBody (kind : RequestKind) (bytes : List ℕ) (request : Request) : Type 0 where
  pub spelled : bytes ≡ body_of request
  pub fits : Fits request
  pub kind_is : kind ≡ kind_of_request request

batch_takes : (bytes : List ℕ) (request : Request) → IsBytes bytes → batch_in bytes ≡ Ok request → IsBody kinds.Batch bytes request
unfolding batch_in
batch_takes bytes request fits e =
    let w = want_ok (is_text_length (length bytes)) WrongTextLength (Ok (requests.Batch (units_of bytes))) request e in
    let t = text_of bytes fits w.0 in
    subst (IsBody kinds.Batch bytes) (ok_is (requests.Batch (units_of bytes)) request w.1) (record { spelled = sym t.spelled; fits = t.is; kind_is = refl })

batch_again : (units : List ℕ) → IsBatchText units → batch_in (text_bytes units) ≡ Ok (requests.Batch units)
unfolding batch_in
batch_again units h = rw (is_length units h, units_again units h.wide) refl

ended_takes : {A : Type 0} (value wanted : A) (rest : List ℕ) → ended value rest ≡ Ok wanted → (rest ≡ []) × (value ≡ wanted)
ended_takes value wanted rest e =
    let w = want_ok (eqb (length rest) 0) BytesLeftOver (Ok value) wanted e in
    (nil_from_length rest (eqb-true _ _ w.0), ok_is value wanted w.1)

name_mark : IsMark (byte_is_at 0 WrongName) (0 ∷ [])
name_mark = byte_mark 0 WrongName

level_takes : (number level : ℕ) → isolation_of number ≡ Ok level → IsIsolation number × (number ≡ level)
level_takes number level e =
    let w = want_ok (nat_le number 5) WrongIsolation (Ok number) level e in
    (leb-true _ _ w.0, ok_is number level w.1)

-- what begins a transaction

IsBegun : List ℕ → ℕ → Type 0
IsBegun payload level = (payload ≡ begun level) × IsIsolation level

begun_parts : (payload r1 rest : List ℕ) (number level : ℕ) → payload ≡ (number ∷ []) ++ r1 → r1 ≡ (0 ∷ []) ++ rest → rest ≡ [] → number ≡ level → payload ≡ begun level
begun_parts payload r1 rest number level e1 e2 e3 e4 = rw (e1, e2, e3, e4) refl

begun_takes : (payload : List ℕ) (level : ℕ) → IsBytes payload → begun_in payload ≡ Ok level → IsBegun payload level
unfolding begun_in IsBegun
begun_takes payload level fits e =
    step (IsBegun payload level) byte_field payload _ level fits e (λ number r1 e1 lt h1 n1.
    let b = bind_ok (isolation_of number) (λ read. byte_is_at 0 WrongName r1 >>= λ rest. ended read rest) level n1 in
    let l = level_takes number b.0 b.1 in
    mark_step (IsBegun payload level) name_mark r1 _ level h1 b.2 (λ rest e2 h2 n2.
    let last = ended_takes b.0 level rest n2 in
    (begun_parts payload r1 rest number level e1 e2 last.0 (l.1 ∙ last.1), rw (← last.1, ← l.1) l.0)))

begun_again : (level : ℕ) → IsIsolation level → begun_in (begun level) ≡ Ok level
unfolding begun_in byte_is_at
begun_again level h =
    let small : nat_le level 5 ≡ true = le-leb _ _ h in
    rw small refl

-- what a commit or rollback begins anew

IsBegunAnew : List ℕ → Option ℕ → Type 0
IsBegunAnew bytes anew = (bytes ≡ begun_anew anew) × IfSome anew IsIsolation

flags_parts : (flags wanted : ℕ) (rest inside : List ℕ) → flags ≡ wanted → rest ≡ inside → flags ∷ rest ≡ wanted ∷ inside
flags_parts flags wanted rest inside e r = rw (e, r) refl

begun_anew_takes : (flags : ℕ) (rest : List ℕ) (anew : Option ℕ) → IsBytes rest → begun_anew_in flags rest ≡ Ok anew → IsBegunAnew (flags ∷ rest) anew
unfolding begun_anew_in IsBegunAnew IsBegun
begun_anew_takes flags rest anew fits e =
    elim (chosen (eqb flags 0) (ended None rest) _ (Ok anew) e) [
      | inl p ↦
          let last = ended_takes None anew rest p.1 in
          subst (IsBegunAnew (flags ∷ rest)) last.1 (flags_parts flags 0 rest [] (eqb-true _ _ p.0) last.0, tt)
      | inr q ↦
          let w = want_ok (eqb flags 1) WrongFlags (begun_in rest >>= λ level. Ok (Some level)) anew q.1 in
          let b = bind_ok (begun_in rest) (λ level. Ok (Some level)) anew w.1 in
          let level = begun_takes rest b.0 fits b.1 in
          subst (IsBegunAnew (flags ∷ rest)) (ok_is (Some b.0) anew b.2) (flags_parts flags 1 rest (begun b.0) (eqb-true _ _ w.0) level.0, level.1)
    ]

begun_anew_again : (anew : Option ℕ) → IfSome anew IsIsolation → end_in (no_name ++ begun_anew anew) ≡ Ok anew
unfolding end_in byte_is_at begun_anew_in
begun_anew_again None h = refl
begun_anew_again (Some level) h = rw (begun_again level h) refl

end_parts : (payload r1 rest inside : List ℕ) (flags : ℕ) → payload ≡ no_name ++ r1 → r1 ≡ (flags ∷ []) ++ rest → flags ∷ rest ≡ inside → payload ≡ no_name ++ inside
end_parts payload r1 rest inside flags e1 e2 e3 = rw (e1, e2, e3) refl

IsEnd : List ℕ → Option ℕ → Type 0
IsEnd payload anew = (payload ≡ no_name ++ begun_anew anew) × IfSome anew IsIsolation

end_takes : (payload : List ℕ) (anew : Option ℕ) → IsBytes payload → end_in payload ≡ Ok anew → IsEnd payload anew
unfolding end_in IsEnd IsBegunAnew
end_takes payload anew fits e =
    mark_step (IsEnd payload anew) name_mark payload _ anew fits e (λ r1 e1 h1 n1.
    step (IsEnd payload anew) byte_field r1 _ anew h1 n1 (λ flags rest e2 lt h2 n2.
    let behind = begun_anew_takes flags rest anew h2 n2 in
    (end_parts payload r1 rest (begun_anew anew) flags e1 e2 behind.0, behind.1)))

typed : (type wanted : ℕ) (payload inside : List ℕ) → type ≡ wanted → payload ≡ inside → to_le_bytes w16 type ++ payload ≡ to_le_bytes w16 wanted ++ inside
typed type wanted payload inside e p = rw (e, p) refl

-- the request is this one, and so is the payload of its type
by_begin : (type : ℕ) (payload : List ℕ) (request : Request) → IsBytes payload → type ≡ 5 → (begun_in payload >>= λ level. Ok (requests.Begin level)) ≡ Ok request → IsBody kinds.Transaction (to_le_bytes w16 type ++ payload) request
unfolding IsBegun
by_begin type payload request fits t e =
    let b = bind_ok (begun_in payload) (λ level. Ok (requests.Begin level)) request e in
    let level = begun_takes payload b.0 fits b.1 in
    subst (IsBody kinds.Transaction (to_le_bytes w16 type ++ payload)) (ok_is (requests.Begin b.0) request b.2) (record { spelled = typed type 5 payload (begun b.0) t level.0; fits = level.1; kind_is = refl })

by_commit : (type : ℕ) (payload : List ℕ) (request : Request) → IsBytes payload → type ≡ 7 → (end_in payload >>= λ anew. Ok (requests.Commit anew)) ≡ Ok request → IsBody kinds.Transaction (to_le_bytes w16 type ++ payload) request
unfolding IsEnd
by_commit type payload request fits t e =
    let b = bind_ok (end_in payload) (λ anew. Ok (requests.Commit anew)) request e in
    let anew = end_takes payload b.0 fits b.1 in
    subst (IsBody kinds.Transaction (to_le_bytes w16 type ++ payload)) (ok_is (requests.Commit b.0) request b.2) (record { spelled = typed type 7 payload (no_name ++ begun_anew b.0) t anew.0; fits = anew.1; kind_is = refl })

by_rollback : (type : ℕ) (payload : List ℕ) (request : Request) → IsBytes payload → type ≡ 8 → (end_in payload >>= λ anew. Ok (requests.Rollback anew)) ≡ Ok request → IsBody kinds.Transaction (to_le_bytes w16 type ++ payload) request
unfolding IsEnd
by_rollback type payload request fits t e =
    let b = bind_ok (end_in payload) (λ anew. Ok (requests.Rollback anew)) request e in
    let anew = end_takes payload b.0 fits b.1 in
    subst (IsBody kinds.Transaction (to_le_bytes w16 type ++ payload)) (ok_is (requests.Rollback b.0) request b.2) (record { spelled = typed type 8 payload (no_name ++ begun_anew b.0) t anew.0; fits = anew.1; kind_is = refl })

by_type : (type : ℕ) (payload : List ℕ) (request : Request) → IsBytes payload
    → cond (eqb type 5) (begun_in payload >>= λ level. Ok (requests.Begin level)) (cond (eqb type 7) (end_in payload >>= λ anew. Ok (requests.Commit anew)) (cond (eqb type 8) (end_in payload >>= λ anew. Ok (requests.Rollback anew)) (Err WrongRequestType))) ≡ Ok request
    → IsBody kinds.Transaction (to_le_bytes w16 type ++ payload) request
by_type type payload request fits e =
    elim (chosen (eqb type 5) (begun_in payload >>= λ level. Ok (requests.Begin level)) _ (Ok request) e) [
      | inl p ↦ by_begin type payload request fits (eqb-true _ _ p.0) p.1
      | inr q ↦ elim (chosen (eqb type 7) (end_in payload >>= λ anew. Ok (requests.Commit anew)) _ (Ok request) q.1) [
        | inl p ↦ by_commit type payload request fits (eqb-true _ _ p.0) p.1
        | inr q ↦
            let w = want_ok (eqb type 8) WrongRequestType (end_in payload >>= λ anew. Ok (requests.Rollback anew)) request q.1 in
            by_rollback type payload request fits (eqb-true _ _ w.0) w.1
      ]
    ]

transaction_takes : (bytes : List ℕ) (request : Request) → IsBytes bytes → transaction_in bytes ≡ Ok request → IsBody kinds.Transaction bytes request
unfolding transaction_in
transaction_takes bytes request fits e =
    step (IsBody kinds.Transaction bytes request) (number_field w16 (2 ^ 16) wide16) bytes _ request fits e (λ type payload e1 lt h1 n1.
    subst (λ (b : List ℕ). IsBody kinds.Transaction b request) (sym e1) (by_type type payload request h1 n1))

body_takes : (kind : RequestKind) (bytes : List ℕ) (request : Request) → IsBytes bytes → body_in kind bytes ≡ Ok request → IsBody kind bytes request
body_takes kinds.Batch bytes request fits e = batch_takes bytes request fits e
body_takes kinds.Transaction bytes request fits e = transaction_takes bytes request fits e

abbrev committed : Result (Option ℕ) RequestFault → Result Request RequestFault
committed read = read >>= λ anew. Ok (requests.Commit anew)

abbrev rolled_back : Result (Option ℕ) RequestFault → Result Request RequestFault
rolled_back read = read >>= λ anew. Ok (requests.Rollback anew)

body_again : (request : Request) → Fits request → body_in (kind_of_request request) (body_of request) ≡ Ok request
unfolding transaction_in
body_again (requests.Batch units) fits = batch_again units fits
body_again (requests.Begin level) fits = ap (λ (r : Result ℕ RequestFault). r >>= λ read. Ok (requests.Begin read)) (begun_again level fits)
body_again (requests.Commit None) fits = ap committed (begun_anew_again None fits)
body_again (requests.Commit (Some level)) fits = ap committed (begun_anew_again (Some level) fits)
body_again (requests.Rollback None) fits = ap rolled_back (begun_anew_again None fits)
body_again (requests.Rollback (Some level)) fits = ap rolled_back (begun_anew_again (Some level) fits)

-- ---- whole messages

pub spelled_is_read : (kind : RequestKind) (descriptor : ℕ) (request : Request) (bytes : List ℕ) → IsRequest kind descriptor request bytes → read_request kind bytes ≡ Ok (descriptor, request)
unfolding read_request
spelled_is_read kind descriptor request bytes h =
    ap (λ (x : List ℕ). read_request kind x) h.spelled ∙ ap (λ (k : RequestKind). read_request k (request_spelling descriptor request)) h.kind_is
    ∙ rw (headers_again descriptor (body_of request) h.ranged, body_again request h.fits) refl

pub read_is_spelled : (kind : RequestKind) (descriptor : ℕ) (request : Request) (bytes : List ℕ) → IsBytes bytes → read_request kind bytes ≡ Ok (descriptor, request) → IsRequest kind descriptor request bytes
unfolding read_request
read_is_spelled kind descriptor request bytes fits e =
    let a = bind_ok (headers_at bytes) (λ headers. body_in kind headers.1 >>= λ request. Ok (headers.0, request)) (descriptor, request) e in
    let b = bind_ok (body_in kind a.0.1) (λ request. Ok (a.0.0, request)) (descriptor, request) a.2 in
    let headers = headers_take bytes a.0 fits a.1 in
    let body = body_takes kind a.0.1 b.0 headers.fits b.1 in
    subst (λ (x : ℕ × Request). IsRequest kind x.0 x.1 bytes) (ok_is (a.0.0, b.0) (descriptor, request) b.2)
    (record { kind_is = body.kind_is; spelled = headers.spelled ∙ ap (λ (x : List ℕ). all_headers a.0.0 ++ x) body.spelled; fits = body.fits; ranged = headers.ranged })
