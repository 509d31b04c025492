-- Reading a list of bytes never wants memory: none of its faults is that one.
use Rattle.std.proofs.Common.{◌≡◌, ℕ, Bool, true, false, cond, eqb, ltb, nat_le, List, [], ◌∷◌, length, None, Some, Result, Ok, Err, refl, subst, ap, ◌∙◌, rules}
use Rattle.std.specs.Int.{Width, w16, w32, w64, byte_len}
use Rattle.tds_request.specs.declared.fault.RequestFault.{RequestFault}
use Rattle.tds_request.specs.declared.fault.RequestFault.TheVariants.{Short, WrongTotalLength, WrongHeader, WrongCount, WrongTextLength, WrongRequestType, WrongIsolation, WrongName, WrongFlags, BytesLeftOver, Memory}
use Rattle.tds_request.specs.declared.request.Request.TheVariants as requests
use Rattle.tds_request.specs.declared.request.RequestKind.{RequestKind}
use Rattle.tds_request.specs.declared.request.RequestKind.TheVariants as kinds
use Rattle.tds_request.specs.Faults.{fault_number}
use Rattle.tds_request.specs.Reading.{Gives, ◌>>=◌, number_at, byte_at, number_is_at, byte_is_at, header_fields_at, headers_at, is_text_length, batch_in, ended, isolation_of, begun_in, begun_anew_in, end_in, transaction_in, body_in, read_request}

-- it is no want of memory
abbrev IsFree : {A : Type 0} → Result A RequestFault → Type 0
IsFree (Ok x) = Unit {0}
IsFree (Err fault) = eqb (fault_number fault) 11 ≡ false

free_bind : {A B : Type 0} (r : Result A RequestFault) (f : A → Result B RequestFault) → IsFree r → ((x : A) → IsFree (f x)) → IsFree (r >>= f)
free_bind (Ok x) f free next = next x
free_bind (Err d) f free next = free

free_cond : {A : Type 0} (b : Bool) (x y : Result A RequestFault) → IsFree x → IsFree y → IsFree (cond b x y)
free_cond true x y hx hy = hx
free_cond false x y hx hy = hy

free_byte : (bytes : List ℕ) → IsFree (byte_at bytes)
free_byte [] = refl
free_byte (b ∷ rest) = tt

free_number : (w : Width) (bytes : List ℕ) → IsFree (number_at w bytes)
free_number w bytes = free_cond (ltb (length bytes) (byte_len w)) _ _ refl tt

free_number_is : (w : Width) (wanted : ℕ) (wrong : RequestFault) (bytes : List ℕ) → eqb (fault_number wrong) 11 ≡ false → IsFree (number_is_at w wanted wrong bytes)
unfolding number_is_at
free_number_is w wanted wrong bytes h = free_bind (number_at w bytes) _ (free_number w bytes) (λ found. free_cond (eqb found.0 wanted) (Ok found.1) (Err wrong) tt h)

free_byte_is : (wanted : ℕ) (wrong : RequestFault) (bytes : List ℕ) → eqb (fault_number wrong) 11 ≡ false → IsFree (byte_is_at wanted wrong bytes)
unfolding byte_is_at
free_byte_is wanted wrong bytes h = free_bind (byte_at bytes) _ (free_byte bytes) (λ found. free_cond (eqb found.0 wanted) (Ok found.1) (Err wrong) tt h)

free_fields : (bytes : List ℕ) → IsFree (header_fields_at bytes)
unfolding header_fields_at
free_fields bytes =
    free_bind (number_is_at w32 22 WrongTotalLength bytes) _ (free_number_is w32 22 WrongTotalLength bytes refl) (λ r1.
    free_bind (number_is_at w32 18 WrongHeader r1) _ (free_number_is w32 18 WrongHeader r1 refl) (λ r2.
    free_bind (number_is_at w16 2 WrongHeader r2) _ (free_number_is w16 2 WrongHeader r2 refl) (λ r3.
    free_bind (number_at w64 r3) _ (free_number w64 r3) (λ descriptor.
    free_bind (number_is_at w32 1 WrongCount descriptor.1) _ (free_number_is w32 1 WrongCount descriptor.1 refl) (λ rest.
    tt)))))

free_headers : (bytes : List ℕ) → IsFree (headers_at bytes)
unfolding headers_at
free_headers bytes = free_cond (ltb (length bytes) 22) (Err Short) (header_fields_at bytes) refl (free_fields bytes)

free_batch : (bytes : List ℕ) → IsFree (batch_in bytes)
unfolding batch_in
free_batch bytes = free_cond (is_text_length (length bytes)) _ (Err WrongTextLength) tt refl

free_ended : {A : Type 0} (value : A) (rest : List ℕ) → IsFree (ended value rest)
free_ended value rest = free_cond (eqb (length rest) 0) (Ok value) (Err BytesLeftOver) tt refl

free_begun : (payload : List ℕ) → IsFree (begun_in payload)
unfolding begun_in
free_begun payload =
    free_bind (byte_at payload) _ (free_byte payload) (λ number.
    free_bind (isolation_of number.0) _ (free_cond (nat_le number.0 5) (Ok number.0) (Err WrongIsolation) tt refl) (λ level.
    free_bind (byte_is_at 0 WrongName number.1) _ (free_byte_is 0 WrongName number.1 refl) (λ rest.
    free_ended level rest)))

free_begun_anew : (flags : ℕ) (rest : List ℕ) → IsFree (begun_anew_in flags rest)
unfolding begun_anew_in
free_begun_anew flags rest =
    free_cond (eqb flags 0) (ended None rest) _ (free_ended None rest)
    (free_cond (eqb flags 1) (begun_in rest >>= λ level. Ok (Some level)) (Err WrongFlags) (free_bind (begun_in rest) _ (free_begun rest) (λ level. tt)) refl)

free_end : (payload : List ℕ) → IsFree (end_in payload)
unfolding end_in
free_end payload =
    free_bind (byte_is_at 0 WrongName payload) _ (free_byte_is 0 WrongName payload refl) (λ name.
    free_bind (byte_at name) _ (free_byte name) (λ flags.
    free_begun_anew flags.0 flags.1))

free_transaction : (bytes : List ℕ) → IsFree (transaction_in bytes)
unfolding transaction_in
free_transaction bytes =
    free_bind (number_at w16 bytes) _ (free_number w16 bytes) (λ type.
    free_cond (eqb type.0 5) (begun_in type.1 >>= λ level. Ok (requests.Begin level)) _ (free_bind (begun_in type.1) _ (free_begun type.1) (λ level. tt))
    (free_cond (eqb type.0 7) (end_in type.1 >>= λ anew. Ok (requests.Commit anew)) _ (free_bind (end_in type.1) _ (free_end type.1) (λ anew. tt))
    (free_cond (eqb type.0 8) (end_in type.1 >>= λ anew. Ok (requests.Rollback anew)) (Err WrongRequestType) (free_bind (end_in type.1) _ (free_end type.1) (λ anew. tt)) refl)))

free_body : (kind : RequestKind) (bytes : List ℕ) → IsFree (body_in kind bytes)
free_body kinds.Batch bytes = free_batch bytes
free_body kinds.Transaction bytes = free_transaction bytes

free_request : (kind : RequestKind) (bytes : List ℕ) → IsFree (read_request kind bytes)
unfolding read_request
free_request kind bytes =
    free_bind (headers_at bytes) _ (free_headers bytes) (λ headers.
    free_bind (body_in kind headers.1) _ (free_body kind headers.1) (λ request.
    tt))

pub no_memory_fault : (kind : RequestKind) (bytes : List ℕ) → read_request kind bytes ≡ Err Memory → ⊥
no_memory_fault kind bytes e = let h : true ≡ false = subst IsFree e (free_request kind bytes) in absurd cc

-- what reading gives where a function answers want of memory
pub gives_memory : {X Y : Type 0} (view : X → Y) (result : Result X RequestFault) (read : Result Y RequestFault) → Gives view result read → result ≡ Err Memory → read ≡ Err Memory
gives_memory view (Ok x) read h e = absurd cc
gives_memory view (Err fault) read h e = let is : fault ≡ Memory = search rules in h ∙ ap (λ (f : RequestFault). Err f) is

pub no_memory_in_headers : (bytes : List ℕ) → headers_at bytes ≡ Err Memory → ⊥
no_memory_in_headers bytes e = let h : true ≡ false = subst IsFree e (free_headers bytes) in absurd cc

pub no_memory_in_transaction : (bytes : List ℕ) → transaction_in bytes ≡ Err Memory → ⊥
no_memory_in_transaction bytes e = let h : true ≡ false = subst IsFree e (free_transaction bytes) in absurd cc
