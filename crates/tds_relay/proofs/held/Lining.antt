-- The line of those who wait, and who of them is lent a connection.
use Rattle.std.proofs.Common.{◌≡◌, ◌∙◌, ◌==◌, ℕ, not, Bool, true, false, List, [], ◌∷◌, ◌++◌, refl, sym, ap, subst, inl, inr}
use Rattle.std.specs.Prelude.{Option, Some, None, filter, if◌then◌else◌}
use Rattle.tds_wire.specs.declared.told.Token.{Token}
use Rattle.tds_relay.specs.declared.pool.Hold.{Hold}
use Rattle.tds_service.specs.Service as calls
use Rattle.tds_service.specs.Service.{Service, Call, lease_at, seat_numbered, step}
use Rattle.tds_relay.specs.Pool as pool
use Rattle.tds_relay.specs.Pool.{Pool, Event, Action, Way, find_key, holding, lent_in, ticket_in, turn}
use Rattle.tds_relay.specs.Promises.{IsAmong, comes_to_wait, LendsFirst}

-- ---- The line

among_same : (xs ys : List ℕ) → IsAmong xs (xs ++ ys)
among_same [] ys = tt
among_same (x ∷ xs) ys = inl (refl, among_same xs ys)

among_less : (x : ℕ) (xs ys : List ℕ) → IsAmong (x ∷ xs) ys → IsAmong xs ys
among_less x xs [] h = absurd h
among_less x [] (y ∷ ys) h = tt
among_less x (z ∷ zs) (y ∷ ys) (inl h) = inr h.1
among_less x (z ∷ zs) (y ∷ ys) (inr h) = inr (among_less x (z ∷ zs) ys h)

among_more : (y : ℕ) (xs ys : List ℕ) → IsAmong xs ys → IsAmong xs (y ∷ ys)
among_more y [] ys h = tt
among_more y (x ∷ xs) ys h = inr h

among_all : (xs : List ℕ) → IsAmong xs xs
among_all [] = tt
among_all (x ∷ xs) = inl (refl, among_all xs)

kept_among : (y : ℕ) (xs ys zs : List ℕ) (b : Bool) → IsAmong xs (ys ++ zs) → IsAmong (if b then y ∷ xs else xs) (y ∷ (ys ++ zs))
kept_among y xs ys zs true h = inl (refl, h)
kept_among y xs ys zs false h = among_more y xs (ys ++ zs) h

filtered_among : (p : ℕ → Bool) (ys zs : List ℕ) → IsAmong (filter p ys) (ys ++ zs)
filtered_among p [] zs = tt
filtered_among p (y ∷ ys) zs = kept_among y (filter p ys) ys zs (p y) (filtered_among p ys zs)

serves_among : (d : Pool) (key : ℕ) (others : List ℕ) (o : Option pool.Loan) → d.line ≡ key ∷ others → IsAmong (pool.serves_by d key others o).pool.line (d.line ++ [])
serves_among d key others None e = among_same d.line []
serves_among d key others (Some lent) e = subst (λ (ks : List ℕ). IsAmong others (ks ++ [])) (sym e) (among_more key others (others ++ []) (among_same others []))

serves_line : (d : Pool) (waiting : List ℕ) → d.line ≡ waiting → IsAmong (pool.serves d waiting).pool.line (d.line ++ [])
serves_line d [] e = among_same d.line []
serves_line d (key ∷ others) e = serves_among d key others (lent_in (step {T = Token} d.service calls.Lease).reply) e

brings_line : (d : Pool) (s : Service) (gives : Bool) (way : Way) (o : Option pool.Loan) → IsAmong (pool.brings_by d s gives way o).pool.line (d.line ++ [])
brings_line d s gives way None = among_same d.line []
brings_line d s gives way (Some lent) = among_same d.line []

does_line : (d : Pool) (action : Action) (o : Option Hold) → IsAmong (pool.holder_does d action o).pool.line (d.line ++ [])
does_line d action None = among_same d.line []
does_line d action (Some h) = among_same d.line []

leaves_line : (d : Pool) (key : ℕ) (gives : Bool) (way : Way) (o : Option Hold) → IsAmong (pool.leaves d key gives way o).pool.line (d.line ++ [])
leaves_line d key gives way None = filtered_among (λ (k : ℕ). not (k == key)) d.line []
leaves_line d key gives way (Some h) = filtered_among (λ (k : ℕ). not (k == key)) d.line []

renews_by_line : (d : Pool) (h : Hold) (ticket : ℕ) (o : Option pool.Loan) (resumes : Bool) → IsAmong (pool.renews_by d h ticket o resumes).pool.line (d.line ++ [])
renews_by_line d h ticket o false = among_same d.line []
renews_by_line d h ticket None true = among_same d.line []
renews_by_line d h ticket (Some lent) true = among_same d.line []

keeps_by_line : (d : Pool) (h : Hold) (resumes : Bool) (s : Service) (o : Option ℕ) → IsAmong (pool.keeps_by d h resumes s o).pool.line (d.line ++ [])
keeps_by_line d h resumes s None = among_same d.line []
keeps_by_line d h resumes s (Some ticket) = renews_by_line d h ticket (lent_in (step {T = Token} s (calls.Resume ticket)).reply) resumes

renews_line : (d : Pool) (resumes : Bool) (o : Option Hold) → IsAmong (pool.renews d resumes o).pool.line (d.line ++ [])
renews_line d resumes None = among_same d.line []
renews_line d resumes (Some h) =
    let kept = step {T = Token} d.service (calls.Keep h.lease) in
    keeps_by_line d h resumes kept.service (ticket_in kept.reply)

comes_line : (d : Pool) (call : Call Token) (s : Service) (n : ℕ) (way : Way) (lease : Option ℕ) (h : pool.Hearing) → IsAmong (pool.comes_by d call s n way lease h).pool.line (d.line ++ [])
comes_line d call s n way lease pool.Goes = among_same d.line []
comes_line d call s n way lease pool.Settled = among_same d.line []
comes_line d call s n way lease pool.Wrong = among_same d.line []

pub keeps_order : (d : Pool) (event : Event) → IsAmong (turn d event).pool.line (d.line ++ comes_to_wait event)
keeps_order d (pool.Waits key) = among_all (d.line ++ key ∷ [])
keeps_order d (pool.Unwaits key) = filtered_among (λ (k : ℕ). not (k == key)) d.line []
keeps_order d pool.Serves = serves_line d d.line refl
keeps_order d (pool.Brings gives way) =
    let lent = step {T = Token} d.service calls.Lease in
    brings_line d lent.service gives way (lent_in lent.reply)
keeps_order d (pool.Does key action) = does_line d action (find_key key d.holds)
keeps_order d (pool.Leaves key gives way) = leaves_line d key gives way (find_key key d.holds)
keeps_order d (pool.Renews key resumes) = renews_line d resumes (find_key key d.holds)
keeps_order d (pool.Comes number part way) =
    let heard = step d.service (calls.Came number part) in
    comes_line d (calls.Came number part) heard.service number way (lease_at (seat_numbered number d.service.seats)) (pool.hearing heard.dones)
keeps_order d (pool.Loses number) = among_same d.line []

one_longer : (hs : List Hold) (h : Hold) → hs ≡ hs ++ h ∷ [] → ⊥
one_longer [] h e = let u : ⊥ = cc in u
one_longer (x ∷ xs) h e = one_longer xs h (let u : xs ≡ xs ++ h ∷ [] = cc in u)

last_same : (hs : List Hold) (x y : Hold) → hs ++ x ∷ [] ≡ hs ++ y ∷ [] → x ≡ y
last_same [] x y e = let u : x ≡ y = cc in u
last_same (z ∷ zs) x y e = last_same zs x y (let u : zs ++ x ∷ [] ≡ zs ++ y ∷ [] = cc in u)

first_by_loan : (d : Pool) (key : ℕ) (others : List ℕ) (o : Option pool.Loan) (h : Hold) → d.line ≡ key ∷ others → (pool.serves_by d key others o).pool.holds ≡ d.holds ++ h ∷ []
    → d.line ≡ h.key ∷ (pool.serves_by d key others o).pool.line
first_by_loan d key others None h e more = absurd (one_longer d.holds h more)
first_by_loan d key others (Some lent) h e more =
    let same : holding key lent.lease lent.number ≡ h = last_same d.holds (holding key lent.lease lent.number) h more in
    e ∙ ap (λ (x : Hold). x.key ∷ others) same

first_by_line : (d : Pool) (waiting : List ℕ) (h : Hold) → d.line ≡ waiting → (pool.serves d waiting).pool.holds ≡ d.holds ++ h ∷ [] → d.line ≡ h.key ∷ (pool.serves d waiting).pool.line
first_by_line d [] h e more = absurd (one_longer d.holds h more)
first_by_line d (key ∷ others) h e more = first_by_loan d key others (lent_in (step {T = Token} d.service calls.Lease).reply) h e more

pub lends_first : (d : Pool) → LendsFirst d
lends_first d h more = first_by_line d d.line h refl more
