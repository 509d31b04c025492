-- How often what is called so is ordered closed.
use Rattle.std.proofs.Common.{◌≡◌, ◌∙◌, ◌==◌, ◌+◌, ℕ, suc, Bool, true, false, List, [], ◌∷◌, ◌++◌, Some, None, inl, inr, refl, sym, ap, arith, if◌then◌else◌}
use Rattle.std.proofs.lemmas.Bool.{eqb-true}
use Rattle.tds_relay.specs.declared.order.Order.{Order}
use Rattle.tds_relay.specs.declared.order.Order.TheVariants as orders
use Rattle.tds_relay.specs.Closings.{AConnection, AnApplication, ClosesOnce, IsOneCalled, Named, Register, name_in_register, open_name, times_closed}
use Rattle.tds_relay.specs.Sending.{called_at}

-- ---- Orders

more_if : (b : Bool) (m n c : ℕ) → m ≡ n + c → (if b then suc m else m) ≡ (if b then suc n else n) + c
more_if true m n c e = omega (arith, e)
more_if false m n c e = e

none_more : (n : ℕ) → n ≡ 0 + n
none_more n = omega arith

times_last : (tag : ℕ) (x : Order) (all : List Order) → times_closed tag (all ++ x ∷ []) ≡ times_closed tag all + times_closed tag (x ∷ [])
times_last tag x [] = none_more (times_closed tag (x ∷ []))
times_last tag x (orders.Open number ∷ all) = times_last tag x all
times_last tag x (orders.Write named ∷ all) = times_last tag x all
times_last tag x (orders.Close named ∷ all) = more_if (named == tag) (times_closed tag (all ++ x ∷ [])) (times_closed tag all) (times_closed tag (x ∷ [])) (times_last tag x all)

no_more : (m n c : ℕ) → m ≡ n + c → c ≡ 0 → m ≡ n
no_more m n c e f = omega (arith, e, f)

one_more : (m n c : ℕ) → m ≡ n + c → c ≡ suc 0 → m ≡ suc n
one_more m n c e f = omega (arith, e, f)

pub times_other : (tag : ℕ) (x : Order) (a b : List Order) → b ≡ a ++ x ∷ [] → times_closed tag (x ∷ []) ≡ 0 → times_closed tag b ≡ times_closed tag a
times_other tag x a b are none = ap (times_closed tag) are ∙ no_more (times_closed tag (a ++ x ∷ [])) (times_closed tag a) (times_closed tag (x ∷ [])) (times_last tag x a) none

-- ---- One call behind the other

pub were_named : (a b : Register) (tag : ℕ) → ((key : ℕ) → open_name key b ≡ Some tag → open_name key a ≡ Some tag) → ((number : ℕ) → called_at number b.links ≡ Some tag → called_at number a.links ≡ Some tag)
    → (x : Named) → name_in_register x b ≡ Some tag → name_in_register x a ≡ Some tag
were_named a b tag names called (AnApplication key) e = names key e
were_named a b tag names called (AConnection number) e = called number e

pub one_called_on : (a b : Register) (tag : ℕ) → ((x : Named) → name_in_register x b ≡ Some tag → name_in_register x a ≡ Some tag) → IsOneCalled tag a → IsOneCalled tag b
one_called_on a b tag were one = λ x y e f. one x y (were x e) (were y f)

pub once_then : (tag : ℕ) (a b c : Register) → ((x : Named) → name_in_register x b ≡ Some tag → name_in_register x a ≡ Some tag) → ((x : Named) → name_in_register x c ≡ Some tag → name_in_register x b ≡ Some tag)
    → ClosesOnce tag a b → ClosesOnce tag b c → ClosesOnce tag a c
once_then tag a b c were later (inl e) (inl f) = inl (f ∙ e)
once_then tag a b c were later (inl e) (inr f) = inr (f.0 ∙ ap suc e, (f.1.0, were f.1.0 f.1.1), f.2)
once_then tag a b c were later (inr e) (inl f) = inr (f ∙ e.0, e.1, λ x p. e.2 x (later x p))
once_then tag a b c were later (inr e) (inr f) = absurd (e.2 f.1.0 f.1.1)

once_by : (tag : ℕ) (a b c d : Register) → ((x : Named) → name_in_register x c ≡ name_in_register x a) → ((x : Named) → name_in_register x d ≡ name_in_register x b) → c.orders ≡ a.orders → d.orders ≡ b.orders
    → ClosesOnce tag a b → ClosesOnce tag c d
once_by tag a b c d first later was are (inl e) = inl (ap (times_closed tag) are ∙ e ∙ ap (times_closed tag) (sym was))
once_by tag a b c d first later was are (inr e) =
    inr (ap (times_closed tag) are ∙ e.0 ∙ ap (λ (xs : List Order). suc (times_closed tag xs)) (sym was), (e.1.0, first e.1.0 ∙ e.1.1), λ x p. e.2 x (sym (later x) ∙ p))

-- where all is called as in those
pub once_as : (tag : ℕ) (a b c d : Register) → ((x : Named) → name_in_register x c ≡ name_in_register x a) → ((x : Named) → name_in_register x d ≡ name_in_register x b) → c.orders ≡ a.orders → d.orders ≡ b.orders
    → (IsOneCalled tag a → ClosesOnce tag a b) → IsOneCalled tag c → ClosesOnce tag c d
once_as tag a b c d first later was are once one = once_by tag a b c d first later was are (once (λ x y e f. one x y (first x ∙ e) (first y ∙ f)))

pub same_named : (a b : Register) → ((key : ℕ) → open_name key b ≡ open_name key a) → ((number : ℕ) → called_at number b.links ≡ called_at number a.links) → (x : Named) → name_in_register x b ≡ name_in_register x a
same_named a b names called (AnApplication key) = names key
same_named a b names called (AConnection number) = called number

-- ---- One is ordered closed

ordered_by : (tag t : ℕ) (c : Bool) (x : Named) (a b : Register) → (t == tag) ≡ c → b.orders ≡ a.orders ++ orders.Close t ∷ [] → name_in_register x a ≡ Some t → name_in_register x b ≡ None
    → ((y : Named) → name_in_register y b ≡ Some tag → name_in_register y a ≡ Some tag) → IsOneCalled tag a → ClosesOnce tag a b
ordered_by tag t false x a b differs are was gone were one =
    inl (times_other tag (orders.Close t) a.orders b.orders are (ap (λ (d : Bool). if d then suc 0 else 0) differs))
ordered_by tag t true x a b same are was gone were one =
    let its : name_in_register x a ≡ Some tag = was ∙ ap (λ (n : ℕ). Some n) (eqb-true t tag same) in
    inr (
      ap (times_closed tag) are ∙ one_more (times_closed tag (a.orders ++ orders.Close t ∷ [])) (times_closed tag a.orders) (times_closed tag (orders.Close t ∷ [])) (times_last tag (orders.Close t) a.orders) (ap (λ (d : Bool). if d then suc 0 else 0) same),
      (x, its),
      λ y e.
          let is : y ≡ x = one y x (were y e) its in
          let u : None ≡ Some tag = sym gone ∙ ap (λ (z : Named). name_in_register z b) (sym is) ∙ e in
          (let v : ⊥ = cc in v),
    )

pub ordered_once : (tag t : ℕ) (x : Named) (a b : Register) → b.orders ≡ a.orders ++ orders.Close t ∷ [] → name_in_register x a ≡ Some t → name_in_register x b ≡ None
    → ((y : Named) → name_in_register y b ≡ Some tag → name_in_register y a ≡ Some tag) → IsOneCalled tag a → ClosesOnce tag a b
ordered_once tag t x a b are was gone were one = ordered_by tag t (t == tag) x a b refl are was gone were one
