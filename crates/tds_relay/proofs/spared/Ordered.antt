-- What is ordered stays so.
use Rattle.std.proofs.Common.{◌≡◌, ◌∙◌, Bool, true, false, List, [], ◌∷◌, ◌++◌, Option, Some, None, refl, sym, ap, append_assoc, append-nil, if◌then◌else◌}
use Rattle.std.specs.Prelude.{Result, Ok, Err, OnOk}
use Rattle.tds_relay.specs.declared.application.Application.{Application}
use Rattle.tds_relay.specs.declared.order.Order.{Order}
use Rattle.tds_relay.specs.declared.order.Order.TheVariants as orders
use Rattle.tds_relay.specs.Law.{closing}
use Rattle.tds_relay.specs.Ordering.{StayOrdered}
use Rattle.tds_relay.specs.Places.{is_closed}

pub ordered_same : (a b : List Order) → b ≡ a → StayOrdered a b
ordered_same a b same = ([], same ∙ sym (append-nil a))

pub ordered_refl : (a : List Order) → StayOrdered a a
ordered_refl a = ordered_same a a refl

pub ordered_both : (a b c : List Order) → StayOrdered a b → StayOrdered b c → StayOrdered a c
ordered_both a b c h k = (h.0 ++ k.0, k.1 ∙ ap (λ (xs : List Order). xs ++ k.0) h.1 ∙ append_assoc a h.0 k.0)

pub ordered_on : {A E : Type 0} (r : Result A E) (a b c : List Order) → OnOk r (StayOrdered b c) → StayOrdered a b → OnOk r (StayOrdered a c)
ordered_on (Ok x) a b c k h = ordered_both a b c h k
ordered_on (Err e) a b c k h = tt

-- nothing is ordered in between
pub ordered_more : (a b c d : List Order) → StayOrdered a b → c ≡ b → StayOrdered c d → StayOrdered a d
ordered_more a b c d h same k = ordered_both a c d (ordered_both a b c h (ordered_same b c same)) k

closing_by : (b : Bool) (x : Order) (all : List Order) → StayOrdered all (if b then all else all ++ x ∷ [])
closing_by true x all = ordered_refl all
closing_by false x all = (x ∷ [], refl)

-- who is to be closed is ordered closed
pub closing_stays : (o : Option Application) (all : List Order) → StayOrdered all (closing o all)
closing_stays None all = ordered_refl all
closing_stays (Some a) all = closing_by (is_closed a) (orders.Close a.tag) all

pub ordered_closed : (o : Option Application) (a b : List Order) → b ≡ closing o a → StayOrdered a b
ordered_closed o a b is =
    let x = closing_stays o a in
    (x.0, is ∙ x.1)

pub ordered_closing : {A E : Type 0} (r : Result A E) (o : Option Application) (a b c : List Order) → OnOk r (c ≡ closing o b) → StayOrdered a b → OnOk r (StayOrdered a c)
ordered_closing (Ok x) o a b c is h =
    let x = closing_stays o b in
    ordered_both a b c h (x.0, is ∙ x.1)
ordered_closing (Err e) o a b c is h = tt
