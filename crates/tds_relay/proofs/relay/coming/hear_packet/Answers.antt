use Rattle.std.proofs.Common.{◌≡◌, ◌∙◌, ◌&&◌, not, Bool, Option, ap, false, inl, refl, rules, sym, true, Some, ℕ, subst}
use Rattle.std.specs.Prelude.{IsSome}
use Rattle.tds_service.specs.Table.{reading_on}
use Rattle.tds_relay.specs.declared.link.News.{News}
use Rattle.tds_relay.specs.Pool.{owes_reset, whose}
use Rattle.tds_relay.specs.declared.pool.coming.What.TheVariants as whats
use Rattle.tds_relay.specs.Fronts.{own_end, ends_in}
use Rattle.tds_relay.specs.Core.{End}
use Rattle.tds_relay.specs.Handing.{IsBy, PassesAs, IsKnown, news_for}
use Rattle.tds_relay.specs.Machine.{IsTold, Withheld, closes_connection, end_whose, handed, hears_of_reset, is_said, news_in}
use Rattle.tds_relay.specs.Queues.{queues_in, names_of}
use Rattle.tds_relay.specs.Ties.{Connection, pool_in, part_on}
use Rattle.tds_relay.proofs.steps.Fronts.{ends_kept}
use Rattle.tds_relay.proofs.steps.Handed.{cut_as, end_whose_is, handed_for, handed_is, has_parser, knows_by, passing, to_absent, to_closed, to_deaf, to_nobody, to_one, withheld_for, withheld_is}
use Rattle.tds_relay.proofs.steps.Queueing.{queues_kept}
use Rattle.tds_relay.proofs.steps.Reaching.{reaches_turn}
use Rattle.tds_relay.proofs.steps.Resets.{heard_so, told_for, unowed}
use Rattle.tds_relay.proofs.bytes.Reader.{has_read}
use Rattle.tds_relay.proofs.steps.Renaming.{names_handed}
use Rattle.tds_relay.proofs.steps.Bodied.{asks_kept}
use Rattle.tds_relay.proofs.seats.Counting.{stays_refl}
use Rattle.tds_relay.proofs.spared.Losing.{cleans_as}
use Rattle.tds_relay.proofs.lending.Awaiting.{nobodys_cleaned, unheard_cleaned}
use Rattle.tds_relay.proofs.relay.coming.hear_packet.Goals as goal

-- where it isn't handed on
none : News
none = news_for false false false false

pub returns-then-matches-clause-goes : goal.returns-then-matches-clause-goes
returns-then-matches-clause-goes c = λ from h. reaches_turn (Connection c.args.number) from _ _ _ _ _ c.in_ok-heard.ensures.ok.1 refl h

pub returns-in_default-key-clause-goes : goal.returns-in_default-key-clause-goes
returns-in_default-key-clause-goes c = λ from h. reaches_turn (Connection c.args.number) from _ _ _ _ _ c.in_ok-heard.ensures.ok.1 refl h

pub returns-clause-goes : goal.returns-clause-goes
returns-clause-goes c = λ from h. reaches_turn (Connection c.args.number) from _ _ _ _ _ c.in_ok-heard.ensures.ok.1 refl h

pub returns-in_default-get_mut-clause-goes : goal.returns-in_default-get_mut-clause-goes
returns-in_default-get_mut-clause-goes c = λ from h. reaches_turn (Connection c.args.number) from _ _ _ _ _ c.in_ok-heard.ensures.ok.1 refl h

pub returns-then-not-hears-clause-goes : goal.returns-then-not-hears-clause-goes
returns-then-not-hears-clause-goes c = λ from h. reaches_turn (Connection c.args.number) from _ _ _ _ _ c.in_ok-heard.ensures.ok.1 refl h

pub returns-then-matches-clause-brings : goal.returns-then-matches-clause-brings
returns-then-matches-clause-brings c =
    let turned = c.in_ok-heard.ensures.ok in
    let heard = c.in_ok-heard.heard in
    let d = pool_in c.args.pool.now in
    let es = ends_in c.args.applications.now in
    let queues = queues_in c.args.applications.now in
    let parser = reading_on c.args.number c.args.pool.now.service in
    let there : (key : ℕ) → whose d c.args.number ≡ Some key → IsSome parser = λ key e. has_parser d c.args.number key c.args.pool.now.service.seats.items refl e in
    let unsaid : is_said heard.what (end_whose heard.key es) ≡ false = to_closed heard.what (end_whose heard.key es) (search rules) in
    passing c.args.number parser none c.args.link.now.answer c.args.link.now.answer c.args.link.now.reader heard d _ es queues _ c.in-Some.packet.header c.in-Some.packet.«data».now c.ends-ends.result turned.0 Withheld _ _
    c.in-Some.ensures.lent c.ends-ends.ensures turned.1 c.in_ok-heard.ensures.whose c.in_ok-heard.ensures.heard there
    (withheld_for _ none c.args.link.now.answer _ _ unsaid) refl tt (withheld_is (whose d c.args.number) c.in-Some.packet.header c.in-Some.packet.«data».now queues)

pub returns-in_default-key-clause-brings : goal.returns-in_default-key-clause-brings
returns-in_default-key-clause-brings c =
    let turned = c.in_ok-heard.ensures.ok in
    let heard = c.in_ok-heard.heard in
    let d = pool_in c.args.pool.now in
    let es = ends_in c.args.applications.now in
    let queues = queues_in c.args.applications.now in
    let parser = reading_on c.args.number c.args.pool.now.service in
    let there : (key : ℕ) → whose d c.args.number ≡ Some key → IsSome parser = λ key e. has_parser d c.args.number key c.args.pool.now.service.seats.items refl e in
    let unsaid : is_said heard.what (end_whose heard.key es) ≡ false = to_nobody heard.what heard.key es (search rules) in
    passing c.args.number parser none c.args.link.now.answer c.args.link.now.answer c.args.link.now.reader heard d _ es queues _ c.in-Some.packet.header c.in-Some.packet.«data».now c.ends-ends.result turned.0 Withheld _ _
    c.in-Some.ensures.lent c.ends-ends.ensures turned.1 c.in_ok-heard.ensures.whose c.in_ok-heard.ensures.heard there
    (withheld_for _ none c.args.link.now.answer _ _ unsaid) refl tt (withheld_is (whose d c.args.number) c.in-Some.packet.header c.in-Some.packet.«data».now queues)

pub returns-in_default-get_mut-clause-brings : goal.returns-in_default-get_mut-clause-brings
returns-in_default-get_mut-clause-brings c =
    let turned = c.in_ok-heard.ensures.ok in
    let heard = c.in_ok-heard.heard in
    let d = pool_in c.args.pool.now in
    let es = ends_in c.args.applications.now in
    let queues = queues_in c.args.applications.now in
    let parser = reading_on c.args.number c.args.pool.now.service in
    let there : (key : ℕ) → whose d c.args.number ≡ Some key → IsSome parser = λ key e. has_parser d c.args.number key c.args.pool.now.service.seats.items refl e in
    let unsaid : is_said heard.what (end_whose heard.key es) ≡ false = to_absent heard.what c.args.applications.now heard.key c.in-Some-key.key (search rules) (search rules) in
    passing c.args.number parser none c.args.link.now.answer c.args.link.now.answer c.args.link.now.reader heard d _ es queues _ c.in-Some.packet.header c.in-Some.packet.«data».now c.ends-ends.result turned.0 Withheld _ _
    c.in-Some.ensures.lent c.ends-ends.ensures turned.1 c.in_ok-heard.ensures.whose c.in_ok-heard.ensures.heard there
    (withheld_for _ none c.args.link.now.answer _ _ unsaid) refl tt (withheld_is (whose d c.args.number) c.in-Some.packet.header c.in-Some.packet.«data».now queues)

pub returns-then-not-hears-clause-brings : goal.returns-then-not-hears-clause-brings
returns-then-not-hears-clause-brings c =
    let turned = c.in_ok-heard.ensures.ok in
    let heard = c.in_ok-heard.heard in
    let d = pool_in c.args.pool.now in
    let es = ends_in c.args.applications.now in
    let queues = queues_in c.args.applications.now in
    let parser = reading_on c.args.number c.args.pool.now.service in
    let there : (key : ℕ) → whose d c.args.number ≡ Some key → IsSome parser = λ key e. has_parser d c.args.number key c.args.pool.now.service.seats.items refl e in
    let unsaid : is_said heard.what (end_whose heard.key es) ≡ false = to_deaf heard.what c.args.applications.now heard.key c.in-Some-key.key c.in-Some-get_mut.application.now (search rules) c.in-Some-get_mut.ensures.value (search rules) in
    passing c.args.number parser none c.args.link.now.answer c.args.link.now.answer c.args.link.now.reader heard d _ es queues _ c.in-Some.packet.header c.in-Some.packet.«data».now c.ends-ends.result turned.0 Withheld _ _
    c.in-Some.ensures.lent c.ends-ends.ensures turned.1 c.in_ok-heard.ensures.whose c.in_ok-heard.ensures.heard there
    (withheld_for _ none c.args.link.now.answer _ _ unsaid) refl tt (queues_kept c.args.applications.now c.in-Some-key.key c.in-Some-get_mut.application.now c.in-Some-get_mut.application.now c.in-Some-get_mut.ensures.value refl ∙ withheld_is (whose d c.args.number) c.in-Some.packet.header c.in-Some.packet.«data».now queues)

pub returns-clause-brings : goal.returns-clause-brings
returns-clause-brings c =
    let turned = c.in_ok-heard.ensures.ok in
    let heard = c.in_ok-heard.heard in
    let number = c.args.number in
    let header = c.in-Some.packet.header in
    let content = c.in-Some.packet.«data».now in
    let d = pool_in c.args.pool.now in
    let es = ends_in c.args.applications.now in
    let queues = queues_in c.args.applications.now in
    let parser = reading_on number c.args.pool.now.service in
    let there : (key : ℕ) → whose d number ≡ Some key → IsSome parser = λ key e. has_parser d number key c.args.pool.now.service.seats.items refl e in
    let passes = c.in_ok-hand_on.ensures.passes in
    let a = c.in-Some-get_mut.application.now in
    let its : heard.key ≡ Some c.in-Some-key.key = search rules in
    let closed : closes_connection heard.what ≡ false = search rules in
    let hears : is_said whats.Goes (Some (own_end a)) ≡ true = search rules in
    let said : is_said heard.what (end_whose heard.key es) ≡ true = to_one heard.what c.args.applications.now heard.key c.in-Some-key.key a closed its c.in-Some-get_mut.ensures.value hears in
    let part = part_on parser content c.ends-ends.result in
    let mine : whose d number ≡ Some c.in-Some-key.key = sym c.in_ok-heard.ensures.whose ∙ its in
    let told = heard_so d number c.in-Some-key.key part heard turned.0 _ _ _ turned.1 mine its c.in_ok-heard.ensures.heard closed c.owes_reset-owed.result c.owes_reset.result c.owes_reset-owed.ensures c.owes_reset.ensures in
    let asks = c.is_told-asks.ensures hears ∙ ap (λ (o : Option End). hears_of_reset heard.what o) (sym (end_whose_is c.args.applications.now heard.key c.in-Some-key.key a its c.in-Some-get_mut.ensures.value)) in
    let by : IsBy (news_for c.is_told-asks.result (c.owes_reset-owed.result && not c.owes_reset.result) c.owes_reset-owed.result c.holds.result) c.args.link.now.answer header content passes.manner =
    subst (λ (n : News). IsBy n c.args.link.now.answer header content passes.manner) c.news_for-news.ensures passes.by in
    let known : IsKnown (news_for c.is_told-asks.result (c.owes_reset-owed.result && not c.owes_reset.result) c.owes_reset-owed.result c.holds.result) c.args.link.now.answer header content c.hand_on.new.answer =
    subst (λ (n : News). IsKnown n c.args.link.now.answer header content c.hand_on.new.answer) c.news_for-news.ensures c.in_ok-hand_on.ensures.known in
    let counted = ap (λ (b : Bool). news_in b part.items) c.owes_reset-owed.ensures ∙ told in
    let cut : PassesAs (owes_reset number d) c.args.link.now.answer header content part passes.manner c.hand_on.new.answer =
    subst (λ (b : Bool). PassesAs b c.args.link.now.answer header content part passes.manner c.hand_on.new.answer) c.owes_reset-owed.ensures
    (cut_as c.is_told-asks.result (c.owes_reset-owed.result && not c.owes_reset.result) c.owes_reset-owed.result c.holds.result c.args.link.now.answer header content part passes.manner c.hand_on.new.answer c.holds.ensures counted by known) in
    let tells : IsTold (owes_reset number d) (hears_of_reset heard.what (end_whose heard.key es)) passes.manner part =
    subst (λ (b : Bool). IsTold (owes_reset number d) b passes.manner part) asks
    (told_for (owes_reset number d) c.is_told-asks.result (c.owes_reset-owed.result && not c.owes_reset.result) c.owes_reset-owed.result c.holds.result c.args.link.now.answer header content passes.manner part told
    (unowed c.owes_reset-owed.result c.owes_reset.result c.holds.result) by) in
    passing number parser (news_for c.is_told-asks.result (c.owes_reset-owed.result && not c.owes_reset.result) c.owes_reset-owed.result c.holds.result) c.args.link.now.answer c.hand_on.new.answer c.args.link.now.reader heard
    d _ es queues _ header content c.ends-ends.result turned.0 passes.manner _ _
    c.in-Some.ensures.lent c.ends-ends.ensures turned.1 c.in_ok-heard.ensures.whose c.in_ok-heard.ensures.heard there
    (handed_for _ _ c.args.link.now.answer _ _ passes.manner said by) cut tells
    (handed_is (whose d number) c.in-Some-key.key header content passes.manner c.args.applications.now a c.hand_on.new.application
    (sym its ∙ c.in_ok-heard.ensures.whose) c.in-Some-get_mut.ensures.value passes.is)

pub returns-then-not-hears-clause-ends : goal.returns-then-not-hears-clause-ends
returns-then-not-hears-clause-ends c =
    ends_kept c.args.applications.now c.in-Some-key.key c.in-Some-get_mut.application.now c.in-Some-get_mut.application.now c.in-Some-get_mut.ensures.value refl

pub returns-clause-ends : goal.returns-clause-ends
returns-clause-ends c =
    ends_kept c.args.applications.now c.in-Some-key.key c.in-Some-get_mut.application.now c.hand_on.new.application c.in-Some-get_mut.ensures.value c.in_ok-hand_on.ensures.end

pub returns-then-matches-clause-read : goal.returns-then-matches-clause-read
returns-then-matches-clause-read c = has_read c.args.number _ c.in-Some.packet.header c.in-Some.packet.«data».now c.ends-ends.result _ _ c.in-Some.ensures.lent c.ends-ends.ensures c.in_ok-heard.ensures.read

pub returns-in_default-key-clause-read : goal.returns-in_default-key-clause-read
returns-in_default-key-clause-read c = has_read c.args.number _ c.in-Some.packet.header c.in-Some.packet.«data».now c.ends-ends.result _ _ c.in-Some.ensures.lent c.ends-ends.ensures c.in_ok-heard.ensures.read

pub returns-in_default-get_mut-clause-read : goal.returns-in_default-get_mut-clause-read
returns-in_default-get_mut-clause-read c = has_read c.args.number _ c.in-Some.packet.header c.in-Some.packet.«data».now c.ends-ends.result _ _ c.in-Some.ensures.lent c.ends-ends.ensures c.in_ok-heard.ensures.read

pub returns-then-not-hears-clause-read : goal.returns-then-not-hears-clause-read
returns-then-not-hears-clause-read c = has_read c.args.number _ c.in-Some.packet.header c.in-Some.packet.«data».now c.ends-ends.result _ _ c.in-Some.ensures.lent c.ends-ends.ensures c.in_ok-heard.ensures.read

pub returns-clause-read : goal.returns-clause-read
returns-clause-read c = has_read c.args.number _ c.in-Some.packet.header c.in-Some.packet.«data».now c.ends-ends.result _ _ c.in-Some.ensures.lent c.ends-ends.ensures c.in_ok-heard.ensures.read

pub returns-then-not-hears-clause-names : goal.returns-then-not-hears-clause-names
returns-then-not-hears-clause-names c =
    ap names_of (queues_kept c.args.applications.now c.in-Some-key.key c.in-Some-get_mut.application.now c.in-Some-get_mut.application.now c.in-Some-get_mut.ensures.value refl)

pub returns-clause-names : goal.returns-clause-names
returns-clause-names c =
    let passes = c.in_ok-hand_on.ensures.passes in
    let header = c.in-Some.packet.header in
    let content = c.in-Some.packet.«data».now in
    ap names_of (handed_is (Some c.in-Some-key.key) c.in-Some-key.key header content passes.manner c.args.applications.now c.in-Some-get_mut.application.now c.hand_on.new.application refl
    c.in-Some-get_mut.ensures.value passes.is)
    ∙ names_handed (Some c.in-Some-key.key) (handed passes.manner header content) (queues_in c.args.applications.now)

pub returns-then-not-hears-clause-asks : goal.returns-then-not-hears-clause-asks
returns-then-not-hears-clause-asks c =
    asks_kept c.args.applications.now c.in-Some-key.key c.in-Some-get_mut.application.now c.in-Some-get_mut.application.now c.in-Some-get_mut.ensures.value (λ goes. refl)

pub returns-clause-asks : goal.returns-clause-asks
returns-clause-asks c =
    asks_kept c.args.applications.now c.in-Some-key.key c.in-Some-get_mut.application.now c.hand_on.new.application c.in-Some-get_mut.ensures.value c.in_ok-hand_on.ensures.body

pub returns-in_default-clause-asks : goal.returns-in_default-clause-asks
returns-in_default-clause-asks c = λ key goes. refl

pub returns-then-matches-clause-asks : goal.returns-then-matches-clause-asks
returns-then-matches-clause-asks c = λ key goes. refl

pub returns-in_default-key-clause-asks : goal.returns-in_default-key-clause-asks
returns-in_default-key-clause-asks c = λ key goes. refl

pub returns-in_default-get_mut-clause-asks : goal.returns-in_default-get_mut-clause-asks
returns-in_default-get_mut-clause-asks c = λ key goes. refl

pub returns-then-matches-clause-cleans : goal.returns-then-matches-clause-cleans
returns-then-matches-clause-cleans c = λ reached. cleans_as _ _ _ _ _ c.in_ok-heard.ensures.whose (c.in_ok-heard.ensures.cleans reached)

pub returns-in_default-key-clause-cleans : goal.returns-in_default-key-clause-cleans
returns-in_default-key-clause-cleans c = λ reached. cleans_as _ _ _ _ _ c.in_ok-heard.ensures.whose (c.in_ok-heard.ensures.cleans reached)

pub returns-in_default-get_mut-clause-cleans : goal.returns-in_default-get_mut-clause-cleans
returns-in_default-get_mut-clause-cleans c = λ reached. cleans_as _ _ _ _ _ c.in_ok-heard.ensures.whose (c.in_ok-heard.ensures.cleans reached)

pub returns-then-not-hears-clause-cleans : goal.returns-then-not-hears-clause-cleans
returns-then-not-hears-clause-cleans c = λ reached. cleans_as _ _ _ _ _ c.in_ok-heard.ensures.whose (c.in_ok-heard.ensures.cleans reached)

pub returns-clause-cleans : goal.returns-clause-cleans
returns-clause-cleans c = λ reached. cleans_as _ _ _ _ _ c.in_ok-heard.ensures.whose (c.in_ok-heard.ensures.cleans reached)

pub returns-in_default-clause-cleans : goal.returns-in_default-clause-cleans
returns-in_default-clause-cleans c = λ reached not. inl refl

pub returns-in_default-clause-known : goal.returns-in_default-clause-known
returns-in_default-clause-known c = inl refl

pub returns-then-matches-clause-known : goal.returns-then-matches-clause-known
returns-then-matches-clause-known c = inl refl

pub returns-in_default-key-clause-known : goal.returns-in_default-key-clause-known
returns-in_default-key-clause-known c = inl refl

pub returns-in_default-get_mut-clause-known : goal.returns-in_default-get_mut-clause-known
returns-in_default-get_mut-clause-known c = inl refl

pub returns-then-not-hears-clause-known : goal.returns-then-not-hears-clause-known
returns-then-not-hears-clause-known c = inl refl

pub returns-clause-known : goal.returns-clause-known
returns-clause-known c =
    knows_by c.news_for-news.result.is_cut c.news_for-news.result.is_owed c.args.link.now.reader c.args.link.now.answer c.in-Some.packet.header c.in-Some.packet.«data».now c.hand_on.new.answer c.in-Some.ensures.lent
    c.in_ok-hand_on.ensures.known

pub returns-in_default-clause-seats : goal.returns-in_default-clause-seats
returns-in_default-clause-seats c = λ reached. stays_refl c.args.number (pool_in c.args.pool.now).service

pub returns-then-matches-clause-seats : goal.returns-then-matches-clause-seats
returns-then-matches-clause-seats c = λ reached. c.in_ok-heard.ensures.seats reached

pub returns-in_default-key-clause-seats : goal.returns-in_default-key-clause-seats
returns-in_default-key-clause-seats c = λ reached. c.in_ok-heard.ensures.seats reached

pub returns-in_default-get_mut-clause-seats : goal.returns-in_default-get_mut-clause-seats
returns-in_default-get_mut-clause-seats c = λ reached. c.in_ok-heard.ensures.seats reached

pub returns-then-not-hears-clause-seats : goal.returns-then-not-hears-clause-seats
returns-then-not-hears-clause-seats c = λ reached. c.in_ok-heard.ensures.seats reached

pub returns-clause-seats : goal.returns-clause-seats
returns-clause-seats c = λ reached. c.in_ok-heard.ensures.seats reached

pub returns-in_default-clause-holds : goal.returns-in_default-clause-holds
returns-in_default-clause-holds c = inl refl

pub returns-then-matches-clause-holds : goal.returns-then-matches-clause-holds
returns-then-matches-clause-holds c = c.in_ok-heard.ensures.holds

pub returns-in_default-key-clause-holds : goal.returns-in_default-key-clause-holds
returns-in_default-key-clause-holds c = c.in_ok-heard.ensures.holds

pub returns-in_default-get_mut-clause-holds : goal.returns-in_default-get_mut-clause-holds
returns-in_default-get_mut-clause-holds c = c.in_ok-heard.ensures.holds

pub returns-then-not-hears-clause-holds : goal.returns-then-not-hears-clause-holds
returns-then-not-hears-clause-holds c = c.in_ok-heard.ensures.holds

pub returns-clause-holds : goal.returns-clause-holds
returns-clause-holds c = c.in_ok-heard.ensures.holds

pub returns-in_default-clause-leases : goal.returns-in_default-clause-leases
returns-in_default-clause-leases c = λ left. inl refl

pub returns-then-matches-clause-leases : goal.returns-then-matches-clause-leases
returns-then-matches-clause-leases c = c.in_ok-heard.ensures.leases

pub returns-in_default-key-clause-leases : goal.returns-in_default-key-clause-leases
returns-in_default-key-clause-leases c = c.in_ok-heard.ensures.leases

pub returns-in_default-get_mut-clause-leases : goal.returns-in_default-get_mut-clause-leases
returns-in_default-get_mut-clause-leases c = c.in_ok-heard.ensures.leases

pub returns-then-not-hears-clause-leases : goal.returns-then-not-hears-clause-leases
returns-then-not-hears-clause-leases c = c.in_ok-heard.ensures.leases

pub returns-clause-leases : goal.returns-clause-leases
returns-clause-leases c = c.in_ok-heard.ensures.leases

pub returns-in_default-clause-newly : goal.returns-in_default-clause-newly
returns-in_default-clause-newly c = λ reached. unheard_cleaned c.args.number _ _ _ refl

pub returns-then-matches-clause-newly : goal.returns-then-matches-clause-newly
returns-then-matches-clause-newly c = λ reached.
    nobodys_cleaned c.args.number (pool_in c.args.pool.now) _ c.in_ok-heard.heard _ _ reached c.in_ok-heard.ensures.whose (c.in_ok-heard.ensures.newly reached) (c.in_ok-heard.ensures.seats reached)

pub returns-in_default-key-clause-newly : goal.returns-in_default-key-clause-newly
returns-in_default-key-clause-newly c = λ reached.
    nobodys_cleaned c.args.number (pool_in c.args.pool.now) _ c.in_ok-heard.heard _ _ reached c.in_ok-heard.ensures.whose (c.in_ok-heard.ensures.newly reached) (c.in_ok-heard.ensures.seats reached)

pub returns-in_default-get_mut-clause-newly : goal.returns-in_default-get_mut-clause-newly
returns-in_default-get_mut-clause-newly c = λ reached.
    nobodys_cleaned c.args.number (pool_in c.args.pool.now) _ c.in_ok-heard.heard _ _ reached c.in_ok-heard.ensures.whose (c.in_ok-heard.ensures.newly reached) (c.in_ok-heard.ensures.seats reached)

pub returns-then-not-hears-clause-newly : goal.returns-then-not-hears-clause-newly
returns-then-not-hears-clause-newly c = λ reached.
    nobodys_cleaned c.args.number (pool_in c.args.pool.now) _ c.in_ok-heard.heard _ _ reached c.in_ok-heard.ensures.whose (c.in_ok-heard.ensures.newly reached) (c.in_ok-heard.ensures.seats reached)

pub returns-clause-newly : goal.returns-clause-newly
returns-clause-newly c = λ reached.
    nobodys_cleaned c.args.number (pool_in c.args.pool.now) _ c.in_ok-heard.heard _ _ reached c.in_ok-heard.ensures.whose (c.in_ok-heard.ensures.newly reached) (c.in_ok-heard.ensures.seats reached)
