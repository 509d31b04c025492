use Rattle.std.proofs.Common.{◌≡◌, ◌∙◌, ◌++◌, ◌<◌, Bool, [], ap, drop, length, rules, subst, sym}
use Rattle.tds_wire.specs.Reading.{Parser, found_to, next_token}
use Rattle.tds_relay.specs.Cutting.{known_behind, left_of, passed_on}
use Rattle.tds_relay.proofs.bytes.Cuts.{ended_is, kept_all, kept_on, known_all, no_bytes, refused_is, stands_all, stands_none}
use Rattle.tds_relay.proofs.link.Answer.cut.Goals as goal

pub tokens-preserved : goal.tokens-preserved
tokens-preserved c =
    let some : 0 < length c.tokens.rest.now = search rules in
    let found : found_to c.in-Ok.fed.token c.pass.new.self.parser (drop c.in-Ok.fed.count c.tokens.rest.now) ≡ next_token c.tokens.self.parser c.tokens.rest.now =
    subst (λ (r : Parser). found_to c.in-Ok.fed.token r (drop c.in-Ok.fed.count c.tokens.rest.now) ≡ next_token c.tokens.self.parser c.tokens.rest.now) (sym c.in_ok-pass.ensures.parser) c.in-Ok.ensures.exact in
    let on = kept_on c.tokens.kept.items c.pass.new.kept.items c.tokens.self.known c.pass.new.self.known c.tokens.self.parser c.pass.new.self.parser c.tokens.rest.now
    c.split_at.result.0.now c.split_at.result.1.now c.in-Ok.fed.count c.in-Ok.fed.token some c.in-Ok.ensures.within c.in-Ok.ensures.all found c.split_at.ensures.front c.split_at.ensures.back
    (c.in_ok-pass.ensures.kept ∙ ap (λ (b : Bool). c.tokens.kept.items ++ passed_on b c.tokens.self.known c.split_at.result.0.now) c.is_some.ensures)
    (c.in_ok-pass.ensures.known ∙ ap (λ (b : Bool). known_behind b c.tokens.self.known c.split_at.result.0.now) c.is_some.ensures) in
    record {
      kept = on.0 ∙ c.tokens.invariant.kept;
      known = on.1 ∙ c.tokens.invariant.known;
      stands = on.2 ∙ c.tokens.invariant.stands;
      size = c.in_ok-pass.ensures.size ∙ c.tokens.invariant.size;
    }

pub returns-after-tokens-clause-kept : goal.returns-after-tokens-clause-kept
returns-after-tokens-clause-kept c =
    let zero : length c.tokens.rest.now ≡ 0 = search rules in
    let none : c.tokens.rest.now ≡ [] = no_bytes c.tokens.rest.now zero in
    kept_all _ _ c.tokens.self.known (left_of c.tokens.self.known c.tokens.self.parser c.tokens.rest.now) _ (ended_is c.tokens.self.known c.tokens.self.parser c.tokens.rest.now none) c.tokens.invariant.kept

pub returns-after-tokens-clause-known : goal.returns-after-tokens-clause-known
returns-after-tokens-clause-known c =
    let zero : length c.tokens.rest.now ≡ 0 = search rules in
    let none : c.tokens.rest.now ≡ [] = no_bytes c.tokens.rest.now zero in
    known_all _ c.tokens.self.known (left_of c.tokens.self.known c.tokens.self.parser c.tokens.rest.now) _ (ended_is c.tokens.self.known c.tokens.self.parser c.tokens.rest.now none) c.tokens.invariant.known

pub returns-in_default-clause-kept : goal.returns-in_default-clause-kept
returns-in_default-clause-kept c =
    let some : 0 < length c.tokens.rest.now = search rules in
    kept_all _ _ c.tokens.self.known (left_of c.tokens.self.known c.tokens.self.parser c.tokens.rest.now) _
    (refused_is c.tokens.self.known c.tokens.self.parser c.tokens.rest.now c.in_default.field-0 some (sym c.in_default.ensures.exact)) c.tokens.invariant.kept

pub returns-in_default-clause-known : goal.returns-in_default-clause-known
returns-in_default-clause-known c =
    let some : 0 < length c.tokens.rest.now = search rules in
    known_all _ c.tokens.self.known (left_of c.tokens.self.known c.tokens.self.parser c.tokens.rest.now) _
    (refused_is c.tokens.self.known c.tokens.self.parser c.tokens.rest.now c.in_default.field-0 some (sym c.in_default.ensures.exact)) c.tokens.invariant.known

pub returns-after-tokens-clause-stands : goal.returns-after-tokens-clause-stands
returns-after-tokens-clause-stands c = λ next there.
    let zero : length c.tokens.rest.now ≡ 0 = search rules in
    let none : c.tokens.rest.now ≡ [] = no_bytes c.tokens.rest.now zero in
    stands_all _ c.tokens.self.known (left_of c.tokens.self.known c.tokens.self.parser c.tokens.rest.now) c.tokens.self.parser next (ended_is c.tokens.self.known c.tokens.self.parser c.tokens.rest.now none) c.tokens.invariant.stands there

pub returns-in_default-clause-stands : goal.returns-in_default-clause-stands
returns-in_default-clause-stands c = λ next there.
    let some : 0 < length c.tokens.rest.now = search rules in
    absurd (stands_none _ c.tokens.self.known (left_of c.tokens.self.known c.tokens.self.parser c.tokens.rest.now) next
    (refused_is c.tokens.self.known c.tokens.self.parser c.tokens.rest.now c.in_default.field-0 some (sym c.in_default.ensures.exact)) c.tokens.invariant.stands there)
