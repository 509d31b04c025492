use Rattle.std.proofs.Common.{◌≡◌, false, List, [], sym, subst}
use Rattle.tds_wire.specs.declared.told.Token.{Token}
use Rattle.tds_service.specs.History.{Done, acts_of, history}
use Rattle.tds_service.specs.Line.{new_line}
use Rattle.tds_relay.specs.Pool.{new_pool}
use Rattle.tds_relay.specs.Fronting.{calls_along, done_on}
use Rattle.tds_judge.specs.Conversation.{IsLawful}
use Rattle.tds_judge.specs.Told.{is_broken}
use Rattle.laws_conforming_server.specs.Answering.{NoFault}
use Rattle.laws_conforming_server.specs.Link.{IsRun}
use Rattle.laws_never_blamed.specs.Seen.{conversation}
use Rattle.laws_never_blamed.specs.Spelled.{IsHanded}
use Rattle.laws_never_blamed.proofs.Acts.{is_lawful, not_blamed}
use Rattle.laws_never_blamed.proofs.relay_laws.relay_to_servers.Goals as goal

pub returns-clause-lawful : goal.returns-clause-lawful
returns-clause-lawful g c sharing number events eye plain well =
    let ds = done_on sharing number events in
    let same : ds ≡ history new_line (acts_of ds) = c.each_alone.ensures sharing.most number (calls_along (new_pool sharing) events) in
    subst (λ (xs : List (Done Token)). IsLawful (conversation eye xs)) (sym same) (is_lawful eye (acts_of ds) plain (subst NoFault same well))

pub returns-clause-blamed : goal.returns-clause-blamed
returns-clause-blamed g c engine moves sharing number events eye rules run plain =
    let ds = done_on sharing number events in
    let same : ds ≡ history new_line (acts_of ds) = c.each_alone.ensures sharing.most number (calls_along (new_pool sharing) events) in
    let well = c.no_fault.ensures engine (acts_of ds) moves rules (subst (IsRun engine moves) same run) in
    subst (λ (xs : List (Done Token)). is_broken [] (conversation eye xs) ≡ false) (sym same)
    (not_blamed c.lawful_is_never_blamed.ensures.said (conversation eye (history new_line (acts_of ds))) (is_lawful eye (acts_of ds) plain well))

pub returns-clause-bytes : goal.returns-clause-bytes
returns-clause-bytes g c engine moves limits judge reading sharing number events shown rules run plain new parser handed =
    let ds = done_on sharing number events in
    let same : ds ≡ history new_line (acts_of ds) = c.each_alone.ensures sharing.most number (calls_along (new_pool sharing) events) in
    c.our_bytes_are_never_blamed.ensures engine moves limits judge reading (acts_of ds) shown rules (subst (IsRun engine moves) same run) plain new parser
    (subst (λ (xs : List (Done Token)). IsHanded reading xs shown) same handed)
