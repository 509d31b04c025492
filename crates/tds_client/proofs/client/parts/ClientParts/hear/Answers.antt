use Rattle.std.proofs.Common.{◌≡◌, ◌∙◌, Bool, List, ap, sym, rules}
use Rattle.std.specs.Prelude.{Result, Ok}
use Rattle.tds_packet.specs.Layout.{bits_of, has_bit}
use Rattle.tds_token.specs.declared.token.Token.{Token}
use Rattle.tds_token.specs.Contents.{contents_of}
use Rattle.tds_client.specs.declared.fault.ClientFault.{ClientFault}
use Rattle.tds_client.specs.declared.state.Taken.{Taken}
use Rattle.tds_client.specs.Judging.{told_in}
use Rattle.tds_client.specs.Parts.{session_from}
use Rattle.tds_client.specs.Session.{ClientSession}
use Rattle.tds_client.specs.Taking.{ClientMove, taken}
use Rattle.tds_client.proofs.client.parts.ClientParts.hear.Goals as goal

moved : (a b : Taken) (s t : ClientSession) (tokens : List Token) → a ≡ b → s ≡ t
    → (let m : Result ClientMove ClientFault = Ok (record { answer = a; session = s; tokens = tokens }) in m) ≡ Ok (record { answer = b; session = t; tokens = tokens })
moved a b s t tokens e f = cc

pub returns-in-Ok-clause-heard : goal.returns-in-Ok-clause-heard
returns-in-Ok-clause-heard c = λ left.
    let s : ClientSession = session_from c.args.self.now left in
    let bytes = c.args.packet.«data».now in
    let ends : c.ends.result ≡ has_bit (bits_of c.args.packet.header.status) 1 = search rules in (
      told_in s.stage (contents_of s.columns bytes),
      ap (λ (last : Bool). taken s last bytes) (sym ends) ∙ c.in-Ok.ensures.exact left ∙ moved _ _ _ _ _ (sym c.apply.ensures.value) (sym (c.apply.ensures.done left)),
    )
