-- A request that is asked, at the client and in the model.
use Rattle.std.proofs.Common.{◌≡◌, ◌∙◌, ℕ, Bool, refl, sym, ap, subst, Option, Some, None, inl, inr}
use Rattle.tds_client.specs.declared.fault.ClientRefusal.TheVariants as refused
use Rattle.std.specs.Prelude.{is_none}
use Rattle.tds_client.specs.Sending.{started}
use Rattle.tds_client.specs.Session as client
use Rattle.tds_client.specs.Session.{ClientSession, unless_idle}
use Rattle.tds_packet.specs.declared.status.Reset.{Reset}
use Rattle.tds_request.specs.declared.request.Request.{Request}
use Rattle.tds_request.specs.Layout.{kind_of_request, request_spelling, packet_kind}
use Rattle.tds_world.specs.Caller.{asks}
use Rattle.tds_world.specs.Connection.{Connection, is_idle}
use Rattle.tds_world.specs.Events.{asks_by}
use Rattle.tds_packet.specs.Resets.{header_descriptor}
use Rattle.tds_ends.specs.Refines.{RefinesAsk}
use Rattle.tds_ends.specs.Stands.{MatchesClient, stage_in}
use Rattle.tds_ends.proofs.Phases.{idle_in}

pub idle_alike : (s : ClientSession) (c : Connection) → MatchesClient s c → is_none (unless_idle s.stage) ≡ is_idle c
idle_alike s c m =
    elim (idle_in c.current) [
      | inl h ↦ ap (λ x. is_none (unless_idle x)) m.stage ∙ ap is_none h.0 ∙ sym h.1
      | inr h ↦ ap (λ x. is_none (unless_idle x)) m.stage ∙ ap is_none h.0 ∙ sym h.1
    ]

asked_matches : (s : ClientSession) (c : Connection) (number lease n : ℕ) (q : Request) → MatchesClient s c → MatchesClient (started s q) (asks number lease n q c)
asked_matches s c number lease n q m = record {
  stage =
      ap (λ (d : ℕ). client.Sending (packet_kind (kind_of_request q)) (request_spelling d q) 0)
      (ap (λ (d : ℕ). header_descriptor s.heard.mark d) m.descriptor
      ∙ ap (λ (mark : Option Reset). header_descriptor mark c.heard) m.mark);
  descriptor = m.descriptor;
  mark = m.mark;
  done = m.done;
  columns = m.columns;
  begins = refl;
}

pub ask_alike : (s : ClientSession) (c : Connection) (number lease n : ℕ) (q : Request) → MatchesClient s c → RefinesAsk number (started s q) (unless_idle s.stage) (asks_by (is_idle c) number lease n q c)
ask_alike s c number lease n q m =
    let at : unless_idle s.stage ≡ unless_idle (stage_in c.current) = ap unless_idle m.stage in
    elim (idle_in c.current) [
      | inl h ↦
          subst (λ o. RefinesAsk number (started s q) o (asks_by (is_idle c) number lease n q c)) (sym (at ∙ h.0))
          (subst (λ (b : Bool). RefinesAsk number (started s q) None (asks_by b number lease n q c)) (sym h.1) (refl, asked_matches s c number lease n q m))
      | inr h ↦
          subst (λ o. RefinesAsk number (started s q) o (asks_by (is_idle c) number lease n q c)) (sym (at ∙ h.0))
          (subst (λ (b : Bool). RefinesAsk number (started s q) (Some refused.NotIdle) (asks_by b number lease n q c)) (sym h.1) (refl, refl))
    ]
