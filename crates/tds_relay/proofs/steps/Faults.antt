-- Why an application is to be closed, as the code has it; and a connection, for a packet's header.
use Rattle.std.proofs.Common.{◌≡◌, ◌∙◌, ℕ, Option, Some, None, inl, inr, ap, subst, sym, option_map}
use Rattle.std.specs.Prelude.{IfOk, OnOk, Result, Ok, Err}
use Rattle.slab.specs.Slab.{Slab, get}
use Rattle.tds_relay.specs.declared.application.Application.{Application}
use Rattle.tds_packet.specs.Reading as packets
use Rattle.tds_relay.specs.Closings.{ClosesOnly, KeptBeside, Register}
use Rattle.tds_relay.specs.Faults.{IsHeaderOf, IsRefusedOn, why_of}
use Rattle.tds_relay.specs.declared.pool.coming.Heard.{Heard}
use Rattle.tds_relay.specs.declared.fault.Refused.{Refused}
use Rattle.tds_relay.specs.Fronts.{own_end, ends_in}
use Rattle.tds_relay.specs.Core.{end_at}
use Rattle.tds_relay.proofs.steps.Fed.{end_there}
use Rattle.tds_relay.proofs.steps.Fronts.{end_is}

pub why_there : (s : Slab Application) (key : ℕ) (a : Application) → Some a ≡ get s key → why_of (end_at (ends_in s) key) ≡ why_of (Some (own_end a))
why_there s key a is = ap why_of (end_there s key a is)

pub why_nobody : (s : Slab Application) (key : ℕ) → get s key ≡ None → why_of (end_at (ends_in s) key) ≡ None
why_nobody s key none = ap why_of (end_is s key ∙ ap (option_map own_end) none)

-- ---- For a packet's header

refused_by : (number : ℕ) (r : packets.Reading) (heard : Option Heard) (old new : Option Refused) → IsHeaderOf number r heard old new → IsRefusedOn number old new
refused_by number r None old new h = inr (r, h.0, h.1, h.2)
refused_by number r (Some heard) old new h = inl h

pub refused_heard : {E : Type 0} (r : Result (ℕ × Option Heard) E) (number : ℕ) (fed : packets.Reading) (old new : Option Refused) → IfOk r (λ heard. IsHeaderOf number fed heard.1 old new) → OnOk r (IsRefusedOn number old new)
refused_heard (Ok heard) number fed old new h = refused_by number fed heard.1 old new h
refused_heard (Err e) number fed old new h = tt

refused_or : (number : ℕ) (a b c : Option Refused) → IsRefusedOn number a b → c ≡ b → IsRefusedOn number a c
refused_or number a b c h same = subst (λ (o : Option Refused). IsRefusedOn number a o) (sym same) h

refused_both : (number : ℕ) (a b c : Option Refused) → IsRefusedOn number a b → IsRefusedOn number b c → IsRefusedOn number a c
refused_both number a b c h (inl same) = refused_or number a b c h same
refused_both number a b c h (inr x) = inr x

-- what comes next on the connection, and is done with it
pub refused_next : (number : ℕ) (May : ℕ → Type 0) (a b c : Option Refused) (s t : Register) → IsRefusedOn number a b → IsRefusedOn number b c → s.kept.refused ≡ c → ClosesOnly May s t → IsRefusedOn number a t.kept.refused
refused_next number May a b c s t h k same closes =
    refused_or number a c t.kept.refused (refused_both number a b c h k) (ap (λ (it : KeptBeside). it.refused) closes.told ∙ same)

pub refused_served : {A E : Type 0} (r : Result A E) (number : ℕ) (May : ℕ → Type 0) (a : Option Refused) (s t : Register) → IsRefusedOn number a s.kept.refused → OnOk r (ClosesOnly May s t) → OnOk r (IsRefusedOn number a t.kept.refused)
refused_served (Ok x) number May a s t h closes = refused_or number a s.kept.refused t.kept.refused h (ap (λ (it : KeptBeside). it.refused) closes.told)
refused_served (Err e) number May a s t h closes = tt
