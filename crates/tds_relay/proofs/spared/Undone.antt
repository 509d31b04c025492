-- Where the reset that a request asks for isn't done with the next one on its connection.
use Rattle.std.proofs.Common.{◌≡◌, ◌⊎◌, ◌∙◌, Bool, true, false, Option, Some, None, inl, inr, sym, option_map}
use Rattle.tds_packet.specs.declared.status.Reset.{Reset}
use Rattle.tds_packet.specs.declared.status.Reset.TheVariants.{Full, KeepTransaction}
use Rattle.tds_service.specs.Anew.{begins_anew}
use Rattle.tds_service.specs.Service.{Seat}
use Rattle.tds_relay.specs.Anew.{ResetsNext}
use Rattle.tds_relay.specs.Pool.{owes_of}
use Rattle.tds_relay.specs.Core.{End, IfOpenAsks, Open, Over}

pub asks_map : (P Q : Option Reset → Type 0) (o : Option End) → ((asks : Option Reset) → P asks → Q asks) → IfOpenAsks P o → IfOpenAsks Q o
asks_map P Q None f p = tt
asks_map P Q (Some (Open front withdrawn asks)) f p = f asks p
asks_map P Q (Some (Over why)) f p = tt

pub anew_not : (o : Option Seat) (b : Option Bool) → b ≡ option_map (λ (c : Seat). begins_anew c.line) o → (b ≡ Some false) ⊎ (b ≡ None) → ¬ ResetsNext Full o
anew_not None b e which r = r
anew_not (Some c) b e (inl is) r =
    let u : Some (begins_anew c.line) ≡ Some false = sym e ∙ is in
    let v : begins_anew c.line ≡ false = cc in
    let w : true ≡ false = sym r ∙ v in
    let x : ⊥ = cc in x
anew_not (Some c) b e (inr none) r = let u : Some (begins_anew c.line) ≡ None = sym e ∙ none in let v : ⊥ = cc in v

pub kept_not : (o : Option Seat) → ¬ ResetsNext Full o → owes_of o ≡ false → ¬ ResetsNext KeepTransaction o
kept_not None none owes r = r
kept_not (Some c) none owes (inl r) = none r
kept_not (Some c) none owes (inr r) = let u : true ≡ false = sym r ∙ owes in let v : ⊥ = cc in v
