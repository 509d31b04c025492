-- What is on its way, and where a lawful server stands, by what the client does: the invariant of a connection with it.
use Rattle.std.proofs.Common.{◌≡◌, ◌⊎◌, ℕ, Bool, true, false, List, [], ◌∷◌, ◌++◌}
use Rattle.std.specs.Prelude.{Option, if◌then◌else◌}
use Rattle.tds_packet.specs.declared.status.Reset.{Reset}
use Rattle.tds_packet.specs.Resets.{header_descriptor}
use Rattle.tds_client.specs.declared.heard.Heard.{Heard}
use Rattle.tds_client.specs.declared.heard.FinalDone.TheVariants.{Awaited}
use Rattle.tds_service.specs.Line.{Line, LineStage, Idle, Sending, Reading, Cancelling, Broken, Packet, OfRequest, Ignore, Attention}
use Rattle.laws_conforming_server.specs.Lawful.{Session, AnyServer, IsAnswer}
use Rattle.laws_conforming_server.specs.Link.{ups, Link}
use Rattle.laws_conforming_server.proofs.Hears.{done_of, acknowledged}
use Rattle.laws_conforming_server.proofs.Chains.{behind, Cancels}

-- ---- What is on its way to the server

-- parts of request n, behind which this reset is asked for
abbrev pub AreParts : ℕ → Option Reset → Option Reset → List Packet → Type 0
AreParts n wanted reset [] = reset ≡ wanted
AreParts n wanted reset (OfRequest request first own false ∷ packets) = (request ≡ n) × AreParts n wanted (if first then own else reset) packets
AreParts n wanted reset (OfRequest request first own true ∷ packets) = ⊥
AreParts n wanted reset (Ignore request ∷ packets) = ⊥
AreParts n wanted reset (Attention ∷ packets) = ⊥

-- the rest of request n, which asks for this reset, and what went out behind it
abbrev pub IsWhole : ℕ → Option Reset → List Packet → Option Reset → List Packet → Type 0
IsWhole n wanted others reset [] = ⊥
IsWhole n wanted others reset (OfRequest request first own false ∷ packets) = (request ≡ n) × IsWhole n wanted others (if first then own else reset) packets
IsWhole n wanted others reset (OfRequest request first own true ∷ packets) =
    (request ≡ n) × ((if first then own else reset) ≡ wanted) × (packets ≡ others)
IsWhole n wanted others reset (Ignore request ∷ packets) = ⊥
IsWhole n wanted others reset (Attention ∷ packets) = ⊥

-- parts of a request, the word to ignore it, and an attention
abbrev pub IsIgnored : List Packet → Type 0
IsIgnored [] = ⊥
IsIgnored (OfRequest request first own false ∷ packets) = IsIgnored packets
IsIgnored (OfRequest request first own true ∷ packets) = ⊥
IsIgnored (Ignore request ∷ packets) = packets ≡ Attention ∷ []
IsIgnored (Attention ∷ packets) = ⊥

-- ---- By what the client does

-- Nothing is said: both ends are in one transaction.
pub record Still {V T : Type 0} (h : Heard) (link : Link V T) : Type 0 where
  pub down : link.down ≡ []
  pub due : link.server.due ≡ []
  pub transaction : h.descriptor ≡ link.server.session.transaction
  pub done : h.done ≡ Awaited

-- The newest request is this one, and its header names the transaction that was heard last.
abbrev pub Named : {V T : Type 0} → ℕ → Heard → Link V T → Type 0
Named n h link = (link.asking.request ≡ n) × (link.asking.named ≡ header_descriptor h.mark h.descriptor)

pub record Quiet {V T : Type 0} (h : Heard) (link : Link V T) : Type 0 where
  pub up : link.up ≡ []
  pub still : Still h link

-- A request is going out, or it is out and the server hasn't all of it; or its rest is followed by an attention.
pub record Uploads {V T : Type 0} (n : ℕ) (h : Heard) (link : Link V T) (Are : Option Reset → List Packet → Type 0) : Type 0 where
  pub packets : List Packet
  pub up : link.up ≡ ups link.asking packets
  pub are : Are link.server.reset packets
  pub still : Still h link
  pub named : Named n h link

-- Its answer is due or on its way.
pub record Answers {V T : Type 0} (engine : AnyServer V T) (h : Heard) (link : Link V T) : Type 0 where
  pub up : link.up ≡ []
  pub session : Session V
  pub transaction : h.descriptor ≡ session.transaction
  pub final : Bool
  pub done : h.done ≡ done_of final
  pub answer : IsAnswer engine.settings h.mark session final (link.down ++ link.server.due)
  pub server : link.server.session ≡ behind session link.down

abbrev pub attention_left : Bool → List Packet
attention_left true = []
attention_left false = Attention ∷ []

-- The attention is on its way, or it was taken.
pub record Stops {V T : Type 0} (stopped : Bool) (h : Heard) (link : Link V T) : Type 0 where
  pub up : link.up ≡ ups link.asking (attention_left stopped)
  pub session : Session V
  pub transaction : h.descriptor ≡ session.transaction
  pub cancels : Cancels stopped h.mark session (acknowledged h.done) (link.down ++ link.server.due)
  pub server : link.server.session ≡ behind session link.down

abbrev pub Flow : {V T : Type 0} → AnyServer V T → ℕ → LineStage → Heard → Link V T → Type 0
Flow engine n Idle h link = Quiet h link
Flow engine n (Sending false) h link = Quiet h link × Named n h link
Flow engine n (Sending true) h link = Uploads n h link (AreParts n h.mark)
Flow engine n Reading h link = Uploads n h link (IsWhole n h.mark []) ⊎ Answers engine h link
Flow engine n Cancelling h link =
    Uploads n h link (λ reset packets. IsWhole n h.mark (Attention ∷ []) reset packets ⊎ IsIgnored packets) ⊎ (stopped : Bool) × Stops stopped h link
Flow engine n (Broken fault) h link = Unit {0}

abbrev pub FlowOn : {V T : Type 0} → AnyServer V T → Line → Link V T → Type 0
FlowOn engine l link = Flow engine l.asked l.stage l.heard link
