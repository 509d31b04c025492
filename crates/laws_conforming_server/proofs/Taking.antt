-- The server takes a packet, and the invariant is kept.
use Rattle.std.proofs.Common.{◌≡◌, ◌⊎◌, ◌||◌, ℕ, Bool, true, false, List, [], ◌∷◌, ◌++◌, refl, sym, ap, subst, inl, inr}
use Rattle.std.specs.Prelude.{Option, if◌then◌else◌}
use Rattle.tds_packet.specs.declared.status.Reset.{Reset}
use Rattle.tds_client.specs.declared.heard.Heard.{Heard}
use Rattle.tds_client.specs.declared.heard.FinalDone.{FinalDone}
use Rattle.tds_client.specs.Acts.{is_acknowledgement}
use Rattle.tds_service.specs.Line.{LineStage, Idle, Sending, Reading, Cancelling, Broken, Packet, OfRequest, Ignore, Attention}
use Rattle.laws_conforming_server.specs.Lawful.{Session, ServerStep, Says, Ends, Breaks, AnyServer, IsLawful, IsAnswer, IsStop, reset_left}
use Rattle.laws_conforming_server.specs.Link.{PacketUp, ups, Link, TakesNext, taken}
use Rattle.laws_conforming_server.proofs.Hears.{acknowledged}
use Rattle.laws_conforming_server.proofs.Chains.{behind, Cancels, answer_cancels, stops_behind}
use Rattle.laws_conforming_server.proofs.Flow.{AreParts, IsWhole, IsIgnored, Still, Named, Uploads, Stops, Flow}

-- no packet is on its way
pub none_taken : {V T : Type 0} (link : Link V T) → link.up ≡ [] → TakesNext link.up link.server.due → ⊥
none_taken link e t = subst (λ (u : List PacketUp). TakesNext u link.server.due) e t

pub takes_part : {V T : Type 0} (engine : AnyServer V T) (n : ℕ) (h : Heard) (link : Link V T) (u : Uploads n h link (AreParts n h.mark)) (packets : List Packet)
    → link.up ≡ ups link.asking packets → AreParts n h.mark link.server.reset packets → TakesNext (ups link.asking packets) link.server.due
    → Uploads n h (taken engine link (ups link.asking packets)) (AreParts n h.mark)
takes_part engine n h link u [] e are t = absurd t
takes_part engine n h link u (OfRequest request first own false ∷ packets) e are t = record {
  packets = packets;
  up = refl;
  are = are.1;
  still = record { down = u.still.down; due = u.still.due; transaction = u.still.transaction; done = u.still.done };
  named = u.named;
}
takes_part engine n h link u (OfRequest request first own true ∷ packets) e are t = absurd are
takes_part engine n h link u (Ignore request ∷ packets) e are t = absurd are
takes_part engine n h link u (Attention ∷ packets) e are t = absurd are

-- the answer to the request that is there now
pub answers_it : {V T : Type 0} (engine : AnyServer V T) (lawful : IsLawful engine) (h : Heard) (link : Link V T) (s : Still h link) (request : ℕ) (reset : Option Reset)
    → reset ≡ h.mark
    → IsAnswer engine.settings h.mark link.server.session false (link.down ++ engine.answers request link.server.session reset link.asking.named)
answers_it {V} {T} engine lawful h link s request reset e =
    subst (λ (d : List (ServerStep V T)). IsAnswer engine.settings h.mark link.server.session false (d ++ engine.answers request link.server.session reset link.asking.named)) (sym s.down)
    (subst (λ (m : Option Reset). IsAnswer engine.settings m link.server.session false (engine.answers request link.server.session reset link.asking.named)) e
    (lawful.answers request link.server.session reset link.asking.named))

pub no_down : {V T : Type 0} (h : Heard) (link : Link V T) → Still h link → link.server.session ≡ behind link.server.session link.down
no_down {V} {T} h link s = ap (behind link.server.session) (sym s.down)

takes_whole : {V T : Type 0} (engine : AnyServer V T) (lawful : IsLawful engine) (n : ℕ) (h : Heard) (link : Link V T) (named : Named n h link) (s : Still h link) (packets : List Packet)
    → IsWhole n h.mark [] link.server.reset packets → TakesNext (ups link.asking packets) link.server.due
    → Flow engine n Reading h (taken engine link (ups link.asking packets))
takes_whole engine lawful n h link named s [] are t = absurd are
takes_whole engine lawful n h link named s (OfRequest request first own false ∷ packets) are t = inl (record {
  packets = packets;
  up = refl;
  are = are.1;
  still = record { down = s.down; due = s.due; transaction = s.transaction; done = s.done };
  named = named;
})
takes_whole engine lawful n h link named s (OfRequest request first own true ∷ packets) are t = inr (record {
  up = ap (ups link.asking) are.2;
  session = link.server.session;
  transaction = s.transaction;
  final = false;
  done = s.done;
  answer = answers_it engine lawful h link s request (if first then own else link.server.reset) are.1;
  server = no_down h link s;
})
takes_whole engine lawful n h link named s (Ignore request ∷ packets) are t = absurd are
takes_whole engine lawful n h link named s (Attention ∷ packets) are t = absurd are

takes_whole_left : {V T : Type 0} (engine : AnyServer V T) (lawful : IsLawful engine) (n : ℕ) (h : Heard) (link : Link V T) (named : Named n h link) (s : Still h link) (packets : List Packet)
    → IsWhole n h.mark (Attention ∷ []) link.server.reset packets → TakesNext (ups link.asking packets) link.server.due
    → Flow engine n Cancelling h (taken engine link (ups link.asking packets))
takes_whole_left engine lawful n h link named s [] are t = absurd are
takes_whole_left engine lawful n h link named s (OfRequest request first own false ∷ packets) are t = inl (record {
  packets = packets;
  up = refl;
  are = inl are.1;
  still = record { down = s.down; due = s.due; transaction = s.transaction; done = s.done };
  named = named;
})
takes_whole_left {V} {T} engine lawful n h link named s (OfRequest request first own true ∷ packets) are t =
    let steps : List (ServerStep V T) = link.down ++ engine.answers request link.server.session (if first then own else link.server.reset) link.asking.named in
    inr (
      false,
      record {
        up = ap (ups link.asking) are.2;
        session = link.server.session;
        transaction = s.transaction;
        cancels = subst (λ (d : FinalDone). Cancels false h.mark link.server.session (acknowledged d) steps) (sym s.done)
            (answer_cancels engine.settings h.mark link.server.session false steps
            (answers_it engine lawful h link s request (if first then own else link.server.reset) are.1));
        server = no_down h link s;
      },
    )
takes_whole_left engine lawful n h link named s (Ignore request ∷ packets) are t = absurd are
takes_whole_left engine lawful n h link named s (Attention ∷ packets) are t = absurd are

takes_ignored : {V T : Type 0} (engine : AnyServer V T) (n : ℕ) (h : Heard) (link : Link V T) (named : Named n h link) (s : Still h link) (packets : List Packet)
    → IsIgnored packets → TakesNext (ups link.asking packets) link.server.due
    → Flow engine n Cancelling h (taken engine link (ups link.asking packets))
takes_ignored engine n h link named s [] are t = absurd are
takes_ignored engine n h link named s (OfRequest request first own false ∷ packets) are t = inl (record {
  packets = packets;
  up = refl;
  are = inr are;
  still = record { down = s.down; due = s.due; transaction = s.transaction; done = s.done };
  named = named;
})
takes_ignored engine n h link named s (OfRequest request first own true ∷ packets) are t = absurd are
takes_ignored {V} {T} engine n h link named s (Ignore request ∷ packets) are t = inr (
  false,
  record {
    up = ap (ups link.asking) are;
    session = link.server.session;
    transaction = s.transaction;
    cancels = subst (λ (d : FinalDone). Cancels false h.mark link.server.session (acknowledged d) (link.down ++ link.server.due)) (sym s.done)
        (subst (λ (xs : List (ServerStep V T)). Cancels false h.mark link.server.session false (xs ++ link.server.due)) (sym s.down)
        (subst (λ (xs : List (ServerStep V T)). Cancels false h.mark link.server.session false xs) (sym s.due) refl));
    server = no_down h link s;
  },
)
takes_ignored engine n h link named s (Attention ∷ packets) are t = absurd are

takes_left : {V T : Type 0} (engine : AnyServer V T) (lawful : IsLawful engine) (n : ℕ) (h : Heard) (link : Link V T) (named : Named n h link) (s : Still h link) (packets : List Packet)
    → IsWhole n h.mark (Attention ∷ []) link.server.reset packets ⊎ IsIgnored packets → TakesNext (ups link.asking packets) link.server.due
    → Flow engine n Cancelling h (taken engine link (ups link.asking packets))
takes_left engine lawful n h link named s packets (inl are) t = takes_whole_left engine lawful n h link named s packets are t
takes_left engine lawful n h link named s packets (inr are) t = takes_ignored engine n h link named s packets are t

-- before the attention is taken nothing acknowledges it
or_is_false : (a b : Bool) → (a || b) ≡ false → a ≡ false
or_is_false true b e = e
or_is_false false b e = refl

never_acknowledged : {V T : Type 0} (mark : Option Reset) (s : Session V) (acked : Bool) (steps : List (ServerStep V T))
    → Cancels false mark s acked steps → acked ≡ false
never_acknowledged mark s acked [] c = c
never_acknowledged mark s acked (Says item after ∷ steps) c =
    or_is_false acked (is_acknowledgement item.sign) (never_acknowledged (reset_left mark item.sign) after (acked || is_acknowledgement item.sign) steps c.2)
never_acknowledged mark s true (Ends ∷ steps) c = absurd c
never_acknowledged mark s false (Ends ∷ steps) c = refl
never_acknowledged mark s true (Breaks ∷ steps) c = absurd c
never_acknowledged mark s false (Breaks ∷ steps) c = refl

takes_attention : {V T : Type 0} (engine : AnyServer V T) (lawful : IsLawful engine) (h : Heard) (link : Link V T) → Stops false h link
    → Stops true h (taken engine link (ups link.asking (Attention ∷ [])))
takes_attention {V} {T} engine lawful h link a =
    let none : acknowledged h.done ≡ false = never_acknowledged h.mark a.session (acknowledged h.done) (link.down ++ link.server.due) a.cancels in
    let stop : List (ServerStep V T) = engine.stops link.asking.request link.server.session in
    record {
      up = refl;
      session = a.session;
      transaction = a.transaction;
      cancels = subst (λ (b : Bool). Cancels true h.mark a.session b (link.down ++ stop)) (sym none)
          (stops_behind h.mark a.session link.down link.server.due stop
          (subst (λ (b : Bool). Cancels false h.mark a.session b (link.down ++ link.server.due)) none a.cancels)
          (subst (λ (s : Session V). IsStop s false stop) a.server (lawful.stops link.asking.request link.server.session)));
      server = a.server;
    }

pub keeps_takes : {V T : Type 0} (engine : AnyServer V T) (lawful : IsLawful engine) (n : ℕ) (stage : LineStage) (h : Heard) (link : Link V T)
    → Flow engine n stage h link → TakesNext link.up link.server.due → Flow engine n stage h (taken engine link link.up)
keeps_takes engine lawful n Idle h link f t = absurd (none_taken link f.up t)
keeps_takes engine lawful n (Sending false) h link f t = absurd (none_taken link f.0.up t)
keeps_takes engine lawful n (Sending true) h link f t =
    subst (λ (u : List PacketUp). Flow engine n (Sending true) h (taken engine link u)) (sym f.up)
    (takes_part engine n h link f f.packets f.up f.are (subst (λ (u : List PacketUp). TakesNext u link.server.due) f.up t))
keeps_takes engine lawful n Reading h link (inl f) t =
    subst (λ (u : List PacketUp). Flow engine n Reading h (taken engine link u)) (sym f.up)
    (takes_whole engine lawful n h link f.named f.still f.packets f.are (subst (λ (u : List PacketUp). TakesNext u link.server.due) f.up t))
keeps_takes engine lawful n Reading h link (inr f) t = absurd (none_taken link f.up t)
keeps_takes engine lawful n Cancelling h link (inl f) t =
    subst (λ (u : List PacketUp). Flow engine n Cancelling h (taken engine link u)) (sym f.up)
    (takes_left engine lawful n h link f.named f.still f.packets f.are (subst (λ (u : List PacketUp). TakesNext u link.server.due) f.up t))
keeps_takes engine lawful n Cancelling h link (inr (true, f)) t = absurd (none_taken link f.up t)
keeps_takes engine lawful n Cancelling h link (inr (false, f)) t =
    subst (λ (u : List PacketUp). Flow engine n Cancelling h (taken engine link u)) (sym f.up) (inr (true, takes_attention engine lawful h link f))
keeps_takes engine lawful n (Broken fault) h link f t = tt
