-- Each move keeps the invariant.
use Rattle.std.proofs.Common.{◌≡◌, ◌∙◌, ◌⊎◌, ℕ, Bool, true, false, List, [], ◌∷◌, ◌++◌, refl, sym, ap, subst, inl, inr}
use Rattle.std.specs.Prelude.{Option, Some, None, if◌then◌else◌}
use Rattle.tds_packet.specs.declared.status.Reset.{Reset}
use Rattle.tds_packet.specs.Resets.{strongest}
use Rattle.tds_client.specs.declared.heard.Heard.{Heard}
use Rattle.tds_service.specs.Parts.{Part}
use Rattle.tds_service.specs.Line.{LineStage, Idle, Sending, Reading, Cancelling, Broken, Packet, OfRequest, Ignore, Attention, Act, Mark, Ask, Send, Cancel, Come, Lose, Turn, line_turn}
use Rattle.tds_service.specs.History.{done_by}
use Rattle.laws_conforming_server.specs.Lawful.{Session, ServerStep, AnyServer, IsAnswer}
use Rattle.laws_conforming_server.specs.Link.{Asking, PacketUp, ups, Link, Comes, HasSome, done_here, spoken, session_behind}
use Rattle.laws_conforming_server.proofs.Hears.{done_of, acknowledged}
use Rattle.laws_conforming_server.proofs.Chains.{behind, Cancels, answer_cancels}
use Rattle.laws_conforming_server.proofs.Flow.{AreParts, IsWhole, IsIgnored, Still, Named, Quiet, Uploads, Answers, Stops, Flow, FlowOn}
use Rattle.laws_conforming_server.proofs.Coming.{line, append_nothing, nothing_comes, read_comes, ReadsOn, ReadsOut, skip_comes, SkipsOn, SkipsOut}

-- ---- The server says the next thing

pub behind_append : {V T : Type 0} (s : Session V) (xs ys : List (ServerStep V T)) → behind s (xs ++ ys) ≡ behind (behind s xs) ys
behind_append s [] ys = refl
behind_append s (x ∷ xs) ys = behind_append (session_behind s x) xs ys

pub moves_down : {V T : Type 0} (down due : List (ServerStep V T)) (step : ServerStep V T) → down ++ step ∷ due ≡ (down ++ step ∷ []) ++ due
moves_down [] due step = refl
moves_down {V} {T} (x ∷ down) due step = ap (λ (xs : List (ServerStep V T)). x ∷ xs) (moves_down down due step)

pub none_due : {V T : Type 0} (due : List (ServerStep V T)) → due ≡ [] → HasSome due → ⊥
none_due {V} {T} due e t = subst (λ (d : List (ServerStep V T)). HasSome d) e t

said_behind : {V T : Type 0} (now s : Session V) (down : List (ServerStep V T)) (step : ServerStep V T) → now ≡ behind s down → session_behind now step ≡ behind s (down ++ step ∷ [])
said_behind {V} {T} now s down step e = ap (λ (x : Session V). session_behind x step) e ∙ sym (behind_append s down (step ∷ []))

pub speaks_answer : {V T : Type 0} (engine : AnyServer V T) (h : Heard) (link : Link V T) (due : List (ServerStep V T)) → link.server.due ≡ due → HasSome due
    → Answers engine h link → Answers engine h (spoken link due)
speaks_answer engine h link [] e t a = absurd t
speaks_answer {V} {T} engine h link (step ∷ due) e t a = record {
  up = a.up;
  session = a.session;
  transaction = a.transaction;
  final = a.final;
  done = a.done;
  answer = subst (λ (xs : List (ServerStep V T)). IsAnswer engine.settings h.mark a.session a.final xs)
      (ap (λ (d : List (ServerStep V T)). link.down ++ d) e ∙ moves_down link.down due step) a.answer;
  server = said_behind link.server.session a.session link.down step a.server;
}

speaks_stop : {V T : Type 0} (stopped : Bool) (h : Heard) (link : Link V T) (due : List (ServerStep V T)) → link.server.due ≡ due → HasSome due
    → Stops stopped h link → Stops stopped h (spoken link due)
speaks_stop stopped h link [] e t a = absurd t
speaks_stop {V} {T} stopped h link (step ∷ due) e t a = record {
  up = a.up;
  session = a.session;
  transaction = a.transaction;
  cancels = subst (λ (xs : List (ServerStep V T)). Cancels stopped h.mark a.session (acknowledged h.done) xs)
      (ap (λ (d : List (ServerStep V T)). link.down ++ d) e ∙ moves_down link.down due step) a.cancels;
  server = said_behind link.server.session a.session link.down step a.server;
}

pub keeps_speaks : {V T : Type 0} (engine : AnyServer V T) (n : ℕ) (stage : LineStage) (h : Heard) (link : Link V T)
    → Flow engine n stage h link → HasSome link.server.due → Flow engine n stage h (spoken link link.server.due)
keeps_speaks engine n Idle h link f t = absurd (none_due link.server.due f.still.due t)
keeps_speaks engine n (Sending false) h link f t = absurd (none_due link.server.due f.0.still.due t)
keeps_speaks engine n (Sending true) h link f t = absurd (none_due link.server.due f.still.due t)
keeps_speaks engine n Reading h link (inl f) t = absurd (none_due link.server.due f.still.due t)
keeps_speaks engine n Reading h link (inr f) t = inr (speaks_answer engine h link link.server.due refl t f)
keeps_speaks engine n Cancelling h link (inl f) t = absurd (none_due link.server.due f.still.due t)
keeps_speaks engine n Cancelling h link (inr (stopped, f)) t = inr (stopped, speaks_stop stopped h link link.server.due refl t f)
keeps_speaks engine n (Broken fault) h link f t = tt

-- ---- Something is done at the client's end

abbrev pub with_mark : Heard → Reset → Heard
with_mark h reset = record { descriptor = h.descriptor; mark = strongest (Some reset) h.mark; done = h.done }

-- nothing goes out, and nothing comes
abbrev pub as_before : {V T : Type 0} → Link V T → Link V T
as_before link = record { up = link.up ++ []; server = link.server; down = link.down; asking = link.asking }

pub same_link : {V T : Type 0} (link : Link V T) → as_before link ≡ link
same_link link = ap (λ (u : List PacketUp). record { up = u; server = link.server; down = link.down; asking = link.asking }) (append_nothing link.up)

pub stays : {V T : Type 0} (engine : AnyServer V T) (n : ℕ) (stage : LineStage) (h : Heard) (link : Link V T)
    → Flow engine n stage h link → Flow engine n stage h (as_before link)
stays {V} {T} engine n stage h link f = subst (λ (k : Link V T). Flow engine n stage h k) (sym (same_link link)) f

ups_append : (asking : Asking) (xs ys : List Packet) → ups asking xs ++ ups asking ys ≡ ups asking (xs ++ ys)
ups_append asking [] ys = refl
ups_append asking (x ∷ xs) ys = ap (λ (us : List PacketUp). (record { asking = asking; packet = x }) ∷ us) (ups_append asking xs ys)

sent_up : {V T : Type 0} (link : Link V T) (packets more : List Packet) → link.up ≡ ups link.asking packets → link.up ++ ups link.asking more ≡ ups link.asking (packets ++ more)
sent_up link packets more e = ap (λ (u : List PacketUp). u ++ ups link.asking more) e ∙ ups_append link.asking packets more

part_more : (n : ℕ) (wanted reset : Option Reset) (packets : List Packet) → AreParts n wanted reset packets
    → AreParts n wanted reset (packets ++ OfRequest n false None false ∷ [])
part_more n wanted reset [] a = (refl, a)
part_more n wanted reset (OfRequest request first own false ∷ packets) a = (a.0, part_more n wanted (if first then own else reset) packets a.1)
part_more n wanted reset (OfRequest request first own true ∷ packets) a = absurd a
part_more n wanted reset (Ignore request ∷ packets) a = absurd a
part_more n wanted reset (Attention ∷ packets) a = absurd a

part_last : (n : ℕ) (wanted reset : Option Reset) (packets : List Packet) → AreParts n wanted reset packets
    → IsWhole n wanted [] reset (packets ++ OfRequest n false None true ∷ [])
part_last n wanted reset [] a = (refl, a, refl)
part_last n wanted reset (OfRequest request first own false ∷ packets) a = (a.0, part_last n wanted (if first then own else reset) packets a.1)
part_last n wanted reset (OfRequest request first own true ∷ packets) a = absurd a
part_last n wanted reset (Ignore request ∷ packets) a = absurd a
part_last n wanted reset (Attention ∷ packets) a = absurd a

part_ignored : (n : ℕ) (wanted reset : Option Reset) (packets : List Packet) → AreParts n wanted reset packets
    → IsIgnored (packets ++ Ignore n ∷ Attention ∷ [])
part_ignored n wanted reset [] a = refl
part_ignored n wanted reset (OfRequest request first own false ∷ packets) a = part_ignored n wanted (if first then own else reset) packets a.1
part_ignored n wanted reset (OfRequest request first own true ∷ packets) a = absurd a
part_ignored n wanted reset (Ignore request ∷ packets) a = absurd a
part_ignored n wanted reset (Attention ∷ packets) a = absurd a

whole_left : (n : ℕ) (wanted reset : Option Reset) (packets : List Packet) → IsWhole n wanted [] reset packets
    → IsWhole n wanted (Attention ∷ []) reset (packets ++ Attention ∷ [])
whole_left n wanted reset [] a = absurd a
whole_left n wanted reset (OfRequest request first own false ∷ packets) a = (a.0, whole_left n wanted (if first then own else reset) packets a.1)
whole_left n wanted reset (OfRequest request first own true ∷ packets) a = (a.0, a.1, ap (λ (ps : List Packet). ps ++ Attention ∷ []) a.2)
whole_left n wanted reset (Ignore request ∷ packets) a = absurd a
whole_left n wanted reset (Attention ∷ packets) a = absurd a

abbrev pub Kept : {V T : Type 0} → AnyServer V T → Link V T → Act T → Turn T → Type 0
Kept engine link a t = FlowOn engine t.line (done_here link (done_by a t))

keeps_read : {V T : Type 0} (engine : AnyServer V T) (n : ℕ) (h : Heard) (link : Link V T) (part : Part T)
    → ReadsOn engine n h link part ⊎ ReadsOut n h link part → Kept engine link (Come part) (line_turn (line n Reading h) (Come part))
keeps_read {V} {T} engine n h link part (inl r) = subst (λ (t : Turn T). Kept engine link (Come part) t) (sym r.is) (inr r.answers)
keeps_read {V} {T} engine n h link part (inr r) = subst (λ (t : Turn T). Kept engine link (Come part) t) (sym r.is) r.still

keeps_skip : {V T : Type 0} (engine : AnyServer V T) (n : ℕ) (h : Heard) (stopped : Bool) (link : Link V T) (part : Part T)
    → SkipsOn n h stopped link part ⊎ SkipsOut n h link part → Kept engine link (Come part) (line_turn (line n Cancelling h) (Come part))
keeps_skip {V} {T} engine n h stopped link part (inl r) = subst (λ (t : Turn T). Kept engine link (Come part) t) (sym r.is) (inr (stopped, r.stops))
keeps_skip {V} {T} engine n h stopped link part (inr r) = subst (λ (t : Turn T). Kept engine link (Come part) t) (sym r.is) r.still

quiet_before : {V T : Type 0} (h after : Heard) (link : Link V T) → after.descriptor ≡ h.descriptor → after.done ≡ h.done → Quiet h link → Quiet after (as_before link)
quiet_before h after link d e f = record {
  up = ap (λ (u : List PacketUp). u ++ []) f.up;
  still = record { down = f.still.down; due = f.still.due; transaction = d ∙ f.still.transaction; done = e ∙ f.still.done };
}

pub still_after : {V T : Type 0} (h : Heard) (link : Link V T) (u : List PacketUp) → Still h link → Still h (record { up = u; server = link.server; down = link.down; asking = link.asking })
still_after h link u s = record { down = s.down; due = s.due; transaction = s.transaction; done = s.done }

plain : (final : Bool) → acknowledged (done_of final) ≡ false
plain true = refl
plain false = refl

-- What a send leaves.
abbrev pub sent_here : {V T : Type 0} → Link V T → List Packet → Link V T
sent_here link packets = record { up = link.up ++ ups link.asking packets; server = link.server; down = link.down; asking = link.asking }

pub begins_part : {V T : Type 0} (n : ℕ) (h : Heard) (link : Link V T) → Quiet h link × Named n h link
    → Uploads n h (sent_here link (OfRequest n true h.mark false ∷ [])) (AreParts n h.mark)
begins_part n h link f = record {
  packets = OfRequest n true h.mark false ∷ [];
  up = ap (λ (u : List PacketUp). u ++ ups link.asking (OfRequest n true h.mark false ∷ [])) f.0.up;
  are = (refl, refl);
  still = still_after h link _ f.0.still;
  named = f.1;
}

pub begins_whole : {V T : Type 0} (n : ℕ) (h : Heard) (link : Link V T) → Quiet h link × Named n h link
    → Uploads n h (sent_here link (OfRequest n true h.mark true ∷ [])) (IsWhole n h.mark [])
begins_whole n h link f = record {
  packets = OfRequest n true h.mark true ∷ [];
  up = ap (λ (u : List PacketUp). u ++ ups link.asking (OfRequest n true h.mark true ∷ [])) f.0.up;
  are = (refl, refl, refl);
  still = still_after h link _ f.0.still;
  named = f.1;
}

pub sends_part : {V T : Type 0} (n : ℕ) (h : Heard) (link : Link V T) → Uploads n h link (AreParts n h.mark)
    → Uploads n h (sent_here link (OfRequest n false None false ∷ [])) (AreParts n h.mark)
sends_part n h link f = record {
  packets = f.packets ++ OfRequest n false None false ∷ [];
  up = sent_up link f.packets (OfRequest n false None false ∷ []) f.up;
  are = part_more n h.mark link.server.reset f.packets f.are;
  still = still_after h link _ f.still;
  named = f.named;
}

pub sends_whole : {V T : Type 0} (n : ℕ) (h : Heard) (link : Link V T) → Uploads n h link (AreParts n h.mark)
    → Uploads n h (sent_here link (OfRequest n false None true ∷ [])) (IsWhole n h.mark [])
sends_whole n h link f = record {
  packets = f.packets ++ OfRequest n false None true ∷ [];
  up = sent_up link f.packets (OfRequest n false None true ∷ []) f.up;
  are = part_last n h.mark link.server.reset f.packets f.are;
  still = still_after h link _ f.still;
  named = f.named;
}

pub keeps_act : {V T : Type 0} (engine : AnyServer V T) (n : ℕ) (stage : LineStage) (h : Heard) (link : Link V T) (a : Act T)
    → Flow engine n stage h link → Comes a link.down link.server.due → Kept engine link a (line_turn (line n stage h) a)
keeps_act engine n Idle h link (Mark reset) f c = quiet_before h (with_mark h reset) link refl refl f
keeps_act engine n Idle h link Ask f c = (
  record {
    up = ap (λ (u : List PacketUp). u ++ []) f.up;
    still = record { down = f.still.down; due = f.still.due; transaction = f.still.transaction; done = f.still.done };
  },
  (refl, refl),
)
keeps_act engine n Idle h link (Send last) f c = stays engine n Idle h link f
keeps_act engine n Idle h link Cancel f c = stays engine n Idle h link f
keeps_act engine n Idle h link (Come part) f c = absurd (nothing_comes h link part f.still c)
keeps_act engine n Idle h link Lose f c = tt
keeps_act engine n (Sending false) h link (Mark reset) f c = stays engine n (Sending false) h link f
keeps_act engine n (Sending false) h link Ask f c = stays engine n (Sending false) h link f
keeps_act engine n (Sending false) h link (Send false) f c = begins_part n h link f
keeps_act engine n (Sending false) h link (Send true) f c = inl (begins_whole n h link f)
keeps_act engine n (Sending false) h link Cancel f c = quiet_before h h link refl refl f.0
keeps_act engine n (Sending false) h link (Come part) f c = absurd (nothing_comes h link part f.0.still c)
keeps_act engine n (Sending false) h link Lose f c = tt
keeps_act engine n (Sending true) h link (Mark reset) f c = stays engine n (Sending true) h link f
keeps_act engine n (Sending true) h link Ask f c = stays engine n (Sending true) h link f
keeps_act engine n (Sending true) h link (Send false) f c = sends_part n h link f
keeps_act engine n (Sending true) h link (Send true) f c = inl (sends_whole n h link f)
keeps_act engine n (Sending true) h link Cancel f c = inl (record {
  packets = f.packets ++ Ignore n ∷ Attention ∷ [];
  up = sent_up link f.packets (Ignore n ∷ Attention ∷ []) f.up;
  are = inr (part_ignored n h.mark link.server.reset f.packets f.are);
  still = still_after h link _ f.still;
  named = f.named;
})
keeps_act engine n (Sending true) h link (Come part) f c = absurd (nothing_comes h link part f.still c)
keeps_act engine n (Sending true) h link Lose f c = tt
keeps_act engine n Reading h link (Mark reset) f c = stays engine n Reading h link f
keeps_act engine n Reading h link Ask f c = stays engine n Reading h link f
keeps_act engine n Reading h link (Send last) f c = stays engine n Reading h link f
keeps_act engine n Reading h link Cancel (inl f) c = inl (record {
  packets = f.packets ++ Attention ∷ [];
  up = sent_up link f.packets (Attention ∷ []) f.up;
  are = inl (whole_left n h.mark link.server.reset f.packets f.are);
  still = still_after h link _ f.still;
  named = f.named;
})
keeps_act engine n Reading h link Cancel (inr f) c = inr (
  false,
  record {
    up = ap (λ (u : List PacketUp). u ++ ups link.asking (Attention ∷ [])) f.up;
    session = f.session;
    transaction = f.transaction;
    cancels = subst (λ (b : Bool). Cancels false h.mark f.session b (link.down ++ link.server.due)) (sym (ap acknowledged f.done ∙ plain f.final))
        (answer_cancels engine.settings h.mark f.session f.final (link.down ++ link.server.due) f.answer);
    server = f.server;
  },
)
keeps_act engine n Reading h link (Come part) (inl f) c = absurd (nothing_comes h link part f.still c)
keeps_act engine n Reading h link (Come part) (inr f) c = keeps_read engine n h link part (read_comes engine n h link part f c)
keeps_act engine n Reading h link Lose f c = tt
keeps_act engine n Cancelling h link (Mark reset) f c = stays engine n Cancelling h link f
keeps_act engine n Cancelling h link Ask f c = stays engine n Cancelling h link f
keeps_act engine n Cancelling h link (Send last) f c = stays engine n Cancelling h link f
keeps_act engine n Cancelling h link Cancel f c = stays engine n Cancelling h link f
keeps_act engine n Cancelling h link (Come part) (inl f) c = absurd (nothing_comes h link part f.still c)
keeps_act engine n Cancelling h link (Come part) (inr (stopped, f)) c = keeps_skip engine n h stopped link part (skip_comes n h stopped link part f c)
keeps_act engine n Cancelling h link Lose f c = tt
keeps_act engine n (Broken fault) h link (Mark reset) f c = tt
keeps_act engine n (Broken fault) h link Ask f c = tt
keeps_act engine n (Broken fault) h link (Send last) f c = tt
keeps_act engine n (Broken fault) h link Cancel f c = tt
keeps_act engine n (Broken fault) h link (Come part) f c = tt
keeps_act engine n (Broken fault) h link Lose f c = tt
