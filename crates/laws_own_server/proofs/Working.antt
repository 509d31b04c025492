-- The server works: it says one step more.
use Rattle.std.proofs.Common.{◌≡◌, ◌∙◌, ◌≤◌, ◌+◌, ◌&&◌, Bool, List, [], ◌∷◌, ◌++◌, length, refl, sym, ap, subst}
use Rattle.std.specs.Prelude.{Some, flat_map, not}
use Rattle.std.proofs.lemmas.List.{append-nil}
use Rattle.tds_packet.specs.Resets.{reset_effect}
use Rattle.tds_token.specs.declared.token.Token.{Token}
use Rattle.tds_token.specs.Layout.{spelling}
use Rattle.tds_token.specs.Told.{applied, changes_of}
use Rattle.tds_session.specs.declared.attention.OnAttention.{OnAttention}
use Rattle.tds_session.specs.Answer as answer
use Rattle.tds_session.specs.Answer.{Answers, EndsOnce}
use Rattle.tds_session.specs.Session.{is_in_transaction}
use Rattle.tds_world.specs.Arrivals.{works_on}
use Rattle.tds_world.specs.Connection.{Connection}
use Rattle.tds_world.specs.Entries as entries
use Rattle.laws_conforming_server.specs.Lawful.{AnyServer, Session, ServerStep}
use Rattle.laws_conforming_server.specs.Link.{Link, Move, link_after}
use Rattle.laws_own_server.specs.Bench.{Kept, Log, bench, said, said_step}
use Rattle.laws_own_server.specs.Runs.{Thing, first_place, packets_in, packets_of, things_in, things_of, things_said}
use Rattle.laws_own_server.proofs.Speaking.{says_all, speaks, speaks_here}
use Rattle.laws_own_server.proofs.Standing.{Holds, Leads, leads_on, link_of, said_both, things_both}
use Rattle.laws_own_server.proofs.Told.{behind_step, last_midway, session, step_then, step_things}

abbrev pub now_said : Connection → answer.Step → List (ServerStep Kept Token)
now_said c s = said_step c.session.descriptor s []

abbrev pub behind_it : answer.Step → Session Kept
behind_it s = session s.after.descriptor (record { settings = s.after.settings; midway = not s.last })

work_down : (c : Connection) (s : answer.Step) (down : List (ServerStep Kept Token)) → things_said down ≡ things_of c.to_client.waiting
    → things_said (down ++ now_said c s) ≡ things_of (c.to_client.waiting ++ entries.Step c.answering (c.taken + 1) s ∷ [])
work_down c s down h =
    said_both down (now_said c s)
    ∙ ap (λ (zs : List (Thing Token)). zs ++ things_said (now_said c s)) h
    ∙ ap (λ (zs : List (Thing Token)). things_of c.to_client.waiting ++ zs) (step_things c.session.descriptor s)
    ∙ sym (things_both c.to_client.waiting (entries.Step c.answering (c.taken + 1) s ∷ []))

pub work_leads : (attention : OnAttention) (answers : Answers) (log : Log) (moves : List (Move Token)) (c : Connection) (s : answer.Step) (ss : List answer.Step) → c.due ≡ s ∷ ss
    → 1 ≤ length (flat_map spelling s.tokens) → applied (reset_effect s.reset) c.session.descriptor (changes_of s.tokens) ≡ Some s.after.descriptor → EndsOnce (s ∷ ss)
    → Leads attention answers log moves c c.to_server.waiting c.to_client.waiting
    → Leads attention answers log (moves ++ speaks (now_said c s)) (works_on c (s ∷ ss)) c.to_server.waiting (works_on c (s ∷ ss)).to_client.waiting
work_leads attention answers log moves c s ss e some tells once l =
    let engine : AnyServer Kept Token = bench attention answers log in
    let link : Link Kept Token = link_of attention answers log moves in
    let h : Holds c c.to_server.waiting c.to_client.waiting link = l.holds in
    let d : Connection = works_on c (s ∷ ss) in
    let steps : List (ServerStep Kept Token) = now_said c s in
    let rest : List (ServerStep Kept Token) = said s.after.descriptor ss in
    let due : link.server.due ≡ steps ++ rest =
    h.due ∙ ap (λ (xs : List answer.Step). said c.session.descriptor xs) e ∙ step_then c.session.descriptor s rest in
    let r = says_all engine link steps rest due in
    let last : link_after engine link (speaks steps) ≡ record { up = link.up; server = record { session = behind_it s; reset = link.server.reset; due = rest }; down = link.down ++ steps; asking = link.asking } =
    r.1 ∙ ap (λ (x : Session Kept). record { up = link.up; server = record { session = x; reset = link.server.reset; due = rest }; down = link.down ++ steps; asking = link.asking })
    (behind_step link.server.session c.session.descriptor s some tells) in
    leads_on attention answers log moves c d c.to_server.waiting c.to_server.waiting c.to_client.waiting d.to_client.waiting l (speaks steps) r.0
    (sym (append-nil (packets_of first_place (c.to_server.arrived ++ c.to_server.waiting)))
    ∙ ap (λ ps. packets_of first_place (c.to_server.arrived ++ c.to_server.waiting) ++ packets_in {T = Token} ps) (sym (speaks_here steps)))
    (sym (append-nil (things_of c.to_client.arrived)) ∙ ap (λ ps. things_of c.to_client.arrived ++ things_in ps) (sym (speaks_here steps)))
    (subst (λ (k : Link Kept Token). Holds d c.to_server.waiting d.to_client.waiting k) (sym last)
    (record {
      up = h.up;
      reset = h.reset;
      transaction = refl;
      settings = refl;
      rolls = ap (λ (b : Bool). b && is_in_transaction s.after) (last_midway s ss c.taken once);
      due = refl;
      down = work_down c s link.down h.down;
    }))
