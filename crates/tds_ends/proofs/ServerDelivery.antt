-- A delivery to the server: what the packets that come do there, and what the model does.
use Rattle.std.proofs.Common.{◌≡◌, ◌∙◌, ◌-◌, inl, ℕ, Bool, true, false, cond, ltb, refl, sym, ap, Option, Result, Ok, List, [], ◌∷◌, ◌++◌, length, take, flat_map, append-nil, append_assoc, arith}
use Rattle.std.proofs.lemmas.List.{take_all}
use Rattle.tds_packet.specs.Reading.{Reading}
use Rattle.tds_server.specs.declared.fault.ServerFault.{ServerFault}
use Rattle.tds_server.specs.declared.outcome.ServerTook.{ServerTook}
use Rattle.tds_server.specs.State.{ServerState}
use Rattle.tds_server.specs.Taking.{ServerMove, taken}
use Rattle.tds_session.specs.Answer.{Answers}
use Rattle.tds_world.specs.Arrivals.{server_acts, reach_server}
use Rattle.tds_world.specs.Connection.{Connection}
use Rattle.tds_world.specs.Entries.{Up, up_packet, up_bytes, down_bytes}
use Rattle.tds_world.specs.Lane.{Lane, passed, with_waiting}
use Rattle.tds_ends.specs.Refines.{RefinesArrive}
use Rattle.tds_ends.specs.Deliveries.{up_coming, AllArrive, RefinesServes}
use Rattle.tds_ends.specs.Feeding.{IsComing, served, unless_refused, bytes_of}
use Rattle.tds_ends.specs.Stands.{MatchesServer, Sends}
use Rattle.tds_ends.proofs.Cuts.{cut_inside, cut_behind, begun_by}
use Rattle.tds_ends.proofs.Matching.{server_still_matches}

-- ---- What goes out

-- What is sent in two goes.
both_sent : {Entry : Type 0} (bytes : Entry → List ℕ) (one two : List ℕ) (a b c : Lane Entry) → Sends bytes one a b → Sends bytes two b c → Sends bytes (one ++ two) a c
both_sent bytes one two a b c f g = record {
  waiting =
      g.waiting ∙ ap (λ (bs : List ℕ). bs ++ two) f.waiting ∙ append_assoc (flat_map bytes a.waiting) one two;
  arrived = g.arrived ∙ f.arrived;
  part = g.part ∙ f.part;
}

nothing_sent : {Entry : Type 0} (bytes : Entry → List ℕ) (a b : Lane Entry) → b ≡ a → Sends bytes [] a b
nothing_sent {Entry} bytes a b e = record {
  waiting = ap (λ (l : Lane Entry). flat_map bytes l.waiting) e ∙ sym (append-nil (flat_map bytes a.waiting));
  arrived = ap (λ l. l.arrived) e;
  part = ap (λ l. l.part) e;
}

-- ---- What a server stands for

-- A server sees nothing of what is underway to it.
matches_on : {E : Type 0} (s : ServerState E) (c : Connection) (lane : Lane Up) → MatchesServer s c → MatchesServer s (record c { to_server = lane })
matches_on s c lane m = server_still_matches s c (record c { to_server = lane }) refl refl refl refl refl (λ message some of. of) m

-- ---- One entry, and those behind it

taken_by : {A : Type 0} → (took : ServerTook) (answer : Result ServerTook ServerFault) (next : Option A) → answer ≡ Ok took → unless_refused answer next ≡ next
taken_by took answer next e = ap (λ a. unless_refused a next) e

-- Nothing whole comes.
none_whole : {E : Type 0} (answers : Answers) (r : Reading) (c : Connection) (e : Up) (es : List Up) (k : ℕ) (s : ServerState E) (reply : List ℕ) → IsComing r (up_coming e) → MatchesServer s c → ltb k (length (up_bytes e)) ≡ true → RefinesServes E answers r (take k (flat_map up_bytes (e ∷ es))) c (record c { to_server = with_waiting (e ∷ es) k c.to_server }) s reply
none_whole answers r c e es k s reply is m less =
    let cut : take k (flat_map up_bytes (e ∷ es)) ≡ take k (up_bytes e) = cut_inside k (up_bytes e) (flat_map up_bytes es) less in
    record {
      packets = [];
      rest = take k (up_bytes e);
      then = record { state = s; reply = reply };
      comes = record { each = tt; begun = begun_by r (up_coming e) k is less; joined = cut };
      serves = refl;
      matches = matches_on s c (with_waiting (e ∷ es) k c.to_server) m;
      sends = ([], sym (append-nil reply), nothing_sent down_bytes c.to_client c.to_client refl);
      left = sym cut;
    }

-- The first entry is whole: it is taken, and then those behind it.
first_whole : {E : Type 0} (answers : Answers) (r : Reading) (c d : Connection) (e : Up) (es : List Up) (k : ℕ) (s : ServerState E) (reply : List ℕ)
    → IsComing r (up_coming e)
    → (a : RefinesArrive answers (record c { to_server = passed e c.to_server }) e (taken answers s (up_packet e).header (up_packet e).body))
    → ltb k (length (up_bytes e)) ≡ false
    → RefinesServes E answers r (take (k - length (up_bytes e)) (flat_map up_bytes es)) (server_acts answers (record c { to_server = passed e c.to_server }) e) d (taken answers s (up_packet e).header (up_packet e).body).state (reply ++ (taken answers s (up_packet e).header (up_packet e).body).reply)
    → RefinesServes E answers r (take k (flat_map up_bytes (e ∷ es))) c d s reply
first_whole {E} answers r c d e es k s reply is a more later =
    let t : ServerMove E = taken answers s (up_packet e).header (up_packet e).body in
    record {
      packets = up_coming e ∷ later.packets;
      rest = later.rest;
      then = later.then;
      comes = record {
        each = (is, later.comes.each);
        begun = later.comes.begun;
        joined =
            cut_behind k (up_bytes e) (flat_map up_bytes es) more
            ∙ ap (λ (bs : List ℕ). up_bytes e ++ bs) later.comes.joined
            ∙ sym (append_assoc (up_bytes e) (bytes_of later.packets) later.rest);
      };
      serves = taken_by a.took t.answer (served answers t.state (reply ++ t.reply) later.packets) a.lawful ∙ later.serves;
      matches = later.matches;
      sends = (
        t.reply ++ later.sends.0,
        later.sends.1 ∙ append_assoc reply t.reply later.sends.0,
        both_sent down_bytes t.reply later.sends.0 c.to_client (server_acts answers (record c { to_server = passed e c.to_server }) e).to_client d.to_client a.sends later.sends.2,
      );
      left = later.left;
    }

-- ---- A delivery

by_size : {E : Type 0} (b : Bool) (answers : Answers) (r : Reading) (bytes : List ℕ) (c x y : Connection) (s : ServerState E) (reply : List ℕ) → (b ≡ true → RefinesServes E answers r bytes c x s reply) → (b ≡ false → RefinesServes E answers r bytes c y s reply) → RefinesServes E answers r bytes c (cond b x y) s reply
by_size true answers r bytes c x y s reply f g = f refl
by_size false answers r bytes c x y s reply f g = g refl

-- Of the entries that wait, a server that stands for the connection takes those that come whole as the
-- model does.
pub serve_alike : {E : Type 0} (answers : Answers) (r : Reading) (c : Connection) (es : List Up) (k : ℕ) (s : ServerState E) (reply : List ℕ) → AllArrive E answers r c es → MatchesServer s c → RefinesServes E answers r (take k (flat_map up_bytes es)) c (reach_server answers c es k) s reply
serve_alike answers r c [] k s reply all m = record {
  packets = [];
  rest = [];
  then = record { state = s; reply = reply };
  comes = record { each = tt; begun = inl refl; joined = take_all k [] (omega (arith)) };
  serves = refl;
  matches = matches_on s c (with_waiting [] 0 c.to_server) m;
  sends = ([], sym (append-nil reply), nothing_sent down_bytes c.to_client c.to_client refl);
  left = refl;
}
serve_alike {E} answers r c (e ∷ es) k s reply all m =
    let came : Connection = record c { to_server = passed e c.to_server } in
    let a : RefinesArrive answers came e (taken answers s (up_packet e).header (up_packet e).body) = all.1 s (matches_on s c (passed e c.to_server) m) in
    by_size (ltb k (length (up_bytes e))) answers r (take k (flat_map up_bytes (e ∷ es))) c (record c { to_server = with_waiting (e ∷ es) k c.to_server }) (reach_server answers (server_acts answers came e) es (k - length (up_bytes e))) s reply
    (λ less. none_whole answers r c e es k s reply all.0 m less)
    (λ more. first_whole answers r c (reach_server answers (server_acts answers came e) es (k - length (up_bytes e))) e es k s reply all.0 a more
    (serve_alike answers r (server_acts answers came e) es (k - length (up_bytes e)) (taken answers s (up_packet e).header (up_packet e).body).state (reply ++ (taken answers s (up_packet e).header (up_packet e).body).reply) all.2 a.matches))
