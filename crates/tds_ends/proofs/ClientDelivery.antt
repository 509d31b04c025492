-- A delivery to the client: what the packets that come do there, and what the model does.
use Rattle.std.proofs.Common.{◌≡◌, ◌∙◌, ◌-◌, inl, ℕ, Bool, true, false, cond, ltb, refl, sym, ap, subst, Option, Some, List, [], ◌∷◌, ◌++◌, length, take, flat_map, append-nil, append_assoc, arith}
use Rattle.std.proofs.lemmas.List.{take_all}
use Rattle.tds_client.specs.declared.state.Taken.{Taken}
use Rattle.tds_client.specs.declared.state.Taken.TheVariants as takes
use Rattle.tds_client.specs.Session.{ClientSession}
use Rattle.tds_client.specs.Taking.{ClientMove}
use Rattle.tds_packet.specs.Reading.{Reading}
use Rattle.tds_token.specs.declared.token.Token.{Token}
use Rattle.tds_world.specs.declared.report.RequestStatus.{RequestStatus}
use Rattle.tds_world.specs.Arrivals.{client_acts, reach_client}
use Rattle.tds_world.specs.Connection.{Connection}
use Rattle.tds_world.specs.Entries.{Down, down_bytes}
use Rattle.tds_world.specs.Lane.{Lane, passed, with_waiting}
use Rattle.tds_world.specs.Phase.{request_status}
use Rattle.tds_world.specs.Record.{Record}
use Rattle.tds_ends.specs.Deliveries.{down_coming, heard_of, AllHeard, RefinesListens, TellsMore, status_under}
use Rattle.tds_ends.specs.Feeding.{IsComing, IsBegun, Listened, listened, on_taken, settled_by, bytes_of}
use Rattle.tds_ends.specs.Hearing.{RefinesHear, IsTold, status_after}
use Rattle.tds_ends.specs.Stands.{MatchesClient}
use Rattle.tds_ends.proofs.Cuts.{cut_inside, cut_behind, begun_by}
use Rattle.tds_ends.proofs.Matching.{client_still_matches}

-- A client sees nothing of what is underway to it.
matches_on : (s : ClientSession) (c : Connection) (lane : Lane Down) → MatchesClient s c → MatchesClient s (record c { to_client = lane })
matches_on s c lane m = client_still_matches s c (record c { to_client = lane }) refl refl refl m

-- Nothing was told.
untold : (c d : Connection) (s : ClientSession) (settled : Option RequestStatus) (told : List Token) → d.current ≡ c.current → TellsMore c d settled told (record { session = s; settled = settled; told = told })
untold c d s settled told same q is =
    (q, same ∙ is, ([], sym (append-nil told), sym (append-nil q.given)), λ before e. e)

none_told : (r : Reading) (c d : Connection) (bytes : List ℕ) (s : ClientSession) (settled : Option RequestStatus) (told : List Token) → IsBegun r bytes → d.current ≡ c.current → MatchesClient s d → bytes ≡ take d.to_client.part (flat_map down_bytes d.to_client.waiting) → RefinesListens r bytes c d s settled told
none_told r c d bytes s settled told begun same m left = record {
  packets = [];
  rest = bytes;
  then = record { session = s; settled = settled; told = told };
  comes = record { each = tt; begun = begun; joined = refl };
  listens = refl;
  matches = m;
  tells = untold c d s settled told same;
  left = left;
}

-- What a packet settles is what becomes of the status.
settles : (t : Taken) (settled : Option RequestStatus) (before : RequestStatus) → status_after t (status_under settled before) ≡ status_under (settled_by t settled) before
settles takes.More settled before = refl
settles takes.Finished settled before = refl
settles takes.Acknowledged settled before = refl
settles takes.NoMemory settled before = refl

-- What was told with the first entry, and then with those behind it.
tells_both : (c m d : Connection) (q after : Record) (t : ClientMove) (settled : Option RequestStatus) (told : List Token) (then : Listened) → c.current ≡ Some q → m.current ≡ Some after → IsTold q after t → TellsMore m d (settled_by t.answer settled) (told ++ t.tokens) then → TellsMore c d settled told then
tells_both c m d q after t settled told then is now first later p other =
    let same : q ≡ p = cc (is, other) in
    let end = later after now in
    let more : List Token = end.2.0 in (
      end.0,
      end.1,
      (
        t.tokens ++ more,
        end.2.1 ∙ append_assoc told t.tokens more,
        end.2.2 ∙ ap (λ (ts : List Token). ts ++ more) (first.given ∙ ap (λ (x : Record). x.given ++ t.tokens) same) ∙ append_assoc p.given t.tokens more,
      ),
      λ before e. end.3 before
          (first.status ∙ ap (λ (x : RequestStatus). status_after t.answer x) (ap (λ (x : Record). request_status false x) same ∙ e) ∙ settles t.answer settled before),
    )

-- The first entry is whole: it is heard, and then those behind it.
first_whole : (r : Reading) (c d : Connection) (e : Down) (es : List Down) (k : ℕ) (s : ClientSession) (settled : Option RequestStatus) (told : List Token) (q : Record)
    → IsComing r (down_coming e) → c.current ≡ Some q
    → (h : RefinesHear (record c { to_client = passed e c.to_client }) q e (heard_of s e))
    → ltb k (length (down_bytes e)) ≡ false
    → RefinesListens r (take (k - length (down_bytes e)) (flat_map down_bytes es)) (client_acts (record c { to_client = passed e c.to_client }) e) d h.took.session (settled_by h.took.answer settled) (told ++ h.took.tokens)
    → RefinesListens r (take k (flat_map down_bytes (e ∷ es))) c d s settled told
first_whole r c d e es k s settled told q is current h more later = record {
  packets = down_coming e ∷ later.packets;
  rest = later.rest;
  then = later.then;
  comes = record {
    each = (is, later.comes.each);
    begun = later.comes.begun;
    joined =
        cut_behind k (down_bytes e) (flat_map down_bytes es) more
        ∙ ap (λ (bs : List ℕ). down_bytes e ++ bs) later.comes.joined
        ∙ sym (append_assoc (down_bytes e) (bytes_of later.packets) later.rest);
  };
  listens =
      ap (λ x. on_taken x (λ t. listened t.session (settled_by t.answer settled) (told ++ t.tokens) later.packets)) h.lawful
      ∙ later.listens;
  matches = later.matches;
  tells = tells_both c (client_acts (record c { to_client = passed e c.to_client }) e) d q h.told.0 h.took settled told later.then current h.told.1 h.told.2 later.tells;
  left = later.left;
}

by_size : (b : Bool) (r : Reading) (bytes : List ℕ) (c x y : Connection) (s : ClientSession) (settled : Option RequestStatus) (told : List Token) → (b ≡ true → RefinesListens r bytes c x s settled told) → (b ≡ false → RefinesListens r bytes c y s settled told) → RefinesListens r bytes c (cond b x y) s settled told
by_size true r bytes c x y s settled told f g = f refl
by_size false r bytes c x y s settled told f g = g refl

-- Of the entries that wait, a client that stands for the connection hears those that come whole as the
-- model does.
pub listen_alike : (r : Reading) (c : Connection) (es : List Down) (k : ℕ) (s : ClientSession) (settled : Option RequestStatus) (told : List Token) → AllHeard r c es → MatchesClient s c → RefinesListens r (take k (flat_map down_bytes es)) c (reach_client c es k) s settled told
listen_alike r c [] k s settled told all m =
    let none : take k [] ≡ [] = take_all k [] (omega (arith)) in
    subst (λ (bs : List ℕ). RefinesListens r bs c (reach_client c [] k) s settled told) (sym none)
    (none_told r c (reach_client c [] k) [] s settled told (inl refl) refl (matches_on s c (with_waiting [] 0 c.to_client) m) refl)
listen_alike r c (e ∷ es) k s settled told all m =
    let came : Connection = record c { to_client = passed e c.to_client } in
    let heard = all.1 s (matches_on s c (passed e c.to_client) m) in
    let h : RefinesHear came heard.0 e (heard_of s e) = heard.2 in
    by_size (ltb k (length (down_bytes e))) r (take k (flat_map down_bytes (e ∷ es))) c (record c { to_client = with_waiting (e ∷ es) k c.to_client }) (reach_client (client_acts came e) es (k - length (down_bytes e))) s settled told
    (λ less.
    let cut : take k (flat_map down_bytes (e ∷ es)) ≡ take k (down_bytes e) = cut_inside k (down_bytes e) (flat_map down_bytes es) less in
    none_told r c (record c { to_client = with_waiting (e ∷ es) k c.to_client }) (take k (flat_map down_bytes (e ∷ es))) s settled told
    (rw cut (begun_by r (down_coming e) k all.0 less)) refl (matches_on s c (with_waiting (e ∷ es) k c.to_client) m) refl)
    (λ more. first_whole r c (reach_client (client_acts came e) es (k - length (down_bytes e))) e es k s settled told heard.0 all.0 heard.1 h more
    (listen_alike r (client_acts came e) es (k - length (down_bytes e)) h.took.session (settled_by h.took.answer settled) (told ++ h.took.tokens) all.2 h.matches))
