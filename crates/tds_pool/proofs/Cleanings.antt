-- A connection that is being cleaned, whatever is called meanwhile.
use Rattle.std.proofs.Common.{◌≡◌, ℕ, suc, Bool, true, false, not, ◌≤◌, List, [], ◌∷◌, Option, Some, None, refl, sym, ap, subst, ◌∙◌, cond, Result, Ok, Err}
use Rattle.std.proofs.Math.Dec.{eqb}
use Rattle.std.proofs.Math.Nat.{le_trans, le-suc, not-suc-le_self}
use Rattle.std.proofs.lemmas.Bool.{eqb-true, eqb-false}
use Rattle.std.specs.Prelude.{◌==◌, ◌&&◌, ◌≢◌, nat_le, length, IsSomeAnd, IfSome, is_none, option_map}
use Rattle.tds_client.specs.Session.{ClientSession, Stage, Idle, Sending, Reading, Cancelling, Broken, marked}
use Rattle.tds_client.specs.Hearing.{◌>>=◌, hear_packet}
use Rattle.tds_client.specs.Sending.{Effect, cancelled, message_of, room, sent_in, sent_of}
use Rattle.tds_client.specs.Taking.{read, taken_in, taken_reading}
use Rattle.tds_client.specs.declared.fault.ClientFault.{ClientFault}
use Rattle.tds_client.specs.declared.heard.Heard.{Heard}
use Rattle.tds_client.specs.declared.state.Sent.{Sent}
use Rattle.tds_packet.specs.Resets.{header_descriptor, strongest}
use Rattle.tds_packet.specs.declared.status.Reset.{Reset}
use Rattle.tds_packet.specs.declared.status.Reset.TheVariants.{Full, KeepTransaction}
use Rattle.tds_request.specs.declared.request.Request.{Request}
use Rattle.tds_request.specs.Layout.{request_spelling}
use Rattle.tds_token.specs.Contents.{Contents, contents_of}
use Rattle.tds_pool.specs.declared.lease.Lease.{Lease}
use Rattle.tds_pool.specs.declared.lease.Ticket.{Ticket}
use Rattle.tds_pool.specs.declared.lease.Turn.{Turn}
use Rattle.tds_pool.specs.declared.seat.Place.{Place}
use Rattle.tds_pool.specs.declared.seat.Place.TheVariants as places
use Rattle.tds_pool.specs.Connections.{Connection, numbered, changed_in, at_place, with_client, taken_out, next_turn, same_turn}
use Rattle.tds_pool.specs.Calls.{only, lent_to, kept_for, is_leased, is_kept, is_free, is_held, is_idle, is_draining, is_cleaning, is_lendable, lent_again, put_back, rested, rests_at, settled, cancels, cancelled_and_settled, session_behind, refuses_keep, refuses_resume, free_one, held_one, closed_for, refuses_clean, asks_reset, behind_refusal, new_connection, cleaned_to, looked_at_clean, rests_clean, is_clean}
use Rattle.tds_pool.specs.History.{Seen}
use Rattle.tds_pool.specs.Cleaning.{Packet, Call, LendsAgain, LendsNew, Uses, Carries, Moves, Keeps, Resumes, GivesBack, Abandons, TakesBack, LooksAtDrained, Loses, Closes, Cleans, CleansNot, LooksAtCleaned, behind_packet, behind_packets, where_some, with_these, called, is_cleaned, while_cleaned, IsBehind, carried, Out, In, behind_sent, behind_taken, is_cancelling}
use Rattle.tds_pool.proofs.Others.{by_number, changed_here, changed_other, taken_other, added_other}
use Rattle.tds_pool.proofs.Over.{numbered_has}
use Rattle.tds_pool.proofs.Taken.{gone}
use Rattle.tds_pool.proofs.Seats.{taken, passed}
use Rattle.tds_pool.proofs.Turns.{both_hold}

-- ---- Another connection changes, or is taken out

-- what is found, if anything is, has another number
abbrev Aside : ℕ → Option Connection → Type 0
Aside n o = IfSome o (λ c. n ≢ c.number)

rested_aside : (n m : ℕ) (place : Option Place) (cs : List Connection) → n ≢ m → numbered n (rested m place cs).connections ≡ numbered n cs
rested_aside n m None cs other = taken_other m n cs other
rested_aside n m (Some places.Leased) cs other = changed_other m n (λ (c : Connection). record c { place = places.Leased; turn = next_turn c.turn }) cs (λ c. refl) other
rested_aside n m (Some places.Kept) cs other = changed_other m n (λ (c : Connection). record c { place = places.Kept; turn = next_turn c.turn }) cs (λ c. refl) other
rested_aside n m (Some places.Free) cs other = changed_other m n (λ (c : Connection). record c { place = places.Free; turn = next_turn c.turn }) cs (λ c. refl) other
rested_aside n m (Some places.Draining) cs other = changed_other m n (λ (c : Connection). record c { place = places.Draining; turn = next_turn c.turn }) cs (λ c. refl) other
rested_aside n m (Some places.Cleaning) cs other = changed_other m n (λ (c : Connection). record c { place = places.Cleaning; turn = next_turn c.turn }) cs (λ c. refl) other

put_back_aside : (n : ℕ) (o : Option Connection) (cs : List Connection) → Aside n o → numbered n (put_back o cs).connections ≡ numbered n cs
put_back_aside n None cs aside = refl
put_back_aside n (Some c) cs aside = rested_aside n c.number (rests_at c.client.stage) cs aside

settled_aside : (n m : ℕ) (cs : List Connection) → n ≢ m → numbered n (settled m cs).connections ≡ numbered n cs
settled_aside n m cs other = by (numbered m cs) refl where
  by : (o : Option Connection) → numbered m cs ≡ o → numbered n (put_back o cs).connections ≡ numbered n cs
  by None is = refl
  by (Some c) is = put_back_aside n (Some c) cs (λ e. other (e ∙ numbered_has m cs c is))

cancelled_aside : (n : ℕ) (o : Option Connection) (cs : List Connection) → Aside n o → numbered n (cancelled_and_settled o cs).connections ≡ numbered n cs
cancelled_aside n None cs aside = refl
cancelled_aside n (Some c) cs aside =
    settled_aside n c.number (cancels c.number c.client cs) aside
    ∙ changed_other c.number n (λ (d : Connection). record d { client = session_behind (cancelled c.client) c.client }) cs (λ d. refl) aside

closed_aside : (n : ℕ) (o : Option Connection) (cs : List Connection) → Aside n o → numbered n (closed_for o cs) ≡ numbered n cs
closed_aside n None cs aside = refl
closed_aside n (Some c) cs aside = taken_other c.number n cs aside

cleaned_to_aside : (n m : ℕ) (place : Option Place) (cs : List Connection) → n ≢ m → numbered n (cleaned_to m place cs).connections ≡ numbered n cs
cleaned_to_aside n m None cs other = taken_other m n cs other
cleaned_to_aside n m (Some places.Free) cs other = changed_other m n (λ (c : Connection). record c { place = places.Free }) cs (λ c. refl) other
cleaned_to_aside n m (Some places.Draining) cs other = refl
cleaned_to_aside n m (Some places.Leased) cs other = refl
cleaned_to_aside n m (Some places.Kept) cs other = refl
cleaned_to_aside n m (Some places.Cleaning) cs other = refl

looked_aside : (n : ℕ) (o : Option Connection) (cs : List Connection) → Aside n o → numbered n (looked_at_clean o cs).connections ≡ numbered n cs
looked_aside n None cs aside = refl
looked_aside n (Some c) cs aside = cleaned_to_aside n c.number (rests_clean c.client c.client.stage) cs aside

-- one of two lists, of which one has the connection as it was
first_or : {A : Type 0} (n : ℕ) (o : Option A) (xs cs : List Connection) → numbered n xs ≡ numbered n cs → numbered n (where_some o xs cs) ≡ numbered n cs
first_or n None xs cs same = refl
first_or n (Some x) xs cs same = same

or_second : {A : Type 0} (n : ℕ) (o : Option A) (xs cs : List Connection) → numbered n xs ≡ numbered n cs → numbered n (where_some o cs xs) ≡ numbered n cs
or_second n None xs cs same = same
or_second n (Some x) xs cs same = refl

-- ---- A connection that a test passes over

only_none : (test : Connection → Bool) (c : Connection) → test c ≡ false → only test (Some c) ≡ None
only_none test c fails = passed (test c) (Some c) None fails

none_at : (test : Connection → Bool) (n m : ℕ) (cs : List Connection) (c : Connection) → n ≡ m → numbered n cs ≡ Some c → test c ≡ false → only test (numbered m cs) ≡ None
none_at test n m cs c is at fails = ap (λ (k : ℕ). only test (numbered k cs)) (sym is) ∙ ap (only test) at ∙ only_none test c fails

aside_other : (test : Connection → Bool) (n m : ℕ) (cs : List Connection) → n ≢ m → Aside n (only test (numbered m cs))
aside_other test n m cs other = by (numbered m cs) refl where
  within : (b : Bool) (c : Connection) → c.number ≡ m → Aside n (cond b (Some c) None)
  within true c is = λ e. other (e ∙ is)
  within false c is = tt

  by : (o : Option Connection) → numbered m cs ≡ o → Aside n (only test o)
  by None is = tt
  by (Some c) is = within (test c) c (numbered_has m cs c is)

aside_only : (test : Connection → Bool) (n m : ℕ) (cs : List Connection) (c : Connection) → numbered n cs ≡ Some c → test c ≡ false → Aside n (only test (numbered m cs))
aside_only test n m cs c at fails =
    by_number _ n m
    (λ is e. subst (Aside n) (sym (none_at test n m cs c is at fails)) tt)
    (λ e. aside_other test n m cs (eqb-false n m e))

never : (a b : Bool) → (a && (b && false)) ≡ false
never true true = refl
never true false = refl
never false b = refl

-- what stands at `Cleaning` is neither lent nor kept, for no turn
not_for : (l : Place → Bool) (key : ℕ) (turn : Turn) (c : Connection) → l c.place ≡ false → ((c.key == key) && (same_turn c.turn turn && l c.place)) ≡ false
not_for l key turn c fails = ap (λ (b : Bool). (c.key == key) && (same_turn c.turn turn && b)) fails ∙ never (c.key == key) (same_turn c.turn turn)

not_lendable : (c : Connection) → c.place ≡ places.Cleaning → is_lendable c ≡ false
not_lendable c is = ap (λ (place : Place). is_free place && is_idle c.client.stage) is

-- ---- One call

-- It is being cleaned, and its client is behind these packets.
record InCleaning (start : ClientSession) (c : Connection) : Type 0 where
  place : c.place ≡ places.Cleaning
  packets : List Packet
  asked : c.client ≡ behind_packets packets start

still : (start : ClientSession) (c : Connection) → InCleaning start c → IsBehind start c
still start c i = record {
  packets = i.packets;
  asked = i.asked;
  clean = λ h. let bad : true ≡ false = sym (ap is_cleaning i.place) ∙ h in absurd (cc);
}

-- What is found behind a call.
record Next (n : ℕ) (start : ClientSession) (p : Seen) : Type 0 where
  used : n ≤ p.last
  behind : IfSome (numbered n p.connections) (IsBehind start)

module _ (n : ℕ) (start : ClientSession) (p : Seen) (c : Connection) (used : n ≤ p.last) (at : numbered n p.connections ≡ Some c) (i : InCleaning start c) where
  cs : List Connection
  cs = p.connections

  as_it_was : (xs : List Connection) → numbered n xs ≡ numbered n p.connections → Next n start (with_these p xs)
  as_it_was xs same = record { used = used; behind = subst (λ o. IfSome o (IsBehind start)) (sym (same ∙ at)) (still start c i) }

  unless_here : (m : ℕ) (xs : List Connection) → (n ≡ m → numbered n xs ≡ numbered n p.connections) → (n ≢ m → numbered n xs ≡ numbered n p.connections) → Next n start (with_these p xs)
  unless_here m xs here other = as_it_was xs (by_number _ n m (λ is e. here is) (λ e. other (eqb-false n m e)))

  leaseless : (lease : Lease) → n ≡ lease.number → lent_to lease p.connections ≡ None
  leaseless lease is = none_at (λ (d : Connection). (d.key == lease.key) && (same_turn d.turn lease.turn && is_leased d.place)) n lease.number p.connections c is at (not_for is_leased lease.key lease.turn c (ap is_leased i.place))

  ticketless : (ticket : Ticket) → n ≡ ticket.number → kept_for ticket p.connections ≡ None
  ticketless ticket is = none_at (λ (d : Connection). (d.key == ticket.key) && (same_turn d.turn ticket.turn && is_kept d.place)) n ticket.number p.connections c is at (not_for is_kept ticket.key ticket.turn c (ap is_kept i.place))

  freeless : (m : ℕ) → n ≡ m → free_one m p.connections ≡ None
  freeless m is = none_at (λ (d : Connection). is_free d.place) n m p.connections c is at (ap is_free i.place)

  packet_moves : (m : ℕ) (packet : Packet) → Next n start (called (Moves m packet) p)
  packet_moves m packet =
      by_number _ n m
      (λ is e. record { used = used; behind = subst (λ o. IfSome o (IsBehind start)) (sym (here is)) (still start (f c) (record { place = i.place; packets = packet ∷ i.packets; asked = ap (behind_packet packet) i.asked })) })
      (λ e. as_it_was (changed_in m f p.connections) (changed_other m n f p.connections (λ d. refl) (eqb-false n m e)))
    where
      f : Connection → Connection
      f d = record d { client = behind_packet packet d.client }

      here : n ≡ m → numbered n (changed_in m f p.connections) ≡ Some (f c)
      here is = ap (λ (k : ℕ). numbered n (changed_in k f p.connections)) (sym is) ∙ changed_here n f p.connections (λ d. refl) ∙ ap (option_map f) at

  loses : (m : ℕ) → Next n start (called (Loses m) p)
  loses m =
      by_number _ n m
      (λ is e. record { used = used; behind = subst (λ o. IfSome o (IsBehind start)) (sym (ap (λ (k : ℕ). numbered n (taken_out k p.connections)) (sym is) ∙ gone n p.connections)) tt })
      (λ e. as_it_was (taken_out m p.connections) (taken_other m n p.connections (eqb-false n m e)))

  -- its cleaning is looked at
  is_freed : (s : ClientSession) → c.client ≡ s → is_clean s ≡ true → is_idle s.stage ≡ true → IfSome (numbered n (at_place n places.Free p.connections)) (IsBehind start)
  is_freed s client clean idle =
      subst (λ o. IfSome o (IsBehind start)) (sym (changed_here n (λ (d : Connection). record d { place = places.Free }) p.connections (λ d. refl) ∙ ap (option_map (λ (d : Connection). record d { place = places.Free })) at))
      (record { packets = i.packets; asked = i.asked; clean = λ h. (refl, subst (λ (x : ClientSession). is_clean x ≡ true) (sym client) clean, subst (λ (x : ClientSession). is_idle x.stage ≡ true) (sym client) idle) })

  is_out : IfSome (numbered n (taken_out n p.connections)) (IsBehind start)
  is_out = subst (λ o. IfSome o (IsBehind start)) (sym (gone n p.connections)) tt

  as_before : IfSome (numbered n p.connections) (IsBehind start)
  as_before = subst (λ o. IfSome o (IsBehind start)) (sym at) (still start c i)

  looked : (s : ClientSession) (stage : Stage) → c.client ≡ s → s.stage ≡ stage → IfSome (numbered n (cleaned_to n (rests_clean s stage) p.connections).connections) (IsBehind start)
  looked s Idle client is = by (is_clean s) refl where
    by : (b : Bool) → is_clean s ≡ b → IfSome (numbered n (cleaned_to n (cond b (Some places.Free) None) p.connections).connections) (IsBehind start)
    by true e = is_freed s client e (ap is_idle is)
    by false e = is_out
  looked s (Sending kind left packets) client is = as_before
  looked s Reading client is = as_before
  looked s Cancelling client is = as_before
  looked s (Broken fault) client is = is_out

  looks : (m : ℕ) → Next n start (called (LooksAtCleaned m) p)
  looks m =
      by_number _ n m
      (λ is e. record { used = used; behind = subst (λ o. IfSome (numbered n (looked_at_clean o p.connections).connections) (IsBehind start)) (sym (found is)) (subst (λ (k : ℕ). IfSome (numbered n (cleaned_to k (rests_clean c.client c.client.stage) p.connections).connections) (IsBehind start)) (sym (numbered_has n p.connections c at)) (looked c.client c.client.stage refl refl)) })
      (λ e. as_it_was _ (looked_aside n (only (λ (d : Connection). is_cleaning d.place) (numbered m p.connections)) p.connections (aside_other (λ (d : Connection). is_cleaning d.place) n m p.connections (eqb-false n m e))))
    where
      found : n ≡ m → only (λ (d : Connection). is_cleaning d.place) (numbered m p.connections) ≡ Some c
      found is = ap (λ (k : ℕ). only (λ (d : Connection). is_cleaning d.place) (numbered k p.connections)) (sym is) ∙ ap (only (λ (d : Connection). is_cleaning d.place)) at ∙ taken (is_cleaning c.place) (Some c) None (ap is_cleaning i.place)

  next : (call : Call) → Next n start (called call p)
  next (LendsAgain m) =
      unless_here m _
      (λ is. ap (λ o. numbered n (where_some o (lent_again m Full p.connections) p.connections)) (none_at is_lendable n m p.connections c is at (not_lendable c i.place)))
      (λ other. first_or n (only is_lendable (numbered m p.connections)) (lent_again m Full p.connections) p.connections (changed_other m n (λ (d : Connection). record d { place = places.Leased; client = marked d.client Full }) p.connections (λ d. refl) other))
  next (LendsNew key size) = record {
    used = le_trans used (le-suc p.last);
    behind = subst (λ o. IfSome o (IsBehind start)) (sym (added_other (new_connection p.name (suc p.last) key size) n p.connections (λ e. not-suc-le_self p.last (subst (λ (k : ℕ). k ≤ p.last) e used)) ∙ at)) (still start c i);
  }
  next (Uses lease client) =
      unless_here lease.number _
      (λ is. ap (λ o. numbered n (where_some o (with_client lease.number client p.connections) p.connections)) (leaseless lease is))
      (λ other. first_or n (lent_to lease p.connections) (with_client lease.number client p.connections) p.connections (changed_other lease.number n (λ (d : Connection). record d { client = client }) p.connections (λ d. refl) other))
  next (Carries m client) =
      unless_here m _
      (λ is. ap (λ o. numbered n (where_some o (with_client m client p.connections) p.connections)) (none_at (λ (d : Connection). not (is_cleaning d.place)) n m p.connections c is at (ap (λ (place : Place). not (is_cleaning place)) i.place)))
      (λ other. first_or n (carried m p.connections) (with_client m client p.connections) p.connections (changed_other m n (λ (d : Connection). record d { client = client }) p.connections (λ d. refl) other))
  next (Moves m packet) = packet_moves m packet
  next (Keeps lease) =
      unless_here lease.number _
      (λ is. ap (λ o. numbered n (where_some (refuses_keep o) p.connections (at_place lease.number places.Kept p.connections))) (leaseless lease is))
      (λ other. or_second n (refuses_keep (lent_to lease p.connections)) (at_place lease.number places.Kept p.connections) p.connections (changed_other lease.number n (λ (d : Connection). record d { place = places.Kept }) p.connections (λ d. refl) other))
  next (Resumes ticket) =
      unless_here ticket.number _
      (λ is. ap (λ o. numbered n (where_some (refuses_resume o) p.connections (lent_again ticket.number KeepTransaction p.connections))) (ticketless ticket is))
      (λ other. or_second n (refuses_resume (kept_for ticket p.connections)) (lent_again ticket.number KeepTransaction p.connections) p.connections (changed_other ticket.number n (λ (d : Connection). record d { place = places.Leased; client = marked d.client KeepTransaction }) p.connections (λ d. refl) other))
  next (GivesBack lease) = as_it_was _ (cancelled_aside n (lent_to lease p.connections) p.connections (aside_only (λ (d : Connection). (d.key == lease.key) && (same_turn d.turn lease.turn && is_leased d.place)) n lease.number p.connections c at (not_for is_leased lease.key lease.turn c (ap is_leased i.place))))
  next (Abandons ticket) = as_it_was _ (put_back_aside n (kept_for ticket p.connections) p.connections (aside_only (λ (d : Connection). (d.key == ticket.key) && (same_turn d.turn ticket.turn && is_kept d.place)) n ticket.number p.connections c at (not_for is_kept ticket.key ticket.turn c (ap is_kept i.place))))
  next (TakesBack m) = as_it_was _ (cancelled_aside n (held_one m p.connections) p.connections (aside_only (λ (d : Connection). is_held d.place) n m p.connections c at (ap is_held i.place)))
  next (LooksAtDrained m) = as_it_was _ (put_back_aside n (only (λ (d : Connection). is_draining d.place) (numbered m p.connections)) p.connections (aside_only (λ (d : Connection). is_draining d.place) n m p.connections c at (ap is_draining i.place)))
  next (Loses m) = loses m
  next (Closes m) = as_it_was _ (closed_aside n (free_one m p.connections) p.connections (aside_only (λ (d : Connection). is_free d.place) n m p.connections c at (ap is_free i.place)))
  next (Cleans m request) =
      unless_here m _
      (λ is. ap (λ o. numbered n (where_some (refuses_clean o) p.connections (changed_in m (λ (d : Connection). record d { place = places.Cleaning; client = asks_reset d.client request }) p.connections))) (freeless m is))
      (λ other. or_second n (refuses_clean (free_one m p.connections)) (changed_in m (λ (d : Connection). record d { place = places.Cleaning; client = asks_reset d.client request }) p.connections) p.connections (changed_other m n (λ (d : Connection). record d { place = places.Cleaning; client = asks_reset d.client request }) p.connections (λ d. refl) other))
  next (CleansNot m refusal) =
      unless_here m _
      (λ is. ap (λ o. numbered n (where_some o (changed_in m (λ (d : Connection). record d { client = behind_refusal refusal d.client }) p.connections) p.connections)) (freeless m is))
      (λ other. first_or n (free_one m p.connections) (changed_in m (λ (d : Connection). record d { client = behind_refusal refusal d.client }) p.connections) p.connections (changed_other m n (λ (d : Connection). record d { client = behind_refusal refusal d.client }) p.connections (λ d. refl) other))
  next (LooksAtCleaned m) = looks m

-- ---- Some calls

cleaning_is : (place : Place) → is_cleaning place ≡ true → place ≡ places.Cleaning
cleaning_is places.Leased h = absurd (cc)
cleaning_is places.Kept h = absurd (cc)
cleaning_is places.Free h = absurd (cc)
cleaning_is places.Draining h = absurd (cc)
cleaning_is places.Cleaning h = refl

walked : (n : ℕ) (start : ClientSession) (calls : List Call) (p : Seen) → Next n start p → Next n start (while_cleaned n calls p)
walked n start [] p h = h
walked n start (call ∷ calls) p h = by (λ q i. walked n start calls q i) (numbered n p.connections) refl h.behind where
  go : ((q : Seen) → Next n start q → Next n start (while_cleaned n calls q)) → (c : Connection) (b : Bool) → numbered n p.connections ≡ Some c → is_cleaning c.place ≡ b → IsBehind start c
      → Next n start (cond b (while_cleaned n calls (called call p)) p)
  go rest c true at is behind = rest (called call p) (next n start p c h.used at (record { place = cleaning_is c.place is; packets = behind.packets; asked = behind.asked }) call)
  go rest c false at is behind = h

  by : ((q : Seen) → Next n start q → Next n start (while_cleaned n calls q)) → (o : Option Connection) → numbered n p.connections ≡ o → IfSome o (IsBehind start)
      → Next n start (cond (is_cleaned (numbered n p.connections)) (while_cleaned n calls (called call p)) p)
  by rest None at behind = subst (λ o. Next n start (cond (is_cleaned o) (while_cleaned n calls (called call p)) p)) (sym at) h
  by rest (Some c) at behind = subst (λ o. Next n start (cond (is_cleaned o) (while_cleaned n calls (called call p)) p)) (sym at) (go rest c (is_cleaning c.place) at refl behind)

pub comes_out_clean : (number : ℕ) (start : ClientSession) (p : Seen) (calls : List Call) → number ≤ p.last
    → IsSomeAnd (numbered number p.connections) (λ c. (is_cleaning c.place ≡ true) × (c.client ≡ start))
    → IfSome (numbered number (while_cleaned number calls p).connections) (IsBehind start)
comes_out_clean n start p calls used h = (walked n start calls p (record { used = used; behind = by (numbered n p.connections) h })).behind where
  by : (o : Option Connection) → IsSomeAnd o (λ c. (is_cleaning c.place ≡ true) × (c.client ≡ start)) → IfSome o (IsBehind start)
  by None i = tt
  by (Some c) i = still start c (record { place = cleaning_is c.place i.0; packets = []; asked = i.1 })

-- ---- No attention

either_way : (s : ClientSession) (b : Bool) (x y : Effect Sent) → is_cancelling x.session.stage ≡ false → is_cancelling y.session.stage ≡ false → is_cancelling (behind_sent (Ok (cond b x y)) s).stage ≡ false
either_way s true x y h k = h
either_way s false x y h k = k

sent_asks_on : (s : ClientSession) (stage : Stage) → s.stage ≡ stage → is_cancelling stage ≡ false → is_cancelling (behind_sent (sent_in s stage) s).stage ≡ false
unfolding sent_of
sent_asks_on s Idle is h = ap is_cancelling is
sent_asks_on s (Sending kind left packets) is h = either_way s (nat_le (length left) (room s)) _ _ refl refl
sent_asks_on s Reading is h = ap is_cancelling is
sent_asks_on s Cancelling is h = absurd (cc)
sent_asks_on s (Broken fault) is h = ap is_cancelling is

read_asks_on : (s : ClientSession) (ends : Bool) (heard : Heard) (contents : Contents) → s.stage ≡ Reading → is_cancelling (read s ends heard contents).session.stage ≡ false
read_asks_on s false heard contents is = ap is_cancelling is
read_asks_on s true heard contents is = refl

reading_asks_on : (s : ClientSession) (ends : Bool) (contents : Contents) (r : Result Heard ClientFault) → s.stage ≡ Reading → is_cancelling (behind_taken (r >>= λ heard. Ok (read s ends heard contents)) s).stage ≡ false
reading_asks_on s ends contents (Ok heard) is = read_asks_on s ends heard contents is
reading_asks_on s ends contents (Err fault) is = refl

taken_asks_on : (s : ClientSession) (stage : Stage) (ends : Bool) (bytes : List ℕ) → s.stage ≡ stage → is_cancelling stage ≡ false → is_cancelling (behind_taken (taken_in stage s ends bytes) s).stage ≡ false
unfolding taken_reading
taken_asks_on s Idle ends bytes is h = refl
taken_asks_on s (Sending kind left packets) ends bytes is h = refl
taken_asks_on s Reading ends bytes is h = reading_asks_on s ends (contents_of s.columns bytes) (hear_packet false s.heard ends (contents_of s.columns bytes)) is
taken_asks_on s Cancelling ends bytes is h = absurd (cc)
taken_asks_on s (Broken fault) ends bytes is h = refl

packet_asks_on : (packet : Packet) (s : ClientSession) → is_cancelling s.stage ≡ false → is_cancelling (behind_packet packet s).stage ≡ false
packet_asks_on Out s h = sent_asks_on s s.stage refl h
packet_asks_on (In ends bytes) s h = taken_asks_on s s.stage ends bytes refl h

pub never_cancelled : (s : ClientSession) (request : Request) (packets : List Packet) → is_cancelling (behind_packets packets (asks_reset s request)).stage ≡ false
never_cancelled s request [] = refl
never_cancelled s request (packet ∷ before) = packet_asks_on packet (behind_packets before (asks_reset s request)) (never_cancelled s request before)

-- ---- Asked alike

none_is : {A : Type 0} (o : Option A) → is_none o ≡ true → o ≡ None
none_is None h = refl
none_is (Some x) h = absurd (cc)

pub alike_once_clean : (s : ClientSession) (request : Request) → is_clean s ≡ true → message_of (marked s Full).heard request ≡ message_of s.heard request
alike_once_clean s request h =
    let both = both_hold (is_none s.heard.mark) (eqb s.heard.descriptor 0) h in
    ap (λ (d : ℕ). request_spelling d request) (by s.heard.mark s.heard.descriptor (none_is s.heard.mark both.0) (eqb-true s.heard.descriptor 0 both.1)) where
      by : (mark : Option Reset) (d : ℕ) → mark ≡ None → d ≡ 0 → header_descriptor (strongest (Some Full) mark) d ≡ header_descriptor mark d
      by None d is zero = sym zero
      by (Some reset) d is zero = absurd (cc)
