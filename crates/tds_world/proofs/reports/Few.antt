-- Each event adds at most one connection, one lease, one ticket and one request.
use Rattle.std.proofs.Common.{◌≡◌, ◌≤◌, ℕ, zero, suc, List, [], ◌∷◌, ◌++◌, ◌+◌, length, map, refl, ap, subst, Option, Some, None, arith}
use Rattle.std.proofs.lemmas.List.{length-append}
use Rattle.std.specs.Prelude.{slice_get}
use Rattle.tds_session.specs.Answer.{Answers}
use Rattle.tds_world.specs.declared.event.Event.{Event}
use Rattle.tds_world.specs.declared.event.Event.TheVariants as event
use Rattle.tds_world.specs.declared.event.Setup.{Setup}
use Rattle.tds_world.specs.declared.outcome.Refusal.TheVariants as refusal
use Rattle.tds_world.specs.Connection.{Connection, is_cut, cut}
use Rattle.tds_world.specs.limits.Counts.{AreFew}
use Rattle.tds_world.specs.Events.{about, acts, notes, settles, happens_at, happens, world_after}
use Rattle.tds_world.specs.Pool.{Acted, Refuses, Does, opens}
use Rattle.tds_world.specs.World.{World, Holding, Found, Missing, Here, Opens, new_world, numbered, next_number, put, put_numbered, uncut_in, holding_ended, ended_at, ended_numbered}
use Rattle.tds_world.proofs.events.Happens.{happens_cases}
use Rattle.tds_world.proofs.events.Words.{either}

put_at : {A : Type 0} (n : ℕ) (x : A) (xs : List A) → length (put n x xs) ≤ suc (length xs)
put_at n x [] = omega arith
put_at zero x (y ∷ ys) = omega arith
put_at (suc n) x (y ∷ ys) = omega (arith, put_at n x ys)

put_number : {A : Type 0} (n : ℕ) (x : A) (xs : List A) → length (put_numbered n x xs) ≤ suc (length xs)
put_number zero x xs = omega arith
put_number (suc n) x xs = put_at n x xs

end_at : (n : ℕ) (hs : List Holding) → length (ended_at n hs) ≡ length hs
end_at n [] = refl
end_at zero (h ∷ hs) = refl
end_at (suc n) (h ∷ hs) = ap suc (end_at n hs)

end_number : (n : ℕ) (hs : List Holding) → length (ended_numbered n hs) ≡ length hs
end_number zero hs = refl
end_number (suc n) hs = end_at n hs

mapped : {A : Type 0} (f : A → A) (xs : List A) → length (map f xs) ≡ length xs
mapped f [] = refl
mapped f (x ∷ xs) = ap suc (mapped f xs)

more : (n : ℕ) (w : World) → AreFew n w → AreFew (suc n) w
more n w h = record {
  connections = omega (arith, h.connections);
  leases = omega (arith, h.leases);
  tickets = omega (arith, h.tickets);
  asked = omega (arith, h.asked);
}

same : (n k : ℕ) → k ≤ n → k ≤ suc n
same n k h = omega (arith, h)

one_more : {A : Type 0} (n : ℕ) (xs : List A) (x : A) → length xs ≤ n → length (xs ++ x ∷ []) ≤ suc n
one_more n xs x h = omega (arith, length-append xs (x ∷ []), h)

fewer : (n k : ℕ) (hs : List Holding) → length hs ≤ n → length (ended_numbered k hs) ≤ suc n
fewer n k hs h = omega (arith, end_number k hs, h)

-- Where the number is there, nothing is added.
put_here : {A : Type 0} (n : ℕ) (x y : A) (xs : List A) → slice_get xs n ≡ Some y → length (put n x xs) ≡ length xs
put_here n x y [] e = absurd (cc)
put_here zero x y (z ∷ zs) e = refl
put_here (suc n) x y (z ∷ zs) e = ap suc (put_here n x y zs e)

put_number_here : {A : Type 0} (n : ℕ) (x y : A) (xs : List A) → numbered xs n ≡ Some y → length (put_numbered n x xs) ≡ length xs
put_number_here zero x y xs e = refl
put_number_here (suc n) x y xs e = put_here n x y xs e

-- With its connections: what is noted of an event adds one at most.
others_stay : (n : ℕ) (w : World) (cs : List Connection) → length cs ≤ suc n → AreFew n w → AreFew (suc n) (record w { connections = cs })
others_stay n w cs l h = record {
  connections = l;
  leases = same n (length w.leases) h.leases;
  tickets = same n (length w.tickets) h.tickets;
  asked = same n (length w.asked_on) h.asked;
}

noted : (n : ℕ) (e : Event) (k heard : ℕ) (w : World) (cs : List Connection) → length cs ≤ suc n → AreFew n w → AreFew (suc n) (notes e k heard (record w { connections = cs }))
noted n event.Lease k heard w cs l h = record {
  connections = l;
  leases = one_more n w.leases _ h.leases;
  tickets = same n (length w.tickets) h.tickets;
  asked = same n (length w.asked_on) h.asked;
}
noted n (event.Resume t) k heard w cs l h = record {
  connections = l;
  leases = one_more n w.leases _ h.leases;
  tickets = fewer n t w.tickets h.tickets;
  asked = same n (length w.asked_on) h.asked;
}
noted n (event.GiveBack x) k heard w cs l h = record {
  connections = l;
  leases = fewer n x w.leases h.leases;
  tickets = same n (length w.tickets) h.tickets;
  asked = same n (length w.asked_on) h.asked;
}
noted n (event.Keep x) k heard w cs l h = record {
  connections = l;
  leases = fewer n x w.leases h.leases;
  tickets = one_more n w.tickets _ h.tickets;
  asked = same n (length w.asked_on) h.asked;
}
noted n (event.Abandon t) k heard w cs l h = record {
  connections = l;
  leases = same n (length w.leases) h.leases;
  tickets = fewer n t w.tickets h.tickets;
  asked = same n (length w.asked_on) h.asked;
}
noted n (event.Clean x) k heard w cs l h = record {
  connections = l;
  leases = one_more n w.leases _ h.leases;
  tickets = same n (length w.tickets) h.tickets;
  asked = one_more n w.asked_on _ h.asked;
}
noted n (event.Ask x q) k heard w cs l h = record {
  connections = l;
  leases = same n (length w.leases) h.leases;
  tickets = same n (length w.tickets) h.tickets;
  asked = one_more n w.asked_on _ h.asked;
}
noted n (event.Send x) k heard w cs l h = others_stay n w cs l h
noted n e k heard w cs l h = others_stay n w cs l h

settled : (n : ℕ) (e : Event) (k : ℕ) (w : World) (a : Acted) → AreFew n w → AreFew (suc n) (settles e k w a).1
settled n e k w (Refuses why) h = more n w h
settled n e k w (Does what c) h =
    noted n e k c.heard w (put_numbered k c w.connections) (omega (arith, put_number k c w.connections, h.connections)) h

found : (setup : Setup) (answers : Answers) (n : ℕ) (e : Event) (w : World) (f : Found) → AreFew n w → AreFew (suc n) (happens_at setup answers e w f).1
found setup answers n e w (Missing why) h = more n w h
found setup answers n e w (Here k c) h = settled n e k w (acts setup answers w e k c) h
found setup answers n e w (Opens k) h = settled n event.Lease k w (opens setup.on_attention (next_number w.leases) k) h

at_event : (setup : Setup) (answers : Answers) (n : ℕ) (e : Event) (w : World) → AreFew n w → AreFew (suc n) (happens_at setup answers e w (about setup w e)).1
at_event setup answers n e w h = found setup answers n e w (about setup w e) h

pub happens_few : (setup : Setup) (answers : Answers) (n : ℕ) (e : Event) (w : World) → AreFew n w → AreFew (suc n) (happens setup answers e w).1
happens_few setup answers n e w h =
    happens_cases setup answers w (λ e r. AreFew (suc n) r.1)
    (record {
      connections = omega (arith, mapped cut w.connections, h.connections);
      leases = same n (length w.leases) h.leases;
      tickets = same n (length w.tickets) h.tickets;
      asked = same n (length w.asked_on) h.asked;
    })
    (record {
      connections = omega (arith, mapped cut w.connections, h.connections);
      leases = omega (arith, mapped holding_ended w.leases, h.leases);
      tickets = omega (arith, mapped holding_ended w.tickets, h.tickets);
      asked = same n (length w.asked_on) h.asked;
    })
    (λ e. at_event setup answers n e w h) e

after_few : (setup : Setup) (answers : Answers) (n : ℕ) (events : List Event) (w : World) → AreFew n w → AreFew (n + length events) (world_after setup answers events w)
after_few setup answers n [] w h =
    let none : n ≡ n + 0 = omega arith in subst (λ k. AreFew k w) none h
after_few setup answers n (e ∷ es) w h =
    let sum : suc n + length es ≡ n + suc (length es) = omega arith in
    subst (λ k. AreFew k (world_after setup answers es (happens setup answers e w).1)) sum
    (after_few setup answers (suc n) es (happens setup answers e w).1 (happens_few setup answers n e w h))

pub new_few : AreFew 0 new_world
new_few = record { connections = omega arith; leases = omega arith; tickets = omega arith; asked = omega arith }

pub few_of_each : (setup : Setup) (answers : Answers) (events : List Event) → AreFew (length events) (world_after setup answers events new_world)
few_of_each setup answers events =
    let none : 0 + length events ≡ length events = omega arith in
    subst (λ n. AreFew n (world_after setup answers events new_world)) none (after_few setup answers 0 events new_world new_few)

-- ---- A cut adds none

cut_found : (setup : Setup) (answers : Answers) (n k : ℕ) (w : World) (o : Option Connection) → numbered w.connections k ≡ o → AreFew n w → AreFew n (happens_at setup answers (event.Cut k) w (uncut_in refusal.UnknownConnection k o)).1
cut_found setup answers n k w None e h = h
cut_found setup answers n k w (Some c) e h =
    either (λ f. AreFew n (happens_at setup answers (event.Cut k) w f).1) (is_cut c.standing) (Missing refusal.UnknownConnection) (Here k c) h
    (record {
      connections = omega (arith, put_number_here k (cut c) c w.connections e, h.connections);
      leases = h.leases;
      tickets = h.tickets;
      asked = h.asked;
    })

pub cut_few : (setup : Setup) (answers : Answers) (n k : ℕ) (w : World) → AreFew n w → AreFew n (happens setup answers (event.Cut k) w).1
cut_few setup answers n k w h = cut_found setup answers n k w (numbered w.connections k) refl h
