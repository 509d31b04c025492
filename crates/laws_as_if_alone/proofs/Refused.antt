-- Pools that the law refuses: plays as they are supposed, in which what an application is given isn't what it's answered alone.
use Rattle.std.proofs.Common.{◌≡◌, ◌∙◌, ℕ, true, List, [], ◌∷◌, ◌++◌, refl, sym, ap, arith}
use Rattle.std.specs.Prelude.{Option, Some, None}
use Rattle.tds_client.specs.Hearing.{place_change, place_done}
use Rattle.tds_wire.specs.declared.told.Token.{Token}
use Rattle.tds_service.specs.Parts.{Item}
use Rattle.tds_relay.specs.declared.pool.Hold.{Hold}
use Rattle.tds_relay.specs.Pool as pool
use Rattle.tds_relay.specs.Pool.{Pool, Event, PoolTurn, find_key, holding, moves, pool_rests, turn, without_lease}
use Rattle.laws_as_if_alone.specs.Serving.{Moment, answers_alone, fresh, new_world, world_after}
use Rattle.laws_as_if_alone.specs.Alone.{AllOrderly, AsIfAlone, all_asks, given, underway}
use Rattle.laws_as_if_alone.proofs.Orderly.{orderly}
use Rattle.laws_as_if_alone.proofs.Examples.{at, counter, done, one, row, way, whole}

numbers_differ : (xs ys : List (Item Token)) (m n : ℕ) (rest : List (Item Token)) → xs ≡ row m ∷ rest → ys ≡ row n ∷ rest → (m ≡ n → ⊥) → xs ≡ ys → ⊥
numbers_differ xs ys m n rest e f never same =
    let both : row m ∷ rest ≡ row n ∷ rest = sym e ∙ same ∙ f in
    let first : ◌≡◌ {A = Item Token} (row m) (row n) = cc in
    never (ap (λ (x : Item Token). x.token.start) first)

-- One that hands a connection on as it is, to whoever waits first.
abbrev hands_on_to : Pool → Option Hold → List ℕ → Event → PoolTurn
hands_on_to d None line event = turn d event
hands_on_to d (Some h) [] event = turn d event
hands_on_to d (Some h) (key ∷ others) event = moves d (without_lease h.lease d.holds ++ holding key h.lease h.number ∷ []) others []

abbrev hands_on : Pool → Event → PoolTurn
hands_on d (pool.Leaves key gives way) = hands_on_to d (find_key key d.holds) d.line (pool.Leaves key gives way)
hands_on d event = turn d event

abbrev handed_on : List (Moment ℕ)
handed_on =
    at (pool.Waits 1) ∷ at pool.Serves ∷ at (pool.Does 1 pool.Asks) ∷ at (pool.Does 1 (pool.Ends 0)) ∷ at (pool.Comes 1 (whole (row 0 ∷ done ∷ [])) way) ∷ at (pool.Waits 2)
    ∷ at (pool.Leaves 1 true way) ∷ at (pool.Does 2 pool.Asks) ∷ at (pool.Does 2 (pool.Ends 0)) ∷ at (pool.Comes 1 (whole (row 1 ∷ done ∷ [])) way) ∷ []

handed_on_orderly : AllOrderly hands_on 2 counter (new_world counter one) handed_on
unfolding place_change place_done
handed_on_orderly =
    orderly hands_on 2 counter (new_world counter one) handed_on (record { holds = refl; waits = refl }, ((λ r. ([], refl, refl)), tt))

handed_on_given : given hands_on 2 counter (new_world counter one) handed_on ++ underway 2 (world_after hands_on counter (new_world counter one) handed_on) ≡ row 1 ∷ done ∷ []
unfolding place_change place_done
handed_on_given = refl

handed_on_alone : answers_alone counter [] (fresh counter) (all_asks hands_on 2 counter 0 (new_world counter one) handed_on) ≡ row 0 ∷ done ∷ []
unfolding place_change place_done
handed_on_alone = refl

hands_on_refused : AsIfAlone hands_on 2 counter (fresh counter) (new_world counter one) handed_on (world_after hands_on counter (new_world counter one) handed_on) → ⊥
hands_on_refused same =
    numbers_differ (given hands_on 2 counter (new_world counter one) handed_on ++ underway 2 (world_after hands_on counter (new_world counter one) handed_on))
    (answers_alone counter [] (fresh counter) (all_asks hands_on 2 counter 0 (new_world counter one) handed_on)) 1 0 (done ∷ []) handed_on_given handed_on_alone
    (λ e. let u : ⊥ = omega (arith, e) in u) same

-- One by which whoever comes to wait takes over what another holds.
abbrev takes_over_of : Pool → List Hold → ℕ → PoolTurn
takes_over_of d [] key = turn d (pool.Waits key)
takes_over_of d (h ∷ hs) key = moves d (holding key h.lease h.number ∷ hs) d.line []

abbrev takes_over : Pool → Event → PoolTurn
takes_over d (pool.Waits key) = takes_over_of d d.holds key
takes_over d event = turn d event

abbrev taken_over : List (Moment ℕ)
taken_over =
    at (pool.Waits 1) ∷ at pool.Serves ∷ at (pool.Does 1 pool.Asks) ∷ at (pool.Does 1 (pool.Ends 0)) ∷ at (pool.Waits 2) ∷ at (pool.Comes 1 (whole (row 0 ∷ done ∷ [])) way) ∷ []

taken_over_orderly : AllOrderly takes_over 2 counter (new_world counter one) taken_over
unfolding place_change place_done
taken_over_orderly =
    orderly takes_over 2 counter (new_world counter one) taken_over (record { holds = refl; waits = refl }, ((λ r. ([], refl, refl)), tt))

taken_over_given : given takes_over 2 counter (new_world counter one) taken_over ++ underway 2 (world_after takes_over counter (new_world counter one) taken_over) ≡ row 0 ∷ done ∷ []
unfolding place_change place_done
taken_over_given = refl

taken_over_alone : answers_alone counter [] (fresh counter) (all_asks takes_over 2 counter 0 (new_world counter one) taken_over) ≡ []
unfolding place_change place_done
taken_over_alone = refl

some_none : (xs ys : List (Item Token)) (x : Item Token) (rest : List (Item Token)) → xs ≡ x ∷ rest → ys ≡ [] → xs ≡ ys → ⊥
some_none xs ys x rest e f same = let u : ⊥ = cc in u

takes_over_refused : AsIfAlone takes_over 2 counter (fresh counter) (new_world counter one) taken_over (world_after takes_over counter (new_world counter one) taken_over) → ⊥
takes_over_refused same =
    some_none (given takes_over 2 counter (new_world counter one) taken_over ++ underway 2 (world_after takes_over counter (new_world counter one) taken_over))
    (answers_alone counter [] (fresh counter) (all_asks takes_over 2 counter 0 (new_world counter one) taken_over)) (row 0) (done ∷ []) taken_over_given taken_over_alone same

-- One that doesn't send what is asked to its end.
abbrev keeps_back : Pool → Event → PoolTurn
keeps_back d (pool.Does key (pool.Ends count)) = pool_rests d
keeps_back d event = turn d event

abbrev kept_back : List (Moment ℕ)
kept_back = at (pool.Waits 1) ∷ at pool.Serves ∷ at (pool.Does 1 pool.Asks) ∷ at (pool.Does 1 (pool.Ends 0)) ∷ []

kept_back_orderly : AllOrderly keeps_back 1 counter (new_world counter one) kept_back
kept_back_orderly =
    orderly keeps_back 1 counter (new_world counter one) kept_back (record { holds = refl; waits = refl }, tt)

kept_back_given : given keeps_back 1 counter (new_world counter one) kept_back ++ underway 1 (world_after keeps_back counter (new_world counter one) kept_back) ≡ []
kept_back_given = refl

kept_back_alone : answers_alone counter [] (fresh counter) (all_asks keeps_back 1 counter 0 (new_world counter one) kept_back) ≡ row 0 ∷ done ∷ []
kept_back_alone = refl

keeps_back_refused : AsIfAlone keeps_back 1 counter (fresh counter) (new_world counter one) kept_back (world_after keeps_back counter (new_world counter one) kept_back) → ⊥
keeps_back_refused same =
    some_none (answers_alone counter [] (fresh counter) (all_asks keeps_back 1 counter 0 (new_world counter one) kept_back))
    (given keeps_back 1 counter (new_world counter one) kept_back ++ underway 1 (world_after keeps_back counter (new_world counter one) kept_back)) (row 0) (done ∷ []) kept_back_alone kept_back_given (sym same)
