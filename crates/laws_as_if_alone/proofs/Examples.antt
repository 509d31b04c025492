-- Two applications over one connection, worked out by the checker.
use Rattle.std.proofs.Common.{◌≡◌, ℕ, suc, Bool, true, false, List, [], ◌∷◌, ◌++◌, length, refl}
use Rattle.std.specs.Prelude.{Option, Some, None}
use Rattle.tds_token.specs.declared.env_change.EnvChange.TheVariants as changes
use Rattle.tds_client.specs.declared.sign.DoneKind.TheVariants.{Statement}
use Rattle.tds_client.specs.declared.sign.Sign.TheVariants as signs
use Rattle.tds_client.specs.Hearing.{place_change, place_done}
use Rattle.tds_wire.specs.declared.told.Token.{Token}
use Rattle.tds_wire.specs.declared.told.Told.TheVariants as tells
use Rattle.tds_service.specs.Parts as parts
use Rattle.tds_service.specs.Parts.{Item, Part}
use Rattle.tds_service.specs.Line.{new_line}
use Rattle.tds_service.specs.Service.{Free, Seat, seat_numbered}
use Rattle.laws_conforming_server.specs.Lawful.{Session}
use Rattle.tds_relay.specs.Pool as pool
use Rattle.tds_relay.specs.Pool.{Event, Sharing, Way, turn}
use Rattle.tds_relay.specs.declared.pool.Mode.TheVariants.{Sessions}
use Rattle.laws_as_if_alone.specs.Serving.{Moment, Request, Server, answers_alone, but_news, fresh, new_world, world_after}
use Rattle.laws_as_if_alone.specs.Turns.{AllParkedFresh, IsParkedFresh, asks_but}
use Rattle.laws_as_if_alone.specs.Alone.{AllOrderly, all_asks, given}
use Rattle.laws_as_if_alone.proofs.Orderly.{orderly}

-- ---- A server that counts the requests of a session

abbrev pub session : ℕ → Session ℕ
session n = record { transaction = 0; settings = n }

abbrev pub token : ℕ → ℕ → Token
token kind n = record { kind = kind; start = n; length = 5; told = tells.Other }

abbrev pub row : ℕ → Item Token
row n = record { sign = signs.Nothing; token = token 209 n }

abbrev pub done : Item Token
done = record { sign = signs.Done Statement 0; token = token 253 0 }

abbrev pub acknowledged : Item Token
acknowledged = record { sign = signs.Done Statement 32; token = token 253 0 }

abbrev pub news : Item Token
news = record { sign = signs.Change changes.ResetDone; token = token 227 18 }

abbrev pub counter : Server ℕ
counter = record { settings = 0; with_news = λ reset items. news ∷ items; news_only = λ reset items. refl }

-- one that tells of a reset behind the first token of the answer
abbrev second : List (Item Token) → List (Item Token)
second [] = news ∷ []
second (item ∷ items) = item ∷ news ∷ items

late_only : (items : List (Item Token)) → but_news (second items) ≡ but_news items
late_only [] = refl
late_only (item ∷ items) = refl

abbrev counter_late : Server ℕ
counter_late = record { settings = 0; with_news = λ reset items. second items; news_only = λ reset items. late_only items }

abbrev pub counts : Request ℕ
counts = λ s. record { items = row s.settings ∷ done ∷ []; after = record { transaction = s.transaction; settings = suc s.settings } }

abbrev pub cleans : Request ℕ
cleans = λ s. record { items = done ∷ []; after = s }

abbrev pub at : Event → Moment ℕ
at event = record { event = event; request = counts; left = session 7 }

abbrev pub cleaning : Event → Moment ℕ
cleaning event = record { event = event; request = cleans; left = session 7 }

-- one connection
abbrev pub one : Sharing
one = record { most = 1; mode = Sessions }

abbrev pub way : Way
way = pool.Sent 0 0

abbrev pub whole : List (Item Token) → Part Token
whole items = record { items = items; close = parts.Ends }

abbrev pub piece : List (Item Token) → Part Token
piece items = record { items = items; close = parts.Goes }

-- ---- The first leaves in the middle of its second answer, and the second gets the connection

abbrev play : List (Moment ℕ)
play =
    at (pool.Waits 1) ∷ at pool.Serves ∷ at (pool.Does 1 pool.Asks) ∷ at (pool.Waits 2) ∷ at (pool.Does 1 (pool.Ends 0)) ∷ at (pool.Comes 1 (whole (row 0 ∷ done ∷ [])) way)
    ∷ at (pool.Does 1 pool.Asks) ∷ at (pool.Does 1 (pool.Ends 0)) ∷ at (pool.Comes 1 (piece (row 1 ∷ [])) way) ∷ at pool.Serves ∷ cleaning (pool.Leaves 1 true way)
    ∷ cleaning (pool.Comes 1 (whole (acknowledged ∷ [])) way) ∷ at (pool.Comes 1 (whole (news ∷ done ∷ [])) way) ∷ at pool.Serves ∷ at (pool.Does 2 pool.Asks) ∷ at (pool.Does 2 (pool.Ends 0))
    ∷ at (pool.Comes 1 (piece (news ∷ row 0 ∷ [])) way) ∷ at (pool.Comes 1 (whole (done ∷ [])) way) ∷ []

second_is_given : given turn 2 counter (new_world counter one) play ≡ row 0 ∷ done ∷ []
unfolding place_change place_done
second_is_given = refl

first_is_given : given turn 1 counter (new_world counter one) play ≡ row 0 ∷ done ∷ row 1 ∷ []
unfolding place_change place_done
first_is_given = refl

second_alone : answers_alone counter [] (fresh counter) (all_asks turn 2 counter 0 (new_world counter one) play) ≡ row 0 ∷ done ∷ []
unfolding place_change place_done
second_alone = refl

-- what it was given before it left is a beginning
first_alone : answers_alone counter [] (fresh counter) (all_asks turn 1 counter 0 (new_world counter one) play) ≡ row 0 ∷ done ∷ row 1 ∷ []
unfolding place_change place_done
first_alone = refl

second_is_orderly : AllOrderly turn 2 counter (new_world counter one) play
unfolding place_change place_done
second_is_orderly =
    orderly turn 2 counter (new_world counter one) play (record { holds = refl; waits = refl }, ((λ r. (done ∷ [], refl, tt)), ((λ r. ([], refl, refl)), tt)))

-- ---- The second cancels in the middle of an answer, and goes on in the session that is left

abbrev cancelled : List (Moment ℕ)
cancelled =
    at (pool.Waits 2) ∷ at pool.Serves ∷ at (pool.Does 2 pool.Asks) ∷ at (pool.Does 2 (pool.Ends 0)) ∷ at (pool.Comes 1 (piece (row 0 ∷ [])) way) ∷ at (pool.Does 2 pool.Stops)
    ∷ at (pool.Comes 1 (whole (done ∷ acknowledged ∷ [])) way) ∷ at (pool.Does 2 pool.Asks) ∷ at (pool.Does 2 (pool.Ends 0)) ∷ at (pool.Comes 1 (whole (row 7 ∷ done ∷ [])) way) ∷ []

cancelled_given : given turn 2 counter (new_world counter one) cancelled ≡ row 0 ∷ row 7 ∷ done ∷ []
unfolding place_change place_done
cancelled_given = refl

cancelled_alone : answers_alone counter [] (fresh counter) (all_asks turn 2 counter 0 (new_world counter one) cancelled) ≡ row 0 ∷ row 7 ∷ done ∷ []
unfolding place_change place_done
cancelled_alone = refl

cancelled_orderly : AllOrderly turn 2 counter (new_world counter one) cancelled
unfolding place_change place_done
cancelled_orderly =
    orderly turn 2 counter (new_world counter one) cancelled (record { holds = refl; waits = refl }, ((λ r. (done ∷ [], refl, tt)), ((λ r. tt), ((λ r. ([], refl, refl)), tt))))

-- ---- The connection of the second is lost amid its answer, and whoever has its number next begins anew

abbrev lost : List (Moment ℕ)
lost =
    at (pool.Waits 2) ∷ at pool.Serves ∷ at (pool.Does 2 pool.Asks) ∷ at (pool.Does 2 (pool.Ends 0)) ∷ at (pool.Comes 1 (piece (row 0 ∷ [])) way) ∷ at (pool.Loses 1)
    ∷ at (pool.Waits 2) ∷ at pool.Serves ∷ at (pool.Does 2 pool.Asks) ∷ at (pool.Does 2 (pool.Ends 0)) ∷ at (pool.Comes 2 (whole (row 0 ∷ done ∷ [])) way) ∷ []

lost_given : given turn 2 counter (new_world counter one) lost ≡ row 0 ∷ row 0 ∷ done ∷ []
unfolding place_change place_done
lost_given = refl

lost_alone : answers_alone counter [] (fresh counter) (all_asks turn 2 counter 0 (new_world counter one) lost) ≡ row 0 ∷ row 0 ∷ done ∷ []
unfolding place_change place_done
lost_alone = refl

lost_orderly : AllOrderly turn 2 counter (new_world counter one) lost
unfolding place_change place_done
lost_orderly =
    orderly turn 2 counter (new_world counter one) lost (record { holds = refl; waits = refl }, ((λ r. (done ∷ [], refl, tt)), (record { holds = refl; waits = refl }, ((λ r. ([], refl, refl)), tt))))

-- ---- One keeps its transaction over its own reset, which sets all else anew

abbrev begun : Item Token
begun = record { sign = signs.Change (changes.Begin 7); token = token 227 8 }

abbrev begins : Request ℕ
begins = λ s. record { items = begun ∷ done ∷ []; after = record { transaction = 7; settings = suc s.settings } }

abbrev beginning : Event → Moment ℕ
beginning event = record { event = event; request = begins; left = session 7 }

abbrev kept : List (Moment ℕ)
kept =
    at (pool.Waits 2) ∷ at pool.Serves ∷ at (pool.Does 2 pool.Asks) ∷ beginning (pool.Does 2 (pool.Ends 0)) ∷ at (pool.Comes 1 (whole (begun ∷ done ∷ [])) way) ∷ at (pool.Renews 2 true)
    ∷ at (pool.Does 2 pool.Asks) ∷ at (pool.Does 2 (pool.Ends 0)) ∷ at (pool.Comes 1 (whole (row 0 ∷ news ∷ done ∷ [])) way) ∷ []

kept_given : given turn 2 counter_late (new_world counter_late one) kept ≡ begun ∷ done ∷ row 0 ∷ done ∷ []
unfolding place_change place_done
kept_given = refl

kept_alone : answers_alone counter_late [] (fresh counter_late) (all_asks turn 2 counter_late 0 (new_world counter_late one) kept) ≡ begun ∷ done ∷ row 0 ∷ done ∷ []
unfolding place_change place_done
kept_alone = refl

kept_orderly : AllOrderly turn 2 counter_late (new_world counter_late one) kept
unfolding place_change place_done
kept_orderly =
    orderly turn 2 counter_late (new_world counter_late one) kept (record { holds = refl; waits = refl }, ((λ r. ([], refl, refl)), ((λ r. ([], refl, refl)), tt)))

-- ---- The first is parked behind its answer, which leaves its session as it was, and asks again on what it is lent next

abbrev reads : Request ℕ
reads = λ s. record { items = row s.settings ∷ done ∷ []; after = s }

abbrev reading : Event → Moment ℕ
reading event = record { event = event; request = reads; left = session 7 }

abbrev until_parked : List (Moment ℕ)
until_parked = at (pool.Waits 1) ∷ at pool.Serves ∷ at (pool.Does 1 pool.Asks) ∷ reading (pool.Does 1 (pool.Ends 0)) ∷ at (pool.Comes 1 (whole (row 0 ∷ done ∷ [])) way) ∷ []

abbrev parked : List (Moment ℕ)
parked =
    until_parked ++ cleaning (pool.Leaves 1 true way) ∷ at (pool.Comes 1 (whole (news ∷ done ∷ [])) way) ∷ at (pool.Waits 1) ∷ at pool.Serves ∷ at (pool.Does 1 pool.Asks)
    ∷ reading (pool.Does 1 (pool.Ends 0)) ∷ at (pool.Comes 1 (whole (news ∷ row 0 ∷ done ∷ [])) way) ∷ []

abbrev is_parking : Event → Bool
is_parking (pool.Waits key) = false
is_parking (pool.Unwaits key) = false
is_parking pool.Serves = false
is_parking (pool.Brings gives how) = false
is_parking (pool.Does key action) = false
is_parking (pool.Leaves key gives how) = true
is_parking (pool.Renews key resumes) = false
is_parking (pool.Comes number part how) = false
is_parking (pool.Loses number) = false

abbrev parks : Moment ℕ → Bool
parks m = is_parking m.event

abbrev its_seat : Option Seat → Seat
its_seat None = record { number = 0; place = Free; line = new_line }
its_seat (Some c) = c

parked_given : given turn 1 counter (new_world counter one) parked ≡ row 0 ∷ done ∷ row 0 ∷ done ∷ []
unfolding place_change place_done
parked_given = refl

parked_alone : answers_alone counter [] (fresh counter) (asks_but parks turn 1 counter 0 (new_world counter one) parked) ≡ row 0 ∷ done ∷ row 0 ∷ done ∷ []
unfolding place_change place_done
parked_alone = refl

-- nothing is asked by that but the two requests
parked_asks : length (asks_but parks turn 1 counter 0 (new_world counter one) parked) ≡ 2
unfolding place_change place_done
parked_asks = refl

no_park : {P : Type 0} → false ≡ true → P
no_park e = absurd (let u : ⊥ = cc in u)

parked_fresh : AllParkedFresh parks turn 1 counter (new_world counter one) parked
unfolding place_change place_done
parked_fresh =
    let parked_here : IsParkedFresh 1 counter (world_after turn counter (new_world counter one) until_parked) (cleaning (pool.Leaves 1 true way)) = record {
      gives = true;
      way = way;
      leaves = refl;
      hold = record { key = 1; lease = 1; number = 1 };
      seat = its_seat (seat_numbered 1 (world_after turn counter (new_world counter one) until_parked).pool.service.seats);
      rests = record { holds = refl; waits = refl; there = refl; lent = refl; idle = refl };
      session = refl;
    } in
    (no_park, (no_park, (no_park, (no_park, (no_park, ((λ e. parked_here), (no_park, (no_park, (no_park, (no_park, (no_park, (no_park, tt))))))))))))
