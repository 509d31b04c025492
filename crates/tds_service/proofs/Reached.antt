-- A call that finds a connection and does something there: what its answers have in common, whatever it does.
use Rattle.std.proofs.Common.{◌≡◌, ◌≢◌, ◌∙◌, ℕ, Bool, List, [], ◌∷◌, length, refl, sym, ap}
use Rattle.std.proofs.Math.ListN.{set}
use Rattle.std.proofs.lemmas.List.{with_items_is}
use Rattle.std.specs.Prelude.{None, Some}
use Rattle.std.specs.Vec.{with_items}
use Rattle.tds_wire.specs.declared.told.Token.{Token}
use Rattle.tds_client.specs.declared.fault.ClientRefusal.TheVariants as clients
use Rattle.tds_service.specs.declared.place.Rest.{Rest}
use Rattle.tds_service.specs.declared.refusal.Refusal.{Refusal}
use Rattle.tds_service.specs.declared.seat.Seat as code
use Rattle.tds_service.specs.declared.service.Service as services
use Rattle.tds_service.specs.History.{line_after}
use Rattle.tds_service.specs.Line.{Act, Answer, line_turn}
use Rattle.tds_service.specs.Refusing.{refusal_in}
use Rattle.tds_service.specs.Service.{Did, Reply, Seat, acts, does, find_by, has_lease, has_number}
use Rattle.tds_service.specs.Sizes.{KeepsSize, sizes_in}
use Rattle.tds_service.specs.Table.{FirstMet, IsAt, KeepsBy, RefusedBy, RefusesIn, StepsIn, answers_in, client_by, reading_by, rest_of, seat_in, seats_in, service_in, without_closed}
use Rattle.tds_service.specs.Ties.{DoesAll, line_in}
use Rattle.tds_service.proofs.Answering.{answered}
use Rattle.tds_service.proofs.Holding.{keeps_clients, keeps_clients_resting}
use Rattle.tds_service.proofs.Keeping.{keeps_resting}
use Rattle.tds_service.proofs.Sizing.{keeps_sizes, keeps_sizes_resting}
use Rattle.tds_service.proofs.Tables.{Here, here_in, acts_alike, refuses_alike, found_here, rests_here, with_seats}

-- The first connection that meets the test stands at this index of the table, whose connections are lent. Behind what was done
-- there they are `news`, and so are the table's.
pub record Reached (test : Seat → Bool) (old : services.Service) (lent news : List code.Seat) (index : ℕ) : Type 0 where
  pub here : Here test old.seats.items lent index
  pub same : lent ≡ old.seats.items
  pub are : (with_items old.seats news).items ≡ news

pub reached_at : (test : Seat → Bool) (old : services.Service) (news : List code.Seat) {looked lent : List code.Seat} {index : ℕ}
    → looked ≡ old.seats.items → lent ≡ old.seats.items → FirstMet test looked index → length news ≡ old.seats.len → Reached test old lent news index
reached_at test old news {looked} {lent} {index} is same first len = record {
  here = here_in test old.seats.items looked lent index is same first;
  same = same;
  are = with_items_is old.seats news len;
}

module _ {test : Seat → Bool} {old : services.Service} {lent news : List code.Seat} {index : ℕ} (at : Reached test old lent news index) where
  -- what stands there
  abbrev pub seat_at : code.Seat
  seat_at = at.here.seat

  pub found_there : find_by test (seats_in old.seats.items) ≡ Some (seat_in seat_at)
  found_there = found_here test old.seats.items lent index at.here

  -- It did these acts: so does the machine.
  pub acts_there : (y : code.Seat) (number : ℕ) (first : Act Token) (all : List (Act Token)) (before after : List ℕ)
      → news ≡ set lent index y → y.number ≡ seat_at.number → y.place ≡ seat_at.place → number ≡ seat_at.number
      → DoesAll all (line_in seat_at.connection) (line_in y.connection) before after
      → refusal_in (line_turn (line_in seat_at.connection) first).answer ≡ None
      → StepsIn (acts (service_in old) test first all (find_by test (seats_in old.seats.items)))
      (with_seats (service_in old) (seats_in (with_items old.seats news).items)) Did number before after
  acts_there y number first all before after changed numbered place is did fine =
      let table = at.are ∙ (changed ∙ ap (λ (cs : List code.Seat). set cs index y) at.same) in
      let r = acts_alike (service_in old) test first all old.seats.items index seat_at y before after refl at.here.first at.here.at numbered place did fine in
      record {
        service_is = ap (λ (cs : List code.Seat). with_seats (service_in old) (seats_in cs)) table ∙ r.0;
        reply_is = r.1;
        number_is = r.2 ∙ sym is;
        bytes = r.3;
      }

  -- It refused the first of them: so does the machine.
  pub refuses_there : (first : Act Token) (all : List (Act Token)) (refusal : Refusal)
      → RefusedBy (refusal_in (line_turn (line_in seat_at.connection) first).answer) refusal
      → (refusal_in (line_turn (line_in seat_at.connection) first).answer ≡ Some clients.Memory → ⊥)
      → RefusesIn (service_in old) (acts (service_in old) test first all (find_by test (seats_in old.seats.items))) refusal
  refuses_there first all refusal by never =
      refuses_alike (service_in old) test first all old.seats.items index seat_at refusal refl at.here.first at.here.at by never

  -- What the connection answered to its one act, the machine's answers too.
  pub answers_there : (act : Act Token) (answer : Answer) → (line_turn (line_in seat_at.connection) act).answer ≡ answer → refusal_in answer ≡ None
      → answers_in (acts (service_in old) test act (act ∷ []) (find_by test (seats_in old.seats.items))).dones ≡ answer ∷ []
  answers_there act answer is fine = answered (service_in old) test act old.seats.items index seat_at answer refl at.here.first at.here.at is fine

  -- The packet sizes stay.
  pub sizes_there : (new : services.Service) → new.seats.items ≡ (with_items old.seats news).items → sizes_in news ≡ sizes_in lent → new.size ≡ old.size → KeepsSize old new
  sizes_there new is same own = keeps_sizes old new lent news at.same (is ∙ at.are) same own

  -- ---- Where nobody holds it any more, and it is taken out if it is to be closed

  pub closed_there : (rest : Rest) (out : List code.Seat) → out ≡ without_closed rest index (with_items old.seats news).items → out ≡ without_closed rest index news
  closed_there rest out is = is ∙ ap (without_closed rest index) at.are

  pub rests_there : (y : code.Seat) (rest : Rest) (out : List code.Seat) (all : List (Act Token)) (reply : Reply)
      → news ≡ set lent index y → out ≡ without_closed rest index news → y.number ≡ seat_at.number
      → line_in y.connection ≡ line_after (line_in seat_at.connection) all → IsAt (rest_of rest) y.place
      → with_seats (service_in old) (seats_in out) ≡ (does (service_in old) old.given test (seat_in seat_at) (rest_of rest) all reply).service
  rests_there y rest out all reply changed closed numbered did placed =
      rests_here (service_in old) test all rest reply old.seats.items lent news out index at.here y refl at.same changed closed numbered did placed

  pub reads_there : (y : code.Seat) (rest : Rest) (number : ℕ) (new : services.Service)
      → news ≡ set lent index y → new.seats.items ≡ without_closed rest index news → number ≡ seat_at.number
      → ((n : ℕ) → reading_by (has_number n) news ≡ reading_by (has_number n) lent) → KeepsBy rest number old new
  reads_there y rest number new changed closed numbered kept = keeps_resting rest number old new test lent news index at.here y at.same changed closed numbered kept

  pub sizes_resting_there : (rest : Rest) (new : services.Service) → new.seats.items ≡ without_closed rest index news → sizes_in news ≡ sizes_in lent → new.size ≡ old.size
      → KeepsSize old new
  sizes_resting_there rest new closed same own = keeps_sizes_resting rest index old new lent news at.same closed same own

-- ---- Where a lease holds it: no other lease's client changes

pub clients_there : (lease : ℕ) {old : services.Service} {lent news : List code.Seat} {index : ℕ} (at : Reached (has_lease lease) old lent news index) (y : code.Seat)
    → news ≡ set lent index y → y.place ≡ at.here.seat.place → (l : ℕ) → l ≢ lease
    → client_by (has_lease l) (with_items old.seats news).items ≡ client_by (has_lease l) old.seats.items
clients_there lease {old} {lent} {news} {index} at y changed place =
    keeps_clients lease old.seats.items (with_items old.seats news).items lent news index at.here y at.same changed at.are place

pub clients_resting_there : (lease : ℕ) {old : services.Service} {lent news : List code.Seat} {index : ℕ} (at : Reached (has_lease lease) old lent news index) (y : code.Seat) (rest : Rest) (out : List code.Seat)
    → news ≡ set lent index y → out ≡ without_closed rest index news → IsAt (rest_of rest) y.place → (l : ℕ) → l ≢ lease
    → client_by (has_lease l) out ≡ client_by (has_lease l) old.seats.items
clients_resting_there lease {old} {lent} {news} {index} at y rest out changed closed placed =
    keeps_clients_resting lease rest old.seats.items out lent news index at.here y at.same changed closed placed
