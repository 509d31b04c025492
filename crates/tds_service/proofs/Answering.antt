-- What a connection answered to a call of the table.
use Rattle.std.proofs.Common.{◌≡◌, ◌∙◌, ℕ, Bool, List, [], ◌∷◌, get_or, sym, ap, subst}
use Rattle.std.specs.Prelude.{Option, None}
use Rattle.tds_wire.specs.declared.told.Token.{Token}
use Rattle.tds_client.specs.declared.fault.ClientRefusal.{ClientRefusal}
use Rattle.tds_service.specs.declared.seat.Seat as code
use Rattle.tds_service.specs.Line.{Act, Answer, line_turn}
use Rattle.tds_service.specs.Refusing.{refusal_in}
use Rattle.tds_service.specs.Service.{Seat, Service, acts, acts_unless, find_by}
use Rattle.tds_service.specs.Table.{FirstMet, answers_in, seat_in, seats_in}
use Rattle.tds_service.specs.Ties.{line_in}
use Rattle.tds_service.proofs.Tables.{is_found_at}

pub answered : (s : Service) (test : Seat → Bool) (act : Act Token) (cs : List code.Seat) (i : ℕ) (c : code.Seat) (answer : Answer)
    → s.seats ≡ seats_in cs → FirstMet test cs i → c ≡ get_or cs i c → (line_turn (line_in c.connection) act).answer ≡ answer → refusal_in answer ≡ None
    → answers_in (acts s test act (act ∷ []) (find_by test s.seats)).dones ≡ answer ∷ []
answered s test act cs i c answer table met at is fine =
    let found = ap (find_by test) table ∙ is_found_at test cs i c met at in
    subst (λ (x : Option Seat). answers_in (acts s test act (act ∷ []) x).dones ≡ answer ∷ []) (sym found)
    (subst (λ (x : Option ClientRefusal). answers_in (acts_unless s test (seat_in c) (act ∷ []) x).dones ≡ answer ∷ []) (sym (ap refusal_in is ∙ fine))
    (ap (λ (a : Answer). a ∷ []) is))
