-- What comes on the connection of a number: from a seat to the machine's step.
use Rattle.std.proofs.Common.{◌≡◌, ◌∙◌, ◌≤◌, ℕ, List, [], ◌∷◌, ◌++◌, length, get_or, take, refl, sym, ap, subst}
use Rattle.std.proofs.Math.ListN.{set}
use Rattle.std.proofs.lemmas.List.{append-nil}
use Rattle.std.specs.Prelude.{Option, Some, None}
use Rattle.tds_wire.specs.declared.told.Token.{Token}
use Rattle.tds_service.specs.declared.refusal.Refusal.{Refusal}
use Rattle.tds_service.specs.declared.refusal.Refusal.TheVariants as refusals
use Rattle.tds_service.specs.Line as line
use Rattle.tds_service.specs.Line.{Answer, Line, Packet, line_turn}
use Rattle.tds_service.specs.Parts.{Part}
use Rattle.tds_service.specs.Service as calls
use Rattle.tds_service.specs.Service.{Place, Seat, Service, Did, drained, find_by, has_number, lease_at, lease_in, hears}
use Rattle.tds_service.specs.Table.{AllTo, Comes, Denies, answers_in, told_in}
use Rattle.tds_service.specs.Ties.{Appends, Hears, sent_in, tokens_in}
use Rattle.tds_c.specs.declared.service.plain.TdsSeat.{TdsSeat}
use Rattle.tds_c.specs.declared.service.plain.TdsService.{TdsService}
use Rattle.tds_c.specs.service.Clients.{apart}
use Rattle.tds_c.specs.service.Hearing.{Untouched}
use Rattle.tds_c.specs.service.Plain.{line_of, place_of, seat_of, seats_of, stage_of, table_of}
use Rattle.tds_c.specs.service.Table.{Becomes, FirstMet}
use Rattle.tds_c.proofs.service.Acting.{found_seat, meets_seat}
use Rattle.tds_c.proofs.service.Tables.{same_get}
use Rattle.tds_c.proofs.service.Steps.{comes_by_number, here_in, same_number}

pub comes_here : (last given count : ℕ) (seats : List TdsSeat) (i number : ℕ) (c y z : TdsSeat) (part : Part Token) (answer : Answer) (tokens : List Token) (lease : Option ℕ)
    → count ≤ length seats → FirstMet (has_number number) (take count seats) i → c ≡ get_or seats i c
    → Hears part (line_of c) (line_of y) answer tokens → place_of y ≡ place_of c → y.number ≡ c.number
    → line_of z ≡ line_of y → place_of z ≡ drained (place_of y) (stage_of y.client) → z.number ≡ y.number → lease ≡ lease_in (place_of c)
    → Comes (record { max = length seats; last = last; given = given; seats = seats_of (take count seats) })
    (record { max = length (set seats i z); last = last; given = given; seats = seats_of (take count (set seats i z)) }) number part lease c.asked answer [] tokens
comes_here last given count seats i number c y z part answer tokens lease le met at heard placed numbered line_is place_is number_is holds =
    let s : Service = record { max = length seats; last = last; given = given; seats = seats_of (take count seats) } in
    let new : Service = record { max = length (set seats i z); last = last; given = given; seats = seats_of (take count (set seats i z)) } in
    let test = has_number number in
    let found = found_seat test count seats i c le met at in
    let b : Becomes c z (drained (place_of c) (line_of z).stage) (line.Come part ∷ []) = record {
      number_is = number_is ∙ numbered;
      place_is = place_is ∙ (ap (λ (p : Place). drained p (stage_of y.client)) placed ∙ ap (λ (l : Line). drained (place_of c) l.stage) (sym line_is));
      line_is = line_is ∙ heard.line_is;
    } in
    let t = line_turn (line_of c) (line.Come part) in
    record {
      steps =
          record {
            service_is = comes_by_number last given count seats i number c z part le met at b;
            reply_is = subst (λ (o : Option Seat). (hears s test part o).reply ≡ Did) (sym found) refl;
            number_is = subst (λ (o : Option Seat). (hears s test part o).number ≡ number) (sym found) (same_number c.number number (meets_seat test count seats i c le met at));
            bytes =
                subst (λ (o : Option Seat). Appends (sent_in (hears s test part o).dones) [] []) (sym found)
                (subst (λ (ps : List Packet). Appends (ps ++ []) [] []) (sym heard.quiet) ([], refl, refl));
          };
      answers = subst (λ (o : Option Seat). answers_in (hears s test part o).dones ≡ answer ∷ []) (sym found) (ap (λ (a : Answer). a ∷ []) heard.answer_is);
      told =
          subst (λ (o : Option Seat). tokens ≡ [] ++ told_in (hears s test part o).dones) (sym found)
          (sym heard.told_is ∙ sym (append-nil (tokens_in t.told)));
      owner = subst (λ (o : Option Seat). AllTo c.asked (hears s test part o).dones) (sym found) (heard.owner, tt);
      holder = subst (λ (o : Option Seat). lease_at o ≡ lease) (sym found) (sym holds);
    }

-- ---- In the table

pub comes_unknown : (s : Service) (number : ℕ) (part : Part Token) (refusal : Refusal) → refusal ≡ refusals.Unknown → find_by (has_number number) s.seats ≡ None
    → Denies (calls.Came number part) s refusal
comes_unknown s number part refusal is none =
    subst (λ (r : Refusal). Denies (calls.Came number part) s r) (sym is) (ap (hears {T = Token} s (has_number number) part) none)

-- Whose it is, whatever the default.
pub comes_at : (s : TdsService) (seats : List TdsSeat) (i number : ℕ) (d y z : TdsSeat) (part : Part Token) (answer : Answer) (tokens : List Token) (lease : Option ℕ)
    → s.count ≤ length seats → FirstMet (has_number number) (take s.count seats) i
    → Hears part (line_of (get_or seats i d)) (line_of y) answer tokens → place_of y ≡ place_of (get_or seats i d) → y.number ≡ (get_or seats i d).number
    → line_of z ≡ line_of y → place_of z ≡ drained (place_of y) (stage_of y.client) → z.number ≡ y.number → lease ≡ lease_in (place_of (get_or seats i d))
    → Comes (table_of s seats) (table_of s (set seats i z)) number part lease (get_or seats i d).asked answer [] tokens
comes_at s seats i number d y z part answer tokens lease le met =
    let c = get_or seats i d in
    comes_here s.last s.given s.count seats i number c y z part answer tokens lease le met (same_get seats i d c (here_in (has_number number) s.count seats i le met).within)

-- no other seat changed
pub untouched_at : (s : TdsService) (seats : List TdsSeat) (i number : ℕ) (d y z : TdsSeat) → s.count ≤ length seats → FirstMet (has_number number) (take s.count seats) i
    → apart y.client ≡ apart (get_or seats i d).client → z.client ≡ y.client
    → Untouched number (record { service = s; seats = seats }) (record { service = s; seats = set seats i z })
untouched_at s seats i number d y z le met alone same =
    let c = get_or seats i d in
    record {
      before = c;
      after = z;
      turned = record { index = i; met = met; was = same_get seats i d c (here_in (has_number number) s.count seats i le met).within; is = refl; service = refl };
      apart_is = ap apart same ∙ alone;
    }
