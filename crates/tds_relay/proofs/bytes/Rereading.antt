-- Packets that come by steps are read from where the one before has left the parser.
use Rattle.std.proofs.Common.{◌≡◌, ◌≢◌, ◌∙◌, ◌==◌, ℕ, false, List, [], ◌∷◌, ◌++◌, Option, Some, None, inl, inr, replicate, refl, sym, ap, subst, arith}
use Rattle.std.proofs.lemmas.Bool.{ne_eqb}
use Rattle.std.proofs.lemmas.Bool.Decides.{eqb_tells}
use Rattle.std.proofs.lemmas.List.{length-replicate}
use Rattle.std.specs.Prelude.{◌⊎◌, IsSome}
use Rattle.tds_packet.specs.declared.header.Header.{Header}
use Rattle.tds_packet.specs.Reading as packets
use Rattle.tds_wire.specs.declared.due.Due.TheVariants.{Token as Between}
use Rattle.tds_wire.specs.declared.due.Inside.TheVariants.{Parameter}
use Rattle.tds_wire.specs.declared.features.Features.{Features}
use Rattle.tds_wire.specs.declared.shape.Shape.TheVariants.{Byte}
use Rattle.tds_wire.specs.declared.told.Token.{Token}
use Rattle.tds_wire.specs.Reading.{Parser}
use Rattle.tds_service.specs.declared.service.Service as services
use Rattle.tds_service.specs.Beginning.{Begins}
use Rattle.tds_service.specs.Packets.{packet_part}
use Rattle.tds_service.specs.Parts.{Part}
use Rattle.tds_service.specs.Service.{Seat, Service, has_number, seat_numbered}
use Rattle.tds_service.specs.Table.{reading_on, service_in}
use Rattle.tds_relay.specs.Cutting.{is_last_packet}
use Rattle.tds_relay.specs.Pool.{Sharing, Way}
use Rattle.tds_relay.specs.Giving.{ReadVisit, StaysAll}
use Rattle.tds_relay.specs.Core.{EndList, Move}
use Rattle.tds_relay.specs.Machine.{Machine, Step, Admits, CausesStep, Hands, Makes, Manner, MayAll, Removes, Steps, Takes, Writes, after, after_all, new_machine}
use Rattle.tds_relay.specs.Queues.{Queues}
use Rattle.tds_relay.specs.Promises.{Each}
use Rattle.tds_relay.specs.Reads.{BytesCome}
use Rattle.tds_relay.specs.Ties.{Cause, IsNoConnection, Neither, part_on}
use Rattle.tds_relay.specs.TokenParsers.{AllRead, AllReadAnew, AllStand, AreRead, IsReadBy, IsReadTo, IsUnread, NoneRead, OfSize, ReadAnew, StandsAt, There, Unread, Walks, read_at, stands_behind, stands_by}
use Rattle.tds_relay.proofs.bytes.Walking.{low_there, unread_seat}
use Rattle.tds_relay.proofs.steps.Handed.{parser_by}
use Rattle.tds_relay.proofs.steps.Stepping.{after_both, makes_all, may_both, steps_of}

behind_both : (n : ℕ) (r : Parser) (h : Machine) (xs ys : List Step) → stands_behind n r h (xs ++ ys) ≡ stands_behind n (stands_behind n r h xs) (after_all h xs) ys
behind_both n r h [] ys = refl
behind_both n r h (x ∷ xs) ys = behind_both n (stands_by n r h x) (after h x) xs ys

read_both : (n : ℕ) (r : Parser) (h : Machine) (xs ys : List Step) → AreRead n r h xs → AreRead n (stands_behind n r h xs) (after_all h xs) ys → AreRead n r h (xs ++ ys)
read_both n r h [] ys s t = t
read_both n r h (x ∷ xs) ys s t = (s.0, read_both n (stands_by n r h x) (after h x) xs ys s.1 t)

-- behind steps that read nothing
read_then : (n : ℕ) (r : Parser) (h : Machine) (xs ys : List Step) → NoneRead n h xs → AreRead n r (after_all h xs) ys → AreRead n r h (xs ++ ys)
read_then n r h xs ys none t = read_both n r h xs ys (none r).0 (subst (λ (x : Parser). AreRead n x (after_all h xs) ys) (sym (none r).1) t)

behind_then : (n : ℕ) (r : Parser) (h : Machine) (xs ys : List Step) → NoneRead n h xs → stands_behind n r h (xs ++ ys) ≡ stands_behind n r (after_all h xs) ys
behind_then n r h xs ys none = behind_both n r h xs ys ∙ ap (λ (x : Parser). stands_behind n x (after_all h xs) ys) (none r).1

none_both : (n : ℕ) (h : Machine) (xs ys : List Step) → NoneRead n h xs → NoneRead n (after_all h xs) ys → NoneRead n h (xs ++ ys)
none_both n h xs ys s t r = (read_then n r h xs ys s (t r).0, behind_then n r h xs ys s ∙ (t r).1)

-- ---- From where nothing was read

-- one that has read nothing
abbrev begun : ℕ → Features → Parser
begun most features = record {
  walk = record {
    at = record { due = Between; kind = 0; inside = Parameter; shape = Byte; ciphered = false; left = 0; parts = 0 };
    columns = [];
    nulls = replicate 512 0;
    most = most;
    features = features;
  };
  head = [];
  start = 0;
  passed = 0;
  refused = None;
}

begun_begins : (most : ℕ) (features : Features) → Begins most features (begun most features)
begun_begins most features = record {
  ready = record { walk = record { due = refl; columns = omega arith; nulls = length-replicate {A = ℕ} 512 0 }; head = refl; passed = refl; whole = refl };
  start = refl;
  columns = refl;
  room = refl;
  acknowledged = refl;
}

anew_none : (most : ℕ) (features : Features) (n : ℕ) (h : Machine) (steps : List Step) (to : services.Service) → NoneRead n h steps → IsUnread most features n to → ReadAnew most features n h steps to
anew_none most features n h steps to none unread = (begun most features, begun_begins most features, (none (begun most features)).0, inr (none, unread))

anew_after : (most : ℕ) (features : Features) (n : ℕ) (at to : services.Service) (h : Machine) (xs ys : List Step) → NoneRead n h xs → ReadAnew most features n (after_all h xs) ys to
    → ReadAnew most features n h (xs ++ ys) to
anew_after most features n at to h xs ys none (r, begins, read, inl stands) =
    (r, begins, read_then n r h xs ys none read, inl (subst (λ (x : Parser). StandsAt n x to) (sym (behind_then n r h xs ys none)) stands))
anew_after most features n at to h xs ys none (r, begins, read, inr (more, unread)) = (r, begins, read_then n r h xs ys none read, inr (none_both n h xs ys none more, unread))

anew_both : (most : ℕ) (features : Features) (n : ℕ) (at to : services.Service) (h : Machine) (xs ys : List Step) → ReadAnew most features n h xs at → Walks at (after_all h xs) ys to
    → ReadAnew most features n h (xs ++ ys) to
anew_both most features n at to h xs ys (r, begins, read, inl stands) t = (
  r,
  begins,
  read_both n r h xs ys read (t.each n (stands_behind n r h xs) stands),
  inl (subst (λ (x : Parser). StandsAt n x to) (sym (behind_both n r h xs ys)) (t.stand n (stands_behind n r h xs) stands)),
)
anew_both most features n at to h xs ys (r, begins, read, inr (none, unread)) t = anew_after most features n at to h xs ys none (t.anew n most features unread)

pub walks_none : (s : services.Service) (h : Machine) → Walks s h [] s
walks_none s h = record { each = λ n r st. tt; stand = λ n r st. st; anew = λ n most features unread. anew_none most features n h [] s (λ r. (tt, refl)) unread; sized = λ size sized. sized }

pub walks_both : (from at to : services.Service) (old : Machine) (xs ys : List Step) → Walks from old xs at → Walks at (after_all old xs) ys to → Walks from old (xs ++ ys) to
walks_both from at to old xs ys s t = record {
  each = λ n r st. read_both n r old xs ys (s.each n r st) (t.each n (stands_behind n r old xs) (s.stand n r st));
  stand = λ n r st. subst (λ (x : Parser). StandsAt n x to) (sym (behind_both n r old xs ys)) (t.stand n (stands_behind n r old xs) (s.stand n r st));
  anew = λ n most features unread. anew_both most features n at to old xs ys (s.anew n most features unread) t;
  sized = λ size sized. t.sized size (s.sized size sized);
}

-- nothing more is read
stays_anew : (most : ℕ) (features : Features) (n : ℕ) (at to : services.Service) (h : Machine) (steps : List Step) → AllStand at to → ReadAnew most features n h steps at → ReadAnew most features n h steps to
stays_anew most features n at to h steps later (r, begins, read, inl stands) = (r, begins, read, inl (later n (There (stands_behind n r h steps)) stands))
stays_anew most features n at to h steps later (r, begins, read, inr (none, unread)) = (r, begins, read, inr (none, later n (Unread most features) unread))

pub walks_on : (from at to : services.Service) (old : Machine) (steps : List Step) → Walks from old steps at → AllStand at to → Walks from old steps to
walks_on from at to old steps s later = record {
  each = s.each;
  stand = λ n r st. later n (There (stands_behind n r old steps)) (s.stand n r st);
  anew = λ n most features unread. stays_anew most features n at to old steps later (s.anew n most features unread);
  sized = λ size sized. later 0 (OfSize size) (s.sized size sized);
}

-- by steps that read nothing
walks_unread : (from to : services.Service) (h : Machine) (steps : List Step) → ((n : ℕ) → NoneRead n h steps) → AllStand from to → Walks from h steps to
walks_unread from to h steps none later = record {
  each = λ n r st. (none n r).0;
  stand = λ n r st. subst (λ (x : Parser). StandsAt n x to) (sym (none n r).1) (later n (There r) st);
  anew = λ n most features unread. anew_none most features n h steps to (none n) (later n (Unread most features) unread);
  sized = λ size sized. later 0 (OfSize size) sized;
}

makes_none : (n : ℕ) (h : Machine) (moves : List Move) → NoneRead n h (makes_all moves)
makes_none n h [] r = (tt, refl)
makes_none n h (move ∷ moves) r = let rest = makes_none n (after h (Makes move)) moves r in ((tt, rest.0), rest.1)

pub walks_makes : (from to : services.Service) (h : Machine) (moves : List Move) → AllStand from to → Walks from h (makes_all moves) to
walks_makes from to h moves later = walks_unread from to h (makes_all moves) (λ n. makes_none n h moves) later

-- by steps that no connection causes
none_caused : (by : Cause) (n : ℕ) (h : Machine) (steps : List Step) → IsNoConnection by → Each (CausesStep by) steps → NoneRead n h steps
none_caused by n h [] never caused r = (tt, refl)
none_caused by n h (Hands number header content part way manner ∷ steps) never caused r = absurd (subst IsNoConnection caused.0.0 never)
none_caused by n h (Makes move ∷ steps) never caused r = let rest = none_caused by n (after h (Makes move)) steps never caused.1 r in ((tt, rest.0), rest.1)
none_caused by n h (Takes key bytes ∷ steps) never caused r = let rest = none_caused by n (after h (Takes key bytes)) steps never caused.1 r in ((tt, rest.0), rest.1)
none_caused by n h (Writes key count ∷ steps) never caused r = let rest = none_caused by n (after h (Writes key count)) steps never caused.1 r in ((tt, rest.0), rest.1)
none_caused by n h (Admits key ends queues ∷ steps) never caused r = let rest = none_caused by n (after h (Admits key ends queues)) steps never caused.1 r in ((tt, rest.0), rest.1)
none_caused by n h (Removes key gives way ∷ steps) never caused r = let rest = none_caused by n (after h (Removes key gives way)) steps never caused.1 r in ((tt, rest.0), rest.1)

-- a packet
part_by : (r : Parser) (header : Header) (content : List ℕ) (p : Option Parser) → IsSome p → ((now : Parser) → p ≡ Some now → now ≡ r) → part_on p content (is_last_packet header) ≡ packet_part r content (is_last_packet header)
part_by r header content None some there = absurd (let u : ⊥ = cc in u)
part_by r header content (Some now) some there = ap (λ (x : Parser). packet_part x content (is_last_packet header)) (there now refl)

read_by : (number : ℕ) (r : Parser) (header : Header) (content : List ℕ) (s : services.Service) (o : Option Seat) → seat_numbered number (service_in s).seats ≡ o → StandsAt number r s
    → IsReadBy o r header content (part_on (reading_on number s) content (is_last_packet header))
read_by number r header content s None e st = tt
read_by number r header content s (Some c) e st = part_by r header content (reading_on number s) (parser_by (has_number number) s.seats.items c e) st.there

-- of another connection, or of one that isn't there, nothing is read
hands_none : (n number : ℕ) (header : Header) (content : List ℕ) (part : Part Token) (way : Way) (manner : Manner) (h : Machine) (o : Option Seat) → seat_numbered number h.core.pool.service.seats ≡ o
    → (n ≢ number) ⊎ (o ≡ None) → NoneRead n h (Hands number header content part way manner ∷ [])
hands_none n number header content part way manner h None e other r = rw e ((λ same. tt, tt), refl)
hands_none n number header content part way manner h (Some c) e (inr none) r = absurd (let u : ⊥ = cc in u)
hands_none n number header content part way manner h (Some c) e (inl other) r =
    let off : (number == n) ≡ false = ne_eqb number n (λ same. other (sym same)) in
    ((λ same. absurd (other same), tt), rw e (rw off refl))

module _ (number : ℕ) (header : Header) (content : List ℕ) (way : Way) (manner : Manner) (from to : services.Service) (h : Machine) (is : h.core.pool.service ≡ service_in from)
    (all : AllRead number (is_last_packet header) content from to) where
  abbrev part : Part Token
  part = part_on (reading_on number from) content (is_last_packet header)

  abbrev hands : List Step
  hands = Hands number header content part way manner ∷ []

  hands_each : (n : ℕ) (r : Parser) → StandsAt n r from → AreRead n r h hands
  hands_each n r st = (
    λ same.
        subst (λ (s : Service). IsReadBy (seat_numbered number s.seats) r header content part) (sym is)
        (read_by number r header content from (seat_numbered number (service_in from).seats) refl (subst (λ (k : ℕ). StandsAt k r from) same st)),
    tt,
  )

  hands_stand : (n : ℕ) (r : Parser) → StandsAt n r from → StandsAt n (stands_behind n r h hands) to
  hands_stand n r st =
      subst (λ (s : Service). StandsAt n (read_at n number (seat_numbered number s.seats) (is_last_packet header) content r) to) (sym is) (all.stand n r st)

  hands_unread : (most : ℕ) (features : Features) (n : ℕ) → (n ≢ number) ⊎ (seat_numbered number (service_in from).seats ≡ None) → IsUnread most features n from
      → ReadAnew most features n h hands to
  hands_unread most features n other unread =
      let there : (n ≢ number) ⊎ (seat_numbered number h.core.pool.service.seats ≡ None) =
      subst (λ (s : Service). (n ≢ number) ⊎ (seat_numbered number s.seats ≡ None)) (sym is) other in
      anew_none most features n h hands to (hands_none n number header content part way manner h (seat_numbered number h.core.pool.service.seats) refl there) (all.unread n most features other unread)

  -- it begins to be read by this packet
  hands_first : (most : ℕ) (features : Features) (q : Parser) → reading_on number from ≡ Some q → IsUnread most features number from → ReadAnew most features number h hands to
  hands_first most features q e unread =
      let stands : StandsAt number q from = record {
        led = unread.led;
        given = low_there number from q unread.led e;
        there = λ now there. let same : Some now ≡ Some q = sym there ∙ e in cc;
      } in
      (q, unread.begins q e, hands_each number q stands, inl (hands_stand number q stands))

  hands_by : (most : ℕ) (features : Features) (o : Option Parser) → reading_on number from ≡ o → IsUnread most features number from → ReadAnew most features number h hands to
  hands_by most features None e unread = hands_unread most features number (inr (unread_seat number from e)) unread
  hands_by most features (Some q) e unread = hands_first most features q e unread

  pub walks_hands : Walks from h hands to
  walks_hands = record {
    each = hands_each;
    stand = hands_stand;
    anew = λ n most features unread.
        elim (eqb_tells n number) [
          | inl same ↦ subst (λ (k : ℕ). ReadAnew most features k h hands to) (sym same.1)
              (hands_by most features (reading_on number from) refl (subst (λ (k : ℕ). IsUnread most features k from) same.1 unread))
          | inr other ↦ hands_unread most features n (inl other.1) unread
        ];
    sized = all.sized;
  }

-- ---- From a new relay

-- where a relay is new
pub reads_new : (sharing : Sharing) (most : ℕ) (features : Features) (s : services.Service) → ((number : ℕ) → IsUnread most features number s) → IsReadTo sharing most features (new_machine sharing) s
reads_new sharing most features s unread = record {
  steps = [];
  are = refl;
  may = tt;
  each = λ n. anew_none most features n (new_machine sharing) [] s (λ r. (tt, refl)) (unread n);
}

reads_on : (sharing : Sharing) (most : ℕ) (features : Features) (old new : Machine) (from to : services.Service) (steps : List Step) → after_all old steps ≡ new → MayAll old steps → Walks from old steps to
    → IsReadTo sharing most features old from → IsReadTo sharing most features new to
reads_on sharing most features old new from to steps are may walks s = record {
  steps = s.steps ++ steps;
  are = after_both (new_machine sharing) s.steps steps ∙ ap (λ (h : Machine). after_all h steps) s.are ∙ are;
  may = may_both (new_machine sharing) s.steps steps s.may (subst (λ (h : Machine). MayAll h steps) (sym s.are) may);
  each = λ n. anew_both most features n from to (new_machine sharing) s.steps steps (s.each n) (subst (λ (h : Machine). Walks from h steps to) (sym s.are) walks);
}

-- behind a call by which nothing comes on a connection
pub reads_called : (by : Cause) (sharing : Sharing) (most : ℕ) (features : Features) (old new : Machine) (from to : services.Service) → IsNoConnection by → Steps by old new → AllStand from to
    → IsReadTo sharing most features old from → IsReadTo sharing most features new to
reads_called by sharing most features old new from to never s later led =
    reads_on sharing most features old new from to s.steps s.are s.may (walks_unread from to old s.steps (λ n. none_caused by n old s.steps never s.caused) later) led

-- or one by which bytes come
pub reads_came : (number : ℕ) (sharing : Sharing) (most : ℕ) (features : Features) (had now : Option packets.Reading) (bytes : List ℕ) (old new : Machine) (from to : services.Service) → BytesCome number had old from bytes now new to
    → IsReadTo sharing most features old from → IsReadTo sharing most features new to
reads_came number sharing most features had now bytes old new from to c led =
    let s = c.streams.streams in
    let mid : IsReadTo sharing most features c.mid c.at = reads_on sharing most features old c.mid from c.at s.steps s.are s.may s.walks led in
    let more : Steps Neither (record { core = c.mid.core; queues = c.mid.queues }) (record { core = new.core; queues = c.mid.queues }) = steps_of Neither c.mid.core new.core c.mid.queues (c.goes_on Neither) in
    reads_called Neither sharing most features c.mid new c.at to tt (subst (λ (ps : Queues). Steps Neither c.mid (record { core = new.core; queues = ps })) (sym c.kept) more) c.stand mid

-- who has come, and stays
pub visits : (sharing : Sharing) (most key : ℕ) (features : Features) (h : Machine) (s : services.Service) (before since : List Step) (ends : EndList) (queues : Queues) (led : IsReadTo sharing most features h s)
    → led.steps ≡ before ++ Admits key ends queues ∷ since → StaysAll key since → (v : ReadVisit sharing key) × (v.visit.before ≡ before) × (v.visit.since ≡ since)
visits sharing most key features h s before since ends queues led are stays =
    let v : ReadVisit sharing key = record {
      visit = record { before = before; ends = ends; queues = queues; since = since; may = subst (MayAll (new_machine sharing)) are led.may; stays = stays };
      most = most;
      features = features;
      read = subst (AllReadAnew most features (new_machine sharing)) are (λ n. let e = led.each n in (e.0, e.1, e.2));
    } in
    (v, refl, refl)
