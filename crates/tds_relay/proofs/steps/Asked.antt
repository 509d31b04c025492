-- Behind each piece of an application's request this is underway: so it is of pieces one behind the other.
use Rattle.std.proofs.Common.{◌≡◌, ◌∙◌, ◌⊎◌, ◌==◌, ◌++◌, length, ℕ, Bool, true, false, List, [], ◌∷◌, Option, Some, None, refl, sym, ap, subst, inl, inr, drop, append_assoc}
use Rattle.std.proofs.lemmas.Bool.{eqb-true}
use Rattle.std.specs.Prelude.{Result, Ok, Err, OnOk}
use Rattle.tds_packet.specs.declared.status.Reset.{Reset}
use Rattle.tds_front.specs.declared.fault.FrontFault.{FrontFault}
use Rattle.tds_front.specs.declared.front.Fed.{Fed}
use Rattle.tds_front.specs.declared.front.Front.{Front}
use Rattle.tds_front.specs.declared.front.Said.{Said}
use Rattle.tds_front.specs.declared.front.Said.TheVariants as said
use Rattle.tds_front.specs.Bytes.{fed}
use Rattle.tds_relay.specs.declared.link.Link.{Link}
use Rattle.tds_relay.specs.Asking.{AreObeyed, AsksByBytes, Closes, Drains, IsObeyed, IsUnderway, Opens, Sends, Soon, Waits, said_of_piece, said_of}
use Rattle.tds_relay.specs.Pool.{Pool}
use Rattle.tds_relay.specs.Fronts.{ClosesInstead, FedOn, IsFed, Moved, MovedOn, TakesBetween, given_by, core_of_ends, machine_with}
use Rattle.tds_relay.specs.Core.{End, EndList, Feeds, Core, Move, Moves, Open, change_end, closes, closes_for, end_at, moved, moved_all}
use Rattle.tds_relay.specs.Machine.{Machine, Step, Admits, Hands, Makes, Removes, Takes, Writes, after, after_all, owed, put_some}
use Rattle.tds_relay.specs.Queues.{Queues, change}
use Rattle.tds_relay.specs.Reads as reads
use Rattle.tds_relay.specs.Reads.{StaysAt, open_at}
use Rattle.tds_relay.specs.Taking.{IsDeaf, bytes_left_by}
use Rattle.tds_relay.specs.Ties.{Application}
use Rattle.tds_relay.proofs.steps.Fed.{left_fed, waits_fed}
use Rattle.tds_relay.proofs.steps.Fronts.{moves_closes, no_moves}
use Rattle.tds_relay.proofs.steps.Staying.{stays_opens}
use Rattle.tds_relay.proofs.steps.Stepping.{makes_all}
use Rattle.tds_relay.proofs.steps.Told.{deaf_closed, deaf_for, tells_begin, tells_deaf, tells_moves, tells_takes}

-- ---- Steps one behind the other

-- soon, before a step more
soon_now : (P : Core → Type 0) (h : Machine) (steps : List Step) → P h.core → Soon P h steps
soon_now P h [] p = p
soon_now P h (Makes move ∷ steps) p = inl p
soon_now P h (Takes other bytes ∷ steps) p = p
soon_now P h (Hands number header content part way manner ∷ steps) p = p
soon_now P h (Writes other count ∷ steps) p = p
soon_now P h (Admits other ends queues ∷ steps) p = p
soon_now P h (Removes other gives way ∷ steps) p = p

soon_more : (P : Core → Type 0) (h : Machine) (xs ys : List Step) → Soon P h xs → Soon P h (xs ++ ys)
soon_more P h [] ys p = soon_now P h ys p
soon_more P h (Makes move ∷ xs) ys (inl p) = inl p
soon_more P h (Makes move ∷ xs) ys (inr p) = inr (soon_more P (after h (Makes move)) xs ys p)
soon_more P h (Takes other bytes ∷ xs) ys p = p
soon_more P h (Hands number header content part way manner ∷ xs) ys p = p
soon_more P h (Writes other count ∷ xs) ys p = p
soon_more P h (Admits other ends queues ∷ xs) ys p = p
soon_more P h (Removes other gives way ∷ xs) ys p = p

-- at last
soon_last : (P : Core → Type 0) (h : Machine) (moves : List Move) → P (moved_all h.core moves) → Soon P h (makes_all moves)
soon_last P h [] p = p
soon_last P h (move ∷ moves) p = inr (soon_last P (after h (Makes move)) moves p)

soon_weaker : (P Q : Core → Type 0) (h : Machine) (xs : List Step) → ((x : Core) → P x → Q x) → Soon P h xs → Soon Q h xs
soon_weaker P Q h [] f p = f h.core p
soon_weaker P Q h (Makes move ∷ xs) f (inl p) = inl (f h.core p)
soon_weaker P Q h (Makes move ∷ xs) f (inr p) = inr (soon_weaker P Q (after h (Makes move)) xs f p)
soon_weaker P Q h (Takes other bytes ∷ xs) f p = f h.core p
soon_weaker P Q h (Hands number header content part way manner ∷ xs) f p = f h.core p
soon_weaker P Q h (Writes other count ∷ xs) f p = f h.core p
soon_weaker P Q h (Admits other ends queues ∷ xs) f p = f h.core p
soon_weaker P Q h (Removes other gives way ∷ xs) f p = f h.core p

module _ (P : Said → Core → Type 0) (key : ℕ) where
  none_obeyed : (h : Machine) (moves : List Move) → AreObeyed P key h (makes_all moves)
  none_obeyed h [] = tt
  none_obeyed h (move ∷ moves) = none_obeyed (after h (Makes move)) moves

  obeyed_both : (h : Machine) (xs ys : List Step) → AreObeyed P key h xs → AreObeyed P key (after_all h xs) ys → AreObeyed P key h (xs ++ ys)
  obeyed_both h [] ys o p = p
  obeyed_both h (Takes other bytes ∷ xs) ys o p = (
    soon_more (P (said_of bytes (end_at h.core.ends key))) (after h (Takes other bytes)) xs ys o.0,
    obeyed_both (after h (Takes other bytes)) xs ys o.1 p,
  )
  obeyed_both h (Makes move ∷ xs) ys o p = obeyed_both (after h (Makes move)) xs ys o p
  obeyed_both h (Hands number header content part way manner ∷ xs) ys o p = obeyed_both (after h (Hands number header content part way manner)) xs ys o p
  obeyed_both h (Writes other count ∷ xs) ys o p = obeyed_both (after h (Writes other count)) xs ys o p
  obeyed_both h (Admits other ends queues ∷ xs) ys o p = obeyed_both (after h (Admits other ends queues)) xs ys o p
  obeyed_both h (Removes other gives way ∷ xs) ys o p = obeyed_both (after h (Removes other gives way)) xs ys o p

obeyed_weaker : (P Q : Said → Core → Type 0) (key : ℕ) (h : Machine) (xs : List Step) → ((answer : Said) (x : Core) → P answer x → Q answer x) → AreObeyed P key h xs → AreObeyed Q key h xs
obeyed_weaker P Q key h [] f o = tt
obeyed_weaker P Q key h (Takes other bytes ∷ xs) f o = (
  soon_weaker (P (said_of bytes (end_at h.core.ends key))) (Q (said_of bytes (end_at h.core.ends key))) (after h (Takes other bytes)) xs (f (said_of bytes (end_at h.core.ends key))) o.0,
  obeyed_weaker P Q key (after h (Takes other bytes)) xs f o.1,
)
obeyed_weaker P Q key h (Makes move ∷ xs) f o = obeyed_weaker P Q key (after h (Makes move)) xs f o
obeyed_weaker P Q key h (Hands number header content part way manner ∷ xs) f o = obeyed_weaker P Q key (after h (Hands number header content part way manner)) xs f o
obeyed_weaker P Q key h (Writes other count ∷ xs) f o = obeyed_weaker P Q key (after h (Writes other count)) xs f o
obeyed_weaker P Q key h (Admits other ends queues ∷ xs) f o = obeyed_weaker P Q key (after h (Admits other ends queues)) xs f o
obeyed_weaker P Q key h (Removes other gives way ∷ xs) f o = obeyed_weaker P Q key (after h (Removes other gives way)) xs f o

-- ---- Connections that stay as they are, or are there no more

stays_shut : {A : Type 0} (old new : Option A) → StaysAt old new → old ≡ None → new ≡ None
stays_shut old None stays e = refl
stays_shut old (Some r) stays e = absurd (let u : ⊥ = cc in u)

underway_on : (whole : Bool) (links next : List Link) (key : ℕ) (h : Core) → reads.Opens links next → IsUnderway whole links key h → IsUnderway whole next key h
underway_on whole links next key h opens (Waits is) = Waits is
underway_on whole links next key h opens (Opens hold its shut) = Opens hold its (stays_shut (open_at hold.number links) (open_at hold.number next) (opens.opens hold.number) shut)
underway_on whole links next key h opens (Drains hold its back) = Drains hold its back
underway_on whole links next key h opens (Sends sends) = Sends sends
underway_on whole links next key h opens (Closes deaf) = Closes deaf

obeyed_on : (links next : List Link) (key : ℕ) (answer : Said) (h : Core) → reads.Opens links next → IsObeyed links key answer h → IsObeyed next key answer h
obeyed_on links next key said.Nothing h opens o = tt
obeyed_on links next key (said.Begin kind reset) h opens o = underway_on false links next key h opens o
obeyed_on links next key (said.Body count) h opens o = underway_on false links next key h opens o
obeyed_on links next key (said.End count) h opens o = underway_on true links next key h opens o
obeyed_on links next key (said.Forget gone) h opens o = o
obeyed_on links next key said.Acknowledge h opens o = o
obeyed_on links next key said.HandOn h opens o = tt

-- ---- Of a call

pub asks_begin : (key : ℕ) (h : Machine) (bytes : List ℕ) (links : List Link) → AsksByBytes key h bytes bytes links h
asks_begin key h bytes links = record { tells = tells_begin key h bytes; obeyed = tt }

pub empty_is : (bytes : List ℕ) → (length bytes == 0) ≡ true → [] ≡ bytes
empty_is [] e = refl
empty_is (byte ∷ bytes) e = absurd (let none : length (byte ∷ bytes) ≡ 0 = eqb-true (length (byte ∷ bytes)) 0 e in let u : ⊥ = cc in u)

pub asks_left : (key : ℕ) (old new : Machine) (bytes left rest : List ℕ) (links : List Link) → rest ≡ left → AsksByBytes key old bytes left links new → AsksByBytes key old bytes rest links new
asks_left key old new bytes left rest links is a = subst (λ (xs : List ℕ). AsksByBytes key old bytes xs links new) (sym is) a

pub asks_links : (key : ℕ) (old new : Machine) (bytes left : List ℕ) (links next : List Link) → reads.Opens links next → AsksByBytes key old bytes left links new → AsksByBytes key old bytes left next new
asks_links key old new bytes left links next opens a = record {
  tells = a.tells;
  obeyed = obeyed_weaker (IsObeyed links key) (IsObeyed next key) key old a.tells.steps (λ answer h. obeyed_on links next key answer h opens) a.obeyed;
}

-- it is to be closed, so the others aren't taken
pub asks_deaf : (key : ℕ) (old new : Machine) (bytes left rest : List ℕ) (links : List Link) → IsDeaf (end_at new.core.ends key) → AsksByBytes key old bytes left links new → AsksByBytes key old bytes rest links new
asks_deaf key old new bytes left rest links deaf a = record { tells = tells_deaf key old new bytes left rest deaf a.tells; obeyed = a.obeyed }

-- the core moves on
asks_moves : (key : ℕ) (old : Machine) (bytes left : List ℕ) (links : List Link) (h h1 : Core) (ps ps1 : Queues) → Moves (Application key) h h1 → ps1 ≡ ps
    → AsksByBytes key old bytes left links (record { core = h; queues = ps }) → AsksByBytes key old bytes left links (record { core = h1; queues = ps1 })
asks_moves key old bytes left links h h1 ps ps1 m kept a =
    let P : Said → Core → Type 0 = IsObeyed links key in
    record {
      tells = tells_moves key old bytes left h h1 ps ps1 m kept a.tells;
      obeyed = obeyed_both P key old a.tells.steps (makes_all m.moves) a.obeyed (none_obeyed P key (after_all old a.tells.steps) m.moves);
    }

pub asks_moved : (key : ℕ) (old : Machine) (bytes left : List ℕ) (links : List Link) (h h1 : Core) (ps ps1 : Queues) → Moved (Application key) h h1 → ps1 ≡ ps
    → AsksByBytes key old bytes left links (record { core = h; queues = ps }) → AsksByBytes key old bytes left links (record { core = h1; queues = ps1 })
asks_moved key old bytes left links h h1 ps ps1 m kept a = asks_moves key old bytes left links h h1 ps ps1 (m h (no_moves (Application key) h)) kept a

-- ---- Bytes are taken, and then it goes on

pub said_is : (bytes : List ℕ) (o : Option End) (front : Front) (withdrawn : Bool) (asks : Option Reset) (brings : Result Fed FrontFault) → o ≡ Some (Open front withdrawn asks) → (fed front bytes).brings ≡ brings → said_of bytes o ≡ said_of_piece brings
said_is bytes o front withdrawn asks brings was says = ap (said_of bytes) was ∙ ap said_of_piece says

module _ (P : Said → Core → Type 0) (key : ℕ) (left : List ℕ) where
  one_obeyed : (h : Machine) (moves : List Move) (h1 : Core) → moved_all (moved h.core (Feeds key left)) moves ≡ h1 → P (said_of left (end_at h.core.ends key)) h1
      → AreObeyed P key h (Takes key left ∷ makes_all moves)
  one_obeyed h moves h1 are p = (
    soon_last (P (said_of left (end_at h.core.ends key))) (after h (Takes key left)) moves (subst (P (said_of left (end_at h.core.ends key))) (sym are) p),
    none_obeyed P key (after h (Takes key left)) moves,
  )

  taken_obeyed : (old h : Machine) (xs : List Step) (moves : List Move) (h1 : Core) → after_all old xs ≡ h → moved_all (moved h.core (Feeds key left)) moves ≡ h1
      → P (said_of left (end_at h.core.ends key)) h1 → AreObeyed P key old xs → AreObeyed P key old ((xs ++ Takes key left ∷ []) ++ makes_all moves)
  taken_obeyed old h xs moves h1 e are p o =
      subst (AreObeyed P key old) (sym (append_assoc xs (Takes key left ∷ []) (makes_all moves)))
      (obeyed_both P key old xs (Takes key left ∷ makes_all moves) o (subst (λ (x : Machine). AreObeyed P key x (Takes key left ∷ makes_all moves)) (sym e) (one_obeyed h moves h1 are p)))

asks_taken : (key : ℕ) (old : Machine) (bytes left rest : List ℕ) (links : List Link) (h : Machine) (h1 : Core) (ps1 : Queues) (front : Front) (withdrawn : Bool) (asks : Option Reset) → end_at h.core.ends key ≡ Some (Open front withdrawn asks)
    → bytes_left_by left (end_at h.core.ends key) ≡ rest → change key (put_some (owed left (end_at h.core.ends key))) h.queues ≡ ps1 → Moves (Application key) (moved h.core (Feeds key left)) h1
    → IsObeyed links key (said_of left (end_at h.core.ends key)) h1 → AsksByBytes key old bytes left links h → AsksByBytes key old bytes rest links (record { core = h1; queues = ps1 })
asks_taken key old bytes left rest links h h1 ps1 front withdrawn asks opened left_is waits m p a = record {
  tells = tells_moves key old bytes rest (moved h.core (Feeds key left)) h1 ps1 ps1 m refl (tells_takes key old bytes left rest h ps1 front withdrawn asks opened left_is waits a.tells);
  obeyed = taken_obeyed (IsObeyed links key) key left old h a.tells.steps m.moves h1 a.tells.are m.are p a.obeyed;
}

-- ---- As it is done

pub asks_refused : (key : ℕ) (old : Machine) (bytes left rest : List ℕ) (links : List Link) (h : Machine) (h1 : Core) (ps1 : Queues) (front : Front) (withdrawn : Bool) (asks : Option Reset) (fault : FrontFault) → end_at h.core.ends key ≡ Some (Open front withdrawn asks)
    → change key (put_some (owed left (end_at h.core.ends key))) h.queues ≡ h.queues → moved h.core (Feeds key left) ≡ core_of_ends h.core.pool (change_end key (closes_for (Some fault)) h.core.ends) → (fed front left).brings ≡ Err fault
    → Moved (Application key) (core_of_ends h.core.pool (change_end key (closes_for (Some fault)) h.core.ends)) h1 → ps1 ≡ h.queues → AsksByBytes key old bytes left links h → AsksByBytes key old bytes rest links (record { core = h1; queues = ps1 })
asks_refused key old bytes left rest links h h1 ps1 front withdrawn asks fault opened waits is says m kept a =
    let closed : Core = core_of_ends h.core.pool (change_end key (closes_for (Some fault)) h.core.ends) in
    let moves : Moves (Application key) (moved h.core (Feeds key left)) closed = subst (Moves (Application key) (moved h.core (Feeds key left))) is (no_moves (Application key) (moved h.core (Feeds key left))) in
    asks_moved key old bytes rest links closed h1 h.queues ps1 m kept
    (asks_deaf key old (record { core = closed; queues = h.queues }) bytes (bytes_left_by left (end_at h.core.ends key)) rest links (deaf_for (Some fault) key h.core.ends)
    (asks_taken key old bytes left (bytes_left_by left (end_at h.core.ends key)) links h closed h.queues front withdrawn asks opened refl waits moves
    (subst (λ (s : Said). IsObeyed links key s closed) (sym (said_is left (end_at h.core.ends key) front withdrawn asks (Err fault) opened says)) tt) a))

pub asks_expelled : {A E : Type 0} (r : Result A E) (key : ℕ) (old : Machine) (bytes left rest : List ℕ) (links next : List Link) (d : Pool) (es : EndList) (ps ps1 : Queues) (h1 : Core) → AsksByBytes key old bytes left links (machine_with d es ps)
    → OnOk r (Moved (Application key) (core_of_ends d (change_end key closes es)) h1) → OnOk r (ps1 ≡ ps) → OnOk r (reads.LinksStay links next) → OnOk r (AsksByBytes key old bytes rest next (record { core = h1; queues = ps1 }))
asks_expelled (Ok x) key old bytes left rest links next d es ps ps1 h1 a m kept stays =
    asks_links key old (record { core = h1; queues = ps1 }) bytes rest links next (stays_opens links next stays)
    (asks_moved key old bytes rest links (core_of_ends d (change_end key closes es)) h1 ps ps1 m kept
    (asks_deaf key old (machine_with d (change_end key closes es) ps) bytes left rest links (deaf_closed key es)
    (asks_moved key old bytes left links (core_of_ends d es) (core_of_ends d (change_end key closes es)) ps ps (λ from h. moves_closes (Application key) from d d es (change_end key closes es) key refl refl h) refl a)))
asks_expelled (Err e) key old bytes left rest links next d es ps ps1 h1 a m kept stays = tt

asks_between : (key : ℕ) (old : Machine) (bytes left rest : List ℕ) (links : List Link) (d : Pool) (before now : EndList) (ps ps1 : Queues) (h1 : Core) (answer : Said) → (f : IsFed key before now left answer)
    → TakesBetween key (core_of_ends d before) left h1 ⊎ ClosesInstead key answer (core_of_ends d before) h1 → IsObeyed links key answer h1 → rest ≡ drop f.count left → ps1 ≡ given_by key answer ps
    → AsksByBytes key old bytes left links (machine_with d before ps) → AsksByBytes key old bytes rest links (record { core = h1; queues = ps1 })
asks_between key old bytes left rest links d before now ps ps1 h1 answer f (inl b) p is given a =
    let same : end_at b.mid.ends key ≡ end_at before key = ap (λ (es : EndList). end_at es key) b.same in
    asks_taken key old bytes left rest links (record { core = b.mid; queues = ps }) h1 ps1 f.front f.withdrawn f.asks (same ∙ f.was)
    (ap (bytes_left_by left) same ∙ left_fed key before now left answer f ∙ sym is)
    (ap (λ (o : Option End). change key (put_some (owed left o)) ps) same ∙ waits_fed key before now left answer ps f ∙ sym given)
    b.next
    (subst (λ (s : Said). IsObeyed links key s h1) (sym (said_is left (end_at b.mid.ends key) f.front f.withdrawn f.asks (Ok (record { count = f.count; said = answer })) (same ∙ f.was) f.says)) p)
    (asks_moves key old bytes left links (core_of_ends d before) b.mid ps ps b.first refl a)
asks_between key old bytes left rest links d before now ps ps1 h1 answer f (inr k) p is given a =
    asks_deaf key old (record { core = h1; queues = ps1 }) bytes left rest links k.deaf
    (asks_moves key old bytes left links (core_of_ends d before) h1 ps ps1 k.moves (given ∙ k.nothing ps) a)

pub asks_fed : (key : ℕ) (old : Machine) (bytes left rest : List ℕ) (links next : List Link) (d : Pool) (before now : EndList) (ps ps1 : Queues) (h1 : Core) (answer : Said) → FedOn key answer d now h1 → (f : IsFed key before now left answer)
    → IsObeyed next key answer h1 → reads.LinksStay links next → rest ≡ drop f.count left → ps1 ≡ given_by key answer ps → AsksByBytes key old bytes left links (machine_with d before ps)
    → AsksByBytes key old bytes rest next (record { core = h1; queues = ps1 })
asks_fed key old bytes left rest links next d before now ps ps1 h1 answer on f p stays is given a =
    asks_between key old bytes left rest next d before now ps ps1 h1 answer f (on before left f) p is given (asks_links key old (machine_with d before ps) bytes left links next (stays_opens links next stays) a)

-- where a call answers
pub asks_ok : {A E : Type 0} (r : Result A E) (key : ℕ) (old : Machine) (bytes left : List ℕ) (links next : List Link) (h h1 : Core) (ps ps1 : Queues) → AsksByBytes key old bytes left links (record { core = h; queues = ps })
    → OnOk r (MovedOn h h1) → OnOk r (ps1 ≡ ps) → OnOk r (reads.Opens links next) → OnOk r (AsksByBytes key old bytes left next (record { core = h1; queues = ps1 }))
asks_ok (Ok x) key old bytes left links next h h1 ps ps1 a m kept opens =
    asks_links key old (record { core = h1; queues = ps1 }) bytes left links next opens (asks_moved key old bytes left links h h1 ps ps1 (m (Application key)) kept a)
asks_ok (Err e) key old bytes left links next h h1 ps ps1 a m kept opens = tt
