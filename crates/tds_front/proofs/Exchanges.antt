-- What is lawful is exchanges, one behind the other.
use Rattle.std.proofs.Common.{◌≡◌, ◌∙◌, ℕ, zero, suc, Bool, true, false, List, [], ◌∷◌, ◌++◌, refl, sym, ap, subst}
use Rattle.tds_front.specs.Serving.{Brought, More, Whole, Ignored, Attention, Wrong, ServerReply, Tokens, Ends, Acknowledges, Happening, Comes, Goes, Closes, ServerIsAt, Ready, Executing, Stopping, Broken, IsLawful, MayGo, behind_brought, behind_reply}
use Rattle.tds_front.specs.Exchanges.{Stop, Cut, Crossed, Answer, Ended, Stopped, Exchange, Asked, Forgotten, Alone, times, acknowledged, stopped, answered, exchanged, all_of, IsFront, place_after, IsSilent}

-- ---- Exchanges are lawful

fronts : (place : ServerIsAt) (happenings rest : List Happening) → IsLawful place (happenings ++ rest) → IsLawful place happenings
fronts place [] rest l = tt
fronts place (Comes brought ∷ later) rest l = fronts (behind_brought place brought) later rest l
fronts place (Goes reply ∷ later) rest l = (l.0, fronts (behind_reply place reply) later rest l.1)
fronts place (Closes ∷ later) rest l = (l.0, fronts place later rest l.1)

begun_lawful : (packets : ℕ) (later : List Happening) → IsLawful Ready later → IsLawful Ready (times packets (Comes More) later)
begun_lawful zero later l = l
begun_lawful (suc n) later l = begun_lawful n later l

told_lawful : (place : ServerIsAt) → MayGo place Tokens → (tokens : ℕ) (later : List Happening) → IsLawful place later → IsLawful place (times tokens (Goes Tokens) later)
told_lawful place may zero later l = l
told_lawful place may (suc n) later l = (may, told_lawful place may n later l)

acknowledged_lawful : (answering : Bool) (tokens : ℕ) (later : List Happening) → IsLawful Ready later → IsLawful (Stopping answering) (acknowledged tokens later)
acknowledged_lawful answering tokens later l = told_lawful (Stopping answering) tt tokens (Goes Acknowledges ∷ later) (tt, l)

stopped_lawful : (stop : Stop) (later : List Happening) → IsLawful Ready later → IsLawful (Stopping true) (stopped stop later)
stopped_lawful (Cut tokens) later l = acknowledged_lawful true tokens later l
stopped_lawful (Crossed tokens behind) later l =
    told_lawful (Stopping true) tt tokens (Goes Ends ∷ acknowledged behind later) (tt, acknowledged_lawful false behind later l)

answered_lawful : (answer : Answer) (later : List Happening) → IsLawful Ready later → IsLawful Executing (answered answer later)
answered_lawful (Ended tokens) later l = told_lawful Executing tt tokens (Goes Ends ∷ later) (tt, l)
answered_lawful (Stopped tokens stop) later l = told_lawful Executing tt tokens (Comes Attention ∷ stopped stop later) (stopped_lawful stop later l)

exchanged_lawful : (exchange : Exchange) (later : List Happening) → IsLawful Ready later → IsLawful Ready (exchanged exchange later)
exchanged_lawful (Asked packets answer) later l = begun_lawful packets (Comes Whole ∷ answered answer later) (answered_lawful answer later l)
exchanged_lawful (Forgotten packets) later l = begun_lawful packets (Comes Ignored ∷ later) l
exchanged_lawful (Alone packets tokens) later l =
    begun_lawful packets (Comes Attention ∷ acknowledged tokens later) (acknowledged_lawful false tokens later l)

all_lawful : (exchanges : List Exchange) → IsLawful Ready (all_of exchanges)
all_lawful [] = tt
all_lawful (exchange ∷ exchanges) = exchanged_lawful exchange (all_of exchanges) (all_lawful exchanges)

pub each : (happenings : List Happening) → IsFront happenings → IsLawful Ready happenings
each happenings f = fronts Ready happenings f.rest (subst (λ (xs : List Happening). IsLawful Ready xs) (sym f.all) (all_lawful f.exchanges))

-- ---- No packet of an exchange is a fault

stays : (happenings : List Happening) → place_after Broken happenings ≡ Broken
stays [] = refl
stays (Comes brought ∷ later) = stays later
stays (Goes Tokens ∷ later) = stays later
stays (Goes Ends ∷ later) = stays later
stays (Goes Acknowledges ∷ later) = stays later
stays (Closes ∷ later) = stays later

abbrev IsReady : ServerIsAt → Type 0
IsReady Ready = Unit {0}
IsReady place = ⊥

not_ready : (place : ServerIsAt) → place ≡ Ready → place ≡ Broken → ⊥
not_ready place r b = subst IsReady (sym r ∙ b) tt

broken_on : (place : ServerIsAt) (happenings rest : List Happening) → place_after place happenings ≡ Broken → place_after place (happenings ++ rest) ≡ Broken
broken_on place [] rest b = subst (λ (p : ServerIsAt). place_after p rest ≡ Broken) (sym b) (stays rest)
broken_on place (Comes brought ∷ later) rest b = broken_on (behind_brought place brought) later rest b
broken_on place (Goes reply ∷ later) rest b = broken_on (behind_reply place reply) later rest b
broken_on place (Closes ∷ later) rest b = broken_on place later rest b

begun_ready : (packets : ℕ) (later : List Happening) → place_after Ready later ≡ Ready → place_after Ready (times packets (Comes More) later) ≡ Ready
begun_ready zero later e = e
begun_ready (suc n) later e = begun_ready n later e

told_ready : (place : ServerIsAt) (tokens : ℕ) (later : List Happening) → place_after place later ≡ Ready → place_after place (times tokens (Goes Tokens) later) ≡ Ready
told_ready place zero later e = e
told_ready place (suc n) later e = told_ready place n later e

stopped_ready : (stop : Stop) (later : List Happening) → place_after Ready later ≡ Ready → place_after (Stopping true) (stopped stop later) ≡ Ready
stopped_ready (Cut tokens) later e = told_ready (Stopping true) tokens (Goes Acknowledges ∷ later) e
stopped_ready (Crossed tokens behind) later e =
    told_ready (Stopping true) tokens (Goes Ends ∷ acknowledged behind later) (told_ready (Stopping false) behind (Goes Acknowledges ∷ later) e)

answered_ready : (answer : Answer) (later : List Happening) → place_after Ready later ≡ Ready → place_after Executing (answered answer later) ≡ Ready
answered_ready (Ended tokens) later e = told_ready Executing tokens (Goes Ends ∷ later) e
answered_ready (Stopped tokens stop) later e = told_ready Executing tokens (Comes Attention ∷ stopped stop later) (stopped_ready stop later e)

exchanged_ready : (exchange : Exchange) (later : List Happening) → place_after Ready later ≡ Ready → place_after Ready (exchanged exchange later) ≡ Ready
exchanged_ready (Asked packets answer) later e = begun_ready packets (Comes Whole ∷ answered answer later) (answered_ready answer later e)
exchanged_ready (Forgotten packets) later e = begun_ready packets (Comes Ignored ∷ later) e
exchanged_ready (Alone packets tokens) later e =
    begun_ready packets (Comes Attention ∷ acknowledged tokens later) (told_ready (Stopping false) tokens (Goes Acknowledges ∷ later) e)

all_ready : (exchanges : List Exchange) → place_after Ready (all_of exchanges) ≡ Ready
all_ready [] = refl
all_ready (exchange ∷ exchanges) = exchanged_ready exchange (all_of exchanges) (all_ready exchanges)

pub unbroken : (happenings : List Happening) → IsFront happenings → place_after Ready happenings ≡ Broken → ⊥
unbroken happenings f b =
    not_ready (place_after Ready (all_of f.exchanges)) (all_ready f.exchanges)
    (subst (λ (xs : List Happening). place_after Ready xs ≡ Broken) f.all (broken_on Ready happenings f.rest b))

-- ---- What is lawful and has no fault goes on to exchanges

record AtReady (happenings : List Happening) : Type 0 where
  exchange : Exchange
  exchanges : List Exchange
  rest : List Happening
  all : happenings ++ rest ≡ exchanged exchange (all_of exchanges)

record AtExecuting (happenings : List Happening) : Type 0 where
  answer : Answer
  exchanges : List Exchange
  rest : List Happening
  all : happenings ++ rest ≡ answered answer (all_of exchanges)

record AtStop (happenings : List Happening) : Type 0 where
  stop : Stop
  exchanges : List Exchange
  rest : List Happening
  all : happenings ++ rest ≡ stopped stop (all_of exchanges)

record AtAttention (happenings : List Happening) : Type 0 where
  tokens : ℕ
  exchanges : List Exchange
  rest : List Happening
  all : happenings ++ rest ≡ acknowledged tokens (all_of exchanges)

abbrev Completes : ServerIsAt → List Happening → Type 0
Completes Ready happenings = AtReady happenings
Completes Executing happenings = AtExecuting happenings
Completes (Stopping true) happenings = AtStop happenings
Completes (Stopping false) happenings = AtAttention happenings
Completes Broken happenings = Unit {0}

abbrev With : List Happening → Type 0
With later = (place : ServerIsAt) → IsLawful place later → (place_after place later ≡ Broken → ⊥) → Completes place later

ends_now : (place : ServerIsAt) → Completes place []
ends_now Ready = record { exchange = Forgotten 0; exchanges = []; rest = Comes Ignored ∷ []; all = refl }
ends_now Executing = record { answer = Ended 0; exchanges = []; rest = Goes Ends ∷ []; all = refl }
ends_now (Stopping true) = record { stop = Cut 0; exchanges = []; rest = Goes Acknowledges ∷ []; all = refl }
ends_now (Stopping false) = record { tokens = 0; exchanges = []; rest = Goes Acknowledges ∷ []; all = refl }
ends_now Broken = tt

-- one more packet, and one more run of tokens
one_packet : (later rest : List Happening) (exchange : Exchange) (exchanges : List Exchange) → later ++ rest ≡ exchanged exchange (all_of exchanges)
    → AtReady (Comes More ∷ later)
one_packet later rest (Asked packets answer) exchanges e =
    record { exchange = Asked (suc packets) answer; exchanges = exchanges; rest = rest; all = ap (λ (xs : List Happening). Comes More ∷ xs) e }
one_packet later rest (Forgotten packets) exchanges e =
    record { exchange = Forgotten (suc packets); exchanges = exchanges; rest = rest; all = ap (λ (xs : List Happening). Comes More ∷ xs) e }
one_packet later rest (Alone packets tokens) exchanges e =
    record { exchange = Alone (suc packets) tokens; exchanges = exchanges; rest = rest; all = ap (λ (xs : List Happening). Comes More ∷ xs) e }

one_answered : (later rest : List Happening) (answer : Answer) (exchanges : List Exchange) → later ++ rest ≡ answered answer (all_of exchanges)
    → AtExecuting (Goes Tokens ∷ later)
one_answered later rest (Ended tokens) exchanges e =
    record { answer = Ended (suc tokens); exchanges = exchanges; rest = rest; all = ap (λ (xs : List Happening). Goes Tokens ∷ xs) e }
one_answered later rest (Stopped tokens stop) exchanges e =
    record { answer = Stopped (suc tokens) stop; exchanges = exchanges; rest = rest; all = ap (λ (xs : List Happening). Goes Tokens ∷ xs) e }

one_stopped : (later rest : List Happening) (stop : Stop) (exchanges : List Exchange) → later ++ rest ≡ stopped stop (all_of exchanges)
    → AtStop (Goes Tokens ∷ later)
one_stopped later rest (Cut tokens) exchanges e =
    record { stop = Cut (suc tokens); exchanges = exchanges; rest = rest; all = ap (λ (xs : List Happening). Goes Tokens ∷ xs) e }
one_stopped later rest (Crossed tokens behind) exchanges e =
    record { stop = Crossed (suc tokens) behind; exchanges = exchanges; rest = rest; all = ap (λ (xs : List Happening). Goes Tokens ∷ xs) e }

comes : (later : List Happening) → With later → (place : ServerIsAt) (brought : Brought) → IsLawful (behind_brought place brought) later
    → (place_after (behind_brought place brought) later ≡ Broken → ⊥) → Completes place (Comes brought ∷ later)
comes later with_it Ready More l k = let c : AtReady later = with_it Ready l k in one_packet later c.rest c.exchange c.exchanges c.all
comes later with_it Ready Whole l k =
    let c : AtExecuting later = with_it Executing l k in
    record { exchange = Asked 0 c.answer; exchanges = c.exchanges; rest = c.rest; all = ap (λ (xs : List Happening). Comes Whole ∷ xs) c.all }
comes later with_it Ready Ignored l k =
    let c : AtReady later = with_it Ready l k in
    record { exchange = Forgotten 0; exchanges = c.exchange ∷ c.exchanges; rest = c.rest; all = ap (λ (xs : List Happening). Comes Ignored ∷ xs) c.all }
comes later with_it Ready Attention l k =
    let c : AtAttention later = with_it (Stopping false) l k in
    record { exchange = Alone 0 c.tokens; exchanges = c.exchanges; rest = c.rest; all = ap (λ (xs : List Happening). Comes Attention ∷ xs) c.all }
comes later with_it Ready Wrong l k = absurd (k (stays later))
comes later with_it Executing Attention l k =
    let c : AtStop later = with_it (Stopping true) l k in
    record { answer = Stopped 0 c.stop; exchanges = c.exchanges; rest = c.rest; all = ap (λ (xs : List Happening). Comes Attention ∷ xs) c.all }
comes later with_it Executing More l k = absurd (k (stays later))
comes later with_it Executing Whole l k = absurd (k (stays later))
comes later with_it Executing Ignored l k = absurd (k (stays later))
comes later with_it Executing Wrong l k = absurd (k (stays later))
comes later with_it (Stopping true) brought l k = absurd (k (stays later))
comes later with_it (Stopping false) brought l k = absurd (k (stays later))
comes later with_it Broken brought l k = tt

goes : (later : List Happening) → With later → (place : ServerIsAt) (reply : ServerReply) → MayGo place reply → IsLawful (behind_reply place reply) later
    → (place_after (behind_reply place reply) later ≡ Broken → ⊥) → Completes place (Goes reply ∷ later)
goes later with_it Ready Tokens may l k = absurd may
goes later with_it Ready Ends may l k = absurd may
goes later with_it Ready Acknowledges may l k = absurd may
goes later with_it Executing Tokens may l k = let c : AtExecuting later = with_it Executing l k in one_answered later c.rest c.answer c.exchanges c.all
goes later with_it Executing Ends may l k =
    let c : AtReady later = with_it Ready l k in
    record { answer = Ended 0; exchanges = c.exchange ∷ c.exchanges; rest = c.rest; all = ap (λ (xs : List Happening). Goes Ends ∷ xs) c.all }
goes later with_it Executing Acknowledges may l k = absurd may
goes later with_it (Stopping true) Tokens may l k = let c : AtStop later = with_it (Stopping true) l k in one_stopped later c.rest c.stop c.exchanges c.all
goes later with_it (Stopping true) Ends may l k =
    let c : AtAttention later = with_it (Stopping false) l k in
    record { stop = Crossed 0 c.tokens; exchanges = c.exchanges; rest = c.rest; all = ap (λ (xs : List Happening). Goes Ends ∷ xs) c.all }
goes later with_it (Stopping true) Acknowledges may l k =
    let c : AtReady later = with_it Ready l k in
    record { stop = Cut 0; exchanges = c.exchange ∷ c.exchanges; rest = c.rest; all = ap (λ (xs : List Happening). Goes Acknowledges ∷ xs) c.all }
goes later with_it (Stopping false) Tokens may l k =
    let c : AtAttention later = with_it (Stopping false) l k in
    record { tokens = suc c.tokens; exchanges = c.exchanges; rest = c.rest; all = ap (λ (xs : List Happening). Goes Tokens ∷ xs) c.all }
goes later with_it (Stopping false) Ends may l k = absurd may
goes later with_it (Stopping false) Acknowledges may l k =
    let c : AtReady later = with_it Ready l k in
    record { tokens = 0; exchanges = c.exchange ∷ c.exchanges; rest = c.rest; all = ap (λ (xs : List Happening). Goes Acknowledges ∷ xs) c.all }
goes later with_it Broken reply may l k = tt

completes : (happenings : List Happening) → With happenings
completes [] place l k = ends_now place
completes (Comes brought ∷ later) place l k = comes later (completes later) place brought l k
completes (Goes reply ∷ later) place l k = goes later (completes later) place reply l.0 l.1 k
completes (Closes ∷ later) place l k = absurd (k (subst (λ (p : ServerIsAt). place_after p later ≡ Broken) (sym l.0) (stays later)))

pub only : (happenings : List Happening) → IsLawful Ready happenings → (place_after Ready happenings ≡ Broken → ⊥) → IsFront happenings
only happenings l k =
    let c : AtReady happenings = completes happenings Ready l k in
    record { exchanges = c.exchange ∷ c.exchanges; rest = c.rest; all = c.all }

-- ---- Behind a fault

pub silent : (later : List Happening) → IsLawful Broken later → IsSilent later
silent [] l = tt
silent (Comes brought ∷ later) l = silent later l
silent (Goes Tokens ∷ later) l = absurd l.0
silent (Goes Ends ∷ later) l = absurd l.0
silent (Goes Acknowledges ∷ later) l = absurd l.0
silent (Closes ∷ later) l = silent later l.1
