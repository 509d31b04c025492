-- How the ends of applications move.
use Rattle.std.proofs.Common.{◌≡◌, ◌∙◌, ◌++◌, ℕ, zero, suc, Bool, true, false, List, [], ◌∷◌, Option, Some, None, inl, refl, sym, ap, subst, slice_set, option_map, if◌then◌else◌}
use Rattle.std.proofs.lemmas.List.{set-get_or}
use Rattle.slab.specs.Slab.{Slab, Updates, get, with_value}
use Rattle.std.specs.Prelude.{Result, Ok, Err, OnOk, OnSome, IfNone, IsSome}
use Rattle.tds_packet.specs.declared.status.Reset.{Reset}
use Rattle.tds_packet.specs.declared.status.Reset.TheVariants.{Full}
use Rattle.tds_front.specs.declared.front.Front.{Front}
use Rattle.tds_front.specs.declared.stage.Stage.{Stage}
use Rattle.tds_front.specs.Bytes.{new_front}
use Rattle.tds_front.specs.declared.fault.FrontFault.{FrontFault}
use Rattle.tds_wire.specs.declared.told.Token.{Token}
use Rattle.tds_service.specs.History.{Done}
use Rattle.tds_service.specs.Line.{Answer}
use Rattle.tds_service.specs.Service.{seat_numbered}
use Rattle.tds_service.specs.Table.{answers_in}
use Rattle.tds_relay.specs.declared.application.Application.{Application}
use Rattle.tds_relay.specs.declared.pool.coming.Heard.{Heard}
use Rattle.tds_relay.specs.declared.pool.coming.What.{What}
use Rattle.tds_relay.specs.Anew.{ResetsNext, ResetsFor}
use Rattle.tds_relay.specs.declared.pool.Hold.{Hold}
use Rattle.tds_relay.specs.Pool as pool
use Rattle.tds_relay.specs.Pool.{Pool, Event, Way, find_key, turn}
use Rattle.tds_relay.specs.Fronts.{IsWhat, LetsGoFirst, Moved, MovedOn, own_end, ends_in, core_of_ends, told_by}
use Rattle.tds_relay.specs.Core.{CausesMove, Closes, Does, End, EndList, Core, HasEntered, Over, AsksFor, IfAsked, IfOpen, IfWhose, IsHere, IsQuiet, IsReset, LetsGo, MayPart, Loses, MayDoAlone, MayMove, MayMoveAll, Move, Moves, Open, Replaces, change_end, change_whose, closes, closes_for, end_at, holder, lets_go, may_park, moved, moved_all, end_told, what_in, what_of}
use Rattle.tds_relay.specs.Promises.{Each}
use Rattle.tds_relay.specs.Ties as causes
use Rattle.tds_relay.specs.Ties.{Cause, Causes, Turns}
use Rattle.tds_relay.proofs.steps.Seen.{seen_changed, seen_is, seen_kept, seen_new, seen_nobody, seen_others, seen_quit}
use Rattle.tds_relay.specs.Places.{is_closed, own_fault, own_reset, took_back}

-- ---- The ends of all, where one of them changes

-- an application is written back whose end is as it was
pub ends_kept : (s : Slab Application) (key : ℕ) (a b : Application) → Some a ≡ get s key → own_end b ≡ own_end a → ends_in (with_value s key b) ≡ ends_in s
ends_kept s key a b is same = seen_kept own_end s key a b is same

-- one's is what its slot has
pub end_is : (s : Slab Application) (key : ℕ) → end_at (ends_in s) key ≡ option_map own_end (get s key)
end_is s key = seen_is own_end s key

-- of one that isn't there none moves
pub ends_nobody : (s : Slab Application) (key : ℕ) (by : End → End) → get s key ≡ None → ends_in s ≡ change_end key by (ends_in s)
ends_nobody s key by none = sym (seen_nobody own_end s key by none)

-- one is written back whose end has moved
pub ends_moved : (s : Slab Application) (key : ℕ) (a b : Application) (by : End → End) → Some a ≡ get s key → own_end b ≡ by (own_end a) → ends_in (with_value s key b) ≡ change_end key by (ends_in s)
ends_moved s key a b by is moves = seen_changed own_end s key a b by is moves

-- the same behind two steps; or what it is behind the first
pub ends_more : {A E : Type 0} (r : Result A E) (p q s : EndList) → OnOk r (p ≡ q) → q ≡ s → OnOk r (p ≡ s)
ends_more (Ok x) p q s h k = h ∙ k
ends_more (Err e) p q s h k = tt

-- an application is there no more
pub ends_quit : (s s1 : Slab Application) (key : ℕ) (r : Option Application) → r ≡ get s key → OnSome r (s1.slots ≡ slice_set s.slots key None) → IfNone r (s1 ≡ s)
    → ends_in s1 ≡ slice_set (ends_in s) key None
ends_quit s s1 key r is slots absent = seen_quit own_end s s1 key r is slots absent

-- an application has come
pub ends_entered : (s s1 : Slab Application) (size key : ℕ) (a : Application) → get s key ≡ None → Updates s s1 key (Some a) → own_end a ≡ Open (new_front size) false None → HasEntered key (ends_in s) (ends_in s1)
ends_entered s s1 size key a none updates is = record {
  was_free = end_is s key ∙ ap (option_map own_end) none;
  size = size;
  begins = seen_new own_end s s1 key a updates ∙ ap Some is;
  others_stay = λ other apart. seen_others own_end s s1 key other a updates apart;
}

-- ---- One end that changes

pub changed_at : (es : EndList) (key : ℕ) (by : End → End) → end_at (change_end key by es) key ≡ option_map by (end_at es key)
changed_at [] key by = refl
changed_at (e ∷ es) zero by = refl
changed_at (e ∷ es) (suc key) by = changed_at es key by

set_both : (es : EndList) (key : ℕ) (o p : Option End) → slice_set (slice_set es key o) key p ≡ slice_set es key p
set_both [] key o p = refl
set_both (e ∷ es) zero o p = refl
set_both (e ∷ es) (suc key) o p = ap (λ (xs : EndList). e ∷ xs) (set_both es key o p)

map_both : (f g : End → End) (o : Option End) → option_map f (option_map g o) ≡ option_map (λ e. f (g e)) o
map_both f g None = refl
map_both f g (Some e) = refl

map_same : (f g : End → End) → ((e : End) → f e ≡ g e) → (o : Option End) → option_map f o ≡ option_map g o
map_same f g same None = refl
map_same f g same (Some e) = ap Some (same e)

pub changed_both : (es : EndList) (key : ℕ) (f g : End → End) → change_end key f (change_end key g es) ≡ change_end key (λ e. f (g e)) es
changed_both es key f g =
    set_both es key (option_map g (end_at es key)) (option_map f (end_at (change_end key g es) key))
    ∙ ap (λ (o : Option End). slice_set es key o) (ap (option_map f) (changed_at es key g) ∙ map_both f g (end_at es key))

pub changed_alike : (es : EndList) (key : ℕ) (f g : End → End) → ((e : End) → f e ≡ g e) → change_end key f es ≡ change_end key g es
changed_alike es key f g same = ap (λ (o : Option End). slice_set es key o) (map_same f g same (end_at es key))

map_id : (f : End → End) → ((e : End) → f e ≡ e) → (o : Option End) → option_map f o ≡ o
map_id f same None = refl
map_id f same (Some e) = ap Some (same e)

pub changed_not : (es : EndList) (key : ℕ) (f : End → End) → ((e : End) → f e ≡ e) → es ≡ change_end key f es
changed_not es key f same = sym (ap (λ (o : Option End). slice_set es key o) (map_id f same (end_at es key)) ∙ set-get_or es key None)

-- one that is over or isn't there
open_over : (P : Stage → Type 0) (why : Option FrontFault) (o : Option End) → IfOpen P (option_map (closes_for why) o)
open_over P why None = tt
open_over P why (Some (Open front withdrawn asks)) = tt
open_over P why (Some (Over was)) = tt

pub open_closed : (P : Stage → Type 0) (es : EndList) (key : ℕ) → IfOpen P (end_at (change_end key closes es) key)
open_closed P es key = subst (IfOpen P) (sym (changed_at es key closes)) (open_over P None (end_at es key))

asks_over : (reset : Reset) (why : Option FrontFault) (o : Option End) → AsksFor reset (option_map (closes_for why) o)
asks_over reset why None = tt
asks_over reset why (Some (Open front withdrawn asks)) = tt
asks_over reset why (Some (Over was)) = tt

-- who is to be closed may be parted
closed_parts : (why : Option FrontFault) (d : Pool) (es : EndList) (key : ℕ) → MayPart (core_of_ends d (change_end key (closes_for why) es)) key
closed_parts why d es key =
    let at = sym (changed_at es key (closes_for why)) in
    (subst (IfOpen IsHere) at (open_over IsHere why (end_at es key)), inl (subst (AsksFor Full) at (asks_over Full why (end_at es key))))

-- and let one go, whether it holds any
pub closed_lets : (why : Option FrontFault) (d : Pool) (es : EndList) (key : ℕ) → MayPart (core_of_ends d (change_end key (closes_for why) es)) key × IfOpen (λ (stage : Stage). IsSome (find_key key d.holds)) (end_at (change_end key (closes_for why) es) key)
closed_lets why d es key =
    (closed_parts why d es key, subst (IfOpen (λ (stage : Stage). IsSome (find_key key d.holds))) (sym (changed_at es key (closes_for why))) (open_over (λ (stage : Stage). IsSome (find_key key d.holds)) why (end_at es key)))

-- wherever its end is
pub open_any : (P : Type 0) (o : Option End) → P → IfOpen (λ (stage : Stage). P) o
open_any P None p = tt
open_any P (Some (Open front withdrawn asks)) p = p
open_any P (Some (Over why)) p = tt

-- one that asks for this as its request has begun
pub asks_begun : (asked : Option Reset) (es : EndList) (key : ℕ) (front : Front) (withdrawn : Bool) → IfAsked asked (end_at (slice_set es key (Some (Open front withdrawn asked))) key)
asks_begun asked [] key front withdrawn = tt
asks_begun asked (x ∷ xs) zero front withdrawn = refl
asks_begun asked (x ∷ xs) (suc key) front withdrawn = asks_begun asked xs key front withdrawn

-- one that asks for none
pub none_reset : (d : Pool) (key : ℕ) (o : Option End) → IfAsked None o → IsReset d key o
none_reset d key None e = tt
none_reset d key (Some (Open front withdrawn asks)) e = subst (λ (r : Option Reset). ResetsFor r (find_key key d.holds) d) (sym e) tt
none_reset d key (Some (Over why)) e = tt

unheld_for : (d : Pool) (asks : Option Reset) → ResetsFor asks None d
unheld_for d None = tt
unheld_for d (Some reset) = tt

-- or holds nothing
pub unheld_reset : (d : Pool) (key : ℕ) (o : Option End) → find_key key d.holds ≡ None → IsReset d key o
unheld_reset d key None e = tt
unheld_reset d key (Some (Open front withdrawn asks)) e = subst (λ (h : Option Hold). ResetsFor asks h d) (sym e) (unheld_for d asks)
unheld_reset d key (Some (Over why)) e = tt

-- or what it asks for is done
pub reset_there : (d : Pool) (key number : ℕ) (asks : Option Reset) (hold : Hold) (o : Option End) → find_key key d.holds ≡ Some hold → hold.number ≡ number → IfAsked asks o
    → ((reset : Reset) → asks ≡ Some reset → ResetsNext reset (seat_numbered number d.service.seats)) → IsReset d key o
reset_there d key number asks hold None its is asked resets = tt
reset_there d key number None hold (Some (Open front withdrawn was)) its is asked resets = none_reset d key (Some (Open front withdrawn was)) asked
reset_there d key number (Some reset) hold (Some (Open front withdrawn was)) its is asked resets =
    let there : ResetsNext reset (seat_numbered hold.number d.service.seats) = subst (λ (n : ℕ). ResetsNext reset (seat_numbered n d.service.seats)) (sym is) (resets reset refl) in
    let held : ResetsFor (Some reset) (find_key key d.holds) d = subst (λ (h : Option Hold). ResetsFor (Some reset) h d) (sym its) there in
    subst (λ (r : Option Reset). ResetsFor r (find_key key d.holds) d) (sym asked) held
reset_there d key number asks hold (Some (Over why)) its is asked resets = tt

asked_if : (b : Bool) (why : Option FrontFault) (front : Front) (withdrawn : Bool) (asks : Option Reset) → IfAsked asks (Some (if b then Over why else Open front withdrawn asks))
asked_if true why front withdrawn asks = tt
asked_if false why front withdrawn asks = refl

pub asked_there : (s : Slab Application) (key : ℕ) (a : Application) → Some a ≡ get s key → IfAsked (own_reset a) (end_at (ends_in s) key)
asked_there s key a is = subst (IfAsked (own_reset a)) (sym (end_is s key ∙ ap (option_map own_end) (sym is))) (asked_if (is_closed a) (own_fault a) a.front (took_back a) (own_reset a))

-- ---- Moves, one behind the other

moved_both : (h : Core) (xs ys : List Move) → moved_all h (xs ++ ys) ≡ moved_all (moved_all h xs) ys
moved_both h [] ys = refl
moved_both h (x ∷ xs) ys = moved_both (moved h x) xs ys

may_both : (h : Core) (xs ys : List Move) → MayMoveAll h xs → MayMoveAll (moved_all h xs) ys → MayMoveAll h (xs ++ ys)
may_both h [] ys m n = n
may_both h (x ∷ xs) ys m n = (m.0, may_both (moved h x) xs ys m.1 n)

pub each_both : {X : Type 0} (P : X → Type 0) (xs ys : List X) → Each P xs → Each P ys → Each P (xs ++ ys)
each_both P [] ys h k = k
each_both P (x ∷ xs) ys h k = (h.0, each_both P xs ys h.1 k)

pub moves_both : (by : Cause) (a b c : Core) → Moves by a b → Moves by b c → Moves by a c
moves_both by a b c m n = record {
  moves = m.moves ++ n.moves;
  are = moved_both a m.moves n.moves ∙ ap (λ (h : Core). moved_all h n.moves) m.are ∙ n.are;
  may = may_both a m.moves n.moves m.may (subst (λ (h : Core). MayMoveAll h n.moves) (sym m.are) n.may);
  caused = each_both (CausesMove by) m.moves n.moves m.caused n.caused;
  quiet = each_both IsQuiet m.moves n.moves m.quiet n.quiet;
}

pub no_moves : (by : Cause) (h : Core) → Moves by h h
no_moves by h = record { moves = []; are = refl; may = tt; caused = tt; quiet = tt }

pub moves_one : (by : Cause) (from old : Core) (move : Move) → MayMove old move → CausesMove by move → IsQuiet move → Moves by from old → Moves by from (moved old move)
moves_one by from old move may caused quiet m =
    moves_both by from old (moved old move) m (record { moves = move ∷ []; are = refl; may = (may, tt); caused = (caused, tt); quiet = (quiet, tt) })

pub same_core : (d d1 : Pool) (es es1 : EndList) → d1 ≡ d → es1 ≡ es → core_of_ends d es ≡ core_of_ends d1 es1
same_core d d1 es es1 same ends = ap (λ (x : Pool). core_of_ends x es) (sym same) ∙ ap (λ (x : EndList). core_of_ends d1 x) (sym ends)

-- to the same core
pub moves_same : (by : Cause) (from : Core) (d d1 : Pool) (es es1 : EndList) → d1 ≡ d → es1 ≡ es → Moves by from (core_of_ends d es) → Moves by from (core_of_ends d1 es1)
moves_same by from d d1 es es1 same ends m = subst (Moves by from) (same_core d d1 es es1 same ends) m

-- and on from it
pub moved_same : (by : Cause) (d d1 : Pool) (es es1 : EndList) (new : Core) → d1 ≡ d → es1 ≡ es → Moved by (core_of_ends d1 es1) new → Moved by (core_of_ends d es) new
moved_same by d d1 es es1 new same ends m = λ from h. m from (moves_same by from d d1 es es1 same ends h)

-- where a call answers
pub moves_ok : {A E : Type 0} (r : Result A E) (by : Cause) (old new : Core) → OnOk r (Moved by old new) → OnOk r (Moves by old new)
moves_ok (Ok x) by old new m = m old (no_moves by old)
moves_ok (Err e) by old new m = tt

-- ---- Each as the code does it

pub moves_does : (by : Cause) (from : Core) (d d1 : Pool) (es es1 : EndList) (event : Event) (before after : List ℕ)
    → Turns event d d1 before after → MayDoAlone (core_of_ends d es) event → Causes by event → es1 ≡ es → Moves by from (core_of_ends d es) → Moves by from (core_of_ends d1 es1)
moves_does by from d d1 es es1 event before after t may cause ends m =
    subst (Moves by from) (same_core (turn d event).pool d1 es es1 t.pool_is ends) (moves_one by from (core_of_ends d es) (Does event) may cause tt m)

pub moves_closes : (by : Cause) (from : Core) (d d1 : Pool) (es es1 : EndList) (key : ℕ) → d1 ≡ d → es1 ≡ change_end key closes es → Moves by from (core_of_ends d es) → Moves by from (core_of_ends d1 es1)
moves_closes by from d d1 es es1 key same ends m =
    subst (Moves by from) (same_core d d1 (change_end key closes es) es1 same ends) (moves_one by from (core_of_ends d es) (Closes key) tt tt tt m)

pub moves_loses : (by : Cause) (from : Core) (d d1 : Pool) (es es1 : EndList) (number : ℕ) (key : Option ℕ) (before after : List ℕ)
    → Turns (pool.Loses number) d d1 before after → key ≡ holder d number → es1 ≡ change_whose key closes es → Moves by from (core_of_ends d es) → Moves by from (core_of_ends d1 es1)
moves_loses by from d d1 es es1 number key before after t its ends m =
    subst (Moves by from)
    (same_core (turn d (pool.Loses number)).pool d1 (change_whose (holder d number) closes es) es1 t.pool_is (ends ∙ ap (λ (o : Option ℕ). change_whose o closes es) its))
    (moves_one by from (core_of_ends d es) (Loses number) tt tt tt m)

pub lets_go_first : (key : ℕ) (d d1 : Pool) (es es1 : EndList) (new : Core) (gives : Bool) (way : Way) (before after : List ℕ)
    → Turns (pool.Leaves key gives way) d d1 before after → es1 ≡ change_end key lets_go es → MovedOn (core_of_ends d1 es1) new → LetsGoFirst key (core_of_ends d es) new
lets_go_first key d d1 es es1 new gives way before after t ends on = (
  gives,
  way,
  λ by. moved_same by (turn d (pool.Leaves key gives way)).pool d1 (change_end key lets_go es) es1 new t.pool_is ends (on by),
)

pub moves_lets_go : (key : ℕ) (from : Core) (d : Pool) (es : EndList) (new : Core) → MayPart (core_of_ends d es) key × IfOpen (λ (stage : Stage). IsSome (find_key key d.holds)) (end_at es key) → LetsGoFirst key (core_of_ends d es) new
    → Moves (causes.Application key) from (core_of_ends d es) → Moves (causes.Application key) from new
moves_lets_go key from d es new here l m =
    l.2 (causes.Application key) from (moves_one (causes.Application key) from (core_of_ends d es) (LetsGo key false l.0 l.1) here refl tt m)

pub moves_parks : (key : ℕ) (from : Core) (d : Pool) (es : EndList) (new : Core) → may_park (core_of_ends d es) key ≡ true → LetsGoFirst key (core_of_ends d es) new
    → Moves (causes.Parking key) from (core_of_ends d es) → Moves (causes.Parking key) from new
moves_parks key from d es new rests l m =
    l.2 (causes.Parking key) from (moves_one (causes.Parking key) from (core_of_ends d es) (LetsGo key true l.0 l.1) rests refl tt m)

pub moves_replaces : (number key : ℕ) (from : Core) (d d1 : Pool) (es es1 : EndList) (before after : List ℕ)
    → Turns (pool.Loses number) d d1 before after → Some key ≡ holder d number → IfWhose (MayPart (core_of_ends d es)) (holder d number) → es1 ≡ change_end key lets_go es
    → Moves (causes.Connection number) from (core_of_ends d es) → Moves (causes.Connection number) from (core_of_ends d1 es1)
moves_replaces number key from d d1 es es1 before after t its here ends m =
    subst (Moves (causes.Connection number) from)
    (same_core (turn d (pool.Loses number)).pool d1 (change_whose (holder d number) lets_go es) es1 t.pool_is (ends ∙ ap (λ (o : Option ℕ). change_whose o lets_go es) its))
    (moves_one (causes.Connection number) from (core_of_ends d es) (Replaces number) here refl tt m)

pub gone_stays : (es : EndList) (key : ℕ) (by : End → End) → change_end key by (slice_set es key None) ≡ slice_set es key None
gone_stays [] key by = refl
gone_stays (e ∷ es) zero by = refl
gone_stays (e ∷ es) (suc key) by = ap (λ (xs : EndList). e ∷ xs) (gone_stays es key by)

-- ---- As the pool answers it

pub what_answers : (a : Answer) (dones : List (Done Token)) → answers_in dones ≡ a ∷ [] → what_of a ≡ what_in dones
what_answers a [] e = absurd (let u : ⊥ = cc in u)
what_answers a (x ∷ xs) e = let same : a ≡ x.answer = cc in ap what_of same

-- what came of it is this, where it is an application's
pub is_what : (who : Option ℕ) (what said : What) (dones : List (Done Token)) → ((key : ℕ) → who ≡ Some key → said ≡ what) → what ≡ what_in dones → IsWhat who said dones
is_what None what said dones same is = tt
is_what (Some key) what said dones same is = same key refl ∙ is

pub nobodys_what : (who : Option ℕ) (what : What) (dones : List (Done Token)) → who ≡ None → IsWhat who what dones
nobodys_what None what dones nobody = tt
nobodys_what (Some key) what dones nobody = absurd (let u : ⊥ = cc in u)

-- ---- What is heard

-- as code tells it
pub told_as : (who : Option ℕ) (key : ℕ) (what said : What) (es es1 : EndList) → who ≡ Some key → what ≡ said → es1 ≡ change_end key (end_told said) es → es1 ≡ change_whose who (end_told what) es
told_as who key what said es es1 its is ends =
    ends ∙ ap (λ (x : What). change_end key (end_told x) es) (sym is) ∙ ap (λ (o : Option ℕ). change_whose o (end_told what) es) (sym its)

pub told_nobody : (who : Option ℕ) (what : What) (es : EndList) → who ≡ None → es ≡ change_whose who (end_told what) es
told_nobody who what es nobody = ap (λ (o : Option ℕ). change_whose o (end_told what) es) (sym nobody)

pub told_some : (o : Option Heard) (heard : Heard) (es : EndList) → o ≡ Some heard → change_whose heard.key (end_told heard.what) es ≡ told_by o es
told_some o heard es is = ap (λ (x : Option Heard). told_by x es) (sym is)

pub told_none : (o : Option Heard) (es : EndList) → o ≡ None → es ≡ told_by o es
told_none o es is = ap (λ (x : Option Heard). told_by x es) (sym is)

pub told_whose : (who : Option ℕ) (what : What) (dones : List (Done Token)) (es : EndList) → IsWhat who what dones → change_whose who (end_told (what_in dones)) es ≡ change_whose who (end_told what) es
told_whose None what dones es is = refl
told_whose (Some key) what dones es is = ap (λ (w : What). change_end key (end_told w) es) (sym is)
