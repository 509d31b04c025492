-- The laws of one connection, of each connection of a service.
use Rattle.std.proofs.Common.{◌≡◌, ◌∙◌, ◌≤◌, ◌+◌, ℕ, false, List, [], refl, sym, ap, subst}
use Rattle.tds_service.specs.Line.{new_line, Act, Idle}
use Rattle.tds_service.specs.History.{Done, history, acts_of}
use Rattle.tds_service.specs.Service.{Call, new_service, on, steps}
use Rattle.tds_service.specs.Promises.{Paired, AsksUnawaited, FaultsUnawaited, NothingBehindCancel, attentions, acknowledgements, AsksAsOwed, LeavesNoneOwed, NamesAsHeard, nothing_known}
use Rattle.tds_service.proofs.Alone.{each_alone}
use Rattle.tds_service.specs.Acknowledging.{SettlesRight}
use Rattle.tds_service.specs.Newest.{NamesNewest}
use Rattle.tds_service.proofs.Acknowledging as acknowledging
use Rattle.tds_service.proofs.Pairing as pairing
use Rattle.tds_service.proofs.Walks as walks
use Rattle.tds_service.proofs.Owing as owing
use Rattle.tds_service.proofs.Naming as naming

lifted : {T : Type 0} (P : List (Done T) → Type 0) (max n : ℕ) (calls : List (Call T)) → ((acts : List (Act T)) → P (history new_line acts))
    → P (on n (steps (new_service max) calls))
lifted P max n calls h = subst P (sym (each_alone max n calls)) (h (acts_of (on n (steps (new_service max) calls))))

pub paired : {T : Type 0} (max n : ℕ) (calls : List (Call T)) → Paired (on n (steps (new_service max) calls))
paired max n calls = lifted Paired max n calls (λ acts. pairing.paired acts)

pub unawaited : {T : Type 0} (max n : ℕ) (calls : List (Call T)) → FaultsUnawaited false (on n (steps (new_service max) calls))
unawaited max n calls = lifted (FaultsUnawaited false) max n calls (λ acts. walks.unawaited 0 Idle new_line.heard acts)

pub asks_unawaited : {T : Type 0} (max n : ℕ) (calls : List (Call T)) → AsksUnawaited false (on n (steps (new_service max) calls))
asks_unawaited max n calls = lifted (AsksUnawaited false) max n calls (λ acts. walks.free 0 Idle new_line.heard acts)

pub after_cancel : {T : Type 0} (max n : ℕ) (calls : List (Call T)) → NothingBehindCancel (on n (steps (new_service max) calls))
after_cancel max n calls = lifted NothingBehindCancel max n calls (λ acts. walks.silent 0 Idle new_line.heard acts)

pub one_attention : {T : Type 0} (max n : ℕ) (calls : List (Call T))
    → attentions (on n (steps (new_service max) calls)) ≤ acknowledgements (on n (steps (new_service max) calls)) + 1
one_attention max n calls = lifted (λ (ds : List (Done _)). attentions ds ≤ acknowledgements ds + 1) max n calls (λ acts. walks.one_attention [] acts)

pub asks_for_reset : {T : Type 0} (max n : ℕ) (calls : List (Call T)) → AsksAsOwed nothing_known (on n (steps (new_service max) calls))
asks_for_reset max n calls = lifted (AsksAsOwed nothing_known) max n calls (λ acts. owing.owed 0 Idle new_line.heard acts)

pub answers_resets : {T : Type 0} (max n : ℕ) (calls : List (Call T)) → LeavesNoneOwed nothing_known (on n (steps (new_service max) calls))
answers_resets max n calls = lifted (LeavesNoneOwed nothing_known) max n calls (λ acts. owing.paid 0 Idle new_line.heard acts)

pub names_descriptor : {T : Type 0} (max n : ℕ) (calls : List (Call T)) → NamesAsHeard nothing_known (on n (steps (new_service max) calls))
names_descriptor max n calls = lifted (NamesAsHeard nothing_known) max n calls (λ acts. owing.naming 0 Idle new_line.heard acts)

pub names_newest : {T : Type 0} (max n : ℕ) (calls : List (Call T)) → NamesNewest 0 (on n (steps (new_service max) calls))
names_newest max n calls = lifted (NamesNewest 0) max n calls (λ acts. naming.names_newest new_line acts)

pub a_fault_stays : {T : Type 0} (max most n : ℕ) (calls others : List (Call T))
    → acts_of (on n (steps (new_service max) calls)) ≡ acts_of (on n (steps (new_service most) others))
    → on n (steps (new_service max) calls) ≡ on n (steps (new_service most) others)
a_fault_stays max most n calls others h = each_alone max n calls ∙ (ap (history new_line) h ∙ sym (each_alone most n others))

pub idle_by_acknowledgement : {T : Type 0} (max n : ℕ) (calls : List (Call T)) → SettlesRight false false (on n (steps (new_service max) calls))
idle_by_acknowledgement max n calls = lifted (SettlesRight false false) max n calls (λ acts. acknowledging.settles 0 Idle new_line.heard false acts refl)
