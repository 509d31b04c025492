-- Noting states one after another.
use Rattle.std.proofs.Common.{◌≡◌, ◌∙◌, ℕ, Bool, List, length, sym, ap, Some, None}
use Rattle.std.specs.Prelude.{◌==◌}
use Rattle.tds_state.specs.declared.states.StateSpot.{StateSpot}
use Rattle.tds_state.specs.Ledgers.{Ledger, value_noted}
use Rattle.tds_state.specs.Sessions.{all_noted}
use Rattle.tds_state.specs.States.{Listed, behind_state, states_listed, state_spot, state_value}
use Rattle.tds_state.proofs.Listing.{listed_none, listed_some}

pub noted_more : (l new : Ledger) (ok : Bool) (bytes value behind : List ℕ) (spot : StateSpot) → state_spot bytes ≡ Some spot
    → value ≡ state_value spot bytes → behind ≡ behind_state spot bytes → new ≡ value_noted l ok spot.id value
    → all_noted new ok (states_listed behind).states ≡ all_noted l ok (states_listed bytes).states
unfolding all_noted
noted_more l new ok bytes value behind spot at value_is behind_is new_is =
    ap (λ (xs : List ℕ). all_noted new ok (states_listed xs).states) behind_is
    ∙ (ap (λ (x : Ledger). all_noted x ok (states_listed (behind_state spot bytes)).states) (new_is ∙ ap (value_noted l ok spot.id) value_is)
    ∙ sym (ap (λ (all : Listed). all_noted l ok all.states) (listed_some bytes spot at)))

pub noted_last : (l : Ledger) (ok : Bool) (bytes : List ℕ) → state_spot bytes ≡ None → l ≡ all_noted l ok (states_listed bytes).states
unfolding all_noted
noted_last l ok bytes at = sym (ap (λ (all : Listed). all_noted l ok all.states) (listed_none bytes at))

pub whole_more : (bytes behind : List ℕ) (spot : StateSpot) → state_spot bytes ≡ Some spot → behind ≡ behind_state spot bytes → (states_listed behind).is_whole ≡ (states_listed bytes).is_whole
whole_more bytes behind spot at is =
    ap (λ (xs : List ℕ). (states_listed xs).is_whole) is ∙ sym (ap (λ (all : Listed). all.is_whole) (listed_some bytes spot at))

pub whole_last : (bytes : List ℕ) (b : Bool) → state_spot bytes ≡ None → b ≡ (length bytes == 0) → b ≡ (states_listed bytes).is_whole
whole_last bytes b at is = is ∙ sym (ap (λ (all : Listed). all.is_whole) (listed_none bytes at))
