-- States of a board: they depend on its times and flows alone, and while they are above the all-crash length their flows
-- are small.
use Rattle.std.proofs.Common.{◌≡◌, ℕ, ◌-◌, ◌^◌, ◌<◌, ◌≤◌, List, length, sym, ◌∙◌, ap, subst, inl, inr, arith}
use Rattle.std.proofs.lemmas.Bool.{cases_lt}
use Rattle.pc_model.specs.declared.Term.{Term}
use Rattle.pc_model.specs.declared.limits.TheConstants.{MAX_ACTIVITIES}
use Rattle.pc_model.specs.Walk.{from_of, to_of}
use Rattle.pc_model.specs.Network.{Network, IsInRange, IsOrder}
use Rattle.pc_model.specs.Schedule.{gap_of, IsAllCrashLength}
use Rattle.pc_model.specs.Pieces.{ArePieces}
use Rattle.pc_model.specs.Cost.{Knees, IsPriced}
use Rattle.pc_laws.specs.Stair.{stair_of, IsOnStair}
use Rattle.pc_laws.specs.Steps.{IsStairOptimal}
use Rattle.pc_laws.proofs.Flows.Bounds.{last_slopes-small}
use Rattle.pc_laws.proofs.Stairs.StairStates.{stair-value_above_crash, stair-units_bounded}
use Rattle.pc_crash.specs.Priced.{PricedNetwork, knees_in, ArePiecesWithinLimits}
use Rattle.pc_crash.specs.Terms.{AreWithinLimits}
use Rattle.pc_flow.specs.board.Sheets.{Sheet, rank_of}
use Rattle.pc_flow.specs.inside.board.Sheets.{queue_of}
use Rattle.pc_flow.specs.inside.board.Labelling.{HasStep}
use Rattle.pc_flow.specs.inside.search.Searches.{IsSearch}
use Rattle.pc_flow.specs.search.Labelling.{length_at, slopes_in}
use Rattle.pc_flow.specs.inside.search.Labelling.{slope_at, IsStateWith}

-- what holds between two labellings holds of times that are alike
pub times-alike : (net : Network) (terms : List Term) (knees : Knees) (limit : ℕ) (time later along : ℕ → ℕ) (value : ℕ) → IsInRange net
    → ((e : ℕ) → e < net.events → time e ≡ later e)
    → IsStairOptimal net terms knees limit time along value → IsStairOptimal net terms knees limit later along value
times-alike net terms knees limit time later along value range same optimal = record {
  starts = sym (same net.start range.start_in) ∙ optimal.starts;
  ends = sym (same net.end range.end_in) ∙ optimal.ends;
  ahead = λ a known. omega (arith, optimal.ahead a known, from a known, to a known);
  on_stair = λ a known. subst (λ n. IsOnStair (stair_of terms knees a) n (along a)) (gap a known) (optimal.on_stair a known);
  conserved = optimal.conserved;
  leaves = optimal.leaves;
} where
  from : (a : ℕ) → a < length net.arcs → time (from_of net.arcs a) ≡ later (from_of net.arcs a)
  from a known = same (from_of net.arcs a) (range.from_in a known)

  to : (a : ℕ) → a < length net.arcs → time (to_of net.arcs a) ≡ later (to_of net.arcs a)
  to a known = same (to_of net.arcs a) (range.to_in a known)

  gap : (a : ℕ) → a < length net.arcs → gap_of net.arcs time a ≡ gap_of net.arcs later a
  gap a known = ap (λ n. n - time (from_of net.arcs a)) (to a known) ∙ ap (λ n. later (to_of net.arcs a) - n) (from a known)

-- a state with a length and a value is one with its own
pub state-own : (net : PricedNetwork) (s : Sheet) (limit value : ℕ) → IsStateWith net s limit value → IsStateWith net s (length_at net s) (slope_at net s)
state-own net s limit value state =
    subst (λ n. IsStateWith net s n (slope_at net s)) (sym state.ends) (subst (λ n. IsStateWith net s limit n) (sym state.leaves) state)

-- what holds of a priced network
pub record IsKnown (net : PricedNetwork) : Type 0 where
  pub priced : IsPriced net.network net.terms (knees_in net)
  pub limits : AreWithinLimits net.terms
  pub pieces : ArePieces net.terms net.pieces
  pub piece_limits : ArePiecesWithinLimits net.pieces

module _ (net : PricedNetwork) (known : IsKnown net) where
  -- the sum of the last slopes is small
  pub slopes-small : length net.network.arcs ≤ MAX_ACTIVITIES → slopes_in net < 10 ^ 13
  slopes-small few =
      last_slopes-small net.network net.terms net.pieces known.priced.terms_fit known.pieces known.limits.gentle known.piece_limits.gentle few

  -- a state above the all-crash length has a value that is at most the sum of the last slopes
  pub value-bounded : (order : List ℕ) → IsOrder net.network order → (limit shortest value : ℕ) (time along : ℕ → ℕ) → IsStairOptimal net.network net.terms (knees_in net) limit time along value
      → IsAllCrashLength net.network net.terms shortest → shortest < limit → value ≤ slopes_in net
  value-bounded order ordered limit shortest value time along state longest above =
      stair-value_above_crash net.network net.terms (knees_in net) known.priced limit time along value state order shortest ordered longest above

  -- and no activity has more flow than the value
  pub flow-bounded : (order : List ℕ) → IsOrder net.network order → (limit value : ℕ) (time along : ℕ → ℕ) → IsStairOptimal net.network net.terms (knees_in net) limit time along value
      → (a : ℕ) → a < length net.network.arcs → along a ≤ value
  flow-bounded order ordered limit value time along state a inside =
      stair-units_bounded net.network net.terms (knees_in net) known.priced limit time along value state order ordered a inside

-- an end with a label has it by a step
pub end-stepped : (net : PricedNetwork) (s : Sheet) → IsSearch net s → 0 < rank_of s net.network.end → HasStep s net.network.end
end-stepped net s search labelled =
    elim (cases_lt 1 (rank_of s net.network.end)) [
      | inl has ↦ has
      | inr first ↦
          let place : rank_of s net.network.end - 1 ≡ 0 = omega (arith, labelled, first) in
          let known : net.network.end < s.events = omega (arith, search.in_range.end_in, search.fits.events) in
          let same : net.network.start ≡ net.network.end =
          sym search.start ∙ ap (queue_of s) (sym place) ∙ search.ranked.queued net.network.end known labelled in
          absurd (search.in_range.apart same)
    ]
