-- How far activities are, one further.
use Rattle.std.proofs.Common.{◌≡◌, ◌<◌, ◌+◌, ℕ, List, [], ◌∷◌, ◌++◌, length, sym, ap, ◌∙◌, subst, ⊎_elim, arith}
use Rattle.std.specs.Prelude.{ℤ}
use Rattle.std.proofs.lemmas.Bool.{cases_lt}
use Rattle.std.proofs.lemmas.List.{get_or_append_left, get_or_push, length_push}
use Rattle.pc_accounts.specs.status.Statuses.{IsStateOf}
use Rattle.pc_accounts.specs.declared.status.StatusRow.{StatusRow}
use Rattle.pc_times.specs.Forecast.{IsSmallState, state_at}
use Rattle.pc_times.specs.declared.forecasts.ActState.{ActState}
use Rattle.pc_times.specs.declared.forecasts.ActState.TheVariants.{Waiting}
use Rattle.pc_project.specs.Figures.{AreStatesOf}

-- what holds of the states so far and of one more
with_one_more : (P : ℕ → ActState → Type 0) (n : ℕ) (states : List ActState) (state : ActState) → length states ≡ n →
    ((a : ℕ) → a < n → P a (state_at states a)) → P n state → (a : ℕ) → a < n + 1 → P a (state_at (states ++ state ∷ []) a)
with_one_more P n states state count before here a below =
    ⊎_elim
    (λ early. subst (P a) (sym (get_or_append_left states (state ∷ []) Waiting a (omega (arith, early, count)))) (before a early))
    (λ late.
    let last : a ≡ n = omega (arith, below, late) in
    subst (λ b. P b (state_at (states ++ state ∷ []) b)) (sym last) (subst (P n) (sym (get_or_push states state Waiting n count)) here))
    (cases_lt a n)

pub AreStatesOf-none : (start : ℤ) (statuses : List StatusRow) (states : List ActState) → states ≡ [] → AreStatesOf start statuses 0 states
AreStatesOf-none start statuses states none = record {
  one_each = ap length none;
  each = λ a below. absurd (omega (arith, below));
  small = λ a below. absurd (omega (arith, below));
}

pub AreStatesOf-push : (start : ℤ) (statuses : List StatusRow) (n : ℕ) (states : List ActState) (state : ActState) →
    AreStatesOf start statuses n states → IsStateOf start statuses n state → IsSmallState state →
    AreStatesOf start statuses (n + 1) (states ++ state ∷ [])
AreStatesOf-push start statuses n states state are is small = record {
  one_each = length_push states state ∙ ap (λ k. k + 1) are.one_each;
  each = with_one_more (IsStateOf start statuses) n states state are.one_each are.each is;
  small = with_one_more (λ a. IsSmallState) n states state are.one_each are.small small;
}
