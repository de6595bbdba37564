-- The costs of activities one after another, and what they make of the outlook.
use Rattle.std.proofs.Common.{◌≡◌, ℕ, ◌+◌, ◌<◌, ◌≤◌, ◌^◌, List, [], ◌∷◌, ◌++◌, length, slice_index, refl, sym, ap, ◌∙◌, subst, arith}
use Rattle.std.proofs.lemmas.List.{length_push}
use Rattle.pc_model.specs.declared.limits.TheConstants.{MAX_ACTIVITIES}
use Rattle.pc_model.specs.Cost.{activity_cost, cost_of}
use Rattle.pc_model.specs.Network.{Network}
use Rattle.pc_model.specs.Pieces.{knees_of}
use Rattle.pc_model.specs.Sums.{sum_to}
use Rattle.pc_model.proofs.Sums.{sum_to-most, sum_to-same}
use Rattle.pc_crash.specs.Priced.{PricedNetwork, knees_in}
use Rattle.pc_crash.specs.declared.crash_net.TheConstants.{MAX_ACTIVITY_COST}
use Rattle.pc_project.specs.Project.{Project}
use Rattle.pc_rollup.specs.figures.Outlook.{Outlook, IsOutlookOf, IsWholeOutlook, amounts_at}
use Rattle.pc_rollup.specs.inside.figures.Outlook.{HasWholeAtTop}
use Rattle.pc_rollup.proofs.lemmas.figures.PushLaws.{each_more}
use Rattle.pc_rollup.proofs.lemmas.figures.OutlookLaws.{outlook_alike}
use Rattle.pc_reports.specs.OutlookText.{IsOutlook, cost_at}
use Rattle.pc_reports.specs.inside.OutlookText.{AreCostsAt, AreCostsIn, IsPricedNetOf, TellsTop}

-- the costs of the first n activities, none of them too great
pub record AreCostsTo (net : PricedNetwork) (durations : List ℕ) (n : ℕ) (costs : List ℕ) : Type 0 where
  pub are : AreCostsIn net durations n costs
  pub small : (a : ℕ) → a < n → slice_index costs a ≤ MAX_ACTIVITY_COST

-- one cost more
pub costs_more : (net : PricedNetwork) (durations : List ℕ) (n : ℕ) (costs more : List ℕ) (next : ℕ) → AreCostsTo net durations n costs →
    more ≡ costs ++ next ∷ [] → next ≡ activity_cost net.terms (knees_in net) n (slice_index durations n) → next ≤ MAX_ACTIVITY_COST →
    AreCostsTo net durations (n + 1) more
costs_more net durations n costs more next so_far pushed is bound =
    subst (AreCostsTo net durations (n + 1)) (sym pushed) (record {
      are = record {
        one_each = omega (arith, length_push costs next, so_far.are.one_each);
        each = each_more (λ a x. x ≡ activity_cost net.terms (knees_in net) a (slice_index durations a)) costs next 0 n so_far.are.one_each so_far.are.each is;
      };
      small = each_more (λ a x. x ≤ MAX_ACTIVITY_COST) costs next 0 n so_far.are.one_each so_far.small bound;
    })

-- together they fit
pub costs_fit : (net : PricedNetwork) (durations : List ℕ) (n : ℕ) (costs : List ℕ) → n ≤ MAX_ACTIVITIES → AreCostsTo net durations n costs → sum_to (length costs) (slice_index costs) ≤ 2 ^ 60
costs_fit net durations n costs few so_far =
    let most = sum_to-most (length costs) MAX_ACTIVITY_COST (slice_index costs) (λ a lt. so_far.small a (omega (arith, so_far.are.one_each))) in
    omega (arith, so_far.are.one_each)

-- the costs in a project's network are the project's
pub costs_told : (project : Project) (net : PricedNetwork) (durations costs : List ℕ) → IsPricedNetOf project net →
    AreCostsIn net durations (length net.network.arcs) costs →
    AreCostsAt project durations (length project.network.arcs) costs
costs_told project net durations costs of_project are =
    let same = ap (λ (n : Network). length n.arcs) of_project.network in
    record {
      one_each = are.one_each ∙ same;
      each = λ a lt. are.each a (omega (arith, same)) ∙ rw (of_project.terms, of_project.pieces) refl;
    }

-- the outlook at these costs is that at these durations
pub outlook_told : (project : Project) (durations costs : List ℕ) (outlook : Outlook) →
    length project.places ≡ length project.network.arcs → AreCostsAt project durations (length project.network.arcs) costs →
    IsOutlookOf project.tree project.places (slice_index costs) project.accounts project.entries outlook →
    IsOutlook project durations outlook
outlook_told project durations costs outlook each are is =
    outlook_alike project.tree project.places (slice_index costs) (cost_at project durations) project.accounts project.entries outlook (λ a lt. are.each a (omega (arith, each))) is

-- the top has all costs
pub top_told : (project : Project) (durations costs : List ℕ) (outlook : Outlook) → length project.places ≡ length project.network.arcs →
    length project.terms ≡ length project.network.arcs → AreCostsAt project durations (length project.network.arcs) costs →
    HasWholeAtTop project.tree project.places (slice_index costs) project.accounts project.entries outlook →
    TellsTop project durations outlook
top_told project durations costs outlook each terms are has = λ top is_top.
    subst (λ (c : ℕ). IsWholeOutlook project.places project.accounts project.entries c (amounts_at outlook.amounts top).outlook) same (has top is_top)
  where
    same : sum_to (length project.places) (slice_index costs) ≡ cost_of project.terms (knees_of project.terms project.pieces) (slice_index durations)
    same =
        ap (λ (n : ℕ). sum_to n (slice_index costs)) (each ∙ sym terms)
        ∙ sum_to-same (length project.terms) (slice_index costs) (cost_at project durations) (λ a lt. are.each a (omega (arith, terms)))
