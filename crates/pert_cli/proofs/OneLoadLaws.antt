-- A project has one report of loads for each number of days in a period.
use Rattle.std.proofs.Common.{◌≡◌, ℕ, zero, suc, ◌<◌, List, [], ◌∷◌, ◌++◌, length, slice_index, refl, sym, ap, ◌∙◌, subst, arith}
use Rattle.std.specs.Prelude.{pos, slice_index_or, codes}
use Rattle.pc_edges.specs.Texts.{texts_to}
use Rattle.pc_load.specs.LoadText.{IsLoadText, amount_row, amount_rows, head_line, item_rows, load_text, period_row, resource_rows}
use Rattle.pc_load.specs.Loading.{IsLoading, Loading, cost_part, load_at, load_part, periods_for, period_width}
use Rattle.pc_load.specs.Table.{Table, amount_in}
use Rattle.pc_model.proofs.Walks.WalkLaws.{greatest_unique}
use Rattle.pc_project.proofs.SoundLaws.{HasSoundParts}
use Rattle.pc_project.specs.Project.{Project}
use Rattle.pc_reports.proofs.OneTextLaws.{one_early}
use Rattle.pc_rollup.proofs.SumLaws.{IsSumOver-only}
use Rattle.pc_rollup.specs.Sums.{IsSumOver}
use Rattle.pc_wbs.proofs.OnePreorderLaws.{one_preorder}
use Rattle.pc_wbs.specs.Climb.{IsBelow}

-- texts that are the same one by one are the same together
texts_same : (n : ℕ) (f g : ℕ → List ℕ) → ((k : ℕ) → k < n → f k ≡ g k) → texts_to n f ≡ texts_to n g
texts_same zero f g same = refl
texts_same (suc n) f g same = ap (λ t. t ++ f n) (texts_same n f g (λ k less. same k (omega (arith, less)))) ∙ ap (λ t. texts_to n g ++ t) (same n (omega arith))

-- the rows of one row of two tables that say the same of it
rows_same : (a b : Table) (code : List ℕ) (x : ℕ) → a.periods ≡ b.periods → ((k : ℕ) → k < b.periods → amount_in a x k ≡ amount_in b x k)
    → amount_rows a code x ≡ amount_rows b code x
rows_same a b code x periods same =
    ap (λ n. texts_to n (λ k. amount_row code k (amount_in a x k))) periods
    ∙ texts_same b.periods (λ k. amount_row code k (amount_in a x k)) (λ k. amount_row code k (amount_in b x k)) (λ k less. ap (amount_row code k) (same k less))

-- the text by its parts
abbrev made_of : Project → ℕ → ℕ → List ℕ → List ℕ → List ℕ
made_of project days periods items resources =
    head_line project.heading.code days
    ++ texts_to periods (period_row project days)
    ++ (codes "ITEMS" ++ 10 ∷ [])
    ++ items
    ++ (codes "RESOURCES" ++ 10 ∷ [])
    ++ resources

text_of_parts : (project : Project) (loading : Loading)
    → load_text project loading ≡ made_of project loading.days loading.items.periods (texts_to (length loading.order) (item_rows project loading))
    (texts_to (length project.resources) (resource_rows project loading))
unfolding load_text
text_of_parts project loading = refl

module _ (project : Project) (days : ℕ) (parts : HasSoundParts project) (s t : Loading) (x : IsLoading project days s) (y : IsLoading project days t) where
  one_times : x.times ≡ y.times
  one_times = one_early project.network project.expected x.times y.times x.early y.early

  one_count : x.periods ≡ y.periods
  one_count = x.are.are ∙ (ap (periods_for days) (greatest_unique _ x.are.end y.are.end x.are.early y.are.early) ∙ sym y.are.are)

  one_order : s.order ≡ t.order
  one_order = one_preorder project.tree parts.tree s.order t.order x.preorder y.preorder

  item_periods : s.items.periods ≡ t.items.periods
  item_periods = x.items.period_count ∙ (one_count ∙ sym y.items.period_count)

  resource_periods : s.resources.periods ≡ t.resources.periods
  resource_periods = x.resources.period_count ∙ (one_count ∙ sym y.resources.period_count)

  one_item : (i k : ℕ) → i < length project.tree → k < y.periods → amount_in s.items i k ≡ amount_in t.items i k
  one_item i k known less =
      IsSumOver-only _ _ _ (amount_in s.items i k) (amount_in t.items i k)
      (subst (λ (times : List ℕ). IsSumOver (λ a. IsBelow project.tree (slice_index project.places a) i) (length project.network.arcs)
      (λ a. pos (cost_part project times (period_width days) k a)) (amount_in s.items i k))
      one_times (x.items.each i k known (omega (arith, less, one_count)))) (y.items.each i k known less)

  one_resource : (r k : ℕ) → r < length project.resources → k < y.periods → amount_in s.resources r k ≡ amount_in t.resources r k
  one_resource r k known less =
      IsSumOver-only _ _ _ (amount_in s.resources r k) (amount_in t.resources r k)
      (subst (λ (times : List ℕ). IsSumOver (λ l. (load_at project l).resource ≡ r) (length project.loads) (λ l. pos (load_part project times (period_width days) k l)) (amount_in s.resources r k))
      one_times (x.resources.each r k known (omega (arith, less, one_count)))) (y.resources.each r k known less)

  items_same : texts_to (length s.order) (item_rows project s) ≡ texts_to (length t.order) (item_rows project t)
  items_same =
      ap (λ (order : List ℕ). texts_to (length order) (λ i. amount_rows s.items (slice_index_or project.items (slice_index order i) []) (slice_index order i))) one_order
      ∙ texts_same (length t.order)
      (λ i. amount_rows s.items (slice_index_or project.items (slice_index t.order i) []) (slice_index t.order i)) (item_rows project t)
      (λ i less. rows_same s.items t.items (slice_index_or project.items (slice_index t.order i) []) (slice_index t.order i) item_periods
      (λ k below. one_item (slice_index t.order i) k (y.preorder.range i less) (omega (arith, below, y.items.period_count))))

  resources_same : texts_to (length project.resources) (resource_rows project s) ≡ texts_to (length project.resources) (resource_rows project t)
  resources_same =
      texts_same (length project.resources) (resource_rows project s) (resource_rows project t)
      (λ r less. rows_same s.resources t.resources (slice_index_or project.resources r []) r resource_periods
      (λ k below. one_resource r k less (omega (arith, below, y.resources.period_count))))

  one_loading_text : load_text project s ≡ load_text project t
  one_loading_text =
      text_of_parts project s
      ∙ ap (λ d. made_of project d s.items.periods (texts_to (length s.order) (item_rows project s)) (texts_to (length project.resources) (resource_rows project s))) (x.of_days ∙ sym y.of_days)
      ∙ ap (λ n. made_of project t.days n (texts_to (length s.order) (item_rows project s)) (texts_to (length project.resources) (resource_rows project s))) item_periods
      ∙ ap (λ items. made_of project t.days t.items.periods items (texts_to (length project.resources) (resource_rows project s))) items_same
      ∙ ap (λ resources. made_of project t.days t.items.periods (texts_to (length t.order) (item_rows project t)) resources) resources_same
      ∙ sym (text_of_parts project t)

pub one_load_text : (project : Project) (days : ℕ) (text other : List ℕ) → HasSoundParts project → IsLoadText project days text → IsLoadText project days other → text ≡ other
one_load_text project days text other parts x y = x.told ∙ (one_loading_text project days parts x.loading y.loading x.are y.are ∙ sym y.told)
