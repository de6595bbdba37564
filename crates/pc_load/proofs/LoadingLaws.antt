-- The tables of a project.
use Rattle.std.proofs.Common.{◌≡◌, ℕ, ◌*◌, ◌<◌, ◌≤◌, List, length, slice_index, ap, sym, ◌∙◌, subst, arith}
use Rattle.std.specs.Prelude.{pos}
use Rattle.pc_project.specs.Planned.{IsPlanned}
use Rattle.pc_project.specs.Project.{Project}
use Rattle.pc_rollup.specs.Sums.{IsSumOver}
use Rattle.pc_rollup.specs.inside.Totals.{AreAtLeaves}
use Rattle.pc_rollup.proofs.SumLaws.{IsSumOver-amounts, IsSumOver-nested, IsSumOver-none, IsSumOver-only, IsSumOver-same}
use Rattle.pc_wbs.specs.Climb.{IsBelow, IsLeaf}
use Rattle.pc_load.specs.declared.spread.Spread.{Spread}
use Rattle.pc_load.specs.declared.table.LoadRow.{LoadRow}
use Rattle.pc_load.specs.inside.Entries.{AreCosts, AreLoads, AreEarliestTimes}
use Rattle.pc_load.specs.inside.Items.{IsItemTable}
use Rattle.pc_load.specs.Loading.{AreItemParts, AreResourceParts, ItemsAddUp, ResourcesAddUp, normal_cost_at, cost_part, load_at, load_part, part_at, spread_at}
use Rattle.pc_load.specs.Table.{Table, amount_in, column, sum_before}
use Rattle.pc_load.specs.inside.Table.{IsTableOf, part_in, row_of_entry, spread_of}
use Rattle.pc_load.proofs.EntryLaws.{load_known, spread_over}
use Rattle.pc_load.proofs.SeriesLaws.{adds_up}

-- no cost is on an item that is no leaf
pub costs_at_leaves : (project : Project) (times : List ℕ) (entries : List LoadRow) (width periods : ℕ) (leaves : Table) →
    IsPlanned project → AreCosts project times (length project.network.arcs) entries →
    IsTableOf (length project.tree) entries width periods leaves → (k : ℕ) → k < periods → AreAtLeaves project.tree (column leaves k)
costs_at_leaves project times entries width periods leaves planned costs is k lt x h no_leaf =
    IsSumOver-only (λ e. row_of_entry entries e ≡ x) (length entries) (λ e. pos (part_in entries width k e)) (amount_in leaves x k) (pos 0) (is.each x k h lt)
    (IsSumOver-none (λ e. row_of_entry entries e ≡ x) (length entries) (λ e. pos (part_in entries width k e)) none)
  where
    none : (e : ℕ) → e < length entries → row_of_entry entries e ≡ x → ⊥
    none e below on =
        let known : e < length project.network.arcs = omega (arith, costs.one_each) in
        let place : slice_index project.places e ≡ x = sym (ap (λ (entry : LoadRow). entry.row) (costs.each e known)) ∙ on in
        no_leaf (subst (IsLeaf project.tree) place (planned.figures.on_leaves e known))

-- the table of items has the parts of the costs
pub items_have_parts : (project : Project) (times : List ℕ) (entries : List LoadRow) (width periods : ℕ) (leaves items : Table) →
    IsPlanned project → AreCosts project times (length project.network.arcs) entries →
    IsTableOf (length project.tree) entries width periods leaves → IsItemTable project.tree leaves items →
    AreItemParts project times width periods items
items_have_parts project times entries width periods leaves items planned costs is are = record {
  row_count = are.rows;
  period_count = are.periods ∙ is.period_count;
  each = λ y k known lt. subst (λ (m : ℕ). IsSumOver (λ a. IsBelow project.tree (slice_index project.places a) y) m
      (λ a. pos (cost_part project times width k a)) (amount_in items y k)) costs.one_each (summed y k known lt);
}
  where
    -- what an entry is
    at : (e : ℕ) → e < length entries → (row_of_entry entries e ≡ slice_index project.places e) × (spread_of entries e ≡ spread_at project times e (normal_cost_at project e))
    at e below =
        let entry = costs.each e (omega (arith, costs.one_each)) in
        (ap (λ (l : LoadRow). l.row) entry, ap (λ (l : LoadRow). l.spread) entry)

    summed : (y k : ℕ) → y < length project.tree → k < periods →
        IsSumOver (λ a. IsBelow project.tree (slice_index project.places a) y) (length entries)
        (λ a. pos (cost_part project times width k a)) (amount_in items y k)
    summed y k known lt =
        IsSumOver-amounts (λ a. IsBelow project.tree (slice_index project.places a) y) (length entries)
        (λ e. pos (part_in entries width k e)) (λ a. pos (cost_part project times width k a)) (amount_in items y k)
        (λ e below. ap (λ (s : Spread). pos (part_at s width k)) ((at e below).1))
        (IsSumOver-same (λ e. (IsLeaf project.tree (row_of_entry entries e) × IsBelow project.tree (row_of_entry entries e) y)
        × (row_of_entry entries e < length project.tree)) (λ a. IsBelow project.tree (slice_index project.places a) y) (length entries)
        (λ e. pos (part_in entries width k e)) (amount_in items y k)
        (λ e below p. subst (λ (x : ℕ). IsBelow project.tree x y) ((at e below).0) (p.0.1))
        (λ e below under.
        let h : e < length project.network.arcs = omega (arith, costs.one_each) in
        let place = sym ((at e below).0) in
        subst (λ (x : ℕ). (IsLeaf project.tree x × IsBelow project.tree x y) × (x < length project.tree)) place ((planned.figures.on_leaves e h, under), planned.placed e h))
        (IsSumOver-nested (λ x. IsLeaf project.tree x × IsBelow project.tree x y) (row_of_entry entries) (length project.tree) (length entries)
        (λ x. amount_in leaves x k) (λ e. pos (part_in entries width k e)) (amount_in items y k)
        (λ x h. is.each x k h lt) ((are.each k (omega (arith, is.period_count))).each y known)))

-- over all periods items add up to costs
pub items_add_up : (project : Project) (times : List ℕ) (width periods : ℕ) (items : Table) → IsPlanned project → AreEarliestTimes project times →
    1 ≤ periods → slice_index times project.network.end < width * periods → AreItemParts project times width periods items →
    ItemsAddUp project items
items_add_up project times width periods items planned are some whole parts y known =
    subst (λ (n : ℕ). IsSumOver (λ a. IsBelow project.tree (slice_index project.places a) y) (length project.network.arcs)
    (λ a. pos (normal_cost_at project a)) (sum_before n (amount_in items y))) (sym parts.period_count)
    (adds_up (λ a. IsBelow project.tree (slice_index project.places a) y) (length project.network.arcs) periods width (λ a. spread_at project times a (normal_cost_at project a))
    (amount_in items y) some
    (λ k lt. parts.each y k known lt)
    (λ a h. spread_over project times a (normal_cost_at project a) (width * periods) planned are h whole))

-- the table of resources has the parts of the quantities
pub resources_have_parts : (project : Project) (times : List ℕ) (entries : List LoadRow) (width periods : ℕ) (resources : Table) →
    AreLoads project times (length project.loads) entries → IsTableOf (length project.resources) entries width periods resources →
    AreResourceParts project times width periods resources
resources_have_parts project times entries width periods resources loads is = record {
  row_count = is.row_count;
  period_count = is.period_count;
  each = λ r k known lt. subst (λ (m : ℕ). IsSumOver (λ l. (load_at project l).resource ≡ r) m
      (λ l. pos (load_part project times width k l)) (amount_in resources r k)) loads.one_each (summed r k known lt);
}
  where
    at : (e : ℕ) → e < length entries → (row_of_entry entries e ≡ (load_at project e).resource) ×
        (spread_of entries e ≡ spread_at project times (load_at project e).activity (load_at project e).quantity)
    at e below =
        let entry = loads.each e (omega (arith, loads.one_each)) in
        (ap (λ (l : LoadRow). l.row) entry, ap (λ (l : LoadRow). l.spread) entry)

    summed : (r k : ℕ) → r < length project.resources → k < periods →
        IsSumOver (λ l. (load_at project l).resource ≡ r) (length entries) (λ l. pos (load_part project times width k l))
        (amount_in resources r k)
    summed r k known lt =
        IsSumOver-amounts (λ l. (load_at project l).resource ≡ r) (length entries) (λ e. pos (part_in entries width k e)) (λ l. pos (load_part project times width k l)) (amount_in resources r k)
        (λ e below. ap (λ (s : Spread). pos (part_at s width k)) ((at e below).1))
        (IsSumOver-same (λ e. row_of_entry entries e ≡ r) (λ l. (load_at project l).resource ≡ r) (length entries) (λ e. pos (part_in entries width k e)) (amount_in resources r k)
        (λ e below on. sym ((at e below).0) ∙ on)
        (λ e below on. (at e below).0 ∙ on)
        (is.each r k known lt))

-- over all periods resources add up to quantities
pub resources_add_up : (project : Project) (times : List ℕ) (width periods : ℕ) (resources : Table) → IsPlanned project →
    AreEarliestTimes project times → 1 ≤ periods → slice_index times project.network.end < width * periods →
    AreResourceParts project times width periods resources → ResourcesAddUp project resources
resources_add_up project times width periods resources planned are some whole parts r known =
    subst (λ (n : ℕ). IsSumOver (λ l. (load_at project l).resource ≡ r) (length project.loads) (λ l. pos (load_at project l).quantity) (sum_before n (amount_in resources r))) (sym parts.period_count)
    (adds_up (λ l. (load_at project l).resource ≡ r) (length project.loads) periods width
    (λ l. spread_at project times (load_at project l).activity (load_at project l).quantity) (amount_in resources r) some
    (λ k lt. parts.each r k known lt)
    (λ l h. spread_over project times (load_at project l).activity (load_at project l).quantity (width * periods) planned are (load_known project l planned h).activity whole))
