-- A row more below the top leaves a tree a tree.
use Rattle.std.proofs.Common.{◌≡◌, ℕ, zero, suc, ◌+◌, ◌<◌, ◌≤◌, List, [], ◌∷◌, ◌++◌, length, Some, None, inl, inr, sym, ap, ◌∙◌, subst, arith}
use Rattle.std.proofs.lemmas.Bool.{cases_lt}
use Rattle.std.proofs.lemmas.List.{get_or_append_left, get_or_push, length-append}
use Rattle.pc_model.specs.declared.limits.TheConstants.{MAX_LEVEL}
use Rattle.pc_wbs.specs.Climb.{AreInRange, HasLevel, IsOnlyTop, IsTree, climb, parent_of}
use Rattle.pc_wbs.specs.declared.tree.ItemRow.{ItemRow}
use Rattle.pc_wbs.proofs.ClimbLaws.{HasLevel-child, HasLevel-top, step-some}

abbrev pub below : ℕ → ItemRow
below top = record { parent = Some top }

module _ (rows : List ItemRow) (top : ℕ) (ranged : AreInRange rows) (only : IsOnlyTop rows top) where
  abbrev more : List ItemRow
  more = rows ++ below top ∷ []

  count : length more ≡ length rows + 1
  count = length-append rows (below top ∷ [])

  parent-kept : (x : ℕ) → x < length rows → parent_of more x ≡ parent_of rows x
  parent-kept x inside = ap (λ (r : ItemRow). r.parent) (get_or_append_left rows (below top ∷ []) (record { parent = None }) x inside)

  parent-last : (x : ℕ) → x ≡ length rows → parent_of more x ≡ Some top
  parent-last x last = ap (λ (r : ItemRow). r.parent) (get_or_push rows (below top) (record { parent = None }) x (sym last))

  -- a row without a parent is one of those before
  inside-top : (x : ℕ) → x < length more → parent_of more x ≡ None → x < length rows
  inside-top x within none = elim (cases_lt x (length rows)) [
    | inl inside ↦ inside
    | inr outside ↦ (let both : None ≡ Some top = sym none ∙ parent-last x (omega (arith, within, count, outside)) in absurd cc)
  ]

  level-kept : (k x end : ℕ) → x < length rows → climb rows k x ≡ Some end → parent_of rows end ≡ None → HasLevel more x (k + 1)
  level-kept zero x end inside is none =
      let same : x ≡ end = cc in
      HasLevel-top more x (parent-kept x inside ∙ (ap (parent_of rows) same ∙ none))
  level-kept (suc k) x end inside is none =
      let s = step-some (climb rows k) (parent_of rows x) end is in
      let up = level-kept k s.0 end (ranged x s.0 inside s.1.0) s.1.1 none in
      subst (HasLevel more x) (omega arith) (HasLevel-child more x s.0 (k + 1) (parent-kept x inside ∙ s.1.0) up)

  top-kept : HasLevel more top 1
  top-kept = HasLevel-top more top (parent-kept top only.is_top.0 ∙ only.is_top.1)

  level-at : IsTree rows → (x : ℕ) → x < length more → (level : ℕ) × (HasLevel more x level × (level ≤ MAX_LEVEL))
  level-at tree x within = elim (cases_lt x (length rows)) [
    | inl inside ↦ (let (level, ((k, (end, (up, none, is))), small)) = tree.levels x inside in
        (k + 1, (level-kept k x end inside up none, omega (arith, is, small))))
    | inr outside ↦ (2, (HasLevel-child more x top 1 (parent-last x (omega (arith, within, count, outside))) top-kept, omega arith))
  ]

  pub tree-more : IsTree rows → IsTree more
  tree-more tree = record {
    top = (
      top,
      record {
        is_top = (omega (arith, only.is_top.0, count), parent-kept top only.is_top.0 ∙ only.is_top.1);
        only = λ x within none.
            let inside = inside-top x within none in
            only.only x inside (sym (parent-kept x inside) ∙ none);
      },
    );
    levels = level-at tree;
  }
