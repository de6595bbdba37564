-- The activities laid out, one further.
use Rattle.std.proofs.Common.{◌≡◌, ℕ, ◌+◌, ◌-◌, ◌<◌, ◌≤◌, List, [], ◌∷◌, ◌++◌, length, take, drop, slice_range, sym, ◌∙◌, ap, subst, ⊎_elim, arith, length-append, length-drop}
use Rattle.std.proofs.lemmas.Bool.{cases_eq}
use Rattle.std.proofs.lemmas.List.{get_or_append_left, get_or_push, length_push, take_more, take_all, drop_at, drop-append-le, take-append-le, map-append}
use Rattle.pc_model.specs.declared.Arc.{Arc}
use Rattle.pc_model.specs.declared.Knee.{Knee}
use Rattle.pc_model.specs.declared.PieceRow.{PieceRow}
use Rattle.pc_model.specs.declared.Term.{Term}
use Rattle.pc_model.specs.declared.limits.TheConstants.{MAX_PIECES_EACH}
use Rattle.pc_model.specs.Pieces.{pieces_of}
use Rattle.pc_model.specs.Schedule.{term_at}
use Rattle.pc_model.specs.Walk.{arc_at}
use Rattle.pc_crash.specs.declared.price_table.PriceRow.{PriceRow}
use Rattle.pc_crash.specs.inside.KneeLists.{knee_list}
use Rattle.pc_crash.specs.inside.Laid.{AreLaid, IsPriceRowOf, price_row_at}

-- a part of a list is the same after more is appended
range-append : (items more : List Knee) (first count : ℕ) → first + count ≤ length items → slice_range (items ++ more) first (first + count) ≡ slice_range items first (first + count)
range-append items more first count within =
    ap (take (first + count - first)) (drop-append-le first items more (omega arith)) ∙ take-append-le (first + count - first) (drop first items) more (omega (arith, length-drop first items))

-- what is appended to a list is its last part
range_last : (items more : List Knee) (first count : ℕ) → first ≡ length items → count ≡ length more → slice_range (items ++ more) first (first + count) ≡ more
range_last items more first count begins counts =
    ap (take (first + count - first)) (drop_at items more first (sym begins)) ∙ take_all (first + count - first) more (omega arith)

-- a row stays that of its activity when more knees are appended
IsPriceRowOf-append : (arcs : List Arc) (terms : List Term) (pieces : List PieceRow) (knees more : List Knee) (a : ℕ) (row : PriceRow) →
    IsPriceRowOf arcs terms pieces knees a row → IsPriceRowOf arcs terms pieces (knees ++ more) a row
IsPriceRowOf-append arcs terms pieces knees more a row is = record {
  arc = is.arc;
  term = is.term;
  within = omega (arith, is.within, length-append knees more);
  few = is.few;
  part = range-append knees more row.first row.count is.within ∙ is.part;
}

-- one more activity is laid out
pub AreLaid-push : (arcs : List Arc) (terms : List Term) (pieces : List PieceRow) (n : ℕ) (rows : List PriceRow) (knees more : List Knee)
    (row : PriceRow) → AreLaid arcs terms pieces n rows knees → n < length terms → row.arc ≡ arc_at arcs n → row.term ≡ term_at terms n →
    row.first ≡ length knees → row.count ≡ length more → row.count ≤ MAX_PIECES_EACH + 1 →
    more ≡ knee_list (term_at terms n) (pieces_of pieces n) → AreLaid arcs terms pieces (n + 1) (rows ++ row ∷ []) (knees ++ more)
AreLaid-push arcs terms pieces n rows knees more row laid inside same_arc same_term begins counts few is = record {
  one_each = length_push rows row ∙ ap (λ k. k + 1) laid.one_each;
  same_terms = map-append (λ (r : PriceRow). r.term) rows (row ∷ []) ∙ ap (λ ts. ts ++ row.term ∷ []) laid.same_terms
      ∙ ap (λ t. take n terms ++ t ∷ []) same_term ∙ sym (take_more terms n (record { normal = 0; crash = 0; cost = 0; slope = 0 }) inside);
  small = omega (arith, laid.small, length-append knees more);
  each = λ a below. ⊎_elim
      (λ same. subst (λ b. IsPriceRowOf arcs terms pieces (knees ++ more) b (price_row_at (rows ++ row ∷ []) b)) (sym same)
      (subst (IsPriceRowOf arcs terms pieces (knees ++ more) n) (sym (get_or_push rows row none n laid.one_each)) new))
      (λ other. subst (IsPriceRowOf arcs terms pieces (knees ++ more) a) (sym (kept a (omega arith)))
      (IsPriceRowOf-append arcs terms pieces knees more a (price_row_at rows a) (laid.each a (omega arith))))
      (cases_eq a n);
  apart = λ a b order below. ⊎_elim
      (λ same. rw (kept a (omega arith), same, get_or_push rows row none n laid.one_each) (omega (arith, begins, (laid.each a (omega arith)).within)))
      (λ other. rw (kept a (omega arith), kept b (omega arith)) (laid.apart a b order (omega arith)))
      (cases_eq b n);
}
  where
    none : PriceRow
    none = record { arc = record { from = 0; to = 0 }; term = record { normal = 0; crash = 0; cost = 0; slope = 0 }; first = 0; count = 0 }

    -- the rows before are those that were there
    kept : (a : ℕ) → a < n → price_row_at (rows ++ row ∷ []) a ≡ price_row_at rows a
    kept a below = get_or_append_left rows (row ∷ []) none a (omega (arith, laid.one_each))

    new : IsPriceRowOf arcs terms pieces (knees ++ more) n row
    new = record {
      arc = same_arc;
      term = same_term;
      within = omega (arith, length-append knees more);
      few = few;
      part = range_last knees more row.first row.count begins counts ∙ is;
    }
