-- Rows of cells, cell by cell.
use Rattle.std.proofs.Common.{◌≡◌, ℕ, zero, suc, ◌+◌, ◌<◌, ◌≤◌, List, [], ◌∷◌, ◌++◌, length, take, get_or, refl, sym, ap, ◌∙◌, append_assoc, arith}
use Rattle.std.specs.Prelude.{map}
use Rattle.std.proofs.lemmas.List.{take_all, take_more, length-take-le}
use Rattle.pc_edges.specs.page.Cells.{row}
use Rattle.pc_edges.specs.inside.page.Cells.{filled_by, gap_before}

-- the cells with a space between each two
abbrev pub joined : List (List ℕ) → List ℕ
joined [] = []
joined (cell ∷ []) = cell
joined (cell ∷ next ∷ cells) = cell ++ (32 ∷ joined (next ∷ cells))

-- one more cell
joined-more : (cells : List (List ℕ)) (cell : List ℕ) → joined cells ++ (gap_before (length cells) ++ cell) ≡ joined (cells ++ cell ∷ [])
joined-more [] cell = refl
joined-more (first ∷ []) cell = refl
joined-more (first ∷ next ∷ cells) cell =
    append_assoc first (32 ∷ joined (next ∷ cells)) _ ∙ ap (λ rest. first ++ (32 ∷ rest)) (joined-more (next ∷ cells) cell)

-- a row is its cells and the end of the line
joined-row : (cells : List (List ℕ)) → joined cells ++ 10 ∷ [] ≡ row cells
joined-row [] = refl
joined-row (cell ∷ []) = refl
joined-row (cell ∷ next ∷ cells) =
    append_assoc cell (32 ∷ joined (next ∷ cells)) (10 ∷ []) ∙ ap (λ rest. cell ++ (32 ∷ rest)) (joined-row (next ∷ cells))

-- the next of the cells
joined-next : (cells : List (List ℕ)) (i : ℕ) → i < length cells → joined (take i cells) ++ (gap_before i ++ get_or cells i []) ≡ joined (take (i + 1) cells)
joined-next cells i lt =
    ap (λ n. joined (take i cells) ++ (gap_before n ++ get_or cells i [])) (sym (length-take-le i cells (omega (arith, lt))))
    ∙ joined-more (take i cells) (get_or cells i [])
    ∙ ap joined (sym (take_more cells i [] lt))

-- a row of no more texts than there are columns
module _ {A B : Type 0} (fill : A → List ℕ → List ℕ) (text : B → List ℕ) where
  -- there is a cell for each text
  length-filled_by : (columns : List A) (texts : List B) → length texts ≤ length columns → length (filled_by (map fill columns) (map text texts)) ≡ length texts
  length-filled_by [] [] few = refl
  length-filled_by (column ∷ columns) [] few = refl
  length-filled_by [] (first ∷ texts) few = absurd (omega (arith, few))
  length-filled_by (column ∷ columns) (first ∷ texts) few = ap suc (length-filled_by columns texts (omega (arith, few)))

  -- cell i is text i in column i
  get_or-filled_by : (columns : List A) (texts : List B) (i : ℕ) (d : A) (e : B) → i < length texts → length texts ≤ length columns
      → get_or (filled_by (map fill columns) (map text texts)) i [] ≡ fill (get_or columns i d) (text (get_or texts i e))
  get_or-filled_by columns [] i d e lt few = absurd (omega (arith, lt))
  get_or-filled_by [] (first ∷ texts) i d e lt few = absurd (omega (arith, few))
  get_or-filled_by (column ∷ columns) (first ∷ texts) zero d e lt few = refl
  get_or-filled_by (column ∷ columns) (first ∷ texts) (suc i) d e lt few = get_or-filled_by columns texts i d e (omega (arith, lt)) (omega (arith, few))

  -- one more text in its column
  pub row-next : (columns : List A) (texts : List B) (i : ℕ) (d : A) (e : B) → i < length texts → length texts ≤ length columns
      → joined (take i (filled_by (map fill columns) (map text texts))) ++ (gap_before i ++ fill (get_or columns i d) (text (get_or texts i e)))
      ≡ joined (take (i + 1) (filled_by (map fill columns) (map text texts)))
  row-next columns texts i d e lt few =
      let cells = filled_by (map fill columns) (map text texts) in
      ap (λ cell. joined (take i cells) ++ (gap_before i ++ cell)) (sym (get_or-filled_by columns texts i d e lt few))
      ∙ joined-next cells i (omega (arith, lt, length-filled_by columns texts few))

  -- all texts and the end of the line
  pub row-whole : (columns : List A) (texts : List B) (n : ℕ) → length texts ≤ n → length texts ≤ length columns
      → joined (take n (filled_by (map fill columns) (map text texts))) ++ 10 ∷ [] ≡ row (filled_by (map fill columns) (map text texts))
  row-whole columns texts n all few =
      let cells = filled_by (map fill columns) (map text texts) in
      ap (λ row. joined row ++ 10 ∷ []) (take_all n cells (omega (arith, all, length-filled_by columns texts few))) ∙ joined-row cells
