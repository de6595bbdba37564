-- The spans between rising starts: how long they are, and what a write or one more of them changes.
use Rattle.std.proofs.Common.{◌≡◌, ◌≢◌, ℕ, zero, suc, ◌+◌, ◌-◌, ◌<◌, ◌≤◌, List, [], ◌∷◌, ◌++◌, length, take, drop, set, replicate, get_or, sym, ◌∙◌, ap, inl, inr, arith, rules}
use Rattle.std.specs.Prelude.{slice_index, slice_range, sum_by, ◌⊎◌}
use Rattle.std.proofs.lemmas.List.{same_lists, length-set, get_or-set_same, get_or-set_other, places, take-set-le, drop-set-lt, drop-set-add, get_or-take, get_or-drop, take_more, length-replicate}
use Rattle.std.proofs.lemmas.List.FromFn.{length-map-range_with_len, get_or-map-range_with_len, take-map-range_with_len, map-range_with_len_more, fill_by_all}
use Rattle.std.proofs.lemmas.List.Sums.{sum_by_push}
use Rattle.std.proofs.lemmas.List.Edits.{length-between}
use Rattle.std.proofs.lemmas.Slice.{take-put_mid_below, drop-put_mid, between-put_mid, between_is, overwrites}
use Rattle.std.proofs.Math.Seq.{take-set-lt}
use Rattle.std.proofs.lemmas.Bool.{cases_eq, cases_lt}
use borrow.Rule.Slice.PartMut.{put_mid}
use Rattle.pc_cells.specs.declared.region.Span.{Span}
use Rattle.pc_cells.specs.inside.Spans.{span_at, cells_before, IsSpan}
use Rattle.pc_cells.specs.inside.Layout.{between_starts, spans_of, AreStarts, IsRangeFilled, IsRangeWritten}

module _ (starts : List ℕ) (n size : ℕ) (good : AreStarts starts n size) where
  rises_by : (j d : ℕ) → j + d ≤ n → slice_index starts j ≤ slice_index starts (j + d)
  rises_by j zero within = omega (arith, ap (slice_index starts) (let e : j + 0 ≡ j = omega arith in e))
  rises_by j (suc d) within =
      omega (
        arith,
        rises_by j d (omega arith),
        good.rising (j + d) (omega arith),
        ap (slice_index starts) (let e : j + d + 1 ≡ j + suc d = omega arith in e),
      )

  -- no start is below an earlier one
  pub start-rises : (j k : ℕ) → j ≤ k → k ≤ n → slice_index starts j ≤ slice_index starts k
  start-rises j k before within =
      omega (arith, rises_by j (k - j) (omega arith), ap (slice_index starts) (let e : j + (k - j) ≡ k = omega arith in e))

  -- there are at least as many cells before the k-th start as spans
  pub start-above : (k : ℕ) → k ≤ n → k ≤ slice_index starts k
  start-above zero within = omega arith
  start-above (suc k) within =
      omega (arith, start-above k (omega arith), good.rising k (omega arith), ap (slice_index starts) (let e : k + 1 ≡ suc k = omega arith in e))

  -- each start up to the n-th is within the cells
  pub start-within : (k : ℕ) → k ≤ n → slice_index starts k ≤ size
  start-within k within = omega (arith, start-rises k n within (omega arith), good.within)

module _ (cells starts : List ℕ) (n : ℕ) (good : AreStarts starts n (length cells)) where
  pub length-spans : length (spans_of cells starts n) ≡ n
  length-spans = length-map-range_with_len (between_starts cells starts) 0 n

  pub spans-at : (k : ℕ) (d : List ℕ) → k < n → get_or (spans_of cells starts n) k d ≡ between_starts cells starts k
  spans-at k d known = get_or-map-range_with_len (between_starts cells starts) 0 n k k d known (omega arith)

  pub length-between_starts : (k : ℕ) → k < n → slice_index starts k + length (between_starts cells starts k) ≡ slice_index starts (k + 1)
  length-between_starts k known =
      omega (
        arith,
        length-between cells (slice_index starts k) (slice_index starts (k + 1)) (start-within starts n (length cells) good (k + 1) (omega arith)),
        good.rising k known,
      )

  pub cells_before-spans : (k : ℕ) → k ≤ n → cells_before (spans_of cells starts n) k ≡ slice_index starts k
  cells_before-spans zero within = sym good.first
  cells_before-spans (suc k) within =
      let spans : List (List ℕ) = spans_of cells starts n in
      let more : take (k + 1) spans ≡ take k spans ++ get_or spans k [] ∷ [] = take_more spans k [] (omega (arith, length-spans)) in
      let next : k + 1 ≡ suc k = omega arith in
      let joined : sum_by length (take (suc k) spans) ≡ sum_by length (take k spans) + length (get_or spans k []) =
      ap (λ j. sum_by length (take j spans)) (sym next) ∙ ap (sum_by length) more ∙ sum_by_push length (take k spans) (get_or spans k []) in
      omega (
        arith,
        joined,
        cells_before-spans k (omega arith),
        ap length (spans-at k [] (omega arith)),
        length-between_starts k (omega arith),
        ap (slice_index starts) next,
      )

  -- the spans have together the cells before the last start
  pub sum-spans : sum_by length (spans_of cells starts n) ≡ slice_index starts n
  sum-spans =
      ap (sum_by length) (sym (take_all_spans)) ∙ cells_before-spans n (omega arith)
    where
      take_all_spans : take n (spans_of cells starts n) ≡ spans_of cells starts n
      take_all_spans = take-map-range_with_len (between_starts cells starts) 0 n n (omega arith)

  -- the place of the k-th span
  pub span-begins : (k : ℕ) (s : Span) → IsSpan (spans_of cells starts n) k s → s.place ≡ slice_index starts k
  span-begins k s is = is.begins ∙ cells_before-spans k (omega (arith, is.known, length-spans))

  pub span-ends : (k : ℕ) (s : Span) → IsSpan (spans_of cells starts n) k s → s.place + s.len ≡ slice_index starts (k + 1)
  span-ends k s is =
      let known : k < n = omega (arith, is.known, length-spans) in
      omega (arith, span-begins k s is, is.extends, ap length (spans-at k [] known), length-between_starts k known)

  pub span-within : (k : ℕ) (s : Span) → IsSpan (spans_of cells starts n) k s → s.place + s.len ≤ length cells
  span-within k s is =
      omega (arith, span-ends k s is, start-within starts n (length cells) good (k + 1) (omega (arith, is.known, length-spans)))

  -- other cells give the spans with another k-th one, where they differ in that one alone
  pub spans-edited : (after : List ℕ) (k : ℕ) (xs : List ℕ) → k < n → between_starts after starts k ≡ xs
      → ((j : ℕ) → j < n → j ≢ k → between_starts after starts j ≡ between_starts cells starts j)
      → spans_of after starts n ≡ set (spans_of cells starts n) k xs
  spans-edited after k xs known here others =
      same_lists _ _
      (length-map-range_with_len (between_starts after starts) 0 n ∙ sym (length-set (spans_of cells starts n) k xs ∙ length-spans))
      (λ j d below. at j d (omega (arith, below, length-map-range_with_len (between_starts after starts) 0 n)))
    where
      at : (j : ℕ) (d : List ℕ) → j < n → get_or (spans_of after starts n) j d ≡ get_or (set (spans_of cells starts n) k xs) j d
      at j d below =
          get_or-map-range_with_len (between_starts after starts) 0 n j j d below (omega arith)
          ∙ elim (cases_eq j k) [
            | inl same ↦ ap (between_starts after starts) same ∙ here
                ∙ sym (ap (λ i. get_or (set (spans_of cells starts n) k xs) i d) same
                ∙ get_or-set_same (spans_of cells starts n) k xs d (omega (arith, known, length-spans)))
            | inr apart ↦ others j below apart ∙ sym (get_or-set_other (spans_of cells starts n) k j xs d apart ∙ spans-at j d below)
          ]

-- a write after a range, or before it
range-off : (xs : List ℕ) (from to at v : ℕ) → (at < from) ⊎ (to ≤ at) → slice_range (set xs at v) from to ≡ slice_range xs from to
range-off xs from to at v (inl before) = ap (take (to - from)) (drop-set-lt from xs at v before)
range-off xs from to at v (inr behind) = between_is (set xs at v) from to ∙ ap (drop from) (take-set-le to xs at v behind) ∙ sym (between_is xs from to)

range-in : (xs : List ℕ) (from to i v : ℕ) → from + i < to → slice_range (set xs (from + i) v) from to ≡ set (slice_range xs from to) i v
range-in xs from to i v below =
    ap (take (to - from)) (drop-set-add from xs i v) ∙ take-set-lt (to - from) (drop from xs) i v (omega arith)

-- what is written over a range is there
pub range-written : (xs : List ℕ) (from to : ℕ) (ys : List ℕ) → from ≤ to → to ≤ length xs → length ys ≡ to - from
    → IsRangeWritten xs (put_mid from (to - from) xs ys) from to ys
range-written xs from to ys ordered within long = record {
  size = length-put_mid;
  inside = between-put_mid from (to - from) xs ys to (omega arith) long;
  outside = λ a b apart. elim apart [ inl behind ↦ above a b behind | inr before ↦ below a b before ];
} where
  length-put_mid : length (put_mid from (to - from) xs ys) ≡ length xs
  length-put_mid = search (rules, places, overwrites)

  above : (a b : ℕ) → to ≤ a → slice_range (put_mid from (to - from) xs ys) a b ≡ slice_range xs a b
  above a b behind = ap (take (b - a)) (drop-put_mid from (to - from) xs ys a (omega arith) (omega arith) long)

  below : (a b : ℕ) → b ≤ from → slice_range (put_mid from (to - from) xs ys) a b ≡ slice_range xs a b
  below a b before =
      between_is (put_mid from (to - from) xs ys) a b
      ∙ ap (drop a) (take-put_mid_below from (to - from) xs ys b before (omega arith))
      ∙ sym (between_is xs a b)

-- writing the same value over a range fills it
pub range-filled : (xs : List ℕ) (from to v : ℕ) → from ≤ to → to ≤ length xs
    → IsRangeFilled xs (put_mid from (to - from) xs (replicate (to - from) v)) from to v
range-filled xs from to v ordered within = range-written xs from to (replicate (to - from) v) ordered within (length-replicate (to - from) v)

-- two spans do not overlap
apart_starts : (starts : List ℕ) (n size : ℕ) → AreStarts starts n size → (j k : ℕ) → j < n → k < n → j ≢ k
    → (slice_index starts (k + 1) ≤ slice_index starts j) ⊎ (slice_index starts (j + 1) ≤ slice_index starts k)
apart_starts starts n size good j k jn kn apart =
    elim (cases_lt j k) [
      | inl before ↦ inr (start-rises starts n size good (j + 1) k (omega arith) (omega arith))
      | inr behind ↦ inl (start-rises starts n size good (k + 1) j (omega arith) (omega arith))
    ]

module _ (cells starts : List ℕ) (n : ℕ) (good : AreStarts starts n (length cells)) where
  -- a write into a span changes its list at this place, and no other span
  pub spans-set : (k : ℕ) (s : Span) (i v : ℕ) → IsSpan (spans_of cells starts n) k s → i < s.len
      → spans_of (set cells (s.place + i) v) starts n ≡ set (spans_of cells starts n) k (set (span_at (spans_of cells starts n) k) i v)
  spans-set k s i v is below =
      let known : k < n = omega (arith, is.known, length-spans cells starts n good) in
      let begins : s.place ≡ slice_index starts k = span-begins cells starts n good k s is in
      let ends : s.place + s.len ≡ slice_index starts (k + 1) = span-ends cells starts n good k s is in
      let here : between_starts (set cells (s.place + i) v) starts k ≡ set (span_at (spans_of cells starts n) k) i v =
      ap (λ p. between_starts (set cells (p + i) v) starts k) begins
      ∙ range-in cells (slice_index starts k) (slice_index starts (k + 1)) i v (omega arith)
      ∙ ap (λ xs. set xs i v) (sym (spans-at cells starts n good k [] known)) in
      spans-edited cells starts n good (set cells (s.place + i) v) k (set (span_at (spans_of cells starts n) k) i v) known here
      (λ j jn apart. range-off cells (slice_index starts j) (slice_index starts (j + 1)) (s.place + i) v
      (elim (apart_starts starts n (length cells) good j k jn known apart) [ inl before ↦ inl (omega arith) | inr behind ↦ inr (omega arith) ]))

  -- writing a complete span changes only its list
  pub spans-written : (after : List ℕ) (k : ℕ) (s : Span) (ys : List ℕ) → IsSpan (spans_of cells starts n) k s
      → IsRangeWritten cells after s.place (s.place + s.len) ys
      → spans_of after starts n ≡ set (spans_of cells starts n) k ys
  spans-written after k s ys is written =
      let known : k < n = omega (arith, is.known, length-spans cells starts n good) in
      let begins : s.place ≡ slice_index starts k = span-begins cells starts n good k s is in
      let ends : s.place + s.len ≡ slice_index starts (k + 1) = span-ends cells starts n good k s is in
      let here : between_starts after starts k ≡ ys =
      ap (λ p. slice_range after p (slice_index starts (k + 1))) (sym begins)
      ∙ ap (slice_range after s.place) (sym ends)
      ∙ written.inside in
      spans-edited cells starts n good after k ys known here
      (λ j jn apart. written.outside (slice_index starts j) (slice_index starts (j + 1))
      (elim (apart_starts starts n (length cells) good j k jn known apart) [ inl before ↦ inl (omega arith) | inr behind ↦ inr (omega arith) ]))

  -- the contents of a span's cell
  pub spans-get : (k : ℕ) (s : Span) (i : ℕ) → IsSpan (spans_of cells starts n) k s → i < s.len
      → slice_index (span_at (spans_of cells starts n) k) i ≡ slice_index cells (s.place + i)
  spans-get k s i is below =
      let known : k < n = omega (arith, is.known, length-spans cells starts n good) in
      let begins : s.place ≡ slice_index starts k = span-begins cells starts n good k s is in
      let ends : s.place + s.len ≡ slice_index starts (k + 1) = span-ends cells starts n good k s is in
      ap (λ xs. slice_index xs i) (spans-at cells starts n good k [] known)
      ∙ get_or-take (slice_index starts (k + 1) - slice_index starts k) (drop (slice_index starts k) cells) i 0 (omega arith)
      ∙ get_or-drop (slice_index starts k) cells i 0
      ∙ ap (λ p. slice_index cells (p + i)) (sym begins)

  -- a mark's cells are those before the start of its number
  pub mark-at : (k : ℕ) → k ≤ length (spans_of cells starts n) → cells_before (spans_of cells starts n) k ≡ slice_index starts k
  mark-at k known = cells_before-spans cells starts n good k (omega (arith, length-spans cells starts n good))

  -- fewer starts give the first spans
  pub spans-released : (k : ℕ) → k ≤ n → spans_of cells starts k ≡ take k (spans_of cells starts n)
  spans-released k within = sym (take-map-range_with_len (between_starts cells starts) 0 n k within)

  pub starts-released : (k : ℕ) → k ≤ n → AreStarts starts k (length cells)
  starts-released k within = record {
    first = good.first;
    rising = λ j below. good.rising j (omega arith);
    within = start-within starts n (length cells) good k within;
  }

-- one more start gives the spans before it and the cells between it and the last
pub spans-grown : (cells starts after_cells after_starts : List ℕ) (n : ℕ) (xs : List ℕ) → AreStarts starts n (length cells)
    → ((k : ℕ) → k < n → between_starts after_cells after_starts k ≡ between_starts cells starts k)
    → between_starts after_cells after_starts n ≡ xs
    → spans_of after_cells after_starts (n + 1) ≡ spans_of cells starts n ++ xs ∷ []
spans-grown cells starts after_cells after_starts n xs good same last =
    map-range_with_len_more (between_starts after_cells after_starts) 0 n n (omega arith)
    ∙ ap (λ ys. ys ++ between_starts after_cells after_starts n ∷ []) kept
    ∙ ap (λ x. spans_of cells starts n ++ x ∷ []) last
  where
    kept : spans_of after_cells after_starts n ≡ spans_of cells starts n
    kept =
        sym (
        fill_by_all (between_starts after_cells after_starts) (spans_of cells starts n) n [] (length-spans cells starts n good)
        (λ k below. spans-at cells starts n good k [] below ∙ sym (same k below))
        )
