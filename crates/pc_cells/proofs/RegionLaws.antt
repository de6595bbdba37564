-- What a region's fields say of its value, and what a change of them makes of it.
use Rattle.std.proofs.Common.{◌≡◌, ◌≢◌, ℕ, ◌+◌, ◌-◌, ◌<◌, ◌≤◌, List, [], ◌∷◌, ◌++◌, length, take, set, replicate, get_or, refl, sym, ◌∙◌, ap, subst, inl, inr, arith, Vec}
use Rattle.std.specs.Prelude.{slice_index, slice_range, sum_by}
use Rattle.std.specs.Vec.{with_items}
use Rattle.std.proofs.lemmas.Bool.{cases_lt}
use Rattle.std.proofs.lemmas.List.{with_items_is, length_push, get_or_read, take_at, get_or_push, length-set, get_or-set_same, get_or-set_other, length-replicate}
use Rattle.pc_cells.specs.declared.region.Span.{Span}
use Rattle.pc_cells.specs.declared.region.Mark.{Mark}
use Rattle.pc_cells.specs.declared.region.Region.TheInside.{Inside}
use Rattle.pc_cells.specs.Spans.{Cells}
use Rattle.pc_cells.specs.inside.Spans.{span_at, cells_before, with_span, free_of, IsSpan, IsLive, IsMark}
use Rattle.pc_cells.specs.inside.Layout.{between_starts, spans_of, cells_of, AreStarts, IsLaidOut, IsRangeFilled, IsRangeWritten}
use Rattle.pc_cells.proofs.SpanLaws.{length-spans, sum-spans, span-within, spans-get, spans-set, spans-written, span-begins, span-ends}
use Rattle.pc_cells.proofs.SpanLaws.{spans-at, spans-released, starts-released, spans-grown, mark-at, start-rises, start-above}

-- what a call that writes a range of a vector's slice leaves in the vector
pub vector-written : {Z : Type 0} (v : Vec ℕ Z) (was new : List ℕ) (from to : ℕ) (xs : List ℕ) → was ≡ v.items → length was ≡ v.len
    → IsRangeWritten was new from to xs → IsRangeWritten v.items (with_items v new).items from to xs
vector-written v was new from to xs same size written =
    subst (λ ys. IsRangeWritten v.items ys from to xs) (sym (with_items_is v new (written.size ∙ size)))
    (subst (λ ys. IsRangeWritten ys new from to xs) same written)

-- the same where it fills it
pub vector-filled : {Z : Type 0} (v : Vec ℕ Z) (was new : List ℕ) (from to x : ℕ) → was ≡ v.items → length was ≡ v.len
    → IsRangeFilled was new from to x → IsRangeFilled v.items (with_items v new).items from to x
vector-filled v was new from to x same size filled = vector-written v was new from to (replicate (to - from) x) same size filled

abbrev cells_made : ℕ → List (List ℕ) → Cells
cells_made n spans = record { capacity = n; spans = spans }

module _ (r : Inside) (now : Cells) (view : cells_of r ≡ now) (laid : IsLaidOut r) where
  here : (k : ℕ) (s : Span) → IsSpan now.spans k s → IsSpan (spans_of r.cells.items r.starts.items r.count) k s
  here k s is = subst (λ spans. IsSpan spans k s) (sym (ap (λ c. c.spans) view)) is

  pub region-capacity : now.capacity ≡ length r.cells.items
  region-capacity = sym (ap (λ c. c.capacity) view)

  -- a live span ends within the cells
  pub region-within : (s : Span) → IsLive now.spans s → s.place + s.len ≤ length r.cells.items
  region-within s live = span-within r.cells.items r.starts.items r.count laid.starts live.0 s (here live.0 s live.1)

  pub region-used : slice_index r.starts.items r.count ≡ sum_by length now.spans
  region-used = sym (sum-spans r.cells.items r.starts.items r.count laid.starts) ∙ ap (λ c. sum_by length c.spans) view

  pub region-room : slice_index r.starts.items r.count ≤ now.capacity
  region-room = omega (arith, laid.starts.within, region-capacity)

  -- there is a start for each span and one after them
  pub region-count : r.count ≤ length r.cells.items
  region-count = omega (arith, start-above r.starts.items r.count (length r.cells.items) laid.starts r.count (omega arith), laid.starts.within)

  -- the place after the last span, as it is read
  pub region-end : (x : ℕ) → x ≡ get_or r.starts.items r.count x → x ≡ slice_index r.starts.items r.count
  region-end x read = get_or_read r.starts.items r.count x (omega (arith, region-count, laid.room)) read 0

  pub region-free : (x size : ℕ) → x ≡ get_or r.starts.items r.count x → size ≡ length r.cells.items → size - x ≡ free_of now
  region-free x size read is =
      ap (λ n. n - x) (is ∙ sym region-capacity) ∙ ap (λ n. now.capacity - n) (region-end x read ∙ region-used)

  -- there is capacity for one more start if there is capacity for one more cell
  pub starts-room : (place len : ℕ) → 0 < len → place ≡ slice_index r.starts.items r.count → place + len ≤ length r.cells.items
      → r.count + 1 < length r.starts.items
  starts-room place len some begins fits =
      omega (arith, start-above r.starts.items r.count (length r.cells.items) laid.starts r.count (omega arith), laid.room)

  pub region-length : r.count ≡ length now.spans
  region-length = sym (length-spans r.cells.items r.starts.items r.count laid.starts) ∙ ap (λ c. length c.spans) view

  pub region-get : (k : ℕ) (s : Span) (i : ℕ) → IsSpan now.spans k s → i < s.len
      → slice_index r.cells.items (s.place + i) ≡ slice_index (span_at now.spans k) i
  region-get k s i is below =
      sym (spans-get r.cells.items r.starts.items r.count laid.starts k s i (here k s is) below)
      ∙ ap (λ c. slice_index (span_at c.spans k) i) view

  pub region-set : (k : ℕ) (s : Span) (i v : ℕ) → IsSpan now.spans k s → i < s.len
      → let next : Cells = record { capacity = length (set r.cells.items (s.place + i) v); spans = spans_of (set r.cells.items (s.place + i) v) r.starts.items r.count } in
      next ≡ with_span now k (set (span_at now.spans k) i v)
  region-set k s i v is below =
      ap (λ n. cells_made n (spans_of (set r.cells.items (s.place + i) v) r.starts.items r.count)) (length-set r.cells.items (s.place + i) v)
      ∙ ap (cells_made (length r.cells.items)) (spans-set r.cells.items r.starts.items r.count laid.starts k s i v (here k s is) below)
      ∙ ap (λ c. with_span c k (set (span_at c.spans k) i v)) view

  pub region-written : (after : List ℕ) (k : ℕ) (s : Span) (ys : List ℕ) → IsSpan now.spans k s
      → IsRangeWritten r.cells.items after s.place (s.place + s.len) ys
      → let next : Cells = record { capacity = length after; spans = spans_of after r.starts.items r.count } in
      next ≡ with_span now k ys
  region-written after k s ys is written =
      ap (λ n. cells_made n (spans_of after r.starts.items r.count)) written.size
      ∙ ap (cells_made (length r.cells.items)) (spans-written r.cells.items r.starts.items r.count laid.starts after k s ys (here k s is) written)
      ∙ ap (λ c. with_span c k ys) view

  pub region-fill : (after : List ℕ) (k : ℕ) (s : Span) (v : ℕ) → IsSpan now.spans k s
      → IsRangeFilled r.cells.items after s.place (s.place + s.len) v
      → let next : Cells = record { capacity = length after; spans = spans_of after r.starts.items r.count } in
      next ≡ with_span now k (replicate s.len v)
  region-fill after k s v is filled =
      region-written after k s (replicate (s.place + s.len - s.place) v) is filled
      ∙ ap (λ n. with_span now k (replicate n v)) (let e : s.place + s.len - s.place ≡ s.len = omega arith in e)

  -- the cells of a span are its list
  pub region-list : (k : ℕ) (s : Span) → IsSpan now.spans k s → slice_range r.cells.items s.place (s.place + s.len) ≡ span_at now.spans k
  region-list k s is =
      ap (λ n. slice_range r.cells.items n (s.place + s.len)) (span-begins r.cells.items r.starts.items r.count laid.starts k s (here k s is))
      ∙ ap (slice_range r.cells.items (slice_index r.starts.items k)) (span-ends r.cells.items r.starts.items r.count laid.starts k s (here k s is))
      ∙ sym (spans-at r.cells.items r.starts.items r.count laid.starts k [] (omega (arith, is.known, region-length)))
      ∙ ap (λ c. span_at c.spans k) view

  -- the mark's number of cells is the start of its number of spans
  pub region-mark : (m : Mark) → m.spans ≤ r.count → slice_index r.starts.items m.spans ≡ m.cells → IsMark now.spans m
  region-mark m known is = record {
    known = omega (arith, region-length);
    cells =
        sym is
        ∙ sym (mark-at r.cells.items r.starts.items r.count laid.starts m.spans (omega (arith, length-spans r.cells.items r.starts.items r.count laid.starts)))
        ∙ ap (λ c. cells_before c.spans m.spans) view;
  }

  pub region-marked : (m : Mark) → IsMark now.spans m → slice_index r.starts.items m.spans ≡ m.cells
  region-marked m is =
      sym (
      is.cells
      ∙ ap (λ c. cells_before c.spans m.spans) (sym view)
      ∙ mark-at r.cells.items r.starts.items r.count laid.starts m.spans (omega (arith, length-spans r.cells.items r.starts.items r.count laid.starts, is.known, region-length))
      )

  pub region-released : (k : ℕ) → k ≤ length now.spans
      → let next : Cells = record { capacity = length r.cells.items; spans = spans_of r.cells.items r.starts.items k } in
      next ≡ record { capacity = now.capacity; spans = take k now.spans }
  region-released k within =
      ap (cells_made (length r.cells.items)) (spans-released r.cells.items r.starts.items r.count laid.starts k (omega (arith, region-length)))
      ∙ ap (λ c. cells_made c.capacity (take k c.spans)) view

  pub laid-released : (k : ℕ) → k ≤ length now.spans → IsLaidOut (record r { count = k })
  laid-released k within = record {
    few = laid.few;
    room = laid.room;
    starts = starts-released r.cells.items r.starts.items r.count laid.starts k (omega (arith, region-length));
  }

-- what the fields of a region say when it has one more span
pub record HasOneMore (next : Inside) (now : Cells) (place len : ℕ) : Type 0 where
  pub laid : IsLaidOut next
  pub taken : cells_of next ≡ record { capacity = now.capacity; spans = now.spans ++ replicate len 0 ∷ [] }
  pub span : IsSpan (cells_of next).spans (length now.spans) (record { place = place; len = len })

-- one more span: after the last, with 0 in each of its cells
module _ (r next : Inside) (now : Cells) (view : cells_of r ≡ now) (laid : IsLaidOut r) (place len : ℕ) (some : 0 < len)
    (begins : place ≡ slice_index r.starts.items r.count) (fits : place + len ≤ length r.cells.items)
    (filled : IsRangeFilled r.cells.items next.cells.items place (place + len) 0)
    (starts : next.starts.items ≡ set r.starts.items (r.count + 1) (place + len)) (count : next.count ≡ r.count + 1) where
  early : (k : ℕ) → k ≤ r.count → slice_index next.starts.items k ≡ slice_index r.starts.items k
  early k before =
      ap (λ xs. slice_index xs k) starts
      ∙ get_or-set_other r.starts.items (r.count + 1) k (place + len) 0 (let apart : k ≢ r.count + 1 = omega arith in apart)

  last : slice_index next.starts.items (r.count + 1) ≡ place + len
  last = ap (λ xs. slice_index xs (r.count + 1)) starts ∙ get_or-set_same r.starts.items (r.count + 1) (place + len) 0 (starts-room r now view laid place len some begins fits)

  good : AreStarts next.starts.items (r.count + 1) (length next.cells.items)
  good = record {
    first = early 0 (omega arith) ∙ laid.starts.first;
    rising = rising;
    within = omega (arith, last, filled.size);
  } where
    rising : (k : ℕ) → k < r.count + 1 → slice_index next.starts.items k < slice_index next.starts.items (k + 1)
    rising k below =
        elim (cases_lt k r.count) [
          | inl before ↦ omega (arith, early k (omega arith), early (k + 1) (omega arith), laid.starts.rising k before)
          | inr behind ↦ let at : k ≡ r.count = omega arith in
              omega (
                arith,
                ap (slice_index next.starts.items) at,
                ap (λ i. slice_index next.starts.items (i + 1)) at,
                early r.count (omega arith),
                last,
                begins,
              )
        ]

  laid-taken : IsLaidOut next
  laid-taken = record {
    few = omega (arith, filled.size, laid.few);
    room = ap length starts ∙ length-set r.starts.items (r.count + 1) (place + len) ∙ laid.room ∙ ap (λ n. n + 1) (sym filled.size);
    starts = subst (λ n. AreStarts next.starts.items n (length next.cells.items)) (sym count) good;
  }

  same : (k : ℕ) → k < r.count → between_starts next.cells.items next.starts.items k ≡ between_starts r.cells.items r.starts.items k
  same k below =
      ap (λ a. slice_range next.cells.items a (slice_index next.starts.items (k + 1))) (early k (omega arith))
      ∙ ap (slice_range next.cells.items (slice_index r.starts.items k)) (early (k + 1) (omega arith))
      ∙ filled.outside (slice_index r.starts.items k) (slice_index r.starts.items (k + 1))
      (inr (omega (arith, begins, start-rises r.starts.items r.count (length r.cells.items) laid.starts (k + 1) r.count (omega arith) (omega arith))))

  new : between_starts next.cells.items next.starts.items r.count ≡ replicate len 0
  new =
      ap (λ a. slice_range next.cells.items a (slice_index next.starts.items (r.count + 1))) (early r.count (omega arith) ∙ sym begins)
      ∙ ap (slice_range next.cells.items place) last
      ∙ filled.inside
      ∙ ap (λ n. replicate n 0) (let e : place + len - place ≡ len = omega arith in e)

  region-taken : cells_of next ≡ record { capacity = now.capacity; spans = now.spans ++ replicate len 0 ∷ [] }
  region-taken =
      ap (cells_made (length next.cells.items)) (ap (spans_of next.cells.items next.starts.items) count)
      ∙ ap (cells_made (length next.cells.items)) (spans-grown r.cells.items r.starts.items next.cells.items next.starts.items r.count (replicate len 0) laid.starts same new)
      ∙ ap (λ n. cells_made n (spans_of r.cells.items r.starts.items r.count ++ replicate len 0 ∷ [])) filled.size
      ∙ ap (λ c. cells_made c.capacity (c.spans ++ replicate len 0 ∷ [])) view

  span-taken : IsSpan (cells_of next).spans (length now.spans) (record { place = place; len = len })
  span-taken =
      subst (λ spans. IsSpan spans (length now.spans) (record { place = place; len = len })) (sym (ap (λ c. c.spans) region-taken)) (
      record {
        known = omega (arith, length_push now.spans (replicate len 0));
        begins =
            begins
            ∙ region-used r now view laid
            ∙ sym (ap (sum_by length) (take_at now.spans (replicate len 0 ∷ []) (length now.spans) refl));
        extends = sym (ap length (get_or_push now.spans (replicate len 0) [] (length now.spans) refl) ∙ length-replicate len 0);
      }
      )

  pub one_more : HasOneMore next now place len
  one_more = record { laid = laid-taken; taken = region-taken; span = span-taken }
