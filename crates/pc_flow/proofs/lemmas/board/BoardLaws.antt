-- What the fields of a board say of its sheet, and what one write changes.
use Rattle.std.proofs.Common.{◌≡◌, ℕ, ◌+◌, ◌^◌, ◌<◌, List, length, set, refl, sym, ◌∙◌, ap, subst, inl, inr, arith}
use Rattle.std.specs.Prelude.{slice_index, IsTrue, ◌==◌, if◌then◌else◌}
use Rattle.std.proofs.lemmas.List.{take-set-le, length-set, get_or-set_same, get_or-set_other}
use Rattle.std.proofs.lemmas.Bool.{cases_eq, eq-eqb, ne_eqb, cond-true, cond-false}
use Rattle.pc_cells.specs.Spans.{Cells}
use Rattle.pc_cells.specs.inside.Spans.{with_span, cells_before, IsSpan}
use Rattle.pc_cells.proofs.LiveLaws.{live-set, cells_before-set}
use Rattle.pc_flow.specs.declared.board.board.Column.{Column}
use Rattle.pc_flow.specs.declared.board.board.Column.TheVariants.{Time, Rank, Queue, Step, Against, Near, Room, Lost, Flow, Waiting, Slot, Due, Up, Down}
use Rattle.pc_flow.specs.declared.board.board.Board.TheInside.{Inside}
use Rattle.pc_flow.specs.board.Sheets.{Sheet}
use Rattle.pc_flow.specs.inside.board.Places.{place_of, span_of, column_of, with_column, size_of, small_at, is_small, IsSetAt}
use Rattle.pc_flow.specs.inside.board.Layout.{laid_sheet, list_behind, home_of, sheet_of, IsBoard}

-- the column of a sheet is the list at its place
laid-column : (events activities : ℕ) (home : Cells) (f : ℕ → List ℕ) (fallen count head len : ℕ) (column : Column)
    → column_of (laid_sheet events activities home f fallen count head len) column ≡ f (place_of column)
laid-column events activities home f fallen count head len Time = refl
laid-column events activities home f fallen count head len Rank = refl
laid-column events activities home f fallen count head len Queue = refl
laid-column events activities home f fallen count head len Step = refl
laid-column events activities home f fallen count head len Against = refl
laid-column events activities home f fallen count head len Near = refl
laid-column events activities home f fallen count head len Room = refl
laid-column events activities home f fallen count head len Lost = refl
laid-column events activities home f fallen count head len Flow = refl
laid-column events activities home f fallen count head len Waiting = refl
laid-column events activities home f fallen count head len Slot = refl
laid-column events activities home f fallen count head len Due = refl
laid-column events activities home f fallen count head len Up = refl
laid-column events activities home f fallen count head len Down = refl

laid-with_column : (events activities : ℕ) (home : Cells) (f : ℕ → List ℕ) (fallen count head len : ℕ) (column : Column) (xs : List ℕ)
    → laid_sheet events activities home (λ n. if n == place_of column then xs else f n) fallen count head len
    ≡ with_column (laid_sheet events activities home f fallen count head len) column xs
laid-with_column events activities home f fallen count head len Time xs = refl
laid-with_column events activities home f fallen count head len Rank xs = refl
laid-with_column events activities home f fallen count head len Queue xs = refl
laid-with_column events activities home f fallen count head len Step xs = refl
laid-with_column events activities home f fallen count head len Against xs = refl
laid-with_column events activities home f fallen count head len Near xs = refl
laid-with_column events activities home f fallen count head len Room xs = refl
laid-with_column events activities home f fallen count head len Lost xs = refl
laid-with_column events activities home f fallen count head len Flow xs = refl
laid-with_column events activities home f fallen count head len Waiting xs = refl
laid-with_column events activities home f fallen count head len Slot xs = refl
laid-with_column events activities home f fallen count head len Due xs = refl
laid-with_column events activities home f fallen count head len Up xs = refl
laid-with_column events activities home f fallen count head len Down xs = refl

-- lists that agree make the same sheet
pub laid-same : (events activities : ℕ) (home : Cells) (f g : ℕ → List ℕ) (fallen count head len : ℕ) → ((n : ℕ) → f n ≡ g n)
    → laid_sheet events activities home f fallen count head len ≡ laid_sheet events activities home g fallen count head len
laid-same events activities home f g fallen count head len same =
    ap (λ h. laid_sheet events activities home h fallen count head len) (λ i n. same n i)

abbrev pub home_made : ℕ → List (List ℕ) → Cells
home_made capacity spans = record { capacity = capacity; spans = spans }

module _ (b : Inside) (s : Sheet) (view : sheet_of b ≡ s) (ok : IsBoard b) where
  pub column-is : (column : Column) → list_behind b.region.spans b.mark.spans (place_of column) ≡ column_of s column
  column-is column =
      sym (laid-column b.columns.time.len b.columns.flow.len (home_of b.region b.mark.spans) (list_behind b.region.spans b.mark.spans) b.fallen b.count b.head b.len column)
      ∙ ap (λ t. column_of t column) view

  pub size-is : (column : Column) → (span_of b.columns column).len ≡ size_of s.events s.activities column
  size-is column = ok.size column ∙ ap (λ (t : Sheet). size_of t.events t.activities column) view

  -- a span of the board is written: the sheet has one number set
  module _ (region : Cells) (column : Column) (i v : ℕ) (within : i < size_of s.events s.activities column)
      (written : region ≡ with_span b.region (b.mark.spans + place_of column) (set (list_behind b.region.spans b.mark.spans (place_of column)) i v)) where
    abbrev old : List ℕ
    old = list_behind b.region.spans b.mark.spans (place_of column)

    abbrev xs : List ℕ
    xs = set old i v

    size : length old ≡ size_of s.events s.activities column
    size = sym (ok.live column).extends ∙ size-is column

    spans : region.spans ≡ set b.region.spans (b.mark.spans + place_of column) xs
    spans = ap (λ (r : Cells). r.spans) written

    list-at : (n : ℕ) → list_behind region.spans b.mark.spans n ≡ (if n == place_of column then xs else list_behind b.region.spans b.mark.spans n)
    list-at n =
        ap (λ ys. list_behind ys b.mark.spans n) spans
        ∙ elim (cases_eq n (place_of column)) [
          | inl same ↦
              ap (λ m. list_behind (set b.region.spans (b.mark.spans + place_of column) xs) b.mark.spans m) same
              ∙ get_or-set_same b.region.spans (b.mark.spans + place_of column) xs _ (ok.live column).known
              ∙ sym (cond-true (n == place_of column) xs (list_behind b.region.spans b.mark.spans n) (eq-eqb n (place_of column) same))
          | inr apart ↦
              get_or-set_other b.region.spans (b.mark.spans + place_of column) (b.mark.spans + n) xs _ (λ (e : b.mark.spans + n ≡ b.mark.spans + place_of column). apart (omega arith))
              ∙ sym (cond-false (n == place_of column) xs (list_behind b.region.spans b.mark.spans n) (ne_eqb n (place_of column) apart))
        ]

    home : home_of region b.mark.spans ≡ home_of b.region b.mark.spans
    home =
        ap (λ (r : Cells). home_of r b.mark.spans) written
        ∙ ap (λ ys. home_made b.region.capacity ys) (take-set-le b.mark.spans b.region.spans (b.mark.spans + place_of column) xs (omega arith))

    abbrev next : Inside
    next = record b { region = region }

    pub sheet-written : sheet_of next ≡ with_column s column xs
    sheet-written =
        ap (λ h. laid_sheet b.columns.time.len b.columns.flow.len h (list_behind region.spans b.mark.spans) b.fallen b.count b.head b.len) home
        ∙ laid-same b.columns.time.len b.columns.flow.len (home_of b.region b.mark.spans) (list_behind region.spans b.mark.spans)
        (λ n. if n == place_of column then xs else list_behind b.region.spans b.mark.spans n) b.fallen b.count b.head b.len list-at
        ∙ laid-with_column b.columns.time.len b.columns.flow.len (home_of b.region b.mark.spans) (list_behind b.region.spans b.mark.spans) b.fallen b.count b.head b.len column xs
        ∙ ap (λ t. with_column t column xs) view

    column-now : column_of (sheet_of next) column ≡ xs
    column-now = sym (ap (λ ys. ys) (column-next)) where
      column-next : xs ≡ column_of (sheet_of next) column
      column-next =
          sym (cond-true (place_of column == place_of column) xs (list_behind b.region.spans b.mark.spans (place_of column)) (eq-eqb (place_of column) (place_of column) refl))
          ∙ sym (list-at (place_of column))
          ∙ sym (laid-column b.columns.time.len b.columns.flow.len (home_of region b.mark.spans) (list_behind region.spans b.mark.spans) b.fallen b.count b.head b.len column)

    pub set-written : IsSetAt s (sheet_of next) column i v
    set-written = record {
      rest = sheet-written ∙ ap (with_column s column) (sym column-now);
      at = ap (λ ys. slice_index ys i) column-now ∙ get_or-set_same old i v 0 (omega (arith, size));
      off = λ k apart.
          ap (λ ys. slice_index ys k) column-now
          ∙ get_or-set_other old i k v 0 apart
          ∙ ap (λ ys. slice_index ys k) (column-is column);
    }

    pub board-written : (IsTrue (is_small column) → v < 2 ^ 32) → IsBoard next
    board-written fits = record {
      mark = record {
        known = omega (arith, ok.mark.known, ap length spans, length-set b.region.spans (b.mark.spans + place_of column) xs);
        cells =
            ok.mark.cells
            ∙ sym (
            ap (λ ys. cells_before ys b.mark.spans) spans
            ∙ cells_before-set b.region.spans (b.mark.spans + place_of column) b.mark.spans xs (length-set old i v)
            );
      };
      live = λ other.
          subst (λ ys. IsSpan ys (b.mark.spans + place_of other) (span_of b.columns other)) (sym spans)
          (live-set b.region.spans (b.mark.spans + place_of column) (b.mark.spans + place_of other) xs (span_of b.columns other) (length-set old i v) (ok.live other));
      size = ok.size;
      few_events = ok.few_events;
      few_activities = ok.few_activities;
      small = small;
    } where
      small : (other : Column) → IsTrue (is_small other) → (k : ℕ) → slice_index (list_behind region.spans b.mark.spans (place_of other)) k < 2 ^ 32
      small other narrow k =
          elim (cases_eq (place_of other) (place_of column)) [
            | inl same ↦
                elim (cases_eq k i) [
                  | inl here ↦ omega (arith, now other same k, ap (slice_index xs) here, get_or-set_same old i v 0 (omega (arith, size)), fits (subst (λ n. IsTrue (small_at n)) same narrow))
                  | inr off ↦ omega (arith, now other same k, get_or-set_other old i k v 0 off, ap (λ n. slice_index (list_behind b.region.spans b.mark.spans n) k) same, ok.small other narrow k)
                ]
            | inr apart ↦
                omega (
                  arith,
                  ap (λ ys. slice_index ys k) (
                      list-at (place_of other)
                      ∙ cond-false (place_of other == place_of column) xs (list_behind b.region.spans b.mark.spans (place_of other)) (ne_eqb (place_of other) (place_of column) apart)
                      ),
                  ok.small other narrow k,
                )
          ]
        where
          now : (other : Column) → place_of other ≡ place_of column → (k : ℕ) → slice_index (list_behind region.spans b.mark.spans (place_of other)) k ≡ slice_index xs k
          now other same k =
              ap (λ ys. slice_index ys k) (
              list-at (place_of other)
              ∙ cond-true (place_of other == place_of column) xs (list_behind b.region.spans b.mark.spans (place_of other)) (eq-eqb (place_of other) (place_of column) same)
              )
