-- A board that is still empty.
use Rattle.std.proofs.Common.{◌≡◌, ℕ, ◌+◌, ◌^◌, ◌<◌, [], ◌++◌, length, take, get_or, refl, sym, ◌∙◌, ap, subst, arith}
use Rattle.std.specs.Prelude.{slice_index, sum_by}
use Rattle.std.proofs.lemmas.List.{length-append, get_or-append-add, take-append-le, take_at, length-replicate}
use Rattle.pc_model.proofs.Walks.PlaceLaws.{zero-at}
use Rattle.pc_cells.specs.declared.region.Mark.{Mark}
use Rattle.pc_cells.specs.Spans.{Cells}
use Rattle.pc_cells.specs.inside.Spans.{cells_before, IsSpan, IsMark}
use Rattle.pc_flow.specs.declared.board.board.Column.{Column}
use Rattle.pc_flow.specs.declared.board.board.Column.TheVariants.{Time, Rank, Queue, Step, Against, Near, Room, Lost, Flow, Waiting, Slot, Due, Up, Down}
use Rattle.pc_flow.specs.declared.board.board.Columns.{Columns}
use Rattle.pc_flow.specs.declared.board.board.Board.TheInside.{Inside}
use Rattle.pc_flow.specs.inside.board.Sheets.{clear_sheet}
use Rattle.pc_flow.specs.inside.board.Places.{place_of, span_of, size_of}
use Rattle.pc_flow.specs.inside.board.Taken.{AreColumnsTaken, zeros}
use Rattle.pc_flow.specs.inside.board.Layout.{laid_sheet, list_behind, home_of, sheet_of, IsBoard}
use Rattle.pc_flow.proofs.lemmas.board.BoardLaws.{laid-same, home_made}

zeros-at : (events activities : ℕ) (column : Column) (i : ℕ) → slice_index (get_or (zeros events activities) (place_of column) []) i ≡ 0
zeros-at events activities Time i = zero-at events i
zeros-at events activities Rank i = zero-at events i
zeros-at events activities Queue i = zero-at events i
zeros-at events activities Step i = zero-at events i
zeros-at events activities Against i = zero-at events i
zeros-at events activities Near i = zero-at events i
zeros-at events activities Room i = zero-at events i
zeros-at events activities Lost i = zero-at events i
zeros-at events activities Flow i = zero-at activities i
zeros-at events activities Waiting i = zero-at activities i
zeros-at events activities Slot i = zero-at activities i
zeros-at events activities Due i = zero-at activities i
zeros-at events activities Up i = zero-at activities i
zeros-at events activities Down i = zero-at activities i

zeros-size : (events activities : ℕ) (column : Column) → length (get_or (zeros events activities) (place_of column) []) ≡ size_of events activities column
zeros-size events activities Time = length-replicate events 0
zeros-size events activities Rank = length-replicate events 0
zeros-size events activities Queue = length-replicate events 0
zeros-size events activities Step = length-replicate events 0
zeros-size events activities Against = length-replicate events 0
zeros-size events activities Near = length-replicate events 0
zeros-size events activities Room = length-replicate events 0
zeros-size events activities Lost = length-replicate events 0
zeros-size events activities Flow = length-replicate activities 0
zeros-size events activities Waiting = length-replicate activities 0
zeros-size events activities Slot = length-replicate activities 0
zeros-size events activities Due = length-replicate activities 0
zeros-size events activities Up = length-replicate activities 0
zeros-size events activities Down = length-replicate activities 0

module _ (home now : Cells) (mark : Mark) (columns : Columns) (events activities : ℕ) (marked : IsMark home.spans mark) (all : mark.spans ≡ length home.spans)
    (taken : AreColumnsTaken home now events activities columns) where
  abbrev board : Inside
  board = record { region = now; mark = mark; columns = columns; fallen = 0; count = 0; head = 0; len = 0 }

  list-at : (n : ℕ) → list_behind now.spans mark.spans n ≡ get_or (zeros events activities) n []
  list-at n =
      ap (λ (r : Cells). get_or r.spans (mark.spans + n) []) taken.region
      ∙ ap (λ m. get_or (home.spans ++ zeros events activities) (m + n) []) all
      ∙ get_or-append-add home.spans (zeros events activities) n []

  live : (column : Column) → IsSpan now.spans (mark.spans + place_of column) (span_of columns column)
  live column = subst (λ m. IsSpan now.spans (m + place_of column) (span_of columns column)) (sym all) (taken.spans column)

  len : (column : Column) → (span_of columns column).len ≡ size_of events activities column
  len column = (live column).extends ∙ ap length (list-at (place_of column)) ∙ zeros-size events activities column

  pub clear-sheet : sheet_of board ≡ clear_sheet home events activities
  clear-sheet =
      laid-same columns.time.len columns.flow.len (home_of now mark.spans) (list_behind now.spans mark.spans) (λ n. get_or (zeros events activities) n []) 0 0 0 0 list-at
      ∙ ap (λ n. laid_sheet n columns.flow.len (home_of now mark.spans) (λ k. get_or (zeros events activities) k []) 0 0 0 0) (len Time)
      ∙ ap (λ n. laid_sheet events n (home_of now mark.spans) (λ k. get_or (zeros events activities) k []) 0 0 0 0) (len Flow)
      ∙ ap (λ r. laid_sheet events activities r (λ k. get_or (zeros events activities) k []) 0 0 0 0) home-is
    where
      home-is : home_of now mark.spans ≡ home
      home-is =
          ap (λ (r : Cells). home_of r mark.spans) taken.region
          ∙ ap (λ m. home_made home.capacity (take m (home.spans ++ zeros events activities))) all
          ∙ ap (home_made home.capacity) (take_at home.spans (zeros events activities) (length home.spans) refl)

  pub clear-board : events < 2 ^ 32 → activities < 2 ^ 32 → IsBoard board
  clear-board few_events few_activities = record {
    mark = record {
      known = omega (arith, all, ap (λ (r : Cells). length r.spans) taken.region, length-append home.spans (zeros events activities));
      cells =
          marked.cells
          ∙ sym (
          ap (λ (r : Cells). cells_before r.spans mark.spans) taken.region
          ∙ ap (sum_by length) (take-append-le mark.spans home.spans (zeros events activities) (omega (arith, all)))
          );
    };
    live = live;
    size = λ column. len column ∙ ap (λ n. size_of n activities column) (sym (len Time)) ∙ ap (λ n. size_of columns.time.len n column) (sym (len Flow));
    few_events = omega (arith, len Time);
    few_activities = omega (arith, len Flow);
    small = λ column narrow i. omega (arith, ap (λ xs. slice_index xs i) (list-at (place_of column)), zeros-at events activities column i);
  }
