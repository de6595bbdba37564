-- What the pieces of each activity add up to, as far as they were read.
-- Here is what no clause of a top call and no law reaches.
use Rattle.std.specs.Prelude.{◌≡◌, ℕ, ◌+◌, ◌^◌, ◌<◌, List, length, slice_index_or}
use Rattle.pc_model.specs.declared.PieceRow.{PieceRow}
use Rattle.pc_model.specs.declared.Term.{Term}
use Rattle.pc_model.specs.Schedule.{term_at}
use Rattle.pc_faults.specs.declared.fault.Fault.{Fault}
use Rattle.pc_project.specs.PieceFaults.{HasFlaw}
use Rattle.pc_project.specs.declared.pieces.Run.{Run}

-- the run of activity a; past the end of the list, an empty one
abbrev pub run_at : List Run → ℕ → Run
run_at runs a = slice_index_or runs a (record { count = 0; slope = 0; units = 0 })

-- a run with one piece more
abbrev pub run_with : Run → PieceRow → Run
run_with run piece = record { count = run.count + 1; slope = piece.slope; units = run.units + piece.units }

-- the faults of a piece that follows the run of its activity
abbrev pub HasFlawBehind : List Term → List Run → PieceRow → ℕ → List ℕ → Fault → Type 0
HasFlawBehind terms runs piece row code fault =
    let run = run_at runs piece.activity in
    HasFlaw (term_at terms piece.activity) run.count run.slope run.units piece row code fault

-- a piece is one of an activity, and what the pieces add up to with it is small
pub record IsNextPiece (terms : List Term) (runs : List Run) (piece : PieceRow) : Type 0 where
  pub one_each : length runs ≡ length terms
  pub known : piece.activity < length terms
  pub count : (run_at runs piece.activity).count + 1 < 2 ^ 64
  pub units : (term_at terms piece.activity).crash + ((run_at runs piece.activity).units + piece.units) < 2 ^ 64
