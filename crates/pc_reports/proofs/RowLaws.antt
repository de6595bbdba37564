-- Rows with the same cells are the same.
use Rattle.std.proofs.Common.{◌≡◌, ℕ, ℤ, List}
use Rattle.pc_reports.specs.TimesText.{event_cells, activity_cells}

pub event_cells-same : {code code' date date' : List ℕ} {early early' : ℕ} {late late' : ℤ} → code ≡ code' → early ≡ early' → late ≡ late' →
    date ≡ date' → event_cells code early late date ≡ event_cells code' early' late' date'
event_cells-same p q r s i = event_cells (p i) (q i) (r i) (s i)

pub activity_cells-same : {code code' : List ℕ} {expected expected' variance variance' : ℕ} {slack slack' : ℤ} → code ≡ code' →
    expected ≡ expected' → variance ≡ variance' → slack ≡ slack' →
    activity_cells code expected variance slack ≡ activity_cells code' expected' variance' slack'
activity_cells-same p q r s i = activity_cells (p i) (q i) (r i) (s i)
