-- Where a session's region keeps what it keeps.
use Rattle.std.specs.Prelude.{◌≡◌, ℕ, ◌<◌, ◌≤◌, List, [], ◌∷◌, length, replicate, take, Some, unwrap_or, slice_index}
use Rattle.pc_cells.specs.Spans.{Cells}
use Rattle.pc_cells.specs.inside.Spans.{free_of, span_at, IsSpan}
use Rattle.pc_model.specs.Network.{Network}
use Rattle.pc_model.specs.declared.limits.TheConstants.{MAX_VARIANCE}
use Rattle.pc_times.specs.Picked.{IsPickedWalk}
use Rattle.pc_times.specs.Times.{AreEarly}
use Rattle.pc_times.specs.inside.Times.{AreTails}
use Rattle.pc_times.specs.declared.TheConstants.{MAX_ACTIVITY_LENGTH, MAX_TIME}
use Rattle.pc_whatif.specs.declared.trials.SessionRegion.TheInside.{Inside}
use Rattle.pc_whatif.specs.declared.trials.Spans.{Spans}
use Rattle.pc_whatif.specs.inside.trials.SessionRegion.{SessionRegion}

-- the spans are the first five of a region
pub record AreSpans (lists : List (List ℕ)) (s : Spans) : Type 0 where
  pub expected : IsSpan lists 0 s.expected
  pub variances : IsSpan lists 1 s.variances
  pub early : IsSpan lists 2 s.early
  pub tails : IsSpan lists 3 s.tails
  pub path_cells : IsSpan lists 4 s.path_cells

-- Taking them

-- the region has five spans with zeros
pub record AreSpansTaken (old new : Cells) (events activities : ℕ) (s : Spans) : Type 0 where
  pub region : new ≡ record {
    capacity = old.capacity;
    spans = replicate activities 0 ∷ replicate activities 0 ∷ replicate events 0 ∷ replicate events 0 ∷ replicate events 0 ∷ [];
  }
  pub spans : AreSpans new.spans s

-- The fields of a session's region

-- a region without cells
abbrev pub no_region : Cells
no_region = record { capacity = 0; spans = [] }

-- the region of the fields
abbrev pub region_of : Inside → Cells
region_of r = unwrap_or r.region no_region

-- the contents of its n-th span
abbrev pub span_list : Cells → ℕ → List ℕ
span_list region n = span_at region.spans n

-- what a region keeps
abbrev pub kept_in : Cells → ℕ → SessionRegion
kept_in region path_len = record {
  expected = span_list region 0;
  variances = span_list region 1;
  early = span_list region 2;
  tails = span_list region 3;
  path_cells = span_list region 4;
  path_len = path_len;
  free = free_of region;
}

-- what the fields keep
abbrev pub session_region_of : Inside → SessionRegion
session_region_of r = kept_in (region_of r) r.path_len

-- no number of the list is greater
abbrev pub AreAtMost : ℕ → List ℕ → Type 0
AreAtMost most xs = (i : ℕ) → i < length xs → slice_index xs i ≤ most

-- the lists fit together, and no number is too great
pub record IsSoundRegion (r : SessionRegion) : Type 0 where
  pub variances : length r.variances ≡ length r.expected
  pub tails : length r.tails ≡ length r.early
  pub path_cells : length r.path_cells ≡ length r.early
  pub path_len : r.path_len ≤ length r.path_cells
  pub small_expected : AreAtMost MAX_ACTIVITY_LENGTH r.expected
  pub small_variances : AreAtMost MAX_VARIANCE r.variances
  pub small_early : AreAtMost MAX_TIME r.early
  pub small_tails : AreAtMost MAX_TIME r.tails

-- a region has these five spans and no other
pub record IsLaidIn (region : Cells) (spans : Spans) : Type 0 where
  pub count : length region.spans ≡ 5
  pub live : AreSpans region.spans spans

-- the region is there, with its spans; and there is a place for each event's number
pub record IsLaid (r : Inside) : Type 0 where
  pub here : r.region ≡ Some (region_of r)
  pub laid : IsLaidIn (region_of r) r.spans
  pub whole : IsSoundRegion (session_region_of r)
  pub room : length r.room.items ≡ length (span_list (region_of r) 2)

-- Renewing

-- the times in the new region are those of the expected times, and all else is as it was
pub record AreRenewed (net : Network) (spans : Spans) (old new : Cells) (path_len : ℕ) : Type 0 where
  pub laid : IsLaidIn new spans
  pub expected : span_list new 0 ≡ span_list old 0
  pub variances : span_list new 1 ≡ span_list old 1
  pub early : AreEarly net (span_list old 0) (span_list new 2)
  pub tails : AreTails net (span_list old 0) (span_list new 3)
  pub path : IsPickedWalk net (span_list old 0) (take path_len (span_list new 4))
  pub path_cells : length (span_list new 4) ≡ net.events
  pub short : path_len < net.events
  pub free : free_of new ≡ free_of old
  pub small_early : AreAtMost MAX_TIME (span_list new 2)
  pub small_tails : AreAtMost MAX_TIME (span_list new 3)
