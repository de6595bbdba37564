-- Where climbs from all rows end, and the first row without a parent among the rows that were seen.
use Rattle.std.specs.Prelude.{◌≡◌, ◌≢◌, ℕ, ◌<◌, ◌≤◌, min, List, length, Option, Some, None, option_and_then, slice_index}
use Rattle.pc_model.specs.declared.limits.TheConstants.{MAX_LEVEL}
use Rattle.pc_wbs.specs.declared.tree.ItemRow.{ItemRow}
use Rattle.pc_wbs.specs.Climb.{parent_of, climb, HasLevel, IsTop}
use Rattle.pc_model.specs.Greatest.{IsFirst, StandsBelow}
use Rattle.pc_wbs.specs.inside.Links.{linked_row_at}
use Rattle.pc_wbs.specs.Refusal.{IsLooped}

-- the ends of climbs of this many steps, one from each of the first n rows
pub record AreEnds (rows : List ItemRow) (n steps : ℕ) (ends : List (Option ℕ)) : Type 0 where
  pub one_each : length ends ≡ n
  pub end : (x : ℕ) → x < n → linked_row_at ends x ≡ climb rows steps x

-- of the first n ends, where climbs of twice as many steps end
pub record AreDoubled (ends : List (Option ℕ)) (n : ℕ) (twice : List (Option ℕ)) : Type 0 where
  pub one_each : length twice ≡ n
  pub end : (x : ℕ) → x < n → linked_row_at twice x ≡ option_and_then (linked_row_at ends) (linked_row_at ends x)

-- each end is again one of the rows
abbrev pub StayInside : List (Option ℕ) → Type 0
StayInside ends = (x y : ℕ) → x < length ends → linked_row_at ends x ≡ Some y → y < length ends

-- the least of the first n ends, if there is one
abbrev pub IsLeastBelow : List (Option ℕ) → ℕ → Option ℕ → Type 0
IsLeastBelow ends n None = (x : ℕ) → x < n → linked_row_at ends x ≡ None
IsLeastBelow ends n (Some least) =
    ((x : ℕ) × ((x < n) × (linked_row_at ends x ≡ Some least))) × ((x y : ℕ) → x < n → linked_row_at ends x ≡ Some y → least ≤ y)

-- the first row on a loop, if there is one
abbrev pub IsFirstLooped : List ItemRow → Option ℕ → Type 0
IsFirstLooped rows None = (x : ℕ) → IsLooped rows x → ⊥
IsFirstLooped rows (Some x) = IsFirst (IsLooped rows) x

-- the only row without a parent among the first n, if there is one
abbrev pub IsTopBelow : List ItemRow → ℕ → Option ℕ → Type 0
IsTopBelow rows n None = (x : ℕ) → x < n → parent_of rows x ≢ None
IsTopBelow rows n (Some top) =
    (top < n) × IsTop rows top × ((x : ℕ) → x < n → parent_of rows x ≡ None → x ≡ top)

-- the lesser of two numbers, where one may be missing
abbrev pub lesser : Option ℕ → Option ℕ → Option ℕ
lesser (Some a) (Some b) = Some (min a b)
lesser None b = b
lesser (Some a) None = Some a

-- the level of each of the first n rows
pub record AreLevels (rows : List ItemRow) (n : ℕ) (levels : List ℕ) : Type 0 where
  pub one_each : length levels ≡ n
  pub level : (x : ℕ) → x < n → HasLevel rows x (slice_index levels x)
  pub within : (x : ℕ) → x < n → slice_index levels x ≤ MAX_LEVEL

-- the greatest of the first n numbers, or 0 if there are none
pub record AreGreatest (xs : List ℕ) (n greatest : ℕ) : Type 0 where
  pub bound : (k : ℕ) → k < n → slice_index xs k ≤ greatest
  pub attained : 0 < n → StandsBelow xs n greatest
  pub none : n ≡ 0 → greatest ≡ 0
