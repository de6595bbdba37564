-- Which of two rows comes first in preorder, and which row comes next.
use Rattle.std.specs.Prelude.{◌≡◌, ℕ, ◌<◌, List, length, Option, Some, None, ◌⊎◌}
use Rattle.pc_wbs.specs.declared.tree.ItemRow.{ItemRow}
use Rattle.pc_wbs.specs.Climb.{parent_of, IsBelow}

-- u is below y and not y itself
abbrev pub IsUnder : List ItemRow → ℕ → ℕ → Type 0
IsUnder rows u y = (p : ℕ) × ((parent_of rows u ≡ Some p) × IsBelow rows p y)

-- u is the earlier of two siblings or below it, and v is the later one or below it
pub record Parts (rows : List ItemRow) (u v : ℕ) : Type 0 where
  pub earlier : ℕ
  pub later : ℕ
  pub parent : ℕ
  pub below_earlier : IsBelow rows u earlier
  pub below_later : IsBelow rows v later
  pub parent_earlier : parent_of rows earlier ≡ Some parent
  pub parent_later : parent_of rows later ≡ Some parent
  pub order : earlier < later

-- u comes before v
abbrev pub Precedes : List ItemRow → ℕ → ℕ → Type 0
Precedes rows u v = IsUnder rows v u ⊎ Parts rows u v

-- the row directly after x, or none if x is the last
abbrev pub IsSuccessor : List ItemRow → ℕ → Option ℕ → Type 0
IsSuccessor rows x None = (u : ℕ) → u < length rows → Precedes rows x u → ⊥
IsSuccessor rows x (Some next) =
    (next < length rows) × Precedes rows x next × ((u : ℕ) → u < length rows → Precedes rows x u → (u ≡ next) ⊎ Precedes rows next u)
