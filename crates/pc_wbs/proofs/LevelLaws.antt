-- How levels distinguish rows above one another.
use Rattle.std.proofs.Common.{◌≡◌, ℕ, ◌+◌, ◌≤◌, List, Some, refl, ap, ◌∙◌, arith}
use Rattle.pc_wbs.specs.declared.tree.ItemRow.{ItemRow}
use Rattle.pc_wbs.specs.Climb.{climb, IsBelow, HasLevel}
use Rattle.pc_wbs.proofs.ClimbLaws.{climb-add, HasLevel-same}

-- a row is as many levels below another as there are steps between them
pub climb-level : (rows : List ItemRow) (x y k own level : ℕ) → climb rows k x ≡ Some y → HasLevel rows x own → HasLevel rows y level → own ≡ level + k
climb-level rows x y k own level h has (j, (top, (g, t, l))) =
    let above : HasLevel rows x (k + j + 1) = (k + j, (top, (climb-add rows k j (k + j) x y refl h ∙ g, t, refl))) in
    let same = HasLevel-same rows x own (k + j + 1) has above in
    omega arith

-- no row below is at a lesser level
pub level-IsBelow : (rows : List ItemRow) (x y own level : ℕ) → IsBelow rows x y → HasLevel rows x own → HasLevel rows y level → level ≤ own
level-IsBelow rows x y own level (k, h) has at = omega (arith, climb-level rows x y k own level h has at)

-- of two rows at one level at most one is above a row
pub IsBelow-same_level : (rows : List ItemRow) (x y z own level : ℕ) → HasLevel rows x own → IsBelow rows x y → IsBelow rows x z → HasLevel rows y level → HasLevel rows z level → y ≡ z
IsBelow-same_level rows x y z own level has (k, h) (j, g) at_y at_z =
    let by_y = climb-level rows x y k own level h has at_y in
    let by_z = climb-level rows x z j own level g has at_z in
    let steps : k ≡ j = omega arith in
    let same = ap (λ n. climb rows n x) steps in
    cc
