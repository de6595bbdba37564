use Rattle.std.proofs.Common.{◌≡◌, ◌&&◌, not, nat_eq, drop}
use Rattle.std.specs.List.{list_all}
use Rattle.pc_text.proofs.code.has_no_comma.Given as goal

abbrev pub invariant-loop-cell : goal.invariant-loop-cell
invariant-loop-cell l =
    list_all (λ cell. not (nat_eq cell 44)) l.cells ≡ (l.has_no_comma && list_all (λ cell. not (nat_eq cell 44)) (drop l.cell-index l.cells))
