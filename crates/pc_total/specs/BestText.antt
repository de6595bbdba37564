-- What is printed of an optimum.
use Rattle.std.specs.Prelude.{ℕ, ℤ, List, ◌++◌, Option, Some, None, codes}
use Rattle.std.specs.Fmt.{signed_decimal}
use Rattle.pc_edges.specs.page.Lines.{word_line, number_line}
use Rattle.pc_total.specs.declared.optimum.Best.{Best}

-- by how much a neighbour costs more, or a dash if there is none
abbrev pub difference : Option ℤ → List ℕ
difference None = codes "-"
difference (Some more) = signed_decimal more

-- the lines of the optimum of a project with this code: its length, the least cost of a schedule for it, what its time costs,
-- both together, and by how much the total is higher one unit shorter and one unit longer
abbrev pub best_text : List ℕ → Best → List ℕ
best_text code best =
    word_line (codes "OPTIMUM ") code
    ++ number_line (codes "LENGTH ") best.length
    ++ number_line (codes "DIRECT ") best.direct
    ++ word_line (codes "TIME ") (signed_decimal best.time)
    ++ word_line (codes "TOTAL ") (signed_decimal best.total)
    ++ word_line (codes "BELOW ") (difference best.below)
    ++ word_line (codes "ABOVE ") (difference best.above)
