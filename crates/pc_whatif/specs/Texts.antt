-- Short answers.
use Rattle.std.specs.Prelude.{ℕ, List, [], ◌∷◌, ◌++◌, Option, Some, None, codes}
use Rattle.pc_edges.specs.page.Lines.{number_line}
use Rattle.pc_whatif.specs.declared.edits.reason.Reason.{Reason}
use Rattle.pc_whatif.specs.edits.Reasons.{reason_number}

-- the line was accepted
abbrev pub ok_text : List ℕ
ok_text = codes "OK" ++ 10 ∷ []

-- the line was refused, for this reason
abbrev pub refused_text : Reason → List ℕ
refused_text reason = number_line (codes "NO ") (reason_number reason)

-- what a trial costs at least
abbrev pub cost_text : ℕ → List ℕ
cost_text cost = number_line (codes "COST ") cost

-- a line that is accepted unless there is a reason against it
abbrev pub outcome_text : Option Reason → List ℕ
outcome_text None = ok_text
outcome_text (Some reason) = refused_text reason
