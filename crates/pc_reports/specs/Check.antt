-- The text that reports that a deck is accepted.
use Rattle.std.specs.Prelude.{ℕ, List, ◌++◌, codes}
use Rattle.pc_project.specs.Project.{Project}
use Rattle.pc_project.specs.declared.project.Counts.{Counts}
use Rattle.pc_edges.specs.page.Lines.{word_line, number_line}

-- how many cards of each kind there are, a line each
abbrev pub counts_text : Counts → List ℕ
counts_text counts =
    number_line (codes "events ") counts.events
    ++ number_line (codes "activities ") counts.activities
    ++ number_line (codes "items ") counts.items
    ++ number_line (codes "accounts ") counts.accounts
    ++ number_line (codes "charges ") counts.charges
    ++ number_line (codes "togos ") counts.togos
    ++ number_line (codes "statuses ") counts.statuses

-- the project is accepted, and how many cards of each kind it has
abbrev pub check_text : Project → List ℕ
check_text project = word_line (codes "accepted ") project.heading.code ++ counts_text project.counts
