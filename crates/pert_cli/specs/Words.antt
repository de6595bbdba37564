-- The words of the command line, and what they ask for.
use Rattle.std.specs.Prelude.{ℕ, List, [], ◌∷◌, ◌++◌, map, codes, String}
use Rattle.std.specs.String.{string_bytes}
use Rattle.std.specs.declared.alloc.Global.{Global}
use Rattle.pert_cli.specs.declared.forms.Form.{Form}
use Rattle.pert_cli.specs.Forms.{forms, form_name, IsAskedBy}

-- the words ask for the form
abbrev pub AskFor : Form → List (String Global) → Type 0
AskFor form words = IsAskedBy form (map string_bytes words)

-- the words ask for some form
abbrev pub AskForOne : List (String Global) → Type 0
AskForOne words = (form : Form) × AskFor form words

-- the words ask for no form
abbrev pub AskForNone : List (String Global) → Type 0
AskForNone words = (form : Form) → AskFor form words → ⊥

-- names with a bar between one and the next
abbrev pub barred : List (List ℕ) → List ℕ
barred [] = []
barred (name ∷ []) = name
barred (name ∷ other ∷ names) = name ++ (codes " | " ++ barred (other ∷ names))

-- the line that names the forms of the command line
abbrev pub usage_text : List ℕ
usage_text = codes "usage: pert " ++ (barred (map form_name forms) ++ 10 ∷ [])
