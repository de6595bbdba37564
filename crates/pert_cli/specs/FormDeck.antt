-- Which deck a form is about: that of the source, or one of its own, for which nothing is read; and its sort.
use Rattle.std.specs.Prelude.{◌≡◌, ℕ, List, Option, Some, None, String}
use Rattle.std.specs.declared.alloc.Global.{Global}
use Rattle.pc_curve.specs.bench.Deck.{bench_deck_text}
use Rattle.pc_cards.specs.declared.sort.Sort.{Sort}
use Rattle.pc_cards.specs.declared.sort.Sort.TheVariants.{Plan, Tasks}
use Rattle.pc_faults.specs.declared.fault.Fault.{Fault}
use Rattle.pc_project.specs.Project.{Project}
use Rattle.pert_cli.specs.declared.forms.Form.{Form}
use Rattle.pert_cli.specs.declared.forms.Form.TheVariants.{Arrows, Bench}
use Rattle.pc_project.specs.shell.Sides.{Side, IsUntouched}
use Rattle.pc_project.specs.shell.Reading.{HasProjectBy, HasRefusalBy}
use Rattle.pert_cli.specs.Verdicts.{IsFaultAs, IsMadeAs}
use Rattle.pert_cli.specs.Words.{AskFor}

-- the deck that a form has of its own; the other forms read the source's
abbrev pub own_deck : Form → Option (List ℕ)
own_deck (Bench n) = Some (bench_deck_text n)
own_deck _ = None

-- the sort of the deck that a form speaks of
abbrev pub sort_of : Form → Sort
sort_of Arrows = Tasks
sort_of _ = Plan

-- the form reads the source
abbrev pub ReadsSource : Form → Type 0
ReadsSource form = own_deck form ≡ None

-- the form has this deck of its own
abbrev pub IsOwnDeck : Form → List ℕ → Type 0
IsOwnDeck form deck = own_deck form ≡ Some deck

-- the words ask for a form that reads the source
abbrev pub AskToRead : List (String Global) → Type 0
AskToRead words = (form : Form) × AskFor form words × ReadsSource form

-- the form's deck is accepted, and this is its project: the source's, which was read to its end, or the form's own, for
-- which nothing was read
pub data HasProjectFor {X : Type 0} (form : Form) (source : Side X) (project : Project) : Type 0 where
  project_read : ReadsSource form → HasProjectBy (IsMadeAs (sort_of form)) source project → HasProjectFor form source project
  project_owned : (deck : List ℕ) → IsOwnDeck form deck → IsUntouched source → IsMadeAs (sort_of form) deck project → HasProjectFor form source project

-- the form's deck is refused with the fault
pub data HasRefusalFor {X : Type 0} (form : Form) (source : Side X) (fault : Fault) : Type 0 where
  refusal_read : ReadsSource form → HasRefusalBy (IsFaultAs (sort_of form)) source fault → HasRefusalFor form source fault
  refusal_owned : (deck : List ℕ) → IsOwnDeck form deck → IsUntouched source → IsFaultAs (sort_of form) deck fault → HasRefusalFor form source fault
