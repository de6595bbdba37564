-- What is known of the deck that a form speaks of.
use Rattle.std.proofs.Common.{◌≡◌, ℕ, List, Result, Ok, Err, sym, ◌∙◌, subst}
use Rattle.std.specs.Prelude.{IfOk, IfErr}
use Rattle.std.proofs.lemmas.Option.{none-some, same_Some}
use Rattle.pc_faults.specs.declared.fault.Fault.{Fault}
use Rattle.pc_project.specs.Project.{Project}
use Rattle.pert_cli.specs.declared.forms.Form.{Form}
use Rattle.pert_cli.specs.FormDeck.{HasProjectFor, HasRefusalFor, IsOwnDeck, ReadsSource, project_owned, project_read, refusal_owned, refusal_read, sort_of}
use Rattle.pert_cli.specs.inside.FormDeck.{HasNoProjectFor, IsLeftBy}
use Rattle.pert_cli.specs.Outcome.{IsTurnedDown, by_deck, by_form}
use Rattle.pert_cli.specs.Verdicts.{IsFaultAs, IsMadeAs}
use Rattle.pc_project.specs.declared.shell.reading.NoProject.{NoProject}
use Rattle.pc_project.specs.declared.shell.reading.NoProject.TheVariants.{Refused, ReadFault, OutOfMemory}
use Rattle.pc_project.specs.shell.Reading.{HasProjectBy, HasRefusalBy}
use Rattle.pc_project.specs.inside.shell.Reading.{HasNoProjectBy, IsNoProjectBy}
use Rattle.pc_project.specs.shell.Sides.{Side, IsUntouched}

-- ---- one deck

-- a form that reads the source has no deck of its own
pub reads_not_owned : (form : Form) (deck : List ℕ) → ReadsSource form → IsOwnDeck form deck → ⊥
reads_not_owned form deck reads own = none-some deck (sym reads ∙ own)

-- and a form has one deck of its own
one_deck_of : (form : Form) (deck other : List ℕ) → IsOwnDeck form deck → IsOwnDeck form other → deck ≡ other
one_deck_of form deck other mine also = same_Some deck other (sym mine ∙ also)

-- ---- what holds of it

module _ {S : Type 0} (source : Side S) (form : Form) where
  -- a form that reads the source has the project that was read
  pub read_project : (project : Project) → ReadsSource form → HasProjectFor form source project → HasProjectBy (IsMadeAs (sort_of form)) source project
  read_project project reads (project_read also has) = has
  read_project project reads (project_owned deck own left is) = absurd (reads_not_owned form deck reads own)

  pub read_refusal : (fault : Fault) → ReadsSource form → HasRefusalFor form source fault → HasRefusalBy (IsFaultAs (sort_of form)) source fault
  read_refusal fault reads (refusal_read also has) = has
  read_refusal fault reads (refusal_owned deck own left is) = absurd (reads_not_owned form deck reads own)

  -- a form that has a deck of its own has the project of that
  pub owned_project : (deck : List ℕ) (project : Project) → IsOwnDeck form deck → HasProjectFor form source project → IsMadeAs (sort_of form) deck project
  owned_project deck project own (project_read reads has) = absurd (reads_not_owned form deck reads own)
  owned_project deck project own (project_owned mine also left is) =
      subst (λ bytes. IsMadeAs (sort_of form) bytes project) (one_deck_of form mine deck also own) is

  pub owned_refusal : (deck : List ℕ) (fault : Fault) → IsOwnDeck form deck → HasRefusalFor form source fault → IsFaultAs (sort_of form) deck fault
  owned_refusal deck fault own (refusal_read reads has) = absurd (reads_not_owned form deck reads own)
  owned_refusal deck fault own (refusal_owned mine also left is) =
      subst (λ bytes. IsFaultAs (sort_of form) bytes fault) (one_deck_of form mine deck also own) is

  -- and left the source as it was: where its deck is accepted
  pub left_with_project : (project : Project) → HasProjectFor form source project → IsLeftBy form source
  left_with_project project (project_read reads has) = λ deck own. absurd (reads_not_owned form deck reads own)
  left_with_project project (project_owned mine is left has) = λ deck own. left

  -- where it is refused
  pub left_with_refusal : (fault : Fault) → HasRefusalFor form source fault → IsLeftBy form source
  left_with_refusal fault (refusal_read reads has) = λ deck own. absurd (reads_not_owned form deck reads own)
  left_with_refusal fault (refusal_owned mine is left has) = λ deck own. left

  -- and where it or the form refuses
  pub left_turned_down : (fault : Fault) → IsTurnedDown form source fault → IsLeftBy form source
  left_turned_down fault (by_deck refusal) = left_with_refusal fault refusal
  left_turned_down fault (by_form project has denial) = left_with_project project has

-- ---- reading it

module _ {S : Type 0} (source : Side S) (form : Form) where
  -- what was read from the source is the form's, where it reads the source
  pub read_gives : (result : Result Project NoProject) → ReadsSource form → IfOk result (HasProjectBy (IsMadeAs (sort_of form)) source) → IfOk result (HasProjectFor form source)
  read_gives (Ok project) reads has = project_read reads has
  read_gives (Err none) reads has = tt

  pub read_lacks : (result : Result Project NoProject) → ReadsSource form → IfErr result (HasNoProjectBy (IsFaultAs (sort_of form)) source) → IfErr result (HasNoProjectFor form source)
  read_lacks (Ok project) reads why = tt
  read_lacks (Err (Refused fault)) reads why = (why.0, refusal_read reads why.1)
  read_lacks (Err ReadFault) reads why = (reads, why.0, why.1)
  read_lacks (Err OutOfMemory) reads why = λ deck own. absurd (reads_not_owned form deck reads own)

  -- the project made of its own deck is the form's
  pub own_gives : (result : Result Project NoProject) (deck : List ℕ) → IsOwnDeck form deck → IsUntouched source → IfOk result (IsMadeAs (sort_of form) deck) → IfOk result (HasProjectFor form source)
  own_gives (Ok project) deck own left is = project_owned deck own left is
  own_gives (Err none) deck own left is = tt

  pub own_lacks : (result : Result Project NoProject) (deck : List ℕ) → IsOwnDeck form deck → IsUntouched source →
      IfErr result (IsNoProjectBy (IsFaultAs (sort_of form)) deck) → IfErr result (HasNoProjectFor form source)
  own_lacks (Ok project) deck own left why = tt
  own_lacks (Err (Refused fault)) deck own left why = (why.0, refusal_owned deck own left why.1)
  own_lacks (Err ReadFault) deck own left never = absurd never
  own_lacks (Err OutOfMemory) deck own left why = λ other mine. left
