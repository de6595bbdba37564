-- What the top calls with one word, the name of a deck, share: how they end before they have the deck's project.
-- Here is what no clause of a top call and no law reaches.
use Rattle.std.specs.Prelude.{ℕ, List, String}
use Rattle.std.specs.declared.alloc.Global.{Global}
use Rattle.pc_deck.specs.Limits.{longest_deck}
use Rattle.pc_project.specs.Project.{Project}
use Rattle.pc_project.specs.declared.shell.status.Status.{Status}
use Rattle.pc_project.specs.declared.shell.status.Status.TheVariants.{Refused, Usage, OutOfMemory, ReadFault, WriteFault}
use Rattle.pc_project.specs.inside.shell.Reading.{HasProject}
use Rattle.pc_project.specs.shell.Sides.{Side, HadFault, IsUntouched, Took, TookAtMost, TookFront}
use Rattle.pc_project.specs.shell.OneWord.{IsOneWord, IsDeckRefused, IsRefusalCut}

-- there is one word, the deck makes this project, and nothing was said
pub record IsProjectNamed {D E : Type 0} (words : List (String Global)) (deck : Side D) (err : Side E) (project : Project) : Type 0 where
  pub asked : IsOneWord words
  pub has : HasProject deck project
  pub quiet : IsUntouched err

-- how a call ends without a project: the deck is refused, or there is not one word, and the error output took the line that says so, or a
-- fault occurred in that; or memory ran out, or the deck could not be read, and nothing was written
pub data EndsWithout {D E : Type 0} (words : List (String Global)) (usage_text : List ℕ) (deck : Side D) (err : Side E) : Status → Type 0 where
  deck_refused : IsDeckRefused words deck err → EndsWithout words usage_text deck err Refused
  not_one_word : (IsOneWord words → ⊥) → Took err usage_text → IsUntouched deck → EndsWithout words usage_text deck err Usage
  no_memory : IsOneWord words → IsUntouched err → EndsWithout words usage_text deck err OutOfMemory
  deck_unread : IsOneWord words → HadFault deck → TookAtMost longest_deck deck → IsUntouched err → EndsWithout words usage_text deck err ReadFault
  refusal_cut : IsRefusalCut words deck err → EndsWithout words usage_text deck err WriteFault
  usage_cut : (IsOneWord words → ⊥) → TookFront err usage_text → IsUntouched deck → EndsWithout words usage_text deck err WriteFault
