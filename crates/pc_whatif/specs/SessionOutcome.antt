-- What a session means and what it leaves, by its status.
use Rattle.std.specs.Prelude.{List, String}
use Rattle.std.specs.declared.alloc.Global.{Global}
use Rattle.pc_deck.specs.Limits.{longest_deck}
use Rattle.pc_project.specs.shell.Sides.{Side, HadFault, IsUntouched, TookAtMost, TookFront}
use Rattle.pc_project.specs.shell.OneWord.{IsOneWord, IsRefusalCut}
use Rattle.pc_whatif.specs.Heard.{session_usage_text, Meaning, IsHeardUnread, IsHeardCut}

-- what could not be read: the deck, and then no more of it was taken than a deck may have, and nothing of the edits; or
-- the edits, and then the complete lines before the fault were answered
pub data IsSessionUnread {D C O : Type 0} (means : Meaning) (deck : Side D) (edits : Side C) (out : Side O) : Type 0 where
  deck_unread : HadFault deck → TookAtMost longest_deck deck → IsUntouched edits → IsUntouched out → IsSessionUnread means deck edits out
  edits_unread : IsHeardUnread means deck edits out → IsSessionUnread means deck edits out

-- where a write fault occurred: in the answers, in the line of a fault, or in the usage line. The other output is
-- unchanged, and the edits are unread if no line was answered
pub data IsSessionCut {D C O E : Type 0} (means : Meaning) (words : List (String Global)) (deck : Side D) (edits : Side C) (out : Side O) (err : Side E) : Type 0 where
  in_answers : IsOneWord words → IsHeardCut means deck edits out → IsUntouched err → IsSessionCut means words deck edits out err
  in_refusal : IsRefusalCut words deck err → IsUntouched edits → IsUntouched out → IsSessionCut means words deck edits out err
  in_usage : (IsOneWord words → ⊥) → TookFront err session_usage_text → IsUntouched deck → IsUntouched edits → IsUntouched out → IsSessionCut means words deck edits out err
