-- How the answering of lines on a project ends.
use Rattle.std.specs.Prelude.{ℕ, ◌<◌, ◌≤◌, List, length, Result, Ok, Err}
use Rattle.pc_edges.specs.declared.lines.reader.TheConstants.{INPUT_LIMIT}
use Rattle.pc_edges.specs.lines.Lines.{lines_of, whole_lines}
use Rattle.pc_edges.specs.declared.lines.talking.TalkError.{TalkError}
use Rattle.pc_edges.specs.declared.lines.talking.TalkError.TheVariants as talk
use Rattle.pc_project.specs.declared.shell.status.Status.{Status}
use Rattle.pc_project.specs.declared.shell.status.Status.TheVariants.{Done, OutOfMemory, ReadFault, WriteFault, TooLong}
use Rattle.pc_project.specs.shell.Sides.{Side, HadFault, IsReadToEnd, IsUntouched}
use Rattle.pc_whatif.specs.Heard.{HadSteadyFaults, HasAnswered, HasAnsweredSome, first_lines}

-- how it ends
pub data Hearing {C O : Type 0} (answers : List (List ℕ) → List ℕ → Type 0) (edits : Side C) (out : Side O) : Status → Type 0 where
  all : (h : HasAnswered answers edits out lines_of) → IsReadToEnd edits → HadSteadyFaults edits → length h.bytes ≤ INPUT_LIMIT → Hearing answers edits out Done
  passed : (h : HasAnswered answers edits out first_lines) → HadSteadyFaults edits → INPUT_LIMIT < length h.bytes → Hearing answers edits out TooLong
  unread : (h : HasAnswered answers edits out whole_lines) → HadFault edits → length h.bytes ≤ INPUT_LIMIT → Hearing answers edits out ReadFault
  cut : HasAnsweredSome answers edits out → Hearing answers edits out WriteFault
  no_room : IsUntouched edits → IsUntouched out → Hearing answers edits out OutOfMemory

-- the status of a talk that ended so
abbrev pub talk_status : Result (Unit {0}) TalkError → Status
talk_status (Ok done) = Done
talk_status (Err talk.ReadFault) = ReadFault
talk_status (Err talk.WriteFault) = WriteFault
talk_status (Err talk.TooLong) = TooLong
