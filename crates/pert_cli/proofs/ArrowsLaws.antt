-- The answer to `arrows` is a deck of the plan that is generated from the tasks.
use Rattle.std.proofs.Common.{◌≡◌, ℕ, List, Option, Some, None, refl}
use Rattle.std.specs.Prelude.{IfSome, String}
use Rattle.std.specs.declared.alloc.Global.{Global}
use Rattle.pc_project.specs.deck_text.Written.{IsDeckText}
use Rattle.pc_project.specs.Project.{Project}
use Rattle.pc_project.specs.declared.shell.status.Status.{Status}
use Rattle.pc_project.specs.inside.shell.Status.{exit_code_of}
use Rattle.pc_project.specs.shell.Sides.{Side, OfBytes, Took}
use Rattle.pert_cli.specs.declared.forms.Form.TheVariants.{Arrows}
use Rattle.pert_cli.specs.Arrows.{TookArrows}
use Rattle.pert_cli.specs.inside.Outcome.{Outcome}
use Rattle.pert_cli.specs.Tasks.{IsDrawnOf}
use Rattle.pert_cli.specs.Words.{AskFor}
use Rattle.pert_cli.proofs.AnsweredLaws.{answered}
use Rattle.pert_cli.proofs.FormDeckLaws.{read_project}
use Rattle.pert_cli.proofs.MigrateLaws.{takes_deck}
use Rattle.pert_cli.proofs.VerdictLaws.{drawn_accepts}

of_deck : {X : Type 0} (left : Option (List ℕ)) (out : Side X) (project : Project) (text : List ℕ) → Took out text → IsDeckText project text
    → IfSome left (λ bytes. IsDrawnOf bytes project) → IfSome left (TookArrows out)
of_deck None out project text took is drawn = tt
of_deck (Some bytes) out project text took is drawn = record {
  tasks = drawn.tasks;
  accepted = drawn_accepts bytes project drawn;
  plan = project;
  is = drawn.drawn.is;
  given = takes_deck out project text took is;
  keeps = record { schedules = drawn.drawn.keeps.schedules; costs = drawn.drawn.keeps.costs };
}

module _ {S O E : Type 0} (words : List (String Global)) (source : Side S) (out : Side O) (err : Side E) (answer : ℕ) where
  -- if a run for `arrows` ended with 0, the output took a deck of the plan that is generated from the source's tasks
  pub takes_arrows : (status : Status) → Outcome words source out err status → answer ≡ exit_code_of status → answer ≡ 0 → AskFor Arrows words → OfBytes source (TookArrows out)
  takes_arrows status outcome code at_0 asked =
      let given = answered words source out err answer Arrows asked status outcome code at_0 in
      of_deck (source.bytes source.old) out given.1.project given.0 given.2 given.1.reply.right (read_project source Arrows given.1.project refl given.1.deck).is
