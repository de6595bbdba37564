-- The answer to `migrate` is a deck of the same project.
use Rattle.std.proofs.Common.{◌≡◌, ℕ, List, Option, Some, None, refl, ap, ◌∙◌}
use Rattle.std.specs.Prelude.{IfSome, String}
use Rattle.std.specs.declared.alloc.Global.{Global}
use Rattle.pc_deck.specs.Text.{deck_text}
use Rattle.pc_project.specs.deck_text.Written.{IsDeckText, migrated, written}
use Rattle.pc_project.specs.Project.{Project}
use Rattle.pc_project.specs.declared.shell.status.Status.{Status}
use Rattle.pc_project.specs.inside.shell.Status.{exit_code_of}
use Rattle.pc_project.specs.shell.Sides.{Side, OfBytes, Took}
use Rattle.pc_project.specs.shell.Verdict.{IsProjectOf}
use Rattle.pc_project.proofs.lemmas.shell.VerdictLaws.{one_project}
use Rattle.pert_cli.specs.declared.forms.Form.TheVariants.{Migrate}
use Rattle.pert_cli.specs.Migrate.{TookDeckOf, TookSameProject}
use Rattle.pert_cli.specs.inside.Outcome.{Outcome}
use Rattle.pert_cli.specs.Words.{AskFor}
use Rattle.pert_cli.proofs.AnsweredLaws.{answered}
use Rattle.pert_cli.proofs.FormDeckLaws.{read_project}

-- the text of an accepted deck is a deck of the same project
same_project : (project : Project) (text : List ℕ) → IsDeckText project text → IsProjectOf text (migrated project)
same_project project text is = record {
  deck = written project.deck;
  accepted = record { short = is.short; cards = is.cards; makes = is.makes };
  is = is.made;
}

-- an output that took the text took a deck of the project
pub takes_deck : {X : Type 0} (out : Side X) (project : Project) (text : List ℕ) → Took out text → IsDeckText project text → TookDeckOf out project
takes_deck out project text took is = record {
  text = text;
  took = took;
  same = same_project project text is;
  says = is.same;
  again = λ other next of_text is_next.
      is_next.is ∙ ap (λ (p : Project). deck_text p.deck) (one_project text other (migrated project) of_text (same_project project text is)) ∙ is.again;
}

of_deck : {X : Type 0} (left : Option (List ℕ)) (out : Side X) (project : Project) (text : List ℕ) → Took out text → IsDeckText project text
    → IfSome left (λ bytes. IsProjectOf bytes project) → IfSome left (TookSameProject out)
of_deck None out project text took is accepted = tt
of_deck (Some bytes) out project text took is accepted = record { project = project; accepted = accepted; given = takes_deck out project text took is }

module _ {S O E : Type 0} (words : List (String Global)) (source : Side S) (out : Side O) (err : Side E) (answer : ℕ) where
  -- where a run for `migrate` ended with 0, the output took a deck of the same project
  pub takes_same_project : (status : Status) → Outcome words source out err status → answer ≡ exit_code_of status → answer ≡ 0 → AskFor Migrate words → OfBytes source (TookSameProject out)
  takes_same_project status outcome code at_0 asked =
      let given = answered words source out err answer Migrate asked status outcome code at_0 in
      of_deck (source.bytes source.old) out given.1.project given.0 given.2 given.1.reply.right (read_project source Migrate given.1.project refl given.1.deck).is
