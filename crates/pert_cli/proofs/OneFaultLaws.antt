-- A deck of either sort is refused with one fault.
use Rattle.std.proofs.Common.{◌≡◌, ◌≢◌, ℕ, List, sym, ◌∙◌, subst, arith}
use Rattle.pc_cards.specs.Cards.{deck_cards}
use Rattle.pc_cards.specs.declared.sort.Sort.{Sort}
use Rattle.pc_cards.specs.declared.sort.Sort.TheVariants.{Plan, Tasks}
use Rattle.pc_deck.specs.Deck.{Deck}
use Rattle.pc_deck.specs.Within.{IsWithin}
use Rattle.pc_deck.proofs.DeckLaws.{not_both_as, one_deck_as}
use Rattle.pc_faults.specs.declared.fault.Fault.{Fault}
use Rattle.pc_project.specs.Refusal.{HasSoundPlan, IsRefusedWith}
use Rattle.pc_project.specs.shell.Verdict as plans
use Rattle.pc_project.specs.shell.Verdict.{IsFault}
use Rattle.pc_tasks.specs.Drawn.{arrows_deck}
use Rattle.pc_tasks.specs.Refusal.{HasSoundTasks, IsTasksRefusedWith}
use Rattle.pert_cli.specs.Tasks as tasks
use Rattle.pert_cli.specs.Tasks.{IsTasksFault}
use Rattle.pert_cli.specs.Verdicts.{IsFaultAs}
use Rattle.pert_cli.proofs.CardOnceLaws.{deck_rises, refusal_once}
use Rattle.pert_cli.proofs.FirstOnceLaws.{AreAlike, alike}
use Rattle.pert_cli.proofs.MisfitOnceLaws.{leaf_once, misfit_once}
use Rattle.pert_cli.proofs.PhaseOnceLaws.{refused_alike}
use Rattle.pert_cli.proofs.RowsOnceLaws.{rows_of_read}
use Rattle.pert_cli.proofs.TasksOnceLaws.{tasks_alike, within_read}

of_plan : (bytes : List ℕ) (f g : Fault) → IsFault bytes f → IsFault bytes g → AreAlike f g
of_plan bytes f g (plans.too_long long is) (plans.too_long more told) = alike f g (is ∙ sym told)
of_plan bytes f g (plans.too_long long is) (plans.card_refusal short refusal) = absurd (omega (arith, long, short))
of_plan bytes f g (plans.too_long long is) (plans.project_refusal deck short read refused) = absurd (omega (arith, long, short))
of_plan bytes f g (plans.card_refusal short refusal) (plans.too_long long is) = absurd (omega (arith, long, short))
of_plan bytes f g (plans.card_refusal short x) (plans.card_refusal few y) = alike f g (refusal_once Plan bytes f g x y)
of_plan bytes f g (plans.card_refusal short x) (plans.project_refusal deck few read refused) = absurd (not_both_as Plan bytes deck f read x)
of_plan bytes f g (plans.project_refusal deck short read refused) (plans.too_long long is) = absurd (omega (arith, long, short))
of_plan bytes f g (plans.project_refusal deck short read refused) (plans.card_refusal few y) = absurd (not_both_as Plan bytes deck g read y)
of_plan bytes f g (plans.project_refusal deck short read x) (plans.project_refusal other few too y) =
    refused_alike deck (rows_of_read Plan bytes deck read) (misfit_once (deck_cards bytes) deck (deck_rises bytes) read.says Plan)
    (leaf_once (deck_cards bytes) deck (deck_rises bytes) read.says) f g x
    (subst (λ (d : Deck). IsRefusedWith d g) (one_deck_as Plan bytes other deck too read) y)

module _ (drawn_sound : (deck : Deck) → IsWithin Tasks deck → HasSoundTasks deck → HasSoundPlan (arrows_deck deck)) where
  of_tasks : (bytes : List ℕ) (f g : Fault) → IsTasksFault bytes f → IsTasksFault bytes g → AreAlike f g
  of_tasks bytes f g (tasks.too_long long is) (tasks.too_long more told) = alike f g (is ∙ sym told)
  of_tasks bytes f g (tasks.too_long long is) (tasks.card_refusal short refusal) = absurd (omega (arith, long, short))
  of_tasks bytes f g (tasks.too_long long is) (tasks.tasks_refusal deck short read refused) = absurd (omega (arith, long, short))
  of_tasks bytes f g (tasks.card_refusal short refusal) (tasks.too_long long is) = absurd (omega (arith, long, short))
  of_tasks bytes f g (tasks.card_refusal short x) (tasks.card_refusal few y) = alike f g (refusal_once Tasks bytes f g x y)
  of_tasks bytes f g (tasks.card_refusal short x) (tasks.tasks_refusal deck few read refused) = absurd (not_both_as Tasks bytes deck f read x)
  of_tasks bytes f g (tasks.tasks_refusal deck short read refused) (tasks.too_long long is) = absurd (omega (arith, long, short))
  of_tasks bytes f g (tasks.tasks_refusal deck short read refused) (tasks.card_refusal few y) = absurd (not_both_as Tasks bytes deck g read y)
  of_tasks bytes f g (tasks.tasks_refusal deck short read x) (tasks.tasks_refusal other few too y) =
      tasks_alike (deck_cards bytes) deck (deck_rises bytes) read.says (drawn_sound deck (within_read Tasks bytes deck read)) f g x
      (subst (λ (d : Deck). IsTasksRefusedWith d g) (one_deck_as Tasks bytes other deck too read) y)

  -- the fault of a deck is one
  pub fault_alike : (sort : Sort) (bytes : List ℕ) (f g : Fault) → IsFaultAs sort bytes f → IsFaultAs sort bytes g → AreAlike f g
  fault_alike Plan bytes f g x y = of_plan bytes f g x y
  fault_alike Tasks bytes f g x y = of_tasks bytes f g x y

  pub one_place : (sort : Sort) (bytes : List ℕ) (f g : Fault) → IsFaultAs sort bytes f → IsFaultAs sort bytes g → (f.row ≡ g.row) × (f.number ≡ g.number)
  one_place sort bytes f g x y = let same = fault_alike sort bytes f g x y in (same.row, same.number)

  pub one_detail : (sort : Sort) (bytes : List ℕ) (f g : Fault) → IsFaultAs sort bytes f → IsFaultAs sort bytes g → f.number ≢ 27 → f.number ≢ 38 → f ≡ g
  one_detail sort bytes f g x y = (fault_alike sort bytes f g x y).all
